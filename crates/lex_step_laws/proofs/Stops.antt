-- How many tokens may come tells how many characters are left.
use Rattle.std.proofs.Common.{◌≡◌, ℕ, ◌+◌, ◌-◌, ◌*◌, ◌/◌, ◌%◌, ◌<◌, inl, inr, ⊎_elim, Bool, true, false, List, length, Option, Some, None, refl, sym, ap, subst, ◌∙◌, arith}
use Rattle.std.specs.Prelude.{◌==◌, if◌then◌else◌, max}
use Rattle.std.proofs.Math.Nat.{eq-zero-or-pos, max-eq_right}
use Rattle.std.proofs.lemmas.Bool.{cases_Bool, false≢true}
use Rattle.std.proofs.lemmas.Nat.{div-mul-add, mod-mul-add}
use Rattle.base_token.specs.Kinds.{template_kind}
use Rattle.base_token.specs.Tokens.{Spot}
use Rattle.lex_token.specs.declared.goal.LexicalGoal.{LexicalGoal}
use Rattle.lex_token.specs.declared.goal.LexicalGoal.TheVariants.{Div, RegExp, TemplateTail, TemplateEnd}
use Rattle.lex_token.specs.Lexemes.{SpecLexeme, IsLexeme}
use Rattle.lex_step_laws.specs.States.{Last, Start, Slash, Characters, Fault, Other, State, again, behind, faulty, last_after, place, shebang, spot_at, stopped, template_goal}
use Rattle.lex_step_laws.specs.Steps.{IsGoing, IsOutside, IsPlain, IsRead, IsStep, IsStepBy, IsStepOf}
use Rattle.lex_step_laws.specs.Bounds.{bound, bound_by, characters_left, stands_by, unread, unread_by}
use Rattle.lex_step_laws.proofs.Tokens.{token_shorter}
use Rattle.lex_step_laws.proofs.Trivia.{hashbang_shorter}
use Rattle.lex_step_laws.proofs.Bounds.{characters_kind, slashes}

-- ---- four for each character, and what is left

left_of : (k m a n b : ℕ) → k ≡ m * 4 + a → a < 4 → (a == 1) ≡ false → k - 1 ≡ n * 4 + b → b < 4 → characters_left k ≡ n
left_of k m a n b e l f d g =
    let r : k % 4 ≡ a = ap (λ x. x % 4) e ∙ mod-mul-add m 4 a l in
    let q : (k - 1) / 4 ≡ n = ap (λ x. x / 4) d ∙ div-mul-add n 4 b g in
    ap (λ x. if x == 1 then 0 else (k - 1) / 4) r ∙ (ap (λ x. if x then 0 else (k - 1) / 4) f ∙ q)

plain_left : (n : ℕ) → characters_left (1 + (4 * n + 3)) ≡ n
plain_left n = left_of (1 + (4 * n + 3)) (n + 1) 0 n 3 (omega arith) (omega arith) refl (omega arith) (omega arith)

template_left : (n : ℕ) → characters_left (1 + (4 * n + 2)) ≡ n
template_left n = left_of (1 + (4 * n + 2)) n 3 n 2 (omega arith) (omega arith) refl (omega arith) (omega arith)

slash_left : (n l : ℕ) → n < l → characters_left (1 + max (4 * n + 3) (4 * l + 1)) ≡ l
slash_left n l h =
    let m : max (4 * n + 3) (4 * l + 1) ≡ 4 * l + 1 = max-eq_right (omega (arith, h)) in
    ap (λ x. characters_left (1 + x)) m ∙ left_of (1 + (4 * l + 1)) l 2 l 1 (omega arith) (omega arith) refl (omega arith) (omega arith)

none_by : (l : ℕ) → characters_left (4 * l + 1) ≡ 0
none_by l =
    let r : (4 * l + 1) % 4 ≡ 1 = ap (λ x. x % 4) (let e : 4 * l + 1 ≡ l * 4 + 1 = omega arith in e) ∙ mod-mul-add l 4 1 (omega arith) in
    ap (λ x. if x == 1 then 0 else (4 * l + 1 - 1) / 4) r

-- ---- behind a token

count_by : (kind : ℕ) (from rest : List ℕ) → (slashes kind ≡ true → length rest < length from)
    → characters_left (1 + bound_by (last_after kind from) (length rest)) ≡ length (unread_by (last_after kind from) rest)
count_by kind from rest h = ⊎_elim
    (λ (t : (kind == template_kind) ≡ true). rw t (template_left (length rest)))
    (λ (f : (kind == template_kind) ≡ false). ⊎_elim
    (λ (t : slashes kind ≡ true). rw f (rw t (slash_left (length rest) (length from) (h t))))
    (λ (g : slashes kind ≡ false). rw f (rw g (plain_left (length rest))))
    (cases_Bool (slashes kind)))
    (cases_Bool (kind == template_kind))

place_by : (kind : ℕ) (from rest : List ℕ) (end : ℕ) (spot : Spot) → spot.lo ≡ place end from → spot.hi ≡ place end rest
    → place end (unread_by (last_after kind from) rest) ≡ stands_by (last_after kind from) spot
place_by kind from rest end spot l h = ⊎_elim
    (λ (t : (kind == template_kind) ≡ true). rw t (sym h))
    (λ (f : (kind == template_kind) ≡ false). ⊎_elim
    (λ (t : slashes kind ≡ true). rw f (rw t (sym l)))
    (λ (g : slashes kind ≡ false). rw f (rw g (sym h)))
    (cases_Bool (slashes kind)))
    (cases_Bool (kind == template_kind))

-- what the law says of a state with a token at hand
abbrev Told : State → Option Spot → Type 0
Told new None = characters_left (bound new.tokens) ≡ 0
Told new (Some spot) = (characters_left (1 + bound new.tokens) ≡ length (unread new.tokens)) × (place new.tokens.end (unread new.tokens) ≡ stands_by new.tokens.last spot)

told_by : {s new : State} {out o : Option Spot} → out ≡ o → new ≡ s → Told s o → Told new out
told_by {s} {new} {out} {o} e f h = subst (λ x. Told new x) (sym e) (subst (λ (x : State). Told x o) (sym f) h)

behind_told : (s : State) (line_break : Bool) (from : List ℕ) (x : SpecLexeme) (rest : List ℕ) → (slashes x.token.kind ≡ true → length rest < length from)
    → Told (behind s line_break from x rest) (Some (spot_at s.tokens.end line_break x.token from rest))
behind_told s line_break from x rest h =
    (count_by x.token.kind from rest h, place_by x.token.kind from rest s.tokens.end (spot_at s.tokens.end line_break x.token from rest) refl refl)

stopped_told : (s : State) (line_break : Bool) (from : List ℕ) → Told (stopped s line_break) (Some (faulty s.tokens.end line_break from))
stopped_told s line_break from = (refl, refl)

-- ---- at the end

end_told : (last : Last) → characters_left (bound_by last 0) ≡ 0
end_told Start = refl
end_told (Slash from) = ⊎_elim
    (λ (e : length from ≡ 0). ap (λ x. characters_left (max 3 (4 * x + 1))) e)
    (λ (h : 0 < length from). let m : max 3 (4 * length from + 1) ≡ 4 * length from + 1 = max-eq_right (omega (arith, h)) in ap characters_left m ∙ none_by (length from))
    (eq-zero-or-pos (length from))
end_told Characters = refl
end_told Fault = refl
end_told Other = refl

-- ---- a step

shorter : (goal : LexicalGoal) (from : List ℕ) (x : SpecLexeme) (rest : List ℕ) → IsLexeme goal from x rest → slashes x.token.kind ≡ true → length rest < length from
shorter Div from x rest h e = token_shorter Div from x rest (λ d. cc) h
shorter RegExp from x rest h e = token_shorter RegExp from x rest (λ d. cc) h
shorter TemplateTail from x rest h e = absurd (false≢true (sym (ap slashes (characters_kind from x rest h)) ∙ e))
shorter TemplateEnd from x rest h e = token_shorter TemplateEnd from x rest (λ d. cc) h

read_told : (goal : LexicalGoal) (line_break : Bool) (from : List ℕ) (s new : State) (out : Option Spot) → IsRead goal line_break from s out new → Told new out
read_told goal line_break from s new out (inl h) = told_by h.3 h.4 (behind_told s line_break from h.0 h.1 (shorter goal from h.0 h.1 h.2))
read_told goal line_break from s new out (inr (inl h)) = told_by h.2 h.3 (stopped_told s line_break from)
read_told goal line_break from s new out (inr (inr h)) = told_by h.1 h.2 (end_told s.tokens.last)

plain_told : (s new : State) (out : Option Spot) → IsPlain s out new → Told new out
plain_told s new out (inl h) = read_told Div h.0 h.1 s new out h.3
plain_told s new out (inr h) = told_by h.2 h.3 (stopped_told s false h.0)

outside_told : (last : Last) (s new : State) (out : Option Spot) → IsOutside last s out new → Told new out
outside_told Start s new out (inl h) = told_by h.3 h.4 (behind_told s false s.tokens.left (shebang h.0) h.1 (λ e. hashbang_shorter s.tokens.left h.0 h.1 h.2))
outside_told Start s new out (inr h) = plain_told s new out h.1
outside_told (Slash from) s new out h = plain_told s new out h
outside_told Characters s new out h = plain_told s new out h
outside_told Fault s new out h = plain_told s new out h
outside_told Other s new out h = plain_told s new out h

going_told : (goal : Option LexicalGoal) (s new : State) (out : Option Spot) → IsGoing goal s out new → Told new out
going_told (Some goal) s new out h = read_told goal false s.tokens.left s new out h
going_told None s new out h = outside_told s.tokens.last s new out h

by_told : (o : Option (List ℕ)) (s new : State) (out : Option Spot) → IsStepBy o s out new → Told new out
by_told (Some from) s new out h = read_told RegExp s.tokens.line_break from s new out h
by_told None s new out h = going_told (template_goal s.settings.contexts s.tokens.last) s new out h

of_told : (last : Last) (s new : State) (out : Option Spot) → s.tokens.last ≡ last → IsStepOf last s out new → Told new out
of_told Start s new out e h = by_told (again s) s new out h
of_told (Slash from) s new out e h = by_told (again s) s new out h
of_told Characters s new out e h = by_told (again s) s new out h
of_told Fault s new out e h = told_by h.0 h.1 (ap (λ l. characters_left (bound_by l (length s.tokens.left))) e)
of_told Other s new out e h = by_told (again s) s new out h

pub tells_tokens : (s new : State) (spot : Spot) → IsStep s (Some spot) new
    → (characters_left (1 + bound new.tokens) ≡ length (unread new.tokens)) × (place new.tokens.end (unread new.tokens) ≡ stands_by new.tokens.last spot)
tells_tokens s new spot h = of_told s.tokens.last s new (Some spot) refl h.is

pub tells_ends : (s new : State) → IsStep s None new → characters_left (bound new.tokens) ≡ 0
tells_ends s new h = of_told s.tokens.last s new None refl h.is
