-- Steps in which no slash is read again hand out two tokens a byte at most.
use Rattle.std.proofs.Common.{◌≡◌, ◌≢◌, ℕ, ◌+◌, ◌*◌, ◌<◌, ◌≤◌, inl, inr, Bool, false, List, [], ◌∷◌, length, Option, Some, None, refl, sym, ap, subst, ◌∙◌, arith}
use Rattle.std.proofs.lemmas.Str.{length-le-encodes}
use Rattle.base_token.specs.Kinds.{template_kind}
use Rattle.base_token.specs.Tokens.{Spot}
use Rattle.lex_source.specs.declared.contexts.TokenContext.{TokenContext}
use Rattle.lex_source.specs.declared.contexts.TokenContext.TheVariants as t
use Rattle.lex_source.specs.Machine.{SameContexts, told_of}
use Rattle.lex_pieces.specs.Places.{bytes}
use Rattle.lex_token.specs.declared.goal.LexicalGoal.{LexicalGoal}
use Rattle.lex_token.specs.declared.goal.LexicalGoal.TheVariants.{Div, RegExp, TemplateTail, TemplateEnd}
use Rattle.lex_token.specs.Lexemes.{SpecLexeme, IsLexeme}
use Rattle.lex_step_laws.specs.States.{Last, Start, Slash, Characters, Fault, Other, State, again, behind, contexts_after, goal_of, is_start, last_after, shebang, template_goal}
use Rattle.lex_step_laws.specs.Steps.{Ends, IsFirst, IsGoing, IsOutside, IsPlain, IsRead, IsStep}
use Rattle.lex_step_laws.proofs.Tokens.{token_no_longer, token_shorter}
use Rattle.lex_step_laws.proofs.Trivia.{follow_no_longer, hashbang_shorter, wrong_some}
use Rattle.lex_run_laws.specs.Room.{room, room_by, room_under}
use Rattle.lex_run_laws.specs.StepLists.{IsAtStart, AreSteps}
use Rattle.lex_step_laws.proofs.Going.{Goes, goes, no_again, none_some}
use Rattle.lex_step_laws.proofs.Bounds.{characters_kind}

-- ---- how much room there is

most_under : (goal : Option LexicalGoal) (n : ℕ) → room_under goal n ≤ 2 * n + 1
most_under None n = omega arith
most_under (Some Div) n = omega arith
most_under (Some RegExp) n = omega arith
most_under (Some TemplateTail) n = omega arith
most_under (Some TemplateEnd) n = omega arith

least_under : (goal : Option LexicalGoal) (n : ℕ) → 2 * n ≤ room_under goal n
least_under None n = omega arith
least_under (Some Div) n = omega arith
least_under (Some RegExp) n = omega arith
least_under (Some TemplateTail) n = omega arith
least_under (Some TemplateEnd) n = omega arith

most : (last : Last) (goal : Option LexicalGoal) (n : ℕ) → room_by last goal n ≤ 2 * n + 1
most Start goal n = most_under goal n
most (Slash from) goal n = most_under goal n
most Characters goal n = most_under goal n
most Fault goal n = omega arith
most Other goal n = most_under goal n

least : (last : Last) (goal : Option LexicalGoal) (n : ℕ) → last ≢ Fault → 2 * n ≤ room_by last goal n
least Start goal n h = least_under goal n
least (Slash from) goal n h = least_under goal n
least Characters goal n h = least_under goal n
least Fault goal n h = absurd (h refl)
least Other goal n h = least_under goal n

least_here : (s : State) → s.tokens.last ≢ Fault → 2 * length s.tokens.left ≤ room s
least_here s n = least s.tokens.last (template_goal s.settings.contexts s.tokens.last) (length s.tokens.left) n

-- ---- a token that takes a character

shorter_room : (line_break : Bool) (from : List ℕ) (s : State) (x : SpecLexeme) (rest : List ℕ) → s.tokens.last ≢ Fault
    → length from ≤ length s.tokens.left → length rest < length from → room (behind s line_break from x rest) < room s
shorter_room line_break from s x rest n l k =
    let last = last_after x.token.kind from in
    let a : room (behind s line_break from x rest) ≤ 2 * length rest + 1 = most last (template_goal (contexts_after x.token.kind s.settings.contexts) last) (length rest) in
    let b = least_here s n in
    omega (arith, a, b, k, l)

some_left : (from : List ℕ) → (from ≡ [] → ⊥) → 0 < length from
some_left [] h = absurd (h refl)
some_left (c ∷ cs) h = omega arith

-- ---- reading

read_room : (goal : LexicalGoal) (line_break : Bool) (from : List ℕ) (s new : State) (spot : Spot)
    → ((x : SpecLexeme) (rest : List ℕ) → IsLexeme goal from x rest → room (behind s line_break from x rest) < room s)
    → ((Ends goal from → ⊥) → 0 < room s) → IsRead goal line_break from s (Some spot) new → room new < room s
read_room goal line_break from s new spot f some (inl h) = subst (λ (m : State). room m < room s) (sym h.4) (f h.0 h.1 h.2)
read_room goal line_break from s new spot f some (inr (inl h)) = subst (λ (m : State). room m < room s) (sym h.3) (some h.1)
read_room goal line_break from s new spot f some (inr (inr h)) = none_some (sym h.1)

other_room : (goal : LexicalGoal) (line_break : Bool) (from : List ℕ) (s new : State) (spot : Spot) → goal ≢ TemplateTail → s.tokens.last ≢ Fault
    → length from ≤ length s.tokens.left → IsRead goal line_break from s (Some spot) new → room new < room s
other_room goal line_break from s new spot m n l h = read_room goal line_break from s new spot
    (λ x rest g. shorter_room line_break from s x rest n l (token_shorter goal from x rest m g))
    (λ e. let a = some_left from (λ nil. e (m, nil)) in let b = least_here s n in omega (arith, a, b, l))
    h

plain_room : (s new : State) (spot : Spot) → s.tokens.last ≢ Fault → IsPlain s (Some spot) new → room new < room s
plain_room s new spot n (inl h) =
    other_room Div h.0 h.1 s new spot (λ e. cc) n (follow_no_longer (goal_of s.settings.ctx) (is_start s.tokens.last) s.tokens.left h.2.0 h.1 h.2.1.0) h.3
plain_room s new spot n (inr h) =
    let a = wrong_some _ _ h.0 h.1.2 in
    let l = follow_no_longer (goal_of s.settings.ctx) (is_start s.tokens.last) s.tokens.left h.1.0 h.0 h.1.1 in
    let b = least_here s n in
    let some : 0 < room s = omega (arith, a, b, l) in
    subst (λ (m : State). room m < room s) (sym h.3) some

first_room : (s new : State) (spot : Spot) → s.tokens.last ≢ Fault → IsFirst s (Some spot) new → room new < room s
first_room s new spot n (inl h) =
    subst (λ (m : State). room m < room s) (sym h.4)
    (shorter_room false s.tokens.left s (shebang h.0) h.1 n (omega arith) (hashbang_shorter s.tokens.left h.0 h.1 h.2))
first_room s new spot n (inr h) = plain_room s new spot n h.1

outside_room : (last : Last) (s new : State) (spot : Spot) → s.tokens.last ≢ Fault → IsOutside last s (Some spot) new → room new < room s
outside_room Start s new spot n h = first_room s new spot n h
outside_room (Slash from) s new spot n h = plain_room s new spot n h
outside_room Characters s new spot n h = plain_room s new spot n h
outside_room Fault s new spot n h = plain_room s new spot n h
outside_room Other s new spot n h = plain_room s new spot n h

-- ---- the characters of a template

tail_here : (last : Last) (n : ℕ) → last ≢ Fault → room_by last (Some TemplateTail) n ≡ 2 * n + 1
tail_here Start n h = refl
tail_here (Slash from) n h = refl
tail_here Characters n h = refl
tail_here Fault n h = absurd (h refl)
tail_here Other n h = refl

behind_characters : (cs : List TokenContext) (n : ℕ) → room_under (template_goal cs Characters) n ≡ 2 * n
behind_characters [] n = refl
behind_characters (t.BraceStmt ∷ cs) n = refl
behind_characters (t.BraceExpr ∷ cs) n = refl
behind_characters (t.TplQuasi ∷ cs) n = refl
behind_characters (t.ParenStmt is_for_loop ∷ cs) n = refl
behind_characters (t.ParenExpr ∷ cs) n = refl
behind_characters (t.Tpl ∷ cs) n = refl
behind_characters (t.FnExpr ∷ cs) n = refl
behind_characters (t.ClassExpr ∷ cs) n = refl

after_tail : (kind : ℕ) (from : List ℕ) (cs : List TokenContext) (n : ℕ) → kind ≡ template_kind
    → room_by (last_after kind from) (template_goal (contexts_after kind cs) (last_after kind from)) n ≡ 2 * n
after_tail kind from cs n e = rw e (behind_characters cs n)

tail_room : (s new : State) (spot : Spot) → s.tokens.last ≢ Fault → template_goal s.settings.contexts s.tokens.last ≡ Some TemplateTail
    → IsRead TemplateTail false s.tokens.left s (Some spot) new → room new < room s
tail_room s new spot n e h =
    let here : room s ≡ 2 * length s.tokens.left + 1 = ap (λ (g : Option LexicalGoal). room_by s.tokens.last g (length s.tokens.left)) e ∙ tail_here s.tokens.last (length s.tokens.left) n in
    read_room TemplateTail false s.tokens.left s new spot
    (λ x rest g.
    let a : room (behind s false s.tokens.left x rest) ≡ 2 * length rest = after_tail x.token.kind s.tokens.left s.settings.contexts (length rest) (characters_kind s.tokens.left x rest g) in
    let l = token_no_longer TemplateTail s.tokens.left x rest g in
    omega (arith, a, l, here))
    (λ e. omega (arith, here)) h

-- ---- a step

going_room : (goal : Option LexicalGoal) (s new : State) (spot : Spot) → s.tokens.last ≢ Fault → template_goal s.settings.contexts s.tokens.last ≡ goal
    → IsGoing goal s (Some spot) new → room new < room s
going_room None s new spot n e h = outside_room s.tokens.last s new spot n h
going_room (Some TemplateTail) s new spot n e h = tail_room s new spot n e h
going_room (Some TemplateEnd) s new spot n e h = other_room TemplateEnd false s.tokens.left s new spot (λ k. cc) n (omega arith) h
going_room (Some Div) s new spot n e h = other_room Div false s.tokens.left s new spot (λ k. cc) n (omega arith) h
going_room (Some RegExp) s new spot n e h = other_room RegExp false s.tokens.left s new spot (λ k. cc) n (omega arith) h

step_by : (s new : State) (spot : Spot) → Goes s (Some spot) new → room new < room s
step_by s new spot (inl k) = none_some (sym k.1)
step_by s new spot (inr k) = going_room (template_goal s.settings.contexts s.tokens.last) s new spot k.0 refl k.1

step_room : (s new : State) (spot : Spot) → again s ≡ None → IsStep s (Some spot) new → room new < room s
step_room s new spot n h = step_by s new spot (goes s new (Some spot) n h)

-- ---- lists of steps

run_room : (spots : List Spot) (s new : State) → s.settings.next_regexp ≡ None → AreSteps SameContexts s spots new → length spots ≤ room s
run_room [] s new r h = omega arith
run_room (spot ∷ spots) s new r h =
    let k = step_room s h.0 spot (no_again s r) h.2 in
    let l = run_room spots (told_of h.1 h.0) new h.3.next_regexp h.4 in
    let m : room (told_of h.1 h.0) ≡ room h.0 = ap (λ (cs : List TokenContext). room_by h.0.tokens.last (template_goal cs h.0.tokens.last) (length h.0.tokens.left)) h.3.contexts in
    omega (arith, k, l, m)

pub two_tokens_a_byte : (s new : State) (spots : List Spot) → IsAtStart s → s.settings.contexts ≡ [] → AreSteps SameContexts s spots new
    → length spots ≤ 2 * bytes s.tokens.left
two_tokens_a_byte s new spots start none runs =
    let k = run_room spots s new start.next_regexp runs in
    let n = length s.tokens.left in
    let from_start : room s ≡ room_by Start (template_goal s.settings.contexts Start) n = ap (λ (l : Last). room_by l (template_goal s.settings.contexts l) n) start.last in
    let without : room_by Start (template_goal s.settings.contexts Start) n ≡ 2 * n = ap (λ (cs : List TokenContext). room_by Start (template_goal cs Start) n) none in
    let b : n ≤ bytes s.tokens.left = length-le-encodes s.tokens.left in
    omega (arith, k, from_start, without, b)
