-- A step lowers the bound on the tokens to come.
use Rattle.std.proofs.Common.{◌≡◌, ◌≢◌, ℕ, ◌+◌, ◌*◌, ◌<◌, ◌≤◌, inl, inr, ⊎_elim, Bool, true, false, cond, ◌&&◌, ◌||◌, List, [], ◌∷◌, length, Option, Some, None, refl, sym, ap, subst, ◌∙◌, arith}
use Rattle.std.specs.Prelude.{◌==◌, not, ◌++◌, max, nat_lt, bytes_eq, encode_utf8_all}
use Rattle.std.proofs.Math.Nat.{le-max_left, le-max_right, max-le}
use Rattle.std.proofs.lemmas.Bool.{cases_Bool, false≢true, and_parts, not-true}
use Rattle.std.proofs.lemmas.Bool.Decides.{nat_tests}
use Rattle.std.proofs.lemmas.Option.{same_Some}
use Rattle.base_token.specs.declared.token.TokenKind.{TokenKind}
use Rattle.base_token.specs.Kinds.{div_assign_kind, div_kind, name_kind, template_kind}
use Rattle.base_token.specs.TokenViews.{token_kind_number}
use Rattle.base_token.specs.Tokens.{Spot}
use Rattle.base_token.specs.Words.{kind_among, kind_of, own_words}
use Rattle.lex_pieces.specs.Punctuators.{IsAmong, Spelling, punctuators}
use Rattle.lex_literal.specs.Escapes.{begins}
use Rattle.lex_literal.specs.Numbers.{Meaning, Number, BigInt}
use Rattle.lex_literal.specs.declared.template.Ending.{Ending}
use Rattle.lex_literal.specs.declared.template.Ending.TheVariants.{BackQuote, Substitution}
use Rattle.lex_token.specs.declared.goal.LexicalGoal.{LexicalGoal}
use Rattle.lex_token.specs.declared.goal.LexicalGoal.TheVariants.{Div, RegExp, TemplateTail, TemplateEnd}
use Rattle.lex_token.specs.Lexemes.{SpecLexeme, IsCharacters, IsLexeme, ending_kind, numeral_lexeme}
use Rattle.lex_token.specs.Sorts.{is_slash}
use Rattle.lex_step_laws.specs.States.{Last, Start, Slash, Characters, Fault, Other, State, again, again_by, goal_of, is_start, last_after, place, shebang, template_goal}
use Rattle.lex_step_laws.specs.Steps.{IsFirst, IsGoing, IsOutside as IsOut, IsPlain, IsRead, IsStep, IsStepBy, IsStepOf}
use Rattle.lex_source.specs.declared.contexts.TokenContext.{TokenContext}
use Rattle.lex_source.specs.declared.contexts.TokenContext.TheVariants as t
use Rattle.lex_step_laws.specs.Bounds.{Falls, bound, bound_by}
use Rattle.lex_step_laws.proofs.Tokens.{token_no_longer, token_shorter}
use Rattle.lex_step_laws.proofs.Trivia.{follow_no_longer, hashbang_shorter}

-- ---- no token is a slash under the goal RegExp

abbrev pub slashes : ℕ → Bool
slashes kind = kind == div_kind || kind == div_assign_kind

-- each kind is past this
all_past : ℕ → List (ℕ × List ℕ) → Bool
all_past n [] = true
all_past n (x ∷ xs) = nat_lt n x.0 && all_past n xs

past_by : (n : ℕ) (xs : List (ℕ × List ℕ)) (text : List ℕ) → n < name_kind → all_past n xs ≡ true → n < kind_among xs text
unfolding all_past
past_by n [] text h e = h
past_by n (x ∷ xs) text h e =
    let p = and_parts (nat_lt n x.0) (all_past n xs) e in
    let first : n < x.0 = let q = p.0 in grind (arith, nat_tests) in
    ⊎_elim
    (λ (t : bytes_eq x.1 text ≡ true). rw t first)
    (λ (f : bytes_eq x.1 text ≡ false). rw f (past_by n xs text h p.1))
    (cases_Bool (bytes_eq x.1 text))

words_past : all_past 79 own_words ≡ true
unfolding all_past
words_past = refl

pub word_past : (text : List ℕ) → 79 < kind_of text
unfolding kind_of
word_past text = past_by 79 own_words text (omega arith) words_past

no_slash_past : (kind : ℕ) → 79 < kind → slashes kind ≡ false
no_slash_past kind h = grind (arith, nat_tests)

-- each punctuator that is a slash begins with one
slash_or_none : Spelling → Bool
slash_or_none x = begins is_slash x.0 || not (slashes (token_kind_number x.1))

all_slash : List Spelling → Bool
all_slash [] = true
all_slash (x ∷ xs) = slash_or_none x && all_slash xs

among_slash : (xs : List Spelling) (s : List ℕ) (k : TokenKind) → all_slash xs ≡ true → IsAmong xs s k → slash_or_none (s, k) ≡ true
unfolding all_slash slash_or_none
among_slash [] s k e h = absurd h
among_slash (x ∷ xs) s k e (inl h) =
    let p = (and_parts (slash_or_none x) (all_slash xs) e).0 in
    subst (λ (j : TokenKind). slash_or_none (s, j) ≡ true) h.1 (subst (λ (t : List ℕ). slash_or_none (t, x.1) ≡ true) h.0 p)
among_slash (x ∷ xs) s k e (inr h) = among_slash xs s k (and_parts (slash_or_none x) (all_slash xs) e).1 h

marks_slash : all_slash punctuators ≡ true
unfolding all_slash slash_or_none
marks_slash = refl

begins_more : (s rest : List ℕ) → begins is_slash s ≡ true → begins is_slash (s ++ rest) ≡ true
begins_more [] rest e = absurd (false≢true e)
begins_more (c ∷ cs) rest e = e

mark_no_slash : (text s rest : List ℕ) (k : TokenKind) → IsAmong punctuators s k → text ≡ s ++ rest → begins is_slash text ≡ false → slashes (token_kind_number k) ≡ false
unfolding slash_or_none
mark_no_slash text s rest k h e n = ⊎_elim
    (λ (t : begins is_slash s ≡ true). absurd (false≢true (sym n ∙ ap (begins is_slash) e ∙ begins_more s rest t)))
    (λ (f : begins is_slash s ≡ false).
    not-true (slashes (token_kind_number k)) (sym (ap (λ b. b || not (slashes (token_kind_number k))) f) ∙ among_slash punctuators s k marks_slash h))
    (cases_Bool (begins is_slash s))

number_no_slash : (m : Meaning) (own : List ℕ) → slashes (numeral_lexeme m own).token.kind ≡ false
number_no_slash (Number v) own = refl
number_no_slash (BigInt radix digits) own = refl

-- a regular expression, or what stands where none does, is no slash
pub no_slash : (text : List ℕ) (x : SpecLexeme) (rest : List ℕ) → IsLexeme RegExp text x rest → slashes x.token.kind ≡ false
no_slash text x rest (inl (inl h)) = ap (λ (l : SpecLexeme). slashes l.token.kind) h.4 ∙ no_slash_past (kind_of (encode_utf8_all h.0)) (word_past (encode_utf8_all h.0))
no_slash text x rest (inl (inr (inl h))) = ap (λ (l : SpecLexeme). slashes l.token.kind) h.3 ∙ number_no_slash h.0 h.1
no_slash text x rest (inl (inr (inr h))) = ap (λ (l : SpecLexeme). slashes l.token.kind) h.5
no_slash text x rest (inr (inl h)) = ap (λ (l : SpecLexeme). slashes l.token.kind) h.1.3
no_slash text x rest (inr (inr h)) =
    ap (λ (l : SpecLexeme). slashes l.token.kind) h.1.2 ∙ mark_no_slash text h.1.1.1.0 rest h.1.0 h.1.1.1.1 h.1.1.1.2 h.0

-- ---- what a token leaves

-- behind any token, one that takes a character
after_any : (kind : ℕ) (from : List ℕ) (n : ℕ) → n < length from → bound_by (last_after kind from) n ≤ 4 * length from + 1
after_any kind from n h = ⊎_elim
    (λ (t : (kind == template_kind) ≡ true). rw t (omega (arith, h)))
    (λ (f : (kind == template_kind) ≡ false). ⊎_elim
    (λ (t : slashes kind ≡ true). rw f (rw t (let k : 4 * n + 3 ≤ 4 * length from + 1 = omega (arith, h) in max-le k (omega arith))))
    (λ (g : slashes kind ≡ false). rw f (rw g (omega (arith, h))))
    (cases_Bool (slashes kind)))
    (cases_Bool (kind == template_kind))

-- behind one that is no slash
after_other : (kind : ℕ) (from : List ℕ) (n : ℕ) → slashes kind ≡ false → bound_by (last_after kind from) n ≤ 4 * n + 3
after_other kind from n g = ⊎_elim
    (λ (t : (kind == template_kind) ≡ true). rw t (omega arith))
    (λ (f : (kind == template_kind) ≡ false). rw f (rw g (omega arith)))
    (cases_Bool (kind == template_kind))

pub characters_kind : (text : List ℕ) (x : SpecLexeme) (rest : List ℕ) → IsCharacters text x rest → x.token.kind ≡ template_kind
characters_kind text x rest h = ap (λ (l : SpecLexeme). l.token.kind) h.6

after_characters : (kind : ℕ) (from : List ℕ) (n : ℕ) → kind ≡ template_kind → bound_by (last_after kind from) n ≡ 4 * n + 2
after_characters kind from n e = rw e refl

ending_no_slash : (ending : Ending) → slashes (ending_kind ending) ≡ false
ending_no_slash BackQuote = refl
ending_no_slash Substitution = refl

-- ---- before a step

-- At least this many may come where characters are left and nothing went wrong.
least : (last : Last) (n : ℕ) → last ≢ Fault → 4 * n + 1 < bound_by last n
least Start n h = omega arith
least (Slash from) n h = let k = le-max_left (4 * n + 3) (4 * length from + 1) in omega (arith, k)
least Characters n h = omega arith
least Fault n h = absurd (h refl)
least Other n h = omega arith

fewer : (last : Last) (n : ℕ) → bound_by last 0 ≤ bound_by last n
fewer Start n = omega arith
fewer (Slash from) n =
    let k = le-max_left (4 * n + 3) (4 * length from + 1) in
    let l = le-max_right (4 * n + 3) (4 * length from + 1) in
    let m : 3 ≤ max (4 * n + 3) (4 * length from + 1) = omega (arith, k) in
    max-le m l
fewer Characters n = omega arith
fewer Fault n = omega arith
fewer Other n = omega arith

-- ---- reading

read_falls : (goal : LexicalGoal) (line_break : Bool) (from : List ℕ) (s new : State) (out : Option Spot)
    → ((x : SpecLexeme) (rest : List ℕ) → IsLexeme goal from x rest → bound_by (last_after x.token.kind from) (length rest) < bound s.tokens)
    → 0 < bound s.tokens → IsRead goal line_break from s out new → Falls out (bound s.tokens) (bound new.tokens)
read_falls goal line_break from s new out f some (inl h) =
    let k = f h.0 h.1 h.2 in
    subst (λ o. Falls o (bound s.tokens) (bound new.tokens)) (sym h.3) (subst (λ (n : State). bound n.tokens < bound s.tokens) (sym h.4) k)
read_falls goal line_break from s new out f some (inr (inl h)) =
    subst (λ o. Falls o (bound s.tokens) (bound new.tokens)) (sym h.2) (subst (λ (n : State). bound n.tokens < bound s.tokens) (sym h.3) some)
read_falls goal line_break from s new out f some (inr (inr h)) =
    subst (λ o. Falls o (bound s.tokens) (bound new.tokens)) (sym h.1)
    (subst (λ (n : State). bound n.tokens ≤ bound s.tokens) (sym h.2) (fewer s.tokens.last (length s.tokens.left)))

plain_falls : (s new : State) (out : Option Spot) → s.tokens.last ≢ Fault → IsPlain s out new → Falls out (bound s.tokens) (bound new.tokens)
plain_falls s new out n (inl h) =
    let l = least s.tokens.last (length s.tokens.left) n in
    let t = follow_no_longer (goal_of s.settings.ctx) (is_start s.tokens.last) s.tokens.left h.2.0 h.1 h.2.1.0 in
    read_falls Div h.0 h.1 s new out
    (λ x rest g.
    let k = after_any x.token.kind h.1 (length rest) (token_shorter Div h.1 x rest (λ e. cc) g) in omega (arith, k, l, t))
    (omega (arith, l)) h.3
plain_falls s new out n (inr h) =
    let l = least s.tokens.last (length s.tokens.left) n in
    let some : 0 < bound s.tokens = omega (arith, l) in
    subst (λ o. Falls o (bound s.tokens) (bound new.tokens)) (sym h.2) (subst (λ (m : State). bound m.tokens < bound s.tokens) (sym h.3) some)

first_falls : (s new : State) (out : Option Spot) → s.tokens.last ≢ Fault → IsFirst s out new → Falls out (bound s.tokens) (bound new.tokens)
first_falls s new out n (inl h) =
    let l = least s.tokens.last (length s.tokens.left) n in
    let k = after_any (shebang h.0).token.kind s.tokens.left (length h.1) (hashbang_shorter s.tokens.left h.0 h.1 h.2) in
    let less : bound_by (last_after (shebang h.0).token.kind s.tokens.left) (length h.1) < bound s.tokens = omega (arith, k, l) in
    subst (λ o. Falls o (bound s.tokens) (bound new.tokens)) (sym h.3) (subst (λ (m : State). bound m.tokens < bound s.tokens) (sym h.4) less)
first_falls s new out n (inr h) = plain_falls s new out n h.1

outside_falls : (last : Last) (s new : State) (out : Option Spot) → s.tokens.last ≢ Fault → IsOut last s out new → Falls out (bound s.tokens) (bound new.tokens)
outside_falls Start s new out n h = first_falls s new out n h
outside_falls (Slash from) s new out n h = plain_falls s new out n h
outside_falls Characters s new out n h = plain_falls s new out n h
outside_falls Fault s new out n h = plain_falls s new out n h
outside_falls Other s new out n h = plain_falls s new out n h

-- ---- inside a template

-- At least three more than four a character may come where a template's characters may.
room : (last : Last) (n : ℕ) → last ≢ Fault → last ≢ Characters → 4 * n + 2 < bound_by last n
room Start n h g = omega arith
room (Slash from) n h g = let k = le-max_left (4 * n + 3) (4 * length from + 1) in omega (arith, k)
room Characters n h g = absurd (g refl)
room Fault n h g = absurd (h refl)
room Other n h g = omega arith

tail_falls : (s new : State) (out : Option Spot) → s.tokens.last ≢ Fault → s.tokens.last ≢ Characters → IsRead TemplateTail false s.tokens.left s out new → Falls out (bound s.tokens) (bound new.tokens)
tail_falls s new out n m h =
    let l = room s.tokens.last (length s.tokens.left) n m in
    read_falls TemplateTail false s.tokens.left s new out
    (λ x rest g.
    let k = after_characters x.token.kind s.tokens.left (length rest) (characters_kind s.tokens.left x rest g) in
    let t = token_no_longer TemplateTail s.tokens.left x rest g in omega (arith, k, l, t))
    (omega (arith, l)) h

other_falls : (goal : LexicalGoal) (s new : State) (out : Option Spot) → goal ≢ TemplateTail → s.tokens.last ≢ Fault → IsRead goal false s.tokens.left s out new → Falls out (bound s.tokens) (bound new.tokens)
other_falls goal s new out m n h =
    let l = least s.tokens.last (length s.tokens.left) n in
    read_falls goal false s.tokens.left s new out
    (λ x rest g.
    let k = after_any x.token.kind s.tokens.left (length rest) (token_shorter goal s.tokens.left x rest m g) in omega (arith, k, l))
    (omega (arith, l)) h

no_tail : (cs : List TokenContext) → template_goal cs Characters ≡ Some TemplateTail → ⊥
no_tail [] d = cc
no_tail (t.BraceStmt ∷ cs) d = cc
no_tail (t.BraceExpr ∷ cs) d = cc
no_tail (t.TplQuasi ∷ cs) d = cc
no_tail (t.ParenStmt is_for_loop ∷ cs) d = cc
no_tail (t.ParenExpr ∷ cs) d = cc
no_tail (t.Tpl ∷ cs) d = let k : Some TemplateEnd ≡ Some TemplateTail = d in cc
no_tail (t.FnExpr ∷ cs) d = cc
no_tail (t.ClassExpr ∷ cs) d = cc

-- ---- a step

going_by : (goal : Option LexicalGoal) (s new : State) (out : Option Spot) → s.tokens.last ≢ Fault → template_goal s.settings.contexts s.tokens.last ≡ goal → IsGoing goal s out new
    → Falls out (bound s.tokens) (bound new.tokens)
going_by None s new out n e h = outside_falls s.tokens.last s new out n h
going_by (Some TemplateTail) s new out n e h = tail_falls s new out n (λ c. no_tail s.settings.contexts (sym (ap (template_goal s.settings.contexts) c) ∙ e)) h
going_by (Some TemplateEnd) s new out n e h = other_falls TemplateEnd s new out (λ k. cc) n h
going_by (Some Div) s new out n e h = other_falls Div s new out (λ k. cc) n h
going_by (Some RegExp) s new out n e h = other_falls RegExp s new out (λ k. cc) n h

again_falls : (from : List ℕ) (s new : State) (out : Option Spot) → s.tokens.last ≡ Slash from → IsRead RegExp s.tokens.line_break from s out new
    → Falls out (bound s.tokens) (bound new.tokens)
again_falls from s new out e h =
    let here : bound s.tokens ≡ max (4 * length s.tokens.left + 3) (4 * length from + 1) = ap (λ l. bound_by l (length s.tokens.left)) e in
    let l = le-max_right (4 * length s.tokens.left + 3) (4 * length from + 1) in
    let k = le-max_left (4 * length s.tokens.left + 3) (4 * length from + 1) in
    read_falls RegExp s.tokens.line_break from s new out
    (λ x rest g.
    let a = after_other x.token.kind from (length rest) (no_slash from x rest g) in
    let t = token_shorter RegExp from x rest (λ e. cc) g in omega (arith, a, t, l, here))
    (omega (arith, k, here)) h

none_some : {A B : Type 0} {x : A} → None ≡ Some x → B
none_some e = cc

again_is : (last : Last) (at : Option ℕ) (end : ℕ) (from : List ℕ) → again_by last at end ≡ Some from → last ≡ Slash from
again_is (Slash other) (Some p) end from e = ⊎_elim
    (λ (t : (p == place end other) ≡ true). ap (λ (l : List ℕ). Slash l) (same_Some _ _ (sym (ap (λ b. cond b (Some other) None) t) ∙ e)))
    (λ (f : (p == place end other) ≡ false). none_some (sym (ap (λ b. cond b (Some other) None) f) ∙ e))
    (cases_Bool (p == place end other))
again_is (Slash other) None end from e = none_some e
again_is Start at end from e = none_some e
again_is Characters at end from e = none_some e
again_is Fault at end from e = none_some e
again_is Other at end from e = none_some e

by_falls : (o : Option (List ℕ)) (s new : State) (out : Option Spot) → s.tokens.last ≢ Fault → again s ≡ o → IsStepBy o s out new → Falls out (bound s.tokens) (bound new.tokens)
by_falls (Some from) s new out n e h = again_falls from s new out (again_is s.tokens.last s.settings.next_regexp s.tokens.end from e) h
by_falls None s new out n e h = going_by (template_goal s.settings.contexts s.tokens.last) s new out n refl h

of_falls : (last : Last) (s new : State) (out : Option Spot) → s.tokens.last ≡ last → IsStepOf last s out new → Falls out (bound s.tokens) (bound new.tokens)
of_falls Start s new out e h = by_falls (again s) s new out (λ f. let k : Start ≡ Fault = sym e ∙ f in cc) refl h
of_falls (Slash from) s new out e h = by_falls (again s) s new out (λ f. let k : Slash from ≡ Fault = sym e ∙ f in cc) refl h
of_falls Characters s new out e h = by_falls (again s) s new out (λ f. let k : Characters ≡ Fault = sym e ∙ f in cc) refl h
of_falls Fault s new out e h =
    subst (λ o. Falls o (bound s.tokens) (bound new.tokens)) (sym h.0) (subst (λ (n : State). bound n.tokens ≤ bound s.tokens) (sym h.1) (omega arith))
of_falls Other s new out e h = by_falls (again s) s new out (λ f. let k : Other ≡ Fault = sym e ∙ f in cc) refl h

pub bound_falls : (s new : State) (out : Option Spot) → IsStep s out new → Falls out (bound s.tokens) (bound new.tokens)
bound_falls s new out h = of_falls s.tokens.last s new out refl h.is
