-- Whether a regular expression or a punctuator stands at a front.
use Rattle.std.proofs.Common.{◌≡◌, ℕ, ◌<◌, inl, inr, ⊎_elim, Bool, true, false, cond, ◌&&◌, List, [], ◌∷◌, ◌++◌, length, length-append, refl, sym, ap, ◌∙◌, arith}
use Rattle.std.specs.Prelude.{◌==◌, not, Option, Some, None as Nothing}
use Rattle.std.proofs.lemmas.Bool.{cases_Bool, false≢true, eqb-true, and_parts}
use Rattle.std.proofs.lemmas.Option.{same_Some}
use Rattle.base_token.specs.declared.token.TokenKind.{TokenKind}
use Rattle.base_token.specs.Tokens.{bare}
use Rattle.base_token.specs.TokenViews.{token_kind_number}
use Rattle.lex_pieces.specs.Characters.{is_name_part}
use Rattle.lex_pieces.specs.Classes.{is_line_char}
use Rattle.lex_pieces.specs.Punctuators.{IsAmong, Spelling, punctuators, read_punctuator}
use Rattle.lex_pieces.specs.RegExps.{IsRegExp, class_after, past_body, past_slash}
use Rattle.lex_pieces.specs.Runs.{after, run}
use Rattle.lex_pieces.proofs.Longest.{is_read, reads}
use Rattle.lex_pieces.proofs.RegExpLemmas.{is_body, is_slash, no_reg_exp, only_slash}
use Rattle.lex_pieces.proofs.TriviaLemmas.{run_is}
use Rattle.lex_token.specs.Lexemes.{SpecLexeme, IsMark, IsPattern, pattern_lexeme, plain}
use Rattle.lex_step_laws.proofs.Deciding.{None, Decided}

-- ---- punctuators

none_some : {A B : Type 0} {x : A} → Nothing ≡ Some x → B
none_some e = cc

mark_by : (text : List ℕ) (o : Option (TokenKind × List ℕ)) → read_punctuator text ≡ o → Decided IsMark text
mark_by text Nothing e = inr (λ x rest h. none_some (sym e ∙ reads text h.0 rest h.1))
mark_by text (Some k) e = inl (plain (bare (token_kind_number k.0)), k.1, (k.0, is_read text k.0 k.1 e, refl))

pub mark_or_not : (text : List ℕ) → Decided IsMark text
mark_or_not text = mark_by text (read_punctuator text) refl

-- ---- regular expressions

-- what stands before the slash that ends a body
cut_by : (c : ℕ) (cs after : List ℕ) → ((body : List ℕ) × (cs ≡ body ++ 47 ∷ after)) → (body : List ℕ) × (c ∷ cs ≡ body ++ 47 ∷ after)
cut_by c cs after h = (c ∷ h.0, ap (λ (l : List ℕ). c ∷ l) h.1)

body_cut : (esc k : Bool) (text after : List ℕ) → past_body esc k text ≡ Some after → (body : List ℕ) × (text ≡ body ++ 47 ∷ after)
body_cut true k [] after h = none_some h
body_cut true k (c ∷ cs) after h = ⊎_elim
    (λ (e : is_line_char c ≡ true). cut_by c cs after (body_cut false k cs after (sym (ap (λ b. cond b (past_body false k cs) Nothing) e) ∙ h)))
    (λ (e : is_line_char c ≡ false). none_some (sym (ap (λ b. cond b (past_body false k cs) Nothing) e) ∙ h))
    (cases_Bool (is_line_char c))
body_cut false k [] after h = none_some h
body_cut false k (c ∷ cs) after h =
    let last = cond (c == 47 && not k) (Some cs) (past_body false (class_after k c) cs) in
    let more = cond (c == 92) (past_body true k cs) last in
    ⊎_elim
    (λ (line : is_line_char c ≡ true).
    let h1 : more ≡ Some after = sym (ap (λ b. cond b more Nothing) line) ∙ h in ⊎_elim
    (λ (back : (c == 92) ≡ true). cut_by c cs after (body_cut true k cs after (sym (ap (λ b. cond b (past_body true k cs) last) back) ∙ h1)))
    (λ (back : (c == 92) ≡ false).
    let h2 : last ≡ Some after = sym (ap (λ b. cond b (past_body true k cs) last) back) ∙ h1 in ⊎_elim
    (λ (slash : (c == 47 && not k) ≡ true).
    let same = same_Some cs after (sym (ap (λ b. cond b (Some cs) (past_body false (class_after k c) cs)) slash) ∙ h2) in
    ([], ap (λ (d : ℕ). d ∷ cs) (eqb-true c 47 (and_parts (c == 47) (not k) slash).0) ∙ ap (λ (l : List ℕ). 47 ∷ l) same))
    (λ (slash : (c == 47 && not k) ≡ false).
    cut_by c cs after (body_cut false (class_after k c) cs after (sym (ap (λ b. cond b (Some cs) (past_body false (class_after k c) cs)) slash) ∙ h2)))
    (cases_Bool (c == 47 && not k)))
    (cases_Bool (c == 92)))
    (λ (line : is_line_char c ≡ false). none_some (sym (ap (λ b. cond b more Nothing) line) ∙ h))
    (cases_Bool (is_line_char c))

none_pattern : (text : List ℕ) → ((body flags rest : List ℕ) → IsRegExp text body flags rest → ⊥) → None IsPattern text
none_pattern text n x rest h = n h.0 h.1 rest h.2

body_by : (text inner : List ℕ) → past_slash text ≡ Some inner → (o : Option (List ℕ)) → past_body false false inner ≡ o → Decided IsPattern text
body_by text inner e Nothing h = inr (none_pattern text (no_reg_exp text inner (is_slash text inner e).0 h))
body_by text inner e (Some behind) h =
    let s = is_slash text inner e in
    let cut = body_cut false false inner behind h in
    let flags = run is_name_part behind in
    inl (
      pattern_lexeme cut.0 flags,
      after is_name_part behind,
      (
        cut.0,
        flags,
        (is_body inner cut.0 behind s.1 h cut.1, (behind, s.0 ∙ ap (λ (l : List ℕ). 47 ∷ l) cut.1, run_is is_name_part behind flags (after is_name_part behind) refl refl)),
        refl,
      ),
    )

slash_by : (text : List ℕ) (o : Option (List ℕ)) → past_slash text ≡ o → Decided IsPattern text
slash_by text Nothing e = inr (none_pattern text (only_slash text e).0)
slash_by text (Some inner) e = body_by text inner e (past_body false false inner) refl

pub pattern_or_not : (text : List ℕ) → Decided IsPattern text
pattern_or_not text = slash_by text (past_slash text) refl

-- ---- both take characters

all_some : List Spelling → Bool
all_some [] = true
all_some (([], k) ∷ xs) = false
all_some ((c ∷ cs, k) ∷ xs) = all_some xs

among_some : (xs : List Spelling) (s : List ℕ) (k : TokenKind) → all_some xs ≡ true → IsAmong xs s k → 0 < length s
unfolding all_some
among_some [] s k e h = absurd h
among_some (([], j) ∷ xs) s k e h = absurd (false≢true e)
among_some ((c ∷ cs, j) ∷ xs) s k e (inl h) = let l = ap length h.0 in omega (arith, l)
among_some ((c ∷ cs, j) ∷ xs) s k e (inr h) = among_some xs s k e h

marks_some : all_some punctuators ≡ true
unfolding all_some
marks_some = refl

pub mark_shorter : (text : List ℕ) (x : SpecLexeme) (rest : List ℕ) → IsMark text x rest → length rest < length text
mark_shorter text x rest h =
    let s = h.1.1.0 in
    let e = ap length h.1.1.2 in
    let k = among_some punctuators s h.0 marks_some h.1.1.1 in
    omega (arith, e, k, length-append s rest)

pub pattern_shorter : (text : List ℕ) (x : SpecLexeme) (rest : List ℕ) → IsPattern text x rest → length rest < length text
pattern_shorter text x rest h =
    let g = h.2.1 in
    let e = ap length g.1 in
    let f = ap length g.2.0 in
    omega (arith, e, f, length-append h.0 (47 ∷ g.0), length-append h.1 rest)
