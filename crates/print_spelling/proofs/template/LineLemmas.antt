-- Line ends of raw texts as LF.
use Rattle.std.proofs.Common.{◌≡◌, ℕ, ⊎_elim, Bool, true, false, List, [], ◌∷◌, ◌++◌, refl, sym, ap, subst, ◌∙◌}
use Rattle.std.specs.Prelude.{if◌then◌else◌, ◌==◌, not}
use Rattle.std.proofs.lemmas.Bool.{cases_Bool, eqb-true, false≢true, not-true}
use Rattle.lex_pieces.specs.Runs.{Each}
use Rattle.lex_literal.specs.Escapes.{begins, is_line_feed}
use Rattle.lex_literal.specs.Templates.{line_feeds}

abbrev pub is_other : ℕ → Bool
is_other c = not (c == 13)

pub fed_other : (c : ℕ) (cs : List ℕ) → is_other c ≡ true → line_feeds (c ∷ cs) ≡ c ∷ line_feeds cs
fed_other c cs e = ap (λ b. if b then (if begins is_line_feed cs then line_feeds cs else 10 ∷ line_feeds cs) else c ∷ line_feeds cs) (not-true (c == 13) e)

pub fed_run : (xs cs : List ℕ) → Each is_other xs → line_feeds (xs ++ cs) ≡ xs ++ line_feeds cs
fed_run [] cs h = refl
fed_run (x ∷ xs) cs h = fed_other x (xs ++ cs) h.0 ∙ ap (λ (l : List ℕ). x ∷ l) (fed_run xs cs h.1)

pub fed_return : (cs : List ℕ) → begins is_line_feed cs ≡ false → line_feeds (13 ∷ cs) ≡ 10 ∷ line_feeds cs
fed_return cs e = ap (λ b. if b then line_feeds cs else 10 ∷ line_feeds cs) e

pub begins_front : (q : ℕ → Bool) (cs m : List ℕ) → begins q (cs ++ m) ≡ false → begins q cs ≡ false
begins_front q [] m e = refl
begins_front q (c ∷ cs) m e = e

line_first : (q : ℕ → Bool) → q 10 ≡ false → (cs a : List ℕ) → begins is_line_feed cs ≡ true → begins q (line_feeds cs ++ a) ≡ false
line_first q z [] a e = absurd (false≢true e)
line_first q z (d ∷ ds) a e =
    subst (λ x. begins q (line_feeds (x ∷ ds) ++ a) ≡ false) (sym (eqb-true d 10 e)) z

pub begins_fed : (q : ℕ → Bool) → q 10 ≡ false → (cs m a : List ℕ) → begins q a ≡ false → begins q (cs ++ m) ≡ false → begins q (line_feeds cs ++ a) ≡ false
begins_fed q z [] m a h e = h
begins_fed q z (c ∷ cs) m a h e = ⊎_elim
    (λ (r : (c == 13) ≡ true). ⊎_elim
    (λ (l : begins is_line_feed cs ≡ true).
    subst (λ x. begins q (line_feeds (x ∷ cs) ++ a) ≡ false) (sym (eqb-true c 13 r))
    (ap (λ b. begins q ((if b then line_feeds cs else 10 ∷ line_feeds cs) ++ a)) l ∙ line_first q z cs a l))
    (λ (l : begins is_line_feed cs ≡ false).
    subst (λ x. begins q (line_feeds (x ∷ cs) ++ a) ≡ false) (sym (eqb-true c 13 r))
    (ap (λ b. begins q ((if b then line_feeds cs else 10 ∷ line_feeds cs) ++ a)) l ∙ z))
    (cases_Bool (begins is_line_feed cs)))
    (λ (r : (c == 13) ≡ false). ap (λ (l : List ℕ). begins q (l ++ a)) (fed_other c cs (ap not r)) ∙ e)
    (cases_Bool (c == 13))
