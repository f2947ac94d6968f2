-- Which classes of characters have no character in common.
use Rattle.std.proofs.Common.{◌≡◌, ℕ, Bool, true, false, List, [], ◌∷◌, refl, ap, ◌∙◌, ⊎_elim}
use Rattle.std.specs.Prelude.{◌==◌, not}
use Rattle.std.specs.List.{list_all}
use Rattle.std.proofs.lemmas.Bool.{eqb-true, and_parts, or_cases, not-true, both_ways}
use Rattle.lex_pieces.specs.Characters.{is_among, is_white_space, is_line_terminator, line_terminators}

-- what passes at each of a list passes at each character among them
pub among_passes : (p : ℕ → Bool) (xs : List ℕ) (c : ℕ) → list_all p xs ≡ true → is_among xs c ≡ true → p c ≡ true
among_passes p [] c all e = absurd (both_ways false refl e)
among_passes p (x ∷ xs) c all e =
    let parts = and_parts (p x) (list_all p xs) all in
    ⊎_elim
    (λ (same : (c == x) ≡ true). ap p (eqb-true c x same) ∙ parts.0)
    (λ (later : is_among xs c ≡ true). among_passes p xs c parts.1 later)
    (or_cases (c == x) (is_among xs c) e)

pub terminator_no_space : (c : ℕ) → is_line_terminator c ≡ true → is_white_space c ≡ false
terminator_no_space c h = not-true (is_white_space c) (among_passes (λ x. not (is_white_space x)) line_terminators c refl h)
