-- Characters that belong to no word and no number.
use Rattle.std.proofs.Common.{◌≡◌, ℕ, ⊎_elim, true, false, not, List, [], ◌∷◌, refl, ap, ◌∙◌}
use Rattle.std.specs.Prelude.{◌==◌}
use Rattle.std.specs.List.{list_all}
use Rattle.std.proofs.lemmas.Bool.{and_parts, eqb-true, false≢true, not-true, or_cases}
use Rattle.unicode_ident.proofs.Computing.{unicode_ident}
use Rattle.lex_pieces.specs.Characters.{is_among}
use Rattle.again_laws.specs.Tiling.Following.{is_wordy}

-- SP, LF and CR, and the characters of punctuators, quotes and operators
abbrev pub others : List ℕ
others = 10 ∷ 13 ∷ 32 ∷ 33 ∷ 34 ∷ 35 ∷ 37 ∷ 38 ∷ 39 ∷ 40 ∷ 41 ∷ 42 ∷ 43 ∷ 44 ∷ 45 ∷ 46 ∷ 47 ∷ 58 ∷ 59 ∷ 60 ∷ 61 ∷ 62 ∷ 63 ∷ 64 ∷ 91 ∷ 93 ∷ 94 ∷ 96 ∷ 123 ∷ 124 ∷ 125 ∷ 126 ∷ []

others_wordless : list_all (λ c. not (is_wordy c)) others ≡ true
unfolding unicode_ident
others_wordless = refl

among_wordless : (ns : List ℕ) (c : ℕ) → list_all (λ n. not (is_wordy n)) ns ≡ true → is_among ns c ≡ true → is_wordy c ≡ false
among_wordless [] c e h = absurd (false≢true h)
among_wordless (n ∷ ns) c e h =
    let p = and_parts (not (is_wordy n)) _ e in ⊎_elim
    (λ (t : (c == n) ≡ true). ap is_wordy (eqb-true c n t) ∙ not-true (is_wordy n) p.0)
    (λ (t : is_among ns c ≡ true). among_wordless ns c p.1 t)
    (or_cases (c == n) (is_among ns c) h)

pub wordless : (c : ℕ) → is_among others c ≡ true → is_wordy c ≡ false
wordless c h = among_wordless others c others_wordless h
