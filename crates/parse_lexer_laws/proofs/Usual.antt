-- Tokens that match are usual.
use Rattle.std.proofs.Common.{◌≡◌, ℕ, true, false, List, [], ◌∷◌, refl, sym, ap, ◌∙◌}
use Rattle.std.specs.Prelude.{nat_le}
use Rattle.std.proofs.lemmas.Bool.{false≢true, eqb-true}
use Rattle.grammar_spec.specs.Tokens.Input.{PlacedToken, usual, regexp_goal, template_goal, template_end_goal}
use Rattle.grammar_laws.specs.Slash.TemplateLaws.{Region, Outside, Inside, Behind, Nowhere, after, fits, over}
use Rattle.grammar_laws.proofs.slash.Fits.{fits_on, usual_there, sound_on}
use Rattle.parse_lexer_laws.specs.Tiled.{AreUsual, MatchedUsual, DerivedUsual}
use Rattle.parse_lexer_laws.proofs.Hands.{matched}

-- among the characters of templates no goal is one of the first two
high : (goal g : ℕ) → nat_le goal regexp_goal ≡ false → g ≡ goal → nat_le g regexp_goal ≡ true → ⊥
high goal g n e h = false≢true (sym n ∙ (ap (λ (z : ℕ). nat_le z regexp_goal) (sym e) ∙ h))

usual_on : (g : Region) (k goal : ℕ) → fits g k goal ≡ true → nat_le goal regexp_goal ≡ true → usual k goal ≡ true
usual_on (Outside s) k goal f h = usual_there s k goal f
usual_on (Inside s) k goal f h = absurd (high template_goal goal refl (eqb-true goal template_goal f) h)
usual_on (Behind s) k goal f h = absurd (high template_end_goal goal refl (eqb-true goal template_end_goal f) h)
usual_on Nowhere k goal f h = absurd (false≢true f)

are_usual : (g : Region) (ps : List PlacedToken) → over g ps ≡ Outside [] → AreUsual ps
are_usual g [] o = tt
are_usual g (p ∷ ps) o = let m = fits_on g p ps o in (sound_on g p ps o, usual_on g p.spot.token.kind p.goal m.0, are_usual (after g p.spot.token.kind) ps m.1)

pub matched_usual : MatchedUsual
matched_usual ps o = are_usual (Outside []) ps o

pub derived_usual : DerivedUsual
derived_usual modules syntax t ps r d = matched_usual ps (matched modules syntax t ps r d.0 d.1)
