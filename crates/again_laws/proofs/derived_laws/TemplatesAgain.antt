-- The characters of templates that are written again.
use Rattle.std.proofs.Common.{◌≡◌, ℕ, Bool, true, false, List, [], refl, ap, ◌∙◌, chars, IsUtf8, encode_utf8_all, Some}
use Rattle.std.proofs.lemmas.Bool.{false≢true}
use Rattle.std.proofs.lemmas.Str.{chars-encodes, scalars-chars}
use Rattle.base_token.specs.declared.version.EsVersion.{EsVersion}
use Rattle.lex_literal.specs.Templates.{SpellsPiece}
use Rattle.lex_literal.specs.declared.template.Ending.{Ending}
use Rattle.print_spelling.specs.Template.Templates.{template_text}
use Rattle.print_spelling.proofs.template.AgainLemmas.{template_again, written_again}
use Rattle.print_layout_spec.specs.Literals.{quasi_bytes}
use Rattle.again_laws.proofs.leaf.Pieces.{template_scalars}
use Rattle.again_laws.proofs.derived_laws.TextsAgain.{at}
use Rattle.again_laws.proofs.leaf.Literals.{code_points_of}

-- The raw text of a piece of an untagged template, as it was read.
pub record Cooked (raw : List ℕ) : Type 0 where
  pub units : List ℕ
  pub ending : Ending
  pub before : List ℕ
  pub behind : List ℕ
  pub spells : SpellsPiece raw (Some units) ending before behind

module _ (t : EsVersion) (i : Bool) where
  pub quasis_again : (m n : Bool) → (m ≡ true → n ≡ true) → (tagged : Bool) (w : List ℕ) → IsUtf8 w → (tagged ≡ false → Cooked (chars w))
      → quasi_bytes (at t i n) tagged (quasi_bytes (at t i m) tagged w) ≡ quasi_bytes (at t i n) tagged w
  quasis_again m n o true w h k = refl
  quasis_again true false o false w h k = absurd (false≢true (o refl))
  quasis_again false n o false w h k =
      ap (λ x. encode_utf8_all (template_text (at t i n) x [])) (chars-encodes (template_text (at t i false) (chars w) []) (template_scalars (at t i false) (chars w) (scalars-chars w h)))
      ∙ ap (λ x. encode_utf8_all x) (template_again (at t i false) (at t i n) (chars w) [] refl)
  quasis_again true true o false w h k =
      let x = k refl in
      ap (λ x. encode_utf8_all (template_text (at t i true) x [])) (chars-encodes (template_text (at t i true) (chars w) []) (template_scalars (at t i true) (chars w) (scalars-chars w h)))
      ∙ ap (λ x. encode_utf8_all x) (written_again (at t i true) (chars w) x.units x.before x.behind [] x.ending x.spells (code_points_of (chars w) (scalars-chars w h)))
