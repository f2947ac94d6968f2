-- What the text written of a leaf has to keep, so that the tree tells the same: what its literal's raw text tells beside its value.
use Rattle.std.specs.Prelude.{◌≡◌, ℕ, Bool, true, false, not, ◌&&◌, ◌||◌, if◌then◌else◌, List, [], Option, Some, None, codes, bytes_eq}
use Rattle.std.specs.Str.{chars}
use Rattle.base_number.specs.Numbers.{SpecNumber}
use Rattle.base_token.specs.declared.place.Span.{Span}
use Rattle.tree_spec.specs.Tree.{Tree, Trees, none, more, str_lit, number_lit, ident_name, tpl, tpl_element}
use Rattle.tree_program_spec.specs.Program.{is_escaped}
use Rattle.grammar_spec.specs.Judge.Early.{has_octal, legacy_string, legacy_number}
use Rattle.print_spelling.specs.declared.style.Style.{Style}
use Rattle.print_spelling.specs.String.Names.{is_quoted_key}
use Rattle.print_spelling.specs.Number.Numbers.{before_member}
use Rattle.print_layout_spec.specs.declared.look.Look.{Look}
use Rattle.print_layout_spec.specs.Literals.{key_bytes, string_bytes, number_bytes}
use Rattle.again_laws.specs.Derived.Redo.{Mode, is_pointed}

-- `use strict` in quotes without an escape (11.2.1)
abbrev pub is_strict_text : Option (List ℕ) → Bool
is_strict_text None = false
is_strict_text (Some raw) = bytes_eq raw (codes "\"use strict\"") || bytes_eq raw (codes "'use strict'")

-- A string keeps whether it is `use strict` as a directive, and gets no escape of B.1.2.
pub record FaithfulString (style : Style) (units : List ℕ) (raw : Option (List ℕ)) : Type 0 where
  pub strict : is_strict_text (Some (string_bytes style units raw)) ≡ is_strict_text raw
  pub plain : (bytes_eq units (codes "use strict") && not (is_escaped (Some (string_bytes style units raw)))) ≡ (bytes_eq units (codes "use strict") && not (is_escaped raw))
  pub modern : (q r : Span) → legacy_string raw r ≡ [] → legacy_string (Some (string_bytes style units raw)) q ≡ []

-- A number is of no old form (B.1.1) where it was of none.
abbrev pub FaithfulNumber : Style → Bool → SpecNumber → Option (List ℕ) → Type 0
FaithfulNumber style before value raw = (q r : Span) → legacy_number raw r ≡ [] → legacy_number (Some (if before then before_member (number_bytes style value raw) else number_bytes style value raw)) q ≡ []

-- A word that is written as a string has no escape of B.1.2.
abbrev pub FaithfulKey : Style → List ℕ → Type 0
FaithfulKey style sym = is_quoted_key style (chars sym) ≡ true → has_octal (key_bytes style sym) ≡ false

-- The pieces of a template are pieces.
abbrev pub AreElements : Trees → Type 0
AreElements none = Unit {0}
AreElements (more (tpl_element span tail raw cooked) ts) = AreElements ts
AreElements (more _ ts) = ⊥

abbrev pub HasElements : Mode → Tree → Type 0
HasElements mode (tpl span exprs quasis) = AreElements quasis
HasElements mode _ = Unit {0}

abbrev pub Faithful : Look → Mode → Tree → Type 0
Faithful look mode (str_lit span units raw) = FaithfulString look.style units raw
Faithful look mode (number_lit span value raw) = FaithfulNumber look.style (is_pointed mode) value raw
Faithful look mode (ident_name span sym) = FaithfulKey look.style sym
Faithful look mode (tpl span exprs quasis) = AreElements quasis
Faithful look mode _ = Unit {0}
