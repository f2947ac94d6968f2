-- What contracts see of the units of a string or of a piece of a template.
use Rattle.std.specs.Prelude.{ℕ, List}
use Rattle.std.specs.Str.{chars}
use Rattle.base_token.specs.Utf16.{utf16}
use Rattle.base_token.specs.declared.literal.Form.{Form}
use Rattle.base_token.specs.declared.literal.Form.TheVariants as form

-- those of a text, or those of a list
abbrev pub units_view : Form → List ℕ
units_view (form.Plain text) = utf16 (chars text.now)
units_view (form.Own units) = units.items
