-- What contracts see of an atom: the bytes of its text.
use Rattle.std.specs.Prelude.{ℕ, ◌<◌, ◌≤◌, List, length, take, IsUtf8}
use Rattle.std.specs.String.{string_bytes}
use Rattle.base_token.specs.Text.Inline.{inline_len}
use Rattle.base_token.specs.declared.text.short_text.Form.{Form}
use Rattle.base_token.specs.declared.text.short_text.Form.TheVariants as form

-- the bytes that are in use, or those of the text behind the pointer
abbrev pub atom_view : Form → List ℕ
atom_view (form.Inline len bytes) = take len bytes
atom_view (form.Heap text) = string_bytes text.value

-- the bytes in use fit and are UTF-8; a text behind a pointer is too long for that
abbrev pub IsAtom : Form → Type 0
IsAtom (form.Inline len bytes) = (len ≤ inline_len) × IsUtf8 (take len bytes)
IsAtom (form.Heap text) = inline_len < length (string_bytes text.value)
