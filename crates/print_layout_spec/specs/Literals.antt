-- The texts of literals and names.
use Rattle.std.specs.Prelude.{ℕ, Bool, false, ◌&&◌, if◌then◌else◌, List, [], Option, Some, None, codes, bytes_eq, encode_utf8_all, option_map}
use Rattle.std.specs.List.{list_any}
use Rattle.std.specs.Str.{chars}
use Rattle.base_number.specs.Numbers.{SpecNumber}
use Rattle.base_token.specs.declared.place.Span.{Span}
use Rattle.print_spelling.specs.declared.style.Style.{Style}
use Rattle.print_spelling.specs.String.Strings.{string_text, is_backslash}
use Rattle.print_spelling.specs.String.Names.{name_text, key_text}
use Rattle.print_spelling.specs.Number.Numbers.{minified, formatted, before_member, big_text, separated}
use Rattle.print_spelling.specs.Template.Templates.{template_text}
use Rattle.print_layout_spec.specs.declared.look.Look.{Look}
use Rattle.print_layout_spec.specs.Looks.{Laid, named, ◌·◌, text, commit, when, start, end}

-- a name, and a word as a key
abbrev pub name_bytes : Style → List ℕ → List ℕ
name_bytes style sym = encode_utf8_all (name_text style (chars sym) [])

abbrev pub key_bytes : Style → List ℕ → List ℕ
key_bytes style sym = encode_utf8_all (key_text style (chars sym) [])

abbrev pub string_bytes : Style → List ℕ → Option (List ℕ) → List ℕ
string_bytes style units raw = encode_utf8_all (string_text style units (option_map chars raw))

abbrev pub number_bytes : Style → SpecNumber → Option (List ℕ) → List ℕ
number_bytes style value raw = if style.minify then minified value else formatted style value raw

-- a big integer: as it was read when formatting
abbrev pub big_bytes : Style → ℕ → List ℕ → Option (List ℕ) → List ℕ
big_bytes style radix digits None = big_text radix digits
big_bytes style radix digits (Some raw) = if style.minify then big_text radix digits else separated style raw

-- `use strict` with an escape, which is no directive
abbrev pub is_escaped_directive : List ℕ → Option (List ℕ) → Bool
is_escaped_directive units None = false
is_escaped_directive units (Some raw) = bytes_eq units (codes "use strict") && list_any is_backslash raw

-- ---- each as it is laid out

abbrev pub name : Look → Span → List ℕ → Laid
name look span sym = commit · start span · text (name_bytes look.style sym)

-- a name of a variable, a label or a specifier
abbrev pub identifier : Look → Span → List ℕ → Laid
identifier look span sym = named span.lo (name_bytes look.style sym)

abbrev pub key_word : Look → Span → List ℕ → Laid
key_word look span sym = commit · start span · text (key_bytes look.style sym)

abbrev pub hash_name : Look → Span → List ℕ → Laid
hash_name look span sym = start span · text (codes "#") · name look span sym · end span

abbrev pub string : Look → Span → List ℕ → Option (List ℕ) → Laid
string look span units raw =
    commit · start span · text (string_bytes look.style units raw) · when (is_escaped_directive units raw) (end span)

abbrev pub number : Look → Span → SpecNumber → Option (List ℕ) → Laid
number look span value raw = commit · start span · text (number_bytes look.style value raw)

-- a number before a point, which takes a point of its own where it would take that one
abbrev pub number_before_point : Look → Span → SpecNumber → Option (List ℕ) → Laid
number_before_point look span value raw = commit · start span · text (before_member (number_bytes look.style value raw))

abbrev pub big_integer : Look → Span → ℕ → List ℕ → Option (List ℕ) → Laid
big_integer look span radix digits raw = commit · start span · text (big_bytes look.style radix digits raw) · end span

-- the characters of a template: as they were read behind a tag
abbrev pub quasi_bytes : Style → Bool → List ℕ → List ℕ
quasi_bytes style tagged raw = if tagged then raw else encode_utf8_all (template_text style (chars raw) [])
