-- Trees whose texts are UTF-8: what is asked of a tree that was made by hand.
use Rattle.std.specs.Prelude.{ℕ, List, Option, Some, None}
use Rattle.std.specs.Str.{IsUtf8, IsAscii}
use Rattle.base_number.specs.Numbers.{number_digits}
use Rattle.tree_spec.specs.Tree.{Tree, script, es_module, ident, ident_name, private_name, str_lit, number_lit, big_int_lit, regex_lit, tpl_element}
use Rattle.print_spelling.specs.String.CodePoints.{AreUnits}
use Rattle.again_laws.specs.Derived.Redo.{Mode, Plain}
use Rattle.again_laws.specs.Derived.Every.{every}

-- what may be left out
abbrev pub IsUtf8If : Option (List ℕ) → Type 0
IsUtf8If None = Unit {0}
IsUtf8If (Some own) = IsUtf8 own

-- What a node itself holds of text is UTF-8, wherever it stands (own): a name, a raw text, the digits of a big integer, the characters of a
-- template, the line of a hashbang. A string holds units of UTF-16, and a number digits of ASCII.
abbrev pub HasText : Mode → Tree → Type 0
HasText mode (script span body shebang) = IsUtf8If shebang
HasText mode (es_module span body shebang) = IsUtf8If shebang
HasText mode (ident span name) = IsUtf8 name
HasText mode (ident_name span name) = IsUtf8 name
HasText mode (private_name span name) = IsUtf8 name
HasText mode (str_lit span units raw) = AreUnits units × IsUtf8If raw
HasText mode (number_lit span value raw) = IsAscii (number_digits value) × IsUtf8If raw
HasText mode (big_int_lit span radix digits raw) = IsUtf8 digits × IsUtf8If raw
HasText mode (regex_lit span body flags) = IsUtf8 body × IsUtf8 flags
HasText mode (tpl_element span tail raw cooked) = IsUtf8 raw
HasText mode _ = Unit {0}

-- So does each node of a tree. Every tree of the code is one, since its texts are `String`s.
abbrev pub IsTextTree : Tree → Type 0
IsTextTree t = every HasText Plain t
