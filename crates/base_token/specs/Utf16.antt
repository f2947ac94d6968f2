-- The code units of UTF-16 (ECMA-262, 11.1.1).
use Rattle.std.specs.Prelude.{ℕ, List}
use Rattle.std.specs.Char.Escape.{encode_utf16}
use Rattle.std.specs.List.{flat_map}

-- the code units of characters
abbrev pub utf16 : List ℕ → List ℕ
utf16 cs = flat_map encode_utf16 cs
