-- The code units of UTF-16 that escapes stand for.
use Rattle.std.specs.Prelude.{ℕ, ◌<◌, Bool, true, false, List, []}
use Rattle.std.specs.Char.Escape.{encode_utf16}
use Rattle.lex_literal.specs.declared.escape.Escape.{Escape}
use Rattle.lex_literal.specs.declared.escape.Escape.TheVariants.{Continuation, Code, Legacy}

-- the code units that an escape stands for
abbrev pub escape_units : Escape → List ℕ
escape_units Continuation = []
escape_units (Code n) = encode_utf16 n
escape_units (Legacy n) = encode_utf16 n

-- the code point is one
abbrev pub CodeFits : Escape → Type 0
CodeFits Continuation = Unit {0}
CodeFits (Code n) = n < 0x110000
CodeFits (Legacy n) = n < 0x110000

-- whether it is one of B.1.2
abbrev pub is_legacy : Escape → Bool
is_legacy (Legacy n) = true
is_legacy _ = false
