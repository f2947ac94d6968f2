-- The names that the code answers.
use Rattle.std.specs.Prelude.{◌≡◌, ℕ, List, ◌++◌, string_bytes}
use Rattle.std.specs.Str.{chars}
use Rattle.lex_pieces.specs.declared.names.Name.{Name}
use Rattle.lex_pieces.specs.declared.names.Name.TheVariants.{Bare, Escaped}
use Rattle.lex_pieces.specs.Names.{HasEscape, IsName}

-- A name with no escape is what stands there, and one with an escape has a backslash after some characters that are spelled as they are.
abbrev pub IsNamed : List ℕ → Name → List ℕ → Type 0
IsNamed text (Bare own) rest = IsName text (chars own.now) rest × (text ≡ chars own.now ++ rest)
IsNamed text (Escaped own) rest = IsName text (chars (string_bytes own)) rest × HasEscape text
