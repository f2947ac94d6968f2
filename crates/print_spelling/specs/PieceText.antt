-- The bytes of a piece of a text.
use Rattle.std.specs.Prelude.{ℕ, List}
use Rattle.print_spelling.specs.declared.piece.Piece.{Piece}
use Rattle.print_spelling.specs.declared.piece.Piece.TheVariants.{Lent, Made}

abbrev pub piece_bytes : Piece → List ℕ
piece_bytes (Lent text) = text.now
piece_bytes (Made text) = text.bytes
