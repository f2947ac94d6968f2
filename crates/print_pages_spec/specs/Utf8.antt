-- Pieces and pages of text: what is written is UTF-8.
use Rattle.std.specs.Prelude.{List, [], ◌∷◌, IsUtf8}
use Rattle.print_writers.specs.Pages.{Page}
use Rattle.print_pages_spec.specs.Pieces.{Piece, Text, resolved, shortened}

-- what was written, what ends a line and what indents one
abbrev pub IsUtf8Page : Page → Type 0
IsUtf8Page p = IsUtf8 p.out × IsUtf8 p.line_end × IsUtf8 p.indent

-- the text of a piece that has one of its own
abbrev pub IsUtf8Piece : Piece → Type 0
IsUtf8Piece (Text span bytes) = IsUtf8 bytes
IsUtf8Piece x = Unit {0}

abbrev pub AreUtf8Pieces : List Piece → Type 0
AreUtf8Pieces [] = Unit {0}
AreUtf8Pieces (x ∷ xs) = IsUtf8Piece x × AreUtf8Pieces xs

-- Pieces of text are resolved to text on a page of text, whether semicolons may go or not.
abbrev pub TextStays : Type 0
TextStays = (xs : List Piece) (p : Page) → AreUtf8Pieces xs → IsUtf8Page p → IsUtf8Page (resolved xs p) × IsUtf8Page (shortened xs p)
