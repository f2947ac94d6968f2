-- What stands between two tokens: white space, ends of lines and comments, one after another (ECMA-262, 12.2 to 12.4, B.1.1).
use Rattle.std.specs.Prelude.{◌≡◌, ℕ, Bool, true, false, ◌&&◌, ◌||◌, ◌==◌, List, [], ◌∷◌, ◌++◌}
use Rattle.std.specs.List.{list_any}
use Rattle.lex_pieces.specs.Characters.{is_white_space, is_line_terminator}
use Rattle.lex_pieces.specs.Classes.{is_line_char}
use Rattle.lex_pieces.specs.Comments.{NoEnd}
use Rattle.lex_pieces.specs.Runs.{Each}
use Rattle.lex_pieces.specs.Trivia.{MayOpen, Piece, LineComment, BlockComment, spelled}
use Rattle.lex_pieces.specs.declared.trivia.Goal.{Goal}
use Rattle.lex_pieces.specs.declared.trivia.LineMark.{LineMark}

pub data Trivium : Type 0 where
  -- a character of white space (12.2)
  White : ℕ → Trivium
  -- a line terminator, and CR with LF (12.3)
  Feed : ℕ → Trivium
  Return : Trivium
  -- comments, by what stands between their marks (12.4): a block, and one of one line
  Block : List ℕ → Trivium
  Line : LineMark → List ℕ → Trivium

abbrev pub chars_of : Trivium → List ℕ → List ℕ
chars_of (White c) cs = c ∷ cs
chars_of (Feed c) cs = c ∷ cs
chars_of Return cs = 13 ∷ 10 ∷ cs
chars_of (Block own) cs = 47 ∷ 42 ∷ (own ++ 42 ∷ 47 ∷ cs)
chars_of (Line mark own) cs = spelled mark ++ (own ++ cs)

-- the characters, before others
abbrev pub gap_before : List Trivium → List ℕ → List ℕ
gap_before [] cs = cs
gap_before (u ∷ us) cs = chars_of u (gap_before us cs)

-- A block comment that holds a line terminator ends a line (12.4).
abbrev pub is_end_of_line : Trivium → Bool
is_end_of_line (White c) = false
is_end_of_line (Feed c) = true
is_end_of_line Return = true
is_end_of_line (Block own) = list_any is_line_terminator own
is_end_of_line (Line mark own) = false

abbrev pub breaks_line : List Trivium → Bool
breaks_line [] = false
breaks_line (u ∷ us) = is_end_of_line u || breaks_line us

-- ---- what may stand where

-- a line terminator comes next, or the text ends, where it does
abbrev pub ends_line : Bool → List Trivium → Bool
ends_line over [] = over
ends_line over (Feed c ∷ us) = true
ends_line over (Return ∷ us) = true
ends_line over us = false

abbrev pub begins_feed : List Trivium → Bool
begins_feed (Feed c ∷ us) = c == 10
begins_feed us = false

-- It is what it says before the others: CR stands before no LF, a block has its own end alone, and a comment of one line goes on to the end of its line.
abbrev pub IsTrivium : Goal → Bool → Bool → Trivium → List Trivium → Type 0
IsTrivium goal first over (White c) us = is_white_space c ≡ true
IsTrivium goal first over (Feed c) us = (is_line_terminator c ≡ true) × (((c == 13) && begins_feed us) ≡ false)
IsTrivium goal first over Return us = Unit {0}
IsTrivium goal first over (Block own) us = NoEnd own
IsTrivium goal first over (Line mark own) us = MayOpen goal first mark × Each is_line_char own × (ends_line over us ≡ true)

-- So is each. `first`: they begin a line, for `-->` (B.1.1); `over`: the text ends behind them.
abbrev pub AreTrivia : Goal → Bool → Bool → List Trivium → Type 0
AreTrivia goal first over [] = Unit {0}
AreTrivia goal first over (u ∷ us) = IsTrivium goal first over u us × AreTrivia goal (first || is_end_of_line u) over us

-- ---- the comments of a gap, by what stands between their marks

pub data Note : Type 0 where
  BlockNote : List ℕ → Note
  LineNote : List ℕ → Note

abbrev pub notes : List Trivium → List Note
notes [] = []
notes (Block own ∷ us) = BlockNote own ∷ notes us
notes (Line mark own ∷ us) = LineNote own ∷ notes us
notes (_ ∷ us) = notes us

-- those that a reader finds among the pieces that it passes
abbrev pub found : List Piece → List Note
found [] = []
found (BlockComment own ∷ ps) = BlockNote own ∷ found ps
found (LineComment mark own ∷ ps) = LineNote own ∷ found ps
found (_ ∷ ps) = found ps
