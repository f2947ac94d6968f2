-- The comments among pieces of trivia (ECMA-262, 12.2 to 12.4), and how many lines end before each and behind it: none, one, or one with an empty line.
use Rattle.std.specs.Prelude.{◌≡◌, ℕ, Bool, true, false, ◌==◌, if◌then◌else◌, List, [], ◌∷◌, ◌++◌, Option, Some, None}
use Rattle.std.specs.List.{list_any}
use Rattle.lex_pieces.specs.Characters.{is_line_terminator}
use Rattle.lex_pieces.specs.Trivia.{Piece, WhiteSpace, LineTerminator, LineComment, BlockComment, IsTrivia, breaks}
use Rattle.lex_pieces.specs.declared.trivia.Goal.{Goal}
use Rattle.print_notes.specs.Slots.{Remark}

-- the lines that ended since the last comment, and that one
pub record Tally : Type 0 where
  pub lines : ℕ
  pub last : Option Remark

abbrev pub one_more : ℕ → ℕ
one_more n = if n == 0 then 1 else 2

-- the last comment, once the lines behind it are known
abbrev pub ended_by : ℕ → Option Remark → List Remark
ended_by n None = []
ended_by n (Some r) = record r { behind = n } ∷ []

abbrev pub ended : Tally → List Remark
ended t = ended_by t.lines t.last

abbrev pub begun : ℕ → ℕ → Bool → List ℕ → Bool → Tally
begun gap lines is_line text breaks = record { lines = 0; last = Some (record { is_line = is_line; text = text; breaks = breaks; lines = lines; behind = 0; gap = gap }) }

-- those of pieces that stand one after another, with the one before them
abbrev pub noted : ℕ → Tally → List Piece → List Remark
noted gap t [] = ended t
noted gap t (WhiteSpace ∷ ps) = noted gap t ps
noted gap t (LineTerminator ∷ ps) = noted gap (record { lines = one_more t.lines; last = t.last }) ps
noted gap t (LineComment mark own ∷ ps) = ended t ++ noted gap (begun gap t.lines true own false) ps
noted gap t (BlockComment own ∷ ps) = ended t ++ noted gap (begun gap t.lines false own (list_any is_line_terminator own)) ps

abbrev pub nothing : Tally
nothing = record { lines = 0; last = None }

-- The whole run of trivia at the front of a text, whether it breaks the line, and its comments behind those that were there.
abbrev pub IsNoted : Goal → Bool → ℕ → List ℕ → Bool → List ℕ → List Remark → List Remark → Type 0
IsNoted goal first gap text broke rest old new = (ps : List Piece) × IsTrivia goal first text ps rest × (broke ≡ list_any breaks ps) × (new ≡ old ++ noted gap nothing ps)
