-- Laws of what stands between tokens: their statements.
use Rattle.std.specs.Prelude.{◌≡◌, ◌≤◌, ◌<◌, ℕ, Bool, true, false, ◌||◌, List, [], ◌∷◌, length}
use Rattle.std.specs.List.{list_any}
use Rattle.lex_pieces.specs.Trivia.{Piece, IsTrivia, NoTrivia, breaks}
use Rattle.lex_pieces.specs.declared.trivia.Goal.{Goal}
use Rattle.lex_pieces.specs.declared.trivia.Goal.TheVariants.{Module}
use Rattle.print_weave_laws.specs.Gaps.{Trivium, gap_before, breaks_line, AreTrivia, notes, found}
use Rattle.print_weave_laws.specs.Cells.{Cell, Stand, begins_apart, AllMayStand, at_front, woven}
use Rattle.print_weave_laws.specs.Addresses.{Sort, gap_in}
use Rattle.print_weave_laws.specs.Notes.{Placed, Noted, written, told, tidied, AreNotes, lines_end, some_break}
use Rattle.print_weave_laws.specs.Placing.{collected, all_of, InOrder}

-- the text is empty
abbrev pub is_nothing : List ℕ → Bool
is_nothing [] = true
is_nothing (c ∷ cs) = false

-- What stands before a rest that begins with no trivia is a whole run of trivia, breaks the line as it says, and a reader finds its comments, in their order.
abbrev pub GapsAreSkipped : Type 0
GapsAreSkipped = (goal : Goal) (first : Bool) (us : List Trivium) (rest : List ℕ) → AreTrivia goal first (is_nothing rest) us → NoTrivia goal (first || breaks_line us) rest
    → (ps : List Piece) × IsTrivia goal first (gap_before us rest) ps rest × (breaks_line us ≡ list_any breaks ps) × (notes us ≡ found ps)

-- And every whole run of trivia is such.
abbrev pub RunsAreGaps : Type 0
RunsAreGaps = (goal : Goal) (first : Bool) (text : List ℕ) (ps : List Piece) (rest : List ℕ) → IsTrivia goal first text ps rest
    → (us : List Trivium) × (text ≡ gap_before us rest) × AreTrivia goal first (is_nothing rest) us × (breaks_line us ≡ list_any breaks ps) × (notes us ≡ found ps)

-- Insertion: tokens that stand in a text stand in the text with other trivia between them, where it may stand.
abbrev pub TokensStay : Type 0
TokensStay = (goal : Goal) (first : Bool) (xs : List Cell) (gaps : List (List Trivium)) (tail over : List Trivium) → AllMayStand at_front xs gaps tail over
    → Stand goal first xs tail → Stand goal first (woven xs gaps) over

-- Each gap of a text is itself where the text is laid out as it was.
abbrev pub GapsAreTheirOwn : Type 0
GapsAreTheirOwn = (ks : List Sort) (g : ℕ) → g ≤ length ks → gap_in ks ks g ≡ g

-- What is written of the comments of a gap is found there again.
abbrev pub NotesAreTold : Type 0
NotesAreTold = (depth outer : ℕ) (n : Noted) → told 0 (written depth outer n) ≡ n

-- What is tidy stays.
abbrev pub TidyStays : Type 0
TidyStays = (most : ℕ) (n : Noted) → tidied most (tidied most n) ≡ tidied most n

-- So a line ends behind each comment of one line.
abbrev pub TidyEndsLines : Type 0
TidyEndsLines = (most : ℕ) (n : Noted) → lines_end false (tidied most n).placed (tidied most n).behind ≡ true

-- What is found in a gap is comments,
abbrev pub FoundAreNotes : Type 0
FoundAreNotes = (goal : Goal) (first over : Bool) (us : List Trivium) → AreTrivia goal first over us → AreNotes (told 0 us).placed

-- and where a line ends behind each of one line, what is written of them is trivia with no comment of the HTML form, which begins with a blank or the end of a line.
abbrev pub WrittenAreTrivia : Type 0
WrittenAreTrivia = (depth outer : ℕ) (n : Noted) → AreNotes n.placed → lines_end false n.placed n.behind ≡ true
    → AreTrivia Module false false (written depth outer n) × (begins_apart (written depth outer n) ≡ true) × (breaks_line (written depth outer n) ≡ some_break n.placed n.behind)

-- Each comment is written once, in the order of the source.
abbrev pub AllAreWritten : Type 0
AllAreWritten = (n m : ℕ) (t : ℕ → ℕ) (N : ℕ → List Placed) → InOrder n m t → all_of m (collected n t N) ≡ all_of n N

-- Where each gap is its own target, each has what it had.
abbrev pub AllStay : Type 0
AllStay = (n : ℕ) (t : ℕ → ℕ) (N : ℕ → List Placed) → ((g : ℕ) → g < n → t g ≡ g) → (h : ℕ) → h < n → collected n t N h ≡ N h
