-- Trivia: white space, line terminators and comments (12.2 to 12.4 and B.1.1).
use Rattle.std.specs.Prelude.{◌≡◌, ◌≢◌, ℕ, Bool, true, false, ◌||◌, ◌⊎◌, List, [], ◌∷◌, ◌++◌, ◌==◌}
use Rattle.std.specs.List.{list_any}
use Rattle.base_token.specs.declared.error.Error.{Error}
use Rattle.base_token.specs.declared.error.SyntaxError.TheVariants.{UnterminatedBlockComment, LegacyCommentInModule}
use Rattle.lex_pieces.specs.declared.trivia.Goal.{Goal}
use Rattle.lex_pieces.specs.declared.trivia.Goal.TheVariants.{Script, Module}
use Rattle.lex_pieces.specs.declared.trivia.LineMark.{LineMark}
use Rattle.lex_pieces.specs.declared.trivia.LineMark.TheVariants.{Slashes, HtmlOpen, HtmlClose}
use Rattle.lex_pieces.specs.Characters.{is_white_space, is_line_terminator}
use Rattle.lex_pieces.specs.Classes.{is_line_char}
use Rattle.lex_pieces.specs.Comments.{NoEnd, IsBlock}
use Rattle.lex_pieces.specs.Places.{IsAt}
use Rattle.lex_pieces.specs.Runs.{Ends, IsRun}

-- a piece of trivia, with the text of a comment between its marks
pub data Piece : Type 0 where
  WhiteSpace : Piece
  LineTerminator : Piece
  LineComment : LineMark → List ℕ → Piece
  BlockComment : List ℕ → Piece

-- what opens a comment of one line: `//`, `<!--` or `-->`
abbrev pub spelled : LineMark → List ℕ
spelled Slashes = 47 ∷ 47 ∷ []
spelled HtmlOpen = 60 ∷ 33 ∷ 45 ∷ 45 ∷ []
spelled HtmlClose = 45 ∷ 45 ∷ 62 ∷ []

-- Whether the mark opens a comment in scripts (12.4, B.1.1). `-->` does where only trivia stands before it on its line.
abbrev pub opens : Bool → LineMark → Bool
opens first Slashes = true
opens first HtmlOpen = true
opens first HtmlClose = first

-- whether the mark is a comment of the HTML form
abbrev pub is_html : LineMark → Bool
is_html Slashes = false
is_html HtmlOpen = true
is_html HtmlClose = true

-- Modules have no comments of the HTML form.
abbrev pub MayOpen : Goal → Bool → LineMark → Type 0
MayOpen Script first mark = opens first mark ≡ true
MayOpen Module first mark = is_html mark ≡ false

abbrev pub is_line_feed : ℕ → Bool
is_line_feed c = c == 0xA

-- one line break (12.3, LineTerminatorSequence)
abbrev pub IsLineBreak : List ℕ → List ℕ → Type 0
IsLineBreak text rest = (text ≡ 0xD ∷ 0xA ∷ rest)
    ⊎ ((c : ℕ) × (text ≡ c ∷ rest) × (is_line_terminator c ≡ true) × (c ≡ 0xD → Ends is_line_feed rest))

-- The text is this piece, and then the rest. White space is read as far as it goes, and a comment of one line up to its line terminator.
abbrev pub IsPiece : Goal → Bool → List ℕ → Piece → List ℕ → Type 0
IsPiece goal first text WhiteSpace rest = (own : List ℕ) × (own ≢ []) × IsRun is_white_space text own rest
IsPiece goal first text LineTerminator rest = IsLineBreak text rest
IsPiece goal first text (LineComment mark own) rest =
    MayOpen goal first mark × ((inner : List ℕ) × (text ≡ spelled mark ++ inner) × IsRun is_line_char inner own rest)
IsPiece goal first text (BlockComment own) rest = (inner : List ℕ) × (text ≡ 47 ∷ 42 ∷ inner) × IsBlock inner own rest

-- White space as far as it goes, or one line break, as the mark says.
abbrev pub IsBlank : List ℕ → Bool → List ℕ → Type 0
IsBlank text false rest = (own : List ℕ) × (own ≢ []) × IsRun is_white_space text own rest
IsBlank text true rest = IsLineBreak text rest

-- a block comment with no end
abbrev pub IsOpenBlock : List ℕ → Type 0
IsOpenBlock text = (inner : List ℕ) × (text ≡ 47 ∷ 42 ∷ inner) × NoEnd inner

-- a comment of the HTML form in a module
abbrev pub IsLegacy : Goal → Bool → List ℕ → List ℕ → Type 0
IsLegacy goal first text inner =
    (goal ≡ Module) × ((mark : LineMark) × (is_html mark ≡ true) × (opens first mark ≡ true) × (text ≡ spelled mark ++ inner))

-- what is wrong at the front of the text, which runs to the place `end`: the whole of an open comment, or the mark of the HTML form
abbrev pub IsFault : ℕ → Goal → Bool → List ℕ → Error → Type 0
IsFault end goal first text e = ((e.kind ≡ UnterminatedBlockComment) × IsOpenBlock text × IsAt end text [] e.span)
    ⊎ ((e.kind ≡ LegacyCommentInModule) × ((inner : List ℕ) × IsLegacy goal first text inner × IsAt end text inner e.span))

-- no piece stands at the front
abbrev pub NoPiece : Goal → Bool → List ℕ → Type 0
NoPiece goal first text = (piece : Piece) (rest : List ℕ) → IsPiece goal first text piece rest → ⊥

-- neither a piece nor a fault
abbrev pub NoTrivia : Goal → Bool → List ℕ → Type 0
NoTrivia goal first text = NoPiece goal first text × (IsOpenBlock text → ⊥) × ((inner : List ℕ) → IsLegacy goal first text inner → ⊥)

-- At most one piece stands at the front of a text, and none where there is a fault.
abbrev pub OnePiece : Goal → Bool → List ℕ → Type 0
OnePiece goal first text = (p q : Piece) (r s : List ℕ) → IsPiece goal first text p r
    → (IsPiece goal first text q s → (p ≡ q) × (r ≡ s)) × (IsOpenBlock text → ⊥) × ((inner : List ℕ) → IsLegacy goal first text inner → ⊥)

-- whether the piece breaks the line: a block comment that holds a line terminator does (12.4)
abbrev pub breaks : Piece → Bool
breaks WhiteSpace = false
breaks LineTerminator = true
breaks (LineComment mark own) = false
breaks (BlockComment own) = list_any is_line_terminator own

-- These pieces stand one after another at the front. Where one breaks the line, those after it begin a line.
abbrev pub Follow : Goal → Bool → List ℕ → List Piece → List ℕ → Type 0
Follow goal first text [] rest = text ≡ rest
Follow goal first text (p ∷ ps) rest = (next : List ℕ) × IsPiece goal first text p next × Follow goal (first || breaks p) next ps rest

-- the whole run of trivia at the front
abbrev pub IsTrivia : Goal → Bool → List ℕ → List Piece → List ℕ → Type 0
IsTrivia goal first text ps rest = Follow goal first text ps rest × NoTrivia goal (first || list_any breaks ps) rest

-- after these pieces comes something wrong
abbrev pub IsFaultAfter : ℕ → Goal → Bool → List ℕ → Error → Type 0
IsFaultAfter end goal first text e = (ps : List Piece) × (rest : List ℕ) × Follow goal first text ps rest × IsFault end goal (first || list_any breaks ps) rest e

-- A piece of trivia that breaks the line or not stands at the front of a text, and then the rest.
abbrev pub IsPassed : Goal → Bool → List ℕ → Bool → List ℕ → Type 0
IsPassed goal first text broke rest = (p : Piece) × IsPiece goal first text p rest × (broke ≡ breaks p)

-- the whole run of trivia at the front, and whether it breaks the line
abbrev pub IsSkipped : Goal → Bool → List ℕ → Bool → List ℕ → Type 0
IsSkipped goal first text broke rest = (ps : List Piece) × IsTrivia goal first text ps rest × (broke ≡ list_any breaks ps)

-- a hashbang (12.5), which stands at the start of a whole text alone
abbrev pub IsHashbang : List ℕ → List ℕ → List ℕ → Type 0
IsHashbang text own rest = (inner : List ℕ) × (text ≡ 35 ∷ 33 ∷ inner) × IsRun is_line_char inner own rest

abbrev pub NoHashbang : List ℕ → Type 0
NoHashbang text = (inner : List ℕ) → text ≢ 35 ∷ 33 ∷ inner
