-- How a piece of trivia is read, as functions on lists.
use Rattle.std.specs.Prelude.{◌≡◌, ℕ, Bool, List, [], ◌∷◌, Option, Some, None, Result, Ok, Err, option_and_then, if◌then◌else◌, ◌==◌}
use Rattle.std.specs.Borrow.{Bor}
use Rattle.std.specs.Str.{chars}
use Rattle.base_token.specs.declared.error.Error.{Error}
use Rattle.base_token.specs.declared.error.SyntaxError.TheVariants.{UnterminatedBlockComment, LegacyCommentInModule}
use Rattle.lex_pieces.specs.declared.trivia.Goal.{Goal}
use Rattle.lex_pieces.specs.declared.trivia.Goal.TheVariants.{Script, Module}
use Rattle.lex_pieces.specs.declared.trivia.LineMark.{LineMark}
use Rattle.lex_pieces.specs.declared.trivia.LineMark.TheVariants.{Slashes, HtmlOpen, HtmlClose}
use Rattle.lex_pieces.specs.declared.trivia.Trivia.{Trivia}
use Rattle.lex_pieces.specs.declared.trivia.Trivia.TheVariants as t
use Rattle.lex_pieces.specs.Characters.{is_white_space, is_line_terminator}
use Rattle.lex_pieces.specs.Classes.{is_line_char}
use Rattle.lex_pieces.specs.Comments.{before_end, past_end}
use Rattle.lex_pieces.specs.Places.{IsAt}
use Rattle.lex_pieces.specs.Runs.{run, after}
use Rattle.lex_pieces.specs.Trivia.{Piece, WhiteSpace, LineTerminator, LineComment, BlockComment}

-- the piece that the code answers
abbrev pub view : Trivia → Piece
view t.WhiteSpace = WhiteSpace
view t.LineTerminator = LineTerminator
view (t.LineComment mark text) = LineComment mark (chars text.now)
view (t.BlockComment text) = BlockComment (chars text.now)

-- what stands at the front of a text
pub data Reading : Type 0 where
  Nothing : Reading
  Found : Piece → List ℕ → Reading
  Open : Reading
  Legacy : List ℕ → Reading

-- what follows the character where the characters begin with it
abbrev pub past : ℕ → List ℕ → Option (List ℕ)
past m [] = None
past m (c ∷ cs) = if c == m then Some cs else None

-- what follows the rest of `<!--`, and of `-->`
abbrev pub past_html_open : List ℕ → Option (List ℕ)
past_html_open cs = option_and_then (past 45) (option_and_then (past 45) (past 33 cs))

abbrev pub past_html_close : List ℕ → Option (List ℕ)
past_html_close cs = option_and_then (past 62) (past 45 cs)

abbrev pub line : LineMark → List ℕ → Reading
line mark cs = Found (LineComment mark (run is_line_char cs)) (after is_line_char cs)

abbrev pub block_by : Option (List ℕ) → List ℕ → Reading
block_by None own = Open
block_by (Some rest) own = Found (BlockComment own) rest

abbrev pub block : List ℕ → Reading
block cs = block_by (past_end cs) (before_end cs)

abbrev pub html : Goal → LineMark → Option (List ℕ) → Reading
html goal mark None = Nothing
html Script mark (Some cs) = line mark cs
html Module mark (Some cs) = Legacy cs

abbrev pub after_slash : List ℕ → Reading
after_slash [] = Nothing
after_slash (c ∷ cs) = if c == 47 then line Slashes cs else (if c == 42 then block cs else Nothing)

-- what follows a line break that begins with the character
abbrev pub after_break : ℕ → List ℕ → List ℕ
after_break c [] = []
after_break c (d ∷ ds) = if c == 0xD then (if d == 0xA then ds else d ∷ ds) else d ∷ ds

-- what begins with the character, where that is neither white space nor a line terminator
abbrev pub mark : Goal → Bool → ℕ → List ℕ → Reading
mark goal first c cs =
    if c == 47 then after_slash cs
    else (if c == 60 then html goal HtmlOpen (past_html_open cs)
    else (if c == 45 then (if first then html goal HtmlClose (past_html_close cs) else Nothing)
    else Nothing))

unfoldable pub read_by : Goal → Bool → ℕ → List ℕ → Reading
read_by goal first c cs =
    if is_white_space c then Found WhiteSpace (after is_white_space cs)
    else (if is_line_terminator c then Found LineTerminator (after_break c cs)
    else mark goal first c cs)

-- what begins with a character past ASCII
abbrev pub wide : List ℕ → Reading
wide [] = Nothing
wide (c ∷ cs) =
    if is_white_space c then Found WhiteSpace (after is_white_space cs)
    else (if is_line_terminator c then Found LineTerminator cs
    else Nothing)

abbrev pub read : Goal → Bool → List ℕ → Reading
read goal first [] = Nothing
read goal first (c ∷ cs) = read_by goal first c cs

abbrev pub IsFaultOf : ℕ → List ℕ → Reading → Error → Type 0
IsFaultOf end text Nothing e = ⊥
IsFaultOf end text (Found piece rest) e = ⊥
IsFaultOf end text Open e = (e.kind ≡ UnterminatedBlockComment) × IsAt end text [] e.span
IsFaultOf end text (Legacy rest) e = (e.kind ≡ LegacyCommentInModule) × IsAt end text rest e.span

-- the answer is this reading of the text, which runs to the place `end`
abbrev pub Agrees : ℕ → List ℕ → Reading → Result (Option (Trivia × Bor (List ℕ))) Error → Type 0
Agrees end text r (Ok None) = r ≡ Nothing
Agrees end text r (Ok (Some x)) = r ≡ Found (view x.0) (chars x.1.now)
Agrees end text r (Err e) = IsFaultOf end text r e
