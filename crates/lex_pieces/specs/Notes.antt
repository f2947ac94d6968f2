-- The comments of a run of trivia.
use Rattle.std.specs.Prelude.{◌≡◌, ℕ, Bool, ◌||◌, ◌⊎◌, List, [], ◌∷◌, ◌++◌}
use Rattle.std.specs.List.{list_any}
use Rattle.std.specs.Str.{chars}
use Rattle.base_token.specs.declared.error.Error.{Error}
use Rattle.base_token.specs.declared.error.SyntaxError.TheVariants.{Memory}
use Rattle.base_token.specs.declared.place.Span.{Span}
use Rattle.lex_pieces.specs.declared.trivia.Goal.{Goal}
use Rattle.lex_pieces.specs.declared.comments.Comment.{Comment}
use Rattle.lex_pieces.specs.declared.comments.CommentKind.{CommentKind}
use Rattle.lex_pieces.specs.declared.comments.CommentKind.TheVariants.{Line, Block}
use Rattle.lex_pieces.specs.Places.{IsAt}
use Rattle.lex_pieces.specs.Trivia.{Piece, WhiteSpace, LineTerminator, LineComment, BlockComment, IsFault, IsPiece, NoTrivia, breaks}

-- the comment of this text at this place
abbrev pub IsComment : Span → CommentKind → List ℕ → Comment → Type 0
IsComment span kind own c = (c.kind ≡ kind) × (chars c.text.now ≡ own) × (c.span ≡ span)

-- the comments that a piece at this place gives
abbrev pub IsNoteAt : Span → Piece → List Comment → Type 0
IsNoteAt span WhiteSpace cs = cs ≡ []
IsNoteAt span LineTerminator cs = cs ≡ []
IsNoteAt span (LineComment mark own) cs = (c : Comment) × (cs ≡ c ∷ []) × IsComment span Line own c
IsNoteAt span (BlockComment own) cs = (c : Comment) × (cs ≡ c ∷ []) × IsComment span Block own c

-- the same of a piece from where the first characters begin up to where the second begin
abbrev pub IsNote : ℕ → List ℕ → List ℕ → Piece → List Comment → Type 0
IsNote end from to p cs = (span : Span) × IsAt end from to span × IsNoteAt span p cs

-- these pieces stand one after another at the front of a text, which runs to the place `end`, and give these comments
abbrev pub FollowNoted : ℕ → Goal → Bool → List ℕ → List Piece → List Comment → List ℕ → Type 0
FollowNoted end goal first text [] cs rest = (text ≡ rest) × (cs ≡ [])
FollowNoted end goal first text (p ∷ ps) cs rest = (next : List ℕ) × IsPiece goal first text p next
    × ((own : List Comment) × (more : List Comment) × (cs ≡ own ++ more) × IsNote end text next p own
    × FollowNoted end goal (first || breaks p) next ps more rest)

-- the whole run of trivia, whether it breaks the line, and its comments after those that were there
abbrev pub IsCollected : ℕ → Goal → Bool → List ℕ → Bool → List ℕ → List Comment → List Comment → Type 0
IsCollected end goal first text broke rest old new = (ps : List Piece) × (cs : List Comment) × (new ≡ old ++ cs)
    × FollowNoted end goal first text ps cs rest × NoTrivia goal (first || list_any breaks ps) rest × (broke ≡ list_any breaks ps)

-- The comments up to what is wrong are kept, and so are those up to where memory ran out.
abbrev pub IsCollectedUpTo : ℕ → Goal → Bool → List ℕ → Error → List Comment → List Comment → Type 0
IsCollectedUpTo end goal first text e old new = (ps : List Piece) × (cs : List Comment) × (rest : List ℕ) × (new ≡ old ++ cs)
    × FollowNoted end goal first text ps cs rest × ((e.kind ≡ Memory) ⊎ IsFault end goal (first || list_any breaks ps) rest e)
