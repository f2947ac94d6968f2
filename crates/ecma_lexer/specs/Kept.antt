-- The comments that a lexer keeps.
use Rattle.std.specs.Prelude.{◌≡◌, ◌≢◌, ◌⊎◌, ℕ, Bool, true, false, ◌||◌, List, [], ◌++◌, map, Option, None, Some}
use Rattle.std.specs.List.{list_any}
use Rattle.base_token.specs.Tokens.{Spot}
use Rattle.base_token.specs.declared.token.TokenKind.{TokenKind}
use Rattle.lex_pieces.specs.Notes.{FollowNoted}
use Rattle.lex_pieces.specs.Punctuators.{IsPunctuator, NoPunctuator}
use Rattle.lex_pieces.specs.Trivia.{Piece, NoHashbang, NoPiece, breaks}
use Rattle.lex_pieces.specs.declared.comments.Comment.{Comment as Read}
use Rattle.lex_comments.specs.Comments.{IsSame, IsTaken, owned_comment}
use Rattle.lex_comments.specs.Store.{leading_at, trailing_at}
use Rattle.lex_comments.specs.declared.owned.Comment.{Comment}
use Rattle.lex_comments.specs.declared.store.Comments.{Comments}
use Rattle.lex_step_laws.specs.States.{Fault, State, again, goal_of, is_start, place, template_goal}

-- ---- which comments a step passes

-- The next step passes trivia: nothing went wrong, no slash is read again, no characters of a template come and no hashbang.
pub record PassesTrivia (s : State) : Type 0 where
  pub going : s.tokens.last ≢ Fault
  pub slash : again s ≡ None
  pub template : template_goal s.settings.contexts s.tokens.last ≡ None
  pub hashbang : is_start s.tokens.last ≡ true → NoHashbang s.tokens.left

-- These are the comments of the trivia at the front of what is left, in order: up to where no piece of trivia stands.
abbrev pub AreThere : State → List Read → Type 0
AreThere s cs = (ps : List Piece) × (rest : List ℕ) × FollowNoted s.tokens.end (goal_of s.settings.ctx) (is_start s.tokens.last) s.tokens.left ps cs rest
    × NoPiece (goal_of s.settings.ctx) (is_start s.tokens.last || list_any breaks ps) rest

-- These are the comments that the next step passes.
abbrev pub ArePassed : State → List Read → Type 0
ArePassed s cs = (PassesTrivia s × AreThere s cs) ⊎ ((PassesTrivia s → ⊥) × (cs ≡ []))

-- ---- where they are kept

-- These comments came after those of the place, and nothing else came.
pub record AreAdded (old new : ℕ → List Comment) (pos : ℕ) (comments : List Comment) : Type 0 where
  pub here : new pos ≡ old pos ++ comments
  pub others : (q : ℕ) → q ≢ pos → new q ≡ old q

-- Where the slash ends that the next step reads again, if it reads one again.
abbrev pub EndsSlash : Option (List ℕ) → ℕ → Option ℕ → Type 0
EndsSlash None end place_behind = place_behind ≡ None
EndsSlash (Some from) end place_behind =
    ((kind : TokenKind) × (rest : List ℕ) × IsPunctuator from kind rest × (place_behind ≡ Some (place end rest)))
    ⊎ (NoPunctuator from × (place_behind ≡ None))

-- What was kept at this place, if there is one, is kept no longer, and all else is.
abbrev pub AreLeft : Option ℕ → (ℕ → List Comment) → (ℕ → List Comment) → Type 0
AreLeft None old new = IsSame old new
AreLeft (Some pos) old new = IsTaken old new pos

-- Where comments lead: the place of the token that comes, or at the end the place behind the last one.
abbrev pub lead_place : Option Spot → ℕ → ℕ
lead_place None behind = behind
lead_place (Some spot) behind = spot.lo

-- Each comment that a step passes is kept once: it trails the last token, or leads what comes. At the start of the text none trails, and at
-- its end none leads where there was a token. A slash that is read again loses those that trail it, since the text behind it is read again.
pub record AreKept (s : State) (out : Option Spot) (old new : Comments) : Type 0 where
  pub trail : List Read
  pub lead : List Read
  pub passed : ArePassed s (trail ++ lead)
  pub slash : Option ℕ
  pub behind_slash : EndsSlash (again s) s.tokens.end slash
  pub left : ℕ → List Comment
  pub withdrawn : AreLeft slash (trailing_at old) left
  pub trailing : AreAdded left (trailing_at new) (place s.tokens.end s.tokens.left) (map owned_comment trail)
  pub leading : AreAdded (leading_at old) (leading_at new) (lead_place out (place s.tokens.end s.tokens.left)) (map owned_comment lead)
  pub first : is_start s.tokens.last ≡ true → trail ≡ []
  pub last : is_start s.tokens.last ≡ false → out ≡ None → lead ≡ []

-- The store has the same comments at each place.
pub record IsUntouched (old new : Comments) : Type 0 where
  pub leading : IsSame (leading_at old) (leading_at new)
  pub trailing : IsSame (trailing_at old) (trailing_at new)

-- What is kept by a step: its comments, or none where the lexer keeps none.
abbrev pub KeepsAsAsked : Bool → State → Option Spot → Comments → Comments → Type 0
KeepsAsAsked true s out old new = AreKept s out old new
KeepsAsAsked false s out old new = IsUntouched old new

-- the store is empty
pub record IsEmpty (store : Comments) : Type 0 where
  pub leading : (q : ℕ) → leading_at store q ≡ []
  pub trailing : (q : ℕ) → trailing_at store q ≡ []
