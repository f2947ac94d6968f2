-- Which tokens a layout says: the tokens, in their places, of the texts that it writes one after another.
use Rattle.std.specs.Prelude.{◌≡◌, ◌⊎◌, ℕ, ◌+◌, Bool, false, List, [], ◌∷◌, ◌++◌, length, codes}
use Rattle.std.specs.Str.{chars}
use Rattle.base_token.specs.declared.place.BytePos.{BytePos}
use Rattle.base_token.specs.Kinds.{right_brace_kind, end_kind, shebang_kind}
use Rattle.base_token.specs.Tokens.{SpecToken, Line as Hashbang}
use Rattle.lex_source.specs.Machine.{told}
use Rattle.lex_token.specs.declared.goal.LexicalGoal.{LexicalGoal}
use Rattle.lex_token.specs.declared.goal.LexicalGoal.TheVariants.{Div, RegExp, TemplateTail, TemplateEnd}
use Rattle.lex_token.specs.Lexemes.{SpecLexeme, IsLexeme}
use Rattle.grammar_spec.specs.Tokens.Input.{PlacedToken, Input, kind, lo}
use Rattle.grammar_text_spec.specs.Tiled.{goal_at}
use Rattle.print_pages_spec.specs.Pieces.{Piece, Text, Brace, Blank, Line, Deeper, Back, Semicolon, Commit, Mark}
use Rattle.print_layout_spec.specs.Looks.{Meaning, regular_expression, template_characters, template_end, hashbang_comment, touching, Laid, nothing, one, meant, named, both, refused, joined, texts_of}
use Rattle.again_laws.specs.Tokens.Spacings.{Spacing, Touching, Broken, is_broken, blanked, Lies}

-- ---- one text

-- The text is this token under a lexical goal, and nothing else: alone, and the characters of a template before what ends them (clause 12, 12.9.6).
abbrev pub IsOwn : LexicalGoal → List ℕ → SpecLexeme → Type 0
IsOwn TemplateTail cs x = IsLexeme TemplateTail (cs ++ 96 ∷ []) x (96 ∷ [])
IsOwn Div cs x = IsLexeme Div cs x []
IsOwn RegExp cs x = IsLexeme RegExp cs x []
IsOwn TemplateEnd cs x = IsLexeme TemplateEnd cs x []

-- The first token is this one, spelled with an escape or not, and its text takes so many bytes behind a spacing; the others are the rest.
pub record IsFirst (token : SpecToken) (escaped : Bool) (size : ℕ) (a : Spacing) (ts r : Input) : Type 0 where
  pub place : PlacedToken
  pub whole : ts.places ≡ place ∷ r.places
  pub token_is : place.spot.token ≡ token
  pub escaped_is : place.escaped ≡ escaped
  pub broke : place.spot.line_break ≡ is_broken a
  pub begins : Lies a ts.last place.spot.lo
  pub ends : place.spot.hi ≡ place.spot.lo + size
  pub last : r.last ≡ place.spot.hi

-- Behind the spacing `a` the first token is that of this text under a goal, and the others are the rest, behind the spacing `b`.
pub record IsSaid (goal : LexicalGoal) (own : List ℕ) (a : Spacing) (ts : Input) (b : Spacing) (r : Input) : Type 0 where
  pub lexeme : SpecLexeme
  pub is_own : IsOwn goal (chars own) lexeme
  pub first : IsFirst (told lexeme.token) lexeme.escaped (length own) a ts r
  pub under : goal_at first.place.goal ≡ goal
  pub behind : b ≡ Touching

-- a hashbang, by what stands behind `#!` (12.5)
abbrev pub hashbang_token : List ℕ → SpecToken
hashbang_token own = record { kind = shebang_kind; content = Hashbang own }

pub record IsHashbangSaid (own : List ℕ) (a : Spacing) (ts : Input) (b : Spacing) (r : Input) : Type 0 where
  pub first : IsFirst (hashbang_token own) false (length own + 2) a ts r
  pub behind : b ≡ Touching

-- A name that was read at a position is the token of its text, and N holds of that position and of where the token begins.
pub record IsNameSaid (N : ℕ → ℕ → Type 0) (pos : BytePos) (own : List ℕ) (a : Spacing) (ts : Input) (b : Spacing) (r : Input) : Type 0 where
  pub said : IsSaid Div own a ts b r
  pub stands : N pos.0 (lo ts)

-- ---- layouts

-- A semicolon may be left out before `}` and at the end (12.10.1).
abbrev pub SemicolonMayGo : Input → Type 0
SemicolonMayGo ts = (kind ts ≡ right_brace_kind) ⊎ (kind ts ≡ end_kind)

-- A line that is asked for ends no line where one begins already.
abbrev pub SaysPiece : Piece → Spacing → Input → Spacing → Input → Type 0
SaysPiece (Text span own) a ts b r = IsSaid Div own a ts b r
SaysPiece (Brace span) a ts b r = IsSaid Div (codes "}") a ts b r
SaysPiece Blank a ts b r = (b ≡ blanked a) × (ts ≡ r)
SaysPiece Line a ts b r = ((b ≡ Broken) ⊎ (b ≡ a)) × (ts ≡ r)
SaysPiece Deeper a ts b r = (b ≡ a) × (ts ≡ r)
SaysPiece Back a ts b r = (b ≡ a) × (ts ≡ r)
SaysPiece (Semicolon span) a ts b r = IsSaid Div (codes ";") a ts b r ⊎ ((b ≡ a) × (ts ≡ r) × SemicolonMayGo ts)
SaysPiece Commit a ts b r = (b ≡ a) × (ts ≡ r)
SaysPiece (Mark pos) a ts b r = (b ≡ a) × (ts ≡ r)

-- texts one after another with nothing between them
abbrev pub SaysTexts : List (List ℕ) → Spacing → Input → Spacing → Input → Type 0
SaysTexts [] a ts b r = (b ≡ a) × (ts ≡ r)
SaysTexts (own ∷ others) a ts b r = (k : Spacing) × (m : Input) × IsSaid Div own a ts k m × SaysTexts others k m b r

-- texts that are together one token, or tokens that touch
abbrev pub SaysMeaning : Meaning → Spacing → Input → Spacing → Input → Type 0
SaysMeaning (regular_expression body flags) a ts b r = IsSaid RegExp (joined (texts_of (regular_expression body flags))) a ts b r
SaysMeaning (template_characters own) a ts b r = IsSaid TemplateTail own a ts b r
SaysMeaning (template_end own) a ts b r = IsSaid TemplateEnd own a ts b r
SaysMeaning (hashbang_comment own) a ts b r = IsHashbangSaid own a ts b r
SaysMeaning (touching texts) a ts b r = SaysTexts texts a ts b r

-- Says N f a ts b r: behind the spacing `a` the layout says the tokens `ts` up to the rest `r`, and ends in the spacing `b`. N holds of where each name was read and where it is written.
-- What can't be printed says nothing.
abbrev pub Says : (ℕ → ℕ → Type 0) → Laid → Spacing → Input → Spacing → Input → Type 0
Says N nothing a ts b r = (b ≡ a) × (ts ≡ r)
Says N (one x) a ts b r = SaysPiece x a ts b r
Says N (meant m) a ts b r = SaysMeaning m a ts b r
Says N (named pos own) a ts b r = IsNameSaid N pos own a ts b r
Says N (both f g) a ts b r = (k : Spacing) × (m : Input) × Says N f a ts k m × Says N g k m b r
Says N refused a ts b r = ⊥
