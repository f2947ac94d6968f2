-- Layouts whose texts may stand one after another: a walk over the layout by what stands last.
use Rattle.std.specs.Prelude.{◌≡◌, ℕ, Bool, true, false, List, [], ◌∷◌, ◌++◌}
use Rattle.std.specs.Str.{chars, IsUtf8}
use Rattle.lex_token.specs.declared.goal.LexicalGoal.{LexicalGoal}
use Rattle.lex_token.specs.declared.goal.LexicalGoal.TheVariants.{Div, RegExp, TemplateTail, TemplateEnd}
use Rattle.lex_token.specs.Lexemes.{SpecLexeme, IsLexeme}
use Rattle.print_pages_spec.specs.Pieces.{Piece, Text, Brace, Blank, Line, Deeper, Back, Semicolon, Commit, Mark}
use Rattle.print_layout_spec.specs.Looks.{Meaning, regular_expression, template_characters, template_end, hashbang_comment, touching, Laid, nothing, one, meant, named, both, refused, joined, texts_of}
use Rattle.again_laws.specs.Tokens.Says.{IsOwn}
use Rattle.again_laws.specs.Tiling.Categories.{State, Fresh, Clear, Shut, Category, Quasi, End, is_open, takes, behind, blank_behind}
use Rattle.again_laws.specs.Tiling.Following.{Needs, Front, QuietUnder}

-- ---- one text

-- Under the goals of a template's characters and of their end there is one category each (12.9.6).
abbrev pub KindOf : LexicalGoal → Category → Type 0
KindOf TemplateTail k = k ≡ Quasi
KindOf TemplateEnd k = k ≡ End
KindOf _ k = Unit {0}

-- These bytes are a token of this category: it is read before whatever the category lets follow.
pub record Fits (goal : LexicalGoal) (bytes : List ℕ) (k : Category) : Type 0 where
  pub kind_of : KindOf goal k
  pub utf8 : IsUtf8 bytes
  pub lexeme : SpecLexeme
  pub front : Front k (chars bytes)
  pub is_own : IsOwn goal (chars bytes) lexeme
  pub reads : (rest : List ℕ) → Needs k rest → IsLexeme goal (chars bytes ++ rest) lexeme rest
  pub quiet : (rest : List ℕ) → Needs k rest → QuietUnder goal k (chars bytes ++ rest)

-- where a test holds
abbrev pub When : Bool → Type 0 → Type 0
When true P = P
When false P = ⊥

-- ---- layouts

-- The text is a token of a category that may follow, and behind it P holds of what stands last.
abbrev pub GoesText : LexicalGoal → List ℕ → State → (State → Type 0) → Type 0
GoesText goal bytes s P = (k : Category) × Fits goal bytes k × When (takes k s) (P (behind k s))

abbrev pub GoesPiece : Piece → State → (State → Type 0) → Type 0
GoesPiece (Text span bytes) s P = GoesText Div bytes s P
GoesPiece (Brace span) s P = When (is_open s) (P Shut)
GoesPiece Blank s P = When (is_open s) (P (blank_behind s))
GoesPiece Line s P = When (is_open s) (P Fresh)
GoesPiece Deeper s P = P s
GoesPiece Back s P = P s
GoesPiece (Semicolon span) s P = When (is_open s) (P Clear)
GoesPiece Commit s P = P s
GoesPiece (Mark pos) s P = P s

-- texts one after another with nothing between them
abbrev pub GoesTexts : List (List ℕ) → State → (State → Type 0) → Type 0
GoesTexts [] s P = P s
GoesTexts (own ∷ others) s P = GoesText Div own s (λ t. GoesTexts others t P)

-- A hashbang stands nowhere but at the very start (12.5), which is apart.
abbrev pub GoesMeaning : Meaning → State → (State → Type 0) → Type 0
GoesMeaning (regular_expression body flags) s P = GoesText RegExp (joined (texts_of (regular_expression body flags))) s P
GoesMeaning (template_characters own) s P = GoesText TemplateTail own s P
GoesMeaning (template_end own) s P = GoesText TemplateEnd own s P
GoesMeaning (hashbang_comment own) s P = ⊥
GoesMeaning (touching texts) s P = GoesTexts texts s P

-- Goes f s P: each text of the layout may follow what stands before it, from where `s` stands last, and P holds of what stands last behind them all.
abbrev pub Goes : Laid → State → (State → Type 0) → Type 0
Goes nothing s P = P s
Goes (one x) s P = GoesPiece x s P
Goes (meant m) s P = GoesMeaning m s P
Goes (named pos own) s P = GoesText Div own s P
Goes (both f g) s P = Goes f s (λ t. Goes g t P)
Goes refused s P = ⊥

-- A layout that goes as a whole text: from its start, to where the text may end.
abbrev pub GoesWhole : Laid → Type 0
GoesWhole f = Goes f Fresh (λ s. is_open s ≡ true)
