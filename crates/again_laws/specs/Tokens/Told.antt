-- Which tokens a layout says, told one after another to what goes on behind them: what a derivation asks of a layout. Places are left aside, but that tokens touch.
use Rattle.std.specs.Prelude.{◌≡◌, ◌⊎◌, ℕ, true, List, [], ◌∷◌, length, codes}
use Rattle.base_token.specs.declared.place.BytePos.{BytePos}
use Rattle.base_token.specs.Kinds.{shebang_kind, hash_kind}
use Rattle.base_token.specs.Tokens.{Line as Hashbang}
use Rattle.lex_token.specs.declared.goal.LexicalGoal.{LexicalGoal}
use Rattle.lex_token.specs.declared.goal.LexicalGoal.TheVariants.{Div, RegExp, TemplateTail, TemplateEnd}
use Rattle.grammar_spec.specs.Tokens.Input.{Input, kind, content, escaped, brk, rest, lo}
use Rattle.print_pages_spec.specs.Pieces.{Piece, Text, Brace, Blank, Line, Deeper, Back, Semicolon, Commit, Mark}
use Rattle.print_layout_spec.specs.Looks.{Meaning, regular_expression, template_characters, template_end, hashbang_comment, touching, Laid, nothing, one, meant, named, both, refused, joined, texts_of}
use Rattle.again_laws.specs.Tokens.Spacings.{Spacing, Touching, Broken, is_broken, blanked}
use Rattle.again_laws.specs.Tokens.Ties.{is_tied}
use Rattle.again_laws.specs.Tokens.Says.{SemicolonMayGo}
use Rattle.again_laws.specs.Tokens.Means.{Means}
use Rattle.again_laws.specs.Tokens.Naming.{Naming, StandsFor}

-- Where the grammar has no end of a line, a line breaks before the first token as it was written.
abbrev pub Breaks : Naming → Spacing → Input → Type 0
Breaks n a ts = is_tied (n.behind (length ts.places)) (kind ts) ≡ true → brk ts ≡ is_broken a

-- The first token is that of the text under a goal, a line breaks before it so, and behind `#` it touches the last where nothing was written.
pub record Told (n : Naming) (goal : LexicalGoal) (own : List ℕ) (a : Spacing) (ts m : Input) : Type 0 where
  pub means : Means goal own (kind ts) (content ts) (escaped ts)
  pub broke : Breaks n a ts
  pub touches : n.behind (length ts.places) ≡ hash_kind → a ≡ Touching → lo ts ≡ ts.last
  pub behind : n.behind (length m.places) ≡ kind ts
  pub after : rest ts ≡ m

-- The first token is a hashbang with this text behind `#!` (12.5).
pub record ToldHashbang (own : List ℕ) (a : Spacing) (ts m : Input) : Type 0 where
  pub kind_is : kind ts ≡ shebang_kind
  pub content_is : content ts ≡ Hashbang own
  pub after : rest ts ≡ m

-- The first token is that of a name which was read at a position, and it stands for that name.
pub record ToldName (n : Naming) (pos : BytePos) (own : List ℕ) (a : Spacing) (ts m : Input) : Type 0 where
  pub told : Told n Div own a ts m
  pub stands : StandsFor n pos.0 (lo ts)

abbrev pub said : Naming → Piece → Spacing → Input → (Spacing → Input → Type 0) → Type 0
said n (Text span own) a ts K = (m : Input) × Told n Div own a ts m × K Touching m
said n (Brace span) a ts K = (m : Input) × Told n Div (codes "}") a ts m × K Touching m
said n Blank a ts K = K (blanked a) ts
said n Line a ts K = (b : Spacing) × ((b ≡ Broken) ⊎ (b ≡ a)) × K b ts
said n Deeper a ts K = K a ts
said n Back a ts K = K a ts
said n (Semicolon span) a ts K = ((m : Input) × Told n Div (codes ";") a ts m × K Touching m) ⊎ (SemicolonMayGo ts × K a ts)
said n Commit a ts K = K a ts
said n (Mark pos) a ts K = K a ts

abbrev pub says_texts : Naming → List (List ℕ) → Spacing → Input → (Spacing → Input → Type 0) → Type 0
says_texts n [] a ts K = K a ts
says_texts n (own ∷ others) a ts K = (m : Input) × Told n Div own a ts m × says_texts n others Touching m K

abbrev pub says_meaning : Naming → Meaning → Spacing → Input → (Spacing → Input → Type 0) → Type 0
says_meaning n (regular_expression body flags) a ts K = (m : Input) × Told n RegExp (joined (texts_of (regular_expression body flags))) a ts m × K Touching m
says_meaning n (template_characters own) a ts K = (m : Input) × Told n TemplateTail own a ts m × K Touching m
says_meaning n (template_end own) a ts K = (m : Input) × Told n TemplateEnd own a ts m × K Touching m
says_meaning n (hashbang_comment own) a ts K = (m : Input) × ToldHashbang own a ts m × K Touching m
says_meaning n (touching texts) a ts K = says_texts n texts a ts K

-- says n f a ts K: behind the spacing `a` the layout says the tokens from `ts` on, each name stands for the one that was read, and then `K` holds of the spacing and the tokens that are left.
abbrev pub says : Naming → Laid → Spacing → Input → (Spacing → Input → Type 0) → Type 0
says n nothing a ts K = K a ts
says n (one x) a ts K = said n x a ts K
says n (meant x) a ts K = says_meaning n x a ts K
says n (named pos own) a ts K = (m : Input) × ToldName n pos own a ts m × K Touching m
says n (both f g) a ts K = says n f a ts (λ b m. says n g b m K)
says n refused a ts K = ⊥
