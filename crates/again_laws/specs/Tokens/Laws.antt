-- Laws of what layouts say: their statements.
use Rattle.std.specs.Prelude.{◌≡◌, ℕ, Bool, true, List}
use lib.Utf8.{scalars}
use Rattle.base_token.specs.Operators.{operator_text}
use Rattle.base_token.specs.Words.{own_text}
use Rattle.lex_token.specs.declared.goal.LexicalGoal.TheVariants.{Div, TemplateEnd}
use Rattle.grammar_spec.specs.Tokens.Input.{PlacedToken, Input}
use Rattle.grammar_text_spec.specs.Tiled.{Tile}
use Rattle.print_layout_spec.specs.Looks.{Laid}
use Rattle.print_layout_spec.specs.Words.{sign_of}
use Rattle.again_laws.specs.Tokens.Spacings.{Spacing}
use Rattle.again_laws.specs.Tokens.Naming.{Naming, StandsFor}
use Rattle.again_laws.specs.Tokens.Ties.{KindsBefore}
use Rattle.again_laws.specs.Tokens.Says.{Says}
use Rattle.again_laws.specs.Tokens.Told.{says}
use Rattle.again_laws.specs.Tokens.Texts.{mark_text, ending_text, word_text}
use Rattle.again_laws.specs.Tokens.Means.{TellsKinds, Known}

-- What a layout says it tells: the same tokens, up to the same rest, where its names stand, and which kinds stand before what is left.
abbrev pub LayoutsTell : Type 0
LayoutsTell = (n : Naming) (f : Laid) (a b : Spacing) (ts r : Input) → Says (StandsFor n) f a ts b r → KindsBefore n.behind ts.places → says n f a ts (λ c m. (c ≡ b) × (m ≡ r))

-- Punctuators, words, signs, operators and what ends the characters of a template mean the tokens of their kinds.
abbrev pub MarksTell : Type 0
MarksTell = TellsKinds Div mark_text × TellsKinds TemplateEnd ending_text

abbrev pub WordsTell : Type 0
WordsTell = TellsKinds Div own_text × TellsKinds Div word_text

abbrev pub OperatorsTell : Type 0
OperatorsTell = TellsKinds Div sign_of × TellsKinds Div operator_text

-- Tokens that tile a text of scalar values were read from one.
abbrev pub TokensAreKnown : Type 0
TokensAreKnown = (start : ℕ) (modules : Bool) (text : List ℕ) (ps : List PlacedToken) → scalars text ≡ true → Tile start modules text ps → Known ps
