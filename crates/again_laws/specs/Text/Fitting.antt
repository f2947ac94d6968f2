-- The texts of names and literals, as they are written, are tokens of their categories: what a layout of a tree asks of its leaves.
use Rattle.std.specs.Prelude.{◌≡◌, ℕ, ◌||◌, Bool, true, List, Option, Some, is_some, if◌then◌else◌}
use Rattle.std.specs.Str.{chars}
use Rattle.base_number.specs.Numbers.{SpecNumber}
use Rattle.base_token.specs.Tokens.{Quoted, Numeral, BigNumeral, Piece, Pattern}
use Rattle.lex_token.specs.declared.goal.LexicalGoal.TheVariants.{Div, RegExp, TemplateTail}
use Rattle.print_spelling.specs.declared.style.Style.{Style}
use Rattle.print_spelling.specs.Number.Numbers.{before_member}
use Rattle.print_spelling.specs.String.Names.{is_quoted_key}
use Rattle.grammar_spec.specs.Tokens.Input.{Input, is_word, kind, content, text}
use Rattle.print_layout_spec.specs.Looks.{regular_expression, joined, texts_of}
use Rattle.print_layout_spec.specs.Literals.{name_bytes, key_bytes, string_bytes, number_bytes, big_bytes, quasi_bytes}
use Rattle.again_laws.specs.Tokens.Means.{Known}
use Rattle.again_laws.specs.Tiling.Categories.{Category, Word, Number, Big, Member, Str, Regex, Quasi}
use Rattle.again_laws.specs.Tiling.Goes.{Fits}

-- a word as a key, which is a string where it is quoted
abbrev pub class_of_key : Style → List ℕ → Category
class_of_key style name = if is_quoted_key style (chars name) then Str else Word

pub record Fitting (style : Style) : Type 0 where
  pub names : (ts : Input) → Known ts.places → is_word (kind ts) ≡ true → Fits Div (name_bytes style (text ts)) Word
  pub keys : (ts : Input) → Known ts.places → is_word (kind ts) ≡ true → Fits Div (key_bytes style (text ts)) (class_of_key style (text ts))
  pub strings : (ts : Input) (u w : List ℕ) → Known ts.places → content ts ≡ Quoted u w → Fits Div (string_bytes style u (Some w)) Str
  pub numbers : (ts : Input) (v : SpecNumber) (w : List ℕ) → Known ts.places → content ts ≡ Numeral v w → Fits Div (number_bytes style v (Some w)) Number
  -- before a point
  pub pointed : (ts : Input) (v : SpecNumber) (w : List ℕ) → Known ts.places → content ts ≡ Numeral v w → Fits Div (before_member (number_bytes style v (Some w))) Member
  pub big_integers : (ts : Input) (radix : ℕ) (digits w : List ℕ) → Known ts.places → content ts ≡ BigNumeral radix digits w → Fits Div (big_bytes style radix digits (Some w)) Big
  -- with cooked units, where no tag stands before them
  pub characters : (ts : Input) (tagged : Bool) (w : List ℕ) (u : Option (List ℕ)) → Known ts.places → content ts ≡ Piece w u → (tagged || is_some u) ≡ true → Fits TemplateTail (quasi_bytes style tagged w) Quasi
  pub patterns : (ts : Input) (b f : List ℕ) → Known ts.places → content ts ≡ Pattern b f → Fits RegExp (joined (texts_of (regular_expression b f))) Regex

-- Texts fit, in each style.
abbrev pub TextsFit : Type 0
TextsFit = (style : Style) → Fitting style
