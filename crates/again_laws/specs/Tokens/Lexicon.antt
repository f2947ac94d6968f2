-- What the texts of a layout mean as tokens, and where names stand: what a derivation asks of how names and literals are written.
use Rattle.std.specs.Prelude.{◌≡◌, ℕ, ◌||◌, Bool, true, List, Option, Some, is_some}
use Rattle.std.specs.Char.Escape.{encode_utf16}
use Rattle.std.specs.List.{flat_map}
use Rattle.std.specs.Str.{chars}
use Rattle.base_number.specs.Numbers.{SpecNumber}
use Rattle.base_token.specs.Kinds.{str_kind, num_kind, big_int_kind, name_kind, template_kind, regex_kind}
use Rattle.base_token.specs.Operators.{operator_text}
use Rattle.base_token.specs.Words.{own_text}
use Rattle.base_token.specs.Tokens.{Content, Quoted, Numeral, BigNumeral, Piece, Pattern}
use Rattle.lex_token.specs.declared.goal.LexicalGoal.TheVariants.{Div, RegExp, TemplateTail, TemplateEnd}
use Rattle.print_spelling.specs.declared.style.Style.{Style}
use Rattle.print_spelling.specs.Number.Numbers.{before_member}
use Rattle.print_spelling.specs.String.Names.{is_quoted_key}
use Rattle.grammar_spec.specs.Tokens.Input.{Input, is_word, kind, content, text, text_in, rest}
use Rattle.print_layout_spec.specs.Looks.{regular_expression, joined, texts_of}
use Rattle.print_layout_spec.specs.Literals.{name_bytes, key_bytes, string_bytes, number_bytes, big_bytes, quasi_bytes}
use Rattle.print_layout_spec.specs.Words.{sign_of}
use Rattle.again_laws.specs.Tokens.Texts.{mark_text, ending_text, word_text, is_strict_text}
use Rattle.again_laws.specs.Tokens.Means.{Means, TellsKinds, Known}
use Rattle.again_laws.specs.Tokens.Naming.{Naming}

pub record Lexicon (style : Style) : Type 0 where
  -- where names stand
  pub naming : Naming
  -- behind a token that was read are such tokens
  pub later : (ts m : Input) → rest ts ≡ m → Known ts.places → Known m.places
  -- Punctuators, words and operators are tokens of their kind, without an escape.
  pub marks : TellsKinds Div mark_text
  pub words : TellsKinds Div own_text
  pub keywords : TellsKinds Div word_text
  pub signs : TellsKinds Div sign_of
  pub operators : TellsKinds Div operator_text
  pub endings : TellsKinds TemplateEnd ending_text
  -- The text of a word that was read is that word again, and has an escape only where it is no reserved word.
  pub names : (ts : Input) (j : ℕ) (x : Content) (e : Bool) → Known ts.places → is_word (kind ts) ≡ true → Means Div (name_bytes style (text ts)) j x e
      → (j ≡ kind ts) × (text_in x ≡ text ts) × (e ≡ true → j ≡ name_kind)
  -- A word as a key that is written as a string is a string of the word's units.
  pub quoted_keys : (ts : Input) (j : ℕ) (x : Content) (e : Bool) → Known ts.places → is_word (kind ts) ≡ true → is_quoted_key style (chars (text ts)) ≡ true
      → Means Div (key_bytes style (text ts)) j x e → (j ≡ str_kind) × (x ≡ Quoted (flat_map encode_utf16 (chars (text ts))) (key_bytes style (text ts)))
  -- The text of a literal that was read is a literal of the same value, by that text.
  pub strings : (ts : Input) (u w : List ℕ) (j : ℕ) (x : Content) (e : Bool) → Known ts.places → content ts ≡ Quoted u w → Means Div (string_bytes style u (Some w)) j x e
      → (j ≡ str_kind) × (x ≡ Quoted u (string_bytes style u (Some w)))
  pub numbers : (ts : Input) (v : SpecNumber) (w : List ℕ) (j : ℕ) (x : Content) (e : Bool) → Known ts.places → content ts ≡ Numeral v w → Means Div (number_bytes style v (Some w)) j x e
      → (j ≡ num_kind) × (x ≡ Numeral v (number_bytes style v (Some w)))
  -- a number before a point
  pub pointed : (ts : Input) (v : SpecNumber) (w : List ℕ) (j : ℕ) (x : Content) (e : Bool) → Known ts.places → content ts ≡ Numeral v w → Means Div (before_member (number_bytes style v (Some w))) j x e
      → (j ≡ num_kind) × (x ≡ Numeral v (before_member (number_bytes style v (Some w))))
  pub big_integers : (ts : Input) (radix : ℕ) (digits w : List ℕ) (j : ℕ) (x : Content) (e : Bool) → Known ts.places → content ts ≡ BigNumeral radix digits w → Means Div (big_bytes style radix digits (Some w)) j x e
      → (j ≡ big_int_kind) × (x ≡ BigNumeral radix digits (big_bytes style radix digits (Some w)))
  -- characters of a template, which have cooked units where no tag stands before it
  pub characters : (ts : Input) (tagged : Bool) (w : List ℕ) (u : Option (List ℕ)) (j : ℕ) (x : Content) (e : Bool) → Known ts.places → content ts ≡ Piece w u → (tagged || is_some u) ≡ true
      → Means TemplateTail (quasi_bytes style tagged w) j x e → (j ≡ template_kind) × (x ≡ Piece (quasi_bytes style tagged w) u)
  pub patterns : (ts : Input) (b f : List ℕ) (j : ℕ) (x : Content) (e : Bool) → Known ts.places → content ts ≡ Pattern b f → Means RegExp (joined (texts_of (regular_expression b f))) j x e
      → (j ≡ regex_kind) × (x ≡ Pattern b f)
  -- A directive stays one, and what was none becomes none (11.2.1).
  pub strict_kept : (ts : Input) (u w : List ℕ) → Known ts.places → content ts ≡ Quoted u w → is_strict_text (string_bytes style u (Some w)) ≡ is_strict_text w
