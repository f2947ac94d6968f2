-- Tokens as definitions see them: a kind, and what a token of that kind holds (ECMA-262, clause 12).
use Rattle.std.specs.Prelude.{ℕ, Bool, false, List, [], ◌∷◌, Option}
use Rattle.base_token.specs.Kinds.{end_kind}
use Rattle.base_token.specs.Words.{SpecWord}
use Rattle.base_number.specs.Numbers.{SpecNumber}
use Rattle.base_token.specs.declared.error.Error.{Error}

-- What a token holds besides its kind: nothing, the text of a word, the units and the spelling of a string,
-- the spelling and the units of a piece of a template, a regular expression and its flags, the value and
-- the spelling of a number, radix, digits and spelling of a big integer, the text of a hashbang, a fault.
pub data Content : Type 0 where
  Bare : Content
  Named : List ℕ → Content
  Quoted : List ℕ → List ℕ → Content
  Piece : List ℕ → Option (List ℕ) → Content
  Pattern : List ℕ → List ℕ → Content
  Numeral : SpecNumber → List ℕ → Content
  BigNumeral : ℕ → List ℕ → List ℕ → Content
  Line : List ℕ → Content
  Faulty : Error → Content

pub record SpecToken : Type 0 where
  pub kind : ℕ
  pub content : Content

-- a token that its kind alone tells
abbrev pub bare : ℕ → SpecToken
bare kind = record { kind = kind; content = Bare }

-- the token of a word
abbrev pub word_token : SpecWord → SpecToken
word_token word = record { kind = word.kind; content = Named word.text }

-- a token in its text: from `lo` up to `hi`, and whether a line break stands before it
pub record Spot : Type 0 where
  pub token : SpecToken
  pub line_break : Bool
  pub lo : ℕ
  pub hi : ℕ

-- the kind of the first token, or that of the end
abbrev pub kind_at : List Spot → ℕ
kind_at [] = end_kind
kind_at (spot ∷ spots) = spot.token.kind

-- whether a line break stands before the first token
abbrev pub break_at : List Spot → Bool
break_at [] = false
break_at (spot ∷ spots) = spot.line_break

-- what the first token holds
abbrev pub content_at : List Spot → Content
content_at [] = Bare
content_at (spot ∷ spots) = spot.token.content

-- the tokens after the first
abbrev pub after : List Spot → List Spot
after [] = []
after (spot ∷ spots) = spots
