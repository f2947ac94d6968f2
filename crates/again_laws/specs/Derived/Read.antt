-- What the leaves of a tree were read from: the content of a token that is known.
use Rattle.std.specs.Prelude.{◌≡◌, ℕ, true, false, List, Option, Some}
use Rattle.base_number.specs.Numbers.{SpecNumber}
use Rattle.base_token.specs.Tokens.{Content, Quoted, Numeral, BigNumeral, Piece, Pattern}
use Rattle.base_token.specs.declared.place.Span.{Span}
use Rattle.tree_spec.specs.Tree.{Tree, ident, ident_name, private_name, str_lit, number_lit, big_int_lit, regex_lit, tpl, tpl_element}
use Rattle.grammar_spec.specs.Tokens.Input.{PlacedToken, Input, rest, lo, content, is_word, kind, text}
use Rattle.grammar_spec.specs.Tokens.Shape.{is_cooked}
use Rattle.again_laws.specs.Derived.Redo.{Mode, is_tagged}
use Rattle.again_laws.specs.Derived.Faithful.{AreElements}

-- What is known of the tokens of an input, and so of those after the first.
pub record Knowledge : Type 1 where
  pub Known : List PlacedToken → Type 0
  pub later : (ts m : Input) → rest ts ≡ m → Known ts.places → Known m.places

module _ (Known : List PlacedToken → Type 0) where
  -- A known token has this content.
  pub record Told (x : Content) : Type 0 where
    pub at : Input
    pub known : Known at.places
    pub is : content at ≡ x

  -- A known token is a word of these characters.
  pub record ReadWord (name : List ℕ) : Type 0 where
    pub at : Input
    pub known : Known at.places
    pub word : is_word (kind at) ≡ true
    pub is : text at ≡ name

  -- The same, where it is a name that begins where its token does.
  pub record ReadName (span : Span) (name : List ℕ) : Type 0 where
    pub at : Input
    pub known : Known at.places
    pub word : is_word (kind at) ≡ true
    pub is : text at ≡ name
    pub begins : span.lo.0 ≡ lo at

  -- A literal with its raw text, which a known token has.
  pub record ReadString (units : List ℕ) (raw : Option (List ℕ)) : Type 0 where
    pub own : List ℕ
    pub is : raw ≡ Some own
    pub told : Told (Quoted units own)

  pub record ReadNumber (value : SpecNumber) (raw : Option (List ℕ)) : Type 0 where
    pub own : List ℕ
    pub is : raw ≡ Some own
    pub told : Told (Numeral value own)

  pub record ReadBig (radix : ℕ) (digits : List ℕ) (raw : Option (List ℕ)) : Type 0 where
    pub own : List ℕ
    pub is : raw ≡ Some own
    pub told : Told (BigNumeral radix digits own)

  -- Each leaf was read from a known token; the pieces of a template are pieces, and those of an untagged one have no bad escape (13.2.8.1).
  abbrev pub Read : Mode → Tree → Type 0
  Read mode (ident span name) = ReadName span name
  Read mode (ident_name span name) = ReadWord name
  Read mode (private_name span name) = ReadWord name
  Read mode (str_lit span units raw) = ReadString units raw
  Read mode (number_lit span value raw) = ReadNumber value raw
  Read mode (big_int_lit span radix digits raw) = ReadBig radix digits raw
  Read mode (regex_lit span body flags) = Told (Pattern body flags)
  Read mode (tpl span exprs quasis) = AreElements quasis
  Read mode (tpl_element span tail raw cooked) = Told (Piece raw cooked) × (is_tagged mode ≡ false → is_cooked (tpl_element span tail raw cooked) ≡ true)
  Read mode _ = Unit {0}
