-- Where the content of a known token comes from.
use Rattle.std.proofs.Common.{◌≡◌, ℕ, ◌⊎◌, inl, inr, Bool, true, List, [], ◌∷◌, ◌++◌, refl, sym, subst}
use Rattle.std.specs.Prelude.{encode_utf8_all}
use lib.Utf8.{scalars}
use Rattle.base_token.specs.Tokens.{SpecToken, Content, Bare, Named, Quoted, Piece, Pattern, Numeral, BigNumeral, Line, Faulty}
use Rattle.lex_source.specs.Machine.{told}
use Rattle.lex_pieces.specs.Names.{IsName}
use Rattle.lex_pieces.specs.RegExps.{IsRegExp}
use Rattle.lex_literal.specs.declared.template.Ending.{Ending}
use Rattle.lex_literal.specs.Numbers.{Meaning, Number, BigInt, SpellsNumber}
use Rattle.lex_literal.specs.Strings.{SpellsString}
use Rattle.lex_literal.specs.Templates as templates
use Rattle.lex_token.specs.declared.goal.LexicalGoal.{LexicalGoal}
use Rattle.lex_token.specs.declared.goal.LexicalGoal.TheVariants.{Div, RegExp, TemplateTail, TemplateEnd}
use Rattle.lex_token.specs.Lexemes.{SpecLexeme, IsLexeme, IsOutside}
use Rattle.grammar_spec.specs.Tokens.Input.{PlacedToken, Input, content, content_of}
use Rattle.again_laws.specs.Tokens.Means.{IsRead, IsHashbangRead, Known}

abbrev pub Origin : List ℕ → List ℕ → Content → Type 0
Origin from behind Bare = Unit {0}
Origin from behind (Named n) = (name : List ℕ) × IsName from name behind × (n ≡ encode_utf8_all name)
Origin from behind (Quoted u w) = (own : List ℕ) × (legacy : Bool) × SpellsString u legacy from behind × (from ≡ own ++ behind) × (w ≡ encode_utf8_all own)
Origin from behind (Piece w u) = (own : List ℕ) × (ending : Ending) × (more : List ℕ) × templates.SpellsPiece own u ending from more × templates.Ends ending behind more × (w ≡ encode_utf8_all own)
Origin from behind (Pattern b f) = (body : List ℕ) × (flags : List ℕ) × IsRegExp from body flags behind × (b ≡ encode_utf8_all body) × (f ≡ encode_utf8_all flags)
Origin from behind (Numeral v w) = (own : List ℕ) × SpellsNumber (Number v) own from behind × (w ≡ encode_utf8_all own)
Origin from behind (BigNumeral radix digits w) = (own : List ℕ) × SpellsNumber (BigInt radix digits) own from behind × (w ≡ encode_utf8_all own)
Origin from behind (Line text) = Unit {0}
Origin from behind (Faulty e) = Unit {0}

abbrev Of : List ℕ → List ℕ → SpecLexeme → Type 0
Of from behind l = Origin from behind (told l.token).content

numeral : (m : Meaning) (own from behind : List ℕ) → SpellsNumber m own from behind → Of from behind (Rattle.lex_token.specs.Lexemes.numeral_lexeme m own)
numeral (Number v) own from behind h = (own, h, refl)
numeral (BigInt radix digits) own from behind h = (own, h, refl)

outside : (goal : LexicalGoal) (from : List ℕ) (l : SpecLexeme) (behind : List ℕ) → IsOutside goal from l behind → Of from behind l
outside goal from l behind (inl (inl h)) = subst (λ (x : SpecLexeme). Of from behind x) (sym h.4) (h.0, h.2, refl)
outside goal from l behind (inl (inr (inl h))) = subst (λ (x : SpecLexeme). Of from behind x) (sym h.3) (numeral h.0 h.1 from behind h.2)
outside goal from l behind (inl (inr (inr h))) = subst (λ (x : SpecLexeme). Of from behind x) (sym h.5) (h.1, h.2, h.3, h.4, refl)
outside goal from l behind (inr (inl h)) = subst (λ (x : SpecLexeme). Of from behind x) (sym h.1.3) (h.1.0, h.1.1, h.1.2, refl, refl)
outside goal from l behind (inr (inr h)) = subst (λ (x : SpecLexeme). Of from behind x) (sym h.1.2) tt

pub origin : (goal : LexicalGoal) (from : List ℕ) (l : SpecLexeme) (behind : List ℕ) → IsLexeme goal from l behind → Of from behind l
origin Div from l behind h = outside Div from l behind h
origin RegExp from l behind h = outside RegExp from l behind h
origin TemplateTail from l behind h = subst (λ (x : SpecLexeme). Of from behind x) (sym h.6) (h.0, h.2, h.3, h.4, h.5, refl)
origin TemplateEnd from l behind h = subst (λ (x : SpecLexeme). Of from behind x) (sym h.2) tt

-- The content of the first known token, from characters that are scalars.
pub record From (x : Content) : Type 0 where
  pub from : List ℕ
  pub behind : List ℕ
  pub are_scalars : scalars from ≡ true
  pub origin : Origin from behind x

bare_from : From Bare
bare_from = record { from = []; behind = []; are_scalars = refl; origin = tt }

place_from : (p : PlacedToken) → IsRead p ⊎ IsHashbangRead p → From p.spot.token.content
place_from p (inl h) = record { from = h.1; behind = h.3; are_scalars = h.4; origin = subst (λ (t : SpecToken). Origin h.1 h.3 t.content) (sym h.6) (origin h.0 h.1 h.2 h.3 h.5) }
place_from p (inr h) = subst (λ (t : SpecToken). From t.content) (sym h.2) (record { from = []; behind = []; are_scalars = refl; origin = tt })

pub known_from : (ps : List PlacedToken) → Known ps → From (content_of ps)
known_from [] k = bare_from
known_from (p ∷ ps) k = place_from p k.0

pub from_of : (ts : Input) (x : Content) → Known ts.places → content ts ≡ x → From x
from_of ts x k e = subst (λ (y : Content). From y) e (known_from ts.places k)
