-- The kinds of the tokens before those that are left.
use Rattle.std.proofs.Common.{◌≡◌, ℕ, ◌<◌, inl, inr, Bool, false, List, [], ◌∷◌, length, ap, subst, ◌∙◌, arith}
use Rattle.std.specs.Prelude.{if◌then◌else◌, ◌==◌, codes}
use Rattle.std.proofs.lemmas.Bool.Decides.{nat_tests}
use Rattle.base_proofs.proofs.Bools.{eqb_same}
use Rattle.base_token.specs.Tokens.{SpecToken}
use Rattle.lex_token.specs.declared.goal.LexicalGoal.{LexicalGoal}
use Rattle.lex_token.specs.declared.goal.LexicalGoal.TheVariants.{Div}
use Rattle.grammar_spec.specs.Tokens.Input.{PlacedToken, Input}
use Rattle.print_pages_spec.specs.Pieces.{Piece, Text, Brace, Blank, Line, Deeper, Back, Semicolon, Commit, Mark}
use Rattle.print_layout_spec.specs.Looks.{Meaning, regular_expression, template_characters, template_end, hashbang_comment, touching, Laid, nothing, one, meant, named, both, refused}
use Rattle.again_laws.specs.Tokens.Spacings.{Spacing}
use Rattle.again_laws.specs.Tokens.Ties.{kind_before, KindsBefore}
use Rattle.again_laws.specs.Tokens.Says.{IsFirst, IsSaid, SaysPiece, SaysTexts, SaysMeaning, Says}

-- ---- each list of tokens tells its own

kinds_map : (f g : ℕ → ℕ) (ps : List PlacedToken) → ((n : ℕ) → n < length ps → f n ≡ g n) → KindsBefore g ps → KindsBefore f ps
kinds_map f g [] e k = tt
kinds_map f g (p ∷ ps) e k = (e (length ps) (omega arith) ∙ k.0, kinds_map f g ps (λ n l. e n (omega (arith, l))) k.1)

other_number : (n m : ℕ) → n < m → (n == m) ≡ false
other_number n m l = grind (arith, nat_tests, l)

pub kinds_stand : (ps : List PlacedToken) → KindsBefore (kind_before ps) ps
kinds_stand [] = tt
kinds_stand (p ∷ ps) = (
  ap (λ (b : Bool). if b then p.spot.token.kind else kind_before ps (length ps)) (eqb_same (length ps)),
  kinds_map (kind_before (p ∷ ps)) (kind_before ps) ps (λ n l. ap (λ (b : Bool). if b then p.spot.token.kind else kind_before ps n) (other_number n (length ps) l)) (kinds_stand ps),
)

-- ---- what a layout says is told of what is left

module _ (f : ℕ → ℕ) where
  first_kinds : (token : SpecToken) (escaped : Bool) (size : ℕ) (a : Spacing) (ts r : Input) → IsFirst token escaped size a ts r → KindsBefore f ts.places → (f (length r.places) ≡ token.kind) × KindsBefore f r.places
  first_kinds token escaped size a ts r h k =
      let w = subst (λ (ps : List PlacedToken). KindsBefore f ps) h.whole k in
      (w.0 ∙ ap (λ (x : SpecToken). x.kind) h.token_is, w.1)

  same_kinds : (ts r : Input) → ts ≡ r → KindsBefore f ts.places → KindsBefore f r.places
  same_kinds ts r e k = subst (λ (i : Input). KindsBefore f i.places) e k

  pub said_kinds : (goal : LexicalGoal) (own : List ℕ) (a : Spacing) (ts : Input) (b : Spacing) (r : Input) → IsSaid goal own a ts b r → KindsBefore f ts.places → KindsBefore f r.places
  said_kinds goal own a ts b r h k = (first_kinds _ _ _ a ts r h.first k).1

  piece_kinds : (x : Piece) (a : Spacing) (ts : Input) (b : Spacing) (r : Input) → SaysPiece x a ts b r → KindsBefore f ts.places → KindsBefore f r.places
  piece_kinds (Text span own) a ts b r h k = said_kinds Div own a ts b r h k
  piece_kinds (Brace span) a ts b r h k = said_kinds Div (codes "}") a ts b r h k
  piece_kinds Blank a ts b r h k = same_kinds ts r h.1 k
  piece_kinds Line a ts b r h k = same_kinds ts r h.1 k
  piece_kinds Deeper a ts b r h k = same_kinds ts r h.1 k
  piece_kinds Back a ts b r h k = same_kinds ts r h.1 k
  piece_kinds (Semicolon span) a ts b r (inl h) k = said_kinds Div (codes ";") a ts b r h k
  piece_kinds (Semicolon span) a ts b r (inr h) k = same_kinds ts r h.1 k
  piece_kinds Commit a ts b r h k = same_kinds ts r h.1 k
  piece_kinds (Mark pos) a ts b r h k = same_kinds ts r h.1 k

  texts_kinds : (texts : List (List ℕ)) (a : Spacing) (ts : Input) (b : Spacing) (r : Input) → SaysTexts texts a ts b r → KindsBefore f ts.places → KindsBefore f r.places
  texts_kinds [] a ts b r h k = same_kinds ts r h.1 k
  texts_kinds (own ∷ others) a ts b r h k = texts_kinds others h.0 h.1 b r h.3 (said_kinds Div own a ts h.0 h.1 h.2 k)

  meaning_kinds : (m : Meaning) (a : Spacing) (ts : Input) (b : Spacing) (r : Input) → SaysMeaning m a ts b r → KindsBefore f ts.places → KindsBefore f r.places
  meaning_kinds (regular_expression body flags) a ts b r h k = said_kinds _ _ a ts b r h k
  meaning_kinds (template_characters own) a ts b r h k = said_kinds _ own a ts b r h k
  meaning_kinds (template_end own) a ts b r h k = said_kinds _ own a ts b r h k
  meaning_kinds (hashbang_comment own) a ts b r h k = (first_kinds _ _ _ a ts r h.first k).1
  meaning_kinds (touching texts) a ts b r h k = texts_kinds texts a ts b r h k

  pub kinds_on : (N : ℕ → ℕ → Type 0) (x : Laid) (a : Spacing) (ts : Input) (b : Spacing) (r : Input) → Says N x a ts b r → KindsBefore f ts.places → KindsBefore f r.places
  kinds_on N nothing a ts b r h k = same_kinds ts r h.1 k
  kinds_on N (one x) a ts b r h k = piece_kinds x a ts b r h k
  kinds_on N (meant m) a ts b r h k = meaning_kinds m a ts b r h k
  kinds_on N (named pos own) a ts b r h k = said_kinds Div own a ts b r h.said k
  kinds_on N (both x y) a ts b r h k = kinds_on N y h.0 h.1 b r h.3 (kinds_on N x a ts h.0 h.1 h.2 k)
  kinds_on N refused a ts b r h k = absurd h

  -- Behind the first token stands its kind.
  pub first_behind : (token : SpecToken) (escaped : Bool) (size : ℕ) (a : Spacing) (ts r : Input) → IsFirst token escaped size a ts r → KindsBefore f ts.places → f (length r.places) ≡ token.kind
  first_behind token escaped size a ts r h k = (first_kinds token escaped size a ts r h k).0
