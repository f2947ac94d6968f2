-- What holds of where names were read and where they are written, weakened.
use Rattle.std.proofs.Common.{ℕ, Bool, List}
use Rattle.print_layout_spec.specs.Looks.{Laid, nothing, one, meant, named, both, refused}
use Rattle.grammar_spec.specs.Tokens.Input.{Input}
use Rattle.again_laws.specs.Tokens.Spacings.{Spacing}
use Rattle.again_laws.specs.Tokens.Says.{Says}
use Rattle.again_laws.specs.Tiling.Tiles.{SaysTiles}

module _ (N M : ℕ → ℕ → Type 0) (to : (pos at : ℕ) → N pos at → M pos at) where
  -- What holds of the names that a layout says may be weakened.
  pub says_weaker : (f : Laid) (a : Spacing) (ts : Input) (b : Spacing) (r : Input) → Says N f a ts b r → Says M f a ts b r
  says_weaker nothing a ts b r h = h
  says_weaker (one x) a ts b r h = h
  says_weaker (meant m) a ts b r h = h
  says_weaker (named pos own) a ts b r h = record { said = h.said; stands = to pos.0 _ h.stands }
  says_weaker (both f g) a ts b r h = (h.0, h.1, says_weaker f a ts h.0 h.1 h.2, says_weaker g h.0 h.1 b r h.3)
  says_weaker refused a ts b r h = h

  pub tiles_weaker : (start : ℕ) (modules : Bool) (f : Laid) (text : List ℕ) → SaysTiles N start modules f text → SaysTiles M start modules f text
  tiles_weaker start modules f text h = record {
    places = h.places;
    tiles = h.tiles;
    goals = h.goals;
    gap = h.gap;
    over = h.over;
    says = says_weaker f _ _ h.gap h.over h.says;
    all = h.all;
  }
