-- Which tokens a source hands out to its end, and what is asked of a source.
use Rattle.std.specs.Prelude.{◌≡◌, ◌⊎◌, ◌<◌, ◌≤◌, ℕ, Bool, true, false, ◌||◌, ◌==◌, List, [], ◌∷◌}
use Rattle.base_token.specs.declared.context.Context.{Context}
use Rattle.base_token.specs.Kinds.{regex_kind, div_kind, div_assign_kind}
use Rattle.grammar_spec.specs.Tokens.Input.{PlacedToken, kind_of}
use Rattle.grammar_spec.specs.Reader.Source.{Stream}

-- an operator that a slash begins
abbrev pub is_slash : ℕ → Bool
is_slash k = (k == div_kind) || (k == div_assign_kind)

-- A slash is read again as a regular expression, in its place.
abbrev pub Rereads : PlacedToken → PlacedToken → Type 0
Rereads q p = (is_slash q.spot.token.kind ≡ true) × (p.spot.token.kind ≡ regex_kind) × (p.spot.lo ≡ q.spot.lo) × (p.spot.line_break ≡ q.spot.line_break)

-- at most one, and at most two
abbrev pub one : List PlacedToken → List PlacedToken
one [] = []
one (p ∷ ps) = p ∷ []

abbrev pub two : List PlacedToken → List PlacedToken
two [] = []
two (p ∷ ps) = p ∷ one ps

module _ {S : Type 0} (m : Stream S) where
  -- From this state on the source hands out these tokens, and ends. Each comes; or a slash comes that is read again as it.
  abbrev pub HandsOut : List PlacedToken → S → Type 0
  HandsOut [] s = m.seen s ≡ []
  HandsOut (p ∷ ps) s = ((qs : List PlacedToken) × (m.seen s ≡ p ∷ qs) × HandsOut ps (m.after s))
      ⊎ ((q : PlacedToken) × (qs : List PlacedToken) × (rs : List PlacedToken) × (m.seen s ≡ q ∷ qs) × Rereads q p × (m.seen (m.operand s) ≡ p ∷ rs) × HandsOut ps (m.after (m.operand s)))

-- What is asked of a source of a script's tokens, or of a module's, in the states that a reading comes to, which are live.
pub record Orderly {S : Type 0} (m : Stream S) (Live : S → Type 0) (modules : Bool) : Type 0 where
  -- behind the first token at most two more are seen, which come next
  pub behind : (s : S) (p : PlacedToken) (ps : List PlacedToken) → Live s → m.seen s ≡ p ∷ ps → ps ≡ two (m.seen (m.after s))
  -- the token that was taken ends there
  pub ends_at : (s : S) (p : PlacedToken) (ps : List PlacedToken) → Live s → m.seen s ≡ p ∷ ps → m.last (m.after s) ≡ p.spot.hi
  -- nothing but a slash is read again
  pub plain : (s : S) → Live s → is_slash (kind_of (m.seen s)) ≡ false → m.operand s ≡ s
  -- the code around changes no token, as long as it is of a script or of a module as before
  pub told : (x : Context) (s : S) (ps : List PlacedToken) → x.module_ ≡ modules → Live s → HandsOut m ps s → HandsOut m ps (m.retold x s)
  -- only taking a token moves on
  pub operand_last : (s : S) → Live s → m.last (m.operand s) ≡ m.last s
  pub turned_last : (x : Context) (s : S) → Live s → m.last (m.retold x s) ≡ m.last s
  -- each token that is taken lowers the bound, and nothing raises it
  pub falls : (s : S) (p : PlacedToken) (ps : List PlacedToken) → Live s → m.seen s ≡ p ∷ ps → m.bound (m.after s) < m.bound s
  pub operand_falls : (s : S) → Live s → m.bound (m.operand s) ≤ m.bound s
  pub turned_falls : (x : Context) (s : S) → Live s → m.bound (m.retold x s) ≤ m.bound s
  -- from such a state a reading comes to such states
  pub live_after : (s : S) → Live s → Live (m.after s)
  pub live_operand : (s : S) → Live s → Live (m.operand s)
  pub live_turned : (x : Context) (s : S) → x.module_ ≡ modules → Live s → Live (m.retold x s)
