-- What is read of a property of an object, and of one of a pattern, within the limit, as of other parts (`Ends`).
use Rattle.std.specs.Prelude.{ℕ, Bool, true, false, not, ◌&&◌, if◌then◌else◌, List, [], ◌∷◌, Option, None, Some, Ok}
use Rattle.base_token.specs.Kinds.{dot_dot_dot_kind}
use Rattle.tree_spec.specs.Tree.{Tree, spread_element, key_value_prop, key_value_pat_prop, assign_pat_prop, assign_pat, rest_pat, absent}
use Rattle.grammar_spec.specs.Tokens.Input.{Code}
use Rattle.grammar_spec.specs.Reader.Source.{unexpected, ◌>>=◌, Stream, Inner, Read, at}
use Rattle.grammar_spec.specs.Reader.Expressions.{prop_by}
use Rattle.grammar_spec.specs.Reader.Statements.{pattern_prop}
use Rattle.grammar_spec.specs.Reader.Reading.{readers}
use Rattle.parse_alone.specs.Ends.{async_end, heads_arrow}
use Rattle.parse_alone.specs.Within.{settled}
use Rattle.parse_recursion.specs.Items.{object_rest}

-- the expression with which a property ends
abbrev pub value_of : Tree → Tree
value_of (key_value_prop s k v) = v
value_of (spread_element s e) = e
value_of (key_value_pat_prop s k (assign_pat t p e)) = e
value_of (assign_pat_prop s b e) = e
value_of _ = absent

module _ {S : Type 0} (m : Stream S) where
  -- a property of a pattern, or its rest
  unfoldable pub item_by : Inner S → Code → Read S Tree
  item_by inner c s = if at m dot_dot_dot_kind s then object_rest m inner c s else pattern_prop m inner c s

  -- PropertyDefinition (13.2.5), BindingProperty and BindingRestProperty (14.3.3)
  unfoldable pub prop_part : ℕ → Code → Read S Tree
  prop_part limit c s = prop_by m (readers m limit) c s >>= settled m limit >>= λ x. if heads_arrow m (async_end c (value_of x.0)) x.1 then unexpected m x.1 else Ok x

  unfoldable pub item_part : ℕ → Code → Read S Tree
  item_part limit c s = item_by (readers m limit) c s >>= settled m limit >>= λ x. if heads_arrow m (async_end c (value_of x.0)) x.1 then unexpected m x.1 else Ok x

-- ---- properties of a pattern

abbrev pub is_rest : Tree → Bool
is_rest (rest_pat s d p) = true
is_rest _ = false

abbrev pub is_held : {A : Type 0} → Option A → Bool
is_held None = false
is_held (Some x) = true

-- A rest is the last one, and no comma stands behind it; the flag says whether a rest stands in front.
abbrev pub rests_last : Bool → Bool → List Tree → Bool
rests_last comma rest [] = not (comma && rest)
rests_last comma rest (p ∷ ps) = if rest then false else rests_last comma (is_rest p) ps
