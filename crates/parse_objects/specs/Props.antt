-- A property, by what starts it: the parts of `prop_by` and `prop_rest`.
use Rattle.std.specs.Prelude.{ℕ, Bool, true, false, if◌then◌else◌, List, Option, Some, None, Ok}
use Rattle.base_token.specs.declared.place.Span.{Span}
use Rattle.base_token.specs.Kinds.{assign_kind, colon_kind, left_paren_kind}
use Rattle.tree_spec.specs.Tree.{Tree, assign_prop, ident, ident_name, key_value_prop, method_prop, spread_element}
use Rattle.grammar_spec.specs.Tokens.Input.{Code, lo, span, with_in}
use Rattle.grammar_spec.specs.Tokens.Operators.{assignment_level}
use Rattle.grammar_spec.specs.Reader.Source.{unexpected, ◌>>=◌, Stream, Read, Inner, input, past, at, spanned, here}
use Rattle.grammar_spec.specs.Reader.Expressions.{function_by, key_by, method_prop_by, prop_rest, star}

-- the word that a key is, where that is a name here
abbrev pub word_of : Bool → Tree → Option (List ℕ)
word_of false k = None
word_of true (ident_name s n) = Some n
word_of true _ = None

module _ {S : Type 0} (m : Stream S) (inner : Inner S) where
  -- a name as a property, with an initialiser in a cover (13.2.5)
  unfoldable pub shorthand_by : Code → Span → List ℕ → Read S Tree
  shorthand_by c place n s =
      if at m assign_kind s then (inner.expr (with_in c) assignment_level (past m s) >>= λ e. Ok (assign_prop (span place.lo.0 (m.last e.1.source)) (ident place n) e.0, e.1))
      else Ok (ident place n, s)

  -- what follows a key, which stands in a place
  unfoldable pub prop_end : Code → Span → Option (List ℕ) → Tree → Read S Tree
  prop_end c place word k s =
      if at m colon_kind s then (inner.expr (with_in c) assignment_level (past m s) >>= λ v. Ok (key_value_prop (span place.lo.0 (m.last v.1.source)) k v.0, v.1))
      else (if at m left_paren_kind s then (function_by m inner c place.lo.0 false false s >>= λ f. Ok (method_prop (span place.lo.0 (m.last f.1.source)) k f.0, f.1))
      else elim word [ None ↦ unexpected m s | Some n ↦ shorthand_by c place n s ])

  -- a property that starts with its key (13.2.5)
  unfoldable pub keyed_by : Code → Read S Tree
  keyed_by c s = key_by m inner c s >>= λ k. prop_rest m inner c s k.0 k.1

  -- `...` and an expression (13.2.5)
  abbrev pub spread_by : Code → Read S Tree
  spread_by c s = inner.expr (with_in c) assignment_level (past m s) >>= λ e. Ok (spread_element (spanned m (here m s) e.1) e.0, e.1)

  -- a generator (15.5)
  abbrev pub generator_by : Code → Read S Tree
  generator_by c s = method_prop_by m inner c (lo (input m s)) true false (past m s)

  -- a method after `async`, with a star or without (15.6, 15.8)
  abbrev pub async_by : Code → Read S Tree
  async_by c s = star m inner (past m s) >>= λ g. method_prop_by m inner c (lo (input m s)) g.0 true g.1
