-- What is read of a part of a program (`grammar_text_spec`, `Fronts`): its reading function answers a tree, by calls as deep as the limit; the tree nests
-- no deeper; nothing of a cover is left in it; and the front is complete. What is read goes on as far as it can, so only what ends with the word `async` may
-- be a front that isn't.
use Rattle.std.specs.Prelude.{ℕ, Bool, not, ◌&&◌, ◌||◌, if◌then◌else◌, List, [], ◌∷◌, ◌++◌, Ok}
use Rattle.base_token.specs.Kinds.{comma_kind, dot_dot_dot_kind, left_bracket_kind, left_brace_kind}
use Rattle.tree_spec.specs.Tree.{Tree, pack, list}
use Rattle.grammar_spec.specs.Tokens.Input.{Code}
use Rattle.grammar_spec.specs.Tokens.Shape.{last_of}
use Rattle.grammar_spec.specs.Reader.Source.{unexpected, ◌>>=◌, Stream, Inner, State, Read, past, bound, at, is_name, Step, go_on, finished, iterate}
use Rattle.grammar_spec.specs.Reader.Expressions.{key_by, parameter_by, is_rest_param}
use Rattle.grammar_spec.specs.Reader.Reading.{readers}
use Rattle.parse_alone.specs.Ends.{async_end, heads_arrow, last_initial}
use Rattle.parse_alone.specs.Within.{settled}

module _ {S : Type 0} (m : Stream S) where
  -- ---- parameters without their parentheses (15.1)

  -- a name, a pattern or dots
  abbrev pub starts_param : Code → State S → Bool
  starts_param c s = is_name m c s || (at m left_bracket_kind s || (at m left_brace_kind s || at m dot_dot_dot_kind s))

  unfoldable pub bare_step : Inner S → Code → List Tree → Read S (Step (List Tree))
  bare_step inner c ps s =
      if starts_param c s then (parameter_by m inner c s >>= λ p.
      if at m comma_kind p.1 && not (is_rest_param m inner p.0) then Ok (go_on (ps ++ p.0 ∷ []), past m p.1) else Ok (finished (ps ++ p.0 ∷ []), p.1))
      else Ok (finished ps, s)

  -- as many as stand there; a comma may follow the last one, where that is no rest
  unfoldable pub bare_by : Inner S → Code → Read S (List Tree)
  bare_by inner c s = iterate (bound m) (bare_step inner c) [] s

  abbrev pub as_list : List Tree × State S → Tree × State S
  as_list x = (list (pack x.0), x.1)

  -- ---- parts within the limit

  -- Expression (13.16), AssignmentExpression (13.15)
  unfoldable pub expression_part : ℕ → ℕ → Code → Read S Tree
  expression_part l limit c s = (readers m limit).expr c l s >>= settled m limit >>= λ x. if heads_arrow m (async_end c (last_of x.0)) x.1 then unexpected m x.1 else Ok x

  -- a name or a pattern that binds (14.3.3)
  unfoldable pub binding_part : ℕ → Code → Read S Tree
  binding_part limit c s = (readers m limit).pat c s >>= settled m limit

  -- PropertyName (13.2.5)
  unfoldable pub key_part : ℕ → Code → Read S Tree
  key_part limit c s = key_by m (readers m limit) c s >>= settled m limit

  -- FormalParameters (15.1)
  unfoldable pub parameters_part : ℕ → Code → Read S Tree
  parameters_part limit c s = bare_by (readers m limit) c s >>= λ x. settled m limit (as_list x) >>= λ y. if heads_arrow m (async_end c (last_initial x.0)) y.1 then unexpected m y.1 else Ok y
