-- Items of patterns that are being read.
use Rattle.std.specs.Prelude.{ℕ, Bool, true, false, not, ◌&&◌, if◌then◌else◌, List, [], ◌∷◌, ◌++◌, Result, Ok}
use Rattle.base_token.specs.declared.place.Span.{Span}
use Rattle.base_token.specs.Kinds.{comma_kind, assign_kind, right_brace_kind}
use Rattle.tree_spec.specs.Tree.{Tree, rest_pat, assign_pat_prop, binding_ident, ident, absent}
use Rattle.grammar_spec.specs.Tokens.Input.{Code, lo, dots_at, with_in}
use Rattle.grammar_spec.specs.Tokens.Operators.{assignment_level}
use Rattle.grammar_spec.specs.Tokens.Shape.{is_structured}
use Rattle.grammar_spec.specs.Reader.Source.{Fault, unexpected, ◌>>=◌, Stream, State, Inner, Read, past, at, eat, spanned, iterate, bound, here, Step}
use Rattle.grammar_spec.specs.Reader.Statements.{after_item, initial_pat, array_item, object_item}

-- what follows an item: a comma and more, which none is after a rest; or what closes the list
unfoldable pub after_by : {S : Type 0} → Stream S → ℕ → Bool → State S → Result (Bool × State S) Fault
after_by m close last s = if at m comma_kind s && not last then Ok (true, past m s) else (eat m close s >>= λ r. Ok (false, r))

module _ {S : Type 0} (m : Stream S) (inner : Inner S) where
  -- an item with an initialiser or without (14.3.3)
  unfoldable pub item_by : Code → Read S Tree
  item_by c s = inner.pat (with_in c) s >>= λ p. initial_pat m inner c (here m s) p.0 p.1

  -- a rest, from its dots on (14.3.3)
  unfoldable pub rest_by : Code → Read S Tree
  rest_by c s = inner.pat (with_in c) (past m s) >>= λ p. Ok (rest_pat (spanned m (here m s) p.1) (dots_at (here m s)) p.0, p.1)

  -- a rest of an object, which takes no pattern (14.3.3)
  unfoldable pub object_rest : Code → Read S Tree
  object_rest c s = inner.pat (with_in c) (past m s) >>= λ p. if is_structured p.0 then unexpected m p.1 else Ok (rest_pat (spanned m (here m s) p.1) (dots_at (here m s)) p.0, p.1)

  -- a rest of an object and what closes it, behind the properties so far (14.3.3)
  unfoldable pub rest_item : Code → List Tree → Read S (Step (List Tree))
  rest_item c xs s = inner.pat (with_in c) (past m s) >>= λ p. if is_structured p.0 then unexpected m p.1 else after_item m inner right_brace_kind true (xs ++ rest_pat (spanned m (here m s) p.1) (dots_at (here m s)) p.0 ∷ []) p.1

  -- what follows a name that is both key and binding (14.3.3)
  unfoldable pub named_rest : Code → Span → List ℕ → Read S Tree
  named_rest c place name s =
      if at m assign_kind s then (inner.expr (with_in c) assignment_level (past m s) >>= λ e. Ok (assign_pat_prop (spanned m place.lo.0 e.1) (binding_ident place (ident place name)) e.0, e.1))
      else Ok (assign_pat_prop place (binding_ident place (ident place name)) absent, s)

  -- the items of an array, after its bracket (14.3.3)
  unfoldable pub array_items : Code → Read S (List Tree)
  array_items c s = iterate (bound m) (array_item m inner c) [] s

  -- the properties of an object, after its brace (14.3.3)
  unfoldable pub object_items : Code → Read S (List Tree)
  object_items c s = iterate (bound m) (object_item m inner c) [] s
