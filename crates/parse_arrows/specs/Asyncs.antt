-- What follows the word `async`.
use Rattle.std.specs.Prelude.{ℕ, true, not, ◌&&◌, if◌then◌else◌, List, [], ◌∷◌}
use Rattle.base_token.specs.Kinds.{function_kind, left_paren_kind}
use Rattle.tree_spec.specs.Span.{Span}
use Rattle.tree_spec.specs.Tree.{Tree, ident, binding_ident}
use Rattle.grammar_spec.specs.Tokens.Input.{Code, barred, brk}
use Rattle.grammar_spec.specs.Reader.Source.{◌>>=◌, Stream, Read, Inner, input, at, name}
use Rattle.grammar_spec.specs.Reader.Expressions.{arrow_by, async_group, first, function_expr_by, ident_end, is_async_param}

module _ {S : Type 0} (m : Stream S) (inner : Inner S) where
  -- a name and an arrow (15.9)
  unfoldable pub async_arrow : Code → ℕ → Read S Tree
  async_arrow c start r = name m c r >>= λ x. arrow_by m inner c start true (binding_ident (first m inner r) (ident (first m inner r) x.0) ∷ []) x.1

  -- a function, an arrow, a call, or a name
  unfoldable pub async_end : Code → ℕ → Span → List ℕ → Read S Tree
  async_end c l place n r =
      if (at m function_kind r && not (brk (input m r))) && not (barred c.context (input m r)) then function_expr_by m inner c place.lo.0 true r
      else (if is_async_param m inner c l r then async_arrow c place.lo.0 r
      else (if at m left_paren_kind r && not (brk (input m r)) then async_group m inner c l place n r
      else ident_end m inner c l place n r))
