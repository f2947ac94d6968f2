-- `new`, by what follows: the parts of `new_by` and `new_end`.
use Rattle.std.specs.Prelude.{ℕ, ◌&&◌, ◌||◌, ◌==◌, nat_le, nat_lt, if◌then◌else◌, Ok}
use Rattle.tree_spec.specs.Tree.{Tree, absent, list, new_expr, pack}
use Rattle.grammar_spec.specs.Tokens.Input.{Code}
use Rattle.grammar_spec.specs.Tokens.Operators.{call_level, goes_expr, member_level, new_level, other_end}
use Rattle.grammar_spec.specs.Tokens.Shape.{level}
use Rattle.grammar_spec.specs.Reader.Source.{unexpected, ◌>>=◌, Stream, Read, Inner, input, past, spanned}
use Rattle.grammar_spec.specs.Reader.Expressions.{arguments_by}

module _ {S : Type 0} (m : Stream S) where
  -- no arguments (13.3.5)
  unfoldable pub bare_new_by : Code → ℕ → Tree → Read S Tree
  bare_new_by c start f s =
      if (nat_le member_level (level f) || (level f == new_level)) && nat_lt (goes_expr c other_end (input m s)) call_level then Ok (new_expr (spanned m start s) f absent, s) else unexpected m s

module _ {S : Type 0} (m : Stream S) (inner : Inner S) where
  -- arguments (13.3.5)
  unfoldable pub new_call_by : Code → ℕ → Tree → Read S Tree
  new_call_by c start f s = arguments_by m inner c (past m s) >>= λ xs. Ok (new_expr (spanned m start xs.1) f (list (pack xs.0)), xs.1)
