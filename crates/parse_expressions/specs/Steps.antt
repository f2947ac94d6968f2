-- One operator after what was read, by the token that starts it: the parts of `step_by`.
use Rattle.std.specs.Prelude.{ℕ, true, false, not, ◌&&◌, ◌==◌, nat_le, if◌then◌else◌, Ok}
use Rattle.base_token.specs.Kinds.{dot_kind}
use Rattle.tree_spec.specs.Tree.{Tree, update_expr, tagged_tpl}
use Rattle.grammar_spec.specs.Tokens.Input.{Code, kind, kind2, brk}
use Rattle.grammar_spec.specs.Tokens.Operators.{assignment_level, coalesce_level, new_level, call_level}
use Rattle.grammar_spec.specs.Tokens.Shape.{level}
use Rattle.grammar_spec.specs.Reader.Source.{unexpected, ◌>>=◌, Stream, Read, Inner, input, past, spanned}
use Rattle.grammar_spec.specs.Reader.Expressions.{extended, template_by, chain_by, cond_by}

module _ {S : Type 0} (m : Stream S) where
  -- `++` or `--` behind its operand, on its line (13.4)
  abbrev pub postfix_by : ℕ → Tree → Read S Tree
  postfix_by start t s = if nat_le new_level (level t) && not (brk (input m s)) then Ok (update_expr (spanned m start (past m s)) (kind (input m s)) false t, past m s) else unexpected m s

module _ {S : Type 0} (m : Stream S) (inner : Inner S) where
  -- a comma and one more expression (13.16)
  abbrev pub sequence_by : Code → ℕ → Tree → Read S Tree
  sequence_by c start t s = inner.expr c assignment_level (past m s) >>= λ e. Ok (extended t e.0 (spanned m start e.1), e.1)

  -- `?`: of a chain where a dot follows (13.3), else of a conditional (13.14)
  abbrev pub question_by : Code → ℕ → Tree → Read S Tree
  question_by c start t s =
      if kind2 (input m s) == dot_kind then (if nat_le call_level (level t) then chain_by m inner c start t (past m (past m s)) else unexpected m s)
      else (if nat_le coalesce_level (level t) then cond_by m inner c start t s else unexpected m s)

  -- a template behind its tag (13.3)
  abbrev pub tagged_by : Code → ℕ → Tree → Read S Tree
  tagged_by c start t s = template_by m inner c true s >>= λ q. Ok (tagged_tpl (spanned m start q.1) t q.0, q.1)
