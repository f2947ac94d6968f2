-- The characters of a template that came, and what is read behind them.
use Rattle.std.proofs.Common.{◌≡◌, Bool, Option, Ok, refl}
use Rattle.base_token.specs.Kinds.{template_kind}
use Rattle.tree_spec.specs.Tree.{Tree}
use Rattle.grammar_spec.specs.Tokens.Input.{Code, content, first_span}
use Rattle.grammar_spec.specs.Reader.Source.{Stream, State, Inner, input, eat}
use Rattle.grammar_spec.specs.Reader.Expressions.{Spans, quasi, quasi_step, quasi_end}

-- what a step reads, by the characters and by where their token ended
pub step_by : {S : Type 0} (m : Stream S) (inner : Inner S) (c : Code) (tagged : Bool) (x : Spans) (s r : State S) (q : Bool → Option Tree)
    → eat m template_kind s ≡ Ok r → q ≡ quasi m inner (content (input m s)) (first_span (input m s))
    → quasi_step m inner c tagged x s ≡ quasi_end m inner c tagged x q r
unfolding quasi_step
step_by m inner c tagged x s r q e h = rw e (rw h refl)
