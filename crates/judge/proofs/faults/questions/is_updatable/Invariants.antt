use Rattle.std.proofs.Common.{◌≡◌}
use Rattle.grammar_spec.specs.Judge.Early.{is_updatable}
use Rattle.judge.proofs.faults.questions.is_updatable.Given as goal

abbrev pub invariant-loop-expr : goal.invariant-loop-expr
invariant-loop-expr l = is_updatable l.expr ≡ is_updatable l.initial.expr
