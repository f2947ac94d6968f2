use Rattle.std.proofs.Common.{◌≡◌}
use Rattle.grammar_spec.specs.Judge.Early.{name_in}
use Rattle.judge.proofs.faults.questions.name.Given as goal

abbrev pub invariant-loop-expr : goal.invariant-loop-expr
invariant-loop-expr l = name_in l.expr ≡ name_in l.initial.expr
