use Rattle.std.proofs.Common.{◌≡◌}
use Rattle.grammar_spec.specs.Judge.Early.{is_loop}
use Rattle.judge.proofs.faults.questions.is_loop.Given as goal

abbrev pub invariant-loop-stmt : goal.invariant-loop-stmt
invariant-loop-stmt l = is_loop l.stmt ≡ is_loop l.initial.stmt
