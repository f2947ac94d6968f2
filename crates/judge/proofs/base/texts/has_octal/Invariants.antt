use Rattle.std.proofs.Common.{◌≡◌, length}
use Rattle.grammar_spec.specs.Judge.Early.{has_octal}
use Rattle.judge.proofs.base.texts.has_octal.Given as goal

abbrev pub invariant-loop-rest : goal.invariant-loop-rest
invariant-loop-rest l = has_octal l.rest ≡ has_octal l.raw

abbrev pub decreases-loop-rest : goal.decreases-loop-rest
decreases-loop-rest l = length l.rest
