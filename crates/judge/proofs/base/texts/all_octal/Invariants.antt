use Rattle.std.proofs.Common.{◌≡◌, drop}
use Rattle.grammar_spec.specs.Judge.Early.{all_octal}
use Rattle.judge.proofs.base.texts.all_octal.Given as goal

abbrev pub invariant-loop-c : goal.invariant-loop-c
invariant-loop-c l = all_octal (drop l.c-index l.raw) ≡ all_octal l.raw
