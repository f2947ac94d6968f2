use Rattle.std.proofs.Common.{◌≡◌}
use Rattle.grammar_spec.specs.Judge.Early.{has_loop_label}
use Rattle.judge.specs.Base.Around.{labels_of}
use Rattle.judge.proofs.base.labels.Labels.has_loop.Given as goal

abbrev pub invariant-loop-labels : goal.invariant-loop-labels
invariant-loop-labels l = has_loop_label l.name (labels_of l.labels) ≡ has_loop_label l.name (labels_of l.self)
