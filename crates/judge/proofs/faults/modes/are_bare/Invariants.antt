use Rattle.std.proofs.Common.{◌≡◌, drop}
use Rattle.tree_spec.specs.Tree.{trees_by}
use Rattle.grammar_spec.specs.Judge.Early.{are_bare}
use Rattle.judge.proofs.faults.modes.are_bare.Given as goal

abbrev pub invariant-loop-param : goal.invariant-loop-param
invariant-loop-param g l = are_bare (trees_by g.P.Check.tree (drop l.param-index l.params)) ≡ are_bare (trees_by g.P.Check.tree l.params)
