use Rattle.std.proofs.Common.{◌≡◌, drop}
use Rattle.tree_spec.specs.Tree.{trees_by}
use Rattle.grammar_spec.specs.Judge.Early.{own_use_strict}
use Rattle.judge.proofs.faults.bodies.own_use_strict.Given as goal

abbrev pub invariant-loop-x : goal.invariant-loop-x
invariant-loop-x g l = own_use_strict (trees_by g.S.Check.tree (drop l.x-index l.items)) ≡ own_use_strict (trees_by g.S.Check.tree l.items)
