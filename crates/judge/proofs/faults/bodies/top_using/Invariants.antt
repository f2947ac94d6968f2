use Rattle.std.proofs.Common.{◌≡◌, ◌++◌, drop}
use Rattle.tree_spec.specs.Tree.{trees_by}
use Rattle.grammar_spec.specs.Judge.Early.{top_using}
use Rattle.judge.proofs.faults.bodies.top_using.Given as goal

abbrev pub invariant-loop-x : goal.invariant-loop-x
invariant-loop-x g l = l.faults.items ++ top_using (trees_by (λ x. g.T.Check.tree x.part.value) (drop l.x-index l.items)) ≡ l.initial.faults.items ++ top_using (trees_by (λ x. g.T.Check.tree x.part.value) l.items)
