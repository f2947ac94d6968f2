use Rattle.std.proofs.Common.{◌≡◌, drop}
use Rattle.tree_spec.specs.Tree.{trees_by}
use Rattle.grammar_spec.specs.Judge.Early.{own_use_strict}
use Rattle.tree_nodes.specs.Placed.{inner}
use Rattle.judge.proofs.faults.questions.block_use_strict.Given as goal

abbrev pub invariant-loop-x : goal.invariant-loop-x
invariant-loop-x l = own_use_strict (trees_by (λ x. inner x.part.value) (drop l.x-index l.items)) ≡ own_use_strict (trees_by (λ x. inner x.part.value) l.items)
