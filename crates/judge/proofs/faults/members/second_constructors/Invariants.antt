use Rattle.std.proofs.Common.{◌≡◌, ◌++◌, drop}
use Rattle.tree_spec.specs.Tree.{trees_by}
use Rattle.tree_nodes.specs.View.{view_class_member}
use Rattle.grammar_spec.specs.Judge.Early.{second_constructors}
use Rattle.judge.proofs.faults.members.second_constructors.Given as goal

abbrev pub invariant-loop-member : goal.invariant-loop-member
invariant-loop-member g l = l.faults.items ++ second_constructors l.had (trees_by (view_class_member g.T.Check.tree) (drop l.member-index l.items)) ≡ l.initial.faults.items ++ second_constructors l.initial.had (trees_by (view_class_member g.T.Check.tree) l.items)
