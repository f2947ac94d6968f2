use Rattle.std.proofs.Common.{◌≡◌, ◌++◌, drop}
use Rattle.tree_spec.specs.Tree.{trees_by}
use Rattle.tree_spec.specs.Folds.{folds}
use Rattle.tree_nodes.specs.View.{view_class_member}
use Rattle.grammar_spec.specs.Judge.Early.{members, step}
use Rattle.judge.specs.Base.Around.{scope_of}
use Rattle.judge.proofs.faults.members.check_members.Given as goal

abbrev pub invariant-loop-member : goal.invariant-loop-member
invariant-loop-member g l = l.faults.items ++ members l.derived (trees_by (view_class_member g.T.Check.tree) (drop l.member-index l.items)) (folds step (trees_by (view_class_member g.T.Check.tree) (drop l.member-index l.items))) (scope_of l.code) ≡ l.initial.faults.items ++ members l.derived (trees_by (view_class_member g.T.Check.tree) l.items) (folds step (trees_by (view_class_member g.T.Check.tree) l.items)) (scope_of l.code)
