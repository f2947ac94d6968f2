use Rattle.std.proofs.Common.{◌≡◌, ◌++◌, drop}
use Rattle.tree_spec.specs.Tree.{trees_by}
use Rattle.tree_nodes.specs.View.{view_prop_or_spread}
use Rattle.grammar_spec.specs.Judge.Early.{second_protos}
use Rattle.judge.proofs.faults.protos.second_protos.Given as goal

abbrev pub invariant-loop-prop : goal.invariant-loop-prop
invariant-loop-prop g l = l.faults.items ++ second_protos l.had (trees_by (view_prop_or_spread g.T.Check.tree) (drop l.prop-index l.props)) ≡ l.initial.faults.items ++ second_protos l.initial.had (trees_by (view_prop_or_spread g.T.Check.tree) l.props)
