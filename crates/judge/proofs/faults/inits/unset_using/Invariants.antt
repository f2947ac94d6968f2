use Rattle.std.proofs.Common.{◌≡◌, ◌++◌, drop}
use Rattle.tree_spec.specs.Tree.{trees_by}
use Rattle.tree_nodes.specs.View.{view_var_declarator}
use Rattle.grammar_spec.specs.Judge.Early.{unset_using}
use Rattle.judge.proofs.faults.inits.unset_using.Given as goal

abbrev pub invariant-loop-decl : goal.invariant-loop-decl
invariant-loop-decl g l = l.faults.items ++ unset_using (trees_by (view_var_declarator g.T.Check.tree) (drop l.decl-index l.decls)) ≡ l.initial.faults.items ++ unset_using (trees_by (view_var_declarator g.T.Check.tree) l.decls)
