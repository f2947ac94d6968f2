use Rattle.std.proofs.Common.{drop}
use Rattle.tree_spec.specs.Tree.{trees_by}
use Rattle.tree_nodes.specs.View.{view_tpl_element}
use Rattle.print_nodes.specs.Templates.{rest_laid}
use Rattle.print_nodes.proofs.Parts.{Goes}
use Rattle.print_nodes.proofs.templates.print_rest.Given as goal

abbrev pub invariant-loop-i : goal.invariant-loop-i
invariant-loop-i g l = Goes g.W.WriteJs.tells g.W.WriteJs.state g.W.WriteJs.failed_writes g.W.WriteJs.loans (rest_laid l.look l.stand (trees_by g.T.Print.tree l.exprs) (trees_by view_tpl_element l.rest)) (rest_laid l.look l.stand (trees_by g.T.Print.tree (drop l.i l.exprs)) (trees_by view_tpl_element (drop l.i l.rest))) l.fn.p.wr l.fn.p.fault l.p.wr l.p.fault
