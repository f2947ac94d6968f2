use Rattle.std.proofs.Common.{arith}
use Rattle.tree_nodes.specs.View.{view_tpl_element}
use Rattle.print_nodes.proofs.Templated.{at_both}
use Rattle.print_nodes.proofs.Parts.{goes_on}
use Rattle.print_nodes.proofs.templates.print_rest.Goals as goal

pub loop-i-preserved : goal.loop-i-preserved
loop-i-preserved g c =
    goes_on (goes_on (goes_on (goes_on (at_both c.args.look c.args.stand g.T.Print.tree view_tpl_element c.args.exprs.now c.args.rest.now c.loop-i.i c.index-exprs-i.result c.index-rest-i.result
    c.loop-i-test.true c.index-exprs-i.is (omega (arith, c.loop-i-test.true, c.requires)) c.index-rest-i.is c.loop-i.invariant) c.text.ensures) c.print.ensures.laid) c.brace.ensures) c.print-in-loop-i.ensures.laid
