use Rattle.std.proofs.Common.{refl}
use Rattle.print_layout_spec.specs.Layout.{statements}
use Rattle.print_nodes.proofs.Parts.{sets_out, goes_on, at_part, at_end}
use Rattle.print_nodes.proofs.lists.print_statements.Goals as goal

pub loop-x-init : goal.loop-x-init
loop-x-init g c = sets_out

pub loop-x-preserved : goal.loop-x-preserved
loop-x-preserved g c =
    goes_on (goes_on (at_part (statements c.args.look) g.T.Print.tree c.args.items.now c.loop-x.x-index c.x-item.result c.loop-x-test.true c.x-item.is c.loop-x.invariant) c.print.ensures.laid) c.print_closing.ensures

pub returns : goal.returns
returns g c = at_end (statements c.args.look) g.T.Print.tree c.args.items.now c.loop-x.x-index c.loop-x-test.false refl c.loop-x.invariant
