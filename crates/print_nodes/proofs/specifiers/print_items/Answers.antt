use Rattle.std.proofs.Common.{◌+◌, drop, refl}
use Rattle.tree_spec.specs.Tree.{trees_by}
use Rattle.print_layout_spec.specs.Layout.{named_items}
use Rattle.print_nodes.proofs.Named.{item_is}
use Rattle.print_nodes.proofs.Parts.{sets_out, goes_on, as_left, at_part, at_end}
use Rattle.print_nodes.proofs.specifiers.print_items.Goals as goal

pub loop-x-init : goal.loop-x-init
loop-x-init g c = sets_out

pub loop-x-preserved : goal.loop-x-preserved
loop-x-preserved g c =
    rw c.print_item-started.ensures.started
    (goes_on (as_left (item_is c.args.look g.T.PrintName.stands c.loop-x.started (g.T.Print.tree c.x-item.result) (trees_by g.T.Print.tree (drop (c.loop-x.x-index + 1) c.args.items.now)))
    (at_part (named_items c.args.look g.T.PrintName.stands c.loop-x.started) g.T.Print.tree c.args.items.now c.loop-x.x-index c.x-item.result c.loop-x-test.true c.x-item.is c.loop-x.invariant)) c.print_item-started.ensures.laid)

pub returns : goal.returns
returns g c = at_end (named_items c.args.look g.T.PrintName.stands c.loop-x.started) g.T.Print.tree c.args.items.now c.loop-x.x-index c.loop-x-test.false refl c.loop-x.invariant
