use Rattle.std.proofs.Common.{◌+◌, drop, refl}
use Rattle.tree_spec.specs.Tree.{trees_by}
use Rattle.tree_nodes.specs.View.{view_import_specifier}
use Rattle.print_layout_spec.specs.Layout.{import_heads}
use Rattle.print_nodes.proofs.Named.{head_is}
use Rattle.print_nodes.proofs.Parts.{sets_out, goes_on, as_left, at_part, at_end}
use Rattle.print_nodes.proofs.imports.print_import_heads.Goals as goal

pub loop-x-init : goal.loop-x-init
loop-x-init g c = sets_out

pub loop-x-preserved : goal.loop-x-preserved
loop-x-preserved g c =
    rw c.print_import_head-seen.ensures.seen
    (goes_on (as_left (head_is c.args.look c.loop-x.seen (view_import_specifier c.x-item.result) (trees_by view_import_specifier (drop (c.loop-x.x-index + 1) c.args.items.now)))
    (at_part (import_heads c.args.look c.loop-x.seen) view_import_specifier c.args.items.now c.loop-x.x-index c.x-item.result c.loop-x-test.true c.x-item.is c.loop-x.invariant)) c.print_import_head-seen.ensures.laid)

pub returns : goal.returns
returns g c = at_end (import_heads c.args.look c.loop-x.seen) view_import_specifier c.args.items.now c.loop-x.x-index c.loop-x-test.false refl c.loop-x.invariant
