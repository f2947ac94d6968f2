use Rattle.std.proofs.Common.{ap}
use Rattle.tree_spec.specs.Tree.{trees_by}
use Rattle.tree_nodes.specs.View.{view_decorator}
use Rattle.print_layout_spec.specs.Layout.{each}
use Rattle.print_pieces.proofs.Steps.{◌▸◌, laid_as}
use Rattle.print_nodes.proofs.members.AutoAccessorOfPrint.print.Goals as goal

pub returns-clause-laid : goal.returns-clause-laid
returns-clause-laid g c =
    laid_as (ap (λ ds. each c.args.look (trees_by (view_decorator g.T.Print.tree) ds)) c.as_slice.ensures.value) c.print_each.ensures
    ▸ (c.word_if.ensures ▸ (c.text.ensures ▸ (c.blank.ensures ▸ (c.print.ensures.laid ▸ (c.print_initial.ensures ▸ c.semi.ensures)))))
