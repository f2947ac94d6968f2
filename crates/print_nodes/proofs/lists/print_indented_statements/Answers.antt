use Rattle.std.proofs.Common.{true, false}
use Rattle.tree_spec.specs.Tree.{trees_by}
use Rattle.print_layout_spec.specs.Layout.{rows}
use Rattle.print_pieces.proofs.Steps.{◌▸◌, laid_as}
use Rattle.print_nodes.proofs.Parts.{indented_parts}
use Rattle.print_nodes.proofs.lists.print_indented_statements.Goals as goal

pub returns : goal.returns
returns g c =
    laid_as (indented_parts c.args.look g.T.Print.tree c.args.items.now (rows c.args.look true (trees_by g.T.Print.tree c.args.items.now)) c.is_empty.ensures c.if-is_empty.false)
    (c.line.ensures ▸ (c.deeper.ensures ▸ (c.print_closed_rows.ensures ▸ (c.back.ensures ▸ c.line-2.ensures))))
