use Rattle.std.proofs.Common.{false}
use Rattle.tree_spec.specs.Tree.{trees_by}
use Rattle.print_layout_spec.specs.Looks.{◌·◌, when}
use Rattle.print_layout_spec.specs.Layout.{separated, comma, comma_line, ends_with_hole}
use Rattle.print_pieces.proofs.Steps.{◌▸◌, laid_as}
use Rattle.print_nodes.proofs.Parts.{indented_parts}
use Rattle.print_nodes.proofs.arrays.print_elements.Goals as goal

pub returns : goal.returns
returns g c =
    laid_as (indented_parts c.args.look g.T.Print.tree c.args.elems.now (separated c.args.look (comma_line c.args.look) (trees_by g.T.Print.tree c.args.elems.now) · when (ends_with_hole (trees_by g.T.Print.tree c.args.elems.now)) (comma c.args.look)) c.is_empty.ensures c.if-is_empty.false)
    (c.line.ensures ▸ (c.deeper.ensures ▸ ((c.print_separated.ensures ▸ c.print_last_hole.ensures) ▸ (c.back.ensures ▸ c.line-2.ensures))))
