use Rattle.std.proofs.Common.{ap, false}
use Rattle.tree_spec.specs.Tree.{trees_by}
use Rattle.tree_nodes.specs.View.{view_class_member}
use Rattle.print_layout_spec.specs.Layout.{class_tail, rows}
use Rattle.print_pieces.proofs.Steps.{laid_as}
use Rattle.print_nodes.proofs.classes.ClassOfPrint.print.Goals as goal

pub returns-clause-laid : goal.returns-clause-laid
returns-clause-laid g c =
    laid_as (ap (λ ms. class_tail c.args.look c.args.self.now.span (trees_by (view_class_member g.T.Print.tree) ms) (rows c.args.look false (trees_by (view_class_member g.T.Print.tree) ms))) c.as_slice.ensures.value) c.print_members.ensures
