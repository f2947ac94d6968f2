use Rattle.std.proofs.Common.{ap}
use Rattle.tree_spec.specs.Tree.{trees_by}
use Rattle.tree_nodes.specs.View.{view_param}
use Rattle.print_layout_spec.specs.Layout.{separated, comma, in_parens}
use Rattle.print_pieces.proofs.Steps.{◌▸◌, laid_as}
use Rattle.print_nodes.proofs.functions.FunctionOfPrint.print.Goals as goal

pub returns-clause-laid : goal.returns-clause-laid
returns-clause-laid g c =
    laid_as (ap (λ ps. in_parens (separated c.args.look (comma c.args.look) (trees_by (view_param g.T.Print.tree) ps))) c.as_slice.ensures.value) c.print_params.ensures
    ▸ (c.gap.ensures ▸ c.print.ensures.laid)
