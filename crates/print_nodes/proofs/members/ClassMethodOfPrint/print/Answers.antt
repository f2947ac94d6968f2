use Rattle.std.proofs.Common.{ap, ◌∙◌}
use Rattle.tree_spec.specs.Tree.{trees_by}
use Rattle.tree_nodes.specs.View.{view_block_stmt, view_decorator, view_param}
use Rattle.tree_nodes.specs.declared.functions.FunctionOf.{FunctionOf}
use Rattle.print_layout_spec.specs.declared.look.Stand.TheVariants.{Alone}
use Rattle.print_layout_spec.specs.Looks.{◌·◌, gap}
use Rattle.print_layout_spec.specs.Layout.{laid, each, separated, comma, in_parens}
use Rattle.print_pieces.proofs.Steps.{◌▸◌, laid_as}
use Rattle.print_nodes.proofs.Chosen.{decorators_of}
use Rattle.print_nodes.proofs.members.ClassMethodOfPrint.print.Goals as goal

pub returns-clause-laid : goal.returns-clause-laid
returns-clause-laid g c =
    c.start.ensures
    ▸ (laid_as (ap (λ ds. each c.args.look (trees_by (view_decorator g.T.Print.tree) ds)) (c.as_slice.ensures.value ∙ ap decorators_of c.deref.ensures)) c.print_each.ensures
    ▸ (c.print_static.ensures ▸ (c.print_method_head.ensures ▸ (c.print.ensures.laid
    ▸ laid_as (ap (λ (f : FunctionOf g.row.T.Denot). in_parens (separated c.args.look (comma c.args.look) (trees_by (view_param g.T.Print.tree) f.params.items)) · gap c.args.look · laid c.args.look Alone (view_block_stmt g.T.Print.tree f.body)) c.deref-2.ensures) c.print_method_tail.ensures))))
