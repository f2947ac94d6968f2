use Rattle.std.proofs.Common.{ap, ◌∙◌, false}
use Rattle.tree_spec.specs.Tree.{part_by, trees_by}
use Rattle.tree_nodes.specs.View.{view_class_member, view_decorator, view_ident}
use Rattle.tree_nodes.specs.declared.functions.ClassOf.{ClassOf}
use Rattle.print_layout_spec.specs.declared.look.Stand.TheVariants.{Alone}
use Rattle.print_layout_spec.specs.Looks.{◌·◌}
use Rattle.print_layout_spec.specs.Layout.{laid, each, class_head, class_tail, rows}
use Rattle.print_pieces.proofs.Steps.{◌▸◌, laid_as}
use Rattle.print_nodes.proofs.Chosen.{class_decorators_of}
use Rattle.print_nodes.proofs.classes.ClassDeclOfPrint.print.Goals as goal

pub returns-clause-laid : goal.returns-clause-laid
returns-clause-laid g c =
    c.start.ensures
    ▸ (laid_as (ap (λ ds. each c.args.look (trees_by (view_decorator g.T.Print.tree) ds)) (c.as_slice.ensures.value ∙ ap class_decorators_of c.deref.ensures)) c.print_each.ensures
    ▸ laid_as (ap (λ (s : ClassOf g.row.T.Denot).
    class_head c.args.look (view_ident c.args.self.now.ident) (laid c.args.look Alone (view_ident c.args.self.now.ident))
    (part_by (λ x. g.T.Print.tree x.part.value) s.super_class) (laid c.args.look Alone (part_by (λ x. g.T.Print.tree x.part.value) s.super_class))
    · class_tail c.args.look s.span (trees_by (view_class_member g.T.Print.tree) s.body.items) (rows c.args.look false (trees_by (view_class_member g.T.Print.tree) s.body.items))) c.deref-2.ensures) c.print_declared_class.ensures)
