use Rattle.std.proofs.Common.{Bool, sym, ap, ◌∙◌, if◌then◌else◌}
use Rattle.tree_spec.specs.Tree.{trees_by}
use Rattle.tree_nodes.specs.View.{view_var_declarator}
use Rattle.print_layout_spec.specs.Looks.{text, gap, blank}
use Rattle.print_layout_spec.specs.Layout.{starts_bracketed}
use Rattle.print_pieces.proofs.Steps.{◌▸◌, laid_as}
use Rattle.print_nodes.proofs.declarations.VarDeclOfPrint.print.Goals as goal

pub returns-clause-laid : goal.returns-clause-laid
returns-clause-laid g c =
    let bracket = c.starts_bracketed.ensures ∙ ap (λ ds. starts_bracketed (trees_by (view_var_declarator g.T.Print.tree) ds)) c.as_slice.ensures.value in
    c.commit.ensures ▸ (c.start.ensures ▸ (laid_as (ap text c.keyword.ensures) c.write.ensures
    ▸ (laid_as (ap (λ (b : Bool). if b then gap c.args.look else blank) bracket) c.blank_before.ensures ▸ rw (sym c.as_slice-2.ensures.value) c.print_separated.ensures)))
