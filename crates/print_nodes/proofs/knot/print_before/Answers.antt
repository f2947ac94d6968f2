use Rattle.std.proofs.Common.{sym, ap, ◌∙◌}
use Rattle.tree_nodes.specs.Placed.{inner}
use Rattle.tree_nodes.specs.View.{view_expr_kind}
use Rattle.tree_nodes.specs.declared.expressions.ExprKindOf.TheVariants as ExprKind
use Rattle.print_layout_spec.specs.Looks.{start}
use Rattle.print_pieces.proofs.Steps.{◌▸◌, when_as}
use Rattle.print_nodes.specs.Spines.{before_laid}
use Rattle.print_nodes.proofs.Spines.{before_printed, nothing_before, nothing_printed}
use Rattle.print_nodes.proofs.knot.print_before.Goals as goal

pub returns-in-Bin : goal.returns-in-Bin
returns-in-Bin g c = before_printed c.args.stand c.args.link.now (view_expr_kind inner (ExprKind.Bin c.in-Bin.x)) (sym c.link.view_is ∙ ap (view_expr_kind inner) c.in-Bin.is)
    (when_as (start c.in-Bin.x.span) c.marks_operator.ensures c.start_if.ensures)

pub returns-in-Member : goal.returns-in-Member
returns-in-Member g c = before_printed c.args.stand c.args.link.now (view_expr_kind inner (ExprKind.Member c.in-Member.x)) (sym c.link.view_is ∙ ap (view_expr_kind inner) c.in-Member.is) c.start.ensures

pub returns-in-TaggedTpl : goal.returns-in-TaggedTpl
returns-in-TaggedTpl g c = before_printed c.args.stand c.args.link.now (view_expr_kind inner (ExprKind.TaggedTpl c.in-TaggedTpl.x)) (sym c.link.view_is ∙ ap (view_expr_kind inner) c.in-TaggedTpl.is) c.start-in-TaggedTpl.ensures

pub returns-in-Call : goal.returns-in-Call
returns-in-Call g c = before_printed c.args.stand c.args.link.now (view_expr_kind inner (ExprKind.Call c.in-Call.x)) (sym c.link.view_is ∙ ap (view_expr_kind inner) c.in-Call.is) (c.commit.ensures ▸ c.start-in-Call.ensures)

pub returns-in_default : goal.returns-in_default
returns-in_default g c = nothing_printed c.args.stand c.args.link.now (ap (before_laid c.args.stand) (sym c.link.view_is)
    ∙ nothing_before inner c.args.stand c.link.inside.kind c.in_default.not-Bin c.in_default.not-Member c.in_default.not-TaggedTpl c.in_default.not-Call)
