use Rattle.std.proofs.Common.{◌-◌, ◌/◌, rules, sym, ap, ◌∙◌}
use Rattle.std.proofs.Math.Nat.{div-le_self}
use Rattle.base_token.specs.OperatorKinds.{binary_op_kind}
use Rattle.tree_nodes.specs.Placed.{inner}
use Rattle.tree_spec.specs.Tree.{opt_chain_expr}
use Rattle.tree_nodes.specs.View.{view_expr_kind, view_member_expr, view_opt_call, view_opt_chain_base, view_stmt_kind, view_tpl}
use Rattle.tree_nodes.specs.declared.knot.Expr.TheDeep.{size-Expr}
use Rattle.tree_nodes.specs.declared.knot.Part.{Part}
use Rattle.tree_nodes.specs.declared.expressions.TplOf.{TplOf}
use Rattle.tree_nodes.specs.declared.expressions.ExprKindOf.TheVariants as ExprKind
use Rattle.tree_visit.specs.Spine.Chains.{is_link}
use Rattle.tree_visit.proofs.spine.Weights.{operand_falls, name_falls, arguments_fall, template_falls, chain_name_falls, chain_arguments_fall}
use Rattle.tree_visit.proofs.spine.Chains.{no_link}
use Rattle.print_gaps.specs.Edges.{gap_before}
use Rattle.print_layout_spec.specs.declared.look.Stand.TheVariants.{Alone, Tagged}
use Rattle.print_layout_spec.specs.Looks.{◌·◌, end}
use Rattle.print_layout_spec.specs.Layout.{laid, closing, is_block}
use Rattle.print_pieces.proofs.Steps.{laid_as}
use Rattle.print_nodes.specs.Spines.{left_laid, rights_laid}
use Rattle.print_nodes.proofs.Spines.{alternative_is, behind_no_link, behind_none, chain_printed, goes_down, goes_on_to_next, halves_printed, ifs_printed, left_as, link_printed, no_other, none_printed, one_above, operand_printed, sets_out, sets_out_on_ifs}
use Rattle.print_nodes.proofs.knot.+print.Goals as goal

-- src/knot.rt
pub ExprPrint::print-down-init : goal.ExprPrint::print-down-init
ExprPrint::print-down-init g t c = sets_out c.args.stand c.args.self.now

-- src/knot.rt
pub ExprPrint::print-down-preserved : goal.ExprPrint::print-down-preserved
ExprPrint::print-down-preserved g t c = goes_down c.args.stand c.down.stands c.stand_below-stands.result c.down.links c.args.self.now c.down.rest.now c.in-Some.left.now c.down.invariant
    c.in-Some.ensures.0 c.in-Some.ensures.1 c.stand_below-stands.ensures c.print_before.ensures

-- src/knot.rt
pub ExprPrint::print-returns-then-links-eq0-clause-laid : goal.ExprPrint::print-returns-then-links-eq0-clause-laid
ExprPrint::print-returns-then-links-eq0-clause-laid g t c = behind_no_link c.args.stand c.down.links c.args.self.now c.if-links-eq0.true c.down.invariant.0
    (laid_as (ap (laid c.args.look c.args.stand) c.self.view_is) c.print.ensures.laid)

-- src/knot.rt
pub ExprPrint::print-returns-clause-laid : goal.ExprPrint::print-returns-clause-laid
ExprPrint::print-returns-clause-laid g t c = chain_printed c.args.look c.args.stand c.down.links c.args.self.now c.if-links-eq0.false c.down.invariant.2 c.down.invariant.0
    (laid_as (ap (left_laid c.args.look) c.below.ensures) c.print_left.ensures)
    c.print_rights.ensures

-- src/knot.rt
pub print_left-print-requires : goal.print_left-print-requires
print_left-print-requires g t c κs = λ h. (one_above (size-Expr c.args.left.now) t c.decreases, search rules)

-- src/knot.rt
pub print_left-returns-in-Some : goal.print_left-returns-in-Some
print_left-returns-in-Some g t c = left_as c.args.look c.args.link.now (c.in-Some.ensures c.args.look) c.print_number_object.ensures

-- src/knot.rt
pub print_left-returns-in-None : goal.print_left-returns-in-None
print_left-returns-in-None g t c = left_as c.args.look c.args.link.now (c.in-None.ensures c.args.look ∙ ap (λ q. laid c.args.look q c.args.left.now) (sym c.requires.stand)) c.print.ensures.laid

-- src/knot.rt
pub print_rights-print_right_operand-requires : goal.print_rights-print_right_operand-requires
print_rights-print_right_operand-requires g t c κs = λ h. (
  ((operand_falls c.args.links t c.args.top.now c.in-Bin.x c.in-1.is (sym c.top.view_is ∙ ap (view_expr_kind inner) c.in-Bin.is) c.decreases, tt), tt),
  search rules,
)

-- src/knot.rt
pub print_rights-print_name-requires : goal.print_rights-print_name-requires
print_rights-print_name-requires g t c κs = λ h. (
  ((name_falls c.args.links t c.args.top.now c.in-Member.x c.in-1.is (sym c.top.view_is ∙ ap (view_expr_kind inner) c.in-Member.is) c.decreases, tt), tt),
  search rules,
)

-- src/knot.rt
pub print_rights-print_call_arguments-requires : goal.print_rights-print_call_arguments-requires
print_rights-print_call_arguments-requires g t c κs = λ h. (
  ((arguments_fall c.args.links t c.args.top.now c.in-Call.x c.requires.linked c.in-1.is (sym c.top.view_is ∙ ap (view_expr_kind inner) c.in-Call.is) c.decreases, tt), tt),
  search rules,
)

-- src/knot.rt
pub print_rights-print_tagged-requires : goal.print_rights-print_tagged-requires
print_rights-print_tagged-requires g t c κs = λ h. (
  ((rw c.deref.ensures (template_falls c.args.links t c.args.top.now c.in-TaggedTpl.x c.in-1.is (sym c.top.view_is ∙ ap (view_expr_kind inner) c.in-TaggedTpl.is) c.decreases), tt), tt),
  search rules,
)

-- src/knot.rt
pub print_rights-print_optional_name-requires : goal.print_rights-print_optional_name-requires
print_rights-print_optional_name-requires g t c κs = λ h. (
  (
    (
      chain_name_falls c.args.links t c.args.top.now c.in-OptChain.x.span c.in-OptChain.x.optional c.in-Member-base.member c.in-1.is
          (sym c.top.view_is ∙ ap (view_expr_kind inner) c.in-OptChain.is ∙ ap (λ b. opt_chain_expr c.in-OptChain.x.span c.in-OptChain.x.optional (view_opt_chain_base inner b)) c.in-Member-base.is) c.decreases,
      tt,
    ),
    tt,
  ),
  search rules,
)

-- src/knot.rt
pub print_rights-print_optional_arguments-requires : goal.print_rights-print_optional_arguments-requires
print_rights-print_optional_arguments-requires g t c κs = λ h. (
  (
    (
      chain_arguments_fall c.args.links t c.args.top.now c.in-OptChain.x.span c.in-OptChain.x.optional c.in-Call-base.call c.in-1.is
          (sym c.top.view_is ∙ ap (view_expr_kind inner) c.in-OptChain.is ∙ ap (λ b. opt_chain_expr c.in-OptChain.x.span c.in-OptChain.x.optional (view_opt_chain_base inner b)) c.in-Call-base.is) c.decreases,
      tt,
    ),
    tt,
  ),
  search rules,
)

-- src/knot.rt
pub print_rights-returns-in-0 : goal.print_rights-returns-in-0
print_rights-returns-in-0 g t c = none_printed c.args.look c.args.links c.args.top.now c.in-0.is

-- src/knot.rt
pub print_rights-returns-in-Bin : goal.print_rights-returns-in-Bin
print_rights-returns-in-Bin g t c = link_printed c.args.look c.args.links c.args.top.now (view_expr_kind inner (ExprKind.Bin c.in-Bin.x)) c.in-1.is (sym c.top.view_is ∙ ap (view_expr_kind inner) c.in-Bin.is)
    (operand_printed c.args.look c.in-Bin.x.span (binary_op_kind c.in-Bin.x.op) (inner c.in-Bin.x.left.part.value) (inner c.in-Bin.x.right.part.value)
    (c.gap_before-before.ensures ∙ sym (ap (λ x. gap_before (binary_op_kind c.in-Bin.x.op) (inner x)) c.get.ensures)) c.print_right_operand.ensures)

-- src/knot.rt
pub print_rights-returns-in-Member : goal.print_rights-returns-in-Member
print_rights-returns-in-Member g t c = link_printed c.args.look c.args.links c.args.top.now (view_expr_kind inner (ExprKind.Member c.in-Member.x)) c.in-1.is
    (sym c.top.view_is ∙ ap (view_expr_kind inner) c.in-Member.is) c.print_name.ensures

-- src/knot.rt
pub print_rights-returns-in-Call : goal.print_rights-returns-in-Call
print_rights-returns-in-Call g t c = link_printed c.args.look c.args.links c.args.top.now (view_expr_kind inner (ExprKind.Call c.in-Call.x)) c.in-1.is
    (sym c.top.view_is ∙ ap (view_expr_kind inner) c.in-Call.is) c.print_call_arguments.ensures

-- src/knot.rt
pub print_rights-returns-in-TaggedTpl : goal.print_rights-returns-in-TaggedTpl
print_rights-returns-in-TaggedTpl g t c = link_printed c.args.look c.args.links c.args.top.now (view_expr_kind inner (ExprKind.TaggedTpl c.in-TaggedTpl.x)) c.in-1.is
    (sym c.top.view_is ∙ ap (view_expr_kind inner) c.in-TaggedTpl.is)
    (laid_as (ap (λ (q : TplOf Part). laid c.args.look Tagged (view_tpl inner q) · end c.in-TaggedTpl.x.span) c.deref.ensures) c.print_tagged.ensures)

-- src/knot.rt
pub print_rights-returns-in-Member-base : goal.print_rights-returns-in-Member-base
print_rights-returns-in-Member-base g t c = link_printed c.args.look c.args.links c.args.top.now
    (opt_chain_expr c.in-OptChain.x.span c.in-OptChain.x.optional (view_member_expr inner c.in-Member-base.member)) c.in-1.is
    (sym c.top.view_is ∙ ap (view_expr_kind inner) c.in-OptChain.is ∙ ap (λ b. opt_chain_expr c.in-OptChain.x.span c.in-OptChain.x.optional (view_opt_chain_base inner b)) c.in-Member-base.is)
    c.print_optional_name.ensures

-- src/knot.rt
pub print_rights-returns-in-Call-base : goal.print_rights-returns-in-Call-base
print_rights-returns-in-Call-base g t c = link_printed c.args.look c.args.links c.args.top.now
    (opt_chain_expr c.in-OptChain.x.span c.in-OptChain.x.optional (view_opt_call inner c.in-Call-base.call)) c.in-1.is
    (sym c.top.view_is ∙ ap (view_expr_kind inner) c.in-OptChain.is ∙ ap (λ b. opt_chain_expr c.in-OptChain.x.span c.in-OptChain.x.optional (view_opt_chain_base inner b)) c.in-Call-base.is)
    c.print_optional_arguments.ensures

-- src/knot.rt
pub print_rights-returns-in_default-kind : goal.print_rights-returns-in_default-kind
print_rights-returns-in_default-kind g t c = no_other c.args.links c.args.top.now c.in-1.is c.requires.linked
    (ap is_link (sym c.top.view_is) ∙ no_link inner c.top.inside.kind c.in_default-kind.not-Bin c.in_default-kind.not-Member c.in_default-kind.not-Call c.in_default-kind.not-TaggedTpl c.in_default-kind.not-OptChain)

-- src/knot.rt
pub print_rights-returns-in_default : goal.print_rights-returns-in_default
print_rights-returns-in_default g t c = halves_printed c.args.look (c.args.links / 2) c.args.links c.args.top.now (div-le_self c.args.links 2)
    (laid_as (ap (rights_laid c.args.look (c.args.links - c.args.links / 2)) c.below.ensures) c.print_rights.ensures)
    c.print_rights-in_default.ensures

-- src/knot.rt
pub StmtPrint::print-links-init : goal.StmtPrint::print-links-init
StmtPrint::print-links-init g t c = sets_out_on_ifs c.args.look c.args.self.now

-- src/knot.rt
pub StmtPrint::print-links-preserved : goal.StmtPrint::print-links-preserved
StmtPrint::print-links-preserved g t c = goes_on_to_next c.args.look c.links.links c.args.self.now c.links.rest.now c.there-rest.result.now c.in-If.branch.span
    (inner c.in-If.branch.test.part.value) (inner c.in-If.branch.cons.part.value) _ c.links.invariant
    (sym c.rest.view_is ∙ ap (view_stmt_kind inner) c.in-If.is)
    (c.there-rest.ensures.same ∙ sym (ap inner c.get.ensures) ∙ sym (alternative_is inner c.in-If.branch c.in-Some.alt c.in-Some.is))
    c.there-rest.ensures.there
    (c.is_block.ensures ∙ sym (ap (λ x. is_block (inner x)) c.get-in-If.ensures)) c.starts_with_alpha_num-before_word.ensures
    c.print_consequence.ensures c.print_else.ensures

-- src/knot.rt
pub StmtPrint::print-returns-then-links-eq0-clause-laid : goal.StmtPrint::print-returns-then-links-eq0-clause-laid
StmtPrint::print-returns-then-links-eq0-clause-laid g t c = behind_none c.args.look c.links.links c.args.self.now c.if-links-eq0.true c.links.invariant.0
    (laid_as (ap (laid c.args.look c.args.stand) c.self.view_is) c.print.ensures.laid)

-- src/knot.rt
pub StmtPrint::print-returns-clause-laid : goal.StmtPrint::print-returns-clause-laid
StmtPrint::print-returns-clause-laid g t c = ifs_printed c.args.look c.args.stand c.links.links c.args.self.now c.if-links-eq0.false c.links.invariant.2 c.links.invariant.0
    (laid_as (ap (laid c.args.look Alone) c.links.invariant.1) c.print-2.ensures.laid)
    (laid_as (ap (closing c.args.look) c.links.invariant.1) c.print_end.ensures) c.print_lines.ensures
