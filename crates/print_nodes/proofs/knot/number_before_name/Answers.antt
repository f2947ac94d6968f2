use Rattle.std.proofs.Common.{◌||◌, Bool, sym, ap, ◌∙◌}
use Rattle.tree_spec.specs.Tree.{opt_chain_expr}
use Rattle.tree_nodes.specs.Placed.{inner}
use Rattle.tree_nodes.specs.View.{view_expr_kind, view_member_prop, view_number, view_opt_chain_base}
use Rattle.print_nodes.proofs.Spines.{chain_number_stands, left_stands, names, no_name, number_stands, other_stands}
use Rattle.print_nodes.proofs.knot.number_before_name.Goals as goal

pub returns-in_default : goal.returns-in_default
returns-in_default c = left_stands c.args.link.now c.args.left.now c.requires.linked c.requires.left c.in_default.ensures

pub returns-in-Member : goal.returns-in-Member
returns-in-Member c = number_stands c.args.link.now c.args.left.now (view_number c.in-Some.number.now) c.in-Member.x.span (inner c.in-Member.x.obj.part.value) (view_member_prop inner c.in-Member.x.prop) _
    (sym c.link.view_is ∙ ap (view_expr_kind inner) c.in-Member.is) c.requires.left c.in-Some.ensures c.is_bracketed.ensures

pub returns-in-Member-base : goal.returns-in-Member-base
returns-in-Member-base c = chain_number_stands c.args.link.now c.args.left.now (view_number c.in-Some.number.now) c.in-OptChain.x.span c.in-Member-base.member.span c.in-OptChain.x.optional
    (inner c.in-Member-base.member.obj.part.value) (view_member_prop inner c.in-Member-base.member.prop) _
    (sym c.link.view_is ∙ ap (view_expr_kind inner) c.in-OptChain.is ∙ ap (λ b. opt_chain_expr c.in-OptChain.x.span c.in-OptChain.x.optional (view_opt_chain_base inner b)) c.in-Member-base.is)
    c.requires.left c.in-Some.ensures (c.keeps_text.ensures ∙ ap (λ (b : Bool). c.in-OptChain.x.optional || b) c.is_bracketed-bracketed.ensures)

pub returns-in-Call : goal.returns-in-Call
returns-in-Call c = other_stands c.args.link.now c.args.left.now c.requires.linked c.requires.left
    (ap names (sym c.link.view_is ∙ ap (view_expr_kind inner) c.in-OptChain.is ∙ ap (λ b. opt_chain_expr c.in-OptChain.x.span c.in-OptChain.x.optional (view_opt_chain_base inner b)) c.in-Call.is))

pub returns-in_default-kind : goal.returns-in_default-kind
returns-in_default-kind c = other_stands c.args.link.now c.args.left.now c.requires.linked c.requires.left
    (ap names (sym c.link.view_is) ∙ no_name inner c.link.inside.kind c.in_default-kind.not-Member c.in_default-kind.not-OptChain)
