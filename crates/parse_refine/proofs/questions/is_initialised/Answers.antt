use Rattle.std.proofs.Common.{◌∙◌, ap, sym}
use Rattle.tree_nodes.specs.Placed.{inner}
use Rattle.tree_nodes.specs.View.{view_expr_kind}
use Rattle.base_token.specs.OperatorKinds.{assign_op_kind}
use Rattle.parse_refine.proofs.Told.{rest_default, rest_other}
use Rattle.parse_refine.proofs.questions.is_initialised.Goals as goal

pub returns-in-Assign : goal.returns-in-Assign
returns-in-Assign c commas s d =
    let x = c.in-Assign.field-0 in
    rw (ap inner c.get.ensures ∙ sym c.behind-expr.view_is ∙ ap (view_expr_kind inner) c.in-Assign.is) (rest_default commas s d x.span (assign_op_kind x.op) x.left (inner x.right.part.value))

pub returns-in_default : goal.returns-in_default
returns-in_default c commas s d =
    rw (ap inner c.get.ensures ∙ sym c.behind-expr.view_is) (rest_other commas s d c.behind-expr.inside.kind c.in_default.not-Assign)
