use Rattle.std.proofs.Common.{rules, ◌∙◌, reverse, false, true}
use Rattle.tree_nodes.specs.Placed.{inner}
use Rattle.tree_nodes.specs.View.{view_expr_or_spread}
use Rattle.parse_refine.proofs.Rows.{items_done}
use Rattle.parse_refine.proofs.params.all_params.Goals as goal

pub returns-clause-value : goal.returns-clause-value
returns-clause-value c =
    c.params.invariant.items ∙ items_done false true (reverse c.args.commas.now) (λ y. inner y.part.value) (view_expr_or_spread inner) c.params.params.items c.params.x-iterator.rest.items (search rules)
