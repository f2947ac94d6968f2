use Rattle.std.proofs.Common.{◌≡◌}
use Rattle.tree_nodes.specs.Placed.{inner}
use Rattle.tree_nodes.specs.declared.knot.Expr.TheDeep.{size-Expr}
use Rattle.grammar_spec.specs.Tokens.Shape.{is_simple}
use Rattle.parse_refine.proofs.leaves.is_simple.Given as goal

abbrev pub invariant-parens : goal.invariant-parens
invariant-parens l = is_simple l.at ≡ is_simple (inner l.expr.part.value)

abbrev pub decreases-parens : goal.decreases-parens
decreases-parens l = size-Expr l.at
