use Rattle.std.proofs.Common.{◌≡◌, drop}
use Rattle.tree_spec.specs.Tree.{trees_by}
use Rattle.grammar_spec.specs.Tokens.Shape.{are_attributes}
use Rattle.tree_nodes.specs.Placed.{inner}
use Rattle.tree_nodes.specs.View.{view_prop_or_spread}
use Rattle.parse_modules.proofs.questions.are_attributes.Given as goal

abbrev pub invariant-props : goal.invariant-props
invariant-props l = are_attributes (trees_by (view_prop_or_spread inner) (drop l.prop-index l.props)) ≡ are_attributes (trees_by (view_prop_or_spread inner) l.props)
