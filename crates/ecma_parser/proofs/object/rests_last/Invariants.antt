use Rattle.std.proofs.Common.{◌≡◌, false, map, drop}
use Rattle.tree_nodes.specs.Placed.{inner}
use Rattle.tree_nodes.specs.View.{view_object_pat_prop}
use Rattle.parse_alone.specs.Props.{rests_last}
use Rattle.ecma_parser.proofs.object.rests_last.Given as goal

-- what is left, behind what was seen, tells what the whole tells
abbrev pub invariant-props : goal.invariant-props
invariant-props l = rests_last l.comma l.rest (map (view_object_pat_prop inner) (drop l.prop-index l.props)) ≡ rests_last l.comma false (map (view_object_pat_prop inner) l.props)
