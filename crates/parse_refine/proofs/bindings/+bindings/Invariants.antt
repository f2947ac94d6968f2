use Rattle.std.proofs.Common.{◌≡◌, ◌+◌, ◌*◌, drop}
use Rattle.tree_spec.specs.Tree.{element_by, trees_by}
use Rattle.tree_nodes.specs.Placed.{inner}
use Rattle.tree_nodes.specs.View.{view_object_pat_prop}
use Rattle.grammar_spec.specs.Reader.Cover.{all_bind}
use Rattle.parse_refine.proofs.bindings.+bindings.Given as goal

abbrev pub invariant-array_binds-loop-elem : goal.invariant-array_binds-loop-elem
invariant-array_binds-loop-elem l = all_bind (trees_by (λ x. element_by (λ x. inner x.part.value) x) (drop l.elem-index l.elem-items)) ≡ all_bind (trees_by (λ x. element_by (λ x. inner x.part.value) x) l.array.elems.items)

abbrev pub invariant-object_binds-loop-prop : goal.invariant-object_binds-loop-prop
invariant-object_binds-loop-prop l = all_bind (trees_by (view_object_pat_prop inner) (drop l.prop-index l.prop-items)) ≡ all_bind (trees_by (view_object_pat_prop inner) l.object.props.items)

-- a pattern comes before its parts, and those before the patterns in them
abbrev pub decreases-pat_binds : goal.decreases-pat_binds
decreases-pat_binds l = 3 * goal.size-pat_binds l

abbrev pub decreases-array_binds : goal.decreases-array_binds
decreases-array_binds l = 3 * goal.size-array_binds l + 2

abbrev pub decreases-object_binds : goal.decreases-object_binds
decreases-object_binds l = 3 * goal.size-object_binds l + 2

abbrev pub decreases-elem_binds : goal.decreases-elem_binds
decreases-elem_binds l = 3 * goal.size-elem_binds l + 1

abbrev pub decreases-prop_binds : goal.decreases-prop_binds
decreases-prop_binds l = 3 * goal.size-prop_binds l + 1
