use Rattle.std.proofs.Common.{rules, refl, sym, ap, ◌∙◌}
use Rattle.tree_spec.specs.Tree.{opt_chain_expr}
use Rattle.tree_nodes.specs.Placed.{inner}
use Rattle.tree_nodes.specs.View.{view_expr_kind, view_opt_chain_base}
use Rattle.tree_visit.proofs.spine.Weights.{operand_falls, name_falls, arguments_fall, template_falls, chain_name_falls, chain_arguments_fall}
use Rattle.tree_visit.proofs.Chains.{linked_once}
use Rattle.tree_visit.proofs.+walk.Goals as goal

-- src/spines.rt
pub spines::walk_rest-walk-requires : goal.spines::walk_rest-walk-requires
spines::walk_rest-walk-requires g t c κs = λ h. (
  ((operand_falls 1 t c.args.link.now c.in-Bin.x refl (sym c.link.view_is ∙ ap (view_expr_kind inner) c.in-Bin.is) c.decreases, tt), tt),
  search rules,
)

-- src/spines.rt
pub spines::walk_rest-walk-requires-in-Member : goal.spines::walk_rest-walk-requires-in-Member
spines::walk_rest-walk-requires-in-Member g t c κs = λ h. (
  ((name_falls 1 t c.args.link.now c.in-Member.x refl (sym c.link.view_is ∙ ap (view_expr_kind inner) c.in-Member.is) c.decreases, tt), tt),
  search rules,
)

-- src/spines.rt
pub spines::walk_rest-walk_args-requires : goal.spines::walk_rest-walk_args-requires
spines::walk_rest-walk_args-requires g t c κs = λ h. (
  ((arguments_fall 1 t c.args.link.now c.in-Call.x (linked_once c.args.link.now c.requires.linked) refl (sym c.link.view_is ∙ ap (view_expr_kind inner) c.in-Call.is) c.decreases, tt), tt),
  search rules,
)

-- src/spines.rt
pub spines::walk_rest-walk-requires-in-TaggedTpl : goal.spines::walk_rest-walk-requires-in-TaggedTpl
spines::walk_rest-walk-requires-in-TaggedTpl g t c κs = λ h. (
  ((rw c.deref.ensures (template_falls 1 t c.args.link.now c.in-TaggedTpl.x refl (sym c.link.view_is ∙ ap (view_expr_kind inner) c.in-TaggedTpl.is) c.decreases), tt), tt),
  search rules,
)

-- src/spines.rt
pub spines::walk_rest-walk-requires-in-Member-base : goal.spines::walk_rest-walk-requires-in-Member-base
spines::walk_rest-walk-requires-in-Member-base g t c κs = λ h. (
  (
    (
      chain_name_falls 1 t c.args.link.now c.in-OptChain.x.span c.in-OptChain.x.optional c.in-Member-base.member refl
          (sym c.link.view_is ∙ ap (view_expr_kind inner) c.in-OptChain.is ∙ ap (λ b. opt_chain_expr c.in-OptChain.x.span c.in-OptChain.x.optional (view_opt_chain_base inner b)) c.in-Member-base.is) c.decreases,
      tt,
    ),
    tt,
  ),
  search rules,
)

-- src/spines.rt
pub spines::walk_rest-walk_args-requires-in-Call-base : goal.spines::walk_rest-walk_args-requires-in-Call-base
spines::walk_rest-walk_args-requires-in-Call-base g t c κs = λ h. (
  (
    (
      chain_arguments_fall 1 t c.args.link.now c.in-OptChain.x.span c.in-OptChain.x.optional c.in-Call-base.call refl
          (sym c.link.view_is ∙ ap (view_expr_kind inner) c.in-OptChain.is ∙ ap (λ b. opt_chain_expr c.in-OptChain.x.span c.in-OptChain.x.optional (view_opt_chain_base inner b)) c.in-Call-base.is) c.decreases,
      tt,
    ),
    tt,
  ),
  search rules,
)
