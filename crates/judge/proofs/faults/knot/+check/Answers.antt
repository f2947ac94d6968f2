use Rattle.std.proofs.Common.{rules, ◌≡◌, ◌++◌, ◌-◌, ◌/◌, ℕ, List, sym, ap, ◌∙◌, append-nil}
use Rattle.std.proofs.Math.Nat.{div-le_self}
use Rattle.base_token.specs.declared.error.Error.{Error}
use Rattle.tree_spec.specs.Tree.{Tree, opt_chain_expr}
use Rattle.tree_spec.specs.Folds.{fold}
use Rattle.tree_nodes.specs.Placed.{inner}
use Rattle.tree_nodes.specs.View.{view_expr_kind, view_opt_chain_base}
use Rattle.tree_visit.proofs.spine.Weights.{operand_falls, name_falls, arguments_fall, template_falls, chain_name_falls, chain_arguments_fall}
use Rattle.tree_visit.proofs.spine.Chains.{no_link}
use Rattle.grammar_spec.specs.Judge.Early.{Scope, step}
use Rattle.judge.specs.Base.Around.{scope_of}
use Rattle.judge.specs.Faults.Rights.{right_faults}
use Rattle.judge.proofs.faults.Rights.{joined, halves_joined, no_other, no_rights}
use Rattle.judge.proofs.faults.knot.+check.Goals as goal

none_behind : (a : List Error) (n : ℕ) (t : Tree) (c : Scope) → n ≡ 0 → a ≡ a ++ right_faults n t c
none_behind a n t c e = sym (ap (λ x. a ++ right_faults x t c) e ∙ ap (λ x. a ++ x) (no_rights t c) ∙ append-nil a)

-- src/knot.rt
pub ExprCheck::check-returns : goal.ExprCheck::check-returns
ExprCheck::check-returns t c = joined c.args.faults.now.items c.check-2.new.faults.items c.check_rights.new.faults.items c.links-links.result c.args.self.now
    (scope_of c.args.code) c.links-links.ensures.linked
    (c.in_ok-check.ensures ∙ ap (λ x. c.args.faults.now.items ++ fold step x (scope_of c.args.code)) c.below.ensures) c.in_ok-check_rights.ensures

-- src/knot.rt
pub check_rights-check-requires : goal.check_rights-check-requires
check_rights-check-requires t c κs = (
  ((operand_falls c.args.links t c.args.top.now c.in-Bin.x c.in-1.is (sym c.top.view_is ∙ ap (view_expr_kind inner) c.in-Bin.is) c.decreases, tt), tt),
  search rules,
)

-- src/knot.rt
pub check_rights-check-requires-in-Member : goal.check_rights-check-requires-in-Member
check_rights-check-requires-in-Member t c κs = (
  ((name_falls c.args.links t c.args.top.now c.in-Member.x c.in-1.is (sym c.top.view_is ∙ ap (view_expr_kind inner) c.in-Member.is) c.decreases, tt), tt),
  search rules,
)

-- src/knot.rt
pub check_rights-check-requires-in-Call : goal.check_rights-check-requires-in-Call
check_rights-check-requires-in-Call t c κs = (
  ((arguments_fall c.args.links t c.args.top.now c.in-Call.x c.requires.linked c.in-1.is (sym c.top.view_is ∙ ap (view_expr_kind inner) c.in-Call.is) c.decreases, tt), tt),
  search rules,
)

-- src/knot.rt
pub check_rights-check-requires-in-TaggedTpl : goal.check_rights-check-requires-in-TaggedTpl
check_rights-check-requires-in-TaggedTpl t c κs = (
  ((template_falls c.args.links t c.args.top.now c.in-TaggedTpl.x c.in-1.is (sym c.top.view_is ∙ ap (view_expr_kind inner) c.in-TaggedTpl.is) c.decreases, tt), tt),
  search rules,
)

-- src/knot.rt
pub check_rights-check-requires-in-Member-base : goal.check_rights-check-requires-in-Member-base
check_rights-check-requires-in-Member-base t c κs = (
  (
    (
      chain_name_falls c.args.links t c.args.top.now c.in-OptChain.x.span c.in-OptChain.x.optional c.in-Member-base.member c.in-1.is
          (sym c.top.view_is ∙ ap (view_expr_kind inner) c.in-OptChain.is ∙ ap (λ b. opt_chain_expr c.in-OptChain.x.span c.in-OptChain.x.optional (view_opt_chain_base inner b)) c.in-Member-base.is) c.decreases,
      tt,
    ),
    tt,
  ),
  search rules,
)

-- src/knot.rt
pub check_rights-check-requires-in-Call-base : goal.check_rights-check-requires-in-Call-base
check_rights-check-requires-in-Call-base t c κs = (
  (
    (
      chain_arguments_fall c.args.links t c.args.top.now c.in-OptChain.x.span c.in-OptChain.x.optional c.in-Call-base.call c.in-1.is
          (sym c.top.view_is ∙ ap (view_expr_kind inner) c.in-OptChain.is ∙ ap (λ b. opt_chain_expr c.in-OptChain.x.span c.in-OptChain.x.optional (view_opt_chain_base inner b)) c.in-Call-base.is) c.decreases,
      tt,
    ),
    tt,
  ),
  search rules,
)

-- src/knot.rt
pub check_rights-returns-in-0 : goal.check_rights-returns-in-0
check_rights-returns-in-0 t c = none_behind c.args.faults.now.items c.args.links c.args.top.now (scope_of c.args.code) c.in-0.is

-- src/knot.rt
pub check_rights-returns-in_default-kind : goal.check_rights-returns-in_default-kind
check_rights-returns-in_default-kind t c = no_other c.args.links c.args.top.now (view_expr_kind inner c.top.inside.kind) c.in-1.is c.requires.linked (sym c.top.view_is)
    (no_link inner c.top.inside.kind c.in_default-kind.not-Bin c.in_default-kind.not-Member c.in_default-kind.not-Call c.in_default-kind.not-TaggedTpl c.in_default-kind.not-OptChain)

-- src/knot.rt
pub check_rights-returns-in_ok-check_rights-in_default-2 : goal.check_rights-returns-in_ok-check_rights-in_default-2
check_rights-returns-in_ok-check_rights-in_default-2 t c = halves_joined c.args.faults.now.items c.check_rights.new.faults.items
    c.check_rights-in_default.new.faults.items (c.args.links / 2) c.args.links c.args.top.now (scope_of c.args.code) (div-le_self c.args.links 2)
    (c.in_ok-check_rights-in_default.ensures ∙ ap (λ x. c.args.faults.now.items ++ right_faults (c.args.links - c.args.links / 2) x (scope_of c.args.code)) c.below.ensures)
    c.in_ok-check_rights-in_default-2.ensures
