use Rattle.std.proofs.Common.{◌∙◌, ap}
use Rattle.tree_spec.specs.Tree.{trees_by}
use Rattle.tree_nodes.specs.View.{view_prop_name}
use Rattle.grammar_spec.specs.Judge.Early.{own_use_strict}
use Rattle.judge.specs.Base.Around.{scope_of}
use Rattle.judge.proofs.faults.Asking.{setter_behind}
use Rattle.judge.proofs.faults.objects.SetterPropOfCheck.check.Goals as goal

pub returns : goal.returns
returns g c = setter_behind c.args.self.now.span c.args.self.now.body.span (view_prop_name g.T.Check.tree c.args.self.now.key) _ (trees_by (λ x. g.T.Check.tree x.part.value) c.args.self.now.body.stmts.items) (scope_of c.args.code) _ _ _ _ _ _ _ _ _ _ c.is_bare-bare.ensures (c.own_use_strict.ensures ∙ ap (λ l. own_use_strict (trees_by (λ x. g.T.Check.tree x.part.value) l)) c.as_slice.ensures.value) c.in_ok-mode.ensures c.in_ok-check.ensures c.as_method.ensures c.in_function-inside.ensures c.in_ok-check-2.ensures c.as_body.ensures c.in_ok-check-3.ensures
