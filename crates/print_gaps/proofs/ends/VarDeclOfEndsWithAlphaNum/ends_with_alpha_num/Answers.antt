use Rattle.std.proofs.Common.{sym, ◌∙◌}
use Rattle.tree_nodes.specs.View.{view_var_declarator}
use Rattle.print_gaps.proofs.Lasts.{last_of}
use Rattle.print_gaps.proofs.ends.VarDeclOfEndsWithAlphaNum.ends_with_alpha_num.Goals as goal

pub returns-in-Some-clause-answer : goal.returns-in-Some-clause-answer
returns-in-Some-clause-answer g c = c.ends_with_alpha_num.ensures.answer ∙ sym (last_of (view_var_declarator g.T.EndsWithAlphaNum.tree) c.args.self.now.decls.items c.as_slice.result.now c.in-Some.x.now c.as_slice.ensures.value c.in-Some.ensures.value)
