use Rattle.std.proofs.Common.{refl, sym, ◌∙◌}
use Rattle.tree_nodes.specs.View.{view_var_declarator}
use Rattle.print_gaps.proofs.Lasts.{last_of}
use Rattle.print_nodes.proofs.fors.last_ends_with_word.Goals as goal

pub returns-in-Some : goal.returns-in-Some
returns-in-Some g c = c.declarator_ends_with_word.ensures ∙ sym (last_of (view_var_declarator g.T.Print.tree) c.args.decls.now c.args.decls.now c.in-Some.x.now refl c.in-Some.ensures.value)
