use Rattle.std.proofs.Common.{sym, ◌∙◌}
use Rattle.print_nodes.proofs.Parts.{last_hole}
use Rattle.print_nodes.proofs.patterns.ends_with_hole.Goals as goal

pub returns-in-Some : goal.returns-in-Some
returns-in-Some g c = c.is_hole.ensures ∙ sym (last_hole g.T.Print.tree c.args.elems.now c.in-Some.last.now c.in-Some.ensures.value)
