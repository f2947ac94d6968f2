use Rattle.std.proofs.Common.{◌∙◌}
use Rattle.print_nodes.proofs.Chosen.{initial_end}
use Rattle.print_nodes.proofs.fors.declarator_ends_with_word.Goals as goal

pub returns-in-Some : goal.returns-in-Some
returns-in-Some g c = rw c.in-Some.is (c.ends_with_word.ensures.answer ∙ initial_end _ c.ends_with_word.ensures.there)
