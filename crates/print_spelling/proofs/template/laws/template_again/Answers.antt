use Rattle.print_spelling.proofs.template.AgainLemmas.{template_again}
use Rattle.print_spelling.proofs.template.laws.template_again.Goals as goal

pub returns : goal.returns
returns c = template_again
