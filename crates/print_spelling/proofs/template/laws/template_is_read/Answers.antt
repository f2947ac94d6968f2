use Rattle.print_spelling.proofs.template.ReadLemmas.{template_is_read}
use Rattle.print_spelling.proofs.template.laws.template_is_read.Goals as goal

pub returns : goal.returns
returns c = template_is_read
