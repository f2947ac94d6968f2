use Rattle.print_spelling.proofs.FormLemmas.{form_stands}
use Rattle.print_spelling.proofs.laws.each_form_stands.Goals as goal

pub returns : goal.returns
returns c = form_stands
