use Rattle.print_spelling.proofs.template.RegExpLemmas.{reg_exp_is_read}
use Rattle.print_spelling.proofs.template.laws.reg_exp_is_read.Goals as goal

pub returns : goal.returns
returns c = reg_exp_is_read
