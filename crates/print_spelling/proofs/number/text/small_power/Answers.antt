use Rattle.print_spelling.proofs.number.TextLemmas.{ok_is, err_is}
use Rattle.print_spelling.proofs.number.text.small_power.Goals as goal

pub returns-in-Ok : goal.returns-in-Ok
returns-in-Ok c = ok_is c.args.power.now c.in-Ok.value c.requires c.in-Ok.ensures.value.0

pub returns-in-Err : goal.returns-in-Err
returns-in-Err c = err_is c.args.power.now c.requires c.in-Err.ensures.value.0
