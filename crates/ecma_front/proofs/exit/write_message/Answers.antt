use Rattle.std.proofs.Common.{codes, refl}
use Rattle.print_writers.proofs.Outputs.{gets_longer, on_err}
use Rattle.ecma_front.proofs.exit.write_message.Goals as goal

pub returns-in_err-write_all-clause-beginning : goal.returns-in_err-write_all-clause-beginning
returns-in_err-write_all-clause-beginning g c =
    on_err _ _ (gets_longer _ _ c.args.message.now (codes "\n") _ (rw c.as_bytes.ensures.value at c.in_err-write_all.ensures.beginning) refl)
