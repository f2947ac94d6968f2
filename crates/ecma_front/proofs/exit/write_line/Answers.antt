use Rattle.std.proofs.Common.{◌++◌, codes, refl}
use Rattle.print_writers.proofs.Outputs.{gets_longer, on_err}
use Rattle.ecma_front.specs.Exits.{place_told}
use Rattle.ecma_front.proofs.exit.write_line.Goals as goal

pub returns-in_err-write_place-in-Some-clause-beginning : goal.returns-in_err-write_place-in-Some-clause-beginning
returns-in_err-write_place-in-Some-clause-beginning g c =
    on_err _ _ (gets_longer _ _ (place_told c.in-Some.place) (c.args.exit.message.now ++ codes "\n") _ c.in_err-write_place-in-Some.ensures.beginning (rw c.in-Some.is refl))
