use Rattle.std.proofs.Common.{◌+◌, codes, decimal, refl}
use Rattle.print_writers.proofs.Outputs.{gets_longer, gets_then, on_err}
use Rattle.ecma_front.proofs.exit.write_place.Goals as goal

pub returns-in_err-write_number-clause-beginning : goal.returns-in_err-write_number-clause-beginning
returns-in_err-write_number-clause-beginning g c =
    on_err _ _ (gets_longer _ _ (decimal (c.args.place.line + 1)) _ _ (rw c.from.ensures at c.in_err-write_number.ensures.beginning) refl)

pub returns-in_err-write_all-clause-beginning : goal.returns-in_err-write_all-clause-beginning
returns-in_err-write_all-clause-beginning g c =
    on_err _ _ (gets_then _ _ _ (decimal (c.args.place.line + 1)) _ _ (rw c.from.ensures at c.in_ok-write_number.ensures.written)
    (gets_longer _ _ (codes ":") _ _ c.in_err-write_all.ensures.beginning refl) refl)

pub returns-in_err-write_number-2-clause-beginning : goal.returns-in_err-write_number-2-clause-beginning
returns-in_err-write_number-2-clause-beginning g c =
    on_err _ _ (gets_then _ _ _ (decimal (c.args.place.line + 1)) _ _ (rw c.from.ensures at c.in_ok-write_number.ensures.written)
    (gets_then _ _ _ (codes ":") _ _ c.in_ok-write_all.ensures.written
    (gets_longer _ _ (decimal (c.args.place.col + 1)) _ _ (rw c.from-2.ensures at c.in_err-write_number-2.ensures.beginning) refl) refl) refl)
