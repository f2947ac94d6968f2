use Rattle.std.proofs.Common.{◌/◌, decimal, arith}
use Rattle.std.proofs.lemmas.Fmt.{decimal_step}
use Rattle.std.proofs.lemmas.Result.{on_ok_weaker, on_err_weaker}
use Rattle.print_writers.proofs.Outputs.{gets_both, gets_longer, gets_then, on_err}
use Rattle.ecma_front.proofs.Writes.{gets_as}
use Rattle.ecma_front.proofs.exit.+write_number.Goals as goal

pub returns-in_err-write_number-clause-beginning : goal.returns-in_err-write_number-clause-beginning
returns-in_err-write_number-clause-beginning g t c =
    on_err _ _ (gets_longer _ _ (decimal (c.args.n / 10)) _ _ c.in_err-write_number.ensures.beginning (decimal_step c.args.n (omega (arith, c.if-n-lt10.false)) (omega (arith, c.ranges.n.fits))))

pub returns-clause-written : goal.returns-clause-written
returns-clause-written g t c =
    let whole = decimal_step c.args.n (omega (arith, c.if-n-lt10.false)) (omega (arith, c.ranges.n.fits)) in
    on_ok_weaker c.write_all-2.result (λ h. gets_as _ _ _ _ (gets_both _ _ _ (decimal (c.args.n / 10)) _ c.in_ok-write_number.ensures.written h) whole) c.write_all-2.ensures.written

pub returns-clause-beginning : goal.returns-clause-beginning
returns-clause-beginning g t c =
    let whole = decimal_step c.args.n (omega (arith, c.if-n-lt10.false)) (omega (arith, c.ranges.n.fits)) in
    on_err_weaker c.write_all-2.result (λ h. gets_then _ _ _ (decimal (c.args.n / 10)) _ _ c.in_ok-write_number.ensures.written h whole) c.write_all-2.ensures.beginning
