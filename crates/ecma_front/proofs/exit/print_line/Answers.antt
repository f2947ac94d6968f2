use Rattle.ecma_front.proofs.Writes.{printed}
use Rattle.ecma_front.proofs.exit.print_line.Goals as goal

pub returns : goal.returns
returns g c =
    let w = c.write_line.ensures in
    printed g.E.Write.contents g.E.Failing.failure_count _ _ _ c.write_line.result w.written w.beginning w.failures w.kinds
