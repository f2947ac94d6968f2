use Rattle.print_pieces.proofs.Steps.{◌▸◌}
use Rattle.ecma_codegen.proofs.alone.StmtPrintAlone.print_alone.Goals as goal

pub returns : goal.returns
returns g c = c.print.ensures.laid ▸ c.print_end.ensures
