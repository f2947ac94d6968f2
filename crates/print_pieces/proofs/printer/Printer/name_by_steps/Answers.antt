use Rattle.print_pieces.proofs.Steps.{◌▸◌, named_as}
use Rattle.print_pieces.proofs.printer.Printer.name_by_steps.Goals as goal

pub returns : goal.returns
returns g c = named_as (c.commit.ensures ▸ (c.mark.ensures ▸ c.write.ensures))
