use Rattle.print_pages_spec.proofs.lines.Places.{fronts_end}
use Rattle.print_pages_spec.proofs.lines.fronts_end.Goals as goal

pub returns : goal.returns
returns c = fronts_end
