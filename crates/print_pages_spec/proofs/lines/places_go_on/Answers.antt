use Rattle.print_pages_spec.proofs.lines.Places.{places_go_on}
use Rattle.print_pages_spec.proofs.lines.places_go_on.Goals as goal

pub returns : goal.returns
returns c = places_go_on
