use Rattle.print_notes_laws.proofs.Standing.{notes_stand}
use Rattle.print_notes_laws.proofs.standing_law.Goals as goal

pub returns : goal.returns
returns c = notes_stand
