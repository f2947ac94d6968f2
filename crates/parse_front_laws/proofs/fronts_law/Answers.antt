use Rattle.parse_front_laws.proofs.Parts.{parts_are_fronts}
use Rattle.parse_front_laws.proofs.fronts_law.Goals as goal

pub returns : goal.returns
returns c = record { parts = parts_are_fronts }
