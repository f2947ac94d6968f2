use Rattle.parse_front_laws.proofs.complete.Fronts.{fronts_are_read}
use Rattle.parse_front_laws.proofs.complete.read_law.Goals as goal

pub returns : goal.returns
returns c = record { fronts = fronts_are_read }
