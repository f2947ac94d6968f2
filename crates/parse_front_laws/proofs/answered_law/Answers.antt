use Rattle.parse_front_laws.proofs.Parts.{fronts_are_answered}
use Rattle.parse_front_laws.proofs.answered_law.Goals as goal

pub returns : goal.returns
returns c = record { parts = fronts_are_answered }
