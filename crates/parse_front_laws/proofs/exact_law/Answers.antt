use Rattle.parse_front_laws.proofs.Exact.{fronts_are_answered_exactly}
use Rattle.parse_front_laws.proofs.exact_law.Goals as goal

pub returns : goal.returns
returns c = record { parts = fronts_are_answered_exactly }
