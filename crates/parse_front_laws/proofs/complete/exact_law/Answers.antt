use Rattle.parse_front_laws.proofs.complete.Exact.{fronts_are_exact}
use Rattle.parse_front_laws.proofs.complete.exact_law.Goals as goal

pub returns : goal.returns
returns c = record { fronts = fronts_are_exact }
