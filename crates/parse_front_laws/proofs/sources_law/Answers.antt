use Rattle.parse_front_laws.proofs.Sources.{parts_same}
use Rattle.parse_front_laws.proofs.sources_law.Goals as goal

pub returns : goal.returns
returns g c = record { parts = parts_same g.I.Sourced.machine g.I.Sourced.live }
