use Rattle.parse_laws.proofs.SettledLemmas.{first_settled}
use Rattle.parse_laws.proofs.first_law.Goals as goal

pub returns : goal.returns
returns g c = record { settled = first_settled g.I.Tokened.machine g.I.Tokened.good g.I.Tokened.same }
