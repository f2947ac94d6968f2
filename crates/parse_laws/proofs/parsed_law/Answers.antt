use Rattle.parse_laws.proofs.ParsedLemmas.{programs_judged}
use Rattle.parse_laws.proofs.parsed_law.Goals as goal

pub returns : goal.returns
returns g c = record { programs = programs_judged g.I.Sourced.machine g.I.Sourced.live }
