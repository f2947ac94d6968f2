use Rattle.parse_laws.proofs.parts.PartLemmas.{source_parts_answer}
use Rattle.parse_laws.proofs.parts.sources_law.Goals as goal

pub returns : goal.returns
returns g c = record { answer = source_parts_answer g.I.Entered.machine g.I.Entered.state g.I.Entered.view g.I.Entered.good g.I.Entered.same }
