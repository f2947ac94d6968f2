use Rattle.parse_laws.proofs.ChosenLemmas.{sources_chosen}
use Rattle.parse_laws.proofs.source_chosen_law.Goals as goal

pub returns : goal.returns
returns g c = record { answer = sources_chosen g.I.Undecided.machine g.I.Undecided.state g.I.Undecided.good g.I.Undecided.same }
