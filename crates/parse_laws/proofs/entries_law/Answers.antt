use Rattle.parse_laws.proofs.AnsweredLemmas.{entries_answer}
use Rattle.parse_laws.proofs.entries_law.Goals as goal

pub returns : goal.returns
returns g c = record { answer = entries_answer g.I.Entered.machine g.I.Entered.state g.I.Entered.good g.I.Entered.same g.I.Entered.view }
