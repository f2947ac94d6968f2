use Rattle.parse_laws.proofs.ChosenLemmas.{texts_chosen, new_chosen}
use Rattle.parse_laws.proofs.chosen_law.Goals as goal

pub returns-clause-answer : goal.returns-clause-answer
returns-clause-answer g c = texts_chosen g.I.Lexed.state

pub returns-clause-made : goal.returns-clause-made
returns-clause-made g c = new_chosen g.I.Lexed.state
