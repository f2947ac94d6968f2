use Rattle.parse_laws.proofs.ChosenLemmas.{lists_chosen, new_list_chosen}
use Rattle.parse_laws.proofs.list_chosen_law.Goals as goal

pub returns-clause-answer : goal.returns-clause-answer
returns-clause-answer g c = lists_chosen g.I.Listed.state

pub returns-clause-made : goal.returns-clause-made
returns-clause-made g c = new_list_chosen g.I.Listed.state
