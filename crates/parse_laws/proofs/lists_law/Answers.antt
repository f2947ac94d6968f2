use Rattle.parse_laws.proofs.ListAnswers.{lists_answered, new_list_answered}
use Rattle.parse_laws.proofs.lists_law.Goals as goal

pub returns-clause-answer : goal.returns-clause-answer
returns-clause-answer g c = lists_answered g.I.Listed.state g.I.Listed.view

pub returns-clause-made : goal.returns-clause-made
returns-clause-made g c = new_list_answered g.I.Listed.state g.I.Listed.view
