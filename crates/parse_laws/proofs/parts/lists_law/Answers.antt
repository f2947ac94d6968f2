use Rattle.parse_laws.proofs.parts.PartLemmas.{list_parts_answer, new_list_parts_answer}
use Rattle.parse_laws.proofs.parts.lists_law.Goals as goal

pub returns-clause-answer : goal.returns-clause-answer
returns-clause-answer g c = list_parts_answer g.I.Listed.state g.I.Listed.view

pub returns-clause-made : goal.returns-clause-made
returns-clause-made g c = new_list_parts_answer g.I.Listed.state g.I.Listed.view
