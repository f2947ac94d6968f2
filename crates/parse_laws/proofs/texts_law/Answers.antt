use Rattle.parse_laws.proofs.TextLemmas.{texts_answered, new_answered, new_reading, new_outcome}
use Rattle.parse_laws.proofs.texts_law.Goals as goal

pub returns-clause-answer : goal.returns-clause-answer
returns-clause-answer g c = texts_answered g.I.Lexed.state g.I.Lexed.view

pub returns-clause-made : goal.returns-clause-made
returns-clause-made g c = new_answered g.I.Lexed.state g.I.Lexed.view

pub returns-clause-reading : goal.returns-clause-reading
returns-clause-reading g c = new_reading g.I.Lexed.state g.I.Lexed.view

pub returns-clause-outcome : goal.returns-clause-outcome
returns-clause-outcome g c = new_outcome g.I.Lexed.state g.I.Lexed.view
