use Rattle.parse_lexer_laws.proofs.WordKinds.{async_text, hands_kinds}
use Rattle.parse_lexer_laws.proofs.kinds_law.Goals as goal

pub returns-clause-hands : goal.returns-clause-hands
returns-clause-hands g c = hands_kinds g.I.Tokened.machine g.I.Tokened.good g.I.Tokened.same

pub returns-clause-told : goal.returns-clause-told
returns-clause-told g c = async_text
