use Rattle.parse_laws.proofs.ListLemmas.{list_constant, list_hands, lists_settled}
use Rattle.parse_laws.proofs.list_law.Goals as goal

pub returns-clause-constant : goal.returns-clause-constant
returns-clause-constant c = list_constant

pub returns-clause-hands : goal.returns-clause-hands
returns-clause-hands c = list_hands

pub returns-clause-settled : goal.returns-clause-settled
returns-clause-settled c = lists_settled
