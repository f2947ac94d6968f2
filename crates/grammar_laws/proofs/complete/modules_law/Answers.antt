use Rattle.grammar_laws.proofs.complete.WholeLemmas.{modules_complete, one_module, no_module}
use Rattle.grammar_laws.proofs.complete.modules_law.Goals as goal

pub returns-clause-modules : goal.returns-clause-modules
returns-clause-modules c = modules_complete

pub returns-clause-one : goal.returns-clause-one
returns-clause-one c = one_module

pub returns-clause-no : goal.returns-clause-no
returns-clause-no c = no_module
