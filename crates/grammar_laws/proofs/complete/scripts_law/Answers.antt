use Rattle.grammar_laws.proofs.complete.WholeLemmas.{scripts_complete, one_script, no_script}
use Rattle.grammar_laws.proofs.complete.scripts_law.Goals as goal

pub returns-clause-scripts : goal.returns-clause-scripts
returns-clause-scripts c = scripts_complete

pub returns-clause-one : goal.returns-clause-one
returns-clause-one c = one_script

pub returns-clause-no : goal.returns-clause-no
returns-clause-no c = no_script
