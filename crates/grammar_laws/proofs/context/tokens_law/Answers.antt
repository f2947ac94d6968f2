use Rattle.grammar_laws.proofs.context.PlacedLemmas.{one_script_of_tokens, one_module_of_tokens}
use Rattle.grammar_laws.proofs.context.tokens_law.Goals as goal

pub returns-clause-script : goal.returns-clause-script
returns-clause-script c = one_script_of_tokens

pub returns-clause-module : goal.returns-clause-module
returns-clause-module c = one_module_of_tokens
