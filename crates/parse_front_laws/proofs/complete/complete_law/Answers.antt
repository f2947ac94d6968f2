use Rattle.parse_front_laws.proofs.complete.Fronts.{expressions_end, bindings_end, keys_end, statements_end, list_items_end, module_items_end}
use Rattle.parse_front_laws.proofs.complete.complete_law.Goals as goal

pub returns-clause-expressions : goal.returns-clause-expressions
returns-clause-expressions c = expressions_end

pub returns-clause-bindings : goal.returns-clause-bindings
returns-clause-bindings c = bindings_end

pub returns-clause-keys : goal.returns-clause-keys
returns-clause-keys c = keys_end

pub returns-clause-statements : goal.returns-clause-statements
returns-clause-statements c = statements_end

pub returns-clause-list_items : goal.returns-clause-list_items
returns-clause-list_items c = list_items_end

pub returns-clause-module_items : goal.returns-clause-module_items
returns-clause-module_items c = module_items_end
