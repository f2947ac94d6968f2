use Rattle.grammar_laws.proofs.complete.WholeLemmas.{expressions_complete, one_expression, patterns_complete, one_pattern}
use Rattle.grammar_laws.proofs.complete.parts_law.Goals as goal

pub returns-clause-expressions : goal.returns-clause-expressions
returns-clause-expressions c = expressions_complete

pub returns-clause-one_expression : goal.returns-clause-one_expression
returns-clause-one_expression c = one_expression

pub returns-clause-patterns : goal.returns-clause-patterns
returns-clause-patterns c = patterns_complete

pub returns-clause-one_pattern : goal.returns-clause-one_pattern
returns-clause-one_pattern c = one_pattern
