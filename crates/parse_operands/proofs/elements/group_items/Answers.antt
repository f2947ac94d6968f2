use Rattle.std.proofs.Common.{rules, ◌∙◌}
use Rattle.grammar_spec.specs.Reader.Source as spec
use Rattle.grammar_spec.specs.Reader.Expressions as reads
use Rattle.parse_state.proofs.Iterate.{iterate_done, iterates}
use Rattle.parse_operands.proofs.elements.group_items.Goals as goal

pub returns-in_err-argument_turn-clause-value : goal.returns-in_err-argument_turn-clause-value
unfolding reads.elements_by spec.iterate spec.iterate_n
returns-in_err-argument_turn-clause-value g c = search (rules, iterates)

pub returns-clause-value : goal.returns-clause-value
returns-clause-value g c = c.turns.invariant.reads ∙ iterate_done _ _ _ _ _ _ (search rules)
