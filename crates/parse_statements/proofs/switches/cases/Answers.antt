use Rattle.std.proofs.Common.{rules, ◌∙◌}
use Rattle.grammar_spec.specs.Reader.Source as spec
use Rattle.parse_state.proofs.Iterate.{iterate_done, iterates}
use Rattle.parse_statements.specs.Lists as lists
use Rattle.parse_statements.proofs.switches.cases.Goals as goal

pub returns-in_err-cases_turn-clause-value : goal.returns-in_err-cases_turn-clause-value
unfolding lists.switch_cases spec.iterate spec.iterate_n
returns-in_err-cases_turn-clause-value g c = search (rules, iterates)

pub returns-clause-value : goal.returns-clause-value
returns-clause-value g c = c.turns.invariant.reads ∙ iterate_done _ _ _ _ _ _ (search rules)
