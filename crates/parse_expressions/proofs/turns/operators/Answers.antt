use Rattle.std.proofs.Common.{rules, ◌∙◌}
use Rattle.grammar_spec.specs.Reader.Source as spec
use Rattle.grammar_spec.specs.Reader.Expressions as reads
use Rattle.parse_state.proofs.Iterate.{iterate_done, iterates}
use Rattle.parse_expressions.proofs.turns.operators.Goals as goal

pub returns-in_err-more-clause-value : goal.returns-in_err-more-clause-value
unfolding reads.loop_by spec.iterate spec.iterate_n
returns-in_err-more-clause-value g c = search (rules, iterates)

pub returns-then-not-more-clause-value : goal.returns-then-not-more-clause-value
returns-then-not-more-clause-value g c = c.turns.invariant.reads ∙ iterate_done _ _ _ _ _ _ (search rules)
