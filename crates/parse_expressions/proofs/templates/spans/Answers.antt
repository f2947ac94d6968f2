use Rattle.std.proofs.Common.{rules, ◌∙◌}
use Rattle.grammar_spec.specs.Reader.Source as spec
use Rattle.parse_state.proofs.Iterate.{iterate_done, iterates}
use Rattle.parse_expressions.specs.Pieces as reads
use Rattle.parse_expressions.proofs.templates.spans.Goals as goal

pub returns-in_err-characters-clause-value : goal.returns-in_err-characters-clause-value
unfolding reads.spans_by spec.iterate spec.iterate_n
returns-in_err-characters-clause-value g c = search (rules, iterates)

pub returns-clause-value : goal.returns-clause-value
returns-clause-value g c = c.turns.invariant.reads ∙ iterate_done _ _ _ _ _ _ (search rules)
