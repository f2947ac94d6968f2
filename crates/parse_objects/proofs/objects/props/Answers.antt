use Rattle.std.proofs.Common.{rules, ◌∙◌}
use Rattle.grammar_spec.specs.Reader.Source as spec
use Rattle.parse_state.proofs.Iterate.{iterate_done, iterates}
use Rattle.parse_objects.specs.Lists as reads
use Rattle.parse_objects.proofs.objects.props.Goals as goal

pub returns-in_err-prop_turn-clause-value : goal.returns-in_err-prop_turn-clause-value
unfolding reads.props_by spec.iterate spec.iterate_n
returns-in_err-prop_turn-clause-value g c = search (rules, iterates)

pub returns-clause-value : goal.returns-clause-value
returns-clause-value g c = c.turns.invariant.reads ∙ iterate_done _ _ _ _ _ _ (search rules)
