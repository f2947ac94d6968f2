use Rattle.std.proofs.Common.{rules, ◌∙◌}
use Rattle.grammar_spec.specs.Reader.Source as spec
use Rattle.parse_state.proofs.Iterate.{iterate_done, iterates}
use Rattle.parse_blocks.specs.Lists as lists
use Rattle.parse_blocks.proofs.blocks.block_items.Goals as goal

pub returns-in_err-block_turn-clause-value : goal.returns-in_err-block_turn-clause-value
unfolding lists.block_items spec.iterate spec.iterate_n
returns-in_err-block_turn-clause-value g c = search (rules, iterates)

pub returns-clause-value : goal.returns-clause-value
returns-clause-value g c = c.turns.invariant.reads ∙ iterate_done _ _ _ _ _ _ (search rules)
