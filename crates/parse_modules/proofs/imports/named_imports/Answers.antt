use Rattle.std.proofs.Common.{rules, ◌∙◌}
use Rattle.grammar_spec.specs.Reader.Source as spec
use Rattle.grammar_spec.specs.Reader.Modules as reads
use Rattle.parse_state.proofs.Iterate.{iterate_done, iterates}
use Rattle.parse_modules.proofs.imports.named_imports.Goals as goal

pub returns-in_err-import_turn-clause-value : goal.returns-in_err-import_turn-clause-value
unfolding reads.specifiers_by spec.iterate spec.iterate_n
returns-in_err-import_turn-clause-value g c = search (rules, iterates)

pub returns-clause-value : goal.returns-clause-value
returns-clause-value g c = c.turns.invariant.reads ∙ iterate_done _ _ _ _ _ _ (search rules)
