use Rattle.grammar_text_laws.proofs.OneLemmas.{one_tree_reads, one_tree_spells, one_program_spells}
use Rattle.grammar_text_laws.proofs.one_tree_law.Goals as goal

pub returns : goal.returns
returns c = record { reads = one_tree_reads; trees = one_tree_spells; programs = one_program_spells }
