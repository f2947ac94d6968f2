use Rattle.grammar_text_laws.proofs.Alone.{tiles_part, one_tree, one_plain_tree}
use Rattle.grammar_text_laws.proofs.one_tree_reads.Goals as goal

pub returns-clause-tiles : goal.returns-clause-tiles
returns-clause-tiles c = tiles_part

pub returns-clause-trees : goal.returns-clause-trees
returns-clause-trees c = one_tree

pub returns-clause-plain : goal.returns-clause-plain
returns-clause-plain c = one_plain_tree
