use Rattle.tree_nesting.proofs.Levels.{nests_within_levels}
use Rattle.tree_nesting.proofs.laws.levels_law.Goals as goal

pub returns : goal.returns
returns c = nests_within_levels
