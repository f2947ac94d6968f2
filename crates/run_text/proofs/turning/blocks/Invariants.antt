use Rattle.std.proofs.Common.{◌+◌, length}
use Rattle.run_text.proofs.BlockLemmas.{BlocksSoFar}
use Rattle.run_text.proofs.turning.blocks.Given as goal

abbrev pub invariant-left : goal.invariant-left
invariant-left l = BlocksSoFar l.fn.old l.fn.new l.blocks.items l.left l.coming

abbrev pub decreases-left : goal.decreases-left
decreases-left l = length l.left + length l.coming
