use Rattle.std.proofs.Common.{length}
use Rattle.run_ignore.proofs.ReadLemmas.{PiecesSoFar}
use Rattle.run_ignore.proofs.reading.read_pieces.Given as goal

abbrev pub invariant-pieces : goal.invariant-pieces
invariant-pieces l = PiecesSoFar l.fn.text l.pieces.items l.is_start l.rest

abbrev pub decreases-pieces : goal.decreases-pieces
decreases-pieces l = length l.rest
