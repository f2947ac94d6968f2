use Rattle.again_laws.proofs.tiling.TiledByGoals.{tiles_again}
use Rattle.again_laws.proofs.tiling.tiles_again.Goals as goal

pub returns : goal.returns
returns c = tiles_again
