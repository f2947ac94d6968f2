use Rattle.again_laws.proofs.Written.{going_is_read_back, tiled_is_read_back}
use Rattle.again_laws.proofs.tiled_law.Goals as goal

pub returns-clause-tiled : goal.returns-clause-tiled
returns-clause-tiled c = tiled_is_read_back

pub returns-clause-goes : goal.returns-clause-goes
returns-clause-goes c = going_is_read_back
