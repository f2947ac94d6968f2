use Rattle.again_weave_laws.proofs.Cells.{read_is_celled}
use Rattle.again_weave_laws.proofs.cells_law.Goals as goal

pub returns : goal.returns
returns c = read_is_celled
