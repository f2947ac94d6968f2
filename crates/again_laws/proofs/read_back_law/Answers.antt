use Rattle.again_laws.proofs.Whole.{programs_read_back}
use Rattle.again_laws.proofs.read_back_law.Goals as goal

pub returns : goal.returns
returns c = programs_read_back
