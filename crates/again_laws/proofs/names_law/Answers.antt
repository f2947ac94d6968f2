use Rattle.again_laws.proofs.Written.{names_stand}
use Rattle.again_laws.proofs.names_law.Goals as goal

pub returns : goal.returns
returns c = names_stand
