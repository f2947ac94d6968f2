use Rattle.again_laws.proofs.derived_laws.Leaves.{read_is_faithful}
use Rattle.again_laws.proofs.derived_laws.faithful_law.Goals as goal

pub returns : goal.returns
returns c = read_is_faithful
