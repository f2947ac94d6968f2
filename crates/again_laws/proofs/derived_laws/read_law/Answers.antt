use Rattle.again_laws.proofs.derived_laws.Derived.{derived_is_read}
use Rattle.again_laws.proofs.derived_laws.read_law.Goals as goal

pub returns : goal.returns
returns c = derived_is_read
