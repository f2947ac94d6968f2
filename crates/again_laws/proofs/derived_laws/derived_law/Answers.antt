use Rattle.again_laws.proofs.derived_laws.Programs.{derived_again}
use Rattle.again_laws.proofs.derived_laws.derived_law.Goals as goal

pub returns : goal.returns
returns c = record { derived = derived_again }
