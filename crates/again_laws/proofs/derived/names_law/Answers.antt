use Rattle.again_laws.proofs.derived.Names.{names_alike}
use Rattle.again_laws.proofs.derived.names_law.Goals as goal

pub returns : goal.returns
returns c = record { names = names_alike }
