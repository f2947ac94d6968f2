use Rattle.again_laws.proofs.derived_laws.WrittenAgain.{written_again}
use Rattle.again_laws.proofs.derived_laws.written_again_law.Goals as goal

pub returns : goal.returns
returns c = written_again
