use Rattle.again_weave_laws.proofs.Back.{woven_reads_back}
use Rattle.again_weave_laws.proofs.woven_law.Goals as goal

pub returns : goal.returns
returns c = woven_reads_back
