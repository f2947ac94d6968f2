use Rattle.again_laws.proofs.leaf.TextsMean.{texts_mean}
use Rattle.again_laws.proofs.leaf.texts_mean.Goals as goal

pub returns : goal.returns
returns c = texts_mean
