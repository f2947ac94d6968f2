use Rattle.again_laws.proofs.text.FittingTexts.{texts_fit}
use Rattle.again_laws.proofs.text.texts_fit.Goals as goal

pub returns : goal.returns
returns c = texts_fit
