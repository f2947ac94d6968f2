use Rattle.again_laws.proofs.tokens.Known.{tokens_are_known}
use Rattle.again_laws.proofs.tokens.tokens_are_known.Goals as goal

pub returns : goal.returns
returns c = tokens_are_known
