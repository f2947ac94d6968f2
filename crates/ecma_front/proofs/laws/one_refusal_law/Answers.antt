use Rattle.ecma_front.proofs.Alike.{one_refusal}
use Rattle.ecma_front.proofs.laws.one_refusal_law.Goals as goal

pub returns : goal.returns
returns c = one_refusal
