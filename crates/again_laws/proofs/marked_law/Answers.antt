use Rattle.again_laws.proofs.Marked.{names_are_marked}
use Rattle.again_laws.proofs.marked_law.Goals as goal

pub returns : goal.returns
returns c = names_are_marked
