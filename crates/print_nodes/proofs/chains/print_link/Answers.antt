use Rattle.std.proofs.Common.{refl}
use Rattle.print_nodes.proofs.Parts.{laid_like}
use Rattle.print_nodes.proofs.chains.print_link.Goals as goal

pub returns-then-optional : goal.returns-then-optional
returns-then-optional g c = rw c.if-optional.true (laid_like (λ a. refl) c.text.ensures)
