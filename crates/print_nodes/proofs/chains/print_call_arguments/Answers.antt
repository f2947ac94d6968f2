use Rattle.std.proofs.Common.{sym}
use Rattle.print_nodes.proofs.chains.print_call_arguments.Goals as goal

pub returns : goal.returns
returns g c = rw (sym c.as_slice.ensures.value) c.print_arguments.ensures
