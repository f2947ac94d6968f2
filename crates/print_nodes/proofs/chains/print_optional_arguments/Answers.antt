use Rattle.print_nodes.proofs.Parts.{laid_like}
use Rattle.print_nodes.proofs.Tokens.{point_where}
use Rattle.print_pieces.proofs.Steps.{◌▸◌}
use Rattle.print_nodes.proofs.chains.print_optional_arguments.Goals as goal

pub returns : goal.returns
returns g c = laid_like (point_where c.args.optional) c.text_if.ensures ▸ c.print_call_arguments.ensures
