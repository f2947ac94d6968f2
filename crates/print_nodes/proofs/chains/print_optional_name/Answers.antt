use Rattle.std.proofs.Common.{ap}
use Rattle.print_nodes.specs.Chains.{link_laid}
use Rattle.print_pieces.proofs.Steps.{◌▸◌, laid_as}
use Rattle.print_nodes.proofs.chains.print_optional_name.Goals as goal

pub returns : goal.returns
returns g c = laid_as (ap (link_laid c.args.optional) c.is_computed-computed.ensures) c.print_link.ensures ▸ c.print.ensures.laid
