use Rattle.std.proofs.Common.{ap}
use Rattle.print_layout_spec.specs.Looks.{start}
use Rattle.print_pieces.proofs.Steps.{◌▸◌, laid_as}
use Rattle.print_nodes.proofs.properties.KeyValuePropOfPrint.print.Goals as goal

pub returns-clause-laid : goal.returns-clause-laid
returns-clause-laid g c = laid_as (ap start c.key_span.ensures) c.start.ensures ▸ (c.print.ensures.laid ▸ (c.text.ensures ▸ (c.gap.ensures ▸ c.print-2.ensures.laid)))
