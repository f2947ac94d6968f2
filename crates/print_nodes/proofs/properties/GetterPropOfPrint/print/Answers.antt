use Rattle.std.proofs.Common.{Bool, ap, if◌then◌else◌}
use Rattle.print_layout_spec.specs.Looks.{blank, gap}
use Rattle.print_pieces.proofs.Steps.{◌▸◌, laid_as}
use Rattle.print_nodes.proofs.properties.GetterPropOfPrint.print.Goals as goal

pub returns-clause-laid : goal.returns-clause-laid
returns-clause-laid g c =
    c.start.ensures ▸ (c.text.ensures ▸ (laid_as (ap (λ (b : Bool). if b then gap c.args.look else blank) c.is_bracketed.ensures) c.blank_before.ensures
    ▸ (c.print.ensures.laid ▸ (c.gap.ensures ▸ (c.text-2.ensures ▸ (c.text-3.ensures ▸ (c.gap-2.ensures ▸ c.print-2.ensures.laid)))))))
