use Rattle.std.proofs.Common.{ap}
use Rattle.print_layout_spec.specs.Looks.{text}
use Rattle.print_pieces.proofs.Steps.{◌▸◌, present, laid_as}
use Rattle.print_nodes.proofs.programs.print_attributes.Goals as goal

pub returns-in-Some : goal.returns-in-Some
returns-in-Some g c =
    rw c.in-Some.is (present c.print.ensures.there
    (c.gap.ensures ▸ (laid_as (ap text c.attributes_word.ensures) c.text.ensures ▸ (c.gap-in-Some.ensures ▸ c.print.ensures.laid))))
