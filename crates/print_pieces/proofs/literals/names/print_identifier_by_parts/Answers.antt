use Rattle.print_pieces.proofs.Steps.{◌▸◌, named_as}
use Rattle.print_pieces.proofs.literals.names.print_identifier_by_parts.Goals as goal

pub returns : goal.returns
returns g c = named_as (c.commit.ensures ▸ (c.start.ensures ▸ c.print_name.ensures))
