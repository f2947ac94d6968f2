use Rattle.print_layout_spec.specs.Looks.{end}
use Rattle.print_pieces.proofs.Steps.{◌▸◌, when_as}
use Rattle.print_pieces.proofs.literals.strings.print_string.Goals as goal

pub returns : goal.returns
returns g c = c.commit.ensures ▸ (c.start.ensures ▸ (c.print_string_text.ensures ▸ when_as (end c.args.span) c.is_escaped_directive.ensures c.print_end.ensures))
