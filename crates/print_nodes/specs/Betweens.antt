-- What stands between two parts of a list.
use Rattle.print_layout_spec.specs.declared.look.Look.{Look}
use Rattle.print_layout_spec.specs.Looks.{Laid}
use Rattle.print_layout_spec.specs.Layout.{comma, comma_line}
use Rattle.print_nodes.specs.declared.lists.Between.{Between}
use Rattle.print_nodes.specs.declared.lists.Between.TheVariants.{Comma, CommaLine}

abbrev pub between_of : Between → Look → Laid
between_of Comma look = comma look
between_of CommaLine look = comma_line look
