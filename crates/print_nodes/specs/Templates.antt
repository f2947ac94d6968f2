-- The expressions of a template, each with the piece behind it.
use Rattle.std.specs.Prelude.{codes}
use Rattle.tree_spec.specs.Tree.{Trees, more}
use Rattle.print_layout_spec.specs.declared.look.Look.{Look}
use Rattle.print_layout_spec.specs.declared.look.Stand.{Stand}
use Rattle.print_layout_spec.specs.declared.look.Stand.TheVariants.{Alone}
use Rattle.print_layout_spec.specs.Looks.{Laid, nothing, ◌·◌, text, brace}
use Rattle.print_layout_spec.specs.Layout.{laid, quasi}

abbrev pub rest_laid : Look → Stand → Trees → Trees → Laid
rest_laid look s (more e es) (more q qs) = text (codes "${") · laid look Alone e · brace · quasi look s q · rest_laid look s es qs
rest_laid look s es qs = nothing
