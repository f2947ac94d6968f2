-- What the text written in a look spells, with names kept as they stand.
use Rattle.print_layout_spec.specs.declared.look.Look.{Look}
use Rattle.again_laws.specs.Tokens.Naming.{Naming}
use Rattle.again_laws.specs.Derived.Redo.{Leaves}
use Rattle.again_laws.specs.Derived.Written.{leaves_by}

abbrev pub leaves_at : Look → Naming → Leaves
leaves_at look n = leaves_by look n.read n.written
