use Rattle.std.proofs.Common.{ap}
use Rattle.print_layout_spec.specs.Looks.{text}
use Rattle.print_pieces.proofs.Steps.{laid_as}
use Rattle.print_pieces.proofs.literals.Written.{name_bare}
use Rattle.print_pieces.proofs.literals.names.print_name.Goals as goal

pub returns-else-style : goal.returns-else-style
returns-else-style g c = laid_as (ap text (name_bare c.args.style c.args.name.now c.utf8.name c.if-style.false)) c.write.ensures
