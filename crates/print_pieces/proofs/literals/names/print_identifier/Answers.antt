use Rattle.std.proofs.Common.{ap}
use Rattle.print_layout_spec.specs.Looks.{named}
use Rattle.print_pieces.proofs.Steps.{laid_as}
use Rattle.print_pieces.proofs.literals.Written.{name_bare}
use Rattle.print_pieces.proofs.literals.names.print_identifier.Goals as goal

pub returns-else-look : goal.returns-else-look
returns-else-look g c = laid_as (ap (named c.args.span.lo) (name_bare c.args.look.style c.args.name.now c.utf8.name c.if-look.false)) c.name.ensures
