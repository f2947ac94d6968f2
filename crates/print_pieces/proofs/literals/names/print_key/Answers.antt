use Rattle.std.proofs.Common.{ap}
use Rattle.print_layout_spec.specs.Looks.{text}
use Rattle.print_pieces.proofs.Steps.{laid_as}
use Rattle.print_pieces.proofs.literals.Written.{key_bare}
use Rattle.print_pieces.proofs.literals.names.print_key.Goals as goal

pub returns-else-style : goal.returns-else-style
returns-else-style g c = laid_as (ap text (key_bare c.args.style c.args.word.now c.utf8.word c.if-style.false)) c.write.ensures
