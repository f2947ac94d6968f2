use Rattle.std.proofs.Common.{ap}
use Rattle.print_layout_spec.specs.Looks.{text}
use Rattle.print_pieces.proofs.Steps.{laid_as}
use Rattle.print_pieces.proofs.literals.Written.{kept, not_kept}
use Rattle.print_pieces.proofs.literals.strings.print_read.Goals as goal

pub returns-then-keeps_raw : goal.returns-then-keeps_raw
returns-then-keeps_raw g c = laid_as (ap text (kept c.args.style c.args.units.now c.args.raw.now c.utf8.raw c.keeps_raw.ensures c.if-keeps_raw.true)) c.write.ensures

pub returns-else-keeps_raw : goal.returns-else-keeps_raw
returns-else-keeps_raw g c = laid_as (ap text (not_kept c.args.style c.args.units.now c.args.raw.now c.keeps_raw.ensures c.if-keeps_raw.false)) c.print_spelled.ensures
