use Rattle.std.proofs.Common.{Bool, sym, ap}
use Rattle.print_layout_spec.specs.Looks.{text}
use Rattle.print_pieces.specs.Literals.Parts.{held_back}
use Rattle.print_pieces.proofs.Steps.{laid_as, committed}
use Rattle.print_pieces.proofs.literals.parts.print_held.Goals as goal

pub returns-then-held : goal.returns-then-held
returns-then-held g c = laid_as (ap (λ (b : Bool). text (held_back b)) (sym c.if-held.true)) c.write.ensures

pub returns-else-held : goal.returns-else-held
returns-else-held g c = laid_as (ap (λ (b : Bool). text (held_back b)) (sym c.if-held.false)) (committed c.commit.ensures)
