use Rattle.std.proofs.Common.{ap}
use Rattle.print_layout_spec.specs.Looks.{text}
use Rattle.print_pieces.proofs.Steps.{laid_as}
use Rattle.print_pieces.proofs.literals.Written.{first_alone}
use Rattle.print_pieces.proofs.literals.Parted.{three_parts}
use Rattle.print_pieces.proofs.literals.numbers.print_three.Goals as goal

pub returns-then-no_third : goal.returns-then-no_third
returns-then-no_third g c = laid_as (ap text (first_alone c.args.text c.is_empty-no_second.ensures c.if-no_second.true c.is_empty-no_third.ensures c.if-no_third.true)) c.write.ensures

pub returns : goal.returns
returns g c = three_parts c.args.text.first.now c.args.text.second.now c.args.text.third.now _ _ _ c.print_part-first.ensures c.print_part-second.ensures c.print_part-third.ensures c.print_held.ensures
