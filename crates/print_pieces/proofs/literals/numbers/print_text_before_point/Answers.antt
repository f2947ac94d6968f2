use Rattle.std.proofs.Common.{ap}
use Rattle.std.specs.Prelude.{option_map}
use Rattle.print_layout_spec.specs.Looks.{text}
use Rattle.print_layout_spec.specs.Literals.{number_bytes}
use Rattle.print_pieces.proofs.Steps.{laid_as}
use Rattle.print_pieces.proofs.literals.Written.{with_point, without_point}
use Rattle.print_pieces.proofs.literals.numbers.print_text_before_point.Goals as goal

pub returns-then-has_own_point : goal.returns-then-has_own_point
returns-then-has_own_point g c = laid_as (ap text (with_point (number_bytes c.args.style c.args.value.now (option_map (λ t. t.now) c.args.raw)) c.number_text.ensures c.has_own_point.ensures c.if-has_own_point.true)) c.print_with_point.ensures

pub returns-else-has_own_point : goal.returns-else-has_own_point
returns-else-has_own_point g c = laid_as (ap text (without_point (number_bytes c.args.style c.args.value.now (option_map (λ t. t.now) c.args.raw)) c.number_text-else-has_own_point.ensures c.has_own_point.ensures c.if-has_own_point.false)) c.print_number_parts.ensures
