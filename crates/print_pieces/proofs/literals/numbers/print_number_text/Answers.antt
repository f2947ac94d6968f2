use Rattle.std.proofs.Common.{ap, ◌∙◌}
use Rattle.std.specs.Prelude.{option_map}
use Rattle.print_layout_spec.specs.Looks.{text}
use Rattle.print_pieces.proofs.Steps.{laid_as}
use Rattle.print_pieces.proofs.literals.Written.{number_minified}
use Rattle.print_pieces.proofs.literals.numbers.print_number_text.Goals as goal

pub returns-then-style : goal.returns-then-style
returns-then-style g c = laid_as (ap text (c.minified.ensures ∙ number_minified c.args.style c.args.value.now (option_map (λ t. t.now) c.args.raw) c.if-style.true)) c.print_three.ensures

pub returns-else-style : goal.returns-else-style
returns-else-style g c = laid_as (ap text c.number_text.ensures) c.print_number_parts.ensures
