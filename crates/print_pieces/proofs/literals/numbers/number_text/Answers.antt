use Rattle.std.proofs.Common.{◌∙◌}
use Rattle.std.specs.Prelude.{option_map}
use Rattle.print_pieces.proofs.literals.Written.{number_read}
use Rattle.print_pieces.proofs.literals.numbers.number_text.Goals as goal

pub returns : goal.returns
returns c = c.formatted.ensures ∙ number_read c.args.style c.args.value.now (option_map (λ t. t.now) c.args.raw) c.read_text.ensures
