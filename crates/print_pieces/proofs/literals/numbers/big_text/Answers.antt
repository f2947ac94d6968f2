use Rattle.std.proofs.Common.{◌∙◌}
use Rattle.std.specs.Prelude.{option_map}
use Rattle.print_pieces.proofs.literals.Written.{big_read}
use Rattle.print_pieces.proofs.literals.numbers.big_text.Goals as goal

pub returns : goal.returns
returns c = c.formatted_big_int.ensures ∙ big_read c.args.style c.args.radix c.args.digits.now (option_map (λ t. t.now) c.args.raw) c.read_text.ensures
