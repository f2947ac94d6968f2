use Rattle.std.proofs.Common.{◌∙◌, ap}
use Rattle.std.specs.Prelude.{option_map}
use Rattle.lex_literal.specs.Standing.{takes_point}
use Rattle.print_pieces.proofs.literals.Written.{number_read}
use Rattle.print_pieces.proofs.literals.numbers.has_own_point.Goals as goal

pub returns : goal.returns
returns c = c.takes_point.ensures ∙ ap takes_point (number_read c.args.style c.args.value.now (option_map (λ t. t.now) c.args.raw) c.read_text.ensures)
