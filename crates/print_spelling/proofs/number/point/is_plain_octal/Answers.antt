use Rattle.std.proofs.Common.{ap, ◌∙◌}
use Rattle.lex_literal.specs.Escapes.{begins}
use Rattle.base_number.specs.Numbers.{plain}
use Rattle.print_spelling.specs.Number.NumberTexts.{is_separator}
use Rattle.print_spelling.proofs.number.TakesPointLemmas.{octal_then, octal_else}
use Rattle.print_spelling.proofs.number.point.is_plain_octal.Goals as goal

pub returns-then-has_digit : goal.returns-then-has_digit
returns-then-has_digit c =
    octal_then c.args.text.now c.as_bytes.result.now c.has_digit.result c.are_octal_or_separators.result
    (ap plain c.as_bytes.ensures.value ∙ c.past_separators.ensures.same) (ap (begins is_separator) c.as_bytes.ensures.value ∙ c.past_separators.ensures.stop)
    c.in-len1-up.len_at_least c.if-first-ne48.false c.has_digit.ensures c.are_octal_or_separators.ensures c.if-has_digit.true

pub returns-else-has_digit : goal.returns-else-has_digit
returns-else-has_digit c =
    octal_else c.args.text.now c.as_bytes.result.now c.has_digit.result
    (ap plain c.as_bytes.ensures.value ∙ c.past_separators.ensures.same) (ap (begins is_separator) c.as_bytes.ensures.value ∙ c.past_separators.ensures.stop)
    c.in-len1-up.len_at_least c.if-first-ne48.false c.has_digit.ensures c.if-has_digit.false
