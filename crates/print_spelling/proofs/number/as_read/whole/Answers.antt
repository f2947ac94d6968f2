use Rattle.std.proofs.Common.{sym, ◌∙◌}
use Rattle.print_spelling.proofs.number.TextLemmas.{power_is}
use Rattle.print_spelling.proofs.number.AsReadLemmas.{whole_is}
use Rattle.print_spelling.proofs.number.TakesPointLemmas.{whole_point}
use Rattle.print_spelling.proofs.number.as_read.whole.Goals as goal

pub whole_digits-requires : goal.whole_digits-requires
whole_digits-requires c = power_is c.args.value.now c.exponent_digits.result.now c.exponent_digits.ensures

pub returns-clause-text : goal.returns-clause-text
returns-clause-text c =
    c.whole_digits.ensures
    ∙ whole_is c.args.value.now c.digits-digits.result.now c.exponent_digits.result.now c.digits-digits.ensures.value c.exponent_digits.ensures
    (sym c.radix.ensures ∙ c.if-radix-ne10.false) (sym c.has_negative_exponent.ensures ∙ c.if-has_negative_exponent.false)

pub returns-clause-point : goal.returns-clause-point
returns-clause-point c =
    whole_point c.whole_digits.result c.args.value.now
    (c.whole_digits.ensures
    ∙ whole_is c.args.value.now c.digits-digits.result.now c.exponent_digits.result.now c.digits-digits.ensures.value c.exponent_digits.ensures
    (sym c.radix.ensures ∙ c.if-radix-ne10.false) (sym c.has_negative_exponent.ensures ∙ c.if-has_negative_exponent.false))
    c.digits-digits.ensures.form
