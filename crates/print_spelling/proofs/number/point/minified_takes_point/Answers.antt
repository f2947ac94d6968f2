use Rattle.std.proofs.Common.{sym, ◌∙◌, arith}
use Rattle.std.proofs.lemmas.Bool.Decides.{nat_tests}
use Rattle.print_spelling.proofs.number.TextLemmas.{power_is}
use Rattle.print_spelling.proofs.number.TakesPointLemmas.{other_takes, below_takes, count_takes, power_takes}
use Rattle.print_spelling.proofs.number.point.minified_takes_point.Goals as goal

pub returns-then-radix-ne10 : goal.returns-then-radix-ne10
returns-then-radix-ne10 c = other_takes c.args.value.now c.digits-digits.ensures.form (λ e. c.if-radix-ne10.true (c.radix.ensures ∙ e))

pub returns-then-has_negative_exponent : goal.returns-then-has_negative_exponent
returns-then-has_negative_exponent c =
    below_takes c.args.value.now c.digits-digits.ensures.form (sym c.has_negative_exponent.ensures ∙ c.if-has_negative_exponent.true)

pub small_power-requires : goal.small_power-requires
small_power-requires c = power_is c.args.value.now c.exponent_digits.result.now c.exponent_digits.ensures

pub returns-in-Some : goal.returns-in-Some
returns-in-Some c =
    count_takes c.args.value.now c.digits-digits.result.now c.exponent_digits.result.now c.in-Some.count c.digits-digits.ensures.form
    c.digits-digits.ensures.value c.exponent_digits.ensures (sym c.radix.ensures ∙ c.if-radix-ne10.false)
    (sym c.has_negative_exponent.ensures ∙ c.if-has_negative_exponent.false) (λ z. absurd (grind (arith, nat_tests, c.is_empty.ensures))) c.in-Some.ensures.1

pub returns-in-None : goal.returns-in-None
returns-in-None c =
    power_takes c.args.value.now c.digits-digits.result.now c.exponent_digits.result.now c.digits-digits.ensures.form
    c.digits-digits.ensures.value c.exponent_digits.ensures (sym c.radix.ensures ∙ c.if-radix-ne10.false)
    (sym c.has_negative_exponent.ensures ∙ c.if-has_negative_exponent.false) (λ z. absurd (grind (arith, nat_tests, c.is_empty.ensures))) c.in-None.ensures
