use Rattle.std.proofs.Common.{sym, ◌∙◌, arith}
use Rattle.std.proofs.lemmas.Bool.Decides.{nat_tests}
use Rattle.print_spelling.proofs.number.TextLemmas.{canonical_ascii, power_is, small_is, large_is}
use Rattle.print_spelling.proofs.number.text.minified.Goals as goal

pub small-requires-clause-digits : goal.small-requires-clause-digits
small-requires-clause-digits c =
    canonical_ascii c.args.value.now c.digits-digits.result.now c.digits-digits.ensures.value c.digits-digits.ensures.form
    (sym c.radix-radix.ensures ∙ c.if-radix-ne10.false)

pub small-requires-clause-power : goal.small-requires-clause-power
small-requires-clause-power c = power_is c.args.value.now c.exponent_digits.result.now c.exponent_digits.ensures

pub large-requires : goal.large-requires
large-requires c =
    power_is c.args.value.now c.exponent_digits-else-has_negative_exponent.result.now c.exponent_digits-else-has_negative_exponent.ensures

pub returns-then-has_negative_exponent : goal.returns-then-has_negative_exponent
returns-then-has_negative_exponent c =
    c.small.ensures
    ∙ small_is c.args.value.now c.digits-digits.result.now c.exponent_digits.result.now c.digits-digits.ensures.value c.exponent_digits.ensures
    (sym c.radix-radix.ensures ∙ c.if-radix-ne10.false) (sym c.has_negative_exponent.ensures ∙ c.if-has_negative_exponent.true)
    (λ z. absurd (grind (arith, nat_tests, c.is_empty.ensures)))

pub returns-else-has_negative_exponent : goal.returns-else-has_negative_exponent
returns-else-has_negative_exponent c =
    c.large.ensures
    ∙ large_is c.args.value.now c.digits-digits.result.now c.exponent_digits-else-has_negative_exponent.result.now c.digits-digits.ensures.value
    c.exponent_digits-else-has_negative_exponent.ensures (sym c.radix-radix.ensures ∙ c.if-radix-ne10.false)
    (sym c.has_negative_exponent.ensures ∙ c.if-has_negative_exponent.false) (λ z. absurd (grind (arith, nat_tests, c.is_empty.ensures)))
