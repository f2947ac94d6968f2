use Rattle.std.proofs.Common.{◌≡◌, ◌∙◌, [], sym, ap, length, pos, ◌-ℤ◌, true}
use Rattle.std.specs.Option.{unwrap_or}
use Rattle.base_number.specs.Numbers.{before, after, scaled, exponent_value, spells_mantissa, spells_exponent}
use Rattle.base_number.specs.DigitText.{digits_in}
use Rattle.base_number.proofs.NumberLemmas.{copied_or}
use Rattle.base_number.proofs.TextLemmas.{mantissa_all, decimal_is}
use Rattle.base_number.proofs.decimal_number.Goals as goal

pub scaled-requires : goal.scaled-requires
scaled-requires c =
    let spelled : spells_mantissa (before 46 c.cut.result.0.now) (after 46 c.cut.result.0.now) ≡ true = rw (← c.cut-2.ensures.before, ← c.cut-2.ensures.after) (sym c.if-not-spells_mantissa.ensures) in
    mantissa_all c.cut.result.0.now spelled

pub returns : goal.returns
returns c =
    let spelled : spells_mantissa (before 46 c.cut.result.0.now) (after 46 c.cut.result.0.now) ≡ true = rw (← c.cut-2.ensures.before, ← c.cut-2.ensures.after) (sym c.if-not-spells_mantissa.ensures) in
    let spelled_exponent : spells_exponent (after 101 c.args.text.now) ≡ true = rw (← c.cut.ensures.after) (sym c.if-not-spells_exponent.ensures) in
    let fraction : c.unwrap_or.result.now ≡ unwrap_or (after 46 c.cut.result.0.now) [] = ap (λ r. r.now) c.unwrap_or.ensures ∙ (copied_or c.cut-2.result.1 c.as_slice.result c.as_slice.ensures ∙ ap (λ o. unwrap_or o []) c.cut-2.ensures.after) in
    let decimals : c.count_digits-decimals.result ≡ length (digits_in (unwrap_or (after 46 c.cut.result.0.now) [])) = c.count_digits-decimals.ensures ∙ ap (λ ds. length (digits_in ds)) fraction in
    let exponent : c.in_ok-exponent.exponent ≡ exponent_value (after 101 c.args.text.now) -ℤ pos (length (digits_in (unwrap_or (after 46 c.cut.result.0.now) []))) = c.in_ok-exponent.ensures ∙ (ap (λ e. e -ℤ pos c.count_digits-decimals.result) (c.in_ok-read.ensures ∙ ap exponent_value c.cut.ensures.after) ∙ ap (λ n. exponent_value (after 101 c.args.text.now) -ℤ pos n) decimals) in
    decimal_is c.args.text.now c.cut.result.0.now c.in_ok-scaled.field-0 c.cut.ensures.before spelled spelled_exponent (c.in_ok-scaled.ensures ∙ ap (scaled (digits_in c.cut.result.0.now)) exponent)
