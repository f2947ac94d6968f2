use Rattle.std.proofs.Common.{ℕ, ap, sym, ◌∙◌}
use Rattle.std.specs.Prelude.{◌∷◌}
use Rattle.lex_literal.proofs.NumberLemmas.{legacy_decimal}
use Rattle.lex_literal.proofs.number.legacy.Goals as goal

pub returns-then-has_digit_first : goal.returns-then-has_digit_first
returns-then-has_digit_first c =
    legacy_decimal c.args.own.now c.in_ok-first.digits.now
    (sym c.as_bytes.ensures.value ∙ c.in_ok-first.ensures.cases.0 ∙ ap (λ (d : ℕ). d ∷ c.in_ok-first.digits.now) c.if-first-ne48.false)
    (sym c.spells_octal.ensures ∙ c.if-spells_octal.false)
    (sym c.has_digit_first.ensures ∙ c.if-has_digit_first.true) c.requires
