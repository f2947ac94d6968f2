use Rattle.std.proofs.Common.{ℕ, ◌<◌, List, ap, sym, ◌∙◌, subst, length}
use Rattle.std.specs.Prelude.{◌^◌}
use Rattle.std.specs.Str.{chars}
use Rattle.std.specs.Str.Parse.{IsNumeral, digits_value}
use Rattle.lex_literal.proofs.CodeLemmas.{parsed, code_ok, code_none, code_great, code_unparsed}
use Rattle.lex_literal.proofs.escape.code_point.Goals as goal

pub returns-in-Ok-clause-value : goal.returns-in-Ok-clause-value
returns-in-Ok-clause-value c =
    let h = c.in-Ok.ensures.value in
    let e = parsed c.args.digits.now c.utf8.digits c.requires in
    code_ok (chars c.args.digits.now) c.in-Ok.code (subst (λ (l : List ℕ). 0 < length l) e h.0.0.0) (ap (digits_value 16) (sym e) ∙ sym h.1) c.if-code-le-GREATEST_CODE.true

pub returns-in_default-clause-value : goal.returns-in_default-clause-value
returns-in_default-clause-value c =
    let h = c.in-Ok.ensures.value in
    let e = parsed c.args.digits.now c.utf8.digits c.requires in
    code_none (chars c.args.digits.now) (code_great (chars c.args.digits.now) c.in-Ok.code (ap (digits_value 16) (sym e) ∙ sym h.1) c.if-code-le-GREATEST_CODE.false)

pub returns-in_default-2-clause-value : goal.returns-in_default-2-clause-value
returns-in_default-2-clause-value c =
    let e = parsed c.args.digits.now c.utf8.digits c.requires in
    code_none (chars c.args.digits.now) (code_unparsed (chars c.args.digits.now) c.requires
    (subst (λ (l : List ℕ). IsNumeral 16 l × (digits_value 16 l < 2 ^ 32) → ⊥) e c.in_default.ensures.value))
