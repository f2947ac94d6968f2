use Rattle.std.proofs.Common.{sym, subst}
use Rattle.std.specs.Str.{chars}
use Rattle.lex_literal.specs.Numbers.{meaning}
use Rattle.lex_token.specs.Lexemes.{IsNumber}
use Rattle.lex_token.specs.Readings.{lexeme_view}
use Rattle.lex_token.proofs.SpelledLemmas.{is_number}
use Rattle.lex_token.proofs.literals.number.Goals as goal

pub returns-in-Ok-clause-number : goal.returns-in-Ok-clause-number
returns-in-Ok-clause-number c =
    let h = c.in-Ok.ensures.number in
    subst (λ l. IsNumber (chars c.args.text.now) (lexeme_view c.numeral.result) (chars l)) (sym c.numeral.ensures.rest)
    (is_number (meaning c.in-Ok.literal.value) c.in-Ok.literal.raw.now _ _ c.in-Ok.literal.legacy _ h.0 h.1 c.in-Ok.ensures.rest.0 c.numeral.ensures.view)

pub returns-in-Err-clause-number : goal.returns-in-Err-clause-number
returns-in-Err-clause-number c = λ m. let h = c.in-Err.ensures.number m in (λ x rest g. h.0 g.0 g.1 rest g.2, h.1)
