use Rattle.std.proofs.Common.{sym, subst}
use Rattle.std.specs.Str.{chars}
use Rattle.lex_token.specs.Lexemes.{IsQuoted}
use Rattle.lex_token.specs.Readings.{lexeme_view}
use Rattle.lex_token.proofs.SpelledLemmas.{is_quoted}
use Rattle.lex_token.proofs.literals.string.Goals as goal

pub returns-in-Ok-clause-string : goal.returns-in-Ok-clause-string
returns-in-Ok-clause-string c =
    let h = c.in-Ok.ensures.string in
    subst (λ l. IsQuoted (chars c.args.text.now) (lexeme_view c.quoted.result) (chars l)) (sym c.quoted.ensures.rest)
    (is_quoted c.in-Ok.literal.value c.in-Ok.literal.raw.now _ _ c.in-Ok.literal.legacy _ h.0 h.1 c.in-Ok.ensures.rest.0 c.quoted.ensures.view)

pub returns-in-Err-clause-string : goal.returns-in-Err-clause-string
returns-in-Err-clause-string c = λ m. let h = c.in-Err.ensures.string m in (λ x rest g. h.0 g.3.0 rest g.3.1, h.1)
