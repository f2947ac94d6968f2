use Rattle.std.proofs.Common.{sym, subst}
use Rattle.std.specs.Str.{chars}
use Rattle.base_token.specs.TokenViews.{cooked_units}
use Rattle.lex_token.specs.Lexemes.{IsCharacters}
use Rattle.lex_token.specs.Readings.{HasFirstBad, lexeme_view}
use Rattle.lex_token.proofs.SpelledLemmas.{cooked_piece, first_bad, is_characters}
use Rattle.lex_token.proofs.literals.template.Goals as goal

pub returns-in-Ok-clause-characters : goal.returns-in-Ok-clause-characters
returns-in-Ok-clause-characters c =
    let p = c.in-Ok.piece in
    let h = cooked_piece (chars p.raw.now) p.ending (chars c.args.text.now) (chars p.rest.now) _ p.cooked c.in-Ok.ensures.piece in
    subst (λ l. IsCharacters (chars c.args.text.now) (lexeme_view c.plain.result) (chars l)) (sym c.plain.ensures.rest)
    (is_characters p.raw.now (cooked_units p.cooked) p.ending _ (chars p.rest.now) _ _ h c.past-rest.ensures.cut c.in-Ok.ensures.rest.0 c.plain.ensures.view)

pub returns-in-Err-clause-characters : goal.returns-in-Err-clause-characters
returns-in-Err-clause-characters c = λ m. let h = c.in-Err.ensures.piece m in (λ x rest g. h.0 g.4.0 g.2 g.3 (g.4.1, g.4.2, g.4.3), (h.1, h.2))

pub returns-in-Ok-clause-bad : goal.returns-in-Ok-clause-bad
returns-in-Ok-clause-bad c =
    let p = c.in-Ok.piece in
    subst (HasFirstBad c.args.end (chars c.args.text.now)) (sym c.plain.ensures.token) (first_bad c.args.end (chars c.args.text.now) p.raw _ _ p.cooked c.in-Ok.ensures.piece)
