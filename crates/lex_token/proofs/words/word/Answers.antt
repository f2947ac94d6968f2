use Rattle.std.proofs.Common.{⊎_elim, sym, subst}
use Rattle.std.specs.Str.{chars}
use Rattle.std.proofs.lemmas.Option.{MatchOption-at_some}
use Rattle.lex_token.specs.Lexemes.{IsWord}
use Rattle.lex_token.specs.Readings.{lexeme_view}
use Rattle.lex_token.proofs.SpelledLemmas.{if_some, is_word}
use Rattle.lex_token.proofs.words.word.Goals as goal

pub returns-in-Ok-Some-clause-word : goal.returns-in-Ok-Some-clause-word
returns-in-Ok-Some-clause-word c =
    let h = MatchOption-at_some _ _ _ c.in-Ok-Some.field-0-is c.in-Ok-Some.ensures.name in
    let u = if_some _ c.in-Ok-Some.field-0 _ c.in-Ok-Some.field-0-is c.in-Ok-Some.ensures.text in
    subst (λ l. IsWord (chars c.args.text.now) (lexeme_view c.named.result) (chars l)) (sym c.named.ensures.rest)
    (is_word _ c.in-Ok-Some.name _ _ h u c.named.ensures.view)

pub returns-in-Err-clause-word : goal.returns-in-Err-clause-word
returns-in-Err-clause-word c = λ m. ⊎_elim (λ e. absurd (m e)) (λ h. (λ x rest g. h.0 g.0 rest g.2, h.1)) c.in-Err.ensures.name
