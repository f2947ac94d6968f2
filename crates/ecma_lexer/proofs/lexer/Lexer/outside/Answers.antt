use Rattle.std.proofs.Common.{false, ap, subst, sym, ◌∙◌}
use Rattle.std.specs.Str.{chars}
use Rattle.lex_pieces.specs.Trivia.{IsHashbang}
use Rattle.lex_token.specs.Readings.{lexeme_view}
use Rattle.lex_step_laws.specs.States.{is_start}
use Rattle.ecma_lexer.specs.declared.lexer.Lexer.{Lexer}
use Rattle.ecma_lexer.specs.Lexer.{state_in}
use Rattle.ecma_lexer.specs.Stepping.{IsTaken, Steps}
use Rattle.ecma_lexer.proofs.StepLemmas.{first_line}
use Rattle.ecma_lexer.proofs.lexer.Lexer.outside.Goals as goal

pub returns-in-Some-clause-step : goal.returns-in-Some-clause-step
returns-in-Some-clause-step c =
    let v = c.self.view_is in
    let s = state_in c.args.self.now in
    let own = chars c.in-Some.own.now in
    let line = subst (λ r. IsHashbang s.tokens.left own (chars r)) (sym c.shebang.ensures.rest)
    (subst (λ (x : Lexer). IsHashbang x.text.left own (chars c.in-Some.rest.now)) v c.in-Some.ensures.hashbang) in
    first_line own (chars c.shebang.result.rest.now) _ s (state_in c.take.new.self) c.take.result
    (sym (c.is_start.ensures ∙ ap (λ (x : Lexer). is_start x.text.last) v) ∙ c.if-is_start.true) line c.shebang.ensures.view
    (subst (λ (x : Lexer). Steps (IsTaken false x.text.left (lexeme_view c.shebang.result) (chars c.shebang.result.rest.now) s) c.take.result (state_in c.take.new.self)) v c.take.ensures.step)
