use Rattle.std.proofs.Common.{ap}
use Rattle.std.specs.Str.{chars}
use Rattle.std.proofs.lemmas.Str.{chars-nil}
use Rattle.lex_source.specs.Settings.{settings_in}
use Rattle.ecma_lexer.specs.declared.lexer.Lexer.{Lexer}
use Rattle.ecma_lexer.specs.Lexer.{state_in}
use Rattle.ecma_lexer.proofs.StepLemmas.{at_end, emptied}
use Rattle.ecma_lexer.proofs.lexer.Lexer.read.Goals as goal

pub returns-then-ends-clause-step : goal.returns-then-ends-clause-step
returns-then-ends-clause-step c =
    let v = c.self.view_is in
    let s = state_in c.args.self.now in
    at_end s _ c.ends.result c.args.goal c.args.line_break (chars c.args.from.now) c.if-ends.true c.ends.ensures
    (emptied s _ chars-nil (ap (λ (x : Lexer). x.text.end) v) (ap (λ (x : Lexer). x.text.last) v) (ap (λ (x : Lexer). x.text.line_break) v)
    (ap (λ (x : Lexer). settings_in x.settings) v))
