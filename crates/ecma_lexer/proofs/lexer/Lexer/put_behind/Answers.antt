use Rattle.std.proofs.Common.{sym, subst}
use Rattle.std.specs.Str.{chars}
use Rattle.lex_token.specs.declared.goal.LexicalGoal.TheVariants.{Div}
use Rattle.lex_step_laws.specs.Steps.{IsRead}
use Rattle.ecma_lexer.specs.Lexer.{state_in}
use Rattle.ecma_lexer.proofs.lexer.Lexer.put_behind.Goals as goal

pub returns-in-Ok-clause-step : goal.returns-in-Ok-clause-step
returns-in-Ok-clause-step c =
    subst (λ o. IsRead Div c.args.line_break (chars c.args.from.now) (state_in c.args.self.now) o (state_in c.next_behind.new.self)) (sym c.put.ensures) c.in-Ok.ensures.step
