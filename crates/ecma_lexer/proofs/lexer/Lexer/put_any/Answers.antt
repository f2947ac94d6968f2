use Rattle.std.proofs.Common.{sym, subst}
use Rattle.lex_step_laws.specs.Steps.{IsStep}
use Rattle.ecma_lexer.specs.Kept.{KeepsAsAsked}
use Rattle.ecma_lexer.specs.Lexer.{comments_in, keeps_comments, state_in}
use Rattle.ecma_lexer.proofs.lexer.Lexer.put_any.Goals as goal

pub returns-in-Ok-clause-step : goal.returns-in-Ok-clause-step
returns-in-Ok-clause-step c = subst (λ o. IsStep (state_in c.args.self.now) o (state_in c.next_of_any.new.self)) (sym c.put.ensures) c.in-Ok.ensures.step

pub returns-in-Ok-clause-comments : goal.returns-in-Ok-clause-comments
returns-in-Ok-clause-comments c =
    let x = c.args.self.now in
    subst (λ o. KeepsAsAsked (keeps_comments x) (state_in x) o (comments_in x) (comments_in c.next_of_any.new.self)) (sym c.put.ensures) c.in-Ok.ensures.comments
