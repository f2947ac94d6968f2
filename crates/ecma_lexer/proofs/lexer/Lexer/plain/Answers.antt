use Rattle.std.proofs.Common.{ap, subst, ◌∙◌}
use Rattle.std.specs.Str.{chars}
use Rattle.std.specs.Prelude.{Some}
use Rattle.lex_pieces.specs.Trivia.{IsFaultAfter, IsSkipped}
use Rattle.lex_step_laws.specs.States.{goal_of, is_start}
use Rattle.ecma_lexer.specs.declared.lexer.Lexer.{Lexer}
use Rattle.ecma_lexer.specs.Lexer.{state_in}
use Rattle.ecma_lexer.proofs.StepLemmas.{plain_fault, plain_read}
use Rattle.ecma_lexer.proofs.lexer.Lexer.plain.Goals as goal

pub returns-in-Ok-clause-step : goal.returns-in-Ok-clause-step
returns-in-Ok-clause-step c =
    let v = c.self.view_is in
    plain_read c.goal_of-goal.result c.is_start.result c.in-Ok.broke (chars c.in-Ok.rest.now) (state_in c.args.self.now) (state_in c.read.new.self) c.read.result
    (c.goal_of-goal.ensures ∙ ap (λ (x : Lexer). goal_of x.settings.ctx) v) (c.is_start.ensures ∙ ap (λ (x : Lexer). is_start x.text.last) v)
    (subst (λ (x : Lexer). IsSkipped c.goal_of-goal.result c.is_start.result x.text.left c.in-Ok.broke (chars c.in-Ok.rest.now)) v c.in-Ok.ensures.trivia) c.read.ensures.step

pub returns-in-Err-clause-step : goal.returns-in-Err-clause-step
returns-in-Err-clause-step c =
    let v = c.self.view_is in
    plain_fault c.goal_of-goal.result c.is_start.result (state_in c.args.self.now) (state_in c.fail.new.self) _ c.in-Err.error
    (c.goal_of-goal.ensures ∙ ap (λ (x : Lexer). goal_of x.settings.ctx) v) (c.is_start.ensures ∙ ap (λ (x : Lexer). is_start x.text.last) v)
    (subst (λ (x : Lexer). IsFaultAfter x.text.end c.goal_of-goal.result c.is_start.result x.text.left c.in-Err.error) v c.in-Err.ensures.trivia)
    (ap (λ x. Some x) c.fail.ensures.spot) c.fail.ensures.state
