use Rattle.std.proofs.Common.{ap, sym, ◌∙◌}
use Rattle.std.specs.Str.{chars}
use Rattle.lex_source.specs.Contexts.{outward}
use Rattle.lex_step_laws.specs.States.{template_goal}
use Rattle.ecma_lexer.specs.declared.lexer.Lexer.{Lexer}
use Rattle.ecma_lexer.specs.Lexer.{state_in}
use Rattle.ecma_lexer.proofs.StepLemmas.{again_step, no_fault, template_step}
use Rattle.ecma_lexer.proofs.lexer.Lexer.advance.Goals as goal

pub returns-in-Some : goal.returns-in-Some
returns-in-Some c =
    let s = state_in c.args.self.now in
    record {
      step = again_step s (state_in c.read-in-Some.new.self) _ (chars c.in-Some.from.now) c.read-in-Some.result (no_fault _ s.tokens.last (ap (λ (x : Lexer). x.text.last) c.self.view_is) c.in_default.not-Fault)
          (sym c.in-Some.ensures.value) (ap (λ (x : Lexer). x.text.line_break) c.read.view_is) c.read-in-Some.ensures.step;
      kept = c.read-in-Some.ensures.kept;
      told = c.read-in-Some.ensures.told;
    }

pub returns-in-Some-template_goal : goal.returns-in-Some-template_goal
returns-in-Some-template_goal c =
    let s = state_in c.args.self.now in
    let v = c.self.view_is in
    record {
      step = template_step s (state_in c.read-in-Some-template_goal-2.new.self) c.in-Some-template_goal.goal _ c.read-in-Some-template_goal-2.result
          (no_fault _ s.tokens.last (ap (λ (x : Lexer). x.text.last) v) c.in_default.not-Fault) (sym c.in_default-again.ensures.value)
          (sym (c.template_goal.ensures ∙ ap (λ (x : Lexer). template_goal (outward x.settings.contexts) x.text.last) v) ∙ c.in-Some-template_goal.is)
          (ap (λ (x : Lexer). x.text.left) c.read-in-Some-template_goal.view_is) c.read-in-Some-template_goal-2.ensures.step;
      kept = c.read-in-Some-template_goal-2.ensures.kept;
      told = c.read-in-Some-template_goal-2.ensures.told;
    }
