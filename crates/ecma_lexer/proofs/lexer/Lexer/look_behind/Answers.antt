use Rattle.std.proofs.Common.{ap, ◌∙◌}
use Rattle.lex_source.specs.Machine.{told_of}
use Rattle.ecma_lexer.specs.Lexer.{state_in}
use Rattle.ecma_lexer.proofs.LookLemmas.{second_shown}
use Rattle.ecma_lexer.proofs.lexer.Lexer.look_behind.Goals as goal

pub returns-in-Some : goal.returns-in-Some
returns-in-Some c =
    let s = state_in c.args.self.now in
    second_shown s (state_in c.scout-scout.result) (state_in c.next.new.self) (state_in c.next-in-Some.new.self) c.in_ok-next.field-0 c.in-Some.field-0 c.next-in-Some.result
    c.in-Some.is (c.scout-scout.ensures ∙ ap (λ x. told_of x s) c.scout.ensures) c.in_ok-next.ensures.step c.next-in-Some.ensures.step
