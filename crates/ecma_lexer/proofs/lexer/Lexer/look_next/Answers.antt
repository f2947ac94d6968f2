use Rattle.std.proofs.Common.{ap, ◌∙◌}
use Rattle.lex_source.specs.Machine.{told_of}
use Rattle.ecma_lexer.specs.Lexer.{state_in}
use Rattle.ecma_lexer.proofs.LookLemmas.{next_shown}
use Rattle.ecma_lexer.proofs.lexer.Lexer.look_next.Goals as goal

pub returns : goal.returns
returns c =
    let s = state_in c.args.self.now in
    next_shown s (state_in c.scout-scout.result) (state_in c.next.new.self) c.next.result (c.scout-scout.ensures ∙ ap (λ x. told_of x s) c.scout.ensures) c.next.ensures.step
