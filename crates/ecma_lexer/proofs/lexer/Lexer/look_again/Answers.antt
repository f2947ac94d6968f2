use Rattle.std.proofs.Common.{Some, ap, ◌∙◌}
use Rattle.lex_source.specs.Machine.{told_of}
use Rattle.lex_source.specs.Settings.{with_next_regexp}
use Rattle.ecma_lexer.specs.Lexer.{state_in}
use Rattle.ecma_lexer.proofs.LookLemmas.{again_shown}
use Rattle.ecma_lexer.proofs.lexer.Lexer.look_again.Goals as goal

pub returns : goal.returns
returns c =
    let s = state_in c.args.self.now in
    again_shown s (state_in c.scout-scout.result) (state_in c.next.new.self) c.args.place.0 c.next.result
    (c.scout-scout.ensures ∙ ap (λ x. told_of (with_next_regexp (Some c.args.place.0) x) s) c.scout-settings.ensures) c.next.ensures.step
