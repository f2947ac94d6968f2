use Rattle.std.proofs.Common.{ap, subst, ◌∙◌}
use Rattle.std.specs.Str.{chars}
use Rattle.lex_pieces.specs.Notes.{IsCollected, IsCollectedUpTo}
use Rattle.lex_step_laws.specs.States.{goal_of, is_start}
use Rattle.ecma_lexer.specs.declared.lexer.Lexer.{Lexer}
use Rattle.ecma_lexer.specs.Lexer.{state_in}
use Rattle.ecma_lexer.proofs.KeptLemmas.{are_there, are_there_up_to, not_matched}
use Rattle.ecma_lexer.proofs.lexer.Lexer.notes_there.Goals as goal

pub returns-in-Ok-clause-notes : goal.returns-in-Ok-clause-notes
returns-in-Ok-clause-notes c =
    let v = c.self.view_is in
    let goal = c.goal_of-goal.result in
    let first = c.is_start-first.result in
    are_there (state_in c.args.self.now) goal first c.in-Ok.field-0.0 (chars c.in-Ok.field-0.1.now) c.new-notes.result.items c.collect_trivia.new.comments.items
    (c.goal_of-goal.ensures ∙ ap (λ (x : Lexer). goal_of x.settings.ctx) v) (c.is_start-first.ensures ∙ ap (λ (x : Lexer). is_start x.text.last) v) c.new-notes.ensures.items
    (subst (λ (x : Lexer). IsCollected x.text.end goal first x.text.left c.in-Ok.field-0.0 (chars c.in-Ok.field-0.1.now) c.new-notes.result.items c.collect_trivia.new.comments.items) v
    c.in-Ok.ensures.trivia)

pub returns-else-is_memory-clause-notes : goal.returns-else-is_memory-clause-notes
returns-else-is_memory-clause-notes c =
    let v = c.self.view_is in
    let goal = c.goal_of-goal.result in
    let first = c.is_start-first.result in
    are_there_up_to (state_in c.args.self.now) goal first c.in-Err.error c.new-notes.result.items c.collect_trivia.new.comments.items
    (c.goal_of-goal.ensures ∙ ap (λ (x : Lexer). goal_of x.settings.ctx) v) (c.is_start-first.ensures ∙ ap (λ (x : Lexer). is_start x.text.last) v) c.new-notes.ensures.items
    (not_matched c.is_memory.result _ _ c.if-is_memory.false c.is_memory.ensures)
    (subst (λ (x : Lexer). IsCollectedUpTo x.text.end goal first x.text.left c.in-Err.error c.new-notes.result.items c.collect_trivia.new.comments.items) v c.in-Err.ensures.trivia)
