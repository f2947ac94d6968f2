use Rattle.std.proofs.Common.{refl, ap, subst, ◌∙◌}
use Rattle.std.specs.Prelude.{false}
use Rattle.std.specs.Str.{chars}
use Rattle.base_token.specs.Tokens.{bare}
use Rattle.base_token.specs.TokenViews.{token_kind_number}
use Rattle.lex_pieces.specs.Trivia.{IsSkipped}
use Rattle.lex_token.specs.Lexemes.{plain, string_spelled, word_spelled}
use Rattle.lex_token.proofs.SortLemmas.{mark_is}
use Rattle.lex_step_laws.specs.States.{goal_of}
use Rattle.ecma_lexer.specs.declared.lexer.Lexer.{Lexer}
use Rattle.ecma_lexer.specs.Lexer.{state_in}
use Rattle.ecma_lexer.proofs.QuickLemmas.{mark_stands, plain_puts, quiet_mark, quiet_step, quiet_word, string_stands, word_stands}
use Rattle.ecma_lexer.proofs.lexer.Lexer.next_into.Goals as goal

pub returns-in-Some-clause-step : goal.returns-in-Some-clause-step
returns-in-Some-clause-step c =
    let s = state_in c.args.self.now in
    let from = chars c.in-Ok.from.now in
    let rest = chars c.in-Some.rest.now in
    let v = c.self-2.view_is in
    let skipped = subst (λ g. IsSkipped g false s.tokens.left c.in-Ok.line_break from) (c.goal_of-goal.ensures ∙ ap (λ (x : Lexer). goal_of x.settings.ctx) v)
    (subst (λ (x : Lexer). IsSkipped c.goal_of-goal.result false x.text.left c.in-Ok.line_break from) v c.in-Ok.ensures.trivia) in
    quiet_step s (state_in c.put_word.new.self) c.in-Ok.line_break from rest (word_spelled c.in-Some.name.now false) c.put_word.new.ahead
    (c.is_outside.ensures.last c.if-not-is_outside.false) (c.is_outside.ensures.open c.if-not-is_outside.false) skipped
    (word_stands from c.in-Some.name.now rest c.in-Some.ensures.rest.0 c.in-Some.ensures.name) (quiet_word c.in-Some.name.now) refl c.put_word.ensures.step.0 c.put_word.ensures.step.1

pub put_mark-requires-clause-mark : goal.put_mark-requires-clause-mark
put_mark-requires-clause-mark c = mark_is (chars c.in-Ok.from.now) c.in-Some-quiet_mark.kind (chars c.in-Some-quiet_mark.rest.now) c.in-Some-quiet_mark.ensures.mark.0

pub returns-in-Some-quiet_mark-clause-step : goal.returns-in-Some-quiet_mark-clause-step
returns-in-Some-quiet_mark-clause-step c =
    let s = state_in c.args.self.now in
    let from = chars c.in-Ok.from.now in
    let rest = chars c.in-Some-quiet_mark.rest.now in
    let kind = c.in-Some-quiet_mark.kind in
    let mark = c.in-Some-quiet_mark.ensures.mark in
    let v = c.self-2.view_is in
    let skipped = subst (λ g. IsSkipped g false s.tokens.left c.in-Ok.line_break from) (c.goal_of-goal.ensures ∙ ap (λ (x : Lexer). goal_of x.settings.ctx) v)
    (subst (λ (x : Lexer). IsSkipped c.goal_of-goal.result false x.text.left c.in-Ok.line_break from) v c.in-Ok.ensures.trivia) in
    quiet_step s (state_in c.put_mark.new.self) c.in-Ok.line_break from rest (plain (bare (token_kind_number kind))) c.put_mark.new.ahead
    (c.is_outside.ensures.last c.if-not-is_outside.false) (c.is_outside.ensures.open c.if-not-is_outside.false) skipped (mark_stands from kind rest mark.0)
    (quiet_mark from kind rest mark.0 mark.1) refl c.put_mark.ensures.step.0 c.put_mark.ensures.step.1

pub returns-in-Some-quiet_string-clause-step : goal.returns-in-Some-quiet_string-clause-step
returns-in-Some-quiet_string-clause-step c =
    let s = state_in c.args.self.now in
    let from = chars c.in-Ok.from.now in
    let literal = c.in-Some-quiet_string.literal in
    let rest = chars literal.rest.now in
    let v = c.self-2.view_is in
    let skipped = subst (λ g. IsSkipped g false s.tokens.left c.in-Ok.line_break from) (c.goal_of-goal.ensures ∙ ap (λ (x : Lexer). goal_of x.settings.ctx) v)
    (subst (λ (x : Lexer). IsSkipped c.goal_of-goal.result false x.text.left c.in-Ok.line_break from) v c.in-Ok.ensures.trivia) in
    quiet_step s (state_in c.put_string.new.self) c.in-Ok.line_break from rest (string_spelled literal.value literal.raw.now false) c.put_string.new.ahead
    (c.is_outside.ensures.last c.if-not-is_outside.false) (c.is_outside.ensures.open c.if-not-is_outside.false) skipped
    (string_stands from (string_spelled literal.value literal.raw.now false) rest c.in-Some-quiet_string.ensures.string) refl refl c.put_string.ensures.step.0 c.put_string.ensures.step.1

pub returns-clause-step : goal.returns-clause-step
returns-clause-step c =
    let s = state_in c.args.self.now in
    let from = chars c.in-Ok.from.now in
    let v = c.self-2.view_is in
    let skipped = subst (λ g. IsSkipped g false s.tokens.left c.in-Ok.line_break from) (c.goal_of-goal.ensures ∙ ap (λ (x : Lexer). goal_of x.settings.ctx) v)
    (subst (λ (x : Lexer). IsSkipped c.goal_of-goal.result false x.text.left c.in-Ok.line_break from) v c.in-Ok.ensures.trivia) in
    plain_puts s (state_in c.put_behind.new.self) c.in-Ok.line_break from c.put_behind.new.ahead c.put_behind.result (c.is_outside.ensures.last c.if-not-is_outside.false)
    (c.is_outside.ensures.open c.if-not-is_outside.false) skipped c.put_behind.ensures.step
