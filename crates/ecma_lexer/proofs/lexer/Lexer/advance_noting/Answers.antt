use Rattle.std.proofs.Common.{option_map, ap, sym, ◌∙◌}
use Rattle.lex_source.specs.Machine.{shown_spot}
use Rattle.lex_step_laws.specs.States.{is_start, place}
use Rattle.ecma_lexer.specs.declared.lexer.Lexer.{Lexer}
use Rattle.ecma_lexer.specs.Lexer.{state_in}
use Rattle.ecma_lexer.proofs.KeptLemmas.{kept_by}
use Rattle.ecma_lexer.proofs.lexer.Lexer.advance_noting.Goals as goal

pub returns-clause-kept : goal.returns-clause-kept
returns-clause-kept c =
    let v = c.self.view_is in
    kept_by (state_in c.args.self.now) (option_map shown_spot c.in_ok-token.token) c.args.self.now.comments c.advance.new.self.comments c.withdraw.new.self.comments c.keep.new.self.comments
    (option_map (λ p. p.0) c.behind_slash-behind_slash.result)
    c.in_ok-notes.notes.items c.as_slice.result.now c.trailing-trails.result c.part.result.lo.0 c.lead_place-lo.result.0 c.is_start-is_start.result c.is_end.result c.len.result
    c.in_ok-notes.ensures.notes c.behind_slash-behind_slash.ensures c.withdraw.ensures.trailing c.withdraw.ensures.leading c.in_ok-keep.ensures.trailing c.in_ok-keep.ensures.leading c.in_ok-token.ensures.kept.0 c.as_slice.ensures.value
    (ap (λ x. x.lo.0) c.part.ensures ∙ ap (λ (x : Lexer). place x.text.end x.text.left) v) c.lead_place-lo.ensures
    (c.is_start-is_start.ensures ∙ ap (λ (x : Lexer). is_start x.text.last) v) c.trailing-trails.ensures.first c.trailing-trails.ensures.last
    (c.len.ensures ∙ sym c.as_slice.ensures.len) c.is_end.ensures
