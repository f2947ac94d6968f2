use Rattle.std.proofs.Common.{ℕ, List, chars, false, sym, ap, ◌∙◌, subst}
use Rattle.base_token.specs.declared.error.Error.{Error}
use Rattle.tree_nodes.specs.Placed.{inner}
use Rattle.tree_nodes.specs.View.{view_script}
use Rattle.ecma_parser.specs.Lexer.{state_in}
use Rattle.ecma_parser.specs.Machine.{lexer_machine}
use Rattle.parse_laws.specs.Answered.{PromisedReading}
use Rattle.parse_laws.proofs.TextLemmas.{new_outcome}
use Rattle.ecma_front.proofs.Settings.{limit_taken}
use Rattle.ecma_front.proofs.Settling.{taken, lacks}
use Rattle.ecma_front.proofs.reading.script.Goals as goal

pub returns-in-Ok : goal.returns-in-Ok
returns-in-Ok c =
    let o = c.args.options in
    let e = c.set_nesting.new.self in
    let left = c.may_come-left.result in
    let result = c.read_script-parsed.result in
    let recorded = c.take_errors-recorded.result.items in
    let promised = subst (λ (xs : List Error). PromisedReading lexer_machine state_in (view_script inner) false e left result xs recorded) (c.set_nesting.ensures.faults ∙ c.new-parser.ensures.faults)
    (subst (λ (ys : List Error). PromisedReading lexer_machine state_in (view_script inner) false e left result e.faults.items ys) (sym c.take_errors-recorded.ensures.answer)
    (subst (λ (n : ℕ). PromisedReading lexer_machine state_in (view_script inner) false e n result e.faults.items c.read_script-parsed.new.self.faults.items) (sym c.may_come-left.ensures) c.read_script-parsed.ensures.value)) in
    let source = ap (λ r. state_in r.input.input) c.set_nesting.ensures.reading ∙ c.new-parser.ensures.source in
    let comes = new_outcome state_in (view_script inner) false o.syntax c.args.text.now e c.utf8.text (c.set_nesting.ensures.started ∙ c.new-parser.ensures.started) source left result recorded promised in
    taken o (chars c.args.text.now) (view_script inner) false e.limit left result recorded c.in-Ok.script c.requires.goal (c.set_nesting.ensures.limit ∙ limit_taken o.nesting c.requires.limit)
    (rw c.as_slice.ensures.value at c.in-Ok.ensures) comes

pub returns : goal.returns
returns c =
    let o = c.args.options in
    let e = c.set_nesting.new.self in
    let left = c.may_come-left.result in
    let result = c.read_script-parsed.result in
    let recorded = c.take_errors-recorded.result.items in
    let promised = subst (λ (xs : List Error). PromisedReading lexer_machine state_in (view_script inner) false e left result xs recorded) (c.set_nesting.ensures.faults ∙ c.new-parser.ensures.faults)
    (subst (λ (ys : List Error). PromisedReading lexer_machine state_in (view_script inner) false e left result e.faults.items ys) (sym c.take_errors-recorded.ensures.answer)
    (subst (λ (n : ℕ). PromisedReading lexer_machine state_in (view_script inner) false e n result e.faults.items c.read_script-parsed.new.self.faults.items) (sym c.may_come-left.ensures) c.read_script-parsed.ensures.value)) in
    let source = ap (λ r. state_in r.input.input) c.set_nesting.ensures.reading ∙ c.new-parser.ensures.source in
    let comes = new_outcome state_in (view_script inner) false o.syntax c.args.text.now e c.utf8.text (c.set_nesting.ensures.started ∙ c.new-parser.ensures.started) source left result recorded promised in
    lacks o (chars c.args.text.now) (view_script inner) false e.limit left result recorded c.in-Err.fault c.requires.goal (c.set_nesting.ensures.limit ∙ limit_taken o.nesting c.requires.limit)
    (rw c.as_slice.ensures.value at c.in-Err.ensures) comes
