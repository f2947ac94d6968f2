use Rattle.std.proofs.Common.{rules, ◌≡◌, Err}
use Rattle.print_writers.specs.Pages.{indented, begun, with_text, ended}
use Rattle.print_writers.specs.Views.{js_tells, js_page}
use Rattle.print_writers.proofs.Growing.{stopped, then_does, grows_indented, grows_begun, grows_text, grows_ended, grows_behind, grows_begin}
use Rattle.print_writers.proofs.js_writer.JsWriter.write_some.Goals as goal

pub returns-in_err-indent-clause-value : goal.returns-in_err-indent-clause-value
returns-in_err-indent-clause-value g c =
    let span = c.args.span in
    let bytes = c.args.text.now in
    let is : c.from_residual.result ≡ Err c.in_err-indent.field-0.0 = search rules in
    stopped (js_tells g.W.Write.contents) (js_page g.W.Write.contents) indented (λ p. ended span (with_text bytes (begun span p))) (grows_begin span bytes) c.args.self.now c.indent.new.self c.in_err-indent.field-0.0 c.from_residual.result is c.in_err-indent.ensures.value

pub returns-in_err-begin-clause-value : goal.returns-in_err-begin-clause-value
returns-in_err-begin-clause-value g c =
    let span = c.args.span in
    let bytes = c.args.text.now in
    let is : c.from_residual-in_err-begin.result ≡ Err c.in_err-begin.field-0.0 = search rules in
    then_does (js_tells g.W.Write.contents) (js_page g.W.Write.contents) indented (λ p. ended span (with_text bytes (begun span p))) grows_indented c.args.self.now c.indent.new.self c.begin.new.self c.from_residual-in_err-begin.result c.in_ok-indent.ensures.value
    (stopped (js_tells g.W.Write.contents) (js_page g.W.Write.contents) (begun span) (λ p. ended span (with_text bytes p)) (grows_behind span bytes) c.indent.new.self c.begin.new.self c.in_err-begin.field-0.0 c.from_residual-in_err-begin.result is c.in_err-begin.ensures.value)

pub returns-in_err-write_raw-clause-value : goal.returns-in_err-write_raw-clause-value
returns-in_err-write_raw-clause-value g c =
    let span = c.args.span in
    let bytes = c.args.text.now in
    let is : c.from_residual-in_err-write_raw.result ≡ Err c.in_err-write_raw.field-0.0 = search rules in
    then_does (js_tells g.W.Write.contents) (js_page g.W.Write.contents) indented (λ p. ended span (with_text bytes (begun span p))) grows_indented c.args.self.now c.indent.new.self c.write_raw.new.self c.from_residual-in_err-write_raw.result c.in_ok-indent.ensures.value
    (then_does (js_tells g.W.Write.contents) (js_page g.W.Write.contents) (begun span) (λ p. ended span (with_text bytes p)) (grows_begun span) c.indent.new.self c.begin.new.self c.write_raw.new.self c.from_residual-in_err-write_raw.result c.in_ok-begin.ensures.value
    (stopped (js_tells g.W.Write.contents) (js_page g.W.Write.contents) (with_text bytes) (ended span) (grows_ended span) c.begin.new.self c.write_raw.new.self c.in_err-write_raw.field-0.0 c.from_residual-in_err-write_raw.result is c.in_err-write_raw.ensures.value))

pub returns-clause-value : goal.returns-clause-value
returns-clause-value g c =
    let span = c.args.span in
    let bytes = c.args.text.now in
    then_does (js_tells g.W.Write.contents) (js_page g.W.Write.contents) indented (λ p. ended span (with_text bytes (begun span p))) grows_indented c.args.self.now c.indent.new.self c.end.new.self c.end.result c.in_ok-indent.ensures.value
    (then_does (js_tells g.W.Write.contents) (js_page g.W.Write.contents) (begun span) (λ p. ended span (with_text bytes p)) (grows_begun span) c.indent.new.self c.begin.new.self c.end.new.self c.end.result c.in_ok-begin.ensures.value
    (then_does (js_tells g.W.Write.contents) (js_page g.W.Write.contents) (with_text bytes) (ended span) (grows_text bytes) c.begin.new.self c.write_raw.new.self c.end.new.self c.end.result c.in_ok-write_raw.ensures.value c.end.ensures.value))
