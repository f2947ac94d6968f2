use Rattle.std.proofs.Common.{rules, ◌≡◌, Some, Err}
use Rattle.print_writers.specs.Pages.{indented}
use Rattle.print_writers.specs.Views.{js_tells, js_page, marks_of}
use Rattle.print_writers.proofs.Growing.{grows_indented, past_indented, past_stops}
use Rattle.print_writers.proofs.js_writer.JsWriter.begin_line.Goals as goal

pub returns-in_err-end-in-Some-clause-value : goal.returns-in_err-end-in-Some-clause-value
returns-in_err-end-in-Some-clause-value g c =
    let is : c.from_residual.result ≡ Err c.in_err-end-in-Some.field-0.0 = search rules in
    let fault = c.in_err-end-in-Some.ensures.err in
    past_stops (js_tells g.W.Write.contents) (js_page g.W.Write.contents) indented grows_indented c.args.self.now (record c.args.self.now { marks = Some c.in-Some.marks }) c.in_err-end-in-Some.field-0.0 c.from_residual.result is fault.0
    (search rules) (search rules) (past_indented (js_page g.W.Write.contents c.args.self.now) (marks_of c.in-Some.marks) c.requires (search rules) fault.1)
