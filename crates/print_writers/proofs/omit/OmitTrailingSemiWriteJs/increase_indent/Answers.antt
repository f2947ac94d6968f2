use Rattle.std.proofs.Common.{rules, ◌≡◌, Err}
use Rattle.print_writers.specs.Pages.{deeper}
use Rattle.print_writers.specs.States.{increase}
use Rattle.print_writers.proofs.Growing.{grows_deeper}
use Rattle.print_writers.proofs.Omits.{omit_stops, omit_then}
use Rattle.print_writers.proofs.omit.OmitTrailingSemiWriteJs.increase_indent.Goals as goal

pub returns-in_err-settle-clause-value : goal.returns-in_err-settle-clause-value
unfolding increase
returns-in_err-settle-clause-value g c =
    let is : c.from_residual.result ≡ Err c.in_err-settle.field-0.0 = search rules in
    omit_stops g.W.WriteJs.tells g.W.WriteJs.state deeper grows_deeper c.args.self.now c.settle.new.self c.in_err-settle.field-0.0 c.from_residual.result is c.in_err-settle.ensures.value

pub returns-clause-value : goal.returns-clause-value
unfolding increase
returns-clause-value g c =
    omit_then g.W.WriteJs.tells g.W.WriteJs.state deeper grows_deeper c.args.self.now c.settle.new.self c.increase_indent.new.self c.increase_indent.result c.in_ok-settle.ensures.value c.increase_indent.ensures.value
