use Rattle.std.proofs.Common.{rules, ◌≡◌, Err}
use Rattle.print_writers.specs.States.{span_or_none}
use Rattle.print_writers.proofs.Omits.{semi_stops, semi_waits}
use Rattle.print_writers.proofs.omit.OmitTrailingSemiWriteJs.write_semi.Goals as goal

pub returns-in_err-settle-clause-value : goal.returns-in_err-settle-clause-value
returns-in_err-settle-clause-value g c =
    let is : c.from_residual.result ≡ Err c.in_err-settle.field-0.0 = search rules in
    semi_stops g.W.WriteJs.tells g.W.WriteJs.state c.args.span c.args.self.now c.settle.new.self c.in_err-settle.field-0.0 c.from_residual.result is c.in_err-settle.ensures.value

pub returns-clause-value : goal.returns-clause-value
returns-clause-value g c =
    let own : c.unwrap_or.result ≡ span_or_none c.args.span = search rules in
    semi_waits g.W.WriteJs.tells g.W.WriteJs.state c.args.span c.unwrap_or.result c.args.self.now c.settle.new.self own c.in_ok-settle.ensures.value
