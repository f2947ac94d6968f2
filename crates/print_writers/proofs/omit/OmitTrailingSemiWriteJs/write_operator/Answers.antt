use Rattle.std.proofs.Common.{rules, ◌≡◌, Err}
use Rattle.print_writers.specs.Pages.{put}
use Rattle.print_writers.specs.States.{text}
use Rattle.print_writers.proofs.Growing.{grows_put}
use Rattle.print_writers.proofs.Omits.{omit_stops, omit_then}
use Rattle.print_writers.proofs.omit.OmitTrailingSemiWriteJs.write_operator.Goals as goal

pub returns-in_err-settle-clause-value : goal.returns-in_err-settle-clause-value
unfolding text
returns-in_err-settle-clause-value g c =
    let is : c.from_residual.result ≡ Err c.in_err-settle.field-0.0 = search rules in
    omit_stops g.W.WriteJs.tells g.W.WriteJs.state (put c.args.span c.args.s.now) (grows_put c.args.span c.args.s.now) c.args.self.now c.settle.new.self c.in_err-settle.field-0.0 c.from_residual.result is c.in_err-settle.ensures.value

pub returns-clause-value : goal.returns-clause-value
unfolding text
returns-clause-value g c =
    omit_then g.W.WriteJs.tells g.W.WriteJs.state (put c.args.span c.args.s.now) (grows_put c.args.span c.args.s.now) c.args.self.now c.settle.new.self c.write_operator.new.self c.write_operator.result c.in_ok-settle.ensures.value c.write_operator.ensures.value
