use Rattle.std.proofs.Common.{rules, ◌≡◌, Err}
use Rattle.print_writers.specs.Pages.{shallower}
use Rattle.print_writers.specs.States.{decrease}
use Rattle.print_writers.proofs.Growing.{grows_shallower}
use Rattle.print_writers.proofs.Omits.{omit_stops, omit_then}
use Rattle.print_writers.proofs.omit.OmitTrailingSemiWriteJs.decrease_indent.Goals as goal

pub returns-in_err-settle-clause-value : goal.returns-in_err-settle-clause-value
unfolding decrease
returns-in_err-settle-clause-value g c =
    let is : c.from_residual.result ≡ Err c.in_err-settle.field-0.0 = search rules in
    omit_stops g.W.WriteJs.tells g.W.WriteJs.state shallower grows_shallower c.args.self.now c.settle.new.self c.in_err-settle.field-0.0 c.from_residual.result is c.in_err-settle.ensures.value

pub returns-clause-value : goal.returns-clause-value
unfolding decrease
returns-clause-value g c =
    omit_then g.W.WriteJs.tells g.W.WriteJs.state shallower grows_shallower c.args.self.now c.settle.new.self c.decrease_indent.new.self c.decrease_indent.result c.in_ok-settle.ensures.value c.decrease_indent.ensures.value
