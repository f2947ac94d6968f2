use Rattle.std.proofs.Common.{rules, ◌≡◌, Err, false}
use Rattle.print_writers.specs.States.{is_brace}
use Rattle.print_writers.proofs.Omits.{punct_stops, punct_then}
use Rattle.print_writers.proofs.omit.OmitTrailingSemiWriteJs.write_punct.Goals as goal

pub returns-in_err-settle-clause-value : goal.returns-in_err-settle-clause-value
returns-in_err-settle-clause-value g c =
    let is : c.from_residual.result ≡ Err c.in_err-settle.field-0.0 = search rules in
    let other : is_brace c.args.s.now ≡ false = search rules in
    punct_stops g.W.WriteJs.tells g.W.WriteJs.state c.args.span c.args.s.now c.args.self.now c.settle.new.self c.in_err-settle.field-0.0 c.from_residual.result other is c.in_err-settle.ensures.value

pub returns-clause-value : goal.returns-clause-value
returns-clause-value g c =
    let other : is_brace c.args.s.now ≡ false = search rules in
    punct_then g.W.WriteJs.tells g.W.WriteJs.state c.args.span c.args.s.now c.args.self.now c.settle.new.self c.write_punct.new.self c.write_punct.result other c.in_ok-settle.ensures.value c.write_punct.ensures.value
