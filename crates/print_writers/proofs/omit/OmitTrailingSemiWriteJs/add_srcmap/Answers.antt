use Rattle.print_writers.proofs.Omits.{mark_leaves, mark_stops}
use Rattle.print_writers.proofs.omit.OmitTrailingSemiWriteJs.add_srcmap.Goals as goal

pub returns-in-Ok-clause-value : goal.returns-in-Ok-clause-value
returns-in-Ok-clause-value g c = mark_leaves g.W.WriteJs.tells g.W.WriteJs.state c.args.pos c.args.self.now c.add_srcmap.new.self c.in-Ok.ensures.value

pub returns-in-Err-clause-value : goal.returns-in-Err-clause-value
returns-in-Err-clause-value g c = mark_stops g.W.WriteJs.tells g.W.WriteJs.state c.args.pos c.args.self.now c.add_srcmap.new.self c.in-Err.fault c.in-Err.ensures.value
