use Rattle.print_writers.proofs.Omits.{put_free}
use Rattle.print_writers.proofs.omit.OmitTrailingSemiWriteJs.put.Goals as goal

pub returns-then-is_none-clause-value : goal.returns-then-is_none-clause-value
returns-then-is_none-clause-value g c =
    put_free g.W.WriteJs.tells g.W.WriteJs.state c.args.s.now c.put.result c.args.self.now c.put.new.self c.is_none.ensures c.if-is_none.true c.put.ensures.value
