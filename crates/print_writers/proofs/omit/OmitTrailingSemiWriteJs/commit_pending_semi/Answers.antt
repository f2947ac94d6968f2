use Rattle.print_writers.proofs.Omits.{settles}
use Rattle.print_writers.proofs.omit.OmitTrailingSemiWriteJs.commit_pending_semi.Goals as goal

pub returns-clause-value : goal.returns-clause-value
returns-clause-value g c = settles g.W.WriteJs.tells g.W.WriteJs.state c.args.self.now c.settle.new.self c.settle.result c.settle.ensures.value
