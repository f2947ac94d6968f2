use Rattle.print_writers.proofs.Omits.{settle_some, settle_none}
use Rattle.print_writers.proofs.omit.OmitTrailingSemi.settle.Goals as goal

pub returns-in-Some-clause-value : goal.returns-in-Some-clause-value
returns-in-Some-clause-value g c = settle_some g.W.WriteJs.tells g.W.WriteJs.state c.args.self.now c.write_operator.new.self c.in-Some.span c.write_operator.result c.in-Some.is c.write_operator.ensures.value

pub returns-in-None-clause-value : goal.returns-in-None-clause-value
returns-in-None-clause-value g c = settle_none g.W.WriteJs.tells g.W.WriteJs.state c.args.self.now c.commit_pending_semi.new.self c.commit_pending_semi.result c.in-None.is c.commit_pending_semi.ensures.value
