use Rattle.judge.proofs.faults.Asking.{for_in_behind}
use Rattle.judge.proofs.faults.statements.ForInStmtOfCheck.check.Goals as goal

pub returns : goal.returns
returns g c = for_in_behind c.args.self.now.span _ _ _ _ _ _ _ _ _ _ _ _ c.in_ok-using_fault.ensures c.heading.ensures c.in_ok-check.ensures c.looping.ensures c.in_ok-check-2.ensures c.looping-2.ensures c.in_ok-check-3.ensures
