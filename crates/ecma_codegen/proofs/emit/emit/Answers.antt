use Rattle.std.proofs.Common.{None, Some, rules}
use Rattle.ecma_codegen.proofs.Emitting.{emits_lent, keeps_lent}
use Rattle.ecma_codegen.proofs.emit.emit.Goals as goal

pub returns-in-None-clause-value : goal.returns-in-None-clause-value
returns-in-None-clause-value g c = emits_lent g.W.WriteJs.tells g.W.WriteJs.state g.W.WriteJs.failed_writes g.W.WriteJs.loans None (search rules) c.print_alone.ensures c.in-None.is

pub returns-in-None-clause-keeps : goal.returns-in-None-clause-keeps
returns-in-None-clause-keeps g c = keeps_lent g.W.WriteJs.tells g.W.WriteJs.state g.W.WriteJs.failed_writes g.W.WriteJs.loans None (search rules) c.print_alone.ensures c.in-None.is

pub returns-in-Some-clause-value : goal.returns-in-Some-clause-value
returns-in-Some-clause-value g c = emits_lent g.W.WriteJs.tells g.W.WriteJs.state g.W.WriteJs.failed_writes g.W.WriteJs.loans (Some c.in-Some.fault) (search rules) c.print_alone.ensures c.in-Some.is

pub returns-in-Some-clause-keeps : goal.returns-in-Some-clause-keeps
returns-in-Some-clause-keeps g c = keeps_lent g.W.WriteJs.tells g.W.WriteJs.state g.W.WriteJs.failed_writes g.W.WriteJs.loans (Some c.in-Some.fault) (search rules) c.print_alone.ensures c.in-Some.is
