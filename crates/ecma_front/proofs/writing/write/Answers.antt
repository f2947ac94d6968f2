use Rattle.ecma_front.proofs.Formatting.{told_counts}
use Rattle.ecma_front.proofs.Settings.{within}
use Rattle.ecma_front.proofs.writing.write.Goals as goal

pub print-requires : goal.print-requires
print-requires g c = (within c.args.options c.requires).1

pub returns-in-Err-clause-value : goal.returns-in-Err-clause-value
returns-in-Err-clause-value g c = (c.in-Err.fault, c.told.ensures, c.in-Err.ensures.value)

pub returns-in-Err-clause-failures : goal.returns-in-Err-clause-failures
returns-in-Err-clause-failures g c = told_counts _ (g.W.Failing.failure_count c.args.writer.now) c.in-Err.fault c.told.result c.told.ensures c.in-Err.ensures.failures
