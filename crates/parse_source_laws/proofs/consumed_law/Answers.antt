use Rattle.parse_source_laws.proofs.ConsumedLemmas.{programs_consumed}
use Rattle.parse_source_laws.proofs.ConsumedParts.{parts_consumed}
use Rattle.parse_source_laws.proofs.consumed_law.Goals as goal

pub returns-clause-programs : goal.returns-clause-programs
returns-clause-programs g c = programs_consumed g.I.Sourced.machine g.I.Sourced.live

pub returns-clause-parts : goal.returns-clause-parts
returns-clause-parts g c = parts_consumed g.I.Sourced.machine g.I.Sourced.live
