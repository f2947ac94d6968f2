use Rattle.parse_front_laws.proofs.Parts.{parts_are_fronts}
use Rattle.parse_front_laws.proofs.Exact.{fronts_are_answered_exactly}
use Rattle.parse_front_laws.proofs.SourceFronts.{source_fronts_read, source_fronts_answered}
use Rattle.parse_front_laws.proofs.source_fronts_law.Goals as goal

pub returns-clause-read : goal.returns-clause-read
returns-clause-read g c = source_fronts_read g.I.Sourced.machine g.I.Sourced.live parts_are_fronts

pub returns-clause-answered : goal.returns-clause-answered
returns-clause-answered g c = source_fronts_answered g.I.Sourced.machine g.I.Sourced.live fronts_are_answered_exactly
