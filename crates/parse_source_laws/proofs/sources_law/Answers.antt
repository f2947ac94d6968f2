use Rattle.parse_source_laws.proofs.SourceLemmas.{programs_read, parts_read}
use Rattle.parse_source_laws.proofs.sources_law.Goals as goal

pub returns-clause-programs : goal.returns-clause-programs
returns-clause-programs g c = programs_read g.I.Sourced.machine g.I.Sourced.live

pub returns-clause-parts : goal.returns-clause-parts
returns-clause-parts g c = parts_read g.I.Sourced.machine g.I.Sourced.live
