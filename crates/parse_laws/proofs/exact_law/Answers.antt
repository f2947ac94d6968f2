use Rattle.parse_laws.proofs.ExactLemmas.{programs_exact, one_program}
use Rattle.parse_laws.proofs.exact_law.Goals as goal

pub returns-clause-programs : goal.returns-clause-programs
returns-clause-programs g c = programs_exact g.I.Sourced.machine g.I.Sourced.live

pub returns-clause-one : goal.returns-clause-one
returns-clause-one g c = one_program g.I.Sourced.machine g.I.Sourced.live
