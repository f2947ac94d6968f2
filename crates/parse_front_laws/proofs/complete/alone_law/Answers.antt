use Rattle.parse_front_laws.proofs.complete.Alone.{fronts_stand_alone}
use Rattle.parse_front_laws.proofs.complete.alone_law.Goals as goal

pub returns : goal.returns
returns c = record { expressions = fronts_stand_alone }
