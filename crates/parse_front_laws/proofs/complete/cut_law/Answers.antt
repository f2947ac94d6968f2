use Rattle.parse_front_laws.proofs.complete.Cut.{cuts_off}
use Rattle.parse_front_laws.proofs.complete.cut_law.Goals as goal

pub returns : goal.returns
returns c = record { spelled = cuts_off }
