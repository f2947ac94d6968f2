use Rattle.parse_front_laws.proofs.Parts.{expressions_stop}
use Rattle.parse_front_laws.proofs.stops_law.Goals as goal

pub returns : goal.returns
returns c = record { expressions = expressions_stop }
