use Rattle.parse_source_laws.proofs.Ahead.{one_ahead}
use Rattle.parse_source_laws.proofs.ahead_law.Goals as goal

pub returns : goal.returns
returns c = record { parts = one_ahead }
