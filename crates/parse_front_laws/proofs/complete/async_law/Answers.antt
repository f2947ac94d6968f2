use Rattle.parse_front_laws.proofs.complete.Asyncs.{expressions_settle}
use Rattle.parse_front_laws.proofs.complete.async_law.Goals as goal

pub returns : goal.returns
returns c = record { expressions = expressions_settle }
