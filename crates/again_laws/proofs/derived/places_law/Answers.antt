use Rattle.again_laws.proofs.derived.NamesBegin.{names_begin_there}
use Rattle.again_laws.proofs.derived.places_law.Goals as goal

pub returns : goal.returns
returns c = record { places = names_begin_there }
