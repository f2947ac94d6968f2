use Rattle.grammar_laws.proofs.context.PlacedLemmas.{has_places, read_has_places}
use Rattle.grammar_laws.proofs.context.places_law.Goals as goal

pub returns-clause-spelled : goal.returns-clause-spelled
returns-clause-spelled c = has_places

pub returns-clause-read : goal.returns-clause-read
returns-clause-read c = read_has_places
