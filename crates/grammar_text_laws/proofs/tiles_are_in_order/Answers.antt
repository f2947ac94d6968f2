use Rattle.grammar_text_laws.proofs.Ordered.{places_in_order}
use Rattle.grammar_text_laws.proofs.tiles_are_in_order.Goals as goal

pub returns : goal.returns
returns c = places_in_order
