use Rattle.parse_laws.proofs.TextReadLemmas.{texts_settled}
use Rattle.parse_laws.proofs.TextLemmas.{reading_settled}
use Rattle.parse_laws.proofs.text_law.Goals as goal

pub returns : goal.returns
returns c = record { settled = texts_settled; outcome = reading_settled }
