use Rattle.print_notes_laws.proofs.Characters.{characters_woven}
use Rattle.print_notes_laws.proofs.characters_law.Goals as goal

pub returns : goal.returns
returns c = characters_woven
