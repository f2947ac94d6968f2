use Rattle.parse_lexer_laws.proofs.Hands.{new_at_start, tiles_handed, read_handed}
use Rattle.parse_lexer_laws.proofs.handed_law.Goals as goal

pub returns-clause-starts : goal.returns-clause-starts
returns-clause-starts c = new_at_start

pub returns-clause-tiles : goal.returns-clause-tiles
returns-clause-tiles c = tiles_handed

pub returns-clause-read : goal.returns-clause-read
returns-clause-read c = read_handed
