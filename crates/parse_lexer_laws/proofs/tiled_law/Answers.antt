use Rattle.parse_lexer_laws.proofs.Tiles.{handed_tile, derived_tile}
use Rattle.parse_lexer_laws.proofs.Usual.{matched_usual, derived_usual}
use Rattle.parse_lexer_laws.proofs.tiled_law.Goals as goal

pub returns-clause-tile : goal.returns-clause-tile
returns-clause-tile c = handed_tile

pub returns-clause-usual : goal.returns-clause-usual
returns-clause-usual c = matched_usual

pub returns-clause-derived : goal.returns-clause-derived
returns-clause-derived c = derived_usual

pub returns-clause-programs : goal.returns-clause-programs
returns-clause-programs c = derived_tile
