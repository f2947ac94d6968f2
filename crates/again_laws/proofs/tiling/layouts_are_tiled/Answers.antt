use Rattle.again_laws.proofs.tiling.Texts.{layouts_are_tiled, hashbangs_are_tiled}
use Rattle.again_laws.proofs.tiling.layouts_are_tiled.Goals as goal

pub returns-clause-alone : goal.returns-clause-alone
returns-clause-alone c = layouts_are_tiled

pub returns-clause-hashbang : goal.returns-clause-hashbang
returns-clause-hashbang c = hashbangs_are_tiled
