use Rattle.again_laws.proofs.text.Programs.{scripts_are_tiled, modules_are_tiled}
use Rattle.again_laws.proofs.text.programs_are_tiled.Goals as goal

pub returns-clause-scripts : goal.returns-clause-scripts
returns-clause-scripts c = scripts_are_tiled

pub returns-clause-modules : goal.returns-clause-modules
returns-clause-modules c = modules_are_tiled
