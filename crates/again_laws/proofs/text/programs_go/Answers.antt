use Rattle.again_laws.proofs.text.ProgramsGo.{programs_go}
use Rattle.again_laws.proofs.text.programs_go.Goals as goal

pub returns : goal.returns
returns c = programs_go
