use Rattle.again_laws.proofs.derived.Programs.{same_program}
use Rattle.again_laws.proofs.derived.EarlyErrors.{legal_alike}
use Rattle.again_laws.proofs.derived.program_law.Goals as goal

pub returns-clause-program : goal.returns-clause-program
returns-clause-program c = same_program

pub returns-clause-legal : goal.returns-clause-legal
returns-clause-legal c = legal_alike
