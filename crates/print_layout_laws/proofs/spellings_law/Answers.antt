use Rattle.print_layout_laws.proofs.LawsLemmas.{spellings_go, spellings_aside}
use Rattle.print_layout_laws.proofs.spellings_law.Goals as goal

pub returns-clause-layout : goal.returns-clause-layout
returns-clause-layout c = spellings_go

pub returns-clause-alike : goal.returns-clause-alike
returns-clause-alike c = spellings_aside
