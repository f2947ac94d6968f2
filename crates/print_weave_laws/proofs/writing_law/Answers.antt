use Rattle.print_weave_laws.proofs.Notes.{written_are_trivia}
use Rattle.print_weave_laws.proofs.writing_law.Goals as goal

pub returns-clause-trivia : goal.returns-clause-trivia
returns-clause-trivia c = written_are_trivia
