use Rattle.print_layout_laws.proofs.PrintedLemmas.{spelled_is_printed, read_is_printed}
use Rattle.print_layout_laws.proofs.printed_law.Goals as goal

pub returns-clause-spelled : goal.returns-clause-spelled
returns-clause-spelled c = spelled_is_printed

pub returns-clause-read : goal.returns-clause-read
returns-clause-read c = read_is_printed
