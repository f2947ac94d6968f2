use Rattle.lex_step_laws.proofs.StepLemmas as lemmas
use Rattle.lex_step_laws.proofs.fault_ends.Goals as goal

pub returns : goal.returns
returns c = lemmas.ends_by_fault
