use Rattle.lex_step_laws.proofs.StepLemmas as lemmas
use Rattle.lex_step_laws.proofs.one_step.Goals as goal

pub returns : goal.returns
returns c = lemmas.one_step
