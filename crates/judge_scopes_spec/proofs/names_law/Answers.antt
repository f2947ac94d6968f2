use Rattle.judge_scopes_spec.proofs.Named.{names_are_told}
use Rattle.judge_scopes_spec.proofs.names_law.Goals as goal

pub returns : goal.returns
returns c = names_are_told
