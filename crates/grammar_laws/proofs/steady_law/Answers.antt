use Rattle.grammar_laws.proofs.SteadyLemmas.{limits_keep}
use Rattle.grammar_laws.proofs.steady_law.Goals as goal

pub returns : goal.returns
returns c = record { limits = limits_keep }
