use Rattle.grammar_laws.proofs.slash.SlashLemmas.{slashes_told}
use Rattle.grammar_laws.proofs.slash.slashes_law.Goals as goal

pub returns : goal.returns
returns c = record { told = slashes_told }
