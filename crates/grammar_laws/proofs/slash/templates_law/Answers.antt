use Rattle.grammar_laws.proofs.slash.Braces.{programs_match}
use Rattle.grammar_laws.proofs.slash.templates_law.Goals as goal

pub returns : goal.returns
returns c = record { braces = programs_match }
