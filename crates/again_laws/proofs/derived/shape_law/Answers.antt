use Rattle.again_laws.proofs.derived.Shapes.{nests_alike, clean_alike}
use Rattle.again_laws.proofs.derived.shape_law.Goals as goal

pub returns-clause-nesting : goal.returns-clause-nesting
returns-clause-nesting c = nests_alike

pub returns-clause-clean : goal.returns-clause-clean
returns-clause-clean c = clean_alike
