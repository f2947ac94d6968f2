use Rattle.lex_other_sources.proofs.StepLemmas.{falls_shown}
use Rattle.lex_other_sources.proofs.rewinding.Rewinding.put_slowly.Goals as goal

pub returns-in-Ok-clause-falls : goal.returns-in-Ok-clause-falls
returns-in-Ok-clause-falls g c = falls_shown _ _ c.put.new.self c.in-Ok.token c.put.ensures c.in-Ok.ensures.falls
