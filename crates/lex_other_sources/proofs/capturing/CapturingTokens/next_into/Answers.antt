use Rattle.std.proofs.Common.{◌∙◌}
use Rattle.lex_other_sources.proofs.CaptureLemmas.{captured_shown}
use Rattle.lex_other_sources.proofs.StepLemmas.{falls_shown}
use Rattle.lex_other_sources.proofs.capturing.CapturingTokens.next_into.Goals as goal

pub returns-in-Ok-clause-falls : goal.returns-in-Ok-clause-falls
returns-in-Ok-clause-falls g c = falls_shown _ _ c.put.new.self c.in-Ok.token c.put.ensures c.in-Ok.ensures.falls

pub returns-in-Ok-clause-captured : goal.returns-in-Ok-clause-captured
returns-in-Ok-clause-captured g c = c.in-Ok.ensures.captured ∙ captured_shown c.put.new.self c.in-Ok.token _ c.put.ensures
