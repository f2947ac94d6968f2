use Rattle.ecma_lexer.proofs.StepLemmas.{ends_is}
use Rattle.ecma_lexer.proofs.step.ends.Goals as goal

pub returns-in_default : goal.returns-in_default
returns-in_default c = ends_is c.args.goal c.args.from.now c.is_empty.result c.utf8.from c.in_default.not-TemplateTail c.is_empty.ensures
