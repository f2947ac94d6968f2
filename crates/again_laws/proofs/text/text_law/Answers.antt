use Rattle.again_laws.proofs.text.WrittenUtf8.{text_is_laid, text_is_written}
use Rattle.again_laws.proofs.text.text_law.Goals as goal

pub returns-clause-laid : goal.returns-clause-laid
returns-clause-laid c = text_is_laid

pub returns-clause-written : goal.returns-clause-written
returns-clause-written c = text_is_written
