use Rattle.again_laws.proofs.text.ReadUtf8.{read_is_text}
use Rattle.again_laws.proofs.text.read_law.Goals as goal

pub returns : goal.returns
returns c = read_is_text
