use Rattle.base_token.proofs.WordLemmas.{found_name}
use Rattle.base_token.proofs.word.IdentLikeFromRefStr.from.Goals as goal

pub returns-in-Ok : goal.returns-in-Ok
returns-in-Ok c = found_name _ _ c.in-Ok.ensures.value
