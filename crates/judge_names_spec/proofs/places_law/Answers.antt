use Rattle.judge_names_spec.proofs.MovedWalk.{places_move}
use Rattle.judge_names_spec.proofs.places_law.Goals as goal

pub returns : goal.returns
returns c = places_move
