use Rattle.print_pages_spec.proofs.Depths.{comes_back, stays_deepest, stays_at_none}
use Rattle.print_pages_spec.proofs.laws.depth_comes_back.Goals as goal

pub returns : goal.returns
returns c = record { back = comes_back; ends = λ p. (stays_deepest p, stays_at_none p) }
