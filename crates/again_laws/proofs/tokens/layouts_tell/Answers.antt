use Rattle.std.proofs.Common.{◌≡◌, refl}
use Rattle.again_laws.proofs.tokens.SaidIsTold.{bridge}
use Rattle.again_laws.proofs.tokens.layouts_tell.Goals as goal

pub returns : goal.returns
returns c n f a b ts r h k = bridge n f a b ts r (λ d m. (d ≡ b) × (m ≡ r)) h k (refl, refl)
