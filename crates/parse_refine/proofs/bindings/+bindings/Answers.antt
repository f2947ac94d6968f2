use Rattle.std.proofs.Common.{refl}
use Rattle.parse_refine.proofs.bindings.+bindings.Goals as goal

pub array_binds-loop-elem-init : goal.array_binds-loop-elem-init
array_binds-loop-elem-init t c = rw c.as_slice-elem-items.ensures.value refl
