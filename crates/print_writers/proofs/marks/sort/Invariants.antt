use Rattle.std.proofs.Common.{◌≡◌, length}
use Rattle.std.specs.Prelude.{◌||◌}
use Rattle.std.specs.BTreeSet as set
use Rattle.std.specs.Ordering.{nat_cmp}
use Rattle.base_token.specs.declared.place.BytePos.{BytePos}
use Rattle.print_writers.specs.Pages.{is_here}
use Rattle.print_writers.proofs.marks.sort.Given as goal

abbrev pub invariant-marks : goal.invariant-marks
invariant-marks l =
    (pos : BytePos) → (set.contains nat_cmp l.sorted pos.0 || is_here pos l.left) ≡ (set.contains nat_cmp l.fn.sorted pos.0 || is_here pos l.fn.marks)

abbrev pub decreases-marks : goal.decreases-marks
decreases-marks l = length l.left
