-- One more cell of the row.
use Rattle.std.proofs.Common.{◌-◌, ◌<◌, ◌≡◌, ◌+◌, false, length, get_or, length-set, arith}
use Rattle.std.proofs.lemmas.List.{get_or_default}
use Rattle.run_ignore.specs.declared.matching.Cell.{Cell}
use Rattle.run_ignore.proofs.RowLemmas.{first_is, step-loop}
use Rattle.run_ignore.proofs.matching.step_back.Goals as goal

pub loop-at-preserved : goal.loop-at-preserved
loop-at-preserved c =
    let blank : Cell = record { here = false; later = false } in
    let kept = c.loop-at.invariant.bound in
    let count : length c.loop-at.cells ≡ length c.args.pieces.now + 1 = omega (arith, length-set {A = Cell}, c.requires.row.count) in
    let within : c.loop-at.at - 1 < length c.loop-at.cells = omega arith in
    step-loop c.args.pieces.now c.loop-at.cells c.args.path.now (c.loop-at.at - 1) c.loop-at.at c.index-pieces-at.result
    (get_or c.args.path.now 0 0) c.loop-at.past c.loop-at.behind (get_or c.loop-at.cells (c.loop-at.at - 1) blank)
    c.is_matched-here.result c.is_later-later.result c.is_later-later.ensures (omega arith) (omega arith) c.index-pieces-at.is count
    (first_is c.args.path.now c.requires.some)
    (get_or_default c.loop-at.cells (c.loop-at.at - 1) blank (get_or c.loop-at.cells (c.loop-at.at - 1) blank) within)
    c.loop-at.invariant c.is_matched-here.ensures
