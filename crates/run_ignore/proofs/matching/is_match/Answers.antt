-- The row of what follows the front of the path is the one that the loop keeps.
use Rattle.std.proofs.Common.{ℕ, ◌-◌, List, length, drop, take, subst, sym, arith}
use Rattle.run_ignore.specs.Rows.{IsRow}
use Rattle.run_ignore.specs.declared.matching.Cell.{Cell}
use Rattle.run_ignore.proofs.RowLemmas.{rest_is}
use Rattle.run_ignore.proofs.matching.is_match.Goals as goal

pub step_back-requires-clause-row : goal.step_back-requires-clause-row
step_back-requires-clause-row c =
    let bound = c.loop-at.invariant.0 in
    let e = rest_is c.args.path.now (c.loop-at.at - 1) c.loop-at.at (omega arith) bound in
    let cells_are = c.deref_mut-in-loop-at.ensures.value in
    let kept = subst (λ (path : List ℕ). IsRow c.loop-at.cells.items c.args.pieces.now path) e c.loop-at.invariant.1 in
    subst (λ (cells : List Cell). IsRow cells c.args.pieces.now (drop 1 (take (length c.args.path.now - (c.loop-at.at - 1)) (drop (c.loop-at.at - 1) c.args.path.now)))) (sym cells_are) kept
