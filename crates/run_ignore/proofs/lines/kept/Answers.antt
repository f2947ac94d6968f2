-- One more byte, or the end of the line.
use Rattle.std.proofs.Common.{◌≡◌, ℕ, length, subst, arith}
use Rattle.run_ignore.proofs.KeptLemmas.{KeptSoFar, kept_next, kept_done}
use Rattle.run_ignore.proofs.lines.kept.Goals as goal

pub loop-at-preserved : goal.loop-at-preserved
loop-at-preserved c =
    kept_next c.args.line.now c.loop-at.at c.loop-at.end c.loop-at.quoted c.kept_end-end.result c.quotes_next-quoted.result c.loop-at-test.true
    c.loop-at.invariant c.kept_end-end.ensures c.quotes_next-quoted.ensures

pub returns : goal.returns
returns c =
    let e : c.loop-at.at ≡ length c.args.line.now = omega arith in
    kept_done c.args.line.now c.loop-at.end c.loop-at.quoted
    (subst (λ (n : ℕ). KeptSoFar c.args.line.now n c.loop-at.end c.loop-at.quoted) e c.loop-at.invariant)
