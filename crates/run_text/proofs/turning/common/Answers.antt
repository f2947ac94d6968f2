-- One more line is the same.
use Rattle.std.proofs.Common.{sym, ◌∙◌, arith}
use Rattle.run_text.proofs.BlockLemmas.{agree_at}
use Rattle.run_text.proofs.turning.common.Goals as goal

pub loop-count-preserved : goal.loop-count-preserved
loop-count-preserved c =
    let in_old = c.loop-count-test.true in
    let in_new = c.if-count-new.true in
    record {
      of_old = omega arith;
      of_new = omega arith;
      agree = agree_at c.args.old.now c.args.new.now c.loop-count.count _ _ c.loop-count.invariant.agree in_old in_new (sym c.is_same.ensures ∙ c.if-is_same.true);
    }
