-- The rule that matches is the last that does.
use Rattle.std.proofs.Common.{◌-◌, arith}
use Rattle.run_ignore.proofs.RuleLemmas.{decided}
use Rattle.run_ignore.proofs.rules.verdict_of.Goals as goal

pub returns-then-branch : goal.returns-then-branch
returns-then-branch c =
    let bound = c.loop-at.invariant.0 in
    decided c.args.rules.now c.args.path.now c.args.is_dir (c.loop-at.at - 1) c.loop-at.at c.index-rules-at.result c.verdict.result
    (omega arith) (omega arith) c.index-rules-at.is (c.in_ok-matches.ensures.0 c.if-branch.true) c.loop-at.invariant.1 c.verdict.ensures
