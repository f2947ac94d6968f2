use Rattle.std.proofs.Common.{is_some, ap, ◌∙◌}
use Rattle.judge.specs.Base.Around.{scope_of}
use Rattle.judge.proofs.faults.Asking.{statements_more}
use Rattle.judge.proofs.faults.bodies.check_statements.Goals as goal

pub loop-x-preserved : goal.loop-x-preserved
loop-x-preserved g c =
    statements_more g.S.Check.tree c.args.items.now c.loop-x.x-index c.x-item.result (scope_of c.loop-x.code) (scope_of c.as_block.result) (scope_of c.after-code.result)
    c.is_some.result c.is_directive.result c.loop-x.faults.items c.check.new.faults.items _ c.loop-x-test.true c.x-item.is c.loop-x.invariant
    c.as_block.ensures c.in_ok-check.ensures (c.is_some.ensures ∙ ap is_some c.use_strict.ensures) c.is_directive.ensures c.after-code.ensures
