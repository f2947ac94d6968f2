use Rattle.std.proofs.Common.{refl, sym, ◌∙◌}
use Rattle.print_nodes.proofs.Named.{passed_over, found, none_found}
use Rattle.print_nodes.proofs.specifiers.some_braced.Goals as goal

pub loop-x-init : goal.loop-x-init
loop-x-init g c = refl

pub loop-x-preserved : goal.loop-x-preserved
loop-x-preserved g c = passed_over g.T.PrintName.stands g.T.Print.tree c.args.items.now c.loop-x.x-index c.x-item.result _ c.loop-x-test.true c.x-item.is (sym c.is_braced.ensures ∙ c.if-is_braced.false) c.loop-x.invariant

pub returns-then-is_braced : goal.returns-then-is_braced
returns-then-is_braced g c = found g.T.PrintName.stands g.T.Print.tree c.args.items.now c.loop-x.x-index c.x-item.result _ c.loop-x-test.true c.x-item.is (sym c.is_braced.ensures ∙ c.if-is_braced.true) c.loop-x.invariant

pub returns : goal.returns
returns g c = none_found g.T.PrintName.stands g.T.Print.tree c.args.items.now c.loop-x.x-index _ c.loop-x-test.false c.loop-x.invariant
