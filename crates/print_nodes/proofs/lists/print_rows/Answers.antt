use Rattle.std.proofs.Common.{◌+◌, true, false, drop, refl, sym, ap, subst}
use Rattle.print_layout_spec.specs.Looks.{Laid}
use Rattle.tree_spec.specs.Tree.{trees_by}
use Rattle.print_layout_spec.specs.Looks.{line}
use Rattle.print_layout_spec.specs.Layout.{rows}
use Rattle.print_pieces.proofs.Steps.{idle}
use Rattle.print_nodes.proofs.Parts.{Goes, behind, sets_out, goes_on, as_left, at_part, at_end, rows_first, parts_are}
use Rattle.print_nodes.proofs.lists.print_rows.Goals as goal

pub loop-x-init : goal.loop-x-init
loop-x-init g c =
    subst (λ (l : Laid). Goes g.W.WriteJs.tells g.W.WriteJs.state g.W.WriteJs.failed_writes g.W.WriteJs.loans l (behind (line c.args.look) (rows c.args.look false) (trees_by g.T.Print.tree c.in-Some.rest.now)) c.args.p.now.wr c.args.p.now.fault c.print.new.p.wr c.print.new.p.fault)
    (ap (rows c.args.look false) (sym (parts_are g.T.Print.tree c.args.items.now c.in-Some.first.now c.in-Some.rest.now c.in-Some.ensures.cases.0)))
    (goes_on (goes_on (as_left (rows_first c.args.look false (g.T.Print.tree c.in-Some.first.now) (trees_by g.T.Print.tree c.in-Some.rest.now)) sets_out) c.print.ensures.laid) idle)

pub loop-x-preserved : goal.loop-x-preserved
loop-x-preserved g c =
    goes_on (goes_on (as_left (rows_first c.args.look false (g.T.Print.tree c.x-item.result) (trees_by g.T.Print.tree (drop (c.loop-x.x-index + 1) c.in-Some.rest.now))) (goes_on (at_part (behind (line c.args.look) (rows c.args.look false)) g.T.Print.tree c.in-Some.rest.now c.loop-x.x-index c.x-item.result c.loop-x-test.true c.x-item.is c.loop-x.invariant) c.line.ensures)) c.print-in-loop-x.ensures.laid) idle

pub returns : goal.returns
returns g c = at_end (behind (line c.args.look) (rows c.args.look false)) g.T.Print.tree c.in-Some.rest.now c.loop-x.x-index c.loop-x-test.false refl c.loop-x.invariant
