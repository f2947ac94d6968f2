use Rattle.std.proofs.Common.{◌∙◌}
use Rattle.tree_nodes.specs.Placed.{holds_stmt}
use Rattle.parse_statements.proofs.Lists.{chained_pop, front_holds}
use Rattle.parse_statements.specs.Lists.{branch_of}
use Rattle.parse_statements.proofs.ifs.chained.Goals as goal

pub links-init : goal.links-init
links-init c = record {
  same = chained_pop branch_of c.args.hi.0 _ _ c.in-Some.innermost _ _ c.in-Some.ensures.items c.in_ok-made.ensures.value;
  fits = front_holds (λ b. holds_stmt b.consequent.part.value) _ _ c.in-Some.innermost c.in-Some.ensures.items c.requires.fits;
  holds = c.in_ok-made.ensures.holds;
}

pub links-preserved : goal.links-preserved
links-preserved c = record {
  same = c.links.invariant.same ∙ chained_pop branch_of c.args.hi.0 _ _ c.in-Some-pop.branch _ _ c.in-Some-pop.ensures.items c.in_ok-made-2.ensures.value;
  fits = front_holds (λ b. holds_stmt b.consequent.part.value) _ _ c.in-Some-pop.branch c.in-Some-pop.ensures.items c.links.invariant.fits;
  holds = c.in_ok-made-2.ensures.holds;
}
