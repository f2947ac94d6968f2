use Rattle.std.proofs.Common.{◌≡◌, Bool, false, if◌then◌else◌, sym, subst}
use Rattle.tree_visit.specs.Told.{seen_in}
use Rattle.tree_visit.specs.Walk.{enter, told}
use Rattle.parse_alone.specs.Covers.{after_event}
use Rattle.parse_alone.proofs.clean.CleanWatch.enter.Goals as goal

pub returns-then-node_covers : goal.returns-then-node_covers
returns-then-node_covers c = let s = c.args.self.now.clean in
    sym (subst (λ (b : Bool). told (λ x. after_event (enter x)) (seen_in c.args.node) s ≡ (if b then false else s)) c.if-node_covers.true (c.node_covers.ensures s))

pub returns-else-node_covers : goal.returns-else-node_covers
returns-else-node_covers c = let s = c.args.self.now.clean in
    sym (subst (λ (b : Bool). told (λ x. after_event (enter x)) (seen_in c.args.node) s ≡ (if b then false else s)) c.if-node_covers.false (c.node_covers.ensures s))
