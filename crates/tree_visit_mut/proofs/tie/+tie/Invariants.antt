use Rattle.tree_visit_mut.proofs.tie.+tie.Given as goal

abbrev pub decreases-change_part : goal.decreases-change_part
decreases-change_part g a = a.depth
