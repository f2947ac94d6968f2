use Rattle.tree_visit.proofs.spines.+leave_ifs.Given as goal

abbrev pub decreases-leave_ifs : goal.decreases-leave_ifs
decreases-leave_ifs g l = l.links
