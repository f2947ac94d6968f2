use Rattle.parse_refine.proofs.leaves.leaf.Goals as goal

pub returns-in-Assign-clause-value : goal.returns-in-Assign-clause-value
returns-in-Assign-clause-value c commas = rw c.in-Assign.is (c.default.ensures.value commas)
