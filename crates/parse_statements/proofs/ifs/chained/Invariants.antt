use Rattle.std.proofs.Common.{◌≡◌, map, length}
use Rattle.tree_spec.specs.Tree.{part_by}
use Rattle.tree_nodes.specs.Placed.{holds_stmt, inner}
use Rattle.grammar_spec.specs.Reader.Statements as reads
use Rattle.parse_statements.specs.Lists.{branch_of, FitBranches}
use Rattle.parse_statements.proofs.ifs.chained.Given as goal

abbrev pub invariant-links : goal.invariant-links
invariant-links l = record {
  same : reads.chained l.fn.hi.0 (map branch_of l.fn.branches.items) (part_by (λ x. inner x.part.value) l.fn.last) ≡ reads.chained l.fn.hi.0 (map branch_of l.branches.items) (inner l.made.part.value);
  fits : FitBranches l.branches.items;
  holds : holds_stmt l.made.part.value;
}

abbrev pub decreases-links : goal.decreases-links
decreases-links l = length l.branches.items
