use Rattle.tree_nodes.specs.View.{view_expr_or_spread}
use Rattle.print_nodes.proofs.Parts.{some_arguments}
use Rattle.print_nodes.proofs.news.has_arguments.Goals as goal

pub returns-in-len1-up : goal.returns-in-len1-up
returns-in-len1-up g c = rw c.in-Some.is (some_arguments (view_expr_or_spread g.T.Print.tree) c.in-Some.args.items c.as_slice.result.now c.as_slice.ensures.value c.in-len1-up.len_at_least)
