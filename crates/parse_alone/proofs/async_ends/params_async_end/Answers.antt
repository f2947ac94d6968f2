use Rattle.std.proofs.Common.{rules, sym}
use Rattle.tree_nodes.specs.Placed.{inner}
use Rattle.tree_nodes.specs.View.{view_param}
use Rattle.parse_alone.proofs.Lasts.{initial_is}
use Rattle.parse_alone.proofs.async_ends.params_async_end.Goals as goal

pub returns-in-Assign : goal.returns-in-Assign
returns-in-Assign c = let last = initial_is (view_param inner) c.args.params.now c.in_ok-param.param.now c.in_ok-param.ensures.value in rw (sym last) (search rules)

pub returns-in_default : goal.returns-in_default
returns-in_default c = let last = initial_is (view_param inner) c.args.params.now c.in_ok-param.param.now c.in_ok-param.ensures.value in rw (sym last) (search rules)
