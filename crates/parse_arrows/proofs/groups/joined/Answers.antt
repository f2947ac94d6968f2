use Rattle.std.proofs.Common.{rules, ◌∙◌, sym}
use Rattle.tree_nodes.specs.Placed.{inner}
use Rattle.parse_arrows.proofs.Plain.{joined_long}
use Rattle.parse_arrows.proofs.groups.joined.Goals as goal

pub returns-clause-value : goal.returns-clause-value
returns-clause-value c = search rules ∙ sym (joined_long (λ e. inner e.part.value) c.args.exprs.items c.args.last c.args.span (search rules))
