use Rattle.std.proofs.Common.{◌∙◌, ap, sym}
use Rattle.tree_nodes.specs.Placed.{inner}
use Rattle.parse_refine.proofs.Told.{spread_other}
use Rattle.parse_refine.proofs.questions.is_name.Goals as goal

pub returns-in_default : goal.returns-in_default
returns-in_default c commas s =
    rw (ap inner c.get.ensures ∙ sym c.behind-expr.view_is) (sym (spread_other commas s c.behind-expr.inside.kind c.in_default.not-Ident))
