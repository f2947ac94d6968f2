use Rattle.std.proofs.Common.{Bool, not, codes, ap}
use Rattle.tree_nodes.specs.View.{view_member_prop}
use Rattle.print_layout_spec.specs.Looks.{text}
use Rattle.print_nodes.specs.Chains.{object_laid}
use Rattle.print_nodes.proofs.Chained.{member_is}
use Rattle.print_pieces.proofs.Steps.{◌▸◌, laid_as, when_as}
use Rattle.print_nodes.proofs.chains.MemberExprOfPrint.print.Goals as goal

pub returns-clause-laid : goal.returns-clause-laid
returns-clause-laid g c =
    laid_as (member_is c.args.look c.args._stand c.args.self.now.span (g.T.Print.tree c.args.self.now.obj.part.value) (view_member_prop g.T.Print.tree c.args.self.now.prop))
    (c.start.ensures ▸ (laid_as (ap (λ (b : Bool). object_laid c.args.look b (g.T.Print.tree c.args.self.now.obj.part.value)) c.is_computed-computed.ensures) c.print_object.ensures
    ▸ (when_as (text (codes ".")) (ap not c.is_computed-computed.ensures) c.text_if.ensures ▸ (c.print.ensures.laid ▸ c.end.ensures))))
