use Rattle.std.proofs.Common.{Bool, ap, ◌||◌, ◌∙◌}
use Rattle.print_nodes.specs.Chains.{object_laid, link_laid}
use Rattle.print_pieces.proofs.Steps.{◌▸◌, laid_as}
use Rattle.print_nodes.proofs.chains.print_chain_member.Goals as goal

pub returns : goal.returns
returns g c =
    laid_as (ap (λ (b : Bool). object_laid c.args.look b (g.T.Print.tree c.args.member.now.obj.part.value)) (c.keeps_text.ensures ∙ ap (λ (b : Bool). c.args.optional || b) c.is_computed-computed.ensures)) c.print_object.ensures
    ▸ (laid_as (ap (link_laid c.args.optional) c.is_computed-computed.ensures) c.print_link.ensures ▸ c.print.ensures.laid)
