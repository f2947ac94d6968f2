use Rattle.std.proofs.Common.{sym}
use Rattle.tree_nodes.specs.View.{view_member_prop}
use Rattle.print_nodes.proofs.Chained.{chain_is}
use Rattle.print_nodes.proofs.Parts.{laid_like}
use Rattle.print_nodes.proofs.Tokens.{point_where}
use Rattle.print_pieces.proofs.Steps.{◌▸◌}
use Rattle.print_nodes.proofs.chains.OptChainExprOfPrint.print.Goals as goal

pub returns-in-Member-clause-laid : goal.returns-in-Member-clause-laid
returns-in-Member-clause-laid g c =
    rw c.in-Member.is (laid_like (chain_is c.args.look c.args._stand c.args.self.now.span c.in-Member.x.span c.args.self.now.optional (g.T.Print.tree c.in-Member.x.obj.part.value) (view_member_prop g.T.Print.tree c.in-Member.x.prop)) c.print_chain_member.ensures)

pub returns-in-Call-clause-laid : goal.returns-in-Call-clause-laid
returns-in-Call-clause-laid g c = rw c.in-Call.is (c.print.ensures.laid ▸ (laid_like (point_where c.args.self.now.optional) c.text_if.ensures ▸ rw (sym c.as_slice.ensures.value) c.print_arguments.ensures))
