use Rattle.std.proofs.Common.{sym, ap}
use Rattle.print_nodes.specs.Chains.{object_laid}
use Rattle.print_nodes.proofs.Chained.{no_number}
use Rattle.print_pieces.proofs.Steps.{laid_as}
use Rattle.print_nodes.proofs.chains.print_object.Goals as goal

pub returns-in-Some : goal.returns-in-Some
returns-in-Some g c = laid_as (ap (object_laid c.args.look c.args.keeps) (sym c.in-Some.ensures)) c.print_number_object.ensures

pub returns-in-None : goal.returns-in-None
returns-in-None g c = laid_as (no_number c.args.look c.args.keeps (g.T.Print.tree c.args.obj.now) c.in-None.ensures) c.print.ensures.laid
