use Rattle.std.proofs.Common.{sym}
use Rattle.print_pieces.proofs.Steps.{◌▸◌, laid_as}
use Rattle.print_nodes.proofs.Arrowed.{waits_as, bare_as}
use Rattle.print_nodes.proofs.arrows.ArrowExprOfPrint.print.Goals as goal

pub returns-clause-laid : goal.returns-clause-laid
returns-clause-laid g c =
    rw (sym c.as_slice-params.ensures.value)
    (c.start.ensures ▸ (laid_as (waits_as c.args.look c.args.self.now.is_async c.is_one_name-one_name.ensures) c.print_async.ensures
    ▸ (laid_as (bare_as _ _ _ c.is_one_name-one_name.ensures) c.print_arrow_params.ensures ▸ (c.text.ensures ▸ c.print_arrow_body.ensures))))
