use Rattle.std.proofs.Common.{ap}
use Rattle.print_pieces.proofs.Steps.{◌▸◌, present, laid_as}
use Rattle.print_nodes.specs.Spines.{else_laid}
use Rattle.print_nodes.proofs.ifs.print_alternative.Goals as goal

pub returns-in-Some : goal.returns-in-Some
returns-in-Some g c = rw c.in-Some.is (present c.print.ensures.there
    (laid_as (ap (else_laid c.args.look c.args.behind_block) c.starts_with_word.ensures) c.print_else.ensures ▸ (c.print.ensures.laid ▸ c.print_closing.ensures)))
