use Rattle.std.proofs.Common.{Bool, ap, codes, if◌then◌else◌}
use Rattle.print_layout_spec.specs.Looks.{◌·◌, text, blank, gap}
use Rattle.print_pieces.proofs.Steps.{◌▸◌, laid_as, when_as}
use Rattle.print_nodes.proofs.Chosen.{waits_of, generates_of}
use Rattle.print_nodes.proofs.functions.FnDeclOfPrint.print.Goals as goal

pub returns-clause-laid : goal.returns-clause-laid
returns-clause-laid g c =
    c.commit.ensures ▸ (c.start.ensures ▸ (when_as (text (codes "async") · blank) (ap waits_of c.deref.ensures) c.word_if.ensures ▸ (c.text.ensures
    ▸ (laid_as (ap (λ (b : Bool). if b then text (codes "*") · gap c.args.look else blank) (ap generates_of c.deref-2.ensures)) c.print_star.ensures ▸ (c.print.ensures.laid ▸ c.print-2.ensures.laid)))))
