use Rattle.std.proofs.Common.{ap, codes}
use Rattle.print_layout_spec.specs.Looks.{◌·◌, text, blank}
use Rattle.print_pieces.proofs.Steps.{◌▸◌, when_as}
use Rattle.print_nodes.proofs.Chosen.{waits_of, generates_of}
use Rattle.print_nodes.proofs.functions.FnExprOfPrint.print.Goals as goal

pub returns-clause-laid : goal.returns-clause-laid
returns-clause-laid g c =
    c.commit.ensures ▸ (c.start.ensures ▸ (when_as (text (codes "async") · blank) (ap waits_of c.deref.ensures) c.word_if.ensures ▸ (c.text.ensures
    ▸ (when_as (text (codes "*")) (ap generates_of c.deref-2.ensures) c.text_if.ensures ▸ (c.print_name.ensures ▸ c.print.ensures.laid)))))
