use Rattle.std.proofs.Common.{ℕ, ◌==◌, ap}
use Rattle.base_token.specs.Words.{own_text}
use Rattle.tree_spec.specs.Tree.{plain_method}
use Rattle.tree_nodes.specs.View.{method_kind_word}
use Rattle.print_layout_spec.specs.Looks.{◌·◌, text, blank}
use Rattle.print_layout_spec.specs.Layout.{method_marks}
use Rattle.print_pieces.proofs.Steps.{◌▸◌, chosen, laid_as}
use Rattle.print_nodes.proofs.Chosen.{otherwise, same_marks, waits_of, generates_of}
use Rattle.print_nodes.proofs.members.print_private_head.Goals as goal

pub returns-in-None : goal.returns-in-None
returns-in-None g c =
    chosen (text (own_text (method_kind_word c.args.method.now.kind)) · blank) (ap (λ (k : ℕ). k == plain_method) c.in-None.ensures)
    (laid_as (same_marks (ap waits_of c.deref.ensures) (ap generates_of c.deref-in-None.ensures)) c.print_marks.ensures)

pub returns-in-Some : goal.returns-in-Some
returns-in-Some g c =
    otherwise (method_marks c.args.method.now.function.value.is_async c.args.method.now.function.value.is_generator) c.in-Some.ensures.1
    (laid_as (ap text c.in-Some.ensures.0) c.text.ensures ▸ c.blank.ensures)
