use Rattle.std.proofs.Common.{◌==◌, ◌∙◌, ap}
use Rattle.tree_spec.specs.Tree.{plain_method}
use Rattle.print_gaps.specs.Edges.{starts_with_word}
use Rattle.tree_nodes.specs.View.{method_kind_word, view_prop_name}
use Rattle.print_layout_spec.specs.Looks.{gap_or}
use Rattle.print_pieces.proofs.Steps.{◌▸◌, present, laid_as}
use Rattle.print_nodes.proofs.Chosen.{behind_static}
use Rattle.print_nodes.proofs.members.print_static.Goals as goal

pub returns-then-method : goal.returns-then-method
returns-then-method g c =
    let m = c.args.method.now in
    let same = behind_static c.args.look (method_kind_word m.kind == plain_method) m.function.value.is_async m.function.value.is_generator (starts_with_word (view_prop_name g.T.Print.tree m.key)) in
    present c.if-method.true (c.text.ensures ▸ laid_as (ap (gap_or c.args.look) c.blank_behind_static.ensures ∙ same) c.gap_or.ensures)
