use Rattle.std.proofs.Common.{sym, ◌∙◌}
use Rattle.print_layout_spec.specs.declared.look.Stand.TheVariants.{Alone}
use Rattle.print_layout_spec.specs.Layout.{laid}
use Rattle.print_pieces.proofs.Steps.{◌▸◌, chosen}
use Rattle.print_nodes.proofs.members.print_single.Goals as goal

pub returns-then-is_sequence-clause-laid : goal.returns-then-is_sequence-clause-laid
returns-then-is_sequence-clause-laid g c =
    chosen (laid c.args.look Alone (g.T.Print.tree c.args.e.now)) (sym c.is_sequence.ensures ∙ c.if-is_sequence.true)
    (c.text.ensures ▸ (c.print.ensures.laid ▸ c.text-then-is_sequence.ensures))
