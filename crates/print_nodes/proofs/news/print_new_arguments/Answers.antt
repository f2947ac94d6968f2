use Rattle.std.proofs.Common.{sym, ◌∙◌}
use Rattle.print_pieces.proofs.Steps.{◌▸◌, present}
use Rattle.print_nodes.proofs.news.print_new_arguments.Goals as goal

pub returns-then-has_parens : goal.returns-then-has_parens
returns-then-has_parens g c = present (sym c.has_parens.ensures ∙ c.if-has_parens.true) (c.text.ensures ▸ (c.print_maybe_arguments.ensures ▸ c.text-then-has_parens.ensures))
