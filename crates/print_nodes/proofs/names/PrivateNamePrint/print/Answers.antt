use Rattle.std.proofs.Common.{ℕ, List, ap}
use Rattle.print_layout_spec.specs.Looks.{text}
use Rattle.print_layout_spec.specs.Literals.{name_bytes}
use Rattle.print_pieces.proofs.Steps.{◌▸◌, laid_as}
use Rattle.print_nodes.proofs.names.PrivateNamePrint.print.Goals as goal

pub returns-clause-laid : goal.returns-clause-laid
returns-clause-laid g c = c.start.ensures ▸ (c.text.ensures ▸ ((c.commit.ensures ▸ (c.start-2.ensures ▸ laid_as (ap (λ (b : List ℕ). text (name_bytes c.args.look.style b)) c.as_str.ensures) c.print_name.ensures)) ▸ c.end.ensures))
