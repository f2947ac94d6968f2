use Rattle.std.proofs.Common.{ℕ, List, refl, ap}
use Rattle.print_layout_spec.specs.Looks.{text}
use Rattle.print_pieces.proofs.Steps.{◌▸◌, laid_as}
use Rattle.print_nodes.proofs.Parts.{laid_like}
use Rattle.print_nodes.proofs.literals.RegexPrint.print.Goals as goal

pub returns-clause-laid : goal.returns-clause-laid
returns-clause-laid g c = c.start.ensures ▸ laid_like (λ a. refl) (c.text.ensures ▸ (laid_as (ap (λ (b : List ℕ). text b) c.as_str.ensures) c.write.ensures ▸ (c.text-2.ensures ▸ laid_as (ap (λ (b : List ℕ). text b) c.as_str-2.ensures) c.write-2.ensures)))
