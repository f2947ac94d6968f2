use Rattle.std.proofs.Common.{Bool, ℕ, List, refl}
use Rattle.print_layout_spec.specs.Looks.{text}
use Rattle.print_layout_spec.specs.Literals.{quasi_bytes}
use Rattle.print_pieces.proofs.Steps.{◌▸◌, laid_as}
use Rattle.print_nodes.proofs.Chosen.{same_two}
use Rattle.print_nodes.proofs.Parts.{laid_like}
use Rattle.print_nodes.proofs.literals.TplElementPrint.print.Goals as goal

pub returns-clause-laid : goal.returns-clause-laid
returns-clause-laid g c =
    c.start.ensures
    ▸ (laid_like (λ a. refl) (laid_as (same_two (λ (b : Bool) (raw : List ℕ). text (quasi_bytes c.args.look.style b raw)) c.is_tagged.ensures c.as_str.ensures) c.print_quasi.ensures) ▸ c.end.ensures)
