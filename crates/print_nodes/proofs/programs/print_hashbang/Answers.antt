use Rattle.std.proofs.Common.{refl, ap}
use Rattle.print_layout_spec.specs.Looks.{text}
use Rattle.print_pieces.proofs.Steps.{◌▸◌, laid_as}
use Rattle.print_nodes.proofs.Parts.{laid_like}
use Rattle.print_nodes.proofs.programs.print_hashbang.Goals as goal

pub returns-in-Some : goal.returns-in-Some
returns-in-Some g c = rw c.in-Some.is (laid_like (λ a. refl) (c.text.ensures ▸ (laid_as (ap text c.as_str.ensures) c.write.ensures ▸ c.line_always.ensures)))
