use Rattle.std.proofs.Common.{ap, List, ℕ, ◌∷◌, ◌++◌, [], ◌∙◌}
use Rattle.print_layout_spec.specs.Looks.{text}
use Rattle.print_pieces.proofs.Steps.{laid_as}
use Rattle.print_pieces.proofs.literals.Plain.{plain_quoted}
use Rattle.print_pieces.proofs.literals.strings.print_spelled.Goals as goal

pub returns-in-Some : goal.returns-in-Some
returns-in-Some g c =
    laid_as (ap (λ (l : List ℕ). text (34 ∷ (l ++ 34 ∷ []))) c.in-Some.ensures.0 ∙ ap text (plain_quoted c.args.style c.args.units.now c.in-Some.ensures.1)) c.print_in_marks.ensures
