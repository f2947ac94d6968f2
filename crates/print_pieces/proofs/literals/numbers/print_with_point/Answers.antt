use Rattle.std.proofs.Common.{[], ◌∷◌, ◌++◌}
use Rattle.print_pieces.specs.Literals.Parts.{held_back}
use Rattle.print_pieces.proofs.literals.Parted.{with_more, no_more, then_leaves, ends}
use Rattle.print_pieces.proofs.literals.numbers.print_with_point.Goals as goal

pub returns : goal.returns
returns g c =
    ends (c.args.parts ++ 46 ∷ []) (held_back c.print_part-last.result)
    (then_leaves (with_more c.args.parts (held_back c.parts.held) (46 ∷ []) (no_more (held_back c.parts.held) c.in_default.ensures.0 c.parts.invariant)) c.print_part-last.ensures)
    c.print_held.ensures
