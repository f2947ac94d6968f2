-- What is left is seen as what is left of what is seen.
use Rattle.std.proofs.Common.{map, sym, ap, ◌∙◌}
use Rattle.std.proofs.lemmas.List.{drop-map}
use Rattle.print_notes.specs.Slots.{remark_of}
use Rattle.print_notes.proofs.weaving.later.Goals as goal

pub returns-clause-later : goal.returns-clause-later
returns-clause-later c = ap (map remark_of) c.split_at.ensures.back ∙ sym (drop-map remark_of c.args.from c.args.notes.now)
