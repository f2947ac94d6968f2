-- What is taken is seen as what is taken of what is seen.
use Rattle.std.proofs.Common.{List, map, take, sym, ap, ◌∙◌}
use Rattle.std.proofs.lemmas.List.{take-map}
use Rattle.print_notes.specs.Slots.{Remark, remark_of}
use Rattle.print_notes.proofs.weaving.some.Goals as goal

pub returns : goal.returns
returns c =
    ap (map remark_of) c.split_at.ensures.front ∙ (sym (take-map remark_of c.args.count c.later.result.now) ∙ ap (λ (rs : List Remark). take c.args.count rs) c.later.ensures.later)
