use Rattle.std.proofs.Common.{sym, ◌∙◌}
use Rattle.print_spelling.proofs.number.TakesPointLemmas.{edition_takes}
use Rattle.print_spelling.proofs.number.point.edition_takes_point.Goals as goal

pub returns-then-is_some : goal.returns-then-is_some
returns-then-is_some c =
    edition_takes c.args.style c.args.raw.now c.args.value.now c.whole_in_edition.result c.whole_in_edition.ensures.text c.whole_in_edition.ensures.point
    (sym c.is_some.ensures ∙ c.if-is_some.true)
