use Rattle.std.proofs.Common.{sym, ◌∙◌, arith}
use Rattle.print_spelling.specs.String.CodePoints.{code_points}
use Rattle.print_spelling.proofs.string.QuotedLemmas.{counts, quote_more, quote_less, quote_none}
use Rattle.print_spelling.proofs.string.quoted.quote_of.Goals as goal

pub returns-then-count : goal.returns-then-count
returns-then-count c =
    quote_more c.count.result c.count-2.result (code_points c.args.units.now) (c.count.ensures ∙ counts 39 c.args.units.now (omega arith))
    (c.count-2.ensures ∙ counts 34 c.args.units.now (omega arith)) c.if-count.true

pub returns-else-count : goal.returns-else-count
returns-else-count c =
    quote_less c.count.result c.count-2.result (code_points c.args.units.now) (c.count.ensures ∙ counts 39 c.args.units.now (omega arith))
    (c.count-2.ensures ∙ counts 34 c.args.units.now (omega arith)) c.if-count.false

pub returns-then-not-contains : goal.returns-then-not-contains
returns-then-not-contains c = quote_none c.args.units.now (sym c.contains.ensures.value ∙ c.if-not-contains.true)
