use Rattle.std.proofs.Common.{sym, ◌∙◌}
use Rattle.print_spelling.proofs.number.AsReadLemmas.{gone, stops, stops_at_end}
use Rattle.print_spelling.proofs.number.as_read.past_separators.Goals as goal

pub separators-preserved : goal.separators-preserved
separators-preserved c = (
  sym (gone c.separators.rest.now c.in-Some.more.now c.in-Some.c c.separators.invariant.1 c.in-Some.ensures.text c.in-Some.ensures.cut c.if-c-ne95.false)
      ∙ c.separators.invariant.0,
  c.in-Some.ensures.text,
)

pub returns-then-c-ne95-clause-stop : goal.returns-then-c-ne95-clause-stop
returns-then-c-ne95-clause-stop c =
    stops c.separators.rest.now c.in-Some.more.now c.in-Some.c c.separators.invariant.1 c.in-Some.ensures.cut c.if-c-ne95.true

pub returns-in_default-clause-stop : goal.returns-in_default-clause-stop
returns-in_default-clause-stop c = stops_at_end c.separators.rest.now c.separators.invariant.1 c.in_default.ensures.cut
