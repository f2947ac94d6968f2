use Rattle.std.proofs.Common.{sym, ◌∙◌, arith}
use Rattle.std.proofs.lemmas.List.{append_cancel_right}
use Rattle.std.specs.Str.{chars}
use Rattle.lex_literal.proofs.BareLemmas.{stand_first, stand_more, stand_run, stand_after}
use Rattle.lex_literal.proofs.runs.split_bare.Goals as goal

pub dollars-init : goal.dollars-init
dollars-init c = (
  c.past_dollarless-rest.ensures.text,
  c.past_dollarless-rest.ensures.length,
  stand_first (chars c.args.text.now) _ c.past_dollarless-rest.ensures.after,
)

pub dollars-preserved : goal.dollars-preserved
dollars-preserved c = (
  c.past_dollarless-rest-in-Some.ensures.text,
  omega (arith, c.past_dollarless-rest-in-Some.ensures.length, c.in-Some.ensures.rest.1, c.dollars.invariant.1),
  stand_more (chars c.args.text.now) (chars c.dollars.rest.now) (chars c.in-Some.more.now) _ c.dollars.invariant.2 c.in-Some.ensures.value c.past_dollarless-rest-in-Some.ensures.after,
)

pub before-requires : goal.before-requires
before-requires c = let s = c.dollars.invariant.2 in (s.ran.front, s.ran.whole)

pub returns-clause-run : goal.returns-clause-run
returns-clause-run c =
    let s = c.dollars.invariant.2 in
    append_cancel_right (chars c.before-2.result.now) s.ran.front (chars c.dollars.rest.now) (sym c.before-2.ensures.cut ∙ s.ran.whole)
    ∙ sym (stand_run (chars c.args.text.now) (chars c.dollars.rest.now) s c.in_default.ensures.value)

pub returns-clause-after : goal.returns-clause-after
returns-clause-after c =
    let s = c.dollars.invariant.2 in
    sym (stand_after (chars c.args.text.now) (chars c.dollars.rest.now) s c.in_default.ensures.value)
