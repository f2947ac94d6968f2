use Rattle.std.proofs.Common.{◌∙◌, sym, arith}
use Rattle.std.specs.Str.{chars}
use Rattle.lex_pieces.specs.Classes.{member}
use Rattle.lex_pieces.proofs.Passing.{stops_end, stops_before, passed_more}
use Rattle.lex_pieces.proofs.runs.after_run.Goals as goal

pub loop-c-preserved : goal.loop-c-preserved
loop-c-preserved c =
    let h = c.loop-c.invariant.2 in (
      c.skip_plain-rest-in-Some.utf8,
      omega (arith, c.in-Some.ensures.shorter),
      passed_more (member c.args.class) _ _ _ _ c.in-Some.c h c.in-Some.ensures.cut (sym c.contains.ensures ∙ c.if-not-contains.false) c.skip_plain-rest-in-Some.ensures.passed,
    )

pub returns-then-not-contains-clause-after : goal.returns-then-not-contains-clause-after
returns-then-not-contains-clause-after c =
    let s = stops_before (member c.args.class) (chars c.loop-c.rest.now) _ c.in-Some.c c.in-Some.ensures.cut (sym c.contains.ensures ∙ c.if-not-contains.true) in
    sym (c.loop-c.invariant.2.left ∙ s.left)

pub returns-in_default-clause-after : goal.returns-in_default-clause-after
returns-in_default-clause-after c =
    let s = stops_end (member c.args.class) (chars c.loop-c.rest.now) c.in_default.ensures.cut in
    sym (c.loop-c.invariant.2.left ∙ s.left)
