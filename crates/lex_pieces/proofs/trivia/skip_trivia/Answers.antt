use Rattle.std.proofs.Common.{◌||◌, subst, arith}
use Rattle.std.specs.Str.{chars}
use Rattle.lex_pieces.specs.Trivia.{NoTrivia}
use Rattle.lex_pieces.proofs.Following.{skipped_blank}
use Rattle.lex_pieces.proofs.trivia.skip_trivia.Goals as goal

pub loop-line_break-preserved : goal.loop-line_break-preserved
loop-line_break-preserved c =
    let rest = chars c.loop-line_break.rest.now in
    let more = c.in-Some.more in (
      c.in-Some.ensures.rest.0,
      omega (arith, c.in-Some.ensures.rest.1),
      skipped_blank c.args.goal c.args.first (chars c.args.text.now) rest (chars more.now) c.loop-line_break.broke c.in-Some.line_break c.loop-line_break.invariant.2 c.in-Some.ensures.blank,
    )

pub returns-clause-trivia : goal.returns-clause-trivia
returns-clause-trivia c =
    let h = c.loop-line_break.invariant.2 in
    let none = c.may_begin.ensures c.if-may_begin.false c.args.goal in
    (h.pieces, (h.follow, subst (λ b. NoTrivia c.args.goal (c.args.first || b) (chars c.loop-line_break.rest.now)) h.broken none), h.broken)
