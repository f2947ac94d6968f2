use Rattle.std.proofs.Common.{◌<◌, ◌||◌, length, IsUtf8, IfSome, ap, subst, arith}
use Rattle.std.specs.Str.{chars}
use Rattle.std.proofs.lemmas.Option.{MatchOption-at_some}
use Rattle.lex_pieces.specs.Trivia.{IsPassed, NoTrivia}
use Rattle.lex_pieces.proofs.Following.{skipped_more, last}
use Rattle.lex_pieces.proofs.trivia.skip_pieces.Goals as goal

pub loop-breaks-preserved : goal.loop-breaks-preserved
loop-breaks-preserved c =
    let broke = c.loop-breaks.broke in
    let first = c.args.first || broke in
    let rest = chars c.loop-breaks.rest.now in
    let line_break = c.in-Some.breaks in
    let more = c.in-Some.more in
    let is = MatchOption-at_some (NoTrivia c.args.goal first rest) (λ x. IsPassed c.args.goal first rest x.0 (chars x.1.now)) (line_break, more) c.in-Some.is c.in_ok-breaks.ensures.piece in
    let part = subst (λ o. IfSome o (λ x. IsUtf8 x.1.now × (length x.1.now < length c.loop-breaks.rest.now))) c.in-Some.is c.in_ok-breaks.ensures.rest in (
      part.0,
      omega (arith, part.1),
      skipped_more c.args.goal c.args.first _ rest (chars more.now) broke (broke || line_break) is.0 c.loop-breaks.invariant.2 is.1 (ap (λ b. broke || b) is.2),
    )

pub returns-clause-trivia : goal.returns-clause-trivia
returns-clause-trivia c =
    let first = c.args.first || c.loop-breaks.broke in
    let rest = chars c.loop-breaks.rest.now in
    let h = c.loop-breaks.invariant.2 in
    let none = last (NoTrivia c.args.goal first rest) (λ x. IsPassed c.args.goal first rest x.0 (chars x.1.now)) c.in_ok-breaks.field-0 c.in_default.is c.in_ok-breaks.ensures.piece in
    (h.pieces, (h.follow, subst (λ b. NoTrivia c.args.goal (c.args.first || b) rest) h.broken none), h.broken)
