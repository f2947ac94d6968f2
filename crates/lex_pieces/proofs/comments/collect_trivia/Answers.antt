use Rattle.std.proofs.Common.{◌<◌, ◌||◌, true, length, IsUtf8, IfSome, sym, subst, ◌∙◌, arith}
use Rattle.std.specs.Str.{chars}
use Rattle.std.proofs.lemmas.Option.{MatchOption-at_some}
use Rattle.lex_pieces.specs.Trivia.{IsPiece, NoTrivia}
use Rattle.lex_pieces.specs.ReadingTrivia.{view}
use Rattle.lex_pieces.proofs.Following.{last, broken_now, broken_as_before}
use Rattle.lex_pieces.proofs.Noting.{collected_more}
use Rattle.lex_pieces.proofs.comments.collect_trivia.Goals as goal

pub loop-piece-preserved-then-breaks_line : goal.loop-piece-preserved-then-breaks_line
loop-piece-preserved-then-breaks_line c =
    let first = c.args.first || c.loop-piece.broke in
    let rest = chars c.loop-piece.rest.now in
    let piece = c.in-Some.piece in
    let more = c.in-Some.more in
    let is = MatchOption-at_some (NoTrivia c.args.goal first rest) (λ x. IsPiece c.args.goal first rest (view x.0) (chars x.1.now)) (piece, more) c.in-Some.is c.in_ok-piece.ensures.piece in
    let part = subst (λ o. IfSome o (λ x. IsUtf8 x.1.now × (length x.1.now < length c.loop-piece.rest.now))) c.in-Some.is c.in_ok-piece.ensures.rest in
    let kept = c.in_ok-note.ensures.kept in (
      part.0,
      omega (arith, part.1),
      collected_more c.args.end c.args.goal c.args.first _ rest (chars more.now) c.loop-piece.broke true _ _ _ kept.0 (view piece) c.span.result c.loop-piece.invariant.2 is
          (broken_now c.loop-piece.broke _ (sym c.breaks_line.ensures ∙ c.if-breaks_line.true)) kept.1 c.span.ensures kept.2,
    )

pub loop-piece-preserved : goal.loop-piece-preserved
loop-piece-preserved c =
    let first = c.args.first || c.loop-piece.broke in
    let rest = chars c.loop-piece.rest.now in
    let piece = c.in-Some.piece in
    let more = c.in-Some.more in
    let is = MatchOption-at_some (NoTrivia c.args.goal first rest) (λ x. IsPiece c.args.goal first rest (view x.0) (chars x.1.now)) (piece, more) c.in-Some.is c.in_ok-piece.ensures.piece in
    let part = subst (λ o. IfSome o (λ x. IsUtf8 x.1.now × (length x.1.now < length c.loop-piece.rest.now))) c.in-Some.is c.in_ok-piece.ensures.rest in
    let kept = c.in_ok-note.ensures.kept in (
      part.0,
      omega (arith, part.1),
      collected_more c.args.end c.args.goal c.args.first _ rest (chars more.now) c.loop-piece.broke c.loop-piece.broke _ _ _ kept.0 (view piece) c.span.result c.loop-piece.invariant.2 is
          (broken_as_before c.loop-piece.broke _ (sym c.breaks_line.ensures ∙ c.if-breaks_line.false)) kept.1 c.span.ensures kept.2,
    )

pub returns-clause-trivia : goal.returns-clause-trivia
returns-clause-trivia c =
    let first = c.args.first || c.loop-piece.broke in
    let rest = chars c.loop-piece.rest.now in
    let h = c.loop-piece.invariant.2 in
    let none = last (NoTrivia c.args.goal first rest) (λ x. IsPiece c.args.goal first rest (view x.0) (chars x.1.now)) c.in_ok-piece.field-0 c.in_default.is c.in_ok-piece.ensures.piece in
    (h.pieces, h.notes, h.kept, h.follow, subst (λ b. NoTrivia c.args.goal (c.args.first || b) rest) h.broken none, h.broken)
