use Rattle.std.proofs.Common.{◌<◌, ◌||◌, Bool, length, IsUtf8, IfSome, ap, subst, arith}
use Rattle.std.specs.Str.{chars}
use Rattle.std.proofs.lemmas.Option.{MatchOption-at_some}
use Rattle.lex_pieces.specs.Trivia.{IsPiece, NoTrivia}
use Rattle.lex_pieces.specs.ReadingTrivia.{view}
use Rattle.lex_pieces.proofs.Following.{last}
use Rattle.print_remarks.proofs.Tallies.{tallied_done, tallied_more}
use Rattle.print_remarks.proofs.gaps.push_notes.Goals as goal

pub loop-piece-preserved : goal.loop-piece-preserved
loop-piece-preserved c =
    let first = c.args.first || c.loop-piece.broke in
    let rest = chars c.loop-piece.rest.now in
    let piece = c.in-Some.piece in
    let more = c.in-Some.more in
    let is = MatchOption-at_some (NoTrivia c.args.goal first rest) (λ x. IsPiece c.args.goal first rest (view x.0) (chars x.1.now)) (piece, more) c.in-Some.is c.in_ok-piece.ensures.piece in
    let part = subst (λ o. IfSome o (λ x. IsUtf8 x.1.now × (length x.1.now < length c.loop-piece.rest.now))) c.in-Some.is c.in_ok-piece.ensures.rest in (
      part.0,
      omega (arith, part.1),
      tallied_more c.args.goal c.args.first c.args.gap _ rest (chars more.now) c.loop-piece.broke _ _ _ _ _ _ (view piece) c.loop-piece.invariant.2 is
          (ap (λ (b : Bool). c.loop-piece.broke || b) c.breaks_line-broke.ensures) c.in_ok-tally.ensures,
    )

pub returns : goal.returns
returns c =
    let first = c.args.first || c.loop-piece.broke in
    let rest = chars c.loop-piece.rest.now in
    let h = c.loop-piece.invariant.2 in
    let none = last (NoTrivia c.args.goal first rest) (λ x. IsPiece c.args.goal first rest (view x.0) (chars x.1.now)) c.in_ok-piece.field-0 c.in_default.is c.in_ok-piece.ensures.piece in (
      h.pieces,
      (h.follow, subst (λ b. NoTrivia c.args.goal (c.args.first || b) rest) h.broken none),
      h.broken,
      tallied_done c.args.goal c.args.first c.args.gap _ c.loop-piece.broke rest _ _ _ h _ c.in_ok-keep_last.ensures,
    )
