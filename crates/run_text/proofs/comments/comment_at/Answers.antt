-- No comment begins at the byte that was passed.
use Rattle.std.proofs.Common.{sym, ap, ◌∙◌, arith, below_more}
use Rattle.run_text.specs.Comments.{begins_comment}
use Rattle.run_text.proofs.comments.comment_at.Goals as goal

pub loop-at-preserved : goal.loop-at-preserved
loop-at-preserved c =
    below_more _ _ c.loop-at.invariant
    (sym (ap begins_comment c.split_at.ensures.back) ∙ (sym c.begins_comment.ensures ∙ c.if-begins_comment.false))

pub returns : goal.returns
returns c = λ k less. c.loop-at.invariant k (omega (arith, less, c.loop-at-test.false))
