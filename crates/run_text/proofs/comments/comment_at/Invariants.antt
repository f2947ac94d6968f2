use Rattle.std.proofs.Common.{◌≡◌, ℕ, ◌<◌, false, drop}
use Rattle.run_text.specs.Comments.{begins_comment}
use Rattle.run_text.proofs.comments.comment_at.Given as goal

abbrev pub invariant-loop-at : goal.invariant-loop-at
invariant-loop-at l = (k : ℕ) → k < l.at → begins_comment (drop k l.text) ≡ false
