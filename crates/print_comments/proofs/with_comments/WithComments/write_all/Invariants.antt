use Rattle.std.proofs.Common.{◌≡◌}
use Rattle.print_writers.specs.States.{has_places}
use Rattle.print_comments.proofs.with_comments.WithComments.write_all.Given as goal

abbrev pub invariant-loop-comment : goal.invariant-loop-comment
invariant-loop-comment g l =
    (has_places (g.W.WriteJs.state l.self.wr) ≡ has_places (g.W.WriteJs.state l.fn.self.wr)) × (g.W.WriteJs.loans l.self.wr ≡ g.W.WriteJs.loans l.fn.self.wr)
    × (g.W.WriteJs.failed_writes l.self.wr ≡ g.W.WriteJs.failed_writes l.fn.self.wr)
