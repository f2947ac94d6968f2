use Rattle.std.proofs.Common.{◌≡◌}
use Rattle.print_writers.specs.Pages.{times, Gets}
use Rattle.print_writers.proofs.output.write_times.Given as goal

-- they are written so many times, and no write has failed
abbrev pub invariant-loop-i : goal.invariant-loop-i
invariant-loop-i g l = record {
  sent : Gets (g.W.Write.contents l.fn.writer) (g.W.Write.contents l.writer) (times l.i l.bytes);
  counted : g.W.Failing.failure_count l.writer ≡ g.W.Failing.failure_count l.fn.writer;
}
