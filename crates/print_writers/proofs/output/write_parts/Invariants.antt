use Rattle.std.proofs.Common.{◌≡◌, ◌-◌, ◌≤◌, length, take}
use Rattle.print_writers.specs.Pages.{Gets}
use Rattle.print_writers.proofs.output.write_parts.Given as goal

-- that many bytes are written, and no write has failed
abbrev pub invariant-loop-written : goal.invariant-loop-written
invariant-loop-written g l = record {
  within : l.written ≤ length l.bytes;
  sent : Gets (g.W.Write.contents l.fn.writer) (g.W.Write.contents l.writer) (take l.written l.bytes);
  counted : g.W.Failing.failure_count l.writer ≡ g.W.Failing.failure_count l.fn.writer;
}

abbrev pub decreases-loop-written : goal.decreases-loop-written
decreases-loop-written g l = length l.bytes - l.written
