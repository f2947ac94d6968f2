use Rattle.std.proofs.Common.{◌≡◌, ◌-◌, ◌≤◌, length, take}
use Rattle.std.specs.Io.KnownBytes.{Appends}
use Rattle.print_blocks.proofs.gather.block.send.Given as goal

-- that many bytes are out, and no write has failed
abbrev pub invariant-parts : goal.invariant-parts
invariant-parts g l = record {
  within : l.sent ≤ length l.block;
  out : Appends (g.W.Write.contents l.fn.wr) (g.W.Write.contents l.wr) (take l.sent l.block);
  counted : g.W.Failing.failure_count l.wr ≡ g.W.Failing.failure_count l.fn.wr;
}

abbrev pub decreases-parts : goal.decreases-parts
decreases-parts g l = length l.block - l.sent
