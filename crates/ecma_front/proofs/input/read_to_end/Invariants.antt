use Rattle.std.proofs.Common.{◌≡◌, ◌-◌, vec_len}
use Rattle.std.specs.Io.KnownBytes.{Consumes}
use Rattle.ecma_front.proofs.input.read_to_end.Given as goal

-- what is kept is what was read, and no read has failed
abbrev pub invariant-loop-chunk : goal.invariant-loop-chunk
invariant-loop-chunk g l = record {
  kept : Consumes (g.R.Read.remaining l.fn.reader) (g.R.Read.remaining l.reader) l.kept.items;
  counted : g.R.Failing.failure_count l.reader ≡ g.R.Failing.failure_count l.fn.reader;
}

abbrev pub decreases-loop-chunk : goal.decreases-loop-chunk
decreases-loop-chunk g l = 4294967295 - vec_len l.kept
