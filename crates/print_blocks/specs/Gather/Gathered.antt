-- What a writer that gathers its bytes in a block shows.
use Rattle.std.specs.Prelude.{ℕ, List, Option}
use Rattle.std.specs.Io.KnownBytes.{append_known}
use Rattle.print_blocks.specs.declared.gather.Gather.{Gather}

-- the bytes that wait
abbrev pub waiting : {W : Type 0} → Gather W → List ℕ
waiting g = g.block.items

-- the writer behind the block
abbrev pub behind : {W : Type 0} → Gather W → W
behind g = g.wr

-- the bytes taken, where the writer behind tells its own: those handed out, and then those that wait
abbrev pub taken : {W : Type 0} → (W → Option (List ℕ)) → Gather W → Option (List ℕ)
taken contents g = append_known (contents (behind g)) (waiting g)
