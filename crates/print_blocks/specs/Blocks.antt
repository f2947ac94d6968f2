-- What a writer shows before which the bytes of a block wait.
use Rattle.std.specs.Prelude.{ℕ, ◌+◌, ◌-◌, ◌%◌, List, ◌∷◌, length, Option}
use Rattle.std.specs.Option.{option_map}
use Rattle.std.specs.Io.KnownBytes.{append_known}
use Rattle.print_blocks.specs.declared.Blocks.{Blocks}

-- the writer behind the block
abbrev pub behind : {W : Type 0} → Blocks W → W
behind b = b.wr

-- the bytes that wait
abbrev pub waiting : {W : Type 0} → Blocks W → List ℕ
waiting b = b.block.items

-- how many bytes of the block that is begun were taken
abbrev pub at_of : {W : Type 0} → Blocks W → ℕ
at_of b = b.at

-- the bytes taken, where the writer behind tells its own: those that it holds, and then those that wait
abbrev pub taken : {W : Type 0} → (W → Option (List ℕ)) → Blocks W → Option (List ℕ)
taken contents b = append_known (contents (behind b)) (waiting b)

-- Where in a block of its own the first byte of so many lies, of which the last are so many of a block. It stays as bytes are taken, and says
-- how many were, up to whole blocks.
unfoldable pub phase : ℕ → ℕ → ℕ
phase at count = (count + (4096 - at)) % 4096

-- The bytes taken, behind that number.
abbrev pub noted : {W : Type 0} → (W → Option (List ℕ)) → Blocks W → Option (List ℕ)
noted contents b = option_map (λ bytes. phase b.at (length bytes) ∷ bytes) (taken contents b)
