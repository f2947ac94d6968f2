-- How long a text may be that takes no memory.
use Rattle.std.specs.Prelude.{ℕ}

-- in bytes
abbrev pub inline_len : ℕ
inline_len = 22
