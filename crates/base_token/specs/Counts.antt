-- What a reader or a writer counts.
use Rattle.std.specs.Prelude.{ℕ, ◌+◌, Bool, true, false, ◌==◌, not, ◌&&◌, nat_lt, if◌then◌else◌, List, length, Result, Ok, Err}

-- the last value of a count, at which it stays
abbrev pub last_count : ℕ
last_count = 0xFFFF_FFFF_FFFF_FFFF

-- the count after one failure more
abbrev pub one_more : ℕ → ℕ
one_more n = if nat_lt n last_count then n + 1 else n

-- the count after a call that failed, or that did not
abbrev pub count_after : Bool → ℕ → ℕ
count_after failed n = if failed then one_more n else n

-- A read failed where it answered an error, an interruption included.
abbrev pub is_failed_read : {E : Type 0} → Result ℕ E → Bool
is_failed_read (Ok n) = false
is_failed_read (Err e) = true

-- A write failed where it answered an error, or took nothing of bytes that are not none.
abbrev pub is_failed_write : {E : Type 0} → List ℕ → Result ℕ E → Bool
is_failed_write bytes (Ok n) = n == 0 && not (length bytes == 0)
is_failed_write bytes (Err e) = true
