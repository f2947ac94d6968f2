-- What the reader and the writer over memory show.
use Rattle.std.specs.Prelude.{◌≡◌, ◌↔◌, ◌<◌, ℕ, Bool, true, ◌-◌, ◌==◌, ◌&&◌, ◌||◌, not, if◌then◌else◌, min, List, length, drop, Option, Result, IsErr, IsOk, IfOk}
use Rattle.base_token.specs.Counts.{count_after, one_more, is_failed_read, is_failed_write}
use Rattle.run_memory.specs.declared.MemReader.{MemReader}
use Rattle.run_memory.specs.declared.MemWriter.{MemWriter}
use Rattle.run_memory.specs.Calls.{fails_at}

-- the bytes that are left to read
abbrev pub unread : MemReader → List ℕ
unread r = drop r.at r.bytes.items

abbrev pub reader_piece : MemReader → ℕ
reader_piece r = r.piece

abbrev pub reader_calls : MemReader → ℕ
reader_calls r = r.calls.made

abbrev pub reader_failures : MemReader → ℕ
reader_failures r = r.calls.failed

abbrev pub reader_fails_at : MemReader → Option ℕ
reader_fails_at r = r.calls.fail_at

-- the bytes that were written
abbrev pub written : MemWriter → List ℕ
written w = w.bytes.items

abbrev pub writer_piece : MemWriter → ℕ
writer_piece w = w.piece

abbrev pub writer_room : MemWriter → ℕ
writer_room w = w.room

abbrev pub writer_calls : MemWriter → ℕ
writer_calls w = w.calls.made

abbrev pub writer_failures : MemWriter → ℕ
writer_failures w = w.calls.failed

abbrev pub writer_fails_at : MemWriter → Option ℕ
writer_fails_at w = w.calls.fail_at

-- no room is left for bytes that are not none
abbrev pub is_full : MemWriter → List ℕ → Bool
is_full w bytes = (w.room - length w.bytes.items) == 0 && not (length bytes == 0)

-- What one read into a buffer did, which is counted: it failed where it was told to, and else gave as much as it could.
abbrev pub IsOneRead : {E : Type 0} → MemReader → MemReader → List ℕ → Result ℕ E → Type 0
IsOneRead old new buf result = (reader_calls new ≡ one_more (reader_calls old))
    × (reader_failures new ≡ count_after (is_failed_read result) (reader_failures old))
    × (reader_piece new ≡ reader_piece old) × (reader_fails_at new ≡ reader_fails_at old)
    × (IsErr result ↔ (fails_at (reader_fails_at old) (reader_calls new) ≡ true))
    × IfOk result (λ n. n ≡ min (length (unread old)) (min (length buf) (reader_piece old)))

-- What one write of these bytes did: it failed where it was told to or had no room, and else took as much as it could.
abbrev pub IsOneWrite : {E : Type 0} → MemWriter → MemWriter → List ℕ → Result ℕ E → Type 0
IsOneWrite old new bytes result = (writer_calls new ≡ one_more (writer_calls old))
    × (writer_failures new ≡ count_after (is_failed_write bytes result) (writer_failures old))
    × (writer_piece new ≡ writer_piece old) × (writer_room new ≡ writer_room old) × (writer_fails_at new ≡ writer_fails_at old)
    × (IsErr result ↔ ((fails_at (writer_fails_at old) (writer_calls new) || is_full old bytes) ≡ true))
    × IfOk result (λ n. n ≡ min (length bytes) (min (writer_piece old) (writer_room old - length (written old))))

-- What one write of these bytes did that answers 0 in place of an error: of none it took none, uncalled; else it took nothing where
-- the writer was told to fail or had no room, and as much as it could elsewhere.
abbrev pub IsOneTake : {E : Type 0} → MemWriter → MemWriter → List ℕ → Result ℕ E → Type 0
IsOneTake old new bytes result = IsOk result
    × (length bytes ≡ 0 → new ≡ old)
    × (0 < length bytes → (writer_calls new ≡ one_more (writer_calls old))
    × (writer_piece new ≡ writer_piece old) × (writer_room new ≡ writer_room old) × (writer_fails_at new ≡ writer_fails_at old)
    × IfOk result (λ n. n ≡ (if fails_at (writer_fails_at old) (writer_calls new) || is_full old bytes then 0
    else min (length bytes) (min (writer_piece old) (writer_room old - length (written old))))))
