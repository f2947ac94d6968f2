-- What came last in a text that is read.
use Rattle.std.specs.Prelude.{ℕ, ◌<◌, length}
use Rattle.std.specs.Str.{chars}
use Rattle.lex_step_laws.specs.States as s
use Rattle.ecma_lexer.specs.declared.last.Last.{Last}
use Rattle.ecma_lexer.specs.declared.last.Last.TheVariants as l

-- what came last
abbrev pub last_view : Last → s.Last
last_view l.Start = s.Start
last_view (l.Slash from) = s.Slash (chars from.now)
last_view l.Characters = s.Characters
last_view l.Fault = s.Fault
last_view l.Other = s.Other

-- the bytes from a slash on that came last, and none otherwise
abbrev pub back_bytes : Last → ℕ
back_bytes (l.Slash from) = length from.now
back_bytes _ = 0

-- the text from such a slash on ends before this place
abbrev pub BackFits : ℕ → Last → Type 0
BackFits end last = back_bytes last < end
