use Rattle.std.proofs.Common.{◌≤◌, length}
use denote.Text.{Utf8}
use denote.Shadow.{shadow}
use Rattle.std.specs.Str.{chars}
use Rattle.lex_pieces.proofs.EscapeLemmas.{HexRun}
use Rattle.lex_pieces.proofs.escapes.hex_run.Given as goal

abbrev pub invariant-loop-digit : goal.invariant-loop-digit
invariant-loop-digit l = shadow (Utf8 l.rest) × (length l.rest ≤ length l.text) × (l.value ≤ 0x11_0000) × HexRun (chars l.text) (chars l.rest) l.value

abbrev pub decreases-loop-digit : goal.decreases-loop-digit
decreases-loop-digit l = length l.rest
