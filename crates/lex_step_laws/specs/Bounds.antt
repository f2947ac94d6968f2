-- How many tokens may still come from a text that is read.
use Rattle.std.specs.Prelude.{ℕ, ◌+◌, ◌-◌, ◌*◌, ◌/◌, ◌%◌, ◌<◌, ◌≤◌, ◌==◌, if◌then◌else◌, List, length, max, Option, None, Some}
use Rattle.base_token.specs.Tokens.{Spot}
use Rattle.lex_step_laws.specs.States.{Last, Slash, Characters, Fault, Text}

-- A bound on the tokens to come, by what came last and how many characters are left: a token takes a character at least, but for the
-- characters of a template, which may be none and don't come twice on end. A slash may come again, with the text behind it. Four are counted for a character,
-- so that the bound tells how many characters are left.
abbrev pub bound_by : Last → ℕ → ℕ
bound_by Fault n = 0
bound_by Characters n = 4 * n + 2
bound_by (Slash from) n = max (4 * n + 3) (4 * length from + 1)
bound_by _ n = 4 * n + 3

abbrev pub bound : Text → ℕ
bound t = bound_by t.last (length t.left)

-- It falls where a token is handed out, and never rises.
abbrev pub Falls : Option Spot → ℕ → ℕ → Type 0
Falls None old new = new ≤ old
Falls (Some spot) old new = new < old

-- How many characters are left where so many tokens may come, the one at hand among them: those behind that token; where it is a slash, which may be read again, those from it on.
-- One more than four for each is a fault of the lexer, which takes the rest of the text, or the end behind a slash: then none is left.
abbrev pub characters_left : ℕ → ℕ
characters_left tokens = if tokens % 4 == 1 then 0 else (tokens - 1) / 4

-- what is unread with a token at hand: what stands behind it; of a slash, which may be read again, the text from it on
abbrev pub unread_by : Last → List ℕ → List ℕ
unread_by (Slash from) left = from
unread_by last left = left

abbrev pub unread : Text → List ℕ
unread t = unread_by t.last t.left

-- where reading stands with a token at hand: at its end; at a slash, where that begins
abbrev pub stands_by : Last → Spot → ℕ
stands_by (Slash from) spot = spot.lo
stands_by last spot = spot.hi
