use Rattle.std.proofs.Common.{◌≤◌, length}
use denote.Text.{Utf8}
use denote.Shadow.{shadow}
use Rattle.test_lex_answers.proofs.bench.pieces.tokens.count.Given as goal

abbrev pub invariant-tokens : goal.invariant-tokens
invariant-tokens l = shadow (Utf8 l.rest) × (length l.rest ≤ length l.text)
