use Rattle.std.proofs.Common.{◌≡◌, map, take}
use Rattle.lex_source.specs.Machine.{shown_spot}
use Rattle.lex_other_sources.proofs.copies.clone_tokens.Given as goal

-- the copies so far are those of the tokens so far
abbrev pub invariant-loop-token : goal.invariant-loop-token
invariant-loop-token l = map shown_spot l.copies.items ≡ map shown_spot (take l.token-index l.tokens)
