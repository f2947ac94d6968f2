use Rattle.std.proofs.Common.{◌≡◌, ◌++◌, map, option_map, drop, string_bytes}
use Rattle.lex_source.specs.Machine.{shown_spot}
use Rattle.lex_source.specs.Canonical.Canonical.{canonical, text_behind}
use Rattle.lex_source.specs.Canonical.Edges.{edge_in}
use Rattle.lex_source.proofs.canonical.written.Given as goal

-- what is written and what is left make the whole
abbrev pub invariant-loop-token : goal.invariant-loop-token
invariant-loop-token l = string_bytes l.out ++ text_behind l.source (option_map edge_in l.last) (map shown_spot (drop l.token-index l.tokens)) ≡ canonical l.source (map shown_spot l.tokens)
