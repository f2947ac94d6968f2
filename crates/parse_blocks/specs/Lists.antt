-- Statements that are being read.
use Rattle.std.specs.Prelude.{List, [], All, map, true}
use Rattle.tree_nodes.specs.Tree.{Tree}
use Rattle.grammar_spec.specs.Tokens.Input.{Code}
use Rattle.tree_nodes.specs.Placed.{holds_stmt, inner}
use Rattle.grammar_spec.specs.Reader.Source.{Stream, Inner, Read, iterate, bound}
use Rattle.grammar_spec.specs.Reader.Statements as reads
use Rattle.parse_state.specs.Codes.{code_of}
use Rattle.parse_blocks.specs.declared.body.BodySoFar.{BodySoFar}

-- a body's statements so far, as the reading functions see them
abbrev pub body_of : BodySoFar → reads.Body
body_of b = record { items = map (λ x. inner x.part.value) b.items.items; code = code_of b.code; starts = b.starts }

abbrev pub FitBody : BodySoFar → Type 0
FitBody b = All (λ x. holds_stmt x.part.value) b.items.items

-- the statements of a block, up to its brace (14.2)
unfoldable pub block_items : {S : Type 0} → Stream S → Inner S → Code → Read S (List Tree)
block_items m inner c s = iterate (bound m) (reads.block_step m inner c) [] s

-- the statements of a body, up to its brace (15.2)
unfoldable pub body_items : {S : Type 0} → Stream S → Inner S → Code → Read S reads.Body
body_items m inner c s = iterate (bound m) (reads.body_step m inner) (record { items = []; code = c; starts = true }) s
