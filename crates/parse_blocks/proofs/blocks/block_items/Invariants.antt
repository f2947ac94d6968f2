use Rattle.std.proofs.Common.{◌≡◌, ◌≤◌, All, map}
use Rattle.tree_nodes.specs.Placed.{holds_stmt, inner}
use Rattle.grammar_spec.specs.Reader.Source.{iterate, bound}
use Rattle.grammar_spec.specs.Reader.Statements.{block_step}
use Rattle.parse_state.specs.Codes.{code_of}
use Rattle.parse_state.specs.Cursors.{stream_of}
use Rattle.parse_state.specs.States.{state_of}
use Rattle.parse_blocks.specs.Lists.{block_items}
use Rattle.parse_blocks.proofs.blocks.block_items.Given as goal

abbrev pub invariant-turns : goal.invariant-turns
invariant-turns g l = let m = stream_of g.I.Tokens.machine in let inside = g.N.Nested.reads l.fn.nested _ g.I.Tokens.machine in record {
  reads : block_items m inside (code_of l.fn.code) (state_of g.I.Tokens.state l.fn.p) ≡ iterate (bound m) (block_step m inside (code_of l.fn.code)) (map (λ y. inner y.part.value) l.list.items) (state_of g.I.Tokens.state l.p);
  fits : All (λ x. holds_stmt x.part.value) l.list.items;
  not_longer : bound m (state_of g.I.Tokens.state l.p) ≤ bound m (state_of g.I.Tokens.state l.fn.p);
}

abbrev pub decreases-turns : goal.decreases-turns
decreases-turns g l = bound (stream_of g.I.Tokens.machine) (state_of g.I.Tokens.state l.p)
