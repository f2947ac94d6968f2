use Rattle.std.proofs.Common.{◌≡◌, ◌≤◌, All, map}
use Rattle.tree_spec.specs.Tree.{element_by}
use Rattle.tree_nodes.specs.Fits.{fits_held}
use Rattle.tree_nodes.specs.Placed.{holds_pat, inner}
use Rattle.grammar_spec.specs.Reader.Source.{iterate, bound}
use Rattle.grammar_spec.specs.Reader.Statements.{array_item}
use Rattle.parse_state.specs.Codes.{code_of}
use Rattle.parse_state.specs.Cursors.{stream_of}
use Rattle.parse_state.specs.States.{state_of}
use Rattle.parse_patterns.specs.Items.{array_items}
use Rattle.parse_patterns.proofs.patterns.array_items.Given as goal

abbrev pub invariant-turns : goal.invariant-turns
invariant-turns g l = let m = stream_of g.I.Tokens.machine in let inside = g.N.Nested.reads l.fn.nested _ g.I.Tokens.machine in record {
  reads : array_items m inside (code_of l.fn.code) (state_of g.I.Tokens.state l.fn.p) ≡ iterate (bound m) (array_item m inside (code_of l.fn.code)) (map (λ y. element_by (λ z. inner z.part.value) y) l.list.items) (state_of g.I.Tokens.state l.p);
  fits : All (λ y. fits_held (λ z. holds_pat z.part.value) y) l.list.items;
  not_longer : bound m (state_of g.I.Tokens.state l.p) ≤ bound m (state_of g.I.Tokens.state l.fn.p);
}

abbrev pub decreases-turns : goal.decreases-turns
decreases-turns g l = bound (stream_of g.I.Tokens.machine) (state_of g.I.Tokens.state l.p)
