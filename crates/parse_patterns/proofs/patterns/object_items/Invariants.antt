use Rattle.std.proofs.Common.{◌≡◌, ◌≤◌, All, map}
use Rattle.tree_nodes.specs.Fits.{fits_object_pat_prop}
use Rattle.tree_nodes.specs.Placed.{inner}
use Rattle.tree_nodes.specs.View.{view_object_pat_prop}
use Rattle.grammar_spec.specs.Reader.Source.{iterate, bound}
use Rattle.grammar_spec.specs.Reader.Statements.{object_item}
use Rattle.parse_state.specs.Codes.{code_of}
use Rattle.parse_state.specs.Cursors.{stream_of}
use Rattle.parse_state.specs.States.{state_of}
use Rattle.parse_patterns.specs.Items.{object_items}
use Rattle.parse_patterns.proofs.patterns.object_items.Given as goal

abbrev pub invariant-turns : goal.invariant-turns
invariant-turns g l = let m = stream_of g.I.Tokens.machine in let inside = g.N.Nested.reads l.fn.nested _ g.I.Tokens.machine in record {
  reads : object_items m inside (code_of l.fn.code) (state_of g.I.Tokens.state l.fn.p) ≡ iterate (bound m) (object_item m inside (code_of l.fn.code)) (map (view_object_pat_prop inner) l.list.items) (state_of g.I.Tokens.state l.p);
  fits : All (λ y. fits_object_pat_prop (λ p. p) y) l.list.items;
  not_longer : bound m (state_of g.I.Tokens.state l.p) ≤ bound m (state_of g.I.Tokens.state l.fn.p);
}

abbrev pub decreases-turns : goal.decreases-turns
decreases-turns g l = bound (stream_of g.I.Tokens.machine) (state_of g.I.Tokens.state l.p)
