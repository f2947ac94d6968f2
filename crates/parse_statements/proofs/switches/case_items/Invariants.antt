use Rattle.std.proofs.Common.{◌≡◌, ◌<◌, All, map}
use Rattle.parse_statements.specs.Lists.{case_items}
use Rattle.grammar_spec.specs.Reader.Statements.{case_step}
use Rattle.tree_nodes.specs.Placed.{holds_stmt, inner}
use Rattle.grammar_spec.specs.Reader.Source.{iterate, bound}
use Rattle.parse_state.specs.Codes.{code_of}
use Rattle.parse_state.specs.Cursors.{stream_of}
use Rattle.parse_state.specs.States.{state_of}
use Rattle.parse_statements.proofs.switches.case_items.Given as goal

abbrev pub invariant-turns : goal.invariant-turns
invariant-turns g l = let m = stream_of g.I.Tokens.machine in let inside = g.N.Nested.reads l.fn.nested _ g.I.Tokens.machine in record {
  reads : case_items m inside (code_of l.fn.code) (state_of g.I.Tokens.state l.fn.p) ≡ iterate (bound m) (case_step m inside (code_of l.fn.code)) (map (λ y. inner y.part.value) l.list.items) (state_of g.I.Tokens.state l.p);
  fits : All (λ x. holds_stmt x.part.value) l.list.items;
  shorter : bound m (state_of g.I.Tokens.state l.p) < bound m (state_of g.I.Tokens.state l.fn.p);
}

abbrev pub decreases-turns : goal.decreases-turns
decreases-turns g l = bound (stream_of g.I.Tokens.machine) (state_of g.I.Tokens.state l.p)
