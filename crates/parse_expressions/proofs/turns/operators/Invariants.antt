use Rattle.std.proofs.Common.{◌≡◌, ◌≤◌}
use Rattle.grammar_spec.specs.Reader.Source.{iterate, bound}
use Rattle.grammar_spec.specs.Reader.Expressions.{loop_by, loop_step}
use Rattle.parse_state.specs.Codes.{code_of}
use Rattle.parse_state.specs.Cursors.{stream_of}
use Rattle.parse_state.specs.States.{state_of}
use Rattle.parse_operands.specs.Operands.{tree_of}
use Rattle.parse_expressions.proofs.turns.operators.Given as goal

abbrev pub invariant-turns : goal.invariant-turns
invariant-turns g l = let m = stream_of g.I.Tokens.machine in let inner = g.N.Nested.reads l.fn.nested _ g.I.Tokens.machine in record {
  reads : loop_by m inner (code_of l.fn.code) l.fn.least l.fn.start.0 (tree_of l.fn.first) (state_of g.I.Tokens.state l.fn.p) ≡ iterate (bound m) (loop_step m inner (code_of l.fn.code) l.fn.least l.fn.start.0) (tree_of l.left) (state_of g.I.Tokens.state l.p);
  not_longer : bound m (state_of g.I.Tokens.state l.p) ≤ bound m (state_of g.I.Tokens.state l.fn.p);
}

abbrev pub decreases-turns : goal.decreases-turns
decreases-turns g l = bound (stream_of g.I.Tokens.machine) (state_of g.I.Tokens.state l.p)
