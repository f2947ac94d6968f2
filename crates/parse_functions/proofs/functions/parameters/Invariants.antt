use Rattle.std.proofs.Common.{◌≡◌, ◌<◌, All, map}
use Rattle.tree_nodes.specs.Fits.{fits_param}
use Rattle.tree_nodes.specs.Placed.{inner}
use Rattle.tree_nodes.specs.View.{view_param}
use Rattle.grammar_spec.specs.Reader.Source.{iterate, bound}
use Rattle.grammar_spec.specs.Reader.Expressions.{parameters_by, parameter_step}
use Rattle.parse_state.specs.Codes.{code_of}
use Rattle.parse_state.specs.Cursors.{stream_of}
use Rattle.parse_state.specs.States.{state_of}
use Rattle.parse_functions.proofs.functions.parameters.Given as goal

abbrev pub invariant-turns : goal.invariant-turns
invariant-turns g l = let m = stream_of g.I.Tokens.machine in let inner_reads = g.N.Nested.reads l.fn.nested _ g.I.Tokens.machine in record {
  reads : parameters_by m inner_reads (code_of l.fn.code) (state_of g.I.Tokens.state l.fn.p) ≡ iterate (bound m) (parameter_step m inner_reads (code_of l.fn.code)) (map (view_param inner) l.params.items) (state_of g.I.Tokens.state l.p);
  fits : All (λ x. fits_param (λ p. p) x) l.params.items;
  shorter : bound m (state_of g.I.Tokens.state l.p) < bound m (state_of g.I.Tokens.state l.fn.p);
}

abbrev pub decreases-turns : goal.decreases-turns
decreases-turns g l = bound (stream_of g.I.Tokens.machine) (state_of g.I.Tokens.state l.p)
