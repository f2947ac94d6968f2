use Rattle.std.proofs.Common.{◌≡◌, ◌≤◌, false, map}
use Rattle.tree_nodes.specs.View.{view_export_specifier}
use Rattle.grammar_spec.specs.Reader.Source.{iterate, bound}
use Rattle.grammar_spec.specs.Reader.Modules.{specifiers_by, specifier_step}
use Rattle.parse_state.specs.Codes.{code_of}
use Rattle.parse_state.specs.Cursors.{stream_of}
use Rattle.parse_state.specs.States.{state_of}
use Rattle.parse_modules.proofs.exports.named_exports.Given as goal

abbrev pub invariant-turns : goal.invariant-turns
invariant-turns g l = let m = stream_of g.I.Tokens.machine in let inner = g.N.Nested.reads l.fn.nested _ g.I.Tokens.machine in record {
  reads : specifiers_by m inner false (code_of l.fn.code) (state_of g.I.Tokens.state l.fn.p) ≡ iterate (bound m) (specifier_step m inner false (code_of l.fn.code)) (map view_export_specifier l.list.items) (state_of g.I.Tokens.state l.p);
  not_longer : bound m (state_of g.I.Tokens.state l.p) ≤ bound m (state_of g.I.Tokens.state l.fn.p);
}

abbrev pub decreases-turns : goal.decreases-turns
decreases-turns g l = bound (stream_of g.I.Tokens.machine) (state_of g.I.Tokens.state l.p)
