use Rattle.std.proofs.Common.{◌≡◌, ◌≤◌}
use Rattle.grammar_spec.specs.Reader.Source.{iterate, bound}
use Rattle.grammar_spec.specs.Reader.Expressions.{prop_step}
use Rattle.parse_state.specs.Codes.{code_of}
use Rattle.parse_state.specs.Cursors.{stream_of}
use Rattle.parse_state.specs.States.{state_of}
use Rattle.parse_objects.specs.Lists.{FitProps, TellsRest, props_by, props_of}
use Rattle.parse_objects.proofs.objects.props.Given as goal

abbrev pub invariant-turns : goal.invariant-turns
invariant-turns g l = let m = stream_of g.I.Tokens.machine in let inner = g.N.Nested.reads l.fn.nested _ g.I.Tokens.machine in record {
  reads : props_by m inner (code_of l.fn.code) (state_of g.I.Tokens.state l.fn.p) ≡ iterate (bound m) (prop_step m inner (code_of l.fn.code)) (props_of l.list) (state_of g.I.Tokens.state l.p);
  fits : FitProps l.list;
  rest : TellsRest l.list;
  not_longer : bound m (state_of g.I.Tokens.state l.p) ≤ bound m (state_of g.I.Tokens.state l.fn.p);
}

abbrev pub decreases-turns : goal.decreases-turns
decreases-turns g l = bound (stream_of g.I.Tokens.machine) (state_of g.I.Tokens.state l.p)
