use Rattle.std.proofs.Common.{◌≡◌, ◌≤◌, true}
use Rattle.base_token.specs.Kinds.{right_bracket_kind}
use Rattle.grammar_spec.specs.Reader.Source.{iterate, bound}
use Rattle.grammar_spec.specs.Reader.Expressions.{elements_by, element_step}
use Rattle.parse_state.specs.Codes.{code_of}
use Rattle.parse_state.specs.Cursors.{stream_of}
use Rattle.parse_state.specs.States.{state_of}
use Rattle.parse_operands.specs.Lists.{elements_of, FitElements, TellsRest}
use Rattle.parse_operands.proofs.elements.elements.Given as goal

abbrev pub invariant-turns : goal.invariant-turns
invariant-turns g l = let m = stream_of g.I.Tokens.machine in let inner = g.N.Nested.reads l.fn.nested _ g.I.Tokens.machine in record {
  reads : elements_by m inner (code_of l.fn.code) true right_bracket_kind (state_of g.I.Tokens.state l.fn.p) ≡ iterate (bound m) (element_step m inner (code_of l.fn.code) true right_bracket_kind) (elements_of l.list) (state_of g.I.Tokens.state l.p);
  fits : FitElements l.list;
  rest : TellsRest l.list;
  not_longer : bound m (state_of g.I.Tokens.state l.p) ≤ bound m (state_of g.I.Tokens.state l.fn.p);
}

abbrev pub decreases-turns : goal.decreases-turns
decreases-turns g l = bound (stream_of g.I.Tokens.machine) (state_of g.I.Tokens.state l.p)
