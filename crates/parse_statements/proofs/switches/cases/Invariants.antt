use Rattle.std.proofs.Common.{◌≡◌, ◌≤◌}
use Rattle.parse_statements.specs.Lists.{switch_cases, cases_of, FitCases, TellsDefault}
use Rattle.grammar_spec.specs.Reader.Statements.{cases_step}
use Rattle.grammar_spec.specs.Reader.Source.{iterate, bound}
use Rattle.parse_state.specs.Codes.{code_of}
use Rattle.parse_state.specs.Cursors.{stream_of}
use Rattle.parse_state.specs.States.{state_of}
use Rattle.parse_statements.proofs.switches.cases.Given as goal

abbrev pub invariant-turns : goal.invariant-turns
invariant-turns g l = let m = stream_of g.I.Tokens.machine in let inside = g.N.Nested.reads l.fn.nested _ g.I.Tokens.machine in record {
  reads : switch_cases m inside (code_of l.fn.code) (state_of g.I.Tokens.state l.fn.p) ≡ iterate (bound m) (cases_step m inside (code_of l.fn.code)) (cases_of l.read) (state_of g.I.Tokens.state l.p);
  fits : FitCases l.read;
  tells : TellsDefault l.read;
  not_longer : bound m (state_of g.I.Tokens.state l.p) ≤ bound m (state_of g.I.Tokens.state l.fn.p);
}

abbrev pub decreases-turns : goal.decreases-turns
decreases-turns g l = bound (stream_of g.I.Tokens.machine) (state_of g.I.Tokens.state l.p)
