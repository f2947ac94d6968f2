use Rattle.std.proofs.Common.{◌≡◌, ◌≤◌}
use Rattle.parse_blocks.specs.Declarators.{declarators_of, FitDeclarators, TellsEnd}
use Rattle.grammar_spec.specs.Reader.Statements.{declarators_by, declarator_step}
use Rattle.grammar_spec.specs.Reader.Source.{iterate, bound}
use Rattle.parse_state.specs.Codes.{code_of}
use Rattle.parse_state.specs.Cursors.{stream_of}
use Rattle.parse_state.specs.States.{state_of}
use Rattle.parse_blocks.proofs.declarations.declarators.Given as goal

abbrev pub invariant-turns : goal.invariant-turns
invariant-turns g l = let m = stream_of g.I.Tokens.machine in let inside = g.N.Nested.reads l.fn.nested _ g.I.Tokens.machine in record {
  reads : declarators_by m inside (code_of l.fn.code) (state_of g.I.Tokens.state l.fn.p) ≡ iterate (bound m) (declarator_step m inside (code_of l.fn.code)) (declarators_of l.list) (state_of g.I.Tokens.state l.p);
  fits : FitDeclarators l.list;
  end : TellsEnd l.list;
  not_longer : bound m (state_of g.I.Tokens.state l.p) ≤ bound m (state_of g.I.Tokens.state l.fn.p);
}

abbrev pub decreases-turns : goal.decreases-turns
decreases-turns g l = bound (stream_of g.I.Tokens.machine) (state_of g.I.Tokens.state l.p)
