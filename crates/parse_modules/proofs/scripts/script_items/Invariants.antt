use Rattle.std.proofs.Common.{◌≡◌, ◌≤◌, false}
use Rattle.grammar_spec.specs.Reader.Source.{iterate, bound}
use Rattle.grammar_spec.specs.Reader.Modules.{program_step}
use Rattle.parse_state.specs.Codes.{code_of}
use Rattle.parse_state.specs.Cursors.{stream_of}
use Rattle.parse_state.specs.States.{state_of}
use Rattle.parse_blocks.specs.Lists.{body_of, FitBody}
use Rattle.parse_modules.specs.Items.{items_by}
use Rattle.parse_modules.proofs.scripts.script_items.Given as goal

abbrev pub invariant-turns : goal.invariant-turns
invariant-turns g l = let m = stream_of g.I.Tokens.machine in let inner = g.N.Nested.reads l.fn.nested _ g.I.Tokens.machine in record {
  reads : items_by m inner false (code_of l.fn.code) (state_of g.I.Tokens.state l.fn.p) ≡ iterate (bound m) (program_step m inner false) (body_of l.read) (state_of g.I.Tokens.state l.p);
  fits : FitBody l.read;
  not_longer : bound m (state_of g.I.Tokens.state l.p) ≤ bound m (state_of g.I.Tokens.state l.fn.p);
}

abbrev pub decreases-turns : goal.decreases-turns
decreases-turns g l = bound (stream_of g.I.Tokens.machine) (state_of g.I.Tokens.state l.p)
