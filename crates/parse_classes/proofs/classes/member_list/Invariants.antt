use Rattle.std.proofs.Common.{◌≡◌, ◌≤◌, All, map}
use Rattle.tree_nodes.specs.Fits.{fits_class_member}
use Rattle.tree_nodes.specs.Placed.{inner}
use Rattle.tree_nodes.specs.View.{view_class_member}
use Rattle.grammar_spec.specs.Reader.Source.{iterate, bound}
use Rattle.grammar_spec.specs.Reader.Statements.{member_step}
use Rattle.parse_state.specs.Codes.{code_of}
use Rattle.parse_state.specs.Cursors.{stream_of}
use Rattle.parse_state.specs.States.{state_of}
use Rattle.parse_classes.specs.Members.{member_list}
use Rattle.parse_classes.proofs.classes.member_list.Given as goal

abbrev pub invariant-turns : goal.invariant-turns
invariant-turns g l = let m = stream_of g.I.Tokens.machine in let nested = g.N.Nested.reads l.fn.nested _ g.I.Tokens.machine in record {
  reads : member_list m nested (code_of l.fn.code) (state_of g.I.Tokens.state l.fn.p) ≡ iterate (bound m) (member_step m nested (code_of l.fn.code)) (map (view_class_member inner) l.list.items) (state_of g.I.Tokens.state l.p);
  fits : All (λ x. fits_class_member (λ p. p) x) l.list.items;
  not_longer : bound m (state_of g.I.Tokens.state l.p) ≤ bound m (state_of g.I.Tokens.state l.fn.p);
}

abbrev pub decreases-turns : goal.decreases-turns
decreases-turns g l = bound (stream_of g.I.Tokens.machine) (state_of g.I.Tokens.state l.p)
