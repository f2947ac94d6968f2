use Rattle.std.proofs.Common.{◌≡◌, ◌≤◌, ◌-◌}
use Rattle.lex_other_sources.specs.Steps.{stepped}
use Rattle.lex_other_sources.proofs.rewinding.walk.Given as goal

-- so many steps were made
abbrev pub invariant-steps : goal.invariant-steps
invariant-steps g l = record {
  made : g.I.Tokens.state l.source ≡ stepped g.I.Tokens.machine l.done (g.I.Tokens.state l.fn.source);
  most : l.done ≤ l.count;
}

abbrev pub decreases-steps : goal.decreases-steps
decreases-steps g l = l.count - l.done
