-- The code around a node, as definitions see it.
use Rattle.std.specs.Prelude.{ℕ, Bool, false, ◌&&◌, ◌||◌, List, [], ◌∷◌}
use Rattle.grammar_spec.specs.Judge.Early.{Scope}
use Rattle.judge.specs.declared.base.labels.Labels.{Labels, Outermost, Label'}
use Rattle.judge.specs.declared.base.code.Code.{Code}

-- the labels, each with whether it labels a loop
abbrev pub labels_of : Labels → List (List ℕ × Bool)
labels_of Outermost = []
labels_of (Label' name is_loop p around) = (name.now, is_loop) ∷ labels_of around

-- the code
abbrev pub scope_of : Code → Scope
scope_of c = record {
  strict = c.strict;
  starts = c.starts;
  labels = labels_of c.labels;
  loops = c.loops;
  breaks = c.breaks;
  returns = c.returns;
  supers = c.supers;
  calls = c.calls;
  targets = c.targets;
  method = c.method;
  heads = c.heads;
  awaits = c.awaits;
  syntax = c.syntax;
}

-- the code after a statement, which is `'use strict'` or not and a directive or not
abbrev pub after_statement : Bool → Bool → Scope → Scope
after_statement is_use_strict is_directive x = record x { strict = x.strict || (x.starts && is_use_strict); starts = x.starts && is_directive; heads = false }
