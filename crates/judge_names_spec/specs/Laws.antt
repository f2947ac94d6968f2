-- What holds of the definitions.
use Rattle.std.specs.Prelude.{◌≡◌, map}
use Rattle.base_token.specs.declared.place.Span.{Span}
use Rattle.tree_spec.specs.Folds.{rebuild}
use Rattle.tree_spec.specs.Tree.{Tree}
use Rattle.judge_names_spec.specs.Faults.{NameFault}
use Rattle.judge_names_spec.specs.Walk.{faults_found}

abbrev pub moved_fault : (Span → Span) → NameFault → NameFault
moved_fault place f = record { kind = f.kind; place = place f.place }

-- No place counts: of a tree whose places are moved the same faults are found, with their places moved.
abbrev pub PlacesMove : Type 0
PlacesMove = (place : Span → Span) (t : Tree) → faults_found (rebuild place (λ u. u) t) ≡ map (moved_fault place) (faults_found t)
