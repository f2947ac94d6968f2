-- What holds of the definitions.
use Rattle.std.specs.Prelude.{◌≡◌, map}
use Rattle.base_token.specs.declared.place.Span.{Span}
use Rattle.tree_spec.specs.Folds.{rebuild}
use Rattle.tree_spec.specs.Tree.{Tree}
use Rattle.tree_program_spec.specs.Names.Names.{identifiers}
use Rattle.judge_scopes_spec.specs.Scopes.{Told, stands, keep, told, names_told}

-- The walk tells what each name of a tree stands for, once and in the order of the text.
abbrev pub NamesAreTold : Type 0
NamesAreTold = (t : Tree) → names_told (told t) ≡ identifiers t

-- what is told of a name, with its place moved
abbrev pub moved_told : (Span → Span) → Told → Told
moved_told place (stands i b) = stands (record { sym = i.sym; span = place i.span }) b
moved_told place (keep n) = keep n

-- No place counts: of a tree whose places are moved the same is told, with the places of names moved.
abbrev pub PlacesMove : Type 0
PlacesMove = (place : Span → Span) (t : Tree) → told (rebuild place (λ u. u) t) ≡ map (moved_told place) (told t)
