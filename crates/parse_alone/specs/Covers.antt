-- Properties with an initialiser, which no finished tree has (13.2.5.1).
use Rattle.std.specs.Prelude.{Bool, true, false, if◌then◌else◌}
use Rattle.tree_spec.specs.Tree.{Tree, assign_prop}
use Rattle.tree_visit.specs.Walk.{Event, enter, leave}
use Rattle.tree_visit.specs.declared.kinds.Kind.{Kind}

abbrev pub is_cover : Kind → Bool
is_cover Kind.AssignProp = true
is_cover _ = false

abbrev pub covers : Tree → Bool
covers (assign_prop s k v) = true
covers _ = false

-- whether all is clean so far
abbrev pub after_event : Event → Bool → Bool
after_event (enter x) s = if is_cover x.kind then false else s
after_event (leave x) s = s
