-- The names of imports and exports, one by one.
use Rattle.std.specs.Prelude.{Bool, true, false, if◌then◌else◌, codes}
use Rattle.tree_spec.specs.Tree.{Tree, Trees, none, more}
use Rattle.print_gaps.specs.Edges.{is_there}
use Rattle.print_layout_spec.specs.declared.look.Look.{Look}
use Rattle.print_layout_spec.specs.declared.look.Stand.TheVariants.{Alone, Key}
use Rattle.print_layout_spec.specs.Looks.{Laid, nothing, ◌·◌, when, text, blank}
use Rattle.print_layout_spec.specs.Layout.{laid, comma, is_default, is_named}

-- a default name and a namespace before `from`; a mark says whether a default name came before
abbrev pub head_laid : Look → Bool → Tree → Laid
head_laid look seen t = if is_default t then laid look Alone t else (if is_named t then nothing else when seen (comma look) · laid look Alone t)

-- a name in braces, where it stands there; a mark says whether one came before
abbrev pub item_laid : Look → (Tree → Bool) → Bool → Tree → Laid
item_laid look stands started t = when (stands t) (when started (comma look) · laid look Alone t)

abbrev pub marked_by : (Tree → Bool) → Bool → Tree → Bool
marked_by stands before t = if stands t then true else before

-- whether one of them stands in braces
abbrev pub some_stands : (Tree → Bool) → Trees → Bool
some_stands stands none = false
some_stands stands (more t ts) = if stands t then true else some_stands stands ts

-- `imported as` before a name, and `as exported` behind one
abbrev pub before_as : Look → Tree → Laid
before_as look t = when (is_there t) (laid look Key t · blank · text (codes "as") · blank)

abbrev pub behind_as : Look → Tree → Laid
behind_as look t = when (is_there t) (blank · text (codes "as") · blank · laid look Key t)
