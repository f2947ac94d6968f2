-- What is printed alone.
use Rattle.std.specs.Prelude.{◌≡◌, false, Option, Some, None}
use Rattle.tree_spec.specs.Tree.{Tree, Trees, none, more}
use Rattle.tree_nodes.specs.Placed.{Placed, in_stmt, inner}
use Rattle.print_writers.specs.States.{State}
use Rattle.print_layout_spec.specs.declared.look.Look.{Look}
use Rattle.print_layout_spec.specs.declared.look.Stand.TheVariants.{Alone}
use Rattle.print_layout_spec.specs.Looks.{Laid, ◌·◌, nothing, is_refused}
use Rattle.print_layout_spec.specs.Layout.{laid, closing, statements}
use Rattle.ecma_codegen.specs.Emits.{emitted}

-- a statement and a part of a module, with its end
abbrev pub item_laid : Look → Tree → Laid
item_laid look t = laid look Alone t · closing look t

-- what stands in a child's box
abbrev pub placed_laid : Look → Placed → Laid
placed_laid look (in_stmt t) = item_laid look t
placed_laid look p = laid look Alone (inner p)

-- what may be left out
abbrev pub element_laid : {T : Type 0} → (T → Laid) → Option T → Laid
element_laid f None = nothing
element_laid f (Some x) = f x

-- items that are printed one after the other
abbrev pub items_emitted : Look → Trees → State → State
items_emitted look none s = s
items_emitted look (more t ts) s = items_emitted look ts (emitted (item_laid look t) s)

-- They give what the statements of a program give, where these can be printed.
abbrev pub ItemsAreProgram : Type 0
ItemsAreProgram = (look : Look) (ts : Trees) (s : State) → is_refused (statements look ts) ≡ false → emitted (statements look ts) s ≡ items_emitted look ts s
