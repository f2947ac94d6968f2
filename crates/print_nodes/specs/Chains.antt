-- What stands before the name of a member.
use Rattle.std.specs.Prelude.{Bool, not, ◌||◌, if◌then◌else◌, codes}
use Rattle.tree_spec.specs.Tree.{Tree, number_lit}
use Rattle.print_layout_spec.specs.declared.look.Look.{Look}
use Rattle.print_layout_spec.specs.declared.look.Stand.TheVariants.{Alone, Head}
use Rattle.print_layout_spec.specs.Looks.{Laid, ◌·◌, start, text, when}
use Rattle.print_layout_spec.specs.Literals.{number, number_before_point}
use Rattle.print_layout_spec.specs.Layout.{laid, is_computed, optional_dot}

-- an object: a number takes a point of its own before the point of a name, and none before a bracket and before `?.`
abbrev pub object_laid : Look → Bool → Tree → Laid
object_laid look keeps (number_lit at value raw) = start at · (if keeps then number look at value raw else number_before_point look at value raw)
object_laid look keeps t = laid look Head t

-- the sign between an object and a name in an optional chain
abbrev pub link_laid : Bool → Bool → Laid
link_laid optional computed = if optional then optional_dot else when (not computed) (text (codes "."))

-- a member in an optional chain
abbrev pub chain_laid : Look → Bool → Tree → Tree → Laid
chain_laid look optional obj prop = object_laid look (optional || is_computed prop) obj · link_laid optional (is_computed prop) · laid look Alone prop
