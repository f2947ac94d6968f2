-- What contracts see of properties that are being read.
use Rattle.std.specs.Prelude.{◌≡◌, All, map}
use Rattle.tree_nodes.specs.Fits.{fits_prop_or_spread}
use Rattle.tree_nodes.specs.Placed.{inner}
use Rattle.tree_nodes.specs.View.{view_prop_or_spread}
use Rattle.grammar_spec.specs.Tokens.Input.{Code}
use Rattle.grammar_spec.specs.Reader.Source.{Stream, Inner, Read, iterate, bound}
use Rattle.grammar_spec.specs.Reader.Cover.{last_rests}
use Rattle.grammar_spec.specs.Reader.Expressions.{Elements, no_elements, prop_step}
use Rattle.parse_objects.specs.declared.lists.Props.{Props}

abbrev pub props_of : Props → Elements
props_of e = record { items = map (view_prop_or_spread inner) e.items.items; comma = e.comma }

abbrev pub FitProps : Props → Type 0
FitProps e = All (λ x. fits_prop_or_spread (λ p. p) x) e.items.items

-- whether the last is spread is told
abbrev pub TellsRest : Props → Type 0
TellsRest e = e.rest ≡ last_rests (map (view_prop_or_spread inner) e.items.items)

-- the properties of an object, after its brace (13.2.5)
unfoldable pub props_by : {S : Type 0} → Stream S → Inner S → Code → Read S Elements
props_by m inner c s = iterate (bound m) (prop_step m inner c) no_elements s
