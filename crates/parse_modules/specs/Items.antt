-- The items of a program that are being read.
use Rattle.std.specs.Prelude.{Bool, true, [], All, map}
use Rattle.grammar_spec.specs.Tokens.Input.{Code}
use Rattle.tree_nodes.specs.Fits.{fits_module_item}
use Rattle.tree_nodes.specs.Placed.{inner}
use Rattle.tree_nodes.specs.View.{view_module_item}
use Rattle.grammar_spec.specs.Reader.Source.{Stream, Inner, Read, iterate, bound}
use Rattle.grammar_spec.specs.Reader.Statements.{Body}
use Rattle.grammar_spec.specs.Reader.Modules.{program_step}
use Rattle.parse_state.specs.Codes.{code_of}
use Rattle.parse_modules.specs.declared.items.ItemsSoFar.{ItemsSoFar}

-- a module's items so far, as the reading functions see them
abbrev pub items_of : ItemsSoFar → Body
items_of b = record { items = map (view_module_item inner) b.items.items; code = code_of b.code; starts = b.starts }

abbrev pub FitItems : ItemsSoFar → Type 0
FitItems b = All (λ x. fits_module_item (λ p. p) x) b.items.items

-- the items of a script or a module, up to its end (16.1, 16.2)
unfoldable pub items_by : {S : Type 0} → Stream S → Inner S → Bool → Code → Read S Body
items_by m inner modules c s = iterate (bound m) (program_step m inner modules) (record { items = []; code = c; starts = true }) s
