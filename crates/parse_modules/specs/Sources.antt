-- What contracts see of the parts of imports and exports.
use Rattle.tree_spec.specs.Tree.{part_by}
use Rattle.tree_nodes.specs.Placed.{inner}
use Rattle.tree_nodes.specs.Fits.{fits_held, fits_object_lit}
use Rattle.tree_nodes.specs.View.{view_str, view_object_lit}
use Rattle.grammar_spec.specs.Reader.Modules.{From}
use Rattle.parse_modules.specs.declared.names.Sourced.{Sourced}

-- a module's name and its attributes
abbrev pub from_of : Sourced → From
from_of x = record { src = view_str x.src.value; with_ = part_by (λ o. view_object_lit inner o.value) x.with_ }

abbrev pub FitSourced : Sourced → Type 0
FitSourced x = fits_held (λ o. fits_object_lit (λ p. p) o.value) x.with_
