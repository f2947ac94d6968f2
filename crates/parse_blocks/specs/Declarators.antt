-- Declarators that are being read.
use Rattle.std.specs.Prelude.{◌≡◌, List, All, map}
use Rattle.tree_nodes.specs.Tree.{Tree, pack}
use Rattle.grammar_spec.specs.Tokens.Shape.{declarators_end}
use Rattle.tree_nodes.specs.Fits.{fits_var_declarator}
use Rattle.tree_nodes.specs.Placed.{inner}
use Rattle.tree_nodes.specs.View.{view_var_declarator}
use Rattle.parse_blocks.specs.declared.declarations.DeclaratorList.{DeclaratorList}

abbrev pub declarators_of : DeclaratorList → List Tree
declarators_of d = map (view_var_declarator inner) d.items.items

abbrev pub FitDeclarators : DeclaratorList → Type 0
FitDeclarators d = All (λ x. fits_var_declarator (λ p. p) x) d.items.items

-- the class of the last one's end is told
abbrev pub TellsEnd : DeclaratorList → Type 0
TellsEnd d = d.end ≡ declarators_end (pack (declarators_of d))
