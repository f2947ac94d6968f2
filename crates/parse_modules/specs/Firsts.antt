-- What contracts see of the names in front of an import's list.
use Rattle.std.specs.Prelude.{List, [], ◌∷◌, Option, Some, None}
use Rattle.tree_spec.specs.Tree.{Tree}
use Rattle.tree_nodes.specs.View.{view_import_specifier}
use Rattle.tree_nodes.specs.declared.programs.ImportSpecifier.{ImportSpecifier}

-- what stands before a star or a list
abbrev pub first_of : Option ImportSpecifier → List Tree
first_of None = []
first_of (Some x) = view_import_specifier x ∷ []
