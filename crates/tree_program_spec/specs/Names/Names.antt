-- The names of a tree: its variables, labels and specifiers, in the order in which a text has them.
use Rattle.std.specs.Prelude.{ℕ, List, [], ◌∷◌, ◌++◌, map}
use Rattle.base_token.specs.declared.place.Span.{Span}
use Rattle.tree_spec.specs.Tree.{Tree, import_named_specifier, do_while_stmt, class, class_prop, private_prop, auto_accessor, ident}
use Rattle.tree_spec.specs.Folds.{fold}

-- A name (13.1): its characters, and where it begins.
pub record Name : Type 0 where
  pub sym : List ℕ
  pub at : ℕ

-- a name with the whole of its place
pub record Identifier : Type 0 where
  pub sym : List ℕ
  pub span : Span

-- all of some lists, one after the other
abbrev pub joined : {A : Type 0} → List (List A) → List A
joined [] = []
joined (xs ∷ xss) = xs ++ joined xss

-- What comes of a node's fields, in the order in which a text has these: an imported name before its local one (16.2.2), the body of a `do` loop before its test (14.7.2), and of a class and of a
-- field decorators first, and a heritage before the body (15.7). All others stand as in the table.
abbrev pub in_order : {A : Type 0} → Tree → List A → List A
in_order (import_named_specifier span local imported) (l ∷ i ∷ []) = i ∷ l ∷ []
in_order (do_while_stmt span test body) (t ∷ b ∷ []) = b ∷ t ∷ []
in_order (class span decorators body parent) (ds ∷ b ∷ p ∷ []) = ds ∷ p ∷ b ∷ []
in_order (class_prop span key value is_static decorators) (k ∷ v ∷ ds ∷ []) = ds ∷ k ∷ v ∷ []
in_order (private_prop span key value is_static decorators) (k ∷ v ∷ ds ∷ []) = ds ∷ k ∷ v ∷ []
in_order (auto_accessor span key value is_static decorators) (k ∷ v ∷ ds ∷ []) = ds ∷ k ∷ v ∷ []
in_order t fields = fields

-- An `ident` is a name, also within a `binding_ident`; keys, names behind a dot and private names are none.
abbrev pub identifiers_step : Tree → List (List (List Identifier)) → List Identifier
identifiers_step (ident span sym) fields = record { sym = sym; span = span } ∷ []
identifiers_step t fields = joined (joined (in_order t fields))

abbrev pub identifiers : Tree → List Identifier
identifiers t = fold identifiers_step t

abbrev pub name_of : Identifier → Name
name_of i = record { sym = i.sym; at = i.span.lo.0 }

-- The names of a tree, in the order in which a text has them (13.1; own).
abbrev pub names : Tree → List Name
names t = map name_of (identifiers t)
