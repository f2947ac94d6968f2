-- A child's part as contracts see it: the spec tree of a node, and the node's sort.
use Rattle.std.specs.Prelude.{ℕ, ◌+◌, ◌≡◌, refl}
use Rattle.std.specs.Coded.{Coded, code_by, coded⊎}
use mathlib.Core.Logic.{inl, inr, ◌⊎◌}
use Rattle.tree_spec.specs.Tree.{Tree}
use Rattle.tree_spec.specs.Codes.{tree_code, tree_size}
use Rattle.tree_nodes.specs.declared.knot.PartKind.{PartKind}
use Rattle.tree_nodes.specs.declared.knot.PartKind.TheVariants as PartKind

-- an expression, a statement or a pattern in the place of a child
pub data Placed : Type 0 where
  in_expr : Tree → Placed
  in_stmt : Tree → Placed
  in_pat : Tree → Placed

-- the tree in a place
abbrev pub inner : Placed → Tree
inner (in_expr t) = t
inner (in_stmt t) = t
inner (in_pat t) = t

abbrev pub holds_expr : Placed → Type 0
holds_expr (in_expr t) = Unit {0}
holds_expr (in_stmt t) = ⊥
holds_expr (in_pat t) = ⊥

abbrev pub holds_stmt : Placed → Type 0
holds_stmt (in_expr t) = ⊥
holds_stmt (in_stmt t) = Unit {0}
holds_stmt (in_pat t) = ⊥

abbrev pub holds_pat : Placed → Type 0
holds_pat (in_expr t) = ⊥
holds_pat (in_stmt t) = ⊥
holds_pat (in_pat t) = Unit {0}

-- what contracts see of a part
abbrev pub part_tree : PartKind → Placed
part_tree (PartKind.Expr t) = in_expr t
part_tree (PartKind.Stmt t) = in_stmt t
part_tree (PartKind.Pat t) = in_pat t

-- a place is larger than the tree in it
abbrev pub placed_size : Placed → ℕ
placed_size p = tree_size (inner p) + 1

-- the code of a tree and its place
abbrev pub sort_of : Placed → Tree ⊎ (Tree ⊎ Tree)
sort_of (in_expr t) = inl t
sort_of (in_stmt t) = inr (inl t)
sort_of (in_pat t) = inr (inr t)

abbrev pub placed_of : Tree ⊎ (Tree ⊎ Tree) → Placed
placed_of (inl t) = in_expr t
placed_of (inr (inl t)) = in_stmt t
placed_of (inr (inr t)) = in_pat t

pub placed_back : (p : Placed) → placed_of (sort_of p) ≡ p
placed_back (in_expr t) = refl
placed_back (in_stmt t) = refl
placed_back (in_pat t) = refl

abbrev pub placed_code : Coded Placed
placed_code = code_by (Tree ⊎ (Tree ⊎ Tree)) (coded⊎ tree_code (coded⊎ tree_code tree_code)) sort_of placed_of placed_back
