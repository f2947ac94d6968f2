-- How deep a tree goes where each member, call, tag and optional chain is a level: a count that is never less.
use Rattle.std.specs.Prelude.{ℕ, ◌+◌, ◌≤◌, max, if◌then◌else◌, List, [], ◌∷◌}
use Rattle.tree_nodes.specs.Tree.{Tree, bin_expr, if_stmt, binding_ident, expr_pat, list, absent, hole}
use Rattle.tree_nodes.specs.Folds.{fold}
use Rattle.tree_nesting.specs.Nesting.{deepest, linked, is_if, nesting}

-- what a tree counts so, from the counts of its fields
abbrev pub levels_step : Tree → List (List ℕ) → ℕ
levels_step (bin_expr span op left right) fields = linked fields
levels_step (if_stmt span test cons alt) (test_count ∷ cons_count ∷ alt_count) = max (deepest (test_count ∷ cons_count ∷ []) + 1) (if is_if alt then deepest alt_count else deepest alt_count + 1)
levels_step (binding_ident span id) fields = 1
levels_step (expr_pat e) fields = deepest fields
levels_step (list ts) fields = deepest fields
levels_step absent fields = 0
levels_step hole fields = 0
levels_step t fields = deepest fields + 1

-- the levels of a tree
abbrev pub levels : Tree → ℕ
levels t = fold levels_step t

-- A tree nests no deeper than it has levels, so what is within a limit of levels is within that limit of nesting.
abbrev pub NestsWithinLevels : Type 0
NestsWithinLevels = (t : Tree) → nesting t ≤ levels t
