-- Nesting: how deep a tree goes. Each struct of the tree counts.
use Rattle.std.specs.Prelude.{ℕ, ◌+◌, ◌-◌, ◌^◌, max, min, Bool, true, false, if◌then◌else◌, List, [], ◌∷◌}
use Rattle.tree_nodes.specs.Tree.{Tree, Trees, bin_expr, member_expr, call_expr, tagged_tpl, opt_chain_expr, opt_call, if_stmt, binding_ident, expr_pat, list, absent, hole}
use Rattle.tree_nodes.specs.Folds.{fold, folds}

-- the greatest of some counts, and 0 of none
abbrev pub greatest : List ℕ → ℕ
greatest [] = 0
greatest (n ∷ ns) = max n (greatest ns)

-- the same of the counts of some fields
abbrev pub deepest : List (List ℕ) → ℕ
deepest [] = 0
deepest (ns ∷ fields) = max (greatest ns) (deepest fields)

-- whether a tree is an `if` statement
abbrev pub is_if : Tree → Bool
is_if (if_stmt span test cons alt) = true
is_if t = false

-- what a link of a chain counts, from the counts of its fields: as much as its left part, or one more than the
-- deepest of the others, which is 1 where there are none
abbrev pub linked : List (List ℕ) → ℕ
linked [] = 1
linked (left_count ∷ others) = max (greatest left_count) (deepest others + 1)

-- what a tree counts, from the counts of its fields. A leaf counts 1 and any other struct one more than its
-- deepest child. What a chain goes on from adds nothing: the left operand of a binary operator, the object of a
-- member, the callee of a call and the tag of a template; and an optional chain counts as the member or the call
-- that it is. Nor does an `if` add anything that is the alternative of an `if`. A name as a pattern is a leaf. What
-- is no struct adds nothing.
abbrev pub nesting_step : Tree → List (List ℕ) → ℕ
nesting_step (bin_expr span op left right) fields = linked fields
nesting_step (member_expr span obj prop) fields = linked fields
nesting_step (call_expr span callee args) fields = linked fields
nesting_step (tagged_tpl span tag tpl_) fields = linked fields
nesting_step (opt_call span callee args) fields = linked fields
nesting_step (opt_chain_expr span optional base) fields = deepest fields
nesting_step (if_stmt span test cons alt) (test_count ∷ cons_count ∷ alt_count) = max (deepest (test_count ∷ cons_count ∷ []) + 1) (if is_if alt then deepest alt_count else deepest alt_count + 1)
nesting_step (binding_ident span id) fields = 1
nesting_step (expr_pat e) fields = deepest fields
nesting_step (list ts) fields = deepest fields
nesting_step absent fields = 0
nesting_step hole fields = 0
nesting_step t fields = deepest fields + 1

-- the nesting of a tree
abbrev pub nesting : Tree → ℕ
nesting t = fold nesting_step t

-- the deepest of some trees
abbrev pub nesting_of_all : Trees → ℕ
nesting_of_all ts = greatest (folds nesting_step ts)

-- a count, or the greatest number of 32 bits past that
abbrev pub capped : ℕ → ℕ
capped n = min n (2 ^ 32 - 1)
