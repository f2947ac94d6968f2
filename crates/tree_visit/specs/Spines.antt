-- A walk over a chain, link by link. Of expressions each link is entered on the way down; on the way back what stands right of its left
-- part is gone over and the link is left. Of `else if` each is entered and gone over on the way down, but for its alternative, and left on
-- the way back.
use Rattle.std.specs.Prelude.{ℕ, zero, suc}
use Rattle.tree_spec.specs.Tree.{Tree, bin_expr, member_expr, call_expr, tagged_tpl, opt_chain_expr, opt_call, if_stmt}
use Rattle.tree_nodes.specs.Spines.{further_on}
use Rattle.tree_visit.specs.Spine.Chains.{below}
use Rattle.tree_visit.specs.Walk.{Event, entered, left, walk_of, walk_of_all}

-- a link is entered, and of an optional chain the member or the call that it is
abbrev pub entered_link : {S : Type 0} → (Event → S → S) → Tree → S → S
entered_link step (opt_chain_expr span optional base) s = entered step base (entered step (opt_chain_expr span optional base) s)
entered_link step t s = entered step t s

-- of an optional chain what stands right of its left part is gone over, and the member or the call that it is, is left
abbrev pub walk_of_base : {S : Type 0} → (Event → S → S) → Tree → S → S
walk_of_base step (member_expr span obj prop) s = left step (member_expr span obj prop) (walk_of step prop s)
walk_of_base step (opt_call span callee args) s = left step (opt_call span callee args) (walk_of_all step args s)
walk_of_base step t s = s

-- and of any link
abbrev pub walk_of_rest : {S : Type 0} → (Event → S → S) → Tree → S → S
walk_of_rest step (bin_expr _ _ _ right) s = walk_of step right s
walk_of_rest step (member_expr _ _ prop) s = walk_of step prop s
walk_of_rest step (call_expr _ _ args) s = walk_of_all step args s
walk_of_rest step (tagged_tpl _ _ tpl_) s = walk_of step tpl_ s
walk_of_rest step (opt_chain_expr _ _ base) s = walk_of_base step base s
walk_of_rest step t s = s

-- a link is left
abbrev pub left_link : {S : Type 0} → (Event → S → S) → Tree → S → S
left_link step t s = left step t (walk_of_rest step t s)

-- so many links are entered
unfoldable pub entered_links : {S : Type 0} → (Event → S → S) → ℕ → Tree → S → S
entered_links step zero t s = s
entered_links step (suc n) t s = entered_link step (below n t) (entered_links step n t s)

-- so many links are left, the innermost first
unfoldable pub left_links : {S : Type 0} → (Event → S → S) → ℕ → Tree → S → S
left_links step zero t s = s
left_links step (suc n) t s = left_links step n t (left_link step (below n t) s)

-- what is gone over of an `if` before its alternative
abbrev pub before_alternative : {S : Type 0} → (Event → S → S) → Tree → S → S
before_alternative step (if_stmt p a b c) s = walk_of step b (walk_of step a s)
before_alternative step t s = s

-- so many links are entered, each with its test and its consequence
unfoldable pub entered_ifs : {S : Type 0} → (Event → S → S) → ℕ → Tree → S → S
entered_ifs step zero t s = s
entered_ifs step (suc n) t s = before_alternative step (further_on n t) (entered step (further_on n t) (entered_ifs step n t s))

-- so many links are left, the innermost first
unfoldable pub left_ifs : {S : Type 0} → (Event → S → S) → ℕ → Tree → S → S
left_ifs step zero t s = s
left_ifs step (suc n) t s = left_ifs step n t (left step (further_on n t) s)
