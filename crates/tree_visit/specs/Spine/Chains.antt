-- Chains that may be as long as the text: what goes on from its left part. A link is a binary expression (ECMA-262, 13.5 to 13.13),
-- a member, a call, a tagged template (13.3) or an optional chain with the member or the call that it is (13.3.9).
use Rattle.std.specs.Prelude.{ℕ, zero, suc, Bool, true, false, not, if◌then◌else◌, ◌≡◌}
use Rattle.tree_spec.specs.Tree.{Tree, bin_expr, member_expr, call_expr, tagged_tpl, opt_chain_expr, opt_call, super, import}

-- `super` and `import`, which are no expressions and stand before a call's arguments
abbrev pub is_head_word : Tree → Bool
is_head_word (super _) = true
is_head_word (import _) = true
is_head_word _ = false

-- the member or the call that an optional chain is, and what it goes on from; of any other tree, what is given
abbrev pub is_base : Tree → Bool
is_base (member_expr _ _ _) = true
is_base (opt_call _ _ _) = true
is_base _ = false

abbrev pub base_left : Tree → Tree → Tree
base_left (member_expr _ obj _) t = obj
base_left (opt_call _ callee _) t = callee
base_left _ t = t

abbrev pub is_link : Tree → Bool
is_link (bin_expr _ _ _ _) = true
is_link (member_expr _ _ _) = true
is_link (call_expr _ callee _) = not (is_head_word callee)
is_link (tagged_tpl _ _ _) = true
is_link (opt_chain_expr _ _ base) = is_base base
is_link _ = false

-- what a link goes on from; any other tree is its own
abbrev pub left_part : Tree → Tree
left_part (bin_expr _ _ left _) = left
left_part (member_expr _ obj _) = obj
left_part (call_expr span callee args) = if is_head_word callee then call_expr span callee args else callee
left_part (tagged_tpl _ tag _) = tag
left_part (opt_chain_expr span optional base) = base_left base (opt_chain_expr span optional base)
left_part t = t

-- the tree so many left parts down
unfoldable pub below : ℕ → Tree → Tree
below zero t = t
below (suc n) t = left_part (below n t)

-- that each of so many trees is a link
unfoldable pub Linked : ℕ → Tree → Type 0
Linked zero t = Unit {0}
Linked (suc n) t = Linked n t × is_link (below n t) ≡ true
