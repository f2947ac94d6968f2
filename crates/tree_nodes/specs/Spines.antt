-- Chains that may be as long as the text: left operands of binary expressions (ECMA-262, 13.5 to 13.13), and alternatives of `if`
-- statements (14.6).
use Rattle.std.specs.Prelude.{ℕ, zero, suc, Bool, true, false, not, if◌then◌else◌, ◌≡◌}
use Rattle.tree_spec.specs.Tree.{Tree, absent, bin_expr, if_stmt}

-- the operands of a binary expression
abbrev pub left_operand : Tree → Tree
left_operand (bin_expr _ _ l _) = l
left_operand t = t

abbrev pub right_operand : Tree → Tree
right_operand (bin_expr _ _ _ r) = r
right_operand t = t

abbrev pub is_binary : Tree → Bool
is_binary (bin_expr _ _ _ _) = true
is_binary _ = false

-- the tree so many left operands down
unfoldable pub below : ℕ → Tree → Tree
below zero t = t
below (suc n) t = left_operand (below n t)

-- that each of so many links is a binary expression
unfoldable pub Linked : ℕ → Tree → Type 0
Linked zero t = Unit {0}
Linked (suc n) t = Linked n t × is_binary (below n t) ≡ true

abbrev pub is_absent : Tree → Bool
is_absent absent = true
is_absent _ = false

-- the alternative of an `if`, where it has one; any other tree is its own
abbrev pub alternative : Tree → Tree
alternative (if_stmt p a b c) = if is_absent c then if_stmt p a b c else c
alternative t = t

abbrev pub has_alternative : Tree → Bool
has_alternative (if_stmt p a b c) = not (is_absent c)
has_alternative _ = false

-- the tree so many alternatives on
unfoldable pub further_on : ℕ → Tree → Tree
further_on zero t = t
further_on (suc n) t = alternative (further_on n t)

-- that each of so many trees is an `if` with an alternative
unfoldable pub Chained : ℕ → Tree → Type 0
Chained zero t = Unit {0}
Chained (suc n) t = Chained n t × has_alternative (further_on n t) ≡ true
