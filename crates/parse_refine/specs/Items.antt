-- The items of a pattern from left to right, and what an item is made of.
use Rattle.std.specs.Prelude.{ℕ, Bool, true, false, not, ◌&&◌, ◌==◌, if◌then◌else◌, List, [], ◌∷◌, ◌++◌, Result, Ok}
use Rattle.tree_spec.specs.Tree.{Tree, Trees, none, more, pack, unpack, ident, array_lit, object_lit, assign_expr, member_expr, super_prop_expr, paren_expr, opt_chain_expr, expr_pat, invalid_target}
use Rattle.base_token.specs.Kinds.{assign_kind}
use Rattle.grammar_spec.specs.Tokens.Shape.{is_simple, is_target_expr}
use Rattle.grammar_spec.specs.Reader.Source.{Fault, unfit, ◌>>=◌}
use Rattle.grammar_spec.specs.Reader.Cover.{to_item, to_items, as_prop, is_rest_item, if_binds, last_rests}
use Rattle.grammar_spec.specs.Reader.Expressions.{Elements, is_read}

-- one item of an object or of an array
unfoldable pub item_by : Bool → Bool → List ℕ → Tree → Result Tree Fault
item_by props binds commas x = as_prop props x (to_item binds commas x)

abbrev pub is_more : Trees → Bool
is_more none = false
is_more (more x xs) = true

-- the items of an array or an object behind those that were made
unfoldable pub items_from : Bool → Bool → List ℕ → List Tree → Trees → Result Trees Fault
items_from props binds commas made none = Ok (pack made)
items_from props binds commas made (more x xs) = if is_more xs && is_rest_item x then unfit else (item_by props binds commas x >>= λ p. items_from props binds commas (made ++ p ∷ []) xs)

-- what an assignment with `=` assigns to, as a pattern
unfoldable pub default_of : Bool → Tree → Result Tree Fault
default_of binds (member_expr s o k) = if binds then unfit else Ok (expr_pat (member_expr s o k))
default_of binds (super_prop_expr s o k) = if binds then unfit else Ok (expr_pat (super_prop_expr s o k))
default_of binds (paren_expr s x) = if binds then unfit else Ok (expr_pat (paren_expr s x))
default_of binds (opt_chain_expr s q x) = unfit
default_of binds (invalid_target s) = unfit
default_of binds p = if_binds binds p

-- what may be a pattern, or part of one, and has no items: a name, an assignment, a target
abbrev pub is_leaf : Tree → Bool
is_leaf (ident s n) = true
is_leaf (assign_expr s op p e) = true
is_leaf (member_expr s o k) = true
is_leaf (super_prop_expr s o k) = true
is_leaf (paren_expr s e) = true
is_leaf _ = false

-- what may be a pattern
abbrev pub is_cover : Tree → Bool
is_cover (array_lit s xs) = true
is_cover (object_lit s xs) = true
is_cover t = is_leaf t

-- what an operator may assign to (13.15.1)
abbrev pub may_be_target : ℕ → Tree → Bool
may_be_target op (ident s n) = true
may_be_target op (array_lit s xs) = op == assign_kind
may_be_target op (object_lit s xs) = op == assign_kind
may_be_target op t = is_target_expr t && is_simple t

-- the elements of a parenthesis as parameters
abbrev pub parameters_of : List ℕ → Elements → Result (List Tree) Fault
parameters_of commas xs = if xs.comma && last_rests xs.items then unfit else (to_items false true commas (pack xs.items) >>= λ ps. Ok (unpack ps))

-- whether each item of an array or an object is read as one that binds, of which a rest stands last
abbrev pub all_told : Bool → List ℕ → Trees → Bool
all_told props commas none = true
all_told props commas (more x xs) = not (is_more xs && is_rest_item x) && (is_read (item_by props true commas x) && all_told props commas xs)
