-- Expressions refined to patterns (ECMA-262, 13.15.5 and 15.3.1): a cover is read as an expression first.
use Rattle.std.specs.Prelude.{ℕ, Bool, true, false, not, ◌&&◌, ◌||◌, ◌==◌, if◌then◌else◌, List, [], ◌∷◌, Some, None, Result, Ok}
use Rattle.tree_spec.specs.Span.{Span}
use Rattle.tree_spec.specs.Kinds.{assign_kind}
use Rattle.tree_spec.specs.Tree.{Tree, Trees, none, more, array_lit, object_lit, assign_expr, ident, member_expr, super_prop_expr, paren_expr, opt_chain_expr, expr_or_spread, spread_element, key_value_prop, assign_prop, binding_ident, array_pat, object_pat, assign_pat, rest_pat, key_value_pat_prop, assign_pat_prop, expr_pat, invalid_target, hole, absent}
use Rattle.grammar_spec.specs.Tokens.Input.{dots_at}
use Rattle.grammar_spec.specs.Tokens.Shape.{is_simple, is_target_expr, is_structured}
use Rattle.grammar_spec.specs.Reader.Source.{Fault, unfit, ◌>>=◌}

abbrev pub has : ℕ → List ℕ → Bool
has n [] = false
has n (x ∷ xs) = (x == n) || has n xs

-- whether a pattern that assigns has names alone, so that it binds as well
abbrev mutual
  pub binds_names : Tree → Bool
  binds_names (binding_ident s i) = true
  binds_names (array_pat s xs) = all_bind xs
  binds_names (object_pat s ps) = all_bind ps
  binds_names (assign_pat s p e) = binds_names p
  binds_names (rest_pat s d p) = binds_names p
  binds_names (key_value_pat_prop s k p) = binds_names p
  binds_names (assign_pat_prop s k e) = true
  binds_names hole = true
  binds_names _ = false

  pub all_bind : Trees → Bool
  all_bind none = true
  all_bind (more t ts) = binds_names t && all_bind ts

abbrev pub if_binds : Bool → Tree → Result Tree Fault
if_binds binds p = if not binds || binds_names p then Ok p else unfit

-- a pattern with an initialiser; a chain is no target (13.15.1)
abbrev pub initialised : Bool → Span → Tree → Tree → Result Tree Fault
initialised binds s (member_expr t o k) e = if binds then unfit else Ok (assign_pat s (expr_pat (member_expr t o k)) e)
initialised binds s (super_prop_expr t o k) e = if binds then unfit else Ok (assign_pat s (expr_pat (super_prop_expr t o k)) e)
initialised binds s (paren_expr t x) e = if binds then unfit else Ok (assign_pat s (expr_pat (paren_expr t x)) e)
initialised binds s (opt_chain_expr t q x) e = unfit
initialised binds s (invalid_target t) e = unfit
initialised binds s p e = if_binds binds p >>= λ q. Ok (assign_pat s q e)

abbrev pub rest_of : Span → Tree → Result Tree Fault
rest_of s (assign_pat t p e) = unfit
rest_of s p = Ok (rest_pat s (dots_at s.lo.0) p)

abbrev pub is_rest_item : Tree → Bool
is_rest_item (expr_or_spread s (Some d) e) = true
is_rest_item (spread_element s e) = true
is_rest_item _ = false

-- a property that is a name alone is its own key
abbrev pub as_prop : Bool → Tree → Result Tree Fault → Result Tree Fault
as_prop true (ident s n) p = Ok (assign_pat_prop s (binding_ident s (ident s n)) absent)
as_prop _ x p = p

-- whether a rest stands last
abbrev pub last_rests : List Tree → Bool
last_rests [] = false
last_rests (x ∷ []) = is_rest_item x
last_rests (x ∷ (y ∷ ys)) = last_rests (y ∷ ys)

-- `commas` has the starts of the arrays and objects in which a comma follows a last spread.
abbrev mutual
  -- an item: what binds or is assigned to, with an initialiser or without; an element; a property
  pub to_item : Bool → List ℕ → Tree → Result Tree Fault
  to_item binds commas (ident s n) = Ok (binding_ident s (ident s n))
  to_item binds commas (array_lit s xs) = if has s.lo.0 commas then unfit else (to_items false binds commas xs >>= λ ps. Ok (array_pat s ps))
  to_item binds commas (object_lit s xs) = if has s.lo.0 commas then unfit else (to_items true binds commas xs >>= λ ps. Ok (object_pat s ps))
  to_item binds commas (assign_expr s op p e) = if op == assign_kind then initialised binds s p e else unfit
  to_item binds commas (member_expr s o k) = if binds then unfit else Ok (expr_pat (member_expr s o k))
  to_item binds commas (super_prop_expr s o k) = if binds then unfit else Ok (expr_pat (super_prop_expr s o k))
  to_item binds commas (paren_expr s e) = if not binds && is_simple e then Ok (expr_pat (paren_expr s e)) else unfit
  to_item binds commas (expr_or_spread s None e) = to_item binds commas e
  to_item binds commas (expr_or_spread s (Some d) e) = to_item binds commas e >>= λ p. rest_of s p
  to_item binds commas (spread_element s e) = to_item binds commas e >>= λ p. if is_structured p then unfit else rest_of s p
  to_item binds commas (assign_prop s (ident t n) e) = Ok (assign_pat_prop s (binding_ident t (ident t n)) e)
  to_item binds commas (key_value_prop s k v) = to_item binds commas v >>= λ p. Ok (key_value_pat_prop s k p)
  to_item binds commas hole = Ok hole
  to_item binds commas _ = unfit

  -- the items of an array, or the properties of an object, of which a rest stands last
  pub to_items : Bool → Bool → List ℕ → Trees → Result Trees Fault
  to_items props binds commas none = Ok none
  to_items props binds commas (more x none) = as_prop props x (to_item binds commas x) >>= λ p. Ok (more p none)
  to_items props binds commas (more x (more y ys)) = if is_rest_item x then unfit else (as_prop props x (to_item binds commas x) >>= λ p. to_items props binds commas (more y ys) >>= λ ps. Ok (more p ps))

-- the target of an assignment: a simple one, or with `=` a pattern
abbrev pub to_target : ℕ → List ℕ → Tree → Result Tree Fault
to_target op commas (ident s n) = Ok (binding_ident s (ident s n))
to_target op commas (array_lit s xs) = if op == assign_kind then to_item false commas (array_lit s xs) else unfit
to_target op commas (object_lit s xs) = if op == assign_kind then to_item false commas (object_lit s xs) else unfit
to_target op commas t = if is_target_expr t && is_simple t then Ok t else unfit

-- what heads a `for`-`in` or `for`-`of`
abbrev pub to_head : List ℕ → Tree → Result Tree Fault
to_head commas (assign_expr s op p e) = unfit
to_head commas t = to_item false commas t
