-- What a node's rule hands on is smaller than the node, and reaches less deep.
use Rattle.std.proofs.Common.{◌≡◌, ℕ, suc, ◌<◌, ◌≤◌, Bool, true, false, refl, true≢false, sym, arith}
use Rattle.tree_spec.specs.Tree.{Tree, Trees, none, more, block_stmt, empty_stmt, debugger_stmt, with_stmt, return_stmt, labeled_stmt, break_stmt, continue_stmt, if_stmt, switch_stmt, switch_case, throw_stmt, try_stmt, catch_clause, while_stmt, do_while_stmt, for_stmt, for_in_stmt, for_of_stmt, expr_stmt, class_decl, fn_decl, var_decl, using_decl, var_declarator, function, param, class, constructor, class_method, private_method, class_prop, private_prop, static_block, auto_accessor, computed_prop_name, fn_expr, class_expr, assign_pat, rest_pat, method_prop, getter_prop, setter_prop, import_decl, named_export, export_all, export_decl, export_default_decl, export_default_expr, object_lit, key_value_prop}
use Rattle.grammar_laws.proofs.complete_base.Trees.{size, sizes, reach, reaches}
use Rattle.grammar_laws.proofs.complete_rules.Within.{Each, most, ItemIn, item_in, Within, Withins, within, withins}
use Rattle.grammar_laws.proofs.complete_rules.Sources.{Valued, valued, Attributed, attributed, InModule, in_module}

-- a tree of a size below a bound
abbrev pub Small : ℕ → Tree → Type 0
Small z t = size t < z

pub each_small : (z : ℕ) (ts : Trees) → sizes ts < z → Each (Small z) ts
each_small z none h = tt
each_small z (more t ts) h = (omega (arith, h), each_small z ts (omega (arith, h)))

item_small : (z : ℕ) (t : Tree) → size t < z → ItemIn (Small z) t
item_small z (assign_pat s p e) h = (omega (arith, h), omega (arith, h))
item_small z (rest_pat s d p) h = omega (arith, h)
item_small z t h = h

mutual
  pub inward : (z : ℕ) (t : Tree) → size t < suc z → Within (Small z) t
  inward z (block_stmt s ss) h = each_small z ss (omega (arith, h))
  inward z (expr_stmt s e) h = omega (arith, h)
  inward z (return_stmt s e) h = omega (arith, h)
  inward z (throw_stmt s e) h = omega (arith, h)
  inward z (with_stmt s e b) h = (omega (arith, h), omega (arith, h))
  inward z (labeled_stmt s l b) h = (omega (arith, h), omega (arith, h))
  inward z (if_stmt s t a (if_stmt q e b d)) h = (omega (arith, h), omega (arith, h), inward z (if_stmt q e b d) (omega (arith, h)))
  inward z (if_stmt s t a b) h = (omega (arith, h), omega (arith, h), omega (arith, h))
  inward z (while_stmt s t b) h = (omega (arith, h), omega (arith, h))
  inward z (do_while_stmt s t b) h = (omega (arith, h), omega (arith, h))
  inward z (switch_stmt s e xs) h = (omega (arith, h), inwards z xs (omega (arith, h)))
  inward z (switch_case s t ss) h = (omega (arith, h), each_small z ss (omega (arith, h)))
  inward z (try_stmt s b x f) h = (inward z b (omega (arith, h)), inward z x (omega (arith, h)), inward z f (omega (arith, h)))
  inward z (catch_clause s p b) h = (omega (arith, h), inward z b (omega (arith, h)))
  inward z (for_stmt s (var_decl v k ds) t u b) h = (inwards z ds (omega (arith, h)), omega (arith, h), omega (arith, h), omega (arith, h))
  inward z (for_stmt s (using_decl v w ds) t u b) h = (inwards z ds (omega (arith, h)), omega (arith, h), omega (arith, h), omega (arith, h))
  inward z (for_stmt s i t u b) h = (omega (arith, h), omega (arith, h), omega (arith, h), omega (arith, h))
  inward z (for_in_stmt s (var_decl v k ds) e b) h = (inwards z ds (omega (arith, h)), omega (arith, h), omega (arith, h))
  inward z (for_in_stmt s (using_decl v w ds) e b) h = (inwards z ds (omega (arith, h)), omega (arith, h), omega (arith, h))
  inward z (for_in_stmt s a e b) h = (omega (arith, h), omega (arith, h), omega (arith, h))
  inward z (for_of_stmt s w (var_decl v k ds) e b) h = (inwards z ds (omega (arith, h)), omega (arith, h), omega (arith, h))
  inward z (for_of_stmt s w (using_decl v i ds) e b) h = (inwards z ds (omega (arith, h)), omega (arith, h), omega (arith, h))
  inward z (for_of_stmt s w a e b) h = (omega (arith, h), omega (arith, h), omega (arith, h))
  inward z (var_decl s k ds) h = inwards z ds (omega (arith, h))
  inward z (using_decl s w ds) h = inwards z ds (omega (arith, h))
  inward z (var_declarator s n e) h = (omega (arith, h), omega (arith, h))
  inward z (fn_decl s n f) h = inward z f (omega (arith, h))
  inward z (fn_expr s n f) h = inward z f (omega (arith, h))
  inward z (class_decl s n k) h = omega (arith, h)
  inward z (class_expr s n k) h = omega (arith, h)
  inward z (function s ps ds b g a) h = (inwards z ps (omega (arith, h)), omega (arith, h))
  inward z (param s ds a) h = item_small z a (omega (arith, h))
  inward z (class s ds ms k) h = (omega (arith, h), inwards z ms (omega (arith, h)))
  inward z (constructor s k ps b) h = (inward z k (omega (arith, h)), inwards z ps (omega (arith, h)), omega (arith, h))
  inward z (class_method s k f m i) h = (inward z k (omega (arith, h)), inward z f (omega (arith, h)))
  inward z (private_method s k f m i) h = (inward z k (omega (arith, h)), inward z f (omega (arith, h)))
  inward z (class_prop s k v i ds) h = (inward z k (omega (arith, h)), omega (arith, h))
  inward z (private_prop s k v i ds) h = (inward z k (omega (arith, h)), omega (arith, h))
  inward z (auto_accessor s k v i ds) h = (inward z k (omega (arith, h)), omega (arith, h))
  inward z (static_block s b) h = inward z b (omega (arith, h))
  inward z (computed_prop_name s e) h = omega (arith, h)
  inward z (method_prop s k f) h = (inward z k (omega (arith, h)), inward z f (omega (arith, h)))
  inward z (getter_prop s k b) h = (inward z k (omega (arith, h)), omega (arith, h))
  inward z (setter_prop s k p b) h = (inward z k (omega (arith, h)), item_small z p (omega (arith, h)), omega (arith, h))
  inward z _ h = tt

  pub inwards : (z : ℕ) (ts : Trees) → sizes ts < suc z → Withins (Small z) ts
  inwards z none h = tt
  inwards z (more t ts) h = (inward z t (omega (arith, h)), inwards z ts (omega (arith, h)))

-- ---- how deep

pub most_reaches : (ts : Trees) → most reach ts ≤ reaches ts
most_reaches none = omega arith
most_reaches (more t ts) = omega (arith, most_reaches ts)

item_reach : (t : Tree) → item_in reach t ≤ reach t
item_reach (assign_pat s p e) = omega arith
item_reach (rest_pat s d p) = omega arith
item_reach t = omega arith

mutual
  pub within_reach : (t : Tree) → within reach t ≤ reach t
  within_reach (block_stmt s ss) = omega (arith, most_reaches ss)
  within_reach (expr_stmt s e) = omega arith
  within_reach (return_stmt s e) = omega arith
  within_reach (throw_stmt s e) = omega arith
  within_reach (with_stmt s e b) = omega arith
  within_reach (labeled_stmt s l b) = omega arith
  within_reach (if_stmt s t a (if_stmt q e b d)) = omega (arith, within_reach (if_stmt q e b d))
  within_reach (if_stmt s t a b) = omega arith
  within_reach (while_stmt s t b) = omega arith
  within_reach (do_while_stmt s t b) = omega arith
  within_reach (switch_stmt s e xs) = omega (arith, withins_reach xs)
  within_reach (switch_case s t ss) = omega (arith, most_reaches ss)
  within_reach (try_stmt s b x f) = omega (arith, within_reach b, within_reach x, within_reach f)
  within_reach (catch_clause s p b) = omega (arith, within_reach b)
  within_reach (for_stmt s (var_decl v k ds) t u b) = omega (arith, withins_reach ds)
  within_reach (for_stmt s (using_decl v w ds) t u b) = omega (arith, withins_reach ds)
  within_reach (for_stmt s i t u b) = omega arith
  within_reach (for_in_stmt s (var_decl v k ds) e b) = omega (arith, withins_reach ds)
  within_reach (for_in_stmt s (using_decl v w ds) e b) = omega (arith, withins_reach ds)
  within_reach (for_in_stmt s a e b) = omega arith
  within_reach (for_of_stmt s w (var_decl v k ds) e b) = omega (arith, withins_reach ds)
  within_reach (for_of_stmt s w (using_decl v i ds) e b) = omega (arith, withins_reach ds)
  within_reach (for_of_stmt s w a e b) = omega arith
  within_reach (var_decl s k ds) = omega (arith, withins_reach ds)
  within_reach (using_decl s w ds) = omega (arith, withins_reach ds)
  within_reach (var_declarator s n e) = omega arith
  within_reach (fn_decl s n f) = omega (arith, within_reach f)
  within_reach (fn_expr s n f) = omega (arith, within_reach f)
  within_reach (class_decl s n k) = omega arith
  within_reach (class_expr s n k) = omega arith
  within_reach (function s ps ds b g a) = omega (arith, withins_reach ps)
  within_reach (param s ds a) = item_reach a
  within_reach (class s ds ms k) = omega (arith, withins_reach ms)
  within_reach (constructor s k ps b) = omega (arith, within_reach k, withins_reach ps)
  within_reach (class_method s k f m i) = omega (arith, within_reach k, within_reach f)
  within_reach (private_method s k f m i) = omega (arith, within_reach k, within_reach f)
  within_reach (class_prop s k v i ds) = omega (arith, within_reach k)
  within_reach (private_prop s k v i ds) = omega (arith, within_reach k)
  within_reach (auto_accessor s k v i ds) = omega (arith, within_reach k)
  within_reach (static_block s b) = omega (arith, within_reach b)
  within_reach (computed_prop_name s e) = omega arith
  within_reach (method_prop s k f) = omega (arith, within_reach k, within_reach f)
  within_reach (getter_prop s k b) = omega (arith, within_reach k)
  within_reach (setter_prop s k p b) = omega (arith, within_reach k, item_reach p)
  within_reach _ = omega arith

  pub withins_reach : (ts : Trees) → withins reach ts ≤ reaches ts
  withins_reach none = omega arith
  withins_reach (more t ts) = omega (arith, within_reach t, withins_reach ts)

-- A node that a reader of its own reads reaches one call deeper than what its rule hands on.
abbrev pub is_called : Tree → Bool
is_called (block_stmt s ss) = true
is_called (empty_stmt s) = true
is_called (debugger_stmt s) = true
is_called (with_stmt s e b) = true
is_called (return_stmt s e) = true
is_called (labeled_stmt s l b) = true
is_called (break_stmt s l) = true
is_called (continue_stmt s l) = true
is_called (if_stmt s t a b) = true
is_called (switch_stmt s e xs) = true
is_called (throw_stmt s e) = true
is_called (try_stmt s b x f) = true
is_called (while_stmt s t b) = true
is_called (do_while_stmt s t b) = true
is_called (for_stmt s i t u b) = true
is_called (for_in_stmt s l e b) = true
is_called (for_of_stmt s w l e b) = true
is_called (expr_stmt s e) = true
is_called (class_decl s n k) = true
is_called (fn_decl s n f) = true
is_called (var_decl s k ds) = true
is_called (using_decl s w ds) = true
is_called (fn_expr s n f) = true
is_called (class_expr s n k) = true
is_called (class s ds ms k) = true
is_called _ = false

pub called_reach : (t : Tree) → is_called t ≡ true → within reach t < reach t
called_reach (block_stmt s ss) h = omega (arith, most_reaches ss)
called_reach (empty_stmt s) h = omega arith
called_reach (debugger_stmt s) h = omega arith
called_reach (break_stmt s l) h = omega arith
called_reach (continue_stmt s l) h = omega arith
called_reach (expr_stmt s e) h = omega arith
called_reach (return_stmt s e) h = omega arith
called_reach (throw_stmt s e) h = omega arith
called_reach (with_stmt s e b) h = omega arith
called_reach (labeled_stmt s l b) h = omega arith
called_reach (if_stmt s t a (if_stmt q e b d)) h = omega (arith, called_reach (if_stmt q e b d) refl)
called_reach (if_stmt s t a b) h = omega arith
called_reach (while_stmt s t b) h = omega arith
called_reach (do_while_stmt s t b) h = omega arith
called_reach (switch_stmt s e xs) h = omega (arith, withins_reach xs)
called_reach (try_stmt s b x f) h = omega (arith, within_reach b, within_reach x, within_reach f)
called_reach (for_stmt s (var_decl v k ds) t u b) h = omega (arith, withins_reach ds)
called_reach (for_stmt s (using_decl v w ds) t u b) h = omega (arith, withins_reach ds)
called_reach (for_stmt s i t u b) h = omega arith
called_reach (for_in_stmt s (var_decl v k ds) e b) h = omega (arith, withins_reach ds)
called_reach (for_in_stmt s (using_decl v w ds) e b) h = omega (arith, withins_reach ds)
called_reach (for_in_stmt s a e b) h = omega arith
called_reach (for_of_stmt s w (var_decl v k ds) e b) h = omega (arith, withins_reach ds)
called_reach (for_of_stmt s w (using_decl v i ds) e b) h = omega (arith, withins_reach ds)
called_reach (for_of_stmt s w a e b) h = omega arith
called_reach (class_decl s n k) h = omega arith
called_reach (fn_decl s n f) h = omega (arith, within_reach f)
called_reach (var_decl s k ds) h = omega (arith, withins_reach ds)
called_reach (using_decl s w ds) h = omega (arith, withins_reach ds)
called_reach (fn_expr s n f) h = omega (arith, within_reach f)
called_reach (class_expr s n k) h = omega arith
called_reach (class s ds ms k) h = omega (arith, withins_reach ms)
called_reach _ h = absurd (true≢false (sym h))

-- ---- items of modules

valued_small : (z : ℕ) (ps : Trees) → sizes ps < z → Valued (Small z) ps
valued_small z none h = tt
valued_small z (more (key_value_prop s k v) ps) h = (omega (arith, h), valued_small z ps (omega (arith, h)))
valued_small z (more _ ps) h = tt

attributed_small : (z : ℕ) (t : Tree) → size t < z → Attributed (Small z) t
attributed_small z (object_lit s ps) h = valued_small z ps (omega (arith, h))
attributed_small z _ h = tt

module_small : (z : ℕ) (t : Tree) → size t < z → InModule (Small z) t
module_small z (import_decl s xs f w) h = attributed_small z w (omega (arith, h))
module_small z (named_export s xs f w) h = attributed_small z w (omega (arith, h))
module_small z (export_all s f w) h = attributed_small z w (omega (arith, h))
module_small z (export_decl s e) h = omega (arith, h)
module_small z (export_default_decl s e) h = inward z e (omega (arith, h))
module_small z (export_default_expr s e) h = omega (arith, h)
module_small z t h = h

pub items_small : (z : ℕ) (ts : Trees) → sizes ts < z → Each (InModule (Small z)) ts
items_small z none h = tt
items_small z (more t ts) h = (module_small z t (omega (arith, h)), items_small z ts (omega (arith, h)))

valued_reach : (ps : Trees) → valued reach ps ≤ reaches ps
valued_reach none = omega arith
valued_reach (more (key_value_prop s k v) ps) = omega (arith, valued_reach ps)
valued_reach (more _ ps) = omega arith

attributed_reach : (t : Tree) → attributed reach t ≤ reach t
attributed_reach (object_lit s ps) = omega (arith, valued_reach ps)
attributed_reach _ = omega arith

module_reach : (t : Tree) → in_module reach t ≤ reach t
module_reach (import_decl s xs f w) = omega (arith, attributed_reach w)
module_reach (named_export s xs f w) = omega (arith, attributed_reach w)
module_reach (export_all s f w) = omega (arith, attributed_reach w)
module_reach (export_decl s e) = omega arith
module_reach (export_default_decl s e) = omega (arith, within_reach e)
module_reach (export_default_expr s e) = omega arith
module_reach t = omega arith

pub items_reach : (ts : Trees) → most (in_module reach) ts ≤ reaches ts
items_reach none = omega arith
items_reach (more t ts) = omega (arith, module_reach t, items_reach ts)
