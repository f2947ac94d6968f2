-- What the rule for a node asks of the readers of nested parts: that these are covered, and how deep they reach.
use Rattle.std.proofs.Common.{ℕ, max, Bool, true, false}
use Rattle.tree_spec.specs.Tree.{Tree, Trees, none, more, block_stmt, with_stmt, return_stmt, labeled_stmt, if_stmt, switch_stmt, switch_case, throw_stmt, try_stmt, catch_clause, while_stmt, do_while_stmt, for_stmt, for_in_stmt, for_of_stmt, expr_stmt, class_decl, fn_decl, var_decl, using_decl, var_declarator, function, param, class, constructor, class_method, private_method, class_prop, private_prop, static_block, auto_accessor, computed_prop_name, fn_expr, class_expr, assign_pat, rest_pat, method_prop, getter_prop, setter_prop}

-- each tree of a list is covered
abbrev pub Each : (Tree → Type 0) → Trees → Type 0
Each G none = Unit {0}
Each G (more t ts) = G t × Each G ts

-- how deep a list of trees reaches
abbrev pub most : (Tree → ℕ) → Trees → ℕ
most R none = 0
most R (more t ts) = max (R t) (most R ts)

-- a pattern with an initialiser or without, or a rest
abbrev pub ItemIn : (Tree → Type 0) → Tree → Type 0
ItemIn G (assign_pat s p e) = G p × G e
ItemIn G (rest_pat s d p) = G p
ItemIn G p = G p

abbrev pub item_in : (Tree → ℕ) → Tree → ℕ
item_in R (assign_pat s p e) = max (R p) (R e)
item_in R (rest_pat s d p) = R p
item_in R p = R p

abbrev pub is_if : Tree → Bool
is_if (if_stmt s t a b) = true
is_if _ = false

-- the parts of a node that its rule hands to the readers of nested parts are covered
abbrev mutual
  pub Within : (Tree → Type 0) → Tree → Type 0
  Within G (block_stmt s ss) = Each G ss
  Within G (expr_stmt s e) = G e
  Within G (return_stmt s e) = G e
  Within G (throw_stmt s e) = G e
  Within G (with_stmt s e b) = G e × G b
  Within G (labeled_stmt s l b) = G l × G b
  Within G (if_stmt s t a (if_stmt q e b d)) = G t × G a × Within G (if_stmt q e b d)
  Within G (if_stmt s t a b) = G t × G a × G b
  Within G (while_stmt s t b) = G t × G b
  Within G (do_while_stmt s t b) = G t × G b
  Within G (switch_stmt s e xs) = G e × Withins G xs
  Within G (switch_case s t ss) = G t × Each G ss
  Within G (try_stmt s b h f) = Within G b × Within G h × Within G f
  Within G (catch_clause s p b) = G p × Within G b
  Within G (for_stmt s (var_decl v k ds) t u b) = Withins G ds × G t × G u × G b
  Within G (for_stmt s (using_decl v w ds) t u b) = Withins G ds × G t × G u × G b
  Within G (for_stmt s i t u b) = G i × G t × G u × G b
  Within G (for_in_stmt s (var_decl v k ds) e b) = Withins G ds × G e × G b
  Within G (for_in_stmt s (using_decl v w ds) e b) = Withins G ds × G e × G b
  Within G (for_in_stmt s a e b) = G a × G e × G b
  Within G (for_of_stmt s w (var_decl v k ds) e b) = Withins G ds × G e × G b
  Within G (for_of_stmt s w (using_decl v i ds) e b) = Withins G ds × G e × G b
  Within G (for_of_stmt s w a e b) = G a × G e × G b
  Within G (var_decl s k ds) = Withins G ds
  Within G (using_decl s w ds) = Withins G ds
  Within G (var_declarator s n e) = G n × G e
  Within G (fn_decl s n f) = Within G f
  Within G (fn_expr s n f) = Within G f
  Within G (class_decl s n k) = G k
  Within G (class_expr s n k) = G k
  Within G (function s ps ds b g a) = Withins G ps × G b
  Within G (param s ds a) = ItemIn G a
  Within G (class s ds ms k) = G k × Withins G ms
  Within G (constructor s k ps b) = Within G k × Withins G ps × G b
  Within G (class_method s k f m i) = Within G k × Within G f
  Within G (private_method s k f m i) = Within G k × Within G f
  Within G (class_prop s k v i ds) = Within G k × G v
  Within G (private_prop s k v i ds) = Within G k × G v
  Within G (auto_accessor s k v i ds) = Within G k × G v
  Within G (static_block s b) = Within G b
  Within G (computed_prop_name s e) = G e
  Within G (method_prop s k f) = Within G k × Within G f
  Within G (getter_prop s k b) = Within G k × G b
  Within G (setter_prop s k p b) = Within G k × ItemIn G p × G b
  Within G _ = Unit {0}

  pub Withins : (Tree → Type 0) → Trees → Type 0
  Withins G none = Unit {0}
  Withins G (more t ts) = Within G t × Withins G ts

-- how deep these parts reach
abbrev mutual
  pub within : (Tree → ℕ) → Tree → ℕ
  within R (block_stmt s ss) = most R ss
  within R (expr_stmt s e) = R e
  within R (return_stmt s e) = R e
  within R (throw_stmt s e) = R e
  within R (with_stmt s e b) = max (R e) (R b)
  within R (labeled_stmt s l b) = max (R l) (R b)
  within R (if_stmt s t a (if_stmt q e b d)) = max (max (R t) (R a)) (within R (if_stmt q e b d))
  within R (if_stmt s t a b) = max (R t) (max (R a) (R b))
  within R (while_stmt s t b) = max (R t) (R b)
  within R (do_while_stmt s t b) = max (R t) (R b)
  within R (switch_stmt s e xs) = max (R e) (withins R xs)
  within R (switch_case s t ss) = max (R t) (most R ss)
  within R (try_stmt s b h f) = max (within R b) (max (within R h) (within R f))
  within R (catch_clause s p b) = max (R p) (within R b)
  within R (for_stmt s (var_decl v k ds) t u b) = max (withins R ds) (max (R t) (max (R u) (R b)))
  within R (for_stmt s (using_decl v w ds) t u b) = max (withins R ds) (max (R t) (max (R u) (R b)))
  within R (for_stmt s i t u b) = max (R i) (max (R t) (max (R u) (R b)))
  within R (for_in_stmt s (var_decl v k ds) e b) = max (withins R ds) (max (R e) (R b))
  within R (for_in_stmt s (using_decl v w ds) e b) = max (withins R ds) (max (R e) (R b))
  within R (for_in_stmt s a e b) = max (R a) (max (R e) (R b))
  within R (for_of_stmt s w (var_decl v k ds) e b) = max (withins R ds) (max (R e) (R b))
  within R (for_of_stmt s w (using_decl v i ds) e b) = max (withins R ds) (max (R e) (R b))
  within R (for_of_stmt s w a e b) = max (R a) (max (R e) (R b))
  within R (var_decl s k ds) = withins R ds
  within R (using_decl s w ds) = withins R ds
  within R (var_declarator s n e) = max (R n) (R e)
  within R (fn_decl s n f) = within R f
  within R (fn_expr s n f) = within R f
  within R (class_decl s n k) = R k
  within R (class_expr s n k) = R k
  within R (function s ps ds b g a) = max (withins R ps) (R b)
  within R (param s ds a) = item_in R a
  within R (class s ds ms k) = max (R k) (withins R ms)
  within R (constructor s k ps b) = max (within R k) (max (withins R ps) (R b))
  within R (class_method s k f m i) = max (within R k) (within R f)
  within R (private_method s k f m i) = max (within R k) (within R f)
  within R (class_prop s k v i ds) = max (within R k) (R v)
  within R (private_prop s k v i ds) = max (within R k) (R v)
  within R (auto_accessor s k v i ds) = max (within R k) (R v)
  within R (static_block s b) = within R b
  within R (computed_prop_name s e) = R e
  within R (method_prop s k f) = max (within R k) (within R f)
  within R (getter_prop s k b) = max (within R k) (R b)
  within R (setter_prop s k p b) = max (within R k) (max (item_in R p) (R b))
  within R _ = 0

  pub withins : (Tree → ℕ) → Trees → ℕ
  withins R none = 0
  withins R (more t ts) = max (within R t) (withins R ts)
