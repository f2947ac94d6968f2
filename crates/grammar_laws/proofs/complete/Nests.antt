-- No reading of a tree goes deeper than the tree nests.
use Rattle.std.proofs.Common.{ℕ, suc, ◌+◌, ◌≤◌, max, true, false, arith}
use Rattle.tree_spec.specs.Tree.{Tree, Trees, none, more, script, es_module, import_decl, named_export, export_all, export_decl, export_default_decl, export_default_expr, block_stmt, with_stmt, return_stmt, labeled_stmt, if_stmt, switch_stmt, switch_case, throw_stmt, try_stmt, catch_clause, while_stmt, do_while_stmt, for_stmt, for_in_stmt, for_of_stmt, expr_stmt, class_decl, fn_decl, var_decl, using_decl, var_declarator, function, param, class, constructor, class_method, private_method, class_prop, private_prop, static_block, auto_accessor, ident_name, computed_prop_name, private_name, array_lit, object_lit, fn_expr, unary_expr, update_expr, bin_expr, assign_expr, member_expr, super_prop_expr, cond_expr, call_expr, new_expr, seq_expr, tpl, tagged_tpl, arrow_expr, class_expr, yield_expr, await_expr, paren_expr, opt_chain_expr, opt_call, expr_or_spread, spread_element, key_value_prop, assign_prop, getter_prop, setter_prop, method_prop, array_pat, rest_pat, object_pat, assign_pat, key_value_pat_prop, assign_pat_prop, expr_pat, list, absent, hole}
use Rattle.tree_spec.specs.Folds.{folds}
use Rattle.tree_nesting.specs.Nesting.{nesting, nesting_step, greatest}
use Rattle.grammar_laws.proofs.complete_base.Trees.{reach, reaches}

-- ---- bounds

up : {a d : ℕ} → a ≤ d → suc a ≤ d + 1
up h = omega (arith, h)

over : {a d : ℕ} → a ≤ d → a ≤ d + 1
over h = omega (arith, h)

join : {a b d : ℕ} → a ≤ d → b ≤ d → max a b ≤ d
join h k = omega (arith, h, k)

left : {a x : ℕ} (y : ℕ) → a ≤ x → a ≤ max x y
left y h = omega (arith, h)

right : {a y : ℕ} (x : ℕ) → a ≤ y → a ≤ max x y
right x h = omega (arith, h)

mutual
  pub reach_nests : (t : Tree) → reach t ≤ nesting t
  reach_nests (paren_expr s e) = up (left _ (left _ (reach_nests e)))
  reach_nests (array_lit s xs) = up (left _ (reaches_nest xs))
  reach_nests (expr_or_spread s d e) = over (left _ (left _ (reach_nests e)))
  reach_nests (ident_name s n) = omega arith
  reach_nests (private_name s n) = omega arith
  reach_nests (unary_expr s op a) = up (left _ (left _ (reach_nests a)))
  reach_nests (update_expr s op true a) = up (left _ (left _ (reach_nests a)))
  reach_nests (update_expr s op false a) = over (left _ (left _ (reach_nests a)))
  reach_nests (await_expr s a) = up (left _ (left _ (reach_nests a)))
  reach_nests (cond_expr s a b d) = join (over (left _ (left _ (reach_nests a)))) (up (join (right _ (left _ (left _ (reach_nests b)))) (right _ (right _ (left _ (left _ (reach_nests d)))))))
  reach_nests (seq_expr s xs) = up (left _ (reaches_nest xs))
  reach_nests (computed_prop_name s e) = over (left _ (left _ (reach_nests e)))
  reach_nests (member_expr s o k) = join (left _ (left _ (reach_nests o))) (right _ (up (left _ (left _ (reach_nests k)))))
  reach_nests (call_expr s f xs) = join (left _ (left _ (reach_nests f))) (right _ (up (left _ (reaches_nest xs))))
  reach_nests (new_expr s f xs) = up (join (left _ (left _ (reach_nests f))) (right _ (left _ (left _ (reach_nests xs)))))
  reach_nests (tpl s es qs) = up (left _ (reaches_nest es))
  reach_nests (tagged_tpl s t q) = join (left _ (left _ (reach_nests t))) (right _ (over (left _ (left _ (reach_nests q)))))
  reach_nests (opt_chain_expr s q b) = left _ (left _ (reach_nests b))
  reach_nests (opt_call s f xs) = join (left _ (left _ (reach_nests f))) (right _ (up (left _ (reaches_nest xs))))
  reach_nests (super_prop_expr s o k) = up (right _ (left _ (left _ (reach_nests k))))
  reach_nests (yield_expr s a g) = up (left _ (left _ (reach_nests a)))
  reach_nests (object_lit s ps) = up (left _ (reaches_nest ps))
  reach_nests (key_value_prop s k v) = join (over (left _ (left _ (reach_nests k)))) (over (right _ (left _ (left _ (reach_nests v)))))
  reach_nests (assign_prop s k e) = over (right _ (left _ (left _ (reach_nests e))))
  reach_nests (spread_element s e) = over (left _ (left _ (reach_nests e)))
  reach_nests (assign_expr s op a b) = join (over (left _ (left _ (reach_nests a)))) (up (right _ (left _ (left _ (reach_nests b)))))
  reach_nests (arrow_expr s ps b i) = up (join (left _ (reaches_nest ps)) (right _ (left _ (left _ (reach_nests b)))))
  reach_nests (array_pat s xs) = up (left _ (reaches_nest xs))
  reach_nests (object_pat s ps) = up (left _ (reaches_nest ps))
  reach_nests (assign_pat s a e) = join (over (left _ (left _ (reach_nests a)))) (up (right _ (left _ (left _ (reach_nests e)))))
  reach_nests (rest_pat s d a) = over (left _ (left _ (reach_nests a)))
  reach_nests (key_value_pat_prop s k a) = join (over (left _ (left _ (reach_nests k)))) (over (right _ (left _ (left _ (reach_nests a)))))
  reach_nests (assign_pat_prop s k e) = over (right _ (left _ (left _ (reach_nests e))))
  reach_nests (block_stmt s ss) = up (left _ (reaches_nest ss))
  reach_nests (expr_stmt s e) = up (left _ (left _ (reach_nests e)))
  reach_nests (return_stmt s e) = up (left _ (left _ (reach_nests e)))
  reach_nests (throw_stmt s e) = up (left _ (left _ (reach_nests e)))
  reach_nests (with_stmt s e b) = up (join (left _ (left _ (reach_nests e))) (right _ (left _ (left _ (reach_nests b)))))
  reach_nests (labeled_stmt s l b) = up (join (left _ (left _ (reach_nests l))) (right _ (left _ (left _ (reach_nests b)))))
  reach_nests (while_stmt s t b) = up (join (left _ (left _ (reach_nests t))) (right _ (left _ (left _ (reach_nests b)))))
  reach_nests (do_while_stmt s t b) = up (join (left _ (left _ (reach_nests t))) (right _ (left _ (left _ (reach_nests b)))))
  reach_nests (switch_stmt s e xs) = up (join (left _ (left _ (reach_nests e))) (right _ (left _ (reaches_nest xs))))
  reach_nests (switch_case s t ss) = join (over (left _ (left _ (reach_nests t)))) (over (right _ (left _ (reaches_nest ss))))
  reach_nests (try_stmt s b h f) = up (join (left _ (left _ (reach_nests b))) (join (right _ (left _ (left _ (reach_nests h)))) (right _ (right _ (left _ (left _ (reach_nests f)))))))
  reach_nests (catch_clause s p b) = join (over (left _ (left _ (reach_nests p)))) (over (right _ (left _ (left _ (reach_nests b)))))
  reach_nests (for_stmt s i t u b) = up (join (left _ (left _ (reach_nests i))) (join (right _ (left _ (left _ (reach_nests t)))) (join (right _ (right _ (left _ (left _ (reach_nests u))))) (right _ (right _ (right _ (left _ (left _ (reach_nests b)))))))))
  reach_nests (for_in_stmt s l e b) = up (join (left _ (left _ (reach_nests l))) (join (right _ (left _ (left _ (reach_nests e)))) (right _ (right _ (left _ (left _ (reach_nests b)))))))
  reach_nests (for_of_stmt s w l e b) = up (join (left _ (left _ (reach_nests l))) (join (right _ (left _ (left _ (reach_nests e)))) (right _ (right _ (left _ (left _ (reach_nests b)))))))
  reach_nests (var_decl s k ds) = up (left _ (reaches_nest ds))
  reach_nests (using_decl s w ds) = up (left _ (reaches_nest ds))
  reach_nests (var_declarator s n e) = join (over (left _ (left _ (reach_nests n)))) (over (right _ (left _ (left _ (reach_nests e)))))
  reach_nests (fn_decl s n f) = up (right _ (left _ (left _ (reach_nests f))))
  reach_nests (fn_expr s n f) = up (right _ (left _ (left _ (reach_nests f))))
  reach_nests (class_decl s n k) = up (right _ (left _ (left _ (reach_nests k))))
  reach_nests (class_expr s n k) = up (right _ (left _ (left _ (reach_nests k))))
  reach_nests (function s ps ds b g a) = join (over (left _ (reaches_nest ps))) (over (right _ (right _ (left _ (left _ (reach_nests b))))))
  reach_nests (param s ds a) = over (right _ (left _ (left _ (reach_nests a))))
  reach_nests (class s ds ms k) = up (join (right _ (right _ (left _ (left _ (reach_nests k))))) (right _ (left _ (reaches_nest ms))))
  reach_nests (constructor s k ps b) = join (over (left _ (left _ (reach_nests k)))) (join (over (right _ (left _ (reaches_nest ps)))) (over (right _ (right _ (left _ (left _ (reach_nests b)))))))
  reach_nests (class_method s k f m i) = join (over (left _ (left _ (reach_nests k)))) (over (right _ (left _ (left _ (reach_nests f)))))
  reach_nests (private_method s k f m i) = join (over (left _ (left _ (reach_nests k)))) (over (right _ (left _ (left _ (reach_nests f)))))
  reach_nests (class_prop s k v i ds) = join (over (left _ (left _ (reach_nests k)))) (over (right _ (left _ (left _ (reach_nests v)))))
  reach_nests (private_prop s k v i ds) = join (over (left _ (left _ (reach_nests k)))) (over (right _ (left _ (left _ (reach_nests v)))))
  reach_nests (auto_accessor s k v i ds) = join (over (left _ (left _ (reach_nests k)))) (over (right _ (left _ (left _ (reach_nests v)))))
  reach_nests (static_block s b) = over (left _ (left _ (reach_nests b)))
  reach_nests (method_prop s k f) = join (over (left _ (left _ (reach_nests k)))) (over (right _ (left _ (left _ (reach_nests f)))))
  reach_nests (getter_prop s k b) = join (over (left _ (left _ (reach_nests k)))) (over (right _ (left _ (left _ (reach_nests b)))))
  reach_nests (setter_prop s k p b) = join (over (left _ (left _ (reach_nests k)))) (join (over (right _ (left _ (left _ (reach_nests p))))) (over (right _ (right _ (left _ (left _ (reach_nests b)))))))
  reach_nests (script s ss l) = over (left _ (reaches_nest ss))
  reach_nests (es_module s ss l) = over (left _ (reaches_nest ss))
  reach_nests (import_decl s xs f w) = over (right _ (right _ (left _ (left _ (reach_nests w)))))
  reach_nests (named_export s xs f w) = over (right _ (right _ (left _ (left _ (reach_nests w)))))
  reach_nests (export_all s f w) = over (right _ (left _ (left _ (reach_nests w))))
  reach_nests (export_decl s e) = over (left _ (left _ (reach_nests e)))
  reach_nests (export_default_decl s e) = over (left _ (left _ (reach_nests e)))
  reach_nests (export_default_expr s e) = over (left _ (left _ (reach_nests e)))
  reach_nests (bin_expr s op a b) = join (left _ (left _ (reach_nests a))) (right _ (up (left _ (left _ (reach_nests b)))))
  reach_nests (if_stmt s t a (if_stmt q e b d)) = join (left _ (up (join (left _ (left _ (reach_nests t))) (right _ (left _ (left _ (reach_nests a))))))) (right _ (left _ (left _ (reach_nests (if_stmt q e b d)))))
  reach_nests (if_stmt s t a b) = omega (arith, reach_nests t, reach_nests a, reach_nests b)
  reach_nests (expr_pat e) = left _ (left _ (reach_nests e))
  reach_nests (list xs) = left _ (reaches_nest xs)
  reach_nests absent = omega arith
  reach_nests hole = omega arith
  reach_nests _ = omega arith

  pub reaches_nest : (ts : Trees) → reaches ts ≤ greatest (folds nesting_step ts)
  reaches_nest none = omega arith
  reaches_nest (more t ts) = join (left _ (reach_nests t)) (right _ (reaches_nest ts))
