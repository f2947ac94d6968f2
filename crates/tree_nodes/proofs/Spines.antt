-- Laws of chains of left operands.
use Rattle.std.proofs.Common.{◌≡◌, ◌+◌, ◌*◌, ◌-◌, ◌≤◌, ◌<◌, ℕ, zero, suc, Bool, true, false, not, if◌then◌else◌, refl, sym, ap, ◌∙◌, arith, subst, max}
use Rattle.tree_spec.specs.Tree.{Tree, script, es_module, import_decl, export_decl, named_export, export_default_decl, export_default_expr, export_all, import_named_specifier, import_default_specifier, import_star_as_specifier, export_namespace_specifier, export_default_specifier, export_named_specifier, block_stmt, empty_stmt, debugger_stmt, with_stmt, return_stmt, labeled_stmt, break_stmt, continue_stmt, if_stmt, switch_stmt, switch_case, throw_stmt, try_stmt, catch_clause, while_stmt, do_while_stmt, for_stmt, for_in_stmt, for_of_stmt, expr_stmt, class_decl, fn_decl, var_decl, using_decl, var_declarator, function, param, decorator, class, constructor, class_method, private_method, class_prop, private_prop, static_block, auto_accessor, ident_name, computed_prop_name, private_name, this_expr, array_lit, object_lit, fn_expr, unary_expr, update_expr, bin_expr, assign_expr, member_expr, super_prop_expr, cond_expr, call_expr, new_expr, seq_expr, ident, tpl, tpl_element, tagged_tpl, arrow_expr, class_expr, yield_expr, meta_prop_expr, await_expr, paren_expr, opt_chain_expr, opt_call, super, import, invalid, expr_or_spread, spread_element, key_value_prop, assign_prop, getter_prop, setter_prop, method_prop, str_lit, bool_lit, null_lit, number_lit, big_int_lit, regex_lit, binding_ident, array_pat, rest_pat, object_pat, assign_pat, key_value_pat_prop, assign_pat_prop, expr_pat, invalid_pat, invalid_target, list, absent, hole}
use Rattle.tree_spec.specs.Codes.{tree_size}
use Rattle.tree_nodes.specs.View.{view_lit}
use Rattle.tree_nodes.specs.declared.literals.Lit.{Lit}
use Rattle.tree_nodes.specs.declared.literals.Lit.TheVariants as Lit
use Rattle.tree_nodes.specs.View.{view_decl}
use Rattle.tree_nodes.specs.declared.declarations.DeclOf.{DeclOf}
use Rattle.tree_nodes.specs.declared.declarations.DeclOf.TheVariants as Decl
use Rattle.tree_nodes.specs.Spines.{Chained, Linked, alternative, below, further_on, has_alternative, is_absent, is_binary, left_operand, right_operand}

no : {A : Type 0} → false ≡ true → A
no h = absurd (let e : false ≡ true = h in cc)

-- no literal is a link
pub literal_stays : (l : Lit) → left_operand (view_lit l) ≡ view_lit l
literal_stays (Lit.Str x) = refl
literal_stays (Lit.Bool x) = refl
literal_stays (Lit.Null x) = refl
literal_stays (Lit.Num x) = refl
literal_stays (Lit.BigInt x) = refl
literal_stays (Lit.Regex x) = refl

pub literal_is_none : (l : Lit) → is_binary (view_lit l) ≡ false
literal_is_none (Lit.Str x) = refl
literal_is_none (Lit.Bool x) = refl
literal_is_none (Lit.Null x) = refl
literal_is_none (Lit.Num x) = refl
literal_is_none (Lit.BigInt x) = refl
literal_is_none (Lit.Regex x) = refl

-- a link is larger than its operands
pub parts : (t : Tree) → is_binary t ≡ true → (tree_size (left_operand t) + tree_size (right_operand t) + 2 ≤ tree_size t)
parts (script _ _ _) h = no h
parts (es_module _ _ _) h = no h
parts (import_decl _ _ _ _) h = no h
parts (export_decl _ _) h = no h
parts (named_export _ _ _ _) h = no h
parts (export_default_decl _ _) h = no h
parts (export_default_expr _ _) h = no h
parts (export_all _ _ _) h = no h
parts (import_named_specifier _ _ _) h = no h
parts (import_default_specifier _ _) h = no h
parts (import_star_as_specifier _ _) h = no h
parts (export_namespace_specifier _ _) h = no h
parts (export_default_specifier _ _) h = no h
parts (export_named_specifier _ _ _) h = no h
parts (block_stmt _ _) h = no h
parts (empty_stmt _) h = no h
parts (debugger_stmt _) h = no h
parts (with_stmt _ _ _) h = no h
parts (return_stmt _ _) h = no h
parts (labeled_stmt _ _ _) h = no h
parts (break_stmt _ _) h = no h
parts (continue_stmt _ _) h = no h
parts (if_stmt _ _ _ _) h = no h
parts (switch_stmt _ _ _) h = no h
parts (switch_case _ _ _) h = no h
parts (throw_stmt _ _) h = no h
parts (try_stmt _ _ _ _) h = no h
parts (catch_clause _ _ _) h = no h
parts (while_stmt _ _ _) h = no h
parts (do_while_stmt _ _ _) h = no h
parts (for_stmt _ _ _ _ _) h = no h
parts (for_in_stmt _ _ _ _) h = no h
parts (for_of_stmt _ _ _ _ _) h = no h
parts (expr_stmt _ _) h = no h
parts (class_decl _ _ _) h = no h
parts (fn_decl _ _ _) h = no h
parts (var_decl _ _ _) h = no h
parts (using_decl _ _ _) h = no h
parts (var_declarator _ _ _) h = no h
parts (function _ _ _ _ _ _) h = no h
parts (param _ _ _) h = no h
parts (decorator _ _) h = no h
parts (class _ _ _ _) h = no h
parts (constructor _ _ _ _) h = no h
parts (class_method _ _ _ _ _) h = no h
parts (private_method _ _ _ _ _) h = no h
parts (class_prop _ _ _ _ _) h = no h
parts (private_prop _ _ _ _ _) h = no h
parts (static_block _ _) h = no h
parts (auto_accessor _ _ _ _ _) h = no h
parts (ident_name _ _) h = no h
parts (computed_prop_name _ _) h = no h
parts (private_name _ _) h = no h
parts (this_expr _) h = no h
parts (array_lit _ _) h = no h
parts (object_lit _ _) h = no h
parts (fn_expr _ _ _) h = no h
parts (unary_expr _ _ _) h = no h
parts (update_expr _ _ _ _) h = no h
parts (bin_expr _ _ l r) h = omega (arith)
parts (assign_expr _ _ _ _) h = no h
parts (member_expr _ _ _) h = no h
parts (super_prop_expr _ _ _) h = no h
parts (cond_expr _ _ _ _) h = no h
parts (call_expr _ _ _) h = no h
parts (new_expr _ _ _) h = no h
parts (seq_expr _ _) h = no h
parts (ident _ _) h = no h
parts (tpl _ _ _) h = no h
parts (tpl_element _ _ _ _) h = no h
parts (tagged_tpl _ _ _) h = no h
parts (arrow_expr _ _ _ _) h = no h
parts (class_expr _ _ _) h = no h
parts (yield_expr _ _ _) h = no h
parts (meta_prop_expr _ _) h = no h
parts (await_expr _ _) h = no h
parts (paren_expr _ _) h = no h
parts (opt_chain_expr _ _ _) h = no h
parts (opt_call _ _ _) h = no h
parts (super _) h = no h
parts (import _) h = no h
parts (invalid _) h = no h
parts (expr_or_spread _ _ _) h = no h
parts (spread_element _ _) h = no h
parts (key_value_prop _ _ _) h = no h
parts (assign_prop _ _ _) h = no h
parts (getter_prop _ _ _) h = no h
parts (setter_prop _ _ _ _) h = no h
parts (method_prop _ _ _) h = no h
parts (str_lit _ _ _) h = no h
parts (bool_lit _ _) h = no h
parts (null_lit _) h = no h
parts (number_lit _ _ _) h = no h
parts (big_int_lit _ _ _ _) h = no h
parts (regex_lit _ _ _) h = no h
parts (binding_ident _ _) h = no h
parts (array_pat _ _) h = no h
parts (rest_pat _ _ _) h = no h
parts (object_pat _ _) h = no h
parts (assign_pat _ _ _) h = no h
parts (key_value_pat_prop _ _ _) h = no h
parts (assign_pat_prop _ _ _) h = no h
parts (expr_pat _) h = no h
parts (invalid_pat _) h = no h
parts (invalid_target _) h = no h
parts (list _) h = no h
parts absent h = no h
parts hole h = no h

pub none_more : (a : ℕ) → a + 0 ≡ a
none_more a = omega (arith)

pub one_more : (a b : ℕ) → a + suc b ≡ suc (a + b)
one_more a b = omega (arith)

-- so many links down and as many more
pub further : (a b : ℕ) (t : Tree) → below (a + b) t ≡ below b (below a t)
unfolding below
further a zero t = rw (none_more a) refl
further a (suc b) t = rw (one_more a b) (ap left_operand (further a b t))

first_part : (a b : ℕ) (t : Tree) → Linked (a + b) t → Linked a t
unfolding Linked
first_part a zero t h = subst (λ x. Linked x t) (none_more a) h
first_part a (suc b) t h = let k : Linked (suc (a + b)) t = subst (λ x. Linked x t) (one_more a b) h in first_part a b t k.0

second_part : (a b : ℕ) (t : Tree) → Linked (a + b) t → Linked b (below a t)
unfolding Linked
second_part a zero t h = tt
second_part a (suc b) t h = let k : Linked (suc (a + b)) t = subst (λ x. Linked x t) (one_more a b) h in
    (second_part a b t k.0, ap is_binary (sym (further a b t)) ∙ k.1)

-- what is below links is smaller
pub smaller : (n : ℕ) (t : Tree) → Linked n t → tree_size (below n t) + 2 * n ≤ tree_size t
unfolding Linked below
smaller zero t h = omega (arith)
smaller (suc n) t h = let a : tree_size (below n t) + 2 * n ≤ tree_size t = smaller n t h.0 in
    let b : tree_size (left_operand (below n t)) + tree_size (right_operand (below n t)) + 2 ≤ tree_size (below n t) = parts (below n t) h.1 in omega (arith)

pub one_link : (t : Tree) → Linked 1 t → is_binary t ≡ true
unfolding Linked below
one_link t h = h.1

pub sum : (a n : ℕ) → a ≤ n → a + (n - a) ≡ n
sum a n h = omega (arith)

pub outer_links : (a n : ℕ) (t : Tree) → a ≤ n → Linked n t → Linked a t
outer_links a n t h l = first_part a (n - a) t (subst (λ x. Linked x t) (sym (sum a n h)) l)

pub inner_links : (a n : ℕ) (t : Tree) → a ≤ n → Linked n t → Linked (n - a) (below a t)
inner_links a n t h l = second_part a (n - a) t (subst (λ x. Linked x t) (sym (sum a n h)) l)

-- ---- alternatives

-- a declaration is there, and has no alternative
module _ {T : Type 0} (f : T → Tree) where
  pub declaration_is_there : (d : DeclOf T) → is_absent (view_decl f d) ≡ false
  declaration_is_there (Decl.Class x) = refl
  declaration_is_there (Decl.Fn x) = refl
  declaration_is_there (Decl.Var x) = refl
  declaration_is_there (Decl.Using x) = refl

  pub declaration_stays : (d : DeclOf T) → alternative (view_decl f d) ≡ view_decl f d
  declaration_stays (Decl.Class x) = refl
  declaration_stays (Decl.Fn x) = refl
  declaration_stays (Decl.Var x) = refl
  declaration_stays (Decl.Using x) = refl

pub ruleset statements = (declaration_is_there, declaration_stays)

pub still_further : (a b : ℕ) (t : Tree) → further_on (a + b) t ≡ further_on b (further_on a t)
unfolding further_on
still_further a zero t = rw (none_more a) refl
still_further a (suc b) t = rw (one_more a b) (ap alternative (still_further a b t))

-- an alternative is smaller
way : {A : Type 0} (x : Bool) (a b : A) → not x ≡ true → (if x then a else b) ≡ b
way false a b h = refl
way true a b h = no h

shorter : (t : Tree) → has_alternative t ≡ true → tree_size (alternative t) + 2 ≤ tree_size t
shorter (script _ _ _) h = no h
shorter (es_module _ _ _) h = no h
shorter (import_decl _ _ _ _) h = no h
shorter (export_decl _ _) h = no h
shorter (named_export _ _ _ _) h = no h
shorter (export_default_decl _ _) h = no h
shorter (export_default_expr _ _) h = no h
shorter (export_all _ _ _) h = no h
shorter (import_named_specifier _ _ _) h = no h
shorter (import_default_specifier _ _) h = no h
shorter (import_star_as_specifier _ _) h = no h
shorter (export_namespace_specifier _ _) h = no h
shorter (export_default_specifier _ _) h = no h
shorter (export_named_specifier _ _ _) h = no h
shorter (block_stmt _ _) h = no h
shorter (empty_stmt _) h = no h
shorter (debugger_stmt _) h = no h
shorter (with_stmt _ _ _) h = no h
shorter (return_stmt _ _) h = no h
shorter (labeled_stmt _ _ _) h = no h
shorter (break_stmt _ _) h = no h
shorter (continue_stmt _ _) h = no h
shorter (if_stmt p a b c) h = let e : alternative (if_stmt p a b c) ≡ c = way (is_absent c) (if_stmt p a b c) c h in rw e (omega (arith))
shorter (switch_stmt _ _ _) h = no h
shorter (switch_case _ _ _) h = no h
shorter (throw_stmt _ _) h = no h
shorter (try_stmt _ _ _ _) h = no h
shorter (catch_clause _ _ _) h = no h
shorter (while_stmt _ _ _) h = no h
shorter (do_while_stmt _ _ _) h = no h
shorter (for_stmt _ _ _ _ _) h = no h
shorter (for_in_stmt _ _ _ _) h = no h
shorter (for_of_stmt _ _ _ _ _) h = no h
shorter (expr_stmt _ _) h = no h
shorter (class_decl _ _ _) h = no h
shorter (fn_decl _ _ _) h = no h
shorter (var_decl _ _ _) h = no h
shorter (using_decl _ _ _) h = no h
shorter (var_declarator _ _ _) h = no h
shorter (function _ _ _ _ _ _) h = no h
shorter (param _ _ _) h = no h
shorter (decorator _ _) h = no h
shorter (class _ _ _ _) h = no h
shorter (constructor _ _ _ _) h = no h
shorter (class_method _ _ _ _ _) h = no h
shorter (private_method _ _ _ _ _) h = no h
shorter (class_prop _ _ _ _ _) h = no h
shorter (private_prop _ _ _ _ _) h = no h
shorter (static_block _ _) h = no h
shorter (auto_accessor _ _ _ _ _) h = no h
shorter (ident_name _ _) h = no h
shorter (computed_prop_name _ _) h = no h
shorter (private_name _ _) h = no h
shorter (this_expr _) h = no h
shorter (array_lit _ _) h = no h
shorter (object_lit _ _) h = no h
shorter (fn_expr _ _ _) h = no h
shorter (unary_expr _ _ _) h = no h
shorter (update_expr _ _ _ _) h = no h
shorter (bin_expr _ _ _ _) h = no h
shorter (assign_expr _ _ _ _) h = no h
shorter (member_expr _ _ _) h = no h
shorter (super_prop_expr _ _ _) h = no h
shorter (cond_expr _ _ _ _) h = no h
shorter (call_expr _ _ _) h = no h
shorter (new_expr _ _ _) h = no h
shorter (seq_expr _ _) h = no h
shorter (ident _ _) h = no h
shorter (tpl _ _ _) h = no h
shorter (tpl_element _ _ _ _) h = no h
shorter (tagged_tpl _ _ _) h = no h
shorter (arrow_expr _ _ _ _) h = no h
shorter (class_expr _ _ _) h = no h
shorter (yield_expr _ _ _) h = no h
shorter (meta_prop_expr _ _) h = no h
shorter (await_expr _ _) h = no h
shorter (paren_expr _ _) h = no h
shorter (opt_chain_expr _ _ _) h = no h
shorter (opt_call _ _ _) h = no h
shorter (super _) h = no h
shorter (import _) h = no h
shorter (invalid _) h = no h
shorter (expr_or_spread _ _ _) h = no h
shorter (spread_element _ _) h = no h
shorter (key_value_prop _ _ _) h = no h
shorter (assign_prop _ _ _) h = no h
shorter (getter_prop _ _ _) h = no h
shorter (setter_prop _ _ _ _) h = no h
shorter (method_prop _ _ _) h = no h
shorter (str_lit _ _ _) h = no h
shorter (bool_lit _ _) h = no h
shorter (null_lit _) h = no h
shorter (number_lit _ _ _) h = no h
shorter (big_int_lit _ _ _ _) h = no h
shorter (regex_lit _ _ _) h = no h
shorter (binding_ident _ _) h = no h
shorter (array_pat _ _) h = no h
shorter (rest_pat _ _ _) h = no h
shorter (object_pat _ _) h = no h
shorter (assign_pat _ _ _) h = no h
shorter (key_value_pat_prop _ _ _) h = no h
shorter (assign_pat_prop _ _ _) h = no h
shorter (expr_pat _) h = no h
shorter (invalid_pat _) h = no h
shorter (invalid_target _) h = no h
shorter (list _) h = no h
shorter absent h = no h
shorter hole h = no h

pub further_smaller : (n : ℕ) (t : Tree) → Chained n t → tree_size (further_on n t) + 2 * n ≤ tree_size t
unfolding Chained further_on
further_smaller zero t h = omega (arith)
further_smaller (suc n) t h = let a : tree_size (further_on n t) + 2 * n ≤ tree_size t = further_smaller n t h.0 in
    let b : tree_size (alternative (further_on n t)) + 2 ≤ tree_size (further_on n t) = shorter (further_on n t) h.1 in omega (arith)

-- ---- one link more

next : (n : ℕ) → n + 1 ≡ suc n
next n = omega (arith)

pub below_next : (n : ℕ) (t : Tree) → below (n + 1) t ≡ left_operand (below n t)
unfolding below
below_next n t = rw (next n) refl

pub linked_next : (n : ℕ) (t : Tree) → Linked n t → is_binary (below n t) ≡ true → Linked (n + 1) t
unfolding Linked
linked_next n t h e = subst (λ x. Linked x t) (sym (next n)) (h, e)

pub none_below : (t : Tree) → below 0 t ≡ t
unfolding below
none_below t = refl

pub none_linked : (t : Tree) → Linked 0 t
unfolding Linked
none_linked t = tt

pub further_next : (n : ℕ) (t : Tree) → further_on (n + 1) t ≡ alternative (further_on n t)
unfolding further_on
further_next n t = rw (next n) refl

pub chained_next : (n : ℕ) (t : Tree) → Chained n t → has_alternative (further_on n t) ≡ true → Chained (n + 1) t
unfolding Chained
chained_next n t h e = subst (λ x. Chained x t) (sym (next n)) (h, e)

pub none_further : (t : Tree) → further_on 0 t ≡ t
unfolding further_on
none_further t = refl

pub none_chained : (t : Tree) → Chained 0 t
unfolding Chained
none_chained t = tt

pub ruleset counted = (below_next, linked_next, none_below, none_linked, further_next, chained_next, none_further, none_chained)

-- ---- what falls in a recursion by halves: the links that are left, with their right operands

bottom : (k n : ℕ) (t : Tree) → k ≤ n → below (n - k) (below k t) ≡ below n t
bottom k n t h = sym (further k (n - k) t) ∙ ap (λ x. below x t) (sum k n h)

pub below_falls : (n : ℕ) (t : Tree) → Linked n t → (n ≡ 0 → ⊥) → tree_size (below n t) < tree_size t
below_falls n t h z = let a : tree_size (below n t) + 2 * n ≤ tree_size t = smaller n t h in omega (arith)

pub further_falls : (n : ℕ) (t : Tree) → Chained n t → (n ≡ 0 → ⊥) → tree_size (further_on n t) < tree_size t
further_falls n t h z = let a : tree_size (further_on n t) + 2 * n ≤ tree_size t = further_smaller n t h in omega (arith)

pub inner_falls : (k n : ℕ) (t : Tree) → Linked n t → k ≤ n → 0 < k
    → 2 * (tree_size (below k t) - tree_size (below (n - k) (below k t))) + 1 < 2 * (tree_size t - tree_size (below n t)) + 1
inner_falls k n t l h z = let a : tree_size (below k t) + 2 * k ≤ tree_size t = smaller k t (outer_links k n t h l) in
    let b : tree_size (below n t) + 2 * n ≤ tree_size t = smaller n t l in rw (bottom k n t h) (omega (arith))

pub outer_falls : (k n : ℕ) (t : Tree) → Linked n t → k < n
    → 2 * (tree_size t - tree_size (below k t)) + 1 < 2 * (tree_size t - tree_size (below n t)) + 1
outer_falls k n t l h = let m : k ≤ n = omega (arith) in
    let a : tree_size (below k t) + 2 * k ≤ tree_size t = smaller k t (outer_links k n t m l) in
    let b : tree_size (below (n - k) (below k t)) + 2 * (n - k) ≤ tree_size (below k t) = smaller (n - k) (below k t) (inner_links k n t m l) in
    let c : tree_size (below n t) + 2 * (n - k) ≤ tree_size (below k t) = subst (λ x. tree_size x + 2 * (n - k) ≤ tree_size (below k t)) (bottom k n t m) b in omega (arith)

one_below : (t : Tree) → below 1 t ≡ left_operand t
unfolding below
one_below t = refl

pub right_falls : (t : Tree) → Linked 1 t → 2 * (tree_size (right_operand t) + 2) < 2 * (tree_size t - tree_size (below 1 t)) + 1
right_falls t l = let a : tree_size (left_operand t) + tree_size (right_operand t) + 2 ≤ tree_size t = parts t (one_link t l) in
    rw (one_below t) (omega (arith))

-- no tree is without size
some_size : (t : Tree) → 0 < tree_size t
some_size (script _ _ _) = omega (arith)
some_size (es_module _ _ _) = omega (arith)
some_size (import_decl _ _ _ _) = omega (arith)
some_size (export_decl _ _) = omega (arith)
some_size (named_export _ _ _ _) = omega (arith)
some_size (export_default_decl _ _) = omega (arith)
some_size (export_default_expr _ _) = omega (arith)
some_size (export_all _ _ _) = omega (arith)
some_size (import_named_specifier _ _ _) = omega (arith)
some_size (import_default_specifier _ _) = omega (arith)
some_size (import_star_as_specifier _ _) = omega (arith)
some_size (export_namespace_specifier _ _) = omega (arith)
some_size (export_default_specifier _ _) = omega (arith)
some_size (export_named_specifier _ _ _) = omega (arith)
some_size (block_stmt _ _) = omega (arith)
some_size (empty_stmt _) = omega (arith)
some_size (debugger_stmt _) = omega (arith)
some_size (with_stmt _ _ _) = omega (arith)
some_size (return_stmt _ _) = omega (arith)
some_size (labeled_stmt _ _ _) = omega (arith)
some_size (break_stmt _ _) = omega (arith)
some_size (continue_stmt _ _) = omega (arith)
some_size (if_stmt _ _ _ _) = omega (arith)
some_size (switch_stmt _ _ _) = omega (arith)
some_size (switch_case _ _ _) = omega (arith)
some_size (throw_stmt _ _) = omega (arith)
some_size (try_stmt _ _ _ _) = omega (arith)
some_size (catch_clause _ _ _) = omega (arith)
some_size (while_stmt _ _ _) = omega (arith)
some_size (do_while_stmt _ _ _) = omega (arith)
some_size (for_stmt _ _ _ _ _) = omega (arith)
some_size (for_in_stmt _ _ _ _) = omega (arith)
some_size (for_of_stmt _ _ _ _ _) = omega (arith)
some_size (expr_stmt _ _) = omega (arith)
some_size (class_decl _ _ _) = omega (arith)
some_size (fn_decl _ _ _) = omega (arith)
some_size (var_decl _ _ _) = omega (arith)
some_size (using_decl _ _ _) = omega (arith)
some_size (var_declarator _ _ _) = omega (arith)
some_size (function _ _ _ _ _ _) = omega (arith)
some_size (param _ _ _) = omega (arith)
some_size (decorator _ _) = omega (arith)
some_size (class _ _ _ _) = omega (arith)
some_size (constructor _ _ _ _) = omega (arith)
some_size (class_method _ _ _ _ _) = omega (arith)
some_size (private_method _ _ _ _ _) = omega (arith)
some_size (class_prop _ _ _ _ _) = omega (arith)
some_size (private_prop _ _ _ _ _) = omega (arith)
some_size (static_block _ _) = omega (arith)
some_size (auto_accessor _ _ _ _ _) = omega (arith)
some_size (ident_name _ _) = omega (arith)
some_size (computed_prop_name _ _) = omega (arith)
some_size (private_name _ _) = omega (arith)
some_size (this_expr _) = omega (arith)
some_size (array_lit _ _) = omega (arith)
some_size (object_lit _ _) = omega (arith)
some_size (fn_expr _ _ _) = omega (arith)
some_size (unary_expr _ _ _) = omega (arith)
some_size (update_expr _ _ _ _) = omega (arith)
some_size (bin_expr _ _ _ _) = omega (arith)
some_size (assign_expr _ _ _ _) = omega (arith)
some_size (member_expr _ _ _) = omega (arith)
some_size (super_prop_expr _ _ _) = omega (arith)
some_size (cond_expr _ _ _ _) = omega (arith)
some_size (call_expr _ _ _) = omega (arith)
some_size (new_expr _ _ _) = omega (arith)
some_size (seq_expr _ _) = omega (arith)
some_size (ident _ _) = omega (arith)
some_size (tpl _ _ _) = omega (arith)
some_size (tpl_element _ _ _ _) = omega (arith)
some_size (tagged_tpl _ _ _) = omega (arith)
some_size (arrow_expr _ _ _ _) = omega (arith)
some_size (class_expr _ _ _) = omega (arith)
some_size (yield_expr _ _ _) = omega (arith)
some_size (meta_prop_expr _ _) = omega (arith)
some_size (await_expr _ _) = omega (arith)
some_size (paren_expr _ _) = omega (arith)
some_size (opt_chain_expr _ _ _) = omega (arith)
some_size (opt_call _ _ _) = omega (arith)
some_size (super _) = omega (arith)
some_size (import _) = omega (arith)
some_size (invalid _) = omega (arith)
some_size (expr_or_spread _ _ _) = omega (arith)
some_size (spread_element _ _) = omega (arith)
some_size (key_value_prop _ _ _) = omega (arith)
some_size (assign_prop _ _ _) = omega (arith)
some_size (getter_prop _ _ _) = omega (arith)
some_size (setter_prop _ _ _ _) = omega (arith)
some_size (method_prop _ _ _) = omega (arith)
some_size (str_lit _ _ _) = omega (arith)
some_size (bool_lit _ _) = omega (arith)
some_size (null_lit _) = omega (arith)
some_size (number_lit _ _ _) = omega (arith)
some_size (big_int_lit _ _ _ _) = omega (arith)
some_size (regex_lit _ _ _) = omega (arith)
some_size (binding_ident _ _) = omega (arith)
some_size (array_pat _ _) = omega (arith)
some_size (rest_pat _ _ _) = omega (arith)
some_size (object_pat _ _) = omega (arith)
some_size (assign_pat _ _ _) = omega (arith)
some_size (key_value_pat_prop _ _ _) = omega (arith)
some_size (assign_pat_prop _ _ _) = omega (arith)
some_size (expr_pat _) = omega (arith)
some_size (invalid_pat _) = omega (arith)
some_size (invalid_target _) = omega (arith)
some_size (list _) = omega (arith)
some_size absent = omega (arith)
some_size hole = omega (arith)

pub top_falls : (n : ℕ) (t : Tree) → 2 * (tree_size t - tree_size (below n t)) + 1 < 2 * tree_size t
top_falls n t = let a : 0 < tree_size t = some_size t in let b : 0 < tree_size (below n t) = some_size (below n t) in omega (arith)

-- the right operand of the one link that is left is smaller, as sizes of the code's boxes count
pub right_is_left : (n m : ℕ) (top right : Tree) → n ≡ 1 → Linked n top → right_operand top ≡ right → 2 * (tree_size top - tree_size (below n top)) + 1 ≡ m
    → max (2 * (tree_size right + 1 + 1) + 0) 0 < m
right_is_left n m top right e l o h =
    let a : 2 * (tree_size (right_operand top) + 2) < 2 * (tree_size top - tree_size (below 1 top)) + 1 = right_falls top (subst (λ x. Linked x top) e l) in
    let b : 2 * (tree_size right + 2) < 2 * (tree_size top - tree_size (below 1 top)) + 1 = subst (λ x. 2 * (tree_size x + 2) < 2 * (tree_size top - tree_size (below 1 top)) + 1) o a in
    let c : 2 * (tree_size top - tree_size (below 1 top)) + 1 ≡ m = subst (λ x. 2 * (tree_size top - tree_size (below x top)) + 1 ≡ m) e h in omega (arith)
