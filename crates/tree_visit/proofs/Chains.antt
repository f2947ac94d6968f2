-- A walk over a chain, by its links.
use Rattle.std.proofs.Common.{◌≡◌, ◌+◌, ◌*◌, ◌-◌, ◌≤◌, ◌<◌, ℕ, zero, suc, arith, Bool, true, refl, sym, ap, ◌∙◌}
use Rattle.std.proofs.lemmas.Bool.{cond-false, not-true}
use Rattle.std.proofs.Math.Nat.{add-zero, add-suc, add-sub_of_le}
use Rattle.std.proofs.Math.Numerals.{add-one}
use Rattle.tree_spec.specs.Tree.{Tree, script, es_module, import_decl, export_decl, named_export, export_default_decl, export_default_expr, export_all, import_named_specifier, import_default_specifier, import_star_as_specifier, export_namespace_specifier, export_default_specifier, export_named_specifier, block_stmt, empty_stmt, debugger_stmt, with_stmt, return_stmt, labeled_stmt, break_stmt, continue_stmt, if_stmt, switch_stmt, switch_case, throw_stmt, try_stmt, catch_clause, while_stmt, do_while_stmt, for_stmt, for_in_stmt, for_of_stmt, expr_stmt, class_decl, fn_decl, var_decl, using_decl, var_declarator, function, param, decorator, class, constructor, class_method, private_method, class_prop, private_prop, static_block, auto_accessor, ident_name, computed_prop_name, private_name, this_expr, array_lit, object_lit, fn_expr, unary_expr, update_expr, bin_expr, assign_expr, member_expr, super_prop_expr, cond_expr, call_expr, new_expr, seq_expr, ident, tpl, tpl_element, tagged_tpl, arrow_expr, class_expr, yield_expr, meta_prop_expr, await_expr, paren_expr, opt_chain_expr, opt_call, super, import, invalid, expr_or_spread, spread_element, key_value_prop, assign_prop, getter_prop, setter_prop, method_prop, str_lit, bool_lit, null_lit, number_lit, big_int_lit, regex_lit, binding_ident, array_pat, rest_pat, object_pat, assign_pat, key_value_pat_prop, assign_pat_prop, expr_pat, invalid_pat, invalid_target, list, absent, hole}
use Rattle.tree_spec.specs.Codes.{tree_size}
use Rattle.tree_nodes.specs.View.{view_lit}
use Rattle.tree_nodes.specs.declared.literals.Lit.{Lit}
use Rattle.tree_nodes.specs.declared.literals.Lit.TheVariants as Lit
use Rattle.tree_nodes.specs.Spines.{Chained, alternative, further_on, has_alternative, is_absent}
use Rattle.tree_nodes.proofs.Spines.{chained_next, further_falls, further_next, none_chained, none_further, still_further}
use Rattle.tree_visit.specs.Spine.Chains.{Linked, base_left, below, is_base, is_link, left_part}
use Rattle.tree_visit.proofs.spine.Chains.{below_falls, callee_left, counted, further, inner_falls, inner_links, left_falls, no, one_link, outer_falls, outer_links}
use Rattle.tree_visit.specs.Walk.{Event, entered, left, walk_of, walk_of_all}
use Rattle.tree_visit.specs.Spines.{before_alternative, entered_ifs, entered_link, entered_links, left_ifs, left_link, left_links, walk_of_base, walk_of_rest}

-- a link is entered, its left part gone over, and it is left
base_link : {S : Type 0} (step : Event → S → S) (b t : Tree) (s : S) → is_base b ≡ true → walk_of step b s ≡ walk_of_base step b (walk_of step (base_left b t) (entered step b s))
base_link step (member_expr _ _ _) t s h = refl
base_link step (opt_call _ _ _) t s h = refl
base_link step _ t s h = no h

link : {S : Type 0} (step : Event → S → S) (t : Tree) (s : S) → is_link t ≡ true
    → walk_of step t s ≡ left_link step t (walk_of step (left_part t) (entered_link step t s))
link step (bin_expr _ _ _ _) s h = refl
link step (member_expr _ _ _) s h = refl
link step (call_expr p f xs) s h = ap (λ x. left step (call_expr p f xs) (walk_of_all step xs (walk_of step x (entered step (call_expr p f xs) s)))) (sym (callee_left p f xs h))
link step (tagged_tpl _ _ _) s h = refl
link step (opt_chain_expr p q b) s h = ap (λ x. left step (opt_chain_expr p q b) x) (base_link step b (opt_chain_expr p q b) (entered step (opt_chain_expr p q b) s) h)
link step _ s h = no h

-- a literal is no link
module _ {S : Type 0} (step : Event → S → S) where
  pub literal_entered : (l : Lit) (s : S) → entered_link step (view_lit l) s ≡ entered step (view_lit l) s
  literal_entered (Lit.Str x) s = refl
  literal_entered (Lit.Bool x) s = refl
  literal_entered (Lit.Null x) s = refl
  literal_entered (Lit.Num x) s = refl
  literal_entered (Lit.BigInt x) s = refl
  literal_entered (Lit.Regex x) s = refl

  pub literal_has_no_rest : (l : Lit) (s : S) → walk_of_rest step (view_lit l) s ≡ s
  literal_has_no_rest (Lit.Str x) s = refl
  literal_has_no_rest (Lit.Bool x) s = refl
  literal_has_no_rest (Lit.Null x) s = refl
  literal_has_no_rest (Lit.Num x) s = refl
  literal_has_no_rest (Lit.BigInt x) s = refl
  literal_has_no_rest (Lit.Regex x) s = refl

-- a walk over the top of a chain enters its links, goes over what is below them, and leaves them
pub spine : {S : Type 0} (step : Event → S → S) (n : ℕ) (t : Tree) (s : S) → Linked n t
    → walk_of step t s ≡ left_links step n t (walk_of step (below n t) (entered_links step n t s))
unfolding Linked below entered_links left_links
spine step zero t s h = refl
spine step (suc n) t s h = spine step n t s h.0 ∙ ap (λ x. left_links step n t x) (link step (below n t) (entered_links step n t s) h.1)

halves : {S : Type 0} (step : Event → S → S) (a b : ℕ) (t : Tree) (s : S)
    → left_links step (a + b) t s ≡ left_links step a t (left_links step b (below a t) s)
unfolding left_links
halves step a zero t s = rw (add-zero a) refl
halves step a (suc b) t s = ap (λ n. left_links step n t s) (add-suc a b) ∙ halves step a b t (left_link step (below (a + b) t) s)
    ∙ ap (λ x. left_links step a t (left_links step b (below a t) (left_link step x s))) (further a b t)

pub left_one : {S : Type 0} (step : Event → S → S) (t : Tree) (s : S) → left_links step 1 t s ≡ left_link step t s
unfolding left_links below
left_one step t s = refl

pub by_halves : {S : Type 0} (step : Event → S → S) (a n : ℕ) (t : Tree) (s : S) → a ≤ n
    → left_links step n t s ≡ left_links step a t (left_links step (n - a) (below a t) s)
by_halves step a n t s h = ap (λ x. left_links step x t s) (sym (add-sub_of_le h)) ∙ halves step a (n - a) t s

-- ---- what falls in a recursion by halves: one more than what falls in its links

-- no tree has a size below two
two : (t : Tree) → 2 ≤ tree_size t
two (script _ _ _) = omega (arith)
two _ = omega (arith)

pub whole_falls : (n : ℕ) (t : Tree) → 2 * (tree_size t - tree_size (below n t)) + 2 < 2 * tree_size t
whole_falls n t = let a : 2 ≤ tree_size t = two t in let b : 2 ≤ tree_size (below n t) = two (below n t) in omega (arith)

pub inner_half_falls : (k n : ℕ) (t : Tree) → Linked n t → k ≤ n → 0 < k
    → 2 * (tree_size (below k t) - tree_size (below (n - k) (below k t))) + 2 < 2 * (tree_size t - tree_size (below n t)) + 2
inner_half_falls k n t l h z = omega (arith, inner_falls k n t l h z)

pub outer_half_falls : (k n : ℕ) (t : Tree) → Linked n t → k < n
    → 2 * (tree_size t - tree_size (below k t)) + 2 < 2 * (tree_size t - tree_size (below n t)) + 2
outer_half_falls k n t l h = omega (arith, outer_falls k n t l h)

pub one_falls : (n : ℕ) (t : Tree) → n ≡ 1 → 2 * (tree_size t - tree_size (below 1 t)) + 1 < 2 * (tree_size t - tree_size (below n t)) + 2
one_falls n t e = rw e (omega (arith))

pub linked_once : (t : Tree) → is_link t ≡ true → Linked 1 t
unfolding Linked below
linked_once t h = (tt, h)

-- ---- alternatives

-- an `if` with an alternative is entered, gone over and left
if_link : {S : Type 0} (step : Event → S → S) (t : Tree) (s : S) → has_alternative t ≡ true
    → walk_of step t s ≡ left step t (walk_of step (alternative t) (before_alternative step t (entered step t s)))
if_link step (script _ _ _) s h = no h
if_link step (es_module _ _ _) s h = no h
if_link step (import_decl _ _ _ _) s h = no h
if_link step (export_decl _ _) s h = no h
if_link step (named_export _ _ _ _) s h = no h
if_link step (export_default_decl _ _) s h = no h
if_link step (export_default_expr _ _) s h = no h
if_link step (export_all _ _ _) s h = no h
if_link step (import_named_specifier _ _ _) s h = no h
if_link step (import_default_specifier _ _) s h = no h
if_link step (import_star_as_specifier _ _) s h = no h
if_link step (export_namespace_specifier _ _) s h = no h
if_link step (export_default_specifier _ _) s h = no h
if_link step (export_named_specifier _ _ _) s h = no h
if_link step (block_stmt _ _) s h = no h
if_link step (empty_stmt _) s h = no h
if_link step (debugger_stmt _) s h = no h
if_link step (with_stmt _ _ _) s h = no h
if_link step (return_stmt _ _) s h = no h
if_link step (labeled_stmt _ _ _) s h = no h
if_link step (break_stmt _ _) s h = no h
if_link step (continue_stmt _ _) s h = no h
if_link step (if_stmt p a b c) s h = ap (λ x. left step (if_stmt p a b c) (walk_of step x (before_alternative step (if_stmt p a b c) (entered step (if_stmt p a b c) s)))) (sym (cond-false (is_absent c) (if_stmt p a b c) c (not-true (is_absent c) h)))
if_link step (switch_stmt _ _ _) s h = no h
if_link step (switch_case _ _ _) s h = no h
if_link step (throw_stmt _ _) s h = no h
if_link step (try_stmt _ _ _ _) s h = no h
if_link step (catch_clause _ _ _) s h = no h
if_link step (while_stmt _ _ _) s h = no h
if_link step (do_while_stmt _ _ _) s h = no h
if_link step (for_stmt _ _ _ _ _) s h = no h
if_link step (for_in_stmt _ _ _ _) s h = no h
if_link step (for_of_stmt _ _ _ _ _) s h = no h
if_link step (expr_stmt _ _) s h = no h
if_link step (class_decl _ _ _) s h = no h
if_link step (fn_decl _ _ _) s h = no h
if_link step (var_decl _ _ _) s h = no h
if_link step (using_decl _ _ _) s h = no h
if_link step (var_declarator _ _ _) s h = no h
if_link step (function _ _ _ _ _ _) s h = no h
if_link step (param _ _ _) s h = no h
if_link step (decorator _ _) s h = no h
if_link step (class _ _ _ _) s h = no h
if_link step (constructor _ _ _ _) s h = no h
if_link step (class_method _ _ _ _ _) s h = no h
if_link step (private_method _ _ _ _ _) s h = no h
if_link step (class_prop _ _ _ _ _) s h = no h
if_link step (private_prop _ _ _ _ _) s h = no h
if_link step (static_block _ _) s h = no h
if_link step (auto_accessor _ _ _ _ _) s h = no h
if_link step (ident_name _ _) s h = no h
if_link step (computed_prop_name _ _) s h = no h
if_link step (private_name _ _) s h = no h
if_link step (this_expr _) s h = no h
if_link step (array_lit _ _) s h = no h
if_link step (object_lit _ _) s h = no h
if_link step (fn_expr _ _ _) s h = no h
if_link step (unary_expr _ _ _) s h = no h
if_link step (update_expr _ _ _ _) s h = no h
if_link step (bin_expr _ _ _ _) s h = no h
if_link step (assign_expr _ _ _ _) s h = no h
if_link step (member_expr _ _ _) s h = no h
if_link step (super_prop_expr _ _ _) s h = no h
if_link step (cond_expr _ _ _ _) s h = no h
if_link step (call_expr _ _ _) s h = no h
if_link step (new_expr _ _ _) s h = no h
if_link step (seq_expr _ _) s h = no h
if_link step (ident _ _) s h = no h
if_link step (tpl _ _ _) s h = no h
if_link step (tpl_element _ _ _ _) s h = no h
if_link step (tagged_tpl _ _ _) s h = no h
if_link step (arrow_expr _ _ _ _) s h = no h
if_link step (class_expr _ _ _) s h = no h
if_link step (yield_expr _ _ _) s h = no h
if_link step (meta_prop_expr _ _) s h = no h
if_link step (await_expr _ _) s h = no h
if_link step (paren_expr _ _) s h = no h
if_link step (opt_chain_expr _ _ _) s h = no h
if_link step (opt_call _ _ _) s h = no h
if_link step (super _) s h = no h
if_link step (import _) s h = no h
if_link step (invalid _) s h = no h
if_link step (expr_or_spread _ _ _) s h = no h
if_link step (spread_element _ _) s h = no h
if_link step (key_value_prop _ _ _) s h = no h
if_link step (assign_prop _ _ _) s h = no h
if_link step (getter_prop _ _ _) s h = no h
if_link step (setter_prop _ _ _ _) s h = no h
if_link step (method_prop _ _ _) s h = no h
if_link step (str_lit _ _ _) s h = no h
if_link step (bool_lit _ _) s h = no h
if_link step (null_lit _) s h = no h
if_link step (number_lit _ _ _) s h = no h
if_link step (big_int_lit _ _ _ _) s h = no h
if_link step (regex_lit _ _ _) s h = no h
if_link step (binding_ident _ _) s h = no h
if_link step (array_pat _ _) s h = no h
if_link step (rest_pat _ _ _) s h = no h
if_link step (object_pat _ _) s h = no h
if_link step (assign_pat _ _ _) s h = no h
if_link step (key_value_pat_prop _ _ _) s h = no h
if_link step (assign_pat_prop _ _ _) s h = no h
if_link step (expr_pat _) s h = no h
if_link step (invalid_pat _) s h = no h
if_link step (invalid_target _) s h = no h
if_link step (list _) s h = no h
if_link step absent s h = no h
if_link step hole s h = no h

-- a walk over the top of a chain enters its links, goes over what stands last, and leaves them
pub if_spine : {S : Type 0} (step : Event → S → S) (n : ℕ) (t : Tree) (s : S) → Chained n t
    → walk_of step t s ≡ left_ifs step n t (walk_of step (further_on n t) (entered_ifs step n t s))
unfolding Chained further_on entered_ifs left_ifs
if_spine step zero t s h = refl
if_spine step (suc n) t s h = if_spine step n t s h.0 ∙ ap (λ x. left_ifs step n t x) (if_link step (further_on n t) (entered_ifs step n t s) h.1)

if_halves : {S : Type 0} (step : Event → S → S) (a b : ℕ) (t : Tree) (s : S)
    → left_ifs step (a + b) t s ≡ left_ifs step a t (left_ifs step b (further_on a t) s)
unfolding left_ifs
if_halves step a zero t s = rw (add-zero a) refl
if_halves step a (suc b) t s = ap (λ n. left_ifs step n t s) (add-suc a b) ∙ if_halves step a b t (left step (further_on (a + b) t) s)
    ∙ ap (λ x. left_ifs step a t (left_ifs step b (further_on a t) (left step x s))) (still_further a b t)

pub left_one_if : {S : Type 0} (step : Event → S → S) (t : Tree) (s : S) → left_ifs step 1 t s ≡ left step t s
unfolding left_ifs further_on
left_one_if step t s = refl

pub ifs_by_halves : {S : Type 0} (step : Event → S → S) (a n : ℕ) (t : Tree) (s : S) → a ≤ n
    → left_ifs step n t s ≡ left_ifs step a t (left_ifs step (n - a) (further_on a t) s)
ifs_by_halves step a n t s h = ap (λ x. left_ifs step x t s) (sym (add-sub_of_le h)) ∙ if_halves step a (n - a) t s

-- ---- one link more

module _ {S : Type 0} (step : Event → S → S) where
  pub entered_next : (n : ℕ) (t : Tree) (s : S) → entered_links step (n + 1) t s ≡ entered_link step (below n t) (entered_links step n t s)
  unfolding entered_links
  entered_next n t s = rw (add-one n) refl

  pub none_entered : (t : Tree) (s : S) → entered_links step 0 t s ≡ s
  unfolding entered_links
  none_entered t s = refl

  pub none_left : (t : Tree) (s : S) → left_links step 0 t s ≡ s
  unfolding left_links
  none_left t s = refl

  pub ifs_next : (n : ℕ) (t : Tree) (s : S) → entered_ifs step (n + 1) t s ≡ before_alternative step (further_on n t) (entered step (further_on n t) (entered_ifs step n t s))
  unfolding entered_ifs
  ifs_next n t s = rw (add-one n) refl

  pub no_ifs_entered : (t : Tree) (s : S) → entered_ifs step 0 t s ≡ s
  unfolding entered_ifs
  no_ifs_entered t s = refl

  pub no_ifs_left : (t : Tree) (s : S) → left_ifs step 0 t s ≡ s
  unfolding left_ifs
  no_ifs_left t s = refl

  pub entered_zero : (n : ℕ) (t : Tree) (s : S) → n ≡ 0 → entered_links step n t s ≡ s
  entered_zero n t s h = ap (λ x. entered_links step x t s) h ∙ none_entered t s

  pub ifs_zero : (n : ℕ) (t : Tree) (s : S) → n ≡ 0 → entered_ifs step n t s ≡ s
  ifs_zero n t s h = ap (λ x. entered_ifs step x t s) h ∙ no_ifs_entered t s

pub ruleset none_entered_yet = (entered_zero, ifs_zero, below_falls, further_falls, whole_falls)

pub ruleset along_ifs = (further_next, chained_next, none_further, none_chained, ifs_next, no_ifs_entered)

pub ruleset on_the_way_down = (counted, left_falls, entered_next, none_entered)

pub ruleset on_the_way_back = (inner_links, outer_links, by_halves, left_one, none_left, one_link, inner_half_falls, outer_half_falls, one_falls)

pub ruleset out_of_ifs = (ifs_by_halves, left_one_if, no_ifs_left)
