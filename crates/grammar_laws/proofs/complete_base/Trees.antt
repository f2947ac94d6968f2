-- The trees that the law covers so far, their sizes, how deep they are read, how they start, and that they take tokens.
use Rattle.std.proofs.Common.{◌≡◌, ℕ, suc, ◌+◌, ◌<◌, ◌≤◌, ◌⊎◌, inl, inr, max, Bool, true, false, not, ◌&&◌, ◌||◌, ◌==◌, eqb, leb, refl, sym, ap, ◌∙◌, subst, ⊎_elim, true≢false, arith}
use Rattle.std.proofs.lemmas.Bool.{eqb-true, ne_eqb, cases_Bool, leb-true, or_cases, or_left, or_parts, and_from, and_parts}
use Rattle.base_proofs.proofs.Bools.{and_false}
use Rattle.base_token.specs.declared.place.Span.{Span}
use Rattle.base_token.specs.Kinds.{left_brace_kind, back_quote_kind, super_kind, import_kind, yield_kind, hash_kind, bang_kind, tilde_kind, left_paren_kind, left_bracket_kind, plus_plus_kind, minus_minus_kind, str_kind, regex_kind, num_kind, big_int_kind, add_kind, sub_kind, typeof_kind, void_kind, delete_kind, this_kind, null_kind, true_kind, false_kind, await_kind, new_kind, in_kind, async_kind, function_kind, class_kind}
use Rattle.tree_spec.specs.Tree.{Tree, Trees, none, more, this_expr, null_lit, bool_lit, ident, str_lit, number_lit, big_int_lit, regex_lit, paren_expr, array_lit, expr_or_spread, hole, unary_expr, update_expr, await_expr, bin_expr, cond_expr, seq_expr, member_expr, computed_prop_name, ident_name, private_name, call_expr, new_expr, list, absent, super, import, tpl, tagged_tpl, opt_chain_expr, opt_call, super_prop_expr, meta_prop_expr, yield_expr, object_lit, key_value_prop, assign_prop, spread_element, binding_ident, array_pat, object_pat, assign_pat, rest_pat, key_value_pat_prop, assign_pat_prop, expr_pat, assign_expr, arrow_expr, block_stmt, with_stmt, return_stmt, labeled_stmt, if_stmt, switch_stmt, switch_case, throw_stmt, try_stmt, catch_clause, while_stmt, do_while_stmt, for_stmt, for_in_stmt, for_of_stmt, expr_stmt, class_decl, fn_decl, var_decl, using_decl, var_declarator, function, param, class, constructor, class_method, private_method, class_prop, private_prop, static_block, auto_accessor, fn_expr, class_expr, method_prop, getter_prop, setter_prop, script, es_module, export_decl, import_decl, named_export, export_all, export_default_decl, export_default_expr}
use Rattle.grammar_spec.specs.Tokens.Input.{Input, Code, kind, rest, is_word, no_name, always_reserved, assigning}
use Rattle.grammar_spec.specs.Tokens.Operators.{operates, is_assign_op}
use Rattle.grammar_spec.specs.Tokens.Shape.{level, ends, is_private, is_absent, is_chain}
use Rattle.grammar_spec.specs.Children.{child, By}
use Rattle.grammar_spec.specs.Expressions.{Call, Yield, is_unary_op, is_update_op}
use Rattle.grammar_spec.specs.Functions.{ArrowHead, BareName}
use Rattle.grammar_spec.specs.Grammar.{Produces, children}
use Rattle.grammar_laws.proofs.complete_base.Yields.{len, shorter}
use Rattle.grammar_laws.proofs.complete_base.Levels.{operated, binary_four, fits, right_five, binary_cases}

-- ---- parts

-- a tree with its parts that are read as expressions, patterns and what these hold
abbrev mutual
  pub Covered : Tree → Type 0
  Covered (this_expr s) = Unit {0}
  Covered (null_lit s) = Unit {0}
  Covered (bool_lit s v) = Unit {0}
  Covered (ident s n) = Unit {0}
  Covered (ident_name s n) = Unit {0}
  Covered (private_name s n) = Unit {0}
  Covered (str_lit s u w) = Unit {0}
  Covered (number_lit s v w) = Unit {0}
  Covered (big_int_lit s b d w) = Unit {0}
  Covered (regex_lit s e f) = Unit {0}
  Covered (paren_expr s e) = Covered e
  Covered (array_lit s xs) = CoveredAll xs
  Covered (expr_or_spread s d e) = Covered e
  Covered hole = Unit {0}
  Covered absent = Unit {0}
  Covered (list xs) = CoveredAll xs
  Covered (unary_expr s op a) = Covered a
  Covered (update_expr s op b a) = Covered a
  Covered (await_expr s a) = Covered a
  Covered (bin_expr s op a b) = Covered a × Covered b
  Covered (cond_expr s a b d) = Covered a × Covered b × Covered d
  Covered (seq_expr s xs) = CoveredAll xs
  Covered (computed_prop_name s e) = Covered e
  Covered (member_expr s o k) = Covered o × Covered k
  Covered (tpl s es qs) = CoveredAll es
  Covered (tagged_tpl s t q) = Covered t × Covered q
  Covered (opt_chain_expr s q b) = Covered b
  Covered (opt_call s f xs) = Covered f × CoveredAll xs
  Covered (super s) = Unit {0}
  Covered (import s) = Unit {0}
  Covered (super_prop_expr s o k) = Covered k
  Covered (meta_prop_expr s k) = Unit {0}
  Covered (yield_expr s a g) = Covered a
  Covered (object_lit s ps) = CoveredAll ps
  Covered (key_value_prop s k v) = Covered k × Covered v
  Covered (assign_prop s k e) = Covered k × Covered e
  Covered (spread_element s e) = Covered e
  Covered (assign_expr s op a b) = Covered a × Covered b
  Covered (arrow_expr s ps b i) = CoveredAll ps × Covered b
  Covered (binding_ident s i) = Unit {0}
  Covered (array_pat s xs) = CoveredAll xs
  Covered (object_pat s ps) = CoveredAll ps
  Covered (assign_pat s a e) = Covered a × Covered e
  Covered (rest_pat s d a) = Covered a
  Covered (key_value_pat_prop s k a) = Covered k × Covered a
  Covered (assign_pat_prop s k e) = Covered k × Covered e
  Covered (expr_pat e) = Covered e
  Covered (call_expr s f xs) = Covered f × CoveredAll xs
  Covered (new_expr s f xs) = Covered f × Covered xs
  Covered _ = Unit {0}

  pub CoveredAll : Trees → Type 0
  CoveredAll none = Unit {0}
  CoveredAll (more t ts) = Covered t × CoveredAll ts

mutual
  pub covered : (t : Tree) → Covered t
  covered (paren_expr s e) = covered e
  covered (array_lit s xs) = covered_all xs
  covered (expr_or_spread s d e) = covered e
  covered (list xs) = covered_all xs
  covered (unary_expr s op a) = covered a
  covered (update_expr s op b a) = covered a
  covered (await_expr s a) = covered a
  covered (bin_expr s op a b) = (covered a, covered b)
  covered (cond_expr s a b d) = (covered a, covered b, covered d)
  covered (seq_expr s xs) = covered_all xs
  covered (computed_prop_name s e) = covered e
  covered (member_expr s o k) = (covered o, covered k)
  covered (tpl s es qs) = covered_all es
  covered (tagged_tpl s t q) = (covered t, covered q)
  covered (opt_chain_expr s q b) = covered b
  covered (opt_call s f xs) = (covered f, covered_all xs)
  covered (super_prop_expr s o k) = covered k
  covered (yield_expr s a g) = covered a
  covered (object_lit s ps) = covered_all ps
  covered (key_value_prop s k v) = (covered k, covered v)
  covered (assign_prop s k e) = (covered k, covered e)
  covered (spread_element s e) = covered e
  covered (assign_expr s op a b) = (covered a, covered b)
  covered (arrow_expr s ps b i) = (covered_all ps, covered b)
  covered (array_pat s xs) = covered_all xs
  covered (object_pat s ps) = covered_all ps
  covered (assign_pat s a e) = (covered a, covered e)
  covered (rest_pat s d a) = covered a
  covered (key_value_pat_prop s k a) = (covered k, covered a)
  covered (assign_pat_prop s k e) = (covered k, covered e)
  covered (expr_pat e) = covered e
  covered (call_expr s f xs) = (covered f, covered_all xs)
  covered (new_expr s f xs) = (covered f, covered xs)
  covered _ = tt

  pub covered_all : (ts : Trees) → CoveredAll ts
  covered_all none = tt
  covered_all (more t ts) = (covered t, covered_all ts)

-- how deep the calls of the readers go for a tree: what a loop goes on with stands beside what it went on from
abbrev mutual
  pub reach : Tree → ℕ
  reach (paren_expr s e) = suc (reach e)
  reach (array_lit s xs) = suc (reaches xs)
  reach (expr_or_spread s d e) = reach e
  reach (list xs) = reaches xs
  reach absent = 0
  reach hole = 0
  reach (ident_name s n) = 0
  reach (private_name s n) = 0
  reach (unary_expr s op a) = suc (reach a)
  reach (update_expr s op true a) = suc (reach a)
  reach (update_expr s op false a) = reach a
  reach (await_expr s a) = suc (reach a)
  reach (bin_expr s op a b) = max (reach a) (suc (reach b))
  reach (cond_expr s a b d) = max (reach a) (suc (max (reach b) (reach d)))
  reach (seq_expr s xs) = suc (reaches xs)
  reach (computed_prop_name s e) = reach e
  reach (member_expr s o k) = max (reach o) (suc (reach k))
  reach (call_expr s f xs) = max (reach f) (suc (reaches xs))
  reach (new_expr s f xs) = suc (max (reach f) (reach xs))
  reach (tpl s es qs) = suc (reaches es)
  reach (tagged_tpl s t q) = max (reach t) (reach q)
  reach (opt_chain_expr s q b) = reach b
  reach (opt_call s f xs) = max (reach f) (suc (reaches xs))
  reach (super_prop_expr s o k) = suc (reach k)
  reach (yield_expr s a g) = suc (reach a)
  reach (object_lit s ps) = suc (reaches ps)
  reach (key_value_prop s k v) = max (reach k) (reach v)
  reach (assign_prop s k e) = reach e
  reach (spread_element s e) = reach e
  reach (assign_expr s op a b) = max (reach a) (suc (reach b))
  reach (arrow_expr s ps b i) = suc (max (reaches ps) (reach b))
  reach (array_pat s xs) = suc (reaches xs)
  reach (object_pat s ps) = suc (reaches ps)
  reach (assign_pat s a e) = max (reach a) (suc (reach e))
  reach (rest_pat s d a) = reach a
  reach (key_value_pat_prop s k a) = max (reach k) (reach a)
  reach (assign_pat_prop s k e) = reach e
  reach (expr_pat e) = reach e
  reach (block_stmt s ss) = suc (reaches ss)
  reach (expr_stmt s e) = suc (reach e)
  reach (return_stmt s e) = suc (reach e)
  reach (throw_stmt s e) = suc (reach e)
  reach (with_stmt s e b) = suc (max (reach e) (reach b))
  reach (labeled_stmt s l b) = suc (max (reach l) (reach b))
  reach (if_stmt s t a (if_stmt q e b d)) = max (suc (max (reach t) (reach a))) (reach (if_stmt q e b d))
  reach (if_stmt s t a b) = suc (max (reach t) (max (reach a) (reach b)))
  reach (while_stmt s t b) = suc (max (reach t) (reach b))
  reach (do_while_stmt s t b) = suc (max (reach t) (reach b))
  reach (switch_stmt s e xs) = suc (max (reach e) (reaches xs))
  reach (switch_case s t ss) = max (reach t) (reaches ss)
  reach (try_stmt s b h f) = suc (max (reach b) (max (reach h) (reach f)))
  reach (catch_clause s p b) = max (reach p) (reach b)
  reach (for_stmt s i t u b) = suc (max (reach i) (max (reach t) (max (reach u) (reach b))))
  reach (for_in_stmt s l e b) = suc (max (reach l) (max (reach e) (reach b)))
  reach (for_of_stmt s w l e b) = suc (max (reach l) (max (reach e) (reach b)))
  reach (var_decl s k ds) = suc (reaches ds)
  reach (using_decl s w ds) = suc (reaches ds)
  reach (var_declarator s n e) = max (reach n) (reach e)
  reach (fn_decl s n f) = suc (reach f)
  reach (fn_expr s n f) = suc (reach f)
  reach (class_decl s n k) = suc (reach k)
  reach (class_expr s n k) = suc (reach k)
  reach (function s ps ds b g a) = max (reaches ps) (reach b)
  reach (param s ds a) = reach a
  reach (class s ds ms k) = suc (max (reach k) (reaches ms))
  reach (constructor s k ps b) = max (reach k) (max (reaches ps) (reach b))
  reach (class_method s k f m i) = max (reach k) (reach f)
  reach (private_method s k f m i) = max (reach k) (reach f)
  reach (class_prop s k v i ds) = max (reach k) (reach v)
  reach (private_prop s k v i ds) = max (reach k) (reach v)
  reach (auto_accessor s k v i ds) = max (reach k) (reach v)
  reach (static_block s b) = reach b
  reach (method_prop s k f) = max (reach k) (reach f)
  reach (getter_prop s k b) = max (reach k) (reach b)
  reach (setter_prop s k p b) = max (reach k) (max (reach p) (reach b))
  reach (script s ss l) = reaches ss
  reach (es_module s ss l) = reaches ss
  reach (import_decl s xs f w) = reach w
  reach (named_export s xs f w) = reach w
  reach (export_all s f w) = reach w
  reach (export_decl s e) = reach e
  reach (export_default_decl s e) = reach e
  reach (export_default_expr s e) = reach e
  reach _ = 1

  pub reaches : Trees → ℕ
  reaches none = 0
  reaches (more t ts) = max (reach t) (reaches ts)

-- ---- sizes

abbrev mutual
  pub size : Tree → ℕ
  size (paren_expr s e) = suc (size e)
  size (array_lit s xs) = suc (sizes xs)
  size (expr_or_spread s d e) = size e
  size (list xs) = sizes xs
  size (unary_expr s op a) = suc (size a)
  size (update_expr s op b a) = suc (size a)
  size (await_expr s a) = suc (size a)
  size (bin_expr s op a b) = suc (size a + size b)
  size (cond_expr s a b d) = suc (size a + (size b + size d))
  size (seq_expr s xs) = suc (sizes xs)
  size (computed_prop_name s e) = suc (size e)
  size (member_expr s o k) = suc (size o + size k)
  size (call_expr s f xs) = suc (size f + sizes xs)
  size (new_expr s f xs) = suc (size f + size xs)
  size (tpl s es qs) = suc (sizes es)
  size (tagged_tpl s t q) = suc (size t + size q)
  size (opt_chain_expr s q b) = suc (size b)
  size (opt_call s f xs) = suc (size f + sizes xs)
  size (super_prop_expr s o k) = suc (size k)
  size (yield_expr s a g) = suc (size a)
  size (object_lit s ps) = suc (sizes ps)
  size (key_value_prop s k v) = suc (size k + size v)
  size (assign_prop s k e) = suc (size e)
  size (spread_element s e) = suc (size e)
  size (assign_expr s op a b) = suc (size a + size b)
  size (arrow_expr s ps b i) = suc (sizes ps + size b)
  size (array_pat s xs) = suc (sizes xs)
  size (object_pat s ps) = suc (sizes ps)
  size (assign_pat s a e) = suc (size a + size e)
  size (rest_pat s d a) = suc (size a)
  size (key_value_pat_prop s k a) = suc (size k + size a)
  size (assign_pat_prop s k e) = suc (size e)
  size (expr_pat e) = size e
  size (block_stmt s ss) = suc (sizes ss)
  size (expr_stmt s e) = suc (size e)
  size (return_stmt s e) = suc (size e)
  size (throw_stmt s e) = suc (size e)
  size (with_stmt s e b) = suc (size e + size b)
  size (labeled_stmt s l b) = suc (size l + size b)
  size (if_stmt s t a b) = suc (size t + (size a + size b))
  size (while_stmt s t b) = suc (size t + size b)
  size (do_while_stmt s t b) = suc (size t + size b)
  size (switch_stmt s e xs) = suc (size e + sizes xs)
  size (switch_case s t ss) = suc (size t + sizes ss)
  size (try_stmt s b h f) = suc (size b + (size h + size f))
  size (catch_clause s p b) = suc (size p + size b)
  size (for_stmt s i t u b) = suc (size i + (size t + (size u + size b)))
  size (for_in_stmt s l e b) = suc (size l + (size e + size b))
  size (for_of_stmt s w l e b) = suc (size l + (size e + size b))
  size (var_decl s k ds) = suc (sizes ds)
  size (using_decl s w ds) = suc (sizes ds)
  size (var_declarator s n e) = suc (size n + size e)
  size (fn_decl s n f) = suc (size f)
  size (fn_expr s n f) = suc (size f)
  size (class_decl s n k) = suc (size k)
  size (class_expr s n k) = suc (size k)
  size (function s ps ds b g a) = suc (sizes ps + size b)
  size (param s ds a) = suc (size a)
  size (class s ds ms k) = suc (sizes ms + size k)
  size (constructor s k ps b) = suc (size k + (sizes ps + size b))
  size (class_method s k f m i) = suc (size k + size f)
  size (private_method s k f m i) = suc (size k + size f)
  size (class_prop s k v i ds) = suc (size k + size v)
  size (private_prop s k v i ds) = suc (size k + size v)
  size (auto_accessor s k v i ds) = suc (size k + size v)
  size (static_block s b) = suc (size b)
  size (import_decl s xs f w) = suc (size w)
  size (named_export s xs f w) = suc (size w)
  size (export_all s f w) = suc (size w)
  size (export_decl s e) = suc (size e)
  size (export_default_decl s e) = suc (size e)
  size (export_default_expr s e) = suc (size e)
  size (method_prop s k f) = suc (size k + size f)
  size (getter_prop s k b) = suc (size k + size b)
  size (setter_prop s k p b) = suc (size k + (size p + size b))
  size _ = 1

  pub sizes : Trees → ℕ
  sizes none = 0
  sizes (more t ts) = suc (size t + sizes ts)

-- ---- nodes of which the relation asks for a kind of child first

-- what is called: `super`, `import`, or an expression
abbrev pub CalleeSort : Tree → Type 0
CalleeSort f = ((q : Span) × (f ≡ super q)) ⊎ (((q : Span) × (f ≡ import q)) ⊎ ((s : Span) (xs : Trees) (c : Code) (ts r : Input) → Produces (call_expr s f xs) c ts r → Call c s (child f (λ y. Produces f y)) (children xs) ts r))

pub callee_sort : (f : Tree) → CalleeSort f
callee_sort (super q) = inl (q, refl)
callee_sort (import q) = inr (inl (q, refl))
callee_sort _ = inr (inr (λ s xs c ts r h. h))

-- a `yield` with an operand
pub as_yield : (s : Span) (a : Tree) (g : Bool) (c : Code) (ts r : Input) → is_absent a ≡ false → Produces (yield_expr s a g) c ts r → Yield c s (child a (λ y. Produces a y)) g ts r
as_yield s absent g c ts r e h = absurd (true≢false e)
as_yield s _ g c ts r e h = h

pub chain_level : (t : Tree) → is_chain t ≡ true → level t ≡ 19
chain_level (opt_chain_expr s q b) e = refl
chain_level _ e = absurd (true≢false (sym e))

pub by_cases : (b : Bool) (P Q R : Type 0) → By b P Q → (b ≡ true → P → R) → (b ≡ false → Q → R) → R
by_cases true P Q R h f g = f refl h
by_cases false P Q R h f g = g refl h

-- ---- operators

pub by_unary : (op : ℕ) (P : ℕ → Type 0) → is_unary_op op ≡ true → P sub_kind → P add_kind → P bang_kind → P tilde_kind → P typeof_kind → P void_kind → P delete_kind → P op
by_unary op P h a b d e f g k =
    let at : (n : ℕ) → P n → eqb op n ≡ true → P op = λ n p q. subst P (sym (eqb-true op n q)) p in
    ⊎_elim (at sub_kind a) (λ h. ⊎_elim (at add_kind b) (λ h. ⊎_elim (at bang_kind d) (λ h. ⊎_elim (at tilde_kind e) (λ h. ⊎_elim (at typeof_kind f) (λ h. ⊎_elim (at void_kind g) (at delete_kind k)
    (or_cases _ _ h)) (or_cases _ _ h)) (or_cases _ _ h)) (or_cases _ _ h)) (or_cases _ _ h)) (or_cases _ _ h)

pub by_update : (op : ℕ) (P : ℕ → Type 0) → is_update_op op ≡ true → P plus_plus_kind → P minus_minus_kind → P op
by_update op P h a b =
    let at : (n : ℕ) → P n → eqb op n ≡ true → P op = λ n p q. subst P (sym (eqb-true op n q)) p in
    ⊎_elim (at plus_plus_kind a) (at minus_minus_kind b) (or_cases _ _ h)

-- ---- starts

-- the kinds that start an expression
abbrev pub begins : ℕ → Bool
begins k = (is_word k && not (k == in_kind)) || ((k == left_brace_kind) || ((k == back_quote_kind) || ((k == hash_kind) || ((k == bang_kind) || ((k == tilde_kind) || ((k == left_paren_kind) || ((k == left_bracket_kind) || ((k == plus_plus_kind) || ((k == minus_minus_kind) || ((k == str_kind) || ((k == regex_kind) || ((k == num_kind) || ((k == big_int_kind) || ((k == add_kind) || (k == sub_kind)))))))))))))))

pub at_kind : (P : ℕ → Bool) (k n : ℕ) → k ≡ n → P n ≡ true → P k ≡ true
at_kind P k n e h = subst (λ (k : ℕ). P k ≡ true) (sym e) h

pub no_kind : (P : ℕ → Bool) (k n : ℕ) → P k ≡ true → P n ≡ false → eqb k n ≡ false
no_kind P k n h e = ne_eqb k n (λ q. true≢false (sym h ∙ ap P q ∙ e))

pub private_starts : (a : Tree) (c : Code) (ts r : Input) → is_private a ≡ true → Produces a c ts r → kind ts ≡ hash_kind
private_starts (private_name s n) c ts r p h = h.1.0
private_starts _ c ts r p h = absurd (true≢false (sym p))

member_least : (s : Span) (o k : Tree) (c : Code) (ts r : Input) → Produces (member_expr s o k) c ts r → 1 ≤ level (member_expr s o k)
member_least s o (computed_prop_name t e) c ts r h = omega (arith, h.2.0)
member_least s o k c ts r h = omega (arith, h.2.0)

pub name_begins : (c : Code) (ts : Input) → is_word (kind ts) ≡ true → no_name c.context (kind ts) ≡ false → begins (kind ts) ≡ true
name_begins c ts w n = or_left (is_word (kind ts) && not (kind ts == in_kind)) _ (and_from (is_word (kind ts)) _ w (ap not (ne_eqb (kind ts) in_kind (λ q. true≢false (sym (ap always_reserved q) ∙ (or_parts (always_reserved (kind ts)) _ n).0)))))

-- how an arrow starts
arrow_starts : (i : Bool) (c : Code) (ps : Trees) (ts m : Input) → ArrowHead i c (children ps) ts m → begins (kind ts) ≡ true
arrow_starts true c ps ts m h = at_kind begins (kind ts) async_kind h.2.0.0 refl
arrow_starts false c ps ts m h = ⊎_elim (λ w. subst (λ (y : Input). begins (kind y) ≡ true) (sym h.2) (bare_begins ps w)) (λ w. subst (λ (y : Input). begins (kind y) ≡ true) (sym h.2) (at_kind begins (kind h.0) left_paren_kind w.1.0 refl)) h.3
  where
    bare_begins : (ps : Trees) → BareName c (children ps) h.0 h.1 → begins (kind h.0) ≡ true
    bare_begins none w = absurd w
    bare_begins (more (binding_ident q (ident t n)) ps) w = name_begins c h.0 w.1.1.1.0.0 w.1.1.1.0.1
    bare_begins (more (binding_ident q x) ps) w = absurd w.1.1
    bare_begins (more x ps) w = absurd (true≢false (sym w.1.0))

-- how a function as an expression starts
function_starts : (s : Span) (n f : Tree) (c : Code) (ts r : Input) → Produces (fn_expr s n f) c ts r → begins (kind ts) ≡ true
function_starts s n (function t ps ds b g true) c ts r h = at_kind begins (kind ts) async_kind h.2.2.0.0 refl
function_starts s n (function t ps ds b g false) c ts r h = at_kind begins (kind ts) function_kind (ap (λ (y : Input). kind y) h.2.2 ∙ h.2.3.0) refl
function_starts s n _ c ts r h = absurd h

pub function_word : (s : Span) (n f : Tree) (c : Code) (ts r : Input) → Produces (fn_expr s n f) c ts r → is_word (kind ts) ≡ true
function_word s n (function t ps ds b g true) c ts r h = at_kind is_word (kind ts) async_kind h.2.2.0.0 refl
function_word s n (function t ps ds b g false) c ts r h = at_kind is_word (kind ts) function_kind (ap (λ (y : Input). kind y) h.2.2 ∙ h.2.3.0) refl
function_word s n _ c ts r h = absurd h

pub starts : (t : Tree) (c : Code) (ts r : Input) → Covered t → 1 ≤ level t → Produces t c ts r → begins (kind ts) ≡ true
starts (this_expr s) c ts r g l h = at_kind begins (kind ts) this_kind h.0.0 refl
starts (null_lit s) c ts r g l h = at_kind begins (kind ts) null_kind h.0.0 refl
starts (bool_lit s true) c ts r g l h = at_kind begins (kind ts) true_kind h.0.0 refl
starts (bool_lit s false) c ts r g l h = at_kind begins (kind ts) false_kind h.0.0 refl
starts (ident s n) c ts r g l h = or_left (is_word (kind ts) && not (kind ts == in_kind)) _ (and_from (is_word (kind ts)) _ h.0.0 (ap not (ne_eqb (kind ts) in_kind (λ q. true≢false (sym (ap always_reserved q) ∙ (or_parts (always_reserved (kind ts)) _ h.0.1).0)))))
starts (str_lit s u w) c ts r g l h = at_kind begins (kind ts) str_kind h.3.0 refl
starts (number_lit s v w) c ts r g l h = at_kind begins (kind ts) num_kind h.3.0 refl
starts (big_int_lit s b d w) c ts r g l h = at_kind begins (kind ts) big_int_kind h.3.0 refl
starts (regex_lit s e f) c ts r g l h = at_kind begins (kind ts) regex_kind h.1.0 refl
starts (paren_expr s e) c ts r g l h = at_kind begins (kind ts) left_paren_kind h.2.0 refl
starts (array_lit s xs) c ts r g l h = at_kind begins (kind ts) left_bracket_kind h.1.0 refl
starts (unary_expr s op a) c ts r g l h = at_kind begins (kind ts) op h.2.0 (by_unary op (λ o. begins o ≡ true) h.1 refl refl refl refl refl refl refl)
starts (update_expr s op true a) c ts r g l h = at_kind begins (kind ts) op h.2.0 (by_update op (λ o. begins o ≡ true) h.1 refl refl)
starts (update_expr s op false a) c ts r g l h = starts a (assigning c) ts h.0 g (omega (arith, h.2.0)) h.2.1
starts (await_expr s a) c ts r g l h = at_kind begins (kind ts) await_kind h.2.0 refl
starts (bin_expr s op a b) c ts r g l h = ⊎_elim (λ (p : is_private a ≡ true). at_kind begins (kind ts) hash_kind (private_starts a (assigning c) ts h.0 p h.4) refl)
    (λ (p : is_private a ≡ false). starts a (assigning c) ts h.0 g.0 (omega (arith, binary_four op (operated c op h.2), fits op a p (operated c op h.2) h.3)) h.4) (cases_Bool (is_private a))
starts (cond_expr s a b d) c ts r g l h = starts a (assigning c) ts h.0 g.0 (omega (arith, h.4.0)) h.4.1
starts (seq_expr s none) c ts r g l h = absurd h
starts (seq_expr s (more x none)) c ts r g l h = absurd h
starts (seq_expr s (more x (more y ys))) c ts r g l h = starts x (assigning c) ts h.0 g.0 (omega (arith, h.1.0)) h.1.1
starts (member_expr s o (computed_prop_name t e)) c ts r g l h = starts o (assigning c) ts h.0 g.0 (omega (arith, h.2.0)) h.2.1
starts (member_expr s o (ident_name t n)) c ts r g l h = starts o (assigning c) ts h.0 g.0 (omega (arith, h.2.0)) h.2.1
starts (member_expr s o (private_name t n)) c ts r g l h = starts o (assigning c) ts h.0 g.0 (omega (arith, h.2.0)) h.2.1
starts (call_expr s (super q) xs) c ts r g l h = at_kind begins (kind ts) super_kind h.1.0 refl
starts (call_expr s (import q) xs) c ts r g l h = at_kind begins (kind ts) import_kind h.2.0 refl
starts (call_expr s f xs) c ts r g l h = starts f (assigning c) ts h.0 g.0 (omega (arith, h.2.0)) h.2.1
starts (tpl s es qs) c ts r g l h = at_kind begins (kind ts) back_quote_kind h.1.0 refl
starts (tagged_tpl s t (tpl o es qs)) c ts r g l h = starts t (assigning c) ts h.0 g.0 (omega (arith, h.2.0)) h.2.1
starts (tagged_tpl s t q) c ts r g l h = absurd h
starts (opt_chain_expr s true (member_expr t o (computed_prop_name b e))) c ts r g l h = starts o (assigning c) ts h.0 g.0 (omega (arith, h.2.0)) h.2.1
starts (opt_chain_expr s true (member_expr t o k)) c ts r g l h = starts o (assigning c) ts h.0 g.0 (omega (arith, h.2.0)) h.2.1
starts (opt_chain_expr s true (opt_call t f xs)) c ts r g l h = starts f (assigning c) ts h.0 g.0 (omega (arith, h.2.0)) h.2.1
starts (opt_chain_expr s false (member_expr t o (computed_prop_name b e))) c ts r g l h = starts o (assigning c) ts h.0 g.0 (omega (arith, chain_level o h.1)) h.2
starts (opt_chain_expr s false (member_expr t o k)) c ts r g l h = starts o (assigning c) ts h.0 g.0 (omega (arith, chain_level o h.1)) h.2
starts (opt_chain_expr s false (opt_call t f xs)) c ts r g l h = starts f (assigning c) ts h.0 g.0 (omega (arith, chain_level f h.1)) h.2
starts (opt_chain_expr s q b) c ts r g l h = absurd h
starts (super_prop_expr s (super t) (computed_prop_name q e)) c ts r g l h = at_kind begins (kind ts) super_kind h.1.0 refl
starts (super_prop_expr s (super t) k) c ts r g l h = at_kind begins (kind ts) super_kind h.1.0 refl
starts (super_prop_expr s o k) c ts r g l h = absurd h
starts (meta_prop_expr s k) c ts r g l h = at_kind begins (kind ts) k h.2.0 (⊎_elim (λ e. at_kind begins k new_kind e.0 refl) (λ e. at_kind begins k import_kind e.0 refl) h.4)
starts (yield_expr s absent q) c ts r g l h = at_kind begins (kind ts) yield_kind h.1.1.0 refl
starts (yield_expr s a false) c ts r g l h = at_kind begins (kind ts) yield_kind h.2.0 refl
starts (yield_expr s a true) c ts r g l h = at_kind begins (kind ts) yield_kind h.3.0 refl
starts (object_lit s ps) c ts r g l h = at_kind begins (kind ts) left_brace_kind h.1.0 refl
starts (key_value_prop s k v) c ts r g l h = absurd (omega arith)
starts (arrow_expr s ps (block_stmt b ss) i) c ts r g l h = arrow_starts i c ps ts h.0 h.1
starts (fn_expr s n f) c ts r g l h = function_starts s n f c ts r h
starts (class_expr s n k) c ts r g l h = at_kind begins (kind ts) class_kind h.2.0 refl
starts (arrow_expr s ps e i) c ts r g l h = arrow_starts i c ps ts h.0 h.1
starts (assign_expr s op (binding_ident q (ident t n)) b) c ts r g l h = name_begins c ts h.4.1.0.0 h.4.1.0.1
starts (assign_expr s op (binding_ident q i) b) c ts r g l h = absurd h.4
starts (assign_expr s op (array_pat q xs) b) c ts r g l h = at_kind begins (kind ts) left_bracket_kind h.4.1.0 refl
starts (assign_expr s op (object_pat q ps) b) c ts r g l h = at_kind begins (kind ts) left_brace_kind h.4.1.0 refl
starts (assign_expr s op (member_expr q o k) b) c ts r g l h = starts (member_expr q o k) (assigning c) ts h.0 g.0 (member_least q o k (assigning c) ts h.0 h.4) h.4
starts (assign_expr s op (super_prop_expr q o k) b) c ts r g l h = starts (super_prop_expr q o k) (assigning c) ts h.0 g.0 (omega arith) h.4
starts (assign_expr s op (paren_expr q e) b) c ts r g l h = starts (paren_expr q e) (assigning c) ts h.0 g.0 (omega arith) h.4
starts (assign_expr s op a b) c ts r g l h = absurd (true≢false (sym h.3 ∙ and_false (op == 60)))
starts (binding_ident s i) c ts r g l h = absurd (omega arith)
starts (array_pat s xs) c ts r g l h = absurd (omega arith)
starts (object_pat s ps) c ts r g l h = absurd (omega arith)
starts (assign_pat s a e) c ts r g l h = absurd (omega arith)
starts (rest_pat s d a) c ts r g l h = absurd (omega arith)
starts (key_value_pat_prop s k a) c ts r g l h = absurd (omega arith)
starts (assign_pat_prop s k e) c ts r g l h = absurd (omega arith)
starts (expr_pat e) c ts r g l h = absurd (omega arith)
starts (assign_prop s k e) c ts r g l h = absurd (omega arith)
starts (spread_element s e) c ts r g l h = absurd (omega arith)
starts (opt_call s f xs) c ts r g l h = absurd h
starts (super s) c ts r g l h = absurd h
starts (import s) c ts r g l h = absurd h
starts (new_expr s f absent) c ts r g l h = at_kind begins (kind ts) new_kind h.1.0 refl
starts (new_expr s f (list xs)) c ts r g l h = at_kind begins (kind ts) new_kind h.2.0 refl
starts (new_expr s f xs) c ts r g l h = absurd h
starts absent c ts r g l h = absurd h
starts hole c ts r g l h = absurd h
starts (list xs) c ts r g l h = absurd h
starts (member_expr s o k) c ts r g l h = starts o (assigning c) ts h.0 g.0 (omega (arith, h.2.0)) h.2.1
starts (expr_or_spread s d e) c ts r g l h = absurd (omega arith)
starts (computed_prop_name s e) c ts r g l h = absurd (omega arith)
starts (ident_name s n) c ts r g l h = absurd (omega arith)
starts (private_name s n) c ts r g l h = absurd (omega arith)
starts _ c ts r g l h = absurd (omega arith)

-- ---- what an expression ends in

pub ends_low : (t : Tree) (c : Code) (ts r : Input) → Covered t → 4 ≤ level t → Produces t c ts r → ends t ≤ 1
ends_low (unary_expr s op a) c ts r g l h = ends_low a (assigning c) h.0 r g (omega (arith, h.3.0)) h.3.1
ends_low (update_expr s op true a) c ts r g l h = ends_low a (assigning c) h.0 r g (omega (arith, h.3.0)) h.3.1
ends_low (update_expr s op false a) c ts r g l h = omega arith
ends_low (await_expr s a) c ts r g l h = ends_low a (assigning c) h.0 r g (omega (arith, h.3.0)) h.3.1
ends_low (bin_expr s op a b) c ts r g l h = ends_low b (assigning c) h.1 r g.1 (omega (arith, h.6.0, right_five op (operated c op h.2))) h.6.1
ends_low (cond_expr s a b d) c ts r g l h = absurd (omega arith)
ends_low (seq_expr s xs) c ts r g l h = absurd (omega arith)
ends_low (this_expr s) c ts r g l h = omega arith
ends_low (null_lit s) c ts r g l h = omega arith
ends_low (bool_lit s v) c ts r g l h = omega arith
ends_low (ident s n) c ts r g l h = omega arith
ends_low (str_lit s u w) c ts r g l h = omega arith
ends_low (number_lit s v w) c ts r g l h = omega arith
ends_low (big_int_lit s b d w) c ts r g l h = omega arith
ends_low (regex_lit s e f) c ts r g l h = omega arith
ends_low (paren_expr s e) c ts r g l h = omega arith
ends_low (array_lit s xs) c ts r g l h = omega arith
ends_low (member_expr s o k) c ts r g l h = omega arith
ends_low (call_expr s f xs) c ts r g l h = omega arith
ends_low (new_expr s f xs) c ts r g l h = omega arith
ends_low absent c ts r g l h = omega arith
ends_low hole c ts r g l h = omega arith
ends_low (list xs) c ts r g l h = omega arith
ends_low (expr_or_spread s d e) c ts r g l h = omega arith
ends_low (computed_prop_name s e) c ts r g l h = omega arith
ends_low (ident_name s n) c ts r g l h = omega arith
ends_low (private_name s n) c ts r g l h = omega arith
ends_low (tpl s es qs) c ts r g l h = omega arith
ends_low (tagged_tpl s t q) c ts r g l h = omega arith
ends_low (opt_chain_expr s q b) c ts r g l h = omega arith
ends_low (opt_call s f xs) c ts r g l h = omega arith
ends_low (object_lit s ps) c ts r g l h = omega arith
ends_low (key_value_prop s k v) c ts r g l h = omega arith
ends_low (assign_expr s op a b) c ts r g l h = absurd (omega arith)
ends_low (arrow_expr s ps b i) c ts r g l h = absurd (omega arith)
ends_low (binding_ident s i) c ts r g l h = omega arith
ends_low (array_pat s xs) c ts r g l h = omega arith
ends_low (object_pat s ps) c ts r g l h = omega arith
ends_low (assign_pat s a e) c ts r g l h = omega arith
ends_low (rest_pat s d a) c ts r g l h = omega arith
ends_low (key_value_pat_prop s k a) c ts r g l h = omega arith
ends_low (assign_pat_prop s k e) c ts r g l h = omega arith
ends_low (expr_pat e) c ts r g l h = omega arith
ends_low (assign_prop s k e) c ts r g l h = omega arith
ends_low (spread_element s e) c ts r g l h = omega arith
ends_low (super s) c ts r g l h = omega arith
ends_low (import s) c ts r g l h = omega arith
ends_low (super_prop_expr s o k) c ts r g l h = omega arith
ends_low (meta_prop_expr s k) c ts r g l h = omega arith
ends_low (yield_expr s a q) c ts r g l h = absurd (omega arith)
ends_low (fn_expr s n f) c ts r g l h = omega arith
ends_low (class_expr s n k) c ts r g l h = omega arith
ends_low _ c ts r g l h = absurd (omega arith)

-- ---- lengths

pub some_word : (ts : Input) → is_word (kind ts) ≡ true → kind ts ≡ 0 → ⊥
some_word ts h e = let z : 80 ≤ kind ts = leb-true 80 (kind ts) h in omega arith

some_kind : (k : ℕ) (ts : Input) → kind ts ≡ k → 1 ≤ k → kind ts ≡ 0 → ⊥
some_kind k ts h l e = omega arith

-- a token of a kind is taken
pub takes : (k : ℕ) (ts r : Input) → kind ts ≡ k → 1 ≤ k → rest ts ≡ r → len r < len ts
takes k ts r h l e = shorter ts r (some_kind k ts h l) e

some_unary : (op : ℕ) → is_unary_op op ≡ true → 1 ≤ op
some_unary op h = by_unary op (λ o. 1 ≤ o) h (omega arith) (omega arith) (omega arith) (omega arith) (omega arith) (omega arith) (omega arith)

pub some_update : (op : ℕ) → is_update_op op ≡ true → 1 ≤ op
some_update op h = by_update op (λ o. 1 ≤ o) h (omega arith) (omega arith)

pub some_assign : (op : ℕ) → is_assign_op op ≡ true → 1 ≤ op
some_assign op h = let w : 60 ≤ op = leb-true 60 op (and_parts (leb 60 op) (leb op 75) h).0 in omega arith

pub some_binary : (c : Code) (op : ℕ) → operates c op ≡ true → 1 ≤ op
some_binary c op h = binary_cases op (1 ≤ op) (operated c op h) (λ a b. omega arith) (λ e. omega arith) (λ e. omega arith)
