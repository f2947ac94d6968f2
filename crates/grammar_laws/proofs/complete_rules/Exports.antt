-- Exports (16.2.3): what their rules answer.
use Rattle.std.proofs.Common.{◌≡◌, ℕ, ◌<◌, ◌≤◌, inl, inr, Bool, true, false, not, ◌&&◌, ◌||◌, ◌==◌, eqb, List, Option, Some, None, refl, sym, ap, ◌∙◌, subst, ⊎_elim, true≢false, arith}
use Rattle.std.proofs.lemmas.Bool.{eqb-true, eq-eqb, cases_Bool, or_left, or_right, or_cases, or_parts, and_left, and_parts, and_from, not-true}
use Rattle.base_token.specs.declared.place.Span.{Span}
use Rattle.base_token.specs.Kinds.{end_kind, mul_kind, left_brace_kind, right_brace_kind, default_kind, function_kind, class_kind, extends_kind, export_kind, as_kind, from_kind, async_kind}
use Rattle.tree_spec.specs.Tree.{Tree, Trees, none, more, pack, unpack, function, class, fn_expr, class_expr, class_decl, fn_decl, var_decl, named_export, export_all, export_decl, export_default_decl, export_default_expr, export_namespace_specifier, ident, absent}
use Rattle.tree_spec.proofs.PackLemmas.{pack_unpack}
use Rattle.grammar_spec.specs.Tokens.Input.{Input, Code, kind, kind2, brk, lo, span, first_span, rest, is_word, no_name, in_list, with_in, turned_strict, TakesWord}
use Rattle.grammar_spec.specs.Tokens.Operators.{assignment_level, exports_end, goes_on}
use Rattle.grammar_spec.specs.Tokens.Shape.{level, ends, is_absent, is_item, is_statement, is_declaration, is_exportable, is_named_export, class_span}
use Rattle.grammar_spec.specs.Children.{child, Ends}
use Rattle.grammar_spec.specs.Functions.{Async}
use Rattle.grammar_spec.specs.Statements.{is_var_word}
use Rattle.grammar_spec.specs.Modules.{ExportList, ExportStarAs, ExportDefault, starts_default}
use Rattle.grammar_spec.specs.Grammar.{Produces, children}
use Rattle.grammar_spec.specs.Reader.Source.{Inner, is_name}
use Rattle.grammar_spec.specs.Reader.Expressions.{function_expr_by, class_expr_by}
use Rattle.grammar_spec.specs.Reader.Statements.{starts_async}
use Rattle.grammar_spec.specs.Reader.Modules.{export_name_by, source_by, specifiers_by, export_default, export_star, export_list, starts_declaration, export_by}
use Rattle.grammar_laws.proofs.complete_base.Yields.{lm, from, coded, Reads, Is, named, then_is, then_eat, then_word, then_name, onto, here, if_no, if_yes}
use Rattle.grammar_laws.proofs.complete_base.Trees.{by_cases, no_kind}
use Rattle.grammar_laws.proofs.complete_rules.Lists.{two_asked}
use Rattle.grammar_laws.proofs.complete_rules.Nested.{Nested, leaves}
use Rattle.grammar_laws.proofs.complete_rules.Within.{Within, within}
use Rattle.grammar_laws.proofs.complete_rules.Follows.{end_follows, ends_two, then_end}
use Rattle.grammar_laws.proofs.complete_rules.Starts.{ident_is}
use Rattle.grammar_laws.proofs.complete_rules.Functions.{empty_none, function_expressed}
use Rattle.grammar_laws.proofs.complete_rules.Variables.{declarators_start, var_on}
use Rattle.grammar_laws.proofs.complete_rules.Sources.{Attributed, attributed, export_name_found, source_found}
use Rattle.grammar_laws.proofs.complete_rules.Imports.{specifiers_found, exports_read}
use Rattle.grammar_laws.proofs.Shapes.{absent_is}

-- ---- classes without a name

-- A class without a name goes on with `extends` or a brace, which is no name of one.
tail_nameless : (t : Tree) (s : Span) (c : Code) (ts r : Input) (b : Bool) → class_span t ≡ Some s → Produces t c ts r → ((is_word (kind ts) && (not (no_name c.context (kind ts)) && b)) && not (kind ts == left_brace_kind)) ≡ false
tail_nameless (class q ds ms k) s c ts r b e h = by_cases (is_absent k) _ _ _ h.3
    (λ q y. at left_brace_kind (ap (λ (y : Input). kind y) y ∙ h.4.0) refl) (λ q y. at extends_kind y.1.0 refl)
  where
    at : (n : ℕ) → kind ts ≡ n → ((is_word n && (not (no_name c.context n) && b)) && not (n == left_brace_kind)) ≡ false → ((is_word (kind ts) && (not (no_name c.context (kind ts)) && b)) && not (kind ts == left_brace_kind)) ≡ false
    at n q h = subst (λ (n : ℕ). ((is_word n && (not (no_name c.context n) && b)) && not (n == left_brace_kind)) ≡ false) (sym q) h
tail_nameless _ s c ts r b e h = absurd (true≢false (ap (λ (o : Option Span). elim o [ None ↦ true | Some x ↦ false ]) e))

-- ---- what may be exported

-- the kinds that start a declaration which may be exported
abbrev pub declares : ℕ → Bool
declares k = (k == function_kind) || ((k == class_kind) || ((k == async_kind) || is_var_word k))

exportable_item : (d : Tree) → is_exportable d ≡ true → is_item d ≡ true
exportable_item (class_decl s n k) h = refl
exportable_item (fn_decl s n f) h = refl
exportable_item (var_decl s k ds) h = ⊎_elim (λ q. or_right (is_statement (var_decl s k ds)) _ q) (λ q. or_left (is_statement (var_decl s k ds)) _ (ap not q)) (cases_Bool (is_declaration (var_decl s k ds)))
exportable_item _ h = absurd (true≢false (sym h))

pub declared_kind : (d : Tree) (c : Code) (ts r : Input) → is_exportable d ≡ true → Produces d c ts r → declares (kind ts) ≡ true
declared_kind (class_decl s n k) c ts r e h = subst (λ (k : ℕ). declares k ≡ true) (sym h.2.0) refl
declared_kind (fn_decl s n (function t ps ds b g true)) c ts r e h = subst (λ (k : ℕ). declares k ≡ true) (sym h.2.2.0.0) refl
declared_kind (fn_decl s n (function t ps ds b g false)) c ts r e h = subst (λ (k : ℕ). declares k ≡ true) (sym (ap (λ (w : Input). kind w) h.2.2 ∙ h.2.3.0)) refl
declared_kind (fn_decl s n _) c ts r e h = absurd h
declared_kind (var_decl s k ds) c ts r e h = or_right (kind ts == function_kind) _ (or_right (kind ts == class_kind) _ (or_right (kind ts == async_kind) _ (subst (λ (k : ℕ). is_var_word k ≡ true) (sym h.1.2.0) h.1.1)))
declared_kind _ c ts r e h = absurd (true≢false (sym e))

-- `async` before `function` on its line
async_on : (inner : Inner Input) (c : Code) (ts m n : Input) (k : List ℕ) → Async true c ts m → kind m ≡ function_kind → starts_async lm inner (from ts k) ≡ true
async_on inner c ts m n k a q = and_from (kind ts == async_kind) _ (eq-eqb (kind ts) async_kind a.0.0) (and_from (kind2 ts == function_kind) _ (eq-eqb (kind2 ts) function_kind (ap (λ (y : Input). kind y) a.0.3 ∙ q))
    (ap not (ap (λ (y : Input). brk y) a.0.3 ∙ a.1)))

declaration_starts : (inner : Inner Input) (d : Tree) (c : Code) (ts r : Input) (k : List ℕ) → is_exportable d ≡ true → Produces d (in_list c) ts r → starts_declaration lm inner (in_list c) (from ts k) ≡ true
declaration_starts inner (class_decl s n x) c ts r k e h = or_right (kind ts == function_kind) _ (or_left (kind ts == class_kind) _ (eq-eqb (kind ts) class_kind h.2.0))
declaration_starts inner (fn_decl s n (function t ps ds b g true)) c ts r k e h = or_right (kind ts == function_kind) _ (or_right (kind ts == class_kind) _ (or_left (starts_async lm inner (from ts k)) _ (async_on inner c ts h.2.0 h.2.1 k h.2.2 h.2.3.0)))
declaration_starts inner (fn_decl s n (function t ps ds b g false)) c ts r k e h = or_left (kind ts == function_kind) _ (eq-eqb (kind ts) function_kind (ap (λ (w : Input). kind w) h.2.2 ∙ h.2.3.0))
declaration_starts inner (fn_decl s n _) c ts r k e h = absurd h
declaration_starts inner (var_decl s o ds) c ts r k e h = or_right (kind ts == function_kind) _ (or_right (kind ts == class_kind) _ (or_right (starts_async lm inner (from ts k)) _
    (var_on inner o ts h.1.0 k h.1.1 h.1.2.0 h.1.2.3 (declarators_start ds (in_list c) h.1.0 h.0 h.1.3))))
declaration_starts inner _ c ts r k e h = absurd (true≢false (sym e))

-- what ends after a list is no `from`
no_from : (p : Bool) (c : Code) (m r : Input) → Ends (coded p c) exports_end m r → eqb (kind m) from_kind ≡ false
no_from p c m r (inl h) = subst (λ (k : ℕ). eqb k from_kind ≡ false) (sym h.0) refl
no_from p c m r (inr h) = ⊎_elim (λ q. subst (λ (k : ℕ). eqb k from_kind ≡ false) (sym (eqb-true (kind m) right_brace_kind q)) refl) (λ q. ⊎_elim
    (λ q. subst (λ (k : ℕ). eqb k from_kind ≡ false) (sym (eqb-true (kind m) end_kind q)) refl) (λ q. not-true (goes_on c exports_end m) (and_parts (brk m) _ q).1)
    (or_cases (kind m == end_kind) _ q)) (or_cases (kind m == right_brace_kind) _ h.1)

module _ (z : Nested) (p : Bool) (c : Code) where
  -- ---- class expressions

  pub class_expressed : (s : Span) (x t : Tree) (ts r : Input) (k : List ℕ) → Within z.Covered (class_expr s x t) → Produces (class_expr s x t) (coded p c) ts r → Reads (from ts k) (class_expr_by lm z.inner c (from ts k)) (Is (class_expr s x t) r) (z.depth < within z.reach (class_expr s x t))
  unfolding class_expr_by
  class_expressed s x t ts r k w h = then_word c class_kind ts h.0 k _ _ _ h.2.0 h.2.1 h.2.3 (by_cases (is_absent x) _ _ _ h.3
      (λ q y. let v = subst (λ (y : Input). Produces t (turned_strict (with_in (coded p c))) y r) (sym y) h.4 in
      if_no (is_name lm (turned_strict c) (from h.0 k) && not (kind h.0 == left_brace_kind)) _ _ _ _ (tail_nameless t s (turned_strict (with_in (coded p c))) h.0 r _ h.5 v)
      (then_is (z.inner.class_tail (turned_strict (with_in c)) (lo ts) (from h.0 k)) _ t r (z.depth < z.reach t) _ _ (z.class_tail t (lo ts) p (turned_strict (with_in c)) h.0 r k w refl (h.5 ∙ ap Some h.6) v) (λ u. u)
      (λ j. here (ap (λ (d : Span). class_expr d absent t) (sym h.6) ∙ ap (λ (d : Tree). class_expr s d t) (sym (absent_is x q))))))
      (λ q y. let o = ident_is x (coded p (turned_strict c)) h.0 h.1 y.0 y.1 in
      if_yes (is_name lm (turned_strict c) (from h.0 k) && not (kind h.0 == left_brace_kind)) _ _ _ _ (and_from (is_name lm (turned_strict c) (from h.0 k)) _ (named (turned_strict c) h.0 k o.2) (ap not (no_kind is_word (kind h.0) left_brace_kind o.2.0 refl)))
      (then_name (turned_strict c) h.0 h.1 o.0 k _ _ _ o.2 o.3 o.4 (then_is (z.inner.class_tail (turned_strict (with_in c)) (lo ts) (from h.1 k)) _ t r (z.depth < z.reach t) _ _ (z.class_tail t (lo ts) p (turned_strict (with_in c)) h.1 r k w refl (h.5 ∙ ap Some h.6) h.4) (λ u. u)
      (λ j. here (ap (λ (d : Span). class_expr d (ident (first_span h.0) o.0) t) (sym h.6) ∙ ap (λ (d : Tree). class_expr s d t) (sym o.1)))))))

  -- ---- `export` `default`

  module _ (start : Input) (i : List ℕ) (s : Span) (ts r : Input) (k : List ℕ) (e : s ≡ span (lo start) r.last) where
    default_function : (q : Span) (x : Tree) (t : Span) (ps ds : Trees) (b : Tree) (g a : Bool) → Within z.Covered (function t ps ds b g a) → Produces (fn_expr q x (function t ps ds b g a)) (coded p c) ts r
        → Reads (from ts k) (export_default lm z.inner c (lo start) (from ts k)) (Is (export_default_decl s (fn_expr q x (function t ps ds b g a))) r) (z.depth < within z.reach (function t ps ds b g a))
    unfolding export_default
    default_function q x t ps ds b g false w h = let y = function_expressed z p c q x t ps ds b g false ts r k w h in
        if_yes (kind ts == function_kind) _ _ _ _ (eq-eqb (kind ts) function_kind (ap (λ (d : Input). kind d) y.1 ∙ y.2))
        (then_is (function_expr_by lm z.inner c (lo ts) false (from ts k)) _ (fn_expr q x (function t ps ds b g false)) r _ _ _ (subst (λ (d : Input). Reads (from d k) (function_expr_by lm z.inner c (lo ts) false (from d k)) (Is (fn_expr q x (function t ps ds b g false)) r) (z.depth < within z.reach (function t ps ds b g false))) (sym y.1) (y.4 k)) (λ u. u)
        (λ j. here (ap (λ (d : Span). export_default_decl d (fn_expr q x (function t ps ds b g false))) (sym e))))
    default_function q x t ps ds b g true w h = let y = function_expressed z p c q x t ps ds b g true ts r k w h in
        if_no (kind ts == function_kind) _ _ _ _ (subst (λ (n : ℕ). eqb n function_kind ≡ false) (sym y.1.0.0) refl) (if_yes (starts_async lm z.inner (from ts k)) _ _ _ _ (async_on z.inner (coded p c) ts y.0 r k y.1 y.2)
        (then_is (function_expr_by lm z.inner c (lo ts) true (from (rest ts) k)) _ (fn_expr q x (function t ps ds b g true)) r _ _ _ (onto ts y.0 k (λ d. function_expr_by lm z.inner c (lo ts) true d) _ _ y.1.0.3 (y.4 k)) (λ u. u)
        (λ j. here (ap (λ (d : Span). export_default_decl d (fn_expr q x (function t ps ds b g true))) (sym e)))))

    default_class : (q : Span) (x t : Tree) → Within z.Covered (class_expr q x t) → Produces (class_expr q x t) (coded p c) ts r → Reads (from ts k) (export_default lm z.inner c (lo start) (from ts k)) (Is (export_default_decl s (class_expr q x t)) r) (z.depth < within z.reach (class_expr q x t))
    unfolding export_default
    default_class q x t w h = if_no (kind ts == function_kind) _ _ _ _ (subst (λ (n : ℕ). eqb n function_kind ≡ false) (sym h.2.0) refl) (if_no (starts_async lm z.inner (from ts k)) _ _ _ _ (and_left (kind ts == async_kind) _ (subst (λ (n : ℕ). eqb n async_kind ≡ false) (sym h.2.0) refl))
        (if_yes (kind ts == class_kind) _ _ _ _ (eq-eqb (kind ts) class_kind h.2.0) (then_is (class_expr_by lm z.inner c (from ts k)) _ (class_expr q x t) r _ _ _ (class_expressed q x t ts r k w h) (λ u. u) (λ j. here (ap (λ (d : Span). export_default_decl d (class_expr q x t)) (sym e))))))

    default_expression : (x : Tree) (n : Input) → z.Covered x → starts_default ts ≡ true → 2 ≤ level x → Produces x (coded p c) ts n → Ends (coded p c) (ends x) n r → Reads (from ts k) (export_default lm z.inner c (lo start) (from ts k)) (Is (export_default_expr s x) r) (z.depth < z.reach x)
    unfolding export_default
    default_expression x n g o le h v = let y = or_parts (kind ts == function_kind) _ (not-true _ o) in let w = or_parts (kind ts == class_kind) _ y.1 in let u = end_follows p c (ends x) n r v (ends_two x) in
        if_no (kind ts == function_kind) _ _ _ _ y.0 (if_no (starts_async lm z.inner (from ts k)) _ _ _ _ w.1 (if_no (kind ts == class_kind) _ _ _ _ w.0
        (then_is (z.inner.expr c assignment_level (from ts k)) _ x n (z.depth < z.reach x) _ _ (z.expr x p c 2 ts n k g h (omega arith) (omega arith) two_asked le (record { stop = omega (arith, u.stop); calm = λ o _. u.calm o (omega arith); sober = u.sober; quits = u.quits })) (λ u. u)
        (λ j. then_end p c (ends x) n r j _ _ _ v (here (ap (λ (d : Span). export_default_expr d x) (sym e)))))))

  -- `export` and `default`, after which one of these stands
  default_found : (s : Span) (x : Tree) (ts m r : Input) (k : List ℕ) (Q : Type 0) → ExportDefault (coded p c) ts m → Reads (from m k) (export_default lm z.inner c (lo ts) (from m k)) (Is x r) Q → Reads (from ts k) (export_by lm z.inner c (from ts k)) (Is x r) Q
  unfolding export_by
  default_found s x ts m r k Q h y = then_word c export_kind ts h.0 k _ _ _ h.1.0 h.1.1 h.1.3 (if_yes (kind h.0 == default_kind) _ _ _ _ (eq-eqb (kind h.0) default_kind h.2.0) (then_word c default_kind h.0 m k _ _ _ h.2.0 h.2.1 h.2.3 y))

  pub default_decl_found : (s : Span) (d : Tree) (ts r : Input) (k : List ℕ) → Within z.Covered d → Produces (export_default_decl s d) (coded p c) ts r → Reads (from ts k) (export_by lm z.inner c (from ts k)) (Is (export_default_decl s d) r) (z.depth < within z.reach d)
  default_decl_found s (fn_expr q x (function t ps ds b g a)) ts r k w h = default_found s _ ts h.0 r k _ h.1 (default_function ts k s h.0 r k h.4 q x t ps ds b g a w h.3)
  default_decl_found s (fn_expr q x _) ts r k w h = absurd h.3
  default_decl_found s (class_expr q x t) ts r k w h = default_found s _ ts h.0 r k _ h.1 (default_class ts k s h.0 r k h.4 q x t w h.3)
  default_decl_found s _ ts r k w h = absurd (true≢false (sym h.2))

  pub default_expr_found : (s : Span) (x : Tree) (ts r : Input) (k : List ℕ) → z.Covered x → Produces (export_default_expr s x) (coded p c) ts r → Reads (from ts k) (export_by lm z.inner c (from ts k)) (Is (export_default_expr s x) r) (z.depth < z.reach x)
  default_expr_found s x ts r k g h = default_found s _ ts h.0 r k _ h.2 (default_expression ts k s h.0 r k h.6 x h.1 g h.3 h.4.0 h.4.1 h.5)

  -- ---- declarations

  pub declaration_found : (s : Span) (d : Tree) (ts r : Input) (k : List ℕ) → z.Covered d → Produces (export_decl s d) (coded p c) ts r → leaves c.context d r ≡ true → Reads (from ts k) (export_by lm z.inner c (from ts k)) (Is (export_decl s d) r) (z.depth < z.reach d)
  unfolding export_by
  declaration_found s d ts r k g h f = let q = declared_kind d (in_list (coded p c)) h.0 r h.2 h.3 in
      then_word c export_kind ts h.0 k _ _ _ h.1.0 h.1.1 h.1.3 (if_no (kind h.0 == default_kind) _ _ _ _ (no_kind declares (kind h.0) default_kind q refl) (if_no (kind h.0 == mul_kind) _ _ _ _ (no_kind declares (kind h.0) mul_kind q refl)
      (if_no (kind h.0 == left_brace_kind) _ _ _ _ (no_kind declares (kind h.0) left_brace_kind q refl) (if_yes (starts_declaration lm z.inner (in_list c) (from h.0 k)) _ _ _ _ (declaration_starts z.inner d (coded p c) h.0 r k h.2 h.3)
      (then_is (z.inner.stmt (in_list c) (from h.0 k)) _ d r (z.depth < z.reach d) _ _ (z.stmt d p (in_list c) h.0 r k g (exportable_item d h.2) h.3 f) (λ u. u)
      (λ j. if_yes (is_exportable d) _ _ _ _ h.2 (here (ap (λ (y : Span). export_decl y d) (sym h.4)))))))))

  -- ---- a star, and lists

  pub all_found : (s : Span) (f w : Tree) (ts r : Input) (k : List ℕ) → Attributed z.Covered w → Produces (export_all s f w) (coded p c) ts r → Reads (from ts k) (export_by lm z.inner c (from ts k)) (Is (export_all s f w) r) (z.depth < attributed z.reach w)
  unfolding export_by export_star
  all_found s f w ts r k g h = then_word c export_kind ts h.0 k _ _ _ h.3.0 h.3.1 h.3.3 (if_no (kind h.0 == default_kind) _ _ _ _ (subst (λ (n : ℕ). eqb n default_kind ≡ false) (sym h.4.0) refl) (if_yes (kind h.0 == mul_kind) _ _ _ _ (eq-eqb (kind h.0) mul_kind h.4.0)
      (then_eat mul_kind h.0 h.1 k _ _ _ h.4.0 h.4.2 (if_no (kind h.1 == as_kind) _ _ _ _ (subst (λ (n : ℕ). eqb n as_kind ≡ false) (sym h.5.0) refl) (then_word c from_kind h.1 h.2 k _ _ _ h.5.0 h.5.1 h.5.3
      (then_is (source_by lm z.inner c (from h.2 k)) _ (record { src = f; with_ = w }) r (z.depth < attributed z.reach w) _ _ (source_found z p c f w h.2 r k g h.6) (λ u. u) (λ j. here (ap (λ (y : Span). export_all y f w) (sym h.7)))))))))

  star_as : (start : Input) (i : List ℕ) (s q : Span) (x f w : Tree) (m r : Input) (k : List ℕ) → Attributed z.Covered w → ExportStarAs (coded p c) (child (export_namespace_specifier q x) (λ y. Produces (export_namespace_specifier q x) y)) (child f (λ y. Produces f y)) (child w (λ y. Produces w y)) m r → s ≡ span (lo start) r.last
      → Reads (from m k) (export_star lm z.inner c (lo start) (from m k)) (Is (named_export s (more (export_namespace_specifier q x) none) f w) r) (z.depth < attributed z.reach w)
  unfolding export_star
  star_as start i s q x f w m r k g h e = let v = h.2 in then_eat mul_kind m v.0 k _ _ _ v.2.0 v.2.2 (if_yes (kind v.0 == as_kind) _ _ _ _ (eq-eqb (kind v.0) as_kind v.3.0) (then_word c as_kind v.0 v.1 k _ _ _ v.3.0 v.3.1 v.3.3
      (then_is (export_name_by lm z.inner (from v.1 k)) _ x h.0 ⊥ _ _ (export_name_found z p c x v.1 h.0 k ⊥ v.4) (λ u. absurd u) (λ j. then_word c from_kind h.0 h.1 j _ _ _ h.3.0 h.3.1 h.3.3
      (then_is (source_by lm z.inner c (from h.1 j)) _ (record { src = f; with_ = w }) r (z.depth < attributed z.reach w) _ _ (source_found z p c f w h.1 r j g h.4) (λ u. u)
      (λ l. here (ap (λ (y : Span). named_export y (more (export_namespace_specifier (span (lo m) h.0.last) x) none) f w) (sym e) ∙ ap (λ (y : Span). named_export s (more (export_namespace_specifier y x) none) f w) (sym v.5))))))))

  list_found : (start : Input) (i : List ℕ) (s : Span) (xs : Trees) (f w : Tree) (m r : Input) (k : List ℕ) → Attributed z.Covered w → ExportList (coded p c) (children xs) (child f (λ y. Produces f y)) (child w (λ y. Produces w y)) m r → s ≡ span (lo start) r.last
      → Reads (from m k) (export_list lm z.inner c (lo start) (from m k)) (Is (named_export s xs f w) r) (z.depth < attributed z.reach w)
  unfolding export_list
  list_found start i s xs f w m r k g h e = then_eat left_brace_kind m h.1.0 k _ _ _ h.1.1.0 h.1.1.2 (then_is (specifiers_by lm z.inner false c (from h.1.0 k)) _ (unpack xs) h.0 ⊥ _ _ (specifiers_found z p c false is_named_export (exports_read z p c) xs h.1.0 h.0 k h.1.2) (λ u. absurd u)
      (λ j. by_cases (is_absent f) _ _ _ h.2
      (λ q y. if_no (kind h.0 == from_kind) _ _ _ _ (no_from p c h.0 r y.1) (then_end p c exports_end h.0 r j _ _ _ y.1
      (here (ap (λ (d : Span). named_export d (pack (unpack xs)) absent absent) (sym e) ∙ ap (λ (d : Trees). named_export s d absent absent) (pack_unpack xs) ∙ ap (λ (d : Tree). named_export s xs d absent) (sym (absent_is f q)) ∙ ap (λ (d : Tree). named_export s xs f d) (sym (absent_is w y.0))))))
      (λ q y. if_yes (kind h.0 == from_kind) _ _ _ _ (eq-eqb (kind h.0) from_kind y.1.0) (then_word c from_kind h.0 y.0 j _ _ _ y.1.0 y.1.1 y.1.3
      (then_is (source_by lm z.inner c (from y.0 j)) _ (record { src = f; with_ = w }) r (z.depth < attributed z.reach w) _ _ (source_found z p c f w y.0 r j g y.2) (λ u. u)
      (λ l. here (ap (λ (d : Span). named_export d (pack (unpack xs)) f w) (sym e) ∙ ap (λ (d : Trees). named_export s d f w) (pack_unpack xs))))))))

  list_export : (s : Span) (xs : Trees) (f w : Tree) (ts m r : Input) (k : List ℕ) → Attributed z.Covered w → TakesWord (coded p c) export_kind ts m → ExportList (coded p c) (children xs) (child f (λ y. Produces f y)) (child w (λ y. Produces w y)) m r → s ≡ span (lo ts) r.last
      → Reads (from ts k) (export_by lm z.inner c (from ts k)) (Is (named_export s xs f w) r) (z.depth < attributed z.reach w)
  unfolding export_by
  list_export s xs f w ts m r k g t h e = then_word c export_kind ts m k _ _ _ t.0 t.1 t.3 (if_no (kind m == default_kind) _ _ _ _ (subst (λ (n : ℕ). eqb n default_kind ≡ false) (sym h.1.1.0) refl) (if_no (kind m == mul_kind) _ _ _ _ (subst (λ (n : ℕ). eqb n mul_kind ≡ false) (sym h.1.1.0) refl)
      (if_yes (kind m == left_brace_kind) _ _ _ _ (eq-eqb (kind m) left_brace_kind h.1.1.0) (list_found ts k s xs f w m r k g h e))))

  star_export : (s q : Span) (x f w : Tree) (ts m r : Input) (k : List ℕ) → Attributed z.Covered w → TakesWord (coded p c) export_kind ts m → ExportStarAs (coded p c) (child (export_namespace_specifier q x) (λ y. Produces (export_namespace_specifier q x) y)) (child f (λ y. Produces f y)) (child w (λ y. Produces w y)) m r → s ≡ span (lo ts) r.last
      → Reads (from ts k) (export_by lm z.inner c (from ts k)) (Is (named_export s (more (export_namespace_specifier q x) none) f w) r) (z.depth < attributed z.reach w)
  unfolding export_by
  star_export s q x f w ts m r k g t h e = then_word c export_kind ts m k _ _ _ t.0 t.1 t.3 (if_no (kind m == default_kind) _ _ _ _ (subst (λ (n : ℕ). eqb n default_kind ≡ false) (sym h.2.2.0) refl) (if_yes (kind m == mul_kind) _ _ _ _ (eq-eqb (kind m) mul_kind h.2.2.0)
      (star_as ts k s q x f w m r k g h e)))

  pub named_found : (s : Span) (xs : Trees) (f w : Tree) (ts r : Input) (k : List ℕ) → Attributed z.Covered w → Produces (named_export s xs f w) (coded p c) ts r → Reads (from ts k) (export_by lm z.inner c (from ts k)) (Is (named_export s xs f w) r) (z.depth < attributed z.reach w)
  named_found s none f w ts r k g h = list_export s none f w ts h.0 r k g h.1 h.2 h.3
  named_found s (more (export_namespace_specifier q x) xs) f w ts r k g h = subst (λ (y : Trees). Reads (from ts k) (export_by lm z.inner c (from ts k)) (Is (named_export s (more (export_namespace_specifier q x) y) f w) r) (z.depth < attributed z.reach w)) (sym (empty_none xs h.2.0)) (star_export s q x f w ts h.0 r k g h.1 h.2.1 h.3)
  named_found s (more x xs) f w ts r k g h = list_export s (more x xs) f w ts h.0 r k g h.1 h.2 h.3
