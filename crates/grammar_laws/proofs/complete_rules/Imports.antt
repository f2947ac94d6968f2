-- Lists of specifiers, and imports (16.2.2): what their rules answer.
use Rattle.std.proofs.Common.{◌≡◌, ℕ, ◌<◌, inl, inr, Bool, true, false, ◌||◌, ◌==◌, cond, eqb, List, [], ◌∷◌, ◌++◌, if◌then◌else◌, Result, Ok, refl, sym, ap, ◌∙◌, subst, ⊎_elim, true≢false, append_assoc, append-nil, arith}
use Rattle.std.proofs.lemmas.Bool.{ne_eqb, eq-eqb, or_left}
use Rattle.base_token.specs.declared.place.Span.{Span}
use Rattle.base_token.specs.Kinds.{comma_kind, mul_kind, left_brace_kind, right_brace_kind, str_kind, import_kind, as_kind, from_kind}
use Rattle.tree_spec.specs.Tree.{Tree, Trees, none, more, pack, unpack, import_decl, import_named_specifier, import_default_specifier, import_star_as_specifier, export_named_specifier, ident, str_lit, absent}
use Rattle.tree_spec.proofs.PackLemmas.{pack_unpack}
use Rattle.grammar_spec.specs.Tokens.Input.{Input, Code, kind, lo, span, rest, is_word, TakesWord}
use Rattle.grammar_spec.specs.Tokens.Shape.{is_absent, is_string, is_named_import, is_named_export, export_name}
use Rattle.grammar_spec.specs.Children.{is_ident, child, Sorted, Listed}
use Rattle.grammar_spec.specs.Modules.{ExportName, NamedImports, AfterDefault, ImportClause, Source}
use Rattle.grammar_spec.specs.Grammar.{Produces, children}
use Rattle.grammar_spec.specs.Reader.Source.{Fault, ◌>>=◌, placed, State, any_word, go_on, finished}
use Rattle.grammar_spec.specs.Reader.Modules.{export_name_by, local_by, source_by, named_import, named_export_item, specifier_step, specifiers_by, star_import, import_end, import_rest, import_default, import_decl_by}
use Rattle.grammar_laws.proofs.complete_base.Yields.{lm, from, len, coded, first_at, Reads, reads_placed, Is, then_is, then_eat, then_word, onto, here, past_here, if_no, if_yes, Loops, loop_on, loop_end, looped}
use Rattle.grammar_laws.proofs.complete_base.Trees.{by_cases, takes, no_kind}
use Rattle.grammar_laws.proofs.complete_rules.Nested.{Nested}
use Rattle.grammar_laws.proofs.complete_rules.Starts.{ident_is}
use Rattle.grammar_laws.proofs.complete_base.Cuts.{cut}
use Rattle.grammar_laws.proofs.complete_rules.Functions.{empty_none}
use Rattle.grammar_laws.proofs.complete_rules.Sources.{Attributed, attributed, Divides, divides_kind, export_name_found, local_found, source_found}
use Rattle.grammar_laws.proofs.Shapes.{absent_is}

-- the kinds that start the name of an export
abbrev pub starts_name : ℕ → Bool
starts_name k = if is_word k then true else k == str_kind

export_name_starts : (t : Tree) (c : Code) (ts r : Input) → ExportName c (export_name t) (child t (λ y. Produces t y)) ts r → starts_name (kind ts) ≡ true
export_name_starts (ident s n) c ts r h = rw h.0.0 refl
export_name_starts (str_lit s u w) c ts r h = subst (λ (k : ℕ). starts_name k ≡ true) (sym h.1.3.0) refl
export_name_starts _ c ts r h = absurd (true≢false (sym h.0))

-- the kinds that stand after `import` in a declaration
abbrev pub begins_clause : ℕ → Bool
begins_clause k = is_word k || ((k == str_kind) || ((k == mul_kind) || (k == left_brace_kind)))

pub string_kind : (t : Tree) (c : Code) (ts r : Input) → is_string t ≡ true → Produces t c ts r → kind ts ≡ str_kind
string_kind (str_lit s u w) c ts r e h = h.3.0
string_kind _ c ts r e h = absurd (true≢false (sym e))

-- The specifiers of a list: each is read, starts with a name, and takes tokens.
pub record Specifiers (z : Nested) (p : Bool) (c : Code) (imports : Bool) (may : Tree → Bool) : Type 0 where
  pub found : (x : Tree) (ts m : Input) (k : List ℕ) → may x ≡ true → Produces x (coded p c) ts m → Divides m → Reads (from ts k) (if imports then named_import lm z.inner c (from ts k) else named_export_item lm z.inner c (from ts k)) (Is x m) ⊥
  pub starts : (x : Tree) (ts m : Input) → may x ≡ true → Produces x (coded p c) ts m → starts_name (kind ts) ≡ true
  pub less : (x : Tree) (ts m : Input) → may x ≡ true → Produces x (coded p c) ts m → len m < len ts

module _ (z : Nested) (p : Bool) (c : Code) (imports : Bool) (may : Tree → Bool) (w : Specifiers z p c imports may) where
  no_brace : (x : Tree) (ts m : Input) → may x ≡ true → Produces x (coded p c) ts m → eqb (kind ts) right_brace_kind ≡ false
  no_brace x ts m i h = no_kind starts_name (kind ts) right_brace_kind (w.starts x ts m i h) refl

  more_specifiers : (x : Tree) (acc : List Tree) (ts m r : Input) (k : List ℕ) → may x ≡ true → Produces x (coded p c) ts m → kind m ≡ comma_kind → rest m ≡ r → Reads (from ts k) (specifier_step lm z.inner imports c acc (from ts k)) (Is (go_on (acc ++ x ∷ [])) r) ⊥
  unfolding specifier_step
  more_specifiers x acc ts m r k i h e q = if_no (kind ts == right_brace_kind) _ _ _ _ (no_brace x ts m i h) (then_is (if imports then named_import lm z.inner c (from ts k) else named_export_item lm z.inner c (from ts k)) _ x m ⊥ _ _ (w.found x ts m k i h (inl e)) (λ u. u)
      (λ j. if_yes (kind m == comma_kind) _ _ _ _ (eq-eqb (kind m) comma_kind e) (past_here refl q)))

  last_specifier : (x : Tree) (acc : List Tree) (ts m r : Input) (k : List ℕ) → may x ≡ true → Produces x (coded p c) ts m → kind m ≡ right_brace_kind → rest m ≡ r → Reads (from ts k) (specifier_step lm z.inner imports c acc (from ts k)) (Is (finished (acc ++ x ∷ [])) r) ⊥
  unfolding specifier_step
  last_specifier x acc ts m r k i h e q = if_no (kind ts == right_brace_kind) _ _ _ _ (no_brace x ts m i h) (then_is (if imports then named_import lm z.inner c (from ts k) else named_export_item lm z.inner c (from ts k)) _ x m ⊥ _ _ (w.found x ts m k i h (inr e)) (λ u. u)
      (λ j. if_no (kind m == comma_kind) _ _ _ _ (subst (λ (n : ℕ). eqb n comma_kind ≡ false) (sym e) refl) (then_eat right_brace_kind m r j _ _ _ e q (here refl))))

  no_specifiers : (acc : List Tree) (ts r : Input) (k : List ℕ) → kind ts ≡ right_brace_kind → rest ts ≡ r → Reads (from ts k) (specifier_step lm z.inner imports c acc (from ts k)) (Is (finished acc) r) ⊥
  unfolding specifier_step
  no_specifiers acc ts r k e q = if_yes (kind ts == right_brace_kind) _ _ _ _ (eq-eqb (kind ts) right_brace_kind e) (past_here refl q)

  specifiers_loop : (xs : Trees) (acc : List Tree) (ts r : Input) (k : List ℕ) → Listed false (Sorted may (coded p c)) (coded p c) right_brace_kind (children xs) ts r → Loops (specifier_step lm z.inner imports c) acc ts k (Is (acc ++ unpack xs) r) ⊥
  specifiers_loop none acc ts r k h = loop_end _ _ acc ts r k ⊥ _ _ (no_specifiers acc ts r k h.0 h.2) (λ u. u) (λ l. (sym (append-nil acc), refl))
  specifiers_loop (more x xs) acc ts r k h = ⊎_elim
      (λ v. loop_on _ _ (acc ++ x ∷ []) ts v.1 k ⊥ _ _ (more_specifiers x acc ts h.0 v.1 k h.1.0 h.1.1 v.2.0 v.2.2) (λ u. u) (omega (arith, w.less x ts h.0 h.1.0 h.1.1, takes comma_kind h.0 v.1 v.2.0 (omega arith) v.2.2))
      (λ l. subst (λ ys. Loops (specifier_step lm z.inner imports c) (acc ++ x ∷ []) v.1 l (Is ys r) ⊥) (append_assoc acc (x ∷ []) (unpack xs)) (specifiers_loop xs (acc ++ x ∷ []) v.1 r l v.3)))
      (λ v. loop_end _ _ (acc ++ x ∷ []) ts r k ⊥ _ _ (last_specifier x acc ts h.0 r k h.1.0 h.1.1 v.1.0 v.1.2) (λ u. u) (λ l. (ap (λ (y : Trees). acc ++ (x ∷ unpack y)) (sym (empty_none xs v.0)), refl)))
      h.2

  -- after the brace
  pub specifiers_found : (xs : Trees) (ts r : Input) (k : List ℕ) → Listed false (Sorted may (coded p c)) (coded p c) right_brace_kind (children xs) ts r → Reads (from ts k) (specifiers_by lm z.inner imports c (from ts k)) (Is (unpack xs) r) ⊥
  unfolding specifiers_by
  specifiers_found xs ts r k h = looped (specifier_step lm z.inner imports c) [] ts k (Is (unpack xs) r) ⊥ (specifiers_loop xs [] ts r k h)

module _ (z : Nested) (p : Bool) (c : Code) where
  -- ---- specifiers

  -- a binding in braces, which is read as a name first
  bound_import : (s : Span) (l : Tree) (ts m : Input) (k : List ℕ) → is_ident l ≡ true → Produces l (coded p c) ts m → s ≡ span (lo ts) m.last → Divides m → Reads (from ts k) (named_import lm z.inner c (from ts k)) (Is (import_named_specifier s l absent) m) ⊥
  unfolding named_import export_name_by any_word
  bound_import s l ts m k i h e d = let y = ident_is l (coded p c) ts m i h in
      rw (no_kind is_word (kind ts) str_kind y.2.0 refl, y.2.0) (if_no (kind (rest ts) == as_kind) _ _ _ _ (subst (λ (o : Input). eqb (kind o) as_kind ≡ false) (sym y.4) (divides_kind (λ (n : ℕ). n == as_kind) false refl refl m d))
      (then_is (placed (len (rest ts)) (local_by lm z.inner c (from ts k))) _ l m ⊥ _ _ (reads_placed _ (local_found z p c l ts m k ⊥ i h)) (λ u. u) (λ j. here (ap (λ (y : Span). import_named_specifier y l absent) (sym e)))))

  named_import_found : (x : Tree) (ts m : Input) (k : List ℕ) → is_named_import x ≡ true → Produces x (coded p c) ts m → Divides m → Reads (from ts k) (named_import lm z.inner c (from ts k)) (Is x m) ⊥
  unfolding named_import
  named_import_found (import_named_specifier s l i) ts m k e h d = by_cases (is_absent i) _ _ _ h.0
      (λ q y. subst (λ (o : Tree). Reads (from ts k) (named_import lm z.inner c (from ts k)) (Is (import_named_specifier s l o) m) ⊥) (sym (absent_is i q)) (bound_import s l ts m k y.0 y.1 h.1 d))
      (λ q y. then_is (export_name_by lm z.inner (from ts k)) _ i y.0 ⊥ _ _ (export_name_found z p c i ts y.0 k ⊥ y.2) (λ u. u) (λ j. if_yes (kind y.0 == as_kind) _ _ _ _ (eq-eqb (kind y.0) as_kind y.3.0)
      (then_word c as_kind y.0 y.1 j _ _ _ y.3.0 y.3.1 y.3.3 (then_is (local_by lm z.inner c (from y.1 j)) _ l m ⊥ _ _ (local_found z p c l y.1 m j ⊥ y.4.0 y.4.1) (λ u. u) (λ o. here (ap (λ (y : Span). import_named_specifier y l i) (sym h.1)))))))
  named_import_found _ ts m k e h d = absurd (true≢false (sym e))

  named_import_starts : (x : Tree) (ts m : Input) → is_named_import x ≡ true → Produces x (coded p c) ts m → starts_name (kind ts) ≡ true
  named_import_starts (import_named_specifier s l i) ts m e h = by_cases (is_absent i) _ _ _ h.0 (λ q y. let n = ident_is l (coded p c) ts m y.0 y.1 in rw n.2.0 refl) (λ q y. export_name_starts i (coded p c) ts y.0 y.2)
  named_import_starts _ ts m e h = absurd (true≢false (sym e))

  named_import_less : (x : Tree) (ts m : Input) → is_named_import x ≡ true → Produces x (coded p c) ts m → len m < len ts
  named_import_less (import_named_specifier s l i) ts m e h = omega (arith, cut (import_named_specifier s l i) (coded p c) ts m h)
  named_import_less _ ts m e h = absurd (true≢false (sym e))

  imports_read : Specifiers z p c true is_named_import
  imports_read = record { found = λ x ts m k i h d. named_import_found x ts m k i h d; starts = λ x ts m i h. named_import_starts x ts m i h; less = λ x ts m i h. named_import_less x ts m i h }

  named_export_found : (x : Tree) (ts m : Input) (k : List ℕ) → is_named_export x ≡ true → Produces x (coded p c) ts m → Divides m → Reads (from ts k) (named_export_item lm z.inner c (from ts k)) (Is x m) ⊥
  unfolding named_export_item
  named_export_found (export_named_specifier s o e) ts m k i h d = then_is (export_name_by lm z.inner (from ts k)) _ o h.0 ⊥ _ _ (export_name_found z p c o ts h.0 k ⊥ h.1) (λ u. u) (λ j. by_cases (is_absent e) _ _ _ h.2
      (λ q y. if_no (kind h.0 == as_kind) _ _ _ _ (subst (λ (o : Input). eqb (kind o) as_kind ≡ false) (sym y) (divides_kind (λ (n : ℕ). n == as_kind) false refl refl m d))
      (bare q y j))
      (λ q y. if_yes (kind h.0 == as_kind) _ _ _ _ (eq-eqb (kind h.0) as_kind y.1.0) (then_word c as_kind h.0 y.0 j _ _ _ y.1.0 y.1.1 y.1.3
      (then_is (export_name_by lm z.inner (from y.0 j)) _ e m ⊥ _ _ (export_name_found z p c e y.0 m j ⊥ y.2) (λ u. u) (λ l. here (ap (λ (y : Span). export_named_specifier y o e) (sym h.3)))))))
    where
      bare : is_absent e ≡ true → h.0 ≡ m → (j : List ℕ) → Reads (from h.0 j) (Ok (export_named_specifier (span (lo ts) h.0.last) o absent, from h.0 j)) (Is (export_named_specifier s o e) m) ⊥
      bare q y j = subst (λ (w : Input). Reads (from w j) (Ok (export_named_specifier (span (lo ts) w.last) o absent, from w j)) (Is (export_named_specifier s o e) m) ⊥) (sym y) (here (ap (λ (y : Span). export_named_specifier y o absent) (sym h.3) ∙ ap (λ (y : Tree). export_named_specifier s o y) (sym (absent_is e q))))
  named_export_found _ ts m k i h d = absurd (true≢false (sym i))

  named_export_starts : (x : Tree) (ts m : Input) → is_named_export x ≡ true → Produces x (coded p c) ts m → starts_name (kind ts) ≡ true
  named_export_starts (export_named_specifier s o e) ts m i h = export_name_starts o (coded p c) ts h.0 h.1
  named_export_starts _ ts m i h = absurd (true≢false (sym i))

  named_export_less : (x : Tree) (ts m : Input) → is_named_export x ≡ true → Produces x (coded p c) ts m → len m < len ts
  named_export_less (export_named_specifier s o e) ts m i h = omega (arith, cut (export_named_specifier s o e) (coded p c) ts m h)
  named_export_less _ ts m i h = absurd (true≢false (sym i))

  pub exports_read : Specifiers z p c false is_named_export
  exports_read = record { found = λ x ts m k i h d. named_export_found x ts m k i h d; starts = λ x ts m i h. named_export_starts x ts m i h; less = λ x ts m i h. named_export_less x ts m i h }

  -- ---- from `from` on

  -- `from`, and a module's name
  abbrev From : Tree → Tree → Input → Input → Type 0
  From f w m r = (n : Input) × TakesWord (coded p c) from_kind m n × Source (coded p c) (child f (λ y. Produces f y)) (child w (λ y. Produces w y)) n r

  module _ (start : Input) (i : List ℕ) (s : Span) (f w : Tree) (r : Input) (g : Attributed z.Covered w) (e : s ≡ span (lo start) r.last) where
    end_found : (ys : List Tree) (xs : Trees) (ts : Input) (k : List ℕ) → pack ys ≡ xs → From f w ts r → Reads (from ts k) (import_end lm z.inner c (lo start) ys (from ts k)) (Is (import_decl s xs f w) r) (z.depth < attributed z.reach w)
    unfolding import_end
    end_found ys xs ts k q h = then_word c from_kind ts h.0 k _ _ _ h.1.0 h.1.1 h.1.3 (then_is (source_by lm z.inner c (from h.0 k)) _ (record { src = f; with_ = w }) r (z.depth < attributed z.reach w) _ _ (source_found z p c f w h.0 r k g h.2) (λ u. u)
        (λ j. here (ap (λ (y : Span). import_decl y (pack ys) f w) (sym e) ∙ ap (λ (y : Trees). import_decl s y f w) q)))

    star_found : (q : Span) (l : Tree) (ts m : Input) (k : List ℕ) → Produces (import_star_as_specifier q l) (coded p c) ts m → Reads (from ts k) (star_import lm z.inner c (from ts k)) (Is (import_star_as_specifier q l) m) ⊥
    unfolding star_import
    star_found q l ts m k h = then_eat mul_kind ts h.0 k _ _ _ h.2.0 h.2.2 (then_word c as_kind h.0 h.1 k _ _ _ h.3.0 h.3.1 h.3.3 (then_is (local_by lm z.inner c (from h.1 k)) _ l m ⊥ _ _ (local_found z p c l h.1 m k ⊥ h.4.0 h.4.1) (λ u. u)
        (λ j. here (ap (λ (y : Span). import_star_as_specifier y l) (sym h.5)))))

    rest_star : (ys : List Tree) (q : Span) (l : Tree) (ts m : Input) (k : List ℕ) → Produces (import_star_as_specifier q l) (coded p c) ts m → From f w m r
        → Reads (from ts k) (import_rest lm z.inner c (lo start) ys (from ts k)) (Is (import_decl s (pack (ys ++ import_star_as_specifier q l ∷ [])) f w) r) (z.depth < attributed z.reach w)
    unfolding import_rest
    rest_star ys q l ts m k h o = if_yes (kind ts == mul_kind) _ _ _ _ (eq-eqb (kind ts) mul_kind h.2.0) (then_is (star_import lm z.inner c (from ts k)) _ (import_star_as_specifier q l) m ⊥ _ _ (star_found q l ts m k h) (λ u. absurd u)
        (λ j. end_found (ys ++ import_star_as_specifier q l ∷ []) _ m j refl o))

    rest_named : (ys : List Tree) (xs : Trees) (ts m : Input) (k : List ℕ) → NamedImports (coded p c) (children xs) ts m → From f w m r
        → Reads (from ts k) (import_rest lm z.inner c (lo start) ys (from ts k)) (Is (import_decl s (pack (ys ++ unpack xs)) f w) r) (z.depth < attributed z.reach w)
    unfolding import_rest
    rest_named ys xs ts m k h o = if_no (kind ts == mul_kind) _ _ _ _ (ne_eqb (kind ts) mul_kind (λ q. omega (arith, q, h.1.0))) (then_eat left_brace_kind ts h.0 k _ _ _ h.1.0 h.1.2
        (then_is (specifiers_by lm z.inner true c (from h.0 k)) _ (unpack xs) m ⊥ _ _ (specifiers_found z p c true is_named_import imports_read xs h.0 m k h.2) (λ u. absurd u) (λ j. end_found (ys ++ unpack xs) _ m j refl o)))

    -- after a default binding
    after_default : (q : Span) (l : Tree) (xs : Trees) (ts n m : Input) (k : List ℕ) → Produces (import_default_specifier q l) (coded p c) ts n → AfterDefault (coded p c) (children xs) n m → From f w m r
        → Reads (from ts k) (import_default lm z.inner c (lo start) (from ts k)) (Is (import_decl s (more (import_default_specifier q l) xs) f w) r) (z.depth < attributed z.reach w)
    unfolding import_default
    after_default q l xs ts n m k h a o = then_is (local_by lm z.inner c (from ts k)) _ l n ⊥ _ _ (local_found z p c l ts n k ⊥ h.0.0 h.0.1) (λ u. absurd u)
        (λ j. subst (λ (y : Span). Reads (from n j) (cond (kind n == comma_kind) (import_rest lm z.inner c (lo start) (import_default_specifier y l ∷ []) (from (rest n) j)) (import_end lm z.inner c (lo start) (import_default_specifier y l ∷ []) (from n j))) (Is (import_decl s (more (import_default_specifier q l) xs) f w) r) (z.depth < attributed z.reach w))
        (sym (first_at ts n q (ident_is l (coded p c) ts n h.0.0 h.0.1).4 h.1)) (on xs j a))
      where
        by_comma : (x : Input) (j : List ℕ) (xs : Trees) → kind n ≡ comma_kind → rest n ≡ x → Reads (from x j) (import_rest lm z.inner c (lo start) (import_default_specifier q l ∷ []) (from x j)) (Is (import_decl s (more (import_default_specifier q l) xs) f w) r) (z.depth < attributed z.reach w)
            → Reads (from n j) (cond (kind n == comma_kind) (import_rest lm z.inner c (lo start) (import_default_specifier q l ∷ []) (from (rest n) j)) (import_end lm z.inner c (lo start) (import_default_specifier q l ∷ []) (from n j))) (Is (import_decl s (more (import_default_specifier q l) xs) f w) r) (z.depth < attributed z.reach w)
        by_comma x j xs e v y = if_yes (kind n == comma_kind) _ _ _ _ (eq-eqb (kind n) comma_kind e) (onto n x j (λ y. import_rest lm z.inner c (lo start) (import_default_specifier q l ∷ []) y) _ _ v y)

        named : (x : Input) (j : List ℕ) (xs : Trees) → NamedImports (coded p c) (children xs) x m → Reads (from x j) (import_rest lm z.inner c (lo start) (import_default_specifier q l ∷ []) (from x j)) (Is (import_decl s (more (import_default_specifier q l) xs) f w) r) (z.depth < attributed z.reach w)
        named x j xs v = subst (λ (y : Trees). Reads (from x j) (import_rest lm z.inner c (lo start) (import_default_specifier q l ∷ []) (from x j)) (Is (import_decl s (more (import_default_specifier q l) y) f w) r) (z.depth < attributed z.reach w)) (pack_unpack xs) (rest_named (import_default_specifier q l ∷ []) xs x m j v o)

        on : (xs : Trees) (j : List ℕ) → AfterDefault (coded p c) (children xs) n m
            → Reads (from n j) (cond (kind n == comma_kind) (import_rest lm z.inner c (lo start) (import_default_specifier q l ∷ []) (from (rest n) j)) (import_end lm z.inner c (lo start) (import_default_specifier q l ∷ []) (from n j))) (Is (import_decl s (more (import_default_specifier q l) xs) f w) r) (z.depth < attributed z.reach w)
        on none j (inl e) = let v : kind n ≡ from_kind = ap (λ (y : Input). kind y) e ∙ o.1.0 in if_no (kind n == comma_kind) _ _ _ _ (ne_eqb (kind n) comma_kind (λ u. omega (arith, u, v))) (end_found (import_default_specifier q l ∷ []) _ n j refl (subst (λ (y : Input). From f w y r) (sym e) o))
        on none j (inr e) = by_comma e.0 j none e.1.0 e.1.2 (named e.0 j none e.2)
        on (more (import_star_as_specifier t b) ys) j v = by_comma v.0 j (more (import_star_as_specifier t b) ys) v.1.0 v.1.2
            (subst (λ (y : Trees). Reads (from v.0 j) (import_rest lm z.inner c (lo start) (import_default_specifier q l ∷ []) (from v.0 j)) (Is (import_decl s (more (import_default_specifier q l) (more (import_star_as_specifier t b) y)) f w) r) (z.depth < attributed z.reach w)) (sym (empty_none ys v.2.0))
            (rest_star (import_default_specifier q l ∷ []) t b v.0 m j v.2.1 o))
        on (more x ys) j v = by_comma v.0 j (more x ys) v.1.0 v.1.2 (named v.0 j (more x ys) v.2)

    bracketed : (m : Input) (k : List ℕ) (n : ℕ) (x y v : Result (Tree × State Input) Fault) (V : Tree × State Input → Type 0) (Q : Type 0) → kind m ≡ n → eqb n str_kind ≡ false → is_word n ≡ false → Reads (from m k) v V Q → Reads (from m k) (cond (kind m == str_kind) x (cond (is_word (kind m)) y v)) V Q
    bracketed m k n x y v V Q q a b h = if_no (kind m == str_kind) _ _ _ _ (subst (λ (n : ℕ). eqb n str_kind ≡ false) (sym q) a) (if_no (is_word (kind m)) _ _ _ _ (subst (λ (n : ℕ). is_word n ≡ false) (sym q) b) h)

    -- after `import`
    clause_found : (xs : Trees) (m n : Input) (k : List ℕ) → ImportClause (coded p c) (children xs) m n → Source (coded p c) (child f (λ y. Produces f y)) (child w (λ y. Produces w y)) n r
        → Reads (from m k) (cond (kind m == str_kind) (source_by lm z.inner c (from m k) >>= λ x. Ok (import_decl (span (lo start) x.1.source.last) none x.0.src x.0.with_, x.1)) (cond (is_word (kind m)) (import_default lm z.inner c (lo start) (from m k)) (import_rest lm z.inner c (lo start) [] (from m k)))) (Is (import_decl s xs f w) r) (z.depth < attributed z.reach w)
    clause_found none m n k (inl v) h = if_yes (kind m == str_kind) _ _ _ _ (eq-eqb (kind m) str_kind (ap (λ (y : Input). kind y) v ∙ string_kind f (coded p c) n h.0 h.1.0 h.1.1))
        (then_is (source_by lm z.inner c (from m k)) _ (record { src = f; with_ = w }) r (z.depth < attributed z.reach w) _ _ (source_found z p c f w m r k g (subst (λ (y : Input). Source (coded p c) (child f (λ y. Produces f y)) (child w (λ y. Produces w y)) y r) (sym v) h)) (λ u. u) (λ j. here (ap (λ (y : Span). import_decl y none f w) (sym e))))
    clause_found none m n k (inr v) h = bracketed m k left_brace_kind _ _ _ _ _ v.1.1.0 refl refl (rest_named [] none m v.0 k v.1 (n, v.2, h))
    clause_found (more (import_default_specifier q l) xs) m n k v h = let y = (ident_is l (coded p c) m v.1.0 v.1.1.0.0 v.1.1.0.1).2.0 in
        if_no (kind m == str_kind) _ _ _ _ (no_kind is_word (kind m) str_kind y refl) (if_yes (is_word (kind m)) _ _ _ _ y (after_default q l xs m v.1.0 v.0 k v.1.1 v.1.2 (n, v.2, h)))
    clause_found (more (import_star_as_specifier q l) xs) m n k v h = bracketed m k mul_kind _ _ _ _ _ v.1.1.2.0 refl refl
        (subst (λ (y : Trees). Reads (from m k) (import_rest lm z.inner c (lo start) [] (from m k)) (Is (import_decl s (more (import_star_as_specifier q l) y) f w) r) (z.depth < attributed z.reach w)) (sym (empty_none xs v.1.0)) (rest_star [] q l m v.0 k v.1.1 (n, v.2, h)))
    clause_found (more x xs) m n k v h = bracketed m k left_brace_kind _ _ _ _ _ v.1.1.0 refl refl
        (subst (λ (y : Trees). Reads (from m k) (import_rest lm z.inner c (lo start) [] (from m k)) (Is (import_decl s y f w) r) (z.depth < attributed z.reach w)) (pack_unpack (more x xs)) (rest_named [] (more x xs) m v.0 k v.1 (n, v.2, h)))

  pub import_found : (s : Span) (xs : Trees) (f w : Tree) (ts r : Input) (k : List ℕ) → Attributed z.Covered w → Produces (import_decl s xs f w) (coded p c) ts r → Reads (from ts k) (import_decl_by lm z.inner c (from ts k)) (Is (import_decl s xs f w) r) (z.depth < attributed z.reach w)
  unfolding import_decl_by
  import_found s xs f w ts r k g h = then_word c import_kind ts h.0 k _ _ _ h.2.0 h.2.1 h.2.3 (clause_found ts k s f w r g h.5 xs h.0 h.1 k h.3 h.4)

  -- what stands after `import`
  pub after_import : (xs : Trees) (f w : Tree) (m n r : Input) → ImportClause (coded p c) (children xs) m n → Source (coded p c) (child f (λ y. Produces f y)) (child w (λ y. Produces w y)) n r → begins_clause (kind m) ≡ true
  after_import none f w m n r (inl v) h = subst (λ (k : ℕ). begins_clause k ≡ true) (sym (ap (λ (y : Input). kind y) v ∙ string_kind f (coded p c) n h.0 h.1.0 h.1.1)) refl
  after_import none f w m n r (inr v) h = subst (λ (k : ℕ). begins_clause k ≡ true) (sym v.1.1.0) refl
  after_import (more (import_default_specifier q l) xs) f w m n r v h = or_left (is_word (kind m)) _ (ident_is l (coded p c) m v.1.0 v.1.1.0.0 v.1.1.0.1).2.0
  after_import (more (import_star_as_specifier q l) xs) f w m n r v h = subst (λ (k : ℕ). begins_clause k ≡ true) (sym v.1.1.2.0) refl
  after_import (more x xs) f w m n r v h = subst (λ (k : ℕ). begins_clause k ≡ true) (sym v.1.1.0) refl
