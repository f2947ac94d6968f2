-- Whole programs (16.1, 16.2): what their rules answer, over items that are read.
use Rattle.std.proofs.Common.{◌≡◌, ℕ, ◌<◌, ◌≤◌, Bool, true, false, not, ◌&&◌, ◌||◌, ◌==◌, eqb, List, [], ◌∷◌, ◌++◌, Option, Some, None, refl, sym, ap, ◌∙◌, subst, ⊎_elim, true≢false, append_assoc, append-nil, arith}
use Rattle.std.proofs.lemmas.Bool.{eqb-true, ne_eqb, eq-eqb, cases_Bool, or_left, or_from, and_left, and_right}
use Rattle.base_token.specs.declared.place.Span.{Span}
use Rattle.base_token.specs.Kinds.{left_paren_kind, dot_kind, colon_kind, shebang_kind, finally_kind, import_kind, export_kind}
use Rattle.tree_spec.specs.Tree.{Tree, Trees, none, more, pack, unpack, script}
use Rattle.tree_spec.proofs.PackLemmas.{pack_unpack}
use Rattle.grammar_spec.specs.Tokens.Input.{PlacedToken, Input, Code, kind, kind2, kind_of, lo, span, in_list, turned_strict}
use Rattle.grammar_spec.specs.Tokens.Shape.{is_item, is_use_strict, is_directive}
use Rattle.grammar_spec.specs.Children.{Items, AtEnd}
use Rattle.grammar_spec.specs.Modules.{Program}
use Rattle.grammar_spec.specs.Grammar.{Produces, children}
use Rattle.grammar_spec.specs.Reader.Source.{go_on, finished, is_nil}
use Rattle.grammar_spec.specs.Reader.Statements.{Body as Gathered}
use Rattle.grammar_spec.specs.Reader.Modules.{item_by, program_item, program_step, program_rest, program_by, program_tree, starts_import}
use Rattle.grammar_laws.proofs.complete_base.Yields.{lm, from, len, coded, Reads, Is, then_is, then_reads, onto, here, ended, if_no, if_yes, Loops, loop_on, loop_end, looped}
use Rattle.grammar_laws.proofs.complete_rules.Nested.{Nested, may_follow, leaves, follows}
use Rattle.grammar_laws.proofs.complete_rules.Within.{Each, most}
use Rattle.grammar_laws.proofs.complete_rules.Starts.{opens_item, item_opens, item_imports, no_item}
use Rattle.grammar_laws.proofs.complete_base.Cuts.{item_cut}
use Rattle.grammar_laws.proofs.complete_rules.StatementLists.{HasItems, on_strict, on_same}

-- ---- what starts an item of a program

abbrev pub begins_item : ℕ → Bool
begins_item k = opens_item k || (k == export_kind)

not_at : (k n : ℕ) → begins_item k ≡ true → begins_item n ≡ false → eqb k n ≡ false
not_at k n h e = ne_eqb k n (λ q. true≢false (sym h ∙ ap begins_item q ∙ e))

begins_follows : (k : ℕ) → begins_item k ≡ true → may_follow k ≡ true
begins_follows k h = ap not (or_from (k == finally_kind) _ (not_at k finally_kind h refl) (not_at k colon_kind h refl))

some_place : (ps : List PlacedToken) → (kind_of ps ≡ 0 → ⊥) → is_nil ps ≡ false
some_place [] h = absurd (h refl)
some_place (p ∷ ps) h = refl

no_place : (ts : Input) → ts.places ≡ [] → kind ts ≡ 0
no_place ts h = ap kind_of h

-- The items of a program, by their sort: each is read, starts so, and takes tokens.
pub record ItemsRead (z : Nested) (p modules : Bool) (may : Tree → Bool) (Known : Tree → Type 0) (deep : Tree → ℕ) : Type 0 where
  pub item : (t : Tree) (c : Code) (ts m : Input) (k : List ℕ) → may t ≡ true → Known t → Produces t (coded p (in_list c)) ts m → leaves c.context t m ≡ true → Reads (from ts k) (item_by lm z.inner modules (in_list c) (from ts k)) (Is t m) (z.depth < deep t)
  pub starts : (t : Tree) (c : Code) (ts m : Input) → may t ≡ true → Produces t c ts m → begins_item (kind ts) ≡ true
  pub less : (t : Tree) (c : Code) (ts m : Input) → may t ≡ true → Produces t c ts m → len m < len ts

module _ (z : Nested) (p modules : Bool) (may : Tree → Bool) (Known : Tree → Type 0) (deep : Tree → ℕ) (w : ItemsRead z p modules may Known deep) where
  next_follows : (ss : Trees) (c : Code) (b : Bool) (ts r : Input) → Items may AtEnd c b (children ss) ts r → may_follow (kind ts) ≡ true
  next_follows none c b ts r h = subst (λ (k : ℕ). may_follow k ≡ true) (sym (no_place ts h.0)) refl
  next_follows (more s ss) c b ts r h = begins_follows (kind ts) (w.starts s (in_list c) ts h.0 h.1 h.2)

  no_shebang : (ss : Trees) (c : Code) (b : Bool) (ts r : Input) → Items may AtEnd c b (children ss) ts r → eqb (kind ts) shebang_kind ≡ false
  no_shebang none c b ts r h = subst (λ (k : ℕ). eqb k shebang_kind ≡ false) (sym (no_place ts h.0)) refl
  no_shebang (more s ss) c b ts r h = not_at (kind ts) shebang_kind (w.starts s (in_list c) ts h.0 h.1 h.2) refl

  item_there : (t : Tree) (c : Code) (ts m : Input) → may t ≡ true → Produces t c ts m → is_nil ts.places ≡ false
  item_there t c ts m i h = some_place ts.places (λ q. true≢false (sym (w.starts t c ts m i h) ∙ ap begins_item q))

  strict_item : (c : Code) (b : Bool) (t : Tree) (acc : List Tree) (ts m : Input) (k : List ℕ) → (b && is_use_strict t) ≡ true → Known t → may t ≡ true → Produces t (coded p (in_list c)) ts m → may_follow (kind m) ≡ true
      → Reads (from ts k) (program_step lm z.inner modules (record { items = acc; code = c; starts = b }) (from ts k)) (Is (go_on (record { items = acc ++ t ∷ []; code = turned_strict c; starts = true })) m) (z.depth < deep t)
  unfolding program_step program_item
  strict_item c b t acc ts m k e g i h q = if_no (is_nil ts.places) _ _ _ _ (item_there t (coded p (in_list c)) ts m i h)
      (then_is (item_by lm z.inner modules (in_list c) (from ts k)) _ t m (z.depth < deep t) _ _ (w.item t c ts m k i g h (follows c.context t m q)) (λ u. u) (λ j. if_yes (b && is_use_strict t) _ _ _ _ e (here refl)))

  same_item : (c : Code) (b : Bool) (t : Tree) (acc : List Tree) (ts m : Input) (k : List ℕ) → (b && is_use_strict t) ≡ false → Known t → may t ≡ true → Produces t (coded p (in_list c)) ts m → may_follow (kind m) ≡ true
      → Reads (from ts k) (program_step lm z.inner modules (record { items = acc; code = c; starts = b }) (from ts k)) (Is (go_on (record { items = acc ++ t ∷ []; code = c; starts = b && is_directive t })) m) (z.depth < deep t)
  unfolding program_step program_item
  same_item c b t acc ts m k e g i h q = if_no (is_nil ts.places) _ _ _ _ (item_there t (coded p (in_list c)) ts m i h)
      (then_is (item_by lm z.inner modules (in_list c) (from ts k)) _ t m (z.depth < deep t) _ _ (w.item t c ts m k i g h (follows c.context t m q)) (λ u. u) (λ j. if_no (b && is_use_strict t) _ _ _ _ e (here refl)))

  program_end : (b : Gathered) (ts r : Input) (k : List ℕ) → ts.places ≡ [] → ts ≡ r → Reads (from ts k) (program_step lm z.inner modules b (from ts k)) (Is (finished b) r) ⊥
  unfolding program_step
  program_end b ts r k e q = if_yes (is_nil ts.places) _ _ _ _ (ap is_nil e) (ended (finished b, from ts k) (Is (finished b) r) ⊥ (refl, q))

  program_loop : (ss : Trees) (c : Code) (b : Bool) (acc : List Tree) (ts r : Input) (k : List ℕ) (n : ℕ) → Each Known ss → Items may AtEnd (coded p c) b (children ss) ts r → most deep ss ≤ n
      → Loops (program_step lm z.inner modules) (record { items = acc; code = c; starts = b }) ts k (HasItems (acc ++ unpack ss) r) (z.depth < n)
  program_loop none c b acc ts r k n g h le = loop_end _ _ (record { items = acc; code = c; starts = b }) ts r k ⊥ _ _ (program_end _ ts r k h.0 h.1) (λ u. absurd u) (λ l. (sym (append-nil acc), refl))
  program_loop (more t ss) c b acc ts r k n g h le = ⊎_elim
      (λ (e : (b && is_use_strict t) ≡ true). let v = on_strict z p may AtEnd c b t ss h.0 r e h.3 in
      loop_on _ _ (record { items = acc ++ t ∷ []; code = turned_strict c; starts = true }) ts h.0 k (z.depth < deep t) _ _ (strict_item c b t acc ts h.0 k e g.0 h.1 h.2 (next_follows ss (coded p (turned_strict c)) true h.0 r v)) (λ u. omega arith) (w.less t (coded p (in_list c)) ts h.0 h.1 h.2)
      (λ l. subst (λ ys. Loops (program_step lm z.inner modules) (record { items = acc ++ t ∷ []; code = turned_strict c; starts = true }) h.0 l (HasItems ys r) (z.depth < n)) (append_assoc acc (t ∷ []) (unpack ss)) (program_loop ss (turned_strict c) true (acc ++ t ∷ []) h.0 r l n g.1 v (omega arith))))
      (λ (e : (b && is_use_strict t) ≡ false). let v = on_same z p may AtEnd c b t ss h.0 r e h.3 in
      loop_on _ _ (record { items = acc ++ t ∷ []; code = c; starts = b && is_directive t }) ts h.0 k (z.depth < deep t) _ _ (same_item c b t acc ts h.0 k e g.0 h.1 h.2 (next_follows ss (coded p c) (b && is_directive t) h.0 r v)) (λ u. omega arith) (w.less t (coded p (in_list c)) ts h.0 h.1 h.2)
      (λ l. subst (λ ys. Loops (program_step lm z.inner modules) (record { items = acc ++ t ∷ []; code = c; starts = b && is_directive t }) h.0 l (HasItems ys r) (z.depth < n)) (append_assoc acc (t ∷ []) (unpack ss)) (program_loop ss c (b && is_directive t) (acc ++ t ∷ []) h.0 r l n g.1 v (omega arith))))
      (cases_Bool (b && is_use_strict t))

  rest_read : (start : Input) (i : List ℕ) (s : Span) (l : Option (List ℕ)) (ss : Trees) (c : Code) (ts r : Input) (k : List ℕ) → Each Known ss → Items may AtEnd (coded p c) true (children ss) ts r → s ≡ span (lo start) r.last
      → Reads (from ts k) (program_rest lm z.inner modules c (lo start) l (from ts k)) (Is (program_tree lm z.inner modules s ss l) r) (z.depth < most deep ss)
  unfolding program_rest
  rest_read start i s l ss c ts r k g h e = then_reads _ _ (HasItems (unpack ss) r) (z.depth < most deep ss) _ _ (looped (program_step lm z.inner modules) (record { items = []; code = c; starts = true }) ts k (HasItems (unpack ss) r) _ (program_loop ss c true [] ts r k (most deep ss) g h (omega arith))) (λ u. u)
      (λ y v. ended (program_tree lm z.inner modules (span (lo start) y.1.source.last) (pack y.0.items) l, y.1) (Is (program_tree lm z.inner modules s ss l) r) _
      (ap (λ (d : Input). program_tree lm z.inner modules (span (lo start) d.last) (pack y.0.items) l) v.1 ∙ ap (λ (d : Span). program_tree lm z.inner modules d (pack y.0.items) l) (sym e) ∙ ap (λ d. program_tree lm z.inner modules s (pack d) l) v.0 ∙ ap (λ (d : Trees). program_tree lm z.inner modules s d l) (pack_unpack ss), v.1))

  -- What a program's items produce, after its hashbang, the rule of programs reads.
  pub program_found : (s : Span) (l : Option (List ℕ)) (ss : Trees) (c : Code) (ts r : Input) (k : List ℕ) → Each Known ss → Program may (coded p c) s l (children ss) ts r
      → Reads (from ts k) (program_by lm z.inner modules c (from ts k)) (Is (program_tree lm z.inner modules s ss l) r) (z.depth < most deep ss)
  unfolding program_by
  program_found s None ss c ts r k g h = if_no (kind ts == shebang_kind) _ _ _ _ (subst (λ (y : Input). eqb (kind y) shebang_kind ≡ false) (sym h.1) (no_shebang ss (coded p c) true h.0 r h.2))
      (rest_read ts k s None ss c ts r k g (subst (λ (y : Input). Items may AtEnd (coded p c) true (children ss) y r) (sym h.1) h.2) h.3)
  program_found s (Some l) ss c ts r k g h = if_yes (kind ts == shebang_kind) _ _ _ _ (eq-eqb (kind ts) shebang_kind h.1.1.0)
      (rw h.1.0 (onto ts h.0 k (λ y. program_rest lm z.inner modules c (lo ts) (Some l) y) _ _ h.1.1.2 (rest_read ts k s (Some l) ss c h.0 r k g h.2 h.3)))

-- ---- scripts

script_item : (z : Nested) (p modules : Bool) (t : Tree) (c : Code) (ts m : Input) (k : List ℕ) → is_item t ≡ true → z.Covered t → Produces t (coded p (in_list c)) ts m → leaves c.context t m ≡ true → Reads (from ts k) (item_by lm z.inner modules (in_list c) (from ts k)) (Is t m) (z.depth < z.reach t)
unfolding item_by
script_item z p modules t c ts m k i g h q = if_no (starts_import lm z.inner (from ts k)) _ _ _ _ no_import (if_no (kind ts == export_kind) _ _ _ _ (no_item (kind ts) export_kind (item_opens t (coded p (in_list c)) ts m i h) refl) (z.stmt t p (in_list c) ts m k g i h q))
  where
    no_import : ((kind ts == import_kind) && not ((kind2 ts == left_paren_kind) || (kind2 ts == dot_kind))) ≡ false
    no_import = ⊎_elim (λ (e : (kind ts == import_kind) ≡ true). and_right (kind ts == import_kind) _ (ap not (item_imports t (coded p (in_list c)) ts m i h (eqb-true (kind ts) import_kind e)))) (λ (e : (kind ts == import_kind) ≡ false). and_left (kind ts == import_kind) _ e) (cases_Bool (kind ts == import_kind))

pub statements_read : (z : Nested) (p modules : Bool) → ItemsRead z p modules is_item z.Covered z.reach
statements_read z p modules = record {
  item = λ t c ts m k i g h q. script_item z p modules t c ts m k i g h q;
  starts = λ t c ts m i h. or_left (opens_item (kind ts)) _ (item_opens t c ts m i h);
  less = λ t c ts m i h. item_cut t c ts m i h;
}

-- What a script produces is read: the tree and the rest, or too deep where its statements reach deeper.
pub script_found : (z : Nested) (p : Bool) (s : Span) (ss : Trees) (l : Option (List ℕ)) (c : Code) (ts r : Input) (k : List ℕ) → Each z.Covered ss → Produces (script s ss l) (coded p c) ts r
    → Reads (from ts k) (program_by lm z.inner false c (from ts k)) (Is (script s ss l) r) (z.depth < most z.reach ss)
script_found z p s ss l c ts r k g h = program_found z p false is_item z.Covered z.reach (statements_read z p false) s l ss c ts r k g h
