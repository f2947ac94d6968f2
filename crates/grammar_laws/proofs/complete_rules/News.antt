-- What the readers of `new` answer, and of its callee: a bare `new`, or what binds as tightly as a member.
use Rattle.std.proofs.Common.{◌≡◌, ℕ, zero, suc, ◌<◌, ◌≤◌, ◌⊎◌, max, Bool, true, false, ◌&&◌, ◌||◌, eqb, leb, ltb, List, refl, sym, ap, ◌∙◌, subst, ⊎_elim, arith}
use Rattle.std.proofs.lemmas.Bool.{ne_eqb, eq-eqb, cases_eq, le-leb, lt-ltb, and_from, and_left, and_right, or_left, or_right}
use Rattle.base_token.specs.declared.place.Span.{Span}
use Rattle.base_token.specs.Kinds.{hash_kind, async_kind, new_kind, dot_kind, left_paren_kind, right_paren_kind}
use Rattle.tree_spec.specs.Tree.{Tree, Trees, pack, unpack, this_expr, null_lit, bool_lit, ident, ident_name, private_name, str_lit, number_lit, big_int_lit, regex_lit, paren_expr, array_lit, unary_expr, update_expr, await_expr, bin_expr, cond_expr, seq_expr, member_expr, call_expr, new_expr, computed_prop_name, expr_or_spread, hole, absent, list, tpl, tagged_tpl, opt_chain_expr, opt_call, super, import, super_prop_expr, meta_prop_expr, yield_expr, object_lit, key_value_prop, assign_prop, spread_element, binding_ident, array_pat, object_pat, assign_pat, rest_pat, key_value_pat_prop, assign_pat_prop, expr_pat, assign_expr, arrow_expr, fn_expr, class_expr, function}
use Rattle.tree_spec.proofs.PackLemmas.{pack_unpack}
use Rattle.grammar_spec.specs.Tokens.Input.{Input, Code, kind, kind2, lo, rest, span, barred, assigning}
use Rattle.grammar_spec.specs.Tokens.Operators.{goes_expr}
use Rattle.grammar_spec.specs.Tokens.Shape.{level, ends}
use Rattle.grammar_spec.specs.Grammar.{Produces}
use Rattle.grammar_spec.specs.Reader.Source.{State, Inner}
use Rattle.grammar_spec.specs.Reader.Expressions.{elements_by, arguments_by, callee_by, new_by, new_end, keyword_by, prefix_by, expr_by, expr_from, loop_by}
use Rattle.grammar_spec.specs.Reader.Reading.{readers}
use Rattle.grammar_laws.proofs.complete_base.Yields.{first_at, lm, from, coded, then_reads, Is, then_is, then_word, then_name, Reads, here, ended, if_no, if_yes, then_past, too_deep}
use Rattle.grammar_laws.proofs.complete_base.Levels.{sober, tail, tail_high, ends_high, binary_low}
use Rattle.grammar_laws.proofs.complete_base.Trees.{Covered, size, reach, begins, starts, no_kind}
use Rattle.grammar_laws.proofs.complete_rules.Lists.{Has}
use Rattle.grammar_laws.proofs.complete_rules.Finds.{Bare, Behind, Leads, Firm, Comes, paren_goes, reads}

-- a callee of `new`
abbrev pub Callee : Tree → Type 0
Callee (new_expr s f absent) = Unit {0}
Callee f = 20 ≤ level f

callee_high : (f : Tree) → 20 ≤ level f → Callee f
callee_high (new_expr s f absent) l = tt
callee_high _ l = l

pub callee_least : (f : Tree) → Callee f → 18 ≤ level f
callee_least (new_expr s f absent) b = omega arith
callee_least _ b = omega (arith, b)

pub callee_of : (f : Tree) (c : Code) (ts r : Input) → Covered f → Produces f c ts r → (level f ≡ 18) ⊎ (20 ≤ level f) → Callee f
callee_of (new_expr s f absent) c ts r g h l = tt
callee_of (bin_expr s op a b) c ts r g h l = ⊎_elim (λ e. absurd (omega (arith, e, binary_low op))) (λ x. x) l
callee_of (member_expr s o (computed_prop_name t e)) c ts r g h l = ⊎_elim (λ e. absurd (omega (arith, e, h.2.0))) (λ x. x) l
callee_of (member_expr s o k) c ts r g h l = ⊎_elim (λ e. absurd (omega (arith, e, h.2.0))) (λ x. x) l
callee_of (tagged_tpl s t (tpl q es qs)) c ts r g h l = ⊎_elim (λ e. absurd (omega (arith, e, h.2.0))) (λ x. x) l
callee_of (tagged_tpl s t q) c ts r g h l = absurd h
callee_of _ c ts r g h l = ⊎_elim (λ e. absurd (omega (arith, e))) (λ x. x) l

abbrev IsIdent : Tree → Type 0
IsIdent f = (q : Span) × (x : List ℕ) × (f ≡ ident q x)

-- no function starts with `async` and a parenthesis
function_alone : (s : Span) (x f : Tree) (c : Code) (m n : Input) → Produces (fn_expr s x f) c m n → kind m ≡ async_kind → kind2 m ≡ left_paren_kind → ⊥
function_alone s x (function t ps ds b g true) c m n h a o = omega (arith, o, h.2.3.0, ap (λ (y : Input). kind y) h.2.2.0.3)
function_alone s x (function t ps ds b g false) c m n h a o = omega (arith, a, h.2.3.0, ap (λ (y : Input). kind y) h.2.2)
function_alone s x _ c m n h a o = absurd h

-- a callee that starts with `async` before a parenthesis is this name
alone : (f : Tree) (c : Code) (m n : Input) → Covered f → Callee f → Produces f c m n → kind m ≡ async_kind → kind2 m ≡ left_paren_kind → IsIdent f
alone (ident q x) c m n g b h a o = (q, x, refl)
alone (this_expr s) c m n g b h a o = absurd (omega (arith, a, h.0.0))
alone (null_lit s) c m n g b h a o = absurd (omega (arith, a, h.0.0))
alone (bool_lit s true) c m n g b h a o = absurd (omega (arith, a, h.0.0))
alone (bool_lit s false) c m n g b h a o = absurd (omega (arith, a, h.0.0))
alone (str_lit s u w) c m n g b h a o = absurd (omega (arith, a, h.3.0))
alone (number_lit s v w) c m n g b h a o = absurd (omega (arith, a, h.3.0))
alone (big_int_lit s e d w) c m n g b h a o = absurd (omega (arith, a, h.3.0))
alone (regex_lit s e f) c m n g b h a o = absurd (omega (arith, a, h.1.0))
alone (paren_expr s e) c m n g b h a o = absurd (omega (arith, a, h.2.0))
alone (array_lit s xs) c m n g b h a o = absurd (omega (arith, a, h.1.0))
alone (new_expr s f absent) c m n g b h a o = absurd (omega (arith, a, h.1.0))
alone (new_expr s f (list xs)) c m n g b h a o = absurd (omega (arith, a, h.2.0))
alone (new_expr s f xs) c m n g b h a o = absurd h
alone (member_expr s f (computed_prop_name t e)) c m n g b h a o =
    let i = alone f _ m h.0 g.0 (callee_high f (omega (arith, b))) h.2.1 a o in
    absurd (omega (arith, o, h.3.2.0, ap (λ (y : Input). kind y) (subst (λ (y : Tree). Produces y (assigning c) m h.0) i.2 h.2.1).0.5))
alone (member_expr s f (ident_name t e)) c m n g b h a o =
    let i = alone f _ m h.0 g.0 (callee_high f (omega (arith, b))) h.2.1 a o in
    absurd (omega (arith, o, h.3.1.0, ap (λ (y : Input). kind y) (subst (λ (y : Tree). Produces y (assigning c) m h.0) i.2 h.2.1).0.5))
alone (member_expr s f k) c m n g b h a o =
    let i = alone f _ m h.0 g.0 (callee_high f (omega (arith, b))) h.2.1 a o in
    absurd (omega (arith, o, h.3.1.0, ap (λ (y : Input). kind y) (subst (λ (y : Tree). Produces y (assigning c) m h.0) i.2 h.2.1).0.5))
alone (tagged_tpl s f (tpl q es qs)) c m n g b h a o =
    let i = alone f _ m h.0 g.0 (callee_high f (omega (arith, b))) h.2.1 a o in
    absurd (omega (arith, o, h.3.1.0, ap (λ (y : Input). kind y) (subst (λ (y : Tree). Produces y (assigning c) m h.0) i.2 h.2.1).0.5))
alone (tagged_tpl s f q) c m n g b h a o = absurd h
alone (tpl s es qs) c m n g b h a o = absurd (omega (arith, a, h.1.0))
alone (super_prop_expr s (super t) (computed_prop_name q e)) c m n g b h a o = absurd (omega (arith, a, h.1.0))
alone (super_prop_expr s (super t) k) c m n g b h a o = absurd (omega (arith, a, h.1.0))
alone (super_prop_expr s e k) c m n g b h a o = absurd h
alone (meta_prop_expr s k) c m n g b h a o = ⊎_elim (λ e. absurd (omega (arith, a, h.2.0, e.0))) (λ e. absurd (omega (arith, a, h.2.0, e.0))) h.4
alone (opt_chain_expr s q e) c m n g b h a o = absurd (omega (arith, b))
alone (yield_expr s x q) c m n g b h a o = absurd (omega (arith, b))
alone (object_lit s ps) c m n g b h a o = absurd (omega (arith, a, h.1.0))
alone (assign_expr s op x y) c m n g b h a o = absurd (omega (arith, b))
alone (arrow_expr s ps x i) c m n g b h a o = absurd (omega (arith, b))
alone (binding_ident s i) c m n g b h a o = absurd (omega (arith, b))
alone (array_pat s xs) c m n g b h a o = absurd (omega (arith, b))
alone (object_pat s ps) c m n g b h a o = absurd (omega (arith, b))
alone (assign_pat s x e) c m n g b h a o = absurd (omega (arith, b))
alone (rest_pat s d x) c m n g b h a o = absurd (omega (arith, b))
alone (key_value_pat_prop s k x) c m n g b h a o = absurd (omega (arith, b))
alone (assign_pat_prop s k e) c m n g b h a o = absurd (omega (arith, b))
alone (expr_pat e) c m n g b h a o = absurd (omega (arith, b))
alone (key_value_prop s k v) c m n g b h a o = absurd (omega (arith, b))
alone (assign_prop s k v) c m n g b h a o = absurd (omega (arith, b))
alone (spread_element s v) c m n g b h a o = absurd (omega (arith, b))
alone (opt_call s f xs) c m n g b h a o = absurd h
alone (super s) c m n g b h a o = absurd h
alone (import s) c m n g b h a o = absurd h
alone (bin_expr s op x y) c m n g b h a o = absurd (omega (arith, b, binary_low op))
alone absent c m n g b h a o = absurd h
alone hole c m n g b h a o = absurd h
alone (list xs) c m n g b h a o = absurd h
alone (unary_expr s op x) c m n g b h a o = absurd (omega (arith, b))
alone (update_expr s op y x) c m n g b h a o = absurd (omega (arith, b))
alone (await_expr s x) c m n g b h a o = absurd (omega (arith, b))
alone (cond_expr s x y d) c m n g b h a o = absurd (omega (arith, b))
alone (seq_expr s xs) c m n g b h a o = absurd (omega (arith, b))
alone (call_expr s f xs) c m n g b h a o = absurd (omega (arith, b))
alone (expr_or_spread s d e) c m n g b h a o = absurd (omega (arith, b))
alone (computed_prop_name s e) c m n g b h a o = absurd (omega (arith, b))
alone (ident_name s x) c m n g b h a o = absurd (omega (arith, b))
alone (private_name s x) c m n g b h a o = absurd (omega (arith, b))
alone (fn_expr s x f) c m n g b h a o = absurd (function_alone s x f c m n h a o)
alone (class_expr s x k) c m n g b h a o = absurd (omega (arith, a, h.2.0))
alone _ c m n g b h a o = absurd (omega (arith, b))

module _ (inner : Inner Input) (c : Code) (lev : ℕ) (ts : Input) (k : List ℕ) (s : Span) (f : Tree) (m n : Input) (P Q : Type 0) where
  pub prefix_new : (V : Tree × State Input → Type 0) → kind ts ≡ new_kind → Reads (from ts k) (new_by lm inner c (from ts k)) V Q → Reads (from ts k) (prefix_by lm inner c lev (from ts k)) V Q
  unfolding prefix_by keyword_by
  prefix_new V e y = rw e y

  pub bare_found : kind ts ≡ new_kind → barred c.context ts ≡ false → rest ts ≡ m → eqb (kind m) dot_kind ≡ false → ((j : List ℕ) → Reads (from m j) (callee_by lm inner c (from m j)) (Is f n) P) → (P → Q) → (level f ≡ 18) ⊎ (20 ≤ level f) → goes_expr c 0 n < 19 → s ≡ span (lo ts) n.last
      → Reads (from ts k) (prefix_by lm inner c lev (from ts k)) (Is (new_expr s f absent) n) Q
  unfolding new_by new_end
  bare_found e b q d y i l st p = prefix_new (Is (new_expr s f absent) n) e (then_word c new_kind ts m k _ _ _ e b q (if_no (eqb (kind m) dot_kind) _ _ _ _ d (then_is (callee_by lm inner c (from m k)) _ f n P _ Q (y k) i
      (λ j. if_no (eqb (kind n) left_paren_kind && leb 20 (level f)) _ _ _ _ (and_left (eqb (kind n) left_paren_kind) _ (ne_eqb (kind n) left_paren_kind (λ x. omega (arith, st, paren_goes c n x))))
      (if_yes ((leb 20 (level f) || eqb (level f) 18) && ltb (goes_expr c 0 n) 19) _ _ _ _ (and_from (leb 20 (level f) || eqb (level f) 18) _
      (⊎_elim (λ x. or_right (leb 20 (level f)) _ (eq-eqb (level f) 18 x)) (λ x. or_left (leb 20 (level f)) _ (le-leb 20 (level f) x)) l) (lt-ltb (goes_expr c 0 n) 19 st))
      (here (ap (λ (z : Span). new_expr z f absent) (sym p))))))))

  pub with_found : (xs : Trees) (o r : Input) (R : Type 0) → kind ts ≡ new_kind → barred c.context ts ≡ false → rest ts ≡ m → eqb (kind m) dot_kind ≡ false → ((j : List ℕ) → Reads (from m j) (callee_by lm inner c (from m j)) (Is f n) P) → (P → Q) → 20 ≤ level f → kind n ≡ left_paren_kind → rest n ≡ o
      → ((h : List ℕ) → Reads (from o h) (elements_by lm inner c false right_paren_kind (from o h)) (Has (unpack xs) r) R) → (R → Q) → s ≡ span (lo ts) r.last → Reads (from ts k) (prefix_by lm inner c lev (from ts k)) (Is (new_expr s f (list xs)) r) Q
  unfolding new_by new_end arguments_by
  with_found xs o r R e b q d y i l u v w x p = prefix_new (Is (new_expr s f (list xs)) r) e (then_word c new_kind ts m k _ _ _ e b q (if_no (eqb (kind m) dot_kind) _ _ _ _ d (then_is (callee_by lm inner c (from m k)) _ f n P _ Q (y k) i
      (λ j. if_yes (eqb (kind n) left_paren_kind && leb 20 (level f)) _ _ _ _ (and_from (eqb (kind n) left_paren_kind) _ (eq-eqb (kind n) left_paren_kind u) (le-leb 20 (level f) l))
      (then_past n o j (arguments_by lm inner c) _ (unpack xs) r R _ Q v (then_reads _ _ _ R _ R (w j) (λ z. z) (λ x h. ended (x.0.items, x.1) _ R h)) x
      (λ h. here (ap (λ (z : Span). new_expr z f (list (pack (unpack xs)))) (sym p) ∙ ap (λ (ys : Trees). new_expr s f (list ys)) (pack_unpack xs))))))))

pub no_dot : (f : Tree) (c : Code) (m r : Input) → Covered f → Callee f → Produces f c m r → eqb (kind m) dot_kind ≡ false
no_dot f c m r g b h = no_kind begins (kind m) dot_kind (starts f c m r g (omega (arith, callee_least f b)) h) refl

module _ (z : ℕ) (ih : (e : ℕ) → Comes z e) (F : Behind) (leads : Leads F) (p : Bool) (c : Code) where
  abbrev NoAsync : Input → Type 0
  NoAsync m = kind m ≡ async_kind → kind2 m ≡ left_paren_kind → ⊥

  -- the name `async`, or an expression
  either : (f : Tree) (m r : Input) (d : ℕ) (k : List ℕ) → Covered f → Callee f → Produces f (coded p c) m r → (NoAsync m → Reads (from m k) ((readers lm d).expr c 20 (from m k)) (Is f r) (d < reach f)) → Reads (from m k) (callee_by lm (readers lm d) c (from m k)) (Is f r) (d < reach f)
  unfolding callee_by
  either f m r d k g b h y = ⊎_elim
      (λ (a : kind m ≡ async_kind). ⊎_elim
      (λ (o : kind2 m ≡ left_paren_kind). let i = alone f (coded p c) m r g b h a o in let v : Produces (ident i.0 i.1) (coded p c) m r = subst (λ (t : Tree). Produces t (coded p c) m r) i.2 h in
      if_yes (eqb (kind m) async_kind && eqb (kind2 m) left_paren_kind) _ _ _ _ (and_from (eqb (kind m) async_kind) _ (eq-eqb (kind m) async_kind a) (eq-eqb (kind2 m) left_paren_kind o))
      (then_name c m r i.1 k _ _ _ (v.0.0, v.0.1, v.0.2) v.0.3 v.0.5 (here (ap (λ (w : Span). ident w i.1) (first_at m r i.0 v.0.5 v.1) ∙ sym i.2))))
      (λ (o : kind2 m ≡ left_paren_kind → ⊥). if_no (eqb (kind m) async_kind && eqb (kind2 m) left_paren_kind) _ _ _ _ (and_right (eqb (kind m) async_kind) _ (ne_eqb (kind2 m) left_paren_kind o)) (y (λ u v. o v)))
      (cases_eq (kind2 m) left_paren_kind))
      (λ (a : kind m ≡ async_kind → ⊥). if_no (eqb (kind m) async_kind && eqb (kind2 m) left_paren_kind) _ _ _ _ (and_left (eqb (kind m) async_kind) _ (ne_eqb (kind m) async_kind a)) (y (λ u v. a u)))
      (cases_eq (kind m) async_kind)

  -- no parenthesis follows the name `async` here
  bare_here : (f : Tree) (m r : Input) → Produces f (coded p c) m r → NoAsync m → Bare f m r
  bare_here (ident s x) m r h na = λ e q. absurd (na e (ap (λ (y : Input). kind y) h.0.5 ∙ q))
  bare_here _ m r h na = tt

  tight : (f : Tree) (m r : Input) (d : ℕ) (k : List ℕ) → size f < z → Covered f → 20 ≤ level f → Produces f (coded p c) m r → goes_expr c 0 r < 20 → F.tree p c 20 f m r → NoAsync m → Reads (from m k) ((readers lm d).expr c 20 (from m k)) (Is f r) (d < reach f)
  tight f m r d k sz g b h st fa na = reads z d ih F leads f p c 20 m r k sz g h (omega arith) (record { conditional = λ e. omega (arith, e); update = λ e. omega (arith, e) }) b
      (subst (λ (e : ℕ). goes_expr c e r < 20) (sym (ends_high f (omega (arith, b)))) st) (bare_here f m r h na) fa

  -- a bare `new` is handed on, though it doesn't bind as tightly as a member
  handed : (f : Tree) (m r : Input) (d : ℕ) (k : List ℕ) (Q : Type 0) → level f ≡ 18 → kind m ≡ new_kind → Reads (from m k) (prefix_by lm (readers lm d) c 20 (from m k)) (Is f r) Q → Reads (from m k) (expr_by lm (readers lm d) c 20 (from m k)) (Is f r) Q
  unfolding expr_by expr_from loop_by
  handed f m r d k Q l e y = if_no (eqb (kind m) hash_kind) _ _ _ _ (subst (λ (x : ℕ). eqb x hash_kind ≡ false) (sym e) refl) (then_is (prefix_by lm (readers lm d) c 20 (from m k)) _ f r Q _ Q y (λ u. u)
      (λ j. rw l (here refl)))

  pub callee_found : (f : Tree) (m r : Input) (d : ℕ) (k : List ℕ) → size f < z → Covered f → Callee f → Produces f (coded p c) m r → goes_expr c 0 r < 20 → F.tree p c 20 f m r → Reads (from m k) (callee_by lm (readers lm d) c (from m k)) (Is f r) (d < reach f)
  unfolding readers
  callee_found (new_expr s f absent) m r zero k sz g b h st fa = either (new_expr s f absent) m r zero k g b h (λ na. too_deep _ _ (omega arith))
  callee_found (new_expr s f absent) m r (suc d) k sz g b h st fa = either (new_expr s f absent) m r (suc d) k g b h (λ na. let w = callee_of f (coded p c) h.0 r g.0 h.3 h.2 in
      handed (new_expr s f absent) m r d k (suc d < suc (max (reach f) 0)) refl h.1.0 (bare_found (readers lm d) c 20 m k s f h.0 r (d < reach f) (suc d < suc (max (reach f) 0)) h.1.0 h.1.1 h.1.3 (no_dot f (coded p c) h.0 r g.0 w h.3)
      (λ j. callee_found f h.0 r d j (omega arith) g.0 w h.3 st (leads.bare_new p c 20 s f m r fa h)) (λ u. omega arith) h.2 h.4 h.5))
  callee_found f m r d k sz g b h st fa = either f m r d k g b h (λ na. tight f m r d k sz g b h st fa na)

-- what is known behind a callee that arguments follow
pub firm_callee : (f : Tree) (c : Code) (r : Input) → Callee f → sober c r ≡ true → Firm c (ends f) 20 (tail f) r
firm_callee f c r b s = record { calm = λ o u. absurd (omega arith); end = λ o u. absurd (omega (arith, u, tail_high f (callee_least f b))); sober = s; quits = λ o. absurd (omega (arith, o, ends_high f (callee_least f b))) }
