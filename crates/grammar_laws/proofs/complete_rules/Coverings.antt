-- An item of a pattern that assigns is read as an expression that is refined to it, by readers that a number of calls ties.
use Rattle.std.proofs.Common.{◌≡◌, ℕ, zero, suc, ◌<◌, ◌≤◌, Bool, true, false, not, ◌||◌, eqb, leb, ltb, List, Ok, refl, sym, ap, subst, true≢false, arith}
use Rattle.std.proofs.lemmas.Bool.{ne_eqb, le-leb, lt-ltb, and_parts}
use Rattle.base_token.specs.declared.place.Span.{Span}
use Rattle.base_token.specs.Kinds.{hash_kind, assign_kind}
use Rattle.tree_spec.specs.Tree.{Tree, ident, member_expr, super_prop_expr, paren_expr, assign_expr, binding_ident, array_pat, object_pat, assign_pat, rest_pat, expr_pat}
use Rattle.grammar_spec.specs.Tokens.Input.{Input, Code, kind, with_in, lo}
use Rattle.grammar_spec.specs.Tokens.Operators.{goes_expr}
use Rattle.grammar_spec.specs.Tokens.Shape.{level, ends, is_simple, is_target_expr, is_structured, is_place, is_target}
use Rattle.grammar_spec.specs.Grammar.{Produces}
use Rattle.grammar_spec.specs.Reader.Source.{State, Inner, Step, finished}
use Rattle.grammar_spec.specs.Reader.Cover.{to_item}
use Rattle.grammar_spec.specs.Reader.Expressions.{expr_by, expr_from, loop_by, loop_step, prefix_by}
use Rattle.grammar_spec.specs.Reader.Reading.{readers}
use Rattle.grammar_laws.proofs.complete_base.Yields.{lm, from, coded, Reads, reads_map, reads_deep, then_reads, ended, too_deep, if_no, if_yes, Loops, Goes, loop_after, looped}
use Rattle.grammar_laws.proofs.complete_base.Levels.{Follow}
use Rattle.grammar_laws.proofs.complete_base.Trees.{Covered, size, reach}
use Rattle.grammar_laws.proofs.complete_rules.Lists.{Finds, two_asked}
use Rattle.grammar_laws.proofs.complete_rules.Covers.{Fit, Refines, Cover_read, Covering, array_cover, object_cover, target_least}

-- what is read of a pattern in brackets, by the readers of one call more
pub structured_read : (z d : ℕ) (f : Finds z d) (cov : Covering z d) (p : Bool) (c : Code) (lev : ℕ) (t : Tree) (ts r : Input) (k : List ℕ) (n : ℕ) → size t < suc z → Covered t → is_structured t ≡ true → Produces t (coded p c) ts r → reach t ≤ n
    → Reads (from ts k) (prefix_by lm (readers lm d) c lev (from ts k)) (Cover_read t r) (suc d < n)
structured_read z d f cov p c lev (array_pat s xs) ts r k n sz g e h le = array_cover z d cov p c lev s xs ts h.0 r k (suc d < n) (omega arith) g h.1.0 h.1.2 h.2 h.3 (λ u. omega arith)
structured_read z d f cov p c lev (object_pat s xs) ts r k n sz g e h le = object_cover z d f cov p c lev s xs ts h.0 r k (suc d < n) (omega arith) g h.1.0 h.1.2 h.2 h.3 (λ u. omega arith)
structured_read z d f cov p c lev _ ts r k n sz g e h le = absurd (true≢false (sym e))

pub structured_starts : (t : Tree) (c : Code) (ts r : Input) → is_structured t ≡ true → Produces t c ts r → eqb (kind ts) hash_kind ≡ false
structured_starts (array_pat s xs) c ts r e h = ne_eqb (kind ts) hash_kind (λ q. omega (arith, q, h.1.0))
structured_starts (object_pat s xs) c ts r e h = ne_eqb (kind ts) hash_kind (λ q. omega (arith, q, h.1.0))
structured_starts _ c ts r e h = absurd (true≢false (sym e))

-- the loop stops at once, with what has been read
pub stops_here : (inner : Inner Input) (c : Code) (l : ℕ) (start s : State Input) (x : Tree) (W : Tree × State Input → Type 0) (Q : Type 0) → goes_expr c (ends x) s.source < l → W (x, s) → Loops (loop_step lm inner c l (lo start.source)) x s.source s.commas W Q
unfolding loop_step
stops_here inner c l start s x W Q h w = loop_after (loop_step lm inner c l (lo start.source)) x s.source s.commas (λ y. ◌≡◌ {A = Step Tree × State Input} y (finished x, s)) ⊥ W Q
    (if_yes (ltb (goes_expr c (ends x) s.source) l) _ _ _ _ (lt-ltb (goes_expr c (ends x) s.source) l h) (ended (finished x, s) _ _ refl)) (λ u. absurd u)
    (λ y v a. subst (λ (o : Step Tree × State Input). Goes (loop_step lm inner c l (lo start.source)) s.source W Q o) (sym v) w)

-- a pattern in brackets as an item
structured_item : (z d : ℕ) (f : Finds z d) (cov : Covering z d) (p : Bool) (c : Code) (t : Tree) (ts r : Input) (k : List ℕ) → size t < suc z → Covered t → is_structured t ≡ true → Produces t (coded p c) ts r → ((e : ℕ) → Follow c e 2 r)
    → Reads (from ts k) (expr_by lm (readers lm d) c 2 (from ts k)) (λ y. (y.1.source ≡ r) × Refines false y.0 t y.1) (suc d < reach t)
unfolding expr_by expr_from loop_by
structured_item z d f cov p c t ts r k sz g e h fo = if_no (eqb (kind ts) hash_kind) _ _ _ _ (structured_starts t (coded p c) ts r e h)
    (then_reads (prefix_by lm (readers lm d) c 2 (from ts k)) _ (Cover_read t r) (suc d < reach t) _ _ (structured_read z d f cov p c 2 t ts r k (reach t) sz g e h (omega arith)) (λ u. u)
    (λ y v. if_yes (leb 2 (level y.0)) _ _ _ _ (le-leb 2 (level y.0) (omega (arith, v.tight)))
    (looped (loop_step lm (readers lm d) c 2 (lo ts)) y.0 y.1.source y.1.commas _ _ (stops_here (readers lm d) c 2 (from ts k) y.1 y.0 _ _ (subst (λ (i : Input). goes_expr c (ends y.0) i < 2) (sym v.source) (fo (ends y.0)).stop) (v.source, v.refines)))))

-- ---- other items

named_item : (z d : ℕ) (f : Finds z d) (p : Bool) (c : Code) (x : Tree) (t : Tree) (ts m : Input) (k : List ℕ) → size x < z → Covered x → Produces x (coded p c) ts m → 2 ≤ level x → ((e : ℕ) → Follow c e 2 m) → ((bb : Bool) → Fit bb t → (i : List ℕ) → to_item bb i x ≡ Ok t) → reach x ≤ reach t
    → Reads (from ts k) ((readers lm d).expr c 2 (from ts k)) (λ y. (y.1.source ≡ m) × Refines false y.0 t y.1) (d < reach t)
named_item z d f p c x t ts m k sz g h le fo q rl = reads_deep (λ u. omega arith) (reads_map _ (λ y v. (v.1, record { so = λ bb ft i o. subst (λ (b : Tree). to_item bb i b ≡ Ok t) (sym v.0) (q bb ft i) })) (f x p c 2 ts m k sz g h (omega arith) (omega arith) two_asked le (fo (ends x))))

not_bound : (b : Bool) → (not b || false) ≡ true → b ≡ false
not_bound true h = absurd (true≢false (sym h))
not_bound false h = refl

pub target_item : (x : Tree) → is_target_expr x ≡ true → is_simple x ≡ true → (bb : Bool) → Fit bb (expr_pat x) → (i : List ℕ) → to_item bb i x ≡ Ok (expr_pat x)
target_item (member_expr s o k) e q bb ft i = rw (not_bound bb ft) refl
target_item (super_prop_expr s o k) e q bb ft i = rw (not_bound bb ft) refl
target_item (paren_expr s x) e q bb ft i = rw (not_bound bb ft, q) refl
target_item _ e q bb ft i = absurd (true≢false (sym e))

-- the target of an initialiser's assignment
abbrev bare : Tree → Tree
bare (expr_pat e) = e
bare t = t

record Target (s : Span) (a e : Tree) (c : Code) (ts m : Input) : Type 0 where
  pub target : is_target assign_kind (bare a) ≡ true
  pub produced : Produces (bare a) c ts m
  pub covered : Covered (bare a)
  pub small : size (bare a) ≤ size a
  pub shallow : reach (bare a) ≤ reach a
  pub refines : (bb : Bool) → Fit bb a → (i : List ℕ) → to_item bb i (assign_expr s assign_kind (bare a) e) ≡ Ok (assign_pat s a e)

bare_target : (s : Span) (a e : Tree) (c : Code) (ts m : Input) → Covered a → is_place false a ≡ true → Produces a c ts m → Target s a e c ts m
bare_target s (binding_ident t i) e c ts m g q h = record { target = refl; produced = h; covered = g; small = omega arith; shallow = omega arith; refines = λ bb ft i. rw ft refl }
bare_target s (array_pat t i) e c ts m g q h = record { target = refl; produced = h; covered = g; small = omega arith; shallow = omega arith; refines = λ bb ft i. rw ft refl }
bare_target s (object_pat t i) e c ts m g q h = record { target = refl; produced = h; covered = g; small = omega arith; shallow = omega arith; refines = λ bb ft i. rw ft refl }
bare_target s (expr_pat (member_expr t o k)) e c ts m g q h = record { target = refl; produced = h.1; covered = g; small = omega arith; shallow = omega arith; refines = λ bb ft i. rw (not_bound bb ft) refl }
bare_target s (expr_pat (super_prop_expr t o k)) e c ts m g q h = record { target = refl; produced = h.1; covered = g; small = omega arith; shallow = omega arith; refines = λ bb ft i. rw (not_bound bb ft) refl }
bare_target s (expr_pat (paren_expr t x)) e c ts m g q h = record { target = rw q refl; produced = h.1; covered = g; small = omega arith; shallow = omega arith; refines = λ bb ft i. rw (not_bound bb ft) refl }
bare_target s (expr_pat x) e c ts m g q h = absurd (true≢false (sym q))
bare_target s _ e c ts m g q h = absurd (true≢false (sym q))

valued_item : (z d : ℕ) (f : Finds z d) (p : Bool) (c : Code) (s : Span) (a e : Tree) (ts m : Input) (k : List ℕ) → size (assign_pat s a e) < z → Covered (assign_pat s a e) → Produces (assign_pat s a e) (coded p (with_in c)) ts m → ((i : ℕ) → Follow (with_in c) i 2 m)
    → Reads (from ts k) ((readers lm d).expr (with_in c) 2 (from ts k)) (λ y. (y.1.source ≡ m) × Refines false y.0 (assign_pat s a e) y.1) (d < reach (assign_pat s a e))
valued_item z d f p c s a e ts m k sz g h fo = let w = bare_target s a e (coded p (with_in c)) ts h.0 g.0 h.2 h.3 in
    named_item z d f p (with_in c) (assign_expr s assign_kind (bare a) e) (assign_pat s a e) ts m k (omega (arith, w.small, sz)) (w.covered, g.1) (h.0, h.1, refl, w.target, w.produced, h.4, h.5, h.6) (omega arith) fo w.refines (omega (arith, w.shallow))

-- an item that is no rest
item_by : (z d : ℕ) → Finds (suc z) d → ((t : Tree) (p : Bool) (c : Code) (ts r : Input) (k : List ℕ) → size t < suc z → Covered t → is_structured t ≡ true → Produces t (coded p c) ts r → ((e : ℕ) → Follow c e 2 r) → Reads (from ts k) ((readers lm d).expr c 2 (from ts k)) (λ y. (y.1.source ≡ r) × Refines false y.0 t y.1) (d < reach t))
    → Covering (suc z) d
item_by z d f b (binding_ident s (ident t n)) p c ts m k sz g i nr h fo = named_item (suc z) d f p (with_in c) (ident s n) (binding_ident s (ident t n)) ts m k (omega (arith, sz)) tt h.1 (omega arith) fo (λ bb ft i. ap (λ (y : Span). Ok (binding_ident s (ident y n))) h.0) (omega arith)
item_by z d f b (binding_ident s x) p c ts m k sz g i nr h fo = absurd h
item_by z d f b (expr_pat x) p c ts m k sz g i nr h fo = let w = and_parts (is_target_expr x) (is_simple x) i in
    named_item (suc z) d f p (with_in c) x (expr_pat x) ts m k sz g h.1 (omega (arith, target_least x (coded p (with_in c)) ts m w.0 h.1)) fo (target_item x w.0 w.1) (omega arith)
item_by z d f b (assign_pat s a e) p c ts m k sz g i nr h fo = valued_item (suc z) d f p c s a e ts m k sz g h fo
item_by z d f b (array_pat s xs) p c ts m k sz g i nr h fo = b (array_pat s xs) p (with_in c) ts m k sz g refl h fo
item_by z d f b (object_pat s xs) p c ts m k sz g i nr h fo = b (object_pat s xs) p (with_in c) ts m k sz g refl h fo
item_by z d f b (rest_pat s q a) p c ts m k sz g i nr h fo = absurd (true≢false nr)
item_by z d f b _ p c ts m k sz g i nr h fo = absurd (true≢false (sym i))

pub positive_cover : (t : Tree) → is_structured t ≡ true → 0 < reach t
positive_cover (array_pat s xs) e = omega arith
positive_cover (object_pat s xs) e = omega arith
positive_cover _ e = absurd (true≢false (sym e))

lesser : (z : ℕ) → ((e : ℕ) → Finds (suc z) e) → (e : ℕ) → Finds z e
lesser z f e t p c l ts r k sz = f e t p c l ts r k (omega (arith, sz))

by_depth : (z : ℕ) → ((e : ℕ) → Finds (suc z) e) → ((e : ℕ) → Covering z e) → (d : ℕ) (t : Tree) (p : Bool) (c : Code) (ts r : Input) (k : List ℕ) → size t < suc z → Covered t → is_structured t ≡ true → Produces t (coded p c) ts r → ((e : ℕ) → Follow c e 2 r)
    → Reads (from ts k) ((readers lm d).expr c 2 (from ts k)) (λ y. (y.1.source ≡ r) × Refines false y.0 t y.1) (d < reach t)
unfolding readers
by_depth z f cov zero t p c ts r k sz g e h fo = too_deep _ _ (positive_cover t e)
by_depth z f cov (suc d) t p c ts r k sz g e h fo = structured_item z d (lesser z f d) (cov d) p c t ts r k sz g e h fo

pub coverings : (z : ℕ) → ((e : ℕ) → Finds z e) → (d : ℕ) → Covering z d
coverings zero f d x p c ts m k sz g i n h fo = absurd (omega arith)
coverings (suc z) f d x p c ts m k sz g i n h fo = item_by z d (f d) (by_depth z f (coverings z (lesser z f)) d) x p c ts m k sz g i n h fo
