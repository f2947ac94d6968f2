-- A target before `in` or `of` is read as an expression that is refined to it (ECMA-262, 14.7.5).
use Rattle.std.proofs.Common.{◌≡◌, ℕ, zero, suc, ◌<◌, ◌≤◌, Bool, true, false, eqb, leb, List, Ok, refl, sym, ap, ◌∙◌, subst, true≢false, arith}
use Rattle.std.proofs.lemmas.Bool.{le-leb, and_parts}
use Rattle.base_token.specs.declared.place.Span.{Span}
use Rattle.base_token.specs.Kinds.{hash_kind}
use Rattle.tree_spec.specs.Tree.{Tree, ident, member_expr, super_prop_expr, paren_expr, binding_ident, array_pat, object_pat, expr_pat}
use Rattle.grammar_spec.specs.Tokens.Input.{Input, Code, kind, lo}
use Rattle.grammar_spec.specs.Tokens.Operators.{goes_expr}
use Rattle.grammar_spec.specs.Tokens.Shape.{level, ends, is_simple, is_target_expr, is_structured, is_place}
use Rattle.grammar_spec.specs.Grammar.{Produces}
use Rattle.grammar_spec.specs.Reader.Source.{State}
use Rattle.grammar_spec.specs.Reader.Cover.{to_head}
use Rattle.grammar_spec.specs.Reader.Expressions.{expr_by, expr_from, loop_by, loop_step, prefix_by}
use Rattle.grammar_spec.specs.Reader.Reading.{readers}
use Rattle.grammar_laws.proofs.complete_base.Yields.{lm, from, coded, Reads, reads_map, reads_deep, then_reads, too_deep, if_no, if_yes, looped}
use Rattle.grammar_laws.proofs.complete_base.Levels.{Follow, ends_high}
use Rattle.grammar_laws.proofs.complete_base.Trees.{Covered, size, reach}
use Rattle.grammar_laws.proofs.complete_rules.Lists.{Finds, one_asked}
use Rattle.grammar_laws.proofs.complete_rules.Covers.{Cover_read, target_least}
use Rattle.grammar_laws.proofs.complete_rules.Coverings.{coverings, structured_read, structured_starts, stops_here, target_item, positive_cover}

-- What is read is refined to this target, with these tokens as the rest.
abbrev pub Head : Tree → Input → Tree × State Input → Type 0
Head t r y = (to_head y.1.commas y.0 ≡ Ok t) × (y.1.source ≡ r)

structured_head : (z : ℕ) → ((e : ℕ) → Finds z e) → (d : ℕ) (p : Bool) (c : Code) (t : Tree) (ts r : Input) (k : List ℕ) → size t < z → Covered t → is_structured t ≡ true → Produces t (coded p c) ts r → Follow c 0 1 r → Reads (from ts k) ((readers lm d).expr c 1 (from ts k)) (Head t r) (d < reach t)
unfolding readers expr_by expr_from loop_by
structured_head z f zero p c t ts r k sz g e h fo = too_deep _ _ (positive_cover t e)
structured_head z f (suc d) p c t ts r k sz g e h fo = if_no (eqb (kind ts) hash_kind) _ _ _ _ (structured_starts t (coded p c) ts r e h)
    (then_reads (prefix_by lm (readers lm d) c 1 (from ts k)) _ (Cover_read t r) (suc d < reach t) _ _ (structured_read z d (f d) (coverings z f d) p c 1 t ts r k (reach t) (omega arith) g e h (omega arith)) (λ u. u)
    (λ y v. if_yes (leb 1 (level y.0)) _ _ _ _ (le-leb 1 (level y.0) (omega (arith, v.tight)))
    (looped (loop_step lm (readers lm d) c 1 (lo ts)) y.0 y.1.source y.1.commas _ _ (stops_here (readers lm d) c 1 (from ts k) y.1 y.0 _ _ (subst (λ (i : Input). goes_expr c (ends y.0) i < 1) (sym v.source) (subst (λ (e : ℕ). goes_expr c e r < 1) (sym v.closed) fo.stop))
    (v.head y.1.commas ∙ v.refines.so false refl y.1.commas (λ n q. refl), v.source)))))

simple_head : (z d : ℕ) → Finds z d → (p : Bool) (c : Code) (x t : Tree) (ts r : Input) (k : List ℕ) → size x < z → Covered x → Produces x (coded p c) ts r → 1 ≤ level x → Follow c (ends x) 1 r → ((i : List ℕ) → to_head i x ≡ Ok t) → reach x ≤ reach t → Reads (from ts k) ((readers lm d).expr c 1 (from ts k)) (Head t r) (d < reach t)
simple_head z d f p c x t ts r k sz g h le fo q rl = reads_deep (λ u. omega arith) (reads_map _ (λ y v. (subst (λ (o : Tree). to_head y.1.commas o ≡ Ok t) (sym v.0) (q y.1.commas), v.1)) (f x p c 1 ts r k sz g h (omega arith) (omega arith) one_asked le fo))

target_head : (x : Tree) → is_target_expr x ≡ true → is_simple x ≡ true → (i : List ℕ) → to_head i x ≡ Ok (expr_pat x)
target_head (member_expr s o k) e q i = refl
target_head (super_prop_expr s o k) e q i = refl
target_head (paren_expr s x) e q i = target_item (paren_expr s x) e q false refl i
target_head _ e q i = absurd (true≢false (sym e))

-- What a covered target produces, before what doesn't go on, is read by calls so deep as an expression that is refined to it, or they are not deep enough.
pub head_found : (z : ℕ) → ((e : ℕ) → Finds z e) → (d : ℕ) (t : Tree) (p : Bool) (c : Code) (ts r : Input) (k : List ℕ) → size t < z → Covered t → is_place false t ≡ true → Produces t (coded p c) ts r → Follow c 0 1 r → Reads (from ts k) ((readers lm d).expr c 1 (from ts k)) (Head t r) (d < reach t)
head_found z f d (binding_ident s (ident t n)) p c ts r k sz g e h fo = simple_head z d (f d) p c (ident s n) (binding_ident s (ident t n)) ts r k (omega (arith, sz)) tt h.1 (omega arith) fo (λ i. ap (λ (y : Span). Ok (binding_ident s (ident y n))) h.0) (omega arith)
head_found z f d (binding_ident s x) p c ts r k sz g e h fo = absurd h
head_found z f d (array_pat s xs) p c ts r k sz g e h fo = structured_head z f d p c (array_pat s xs) ts r k sz g refl h fo
head_found z f d (object_pat s xs) p c ts r k sz g e h fo = structured_head z f d p c (object_pat s xs) ts r k sz g refl h fo
head_found z f d (expr_pat x) p c ts r k sz g e h fo = let w = and_parts (is_target_expr x) (is_simple x) e in
    let l = target_least x (coded p c) ts r w.0 h.1 in
    simple_head z d (f d) p c x (expr_pat x) ts r k sz g h.1 (omega (arith, l)) (subst (λ (i : ℕ). Follow c i 1 r) (sym (ends_high x (omega (arith, l)))) fo) (target_head x w.0 w.1) (omega arith)
head_found z f d _ p c ts r k sz g e h fo = absurd (true≢false (sym e))
