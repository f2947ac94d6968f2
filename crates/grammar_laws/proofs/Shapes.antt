-- What tests of trees, tokens and operators say of them.
use Rattle.std.proofs.Common.{true≢false, sym, true, ◌≡◌, ⊎_elim, refl, Some, ◌==◌, ◌≤◌, false, cond, ◌+◌, Bool, arith, ℕ, subst, leb, ap, List, [], ◌++◌, ◌∷◌}
use Rattle.std.proofs.lemmas.Bool.{or_cases, and_parts, leb-true, cases_eq}
use Rattle.base_token.specs.Kinds.{nullish_coalescing_kind, exp_kind, plus_plus_kind, minus_minus_kind}
use Rattle.tree_spec.specs.Tree.{Tree, hole, str_lit, expr_stmt, absent, if_stmt}
use Rattle.grammar_spec.specs.Tokens.Shape.{is_place, is_binding, is_hole, is_use_strict, is_directive, level, is_absent}
use Rattle.grammar_spec.specs.Tokens.Operators.{right_level, exponent_level, binary_level, bit_or_level, between}
use Rattle.grammar_spec.specs.Tokens.Input.{hi, lo, span}
use Rattle.grammar_spec.specs.Expressions.{is_update_op}
use Rattle.grammar_spec.specs.Reader.Statements.{chained, Branch}

pub place_binds : (t : Tree) → is_place true t ≡ true → is_binding t ≡ true
place_binds t h = ⊎_elim (λ q. q) (λ q. absurd (true≢false (sym q))) (or_cases (is_binding t) _ h)

pub hole_is : (x : Tree) → is_hole x ≡ true → x ≡ hole
hole_is hole e = refl
hole_is _ e = absurd (true≢false (sym e))

pub strict_directive : (t : Tree) → is_use_strict t ≡ true → is_directive t ≡ true
strict_directive (expr_stmt s (str_lit t u (Some w))) h = refl
strict_directive _ h = absurd (true≢false (sym h))

pub right_some : (k : ℕ) → 1 ≤ right_level k
right_some k = by_test (k == exp_kind) (k == nullish_coalescing_kind)
  where
    by_test : (a b : Bool) → 1 ≤ cond a exponent_level (cond b bit_or_level (binary_level k + 1))
    by_test true b = omega arith
    by_test false true = omega arith
    by_test false false = omega arith

pub update_op : (k : ℕ) → between plus_plus_kind minus_minus_kind k ≡ true → is_update_op k ≡ true
update_op k e = let b = and_parts (leb plus_plus_kind k) (leb k minus_minus_kind) e in let lo = leb-true plus_plus_kind k b.0 in let hi = leb-true k minus_minus_kind b.1 in
    ⊎_elim (λ (q : k ≡ plus_plus_kind). subst (λ (j : ℕ). is_update_op j ≡ true) (sym q) refl) (λ (n : k ≡ plus_plus_kind → ⊥).
    let q : k ≡ minus_minus_kind = omega (arith, lo, hi, n) in subst (λ (j : ℕ). is_update_op j ≡ true) (sym q) refl) (cases_eq k plus_plus_kind)

pub present : (e : Tree) → 1 ≤ level e → is_absent e ≡ false
present absent l = absurd (omega (arith, l))
present _ l = refl

pub chained_snoc : (hi : ℕ) (bs : List Branch) (b : Branch) (t : Tree) → chained hi (bs ++ b ∷ []) t ≡ chained hi bs (if_stmt (span b.start hi) b.test b.consequent t)
chained_snoc hi [] b t = refl
chained_snoc hi (x ∷ bs) b t = ap (λ (y : Tree). if_stmt (span x.start hi) x.test x.consequent y) (chained_snoc hi bs b t)

pub absent_is : (t : Tree) → is_absent t ≡ true → t ≡ absent
absent_is absent h = refl
absent_is _ h = absurd (true≢false (sym h))
