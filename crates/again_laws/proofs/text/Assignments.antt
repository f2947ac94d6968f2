-- Assignment operators are tokens of their category (ECMA-262, 13.15).
use Rattle.std.proofs.Common.{◌≡◌, ℕ, true, false, [], ◌∷◌, ⊎_elim, refl, sym, subst, arith}
use Rattle.std.specs.Prelude.{◌==◌, codes}
use Rattle.std.proofs.lemmas.Bool.{cases_Bool, eqb-true}
use Rattle.std.proofs.lemmas.Bool.Decides.{nat_tests}
use Rattle.base_proofs.proofs.Lists.{cons_tail}
use Rattle.base_token.specs.Operators.{operator_text}
use Rattle.base_token.specs.declared.token.TokenKind.TheVariants as t
use Rattle.base_token.specs.declared.operator.AssignOp.TheVariants as a
use Rattle.grammar_spec.specs.Tokens.Operators.{is_assign_op}
use Rattle.lex_token.specs.declared.goal.LexicalGoal.TheVariants.{Div}
use Rattle.again_laws.proofs.tokens.Punctuators.{look, stays, all_stay}
use Rattle.again_laws.specs.Tiling.Categories.{Operator}
use Rattle.again_laws.specs.Tiling.Goes.{Fits}
use Rattle.again_laws.proofs.tiling.Marks.{not_first}
use Rattle.again_laws.proofs.text.Marks.{operator_mark, led_mark}
use Rattle.again_laws.proofs.tiling.Wordless.{wordless}

equals_assign : Fits Div (codes "=") Operator
unfolding look stays all_stay
equals_assign = operator_mark 61 [] (t.AssignOp a.Assign) refl refl refl refl refl refl refl (wordless 61 refl)

plus_assign : Fits Div (codes "+=") Operator
unfolding look stays all_stay
plus_assign = operator_mark 43 (61 ∷ []) (t.AssignOp a.AddAssign) refl refl refl refl refl refl refl (wordless 43 refl)

minus_assign : Fits Div (codes "-=") Operator
unfolding look stays all_stay
minus_assign = led_mark 45 (61 ∷ []) (t.AssignOp a.SubAssign) refl refl refl refl refl refl (wordless 45 refl)
    (λ rest. (record { white = refl; line = refl; slashes = λ inner. not_first 45 47 (61 ∷ rest) (47 ∷ inner) refl; block = λ inner. not_first 45 47 (61 ∷ rest) (42 ∷ inner) refl; html = λ inner. not_first 45 60 (61 ∷ rest) (33 ∷ 45 ∷ 45 ∷ inner) refl }, λ inner e. not_first 61 45 (rest) (62 ∷ inner) refl (cons_tail 45 45 (61 ∷ rest) (45 ∷ 62 ∷ inner) e)))

times_assign : Fits Div (codes "*=") Operator
unfolding look stays all_stay
times_assign = operator_mark 42 (61 ∷ []) (t.AssignOp a.MulAssign) refl refl refl refl refl refl refl (wordless 42 refl)

divide_assign : Fits Div (codes "/=") Operator
unfolding look stays all_stay
divide_assign = led_mark 47 (61 ∷ []) (t.AssignOp a.DivAssign) refl refl refl refl refl refl (wordless 47 refl)
    (λ rest. (record { white = refl; line = refl; slashes = λ inner e. not_first 61 47 (rest) (inner) refl (cons_tail 47 47 (61 ∷ rest) (47 ∷ inner) e); block = λ inner e. not_first 61 42 (rest) (inner) refl (cons_tail 47 47 (61 ∷ rest) (42 ∷ inner) e); html = λ inner. not_first 47 60 (61 ∷ rest) (33 ∷ 45 ∷ 45 ∷ inner) refl }, λ inner. not_first 47 45 (61 ∷ rest) (45 ∷ 62 ∷ inner) refl))

rest_assign : Fits Div (codes "%=") Operator
unfolding look stays all_stay
rest_assign = operator_mark 37 (61 ∷ []) (t.AssignOp a.ModAssign) refl refl refl refl refl refl refl (wordless 37 refl)

shift_left_assign : Fits Div (codes "<<=") Operator
unfolding look stays all_stay
shift_left_assign = led_mark 60 (60 ∷ 61 ∷ []) (t.AssignOp a.LShiftAssign) refl refl refl refl refl refl (wordless 60 refl)
    (λ rest. (record { white = refl; line = refl; slashes = λ inner. not_first 60 47 (60 ∷ 61 ∷ rest) (47 ∷ inner) refl; block = λ inner. not_first 60 47 (60 ∷ 61 ∷ rest) (42 ∷ inner) refl; html = λ inner e. not_first 60 33 (61 ∷ rest) (45 ∷ 45 ∷ inner) refl (cons_tail 60 60 (60 ∷ 61 ∷ rest) (33 ∷ 45 ∷ 45 ∷ inner) e) }, λ inner. not_first 60 45 (60 ∷ 61 ∷ rest) (45 ∷ 62 ∷ inner) refl))

shift_right_assign : Fits Div (codes ">>=") Operator
unfolding look stays all_stay
shift_right_assign = operator_mark 62 (62 ∷ 61 ∷ []) (t.AssignOp a.RShiftAssign) refl refl refl refl refl refl refl (wordless 62 refl)

zero_fill_assign : Fits Div (codes ">>>=") Operator
unfolding look stays all_stay
zero_fill_assign = operator_mark 62 (62 ∷ 62 ∷ 61 ∷ []) (t.AssignOp a.ZeroFillRShiftAssign) refl refl refl refl refl refl refl (wordless 62 refl)

bit_or_assign : Fits Div (codes "|=") Operator
unfolding look stays all_stay
bit_or_assign = operator_mark 124 (61 ∷ []) (t.AssignOp a.BitOrAssign) refl refl refl refl refl refl refl (wordless 124 refl)

bit_xor_assign : Fits Div (codes "^=") Operator
unfolding look stays all_stay
bit_xor_assign = operator_mark 94 (61 ∷ []) (t.AssignOp a.BitXorAssign) refl refl refl refl refl refl refl (wordless 94 refl)

bit_and_assign : Fits Div (codes "&=") Operator
unfolding look stays all_stay
bit_and_assign = operator_mark 38 (61 ∷ []) (t.AssignOp a.BitAndAssign) refl refl refl refl refl refl refl (wordless 38 refl)

power_assign : Fits Div (codes "**=") Operator
unfolding look stays all_stay
power_assign = operator_mark 42 (42 ∷ 61 ∷ []) (t.AssignOp a.ExpAssign) refl refl refl refl refl refl refl (wordless 42 refl)

and_assign : Fits Div (codes "&&=") Operator
unfolding look stays all_stay
and_assign = operator_mark 38 (38 ∷ 61 ∷ []) (t.AssignOp a.AndAssign) refl refl refl refl refl refl refl (wordless 38 refl)

or_assign : Fits Div (codes "||=") Operator
unfolding look stays all_stay
or_assign = operator_mark 124 (124 ∷ 61 ∷ []) (t.AssignOp a.OrAssign) refl refl refl refl refl refl refl (wordless 124 refl)

coalesce_assign : Fits Div (codes "??=") Operator
unfolding look stays all_stay
coalesce_assign = operator_mark 63 (63 ∷ 61 ∷ []) (t.AssignOp a.NullishAssign) refl refl refl refl refl refl refl (wordless 63 refl)

-- of one of these kinds
pick : (k n : ℕ) (P : ℕ → Type 0) → P n → ((k == n) ≡ false → P k) → P k
pick k n P p f = ⊎_elim (λ (t : (k == n) ≡ true). subst P (sym (eqb-true k n t)) p) (λ (e : (k == n) ≡ false). f e) (cases_Bool (k == n))

abbrev IsOperator : ℕ → Type 0
IsOperator k = Fits Div (operator_text k) Operator

pub assignments : (k : ℕ) → is_assign_op k ≡ true → Fits Div (operator_text k) Operator
unfolding operator_text
assignments k h =
    pick k 60 IsOperator equals_assign (λ e60.
    pick k 61 IsOperator plus_assign (λ e61.
    pick k 62 IsOperator minus_assign (λ e62.
    pick k 63 IsOperator times_assign (λ e63.
    pick k 64 IsOperator divide_assign (λ e64.
    pick k 65 IsOperator rest_assign (λ e65.
    pick k 66 IsOperator shift_left_assign (λ e66.
    pick k 67 IsOperator shift_right_assign (λ e67.
    pick k 68 IsOperator zero_fill_assign (λ e68.
    pick k 69 IsOperator bit_or_assign (λ e69.
    pick k 70 IsOperator bit_xor_assign (λ e70.
    pick k 71 IsOperator bit_and_assign (λ e71.
    pick k 72 IsOperator power_assign (λ e72.
    pick k 73 IsOperator and_assign (λ e73.
    pick k 74 IsOperator or_assign (λ e74.
    pick k 75 IsOperator coalesce_assign (λ e75.
    absurd (grind (arith, nat_tests))))))))))))))))))
