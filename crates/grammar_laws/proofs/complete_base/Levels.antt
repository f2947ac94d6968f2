-- Levels of operators and of trees, and the next token.
use Rattle.std.proofs.Common.{◌≡◌, ℕ, ◌+◌, ◌<◌, ◌≤◌, ◌⊎◌, inl, inr, Bool, true, false, not, ◌&&◌, ◌||◌, ◌==◌, cond, eqb, leb, refl, sym, ap, ◌∙◌, subst, ⊎_elim, true≢false, arith}
use Rattle.std.proofs.lemmas.Bool.{eqb-true, ne_eqb, eq-eqb, cases_Bool, cases_eq, leb-true, or_cases, or_right, or_from, and_parts, and_left, and_right, not-true, false_from_ne_true}
use Rattle.base_proofs.proofs.Bools.{cond_second, cond_first}
use Rattle.base_token.specs.Kinds.{nullish_coalescing_kind, logical_or_kind, logical_and_kind, bit_or_kind, bit_xor_kind, bit_and_kind, eq_eq_kind, not_eq_eq_kind, lt_kind, gt_eq_kind, left_shift_kind, zero_fill_right_shift_kind, add_kind, sub_kind, mul_kind, mod_kind, exp_kind, in_kind, instanceof_kind, comma_kind, question_mark_kind, regex_kind, left_paren_kind, left_bracket_kind, dot_kind, back_quote_kind, arrow_kind, function_kind}
use Rattle.tree_spec.specs.Tree.{Tree, unary_expr, update_expr, await_expr, bin_expr, cond_expr, assign_expr, arrow_expr, yield_expr, seq_expr, member_expr, tagged_tpl, new_expr, absent}
use Rattle.grammar_spec.specs.Tokens.Input.{Input, Code, kind, brk, is_word, always_reserved}
use Rattle.grammar_spec.specs.Tokens.Operators.{assignment_level, binary_level, right_level, operates, is_assign_op, goes_expr, between}
use Rattle.grammar_spec.specs.Tokens.Shape.{level, ends, fits_left, is_private}
pub use Rattle.grammar_laws.specs.CompleteBase.Laws.{Asked, Follow, sober, arrowed, ends_operand, quits}

-- ---- tests

pick : (b : Bool) (x y : ℕ) (P : Type 0) → 1 ≤ cond b x y → (b ≡ true → P) → (1 ≤ y → P) → P
pick true x y P h f g = f refl
pick false x y P h f g = g h

each_of : (b : Bool) (x y : ℕ) (Q : ℕ → Type 0) → Q x → Q y → Q (cond b x y)
each_of true x y Q p q = p
each_of false x y Q p q = q

-- ---- operators

pub binary_cases : (k : ℕ) (P : Type 0) → 1 ≤ binary_level k → (30 ≤ k → k ≤ 52 → P) → (k ≡ 130 → P) → (k ≡ 131 → P) → P
binary_cases k P h f g i =
    let e : (n : ℕ) → 30 ≤ n → n ≤ 52 → eqb k n ≡ true → P = λ n a b q. f (omega (arith, eqb-true k n q)) (omega (arith, eqb-true k n q)) in
    let w : (a b : ℕ) → 30 ≤ a → b ≤ 52 → (leb a k && leb k b) ≡ true → P = λ a b p q z. let y = and_parts (leb a k) (leb k b) z in f (omega (arith, leb-true a k y.0)) (omega (arith, leb-true k b y.1)) in
    pick _ _ _ P h (e nullish_coalescing_kind (omega arith) (omega arith)) (λ h. pick _ _ _ P h (e logical_or_kind (omega arith) (omega arith)) (λ h. pick _ _ _ P h (e logical_and_kind (omega arith) (omega arith)) (λ h.
    pick _ _ _ P h (e bit_or_kind (omega arith) (omega arith)) (λ h. pick _ _ _ P h (e bit_xor_kind (omega arith) (omega arith)) (λ h. pick _ _ _ P h (e bit_and_kind (omega arith) (omega arith)) (λ h.
    pick _ _ _ P h (w eq_eq_kind not_eq_eq_kind (omega arith) (omega arith)) (λ h.
    pick _ _ _ P h (λ q. ⊎_elim (w lt_kind gt_eq_kind (omega arith) (omega arith)) (λ q. ⊎_elim (λ q. g (eqb-true k in_kind q)) (λ q. i (eqb-true k instanceof_kind q)) (or_cases _ _ q)) (or_cases _ _ q)) (λ h.
    pick _ _ _ P h (w left_shift_kind zero_fill_right_shift_kind (omega arith) (omega arith)) (λ h. pick _ _ _ P h (w add_kind sub_kind (omega arith) (omega arith)) (λ h. pick _ _ _ P h (w mul_kind mod_kind (omega arith) (omega arith)) (λ h.
    pick _ _ _ P h (e exp_kind (omega arith) (omega arith)) (λ h. absurd (omega arith)))))))))))))

levels_are : (k : ℕ) (Q : ℕ → Type 0) → Q 0 → Q 4 → Q 5 → Q 6 → Q 7 → Q 8 → Q 9 → Q 10 → Q 11 → Q 12 → Q 13 → Q 14 → Q 15 → Q (binary_level k)
levels_are k Q z a b c d e f g h i j l m = each_of _ _ _ Q a (each_of _ _ _ Q b (each_of _ _ _ Q c (each_of _ _ _ Q d (each_of _ _ _ Q e (each_of _ _ _ Q f (each_of _ _ _ Q g (each_of _ _ _ Q h (each_of _ _ _ Q i (each_of _ _ _ Q j (each_of _ _ _ Q l (each_of _ _ _ Q m z)))))))))))

pub binary_low : (k : ℕ) → binary_level k ≤ 15
binary_low k = levels_are k (λ n. n ≤ 15) (omega arith) (omega arith) (omega arith) (omega arith) (omega arith) (omega arith) (omega arith) (omega arith) (omega arith) (omega arith) (omega arith) (omega arith) (omega arith)

pub binary_four : (k : ℕ) → 1 ≤ binary_level k → 4 ≤ binary_level k
binary_four k = levels_are k (λ n. 1 ≤ n → 4 ≤ n) (λ h. omega arith) (λ h. omega arith) (λ h. omega arith) (λ h. omega arith) (λ h. omega arith) (λ h. omega arith) (λ h. omega arith) (λ h. omega arith) (λ h. omega arith) (λ h. omega arith) (λ h. omega arith) (λ h. omega arith) (λ h. omega arith)

pub operated : (c : Code) (k : ℕ) → operates c k ≡ true → 1 ≤ binary_level k
operated c k h = ⊎_elim (λ (e : k ≡ in_kind). subst (λ (n : ℕ). 1 ≤ binary_level n) (sym e) (omega arith))
    (λ (n : k ≡ in_kind → ⊥). leb-true 1 (binary_level k) (sym (cond_second (eqb k in_kind) _ _ (leb 1 (binary_level k)) (ne_eqb k in_kind n) refl) ∙ h)) (cases_eq k in_kind)

pub not_binary : (k n : ℕ) → 1 ≤ binary_level k → binary_level n ≡ 0 → eqb k n ≡ false
not_binary k n h e = ne_eqb k n (λ q. let z : 1 ≤ binary_level n = subst (λ (k : ℕ). 1 ≤ binary_level k) q h in omega (arith, e))

pub not_assign : (k : ℕ) → 1 ≤ binary_level k → is_assign_op k ≡ false
not_assign k h = false_from_ne_true (is_assign_op k) (λ q. let y = and_parts (leb 60 k) (leb k 75) q in let a = leb-true 60 k y.0 in let b = leb-true k 75 y.1 in
    binary_cases k ⊥ h (λ p q. omega (arith, a)) (λ e. omega (arith, b)) (λ e. omega (arith, b)))

pub right_over : (k n : ℕ) → n ≤ binary_level k → n ≤ 14 → n < right_level k
right_over k n h le = ⊎_elim (λ (e : k ≡ exp_kind). subst (λ (z : ℕ). n < z) (sym (cond_first (eqb k exp_kind) 15 _ 15 (eq-eqb k exp_kind e) refl)) (omega arith))
    (λ (x : k ≡ exp_kind → ⊥). subst (λ (z : ℕ). n < z) (sym (cond_second (eqb k exp_kind) 15 _ _ (ne_eqb k exp_kind x) refl))
    (⊎_elim (λ (e : k ≡ nullish_coalescing_kind). let a : n ≤ 4 = subst (λ (k : ℕ). n ≤ binary_level k) e h in subst (λ (z : ℕ). n < z) (sym (cond_first (eqb k nullish_coalescing_kind) 7 _ 7 (eq-eqb k nullish_coalescing_kind e) refl)) (omega arith))
    (λ (y : k ≡ nullish_coalescing_kind → ⊥). subst (λ (z : ℕ). n < z) (sym (cond_second (eqb k nullish_coalescing_kind) 7 (binary_level k + 1) _ (ne_eqb k nullish_coalescing_kind y) refl)) (omega arith)) (cases_eq k nullish_coalescing_kind))) (cases_eq k exp_kind)

pub right_least : (k : ℕ) → binary_level k ≤ right_level k
right_least k = ⊎_elim (λ (e : k ≡ exp_kind). subst (λ (k : ℕ). binary_level k ≤ right_level k) (sym e) (omega arith))
    (λ (x : k ≡ exp_kind → ⊥). subst (λ (z : ℕ). binary_level k ≤ z) (sym (cond_second (eqb k exp_kind) 15 _ _ (ne_eqb k exp_kind x) refl))
    (⊎_elim (λ (e : k ≡ nullish_coalescing_kind). subst (λ (k : ℕ). binary_level k ≤ cond (eqb k nullish_coalescing_kind) 7 (binary_level k + 1)) (sym e) (omega arith))
    (λ (y : k ≡ nullish_coalescing_kind → ⊥). subst (λ (z : ℕ). binary_level k ≤ z) (sym (cond_second (eqb k nullish_coalescing_kind) 7 (binary_level k + 1) _ (ne_eqb k nullish_coalescing_kind y) refl)) (omega arith)) (cases_eq k nullish_coalescing_kind))) (cases_eq k exp_kind)

-- ---- the level at which the last operand is read, 21 where there is none

abbrev pub tail : Tree → ℕ
tail (unary_expr s op a) = 16
tail (update_expr s op true a) = 16
tail (await_expr s a) = 16
tail (bin_expr s op a b) = right_level op
tail (cond_expr s a b d) = 2
tail (assign_expr s op a b) = 2
tail (arrow_expr s ps b i) = 2
tail (yield_expr s a g) = 2
tail (seq_expr s xs) = 2
tail _ = 21

pub tail_over : (t : Tree) (n : ℕ) → 4 ≤ n → n ≤ 14 → n ≤ level t → n < tail t
tail_over (bin_expr s op a b) n f le h = right_over op n h le
tail_over (update_expr s op true a) n f le h = omega arith
tail_over (update_expr s op false a) n f le h = omega arith
tail_over _ n f le h = omega arith

pub tail_update : (t : Tree) → 17 ≤ level t → 16 ≤ tail t
tail_update (bin_expr s op a b) h = absurd (omega (arith, binary_low op))
tail_update (update_expr s op true a) h = omega arith
tail_update (update_expr s op false a) h = omega arith
tail_update _ h = omega arith

pub tail_high : (t : Tree) → 18 ≤ level t → tail t ≡ 21
tail_high (bin_expr s op a b) h = absurd (omega (arith, binary_low op))
tail_high (unary_expr s op a) h = absurd (omega arith)
tail_high (update_expr s op b a) h = absurd (omega arith)
tail_high (await_expr s a) h = absurd (omega arith)
tail_high (cond_expr s a b d) h = absurd (omega arith)
tail_high (assign_expr s op a b) h = absurd (omega arith)
tail_high (arrow_expr s ps b i) h = absurd (omega arith)
tail_high (yield_expr s a g) h = absurd (omega arith)
tail_high (seq_expr s xs) h = absurd (omega arith)
tail_high _ h = refl

pub ends_high : (t : Tree) → 18 ≤ level t → ends t ≡ 0
ends_high (bin_expr s op a b) h = absurd (omega (arith, binary_low op))
ends_high (unary_expr s op a) h = absurd (omega arith)
ends_high (update_expr s op b a) h = absurd (omega arith)
ends_high (await_expr s a) h = absurd (omega arith)
ends_high (cond_expr s a b d) h = absurd (omega arith)
ends_high (assign_expr s op a b) h = absurd (omega arith)
ends_high (arrow_expr s ps b i) h = absurd (omega arith)
ends_high (yield_expr s a g) h = absurd (omega arith)
ends_high (seq_expr s xs) h = absurd (omega arith)
ends_high _ h = refl

pub right_five : (k : ℕ) → 1 ≤ binary_level k → 5 ≤ right_level k
right_five k h = let four = binary_four k h in ⊎_elim (λ (e : k ≡ exp_kind). subst (λ (z : ℕ). 5 ≤ z) (sym (cond_first (eqb k exp_kind) 15 _ 15 (eq-eqb k exp_kind e) refl)) (omega arith))
    (λ (x : k ≡ exp_kind → ⊥). subst (λ (z : ℕ). 5 ≤ z) (sym (cond_second (eqb k exp_kind) 15 _ _ (ne_eqb k exp_kind x) refl))
    (each_of (eqb k nullish_coalescing_kind) 7 (binary_level k + 1) (λ n. 5 ≤ n) (omega arith) (omega arith))) (cases_eq k exp_kind)

pub right_most : (k : ℕ) → right_level k ≤ 16
right_most k = let low = binary_low k in each_of (eqb k exp_kind) 15 _ (λ n. n ≤ 16) (omega arith) (each_of (eqb k nullish_coalescing_kind) 7 (binary_level k + 1) (λ n. n ≤ 16) (omega arith) (omega arith))

pub right_asked : (k : ℕ) → 1 ≤ binary_level k → Asked (right_level k)
right_asked k h = let a = right_five k h in let b = right_most k in record { conditional = λ e. omega (arith, e); update = λ e. omega (arith, e) }

-- what stops at a level stops before the last operand, at each level that is asked for
pub tail_stops : (t : Tree) (l n : ℕ) → l ≤ level t → Asked l → n < l → n < tail t
tail_stops (bin_expr s op a b) l n h x le = omega (arith, right_least op)
tail_stops (cond_expr s a b d) l n h x le = omega (arith, x.conditional)
tail_stops (update_expr s op true a) l n h x le = omega (arith, x.update)
tail_stops (update_expr s op false a) l n h x le = omega arith
tail_stops (new_expr s f absent) l n h x le = omega arith
tail_stops (new_expr s f xs) l n h x le = omega arith
tail_stops (member_expr s o k) l n h x le = omega arith
tail_stops (tagged_tpl s o k) l n h x le = omega arith
tail_stops _ l n h x le = omega arith

-- an assignment may stand as the last operand only where one may stand
pub tail_calm : (t : Tree) (l : ℕ) → l ≤ level t → Asked l → tail t ≤ assignment_level → l ≤ assignment_level
tail_calm (bin_expr s op a b) l h x le = omega (arith, right_least op)
tail_calm (cond_expr s a b d) l h x le = omega (arith, x.conditional)
tail_calm (update_expr s op true a) l h x le = absurd (omega arith)
tail_calm (update_expr s op false a) l h x le = absurd (omega arith)
tail_calm (unary_expr s op a) l h x le = absurd (omega arith)
tail_calm (await_expr s a) l h x le = absurd (omega arith)
tail_calm (assign_expr s op a b) l h x le = omega arith
tail_calm (arrow_expr s ps b i) l h x le = omega arith
tail_calm (yield_expr s a g) l h x le = omega arith
tail_calm (seq_expr s xs) l h x le = omega arith
tail_calm _ l h x le = absurd (omega arith)

pub from_no : (b x y : Bool) → b ≡ false → cond b x y ≡ true → y ≡ true
from_no true x y e h = absurd (true≢false e)
from_no false x y e h = h

pub from_yes : (b x y : Bool) → b ≡ true → cond b x y ≡ true → x ≡ true
from_yes true x y e h = h
from_yes false x y e h = absurd (true≢false (sym e))

levels_but : (k : ℕ) (Q : ℕ → Type 0) → Q 4 → Q 5 → Q 6 → Q 7 → Q 8 → Q 9 → Q 10 → Q 11 → Q 12 → Q 13 → Q 14 → Q (cond (eqb k exp_kind) 15 0) → Q (binary_level k)
levels_but k Q a b c d e f g h i j l m = each_of _ _ _ Q a (each_of _ _ _ Q b (each_of _ _ _ Q c (each_of _ _ _ Q d (each_of _ _ _ Q e (each_of _ _ _ Q f (each_of _ _ _ Q g (each_of _ _ _ Q h (each_of _ _ _ Q i (each_of _ _ _ Q j (each_of _ _ _ Q l m))))))))))

fourteen : (op : ℕ) → (op ≡ exp_kind → ⊥) → binary_level op ≤ 14
fourteen op x = levels_but op (λ n. n ≤ 14) (omega arith) (omega arith) (omega arith) (omega arith) (omega arith) (omega arith) (omega arith) (omega arith) (omega arith) (omega arith) (omega arith)
    (subst (λ (n : ℕ). n ≤ 14) (sym (cond_second (eqb op exp_kind) 15 0 0 (ne_eqb op exp_kind x) refl)) (omega arith))

-- the left operand of an operator binds as tightly
pub fits : (op : ℕ) (a : Tree) → is_private a ≡ false → 1 ≤ binary_level op → fits_left op a ≡ true → (binary_level op ≤ level a) × (binary_level op < tail a)
fits op a p b h =
    let four : 4 ≤ binary_level op = binary_four op b in
    let low : binary_level op ≤ 15 = binary_low op in
    let h2 : cond (eqb op exp_kind) (leb 17 (level a)) (cond (eqb op nullish_coalescing_kind) (eqb (level a) 4 || leb 7 (level a)) (leb (binary_level op) (level a))) ≡ true = from_no (is_private a) (eqb op in_kind) _ p h in
    ⊎_elim
    (λ (e : op ≡ exp_kind). let l : 17 ≤ level a = leb-true 17 (level a) (from_yes (eqb op exp_kind) _ _ (eq-eqb op exp_kind e) h2) in let u : 16 ≤ tail a = tail_update a l in (omega arith, omega arith))
    (λ (x : op ≡ exp_kind → ⊥).
    let h3 : cond (eqb op nullish_coalescing_kind) (eqb (level a) 4 || leb 7 (level a)) (leb (binary_level op) (level a)) ≡ true = from_no (eqb op exp_kind) _ _ (ne_eqb op exp_kind x) h2 in
    let n : binary_level op ≤ 14 = fourteen op x in
    let l : binary_level op ≤ level a = ⊎_elim
    (λ (e : op ≡ nullish_coalescing_kind). let v : binary_level op ≡ 4 = ap binary_level e in
    ⊎_elim (λ (q : eqb (level a) 4 ≡ true). let z : level a ≡ 4 = eqb-true (level a) 4 q in omega arith) (λ (q : leb 7 (level a) ≡ true). let z : 7 ≤ level a = leb-true 7 (level a) q in omega arith) (or_cases (eqb (level a) 4) (leb 7 (level a)) (from_yes (eqb op nullish_coalescing_kind) _ _ (eq-eqb op nullish_coalescing_kind e) h3)))
    (λ (y : op ≡ nullish_coalescing_kind → ⊥). leb-true (binary_level op) (level a) (from_no (eqb op nullish_coalescing_kind) _ _ (ne_eqb op nullish_coalescing_kind y) h3)) (cases_eq op nullish_coalescing_kind) in
    (l, tail_over a (binary_level op) four n l))
    (cases_eq op exp_kind)

-- ---- the next token

pub goes_comma : (c : Code) (e : ℕ) (m : Input) → kind m ≡ comma_kind → goes_expr c e m ≡ 1
goes_comma c e m k = cond_first (eqb (kind m) comma_kind) 1 _ 1 (eq-eqb (kind m) comma_kind k) refl

pub goes_binary : (c : Code) (e op : ℕ) (m : Input) → operates c op ≡ true → e ≤ 1 → kind m ≡ op → goes_expr c e m ≡ binary_level op
goes_binary c e op m o le k = subst (λ (op : ℕ). goes_expr c e m ≡ binary_level op) k (here (subst (λ (op : ℕ). operates c op ≡ true) (sym k) o))
  where
    here : operates c (kind m) ≡ true → goes_expr c e m ≡ binary_level (kind m)
    here q = let b = operated c (kind m) q in
        cond_second (eqb (kind m) comma_kind) _ _ _ (not_binary (kind m) comma_kind b refl) (cond_second (leb 2 e) _ _ _ (false_from_ne_true (leb 2 e) (λ z. let y : 2 ≤ e = leb-true 2 e z in omega arith)) (cond_second (is_assign_op (kind m)) _ _ _ (not_assign (kind m) b)
        (cond_second (eqb (kind m) question_mark_kind) _ _ _ (not_binary (kind m) question_mark_kind b refl) (cond_first (operates c (kind m)) _ _ _ q refl))))

-- a bracket that closes, a colon: nothing goes on
abbrev pub closes : ℕ → Bool
closes k = (k == 8) || ((k == 10) || ((k == 12) || (k == 17)))

silent : (c : Code) (e k : ℕ) (m : Input) → kind m ≡ k → eqb k comma_kind ≡ false → is_assign_op k ≡ false → eqb k question_mark_kind ≡ false → operates c k ≡ false → eqb k regex_kind ≡ false → between 20 21 k ≡ false → eqb k left_paren_kind ≡ false
    → ((k == left_bracket_kind) || ((k == dot_kind) || (k == back_quote_kind))) ≡ false → goes_expr c e m ≡ 0
silent c e k m q h0 h1 h2 h3 h4 h5 h6 h7 =
    let to : (P : ℕ → Bool) → P k ≡ false → P (kind m) ≡ false = λ P z. subst (λ (k : ℕ). P k ≡ false) (sym q) z in
    cond_second _ _ _ _ (to (λ k. k == comma_kind) h0) (cond_any (leb 2 e) _ (cond_second _ _ _ _ (to is_assign_op h1) (cond_second _ _ _ _ (to (λ k. k == question_mark_kind) h2) (cond_second _ _ _ _ (to (operates c) h3) (cond_second _ _ _ _ (to (λ k. k == regex_kind) h4)
    (cond_any (leb 1 e) _ (cond_second _ _ _ _ (to (between 20 21) h5) (cond_second _ _ _ _ (to (λ k. k == left_paren_kind) h6) (cond_second _ _ _ _ (to (λ k. (k == left_bracket_kind) || ((k == dot_kind) || (k == back_quote_kind))) h7) refl)))))))))
  where
    cond_any : (b : Bool) (y : ℕ) → y ≡ 0 → cond b 0 y ≡ 0
    cond_any true y h = refl
    cond_any false y h = h

-- what goes on is no `=>`
pub goes_calm : (c : Code) (e : ℕ) (m : Input) → 1 ≤ goes_expr c e m → arrowed m ≡ false
goes_calm c e m h = ⊎_elim (λ (q : kind m ≡ arrow_kind). let z = silent c e arrow_kind m q refl refl refl refl refl refl refl refl in absurd (omega (arith, z)))
    (λ (n : kind m ≡ arrow_kind → ⊥). and_left (kind m == arrow_kind) (not (brk m)) (ne_eqb (kind m) arrow_kind n)) (cases_eq (kind m) arrow_kind)

pub goes_close : (c : Code) (e k : ℕ) (m : Input) → kind m ≡ k → closes k ≡ true → goes_expr c e m ≡ 0
goes_close c e k m q h =
    let at : (n : ℕ) → (kind m ≡ n → goes_expr c e m ≡ 0) → eqb k n ≡ true → goes_expr c e m ≡ 0 = λ n f z. f (q ∙ eqb-true k n z) in
    ⊎_elim (at 8 (λ z. silent c e 8 m z refl refl refl refl refl refl refl refl)) (λ h. ⊎_elim (at 10 (λ z. silent c e 10 m z refl refl refl refl refl refl refl refl)) (λ h. ⊎_elim (at 12 (λ z. silent c e 12 m z refl refl refl refl refl refl refl refl))
    (at 17 (λ z. silent c e 17 m z refl refl refl refl refl refl refl refl)) (or_cases (eqb k 12) (eqb k 17) h)) (or_cases (eqb k 10) ((k == 12) || (k == 17)) h)) (or_cases (eqb k 8) ((k == 10) || ((k == 12) || (k == 17))) h)

-- a token that is no name, nor `function`
abbrev pub quiet : ℕ → Bool
quiet k = not (k == function_kind) && (not (is_word k) || always_reserved k)

pub sober_by : (c : Code) (k : ℕ) (m : Input) → kind m ≡ k → quiet k ≡ true → sober c m ≡ true
sober_by c k m e q = or_right (brk m) _ (ap not (or_from (kind m == function_kind) _ (not-true (kind m == function_kind) z.0) (and_left _ _ (none_of (or_cases _ _ z.1)))))
  where
    z : (not (kind m == function_kind) ≡ true) × ((not (is_word (kind m)) || always_reserved (kind m)) ≡ true)
    z = and_parts _ _ (subst (λ (k : ℕ). quiet k ≡ true) (sym e) q)

    none_of : (not (is_word (kind m)) ≡ true) ⊎ (always_reserved (kind m) ≡ true) → (is_word (kind m) && not (always_reserved (kind m))) ≡ false
    none_of (inl h) = and_left (is_word (kind m)) _ (not-true (is_word (kind m)) h)
    none_of (inr h) = and_right (is_word (kind m)) _ (ap not h)

pub quits_by : (k : ℕ) (m : Input) → kind m ≡ k → ends_operand k ≡ true → quits m ≡ true
quits_by k m e h = or_right (brk m) _ (subst (λ (k : ℕ). ends_operand k ≡ true) (sym e) h)

closes_quits : (k : ℕ) → closes k ≡ true → ends_operand k ≡ true
closes_quits k h =
    let at : (n : ℕ) → ends_operand n ≡ true → eqb k n ≡ true → ends_operand k ≡ true = λ n f z. subst (λ (k : ℕ). ends_operand k ≡ true) (sym (eqb-true k n z)) f in
    ⊎_elim (at 8 refl) (λ h. ⊎_elim (at 10 refl) (λ h. ⊎_elim (at 12 refl) (at 17 refl) (or_cases (eqb k 12) (eqb k 17) h)) (or_cases (eqb k 10) ((k == 12) || (k == 17)) h)) (or_cases (eqb k 8) ((k == 10) || ((k == 12) || (k == 17))) h)

pub calm_by : (k : ℕ) (m : Input) → kind m ≡ k → eqb k arrow_kind ≡ false → arrowed m ≡ false
calm_by k m q h = and_left (kind m == arrow_kind) _ (subst (λ (k : ℕ). eqb k arrow_kind ≡ false) (sym q) h)

pub calm_at : (l : ℕ) (m : Input) → (l ≤ assignment_level → arrowed m ≡ false) → (arrowed m && leb l assignment_level) ≡ false
calm_at l m h = ⊎_elim (λ (e : leb l assignment_level ≡ true). and_left (arrowed m) _ (h (leb-true l assignment_level e))) (λ (e : leb l assignment_level ≡ false). and_right (arrowed m) _ e) (cases_Bool (leb l assignment_level))

closes_calm : (k : ℕ) → closes k ≡ true → eqb k arrow_kind ≡ false
closes_calm k h = ne_eqb k arrow_kind (λ e. true≢false (sym h ∙ ap closes e))

pub closed_by : (c : Code) (e l k : ℕ) (m : Input) → kind m ≡ k → closes k ≡ true → quiet k ≡ true → 1 ≤ l → Follow c e l m
closed_by c e l k m q h s le = let z : goes_expr c e m ≡ 0 = goes_close c e k m q h in record { stop = omega arith; calm = λ _ _. calm_by k m q (closes_calm k h); sober = sober_by c k m q s; quits = λ _. quits_by k m q (closes_quits k h) }

pub comma_after : (c : Code) (e l : ℕ) (m : Input) → kind m ≡ comma_kind → 2 ≤ l → Follow c e l m
comma_after c e l m q le = let z : goes_expr c e m ≡ 1 = goes_comma c e m q in record { stop = omega arith; calm = λ _ _. calm_by comma_kind m q refl; sober = sober_by c comma_kind m q refl; quits = λ _. quits_by comma_kind m q refl }
