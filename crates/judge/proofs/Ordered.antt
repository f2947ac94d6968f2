-- A stable sort by `order_key` is the order of the list of early errors.
use Rattle.std.proofs.Common.{◌≡◌, ℕ, zero, suc, ◌+◌, ◌*◌, ◌<◌, ◌≤◌, Bool, true, false, cond, if◌then◌else◌, ◌||◌, ◌&&◌, ◌==◌, nat_lt, subst, List, [], ◌∷◌, length, get_or, filter, nat_cmp, is_lt, refl, sym, ap, ◌∙◌, arith, inl, inr, suc-le-suc, zero-le}
use Rattle.std.proofs.lemmas.Bool.{cond-true, cond-false, cases_Bool}
use Rattle.std.proofs.lemmas.Bool.Decides.{nat_tests}
use Rattle.std.specs.List.Sorted.{ties, IsNonDecreasingBy, IsStableByKey}
use Rattle.base_token.specs.declared.error.Error.{Error}
use Rattle.base_token.specs.declared.error.SyntaxError.{SyntaxError}
use Rattle.base_token.specs.declared.error.SyntaxError.TheVariants as Fault
use Rattle.grammar_spec.specs.Judge.Early.{comes_after, in_order, put, row}
use Rattle.judge.specs.Order.{order_key}

pub few_rows : (k : SyntaxError) → row k ≤ 22
few_rows Fault.InvalidIdentInStrict = omega arith
few_rows k = omega arith

-- comparing places and rows is comparing keys
after_by : (a b r s : ℕ) → r ≤ 22 → s ≤ 22 → (nat_lt b a || ((a == b) && nat_lt s r)) ≡ true → b * 32 + s < a * 32 + r
after_by a b r s h k e = grind (arith, nat_tests)

not_after_by : (a b r s : ℕ) → r ≤ 22 → s ≤ 22 → (nat_lt b a || ((a == b) && nat_lt s r)) ≡ false → a * 32 + r ≤ b * 32 + s
not_after_by a b r s h k e = grind (arith, nat_tests)

after-key : (e f : Error) → comes_after e f ≡ true → order_key f < order_key e
after-key e f h = after_by e.span.lo.0 f.span.lo.0 (row e.kind) (row f.kind) (few_rows e.kind) (few_rows f.kind) h

not_after-key : (e f : Error) → comes_after e f ≡ false → order_key e ≤ order_key f
not_after-key e f h = not_after_by e.span.lo.0 f.span.lo.0 (row e.kind) (row f.kind) (few_rows e.kind) (few_rows f.kind) h

put-past : (e f : Error) (fs : List Error) → comes_after e f ≡ true → put e (f ∷ fs) ≡ f ∷ put e fs
put-past e f fs h = ap (λ b. if b then f ∷ put e fs else e ∷ f ∷ fs) h

put-stays : (e f : Error) (fs : List Error) → comes_after e f ≡ false → put e (f ∷ fs) ≡ e ∷ f ∷ fs
put-stays e f fs h = ap (λ b. if b then f ∷ put e fs else e ∷ f ∷ fs) h

-- ---- ties

abbrev alike : Error → Error → Bool
alike = ties (λ x y. is_lt (nat_cmp (order_key x) (order_key y)))

ties_at : (m n : ℕ) → (ties (λ x y. is_lt (nat_cmp x y)) m n ≡ true → m ≡ n) × (m ≡ n → ties (λ x y. is_lt (nat_cmp x y)) m n ≡ true)
ties_at m n = (λ h. grind (arith, nat_tests), λ h. grind (arith, nat_tests))

alike-true : (x y : Error) → alike x y ≡ true → order_key x ≡ order_key y
alike-true x y = (ties_at (order_key x) (order_key y)).0

alike_from : (x y : Error) → order_key x ≡ order_key y → alike x y ≡ true
alike_from x y = (ties_at (order_key x) (order_key y)).1

filter-kept : (p : Error → Bool) (y : Error) (ys : List Error) → p y ≡ true → filter p (y ∷ ys) ≡ y ∷ filter p ys
filter-kept p y ys h = cond-true _ _ _ h

filter-dropped : (p : Error → Bool) (y : Error) (ys : List Error) → p y ≡ false → filter p (y ∷ ys) ≡ filter p ys
filter-dropped p y ys h = cond-false _ _ _ h

-- what is put behind others stays where its ties are
clash_of : (m n : ℕ) {A : Type 0} → m < n → n ≡ m → A
clash_of m n l e = absurd (omega arith)

filter-put : (x c : Error) (ds : List Error) → filter (alike x) (put c ds) ≡ filter (alike x) (c ∷ ds)
filter-put x c [] = refl
filter-put x c (d ∷ ds) =
    let p = alike x in
    elim (cases_Bool (comes_after c d)) [
      | inr stays ↦ ap (filter p) (put-stays c d ds stays)
      | inl past ↦
          let below = after-key c d past in
          ap (filter p) (put-past c d ds past)
          ∙ elim (cases_Bool (p d)) [
            | inr without ↦
                filter-dropped p d (put c ds) without ∙ filter-put x c ds
                ∙ ap (λ l. cond (p c) (c ∷ l) l) (sym (filter-dropped p d ds without))
            | inl with ↦
                elim (cases_Bool (p c)) [
                  | inl both ↦ clash_of (order_key d) (order_key c) below (sym (alike-true x c both) ∙ alike-true x d with)
                  | inr only ↦
                      filter-kept p d (put c ds) with ∙ ap (λ l. d ∷ l) (filter-put x c ds ∙ filter-dropped p c ds only)
                      ∙ sym (filter-dropped p c (d ∷ ds) only ∙ filter-kept p d ds with)
                ]
          ]
    ]

filter-in_order : (x : Error) (cs : List Error) → filter (alike x) (in_order cs) ≡ filter (alike x) cs
filter-in_order x [] = refl
filter-in_order x (c ∷ cs) = filter-put x c (in_order cs) ∙ ap (λ l. cond (alike x c) (c ∷ l) l) (filter-in_order x cs)

-- ---- what rises

abbrev AreAtLeast : ℕ → List Error → Type 0
AreAtLeast n [] = Unit {0}
AreAtLeast n (y ∷ ys) = (n ≤ order_key y) × AreAtLeast n ys

abbrev Rises : List Error → Type 0
Rises [] = Unit {0}
Rises (y ∷ ys) = AreAtLeast (order_key y) ys × Rises ys

le_trans : (m n o : ℕ) → m ≤ n → n ≤ o → m ≤ o
le_trans m n o a b = omega arith

AreAtLeast-le : (n m : ℕ) (ys : List Error) → n ≤ m → AreAtLeast m ys → AreAtLeast n ys
AreAtLeast-le n m [] le h = tt
AreAtLeast-le n m (y ∷ ys) le h = (le_trans n m (order_key y) le h.0, AreAtLeast-le n m ys le h.1)

AreAtLeast-at : (n : ℕ) (d : Error) (ys : List Error) → ((j : ℕ) → j < length ys → n ≤ order_key (get_or ys j d)) → AreAtLeast n ys
AreAtLeast-at n d [] h = tt
AreAtLeast-at n d (y ∷ ys) h = (h zero (suc-le-suc zero-le), AreAtLeast-at n d ys (λ j lt. h (suc j) (suc-le-suc lt)))

Rises-from_sort : (ys : List Error) → IsNonDecreasingBy order_key ys → Rises ys
Rises-from_sort [] h = tt
Rises-from_sort (y ∷ ys) h = (
  AreAtLeast-at (order_key y) y ys (λ j lt. h zero (suc j) y zero-le (suc-le-suc lt)),
  Rises-from_sort ys (λ i j d le lt. h (suc i) (suc j) d (suc-le-suc le) (suc-le-suc lt)),
)

lt_le : (m n : ℕ) → m < n → m ≤ n
lt_le m n h = omega arith

AreAtLeast-put : (n : ℕ) (e : Error) (fs : List Error) → n ≤ order_key e → AreAtLeast n fs → AreAtLeast n (put e fs)
AreAtLeast-put n e [] a h = (a, tt)
AreAtLeast-put n e (f ∷ fs) a h = elim (cases_Bool (comes_after e f)) [
  | inl past ↦ subst (AreAtLeast n) (sym (put-past e f fs past)) (h.0, AreAtLeast-put n e fs a h.1)
  | inr stays ↦ subst (AreAtLeast n) (sym (put-stays e f fs stays)) (a, h)
]

Rises-put : (e : Error) (fs : List Error) → Rises fs → Rises (put e fs)
Rises-put e [] h = (tt, tt)
Rises-put e (f ∷ fs) h = elim (cases_Bool (comes_after e f)) [
  | inl past ↦ subst Rises (sym (put-past e f fs past)) (AreAtLeast-put (order_key f) e fs (lt_le (order_key f) (order_key e) (after-key e f past)) h.0, Rises-put e fs h.1)
  | inr stays ↦
      let le = not_after-key e f stays in
      subst Rises (sym (put-stays e f fs stays)) ((le, AreAtLeast-le (order_key e) (order_key f) fs le h.0), h)
]

Rises-in_order : (es : List Error) → Rises (in_order es)
Rises-in_order [] = tt
Rises-in_order (e ∷ es) = Rises-put e (in_order es) (Rises-in_order es)

-- a key of those listed is not below the least
AreAtLeast-found : (n : ℕ) (x : Error) (ys : List Error) (w : Error) (ws : List Error) → AreAtLeast n ys → filter (alike x) ys ≡ w ∷ ws → n ≤ order_key x
AreAtLeast-found n x [] w ws h e = cc
AreAtLeast-found n x (y ∷ ys) w ws h e =
    elim (cases_Bool (alike x y)) [
      | inl with ↦ let same = alike-true x y with in let first = h.0 in omega (arith, same, first)
      | inr without ↦ AreAtLeast-found n x ys w ws h.1 (sym (filter-dropped (alike x) y ys without) ∙ e)
    ]

-- ---- lists that rise and have the same ties are one

same_from_ties : (ys zs : List Error) → Rises ys → Rises zs → ((x : Error) → filter (alike x) ys ≡ filter (alike x) zs) → ys ≡ zs
same_from_ties [] [] left right same = refl
same_from_ties [] (z ∷ zs) left right same =
    let clash = same z ∙ filter-kept (alike z) z zs (alike_from z z refl) in cc
same_from_ties (y ∷ ys) [] left right same =
    let clash = sym (same y) ∙ filter-kept (alike y) y ys (alike_from y y refl) in cc
same_from_ties (y ∷ ys) (z ∷ zs) left right same =
    let at_y = filter-kept (alike y) y ys (alike_from y y refl) in
    let at_z = filter-kept (alike z) z zs (alike_from z z refl) in
    let up = AreAtLeast-found (order_key z) y (z ∷ zs) y _ (omega arith, right.0) (sym (same y) ∙ at_y) in
    let down = AreAtLeast-found (order_key y) z (y ∷ ys) z _ (omega arith, left.0) (same z ∙ at_z) in
    let heads = sym at_y ∙ same y ∙ filter-kept (alike y) z zs (alike_from y z (omega (arith, up, down))) in
    let head : y ≡ z = cc in
    let tails : (x : Error) → filter (alike x) ys ≡ filter (alike x) zs =
    λ x. elim (cases_Bool (alike x y)) [
      | inl with ↦
          let both = sym (filter-kept (alike x) y ys with) ∙ same x ∙ filter-kept (alike x) z zs (ap (alike x) (sym head) ∙ with) in cc
      | inr without ↦
          sym (filter-dropped (alike x) y ys without) ∙ same x ∙ filter-dropped (alike x) z zs (ap (alike x) (sym head) ∙ without)
    ] in
    ap (λ w. w ∷ ys) head ∙ ap (λ l. z ∷ l) (same_from_ties ys zs left.1 right.1 tails)

pub in_order-from_sort : (xs ys : List Error) → IsNonDecreasingBy order_key ys → IsStableByKey order_key nat_cmp xs ys → ys ≡ in_order xs
in_order-from_sort xs ys sorted stable =
    same_from_ties ys (in_order xs) (Rises-from_sort ys sorted) (Rises-in_order xs) (λ x. stable x ∙ sym (filter-in_order x xs))
