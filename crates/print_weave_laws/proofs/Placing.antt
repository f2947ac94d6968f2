-- Each comment is written once, in the order of the source.
use Rattle.std.proofs.Common.{◌≡◌, ◌≤◌, ◌<◌, ℕ, zero, suc, ◌⊎◌, inl, inr, ⊎_elim, Bool, true, false, List, [], ◌++◌, append_assoc, refl, sym, ap, ◌∙◌, arith}
use Rattle.std.specs.Prelude.{◌==◌, if◌then◌else◌}
use Rattle.std.proofs.lemmas.Bool.{cases_Bool, eqb-true}
use Rattle.std.proofs.lemmas.Bool.Decides.{nat_tests}
use Rattle.std.proofs.lemmas.List.{append-nil}
use Rattle.print_weave_laws.specs.Placing.{collected, all_of, InOrder}
use Rattle.print_weave_laws.specs.Laws.{AllAreWritten, AllStay}

pub unequal : (a b : ℕ) → (a < b) ⊎ (b < a) → (a == b) ≡ false
unequal a b (inl h) = grind (arith, nat_tests)
unequal a b (inr h) = grind (arith, nat_tests)

module _ (A : Type 0) where
  with_one : ℕ → List A → (ℕ → List A) → ℕ → List A
  with_one k x F h = F h ++ (if k == h then x else [])

  -- one more at a gap past the first m changes nothing in these
  past : (m k : ℕ) (x : List A) (F : ℕ → List A) → m ≤ k → all_of m (with_one k x F) ≡ all_of m F
  unfolding with_one
  past zero k x F h = refl
  past (suc m) k x F h =
      let e : (k == m) ≡ false = unequal k m (inr (omega (arith, h))) in
      let i = past m k x F (omega (arith, h)) in
      ap (λ (l : List A). l ++ (F m ++ (if k == m then x else []))) i ∙ ap (λ (b : Bool). all_of m F ++ (F m ++ (if b then x else []))) e ∙ ap (λ (l : List A). all_of m F ++ l) (append-nil (F m))

  -- one more, at the last gap that has something or behind it, comes last
  last : (m k : ℕ) (x : List A) (F : ℕ → List A) → k < m → ((h : ℕ) → k < h → F h ≡ []) → all_of m (with_one k x F) ≡ all_of m F ++ x
  unfolding with_one
  last zero k x F h n = absurd (omega (arith, h))
  last (suc m) k x F h n = ⊎_elim
      (λ (t : (k == m) ≡ true).
      let same : k ≡ m = eqb-true k m t in
      ap (λ (l : List A). l ++ (F m ++ (if k == m then x else []))) (past m k x F (omega (arith, same)))
      ∙ (ap (λ (b : Bool). all_of m F ++ (F m ++ (if b then x else []))) t ∙ sym (append_assoc (all_of m F) (F m) x)))
      (λ (f : (k == m) ≡ false).
      let less : k < m = grind (arith, nat_tests) in
      let none : F m ≡ [] = n m less in
      ap (λ (l : List A). l ++ (F m ++ (if k == m then x else []))) (last m k x F less n)
      ∙ (ap (λ (b : Bool). (all_of m F ++ x) ++ (F m ++ (if b then x else []))) f
      ∙ (ap (λ (l : List A). (all_of m F ++ x) ++ (l ++ [])) none
      ∙ (append-nil (all_of m F ++ x)
      ∙ ap (λ (l : List A). l ++ x) (sym (append-nil (all_of m F)) ∙ ap (λ (l : List A). all_of m F ++ l) (sym none))))))
      (cases_Bool (k == m))

  -- nothing comes to a gap behind all targets
  nothing_behind : (n k h : ℕ) (t : ℕ → ℕ) (N : ℕ → List A) → ((g : ℕ) → g < n → t g ≤ k) → k < h → collected n t N h ≡ []
  nothing_behind zero k h t N b l = refl
  nothing_behind (suc n) k h t N b l =
      let c = b n (omega arith) in
      let e : (t n == h) ≡ false = unequal (t n) h (inl (omega (arith, c, l))) in
      ap (λ (v : Bool). collected n t N h ++ (if v then N n else [])) e ∙ (append-nil (collected n t N h) ∙ nothing_behind n k h t N (λ g i. b g (omega (arith, i))) l)

  none_at_all : (m : ℕ) (t : ℕ → ℕ) (N : ℕ → List A) → all_of m (collected zero t N) ≡ []
  none_at_all zero t N = refl
  none_at_all (suc m) t N = append-nil (all_of m (collected zero t N)) ∙ none_at_all m t N

  pub once : (n m : ℕ) (t : ℕ → ℕ) (N : ℕ → List A) → InOrder n m t → all_of m (collected n t N) ≡ all_of n N
  unfolding with_one
  once zero m t N o = none_at_all m t N
  once (suc n) m t N o =
      last m (t n) (N n) (collected n t N) (o.1 n (omega arith)) (λ h l. nothing_behind n (t n) h t N (λ g i. o.0 g n (omega (arith, i)) (omega arith)) l)
      ∙ ap (λ (l : List A). l ++ N n) (once n m t N ((λ g h i j. o.0 g h i (omega (arith, j))), (λ g i. o.1 g (omega (arith, i)))))

  pub stay : (n : ℕ) (t : ℕ → ℕ) (N : ℕ → List A) → ((g : ℕ) → g < n → t g ≡ g) → (h : ℕ) → h < n → collected n t N h ≡ N h
  stay zero t N s h l = absurd (omega (arith, l))
  stay (suc n) t N s h l =
      let own = s n (omega arith) in ⊎_elim
      (λ (e : (n == h) ≡ true).
      let same : n ≡ h = eqb-true n h e in
      let hit : (t n == h) ≡ true = ap (λ (a : ℕ). a == h) own ∙ e in
      let none : collected n t N h ≡ [] = before n t N s h (omega (arith, same)) in
      ap (λ (v : Bool). collected n t N h ++ (if v then N n else [])) hit ∙ (ap (λ (k : List A). k ++ N n) none ∙ ap N same))
      (λ (f : (n == h) ≡ false).
      let less : h < n = grind (arith, nat_tests) in
      let miss : (t n == h) ≡ false = ap (λ (a : ℕ). a == h) own ∙ f in
      ap (λ (v : Bool). collected n t N h ++ (if v then N n else [])) miss ∙ (append-nil (collected n t N h) ∙ stay n t N (λ g i. s g (omega (arith, i))) h less))
      (cases_Bool (n == h))
    where
      before : (n : ℕ) (t : ℕ → ℕ) (N : ℕ → List A) → ((g : ℕ) → g < suc n → t g ≡ g) → (h : ℕ) → n ≤ h → collected n t N h ≡ []
      before zero t N s h l = refl
      before (suc n) t N s h l =
          let own = s n (omega arith) in
          let e : (t n == h) ≡ false = ap (λ (a : ℕ). a == h) own ∙ unequal n h (inl (omega (arith, l))) in
          ap (λ (v : Bool). collected n t N h ++ (if v then N n else [])) e ∙ (append-nil (collected n t N h) ∙ before n t N (λ g i. s g (omega (arith, i))) h (omega (arith, l)))

pub all_are_written : AllAreWritten
all_are_written n m t N o = once _ n m t N o

pub all_stay : AllStay
all_stay n t N s h l = stay _ n t N s h l
