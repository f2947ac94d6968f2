-- Booleans: `&&`, `||`, what both say of their parts, and tests.
use Rattle.std.proofs.Common.{◌≡◌, ℕ, Bool, true, false, cond, ◌&&◌, ◌||◌, if◌then◌else◌, refl, sym, ap, ◌∙◌, true≢false}
use Rattle.std.specs.Prelude.{◌==◌}
use Rattle.std.proofs.lemmas.Bool.{eq-eqb}

-- ---- `&&`

pub and_false : (b : Bool) → (b && false) ≡ false
and_false true = refl
and_false false = refl

pub not_and_false : (b : Bool) → (b && false) ≡ true → ⊥
not_and_false b e = true≢false (sym e ∙ and_false b)

pub and_first : (a b : Bool) → (a && b) ≡ true → a ≡ true
and_first true b e = refl
and_first false b e = e

pub and_second : (a b : Bool) → (a && b) ≡ true → b ≡ true
and_second true b e = e
and_second false b e = absurd (true≢false (sym e))

-- the second test counts only where the first passes
pub and_same : (a b x y : Bool) → a ≡ b → (a ≡ true → x ≡ y) → (a && x) ≡ (b && y)
and_same true b x y e f = f refl ∙ ap (λ (c : Bool). c && y) e
and_same false b x y e f = ap (λ (c : Bool). c && y) e

-- ---- `||`

pub or_false : (b : Bool) → (b || false) ≡ b
or_false true = refl
or_false false = refl

pub or_true : (b : Bool) → (b || true) ≡ true
or_true true = refl
or_true false = refl

pub or_assoc : (a b c : Bool) → ((a || b) || c) ≡ (a || (b || c))
or_assoc true b c = refl
or_assoc false b c = refl

pub or_first : (a b : Bool) → (a || b) ≡ false → a ≡ false
or_first true b e = e
or_first false b e = refl

pub or_second : (a b : Bool) → (a || b) ≡ false → b ≡ false
or_second true b e = absurd (true≢false e)
or_second false b e = e

-- ---- a choice by a test

pub cond_first : {A : Type 0} (b : Bool) (x y z : A) → b ≡ true → x ≡ z → cond b x y ≡ z
cond_first b x y z e f = ap (λ (c : Bool). cond c x y) e ∙ f

pub cond_second : {A : Type 0} (b : Bool) (x y z : A) → b ≡ false → y ≡ z → cond b x y ≡ z
cond_second b x y z e f = ap (λ (c : Bool). cond c x y) e ∙ f

pub if_same : {b c x y u v : Bool} → b ≡ c → x ≡ u → y ≡ v → (if b then x else y) ≡ (if c then u else v)
if_same p q r = λ i. if p i then q i else r i

-- ---- numbers

pub eqb_same : (n : ℕ) → (n == n) ≡ true
eqb_same n = eq-eqb n n refl
