-- What holds of an answer, if there is one. The starts of arrays and objects that a reading notes are never forgotten.
use Rattle.std.proofs.Common.{◌≡◌, ℕ, zero, suc, Bool, true, false, not, ◌&&◌, cond, eqb, ltb, List, Result, Ok, Err, refl, sym, subst}
use Rattle.std.proofs.lemmas.Bool.{eqb-true, eqb-false, and_parts, not-true}
use Rattle.grammar_spec.specs.Tokens.Input.{Input, Code, kind, text, is_word, no_name, barred}
use Rattle.grammar_spec.specs.Reader.Source.{Fault, Unexpected, TooDeep, ◌>>=◌, placed, unexpected, Stream, list_stream, State, Read, input, past, bound, eat, eat_word, is_name, name, any_word, Step, go_on, finished, next_by, iterate_n, iterate}
use Rattle.grammar_spec.specs.Reader.Cover.{has}

-- the source of a list, and the tokens to come
abbrev pub lm : Stream Input
lm = list_stream

abbrev pub seen : State Input → Input
seen s = input lm s

abbrev pub next : State Input → State Input
next s = past lm s

pub record Grows (k l : List ℕ) : Type 0 where
  pub all : (n : ℕ) → has n k ≡ true → has n l ≡ true

pub same : (k : List ℕ) → Grows k k
same k = record { all = λ n e. e }

pub further : (k l n : List ℕ) → Grows k l → Grows l n → Grows k n
further k l n g h = record { all = λ x e. h.all x (g.all x e) }

-- a reading
abbrev pub SureBy : {A : Type 0} → List ℕ → Result (A × State Input) Fault → (A × State Input → Type 0) → Type 0
SureBy k (Ok x) P = Grows k x.1.commas × P x
SureBy k (Err e) P = Unit {0}

pub record Sure {A : Type 0} (k : List ℕ) (r : Result (A × State Input) Fault) (P : A × State Input → Type 0) : Type 0 where
  pub so : SureBy k r P

pub gives : {A : Type 0} (k : List ℕ) (x : A × State Input) (P : A × State Input → Type 0) → Grows k x.1.commas → P x → Sure k (Ok x) P
gives k x P g p = record { so = (g, p) }

-- an answer that notes nothing
pub done : {A : Type 0} (x : A × State Input) (P : A × State Input → Type 0) → P x → Sure x.1.commas (Ok x) P
done x P p = record { so = (same x.1.commas, p) }

pub never : {A : Type 0} (k : List ℕ) (e : Fault) (P : A × State Input → Type 0) → Sure k (Err e) P
never k e P = record { so = tt }

pub then_sure : {A B : Type 0} (k : List ℕ) (r : Result (A × State Input) Fault) (f : A × State Input → Result (B × State Input) Fault) (P : A × State Input → Type 0) (Q : B × State Input → Type 0)
    → Sure k r P → ((x : A × State Input) → P x → Sure x.1.commas (f x) Q) → Sure k (r >>= f) Q
then_sure k (Ok x) f P Q p h = grown k x.1.commas (f x) Q p.so.0 (h x p.so.1)
  where
    grown : {B : Type 0} (k l : List ℕ) (r : Result (B × State Input) Fault) (Q : B × State Input → Type 0) → Grows k l → Sure l r Q → Sure k r Q
    grown k l (Ok y) Q g q = record { so = (further k l y.1.commas g q.so.0, q.so.1) }
    grown k l (Err e) Q g q = record { so = tt }
then_sure k (Err e) f P Q p h = record { so = tt }

-- the same, where what follows needs to know that nothing was forgotten
pub then_grown : {A B : Type 0} (k : List ℕ) (r : Result (A × State Input) Fault) (f : A × State Input → Result (B × State Input) Fault) (P : A × State Input → Type 0) (Q : B × State Input → Type 0)
    → Sure k r P → ((x : A × State Input) → Grows k x.1.commas → P x → Sure x.1.commas (f x) Q) → Sure k (r >>= f) Q
then_grown k (Ok x) f P Q p h = then_sure k (Ok x) f (λ y. y ≡ x) Q (record { so = (p.so.0, refl) }) (λ y q. subst (λ z. Sure z.1.commas (f z) Q) (sym q) (h x p.so.0 p.so.1))
then_grown k (Err e) f P Q p h = record { so = tt }

pub weaken : {A : Type 0} (k l : List ℕ) (r : Result (A × State Input) Fault) (P : A × State Input → Type 0) → Grows k l → Sure l r P → Sure k r P
weaken k l (Ok y) P g q = record { so = (further k l y.1.commas g q.so.0, q.so.1) }
weaken k l (Err e) P g q = record { so = tt }

-- where what follows may start again from before
pub then_any : {A B : Type 0} (k : List ℕ) (r : Result (A × State Input) Fault) (f : A × State Input → Result (B × State Input) Fault) (P : A × State Input → Type 0) (Q : B × State Input → Type 0)
    → Sure k r P → ((x : A × State Input) → Grows k x.1.commas → P x → Sure k (f x) Q) → Sure k (r >>= f) Q
then_any k (Ok x) f P Q p h = h x p.so.0 p.so.1
then_any k (Err e) f P Q p h = record { so = tt }

-- what is answered, where a fault is found at a given place
pub sure_placed : {A : Type 0} (n : ℕ) (k : List ℕ) (r : Result (A × State Input) Fault) (P : A × State Input → Type 0) → Sure k r P → Sure k (placed n r) P
sure_placed n k (Ok x) P h = h
sure_placed n k (Err (Unexpected i)) P h = record { so = tt }
sure_placed n k (Err (TooDeep i)) P h = record { so = tt }

pub at_commas : {A : Type 0} (k l : List ℕ) (r : Result (A × State Input) Fault) (P : A × State Input → Type 0) → l ≡ k → Sure l r P → Sure k r P
at_commas k l r P e h = subst (λ j. Sure j r P) e h

pub sure_map : {A : Type 0} (k : List ℕ) (r : Result (A × State Input) Fault) (P Q : A × State Input → Type 0) → Sure k r P → ((x : A × State Input) → P x → Q x) → Sure k r Q
sure_map k (Ok x) P Q p h = record { so = (p.so.0, h x p.so.1) }
sure_map k (Err e) P Q p h = record { so = tt }

pub if_sure : {A : Type 0} (k : List ℕ) (b : Bool) (x y : Result (A × State Input) Fault) (P : A × State Input → Type 0) → (b ≡ true → Sure k x P) → (b ≡ false → Sure k y P) → Sure k (cond b x y) P
if_sure k true x y P h n = h refl
if_sure k false x y P h n = n refl

pub test_sure : {A : Type 0} (k : List ℕ) (m n : ℕ) (x y : Result (A × State Input) Fault) (P : A × State Input → Type 0) → (m ≡ n → Sure k x P) → ((m ≡ n → ⊥) → Sure k y P) → Sure k (cond (eqb m n) x y) P
test_sure k m n x y P h o = if_sure k _ _ _ _ (λ e. h (eqb-true m n e)) (λ e. o (eqb-false m n e))

-- what a reading refuses where a test fails
pub only_sure : {A : Type 0} (e : Fault) (k : List ℕ) (b : Bool) (x : Result (A × State Input) Fault) (P : A × State Input → Type 0) → (b ≡ true → Sure k x P) → Sure k (cond b x (Err e)) P
only_sure e k true x P h = h refl
only_sure e k false x P h = record { so = tt }

-- ---- tokens

pub eat_sure : {A : Type 0} (k : ℕ) (s : State Input) (f : State Input → Result (A × State Input) Fault) (P : A × State Input → Type 0) → (kind (seen s) ≡ k → Sure s.commas (f (next s)) P) → Sure s.commas (eat lm k s >>= f) P
unfolding eat
eat_sure k s f P h = eaten (eqb (kind (seen s)) k) (λ e. h (eqb-true (kind (seen s)) k e))
  where
    eaten : (b : Bool) → (b ≡ true → Sure s.commas (f (next s)) P) → Sure s.commas (cond b (Ok (next s)) (unexpected lm s) >>= f) P
    eaten true h = h refl
    eaten false h = record { so = tt }

pub word_sure : {A : Type 0} (c : Code) (k : ℕ) (s : State Input) (f : State Input → Result (A × State Input) Fault) (P : A × State Input → Type 0)
    → (kind (seen s) ≡ k → barred c.context (seen s) ≡ false → Sure s.commas (f (next s)) P) → Sure s.commas (eat_word lm c k s >>= f) P
unfolding eat_word
word_sure c k s f P h = eaten (eqb (kind (seen s)) k && not (barred c.context (seen s)))
    (λ e. let b = and_parts (eqb (kind (seen s)) k) (not (barred c.context (seen s))) e in h (eqb-true (kind (seen s)) k b.0) (not-true (barred c.context (seen s)) b.1))
  where
    eaten : (b : Bool) → (b ≡ true → Sure s.commas (f (next s)) P) → Sure s.commas (cond b (Ok (next s)) (unexpected lm s) >>= f) P
    eaten true h = h refl
    eaten false h = record { so = tt }

abbrev pub IsName : Code → State Input → Type 0
IsName c s = (is_word (kind (seen s)) ≡ true) × (no_name c.context (kind (seen s)) ≡ false) × (barred c.context (seen s) ≡ false)

pub name_sure : {A : Type 0} (c : Code) (s : State Input) (f : List ℕ × State Input → Result (A × State Input) Fault) (P : A × State Input → Type 0)
    → (IsName c s → Sure s.commas (f (text (seen s), next s)) P) → Sure s.commas (name lm c s >>= f) P
unfolding name
name_sure c s f P h = named (is_name lm c s)
    (λ e. let b = and_parts (is_word (kind (seen s))) (not (no_name c.context (kind (seen s))) && not (barred c.context (seen s))) e in
    let d = and_parts (not (no_name c.context (kind (seen s)))) (not (barred c.context (seen s))) b.1 in
    h (b.0, not-true (no_name c.context (kind (seen s))) d.0, not-true (barred c.context (seen s)) d.1))
  where
    named : (b : Bool) → (b ≡ true → Sure s.commas (f (text (seen s), next s)) P) → Sure s.commas (cond b (Ok (text (seen s), next s)) (unexpected lm s) >>= f) P
    named true h = h refl
    named false h = record { so = tt }

-- the same, where a fault is found at a given place
pub name_placed : {A : Type 0} (n : ℕ) (c : Code) (s : State Input) (f : List ℕ × State Input → Result (A × State Input) Fault) (P : A × State Input → Type 0)
    → (IsName c s → Sure s.commas (f (text (seen s), next s)) P) → Sure s.commas (placed n (name lm c s) >>= f) P
unfolding name
name_placed n c s f P h = named (is_name lm c s)
    (λ e. let b = and_parts (is_word (kind (seen s))) (not (no_name c.context (kind (seen s))) && not (barred c.context (seen s))) e in
    let d = and_parts (not (no_name c.context (kind (seen s)))) (not (barred c.context (seen s))) b.1 in
    h (b.0, not-true (no_name c.context (kind (seen s))) d.0, not-true (barred c.context (seen s)) d.1))
  where
    named : (b : Bool) → (b ≡ true → Sure s.commas (f (text (seen s), next s)) P) → Sure s.commas (placed n (cond b (Ok (text (seen s), next s)) (unexpected lm s)) >>= f) P
    named true h = h refl
    named false h = record { so = tt }

pub any_sure : {A : Type 0} (s : State Input) (f : List ℕ × State Input → Result (A × State Input) Fault) (P : A × State Input → Type 0)
    → (is_word (kind (seen s)) ≡ true → Sure s.commas (f (text (seen s), next s)) P) → Sure s.commas (any_word lm s >>= f) P
unfolding any_word
any_sure s f P h = named (is_word (kind (seen s))) h
  where
    named : (b : Bool) → (b ≡ true → Sure s.commas (f (text (seen s), next s)) P) → Sure s.commas (cond b (Ok (text (seen s), next s)) (unexpected lm s) >>= f) P
    named true h = h refl
    named false h = record { so = tt }

-- ---- loops

abbrev pub StepSure : {A : Type 0} → (A → State Input → Type 0) → (A → State Input → Type 0) → Step A × State Input → Type 0
StepSure I F (go_on x, r) = I x r
StepSure I F (finished x, r) = F x r

module _ {A : Type 0} (step : A → Read Input (Step A)) (I F : A → State Input → Type 0) (good : (x : A) (s : State Input) → I x s → Sure s.commas (step x s) (StepSure I F)) where
  after : (again : A → State Input → Result (A × State Input) Fault) (b : ℕ) (y : Step A × State Input) → ((z : A) (r : State Input) → I z r → Sure r.commas (again z r) (λ y. F y.0 y.1)) → StepSure I F y
      → Sure y.1.commas (next_by (bound lm) again b y) (λ y. F y.0 y.1)
  after again b (go_on z, r) h p = only_sure _ r.commas (ltb (bound lm r) b) _ _ (λ _. h z r p)
  after again b (finished z, r) h p = done (z, r) _ p

  loop_n : (n : ℕ) (x : A) (s : State Input) → I x s → Sure s.commas (iterate_n (bound lm) n step x s) (λ y. F y.0 y.1)
  unfolding iterate_n
  loop_n zero x s i = record { so = tt }
  loop_n (suc n) x s i = then_sure s.commas (step x s) (next_by (bound lm) (iterate_n (bound lm) n step) (bound lm s)) (StepSure I F) (λ y. F y.0 y.1) (good x s i)
      (λ y p. after (iterate_n (bound lm) n step) (bound lm s) y (λ z r j. loop_n n z r j) p)

  pub loop_sure : (x : A) (s : State Input) → I x s → Sure s.commas (iterate (bound lm) step x s) (λ y. F y.0 y.1)
  unfolding iterate
  loop_sure x s i = loop_n (suc (bound lm s)) x s i
