-- What a reading answers: one that meets a demand, or too deep; and that it leaves the starts noted before it as they were.
use Rattle.std.proofs.Common.{◌≡◌, ℕ, zero, suc, ◌<◌, ◌≤◌, ◌⊎◌, inl, inr, Bool, true, false, not, cond, eqb, List, [], ◌∷◌, length, Result, Ok, Err, if◌then◌else◌, refl, sym, ap, ◌∙◌, subst, ⊎_elim, true≢false, arith}
use Rattle.std.proofs.lemmas.Bool.{eqb-true, ne_eqb, eq-eqb, or_cases, lt-ltb, and_from}
use Rattle.base_token.specs.declared.place.Span.{Span}
use Rattle.base_token.specs.Kinds.{template_kind, async_kind}
use Rattle.grammar_spec.specs.Tokens.Input.{PlacedToken, Input, Code, span, first_span, kind, kind_of, text, rest, is_word, no_name, barred, lo, lo_of, hi_of, others}
use Rattle.grammar_spec.specs.Reader.Cover.{has}
pub use Rattle.grammar_laws.specs.CompleteBase.Laws.{coded, InOrder}
use Rattle.grammar_spec.specs.Reader.Source.{Fault, Unexpected, TooDeep, ◌>>=◌, placed, Stream, list_stream, State, Read, past, bound, eat, eat_word, is_name, name, any_word, Step, go_on, finished, next_by, iterate_n, iterate}

pub first_at : (ts r : Input) (s : Span) → rest ts ≡ r → s ≡ span (lo ts) r.last → first_span ts ≡ s
first_at ts r s q p = ap (λ (z : Input). span (lo ts) z.last) q ∙ sym p

-- the stream of a list, and a state at some tokens
abbrev pub lm : Stream Input
lm = list_stream

abbrev pub from : Input → List ℕ → State Input
from ts k = record { source = ts; commas = k }

abbrev pub len : Input → ℕ
len ts = length ts.places

-- ---- the order of the tokens, and the starts noted before them

-- The tokens to come are in order, and each start that is noted stands before them.
pub record Fresh (s : State Input) : Type 0 where
  pub order : InOrder s.source.last s.source.places
  pub below : (n : ℕ) → has n s.commas ≡ true → n < s.source.last

-- A later stand, at which the starts before the earlier one are noted as they were.
pub record After (s r : State Input) : Type 0 where
  pub fresh : Fresh r
  pub last : s.source.last ≤ r.source.last
  pub kept : (n : ℕ) → n < s.source.last → has n r.commas ≡ has n s.commas

pub after_none : (s : State Input) → Fresh s → After s s
after_none s f = record { fresh = f; last = omega arith; kept = λ n h. refl }

pub after_then : (s r u : State Input) → After s r → After r u → After s u
after_then s r u a b = record { fresh = b.fresh; last = omega (arith, a.last, b.last); kept = λ n h. b.kept n (omega (arith, a.last, h)) ∙ a.kept n h }

order_past : (last : ℕ) (ps : List PlacedToken) → InOrder last ps → InOrder (hi_of last ps) (others ps)
order_past last [] h = tt
order_past last (p ∷ ps) h = h.3

last_past : (last : ℕ) (ps : List PlacedToken) → InOrder last ps → last ≤ hi_of last ps
last_past last [] h = omega arith
last_past last (p ∷ ps) h = omega (arith, h.0, h.1)

pub after_past : (s : State Input) → Fresh s → After s (past lm s)
after_past s f = let le = last_past s.source.last s.source.places f.order in
    record { fresh = record { order = order_past s.source.last s.source.places f.order; below = λ n h. omega (arith, f.below n h, le) }; last = le; kept = λ n h. refl }

-- ---- answers

-- The answer meets a demand, or is too deep a nesting where that may be.
abbrev pub YieldsBy : {A : Type 0} → Result A Fault → (A → Type 0) → Type 0 → Type 0
YieldsBy (Ok x) V P = V x
YieldsBy (Err (Unexpected n)) V P = ⊥
YieldsBy (Err (TooDeep n)) V P = P

pub record Yields {A : Type 0} (x : Result A Fault) (V : A → Type 0) (P : Type 0) : Type 0 where
  pub so : YieldsBy x V P

pub then_yields : {A B : Type 0} (x : Result A Fault) (f : A → Result B Fault) (V : A → Type 0) (P : Type 0) (W : B → Type 0) (Q : Type 0)
    → Yields x V P → (P → Q) → ((y : A) → V y → Yields (f y) W Q) → Yields (x >>= f) W Q
then_yields (Ok x) f V P W Q h i g = g x h.so
then_yields (Err (Unexpected n)) f V P W Q h i g = absurd h.so
then_yields (Err (TooDeep n)) f V P W Q h i g = record { so = i h.so }

-- What is read from a state meets a demand, or is too deep, and goes on from that state.
pub record Reads {A : Type 0} (s : State Input) (x : Result (A × State Input) Fault) (V : A × State Input → Type 0) (P : Type 0) : Type 0 where
  pub so : Fresh s → Yields x (λ y. V y × After s y.1) P

pub then_reads : {A B : Type 0} {s : State Input} (x : Result (A × State Input) Fault) (f : A × State Input → Result (B × State Input) Fault) (V : A × State Input → Type 0) (P : Type 0) (W : B × State Input → Type 0) (Q : Type 0)
    → Reads s x V P → (P → Q) → ((y : A × State Input) → V y → Reads y.1 (f y) W Q) → Reads s (x >>= f) W Q
then_reads {B = B} {s = s} x f V P W Q h i g = record { so = λ fr. then_yields x f (λ y. V y × After s y.1) P (λ z. W z × After s z.1) Q (h.so fr) i (λ y v. onward (f y) y.1 v.1 ((g y v.0).so v.1.fresh)) }
  where
    onward : (r : Result (B × State Input) Fault) (u : State Input) → After s u → Yields r (λ z. W z × After u z.1) Q → Yields r (λ z. W z × After s z.1) Q
    onward (Ok z) u a h = record { so = (h.so.0, after_then s u z.1 a h.so.1) }
    onward (Err (Unexpected n)) u a h = absurd h.so
    onward (Err (TooDeep n)) u a h = record { so = h.so }

-- a weaker demand
pub reads_map : {A : Type 0} {s : State Input} {V W : A × State Input → Type 0} {P : Type 0} (x : Result (A × State Input) Fault) → ((y : A × State Input) → V y → W y) → Reads s x V P → Reads s x W P
reads_map {A = A} {s = s} {V = V} {W = W} {P = P} x f h = record { so = λ fr. weaker x (h.so fr) }
  where
    weaker : (x : Result (A × State Input) Fault) → Yields x (λ y. V y × After s y.1) P → Yields x (λ y. W y × After s y.1) P
    weaker (Ok y) v = record { so = (f y v.so.0, v.so.1) }
    weaker (Err (Unexpected n)) v = absurd v.so
    weaker (Err (TooDeep n)) v = record { so = v.so }

-- the same of the answer that it is
pub reads_told : {A : Type 0} {s : State Input} {V : A × State Input → Type 0} {P : Type 0} (x : Result (A × State Input) Fault) → Reads s x V P → Reads s x (λ y. V y × (x ≡ Ok y)) P
reads_told {A = A} {s = s} {V = V} {P = P} x h = record { so = λ fr. told x (h.so fr) }
  where
    told : (x : Result (A × State Input) Fault) → Yields x (λ y. V y × After s y.1) P → Yields x (λ y. (V y × (x ≡ Ok y)) × After s y.1) P
    told (Ok y) v = record { so = ((v.so.0, refl), v.so.1) }
    told (Err (Unexpected n)) v = absurd v.so
    told (Err (TooDeep n)) v = record { so = v.so }

pub reads_deep : {A : Type 0} {s : State Input} {x : Result (A × State Input) Fault} {V : A × State Input → Type 0} {P Q : Type 0} → (P → Q) → Reads s x V P → Reads s x V Q
reads_deep {A = A} {s = s} {x = x} {V = V} {P = P} {Q = Q} i h = record { so = λ fr. deeper x (h.so fr) }
  where
    deeper : (x : Result (A × State Input) Fault) → Yields x (λ y. V y × After s y.1) P → Yields x (λ y. V y × After s y.1) Q
    deeper (Ok y) v = record { so = v.so }
    deeper (Err (Unexpected n)) v = absurd v.so
    deeper (Err (TooDeep n)) v = record { so = i v.so }

-- the same where a fault is found at a given place
pub reads_placed : {A : Type 0} {s : State Input} {x : Result (A × State Input) Fault} {V : A × State Input → Type 0} {P : Type 0} (n : ℕ) → Reads s x V P → Reads s (placed n x) V P
reads_placed {A = A} {s = s} {x = x} {V = V} {P = P} n h = record { so = λ fr. found x (h.so fr) }
  where
    found : (x : Result (A × State Input) Fault) → Yields x (λ y. V y × After s y.1) P → Yields (placed n x) (λ y. V y × After s y.1) P
    found (Ok y) v = v
    found (Err (Unexpected k)) v = absurd v.so
    found (Err (TooDeep k)) v = record { so = v.so }

-- what is read from the state after the first token
pub after_one : {A : Type 0} (s : State Input) (x : Result (A × State Input) Fault) (W : A × State Input → Type 0) (Q : Type 0) → Reads (past lm s) x W Q → Reads s x W Q
after_one {A = A} s x W Q h = record { so = λ fr. let a = after_past s fr in onward x a ((h.so) a.fresh) }
  where
    onward : (r : Result (A × State Input) Fault) → After s (past lm s) → Yields r (λ z. W z × After (past lm s) z.1) Q → Yields r (λ z. W z × After s z.1) Q
    onward (Ok z) a h = record { so = (h.so.0, after_then s (past lm s) z.1 a h.so.1) }
    onward (Err (Unexpected n)) a h = absurd h.so
    onward (Err (TooDeep n)) a h = record { so = h.so }

-- the same, with what holds of the state that was come to
pub then_after : {A B : Type 0} {s : State Input} (x : Result (A × State Input) Fault) (f : A × State Input → Result (B × State Input) Fault) (V : A × State Input → Type 0) (P : Type 0) (W : B × State Input → Type 0) (Q : Type 0)
    → Reads s x V P → (P → Q) → ((y : A × State Input) → V y → After s y.1 → Reads y.1 (f y) W Q) → Reads s (x >>= f) W Q
then_after {A = A} {s = s} x f V P W Q h i g = then_reads x f (λ y. V y × After s y.1) P W Q (record { so = λ fr. kept x (h.so fr) }) i (λ y v. g y v.0 v.1)
  where
    kept : (x : Result (A × State Input) Fault) → Yields x (λ y. V y × After s y.1) P → Yields x (λ y. (V y × After s y.1) × After s y.1) P
    kept (Ok y) v = record { so = ((v.so.0, v.so.1), v.so.1) }
    kept (Err (Unexpected n)) v = absurd v.so
    kept (Err (TooDeep n)) v = record { so = v.so }

-- an answer with the first token taken
pub past_ended : {A : Type 0} (s : State Input) (w : A) (W : A × State Input → Type 0) (Q : Type 0) → (After s (past lm s) → W (w, past lm s)) → Reads s (Ok (w, past lm s)) W Q
past_ended s w W Q f = record { so = λ fr. let a = after_past s fr in record { so = (f a, a) } }

pub eat_ended : {A : Type 0} (k : ℕ) (s : State Input) (w : A) (W : A × State Input → Type 0) (Q : Type 0) → kind s.source ≡ k → (After s (past lm s) → W (w, past lm s)) → Reads s (eat lm k s >>= λ r. Ok (w, r)) W Q
unfolding eat
eat_ended k s w W Q e f = rw (eq-eqb (kind s.source) k e) (past_ended s w W Q f)

-- an answer at hand
pub ended : {A : Type 0} (x : A × State Input) (W : A × State Input → Type 0) (Q : Type 0) → W x → Reads x.1 (Ok x) W Q
ended x W Q w = record { so = λ fr. record { so = (w, after_none x.1 fr) } }

pub too_deep : {A : Type 0} {s : State Input} {n : ℕ} (W : A × State Input → Type 0) (Q : Type 0) → Q → Reads s (Err (TooDeep n)) W Q
too_deep W Q q = record { so = λ fr. record { so = q } }

-- this value, and these tokens as the rest
abbrev pub Is : {A : Type 0} → A → Input → A × State Input → Type 0
Is v r x = (x.0 ≡ v) × (x.1.source ≡ r)

pub here : {A : Type 0} {v w : A} {r : Input} {k : List ℕ} {Q : Type 0} → ◌≡◌ {A = A} w v → Reads (from r k) (Ok (w, from r k)) (Is v r) Q
here {v = v} {w = w} {r = r} {k = k} {Q = Q} e = ended (w, from r k) (Is v r) Q (e, refl)

-- this value after the first token
pub past_here : {A : Type 0} {v w : A} {ts r : Input} {k : List ℕ} {Q : Type 0} → ◌≡◌ {A = A} w v → rest ts ≡ r → Reads (from ts k) (Ok (w, from (rest ts) k)) (Is v r) Q
past_here {v = v} {w = w} {ts = ts} {r = r} {k = k} {Q = Q} e q = after_one (from ts k) (Ok (w, from (rest ts) k)) (Is v r) Q (ended (w, from (rest ts) k) (Is v r) Q (e, q))

is_that : {A : Type 0} (v : A) (r : Input) (x : A × State Input) → Is v r x → ◌≡◌ {A = A × State Input} (v, from r x.1.commas) x
is_that {A = A} v r x h = subst (λ (w : A). ◌≡◌ {A = A × State Input} (w, from r x.1.commas) x) h.0 (subst (λ (q : Input). ◌≡◌ {A = A × State Input} (x.0, from q x.1.commas) x) h.1 refl)

-- what follows this value
pub then_is : {A B : Type 0} {s : State Input} (x : Result (A × State Input) Fault) (f : A × State Input → Result (B × State Input) Fault) (v : A) (r : Input) (P : Type 0) (W : B × State Input → Type 0) (Q : Type 0)
    → Reads s x (Is v r) P → (P → Q) → ((k : List ℕ) → Reads (from r k) (f (v, from r k)) W Q) → Reads s (x >>= f) W Q
then_is x f v r P W Q h i g = then_reads x f (Is v r) P W Q h i (λ y e. subst (λ z. Reads z.1 (f z) W Q) (is_that v r y e) (g y.1.commas))

-- ---- tests

pub if_no : {A : Type 0} {s : State Input} (b : Bool) (x y : Result (A × State Input) Fault) (V : A × State Input → Type 0) (P : Type 0) → b ≡ false → Reads s y V P → Reads s (cond b x y) V P
if_no true x y V P e h = absurd (true≢false e)
if_no false x y V P e h = h

pub if_yes : {A : Type 0} {s : State Input} (b : Bool) (x y : Result (A × State Input) Fault) (V : A × State Input → Type 0) (P : Type 0) → b ≡ true → Reads s x V P → Reads s (cond b x y) V P
if_yes true x y V P e h = h
if_yes false x y V P e h = absurd (true≢false (sym e))

-- ---- tokens

-- on from the tokens after the first
pub onto : {A : Type 0} (ts m : Input) (l : List ℕ) (x : State Input → Result (A × State Input) Fault) (W : A × State Input → Type 0) (Q : Type 0) → rest ts ≡ m → Reads (from m l) (x (from m l)) W Q → Reads (from ts l) (x (from (rest ts) l)) W Q
onto ts m l x W Q q h = after_one (from ts l) (x (from (rest ts) l)) W Q (subst (λ (z : Input). Reads (from z l) (x (from z l)) W Q) (sym q) h)

pub then_eat : {A : Type 0} (k : ℕ) (ts m : Input) (l : List ℕ) (f : State Input → Result (A × State Input) Fault) (W : A × State Input → Type 0) (Q : Type 0) → kind ts ≡ k → rest ts ≡ m → Reads (from m l) (f (from m l)) W Q → Reads (from ts l) (eat lm k (from ts l) >>= f) W Q
unfolding eat
then_eat k ts m l f W Q e q h = rw (eq-eqb (kind ts) k e) (onto ts m l f W Q q h)

pub then_word : {A : Type 0} (c : Code) (k : ℕ) (ts m : Input) (l : List ℕ) (f : State Input → Result (A × State Input) Fault) (W : A × State Input → Type 0) (Q : Type 0) → kind ts ≡ k → barred c.context ts ≡ false → rest ts ≡ m → Reads (from m l) (f (from m l)) W Q
    → Reads (from ts l) (eat_word lm c k (from ts l) >>= f) W Q
unfolding eat_word
then_word c k ts m l f W Q e b q h = rw (eq-eqb (kind ts) k e, b) (onto ts m l f W Q q h)

abbrev pub IsName : Code → Input → Type 0
IsName c ts = (is_word (kind ts) ≡ true) × (no_name c.context (kind ts) ≡ false) × (barred c.context ts ≡ false)

pub named : (c : Code) (ts : Input) (l : List ℕ) → IsName c ts → is_name lm c (from ts l) ≡ true
named c ts l h = and_from (is_word (kind ts)) _ h.0 (and_from (not (no_name c.context (kind ts))) (not (barred c.context ts)) (ap not h.1) (ap not h.2))

pub then_name : {A : Type 0} (c : Code) (ts m : Input) (n : List ℕ) (l : List ℕ) (f : List ℕ × State Input → Result (A × State Input) Fault) (W : A × State Input → Type 0) (Q : Type 0) → IsName c ts → text ts ≡ n → rest ts ≡ m → Reads (from m l) (f (n, from m l)) W Q
    → Reads (from ts l) (name lm c (from ts l) >>= f) W Q
unfolding name
then_name c ts m n l f W Q i t q h = rw (named c ts l i) (subst (λ (z : List ℕ). Reads (from ts l) (f (z, from (rest ts) l)) W Q) (sym t) (onto ts m l (λ z. f (n, z)) W Q q h))

-- the same where a fault is found at a given place
pub then_name_placed : {A : Type 0} (b : ℕ) (c : Code) (ts m : Input) (n : List ℕ) (l : List ℕ) (f : List ℕ × State Input → Result (A × State Input) Fault) (W : A × State Input → Type 0) (Q : Type 0) → IsName c ts → text ts ≡ n → rest ts ≡ m → Reads (from m l) (f (n, from m l)) W Q
    → Reads (from ts l) (placed b (name lm c (from ts l)) >>= f) W Q
unfolding name
then_name_placed b c ts m n l f W Q i t q h = rw (named c ts l i) (subst (λ (z : List ℕ). Reads (from ts l) (f (z, from (rest ts) l)) W Q) (sym t) (onto ts m l (λ z. f (n, z)) W Q q h))

pub then_any : {A : Type 0} (ts m : Input) (n : List ℕ) (l : List ℕ) (f : List ℕ × State Input → Result (A × State Input) Fault) (W : A × State Input → Type 0) (Q : Type 0) → is_word (kind ts) ≡ true → text ts ≡ n → rest ts ≡ m → Reads (from m l) (f (n, from m l)) W Q
    → Reads (from ts l) (any_word lm (from ts l) >>= f) W Q
unfolding any_word
then_any ts m n l f W Q i t q h = rw i (subst (λ (z : List ℕ). Reads (from ts l) (f (z, from (rest ts) l)) W Q) (sym t) (onto ts m l (λ z. f (n, z)) W Q q h))

-- what follows a value that is read after the first token
pub then_past : {A B : Type 0} (ts m : Input) (l : List ℕ) (x : State Input → Result (A × State Input) Fault) (f : A × State Input → Result (B × State Input) Fault) (v : A) (r : Input) (P : Type 0) (W : B × State Input → Type 0) (Q : Type 0)
    → rest ts ≡ m → Reads (from m l) (x (from m l)) (Is v r) P → (P → Q) → ((k : List ℕ) → Reads (from r k) (f (v, from r k)) W Q) → Reads (from ts l) (x (from (rest ts) l) >>= f) W Q
then_past ts m l x f v r P W Q q h i g = then_is (x (from (rest ts) l)) f v r P W Q (onto ts m l x (Is v r) P q h) i g

pub then_past_reads : {A B : Type 0} (ts m : Input) (l : List ℕ) (x : State Input → Result (A × State Input) Fault) (f : A × State Input → Result (B × State Input) Fault) (V : A × State Input → Type 0) (P : Type 0) (W : B × State Input → Type 0) (Q : Type 0)
    → rest ts ≡ m → Reads (from m l) (x (from m l)) V P → (P → Q) → ((y : A × State Input) → V y → Reads y.1 (f y) W Q) → Reads (from ts l) (x (from (rest ts) l) >>= f) W Q
then_past_reads ts m l x f V P W Q q h i g = then_reads (x (from (rest ts) l)) f V P W Q (onto ts m l x V P q h) i g

-- ---- an array or an object, whose start may be noted when it has been read

abbrev pub noted_at : Bool → ℕ → State Input → State Input
noted_at b n s = record { source = s.source; commas = if b then n ∷ s.commas else s.commas }

has_other : (b : Bool) (n x : ℕ) (k : List ℕ) → (x ≡ n → ⊥) → has n (if b then x ∷ k else k) ≡ has n k
has_other true n x k h = rw (ne_eqb x n h) refl
has_other false n x k h = refl

has_cases : (b : Bool) (n x : ℕ) (k : List ℕ) → has n (if b then x ∷ k else k) ≡ true → (x ≡ n) ⊎ (has n k ≡ true)
has_cases true n x k h = ⊎_elim (λ q. inl (eqb-true x n q)) (λ q. inr q) (or_cases (eqb x n) (has n k) h)
has_cases false n x k h = inr h

pub starts_here : (last : ℕ) (ps : List PlacedToken) → InOrder last ps → (kind_of ps ≡ 0 → ⊥) → (kind_of ps ≡ template_kind → ⊥) → (last ≤ lo_of last ps) × (lo_of last ps < hi_of last ps)
starts_here last [] h n t = absurd (n refl)
starts_here last (p ∷ ps) h n t = (h.0, h.2 t)

noted_after : (ts : Input) (k : List ℕ) (b : Bool) (r : State Input) → Fresh (from ts k) → (kind ts ≡ 0 → ⊥) → (kind ts ≡ template_kind → ⊥) → After (from (rest ts) k) r → After (from ts k) (noted_at b (lo ts) r)
noted_after ts k b r f n t a =
    let w = starts_here ts.last ts.places f.order n t in
    let v = after_past (from ts k) f in
    record {
      fresh = record { order = a.fresh.order; below = λ m h. ⊎_elim (λ q. omega (arith, w.1, a.last, q)) (λ q. a.fresh.below m q) (has_cases b m (lo ts) r.commas h) };
      last = omega (arith, v.last, a.last);
      kept = λ m h. has_other b m (lo ts) r.commas (λ q. omega (arith, q, h, w.0)) ∙ a.kept m (omega (arith, v.last, h));
    }

pub noted_then : {A B : Type 0} (ts m : Input) (k : List ℕ) (x : State Input → Result (A × State Input) Fault) (g : A × State Input → B) (b : A × State Input → Bool) (V : A × State Input → Type 0) (P : Type 0) (W : B × State Input → Type 0) (Q : Type 0)
    → (kind ts ≡ 0 → ⊥) → (kind ts ≡ template_kind → ⊥) → rest ts ≡ m → Reads (from m k) (x (from m k)) V P → (P → Q) → ((y : A × State Input) → V y → Fresh (from ts k) → After (from (rest ts) k) y.1 → W (g y, noted_at (b y) (lo ts) y.1))
    → Reads (from ts k) (x (from (rest ts) k) >>= λ y. Ok (g y, noted_at (b y) (lo ts) y.1)) W Q
noted_then {A = A} {B = B} ts m k x g b V P W Q n t q h i w = record { so = λ fr. onward fr (x (from (rest ts) k)) ((subst (λ (z : Input). Reads (from z k) (x (from z k)) V P) (sym q) h).so (after_past (from ts k) fr).fresh) }
  where
    onward : Fresh (from ts k) → (r : Result (A × State Input) Fault) → Yields r (λ y. V y × After (from (rest ts) k) y.1) P → Yields (r >>= λ y. Ok (g y, noted_at (b y) (lo ts) y.1)) (λ y. W y × After (from ts k) y.1) Q
    onward fr (Ok y) v = record { so = (w y v.so.0 fr v.so.1, noted_after ts k (b y) y.1 fr n t v.so.1) }
    onward fr (Err (Unexpected n)) v = absurd v.so
    onward fr (Err (TooDeep n)) v = record { so = i v.so }

pub then_noted : {A B : Type 0} (ts m : Input) (k : List ℕ) (x : State Input → Result (A × State Input) Fault) (g : A × State Input → B) (b : A × State Input → Bool) (V : A × State Input → Type 0) (P : Type 0) (W : B × State Input → Type 0) (Q : Type 0)
    → (kind ts ≡ 0 → ⊥) → (kind ts ≡ template_kind → ⊥) → rest ts ≡ m → Reads (from m k) (x (from m k)) V P → (P → Q) → ((y : A × State Input) → V y → W (g y, noted_at (b y) (lo ts) y.1))
    → Reads (from ts k) (x (from (rest ts) k) >>= λ y. Ok (g y, noted_at (b y) (lo ts) y.1)) W Q
then_noted ts m k x g b V P W Q n t q h i w = noted_then ts m k x g b V P W Q n t q h i (λ y v fr a. w y v)

-- ---- loops

module _ {A : Type 0} (step : A → Read Input (Step A)) where
  -- with as many turns as there are tokens, and any more, the loop's answer meets a demand
  pub record Loops (x : A) (r : Input) (k : List ℕ) (W : A × State Input → Type 0) (Q : Type 0) : Type 0 where
    pub so : (n : ℕ) → len r < n → Reads (from r k) (iterate_n (bound lm) n step x (from r k)) W Q

  pub loop_on : (x y : A) (ts r : Input) (k : List ℕ) (P : Type 0) (W : A × State Input → Type 0) (Q : Type 0) → Reads (from ts k) (step x (from ts k)) (Is (go_on y) r) P → (P → Q) → len r < len ts → ((l : List ℕ) → Loops y r l W Q) → Loops x ts k W Q
  unfolding iterate_n
  loop_on x y ts r k P W Q h i c g = record { so = λ n q. turned n q }
    where
      turned : (n : ℕ) → len ts < n → Reads (from ts k) (iterate_n (bound lm) n step x (from ts k)) W Q
      turned zero q = absurd (omega arith)
      turned (suc n) q = then_is (step x (from ts k)) (next_by (bound lm) (iterate_n (bound lm) n step) (len ts)) (go_on y) r P W Q h i (λ l. rw (lt-ltb (len r) (len ts) c) ((g l).so n (omega arith)))

  pub loop_end : (x y : A) (ts r : Input) (k : List ℕ) (P : Type 0) (W : A × State Input → Type 0) (Q : Type 0) → Reads (from ts k) (step x (from ts k)) (Is (finished y) r) P → (P → Q) → ((l : List ℕ) → W (y, from r l)) → Loops x ts k W Q
  unfolding iterate_n
  loop_end x y ts r k P W Q h i w = record { so = λ n q. turned n q }
    where
      turned : (n : ℕ) → len ts < n → Reads (from ts k) (iterate_n (bound lm) n step x (from ts k)) W Q
      turned zero q = absurd (omega arith)
      turned (suc n) q = then_is (step x (from ts k)) (next_by (bound lm) (iterate_n (bound lm) n step) (len ts)) (finished y) r P W Q h i (λ l. ended (y, from r l) W Q (w l))

  -- what a turn's answer leads to
  abbrev pub Goes : (ts : Input) (W : A × State Input → Type 0) (Q : Type 0) → Step A × State Input → Type 0
  Goes ts W Q (go_on y, r) = (len r.source < len ts) × Loops y r.source r.commas W Q
  Goes ts W Q (finished y, r) = W (y, r)

  pub loop_after : (x : A) (ts : Input) (k : List ℕ) (V : Step A × State Input → Type 0) (P : Type 0) (W : A × State Input → Type 0) (Q : Type 0) → Reads (from ts k) (step x (from ts k)) V P → (P → Q) → ((y : Step A × State Input) → V y → After (from ts k) y.1 → Goes ts W Q y) → Loops x ts k W Q
  unfolding iterate_n
  loop_after x ts k V P W Q h i g = record { so = λ n q. turned n q }
    where
      goes : (n : ℕ) → len ts < suc n → (y : Step A × State Input) → Goes ts W Q y → Reads y.1 (next_by (bound lm) (iterate_n (bound lm) n step) (len ts) y) W Q
      goes n q (go_on y, r) w = rw (lt-ltb (len r.source) (len ts) w.0) (w.1.so n (omega (arith, q, w.0)))
      goes n q (finished y, r) w = ended (y, r) W Q w

      turned : (n : ℕ) → len ts < n → Reads (from ts k) (iterate_n (bound lm) n step x (from ts k)) W Q
      turned zero q = absurd (omega arith)
      turned (suc n) q = then_after (step x (from ts k)) (next_by (bound lm) (iterate_n (bound lm) n step) (len ts)) V P W Q h i (λ y v a. goes n q y (g y v a))

  pub looped : (x : A) (ts : Input) (k : List ℕ) (W : A × State Input → Type 0) (Q : Type 0) → Loops x ts k W Q → Reads (from ts k) (iterate (bound lm) step x (from ts k)) W Q
  unfolding iterate
  looped x ts k W Q h = h.so (suc (len ts)) (omega arith)

-- ---- lengths

took_of : (ps : List PlacedToken) → (kind_of ps ≡ 0 → ⊥) → length ps ≡ suc (length (others ps))
took_of [] h = absurd (h refl)
took_of (p ∷ ps) h = refl

pub took : (ts : Input) → (kind ts ≡ 0 → ⊥) → len ts ≡ suc (len (rest ts))
took ts h = took_of ts.places h

pub shorter : (ts r : Input) → (kind ts ≡ 0 → ⊥) → rest ts ≡ r → len r < len ts
shorter ts r h e = omega (arith, took ts h, ap (λ (z : Input). len z) e)

-- after `async`
pub async_name : (c : Code) (ts : Input) → kind ts ≡ async_kind → barred c.context ts ≡ false → IsName c ts
async_name c ts e b = (subst (λ (x : ℕ). is_word x ≡ true) (sym e) refl, subst (λ (x : ℕ). no_name c.context x ≡ false) (sym e) refl, b)
