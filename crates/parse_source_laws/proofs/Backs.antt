-- From a list that a source hands out behind a reading back to one that it hands out before.
use Rattle.std.proofs.Common.{◌≡◌, ◌⊎◌, ◌<◌, ◌≤◌, ◌+◌, ℕ, zero, suc, Bool, true, false, not, ◌&&◌, ◌||◌, cond, if◌then◌else◌, eqb, nat_le, nat_lt, List, [], ◌∷◌, ◌++◌, length, append_assoc, Result, Ok, Err, inl, inr, refl, sym, ap, ap₂, ◌∙◌, subst, true≢false, arith, eqb-true, lt-ltb}
use Rattle.base_proofs.proofs.Bools.{and_first}
use Rattle.base_token.specs.declared.context.Context.{Context}
use Rattle.base_token.specs.Kinds.{error_kind, semicolon_kind}
use Rattle.tree_spec.specs.Tree.{Tree}
use Rattle.grammar_spec.specs.Tokens.Input.{PlacedToken, Input, Code, kind, kind_of, others, content_of, lo, hi, hi_of, text, brk, is_word, barred, first_span, span}
use Rattle.grammar_spec.specs.Tokens.Operators.{pauses, closed_end, postfix_end}
use Rattle.grammar_spec.specs.Tokens.Shape.{is_block, is_absent}
use Rattle.grammar_spec.specs.Reader.Source.{is_nil, Fault, Unexpected, TooDeep, ◌>>=◌, placed, unexpected, Stream, State, Read, input, past, operand, retold, at, bound, eat, eat_word, is_name, name, any_word, end_of, Step, go_on, finished, next_by, iterate_n, iterate, Inner}
use Rattle.parse_source_laws.specs.Sources.{is_slash, one, two}
use Rattle.parse_source_laws.proofs.Beside.{placed_then, lm, on, kinded, regexp, slash, Plain}
use Rattle.parse_source_laws.proofs.Pairs.{edge, Keeps, Opens, Blind, BlindTwo, Loose, Pairing, Paired}

-- the class of what is closed, whatever it is; and of what a token of its own follows
abbrev pub closed : {A : Type 0} → A → ℕ
closed x = closed_end

abbrev pub calm : {A : Type 0} → A → ℕ
calm x = 0

-- whether nothing is asked, by what is closed
pub shut_keeps : (i : ℕ) → Keeps closed_end i
shut_keeps i = (λ o. absurd (true≢false o), λ o. absurd (true≢false o))

pub same_keeps : (e : ℕ) → Keeps e e
same_keeps e = (λ o. o, λ o. o)

-- a test that holds neither at the end nor at a fault
abbrev pub Firm : (List PlacedToken → Bool) → Type 0
Firm B = (B [] ≡ false) × ((p : PlacedToken) (l : List PlacedToken) → B (kinded error_kind p ∷ l) ≡ false)

no_error : (B : List PlacedToken → Bool) → Firm B → (p : PlacedToken) (l : List PlacedToken) → B (p ∷ l) ≡ true → eqb p.spot.token.kind error_kind ≡ false
no_error B f p l e = by_test (eqb p.spot.token.kind error_kind) refl
  where
    by_test : (b : Bool) → eqb p.spot.token.kind error_kind ≡ b → eqb p.spot.token.kind error_kind ≡ false
    by_test false i = i
    by_test true i = absurd (true≢false (sym e ∙ (ap (λ (k : ℕ). B (kinded k p ∷ l)) (eqb-true p.spot.token.kind error_kind i) ∙ f.1 p l)))

module _ {S : Type 0} (m : Stream S) (Live : Pairing m) where
  -- the state before a list that is beside a state before the source
  abbrev pub list_at : State S → List PlacedToken → State Input
  list_at s ps = record { source = record { last = m.last s.source; places = ps }; commas = s.commas }

  -- a token comes, and is no fault
  pub record Here (s : State S) : Type 0 where
    pub live : Live.live s.source
    pub place : PlacedToken
    pub shown : List PlacedToken
    pub seen : m.seen s.source ≡ place ∷ shown
    pub fine : eqb place.spot.token.kind error_kind ≡ false

  -- From one stand a reading came to the other: of what is handed out there, what was handed out here.
  pub record Path (s t : State S) : Type 0 where
    pub from : Live.live s.source
    pub live : Live.live t.source
    pub back : List PlacedToken → List PlacedToken
    pub front : List PlacedToken
    pub grown : (qs : List PlacedToken) → back qs ≡ front ++ qs
    pub hands : (qs : List PlacedToken) → Live.hands 0 qs t.source → Live.hands 0 (back qs) s.source
    pub took : ℕ
    pub ahead : (n : ℕ) (qs : List PlacedToken) → Live.hands n qs t.source → Live.hands (took + n) (back qs) s.source
    pub none : took ≡ 0 → (qs : List PlacedToken) → back qs ≡ qs
    pub single : took ≡ 1 → (p : PlacedToken) × ((qs : List PlacedToken) → back qs ≡ p ∷ qs)
    pub longer : (qs : List PlacedToken) → length (back qs) ≡ took + length qs
    pub opens : (qs : List PlacedToken) → Opens qs → Opens (back qs)

  abbrev pub was : {s t : State S} → Path s t → State Input → State Input
  was {s} u q = list_at s (u.back q.source.places)

  -- where the first token was taken that came
  pub record Took {s t : State S} (u : Path s t) : Type 0 where
    pub place : PlacedToken
    pub shown : List PlacedToken
    pub seen : m.seen s.source ≡ place ∷ shown
    pub starts : (qs : List PlacedToken) → Live.hands 0 qs t.source → (w : List PlacedToken) × (u.back qs ≡ place ∷ w)

  -- the same of an earlier stand, of which only its place is asked
  pub record Since (s : State S) : Type 0 where
    pub back : List PlacedToken → List PlacedToken
    pub begins : (qs : List PlacedToken) → lo (input lm (list_at s (back qs))) ≡ lo (input m s)

  abbrev pub sat : {s : State S} → Since s → State Input → State Input
  sat {s} u q = list_at s (u.back q.source.places)

  -- whether a token was taken
  abbrev pub Moved : {s t : State S} → Bool → Path s t → Type 0
  Moved b u = b ≡ true → (1 ≤ u.took) × ((qs : List PlacedToken) → Opens (u.back qs))

  -- What may stand behind what ends so.
  abbrev pub Good : ℕ → State S → List PlacedToken → Type 0
  Good e s qs = (nat_le closed_end e ≡ false → Live.ajar s.source qs) × (nat_le postfix_end e ≡ false → Live.waits s.source qs)

  -- What the source's answer is, is the list's, where the list behind is good by the class of what was read; and whether it takes a token.
  abbrev BackedBy : {A : Type 0} → (A → ℕ) → Bool → ℕ → State S → Result (A × State S) Fault → (State Input → Result (A × State Input) Fault) → Type 0
  BackedBy E b e s (Ok x) y = (u : Path s x.1) × Moved b u × ((qs : List PlacedToken) → Live.hands 0 qs x.1.source → Good (E x.0) x.1 qs → Good e s (u.back qs) × (y (list_at s (u.back qs)) ≡ Ok (x.0, list_at x.1 qs)))
  BackedBy E b e s (Err d) y = Unit {0}

  pub record Backed {A : Type 0} (E : A → ℕ) (b : Bool) (e : ℕ) (s : State S) (x : Result (A × State S) Fault) (y : State Input → Result (A × State Input) Fault) : Type 0 where
    pub so : BackedBy E b e s x y

  -- a step of a loop: where it goes on, it takes a token
  abbrev pub goes : {A : Type 0} → Result (Step A × State S) Fault → Bool
  goes (Ok (go_on x, s)) = true
  goes (Ok (finished x, s)) = false
  goes (Err e) = false

  pub record Steps {A : Type 0} (E : Step A → ℕ) (d : Bool) (e : ℕ) (s : State S) (x : Result (Step A × State S) Fault) (y : State Input → Result (Step A × State Input) Fault) : Type 0 where
    pub moves : Bool
    pub so : Backed E moves e s x y
    pub on : goes x ≡ true → moves ≡ true
    pub all : d ≡ true → moves ≡ true

  -- what the step of a loop hands to the next turn
  abbrev HandsBy : {A : Type 0} → (A → Type 0) → Result (Step A × State S) Fault → Type 0
  HandsBy P (Ok (go_on x, r)) = P x
  HandsBy P (Ok (finished x, r)) = Unit {0}
  HandsBy P (Err e) = Unit {0}

  -- The same, where so many tokens were taken, or this holds of the list.
  abbrev BidesBy : {A : Type 0} → ℕ → (List PlacedToken → Type 0) → (A → ℕ) → Bool → ℕ → State S → Result (A × State S) Fault → (State Input → Result (A × State Input) Fault) → Type 0
  BidesBy i Q E b e s (Ok x) y = (u : Path s x.1) × Moved b u × ((qs : List PlacedToken) → Live.hands 0 qs x.1.source → Good (E x.0) x.1 qs → Good e s (u.back qs) × (y (list_at s (u.back qs)) ≡ Ok (x.0, list_at x.1 qs)) × (Live.hands i (u.back qs) s.source ⊎ Q (u.back qs)))
  BidesBy i Q E b e s (Err d) y = Unit {0}

  pub record Bides {A : Type 0} (i : ℕ) (Q : List PlacedToken → Type 0) (E : A → ℕ) (b : Bool) (e : ℕ) (s : State S) (x : Result (A × State S) Fault) (y : State Input → Result (A × State Input) Fault) : Type 0 where
    pub so : BidesBy i Q E b e s x y

  pub record Hands {A : Type 0} (P : A → Type 0) (y : Result (Step A × State S) Fault) : Type 0 where
    pub so : HandsBy P y

pub kept : {S : Type 0} {m : Stream S} (Live : Pairing m) (s : State S) (e i : ℕ) (qs : List PlacedToken) → Keeps e i → Good m Live i s qs → Good m Live e s qs
kept Live s e i qs k g = (λ o. g.0 (k.0 o), λ o. g.1 (k.1 o))

pub shut_good : {S : Type 0} {m : Stream S} (Live : Pairing m) (s : State S) (qs : List PlacedToken) → Good m Live closed_end s qs
shut_good Live s qs = (λ o. absurd (true≢false o), λ o. absurd (true≢false o))

pub no_one : ◌≡◌ {A = ℕ} 0 1 → ⊥
no_one e = true≢false (ap (λ (z : ℕ). eqb z 0) e)

pub no_none : ◌≡◌ {A = ℕ} 1 0 → ⊥
no_none e = true≢false (ap (λ (z : ℕ). eqb z 1) e)

module _ {S : Type 0} {m : Stream S} {Live : Pairing m} where
  pub hands_if : {A : Type 0} {P : A → Type 0} (b : Bool) (x y : Result (Step A × State S) Fault) → Hands m Live P x → Hands m Live P y → Hands m Live P (cond b x y)
  hands_if true x y h n = h
  hands_if false x y h n = n

  pub hands_then : {A B : Type 0} {P : A → Type 0} (x : Result B Fault) (f : B → Result (Step A × State S) Fault) → ((b : B) → Hands m Live P (f b)) → Hands m Live P (x >>= f)
  hands_then (Ok b) f h = h b
  hands_then (Err e) f h = record { so = tt }

  pub hands_word : {A : Type 0} {P : A → Type 0} (p : Fault) (b : Bool) (x : State S) (f : State S → Result (Step A × State S) Fault) → Hands m Live P (f x) → Hands m Live P (cond b (Ok x) (Err p) >>= f)
  hands_word p true x f h = h
  hands_word p false x f h = record { so = tt }

  pub none_join : {s t u : State S} (a : Path m Live s t) (b : Path m Live t u) → a.took + b.took ≡ 0 → (qs : List PlacedToken) → a.back (b.back qs) ≡ qs
  none_join a b e qs = a.none (omega (arith, e)) (b.back qs) ∙ b.none (omega (arith, e)) qs

  pub single_by : {s t u : State S} (a : Path m Live s t) (b : Path m Live t u) (n : ℕ) → a.took ≡ n → n + b.took ≡ 1 → (p : PlacedToken) × ((qs : List PlacedToken) → a.back (b.back qs) ≡ p ∷ qs)
  single_by a b zero i e = let z = b.single (omega (arith, e)) in (z.0, λ qs. a.none i (b.back qs) ∙ z.1 qs)
  single_by a b (suc n) i e = let z = a.single (omega (arith, i, e)) in (z.0, λ qs. z.1 (b.back qs) ∙ ap (λ v. z.0 ∷ v) (b.none (omega (arith, i, e)) qs))

  abbrev pub join : {s t u : State S} → Path m Live s t → Path m Live t u → Path m Live s u
  join {s} a b = record {
    from = a.from;
    live = b.live;
    back = λ qs. a.back (b.back qs);
    front = a.front ++ b.front;
    grown = λ qs. a.grown (b.back qs) ∙ (ap (λ v. a.front ++ v) (b.grown qs) ∙ sym (append_assoc a.front b.front qs));
    hands = λ qs h. a.hands (b.back qs) (b.hands qs h);
    took = a.took + b.took;
    ahead = λ n qs h. subst (λ (i : ℕ). Live.hands i (a.back (b.back qs)) s.source) (omega arith) (a.ahead (b.took + n) (b.back qs) (b.ahead n qs h));
    none = λ e. none_join a b e;
    single = λ e. single_by a b a.took refl e;
    longer = λ qs. omega (arith, a.longer (b.back qs), b.longer qs);
    opens = λ qs o. a.opens (b.back qs) (b.opens qs o);
  }

  abbrev pub stay : {s : State S} → Live.live s.source → Path m Live s s
  stay {s} l = record { from = l; live = l; back = λ qs. qs; front = []; grown = λ qs. refl; hands = λ qs h. h; took = 0; ahead = λ n qs h. subst (λ (i : ℕ). Live.hands i qs s.source) (omega arith) h; none = λ i qs. refl; single = λ i. absurd (no_one i); longer = λ qs. omega arith; opens = λ qs o. o }

  pub took_join : {s t u : State S} (a : Path m Live s t) (b : Path m Live t u) → Took m Live a → Took m Live (join a b)
  took_join a b k = record { place = k.place; shown = k.shown; seen = k.seen; starts = λ qs h. k.starts (b.back qs) (b.hands qs h) }

  -- ---- answers

  pub back_never : {A : Type 0} {E : A → ℕ} {e : ℕ} {b : Bool} {s : State S} {d : Fault} {y : State Input → Result (A × State Input) Fault} → Backed m Live E b e s (Err d) y
  back_never = record { so = tt }

  pub back_ok : {A : Type 0} {E : A → ℕ} {e : ℕ} {s : State S} (a : A) (f : State Input → A) → Live.live s.source → ((qs : List PlacedToken) → Live.hands 0 qs s.source → f (list_at m Live s qs) ≡ a) → Keeps e (E a) → Backed m Live E false e s (Ok (a, s)) (λ r. Ok (f r, r))
  back_ok {E = E} {e = e} {s = s} a f l i c = record { so = (stay l, λ i. absurd (true≢false (sym i)), λ qs h g. (kept Live s e (E a) qs c g, ap (λ z. Ok (z, list_at m Live s qs)) (i qs h))) }

  -- with a start noted
  pub back_noted : {A : Type 0} {E : A → ℕ} {e : ℕ} {s : State S} (b : Bool) (n : ℕ) (k : State Input → ℕ) (a : A) (f : State Input → A) → Live.live s.source → ((qs : List PlacedToken) → Live.hands 0 qs s.source → k (list_at m Live s qs) ≡ n) → ((qs : List PlacedToken) → Live.hands 0 qs s.source → f (list_at m Live s qs) ≡ a) → Keeps e (E a)
      → Backed m Live E false e s (Ok (a, record { source = s.source; commas = if b then n ∷ s.commas else s.commas })) (λ r. Ok (f r, record { source = r.source; commas = if b then k r ∷ r.commas else r.commas }))
  back_noted {E = E} {e = e} {s = s} b n k a f l i j c = record {
    so = (
      record { from = l; live = l; back = λ qs. qs; front = []; grown = λ qs. refl; hands = λ qs h. h; took = 0; ahead = λ n qs h. subst (λ (i : ℕ). Live.hands i qs s.source) (omega arith) h; none = λ i qs. refl; single = λ i. absurd (no_one i); longer = λ qs. omega arith; opens = λ qs o. o },
      λ o. absurd (true≢false (sym o)),
      λ qs h g. (kept Live s e (E a) qs c g, ap₂ (λ a n. Ok (a, record { source = (list_at m Live s qs).source; commas = if b then n ∷ s.commas else s.commas })) (j qs h) (i qs h)),
    );
  }

  pub back_weak : {A : Type 0} {E : A → ℕ} {e : ℕ} {b : Bool} {s : State S} (x : Result (A × State S) Fault) {y : State Input → Result (A × State Input) Fault} → Backed m Live E b e s x y → Backed m Live E false e s x y
  back_weak (Ok x) h = record { so = (h.so.0, λ i. absurd (true≢false (sym i)), h.so.2) }
  back_weak (Err e) h = record { so = tt }

  -- the list's answer, in other words
  pub back_same : {A : Type 0} {E : A → ℕ} {e : ℕ} {b : Bool} {s : State S} (x : Result (A × State S) Fault) (y v : State Input → Result (A × State Input) Fault) → ((qs : List PlacedToken) → Live.hands 0 qs s.source → v (list_at m Live s qs) ≡ y (list_at m Live s qs)) → Backed m Live E b e s x y → Backed m Live E b e s x v
  back_same (Ok x) y v i h = record { so = (h.so.0, h.so.1, λ qs g z. let k = h.so.2 qs g z in (k.0, i (h.so.0.back qs) (h.so.0.hands qs g) ∙ k.1)) }
  back_same (Err d) y v e h = record { so = tt }

  -- what is known of the list at the start
  pub back_start : {A : Type 0} {E : A → ℕ} {b : Bool} {s : State S} (e i : ℕ) (x : Result (A × State S) Fault) {y : State Input → Result (A × State Input) Fault} → ((qs : List PlacedToken) → Live.hands 0 qs s.source → Good m Live i s qs) → Backed m Live E b e s x y → Backed m Live E b i s x y
  back_start e i (Ok x) g h = record { so = (h.so.0, h.so.1, λ qs o z. (g (h.so.0.back qs) (h.so.0.hands qs o), (h.so.2 qs o z).1)) }
  back_start e i (Err d) g h = record { so = tt }

  -- what asks nothing of the list behind it
  pub back_closed : {A : Type 0} {E : A → ℕ} {b : Bool} {e : ℕ} {s : State S} (x : Result (A × State S) Fault) {y : State Input → Result (A × State Input) Fault} → Backed m Live closed b e s x y → Backed m Live E b e s x y
  back_closed (Ok x) h = record { so = (h.so.0, h.so.1, λ qs o z. h.so.2 qs o (shut_good Live x.1 qs)) }
  back_closed (Err d) h = record { so = tt }

  -- one reading, and another behind it
  moved_join : {s t u : State S} (b d : Bool) (p : Path m Live s t) (q : Path m Live t u) → Moved m Live b p → Moved m Live d q → Moved m Live (b || d) (join p q)
  moved_join true d p q f g i = let z = f refl in (omega (arith, z.0), λ qs. z.1 (q.back qs))
  moved_join false d p q f g i = let z = g i in (omega (arith, z.0), λ qs. p.opens (q.back qs) (z.1 qs))

  pub back_then_by : {A B : Type 0} {E : A → ℕ} {F : B → ℕ} {e : ℕ} {b d : Bool} {s : State S} (x : Result (A × State S) Fault) (y : State Input → Result (A × State Input) Fault) (g : A × State S → Result (B × State S) Fault) (f : State Input → A × State Input → Result (B × State Input) Fault)
      → Backed m Live E b e s x y → ((a : A) (t : State S) (u : Path m Live s t) → x ≡ Ok (a, t) → Backed m Live F d (E a) t (g (a, t)) (λ q. f (was m Live u q) (a, q))) → Backed m Live F (b || d) e s (x >>= g) (λ r. y r >>= f r)
  back_then_by (Err i) y g f h n = record { so = tt }
  back_then_by {A} {B} {E} {F} {e} {b} {d} {s} (Ok x) y g f h n = behind (g x) (n x.0 x.1 h.so.0 refl)
    where
      behind : (v : Result (B × State S) Fault) → Backed m Live F d (E x.0) x.1 v (λ q. f (was m Live h.so.0 q) (x.0, q)) → Backed m Live F (b || d) e s v (λ r. y r >>= f r)
      behind (Err i) k = record { so = tt }
      behind (Ok z) k = record { so = (join h.so.0 k.so.0, moved_join b d h.so.0 k.so.0 h.so.1 k.so.1, λ qs o a. let k2 = k.so.2 qs o a in let k1 = h.so.2 (k.so.0.back qs) (k.so.0.hands qs o) k2.0 in (k1.0, ap (λ v. v >>= f (list_at m Live s (h.so.0.back (k.so.0.back qs)))) k1.1 ∙ k2.1)) }

  pub back_then : {A B : Type 0} {E : A → ℕ} {F : B → ℕ} {e : ℕ} {b d : Bool} {s : State S} (x : Result (A × State S) Fault) (y : State Input → Result (A × State Input) Fault) (g : A × State S → Result (B × State S) Fault) (f : State Input → A × State Input → Result (B × State Input) Fault)
      → Backed m Live E b e s x y → ((a : A) (t : State S) (u : Path m Live s t) → Backed m Live F d (E a) t (g (a, t)) (λ q. f (was m Live u q) (a, q))) → Backed m Live F (b || d) e s (x >>= g) (λ r. y r >>= f r)
  back_then x y g f h n = back_then_by x y g f h (λ a t u i. n a t u)

  -- where faults are found changes nothing of what is read
  pub back_placed : {A B C : Type 0} {E : A → ℕ} {e : ℕ} {b : Bool} {s : State S} (n : ℕ) (i : State Input → ℕ) (x : Result B Fault) (y : State Input → Result C Fault) (g : B → Result (A × State S) Fault) (f : State Input → C → Result (A × State Input) Fault)
      → Backed m Live E b e s (x >>= g) (λ r. y r >>= f r) → Backed m Live E b e s (placed n x >>= g) (λ r. placed (i r) (y r) >>= f r)
  back_placed n i (Err (Unexpected d)) y g f h = record { so = tt }
  back_placed n i (Err (TooDeep d)) y g f h = record { so = tt }
  back_placed {A} {E = E} {e} {b} {s} n i (Ok a) y g f h = by_answer (g a) h
    where
      by_answer : (x : Result (A × State S) Fault) → Backed m Live E b e s x (λ r. y r >>= f r) → Backed m Live E b e s x (λ r. placed (i r) (y r) >>= f r)
      by_answer (Err d) h = record { so = tt }
      by_answer (Ok x) h = record { so = (h.so.0, h.so.1, λ qs a k. let z = h.so.2 qs a k in let r = list_at m Live s (h.so.0.back qs) in (z.0, placed_then (i r) (y r) (f r) z.1)) }

  -- what stands on no source
  pub back_pure : {A B : Type 0} {E : A → ℕ} {e : ℕ} {b : Bool} {s : State S} (n : ℕ) (j : State Input → ℕ) (x : Result B Fault) (y : State Input → Result B Fault) (g : B → Result (A × State S) Fault) (f : State Input → B → Result (A × State Input) Fault)
      → ((qs : List PlacedToken) → Live.hands 0 qs s.source → y (list_at m Live s qs) ≡ x) → ((a : B) → Backed m Live E b e s (g a) (λ r. f r a)) → Backed m Live E b e s (placed n x >>= g) (λ r. placed (j r) (y r) >>= f r)
  back_pure {A} {B} {E} {e} {b} {s} n j x y g f i h = back_placed n j x y g f (by_answer x i)
    where
      by_answer : (x : Result B Fault) → ((qs : List PlacedToken) → Live.hands 0 qs s.source → y (list_at m Live s qs) ≡ x) → Backed m Live E b e s (x >>= g) (λ r. y r >>= f r)
      by_answer (Err e) i = record { so = tt }
      by_answer (Ok a) i = back_same (g a) (λ r. f r a) (λ r. y r >>= f r) (λ qs k. ap (λ z. z >>= f (list_at m Live s qs)) (i qs k)) (h a)

  -- a test
  pub back_test : {A : Type 0} {E : A → ℕ} {e : ℕ} {b : Bool} {s : State S} (c : Bool) (d : State Input → Bool) (x u : Result (A × State S) Fault) (y v : State Input → Result (A × State Input) Fault)
      → ((qs : List PlacedToken) → Live.hands 0 qs s.source → d (list_at m Live s qs) ≡ c) → (c ≡ true → Backed m Live E b e s x y) → (c ≡ false → Backed m Live E b e s u v) → Backed m Live E b e s (cond c x u) (λ r. cond (d r) (y r) (v r))
  back_test {s = s} true d x u y v e f g = back_same x y (λ r. cond (d r) (y r) (v r)) (λ qs h. ap (λ z. cond z (y (list_at m Live s qs)) (v (list_at m Live s qs))) (e qs h)) (f refl)
  back_test {s = s} false d x u y v e f g = back_same u v (λ r. cond (d r) (y r) (v r)) (λ qs h. ap (λ z. cond z (y (list_at m Live s qs)) (v (list_at m Live s qs))) (e qs h)) (g refl)

  -- a step that takes a token
  pub step_all : {A : Type 0} {E : Step A → ℕ} {e : ℕ} {s : State S} {x : Result (Step A × State S) Fault} {y : State Input → Result (Step A × State Input) Fault} → Backed m Live E true e s x y → Steps m Live E true e s x y
  step_all h = record { moves = true; so = h; on = λ i. refl; all = λ i. refl }

  -- a step that is done, or takes a token
  pub step_test : {A : Type 0} {E : Step A → ℕ} {e : ℕ} {s : State S} (c : Bool) (d : State Input → Bool) (a : A) (u : Result (Step A × State S) Fault) (v : State Input → Result (Step A × State Input) Fault) → Live.live s.source
      → ((qs : List PlacedToken) → Live.hands 0 qs s.source → Good m Live e s qs → d (list_at m Live s qs) ≡ c) → (c ≡ false → Backed m Live E true e s u v) → Keeps e (E (finished a))
      → Steps m Live E false e s (cond c (Ok (finished a, s)) u) (λ r. cond (d r) (Ok (finished a, r)) (v r))
  step_test {E = E} {e = e} {s = s} true d a u v l i g o = record { moves = false; so = record { so = (stay l, λ z. absurd (true≢false (sym z)), λ qs h k. (kept Live s e (E (finished a)) qs o k, ap (λ z. cond z (Ok (finished a, list_at m Live s qs)) (v (list_at m Live s qs))) (i qs h (kept Live s e (E (finished a)) qs o k)))) }; on = λ z. z; all = λ z. z }
  step_test {A} {E} {e} {s} false d a u v l i g o = record { moves = true; so = by_answer u (g refl); on = λ z. refl; all = λ z. refl }
    where
      by_answer : (x : Result (Step A × State S) Fault) → Backed m Live E true e s x v → Backed m Live E true e s x (λ r. cond (d r) (Ok (finished a, r)) (v r))
      by_answer (Err z) k = record { so = tt }
      by_answer (Ok x) k = record { so = (k.so.0, k.so.1, λ qs h z. let n = k.so.2 qs h z in (n.0, ap (λ z. cond z (Ok (finished a, list_at m Live s (k.so.0.back qs))) (v (list_at m Live s (k.so.0.back qs)))) (i (k.so.0.back qs) (k.so.0.hands qs h) n.0) ∙ n.1)) }

module _ {S : Type 0} {m : Stream S} {Live : Pairing m} {modular : Bool} (w : Paired m Live modular) where
  -- ---- tokens

  pub live_past : {s : State S} → Here m Live s → Live.live (past m s).source
  live_past {s} j = w.order.live_after s.source j.live

  abbrev pub token : {s : State S} → Here m Live s → Path m Live s (past m s)
  token {s} j = record {
    from = j.live;
    live = live_past j;
    back = λ qs. j.place ∷ qs;
    front = j.place ∷ [];
    grown = λ qs. refl;
    hands = λ qs h. w.fewer 0 (j.place ∷ qs) s.source j.live (w.token 0 j.place qs j.shown s.source j.live j.seen h);
    took = 1;
    ahead = λ n qs h. subst (λ (i : ℕ). Live.hands i (j.place ∷ qs) s.source) (omega arith) (w.token n j.place qs j.shown s.source j.live j.seen h);
    none = λ i. absurd (no_none i);
    single = λ i. (j.place, λ qs. refl);
    longer = λ qs. omega arith;
    opens = λ qs o. j.fine;
  }

  pub took_token : {s : State S} (j : Here m Live s) → Took m Live (token j)
  took_token j = record { place = j.place; shown = j.shown; seen = j.seen; starts = λ qs h. (qs, refl) }

  pub past_is : {s : State S} (j : Here m Live s) (qs : List PlacedToken) → past lm (list_at m Live s (j.place ∷ qs)) ≡ list_at m Live (past m s) qs
  past_is {s} j qs = ap (λ (n : ℕ). on s.commas n qs) (sym (w.order.ends_at s.source j.place j.shown j.live j.seen))

  pub shown_good : {s : State S} (j : Here m Live s) (e : ℕ) (qs : List PlacedToken) → Live.hands 0 qs (past m s).source → Good m Live e s (j.place ∷ qs)
  shown_good {s} j e qs h = let z = w.shows j.place qs j.shown s.source j.live j.seen h in (λ o. z.0, λ o. z.1)

  -- behind a token that is taken
  pub back_past : {A : Type 0} {E : A → ℕ} {e : ℕ} {b : Bool} {s : State S} (j : Here m Live s) (x : Result (A × State S) Fault) (f : State Input → State Input → Result (A × State Input) Fault)
      → Backed m Live E b closed_end (past m s) x (λ q. f (was m Live (token j) q) q) → Backed m Live E true e s x (λ r. f r (past lm r))
  back_past j (Err d) f h = record { so = tt }
  back_past {e = e} {s = s} j (Ok x) f h = record { so = (join (token j) h.so.0, λ i. (omega arith, λ qs. j.fine), λ qs o a. (shown_good j e (h.so.0.back qs) (h.so.0.hands qs o), ap (λ z. f (list_at m Live s (j.place ∷ h.so.0.back qs)) z) (past_is j (h.so.0.back qs)) ∙ (h.so.2 qs o a).1)) }

  -- where it was taken just now, the list behind it is the one at hand
  pub back_past_again : {A : Type 0} {E : A → ℕ} {e : ℕ} {b : Bool} {s : State S} (j : Here m Live s) (x : Result (A × State S) Fault) (f : State Input → State Input → Result (A × State Input) Fault)
      → Backed m Live E b e (past m s) x (λ q. f q q) → Backed m Live E b e (past m s) x (λ q. f q (past lm (was m Live (token j) q)))
  back_past_again {s = s} j x f h = back_same x (λ q. f q q) (λ q. f q (past lm (was m Live (token j) q))) (λ qs o. ap (λ z. f (list_at m Live (past m s) qs) z) (past_is j qs)) h

  pub back_took : {A : Type 0} {E : A → ℕ} {e : ℕ} {s : State S} (j : Here m Live s) (a : A) (y : State Input → Result (A × State Input) Fault) → ((qs : List PlacedToken) → y (list_at m Live s (j.place ∷ qs)) ≡ Ok (a, past lm (list_at m Live s (j.place ∷ qs)))) → Backed m Live E true e s (Ok (a, past m s)) y
  back_took {e = e} j a y i = record { so = (token j, λ o. (omega arith, λ qs. j.fine), λ qs h g. (shown_good j e qs h, i qs ∙ ap (λ z. Ok (a, z)) (past_is j qs))) }

  -- ---- a test of the source, and of the list

  pub agrees : {A : Type 0} (B : List PlacedToken → A) → Blind B → (s : State S) → Live.live s.source → (qs : List PlacedToken) → Live.hands 0 qs s.source → B qs ≡ B (m.seen s.source)
  agrees B f s l qs h = w.one B f qs s.source l h

  pub agrees_two : {A : Type 0} (B : List PlacedToken → A) → BlindTwo B → (s : State S) → Live.live s.source → (qs : List PlacedToken) → Live.hands 1 qs s.source → B qs ≡ B (m.seen s.source)
  agrees_two B f s l qs h = w.two B f qs s.source l h

  -- where no slash comes, the list's first token is the source's
  pub agrees_plain : {A : Type 0} (B : List PlacedToken → A) → ((p : PlacedToken) (l v : List PlacedToken) → B (p ∷ l) ≡ B (p ∷ v)) → (s : State S) → is_slash (kind_of (m.seen s.source)) ≡ false → Live.live s.source → (qs : List PlacedToken) → Live.hands 0 qs s.source → B qs ≡ B (m.seen s.source)
  agrees_plain B f s n l qs h = w.same B f qs s.source l n h

  least : (i d : ℕ) (qs : List PlacedToken) (s : State S) → Live.live s.source → Live.hands (d + i) qs s.source → Live.hands i qs s.source
  least i zero qs s l h = subst (λ (z : ℕ). Live.hands z qs s.source) (omega arith) h
  least i (suc d) qs s l h = least i d qs s l (w.fewer (d + i) qs s.source l (subst (λ (z : ℕ). Live.hands z qs s.source) (omega arith) h))

  left_over : (i n : ℕ) → i ≤ n → (d : ℕ) × (d + i ≡ n)
  left_over zero n e = (n, omega arith)
  left_over (suc i) zero e = absurd (omega (arith, e))
  left_over (suc i) (suc n) e = let z = left_over i n (omega (arith, e)) in (z.0, omega (arith, z.1))

  -- as many as were taken
  pub hands_more : {s t : State S} (u : Path m Live s t) (i : ℕ) → i ≤ u.took → (qs : List PlacedToken) → Live.hands 0 qs t.source → Live.hands i (u.back qs) s.source
  hands_more {s} u i e qs h = let z = left_over i u.took e in least i z.0 (u.back qs) s u.from (subst (λ (n : ℕ). Live.hands n (u.back qs) s.source) (omega (arith, z.1)) (u.ahead 0 qs h))

  -- a token of a kind
  pub at_hand : (j : ℕ) → Plain j → (s : State S) → Live.live s.source → (qs : List PlacedToken) → Live.hands 0 qs s.source → at lm j (list_at m Live s qs) ≡ at m j s
  at_hand j e s l qs h = agrees (λ z. eqb (kind_of z) j) (λ p q l v. e.0 ∙ sym e.1, λ p q l v. e.0 ∙ sym e.2, λ p l v. refl) s l qs h

  -- the list's answer, in other words, where tokens are taken
  pub back_same_two : {A : Type 0} {E : A → ℕ} {e : ℕ} {s : State S} (x : Result (A × State S) Fault) (y v : State Input → Result (A × State Input) Fault) → ((qs : List PlacedToken) → Live.hands 1 qs s.source → v (list_at m Live s qs) ≡ y (list_at m Live s qs)) → Backed m Live E true e s x y → Backed m Live E true e s x v
  back_same_two (Ok x) y v i h = record { so = (h.so.0, h.so.1, λ qs g z. let k = h.so.2 qs g z in (k.0, i (h.so.0.back qs) (hands_more h.so.0 1 (h.so.1 refl).0 qs g) ∙ k.1)) }
  back_same_two (Err d) y v e h = record { so = tt }

  pub back_test_two : {A : Type 0} {E : A → ℕ} {e : ℕ} {s : State S} (c : Bool) (d : State Input → Bool) (x u : Result (A × State S) Fault) (y v : State Input → Result (A × State Input) Fault)
      → ((qs : List PlacedToken) → Live.hands 1 qs s.source → d (list_at m Live s qs) ≡ c) → (c ≡ true → Backed m Live E true e s x y) → (c ≡ false → Backed m Live E true e s u v) → Backed m Live E true e s (cond c x u) (λ r. cond (d r) (y r) (v r))
  back_test_two {s = s} true d x u y v e f g = back_same_two x y (λ r. cond (d r) (y r) (v r)) (λ qs h. ap (λ z. cond z (y (list_at m Live s qs)) (v (list_at m Live s qs))) (e qs h)) (f refl)
  back_test_two {s = s} false d x u y v e f g = back_same_two u v (λ r. cond (d r) (y r) (v r)) (λ qs h. ap (λ z. cond z (y (list_at m Live s qs)) (v (list_at m Live s qs))) (e qs h)) (g refl)

  -- the token behind the one that comes
  pub here_second : (B : List PlacedToken → Bool) → (s : State S) → Here m Live s → ((p : PlacedToken) → B (p ∷ []) ≡ false) → ((p q : PlacedToken) (l : List PlacedToken) → B (p ∷ kinded error_kind q ∷ l) ≡ false) → B (m.seen s.source) ≡ true → Here m Live (past m s)
  here_second B s j a b e = by_seen (m.seen (m.after s.source)) refl (sym (ap B (j.seen ∙ ap (λ z. j.place ∷ z) (w.order.behind s.source j.place j.shown j.live j.seen))) ∙ e)
    where
      by_seen : (v : List PlacedToken) → m.seen (m.after s.source) ≡ v → B (j.place ∷ two v) ≡ true → Here m Live (past m s)
      by_seen [] i o = absurd (true≢false (sym o ∙ a j.place))
      by_seen (q ∷ v) i o = record { live = live_past j; place = q; shown = v; seen = i; fine = by_test (eqb q.spot.token.kind error_kind) refl }
        where
          by_test : (t : Bool) → eqb q.spot.token.kind error_kind ≡ t → eqb q.spot.token.kind error_kind ≡ false
          by_test false z = z
          by_test true z = absurd (true≢false (sym o ∙ (ap (λ (k : ℕ). B (j.place ∷ kinded k q ∷ one v)) (eqb-true q.spot.token.kind error_kind z) ∙ b j.place q (one v))))

  pub here_by : (B : List PlacedToken → Bool) → Firm B → (s : State S) → Live.live s.source → B (m.seen s.source) ≡ true → Here m Live s
  here_by B f s l e = by_seen (m.seen s.source) refl
    where
      by_seen : (v : List PlacedToken) → m.seen s.source ≡ v → Here m Live s
      by_seen [] i = absurd (true≢false (sym e ∙ (ap B i ∙ f.0)))
      by_seen (p ∷ v) i = record { live = l; place = p; shown = v; seen = i; fine = no_error B f p v (sym (ap B i) ∙ e) }

  pub here_at : (j : ℕ) → Plain j → eqb error_kind j ≡ false → (s : State S) → Live.live s.source → at m j s ≡ true → Here m Live s
  here_at j e d s l y = here_by (λ z. eqb (kind_of z) j) (e.3, λ p v. d) s l y

  pub back_if : {A : Type 0} {E : A → ℕ} {e : ℕ} {b : Bool} {s : State S} (B : List PlacedToken → Bool) → Blind B → Live.live s.source → (x u : Result (A × State S) Fault) (y v : State Input → Result (A × State Input) Fault)
      → (B (m.seen s.source) ≡ true → Backed m Live E b e s x y) → Backed m Live E b e s u v → Backed m Live E b e s (cond (B (m.seen s.source)) x u) (λ r. cond (B r.source.places) (y r) (v r))
  back_if {s = s} B f l x u y v g n = back_test (B (m.seen s.source)) (λ r. B r.source.places) x u y v (λ qs h. agrees B f s l qs h) g (λ i. n)

  -- a test of two tokens, of which one is taken either way
  pub back_two : {A : Type 0} {E : A → ℕ} {e : ℕ} {s : State S} (B : List PlacedToken → Bool) → BlindTwo B → Live.live s.source → (x u : Result (A × State S) Fault) (y v : State Input → Result (A × State Input) Fault)
      → (B (m.seen s.source) ≡ true → Backed m Live E true e s x y) → Backed m Live E true e s u v → Backed m Live E true e s (cond (B (m.seen s.source)) x u) (λ r. cond (B r.source.places) (y r) (v r))
  back_two {s = s} B f l x u y v g n = back_test_two (B (m.seen s.source)) (λ r. B r.source.places) x u y v (λ qs h. agrees_two B f s l qs h) g (λ i. n)

  pub back_at : {A : Type 0} {E : A → ℕ} {e : ℕ} {b : Bool} {s : State S} (j : ℕ) → Plain j → eqb error_kind j ≡ false → Live.live s.source → (x u : Result (A × State S) Fault) (y v : State Input → Result (A × State Input) Fault)
      → (Here m Live s → Backed m Live E b e s x y) → Backed m Live E b e s u v → Backed m Live E b e s (cond (at m j s) x u) (λ r. cond (at lm j r) (y r) (v r))
  back_at {s = s} j e d l x u y v g n = back_test (at m j s) (λ r. at lm j r) x u y v (λ qs h. at_hand j e s l qs h) (λ i. g (here_at j e d s l i)) (λ i. n)

  -- ---- a token of a kind

  back_taken : {A : Type 0} {E : A → ℕ} {e : ℕ} {b : Bool} {s : State S} (p : Fault) (q : State Input → Fault) (c : Bool) (d : State Input → Bool) → ((qs : List PlacedToken) → Live.hands 0 qs s.source → d (list_at m Live s qs) ≡ c) → (c ≡ true → Here m Live s)
      → (g : State S → Result (A × State S) Fault) (f : State Input → State Input → Result (A × State Input) Fault)
      → ((j : Here m Live s) → Backed m Live E b closed_end (past m s) (g (past m s)) (λ q. f (was m Live (token j) q) q)) → Backed m Live E true e s (cond c (Ok (past m s)) (Err p) >>= g) (λ r. cond (d r) (Ok (past lm r)) (Err (q r)) >>= f r)
  back_taken {s = s} p q true d z i g f n = back_same (g (past m s)) (λ r. f r (past lm r)) (λ r. cond (d r) (Ok (past lm r)) (Err (q r)) >>= f r)
      (λ qs h. ap (λ z. cond z (Ok (past lm (list_at m Live s qs))) (Err (q (list_at m Live s qs))) >>= f (list_at m Live s qs)) (z qs h)) (back_past (i refl) (g (past m s)) f (n (i refl)))
  back_taken p q false d z i g f n = record { so = tt }

  pub back_eat : {A : Type 0} {E : A → ℕ} {e : ℕ} {b : Bool} {s : State S} (j : ℕ) → Plain j → eqb error_kind j ≡ false → Live.live s.source → (g : State S → Result (A × State S) Fault) (f : State Input → State Input → Result (A × State Input) Fault)
      → ((i : Here m Live s) → Backed m Live E b closed_end (past m s) (g (past m s)) (λ q. f (was m Live (token i) q) q)) → Backed m Live E true e s (eat m j s >>= g) (λ r. eat lm j r >>= f r)
  unfolding eat
  back_eat {s = s} j e d l g f n = back_taken _ (λ r. Unexpected (bound lm r)) (at m j s) (λ r. at lm j r) (λ qs h. at_hand j e s l qs h) (λ i. here_at j e d s l i) g f n

  word_test : (j : ℕ) (x : Context) → Plain j → (s : State S) → Live.live s.source → (qs : List PlacedToken) → Live.hands 0 qs s.source → (at lm j (list_at m Live s qs) && not (barred x (input lm (list_at m Live s qs)))) ≡ (at m j s && not (barred x (input m s)))
  word_test j x e s l qs h = agrees (λ z. at lm j (on [] 0 z) && not (barred x (input lm (on [] 0 z)))) (
    λ p q l v. ap (λ b. b && not (barred x (input lm (on [] 0 (regexp p ∷ l))))) e.0 ∙ sym (ap (λ b. b && not (barred x (input lm (on [] 0 (slash true p q ∷ v))))) e.1),
    λ p q l v. ap (λ b. b && not (barred x (input lm (on [] 0 (regexp p ∷ l))))) e.0 ∙ sym (ap (λ b. b && not (barred x (input lm (on [] 0 (slash false p q ∷ v))))) e.2),
    λ p l v. refl,
  ) s l qs h

  pub back_word : {A : Type 0} {E : A → ℕ} {e : ℕ} {b : Bool} {s : State S} (c : Code) (j : ℕ) → Plain j → eqb error_kind j ≡ false → Live.live s.source → (g : State S → Result (A × State S) Fault) (f : State Input → State Input → Result (A × State Input) Fault)
      → ((i : Here m Live s) → Backed m Live E b closed_end (past m s) (g (past m s)) (λ q. f (was m Live (token i) q) q)) → Backed m Live E true e s (eat_word m c j s >>= g) (λ r. eat_word lm c j r >>= f r)
  unfolding eat_word
  back_word {s = s} c j e d l g f n = back_taken _ (λ r. Unexpected (bound lm r)) (at m j s && not (barred c.context (input m s))) (λ r. at lm j r && not (barred c.context (input lm r))) (λ qs h. word_test j c.context e s l qs h)
      (λ i. here_at j e d s l (and_first (at m j s) (not (barred c.context (input m s))) i)) g f n

  -- a word that is any
  pub back_own : {A : Type 0} {E : A → ℕ} {e : ℕ} {b : Bool} {s : State S} (c : Code) (j : Here m Live s) (g : State S → Result (A × State S) Fault) (f : State Input → State Input → Result (A × State Input) Fault)
      → Backed m Live E b closed_end (past m s) (g (past m s)) (λ q. f (was m Live (token j) q) q) → Backed m Live E true e s (eat_word m c (kind (input m s)) s >>= g) (λ r. eat_word lm c (kind (input lm r)) r >>= f r)
  unfolding eat_word
  back_own {A} {E} {e} {b} {s} c j g f n = by_test (own (m.seen s.source)) (ap own (sym j.seen))
    where
      own : List PlacedToken → Bool
      own z = at lm (kind (input lm (on [] 0 z))) (on [] 0 z) && not (barred c.context (input lm (on [] 0 z)))

      by_answer : (x : Result (A × State S) Fault) → own (j.place ∷ j.shown) ≡ true → Backed m Live E b closed_end (past m s) x (λ q. f (was m Live (token j) q) q) → Backed m Live E true e s x (λ r. cond (own r.source.places) (Ok (past lm r)) (unexpected lm r) >>= f r)
      by_answer (Err d) i k = record { so = tt }
      by_answer (Ok x) i k = record {
        so = (
          join (token j) k.so.0,
          λ o. (omega arith, λ qs. j.fine),
          λ qs o a. (
            shown_good j e (k.so.0.back qs) (k.so.0.hands qs o),
            ap (λ z. cond z (Ok (past lm (list_at m Live s (j.place ∷ k.so.0.back qs)))) (unexpected lm (list_at m Live s (j.place ∷ k.so.0.back qs))) >>= f (list_at m Live s (j.place ∷ k.so.0.back qs))) i
                ∙ (ap (λ z. f (list_at m Live s (j.place ∷ k.so.0.back qs)) z) (past_is j (k.so.0.back qs)) ∙ (k.so.2 qs o a).1),
          ),
        );
      }

      by_test : (t : Bool) → own (j.place ∷ j.shown) ≡ t → Backed m Live E true e s (cond t (Ok (past m s)) (unexpected m s) >>= g) (λ r. cond (own r.source.places) (Ok (past lm r)) (unexpected lm r) >>= f r)
      by_test false i = record { so = tt }
      by_test true i = by_answer (g (past m s)) i n

  -- the same, where it was taken just now
  pub back_own_again : {A : Type 0} {E : A → ℕ} {e : ℕ} {b : Bool} {s : State S} (c : Code) (j : Here m Live s) (g : State S → Result (A × State S) Fault) (f : State Input → State Input → Result (A × State Input) Fault)
      → Backed m Live E b e (past m s) (g (past m s)) (λ q. f q q) → Backed m Live E b e (past m s) (eat_word m c (kind (input m s)) s >>= g) (λ q. eat_word lm c (kind (input lm (was m Live (token j) q))) (was m Live (token j) q) >>= f q)
  unfolding eat_word
  back_own_again {A} {E} {e} {b} {s} c j g f n = by_test (own (m.seen s.source)) (ap own (sym j.seen))
    where
      own : List PlacedToken → Bool
      own z = at lm (kind (input lm (on [] 0 z))) (on [] 0 z) && not (barred c.context (input lm (on [] 0 z)))

      by_test : (t : Bool) → own (j.place ∷ j.shown) ≡ t → Backed m Live E b e (past m s) (cond t (Ok (past m s)) (unexpected m s) >>= g) (λ q. cond (own (j.place ∷ q.source.places)) (Ok (past lm (was m Live (token j) q))) (unexpected lm (was m Live (token j) q)) >>= f q)
      by_test false i = record { so = tt }
      by_test true i = back_same (g (past m s)) (λ q. f q q) (λ q. cond (own (j.place ∷ q.source.places)) (Ok (past lm (was m Live (token j) q))) (unexpected lm (was m Live (token j) q)) >>= f q)
          (λ qs h. let q = list_at m Live (past m s) qs in ap (λ z. cond z (Ok (past lm (was m Live (token j) q))) (unexpected lm (was m Live (token j) q)) >>= f q) i ∙ ap (λ z. f q z) (past_is j qs)) n

  -- a name, and any word
  back_named : {A B : Type 0} {E : A → ℕ} {e : ℕ} {b : Bool} {s : State S} (p : Fault) (q : State Input → Fault) (c : Bool) (d : State Input → Bool) → ((qs : List PlacedToken) → Live.hands 0 qs s.source → d (list_at m Live s qs) ≡ c) → (c ≡ true → Here m Live s) → (v : List PlacedToken → B) → ((p : PlacedToken) (l u : List PlacedToken) → v (p ∷ l) ≡ v (p ∷ u))
      → (g : B × State S → Result (A × State S) Fault) (f : State Input → B × State Input → Result (A × State Input) Fault)
      → ((n : B) (j : Here m Live s) → Backed m Live E b closed_end (past m s) (g (n, past m s)) (λ q. f (was m Live (token j) q) (n, q)))
      → Backed m Live E true e s (cond c (Ok (v (m.seen s.source), past m s)) (Err p) >>= g) (λ r. cond (d r) (Ok (v r.source.places, past lm r)) (Err (q r)) >>= f r)
  back_named p q false d z i v o g f n = record { so = tt }
  back_named {A} {B} {E} {e} {b} {s} p q0 true d a1 i v o g f n = by_answer (i refl) (g (v (m.seen s.source), past m s)) (n (v (m.seen s.source)) (i refl))
    where
      by_answer : (j : Here m Live s) (x : Result (A × State S) Fault) → Backed m Live E b closed_end (past m s) x (λ q. f (was m Live (token j) q) (v (m.seen s.source), q)) → Backed m Live E true e s x (λ r. cond (d r) (Ok (v r.source.places, past lm r)) (Err (q0 r)) >>= f r)
      by_answer j (Err z) k = record { so = tt }
      by_answer j (Ok x) k = record {
        so = (
          join (token j) k.so.0,
          λ a. (omega arith, λ qs. j.fine),
          λ qs a z1. let l = k.so.0.back qs in let r = list_at m Live s (j.place ∷ l) in (
            shown_good j e l (k.so.0.hands qs a),
            ap (λ z. cond z (Ok (v (j.place ∷ l), past lm r)) (Err (q0 r)) >>= f r) (a1 (j.place ∷ l) ((token j).hands l (k.so.0.hands qs a)))
                ∙ (ap (λ (z : B). f r (z, past lm r)) (o j.place l j.shown ∙ ap v (sym j.seen)) ∙ (ap (λ z. f r (v (m.seen s.source), z)) (past_is j l) ∙ (k.so.2 qs a z1).1)),
          ),
        );
      }

  pub back_name : {A : Type 0} {E : A → ℕ} {e : ℕ} {b : Bool} {s : State S} (c : Code) → Live.live s.source → (g : List ℕ × State S → Result (A × State S) Fault) (f : State Input → List ℕ × State Input → Result (A × State Input) Fault)
      → ((n : List ℕ) (j : Here m Live s) → Backed m Live E b closed_end (past m s) (g (n, past m s)) (λ q. f (was m Live (token j) q) (n, q))) → Backed m Live E true e s (name m c s >>= g) (λ r. name lm c r >>= f r)
  unfolding name
  back_name {s = s} c l g f n = back_named _ (λ r. Unexpected (bound lm r)) (is_name m c s) (λ r. is_name lm c r) (λ qs h. agrees (λ z. is_name lm c (on [] 0 z)) (λ p q l v. refl, λ p q l v. refl, λ p l v. refl) s l qs h) (λ i. here_by (λ z. is_name lm c (on [] 0 z)) (refl, λ p v. refl) s l i)
      (λ z. text (record { last = 0; places = z })) (λ p l u. refl) g f n

  pub back_any : {A : Type 0} {E : A → ℕ} {e : ℕ} {b : Bool} {s : State S} → Live.live s.source → (g : List ℕ × State S → Result (A × State S) Fault) (f : State Input → List ℕ × State Input → Result (A × State Input) Fault)
      → ((n : List ℕ) (j : Here m Live s) → Backed m Live E b closed_end (past m s) (g (n, past m s)) (λ q. f (was m Live (token j) q) (n, q))) → Backed m Live E true e s (any_word m s >>= g) (λ r. any_word lm r >>= f r)
  unfolding any_word
  back_any {s = s} l g f n = back_named _ (λ r. Unexpected (bound lm r)) (is_word (kind (input m s))) (λ r. is_word (kind (input lm r))) (λ qs h. agrees (λ z. is_word (kind_of z)) (λ p q l v. refl, λ p q l v. refl, λ p l v. refl) s l qs h) (λ i. here_by (λ z. is_word (kind_of z)) (refl, λ p v. refl) s l i)
      (λ z. text (record { last = 0; places = z })) (λ p l u. refl) g f n

  -- the name that was taken just now, read again
  pub back_again : {A : Type 0} {E : A → ℕ} {e : ℕ} {b : Bool} {s : State S} (c : Code) (j : Here m Live s) (g : List ℕ × State S → Result (A × State S) Fault) (f : State Input → List ℕ × State Input → Result (A × State Input) Fault)
      → ((n : List ℕ) → Backed m Live E b e (past m s) (g (n, past m s)) (λ q. f q (n, q))) → Backed m Live E b e (past m s) (name m c s >>= g) (λ q. name lm c (was m Live (token j) q) >>= f q)
  unfolding name
  back_again {A} {E} {e} {b} {s} c j g f n = by_test (is_name m c s) (ap named (sym j.seen))
    where
      named : List PlacedToken → Bool
      named z = is_name lm c (on [] 0 z)

      words : List PlacedToken → List ℕ
      words z = text (record { last = 0; places = z })

      by_answer : (x : Result (A × State S) Fault) → named (j.place ∷ j.shown) ≡ true → Backed m Live E b e (past m s) x (λ q. f q (words (m.seen s.source), q))
          → Backed m Live E b e (past m s) x (λ q. cond (named (j.place ∷ q.source.places)) (Ok (words (j.place ∷ q.source.places), past lm (was m Live (token j) q))) (unexpected lm (was m Live (token j) q)) >>= f q)
      by_answer x i k = back_same x (λ q. f q (words (m.seen s.source), q)) (λ q. cond (named (j.place ∷ q.source.places)) (Ok (words (j.place ∷ q.source.places), past lm (was m Live (token j) q))) (unexpected lm (was m Live (token j) q)) >>= f q)
          (λ qs h. let q = list_at m Live (past m s) qs in ap (λ z. cond z (Ok (words (j.place ∷ qs), past lm (was m Live (token j) q))) (unexpected lm (was m Live (token j) q)) >>= f q) i ∙ (ap (λ z. f q (words (j.place ∷ qs), z)) (past_is j qs) ∙ ap (λ z. f q (z, q)) (ap words (sym j.seen)))) k

      by_test : (t : Bool) → named (j.place ∷ j.shown) ≡ t → Backed m Live E b e (past m s) (cond t (Ok (text (input m s), past m s)) (unexpected m s) >>= g) (λ q. cond (named (j.place ∷ q.source.places)) (Ok (words (j.place ∷ q.source.places), past lm (was m Live (token j) q))) (unexpected lm (was m Live (token j) q)) >>= f q)
      by_test false i = record { so = tt }
      by_test true i = by_answer (g (text (input m s), past m s)) i (n (text (input m s)))

  pub back_again_of : {A : Type 0} {E : A → ℕ} {e : ℕ} {b : Bool} {s : State S} (a : ℕ) (i : State Input → ℕ) (c : Code) (j : Here m Live s) (g : List ℕ × State S → Result (A × State S) Fault) (f : State Input → List ℕ × State Input → Result (A × State Input) Fault)
      → ((n : List ℕ) → Backed m Live E b e (past m s) (g (n, past m s)) (λ q. f q (n, q))) → Backed m Live E b e (past m s) (placed a (name m c s) >>= g) (λ q. placed (i q) (name lm c (was m Live (token j) q)) >>= f q)
  back_again_of {s = s} a i c j g f n = back_placed a i (name m c s) (λ q. name lm c (was m Live (token j) q)) g f (back_again c j g f n)

  -- ---- tests of tokens that stand further behind

  hands_from : {s t : State S} (u : Path m Live s t) (i n : ℕ) → i ≤ u.took + n → (qs : List PlacedToken) → Live.hands n qs t.source → Live.hands i (u.back qs) s.source
  hands_from {s} u i n e qs h = let z = left_over i (u.took + n) e in least i z.0 (u.back qs) s u.from (subst (λ (j : ℕ). Live.hands j (u.back qs) s.source) (sym z.1) (u.ahead n qs h))

  pub bides_all : {A : Type 0} {i : ℕ} {Q : List PlacedToken → Type 0} {E : A → ℕ} {e : ℕ} {b : Bool} {s : State S} (x : Result (A × State S) Fault) (y : State Input → Result (A × State Input) Fault) → ((qs : List PlacedToken) → Live.hands 0 qs s.source → Q qs) → Backed m Live E b e s x y → Bides m Live i Q E b e s x y
  bides_all (Err d) y q h = record { so = tt }
  bides_all (Ok x) y q h = record { so = (h.so.0, h.so.1, λ qs a g. let z = h.so.2 qs a g in (z.0, z.1, inr (q (h.so.0.back qs) (h.so.0.hands qs a)))) }

  pub bides_one : {A : Type 0} {Q : List PlacedToken → Type 0} {E : A → ℕ} {e : ℕ} {s : State S} (x : Result (A × State S) Fault) (y : State Input → Result (A × State Input) Fault) → Backed m Live E true e s x y → Bides m Live 1 Q E true e s x y
  bides_one (Err d) y h = record { so = tt }
  bides_one (Ok x) y h = record { so = (h.so.0, h.so.1, λ qs a g. let z = h.so.2 qs a g in (z.0, z.1, inl (hands_more h.so.0 1 (h.so.1 refl).0 qs a))) }

  pub bides_weak : {A : Type 0} {i : ℕ} {Q : List PlacedToken → Type 0} {E : A → ℕ} {e : ℕ} {b : Bool} {s : State S} (x : Result (A × State S) Fault) (y : State Input → Result (A × State Input) Fault) → Bides m Live i Q E b e s x y → Bides m Live i Q E false e s x y
  bides_weak (Err d) y h = record { so = tt }
  bides_weak (Ok x) y h = record { so = (h.so.0, λ o. absurd (true≢false (sym o)), h.so.2) }

  pub bides_same : {A : Type 0} {i : ℕ} {Q : List PlacedToken → Type 0} {E : A → ℕ} {e : ℕ} {b : Bool} {s : State S} (x : Result (A × State S) Fault) (y v : State Input → Result (A × State Input) Fault) → ((qs : List PlacedToken) → Live.hands 0 qs s.source → (Live.hands i qs s.source ⊎ Q qs) → v (list_at m Live s qs) ≡ y (list_at m Live s qs)) → Bides m Live i Q E b e s x y → Bides m Live i Q E b e s x v
  bides_same (Err d) y v f h = record { so = tt }
  bides_same (Ok x) y v f h = record { so = (h.so.0, h.so.1, λ qs a g. let z = h.so.2 qs a g in (z.0, f (h.so.0.back qs) (h.so.0.hands qs a) z.2 ∙ z.1, z.2)) }

  pub bides_test : {A : Type 0} {i : ℕ} {Q : List PlacedToken → Type 0} {E : A → ℕ} {e : ℕ} {b : Bool} {s : State S} (c : Bool) (d : State Input → Bool) (x u : Result (A × State S) Fault) (y v : State Input → Result (A × State Input) Fault)
      → ((qs : List PlacedToken) → Live.hands 0 qs s.source → (Live.hands i qs s.source ⊎ Q qs) → d (list_at m Live s qs) ≡ c) → (c ≡ true → Bides m Live i Q E b e s x y) → (c ≡ false → Bides m Live i Q E b e s u v) → Bides m Live i Q E b e s (cond c x u) (λ r. cond (d r) (y r) (v r))
  bides_test {s = s} true d x u y v e f g = bides_same x y (λ r. cond (d r) (y r) (v r)) (λ qs h o. ap (λ z. cond z (y (list_at m Live s qs)) (v (list_at m Live s qs))) (e qs h o)) (f refl)
  bides_test {s = s} false d x u y v e f g = bides_same u v (λ r. cond (d r) (y r) (v r)) (λ qs h o. ap (λ z. cond z (y (list_at m Live s qs)) (v (list_at m Live s qs))) (e qs h o)) (g refl)

  pub bides_back : {A : Type 0} {i : ℕ} {Q : List PlacedToken → Type 0} {E : A → ℕ} {e : ℕ} {b : Bool} {s : State S} (x : Result (A × State S) Fault) (y : State Input → Result (A × State Input) Fault) → Bides m Live i Q E b e s x y → Backed m Live E b e s x y
  bides_back (Err d) y h = record { so = tt }
  bides_back (Ok x) y h = record { so = (h.so.0, h.so.1, λ qs a g. let z = h.so.2 qs a g in (z.0, z.1)) }

  -- of the tokens behind the first
  abbrev pub Rest : (List PlacedToken → Type 0) → State S → List PlacedToken → Type 0
  Rest Q s l = Live.hands 1 l s.source × Q (others l)

  -- one token, and another, or a fact of the list behind it
  pub bides_then : {A B : Type 0} {Q : List PlacedToken → Type 0} {E : A → ℕ} {F : B → ℕ} {e : ℕ} {d : Bool} {s : State S} (x : Result (A × State S) Fault) (y : State Input → Result (A × State Input) Fault) (g : A × State S → Result (B × State S) Fault) (f : State Input → A × State Input → Result (B × State Input) Fault)
      → Backed m Live E true e s x y → ((a : A) (t : State S) (u : Path m Live s t) → Bides m Live 1 Q F d (E a) t (g (a, t)) (λ q. f (was m Live u q) (a, q))) → Bides m Live 2 (Rest Q s) F true e s (x >>= g) (λ r. y r >>= f r)
  bides_then (Err i) y g f h n = record { so = tt }
  bides_then {A} {B} {Q} {E} {F} {e} {d} {s} (Ok x) y g f h n = behind (g x) (n x.0 x.1 h.so.0)
    where
      further : (l : List PlacedToken) → Live.hands 0 l x.1.source → (Live.hands 1 l x.1.source ⊎ Q l) → Live.hands 2 (h.so.0.back l) s.source ⊎ Rest Q s (h.so.0.back l)
      further l a (inl o) = inl (hands_from h.so.0 2 1 (omega (arith, (h.so.1 refl).0)) l o)
      further l a (inr o) = by_took h.so.0.took refl
        where
          by_took : (j : ℕ) → h.so.0.took ≡ j → Live.hands 2 (h.so.0.back l) s.source ⊎ Rest Q s (h.so.0.back l)
          by_took zero i = absurd (omega (arith, i, (h.so.1 refl).0))
          by_took (suc zero) i = inr (hands_more h.so.0 1 (omega (arith, i)) l a, subst (λ (v : List PlacedToken). Q (others v)) (sym ((h.so.0.single i).1 l)) o)
          by_took (suc (suc j)) i = inl (hands_more h.so.0 2 (omega (arith, i)) l a)

      behind : (v : Result (B × State S) Fault) → Bides m Live 1 Q F d (E x.0) x.1 v (λ q. f (was m Live h.so.0 q) (x.0, q)) → Bides m Live 2 (Rest Q s) F true e s v (λ r. y r >>= f r)
      behind (Err i) k = record { so = tt }
      behind (Ok z) k = record {
        so = (
          join h.so.0 k.so.0,
          moved_join true d h.so.0 k.so.0 h.so.1 k.so.1,
          λ qs o a. let k2 = k.so.2 qs o a in let l = k.so.0.back qs in let k1 = h.so.2 l (k.so.0.hands qs o) k2.0 in (k1.0, ap (λ v. v >>= f (list_at m Live s (h.so.0.back l))) k1.1 ∙ k2.1, further l (k.so.0.hands qs o) k2.2),
        );
      }

  -- two tokens, of which the first is taken here
  pub bides_past : {A : Type 0} {Q : List PlacedToken → Type 0} {E : A → ℕ} {e : ℕ} {s : State S} (j : Here m Live s) (x : Result (A × State S) Fault) (f : State Input → State Input → Result (A × State Input) Fault)
      → Backed m Live E true closed_end (past m s) x (λ q. f (was m Live (token j) q) q) → Bides m Live 2 Q E true e s x (λ r. f r (past lm r))
  bides_past {A} {Q} {E} {e} {s} j x f h = by_answer x (back_past j x f h) h
    where
      by_answer : (v : Result (A × State S) Fault) → Backed m Live E true e s v (λ r. f r (past lm r)) → Backed m Live E true closed_end (past m s) v (λ q. f (was m Live (token j) q) q) → Bides m Live 2 Q E true e s v (λ r. f r (past lm r))
      by_answer (Err i) b k = record { so = tt }
      by_answer (Ok z) b k = record {
        so = (
          join (token j) k.so.0,
          λ i. (omega arith, λ qs. j.fine),
          λ qs o a. (
            shown_good j e (k.so.0.back qs) (k.so.0.hands qs o),
            ap (λ z. f (list_at m Live s (j.place ∷ k.so.0.back qs)) z) (past_is j (k.so.0.back qs)) ∙ (k.so.2 qs o a).1,
            inl (hands_from (token j) 2 1 (omega arith) (k.so.0.back qs) (hands_more k.so.0 1 (k.so.1 refl).0 qs o)),
          ),
        );
      }

  -- what ends a statement: a semicolon, or what pauses
  pub bides_end : {A : Type 0} {E : A → ℕ} {i : ℕ} {b : Bool} {s : State S} {Q : List PlacedToken → Type 0} (c : Code) (e : ℕ) → Live.live s.source → (nat_le closed_end i ≡ false → Loose e)
      → (at m semicolon_kind s ≡ false → pauses c e (input m s) ≡ true → (qs : List PlacedToken) → Live.hands 0 qs s.source → Q qs) → (g : State S → Result (A × State S) Fault) (f : State Input → State Input → Result (A × State Input) Fault)
      → ((t : State S) (u : Path m Live s t) → Backed m Live E b closed_end t (g t) (λ q. f (was m Live u q) q)) → Bides m Live 1 Q E false i s (end_of m c e s >>= g) (λ r. end_of lm c e r >>= f r)
  unfolding end_of
  bides_end {A} {E} {i} {b} {s} {Q} c e l np q g f n = by_semicolon (at m semicolon_kind s) (λ i. here_at semicolon_kind (refl, refl, refl, refl) refl s l i) (λ i. q i) (λ qs h. at_hand semicolon_kind (refl, refl, refl, refl) s l qs h)
    where
      by_pause : (t : Bool) → pauses c e (input m s) ≡ t → (t ≡ true → (qs : List PlacedToken) → Live.hands 0 qs s.source → Q qs) → ((qs : List PlacedToken) → Live.hands 0 qs s.source → pauses c e (input lm (list_at m Live s qs)) ≡ t) → ((qs : List PlacedToken) → Live.hands 0 qs s.source → at lm semicolon_kind (list_at m Live s qs) ≡ false)
          → Bides m Live 1 Q E false i s (cond t (Ok s) (unexpected m s) >>= g) (λ r. cond (at lm semicolon_kind r) (Ok (past lm r)) (cond (pauses c e (input lm r)) (Ok r) (unexpected lm r)) >>= f r)
      by_pause false a k z o = record { so = tt }
      by_pause true a k z o = bides_all (g s) _ (k refl) (back_start closed_end i (g s) (λ qs y. let z = w.stops c e qs s.source l y a in (λ o. z.0 (np o), λ o. z.1)) (back_same (g s) (λ r. f (was m Live (stay l) r) r) (λ r. cond (at lm semicolon_kind r) (Ok (past lm r)) (cond (pauses c e (input lm r)) (Ok r) (unexpected lm r)) >>= f r)
          (λ qs h. let r = list_at m Live s qs in ap (λ z. cond z (Ok (past lm r)) (cond (pauses c e (input lm r)) (Ok r) (unexpected lm r)) >>= f r) (o qs h) ∙ ap (λ z. cond z (Ok r) (unexpected lm r) >>= f r) (z qs h)) (back_weak (g s) (n s (stay l)))))

      by_semicolon : (t : Bool) → (t ≡ true → Here m Live s) → (t ≡ false → pauses c e (input m s) ≡ true → (qs : List PlacedToken) → Live.hands 0 qs s.source → Q qs) → ((qs : List PlacedToken) → Live.hands 0 qs s.source → at lm semicolon_kind (list_at m Live s qs) ≡ t)
          → Bides m Live 1 Q E false i s (cond t (Ok (past m s)) (cond (pauses c e (input m s)) (Ok s) (unexpected m s)) >>= g) (λ r. cond (at lm semicolon_kind r) (Ok (past lm r)) (cond (pauses c e (input lm r)) (Ok r) (unexpected lm r)) >>= f r)
      by_semicolon true j k z = bides_weak (g (past m s)) _ (bides_one (g (past m s)) _ (back_same (g (past m s)) (λ r. f r (past lm r)) (λ r. cond (at lm semicolon_kind r) (Ok (past lm r)) (cond (pauses c e (input lm r)) (Ok r) (unexpected lm r)) >>= f r)
          (λ qs h. let r = list_at m Live s qs in ap (λ z. cond z (Ok (past lm r)) (cond (pauses c e (input lm r)) (Ok r) (unexpected lm r)) >>= f r) (z qs h)) (back_past (j refl) (g (past m s)) f (n (past m s) (token (j refl))))))
      by_semicolon false j k z = by_pause (pauses c e (input m s)) refl (k refl) (λ qs h. w.pause c e qs s.source l h) z

  -- what ends a statement
  pub bides_stay : {A : Type 0} {i : ℕ} {Q : List PlacedToken → Type 0} {E : A → ℕ} {e : ℕ} {s : State S} (a : A) (f : State Input → A) → Live.live s.source → ((qs : List PlacedToken) → Live.hands 0 qs s.source → f (list_at m Live s qs) ≡ a) → Keeps e (E a)
      → ((qs : List PlacedToken) → Live.hands 0 qs s.source → Good m Live (E a) s qs → Q qs) → Bides m Live i Q E false e s (Ok (a, s)) (λ r. Ok (f r, r))
  bides_stay {E = E} {e = e} {s = s} a f l i c q = record { so = (stay l, λ i. absurd (true≢false (sym i)), λ qs h g. (kept Live s e (E a) qs c g, ap (λ z. Ok (z, list_at m Live s qs)) (i qs h), inr (q qs h g))) }

  pub back_end : {A : Type 0} {E : A → ℕ} {i : ℕ} {b : Bool} {s : State S} (c : Code) (e : ℕ) → Live.live s.source → (nat_le closed_end i ≡ false → Loose e) → (g : State S → Result (A × State S) Fault) (f : State Input → State Input → Result (A × State Input) Fault)
      → ((t : State S) (u : Path m Live s t) → Backed m Live E b closed_end t (g t) (λ q. f (was m Live u q) q)) → Backed m Live E false i s (end_of m c e s >>= g) (λ r. end_of lm c e r >>= f r)
  back_end {A} {E} {i} {b} {s} c e l np g f n = bides_back _ _ (bides_end {Q = λ z. Unit {0}} c e l np (λ a b qs h. tt) g f n)

  -- where a test fails after which nothing is read
  pub back_only : {A : Type 0} {E : A → ℕ} {e : ℕ} {s : State S} (p : Fault) (q : State Input → Fault) (c : Bool) (d : State Input → Bool) (a : A) (f : State Input → A) → Live.live s.source → ((qs : List PlacedToken) → Live.hands 0 qs s.source → Good m Live (E a) s qs → d (list_at m Live s qs) ≡ c) → ((qs : List PlacedToken) → Live.hands 0 qs s.source → f (list_at m Live s qs) ≡ a) → Keeps e (E a)
      → Backed m Live E false e s (cond c (Ok (a, s)) (Err p)) (λ r. cond (d r) (Ok (f r, r)) (Err (q r)))
  back_only p q false d a f l g i k = record { so = tt }
  back_only {E = E} {e = e} {s = s} p q true d a f l g i k = record { so = (stay l, λ o. absurd (true≢false (sym o)), λ qs h z. (kept Live s e (E a) qs k z, ap (λ b. cond b (Ok (f (list_at m Live s qs), list_at m Live s qs)) (Err (q (list_at m Live s qs)))) (g qs h z) ∙ ap (λ v. Ok (v, list_at m Live s qs)) (i qs h))) }

  -- ---- loops

  module _ {A : Type 0} (P : A → Type 0) (E : Step A → ℕ) (d : Bool) (start : State S) (f : State Input → A → Read Input (Step A)) (g : A → Read S (Step A)) (h : (x : A) (s : State S) (p : Path m Live start s) → P x → Steps m Live E d (E (go_on x)) s (g x s) (λ r. f (was m Live p r) x r)) (keeps : (x : A) (s : State S) → P x → Hands m Live P (g x s)) where
    -- so many turns of the source, and enough of the list
    abbrev RunsBy : ℕ → State S → Result (A × State S) Fault → (ℕ → State Input → Result (A × State Input) Fault) → Type 0
    RunsBy e s (Ok x) y = (u : Path m Live s x.1) × Moved m Live d u × ((qs : List PlacedToken) → Live.hands 0 qs x.1.source → Good m Live (E (finished x.0)) x.1 qs → Good m Live e s (u.back qs) × ((i : ℕ) → length (u.back qs) < i → y i (list_at m Live s (u.back qs)) ≡ Ok (x.0, list_at m Live x.1 qs)))
    RunsBy e s (Err i) y = Unit {0}

    -- turns over a list that a state saw at the start of the loop
    abbrev turns_of : {s : State S} → Path m Live start s → A → ℕ → State Input → Result (A × State Input) Fault
    turns_of p x i r = iterate_n (bound lm) i (f (was m Live p r)) x r

    by_guard : (j : ℕ) (x : A) (s t : State S) (p : Path m Live start s) (z : A) (k : Backed m Live E true (E (go_on x)) s (Ok (go_on z, t)) (λ r. f (was m Live p r) x r)) (b : Bool) → RunsBy (E (go_on z)) t (iterate_n (bound m) j g z t) (turns_of (join p k.so.0) z)
        → RunsBy (E (go_on x)) s (cond b (iterate_n (bound m) j g z t) (unexpected m t)) (turns_of p x)
    unfolding iterate_n
    by_guard j x s t p z k false n = tt
    by_guard j x s t p z k true n = by_rest (iterate_n (bound m) j g z t) n
      where
        by_rest : (v : Result (A × State S) Fault) → RunsBy (E (go_on z)) t v (turns_of (join p k.so.0) z) → RunsBy (E (go_on x)) s v (turns_of p x)
        by_rest (Err e) o = tt
        by_rest (Ok v) o = (join k.so.0 o.0, λ i. (omega (arith, (k.so.1 refl).0), λ qs. (k.so.1 refl).1 (o.0.back qs)), λ qs a y. ((k.so.2 (o.0.back qs) (o.0.hands qs a) (o.2 qs a y).0).0, λ i. enough qs a y i))
          where
            enough : (qs : List PlacedToken) → Live.hands 0 qs v.1.source → Good m Live (E (finished v.0)) v.1 qs → (i : ℕ) → length (k.so.0.back (o.0.back qs)) < i → turns_of p x i (list_at m Live s (k.so.0.back (o.0.back qs))) ≡ Ok (v.0, list_at m Live v.1 qs)
            enough qs a y zero e = absurd (omega (arith, e))
            enough qs a y (suc i) e = let q = o.0.back qs in let fr = f (list_at m Live start (p.back (k.so.0.back q))) in ap (λ y. y >>= next_by (bound lm) (iterate_n (bound lm) i fr) (bound lm (list_at m Live s (k.so.0.back q)))) (k.so.2 q (o.0.hands qs a) (o.2 qs a y).0).1
                ∙ (ap (λ b. cond b (iterate_n (bound lm) i fr z (list_at m Live t q)) (unexpected lm (list_at m Live t q))) (lt-ltb (length q) (length (k.so.0.back q)) (omega (arith, k.so.0.longer q, (k.so.1 refl).0)))
                ∙ (o.2 qs a y).1 i (omega (arith, e, k.so.0.longer q, (k.so.1 refl).0)))

    runs : (j : ℕ) (x : A) (s : State S) (p : Path m Live start s) → P x → RunsBy (E (go_on x)) s (iterate_n (bound m) j g x s) (turns_of p x)
    unfolding iterate_n
    runs zero x s p o = tt
    runs (suc j) x s p o = by_step (λ z t p a. runs j z t p a) (g x s) (h x s p o) (keeps x s o)
      where
        by_step : ((z : A) (t : State S) (p : Path m Live start t) → P z → RunsBy (E (go_on z)) t (iterate_n (bound m) j g z t) (turns_of p z))
            → (y : Result (Step A × State S) Fault) → Steps m Live E d (E (go_on x)) s y (λ r. f (was m Live p r) x r) → Hands m Live P y → RunsBy (E (go_on x)) s (y >>= next_by (bound m) (iterate_n (bound m) j g) (bound m s)) (turns_of p x)
        by_step n (Err e) k o = tt
        by_step n (Ok (finished z, t)) k o = (k.so.so.0, λ i. k.so.so.1 (k.all i), λ qs a y. ((k.so.so.2 qs a y).0, λ i. enough qs a y i))
          where
            enough : (qs : List PlacedToken) → Live.hands 0 qs t.source → Good m Live (E (finished z)) t qs → (i : ℕ) → length (k.so.so.0.back qs) < i → turns_of p x i (list_at m Live s (k.so.so.0.back qs)) ≡ Ok (z, list_at m Live t qs)
            enough qs a y zero e = absurd (omega (arith, e))
            enough qs a y (suc i) e = let fr = f (list_at m Live start (p.back (k.so.so.0.back qs))) in ap (λ y. y >>= next_by (bound lm) (iterate_n (bound lm) i fr) (bound lm (list_at m Live s (k.so.so.0.back qs)))) (k.so.so.2 qs a y).1
        by_step n (Ok (go_on z, t)) k o = by_guard j x s t p z (record { so = (k.so.so.0, λ i. k.so.so.1 (k.on refl), k.so.so.2) }) (nat_lt (m.bound t.source) (m.bound s.source)) (n z t (join p k.so.so.0) o.so)

    pub back_iterate_in : (x : A) → P x → Live.live start.source → Backed m Live (λ z. E (finished z)) d (E (go_on x)) start (iterate (bound m) g x start) (λ r. iterate (bound lm) (f r) x r)
    unfolding iterate
    back_iterate_in x o l = by_run (iterate_n (bound m) (suc (m.bound start.source)) g x start) (runs (suc (m.bound start.source)) x start (stay l) o)
      where
        by_run : (v : Result (A × State S) Fault) → RunsBy (E (go_on x)) start v (turns_of (stay l) x) → Backed m Live (λ z. E (finished z)) d (E (go_on x)) start v (λ r. iterate_n (bound lm) (suc (bound lm r)) (f r) x r)
        by_run (Err e) o = record { so = tt }
        by_run (Ok v) o = record { so = (o.0, o.1, λ qs a y. ((o.2 qs a y).0, (o.2 qs a y).1 (suc (length (o.0.back qs))) (omega arith))) }

  pub back_iterate : {A : Type 0} (E : Step A → ℕ) {s : State S} (d : Bool) (f : State Input → A → Read Input (Step A)) (g : A → Read S (Step A)) → ((x : A) (t : State S) (p : Path m Live s t) → Steps m Live E d (E (go_on x)) t (g x t) (λ r. f (was m Live p r) x r)) → (x : A) → Live.live s.source
      → Backed m Live (λ z. E (finished z)) d (E (go_on x)) s (iterate (bound m) g x s) (λ r. iterate (bound lm) (f r) x r)
  back_iterate {A} E {s} d f g h x l = back_iterate_in (λ (z : A). Unit {0}) E d s f g (λ x t p o. h x t p) (λ x t o. any (g x t)) x tt l
    where
      any : (y : Result (Step A × State S) Fault) → Hands m Live (λ (z : A). Unit {0}) y
      any (Ok (go_on z, r)) = record { so = tt }
      any (Ok (finished z, r)) = record { so = tt }
      any (Err e) = record { so = tt }

  -- ---- what a list says of an earlier stand

  pub lo_was : {s t : State S} (u : Path m Live s t) (qs : List PlacedToken) → Live.hands 0 qs t.source → lo (input lm (list_at m Live s (u.back qs))) ≡ lo (input m s)
  lo_was {s} u qs h = agrees (λ z. lo (record { last = m.last s.source; places = z })) (λ p q l v. refl, λ p q l v. refl, λ p l v. refl) s u.from (u.back qs) (u.hands qs h)

  pub has_was : {A : Type 0} (B : List PlacedToken → A) → ((p : PlacedToken) (l v : List PlacedToken) → B (p ∷ l) ≡ B (p ∷ v)) → {s t : State S} (u : Path m Live s t) → Took m Live u → (qs : List PlacedToken) → Live.hands 0 qs t.source → B (u.back qs) ≡ B (m.seen s.source)
  has_was B f u k qs h = ap B (k.starts qs h).1 ∙ (f k.place (k.starts qs h).0 k.shown ∙ ap B (sym k.seen))

  pub hi_was : {s t : State S} (u : Path m Live s t) → Took m Live u → (qs : List PlacedToken) → Live.hands 0 qs t.source → hi (input lm (list_at m Live s (u.back qs))) ≡ hi (input m s)
  hi_was {s} u k qs h = has_was (λ z. hi_of (m.last s.source) z) (λ p l v. refl) u k qs h

  pub first_was : {s t : State S} (u : Path m Live s t) → Took m Live u → (qs : List PlacedToken) → Live.hands 0 qs t.source → first_span (input lm (list_at m Live s (u.back qs))) ≡ first_span (input m s)
  first_was u k qs h = ap₂ (λ (a b : ℕ). span a b) (lo_was u qs h) (hi_was u k qs h)

  pub kind_was : {s t : State S} (u : Path m Live s t) → Took m Live u → (qs : List PlacedToken) → Live.hands 0 qs t.source → kind_of (u.back qs) ≡ kind_of (m.seen s.source)
  kind_was u k qs h = has_was kind_of (λ p l v. refl) u k qs h

  pub content_was : {s t : State S} (u : Path m Live s t) → Took m Live u → (qs : List PlacedToken) → Live.hands 0 qs t.source → content_of (u.back qs) ≡ content_of (m.seen s.source)
  content_was u k qs h = has_was content_of (λ p l v. refl) u k qs h

  pub text_was : {s t : State S} (u : Path m Live s t) → Took m Live u → (qs : List PlacedToken) → Live.hands 0 qs t.source → text (record { last = 0; places = u.back qs }) ≡ text (record { last = 0; places = m.seen s.source })
  text_was u k qs h = has_was (λ z. text (record { last = 0; places = z })) (λ p l v. refl) u k qs h

  pub agrees_was_two : {A : Type 0} (B : List PlacedToken → A) → BlindTwo B → {s t : State S} (u : Path m Live s t) → 1 ≤ u.took → (qs : List PlacedToken) → Live.hands 0 qs t.source → B (u.back qs) ≡ B (m.seen s.source)
  agrees_was_two B f {s} u e qs h = agrees_two B f s u.from (u.back qs) (hands_more u 1 e qs h)

  pub agrees_was_on : {A : Type 0} (B : List PlacedToken → A) → BlindTwo B → {s t : State S} (u : Path m Live s t) (qs : List PlacedToken) → Live.hands 1 qs t.source → B (u.back qs) ≡ B (m.seen s.source)
  agrees_was_on B f {s} u qs h = agrees_two B f s u.from (u.back qs) (hands_from u 1 1 (omega arith) qs h)

  pub agrees_was : {A : Type 0} (B : List PlacedToken → A) → Blind B → {s t : State S} (u : Path m Live s t) (qs : List PlacedToken) → Live.hands 0 qs t.source → B (u.back qs) ≡ B (m.seen s.source)
  agrees_was B f {s} u qs h = agrees B f s u.from (u.back qs) (u.hands qs h)

  abbrev pub since_join : {s t u : State S} → Since m Live s → Path m Live t u → Since m Live s
  since_join a b = record { back = λ qs. a.back (b.back qs); begins = λ qs. a.begins (b.back qs) }

  pub lo_since : {s : State S} (u : Since m Live s) (qs : List PlacedToken) → lo (input lm (list_at m Live s (u.back qs))) ≡ lo (input m s)
  lo_since u qs = u.begins qs

  -- two tokens ago
  abbrev pub since_two : {s : State S} → Here m Live s → Here m Live (past m s) → Since m Live s
  since_two {s} j k = record { back = λ qs. j.place ∷ k.place ∷ qs; begins = λ qs. ap (λ z. lo (record { last = m.last s.source; places = z })) (sym j.seen) }

  -- the first token is no slash, so it is the list's
  pub took_plain : {s t : State S} → Here m Live s → is_slash (kind (input m s)) ≡ false → (u : Path m Live s t) → Took m Live u
  took_plain {s} j n u = record { place = j.place; shown = j.shown; seen = j.seen; starts = λ qs h. by_list (u.back qs) (u.hands qs h) }
    where
      by_list : (l : List PlacedToken) → Live.hands 0 l s.source → (v : List PlacedToken) × (l ≡ j.place ∷ v)
      by_list l h = by_shown l (agrees_plain (λ z. one z) (λ p a b. refl) s n u.from l h ∙ ap one j.seen)
        where
          by_shown : (l : List PlacedToken) → one l ≡ j.place ∷ [] → (v : List PlacedToken) × (l ≡ j.place ∷ v)
          by_shown [] e = absurd (true≢false (ap (λ z. is_nil z) e))
          by_shown (p ∷ l) e = (l, ap (λ z. first_of p z ∷ l) e)
            where
              first_of : PlacedToken → List PlacedToken → PlacedToken
              first_of p [] = p
              first_of p (q ∷ l) = q

  pub brk_was : {s t : State S} (u : Path m Live s t) (qs : List PlacedToken) → Live.hands 0 qs t.source → brk (input lm (list_at m Live s (u.back qs))) ≡ brk (input m s)
  brk_was {s} u qs h = agrees (λ z. brk (record { last = 0; places = z })) (λ p q l v. refl, λ p q l v. refl, λ p l v. refl) s u.from (u.back qs) (u.hands qs h)

  pub at_was : (j : ℕ) → Plain j → {s t : State S} (u : Path m Live s t) (qs : List PlacedToken) → Live.hands 0 qs t.source → at lm j (list_at m Live s (u.back qs)) ≡ at m j s
  at_was j e {s} u qs h = at_hand j e s u.from (u.back qs) (u.hands qs h)

  -- ---- the code around, and operands

  abbrev pub turning : (x : Context) → x.module_ ≡ modular → {s : State S} → Live.live s.source → Path m Live s (retold m x s)
  turning x e {s} l = record { from = l; live = w.order.live_turned x s.source e l; back = λ qs. qs; front = []; grown = λ qs. refl; hands = λ qs h. w.told x 0 qs s.source e l h; took = 0; ahead = λ n qs h. subst (λ (i : ℕ). Live.hands i qs s.source) (omega arith) (w.told x n qs s.source e l h); none = λ i qs. refl; single = λ i. absurd (no_one i); longer = λ qs. omega arith; opens = λ qs o. o }

  pub back_turned : {A : Type 0} {E : A → ℕ} {s : State S} (x : Context) → x.module_ ≡ modular → (a : A) (f : State Input → A) → Live.live s.source → ((qs : List PlacedToken) → Live.hands 0 qs s.source → f (list_at m Live s qs) ≡ a) → Backed m Live E false closed_end s (Ok (a, retold m x s)) (λ r. Ok (f r, retold lm x r))
  back_turned {s = s} x e a f l i = record {
    so = (
      turning x e l,
      λ o. absurd (true≢false (sym o)),
      λ qs h g. (shut_good Live s qs, ap₂ (λ a n. Ok (a, on s.commas n qs)) (i qs (w.told x 0 qs s.source e l h)) (sym (w.order.turned_last x s.source l))),
    );
  }

  -- where an operand may start, and a token is taken
  pub back_operand : {A : Type 0} {E : A → ℕ} {s : State S} (x : Result (A × State S) Fault) (y : State Input → Result (A × State Input) Fault) → Live.live s.source → Backed m Live E true closed_end (operand m s) x y → Backed m Live E true closed_end s x (λ r. y r)
  back_operand (Err e) y l h = record { so = tt }
  back_operand {s = s} (Ok x) y l h = record {
    so = (
      record {
        from = l;
        live = h.so.0.live;
        back = h.so.0.back;
        front = h.so.0.front;
        grown = h.so.0.grown;
        hands = λ qs o. w.operands 0 (h.so.0.back qs) s.source l (h.so.0.hands qs o) ((h.so.1 refl).1 qs);
        took = h.so.0.took;
        ahead = λ n qs o. w.operands (h.so.0.took + n) (h.so.0.back qs) s.source l (h.so.0.ahead n qs o) ((h.so.1 refl).1 qs);
        none = h.so.0.none;
        single = h.so.0.single;
        longer = h.so.0.longer;
        opens = h.so.0.opens;
      },
      h.so.1,
      λ qs o a. (shut_good Live s (h.so.0.back qs), ap (λ (n : ℕ). y (on s.commas n (h.so.0.back qs))) (sym (w.order.operand_last s.source l)) ∙ (h.so.2 qs o a).1),
    );
  }

-- ---- the readers of nested parts

-- Each reads of a list what it reads of the source, and takes a token.
pub record Echoed {S : Type 0} (m : Stream S) (Live : Pairing m) (modular : Bool) (il : Inner Input) (im : Inner S) : Type 0 where
  pub expr : (c : Code) (e : c.context.module_ ≡ modular) (l : ℕ) (s : State S) → Live.live s.source → Backed m Live edge true closed_end s (im.expr c l s) (λ r. il.expr c l r)
  pub pat : (c : Code) (e : c.context.module_ ≡ modular) (s : State S) → Live.live s.source → Backed m Live closed true closed_end s (im.pat c s) (λ r. il.pat c r)
  pub stmt : (c : Code) (e : c.context.module_ ≡ modular) (s : State S) → Live.live s.source → Backed m Live closed true closed_end s (im.stmt c s) (λ r. il.stmt c r)
  pub body : (c : Code) (e : c.context.module_ ≡ modular) (s : State S) → Live.live s.source → Backed m Live closed true closed_end s (im.body c s) (λ r. il.body c r)
  pub class_tail : (c : Code) (e : c.context.module_ ≡ modular) (n : ℕ) (s : State S) → Live.live s.source → Backed m Live closed true closed_end s (im.class_tail c n s) (λ r. il.class_tail c n r)
  -- and no expression is a block, or absent
  pub solid : (c : Code) (l : ℕ) (s t : State S) (x : Tree) → im.expr c l s ≡ Ok (x, t) → (is_block x ≡ false) × (is_absent x ≡ false)
