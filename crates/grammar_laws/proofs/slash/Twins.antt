-- Two readings over lists that begin alike, and part where one has a regular expression and the other a slash.
use Rattle.std.proofs.Common.{◌≡◌, ℕ, zero, suc, Bool, true, false, not, ◌&&◌, cond, eqb, nat_le, List, [], ◌∷◌, ◌++◌, Result, Ok, Err, refl, sym, ap, ◌∙◌, subst, true≢false}
use Rattle.base_proofs.proofs.Bools.{not_and_false}
use Rattle.base_token.specs.declared.context.Context.{Context}
use Rattle.base_token.specs.Kinds.{regex_kind, div_kind, div_assign_kind, semicolon_kind}
use Rattle.base_token.specs.Tokens.{Bare, Pattern}
use Rattle.grammar_spec.specs.Tokens.Input.{PlacedToken, Input, Code, kind, lo, text, is_word, barred}
use Rattle.grammar_spec.specs.Tokens.Operators.{assignment_level, binary_level, goes_expr, pauses, closed_end, other_end}
use Rattle.grammar_spec.specs.Reader.Source.{Fault, Unexpected, TooDeep, ◌>>=◌, placed, unexpected, Stream, list_stream, State, Read, input, past, at, bound, eat, eat_word, is_name, name, any_word, end_of, Step, go_on, finished, next_by, iterate_n, iterate, Inner}

abbrev pub lm : Stream Input
lm = list_stream

-- what a place has beside its token, its start and its line break
pub record Rest : Type 0 where
  pub hi : ℕ
  pub escaped : Bool
  pub goal : ℕ
  pub context : Context
  pub more : List PlacedToken

-- where both lists part, and how they go on
pub record Parting : Type 0 where
  pub lo : ℕ
  pub line_break : Bool
  pub body : List ℕ
  pub flags : List ℕ
  pub one : Rest
  pub other : Rest
  pub assigns : Bool

abbrev pub regexps : Parting → List PlacedToken
regexps w = record { spot = record { token = record { kind = regex_kind; content = Pattern w.body w.flags }; line_break = w.line_break; lo = w.lo; hi = w.one.hi }; escaped = w.one.escaped; goal = w.one.goal; context = w.one.context } ∷ w.one.more

abbrev pub slash : Bool → ℕ
slash true = div_assign_kind
slash false = div_kind

abbrev pub slashes_by : Bool → Parting → List PlacedToken
slashes_by b w = record { spot = record { token = record { kind = slash b; content = Bare }; line_break = w.line_break; lo = w.lo; hi = w.other.hi }; escaped = w.other.escaped; goal = w.other.goal; context = w.other.context } ∷ w.other.more

abbrev pub slashes : Parting → List PlacedToken
slashes w = slashes_by w.assigns w

-- a state before a list
abbrev pub on : List ℕ → ℕ → List PlacedToken → State Input
on o n l = record { source = record { last = n; places = l }; commas = o }

module _ (w : Parting) where
  -- two answers are the same, and stand before what both lists have in common still
  abbrev pub Both : {A : Type 0} → Result (A × State Input) Fault → Result (A × State Input) Fault → Type 0
  Both (Ok x) (Ok y) = (x.0 ≡ y.0) × (o : List ℕ) × (n : ℕ) × (l : List PlacedToken) × (x.1 ≡ on o n (l ++ regexps w)) × (y.1 ≡ on o n (l ++ slashes w))
  Both (Ok x) (Err e) = Unit {0}
  Both (Err e) y = Unit {0}

  pub record Twins {A : Type 0} (x y : Result (A × State Input) Fault) : Type 0 where
    pub so : Both x y

  pub twin_ok : {A : Type 0} (a b : A) (o : List ℕ) (n : ℕ) (l : List PlacedToken) → a ≡ b → Twins (Ok (a, on o n (l ++ regexps w))) (Ok (b, on o n (l ++ slashes w)))
  twin_ok a b o n l e = record { so = (e, o, n, l, refl, refl) }

  pub never : {A : Type 0} (e : Fault) (y : Result (A × State Input) Fault) → Twins (Err e) y
  never e y = record { so = tt }

  pub unanswered : {A : Type 0} (x : Result (A × State Input) Fault) (e : Fault) → Twins x (Err e)
  unanswered (Ok x) e = record { so = tt }
  unanswered (Err d) e = record { so = tt }

  pub twin_then : {A B : Type 0} (x y : Result (A × State Input) Fault) (f g : A × State Input → Result (B × State Input) Fault) → Twins x y
      → ((a : A) (o : List ℕ) (n : ℕ) (l : List PlacedToken) → Twins (f (a, on o n (l ++ regexps w))) (g (a, on o n (l ++ slashes w)))) → Twins (x >>= f) (y >>= g)
  twin_then {A = A} (Ok x) (Ok y) f g h k = let z = h.so in
      subst (λ (v : State Input). Twins (f (x.0, v)) (g (y.0, y.1))) (sym z.4) (subst (λ (v : State Input). Twins (f (x.0, on z.1 z.2 (z.3 ++ regexps w))) (g (y.0, v))) (sym z.5)
      (subst (λ (v : A). Twins (f (x.0, on z.1 z.2 (z.3 ++ regexps w))) (g (v, on z.1 z.2 (z.3 ++ slashes w)))) z.0 (k x.0 z.1 z.2 z.3)))
  twin_then (Ok x) (Err e) f g h k = record { so = tt_of (f x) e }
    where
      tt_of : {B : Type 0} (r : Result (B × State Input) Fault) (e : Fault) → Both r (Err e)
      tt_of (Ok x) e = tt
      tt_of (Err d) e = tt
  twin_then (Err e) y f g h k = record { so = tt }

  pub twin_if : {A : Type 0} (b d : Bool) → b ≡ d → (x u y v : Result (A × State Input) Fault) → (b ≡ true → Twins x u) → (b ≡ false → Twins y v) → Twins (cond b x y) (cond d u v)
  twin_if true true e x u y v h k = h refl
  twin_if false false e x u y v h k = k refl
  twin_if true false e x u y v h k = absurd (true≢false e)
  twin_if false true e x u y v h k = absurd (true≢false (sym e))

  -- a test that fails at a regular expression
  pub twin_no : {A : Type 0} (d : Bool) → false ≡ d → (y u v : Result (A × State Input) Fault) → Twins y v → Twins y (cond d u v)
  twin_no false e y u v h = h
  twin_no true e y u v h = absurd (true≢false (sym e))

  pub no_and2 : (a b : Bool) → (a && (b && false)) ≡ true → ⊥
  no_and2 true b e = not_and_false b e
  no_and2 false b e = true≢false (sym e)

  pub off_first : (a x : Bool) → ((a && false) && x) ≡ true → ⊥
  off_first true x e = true≢false (sym e)
  off_first false x e = true≢false (sym e)

  pub off_left : (a x y : Bool) → ((a && false) && x) ≡ ((a && false) && y)
  off_left true x y = refl
  off_left false x y = refl

  pub off_deep : (a b d f g x y : Bool) → ((a && (b && (d && (f && (g && false))))) && x) ≡ ((a && (b && (d && (f && (g && false))))) && y)
  off_deep false b d f g x y = refl
  off_deep true false d f g x y = refl
  off_deep true true false f g x y = refl
  off_deep true true true false g x y = refl
  off_deep true true true true g x y = off_left g x y

  pub no_fourth : (a b d e : Bool) → (a && ((b && false && d) && e)) ≡ true → ⊥
  no_fourth true true d e h = true≢false (sym h)
  no_fourth true false d e h = true≢false (sym h)
  no_fourth false b d e h = true≢false (sym h)

  pub cut : (P : List PlacedToken → Type 0) (l : List PlacedToken) → P [] → ((p : PlacedToken) (q : List PlacedToken) → P (p ∷ q)) → P l
  cut P [] a b = a
  cut P (p ∷ q) a b = b p q

  by_sort : (b : Bool) (P : Bool → Type 0) → P true → P false → P b
  by_sort true P h g = h
  by_sort false P h g = g

  -- a test of the token at which they part
  pub parted : {A : Type 0} (B : List PlacedToken → A) → B (regexps w) ≡ B (slashes_by true w) → B (regexps w) ≡ B (slashes_by false w) → B (regexps w) ≡ B (slashes w)
  parted B a b = by_sort w.assigns (λ z. B (regexps w) ≡ B (slashes_by z w)) a b

  -- a test of no more than three tokens
  pub same : {A : Type 0} (B : List PlacedToken → A) → B (regexps w) ≡ B (slashes_by true w) → B (regexps w) ≡ B (slashes_by false w)
      → ((p : PlacedToken) → B (p ∷ regexps w) ≡ B (p ∷ slashes_by true w)) → ((p : PlacedToken) → B (p ∷ regexps w) ≡ B (p ∷ slashes_by false w))
      → ((p q : PlacedToken) → B (p ∷ q ∷ regexps w) ≡ B (p ∷ q ∷ slashes_by true w)) → ((p q : PlacedToken) → B (p ∷ q ∷ regexps w) ≡ B (p ∷ q ∷ slashes_by false w))
      → ((p q r : PlacedToken) (l m n : List PlacedToken) → B (p ∷ q ∷ r ∷ (l ++ m)) ≡ B (p ∷ q ∷ r ∷ (l ++ n))) → (l : List PlacedToken) → B (l ++ regexps w) ≡ B (l ++ slashes w)
  same B a b c d e f g [] = parted B a b
  same B a b c d e f g (p ∷ []) = by_sort w.assigns (λ z. B (p ∷ regexps w) ≡ B (p ∷ slashes_by z w)) (c p) (d p)
  same B a b c d e f g (p ∷ (q ∷ [])) = by_sort w.assigns (λ z. B (p ∷ q ∷ regexps w) ≡ B (p ∷ q ∷ slashes_by z w)) (e p q) (f p q)
  same B a b c d e f g (p ∷ (q ∷ (r ∷ l))) = g p q r l (regexps w) (slashes w)

  pub lo_same : (o : List ℕ) (n : ℕ) (l : List PlacedToken) → lo (input lm (on o n (l ++ regexps w))) ≡ lo (input lm (on o n (l ++ slashes w)))
  lo_same o n [] = refl
  lo_same o n (p ∷ l) = refl

  -- no slash and no regular expression
  abbrev pub Plain : ℕ → Type 0
  Plain k = (eqb regex_kind k ≡ false) × (eqb div_assign_kind k ≡ false) × (eqb div_kind k ≡ false)

  pub plain_at : (k : ℕ) → Plain k → (o : List ℕ) (n : ℕ) (l : List PlacedToken) → at lm k (on o n (l ++ regexps w)) ≡ at lm k (on o n (l ++ slashes w))
  plain_at k e o n l = same (λ z. at lm k (on o n z)) (e.0 ∙ sym e.1) (e.0 ∙ sym e.2) (λ p. refl) (λ p. refl) (λ p q. refl) (λ p q. refl) (λ p q r l m n. refl) l

  -- ---- tokens

  pub refused : {A : Type 0} (e : Fault) (b : Bool) (x : State Input) (f : State Input → Result (A × State Input) Fault) (y : Result (A × State Input) Fault) → b ≡ false → Twins (cond b (Ok x) (Err e) >>= f) y
  refused d true x f y e = absurd (true≢false e)
  refused d false x f y e = never _ _

  pub eat_on : {A : Type 0} (k : ℕ) (o : List ℕ) (n : ℕ) (p : PlacedToken) (l : List PlacedToken) (f g : State Input → Result (A × State Input) Fault)
      → Twins (f (on o p.spot.hi (l ++ regexps w))) (g (on o p.spot.hi (l ++ slashes w))) → Twins (eat lm k (on o n (p ∷ (l ++ regexps w))) >>= f) (eat lm k (on o n (p ∷ (l ++ slashes w))) >>= g)
  unfolding eat
  eat_on k o n p l f g h = by_test (eqb p.spot.token.kind k)
    where
      by_test : (b : Bool) → Twins (cond b (Ok (on o p.spot.hi (l ++ regexps w))) (unexpected lm (on o n (p ∷ (l ++ regexps w)))) >>= f) (cond b (Ok (on o p.spot.hi (l ++ slashes w))) (unexpected lm (on o n (p ∷ (l ++ slashes w)))) >>= g)
      by_test true = h
      by_test false = never _ _

  pub eat_at : {A : Type 0} (k : ℕ) → Plain k → (o : List ℕ) (n : ℕ) (l : List PlacedToken) (f g : State Input → Result (A × State Input) Fault)
      → ((n : ℕ) (l : List PlacedToken) → Twins (f (on o n (l ++ regexps w))) (g (on o n (l ++ slashes w)))) → Twins (eat lm k (on o n (l ++ regexps w)) >>= f) (eat lm k (on o n (l ++ slashes w)) >>= g)
  unfolding eat
  eat_at k e o n [] f g h = refused _ _ _ _ _ e.0
  eat_at k e o n (p ∷ l) f g h = eat_on k o n p l f g (h p.spot.hi l)

  pub word_on : {A : Type 0} (c : Code) (k : ℕ) (o : List ℕ) (n : ℕ) (p : PlacedToken) (l : List PlacedToken) (f g : State Input → Result (A × State Input) Fault)
      → Twins (f (on o p.spot.hi (l ++ regexps w))) (g (on o p.spot.hi (l ++ slashes w))) → Twins (eat_word lm c k (on o n (p ∷ (l ++ regexps w))) >>= f) (eat_word lm c k (on o n (p ∷ (l ++ slashes w))) >>= g)
  unfolding eat_word
  word_on c k o n p l f g h = by_test (at lm k (on o n (p ∷ l)) && not (barred c.context (input lm (on o n (p ∷ l)))))
    where
      by_test : (b : Bool) → Twins (cond b (Ok (on o p.spot.hi (l ++ regexps w))) (unexpected lm (on o n (p ∷ (l ++ regexps w)))) >>= f) (cond b (Ok (on o p.spot.hi (l ++ slashes w))) (unexpected lm (on o n (p ∷ (l ++ slashes w)))) >>= g)
      by_test true = h
      by_test false = never _ _

  pub word_at : {A : Type 0} (c : Code) (k : ℕ) → Plain k → (o : List ℕ) (n : ℕ) (l : List PlacedToken) (f g : State Input → Result (A × State Input) Fault)
      → ((n : ℕ) (l : List PlacedToken) → Twins (f (on o n (l ++ regexps w))) (g (on o n (l ++ slashes w)))) → Twins (eat_word lm c k (on o n (l ++ regexps w)) >>= f) (eat_word lm c k (on o n (l ++ slashes w)) >>= g)
  unfolding eat_word
  word_at c k e o n [] f g h = refused _ _ _ _ _ (ap (λ b. b && not (barred c.context (input lm (on o n (regexps w))))) e.0)
  word_at c k e o n (p ∷ l) f g h = word_on c k o n p l f g (h p.spot.hi l)

  -- where they part
  pub eat_none : {A : Type 0} (k : ℕ) → Plain k → (o : List ℕ) (n : ℕ) (f : State Input → Result (A × State Input) Fault) (y : Result (A × State Input) Fault) → Twins (eat lm k (on o n (regexps w)) >>= f) y
  unfolding eat
  eat_none k e o n f y = refused _ _ _ _ _ e.0

  pub word_none : {A : Type 0} (c : Code) (k : ℕ) → Plain k → (o : List ℕ) (n : ℕ) (f : State Input → Result (A × State Input) Fault) (y : Result (A × State Input) Fault) → Twins (eat_word lm c k (on o n (regexps w)) >>= f) y
  unfolding eat_word
  word_none c k e o n f y = refused _ _ _ _ _ (ap (λ b. b && not (barred c.context (input lm (on o n (regexps w))))) e.0)

  pub name_none : {A : Type 0} (c : Code) (o : List ℕ) (n : ℕ) (f : List ℕ × State Input → Result (A × State Input) Fault) (y : Result (A × State Input) Fault) → Twins (name lm c (on o n (regexps w)) >>= f) y
  unfolding name
  name_none c o n f y = never _ _

  pub any_none : {A : Type 0} (o : List ℕ) (n : ℕ) (f : List ℕ × State Input → Result (A × State Input) Fault) (y : Result (A × State Input) Fault) → Twins (any_word lm (on o n (regexps w)) >>= f) y
  unfolding any_word
  any_none o n f y = never _ _

  pub name_on : {A : Type 0} (c : Code) (o : List ℕ) (n : ℕ) (p : PlacedToken) (l : List PlacedToken) (f g : List ℕ × State Input → Result (A × State Input) Fault)
      → ((a : List ℕ) → Twins (f (a, on o p.spot.hi (l ++ regexps w))) (g (a, on o p.spot.hi (l ++ slashes w)))) → Twins (name lm c (on o n (p ∷ (l ++ regexps w))) >>= f) (name lm c (on o n (p ∷ (l ++ slashes w))) >>= g)
  unfolding name
  name_on c o n p l f g h = by_test (is_name lm c (on o n (p ∷ l))) (text (input lm (on o n (p ∷ l))))
    where
      by_test : (b : Bool) (a : List ℕ) → Twins (cond b (Ok (a, on o p.spot.hi (l ++ regexps w))) (unexpected lm (on o n (p ∷ (l ++ regexps w)))) >>= f) (cond b (Ok (a, on o p.spot.hi (l ++ slashes w))) (unexpected lm (on o n (p ∷ (l ++ slashes w)))) >>= g)
      by_test true a = h a
      by_test false a = never _ _

  -- the same where a fault is found at a given place
  pub placed_none : {A : Type 0} (i : ℕ) (c : Code) (o : List ℕ) (n : ℕ) (f : List ℕ × State Input → Result (A × State Input) Fault) (y : Result (A × State Input) Fault) → Twins (placed i (name lm c (on o n (regexps w))) >>= f) y
  unfolding name
  placed_none i c o n f y = never _ _

  pub placed_on : {A : Type 0} (i j : ℕ) (c : Code) (o : List ℕ) (n : ℕ) (p : PlacedToken) (l : List PlacedToken) (f g : List ℕ × State Input → Result (A × State Input) Fault)
      → ((a : List ℕ) → Twins (f (a, on o p.spot.hi (l ++ regexps w))) (g (a, on o p.spot.hi (l ++ slashes w)))) → Twins (placed i (name lm c (on o n (p ∷ (l ++ regexps w)))) >>= f) (placed j (name lm c (on o n (p ∷ (l ++ slashes w)))) >>= g)
  unfolding name
  placed_on i j c o n p l f g h = by_test (is_name lm c (on o n (p ∷ l))) (text (input lm (on o n (p ∷ l))))
    where
      by_test : (b : Bool) (a : List ℕ) → Twins (placed i (cond b (Ok (a, on o p.spot.hi (l ++ regexps w))) (unexpected lm (on o n (p ∷ (l ++ regexps w))))) >>= f) (placed j (cond b (Ok (a, on o p.spot.hi (l ++ slashes w))) (unexpected lm (on o n (p ∷ (l ++ slashes w))))) >>= g)
      by_test true a = h a
      by_test false a = never _ _

  pub name_at : {A : Type 0} (c : Code) (o : List ℕ) (n : ℕ) (l : List PlacedToken) (f g : List ℕ × State Input → Result (A × State Input) Fault)
      → ((a : List ℕ) (n : ℕ) (l : List PlacedToken) → Twins (f (a, on o n (l ++ regexps w))) (g (a, on o n (l ++ slashes w)))) → Twins (name lm c (on o n (l ++ regexps w)) >>= f) (name lm c (on o n (l ++ slashes w)) >>= g)
  unfolding name
  name_at c o n [] f g h = never _ _
  name_at c o n (p ∷ l) f g h = name_on c o n p l f g (λ a. h a p.spot.hi l)

  pub any_on : {A : Type 0} (o : List ℕ) (n : ℕ) (p : PlacedToken) (l : List PlacedToken) (f g : List ℕ × State Input → Result (A × State Input) Fault)
      → ((a : List ℕ) → Twins (f (a, on o p.spot.hi (l ++ regexps w))) (g (a, on o p.spot.hi (l ++ slashes w)))) → Twins (any_word lm (on o n (p ∷ (l ++ regexps w))) >>= f) (any_word lm (on o n (p ∷ (l ++ slashes w))) >>= g)
  unfolding any_word
  any_on o n p l f g h = by_test (is_word (kind (input lm (on o n (p ∷ l))))) (text (input lm (on o n (p ∷ l))))
    where
      by_test : (b : Bool) (a : List ℕ) → Twins (cond b (Ok (a, on o p.spot.hi (l ++ regexps w))) (unexpected lm (on o n (p ∷ (l ++ regexps w)))) >>= f) (cond b (Ok (a, on o p.spot.hi (l ++ slashes w))) (unexpected lm (on o n (p ∷ (l ++ slashes w)))) >>= g)
      by_test true a = h a
      by_test false a = never _ _

  pub any_at : {A : Type 0} (o : List ℕ) (n : ℕ) (l : List PlacedToken) (f g : List ℕ × State Input → Result (A × State Input) Fault)
      → ((a : List ℕ) (n : ℕ) (l : List PlacedToken) → Twins (f (a, on o n (l ++ regexps w))) (g (a, on o n (l ++ slashes w)))) → Twins (any_word lm (on o n (l ++ regexps w)) >>= f) (any_word lm (on o n (l ++ slashes w)) >>= g)
  unfolding any_word
  any_at o n [] f g h = never _ _
  any_at o n (p ∷ l) f g h = any_on o n p l f g (λ a. h a p.spot.hi l)

  -- ---- what ends a statement

  goes_end : (c : Code) (e : ℕ) (b : Bool) (o : List ℕ) (n : ℕ) → nat_le 1 (goes_expr c e (input lm (on o n (regexps w)))) ≡ nat_le 1 (goes_expr c e (input lm (on o n (slashes_by b w))))
  goes_end c e true o n = goes_by (nat_le closed_end e)
    where
      goes_by : (z : Bool) → nat_le 1 (cond z 0 (binary_level div_kind)) ≡ nat_le 1 (cond z 0 assignment_level)
      goes_by true = refl
      goes_by false = refl
  goes_end c e false o n = refl

  pauses_end : (c : Code) (e : ℕ) (b : Bool) (o : List ℕ) (n : ℕ) → pauses c e (input lm (on o n (regexps w))) ≡ pauses c e (input lm (on o n (slashes_by b w)))
  pauses_end c e true o n = rw (sym (goes_end c e true o n)) (rw (sym (goes_end c other_end true o n)) refl)
  pauses_end c e false o n = refl

  pauses_same : (c : Code) (e : ℕ) (o : List ℕ) (n : ℕ) (l : List PlacedToken) → pauses c e (input lm (on o n (l ++ regexps w))) ≡ pauses c e (input lm (on o n (l ++ slashes w)))
  pauses_same c e o n l = same (λ z. pauses c e (input lm (on o n z))) (pauses_end c e true o n) (pauses_end c e false o n) (λ p. refl) (λ p. refl) (λ p q. refl) (λ p q. refl) (λ p q r l m n. refl) l

  pub end_at : {A : Type 0} (c : Code) (e : ℕ) (o : List ℕ) (n : ℕ) (l : List PlacedToken) (f g : State Input → Result (A × State Input) Fault)
      → ((n : ℕ) (l : List PlacedToken) → Twins (f (on o n (l ++ regexps w))) (g (on o n (l ++ slashes w)))) → Twins (end_of lm c e (on o n (l ++ regexps w)) >>= f) (end_of lm c e (on o n (l ++ slashes w)) >>= g)
  unfolding end_of
  end_at c e o n [] f g h = by_pause (pauses c e (input lm (on o n (regexps w)))) (pauses c e (input lm (on o n (slashes w)))) (pauses_same c e o n [])
      (at lm semicolon_kind (on o n (slashes w))) (plain_at semicolon_kind (refl, refl, refl) o n [])
    where
      by_pause : (b d : Bool) → b ≡ d → (z : Bool) → false ≡ z → Twins (cond b (Ok (on o n (regexps w))) (unexpected lm (on o n (regexps w))) >>= f) (cond z (Ok (past lm (on o n (slashes w)))) (cond d (Ok (on o n (slashes w))) (unexpected lm (on o n (slashes w)))) >>= g)
      by_pause true true i false j = h n []
      by_pause false d i z j = never _ _
      by_pause true false i z j = absurd (true≢false i)
      by_pause true d i true j = absurd (true≢false (sym j))
  end_at c e o n (p ∷ l) f g h = by_pause (at lm semicolon_kind (on o n (p ∷ l))) (pauses c e (input lm (on o n (p ∷ (l ++ regexps w))))) (pauses c e (input lm (on o n (p ∷ (l ++ slashes w))))) (pauses_same c e o n (p ∷ l))
    where
      by_pause : (z b d : Bool) → b ≡ d → Twins (cond z (Ok (on o p.spot.hi (l ++ regexps w))) (cond b (Ok (on o n (p ∷ (l ++ regexps w)))) (unexpected lm (on o n (p ∷ (l ++ regexps w))))) >>= f) (cond z (Ok (on o p.spot.hi (l ++ slashes w))) (cond d (Ok (on o n (p ∷ (l ++ slashes w)))) (unexpected lm (on o n (p ∷ (l ++ slashes w))))) >>= g)
      by_pause true b d i = h p.spot.hi l
      by_pause false true true i = h n (p ∷ l)
      by_pause false false d i = never _ _
      by_pause false true false i = absurd (true≢false i)

  pub end_as : {A : Type 0} (c : Code) (e d : ℕ) → e ≡ d → (o : List ℕ) (n : ℕ) (l : List PlacedToken) (f g : State Input → Result (A × State Input) Fault)
      → ((n : ℕ) (l : List PlacedToken) → Twins (f (on o n (l ++ regexps w))) (g (on o n (l ++ slashes w)))) → Twins (end_of lm c e (on o n (l ++ regexps w)) >>= f) (end_of lm c d (on o n (l ++ slashes w)) >>= g)
  end_as c e d i o n l f g h = subst (λ (k : ℕ). Twins (end_of lm c e (on o n (l ++ regexps w)) >>= f) (end_of lm c k (on o n (l ++ slashes w)) >>= g)) i (end_at c e o n l f g h)

  -- what stands on no token is the same, wherever a fault is found
  pub twin_placed : {A B : Type 0} (i j : ℕ) (x : Result B Fault) (f g : B → Result (A × State Input) Fault) → ((b : B) → Twins (f b) (g b)) → Twins (placed i x >>= f) (placed j x >>= g)
  twin_placed i j (Ok b) f g h = h b
  twin_placed i j (Err (Unexpected n)) f g h = never _ _
  twin_placed i j (Err (TooDeep n)) f g h = never _ _

  pub twin_found : {A : Type 0} (i j : ℕ) (x y : Result (A × State Input) Fault) → Twins x y → Twins (placed i x) (placed j y)
  twin_found i j (Ok x) (Ok y) h = h
  twin_found i j (Ok x) (Err (Unexpected n)) h = record { so = tt }
  twin_found i j (Ok x) (Err (TooDeep n)) h = record { so = tt }
  twin_found i j (Err (Unexpected n)) y h = never _ _
  twin_found i j (Err (TooDeep n)) y h = never _ _

  -- ---- loops

  guarded : {A : Type 0} (b d : Bool) (x y : Result (A × State Input) Fault) (e f : Fault) → Twins x y → Twins (cond b x (Err e)) (cond d y (Err f))
  guarded true true x y e f h = h
  guarded false d x y e f h = never _ _
  guarded true false x y e f h = unanswered x f

  module _ {A : Type 0} (f g : A → Read Input (Step A)) (h : (x : A) (o : List ℕ) (n : ℕ) (l : List PlacedToken) → Twins (f x (on o n (l ++ regexps w))) (g x (on o n (l ++ slashes w)))) where
    next : (again other : A → Read Input A) → ((x : A) (o : List ℕ) (n : ℕ) (l : List PlacedToken) → Twins (again x (on o n (l ++ regexps w))) (other x (on o n (l ++ slashes w))))
        → (b d : ℕ) (a : Step A) (o : List ℕ) (n : ℕ) (l : List PlacedToken) → Twins (next_by (bound lm) again b (a, on o n (l ++ regexps w))) (next_by (bound lm) other d (a, on o n (l ++ slashes w)))
    next again other k b d (go_on y) o n l = guarded _ _ _ _ _ _ (k y o n l)
    next again other k b d (finished y) o n l = twin_ok y y o n l refl

    turns : (s t : ℕ) (x : A) (o : List ℕ) (n : ℕ) (l : List PlacedToken) → Twins (iterate_n (bound lm) s f x (on o n (l ++ regexps w))) (iterate_n (bound lm) t g x (on o n (l ++ slashes w)))
    unfolding iterate_n
    turns zero t x o n l = never _ _
    turns (suc s) zero x o n l = unanswered _ _
    turns (suc s) (suc t) x o n l = twin_then _ _ _ _ (h x o n l) (λ a i j k. next (iterate_n (bound lm) s f) (iterate_n (bound lm) t g) (λ y a b c. turns s t y a b c) _ _ a i j k)

    pub iterate_twin : (x : A) (o : List ℕ) (n : ℕ) (l : List PlacedToken) → Twins (iterate (bound lm) f x (on o n (l ++ regexps w))) (iterate (bound lm) g x (on o n (l ++ slashes w)))
    unfolding iterate
    iterate_twin x o n l = turns _ _ x o n l

  -- ---- the readers of nested parts

  pub record Told (i : Inner Input) : Type 0 where
    pub expr : (c : Code) (k : ℕ) (o : List ℕ) (n : ℕ) (l : List PlacedToken) → Twins (i.expr c k (on o n (l ++ regexps w))) (i.expr c k (on o n (l ++ slashes w)))
    pub pat : (c : Code) (o : List ℕ) (n : ℕ) (l : List PlacedToken) → Twins (i.pat c (on o n (l ++ regexps w))) (i.pat c (on o n (l ++ slashes w)))
    pub stmt : (c : Code) (o : List ℕ) (n : ℕ) (l : List PlacedToken) → Twins (i.stmt c (on o n (l ++ regexps w))) (i.stmt c (on o n (l ++ slashes w)))
    pub body : (c : Code) (o : List ℕ) (n : ℕ) (l : List PlacedToken) → Twins (i.body c (on o n (l ++ regexps w))) (i.body c (on o n (l ++ slashes w)))
    pub class_tail : (c : Code) (k : ℕ) (o : List ℕ) (n : ℕ) (l : List PlacedToken) → Twins (i.class_tail c k (on o n (l ++ regexps w))) (i.class_tail c k (on o n (l ++ slashes w)))
