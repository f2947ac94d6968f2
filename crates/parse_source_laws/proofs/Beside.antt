-- A source and a list that it hands out, side by side: what is read of the list is read of the source.
use Rattle.std.proofs.Common.{◌≡◌, ◌⊎◌, ◌<◌, ◌≤◌, ◌+◌, ℕ, zero, suc, Bool, true, false, not, ◌&&◌, ◌||◌, cond, eqb, nat_le, nat_lt, List, [], ◌∷◌, length, Option, Result, Ok, Err, inl, inr, refl, sym, ap, ap₂, ◌∙◌, subst, true≢false, arith, eqb-true, ltb-true, lt-ltb}
use Rattle.base_proofs.proofs.Bools.{and_first}
use Rattle.base_token.specs.declared.context.Context.{Context}
use Rattle.base_token.specs.declared.place.Span.{Span}
use Rattle.base_token.specs.Kinds.{end_kind, regex_kind, div_kind, div_assign_kind, semicolon_kind}
use Rattle.base_token.specs.Tokens.{Content, Piece, Line}
use Rattle.tree_spec.specs.Tree.{Tree, param, rest_pat, function}
use Rattle.grammar_spec.specs.Tokens.Input.{PlacedToken, Input, Code, kind, kind_of, others, content, content_of, lo, hi, text, is_word, barred, first_span, span}
use Rattle.grammar_spec.specs.Tokens.Shape.{is_default_case}
use Rattle.grammar_spec.specs.Tokens.Operators.{assignment_level, binary_level, goes_expr, pauses, closed_end, other_end}
use Rattle.grammar_spec.specs.Reader.Source.{Fault, Unexpected, TooDeep, ◌>>=◌, placed, unexpected, Stream, list_stream, State, Read, input, past, operand, retold, at, bound, spanned, eat, eat_word, is_name, name, any_word, end_of, Step, go_on, finished, next_by, iterate_n, iterate, Inner}
use Rattle.grammar_spec.specs.Reader.Expressions.{is_read, is_rest_param, pattern_of, quasi}
use Rattle.grammar_spec.specs.Reader.Statements.{constructor_of, has_default, one_bare}
use Rattle.grammar_spec.specs.Reader.Modules.{line_of}
use Rattle.parse_source_laws.specs.Sources.{is_slash, Rereads, one, two, HandsOut, Orderly}

abbrev pub lm : Stream Input
lm = list_stream

-- a state before a list
abbrev pub on : List ℕ → ℕ → List PlacedToken → State Input
on o n l = record { source = record { last = n; places = l }; commas = o }

-- what is read with what follows is read wherever faults are found
pub placed_then : {A B : Type 0} {v : B} (n : ℕ) (x : Result A Fault) (f : A → Result B Fault) → (x >>= f) ≡ Ok v → (placed n x >>= f) ≡ Ok v
placed_then n (Ok x) f e = e
placed_then n (Err d) f e = absurd (true≢false (sym (ap (λ z. is_read z) e)))

-- How much the bound has fallen since some stand, against the tokens that were taken since: as much, or more.
pub record Ceiling : Type 0 where
  pub bound : ℕ
  pub length : ℕ

-- ---- the tokens that a source shows, and those of the list

abbrev pub kinded : ℕ → PlacedToken → PlacedToken
kinded k p = record p { spot = record p.spot { token = record p.spot.token { kind = k } } }

-- a regular expression, and a slash in its place
abbrev pub regexp : PlacedToken → PlacedToken
regexp p = kinded regex_kind p

abbrev pub slash : Bool → PlacedToken → PlacedToken → PlacedToken
slash b p q = record q { spot = record q.spot { token = record q.spot.token { kind = cond b div_assign_kind div_kind }; lo = p.spot.lo; line_break = p.spot.line_break } }

-- The first tokens are the same, up to a slash that is read again.
abbrev pub Any : List PlacedToken → List PlacedToken → Type 0
Any l v = Unit {0}

abbrev pub Next : (List PlacedToken → List PlacedToken → Type 0) → List PlacedToken → List PlacedToken → Type 0
Next R [] v = v ≡ []
Next R (p ∷ l) v = ((w : List PlacedToken) × (v ≡ p ∷ w) × R l w) ⊎ ((q : PlacedToken) × (w : List PlacedToken) × (v ≡ q ∷ w) × Rereads q p)

one_next : (l v : List PlacedToken) → Next Any l v → Next Any l (one v)
one_next [] v e = ap one e
one_next (p ∷ l) v (inl h) = inl ([], ap one h.1, tt)
one_next (p ∷ l) v (inr h) = inr (h.0, [], ap one h.2, h.3)

two_next : (l v : List PlacedToken) → Next (Next Any) l v → Next (Next Any) l (two v)
two_next [] v e = ap two e
two_next (p ∷ l) v (inl h) = inl (one h.0, ap two h.1, one_next l h.0 h.2)
two_next (p ∷ l) v (inr h) = inr (h.0, one h.1, ap two h.2, h.3)

-- what is seen of what is seen starts with the same
pub kind_two : (v : List PlacedToken) → kind_of (one (two v)) ≡ kind_of v
kind_two [] = refl
kind_two (p ∷ v) = refl

slash_kind : (k : ℕ) → is_slash k ≡ true → (k ≡ div_assign_kind) ⊎ (k ≡ div_kind)
slash_kind k e = by_test (eqb k div_kind) refl e
  where
    by_test : (b : Bool) → eqb k div_kind ≡ b → (b || eqb k div_assign_kind) ≡ true → (k ≡ div_assign_kind) ⊎ (k ≡ div_kind)
    by_test true i e = inr (eqb-true k div_kind i)
    by_test false i e = inl (eqb-true k div_assign_kind e)

-- what a property of a slash that is read again, and of the regular expression, must be shown of
pub reread : (P : PlacedToken → PlacedToken → Type 0) → ((p q : PlacedToken) → P (regexp p) (slash true p q)) → ((p q : PlacedToken) → P (regexp p) (slash false p q)) → (q p : PlacedToken) → Rereads q p → P p q
reread P f g q p h = subst (λ (k : ℕ). P (kinded k p) q) (sym h.1) (subst (λ (n : ℕ). P (regexp p) (record q { spot = record q.spot { lo = n } })) h.2
    (subst (λ (b : Bool). P (regexp p) (record q { spot = record q.spot { lo = p.spot.lo; line_break = b } })) h.3 (by_kind (slash_kind q.spot.token.kind h.0))))
  where
    by_kind : (q.spot.token.kind ≡ div_assign_kind) ⊎ (q.spot.token.kind ≡ div_kind) → P (regexp p) (record q { spot = record q.spot { lo = p.spot.lo; line_break = p.spot.line_break } })
    by_kind (inl e) = subst (λ (k : ℕ). P (regexp p) (record q { spot = record q.spot { token = record q.spot.token { kind = k }; lo = p.spot.lo; line_break = p.spot.line_break } })) (sym e) (f p q)
    by_kind (inr e) = subst (λ (k : ℕ). P (regexp p) (record q { spot = record q.spot { token = record q.spot.token { kind = k }; lo = p.spot.lo; line_break = p.spot.line_break } })) (sym e) (g p q)

-- A test that doesn't tell a slash from a regular expression in its place, and looks at nothing behind one; of one token, of two, of three.
look1 : {A : Type 0} (B : List PlacedToken → A) → ((p q : PlacedToken) (l w : List PlacedToken) → B (regexp p ∷ l) ≡ B (slash true p q ∷ w)) → ((p q : PlacedToken) (l w : List PlacedToken) → B (regexp p ∷ l) ≡ B (slash false p q ∷ w))
    → ((p : PlacedToken) (l w : List PlacedToken) → B (p ∷ l) ≡ B (p ∷ w)) → (R : List PlacedToken → List PlacedToken → Type 0) (l v : List PlacedToken) → Next R l v → B l ≡ B v
look1 B a b f R [] v e = ap B (sym e)
look1 B a b f R (p ∷ l) v (inl h) = f p l h.0 ∙ ap B (sym h.1)
look1 B a b f R (p ∷ l) v (inr h) = reread (λ p q. B (p ∷ l) ≡ B (q ∷ h.1)) (λ p q. a p q l h.1) (λ p q. b p q l h.1) h.0 p h.3 ∙ ap B (sym h.2)

look2 : {A : Type 0} (B : List PlacedToken → A) → ((p q : PlacedToken) (l w : List PlacedToken) → B (regexp p ∷ l) ≡ B (slash true p q ∷ w)) → ((p q : PlacedToken) (l w : List PlacedToken) → B (regexp p ∷ l) ≡ B (slash false p q ∷ w))
    → ((n p q : PlacedToken) (l w : List PlacedToken) → B (n ∷ regexp p ∷ l) ≡ B (n ∷ slash true p q ∷ w)) → ((n p q : PlacedToken) (l w : List PlacedToken) → B (n ∷ regexp p ∷ l) ≡ B (n ∷ slash false p q ∷ w))
    → ((n p : PlacedToken) (l w : List PlacedToken) → B (n ∷ p ∷ l) ≡ B (n ∷ p ∷ w)) → (R : List PlacedToken → List PlacedToken → Type 0) (l v : List PlacedToken) → Next (Next R) l v → B l ≡ B v
look2 B a b c d f R [] v e = ap B (sym e)
look2 B a b c d f R (p ∷ l) v (inl h) = look1 (λ z. B (p ∷ z)) (c p) (d p) (f p) R l h.0 h.2 ∙ ap B (sym h.1)
look2 B a b c d f R (p ∷ l) v (inr h) = reread (λ p q. B (p ∷ l) ≡ B (q ∷ h.1)) (λ p q. a p q l h.1) (λ p q. b p q l h.1) h.0 p h.3 ∙ ap B (sym h.2)

look3 : {A : Type 0} (B : List PlacedToken → A) → ((p q : PlacedToken) (l w : List PlacedToken) → B (regexp p ∷ l) ≡ B (slash true p q ∷ w)) → ((p q : PlacedToken) (l w : List PlacedToken) → B (regexp p ∷ l) ≡ B (slash false p q ∷ w))
    → ((n p q : PlacedToken) (l w : List PlacedToken) → B (n ∷ regexp p ∷ l) ≡ B (n ∷ slash true p q ∷ w)) → ((n p q : PlacedToken) (l w : List PlacedToken) → B (n ∷ regexp p ∷ l) ≡ B (n ∷ slash false p q ∷ w))
    → ((n o p q : PlacedToken) (l w : List PlacedToken) → B (n ∷ o ∷ regexp p ∷ l) ≡ B (n ∷ o ∷ slash true p q ∷ w)) → ((n o p q : PlacedToken) (l w : List PlacedToken) → B (n ∷ o ∷ regexp p ∷ l) ≡ B (n ∷ o ∷ slash false p q ∷ w))
    → ((n o p : PlacedToken) (l w : List PlacedToken) → B (n ∷ o ∷ p ∷ l) ≡ B (n ∷ o ∷ p ∷ w)) → (l v : List PlacedToken) → Next (Next (Next Any)) l v → B l ≡ B v
look3 B a b c d f g i [] v e = ap B (sym e)
look3 B a b c d f g i (p ∷ l) v (inl h) = look2 (λ z. B (p ∷ z)) (c p) (d p) (f p) (g p) (i p) Any l h.0 h.2 ∙ ap B (sym h.1)
look3 B a b c d f g i (p ∷ l) v (inr h) = reread (λ p q. B (p ∷ l) ≡ B (q ∷ h.1)) (λ p q. a p q l h.1) (λ p q. b p q l h.1) h.0 p h.3 ∙ ap B (sym h.2)

-- a kind that is no slash and no regular expression, and not the end
abbrev pub Plain : ℕ → Type 0
Plain k = (eqb regex_kind k ≡ false) × (eqb div_assign_kind k ≡ false) × (eqb div_kind k ≡ false) × (eqb end_kind k ≡ false)

-- ---- what the step of a loop hands to the next turn

abbrev KeepsBy : {A : Type 0} → (A → Type 0) → Result (Step A × State Input) Fault → Type 0
KeepsBy P (Ok (go_on x, r)) = P x
KeepsBy P (Ok (finished x, r)) = Unit {0}
KeepsBy P (Err e) = Unit {0}

pub record Keeps {A : Type 0} (P : A → Type 0) (y : Result (Step A × State Input) Fault) : Type 0 where
  pub so : KeepsBy P y

pub keeps_if : {A : Type 0} {P : A → Type 0} (b : Bool) (x y : Result (Step A × State Input) Fault) → Keeps P x → Keeps P y → Keeps P (cond b x y)
keeps_if true x y h n = h
keeps_if false x y h n = n

pub keeps_then : {A B : Type 0} {P : A → Type 0} (x : Result B Fault) (f : B → Result (Step A × State Input) Fault) → ((b : B) → Keeps P (f b)) → Keeps P (x >>= f)
keeps_then (Ok b) f h = h b
keeps_then (Err e) f h = record { so = tt }

module _ {S : Type 0} (m : Stream S) (Live : S → Type 0) where
  -- The source hands out the list from here on.
  pub record Beside (k : Ceiling) (s : State S) (r : State Input) : Type 0 where
    pub commas : s.commas ≡ r.commas
    pub last : m.last s.source ≡ r.source.last
    pub live : Live s.source
    pub hands : HandsOut m r.source.places s.source
    pub falls : m.bound s.source + k.length ≤ k.bound + length r.source.places

  -- and the first token of both is the same
  pub record Joined (k : Ceiling) (s : State S) (r : State Input) : Type 0 where
    pub base : Beside k s r
    pub first : PlacedToken
    pub rest : List PlacedToken
    pub shown : List PlacedToken
    pub list : r.source.places ≡ first ∷ rest
    pub seen : m.seen s.source ≡ first ∷ shown
    pub after : Beside k (past m s) (past lm r)

  -- where the list's answer is a value, the source's is the same value
  abbrev pub ToldBy : {A : Type 0} → Ceiling → Result (A × State Input) Fault → Result (A × State S) Fault → Type 0
  ToldBy k (Ok y) x = (s : State S) × (x ≡ Ok (y.0, s)) × Beside k s y.1
  ToldBy k (Err e) x = Unit {0}

  pub record Told {A : Type 0} (k : Ceiling) (y : Result (A × State Input) Fault) (x : Result (A × State S) Fault) : Type 0 where
    pub so : ToldBy k y x

module _ {S : Type 0} {m : Stream S} {Live : S → Type 0} {modular : Bool} (w : Orderly m Live modular) where
  alike : (l : List PlacedToken) (s : S) → Live s → HandsOut m l s → Next (Next (Next Any)) l (m.seen s)
  alike [] s a h = h
  alike (p ∷ l) s a (inr h) = inr (h.0, h.1, h.3, h.4)
  alike (p ∷ l) s a (inl h) = inl (h.0, h.1, subst (λ v. Next (Next Any) l v) (sym (w.behind s p h.0 a h.1)) (two_next l (m.seen (m.after s)) (second l (m.after s) (w.live_after s a) h.2)))
    where
      third : (l : List PlacedToken) (s : S) → Live s → HandsOut m l s → Next Any l (m.seen s)
      third [] s a h = h
      third (p ∷ l) s a (inl h) = inl (h.0, h.1, tt)
      third (p ∷ l) s a (inr h) = inr (h.0, h.1, h.3, h.4)

      second : (l : List PlacedToken) (s : S) → Live s → HandsOut m l s → Next (Next Any) l (m.seen s)
      second [] s a h = h
      second (p ∷ l) s a (inr h) = inr (h.0, h.1, h.3, h.4)
      second (p ∷ l) s a (inl h) = inl (h.0, h.1, subst (λ v. Next Any l v) (sym (w.behind s p h.0 a h.1)) (cut l (m.seen (m.after s)) (third l (m.after s) (w.live_after s a) h.2)))
        where
          cut : (l v : List PlacedToken) → Next Any l v → Next Any l (two v)
          cut [] v e = ap two e
          cut (p ∷ l) v (inl h) = inl (one h.0, ap two h.1, tt)
          cut (p ∷ l) v (inr h) = inr (h.0, one h.1, ap two h.2, h.3)

  seen_next : (k : Ceiling) (s : State S) (r : State Input) → Beside m Live k s r → Next (Next (Next Any)) r.source.places (m.seen s.source)
  seen_next k s r h = alike r.source.places s.source h.live h.hands

  -- a test of one token, of two, of three
  pub agree1 : {A : Type 0} (B : List PlacedToken → A) → ((p q : PlacedToken) (l w : List PlacedToken) → B (regexp p ∷ l) ≡ B (slash true p q ∷ w)) → ((p q : PlacedToken) (l w : List PlacedToken) → B (regexp p ∷ l) ≡ B (slash false p q ∷ w))
      → ((p : PlacedToken) (l w : List PlacedToken) → B (p ∷ l) ≡ B (p ∷ w)) → (k : Ceiling) (s : State S) (r : State Input) → Beside m Live k s r → B r.source.places ≡ B (m.seen s.source)
  agree1 B a b f k s r h = look1 B a b f (Next (Next Any)) r.source.places (m.seen s.source) (seen_next k s r h)

  pub agree2 : {A : Type 0} (B : List PlacedToken → A) → ((p q : PlacedToken) (l w : List PlacedToken) → B (regexp p ∷ l) ≡ B (slash true p q ∷ w)) → ((p q : PlacedToken) (l w : List PlacedToken) → B (regexp p ∷ l) ≡ B (slash false p q ∷ w))
      → ((n p q : PlacedToken) (l w : List PlacedToken) → B (n ∷ regexp p ∷ l) ≡ B (n ∷ slash true p q ∷ w)) → ((n p q : PlacedToken) (l w : List PlacedToken) → B (n ∷ regexp p ∷ l) ≡ B (n ∷ slash false p q ∷ w))
      → ((n p : PlacedToken) (l w : List PlacedToken) → B (n ∷ p ∷ l) ≡ B (n ∷ p ∷ w)) → (k : Ceiling) (s : State S) (r : State Input) → Beside m Live k s r → B r.source.places ≡ B (m.seen s.source)
  agree2 B a b c d f k s r h = look2 B a b c d f (Next Any) r.source.places (m.seen s.source) (seen_next k s r h)

  pub agree3 : {A : Type 0} (B : List PlacedToken → A) → ((p q : PlacedToken) (l w : List PlacedToken) → B (regexp p ∷ l) ≡ B (slash true p q ∷ w)) → ((p q : PlacedToken) (l w : List PlacedToken) → B (regexp p ∷ l) ≡ B (slash false p q ∷ w))
      → ((n p q : PlacedToken) (l w : List PlacedToken) → B (n ∷ regexp p ∷ l) ≡ B (n ∷ slash true p q ∷ w)) → ((n p q : PlacedToken) (l w : List PlacedToken) → B (n ∷ regexp p ∷ l) ≡ B (n ∷ slash false p q ∷ w))
      → ((n o p q : PlacedToken) (l w : List PlacedToken) → B (n ∷ o ∷ regexp p ∷ l) ≡ B (n ∷ o ∷ slash true p q ∷ w)) → ((n o p q : PlacedToken) (l w : List PlacedToken) → B (n ∷ o ∷ regexp p ∷ l) ≡ B (n ∷ o ∷ slash false p q ∷ w))
      → ((n o p : PlacedToken) (l w : List PlacedToken) → B (n ∷ o ∷ p ∷ l) ≡ B (n ∷ o ∷ p ∷ w)) → (k : Ceiling) (s : State S) (r : State Input) → Beside m Live k s r → B r.source.places ≡ B (m.seen s.source)
  agree3 B a b c d f g i k s r h = look3 B a b c d f g i r.source.places (m.seen s.source) (seen_next k s r h)

  pub kind_same : (T : ℕ → Bool) → T regex_kind ≡ T div_assign_kind → T regex_kind ≡ T div_kind → (k : Ceiling) (s : State S) (r : State Input) → Beside m Live k s r → T (kind (input lm r)) ≡ T (kind (input m s))
  kind_same T a b k s r h = agree1 (λ z. T (kind_of z)) (λ p q l w. a) (λ p q l w. b) (λ p l w. refl) k s r h

  pub at_same : (j : ℕ) → Plain j → (k : Ceiling) (s : State S) (r : State Input) → Beside m Live k s r → at lm j r ≡ at m j s
  at_same j e k s r h = kind_same (λ z. eqb z j) (e.0 ∙ sym e.1) (e.0 ∙ sym e.2) k s r h

  lo_by : (n : ℕ) (l : List PlacedToken) (v : List PlacedToken) (i : ℕ) → i ≡ n → Next (Next (Next Any)) l v → lo (record { last = n; places = l }) ≡ lo (record { last = i; places = v })
  lo_by n [] v i e h = sym e ∙ ap (λ z. lo (record { last = i; places = z })) (sym h)
  lo_by n (p ∷ l) v i e (inl h) = ap (λ z. lo (record { last = i; places = z })) (sym h.1)
  lo_by n (p ∷ l) v i e (inr h) = h.3.2 ∙ ap (λ z. lo (record { last = i; places = z })) (sym h.2)

  -- where the next token begins
  pub lo_same : (k : Ceiling) (s : State S) (r : State Input) → Beside m Live k s r → lo (input lm r) ≡ lo (input m s)
  lo_same k s r h = lo_by r.source.last r.source.places (m.seen s.source) (m.last s.source) h.last (seen_next k s r h)

  pub span_same : (k i : Ceiling) (s t : State S) (r q : State Input) → Beside m Live k s r → Beside m Live i t q → spanned lm (lo (input lm r)) q ≡ spanned m (lo (input m s)) t
  span_same k i s t r q h g = ap₂ (λ (a b : ℕ). span a b) (lo_same k s r h) (sym g.last)

  -- ---- the same first token

  pub joined_to : (k : Ceiling) (s : State S) (o : List ℕ) (n : ℕ) (p : PlacedToken) (l : List PlacedToken) → Beside m Live k s (on o n (p ∷ l)) → (v : List PlacedToken) → m.seen s.source ≡ p ∷ v → HandsOut m l (m.after s.source) → Joined m Live k s (on o n (p ∷ l))
  joined_to k s o n p l h v e g = record {
    base = h;
    first = p;
    rest = l;
    shown = v;
    list = refl;
    seen = e;
    after = record {
      commas = h.commas;
      last = w.ends_at s.source p v h.live e;
      live = w.live_after s.source h.live;
      hands = g;
      falls = omega (arith, h.falls, w.falls s.source p v h.live e);
    };
  }

  joined_on : (T : ℕ → Bool) → T regex_kind ≡ false → T end_kind ≡ false → (k : Ceiling) (s : State S) (o : List ℕ) (n : ℕ) (l : List PlacedToken) → Beside m Live k s (on o n l) → T (kind (input lm (on o n l))) ≡ true → Joined m Live k s (on o n l)
  joined_on T a b k s o n [] h y = absurd (true≢false (sym y ∙ b))
  joined_on T a b k s o n (p ∷ l) h y = by_case h.hands
    where
      by_case : HandsOut m (p ∷ l) s.source → Joined m Live k s (on o n (p ∷ l))
      by_case (inr g) = absurd (true≢false (sym y ∙ (ap T g.4.1 ∙ a)))
      by_case (inl g) = joined_to k s o n p l h g.0 g.1 g.2

  -- where the list's first token passes a test that no regular expression passes
  pub joined_by : (T : ℕ → Bool) → T regex_kind ≡ false → T end_kind ≡ false → (k : Ceiling) (s : State S) (r : State Input) → Beside m Live k s r → T (kind (input lm r)) ≡ true → Joined m Live k s r
  joined_by T a b k s r h y = joined_on T a b k s r.commas r.source.last r.source.places h y

  pub joined_at : (j : ℕ) → Plain j → (k : Ceiling) (s : State S) (r : State Input) → Beside m Live k s r → at lm j r ≡ true → Joined m Live k s r
  joined_at j e k s r h y = joined_by (λ z. eqb z j) e.0 e.3 k s r h y

  -- what the first token has
  pub has_same : {A : Type 0} (B : List PlacedToken → A) → ((p : PlacedToken) (l v : List PlacedToken) → B (p ∷ l) ≡ B (p ∷ v)) → (k : Ceiling) (s : State S) (r : State Input) → Joined m Live k s r → B r.source.places ≡ B (m.seen s.source)
  has_same B f k s r j = ap B j.list ∙ (f j.first j.rest j.shown ∙ ap B (sym j.seen))

  pub first_same : (k : Ceiling) (s : State S) (r : State Input) → Joined m Live k s r → first_span (input lm r) ≡ first_span (input m s)
  first_same k s r j = ap₂ (λ (a b : ℕ). span a b) (lo_same k s r j.base) (by_hi (r.source.last) (m.last s.source))
    where
      by_hi : (n i : ℕ) → hi (record { last = n; places = r.source.places }) ≡ hi (record { last = i; places = m.seen s.source })
      by_hi n i = ap (λ z. hi (record { last = n; places = z })) j.list ∙ ap (λ z. hi (record { last = i; places = z })) (sym j.seen)

  pub kind_as : (k : Ceiling) (s : State S) (r : State Input) → Joined m Live k s r → kind (input lm r) ≡ kind (input m s)
  kind_as k s r j = has_same kind_of (λ p l v. refl) k s r j

  pub text_as : (k : Ceiling) (s : State S) (r : State Input) → Joined m Live k s r → text (input lm r) ≡ text (input m s)
  text_as k s r j = has_same (λ z. text (record { last = 0; places = z })) (λ p l v. refl) k s r j

  pub content_as : (k : Ceiling) (s : State S) (r : State Input) → Joined m Live k s r → content (input lm r) ≡ content (input m s)
  content_as k s r j = has_same content_of (λ p l v. refl) k s r j

  pub hi_as : (k : Ceiling) (s : State S) (r : State Input) → Joined m Live k s r → hi (input lm r) ≡ hi (input m s)
  hi_as k s r j = ap (λ z. hi (record { last = r.source.last; places = z })) j.list ∙ ap (λ z. hi (record { last = m.last s.source; places = z })) (sym j.seen)

  -- where the list's first token is no regular expression
  pub joined_other : (k : Ceiling) (s : State S) (o : List ℕ) (n : ℕ) (p : PlacedToken) (l : List PlacedToken) → Beside m Live k s (on o n (p ∷ l)) → eqb p.spot.token.kind regex_kind ≡ false → Joined m Live k s (on o n (p ∷ l))
  joined_other k s o n p l h e = by_case h.hands
    where
      by_case : HandsOut m (p ∷ l) s.source → Joined m Live k s (on o n (p ∷ l))
      by_case (inr g) = absurd (true≢false (ap (λ (z : ℕ). eqb z regex_kind) (sym g.4.1) ∙ e))
      by_case (inl g) = joined_to k s o n p l h g.0 g.1 g.2

  -- a test of two tokens, where the first is the same
  pub joined2 : {A : Type 0} (B : List PlacedToken → A) → ((n p q : PlacedToken) (l v : List PlacedToken) → B (n ∷ regexp p ∷ l) ≡ B (n ∷ slash true p q ∷ v)) → ((n p q : PlacedToken) (l v : List PlacedToken) → B (n ∷ regexp p ∷ l) ≡ B (n ∷ slash false p q ∷ v))
      → ((n p : PlacedToken) (l v : List PlacedToken) → B (n ∷ p ∷ l) ≡ B (n ∷ p ∷ v)) → (k : Ceiling) (s : State S) (r : State Input) → Joined m Live k s r → B r.source.places ≡ B (m.seen s.source)
  joined2 B c d f k s r j = ap B j.list ∙ (by_shown j.rest j.shown (subst (λ z. Next (Next Any) j.rest z) (sym (w.behind s.source j.first j.shown j.base.live j.seen)) (two_next j.rest (m.seen (m.after s.source)) (less j.rest (m.seen (m.after s.source)) (after_next j)))) ∙ ap B (sym j.seen))
    where
      less : (l v : List PlacedToken) → Next (Next (Next Any)) l v → Next (Next Any) l v
      less [] v h = h
      less (p ∷ l) v (inr h) = inr h
      less (p ∷ l) v (inl h) = inl (h.0, h.1, lesser l h.0 h.2)
        where
          lesser : (l v : List PlacedToken) → Next (Next Any) l v → Next Any l v
          lesser [] v h = h
          lesser (p ∷ l) v (inr h) = inr h
          lesser (p ∷ l) v (inl h) = inl (h.0, h.1, tt)

      after_next : Joined m Live k s r → Next (Next (Next Any)) j.rest (m.seen (m.after s.source))
      after_next i = subst (λ z. Next (Next (Next Any)) z (m.seen (m.after s.source))) (ap others j.list) (seen_next k (past m s) (past lm r) i.after)

      by_shown : (l v : List PlacedToken) → Next (Next Any) l v → B (j.first ∷ l) ≡ B (j.first ∷ v)
      by_shown l v h = look1 (λ z. B (j.first ∷ z)) (c j.first) (d j.first) (f j.first) (Next Any) l v h

  -- ---- answers

  pub told_ok : {A : Type 0} (k : Ceiling) (a b : A) (s : State S) (r : State Input) → Beside m Live k s r → a ≡ b → Told m Live k (Ok (a, r)) (Ok (b, s))
  told_ok k a b s r h e = record { so = (s, ap (λ z. Ok (z, s)) (sym e), h) }

  pub never : {A : Type 0} (k : Ceiling) (e : Fault) (x : Result (A × State S) Fault) → Told m Live k (Err e) x
  never k e x = record { so = tt }

  pub told_then : {A B : Type 0} (k : Ceiling) (y : Result (A × State Input) Fault) (x : Result (A × State S) Fault) (f : A × State Input → Result (B × State Input) Fault) (g : A × State S → Result (B × State S) Fault)
      → Told m Live k y x → ((a : A) (s : State S) (r : State Input) → Beside m Live k s r → Told m Live k (f (a, r)) (g (a, s))) → Told m Live k (y >>= f) (x >>= g)
  told_then k (Ok y) x f g h n = subst (λ z. Told m Live k (f y) (z >>= g)) (sym h.so.1) (n y.0 h.so.0 y.1 h.so.2)
  told_then k (Err e) x f g h n = record { so = tt }

  pub told_if : {A : Type 0} (k : Ceiling) (b d : Bool) → b ≡ d → (y v : Result (A × State Input) Fault) (x u : Result (A × State S) Fault)
      → (b ≡ true → Told m Live k y x) → (b ≡ false → Told m Live k v u) → Told m Live k (cond b y v) (cond d x u)
  told_if k true true e y v x u h n = h refl
  told_if k false false e y v x u h n = n refl
  told_if k true false e y v x u h n = absurd (true≢false e)
  told_if k false true e y v x u h n = absurd (true≢false (sym e))

  -- a token of a kind comes, or another
  pub told_at : {A : Type 0} (k : Ceiling) (j : ℕ) → Plain j → (s : State S) (r : State Input) → Beside m Live k s r → (y v : Result (A × State Input) Fault) (x u : Result (A × State S) Fault)
      → (Joined m Live k s r → Told m Live k y x) → Told m Live k v u → Told m Live k (cond (at lm j r) y v) (cond (at m j s) x u)
  told_at k j e s r h y v x u f g = told_if k (at lm j r) (at m j s) (at_same j e k s r h) y v x u (λ i. f (joined_at j e k s r h i)) (λ i. g)

  -- where faults are found changes nothing of what is read
  pub told_placed : {A B C : Type 0} (n i : ℕ) (k : Ceiling) (y : Result B Fault) (x : Result C Fault) (f : B → Result (A × State Input) Fault) (g : C → Result (A × State S) Fault) → Told m Live k (y >>= f) (x >>= g) → Told m Live k (placed n y >>= f) (placed i x >>= g)
  told_placed {A} {B} {C} n i k (Ok b) x f g h = by_answer (f b) h
    where
      by_answer : (y : Result (A × State Input) Fault) → Told m Live k y (x >>= g) → Told m Live k y (placed i x >>= g)
      by_answer (Ok y) h = record { so = (h.so.0, placed_then i x g h.so.1, h.so.2) }
      by_answer (Err d) h = record { so = tt }
  told_placed n i k (Err (Unexpected d)) x f g h = record { so = tt }
  told_placed n i k (Err (TooDeep d)) x f g h = record { so = tt }

  -- what stands on no source
  pub told_pure : {A B : Type 0} (n i : ℕ) (k : Ceiling) (y x : Result B Fault) → y ≡ x → (f : B → Result (A × State Input) Fault) (g : B → Result (A × State S) Fault) → ((b : B) → Told m Live k (f b) (g b)) → Told m Live k (placed n y >>= f) (placed i x >>= g)
  told_pure {A} {B} n i k y x e f g h = told_placed n i k y x f g (by_answer y x e)
    where
      by_answer : (y x : Result B Fault) → y ≡ x → Told m Live k (y >>= f) (x >>= g)
      by_answer (Ok b) x e = subst (λ z. Told m Live k (f b) (z >>= g)) e (h b)
      by_answer (Err d) x e = record { so = tt }

  -- ---- tokens

  taken : {A : Type 0} (p q : Fault) (k : Ceiling) (b d : Bool) → b ≡ d → (s : State S) (r : State Input) (f : State Input → Result (A × State Input) Fault) (g : State S → Result (A × State S) Fault)
      → (b ≡ true → Told m Live k (f r) (g s)) → Told m Live k (cond b (Ok r) (Err p) >>= f) (cond d (Ok s) (Err q) >>= g)
  taken p q k true true e s r f g h = h refl
  taken p q k false d e s r f g h = record { so = tt }
  taken p q k true false e s r f g h = absurd (true≢false e)

  pub told_eat : {A : Type 0} (k : Ceiling) (j : ℕ) → Plain j → (s : State S) (r : State Input) → Beside m Live k s r → (f : State Input → Result (A × State Input) Fault) (g : State S → Result (A × State S) Fault)
      → (Joined m Live k s r → Told m Live k (f (past lm r)) (g (past m s))) → Told m Live k (eat lm j r >>= f) (eat m j s >>= g)
  unfolding eat
  told_eat k j e s r h f g n = taken _ _ k (at lm j r) (at m j s) (at_same j e k s r h) (past m s) (past lm r) f g (λ i. n (joined_at j e k s r h i))

  word_test : (j : ℕ) (x : Context) → Plain j → (k : Ceiling) (s : State S) (r : State Input) → Beside m Live k s r → (at lm j r && not (barred x (input lm r))) ≡ (at m j s && not (barred x (input m s)))
  word_test j x e k s r h = agree1 (λ z. at lm j (on [] 0 z) && not (barred x (input lm (on [] 0 z))))
      (λ p q l v. ap (λ b. b && not (barred x (input lm (on [] 0 (regexp p ∷ l))))) e.0 ∙ sym (ap (λ b. b && not (barred x (input lm (on [] 0 (slash true p q ∷ v))))) e.1))
      (λ p q l v. ap (λ b. b && not (barred x (input lm (on [] 0 (regexp p ∷ l))))) e.0 ∙ sym (ap (λ b. b && not (barred x (input lm (on [] 0 (slash false p q ∷ v))))) e.2))
      (λ p l v. refl) k s r h

  pub told_word : {A : Type 0} (k : Ceiling) (c : Code) (j : ℕ) → Plain j → (s : State S) (r : State Input) → Beside m Live k s r → (f : State Input → Result (A × State Input) Fault) (g : State S → Result (A × State S) Fault)
      → (Joined m Live k s r → Told m Live k (f (past lm r)) (g (past m s))) → Told m Live k (eat_word lm c j r >>= f) (eat_word m c j s >>= g)
  unfolding eat_word
  told_word k c j e s r h f g n = taken _ _ k (at lm j r && not (barred c.context (input lm r))) (at m j s && not (barred c.context (input m s))) (word_test j c.context e k s r h) (past m s) (past lm r) f g
      (λ i. n (joined_at j e k s r h (and_first (at lm j r) (not (barred c.context (input lm r))) i)))

  -- a word that is any
  own_test : (x : Context) (k : Ceiling) (s : State S) (r : State Input) → Joined m Live k s r → (at lm (kind (input lm r)) r && not (barred x (input lm r))) ≡ (at m (kind (input m s)) s && not (barred x (input m s)))
  own_test x k s r j = has_same (λ z. at lm (kind (input lm (on [] 0 z))) (on [] 0 z) && not (barred x (input lm (on [] 0 z)))) (λ p l v. refl) k s r j

  pub told_own : {A : Type 0} (k : Ceiling) (c : Code) (s : State S) (r : State Input) → Joined m Live k s r → (f : State Input → Result (A × State Input) Fault) (g : State S → Result (A × State S) Fault)
      → Told m Live k (f (past lm r)) (g (past m s)) → Told m Live k (eat_word lm c (kind (input lm r)) r >>= f) (eat_word m c (kind (input m s)) s >>= g)
  unfolding eat_word
  told_own k c s r j f g n = taken _ _ k _ _ (own_test c.context k s r j) (past m s) (past lm r) f g (λ i. n)

  named : {A B : Type 0} (p q : Fault) (k : Ceiling) (b d : Bool) → b ≡ d → (x y : B) → (b ≡ true → x ≡ y) → (s : State S) (r : State Input) (f : B × State Input → Result (A × State Input) Fault) (g : B × State S → Result (A × State S) Fault)
      → (b ≡ true → Told m Live k (f (x, r)) (g (x, s))) → Told m Live k (cond b (Ok (x, r)) (Err p) >>= f) (cond d (Ok (y, s)) (Err q) >>= g)
  named p q k true true e x y i s r f g h = subst (λ z. Told m Live k (f (x, r)) (g (z, s))) (i refl) (h refl)
  named p q k false d e x y i s r f g h = record { so = tt }
  named p q k true false e x y i s r f g h = absurd (true≢false e)

  pub is_name_same : (c : Code) (k : Ceiling) (s : State S) (r : State Input) → Beside m Live k s r → is_name lm c r ≡ is_name m c s
  is_name_same c k s r h = agree1 (λ z. is_name lm c (on [] 0 z)) (λ p q l v. refl) (λ p q l v. refl) (λ p l v. refl) k s r h

  pub joined_word : (k : Ceiling) (s : State S) (r : State Input) → Beside m Live k s r → is_word (kind (input lm r)) ≡ true → Joined m Live k s r
  joined_word k s r h y = joined_by is_word refl refl k s r h y

  pub joined_name : (c : Code) (k : Ceiling) (s : State S) (r : State Input) → Beside m Live k s r → is_name lm c r ≡ true → Joined m Live k s r
  joined_name c k s r h y = joined_word k s r h (and_first (is_word (kind (input lm r))) _ y)

  pub told_name : {A : Type 0} (k : Ceiling) (c : Code) (s : State S) (r : State Input) → Beside m Live k s r → (f : List ℕ × State Input → Result (A × State Input) Fault) (g : List ℕ × State S → Result (A × State S) Fault)
      → ((n : List ℕ) → Joined m Live k s r → Told m Live k (f (n, past lm r)) (g (n, past m s))) → Told m Live k (name lm c r >>= f) (name m c s >>= g)
  unfolding name
  told_name k c s r h f g n = named _ _ k (is_name lm c r) (is_name m c s) (is_name_same c k s r h) (text (input lm r)) (text (input m s)) (λ i. text_as k s r (joined_name c k s r h i)) (past m s) (past lm r) f g
      (λ i. n (text (input lm r)) (joined_name c k s r h i))

  pub told_name_of : {A : Type 0} (a b : ℕ) (k : Ceiling) (c : Code) (s : State S) (r : State Input) → Beside m Live k s r → (f : List ℕ × State Input → Result (A × State Input) Fault) (g : List ℕ × State S → Result (A × State S) Fault)
      → ((n : List ℕ) → Joined m Live k s r → Told m Live k (f (n, past lm r)) (g (n, past m s))) → Told m Live k (placed a (name lm c r) >>= f) (placed b (name m c s) >>= g)
  told_name_of a b k c s r h f g n = told_placed a b k (name lm c r) (name m c s) f g (told_name k c s r h f g n)

  pub is_word_same : (k : Ceiling) (s : State S) (r : State Input) → Beside m Live k s r → is_word (kind (input lm r)) ≡ is_word (kind (input m s))
  is_word_same k s r h = kind_same is_word refl refl k s r h

  pub told_any : {A : Type 0} (k : Ceiling) (s : State S) (r : State Input) → Beside m Live k s r → (f : List ℕ × State Input → Result (A × State Input) Fault) (g : List ℕ × State S → Result (A × State S) Fault)
      → ((n : List ℕ) → Joined m Live k s r → Told m Live k (f (n, past lm r)) (g (n, past m s))) → Told m Live k (any_word lm r >>= f) (any_word m s >>= g)
  unfolding any_word
  told_any k s r h f g n = named _ _ k (is_word (kind (input lm r))) (is_word (kind (input m s))) (is_word_same k s r h) (text (input lm r)) (text (input m s)) (λ i. text_as k s r (joined_word k s r h i)) (past m s) (past lm r) f g
      (λ i. n (text (input lm r)) (joined_word k s r h i))

  -- ---- what ends a statement

  goes_slash : (c : Code) (e : ℕ) (b : Bool) (n i : ℕ) (p q : PlacedToken) (l v : List PlacedToken) → nat_le 1 (goes_expr c e (record { last = n; places = regexp p ∷ l })) ≡ nat_le 1 (goes_expr c e (record { last = i; places = slash b p q ∷ v }))
  goes_slash c e true n i p q l v = goes_by (nat_le closed_end e)
    where
      goes_by : (z : Bool) → nat_le 1 (cond z 0 (binary_level div_kind)) ≡ nat_le 1 (cond z 0 assignment_level)
      goes_by true = refl
      goes_by false = refl
  goes_slash c e false n i p q l v = refl

  pauses_slash : (c : Code) (e : ℕ) (b : Bool) (n i : ℕ) (p q : PlacedToken) (l v : List PlacedToken) → pauses c e (record { last = n; places = regexp p ∷ l }) ≡ pauses c e (record { last = i; places = slash b p q ∷ v })
  pauses_slash c e true n i p q l v = rw (sym (goes_slash c e true n i p q l v)) (rw (sym (goes_slash c other_end true n i p q l v)) refl)
  pauses_slash c e false n i p q l v = refl

  pub pauses_same : (c : Code) (e : ℕ) (k : Ceiling) (s : State S) (r : State Input) → Beside m Live k s r → pauses c e (input lm r) ≡ pauses c e (input m s)
  pauses_same c e k s r h = agree2 (λ z. pauses c e (record { last = 0; places = z })) (λ p q l v. pauses_slash c e true 0 0 p q l v) (λ p q l v. pauses_slash c e false 0 0 p q l v) (λ n p q l v. refl) (λ n p q l v. refl) (λ n p l v. refl) k s r h

  pub told_end : {A : Type 0} (k : Ceiling) (c : Code) (e d : ℕ) → e ≡ d → (s : State S) (r : State Input) → Beside m Live k s r → (f : State Input → Result (A × State Input) Fault) (g : State S → Result (A × State S) Fault)
      → ((s : State S) (r : State Input) → Beside m Live k s r → Told m Live k (f r) (g s)) → Told m Live k (end_of lm c e r >>= f) (end_of m c d s >>= g)
  unfolding end_of
  told_end k c e d i s r h f g n = subst (λ (z : ℕ). Told m Live k (end_of lm c e r >>= f) (end_of m c z s >>= g)) i
      (by_test (at lm semicolon_kind r) (at m semicolon_kind s) (at_same semicolon_kind (refl, refl, refl, refl) k s r h) (λ y. joined_at semicolon_kind (refl, refl, refl, refl) k s r h y) (pauses c e (input lm r)) (pauses c e (input m s)) (pauses_same c e k s r h))
    where
      by_test : (a b : Bool) → a ≡ b → (a ≡ true → Joined m Live k s r) → (x y : Bool) → x ≡ y
          → Told m Live k (cond a (Ok (past lm r)) (cond x (Ok r) (unexpected lm r)) >>= f) (cond b (Ok (past m s)) (cond y (Ok s) (unexpected m s)) >>= g)
      by_test true true i j x y e = n _ _ (j refl).after
      by_test false false i j x y e = taken _ _ k x y e s r f g (λ i. n s r h)
      by_test true false i j x y e = absurd (true≢false i)
      by_test false true i j x y e = absurd (true≢false (sym i))

  -- ---- loops

  -- A turn is begun at a ceiling of its own.
  abbrev here : State S → State Input → Ceiling
  here s r = record { bound = m.bound s.source; length = length r.source.places }

  below : (k : Ceiling) (s : State S) (r : State Input) → Beside m Live k s r → Beside m Live (here s r) s r
  below k s r h = record { commas = h.commas; last = h.last; live = h.live; hands = h.hands; falls = omega arith }

  back : (k : Ceiling) (s t : State S) (r q : State Input) → Beside m Live k s r → Beside m Live (here s r) t q → Beside m Live k t q
  back k s t r q h g = record { commas = g.commas; last = g.last; live = g.live; hands = g.hands; falls = omega (arith, h.falls, g.falls) }

  module _ {A : Type 0} (P : A → Type 0) (f : A → Read Input (Step A)) (g : A → Read S (Step A)) (h : (k : Ceiling) (x : A) (s : State S) (r : State Input) → P x → Beside m Live k s r → Told m Live k (f x r) (g x s)) (keeps : (x : A) (r : State Input) → P x → Keeps P (f x r)) where
    again : (i j : ℕ) (k : Ceiling) (n : ℕ) (b : Bool) (z : A) (t : State S) (q : State Input) → (b ≡ true → (nat_lt (m.bound t.source) n ≡ true) × Told m Live k (iterate_n (bound lm) i f z q) (iterate_n (bound m) j g z t))
        → Told m Live k (cond b (iterate_n (bound lm) i f z q) (unexpected lm q)) (cond (nat_lt (m.bound t.source) n) (iterate_n (bound m) j g z t) (unexpected m t))
    again i j k n false z t q h = record { so = tt }
    again i j k n true z t q h = subst (λ (b : Bool). Told m Live k (iterate_n (bound lm) i f z q) (cond b (iterate_n (bound m) j g z t) (unexpected m t))) (sym (h refl).0) (h refl).1

    -- after a turn, where the turns that follow are known
    by_next : (i j : ℕ) (k : Ceiling) (s : State S) (r : State Input) → Beside m Live k s r → m.bound s.source < suc j
        → ((z : A) (t : State S) (q : State Input) → P z → Beside m Live k t q → m.bound t.source < j → Told m Live k (iterate_n (bound lm) i f z q) (iterate_n (bound m) j g z t))
        → (z : Step A) (t : State S) (q : State Input) → KeepsBy P (Ok (z, q)) → Beside m Live (here s r) t q
        → Told m Live k (next_by (bound lm) (iterate_n (bound lm) i f) (bound lm r) (z, q)) (next_by (bound m) (iterate_n (bound m) j g) (bound m s) (z, t))
    by_next i j k s r a e n (finished z) t q p b = told_ok k z z t q (back k s t r q a b) refl
    by_next i j k s r a e n (go_on z) t q p b = again i j k (m.bound s.source) (nat_lt (length q.source.places) (length r.source.places)) z t q
        (λ y. (
          lt-ltb (m.bound t.source) (m.bound s.source) (omega (arith, b.falls, ltb-true (length q.source.places) (length r.source.places) y)),
          n z t q p (back k s t r q a b) (omega (arith, e, b.falls, ltb-true (length q.source.places) (length r.source.places) y)),
        ))

    by_turn : (i j : ℕ) (k : Ceiling) (s : State S) (r : State Input) → Beside m Live k s r → m.bound s.source < suc j
        → ((z : A) (t : State S) (q : State Input) → P z → Beside m Live k t q → m.bound t.source < j → Told m Live k (iterate_n (bound lm) i f z q) (iterate_n (bound m) j g z t))
        → (y : Result (Step A × State Input) Fault) (x : Result (Step A × State S) Fault) → Keeps P y → Told m Live (here s r) y x
        → Told m Live k (y >>= next_by (bound lm) (iterate_n (bound lm) i f) (bound lm r)) (x >>= next_by (bound m) (iterate_n (bound m) j g) (bound m s))
    by_turn i j k s r a e n (Err d) x p h = record { so = tt }
    by_turn i j k s r a e n (Ok y) x p h = subst (λ z. Told m Live k (next_by (bound lm) (iterate_n (bound lm) i f) (bound lm r) y) (z >>= next_by (bound m) (iterate_n (bound m) j g) (bound m s))) (sym h.so.1) (by_next i j k s r a e n y.0 h.so.0 y.1 p.so h.so.2)

    turns : (i j : ℕ) (k : Ceiling) (x : A) (s : State S) (r : State Input) → P x → Beside m Live k s r → m.bound s.source < j → Told m Live k (iterate_n (bound lm) i f x r) (iterate_n (bound m) j g x s)
    unfolding iterate_n
    turns zero j k x s r p a e = record { so = tt }
    turns (suc i) zero k x s r p a e = absurd (omega (arith, e))
    turns (suc i) (suc j) k x s r p a e = by_turn i j k s r a e (λ z t q c b d. turns i j k z t q c b d) (f x r) (g x s) (keeps x r p) (h (here s r) x s r p (below k s r a))

    pub told_iterate_in : (k : Ceiling) (x : A) (s : State S) (r : State Input) → P x → Beside m Live k s r → Told m Live k (iterate (bound lm) f x r) (iterate (bound m) g x s)
    unfolding iterate
    told_iterate_in k x s r p a = turns _ _ k x s r p a (omega arith)

  pub told_iterate : {A : Type 0} (f : A → Read Input (Step A)) (g : A → Read S (Step A)) → ((k : Ceiling) (x : A) (s : State S) (r : State Input) → Beside m Live k s r → Told m Live k (f x r) (g x s))
      → (k : Ceiling) (x : A) (s : State S) (r : State Input) → Beside m Live k s r → Told m Live k (iterate (bound lm) f x r) (iterate (bound m) g x s)
  told_iterate {A} f g h k x s r a = told_iterate_in (λ (z : A). Unit {0}) f g (λ k x s r p a. h k x s r a) (λ x r p. any (f x r)) k x s r tt a
    where
      any : (y : Result (Step A × State Input) Fault) → Keeps (λ (z : A). Unit {0}) y
      any (Ok (go_on z, r)) = record { so = tt }
      any (Ok (finished z, r)) = record { so = tt }
      any (Err e) = record { so = tt }

  -- ---- the code around, and operands

  pub turned_beside : (x : Context) → x.module_ ≡ modular → (k : Ceiling) (s : State S) (r : State Input) → Beside m Live k s r → Beside m Live k (retold m x s) (retold lm x r)
  turned_beside x e k s r h = record {
    commas = h.commas;
    last = w.turned_last x s.source h.live ∙ h.last;
    live = w.live_turned x s.source e h.live;
    hands = w.told x s.source r.source.places e h.live h.hands;
    falls = omega (arith, h.falls, w.turned_falls x s.source h.live);
  }

  -- before a list that starts with a regular expression, that comes
  abbrev pub Fresh : Ceiling → State S → State Input → Type 0
  Fresh k s r = at lm regex_kind r ≡ true → Joined m Live k s r

  operand_plain : (k : Ceiling) (s : State S) (r : State Input) → Beside m Live k s r → is_slash (kind_of (m.seen s.source)) ≡ false → Fresh k s r → Beside m Live k (operand m s) r × Fresh k (operand m s) r
  operand_plain k s r h e f = subst (λ (z : S). Beside m Live k (record { source = z; commas = s.commas }) r × Fresh k (record { source = z; commas = s.commas }) r) (sym (w.plain s.source h.live e)) (h, f)

  operand_on : {P : Type 0} (k : Ceiling) (s : State S) (o : List ℕ) (n : ℕ) (l : List PlacedToken) → Beside m Live k s (on o n l) → (is_slash (kind (input lm (on o n l))) ≡ true → P)
      → (Beside m Live k (operand m s) (on o n l) → Fresh k (operand m s) (on o n l) → P) → P
  operand_on k s o n [] h a b = let z = operand_plain k s (on o n []) h (ap (λ z. is_slash (kind_of z)) h.hands) (λ y. absurd (true≢false (sym y))) in b z.0 z.1
  operand_on {P} k s o n (p ∷ l) h a b = by_hands h.hands
    where
      by_sort : (v : List PlacedToken) → m.seen s.source ≡ p ∷ v → HandsOut m l (m.after s.source) → (t : Bool) → is_slash p.spot.token.kind ≡ t → P
      by_sort v e g true i = a i
      by_sort v e g false i = let z = operand_plain k s (on o n (p ∷ l)) h (ap (λ z. is_slash (kind_of z)) e ∙ i) (λ y. joined_to k s o n p l h v e g) in b z.0 z.1

      moved : (v : List PlacedToken) → m.seen (m.operand s.source) ≡ p ∷ v → HandsOut m l (m.after (m.operand s.source)) → Beside m Live k (operand m s) (on o n (p ∷ l))
      moved v e g = record { commas = h.commas; last = w.operand_last s.source h.live ∙ h.last; live = w.live_operand s.source h.live; hands = inl (v, e, g); falls = omega (arith, h.falls, w.operand_falls s.source h.live) }

      by_hands : HandsOut m (p ∷ l) s.source → P
      by_hands (inl g) = by_sort g.0 g.1 g.2 (is_slash p.spot.token.kind) refl
      by_hands (inr g) = b (moved g.2 g.5 g.6) (λ y. joined_to k (operand m s) o n p l (moved g.2 g.5 g.6) g.2 g.5 g.6)

  -- where an operand may start: the list's first token is a slash, or it comes
  pub told_operand : {P : Type 0} (k : Ceiling) (s : State S) (r : State Input) → Beside m Live k s r → (is_slash (kind (input lm r)) ≡ true → P)
      → (Beside m Live k (operand m s) r → Fresh k (operand m s) r → P) → P
  told_operand k s r h a b = operand_on k s r.commas r.source.last r.source.places h a b

-- ---- what is not read

abbrev pub Refused : {A : Type 0} → Result A Fault → Type 0
Refused y = (e : Fault) × (y ≡ Err e)

pub refused_then : {A B : Type 0} (y : Result A Fault) (f : A → Result B Fault) → Refused y → Refused (y >>= f)
refused_then y f h = (h.0, ap (λ z. z >>= f) h.1)

pub refused_else : {A : Type 0} (b : Bool) (x y : Result A Fault) → b ≡ false → Refused y → Refused (cond b x y)
refused_else true x y e h = absurd (true≢false e)
refused_else false x y e h = h

-- a fact of any list that starts with a slash is one of these
pub at_slash : (P : State Input → Type 0) → ((o : List ℕ) (n : ℕ) (p : PlacedToken) (l : List PlacedToken) → P (on o n (kinded div_assign_kind p ∷ l))) → ((o : List ℕ) (n : ℕ) (p : PlacedToken) (l : List PlacedToken) → P (on o n (kinded div_kind p ∷ l)))
    → (r : State Input) → is_slash (kind (input lm r)) ≡ true → P r
at_slash P f g r e = by_list r.commas r.source.last r.source.places e
  where
    by_list : (o : List ℕ) (n : ℕ) (l : List PlacedToken) → is_slash (kind (input lm (on o n l))) ≡ true → P (on o n l)
    by_list o n [] e = absurd (true≢false (sym e))
    by_list o n (p ∷ l) e = by_kind (slash_kind p.spot.token.kind e)
      where
        by_kind : (p.spot.token.kind ≡ div_assign_kind) ⊎ (p.spot.token.kind ≡ div_kind) → P (on o n (p ∷ l))
        by_kind (inl i) = subst (λ (z : ℕ). P (on o n (kinded z p ∷ l))) (sym i) (f o n p l)
        by_kind (inr i) = subst (λ (z : ℕ). P (on o n (kinded z p ∷ l))) (sym i) (g o n p l)

-- ---- the readers of nested parts

pub told_refused : {S A : Type 0} (m : Stream S) (Live : S → Type 0) (k : Ceiling) (y : Result (A × State Input) Fault) (x : Result (A × State S) Fault) → Refused y → Told m Live k y x
told_refused m Live k y x h = subst (λ z. Told m Live k z x) (sym h.1) (record { so = tt })

-- Each reads of the source what it reads of the list; and no expression and no statement starts with a slash.
pub record Heard {S : Type 0} (m : Stream S) (Live : S → Type 0) (modular : Bool) (il : Inner Input) (im : Inner S) : Type 0 where
  pub expr : (k : Ceiling) (c : Code) (e : c.context.module_ ≡ modular) (l : ℕ) (s : State S) (r : State Input) → Beside m Live k s r → Told m Live k (il.expr c l r) (im.expr c l s)
  pub pat : (k : Ceiling) (c : Code) (e : c.context.module_ ≡ modular) (s : State S) (r : State Input) → Beside m Live k s r → Told m Live k (il.pat c r) (im.pat c s)
  pub stmt : (k : Ceiling) (c : Code) (e : c.context.module_ ≡ modular) (s : State S) (r : State Input) → Beside m Live k s r → Told m Live k (il.stmt c r) (im.stmt c s)
  pub body : (k : Ceiling) (c : Code) (e : c.context.module_ ≡ modular) (s : State S) (r : State Input) → Beside m Live k s r → Told m Live k (il.body c r) (im.body c s)
  pub class_tail : (k : Ceiling) (c : Code) (e : c.context.module_ ≡ modular) (n : ℕ) (s : State S) (r : State Input) → Beside m Live k s r → Told m Live k (il.class_tail c n r) (im.class_tail c n s)
  pub no_expr : (c : Code) (l : ℕ) (r : State Input) → is_slash (kind (input lm r)) ≡ true → Refused (il.expr c l r)
  pub no_stmt : (c : Code) (r : State Input) → is_slash (kind (input lm r)) ≡ true → Refused (il.stmt c r)

-- what the rules say of trees and tokens alone is the same over any readers
module _ {S : Type 0} (m : Stream S) (i : Inner S) (j : Inner Input) where
  pub same_rest : (t : Tree) → is_rest_param lm j t ≡ is_rest_param m i t
  same_rest (param s ds (rest_pat t d p)) = refl
  same_rest _ = refl

  pub same_pattern : (t : Tree) → pattern_of lm j t ≡ pattern_of m i t
  same_pattern (param s ds p) = refl
  same_pattern _ = refl

  pub same_quasi : (c : Content) (s : Span) → ◌≡◌ {A = Bool → Option Tree} (quasi lm j c s) (quasi m i c s)
  same_quasi (Piece raw cooked) s = refl
  same_quasi _ s = refl

  pub same_constructor : (s : Span) (k t : Tree) → constructor_of lm j s k t ≡ constructor_of m i s k t
  same_constructor s k (function t ps ds b g a) = refl
  same_constructor s k _ = refl

  pub same_default : (ts : List Tree) → has_default lm j ts ≡ has_default m i ts
  same_default [] = refl
  same_default (t ∷ ts) = ap (λ b. is_default_case t || b) (same_default ts)

  pub same_bare : (ts : List Tree) → one_bare lm j ts ≡ one_bare m i ts
  same_bare [] = refl
  same_bare (t ∷ []) = refl
  same_bare (t ∷ (u ∷ ts)) = refl

  pub same_line : (c : Content) → line_of lm j c ≡ line_of m i c
  same_line (Line l) = refl
  same_line _ = refl
