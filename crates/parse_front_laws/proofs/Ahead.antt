-- Parameters without their parentheses are read one token ahead: what is read of a front is read of it before another rest that begins with the same token.
use Rattle.std.proofs.Common.{◌≡◌, ◌<◌, ℕ, zero, suc, Bool, true, false, not, ◌&&◌, cond, eqb, nat_lt, List, [], ◌∷◌, ◌++◌, length, append_assoc, append-nil, Result, Ok, Err, inl, inr, ◌⊎◌, refl, sym, ap, ◌∙◌, subst, true≢false, arith}
use Rattle.std.proofs.lemmas.Bool.{eqb-true, and_parts, not-true, lt-ltb}
use Rattle.base_proofs.proofs.Bools.{cond_second, cond_first}
use Rattle.base_token.specs.declared.place.Span.{Span}
use Rattle.base_token.specs.Kinds.{comma_kind, dot_dot_dot_kind, assign_kind}
use Rattle.tree_spec.specs.Tree.{Tree, Trees, none, more, unpack, param, rest_pat, assign_pat}
use Rattle.grammar_spec.specs.Tokens.Input.{PlacedToken, Input, Code, kind, kind_of, lo_of, dots_at, span, with_in, others, hi_of, Takes}
use Rattle.grammar_spec.specs.Tokens.Operators.{may_name, assignment_level}
use Rattle.grammar_spec.specs.Tokens.Shape.{is_binding, is_param, is_rest, last_tree}
use Rattle.grammar_spec.specs.Grammar.{Produces}
use Rattle.grammar_spec.specs.Reader.Source.{Fault, ◌>>=◌, State, past, bound, at, spanned, Step, go_on, finished, next_by, iterate_n, here}
use Rattle.grammar_spec.specs.Reader.Expressions.{parameter_by, is_rest_param}
use Rattle.grammar_spec.specs.Reader.Reading.{readers}
use Rattle.grammar_laws.specs.CompleteBase.Laws.{coded}
use Rattle.grammar_laws.proofs.Sure.{lm, Sure}
use Rattle.grammar_laws.proofs.ByDepth.{all_sound}
use Rattle.grammar_laws.proofs.Functions.{GotParam, parameter_sure}
use Rattle.grammar_laws.proofs.SoundLemmas.{patterns_sound}
use Rattle.grammar_laws.proofs.complete_rules.Functions.{rest_same}
use Rattle.parse_source_laws.specs.Sources.{one}
use Rattle.parse_source_laws.specs.Ahead.{Named, Instead, at_list}
use Rattle.parse_source_laws.proofs.Ahead.{one_ahead}
use Rattle.parse_front_laws.specs.Complete.Laws.{input_at}
use Rattle.parse_alone.specs.Parts.{starts_param, bare_step}

-- ---- tests of the first token

by_one : {A : Type 0} (B : List PlacedToken → A) → ((p : PlacedToken) (l : List PlacedToken) → B (p ∷ l) ≡ B (p ∷ [])) → (l : List PlacedToken) → B l ≡ B (one l)
by_one B h [] = refl
by_one B h (p ∷ l) = h p l

pub first_alike : {A : Type 0} (B : List PlacedToken → A) → ((p : PlacedToken) (l : List PlacedToken) → B (p ∷ l) ≡ B (p ∷ [])) → (l v : List PlacedToken) → one l ≡ one v → B l ≡ B v
first_alike B h l v e = by_one B h l ∙ (ap B e ∙ sym (by_one B h v))

pub first_onto : (f l v : List PlacedToken) → one l ≡ one v → one (f ++ l) ≡ one (f ++ v)
first_onto [] l v e = e
first_onto (x ∷ f) l v e = refl

pub kind_alike : (l v : List PlacedToken) → one l ≡ one v → kind_of l ≡ kind_of v
kind_alike l v e = first_alike kind_of (λ p l. refl) l v e

-- a list that begins with a token of some kind
split_first : (k n : ℕ) (l : List PlacedToken) (P : Type 0) → eqb 0 k ≡ false → eqb (kind_of l) k ≡ true → ((p : PlacedToken) (v : List PlacedToken) → l ≡ p ∷ v → P) → P
split_first k n [] P o e f = absurd (true≢false (sym e ∙ o))
split_first k n (p ∷ v) P o e f = f p v refl

named_behind : (f l : List PlacedToken) → Named (f ++ l) → Named l
named_behind [] l h = h
named_behind (x ∷ f) l h = named_behind f l h.1

-- ---- answers

abbrev found_or : {A : Type 0} → A → Result A Fault → A
found_or d (Ok x) = x
found_or d (Err e) = d

abbrev Found : {A : Type 0} → Result A Fault → Type 0
Found (Ok x) = Unit {0}
Found (Err e) = ⊥

pub then_ok : {A B : Type 0} (x : Result A Fault) (f : A → Result B Fault) (y : B) → (x >>= f) ≡ Ok y → (a : A) × (x ≡ Ok a) × (f a ≡ Ok y)
then_ok (Ok a) f y h = (a, refl, h)
then_ok (Err e) f y h = absurd (subst (λ z. Found z) (sym h) tt)

same_ok : {A : Type 0} (x y : A) → ◌≡◌ {A = Result A Fault} (Ok x) (Ok y) → x ≡ y
same_ok x y h = ap (λ z. found_or x z) h

no_ok : {A : Type 0} (e : Fault) (x : A) → ◌≡◌ {A = Result A Fault} (Err e) (Ok x) → ⊥
no_ok e x h = subst (λ z. Found z) (sym h) tt

by_cond : {A : Type 0} (b : Bool) (x y z : A) (P : Type 0) → cond b x y ≡ z → (b ≡ true → x ≡ z → P) → (b ≡ false → y ≡ z → P) → P
by_cond true x y z P h f g = f refl h
by_cond false x y z P h f g = g refl h

-- ---- one parameter

-- what an initialiser asks of another rest
abbrev pub Onward : Tree → List PlacedToken → List PlacedToken → Type 0
Onward (param s ds (assign_pat t p e)) l qs = Instead e l qs
Onward _ l qs = Unit {0}

pub onward_comma : (x : Tree) (l qs : List PlacedToken) → kind_of l ≡ comma_kind → one l ≡ one qs → Onward x l qs
onward_comma (param s ds (assign_pat t p e)) l qs k o = record { next = o; question = λ _ q. absurd (true≢false (ap (λ (n : ℕ). eqb n comma_kind) (sym k ∙ q))); word = λ _ _ _ w. absurd (true≢false (sym w ∙ ap may_name k)) }
onward_comma _ l qs k o = tt

-- ---- parameters that are produced

-- a comma stands last, or none does; one does before the first
abbrev pub Bare : Code → Bool → Trees → Input → Input → Type 0
Bare c true none ts r = ts ≡ r
Bare c false none ts r = ⊥
Bare c b (more x xs) ts r = (m : Input) × (is_param x ≡ true) × Produces x c ts m × (((is_rest x ≡ false) × (n : Input) × Takes c comma_kind m n × Bare c b xs n r) ⊎ ((b ≡ false) × (xs ≡ none) × (m ≡ r)))

last_more : (c : Code) (x : Tree) (xs : Trees) (a b : Input) → Bare c false xs a b → last_tree (more x xs) ≡ last_tree xs
last_more c x none a b h = absurd h
last_more c x (more y ys) a b h = refl

pub bare_more : (c : Code) (b : Bool) (x : Tree) (xs : Trees) (ts m n r : Input) → is_param x ≡ true → Produces x c ts m → is_rest x ≡ false → Takes c comma_kind m n → Bare c b xs n r → Bare c b (more x xs) ts r
bare_more c true x xs ts m n r i p e t h = (m, i, p, inl (e, n, t, h))
bare_more c false x xs ts m n r i p e t h = (m, i, p, inl (e, n, t, h))

pub bare_end : (c : Code) (b : Bool) (x : Tree) (xs : Trees) (ts r : Input) → b ≡ false → xs ≡ none → is_param x ≡ true → Produces x c ts r → Bare c b (more x xs) ts r
bare_end c true x xs ts r e n i p = absurd (true≢false e)
bare_end c false x xs ts r e n i p = (r, i, p, inr (refl, n, refl))

module _ (d : ℕ) (c : Code) where
  -- where an initialiser was read
  abbrev pub Valued : Tree → State Input → Type 0
  Valued (param s ds (assign_pat t p e)) r = (o : State Input) × ((readers lm d).expr (with_in c) assignment_level o ≡ Ok (e, r))
  Valued _ r = Unit {0}

  abbrev pub One : ℕ → List PlacedToken → List ℕ → Tree → State Input → Type 0
  One n ps k x r = (front : List PlacedToken) × (ps ≡ front ++ r.source.places) × ((qs : List PlacedToken) → one r.source.places ≡ one qs → Onward x r.source.places qs → parameter_by lm (readers lm d) c (at_list n (front ++ qs) k) ≡ Ok (x, at_list r.source.last qs r.commas)) × Valued x r

  abbrev Ans : Type 0
  Ans = Result (Tree × State Input) Fault

  abbrev whole_rest : State Input → Tree × State Input → Ans
  whole_rest s p = Ok (param (spanned lm (here lm s) p.1) none (rest_pat (spanned lm (here lm s) p.1) (dots_at (here lm s)) p.0), p.1)

  abbrev valued : State Input → Tree → Tree × State Input → Ans
  valued s p e = Ok (param (spanned lm (here lm s) e.1) none (assign_pat (spanned lm (here lm s) e.1) p e.0), e.1)

  abbrev after_pattern : State Input → Tree × State Input → Ans
  after_pattern s p = cond (at lm assign_kind p.1) ((readers lm d).expr (with_in c) assignment_level (past lm p.1) >>= valued s p.0) (Ok (param (spanned lm (here lm s) p.1) none p.0, p.1))

  -- a rest
  rest_ahead : (n : ℕ) (p : PlacedToken) (v : List PlacedToken) (k : List ℕ) (x : Tree) (r : State Input) → Named (p ∷ v) → eqb p.spot.token.kind dot_dot_dot_kind ≡ true → ((readers lm d).pat (with_in c) (at_list p.spot.hi v k) >>= whole_rest (at_list n (p ∷ v) k)) ≡ Ok (x, r) → One n (p ∷ v) k x r
  unfolding parameter_by
  rest_ahead n p v k x r named e h =
      let a = then_ok ((readers lm d).pat (with_in c) (at_list p.spot.hi v k)) (whole_rest (at_list n (p ∷ v) k)) (x, r) h in
      let z = (one_ahead d (with_in c)).bindings p.spot.hi v k a.0.0 a.0.1 named.1 a.1 in
      let s = same_ok _ (x, r) a.2 in
      subst (λ (y : Tree × State Input). One n (p ∷ v) k y.0 y.1) s (p ∷ z.0, ap (λ u. p ∷ u) z.1, λ qs o i. cond_first (eqb p.spot.token.kind dot_dot_dot_kind) _ _ _ e (ap (λ (y : Ans). y >>= whole_rest (at_list n (p ∷ (z.0 ++ qs)) k)) (z.2 qs o)), tt)

  -- what stands first, of another list
  module _ (n : ℕ) (ps front rest qs : List PlacedToken) (is : ps ≡ front ++ rest) (o : one rest ≡ one qs) where
    same_start : lo_of n (front ++ qs) ≡ lo_of n ps
    same_start = sym (first_alike (lo_of n) (λ p l. refl) (front ++ rest) (front ++ qs) (first_onto front rest qs o)) ∙ sym (ap (lo_of n) is)

    same_kind : kind_of (front ++ qs) ≡ kind_of ps
    same_kind = sym (kind_alike (front ++ rest) (front ++ qs) (first_onto front rest qs o)) ∙ sym (ap kind_of is)

  abbrev Before : ℕ → List PlacedToken → List ℕ → Tree → State Input → Type 0
  Before n ps k p m = (front : List PlacedToken) × (ps ≡ front ++ m.source.places) × ((qs : List PlacedToken) → one m.source.places ≡ one qs → (readers lm d).pat (with_in c) (at_list n (front ++ qs) k) ≡ Ok (p, at_list m.source.last qs m.commas))

  -- with an initialiser behind it
  value_ahead : (n : ℕ) (ps : List PlacedToken) (k : List ℕ) (p : Tree) (m : State Input) (q : PlacedToken) (v : List PlacedToken) (x : Tree) (r : State Input) → Named ps → eqb (kind_of ps) dot_dot_dot_kind ≡ false → Before n ps k p m → m.source.places ≡ q ∷ v → eqb (kind_of m.source.places) assign_kind ≡ true
      → ((readers lm d).expr (with_in c) assignment_level (past lm m) >>= valued (at_list n ps k) p) ≡ Ok (x, r) → One n ps k x r
  unfolding parameter_by
  value_ahead n ps k p m q v x r named dots z l i h =
      let g = subst (λ (w : List PlacedToken). ((readers lm d).expr (with_in c) assignment_level (at_list (hi_of m.source.last w) (others w) m.commas) >>= valued (at_list n ps k) p) ≡ Ok (x, r)) l h in
      let a = then_ok ((readers lm d).expr (with_in c) assignment_level (at_list q.spot.hi v m.commas)) (valued (at_list n ps k) p) (x, r) g in
      let y = (one_ahead d (with_in c)).expressions assignment_level q.spot.hi v m.commas a.0.0 a.0.1 (named_behind z.0 (q ∷ v) (subst (λ w. Named w) (z.1 ∙ ap (λ w. z.0 ++ w) l) named)).1 a.1 in
      subst (λ (w : Tree × State Input). One n ps k w.0 w.1) (same_ok _ (x, r) a.2) (
        z.0 ++ q ∷ y.0,
        z.1 ∙ (ap (λ w. z.0 ++ w) (l ∙ ap (λ w. q ∷ w) y.1) ∙ sym (append_assoc z.0 (q ∷ y.0) a.0.1.source.places)),
        λ qs o go. subst (λ w. parameter_by lm (readers lm d) c (at_list n w k) ≡ Ok (param (span (lo_of n ps) a.0.1.source.last) none (assign_pat (span (lo_of n ps) a.0.1.source.last) p a.0.0), at_list a.0.1.source.last qs a.0.1.commas)) (sym (append_assoc z.0 (q ∷ y.0) qs))
            (let next : one m.source.places ≡ one (q ∷ (y.0 ++ qs)) = ap one l in
            cond_second (eqb (kind_of (z.0 ++ q ∷ (y.0 ++ qs))) dot_dot_dot_kind) _ _ _ (ap (λ (j : ℕ). eqb j dot_dot_dot_kind) (same_kind n ps z.0 m.source.places (q ∷ (y.0 ++ qs)) z.1 next) ∙ dots)
            (ap (λ (w : Ans). w >>= after_pattern (at_list n (z.0 ++ q ∷ (y.0 ++ qs)) k)) (z.2 (q ∷ (y.0 ++ qs)) next) ∙ cond_first (eqb q.spot.token.kind assign_kind) _ _ _ (sym (ap (λ w. eqb (kind_of w) assign_kind) l) ∙ i)
            (ap (λ (w : Ans). w >>= valued (at_list n (z.0 ++ q ∷ (y.0 ++ qs)) k) p) (y.2 qs go)
            ∙ ap (λ (j : ℕ). Ok (param (span j a.0.1.source.last) none (assign_pat (span j a.0.1.source.last) p a.0.0), at_list a.0.1.source.last qs a.0.1.commas)) (same_start n ps z.0 m.source.places (q ∷ (y.0 ++ qs)) z.1 next)))),
        (at_list q.spot.hi v m.commas, a.1),
      )

  plain_valued : (s : Span) (p : Tree) (m : State Input) → is_binding p ≡ true → Valued (param s none p) m
  plain_valued s (assign_pat t q e) m h = absurd (true≢false (sym h))
  plain_valued s _ m h = tt

  -- a pattern that binds
  plain_ahead : (n : ℕ) (ps : List PlacedToken) (k : List ℕ) (x : Tree) (r : State Input) → Named ps → eqb (kind_of ps) dot_dot_dot_kind ≡ false → ((readers lm d).pat (with_in c) (at_list n ps k) >>= after_pattern (at_list n ps k)) ≡ Ok (x, r) → One n ps k x r
  unfolding parameter_by
  plain_ahead n ps k x r named dots h =
      let a = then_ok ((readers lm d).pat (with_in c) (at_list n ps k)) (after_pattern (at_list n ps k)) (x, r) h in let p = a.0.0 in let m = a.0.1 in
      let z = (one_ahead d (with_in c)).bindings n ps k p m named a.1 in
      by_cond (eqb (kind_of m.source.places) assign_kind) ((readers lm d).expr (with_in c) assignment_level (past lm m) >>= valued (at_list n ps k) p) (Ok (param (spanned lm (lo_of n ps) m) none p, m)) (Ok (x, r)) (One n ps k x r) a.2
      (λ i j. split_first assign_kind 0 m.source.places (One n ps k x r) refl i (λ q v l. value_ahead n ps k p m q v x r named dots z l i j))
      (λ i j. subst (λ (y : Tree × State Input). One n ps k y.0 y.1) (same_ok _ (x, r) j) (
        z.0,
        z.1,
        λ qs o _.
            cond_second (eqb (kind_of (z.0 ++ qs)) dot_dot_dot_kind) _ _ _ (ap (λ (j : ℕ). eqb j dot_dot_dot_kind) (same_kind n ps z.0 m.source.places qs z.1 o) ∙ dots)
            (ap (λ (w : Ans). w >>= after_pattern (at_list n (z.0 ++ qs) k)) (z.2 qs o) ∙ cond_second (eqb (kind_of qs) assign_kind) _ _ _ (ap (λ (j : ℕ). eqb j assign_kind) (sym (kind_alike m.source.places qs o)) ∙ i)
            (ap (λ (j : ℕ). Ok (param (span j m.source.last) none p, at_list m.source.last qs m.commas)) (same_start n ps z.0 m.source.places qs z.1 o))),
        plain_valued (span (lo_of n ps) m.source.last) p m (patterns_sound d (with_in c) (at_list n ps k) p m a.1).0,
      ))

  one_param : (n : ℕ) (ps : List PlacedToken) (k : List ℕ) (x : Tree) (r : State Input) → Named ps → parameter_by lm (readers lm d) c (at_list n ps k) ≡ Ok (x, r) → One n ps k x r
  unfolding parameter_by
  one_param n [] k x r named h = plain_ahead n [] k x r named refl h
  one_param n (p ∷ v) k x r named h = by_cond (eqb p.spot.token.kind dot_dot_dot_kind) ((readers lm d).pat (with_in c) (at_list p.spot.hi v k) >>= whole_rest (at_list n (p ∷ v) k)) ((readers lm d).pat (with_in c) (at_list n (p ∷ v) k) >>= after_pattern (at_list n (p ∷ v) k)) (Ok (x, r)) (One n (p ∷ v) k x r) h
      (λ i j. rest_ahead n p v k x r named i j) (λ i j. plain_ahead n (p ∷ v) k x r named i j)

  -- ---- all of them

  pub record ReadAll (xs : List Tree) (n : ℕ) (ps : List PlacedToken) (k : List ℕ) (ys : List Tree) (r : State Input) : Type 0 where
    pub trees : Trees
    pub is : ys ≡ xs ++ unpack trees
    pub comma : Bool
    pub derived : Bare (coded false c) comma trees (input_at n ps) r.source
    pub front : List PlacedToken
    pub cuts : ps ≡ front ++ r.source.places
    pub valued : comma ≡ false → Valued (last_tree trees) r
    pub again : (qs : List PlacedToken) → one r.source.places ≡ one qs → (comma ≡ false → Onward (last_tree trees) r.source.places qs) → (N : ℕ) → length (front ++ qs) < N → iterate_n (bound lm) N (bare_step lm (readers lm d) c) xs (at_list n (front ++ qs) k) ≡ Ok (ys, at_list r.source.last qs r.commas)

  abbrev Ended : Type 0
  Ended = Result (Step (List Tree) × State Input) Fault

  abbrev Listed : Type 0
  Listed = Result (List Tree × State Input) Fault

  abbrev turns : ℕ → List Tree → State Input → Listed
  turns N xs s = iterate_n (bound lm) N (bare_step lm (readers lm d) c) xs s

  abbrev goes : Tree × State Input → Bool
  goes p = eqb (kind_of p.1.source.places) comma_kind && not (is_rest_param lm (readers lm d) p.0)

  abbrev after_param : List Tree → Tree × State Input → Ended
  after_param xs p = cond (goes p) (Ok (go_on (xs ++ p.0 ∷ []), past lm p.1)) (Ok (finished (xs ++ p.0 ∷ []), p.1))

  abbrev starts : List PlacedToken → Bool
  starts l = starts_param lm c (at_list 0 l [])

  longer_list : (f : List PlacedToken) (q : PlacedToken) (l : List PlacedToken) → length l < length (f ++ q ∷ l)
  longer_list [] q l = omega arith
  longer_list (x ∷ f) q l = omega (arith, longer_list f q l)

  -- none starts there
  none_there : (n : ℕ) (ps : List PlacedToken) (k : List ℕ) (xs ys : List Tree) (r : State Input) → starts ps ≡ false → ◌≡◌ {A = Listed} (Ok (xs, at_list n ps k)) (Ok (ys, r)) → ReadAll xs n ps k ys r
  unfolding iterate_n bare_step
  none_there n ps k xs ys r off h = subst (λ (z : List Tree × State Input). ReadAll xs n ps k z.0 z.1) (same_ok _ (ys, r) h) (record {
    trees = none;
    is = sym (append-nil xs);
    comma = true;
    derived = refl;
    front = [];
    cuts = refl;
    valued = λ e. absurd (true≢false e);
    again = turned;
  })
    where
      turned : (qs : List PlacedToken) → one ps ≡ one qs → (true ≡ false → Onward (last_tree none) ps qs) → (N : ℕ) → length qs < N → turns N xs (at_list n qs k) ≡ Ok (xs, at_list n qs k)
      turned qs o g zero lt = absurd (omega (arith, lt))
      turned qs o g (suc N) lt = ap (λ (w : Ended). w >>= next_by (bound lm) (turns N) (length qs)) (cond_second (starts qs) (parameter_by lm (readers lm d) c (at_list n qs k) >>= after_param xs) (Ok (finished xs, at_list n qs k)) (Ok (finished xs, at_list n qs k)) (sym (first_alike starts (λ p l. refl) ps qs o) ∙ off) refl)

  module _ (n : ℕ) (ps : List PlacedToken) (k : List ℕ) (xs : List Tree) (x : Tree) (m : State Input) (on : starts ps ≡ true) (z : One n ps k x m) (i : is_param x ≡ true) (made : Produces x (coded false c) (input_at n ps) m.source) where
    -- it is read before another rest, and what follows it is read
    param_turn : (qs : List PlacedToken) → one m.source.places ≡ one qs → Onward x m.source.places qs → (N : ℕ) (y : Ended) → after_param xs (x, at_list m.source.last qs m.commas) ≡ y → turns (suc N) xs (at_list n (z.0 ++ qs) k) ≡ (y >>= next_by (bound lm) (turns N) (length (z.0 ++ qs)))
    unfolding iterate_n bare_step
    param_turn qs o g N y e = ap (λ (w : Ended). w >>= next_by (bound lm) (turns N) (length (z.0 ++ qs)))
        (cond_first (starts (z.0 ++ qs)) (parameter_by lm (readers lm d) c (at_list n (z.0 ++ qs) k) >>= after_param xs) (Ok (finished xs, at_list n (z.0 ++ qs) k)) y (sym (first_alike starts (λ p l. refl) (z.0 ++ m.source.places) (z.0 ++ qs) (first_onto z.0 m.source.places qs o)) ∙ (sym (ap starts z.1) ∙ on))
        (ap (λ (w : Ans). w >>= after_param xs) (z.2 qs o g) ∙ e))

    -- the last one
    last_there : (ys : List Tree) (r : State Input) → goes (x, m) ≡ false → ◌≡◌ {A = Listed} (Ok (xs ++ x ∷ [], m)) (Ok (ys, r)) → ReadAll xs n ps k ys r
    last_there ys r off h = subst (λ (w : List Tree × State Input). ReadAll xs n ps k w.0 w.1) (same_ok _ (ys, r) h) (record {
      trees = more x none;
      is = refl;
      comma = false;
      derived = (m.source, i, made, inr (refl, refl, refl));
      front = z.0;
      cuts = z.1;
      valued = λ _. z.3;
      again = turned;
    })
      where
        turned : (qs : List PlacedToken) → one m.source.places ≡ one qs → (false ≡ false → Onward x m.source.places qs) → (N : ℕ) → length (z.0 ++ qs) < N → turns N xs (at_list n (z.0 ++ qs) k) ≡ Ok (xs ++ x ∷ [], at_list m.source.last qs m.commas)
        turned qs o g zero lt = absurd (omega (arith, lt))
        turned qs o g (suc N) lt = param_turn qs o (g refl) N (Ok (finished (xs ++ x ∷ []), at_list m.source.last qs m.commas))
            (cond_second (goes (x, at_list m.source.last qs m.commas)) _ _ _ (ap (λ (j : ℕ). eqb j comma_kind && not (is_rest_param lm (readers lm d) x)) (sym (kind_alike m.source.places qs o)) ∙ off) refl)

    -- a comma, and more
    more_there : (ys : List Tree) (r : State Input) (q : PlacedToken) (v : List PlacedToken) → m.source.places ≡ q ∷ v → goes (x, m) ≡ true → ReadAll (xs ++ x ∷ []) (hi_of m.source.last m.source.places) (others m.source.places) m.commas ys r → ReadAll xs n ps k ys r
    more_there ys r q v l yes_comma w = record {
      trees = more x w.trees;
      is = w.is ∙ append_assoc xs (x ∷ []) (unpack w.trees);
      comma = w.comma;
      derived = bare_more (coded false c) w.comma x w.trees (input_at n ps) m.source (input_at (hi_of m.source.last m.source.places) (others m.source.places)) r.source i made (sym (rest_same (readers lm d) x i) ∙ not-true (is_rest_param lm (readers lm d) x) parts.1) (comma_is, tt, refl) w.derived;
      front = z.0 ++ q ∷ w.front;
      cuts = z.1 ∙ (ap (λ u. z.0 ++ u) (l ∙ ap (λ u. q ∷ u) (sym (ap others l) ∙ w.cuts)) ∙ sym (append_assoc z.0 (q ∷ w.front) r.source.places));
      valued = λ e. subst (λ (u : Tree). Valued u r) (sym (last_is e)) (w.valued e);
      again = λ qs o g N lt. subst (λ u. turns N xs (at_list n u k) ≡ Ok (ys, at_list r.source.last qs r.commas)) (sym (append_assoc z.0 (q ∷ w.front) qs)) (turned qs o g N (subst (λ u. length u < N) (append_assoc z.0 (q ∷ w.front) qs) lt));
    }
      where
        parts : (eqb (kind_of m.source.places) comma_kind ≡ true) × (not (is_rest_param lm (readers lm d) x) ≡ true)
        parts = and_parts (eqb (kind_of m.source.places) comma_kind) (not (is_rest_param lm (readers lm d) x)) yes_comma

        last_is : w.comma ≡ false → last_tree (more x w.trees) ≡ last_tree w.trees
        last_is e = last_more (coded false c) x w.trees (input_at (hi_of m.source.last m.source.places) (others m.source.places)) r.source (subst (λ (b : Bool). Bare (coded false c) b w.trees (input_at (hi_of m.source.last m.source.places) (others m.source.places)) r.source) e w.derived)

        comma_is : kind_of m.source.places ≡ comma_kind
        comma_is = eqb-true (kind_of m.source.places) comma_kind parts.0

        turned : (qs : List PlacedToken) → one r.source.places ≡ one qs → (w.comma ≡ false → Onward (last_tree (more x w.trees)) r.source.places qs) → (N : ℕ) → length (z.0 ++ q ∷ (w.front ++ qs)) < N → turns N xs (at_list n (z.0 ++ q ∷ (w.front ++ qs)) k) ≡ Ok (ys, at_list r.source.last qs r.commas)
        turned qs o g zero lt = absurd (omega (arith, lt))
        turned qs o g (suc N) lt =
            let next : one m.source.places ≡ one (q ∷ (w.front ++ qs)) = ap one l in
            let low = longer_list z.0 q (w.front ++ qs) in
            let go = λ (e : w.comma ≡ false). subst (λ (u : Tree). Onward u r.source.places qs) (last_is e) (g e) in
            param_turn (q ∷ (w.front ++ qs)) next (onward_comma x m.source.places (q ∷ (w.front ++ qs)) comma_is next) N (Ok (go_on (xs ++ x ∷ []), at_list q.spot.hi (w.front ++ qs) m.commas))
            (cond_first (goes (x, at_list m.source.last (q ∷ (w.front ++ qs)) m.commas)) _ _ _ (ap (λ u. eqb (kind_of u) comma_kind && not (is_rest_param lm (readers lm d) x)) (sym l) ∙ yes_comma) refl)
            ∙ cond_first (nat_lt (length (w.front ++ qs)) (length (z.0 ++ q ∷ (w.front ++ qs)))) _ _ _ (lt-ltb (length (w.front ++ qs)) (length (z.0 ++ q ∷ (w.front ++ qs))) low)
            (subst (λ (u : ℕ). turns N (xs ++ x ∷ []) (at_list u (w.front ++ qs) m.commas) ≡ Ok (ys, at_list r.source.last qs r.commas)) (ap (hi_of m.source.last) l) (w.again qs o go N (omega (arith, lt, low))))

  pub read_all : (fuel n : ℕ) (ps : List PlacedToken) (k : List ℕ) (xs ys : List Tree) (r : State Input) → Named ps → turns fuel xs (at_list n ps k) ≡ Ok (ys, r) → ReadAll xs n ps k ys r
  unfolding iterate_n bare_step
  read_all zero n ps k xs ys r named h = absurd (no_ok _ (ys, r) h)
  read_all (suc fuel) n ps k xs ys r named h =
      let next = next_by (bound lm) (turns fuel) (length ps) in
      let a = then_ok (cond (starts ps) (parameter_by lm (readers lm d) c (at_list n ps k) >>= after_param xs) (Ok (finished xs, at_list n ps k))) next (ys, r) h in
      by_cond (starts ps) (parameter_by lm (readers lm d) c (at_list n ps k) >>= after_param xs) (Ok (finished xs, at_list n ps k)) (Ok a.0) (ReadAll xs n ps k ys r) a.1
      (λ on j. let b = then_ok (parameter_by lm (readers lm d) c (at_list n ps k)) (after_param xs) a.0 j in some (λ i l j zs o w q g. read_all fuel i l j zs o w q g) on b.0.0 b.0.1 a.0 b.1 b.2 a.2)
      (λ off j. none_there n ps k xs ys r off (subst (λ (w : Step (List Tree) × State Input). next w ≡ Ok (ys, r)) (sym (same_ok _ a.0 j)) a.2))
    where
      some : ((i : ℕ) (l : List PlacedToken) (j : List ℕ) (zs os : List Tree) (w : State Input) → Named l → turns fuel zs (at_list i l j) ≡ Ok (os, w) → ReadAll zs i l j os w) → starts ps ≡ true → (x : Tree) (m : State Input) (a : Step (List Tree) × State Input) → parameter_by lm (readers lm d) c (at_list n ps k) ≡ Ok (x, m) → after_param xs (x, m) ≡ Ok a → next_by (bound lm) (turns fuel) (length ps) a ≡ Ok (ys, r) → ReadAll xs n ps k ys r
      some again on x m a e f g =
          let z = one_param n ps k x m named e in
          let p = (subst (λ w. Sure k w (GotParam c (at_list n ps k))) e (parameter_sure (readers lm d) (all_sound d) c (at_list n ps k))).so.1 in
          by_cond (goes (x, m)) (Ok (go_on (xs ++ x ∷ []), past lm m)) (Ok (finished (xs ++ x ∷ []), m)) (Ok a) (ReadAll xs n ps k ys r) f
          (λ i j. by_cond (nat_lt (length (others m.source.places)) (length ps)) (turns fuel (xs ++ x ∷ []) (past lm m)) (Err _) (Ok (ys, r)) (ReadAll xs n ps k ys r) (subst (λ (w : Step (List Tree) × State Input). next_by (bound lm) (turns fuel) (length ps) w ≡ Ok (ys, r)) (sym (same_ok _ a j)) g)
          (λ _ t. let cm = (and_parts (eqb (kind_of m.source.places) comma_kind) (not (is_rest_param lm (readers lm d) x)) i).0 in
          split_first comma_kind 0 m.source.places (ReadAll xs n ps k ys r) refl cm (λ q v l. more_there n ps k xs x m on z p.0 p.1 ys r q v l i
          (again (hi_of m.source.last m.source.places) (others m.source.places) m.commas (xs ++ x ∷ []) ys r (subst (λ u. Named u) (sym (ap others l)) (named_behind z.0 (q ∷ v) (subst (λ u. Named u) (z.1 ∙ ap (λ u. z.0 ++ u) l) named)).1) t)))
          (λ _ t. absurd (no_ok _ (ys, r) t)))
          (λ i j. last_there n ps k xs x m on z p.0 p.1 ys r i (subst (λ (w : Step (List Tree) × State Input). next_by (bound lm) (turns fuel) (length ps) w ≡ Ok (ys, r)) (sym (same_ok _ a j)) g))
