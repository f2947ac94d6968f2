-- Printing a node emits it.
use Rattle.std.proofs.Common.{MutBor, get_or, drop, ◌≡◌, ℕ, Bool, true, false, ◌||◌, if◌then◌else◌, List, [], ◌∷◌, Option, Some, None, Result, Ok, Err, refl, sym, ap, subst, ◌∙◌}
use Rattle.std.proofs.lemmas.Bool.{or_parts}
use base.Fml.{GName}
use Rattle.base_token.specs.Counts.{count_after}
use Rattle.print_writers.specs.Pages.{IsFront}
use Rattle.print_writers.proofs.Growing.{front_same}
use Rattle.print_writers.specs.States.{State, FaultFits, has_places, is_write}
use Rattle.print_writers.specs.declared.fault.EmitError.{EmitError}
use Rattle.print_writers.specs.declared.fault.EmitError.TheVariants.{Write, Memory, Node, Position}
use Rattle.print_pages_spec.specs.Pieces.{Piece, Text, Commit, Mark, call, calls}
use Rattle.print_pages_spec.specs.Utf8.{IsUtf8Page}
use Rattle.print_layout_spec.specs.Looks.{Laid, nothing, one, meant, named, both, refused, texts_of, texts_before, listed, is_refused}
use Rattle.print_pieces.specs.Prints.{Asked, ask, stop, lay, lay_texts, IsAt, Prints, MayFault}
use Rattle.ecma_codegen.specs.Emits.{emitted, MayRefuse, Emits, Stays}

-- ---- what there is to write is the pieces of a layout

-- behind what can't be printed nothing is asked for
ask_stays : (x : Piece) (a : Asked) → a.stops ≡ true → ask x a ≡ a
unfolding ask
ask_stays x a e = rw e refl

stop_stays : (a : Asked) → a.stops ≡ true → stop a ≡ a
unfolding stop
stop_stays a e = rw (sym e) refl

texts_stay : (texts : List (List ℕ)) (a : Asked) → a.stops ≡ true → lay_texts texts a ≡ a
texts_stay [] a e = refl
texts_stay (own ∷ others) a e = ap (λ b. lay_texts others b) (ask_stays (Text None own) a e) ∙ texts_stay others a e

stays : (l : Laid) (a : Asked) → a.stops ≡ true → lay l a ≡ a
stays nothing a e = refl
stays (one x) a e = ask_stays x a e
stays (meant m) a e = texts_stay (texts_of m) a e
stays (named pos own) a e =
    ap (λ b. ask (Text None own) (ask (Mark pos) b)) (ask_stays Commit a e) ∙ (ap (λ b. ask (Text None own) b) (ask_stays (Mark pos) a e) ∙ ask_stays (Text None own) a e)
stays (both f g) a e = ap (lay g) (stays f a e) ∙ stays g a e
stays refused a e = stop_stays a e

asked_state : (x : Piece) (a : Asked) → a.stops ≡ false → (ask x a).state ≡ call x a.state
unfolding ask
asked_state x a e = rw e refl

asked_stops : (x : Piece) (a : Asked) → a.stops ≡ false → (ask x a).stops ≡ false
unfolding ask
asked_stops x a e = rw e refl

or_other : (b c : Bool) → (b || c) ≡ true → b ≡ false → c ≡ true
or_other true c e h = absurd (cc)
or_other false c e h = e

-- a layout that can be printed
record Whole (l : Laid) (a : Asked) (rest : List Piece) : Type 0 where
  goes : (lay l a).stops ≡ false
  calls_it : calls (listed l rest) a.state ≡ calls rest (lay l a).state

-- texts are asked for one after the other
record AllTexts (texts : List (List ℕ)) (a : Asked) (rest : List Piece) : Type 0 where
  goes : (lay_texts texts a).stops ≡ false
  calls_it : calls (texts_before texts rest) a.state ≡ calls rest (lay_texts texts a).state

all_texts : (texts : List (List ℕ)) (a : Asked) (rest : List Piece) → a.stops ≡ false → AllTexts texts a rest
all_texts [] a rest s = record { goes = s; calls_it = refl }
all_texts (own ∷ others) a rest s =
    let x = all_texts others (ask (Text None own) a) rest (asked_stops (Text None own) a s) in
    record { goes = x.goes; calls_it = ap (λ (t : State). calls (texts_before others rest) t) (sym (asked_state (Text None own) a s)) ∙ x.calls_it }

whole : (l : Laid) (a : Asked) (rest : List Piece) → a.stops ≡ false → is_refused l ≡ false → Whole l a rest
whole nothing a rest s r = record { goes = s; calls_it = refl }
whole (one x) a rest s r = record { goes = asked_stops x a s; calls_it = ap (calls rest) (sym (asked_state x a s)) }
whole (meant m) a rest s r = let x = all_texts (texts_of m) a rest s in record { goes = x.goes; calls_it = x.calls_it }
whole (named pos own) a rest s r =
    let one = ask Commit a in
    let two = ask (Mark pos) one in
    let x = asked_stops Commit a s in
    let y = asked_stops (Mark pos) one x in
    record {
      goes = asked_stops (Text None own) two y;
      calls_it =
          ap (λ (t : State). calls rest (call (Text None own) (call (Mark pos) t))) (sym (asked_state Commit a s))
          ∙ (ap (λ (t : State). calls rest (call (Text None own) t)) (sym (asked_state (Mark pos) one x)) ∙ ap (calls rest) (sym (asked_state (Text None own) two y)));
    }
whole (both f g) a rest s r =
    let parts = or_parts (is_refused f) (is_refused g) r in
    let x = whole f a (listed g rest) s parts.0 in
    let y = whole g (lay f a) rest x.goes parts.1 in
    record { goes = y.goes; calls_it = x.calls_it ∙ y.calls_it }
whole refused a rest s r = absurd (cc)

-- one that can't
record Cut (l : Laid) (a : Asked) (rest : List Piece) : Type 0 where
  stopped : (lay l a).stops ≡ true
  calls_it : calls (listed l rest) a.state ≡ (lay l a).state

stop_stops : (a : Asked) → (stop a).stops ≡ true
unfolding stop
stop_stops a = refl

stop_state : (a : Asked) → a.state ≡ (stop a).state
unfolding stop
stop_state a = refl

cut : (l : Laid) (a : Asked) (rest : List Piece) → a.stops ≡ false → is_refused l ≡ true → Cut l a rest
cut nothing a rest s r = absurd (cc)
cut (one x) a rest s r = absurd (cc)
cut (meant m) a rest s r = absurd (cc)
cut (named pos own) a rest s r = absurd (cc)
cut (both f g) a rest s r = cut_both f g a rest s r (cut f a (listed g rest) s) (λ b. cut g (lay f a) rest b) (is_refused f) refl
  where
    cut_both : (f g : Laid) (a : Asked) (rest : List Piece) → a.stops ≡ false → (is_refused f || is_refused g) ≡ true
        → (is_refused f ≡ true → Cut f a (listed g rest)) → ((lay f a).stops ≡ false → is_refused g ≡ true → Cut g (lay f a) rest)
        → (b : Bool) → is_refused f ≡ b → Cut (both f g) a rest
    cut_both f g a rest s r h k true e =
        let x = h e in
        record { stopped = ap (λ (b : Asked). b.stops) (stays g (lay f a) x.stopped) ∙ x.stopped; calls_it = x.calls_it ∙ ap (λ (b : Asked). b.state) (sym (stays g (lay f a) x.stopped)) }
    cut_both f g a rest s r h k false e =
        let x = whole f a (listed g rest) s e in
        let y = k x.goes (or_other (is_refused f) (is_refused g) r e) in
        record { stopped = y.stopped; calls_it = x.calls_it ∙ y.calls_it }
cut refused a rest s r = record { stopped = stop_stops a; calls_it = stop_state a }

-- in either case the state is made by the pieces
same_state_by : (l : Laid) (a : Asked) → a.stops ≡ false → (b : Bool) → is_refused l ≡ b → (lay l a).state ≡ emitted l a.state
same_state_by l a s true e = sym (cut l a [] s e).calls_it
same_state_by l a s false e = sym (whole l a [] s e).calls_it

same_state : (l : Laid) (a : Asked) → a.stops ≡ false → (lay l a).state ≡ emitted l a.state
same_state l a s = same_state_by l a s (is_refused l) refl

-- it stops exactly where something can't be printed
stops_by : (l : Laid) (a : Asked) → a.stops ≡ false → (b : Bool) → is_refused l ≡ b → (lay l a).stops ≡ b
stops_by l a s true e = (cut l a [] s e).stopped
stops_by l a s false e = (whole l a [] s e).goes

stops_where : (l : Laid) (a : Asked) → a.stops ≡ false → (lay l a).stops ≡ is_refused l
stops_where l a s = stops_by l a s (is_refused l) refl

-- what a writer had at first stays in what there is to write
record Same (a b : Asked) : Type 0 where
  before : b.before ≡ a.before
  known : b.known ≡ a.known
  textual : b.textual ≡ a.textual
  failures : b.failures ≡ a.failures
  loans : b.loans ≡ a.loans
  places : b.places ≡ a.places

same_as : (a : Asked) → Same a a
same_as a = record { before = refl; known = refl; textual = refl; failures = refl; loans = refl; places = refl }

same_then : {a b c : Asked} → Same a b → Same b c → Same a c
same_then x y = record {
  before = y.before ∙ x.before;
  known = y.known ∙ x.known;
  textual = y.textual ∙ x.textual;
  failures = y.failures ∙ x.failures;
  loans = y.loans ∙ x.loans;
  places = y.places ∙ x.places;
}

same_asked : (x : Piece) (a : Asked) → Same a (ask x a)
unfolding ask
same_asked x a = elim a.stops as (λ (b : Bool). Same a (if b then a else record a { state = call x a.state })) [
  | true ↦ same_as a
  | false ↦ record { before = refl; known = refl; textual = refl; failures = refl; loans = refl; places = refl }
]

same_stopped : (a : Asked) → Same a (stop a)
unfolding stop
same_stopped a = record { before = refl; known = refl; textual = refl; failures = refl; loans = refl; places = refl }

same_texts : (texts : List (List ℕ)) (a : Asked) → Same a (lay_texts texts a)
same_texts [] a = same_as a
same_texts (own ∷ others) a = same_then (same_asked (Text None own) a) (same_texts others (ask (Text None own) a))

same_laid : (l : Laid) (a : Asked) → Same a (lay l a)
same_laid nothing a = same_as a
same_laid (one x) a = same_asked x a
same_laid (meant m) a = same_texts (texts_of m) a
same_laid (named pos own) a = same_then (same_asked Commit a) (same_then (same_asked (Mark pos) (ask Commit a)) (same_asked (Text None own) (ask (Mark pos) (ask Commit a))))
same_laid (both f g) a = same_then (same_laid f a) (same_laid g (lay f a))
same_laid refused a = same_stopped a

-- ---- a writer before and after
abbrev pub answer : Option EmitError → Result (Unit {0}) EmitError
answer None = Ok tt
answer (Some e) = Err e

module _ {S : Type 0} (tells : S → Type 0) (state : S → State) (failed : S → ℕ) (loans : S → List GName) where
  -- of a writer whose bytes are known, or aren't, and whose page is one of text, or isn't
  abbrev at_first : S → Bool → Bool → Asked
  at_first w k u = record {
    state = state w;
    stops = false;
    before = (state w).page.out;
    known = k;
    textual = u;
    failures = failed w;
    loans = loans w;
    places = has_places (state w);
  }

  is_at_first : (w : S) (k u : Bool) → (k ≡ true → tells w) → (u ≡ true → IsUtf8Page (state w).page) → IsAt {S = S} tells state failed loans w None (at_first w k u)
  is_at_first w k u t x = record { wrote = (refl, λ e. (t e, refl)); begun = front_same (state w).page.out; text = x; failures = refl; lent = refl; places = refl }

  may : (e : EmitError) (l : Laid) (w : S) (k u : Bool) → MayFault e (lay l (at_first w k u)) → MayRefuse e l (state w)
  may (Write kind) l w k u h = tt
  may Memory l w k u h = sym (same_laid l (at_first w k u)).places ∙ h
  may Position l w k u h = sym (same_laid l (at_first w k u)).places ∙ h
  may Node l w k u h = sym (stops_where l (at_first w k u) refl) ∙ h

  abbrev Reaches : Laid → S → S → Option EmitError → Type 0
  Reaches l w v g = (k u : Bool) → (k ≡ true → tells w) → (u ≡ true → IsUtf8Page (state w).page) → IsAt {S = S} tells state failed loans v g (lay l (at_first w k u))

  text_by : (l : Laid) (w v : S) (g : Option EmitError) → Reaches l w v g → tells w → IsUtf8Page (state w).page → IsUtf8Page (emitted l (state w)).page
  text_by l w v g h t x =
      let a = at_first w true true in
      subst (λ (s : State). IsUtf8Page s.page) (same_state l a refl) ((h true true (λ e. t) (λ e. x)).text (same_laid l a).textual)

  value_by : (l : Laid) (w v : S) (g : Option EmitError) → Reaches l w v g → Emits {S = S} tells state l w v (answer g)
  value_by l w v None h = (
    sym (stops_where l (at_first w false false) refl) ∙ (h false false (λ e. absurd (cc)) (λ e. absurd (cc))).wrote.0,
    λ t.
        let a = at_first w true false in
        let z = (h true false (λ e. t) (λ e. absurd (cc))).wrote.1 (same_laid l a).known in
        let q = z.1 ∙ same_state l a refl in
        (z.0, q, λ x. subst (λ (s : State). IsUtf8Page s.page) (sym q) (text_by l w v None h t x)),
  )
  value_by l w v (Some e) h = (
    may e l w false false (h false false (λ d. absurd (cc)) (λ d. absurd (cc))).wrote.0,
    λ t.
        let a = at_first w true false in
        let z = (h true false (λ d. t) (λ d. absurd (cc))).wrote.1 (same_laid l a).known in
        let q = same_state l a refl in (
          z.0,
          subst (λ (xs : List ℕ). IsFront xs (state v).page.out) (same_laid l a).before z.1,
          subst (λ (s : State). IsFront (state v).page.out s.page.out) q z.2,
          subst (λ (s : State). FaultFits e s.page) q z.3,
        ),
  )

  stays_by : (l : Laid) (w v : S) (g : Option EmitError) → IsAt {S = S} tells state failed loans v g (lay l (at_first w false false)) → Stays {S = S} state failed loans w v (answer g)
  stays_by l w v None h = let s = same_laid l (at_first w false false) in (h.places ∙ s.places, h.lent ∙ s.loans, h.failures ∙ s.failures)
  stays_by l w v (Some e) h = let s = same_laid l (at_first w false false) in (h.places ∙ s.places, h.lent ∙ s.loans, h.failures ∙ ap (count_after (is_write e)) s.failures)

module _ {S : Type 0} {tells : S → Type 0} {state : S → State} {failed : S → ℕ} {loans : S → List GName} where
  pub emits : {l : Laid} {w v : S} (g : Option EmitError) → Prints {S = S} tells state failed loans l w None v g → Emits {S = S} tells state l w v (answer g)
  emits {l} {w} {v} g h = value_by tells state failed loans l w v g (λ k u t x. h.so (at_first tells state failed loans w k u) (is_at_first tells state failed loans w k u t x))

  pub keeps : {l : Laid} {w v : S} (g : Option EmitError) → Prints {S = S} tells state failed loans l w None v g → Stays {S = S} state failed loans w v (answer g)
  keeps {l} {w} {v} g h =
      stays_by tells state failed loans l w v g
      (h.so (at_first tells state failed loans w false false) (is_at_first tells state failed loans w false false (λ e. absurd (cc)) (λ e. absurd (cc))))

-- ---- a writer that was lent, whose value at the end is that of the loan

-- the first of a list, and the others
first_is : {x y : GName} {xs ys : List GName} → x ∷ xs ≡ y ∷ ys → x ≡ y
first_is {x} {y} {xs} {ys} e = ap (λ (l : List GName). get_or l 0 x) e

others_are : {x y : GName} {xs ys : List GName} → x ∷ xs ≡ y ∷ ys → xs ≡ ys
others_are {x} {y} {xs} {ys} e = ap (λ (l : List GName). drop 1 l) e

module _ {W : Type 0} (tells : W → Type 0) (state : W → State) (failed : W → ℕ) (loans : W → List GName) where
  -- printing to it
  abbrev pub PrintsLent : Laid → MutBor W → MutBor W → Option EmitError → Type 0
  PrintsLent l w v g = Prints {S = MutBor W} (λ r. tells r.now) (λ r. state r.now) (λ r. failed r.now) (λ r. r.ghost_name ∷ loans r.now) l w None v g

  same_loan : (l : Laid) (w v : MutBor W) (g : Option EmitError) → PrintsLent l w v g → w.ghost_name ≡ v.ghost_name
  same_loan l w v None h = sym (first_is (keeps {S = MutBor W} None h).1)
  same_loan l w v (Some e) h = sym (first_is (keeps {S = MutBor W} (Some e) h).1)

  value_lent : (l : Laid) (w v : MutBor W) (g : Option EmitError) → PrintsLent l w v g → Emits {S = W} tells state l w.now v.now (answer g)
  value_lent l w v None h = emits {S = MutBor W} None h
  value_lent l w v (Some e) h = emits {S = MutBor W} (Some e) h

  keeps_back : (l : Laid) (w v : MutBor W) (g : Option EmitError) → PrintsLent l w v g → Stays {S = W} state failed loans w.now v.now (answer g)
  keeps_back l w v None h = let k = keeps {S = MutBor W} None h in (k.0, others_are k.1, k.2)
  keeps_back l w v (Some e) h = let k = keeps {S = MutBor W} (Some e) h in (k.0, others_are k.1, k.2)

  pub emits_lent : {l : Laid} {w v : MutBor W} {g : Option EmitError} {x : W} (h : Option EmitError) → (w.ghost_name ≡ v.ghost_name → x ≡ v.now) → PrintsLent l w v g → g ≡ h
      → Emits {S = W} tells state l w.now x (answer h)
  emits_lent {l} {w} {v} {g} {x} h back p e =
      subst (λ (y : W). Emits {S = W} tells state l w.now y (answer h)) (sym (back (same_loan l w v g p)))
      (subst (λ (f : Option EmitError). Emits {S = W} tells state l w.now v.now (answer f)) e (value_lent l w v g p))

  pub keeps_lent : {l : Laid} {w v : MutBor W} {g : Option EmitError} {x : W} (h : Option EmitError) → (w.ghost_name ≡ v.ghost_name → x ≡ v.now) → PrintsLent l w v g → g ≡ h
      → Stays {S = W} state failed loans w.now x (answer h)
  keeps_lent {l} {w} {v} {g} {x} h back p e =
      subst (λ (y : W). Stays {S = W} state failed loans w.now y (answer h)) (sym (back (same_loan l w v g p)))
      (subst (λ (f : Option EmitError). Stays {S = W} state failed loans w.now v.now (answer f)) e (keeps_back l w v g p))
