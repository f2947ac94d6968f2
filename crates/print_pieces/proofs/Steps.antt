-- One call of a writer, as a step of what there is to write.
use Rattle.std.proofs.Common.{◌≡◌, ◌==◌, ℕ, Bool, true, false, List, Option, Some, None, is_some, option_map, Result, Ok, Err, [], length, codes, refl, sym, subst, ap, ◌∙◌, if◌then◌else◌, not}
use Rattle.std.specs.Result.{result_err}
use base.Fml.{GName}
use Rattle.base_token.specs.Counts.{count_after}
use Rattle.print_writers.specs.Pages.{IsFront, Page, Marks, put_mark, marked, waiting_for, record_here, indented, with_text, begun, ended, put}
use Rattle.print_writers.specs.States.{State, Does, Keeps, KeepsAll, Puts, MayAnswer, FaultFits, has_places, is_write, mark, text, commit}
use Rattle.print_writers.specs.declared.fault.EmitError.{EmitError}
use Rattle.print_writers.specs.declared.fault.EmitError.TheVariants.{Write, Memory, Node, Position}
use Rattle.print_writers.proofs.Growing.{front_same, front_trans}
use Rattle.base_token.specs.declared.place.BytePos.{BytePos}
use Rattle.base_token.specs.declared.place.Span.{Span}
use Rattle.print_pages_spec.specs.Pieces.{Piece, Text, Commit, Mark, call}
use Rattle.print_pages_spec.specs.Utf8.{IsUtf8Page, IsUtf8Piece}
use Rattle.print_pages_spec.proofs.Utf8.{call_text}
use Rattle.print_pieces.specs.Prints.{Asked, ask, stop, lay, IsAt, Prints, MayFault, failed_by}
use Rattle.print_layout_spec.specs.Looks.{Laid, nothing, one, named, both, refused, when, gap_or}
use Rattle.print_layout_spec.specs.declared.look.Look.{Look}
use Rattle.print_pieces.proofs.Onward.{Onward, onward_same, onward_trans, call_onward, fits_on}

-- what is asked for only grows
record More (a b : Asked) : Type 0 where
  onward : Onward a.state b.state
  stops : a.stops ≡ true → b.stops ≡ true
  text : IsUtf8Page a.state.page → IsUtf8Page b.state.page
  before : b.before ≡ a.before
  known : b.known ≡ a.known
  textual : b.textual ≡ a.textual
  failures : b.failures ≡ a.failures
  loans : b.loans ≡ a.loans
  places : b.places ≡ a.places

more_same : (a : Asked) → More a a
more_same a = record { onward = onward_same a.state; stops = λ p. p; text = λ u. u; before = refl; known = refl; textual = refl; failures = refl; loans = refl; places = refl }

more_asked : (x : Piece) (a : Asked) → IsUtf8Piece x → More a (ask x a)
unfolding ask
more_asked x a u = elim a.stops as (λ (b : Bool). More a (if b then a else record a { state = call x a.state })) [
  | true ↦ more_same a
  | false ↦ record { onward = call_onward x a.state; stops = λ p. p; text = call_text x a.state u; before = refl; known = refl; textual = refl; failures = refl; loans = refl; places = refl }
]

more_stopped : (a : Asked) → More a (stop a)
unfolding stop
more_stopped a = record { onward = onward_same a.state; stops = λ p. refl; text = λ u. u; before = refl; known = refl; textual = refl; failures = refl; loans = refl; places = refl }

more_trans : (a b c : Asked) → More a b → More b c → More a c
more_trans a b c m n = record {
  onward = onward_trans a.state b.state c.state m.onward n.onward;
  stops = λ p. n.stops (m.stops p);
  text = λ u. n.text (m.text u);
  before = n.before ∙ m.before;
  known = n.known ∙ m.known;
  textual = n.textual ∙ m.textual;
  failures = n.failures ∙ m.failures;
  loans = n.loans ∙ m.loans;
  places = n.places ∙ m.places;
}

may_more : (e : EmitError) (a b : Asked) → More a b → MayFault e a → MayFault e b
may_more (Write kind) a b m h = h
may_more Memory a b m h = m.places ∙ h
may_more Position a b m h = m.places ∙ h
may_more Node a b m h = m.stops h

module _ {S : Type 0} (tells : S → Type 0) (state : S → State) (failed : S → ℕ) (loans : S → List GName) where
  abbrev At : S → Option EmitError → Asked → Type 0
  At w f a = IsAt {S = S} tells state failed loans w f a

  later : (w : S) (e : EmitError) (a b : Asked) → More a b → At w (Some e) a → At w (Some e) b
  later w e a b m h = record {
    wrote = (
      may_more e a b m h.wrote.0,
      λ k.
          let z = h.wrote.1 (sym m.known ∙ k) in (
            z.0,
            subst (λ (l : List ℕ). IsFront l (state w).page.out) (sym m.before) z.1,
            front_trans (state w).page.out a.state.page.out b.state.page.out z.2 m.onward.out,
            fits_on e a.state b.state m.onward z.3,
          ),
    );
    begun = subst (λ (l : List ℕ). IsFront l b.state.page.out) (sym m.before) (front_trans a.before a.state.page.out b.state.page.out h.begun m.onward.out);
    text = λ t. m.text (h.text (sym m.textual ∙ t));
    failures = h.failures ∙ ap (count_after (failed_by (Some e))) (sym m.failures);
    lent = h.lent ∙ sym m.loans;
    places = h.places ∙ sym m.places;
  }

  -- behind a fault nothing is called
  pub passed : (x : Piece) (w : S) (e : EmitError) (a : Asked) → IsUtf8Piece x → At w (Some e) a → At w (Some e) (ask x a)
  passed x w e a u h = later w e a (ask x a) (more_asked x a u) h

  pub passed_stop : (w : S) (e : EmitError) (a : Asked) → At w (Some e) a → At w (Some e) (stop a)
  passed_stop w e a h = later w e a (stop a) (more_stopped a) h

  may_fault : (e : EmitError) (b : Asked) (p : Bool) → p ≡ b.places → MayAnswer {A = Unit {0}} p (Err e) → MayFault e b
  may_fault (Write kind) b p q m = tt
  may_fault Memory b p q m = sym q ∙ m
  may_fault Position b p q m = sym q ∙ m
  may_fault Node b p q m = absurd m

  more_begun : (x : Piece) (a : Asked) → IsFront a.before a.state.page.out → IsFront a.before (call x a.state).page.out
  more_begun x a h = front_trans a.before a.state.page.out (call x a.state).page.out h (call_onward x a.state).out

  asked_by : (x : Piece) → IsUtf8Piece x → (old new : S) (r : Result (Unit {0}) EmitError) → Does tells state (call x) old new r → Keeps state failed loans old new r
      → (a : Asked) → At old None a → At new (result_err r) (record a { state = call x a.state })
  asked_by x u old new (Ok v) d k a h = record {
    wrote = (h.wrote.0, λ t. let z = h.wrote.1 t in let y = d z.0 in (y.0, y.1 ∙ ap (call x) z.1));
    begun = more_begun x a h.begun;
    text = λ t. call_text x a.state u (h.text t);
    failures = k.2 ∙ h.failures;
    lent = k.1 ∙ h.lent;
    places = k.0 ∙ h.places;
  }
  asked_by x u old new (Err e) d k a h = record {
    wrote = (
      may_fault e (record a { state = call x a.state }) (has_places (state old)) h.places k.3,
      λ t.
          let z = h.wrote.1 t in
          let y = d z.0 in
          let same : call x (state old) ≡ call x a.state = ap (call x) z.1 in (
            y.0,
            front_trans a.before (state old).page.out (state new).page.out (subst (λ (s : State). IsFront a.before s.page.out) (sym z.1) h.begun) y.1.kept,
            subst (λ (s : State). IsFront (state new).page.out s.page.out) same y.1.beginning,
            subst (λ (s : State). FaultFits e s.page) same y.2,
          ),
    );
    begun = more_begun x a h.begun;
    text = λ t. call_text x a.state u (h.text t);
    failures = k.2 ∙ ap (count_after (is_write e)) h.failures;
    lent = k.1 ∙ h.lent;
    places = k.0 ∙ h.places;
  }

  going : (x : Piece) (a : Asked) → a.stops ≡ false → record a { state = call x a.state } ≡ ask x a
  unfolding ask
  going x a e = rw e refl

  -- a call is made where there is no fault: it was made, or it failed
  called : (x : Piece) → IsUtf8Piece x → (old new : S) (r : Result (Unit {0}) EmitError) (f : Option EmitError) → is_some f ≡ false
      → Does tells state (call x) old new r → Keeps state failed loans old new r → (a : Asked) → At old f a → At new (result_err r) (ask x a)
  called x u old new r None e d k a h = subst (At new (result_err r)) (going x a h.wrote.0) (asked_by x u old new r d k a h)
  called x u old new r (Some v) e d k a h = absurd (cc)

  passed_by : (x : Piece) → IsUtf8Piece x → (w : S) (f : Option EmitError) → is_some f ≡ true → (a : Asked) → At w f a → At w f (ask x a)
  passed_by x u w (Some e) p a h = passed x w e a u h
  passed_by x u w None p a h = absurd (cc)

  refuses : (w : S) (f : Option EmitError) → is_some f ≡ false → (a : Asked) → At w f a → At w (Some Node) (stop a)
  unfolding stop
  refuses w None e a h = record {
    wrote = (
      refl,
      λ t.
          let z = h.wrote.1 t in (
            z.0,
            subst (λ (s : State). IsFront a.before s.page.out) (sym z.1) h.begun,
            subst (λ (s : State). IsFront s.page.out a.state.page.out) (sym z.1) (front_same a.state.page.out),
            tt,
          ),
    );
    begun = h.begun;
    text = h.text;
    failures = h.failures;
    lent = h.lent;
    places = h.places;
  }
  refuses w (Some v) e a h = absurd (cc)

  stopped_by : (w : S) (f : Option EmitError) → is_some f ≡ true → (a : Asked) → At w f a → At w f (stop a)
  stopped_by w (Some e) p a h = passed_stop w e a h
  stopped_by w None p a h = absurd (cc)

-- Where no positions are kept, a mark does nothing.
no_marks : (f : Marks → Marks) (p : Page) (m : Option Marks) → p.marks ≡ m → is_some m ≡ false → p ≡ record p { marks = option_map f p.marks }
no_marks f p None e n = ap (λ (m : Option Marks). record p { marks = m }) e ∙ sym (ap (λ (m : Option Marks). record p { marks = option_map f m }) e)
no_marks f p (Some x) e n = absurd (cc)

page_unmarked : (pos : BytePos) (p : Page) → is_some p.marks ≡ false → p ≡ put_mark pos p
unfolding put_mark marked
page_unmarked pos p n = elim (pos.0 == 0) as (λ (b : Bool). p ≡ (if b then p else (if p.at_start then record p { marks = option_map (waiting_for (Some pos)) p.marks } else record p { marks = option_map (record_here pos) p.marks }))) [
  | true ↦ refl
  | false ↦ elim p.at_start as (λ (b : Bool). p ≡ (if b then record p { marks = option_map (waiting_for (Some pos)) p.marks } else record p { marks = option_map (record_here pos) p.marks })) [
    | true ↦ no_marks (waiting_for (Some pos)) p p.marks refl n
    | false ↦ no_marks (record_here pos) p p.marks refl n
  ]
]

state_unmarked : (pos : BytePos) (s : State) → has_places s ≡ false → s ≡ mark pos s
unfolding mark
state_unmarked pos s n = ap (λ (p : Page). record s { page = p }) (page_unmarked pos s.page n)

-- A page without marks stays one.
mapped : (f : Marks → Marks) (o : Option Marks) → o ≡ None → option_map f o ≡ None
mapped f o e = ap (λ (m : Option Marks). option_map f m) e

either_none : (b : Bool) (q r : Page) → q.marks ≡ None → r.marks ≡ None → (if b then q else r).marks ≡ None
either_none true q r x y = x
either_none false q r x y = y

indented_none : (p : Page) → p.marks ≡ None → (indented p).marks ≡ None
unfolding indented
indented_none p e = either_none p.at_start _ _ (mapped _ p.marks e) e

begun_none : (span : Option Span) (p : Page) → p.marks ≡ None → (begun span p).marks ≡ None
unfolding marked
begun_none None p e = e
begun_none (Some span) p e = mapped _ p.marks e

ended_none : (span : Option Span) (p : Page) → p.marks ≡ None → (ended span p).marks ≡ None
unfolding marked
ended_none None p e = e
ended_none (Some span) p e = mapped _ p.marks e

with_text_none : (bytes : List ℕ) (p : Page) → p.marks ≡ None → (with_text bytes p).marks ≡ None
unfolding with_text
with_text_none bytes p e = mapped _ p.marks e

put_none : (span : Option Span) (bytes : List ℕ) (p : Page) → p.marks ≡ None → (put span bytes p).marks ≡ None
unfolding put
put_none span bytes p e = either_none (length bytes == 0) _ _ e (ended_none span _ (with_text_none bytes _ (begun_none span _ (indented_none p e))))

commit_none : (s : State) → s.page.marks ≡ None → (commit s).page.marks ≡ None
unfolding commit
commit_none s e = elim s.held as (λ (h : Option Span). let q : Page = elim h [ None ↦ s.page | Some span ↦ put (Some span) (codes ";") s.page ] in q.marks ≡ None) [
  | None ↦ e
  | Some span ↦ put_none (Some span) (codes ";") s.page e
]

no_places : (o : Option Marks) → is_some o ≡ false → o ≡ None
no_places None e = refl
no_places (Some m) e = absurd (cc)

-- A text writes the semicolon that waits before it.
committed_once : (bytes : List ℕ) (s : State) → text None bytes s ≡ text None bytes (commit s)
unfolding text commit
committed_once bytes s = refl

-- Where no positions are kept, a name with the place where it was read is a text.
name_is_text : (pos : BytePos) (bytes : List ℕ) (s : State) → has_places s ≡ false → text None bytes s ≡ text None bytes (mark pos (commit s))
name_is_text pos bytes s n =
    committed_once bytes s
    ∙ ap (text None bytes) (state_unmarked pos (commit s) (ap (λ (o : Option Marks). is_some o) (commit_none s (no_places s.page.marks n))))

-- what there is to write behind such a name
named_goes : (pos : BytePos) (bytes : List ℕ) (a : Asked) → a.stops ≡ false
    → record a { state = text None bytes (mark pos (commit a.state)) } ≡ lay (named pos bytes) a
unfolding ask
named_goes pos bytes a e = rw e refl

module _ {S : Type 0} (tells : S → Type 0) (state : S → State) (failed : S → ℕ) (loans : S → List GName) where
  -- a name was written at once
  name_put : (pos : BytePos) (bytes : List ℕ) → IsUtf8Piece (Text None bytes) → (old new : S) → has_places (state old) ≡ false
      → Puts tells state bytes old new true → KeepsAll state failed loans old new
      → (a : Asked) → At tells state failed loans old None a → At tells state failed loans new None (lay (named pos bytes) a)
  name_put pos bytes u old new n d k a h =
      let e = named_goes pos bytes a h.wrote.0 in
      let m = more_trans a (ask Commit a) (lay (named pos bytes) a) (more_asked Commit a tt)
      (more_trans (ask Commit a) (ask (Mark pos) (ask Commit a)) (lay (named pos bytes) a) (more_asked (Mark pos) (ask Commit a) tt)
      (more_asked (Text None bytes) (ask (Mark pos) (ask Commit a)) u)) in record {
        wrote = (
          sym (ap (λ (b : Asked). b.stops) e) ∙ h.wrote.0,
          λ t.
              let z = h.wrote.1 (sym m.known ∙ t) in
              let y = d z.0 in (
                y.0,
                y.1 ∙ ap (text None bytes) z.1 ∙ name_is_text pos bytes a.state (ap has_places (sym z.1) ∙ n) ∙ ap (λ (b : Asked). b.state) e,
              ),
        );
        begun = subst (λ (l : List ℕ). IsFront l (lay (named pos bytes) a).state.page.out) (sym m.before)
            (front_trans a.before a.state.page.out (lay (named pos bytes) a).state.page.out h.begun m.onward.out);
        text = λ t. m.text (h.text (sym m.textual ∙ t));
        failures = k.2 ∙ h.failures ∙ ap (count_after (failed_by None)) (sym m.failures);
        lent = k.1 ∙ h.lent ∙ sym m.loans;
        places = k.0 ∙ h.places ∙ sym m.places;
      }

  -- nothing was written at once
  not_put : (bytes : List ℕ) (old new : S) → Puts tells state bytes old new false → KeepsAll state failed loans old new
      → (a : Asked) → At tells state failed loans old None a → At tells state failed loans new None a
  not_put bytes old new d k a h = record {
    wrote = (h.wrote.0, λ t. let z = h.wrote.1 t in let y = d z.0 in (y.0, y.1 ∙ z.1));
    begun = h.begun;
    text = h.text;
    failures = k.2 ∙ h.failures;
    lent = k.1 ∙ h.lent;
    places = k.0 ∙ h.places;
  }

-- ---- what a function of the printer made: a call where there was no fault, and nothing behind one
pub asks : {S : Type 0} {tells : S → Type 0} {state : S → State} {failed : S → ℕ} {loans : S → List GName} {old new : S} {f g : Option EmitError} {b : Bool} {step : State → State}
    (x : Piece) → IsUtf8Piece x → step ≡ call x → (r : Result (Unit {0}) EmitError) → is_some f ≡ not b → b ≡ true → g ≡ result_err r
    → Does {S = S} {A = Unit {0}} tells state step old new r → Keeps {S = S} {A = Unit {0}} state failed loans old new r
    → Prints {S = S} tells state failed loans (one x) old f new g
asks {S} {tells} {state} {failed} {loans} {old} {new} {f} {g} x u q r n b e d k = record {
  so = λ a h. subst (λ (z : Option EmitError). IsAt {S = S} tells state failed loans new z (ask x a)) (sym e)
      (called tells state failed loans x u old new r f (n ∙ ap not b) (subst (λ (h : State → State). Does {S = S} {A = Unit {0}} tells state h old new r) q d) k a h);
}

pub passes : {S : Type 0} {tells : S → Type 0} {state : S → State} {failed : S → ℕ} {loans : S → List GName} {w : S} {f : Option EmitError} {b : Bool}
    (x : Piece) → IsUtf8Piece x → is_some f ≡ not b → b ≡ false → Prints {S = S} tells state failed loans (one x) w f w f
passes {S} {tells} {state} {failed} {loans} {w} {f} x u n b = record { so = λ a h. passed_by tells state failed loans x u w f (n ∙ ap not b) a h }

pub none_of : {A : Type 0} (f : Option A) → is_some f ≡ false → None ≡ f
none_of None e = refl
none_of (Some x) e = absurd (cc)

-- A text was written at once, where there was no fault.
pub put_at_once : {S : Type 0} {tells : S → Type 0} {state : S → State} {failed : S → ℕ} {loans : S → List GName} {old new : S} {f : Option EmitError} {done : Bool}
    (x : Piece) → IsUtf8Piece x → (bytes : List ℕ) → text None bytes ≡ call x → is_some f ≡ false → done ≡ true
    → Puts {S = S} tells state bytes old new done → KeepsAll {S = S} state failed loans old new
    → Prints {S = S} tells state failed loans (one x) old f new f
put_at_once {S} {tells} {state} {failed} {loans} {old} {new} {f} {done} x u bytes q n e d k =
    asks {S = S} {tells = tells} {state = state} {failed = failed} {loans = loans} {old = old} {new = new} {f = f} {g = f} {b = true} x u q (Ok tt) n refl (sym (none_of f n))
    (subst (λ (b : Bool). tells old → tells new × (state new ≡ (if b then text None bytes (state old) else state old))) e d) (k.0, k.1, k.2, tt)

-- A name was written at once, where there was no fault and no positions are kept.
pub name_at_once : {S : Type 0} {tells : S → Type 0} {state : S → State} {failed : S → ℕ} {loans : S → List GName} {old new : S} {f : Option EmitError} {marks done : Bool}
    (pos : BytePos) (bytes : List ℕ) → IsUtf8Piece (Text None bytes) → is_some f ≡ false → (marks ≡ false → has_places (state old) ≡ false) → marks ≡ false → done ≡ true
    → Puts {S = S} tells state bytes old new done → KeepsAll {S = S} state failed loans old new
    → Prints {S = S} tells state failed loans (named pos bytes) old f new f
name_at_once {S} {tells} {state} {failed} {loans} {old} {new} {f = None} {marks} {done} pos bytes u n p m e d k = record {
  so = λ a h. name_put tells state failed loans pos bytes u old new (p m) (subst (λ (b : Bool). Puts {S = S} tells state bytes old new b) e d) k a h;
}
name_at_once {S} {f = Some v} pos bytes u n p m e d k = absurd (cc)

-- Nothing was written at once, so all that follows is as before.
pub behind_not_put : {S : Type 0} {tells : S → Type 0} {state : S → State} {failed : S → ℕ} {loans : S → List GName} {old mid new : S} {f g : Option EmitError} {l : Laid} {done : Bool}
    (bytes : List ℕ) → is_some f ≡ false → done ≡ false
    → Puts {S = S} tells state bytes old mid done → KeepsAll {S = S} state failed loans old mid
    → Prints {S = S} tells state failed loans l mid f new g → Prints {S = S} tells state failed loans l old f new g
behind_not_put {S} {tells} {state} {failed} {loans} {old} {mid} {new} {f = None} {g} {l} {done} bytes n e d k q = record {
  so = λ a h. q.so a (not_put tells state failed loans bytes old mid (subst (λ (b : Bool). Puts {S = S} tells state bytes old mid b) e d) k a h);
}
behind_not_put {S} {f = Some v} bytes n e d k q = absurd (cc)

-- An empty text writes the semicolon that waits, and no more.
empty_is_commit : (a : Asked) → ask Commit a ≡ ask (Text None []) a
unfolding ask text put
empty_is_commit a = refl

pub committed : {S : Type 0} {tells : S → Type 0} {state : S → State} {failed : S → ℕ} {loans : S → List GName} {w v : S} {f g : Option EmitError}
    → Prints {S = S} tells state failed loans (one Commit) w f v g → Prints {S = S} tells state failed loans (one (Text None [])) w f v g
committed {S} {tells} {state} {failed} {loans} {w} {v} {f} {g} h = record { so = λ a z. subst (IsAt {S = S} tells state failed loans v g) (empty_is_commit a) (h.so a z) }

-- A mark where no positions are kept: nothing was done.
pub unmarked : {S : Type 0} {tells : S → Type 0} {state : S → State} {failed : S → ℕ} {loans : S → List GName} {w : S} {f : Option EmitError} {b : Bool}
    (pos : BytePos) → (b ≡ false → has_places (state w) ≡ false) → b ≡ false → Prints {S = S} tells state failed loans (one (Mark pos)) w f w f
unmarked {S} {tells} {state} {failed} {loans} {w} {f = None} {b} pos e n =
    asks {S = S} {tells = tells} {state = state} {failed = failed} {loans = loans} {old = w} {new = w} {f = None} {g = None} {b = true} (Mark pos) tt refl (Ok tt) refl refl refl
    (λ t. (t, state_unmarked pos (state w) (e n))) (refl, refl, refl, tt)
unmarked {S} {tells} {state} {failed} {loans} {w} {f = Some v} {b} pos e n = passes {S = S} {tells = tells} {state = state} {failed = failed} {loans = loans} {w = w} {f = Some v} {b = false} (Mark pos) tt refl refl

pub refuses_now : {S : Type 0} {tells : S → Type 0} {state : S → State} {failed : S → ℕ} {loans : S → List GName} {w : S} {f : Option EmitError} {b : Bool}
    → is_some f ≡ not b → b ≡ true → Prints {S = S} tells state failed loans refused w f w (Some Node)
refuses_now {S} {tells} {state} {failed} {loans} {w} {f} n b = record { so = λ a h. refuses tells state failed loans w f (n ∙ ap not b) a h }

pub refuses_again : {S : Type 0} {tells : S → Type 0} {state : S → State} {failed : S → ℕ} {loans : S → List GName} {w : S} {f : Option EmitError} {b : Bool}
    → is_some f ≡ not b → b ≡ false → Prints {S = S} tells state failed loans refused w f w f
refuses_again {S} {tells} {state} {failed} {loans} {w} {f} n b = record { so = λ a h. stopped_by tells state failed loans w f (n ∙ ap not b) a h }

-- nothing is written
pub idle : {S : Type 0} {tells : S → Type 0} {state : S → State} {failed : S → ℕ} {loans : S → List GName} {w : S} {f : Option EmitError}
    → Prints {S = S} tells state failed loans nothing w f w f
idle = record { so = λ a h. h }

-- one part, and then another
infixr 30 ◌▸◌
pub ◌▸◌ : {S : Type 0} {tells : S → Type 0} {state : S → State} {failed : S → ℕ} {loans : S → List GName} {l m : Laid} {w v u : S} {f g e : Option EmitError}
    → Prints {S = S} tells state failed loans l w f v g → Prints {S = S} tells state failed loans m v g u e → Prints {S = S} tells state failed loans (both l m) w f u e
◌▸◌ {l = l} h k = record { so = λ a z. k.so (lay l a) (h.so a z) }

-- what is written where something holds
pub present : {S : Type 0} {tells : S → Type 0} {state : S → State} {failed : S → ℕ} {loans : S → List GName} {l : Laid} {w v : S} {f g : Option EmitError} {b : Bool}
    → b ≡ true → Prints {S = S} tells state failed loans l w f v g → Prints {S = S} tells state failed loans (when b l) w f v g
present {b} e h = rw e h

-- the same where the condition is written otherwise
pub when_as : {S : Type 0} {tells : S → Type 0} {state : S → State} {failed : S → ℕ} {loans : S → List GName} (l : Laid) {w v : S} {f g : Option EmitError} {b d : Bool}
    → b ≡ d → Prints {S = S} tells state failed loans (when b l) w f v g → Prints {S = S} tells state failed loans (when d l) w f v g
when_as {S} {tells} {state} {failed} {loans} l {w} {v} {f} {g} e h = subst (λ (b : Bool). Prints {S = S} tells state failed loans (when b l) w f v g) e h

-- the same for a layout that is written otherwise
pub laid_as : {S : Type 0} {tells : S → Type 0} {state : S → State} {failed : S → ℕ} {loans : S → List GName} {l m : Laid} {w v : S} {f g : Option EmitError}
    → l ≡ m → Prints {S = S} tells state failed loans l w f v g → Prints {S = S} tells state failed loans m w f v g
laid_as {S} {tells} {state} {failed} {loans} {l} {m} {w} {v} {f} {g} e h = subst (λ (k : Laid). Prints {S = S} tells state failed loans k w f v g) e h

-- a name with the place where it was read
pub named_as : {S : Type 0} {tells : S → Type 0} {state : S → State} {failed : S → ℕ} {loans : S → List GName} {pos : BytePos} {own : List ℕ} {w v : S} {f g : Option EmitError}
    → Prints {S = S} tells state failed loans (both (one Commit) (both (one (Mark pos)) (one (Text None own)))) w f v g → Prints {S = S} tells state failed loans (named pos own) w f v g
named_as h = record { so = h.so }

-- and the other way round
pub as_named : {S : Type 0} {tells : S → Type 0} {state : S → State} {failed : S → ℕ} {loans : S → List GName} {pos : BytePos} {own : List ℕ} {w v : S} {f g : Option EmitError}
    → Prints {S = S} tells state failed loans (named pos own) w f v g → Prints {S = S} tells state failed loans (both (one Commit) (both (one (Mark pos)) (one (Text None own)))) w f v g
as_named h = record { so = h.so }

-- a blank that words ask for, where it is asked otherwise
pub gap_as : {S : Type 0} {tells : S → Type 0} {state : S → State} {failed : S → ℕ} {loans : S → List GName} (look : Look) {w v : S} {f g : Option EmitError} {b d : Bool}
    → b ≡ d → Prints {S = S} tells state failed loans (gap_or look b) w f v g → Prints {S = S} tells state failed loans (gap_or look d) w f v g
gap_as {S} {tells} {state} {failed} {loans} look {w} {v} {f} {g} e h = subst (λ (b : Bool). Prints {S = S} tells state failed loans (gap_or look b) w f v g) e h

-- one of two, as it is chosen
pub chosen : {S : Type 0} {tells : S → Type 0} {state : S → State} {failed : S → ℕ} {loans : S → List GName} {l : Laid} (m : Laid) {w v : S} {f g : Option EmitError} {b : Bool}
    → b ≡ true → Prints {S = S} tells state failed loans l w f v g → Prints {S = S} tells state failed loans (if b then l else m) w f v g
chosen m e h = rw e h
