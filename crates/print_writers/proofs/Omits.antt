-- A semicolon that waits is written before the next step.
use Rattle.std.specs.Prelude.{Bool, true, false, if◌then◌else◌, Result, Ok, Err, codes, IsSome, is_some, not}
use Rattle.std.proofs.Common.{◌≡◌, ℕ, List, Option, None, Some, refl, sym, ap, subst, ◌∙◌}
use Rattle.base_token.specs.declared.place.BytePos.{BytePos}
use Rattle.base_token.specs.declared.place.Span.{Span}
use Rattle.print_writers.specs.declared.fault.EmitError.{EmitError}
use Rattle.print_writers.specs.declared.omit.OmitTrailingSemi.{OmitTrailingSemi}
use Rattle.print_writers.specs.Pages.{Page, IsLeft, IsFront, put}
use Rattle.print_writers.specs.States.{State, Does, FaultFits, commit, on_page, text, semi, span_or_none, punct, mark, is_brace}
use Rattle.print_writers.specs.Omitting.{waiting, omit_state, omit_tells, Settles}
use Rattle.print_writers.proofs.Growing.{Grows, left_later, left_from, fits_later, front_same, grows_put}

commit_held : (s : State) → s.held ≡ None → commit s ≡ record s { held = None }
unfolding commit
commit_held s e = ap (λ (h : Option Span). record s { page = elim h [ None ↦ s.page | Some span ↦ put (Some span) (codes ";") s.page ]; held = None }) e

-- the state with this page, in which no semicolon waits
pub free : State → Page → State
free s p = record s { page = p; held = None }

pub on_free : (f : Page → Page) (s : State) → s.held ≡ None → on_page f s ≡ free s (f s.page)
unfolding free
on_free f s e = ap (λ (t : State). record t { page = f t.page }) (commit_held s e)

-- the page of a writer in which this semicolon waits, once it is written
done : Option Span → State → Page
done pending s = (commit (record { page = s.page; held = waiting pending s.held; holds = true })).page

done_some : (span : Span) (s : State) → done (Some span) s ≡ put (Some span) (codes ";") s.page
unfolding done commit
done_some span s = refl

done_none : (s : State) → commit s ≡ free s (done None s)
unfolding done free commit
done_none s = refl

bad_some : (o : Option Span) → o ≡ None → IsSome o → ⊥
bad_some o e h = let bad : is_some {T = Span} None ≡ true = subst (λ (o : Option Span). is_some o ≡ true) e h in absurd (cc)

commit_grows : (s : State) → IsFront s.page.out (commit s).page.out
unfolding commit
commit_grows s = elim s.held as (λ (h : Option Span). let q : Page = elim h [ None ↦ s.page | Some span ↦ put (Some span) (codes ";") s.page ] in IsFront s.page.out q.out) [
  | None ↦ front_same s.page.out
  | Some span ↦ (grows_put (Some span) (codes ";")).out s.page
]

punct_brace : (span : Option Span) (bytes : List ℕ) (s : State) → is_brace bytes ≡ true → punct span bytes s ≡ free s (put span bytes s.page)
unfolding punct text free commit
punct_brace span bytes s e = ap (λ (b : Bool). on_page (put span bytes) (if b then record s { held = None } else s)) e

-- the state of a writer over one in this state, where this semicolon waits
outer : Option Span → State → State
outer pending s = record { page = s.page; held = waiting pending s.held; holds = true }

none_by : {A : Type 0} (o : Option A) → is_some o ≡ false → o ≡ None
none_by None e = refl
none_by (Some x) e = absurd (cc)

outer_put : (pending : Option Span) → pending ≡ None → (bytes : List ℕ) (all : Bool) (s : State)
    → outer pending (if all then text None bytes s else s) ≡ (if all then text None bytes (outer pending s) else outer pending s)
unfolding outer text commit
outer_put None e bytes true s = refl
outer_put None e bytes false s = refl
outer_put (Some x) e bytes all s = absurd (cc)

module _ {W : Type 0} (tells : W → Type 0) (state : W → State) where
  abbrev Outer : Type 0
  Outer = OmitTrailingSemi W

  -- what is known where the semicolon was written, and where it was not
  abbrev Frees : Outer → Outer → Type 0
  Frees old new = omit_tells tells state old → tells new.inner × (new.pending ≡ None)
      × (state new.inner ≡ record (state old.inner) { page = (commit (omit_state state old)).page; held = None })

  abbrev Stops : Outer → Outer → EmitError → Type 0
  Stops old new e = omit_tells tells state old → omit_tells tells state new
      × IsLeft (omit_state state old).page (omit_state state new).page (commit (omit_state state old)).page × FaultFits e (commit (omit_state state old)).page

  -- the semicolon that waits here was handed on as a text
  pub settle_some : {A : Type 0} (old : Outer) (i : W) (span : Span) (r : Result A EmitError) → old.pending ≡ Some span
      → Does tells state (text (Some span) (codes ";")) old.inner i r → Settles tells state old (record { inner = i; pending = None }) r
  unfolding text done free commit
  settle_some old i span (Ok x) held h = λ t.
      let s = state old.inner in
      let none : s.held ≡ None = t.1 (ap (λ (o : Option Span). is_some o) held) in
      let page : done (Some span) s ≡ (commit (omit_state state old)).page = ap (λ (o : Option Span). done o s) (sym held) in
      let q = h t.0 in
      (q.0, refl, q.1 ∙ on_free (put (Some span) (codes ";")) s none ∙ ap (free s) page)
  settle_some old i span (Err e) held h = λ t.
      let s = state old.inner in
      let none : s.held ≡ None = t.1 (ap (λ (o : Option Span). is_some o) held) in
      let page : done (Some span) s ≡ (commit (omit_state state old)).page = ap (λ (o : Option Span). done o s) (sym held) in
      let q = h t.0 in
      let is : (text (Some span) (codes ";") s).page ≡ (commit (omit_state state old)).page = ap (λ (t : State). t.page) (on_free (put (Some span) (codes ";")) s none) ∙ page in (
        (q.0, λ some. absurd (bad_some None refl some)),
        subst (λ (p : Page). IsLeft s.page (state i).page p) is q.1,
        subst (FaultFits e) is q.2,
      )

  -- none waits here, and one may behind
  pub settle_none : {A : Type 0} (old : Outer) (i : W) (r : Result A EmitError) → old.pending ≡ None
      → Does tells state commit old.inner i r → Settles tells state old (record { inner = i; pending = old.pending }) r
  unfolding done free commit
  settle_none old i (Ok x) held h = λ t.
      let s = state old.inner in
      let page : done None s ≡ (commit (omit_state state old)).page = ap (λ (o : Option Span). done o s) (sym held) in
      let q = h t.0 in
      (q.0, held, q.1 ∙ done_none s ∙ ap (free s) page)
  settle_none old i (Err e) held h = λ t.
      let s = state old.inner in
      let page : done None s ≡ (commit (omit_state state old)).page = ap (λ (o : Option Span). done o s) (sym held) in
      let q = h t.0 in (
        (q.0, λ some. absurd (bad_some old.pending held some)),
        subst (λ (p : Page). IsLeft s.page (state i).page p) page q.1,
        subst (FaultFits e) page q.2,
      )

  -- the writer behind in this state, and no semicolon here
  freed : (old : Outer) (i : W) (pending : Option Span) (p : Page) → pending ≡ None → state i ≡ free (state old.inner) p
      → omit_state state (record { inner = i; pending = pending }) ≡ record { page = p; held = None; holds = true }
  unfolding free
  freed old i pending p none e =
      ap (λ (o : Option Span). omit_state state (record { inner = i; pending = o })) none
      ∙ ap (λ (s : State). let t : State = record { page = s.page; held = s.held; holds = true } in t) e

  -- the semicolon is written: a call of its own
  pub settles : {A : Type 0} (old new : Outer) (r : Result A EmitError) → Settles tells state old new r → Does (omit_tells tells state) (omit_state state) commit old new r
  unfolding free commit
  settles old new (Ok x) h = λ t.
      let q = h t in
      ((q.0, λ some. absurd (bad_some new.pending q.1 some)), freed old new.inner new.pending (commit (omit_state state old)).page q.1 q.2)
  settles old new (Err e) h = h

  -- the semicolon stopped, and the call was not made
  pub omit_stops : {A : Type 0} (f : Page → Page) → Grows f → (old new : Outer) (e : EmitError) (r : Result A EmitError) → r ≡ Err e
      → Stops old new e → Does (omit_tells tells state) (omit_state state) (on_page f) old new r
  omit_stops f a old new e r is h = subst (Does (omit_tells tells state) (omit_state state) (on_page f) old new) (sym is) (λ t.
      let q = h t in
      (q.0, left_later f a _ _ _ q.1, fits_later f a e _ q.2))

  -- the semicolon is written, and then the call is made, or a part of it
  pub omit_then : {A : Type 0} (f : Page → Page) → Grows f → (old mid : Outer) (i : W) (r : Result A EmitError)
      → Frees old mid → Does tells state (on_page f) mid.inner i r
      → Does (omit_tells tells state) (omit_state state) (on_page f) old (record { inner = i; pending = mid.pending }) r
  unfolding free commit
  omit_then f a old mid i (Ok y) h k = λ t.
      let q = h t in
      let z = k q.0 in
      let s = state mid.inner in
      let none : s.held ≡ None = ap (λ (s : State). s.held) q.2 in
      let is : state i ≡ free (state old.inner) (f (commit (omit_state state old)).page) =
      z.1 ∙ on_free f s none ∙ ap (λ (s : State). free s (f s.page)) q.2 in
      ((z.0, λ some. absurd (bad_some mid.pending q.1 some)), freed old i mid.pending (f (commit (omit_state state old)).page) q.1 is)
  omit_then f a old mid i (Err e) h k = λ t.
      let q = h t in
      let z = k q.0 in
      let s = state mid.inner in
      let none : s.held ≡ None = ap (λ (s : State). s.held) q.2 in
      let p : s.page ≡ (commit (omit_state state old)).page = ap (λ (s : State). s.page) q.2 in
      let is : (on_page f s).page ≡ f (commit (omit_state state old)).page = ap (λ (s : State). s.page) (on_free f s none) ∙ ap f p in (
        (z.0, λ some. absurd (bad_some mid.pending q.1 some)),
        left_from (state old.inner).page s.page (state i).page (f (commit (omit_state state old)).page) (subst (λ (p : Page). IsFront (state old.inner).page.out p.out) (sym p) (commit_grows (omit_state state old)))
            (subst (λ (p : Page). IsLeft s.page (state i).page p) is z.1),
        subst (FaultFits e) is z.2,
      )

  -- a semicolon of its own waits, once the one before it is written
  pub semi_stops : {A : Type 0} (span : Option Span) (old new : Outer) (e : EmitError) (r : Result A EmitError) → r ≡ Err e
      → Stops old new e → Does (omit_tells tells state) (omit_state state) (semi span) old new r
  unfolding semi
  semi_stops span old new e r is h = subst (Does (omit_tells tells state) (omit_state state) (semi span) old new) (sym is) h

  pub semi_waits : (span : Option Span) (own : Span) (old mid : Outer) → own ≡ span_or_none span → Frees old mid
      → omit_tells tells state old → omit_tells tells state (record { inner = mid.inner; pending = Some own })
      × (omit_state state (record { inner = mid.inner; pending = Some own }) ≡ semi span (omit_state state old))
  unfolding semi commit
  semi_waits span own old mid is h = λ t.
      let q = h t in (
        (q.0, λ some. ap (λ (s : State). s.held) q.2),
        ap (λ (s : State). let w : State = record { page = s.page; held = Some own; holds = true } in w) q.2
            ∙ ap (λ (x : Span). let w : State = record { page = (commit (omit_state state old)).page; held = Some x; holds = true } in w) is,
      )

  -- before a brace none is written
  pub brace_drops : {A : Type 0} (span : Option Span) (bytes : List ℕ) (old : Outer) (i : W) (r : Result A EmitError) → is_brace bytes ≡ true
      → Does tells state (punct span bytes) old.inner i r → Does (omit_tells tells state) (omit_state state) (punct span bytes) old (record { inner = i; pending = None }) r
  unfolding free
  brace_drops span bytes old i (Ok x) e h = λ t.
      let q = h t.0 in (
        (q.0, λ some. absurd (bad_some None refl some)),
        freed old i None (put span bytes (state old.inner).page) refl (q.1 ∙ punct_brace span bytes (state old.inner) e) ∙ sym (punct_brace span bytes (omit_state state old) e),
      )
  brace_drops span bytes old i (Err x) e h = λ t.
      let q = h t.0 in
      let is : (punct span bytes (state old.inner)).page ≡ (punct span bytes (omit_state state old)).page =
      ap (λ (s : State). s.page) (punct_brace span bytes (state old.inner) e) ∙ sym (ap (λ (s : State). s.page) (punct_brace span bytes (omit_state state old) e)) in (
        (q.0, λ some. absurd (bad_some None refl some)),
        subst (λ (p : Page). IsLeft (state old.inner).page (state i).page p) is q.1,
        subst (FaultFits x) is q.2,
      )

  -- another punctuator is a text
  pub punct_stops : {A : Type 0} (span : Option Span) (bytes : List ℕ) (old new : Outer) (e : EmitError) (r : Result A EmitError) → is_brace bytes ≡ false → r ≡ Err e
      → Stops old new e → Does (omit_tells tells state) (omit_state state) (punct span bytes) old new r
  unfolding punct text
  punct_stops span bytes old new e r other is h =
      subst (λ b. Does (omit_tells tells state) (omit_state state) (λ s. on_page (put span bytes) (if b then record s { held = None } else s)) old new r) (sym other)
      (omit_stops (put span bytes) (grows_put span bytes) old new e r is h)

  pub punct_then : {A : Type 0} (span : Option Span) (bytes : List ℕ) (old mid : Outer) (i : W) (r : Result A EmitError) → is_brace bytes ≡ false → Frees old mid
      → Does tells state (punct span bytes) mid.inner i r → Does (omit_tells tells state) (omit_state state) (punct span bytes) old (record { inner = i; pending = mid.pending }) r
  unfolding punct text
  punct_then span bytes old mid i r other h k =
      subst (λ b. Does (omit_tells tells state) (omit_state state) (λ s. on_page (put span bytes) (if b then record s { held = None } else s)) old (record { inner = i; pending = mid.pending }) r) (sym other)
      (omit_then (put span bytes) (grows_put span bytes) old mid i r h
      (subst (λ b. Does tells state (λ s. on_page (put span bytes) (if b then record s { held = None } else s)) mid.inner i r) other k))

  -- a mark leaves it
  pub mark_leaves : (pos : BytePos) (old : Outer) (i : W) → (tells old.inner → tells i × (state i ≡ mark pos (state old.inner)))
      → omit_tells tells state old → omit_tells tells state (record { inner = i; pending = old.pending })
      × (omit_state state (record { inner = i; pending = old.pending }) ≡ mark pos (omit_state state old))
  unfolding mark
  mark_leaves pos old i h = λ t.
      let q = h t.0 in (
        (q.0, λ some. ap (λ (s : State). s.held) q.1 ∙ t.1 some),
        ap (λ (s : State). let w : State = record { page = s.page; held = waiting old.pending s.held; holds = true } in w) q.1,
      )

  pub mark_stops : (pos : BytePos) (old : Outer) (i : W) (e : EmitError)
      → (tells old.inner → tells i × IsLeft (state old.inner).page (state i).page (mark pos (state old.inner)).page × FaultFits e (mark pos (state old.inner)).page)
      → omit_tells tells state old → omit_tells tells state (record { inner = i; pending = None })
      × IsLeft (omit_state state old).page (omit_state state (record { inner = i; pending = None })).page (mark pos (omit_state state old)).page
      × FaultFits e (mark pos (omit_state state old)).page
  unfolding mark
  mark_stops pos old i e h = λ t. let q = h t.0 in ((q.0, λ some. absurd (bad_some None refl some)), q.1, q.2)

  -- a text that is written at once, or not at all, where no semicolon waits here
  pub put_free : {b : Bool} (bytes : List ℕ) (all : Bool) (old : Outer) (i : W) → is_some old.pending ≡ not b → b ≡ true
      → (tells old.inner → tells i × (state i ≡ (if all then text None bytes (state old.inner) else state old.inner)))
      → omit_tells tells state old → omit_tells tells state (record { inner = i; pending = old.pending })
      × (omit_state state (record { inner = i; pending = old.pending }) ≡ (if all then text None bytes (omit_state state old) else omit_state state old))
  unfolding outer
  put_free {b} bytes all old i n e h = λ t.
      let q = h t.0 in
      let none : old.pending ≡ None = none_by old.pending (n ∙ ap not e) in (
        (q.0, λ some. absurd (bad_some old.pending none some)),
        ap (outer old.pending) q.1 ∙ outer_put old.pending none bytes all (state old.inner),
      )
