-- What printing does, from what its steps do.
use Rattle.std.proofs.Common.{◌≡◌, ◌⊎◌, ℕ, IfSome, codes, Vec, Global, ◌<◌, ◌≤◌, Bool, true, false, if◌then◌else◌, List, [], ◌∷◌, ◌++◌, Option, None, Some, IsSome, is_some, is_ok, Result, Ok, Err, inl, inr, length, take, refl, sym, ap, subst, ◌∙◌, append-nil}
use Rattle.std.specs.Option.{option_map}
use Rattle.std.specs.Borrow.{MutBor}
use base.Fml.{GName}
use Rattle.std.specs.Str.{IsUtf8}
use Rattle.std.proofs.lemmas.Str.{IsUtf8-nil}
use Rattle.std.specs.Io.KnownBytes.{Appends, Keeps, append_known}
use Rattle.base_token.specs.declared.place.BytePos.{BytePos}
use Rattle.base_token.specs.declared.place.LineCol.{LineCol}
use Rattle.tree_spec.specs.Tree.{Tree}
use Rattle.print_layout_spec.specs.Looks.{listed}
use Rattle.print_writers.specs.Pages.{Marks, Page, IsFront, IsPast, told}
use Rattle.print_writers.specs.States.{State, FaultFits, is_write}
use Rattle.print_writers.specs.Views.{first_page, first_marks, js_behind, js_loans, js_page, js_state, js_tells, marks_loans, marks_of as marks_in, IsListOf}
use Rattle.print_writers.specs.declared.js_writer.JsWriter.{JsWriter}
use Rattle.print_writers.specs.declared.marks.MarkList.{MarkList}
use Rattle.print_writers.specs.declared.fault.EmitError.{EmitError}
use Rattle.print_writers.specs.declared.fault.EmitError.TheVariants.{Write, Memory, Node, Position}
use Rattle.print_pages_spec.specs.Pieces.{resolved, shortened}
use Rattle.print_pages_spec.specs.Utf8.{IsUtf8Page}
use Rattle.print_pages_spec.proofs.Resolving.{calls_resolve, calls_shorten}
use Rattle.print_pages_spec.proofs.Utf8.{times_text}
use Rattle.print_pages_spec.proofs.Unmarked.{plain}
use Rattle.ecma_codegen.specs.Emits.{Emits, emitted, MayRefuse}
use Rattle.run_command.specs.Options.{is_format}
use Rattle.run_command.specs.declared.options.Options.{Options}
use Rattle.run_command.specs.declared.options.Indent.{Indent}
use Rattle.run_command.specs.declared.options.Indent.TheVariants.{Blanks, Tabs}
use Rattle.run_command.specs.declared.options.LineEnd.{LineEnd}
use Rattle.run_command.specs.declared.options.LineEnd.TheVariants.{Lf, CrLf}
use Rattle.print_blocks.specs.declared.Blocks.{Blocks}
use Rattle.print_blocks.specs.Blocks.{at_of, behind, waiting, taken, noted}
use Rattle.print_blocks.proofs.Phases.{numbered}
use Rattle.run_print.specs.Layouts.{indent_of, laid_of, line_end_of, marks_of, page_of, written_on, layout, positions_of, IsPastLast}
use Rattle.run_print.specs.Prints.{Tells, IsDone, IsStopped}
use Rattle.run_print.specs.Steps.{begun_page, Ends, LaysOut}
use Rattle.run_print.proofs.Onto.{onto, onto_resolved, onto_shortened, plain_resolved, plain_shortened}
use Rattle.run_print.proofs.Parts.{first, all_out, some_out, front_behind}

onto_written : (front : List ℕ) (o : Options) (t : Tree) (p : Page) → onto front (written_on o t p) ≡ written_on o t (onto front p)
unfolding written_on
onto_written front o t p = by (is_format o.style)
  where
    by : (b : Bool) → onto front (if b then resolved (listed (laid_of o t) []) p else shortened (listed (laid_of o t) []) p)
        ≡ (if b then resolved (listed (laid_of o t) []) (onto front p) else shortened (listed (laid_of o t) []) (onto front p))
    by true = onto_resolved front (listed (laid_of o t) []) p
    by false = onto_shortened front (listed (laid_of o t) []) p

plain_written : (o : Options) (t : Tree) (p : Page) → plain (written_on o t p) ≡ written_on o t (plain p)
unfolding written_on
plain_written o t p = by (is_format o.style)
  where
    by : (b : Bool) → plain (if b then resolved (listed (laid_of o t) []) p else shortened (listed (laid_of o t) []) p)
        ≡ (if b then resolved (listed (laid_of o t) []) (plain p) else shortened (listed (laid_of o t) []) (plain p))
    by true = plain_resolved (listed (laid_of o t) []) p
    by false = plain_shortened (listed (laid_of o t) []) p

-- Where positions are not asked for, no page has marks.
pub no_marks : (o : Options) (t : Tree) → o.positions ≡ false → (written_on o t (page_of o)).marks ≡ None
no_marks o t off =
    let same : page_of o ≡ plain (page_of o) = ap (λ (b : Bool). record (page_of o) { marks = if b then Some (first_marks []) else None }) off in
    ap (λ (p : Page). (written_on o t p).marks) same ∙ ap (λ (p : Page). p.marks) (sym (plain_written o t (page_of o)))

-- So none of its places is past the last, and there are no positions.
pub no_place_past : (o : Options) (t : Tree) → o.positions ≡ false → IsPastLast o t → ⊥
unfolding IsPastLast
no_place_past o t off past = let none = no_marks o t off in absurd (cc (none, past.1))

pub no_positions : (o : Options) (t : Tree) → o.positions ≡ false → positions_of o t ≡ None
unfolding positions_of
no_positions o t off = ap (λ (m : Option Marks). option_map (λ (n : Marks). n.pairs) m) (no_marks o t off)

-- the calls that a layout makes, in the style that is asked for
pub written_long : (o : Options) (t : Tree) (p : Page) → is_format o.style ≡ true → (emitted (laid_of o t) (record { page = p; held = None; holds = false })).page ≡ written_on o t p
unfolding written_on
written_long o t p e =
    calls_resolve (listed (laid_of o t) []) p
    ∙ sym (ap (λ (b : Bool). if b then resolved (listed (laid_of o t) []) p else shortened (listed (laid_of o t) []) p) e)

pub written_short : (o : Options) (t : Tree) (p : Page) → is_format o.style ≡ false → (emitted (laid_of o t) (record { page = p; held = None; holds = true })).page ≡ written_on o t p
unfolding written_on
written_short o t p e =
    calls_shorten (listed (laid_of o t) []) p
    ∙ sym (ap (λ (b : Bool). if b then resolved (listed (laid_of o t) []) p else shortened (listed (laid_of o t) []) p) e)

-- What emitting makes of a writer of texts, whatever stands between it and the printer.
module _ {S W : Type 0} (tells : S → Type 0) (state : S → State) (s0 s1 : S) (contents : W → Option (List ℕ)) (o : Options) (t : Tree) (wr new : JsWriter W)
    (page0 : (state s0).page ≡ begun_page contents o wr) (page1 : (state s1).page ≡ js_page contents new) (tells0 : js_tells contents wr → tells s0) (tells1 : tells s1 → js_tells contents new)
    (resolves : (emitted (laid_of o t) (state s0)).page ≡ written_on o t (state s0).page)
  where
    page_done : (emitted (laid_of o t) (state s0)).page ≡ written_on o t (begun_page contents o wr)
    page_done = resolves ∙ ap (λ (p : Page). written_on o t p) page0

    may_refuse : (e : EmitError) → MayRefuse e (laid_of o t) (state s0) → MayRefuse e (laid_of o t) (js_state contents wr)
    may_refuse (Write k) h = tt
    may_refuse Memory h = ap (λ (p : Page). is_some p.marks) (sym page0) ∙ h
    may_refuse Position h = ap (λ (p : Page). is_some p.marks) (sym page0) ∙ h
    may_refuse Node h = h

    fits : (e : EmitError) → FaultFits e (emitted (laid_of o t) (state s0)).page → FaultFits e (written_on o t (begun_page contents o wr))
    fits e h = subst (λ (p : Page). FaultFits e p) page_done h

    pub lays_out : (r : Result (Unit {0}) EmitError) → Emits tells state (laid_of o t) s0 s1 r → LaysOut contents o t wr new r
    lays_out (Ok x) h = (
      h.0,
      λ known. let k = h.1 (tells0 known) in (
        tells1 k.0,
        sym page1 ∙ ap (λ (s : State). s.page) k.1 ∙ page_done,
        λ u. subst IsUtf8Page page1 (k.2 (subst IsUtf8Page (sym page0) u)),
      ),
    )
    lays_out (Err e) h = (
      may_refuse e h.0,
      λ known. let k = h.1 (tells0 known) in (
        tells1 k.0,
        subst (λ (p : Page). IsFront (js_page contents wr).out p.out) page1 (subst (λ (p : Page). IsFront p.out (state s1).page.out) page0 k.1),
        subst (λ (p : Page). IsFront p.out (written_on o t (begun_page contents o wr)).out) page1 (subst (λ (p : Page). IsFront (state s1).page.out p.out) page_done k.2),
        fits e k.3,
      ),
    )

-- what is written behind bytes
module _ (o : Options) (t : Tree) (front : List ℕ) where
  pub written_behind : (written_on o t (onto front (page_of o))).out ≡ front ++ layout o t
  unfolding layout
  written_behind = ap (λ (p : Page). p.out) (sym (onto_written front o t (page_of o)))

  pub marks_behind : (written_on o t (onto front (page_of o))).marks ≡ (written_on o t (page_of o)).marks
  marks_behind = ap (λ (p : Page). p.marks) (sym (onto_written front o t (page_of o)))

  past_behind : IsPast (written_on o t (onto front (page_of o))) → IsPastLast o t
  unfolding IsPastLast
  past_behind h = (h.0, sym marks_behind ∙ h.1, h.2)

-- a writer that goes on is at a place
pub place_is_reached : (m : Option MarkList) (x : Marks) → option_map marks_in m ≡ Some x → x.reached ≡ None → ⊥
place_is_reached None x e r = absurd (cc)
place_is_reached (Some m) x e r = let same : Some (marks_in m) ≡ Some x = e in absurd (cc)

write_tells : (o : Options) (t : Tree) (before : Option (List ℕ)) (e : EmitError) → is_write e ≡ true → Tells o t before e
write_tells o t before (Write k) h = tt
write_tells o t before Memory h = absurd (cc)
write_tells o t before Node h = absurd (cc)
write_tells o t before Position h = absurd (cc)

-- the pairs of a writer that keeps them in this list
pairs_are : (m : Option MarkList) (xs : List (BytePos × LineCol)) → IsSome m → IfSome (option_map marks_in m) (λ (n : Marks). n.pairs ≡ xs) → Some xs ≡ option_map (λ (n : Marks). n.pairs) (option_map marks_in m)
pairs_are None xs s h = absurd (cc)
pairs_are (Some m) xs s h = ap (λ (l : List (BytePos × LineCol)). Some l) (sym h)

some_marks : (m : Option MarkList) (name : GName) → marks_loans m ≡ name ∷ [] → IsSome m
some_marks None name e = absurd (cc)
some_marks (Some m) name e = refl

-- The list of a writer holds its pairs.
list_holds : {W : Type 0} (contents : W → Option (List ℕ)) (js : JsWriter W) (name : GName) (list : Option (MutBor (Vec (BytePos × LineCol) Global))) (p : Vec (BytePos × LineCol) Global)
    → js_loans js ≡ name ∷ [] → IsListOf contents js list → IfSome list (λ x. p ≡ x.now) → Some p.items ≡ option_map (λ (m : Marks). m.pairs) (js_page contents js).marks
list_holds contents js name None p loans h same = let none = ap (λ (m : Option MarkList). marks_loans m) h in absurd (cc)
list_holds contents js name (Some x) p loans h same = ap (λ (v : Vec (BytePos × LineCol) Global). Some v.items) same ∙ pairs_are js.marks x.now.items (some_marks js.marks name loans) h.1

module _ {W : Type 0} (contents : W → Option (List ℕ)) (o : Options) (t : Tree) (out : W) (b : Blocks W) (js0 js1 : JsWriter (Blocks W))
    (is_behind : behind b ≡ out) (none_waits : waiting b ≡ []) (begins : at_of b ≡ 0)
    (page0 : js_page (noted contents) js0 ≡ first_page (told (noted contents b)) (line_end_of o.line_end) (marks_of o))
    (tells0 : IsSome (noted contents b) → js_tells (noted contents) js0)
  where
    -- what the block tells at first
    noted0 : (xs : List ℕ) → contents out ≡ Some xs → noted contents b ≡ Some (first xs ∷ (xs ++ []))
    noted0 xs e =
        ap (λ (n : ℕ). numbered n (append_known (contents b.wr) b.block.items)) begins
        ∙ ap (λ (l : List ℕ). numbered 0 (append_known (contents b.wr) l)) none_waits
        ∙ ap (λ (w : W). numbered 0 (append_known (contents w) [])) is_behind
        ∙ ap (λ (k : Option (List ℕ)). numbered 0 (append_known k [])) e

    start : (xs : List ℕ) → contents out ≡ Some xs → begun_page (noted contents) o js0 ≡ onto (first xs ∷ xs) (page_of o)
    start xs e =
        ap (λ (p : Page). record p { indent = (page_of o).indent }) page0
        ∙ ap (λ (k : Option (List ℕ)). record (first_page (told k) (line_end_of o.line_end) (marks_of o)) { indent = (page_of o).indent }) (noted0 xs e)

    tells_first : (xs : List ℕ) → contents out ≡ Some xs → js_tells (noted contents) js0
    tells_first xs e = tells0 (ap (λ (k : Option (List ℕ)). is_some k) (noted0 xs e))

    out_first : (xs : List ℕ) → contents out ≡ Some xs → (js_page (noted contents) js0).out ≡ first xs ∷ (xs ++ [])
    out_first xs e = ap (λ (p : Page). p.out) page0 ∙ ap (λ (k : Option (List ℕ)). told k) (noted0 xs e)

    -- the page behind what was there
    page_end : LaysOut (noted contents) o t js0 js1 (Ok tt) → (xs : List ℕ) → contents out ≡ Some xs → js_page (noted contents) js1 ≡ written_on o t (onto (first xs ∷ xs) (page_of o))
    page_end laid xs e = (laid.1 (tells_first xs e)).1 ∙ ap (λ (p : Page). written_on o t p) (start xs e)

    told_end : LaysOut (noted contents) o t js0 js1 (Ok tt) → (xs : List ℕ) → contents out ≡ Some xs → told (noted contents (js_behind js1)) ≡ first xs ∷ (xs ++ layout o t)
    told_end laid xs e = ap (λ (p : Page). p.out) (page_end laid xs e) ∙ written_behind o t (first xs ∷ xs)

    pub got_all : LaysOut (noted contents) o t js0 js1 (Ok tt) → (w : W) → Keeps (taken contents (js_behind js1)) (contents w) → Appends (contents out) (contents w) (layout o t)
    got_all laid w k = by (contents out) refl
      where
        by : (known : Option (List ℕ)) → contents out ≡ known → Appends known (contents w) (layout o t)
        by None e = tt
        by (Some xs) e = all_out (taken contents (js_behind js1)) (contents w) (at_of (js_behind js1)) (first xs) xs (layout o t) (laid.1 (tells_first xs e)).0.0 (told_end laid xs e) k

    pub same_marks : LaysOut (noted contents) o t js0 js1 (Ok tt) → IsSome (contents out) → (js_page (noted contents) js1).marks ≡ (written_on o t (page_of o)).marks
    same_marks laid some = by (contents out) refl some
      where
        by : (known : Option (List ℕ)) → contents out ≡ known → IsSome known → (js_page (noted contents) js1).marks ≡ (written_on o t (page_of o)).marks
        by None e s = absurd (cc)
        by (Some xs) e s = ap (λ (p : Page). p.marks) (page_end laid xs e) ∙ marks_behind o t (first xs ∷ xs)

    pub within : LaysOut (noted contents) o t js0 js1 (Ok tt) → IsSome (contents out) → IsPastLast o t → ⊥
    unfolding IsPastLast
    within laid some past = place_is_reached js1.marks past.0 (same_marks laid some ∙ past.1) past.2

    -- ---- a fault

    -- positions are kept where they are asked for
    places : is_some (js_page (noted contents) js0).marks ≡ true → o.positions ≡ true
    places h = asked o.positions (ap (λ (p : Page). is_some p.marks) (sym page0) ∙ h)
      where
        asked : (b : Bool) → is_some (if b then Some (first_marks []) else None) ≡ true → b ≡ true
        asked true h = refl
        asked false h = absurd (cc)

    tells_fault : (e : EmitError) → LaysOut (noted contents) o t js0 js1 (Err e) → Tells o t (contents out) e
    tells_fault (Write k) laid = tt
    tells_fault Memory laid = places laid.0
    tells_fault Position laid = (places laid.0, λ some. by (contents out) refl some)
      where
        by : (known : Option (List ℕ)) → contents out ≡ known → IsSome known → IsPastLast o t
        by None q some = absurd (cc)
        by (Some xs) q some = past_behind o t (first xs ∷ xs) (subst (λ (p : Page). IsPast (written_on o t p)) (start xs q) (laid.1 (tells_first xs q)).3)
    tells_fault Node laid = laid.0

    begun_some : (e : EmitError) → LaysOut (noted contents) o t js0 js1 (Err e) → (w : W) (rest : List ℕ) → length rest ≤ at_of (js_behind js1) → at_of (js_behind js1) < 4096
        → Keeps (taken contents (js_behind js1)) (append_known (contents w) rest) → (n : ℕ) × Appends (contents out) (contents w) (take n (layout o t))
    begun_some e laid w rest few begun k = by (contents out) refl
      where
        by : (known : Option (List ℕ)) → contents out ≡ known → (n : ℕ) × Appends known (contents w) (take n (layout o t))
        by None q = (0, tt)
        by (Some xs) q =
            let l = laid.1 (tells_first xs q) in
            let page : (written_on o t (begun_page (noted contents) o js0)).out ≡ first xs ∷ (xs ++ layout o t) = ap (λ (p : Page). (written_on o t p).out) (start xs q) ∙ written_behind o t (first xs ∷ xs) in
            let kept : IsFront (first xs ∷ xs) (told (noted contents (js_behind js1))) = (l.1.0, l.1.1 ∙ ap (λ (a : List ℕ). a ++ l.1.0) (out_first xs q ∙ ap (λ (a : List ℕ). first xs ∷ a) (append-nil xs))) in
            let f = front_behind (first xs) xs (told (noted contents (js_behind js1))) (layout o t) kept (l.2.0, sym page ∙ l.2.1) in
            some_out (taken contents (js_behind js1)) (contents w) (at_of (js_behind js1)) xs f.0 (layout o t) rest begun l.0.0 f.1 few k f.2

    begun_all : LaysOut (noted contents) o t js0 js1 (Ok tt) → (w : W) (rest : List ℕ) → length rest ≤ at_of (js_behind js1) → at_of (js_behind js1) < 4096
        → Keeps (taken contents (js_behind js1)) (append_known (contents w) rest) → (n : ℕ) × Appends (contents out) (contents w) (take n (layout o t))
    begun_all laid w rest few begun k = by (contents out) refl
      where
        by : (known : Option (List ℕ)) → contents out ≡ known → (n : ℕ) × Appends known (contents w) (take n (layout o t))
        by None q = (0, tt)
        by (Some xs) q =
            some_out (taken contents (js_behind js1)) (contents w) (at_of (js_behind js1)) xs (layout o t) (layout o t) rest begun (laid.1 (tells_first xs q)).0.0 (told_end laid xs q) few k ([], sym (append-nil (layout o t)))

    pub stopped : (ended : Result (Unit {0}) EmitError) (w : W) (e : EmitError) → LaysOut (noted contents) o t js0 js1 ended → Ends contents (js_behind js1) ended w (Err e) → IsStopped o t (contents out) (contents w) e
    stopped ended w e laid ends = by ends.0
      where
        rest : List ℕ
        rest = ends.1.0

        by : ((ended ≡ Err e) ⊎ ((ended ≡ Ok tt) × (is_write e ≡ true))) → IsStopped o t (contents out) (contents w) e
        by (inl same) =
            let l = subst (LaysOut (noted contents) o t js0 js1) same laid in
            let n = begun_some e l w rest ends.1.1 (js_behind js1).begun ends.1.2 in
            record { count = n.0; begun = n.1; tells = tells_fault e l }
        by (inr done) =
            let l = subst (LaysOut (noted contents) o t js0 js1) done.0 laid in
            let n = begun_all l w rest ends.1.1 (js_behind js1).begun ends.1.2 in
            record { count = n.0; begun = n.1; tells = write_tells o t (contents out) e done.1 }

    -- ---- what the last step says of the block that was handed on

    pub done : {P : Type 0} (items : P → List (BytePos × LineCol)) (positions : Option P) (ended : Result (Unit {0}) EmitError) → LaysOut (noted contents) o t js0 js1 ended → (own : Blocks W) → own ≡ js_behind js1
        → (w : W) → (ended ≡ Ok tt) × Keeps (taken contents own) (contents w) → is_some positions ≡ o.positions
        → (LaysOut (noted contents) o t js0 js1 (Ok tt) → IsSome (contents out) → option_map items positions ≡ positions_of o t) → IsDone items o t (contents out) (contents w) positions
    done items positions ended laid own same w ends asked placed =
        let l = subst (LaysOut (noted contents) o t js0 js1) ends.0 laid in
        record {
          whole = l.0;
          got = got_all l w (subst (λ (x : Blocks W). Keeps (taken contents x) (contents w)) same ends.1);
          asked = asked;
          placed = λ some. placed l some;
          within = within l;
        }

    -- the pairs of the writer are the positions
    pub pairs_placed : LaysOut (noted contents) o t js0 js1 (Ok tt) → IsSome (contents out) → option_map (λ (m : Marks). m.pairs) (js_page (noted contents) js1).marks ≡ positions_of o t
    unfolding positions_of
    pairs_placed laid some = ap (λ (m : Option Marks). option_map (λ (n : Marks). n.pairs) m) (same_marks laid some)

    -- The same where they are kept in a list, of which the writer had a loan.
    pub done_in_list : {p : Vec (BytePos × LineCol) Global} (name : GName) (list : Option (MutBor (Vec (BytePos × LineCol) Global))) (ended : Result (Unit {0}) EmitError) → LaysOut (noted contents) o t js0 js1 ended
        → (own : Blocks W) → own ≡ js_behind js1 → (w : W) → (ended ≡ Ok tt) × Keeps (taken contents own) (contents w) → o.positions ≡ true → js_loans js1 ≡ name ∷ [] → IsListOf (noted contents) js1 list
        → IfSome list (λ x. p ≡ x.now) → IsDone (λ (v : Vec (BytePos × LineCol) Global). v.items) o t (contents out) (contents w) (Some p)
    done_in_list {p} name list ended laid own same w ends asked loans is_list holds =
        done (λ (v : Vec (BytePos × LineCol) Global). v.items) (Some p) ended laid own same w ends (sym asked)
        (λ l some. list_holds (noted contents) js1 name list p loans is_list holds ∙ pairs_placed l some)

    pub stopped_with : (ended : Result (Unit {0}) EmitError) → LaysOut (noted contents) o t js0 js1 ended → (own : Blocks W) → own ≡ js_behind js1 → (w : W) (e : EmitError) → Ends contents own ended w (Err e)
        → IsStopped o t (contents out) (contents w) e
    stopped_with ended laid own same w e ends = stopped ended w e laid (subst (λ (x : Blocks W). Ends contents x ended w (Err e)) same ends)

-- ---- a text in memory

pub not_both : {A E : Type 0} (r : Result A E) (e : E) → is_ok r ≡ true → r ≡ Err e → ⊥
not_both (Ok x) e h p = absurd (cc)
not_both (Err x) e h p = absurd (cc)

blank_text : IsUtf8 (codes " ")
unfolding lib.Utf8.encode
blank_text = (codes " ", (refl, refl))

tab_text : IsUtf8 (codes "\t")
unfolding lib.Utf8.encode
tab_text = (codes "\t", (refl, refl))

lf_text : IsUtf8 (codes "\n")
unfolding lib.Utf8.encode
lf_text = (codes "\n", (refl, refl))

cr_lf_text : IsUtf8 (codes "\r\n")
unfolding lib.Utf8.encode
cr_lf_text = (codes "\r\n", (refl, refl))

indent_text : (i : Indent) → IsUtf8 (indent_of i)
indent_text (Blanks n) = times_text n (codes " ") blank_text
indent_text (Tabs n) = times_text n (codes "\t") tab_text

line_end_text : (e : LineEnd) → IsUtf8 (line_end_of e)
line_end_text Lf = lf_text
line_end_text CrLf = cr_lf_text

pub page_text : (o : Options) → IsUtf8Page (page_of o)
page_text o = (IsUtf8-nil, line_end_text o.line_end, indent_text o.indent)

module _ {W : Type 0} (contents : W → Option (List ℕ)) (o : Options) (t : Tree) (out : W) (js0 js1 : JsWriter W) (own : List ℕ)
    (page0 : js_page contents js0 ≡ first_page (told (contents out)) (line_end_of o.line_end) (marks_of o)) (none : told (contents out) ≡ []) (tells0 : js_tells contents js0)
    (laid : LaysOut contents o t js0 js1 (Ok tt)) (own_is : told (contents (js_behind js1)) ≡ own)
  where
    begins : begun_page contents o js0 ≡ page_of o
    begins = ap (λ (p : Page). record p { indent = indent_of o.indent }) page0
        ∙ ap (λ (l : List ℕ). record (first_page l (line_end_of o.line_end) (marks_of o)) { indent = indent_of o.indent }) none

    pub text_laid : own ≡ layout o t
    unfolding layout
    text_laid = sym own_is ∙ ap (λ (p : Page). p.out) ((laid.1 tells0).1 ∙ ap (λ (p : Page). written_on o t p) begins)

    pub text_utf8 : IsUtf8 own
    text_utf8 = subst IsUtf8 own_is ((laid.1 tells0).2 (subst IsUtf8Page (sym begins) (page_text o))).0
