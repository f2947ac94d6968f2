-- How far the marks of a page are: the place that was reached, and what was recorded there.
use Rattle.std.proofs.Common.{◌≡◌, ℕ, suc, zero, ◌+◌, ◌*◌, ⊎_elim, Bool, true, false, ◌&&◌, ◌||◌, not, List, [], ◌∷◌, ◌++◌, Option, Some, None, refl, sym, ap, ap₂, subst, ◌∙◌, append_assoc, append-nil, arith}
use Rattle.std.specs.Prelude.{if◌then◌else◌, ◌==◌, nat_le, nat_lt, codes, option_and_then}
use Rattle.std.specs.List.{Contains, list_all}
use Rattle.std.specs.Str.{chars, IsUtf8}
use Rattle.std.proofs.lemmas.Bool.{cases_Bool, false≢true, eqb-true, or_cases}
use Rattle.std.proofs.lemmas.List.Elements.{Contains-append_left, Contains-push}
use Rattle.std.proofs.lemmas.Str.{chars-append, chars-nil}
use Rattle.base_token.specs.declared.place.BytePos.{BytePos}
use Rattle.base_token.specs.declared.place.LineCol.{LineCol}
use Rattle.base_token.specs.declared.place.Span.{Span}
use Rattle.lex_pieces.specs.Characters.{is_white_space}
use Rattle.print_writers.specs.Lines.{last_place, further, next_line, units, after_text as after_characters}
use Rattle.print_writers.specs.Pages.{Marks, times, is_here, record_pair, record_here, waiting_for, moved, settled}
use Rattle.print_pages_spec.specs.Pieces.{Piece, Text, Brace, Blank, Line, Deeper, Back, Semicolon, Commit, Mark}
use Rattle.print_pages_spec.specs.Lines.Lines.{place_between}
use Rattle.print_pages_spec.specs.Lines.Laws.{is_cut}
use Rattle.print_pages_spec.proofs.lines.Places.{places_go_on, units_append, is_inline, inline_goes_on, line_behind, lf_goes_on, cr_lf_goes_on}
use Rattle.again_laws.proofs.tiling.Gaps.{Blankness, White, Feed, Return, chars_of, gap_before, is_end_of_line, breaks_line, AreBlank}
use Rattle.again_laws.proofs.tiling.BetweenTexts.{Lines, lead_of}
use Rattle.again_laws.proofs.tiling.Pen.{Pen, lead, own_text, next}
use Rattle.again_laws.proofs.text.MarksByPen.{led, opened, closed, past, noted_text, noted_line, noted_mark, noted, notes}

abbrev pub Pair : Type 0
Pair = BytePos × LineCol

-- pairs that have this place, and are among all
abbrev pub AreHere : LineCol → List Pair → List Pair → Type 0
AreHere at all [] = Unit {0}
AreHere at all (e ∷ es) = (e.1 ≡ at) × Contains all e × AreHere at all es

-- Where a place is reached, it is the one between what is written and what follows; what was recorded here has that place.
pub record Kept (m : Marks) (cs ys : List ℕ) : Type 0 where
  pub reached : (at : LineCol) → m.reached ≡ Some at → at ≡ place_between cs ys
  pub here : AreHere (place_between cs ys) m.pairs m.here

-- Pairs stay, and a place past the last stays past it.
pub record Grows (m n : Marks) : Type 0 where
  pub pairs : (e : Pair) → Contains m.pairs e → Contains n.pairs e
  pub lost : m.reached ≡ None → n.reached ≡ None

pub grows_same : (m : Marks) → Grows m m
grows_same m = record { pairs = λ e h. h; lost = λ h. h }

pub grows_then : (m n o : Marks) → Grows m n → Grows n o → Grows m o
grows_then m n o a b = record { pairs = λ e h. b.pairs e (a.pairs e h); lost = λ h. b.lost (a.lost h) }

-- ---- one more pair

recorded : (pos : BytePos) (m : Marks) (P : Marks → Type 0) → (m.reached ≡ None → P m) → ((at : LineCol) → m.reached ≡ Some at → P (record_pair pos at m)) → P (record_here pos m)
recorded pos m P lost there = by m.reached lost there
  where
    by : (r : Option LineCol) → (r ≡ None → P m) → ((at : LineCol) → r ≡ Some at → P (record_pair pos at m)) → (let n : Marks = elim r [ None ↦ m | Some place ↦ record_pair pos place m ] in P n)
    by None lost there = lost refl
    by (Some at) lost there = there at refl

abbrev added : BytePos → LineCol → Marks → Marks
added pos at m = record m { pairs = m.pairs ++ (pos, at) ∷ []; here = m.here ++ (pos, at) ∷ [] }

paired : (pos : BytePos) (at : LineCol) (m : Marks) (P : Marks → Type 0) → ((pos.0 == 0 || is_here pos m.here) ≡ true → P m) → P (added pos at m) → P (record_pair pos at m)
unfolding record_pair
paired pos at m P old new = ⊎_elim
    (λ (t : (pos.0 == 0 || is_here pos m.here) ≡ true). subst (λ b. P (if b then m else added pos at m)) (sym t) (old t))
    (λ (f : (pos.0 == 0 || is_here pos m.here) ≡ false). subst (λ b. P (if b then m else added pos at m)) (sym f) new)
    (cases_Bool (pos.0 == 0 || is_here pos m.here))

here_wider : (at : LineCol) (all more es : List Pair) → AreHere at all es → AreHere at (all ++ more) es
here_wider at all more [] h = tt
here_wider at all more (e ∷ es) h = (h.0, Contains-append_left all more e h.1, here_wider at all more es h.2)

here_push : (at : LineCol) (all es : List Pair) (x : Pair) → x.1 ≡ at → Contains all x → AreHere at all es → AreHere at all (es ++ x ∷ [])
here_push at all [] x p c h = (p, c, tt)
here_push at all (e ∷ es) x p c h = (h.0, h.1, here_push at all es x p c h.2)

pub kept_record : (pos : BytePos) (m : Marks) (cs ys : List ℕ) → Kept m cs ys → Kept (record_here pos m) cs ys
kept_record pos m cs ys k = recorded pos m (λ n. Kept n cs ys) (λ _. k) (λ at e. paired pos at m (λ n. Kept n cs ys) (λ _. k)
    (record { reached = k.reached; here = here_push _ _ m.here (pos, at) (k.reached at e) (Contains-push m.pairs (pos, at)) (here_wider _ m.pairs ((pos, at) ∷ []) m.here k.here) }))

pub grows_record : (pos : BytePos) (m : Marks) → Grows m (record_here pos m)
grows_record pos m = recorded pos m (λ n. Grows m n) (λ _. grows_same m) (λ at e. paired pos at m (λ n. Grows m n) (λ _. grows_same m)
    (record { pairs = λ x h. Contains-append_left m.pairs ((pos, at) ∷ []) x h; lost = λ h. h }))

found : (pos : BytePos) (at : LineCol) (all es : List Pair) → is_here pos es ≡ true → AreHere at all es → Contains all (pos, at)
found pos at all [] e h = absurd (false≢true e)
found pos at all (x ∷ es) e h = ⊎_elim
    (λ (t : (x.0.0 == pos.0) ≡ true). subst (λ (y : Pair). Contains all y) (ap₂ (λ (n : ℕ) (l : LineCol). (record { 0 = n }, l)) (eqb-true x.0.0 pos.0 t) h.0) h.1)
    (λ (t : is_here pos es ≡ true). found pos at all es t h.2)
    (or_cases (x.0.0 == pos.0) (is_here pos es) e)

-- A position that is recorded is among the pairs, with the place that was reached.
pub told_record : (pos : BytePos) (at : LineCol) (m : Marks) (cs ys : List ℕ) → (pos.0 == 0) ≡ false → m.reached ≡ Some at → Kept m cs ys → Contains (record_here pos m).pairs (pos, place_between cs ys)
told_record pos at m cs ys z r k = recorded pos m (λ n. Contains n.pairs (pos, place_between cs ys))
    (λ l. absurd (let c : None ≡ Some at = sym l ∙ r in cc))
    (λ here e. paired pos here m (λ n. Contains n.pairs (pos, place_between cs ys))
    (λ t. ⊎_elim
    (λ (a : (pos.0 == 0) ≡ true). absurd (false≢true (sym z ∙ a)))
    (λ (b : is_here pos m.here ≡ true). found pos (place_between cs ys) m.pairs m.here b k.here)
    (or_cases (pos.0 == 0) (is_here pos m.here) t))
    (subst (λ (l : LineCol). Contains (m.pairs ++ (pos, here) ∷ []) (pos, l)) (k.reached here e) (Contains-push m.pairs (pos, here))))

-- ---- further

pub kept_waiting : (pos : Option BytePos) (m : Marks) (cs ys : List ℕ) → Kept m cs ys → Kept (waiting_for pos m) cs ys
kept_waiting pos m cs ys k = record { reached = k.reached; here = k.here }

pub grows_waiting : (pos : Option BytePos) (m : Marks) → Grows m (waiting_for pos m)
grows_waiting pos m = record { pairs = λ e h. h; lost = λ h. h }

and_then_some : (o : Option LineCol) (to : LineCol → Option LineCol) (at : LineCol) → option_and_then to o ≡ Some at → (p : LineCol) × (o ≡ Some p) × (to p ≡ Some at)
and_then_some None to at e = absurd cc
and_then_some (Some p) to at e = (p, refl, e)

pub kept_moved : (to : LineCol → Option LineCol) (m : Marks) (cs ds ys : List ℕ) → Kept m cs (ds ++ ys)
    → ((p q : LineCol) → p ≡ place_between cs (ds ++ ys) → to p ≡ Some q → q ≡ place_between (cs ++ ds) ys) → Kept (moved to m) (cs ++ ds) ys
unfolding moved
kept_moved to m cs ds ys k go = record {
  reached = λ at e. let x = and_then_some m.reached to at e in go x.0 at (k.reached x.0 x.1) x.2;
  here = tt;
}

pub grows_moved : (to : LineCol → Option LineCol) (m : Marks) → Grows m (moved to m)
unfolding moved
grows_moved to m = record { pairs = λ e h. h; lost = λ h. ap (option_and_then to) h }

waited : (m : Marks) (P : Marks → Type 0) → P m → ((pos : BytePos) → m.waits ≡ Some pos → P (record_here pos (waiting_for None m))) → P (settled m)
unfolding settled
waited m P none some = by m.waits some
  where
    by : (w : Option BytePos) → ((pos : BytePos) → w ≡ Some pos → P (record_here pos (waiting_for None m))) → (let n : Marks = elim w [ None ↦ m | Some pos ↦ record_here pos (waiting_for None m) ] in P n)
    by None some = none
    by (Some pos) some = some pos refl

kept_settled : (m : Marks) (cs ys : List ℕ) → Kept m cs ys → Kept (settled m) cs ys
kept_settled m cs ys k = waited m (λ n. Kept n cs ys) k (λ pos e. kept_record pos (waiting_for None m) cs ys (kept_waiting None m cs ys k))

grows_settled : (m : Marks) → Grows m (settled m)
grows_settled m = waited m (λ n. Grows m n) (grows_same m) (λ pos e. grows_then m (waiting_for None m) (record_here pos (waiting_for None m)) (grows_waiting None m) (grows_record pos (waiting_for None m)))

-- ---- the indentation

white_inline : (c : ℕ) → is_white_space c ≡ true → is_inline c ≡ true
white_inline c e = ap not (or_none (c == 10) (c == 13) (apart 10 refl) (apart 13 refl))
  where
    or_none : (a b : Bool) → a ≡ false → b ≡ false → (a || b) ≡ false
    or_none true b f g = f
    or_none false b f g = g

    apart : (n : ℕ) → is_white_space n ≡ false → (c == n) ≡ false
    apart n f = ⊎_elim
        (λ (t : (c == n) ≡ true). absurd (false≢true (sym f ∙ (ap is_white_space (sym (eqb-true c n t)) ∙ e))))
        (λ (g : (c == n) ≡ false). g)
        (cases_Bool (c == n))

blanks_inline : (us : List Blankness) → AreBlank us → breaks_line us ≡ false → list_all is_inline (gap_before us []) ≡ true
blanks_inline [] a f = refl
blanks_inline (White c ∷ us) a f = both (is_inline c) (list_all is_inline (gap_before us [])) (white_inline c a.0) (blanks_inline us a.1 f)
  where
    both : (a b : Bool) → a ≡ true → b ≡ true → (a && b) ≡ true
    both true b e f = f
    both false b e f = e
blanks_inline (Feed ∷ us) a f = absurd (false≢true (sym f))
blanks_inline (Return ∷ us) a f = absurd (false≢true (sym f))

times_units : (n : ℕ) (xs : List ℕ) → IsUtf8 xs → units (chars (times n xs)) ≡ n * units (chars xs)
times_units zero xs u = ap units chars-nil ∙ omega arith
times_units (suc n) xs u =
    let ih = times_units n xs u in
    ap units (chars-append xs (times n xs) u) ∙ (units_append (chars xs) (chars (times n xs)) ∙ (ap (λ k. units (chars xs) + k) ih ∙ grind arith))

further_is : (n : ℕ) (p q : LineCol) → further n p ≡ Some q → q ≡ record { line = p.line; col = p.col + n }
further_is n p q e = by (nat_le (p.col + n) last_place) e
  where
    by : (b : Bool) → (if b then Some (record { line = p.line; col = p.col + n }) else None) ≡ Some q → q ≡ record { line = p.line; col = p.col + n }
    by true e = cc
    by false e = absurd cc

-- the marks behind the indentation, before the position that waits is recorded
abbrev pub stepped : Pen → Marks → Marks
stepped q m = moved (further (q.depth * units (chars q.indent))) m

kept_stepped : (q : Pen) (m : Marks) (cs ys : List ℕ) → Lines q → q.at_start ≡ true → Kept m cs (chars (lead q) ++ ys) → Kept (stepped q m) (cs ++ chars (lead q)) ys
kept_stepped q m cs ys l e k =
    let d = lead_of q l in
    let is : lead q ≡ times q.depth q.indent = rw e refl in
    let flat : list_all is_inline (chars (lead q)) ≡ true = ap (list_all is_inline) d.same ∙ blanks_inline d.blanks d.are d.flat in
    let wide : units (chars (lead q)) ≡ q.depth * units (chars q.indent) = ap (λ (x : List ℕ). units (chars x)) is ∙ times_units q.depth q.indent l.indent_utf8 in
    kept_moved (further (q.depth * units (chars q.indent))) m cs (chars (lead q)) ys k (λ p r h g.
    further_is (q.depth * units (chars q.indent)) p r g
    ∙ (ap₂ (λ (x : LineCol) (n : ℕ). record { line = x.line; col = x.col + n }) h (sym wide) ∙ sym (inline_goes_on cs (chars (lead q)) ys flat)))

-- what holds of the marks before the first text of a line, by whether a line starts
led_by : (q : Pen) (m : Marks) (P : Marks → Type 0) → (q.at_start ≡ true → P (settled (stepped q m))) → (q.at_start ≡ false → P m) → P (led q m)
led_by q m P starts goes = ⊎_elim
    (λ (e : q.at_start ≡ true). subst (λ b. P (if b then settled (stepped q m) else m)) (sym e) (starts e))
    (λ (e : q.at_start ≡ false). subst (λ b. P (if b then settled (stepped q m) else m)) (sym e) (goes e))
    (cases_Bool q.at_start)

no_lead : (q : Pen) → q.at_start ≡ false → chars (lead q) ≡ []
no_lead q e = rw e chars-nil

kept_led : (q : Pen) (m : Marks) (cs ys : List ℕ) → Lines q → Kept m cs (chars (lead q) ++ ys) → Kept (led q m) (cs ++ chars (lead q)) ys
kept_led q m cs ys l k = led_by q m (λ n. Kept n (cs ++ chars (lead q)) ys)
    (λ e. kept_settled _ (cs ++ chars (lead q)) ys (kept_stepped q m cs ys l e k))
    (λ e. subst (λ (ds : List ℕ). Kept m ds ys) (sym (ap (λ (ds : List ℕ). cs ++ ds) (no_lead q e) ∙ append-nil cs)) (subst (λ (ds : List ℕ). Kept m cs (ds ++ ys)) (no_lead q e) k))

grows_led : (q : Pen) (m : Marks) → Grows m (led q m)
grows_led q m = led_by q m (λ n. Grows m n) (λ e. grows_then m (stepped q m) (settled (stepped q m)) (grows_moved (further (q.depth * units (chars q.indent))) m) (grows_settled (stepped q m))) (λ e. grows_same m)

-- ---- a text

kept_opened : (span : Option Span) (m : Marks) (cs ys : List ℕ) → Kept m cs ys → Kept (opened span m) cs ys
kept_opened None m cs ys k = k
kept_opened (Some span) m cs ys k = kept_record span.lo m cs ys k

kept_closed : (span : Option Span) (m : Marks) (cs ys : List ℕ) → Kept m cs ys → Kept (closed span m) cs ys
kept_closed None m cs ys k = k
kept_closed (Some span) m cs ys k = kept_record span.hi m cs ys k

pub kept_past : (own : List ℕ) (m : Marks) (cs ys : List ℕ) → is_cut (chars own) ys ≡ false → Kept m cs (chars own ++ ys) → Kept (past own m) (cs ++ chars own) ys
kept_past own m cs ys n k = kept_moved (λ place. after_characters place (chars own)) m cs (chars own) ys k
    (λ p r h g. places_go_on cs (chars own) ys r n (subst (λ (x : LineCol). after_characters x (chars own) ≡ Some r) h g))

-- A text, behind what is written and before what follows, where no CR LF is cut behind it.
pub kept_text : (span : Option Span) (own : List ℕ) (q : Pen) (m : Marks) (cs ys : List ℕ) → Lines q → is_cut (chars own) ys ≡ false → Kept m cs (chars (own_text own q) ++ ys)
    → Kept (noted_text span own q m) (cs ++ chars (own_text own q)) ys
kept_text span [] q m cs ys l n k = subst (λ (ds : List ℕ). Kept m ds ys) (sym (ap (λ (ds : List ℕ). cs ++ ds) chars-nil ∙ append-nil cs)) (subst (λ (ds : List ℕ). Kept m cs (ds ++ ys)) chars-nil k)
kept_text span (c ∷ os) q m cs ys l n k =
    let own : List ℕ = c ∷ os in
    let d = lead_of q l in
    let parts : chars (own_text own q) ≡ chars (lead q) ++ chars own = chars-append (lead q) own d.utf8 in
    let k1 : Kept m cs (chars (lead q) ++ (chars own ++ ys)) = subst (λ (ds : List ℕ). Kept m cs ds) (ap (λ (ds : List ℕ). ds ++ ys) parts ∙ append_assoc (chars (lead q)) (chars own) ys) k in
    let k2 = kept_opened span _ _ _ (kept_led q m cs (chars own ++ ys) l k1) in
    let k3 = kept_closed span _ _ _ (kept_past own _ (cs ++ chars (lead q)) ys n k2) in
    subst (λ (ds : List ℕ). Kept (noted_text span own q m) ds ys) (append_assoc cs (chars (lead q)) (chars own) ∙ ap (λ (ds : List ℕ). cs ++ ds) (sym parts)) k3

grows_opened : (span : Option Span) (m : Marks) → Grows m (opened span m)
grows_opened None m = grows_same m
grows_opened (Some span) m = grows_record span.lo m

grows_closed : (span : Option Span) (m : Marks) → Grows m (closed span m)
grows_closed None m = grows_same m
grows_closed (Some span) m = grows_record span.hi m

grows_text : (span : Option Span) (own : List ℕ) (q : Pen) (m : Marks) → Grows m (noted_text span own q m)
grows_text span [] q m = grows_same m
grows_text span (c ∷ cs) q m =
    grows_then m _ _ (grows_led q m) (grows_then _ _ _ (grows_opened span (led q m)) (grows_then _ _ _ (grows_moved (λ place. after_characters place (chars (c ∷ cs))) (opened span (led q m))) (grows_closed span _)))

-- ---- the end of a line, and a mark

next_is : (p q : LineCol) → next_line p ≡ Some q → q ≡ line_behind p
next_is p q e = by (nat_lt p.line last_place) e
  where
    by : (b : Bool) → (if b then Some (line_behind p) else None) ≡ Some q → q ≡ line_behind p
    by true e = cc
    by false e = absurd cc

pub kept_line : (q : Pen) (m : Marks) (cs ys : List ℕ) → Lines q → Kept m cs (chars (if q.at_start then [] else q.line_end) ++ ys) → Kept (noted_line q m) (cs ++ chars (if q.at_start then [] else q.line_end)) ys
kept_line q m cs ys l k = ⊎_elim (λ (e : q.at_start ≡ true). starts e) (λ (e : q.at_start ≡ false). goes e) (cases_Bool q.at_start)
  where
    starts : q.at_start ≡ true → Kept (noted_line q m) (cs ++ chars (if q.at_start then [] else q.line_end)) ys
    starts e =
        let h : Kept m cs ys = subst (λ (ds : List ℕ). Kept m cs (ds ++ ys)) (ap (λ b. chars (if b then [] else q.line_end)) e ∙ chars-nil) k in
        subst (λ b. Kept (if b then waiting_for None m else moved next_line (waiting_for None m)) (cs ++ chars (if b then [] else q.line_end)) ys) (sym e)
        (subst (λ (ds : List ℕ). Kept (waiting_for None m) ds ys) (sym (ap (λ (ds : List ℕ). cs ++ ds) chars-nil ∙ append-nil cs)) (kept_waiting None m cs ys h))

    behind : (u : Blankness) → is_end_of_line u ≡ true → (p r : LineCol) → p ≡ place_between cs (chars_of u [] ++ ys) → next_line p ≡ Some r → r ≡ place_between (cs ++ chars_of u []) ys
    behind (White c) f p r h g = absurd (false≢true f)
    behind Feed f p r h g = next_is p r g ∙ (ap line_behind h ∙ sym (lf_goes_on cs ys))
    behind Return f p r h g = next_is p r g ∙ (ap line_behind h ∙ sym (cr_lf_goes_on cs ys))

    goes : q.at_start ≡ false → Kept (noted_line q m) (cs ++ chars (if q.at_start then [] else q.line_end)) ys
    goes e =
        let h : Kept m cs (chars_of l.line [] ++ ys) = subst (λ (ds : List ℕ). Kept m cs (ds ++ ys)) (ap (λ b. chars (if b then [] else q.line_end)) e ∙ l.line_chars) k in
        let on = kept_moved next_line (waiting_for None m) cs (chars_of l.line []) ys (kept_waiting None m cs _ h) (behind l.line l.line_ends) in
        subst (λ b. Kept (if b then waiting_for None m else moved next_line (waiting_for None m)) (cs ++ chars (if b then [] else q.line_end)) ys) (sym e)
        (subst (λ (ds : List ℕ). Kept (moved next_line (waiting_for None m)) (cs ++ ds) ys) (sym l.line_chars) on)

grows_line : (q : Pen) (m : Marks) → Grows m (noted_line q m)
grows_line q m = ⊎_elim
    (λ (e : q.at_start ≡ true). subst (λ b. Grows m (if b then waiting_for None m else moved next_line (waiting_for None m))) (sym e) (grows_waiting None m))
    (λ (e : q.at_start ≡ false). subst (λ b. Grows m (if b then waiting_for None m else moved next_line (waiting_for None m))) (sym e) (grows_then m _ _ (grows_waiting None m) (grows_moved next_line (waiting_for None m))))
    (cases_Bool q.at_start)

marks_by : (pos : BytePos) (q : Pen) (m : Marks) (P : Marks → Type 0) → P m → P (waiting_for (Some pos) m) → P (record_here pos m) → P (noted_mark pos q m)
marks_by pos q m P a b c = by (pos.0 == 0) q.at_start
  where
    by : (z s : Bool) → P (if z then m else (if s then waiting_for (Some pos) m else record_here pos m))
    by true s = a
    by false true = b
    by false false = c

pub kept_mark : (pos : BytePos) (q : Pen) (m : Marks) (cs ys : List ℕ) → Kept m cs ys → Kept (noted_mark pos q m) cs ys
kept_mark pos q m cs ys k = marks_by pos q m (λ n. Kept n cs ys) k (kept_waiting (Some pos) m cs ys k) (kept_record pos m cs ys k)

pub grows_mark : (pos : BytePos) (q : Pen) (m : Marks) → Grows m (noted_mark pos q m)
grows_mark pos q m = marks_by pos q m (λ n. Grows m n) (grows_same m) (grows_waiting (Some pos) m) (grows_record pos m)

-- ---- pieces

grows_noted : (x : Piece) (q : Pen) (m : Marks) → Grows m (noted x q m)
grows_noted (Text span bytes) q m = grows_text span bytes q m
grows_noted (Brace span) q m = grows_text span (codes "}") q m
grows_noted Blank q m = grows_text None (codes " ") q m
grows_noted Line q m = grows_line q m
grows_noted Deeper q m = grows_same m
grows_noted Back q m = grows_same m
grows_noted (Semicolon span) q m = grows_text span (codes ";") q m
grows_noted Commit q m = grows_same m
grows_noted (Mark pos) q m = grows_mark pos q m

pub grows_notes : (xs : List Piece) (q : Pen) (m : Marks) → Grows m (notes xs q m)
grows_notes [] q m = grows_same m
grows_notes (x ∷ xs) q m = grows_then m (noted x q m) (notes xs (next x q) (noted x q m)) (grows_noted x q m) (grows_notes xs (next x q) (noted x q m))

-- ---- a name

-- a place that was reached in the end was reached before
pub some_before : (m n : Marks) (at : LineCol) → Grows m n → n.reached ≡ Some at → (first : LineCol) × (m.reached ≡ Some first)
some_before m n at g e = by m.reached refl
  where
    by : (o : Option LineCol) → m.reached ≡ o → (first : LineCol) × (m.reached ≡ Some first)
    by None h = absurd (let c : None ≡ Some at = sym (g.lost h) ∙ e in cc)
    by (Some first) h = (first, h)

settled_waits : (pos : BytePos) (m : Marks) → m.waits ≡ Some pos → settled m ≡ record_here pos (waiting_for None m)
unfolding settled
settled_waits pos m e = rw e refl

stepped_waits : (pos : BytePos) (q : Pen) (m : Marks) → (stepped q (waiting_for (Some pos) m)).waits ≡ Some pos
unfolding moved
stepped_waits pos q m = refl

-- A position that is marked right before a text is among the pairs, with the place where the text begins behind the indentation.
pub told_text : (pos : BytePos) (c : ℕ) (os : List ℕ) (q : Pen) (m : Marks) (at : LineCol) (cs ys : List ℕ) → Lines q → (pos.0 == 0) ≡ false
    → (noted_text None (c ∷ os) q (noted_mark pos q m)).reached ≡ Some at → Kept m cs (chars (lead q) ++ ys)
    → Contains (noted_text None (c ∷ os) q (noted_mark pos q m)).pairs (pos, place_between (cs ++ chars (lead q)) ys)
told_text pos c os q m at cs ys l z r k =
    let n : Marks = noted_mark pos q m in
    let own : List ℕ = c ∷ os in
    let on = grows_moved (λ place. after_characters place (chars own)) (led q n) in
    on.pairs _ (⊎_elim
    (λ (e : q.at_start ≡ true).
    let w : Marks = stepped q (waiting_for (Some pos) m) in
    let is : noted_mark pos q m ≡ waiting_for (Some pos) m = rw (z, e) refl in
    let there : led q (noted_mark pos q m) ≡ record_here pos (waiting_for None w) =
    ap (λ (x : Marks). led q x) is ∙ (led_starts q (waiting_for (Some pos) m) e ∙ settled_waits pos w (stepped_waits pos q m)) in
    let kept = kept_waiting None w _ ys (kept_stepped q (waiting_for (Some pos) m) cs ys l e (kept_waiting (Some pos) m cs _ k)) in
    let first = some_before (record_here pos (waiting_for None w)) _ at (subst (λ (x : Marks). Grows x (noted_text None own q n)) there on) r in
    let before = some_before (waiting_for None w) (record_here pos (waiting_for None w)) first.0 (grows_record pos (waiting_for None w)) first.1 in
    subst (λ (x : Marks). Contains x.pairs (pos, place_between (cs ++ chars (lead q)) ys)) (sym there) (told_record pos before.0 (waiting_for None w) _ ys z before.1 kept))
    (λ (e : q.at_start ≡ false).
    let is : noted_mark pos q m ≡ record_here pos m = rw (z, e) refl in
    let there : led q (noted_mark pos q m) ≡ record_here pos m = led_goes q (noted_mark pos q m) e ∙ is in
    let kept : Kept m (cs ++ chars (lead q)) ys =
    subst (λ (ds : List ℕ). Kept m ds ys) (sym (ap (λ (ds : List ℕ). cs ++ ds) (no_lead q e) ∙ append-nil cs)) (subst (λ (ds : List ℕ). Kept m cs (ds ++ ys)) (no_lead q e) k) in
    let first = some_before (record_here pos m) _ at (subst (λ (x : Marks). Grows x (noted_text None own q n)) there on) r in
    let before = some_before m (record_here pos m) first.0 (grows_record pos m) first.1 in
    subst (λ (x : Marks). Contains x.pairs (pos, place_between (cs ++ chars (lead q)) ys)) (sym there) (told_record pos before.0 m _ ys z before.1 kept))
    (cases_Bool q.at_start))
  where
    led_starts : (q : Pen) (m : Marks) → q.at_start ≡ true → led q m ≡ settled (stepped q m)
    led_starts q m e = rw e refl

    led_goes : (q : Pen) (m : Marks) → q.at_start ≡ false → led q m ≡ m
    led_goes q m e = rw e refl
