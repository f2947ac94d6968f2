-- The spaces of a gap: which are tight, and where lines end.
use Rattle.std.proofs.Common.{◌≡◌, ℕ, ◌⊎◌, inl, inr, ⊎_elim, Bool, true, false, not, ◌&&◌, ◌||◌, if◌then◌else◌, List, [], ◌∷◌, ◌++◌, refl, sym, ap, ◌∙◌}
use Rattle.std.specs.Prelude.{◌==◌, nat_lt}
use Rattle.std.specs.List.{list_any}
use Rattle.std.proofs.lemmas.Bool.{cases_Bool, false≢true, true≢false, eqb-true}
use Rattle.base_proofs.proofs.Bools.{or_true, or_first, or_second}
use Rattle.base_token.specs.Kinds.{div_kind, shebang_kind}
use Rattle.lex_pieces.specs.Characters.{is_line_terminator}
use Rattle.print_weave_laws.specs.Gaps.{Trivium, is_end_of_line, breaks_line, ends_line}
use Rattle.print_notes.specs.Slots.{Remark, Looks}
use Rattle.print_notes.specs.Safe.{ends_a_line}
use Rattle.print_notes.specs.Spacing.{Place, is_opening, is_closing, is_joined, is_empty_braces, some_lines_from, some_lines, Form, form_of, Space, Tight, Blank, Lines, kept, is_deeper, first_space, next_space, last_space}
use Rattle.print_notes_laws.specs.Trivia.{space_trivia, trivium_of, behind_trivia, noted_trivia}
use Rattle.print_notes_laws.specs.Laws.{IsRemark, AreRemarks}
use Rattle.print_notes_laws.proofs.Spaces.{is_break, is_fine, is_tight, space_breaks, space_ends, kept_some, all_there}

-- ---- before the first comment

count_some : (opening : Bool) (n : ℕ) → nat_lt 0 (if opening then 1 else kept n) ≡ true
count_some true n = refl
count_some false n = kept_some n

fine_by : (minify breaks slash lined first leads opening tight : Bool) (n : ℕ) (d : Bool)
    → is_fine (if minify then (if breaks then Lines 1 false else if slash then Blank else Tight) else if lined then (if first then Tight else if leads then Lines (if opening then 1 else kept n) d else Blank) else if tight then Tight else Blank) ≡ true
fine_by true true slash lined first leads opening tight n d = refl
fine_by true false true lined first leads opening tight n d = refl
fine_by true false false lined first leads opening tight n d = refl
fine_by false breaks slash true true leads opening tight n d = refl
fine_by false breaks slash true false true opening tight n d = count_some opening n
fine_by false breaks slash true false false opening tight n d = refl
fine_by false breaks slash false first leads opening true n d = refl
fine_by false breaks slash false first leads opening false n d = refl

pub first_fine : (l : Looks) (p : Place) (f : Form) (r : Remark) → is_fine (first_space l p f r) ≡ true
first_fine l p f r =
    fine_by l.minify p.breaks (p.behind == div_kind) f.lined p.first (f.leads || nat_lt 0 r.lines) (is_opening p.behind) (p.first || (is_opening p.behind && not (r.is_line || is_empty_braces p))) r.lines (is_deeper p f)

tight_by : (minify breaks slash lined first leads opening plain : Bool) (n : ℕ) (d : Bool) → (first ≡ true → slash ≡ false) → (opening ≡ true → slash ≡ false)
    → is_tight (if minify then (if breaks then Lines 1 false else if slash then Blank else Tight) else if lined then (if first then Tight else if leads then Lines (if opening then 1 else kept n) d else Blank) else if first || (opening && plain) then Tight else Blank) ≡ true
    → slash ≡ false
tight_by true true slash lined first leads opening plain n d h k e = absurd (false≢true e)
tight_by true false true lined first leads opening plain n d h k e = absurd (false≢true e)
tight_by true false false lined first leads opening plain n d h k e = refl
tight_by false breaks slash true true leads opening plain n d h k e = h refl
tight_by false breaks slash true false true opening plain n d h k e = absurd (false≢true e)
tight_by false breaks slash true false false opening plain n d h k e = absurd (false≢true e)
tight_by false breaks slash false true leads opening plain n d h k e = h refl
tight_by false breaks slash false false leads true plain n d h k e = k refl
tight_by false breaks slash false false leads false plain n d h k e = absurd (false≢true e)

no_opening : (k : ℕ) → is_opening k ≡ true → (k == div_kind) ≡ false
no_opening k e = ⊎_elim
    (λ (t : (k == div_kind) ≡ true). absurd (false≢true (sym (ap is_opening (eqb-true k div_kind t)) ∙ e)))
    (λ (f : (k == div_kind) ≡ false). f)
    (cases_Bool (k == div_kind))

pub first_tight : (l : Looks) (p : Place) (f : Form) (r : Remark) → (p.first ≡ true → (p.behind == div_kind) ≡ false) → is_tight (first_space l p f r) ≡ true → (p.behind == div_kind) ≡ false
first_tight l p f r h e =
    tight_by l.minify p.breaks (p.behind == div_kind) f.lined p.first (f.leads || nat_lt 0 r.lines) (is_opening p.behind) (not (r.is_line || is_empty_braces p)) r.lines (is_deeper p f) h (no_opening p.behind) e

-- ---- where the layout ends a line one ends

joined_breaks : (crlf : Bool) (l : Looks) (indent : List ℕ) (s : Space) (u : Trivium) (us : List Trivium) → is_break s ≡ true → breaks_line (space_trivia crlf l indent s ++ (u ∷ us)) ≡ true
joined_breaks crlf l indent s u us e = space_breaks crlf l indent s (u ∷ us) ∙ ap (λ (b : Bool). b || breaks_line (u ∷ us)) e

later_breaks : (crlf : Bool) (l : Looks) (indent : List ℕ) (s : Space) (u : Trivium) (us : List Trivium) → breaks_line us ≡ true → breaks_line (space_trivia crlf l indent s ++ (u ∷ us)) ≡ true
later_breaks crlf l indent s u us e =
    space_breaks crlf l indent s (u ∷ us) ∙ (ap (λ (b : Bool). is_break s || (is_end_of_line u || b)) e ∙ (ap (λ (b : Bool). is_break s || b) (or_true (is_end_of_line u)) ∙ or_true (is_break s)))

next_lined : (minify lined some : Bool) (x y : Space) (n : ℕ) (d : Bool) → minify ≡ false → lined ≡ true → some ≡ true → is_break (if minify then x else if lined then (if some then Lines (kept n) d else Blank) else y) ≡ true
next_lined true lined some x y n d m e h = absurd (true≢false m)
next_lined false true true x y n d m e h = kept_some n
next_lined false true false x y n d m e h = absurd (false≢true h)
next_lined false false some x y n d m e h = absurd (false≢true e)

last_lined : (minify lined over some : Bool) (x y : Space) (n : ℕ) → minify ≡ false → lined ≡ true → (over ≡ true) ⊎ (some ≡ true)
    → is_break (if minify then x else if lined then (if over then Lines 1 false else if some then Lines (kept n) false else Blank) else y) ≡ true
last_lined true lined over some x y n m e h = absurd (true≢false m)
last_lined false false over some x y n m e h = absurd (false≢true e)
last_lined false true true some x y n m e h = refl
last_lined false true false true x y n m e h = kept_some n
last_lined false true false false x y n m e (inl h) = absurd (false≢true h)
last_lined false true false false x y n m e (inr h) = absurd (false≢true h)

or_so : (a b : Bool) → a ≡ false → (a || b) ≡ true → b ≡ true
or_so true b e h = absurd (true≢false e)
or_so false b e h = h

behind_breaks : (crlf : Bool) (l : Looks) (p : Place) (f : Form) (q : Remark) (rs : List Remark) → l.minify ≡ false → f.lined ≡ true
    → (is_closing p.next ≡ true) ⊎ (some_lines_from (q.is_line || nat_lt 0 q.behind) rs ≡ true) → breaks_line (behind_trivia crlf l p f q rs) ≡ true
behind_breaks crlf l p f q [] m e h =
    sym (ap breaks_line (all_there (space_trivia crlf l p.indent (last_space l p f q))))
    ∙ (space_breaks crlf l p.indent (last_space l p f q) []
    ∙ ap (λ (b : Bool). b || false)
    (last_lined l.minify f.lined (p.last || is_closing p.next) (q.is_line || nat_lt 0 q.behind) _ _ q.behind m e
    (⊎_elim (λ (c : is_closing p.next ≡ true). inl (ap (λ (b : Bool). p.last || b) c ∙ or_true p.last)) (λ (s : (q.is_line || nat_lt 0 q.behind) ≡ true). inr s) h)))
behind_breaks crlf l p f q (r ∷ rs) m e h = ⊎_elim
    (λ (t : (q.is_line || nat_lt 0 r.lines) ≡ true).
    joined_breaks crlf l p.indent (next_space l p f q r) (trivium_of r.is_line r.text) (behind_trivia crlf l p f r rs) (next_lined l.minify f.lined (q.is_line || nat_lt 0 r.lines) _ _ r.lines (is_deeper p f) m e t))
    (λ (n : (q.is_line || nat_lt 0 r.lines) ≡ false).
    let none : nat_lt 0 r.lines ≡ false = or_second q.is_line (nat_lt 0 r.lines) n in
    later_breaks crlf l p.indent (next_space l p f q r) (trivium_of r.is_line r.text) (behind_trivia crlf l p f r rs)
    (behind_breaks crlf l p f r rs m e
    (⊎_elim (λ (c : is_closing p.next ≡ true). inl c) (λ (s : some_lines_from (q.is_line || nat_lt 0 q.behind) (r ∷ rs) ≡ true). inr (or_so (nat_lt 0 r.lines) (some_lines_from (r.is_line || nat_lt 0 r.behind) rs) none s)) h)))
    (cases_Bool (q.is_line || nat_lt 0 r.lines))

first_minified_breaks : (minify breaks : Bool) (x y : Space) → minify ≡ true → breaks ≡ true → is_break (if minify then (if breaks then Lines 1 false else x) else y) ≡ true
first_minified_breaks true true x y m b = refl
first_minified_breaks true false x y m b = absurd (false≢true b)
first_minified_breaks false breaks x y m b = absurd (false≢true m)

first_lined : (minify lined first leads opening : Bool) (x y : Space) (n : ℕ) (d : Bool) → minify ≡ false → lined ≡ true → first ≡ false → leads ≡ true
    → is_break (if minify then x else if lined then (if first then Tight else if leads then Lines (if opening then 1 else kept n) d else Blank) else y) ≡ true
first_lined false true false true opening x y n d m e f h = count_some opening n
first_lined true lined first leads opening x y n d m e f h = absurd (true≢false m)
first_lined false false first leads opening x y n d m e f h = absurd (false≢true e)
first_lined false true true leads opening x y n d m e f h = absurd (true≢false f)
first_lined false true false false opening x y n d m e f h = absurd (false≢true h)

-- what doesn't lead
led : (a b closing some : Bool) → (a || (b || (not closing && not some))) ≡ false → (closing ≡ true) ⊎ (some ≡ true)
led a b true some e = inl refl
led a b false true e = inr refl
led true b false false e = absurd (true≢false e)
led false true false false e = absurd (true≢false e)
led false false false false e = absurd (true≢false e)

lined_so : (p : Place) (rs : List Remark) → p.breaks ≡ true → (form_of p rs).lined ≡ true
lined_so p rs b = ap (λ (x : Bool). x || (not p.stays && (p.first || (p.last || (is_empty_braces p && some_lines rs))))) b

-- where the first comment leads, or its line did
leading : (l : Looks) (p : Place) (r : Remark) (rs : List Remark) → p.breaks ≡ true → p.first ≡ false → ((form_of p (r ∷ rs)).leads || nat_lt 0 r.lines) ≡ true → is_break (first_space l p (form_of p (r ∷ rs)) r) ≡ true
leading l p r rs b n h = ⊎_elim
    (λ (m : l.minify ≡ true). first_minified_breaks l.minify p.breaks _ _ m b)
    (λ (m : l.minify ≡ false).
    first_lined l.minify (form_of p (r ∷ rs)).lined p.first ((form_of p (r ∷ rs)).leads || nat_lt 0 r.lines) (is_opening p.behind) _ _ r.lines (is_deeper p (form_of p (r ∷ rs))) m (lined_so p (r ∷ rs) b) n h)
    (cases_Bool l.minify)

pub noted_breaks : (crlf : Bool) (l : Looks) (p : Place) (r : Remark) (rs : List Remark) → p.breaks ≡ true → p.first ≡ false → breaks_line (noted_trivia crlf l p (form_of p (r ∷ rs)) r rs) ≡ true
noted_breaks crlf l p r rs b n =
    let f = form_of p (r ∷ rs) in
    let us = behind_trivia crlf l p f r rs in
    ⊎_elim
    (λ (h : (f.leads || nat_lt 0 r.lines) ≡ true). joined_breaks crlf l p.indent (first_space l p f r) (trivium_of r.is_line r.text) us (leading l p r rs b n h))
    (λ (h : (f.leads || nat_lt 0 r.lines) ≡ false). ⊎_elim
    (λ (m : l.minify ≡ true). joined_breaks crlf l p.indent (first_space l p f r) (trivium_of r.is_line r.text) us (first_minified_breaks l.minify p.breaks _ _ m b))
    (λ (m : l.minify ≡ false).
    let none : nat_lt 0 r.lines ≡ false = or_second f.leads (nat_lt 0 r.lines) h in
    let so = led (p.behind == shebang_kind) (is_empty_braces p) (is_closing p.next) (some_lines (r ∷ rs)) (or_first f.leads (nat_lt 0 r.lines) h) in
    later_breaks crlf l p.indent (first_space l p f r) (trivium_of r.is_line r.text) us
    (behind_breaks crlf l p f r rs m (lined_so p (r ∷ rs) b)
    (⊎_elim (λ (c : is_closing p.next ≡ true). inl c) (λ (s : some_lines (r ∷ rs) ≡ true). inr (or_so (nat_lt 0 r.lines) (some_lines_from (r.is_line || nat_lt 0 r.behind) rs) none s)) so)))
    (cases_Bool l.minify))
    (cases_Bool (f.leads || nat_lt 0 r.lines))

-- behind a hashbang a line ends at once
pub noted_leads : (crlf : Bool) (l : Looks) (p : Place) (r : Remark) (rs : List Remark) (over : Bool) → p.breaks ≡ true → p.first ≡ false → (p.behind == shebang_kind) ≡ true
    → ends_line over (noted_trivia crlf l p (form_of p (r ∷ rs)) r rs) ≡ true
noted_leads crlf l p r rs over b n s =
    let f = form_of p (r ∷ rs) in
    space_ends crlf l p.indent (first_space l p f r) over (trivium_of r.is_line r.text ∷ behind_trivia crlf l p f r rs)
    (leading l p r rs b n (ap (λ (x : Bool). (x || (is_empty_braces p || (not (is_closing p.next) && not (some_lines (r ∷ rs))))) || nat_lt 0 r.lines) s))

-- ---- where no line may begin none does

abbrev pub NoneEnds : List Remark → Type 0
NoneEnds [] = Unit {0}
NoneEnds (r ∷ rs) = (ends_a_line r ≡ false) × NoneEnds rs

still : (r : Remark) → IsRemark r → ends_a_line r ≡ false → is_end_of_line (trivium_of r.is_line r.text) ≡ false
still r h e = by r.is_line (λ f. sym (h.breaks f) ∙ or_second r.is_line r.breaks e)
  where
    by : (b : Bool) → (b ≡ false → list_any is_line_terminator r.text ≡ false) → is_end_of_line (trivium_of b r.text) ≡ false
    by true k = refl
    by false k = k refl

joined_still : (crlf : Bool) (l : Looks) (indent : List ℕ) (s : Space) (u : Trivium) (us : List Trivium) → is_break s ≡ false → is_end_of_line u ≡ false → breaks_line us ≡ false → breaks_line (space_trivia crlf l indent s ++ (u ∷ us)) ≡ false
joined_still crlf l indent s u us e k h = space_breaks crlf l indent s (u ∷ us) ∙ (ap (λ (b : Bool). b || (is_end_of_line u || breaks_line us)) e ∙ (ap (λ (b : Bool). b || breaks_line us) k ∙ h))

next_still : (minify lined line some : Bool) (n : ℕ) (d : Bool) → lined ≡ false → line ≡ false
    → is_break (if minify then (if line then Lines 1 false else Tight) else if lined then (if some then Lines (kept n) d else Blank) else if line then Lines 1 d else Blank) ≡ false
next_still true lined false some n d e h = refl
next_still false false false some n d e h = refl
next_still minify true line some n d e h = absurd (true≢false e)
next_still minify lined true some n d e h = absurd (true≢false h)

last_still : (minify lined line joined : Bool) (x : Space) (d : Bool) → lined ≡ false → line ≡ false
    → is_break (if minify then (if line then Lines 1 false else Tight) else if lined then x else if line then Lines 1 d else if joined then Tight else Blank) ≡ false
last_still true lined false joined x d e h = refl
last_still false false false true x d e h = refl
last_still false false false false x d e h = refl
last_still minify true line joined x d e h = absurd (true≢false e)
last_still minify lined true joined x d e h = absurd (true≢false h)

first_still : (minify breaks slash lined tight : Bool) (x : Space) → breaks ≡ false → lined ≡ false
    → is_break (if minify then (if breaks then Lines 1 false else if slash then Blank else Tight) else if lined then x else if tight then Tight else Blank) ≡ false
first_still true false true lined tight x b e = refl
first_still true false false lined tight x b e = refl
first_still false breaks slash false true x b e = refl
first_still false breaks slash false false x b e = refl
first_still minify true slash lined tight x b e = absurd (true≢false b)
first_still minify breaks slash true tight x b e = absurd (true≢false e)

behind_still : (crlf : Bool) (l : Looks) (p : Place) (f : Form) (q : Remark) (rs : List Remark) → f.lined ≡ false → ends_a_line q ≡ false → AreRemarks rs → NoneEnds rs → breaks_line (behind_trivia crlf l p f q rs) ≡ false
behind_still crlf l p f q [] e h a n =
    sym (ap breaks_line (all_there (space_trivia crlf l p.indent (last_space l p f q))))
    ∙ (space_breaks crlf l p.indent (last_space l p f q) [] ∙ ap (λ (b : Bool). b || false) (last_still l.minify f.lined q.is_line (is_joined p.next) _ _ e (or_first q.is_line q.breaks h)))
behind_still crlf l p f q (r ∷ rs) e h a n =
    joined_still crlf l p.indent (next_space l p f q r) (trivium_of r.is_line r.text) (behind_trivia crlf l p f r rs)
    (next_still l.minify f.lined q.is_line (q.is_line || nat_lt 0 r.lines) r.lines (is_deeper p f) e (or_first q.is_line q.breaks h)) (still r a.0 n.0) (behind_still crlf l p f r rs e n.0 a.1 n.1)

unlined : (breaks stays some : Bool) → breaks ≡ false → stays ≡ true → (breaks || (not stays && some)) ≡ false
unlined false true some b s = refl
unlined true stays some b s = absurd (true≢false b)
unlined breaks false some b s = absurd (false≢true s)

pub noted_still : (crlf : Bool) (l : Looks) (p : Place) (r : Remark) (rs : List Remark) → p.breaks ≡ false → p.stays ≡ true → IsRemark r → AreRemarks rs → NoneEnds (r ∷ rs)
    → breaks_line (noted_trivia crlf l p (form_of p (r ∷ rs)) r rs) ≡ false
noted_still crlf l p r rs b s h a n =
    let f = form_of p (r ∷ rs) in
    let e : f.lined ≡ false = unlined p.breaks p.stays (p.first || (p.last || (is_empty_braces p && some_lines (r ∷ rs)))) b s in
    joined_still crlf l p.indent (first_space l p f r) (trivium_of r.is_line r.text) (behind_trivia crlf l p f r rs)
    (first_still l.minify p.breaks (p.behind == div_kind) f.lined (p.first || (is_opening p.behind && not (r.is_line || is_empty_braces p))) _ b e) (still r h n.0) (behind_still crlf l p f r rs e n.0 a n.1)
