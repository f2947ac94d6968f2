-- What stands beside comments is trivia, and where it ends lines.
use Rattle.std.proofs.Common.{◌≡◌, ◌<◌, ℕ, zero, suc, Bool, true, false, not, ◌&&◌, ◌||◌, if◌then◌else◌, List, [], ◌∷◌, ◌++◌, append_assoc, append-nil, refl, sym, ap, subst, ◌∙◌, arith}
use Rattle.std.specs.Prelude.{nat_lt, min, max}
use Rattle.std.specs.List.{list_any}
use Rattle.std.proofs.lemmas.Bool.{false≢true}
use Rattle.std.proofs.lemmas.Bool.Decides.{nat_tests}
use Rattle.lex_pieces.specs.Characters.{is_white_space, is_line_terminator}
use Rattle.lex_pieces.specs.Runs.{Each}
use Rattle.lex_pieces.specs.declared.trivia.Goal.TheVariants.{Module}
use Rattle.print_weave_laws.specs.Gaps.{Trivium, breaks_line, ends_line, AreTrivia}
use Rattle.print_weave_laws.specs.Cells.{is_no_slash, parts}
use Rattle.print_weave_laws.proofs.Inserting.{as_module}
use Rattle.print_notes.specs.Slots.{Remark, Looks}
use Rattle.print_notes.specs.Spacing.{Place, is_closing, is_joined, Form, Space, Tight, Blank, Lines, kept, is_deeper, first_space, next_space, last_space}
use Rattle.print_notes_laws.specs.Trivia.{ends, whites, indentation, space_trivia, trivium_of, behind_trivia, noted_trivia}
use Rattle.print_notes_laws.specs.Laws.{IsLook, IsRemark, AreRemarks}

-- ---- one space before other trivia

-- a line ends in it
abbrev pub is_break : Space → Bool
is_break Tight = false
is_break Blank = false
is_break (Lines n deeper) = nat_lt 0 n

some : (n : ℕ) → nat_lt 0 (suc n) ≡ true
some n = grind (arith, nat_tests)

pub each_after : (p : ℕ → Bool) (a b : List ℕ) → Each p a → Each p b → Each p (a ++ b)
each_after p [] b h k = k
each_after p (c ∷ cs) b h k = (h.0, each_after p cs b h.1 k)

each_chosen : (p : ℕ → Bool) (b : Bool) (a : List ℕ) → Each p a → Each p (if b then a else [])
each_chosen p true a h = h
each_chosen p false a h = tt

indented : (crlf : Bool) (l : Looks) (indent : List ℕ) (d : Bool) → IsLook crlf l → Each is_white_space indent → Each is_white_space (indentation l indent d)
indented crlf l indent d k h = each_after is_white_space indent (if d then l.step else []) h (each_chosen is_white_space d l.step k.step)

whites_are : (first over : Bool) (ws : List ℕ) (us : List Trivium) → Each is_white_space ws → AreTrivia Module first over us → AreTrivia Module first over (whites ws ++ us)
whites_are first over [] us h a = a
whites_are first over (w ∷ ws) us h a = (h.0, whites_are (first || false) over ws us h.1 (as_module Module first (first || false) over us a))

ends_are : (crlf first over : Bool) (n : ℕ) (us : List Trivium) → AreTrivia Module first over us → AreTrivia Module first over (ends crlf n ++ us)
ends_are crlf first over zero us a = a
ends_are true first over (suc n) us a = (tt, ends_are true (first || true) over n us (as_module Module first (first || true) over us a))
ends_are false first over (suc n) us a = ((refl, refl), ends_are false (first || true) over n us (as_module Module first (first || true) over us a))

pub space_are : (crlf : Bool) (l : Looks) (indent : List ℕ) (s : Space) (first over : Bool) (us : List Trivium) → IsLook crlf l → Each is_white_space indent → AreTrivia Module first over us → AreTrivia Module first over (space_trivia crlf l indent s ++ us)
space_are crlf l indent Tight first over us k h a = a
space_are crlf l indent Blank first over us k h a = (refl, as_module Module first (first || false) over us a)
space_are crlf l indent (Lines n d) first over us k h a =
    subst (λ (z : List Trivium). AreTrivia Module first over z) (sym (append_assoc (ends crlf n) (whites (indentation l indent d)) us))
    (ends_are crlf first over n (whites (indentation l indent d) ++ us) (whites_are first over (indentation l indent d) us (indented crlf l indent d k h) a))

whites_break : (ws : List ℕ) (us : List Trivium) → breaks_line (whites ws ++ us) ≡ breaks_line us
whites_break [] us = refl
whites_break (w ∷ ws) us = whites_break ws us

ends_break : (crlf : Bool) (n : ℕ) (us : List Trivium) → breaks_line (ends crlf n ++ us) ≡ (nat_lt 0 n || breaks_line us)
ends_break crlf zero us = refl
ends_break true (suc n) us = sym (ap (λ (b : Bool). b || breaks_line us) (some n))
ends_break false (suc n) us = sym (ap (λ (b : Bool). b || breaks_line us) (some n))

pub space_breaks : (crlf : Bool) (l : Looks) (indent : List ℕ) (s : Space) (us : List Trivium) → breaks_line (space_trivia crlf l indent s ++ us) ≡ (is_break s || breaks_line us)
space_breaks crlf l indent Tight us = refl
space_breaks crlf l indent Blank us = refl
space_breaks crlf l indent (Lines n d) us =
    ap breaks_line (append_assoc (ends crlf n) (whites (indentation l indent d)) us)
    ∙ (ends_break crlf n (whites (indentation l indent d) ++ us) ∙ ap (λ (b : Bool). nat_lt 0 n || b) (whites_break (indentation l indent d) us))

pub space_ends : (crlf : Bool) (l : Looks) (indent : List ℕ) (s : Space) (over : Bool) (us : List Trivium) → is_break s ≡ true → ends_line over (space_trivia crlf l indent s ++ us) ≡ true
space_ends crlf l indent Tight over us e = absurd (false≢true e)
space_ends crlf l indent Blank over us e = absurd (false≢true e)
space_ends crlf l indent (Lines zero d) over us e = absurd (false≢true e)
space_ends true l indent (Lines (suc n) d) over us e = refl
space_ends false l indent (Lines (suc n) d) over us e = refl

-- ---- behind a comment of one line a line ends

pub kept_some : (n : ℕ) → nat_lt 0 (kept n) ≡ true
kept_some n = let e : 0 < min 2 (max 1 n) = omega arith in grind (arith, nat_tests)

next_by : (minify lined line : Bool) (n : ℕ) (d : Bool) → line ≡ true
    → is_break (if minify then (if line then Lines 1 false else Tight) else if lined then (if line || nat_lt 0 n then Lines (kept n) d else Blank) else if line then Lines 1 d else Blank) ≡ true
next_by true lined true n d e = refl
next_by false true true n d e = kept_some n
next_by false false true n d e = refl
next_by minify lined false n d e = absurd (false≢true e)

last_by : (minify lined over line : Bool) (n : ℕ) (d joined : Bool) → line ≡ true
    → is_break (if minify then (if line then Lines 1 false else Tight) else if lined then (if over then Lines 1 false else if line || nat_lt 0 n then Lines (kept n) false else Blank) else if line then Lines 1 d else if joined then Tight else Blank) ≡ true
last_by true lined over true n d joined e = refl
last_by false true true true n d joined e = refl
last_by false true false true n d joined e = kept_some n
last_by false false over true n d joined e = refl
last_by minify lined over false n d joined e = absurd (false≢true e)

next_breaks : (l : Looks) (p : Place) (f : Form) (q r : Remark) → q.is_line ≡ true → is_break (next_space l p f q r) ≡ true
next_breaks l p f q r e = next_by l.minify f.lined q.is_line r.lines (is_deeper p f) e

last_breaks : (l : Looks) (p : Place) (f : Form) (q : Remark) → q.is_line ≡ true → is_break (last_space l p f q) ≡ true
last_breaks l p f q e = last_by l.minify f.lined (p.last || is_closing p.next) q.is_line q.behind (is_deeper p f && not (is_closing p.next)) (is_joined p.next) e

pub all_there : (us : List Trivium) → us ++ [] ≡ us
all_there us = append-nil us

behind_ends : (crlf : Bool) (l : Looks) (p : Place) (f : Form) (q : Remark) (rs : List Remark) (over : Bool) → q.is_line ≡ true → ends_line over (behind_trivia crlf l p f q rs) ≡ true
behind_ends crlf l p f q [] over e =
    subst (λ (z : List Trivium). ends_line over z ≡ true) (all_there (space_trivia crlf l p.indent (last_space l p f q)))
    (space_ends crlf l p.indent (last_space l p f q) over [] (last_breaks l p f q e))
behind_ends crlf l p f q (r ∷ rs) over e = space_ends crlf l p.indent (next_space l p f q r) over (trivium_of r.is_line r.text ∷ behind_trivia crlf l p f r rs) (next_breaks l p f q r e)

-- ---- comments are trivia

note_are : (b : Bool) (own : List ℕ) (first over : Bool) (us : List Trivium) → (b ≡ true → Each (λ c. not (is_line_terminator c)) own) → (b ≡ false → (x y : List ℕ) → own ≡ x ++ 42 ∷ 47 ∷ y → ⊥)
    → (b ≡ true → ends_line over us ≡ true) → AreTrivia Module first over us → AreTrivia Module first over (trivium_of b own ∷ us)
note_are true own first over us h k e a = ((refl, h refl, e refl), as_module Module first (first || false) over us a)
note_are false own first over us h k e a = (k refl, as_module Module first (first || list_any is_line_terminator own) over us a)

one_are : (r : Remark) (first over : Bool) (us : List Trivium) → IsRemark r → (r.is_line ≡ true → ends_line over us ≡ true) → AreTrivia Module first over us → AreTrivia Module first over (trivium_of r.is_line r.text ∷ us)
one_are r first over us h e a = note_are r.is_line r.text first over us h.line h.block e a

behind_are : (crlf : Bool) (l : Looks) (p : Place) (f : Form) (q : Remark) (rs : List Remark) (first over : Bool) → IsLook crlf l → Each is_white_space p.indent → AreRemarks rs → AreTrivia Module first over (behind_trivia crlf l p f q rs)
behind_are crlf l p f q [] first over k h a =
    subst (λ (z : List Trivium). AreTrivia Module first over z) (all_there (space_trivia crlf l p.indent (last_space l p f q)))
    (space_are crlf l p.indent (last_space l p f q) first over [] k h tt)
behind_are crlf l p f q (r ∷ rs) first over k h a =
    space_are crlf l p.indent (next_space l p f q r) first over (trivium_of r.is_line r.text ∷ behind_trivia crlf l p f r rs) k h
    (one_are r first over (behind_trivia crlf l p f r rs) a.0 (λ e. behind_ends crlf l p f r rs over e) (behind_are crlf l p f r rs first over k h a.1))

pub noted_are : (crlf : Bool) (l : Looks) (p : Place) (f : Form) (r : Remark) (rs : List Remark) (first over : Bool) → IsLook crlf l → Each is_white_space p.indent → IsRemark r → AreRemarks rs → AreTrivia Module first over (noted_trivia crlf l p f r rs)
noted_are crlf l p f r rs first over k h a b =
    space_are crlf l p.indent (first_space l p f r) first over (trivium_of r.is_line r.text ∷ behind_trivia crlf l p f r rs) k h
    (one_are r first over (behind_trivia crlf l p f r rs) a (λ e. behind_ends crlf l p f r rs over e) (behind_are crlf l p f r rs first over k h b))

-- ---- the first comment stands apart from the token before it

-- it isn't `Lines 0`
abbrev pub is_fine : Space → Bool
is_fine Tight = true
is_fine Blank = true
is_fine (Lines n d) = nat_lt 0 n

abbrev pub is_tight : Space → Bool
is_tight Tight = true
is_tight Blank = false
is_tight (Lines n d) = false

noted_parts : (b : Bool) (own text : List ℕ) (us : List Trivium) → is_no_slash own ≡ true → parts own (trivium_of b text ∷ us) ≡ true
noted_parts true own text us e = e
noted_parts false own text us e = e

pub space_parts : (crlf : Bool) (l : Looks) (indent : List ℕ) (s : Space) (b : Bool) (own text : List ℕ) (us : List Trivium) → is_fine s ≡ true → (is_tight s ≡ true → is_no_slash own ≡ true)
    → parts own (space_trivia crlf l indent s ++ (trivium_of b text ∷ us)) ≡ true
space_parts crlf l indent Tight b own text us e h = noted_parts b own text us (h refl)
space_parts crlf l indent Blank b own text us e h = refl
space_parts crlf l indent (Lines zero d) b own text us e h = absurd (false≢true e)
space_parts true l indent (Lines (suc n) d) b own text us e h = refl
space_parts false l indent (Lines (suc n) d) b own text us e h = refl
