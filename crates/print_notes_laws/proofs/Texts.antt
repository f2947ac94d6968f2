-- The text of what is written, and the comments in it.
use Rattle.std.proofs.Common.{◌≡◌, ℕ, zero, suc, ◌+◌, Bool, true, false, if◌then◌else◌, List, [], ◌∷◌, ◌++◌, append_assoc, append-nil, map, take, drop, refl, sym, ap, ◌∙◌}
use Rattle.lex_pieces.specs.Trivia.{spelled}
use Rattle.print_weave_laws.specs.Gaps.{Trivium, White, Feed, Return, Block, Line, chars_of, gap_before, Note, notes}
use Rattle.print_weave_laws.specs.Cells.{Cell, text_of, woven}
use Rattle.print_notes.specs.Slots.{LaidToken, Remark, Looks}
use Rattle.print_notes.specs.Safe.{fitting}
use Rattle.print_notes.specs.Spacing.{Place, place_before, place_at_end, next_line, Form, form_of, Space, Tight, Blank, Lines, times, space_text, first_space, next_space, last_space}
use Rattle.print_notes.specs.Woven as spec
use Rattle.print_notes_laws.specs.Trivia.{line_text, ends, whites, indentation, space_trivia, trivium_of, note_by, note_of, behind_trivia, noted_trivia, gap_trivia, end_trivia, gaps_of, over_of, all_notes}
use Rattle.print_notes_laws.specs.Laws.{AreTokens}

-- ---- texts

after : (us vs : List Trivium) (cs : List ℕ) → gap_before (us ++ vs) cs ≡ gap_before us (gap_before vs cs)
after [] vs cs = refl
after (u ∷ us) vs cs = ap (λ (z : List ℕ). chars_of u z) (after us vs cs)

one_front : (u : Trivium) (z cs : List ℕ) → chars_of u (z ++ cs) ≡ chars_of u z ++ cs
one_front (White c) z cs = refl
one_front (Feed c) z cs = refl
one_front Return z cs = refl
one_front (Block own) z cs = ap (λ (y : List ℕ). 47 ∷ 42 ∷ y) (sym (append_assoc own (42 ∷ 47 ∷ z) cs))
one_front (Line mark own) z cs = ap (λ (y : List ℕ). spelled mark ++ y) (sym (append_assoc own z cs)) ∙ sym (append_assoc (spelled mark) (own ++ z) cs)

front : (us : List Trivium) (cs : List ℕ) → gap_before us cs ≡ gap_before us [] ++ cs
front [] cs = refl
front (u ∷ us) cs = ap (λ (z : List ℕ). chars_of u z) (front us cs) ∙ one_front u (gap_before us []) cs

ends_text : (crlf : Bool) (n : ℕ) (cs : List ℕ) → gap_before (ends crlf n) cs ≡ times n (line_text crlf) ++ cs
ends_text crlf zero cs = refl
ends_text true (suc n) cs = ap (λ (z : List ℕ). 13 ∷ 10 ∷ z) (ends_text true n cs)
ends_text false (suc n) cs = ap (λ (z : List ℕ). 10 ∷ z) (ends_text false n cs)

whites_text : (ws cs : List ℕ) → gap_before (whites ws) cs ≡ ws ++ cs
whites_text [] cs = refl
whites_text (w ∷ ws) cs = ap (λ (z : List ℕ). w ∷ z) (whites_text ws cs)

space_said : (crlf : Bool) (l : Looks) (indent : List ℕ) (s : Space) (cs : List ℕ) → l.line_end ≡ line_text crlf → gap_before (space_trivia crlf l indent s) cs ≡ space_text l indent s ++ cs
space_said crlf l indent Tight cs e = refl
space_said crlf l indent Blank cs e = refl
space_said crlf l indent (Lines n d) cs e =
    let w = indentation l indent d in
    after (ends crlf n) (whites w) cs
    ∙ (ends_text crlf n (gap_before (whites w) cs)
    ∙ (ap (λ (z : List ℕ). times n (line_text crlf) ++ z) (whites_text w cs)
    ∙ (sym (append_assoc (times n (line_text crlf)) w cs) ∙ ap (λ (t : List ℕ). (times n t ++ w) ++ cs) (sym e))))

marked : (b : Bool) (own cs : List ℕ) → chars_of (trivium_of b own) cs ≡ (if b then 47 ∷ 47 ∷ own else 47 ∷ 42 ∷ (own ++ 42 ∷ 47 ∷ [])) ++ cs
marked true own cs = refl
marked false own cs = ap (λ (z : List ℕ). 47 ∷ 42 ∷ z) (sym (append_assoc own (42 ∷ 47 ∷ []) cs))

-- a space, a comment and what follows it
joined : (crlf : Bool) (l : Looks) (indent : List ℕ) (s : Space) (r : Remark) (us : List Trivium) (ut cs : List ℕ) → l.line_end ≡ line_text crlf → gap_before us cs ≡ ut ++ cs
    → gap_before (space_trivia crlf l indent s ++ (trivium_of r.is_line r.text ∷ us)) cs ≡ (space_text l indent s ++ (spec.comment_text r ++ ut)) ++ cs
joined crlf l indent s r us ut cs e h =
    after (space_trivia crlf l indent s) (trivium_of r.is_line r.text ∷ us) cs
    ∙ (space_said crlf l indent s (chars_of (trivium_of r.is_line r.text) (gap_before us cs)) e
    ∙ (ap (λ (z : List ℕ). space_text l indent s ++ z)
    (marked r.is_line r.text (gap_before us cs) ∙ (ap (λ (z : List ℕ). spec.comment_text r ++ z) h ∙ sym (append_assoc (spec.comment_text r) ut cs)))
    ∙ sym (append_assoc (space_text l indent s) (spec.comment_text r ++ ut) cs)))

behind_said : (crlf : Bool) (l : Looks) (p : Place) (f : Form) (q : Remark) (rs : List Remark) (cs : List ℕ) → l.line_end ≡ line_text crlf
    → gap_before (behind_trivia crlf l p f q rs) cs ≡ spec.behind_comment l p f q rs ++ cs
behind_said crlf l p f q [] cs e = space_said crlf l p.indent (last_space l p f q) cs e
behind_said crlf l p f q (r ∷ rs) cs e = joined crlf l p.indent (next_space l p f q r) r (behind_trivia crlf l p f r rs) (spec.behind_comment l p f r rs) cs e (behind_said crlf l p f r rs cs e)

noted_said : (crlf : Bool) (l : Looks) (p : Place) (f : Form) (r : Remark) (rs : List Remark) (cs : List ℕ) → l.line_end ≡ line_text crlf
    → gap_before (noted_trivia crlf l p f r rs) cs ≡ spec.noted_gap l p f r rs ++ cs
noted_said crlf l p f r rs cs e = joined crlf l p.indent (first_space l p f r) r (behind_trivia crlf l p f r rs) (spec.behind_comment l p f r rs) cs e (behind_said crlf l p f r rs cs e)

chosen : (b : Bool) (us vs : List Trivium) (ut vt cs : List ℕ) → gap_before us cs ≡ ut ++ cs → gap_before vs cs ≡ vt ++ cs → gap_before (if b then us else vs) cs ≡ (if b then ut else vt) ++ cs
chosen true us vs ut vt cs h k = h
chosen false us vs ut vt cs h k = k

gap_said : (crlf : Bool) (l : Looks) (p : Place) (t : LaidToken) (us : List Trivium) (rs : List Remark) (cs : List ℕ) → l.line_end ≡ line_text crlf → t.before ≡ gap_before us []
    → gap_before (gap_trivia crlf l p t us rs) cs ≡ spec.gap_before l p t rs ++ cs
gap_said crlf l p t us [] cs e b =
    chosen (spec.is_parted l p t) (space_trivia crlf l p.indent (Lines 2 false)) us (space_text l p.indent (Lines 2 false)) t.before cs
    (space_said crlf l p.indent (Lines 2 false) cs e) (front us cs ∙ ap (λ (z : List ℕ). z ++ cs) (sym b))
gap_said crlf l p t us (r ∷ rs) cs e b = noted_said crlf l p (form_of p (r ∷ rs)) r rs cs e

end_said : (crlf : Bool) (l : Looks) (p : Place) (us : List Trivium) (rs : List Remark) → l.line_end ≡ line_text crlf → gap_before (end_trivia crlf l p us rs) [] ≡ spec.gap_at_end l p (gap_before us []) rs
end_said crlf l p us [] e = refl
end_said crlf l p us (r ∷ rs) e = noted_said crlf l p (form_of p (r ∷ rs)) r rs [] e ∙ append-nil (spec.noted_gap l p (form_of p (r ∷ rs)) r rs)

pub all_said : (crlf : Bool) (l : Looks) (line own : List ℕ) (behind gap : ℕ) (ts : List LaidToken) (xs : List Cell) (tail : List Trivium) (rs : List Remark) → l.line_end ≡ line_text crlf
    → AreTokens behind own ts xs
    → spec.woven_from l line behind gap ts (gap_before tail []) rs ≡ text_of (woven xs (gaps_of crlf l line behind gap ts xs rs)) (over_of crlf l behind gap ts tail rs)
all_said crlf l line own behind gap [] [] tail rs e a = sym (end_said crlf l (place_at_end behind) tail rs e)
all_said crlf l line own behind gap [] (x ∷ xs) tail rs e a = absurd a
all_said crlf l line own behind gap (t ∷ ts) [] tail rs e a = absurd a
all_said crlf l line own behind gap (t ∷ ts) (x ∷ xs) tail rs e a =
    let n = fitting gap behind t rs in
    let p = place_before behind line t in
    let g = spec.gap_before l p t (take n rs) in
    let more = text_of (woven xs (gaps_of crlf l (next_line line t) t.kind (gap + 1) ts xs (drop n rs))) (over_of crlf l t.kind (gap + 1) ts tail (drop n rs)) in
    ap (λ (z : List ℕ). g ++ (t.own ++ z)) (all_said crlf l (next_line line t) x.own t.kind (gap + 1) ts xs tail (drop n rs) e a.2)
    ∙ (ap (λ (z : List ℕ). g ++ (z ++ more)) a.0.own ∙ sym (gap_said crlf l p t x.before (take n rs) (x.own ++ more) e a.0.before))

-- ---- comments

notes_after : (us vs : List Trivium) → notes (us ++ vs) ≡ notes us ++ notes vs
notes_after [] vs = refl
notes_after (White c ∷ us) vs = notes_after us vs
notes_after (Feed c ∷ us) vs = notes_after us vs
notes_after (Return ∷ us) vs = notes_after us vs
notes_after (Block own ∷ us) vs = ap (λ (z : List Note). note_by false own ∷ z) (notes_after us vs)
notes_after (Line mark own ∷ us) vs = ap (λ (z : List Note). note_by true own ∷ z) (notes_after us vs)

ends_bare : (crlf : Bool) (n : ℕ) → notes (ends crlf n) ≡ []
ends_bare crlf zero = refl
ends_bare true (suc n) = ends_bare true n
ends_bare false (suc n) = ends_bare false n

whites_bare : (ws : List ℕ) → notes (whites ws) ≡ []
whites_bare [] = refl
whites_bare (w ∷ ws) = whites_bare ws

space_bare : (crlf : Bool) (l : Looks) (indent : List ℕ) (s : Space) → notes (space_trivia crlf l indent s) ≡ []
space_bare crlf l indent Tight = refl
space_bare crlf l indent Blank = refl
space_bare crlf l indent (Lines n d) = notes_after (ends crlf n) (whites (indentation l indent d)) ∙ (ap (λ (z : List Note). z ++ notes (whites (indentation l indent d))) (ends_bare crlf n) ∙ whites_bare (indentation l indent d))

one_note : (b : Bool) (own : List ℕ) (us : List Trivium) → notes (trivium_of b own ∷ us) ≡ note_by b own ∷ notes us
one_note true own us = refl
one_note false own us = refl

joined_notes : (crlf : Bool) (l : Looks) (indent : List ℕ) (s : Space) (r : Remark) (us : List Trivium) → notes (space_trivia crlf l indent s ++ (trivium_of r.is_line r.text ∷ us)) ≡ note_of r ∷ notes us
joined_notes crlf l indent s r us =
    notes_after (space_trivia crlf l indent s) (trivium_of r.is_line r.text ∷ us)
    ∙ (ap (λ (z : List Note). z ++ notes (trivium_of r.is_line r.text ∷ us)) (space_bare crlf l indent s) ∙ one_note r.is_line r.text us)

behind_notes : (crlf : Bool) (l : Looks) (p : Place) (f : Form) (q : Remark) (rs : List Remark) → notes (behind_trivia crlf l p f q rs) ≡ map note_of rs
behind_notes crlf l p f q [] = space_bare crlf l p.indent (last_space l p f q)
behind_notes crlf l p f q (r ∷ rs) = joined_notes crlf l p.indent (next_space l p f q r) r (behind_trivia crlf l p f r rs) ∙ ap (λ (z : List Note). note_of r ∷ z) (behind_notes crlf l p f r rs)

noted_notes : (crlf : Bool) (l : Looks) (p : Place) (f : Form) (r : Remark) (rs : List Remark) → notes (noted_trivia crlf l p f r rs) ≡ map note_of (r ∷ rs)
noted_notes crlf l p f r rs = joined_notes crlf l p.indent (first_space l p f r) r (behind_trivia crlf l p f r rs) ∙ ap (λ (z : List Note). note_of r ∷ z) (behind_notes crlf l p f r rs)

chosen_notes : (b : Bool) (us vs : List Trivium) → notes us ≡ [] → notes vs ≡ [] → notes (if b then us else vs) ≡ []
chosen_notes true us vs h k = h
chosen_notes false us vs h k = k

gap_notes : (crlf : Bool) (l : Looks) (p : Place) (t : LaidToken) (us : List Trivium) (rs : List Remark) → notes us ≡ [] → notes (gap_trivia crlf l p t us rs) ≡ map note_of rs
gap_notes crlf l p t us [] h = chosen_notes (spec.is_parted l p t) (space_trivia crlf l p.indent (Lines 2 false)) us (space_bare crlf l p.indent (Lines 2 false)) h
gap_notes crlf l p t us (r ∷ rs) h = noted_notes crlf l p (form_of p (r ∷ rs)) r rs

end_notes : (crlf : Bool) (l : Looks) (p : Place) (us : List Trivium) (rs : List Remark) → notes us ≡ [] → notes (end_trivia crlf l p us rs) ≡ map note_of rs
end_notes crlf l p us [] h = h
end_notes crlf l p us (r ∷ rs) h = noted_notes crlf l p (form_of p (r ∷ rs)) r rs

split_notes : (n : ℕ) (rs : List Remark) → map note_of (take n rs) ++ map note_of (drop n rs) ≡ map note_of rs
split_notes zero rs = refl
split_notes (suc n) [] = refl
split_notes (suc n) (r ∷ rs) = ap (λ (z : List Note). note_of r ∷ z) (split_notes n rs)

pub notes_said : (crlf : Bool) (l : Looks) (line own : List ℕ) (behind gap : ℕ) (ts : List LaidToken) (xs : List Cell) (tail : List Trivium) (rs : List Remark) → AreTokens behind own ts xs → notes tail ≡ []
    → all_notes (gaps_of crlf l line behind gap ts xs rs) (over_of crlf l behind gap ts tail rs) ≡ map note_of rs
notes_said crlf l line own behind gap [] [] tail rs a h = end_notes crlf l (place_at_end behind) tail rs h
notes_said crlf l line own behind gap [] (x ∷ xs) tail rs a h = absurd a
notes_said crlf l line own behind gap (t ∷ ts) [] tail rs a h = absurd a
notes_said crlf l line own behind gap (t ∷ ts) (x ∷ xs) tail rs a h =
    let n = fitting gap behind t rs in
    ap (λ (z : List Note). notes (gap_trivia crlf l (place_before behind line t) t x.before (take n rs)) ++ z) (notes_said crlf l (next_line line t) x.own t.kind (gap + 1) ts xs tail (drop n rs) a.2 h)
    ∙ (ap (λ (z : List Note). z ++ map note_of (drop n rs)) (gap_notes crlf l (place_before behind line t) t x.before (take n rs) a.0.bare) ∙ split_notes n rs)
