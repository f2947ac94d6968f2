-- The text that is written, by its characters.
use Rattle.std.proofs.Common.{◌≡◌, ◌<◌, ℕ, zero, suc, ◌+◌, ⊎_elim, Bool, true, false, not, ◌&&◌, ◌||◌, if◌then◌else◌, List, [], ◌∷◌, ◌++◌, length, length-append, map, take, drop, refl, sym, ap, subst, ◌∙◌, arith}
use Rattle.std.specs.Prelude.{◌==◌, nat_le, nat_lt}
use Rattle.std.specs.Str.{chars, IsUtf8}
use Rattle.std.proofs.lemmas.Bool.{cases_Bool, false≢true, eqb-true}
use Rattle.std.proofs.lemmas.List.{take-map, drop-map}
use Rattle.std.proofs.lemmas.Str.{chars-nil, chars-append, IsUtf8-append, IsUtf8-nil, chars_from_encodes, encode_ascii, char_from_byte, length-encode, len_utf8_bounds}
use lib.Utf8.{scalars, encodes, encode}
use Rattle.base_token.specs.Kinds.{end_kind, semicolon_kind, shebang_kind}
use Rattle.print_notes.specs.Slots.{LaidToken, Remark, Looks}
use Rattle.print_notes.specs.Safe.{begins_dash, is_tied, stays_in_line, ends_a_line, is_fixed, fits, fitting}
use Rattle.print_notes.specs.Spacing.{Place, place_before, place_at_end, next_line, is_closing, is_empty_braces, some_lines_from, Form, form_of, Space, Tight, Blank, Lines, times, space_text, first_space, next_space, last_space}
use Rattle.print_notes.specs.Woven as spec
use Rattle.print_notes_laws.specs.Characters.{token_chars, remark_chars, looks_chars, IsTokenText, AreTokenTexts, AreRemarkTexts, IsLookText, CharactersWoven}

-- ---- bytes, and the characters that they are

record Spells (bs cs : List ℕ) : Type 0 where
  utf8 : IsUtf8 bs
  is : chars bs ≡ cs

own_spells : (bs : List ℕ) → IsUtf8 bs → Spells bs (chars bs)
own_spells bs u = record { utf8 = u; is = refl }

none_spells : Spells [] []
none_spells = record { utf8 = IsUtf8-nil; is = chars-nil }

both_spell : (a b c d : List ℕ) → Spells a c → Spells b d → Spells (a ++ b) (c ++ d)
both_spell a b c d h k = record { utf8 = IsUtf8-append a b h.utf8 k.utf8; is = chars-append a b h.utf8 ∙ (ap (λ (z : List ℕ). z ++ chars b) h.is ∙ ap (λ (z : List ℕ). c ++ z) k.is) }

written_out : (cs bs : List ℕ) → scalars cs ≡ true → encodes cs ≡ bs → Spells bs cs
written_out cs bs s e = record { utf8 = (cs, (s, e)); is = sym (chars_from_encodes cs bs (cs, (s, e)) e) }

one_encoded : (c : ℕ) → c < 128 → encodes (c ∷ []) ≡ c ∷ []
one_encoded c h = ap (λ (z : List ℕ). z ++ []) (encode_ascii c h)

blank_spells : Spells (32 ∷ []) (32 ∷ [])
blank_spells = written_out (32 ∷ []) (32 ∷ []) refl (one_encoded 32 (omega arith))

slash_spells : Spells (47 ∷ []) (47 ∷ [])
slash_spells = written_out (47 ∷ []) (47 ∷ []) refl (one_encoded 47 (omega arith))

star_spells : Spells (42 ∷ []) (42 ∷ [])
star_spells = written_out (42 ∷ []) (42 ∷ []) refl (one_encoded 42 (omega arith))

slashes_spell : Spells (47 ∷ 47 ∷ []) (47 ∷ 47 ∷ [])
slashes_spell = both_spell (47 ∷ []) (47 ∷ []) (47 ∷ []) (47 ∷ []) slash_spells slash_spells

opening_spells : Spells (47 ∷ 42 ∷ []) (47 ∷ 42 ∷ [])
opening_spells = both_spell (47 ∷ []) (42 ∷ []) (47 ∷ []) (42 ∷ []) slash_spells star_spells

closing_spells : Spells (42 ∷ 47 ∷ []) (42 ∷ 47 ∷ [])
closing_spells = both_spell (42 ∷ []) (47 ∷ []) (42 ∷ []) (47 ∷ []) star_spells slash_spells

-- ---- spaces and comments

times_spell : (n : ℕ) (a c : List ℕ) → Spells a c → Spells (times n a) (times n c)
times_spell zero a c h = none_spells
times_spell (suc n) a c h = both_spell a (times n a) c (times n c) h (times_spell n a c h)

chosen_spells : (b : Bool) (x y c d : List ℕ) → Spells x c → Spells y d → Spells (if b then x else y) (if b then c else d)
chosen_spells true x y c d h k = h
chosen_spells false x y c d h k = k

space_spells : (l : Looks) (indent : List ℕ) (s : Space) → IsLookText l → IsUtf8 indent → Spells (space_text l indent s) (space_text (looks_chars l) (chars indent) s)
space_spells l indent Tight k u = none_spells
space_spells l indent Blank k u = blank_spells
space_spells l indent (Lines n d) k u =
    both_spell (times n l.line_end) (indent ++ (if d then l.step else [])) (times n (chars l.line_end)) (chars indent ++ (if d then chars l.step else []))
    (times_spell n l.line_end (chars l.line_end) (own_spells l.line_end k.line_end))
    (both_spell indent (if d then l.step else []) (chars indent) (if d then chars l.step else []) (own_spells indent u) (chosen_spells d l.step [] (chars l.step) [] (own_spells l.step k.step) none_spells))

comment_spells : (r : Remark) → IsUtf8 r.text → Spells (spec.comment_text r) (spec.comment_text (remark_chars r))
comment_spells r u =
    chosen_spells r.is_line (47 ∷ 47 ∷ r.text) (47 ∷ 42 ∷ (r.text ++ 42 ∷ 47 ∷ [])) (47 ∷ 47 ∷ chars r.text) (47 ∷ 42 ∷ (chars r.text ++ 42 ∷ 47 ∷ []))
    (both_spell (47 ∷ 47 ∷ []) r.text (47 ∷ 47 ∷ []) (chars r.text) slashes_spell (own_spells r.text u))
    (both_spell (47 ∷ 42 ∷ []) (r.text ++ 42 ∷ 47 ∷ []) (47 ∷ 42 ∷ []) (chars r.text ++ 42 ∷ 47 ∷ []) opening_spells
    (both_spell r.text (42 ∷ 47 ∷ []) (chars r.text) (42 ∷ 47 ∷ []) (own_spells r.text u) closing_spells))

-- a place, with the characters of its indentation
abbrev pub place_chars : Place → Place
place_chars p = record p { indent = chars p.indent }

behind_spells : (l : Looks) (p : Place) (f : Form) (q : Remark) (rs : List Remark) → IsLookText l → IsUtf8 p.indent → AreRemarkTexts rs
    → Spells (spec.behind_comment l p f q rs) (spec.behind_comment (looks_chars l) (place_chars p) f (remark_chars q) (map remark_chars rs))
behind_spells l p f q [] k u a = space_spells l p.indent (last_space l p f q) k u
behind_spells l p f q (r ∷ rs) k u a =
    both_spell (space_text l p.indent (next_space l p f q r)) (spec.comment_text r ++ spec.behind_comment l p f r rs)
    (space_text (looks_chars l) (chars p.indent) (next_space l p f q r)) (spec.comment_text (remark_chars r) ++ spec.behind_comment (looks_chars l) (place_chars p) f (remark_chars r) (map remark_chars rs))
    (space_spells l p.indent (next_space l p f q r) k u)
    (both_spell (spec.comment_text r) (spec.behind_comment l p f r rs) (spec.comment_text (remark_chars r)) (spec.behind_comment (looks_chars l) (place_chars p) f (remark_chars r) (map remark_chars rs))
    (comment_spells r a.0) (behind_spells l p f r rs k u a.1))

some_so : (ends : Bool) (rs : List Remark) → some_lines_from ends (map remark_chars rs) ≡ some_lines_from ends rs
some_so ends [] = refl
some_so ends (r ∷ rs) = ap (λ (b : Bool). nat_lt 0 r.lines || b) (some_so (r.is_line || nat_lt 0 r.behind) rs)

-- the form, where some line ends or not
with_some : Place → Bool → Form
with_some p some = record {
  lined = p.breaks || (not p.stays && (p.first || (p.last || (is_empty_braces p && some))));
  leads = (p.behind == shebang_kind) || (is_empty_braces p || (not (is_closing p.next) && not some));
}

form_so : (p : Place) (rs : List Remark) → form_of (place_chars p) (map remark_chars rs) ≡ form_of p rs
unfolding with_some
form_so p rs = ap (λ (b : Bool). with_some p b) (some_so false rs)

noted_spells : (l : Looks) (p : Place) (r : Remark) (rs : List Remark) → IsLookText l → IsUtf8 p.indent → IsUtf8 r.text → AreRemarkTexts rs
    → Spells (spec.noted_gap l p (form_of p (r ∷ rs)) r rs) (spec.noted_gap (looks_chars l) (place_chars p) (form_of (place_chars p) (map remark_chars (r ∷ rs))) (remark_chars r) (map remark_chars rs))
noted_spells l p r rs k u a as_ =
    let f = form_of p (r ∷ rs) in
    subst (λ (g : Form). Spells (spec.noted_gap l p f r rs) (spec.noted_gap (looks_chars l) (place_chars p) g (remark_chars r) (map remark_chars rs))) (sym (form_so p (r ∷ rs)))
    (both_spell (space_text l p.indent (first_space l p f r)) (spec.comment_text r ++ spec.behind_comment l p f r rs)
    (space_text (looks_chars l) (chars p.indent) (first_space l p f r)) (spec.comment_text (remark_chars r) ++ spec.behind_comment (looks_chars l) (place_chars p) f (remark_chars r) (map remark_chars rs))
    (space_spells l p.indent (first_space l p f r) k u)
    (both_spell (spec.comment_text r) (spec.behind_comment l p f r rs) (spec.comment_text (remark_chars r)) (spec.behind_comment (looks_chars l) (place_chars p) f (remark_chars r) (map remark_chars rs))
    (comment_spells r a) (behind_spells l p f r rs k u as_)))

-- ---- what begins with `-`

dash_by : (bs cs : List ℕ) → encodes cs ≡ bs → begins_dash cs ≡ begins_dash bs
dash_by bs [] e = ap begins_dash e
dash_by bs (c ∷ cs) e = ⊎_elim
    (λ (y : (c == 45) ≡ true).
    let k : c ≡ 45 = eqb-true c 45 y in
    let one : encodes (c ∷ cs) ≡ 45 ∷ encodes cs = ap (λ (d : ℕ). encode d ++ encodes cs) k ∙ ap (λ (z : List ℕ). z ++ encodes cs) (encode_ascii 45 (omega arith)) in
    y ∙ sym (ap begins_dash (sym e ∙ one)))
    (λ (n : (c == 45) ≡ false). n ∙ sym (other bs e n))
    (cases_Bool (c == 45))
  where
    other : (bs : List ℕ) → encodes (c ∷ cs) ≡ bs → (c == 45) ≡ false → begins_dash bs ≡ false
    other [] e n = refl
    other (b ∷ bs) e n = ⊎_elim
        (λ (y : (b == 45) ≡ true).
        let k : b ≡ 45 = eqb-true b 45 y in
        let less : b < 128 = omega (arith, k) in
        let same : c ≡ b = char_from_byte (b ∷ bs) (encodes cs) c (sym e) less (omega arith) in
        absurd (false≢true (sym n ∙ ap (λ (d : ℕ). d == 45) (same ∙ k))))
        (λ (m : (b == 45) ≡ false). m)
        (cases_Bool (b == 45))

dash_so : (bs : List ℕ) → IsUtf8 bs → begins_dash (chars bs) ≡ begins_dash bs
dash_so bs u = ap begins_dash (sym (chars_from_encodes u.0 bs u u.1.1)) ∙ dash_by bs u.0 u.1.1

stays_so : (behind : ℕ) (t : LaidToken) → IsTokenText t → stays_in_line behind (token_chars t) ≡ stays_in_line behind t
stays_so behind t h = ap (λ (b : Bool). b || (not (behind == end_kind) && (is_tied behind t.kind || (t.kind == semicolon_kind)))) (dash_so t.own h.own)

safe_so : (gap behind : ℕ) (t : LaidToken) (r : Remark) → IsTokenText t → fits gap behind (token_chars t) (remark_chars r) ≡ fits gap behind t r
safe_so gap behind t r h = ap (λ (b : Bool). nat_le r.gap gap && (not (is_fixed behind t) && (t.breaks || (not (ends_a_line r) || not b)))) (stays_so behind t h)

fitting_so : (gap behind : ℕ) (t : LaidToken) (rs : List Remark) → IsTokenText t → fitting gap behind (token_chars t) (map remark_chars rs) ≡ fitting gap behind t rs
fitting_so gap behind t [] h = refl
fitting_so gap behind t (r ∷ rs) h =
    ap (λ (b : Bool). if b then fitting gap behind (token_chars t) (map remark_chars rs) + 1 else 0) (safe_so gap behind t r h)
    ∙ ap (λ (n : ℕ). if fits gap behind t r then n + 1 else 0) (fitting_so gap behind t rs h)

-- ---- all gaps

chosen_chars : (b : Bool) (x y : List ℕ) → (if b then chars x else chars y) ≡ chars (if b then x else y)
chosen_chars true x y = refl
chosen_chars false x y = refl

chosen_utf8 : (b : Bool) (x y : List ℕ) → IsUtf8 x → IsUtf8 y → IsUtf8 (if b then x else y)
chosen_utf8 true x y h k = h
chosen_utf8 false x y h k = k

place_so : (behind : ℕ) (line : List ℕ) (t : LaidToken) → IsTokenText t → place_before behind (chars line) (token_chars t) ≡ place_chars (place_before behind line t)
place_so behind line t h =
    ap (λ (b : Bool). record (place_before behind (chars line) (token_chars t)) { stays = b }) (stays_so behind t h)
    ∙ ap (λ (z : List ℕ). record (place_before behind line t) { indent = z }) (chosen_chars t.breaks t.indent line)

gap_spells : (l : Looks) (p : Place) (t : LaidToken) (rs : List Remark) → IsLookText l → IsUtf8 p.indent → IsTokenText t → AreRemarkTexts rs
    → Spells (spec.gap_before l p t rs) (spec.gap_before (looks_chars l) (place_chars p) (token_chars t) (map remark_chars rs))
gap_spells l p t [] k u h a =
    chosen_spells (spec.is_parted l p t) (space_text l p.indent (Lines 2 false)) t.before (space_text (looks_chars l) (chars p.indent) (Lines 2 false)) (chars t.before)
    (space_spells l p.indent (Lines 2 false) k u) (own_spells t.before h.before)
gap_spells l p t (r ∷ rs) k u h a = noted_spells l p r rs k u a.0 a.1

end_spells : (l : Looks) (behind : ℕ) (tail : List ℕ) (rs : List Remark) → IsLookText l → IsUtf8 tail → AreRemarkTexts rs
    → Spells (spec.gap_at_end l (place_at_end behind) tail rs) (spec.gap_at_end (looks_chars l) (place_at_end behind) (chars tail) (map remark_chars rs))
end_spells l behind tail [] k u a = own_spells tail u
end_spells l behind tail (r ∷ rs) k u a =
    subst (λ (p : Place). Spells (spec.noted_gap l (place_at_end behind) (form_of (place_at_end behind) (r ∷ rs)) r rs) (spec.noted_gap (looks_chars l) p (form_of p (map remark_chars (r ∷ rs))) (remark_chars r) (map remark_chars rs)))
    (ap (λ (z : List ℕ). record (place_at_end behind) { indent = z }) chars-nil) (noted_spells l (place_at_end behind) r rs k IsUtf8-nil a.0 a.1)

taken_texts : (n : ℕ) (rs : List Remark) → AreRemarkTexts rs → AreRemarkTexts (take n rs)
taken_texts zero rs a = tt
taken_texts (suc n) [] a = tt
taken_texts (suc n) (r ∷ rs) a = (a.0, taken_texts n rs a.1)

left_texts : (n : ℕ) (rs : List Remark) → AreRemarkTexts rs → AreRemarkTexts (drop n rs)
left_texts zero rs a = a
left_texts (suc n) [] a = tt
left_texts (suc n) (r ∷ rs) a = left_texts n rs a.1

woven_spells : (l : Looks) (line : List ℕ) (behind gap : ℕ) (ts : List LaidToken) (tail : List ℕ) (rs : List Remark) → IsLookText l → IsUtf8 line → AreTokenTexts ts → IsUtf8 tail → AreRemarkTexts rs
    → Spells (spec.woven_from l line behind gap ts tail rs) (spec.woven_from (looks_chars l) (chars line) behind gap (map token_chars ts) (chars tail) (map remark_chars rs))
woven_spells l line behind gap [] tail rs k u h v a = end_spells l behind tail rs k v a
woven_spells l line behind gap (t ∷ ts) tail rs k u h v a =
    let n = fitting gap behind t rs in
    let p = place_before behind line t in
    let next = next_line line t in
    let w = chosen_utf8 t.breaks t.indent line h.0.indent u in
    let here = spec.gap_before l p t (take n rs) in
    let more = spec.woven_from l next t.kind (gap + 1) ts tail (drop n rs) in
    let here_chars = spec.gap_before (looks_chars l) (place_chars p) (token_chars t) (map remark_chars (take n rs)) in
    let more_chars = spec.woven_from (looks_chars l) (chars next) t.kind (gap + 1) (map token_chars ts) (chars tail) (map remark_chars (drop n rs)) in
    let all = both_spell here (t.own ++ more) here_chars (chars t.own ++ more_chars) (gap_spells l p t (take n rs) k w h.0 (taken_texts n rs a))
    (both_spell t.own more (chars t.own) more_chars (own_spells t.own h.0.own) (woven_spells l next t.kind (gap + 1) ts tail (drop n rs) k w h.1 v (left_texts n rs a))) in
    record { utf8 = all.utf8; is = all.is ∙ sym (at_once l line behind gap t ts tail rs h.0) }
  where
    -- the same with the characters of each
    at_once : (l : Looks) (line : List ℕ) (behind gap : ℕ) (t : LaidToken) (ts : List LaidToken) (tail : List ℕ) (rs : List Remark) → IsTokenText t
        → spec.woven_from (looks_chars l) (chars line) behind gap (token_chars t ∷ map token_chars ts) (chars tail) (map remark_chars rs)
        ≡ spec.gap_before (looks_chars l) (place_chars (place_before behind line t)) (token_chars t) (map remark_chars (take (fitting gap behind t rs) rs))
        ++ (chars t.own ++ spec.woven_from (looks_chars l) (chars (next_line line t)) t.kind (gap + 1) (map token_chars ts) (chars tail) (map remark_chars (drop (fitting gap behind t rs) rs)))
    at_once l line behind gap t ts tail rs h =
        let n = fitting gap behind t rs in
        let cs = map remark_chars rs in
        ap (λ (k : ℕ). spec.gap_before (looks_chars l) (place_before behind (chars line) (token_chars t)) (token_chars t) (take k cs)
        ++ (chars t.own ++ spec.woven_from (looks_chars l) (next_line (chars line) (token_chars t)) t.kind (gap + 1) (map token_chars ts) (chars tail) (drop k cs))) (fitting_so gap behind t rs h)
        ∙ (ap (λ (z : List Remark). spec.gap_before (looks_chars l) (place_before behind (chars line) (token_chars t)) (token_chars t) z
        ++ (chars t.own ++ spec.woven_from (looks_chars l) (next_line (chars line) (token_chars t)) t.kind (gap + 1) (map token_chars ts) (chars tail) (drop n cs))) (take-map remark_chars n rs)
        ∙ (ap (λ (z : List Remark). spec.gap_before (looks_chars l) (place_before behind (chars line) (token_chars t)) (token_chars t) (map remark_chars (take n rs))
        ++ (chars t.own ++ spec.woven_from (looks_chars l) (next_line (chars line) (token_chars t)) t.kind (gap + 1) (map token_chars ts) (chars tail) z)) (drop-map remark_chars n rs)
        ∙ (ap (λ (p : Place). spec.gap_before (looks_chars l) p (token_chars t) (map remark_chars (take n rs))
        ++ (chars t.own ++ spec.woven_from (looks_chars l) (next_line (chars line) (token_chars t)) t.kind (gap + 1) (map token_chars ts) (chars tail) (map remark_chars (drop n rs)))) (place_so behind line t h)
        ∙ ap (λ (z : List ℕ). spec.gap_before (looks_chars l) (place_chars (place_before behind line t)) (token_chars t) (map remark_chars (take n rs))
        ++ (chars t.own ++ spec.woven_from (looks_chars l) z t.kind (gap + 1) (map token_chars ts) (chars tail) (map remark_chars (drop n rs)))) (chosen_chars t.breaks t.indent line))))

no_bytes : (c : ℕ) (cs : List ℕ) → encodes (c ∷ cs) ≡ [] → ⊥
no_bytes c cs e =
    let a : length (encode c ++ encodes cs) ≡ 0 = ap (λ (z : List ℕ). length z) e in
    let b = length-append (encode c) (encodes cs) in
    let d = length-encode c in
    let g = (len_utf8_bounds c).0 in
    omega (arith, a, b, d, g)

pub characters_woven : CharactersWoven
characters_woven l lead ts tail rs k u h v a =
    let behind = spec.kind_of_lead lead in
    let all = both_spell lead (spec.woven_from l [] behind 0 ts tail rs) (chars lead) (spec.woven_from (looks_chars l) (chars []) behind 0 (map token_chars ts) (chars tail) (map remark_chars rs)) (own_spells lead u)
    (woven_spells l [] behind 0 ts tail rs k IsUtf8-nil h v a) in (
      all.utf8,
      all.is
          ∙ (ap (λ (z : List ℕ). chars lead ++ spec.woven_from (looks_chars l) z behind 0 (map token_chars ts) (chars tail) (map remark_chars rs)) none_spells.is
          ∙ ap (λ (b : ℕ). chars lead ++ spec.woven_from (looks_chars l) [] b 0 (map token_chars ts) (chars tail) (map remark_chars rs)) (sym (lead_so lead u))),
    )
  where
    by : (bs cs : List ℕ) → encodes cs ≡ bs → spec.kind_of_lead cs ≡ spec.kind_of_lead bs
    by bs [] e = ap spec.kind_of_lead e
    by [] (c ∷ cs) e = absurd (no_bytes c cs e)
    by (b ∷ bs) (c ∷ cs) e = refl

    lead_so : (bs : List ℕ) → IsUtf8 bs → spec.kind_of_lead (chars bs) ≡ spec.kind_of_lead bs
    lead_so bs u = ap spec.kind_of_lead (sym (chars_from_encodes u.0 bs u u.1.1)) ∙ by bs u.0 u.1.1
