-- Comments that are written stand where they may.
use Rattle.std.proofs.Common.{◌≡◌, ℕ, zero, suc, ◌+◌, inl, inr, ⊎_elim, Bool, true, false, not, ◌&&◌, ◌||◌, if◌then◌else◌, List, [], ◌∷◌, ◌++◌, take, drop, refl, sym, ap, subst, ◌∙◌, arith}
use Rattle.std.specs.Prelude.{◌==◌, nat_le}
use Rattle.std.proofs.lemmas.Bool.{cases_Bool, false≢true, true≢false, eqb-true, and_parts, not-true}
use Rattle.base_proofs.proofs.Bools.{and_false, or_first, or_second}
use Rattle.base_token.specs.Kinds.{end_kind, div_kind, semicolon_kind, shebang_kind}
use Rattle.lex_pieces.specs.Characters.{is_white_space}
use Rattle.lex_pieces.specs.Runs.{Each}
use Rattle.lex_pieces.specs.declared.trivia.Goal.TheVariants.{Module}
use Rattle.print_weave_laws.specs.Gaps.{Trivium, White, Feed, Return, Block, Line, breaks_line, ends_line, AreTrivia}
use Rattle.print_weave_laws.specs.Cells.{Cell, is_inner, is_no_dash, parts, MayStand, MayEnd, AllMayStand, at_front, woven}
use Rattle.print_notes.specs.Slots.{LaidToken, Remark, Looks}
use Rattle.print_notes.specs.Safe.{is_tied, touch, begins_dash, stays_in_line, ends_a_line, is_fixed, is_safe, fits, fitting}
use Rattle.print_notes.specs.Spacing.{place_before, place_at_end, next_line, is_opening, is_closing, form_of, Lines, first_space}
use Rattle.print_notes.specs.Woven as spec
use Rattle.print_notes_laws.specs.Trivia.{space_trivia, behind_trivia, noted_trivia, gap_trivia, end_trivia, gaps_of, over_of}
use Rattle.print_notes_laws.specs.Laws.{IsLook, IsToken, IsOpen, AreTokens, AreRemarks, LeadEnds, IsKept, AreKept, NotesStand}
use Rattle.print_notes_laws.proofs.Texts.{all_said, notes_said}
use Rattle.print_notes_laws.proofs.Spaces.{space_are, space_parts, noted_are, all_there}
use Rattle.print_notes_laws.proofs.Places.{first_fine, first_tight, noted_breaks, noted_leads, noted_still, NoneEnds}

-- ---- what fits

abbrev pub AllFit : ℕ → ℕ → LaidToken → List Remark → Type 0
AllFit gap behind t [] = Unit {0}
AllFit gap behind t (r ∷ rs) = (fits gap behind t r ≡ true) × AllFit gap behind t rs

taken_fit : (gap behind : ℕ) (t : LaidToken) (rs : List Remark) → AllFit gap behind t (take (fitting gap behind t rs) rs)
taken_fit gap behind t [] = tt
taken_fit gap behind t (r ∷ rs) = ⊎_elim
    (λ (y : fits gap behind t r ≡ true).
    let one : fitting gap behind t rs + 1 ≡ suc (fitting gap behind t rs) = omega arith in
    let e : fitting gap behind t (r ∷ rs) ≡ suc (fitting gap behind t rs) = ap (λ (b : Bool). if b then fitting gap behind t rs + 1 else 0) y ∙ one in
    subst (λ (n : ℕ). AllFit gap behind t (take n (r ∷ rs))) (sym e) (y, taken_fit gap behind t rs))
    (λ (n : fits gap behind t r ≡ false).
    let e : fitting gap behind t (r ∷ rs) ≡ 0 = ap (λ (b : Bool). if b then fitting gap behind t rs + 1 else 0) n in
    subst (λ (n : ℕ). AllFit gap behind t (take n (r ∷ rs))) (sym e) tt)
    (cases_Bool (fits gap behind t r))

taken_are : (n : ℕ) (rs : List Remark) → AreRemarks rs → AreRemarks (take n rs)
taken_are zero rs a = tt
taken_are (suc n) [] a = tt
taken_are (suc n) (r ∷ rs) a = (a.0, taken_are n rs a.1)

left_are : (n : ℕ) (rs : List Remark) → AreRemarks rs → AreRemarks (drop n rs)
left_are zero rs a = a
left_are (suc n) [] a = tt
left_are (suc n) (r ∷ rs) a = left_are n rs a.1

safe_of : (gap behind : ℕ) (t : LaidToken) (r : Remark) → fits gap behind t r ≡ true → is_safe behind t r ≡ true
safe_of gap behind t r e = (and_parts (nat_le r.gap gap) (is_safe behind t r) e).1

free_of : (behind : ℕ) (t : LaidToken) (r : Remark) → is_safe behind t r ≡ true → is_fixed behind t ≡ false
free_of behind t r e = not-true (is_fixed behind t) (and_parts (not (is_fixed behind t)) (t.breaks || (not (ends_a_line r) || not (stays_in_line behind t))) e).0

quiet_by : (breaks ends stays : Bool) → (breaks || (not ends || not stays)) ≡ true → breaks ≡ false → stays ≡ true → ends ≡ false
quiet_by true ends stays e b s = absurd (true≢false b)
quiet_by false true true e b s = absurd (false≢true e)
quiet_by false true false e b s = absurd (false≢true s)
quiet_by false false stays e b s = refl

none_ends : (gap behind : ℕ) (t : LaidToken) (rs : List Remark) → AllFit gap behind t rs → t.breaks ≡ false → stays_in_line behind t ≡ true → NoneEnds rs
none_ends gap behind t [] f b s = tt
none_ends gap behind t (r ∷ rs) f b s = (
  quiet_by t.breaks (ends_a_line r) (stays_in_line behind t) (and_parts (not (is_fixed behind t)) (t.breaks || (not (ends_a_line r) || not (stays_in_line behind t))) (safe_of gap behind t r f.0)).1 b s,
  none_ends gap behind t rs f.1 b s,
)

-- ---- one gap

record Stands (behind : ℕ) (own : List ℕ) (t : LaidToken) (x : Cell) (us : List Trivium) : Type 0 where
  may : MayStand own x us
  kept : IsKept behind t x us

indent_are : (b : Bool) (a c : List ℕ) → Each is_white_space a → Each is_white_space c → Each is_white_space (if b then a else c)
indent_are true a c h k = h
indent_are false a c h k = k

no_dash : (own : List ℕ) → begins_dash own ≡ false → is_no_dash own ≡ true
no_dash [] e = refl
no_dash (c ∷ cs) e = ap not e

untied : (start tied other : Bool) → (not start && (tied || other)) ≡ false → start ≡ false → tied ≡ true → ⊥
untied true tied other e s t = true≢false s
untied false true other e s t = true≢false e
untied false false other e s t = false≢true t

start_no_div : (behind : ℕ) (b : Bool) → ((behind == end_kind) && b) ≡ true → (behind == div_kind) ≡ false
start_no_div behind b e = ap (λ (k : ℕ). k == div_kind) (eqb-true behind end_kind (and_parts (behind == end_kind) b e).0)

-- comments that fit
comments_stand : (crlf : Bool) (l : Looks) (line own : List ℕ) (behind gap : ℕ) (t : LaidToken) (x : Cell) (r : Remark) (rs : List Remark) → IsLook crlf l → Each is_white_space line
    → IsToken t x → (t.closed ≡ false → IsOpen behind own) → AreRemarks (r ∷ rs) → AllFit gap behind t (r ∷ rs)
    → Stands behind own t x (noted_trivia crlf l (place_before behind line t) (form_of (place_before behind line t) (r ∷ rs)) r rs)
comments_stand crlf l line own behind gap t x r rs k w tok may a fit =
    let p = place_before behind line t in
    let f = form_of p (r ∷ rs) in
    let us = noted_trivia crlf l p f r rs in
    let fixed = free_of behind t r (safe_of gap behind t r fit.0) in
    let shut : t.closed ≡ false = or_first t.closed (touch behind t.kind) fixed in
    let apart : touch behind t.kind ≡ false = or_second t.closed (touch behind t.kind) fixed in
    let inner : is_inner x.goal ≡ false = sym tok.closed ∙ shut in
    let are : AreTrivia Module false false us = noted_are crlf l p f r rs false false k (indent_are t.breaks t.indent line tok.indent w) a.0 a.1 in
    let off : parts own us ≡ true =
    space_parts crlf l p.indent (first_space l p f r) r.is_line own r.text (behind_trivia crlf l p f r rs) (first_fine l p f r)
    (λ h. may shut (first_tight l p f r (λ g. start_no_div behind (not t.breaks) g) h)) in
    let touches : touch behind t.kind ≡ true → us ≡ x.before = λ h. absurd (true≢false (sym h ∙ apart)) in
    ⊎_elim
    (λ (b : t.breaks ≡ true).
    let first : p.first ≡ false = ap (λ (z : Bool). (behind == end_kind) && not z) b ∙ and_false (behind == end_kind) in
    let same : breaks_line us ≡ breaks_line x.before = noted_breaks crlf l p r rs b first ∙ (sym b ∙ tok.breaks) in
    record { may = inr (inner, inr (are, off, inl same)); kept = record { line = λ g h. same; start = λ g. sym same ∙ g; touches = touches } })
    (λ (b : t.breaks ≡ false). ⊎_elim
    (λ (s : stays_in_line behind t ≡ true).
    let same : breaks_line us ≡ breaks_line x.before = noted_still crlf l p r rs b s a.0 a.1 (none_ends gap behind t (r ∷ rs) fit b s) ∙ (sym b ∙ tok.breaks) in
    record { may = inr (inner, inr (are, off, inl same)); kept = record { line = λ g h. same; start = λ g. sym same ∙ g; touches = touches } })
    (λ (s : stays_in_line behind t ≡ false).
    let dash : is_no_dash x.own ≡ true = subst (λ (z : List ℕ). is_no_dash z ≡ true) tok.own (no_dash t.own (or_first (begins_dash t.own) (not (behind == end_kind) && (is_tied behind t.kind || (t.kind == semicolon_kind))) s)) in
    record {
      may = inr (inner, inr (are, off, inr dash));
      kept = record {
        line = λ g h. absurd (untied (behind == end_kind) (is_tied behind t.kind) (t.kind == semicolon_kind) (or_second (begins_dash t.own) (not (behind == end_kind) && (is_tied behind t.kind || (t.kind == semicolon_kind))) s) g h);
        start = λ g. sym tok.breaks ∙ b;
        touches = touches;
      };
    })
    (cases_Bool (stays_in_line behind t)))
    (cases_Bool t.breaks)

parted_apart : (crlf : Bool) (l : Looks) (indent own : List ℕ) → parts own (space_trivia crlf l indent (Lines 2 false)) ≡ true
parted_apart true l indent own = refl
parted_apart false l indent own = refl

parted_breaks : (crlf : Bool) (l : Looks) (indent : List ℕ) → breaks_line (space_trivia crlf l indent (Lines 2 false)) ≡ true
parted_breaks true l indent = refl
parted_breaks false l indent = refl

parted_ends : (crlf : Bool) (l : Looks) (indent : List ℕ) → ends_line false (space_trivia crlf l indent (Lines 2 false)) ≡ true
parted_ends true l indent = refl
parted_ends false l indent = refl

-- no comment, with an empty line or without
plain_stands : (crlf : Bool) (l : Looks) (line own : List ℕ) (behind : ℕ) (t : LaidToken) (x : Cell) (b : Bool) → IsLook crlf l → Each is_white_space line → IsToken t x → spec.is_parted l (place_before behind line t) t ≡ b
    → Stands behind own t x (if b then space_trivia crlf l (next_line line t) (Lines 2 false) else x.before)
plain_stands crlf l line own behind t x false k w tok e = record { may = inl refl; kept = record { line = λ g h. refl; start = λ g. g; touches = λ h. refl } }
plain_stands crlf l line own behind t x true k w tok e =
    let p = place_before behind line t in
    let other = is_opening p.behind || (is_closing p.next || (p.behind == end_kind)) in
    let in_lines = (and_parts (not l.minify) ((t.breaks && t.parted) && not (is_fixed p.behind t || other)) e).1 in
    let z = and_parts (t.breaks && t.parted) (not (is_fixed p.behind t || other)) in_lines in
    let b : t.breaks ≡ true = (and_parts t.breaks t.parted z.0).0 in
    let fixed : is_fixed behind t ≡ false = or_first (is_fixed behind t) other (not-true (is_fixed behind t || other) z.1) in
    let us = space_trivia crlf l (next_line line t) (Lines 2 false) in
    let same : breaks_line us ≡ breaks_line x.before = parted_breaks crlf l (next_line line t) ∙ (sym b ∙ tok.breaks) in
    let are : AreTrivia Module false false us =
    subst (λ (v : List Trivium). AreTrivia Module false false v) (all_there us) (space_are crlf l (next_line line t) (Lines 2 false) false false [] k (indent_are t.breaks t.indent line tok.indent w) tt) in
    record {
      may = inr (sym tok.closed ∙ or_first t.closed (touch behind t.kind) fixed, inr (are, parted_apart crlf l (next_line line t) own, inl same));
      kept = record { line = λ g h. same; start = λ g. sym same ∙ g; touches = λ h. absurd (true≢false (sym h ∙ or_second t.closed (touch behind t.kind) fixed)) };
    }

gap_stands : (crlf : Bool) (l : Looks) (line own : List ℕ) (behind gap : ℕ) (t : LaidToken) (x : Cell) (rs : List Remark) → IsLook crlf l → Each is_white_space line
    → IsToken t x → (t.closed ≡ false → IsOpen behind own) → AreRemarks rs → AllFit gap behind t rs → Stands behind own t x (gap_trivia crlf l (place_before behind line t) t x.before rs)
gap_stands crlf l line own behind gap t x [] k w tok may a fit = plain_stands crlf l line own behind t x (spec.is_parted l (place_before behind line t) t) k w tok refl
gap_stands crlf l line own behind gap t x (r ∷ rs) k w tok may a fit = comments_stand crlf l line own behind gap t x r rs k w tok may a fit

end_stands : (crlf : Bool) (l : Looks) (own : List ℕ) (behind : ℕ) (tail : List Trivium) (rs : List Remark) → IsLook crlf l → IsOpen behind own → AreRemarks rs → MayEnd own tail (end_trivia crlf l (place_at_end behind) tail rs)
end_stands crlf l own behind tail [] k may a = inl refl
end_stands crlf l own behind tail (r ∷ rs) k may a =
    let p = place_at_end behind in
    let f = form_of p (r ∷ rs) in
    inr (inr (
      noted_are crlf l p f r rs false true k tt a.0 a.1,
      space_parts crlf l p.indent (first_space l p f r) r.is_line own r.text (behind_trivia crlf l p f r rs) (first_fine l p f r)
          (λ h. may (first_tight l p f r (λ g. ap (λ (n : ℕ). n == div_kind) (eqb-true behind end_kind g)) h)),
    ))

-- ---- all of them

record AllStand (behind : ℕ) (own : List ℕ) (ts : List LaidToken) (xs : List Cell) (gaps : List (List Trivium)) (tail over : List Trivium) : Type 0 where
  stand : AllMayStand own xs gaps tail over
  kept : AreKept behind ts xs gaps

all_stand : (crlf : Bool) (l : Looks) (line own : List ℕ) (behind gap : ℕ) (ts : List LaidToken) (xs : List Cell) (tail : List Trivium) (rs : List Remark) → IsLook crlf l → Each is_white_space line
    → AreTokens behind own ts xs → AreRemarks rs → AllStand behind own ts xs (gaps_of crlf l line behind gap ts xs rs) tail (over_of crlf l behind gap ts tail rs)
all_stand crlf l line own behind gap [] [] tail rs k w a r = record { stand = end_stands crlf l own behind tail rs k a r; kept = tt }
all_stand crlf l line own behind gap [] (x ∷ xs) tail rs k w a r = absurd a
all_stand crlf l line own behind gap (t ∷ ts) [] tail rs k w a r = absurd a
all_stand crlf l line own behind gap (t ∷ ts) (x ∷ xs) tail rs k w a r =
    let n = fitting gap behind t rs in
    let one = gap_stands crlf l line own behind gap t x (take n rs) k w a.0 a.1 (taken_are n rs r) (taken_fit gap behind t rs) in
    let more = all_stand crlf l (next_line line t) x.own t.kind (gap + 1) ts xs tail (drop n rs) k (indent_are t.breaks t.indent line a.0.indent w) a.2 (left_are n rs r) in
    record { stand = (one.may, more.stand); kept = (one.kept, more.kept) }

-- ---- behind a hashbang

begun : (us : List Trivium) → ends_line false us ≡ true → breaks_line us ≡ true
begun [] e = absurd (false≢true e)
begun (White c ∷ us) e = absurd (false≢true e)
begun (Feed c ∷ us) e = refl
begun (Return ∷ us) e = refl
begun (Block own ∷ us) e = absurd (false≢true e)
begun (Line mark own ∷ us) e = absurd (false≢true e)

plain_leads : (b crlf : Bool) (l : Looks) (indent : List ℕ) (us : List Trivium) → ends_line false us ≡ true → ends_line false (if b then space_trivia crlf l indent (Lines 2 false) else us) ≡ true
plain_leads true crlf l indent us e = parted_ends crlf l indent
plain_leads false crlf l indent us e = e

gap_leads : (crlf : Bool) (l : Looks) (line : List ℕ) (t : LaidToken) (x : Cell) (rs : List Remark) → IsToken t x → ends_line false x.before ≡ true
    → ends_line false (gap_trivia crlf l (place_before shebang_kind line t) t x.before rs) ≡ true
gap_leads crlf l line t x [] tok e = plain_leads (spec.is_parted l (place_before shebang_kind line t) t) crlf l (next_line line t) x.before e
gap_leads crlf l line t x (r ∷ rs) tok e = noted_leads crlf l (place_before shebang_kind line t) r rs false (tok.breaks ∙ begun x.before e) refl refl

end_leads : (crlf : Bool) (l : Looks) (tail : List Trivium) (rs : List Remark) → ends_line true tail ≡ true → ends_line true (end_trivia crlf l (place_at_end shebang_kind) tail rs) ≡ true
end_leads crlf l tail [] e = e
end_leads crlf l tail (r ∷ rs) e = noted_leads crlf l (place_at_end shebang_kind) r rs true refl refl refl

all_lead : (crlf : Bool) (l : Looks) (lead : List ℕ) (ts : List LaidToken) (xs : List Cell) (tail : List Trivium) (rs : List Remark) → AreTokens (spec.kind_of_lead lead) at_front ts xs → LeadEnds lead xs tail
    → LeadEnds lead (woven xs (gaps_of crlf l [] (spec.kind_of_lead lead) 0 ts xs rs)) (over_of crlf l (spec.kind_of_lead lead) 0 ts tail rs)
all_lead crlf l [] ts xs tail rs a e = tt
all_lead crlf l (c ∷ cs) [] [] tail rs a e = end_leads crlf l tail rs e
all_lead crlf l (c ∷ cs) [] (x ∷ xs) tail rs a e = absurd a
all_lead crlf l (c ∷ cs) (t ∷ ts) [] tail rs a e = absurd a
all_lead crlf l (c ∷ cs) (t ∷ ts) (x ∷ xs) tail rs a e = gap_leads crlf l [] t x (take (fitting 0 shebang_kind t rs) rs) a.0 e

pub notes_stand : NotesStand
notes_stand crlf l lead ts xs tail rs k a h e r =
    let behind = spec.kind_of_lead lead in
    let all = all_stand crlf l [] at_front behind 0 ts xs tail rs k tt a r in
    record {
      gaps = gaps_of crlf l [] behind 0 ts xs rs;
      over = over_of crlf l behind 0 ts tail rs;
      text = ap (λ (z : List ℕ). lead ++ z) (all_said crlf l [] at_front behind 0 ts xs tail rs k.line_end a);
      stand = all.stand;
      kept = all.kept;
      lead_ends = all_lead crlf l lead ts xs tail rs a e;
      notes_are = notes_said crlf l [] at_front behind 0 ts xs tail rs a h;
    }
