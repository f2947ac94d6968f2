-- How places go on along a text.
use Rattle.std.proofs.Common.{◌≡◌, ℕ, ◌+◌, ◌-◌, ⊎_elim, Bool, true, false, ◌&&◌, ◌||◌, not, List, [], ◌∷◌, ◌++◌, length, length-append, append_assoc, Option, Some, None, refl, sym, ap, ap₂, subst, ◌∙◌, arith}
use Rattle.std.specs.Prelude.{if◌then◌else◌, ◌==◌, nat_le, nat_lt, option_and_then, encode_utf8_all}
use Rattle.std.specs.Char.{len_utf8}
use Rattle.std.specs.List.{list_all}
use Rattle.std.proofs.lemmas.Bool.{cases_Bool, and_parts}
use Rattle.std.proofs.lemmas.Bool.Decides.{nat_tests}
use Rattle.std.proofs.lemmas.List.{append-nil}
use Rattle.std.proofs.lemmas.Str.{length-encode, len_utf8_bounds}
use lib.Utf8.{encode}
use Rattle.base_token.specs.declared.place.LineCol.{LineCol}
use Rattle.print_writers.specs.Lines.{last_place, begins_with_lf, ends_line, units_of, units, further, next_line, after_text}
use Rattle.print_pages_spec.specs.Lines.Lines.{front, back, line_ends, last_line, place_between}
use Rattle.print_pages_spec.specs.Lines.Laws.{is_cut, PlacesGoOn, FrontsEnd}

-- ---- one character further

pub units_append : (xs ys : List ℕ) → units (xs ++ ys) ≡ units xs + units ys
units_append [] ys = omega arith
units_append (x ∷ xs) ys = let e = units_append xs ys in omega (arith, e)

more_lines : (xs : List ℕ) (c : ℕ) (ys : List ℕ) → line_ends (xs ++ c ∷ []) ys ≡ line_ends xs (c ∷ ys) + (if ends_line c ys then 1 else 0)
more_lines [] c ys = omega arith
more_lines (x ∷ xs) c ys =
    let e = more_lines xs c ys in
    let s = append_assoc xs (c ∷ []) ys in
    ap₂ (λ (l : List ℕ) (n : ℕ). (if ends_line x l then 1 else 0) + n) s e ∙ omega arith

-- the columns of the last line, from how many lines end there and in all
col_by : (ends others : ℕ) (whole rest : List ℕ) → ℕ
col_by ends others whole rest = units (if ends + others == 0 then whole else rest)

more_cols : (xs : List ℕ) (c : ℕ) (ys : List ℕ) → units (last_line (xs ++ c ∷ []) ys) ≡ (if ends_line c ys then 0 else units (last_line xs (c ∷ ys)) + units_of c)
more_cols [] c ys = elim (ends_line c ys) as (λ b. units (if (if b then 1 else 0) + 0 == 0 then c ∷ [] else []) ≡ (if b then 0 else 0 + units_of c)) [ true ↦ refl | false ↦ omega arith ]
more_cols (x ∷ xs) c ys =
    let n = line_ends (x ∷ xs) (c ∷ ys) in
    let e : line_ends ((x ∷ xs) ++ c ∷ []) ys ≡ n + (if ends_line c ys then 1 else 0) = more_lines (x ∷ xs) c ys in
    let ih = more_cols xs c ys in
    ap (λ (m : ℕ). units (if m == 0 then x ∷ (xs ++ c ∷ []) else last_line (xs ++ c ∷ []) ys)) e ∙ by (ends_line c ys) n ih
  where
    by : (b : Bool) (n : ℕ) → units (last_line (xs ++ c ∷ []) ys) ≡ (if b then 0 else units (last_line xs (c ∷ ys)) + units_of c)
        → units (if n + (if b then 1 else 0) == 0 then x ∷ (xs ++ c ∷ []) else last_line (xs ++ c ∷ []) ys)
        ≡ (if b then 0 else units (if n == 0 then x ∷ xs else last_line xs (c ∷ ys)) + units_of c)
    by true n h = let z : (n + 1 == 0) ≡ false = grind (arith, nat_tests) in rw z h
    by false n h = ⊎_elim
        (λ (t : (n == 0) ≡ true).
        let z : (n + 0 == 0) ≡ true = grind (arith, nat_tests) in
        let s = units_append xs (c ∷ []) in
        rw (z, t) (omega (arith, s)))
        (λ (f : (n == 0) ≡ false). let z : (n + 0 == 0) ≡ false = grind (arith, nat_tests) in rw (z, f) h)
        (cases_Bool (n == 0))

at : ℕ → ℕ → LineCol
at line col = record { line = line; col = col }

one_more : (xs : List ℕ) (c : ℕ) (ys : List ℕ) → place_between (xs ++ c ∷ []) ys ≡ (if ends_line c ys then at (line_ends xs (c ∷ ys) + 1) 0 else at (line_ends xs (c ∷ ys)) (units (last_line xs (c ∷ ys)) + units_of c))
unfolding at
one_more xs c ys = ap₂ (λ (l k : ℕ). at l k) (more_lines xs c ys) (more_cols xs c ys) ∙ by (ends_line c ys)
  where
    by : (b : Bool) → at (line_ends xs (c ∷ ys) + (if b then 1 else 0)) (if b then 0 else units (last_line xs (c ∷ ys)) + units_of c)
        ≡ (if b then at (line_ends xs (c ∷ ys) + 1) 0 else at (line_ends xs (c ∷ ys)) (units (last_line xs (c ∷ ys)) + units_of c))
    by true = refl
    by false = ap (λ (l : ℕ). at l (units (last_line xs (c ∷ ys)) + units_of c)) (omega arith)

-- ---- within a line, and over its end

-- a character that ends no line
abbrev pub is_inline : ℕ → Bool
is_inline c = not (c == 10 || c == 13)

inline_ends_none : (c : ℕ) (ys : List ℕ) → is_inline c ≡ true → ends_line c ys ≡ false
inline_ends_none c ys e = by (c == 10) (c == 13) (not (begins_with_lf ys)) e
  where
    by : (a b d : Bool) → not (a || b) ≡ true → (a || (b && d)) ≡ false
    by true b d e = absurd cc
    by false true d e = absurd cc
    by false false d e = refl

-- Characters that end no line lie in one.
pub inline_goes_on : (xs ds ys : List ℕ) → list_all is_inline ds ≡ true
    → place_between (xs ++ ds) ys ≡ record { line = (place_between xs (ds ++ ys)).line; col = (place_between xs (ds ++ ys)).col + units ds }
unfolding at
inline_goes_on xs [] ys e = ap (λ (l : List ℕ). place_between l ys) (append-nil xs) ∙ ap (λ n. record { line = line_ends xs ys; col = n }) (omega arith)
inline_goes_on xs (d ∷ ds) ys e =
    let p = and_parts (is_inline d) (list_all is_inline ds) e in
    let here : place_between (xs ++ d ∷ []) (ds ++ ys) ≡ record { line = line_ends xs (d ∷ (ds ++ ys)); col = units (last_line xs (d ∷ (ds ++ ys))) + units_of d } = step xs d (ds ++ ys) (inline_ends_none d (ds ++ ys) p.0) in
    ap (λ (l : List ℕ). place_between l ys) (sym (append_assoc xs (d ∷ []) ds))
    ∙ (inline_goes_on (xs ++ d ∷ []) ds ys p.1
    ∙ (ap (λ (q : LineCol). record { line = q.line; col = q.col + units ds }) here
    ∙ ap (λ n. record { line = line_ends xs (d ∷ (ds ++ ys)); col = n }) (omega arith)))
  where
    step : (xs : List ℕ) (d : ℕ) (zs : List ℕ) → ends_line d zs ≡ false → place_between (xs ++ d ∷ []) zs ≡ record { line = line_ends xs (d ∷ zs); col = units (last_line xs (d ∷ zs)) + units_of d }
    step xs d zs f = one_more xs d zs ∙ ap (λ b. if b then at (line_ends xs (d ∷ zs) + 1) 0 else at (line_ends xs (d ∷ zs)) (units (last_line xs (d ∷ zs)) + units_of d)) f

-- the start of the line that follows a place
abbrev pub line_behind : LineCol → LineCol
line_behind p = record { line = p.line + 1; col = 0 }

pub lf_goes_on : (xs ys : List ℕ) → place_between (xs ++ 10 ∷ []) ys ≡ line_behind (place_between xs (10 ∷ ys))
unfolding at
lf_goes_on xs ys = one_more xs 10 ys

pub cr_lf_goes_on : (xs ys : List ℕ) → place_between (xs ++ 13 ∷ 10 ∷ []) ys ≡ line_behind (place_between xs (13 ∷ 10 ∷ ys))
unfolding at
cr_lf_goes_on xs ys =
    ap (λ (l : List ℕ). place_between l ys) (sym (append_assoc xs (13 ∷ []) (10 ∷ [])))
    ∙ (lf_goes_on (xs ++ 13 ∷ []) ys ∙ ap line_behind (one_more xs 13 (10 ∷ ys)))

-- ---- along a text

some_if : (b : Bool) (x : LineCol) (f : LineCol → Option LineCol) (p : LineCol) → option_and_then f (if b then Some x else None) ≡ Some p → f x ≡ Some p
some_if true x f p e = e
some_if false x f p e = absurd cc

not_cut : (c : ℕ) (ys : List ℕ) → ((c == 13) && begins_with_lf ys) ≡ false → ends_line c [] ≡ ends_line c ys
not_cut c ys e = ap (λ b. (c == 10) || b) (by (c == 13) (begins_with_lf ys) e)
  where
    by : (a b : Bool) → (a && b) ≡ false → (a && true) ≡ (a && not b)
    by true true e = absurd cc
    by true false e = refl
    by false b e = refl

same_end : (c : ℕ) (cs ys : List ℕ) → is_cut (c ∷ cs) ys ≡ false → ends_line c cs ≡ ends_line c (cs ++ ys)
same_end c [] ys e = not_cut c ys e
same_end c (d ∷ ds) ys e = refl

cut_later : (c : ℕ) (cs ys : List ℕ) → is_cut (c ∷ cs) ys ≡ false → is_cut cs ys ≡ false
cut_later c [] ys e = refl
cut_later c (d ∷ ds) ys e = e

pub places_go_on : PlacesGoOn
unfolding at
places_go_on xs [] ys p n e = some_same e ∙ ap (λ (l : List ℕ). place_between l ys) (sym (append-nil xs))
  where
    some_same : Some (place_between xs ys) ≡ Some p → p ≡ place_between xs ys
    some_same e = cc
places_go_on xs (c ∷ cs) ys p n e =
    let here = place_between xs (c ∷ (cs ++ ys)) in
    let s = same_end c cs ys n in
    let go : (q : LineCol) → q ≡ place_between (xs ++ c ∷ []) (cs ++ ys) → after_text q cs ≡ Some p → p ≡ place_between (xs ++ c ∷ cs) ys =
    λ q h k. places_go_on (xs ++ c ∷ []) cs ys p (cut_later c cs ys n) (subst (λ (r : LineCol). after_text r cs ≡ Some p) h k)
    ∙ ap (λ (l : List ℕ). place_between l ys) (append_assoc xs (c ∷ []) cs) in
    let m = one_more xs c (cs ++ ys) in
    ⊎_elim
    (λ (t : ends_line c (cs ++ ys) ≡ true).
    let k : option_and_then (λ q. after_text q cs) (next_line here) ≡ Some p = subst (λ b. option_and_then (λ q. after_text q cs) (if b then next_line here else further (units_of c) here) ≡ Some p) (s ∙ t) e in
    go (at (here.line + 1) 0) (sym (m ∙ ap (λ b. if b then at (here.line + 1) 0 else at here.line (here.col + units_of c)) t))
    (some_if (nat_lt here.line last_place) (at (here.line + 1) 0) (λ q. after_text q cs) p k))
    (λ (f : ends_line c (cs ++ ys) ≡ false).
    let k : option_and_then (λ q. after_text q cs) (further (units_of c) here) ≡ Some p = subst (λ b. option_and_then (λ q. after_text q cs) (if b then next_line here else further (units_of c) here) ≡ Some p) (s ∙ f) e in
    go (at here.line (here.col + units_of c)) (sym (m ∙ ap (λ b. if b then at (here.line + 1) 0 else at here.line (here.col + units_of c)) f))
    (some_if (nat_le (here.col + units_of c) last_place) (at here.line (here.col + units_of c)) (λ q. after_text q cs) p k))
    (cases_Bool (ends_line c (cs ++ ys)))

-- ---- the bytes of a front

bytes_more : (c : ℕ) (cs : List ℕ) → length (encode_utf8_all (c ∷ cs)) ≡ len_utf8 c + length (encode_utf8_all cs)
bytes_more c cs = length-append (encode c) (encode_utf8_all cs) ∙ ap (λ n. n + length (encode_utf8_all cs)) (length-encode c)

nothing_more : (ys : List ℕ) → (front 0 ys ≡ []) × (back 0 ys ≡ ys)
nothing_more [] = (refl, refl)
nothing_more (c ∷ cs) =
    let b = (len_utf8_bounds c).0 in
    let e : nat_le (len_utf8 c) 0 ≡ false = grind (arith, nat_tests, b) in
    (rw e refl, rw e refl)

parted : (xs ys : List ℕ) → (front (length (encode_utf8_all xs)) (xs ++ ys) ≡ xs) × (back (length (encode_utf8_all xs)) (xs ++ ys) ≡ ys)
parted [] ys = nothing_more ys
parted (x ∷ xs) ys =
    let n = length (encode_utf8_all xs) in
    let i = parted xs ys in
    let m = bytes_more x xs in
    let e : nat_le (len_utf8 x) (len_utf8 x + n) ≡ true = grind (arith, nat_tests) in
    let f : (len_utf8 x + n) - len_utf8 x ≡ n = omega arith in
    (ap (λ k. front k (x ∷ (xs ++ ys))) m ∙ rw (e, f) (ap (λ (l : List ℕ). x ∷ l) i.0), ap (λ k. back k (x ∷ (xs ++ ys))) m ∙ rw (e, f) i.1)

pub fronts_end : FrontsEnd
fronts_end xs ys = let p = parted xs ys in ap₂ (λ (l r : List ℕ). place_between l r) p.0 p.1
