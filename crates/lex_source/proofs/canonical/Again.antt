-- The canonical text of a canonical text.
use Rattle.std.proofs.Common.{◌≡◌, ◌++◌, ◌<◌, ◌≤◌, ◌+◌, ◌-◌, ◌∙◌, ⊎_elim, ap, sym, subst, refl, append_assoc, ℕ, zero, suc, Bool, true, false, cond, ◌&&◌, ◌||◌, List, [], ◌∷◌, Option, None, Some, drop, take, get_or, length, length-append, nat_eq, nat_le, arith}
use Rattle.std.specs.Prelude.{◌==◌, slice_index, slice_range}
use Rattle.std.specs.Fmt.{is_char_start}
use Rattle.std.proofs.Math.Seq.{drop-append_seam, take-append_seam}
use Rattle.std.proofs.lemmas.List.{get_or-append-add, get_or-drop, get_or-take}
use Rattle.std.proofs.lemmas.Bool.{cases_Bool, and_parts, and_from}
use Rattle.std.proofs.lemmas.Bool.Decides.{nat_tests}
use Rattle.base_token.specs.Kinds.{template_kind}
use Rattle.base_token.specs.Tokens.{Spot}
use Rattle.lex_source.specs.Canonical.Canonical.{Edge, blank, edge_of, gap, is_cut, is_word, own_bytes, text_behind}
use Rattle.lex_source.specs.Canonical.Moved.{IsItsOwn, SameTokens, moved_from, moved_to}

-- ---- the gap before a token that was moved

gap_of : Bool → Bool → Bool → Bool → Bool → Bool → List ℕ
gap_of template hash word touching next line_break = cond (template || ((hash && (word && touching)) || next)) [] (cond line_break (10 ∷ []) (32 ∷ []))

eq_here : (a b : ℕ) → a ≡ b → nat_eq a b ≡ true
eq_here a b e = grind (arith, nat_tests)

eq_apart : (a b : ℕ) → a < b → nat_eq a b ≡ false
eq_apart a b e = grind (arith, nat_tests)

gap_keeps : (template hash word touching next line_break : Bool) (at : ℕ)
    → gap_of template hash word (nat_eq at (at + length (gap_of template hash word touching next line_break))) next line_break ≡ gap_of template hash word touching next line_break
unfolding gap_of
gap_keeps true hash word touching next line_break at = refl
gap_keeps false false word touching next line_break at = refl
gap_keeps false true false touching next line_break at = refl
gap_keeps false true true true next line_break at = ap (λ q. cond (q || next) [] (cond line_break (10 ∷ []) (32 ∷ []))) (eq_here at (at + 0) (omega arith))
gap_keeps false true true false true line_break at = ap (λ q. cond (q || true) [] (cond line_break (10 ∷ []) (32 ∷ []))) (eq_here at (at + 0) (omega arith))
gap_keeps false true true false false true at = ap (λ q. cond (q || false) [] (10 ∷ [])) (eq_apart at (at + 1) (omega arith))
gap_keeps false true true false false false at = ap (λ q. cond (q || false) [] (32 ∷ [])) (eq_apart at (at + 1) (omega arith))

moved_edge : ℕ → Option Edge → Option Edge
moved_edge at None = None
moved_edge at (Some e) = Some (record e { end = at })

gap_again : (last : Option Edge) (spot : Spot) (at hi : ℕ) → gap (moved_edge at last) (moved_to (at + length (gap last spot)) hi spot) ≡ gap last spot
unfolding gap_of moved_edge
gap_again None spot at hi = refl
gap_again (Some e) spot at hi = gap_keeps e.template e.hash (is_word spot.token.content) (nat_eq e.end spot.lo) (spot.token.kind == template_kind) spot.line_break at

-- ---- each part begins with a character

abbrev pub Starts : List ℕ → Type 0
Starts xs = is_char_start (get_or xs 0 0) ≡ true

pub starts_append : (xs ys : List ℕ) → Starts xs → Starts ys → Starts (xs ++ ys)
starts_append [] ys h g = g
starts_append (x ∷ xs) ys h g = h

starts_slice : (source : List ℕ) (i n : ℕ) → is_char_start (get_or source i 0) ≡ true → Starts (take n (drop i source))
starts_slice source i zero h = refl
starts_slice source i (suc n) h =
    ap is_char_start (get_or-take (suc n) (drop i source) 0 0 (omega arith) ∙ get_or-drop i source 0 0 ∙ ap (λ k. get_or source k 0) (let e : i + 0 ≡ i = omega arith in e)) ∙ h

starts_own : (source : List ℕ) (lo hi : ℕ) → Starts (own_bytes source lo hi)
starts_own source lo hi =
    let here = is_cut source (lo - 1) in
    let there = is_cut source (hi - 1) in
    let own = slice_range source (lo - 1) (hi - 1) in
    ⊎_elim
    (λ (t : (nat_le lo hi && (here && there)) ≡ true).
    let cut = and_parts here there (and_parts (nat_le lo hi) (here && there) t).1 in
    let start = and_parts (nat_le (lo - 1) (length source)) (is_char_start (slice_index source (lo - 1))) cut.0 in
    subst (λ b. Starts (cond b own [])) (sym t) (starts_slice source (lo - 1) (hi - 1 - (lo - 1)) start.1))
    (λ (f : (nat_le lo hi && (here && there)) ≡ false). subst (λ b. Starts (cond b own [])) (sym f) refl)
    (cases_Bool (nat_le lo hi && (here && there)))

starts_gap_of : (touches line_break : Bool) (last : Option Edge) → Starts (cond touches [] (cond line_break (10 ∷ []) (blank last)))
starts_gap_of true line_break last = refl
starts_gap_of false true last = refl
starts_gap_of false false None = refl
starts_gap_of false false (Some e) = refl

starts_gap : (last : Option Edge) (spot : Spot) → Starts (gap last spot)
starts_gap None spot = starts_gap_of (spot.token.kind == template_kind) spot.line_break None
starts_gap (Some e) spot = starts_gap_of (e.template || ((e.hash && (is_word spot.token.content && nat_eq e.end spot.lo)) || spot.token.kind == template_kind)) spot.line_break (Some e)

starts_text : (source : List ℕ) (last : Option Edge) (spots : List Spot) → Starts (text_behind source last spots)
unfolding text_behind
starts_text source last [] = refl
starts_text source last (spot ∷ spots) =
    let own = own_bytes source spot.lo spot.hi in
    let more = text_behind source (Some (edge_of spot)) spots in
    starts_append (gap last spot) (own ++ more) (starts_gap last spot) (starts_append own more (starts_own source spot.lo spot.hi) (starts_text source (Some (edge_of spot)) spots))

-- ---- the own bytes of a token that was moved

slice_seam : (before own behind : List ℕ) → slice_range (before ++ (own ++ behind)) (length before) (length before + length own) ≡ own
slice_seam before own behind =
    let size : length before + length own - length before ≡ length own = omega arith in
    ap (λ n. take n (drop (length before) (before ++ (own ++ behind)))) size ∙ ap (take (length own)) (drop-append_seam before (own ++ behind)) ∙ take-append_seam own behind

cut_here : (before behind : List ℕ) (at : ℕ) → at ≡ length before → Starts behind → is_cut (before ++ behind) at ≡ true
cut_here before behind at e h =
    let size = length-append before behind in
    let within : nat_le at (length (before ++ behind)) ≡ true = grind (arith, nat_tests) in
    let byte : slice_index (before ++ behind) at ≡ get_or behind 0 0 =
    ap (λ k. get_or (before ++ behind) k 0) (let k : at ≡ length before + 0 = omega (arith, e) in k) ∙ get_or-append-add before behind 0 0 in
    and_from (nat_le at (length (before ++ behind))) (is_char_start (slice_index (before ++ behind) at)) within (ap is_char_start byte ∙ h)

pub own_again : (before own behind : List ℕ) (lo hi : ℕ) → Starts (own ++ behind) → Starts behind → lo ≡ length before + 1 → hi ≡ lo + length own
    → own_bytes (before ++ (own ++ behind)) lo hi ≡ own
own_again before own behind lo hi h g e f =
    let whole = before ++ (own ++ behind) in
    let from : lo - 1 ≡ length before = omega (arith, e) in
    let to : hi - 1 ≡ length before + length own = omega (arith, e, f) in
    let size = length-append before own in
    let order : nat_le lo hi ≡ true = let k : lo ≤ hi = omega (arith, f) in grind (arith, nat_tests) in
    let here = cut_here before (own ++ behind) (lo - 1) from h in
    let there : is_cut whole (hi - 1) ≡ true =
    ap (λ w. is_cut w (hi - 1)) (sym (append_assoc before own behind)) ∙ cut_here (before ++ own) behind (hi - 1) (let k : hi - 1 ≡ length (before ++ own) = omega (arith, to, size) in k) g in
    let all : (nat_le lo hi && (is_cut whole (lo - 1) && is_cut whole (hi - 1))) ≡ true =
    and_from (nat_le lo hi) (is_cut whole (lo - 1) && is_cut whole (hi - 1)) order (and_from (is_cut whole (lo - 1)) (is_cut whole (hi - 1)) here there) in
    ap (λ b. cond b (slice_range whole (lo - 1) (hi - 1)) []) all
    ∙ ap (λ i. slice_range whole i (hi - 1)) from ∙ ap (λ j. slice_range whole (length before) j) to ∙ slice_seam before own behind

-- ---- one token after the other

-- the gap and the own bytes of a token that stands behind these bytes of the whole text
own_moved : (source before : List ℕ) (last : Option Edge) (spot : Spot) (spots : List Spot) (at : ℕ) → at ≡ length before + 1
    → own_bytes (before ++ (gap last spot ++ (own_bytes source spot.lo spot.hi ++ text_behind source (Some (edge_of spot)) spots)))
    (at + length (gap last spot)) (at + length (gap last spot) + length (own_bytes source spot.lo spot.hi)) ≡ own_bytes source spot.lo spot.hi
own_moved source before last spot spots at n =
    let own = own_bytes source spot.lo spot.hi in
    let more = text_behind source (Some (edge_of spot)) spots in
    let lo = at + length (gap last spot) in
    let hi = lo + length own in
    let start = starts_text source (Some (edge_of spot)) spots in
    let size = length-append before (gap last spot) in
    ap (λ w. own_bytes w lo hi) (sym (append_assoc before (gap last spot) (own ++ more)))
    ∙ own_again (before ++ gap last spot) own more lo hi (starts_append own more (starts_own source spot.lo spot.hi) start) start
    (let k : lo ≡ length (before ++ gap last spot) + 1 = omega (arith, n, size) in k) refl

again_from : (spots : List Spot) (source whole before : List ℕ) (last : Option Edge) (at : ℕ) → whole ≡ before ++ text_behind source last spots → at ≡ length before + 1
    → text_behind whole (moved_edge at last) (moved_from source at last spots) ≡ text_behind source last spots
unfolding text_behind moved_from moved_edge
again_from [] source whole before last at e n = refl
again_from (spot ∷ spots) source whole before last at e n =
    let space = gap last spot in
    let own = own_bytes source spot.lo spot.hi in
    let more = text_behind source (Some (edge_of spot)) spots in
    let lo = at + length space in
    let hi = lo + length own in
    let s = length-append before space in
    let o = length-append (before ++ space) own in
    let there : whole ≡ ((before ++ space) ++ own) ++ more =
    e ∙ sym (append_assoc before space (own ++ more)) ∙ sym (append_assoc (before ++ space) own more) in
    let tail = text_behind whole (Some (edge_of (moved_to lo hi spot))) (moved_from source hi (Some (edge_of spot)) spots) in
    let own_is : own_bytes whole lo hi ≡ own = ap (λ w. own_bytes w lo hi) e ∙ own_moved source before last spot spots at n in
    let more_is : tail ≡ more = again_from spots source whole ((before ++ space) ++ own) (Some (edge_of spot)) hi there (omega (arith, n, s, o)) in
    ap (λ g. g ++ (own_bytes whole lo hi ++ tail)) (gap_again last spot at hi)
    ∙ ap (λ w. space ++ (w ++ tail)) own_is
    ∙ ap (λ r. space ++ (own ++ r)) more_is

same_from : (spots : List Spot) (source whole before : List ℕ) (last : Option Edge) (at : ℕ) → whole ≡ before ++ text_behind source last spots → at ≡ length before + 1
    → SameTokens whole (moved_from source at last spots) source spots
unfolding text_behind moved_from
same_from [] source whole before last at e n = tt
same_from (spot ∷ spots) source whole before last at e n =
    let space = gap last spot in
    let own = own_bytes source spot.lo spot.hi in
    let more = text_behind source (Some (edge_of spot)) spots in
    let hi = at + length space + length own in
    let s = length-append before space in
    let o = length-append (before ++ space) own in
    let there : whole ≡ ((before ++ space) ++ own) ++ more =
    e ∙ sym (append_assoc before space (own ++ more)) ∙ sym (append_assoc (before ++ space) own more) in
    let own_is : own_bytes whole (at + length space) hi ≡ own = ap (λ w. own_bytes w (at + length space) hi) e ∙ own_moved source before last spot spots at n in
    (refl, refl, own_is, same_from spots source whole ((before ++ space) ++ own) (Some (edge_of spot)) hi there (omega (arith, n, s, o)))

pub canonical_stays : (source : List ℕ) (spots : List Spot) → IsItsOwn source spots
unfolding moved_edge
canonical_stays source spots =
    let whole = text_behind source None spots in
    record { tokens = same_from spots source whole [] None 1 refl refl; text = again_from spots source whole [] None 1 refl refl }
