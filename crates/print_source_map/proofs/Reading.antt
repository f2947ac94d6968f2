-- What is written of mappings says them.
use Rattle.std.proofs.Common.{◌≡◌, ℕ, zero, suc, ◌+◌, ◌-◌, ◌<◌, ◌≤◌, true, false, List, [], ◌∷◌, ◌++◌, replicate, Option, Some, None, refl, sym, ap, subst, ◌∙◌, arith, append_assoc}
use Rattle.std.specs.Prelude.{◌==◌, nat_lt, option_map, option_and_then}
use Rattle.std.specs.List.{list_all}
use Rattle.std.proofs.lemmas.Bool.{and_parts}
use Rattle.std.proofs.lemmas.Bool.Decides.{nat_tests}
use Rattle.base_token.specs.declared.place.LineCol.{LineCol}
use Rattle.print_source_map.specs.declared.mapping.Mapping.{Mapping}
use Rattle.print_source_map.specs.Mappings.{with_character, lines_of, mapping_after, line_after, along_line, of_lines, start, mappings_of}
use Rattle.print_source_map.specs.Writing.{digits, difference, segment, in_line, below, piece, written}
use Rattle.print_source_map.specs.Orders.{is_not_before, follow, is_near_place, is_near, are_ordered, are_near}
use Rattle.print_source_map.proofs.Digits.{number_read, difference_said}

-- ---- a segment

-- the numbers of a segment
abbrev pub numbers : ℕ → LineCol → Mapping → List ℕ
numbers c p m = difference c m.written.col ∷ 0 ∷ difference p.line m.source.line ∷ difference p.col m.source.col ∷ []

segment_read : (c : ℕ) (p : LineCol) (m : Mapping) (rest : List ℕ) (ss : List (List ℕ)) (ls : List (List (List ℕ)))
    → lines_of rest ≡ Some (([] ∷ ss) ∷ ls) → lines_of (segment c p m ++ rest) ≡ Some ((numbers c p m ∷ ss) ∷ ls)
unfolding segment
segment_read c p m rest ss ls e =
    let x = difference c m.written.col in
    let y = difference p.line m.source.line in
    let z = difference p.col m.source.col in
    let third : lines_of (digits z ++ rest) ≡ Some (((z ∷ []) ∷ ss) ∷ ls) = number_read z rest [] ss ls e in
    let second : lines_of (digits y ++ (digits z ++ rest)) ≡ Some (((y ∷ z ∷ []) ∷ ss) ∷ ls) = number_read y (digits z ++ rest) (z ∷ []) ss ls third in
    let source : lines_of (65 ∷ (digits y ++ (digits z ++ rest))) ≡ Some (((0 ∷ y ∷ z ∷ []) ∷ ss) ∷ ls) = ap (λ o. option_and_then (with_character 65) o) second in
    let s : (digits x ++ (65 ∷ (digits y ++ digits z))) ++ rest ≡ digits x ++ (65 ∷ (digits y ++ (digits z ++ rest))) =
    append_assoc (digits x) (65 ∷ (digits y ++ digits z)) rest ∙ ap (λ (t : List ℕ). digits x ++ (65 ∷ t)) (append_assoc (digits y) (digits z) rest) in
    ap lines_of s ∙ number_read x (65 ∷ (digits y ++ (digits z ++ rest))) (0 ∷ y ∷ z ∷ []) ss ls source

near_bounds : (p : LineCol) → is_near_place p ≡ true → (p.line < 0x8000_0000) × (p.col < 0x8000_0000)
near_bounds p e =
    let h = and_parts (nat_lt p.line 0x8000_0000) (nat_lt p.col 0x8000_0000) e in
    let a = h.0 in
    let b = h.1 in
    (grind (arith, nat_tests), grind (arith, nat_tests))

-- a mapping is read from its numbers, behind a column of its line and a place of the source
mapping_said : (c : ℕ) (p : LineCol) (m : Mapping) → c < 0x8000_0000 → is_near_place p ≡ true → is_near m ≡ true
    → mapping_after (record { written = record { line = m.written.line; col = c }; source = p }) (numbers c p m) ≡ Some m
mapping_said c p m h near here =
    let q = near_bounds p near in
    let parts = and_parts (is_near_place m.written) (is_near_place m.source) here in
    let w = near_bounds m.written parts.0 in
    let s = near_bounds m.source parts.1 in
    rw (difference_said c m.written.col h w.1, difference_said p.line m.source.line q.0 s.0, difference_said p.col m.source.col q.1 s.1) refl

-- ---- the ends of lines

-- so many empty lines before lines
abbrev pub below_empty : ℕ → List (List (List ℕ)) → List (List (List ℕ))
below_empty zero ls = ls
below_empty (suc k) ls = ([] ∷ []) ∷ below_empty k ls

one_end : (k : ℕ) (s : List ℕ) (ss : List (List ℕ)) (ls : List (List (List ℕ))) → with_character 59 (below_empty k ((s ∷ ss) ∷ ls)) ≡ Some (below_empty (suc k) ((s ∷ ss) ∷ ls))
one_end zero s ss ls = refl
one_end (suc k) s ss ls = refl

ends_read : (k : ℕ) (rest : List ℕ) (s : List ℕ) (ss : List (List ℕ)) (ls : List (List (List ℕ)))
    → lines_of rest ≡ Some ((s ∷ ss) ∷ ls) → lines_of (replicate k 59 ++ rest) ≡ Some (below_empty k ((s ∷ ss) ∷ ls))
ends_read zero rest s ss ls e = e
ends_read (suc k) rest s ss ls e = ap (λ o. option_and_then (with_character 59) o) (ends_read k rest s ss ls e) ∙ one_end k s ss ls

-- the place so many lines further
abbrev pub lines_on : ℕ → Mapping → Mapping
lines_on zero p = p
lines_on (suc k) p = lines_on k (line_after p)

past_empty : (k : ℕ) (p : Mapping) (ls : List (List (List ℕ))) → of_lines p (below_empty k ls) ≡ of_lines (lines_on k p) ls
past_empty zero p ls = refl
past_empty (suc k) p ls = past_empty k (line_after p) ls

at_start : ℕ → LineCol → Mapping
at_start line source = record { written = record { line = line; col = 0 }; source = source }

lines_below : (k : ℕ) (p : Mapping) → lines_on (suc k) p ≡ at_start (p.written.line + suc k) p.source
unfolding at_start
lines_below zero p = refl
lines_below (suc k) p = lines_below k (line_after p) ∙ ap (λ (l : ℕ). at_start l p.source) (omega arith)

-- ---- a mapping behind another

same_line : (p m : Mapping) → m.written.line ≡ p.written.line → piece (Some p) m ≡ 44 ∷ segment p.written.col p.source m
unfolding in_line
same_line p m e = let z : (p.written.line == m.written.line) ≡ true = grind (arith, nat_tests) in rw z refl

later_line : (p m : Mapping) (k : ℕ) → m.written.line ≡ p.written.line + suc k → piece (Some p) m ≡ replicate (suc k) 59 ++ segment 0 p.source m
unfolding below
later_line p m k e =
    let z : (p.written.line == m.written.line) ≡ false = grind (arith, nat_tests) in
    let n : m.written.line - p.written.line ≡ suc k = omega arith in
    rw (z, n) refl

-- the lines that a text says, which begins at the end of a segment, are these mappings, where p is the mapping of that segment
Says : Mapping → List ℕ → List Mapping → Type 0
Says p text ms = (ss : List (List ℕ)) × (ls : List (List (List ℕ))) × (lines_of text ≡ Some (([] ∷ ss) ∷ ls)) × (along_line p ss (λ q. of_lines (line_after q) ls) ≡ Some ms)

-- a segment and what follows it, behind a column of its line
said_in_line : (c : ℕ) (p : LineCol) (m : Mapping) (ss : List (List ℕ)) (ls : List (List (List ℕ))) (ms : List Mapping)
    → c < 0x8000_0000 → is_near_place p ≡ true → is_near m ≡ true → along_line m ss (λ q. of_lines (line_after q) ls) ≡ Some ms
    → along_line (record { written = record { line = m.written.line; col = c }; source = p }) (numbers c p m ∷ ss) (λ q. of_lines (line_after q) ls) ≡ Some (m ∷ ms)
said_in_line c p m ss ls ms h near here e =
    ap (λ (o : Option Mapping). option_and_then (λ q. option_map (λ qs. q ∷ qs) (along_line q ss (λ r. of_lines (line_after r) ls))) o) (mapping_said c p m h near here)
    ∙ ap (λ (o : Option (List Mapping)). option_map (λ qs. m ∷ qs) o) e

-- the same, so many lines further
said_below : (p : Mapping) (k : ℕ) (m : Mapping) (ss : List (List ℕ)) (ls : List (List (List ℕ))) (ms : List Mapping)
    → m.written.line ≡ p.written.line + suc k → is_near_place p.source ≡ true → is_near m ≡ true → along_line m ss (λ q. of_lines (line_after q) ls) ≡ Some ms
    → of_lines p (below_empty (suc k) ((numbers 0 p.source m ∷ ss) ∷ ls)) ≡ Some (m ∷ ms)
unfolding at_start
said_below p k m ss ls ms e near here h =
    past_empty (suc k) p ((numbers 0 p.source m ∷ ss) ∷ ls)
    ∙ (ap (λ (q : Mapping). of_lines q ((numbers 0 p.source m ∷ ss) ∷ ls)) (lines_below k p ∙ ap (λ (l : ℕ). at_start l p.source) (sym e))
    ∙ said_in_line 0 p.source m ss ls ms (omega arith) near here h)

first_said : (m : Mapping) (ss : List (List ℕ)) (ls : List (List (List ℕ))) (ms : List Mapping) → is_near m ≡ true
    → along_line m ss (λ q. of_lines (line_after q) ls) ≡ Some ms → of_lines start (below_empty m.written.line ((numbers 0 start.source m ∷ ss) ∷ ls)) ≡ Some (m ∷ ms)
first_said m ss ls ms here h =
    elim m.written.line as (λ (k : ℕ). m.written.line ≡ k → of_lines start (below_empty k ((numbers 0 start.source m ∷ ss) ∷ ls)) ≡ Some (m ∷ ms)) [
      | zero ↦ λ z.
          subst (λ (l : ℕ). along_line (record { written = record { line = l; col = 0 }; source = start.source }) (numbers 0 start.source m ∷ ss) (λ q. of_lines (line_after q) ls) ≡ Some (m ∷ ms)) z
          (said_in_line 0 start.source m ss ls ms (omega arith) refl here h)
      | suc k ↦ λ z. said_below start k m ss ls ms (omega arith) refl here h
    ] refl

not_above : (p q : LineCol) → is_not_before p q ≡ true → p.line ≤ q.line
not_above p q e = grind (arith, nat_tests)

behind : (ms : List Mapping) (p : Mapping) → is_near p ≡ true → follow (Some p) ms ≡ true → list_all is_near ms ≡ true → Says p (written (Some p) ms) ms
unfolding written follow Says
behind [] p here f n = ([], [], refl, refl)
behind (m ∷ ms) p here f n =
    let fs = and_parts (is_not_before p.written m.written) (follow (Some m) ms) f in
    let ns = and_parts (is_near m) (list_all is_near ms) n in
    let ps = and_parts (is_near_place p.written) (is_near_place p.source) here in
    let le = not_above p.written m.written fs.0 in
    let rest = written (Some m) ms in
    let ih = behind ms m ns.0 fs.1 ns.1 in
    let d = m.written.line - p.written.line in
    elim d as (λ (k : ℕ). d ≡ k → Says p (piece (Some p) m ++ rest) (m ∷ ms)) [
      | zero ↦ λ z.
          let e : m.written.line ≡ p.written.line = omega arith in
          let text : piece (Some p) m ++ rest ≡ 44 ∷ (segment p.written.col p.source m ++ rest) = ap (λ (t : List ℕ). t ++ rest) (same_line p m e) in
          let read = segment_read p.written.col p.source m rest ih.0 ih.1 ih.2 in (
            numbers p.written.col p.source m ∷ ih.0,
            ih.1,
            ap lines_of text ∙ ap (λ o. option_and_then (with_character 44) o) read,
            subst (λ (l : ℕ). along_line (record { written = record { line = l; col = p.written.col }; source = p.source }) (numbers p.written.col p.source m ∷ ih.0) (λ q. of_lines (line_after q) ih.1) ≡ Some (m ∷ ms)) e
                (said_in_line p.written.col p.source m ih.0 ih.1 ms (near_bounds p.written ps.0).1 ps.1 ns.0 ih.3),
          )
      | suc k ↦ λ z.
          let e : m.written.line ≡ p.written.line + suc k = omega arith in
          let text : piece (Some p) m ++ rest ≡ replicate (suc k) 59 ++ (segment 0 p.source m ++ rest) =
          ap (λ (t : List ℕ). t ++ rest) (later_line p m k e) ∙ append_assoc (replicate (suc k) 59) (segment 0 p.source m) rest in
          let read = segment_read 0 p.source m rest ih.0 ih.1 ih.2 in (
            [],
            below_empty k ((numbers 0 p.source m ∷ ih.0) ∷ ih.1),
            ap lines_of text ∙ ends_read (suc k) (segment 0 p.source m ++ rest) (numbers 0 p.source m) ih.0 ih.1 read,
            said_below p k m ih.0 ih.1 ms e ps.1 ns.0 ih.3,
          )
    ] refl

pub says : (ms : List Mapping) → are_ordered ms ≡ true → are_near ms ≡ true → mappings_of (written None ms) ≡ Some ms
unfolding written follow Says below
says [] f n = refl
says (m ∷ ms) f n =
    let ns = and_parts (is_near m) (list_all is_near ms) n in
    let rest = written (Some m) ms in
    let ih = behind ms m ns.0 f ns.1 in
    let read = segment_read 0 start.source m rest ih.0 ih.1 ih.2 in
    let text : piece None m ++ rest ≡ replicate m.written.line 59 ++ (segment 0 start.source m ++ rest) = append_assoc (replicate m.written.line 59) (segment 0 start.source m) rest in
    ap mappings_of text ∙ (ap (λ o. option_and_then (of_lines start) o) (ends_read m.written.line (segment 0 start.source m ++ rest) (numbers 0 start.source m) ih.0 ih.1 read)
    ∙ first_said m ih.0 ih.1 ms ns.0 ih.3)
