-- The place of a byte, found character by character.
use Rattle.std.proofs.Common.{◌≡◌, ℕ, ◌+◌, ◌-◌, ⊎_elim, Bool, true, false, List, [], ◌∷◌, ◌++◌, refl, sym, ap, ◌∙◌, arith}
use Rattle.std.specs.Prelude.{if◌then◌else◌, ◌==◌, nat_le}
use Rattle.std.specs.Char.{len_utf8}
use Rattle.std.proofs.lemmas.Bool.{cases_eq}
use Rattle.std.proofs.lemmas.Bool.Decides.{nat_tests}
use Rattle.base_token.specs.declared.place.LineCol.{LineCol}
use Rattle.print_writers.specs.Lines.{ends_line, units, units_of}
use Rattle.print_pages_spec.specs.Lines.Lines.{front, back, line_ends, last_line, place_of}

at : ℕ → ℕ → LineCol
at line col = record { line = line; col = col }

same : (a b c d : ℕ) → a ≡ b → c ≡ d → at a c ≡ at b d
same a b c d e f = ap (λ x. at x c) e ∙ ap (λ y. at b y) f

-- the place after the characters xs, which begin at this line and column, before ys
onto : ℕ → ℕ → List ℕ → List ℕ → LineCol
onto line col xs ys = at (line + line_ends xs ys) ((if line_ends xs ys == 0 then col else 0) + units (last_line xs ys))

front_back : (n : ℕ) (cs : List ℕ) → front n cs ++ back n cs ≡ cs
front_back n [] = refl
front_back n (c ∷ cs) =
    elim (nat_le (len_utf8 c) n) as (λ t. (if t then c ∷ front (n - len_utf8 c) cs else []) ++ (if t then back (n - len_utf8 c) cs else c ∷ cs) ≡ c ∷ cs) [
      | true ↦ ap (λ (l : List ℕ). c ∷ l) (front_back (n - len_utf8 c) cs)
      | false ↦ refl
    ]

whole_line : (xs ys : List ℕ) → line_ends xs ys ≡ 0 → last_line xs ys ≡ xs
whole_line [] ys e = refl
whole_line (x ∷ xs) ys e =
    let f : (line_ends (x ∷ xs) ys == 0) ≡ true = grind (arith, nat_tests) in
    rw f refl

either : (n : ℕ) (b : Bool) → (if b then n else n) ≡ n
either n true = refl
either n false = refl

after_end : (line col c n : ℕ) (xs rest : List ℕ) →
    at (line + 1 + n) ((if n == 0 then 0 else 0) + units rest)
    ≡ at (line + (1 + n)) ((if 1 + n == 0 then col else 0) + units (if 1 + n == 0 then c ∷ xs else rest))
after_end line col c n xs rest =
    let e : (1 + n == 0) ≡ false = grind (arith, nat_tests) in
    rw e (same (line + 1 + n) (line + (1 + n)) _ _ (omega arith) (ap (λ m. m + units rest) (either 0 (n == 0))))

after_other : (line col c n : ℕ) (xs rest : List ℕ) → (n ≡ 0 → rest ≡ xs) →
    at (line + n) ((if n == 0 then col + units_of c else 0) + units rest)
    ≡ at (line + (0 + n)) ((if 0 + n == 0 then col else 0) + units (if 0 + n == 0 then c ∷ xs else rest))
after_other line col c n xs rest h =
    let z : 0 + n ≡ n = omega arith in
    rw z (⊎_elim
    (λ (e : n ≡ 0).
    let f : (n == 0) ≡ true = grind (arith, nat_tests) in
    rw f (same (line + n) (line + n) _ _ refl (omega (arith, ap units (h e)))))
    (λ (e : n ≡ 0 → ⊥).
    let f : (n == 0) ≡ false = grind (arith, nat_tests) in
    rw f refl)
    (cases_eq n 0))

onto_more : (line col c : ℕ) (xs ys : List ℕ) →
    (if ends_line c (xs ++ ys) then onto (line + 1) 0 xs ys else onto line (col + units_of c) xs ys) ≡ onto line col (c ∷ xs) ys
unfolding onto at
onto_more line col c xs ys =
    let n = line_ends xs ys in
    let rest = last_line xs ys in
    elim (ends_line c (xs ++ ys)) as (λ t. (if t then onto (line + 1) 0 xs ys else onto line (col + units_of c) xs ys)
    ≡ at (line + ((if t then 1 else 0) + n)) ((if (if t then 1 else 0) + n == 0 then col else 0) + units (if (if t then 1 else 0) + n == 0 then c ∷ xs else rest))) [
      | true ↦ after_end line col c n xs rest
      | false ↦ after_other line col c n xs rest (whole_line xs ys)
    ]

-- the place of the byte that lies so far behind this line and column, along these characters
abbrev pub along : ℕ → ℕ → ℕ → List ℕ → LineCol
along line col left [] = record { line = line; col = col }
along line col left (c ∷ cs) =
    if nat_le (len_utf8 c) left
    then (if ends_line c cs then along (line + 1) 0 (left - len_utf8 c) cs else along line (col + units_of c) (left - len_utf8 c) cs)
    else record { line = line; col = col }

along_onto : (line col left : ℕ) (cs : List ℕ) → along line col left cs ≡ onto line col (front left cs) (back left cs)
unfolding onto at
along_onto line col left [] = same line (line + 0) col (col + 0) (omega arith) (omega arith)
along_onto line col left (c ∷ cs) =
    let n = left - len_utf8 c in
    let xs = front n cs in
    let ys = back n cs in
    let ended = along_onto (line + 1) 0 n cs in
    let other = along_onto line (col + units_of c) n cs in
    elim (nat_le (len_utf8 c) left) as (λ t.
    (if t then (if ends_line c cs then along (line + 1) 0 n cs else along line (col + units_of c) n cs) else at line col)
    ≡ onto line col (if t then c ∷ xs else []) (if t then ys else c ∷ cs)) [
      | true ↦ ap (λ l. if ends_line c l then along (line + 1) 0 n cs else along line (col + units_of c) n cs) (sym (front_back n cs))
          ∙ ap (λ x. if ends_line c (xs ++ ys) then x else along line (col + units_of c) n cs) ended
          ∙ ap (λ x. if ends_line c (xs ++ ys) then onto (line + 1) 0 xs ys else x) other
          ∙ onto_more line col c xs ys
      | false ↦ same line (line + 0) col (col + 0) (omega arith) (omega arith)
    ]

pub along_place : (text : List ℕ) (left : ℕ) → along 0 0 left text ≡ place_of text left
unfolding onto at
along_place text left =
    let xs = front left text in
    let ys = back left text in
    along_onto 0 0 left text ∙ same _ (line_ends xs ys) _ (units (last_line xs ys)) (omega arith)
    (ap (λ m. m + units (last_line xs ys)) (either 0 (line_ends xs ys == 0)) ∙ omega arith)
