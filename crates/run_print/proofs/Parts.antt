-- What was taken by a block, and what of it is out.
use Rattle.std.proofs.Common.{◌≡◌, ℕ, ◌+◌, ◌-◌, ◌<◌, ◌≤◌, List, [], ◌∷◌, ◌++◌, Option, None, Some, IsSome, length, take, drop, sym, ap, ◌∙◌, arith, append_assoc, append-nil, length-append}
use Rattle.std.proofs.Math.Seq.{take-append-add, take-append_seam}
use Rattle.std.proofs.lemmas.List.{append_cancel_left, take-append-le}
use Rattle.std.specs.Io.KnownBytes.{Appends, Keeps, append_known}
use Rattle.print_writers.specs.Pages.{IsFront, told}
use Rattle.print_blocks.specs.Blocks.{phase}
use Rattle.print_blocks.proofs.Phases.{numbered}

-- the first block of one's own begins where these bytes end
abbrev pub first : List ℕ → ℕ
first xs = phase 0 (length (xs ++ []))

-- So many of a block were taken of what was taken at all, which is more.
of_block : (at had more : ℕ) → at < 4096 → phase at (had + more) ≡ phase 0 had → at ≤ more
unfolding phase
of_block at had more h e = omega arith

known_same : (all bytes : List ℕ) (n h : ℕ) → n ∷ all ≡ h ∷ bytes → (n ≡ h) × (all ≡ bytes)
known_same all bytes n h e = (cc, cc)

-- all that was taken is out
pub all_out : (known after : Option (List ℕ)) (at h : ℕ) (xs ys : List ℕ) → IsSome (numbered at known) → told (numbered at known) ≡ h ∷ (xs ++ ys) → Keeps known after → Appends (Some xs) after ys
all_out None after at h xs ys some e k = absurd (cc)
all_out (Some all) None at h xs ys some e k = absurd k
all_out (Some all) (Some zs) at h xs ys some e k = k ∙ (known_same all (xs ++ ys) _ h e).1

-- what is out of what was taken, by how much of it waits
out_of : (xs ys zs rest : List ℕ) → zs ++ rest ≡ xs ++ ys → length rest ≤ length ys → zs ≡ xs ++ take (length ys - length rest) ys
out_of xs ys zs rest e h =
    let sizes : length zs + length rest ≡ length xs + length ys = sym (length-append zs rest) ∙ ap length e ∙ length-append xs ys in
    let n : length zs ≡ length xs + (length ys - length rest) = omega arith in
    sym (take-append_seam zs rest) ∙ ap (take (length zs)) e ∙ ap (λ (k : ℕ). take k (xs ++ ys)) n ∙ take-append-add xs ys (length ys - length rest)

-- What waits was taken since the block was put before its writer, so a beginning of that is out.
pub some_out : (known after : Option (List ℕ)) (at : ℕ) (xs ys full rest : List ℕ) → at < 4096 → IsSome (numbered at known) → told (numbered at known) ≡ first xs ∷ (xs ++ ys) → length rest ≤ at
    → Keeps known (append_known after rest) → IsFront ys full → (n : ℕ) × Appends (Some xs) after (take n full)
some_out None after at xs ys full rest begun some e few k front = absurd (cc)
some_out (Some all) None at xs ys full rest begun some e few k front = absurd k
some_out (Some all) (Some zs) at xs ys full rest begun some e few k front =
    let p = known_same all (xs ++ ys) _ (first xs) e in
    let sizes : length all ≡ length xs + length ys = ap length p.1 ∙ length-append xs ys in
    let lies : phase at (length xs + length ys) ≡ phase 0 (length xs) = ap (phase at) (sym sizes) ∙ p.0 ∙ ap (λ (l : List ℕ). phase 0 (length l)) (append-nil xs) in
    let taken : at ≤ length ys = of_block at (length xs) (length ys) begun lies in
    let n = length ys - length rest in
    let out : zs ≡ xs ++ take n ys = out_of xs ys zs rest (k ∙ p.1) (omega arith) in
    let part : take n full ≡ take n ys = ap (take n) front.1 ∙ take-append-le n ys front.0 (omega arith) in
    (n, out ∙ ap (λ (l : List ℕ). xs ++ l) (sym part))

-- a beginning behind bytes that stay is one of what is written behind them
pub front_behind : (h : ℕ) (xs all full : List ℕ) → IsFront (h ∷ xs) all → IsFront all (h ∷ (xs ++ full)) → (ys : List ℕ) × (all ≡ h ∷ (xs ++ ys)) × IsFront ys full
front_behind h xs all full kept begun =
    let rest = begun.0 in
    let whole : h ∷ (xs ++ full) ≡ h ∷ (xs ++ (kept.0 ++ rest)) = begun.1 ∙ ap (λ (l : List ℕ). l ++ rest) kept.1 ∙ ap (λ (l : List ℕ). h ∷ l) (append_assoc xs kept.0 rest) in
    (kept.0, kept.1, (rest, append_cancel_left xs full (kept.0 ++ rest) (ap (drop 1) whole)))
