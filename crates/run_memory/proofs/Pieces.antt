-- Bytes that are read a piece at a time.
use Rattle.std.proofs.Common.{◌≡◌, ℕ, ◌+◌, ◌-◌, ◌<◌, ◌≤◌, min, List, [], ◌++◌, length, take, drop, sym, ap, subst, ◌∙◌, arith, length-drop, length-append, length-take-le}
use Rattle.std.proofs.Math.Seq.{take-take, take-append_seam}
use Rattle.std.proofs.lemmas.List.{take-append-drop, drop-drop, nil_from_length}

-- a piece of n bytes that was copied into a buffer is what came next
pub piece_read : (items buf piece : List ℕ) (at n : ℕ) → at ≤ length items → n ≤ length items - at
    → piece ≡ take n (take (length items - at) (drop at items)) → drop at items ≡ take n (piece ++ drop n buf) ++ drop (at + n) items
piece_read items buf piece at n within fits copied =
    let rest = drop at items in
    let short : n ≤ length rest = omega (arith, length-drop at items) in
    let is : piece ≡ take n rest = copied ∙ take-take n (length items - at) rest fits in
    let long : length piece ≡ n = ap length is ∙ length-take-le n rest short in
    let front : take n (piece ++ drop n buf) ≡ piece = subst (λ (k : ℕ). take k (piece ++ drop n buf) ≡ piece) long (take-append_seam piece (drop n buf)) in
    sym (ap (λ l. l ++ drop (at + n) items) (front ∙ is) ∙ ap (λ l. take n rest ++ l) (sym (drop-drop n at items)) ∙ take-append-drop n rest)

-- an empty piece is the end, where there was room for more
pub end_read : (items buf piece : List ℕ) (at n most : ℕ) → at ≤ length items → 1 ≤ most → n ≡ min (length items - at) (min (length buf) most)
    → length piece ≡ n → n ≡ 0 → 0 < length (piece ++ drop n buf) → drop (at + n) items ≡ []
end_read items buf piece at n most within some is long none room =
    nil_from_length (drop (at + n) items) (omega (arith, length-drop (at + n) items, length-append piece (drop n buf), length-drop n buf))
