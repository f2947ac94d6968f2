-- One more token is written.
use Rattle.std.proofs.Common.{◌≡◌, ℕ, ◌+◌, List, ◌∷◌, ◌++◌, drop, take, ap, ◌∙◌, append_assoc}
use Rattle.print_notes.specs.Slots.{LaidToken, Remark, Looks}
use Rattle.print_notes.specs.Safe.{fitting}
use Rattle.print_notes.specs.Spacing.{place_before, next_line}
use Rattle.print_notes.specs.Woven.{gap_before, woven_from}

-- a token and what stands before it, and then what is left
pub goes_on : (l : Looks) (line : List ℕ) (behind gap : ℕ) (t : LaidToken) (ts : List LaidToken) (tail : List ℕ) (rs : List Remark) (x y : List ℕ)
    → y ≡ x ++ (gap_before l (place_before behind line t) t (take (fitting gap behind t rs) rs) ++ t.own)
    → y ++ woven_from l (next_line line t) t.kind (gap + 1) ts tail (drop (fitting gap behind t rs) rs) ≡ x ++ woven_from l line behind gap (t ∷ ts) tail rs
goes_on l line behind gap t ts tail rs x y e =
    let g = gap_before l (place_before behind line t) t (take (fitting gap behind t rs) rs) in
    let w = woven_from l (next_line line t) t.kind (gap + 1) ts tail (drop (fitting gap behind t rs) rs) in
    ap (λ (z : List ℕ). z ++ w) e ∙ (append_assoc x (g ++ t.own) w ∙ ap (λ (z : List ℕ). x ++ z) (append_assoc g t.own w))
