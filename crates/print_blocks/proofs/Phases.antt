-- Where the first byte lies stays as bytes are taken.
use Rattle.std.proofs.Common.{◌≡◌, ℕ, ◌+◌, ◌-◌, ◌<◌, ◌≤◌, ◌%◌, List, ◌∷◌, ◌++◌, Option, None, Some, inl, inr, length, take, sym, ap, ◌∙◌, arith, append_assoc, append-nil, length-append, subst, []}
use Rattle.std.proofs.Math.Seq.{take-append-add, take-length}
use Rattle.std.proofs.lemmas.Bool.{cases_lt}
use Rattle.std.proofs.lemmas.List.{length-take-le}
use Rattle.std.specs.Option.{option_map}
use Rattle.std.specs.Io.KnownBytes.{Appends, Keeps, append_known}
use Rattle.print_blocks.specs.Blocks.{phase}

-- so many bytes more, up to the end of the block
pub phase_more : (at count more : ℕ) → at < 4096 → at + more ≤ 4096 → phase ((at + more) % 4096) (count + more) ≡ phase at count
unfolding phase
phase_more at count more h k = omega arith

-- within the block
pub phase_within : (at count more : ℕ) → at + more < 4096 → phase (at + more) (count + more) ≡ phase at count
unfolding phase
phase_within at count more h = omega arith

-- the bytes behind the number
abbrev pub numbered : ℕ → Option (List ℕ) → Option (List ℕ)
numbered at known = option_map (λ bytes. phase at (length bytes) ∷ bytes) known

-- The number stays where as many more bytes were taken.
pub numbered_more : (a b : Option (List ℕ)) (at next : ℕ) (bytes : List ℕ) → ((count : ℕ) → phase next (count + length bytes) ≡ phase at count) → Appends a b bytes
    → Appends (numbered at a) (numbered next b) bytes
numbered_more None b at next bytes h p = tt
numbered_more (Some x) None at next bytes h p = absurd p
numbered_more (Some x) (Some y) at next bytes h p =
    ap (λ (l : List ℕ). phase next (length l) ∷ l) p ∙ ap (λ (n : ℕ). n ∷ (x ++ bytes)) (ap (phase next) (length-append x bytes) ∙ h (length x))

-- It stays where nothing is taken.
pub numbered_kept : (a b : Option (List ℕ)) (at : ℕ) → Keeps a b → Keeps (numbered at a) (numbered at b)
numbered_kept None b at p = tt
numbered_kept (Some x) None at p = absurd p
numbered_kept (Some x) (Some y) at p = ap (λ (l : List ℕ). phase at (length l) ∷ l) p

-- ---- what waits

-- more waits
pub grown : (a : Option (List ℕ)) (old new bytes : List ℕ) → new ≡ old ++ bytes → Appends (append_known a old) (append_known a new) bytes
grown None old new bytes e = tt
grown (Some x) old new bytes e = ap (λ (l : List ℕ). x ++ l) e ∙ sym (append_assoc x old bytes)

-- All that waited is out, and some more.
pub handed_out : (a b : Option (List ℕ)) (wait bytes block : List ℕ) (sent : ℕ) → block ≡ wait ++ bytes → length wait ≤ sent → Appends a b (take sent block)
    → Appends (append_known a wait) (append_known b []) (take (sent - length wait) bytes)
handed_out None b wait bytes block sent e h p = tt
handed_out (Some x) None wait bytes block sent e h p = absurd p
handed_out (Some x) (Some y) wait bytes block sent e h p =
    let more : sent ≡ length wait + (sent - length wait) = omega arith in
    append-nil y ∙ p ∙ ap (λ (l : List ℕ). x ++ take sent l) e
    ∙ ap (λ (l : List ℕ). x ++ l) (ap (λ (n : ℕ). take n (wait ++ bytes)) more ∙ take-append-add wait bytes (sent - length wait))
    ∙ sym (append_assoc x wait (take (sent - length wait) bytes))

-- The bytes fill the block, and some of them are out: those were taken.
pub filled : (a b : Option (List ℕ)) (at kept sent : ℕ) (wait bytes block rest : List ℕ) → at + length bytes ≡ 4096 → at < 4096 → kept ≡ length wait → block ≡ wait ++ bytes → kept ≤ sent → sent ≤ length block
    → rest ≡ [] → Appends a b (take sent block) → Appends (numbered at (append_known a wait)) (numbered ((at + (sent - kept)) % 4096) (append_known b rest)) (take (sent - kept) bytes)
filled a b at kept sent wait bytes block rest full begun same e out within none p =
    let taken = take (sent - kept) bytes in
    let size : length block ≡ length wait + length bytes = ap length e ∙ length-append wait bytes in
    let some : length taken ≡ sent - kept = length-take-le (sent - kept) bytes (omega arith) in
    let moved : Appends (append_known a wait) (append_known b []) (take (sent - length wait) bytes) = handed_out a b wait bytes block sent e (omega arith) p in
    numbered_more (append_known a wait) (append_known b rest) at ((at + (sent - kept)) % 4096) taken
    (λ count. ap (λ (n : ℕ). phase ((at + (sent - kept)) % 4096) (count + n)) some ∙ phase_more at count (sent - kept) begun (omega arith))
    (subst (λ (l : List ℕ). Appends (append_known a wait) (append_known b l) taken) (sym none) (subst (λ (n : ℕ). Appends (append_known a wait) (append_known b []) (take (sent - n) bytes)) (sym same) moved))

-- The bytes wait: they were taken.
pub waits_all : (a : Option (List ℕ)) (at : ℕ) (wait block bytes : List ℕ) → at + length bytes < 4096 → block ≡ wait ++ bytes
    → Appends (numbered at (append_known a wait)) (numbered (at + length bytes) (append_known a block)) bytes
waits_all a at wait block bytes h e =
    numbered_more (append_known a wait) (append_known a block) at (at + length bytes) bytes (λ count. phase_within at count (length bytes) h) (grown a wait block bytes e)

pub waits_more : (a : Option (List ℕ)) (at : ℕ) (wait block bytes : List ℕ) → at + length bytes < 4096 → block ≡ wait ++ bytes
    → Appends (numbered at (append_known a wait)) (numbered (at + length bytes) (append_known a block)) (take (length bytes) bytes)
waits_more a at wait block bytes h e =
    subst (λ (l : List ℕ). Appends (numbered at (append_known a wait)) (numbered (at + length bytes) (append_known a block)) l) (sym (take-length bytes)) (waits_all a at wait block bytes h e)

-- who writes to the end of a block, or until more than what waited is out, has handed that out
pub handed_enough : (sent kept more size : ℕ) → (sent ≤ kept → sent ≡ size) → size ≡ kept + more → kept ≤ sent
handed_enough sent kept more size whole e = elim (cases_lt kept sent) [ inl h ↦ omega arith | inr h ↦ (let all = whole h in omega arith) ]
