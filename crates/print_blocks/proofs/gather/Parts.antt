-- Bytes that are handed out a part at a time.
use Rattle.std.specs.Prelude.{Bool, ◌==◌, ◌&&◌}
use Rattle.std.proofs.Common.{◌≡◌, ℕ, ◌+◌, List, ◌++◌, Option, None, Some, take, drop, sym, ap, subst, append_assoc, ◌∙◌}
use Rattle.std.proofs.lemmas.Bool.{ne_eqb}
use Rattle.std.proofs.lemmas.List.{take-append-drop}
use Rattle.std.proofs.KnownBytes.{Appends-trans}
use Rattle.std.proofs.Math.Seq.{take-add}
use Rattle.std.specs.Io.KnownBytes.{Appends, append_known}
use Rattle.base_token.specs.Counts.{count_after}

pub more_written : (a b c : Option (List ℕ)) (bytes : List ℕ) (n m : ℕ) → Appends a b (take n bytes) → Appends b c (take m (drop n bytes)) → Appends a c (take (n + m) bytes)
more_written a b c bytes n m p q = subst (Appends a c) (sym (take-add n m bytes)) (Appends-trans a b c _ _ p q)

-- a write that took something adds no failure
pub count_stays : (count : ℕ) (b : Bool) (n : ℕ) → (count ≡ 0 → ⊥) → count_after (count == 0 && b) n ≡ n
count_stays count b n some = ap (λ t. count_after (t && b) n) (ne_eqb count 0 some)

-- A part of a full block is out, and a piece follows what is left of it. So what was taken since it held
-- `wait` is what filled it, and the piece.
pub across : (a b : Option (List ℕ)) (wait front full block piece bytes : List ℕ) (out : ℕ) → full ≡ wait ++ front → Appends a b (take out full)
    → block ≡ drop out full ++ piece → front ++ piece ≡ bytes → Appends (append_known a wait) (append_known b block) bytes
across None b wait front full block piece bytes out e p q t = tt
across (Some x) None wait front full block piece bytes out e p q t = absurd p
across (Some x) (Some y) wait front full block piece bytes out e p q t =
    ap (λ l. l ++ block) p ∙ ap (λ l. (x ++ take out full) ++ l) q ∙ append_assoc x (take out full) (drop out full ++ piece)
    ∙ ap (λ l. x ++ l) (sym (append_assoc (take out full) (drop out full) piece) ∙ ap (λ l. l ++ piece) (take-append-drop out full ∙ e) ∙ append_assoc wait front piece ∙ ap (λ l. wait ++ l) t)
    ∙ sym (append_assoc x wait bytes)
