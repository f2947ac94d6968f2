-- The blocks that were found, and the lines that are left.
use Rattle.std.proofs.Common.{◌≡◌, ℕ, ◌+◌, ◌<◌, true, List, [], ◌∷◌, ◌++◌, length, drop, get_or, ap, sym, subst, inl, inr, ◌∙◌, arith, append_assoc, append-nil}
use Rattle.std.proofs.lemmas.Bool.{cases_eq}
use Rattle.std.proofs.lemmas.List.{get_or_default}
use Rattle.std.proofs.lemmas.Slice.Eq.{bytes_eq-Decides}
use Rattle.std.specs.Str.{bytes_eq}
use Rattle.std.specs.Borrow.{Bor}
use Rattle.run_text.specs.Blocks.{Agree, IsBlock, Turns}
use Rattle.run_text.specs.declared.turning.Block.{Block}

pub agree_none : (old new : List (Bor (List ℕ))) → Agree 0 old new
agree_none old new k line other less here there = absurd (omega arith)

-- one more line is the same
pub agree_more : (old new : List (Bor (List ℕ))) (count : ℕ) (line other : Bor (List ℕ)) → Agree count old new
    → line ≡ get_or old count line → other ≡ get_or new count other → bytes_eq line.now other.now ≡ true → Agree (count + 1) old new
agree_more old new count line other so here there same k this that less at_old at_new =
    elim (cases_eq k count) [
      | inl e ↦
          let one : this ≡ line =
          at_old.1 ∙ (ap (λ j. get_or old j this) e ∙ (get_or_default old count this line (subst (λ j. j < length old) e at_old.0) ∙ sym here)) in
          let two : that ≡ other =
          at_new.1 ∙ (ap (λ j. get_or new j that) e ∙ (get_or_default new count that other (subst (λ j. j < length new) e at_new.0) ∙ sym there)) in
          ap (λ l. l.now) one ∙ ((bytes_eq-Decides line.now other.now).0 same ∙ sym (ap (λ l. l.now) two))
      | inr apart ↦ so k this that (omega arith) at_old at_new
    ]

-- the same of the lines that are read there
pub agree_at : (old new : List (Bor (List ℕ))) (count : ℕ) (d e : Bor (List ℕ)) → Agree count old new → count < length old → count < length new
    → bytes_eq (get_or old count d).now (get_or new count e).now ≡ true → Agree (count + 1) old new
agree_at old new count d e so in_old in_new same =
    agree_more old new count (get_or old count d) (get_or new count e) so (get_or_default old count d (get_or old count d) in_old)
    (get_or_default new count e (get_or new count e) in_new) same

pub record BlocksSoFar (old new : List (Bor (List ℕ))) (blocks : List Block) (left coming : List (Bor (List ℕ))) : Type 0 where
  pub go_on : (more : List Block) → Turns more left coming → Turns (blocks ++ more) old new

pub blocks_begun : (old new : List (Bor (List ℕ))) (blocks : List Block) → blocks ≡ [] → BlocksSoFar old new blocks old new
blocks_begun old new blocks e = record { go_on = λ more h. subst (λ l. Turns (l ++ more) old new) (sym e) h }

pub blocks_more : (old new : List (Bor (List ℕ))) (blocks : List Block) (left coming : List (Bor (List ℕ))) (block : Block)
    (more rest : List (Bor (List ℕ))) → BlocksSoFar old new blocks left coming → IsBlock block left coming
    → more ≡ drop block.removed (drop block.kept left) → rest ≡ drop block.added (drop block.kept coming)
    → BlocksSoFar old new (blocks ++ block ∷ []) more rest
blocks_more old new blocks left coming block more rest so is e f =
    record {
      go_on = λ others h.
          subst (λ l. Turns l old new) (sym (append_assoc blocks (block ∷ []) others))
          (so.go_on (block ∷ others) (is, subst (λ l. Turns others l (drop block.added (drop block.kept coming))) e (subst (λ l. Turns others more l) f h)));
    }

pub blocks_done : (old new : List (Bor (List ℕ))) (blocks : List Block) (left coming : List (Bor (List ℕ)))
    → BlocksSoFar old new blocks left coming → left ≡ [] → coming ≡ [] → Turns blocks old new
blocks_done old new blocks left coming so e f =
    subst (λ l. Turns l old new) (append-nil blocks) (so.go_on [] (e, f))
