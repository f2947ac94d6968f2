-- The lines that were read, and what is left of the text.
use Rattle.std.proofs.Common.{◌≡◌, ◌==◌, ℕ, true, List, [], ◌∷◌, ◌++◌, length, refl, sym, subst, arith, append_assoc, append-nil}
use Rattle.std.proofs.lemmas.Bool.{eqb-true}
use Rattle.std.specs.Borrow.{Bor}
use Rattle.run_text.specs.Lines.{IsFirstLength, IsLine, AreLines}

-- a list of no length
pub nothing_is : {X : Type 0} (items : List X) → (length items == 0) ≡ true → items ≡ []
nothing_is [] h = refl
nothing_is (item ∷ items) h = absurd (let e = eqb-true (length (item ∷ items)) 0 h in omega arith)

-- a text that is cut behind its first line
pub line_cut : (text line rest : List ℕ) (n : ℕ) → IsFirstLength text n → length line ≡ n → text ≡ line ++ rest → IsLine text line rest
line_cut text line rest n is e whole = record { is = subst (λ (m : ℕ). IsFirstLength text m) (sym e) is; whole = whole }

pub record LinesSoFar (text : List ℕ) (lines : List (Bor (List ℕ))) (rest : List ℕ) : Type 0 where
  pub go_on : (more : List (Bor (List ℕ))) → AreLines more rest → AreLines (lines ++ more) text

pub lines_begun : (text : List ℕ) (lines : List (Bor (List ℕ))) → lines ≡ [] → LinesSoFar text lines text
lines_begun text lines e = record { go_on = λ more h. subst (λ l. AreLines (l ++ more) text) (sym e) h }

pub lines_more : (text : List ℕ) (lines : List (Bor (List ℕ))) (rest : List ℕ) (line : Bor (List ℕ)) (behind : List ℕ)
    → LinesSoFar text lines rest → IsLine rest line.now behind → LinesSoFar text (lines ++ line ∷ []) behind
lines_more text lines rest line behind kept is =
    record {
      go_on = λ more h.
          subst (λ l. AreLines l text) (sym (append_assoc lines (line ∷ []) more)) (kept.go_on (line ∷ more) (behind, (is, h)));
    }

pub lines_done : (text : List ℕ) (lines : List (Bor (List ℕ))) (rest : List ℕ) → LinesSoFar text lines rest → rest ≡ []
    → AreLines lines text
lines_done text lines rest kept e = subst (λ l. AreLines l text) (append-nil lines) (kept.go_on [] e)
