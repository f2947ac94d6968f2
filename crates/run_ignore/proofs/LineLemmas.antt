-- The rules that were read, and the lines that are left.
use Rattle.std.proofs.Common.{◌≡◌, ℕ, ◌+◌, ◌-◌, ◌≤◌, List, length, take, drop, take_all, length-drop, drop_of_length-le, ap, ◌∙◌, arith, [], ◌∷◌, ◌++◌, refl, sym, subst, inl, inr, append_assoc, append-nil}
use Rattle.run_ignore.specs.Lines.{IsKept, IsNoRule, IsRule, IsLineLength, IsReturned, IsLine, AddsRule, AreLines, AreRules, AreRulesOf}
use Rattle.run_ignore.specs.declared.rules.Rule.{Rule}

take_nil : (n : ℕ) → ◌≡◌ {A = List ℕ} (take n []) []
take_nil n = let l : length {A = ℕ} [] ≤ n = omega arith in take_all n [] l

pub record RulesSoFar (text : List ℕ) (rules : List Rule) (rest : List ℕ) : Type 0 where
  pub go_on : (lines : List (List ℕ)) → (more : List Rule) → AreLines lines rest → AreRules lines more → AreRulesOf text (rules ++ more)

pub rules_begun : (text : List ℕ) (rules : List Rule) → rules ≡ [] → RulesSoFar text rules text
rules_begun text rules e =
    record { go_on = λ lines more a r. subst (λ l. AreRulesOf text (l ++ more)) (sym e) (lines, (a, r)) }

rules_none : (text : List ℕ) (rules : List Rule) (rest line kept behind : List ℕ) → RulesSoFar text rules rest
    → IsLine rest line behind → IsKept line kept → IsNoRule kept → RulesSoFar text rules behind
rules_none text rules rest line kept behind so is k blank =
    record { go_on = λ lines more a r. so.go_on (line ∷ lines) more (behind, (is, a)) (kept, (k, inl (blank, r))) }

rules_more : (text : List ℕ) (rules : List Rule) (rest line kept behind : List ℕ) (rule : Rule) → RulesSoFar text rules rest
    → IsLine rest line behind → IsKept line kept → (IsNoRule kept → ⊥) → IsRule kept rule → RulesSoFar text (rules ++ rule ∷ []) behind
rules_more text rules rest line kept behind rule so is k full r =
    record {
      go_on = λ lines more a rs.
          subst (λ l. AreRulesOf text l) (sym (append_assoc rules (rule ∷ []) more))
          (so.go_on (line ∷ lines) (rule ∷ more) (behind, (is, a)) (kept, (k, inr (full, (rule, (more, (refl, (r, rs))))))));
    }

-- a line that adds its rule or none
pub rules_added : (text : List ℕ) (rules : List Rule) (rest line behind : List ℕ) (new : List Rule) → RulesSoFar text rules rest
    → IsLine rest line behind → AddsRule line rules new → RulesSoFar text new behind
rules_added text rules rest line behind new so is adds =
    elim adds.1.1 [
      | inl p ↦
          subst (λ (l : List Rule). RulesSoFar text l behind) (sym p.1) (rules_none text rules rest line adds.0 behind so is adds.1.0 p.0)
      | inr p ↦
          subst (λ (l : List Rule). RulesSoFar text l behind) (sym p.1.1.0)
          (rules_more text rules rest line adds.0 behind p.1.0 so is adds.1.0 p.0 p.1.1.1)
    ]

pub rules_done : (text : List ℕ) (rules : List Rule) (rest : List ℕ) → RulesSoFar text rules rest → rest ≡ [] → AreRulesOf text rules
rules_done text rules rest so e = subst (λ l. AreRulesOf text l) (append-nil rules) (so.go_on [] [] e refl)

-- a line that a line feed ends
pub line_is : (text line : List ℕ) (n : ℕ) → IsLineLength text n → IsReturned (take n text) line
    → IsLine text line (take (length text - (n + 1)) (drop (n + 1) text))
line_is text line n is whole =
    let e : take (length text - (n + 1)) (drop (n + 1) text) ≡ drop (n + 1) text =
    take_all (length text - (n + 1)) (drop (n + 1) text) (omega (arith, length-drop (n + 1) text)) in
    record { place = n; is = is; whole = whole; behind = e }

-- the last line
pub last_line_is : (text line : List ℕ) (n : ℕ) → IsLineLength text n → length text ≤ n → IsReturned (take n text) line
    → IsLine text line (take (length text - n) (drop n text))
last_line_is text line n is h whole =
    let e : take (length text - n) (drop n text) ≡ drop (n + 1) text =
    ap (take (length text - n)) (drop_of_length-le text h)
    ∙ (take_nil (length text - n) ∙ sym (drop_of_length-le text (omega arith))) in
    record { place = n; is = is; whole = whole; behind = e }
