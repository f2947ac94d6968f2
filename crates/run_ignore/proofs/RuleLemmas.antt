-- The last rule that matches, and the folders above a path.
use Rattle.std.proofs.Common.{◌≡◌, ℕ, ◌+◌, ◌<◌, ◌≤◌, Bool, true, ◌↔◌, List, [], ◌∷◌, ◌++◌, length, drop, take, get_or, refl, ap, sym, subst, inl, inr, ◌∙◌, arith}
use Rattle.std.proofs.lemmas.Bool.{cases_order, cases_eq}
use Rattle.std.proofs.lemmas.List.{get_or_default, take-append-drop, drop_more}
use Rattle.run_ignore.specs.Rules.{RuleMatches, verdict_said, IsRuleAt, Decides, Says, LeavesOut}
use Rattle.run_ignore.specs.declared.rules.Rule.{Rule}
use Rattle.run_ignore.specs.declared.rules.Verdict.{Verdict}
use Rattle.run_ignore.specs.declared.rules.Verdict.TheVariants.{LeftOut, Unsaid}

decides_one : (rules : List Rule) (path : List ℕ) (is_dir : Bool) (v w : Verdict) → Decides rules path is_dir v → Decides rules path is_dir w → v ≡ w
decides_one rules path is_dir v w p q =
    elim (cases_order p.place q.place) [
      | inl same ↦
          let one : p.rule ≡ q.rule =
          p.here.1 ∙ (get_or_default rules p.place p.rule q.rule p.here.0 ∙ (ap (λ k. get_or rules k q.rule) same ∙ sym q.here.1)) in
          p.said ∙ (ap verdict_said one ∙ sym q.said)
      | inr e ↦ elim e [
        | inl before ↦ absurd (p.last q.place q.rule before q.here q.matches)
        | inr behind ↦ absurd (q.last p.place p.rule behind p.here p.matches)
      ]
    ]

-- the rules say one thing of a path
pub says_one : (rules : List Rule) (path : List ℕ) (is_dir : Bool) (v w : Verdict) → Says rules path is_dir v → Says rules path is_dir w → v ≡ w
says_one rules path is_dir v w a b =
    elim a [
      | inl p ↦ elim b [ inl q ↦ decides_one rules path is_dir v w p q | inr q ↦ absurd (q.none p.place p.rule p.here p.matches) ]
      | inr p ↦ elim b [ inl q ↦ absurd (p.none q.place q.rule q.here q.matches) | inr q ↦ p.said ∙ sym q.said ]
    ]

-- no rule from one on matches
abbrev pub NoneFrom : ℕ → List Rule → List ℕ → Bool → Type 0
NoneFrom at rules path is_dir = (k : ℕ) → (other : Rule) → at ≤ k → IsRuleAt rules k other → RuleMatches other path is_dir → ⊥

-- nor does the one before
pub none_before : (rules : List Rule) (path : List ℕ) (is_dir : Bool) (at next : ℕ) (rule : Rule) → at + 1 ≡ next
    → rule ≡ get_or rules at rule → (RuleMatches rule path is_dir → ⊥) → NoneFrom next rules path is_dir → NoneFrom at rules path is_dir
none_before rules path is_dir at next rule n here apart_from kept k other from is m =
    elim (cases_eq k at) [
      | inl same ↦
          let one : other ≡ rule = is.1 ∙ (ap (λ j. get_or rules j other) same ∙ (get_or_default rules at other rule (subst (λ j. j < length rules) same is.0) ∙ sym here)) in
          apart_from (subst (λ r. RuleMatches r path is_dir) one m)
      | inr apart ↦ kept k other (omega arith) is m
    ]

-- the last one that matches decides
pub decided : (rules : List Rule) (path : List ℕ) (is_dir : Bool) (at next : ℕ) (rule : Rule) (verdict : Verdict) → at + 1 ≡ next
    → at < length rules → rule ≡ get_or rules at rule → RuleMatches rule path is_dir → NoneFrom next rules path is_dir
    → verdict ≡ verdict_said rule → Says rules path is_dir verdict
decided rules path is_dir at next rule verdict n within here m kept said =
    inl (record {
      place = at;
      rule = rule;
      here = (within, here);
      matches = m;
      last = λ k other behind is its. kept k other (omega arith) is its;
      said = said;
    })

pub unsaid : (rules : List Rule) (path : List ℕ) (is_dir : Bool) (at : ℕ) → at ≤ 0 → NoneFrom at rules path is_dir → Says rules path is_dir Unsaid
unsaid rules path is_dir at h kept =
    inr (record { none = λ k other is m. kept k other (omega arith) is m; said = refl })

-- no folder above a path, up to this place of it, is left out
abbrev pub KeptBefore : ℕ → List Rule → List ℕ → Type 0
KeptBefore at rules path = (k : ℕ) → k < at → get_or path k 0 ≡ 47 → Says rules (take k path) true LeftOut → ⊥

slash_at : (folders rest : List ℕ) → get_or (folders ++ 47 ∷ rest) (length folders) 0 ≡ 47
slash_at [] rest = refl
slash_at (byte ∷ folders) rest = slash_at folders rest

folders_at : (folders rest : List ℕ) → take (length folders) (folders ++ 47 ∷ rest) ≡ folders
folders_at [] rest = refl
folders_at (byte ∷ folders) rest = ap (λ l. byte ∷ l) (folders_at folders rest)

within : (folders rest : List ℕ) → length folders < length (folders ++ 47 ∷ rest)
within [] rest = omega arith
within (byte ∷ folders) rest = let h = within folders rest in omega arith

-- where no folder above a path is left out, the rules leave it out exactly where they say so of it
pub kept_above : (rules : List Rule) (path : List ℕ) (is_dir : Bool) (answer : Bool) → KeptBefore (length path) rules path
    → ((answer ≡ true) ↔ Says rules path is_dir LeftOut) → (answer ≡ true) ↔ LeavesOut rules path is_dir
kept_above rules path is_dir answer kept said = (
  λ h. inl (said.0 h),
  λ m. elim m [
    | inl p ↦ said.1 p
    | inr p ↦
        let k : ℕ = length p.0 in
        let is : path ≡ p.0 ++ 47 ∷ p.1.0 = p.1.1.0 in
        absurd (kept k
        (subst (λ l. length p.0 < length l) (sym is) (within p.0 p.1.0))
        (ap (λ l. get_or l k 0) is ∙ slash_at p.0 p.1.0)
        (subst (λ l. Says rules l true LeftOut) (sym (ap (take k) is ∙ folders_at p.0 p.1.0)) p.1.1.1))
  ],
)

-- a folder above a path that is left out
pub left_above : (rules : List Rule) (path : List ℕ) (is_dir : Bool) (k : ℕ) → k < length path → get_or path k 0 ≡ 47
    → Says rules (take k path) true LeftOut → LeavesOut rules path is_dir
left_above rules path is_dir k h slash m =
    inr (
      take k path,
      (
        drop (k + 1) path,
        (sym (take-append-drop k path) ∙ ap (λ l. take k path ++ l) (drop_more path k 0 h ∙ ap (λ b. b ∷ drop (k + 1) path) slash), m),
      ),
    )
