-- Regions of templates beside a lexer's token contexts.
use Rattle.std.proofs.Common.{◌≡◌, ℕ, Bool, true, false, cond, ◌||◌, List, [], ◌∷◌, None, refl, sym, subst, true≢false, ⊎_elim}
use Rattle.std.specs.Prelude.{◌==◌}
use Rattle.std.proofs.lemmas.Bool.{cases_Bool, eqb-true}
use Rattle.lex_run_laws.proofs.Standing.{opened_none}
use Rattle.base_token.specs.Kinds.{left_brace_kind, right_brace_kind, back_quote_kind, template_kind, dollar_brace_kind, div_kind, div_assign_kind}
use Rattle.lex_source.specs.declared.contexts.TokenContext.{TokenContext}
use Rattle.lex_source.specs.declared.contexts.TokenContext.TheVariants.{TplQuasi, Tpl}
use Rattle.lex_step_laws.specs.States.{Last, Slash, Characters, Fault, Other, is_start, template_goal, opened, closed, quoted, contexts_after, last_after}
use Rattle.grammar_laws.specs.Slash.TemplateLaws.{Region, Outside, Inside, Behind, Nowhere, closing, after}

-- the contexts that a lexer keeps of braces that are open: none outside of all templates
abbrev pub held : List Bool → List TokenContext
held [] = []
held (false ∷ s) = opened (held s)
held (true ∷ s) = TplQuasi ∷ Tpl ∷ held s

abbrev pub IsNoFault : Last → Type 0
IsNoFault Fault = ⊥
IsNoFault _ = Unit {0}

-- A lexer with these contexts, behind such a token, stands in a region.
abbrev pub At : Region → List TokenContext → Last → Type 0
At (Outside s) cs l = (cs ≡ held s) × IsNoFault l
At (Inside s) cs l = (cs ≡ Tpl ∷ held s) × (l ≡ Other)
At (Behind s) cs l = (cs ≡ Tpl ∷ held s) × (l ≡ Characters)
At Nowhere cs l = Unit {0}

-- ---- the goal of the token that comes

pub no_goal : (s : List Bool) (l : Last) → template_goal (held s) l ≡ None
no_goal [] l = refl
no_goal (false ∷ s) l = opened_none (held s) l
no_goal (true ∷ s) l = refl

-- ---- behind a token

closed_opened : (cs : List TokenContext) → closed (opened cs) ≡ cs
closed_opened [] = refl
closed_opened (c ∷ cs) = refl

quoted_in : (cs : List TokenContext) → quoted (opened cs) ≡ Tpl ∷ opened cs
quoted_in [] = refl
quoted_in (c ∷ cs) = refl

quoted_held : (s : List Bool) → quoted (held s) ≡ Tpl ∷ held s
quoted_held [] = refl
quoted_held (false ∷ s) = quoted_in (held s)
quoted_held (true ∷ s) = refl

at_closing : (s : List Bool) → At (closing s) (closed (held s)) Other
at_closing [] = tt
at_closing (false ∷ s) = (closed_opened (held s), tt)
at_closing (true ∷ s) = (refl, refl)

module _ (from : List ℕ) where
  abbrev Next : Region → List TokenContext → ℕ → Type 0
  Next g cs k = At (after g k) (contexts_after k cs) (last_after k from)

  last_by : (t s : Bool) → IsNoFault (cond t Characters (cond s (Slash from) Other))
  last_by true s = tt
  last_by false true = tt
  last_by false false = tt

  -- any other token than a brace and a back quote
  rest_by : (s : List Bool) (t d : Bool) (l : Last) → IsNoFault l → At (cond (t || d) Nowhere (Outside s)) (cond d (TplQuasi ∷ held s) (held s)) l
  rest_by s true d l h = tt
  rest_by s false true l h = tt
  rest_by s false false l h = (refl, h)

  outside_by : (s : List Bool) (x : Region) (cs : List TokenContext) (l : Last) (a b c : Bool) → a ≡ false → b ≡ false → c ≡ false → At x cs l
      → At (cond a (Outside (false ∷ s)) (cond b (closing s) (cond c (Inside s) x))) (cond a (opened (held s)) (cond b (closed (held s)) (cond c (quoted (held s)) cs))) l
  outside_by s x cs l true b c p q r h = absurd (true≢false p)
  outside_by s x cs l false true c p q r h = absurd (true≢false q)
  outside_by s x cs l false false true p q r h = absurd (true≢false r)
  outside_by s x cs l false false false p q r h = h

  next_outside : (s : List Bool) (k : ℕ) → Next (Outside s) (held s) k
  next_outside s k = ⊎_elim
      (λ (a : (k == left_brace_kind) ≡ true). subst (λ (z : ℕ). Next (Outside s) (held s) z) (sym (eqb-true k left_brace_kind a)) (refl, tt))
      (λ (a : (k == left_brace_kind) ≡ false). ⊎_elim
      (λ (b : (k == right_brace_kind) ≡ true). subst (λ (z : ℕ). Next (Outside s) (held s) z) (sym (eqb-true k right_brace_kind b)) (at_closing s))
      (λ (b : (k == right_brace_kind) ≡ false). ⊎_elim
      (λ (c : (k == back_quote_kind) ≡ true). subst (λ (z : ℕ). Next (Outside s) (held s) z) (sym (eqb-true k back_quote_kind c)) (quoted_held s, refl))
      (λ (c : (k == back_quote_kind) ≡ false). outside_by s (cond ((k == template_kind) || (k == dollar_brace_kind)) Nowhere (Outside s)) (cond (k == dollar_brace_kind) (TplQuasi ∷ held s) (held s)) (last_after k from) (k == left_brace_kind) (k == right_brace_kind) (k == back_quote_kind) a b c
      (rest_by s (k == template_kind) (k == dollar_brace_kind) (last_after k from) (last_by (k == template_kind) ((k == div_kind) || (k == div_assign_kind)))))
      (cases_Bool (k == back_quote_kind)))
      (cases_Bool (k == right_brace_kind)))
      (cases_Bool (k == left_brace_kind))

  nowhere : (x : Region) (cs : List TokenContext) (l : Last) (a : Bool) → a ≡ false → At (cond a x Nowhere) cs l
  nowhere x cs l true e = absurd (true≢false e)
  nowhere x cs l false e = tt

  next_inside : (s : List Bool) (k : ℕ) → Next (Inside s) (Tpl ∷ held s) k
  next_inside s k = ⊎_elim
      (λ (a : (k == template_kind) ≡ true). subst (λ (z : ℕ). Next (Inside s) (Tpl ∷ held s) z) (sym (eqb-true k template_kind a)) (refl, refl))
      (λ (a : (k == template_kind) ≡ false). nowhere (Behind s) (contexts_after k (Tpl ∷ held s)) (last_after k from) (k == template_kind) a)
      (cases_Bool (k == template_kind))

  behind_by : (x y : Region) (cs : List TokenContext) (l : Last) (a b : Bool) → a ≡ false → b ≡ false → At (cond a x (cond b y Nowhere)) cs l
  behind_by x y cs l true b p q = absurd (true≢false p)
  behind_by x y cs l false true p q = absurd (true≢false q)
  behind_by x y cs l false false p q = tt

  next_behind : (s : List Bool) (k : ℕ) → Next (Behind s) (Tpl ∷ held s) k
  next_behind s k = ⊎_elim
      (λ (a : (k == back_quote_kind) ≡ true). subst (λ (z : ℕ). Next (Behind s) (Tpl ∷ held s) z) (sym (eqb-true k back_quote_kind a)) (refl, tt))
      (λ (a : (k == back_quote_kind) ≡ false). ⊎_elim
      (λ (b : (k == dollar_brace_kind) ≡ true). subst (λ (z : ℕ). Next (Behind s) (Tpl ∷ held s) z) (sym (eqb-true k dollar_brace_kind b)) (refl, tt))
      (λ (b : (k == dollar_brace_kind) ≡ false). behind_by (Outside s) (Outside (true ∷ s)) (contexts_after k (Tpl ∷ held s)) (last_after k from) (k == back_quote_kind) (k == dollar_brace_kind) a b)
      (cases_Bool (k == dollar_brace_kind)))
      (cases_Bool (k == back_quote_kind))

  -- behind a token a lexer stands in the region after it
  pub next : (g : Region) (cs : List TokenContext) (l : Last) (k : ℕ) → At g cs l → At (after g k) (contexts_after k cs) (last_after k from)
  next (Outside s) cs l k h = subst (λ (z : List TokenContext). Next (Outside s) z k) (sym h.0) (next_outside s k)
  next (Inside s) cs l k h = subst (λ (z : List TokenContext). Next (Inside s) z k) (sym h.0) (next_inside s k)
  next (Behind s) cs l k h = subst (λ (z : List TokenContext). Next (Behind s) z k) (sym h.0) (next_behind s k)
  next Nowhere cs l k h = tt

-- it is at no start any more
pub past_start : (k : ℕ) (from : List ℕ) → is_start (last_after k from) ≡ false
past_start k from = by_tests (k == template_kind) ((k == div_kind) || (k == div_assign_kind))
  where
    by_tests : (t s : Bool) → is_start (cond t Characters (cond s (Slash from) Other)) ≡ false
    by_tests true s = refl
    by_tests false true = refl
    by_tests false false = refl
