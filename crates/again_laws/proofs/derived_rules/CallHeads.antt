-- What stands at the head of a call, a member or `new`, and what may follow it there (13.3).
use Rattle.std.proofs.Common.{Bool, arith, false, inl, inr, leb, not, refl, sym, true, true≢false, ℕ, ◌&&◌, ◌≡◌, ◌≤◌, ◌⊎◌}
use Rattle.std.proofs.lemmas.Bool.{le-leb}
use Rattle.base_token.specs.Kinds.{dot_kind, else_kind, function_kind, left_bracket_kind, left_paren_kind}
use Rattle.tree_spec.specs.Tree.{Tree}
use Rattle.grammar_spec.specs.Tokens.Input.{Input, kind}
use Rattle.grammar_spec.specs.Tokens.Operators.{call_level}
use Rattle.grammar_spec.specs.Tokens.Shape.{level}
use Rattle.print_layout_spec.specs.Layout.{is_head as is_head_stand}
use Rattle.print_layout_spec.specs.declared.look.Stand.{Stand}
use Rattle.print_layout_spec.specs.declared.look.Stand.TheVariants.{Head, Tagged}
use Rattle.again_laws.specs.Derived.Redo.{is_asked, is_head, is_pointed}
use Rattle.again_laws.specs.Derived.Written.{mode_of}
use Rattle.again_laws.proofs.derived_rules.Follow.{Follow, is_closed, no_item}

pub never_pointed : (s : Stand) → is_pointed (mode_of s) ≡ false
never_pointed Head = refl
never_pointed Tagged = refl
never_pointed _ = refl

pub never_asked : (st : Stand) → is_asked (mode_of st) ≡ false
never_asked Head = refl
never_asked Tagged = refl
never_asked _ = refl

pub head_mode : (st : Stand) → is_head (mode_of st) ≡ is_head_stand st
head_mode Head = refl
head_mode Tagged = refl
head_mode _ = refl

pub over_call : (l : ℕ) → call_level ≤ l → 18 ≤ l
over_call l h = omega arith

-- at a head nothing is asked of what follows
pub no_need : (b : Bool) (n : ℕ) → 18 ≤ n → (not b && not (leb 18 n && true)) ≡ true → ⊥
no_need b n l q = by b (leb 18 n) (le-leb 18 n l) q
  where
    by : (b v : Bool) → v ≡ true → (not b && not (v && true)) ≡ true → ⊥
    by true v e q = true≢false (sym q)
    by false true e q = true≢false (sym q)
    by false false e q = true≢false (sym e)

pub follow_head : (e : Tree) (r m : Input) → 18 ≤ level e → kind m ≡ left_paren_kind → Follow Head e r m
follow_head e r m l h = record { quiet = λ q. absurd (no_need (is_closed e) (level e) l q); other = λ i q. absurd (omega (arith, h, q)) }

pub follow_chain : (e : Tree) (r m : Input) → 18 ≤ level e → (kind m ≡ else_kind → ⊥) → Follow Head e r m
follow_chain e r m l h = record { quiet = λ q. absurd (no_need (is_closed e) (level e) l q); other = λ i q. absurd (h q) }

pub follow_none : (e : Tree) (r m : Input) → 18 ≤ level e → Follow Head e r m
follow_none e r m l = record { quiet = λ q. absurd (no_need (is_closed e) (level e) l q); other = λ i. absurd (no_item e (omega arith) i) }

pub leads_on : (ts : Input) → (kind ts ≡ dot_kind) ⊎ (kind ts ≡ left_bracket_kind) → (kind ts ≡ function_kind → ⊥) × (kind ts ≡ else_kind → ⊥)
leads_on ts (inl e) = (λ i. omega (arith, e, i), λ i. omega (arith, e, i))
leads_on ts (inr e) = (λ i. omega (arith, e, i), λ i. omega (arith, e, i))

pub no_seven : left_paren_kind ≡ function_kind → ⊥
no_seven e = omega arith
