-- Which tokens stand under which goals of places.
use Rattle.std.proofs.Common.{◌≡◌, ℕ, true, List, ◌∷◌, sym, subst, true≢false}
use Rattle.base_token.specs.declared.place.Span.{Span}
use Rattle.base_token.specs.declared.syntax.EsSyntax.{EsSyntax}
use Rattle.base_token.specs.Kinds.{regex_kind, div_kind}
use Rattle.tree_spec.specs.Tree.{regex_lit}
use Rattle.grammar_spec.specs.Tokens.Input.{PlacedToken, Input, Takes, usual, script_code, div_goal, regexp_goal}
use Rattle.grammar_spec.specs.Grammar.{Produces}

-- A regular expression stands under no goal of operators, and a slash under none of operands.
no_pattern : (x : EsSyntax) (s : Span) (body flags : List ℕ) (p : PlacedToken) (ps : List PlacedToken) (last : ℕ) (r : Input) → p.spot.token.kind ≡ regex_kind → p.goal ≡ div_goal → Produces (regex_lit s body flags) (script_code x) (record { last = last; places = p ∷ ps }) r → ⊥
no_pattern x s body flags p ps last r k g h = true≢false (sym (subst (λ (g : ℕ). usual regex_kind g ≡ true) g (subst (λ (k : ℕ). usual k p.goal ≡ true) k h.1.1.0)))

no_slash : (x : EsSyntax) (p : PlacedToken) (ps : List PlacedToken) (last : ℕ) (r : Input) → p.goal ≡ regexp_goal → Takes (script_code x) div_kind (record { last = last; places = p ∷ ps }) r → ⊥
no_slash x p ps last r g h = true≢false (sym (subst (λ (g : ℕ). usual div_kind g ≡ true) g (subst (λ (k : ℕ). usual k p.goal ≡ true) h.0 h.1.0)))
