-- A step is determined.
use Rattle.std.proofs.Common.{◌≡◌, ◌≢◌, ℕ, inl, inr, Bool, false, List, [], Option, Some, None, refl, sym, ap, subst, ◌∙◌}
use Rattle.base_token.specs.Tokens.{Spot}
use Rattle.lex_literal.specs.declared.template.Ending.TheVariants.{BackQuote, Substitution}
use Rattle.lex_literal.specs.declared.template.Ending.{Ending}
use Rattle.lex_literal.specs.Templates as templates
use Rattle.lex_token.specs.declared.goal.LexicalGoal.{LexicalGoal}
use Rattle.lex_token.specs.declared.goal.LexicalGoal.TheVariants.{Div, RegExp, TemplateTail, TemplateEnd}
use Rattle.lex_token.specs.Lexemes.{SpecLexeme, IsLexeme}
use Rattle.lex_token.proofs.LexemeLemmas.{none_at_end, one_lexeme}
use Rattle.lex_step_laws.specs.States.{Last, Start, Slash, Characters, Fault, Other, State, again, behind, faulty, goal_of, is_start, shebang, spot_at, template_goal}
use Rattle.lex_step_laws.specs.Steps.{Ends, IsFirst, IsGoing, IsOutside, IsPlain, IsRead, IsStep, IsStepBy, IsStepOf}
use Rattle.lex_step_laws.proofs.TriviaLemmas.{one_bad, one_hashbang, one_skipped, skipped_not_bad}

abbrev Same : Option Spot → Option Spot → State → State → Type 0
Same a b new other = (a ≡ b) × (new ≡ other)

pub no_ending : (ending : Ending) (rest : List ℕ) → templates.Ends ending [] rest → ⊥
no_ending BackQuote rest e = cc
no_ending Substitution rest e = cc

none_at : (goal : LexicalGoal) → goal ≢ TemplateTail → (x : SpecLexeme) (rest : List ℕ) → IsLexeme goal [] x rest → ⊥
none_at Div t x rest h = none_at_end Div [] refl x rest h
none_at RegExp t x rest h = none_at_end RegExp [] refl x rest h
none_at TemplateTail t x rest h = t refl
none_at TemplateEnd t x rest h = no_ending h.0 rest h.1

token_ends : (goal : LexicalGoal) (from : List ℕ) (x : SpecLexeme) (rest : List ℕ) → IsLexeme goal from x rest → Ends goal from → ⊥
token_ends goal from x rest h e = none_at goal e.0 x rest (subst (λ t. IsLexeme goal t x rest) e.1 h)

same_both : (a b c : Option Spot) (new other made : State) → a ≡ c → b ≡ c → new ≡ made → other ≡ made → Same a b new other
same_both a b c new other made e f g h = (e ∙ sym f, g ∙ sym h)

one_read : (goal : LexicalGoal) (line_break : Bool) (from : List ℕ) (s new other : State) (a b : Option Spot)
    → IsRead goal line_break from s a new → IsRead goal line_break from s b other → Same a b new other
one_read goal line_break from s new other a b (inl h) (inl g) =
    let k = one_lexeme goal from h.0 g.0 h.1 g.1 h.2 g.2 in (
      h.3 ∙ ap (λ (x : SpecLexeme). Some (spot_at s.tokens.end line_break x.token from h.1)) k.0
          ∙ ap (λ (r : List ℕ). Some (spot_at s.tokens.end line_break g.0.token from r)) k.1 ∙ sym g.3,
      h.4 ∙ ap (λ (x : SpecLexeme). behind s line_break from x h.1) k.0 ∙ ap (λ (r : List ℕ). behind s line_break from g.0 r) k.1 ∙ sym g.4,
    )
one_read goal line_break from s new other a b (inl h) (inr (inl g)) = absurd (g.0 h.0 h.1 h.2)
one_read goal line_break from s new other a b (inl h) (inr (inr g)) = absurd (token_ends goal from h.0 h.1 h.2 g.0)
one_read goal line_break from s new other a b (inr (inl h)) (inl g) = absurd (h.0 g.0 g.1 g.2)
one_read goal line_break from s new other a b (inr (inl h)) (inr (inl g)) = same_both a b _ new other _ h.2 g.2 h.3 g.3
one_read goal line_break from s new other a b (inr (inl h)) (inr (inr g)) = absurd (h.1 g.0)
one_read goal line_break from s new other a b (inr (inr h)) (inl g) = absurd (token_ends goal from g.0 g.1 g.2 h.0)
one_read goal line_break from s new other a b (inr (inr h)) (inr (inl g)) = absurd (g.1 h.0)
one_read goal line_break from s new other a b (inr (inr h)) (inr (inr g)) = same_both a b _ new other _ h.1 g.1 h.2 g.2

one_plain : (s new other : State) (a b : Option Spot) → IsPlain s a new → IsPlain s b other → Same a b new other
one_plain s new other a b (inl h) (inl g) =
    let k = one_skipped (goal_of s.settings.ctx) (is_start s.tokens.last) s.tokens.left h.0 g.0 h.1 g.1 h.2 g.2 in
    one_read Div g.0 g.1 s new other a b (subst (λ r. IsRead Div g.0 r s a new) k.1 (subst (λ l. IsRead Div l h.1 s a new) k.0 h.3)) g.3
one_plain s new other a b (inl h) (inr g) = absurd (skipped_not_bad (goal_of s.settings.ctx) (is_start s.tokens.last) s.tokens.left h.0 h.1 g.0 h.2 g.1)
one_plain s new other a b (inr h) (inl g) = absurd (skipped_not_bad (goal_of s.settings.ctx) (is_start s.tokens.last) s.tokens.left g.0 g.1 h.0 g.2 h.1)
one_plain s new other a b (inr h) (inr g) =
    let k = one_bad (goal_of s.settings.ctx) (is_start s.tokens.last) s.tokens.left h.0 g.0 h.1 g.1 in
    (h.2 ∙ ap (λ (r : List ℕ). Some (faulty s.tokens.end false r)) k ∙ sym g.2, h.3 ∙ sym g.3)

one_first : (s new other : State) (a b : Option Spot) → IsFirst s a new → IsFirst s b other → Same a b new other
one_first s new other a b (inl h) (inl g) =
    let k = one_hashbang s.tokens.left h.0 g.0 h.1 g.1 h.2 g.2 in (
      h.3 ∙ ap (λ (own : List ℕ). Some (spot_at s.tokens.end false (shebang own).token s.tokens.left h.1)) k.0
          ∙ ap (λ (r : List ℕ). Some (spot_at s.tokens.end false (shebang g.0).token s.tokens.left r)) k.1 ∙ sym g.3,
      h.4 ∙ ap (λ (own : List ℕ). behind s false s.tokens.left (shebang own) h.1) k.0
          ∙ ap (λ (r : List ℕ). behind s false s.tokens.left (shebang g.0) r) k.1 ∙ sym g.4,
    )
one_first s new other a b (inl h) (inr g) = absurd (g.0 h.2.0 h.2.1)
one_first s new other a b (inr h) (inl g) = absurd (h.0 g.2.0 g.2.1)
one_first s new other a b (inr h) (inr g) = one_plain s new other a b h.1 g.1

one_outside : (last : Last) (s new other : State) (a b : Option Spot) → IsOutside last s a new → IsOutside last s b other → Same a b new other
one_outside Start s new other a b h g = one_first s new other a b h g
one_outside (Slash from) s new other a b h g = one_plain s new other a b h g
one_outside Characters s new other a b h g = one_plain s new other a b h g
one_outside Fault s new other a b h g = one_plain s new other a b h g
one_outside Other s new other a b h g = one_plain s new other a b h g

one_going : (goal : Option LexicalGoal) (s new other : State) (a b : Option Spot) → IsGoing goal s a new → IsGoing goal s b other → Same a b new other
one_going (Some goal) s new other a b h g = one_read goal false s.tokens.left s new other a b h g
one_going None s new other a b h g = one_outside s.tokens.last s new other a b h g

one_by : (from : Option (List ℕ)) (s new other : State) (a b : Option Spot) → IsStepBy from s a new → IsStepBy from s b other → Same a b new other
one_by (Some from) s new other a b h g = one_read RegExp s.tokens.line_break from s new other a b h g
one_by None s new other a b h g = one_going (template_goal s.settings.contexts s.tokens.last) s new other a b h g

one_of : (last : Last) (s new other : State) (a b : Option Spot) → IsStepOf last s a new → IsStepOf last s b other → Same a b new other
one_of Start s new other a b h g = one_by (again s) s new other a b h g
one_of (Slash from) s new other a b h g = one_by (again s) s new other a b h g
one_of Characters s new other a b h g = one_by (again s) s new other a b h g
one_of Fault s new other a b h g = same_both a b _ new other _ h.0 g.0 h.1 g.1
one_of Other s new other a b h g = one_by (again s) s new other a b h g

-- At most one step is made from a state.
pub one_step : (s new other : State) (a b : Option Spot) → IsStep s a new → IsStep s b other → Same a b new other
one_step s new other a b h g = one_of s.tokens.last s new other a b h.is g.is

fault_by : (last : Last) (s new : State) (out : Option Spot) → last ≡ Fault → IsStepOf last s out new → (out ≡ None) × (new ≡ s)
fault_by last s new out e h = subst (λ l. IsStepOf l s out new) e h

-- Behind a fault nothing comes.
pub ends_by_fault : (s new : State) (out : Option Spot) → s.tokens.last ≡ Fault → IsStep s out new → (out ≡ None) × (new ≡ s)
ends_by_fault s new out e h = fault_by s.tokens.last s new out e h.is
