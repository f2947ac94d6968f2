-- A lexer in code of the same goal takes the same steps.
use Rattle.std.proofs.Common.{◌≡◌, ℕ, Bool, false, List, Option, Some, None, inl, inr, refl, sym, ap, ◌∙◌, subst}
use Rattle.base_token.specs.Tokens.{Spot}
use Rattle.lex_token.specs.declared.goal.LexicalGoal.{LexicalGoal}
use Rattle.lex_token.specs.declared.goal.LexicalGoal.TheVariants.{Div, RegExp}
use Rattle.lex_source.specs.declared.contexts.TokenContext.{TokenContext}
use Rattle.lex_source.specs.Settings.{Settings}
use Rattle.lex_step_laws.specs.States.{Last, Start, Slash, Characters, Fault, Other, State, Text, again, behind, ended, shebang, stopped, template_goal}
use Rattle.lex_step_laws.specs.Steps.{IsRead, IsPlain, IsFirst, IsOutside, IsGoing, IsStepBy, IsStepOf, IsStep}
use Rattle.lex_step_laws.specs.Bounds as stepping
use Rattle.lex_step_laws.specs.Bounds.{bound}
use Rattle.lex_step_laws.proofs.Bounds.{bound_falls}
use Rattle.lex_step_laws.proofs.Steps.{always_steps}
use Rattle.ecma_lexer.specs.Machine.{step_of, lexer_machine}
use Rattle.ecma_lexer.proofs.MachineLemmas.{step_is}
use Rattle.parse_lexer_laws.specs.Constant.{Falls}
use Rattle.parse_lexer_laws.proofs.Orderly.{tokens_read}
use Rattle.parse_lexer_laws.specs.Lexed.{OfGoal, SameText, LexerConstant, LexerRead}

-- ---- a step keeps the goal

module _ (s new : State) (out : Option Spot) where
  Keeps : Type 0
  Keeps = new.settings.ctx.module_ ≡ s.settings.ctx.module_

  read_keeps : (goal : LexicalGoal) (b : Bool) (from : List ℕ) → IsRead goal b from s out new → Keeps
  unfolding Keeps
  read_keeps goal b from (inl h) = ap (λ z. z.settings.ctx.module_) h.4
  read_keeps goal b from (inr (inl h)) = ap (λ z. z.settings.ctx.module_) h.3
  read_keeps goal b from (inr (inr h)) = ap (λ z. z.settings.ctx.module_) h.2

  plain_keeps : IsPlain s out new → Keeps
  unfolding Keeps
  plain_keeps (inl h) = read_keeps Div h.0 h.1 h.3
  plain_keeps (inr h) = ap (λ z. z.settings.ctx.module_) h.3

  first_keeps : IsFirst s out new → Keeps
  unfolding Keeps
  first_keeps (inl h) = ap (λ z. z.settings.ctx.module_) h.4
  first_keeps (inr h) = plain_keeps h.1

  outside_keeps : (last : Last) → IsOutside last s out new → Keeps
  outside_keeps Start h = first_keeps h
  outside_keeps (Slash from) h = plain_keeps h
  outside_keeps Characters h = plain_keeps h
  outside_keeps Fault h = plain_keeps h
  outside_keeps Other h = plain_keeps h

  going_keeps : (goal : Option LexicalGoal) → IsGoing goal s out new → Keeps
  going_keeps (Some goal) h = read_keeps goal _ _ h
  going_keeps None h = outside_keeps s.tokens.last h

  by_keeps : (from : Option (List ℕ)) → IsStepBy from s out new → Keeps
  by_keeps (Some from) h = read_keeps RegExp _ from h
  by_keeps None h = going_keeps (template_goal s.settings.contexts s.tokens.last) h

  of_keeps : (last : Last) → IsStepOf last s out new → Keeps
  unfolding Keeps
  of_keeps Start h = by_keeps (again s) h
  of_keeps (Slash from) h = by_keeps (again s) h
  of_keeps Characters h = by_keeps (again s) h
  of_keeps Fault h = ap (λ z. z.settings.ctx.module_) h.1
  of_keeps Other h = by_keeps (again s) h

-- ---- the same step

-- the state with other settings, but in the same contexts and under the same goal
retold : State → Settings → State
retold s u = record { tokens = s.tokens; settings = record u { contexts = s.settings.contexts; next_regexp = s.settings.next_regexp; ctx = record u.ctx { module_ = s.settings.ctx.module_ } } }

module _ (s : State) (u : Settings) (new : State) (out : Option Spot) where
  -- such a step is made from there too, and what it leaves is the same
  Moves : (State → Type 0) → Type 0
  Moves Is = (other : State) × Is other × SameText new other

  read_moves : (goal : LexicalGoal) (b : Bool) (from : List ℕ) → IsRead goal b from s out new → Moves (λ z. IsRead goal b from (retold s u) out z)
  unfolding Moves retold
  read_moves goal b from (inl h) = (behind (retold s u) b from h.0 h.1, inl (h.0, h.1, h.2, h.3, refl), subst (λ z. SameText z (behind (retold s u) b from h.0 h.1)) (sym h.4) (refl, refl, refl, refl))
  read_moves goal b from (inr (inl h)) = (stopped (retold s u) b, inr (inl (h.0, h.1, h.2, refl)), subst (λ z. SameText z (stopped (retold s u) b)) (sym h.3) (refl, refl, refl, refl))
  read_moves goal b from (inr (inr h)) = (ended (retold s u), inr (inr (h.0, h.1, refl)), subst (λ z. SameText z (ended (retold s u))) (sym h.2) (refl, refl, refl, refl))

  plain_moves : IsPlain s out new → Moves (λ z. IsPlain (retold s u) out z)
  unfolding Moves retold
  plain_moves (inl h) = let k = read_moves Div h.0 h.1 h.3 in (k.0, inl (h.0, h.1, h.2, k.1), k.2)
  plain_moves (inr h) = (stopped (retold s u) false, inr (h.0, h.1, h.2, refl), subst (λ z. SameText z (stopped (retold s u) false)) (sym h.3) (refl, refl, refl, refl))

  first_moves : IsFirst s out new → Moves (λ z. IsFirst (retold s u) out z)
  unfolding Moves retold
  first_moves (inl h) = (behind (retold s u) false s.tokens.left (shebang h.0) h.1, inl (h.0, h.1, h.2, h.3, refl), subst (λ z. SameText z (behind (retold s u) false s.tokens.left (shebang h.0) h.1)) (sym h.4) (refl, refl, refl, refl))
  first_moves (inr h) = let k = plain_moves h.1 in (k.0, inr (h.0, k.1), k.2)

  outside_moves : (last : Last) → IsOutside last s out new → Moves (λ z. IsOutside last (retold s u) out z)
  outside_moves Start h = first_moves h
  outside_moves (Slash from) h = plain_moves h
  outside_moves Characters h = plain_moves h
  outside_moves Fault h = plain_moves h
  outside_moves Other h = plain_moves h

  going_moves : (goal : Option LexicalGoal) → IsGoing goal s out new → Moves (λ z. IsGoing goal (retold s u) out z)
  unfolding retold
  going_moves (Some goal) h = read_moves goal false s.tokens.left h
  going_moves None h = outside_moves s.tokens.last h

  by_moves : (from : Option (List ℕ)) → IsStepBy from s out new → Moves (λ z. IsStepBy from (retold s u) out z)
  unfolding retold
  by_moves (Some from) h = read_moves RegExp s.tokens.line_break from h
  by_moves None h = going_moves (template_goal s.settings.contexts s.tokens.last) h

  of_moves : (last : Last) → IsStepOf last s out new → Moves (λ z. IsStepOf last (retold s u) out z)
  unfolding Moves retold
  of_moves Start h = by_moves (again s) h
  of_moves (Slash from) h = by_moves (again s) h
  of_moves Characters h = by_moves (again s) h
  of_moves Fault h = (retold s u, (h.0, refl), subst (λ z. SameText z (retold s u)) (sym h.1) (refl, refl, refl, refl))
  of_moves Other h = by_moves (again s) h

  step_moves : IsStep s out new → Moves (λ z. IsStep (retold s u) out z)
  unfolding Moves retold
  step_moves h = let k = of_moves s.tokens.last h.is in (k.0, record { is = k.1 }, k.2)

-- the states that are the same are these
retold_as : (P : State → Type 0) (s t : State) → SameText s t → P (retold s t.settings) → P t
unfolding retold
retold_as P s t e h = subst (λ (z : Text). P (record { tokens = z; settings = t.settings })) e.0 (subst (λ (z : List TokenContext). P (record { tokens = s.tokens; settings = record t.settings { contexts = z } })) e.1
    (subst (λ (z : Option ℕ). P (record { tokens = s.tokens; settings = record t.settings { contexts = s.settings.contexts; next_regexp = z } })) e.2
    (subst (λ (z : Bool). P (record { tokens = s.tokens; settings = record t.settings { contexts = s.settings.contexts; next_regexp = s.settings.next_regexp; ctx = record t.settings.ctx { module_ = z } } })) e.3 h)))

abbrev HasStep : State → State → Type 0
HasStep s t = (other : State) × IsStep t (step_of s).0 other × SameText (step_of s).1 other

moved : (s t : State) → SameText s t → HasStep s t
unfolding Moves step_of
moved s t e = retold_as (λ z. HasStep s z) s t e (step_moves s t.settings (always_steps s).1 (always_steps s).0 (always_steps s).2)

lexer_falls : (s : State) → Falls (step_of s).0 (bound s.tokens) (bound (step_of s).1.tokens)
unfolding step_of
lexer_falls s = by_token (always_steps s).0 (bound_falls s (always_steps s).1 (always_steps s).0 (always_steps s).2)
  where
    by_token : (x : Option Spot) → stepping.Falls x (bound s.tokens) (bound (always_steps s).1.tokens) → Falls x (bound s.tokens) (bound (always_steps s).1.tokens)
    by_token None h = h
    by_token (Some t) h = h

step_keeps : (s : State) → (step_of s).1.settings.ctx.module_ ≡ s.settings.ctx.module_
unfolding step_of Keeps
step_keeps s = of_keeps s (always_steps s).1 (always_steps s).0 s.tokens.last (always_steps s).2.is

pub lexer_constant : LexerConstant
lexer_constant modules = record {
  falls = λ s g. lexer_falls s;
  good_step = λ s g. step_keeps s ∙ g;
  good_asked = λ place s g. g;
  good_told = λ x s e g. e;
  same_first = λ s t e. let k = moved s t e in (step_is t k.0 (step_of s).0 k.1).0;
  same_step = λ s t e. let k = moved s t e in subst (λ z. SameText (step_of s).1 z) (step_is t k.0 (step_of s).0 k.1).1 k.2;
  same_asked = λ place s t e. (e.0, e.1, refl, e.3);
  same_back = λ s t e. (sym e.0, sym e.1, sym e.2, sym e.3);
  same_told = λ x s e g. (refl, refl, refl, g ∙ sym e);
}

pub lexer_read : LexerRead
lexer_read modules depth syntax q ps t b h e = tokens_read lexer_machine (OfGoal modules) SameText modules (lexer_constant modules) depth syntax q ps t b h e
