-- A step is made from every state.
use Rattle.std.proofs.Common.{◌≡◌, ◌≢◌, ℕ, ◌⊎◌, inl, inr, ⊎_elim, Bool, false, List, [], ◌∷◌, Option, Some, None, refl, sym}
use Rattle.base_token.specs.Tokens.{Spot}
use Rattle.lex_pieces.specs.Trivia.{IsHashbang, IsSkipped, NoHashbang}
use Rattle.lex_pieces.proofs.ListLemmas.{nil_cons}
use Rattle.lex_token.specs.declared.goal.LexicalGoal.{LexicalGoal}
use Rattle.lex_token.specs.declared.goal.LexicalGoal.TheVariants.{Div, RegExp, TemplateTail, TemplateEnd}
use Rattle.lex_token.specs.Lexemes.{IsLexeme}
use Rattle.lex_step_laws.specs.States as states
use Rattle.lex_step_laws.specs.States.{Last, Start, Slash, Characters, Fault, Other, State, again, behind, ended, faulty, goal_of, is_start, shebang, spot_at, stopped, template_goal}
use Rattle.lex_step_laws.specs.Steps.{Ends, IsBadTrivia, IsFirst, IsGoing, IsOutside, IsPlain, IsRead, IsStep, IsStepBy, IsStepOf}
use Rattle.lex_step_laws.proofs.Deciding as deciding
use Rattle.lex_step_laws.proofs.Deciding.{Decided}
use Rattle.lex_step_laws.proofs.Tokens.{token_or_not}
use Rattle.lex_step_laws.proofs.Trivia.{hashbang_or_not, skipped_or_bad}

-- a step of a kind
abbrev Some_Step : (Option Spot → State → Type 0) → Type 0
Some_Step Is = (out : Option Spot) × (new : State) × Is out new

nil_or_not : (from : List ℕ) → (from ≡ []) ⊎ (from ≡ [] → ⊥)
nil_or_not [] = inl refl
nil_or_not (c ∷ cs) = inr (λ e. nil_cons c cs (sym e))

ends_by : (goal : LexicalGoal) (from : List ℕ) → (goal ≢ TemplateTail) → Ends goal from ⊎ (Ends goal from → ⊥)
ends_by goal from n = ⊎_elim
    (λ (e : from ≡ []). inl (n, e))
    (λ (m : from ≡ [] → ⊥). inr (λ e. m e.1))
    (nil_or_not from)

ends_or_not : (goal : LexicalGoal) (from : List ℕ) → Ends goal from ⊎ (Ends goal from → ⊥)
ends_or_not Div from = ends_by Div from (λ e. cc)
ends_or_not RegExp from = ends_by RegExp from (λ e. cc)
ends_or_not TemplateTail from = inr (λ e. e.0 refl)
ends_or_not TemplateEnd from = ends_by TemplateEnd from (λ e. cc)

read_by : (goal : LexicalGoal) (line_break : Bool) (from : List ℕ) (s : State) → Decided (IsLexeme goal) from → Ends goal from ⊎ (Ends goal from → ⊥)
    → Some_Step (IsRead goal line_break from s)
read_by goal line_break from s (inl h) e =
    (Some (spot_at s.tokens.end line_break h.0.token from h.1), behind s line_break from h.0 h.1, inl (h.0, h.1, h.2, refl, refl))
read_by goal line_break from s (inr n) (inl e) = (None, ended s, inr (inr (e, refl, refl)))
read_by goal line_break from s (inr n) (inr m) = (Some (faulty s.tokens.end line_break from), stopped s line_break, inr (inl (n, m, refl, refl)))

read : (goal : LexicalGoal) (line_break : Bool) (from : List ℕ) (s : State) → Some_Step (IsRead goal line_break from s)
read goal line_break from s = read_by goal line_break from s (token_or_not goal from) (ends_or_not goal from)

plain : (s : State) → Some_Step (IsPlain s)
plain s = ⊎_elim
    (λ (h : (line_break : Bool) × (rest : List ℕ) × IsSkipped (goal_of s.settings.ctx) (is_start s.tokens.last) s.tokens.left line_break rest).
    let r = read Div h.0 h.1 s in (r.0, r.1, inl (h.0, h.1, h.2, r.2)))
    (λ (h : (rest : List ℕ) × IsBadTrivia (goal_of s.settings.ctx) (is_start s.tokens.last) s.tokens.left rest).
    (Some (faulty s.tokens.end false h.0), stopped s false, inr (h.0, h.1, refl, refl)))
    (skipped_or_bad (goal_of s.settings.ctx) (is_start s.tokens.last) s.tokens.left)

first : (s : State) → Some_Step (IsFirst s)
first s = ⊎_elim
    (λ (h : (own : List ℕ) × (rest : List ℕ) × IsHashbang s.tokens.left own rest). (
      Some (spot_at s.tokens.end false (shebang h.0).token s.tokens.left h.1),
      behind s false s.tokens.left (shebang h.0) h.1,
      inl (h.0, h.1, h.2, refl, refl),
    ))
    (λ (n : NoHashbang s.tokens.left). let p = plain s in (p.0, p.1, inr (n, p.2)))
    (hashbang_or_not s.tokens.left)

outside : (last : Last) (s : State) → Some_Step (IsOutside last s)
outside Start s = first s
outside (Slash from) s = plain s
outside Characters s = plain s
outside Fault s = plain s
outside Other s = plain s

going : (goal : Option LexicalGoal) (s : State) → Some_Step (IsGoing goal s)
going (Some goal) s = read goal false s.tokens.left s
going None s = outside s.tokens.last s

by : (from : Option (List ℕ)) (s : State) → Some_Step (IsStepBy from s)
by (Some from) s = read RegExp s.tokens.line_break from s
by None s = going (template_goal s.settings.contexts s.tokens.last) s

of : (last : Last) (s : State) → Some_Step (IsStepOf last s)
of Start s = by (again s) s
of (Slash from) s = by (again s) s
of Characters s = by (again s) s
of Fault s = (None, s, (refl, refl))
of Other s = by (again s) s

pub always_steps : (s : State) → (out : Option Spot) × (new : State) × IsStep s out new
always_steps s = let o = of s.tokens.last s in (o.0, o.1, record { is = o.2 })
