-- A step with no slash to be read again.
use Rattle.std.proofs.Common.{◌≡◌, ◌≢◌, ℕ, ◌⊎◌, inl, inr, ⊎_elim, true, false, ◌||◌, List, Option, Some, None, refl, sym, ap, ◌∙◌}
use Rattle.std.specs.Prelude.{◌==◌}
use Rattle.std.proofs.lemmas.Bool.{cases_Bool}
use Rattle.base_token.specs.Kinds.{div_assign_kind, div_kind, template_kind}
use Rattle.base_token.specs.Tokens.{Spot}
use Rattle.lex_step_laws.specs.States.{Last, Start, Slash, Characters, Fault, Other, State, again, again_by, last_after, template_goal}
use Rattle.lex_step_laws.specs.Steps.{IsGoing, IsStep, IsStepBy, IsStepOf}

pub none_some : {A B : Type 0} {x : A} → None ≡ Some x → B
none_some e = cc

-- ---- whether a slash is read again

none_again : (last : Last) (end : ℕ) → again_by last None end ≡ None
none_again Start end = refl
none_again (Slash from) end = refl
none_again Characters end = refl
none_again Fault end = refl
none_again Other end = refl

pub no_again : (s : State) → s.settings.next_regexp ≡ None → again s ≡ None
no_again s e = ap (λ (p : Option ℕ). again_by s.tokens.last p s.tokens.end) e ∙ none_again s.tokens.last s.tokens.end

-- ---- what such a step is

-- Behind a fault nothing comes; else the step goes on.
abbrev pub Goes : State → Option Spot → State → Type 0
Goes s out new = ((s.tokens.last ≡ Fault) × (out ≡ None) × (new ≡ s))
    ⊎ ((s.tokens.last ≢ Fault) × IsGoing (template_goal s.settings.contexts s.tokens.last) s out new)

by_goes : (o : Option (List ℕ)) (s new : State) (out : Option Spot) → o ≡ None → IsStepBy o s out new → IsGoing (template_goal s.settings.contexts s.tokens.last) s out new
by_goes (Some from) s new out e h = none_some (sym e)
by_goes None s new out e h = h

goes_of : (last : Last) (s new : State) (out : Option Spot) → s.tokens.last ≡ last → again s ≡ None → IsStepOf last s out new → Goes s out new
goes_of Start s new out e n h = inr ((λ f. let k : Start ≡ Fault = sym e ∙ f in cc), by_goes (again s) s new out n h)
goes_of (Slash from) s new out e n h = inr ((λ f. let k : Slash from ≡ Fault = sym e ∙ f in cc), by_goes (again s) s new out n h)
goes_of Characters s new out e n h = inr ((λ f. let k : Characters ≡ Fault = sym e ∙ f in cc), by_goes (again s) s new out n h)
goes_of Fault s new out e n h = inl (e, h.0, h.1)
goes_of Other s new out e n h = inr ((λ f. let k : Other ≡ Fault = sym e ∙ f in cc), by_goes (again s) s new out n h)

pub goes : (s new : State) (out : Option Spot) → again s ≡ None → IsStep s out new → Goes s out new
goes s new out n h = goes_of s.tokens.last s new out refl n h.is

-- ---- no token is a fault

pub last_going : (kind : ℕ) (from : List ℕ) → last_after kind from ≢ Fault
last_going kind from = ⊎_elim
    (λ (t : (kind == template_kind) ≡ true). rw t (λ (e : Characters ≡ Fault). cc))
    (λ (f : (kind == template_kind) ≡ false). ⊎_elim
    (λ (t : (kind == div_kind || kind == div_assign_kind) ≡ true). rw f (rw t (λ (e : Slash from ≡ Fault). cc)))
    (λ (g : (kind == div_kind || kind == div_assign_kind) ≡ false). rw f (rw g (λ (e : Other ≡ Fault). cc)))
    (cases_Bool (kind == div_kind || kind == div_assign_kind)))
    (cases_Bool (kind == template_kind))

pub start_going : (s : State) → s.tokens.last ≡ Start → s.tokens.last ≢ Fault
start_going s e f = let k : Start ≡ Fault = sym e ∙ f in cc
