-- The end comes again.
use Rattle.std.proofs.Common.{◌≡◌, ◌≢◌, ℕ, ◌≤◌, inl, inr, ⊎_elim, Bool, false, List, [], ◌∷◌, length, Option, Some, None, refl, sym, ap, subst, ◌∙◌, arith}
use Rattle.std.proofs.lemmas.List.{nil_from_length}
use Rattle.lex_source.specs.declared.contexts.TokenContext.{TokenContext}
use Rattle.lex_source.specs.Machine.{SameContexts, told_of}
use Rattle.lex_source.specs.Settings.{Settings}
use Rattle.lex_pieces.specs.Trivia.{IsSkipped}
use Rattle.lex_token.specs.declared.goal.LexicalGoal.{LexicalGoal}
use Rattle.lex_token.specs.declared.goal.LexicalGoal.TheVariants.{Div, TemplateTail}
use Rattle.lex_step_laws.specs.States.{Last, Start, Slash, Characters, Fault, Other, State, again, ended, goal_of, is_start, template_goal}
use Rattle.lex_step_laws.specs.Steps.{IsBadTrivia, IsGoing, IsOutside, IsPlain, IsRead, IsStep, IsStepBy, IsStepOf}
use Rattle.lex_step_laws.proofs.Trivia.{follow_no_longer, skipped_or_bad, wrong_some}
use Rattle.lex_step_laws.proofs.Going.{Goes, goes, no_again, none_some}

-- ---- a step to the end

read_over : (goal : LexicalGoal) (line_break : Bool) (from : List ℕ) (s new : State) → IsRead goal line_break from s None new → (goal ≢ TemplateTail) × (new ≡ ended s)
read_over goal line_break from s new (inl h) = none_some h.3
read_over goal line_break from s new (inr (inl h)) = none_some h.2
read_over goal line_break from s new (inr (inr h)) = (h.0.0, h.2)

plain_over : (s new : State) → IsPlain s None new → new ≡ ended s
plain_over s new (inl h) = (read_over Div h.0 h.1 s new h.3).1
plain_over s new (inr h) = none_some h.2

outside_over : (last : Last) (s new : State) → IsOutside last s None new → new ≡ ended s
outside_over Start s new (inl h) = none_some h.3
outside_over Start s new (inr h) = plain_over s new h.1
outside_over (Slash from) s new h = plain_over s new h
outside_over Characters s new h = plain_over s new h
outside_over Fault s new h = plain_over s new h
outside_over Other s new h = plain_over s new h

going_over : (goal : Option LexicalGoal) (s new : State) → IsGoing goal s None new → (goal ≢ Some TemplateTail) × (new ≡ ended s)
going_over (Some goal) s new h = let k = read_over goal false s.tokens.left s new h in ((λ e. k.0 (let f : Some goal ≡ Some TemplateTail = e in cc)), k.1)
going_over None s new h = ((λ e. none_some e), outside_over s.tokens.last s new h)

-- ---- the step behind it

same : (s : State) (settings : Settings) → told_of settings (ended s) ≡ ended (told_of settings (ended s))
same s settings = refl

nil_left : (text : List ℕ) → length text ≤ 0 → text ≡ []
nil_left text h = nil_from_length text (omega (arith, h))

-- trivia at the end
plain_again : (s : State) → s.tokens.left ≡ [] → s ≡ ended s → IsPlain s None s
plain_again s e over = ⊎_elim
    (λ (h : (line_break : Bool) × (rest : List ℕ) × IsSkipped (goal_of s.settings.ctx) (is_start s.tokens.last) s.tokens.left line_break rest).
    let k = follow_no_longer (goal_of s.settings.ctx) (is_start s.tokens.last) s.tokens.left h.2.0 h.1 h.2.1.0 in
    let l = ap length e in
    inl (h.0, h.1, h.2, inr (inr (((λ d. cc), nil_left h.1 (omega (arith, k, l))), refl, over))))
    (λ (h : (rest : List ℕ) × IsBadTrivia (goal_of s.settings.ctx) (is_start s.tokens.last) s.tokens.left rest).
    let k = follow_no_longer (goal_of s.settings.ctx) (is_start s.tokens.last) s.tokens.left h.1.0 h.0 h.1.1 in
    let l = ap length e in
    let m = wrong_some _ _ h.0 h.1.2 in
    absurd (omega (arith, k, l, m)))
    (skipped_or_bad (goal_of s.settings.ctx) (is_start s.tokens.last) s.tokens.left)

no_bang : (text inner : List ℕ) → text ≡ [] → text ≡ 35 ∷ 33 ∷ inner → ⊥
no_bang text inner e f = let k : [] ≡ 35 ∷ 33 ∷ inner = sym e ∙ f in cc

outside_again : (last : Last) (s : State) → s.tokens.left ≡ [] → s ≡ ended s → IsOutside last s None s
outside_again Start s e over = inr ((λ inner f. no_bang s.tokens.left inner e f), plain_again s e over)
outside_again (Slash from) s e over = plain_again s e over
outside_again Characters s e over = plain_again s e over
outside_again Fault s e over = plain_again s e over
outside_again Other s e over = plain_again s e over

going_again : (goal : Option LexicalGoal) (s : State) → goal ≢ Some TemplateTail → s.tokens.left ≡ [] → s ≡ ended s → IsGoing goal s None s
going_again (Some goal) s n e over = inr (inr (((λ f. n (ap (λ (g : LexicalGoal). Some g) f)), e), refl, over))
going_again None s n e over = outside_again s.tokens.last s e over

by_again : (o : Option (List ℕ)) (s : State) → o ≡ None → IsGoing (template_goal s.settings.contexts s.tokens.last) s None s → IsStepBy o s None s
by_again (Some from) s e h = none_some (sym e)
by_again None s e h = h

of_again : (last : Last) (s : State) → again s ≡ None → IsGoing (template_goal s.settings.contexts s.tokens.last) s None s → IsStepOf last s None s
of_again Start s e h = by_again (again s) s e h
of_again (Slash from) s e h = by_again (again s) s e h
of_again Characters s e h = by_again (again s) s e h
of_again Fault s e h = (refl, refl)
of_again Other s e h = by_again (again s) s e h

of_fault : (s : State) → s.tokens.last ≡ Fault → IsStepOf s.tokens.last s None s
of_fault s e = subst (λ (l : Last). IsStepOf l s None s) (sym e) (refl, refl)

-- ---- the law

going_stays : (s : State) (told : Settings) → template_goal s.settings.contexts s.tokens.last ≢ Some TemplateTail → told.contexts ≡ s.settings.contexts → told.next_regexp ≡ None
    → IsStep (told_of told (ended s)) None (told_of told (ended s))
going_stays s told n same_contexts r =
    let t = told_of told (ended s) in
    let goal : template_goal told.contexts s.tokens.last ≢ Some TemplateTail = λ e. n (ap (λ (cs : List TokenContext). template_goal cs s.tokens.last) (sym same_contexts) ∙ e) in
    record { is = of_again t.tokens.last t (no_again t r) (going_again (template_goal told.contexts s.tokens.last) t goal refl (same s told)) }

stays_by : (s new : State) (told : Settings) → Goes s None new → SameContexts new.settings told → IsStep (told_of told new) None (told_of told new)
stays_by s new told (inl k) may = record { is = of_fault (told_of told new) (ap (λ (m : State). m.tokens.last) k.2 ∙ k.0) }
stays_by s new told (inr k) may =
    let over = going_over (template_goal s.settings.contexts s.tokens.last) s new k.1 in
    let contexts : told.contexts ≡ s.settings.contexts = may.contexts ∙ ap (λ (m : State). m.settings.contexts) over.1 in
    subst (λ (m : State). IsStep (told_of told m) None (told_of told m)) (sym over.1) (going_stays s told over.0 contexts may.next_regexp)

pub end_stays : (s new : State) (told : Settings) → again s ≡ None → IsStep s None new → SameContexts new.settings told
    → IsStep (told_of told new) None (told_of told new)
end_stays s new told n h may = stays_by s new told (goes s new None n h) may
