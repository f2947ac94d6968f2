-- The places of tokens rise.
use Rattle.std.proofs.Common.{◌≡◌, ℕ, ◌≤◌, inl, inr, Bool, false, List, [], ◌∷◌, Option, Some, None, refl, sym, ap, subst, arith}
use Rattle.std.proofs.lemmas.Option.{same_Some}
use Rattle.base_token.specs.Tokens.{Spot}
use Rattle.lex_token.specs.declared.goal.LexicalGoal.{LexicalGoal}
use Rattle.lex_token.specs.declared.goal.LexicalGoal.TheVariants.{Div}
use Rattle.lex_token.specs.Lexemes.{SpecLexeme}
use Rattle.lex_step_laws.specs.States.{Last, Start, Slash, Characters, Fault, Other, State, behind, goal_of, is_start, place, shebang, stopped, template_goal}
use Rattle.lex_step_laws.specs.Steps.{IsFirst, IsGoing, IsOutside, IsPlain, IsRead}
use Rattle.lex_run_laws.specs.StepLists.{IsAtStart, NoReread, AreSteps}
use Rattle.lex_source.specs.Machine.{told_of}
use Rattle.lex_run_laws.specs.Spans.{Rise}
use Rattle.lex_run_laws.proofs.Behind.{Behind, follow_behind, hashbang_behind, here, lexeme_behind, nothing_behind, place_rises}
use Rattle.lex_step_laws.proofs.Going.{Goes, goes, no_again, none_some}

-- A token lies behind where the step began, and the next step begins where it ends.
abbrev Lies : State → Spot → State → Type 0
Lies s spot new = (from : List ℕ) × (rest : List ℕ) × Behind s.tokens.left from × Behind from rest × (spot.lo ≡ place s.tokens.end from) × (spot.hi ≡ place s.tokens.end rest)
    × (new.tokens.left ≡ rest) × (new.tokens.end ≡ s.tokens.end)

lies_token : (line_break : Bool) (from : List ℕ) (x : SpecLexeme) (rest : List ℕ) (s new : State) (spot : Spot) → Behind s.tokens.left from → Behind from rest
    → spot.lo ≡ place s.tokens.end from → spot.hi ≡ place s.tokens.end rest → new ≡ behind s line_break from x rest → Lies s spot new
lies_token line_break from x rest s new spot a b lo hi e =
    (from, rest, a, b, lo, hi, ap (λ (m : State). m.tokens.left) e, ap (λ (m : State). m.tokens.end) e)

lies_fault : (line_break : Bool) (from : List ℕ) (s new : State) (spot : Spot) → Behind s.tokens.left from
    → spot.lo ≡ place s.tokens.end from → spot.hi ≡ place s.tokens.end [] → new ≡ stopped s line_break → Lies s spot new
lies_fault line_break from s new spot a lo hi e =
    (from, [], a, nothing_behind from, lo, hi, ap (λ (m : State). m.tokens.left) e, ap (λ (m : State). m.tokens.end) e)

read_lies : (goal : LexicalGoal) (line_break : Bool) (from : List ℕ) (s new : State) (spot : Spot) → Behind s.tokens.left from
    → IsRead goal line_break from s (Some spot) new → Lies s spot new
read_lies goal line_break from s new spot a (inl h) =
    let e = same_Some _ _ h.3 in
    lies_token line_break from h.0 h.1 s new spot a (lexeme_behind goal from h.0 h.1 h.2) (ap (λ (t : Spot). t.lo) e) (ap (λ (t : Spot). t.hi) e) h.4
read_lies goal line_break from s new spot a (inr (inl h)) =
    let e = same_Some _ _ h.2 in
    lies_fault line_break from s new spot a (ap (λ (t : Spot). t.lo) e) (ap (λ (t : Spot). t.hi) e) h.3
read_lies goal line_break from s new spot a (inr (inr h)) = none_some (sym h.1)

plain_lies : (s new : State) (spot : Spot) → IsPlain s (Some spot) new → Lies s spot new
plain_lies s new spot (inl h) =
    read_lies Div h.0 h.1 s new spot (follow_behind (goal_of s.settings.ctx) (is_start s.tokens.last) s.tokens.left h.2.0 h.1 h.2.1.0) h.3
plain_lies s new spot (inr h) =
    let e = same_Some _ _ h.2 in
    let a = follow_behind (goal_of s.settings.ctx) (is_start s.tokens.last) s.tokens.left h.1.0 h.0 h.1.1 in
    lies_fault false h.0 s new spot a (ap (λ (t : Spot). t.lo) e) (ap (λ (t : Spot). t.hi) e) h.3

first_lies : (s new : State) (spot : Spot) → IsFirst s (Some spot) new → Lies s spot new
first_lies s new spot (inl h) =
    let e = same_Some _ _ h.3 in
    lies_token false s.tokens.left (shebang h.0) h.1 s new spot (here s.tokens.left s.tokens.left refl) (hashbang_behind s.tokens.left h.0 h.1 h.2)
    (ap (λ (t : Spot). t.lo) e) (ap (λ (t : Spot). t.hi) e) h.4
first_lies s new spot (inr h) = plain_lies s new spot h.1

outside_lies : (last : Last) (s new : State) (spot : Spot) → IsOutside last s (Some spot) new → Lies s spot new
outside_lies Start s new spot h = first_lies s new spot h
outside_lies (Slash from) s new spot h = plain_lies s new spot h
outside_lies Characters s new spot h = plain_lies s new spot h
outside_lies Fault s new spot h = plain_lies s new spot h
outside_lies Other s new spot h = plain_lies s new spot h

going_lies : (goal : Option LexicalGoal) (s new : State) (spot : Spot) → IsGoing goal s (Some spot) new → Lies s spot new
going_lies (Some goal) s new spot h = read_lies goal false s.tokens.left s new spot (here s.tokens.left s.tokens.left refl) h
going_lies None s new spot h = outside_lies s.tokens.last s new spot h

lies_by : (s new : State) (spot : Spot) → Goes s (Some spot) new → Lies s spot new
lies_by s new spot (inl k) = none_some (sym k.1)
lies_by s new spot (inr k) = going_lies (template_goal s.settings.contexts s.tokens.last) s new spot k.1

within : (end : ℕ) (text : List ℕ) → place end text ≤ end
within end text = omega arith

rise : (spots : List Spot) (s new : State) → s.settings.next_regexp ≡ None → AreSteps NoReread s spots new → Rise (place s.tokens.end s.tokens.left) spots s.tokens.end
rise [] s new r h = within s.tokens.end s.tokens.left
rise (spot ∷ spots) s new r h =
    let l = lies_by s h.0 spot (goes s h.0 (Some spot) (no_again s r) h.2) in
    let a = place_rises s.tokens.end s.tokens.left l.0 l.2 in
    let b = place_rises s.tokens.end l.0 l.1 l.3 in
    let more : Rise (place h.0.tokens.end h.0.tokens.left) spots h.0.tokens.end = rise spots (told_of h.1 h.0) new h.3 h.4 in
    let ends : Rise (place s.tokens.end h.0.tokens.left) spots s.tokens.end = subst (λ e. Rise (place e h.0.tokens.left) spots e) l.7 more in
    let there : Rise (place s.tokens.end l.1) spots s.tokens.end = subst (λ (t : List ℕ). Rise (place s.tokens.end t) spots s.tokens.end) l.6 ends in
    (omega (arith, a, l.4), omega (arith, b, l.4, l.5), subst (λ p. Rise p spots s.tokens.end) (sym l.5) there)

pub spans_rise : (s new : State) (spots : List Spot) → IsAtStart s → AreSteps NoReread s spots new → Rise (place s.tokens.end s.tokens.left) spots s.tokens.end
spans_rise s new spots start runs = rise spots s new start.next_regexp runs
