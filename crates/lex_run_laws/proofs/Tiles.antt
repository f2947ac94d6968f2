-- Tokens and trivia tile the text.
use Rattle.std.proofs.Common.{◌≡◌, ◌≢◌, ℕ, ◌⊎◌, inl, inr, ⊎_elim, Bool, false, List, [], ◌∷◌, Option, Some, None, refl, sym, ap, subst}
use Rattle.std.proofs.lemmas.Option.{same_Some}
use Rattle.base_token.specs.Kinds.{error_kind}
use Rattle.base_token.specs.Tokens.{Spot}
use Rattle.lex_token.specs.declared.goal.LexicalGoal.{LexicalGoal}
use Rattle.lex_token.specs.declared.goal.LexicalGoal.TheVariants.{Div}
use Rattle.lex_token.specs.Lexemes.{SpecLexeme}
use Rattle.lex_step_laws.specs.States.{Last, Start, Slash, Characters, Fault, Other, State, again, behind, goal_of, is_start, shebang, spot_at, template_goal}
use Rattle.lex_step_laws.specs.Steps.{IsFirst, IsGoing, IsOutside, IsPlain, IsRead, IsStep}
use Rattle.lex_run_laws.specs.StepLists.{Clean, IsAtStart, NoReread, AreSteps}
use Rattle.lex_source.specs.Machine.{told_of}
use Rattle.lex_run_laws.specs.Tilings.{AreTiles, IsBetween, IsHere, Tile}
use Rattle.lex_step_laws.proofs.Going.{Goes, goes, last_going, no_again, none_some, start_going}

-- ---- a step that hands out a token

-- A token was taken behind a gap.
abbrev IsTaken : State → Spot → State → Type 0
IsTaken s spot new = (line_break : Bool) × (from : List ℕ) × (x : SpecLexeme) × (rest : List ℕ) × IsBetween s.tokens.left line_break from × IsHere from x rest
    × (spot ≡ spot_at s.tokens.end line_break x.token from rest) × (new ≡ behind s line_break from x rest)

abbrev Taken : State → Spot → State → Type 0
Taken s spot new = IsTaken s spot new ⊎ (spot.token.kind ≡ error_kind)

read_taken : (goal : LexicalGoal) (line_break : Bool) (from : List ℕ) (s new : State) (spot : Spot) → IsBetween s.tokens.left line_break from
    → IsRead goal line_break from s (Some spot) new → Taken s spot new
read_taken goal line_break from s new spot gap (inl h) = inl (line_break, from, h.0, h.1, gap, inl (goal, h.2), same_Some _ _ h.3, h.4)
read_taken goal line_break from s new spot gap (inr (inl h)) = inr (ap (λ (t : Spot). t.token.kind) (same_Some _ _ h.2))
read_taken goal line_break from s new spot gap (inr (inr h)) = none_some (sym h.1)

plain_taken : (s new : State) (spot : Spot) → IsPlain s (Some spot) new → Taken s spot new
plain_taken s new spot (inl h) = read_taken Div h.0 h.1 s new spot (inr (goal_of s.settings.ctx, is_start s.tokens.last, h.2)) h.3
plain_taken s new spot (inr h) = inr (ap (λ (t : Spot). t.token.kind) (same_Some _ _ h.2))

first_taken : (s new : State) (spot : Spot) → IsFirst s (Some spot) new → Taken s spot new
first_taken s new spot (inl h) = inl (false, s.tokens.left, shebang h.0, h.1, inl (refl, refl), inr (h.0, h.2, refl), same_Some _ _ h.3, h.4)
first_taken s new spot (inr h) = plain_taken s new spot h.1

outside_taken : (last : Last) (s new : State) (spot : Spot) → IsOutside last s (Some spot) new → Taken s spot new
outside_taken Start s new spot h = first_taken s new spot h
outside_taken (Slash from) s new spot h = plain_taken s new spot h
outside_taken Characters s new spot h = plain_taken s new spot h
outside_taken Fault s new spot h = plain_taken s new spot h
outside_taken Other s new spot h = plain_taken s new spot h

going_taken : (goal : Option LexicalGoal) (s new : State) (spot : Spot) → IsGoing goal s (Some spot) new → Taken s spot new
going_taken (Some goal) s new spot h = read_taken goal false s.tokens.left s new spot (inl (refl, refl)) h
going_taken None s new spot h = outside_taken s.tokens.last s new spot h

taken_by : (s new : State) (spot : Spot) → Goes s (Some spot) new → Taken s spot new
taken_by s new spot (inl k) = none_some (sym k.1)
taken_by s new spot (inr k) = going_taken (template_goal s.settings.contexts s.tokens.last) s new spot k.1

taken : (s new : State) (spot : Spot) → again s ≡ None → IsStep s (Some spot) new → Taken s spot new
taken s new spot n h = taken_by s new spot (goes s new (Some spot) n h)

-- ---- a step to the end

read_end : (goal : LexicalGoal) (line_break : Bool) (from : List ℕ) (s new : State) → IsBetween s.tokens.left line_break from
    → IsRead goal line_break from s None new → (broke : Bool) × IsBetween s.tokens.left broke []
read_end goal line_break from s new gap (inl h) = none_some h.3
read_end goal line_break from s new gap (inr (inl h)) = none_some h.2
read_end goal line_break from s new gap (inr (inr h)) = (line_break, subst (λ (t : List ℕ). IsBetween s.tokens.left line_break t) h.0.1 gap)

plain_end : (s new : State) → IsPlain s None new → (broke : Bool) × IsBetween s.tokens.left broke []
plain_end s new (inl h) = read_end Div h.0 h.1 s new (inr (goal_of s.settings.ctx, is_start s.tokens.last, h.2)) h.3
plain_end s new (inr h) = none_some h.2

first_end : (s new : State) → IsFirst s None new → (broke : Bool) × IsBetween s.tokens.left broke []
first_end s new (inl h) = none_some h.3
first_end s new (inr h) = plain_end s new h.1

outside_end : (last : Last) (s new : State) → IsOutside last s None new → (broke : Bool) × IsBetween s.tokens.left broke []
outside_end Start s new h = first_end s new h
outside_end (Slash from) s new h = plain_end s new h
outside_end Characters s new h = plain_end s new h
outside_end Fault s new h = plain_end s new h
outside_end Other s new h = plain_end s new h

going_end : (goal : Option LexicalGoal) (s new : State) → IsGoing goal s None new → (broke : Bool) × IsBetween s.tokens.left broke []
going_end (Some goal) s new h = read_end goal false s.tokens.left s new (inl (refl, refl)) h
going_end None s new h = outside_end s.tokens.last s new h

end_by : (s new : State) → s.tokens.last ≢ Fault → Goes s None new → (broke : Bool) × IsBetween s.tokens.left broke []
end_by s new g (inl k) = absurd (g k.0)
end_by s new g (inr k) = going_end (template_goal s.settings.contexts s.tokens.last) s new k.1

end_gap : (s new : State) → s.tokens.last ≢ Fault → again s ≡ None → IsStep s None new → (broke : Bool) × IsBetween s.tokens.left broke []
end_gap s new g n h = end_by s new g (goes s new None n h)

-- ---- lists of steps

-- Tiles up to what is left, where nothing went wrong and no slash is asked for again.
abbrev Tiled : State → List Spot → State → Type 0
Tiled s spots new = AreTiles s.tokens.end s.tokens.left spots new.tokens.left × (new.tokens.last ≢ Fault) × (new.settings.next_regexp ≡ None)

runs_tile : (spots : List Spot) (s new : State) → s.settings.next_regexp ≡ None → s.tokens.last ≢ Fault → Clean spots → AreSteps NoReread s spots new → Tiled s spots new
runs_tile [] s new r n c h = (
  ap (λ (x : State). x.tokens.left) h,
  subst (λ (x : State). x.tokens.last ≢ Fault) h n,
  subst (λ (x : State). x.settings.next_regexp ≡ None) h r,
)
runs_tile (spot ∷ spots) s new r n c h = ⊎_elim
    (λ (k : IsTaken s spot h.0).
    let on : h.0.tokens.last ≢ Fault = subst (λ (m : State). m.tokens.last ≢ Fault) (sym k.7) (last_going k.2.token.kind k.1) in
    let more = runs_tile spots (told_of h.1 h.0) new h.3 on c.1 h.4 in
    let tiles : AreTiles s.tokens.end k.3 spots new.tokens.left = subst (λ (m : State). AreTiles m.tokens.end m.tokens.left spots new.tokens.left) k.7 more.0 in
    ((k.3, (k.0, k.1, k.2, k.4, k.5, k.6), tiles), more.1, more.2))
    (λ (e : spot.token.kind ≡ error_kind). absurd (c.0 e))
    (taken s h.0 spot (no_again s r) h.2)

pub tiles_text : (s new last : State) (spots : List Spot) → IsAtStart s → Clean spots → AreSteps NoReread s spots new → IsStep new None last
    → Tile s.tokens.end s.tokens.left spots
tiles_text s new last spots start clean runs ends =
    let r = runs_tile spots s new start.next_regexp (start_going s start.last) clean runs in
    (new.tokens.left, r.0, end_gap new last r.1 (no_again new r.2) ends)
