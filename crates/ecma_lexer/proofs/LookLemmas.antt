-- What a lexer hands out depends on the innermost contexts alone, and on no fault.
use Rattle.std.proofs.Common.{◌≡◌, ℕ, inl, inr, Bool, true, false, List, [], ◌∷◌, ◌++◌, take, Option, Some, None, Result, Ok, Err, refl, sym, ap, subst, ◌∙◌, if◌then◌else◌}
use Rattle.std.specs.Prelude.{◌==◌, option_map, MatchResult}
use Rattle.base_token.specs.Kinds.{back_quote_kind, dollar_brace_kind, left_brace_kind, right_brace_kind, shebang_kind}
use Rattle.base_token.specs.Tokens.{Spot}
use Rattle.base_token.specs.declared.error.Error.{Error}
use Rattle.base_token.specs.declared.error.SyntaxError.TheVariants.{Memory}
use Rattle.base_token.specs.declared.token.TokenAndSpan.{TokenAndSpan}
use Rattle.lex_source.specs.declared.contexts.TokenContext.{TokenContext}
use Rattle.lex_source.specs.declared.contexts.TokenContext.TheVariants.{BraceStmt, BraceExpr, TplQuasi, ParenStmt, ParenExpr, Tpl, FnExpr, ClassExpr}
use Rattle.lex_source.specs.Looks.{behind_by}
use Rattle.lex_source.specs.Machine.{shown_spot, told_of}
use Rattle.lex_source.specs.Settings.{scout_of, with_next_regexp}
use Rattle.lex_token.specs.declared.goal.LexicalGoal.{LexicalGoal}
use Rattle.lex_token.specs.declared.goal.LexicalGoal.TheVariants.{Div, RegExp}
use Rattle.lex_token.specs.Lexemes.{SpecLexeme}
use Rattle.lex_step_laws.specs.States.{Last, Start, Slash, Characters, Fault, Other, State, again, behind, closed, contexts_after, opened, quoted, shebang, span_at, strict_faults, template_goal}
use Rattle.lex_step_laws.specs.Steps.{IsFirst, IsGoing, IsOutside, IsPlain, IsRead, IsStep, IsStepBy, IsStepOf}
use Rattle.lex_step_laws.proofs.StepLemmas.{one_step}
use Rattle.lex_step_laws.proofs.Steps.{always_steps}
use Rattle.ecma_lexer.specs.Looks.{scout_in}
use Rattle.ecma_lexer.specs.Machine.{step_of}
use Rattle.ecma_lexer.specs.Stepping.{Steps}

abbrev C : Type 0
C = TokenContext

-- ---- the innermost contexts

-- the innermost is the same
abbrev One : List C → List C → Type 0
One [] [] = Unit {0}
One [] (d ∷ ds) = ⊥
One (c ∷ cs) [] = ⊥
One (c ∷ cs) (d ∷ ds) = c ≡ d

-- the innermost two are
abbrev Two : List C → List C → Type 0
Two [] [] = Unit {0}
Two [] (d ∷ ds) = ⊥
Two (c ∷ cs) [] = ⊥
Two (c ∷ cs) (d ∷ ds) = (c ≡ d) × One cs ds

two_one : (cs ds : List C) → Two cs ds → One cs ds
two_one [] [] h = tt
two_one [] (d ∷ ds) h = absurd h
two_one (c ∷ cs) [] h = absurd h
two_one (c ∷ cs) (d ∷ ds) h = h.0

two_taken : (cs : List C) → Two (take 2 cs) cs
two_taken [] = tt
two_taken (c ∷ []) = (refl, tt)
two_taken (c ∷ d ∷ ds) = (refl, refl)

goal_by : (c : C) (cs ds : List C) (last : Last) → template_goal (c ∷ cs) last ≡ template_goal (c ∷ ds) last
goal_by BraceStmt cs ds last = refl
goal_by BraceExpr cs ds last = refl
goal_by TplQuasi cs ds last = refl
goal_by (ParenStmt b) cs ds last = refl
goal_by ParenExpr cs ds last = refl
goal_by Tpl cs ds Start = refl
goal_by Tpl cs ds (Slash from) = refl
goal_by Tpl cs ds Characters = refl
goal_by Tpl cs ds Fault = refl
goal_by Tpl cs ds Other = refl
goal_by FnExpr cs ds last = refl
goal_by ClassExpr cs ds last = refl

goal_same : (cs ds : List C) (last : Last) → One cs ds → template_goal cs last ≡ template_goal ds last
goal_same [] [] last h = refl
goal_same [] (d ∷ ds) last h = absurd h
goal_same (c ∷ cs) [] last h = absurd h
goal_same (c ∷ cs) (d ∷ ds) last h = goal_by c cs ds last ∙ ap (λ x. template_goal (x ∷ ds) last) h

opened_one : (cs ds : List C) → Two cs ds → One (opened cs) (opened ds)
opened_one [] [] h = tt
opened_one [] (d ∷ ds) h = absurd h
opened_one (c ∷ cs) [] h = absurd h
opened_one (c ∷ cs) (d ∷ ds) h = refl

closed_by : (c : C) (cs ds : List C) → One cs ds → One (closed (c ∷ cs)) (closed (c ∷ ds))
closed_by BraceStmt cs ds h = h
closed_by BraceExpr cs ds h = h
closed_by TplQuasi cs ds h = h
closed_by (ParenStmt b) cs ds h = refl
closed_by ParenExpr cs ds h = refl
closed_by Tpl cs ds h = refl
closed_by FnExpr cs ds h = refl
closed_by ClassExpr cs ds h = refl

closed_one : (cs ds : List C) → Two cs ds → One (closed cs) (closed ds)
closed_one [] [] h = tt
closed_one [] (d ∷ ds) h = absurd h
closed_one (c ∷ cs) [] h = absurd h
closed_one (c ∷ cs) (d ∷ ds) h = subst (λ x. One (closed (c ∷ cs)) (closed (x ∷ ds))) h.0 (closed_by c cs ds h.1)

quoted_by : (c : C) (cs ds : List C) → One cs ds → One (quoted (c ∷ cs)) (quoted (c ∷ ds))
quoted_by BraceStmt cs ds h = refl
quoted_by BraceExpr cs ds h = refl
quoted_by TplQuasi cs ds h = refl
quoted_by (ParenStmt b) cs ds h = refl
quoted_by ParenExpr cs ds h = refl
quoted_by Tpl cs ds h = h
quoted_by FnExpr cs ds h = refl
quoted_by ClassExpr cs ds h = refl

quoted_one : (cs ds : List C) → Two cs ds → One (quoted cs) (quoted ds)
quoted_one [] [] h = refl
quoted_one [] (d ∷ ds) h = absurd h
quoted_one (c ∷ cs) [] h = absurd h
quoted_one (c ∷ cs) (d ∷ ds) h = subst (λ x. One (quoted (c ∷ cs)) (quoted (x ∷ ds))) h.0 (quoted_by c cs ds h.1)

after_by : (a b c d : Bool) (cs ds : List C) → Two cs ds
    → One (if a then opened cs else (if b then closed cs else (if c then quoted cs else (if d then TplQuasi ∷ cs else cs))))
    (if a then opened ds else (if b then closed ds else (if c then quoted ds else (if d then TplQuasi ∷ ds else ds))))
after_by true b c d cs ds h = opened_one cs ds h
after_by false true c d cs ds h = closed_one cs ds h
after_by false false true d cs ds h = quoted_one cs ds h
after_by false false false true cs ds h = refl
after_by false false false false cs ds h = two_one cs ds h

after_one : (kind : ℕ) (cs ds : List C) → Two cs ds → One (contexts_after kind cs) (contexts_after kind ds)
after_one kind cs ds h = after_by (kind == left_brace_kind) (kind == right_brace_kind) (kind == back_quote_kind) (kind == dollar_brace_kind) cs ds h

-- ---- the same step with other contexts and other faults

-- the same text, told the same
apart : List C → List Error → List Error → State → State
apart cs recorded waiting s = record s { settings = record s.settings { contexts = cs; recorded = recorded; waiting = waiting } }

module _ (w : List Error) where
  -- The step is made there as well. Where the innermost two contexts were the same, the innermost is behind it.
  abbrev Moves : (State → Option Spot → State → Type 0) → List C → List Error → State → Option Spot → State → Type 0
  Moves Is cs r s out new = (ds : List C) × (q : List Error) × Is (apart cs r w s) out (apart ds q w new) × (Two cs s.settings.contexts → One ds new.settings.contexts)

  stays : (cs ds : List C) (new made : State) → made.settings.contexts ≡ ds → new ≡ made → Two cs ds → One cs new.settings.contexts
  stays cs ds new made e n t = subst (λ l. One cs l) (sym (ap (λ (x : State). x.settings.contexts) n ∙ e)) (two_one cs ds t)

  token_moves : (cs : List C) (r : List Error) (s new : State) (line_break : Bool) (from : List ℕ) (x : SpecLexeme) (rest : List ℕ) → new ≡ behind s line_break from x rest
      → (apart (contexts_after x.token.kind cs) (r ++ strict_faults s.settings.ctx (span_at s.tokens.end from rest) x.legacy) w new ≡ behind (apart cs r w s) line_break from x rest)
      × (Two cs s.settings.contexts → One (contexts_after x.token.kind cs) new.settings.contexts)
  unfolding apart
  token_moves cs r s new line_break from x rest n = (
    ap (apart (contexts_after x.token.kind cs) (r ++ strict_faults s.settings.ctx (span_at s.tokens.end from rest) x.legacy) w) n,
    λ t. subst (λ l. One (contexts_after x.token.kind cs) l) (sym (ap (λ (x : State). x.settings.contexts) n)) (after_one x.token.kind cs s.settings.contexts t),
  )

  read_moves : (goal : LexicalGoal) (line_break : Bool) (from : List ℕ) (cs : List C) (r : List Error) (s : State) (out : Option Spot) (new : State)
      → IsRead goal line_break from s out new → Moves (IsRead goal line_break from) cs r s out new
  unfolding apart
  read_moves goal line_break from cs r s out new (inl h) =
      let k = token_moves cs r s new line_break from h.0 h.1 h.4 in
      (contexts_after h.0.token.kind cs, r ++ strict_faults s.settings.ctx (span_at s.tokens.end from h.1) h.0.legacy, inl (h.0, h.1, h.2, h.3, k.0), k.1)
  read_moves goal line_break from cs r s out new (inr (inl h)) =
      (cs, r, inr (inl (h.0, h.1, h.2, ap (apart cs r w) h.3)), stays cs s.settings.contexts new _ refl h.3)
  read_moves goal line_break from cs r s out new (inr (inr h)) =
      (cs, r, inr (inr (h.0, h.1, ap (apart cs r w) h.2)), stays cs s.settings.contexts new _ refl h.2)

  plain_moves : (cs : List C) (r : List Error) (s : State) (out : Option Spot) (new : State) → IsPlain s out new → Moves IsPlain cs r s out new
  unfolding apart
  plain_moves cs r s out new (inl h) = let k = read_moves Div h.0 h.1 cs r s out new h.3 in (k.0, k.1, inl (h.0, h.1, h.2, k.2), k.3)
  plain_moves cs r s out new (inr h) = (cs, r, inr (h.0, h.1, h.2, ap (apart cs r w) h.3), stays cs s.settings.contexts new _ refl h.3)

  first_moves : (cs : List C) (r : List Error) (s : State) (out : Option Spot) (new : State) → IsFirst s out new → Moves IsFirst cs r s out new
  unfolding apart
  first_moves cs r s out new (inl h) =
      let k = token_moves cs r s new false s.tokens.left (shebang h.0) h.1 h.4 in
      (contexts_after shebang_kind cs, r ++ [], inl (h.0, h.1, h.2, h.3, k.0), k.1)
  first_moves cs r s out new (inr h) = let k = plain_moves cs r s out new h.1 in (k.0, k.1, inr (h.0, k.2), k.3)

  outside_moves : (last : Last) (cs : List C) (r : List Error) (s : State) (out : Option Spot) (new : State) → IsOutside last s out new → Moves (IsOutside last) cs r s out new
  outside_moves Start cs r s out new h = first_moves cs r s out new h
  outside_moves (Slash from) cs r s out new h = plain_moves cs r s out new h
  outside_moves Characters cs r s out new h = plain_moves cs r s out new h
  outside_moves Fault cs r s out new h = plain_moves cs r s out new h
  outside_moves Other cs r s out new h = plain_moves cs r s out new h

  going_moves : (goal : Option LexicalGoal) (cs : List C) (r : List Error) (s : State) (out : Option Spot) (new : State) → IsGoing goal s out new → Moves (IsGoing goal) cs r s out new
  unfolding apart
  going_moves (Some goal) cs r s out new h = read_moves goal false s.tokens.left cs r s out new h
  going_moves None cs r s out new h = outside_moves s.tokens.last cs r s out new h

  by_moves : (text : Option (List ℕ)) (cs : List C) (r : List Error) (s : State) (out : Option Spot) (new : State) → One cs s.settings.contexts → IsStepBy text s out new
      → Moves (IsStepBy text) cs r s out new
  unfolding apart
  by_moves (Some from) cs r s out new a h = read_moves RegExp s.tokens.line_break from cs r s out new h
  by_moves None cs r s out new a h =
      let k = going_moves (template_goal s.settings.contexts s.tokens.last) cs r s out new h in
      (k.0, k.1, subst (λ goal. IsGoing goal (apart cs r w s) out (apart k.0 k.1 w new)) (sym (goal_same cs s.settings.contexts s.tokens.last a)) k.2, k.3)

  of_moves : (last : Last) (cs : List C) (r : List Error) (s : State) (out : Option Spot) (new : State) → One cs s.settings.contexts → IsStepOf last s out new → Moves (IsStepOf last) cs r s out new
  unfolding apart
  of_moves Start cs r s out new a h = by_moves (again s) cs r s out new a h
  of_moves (Slash from) cs r s out new a h = by_moves (again s) cs r s out new a h
  of_moves Characters cs r s out new a h = by_moves (again s) cs r s out new a h
  of_moves Fault cs r s out new a h = (cs, r, (h.0, ap (apart cs r w) h.1), stays cs s.settings.contexts new s refl h.1)
  of_moves Other cs r s out new a h = by_moves (again s) cs r s out new a h

  step_moves : (cs : List C) (r : List Error) (s : State) (out : Option Spot) (new : State) → One cs s.settings.contexts → IsStep s out new → Moves IsStep cs r s out new
  unfolding apart
  step_moves cs r s out new a h = let k = of_moves s.tokens.last cs r s out new a h.is in (k.0, k.1, record { is = k.2 }, k.3)

-- ---- what is looked at

pub step_made : (s : State) → IsStep s (step_of s).0 (step_of s).1
unfolding step_of
step_made s = (always_steps s).2

-- A step of the scout hands out what a step of the lexer does, and stands where the lexer would, as far as the innermost context tells.
scouted : (s new : State) (out : Option Spot) → IsStep (scout_in s) out new
    → (out ≡ (step_of s).0) × (ds : List C) × (q : List Error) × (new ≡ apart ds q [] (step_of s).1) × One ds (step_of s).1.settings.contexts
unfolding apart
scouted s new out h =
    let two = two_taken s.settings.contexts in
    let k = step_moves [] (take 2 s.settings.contexts) [] s (step_of s).0 (step_of s).1 (two_one (take 2 s.settings.contexts) s.settings.contexts two) (step_made s) in
    let j = one_step (scout_in s) new (apart k.0 k.1 [] (step_of s).1) out (step_of s).0 h k.2 in
    (j.0, k.0, k.1, j.1, k.3 two)

pub next_shown : (s scout new : State) (r : Result (Option TokenAndSpan) Error) → scout ≡ scout_in s → Steps (IsStep scout) r new
    → MatchResult r (λ t. option_map shown_spot t ≡ (step_of s).0) (λ e. e.kind ≡ Memory)
next_shown s scout new (Ok t) e h = (scouted s new (option_map shown_spot t) (subst (λ (x : State). IsStep x (option_map shown_spot t) new) e h)).0
next_shown s scout new (Err f) e h = h

-- the same where a slash is asked for again
pub again_shown : (s scout new : State) (place : ℕ) (r : Result (Option TokenAndSpan) Error) → scout ≡ told_of (with_next_regexp (Some place) (scout_of s.settings)) s
    → Steps (IsStep scout) r new
    → MatchResult r (λ t. option_map shown_spot t ≡ (step_of (told_of (with_next_regexp (Some place) s.settings) s)).0) (λ e. e.kind ≡ Memory)
again_shown s scout new place r e h = next_shown (told_of (with_next_regexp (Some place) s.settings) s) scout new r e h

behind_some : (s : State) (spot : Spot) → Some spot ≡ (step_of s).0 → behind_by step_of (step_of s).0 (step_of s).1 ≡ (step_of (step_of s).1).0
behind_some s spot e = ap (λ o. behind_by step_of o (step_of s).1) (sym e)

moved : (s mid new : State) (ds : List C) (q : List Error) (out : Option Spot) → mid ≡ apart ds q [] s → One ds s.settings.contexts → IsStep mid out new → out ≡ (step_of s).0
moved s mid new ds q out e a h =
    let k = step_moves [] ds q s (step_of s).0 (step_of s).1 a (step_made s) in
    (one_step (apart ds q [] s) new (apart k.0 k.1 [] (step_of s).1) out (step_of s).0 (subst (λ (x : State). IsStep x out new) e h) k.2).0

-- the token behind the next one, where one comes
pub second_shown : (s scout mid new : State) (first : Option TokenAndSpan) (t : TokenAndSpan) (r : Result (Option TokenAndSpan) Error) → first ≡ Some t → scout ≡ scout_in s
    → IsStep scout (option_map shown_spot first) mid → Steps (IsStep mid) r new
    → MatchResult r (λ u. option_map shown_spot u ≡ behind_by step_of (step_of s).0 (step_of s).1) (λ e. e.kind ≡ Memory)
second_shown s scout mid new first t (Ok u) is e h k =
    let own = subst (λ o. IsStep scout (option_map shown_spot o) mid) is h in
    let j = scouted s mid (Some (shown_spot t)) (subst (λ (x : State). IsStep x (Some (shown_spot t)) mid) e own) in
    moved (step_of s).1 mid new j.1 j.2 (option_map shown_spot u) j.3 j.4 k ∙ sym (behind_some s (shown_spot t) j.0)
second_shown s scout mid new first t (Err f) is e h k = k

-- and where nothing comes
pub none_shown : (s scout mid : State) → scout ≡ scout_in s → IsStep scout None mid → None ≡ behind_by step_of (step_of s).0 (step_of s).1
none_shown s scout mid e h = ap (λ o. behind_by step_of o (step_of s).1) (scouted s mid None (subst (λ (x : State). IsStep x None mid) e h)).0
