-- How a step takes a token.
use Rattle.std.proofs.Common.{◌≡◌, ◌≢◌, ℕ, ◌⊎◌, inl, inr, Bool, false, List, [], ◌∷◌, ◌++◌, Option, Some, None, refl, sym, ap}
use Rattle.std.proofs.lemmas.Option.{same_Some}
use Rattle.base_token.specs.Kinds.{error_kind}
use Rattle.base_token.specs.Tokens.{Spot}
use Rattle.lex_source.specs.declared.contexts.TokenContext.{TokenContext}
use Rattle.lex_source.specs.declared.contexts.TokenContext.TheVariants as t
use Rattle.lex_pieces.specs.Trivia.{IsHashbang, IsSkipped}
use Rattle.lex_token.specs.declared.goal.LexicalGoal.{LexicalGoal}
use Rattle.lex_token.specs.declared.goal.LexicalGoal.TheVariants.{Div, RegExp, TemplateTail, TemplateEnd}
use Rattle.lex_token.specs.Lexemes.{SpecLexeme, IsCharacters, IsEnd, IsLexeme}
use Rattle.lex_step_laws.specs.States.{Last, Start, Slash, Characters, Fault, Other, State, behind, goal_of, is_start, shebang, spot_at, template_goal}
use Rattle.lex_step_laws.specs.Steps.{IsFirst, IsGoing, IsOutside, IsPlain, IsRead}
use Rattle.lex_run_laws.proofs.Behind.{Behind, follow_behind, hashbang_behind, here, lexeme_behind}
use Rattle.lex_step_laws.proofs.Going.{none_some}

-- the characters of a template, where they come
pub record Tail (s : State) (line_break : Bool) (from : List ℕ) (x : SpecLexeme) (rest : List ℕ) : Type 0 where
  pub goal : template_goal s.settings.contexts s.tokens.last ≡ Some TemplateTail
  pub here : from ≡ s.tokens.left
  pub mark : line_break ≡ false
  pub is : IsCharacters from x rest

-- what ends them
pub record Ending (s : State) (line_break : Bool) (from : List ℕ) (x : SpecLexeme) (rest : List ℕ) : Type 0 where
  pub goal : template_goal s.settings.contexts s.tokens.last ≡ Some TemplateEnd
  pub here : from ≡ s.tokens.left
  pub mark : line_break ≡ false
  pub is : IsEnd from x rest

-- a hashbang
pub record Bang (s : State) (line_break : Bool) (from : List ℕ) (x : SpecLexeme) (rest : List ℕ) : Type 0 where
  pub goal : template_goal s.settings.contexts s.tokens.last ≡ None
  pub start : s.tokens.last ≡ Start
  pub here : from ≡ s.tokens.left
  pub mark : line_break ≡ false
  pub own : List ℕ
  pub is : IsHashbang from own rest
  pub token : x ≡ shebang own

-- any other token, behind trivia
pub record Plain (s : State) (line_break : Bool) (from : List ℕ) (x : SpecLexeme) (rest : List ℕ) : Type 0 where
  pub goal : template_goal s.settings.contexts s.tokens.last ≡ None
  pub skipped : IsSkipped (goal_of s.settings.ctx) (is_start s.tokens.last) s.tokens.left line_break from
  pub is : IsLexeme Div from x rest

abbrev pub How : State → Bool → List ℕ → SpecLexeme → List ℕ → Type 0
How s line_break from x rest = Tail s line_break from x rest ⊎ (Ending s line_break from x rest ⊎ (Bang s line_break from x rest ⊎ Plain s line_break from x rest))

-- A token was taken.
pub record Took (s : State) (spot : Spot) (new : State) : Type 0 where
  pub line_break : Bool
  pub from : List ℕ
  pub x : SpecLexeme
  pub rest : List ℕ
  pub gone : Behind s.tokens.left from
  pub own : List ℕ
  pub cut : from ≡ own ++ rest
  pub spot_is : spot ≡ spot_at s.tokens.end line_break x.token from rest
  pub new_is : new ≡ behind s line_break from x rest
  pub how : How s line_break from x rest

pub read_token : (s : State) (line_break : Bool) (from : List ℕ) (spot : Spot) → spot.token.kind ≢ error_kind → (goal : LexicalGoal) (new : State)
    → IsRead goal line_break from s (Some spot) new → (x : SpecLexeme) × (rest : List ℕ) × IsLexeme goal from x rest
    × (spot ≡ spot_at s.tokens.end line_break x.token from rest) × (new ≡ behind s line_break from x rest)
read_token s line_break from spot n goal new (inl h) = (h.0, h.1, h.2, same_Some _ _ h.3, h.4)
read_token s line_break from spot n goal new (inr (inl h)) = absurd (n (ap (λ (p : Spot). p.token.kind) (same_Some _ _ h.2)))
read_token s line_break from spot n goal new (inr (inr h)) = none_some (sym h.1)

pub no_goal : (cs : List TokenContext) (l : Last) (goal : LexicalGoal) → goal ≢ TemplateTail → goal ≢ TemplateEnd → template_goal cs l ≡ Some goal → ⊥
no_goal [] l goal a b e = none_some e
no_goal (t.BraceStmt ∷ cs) l goal a b e = none_some e
no_goal (t.BraceExpr ∷ cs) l goal a b e = none_some e
no_goal (t.TplQuasi ∷ cs) l goal a b e = none_some e
no_goal (t.ParenStmt is_for_loop ∷ cs) l goal a b e = none_some e
no_goal (t.ParenExpr ∷ cs) l goal a b e = none_some e
no_goal (t.Tpl ∷ cs) l goal a b e = tpl l e
  where
    tpl : (l : Last) → template_goal (t.Tpl ∷ cs) l ≡ Some goal → ⊥
    tpl Start d = a (sym (same_Some _ _ d))
    tpl (Slash from) d = a (sym (same_Some _ _ d))
    tpl Characters d = b (sym (same_Some _ _ d))
    tpl Fault d = a (sym (same_Some _ _ d))
    tpl Other d = a (sym (same_Some _ _ d))
no_goal (t.FnExpr ∷ cs) l goal a b e = none_some e
no_goal (t.ClassExpr ∷ cs) l goal a b e = none_some e

plain_took : (s new : State) (spot : Spot) → spot.token.kind ≢ error_kind → template_goal s.settings.contexts s.tokens.last ≡ None → IsPlain s (Some spot) new → Took s spot new
plain_took s new spot n g (inl h) =
    let r = read_token s h.0 h.1 spot n Div new h.3 in
    let b = lexeme_behind Div h.1 r.0 r.1 r.2 in
    record {
      line_break = h.0;
      from = h.1;
      x = r.0;
      rest = r.1;
      gone = follow_behind (goal_of s.settings.ctx) (is_start s.tokens.last) s.tokens.left h.2.0 h.1 h.2.1.0;
      own = b.0;
      cut = b.1;
      spot_is = r.3;
      new_is = r.4;
      how = inr (inr (inr (record { goal = g; skipped = h.2; is = r.2 })));
    }
plain_took s new spot n g (inr h) = absurd (n (ap (λ (p : Spot). p.token.kind) (same_Some _ _ h.2)))

first_took : (s new : State) (spot : Spot) → spot.token.kind ≢ error_kind → template_goal s.settings.contexts s.tokens.last ≡ None → s.tokens.last ≡ Start → IsFirst s (Some spot) new → Took s spot new
first_took s new spot n g e (inl h) =
    let b = hashbang_behind s.tokens.left h.0 h.1 h.2 in
    record {
      line_break = false;
      from = s.tokens.left;
      x = shebang h.0;
      rest = h.1;
      gone = here s.tokens.left s.tokens.left refl;
      own = b.0;
      cut = b.1;
      spot_is = same_Some _ _ h.3;
      new_is = h.4;
      how = inr (inr (inl (record { goal = g; start = e; here = refl; mark = refl; own = h.0; is = h.2; token = refl })));
    }
first_took s new spot n g e (inr h) = plain_took s new spot n g h.1

outside_took : (last : Last) (s new : State) (spot : Spot) → spot.token.kind ≢ error_kind → template_goal s.settings.contexts s.tokens.last ≡ None → s.tokens.last ≡ last → IsOutside last s (Some spot) new → Took s spot new
outside_took Start s new spot n g e h = first_took s new spot n g e h
outside_took (Slash from) s new spot n g e h = plain_took s new spot n g h
outside_took Characters s new spot n g e h = plain_took s new spot n g h
outside_took Fault s new spot n g e h = plain_took s new spot n g h
outside_took Other s new spot n g e h = plain_took s new spot n g h

inside_took : (goal : LexicalGoal) (s new : State) (spot : Spot) → spot.token.kind ≢ error_kind → IsRead goal false s.tokens.left s (Some spot) new
    → ((x : SpecLexeme) (rest : List ℕ) → IsLexeme goal s.tokens.left x rest → How s false s.tokens.left x rest) → Took s spot new
inside_took goal s new spot n h how =
    let r = read_token s false s.tokens.left spot n goal new h in
    let b = lexeme_behind goal s.tokens.left r.0 r.1 r.2 in
    record {
      line_break = false;
      from = s.tokens.left;
      x = r.0;
      rest = r.1;
      gone = here s.tokens.left s.tokens.left refl;
      own = b.0;
      cut = b.1;
      spot_is = r.3;
      new_is = r.4;
      how = how r.0 r.1 r.2;
    }

going_took : (goal : Option LexicalGoal) (s new : State) (spot : Spot) → spot.token.kind ≢ error_kind → template_goal s.settings.contexts s.tokens.last ≡ goal → IsGoing goal s (Some spot) new → Took s spot new
going_took None s new spot n g h = outside_took s.tokens.last s new spot n g refl h
going_took (Some TemplateTail) s new spot n g h =
    inside_took TemplateTail s new spot n h (λ x rest k. inl (record { goal = g; here = refl; mark = refl; is = k }))
going_took (Some TemplateEnd) s new spot n g h =
    inside_took TemplateEnd s new spot n h (λ x rest k. inr (inl (record { goal = g; here = refl; mark = refl; is = k })))
going_took (Some Div) s new spot n g h = absurd (no_goal s.settings.contexts s.tokens.last Div (λ e. cc) (λ e. cc) g)
going_took (Some RegExp) s new spot n g h = absurd (no_goal s.settings.contexts s.tokens.last RegExp (λ e. cc) (λ e. cc) g)

pub took : (s new : State) (spot : Spot) → spot.token.kind ≢ error_kind → IsGoing (template_goal s.settings.contexts s.tokens.last) s (Some spot) new → Took s spot new
took s new spot n h = going_took (template_goal s.settings.contexts s.tokens.last) s new spot n refl h
