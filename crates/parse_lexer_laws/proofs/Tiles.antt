-- Tokens that a lexer at its start hands out tile the text.
use Rattle.std.proofs.Common.{◌≡◌, ◌⊎◌, ⊎_elim, ℕ, zero, suc, ◌+◌, Bool, true, false, cond, leb-true, List, [], ◌∷◌, Option, Some, None, inl, inr, refl, sym, ap, ◌∙◌, subst, arith}
use Rattle.std.specs.Prelude.{◌==◌, nat_le}
use Rattle.std.proofs.lemmas.Bool.{cases_Bool, false≢true, eqb-true, or_cases}
use Rattle.std.proofs.lemmas.Option.{same_Some}
use Rattle.base_proofs.proofs.Bools.{eqb_same}
use Rattle.base_token.specs.Kinds.{div_kind, div_assign_kind, error_kind, regex_kind}
use Rattle.base_token.specs.Tokens.{Spot}
use Rattle.base_token.specs.TokenViews.{token_kind_number}
use Rattle.base_token.specs.declared.token.TokenKind.{TokenKind}
use Rattle.base_token.specs.declared.token.TokenKind.TheVariants.{BinOp, AssignOp}
use Rattle.base_token.specs.declared.operator.BinOpToken.TheVariants as b
use Rattle.base_token.specs.declared.operator.AssignOp.TheVariants as a
use Rattle.lex_pieces.specs.Places.{bytes}
use Rattle.lex_pieces.specs.Punctuators.{IsPunctuator}
use Rattle.lex_pieces.specs.Trivia.{IsHashbang, IsSkipped, NoHashbang}
use Rattle.lex_pieces.specs.declared.trivia.Goal.{Goal}
use Rattle.lex_pieces.proofs.Longest.{one_punctuator}
use Rattle.lex_literal.specs.Escapes.{begins}
use Rattle.lex_token.specs.declared.goal.LexicalGoal.{LexicalGoal}
use Rattle.lex_token.specs.declared.goal.LexicalGoal.TheVariants.{Div, RegExp, TemplateTail, TemplateEnd}
use Rattle.lex_token.specs.Lexemes.{SpecLexeme, IsLexeme}
use Rattle.lex_token.specs.Sorts as lexeme
use Rattle.lex_source.specs.Settings.{Settings}
use Rattle.lex_source.specs.declared.contexts.TokenContext.{TokenContext}
use Rattle.lex_source.specs.declared.contexts.TokenContext.TheVariants.{Tpl}
use Rattle.grammar_spec.specs.Tokens.Input.{PlacedToken, usual}
use Rattle.grammar_laws.specs.Slash.TemplateLaws.{Region, Outside, Inside, Behind, Nowhere, after, over}
use Rattle.grammar_laws.proofs.slash.Fits.{not_lost, fits_on, low_there, usual_there, sound_on}
use Rattle.lex_step_laws.specs.States.{Last, Start, Slash, Characters, Fault, Other, State, again, again_by, behind, goal_of, is_start, place, shebang, spot_at, template_goal, contexts_after, last_after}
use Rattle.lex_step_laws.specs.Steps.{IsRead, IsPlain, IsOutside, IsGoing, IsStepBy, IsStepOf, IsStep}
use Rattle.lex_step_laws.proofs.StepLemmas.{one_step}
use Rattle.lex_step_laws.proofs.Trivia.{hashbang_or_not}
use Rattle.ecma_lexer.specs.Machine.{step_of, lexer_machine}
use Rattle.ecma_lexer.proofs.LookLemmas.{step_made}
use Rattle.parse_state.specs.Cursors.{asked}
use Rattle.parse_source_laws.specs.Sources.{is_slash}
use Rattle.grammar_text_spec.specs.Tiled.{goal_at, whole, IsBefore, AreTiles, AfterHashbang, Tile}
use Rattle.parse_lexer_laws.specs.Handed.{handed}
use Rattle.parse_lexer_laws.specs.Tiled.{SameSpots, HandedTile, DerivedTile}
use Rattle.parse_lexer_laws.proofs.Regions.{held, IsNoFault, At, no_goal, next, past_start}
use Rattle.parse_lexer_laws.proofs.Untakes.{Took, Comes, untake, untake_none}
use Rattle.parse_lexer_laws.proofs.Hands.{IsSlash, slash_at, mk, start_as, matched}
use Rattle.parse_lexer_laws.proofs.Starts.{no_again, no_start}
use Rattle.parse_lexer_laws.proofs.Slashes.{ending_apart, either_goal, not_ordinary, slash_last}

-- ---- lexemes under both goals

abbrev starts : List ℕ → Bool
starts text = begins lexeme.is_slash text

slash_is : (text : List ℕ) (kind : TokenKind) (rest : List ℕ) → IsSlash text → IsPunctuator text kind rest → is_slash (token_kind_number kind) ≡ true
slash_is text kind rest (inl h) p = subst (λ (z : TokenKind). is_slash (token_kind_number z) ≡ true) (one_punctuator text (BinOp b.Div) kind h.0 rest h.1 p).0 refl
slash_is text kind rest (inr h) p = subst (λ (z : TokenKind). is_slash (token_kind_number z) ≡ true) (one_punctuator text (AssignOp a.DivAssign) kind h.0 rest h.1 p).0 refl

slashes : (text : List ℕ) → starts text ≡ true → IsSlash text
slashes [] e = absurd (false≢true e)
slashes (c ∷ cs) e = subst (λ (z : ℕ). IsSlash (z ∷ cs)) (sym (eqb-true c 47 e)) (slash_at cs)

slash_kind : (text : List ℕ) (x : SpecLexeme) (rest : List ℕ) → starts text ≡ true → IsLexeme Div text x rest → is_slash x.token.kind ≡ true
slash_kind text x rest e (inl h) = absurd (not_ordinary text x rest e h)
slash_kind text x rest e (inr (inl h)) = absurd (false≢true h.0)
slash_kind text x rest e (inr (inr h)) = ap (λ (z : SpecLexeme). is_slash z.token.kind) h.1.2 ∙ slash_is text h.1.0 rest (slashes text e) h.1.1

-- no slash is usual where a regular expression stands
slash_unusual : (k : ℕ) → is_slash k ≡ true → usual k 1 ≡ true → ⊥
slash_unusual k s e = ⊎_elim
    (λ (r : (k == regex_kind) ≡ true). false≢true (ap (λ (z : ℕ). is_slash z) (sym (eqb-true k regex_kind r)) ∙ s))
    (λ (r : (k == regex_kind) ≡ false). let q : usual k 1 ≡ false = rw (r, s) refl in false≢true (sym q ∙ e))
    (cases_Bool (k == regex_kind))

-- a regular expression is usual there alone
regex_usual : (k g : ℕ) → k ≡ regex_kind → usual k g ≡ true → g ≡ 1
regex_usual k g r e = eqb-true g 1 (subst (λ (z : ℕ). usual z g ≡ true) r e)

-- ---- steps, backwards

made : (s : State) (out : Option Spot) → (step_of s).0 ≡ out → IsStep s out (step_of s).1
made s out e = subst (λ (z : Option Spot). IsStep s z (step_of s).1) e (step_made s)

no_some : (x : Spot) → Some x ≡ None → ⊥
no_some x e = cc

-- what was read there, which is no fault
abbrev Lexed : State → LexicalGoal → Bool → List ℕ → Spot → State → Type 0
Lexed s goal lb from t new = (x : SpecLexeme) × (rest : List ℕ) × IsLexeme goal from x rest × (t ≡ spot_at s.tokens.end lb x.token from rest) × (new ≡ behind s lb from x rest)

read_back : (s new : State) (goal : LexicalGoal) (lb : Bool) (from : List ℕ) (t : Spot) → (t.token.kind ≡ error_kind → ⊥) → IsRead goal lb from s (Some t) new → Lexed s goal lb from t new
read_back s new goal lb from t n (inl h) = (h.0, h.1, h.2, same_Some _ _ h.3, h.4)
read_back s new goal lb from t n (inr (inl h)) = absurd (n (ap (λ (z : Spot). z.token.kind) (same_Some _ _ h.2)))
read_back s new goal lb from t n (inr (inr h)) = absurd (no_some t h.1)

read_end : (s new : State) (lb : Bool) (from : List ℕ) → IsRead Div lb from s None new → from ≡ []
read_end s new lb from (inl h) = absurd (no_some _ (sym h.3))
read_end s new lb from (inr (inl h)) = absurd (no_some _ (sym h.2))
read_end s new lb from (inr (inr h)) = h.0.1

last_back : (s new : State) (out : Option Spot) (l : Last) → IsNoFault l → IsStepOf l s out new → IsStepBy (again s) s out new
last_back s new out Start n h = h
last_back s new out (Slash from) n h = h
last_back s new out Characters n h = h
last_back s new out Fault n h = absurd n
last_back s new out Other n h = h

module _ (end : ℕ) (modules : Bool) (u : Settings) (l : Last) (br : Bool) (text : List ℕ) (un : u.next_regexp ≡ None) (md : u.ctx.module_ ≡ modules) where
  abbrev here : State
  here = mk end u l br text

  going_back : (out : Option Spot) (new : State) → IsNoFault l → (goal : Option LexicalGoal) → template_goal u.contexts l ≡ goal → IsStep here out new → IsGoing goal here out new
  going_back out new n goal e h = subst (λ (z : Option LexicalGoal). IsGoing z here out new) e
      (subst (λ (z : Option (List ℕ)). IsStepBy z here out new) (ap (λ (z : Option ℕ). again_by l z end) un ∙ no_again end l) (last_back here new out l n h.is))

  plain_of : (out : Option Spot) (new : State) (last : Last) → (is_start last ≡ true → NoHashbang text) → IsOutside last here out new → IsPlain here out new
  plain_of out new Start n (inl h) = absurd (n refl h.2.0 h.2.1)
  plain_of out new Start n (inr h) = h.1
  plain_of out new (Slash from) n h = h
  plain_of out new Characters n h = h
  plain_of out new Fault n h = h
  plain_of out new Other n h = h

  module _ (first : Bool) (i : is_start l ≡ first) where
    skipped_so : (lb : Bool) (from : List ℕ) → IsSkipped (goal_of u.ctx) (is_start l) text lb from → IsSkipped (whole modules) first text lb from
    skipped_so lb from h = subst (λ (z : Goal). IsSkipped z first text lb from) (ap (λ (z : Bool). whole z) md) (subst (λ (z : Bool). IsSkipped (goal_of u.ctx) z text lb from) i h)

    -- what was read outside of the characters of templates, behind trivia
    abbrev Read : Spot → State → Type 0
    Read t new = (lb : Bool) × (from : List ℕ) × IsSkipped (whole modules) first text lb from × Lexed here Div lb from t new

    plain_back : (t : Spot) (new : State) → (t.token.kind ≡ error_kind → ⊥) → IsPlain here (Some t) new → Read t new
    plain_back t new n (inl h) = (h.0, h.1, skipped_so h.0 h.1 h.2, read_back here new Div h.0 h.1 t n h.3)
    plain_back t new n (inr h) = absurd (n (ap (λ (z : Spot). z.token.kind) (same_Some _ _ h.2)))

    plain_end : (new : State) → IsPlain here None new → (lb : Bool) × IsSkipped (whole modules) first text lb []
    plain_end new (inl h) = (h.0, subst (λ (z : List ℕ). IsSkipped (whole modules) first text h.0 z) (read_end here new h.0 h.1 h.3) (skipped_so h.0 h.1 h.2))
    plain_end new (inr h) = absurd (no_some _ (sym h.2))

    module _ (s : List Bool) (at : At (Outside s) u.contexts l) (n : is_start l ≡ true → NoHashbang text) where
      plainly : (out : Option Spot) (new : State) → IsStep here out new → IsPlain here out new
      plainly out new h = plain_of out new l n (going_back out new at.1 None (ap (λ (z : List TokenContext). template_goal z l) at.0 ∙ no_goal s l) h)

      read_outside : (t : Spot) → (t.token.kind ≡ error_kind → ⊥) → (step_of here).0 ≡ Some t → Read t (step_of here).1
      read_outside t k e = plain_back t (step_of here).1 k (plainly (Some t) (step_of here).1 (made here (Some t) e))

      ends_outside : (step_of here).0 ≡ None → (lb : Bool) × IsSkipped (whole modules) first text lb []
      ends_outside e = plain_end (step_of here).1 (plainly None (step_of here).1 (made here None e))

-- ---- a list

-- a place with the escape of a token
abbrev marked : PlacedToken → SpecLexeme → PlacedToken
marked p x = record p { escaped = x.escaped }

module _ (end : ℕ) (modules : Bool) where
  abbrev Tiles : Bool → List ℕ → List PlacedToken → Type 0
  Tiles first text ps = (qs : List PlacedToken) × SameSpots ps qs × AreTiles end (whole modules) first text qs

  -- What such a state hands out tiles the text, where it matches.
  abbrev Back : List PlacedToken → Type 0
  Back ps = (g : Region) (u : Settings) (l : Last) (br : Bool) (text : List ℕ) (first : Bool) → u.next_regexp ≡ None → u.ctx.module_ ≡ modules → At g u.contexts l → is_start l ≡ first
      → (is_start l ≡ true → NoHashbang text) → over g ps ≡ Outside [] → Comes (handed ps) (mk end u l br text) → Tiles first text ps

  module _ (p : PlacedToken) (ps : List PlacedToken) (k : Back ps) (g : Region) (first : Bool) (text : List ℕ) (o : over (after g p.spot.token.kind) ps ≡ Outside []) where
    -- a token in front of what tiles the rest
    on : (u : Settings) (br : Bool) (from : List ℕ) (x : SpecLexeme) (rest : List ℕ) → u.next_regexp ≡ None → u.ctx.module_ ≡ modules → At (after g x.token.kind) u.contexts (last_after x.token.kind from)
        → p.spot ≡ spot_at end br x.token from rest → Comes (handed ps) (mk end u (last_after x.token.kind from) br rest)
        → IsBefore p.goal (whole modules) first text br from → IsLexeme (goal_at p.goal) from x rest → Tiles first text (p ∷ ps)
    on u br from x rest un md at e h before lex =
        let z = k (after g x.token.kind) u (last_after x.token.kind from) br rest false un md at (past_start x.token.kind from) (no_start x.token.kind from rest)
        (subst (λ (y : Spot). over (after g y.token.kind) ps ≡ Outside []) e o) h in
        (marked p x ∷ z.0, (refl, refl, refl, z.1), (rest, (br, from, x, before, lex, e, refl), z.2))

-- ---- one token, outside of the characters of templates

no_error : (t : Spot) → is_slash t.token.kind ≡ true → t.token.kind ≡ error_kind → ⊥
no_error t s e = false≢true (ap (λ (z : ℕ). is_slash z) (sym e) ∙ s)

slash_keeps : (k : ℕ) (cs : List TokenContext) → is_slash k ≡ true → contexts_after k cs ≡ cs
slash_keeps k cs e = by_case (or_cases (k == div_kind) (k == div_assign_kind) e)
  where
    by_case : ((k == div_kind) ≡ true) ⊎ ((k == div_assign_kind) ≡ true) → contexts_after k cs ≡ cs
    by_case (inl h) = subst (λ (z : ℕ). contexts_after z cs ≡ cs) (sym (eqb-true k div_kind h)) refl
    by_case (inr h) = subst (λ (z : ℕ). contexts_after z cs ≡ cs) (sym (eqb-true k div_assign_kind h)) refl

-- a slash that is read again in its place
reread : (s new : State) (from : List ℕ) (t : Spot) → s.tokens.last ≡ Slash from → s.settings.next_regexp ≡ Some (place s.tokens.end from) → (t.token.kind ≡ error_kind → ⊥)
    → IsStep s (Some t) new → Lexed s RegExp s.tokens.line_break from t new
reread s new from t e i n h = read_back s new RegExp s.tokens.line_break from t n
    (subst (λ (z : Option (List ℕ)). IsStepBy z s (Some t) new) here (subst (λ (z : Last). IsStepOf z s (Some t) new) e h.is))
  where
    here : again s ≡ Some from
    here = ap (λ (z : Last). again_by z s.settings.next_regexp s.tokens.end) e ∙ (ap (λ (z : Option ℕ). again_by (Slash from) z s.tokens.end) i ∙ ap (λ (y : Bool). cond y (Some from) None) (eqb_same (place s.tokens.end from)))

module _ (end : ℕ) (modules : Bool) (p : PlacedToken) (ps : List PlacedToken) (k : Back end modules ps) (u : Settings) (l : Last) (br : Bool) (text : List ℕ) (first : Bool) (un : u.next_regexp ≡ None) (md : u.ctx.module_ ≡ modules)
    (i : is_start l ≡ first) (sound : p.spot.token.kind ≡ error_kind → ⊥) where
  abbrev stand : State
  stand = mk end u l br text

  abbrev Took_here : Type 0
  Took_here = Took lexer_machine (step_of stand).0 (step_of stand).1 p.spot (handed ps)

  module _ (s : List Bool) (at : At (Outside s) u.contexts l) (n : is_start l ≡ true → NoHashbang text) (o : over (after (Outside s) p.spot.token.kind) ps ≡ Outside []) (fit : usual p.spot.token.kind p.goal ≡ true) where
    -- as it came, under the goal of its place
    plain_goal : (goal : ℕ) → p.goal ≡ goal → nat_le goal 1 ≡ true → (lb : Bool) (from : List ℕ) (x : SpecLexeme) (rest : List ℕ) → p.spot ≡ spot_at end lb x.token from rest → IsSkipped (whole modules) first text lb from
        → IsLexeme Div from x rest → IsBefore p.goal (whole modules) first text lb from × IsLexeme (goal_at p.goal) from x rest
    plain_goal zero e h lb from x rest q sk lex = (subst (λ (z : ℕ). IsBefore z (whole modules) first text lb from) (sym e) sk, subst (λ (z : ℕ). IsLexeme (goal_at z) from x rest) (sym e) lex)
    plain_goal (suc zero) e h lb from x rest q sk lex = (
      subst (λ (z : ℕ). IsBefore z (whole modules) first text lb from) (sym e) sk,
      subst (λ (z : ℕ). IsLexeme (goal_at z) from x rest) (sym e)
          (⊎_elim
          (λ (t : starts from ≡ true). absurd (slash_unusual x.token.kind (slash_kind from x rest t lex) (subst (λ (z : ℕ). usual x.token.kind z ≡ true) e (subst (λ (y : Spot). usual y.token.kind p.goal ≡ true) q fit))))
          (λ (t : starts from ≡ false). either_goal from x rest t lex)
          (cases_Bool (starts from))),
    )
    plain_goal (suc (suc m)) e h lb from x rest q sk lex = absurd (omega (arith, leb-true (suc (suc m)) 1 h))

    came_plain : nat_le p.goal 1 ≡ true → Read end modules u l br text un md first i p.spot (step_of stand).1 → Comes (handed ps) (step_of stand).1 → Tiles end modules first text (p ∷ ps)
    came_plain le r h = let g = plain_goal p.goal refl le r.0 r.1 r.3.0 r.3.1 r.3.3 r.2 r.3.2 in
        on end modules p ps k (Outside s) first text o (behind stand r.0 r.1 r.3.0 r.3.1).settings r.0 r.1 r.3.0 r.3.1 un md (next r.1 (Outside s) u.contexts l r.3.0.token.kind at) r.3.3
        (subst (λ (z : State). Comes (handed ps) z) r.3.4 h) g.0 g.1

    -- behind a slash, which was read again as it
    abbrev Second : State → ℕ → Type 0
    Second z lo = ((step_of (asked (Some lo) z)).0 ≡ Some p.spot) × Comes (handed ps) (asked None (step_of (asked (Some lo) z)).1)

    came_again : (q : Spot) → is_slash q.token.kind ≡ true → p.spot.token.kind ≡ regex_kind → Read end modules u l br text un md first i q (step_of stand).1 → Second (step_of stand).1 q.lo → Tiles end modules first text (p ∷ ps)
    came_again q slash regex r h = let x = r.3.0 in let mid : State = behind stand r.0 r.1 x r.3.1 in let told : State = asked (Some (place end r.1)) mid in
        let kind : is_slash x.token.kind ≡ true = subst (λ (y : Spot). is_slash y.token.kind ≡ true) r.3.3 slash in
        let h2 : Second mid (place end r.1) = subst (λ (z : ℕ). Second mid z) (ap (λ (y : Spot). y.lo) r.3.3) (subst (λ (z : State). Second z q.lo) {y = mid} r.3.4 h) in
        let w = reread told (step_of told).1 r.1 p.spot (slash_last x.token.kind r.1 kind) (refl {a = Some (place end r.1)}) sound (made told (Some p.spot) h2.0) in
        let e : p.goal ≡ 1 = regex_usual p.spot.token.kind p.goal regex fit in
        on end modules p ps k (Outside s) first text o (asked None (behind told r.0 r.1 w.0 w.1)).settings r.0 r.1 w.0 w.1 (refl {a = None}) md
        (next r.1 (Outside s) (contexts_after x.token.kind u.contexts) l w.0.token.kind (slash_keeps x.token.kind u.contexts kind ∙ at.0, at.1)) w.3
        (subst (λ (z : State). Comes (handed ps) (asked None z)) {y = behind told r.0 r.1 w.0 w.1} w.4 h2.1)
        (subst (λ (z : ℕ). IsBefore z (whole modules) first text r.0 r.1) (sym e) r.2) (subst (λ (z : ℕ). IsLexeme (goal_at z) r.1 w.0 w.1) (sym e) w.2)

    outside_back : nat_le p.goal 1 ≡ true → Took_here → Tiles end modules first text (p ∷ ps)
    outside_back le (inl h) = came_plain le (read_outside end modules u l br text un md first i s at n p.spot sound h.0) (p.spot.hi, h.1)
    outside_back le (inr h) = came_again h.0 h.2 h.3.1 (read_outside end modules u l br text un md first i s at n h.0 (no_error h.0 h.2) h.1) (h.4, (p.spot.hi, h.5))

  -- ---- in a template

  module _ (g : Region) (at : At g u.contexts l) (nf : IsNoFault l) (goal : LexicalGoal) (e : template_goal u.contexts l ≡ Some goal) (o : over (after g p.spot.token.kind) ps ≡ Outside [])
      (apart : (x : SpecLexeme) (rest : List ℕ) → IsLexeme goal text x rest → is_slash x.token.kind ≡ false)
      (give : (x : SpecLexeme) (rest : List ℕ) → IsLexeme goal text x rest → IsBefore p.goal (whole modules) first text false text × IsLexeme (goal_at p.goal) text x rest) where
    read_in : (t : Spot) → (t.token.kind ≡ error_kind → ⊥) → (step_of stand).0 ≡ Some t → Lexed stand goal false text t (step_of stand).1
    read_in t n h = read_back stand (step_of stand).1 goal false text t n (going_back end modules u l br text un md (Some t) (step_of stand).1 nf (Some goal) e (made stand (Some t) h))

    no_slash_in : (q : Spot) → is_slash q.token.kind ≡ true → Lexed stand goal false text q (step_of stand).1 → ⊥
    no_slash_in q s r = false≢true (sym (apart r.0 r.1 r.2) ∙ subst (λ (y : Spot). is_slash y.token.kind ≡ true) r.3 s)

    template_back : Took_here → Tiles end modules first text (p ∷ ps)
    template_back (inl h) = let r = read_in p.spot sound h.0 in let w = give r.0 r.1 r.2 in
        on end modules p ps k g first text o (behind stand false text r.0 r.1).settings false text r.0 r.1 un md (next text g u.contexts l r.0.token.kind at) r.3
        (subst (λ (z : State). Comes (handed ps) z) r.4 (p.spot.hi, h.1)) w.0 w.1
    template_back (inr h) = absurd (no_slash_in h.0 h.2 (read_in h.0 (no_error h.0 h.2) h.1))

tail_apart : (text : List ℕ) (x : SpecLexeme) (rest : List ℕ) → IsLexeme TemplateTail text x rest → is_slash x.token.kind ≡ false
tail_apart text x rest h = ap (λ (z : SpecLexeme). is_slash z.token.kind) h.6

end_apart : (text : List ℕ) (x : SpecLexeme) (rest : List ℕ) → IsLexeme TemplateEnd text x rest → is_slash x.token.kind ≡ false
end_apart text x rest h = ap (λ (z : SpecLexeme). is_slash z.token.kind) h.2 ∙ ending_apart h.0

module _ (end : ℕ) (modules : Bool) where
  step_back : (p : PlacedToken) (ps : List PlacedToken) → Back end modules ps → Back end modules (p ∷ ps)
  step_back p ps k (Outside s) u l br text first un md at i n o c = let m = fits_on (Outside s) p ps o in
      outside_back end modules p ps k u l br text first un md i (sound_on (Outside s) p ps o) s at n m.1 (usual_there s p.spot.token.kind p.goal m.0) (low_there s p.spot.token.kind p.goal m.0) (untake (mk end u l br text) p.spot (handed ps) c)
  step_back p ps k (Inside s) u l br text first un md at i n o c = let m = fits_on (Inside s) p ps o in let e : p.goal ≡ 2 = eqb-true p.goal 2 m.0 in
      template_back end modules p ps k u l br text first un md i (sound_on (Inside s) p ps o) (Inside s) at (subst (λ (z : Last). IsNoFault z) (sym at.1) tt) TemplateTail
      (ap (λ (z : List TokenContext). template_goal z l) at.0 ∙ ap (λ (z : Last). template_goal (Tpl ∷ held s) z) at.1) m.1 (tail_apart text)
      (λ x rest h. (subst (λ (z : ℕ). IsBefore z (whole modules) first text false text) (sym e) (refl, refl), subst (λ (z : ℕ). IsLexeme (goal_at z) text x rest) (sym e) h))
      (untake (mk end u l br text) p.spot (handed ps) c)
  step_back p ps k (Behind s) u l br text first un md at i n o c = let m = fits_on (Behind s) p ps o in let e : p.goal ≡ 3 = eqb-true p.goal 3 m.0 in
      template_back end modules p ps k u l br text first un md i (sound_on (Behind s) p ps o) (Behind s) at (subst (λ (z : Last). IsNoFault z) (sym at.1) tt) TemplateEnd
      (ap (λ (z : List TokenContext). template_goal z l) at.0 ∙ ap (λ (z : Last). template_goal (Tpl ∷ held s) z) at.1) m.1 (end_apart text)
      (λ x rest h. (subst (λ (z : ℕ). IsBefore z (whole modules) first text false text) (sym e) (refl, refl), subst (λ (z : ℕ). IsLexeme (goal_at z) text x rest) (sym e) h))
      (untake (mk end u l br text) p.spot (handed ps) c)
  step_back p ps k Nowhere u l br text first un md at i n o c = absurd (not_lost (p ∷ ps) o)

  no_inside : (s : List Bool) → Inside s ≡ Outside [] → ⊥
  no_inside s e = cc

  no_behind : (s : List Bool) → Behind s ≡ Outside [] → ⊥
  no_behind s e = cc

  done_back : Back end modules []
  done_back (Outside s) u l br text first un md at i n o c = ([], tt, ends_outside end modules u l br text un md first i s at n (untake_none (mk end u l br text) c))
  done_back (Inside s) u l br text first un md at i n o c = absurd (no_inside s o)
  done_back (Behind s) u l br text first un md at i n o c = absurd (no_behind s o)
  done_back Nowhere u l br text first un md at i n o c = absurd (not_lost [] o)

  back : (ps : List PlacedToken) → Back end modules ps
  back [] = done_back
  back (p ∷ ps) = step_back p ps (back ps)

  -- ---- a whole text

  module _ (u : Settings) (br : Bool) (text : List ℕ) (un : u.next_regexp ≡ None) (md : u.ctx.module_ ≡ modules) (at : u.contexts ≡ []) where
    abbrev opening : State
    opening = mk end u Start br text

    abbrev Whole : List PlacedToken → Type 0
    Whole ps = (qs : List PlacedToken) × SameSpots ps qs × ((NoHashbang text × AreTiles end (whole modules) true text qs) ⊎ AfterHashbang end (whole modules) text qs)

    first_back : (out : Option Spot) → (step_of opening).0 ≡ out → IsOutside Start opening out (step_of opening).1
    first_back out e = going_back end modules u Start br text un md out (step_of opening).1 tt None (ap (λ (z : List TokenContext). template_goal z Start) at) (made opening out e)

    -- the line of a hashbang is the first token
    module _ (own rest : List ℕ) (line : IsHashbang text own rest) where
      abbrev token : Spot
      token = spot_at end false (shebang own).token text rest

      abbrev past : State
      past = behind opening false text (shebang own) rest

      its : IsStep opening (Some token) past
      its = record {
        is = subst (λ (z : Option (List ℕ)). IsStepBy z opening (Some token) past) (sym (ap (λ (z : Option ℕ). again_by Start z end) un ∙ no_again end Start))
            (subst (λ (z : Option LexicalGoal). IsGoing z opening (Some token) past) (sym (ap (λ (z : List TokenContext). template_goal z Start) at)) (inl (own, rest, line, refl, refl)));
      }

      same : (out : Option Spot) → (step_of opening).0 ≡ out → (out ≡ Some token) × ((step_of opening).1 ≡ past)
      same out e = one_step opening (step_of opening).1 past out (Some token) (made opening out e) its

      no_slash_first : (q : Spot) → is_slash q.token.kind ≡ true → (step_of opening).0 ≡ Some q → ⊥
      no_slash_first q s e = false≢true (sym (ap (λ (z : Spot). is_slash z.token.kind) (same_Some q token (same (Some q) e).0)) ∙ s)

      line_back : (p : PlacedToken) (ps : List PlacedToken) → over (Outside []) (p ∷ ps) ≡ Outside [] → Took lexer_machine (step_of opening).0 (step_of opening).1 p.spot (handed ps) → Whole (p ∷ ps)
      line_back p ps o (inl h) = let k = same (Some p.spot) h.0 in let e : p.spot ≡ token = same_Some p.spot token k.0 in
          let z = back ps (after (Outside []) (shebang own).token.kind) past.settings (last_after (shebang own).token.kind text) false rest false un md
          (next text (Outside []) u.contexts Start (shebang own).token.kind (at, tt)) (past_start (shebang own).token.kind text) (no_start (shebang own).token.kind text rest)
          (subst (λ (y : Spot). over (after (Outside []) y.token.kind) ps ≡ Outside []) e (fits_on (Outside []) p ps o).1) (subst (λ (y : State). Comes (handed ps) y) k.1 (p.spot.hi, h.1)) in
          (marked p (shebang own) ∷ z.0, (refl, refl, refl, z.1), inr (rest, (own, line, e, refl), z.2))
      line_back p ps o (inr h) = absurd (no_slash_first h.0 h.2 h.1)

      hashbang_back : (ps : List PlacedToken) → over (Outside []) ps ≡ Outside [] → Comes (handed ps) opening → Whole ps
      hashbang_back [] o c = absurd (no_some token (sym (same None (untake_none opening c)).0))
      hashbang_back (p ∷ ps) o c = line_back p ps o (untake opening p.spot (handed ps) c)

    whole_by : ((own : List ℕ) × (rest : List ℕ) × IsHashbang text own rest) ⊎ NoHashbang text → (ps : List PlacedToken) → over (Outside []) ps ≡ Outside [] → Comes (handed ps) opening → Whole ps
    whole_by (inl h) ps o c = hashbang_back h.0 h.1 h.2 ps o c
    whole_by (inr h) ps o c = let z = back ps (Outside []) u Start br text true un md (at, tt) refl (λ e. h) o c in (z.0, z.1, inl (h, z.2))

-- ---- the laws

pub handed_tile : HandedTile
handed_tile start modules text ps s last h o c = start_as (λ (z : State). Comes (handed ps) z → (qs : List PlacedToken) × SameSpots ps qs × Tile start modules text qs) start modules text s h
    (λ k. whole_by (start + bytes text) modules s.settings s.tokens.line_break text h.next_regexp h.goal h.contexts (hashbang_or_not text) ps o k) (last, c)

pub derived_tile : DerivedTile
derived_tile start modules syntax t text ps r s last h d c = handed_tile start modules text ps s last h (matched modules syntax t ps r d.0 d.1) c
