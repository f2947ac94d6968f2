-- Tokens that tile a text are handed out by a lexer at its start.
use Rattle.std.proofs.Common.{◌≡◌, ◌⊎◌, ℕ, zero, suc, ◌+◌, Bool, true, false, cond, leb-true, List, [], ◌∷◌, ◌++◌, Option, Some, None, inl, inr, refl, sym, ap, ◌∙◌, subst, true≢false, arith}
use Rattle.std.specs.Prelude.{◌==◌, nat_le}
use Rattle.std.proofs.lemmas.Bool.{eqb-true}
use Rattle.base_proofs.proofs.Bools.{eqb_same}
use Rattle.base_token.specs.Kinds.{regex_kind}
use Rattle.base_token.specs.Tokens.{Spot, bare}
use Rattle.base_token.specs.TokenViews.{token_kind_number}
use Rattle.base_token.specs.declared.token.TokenKind.{TokenKind}
use Rattle.base_token.specs.declared.token.TokenKind.TheVariants.{BinOp, AssignOp}
use Rattle.base_token.specs.declared.operator.BinOpToken.TheVariants as b
use Rattle.base_token.specs.declared.operator.AssignOp.TheVariants as a
use Rattle.lex_pieces.specs.Places.{bytes}
use Rattle.lex_pieces.specs.Punctuators.{IsPunctuator, or_else, read_punctuator}
use Rattle.lex_pieces.specs.Trivia.{IsSkipped, NoHashbang}
use Rattle.lex_pieces.specs.declared.trivia.Goal.{Goal}
use Rattle.lex_pieces.proofs.Longest.{is_read}
use Rattle.lex_token.specs.declared.goal.LexicalGoal.{LexicalGoal}
use Rattle.lex_token.specs.declared.goal.LexicalGoal.TheVariants.{Div, RegExp, TemplateTail, TemplateEnd}
use Rattle.lex_token.specs.Lexemes.{SpecLexeme, IsLexeme, IsPattern, plain}
use Rattle.lex_source.specs.Settings.{Settings}
use Rattle.lex_source.specs.declared.contexts.TokenContext.{TokenContext}
use Rattle.lex_source.specs.declared.contexts.TokenContext.TheVariants.{Tpl}
use Rattle.tree_spec.specs.Tree.{Tree, script, es_module}
use Rattle.base_token.specs.declared.syntax.EsSyntax.{EsSyntax}
use Rattle.grammar_spec.specs.Tokens.Input.{PlacedToken, Input}
use Rattle.grammar_laws.specs.Slash.TemplateLaws.{Region, Outside, Inside, Behind, Nowhere, after, over}
use Rattle.grammar_laws.proofs.slash.Fits.{not_lost, fits_on, low_there}
use Rattle.grammar_laws.proofs.slash.Braces.{programs_match}
use Rattle.lex_step_laws.specs.States.{Last, Start, Slash, Characters, Fault, Other, State, again, again_by, behind, ended, goal_of, is_start, place, shebang, spot_at, template_goal, contexts_after, last_after}
use Rattle.lex_step_laws.specs.Steps.{IsRead, IsPlain, IsOutside, IsGoing, IsStepBy, IsStepOf, IsStep}
use Rattle.parse_state.specs.Cursors.{place_of, asked}
use Rattle.parse_source_laws.specs.Sources.{is_slash}
use Rattle.grammar_spec.specs.Grammar.{Derives}
use Rattle.grammar_text_spec.specs.Text.{code_of, is_of_goal, text_start}
use Rattle.grammar_text_spec.specs.Tiled.{goal_at, whole, IsBefore, IsTile, AreTiles, AfterHashbang}
use Rattle.parse_lexer_laws.specs.Handed.{handed, AtStart, NewAtStart, TilesHanded, ReadHanded}
use Rattle.parse_lexer_laws.proofs.Regions.{held, IsNoFault, At, no_goal, next, past_start}
use Rattle.parse_lexer_laws.proofs.Takes.{Hands, take_none, take, take_again}
use Rattle.parse_lexer_laws.proofs.Starts.{no_again, no_start}

-- ---- a slash where a regular expression stands

abbrev pub IsSlash : List ℕ → Type 0
IsSlash text = ((rest : List ℕ) × IsPunctuator text (BinOp b.Div) rest) ⊎ ((rest : List ℕ) × IsPunctuator text (AssignOp a.DivAssign) rest)

slash_by : (c : ℕ) (cs : List ℕ) (t : Bool) → or_else (AssignOp a.DivAssign) (cond t (Some cs) None) (Some (BinOp b.Div, c ∷ cs)) ≡ read_punctuator (47 ∷ c ∷ cs) → IsSlash (47 ∷ c ∷ cs)
slash_by c cs true e = inr (cs, is_read (47 ∷ c ∷ cs) (AssignOp a.DivAssign) cs (sym e))
slash_by c cs false e = inl (c ∷ cs, is_read (47 ∷ c ∷ cs) (BinOp b.Div) (c ∷ cs) (sym e))

pub slash_at : (text : List ℕ) → IsSlash (47 ∷ text)
slash_at [] = inl ([], is_read (47 ∷ []) (BinOp b.Div) [] refl)
slash_at (c ∷ cs) = slash_by c cs (c == 61) refl

-- ---- states

-- a state by its parts
abbrev pub mk : ℕ → Settings → Last → Bool → List ℕ → State
mk end u l br text = record { tokens = record { left = text; end = end; last = l; line_break = br }; settings = u }

module _ (end : ℕ) (modules : Bool) where
  -- no slash is to be read again, and the text is of this goal
  record Fit (u : Settings) : Type 0 where
    unasked : u.next_regexp ≡ None
    told : u.ctx.module_ ≡ modules

  goal_is : (u : Settings) → Fit u → goal_of u.ctx ≡ whole modules
  goal_is u f = ap (λ (z : Bool). whole z) f.told

  step_of_last : (s new : State) (out : Option Spot) (l : Last) → IsNoFault l → IsStepBy (again s) s out new → IsStepOf l s out new
  step_of_last s new out Start n h = h
  step_of_last s new out (Slash from) n h = h
  step_of_last s new out Characters n h = h
  step_of_last s new out Fault n h = absurd n
  step_of_last s new out Other n h = h

  module _ (u : Settings) (l : Last) (br : Bool) (text : List ℕ) where
    abbrev here : State
    here = mk end u l br text

    going : (out : Option Spot) (new : State) → Fit u → IsNoFault l → (goal : Option LexicalGoal) → template_goal u.contexts l ≡ goal → IsGoing goal here out new → IsStep here out new
    going out new f n goal e h = record {
      is = step_of_last here new out l n
          (subst (λ (z : Option (List ℕ)). IsStepBy z here out new) (sym (ap (λ (z : Option ℕ). again_by l z end) f.unasked ∙ no_again end l))
          (subst (λ (z : Option LexicalGoal). IsGoing z here out new) (sym e) h));
    }

    outside_of : (out : Option Spot) (new : State) (last : Last) → (is_start last ≡ true → NoHashbang text) → IsPlain here out new → IsOutside last here out new
    outside_of out new Start n h = inr (n refl, h)
    outside_of out new (Slash from) n h = h
    outside_of out new Characters n h = h
    outside_of out new Fault n h = h
    outside_of out new Other n h = h

    -- outside of the characters of templates
    outside : (s : List Bool) (out : Option Spot) (new : State) → Fit u → At (Outside s) u.contexts l → (is_start l ≡ true → NoHashbang text) → (first : Bool) → is_start l ≡ first
        → (lb : Bool) (from : List ℕ) → IsSkipped (whole modules) first text lb from → IsRead Div lb from here out new → IsStep here out new
    outside s out new f at n first i lb from k r = going out new f at.1 None (ap (λ (z : List TokenContext). template_goal z l) at.0 ∙ no_goal s l)
        (outside_of out new l n (inl (lb, from, subst (λ (z : Goal). IsSkipped z (is_start l) text lb from) (sym (goal_is u f)) (subst (λ (z : Bool). IsSkipped (whole modules) z text lb from) (sym i) k), r)))

  -- ---- one token

  -- From such a state on these tokens are handed out, where they tile the text and match.
  abbrev Goes : List PlacedToken → Type 0
  Goes ps = (g : Region) (u : Settings) (l : Last) (br : Bool) (text : List ℕ) (first : Bool) → Fit u → At g u.contexts l → is_start l ≡ first → (is_start l ≡ true → NoHashbang text)
      → AreTiles end (whole modules) first text ps → over g ps ≡ Outside [] → Hands (handed ps) (mk end u l br text)

  module _ (p : PlacedToken) (ps : List PlacedToken) (k : Goes ps) (u : Settings) (l : Last) (br : Bool) (text : List ℕ) (first : Bool) (f : Fit u) (i : is_start l ≡ first) (n : is_start l ≡ true → NoHashbang text)
      (rest : List ℕ) (t : IsTile end (whole modules) first text p rest) (more : AreTiles end (whole modules) false rest ps) where
    abbrev from : State
    from = mk end u l br text

    abbrev token : Spot
    token = spot_at end t.0 t.2.token t.1 rest

    abbrev past : State
    past = behind from t.0 t.1 t.2 rest

    as_place : Hands (place_of token ∷ handed ps) from → Hands (handed (p ∷ ps)) from
    as_place h = subst (λ (z : Spot). Hands (place_of z ∷ handed ps) from) (sym t.5) h

    matches : (g : Region) → over (after g p.spot.token.kind) ps ≡ Outside [] → over (after g t.2.token.kind) ps ≡ Outside []
    matches g o = subst (λ (z : Spot). over (after g z.token.kind) ps ≡ Outside []) t.5 o

    going_on : (g : Region) → At g u.contexts l → over (after g p.spot.token.kind) ps ≡ Outside [] → Hands (handed ps) past
    going_on g at o = k (after g t.2.token.kind) past.settings (last_after t.2.token.kind t.1) t.0 rest false (record { unasked = f.unasked; told = f.told }) (next t.1 g u.contexts l t.2.token.kind at)
        (past_start t.2.token.kind t.1) (no_start t.2.token.kind t.1 rest) more (matches g o)

    -- ---- outside of the characters of templates

    module _ (s : List Bool) (at : At (Outside s) u.contexts l) (o : over (after (Outside s) p.spot.token.kind) ps ≡ Outside []) (skipped : IsSkipped (whole modules) first text t.0 t.1) where
      -- a token that stands there where a slash is an operator
      comes : IsLexeme Div t.1 t.2 rest → Hands (handed (p ∷ ps)) from
      comes x = as_place (take from past token (handed ps) (outside u l br text s (Some token) past f at n first i t.0 t.1 skipped (inl (t.2, rest, x, refl, refl))) (going_on (Outside s) at o))

      -- a regular expression, which a slash there is read again as
      module _ (x : IsLexeme RegExp t.1 t.2 rest) (regex : t.2.token.kind ≡ regex_kind) (kind : TokenKind) (slash : is_slash (token_kind_number kind) ≡ true)
          (known : last_after (token_kind_number kind) t.1 ≡ Slash t.1) (kept : contexts_after (token_kind_number kind) u.contexts ≡ u.contexts) (r : List ℕ) (mark : IsPunctuator t.1 kind r) where
        abbrev operator : SpecLexeme
        operator = plain (bare (token_kind_number kind))

        abbrev first_token : Spot
        first_token = spot_at end t.0 operator.token t.1 r

        abbrev mid : State
        mid = behind from t.0 t.1 operator r

        abbrev asked_mid : State
        asked_mid = asked (Some first_token.lo) mid

        abbrev new : State
        new = behind asked_mid t.0 t.1 t.2 rest

        first_step : IsStep from (Some first_token) mid
        first_step = outside u l br text s (Some first_token) mid f at n first i t.0 t.1 skipped (inl (operator, r, inr (inr (refl, (kind, mark, refl))), refl, refl))

        again_here : again asked_mid ≡ Some t.1
        again_here = ap (λ (z : Last). again_by z (Some (place end t.1)) end) known ∙ ap (λ (y : Bool). cond y (Some t.1) None) (eqb_same (place end t.1))

        again_step : IsStep asked_mid (Some token) new
        again_step = record { is = subst (λ (z : Last). IsStepOf z asked_mid (Some token) new) (sym known) (subst (λ (z : Option (List ℕ)). IsStepBy z asked_mid (Some token) new) (sym again_here) (inl (t.2, rest, x, refl, refl))) }

        comes_again : Hands (handed (p ∷ ps)) from
        comes_again = as_place (take_again from mid new first_token token (handed ps) first_step slash again_step (slash, regex, refl, refl)
            (k (after (Outside s) t.2.token.kind) (asked None new).settings (last_after t.2.token.kind t.1) t.0 rest false (record { unasked = refl; told = f.told })
            (next t.1 (Outside s) (contexts_after (token_kind_number kind) u.contexts) l t.2.token.kind (kept ∙ at.0, at.1)) (past_start t.2.token.kind t.1) (no_start t.2.token.kind t.1 rest) more (matches (Outside s) o)))

      by_slash : (x : IsLexeme RegExp t.1 t.2 rest) → t.2.token.kind ≡ regex_kind → IsSlash t.1 → Hands (handed (p ∷ ps)) from
      by_slash x e (inl h) = comes_again x e (BinOp b.Div) refl refl refl h.0 h.1
      by_slash x e (inr h) = comes_again x e (AssignOp a.DivAssign) refl refl refl h.0 h.1

      by_pattern : (x : IsLexeme RegExp t.1 t.2 rest) → IsPattern t.1 t.2 rest → Hands (handed (p ∷ ps)) from
      by_pattern x h = by_slash x (ap (λ (z : SpecLexeme). z.token.kind) h.3) (subst (λ (z : List ℕ). IsSlash z) (sym h.2.1.1) (slash_at (h.0 ++ 47 ∷ h.2.1.0)))

      by_operand : IsLexeme RegExp t.1 t.2 rest → Hands (handed (p ∷ ps)) from
      by_operand (inl h) = comes (inl h)
      by_operand (inr (inl h)) = by_pattern (inr (inl h)) h.1
      by_operand (inr (inr h)) = comes (inr (inr (refl, h.1)))

    by_goal : (s : List Bool) → At (Outside s) u.contexts l → over (after (Outside s) p.spot.token.kind) ps ≡ Outside [] → (goal : ℕ) → p.goal ≡ goal → nat_le goal 1 ≡ true → Hands (handed (p ∷ ps)) from
    by_goal s at o zero e h = comes s at o (subst (λ (z : ℕ). IsBefore z (whole modules) first text t.0 t.1) e t.3) (subst (λ (z : ℕ). IsLexeme (goal_at z) t.1 t.2 rest) e t.4)
    by_goal s at o (suc zero) e h = by_operand s at o (subst (λ (z : ℕ). IsBefore z (whole modules) first text t.0 t.1) e t.3) (subst (λ (z : ℕ). IsLexeme (goal_at z) t.1 t.2 rest) e t.4)
    by_goal s at o (suc (suc m)) e h = absurd (omega (arith, leb-true (suc (suc m)) 1 h))

    -- ---- in a template

    in_template : (g : Region) → At g u.contexts l → over (after g p.spot.token.kind) ps ≡ Outside [] → IsNoFault l → (goal : LexicalGoal) → template_goal u.contexts l ≡ Some goal → text ≡ t.1 → t.0 ≡ false
        → IsLexeme goal t.1 t.2 rest → Hands (handed (p ∷ ps)) from
    in_template g at o nf goal e d c x = as_place (take from past token (handed ps) (going u l br text (Some token) past f nf (Some goal) e
        (subst (λ (z : List ℕ). IsRead goal false z from (Some token) past) (sym d) (subst (λ (z : Bool). IsRead goal z t.1 from (Some token) past) c (inl (t.2, rest, x, refl, refl))))) (going_on g at o))

  step : (p : PlacedToken) (ps : List PlacedToken) → Goes ps → Goes (p ∷ ps)
  step p ps k (Outside s) u l br text first f at i n t o = let m = fits_on (Outside s) p ps o in
      by_goal p ps k u l br text first f i n t.0 t.1 t.2 s at m.1 p.goal refl (low_there s p.spot.token.kind p.goal m.0)
  step p ps k (Inside s) u l br text first f at i n t o = let m = fits_on (Inside s) p ps o in let e = eqb-true p.goal 2 m.0 in
      let before = subst (λ (z : ℕ). IsBefore z (whole modules) first text t.1.0 t.1.1) e t.1.3 in
      in_template p ps k u l br text first f i n t.0 t.1 t.2 (Inside s) at m.1 (subst (λ (z : Last). IsNoFault z) (sym at.1) tt) TemplateTail
      (ap (λ (z : List TokenContext). template_goal z l) at.0 ∙ ap (λ (z : Last). template_goal (Tpl ∷ held s) z) at.1) before.0 before.1 (subst (λ (z : ℕ). IsLexeme (goal_at z) t.1.1 t.1.2 t.0) e t.1.4)
  step p ps k (Behind s) u l br text first f at i n t o = let m = fits_on (Behind s) p ps o in let e = eqb-true p.goal 3 m.0 in
      let before = subst (λ (z : ℕ). IsBefore z (whole modules) first text t.1.0 t.1.1) e t.1.3 in
      in_template p ps k u l br text first f i n t.0 t.1 t.2 (Behind s) at m.1 (subst (λ (z : Last). IsNoFault z) (sym at.1) tt) TemplateEnd
      (ap (λ (z : List TokenContext). template_goal z l) at.0 ∙ ap (λ (z : Last). template_goal (Tpl ∷ held s) z) at.1) before.0 before.1 (subst (λ (z : ℕ). IsLexeme (goal_at z) t.1.1 t.1.2 t.0) e t.1.4)
  step p ps k Nowhere u l br text first f at i n t o = absurd (not_lost (p ∷ ps) o)

  no_tail : Div ≡ TemplateTail → ⊥
  no_tail e = cc

  done : Goes []
  done (Outside s) u l br text first f at i n t o = take_none (mk end u l br text) (ended (mk end u l br text)) (outside u l br text s None (ended (mk end u l br text)) f at n first i t.0 [] t.1 (inr (inr ((no_tail, refl), refl, refl))))
  done (Inside s) u l br text first f at i n t o = absurd (absurd_region o)
    where
      absurd_region : Inside s ≡ Outside [] → ⊥
      absurd_region e = cc
  done (Behind s) u l br text first f at i n t o = absurd (absurd_region o)
    where
      absurd_region : Behind s ≡ Outside [] → ⊥
      absurd_region e = cc
  done Nowhere u l br text first f at i n t o = absurd (not_lost [] o)

  hands : (ps : List PlacedToken) → Goes ps
  hands [] = done
  hands (p ∷ ps) = step p ps (hands ps)

  -- ---- a whole text

  module _ (u : Settings) (br : Bool) (text : List ℕ) (f : Fit u) (at : u.contexts ≡ []) where
    hashbang : (ps : List PlacedToken) → AfterHashbang end (whole modules) text ps → over (Outside []) ps ≡ Outside [] → Hands (handed ps) (mk end u Start br text)
    hashbang [] t o = absurd t
    hashbang (p ∷ ps) t o = let h = t.1 in let new : State = behind (mk end u Start br text) false text (shebang h.0) t.0 in
        let spot : Spot = spot_at end false (shebang h.0).token text t.0 in
        subst (λ (z : Spot). Hands (place_of z ∷ handed ps) (mk end u Start br text)) (sym h.2)
        (take (mk end u Start br text) new spot (handed ps) (going u Start br text (Some spot) new f tt None (ap (λ (z : List TokenContext). template_goal z Start) at) (inl (h.0, t.0, h.1, refl, refl)))
        (hands ps (after (Outside []) (shebang h.0).token.kind) new.settings (last_after (shebang h.0).token.kind text) false t.0 false (record { unasked = f.unasked; told = f.told })
        (next text (Outside []) u.contexts Start (shebang h.0).token.kind (at, tt)) (past_start (shebang h.0).token.kind text) (no_start (shebang h.0).token.kind text t.0) t.2
        (subst (λ (z : Spot). over (after (Outside []) z.token.kind) ps ≡ Outside []) h.2 (fits_on (Outside []) p ps o).1)))

    whole_text : (ps : List PlacedToken) → (NoHashbang text × AreTiles end (whole modules) true text ps) ⊎ AfterHashbang end (whole modules) text ps → over (Outside []) ps ≡ Outside [] → Hands (handed ps) (mk end u Start br text)
    whole_text ps (inl t) o = hands ps (Outside []) u Start br text true f (at, tt) refl (λ e. t.0) t.1 o
    whole_text ps (inr t) o = hashbang ps t o

-- ---- the laws

pub start_as : (P : State → Type 0) (start : ℕ) (modules : Bool) (text : List ℕ) (s : State) → AtStart start modules text s → P (mk (start + bytes text) s.settings Start s.tokens.line_break text) → P s
start_as P start modules text s h k = subst (λ (z : Last). P (mk s.tokens.end s.settings z s.tokens.line_break s.tokens.left)) (sym h.last)
    (subst (λ (z : ℕ). P (mk z s.settings Start s.tokens.line_break s.tokens.left)) (sym h.end) (subst (λ (z : List ℕ). P (mk (start + bytes text) s.settings Start s.tokens.line_break z)) (sym h.left) k))

pub new_at_start : NewAtStart
new_at_start syntax target start modules text x e = record { left = refl; end = refl; last = refl; contexts = refl; next_regexp = refl; goal = e }

pub tiles_handed : TilesHanded
tiles_handed start modules text ps s last h t o = start_as (λ z. Hands (handed ps) z) start modules text s h
    (whole_text (start + bytes text) modules s.settings s.tokens.line_break text (record { unasked = h.next_regexp; told = h.goal }) h.contexts ps t o) last

pub matched : (modules : Bool) (syntax : EsSyntax) (t : Tree) (ps : List PlacedToken) (r : Input) → is_of_goal modules t ≡ true → Derives t (code_of modules syntax) (record { last = text_start; places = ps }) r → over (Outside []) ps ≡ Outside []
matched false syntax (script s ss l) ps r e d = programs_match (script s ss l) (code_of false syntax) (record { last = text_start; places = ps }) r refl d.0
matched true syntax (es_module s ss l) ps r e d = programs_match (es_module s ss l) (code_of true syntax) (record { last = text_start; places = ps }) r refl d.0
matched false syntax t ps r e d = absurd (true≢false (sym e))
matched true syntax t ps r e d = absurd (true≢false (sym e))

pub read_handed : ReadHanded
read_handed modules syntax t text h s last st = tiles_handed text_start modules text h.0 s last st h.3 (matched modules syntax t h.0 h.1 h.2 h.4)
