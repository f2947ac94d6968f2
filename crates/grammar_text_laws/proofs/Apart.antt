-- Tokens that tile one text and match are the same, up to a place where one list has a regular expression and the other a slash.
use Rattle.std.proofs.Common.{◌≡◌, ◌⊎◌, inl, inr, ℕ, zero, suc, ◌+◌, Bool, true, false, not, ◌&&◌, ◌||◌, eqb, nat_le, List, [], ◌∷◌, ◌++◌, refl, sym, ap, ◌∙◌, subst, true≢false, arith}
use Rattle.std.specs.Prelude.{encode_utf8_all}
use Rattle.std.proofs.lemmas.Bool.{eqb-true, leb-true, or_cases, and_parts}
use Rattle.base_token.specs.declared.token.TokenKind.{TokenKind}
use Rattle.base_token.specs.Kinds.{div_kind, div_assign_kind}
use Rattle.base_token.specs.TokenViews.{token_kind_number}
use Rattle.base_token.specs.Tokens.{SpecToken, Spot}
use Rattle.lex_pieces.specs.Places.{bytes}
use Rattle.lex_pieces.specs.Punctuators.{Spelling, IsAmong, IsPunctuator, punctuators}
use Rattle.lex_pieces.specs.declared.trivia.Goal.{Goal}
use Rattle.lex_token.specs.declared.goal.LexicalGoal.TheVariants.{Div, RegExp}
use Rattle.lex_token.specs.Lexemes.{SpecLexeme, IsLexeme, IsMark, IsPattern as SpellsPattern}
use Rattle.lex_token.proofs.LexemeLemmas.{none_at_end, one_lexeme}
use Rattle.lex_source.specs.Machine.{without_fault}
use Rattle.lex_step_laws.specs.States.{shebang, spot_at, place}
use Rattle.lex_step_laws.proofs.TriviaLemmas.{one_hashbang, one_skipped}
use Rattle.grammar_spec.specs.Tokens.Input.{PlacedToken, template_goal, template_end_goal}
use Rattle.grammar_text_laws.proofs.Passed.{SameToken, SameTokens}
use Rattle.grammar_laws.specs.Slash.SlashLaws.{IsPattern, IsSlash}
use Rattle.grammar_laws.specs.Slash.TemplateLaws.{Region, Outside, Inside, Behind, Nowhere, after, fits, over}
use Rattle.grammar_laws.proofs.slash.Fits.{fits_on, low_there}
use Rattle.grammar_text_spec.specs.Tiled.{goal_at, whole, IsBeforeBy, IsBefore, IsTile, AreTiles, IsHashbangTile, AfterHashbang, Tile}

-- ---- punctuators that a slash begins

abbrev starts_otherwise : List ℕ → Bool
starts_otherwise [] = false
starts_otherwise (c ∷ cs) = not (eqb c 47)

abbrev is_slashed : TokenKind → Bool
is_slashed k = eqb (token_kind_number k) div_kind || eqb (token_kind_number k) div_assign_kind

abbrev told : List Spelling → Bool
told [] = true
told (x ∷ xs) = (starts_otherwise x.0 || is_slashed x.1) && told xs

abbrev first_of : List ℕ → ℕ
first_of [] = 0
first_of (c ∷ cs) = c

otherwise : (s rest inner : List ℕ) → starts_otherwise s ≡ true → ◌≡◌ {A = List ℕ} (47 ∷ inner) (s ++ rest) → ⊥
otherwise [] rest inner h e = true≢false (sym h)
otherwise (c ∷ cs) rest inner h e = true≢false (sym (subst (λ (x : ℕ). not (eqb x 47) ≡ true) (sym (ap first_of e)) h))

among : (xs : List Spelling) → told xs ≡ true → (s rest inner : List ℕ) (k : TokenKind) → IsAmong xs s k → ◌≡◌ {A = List ℕ} (47 ∷ inner) (s ++ rest) → is_slashed k ≡ true
among [] t s rest inner k h e = absurd h
among (x ∷ xs) t s rest inner k (inl h) e = by_case (or_cases (starts_otherwise x.0) (is_slashed x.1) (and_parts (starts_otherwise x.0 || is_slashed x.1) (told xs) t).0)
  where
    by_case : (starts_otherwise x.0 ≡ true) ⊎ (is_slashed x.1 ≡ true) → is_slashed k ≡ true
    by_case (inl o) = absurd (otherwise s rest inner (subst (λ (z : List ℕ). starts_otherwise z ≡ true) h.0 o) e)
    by_case (inr o) = subst (λ (z : TokenKind). is_slashed z ≡ true) h.1 o
among (x ∷ xs) t s rest inner k (inr h) e = among xs (and_parts (starts_otherwise x.0 || is_slashed x.1) (told xs) t).1 s rest inner k h e

slashed : (text rest inner : List ℕ) (k : TokenKind) → text ≡ 47 ∷ inner → IsPunctuator text k rest → (token_kind_number k ≡ div_kind) ⊎ (token_kind_number k ≡ div_assign_kind)
slashed text rest inner k e h = by_case (or_cases (eqb (token_kind_number k) div_kind) (eqb (token_kind_number k) div_assign_kind) (among punctuators refl h.1.0 rest inner k h.1.1 (sym e ∙ h.1.2)))
  where
    by_case : (eqb (token_kind_number k) div_kind ≡ true) ⊎ (eqb (token_kind_number k) div_assign_kind ≡ true) → (token_kind_number k ≡ div_kind) ⊎ (token_kind_number k ≡ div_assign_kind)
    by_case (inl o) = inl (eqb-true (token_kind_number k) div_kind o)
    by_case (inr o) = inr (eqb-true (token_kind_number k) div_assign_kind o)

-- ---- one token

-- a regular expression and a slash at one place of a text
abbrev pub Apart : PlacedToken → PlacedToken → Type 0
Apart p q = IsPattern p × IsSlash q × (p.spot.lo ≡ q.spot.lo) × (p.spot.line_break ≡ q.spot.line_break)

pub spots_same : (end : ℕ) (a b : Bool) (x y : SpecToken) (f e r s : List ℕ) → a ≡ b → f ≡ e → x ≡ y → r ≡ s → spot_at end a x f r ≡ spot_at end b y e s
spots_same end a b x y f e r s p q u v = ap (λ (z : Bool). spot_at end z x f r) p ∙ (ap (λ (z : List ℕ). spot_at end b x z r) q ∙ (ap (λ (z : SpecToken). spot_at end b z e r) u ∙ ap (λ (z : List ℕ). spot_at end b y e z) v))

pub one_before : (k : Bool) (goal : Goal) (first : Bool) (text : List ℕ) (a b : Bool) (f e : List ℕ) → IsBeforeBy k goal first text a f → IsBeforeBy k goal first text b e → (a ≡ b) × (f ≡ e)
one_before true goal first text a b f e h g = (h.1 ∙ sym g.1, sym h.0 ∙ g.0)
one_before false goal first text a b f e h g = one_skipped goal first text a b f e h g

module _ (end : ℕ) (goal : Goal) (first : Bool) (text : List ℕ) (p q : PlacedToken) (r s : List ℕ) (h : IsTile end goal first text p r) (g : IsTile end goal first text q s) where
  abbrev Same : Type 0
  Same = SameToken p q × (r ≡ s)

  joined : h.0 ≡ g.0 → h.1 ≡ g.1 → h.2 ≡ g.2 → r ≡ s → Same
  joined a b d e = let o = spots_same end h.0 g.0 h.2.token g.2.token h.1 g.1 r s a b (ap (λ (z : SpecLexeme). z.token) d) e in
      ((h.5 ∙ o ∙ sym g.5, h.6 ∙ ap (λ (z : SpecLexeme). z.escaped) d ∙ sym g.6), e)

  same_goal : p.goal ≡ q.goal → Same
  same_goal e = let k = one_before (nat_le template_goal q.goal) goal first text h.0 g.0 h.1 g.1 (subst (λ (n : ℕ). IsBefore n goal first text h.0 h.1) e h.3) g.3 in
      let z = one_lexeme (goal_at q.goal) g.1 h.2 g.2 r s (subst (λ (t : List ℕ). IsLexeme (goal_at q.goal) t h.2 r) k.1 (subst (λ (n : ℕ). IsLexeme (goal_at n) h.1 h.2 r) e h.4)) g.4 in
      joined k.0 k.1 z.0 z.1

  -- one stands where a slash opens a regular expression, the other where it is an operator
  module _ (a : h.0 ≡ g.0) (b : h.1 ≡ g.1) where
    parts_at : SpellsPattern g.1 h.2 r → IsMark g.1 g.2 s → Apart p q
    parts_at x y = (
      (ap (λ (z : Spot). z.token.kind) h.5 ∙ ap (λ (z : SpecLexeme). z.token.kind) x.3, encode_utf8_all x.0, encode_utf8_all x.1, ap (λ (z : Spot). z.token.content) h.5 ∙ ap (λ (z : SpecLexeme). without_fault z.token.content) x.3),
      (kinds (slashed g.1 s _ y.0 x.2.1.1 y.1), ap (λ (z : Spot). z.token.content) g.5 ∙ ap (λ (z : SpecLexeme). without_fault z.token.content) y.2),
      ap (λ (z : Spot). z.lo) h.5 ∙ (ap (λ (z : List ℕ). place end z) b ∙ sym (ap (λ (z : Spot). z.lo) g.5)),
      ap (λ (z : Spot). z.line_break) h.5 ∙ (a ∙ sym (ap (λ (z : Spot). z.line_break) g.5)),
    )
      where
        kind_is : q.spot.token.kind ≡ token_kind_number y.0
        kind_is = ap (λ (z : Spot). z.token.kind) g.5 ∙ ap (λ (z : SpecLexeme). z.token.kind) y.2

        kinds : (token_kind_number y.0 ≡ div_kind) ⊎ (token_kind_number y.0 ≡ div_assign_kind) → (q.spot.token.kind ≡ div_kind) ⊎ (q.spot.token.kind ≡ div_assign_kind)
        kinds (inl o) = inl (kind_is ∙ o)
        kinds (inr o) = inr (kind_is ∙ o)

    across_pattern : SpellsPattern g.1 h.2 r → IsLexeme RegExp g.1 h.2 r → IsLexeme Div g.1 g.2 s → Same ⊎ Apart p q
    across_pattern x i (inl o) = let z = one_lexeme RegExp g.1 h.2 g.2 r s i (inl o) in inl (joined a b z.0 z.1)
    across_pattern x i (inr (inl o)) = absurd (true≢false (sym o.0))
    across_pattern x i (inr (inr o)) = inr (parts_at x o.1)

    across_by : IsLexeme RegExp g.1 h.2 r → IsLexeme Div g.1 g.2 s → Same ⊎ Apart p q
    across_by (inl o) j = let z = one_lexeme Div g.1 h.2 g.2 r s (inl o) j in inl (joined a b z.0 z.1)
    across_by (inr (inl o)) j = across_pattern o.1 (inr (inl o)) j
    across_by (inr (inr o)) j = let z = one_lexeme Div g.1 h.2 g.2 r s (inr (inr (refl, o.1))) j in inl (joined a b z.0 z.1)

  across : p.goal ≡ 1 → q.goal ≡ 0 → Same ⊎ Apart p q
  across d e = let k = one_skipped goal first text h.0 g.0 h.1 g.1 (subst (λ (n : ℕ). IsBefore n goal first text h.0 h.1) d h.3) (subst (λ (n : ℕ). IsBefore n goal first text g.0 g.1) e g.3) in
      across_by k.0 k.1 (subst (λ (t : List ℕ). IsLexeme RegExp t h.2 r) k.1 (subst (λ (n : ℕ). IsLexeme (goal_at n) h.1 h.2 r) d h.4)) (subst (λ (n : ℕ). IsLexeme (goal_at n) g.1 g.2 s) e g.4)

-- ---- regions

abbrev Goals : ℕ → ℕ → Type 0
Goals a b = (a ≡ b) ⊎ (((a ≡ 1) × (b ≡ 0)) ⊎ ((a ≡ 0) × (b ≡ 1)))

of_two : (a b : ℕ) → nat_le a 1 ≡ true → nat_le b 1 ≡ true → Goals a b
of_two zero zero h i = inl refl
of_two (suc zero) (suc zero) h i = inl refl
of_two (suc zero) zero h i = inr (inl (refl, refl))
of_two zero (suc zero) h i = inr (inr (refl, refl))
of_two (suc (suc n)) b h i = absurd (omega (arith, leb-true (suc (suc n)) 1 h))
of_two zero (suc (suc n)) h i = absurd (omega (arith, leb-true (suc (suc n)) 1 i))
of_two (suc zero) (suc (suc n)) h i = absurd (omega (arith, leb-true (suc (suc n)) 1 i))

goals : (g : Region) (j k a b : ℕ) → fits g j a ≡ true → fits g k b ≡ true → Goals a b
goals (Outside s) j k a b h i = of_two a b (low_there s j a h) (low_there s k b i)
goals (Inside s) j k a b h i = inl (eqb-true a template_goal h ∙ sym (eqb-true b template_goal i))
goals (Behind s) j k a b h i = inl (eqb-true a template_end_goal h ∙ sym (eqb-true b template_end_goal i))
goals Nowhere j k a b h i = absurd (true≢false (sym h))

-- ---- all tokens

abbrev pub Slashed : List PlacedToken → List PlacedToken → Type 0
Slashed (x ∷ xs) (y ∷ ys) = (Apart x y ⊎ Apart y x) ⊎ (SameToken x y × Slashed xs ys)
Slashed _ _ = ⊥

-- nothing more stands where only trivia is left
nothing : (n : ℕ) (goal : Goal) (first : Bool) (text : List ℕ) (a b : Bool) (f : List ℕ) (x : SpecLexeme) (r : List ℕ) → nat_le n 1 ≡ true → IsBeforeBy false goal first text a []
    → IsBefore n goal first text b f → IsLexeme (goal_at n) f x r → ⊥
nothing zero goal first text a b f x r e h i l = none_at_end Div f (sym (one_skipped goal first text a b [] f h i).1) x r l
nothing (suc zero) goal first text a b f x r e h i l = none_at_end RegExp f (sym (one_skipped goal first text a b [] f h i).1) x r l
nothing (suc (suc n)) goal first text a b f x r e h i l = omega (arith, leb-true (suc (suc n)) 1 e)

module _ (end : ℕ) (goal : Goal) where
  more : (x y : PlacedToken) (xs ys : List PlacedToken) → SameToken x y → SameTokens xs ys ⊎ Slashed xs ys → SameTokens (x ∷ xs) (y ∷ ys) ⊎ Slashed (x ∷ xs) (y ∷ ys)
  more x y xs ys e (inl h) = inl (e, h)
  more x y xs ys e (inr h) = inr (inr (e, h))

  one_of : (first : Bool) (text : List ℕ) (x y : PlacedToken) (r s : List ℕ) → IsTile end goal first text x r → IsTile end goal first text y s → Goals x.goal y.goal → (SameToken x y × (r ≡ s)) ⊎ (Apart x y ⊎ Apart y x)
  one_of first text x y r s h g (inl e) = inl (same_goal end goal first text x y r s h g e)
  one_of first text x y r s h g (inr (inl e)) = left (across end goal first text x y r s h g e.0 e.1)
    where
      left : (SameToken x y × (r ≡ s)) ⊎ Apart x y → (SameToken x y × (r ≡ s)) ⊎ (Apart x y ⊎ Apart y x)
      left (inl z) = inl z
      left (inr z) = inr (inl z)
  one_of first text x y r s h g (inr (inr e)) = right (across end goal first text y x s r g h e.1 e.0)
    where
      right : (SameToken y x × (s ≡ r)) ⊎ Apart y x → (SameToken x y × (r ≡ s)) ⊎ (Apart x y ⊎ Apart y x)
      right (inl z) = inl ((sym z.0.0, sym z.0.1), sym z.1)
      right (inr z) = inr (inr z)

  pub tiles : (ps qs : List PlacedToken) (g : Region) (first : Bool) (text : List ℕ) → AreTiles end goal first text ps → AreTiles end goal first text qs → over g ps ≡ Outside [] → over g qs ≡ Outside [] → SameTokens ps qs ⊎ Slashed ps qs
  tiles [] [] g first text h k a b = inl tt
  tiles [] (y ∷ ys) g first text h k a b = let t = k.1 in absurd (nothing y.goal goal first text h.0 t.0 t.1 t.2 _ (low_there [] y.spot.token.kind y.goal (subst (λ (z : Region). fits z y.spot.token.kind y.goal ≡ true) a (fits_on g y ys b).0)) h.1 t.3 t.4)
  tiles (x ∷ xs) [] g first text h k a b = let t = h.1 in absurd (nothing x.goal goal first text k.0 t.0 t.1 t.2 _ (low_there [] x.spot.token.kind x.goal (subst (λ (z : Region). fits z x.spot.token.kind x.goal ≡ true) b (fits_on g x xs a).0)) k.1 t.3 t.4)
  tiles (x ∷ xs) (y ∷ ys) g first text h k a b = let f = fits_on g x xs a in let d = fits_on g y ys b in
      told_by (one_of first text x y h.0 k.0 h.1 k.1 (goals g x.spot.token.kind y.spot.token.kind x.goal y.goal f.0 d.0))
      (λ e i. tiles xs ys (after g x.spot.token.kind) false k.0 (subst (λ (t : List ℕ). AreTiles end goal false t xs) e h.2) k.2 f.1 (subst (λ (z : Spot). over (after g z.token.kind) ys ≡ Outside []) (sym i) d.1))
    where
      told_by : (SameToken x y × (h.0 ≡ k.0)) ⊎ (Apart x y ⊎ Apart y x) → (h.0 ≡ k.0 → x.spot ≡ y.spot → SameTokens xs ys ⊎ Slashed xs ys) → SameTokens (x ∷ xs) (y ∷ ys) ⊎ Slashed (x ∷ xs) (y ∷ ys)
      told_by (inl z) f = more x y xs ys z.0 (f z.1 z.0.0)
      told_by (inr z) f = inr (inl z)

  one_hashbang_tile : (text : List ℕ) (p q : PlacedToken) (r s : List ℕ) → IsHashbangTile end text p r → IsHashbangTile end text q s → SameToken p q × (r ≡ s)
  one_hashbang_tile text p q r s h g = let k = one_hashbang text h.0 g.0 r s h.1 g.1 in
      let o = spots_same end false false (shebang h.0).token (shebang g.0).token text text r s refl refl (ap (λ (z : List ℕ). (shebang z).token) k.0) k.1 in
      ((h.2 ∙ o ∙ sym g.2, h.3 ∙ sym g.3), k.1)

  pub after_hashbangs : (ps qs : List PlacedToken) (text : List ℕ) → AfterHashbang end goal text ps → AfterHashbang end goal text qs → over (Outside []) ps ≡ Outside [] → over (Outside []) qs ≡ Outside [] → SameTokens ps qs ⊎ Slashed ps qs
  after_hashbangs [] qs text h k a b = absurd h
  after_hashbangs (x ∷ xs) [] text h k a b = absurd k
  after_hashbangs (x ∷ xs) (y ∷ ys) text h k a b = let z = one_hashbang_tile text x y h.0 k.0 h.1 k.1 in let f = fits_on (Outside []) x xs a in let d = fits_on (Outside []) y ys b in
      more x y xs ys z.0 (tiles xs ys (after (Outside []) x.spot.token.kind) false k.0 (subst (λ (t : List ℕ). AreTiles end goal false t xs) z.1 h.2) k.2 f.1 (subst (λ (u : Spot). over (after (Outside []) u.token.kind) ys ≡ Outside []) (sym z.0.0) d.1))

has_hashbang : (ps : List PlacedToken) (end : ℕ) (goal : Goal) (text : List ℕ) → AfterHashbang end goal text ps → (inner : List ℕ) × (text ≡ 35 ∷ 33 ∷ inner)
has_hashbang [] end goal text h = absurd h
has_hashbang (x ∷ xs) end goal text h = (h.1.1.0, h.1.1.1)

-- Two lists of tokens that tile one text and match are the same, or they part at a regular expression and a slash.
pub told_tiles : (start : ℕ) (modules : Bool) (text : List ℕ) (ps qs : List PlacedToken) → Tile start modules text ps → Tile start modules text qs → over (Outside []) ps ≡ Outside [] → over (Outside []) qs ≡ Outside [] → SameTokens ps qs ⊎ Slashed ps qs
told_tiles start modules text ps qs (inl h) (inl g) a b = tiles (start + bytes text) (whole modules) ps qs (Outside []) true text h.1 g.1 a b
told_tiles start modules text ps qs (inl h) (inr g) a b = let z = has_hashbang qs (start + bytes text) (whole modules) text g in absurd (h.0 z.0 z.1)
told_tiles start modules text ps qs (inr h) (inl g) a b = let z = has_hashbang ps (start + bytes text) (whole modules) text h in absurd (g.0 z.0 z.1)
told_tiles start modules text ps qs (inr h) (inr g) a b = after_hashbangs (start + bytes text) (whole modules) ps qs text h g a b
