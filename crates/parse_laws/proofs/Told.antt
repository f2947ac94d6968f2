-- Tokens that tile a text, and those that are handed out, tell of each word whether it is spelled with an escape by its span.
use Rattle.std.proofs.Common.{◌≡◌, ◌≤◌, ℕ, zero, suc, ◌+◌, Bool, true, false, nat_le, List, [], ◌∷◌, Option, Some, None, inl, inr, refl, sym, ap, ◌∙◌, arith}
use Rattle.base_proofs.proofs.Lists.{nil_not_cons}
use Rattle.base_token.specs.declared.context.Context.{Context}
use Rattle.base_token.specs.Tokens.{Spot}
use Rattle.lex_source.specs.Machine as tokens
use Rattle.lex_source.specs.Machine.{Source}
use Rattle.lex_pieces.specs.Places.{bytes}
use Rattle.lex_pieces.specs.declared.trivia.Goal.{Goal}
use Rattle.grammar_spec.specs.Tokens.Input.{PlacedToken, template_goal, others}
use Rattle.parse_state.specs.Cursors.{Cursor, is_escaped, place_of, places, stream_of}
use Rattle.parse_source_laws.specs.Sources.{HandsOut}
use Rattle.lex_run_laws.proofs.Behind.{hashbang_behind, lexeme_behind}
use Rattle.grammar_laws.specs.Context.Laws.{SameTokens}
use Rattle.grammar_laws.proofs.context.PlacedLemmas.{bared}
use Rattle.grammar_text_spec.specs.Tiled.{goal_at, whole, AreTiles, AfterHashbang, Tile}
use Rattle.grammar_text_laws.proofs.Ordered.{bytes_fall, before_behind}
use Rattle.parse_lexer_laws.specs.Handed.{handed}
use Rattle.parse_lexer_laws.specs.Tiled.{SameSpots}
use Rattle.parse_lexer_laws.proofs.Escapes.{escapes_told}

-- Each word is told by its span.
abbrev pub AreTold : List PlacedToken → Type 0
AreTold [] = Unit {0}
AreTold (p ∷ ps) = (is_escaped p.spot ≡ p.escaped) × AreTold ps

-- ---- tokens that tile a text

tiles_told : (ps : List PlacedToken) (end : ℕ) (goal : Goal) (first : Bool) (text : List ℕ) → bytes text ≤ end → AreTiles end goal first text ps → AreTold ps
tiles_told [] end goal first text le h = tt
tiles_told (p ∷ ps) end goal first text le h =
    let t = h.1 in
    let a = bytes_fall text t.1 (before_behind (nat_le template_goal p.goal) goal first text t.0 t.1 t.3) in
    let b = bytes_fall t.1 h.0 (lexeme_behind (goal_at p.goal) t.1 t.2 h.0 t.4) in
    let from : bytes t.1 ≤ end = omega (arith, a, le) in
    let rest : bytes h.0 ≤ end = omega (arith, b, from) in
    (ap (λ (s : Spot). is_escaped s) t.5 ∙ (escapes_told (goal_at p.goal) end t.0 t.1 t.2 h.0 from t.4 ∙ sym t.6), tiles_told ps end goal false h.0 rest h.2)

after_told : (ps : List PlacedToken) (end : ℕ) (goal : Goal) (text : List ℕ) → bytes text ≤ end → AfterHashbang end goal text ps → AreTold ps
after_told [] end goal text le h = absurd h
after_told (p ∷ ps) end goal text le h =
    let t = h.1 in
    let b = bytes_fall text h.0 (hashbang_behind text t.0 h.0 t.1) in
    let rest : bytes h.0 ≤ end = omega (arith, b, le) in
    (ap (λ (s : Spot). is_escaped s) t.2 ∙ sym t.3, tiles_told ps end goal false h.0 rest h.2)

pub tile_told : (start : ℕ) (modules : Bool) (text : List ℕ) (ps : List PlacedToken) → Tile start modules text ps → AreTold ps
tile_told start modules text ps (inl h) = tiles_told ps (start + bytes text) (whole modules) true text (omega arith) h.1
tile_told start modules text ps (inr h) = after_told ps (start + bytes text) (whole modules) text (omega arith) h

-- ---- tokens that are handed out

abbrev first_or : PlacedToken → List PlacedToken → PlacedToken
first_or d [] = d
first_or d (p ∷ ps) = p

seen_so : (u : Spot) (p : PlacedToken) → place_of u ≡ p → place_of p.spot ≡ p
seen_so u p h = ap (λ (z : PlacedToken). place_of z.spot) (sym h) ∙ h

module _ {S : Type 0} (m : tokens.Machine S) where
  seen_is : (n : ℕ) (f : Option Spot) (b : Option (Source S)) (p : PlacedToken) (rs : List PlacedToken) → places m n f b ≡ p ∷ rs → place_of p.spot ≡ p
  seen_is n None b p rs e = absurd (nil_not_cons p rs e)
  seen_is n (Some u) None p rs e = seen_so u p (ap (λ (z : List PlacedToken). first_or p z) e)
  seen_is zero (Some u) (Some s) p rs e = seen_so u p (ap (λ (z : List PlacedToken). first_or p z) e)
  seen_is (suc n) (Some u) (Some s) p rs e = seen_so u p (ap (λ (z : List PlacedToken). first_or p z) e)

  -- each is as a parser sees it
  pub handed_is : (ps : List PlacedToken) (q : Cursor S) → HandsOut (stream_of m) ps q → handed ps ≡ ps
  unfolding stream_of
  handed_is [] q h = refl
  handed_is (p ∷ ps) q (inl h) = ap (λ (z : PlacedToken). z ∷ handed ps) (seen_is 2 q.first q.behind p h.0 h.1) ∙ ap (λ (zs : List PlacedToken). p ∷ zs) (handed_is ps ((stream_of m).after q) h.2)
  handed_is (p ∷ ps) q (inr h) = let o = (stream_of m).operand q in
      ap (λ (z : PlacedToken). z ∷ handed ps) (seen_is 2 o.first o.behind p h.2 h.5) ∙ ap (λ (zs : List PlacedToken). p ∷ zs) (handed_is ps ((stream_of m).after o) h.6)

-- so each word is told by its span
pub handed_told : (ps : List PlacedToken) → handed ps ≡ ps → AreTold ps
handed_told [] e = tt
handed_told (p ∷ ps) e = (ap (λ (z : List PlacedToken). (first_or p z).escaped) e, handed_told ps (ap (λ (z : List PlacedToken). others z) e))

-- ---- the same tokens

pub handed_same : (xs ys : List PlacedToken) → SameTokens xs ys → handed xs ≡ handed ys
handed_same [] [] h = refl
handed_same [] (y ∷ ys) h = absurd h
handed_same (x ∷ xs) [] h = absurd h
handed_same (x ∷ xs) (y ∷ ys) h = ap (λ (z : Spot). place_of z ∷ handed xs) h.0.0 ∙ ap (λ (zs : List PlacedToken). place_of y.spot ∷ zs) (handed_same xs ys h.1)

pub told_same : (xs ys : List PlacedToken) → SameTokens xs ys → AreTold xs → AreTold ys
told_same [] [] h t = tt
told_same [] (y ∷ ys) h t = absurd h
told_same (x ∷ xs) [] h t = absurd h
told_same (x ∷ xs) (y ∷ ys) h t = (ap (λ (s : Spot). is_escaped s) (sym h.0.0) ∙ (t.0 ∙ h.0.1), told_same xs ys h.1 t.1)

-- without goals and contexts they are as a parser sees them
pub bared_handed : (ps : List PlacedToken) → AreTold ps → handed ps ≡ bared ps
bared_handed [] t = refl
bared_handed (p ∷ ps) t = ap (λ (b : Bool). record (place_of p.spot) { escaped = b } ∷ handed ps) t.0 ∙ ap (λ (zs : List PlacedToken). record (place_of p.spot) { escaped = p.escaped } ∷ zs) (bared_handed ps t.1)

abbrev put : Spot → Bool → ℕ → Context → PlacedToken
put s e g c = record { spot = s; escaped = e; goal = g; context = c }

one_place : (x y : PlacedToken) → x.spot ≡ y.spot → x.goal ≡ y.goal → x.context ≡ y.context → is_escaped x.spot ≡ x.escaped → is_escaped y.spot ≡ y.escaped → x ≡ y
one_place x y s g c a b = ap (λ (z : Spot). put z x.escaped x.goal x.context) s ∙ (ap (λ (z : Bool). put y.spot z x.goal x.context) (sym a ∙ (ap (λ (z : Spot). is_escaped z) s ∙ b))
    ∙ (ap (λ (z : ℕ). put y.spot y.escaped z x.context) g ∙ ap (λ (z : Context). put y.spot y.escaped y.goal z) c))

-- the same tokens under the same goals and in the same contexts, whose escapes are told, are the same places
pub same_places : (xs ys : List PlacedToken) → SameSpots xs ys → AreTold xs → AreTold ys → xs ≡ ys
same_places [] [] h t u = refl
same_places [] (y ∷ ys) h t u = absurd h
same_places (x ∷ xs) [] h t u = absurd h
same_places (x ∷ xs) (y ∷ ys) h t u = ap (λ (z : PlacedToken). z ∷ xs) (one_place x y h.0 h.1 h.2 t.0 u.0) ∙ ap (λ (zs : List PlacedToken). y ∷ zs) (same_places xs ys h.3 t.1 u.1)
