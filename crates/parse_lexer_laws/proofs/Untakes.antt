-- What was handed out: the token came, or a slash came that was read again as it.
use Rattle.std.proofs.Common.{◌≡◌, ◌⊎◌, ℕ, zero, suc, Bool, true, false, cond, List, [], ◌∷◌, Option, Some, None, inl, inr, refl, sym, ap, ◌∙◌, subst, true≢false}
use Rattle.base_proofs.proofs.Lists.{nil_not_cons, cons_not_nil}
use Rattle.base_token.specs.Tokens.{Spot}
use Rattle.lex_source.specs.Machine as tokens
use Rattle.lex_source.specs.Machine.{Source}
use Rattle.grammar_spec.specs.Tokens.Input.{PlacedToken}
use Rattle.lex_step_laws.specs.States.{State}
use Rattle.ecma_lexer.specs.Machine.{step_of, lexer_machine}
use Rattle.parse_state.specs.Cursors.{Cursor, place_of, places, asked, withdrawn, in_place, read_on, after_by, reread_by, operand_by, stream_of}
use Rattle.parse_source_laws.specs.Sources.{is_slash, Rereads, HandsOut}
use Rattle.parse_lexer_laws.proofs.Orderly.{front}

abbrev spot_or : Spot → List PlacedToken → Spot
spot_or d [] = d
spot_or d (p ∷ ps) = p.spot

module _ {S : Type 0} (m : tokens.Machine S) where
  first_is : (n : ℕ) (f : Option Spot) (s : Source S) (p : PlacedToken) (rs : List PlacedToken) → places m n f (Some s) ≡ p ∷ rs → f ≡ Some p.spot
  first_is n None s p rs e = absurd (nil_not_cons p rs e)
  first_is zero (Some u) s p rs e = ap (λ (z : List PlacedToken). Some (spot_or u z)) e
  first_is (suc n) (Some u) s p rs e = ap (λ (z : List PlacedToken). Some (spot_or u z)) e

  none_is : (f : Option Spot) (s : Source S) → places m 2 f (Some s) ≡ [] → f ≡ None
  none_is None s e = refl
  none_is (Some u) s e = absurd (cons_not_nil (place_of u) (places m 1 (m.step s).0 (Some (m.step s).1)) e)

  -- The token came; or a slash came that was read again as it. Behind it these come.
  abbrev pub Took : Option Spot → Source S → Spot → List PlacedToken → Type 0
  Took f s t ps = ((f ≡ Some t) × HandsOut (stream_of m) ps (read_on (m.step s) t.hi))
      ⊎ ((q : Spot) × (f ≡ Some q) × (is_slash q.token.kind ≡ true) × Rereads (place_of q) (place_of t) × ((m.step (asked (Some q.lo) s)).0 ≡ Some t)
      × HandsOut (stream_of m) ps (read_on (m.step (asked None (m.step (asked (Some q.lo) s)).1)) t.hi))

  came : (f : Option Spot) (s : Source S) (n : ℕ) (t : Spot) (rs ps : List PlacedToken) → places m 2 f (Some s) ≡ place_of t ∷ rs → HandsOut (stream_of m) ps (after_by m f (Some s) (front f s n))
      → (f ≡ Some t) × HandsOut (stream_of m) ps (read_on (m.step s) t.hi)
  came f s n t rs ps e h = let k = first_is 2 f s (place_of t) rs e in (k, subst (λ (z : Option Spot). HandsOut (stream_of m) ps (after_by m z (Some s) (front z s n))) k h)

  came_again : (f : Option Spot) (s : Source S) (n : ℕ) (t : Spot) (q : PlacedToken) (qs rs ps : List PlacedToken) → places m 2 f (Some s) ≡ q ∷ qs → Rereads q (place_of t)
      → places m 2 (operand_by m f (Some s) (front f s n)).first (operand_by m f (Some s) (front f s n)).behind ≡ place_of t ∷ rs
      → HandsOut (stream_of m) ps (after_by m (operand_by m f (Some s) (front f s n)).first (operand_by m f (Some s) (front f s n)).behind (operand_by m f (Some s) (front f s n)))
      → (u : Spot) × (f ≡ Some u) × (is_slash u.token.kind ≡ true) × Rereads (place_of u) (place_of t) × ((m.step (asked (Some u.lo) s)).0 ≡ Some t)
      × HandsOut (stream_of m) ps (read_on (m.step (asked None (m.step (asked (Some u.lo) s)).1)) t.hi)
  came_again None s n t q qs rs ps e r i h = absurd (nil_not_cons q qs e)
  came_again (Some u) s n t q qs rs ps e r i h = (u, refl, slash, (slash, r.1, r.2 ∙ sym (ap (λ (z : Spot). z.lo) here), r.3 ∙ sym (ap (λ (z : Spot). z.line_break) here)), z.0, z.1)
    where
      here : u ≡ q.spot
      here = ap (λ (z : List PlacedToken). spot_or u z) e

      slash : is_slash u.token.kind ≡ true
      slash = ap (λ (z : Spot). is_slash z.token.kind) here ∙ r.0

      x : Option Spot × Source S
      x = m.step (asked (Some u.lo) s)

      Came : Type 0
      Came = (x.0 ≡ Some t) × HandsOut (stream_of m) ps (read_on (m.step (asked None x.1)) t.hi)

      -- from a front that shows this token first
      Shown : Cursor S → Type 0
      Shown o = places m 2 o.first o.behind ≡ place_of t ∷ rs → HandsOut (stream_of m) ps (after_by m o.first o.behind o) → Came

      -- a slash that stays is no regular expression
      stays : places m 2 (Some u) (Some s) ≡ place_of t ∷ rs → ⊥
      stays j = true≢false (sym slash ∙ ap (λ (z : ℕ). is_slash z) (ap (λ (z : Spot). z.token.kind) (ap (λ (z : List PlacedToken). spot_or u z) j) ∙ r.1))

      by_place : (b : Bool) → Shown (cond b (read_on (withdrawn x) n) (front (Some u) s n))
      by_place true j k = came x.0 (asked None x.1) n t rs ps j k
      by_place false j k = absurd (stays j)

      by_test : (b : Bool) → b ≡ true → Shown (cond b (reread_by u x (front (Some u) s n)) (front (Some u) s n))
      by_test true k i h = by_place (in_place u x.0) i h
      by_test false k i h = absurd (true≢false (sym k))

      z : Came
      z = by_test (is_slash u.token.kind) slash i h

  took : (f : Option Spot) (s : Source S) (n : ℕ) (t : Spot) (ps : List PlacedToken) → HandsOut (stream_of m) (place_of t ∷ ps) (front f s n) → Took f s t ps
  unfolding stream_of
  took f s n t ps (inl h) = inl (came f s n t h.0 ps h.1 h.2)
  took f s n t ps (inr h) = inr (came_again f s n t h.0 h.1 h.2 ps h.3 h.4 h.5 h.6)

  ended_at : (f : Option Spot) (s : Source S) (n : ℕ) → HandsOut (stream_of m) [] (front f s n) → f ≡ None
  unfolding stream_of
  ended_at f s n h = none_is f s h

-- ---- the lexer

-- from this state on a parser is handed these tokens, from some place on
abbrev pub Comes : List PlacedToken → State → Type 0
Comes ps s = (n : ℕ) × HandsOut (stream_of lexer_machine) ps (read_on (lexer_machine.step s) n)

pub untake_none : (s : State) → Comes [] s → (step_of s).0 ≡ None
untake_none s h = ended_at lexer_machine (step_of s).0 (step_of s).1 h.0 h.1

pub untake : (s : State) (t : Spot) (ps : List PlacedToken) → Comes (place_of t ∷ ps) s → Took lexer_machine (step_of s).0 (step_of s).1 t ps
untake s t ps h = took lexer_machine (step_of s).0 (step_of s).1 h.0 t ps h.1
