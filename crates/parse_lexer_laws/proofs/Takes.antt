-- How a token is handed out: it comes, or a slash comes that is read again as it.
use Rattle.std.proofs.Common.{◌≡◌, ◌⊎◌, ℕ, Bool, true, false, ◌&&◌, ◌||◌, cond, List, [], ◌∷◌, Option, Some, None, inl, inr, refl, sym, ap, ◌∙◌, subst}
use Rattle.std.specs.Prelude.{◌==◌}
use Rattle.base_proofs.proofs.Bools.{eqb_same}
use Rattle.base_token.specs.Kinds.{regex_kind, error_kind}
use Rattle.base_token.specs.Tokens.{Spot}
use Rattle.lex_source.specs.Machine as tokens
use Rattle.lex_source.specs.Machine.{Source}
use Rattle.grammar_spec.specs.Tokens.Input.{PlacedToken}
use Rattle.lex_step_laws.specs.States.{State}
use Rattle.lex_step_laws.specs.Steps.{IsStep}
use Rattle.ecma_lexer.specs.Machine.{step_of, lexer_machine}
use Rattle.ecma_lexer.proofs.MachineLemmas.{step_is}
use Rattle.parse_state.specs.Cursors.{Cursor, place_of, places, asked, withdrawn, same_break, in_place, read_on, reread_by, stream_of}
use Rattle.parse_source_laws.specs.Sources.{is_slash, Rereads, HandsOut}
use Rattle.parse_lexer_laws.proofs.Orderly.{front}

-- ---- a regular expression in a slash's place

same_marks : (a : Bool) → same_break a a ≡ true
same_marks true = refl
same_marks false = refl

-- a regular expression or a fault that begins where a slash does, with the same mark
pub in_place_at : (q t : Spot) → t.lo ≡ q.lo → t.line_break ≡ q.line_break → (t.token.kind ≡ regex_kind) ⊎ (t.token.kind ≡ error_kind) → in_place q (Some t) ≡ true
in_place_at q t e f h = by_kind h
  where
    there : ((t.lo == q.lo) && same_break t.line_break q.line_break) ≡ true
    there = subst (λ (n : ℕ). ((n == q.lo) && same_break t.line_break q.line_break) ≡ true) (sym e)
        (subst (λ (b : Bool). ((q.lo == q.lo) && same_break b q.line_break) ≡ true) (sym f)
        (subst (λ (b : Bool). (b && same_break q.line_break q.line_break) ≡ true) (sym (eqb_same q.lo)) (same_marks q.line_break)))

    by_kind : (t.token.kind ≡ regex_kind) ⊎ (t.token.kind ≡ error_kind) → in_place q (Some t) ≡ true
    by_kind (inl k) = subst (λ (n : ℕ). (((n == regex_kind) || (n == error_kind)) && ((t.lo == q.lo) && same_break t.line_break q.line_break)) ≡ true) (sym k) there
    by_kind (inr k) = subst (λ (n : ℕ). (((n == regex_kind) || (n == error_kind)) && ((t.lo == q.lo) && same_break t.line_break q.line_break)) ≡ true) (sym k) there

-- ---- a source of tokens

module _ {S : Type 0} (m : tokens.Machine S) where
  hands_none : (f : Option Spot) (s : Source S) (n : ℕ) → f ≡ None → HandsOut (stream_of m) [] (front f s n)
  unfolding stream_of
  hands_none f s n e = ap (λ (z : Option Spot). places m 2 z (Some s)) e

  hands_some : (f : Option Spot) (s : Source S) (n : ℕ) (t : Spot) (ps : List PlacedToken) → f ≡ Some t → HandsOut (stream_of m) ps (read_on (m.step s) t.hi) → HandsOut (stream_of m) (place_of t ∷ ps) (front f s n)
  unfolding stream_of
  hands_some f s n t ps e h = subst (λ (z : Option Spot). HandsOut (stream_of m) (place_of t ∷ ps) (front z s n)) (sym e) (inl (places m 1 (m.step s).0 (Some (m.step s).1), refl, h))

  -- this token comes, and behind it these
  abbrev Begins : Spot → List PlacedToken → Cursor S → Type 0
  Begins t ps q = (rs : List PlacedToken) × ((stream_of m).seen q ≡ place_of t ∷ rs) × HandsOut (stream_of m) ps ((stream_of m).after q)

  begins_at : (f : Option Spot) (s : Source S) (n : ℕ) (t : Spot) (ps : List PlacedToken) → f ≡ Some t → HandsOut (stream_of m) ps (read_on (m.step s) t.hi) → Begins t ps (front f s n)
  unfolding stream_of
  begins_at f s n t ps e h = subst (λ (z : Option Spot). Begins t ps (front z s n)) (sym e) (places m 1 (m.step s).0 (Some (m.step s).1), refl, h)

  begins_again : (s : Source S) (n : ℕ) (q t : Spot) (ps : List PlacedToken) → is_slash q.token.kind ≡ true → Rereads (place_of q) (place_of t) → (m.step (asked (Some q.lo) s)).0 ≡ Some t
      → HandsOut (stream_of m) ps (read_on (m.step (asked None (m.step (asked (Some q.lo) s)).1)) t.hi) → Begins t ps ((stream_of m).operand (front (Some q) s n))
  unfolding stream_of
  begins_again s n q t ps k r i h = let x = m.step (asked (Some q.lo) s) in
      subst (λ (b : Bool). Begins t ps (cond b (reread_by q x (front (Some q) s n)) (front (Some q) s n))) (sym k)
      (subst (λ (b : Bool). Begins t ps (cond b (read_on (withdrawn x) n) (front (Some q) s n))) (sym (ap (λ (z : Option Spot). in_place q z) i ∙ in_place_at q t r.2 r.3 (inl r.1)))
      (begins_at x.0 (asked None x.1) n t ps i h))

  hands_again : (f : Option Spot) (s : Source S) (n : ℕ) (q t : Spot) (ps : List PlacedToken) → f ≡ Some q → Rereads (place_of q) (place_of t) → Begins t ps ((stream_of m).operand (front (Some q) s n))
      → HandsOut (stream_of m) (place_of t ∷ ps) (front f s n)
  unfolding stream_of
  hands_again f s n q t ps e r h = subst (λ (z : Option Spot). HandsOut (stream_of m) (place_of t ∷ ps) (front z s n)) (sym e)
      (inr (place_of q, places m 1 (m.step s).0 (Some (m.step s).1), h.0, refl, r, h.1, h.2))

-- ---- the lexer

-- from this state on a parser is handed these tokens
abbrev pub Hands : List PlacedToken → State → Type 0
Hands ps s = (n : ℕ) → HandsOut (stream_of lexer_machine) ps (read_on (lexer_machine.step s) n)

pub take_none : (s new : State) → IsStep s None new → Hands [] s
take_none s new i n = hands_none lexer_machine (step_of s).0 (step_of s).1 n (sym (step_is s new None i).0)

pub take : (s new : State) (t : Spot) (ps : List PlacedToken) → IsStep s (Some t) new → Hands ps new → Hands (place_of t ∷ ps) s
take s new t ps i h n = let k = step_is s new (Some t) i in
    hands_some lexer_machine (step_of s).0 (step_of s).1 n t ps (sym k.0) (subst (λ (z : State). HandsOut (stream_of lexer_machine) ps (read_on (step_of z) t.hi)) k.1 (h t.hi))

-- behind a slash: read again, this token comes, and behind it these
abbrev Again : Spot → Spot → List PlacedToken → State → Type 0
Again q t ps z = ((step_of (asked (Some q.lo) z)).0 ≡ Some t) × HandsOut (stream_of lexer_machine) ps (read_on (step_of (asked None (step_of (asked (Some q.lo) z)).1)) t.hi)

again_at : (mid new : State) (q t : Spot) (ps : List PlacedToken) → IsStep (asked (Some q.lo) mid) (Some t) new → Hands ps (asked None new) → Again q t ps mid
again_at mid new q t ps j h = let b = step_is (asked (Some q.lo) mid) new (Some t) j in (sym b.0, subst (λ (z : State). HandsOut (stream_of lexer_machine) ps (read_on (step_of (asked None z)) t.hi)) b.1 (h t.hi))

pub take_again : (s mid new : State) (q t : Spot) (ps : List PlacedToken) → IsStep s (Some q) mid → is_slash q.token.kind ≡ true → IsStep (asked (Some q.lo) mid) (Some t) new → Rereads (place_of q) (place_of t)
    → Hands ps (asked None new) → Hands (place_of t ∷ ps) s
take_again s mid new q t ps i k j r h n = let a = step_is s mid (Some q) i in let g = subst (λ (z : State). Again q t ps z) a.1 (again_at mid new q t ps j h) in
    hands_again lexer_machine (step_of s).0 (step_of s).1 n q t ps (sym a.0) r (begins_again lexer_machine (step_of s).1 n q t ps k r g.0 g.1)
