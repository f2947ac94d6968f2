-- A parser's stream over a source of tokens reads a slash again in its place, or the slash stays; so it is orderly backward too.
use Rattle.std.proofs.Common.{◌≡◌, ◌⊎◌, ℕ, Bool, true, false, ◌&&◌, ◌||◌, cond, eqb, List, [], ◌∷◌, Option, None, Some, inl, inr, refl, sym, ap, ◌∙◌, subst, true≢false, eqb-true}
use Rattle.base_proofs.proofs.Bools.{and_second, and_first}
use Rattle.base_proofs.proofs.Lists.{nil_not_cons}
use Rattle.base_token.specs.Kinds.{regex_kind, error_kind}
use Rattle.base_token.specs.Tokens.{Spot}
use Rattle.lex_source.specs.Machine.{Source, Machine}
use Rattle.grammar_spec.specs.Tokens.Input.{PlacedToken}
use Rattle.parse_state.specs.Cursors.{Cursor, place_of, places, asked, withdrawn, read_on, same_break, in_place, reread_by, operand_by, stream_of}
use Rattle.parse_source_laws.specs.Sources.{is_slash, Rereads}
use Rattle.parse_source_laws.specs.Consumed.{Backward}
use Rattle.parse_source_laws.proofs.ConsumedLemmas.{programs_consumed}
use Rattle.parse_lexer_laws.specs.Constant.{Constant, Before}
use Rattle.parse_lexer_laws.specs.Backward.{ParserBackward, TokensConsumed}
use Rattle.parse_lexer_laws.proofs.Orderly.{front, by_front, hands_back, orderly}

abbrev first_or : PlacedToken → List PlacedToken → PlacedToken
first_or d [] = d
first_or d (p ∷ ps) = p

-- ---- what comes in a slash's place

one_of : (a b : Bool) → (a || b) ≡ true → (b ≡ true) ⊎ (a ≡ true)
one_of true b e = inr refl
one_of false b e = inl e

mark_is : (a b : Bool) → same_break a b ≡ true → a ≡ b
mark_is true b e = sym e
mark_is false true e = absurd (true≢false (sym e))
mark_is false false e = refl

-- a regular expression in the slash's place, or a fault
pub placed : (t u : Spot) → is_slash t.token.kind ≡ true → in_place t (Some u) ≡ true → (u.token.kind ≡ error_kind) ⊎ Rereads (place_of t) (place_of u)
placed t u k e = by_kind (one_of (eqb u.token.kind regex_kind) (eqb u.token.kind error_kind) (and_first _ _ e))
  where
    there : (eqb u.lo t.lo && same_break u.line_break t.line_break) ≡ true
    there = and_second (eqb u.token.kind regex_kind || eqb u.token.kind error_kind) (eqb u.lo t.lo && same_break u.line_break t.line_break) e

    by_kind : (eqb u.token.kind error_kind ≡ true) ⊎ (eqb u.token.kind regex_kind ≡ true) → (u.token.kind ≡ error_kind) ⊎ Rereads (place_of t) (place_of u)
    by_kind (inl i) = inl (eqb-true u.token.kind error_kind i)
    by_kind (inr i) = inr (k, eqb-true u.token.kind regex_kind i, eqb-true u.lo t.lo (and_first _ _ there), mark_is u.line_break t.line_break (and_second (eqb u.lo t.lo) _ there))

-- ---- backward

module _ {S : Type 0} {m : Machine S} {Good : Source S → Type 0} {Same : Source S → Source S → Type 0} {modules : Bool} (w : Constant m Good Same modules) where
  Answers : Cursor S → Cursor S → PlacedToken → PlacedToken → Type 0
  Answers q r p o = (o.spot.token.kind ≡ error_kind) ⊎ (Rereads p o ⊎ (r ≡ q))

  reread_on : (f : Option Spot) (s : Source S) (n : ℕ) (p o : PlacedToken) (ps os : List PlacedToken) → places m 2 f (Some s) ≡ p ∷ ps → is_slash p.spot.token.kind ≡ true
      → places m 2 (operand_by m f (Some s) (front f s n)).first (operand_by m f (Some s) (front f s n)).behind ≡ o ∷ os → Answers (front f s n) (operand_by m f (Some s) (front f s n)) p o
  unfolding Answers
  reread_on None s n p o ps os e k h = absurd (nil_not_cons p ps e)
  reread_on (Some t) s n p o ps os e k h = by_kind (is_slash t.token.kind) slash h
    where
      x : Option Spot × Source S
      x = m.step (asked (Some t.lo) s)

      here : place_of t ≡ p
      here = ap (λ z. first_or p z) e

      slash : is_slash t.token.kind ≡ true
      slash = ap (λ (z : PlacedToken). is_slash z.spot.token.kind) here ∙ k

      Says : Cursor S → Type 0
      Says r = places m 2 r.first r.behind ≡ o ∷ os → (o.spot.token.kind ≡ error_kind) ⊎ (Rereads p o ⊎ (r ≡ front (Some t) s n))

      taken : (u : Spot) → in_place t (Some u) ≡ true → place_of u ≡ o → (r : Cursor S) → (o.spot.token.kind ≡ error_kind) ⊎ (Rereads p o ⊎ (r ≡ front (Some t) s n))
      taken u i j r = by_sort (subst (λ (y : PlacedToken). (y.spot.token.kind ≡ error_kind) ⊎ Rereads p y) j (subst (λ (y : PlacedToken). (u.token.kind ≡ error_kind) ⊎ Rereads y (place_of u)) here (placed t u slash i)))
        where
          by_sort : (o.spot.token.kind ≡ error_kind) ⊎ Rereads p o → (o.spot.token.kind ≡ error_kind) ⊎ (Rereads p o ⊎ (r ≡ front (Some t) s n))
          by_sort (inl z) = inl z
          by_sort (inr z) = inr (inl z)

      by_token : (v : Option Spot) → in_place t v ≡ true → Says (read_on (v, asked None x.1) n)
      by_token None i j = absurd (nil_not_cons o os j)
      by_token (Some u) i j = taken u i (ap (λ y. first_or o y) j) (read_on (Some u, asked None x.1) n)

      by_place : (b : Bool) → in_place t x.0 ≡ b → Says (cond b (read_on (withdrawn x) n) (front (Some t) s n))
      by_place true i j = by_token x.0 i j
      by_place false i j = inr (inr refl)

      by_kind : (b : Bool) → b ≡ true → Says (cond b (reread_by t x (front (Some t) s n)) (front (Some t) s n))
      by_kind true i j = by_place (in_place t x.0) refl j
      by_kind false i j = absurd (true≢false (sym i))

  pub backward : Backward (stream_of m) (Before Good) modules
  unfolding stream_of Answers
  backward = record {
    told_back = λ x q ps e b h. hands_back w x q ps e b h;
    reread = λ f p o ps os b e k h. by_front w (λ f. places m 2 f.first f.behind ≡ p ∷ ps → places m 2 (operand_by m f.first f.behind f).first (operand_by m f.first f.behind f).behind ≡ o ∷ os → Answers f (operand_by m f.first f.behind f) p o)
        (λ f s n g e h. reread_on f s n p o ps os e k h) f b e h;
  }

module _ {S : Type 0} (m : Machine S) (Good : Source S → Type 0) (Same : Source S → Source S → Type 0) where
  pub parser_backward : ParserBackward m Good Same
  parser_backward modules w = backward w

  pub tokens_consumed : TokensConsumed m Good Same
  unfolding stream_of
  tokens_consumed modules w depth syntax q t b e = programs_consumed (stream_of m) (Before Good) modules (orderly w) (backward w) depth syntax q t b e
