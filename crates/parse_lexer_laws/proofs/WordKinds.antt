-- Words that are handed out are of their kinds.
use Rattle.std.proofs.Common.{◌≡◌, inl, inr, ℕ, Bool, true, false, cond, List, [], ◌∷◌, codes, Option, None, Some, refl, sym, ap, ◌∙◌, subst, arith}
use Rattle.base_proofs.proofs.Lists.{nil_not_cons}
use Rattle.base_token.specs.Kinds.{async_kind}
use Rattle.base_token.specs.Tokens.{Spot}
use Rattle.base_token.specs.Words.{SpecWord, kind_of, own_text}
use Rattle.base_token.proofs.WordLemmas.{own_kind_word}
use Rattle.lex_source.specs.Machine.{Source, Machine}
use Rattle.grammar_spec.specs.Tokens.Input.{PlacedToken, is_word, text_in}
use Rattle.lex_step_laws.specs.States.{State}
use Rattle.lex_step_laws.proofs.Steps.{always_steps}
use Rattle.lex_step_laws.specs.Steps.{IsStep}
use Rattle.ecma_lexer.specs.Machine.{step_of}
use Rattle.parse_state.specs.Cursors.{Cursor, places, asked, withdrawn, in_place, read_on, after_by, operand_by, stream_of}
use Rattle.parse_source_laws.specs.Sources.{is_slash, HandsOut}
use Rattle.parse_lexer_laws.specs.Constant.{Constant}
use Rattle.parse_lexer_laws.specs.WordKinds.{IsOfKind, ComesOfKind, AreOfKinds, TellsKinds, HandsKinds, LexerTellsKinds, AsyncTold}
use Rattle.parse_lexer_laws.proofs.Orderly.{front}
use Rattle.parse_lexer_laws.proofs.Lands.{step_lands}

module _ {S : Type 0} {m : Machine S} {Good : Source S → Type 0} {Same : Source S → Source S → Type 0} {modules : Bool} (w : Constant m Good Same modules) (k : TellsKinds m Good Same) where
  -- in front of a good source, where a word that comes is of its kind
  abbrev Kinded : Cursor S → Type 0
  Kinded q = (s : Source S) × (q.behind ≡ Some s) × Good s × ComesOfKind q.first

  by_kinded : (P : Cursor S → Type 0) → ((f : Option Spot) (s : Source S) (n : ℕ) → Good s → ComesOfKind f → P (front f s n)) → (q : Cursor S) → Kinded q → P q
  by_kinded P h q b = subst (λ (z : Option (Source S)). P (record { first = q.first; behind = z; last = q.last })) (sym b.1) (h q.first b.0 q.last b.2 b.3)

  seen_on : (f : Option Spot) (s : Source S) (n : ℕ) (p : PlacedToken) (ps : List PlacedToken) → ComesOfKind f → places m 2 f (Some s) ≡ p ∷ ps → IsOfKind p.spot
  seen_on None s n p ps c e = absurd (nil_not_cons p ps e)
  seen_on (Some t) s n p ps c e = subst (λ (z : Spot). IsOfKind z) (ap (λ (z : List PlacedToken). spot_or t z) e) c
    where
      spot_or : Spot → List PlacedToken → Spot
      spot_or d [] = d
      spot_or d (x ∷ xs) = x.spot

  after_on : (f : Option Spot) (s : Source S) (n : ℕ) → Good s → ComesOfKind f → Kinded (after_by m f (Some s) (front f s n))
  after_on None s n g c = (s, refl, g, c)
  after_on (Some t) s n g c = ((m.step s).1, refl, w.good_step s g, k s g)

  operand_on : (f : Option Spot) (s : Source S) (n : ℕ) → Good s → ComesOfKind f → Kinded (operand_by m f (Some s) (front f s n))
  operand_on None s n g c = (s, refl, g, c)
  operand_on (Some t) s n g c = by_tests (is_slash t.token.kind) (in_place t (m.step (asked (Some t.lo) s)).0)
    where
      by_tests : (a b : Bool) → Kinded (cond a (cond b (read_on (withdrawn (m.step (asked (Some t.lo) s))) n) (front (Some t) s n)) (front (Some t) s n))
      by_tests false b = (s, refl, g, c)
      by_tests true false = (s, refl, g, c)
      by_tests true true = let h = w.good_asked (Some t.lo) s g in (asked None (m.step (asked (Some t.lo) s)).1, refl, w.good_asked None (m.step (asked (Some t.lo) s)).1 (w.good_step (asked (Some t.lo) s) h), k (asked (Some t.lo) s) h)

  seen_kinded : (q : Cursor S) (p : PlacedToken) (ps : List PlacedToken) → Kinded q → (stream_of m).seen q ≡ p ∷ ps → IsOfKind p.spot
  unfolding stream_of
  seen_kinded q p ps b e = by_kinded (λ (q : Cursor S). places m 2 q.first q.behind ≡ p ∷ ps → IsOfKind p.spot) (λ f s n g c. seen_on f s n p ps c) q b e

  after_kinded : (q : Cursor S) → Kinded q → Kinded ((stream_of m).after q)
  unfolding stream_of
  after_kinded q b = by_kinded (λ (q : Cursor S). Kinded (after_by m q.first q.behind q)) after_on q b

  operand_kinded : (q : Cursor S) → Kinded q → Kinded ((stream_of m).operand q)
  unfolding stream_of
  operand_kinded q b = by_kinded (λ (q : Cursor S). Kinded (operand_by m q.first q.behind q)) operand_on q b

  pub handed_kinds : (ps : List PlacedToken) (q : Cursor S) → Kinded q → HandsOut (stream_of m) ps q → AreOfKinds ps
  handed_kinds [] q b h = tt
  handed_kinds (p ∷ ps) q b (inl h) = (seen_kinded q p h.0 b h.1, handed_kinds ps ((stream_of m).after q) (after_kinded q b) h.2)
  handed_kinds (p ∷ ps) q b (inr h) = let o = operand_kinded q b in (seen_kinded ((stream_of m).operand q) p h.2 o h.5, handed_kinds ps ((stream_of m).after ((stream_of m).operand q)) (after_kinded ((stream_of m).operand q) o) h.6)

module _ {S : Type 0} (m : Machine S) (Good : Source S → Type 0) (Same : Source S → Source S → Type 0) where
  pub hands_kinds : HandsKinds m Good Same
  hands_kinds modules w k q b c ps h = handed_kinds w k ps q (b.0, b.1, b.2, c) h

-- ---- the lexer

kind_of_step : (s new : State) (out : Option Spot) → IsStep s out new → ComesOfKind out
kind_of_step s new None h = tt
kind_of_step s new (Some t) h = (step_lands s new t h).kind

pub lexer_tells_kinds : LexerTellsKinds
unfolding step_of
lexer_tells_kinds s = kind_of_step s (always_steps s).1 (always_steps s).0 (always_steps s).2

-- ---- the word `async`

async_told : (k : ℕ) (text : List ℕ) → (is_word k ≡ true → k ≡ kind_of text) → k ≡ async_kind → text ≡ codes "async"
unfolding own_text
async_told k text h e = let w : is_word k ≡ true = ap (λ (n : ℕ). is_word n) e in
    let a : async_kind ≡ kind_of text = sym e ∙ h w in
    sym (ap (λ (x : SpecWord). x.text) (own_kind_word async_kind text a (omega arith)))

pub async_text : AsyncTold
async_text t h e = async_told t.token.kind (text_in t.token.content) h e
