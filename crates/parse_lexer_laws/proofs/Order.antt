-- Tokens that a lexer hands out stand in the order of their places.
use Rattle.std.proofs.Common.{◌≡◌, ◌≢◌, ◌≤◌, ◌<◌, inl, inr, ℕ, Bool, true, false, ◌&&◌, ◌||◌, ◌==◌, cond, List, [], ◌∷◌, ◌++◌, length, Option, None, Some, refl, sym, ap, ◌∙◌, subst, true≢false, arith}
use Rattle.std.proofs.lemmas.Bool.{eqb-true, eq-eqb, and_parts}
use Rattle.base_proofs.proofs.Lists.{nil_not_cons}
use Rattle.base_token.specs.Kinds.{error_kind, regex_kind, template_kind}
use Rattle.base_token.specs.Tokens.{Spot}
use Rattle.lex_pieces.specs.Places.{bytes}
use Rattle.lex_run_laws.proofs.Behind.{Behind, place_rises}
use Rattle.lex_run_laws.proofs.Owns.{bytes_append}
use Rattle.grammar_spec.specs.Tokens.Input.{PlacedToken}
use Rattle.grammar_laws.specs.CompleteBase.Laws.{InOrder}
use Rattle.lex_step_laws.specs.States.{Last, Start, Slash, Characters, Fault, Other, State, Text, again, again_by, place}
use Rattle.lex_step_laws.specs.Steps.{IsStep}
use Rattle.lex_step_laws.proofs.Steps.{always_steps}
use Rattle.lex_step_laws.proofs.Going.{no_again}
use Rattle.ecma_lexer.specs.Machine.{step_of, lexer_machine}
use Rattle.parse_state.specs.Cursors.{Cursor, places, asked, withdrawn, told_of, same_break, in_place, read_on, after_by, reread_by, operand_by, stream_of}
use Rattle.parse_source_laws.specs.Sources.{is_slash, HandsOut}
use Rattle.parse_lexer_laws.specs.Order.{SlashFits, Fits, Lies, InFrontOf, InFront, FaultsHaveCharacters, LexerHandsInOrder, FirstInFront}
use Rattle.parse_lexer_laws.proofs.Orderly.{front}
use Rattle.parse_lexer_laws.proofs.Escapes.{some_bytes}
use Rattle.parse_lexer_laws.proofs.Lands.{Began, Lands, from_by, step_lands}

-- ---- places

-- less of a text begins at a later place
lower : (end : ℕ) (from rest : List ℕ) → Behind from rest → length rest < length from → bytes from ≤ end → place end from < place end rest
lower end from rest h l e = let f : bytes from ≡ bytes (h.0 ++ rest) = ap (λ (z : List ℕ). bytes z) h.1 in let a = bytes_append h.0 rest in let c = some_bytes h.0 some in omega (arith, f, a, c, e)
  where
    some : h.0 ≡ [] → ⊥
    some z = let k : length from ≡ length rest = ap (λ (x : List ℕ). length x) h.1 ∙ ap (λ (x : List ℕ). length (x ++ rest)) z in omega (arith, k, l)

-- ---- a step

-- the characters from which a step reads are in the text
again_fits : (s : State) (last : Last) (p : Option ℕ) (end : ℕ) → bytes s.tokens.left ≤ end → SlashFits last end → bytes (from_by s (again_by last p end)) ≤ end
again_fits s Start p end l f = l
again_fits s Characters p end l f = l
again_fits s Fault p end l f = l
again_fits s Other p end l f = l
again_fits s (Slash from) None end l f = l
again_fits s (Slash from) (Some p) end l f = by_test (p == place end from)
  where
    by_test : (b : Bool) → bytes (from_by s (cond b (Some from) None)) ≤ end
    by_test true = f
    by_test false = l

slash_fits : (from : List ℕ) (last : Last) (end : ℕ) → bytes from ≤ end → Began from last → SlashFits last end
slash_fits from (Slash text) end l e = subst (λ (z : List ℕ). bytes z ≤ end) (sym e) l
slash_fits from Start end l e = tt
slash_fits from Characters end l e = tt
slash_fits from Fault end l e = tt
slash_fits from Other end l e = tt

-- the state behind a token, and where that lies that begins there or later
module _ (s new : State) (text : List ℕ) (t : Spot) (e : bytes text ≤ s.tokens.end) (l : Lands s text t new) where
  from_fits : bytes l.from ≤ s.tokens.end
  from_fits = let f : bytes text ≡ bytes (l.starts.0 ++ l.from) = ap (λ (z : List ℕ). bytes z) l.starts.1 in let a = bytes_append l.starts.0 l.from in omega (arith, f, a, e)

  fits_behind : (place : Option ℕ) → place ≡ None → Fits (asked place new)
  fits_behind place n = record {
    left = subst (λ (z : ℕ). bytes new.tokens.left ≤ z) (sym l.end) (let f : bytes l.from ≡ bytes (l.left.0 ++ new.tokens.left) = ap (λ (z : List ℕ). bytes z) l.left.1 in let a = bytes_append l.left.0 new.tokens.left in let b = from_fits in omega (arith, f, a, b));
    slash = subst (λ (z : ℕ). SlashFits new.tokens.last z) (sym l.end) (slash_fits l.from new.tokens.last s.tokens.end from_fits l.last);
    unasked = n;
  }

  lies_from : (n : ℕ) → n ≤ t.lo → Lies n t (place new.tokens.end new.tokens.left)
  lies_from n b = record {
    begins = b;
    ends = l.ends ∙ ap (λ (z : ℕ). place z new.tokens.left) (sym l.end);
    rises = let a = place_rises s.tokens.end l.from new.tokens.left l.left in omega (arith, a, l.begins, l.ends);
    some = λ i j. let a = lower s.tokens.end l.from new.tokens.left l.left (l.some i j) from_fits in omega (arith, a, l.begins, l.ends);
  }

step_front : (s new : State) (out : Option Spot) (n : ℕ) → IsStep s out new → Fits s → n ≤ place s.tokens.end s.tokens.left → InFrontOf n out (Some new)
step_front s new None n h f b = tt
step_front s new (Some t) n h f b =
    let l : Lands s s.tokens.left t new = subst (λ (o : Option (List ℕ)). Lands s (from_by s o) t new) (no_again s f.unasked) (step_lands s new t h) in
    let a = place_rises s.tokens.end s.tokens.left l.from l.starts in
    (new, refl, fits_behind s new s.tokens.left t f.left l new.settings.next_regexp (l.asked ∙ f.unasked), lies_from s new s.tokens.left t f.left l n (omega (arith, a, b, l.begins)))

pub first_front : (s : State) (n : ℕ) → Fits s → n ≤ place s.tokens.end s.tokens.left → InFront (read_on (step_of s) n)
unfolding step_of
first_front s n f b = step_front s (always_steps s).1 (always_steps s).0 n (always_steps s).2 f b

-- ---- a slash that is read again

there : (t u : Spot) → in_place t (Some u) ≡ true → t.lo ≡ u.lo
there t u e = sym (eqb-true u.lo t.lo (and_parts (u.lo == t.lo) (same_break u.line_break t.line_break) (and_parts ((u.token.kind == regex_kind) || (u.token.kind == error_kind)) ((u.lo == t.lo) && same_break u.line_break t.line_break) e).1).0)

module _ (t : Spot) (s : State) (n : ℕ) (f : Fits s) (l : Lies n t (place s.tokens.end s.tokens.left)) where
  again_front : (new : State) (out : Option Spot) → IsStep (asked (Some t.lo) s) out new → (b : Bool) → in_place t out ≡ b → InFront (cond b (read_on (withdrawn (out, new)) n) (front (Some t) s n))
  again_front new out h false e = (s, refl, f, l)
  again_front new None h true e = absurd (true≢false (sym e))
  again_front new (Some u) h true e =
      let a = asked (Some t.lo) s in
      let c = again_fits a s.tokens.last (Some t.lo) s.tokens.end f.left f.slash in
      let k = step_lands a new u h in
      (asked None new, refl, fits_behind a new (from_by a (again a)) u c k None refl, lies_from a new (from_by a (again a)) u c k n (subst (λ (z : ℕ). n ≤ z) (there t u e) l.begins))

  operand_on : InFront (operand_by lexer_machine (Some t) (Some s) (front (Some t) s n))
  unfolding step_of
  operand_on = by_test (is_slash t.token.kind)
    where
      x : Option Spot × State
      x = step_of (asked (Some t.lo) s)

      by_test : (b : Bool) → InFront (cond b (reread_by t x (front (Some t) s n)) (front (Some t) s n))
      by_test false = (s, refl, f, l)
      by_test true = again_front x.1 x.0 (always_steps (asked (Some t.lo) s)).2 (in_place t x.0) refl

-- ---- what is handed out

by_front : (P : Cursor Text → Type 0) → ((b : Option State) (n : ℕ) → P (record { first = None; behind = b; last = n })) → ((t : Spot) (s : State) (n : ℕ) → Fits s → Lies n t (place s.tokens.end s.tokens.left) → P (front (Some t) s n))
    → (q : Cursor Text) → InFront q → P q
by_front P h g q i = by_first q.first q.behind q.last i
  where
    by_first : (f : Option Spot) (b : Option State) (n : ℕ) → InFrontOf n f b → P (record { first = f; behind = b; last = n })
    by_first None b n i = h b n
    by_first (Some t) b n i = subst (λ (z : Option State). P (record { first = Some t; behind = z; last = n })) (sym i.1) (g t i.0 n i.2 i.3)

-- what is known where this token comes: it lies behind the last one, and a parser stands in front of the lexer behind it
abbrev Leads : PlacedToken → Cursor Text → Type 0
Leads p q = (to : ℕ) × Lies q.last p.spot to × ((stream_of lexer_machine).after q).last ≡ p.spot.hi × InFront ((stream_of lexer_machine).after q)

seen_leads : (p : PlacedToken) (ps : List PlacedToken) (q : Cursor Text) → InFront q → (stream_of lexer_machine).seen q ≡ p ∷ ps → Leads p q
unfolding stream_of
seen_leads p ps q i e = by_front (λ (q : Cursor Text). places lexer_machine 2 q.first q.behind ≡ p ∷ ps → (to : ℕ) × Lies q.last p.spot to × ((after_by lexer_machine q.first q.behind q).last ≡ p.spot.hi) × InFront (after_by lexer_machine q.first q.behind q))
    (λ b n e. absurd (nil_not_cons p ps e))
    (λ t s n f l e. let k : t ≡ p.spot = ap (λ (z : List PlacedToken). spot_or t z) e in (place s.tokens.end s.tokens.left, subst (λ (z : Spot). Lies n z (place s.tokens.end s.tokens.left)) k l, ap (λ (z : Spot). z.hi) k, first_front s t.hi f (let a = l.ends in omega (arith, a))))
    q i e
  where
    spot_or : Spot → List PlacedToken → Spot
    spot_or d [] = d
    spot_or d (x ∷ xs) = x.spot

operand_front : (q : Cursor Text) → InFront q → InFront ((stream_of lexer_machine).operand q)
unfolding stream_of
operand_front q i = by_front (λ (q : Cursor Text). InFront (operand_by lexer_machine q.first q.behind q)) (λ b n. tt) operand_on q i

operand_stays : (q : Cursor Text) → InFront q → ((stream_of lexer_machine).operand q).last ≡ q.last
unfolding stream_of
operand_stays q i = by_front (λ (q : Cursor Text). (operand_by lexer_machine q.first q.behind q).last ≡ q.last) (λ b n. refl) (λ t s n f l. by_tests t s n (is_slash t.token.kind) (in_place t (step_of (asked (Some t.lo) s)).0)) q i
  where
    by_tests : (t : Spot) (s : State) (n : ℕ) (a b : Bool) → (cond a (cond b (read_on (withdrawn (step_of (asked (Some t.lo) s))) n) (front (Some t) s n)) (front (Some t) s n)).last ≡ n
    by_tests t s n false b = refl
    by_tests t s n true false = refl
    by_tests t s n true true = refl

sized : (from to : ℕ) (t : Spot) → Lies from t to → (t.token.kind ≡ error_kind → t.lo < t.hi) → t.token.kind ≢ template_kind → t.lo < t.hi
sized from to t l f n = by_test (t.token.kind == error_kind) refl
  where
    by_test : (b : Bool) → (t.token.kind == error_kind) ≡ b → t.lo < t.hi
    by_test true e = f (eqb-true t.token.kind error_kind e)
    by_test false e = l.some n (λ k. true≢false (sym (eq-eqb t.token.kind error_kind k) ∙ e))

in_order : (ps : List PlacedToken) (q : Cursor Text) → InFront q → HandsOut (stream_of lexer_machine) ps q → FaultsHaveCharacters ps → InOrder q.last ps
in_order [] q i h f = tt
in_order (p ∷ ps) q i (inl h) f = let k = seen_leads p h.0 q i h.1 in
    (k.1.begins, k.1.rises, sized q.last k.0 p.spot k.1 f.0, subst (λ (z : ℕ). InOrder z ps) k.2 (in_order ps ((stream_of lexer_machine).after q) k.3 h.2 f.1))
in_order (p ∷ ps) q i (inr h) f = let o = (stream_of lexer_machine).operand q in let k = seen_leads p h.2 o (operand_front q i) h.5 in
    (subst (λ (z : ℕ). z ≤ p.spot.lo) (operand_stays q i) k.1.begins, k.1.rises, sized o.last k.0 p.spot k.1 f.0, subst (λ (z : ℕ). InOrder z ps) k.2 (in_order ps ((stream_of lexer_machine).after o) k.3 h.6 f.1))

pub lexer_hands_in_order : LexerHandsInOrder
lexer_hands_in_order q i ps h f = in_order ps q i h f

pub first_in_front : FirstInFront
first_in_front x s last f b = first_front (told_of x s) last (record { left = f.left; slash = f.slash; unasked = f.unasked }) b
