-- A parser's stream over a source of tokens: it is orderly.
use Rattle.std.proofs.Common.{◌≡◌, ◌<◌, ◌≤◌, ◌+◌, ℕ, zero, suc, Bool, true, false, cond, List, [], ◌∷◌, Option, None, Some, option_map, inl, inr, refl, sym, ap, ◌∙◌, subst, arith, le_refl}
use Rattle.base_proofs.proofs.Lists.{nil_not_cons}
use Rattle.base_token.specs.declared.context.Context.{Context}
use Rattle.base_token.specs.Tokens.{Spot}
use Rattle.lex_source.specs.Machine.{Source, Machine}
use Rattle.grammar_spec.specs.Tokens.Input.{PlacedToken, kind_of, hi_of, others}
use Rattle.parse_state.specs.Cursors.{Cursor, place_of, places, asked, withdrawn, told_of, in_place, read_on, after_by, reread_by, operand_by, one_in, bound_in, stream_of}
use Rattle.parse_source_laws.specs.Sources.{is_slash, one, two, HandsOut, Orderly}
use Rattle.parse_source_laws.proofs.SourceLemmas.{programs_read}
use Rattle.parse_lexer_laws.specs.Constant.{Falls, Constant, Before, ParserOrderly, TokensRead}

-- before a source, where this token comes
abbrev pub front : {S : Type 0} → Option Spot → Source S → ℕ → Cursor S
front f s n = record { first = f; behind = Some s; last = n }

module _ {S : Type 0} {m : Machine S} {Good : Source S → Type 0} {Same : Source S → Source S → Type 0} {modules : Bool} (w : Constant m Good Same modules) where
  -- what holds of every cursor before a good source holds of every state of a parser
  pub by_front : (P : Cursor S → Type 0) → ((f : Option Spot) (s : Source S) (n : ℕ) → Good s → P (front f s n)) → (q : Cursor S) → Before Good q → P q
  by_front P h q b = subst (λ (z : Option (Source S)). P (record { first = q.first; behind = z; last = q.last })) (sym b.1) (h q.first b.0 q.last b.2)

  -- ---- what is seen

  one_place : (f : Option Spot) (s : Source S) → places m 0 f (Some s) ≡ one (places m 1 f (Some s))
  one_place None s = refl
  one_place (Some t) s = refl

  two_places : (f : Option Spot) (s : Source S) → places m 1 f (Some s) ≡ two (places m 2 f (Some s))
  two_places None s = refl
  two_places (Some t) s = ap (λ z. place_of t ∷ z) (one_place (m.step s).0 (m.step s).1)

  -- ---- cursors before sources that are the same

  pub Alike : Cursor S → Cursor S → Type 0
  Alike q r = (q.first ≡ r.first) × (s : Source S) × (t : Source S) × (q.behind ≡ Some s) × (r.behind ≡ Some t) × Same s t

  pub by_alike : (P : Cursor S → Cursor S → Type 0) → ((f : Option Spot) (s t : Source S) (n o : ℕ) → Same s t → P (front f s n) (front f t o)) → (q r : Cursor S) → Alike q r → P q r
  unfolding Alike
  by_alike P h q r a = subst (λ (z : Option (Source S)). P (record { first = q.first; behind = z; last = q.last }) r) (sym a.3)
      (subst (λ (z : Option (Source S)). P (front q.first a.1 q.last) (record { first = r.first; behind = z; last = r.last })) (sym a.4)
      (subst (λ (z : Option Spot). P (front q.first a.1 q.last) (front z a.2 r.last)) a.0 (h q.first a.1 a.2 q.last r.last a.5)))

  same_places : (i : ℕ) (f : Option Spot) (s t : Source S) → Same s t → places m i f (Some s) ≡ places m i f (Some t)
  same_places i None s t e = refl
  same_places zero (Some u) s t e = refl
  same_places (suc i) (Some u) s t e = ap (λ z. place_of u ∷ z) (ap (λ (z : Option Spot). places m i z (Some (m.step s).1)) (w.same_first s t e) ∙ same_places i (m.step t).0 (m.step s).1 (m.step t).1 (w.same_step s t e))

  seen_alike : (q r : Cursor S) → Alike q r → (stream_of m).seen q ≡ (stream_of m).seen r
  unfolding stream_of
  seen_alike q r a = by_alike (λ q r. places m 2 q.first q.behind ≡ places m 2 r.first r.behind) (λ f s t n o e. same_places 2 f s t e) q r a

  after_on : (f : Option Spot) (s t : Source S) (n o : ℕ) → Same s t → Alike (after_by m f (Some s) (front f s n)) (after_by m f (Some t) (front f t o))
  unfolding Alike
  after_on None s t n o e = (refl, s, t, refl, refl, e)
  after_on (Some u) s t n o e = (w.same_first s t e, (m.step s).1, (m.step t).1, refl, refl, w.same_step s t e)

  after_alike : (q r : Cursor S) → Alike q r → Alike ((stream_of m).after q) ((stream_of m).after r)
  unfolding stream_of
  after_alike q r a = by_alike (λ q r. Alike (after_by m q.first q.behind q) (after_by m r.first r.behind r)) (λ f s t n o e. after_on f s t n o e) q r a

  operand_on : (f : Option Spot) (s t : Source S) (n o : ℕ) → Same s t → Alike (operand_by m f (Some s) (front f s n)) (operand_by m f (Some t) (front f t o))
  unfolding Alike
  operand_on None s t n o e = (refl, s, t, refl, refl, e)
  operand_on (Some u) s t n o e = by_kind (is_slash u.token.kind)
    where
      x : Option Spot × Source S
      x = m.step (asked (Some u.lo) s)

      y : Option Spot × Source S
      y = m.step (asked (Some u.lo) t)

      first : x.0 ≡ y.0
      first = w.same_first (asked (Some u.lo) s) (asked (Some u.lo) t) (w.same_asked (Some u.lo) s t e)

      by_place : (b : Bool) → Alike (cond b (read_on (withdrawn x) n) (front (Some u) s n)) (cond b (read_on (withdrawn y) o) (front (Some u) t o))
      by_place false = (refl, s, t, refl, refl, e)
      by_place true = (first, asked None x.1, asked None y.1, refl, refl, w.same_asked None x.1 y.1 (w.same_step (asked (Some u.lo) s) (asked (Some u.lo) t) (w.same_asked (Some u.lo) s t e)))

      again : Alike (reread_by u x (front (Some u) s n)) (reread_by u y (front (Some u) t o))
      again = subst (λ (z : Option Spot). Alike (reread_by u x (front (Some u) s n)) (cond (in_place u z) (read_on (withdrawn y) o) (front (Some u) t o))) first (by_place (in_place u x.0))

      by_kind : (b : Bool) → Alike (cond b (reread_by u x (front (Some u) s n)) (front (Some u) s n)) (cond b (reread_by u y (front (Some u) t o)) (front (Some u) t o))
      by_kind false = (refl, s, t, refl, refl, e)
      by_kind true = again

  operand_alike : (q r : Cursor S) → Alike q r → Alike ((stream_of m).operand q) ((stream_of m).operand r)
  unfolding stream_of
  operand_alike q r a = by_alike (λ q r. Alike (operand_by m q.first q.behind q) (operand_by m r.first r.behind r)) (λ f s t n o e. operand_on f s t n o e) q r a

  -- they hand out the same tokens
  pub hands_alike : (ps : List PlacedToken) (q r : Cursor S) → Alike q r → HandsOut (stream_of m) ps q → HandsOut (stream_of m) ps r
  hands_alike [] q r a h = sym (seen_alike q r a) ∙ h
  hands_alike (p ∷ ps) q r a (inl h) = inl (h.0, sym (seen_alike q r a) ∙ h.1, hands_alike ps ((stream_of m).after q) ((stream_of m).after r) (after_alike q r a) h.2)
  hands_alike (p ∷ ps) q r a (inr h) = inr (
    h.0,
    h.1,
    h.2,
    sym (seen_alike q r a) ∙ h.3,
    h.4,
    sym (seen_alike ((stream_of m).operand q) ((stream_of m).operand r) (operand_alike q r a)) ∙ h.5,
    hands_alike ps ((stream_of m).after ((stream_of m).operand q)) ((stream_of m).after ((stream_of m).operand r)) (after_alike ((stream_of m).operand q) ((stream_of m).operand r) (operand_alike q r a)) h.6,
  )

  pub told_alike : (x : Context) (q : Cursor S) → x.module_ ≡ modules → Before Good q → Alike q ((stream_of m).retold x q)
  unfolding stream_of Alike
  told_alike x q e b = (refl, b.0, told_of x b.0, b.1, ap (λ z. option_map (told_of x) z) b.1, w.same_told x b.0 e b.2)

  told_back : (x : Context) (q : Cursor S) → x.module_ ≡ modules → Before Good q → Alike ((stream_of m).retold x q) q
  unfolding stream_of Alike
  told_back x q e b = (refl, told_of x b.0, b.0, ap (λ z. option_map (told_of x) z) b.1, b.1, w.same_back b.0 (told_of x b.0) (w.same_told x b.0 e b.2))

  -- what comes once other code around was told came before
  pub hands_back : (x : Context) (q : Cursor S) (ps : List PlacedToken) → x.module_ ≡ modules → Before Good q → HandsOut (stream_of m) ps ((stream_of m).retold x q) → HandsOut (stream_of m) ps q
  hands_back x q ps e b h = hands_alike ps ((stream_of m).retold x q) q (told_back x q e b) h

  -- ---- one step

  behind_on : (f : Option Spot) (s : Source S) (n : ℕ) (p : PlacedToken) (ps : List PlacedToken) → places m 2 f (Some s) ≡ p ∷ ps → ps ≡ two (places m 2 (after_by m f (Some s) (front f s n)).first (after_by m f (Some s) (front f s n)).behind)
  behind_on None s n p ps e = absurd (nil_not_cons p ps e)
  behind_on (Some t) s n p ps e = sym (ap others e) ∙ two_places (m.step s).0 (m.step s).1

  ends_on : (f : Option Spot) (s : Source S) (n : ℕ) (p : PlacedToken) (ps : List PlacedToken) → places m 2 f (Some s) ≡ p ∷ ps → (after_by m f (Some s) (front f s n)).last ≡ p.spot.hi
  ends_on None s n p ps e = absurd (nil_not_cons p ps e)
  ends_on (Some t) s n p ps e = ap (λ z. hi_of 0 z) e

  plain_on : (f : Option Spot) (s : Source S) (n : ℕ) → is_slash (kind_of (places m 2 f (Some s))) ≡ false → operand_by m f (Some s) (front f s n) ≡ front f s n
  plain_on None s n e = refl
  plain_on (Some t) s n e = ap (λ (b : Bool). cond b (reread_by t (m.step (asked (Some t.lo) s)) (front (Some t) s n)) (front (Some t) s n)) e

  -- the source behind is good after it
  after_good : (f : Option Spot) (s : Source S) (n : ℕ) → Good s → Before Good (after_by m f (Some s) (front f s n))
  after_good None s n g = (s, refl, g)
  after_good (Some t) s n g = ((m.step s).1, refl, w.good_step s g)

  operand_good : (f : Option Spot) (s : Source S) (n : ℕ) → Good s → Before Good (operand_by m f (Some s) (front f s n))
  operand_good None s n g = (s, refl, g)
  operand_good (Some t) s n g = by_kind (is_slash t.token.kind) (in_place t (m.step (asked (Some t.lo) s)).0)
    where
      by_kind : (b c : Bool) → Before Good (cond b (cond c (read_on (withdrawn (m.step (asked (Some t.lo) s))) n) (front (Some t) s n)) (front (Some t) s n))
      by_kind false c = (s, refl, g)
      by_kind true false = (s, refl, g)
      by_kind true true = (asked None (m.step (asked (Some t.lo) s)).1, refl, w.good_asked None (m.step (asked (Some t.lo) s)).1 (w.good_step (asked (Some t.lo) s) (w.good_asked (Some t.lo) s g)))

  operand_last : (f : Option Spot) (s : Source S) (n : ℕ) → (operand_by m f (Some s) (front f s n)).last ≡ n
  operand_last None s n = refl
  operand_last (Some t) s n = by_kind (is_slash t.token.kind) (in_place t (m.step (asked (Some t.lo) s)).0)
    where
      by_kind : (b c : Bool) → (cond b (cond c (read_on (withdrawn (m.step (asked (Some t.lo) s))) n) (front (Some t) s n)) (front (Some t) s n)).last ≡ n
      by_kind false c = refl
      by_kind true false = refl
      by_kind true true = refl

  -- ---- bounds

  step_falls : (x : Option Spot) (a b : ℕ) → Falls x a b → one_in x + b < 1 + a
  step_falls None a b h = omega (arith, h)
  step_falls (Some t) a b h = omega (arith, h)

  falls_on : (f : Option Spot) (s : Source S) (n : ℕ) (p : PlacedToken) (ps : List PlacedToken) → Good s → places m 2 f (Some s) ≡ p ∷ ps
      → one_in (after_by m f (Some s) (front f s n)).first + bound_in m (after_by m f (Some s) (front f s n)).behind < one_in f + bound_in m (Some s)
  falls_on None s n p ps g e = absurd (nil_not_cons p ps e)
  falls_on (Some t) s n p ps g e = step_falls (m.step s).0 (m.bound s.tokens) (m.bound (m.step s).1.tokens) (w.falls s g)

  operand_falls : (f : Option Spot) (s : Source S) (n : ℕ) → Good s
      → one_in (operand_by m f (Some s) (front f s n)).first + bound_in m (operand_by m f (Some s) (front f s n)).behind ≤ one_in f + bound_in m (Some s)
  operand_falls None s n g = le_refl _
  operand_falls (Some t) s n g = by_kind (is_slash t.token.kind) (in_place t (m.step (asked (Some t.lo) s)).0)
    where
      again : Bool → Bool → Cursor S
      again b c = cond b (cond c (read_on (withdrawn (m.step (asked (Some t.lo) s))) n) (front (Some t) s n)) (front (Some t) s n)

      by_kind : (b c : Bool) → one_in (again b c).first + bound_in m (again b c).behind ≤ 1 + m.bound s.tokens
      by_kind false c = le_refl _
      by_kind true false = le_refl _
      by_kind true true = let h = step_falls (m.step (asked (Some t.lo) s)).0 (m.bound s.tokens) (m.bound (m.step (asked (Some t.lo) s)).1.tokens) (w.falls (asked (Some t.lo) s) (w.good_asked (Some t.lo) s g)) in omega (arith, h)

  -- ---- orderly

  pub orderly : Orderly (stream_of m) (Before Good) modules
  unfolding stream_of
  orderly = record {
    behind = λ q p ps b e. by_front (λ q. places m 2 q.first q.behind ≡ p ∷ ps → ps ≡ two (places m 2 (after_by m q.first q.behind q).first (after_by m q.first q.behind q).behind)) (λ f s n g. behind_on f s n p ps) q b e;
    ends_at = λ q p ps b e. by_front (λ q. places m 2 q.first q.behind ≡ p ∷ ps → (after_by m q.first q.behind q).last ≡ p.spot.hi) (λ f s n g. ends_on f s n p ps) q b e;
    plain = λ q b e. by_front (λ q. is_slash (kind_of (places m 2 q.first q.behind)) ≡ false → operand_by m q.first q.behind q ≡ q) (λ f s n g. plain_on f s n) q b e;
    told = λ x q ps e b h. hands_alike ps q ((stream_of m).retold x q) (told_alike x q e b) h;
    operand_last = λ q b. by_front (λ q. (operand_by m q.first q.behind q).last ≡ q.last) (λ f s n g. operand_last f s n) q b;
    turned_last = λ x q b. refl;
    falls = λ q p ps b e. by_front (λ q. places m 2 q.first q.behind ≡ p ∷ ps → one_in (after_by m q.first q.behind q).first + bound_in m (after_by m q.first q.behind q).behind < one_in q.first + bound_in m q.behind) (λ f s n g. falls_on f s n p ps g) q b e;
    operand_falls = λ q b. by_front (λ q. one_in (operand_by m q.first q.behind q).first + bound_in m (operand_by m q.first q.behind q).behind ≤ one_in q.first + bound_in m q.behind) (λ f s n g. operand_falls f s n g) q b;
    turned_falls = λ x q b. by_front (λ q. one_in q.first + bound_in m (option_map (told_of x) q.behind) ≤ one_in q.first + bound_in m q.behind) (λ f s n g. le_refl _) q b;
    live_after = λ q b. by_front (λ q. Before Good (after_by m q.first q.behind q)) (λ f s n g. after_good f s n g) q b;
    live_operand = λ q b. by_front (λ q. Before Good (operand_by m q.first q.behind q)) (λ f s n g. operand_good f s n g) q b;
    live_turned = λ x q e b. (told_of x b.0, ap (λ z. option_map (told_of x) z) b.1, w.good_told x b.0 e b.2);
  }

module _ {S : Type 0} (m : Machine S) (Good : Source S → Type 0) (Same : Source S → Source S → Type 0) where
  pub parser_orderly : ParserOrderly m Good Same
  parser_orderly modules w = orderly w

  pub tokens_read : TokensRead m Good Same
  unfolding stream_of
  tokens_read modules w depth syntax q ps t b h e = programs_read (stream_of m) (Before Good) modules (orderly w) depth syntax q ps t b h e
