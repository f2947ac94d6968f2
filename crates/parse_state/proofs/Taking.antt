-- What becomes of a cursor, by whether a token comes.
use Rattle.std.proofs.Common.{◌≡◌, ℕ, ◌+◌, ◌<◌, ◌≤◌, Bool, true, false, Option, None, Some, refl, sym, ap, subst, ◌∙◌, arith, if◌then◌else◌}
use Rattle.std.specs.Prelude.{is_none, IfSome, MatchOption}
use Rattle.std.proofs.lemmas.Bool.{false≢true}
use Rattle.base_token.specs.Tokens.{Spot}
use Rattle.lex_source.specs.Ahead.{break_in, hi_in, kind_in, lo_in}
use Rattle.lex_source.specs.Looks.{behind_by}
use Rattle.lex_source.specs.Machine.{Machine, Source}
use Rattle.grammar_spec.specs.Tokens.Input.{break_of, kind_of, lo_of, others}
use Rattle.parse_state.specs.Cursors.{Cursor, after_by, again_in, asked, comes, in_place, is_slash, one_in, operand_by, places, read_on, reread_by, withdrawn}
use Rattle.parse_state.proofs.Firsts.{break_at, kind_at}
use Rattle.parse_state.proofs.Thirds.{second_break, second_kind}

abbrev cursor : {S : Type 0} → Option Spot → Source S → ℕ → Cursor S
cursor o s last = record { first = o; behind = Some s; last = last }

module _ {S : Type 0} (m : Machine S) (s : Source S) where
  -- ---- taking it

  -- nothing is taken at the end
  pub after_none : (o : Option Spot) (q : Cursor S) → is_none o ≡ true → after_by m o (Some s) q ≡ q
  after_none None q e = refl
  after_none (Some t) q e = absurd (false≢true e)

  pub after_some : (o : Option Spot) (q : Cursor S) → is_none o ≡ false → after_by m o (Some s) q ≡ read_on (m.step s) (hi_in q.last o)
  after_some None q e = absurd (false≢true (sym e))
  after_some (Some t) q e = refl

  -- fewer tokens may come behind it
  pub fewer : (o a : Option Spot) (r : Source S) → is_none o ≡ false → MatchOption a (m.bound r.tokens ≤ m.bound s.tokens) (λ _. m.bound r.tokens < m.bound s.tokens)
      → one_in a + m.bound r.tokens < one_in o + m.bound s.tokens
  fewer None a r e f = absurd (false≢true (sym e))
  fewer (Some t) None r e f = omega (arith, f)
  fewer (Some t) (Some u) r e f = omega (arith, f)

  -- ---- the tokens behind it

  pub third_end : (o : Option Spot) (last : ℕ) → is_none o ≡ true
      → kind_of (others (places m 2 (after_by m o (Some s) (cursor o s last)).first (after_by m o (Some s) (cursor o s last)).behind)) ≡ 0
  third_end None last e = refl
  third_end (Some t) last e = absurd (false≢true e)

  pub third_end_break : (o : Option Spot) (last : ℕ) → is_none o ≡ true
      → break_of (others (places m 2 (after_by m o (Some s) (cursor o s last)).first (after_by m o (Some s) (cursor o s last)).behind)) ≡ false
  third_end_break None last e = refl
  third_end_break (Some t) last e = absurd (false≢true e)

  pub third_end_rest : (o : Option Spot) → is_none o ≡ true → kind_of (others (others (places m 2 o (Some s)))) ≡ 0
  third_end_rest None e = refl
  third_end_rest (Some t) e = absurd (false≢true e)

  pub third_at : (o : Option Spot) (last : ℕ) → is_none o ≡ false
      → kind_of (others (places m 2 (after_by m o (Some s) (cursor o s last)).first (after_by m o (Some s) (cursor o s last)).behind)) ≡ kind_in (behind_by m.step (m.step s).0 (m.step s).1)
  third_at None last e = absurd (false≢true (sym e))
  third_at (Some t) last e = second_kind m 1 (m.step s).0 (m.step s).1

  pub third_break_at : (o : Option Spot) (last : ℕ) → is_none o ≡ false
      → break_of (others (places m 2 (after_by m o (Some s) (cursor o s last)).first (after_by m o (Some s) (cursor o s last)).behind)) ≡ break_in (behind_by m.step (m.step s).0 (m.step s).1)
  third_break_at None last e = absurd (false≢true (sym e))
  third_break_at (Some t) last e = second_break m 1 (m.step s).0 (m.step s).1

  pub third_rest_at : (o : Option Spot) → is_none o ≡ false
      → kind_of (others (others (places m 2 o (Some s)))) ≡ kind_in (behind_by m.step (m.step s).0 (m.step s).1)
  third_rest_at None e = absurd (false≢true (sym e))
  third_rest_at (Some t) e = second_kind m 0 (m.step s).0 (m.step s).1

  -- the token behind it, by where the cursor stands then, and by the tokens at hand
  pub behind_end : (o : Option Spot) (last : ℕ) → is_none o ≡ true
      → kind_of (places m 2 (after_by m o (Some s) (cursor o s last)).first (after_by m o (Some s) (cursor o s last)).behind) ≡ 0
  behind_end None last e = refl
  behind_end (Some t) last e = absurd (false≢true e)

  pub behind_end_break : (o : Option Spot) → is_none o ≡ true → break_of (others (places m 2 o (Some s))) ≡ false
  behind_end_break None e = refl
  behind_end_break (Some t) e = absurd (false≢true e)

  pub behind_at : (o : Option Spot) (last : ℕ) → is_none o ≡ false
      → kind_of (places m 2 (after_by m o (Some s) (cursor o s last)).first (after_by m o (Some s) (cursor o s last)).behind) ≡ kind_in (m.step s).0
  behind_at None last e = absurd (false≢true (sym e))
  behind_at (Some t) last e = kind_at m 2 (m.step s).0 (m.step s).1

  pub behind_break_at : (o : Option Spot) → is_none o ≡ false → break_of (others (places m 2 o (Some s))) ≡ break_in (m.step s).0
  behind_break_at None e = absurd (false≢true (sym e))
  behind_break_at (Some t) e = break_at m 1 (m.step s).0 (m.step s).1

  -- ---- a slash that is read again

  pub operand_none : (o : Option Spot) (q : Cursor S) → is_none o ≡ true → operand_by m o (Some s) q ≡ q
  operand_none None q e = refl
  operand_none (Some t) q e = absurd (false≢true e)

  stays_by : (b : Bool) (x q : Cursor S) → x ≡ q → (if b then x else q) ≡ q
  stays_by true x q e = e
  stays_by false x q e = refl

  slash_stays : (t : Spot) (q : Cursor S) → in_place t (again_in m t s) ≡ false → operand_by m (Some t) (Some s) q ≡ q
  slash_stays t q h =
      stays_by (is_slash t.token.kind) (reread_by t (m.step (asked (Some t.lo) s)) q) q
      (ap (λ (b : Bool). if b then read_on (withdrawn (m.step (asked (Some t.lo) s))) q.last else q) h)

  slash_read : (t : Spot) (q : Cursor S) → is_slash t.token.kind ≡ true → in_place t (again_in m t s) ≡ true
      → operand_by m (Some t) (Some s) q ≡ read_on (withdrawn (m.step (asked (Some t.lo) s))) q.last
  slash_read t q k h =
      ap (λ (b : Bool). if b then reread_by t (m.step (asked (Some t.lo) s)) q else q) k
      ∙ ap (λ (b : Bool). if b then read_on (withdrawn (m.step (asked (Some t.lo) s))) q.last else q) h

  -- what is told of a slash that is asked for again, by what the source shows
  shown_at : (last lo : ℕ) (f : Option Spot) (t : Spot) → lo ≡ lo_of last (places m 2 (Some t) (Some s)) → f ≡ (m.step (asked (Some lo) s)).0 → f ≡ again_in m t s
  shown_at last lo f t e g = g ∙ ap (λ n. (m.step (asked (Some n) s)).0) e

  pub again_comes : (o : Option Spot) (last lo k : ℕ) (u : Spot) (b : Bool) → lo ≡ lo_of last (places m 2 o (Some s)) → Some u ≡ (m.step (asked (Some lo) s)).0 → b ≡ comes o u → b ≡ true
      → k ≡ u.token.kind → IfSome o (λ t. (in_place t (again_in m t s) ≡ true) × (k ≡ kind_in (again_in m t s)))
  again_comes None last lo k u b e f c h n = tt
  again_comes (Some t) last lo k u b e f c h n =
      let g = shown_at last lo (Some u) t e f in
      (subst (λ q. in_place t q ≡ true) g (sym c ∙ h), n ∙ ap kind_in g)

  pub again_stays : (o : Option Spot) (last lo : ℕ) (u : Spot) (b : Bool) → lo ≡ lo_of last (places m 2 o (Some s)) → Some u ≡ (m.step (asked (Some lo) s)).0 → b ≡ comes o u → b ≡ false
      → IfSome o (λ t. in_place t (again_in m t s) ≡ false)
  again_stays None last lo u b e f c h = tt
  again_stays (Some t) last lo u b e f c h = subst (λ q. in_place t q ≡ false) (shown_at last lo (Some u) t e f) (sym c ∙ h)

  pub again_ends : (o : Option Spot) (last lo : ℕ) → lo ≡ lo_of last (places m 2 o (Some s)) → None ≡ (m.step (asked (Some lo) s)).0 → IfSome o (λ t. in_place t (again_in m t s) ≡ false)
  again_ends None last lo e f = tt
  again_ends (Some t) last lo e f = subst (λ q. in_place t q ≡ false) (shown_at last lo None t e f) refl

  -- by what reading it again answered: nothing, or the kind of what comes in its place
  pub operand_stays : (o : Option Spot) (x : Option ℕ) (q : Cursor S) → is_none x ≡ true
      → IfSome o (λ t. MatchOption x (in_place t (again_in m t s) ≡ false) (λ k. (in_place t (again_in m t s) ≡ true) × (k ≡ kind_in (again_in m t s)))) → operand_by m o (Some s) q ≡ q
  operand_stays None x q n h = refl
  operand_stays (Some t) None q n h = slash_stays t q h
  operand_stays (Some t) (Some k) q n h = absurd (false≢true n)

  pub operand_reads : (o : Option Spot) (x : Option ℕ) (q : Cursor S) → is_none o ≡ false → is_none x ≡ false → is_slash (kind_in o) ≡ true
      → IfSome o (λ t. MatchOption x (in_place t (again_in m t s) ≡ false) (λ k. (in_place t (again_in m t s) ≡ true) × (k ≡ kind_in (again_in m t s))))
      → operand_by m o (Some s) q ≡ read_on (withdrawn (m.step (asked (Some (lo_in q.last o)) s))) q.last
  operand_reads None x q e n k h = absurd (false≢true (sym e))
  operand_reads (Some t) None q e n k h = absurd (false≢true (sym n))
  operand_reads (Some t) (Some kind) q e n k h = slash_read t q k h.0

pub ruleset takes = (after_none, after_some, fewer)

pub ruleset ends_and_thirds = (third_end, third_end_break, third_end_rest, third_at, third_break_at, third_rest_at)

pub ruleset operands = (operand_none, operand_stays, operand_reads)

pub ruleset behinds = (behind_end, behind_end_break, behind_at, behind_break_at)

pub ruleset agains = (again_comes, again_stays, again_ends)
