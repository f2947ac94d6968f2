-- `try` derived again, with its handler and `finally` (14.15).
use Rattle.std.proofs.Common.{Bool, ap, ap₂, arith, codes, false, inl, inr, not, refl, subst, sym, true, true≢false, ◌&&◌, ◌∙◌, ◌≡◌, ◌⊎◌}
use Rattle.base_token.specs.Kinds.{catch_kind, else_kind, finally_kind, left_paren_kind, right_paren_kind, try_kind}
use Rattle.base_token.specs.declared.place.Span.{Span}
use Rattle.tree_spec.specs.Places.{no_place}
use Rattle.tree_spec.specs.Tree.{Tree, absent, block_stmt, catch_clause, try_stmt}
use Rattle.grammar_spec.specs.Tokens.Input.{Code, Input, Takes, TakesWord, binding, kind, lo, span, unplaced}
use Rattle.grammar_spec.specs.Tokens.Shape.{is_absent, is_binding, is_block, is_catch}
use Rattle.grammar_spec.specs.Grammar.{Produces}
use Rattle.grammar_spec.specs.Children.{By, Maybe, Sorted, child}
use Rattle.grammar_spec.specs.Statements.{Catch}
use Rattle.grammar_laws.proofs.Covers.{by_no}
use Rattle.print_gaps.specs.Edges.{is_there}
use Rattle.print_layout_spec.specs.Layout.{in_parens, laid, word}
use Rattle.print_layout_spec.specs.Looks.{Laid, formats, gap, when, ◌·◌}
use Rattle.print_layout_spec.specs.declared.look.Look.{Look}
use Rattle.print_layout_spec.specs.declared.look.Stand.{Stand}
use Rattle.print_layout_spec.specs.declared.look.Stand.TheVariants.{Alone}
use Rattle.again_laws.specs.Tokens.Spacings.{Spacing, Touching}
use Rattle.again_laws.specs.Tokens.Lexicon.{Lexicon}
use Rattle.again_laws.specs.Tokens.Means.{Known}
use Rattle.again_laws.specs.Tokens.Naming.{Naming}
use Rattle.again_laws.specs.Tokens.Told.{Breaks, says}
use Rattle.again_laws.specs.Derived.Redo.{Leaves, Mode, Plain, Redone, redo}
use Rattle.again_laws.proofs.derived_rules.Naming.{leaves_at}
use Rattle.again_laws.proofs.derived_rules.Begins.{is_part}
use Rattle.again_laws.proofs.derived_rules.Bodies.{follow_closed}
use Rattle.again_laws.proofs.derived_rules.Ends.{absent_same, there}
use Rattle.again_laws.proofs.derived_rules.Follow.{closed_calm, is_closed}
use Rattle.again_laws.proofs.derived_rules.Shapes.{alike, re_is_absent, re_is_binding, re_is_block}
use Rattle.again_laws.proofs.derived_rules.Sound.{Sound, plain_part}
use Rattle.again_laws.proofs.derived_rules.Tokens.{gapped, keyed, marked, skip, took, worded}
use Rattle.again_laws.proofs.derived_rules.Variables.{binding_plain}

try_else : try_kind ≡ else_kind → ⊥
try_else e = omega arith

catch_else : catch_kind ≡ else_kind → ⊥
catch_else e = omega arith

re_is_catch : (l : Leaves) (m : Mode) (t : Tree) → is_catch (redo l m t) ≡ is_catch t
re_is_catch l m (catch_clause s p b) = refl
re_is_catch l m _ = refl

block_part : (t : Tree) → is_block t ≡ true → (is_part t ≡ true) × (is_closed t ≡ true)
block_part (block_stmt s ss) h = (refl, refl)
block_part _ h = absurd (true≢false (sym h))

neither : (a b u v : Bool) → u ≡ a → v ≡ b → (a && b) ≡ false → (u && v) ≡ false
neither a b u v e f h = subst (λ (x : Bool). (x && v) ≡ false) (sym e) (subst (λ (x : Bool). (a && x) ≡ false) (sym f) h)

finally_else : finally_kind ≡ else_kind → ⊥
finally_else e = omega arith

-- what is asked of the parts of a handler
abbrev pub HandlerSound : Look → Naming → Tree → Type 1
HandlerSound look naming (catch_clause s p b) = Sound look naming Alone p × Sound look naming Alone b
HandlerSound look naming _ = Unit {1}

module _ (look : Look) (x : Lexicon look.style) where
  -- a block, behind which nothing is asked
  record Blocked (t : Tree) (c : Code) (r0 : Input) (b : Spacing) (ts : Input) (K : Spacing → Input → Type 0) : Type 0 where
    d : Spacing
    m : Input
    more : K d m
    known : Known r0.places
    broke : Breaks x.naming b ts
    again : (kind m ≡ else_kind → kind r0 ≡ else_kind) → (u : Tree) × Sorted is_block (unplaced c) (child u (λ y. Produces u y)) ts m × Redone (leaves_at look x.naming) Plain t u

  blocked_on : (t : Tree) → Sound look x.naming Alone t → (c : Code) (ts0 r0 : Input) → Sorted is_block c (child t (λ y. Produces t y)) ts0 r0 → Known ts0.places → (b : Spacing) (ts : Input) (K : Spacing → Input → Type 0) → says x.naming (laid look Alone t) b ts K → Blocked t c r0 b ts K
  blocked_on t f c ts0 r0 h k b ts K q = let p = block_part t h.0 in let z = plain_part look x.naming Alone t f p.0 c ts0 r0 h.1 k b ts K q in record {
    d = z.d;
    m = z.m;
    more = z.more;
    known = z.known;
    broke = z.broke;
    again = λ g. let w = z.again (follow_closed t r0 z.m p.1 g) in (w.tree, (alike is_block re_is_block (leaves_at look x.naming) Plain t w.tree w.same ∙ h.0, w.produced), w.same);
  }

  record Caught (t : Tree) (c : Code) (r0 : Input) (b : Spacing) (ts : Input) (K : Spacing → Input → Type 0) : Type 0 where
    d : Spacing
    m : Input
    more : K d m
    known : Known r0.places
    lead : kind ts ≡ catch_kind
    again : (kind m ≡ else_kind → kind r0 ≡ else_kind) → (u : Tree) × Sorted is_catch (unplaced c) (child u (λ y. Produces u y)) ts m × Redone (leaves_at look x.naming) Plain t u

  catch_on : (s : Span) (p b : Tree) → Sound look x.naming Alone p → Sound look x.naming Alone b → (c : Code) (ts0 r0 : Input) → Catch c s (child p (λ y. Produces p y)) (child b (λ y. Produces b y)) ts0 r0 → Known ts0.places → (br : Spacing) (ts : Input) (K : Spacing → Input → Type 0) → says x.naming (laid look Alone (catch_clause s p b)) br ts K
      → Caught (catch_clause s p b) c r0 br ts K
  catch_on s p b f g c ts0 r0 h k br ts K q = by (is_absent p) refl h.3 (subst (λ (v : Bool). says x.naming (when v (in_parens (laid look Alone p)) · gap look · laid look Alone b) (gapped (formats look) Touching) q.0 K) (there p) (skip x.naming (formats look) Touching q.0 _ q.2))
    where
      by : (v : Bool) → is_absent p ≡ v → By v (h.0 ≡ h.1) ((o : Input) × (i : Input) × Takes c left_paren_kind h.0 o × (is_binding p ≡ true) × Produces p (binding c) o i × Takes c right_paren_kind i h.1)
          → says x.naming (when (not v) (in_parens (laid look Alone p)) · gap look · laid look Alone b) (gapped (formats look) Touching) q.0 K → Caught (catch_clause s p b) c r0 br ts K
      by true a e i = let z = blocked_on b g c h.1 r0 h.4 (subst (λ (i : Input). Known i.places) e (x.later ts0 h.0 h.2.3 k)) _ q.0 K (skip x.naming (formats look) (gapped (formats look) Touching) q.0 _ i) in record {
        d = z.d;
        m = z.m;
        more = z.more;
        known = z.known;
        lead = keyed look x catch_kind q.1;
        again = λ l. let w = z.again l in (
          catch_clause (span (lo ts) z.m.last) absent w.0,
          (refl, (q.0, q.0, worded look x c catch_kind q.1, refl, w.1, refl)),
          record { so = λ n. ap₂ (λ (t u : Tree). catch_clause no_place t u) ((absent_same (leaves_at look x.naming) Plain p a).so Plain) (w.2.so Plain) },
        );
      }
      by false a e i =
          let j = binding_plain p e.3 in
          let y = plain_part look x.naming Alone p f j.0 (binding c) e.0 e.1 e.4 (x.later h.0 e.0 e.2.2 (x.later ts0 h.0 h.2.3 k)) Touching i.0 _ i.2 in
          let o = y.more in
          let z = blocked_on b g c h.1 r0 h.4 (x.later e.1 h.1 e.5.2 y.known) _ o.0 K (skip x.naming (formats look) Touching o.0 _ o.2) in record {
            d = z.d;
            m = z.m;
            more = z.more;
            known = z.known;
            lead = keyed look x catch_kind q.1;
            again = λ l. let w = z.again l in let v = y.again (record { quiet = λ n. closed_calm y.m right_paren_kind (marked look x right_paren_kind o.1) refl; other = λ n. absurd (true≢false (sym n ∙ j.1)) }) in (
              catch_clause (span (lo ts) z.m.last) v.tree w.0,
              (refl, (q.0, o.0, worded look x c catch_kind q.1, by_no (is_absent v.tree) _ _ (alike is_absent re_is_absent (leaves_at look x.naming) Plain p v.tree v.same ∙ a) (i.0, y.m, took look x c left_paren_kind i.1, alike is_binding re_is_binding (leaves_at look x.naming) Plain p v.tree v.same ∙ e.3, v.produced, took look x c right_paren_kind o.1), w.1, refl)),
              record { so = λ n. ap₂ (λ (t u : Tree). catch_clause no_place t u) (v.same.so Plain) (w.2.so Plain) },
            );
          }

  record Handled (h : Tree) (c : Code) (r0 : Input) (ts : Input) (K : Spacing → Input → Type 0) : Type 0 where
    d : Spacing
    m : Input
    more : K d m
    known : Known r0.places
    lead : ((is_absent h ≡ false) × (kind ts ≡ catch_kind)) ⊎ ((is_absent h ≡ true) × (ts ≡ m))
    again : (kind m ≡ else_kind → kind r0 ≡ else_kind) → (u : Tree) × Maybe (Sorted is_catch) (unplaced c) (child u (λ y. Produces u y)) ts m × Redone (leaves_at look x.naming) Plain h u

  caught_on : (t : Tree) → HandlerSound look x.naming t → (c : Code) (ts0 r0 : Input) → Sorted is_catch c (child t (λ y. Produces t y)) ts0 r0 → Known ts0.places → (b : Spacing) (ts : Input) (K : Spacing → Input → Type 0) → says x.naming (laid look Alone t) b ts K → Caught t c r0 b ts K
  caught_on (catch_clause s p b) f c ts0 r0 h k br ts K q = catch_on s p b f.0 f.1 c ts0 r0 h.1 k br ts K q
  caught_on _ f c ts0 r0 h k br ts K q = absurd (true≢false (sym h.0))

  handler_on : (t : Tree) → HandlerSound look x.naming t → (c : Code) (v : Bool) → is_absent t ≡ v → (ts0 r0 : Input) → By v (ts0 ≡ r0) (Sorted is_catch c (child t (λ y. Produces t y)) ts0 r0) → Known ts0.places → (b : Spacing) (ts : Input) (K : Spacing → Input → Type 0) → says x.naming (when (not v) (gap look · laid look Alone t)) b ts K → Handled t c r0 ts K
  handler_on t f c true e ts0 r0 h k b ts K q = record { d = b; m = ts; more = q; known = subst (λ (i : Input). Known i.places) h k; lead = inr (e, refl); again = λ g. (absent, refl, absent_same (leaves_at look x.naming) Plain t e) }
  handler_on t f c false e ts0 r0 h k b ts K q =
      let z = caught_on t f c ts0 r0 h k _ ts K (skip x.naming (formats look) b ts _ q) in record {
        d = z.d;
        m = z.m;
        more = z.more;
        known = z.known;
        lead = inl (e, z.lead);
        again = λ g. let w = z.again g in (w.0, by_no (is_absent w.0) _ _ (alike is_absent re_is_absent (leaves_at look x.naming) Plain t w.0 w.2 ∙ e) w.1, w.2);
      }

  record Finally (f : Tree) (c : Code) (o0 r0 : Input) (ts : Input) (K : Spacing → Input → Type 0) : Type 0 where
    d : Spacing
    m : Input
    more : K d m
    known : Known r0.places
    first : (kind m ≡ else_kind → kind r0 ≡ else_kind) → kind ts ≡ else_kind → kind o0 ≡ else_kind
    lead : is_absent f ≡ false → kind ts ≡ else_kind → ⊥
    again : (kind m ≡ else_kind → kind r0 ≡ else_kind) → (u : Tree) × By (is_absent u) (ts ≡ m) ((p : Input) × TakesWord (unplaced c) finally_kind ts p × Sorted is_block (unplaced c) (child u (λ y. Produces u y)) p m) × Redone (leaves_at look x.naming) Plain f u

  finally_on : (t : Tree) → Sound look x.naming Alone t → (c : Code) (v : Bool) → is_absent t ≡ v → (ts0 r0 : Input) → By v (ts0 ≡ r0) ((p : Input) × TakesWord c finally_kind ts0 p × Sorted is_block c (child t (λ y. Produces t y)) p r0) → Known ts0.places → (b : Spacing) (ts : Input) (K : Spacing → Input → Type 0)
      → says x.naming (when (not v) (gap look · word (codes "finally") · laid look Alone t)) b ts K → Finally t c ts0 r0 ts K
  finally_on t f c true e ts0 r0 h k b ts K q = record {
    d = b;
    m = ts;
    more = q;
    known = subst (λ (i : Input). Known i.places) h k;
    first = λ g i. ap kind h ∙ g i;
    lead = λ i. absurd (true≢false (sym e ∙ i));
    again = λ g. (absent, refl, absent_same (leaves_at look x.naming) Plain t e);
  }
  finally_on t f c false e ts0 r0 h k b ts K q =
      let i = skip x.naming (formats look) b ts _ q in
      let n = keyed look x finally_kind i.1 in
      let z = blocked_on t f c h.0 r0 h.2 (x.later ts0 h.0 h.1.3 k) Touching i.0 K i.2 in record {
        d = z.d;
        m = z.m;
        more = z.more;
        known = z.known;
        first = λ g j. absurd (finally_else (sym n ∙ j));
        lead = λ g j. finally_else (sym n ∙ j);
        again = λ g. let w = z.again g in (w.0, by_no (is_absent w.0) _ _ (alike is_absent re_is_absent (leaves_at look x.naming) Plain t w.0 w.2 ∙ e) (i.0, worded look x c finally_kind i.1, w.1), w.2);
      }

  abbrev finally_laid : Tree → Laid
  finally_laid f = when (is_there f) (gap look · word (codes "finally") · laid look Alone f)

  pub try_on : (s : Span) (b h f : Tree) → Sound look x.naming Alone b → HandlerSound look x.naming h → Sound look x.naming Alone f → (st : Stand) → Sound look x.naming st (try_stmt s b h f)
  try_on s b t f i j n st c ts0 r0 h k br ts K q =
      let y = blocked_on b i c h.0 h.1 h.5 (x.later ts0 h.0 h.4.3 k) _ q.0 (λ d m. says x.naming (when (is_there t) (gap look · laid look Alone t) · finally_laid f) d m K) (skip x.naming (formats look) Touching q.0 _ q.2) in
      let z = handler_on t j c (is_absent t) refl h.1 h.2 h.6 y.known y.d y.m (λ d m. says x.naming (finally_laid f) d m K) (subst (λ (v : Bool). says x.naming (when v (gap look · laid look Alone t)) y.d y.m (λ d m. says x.naming (finally_laid f) d m K)) (there t) y.more) in
      let v = finally_on f n c (is_absent f) refl h.2 r0 h.7 z.known z.d z.m K (subst (λ (v : Bool). says x.naming (when v (gap look · word (codes "finally") · laid look Alone f)) z.d z.m K) (there f) z.more) in record {
        d = v.d;
        m = v.m;
        more = v.more;
        known = v.known;
        broke = q.1.broke;
        tight = λ e. absurd (true≢false (sym e));
        begins = λ e. absurd (try_else (sym (keyed look x try_kind q.1) ∙ e));
        again = λ l. let w = v.again (l.other refl) in let u = z.again (v.first (l.other refl)) in let a = y.again (λ e. absurd (behind y.m z.m z.lead v.lead e)) in record {
          tree = try_stmt (span (lo ts) v.m.last) a.0 u.0 w.0;
          produced = (q.0, y.m, z.m, neither (is_absent t) (is_absent f) (is_absent u.0) (is_absent w.0) (alike is_absent re_is_absent (leaves_at look x.naming) Plain t u.0 u.2) (alike is_absent re_is_absent (leaves_at look x.naming) Plain f w.0 w.2) h.3, worded look x c try_kind q.1, a.1, u.1, w.1, refl);
          directive = refl;
          quoted = λ p q. refl;
          same = record { so = λ n. three (a.2.so Plain) (u.2.so Plain) (w.2.so Plain) };
        };
      }
    where
      three : {a u b v d w : Tree} → a ≡ u → b ≡ v → d ≡ w → try_stmt no_place a b d ≡ try_stmt no_place u v w
      three p q r = ap₂ (λ (t : Tree × Tree) (e : Tree). try_stmt no_place t.0 t.1 e) (ap₂ (λ (t a : Tree). (t, a)) p q) r

      -- with no handler there is a `finally`
      no_second : (a b : Bool) → (a && b) ≡ false → a ≡ true → b ≡ false
      no_second true b e f = e
      no_second false b e f = absurd (true≢false (sym f))

      behind : (m o : Input) → ((is_absent t ≡ false) × (kind m ≡ catch_kind)) ⊎ ((is_absent t ≡ true) × (m ≡ o)) → (is_absent f ≡ false → kind o ≡ else_kind → ⊥) → kind m ≡ else_kind → ⊥
      behind m o (inl p) g e = catch_else (sym p.1 ∙ e)
      behind m o (inr p) g e = g (no_second (is_absent t) (is_absent f) h.3 p.0) (sym (ap kind p.1) ∙ e)
