-- Lists derived again: with commas between items, and with commas and holes up to what closes the list.
use Rattle.std.proofs.Common.{Bool, [], ap, ap₂, arith, false, inl, inr, refl, subst, sym, true, true≢false, ℕ, ◌&&◌, ◌∙◌, ◌≡◌, ◌≤◌, ◌⊎◌}
use Rattle.base_token.specs.Kinds.{comma_kind, function_kind}
use Rattle.lex_token.specs.declared.goal.LexicalGoal.TheVariants.{Div}
use Rattle.tree_spec.specs.Tree.{Tree, Trees, hole, more, none}
use Rattle.grammar_spec.specs.Tokens.Input.{Code, Input, Takes, kind, unplaced}
use Rattle.grammar_spec.specs.Tokens.Shape.{is_hole, is_rest, level}
use Rattle.grammar_spec.specs.Grammar.{Produces, children}
use Rattle.grammar_spec.specs.Children.{By, CommaThen, Expr, IsEmpty, Listed, Child, Sorted, is_module_item, child}
use Rattle.print_layout_spec.specs.Layout.{comma, comma_line, ends_with_hole, laid, separated}
use Rattle.print_layout_spec.specs.Looks.{Laid, both, formats, when}
use Rattle.print_layout_spec.specs.declared.look.Look.{Look}
use Rattle.print_layout_spec.specs.declared.look.Stand.TheVariants.{Alone}
use Rattle.again_laws.specs.Tokens.Spacings.{Spacing, Touching}
use Rattle.again_laws.specs.Tokens.Lexicon.{Lexicon}
use Rattle.again_laws.specs.Tokens.Means.{Known}
use Rattle.again_laws.specs.Tokens.Texts.{mark_text}
use Rattle.again_laws.specs.Tokens.Told.{Breaks, Told, says}
use Rattle.again_laws.specs.Derived.Redo.{AllRedone, Leaves, Mode, Plain, Redone, redo}
use Rattle.again_laws.proofs.derived_rules.Naming.{leaves_at}
use Rattle.again_laws.proofs.derived_rules.Begins.{Starts, is_loose, is_part, is_weak, starts_on}
use Rattle.again_laws.proofs.derived_rules.Follow.{calm, closed_calm, closes, no_item}
use Rattle.again_laws.proofs.derived_rules.Shapes.{alike, re_is_hole, re_is_rest}
use Rattle.again_laws.proofs.derived_rules.Sound.{AllSound, Sound, expr, expr_low, plain_part, tight_of}
use Rattle.again_laws.proofs.derived_rules.Tokens.{gapped, marked, skip, skip_line, took}

pub none_same : (l : Leaves) → AllRedone l Plain none none
none_same l = record { so = λ n. refl }

pub more_same : (l : Leaves) (m : Mode) (t u : Tree) (ts us : Trees) → Redone l m t u → AllRedone l m ts us → AllRedone l m (more t ts) (more u us)
more_same l m t u ts us s a = record { so = λ n. ap₂ (λ (x : Tree) (xs : Trees). more x xs) (s.so n) (a.so n) }

comma_no_function : comma_kind ≡ function_kind → ⊥
comma_no_function e = omega arith

hole_same : (l : Leaves) (ts us : Trees) → AllRedone l Plain ts us → AllRedone l Plain (more hole ts) (more hole us)
hole_same l ts us a = record { so = λ n. ap (λ (xs : Trees). more hole xs) (a.so n) }

unhole : (v w : Bool) (A B : Type 0) → w ≡ false → B → By (v && w) A B
unhole true true A B e h = absurd (true≢false e)
unhole true false A B e h = h
unhole false w A B e h = h

module _ (look : Look) (x : Lexicon look.style) where
  -- a comma, and what says no token
  abbrev pub IsComma : Laid → Type 1
  IsComma f = (b : Spacing) (ts : Input) (K : Spacing → Input → Type 0) → says x.naming f b ts K → (m : Input) × Told x.naming Div (mark_text comma_kind) b ts m × ((d : Spacing) × K d m)

  pub comma_on : IsComma (comma look)
  comma_on b ts K q = (q.0, q.1, (gapped (formats look) Touching, skip x.naming (formats look) Touching q.0 K q.2))

  pub comma_line_on : IsComma (comma_line look)
  comma_line_on b ts K q = (q.0, q.1, skip_line x.naming (formats look) Touching q.0 K q.2)

  -- an item of a list, derived again by a relation
  pub record Got (Q : Child → Input → Input → Type 0) (t : Tree) (ts0 r0 : Input) (b : Spacing) (ts : Input) (K : Spacing → Input → Type 0) : Type 0 where
    pub d : Spacing
    pub m : Input
    pub more : K d m
    pub known : Known r0.places
    pub broke : Breaks x.naming b ts
    pub tight : 1 ≤ level t → d ≡ Touching
    pub begins : Starts (is_weak t) (is_loose t) ts0 r0 ts m
    pub again : calm m ≡ true → (u : Tree) × Q (child u (λ y. Produces u y)) ts m × Redone (leaves_at look x.naming) Plain t u

  abbrev pub Each : (Child → Input → Input → Type 0) → (Child → Input → Input → Type 0) → Type 1
  Each P Q = (t : Tree) → Sound look x.naming Alone t → (ts0 r0 : Input) → P (child t (λ y. Produces t y)) ts0 r0 → Known ts0.places → (b : Spacing) (ts : Input) (K : Spacing → Input → Type 0)
      → says x.naming (laid look Alone t) b ts K → Got Q t ts0 r0 b ts K

  -- of a sort
  pub sorted : (is_sort : Tree → Bool) → ((l : Leaves) (m : Mode) (t : Tree) → is_sort (redo l m t) ≡ is_sort t) → ((t : Tree) → is_sort t ≡ true → (is_part t ≡ true) × (is_module_item t ≡ false)) → (c : Code) → Each (Sorted is_sort c) (Sorted is_sort (unplaced c))
  sorted is_sort re nv c t f ts0 r0 h k b ts K q =
      let z = plain_part look x.naming Alone t f (nv t h.0).0 c ts0 r0 h.1 k b ts K q in record {
        d = z.d;
        m = z.m;
        more = z.more;
        known = z.known;
        begins = z.begins;
        broke = z.broke;
        tight = λ i. z.tight (tight_of t i);
        again = λ g. let w = z.again (record { quiet = λ e. g; other = λ i. absurd (true≢false (sym i ∙ (nv t h.0).1)) }) in (w.tree, (alike is_sort re (leaves_at look x.naming) Plain t w.tree w.same ∙ h.0, w.produced), w.same);
      }

  -- expressions of a level
  pub exprs : (l : ℕ) → 1 ≤ l → l ≤ 18 → (c : Code) → Each (Expr l c) (Expr l (unplaced c))
  exprs l i j c t f ts0 r0 h k b ts K q =
      let z = expr look x.naming l Alone t f i c ts0 r0 h k b ts K q in let n : 1 ≤ level t = omega (arith, i, h.0) in record {
        d = z.d;
        m = z.m;
        more = z.more;
        known = z.known;
        broke = z.broke;
        tight = λ e. z.tight (tight_of t n);
        begins = z.begins;
        again = λ g. let w = z.again (record { quiet = λ e. g; other = λ e. absurd (no_item t n e) }) in (w.tree, expr_low look x.naming l Alone t c ts z.m h.0 j w, w.same);
      }

  -- ---- items with commas between them

  module _ (P Q : Child → Input → Input → Type 0) (f : Each P Q) (c : Code) where
    pub record Ran (t : Tree) (xs : Trees) (ts0 r0 : Input) (b : Spacing) (ts : Input) (K : Spacing → Input → Type 0) : Type 0 where
      pub d : Spacing
      pub m : Input
      pub more : K d m
      pub known : Known r0.places
      pub broke : Breaks x.naming b ts
      pub tight : ((v : Tree) (m n : Input) → P (child v (λ y. Produces v y)) m n → 1 ≤ level v) → d ≡ Touching
      pub begins : Starts (is_weak t) (is_loose t) ts0 r0 ts m
      pub again : calm m ≡ true → (u : Tree) × (us : Trees) × (n : Input) × Q (child u (λ y. Produces u y)) ts n × CommaThen Q (unplaced c) (children us) n m × Redone (leaves_at look x.naming) Plain t u × AllRedone (leaves_at look x.naming) Plain xs us

    pub run : (t : Tree) (xs : Trees) → Sound look x.naming Alone t → AllSound look x.naming xs → (ts0 n0 r0 : Input) → P (child t (λ y. Produces t y)) ts0 n0 → CommaThen P c (children xs) n0 r0 → Known ts0.places → (b : Spacing) (ts : Input) (K : Spacing → Input → Type 0)
        → says x.naming (separated look (comma look) (more t xs)) b ts K → Ran t xs ts0 r0 b ts K
    run t none g a ts0 n0 r0 h e k b ts K q =
        let z = f t g ts0 n0 h k b ts K q in record {
          d = z.d;
          m = z.m;
          more = z.more;
          known = subst (λ (i : Input). Known i.places) e z.known;
          broke = z.broke;
          tight = λ l. z.tight (l t ts0 n0 h);
          begins = subst (λ (i : Input). Starts (is_weak t) (is_loose t) ts0 i ts z.m) e z.begins;
          again = λ g. let w = z.again g in (w.0, none, z.m, w.1, refl, w.2, none_same (leaves_at look x.naming));
        }
    run t (more u us) g a ts0 n0 r0 h e k b ts K q =
        let z = f t g ts0 n0 h k b ts _ q in
        let y = z.more in
        let v = run u us a.0 a.1 e.0 e.1 r0 e.3 e.4 (x.later n0 e.0 e.2.2 z.known) _ y.0 K (skip x.naming (formats look) _ _ _ y.2) in
        let j = marked look x comma_kind y.1 in record {
          d = v.d;
          m = v.m;
          more = v.more;
          known = v.known;
          broke = z.broke;
          tight = v.tight;
          begins = starts_on (is_weak t) (is_loose t) ts0 n0 ts z.m r0 v.m z.begins (j ∙ sym e.2.0) (λ i. comma_no_function (sym j ∙ i));
          again = λ g. let w = z.again (closed_calm z.m comma_kind j refl) in let o = v.again g in
              (w.0, more o.0 o.1, z.m, w.1, (y.0, o.2, took look x c comma_kind y.1, o.3, o.4), w.2, more_same (leaves_at look x.naming) Plain u o.0 us o.1 o.5 o.6);
        }

  module _ (P Q : Child → Input → Input → Type 0) (f : Each P Q) (c : Code) (close : ℕ) (closing : closes close ≡ true) where
    pub record Gone (holes : Bool) (xs : Trees) (r0 : Input) (ts : Input) (K : Spacing → Input → Type 0) : Type 0 where
      pub d : Spacing
      pub m : Input
      pub more : K d m
      pub known : Known r0.places
      pub again : (r : Input) → Takes (unplaced c) close m r → (us : Trees) × Listed holes Q (unplaced c) close (children us) ts r × AllRedone (leaves_at look x.naming) Plain xs us

    -- after an item
    abbrev After : Tree → Trees → Input → Input → Type 0
    After t xs m r = ((is_rest t ≡ false) × (n : Input) × Takes c comma_kind m n × Listed false P c close (children xs) n r) ⊎ (IsEmpty (children xs) × Takes c close m r)

    last_known : (t : Tree) (m r : Input) → After t none m r → Known m.places → Known r.places
    last_known t m r (inl h) k = x.later h.1 r h.3.2 (x.later m h.1 h.2.2 k)
    last_known t m r (inr h) k = x.later m r h.1.2 k

    later_known : (t u : Tree) (us : Trees) (m r : Input) → After t (more u us) m r → (is_rest t ≡ false) × (n : Input) × Takes c comma_kind m n × Listed false P c close (children (more u us)) n r
    later_known t u us m r (inl h) = h
    later_known t u us m r (inr h) = absurd h.0

    pub listed : (between : Laid) → IsComma between → (xs : Trees) → AllSound look x.naming xs → (ts0 r0 : Input) → Listed false P c close (children xs) ts0 r0 → Known ts0.places → (b : Spacing) (ts : Input) (K : Spacing → Input → Type 0)
        → ((d : Spacing) (m : Input) → K d m → kind m ≡ close) → says x.naming (separated look between xs) b ts K → Gone false xs r0 ts K
    listed between co none a ts0 r0 h k b ts K peek q = record { d = b; m = ts; more = q; known = x.later ts0 r0 h.2 k; again = λ r t. (none, t, none_same (leaves_at look x.naming)) }
    listed between co (more t none) a ts0 r0 h k b ts K peek q =
        let z = f t a.0 ts0 h.0 h.1 k b ts K q in record {
          d = z.d;
          m = z.m;
          more = z.more;
          known = last_known t h.0 r0 h.2 z.known;
          again = λ r tk. let w = z.again (closed_calm z.m close (peek z.d z.m z.more) closing) in
              (more w.0 none, (z.m, w.1, inr (tt, tk)), more_same (leaves_at look x.naming) Plain t w.0 none none w.2 (none_same (leaves_at look x.naming)));
        }
    listed between co (more t (more u us)) a ts0 r0 h k b ts K peek q =
        let z = f t a.0 ts0 h.0 h.1 k b ts _ q in
        let e = later_known t u us h.0 r0 h.2 in
        let y = co z.d z.m _ z.more in
        let v = listed between co (more u us) a.1 e.1 r0 e.3 (x.later h.0 e.1 e.2.2 z.known) y.2.0 y.0 K peek y.2.1 in record {
          d = v.d;
          m = v.m;
          more = v.more;
          known = v.known;
          again = λ r tk. let w = z.again (closed_calm z.m comma_kind (marked look x comma_kind y.1) refl) in let o = v.again r tk in (
            more w.0 o.0,
            (z.m, w.1, inl (alike is_rest re_is_rest (leaves_at look x.naming) Plain t w.0 w.2 ∙ e.0, y.0, took look x c comma_kind y.1, o.1)),
            more_same (leaves_at look x.naming) Plain t w.0 (more u us) o.0 w.2 o.2,
          );
        }

    -- ---- where holes may stand

    last_item : (t : Tree) → Sound look x.naming Alone t → (ts0 r0 : Input) → ((m : Input) × P (child t (λ y. Produces t y)) ts0 m × (((is_rest t ≡ false) × (n : Input) × Takes c comma_kind m n × Listed true P c close [] n r0) ⊎ (Unit {0} × Takes c close m r0)))
        → is_hole t ≡ false → Known ts0.places → (b : Spacing) (ts : Input) (K : Spacing → Input → Type 0) → ((d : Spacing) (m : Input) → K d m → kind m ≡ close) → says x.naming (laid look Alone t) b ts K → Gone true (more t none) r0 ts K
    last_item t g ts0 r0 h i k b ts K peek q =
        let z = f t g ts0 h.0 h.1 k b ts K q in record {
          d = z.d;
          m = z.m;
          more = z.more;
          known = known h.0 h.2 z.known;
          again = λ r tk. let w = z.again (closed_calm z.m close (peek z.d z.m z.more) closing) in
              (more w.0 none, unhole true (is_hole w.0) _ _ (alike is_hole re_is_hole (leaves_at look x.naming) Plain t w.0 w.2 ∙ i) (z.m, w.1, inr (tt, tk)), more_same (leaves_at look x.naming) Plain t w.0 none none w.2 (none_same (leaves_at look x.naming)));
        }
      where
        known : (m : Input) → ((is_rest t ≡ false) × (n : Input) × Takes c comma_kind m n × Listed true P c close [] n r0) ⊎ (Unit {0} × Takes c close m r0) → Known m.places → Known r0.places
        known m (inl h) k = x.later h.1 r0 h.3.2 (x.later m h.1 h.2.2 k)
        known m (inr h) k = x.later m r0 h.1.2 k

    more_item : (between : Laid) → IsComma between → (t u : Tree) (us : Trees) → Sound look x.naming Alone t → (ts0 r0 : Input)
        → ((m : Input) × P (child t (λ y. Produces t y)) ts0 m × (((is_rest t ≡ false) × (n : Input) × Takes c comma_kind m n × Listed true P c close (children (more u us)) n r0) ⊎ (⊥ × Takes c close m r0)))
        → is_hole t ≡ false → Known ts0.places → (b : Spacing) (ts : Input) (K : Spacing → Input → Type 0)
        → ((n : Input) → Listed true P c close (children (more u us)) n r0 → Known n.places → (d : Spacing) (m : Input) → says x.naming (both (separated look between (more u us)) (when (ends_with_hole (more u us)) (comma look))) d m K → Gone true (more u us) r0 m K)
        → says x.naming (both (both (laid look Alone t) (both between (separated look between (more u us)))) (when (ends_with_hole (more u us)) (comma look))) b ts K → Gone true (more t (more u us)) r0 ts K
    more_item between co t u us g ts0 r0 h i k b ts K ih q =
        let z = f t g ts0 h.0 h.1 k b ts _ q in
        let e = going h.0 h.2 in
        let y = co z.d z.m _ z.more in
        let v = ih e.1 e.3 (x.later h.0 e.1 e.2.2 z.known) y.2.0 y.0 y.2.1 in record {
          d = v.d;
          m = v.m;
          more = v.more;
          known = v.known;
          again = λ r tk. let w = z.again (closed_calm z.m comma_kind (marked look x comma_kind y.1) refl) in let o = v.again r tk in (
            more w.0 o.0,
            unhole true (is_hole w.0) _ _ (alike is_hole re_is_hole (leaves_at look x.naming) Plain t w.0 w.2 ∙ i) (z.m, w.1, inl (alike is_rest re_is_rest (leaves_at look x.naming) Plain t w.0 w.2 ∙ e.0, y.0, took look x c comma_kind y.1, o.1)),
            more_same (leaves_at look x.naming) Plain t w.0 (more u us) o.0 w.2 o.2,
          );
        }
      where
        going : (m : Input) → ((is_rest t ≡ false) × (n : Input) × Takes c comma_kind m n × Listed true P c close (children (more u us)) n r0) ⊎ (⊥ × Takes c close m r0) → (is_rest t ≡ false) × (n : Input) × Takes c comma_kind m n × Listed true P c close (children (more u us)) n r0
        going m (inl h) = h
        going m (inr h) = absurd h.0

    pub holed : (between : Laid) → IsComma between → (xs : Trees) → AllSound look x.naming xs → (ts0 r0 : Input) → Listed true P c close (children xs) ts0 r0 → Known ts0.places → (b : Spacing) (ts : Input) (K : Spacing → Input → Type 0)
        → ((d : Spacing) (m : Input) → K d m → kind m ≡ close) → says x.naming (both (separated look between xs) (when (ends_with_hole xs) (comma look))) b ts K → Gone true xs r0 ts K
    holed between co none a ts0 r0 h k b ts K peek q = record { d = b; m = ts; more = q; known = x.later ts0 r0 h.2 k; again = λ r t. (none, t, none_same (leaves_at look x.naming)) }
    holed between co (more hole none) a ts0 r0 h k b ts K peek q =
        let y = comma_on b ts _ q in record {
          d = y.2.0;
          m = y.0;
          more = y.2.1;
          known = x.later h.0 r0 h.2.2 (x.later ts0 h.0 h.1.2 k);
          again = λ r tk. (more hole none, (y.0, took look x c comma_kind y.1, tk), hole_same (leaves_at look x.naming) none none (none_same (leaves_at look x.naming)));
        }
    holed between co (more hole (more u us)) a ts0 r0 h k b ts K peek q =
        let y = co b ts _ q in
        let v = holed between co (more u us) a.1 h.0 r0 h.2 (x.later ts0 h.0 h.1.2 k) y.2.0 y.0 K peek y.2.1 in record {
          d = v.d;
          m = v.m;
          more = v.more;
          known = v.known;
          again = λ r tk. let o = v.again r tk in (more hole o.0, (y.0, took look x c comma_kind y.1, o.1), hole_same (leaves_at look x.naming) (more u us) o.0 o.2);
        }
    holed between co (more t none) a ts0 r0 h k b ts K peek q = last_item t a.0 ts0 r0 h refl k b ts K peek q
    holed between co (more t (more u us)) a ts0 r0 h k b ts K peek q = more_item between co t u us a.0 ts0 r0 h refl k b ts K (λ n l i d m j. holed between co (more u us) a.1 n r0 l i d m K peek j) q
