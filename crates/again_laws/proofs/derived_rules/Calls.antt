-- Arguments and calls derived again (13.3.6, 13.3.7, 13.3.10).
use Rattle.std.proofs.Common.{Bool, None, Some, ap, ap₂, arith, codes, false, not, refl, subst, sym, true, true≢false, ◌&&◌, ◌∙◌, ◌≡◌}
use Rattle.base_token.specs.Kinds.{import_kind, left_paren_kind, right_paren_kind, super_kind}
use Rattle.base_token.specs.declared.place.Span.{Span}
use Rattle.tree_spec.specs.Places.{no_place}
use Rattle.tree_spec.specs.Tree.{Tree, Trees, call_expr, expr_or_spread, import, more, none, super}
use Rattle.grammar_spec.specs.Tokens.Input.{Code, Input, Takes, assigning, kind, lo, span, unplaced}
use Rattle.grammar_spec.specs.Tokens.Operators.{call_level}
use Rattle.grammar_spec.specs.Tokens.Shape.{is_chain, is_element, is_spread, level}
use Rattle.grammar_spec.specs.Expressions.{ArgumentList, Arguments, Call, ImportArguments, is_at_most_one, is_plain_element}
use Rattle.grammar_spec.specs.Grammar.{Produces, children}
use Rattle.grammar_spec.specs.Children.{By, IsEmpty, Listed, Sorted, is_module_item, child}
use Rattle.print_layout_spec.specs.Layout.{comma, in_parens, laid, separated}
use Rattle.print_layout_spec.specs.Looks.{text, ◌·◌}
use Rattle.print_layout_spec.specs.declared.look.Look.{Look}
use Rattle.print_layout_spec.specs.declared.look.Stand.{Stand}
use Rattle.print_layout_spec.specs.declared.look.Stand.TheVariants.{Alone, Head}
use Rattle.again_laws.specs.Tokens.Spacings.{Spacing, Touching}
use Rattle.again_laws.specs.Tokens.Lexicon.{Lexicon}
use Rattle.again_laws.specs.Tokens.Means.{Known}
use Rattle.again_laws.specs.Tokens.Told.{says}
use Rattle.again_laws.specs.Derived.Redo.{AllRedone, Headed, Leaves, Mode, Plain, redo, redos, kept_at}
use Rattle.again_laws.proofs.derived_rules.Naming.{leaves_at}
use Rattle.again_laws.proofs.derived_rules.Begins.{before, firm, is_part, led}
use Rattle.again_laws.proofs.derived_rules.Ends.{above}
use Rattle.again_laws.proofs.derived_rules.Follow.{closed_calm}
use Rattle.again_laws.proofs.derived_rules.Lists.{Gone, comma_on, listed, more_same, none_same, sorted}
use Rattle.again_laws.proofs.derived_rules.Shapes.{alike, re_is_chain, re_is_element}
use Rattle.again_laws.proofs.derived_rules.Sound.{AllSound, Out, Sound, expr, expr_begins, expr_head, full}
use Rattle.again_laws.proofs.derived_rules.Tokens.{keyed, marked, took, worded}
use Rattle.again_laws.proofs.derived_rules.CallHeads.{follow_head, no_seven, over_call}

pub element_plain : (t : Tree) → is_element t ≡ true → (is_part t ≡ true) × (is_module_item t ≡ false)
element_plain (expr_or_spread s d e) h = (refl, refl)
element_plain _ h = absurd (true≢false (sym h))

as_call : (s : Span) (f : Tree) (xs : Trees) (c : Code) (ts r : Input) → Call c s (child f (λ y. Produces f y)) (children xs) ts r → Produces (call_expr s f xs) c ts r
as_call s (super t) xs c ts r h = absurd (omega (arith, h.2.0))
as_call s (import t) xs c ts r h = absurd (omega (arith, h.2.0))
as_call s _ xs c ts r h = h

re_is_spread : (l : Leaves) (m : Mode) (t : Tree) → is_spread (redo l m t) ≡ is_spread t
re_is_spread l m (expr_or_spread s (Some d) e) = refl
re_is_spread l m (expr_or_spread s None e) = refl
re_is_spread l m _ = refl

-- what is asked of the arguments of `import`
re_plain : (l : Leaves) (m : Mode) (ts : Trees) → is_plain_element (children (redos l m ts)) ≡ is_plain_element (children ts)
re_plain l m none = refl
re_plain l m (more t ts) = ap₂ (λ (a b : Bool). not a && b) (re_is_spread l m t) (re_plain l m ts)

re_few : (l : Leaves) (m : Mode) (ts : Trees) → is_at_most_one (children (redos l m ts)) ≡ is_at_most_one (children ts)
re_few l m none = refl
re_few l m (more t none) = refl
re_few l m (more t (more u us)) = refl

plain_again : (l : Leaves) (m : Mode) (ts us : Trees) → AllRedone l m ts us → is_plain_element (children us) ≡ is_plain_element (children ts)
plain_again l m ts us s = sym (re_plain (kept_at l.written) Plain us) ∙ (ap (λ (v : Trees). is_plain_element (children v)) (s.so Plain) ∙ re_plain l m ts)

few_again : (l : Leaves) (m : Mode) (ts us : Trees) → AllRedone l m ts us → is_at_most_one (children us) ≡ is_at_most_one (children ts)
few_again l m ts us s = sym (re_few (kept_at l.written) Plain us) ∙ (ap (λ (v : Trees). is_at_most_one (children v)) (s.so Plain) ∙ re_few l m ts)

module _ (look : Look) (x : Lexicon look.style) where
  pub arguments_on : (c : Code) (xs : Trees) → AllSound look x.naming xs → (ts0 r0 : Input) → Listed false (Sorted is_element c) c right_paren_kind (children xs) ts0 r0 → Known ts0.places → (b : Spacing) (ts : Input) (K : Spacing → Input → Type 0)
      → ((d : Spacing) (m : Input) → K d m → kind m ≡ right_paren_kind) → says x.naming (separated look (comma look) xs) b ts K → Gone look x (Sorted is_element c) (Sorted is_element (unplaced c)) (sorted look x is_element re_is_element element_plain c) c right_paren_kind refl false xs r0 ts K
  arguments_on c xs a ts0 r0 h k b ts K peek q = listed look x _ _ _ c right_paren_kind refl (comma look) (comma_on look x) xs a ts0 r0 h k b ts K peek q

  pub call_on : (s : Span) (e : Tree) (xs : Trees) → Sound look x.naming Head e → AllSound look x.naming xs → (st : Stand) (c : Code) (ts0 r0 : Input) → Call c s (child e (λ y. Produces e y)) (children xs) ts0 r0 → Known ts0.places
      → (b : Spacing) (ts : Input) (K : Spacing → Input → Type 0) → says x.naming (full look st (call_expr s e xs)) b ts K → Out look x.naming st (call_expr s e xs) c ts0 r0 b ts K
  call_on s e xs f a st c ts0 r0 h k b ts K q =
      let y = expr look x.naming call_level Head e f (omega arith) c ts0 h.0 h.2 k b ts _ q in
      let p = y.more in
      let z = arguments_on c xs a h.3.0 r0 h.3.2 (x.later h.0 h.3.0 h.3.1.2 y.known) _ p.0 _ (λ d m o. marked look x right_paren_kind o.1) p.2 in
      let o = z.more in record {
        d = Touching;
        m = o.0;
        more = o.2;
        known = z.known;
        broke = y.broke;
        tight = λ e. refl;
        begins = before ts0 h.0 ts y.m r0 o.0 (λ l. absurd (firm e (over_call (level e) h.2.0) l)) (expr_begins look x.naming Head e (assigning c) ts0 h.0 b ts _ (above call_level (level e) (omega arith) h.2.0) y) (marked look x left_paren_kind p.1 ∙ sym h.3.1.0) (λ i. no_seven (sym (marked look x left_paren_kind p.1) ∙ i));
        again = λ g. let u = y.again (follow_head e h.0 y.m (over_call (level e) h.2.0) (marked look x left_paren_kind p.1)) in let w = z.again o.0 (took look x c right_paren_kind o.1) in
            let v = expr_head look x.naming call_level e c ts y.m h.2.0 u in record {
              tree = call_expr (span (lo ts) o.0.last) u.tree w.0;
              produced = as_call (span (lo ts) o.0.last) u.tree w.0 (unplaced c) ts o.0 (y.m, alike is_chain re_is_chain (leaves_at look x.naming) Headed e u.tree u.same ∙ h.1, v, (p.0, took look x c left_paren_kind p.1, w.1), refl);
              directive = refl;
              quoted = λ p q. refl;
              same = record { so = λ n. ap₂ (λ (t : Tree) (us : Trees). call_expr no_place t us) (u.same.so Headed) (w.2.so Plain) };
            };
      }

  -- arguments in their parentheses
  pub record Passed (xs : Trees) (c : Code) (r0 : Input) (ts : Input) (K : Spacing → Input → Type 0) : Type 0 where
    pub m : Input
    pub more : K Touching m
    pub known : Known r0.places
    pub lead : kind ts ≡ left_paren_kind
    pub again : (us : Trees) × Arguments (unplaced c) (children us) ts m × AllRedone (leaves_at look x.naming) Plain xs us

  pub passed_on : (xs : Trees) → AllSound look x.naming xs → (c : Code) (ts0 r0 : Input) → Arguments c (children xs) ts0 r0 → Known ts0.places → (b : Spacing) (ts : Input) (K : Spacing → Input → Type 0) → says x.naming (in_parens (separated look (comma look) xs)) b ts K → Passed xs c r0 ts K
  passed_on xs a c ts0 r0 h l b ts K q =
      let z = arguments_on c xs a h.0 r0 h.2 (x.later ts0 h.0 h.1.2 l) Touching q.0 _ (λ d m o. marked look x right_paren_kind o.1) q.2 in
      let o = z.more in let w = z.again o.0 (took look x c right_paren_kind o.1) in
      record { m = o.0; more = o.2; known = z.known; lead = marked look x left_paren_kind q.1; again = (w.0, (q.0, took look x c left_paren_kind q.1, w.1), w.2) }

  pub super_call : (s t : Span) (xs : Trees) → AllSound look x.naming xs → (st : Stand) → Sound look x.naming st (call_expr s (super t) xs)
  super_call s t xs a st c ts0 r0 h k b ts K q =
      let z = passed_on xs a c h.0 r0 h.3 (x.later ts0 h.0 h.1.3 k) Touching q.0 K q.2 in record {
        d = Touching;
        m = z.m;
        more = z.more;
        known = z.known;
        broke = q.1.broke;
        tight = λ e. refl;
        begins = led ts0 r0 ts z.m super_kind h.1.0 (keyed look x super_kind q.1) refl;
        again = λ g. record {
          tree = call_expr (span (lo ts) z.m.last) (super (span (lo ts) q.0.last)) z.again.0;
          produced = (q.0, worded look x c super_kind q.1, refl, z.again.1, refl);
          directive = refl;
          quoted = λ p q. refl;
          same = record { so = λ n. ap (λ (us : Trees). call_expr no_place (super no_place) us) (z.again.2.so Plain) };
        };
      }

  -- ---- `import` as a call

  record Imported (xs : Trees) (c : Code) (r0 : Input) (ts : Input) (K : Spacing → Input → Type 0) : Type 0 where
    m : Input
    more : K Touching m
    known : Known r0.places
    again : (us : Trees) × ImportArguments (unplaced c) (children us) ts m × AllRedone (leaves_at look x.naming) Plain xs us

  -- with import attributes a list of one or two
  several_on : (t : Tree) (ts' : Trees) → AllSound look x.naming (more t ts') → (c : Code) → c.syntax.import_attributes ≡ true → is_plain_element (children (more t ts')) ≡ true → is_at_most_one (children ts') ≡ true → (ts0 r0 : Input) → ArgumentList c (children (more t ts')) ts0 r0 → Known ts0.places
      → (b : Spacing) (ts : Input) (K : Spacing → Input → Type 0) → says x.naming (separated look (comma look) (more t ts') · text (codes ")")) b ts K → Imported (more t ts') c r0 ts K
  several_on t ts' a c e p i ts0 r0 h l b ts K q =
      let z = arguments_on c (more t ts') a ts0 r0 h l b ts _ (λ d m o. marked look x right_paren_kind o.1) q in
      let o = z.more in let w = z.again o.0 (took look x c right_paren_kind o.1) in
      record { m = o.0; more = o.2; known = z.known; again = (w.0, as_import w.0 ts o.0 w.1 w.2, w.2) }
    where
      none_more : (ts : Trees) (t : Tree) → none ≡ more t ts → ⊥
      none_more ts t e = cc

      tail_same : (u : Tree) (us : Trees) → AllRedone (leaves_at look x.naming) Plain (more t ts') (more u us) → AllRedone (leaves_at look x.naming) Plain ts' us
      tail_same u us s = record { so = λ n. ap tail_of (s.so n) }
        where
          tail_of : Trees → Trees
          tail_of none = none
          tail_of (more t ts) = ts

      as_import : (us : Trees) (m n : Input) → ArgumentList (unplaced c) (children us) m n → AllRedone (leaves_at look x.naming) Plain (more t ts') us → ImportArguments (unplaced c) (children us) m n
      as_import none m n g s = absurd (none_more (redos (leaves_at look x.naming) Plain ts') (redo (leaves_at look x.naming) Plain t) (s.so Plain))
      as_import (more u us) m n g s = (
        plain_again (leaves_at look x.naming) Plain (more t ts') (more u us) s ∙ p,
        subst (λ (v : Bool). By v ((is_at_most_one (children us) ≡ true) × ArgumentList (unplaced c) (children (more u us)) m n) (IsEmpty (children us) × (o : Input) × Sorted is_element (unplaced c) (child u (λ y. Produces u y)) m o × Takes (unplaced c) right_paren_kind o n)) (sym e)
            (few_again (leaves_at look x.naming) Plain ts' us (tail_same u us s) ∙ i, g),
      )

  -- without them one, and no comma
  single_on : (t : Tree) → Sound look x.naming Alone t → (c : Code) → c.syntax.import_attributes ≡ false → is_plain_element (children (more t none)) ≡ true → (ts0 m0 r0 : Input) → Sorted is_element c (child t (λ y. Produces t y)) ts0 m0 → Takes c right_paren_kind m0 r0 → Known ts0.places
      → (b : Spacing) (ts : Input) (K : Spacing → Input → Type 0) → says x.naming (laid look Alone t · text (codes ")")) b ts K → Imported (more t none) c r0 ts K
  single_on t f c e p ts0 m0 r0 h g l b ts K q =
      let z = sorted look x is_element re_is_element element_plain c t f ts0 m0 h l b ts _ q in
      let o = z.more in let w = z.again (closed_calm z.m right_paren_kind (marked look x right_paren_kind o.1) refl) in
      let s = more_same (leaves_at look x.naming) Plain t w.0 none none w.2 (none_same (leaves_at look x.naming)) in record {
        m = o.0;
        more = o.2;
        known = x.later m0 r0 g.2 z.known;
        again = (
          more w.0 none,
          (
            plain_again (leaves_at look x.naming) Plain (more t none) (more w.0 none) s ∙ p,
            subst (λ (v : Bool). By v ((true ≡ true) × ArgumentList (unplaced c) (children (more w.0 none)) ts o.0) (Unit {0} × (n : Input) × Sorted is_element (unplaced c) (child w.0 (λ y. Produces w.0 y)) ts n × Takes (unplaced c) right_paren_kind n o.0)) (sym e)
                (tt, z.m, w.1, took look x c right_paren_kind o.1),
          ),
          s,
        );
      }

  imported_on : (v : Bool) (xs : Trees) → AllSound look x.naming xs → (c : Code) → c.syntax.import_attributes ≡ v → (ts0 r0 : Input) → ImportArguments c (children xs) ts0 r0 → Known ts0.places → (b : Spacing) (ts : Input) (K : Spacing → Input → Type 0)
      → says x.naming (separated look (comma look) xs · text (codes ")")) b ts K → Imported xs c r0 ts K
  imported_on v none a c e ts0 r0 h l b ts K q = absurd h
  imported_on true (more t us) a c e ts0 r0 h l b ts K q =
      let g = subst (λ (v : Bool). By v ((is_at_most_one (children us) ≡ true) × ArgumentList c (children (more t us)) ts0 r0) (IsEmpty (children us) × (m : Input) × Sorted is_element c (child t (λ y. Produces t y)) ts0 m × Takes c right_paren_kind m r0)) e h.1 in
      several_on t us a c e h.0 g.0 ts0 r0 g.1 l b ts K q
  imported_on false (more t none) a c e ts0 r0 h l b ts K q =
      let g = subst (λ (v : Bool). By v ((true ≡ true) × ArgumentList c (children (more t none)) ts0 r0) (Unit {0} × (m : Input) × Sorted is_element c (child t (λ y. Produces t y)) ts0 m × Takes c right_paren_kind m r0)) e h.1 in
      single_on t a.0 c e h.0 ts0 g.1 r0 g.2 g.3 l b ts K q
  imported_on false (more t (more u us)) a c e ts0 r0 h l b ts K q =
      absurd (subst (λ (v : Bool). By v ((is_at_most_one (children (more u us)) ≡ true) × ArgumentList c (children (more t (more u us))) ts0 r0) (⊥ × (m : Input) × Sorted is_element c (child t (λ y. Produces t y)) ts0 m × Takes c right_paren_kind m r0)) e h.1).0

  pub import_call : (s t : Span) (xs : Trees) → AllSound look x.naming xs → (st : Stand) → Sound look x.naming st (call_expr s (import t) xs)
  import_call s t xs a st c ts0 r0 h k b ts K q =
      let p = q.2 in
      let z = imported_on c.syntax.import_attributes xs a c refl h.1 r0 h.5 (x.later h.0 h.1 h.4.2 (x.later ts0 h.0 h.2.3 k)) Touching p.0 K p.2 in record {
        d = Touching;
        m = z.m;
        more = z.more;
        known = z.known;
        broke = q.1.broke;
        tight = λ e. refl;
        begins = led ts0 r0 ts z.m import_kind h.2.0 (keyed look x import_kind q.1) refl;
        again = λ g. record {
          tree = call_expr (span (lo ts) z.m.last) (import (span (lo ts) q.0.last)) z.again.0;
          produced = (q.0, p.0, worded look x c import_kind q.1, refl, took look x c left_paren_kind p.1, z.again.1, refl);
          directive = refl;
          quoted = λ p q. refl;
          same = record { so = λ n. ap (λ (us : Trees). call_expr no_place (import no_place) us) (z.again.2.so Plain) };
        };
      }
