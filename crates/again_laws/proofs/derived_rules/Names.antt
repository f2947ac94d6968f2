-- Names derived again, as of functions, classes, labels and imports (13.1).
use Rattle.std.proofs.Common.{Bool, ap, false, not, refl, subst, sym, true, true≢false, ◌∙◌, ◌≡◌}
use Rattle.base_token.specs.Kinds.{else_kind}
use Rattle.base_token.specs.declared.place.Span.{Span}
use Rattle.tree_spec.specs.Tree.{Tree, absent, ident}
use Rattle.grammar_spec.specs.Tokens.Input.{Code, Input, kind, lo, span, unplaced}
use Rattle.grammar_spec.specs.Tokens.Shape.{is_absent}
use Rattle.grammar_spec.specs.Grammar.{Produces}
use Rattle.grammar_spec.specs.Children.{By, Sorted, is_ident, child}
use Rattle.grammar_laws.proofs.Covers.{by_no}
use Rattle.print_layout_spec.specs.Layout.{laid}
use Rattle.print_layout_spec.specs.Looks.{blank, when, ◌·◌}
use Rattle.print_layout_spec.specs.declared.look.Look.{Look}
use Rattle.print_layout_spec.specs.declared.look.Stand.TheVariants.{Alone}
use Rattle.again_laws.specs.Tokens.Spacings.{Spacing, Touching}
use Rattle.again_laws.specs.Tokens.Lexicon.{Lexicon}
use Rattle.again_laws.specs.Tokens.Means.{Known}
use Rattle.again_laws.specs.Tokens.Told.{Breaks, says}
use Rattle.again_laws.specs.Derived.Redo.{Plain, Redone}
use Rattle.again_laws.proofs.derived_rules.Naming.{leaves_at}
use Rattle.again_laws.proofs.derived_rules.Ends.{absent_same}
use Rattle.again_laws.proofs.derived_rules.Shapes.{alike, re_is_absent}
use Rattle.again_laws.proofs.derived_rules.Tokens.{named}

module _ (look : Look) (x : Lexicon look.style) where
  pub record Name (i : Tree) (c : Code) (ts0 r0 : Input) (b : Spacing) (ts : Input) (K : Spacing → Input → Type 0) : Type 0 where
    pub m : Input
    pub more : K Touching m
    pub known : Known r0.places
    pub broke : Breaks x.naming b ts
    pub first : kind ts ≡ else_kind → kind ts0 ≡ else_kind
    pub again : (u : Tree) × Sorted is_ident (unplaced c) (child u (λ y. Produces u y)) ts m × Redone (leaves_at look x.naming) Plain i u

  pub id_on : (i : Tree) (c : Code) (ts0 r0 : Input) → Sorted is_ident c (child i (λ y. Produces i y)) ts0 r0 → Known ts0.places → (b : Spacing) (ts : Input) (K : Spacing → Input → Type 0) → says x.naming (laid look Alone i) b ts K → Name i c ts0 r0 b ts K
  id_on (ident t n) c ts0 r0 h k b ts K q =
      let z = named look x c n ts0 r0 ts q.0 h.1.0 k q.1.told in record {
        m = q.0;
        more = q.2;
        known = x.later ts0 r0 h.1.0.5 k;
        broke = q.1.told.broke;
        first = λ e. sym z.0 ∙ e;
        again = (ident (span (lo ts) q.0.last) n, (refl, (z.1, refl)), record { so = λ m. ap (λ (s : Span). ident s n) q.1.stands });
      }
  id_on _ c ts0 r0 h k b ts K q = absurd (true≢false (sym h.0))

  pub record Maybe_name (i : Tree) (c : Code) (r0 : Input) (ts : Input) (K : Spacing → Input → Type 0) : Type 0 where
    pub d : Spacing
    pub m : Input
    pub more : K d m
    pub known : Known r0.places
    pub again : (u : Tree) × By (is_absent u) (ts ≡ m) (Sorted is_ident (unplaced c) (child u (λ y. Produces u y)) ts m) × Redone (leaves_at look x.naming) Plain i u

  pub maybe_on : (i : Tree) (c : Code) (v : Bool) → is_absent i ≡ v → (ts0 r0 : Input) → By v (ts0 ≡ r0) (Sorted is_ident c (child i (λ y. Produces i y)) ts0 r0) → Known ts0.places → (b : Spacing) (ts : Input) (K : Spacing → Input → Type 0) → says x.naming (when (not v) (blank · laid look Alone i)) b ts K → Maybe_name i c r0 ts K
  maybe_on i c true e ts0 r0 h k b ts K q = record { d = b; m = ts; more = q; known = subst (λ (i : Input). Known i.places) h k; again = (absent, refl, absent_same (leaves_at look x.naming) Plain i e) }
  maybe_on i c false e ts0 r0 h k b ts K q = let z = id_on i c ts0 r0 h k _ ts K q in record {
    d = Touching;
    m = z.m;
    more = z.more;
    known = z.known;
    again = (z.again.0, by_no (is_absent z.again.0) _ _ (alike is_absent re_is_absent (leaves_at look x.naming) Plain i z.again.0 z.again.2 ∙ e) z.again.1, z.again.2);
  }
