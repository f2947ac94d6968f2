-- `if` derived again: without `else` no `else` follows (14.6).
use Rattle.std.proofs.Common.{Bool, ap, ap₂, arith, codes, false, not, refl, subst, sym, true, true≢false, ⊎_elim, ◌&&◌, ◌||◌, ◌∙◌, ◌≡◌}
use Rattle.std.proofs.lemmas.Bool.{and_parts, or_cases, or_left}
use Rattle.base_token.specs.Kinds.{else_kind, if_kind}
use Rattle.base_token.specs.declared.place.Span.{Span}
use Rattle.tree_spec.specs.Places.{no_place}
use Rattle.tree_spec.specs.Tree.{Tree, absent, fn_decl, if_stmt}
use Rattle.grammar_spec.specs.Tokens.Input.{Code, Input, TakesWord, alone, is_strict, kind, lo, span, unplaced}
use Rattle.grammar_spec.specs.Tokens.Shape.{is_absent, is_item, is_plain_function, is_statement}
use Rattle.grammar_spec.specs.Grammar.{Produces}
use Rattle.grammar_spec.specs.Children.{By, child}
use Rattle.grammar_spec.specs.Statements.{SubOrFunction}
use Rattle.grammar_laws.proofs.Covers.{by_no}
use Rattle.print_gaps.specs.Edges.{is_there, starts_with_word}
use Rattle.print_layout_spec.specs.Layout.{closing, is_block as is_block_tree, laid, word}
use Rattle.print_layout_spec.specs.Looks.{Laid, blank, formats, gap, gap_or, when, ◌·◌}
use Rattle.print_layout_spec.specs.declared.look.Look.{Look}
use Rattle.print_layout_spec.specs.declared.look.Stand.{Stand}
use Rattle.print_layout_spec.specs.declared.look.Stand.TheVariants.{Alone}
use Rattle.again_laws.specs.Tokens.Spacings.{Spacing}
use Rattle.again_laws.specs.Tokens.Lexicon.{Lexicon}
use Rattle.again_laws.specs.Tokens.Means.{Known}
use Rattle.again_laws.specs.Tokens.Told.{says}
use Rattle.again_laws.specs.Derived.Redo.{Plain, Redone}
use Rattle.again_laws.proofs.derived_rules.Naming.{leaves_at}
use Rattle.again_laws.proofs.derived_rules.Begins.{item_outer}
use Rattle.again_laws.proofs.derived_rules.Bodies.{follow_closed, item_closed, statement_on}
use Rattle.again_laws.proofs.derived_rules.Ends.{absent_same, there}
use Rattle.again_laws.proofs.derived_rules.Shapes.{alike, re_is_absent, re_is_plain_function, re_is_statement}
use Rattle.again_laws.proofs.derived_rules.Sound.{Sound}
use Rattle.again_laws.proofs.derived_rules.Tokens.{gapped, keyed, skip, worded}
use Rattle.again_laws.proofs.derived_rules.Simple.{parens_in}

module _ (look : Look) (x : Lexicon look.style) where
  pub body_item : (c : Code) (t : Tree) → (is_statement t || (not (is_strict c) && is_plain_function t)) ≡ true → is_item t ≡ true
  body_item c t h = ⊎_elim (λ (e : is_statement t ≡ true). or_left (is_statement t) _ e) (λ (e : (not (is_strict c) && is_plain_function t) ≡ true). plain_item t (and_parts (not (is_strict c)) (is_plain_function t) e).1) (or_cases (is_statement t) _ h)
    where
      plain_item : (t : Tree) → is_plain_function t ≡ true → is_item t ≡ true
      plain_item (fn_decl s n f) e = refl
      plain_item _ e = absurd (true≢false (sym e))

  pub body_same : (c : Code) (t u : Tree) → Redone (leaves_at look x.naming) Plain t u → (is_statement t || (not (is_strict c) && is_plain_function t)) ≡ true → (is_statement u || (not (is_strict c) && is_plain_function u)) ≡ true
  body_same c t u s h = ap₂ (λ (a b : Bool). a || (not (is_strict c) && b)) (alike is_statement re_is_statement (leaves_at look x.naming) Plain t u s) (alike is_plain_function re_is_plain_function (leaves_at look x.naming) Plain t u s) ∙ h

  -- what `else` is followed by, or nothing
  record Else (alt : Tree) (c : Code) (o0 r0 : Input) (b : Spacing) (ts : Input) (K : Spacing → Input → Type 0) : Type 0 where
    d : Spacing
    m : Input
    more : K d m
    known : Known r0.places
    first : (kind m ≡ else_kind → kind r0 ≡ else_kind) → kind ts ≡ else_kind → kind o0 ≡ else_kind
    again : (kind m ≡ else_kind → kind r0 ≡ else_kind)
        → (u : Tree) × By (is_absent u) ((kind ts ≡ else_kind → ⊥) × (ts ≡ m)) ((p : Input) × TakesWord (unplaced c) else_kind ts p × SubOrFunction (unplaced c) (child u (λ y. Produces u y)) p m) × Redone (leaves_at look x.naming) Plain alt u

  gaps : (v w : Bool) (b : Spacing) (ts : Input) (K : Spacing → Input → Type 0) → says x.naming (when v (when w blank)) b ts K → (d : Spacing) × K d ts
  gaps true w b ts K q = (gapped w b, skip x.naming w b ts K q)
  gaps false w b ts K q = (b, q)

  else_on : (alt : Tree) → Sound look x.naming Alone alt → (c : Code) (a : Tree) (v : Bool) → is_absent alt ≡ v → (o0 r0 : Input) → By v ((kind o0 ≡ else_kind → ⊥) × (o0 ≡ r0)) ((p : Input) × TakesWord c else_kind o0 p × SubOrFunction c (child alt (λ y. Produces alt y)) p r0) → Known o0.places
      → (b : Spacing) (ts : Input) (K : Spacing → Input → Type 0)
      → says x.naming (when (not v) (when (is_block_tree a) (gap look) · word (codes "else") · gap_or look (starts_with_word alt) · laid look Alone alt · closing look alt)) b ts K → Else alt c o0 r0 b ts (λ d m. (e : Spacing) × K e m)
  else_on alt f c a true e o0 r0 h k b ts K q = record {
    d = b;
    m = ts;
    more = (b, q);
    known = subst (λ (i : Input). Known i.places) h.1 k;
    first = λ g i. ap kind h.1 ∙ g i;
    again = λ g. (absent, (λ i. h.0 (ap kind h.1 ∙ g i), refl), absent_same (leaves_at look x.naming) Plain alt e);
  }
  else_on alt f c a false e o0 r0 h k b ts K q =
      let i = (gaps (is_block_tree a) (formats look) b ts _ q).1 in
      let j = skip x.naming (starts_with_word alt || formats look) _ _ _ i.2 in
      let n = body_item c alt h.2.0 in
      let z = statement_on look x alt f (item_outer alt n) (alone c) h.0 r0 h.2.1 (x.later o0 h.0 h.1.3 k) _ i.0 K j in record {
        d = z.d;
        m = z.m;
        more = z.more;
        known = z.known;
        first = λ g q. h.1.0;
        again = λ g. let w = z.again (follow_closed alt r0 z.m (item_closed alt n) g) in
            (w.tree, by_no (is_absent w.tree) _ _ (alike is_absent re_is_absent (leaves_at look x.naming) Plain alt w.tree w.same ∙ e) (i.0, worded look x c else_kind i.1, (body_same c alt w.tree w.same h.2.0, w.produced)), w.same);
      }

  abbrev else_part : Tree → Tree → Laid
  else_part a b = when (is_block_tree a) (gap look) · word (codes "else") · gap_or look (starts_with_word b) · laid look Alone b · closing look b

  pub if_on : (s : Span) (t a b : Tree) → Sound look x.naming Alone t → Sound look x.naming Alone a → Sound look x.naming Alone b → (st : Stand) → Sound look x.naming st (if_stmt s t a b)
  if_on s t a b f g i st c ts0 r0 h k br ts K q =
      let j = skip x.naming (formats look) _ _ _ q.2 in
      let y = parens_in look x t f c h.0 h.1 h.4 (x.later ts0 h.0 h.3.3 k) _ q.0 (λ d m. says x.naming (gap look · laid look Alone a · closing look a · when (is_there b) (else_part a b)) d m K) j in
      let n = body_item c a h.5.0 in
      let u = skip x.naming (formats look) _ _ _ y.more in
      let z = statement_on look x a g (item_outer a n) (alone c) h.1 h.2 h.5.1 y.known _ y.m (λ d m. says x.naming (when (is_there b) (else_part a b)) d m K) u in
      let v = else_on b i c a (is_absent b) refl h.2 r0 h.6 z.known z.more.0 z.m K (subst (λ (w : Bool). says x.naming (when w (else_part a b)) z.more.0 z.m K) (there b) z.more.1) in record {
        d = v.more.0;
        m = v.m;
        more = v.more.1;
        known = v.known;
        broke = q.1.broke;
        tight = λ e. absurd (true≢false (sym e));
        begins = λ e. absurd (if_opens (sym (keyed look x if_kind q.1) ∙ e));
        again = λ l. let p = v.again (l.other refl) in let w = z.again (follow_closed a h.2 z.m (item_closed a n) (v.first (l.other refl))) in record {
          tree = if_stmt (span (lo ts) v.m.last) y.again.0 w.tree p.0;
          produced = (q.0, y.m, z.m, worded look x c if_kind q.1, y.again.1, (body_same c a w.tree w.same h.5.0, w.produced), p.1, refl);
          directive = refl;
          quoted = λ p q. refl;
          same = record { so = λ n. both_same no_place (y.again.2.so Plain) (w.same.so Plain) (p.2.so Plain) };
        };
      }
    where
      if_opens : if_kind ≡ else_kind → ⊥
      if_opens e = omega arith

      both_same : (s : Span) {t u a b e f : Tree} → t ≡ u → a ≡ b → e ≡ f → if_stmt s t a e ≡ if_stmt s u b f
      both_same s p q r = ap₂ (λ (t : Tree × Tree) (e : Tree). if_stmt s t.0 t.1 e) (ap₂ (λ (t a : Tree). (t, a)) p q) r
