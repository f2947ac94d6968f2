-- Templates and regular expressions derived again (13.2.7, 13.2.8, 13.3.11).
use Rattle.std.proofs.Common.{Bool, List, None, Option, Some, [], ap, ap₂, arith, codes, false, if◌then◌else◌, is_some, refl, sym, true, true≢false, ℕ, ◌+◌, ◌==◌, ◌||◌, ◌∙◌, ◌≡◌}
use Rattle.base_token.specs.Kinds.{back_quote_kind, dollar_brace_kind, else_kind, function_kind, right_brace_kind, template_kind}
use Rattle.base_token.specs.declared.place.Span.{Span}
use Rattle.lex_token.specs.declared.goal.LexicalGoal.TheVariants.{TemplateEnd}
use Rattle.tree_spec.specs.Places.{no_place}
use Rattle.tree_spec.specs.Tree.{Tree, Trees, more, none, tagged_tpl, tpl, tpl_element}
use Rattle.grammar_spec.specs.Tokens.Input.{Code, Input, Spans, TakesIn, assigning, kind, lo, span, template_end_goal, unplaced, with_in}
use Rattle.grammar_spec.specs.Tokens.Operators.{call_level, expression_level}
use Rattle.grammar_spec.specs.Tokens.Shape.{is_chain, is_cooked, is_tail, level}
use Rattle.grammar_spec.specs.Expressions.{TemplateLiteral, TemplateSpans}
use Rattle.grammar_spec.specs.Grammar.{Produces, children}
use Rattle.grammar_spec.specs.Children.{Sorted, is_quasi, child}
use Rattle.print_layout_spec.specs.Layout.{count, is_tagged as is_tagged_stand, laid, quasi, template}
use Rattle.print_layout_spec.specs.Literals.{quasi_bytes}
use Rattle.print_layout_spec.specs.Looks.{end, meant, refused, start, template_end, text, ◌·◌}
use Rattle.print_layout_spec.specs.declared.look.Look.{Look}
use Rattle.print_layout_spec.specs.declared.look.Stand.{Stand}
use Rattle.print_layout_spec.specs.declared.look.Stand.TheVariants.{Alone, Head, Tagged}
use Rattle.again_laws.specs.Tokens.Spacings.{Spacing, Touching}
use Rattle.again_laws.specs.Tokens.Lexicon.{Lexicon}
use Rattle.again_laws.specs.Tokens.Means.{Known}
use Rattle.again_laws.specs.Tokens.Texts.{ending_text}
use Rattle.again_laws.specs.Tokens.Told.{Breaks, Told, says}
use Rattle.again_laws.specs.Derived.Redo.{AllRedone, Headed, Mode, Plain, Raw, Redone, is_tagged, quasi_mode}
use Rattle.again_laws.specs.Derived.Written.{mode_of}
use Rattle.again_laws.proofs.derived_rules.Naming.{leaves_at}
use Rattle.again_laws.proofs.derived_rules.Begins.{before, firm, led}
use Rattle.again_laws.proofs.derived_rules.Ends.{above}
use Rattle.again_laws.proofs.derived_rules.Follow.{follow_by}
use Rattle.again_laws.proofs.derived_rules.Lists.{more_same}
use Rattle.again_laws.proofs.derived_rules.Shapes.{alike, re_is_chain}
use Rattle.again_laws.proofs.derived_rules.Sound.{AllSound, Sound, expr, expr_begins, expr_head, expr_low}
use Rattle.again_laws.proofs.derived_rules.Tokens.{marked, took}
use Rattle.again_laws.proofs.derived_rules.CallHeads.{follow_chain, over_call}

stand_tagged : (s : Stand) → is_tagged_stand s ≡ is_tagged (quasi_mode (mode_of s))
stand_tagged Tagged = refl
stand_tagged _ = refl

module _ (look : Look) (x : Lexicon look.style) where
  -- the characters of a template
  record Characters_on (t : Tree) (s : Stand) (r0 : Input) (ts : Input) (K : Spacing → Input → Type 0) (c : Code) : Type 0 where
    m : Input
    more : K Touching m
    known : Known r0.places
    broke : kind ts ≡ template_kind
    u : Tree
    produced : Sorted is_quasi (unplaced c) (child u (λ y. Produces u y)) ts m
    tail : is_tail u ≡ is_tail t
    cooked : is_cooked u ≡ is_cooked t
    same : Redone (leaves_at look x.naming) (quasi_mode (mode_of s)) t u

  quasi_on : (t : Tree) (s : Stand) (c : Code) (tagged : Bool) → (tagged ≡ true → is_tagged_stand s ≡ true) → (tagged || is_cooked t) ≡ true → (ts0 r0 : Input) → Sorted is_quasi c (child t (λ y. Produces t y)) ts0 r0 → Known ts0.places → (b : Spacing) (ts : Input) (K : Spacing → Input → Type 0) → says x.naming (quasi look s t) b ts K → Characters_on t s r0 ts K c
  quasi_on (tpl_element p t w u) s c tagged f g ts0 r0 h k b ts K q =
      let z = x.characters ts0 (is_tagged_stand s) w u _ _ _ k h.1.0 (or_there (is_tagged_stand s) tagged (is_some u) f (there_cooked p t w u tagged g)) q.1.means in record {
        m = q.0;
        more = q.2;
        known = x.later ts0 r0 h.1.1.2 k;
        broke = z.0;
        u = tpl_element (span (lo ts) q.0.last) t (quasi_bytes look.style (is_tagged_stand s) w) u;
        produced = (refl, (z.1, (z.0, tt, q.1.after), refl));
        tail = refl;
        cooked = cooked p (span (lo ts) q.0.last) t w (quasi_bytes look.style (is_tagged_stand s) w) u;
        same = record { so = λ n. ap (λ (v : Bool). tpl_element no_place t (quasi_bytes look.style v w) u) (stand_tagged s) };
      }
    where
      cooked : (p q : Span) (t : Bool) (v w : List ℕ) (u : Option (List ℕ)) → is_cooked (tpl_element q t w u) ≡ is_cooked (tpl_element p t v u)
      cooked p q t v w (Some u) = refl
      cooked p q t v w None = refl

      there_cooked : (p : Span) (t : Bool) (w : List ℕ) (u : Option (List ℕ)) (g : Bool) → (g || is_cooked (tpl_element p t w u)) ≡ true → (g || is_some u) ≡ true
      there_cooked p t w (Some u) g e = e
      there_cooked p t w None g e = e

      or_there : (a b d : Bool) → (b ≡ true → a ≡ true) → (b || d) ≡ true → (a || d) ≡ true
      or_there true b d f e = refl
      or_there false true d f e = absurd (true≢false (sym (f refl)))
      or_there false false d f e = e
  quasi_on _ s c tagged f g ts0 r0 h k b ts K q = absurd (true≢false (sym h.0))

  record Spanned (tagged : Bool) (es qs : Trees) (s : Stand) (r0 : Input) (ts : Input) (K : Spacing → Input → Type 0) (c : Code) : Type 0 where
    m : Input
    more : K Touching m
    known : Known r0.places
    us : Trees
    vs : Trees
    produced : TemplateSpans tagged (unplaced c) (children us) (children vs) ts m
    same_us : AllRedone (leaves_at look x.naming) Plain es us
    same_vs : AllRedone (leaves_at look x.naming) (quasi_mode (mode_of s)) qs vs

  none_of : (m : Mode) → AllRedone (leaves_at look x.naming) m none none
  none_of m = record { so = λ n. refl }

  ended_by : (c : Code) (k : ℕ) {a : Spacing} {ts m : Input} → Told x.naming TemplateEnd (ending_text k) a ts m → TakesIn (unplaced c) template_end_goal k ts m
  ended_by c k t = ((x.endings k _ _ _ t.means).0, tt, t.after)

  spans_on : (tagged : Bool) (s : Stand) → (tagged ≡ true → is_tagged_stand s ≡ true) → (es qs : Trees) → AllSound look x.naming es → (c : Code) (ts0 r0 : Input) → TemplateSpans tagged c (children es) (children qs) ts0 r0 → Known ts0.places → (b : Spacing) (ts : Input) (K : Spacing → Input → Type 0)
      → says x.naming (template look s es qs · meant (template_end (codes "`"))) b ts K → Spanned tagged es qs s r0 ts K c
  spans_on tagged s j es none a c ts0 r0 h k b ts K q = absurd h
  spans_on tagged s j none (more p (more r rs)) a c ts0 r0 h k b ts K q = absurd h.1
  spans_on tagged s j none (more p none) a c ts0 r0 h k b ts K q =
      let z = quasi_on p s c tagged j h.3 ts0 h.0 h.4 k b ts _ q in let o = z.more in record {
        m = o.0;
        more = o.2;
        known = x.later h.0 r0 h.5.2 z.known;
        us = none;
        vs = more z.u none;
        produced = (z.m, tt, z.tail ∙ h.2, ap (λ (v : Bool). tagged || v) z.cooked ∙ h.3, z.produced, ended_by c back_quote_kind o.1);
        same_us = none_of Plain;
        same_vs = more_same (leaves_at look x.naming) (quasi_mode (mode_of s)) p z.u none none z.same (none_of (quasi_mode (mode_of s)));
      }
  spans_on tagged s j (more e es) (more p none) a c ts0 r0 h k b ts K q = absurd (last_spans es h.3 r0 h.10)
    where
      last_spans : (es : Trees) (m n : Input) → TemplateSpans tagged c (children es) [] m n → ⊥
      last_spans none m n h = h
      last_spans (more e es) m n h = h
  spans_on tagged s j (more e es) (more p (more r rs)) a c ts0 r0 h k b ts K q =
      let z = quasi_on p s c tagged j h.5 ts0 h.0 h.6 k b ts _ q in
      let o = z.more in
      let y = expr look x.naming expression_level Alone e a.0 (omega arith) (with_in c) h.1 h.2 h.8 (x.later h.0 h.1 h.7.2 z.known) Touching o.0 _ o.2 in
      let i = y.more in
      let v = spans_on tagged s j es (more r rs) a.1 c h.3 r0 h.10 (x.later h.2 h.3 h.9.2 y.known) Touching i.0 K i.2 in
      let w = y.again (follow_by Alone e h.2 y.m right_brace_kind (marked look x right_brace_kind i.1) refl) in record {
        m = v.m;
        more = v.more;
        known = v.known;
        us = more w.tree v.us;
        vs = more z.u v.vs;
        produced = (
          z.m,
          o.0,
          y.m,
          i.0,
          z.tail ∙ h.4,
          ap (λ (u : Bool). tagged || u) z.cooked ∙ h.5,
          z.produced,
          ended_by c dollar_brace_kind o.1,
          expr_low look x.naming expression_level Alone e (with_in c) o.0 y.m h.8.0 (omega arith) w,
          took look x c right_brace_kind i.1,
          v.produced,
        );
        same_us = more_same (leaves_at look x.naming) Plain e w.tree es v.us w.same v.same_us;
        same_vs = more_same (leaves_at look x.naming) (quasi_mode (mode_of s)) p z.u (more r rs) v.vs z.same v.same_vs;
      }

  -- a template, from its first back quote
  record Templated (tagged : Bool) (es qs : Trees) (s : Stand) (r0 : Input) (b : Spacing) (ts : Input) (K : Spacing → Input → Type 0) (c : Code) : Type 0 where
    m : Input
    more : K Touching m
    known : Known r0.places
    broke : Breaks x.naming b ts
    lead : kind ts ≡ back_quote_kind
    us : Trees
    vs : Trees
    produced : (p : Span) → Spans p ts m → TemplateLiteral tagged (unplaced c) p (children us) (children vs) ts m
    same_us : AllRedone (leaves_at look x.naming) Plain es us
    same_vs : AllRedone (leaves_at look x.naming) (quasi_mode (mode_of s)) qs vs

  quoted_on : (tagged : Bool) (s : Stand) → (tagged ≡ true → is_tagged_stand s ≡ true) → (p : Span) (es qs : Trees) → AllSound look x.naming es → (c : Code) (ts0 r0 : Input) → TemplateLiteral tagged c p (children es) (children qs) ts0 r0 → Known ts0.places → (b : Spacing) (ts : Input) (K : Spacing → Input → Type 0)
      → says x.naming (laid look s (tpl p es qs)) b ts K → Templated tagged es qs s r0 b ts K c
  quoted_on tagged s j p es qs a c ts0 r0 h k b ts K q = by (count qs == count es + 1) q
    where
      by : (v : Bool) → says x.naming (if v then (start p · text (codes "`") · template look s es qs · meant (template_end (codes "`")) · end p) else refused) b ts K → Templated tagged es qs s r0 b ts K c
      by false i = absurd i
      by true i = let z = spans_on tagged s j es qs a c h.0 r0 h.2 (x.later ts0 h.0 h.1.2 k) Touching i.0 K i.2 in record {
        m = z.m;
        more = z.more;
        known = z.known;
        broke = i.1.broke;
        lead = marked look x back_quote_kind i.1;
        us = z.us;
        vs = z.vs;
        produced = λ p e. (i.0, took look x c back_quote_kind i.1, z.produced, e);
        same_us = z.same_us;
        same_vs = z.same_vs;
      }

  pub template_on : (s : Span) (es qs : Trees) → AllSound look x.naming es → (st : Stand) → Sound look x.naming st (tpl s es qs)
  template_on s es qs a st c ts0 r0 h k b ts K q =
      let z = quoted_on false st (λ e. absurd (true≢false (sym e))) s es qs a c ts0 r0 h k b ts K q in record {
        d = Touching;
        m = z.m;
        more = z.more;
        known = z.known;
        broke = z.broke;
        tight = λ e. refl;
        begins = led ts0 r0 ts z.m back_quote_kind h.1.0 z.lead refl;
        again = λ g. record {
          tree = tpl (span (lo ts) z.m.last) z.us z.vs;
          produced = z.produced (span (lo ts) z.m.last) refl;
          directive = refl;
          quoted = λ p q. refl;
          same = record { so = λ n. ap₂ (λ (us vs : Trees). tpl no_place us vs) (z.same_us.so Plain) (z.same_vs.so (quasi_mode n)) };
        };
      }

  quote_function : back_quote_kind ≡ function_kind → ⊥
  quote_function e = omega arith

  quote_else : back_quote_kind ≡ else_kind → ⊥
  quote_else e = omega arith

  pub tagged_on : (s : Span) (t : Tree) (p : Span) (es qs : Trees) → Sound look x.naming Head t → AllSound look x.naming es → (st : Stand) → Sound look x.naming st (tagged_tpl s t (tpl p es qs))
  tagged_on s t p es qs f a st c ts0 r0 h k b ts K q =
      let y = expr look x.naming call_level Head t f (omega arith) c ts0 h.0 h.2 k b ts _ q in
      let z = quoted_on true Tagged (λ e. refl) p es qs a c h.0 r0 h.3 y.known y.d y.m K y.more in record {
        d = Touching;
        m = z.m;
        more = z.more;
        known = z.known;
        broke = y.broke;
        tight = λ e. refl;
        begins = before ts0 h.0 ts y.m r0 z.m (λ l. absurd (firm t (over_call (level t) h.2.0) l)) (expr_begins look x.naming Head t (assigning c) ts0 h.0 b ts _ (above call_level (level t) (omega arith) h.2.0) y) (z.lead ∙ sym h.3.1.0) (λ e. quote_function (sym z.lead ∙ e));
        again = λ g. let w = y.again (follow_chain t h.0 y.m (over_call (level t) h.2.0) (λ e. quote_else (sym z.lead ∙ e))) in record {
          tree = tagged_tpl (span (lo ts) z.m.last) w.tree (tpl (span (lo y.m) z.m.last) z.us z.vs);
          produced = (y.m, alike is_chain re_is_chain (leaves_at look x.naming) Headed t w.tree w.same ∙ h.1, expr_head look x.naming call_level t c ts y.m h.2.0 w, z.produced (span (lo y.m) z.m.last) refl, refl);
          directive = refl;
          quoted = λ p q. refl;
          same = record { so = λ n. tagged_same (w.same.so Headed) (z.same_us.so Plain) (z.same_vs.so Raw) };
        };
      }
    where
      tagged_same : {t u : Tree} {es us qs vs : Trees} → t ≡ u → es ≡ us → qs ≡ vs → tagged_tpl no_place t (tpl no_place es qs) ≡ tagged_tpl no_place u (tpl no_place us vs)
      tagged_same e f g = ap₂ (λ (t : Tree) (es : Trees × Trees). tagged_tpl no_place t (tpl no_place es.0 es.1)) e (ap₂ (λ (es qs : Trees). (es, qs)) f g)
