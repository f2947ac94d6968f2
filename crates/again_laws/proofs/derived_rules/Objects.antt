-- Objects and their properties derived again (13.2.5, 15.4).
use Rattle.std.proofs.Common.{Bool, ap, ap₂, arith, false, refl, subst, sym, true, true≢false, ◌-◌, ◌∙◌, ◌≡◌}
use Rattle.std.proofs.lemmas.Bool.{eqb-false}
use Rattle.base_token.specs.Kinds.{assign_kind, async_kind, colon_kind, dot_dot_dot_kind, else_kind, get_kind, left_brace_kind, left_paren_kind, mul_kind, right_brace_kind, right_paren_kind, set_kind}
use Rattle.base_token.specs.declared.place.Span.{Span}
use Rattle.tree_spec.specs.Places.{no_place}
use Rattle.tree_spec.specs.Tree.{Tree, Trees, assign_prop, block_stmt, function, getter_prop, ident, key_value_prop, method_prop, more, none, object_lit, setter_prop, spread_element}
use Rattle.grammar_spec.specs.Tokens.Input.{Code, Input, binding, in_body, kind, lo, setting, span, unplaced, with_in}
use Rattle.grammar_spec.specs.Tokens.Operators.{assignment_level}
use Rattle.grammar_spec.specs.Tokens.Shape.{is_item_pat, is_prop, is_rest, level}
use Rattle.grammar_spec.specs.Functions.{MethodHead}
use Rattle.grammar_spec.specs.Children.{Sorted, is_module_item}
use Rattle.print_layout_spec.specs.Layout.{comma_line, is_bracketed_key, method_marks}
use Rattle.print_layout_spec.specs.Looks.{formats}
use Rattle.print_layout_spec.specs.declared.look.Look.{Look}
use Rattle.print_layout_spec.specs.declared.look.Stand.{Stand}
use Rattle.print_layout_spec.specs.declared.look.Stand.TheVariants.{Alone, Body as BodyState}
use Rattle.again_laws.specs.Tokens.Spacings.{Spacing, Spaced, Touching}
use Rattle.again_laws.specs.Tokens.Lexicon.{Lexicon}
use Rattle.again_laws.specs.Tokens.Means.{Known}
use Rattle.again_laws.specs.Tokens.Told.{Breaks, says}
use Rattle.again_laws.specs.Derived.Redo.{Leaves, Mode, Plain, redo}
use Rattle.again_laws.proofs.derived_rules.Naming.{leaves_at}
use Rattle.again_laws.proofs.derived_rules.Begins.{is_part, led}
use Rattle.again_laws.proofs.derived_rules.Bodies.{braced}
use Rattle.again_laws.proofs.derived_rules.Ends.{above}
use Rattle.again_laws.proofs.derived_rules.Follow.{closed_calm, follow_on}
use Rattle.again_laws.proofs.derived_rules.KeyParts.{KeyPart}
use Rattle.again_laws.proofs.derived_rules.Lists.{comma_line_on, listed, sorted}
use Rattle.again_laws.proofs.derived_rules.Names.{id_on}
use Rattle.again_laws.proofs.derived_rules.Shapes.{alike, re_is_item_pat, re_is_rest}
use Rattle.again_laws.proofs.derived_rules.Sound.{AllSound, Sound, expr, expr_low, plain_part}
use Rattle.again_laws.proofs.derived_rules.Tokens.{behind_word, keyed, marked, skip, skip_back, skip_deeper, skip_line, took, worded, skip_either}
use Rattle.again_laws.proofs.derived_rules.Functions.{same_functions, tail_on}
use Rattle.again_laws.proofs.derived_rules.Keys.{key_on}
use Rattle.again_laws.proofs.derived_rules.Patterns.{item_plain}

re_is_prop : (l : Leaves) (m : Mode) (t : Tree) → is_prop (redo l m t) ≡ is_prop t
re_is_prop l m (ident s n) = refl
re_is_prop l m (assign_prop s k e) = refl
re_is_prop l m (spread_element s e) = refl
re_is_prop l m (key_value_prop s k v) = refl
re_is_prop l m (getter_prop s k b) = refl
re_is_prop l m (setter_prop s k p b) = refl
re_is_prop l m (method_prop s k f) = refl
re_is_prop l m _ = refl

prop_plain : (t : Tree) → is_prop t ≡ true → (is_part t ≡ true) × (is_module_item t ≡ false)
prop_plain (ident s n) h = (refl, refl)
prop_plain (assign_prop s k e) h = (refl, refl)
prop_plain (spread_element s e) h = (refl, refl)
prop_plain (key_value_prop s k v) h = (refl, refl)
prop_plain (getter_prop s k b) h = (refl, refl)
prop_plain (setter_prop s k p b) h = (refl, refl)
prop_plain (method_prop s k f) h = (refl, refl)
prop_plain _ h = absurd (true≢false (sym h))

get_else : get_kind ≡ else_kind → ⊥
get_else e = omega arith

set_else : set_kind ≡ else_kind → ⊥
set_else e = omega arith

module _ (look : Look) (x : Lexicon look.style) where
  pub property_on : (s : Span) (k e : Tree) → KeyPart look x.naming k → Sound look x.naming Alone e → (st : Stand) → Sound look x.naming st (key_value_prop s k e)
  property_on s k e f g st c ts0 r0 h l b ts K q =
      let y = key_on look x k f c ts0 h.0 h.2 l b ts _ q in
      let t = y.more in
      let i = skip x.naming (formats look) _ _ _ t.2 in
      let v = expr look x.naming assignment_level Alone e g (omega arith) (with_in c) h.1 r0 h.4 (x.later h.0 h.1 h.3.2 y.known) _ t.0 K i in record {
        d = v.d;
        m = v.m;
        more = v.more;
        known = v.known;
        broke = y.broke;
        tight = λ i. absurd (true≢false (sym i));
        begins = y.first;
        again = λ l. let o = v.again (follow_on st (key_value_prop s k e) Alone e r0 r0 v.m refl (above assignment_level (level e) (omega arith) h.4.0) l) in record {
          tree = key_value_prop (span (lo ts) v.m.last) y.again.0 o.tree;
          produced = (y.m, t.0, (y.again.1, y.again.2), took look x c colon_kind t.1, expr_low look x.naming assignment_level Alone e (with_in c) t.0 v.m h.4.0 (omega arith) o, refl);
          directive = refl;
          quoted = λ p q. refl;
          same = record { so = λ n. ap₂ (λ (t u : Tree). key_value_prop no_place t u) (y.again.3 Plain) (o.same.so Plain) };
        };
      }

  pub spread_on : (s : Span) (e : Tree) → Sound look x.naming Alone e → (st : Stand) → Sound look x.naming st (spread_element s e)
  spread_on s e f st c ts0 r0 h k b ts K q =
      let n = above assignment_level (level e) (omega arith) h.2.0 in
      let y = expr look x.naming assignment_level Alone e f (omega arith) (with_in c) h.0 r0 h.2 (x.later ts0 h.0 h.1.2 k) Touching q.0 _ q.2 in record {
        d = y.d;
        m = y.m;
        more = y.more;
        known = y.known;
        broke = q.1.broke;
        tight = λ i. absurd (true≢false (sym i));
        begins = λ e. absurd (eqb-false dot_dot_dot_kind else_kind refl (sym (marked look x dot_dot_dot_kind q.1) ∙ e));
        again = λ g. let w = y.again (follow_on st (spread_element s e) Alone e r0 r0 y.m refl n g) in record {
          tree = spread_element (span (lo ts) y.m.last) w.tree;
          produced = (q.0, took look x c dot_dot_dot_kind q.1, expr_low look x.naming assignment_level Alone e (with_in c) q.0 y.m h.2.0 (omega arith) w, refl);
          directive = refl;
          quoted = λ p q. refl;
          same = record { so = λ n. ap (λ (t : Tree). spread_element no_place t) (w.same.so Plain) };
        };
      }

  -- what a cover alone has (13.2.5.1)
  pub covered_on : (s : Span) (k e : Tree) → Sound look x.naming Alone e → (st : Stand) → Sound look x.naming st (assign_prop s k e)
  covered_on s k e f st c ts0 r0 h l b ts K q =
      let z = id_on look x k c ts0 h.0 h.2 l b ts _ q in
      let j = z.more in
      let n = above assignment_level (level e) (omega arith) h.4.0 in
      let y = expr look x.naming assignment_level Alone e f (omega arith) (with_in c) h.1 r0 h.4 (x.later h.0 h.1 h.3.2 z.known) Touching j.0 K j.2 in record {
        d = y.d;
        m = y.m;
        more = y.more;
        known = y.known;
        broke = z.broke;
        tight = λ i. absurd (true≢false (sym i));
        begins = z.first;
        again = λ g. let w = y.again (follow_on st (assign_prop s k e) Alone e r0 r0 y.m refl n g) in record {
          tree = assign_prop (span (lo ts) y.m.last) z.again.0 w.tree;
          produced = (z.m, j.0, z.again.1, took look x c assign_kind j.1, expr_low look x.naming assignment_level Alone e (with_in c) j.0 y.m h.4.0 (omega arith) w, refl);
          directive = refl;
          quoted = λ p q. refl;
          same = record { so = λ n. ap₂ (λ (t u : Tree). assign_prop no_place t u) (z.again.2.so Plain) (w.same.so Plain) };
        };
      }

  pub object_on : (s : Span) (ps : Trees) → AllSound look x.naming ps → (st : Stand) → Sound look x.naming st (object_lit s ps)
  object_on s none a st c ts0 r0 h k b ts K q =
      let o = q.2 in record {
        d = Touching;
        m = o.0;
        more = o.2;
        known = x.later h.0 r0 h.2.2 (x.later ts0 h.0 h.1.2 k);
        broke = q.1.broke;
        tight = λ e. refl;
        begins = led ts0 r0 ts o.0 left_brace_kind h.1.0 (marked look x left_brace_kind q.1) refl;
        again = λ g. record {
          tree = object_lit (span (lo ts) o.0.last) none;
          produced = (q.0, took look x c left_brace_kind q.1, took look x c right_brace_kind o.1, refl);
          directive = refl;
          quoted = λ p q. refl;
          same = record { so = λ n. refl };
        };
      }
  object_on s (more t ps) a st c ts0 r0 h k b ts K q =
      let i = skip_line x.naming (formats look) _ _ _ q.2 in
      let j = skip_deeper x.naming (formats look) _ _ _ i.1 in
      let z = listed look x (Sorted is_prop c) (Sorted is_prop (unplaced c)) (sorted look x is_prop re_is_prop prop_plain c) c right_brace_kind refl (comma_line look) (comma_line_on look x) (more t ps) a h.0 r0 h.2 (x.later ts0 h.0 h.1.2 k) i.0 q.0 _
      (λ d m u. let v = skip_line x.naming (formats look) _ _ _ (skip_back x.naming (formats look) _ _ _ u) in marked look x right_brace_kind v.1.1) j in
      let v = skip_line x.naming (formats look) _ _ _ (skip_back x.naming (formats look) _ _ _ z.more) in
      let o = v.1 in record {
        d = Touching;
        m = o.0;
        more = o.2;
        known = z.known;
        broke = q.1.broke;
        tight = λ e. refl;
        begins = led ts0 r0 ts o.0 left_brace_kind h.1.0 (marked look x left_brace_kind q.1) refl;
        again = λ g. let w = z.again o.0 (took look x c right_brace_kind o.1) in record {
          tree = object_lit (span (lo ts) o.0.last) w.0;
          produced = (q.0, took look x c left_brace_kind q.1, w.1, refl);
          directive = refl;
          quoted = λ p q. refl;
          same = record { so = λ n. ap (λ (us : Trees). object_lit no_place us) (w.2.so Plain) };
        };
      }

  pub getter_on : (s : Span) (k : Tree) (p : Span) (ss : Trees) → KeyPart look x.naming k → AllSound look x.naming ss → (st : Stand) → Sound look x.naming st (getter_prop s k (block_stmt p ss))
  getter_on s k p ss f a st c ts0 r0 h l b ts K q =
      let d = in_body false false c in
      let y = key_on look x k f c h.0 h.1 h.5 (x.later ts0 h.0 h.4.3 l) _ q.0 _ (skip_either look x.naming (is_bracketed_key k) Touching q.0 _ q.2).1 in
      let j = skip x.naming (formats look) _ _ _ y.more in
      let i = j.2 in
      let z = braced look x d true ss a h.3 h.8.0 r0 h.8.1 h.8.2 (x.later h.2 h.3 h.7.2 (x.later h.1 h.2 h.6.2 y.known)) _ i.0 K (record { lo = record { 0 = p.hi.0 - 1 }; hi = p.hi }) (skip x.naming (formats look) _ _ _ i.2) in record {
        d = Touching;
        m = z.m;
        more = z.more;
        known = z.known;
        broke = q.1.broke;
        tight = λ e. absurd (true≢false (sym e));
        begins = λ e. absurd (get_else (sym (keyed look x get_kind q.1) ∙ e));
        again = λ g. record {
          tree = getter_prop (span (lo ts) z.m.last) y.again.0 (block_stmt (span (lo i.0) z.m.last) z.again.0);
          produced = (q.0, y.m, j.0, i.0, worded look x c get_kind q.1, (y.again.1, y.again.2), took look x d left_paren_kind j.1, took look x d right_paren_kind i.1, (z.again.1, z.again.2, z.again.3, refl), refl);
          directive = refl;
          quoted = λ p q. refl;
          same = record { so = λ n. ap₂ (λ (t : Tree) (us : Trees). getter_prop no_place t (block_stmt no_place us)) (y.again.3 Plain) (z.again.4.so Plain) };
        };
      }

  pub setter_on : (s : Span) (k e : Tree) (p : Span) (ss : Trees) → KeyPart look x.naming k → Sound look x.naming Alone e → AllSound look x.naming ss → (st : Stand) → Sound look x.naming st (setter_prop s k e (block_stmt p ss))
  setter_on s k e p ss f g a st c ts0 r0 h l b ts K q =
      let d = in_body false false c in
      let y = key_on look x k f c h.0 h.1 h.6 (x.later ts0 h.0 h.5.3 l) _ q.0 _ (skip_either look x.naming (is_bracketed_key k) Touching q.0 _ q.2).1 in
      let j = skip x.naming (formats look) _ _ _ y.more in
      let n = item_plain true e h.8 in
      let v = plain_part look x.naming Alone e g n.0 (binding d) h.2 h.3 h.10 (x.later h.1 h.2 h.7.2 y.known) _ j.0 _ j.2 in
      let i = v.more in
      let w = v.again (record { quiet = λ o. closed_calm v.m right_paren_kind (marked look x right_paren_kind i.1) refl; other = λ o. absurd (true≢false (sym o ∙ n.1)) }) in
      let z = braced look x d true ss a h.4 h.12.0 r0 h.12.1 h.12.2 (x.later h.3 h.4 h.11.2 v.known) _ i.0 K (record { lo = record { 0 = p.hi.0 - 1 }; hi = p.hi }) i.2 in record {
        d = Touching;
        m = z.m;
        more = z.more;
        known = z.known;
        broke = q.1.broke;
        tight = λ e. absurd (true≢false (sym e));
        begins = λ e. absurd (set_else (sym (keyed look x set_kind q.1) ∙ e));
        again = λ g. record {
          tree = setter_prop (span (lo ts) z.m.last) y.again.0 w.tree (block_stmt (span (lo i.0) z.m.last) z.again.0);
          produced = (
            q.0,
            y.m,
            j.0,
            v.m,
            i.0,
            worded look x c set_kind q.1,
            (y.again.1, y.again.2),
            took look x d left_paren_kind j.1,
            alike (is_item_pat true) (re_is_item_pat true) (leaves_at look x.naming) Plain e w.tree w.same ∙ h.8,
            alike is_rest re_is_rest (leaves_at look x.naming) Plain e w.tree w.same ∙ h.9,
            w.produced,
            took look x d right_paren_kind i.1,
            (z.again.1, z.again.2, z.again.3, refl),
            refl,
          );
          directive = refl;
          quoted = λ p q. refl;
          same = record { so = λ n. ap₂ (λ (t : Tree × Tree) (us : Trees). setter_prop no_place t.0 t.1 (block_stmt no_place us)) (ap₂ (λ (t u : Tree). (t, u)) (y.again.3 Plain) (w.same.so Plain)) (z.again.4.so Plain) };
        };
      }

  -- ---- methods

  -- `async` and a star
  pub record Marks (g a : Bool) (c : Code) (ts0 r0 : Input) (b : Spacing) (ts : Input) (K : Spacing → Input → Type 0) : Type 0 where
    pub d : Spacing
    pub m : Input
    pub more : K d m
    pub known : Known r0.places
    pub broke : Breaks x.naming d m → Breaks x.naming b ts
    pub first : (kind m ≡ else_kind → kind r0 ≡ else_kind) → kind ts ≡ else_kind → kind ts0 ≡ else_kind
    pub again : Breaks x.naming d m → MethodHead g a (unplaced c) ts m

  pub marks_on : (g a : Bool) (c : Code) (ts0 r0 : Input) → MethodHead g a c ts0 r0 → Known ts0.places → (b : Spacing) (ts : Input) (K : Spacing → Input → Type 0) → says x.naming (method_marks a g) b ts K → Marks g a c ts0 r0 b ts K
  marks_on false false c ts0 r0 h l b ts K q = record {
    d = b;
    m = ts;
    more = q;
    known = subst (λ (i : Input). Known i.places) (h.1 ∙ h.2) l;
    broke = λ e. e;
    first = λ f e. ap kind (h.1 ∙ h.2) ∙ f e;
    again = λ e. (ts, refl, refl);
  }
  marks_on true false c ts0 r0 h l b ts K q = record {
    d = Touching;
    m = q.0;
    more = q.2;
    known = x.later h.0 r0 h.2.2 (subst (λ (i : Input). Known i.places) h.1 l);
    broke = λ e. q.1.broke;
    first = λ f e. absurd (eqb-false mul_kind else_kind refl (sym (marked look x mul_kind q.1) ∙ e));
    again = λ e. (ts, refl, took look x c mul_kind q.1);
  }
  marks_on false true c ts0 r0 h l b ts K q = record {
    d = Spaced;
    m = q.0;
    more = q.2;
    known = subst (λ (i : Input). Known i.places) h.2 (x.later ts0 h.0 h.1.0.3 l);
    broke = λ e. q.1.broke;
    first = λ f e. absurd (eqb-false async_kind else_kind refl (sym (keyed look x async_kind q.1) ∙ e));
    again = λ e. (q.0, (worded look x c async_kind q.1, behind_word look x async_kind refl q.1 e), refl);
  }
  marks_on true true c ts0 r0 h l b ts K q = let i = q.2 in record {
    d = Touching;
    m = i.0;
    more = i.2;
    known = x.later h.0 r0 h.2.2 (x.later ts0 h.0 h.1.0.3 l);
    broke = λ e. q.1.broke;
    first = λ f e. absurd (eqb-false async_kind else_kind refl (sym (keyed look x async_kind q.1) ∙ e));
    again = λ e. (q.0, (worded look x c async_kind q.1, behind_word look x async_kind refl q.1 i.1.broke), took look x c mul_kind i.1);
  }

  pub method_on : (s : Span) (k : Tree) (t : Span) (ps ds : Trees) (p : Span) (ss : Trees) (g a : Bool) → KeyPart look x.naming k → AllSound look x.naming ps → AllSound look x.naming ss → (st : Stand) → Sound look x.naming st (method_prop s k (function t ps ds (block_stmt p ss) g a))
  method_on s k t ps (more d ds) p ss g a n f j st c ts0 r0 h l b ts K q = absurd h.1.4.1
  method_on s k t ps none p ss g a n f j st c ts0 r0 h l b ts K q =
      let w = marks_on g a c ts0 h.1.0 h.1.2 l b ts _ q in
      let y = key_on look x k n c h.1.0 h.1.1 (h.0, h.1.3) w.known w.d w.m _ w.more in
      let v = tail_on look x BodyState ps p ss g a f j (setting false c) h.1.1 r0 h.1.4 y.known _ y.m K (skip x.naming (formats look) y.d y.m _ y.more) in record {
        d = Touching;
        m = v.m;
        more = v.more;
        known = v.known;
        broke = w.broke y.broke;
        tight = λ e. absurd (true≢false (sym e));
        begins = w.first (y.first);
        again = λ o. record {
          tree = method_prop (span (lo ts) v.m.last) y.again.0 (function (span (lo ts) v.m.last) v.us none (block_stmt v.v v.vs) g a);
          produced = (y.again.1, (w.m, y.m, w.again y.broke, y.again.2, v.produced), refl, refl);
          directive = refl;
          quoted = λ p q. refl;
          same = record { so = λ n. same_functions (λ (k f : Tree). method_prop no_place k f) g a (y.again.3 Plain) (v.same_us.so Plain) (v.same_vs.so Plain) };
        };
      }
