-- Elements, arrays and sequences derived again (13.2.4, 13.16).
use Rattle.std.proofs.Common.{None, Option, Some, ap, ap₂, arith, refl, sym, true, true≢false, ◌∙◌, ◌≡◌}
use Rattle.std.proofs.lemmas.Bool.{eqb-false}
use Rattle.base_token.specs.Kinds.{dot_dot_dot_kind, else_kind, left_bracket_kind, right_bracket_kind}
use Rattle.base_token.specs.declared.place.Span.{Span}
use Rattle.tree_spec.specs.Places.{no_place}
use Rattle.tree_spec.specs.Tree.{Tree, Trees, array_lit, expr_or_spread, more, none, seq_expr}
use Rattle.grammar_spec.specs.Tokens.Input.{Code, Input, assigning, first_span, kind, lo, span, unplaced, with_in}
use Rattle.grammar_spec.specs.Tokens.Operators.{assignment_level}
use Rattle.grammar_spec.specs.Tokens.Shape.{is_element, level}
use Rattle.grammar_spec.specs.Grammar.{Produces, children}
use Rattle.grammar_spec.specs.Children.{CommaThen, Expr, Listed, Sorted, child}
use Rattle.print_layout_spec.specs.Layout.{comma, comma_line, ends_with_hole, separated}
use Rattle.print_layout_spec.specs.Looks.{formats, when, ◌·◌}
use Rattle.print_layout_spec.specs.declared.look.Look.{Look}
use Rattle.print_layout_spec.specs.declared.look.Stand.{Stand}
use Rattle.print_layout_spec.specs.declared.look.Stand.TheVariants.{Alone}
use Rattle.again_laws.specs.Tokens.Spacings.{Spacing, Touching}
use Rattle.again_laws.specs.Tokens.Lexicon.{Lexicon}
use Rattle.again_laws.specs.Tokens.Means.{Known}
use Rattle.again_laws.specs.Tokens.Told.{says}
use Rattle.again_laws.specs.Derived.Redo.{AllRedone, Plain, Redone, redo, redos}
use Rattle.again_laws.specs.Derived.Written.{mode_of}
use Rattle.again_laws.proofs.derived_rules.Naming.{leaves_at}
use Rattle.again_laws.proofs.derived_rules.Begins.{begun, is_loose, is_weak, led, loosen, no_else, strong}
use Rattle.again_laws.proofs.derived_rules.Ends.{above}
use Rattle.again_laws.proofs.derived_rules.Follow.{follow_on}
use Rattle.again_laws.proofs.derived_rules.Lists.{Gone, comma_line_on, exprs, holed, run, sorted}
use Rattle.again_laws.proofs.derived_rules.Shapes.{re_is_element}
use Rattle.again_laws.proofs.derived_rules.Sound.{Again, AllSound, Sound, expr, expr_begins, expr_low}
use Rattle.again_laws.proofs.derived_rules.Tokens.{marked, skip_back, skip_deeper, skip_line, took}
use Rattle.again_laws.proofs.derived_rules.Calls.{element_plain}

module _ (look : Look) (x : Lexicon look.style) where
  pub element_on : (s : Span) (d : Option Span) (e : Tree) → Sound look x.naming Alone e → (st : Stand) → Sound look x.naming st (expr_or_spread s d e)
  element_on s None e f st c ts0 r0 h k b ts K q =
      let y = expr look x.naming assignment_level Alone e f (omega arith) (with_in c) ts0 r0 h.0 k b ts K q in record {
        d = y.d;
        m = y.m;
        more = y.more;
        known = y.known;
        broke = y.broke;
        tight = λ i. absurd (true≢false (sym i));
        begins = no_else ts0 r0 ts y.m (expr_begins look x.naming Alone e (assigning (with_in c)) ts0 r0 b ts K (above assignment_level (level e) (omega arith) h.0.0) y);
        again = λ g. let w = y.again (follow_on st (expr_or_spread s None e) Alone e r0 r0 y.m refl (above assignment_level (level e) (omega arith) h.0.0) g) in record {
          tree = expr_or_spread (span (lo ts) y.m.last) None w.tree;
          produced = (expr_low look x.naming assignment_level Alone e (with_in c) ts y.m h.0.0 (omega arith) w, refl);
          directive = refl;
          quoted = λ p q. refl;
          same = record { so = λ n. ap (λ (t : Tree). expr_or_spread no_place None t) (w.same.so Plain) };
        };
      }
  element_on s (Some p) e f st c ts0 r0 h k b ts K q =
      let y = expr look x.naming assignment_level Alone e f (omega arith) (with_in c) h.0 r0 h.3 (x.later ts0 h.0 h.1.2 k) _ q.0 K q.2 in record {
        d = y.d;
        m = y.m;
        more = y.more;
        known = y.known;
        broke = q.1.broke;
        tight = λ i. absurd (true≢false (sym i));
        begins = λ e. absurd (eqb-false dot_dot_dot_kind else_kind refl (sym (marked look x dot_dot_dot_kind q.1) ∙ e));
        again = λ g. let w = y.again (follow_on st (expr_or_spread s (Some p) e) Alone e r0 r0 y.m refl (above assignment_level (level e) (omega arith) h.3.0) g) in record {
          tree = expr_or_spread (span (lo ts) y.m.last) (Some (first_span ts)) w.tree;
          produced = (q.0, took look x c dot_dot_dot_kind q.1, refl, expr_low look x.naming assignment_level Alone e (with_in c) q.0 y.m h.3.0 (omega arith) w, refl);
          directive = refl;
          quoted = λ p q. refl;
          same = record { so = λ n. ap (λ (t : Tree). expr_or_spread no_place (Some no_place) t) (w.same.so Plain) };
        };
      }

  -- the layout of the elements, in lines of their own
  elements_on : (c : Code) (xs : Trees) → AllSound look x.naming xs → (ts0 r0 : Input) → Listed true (Sorted is_element c) c right_bracket_kind (children xs) ts0 r0 → Known ts0.places → (b : Spacing) (ts : Input) (K : Spacing → Input → Type 0)
      → ((d : Spacing) (m : Input) → K d m → kind m ≡ right_bracket_kind) → says x.naming (separated look (comma_line look) xs · when (ends_with_hole xs) (comma look)) b ts K
      → Gone look x (Sorted is_element c) (Sorted is_element (unplaced c)) (sorted look x is_element re_is_element element_plain c) c right_bracket_kind refl true xs r0 ts K
  elements_on c xs a ts0 r0 h k b ts K peek q = holed look x _ _ _ c right_bracket_kind refl (comma_line look) (comma_line_on look x) xs a ts0 r0 h k b ts K peek q

  pub array_on : (s : Span) (xs : Trees) → AllSound look x.naming xs → (st : Stand) → Sound look x.naming st (array_lit s xs)
  array_on s none a st c ts0 r0 h k b ts K q =
      let o = q.2 in record {
        d = Touching;
        m = o.0;
        more = o.2;
        known = x.later h.0 r0 h.2.2 (x.later ts0 h.0 h.1.2 k);
        broke = q.1.broke;
        tight = λ e. refl;
        begins = led ts0 r0 ts o.0 left_bracket_kind h.1.0 (marked look x left_bracket_kind q.1) refl;
        again = λ g. record {
          tree = array_lit (span (lo ts) o.0.last) none;
          produced = (q.0, took look x c left_bracket_kind q.1, took look x c right_bracket_kind o.1, refl);
          directive = refl;
          quoted = λ p q. refl;
          same = record { so = λ n. refl };
        };
      }
  array_on s (more t ts') a st c ts0 r0 h k b ts K q =
      let i = skip_line x.naming (formats look) _ _ _ q.2 in
      let j = skip_deeper x.naming (formats look) _ _ _ i.1 in
      let z = elements_on c (more t ts') a h.0 r0 h.2 (x.later ts0 h.0 h.1.2 k) i.0 q.0 _ (λ d m u. let v = skip_line x.naming (formats look) _ _ _ (skip_back x.naming (formats look) _ _ _ u) in marked look x right_bracket_kind v.1.1) j in
      let v = skip_line x.naming (formats look) _ _ _ (skip_back x.naming (formats look) _ _ _ z.more) in
      let o = v.1 in record {
        d = Touching;
        m = o.0;
        more = o.2;
        known = z.known;
        broke = q.1.broke;
        tight = λ e. refl;
        begins = led ts0 r0 ts o.0 left_bracket_kind h.1.0 (marked look x left_bracket_kind q.1) refl;
        again = λ g. let w = z.again o.0 (took look x c right_bracket_kind o.1) in record {
          tree = array_lit (span (lo ts) o.0.last) w.0;
          produced = (q.0, took look x c left_bracket_kind q.1, w.1, refl);
          directive = refl;
          quoted = λ p q. refl;
          same = record { so = λ n. ap (λ (us : Trees). array_lit no_place us) (w.2.so Plain) };
        };
      }

  pub sequence_on : (s : Span) (xs : Trees) → AllSound look x.naming xs → (st : Stand) → Sound look x.naming st (seq_expr s xs)
  sequence_on s none a st c ts0 r0 h k b ts K q = absurd h
  sequence_on s (more t none) a st c ts0 r0 h k b ts K q = absurd h
  sequence_on s (more t (more u us)) a st c ts0 r0 h k b ts K q =
      let z = run look x (Expr assignment_level c) (Expr assignment_level (unplaced c)) (exprs look x assignment_level (omega arith) (omega arith) c) c t (more u us) a.0 a.1 ts0 h.0 r0 h.1 h.2 k b ts K q in record {
        d = z.d;
        m = z.m;
        more = z.more;
        known = z.known;
        broke = z.broke;
        tight = λ e. z.tight (λ v m n l. above assignment_level (level v) (omega arith) l.0);
        begins = loosen (is_loose t) ts0 r0 ts z.m (begun (is_weak t) (is_loose t) ts0 r0 ts z.m (strong t (above assignment_level (level t) (omega arith) h.1.0)) z.begins);
        again = λ g. let w = z.again (g.quiet refl) in sequenced w.0 w.1 w.2 z.m w.3 w.4 w.5 w.6;
      }
    where
      none_more : (ts : Trees) (t : Tree) → none ≡ more t ts → ⊥
      none_more ts t e = cc

      sequenced : (v : Tree) (vs : Trees) (n m : Input) → Expr assignment_level (unplaced c) (child v (λ y. Produces v y)) ts n → CommaThen (Expr assignment_level (unplaced c)) (unplaced c) (children vs) n m → Redone (leaves_at look x.naming) Plain t v → AllRedone (leaves_at look x.naming) Plain (more u us) vs
          → Again look x.naming (mode_of st) (seq_expr s (more t (more u us))) c ts m
      sequenced v none n m i j p r = absurd (none_more (redos (leaves_at look x.naming) Plain us) (redo (leaves_at look x.naming) Plain u) (r.so Plain))
      sequenced v (more y ys) n m i j p r = record {
        tree = seq_expr (span (lo ts) m.last) (more v (more y ys));
        produced = (n, i, j, refl);
        directive = refl;
        quoted = λ p q. refl;
        same = record { so = λ e. ap₂ (λ (t : Tree) (us : Trees). seq_expr no_place (more t us)) (p.so Plain) (r.so Plain) };
      }
