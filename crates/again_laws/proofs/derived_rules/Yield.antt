-- `yield` derived again, with its operand and without (15.5).
use Rattle.std.proofs.Common.{Bool, ap, arith, false, not, refl, subst, true, true≢false, ◌||◌, ◌∙◌, ◌≤◌}
use Rattle.base_token.specs.Kinds.{mul_kind, yield_kind}
use Rattle.base_token.specs.declared.place.Span.{Span}
use Rattle.tree_spec.specs.Places.{no_place}
use Rattle.tree_spec.specs.Tree.{Tree, absent, yield_expr}
use Rattle.grammar_spec.specs.Tokens.Input.{Code, Input, lo, span, unplaced}
use Rattle.grammar_spec.specs.Tokens.Operators.{assignment_level}
use Rattle.grammar_spec.specs.Tokens.Shape.{level}
use Rattle.grammar_spec.specs.Expressions.{Yield}
use Rattle.grammar_spec.specs.Grammar.{Produces}
use Rattle.grammar_spec.specs.Children.{child}
use Rattle.grammar_laws.proofs.Shapes.{present}
use Rattle.print_gaps.specs.Edges.{starts_with_word}
use Rattle.print_layout_spec.specs.Layout.{laid}
use Rattle.print_layout_spec.specs.Looks.{formats, gap, gap_or, when, ◌·◌}
use Rattle.print_layout_spec.specs.declared.look.Look.{Look}
use Rattle.print_layout_spec.specs.declared.look.Stand.{Stand}
use Rattle.print_layout_spec.specs.declared.look.Stand.TheVariants.{Alone}
use Rattle.again_laws.specs.Tokens.Spacings.{Spacing, Touching}
use Rattle.again_laws.specs.Tokens.Lexicon.{Lexicon}
use Rattle.again_laws.specs.Tokens.Means.{Known}
use Rattle.again_laws.specs.Tokens.Told.{says}
use Rattle.again_laws.specs.Derived.Redo.{Plain}
use Rattle.again_laws.proofs.derived_rules.Begins.{led}
use Rattle.again_laws.proofs.derived_rules.Ends.{above, there}
use Rattle.again_laws.proofs.derived_rules.Follow.{follow_on}
use Rattle.again_laws.proofs.derived_rules.Sound.{Out, Sound, expr, expr_low, full, tight_of}
use Rattle.again_laws.proofs.derived_rules.Tokens.{behind_word, blank_broke, keyed, skip, took, worded}

as_yield : (s : Span) (a : Tree) (g : Bool) (c : Code) (ts r : Input) → 1 ≤ level a → Yield c s (child a (λ y. Produces a y)) g ts r → Produces (yield_expr s a g) c ts r
as_yield s absent g c ts r n h = absurd (omega arith)
as_yield s _ g c ts r n h = h

module _ (look : Look) (x : Lexicon look.style) where
  pub yield_bare : (s : Span) (g : Bool) (st : Stand) → Sound look x.naming st (yield_expr s absent g)
  yield_bare s true st c ts0 r0 h k b ts K q = absurd (true≢false h.0)
  yield_bare s false st c ts0 r0 h k b ts K q = record {
    d = Touching;
    m = q.0;
    more = q.2;
    known = x.later ts0 r0 h.1.1.3 k;
    broke = q.1.broke;
    tight = λ e. refl;
    begins = led ts0 r0 ts q.0 yield_kind h.1.1.0 (keyed look x yield_kind q.1) refl;
    again = λ g. record { tree = yield_expr (span (lo ts) q.0.last) absent false; produced = (refl, (h.1.0, worded look x c yield_kind q.1, refl)); directive = refl; quoted = λ p q. refl; same = record { so = λ m. refl } };
  }

  pub yield_on : (s : Span) (a : Tree) (g : Bool) → Sound look x.naming Alone a → (st : Stand) (c : Code) (ts0 r0 : Input) → Yield c s (child a (λ y. Produces a y)) g ts0 r0 → Known ts0.places → (b : Spacing) (ts : Input) (K : Spacing → Input → Type 0)
      → says x.naming (full look st (yield_expr s a g)) b ts K → Out look x.naming st (yield_expr s a g) c ts0 r0 b ts K
  yield_on s a false f st c ts0 r0 h k b ts K q =
      let n = above assignment_level (level a) (omega arith) h.4.0 in
      let i = skip x.naming (starts_with_word a || formats look) Touching q.0 _ (subst (λ (v : Bool). says x.naming (when v (gap_or look (starts_with_word a) · laid look Alone a)) Touching q.0 K) (there a ∙ ap not (present a n)) q.2) in
      let y = expr look x.naming assignment_level Alone a f (omega arith) c h.0 r0 h.4 (x.later ts0 h.0 h.2.3 k) _ q.0 K i in record {
        d = y.d;
        m = y.m;
        more = y.more;
        known = y.known;
        broke = q.1.broke;
        tight = λ e. y.tight (tight_of a n);
        begins = led ts0 r0 ts y.m yield_kind h.2.0 (keyed look x yield_kind q.1) refl;
        again = λ g. let w = y.again (follow_on st (yield_expr s a false) Alone a r0 r0 y.m refl n g) in let e = expr_low look x.naming assignment_level Alone a c q.0 y.m h.4.0 (omega arith) w in record {
          tree = yield_expr (span (lo ts) y.m.last) w.tree false;
          produced = as_yield (span (lo ts) y.m.last) w.tree false (unplaced c) ts y.m (above assignment_level (level w.tree) (omega arith) e.0) (q.0, h.1, worded look x c yield_kind q.1, behind_word look x yield_kind refl q.1 y.broke ∙ blank_broke (starts_with_word a || formats look) Touching, e, refl);
          directive = refl;
          quoted = λ p q. refl;
          same = record { so = λ n. ap (λ (t : Tree). yield_expr no_place t false) (w.same.so Plain) };
        };
      }
  yield_on s a true f st c ts0 r0 h k b ts K q =
      let n = above assignment_level (level a) (omega arith) h.6.0 in
      let p = q.2 in
      let i = skip x.naming (formats look) Touching p.0 _ (subst (λ (v : Bool). says x.naming (when v (gap look · laid look Alone a)) Touching p.0 K) (there a ∙ ap not (present a n)) p.2) in
      let y = expr look x.naming assignment_level Alone a f (omega arith) c h.1 r0 h.6 (x.later h.0 h.1 h.5.2 (x.later ts0 h.0 h.3.3 k)) _ p.0 K i in record {
        d = y.d;
        m = y.m;
        more = y.more;
        known = y.known;
        broke = q.1.broke;
        tight = λ e. y.tight (tight_of a n);
        begins = led ts0 r0 ts y.m yield_kind h.3.0 (keyed look x yield_kind q.1) refl;
        again = λ g. let w = y.again (follow_on st (yield_expr s a true) Alone a r0 r0 y.m refl n g) in let e = expr_low look x.naming assignment_level Alone a c p.0 y.m h.6.0 (omega arith) w in record {
          tree = yield_expr (span (lo ts) y.m.last) w.tree true;
          produced = as_yield (span (lo ts) y.m.last) w.tree true (unplaced c) ts y.m (above assignment_level (level w.tree) (omega arith) e.0) (q.0, p.0, h.2, worded look x c yield_kind q.1, behind_word look x yield_kind refl q.1 p.1.broke, took look x c mul_kind p.1, e, refl);
          directive = refl;
          quoted = λ p q. refl;
          same = record { so = λ n. ap (λ (t : Tree). yield_expr no_place t true) (w.same.so Plain) };
        };
      }
