-- Unary operators, updates and conditionals derived again (13.4, 13.5, 13.14).
use Rattle.std.proofs.Common.{Bool, ap, ap₂, arith, false, if◌then◌else◌, not, refl, subst, sym, true, true≢false, ℕ, ◌&&◌, ◌==◌, ◌||◌, ◌∙◌, ◌≡◌, ◌≤◌}
use Rattle.std.proofs.lemmas.Bool.{ne_eqb, or_right, eqb-false}
use Rattle.base_token.specs.Kinds.{await_kind, colon_kind, dot_kind, function_kind, question_mark_kind}
use Rattle.base_token.specs.declared.place.Span.{Span}
use Rattle.tree_spec.specs.Places.{no_place}
use Rattle.tree_spec.specs.Tree.{Tree, await_expr, cond_expr, unary_expr, update_expr}
use Rattle.grammar_spec.specs.Tokens.Input.{Code, Input, assigning, escaped, kind, kind2, lo, span, unplaced, with_in}
use Rattle.grammar_spec.specs.Tokens.Operators.{assignment_level, coalesce_level, new_level, unary_level}
use Rattle.grammar_spec.specs.Tokens.Shape.{level}
use Rattle.grammar_spec.specs.Expressions.{is_unary_op, is_update_op}
use Rattle.grammar_spec.specs.Grammar.{Produces}
use Rattle.grammar_laws.proofs.complete_base.Trees.{begins, by_unary, by_update, covered, starts}
use Rattle.print_gaps.specs.Edges.{gap_of_unary, is_word_operator, starts_with_word}
use Rattle.print_pages_spec.specs.Pieces.{Blank}
use Rattle.print_layout_spec.specs.Looks.{formats, gap_or, one, when}
use Rattle.print_layout_spec.specs.declared.look.Look.{Look}
use Rattle.print_layout_spec.specs.declared.look.Stand.{Stand}
use Rattle.print_layout_spec.specs.declared.look.Stand.TheVariants.{Alone}
use Rattle.again_laws.specs.Tokens.Ties.{is_held}
use Rattle.again_laws.specs.Tokens.Spacings.{Spacing, Touching, is_broken}
use Rattle.again_laws.specs.Tokens.Lexicon.{Lexicon}
use Rattle.again_laws.specs.Tokens.Told.{says}
use Rattle.again_laws.specs.Derived.Redo.{Plain}
use Rattle.again_laws.proofs.derived_rules.Begins.{before, led, two_told}
use Rattle.again_laws.proofs.derived_rules.Ends.{above}
use Rattle.again_laws.proofs.derived_rules.Follow.{calm, calm_of, closes, follow_by, follow_on, no_item}
use Rattle.again_laws.proofs.derived_rules.Sound.{Sound, expr, expr_begins, expr_low, tight_of}
use Rattle.again_laws.proofs.derived_rules.Tokens.{before_held, keyed, marked, skip, took, unbarred, worded}

update_sign : (op : ℕ) → is_update_op op ≡ true → (is_unary_op op || is_update_op op) ≡ true
update_sign op h = or_right (is_unary_op op) (is_update_op op) h

-- behind a `?` that no point follows
asked_calm : (m : Input) → kind m ≡ question_mark_kind → (kind2 m ≡ dot_kind → ⊥) → calm m ≡ true
asked_calm m e n = subst (λ (k : ℕ). calm_of k (kind2 m) ≡ true) (sym e) (by (kind2 m == dot_kind) (ne_eqb (kind2 m) dot_kind n))
  where
    by : (b : Bool) → b ≡ false → not (false || (false || (false || (false || (true && b))))) ≡ true
    by true e = absurd (true≢false e)
    by false e = refl

module _ (look : Look) (x : Lexicon look.style) where
  unary_gap : (op : ℕ) (a : Tree) (v : Bool) (b : Spacing) (ts : Input) (K : Spacing → Input → Type 0) → says x.naming (if v then gap_or look (starts_with_word a) else when (gap_of_unary op a) (one Blank)) b ts K → (d : Spacing) × K d ts
  unary_gap op a true b ts K i = (_, skip x.naming (starts_with_word a || formats look) b ts K i)
  unary_gap op a false b ts K i = (_, skip x.naming (gap_of_unary op a) b ts K i)

  pub unary_on : (s : Span) (op : ℕ) (a : Tree) → Sound look x.naming Alone a → (st : Stand) → Sound look x.naming st (unary_expr s op a)
  unary_on s op a f st c ts0 r0 h k b ts K q =
      let o = x.signs op _ _ _ q.1.means in
      let y = expr look x.naming unary_level Alone a f (omega arith) c h.0 r0 h.3 (x.later ts0 h.0 h.2.3 k) _ q.0 K (unary_gap op a (is_word_operator op) Touching q.0 _ q.2).1 in record {
        d = y.d;
        m = y.m;
        more = y.more;
        known = y.known;
        broke = q.1.broke;
        tight = λ e. y.tight (tight_of a (above unary_level (level a) (omega arith) h.3.0));
        begins = led ts0 r0 ts y.m op h.2.0 o.0 (by_unary op (λ o. two_told o ≡ false) h.1 refl refl refl refl refl refl refl);
        again = λ g. let w = y.again (follow_on st (unary_expr s op a) Alone a r0 r0 y.m refl (above unary_level (level a) (omega arith) h.3.0) g) in record {
          tree = unary_expr (span (lo ts) y.m.last) op w.tree;
          produced = (q.0, h.1, (o.0, unbarred c.context (escaped ts) (kind ts) o.1, tt, q.1.after), expr_low look x.naming unary_level Alone a c q.0 y.m h.3.0 (omega arith) w, refl);
          directive = refl;
          quoted = λ p q. refl;
          same = record { so = λ n. ap (λ (t : Tree). unary_expr no_place op t) (w.same.so Plain) };
        };
      }

  pub update_on : (s : Span) (op : ℕ) (p : Bool) (a : Tree) → Sound look x.naming Alone a → (st : Stand) → Sound look x.naming st (update_expr s op p a)
  update_on s op true a f st c ts0 r0 h k b ts K q =
      let o = x.signs op _ _ _ q.1.means in
      let y = expr look x.naming unary_level Alone a f (omega arith) c h.0 r0 h.3 (x.later ts0 h.0 h.2.2 k) _ q.0 K q.2 in record {
        d = y.d;
        m = y.m;
        more = y.more;
        known = y.known;
        broke = q.1.broke;
        tight = λ e. y.tight (tight_of a (above unary_level (level a) (omega arith) h.3.0));
        begins = led ts0 r0 ts y.m op h.2.0 o.0 (by_update op (λ o. two_told o ≡ false) h.1 refl refl);
        again = λ g. let w = y.again (follow_on st (update_expr s op true a) Alone a r0 r0 y.m refl (above unary_level (level a) (omega arith) h.3.0) g) in record {
          tree = update_expr (span (lo ts) y.m.last) op true w.tree;
          produced = (q.0, h.1, (o.0, tt, q.1.after), expr_low look x.naming unary_level Alone a c q.0 y.m h.3.0 (omega arith) w, refl);
          directive = refl;
          quoted = λ p q. refl;
          same = record { so = λ n. ap (λ (t : Tree). update_expr no_place op true t) (w.same.so Plain) };
        };
      }
  update_on s op false a f st c ts0 r0 h k b ts K q =
      let n = above new_level (level a) (omega arith) h.2.0 in
      let y = expr look x.naming new_level Alone a f (omega arith) c ts0 h.0 h.2 k b ts _ q in
      let p = y.more in
      let o = x.signs op _ _ _ p.1.means in record {
        d = Touching;
        m = p.0;
        more = p.2;
        known = x.later h.0 r0 h.4.2 y.known;
        broke = y.broke;
        tight = λ e. refl;
        begins = before ts0 h.0 ts y.m r0 p.0 (λ l. refl) (expr_begins look x.naming Alone a (assigning c) ts0 h.0 b ts _ n y) (o.0 ∙ sym h.4.0) (λ e. by_update op (λ o. o ≡ function_kind → ⊥) h.1 (λ e. omega arith) (λ e. omega arith) (sym o.0 ∙ e));
        again = λ g. let w = y.again (follow_by Alone a h.0 y.m op o.0 (by_update op (λ o. closes o ≡ true) h.1 refl refl)) in record {
          tree = update_expr (span (lo ts) p.0.last) op false w.tree;
          produced = (y.m, h.1, expr_low look x.naming new_level Alone a c ts y.m h.2.0 (omega arith) w, before_held look x p.1 (ap is_held o.0 ∙ by_update op (λ (k : ℕ). is_held k ≡ true) h.1 refl refl) ∙ ap is_broken (y.tight (tight_of a n)), (o.0, tt, p.1.after), refl);
          directive = refl;
          quoted = λ p q. refl;
          same = record { so = λ n. ap (λ (t : Tree). update_expr no_place op false t) (w.same.so Plain) };
        };
      }

  pub conditional_on : (s : Span) (a b d : Tree) → Sound look x.naming Alone a → Sound look x.naming Alone b → Sound look x.naming Alone d → (st : Stand) → Sound look x.naming st (cond_expr s a b d)
  conditional_on s a b d f g j st c ts0 r0 h k br ts K q =
      let y = expr look x.naming coalesce_level Alone a f (omega arith) c ts0 h.0 h.4 k br ts _ q in
      let i = skip x.naming (formats look) _ _ _ y.more in
      let l = skip x.naming (formats look) _ _ _ i.2 in
      let z = expr look x.naming assignment_level Alone b g (omega arith) (with_in c) h.1 h.2 h.6 (x.later h.0 h.1 h.5.2 y.known) _ i.0 _ l in
      let n = skip x.naming (formats look) _ _ _ z.more in
      let o = skip x.naming (formats look) _ _ _ n.2 in
      let v = expr look x.naming assignment_level Alone d j (omega arith) c h.3 r0 h.8 (x.later h.2 h.3 h.7.2 z.known) _ n.0 K o in
      let t = marked look x question_mark_kind i.1 in record {
        d = v.d;
        m = v.m;
        more = v.more;
        known = v.known;
        broke = y.broke;
        tight = λ e. v.tight (tight_of d (above assignment_level (level d) (omega arith) h.8.0));
        begins = before ts0 h.0 ts y.m r0 v.m (λ l. refl) (expr_begins look x.naming Alone a (assigning c) ts0 h.0 br ts _ (above coalesce_level (level a) (omega arith) h.4.0) y) (t ∙ sym h.5.0) (λ e. eqb-false question_mark_kind function_kind refl (sym t ∙ e));
        again = λ u.
            let p = z.again (follow_by Alone b h.2 z.m colon_kind (marked look x colon_kind n.1) refl) in
            let r = expr_low look x.naming assignment_level Alone b (with_in c) i.0 z.m h.6.0 (omega arith) p in
            let w = y.again (record { quiet = λ e. asked_calm y.m t (λ e. no_point (begins_at p.tree (assigning (with_in (unplaced c))) i.0 z.m (above assignment_level (level p.tree) (omega arith) r.0) r.1) (sym (ap kind i.1.after) ∙ e)); other = λ e. absurd (no_item a (above coalesce_level (level a) (omega arith) h.4.0) e) }) in
            let m = v.again (follow_on st (cond_expr s a b d) Alone d r0 r0 v.m refl (above assignment_level (level d) (omega arith) h.8.0) u) in record {
              tree = cond_expr (span (lo ts) v.m.last) w.tree p.tree m.tree;
              produced = (y.m, i.0, z.m, n.0, expr_low look x.naming coalesce_level Alone a c ts y.m h.4.0 (omega arith) w, took look x c question_mark_kind i.1, r, took look x c colon_kind n.1, expr_low look x.naming assignment_level Alone d c n.0 v.m h.8.0 (omega arith) m, refl);
              directive = refl;
              quoted = λ p q. refl;
              same = record { so = λ n. three (w.same.so Plain) (p.same.so Plain) (m.same.so Plain) };
            };
      }
    where
      three : {a u b v d w : Tree} → a ≡ u → b ≡ v → d ≡ w → cond_expr no_place a b d ≡ cond_expr no_place u v w
      three p q r = ap₂ (λ (t : Tree × Tree) (e : Tree). cond_expr no_place t.0 t.1 e) (ap₂ (λ (t a : Tree). (t, a)) p q) r

      begins_at : (t : Tree) (c : Code) (ts r : Input) → 1 ≤ level t → Produces t c ts r → begins (kind ts) ≡ true
      begins_at t c ts r h s = starts t c ts r (covered t) h s

      no_point : {k : ℕ} → begins k ≡ true → k ≡ dot_kind → ⊥
      no_point h e = true≢false (sym (ap begins (sym e) ∙ h))

  pub await_on : (s : Span) (a : Tree) → Sound look x.naming Alone a → (st : Stand) → Sound look x.naming st (await_expr s a)
  await_on s a f st c ts0 r0 h k b ts K q =
      let n = above unary_level (level a) (omega arith) h.3.0 in
      let y = expr look x.naming unary_level Alone a f (omega arith) c h.0 r0 h.3 (x.later ts0 h.0 h.2.3 k) _ q.0 K q.2 in record {
        d = y.d;
        m = y.m;
        more = y.more;
        known = y.known;
        broke = q.1.broke;
        tight = λ e. y.tight (tight_of a n);
        begins = led ts0 r0 ts y.m await_kind h.2.0 (keyed look x await_kind q.1) refl;
        again = λ g. let w = y.again (follow_on st (await_expr s a) Alone a r0 r0 y.m refl n g) in record {
          tree = await_expr (span (lo ts) y.m.last) w.tree;
          produced = (q.0, h.1, worded look x c await_kind q.1, expr_low look x.naming unary_level Alone a c q.0 y.m h.3.0 (omega arith) w, refl);
          directive = refl;
          quoted = λ p q. refl;
          same = record { so = λ n. ap (λ (t : Tree). await_expr no_place t) (w.same.so Plain) };
        };
      }
