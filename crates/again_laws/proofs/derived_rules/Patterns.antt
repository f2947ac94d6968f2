-- Patterns derived again: they bind names, or assign to targets (13.15.5, 14.3.3).
use Rattle.std.proofs.Common.{Bool, ap, ap₂, arith, codes, false, inl, not, refl, subst, sym, true, true≢false, ◌&&◌, ◌∙◌, ◌≡◌}
use Rattle.std.proofs.lemmas.Bool.{and_parts, eqb-false}
use Rattle.base_proofs.proofs.Bools.{not_and_false}
use Rattle.base_token.specs.Kinds.{assign_kind, colon_kind, dot_dot_dot_kind, else_kind, left_brace_kind, left_bracket_kind, right_brace_kind, right_bracket_kind}
use Rattle.base_token.specs.declared.place.Span.{Span}
use Rattle.tree_spec.specs.Places.{no_place}
use Rattle.tree_spec.specs.Tree.{Tree, Trees, array_pat, assign_pat, assign_pat_prop, binding_ident, expr_pat, ident, key_value_pat_prop, member_expr, more, none, object_pat, paren_expr, rest_pat, super_prop_expr}
use Rattle.grammar_spec.specs.Tokens.Input.{Code, Input, assigning, dots_at, lo, span, unplaced, with_in}
use Rattle.grammar_spec.specs.Tokens.Operators.{assignment_level}
use Rattle.grammar_spec.specs.Tokens.Shape.{is_absent, is_bound_name, is_item_pat, is_pattern_prop, is_place, is_rest, is_simple, is_target_expr, level, takes_rest}
use Rattle.grammar_spec.specs.Children.{is_module_item}
use Rattle.grammar_spec.specs.Patterns.{Item, Property}
use Rattle.print_layout_spec.specs.Layout.{comma, laid}
use Rattle.print_layout_spec.specs.Looks.{formats, gap, text, when, ◌·◌}
use Rattle.print_layout_spec.specs.declared.look.Look.{Look}
use Rattle.print_layout_spec.specs.declared.look.Stand.{Stand}
use Rattle.print_layout_spec.specs.declared.look.Stand.TheVariants.{Alone}
use Rattle.again_laws.specs.Tokens.Spacings.{Touching}
use Rattle.again_laws.specs.Tokens.Lexicon.{Lexicon}
use Rattle.again_laws.specs.Tokens.Told.{says}
use Rattle.again_laws.specs.Derived.Redo.{Leaves, Mode, Plain, redo}
use Rattle.again_laws.proofs.derived_rules.Naming.{leaves_at}
use Rattle.again_laws.proofs.derived_rules.Begins.{Begins, Starts, begun, first_token, is_loose, is_part, is_weak, led, same_start}
use Rattle.again_laws.proofs.derived_rules.Ends.{above, initial_on, there}
use Rattle.again_laws.proofs.derived_rules.Follow.{Follow, calm, closed_calm, no_item}
use Rattle.again_laws.proofs.derived_rules.KeyParts.{KeyPart}
use Rattle.again_laws.proofs.derived_rules.Lists.{Each, comma_on, holed, listed}
use Rattle.again_laws.proofs.derived_rules.Shapes.{alike, re_is_bound_name, re_is_item_pat, re_is_pattern_prop, re_is_place, re_is_rest, re_is_simple, re_is_structured, re_is_target_expr}
use Rattle.again_laws.proofs.derived_rules.Sound.{AllSound, Sound, expr, expr_low, plain_part, tight_of}
use Rattle.again_laws.proofs.derived_rules.Tokens.{marked, named, skip, took}
use Rattle.again_laws.proofs.derived_rules.Keys.{key_on}

-- what is no declaration and no statement
abbrev pub Plainly : Tree → Type 0
Plainly t = (is_part t ≡ true) × (is_module_item t ≡ false)

pub place_plain : (b : Bool) (t : Tree) → is_place b t ≡ true → Plainly t
place_plain b (binding_ident s i) h = (refl, refl)
place_plain b (array_pat s xs) h = (refl, refl)
place_plain b (object_pat s ps) h = (refl, refl)
place_plain b (expr_pat e) h = (refl, refl)
place_plain b _ h = absurd (not_and_false (not b) h)

pub item_plain : (b : Bool) (t : Tree) → is_item_pat b t ≡ true → Plainly t
item_plain b (assign_pat s p e) h = (refl, refl)
item_plain b (rest_pat s d p) h = (refl, refl)
item_plain b (binding_ident s i) h = place_plain b (binding_ident s i) h
item_plain b (array_pat s xs) h = place_plain b (array_pat s xs) h
item_plain b (object_pat s ps) h = place_plain b (object_pat s ps) h
item_plain b (expr_pat e) h = place_plain b (expr_pat e) h
item_plain b _ h = absurd (not_and_false (not b) h)

prop_plain : (b : Bool) (t : Tree) → is_pattern_prop t ≡ true → Plainly t
prop_plain b (key_value_pat_prop s k v) h = (refl, refl)
prop_plain b (assign_pat_prop s k v) h = (refl, refl)
prop_plain b (rest_pat s d a) h = (refl, refl)
prop_plain b _ h = absurd (true≢false (sym h))

bound_plain : (t : Tree) → is_bound_name t ≡ true → Plainly t
bound_plain (binding_ident s i) h = (refl, refl)
bound_plain _ h = absurd (true≢false (sym h))

re_takes_rest : (l : Leaves) (m : Mode) (t : Tree) → takes_rest (redo l m t) ≡ takes_rest t
re_takes_rest l m (rest_pat s d a) = ap not (re_is_structured l Plain a)
re_takes_rest l m _ = refl

re_is_target_simple : (l : Leaves) (m : Mode) (t : Tree) → (is_target_expr (redo l m t) && is_simple (redo l m t)) ≡ (is_target_expr t && is_simple t)
re_is_target_simple l m t = ap₂ (λ (a b : Bool). a && b) (re_is_target_expr l m t) (re_is_simple l m t)

-- what follows a part that ends its whole
passed : (t : Tree) (r m : Input) → is_module_item t ≡ false → calm m ≡ true → Follow Alone t r m
passed t r m i g = record { quiet = λ e. g; other = λ e. absurd (true≢false (sym e ∙ i)) }

module _ (look : Look) (x : Lexicon look.style) where
  pub binding_on : (s : Span) (i : Tree) (st : Stand) → Sound look x.naming st (binding_ident s i)
  binding_on s (ident t n) st c ts0 r0 h k b ts K q =
      let z = named look x c n ts0 r0 ts q.0 h.1.0 k q.1.told in record {
        d = Touching;
        m = q.0;
        more = q.2;
        known = x.later ts0 r0 h.1.0.5 k;
        broke = q.1.told.broke;
        tight = λ e. refl;
        begins = same_start z.0 (λ e. inl (h.1.0.5, q.1.told.after));
        again = λ f. record {
          tree = binding_ident (span (lo ts) q.0.last) (ident (span (lo ts) q.0.last) n);
          produced = (refl, (z.1, refl));
          directive = refl;
          quoted = λ p q. refl;
          same = record { so = λ m. ap (λ (p : Span). binding_ident no_place (ident p n)) (q.1.stands ∙ ap (λ (p : Span). x.naming.read p.lo.0) h.0) };
        };
      }
  binding_on s _ st c ts0 r0 h k b ts K q = absurd h

  item_each : (c : Code) → Each look x (Item c) (Item (unplaced c))
  item_each c t f ts0 r0 h k b ts K q =
      let p = item_plain c.binds t h.0 in
      let z = plain_part look x.naming Alone t f p.0 (with_in c) ts0 r0 h.1 k b ts K q in record {
        d = z.d;
        m = z.m;
        more = z.more;
        known = z.known;
        broke = z.broke;
        tight = λ i. z.tight (tight_of t i);
        begins = z.begins;
        again = λ g. let w = z.again (passed t r0 z.m p.1 g) in (w.tree, (alike (is_item_pat c.binds) (re_is_item_pat c.binds) (leaves_at look x.naming) Plain t w.tree w.same ∙ h.0, w.produced), w.same);
      }

  property_each : (c : Code) → Each look x (Property c) (Property (unplaced c))
  property_each c t f ts0 r0 h k b ts K q =
      let p = prop_plain c.binds t h.0 in
      let z = plain_part look x.naming Alone t f p.0 (with_in c) ts0 r0 h.2 k b ts K q in record {
        d = z.d;
        m = z.m;
        more = z.more;
        known = z.known;
        broke = z.broke;
        tight = λ i. z.tight (tight_of t i);
        begins = z.begins;
        again = λ g. let w = z.again (passed t r0 z.m p.1 g) in (w.tree, (alike is_pattern_prop re_is_pattern_prop (leaves_at look x.naming) Plain t w.tree w.same ∙ h.0, alike takes_rest re_takes_rest (leaves_at look x.naming) Plain t w.tree w.same ∙ h.1, w.produced), w.same);
      }

  pub array_pattern_on : (s : Span) (xs : Trees) → AllSound look x.naming xs → (st : Stand) → Sound look x.naming st (array_pat s xs)
  array_pattern_on s xs a st c ts0 r0 h k b ts K q =
      let z = holed look x (Item c) (Item (unplaced c)) (item_each c) c right_bracket_kind refl (comma look) (comma_on look x) xs a h.0 r0 h.2 (x.later ts0 h.0 h.1.2 k) _ q.0 _ (λ d m o. marked look x right_bracket_kind o.1) q.2 in
      let o = z.more in record {
        d = Touching;
        m = o.0;
        more = o.2;
        known = z.known;
        broke = q.1.broke;
        tight = λ e. refl;
        begins = led ts0 r0 ts o.0 left_bracket_kind h.1.0 (marked look x left_bracket_kind q.1) refl;
        again = λ g. let w = z.again o.0 (took look x c right_bracket_kind o.1) in record {
          tree = array_pat (span (lo ts) o.0.last) w.0;
          produced = (q.0, took look x c left_bracket_kind q.1, w.1, refl);
          directive = refl;
          quoted = λ p q. refl;
          same = record { so = λ n. ap (λ (us : Trees). array_pat no_place us) (w.2.so Plain) };
        };
      }

  pub object_pattern_on : (s : Span) (ps : Trees) → AllSound look x.naming ps → (st : Stand) → Sound look x.naming st (object_pat s ps)
  object_pattern_on s none a st c ts0 r0 h k b ts K q =
      let o = q.2 in record {
        d = Touching;
        m = o.0;
        more = o.2;
        known = x.later h.0 r0 h.2.2 (x.later ts0 h.0 h.1.2 k);
        broke = q.1.broke;
        tight = λ e. refl;
        begins = led ts0 r0 ts o.0 left_brace_kind h.1.0 (marked look x left_brace_kind q.1) refl;
        again = λ g. record {
          tree = object_pat (span (lo ts) o.0.last) none;
          produced = (q.0, took look x c left_brace_kind q.1, took look x c right_brace_kind o.1, refl);
          directive = refl;
          quoted = λ p q. refl;
          same = record { so = λ n. refl };
        };
      }
  object_pattern_on s (more p ps) a st c ts0 r0 h k b ts K q =
      let i = skip x.naming (formats look) _ _ _ q.2 in
      let z = listed look x (Property c) (Property (unplaced c)) (property_each c) c right_brace_kind refl (comma look) (comma_on look x) (more p ps) a h.0 r0 h.2 (x.later ts0 h.0 h.1.2 k) _ q.0 _ (λ d m o. let j = skip x.naming (formats look) _ _ _ o in marked look x right_brace_kind j.1) i in
      let o = skip x.naming (formats look) _ _ _ z.more in record {
        d = Touching;
        m = o.0;
        more = o.2;
        known = z.known;
        broke = q.1.broke;
        tight = λ e. refl;
        begins = led ts0 r0 ts o.0 left_brace_kind h.1.0 (marked look x left_brace_kind q.1) refl;
        again = λ g. let w = z.again o.0 (took look x c right_brace_kind o.1) in record {
          tree = object_pat (span (lo ts) o.0.last) w.0;
          produced = (q.0, took look x c left_brace_kind q.1, w.1, refl);
          directive = refl;
          quoted = λ p q. refl;
          same = record { so = λ n. ap (λ (us : Trees). object_pat no_place us) (w.2.so Plain) };
        };
      }

  pub rest_on : (s d : Span) (p : Tree) → Sound look x.naming Alone p → (st : Stand) → Sound look x.naming st (rest_pat s d p)
  rest_on s d p f st c ts0 r0 h k b ts K q =
      let i = place_plain c.binds p h.3 in
      let z = plain_part look x.naming Alone p f i.0 c h.0 r0 h.4 (x.later ts0 h.0 h.1.2 k) _ q.0 K q.2 in record {
        d = z.d;
        m = z.m;
        more = z.more;
        known = z.known;
        broke = q.1.broke;
        tight = λ e. absurd (true≢false (sym e));
        begins = λ e. absurd (eqb-false dot_dot_dot_kind else_kind refl (sym (marked look x dot_dot_dot_kind q.1) ∙ e));
        again = λ g. let w = z.again (passed p r0 z.m i.1 (g.quiet refl)) in record {
          tree = rest_pat (span (lo ts) z.m.last) (dots_at (lo ts)) w.tree;
          produced = (q.0, took look x c dot_dot_dot_kind q.1, refl, alike (is_place c.binds) (re_is_place c.binds) (leaves_at look x.naming) Plain p w.tree w.same ∙ h.3, w.produced, refl);
          directive = refl;
          quoted = λ p q. refl;
          same = record { so = λ n. ap (λ (t : Tree). rest_pat no_place no_place t) (w.same.so Plain) };
        };
      }

  pub initialised_on : (s : Span) (p e : Tree) → Sound look x.naming Alone p → Sound look x.naming Alone e → (st : Stand) → Sound look x.naming st (assign_pat s p e)
  initialised_on s p e f g st c ts0 r0 h k b ts K q =
      let i = place_plain c.binds p h.2 in
      let y = plain_part look x.naming Alone p f i.0 c ts0 h.0 h.3 k b ts _ q in
      let j = skip x.naming (formats look) _ _ _ y.more in
      let l = skip x.naming (formats look) _ _ _ j.2 in
      let z = expr look x.naming assignment_level Alone e g (omega arith) (with_in c) h.1 r0 h.5 (x.later h.0 h.1 h.4.2 y.known) _ j.0 K l in
      let a = marked look x assign_kind j.1 in record {
        d = z.d;
        m = z.m;
        more = z.more;
        known = z.known;
        broke = y.broke;
        tight = λ e. absurd (true≢false (sym e));
        begins = first_token (is_weak p) (is_loose p) ts0 h.0 ts y.m y.begins;
        again = λ n. let u = y.again (passed p h.0 y.m i.1 (closed_calm y.m assign_kind a refl)) in let w = z.again (record { quiet = λ e. n.quiet refl; other = λ v. absurd (no_item e (above assignment_level (level e) (omega arith) h.5.0) v) }) in record {
          tree = assign_pat (span (lo ts) z.m.last) u.tree w.tree;
          produced = (y.m, j.0, alike (is_place c.binds) (re_is_place c.binds) (leaves_at look x.naming) Plain p u.tree u.same ∙ h.2, u.produced, took look x c assign_kind j.1, expr_low look x.naming assignment_level Alone e (with_in c) j.0 z.m h.5.0 (omega arith) w, refl);
          directive = refl;
          quoted = λ p q. refl;
          same = record { so = λ n. ap₂ (λ (t u : Tree). assign_pat no_place t u) (u.same.so Plain) (w.same.so Plain) };
        };
      }

  pub named_item_on : (s : Span) (p e : Tree) → Sound look x.naming Alone p → Sound look x.naming Alone e → (st : Stand) → Sound look x.naming st (assign_pat_prop s p e)
  named_item_on s p e f g st c ts0 r0 h k b ts K q =
      let i = bound_plain p h.1.0 in
      let y = plain_part look x.naming Alone p f i.0 c ts0 h.0 h.1.1 k b ts _ q in
      let v = initial_on look x e g c (with_in c) (is_absent e) refl h.0 r0 h.2 y.known y.d y.m K (subst (λ (w : Bool). says x.naming (when w (gap look · text (codes "=") · gap look · laid look Alone e)) y.d y.m K) (there e) y.more) in record {
        d = v.d;
        m = v.m;
        more = v.more;
        known = v.known;
        broke = y.broke;
        tight = λ e. absurd (true≢false (sym e));
        begins = first_token (is_weak p) (is_loose p) ts0 h.0 ts y.m y.begins;
        again = λ l. let w = y.again (passed p h.0 y.m i.1 (v.calms (l.quiet refl))) in let o = v.again (l.quiet refl) in record {
          tree = assign_pat_prop (span (lo ts) v.m.last) w.tree o.0;
          produced = (y.m, (alike is_bound_name re_is_bound_name (leaves_at look x.naming) Plain p w.tree w.same ∙ h.1.0, w.produced), o.1, refl);
          directive = refl;
          quoted = λ p q. refl;
          same = record { so = λ n. ap₂ (λ (t u : Tree). assign_pat_prop no_place t u) (w.same.so Plain) (o.2.so Plain) };
        };
      }

  pub target_on : (e : Tree) → Sound look x.naming Alone e → (st : Stand) → Sound look x.naming st (expr_pat e)
  target_on e f st c ts0 r0 h k b ts K q =
      let t = targets e (and_parts (is_target_expr e) (is_simple e) h.0).0 in
      let z = plain_part look x.naming Alone e f t.0 c ts0 r0 h.1 k b ts K q in record {
        d = z.d;
        m = z.m;
        more = z.more;
        known = z.known;
        broke = z.broke;
        tight = λ e. absurd (true≢false (sym e));
        begins = subst (λ (v : Bool). Starts v false ts0 r0 ts z.m) (sym (ap not (and_parts (is_target_expr e) (is_simple e) h.0).0)) (subst (λ (v : Bool). Begins v ts0 r0 ts z.m) t.2 (begun (is_weak e) (is_loose e) ts0 r0 ts z.m t.1 z.begins));
        again = λ g. let w = z.again (passed e r0 z.m t.3 (g.quiet refl)) in record {
          tree = expr_pat w.tree;
          produced = (alike (λ (t : Tree). is_target_expr t && is_simple t) re_is_target_simple (leaves_at look x.naming) Plain e w.tree w.same ∙ h.0, w.produced);
          directive = refl;
          quoted = λ p q. refl;
          same = record { so = λ n. ap (λ (t : Tree). expr_pat t) (w.same.so Plain) };
        };
      }
    where
      targets : (e : Tree) → is_target_expr e ≡ true → (is_part e ≡ true) × (is_weak e ≡ false) × (is_loose e ≡ false) × (is_module_item e ≡ false)
      targets (member_expr s o p) h = (refl, refl, refl, refl)
      targets (super_prop_expr s o p) h = (refl, refl, refl, refl)
      targets (paren_expr s e) h = (refl, refl, refl, refl)
      targets _ h = absurd (true≢false (sym h))

  -- a key and an item
  pub keyed_item_on : (s : Span) (k a : Tree) → KeyPart look x.naming k → Sound look x.naming Alone a → (st : Stand) → Sound look x.naming st (key_value_pat_prop s k a)
  keyed_item_on s k a f g st c ts0 r0 h l b ts K q =
      let y = key_on look x k f (assigning c) ts0 h.0 h.2 l b ts _ q in
      let t = y.more in
      let i = skip x.naming (formats look) Touching t.0 _ t.2 in
      let p = item_plain c.binds a h.4.0 in
      let v = plain_part look x.naming Alone a g p.0 (with_in c) h.1 r0 h.4.1 (x.later h.0 h.1 h.3.2 y.known) _ t.0 K i in record {
        d = v.d;
        m = v.m;
        more = v.more;
        known = v.known;
        broke = y.broke;
        tight = λ i. absurd (true≢false (sym i));
        begins = y.first;
        again = λ l. let o = v.again (passed a r0 v.m p.1 (l.quiet refl)) in record {
          tree = key_value_pat_prop (span (lo ts) v.m.last) y.again.0 o.tree;
          produced = (y.m, t.0, (y.again.1, y.again.2), took look x c colon_kind t.1, (alike (is_item_pat c.binds) (re_is_item_pat c.binds) (leaves_at look x.naming) Plain a o.tree o.same ∙ h.4.0, o.produced), alike is_rest re_is_rest (leaves_at look x.naming) Plain a o.tree o.same ∙ h.5, refl);
          directive = refl;
          quoted = λ p q. refl;
          same = record { so = λ n. ap₂ (λ (t u : Tree). key_value_pat_prop no_place t u) (y.again.3 Plain) (o.same.so Plain) };
        };
      }
