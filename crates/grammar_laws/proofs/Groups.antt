-- Templates, arrows, and what stands in parentheses.
use Rattle.std.proofs.Common.{◌≡◌, ℕ, ◌≤◌, Bool, true, false, not, ◌&&◌, ◌||◌, cond, eqb, leb, List, [], ◌∷◌, ◌++◌, Option, Some, None, Result, Ok, Err, refl, sym, ap, subst, ⊎_elim, true≢false, append_assoc, append-nil, arith}
use Rattle.std.proofs.lemmas.Bool.{eqb-true, and_parts, not-true}
use Rattle.base_token.specs.declared.place.Span.{Span}
use Rattle.base_token.specs.Kinds.{comma_kind, arrow_kind, left_paren_kind, right_paren_kind, left_brace_kind, right_brace_kind, dollar_brace_kind, back_quote_kind, template_kind}
use Rattle.base_token.specs.Tokens.{Content, Piece}
use Rattle.tree_spec.specs.Tree.{Tree, Trees, pack, block_stmt, tpl, tpl_element, arrow_expr, paren_expr, seq_expr, expr_or_spread, expr_pat}
use Rattle.tree_spec.proofs.PackLemmas.{pack_unpack}
use Rattle.tree_spec.specs.Places.{place_of}
use Rattle.grammar_spec.specs.Tokens.Input.{Input, Code, kind, brk, content, Takes, lo, span, first_span, with_in, in_arrow, in_list}
use Rattle.grammar_spec.specs.Tokens.Operators.{expression_level, assignment_level}
use Rattle.grammar_spec.specs.Tokens.Shape.{level, is_simple, is_element, is_cooked}
use Rattle.grammar_spec.specs.Children.{child, Expr, Listed, CommaThen}
use Rattle.grammar_spec.specs.Expressions.{TemplateSpans, TemplateLiteral}
use Rattle.grammar_spec.specs.Functions.{Async, ArrowPattern, ArrowParameters, ArrowExpression}
use Rattle.grammar_spec.specs.Grammar.{Produces, children}
use Rattle.grammar_spec.specs.Reader.Source.{Fault, Unexpected, TooDeep, ◌>>=◌, unfit, placed, unexpected, State, Inner, Step, go_on, finished, iterate}
use Rattle.grammar_spec.specs.Reader.Cover.{as_prop, last_rests, to_item, to_items}
use Rattle.grammar_spec.specs.Reader.Expressions.{Elements, Spans as Parted, quasi, quasi_end, quasi_step, template_by, arrows, arrows_at, heads_params, is_read, arrow_by, params_of, plain_element, plain_elements, last_end, joined, group_end}
use Rattle.grammar_laws.proofs.Sure.{lm, seen, next, Sure, done, then_sure, if_sure, test_sure, only_sure, eat_sure, StepSure, loop_sure}
use Rattle.grammar_laws.proofs.Covers.{plain, Holds, then_holds, if_holds, holds_map, IsItem, Elems, IsNil, Element, first_item, items_refine}
use Rattle.grammar_laws.proofs.Nested.{Sound, Made, body_is, dull}

-- ---- templates

abbrev pub IsTemplate : Bool → Code → Input → Input → Tree → Type 0
IsTemplate tagged c ts r (tpl s es qs) = TemplateLiteral tagged c s (children es) (children qs) ts r
IsTemplate tagged c ts r _ = ⊥

record Begun (tagged : Bool) (c : Code) (ts : Input) (x : Parted) (s : State Input) : Type 0 where
  pub so : (es qs : List Tree) (r : Input) → TemplateSpans tagged c (children (pack es)) (children (pack qs)) (seen s) r → TemplateSpans tagged c (children (pack (x.exprs ++ es))) (children (pack (x.quasis ++ qs))) ts r

record Ended (tagged : Bool) (c : Code) (ts : Input) (x : Parted) (s : State Input) : Type 0 where
  pub so : TemplateSpans tagged c (children (pack x.exprs)) (children (pack x.quasis)) ts (seen s)

abbrev Quasis : Bool → Code → Input → Step Parted × State Input → Type 0
Quasis tagged c ts = StepSure (Begun tagged c ts) (Ended tagged c ts)

arrow_with : (c : Code) (s : Span) (ps : Trees) (e : Tree) (i : Bool) (ts r : Input) → 2 ≤ level e → ArrowExpression c s (children ps) (child e (λ y. Produces e y)) i ts r → Produces (arrow_expr s ps e i) c ts r
arrow_with c s ps (block_stmt p ss) i ts r l h = absurd (omega (arith, l))
arrow_with c s ps _ i ts r l h = h

-- ---- parameters out of elements

-- what follows a tree that fits, wherever a fault is found
pub then_placed : {A B : Type 0} (n : ℕ) (k : List ℕ) (r : Result A Fault) (f : A → Result (B × State Input) Fault) (P : A → Type 0) (Q : B × State Input → Type 0) → Holds r P → ((x : A) → P x → Sure k (f x) Q) → Sure k (placed n r >>= f) Q
then_placed n k (Ok x) f P Q p h = h x p.so
then_placed n k (Err (Unexpected i)) f P Q p h = record { so = tt }
then_placed n k (Err (TooDeep i)) f P Q p h = record { so = tt }

abbrev pub IsParams : Code → Input → Input → List Tree → Type 0
IsParams c ts r ps = Listed false (ArrowPattern (plain c)) (plain c) right_paren_kind (children (pack ps)) ts r

pub params_hold : (inner : Inner Input) (c : Code) (k : List ℕ) (xs : Elements) (ts r : Input) → Elems (Element k (with_in c)) false (plain (with_in c)) right_paren_kind xs.comma false xs.items ts r → Holds (params_of lm inner k xs) (IsParams c ts r)
unfolding params_of
params_hold inner c k xs ts r h = if_holds (xs.comma && last_rests xs.items) _ _ _ (λ _. record { so = tt }) (λ z. then_holds (to_items false true k (pack xs.items)) _ (λ ps. Listed false (ArrowPattern (plain c)) (plain c) right_paren_kind (children ps) ts r) _
    (items_refine (Element k (with_in c)) (ArrowPattern (plain c)) false false (λ q. absurd (true≢false (sym q))) (plain (with_in c)) (plain c) (λ j a b t. t) right_paren_kind xs.comma true k
    (λ x a b q. holds_map (as_prop false x (to_item true k x)) _ _ (λ p y. y) (q.refines true)) false xs.items ts r h z)
    (λ ps l. record { so = subst (λ y. Listed false (ArrowPattern (plain c)) (plain c) right_paren_kind (children y) ts r) (sym (pack_unpack ps)) l }))

-- ---- elements without dots, as expressions

abbrev HoldsOption : {A : Type 0} → Option A → (A → Type 0) → Type 0
HoldsOption None P = Unit {0}
HoldsOption (Some x) P = P x

record Holds_some {A : Type 0} (o : Option A) (P : A → Type 0) : Type 0 where
  pub so : HoldsOption o P

some_then : {A B : Type 0} (o : Option A) (f : A → Option B) (P : A → Type 0) (Q : B → Type 0) → Holds_some o P → ((x : A) → P x → Holds_some (f x) Q) → Holds_some (elim o [ None ↦ None | Some e ↦ f e ]) Q
some_then None f P Q p h = record { so = tt }
some_then (Some x) f P Q p h = h x p.so

abbrev IsSeq : Code → Bool → Input → Input → List Tree → List Tree → Type 0
IsSeq c b ts r xs [] = b ≡ false
IsSeq c b ts r xs (e ∷ es) = (m : Input) × (n : Input) × Expr assignment_level (plain c) (child e (λ y. Produces e y)) ts m × CommaThen (Expr assignment_level (plain c)) (plain c) (children (pack es)) m n × Takes (plain c) right_paren_kind n r × (last_end xs ≡ n.last)

plain_one : (k : List ℕ) (c : Code) (x : Tree) (ts r : Input) → Element k (with_in c) x ts r → Holds_some (plain_element x) (λ e. Expr assignment_level (plain (with_in c)) (child e (λ y. Produces e y)) ts r × ((place_of x).hi.0 ≡ r.last))
plain_one k c x ts r q = one x q.sort q.produced
  where
    one : (x : Tree) → is_element x ≡ true → Produces x (plain (with_in c)) ts r → Holds_some (plain_element x) (λ e. Expr assignment_level (plain (with_in c)) (child e (λ y. Produces e y)) ts r × ((place_of x).hi.0 ≡ r.last))
    one (expr_or_spread s None e) w h = record { so = (h.0, ap (λ (z : Span). z.hi.0) h.1) }
    one (expr_or_spread s (Some d) e) w h = record { so = tt }
    one _ w h = absurd (true≢false (sym w))

-- a comma and more
more_of : (c : Code) (b : Bool) (x : Tree) (xs : List Tree) (e : Tree) (es : List Tree) (ts m n r : Input) → Expr assignment_level (plain (with_in c)) (child e (λ y. Produces e y)) ts m → Takes (plain (with_in c)) comma_kind m n
    → IsSeq (with_in c) true n r xs es → (xs ≡ [] → ⊥) → IsSeq (with_in c) b ts r (x ∷ xs) (e ∷ es)
more_of c b x xs e [] ts m n r h t q z = absurd (true≢false q)
more_of c b x [] e (f ∷ es) ts m n r h t q z = absurd (z refl)
more_of c b x (y ∷ ys) e (f ∷ es) ts m n r h t q z = (m, q.1, h, (n, q.0, t, q.2, q.3), q.4, q.5)

none_of : (c : Code) (b : Bool) (x : Tree) (xs : List Tree) (e : Tree) (ts m r : Input) → Expr assignment_level (plain (with_in c)) (child e (λ y. Produces e y)) ts m → (place_of x).hi.0 ≡ m.last → IsNil xs → Takes (plain (with_in c)) right_paren_kind m r
    → Holds_some (elim (plain_elements xs) [ None ↦ None | Some es ↦ Some (e ∷ es) ]) (IsSeq (with_in c) b ts r (x ∷ xs))
none_of c b x [] e ts m r h w i t = record { so = (m, m, h, refl, t, w) }
none_of c b x (y ∷ ys) e ts m r h w i t = absurd i

not_nil : (k : List ℕ) (c : Code) (ts r : Input) → Elems (Element k (with_in c)) false (plain (with_in c)) right_paren_kind false true [] ts r → ⊥
not_nil k c ts r h = true≢false (sym h.0)

seq_holds : (k : List ℕ) (c : Code) (b : Bool) (xs : List Tree) (ts r : Input) → Elems (Element k (with_in c)) false (plain (with_in c)) right_paren_kind false b xs ts r → Holds_some (plain_elements xs) (IsSeq (with_in c) b ts r xs)
seq_holds k c b [] ts r h = record { so = sym h.0 }
seq_holds k c b (x ∷ xs) ts r h =
    let q = first_item (Element k (with_in c)) (plain (with_in c)) right_paren_kind false b x xs ts r h in
    some_then (plain_element x) _ _ (IsSeq (with_in c) b ts r (x ∷ xs)) (plain_one k c x ts q.0 q.1) (λ e w. ⊎_elim
    (λ o. some_then (plain_elements xs) _ _ (IsSeq (with_in c) b ts r (x ∷ xs)) (seq_holds k c true xs o.0 r o.2) (λ es y. record { so = more_of c b x xs e es ts q.0 o.0 r w.0 o.1 y (λ z. not_nil k c o.0 r (subst (λ ys. Elems (Element k (with_in c)) false (plain (with_in c)) right_paren_kind false true ys o.0 r) z o.2)) }))
    (λ o. none_of c b x xs e ts q.0 r w.0 w.1 o.0 o.2) q.2)

paren_made : (c : Code) (start : State Input) (e : Tree) (s : State Input) → Produces (paren_expr (span (lo (seen start)) s.source.last) e) (plain c) (seen start) (seen s) → Made c start (paren_expr (span (lo (seen start)) s.source.last) e, s)
paren_made c start e s h = record { produced = h; refines = λ k g. record { so = λ b f. paren_item b h } }
  where
    paren_item : (b : Bool) → Produces (paren_expr (span (lo (seen start)) s.source.last) e) (plain c) (seen start) (seen s)
        → Holds (cond (not b && is_simple e) (Ok (expr_pat (paren_expr (span (lo (seen start)) s.source.last) e))) unfit) (IsItem b c (seen start) (seen s))
    paren_item true h = record { so = tt }
    paren_item false h = if_holds (is_simple e) _ _ _ (λ z. record { so = (z, (z, h)) }) (λ _. record { so = tt })

module _ (inner : Inner Input) (good : Sound inner) where
  quasi_end_sure : (c : Code) (tagged : Bool) (ts : Input) (x : Parted) (s : State Input) → Begun tagged (plain c) ts x s → kind (seen s) ≡ template_kind → (q : Content) → content (seen s) ≡ q
      → Sure s.commas (quasi_end lm inner c tagged x (quasi lm inner q (first_span (seen s))) (next s)) (Quasis tagged (plain c) ts)
  unfolding quasi_end
  quasi_end_sure c tagged ts x s b e (Piece raw cooked) z = test_sure s.commas (kind (seen (next s))) back_quote_kind _ _ _
      (λ k. let t = tpl_element (first_span (seen s)) true raw cooked in only_sure _ s.commas (tagged || is_cooked t) _ _ (λ w.
      done (finished (record { exprs = x.exprs; quasis = x.quasis ++ t ∷ [] }), next (next s)) (Quasis tagged (plain c) ts)
      (record {
        so = subst (λ es. TemplateSpans tagged (plain c) (children (pack es)) (children (pack (x.quasis ++ t ∷ []))) ts (seen (next (next s)))) (append-nil x.exprs)
            (b.so [] (t ∷ []) (seen (next (next s))) (seen (next s), tt, refl, w, (refl, (z, (e, tt, refl), refl)), (k, tt, refl)));
      })))
      (λ _. eat_sure dollar_brace_kind (next s) _ _ (λ k. then_sure s.commas (inner.expr (with_in c) expression_level (next (next s))) _ _ _ (good.expr (with_in c) expression_level (next (next s)) (omega arith)) (λ v h. eat_sure right_brace_kind v.1 _ _ (λ j.
      let t = tpl_element (first_span (seen s)) false raw cooked in only_sure _ v.1.commas (tagged || is_cooked t) _ _ (λ w.
      done (go_on (record { exprs = x.exprs ++ v.0 ∷ []; quasis = x.quasis ++ t ∷ [] }), next v.1) (Quasis tagged (plain c) ts)
      (record {
        so = λ es qs r l. subst (λ y. TemplateSpans tagged (plain c) (children (pack y)) (children (pack ((x.quasis ++ t ∷ []) ++ qs))) ts r) (sym (append_assoc x.exprs (v.0 ∷ []) es))
            (subst (λ y. TemplateSpans tagged (plain c) (children (pack (x.exprs ++ (v.0 ∷ es)))) (children (pack y)) ts r) (sym (append_assoc x.quasis (t ∷ []) qs))
            (b.so (v.0 ∷ es) (t ∷ qs) r (seen (next s), seen (next (next s)), seen v.1, seen (next v.1), refl, w, (refl, (z, (e, tt, refl), refl)), (k, tt, refl), (h.0, h.1.produced), (j, tt, refl), l)));
      }))))))
  quasi_end_sure c tagged ts x s b e _ z = test_sure s.commas (kind (seen (next s))) back_quote_kind _ _ _ (λ _. record { so = tt })
      (λ _. eat_sure dollar_brace_kind (next s) _ _ (λ k. then_sure s.commas (inner.expr (with_in c) expression_level (next (next s))) _ _ _ (good.expr (with_in c) expression_level (next (next s)) (omega arith)) (λ v h. eat_sure right_brace_kind v.1 _ _ (λ j. record { so = tt }))))

  quasi_step_sure : (c : Code) (tagged : Bool) (ts : Input) (x : Parted) (s : State Input) → Begun tagged (plain c) ts x s → Sure s.commas (quasi_step lm inner c tagged x s) (Quasis tagged (plain c) ts)
  unfolding quasi_step
  quasi_step_sure c tagged ts x s b = eat_sure template_kind s _ _ (λ e. quasi_end_sure c tagged ts x s b e (content (seen s)) refl)

  pub template_sure : (c : Code) (tagged : Bool) (s : State Input) → kind (seen s) ≡ back_quote_kind → Sure s.commas (template_by lm inner c tagged s) (λ x. IsTemplate tagged (plain c) (seen s) (seen x.1) x.0)
  unfolding template_by
  template_sure c tagged s e = then_sure s.commas (iterate _ (quasi_step lm inner c tagged) (record { exprs = []; quasis = [] }) (next s)) _ _ _
      (loop_sure (quasi_step lm inner c tagged) (Begun tagged (plain c) (seen (next s))) (Ended tagged (plain c) (seen (next s))) (λ x r b. quasi_step_sure c tagged (seen (next s)) x r b)
      (record { exprs = []; quasis = [] }) (next s) (record { so = λ es qs r l. l }))
      (λ x h. done (tpl (span (lo (seen s)) x.1.source.last) (pack x.0.exprs) (pack x.0.quasis), x.1) _ (seen (next s), (e, tt, refl), h.so, refl))

  -- ---- arrows

  abbrev pub Heads : Bool → Code → State Input → List Tree → State Input → Type 0
  Heads async c start ps s = (m : Input) × Async async (plain c) (seen start) m × ArrowParameters (plain c) (children (pack ps)) m (seen s)

  pub arrow_sure : (c : Code) (start : State Input) (async : Bool) (ps : List Tree) (s : State Input) → Heads async c start ps s → arrows lm inner s ≡ true → Sure s.commas (arrow_by lm inner c (lo (seen start)) async ps s) (Made c start)
  unfolding arrow_by
  arrow_sure c start async ps s h a = let b = and_parts (eqb (kind (seen s)) arrow_kind) (not (brk (seen s))) a in let e = eqb-true (kind (seen s)) arrow_kind b.0 in let n = not-true (brk (seen s)) b.1 in
      test_sure s.commas (kind (seen (next s))) left_brace_kind _ _ _
      (λ _. then_sure s.commas (inner.body (in_list (with_in (in_arrow async c))) (next s)) _ _ _ (good.body (in_list (with_in (in_arrow async c))) (next s)) (λ x k.
      done (arrow_expr (span (lo (seen start)) x.1.source.last) (pack ps) x.0 async, x.1) (Made c start) (body_is (plain (in_list (with_in (in_arrow async c)))) (seen (next s)) (seen x.1)
      (λ z. Made c start (arrow_expr (span (lo (seen start)) x.1.source.last) (pack ps) z async, x.1))
      (λ p ss y. dull c start (arrow_expr (span (lo (seen start)) x.1.source.last) (pack ps) (block_stmt p ss) async) x.1 (seen (next s), (h.0, seen s, h.1, h.2, n, (e, tt, refl)), y, refl) (λ l k. refl)) x.0 k)))
      (λ q. then_sure s.commas (inner.expr (in_arrow async c) assignment_level (next s)) _ _ _ (good.expr (in_arrow async c) assignment_level (next s) (omega arith)) (λ x k.
      done (arrow_expr (span (lo (seen start)) x.1.source.last) (pack ps) x.0 async, x.1) (Made c start) (dull c start (arrow_expr (span (lo (seen start)) x.1.source.last) (pack ps) x.0 async) x.1
      (arrow_with (plain c) (span (lo (seen start)) x.1.source.last) (pack ps) x.0 async (seen start) (seen x.1) k.0 (seen (next s), (h.0, seen s, h.1, h.2, n, (e, tt, refl)), q, (k.0, k.1.produced), refl)) (λ l k. refl))))

  pub at_arrow : (l : ℕ) (s : State Input) → arrows_at lm inner l s ≡ true → arrows lm inner s ≡ true
  at_arrow l s a = (and_parts (arrows lm inner s) (leb l assignment_level) a).0

  pub heads_arrow : (l : ℕ) (xs : Elements) (s : State Input) → heads_params lm inner l xs s ≡ true → arrows lm inner s ≡ true
  heads_arrow l xs s a = at_arrow l s (and_parts (arrows_at lm inner l s) (is_read (params_of lm inner s.commas xs)) a).0

  -- ---- parentheses

  pub paren_sure : (c : Code) (l : ℕ) (start : State Input) (xs : Elements) (s : State Input) → kind (seen start) ≡ left_paren_kind → Elems (Element s.commas (with_in c)) false (plain (with_in c)) right_paren_kind xs.comma false xs.items (seen (next start)) (seen s)
      → ((ps : List Tree) → IsParams c (seen (next start)) (seen s) ps → Heads false c start ps s) → Sure s.commas (group_end lm inner c l (lo (seen start)) (lo (seen (next start))) xs s) (Made c start)
  unfolding group_end
  paren_sure c l start xs s e h f = if_sure s.commas (heads_params lm inner l xs s) _ _ _
      (λ a. then_placed _ s.commas (params_of lm inner s.commas xs) _ (IsParams c (seen (next start)) (seen s)) _ (params_hold inner c s.commas xs (seen (next start)) (seen s) h) (λ ps q. arrow_sure c start false ps s (f ps q) (heads_arrow l xs s a)))
      (λ _. if_sure s.commas xs.comma _ _ _ (λ _. record { so = tt }) (λ z. inside (plain_elements xs.items) (seq_holds s.commas c false xs.items (seen (next start)) (seen s) (subst (λ b. Elems (Element s.commas (with_in c)) false (plain (with_in c)) right_paren_kind b false xs.items (seen (next start)) (seen s)) z h))))
    where
      inside : (o : Option (List Tree)) → Holds_some o (IsSeq (with_in c) false (seen (next start)) (seen s) xs.items) → Sure s.commas (elim o [
        | None ↦ unexpected lm s
        | Some [] ↦ unexpected lm s
        | Some (e ∷ es) ↦ Ok (paren_expr (span (lo (seen start)) s.source.last) (joined (e ∷ es) (span (lo (seen (next start))) (last_end xs.items))), s)
      ]) (Made c start)
      inside None q = record { so = tt }
      inside (Some []) q = record { so = tt }
      inside (Some (x ∷ [])) q = done (paren_expr (span (lo (seen start)) s.source.last) x, s) (Made c start) (paren_made c start x s
          (seen (next start), q.so.0, (e, tt, refl), (omega (arith, q.so.2.0), q.so.2.1), subst (λ n. Takes (plain c) right_paren_kind n (seen s)) (sym q.so.3) q.so.4, refl))
      inside (Some (x ∷ (y ∷ ys))) q = done (paren_expr (span (lo (seen start)) s.source.last) (seq_expr (span (lo (seen (next start))) (last_end xs.items)) (pack (x ∷ y ∷ ys))), s) (Made c start) (paren_made c start _ s
          (seen (next start), q.so.1, (e, tt, refl), (omega arith, (q.so.0, q.so.2, q.so.3, ap (λ n. span (lo (seen (next start))) n) q.so.5)), q.so.4, refl))
