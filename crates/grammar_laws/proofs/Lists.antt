-- Lists of statements, blocks, bodies and variables produce what they are read of.
use Rattle.std.proofs.Common.{◌≡◌, Bool, true, false, ◌&&◌, cond, List, [], ◌∷◌, ◌++◌, Ok, refl, sym, subst, true≢false, append_assoc, append-nil, arith}
use Rattle.std.proofs.lemmas.Bool.{and_parts}
use Rattle.base_token.specs.declared.place.Span.{Span}
use Rattle.base_token.specs.Kinds.{comma_kind, left_brace_kind, right_brace_kind, assign_kind}
use Rattle.tree_spec.specs.Tree.{Tree, Trees, pack, block_stmt, var_declarator, absent}
use Rattle.grammar_spec.specs.Tokens.Input.{Input, Code, kind, Takes, lo, span, in_list, turned_strict}
use Rattle.grammar_spec.specs.Tokens.Operators.{assignment_level}
use Rattle.grammar_spec.specs.Tokens.Shape.{is_item, is_block, is_use_strict, is_directive, is_declarator, is_absent}
use Rattle.grammar_spec.specs.Children.{child, Expr, Sorted, CommaThen, Commas, Items}
use Rattle.grammar_spec.specs.Functions.{Closes}
use Rattle.grammar_spec.specs.Statements.{ClosesBlock}
use Rattle.grammar_spec.specs.Grammar.{Produces, children}
use Rattle.grammar_spec.specs.Reader.Source.{State, Inner, Step, go_on, finished, iterate, retold}
use Rattle.grammar_spec.specs.Reader.Statements.{Body as BodyState, block_step, block_rest, block_by, body_item, body_step, body_by, declarator_by, declarator_step, declarators_by}
use Rattle.grammar_laws.proofs.Sure.{lm, seen, next, Sure, done, then_sure, sure_map, if_sure, test_sure, eat_sure, StepSure, loop_sure}
use Rattle.grammar_laws.proofs.Covers.{plain, by_no, not_absent}
use Rattle.grammar_laws.proofs.Nested.{Sound, GotBody}
use Rattle.grammar_laws.proofs.Functions.{Before, All_read, at_start, one_more, at_end, with_last}
use Rattle.grammar_laws.proofs.Shapes.{strict_directive}

-- ---- statements up to a brace, without directives

abbrev pub Statements : (Code → Input → Input → Type 0) → Code → List Tree → Input → Input → Type 0
Statements close c ys ts r = Items is_item close (plain c) false (children (pack ys)) ts r

abbrev pub IsList : (Code → Input → Input → Type 0) → Code → Span → Input → Input → Tree → Type 0
IsList close c s ts r (block_stmt p ss) = (p ≡ s) × Items is_item close (plain c) false (children ss) ts r
IsList close c s ts r _ = ⊥

pub list_is : (close : Code → Input → Input → Type 0) (c : Code) (s : Span) (ts r : Input) (P : Tree → Type 0) → ((p : Span) (ss : Trees) → p ≡ s → Items is_item close (plain c) false (children ss) ts r → P (block_stmt p ss)) → (b : Tree) → IsList close c s ts r b → P b
list_is close c s ts r P f (block_stmt p ss) h = f p ss h.0 h.1
list_is close c s ts r P f _ h = absurd h

module _ (inner : Inner Input) (good : Sound inner) where
  module _ (close : Code → Input → Input → Type 0) (c : Code) (closes : (ts r : Input) → Takes (plain c) right_brace_kind ts r → close (plain c) ts r) where
    block_step_sure : (ts : Input) (ss : List Tree) (s : State Input) → Before (Statements close c) ts ss s → Sure s.commas (block_step lm inner c ss s) (StepSure (Before (Statements close c) ts) (All_read (Statements close c) ts))
    unfolding block_step
    block_step_sure ts ss s b = test_sure s.commas (kind (seen s)) right_brace_kind _ _ _ (λ e. done (finished ss, next s) (StepSure (Before (Statements close c) ts) (All_read (Statements close c) ts)) (at_end (Statements close c) ts ss s (next s) b (closes (seen s) (seen (next s)) (e, tt, refl)))) (λ _.
        then_sure s.commas (inner.stmt (in_list c) s) _ _ _ (good.stmt (in_list c) s) (λ t h. done (go_on (ss ++ t.0 ∷ []), t.1) (StepSure (Before (Statements close c) ts) (All_read (Statements close c) ts)) (one_more (Statements close c) ts ss s t.0 t.1 b (λ ys r k. (seen t.1, h.0, h.1, k)))))

    pub block_rest_sure : (start s : State Input) → Sure s.commas (block_rest lm inner c (lo (seen start)) s) (λ x. IsList close c (span (lo (seen start)) (seen x.1).last) (seen s) (seen x.1) x.0)
    unfolding block_rest
    block_rest_sure start s = then_sure s.commas (iterate _ (block_step lm inner c) [] s) _ _ _ (loop_sure (block_step lm inner c) (Before (Statements close c) (seen s)) (All_read (Statements close c) (seen s)) (λ x r b. block_step_sure (seen s) x r b) [] s (at_start (Statements close c) (seen s) s refl))
        (λ ss h. done (block_stmt (span (lo (seen start)) ss.1.source.last) (pack ss.0), ss.1) _ (refl, h.so))

  pub block_sure : (c : Code) (s : State Input) → Sure s.commas (block_by lm inner c s) (λ x. (is_block x.0 ≡ true) × (is_item x.0 ≡ true) × Produces x.0 (plain c) (seen s) (seen x.1))
  unfolding block_by
  block_sure c s = eat_sure left_brace_kind s _ _ (λ e. sure_map s.commas (block_rest lm inner c (lo (seen s)) (next s)) _ _ (block_rest_sure ClosesBlock c (λ ts r t. t) s (next s)) (λ x h.
      list_is ClosesBlock c (span (lo (seen s)) (seen x.1).last) (seen (next s)) (seen x.1) (λ b. (is_block b ≡ true) × (is_item b ≡ true) × Produces b (plain c) (seen s) (seen x.1)) (λ p ss q k. (refl, refl, (seen (next s), (e, tt, refl), k, q))) x.0 h))

  -- ---- bodies, whose directives may turn them strict

  pub record BodyFront (may : Tree → Bool) (close : Code → Input → Input → Type 0) (c : Code) (ts : Input) (b : BodyState) (s : State Input) : Type 0 where
    pub so : (ys : List Tree) (r : Input) → Items may close (plain b.code) b.starts (children (pack ys)) (seen s) r → Items may close (plain c) true (children (pack (b.items ++ ys))) ts r

  pub record BodyWhole (may : Tree → Bool) (close : Code → Input → Input → Type 0) (c : Code) (ts : Input) (b : BodyState) (s : State Input) : Type 0 where
    pub so : Items may close (plain c) true (children (pack b.items)) ts (seen s)

  abbrev pub BodySteps : (Tree → Bool) → (Code → Input → Input → Type 0) → Code → Input → Step BodyState × State Input → Type 0
  BodySteps may close c ts = StepSure (BodyFront may close c ts) (BodyWhole may close c ts)

  -- after one item
  pub body_goes : (may : Tree → Bool) (close : Code → Input → Input → Type 0) (c : Code) (ts : Input) (b : BodyState) (s : State Input) (t : Tree × State Input) → BodyFront may close c ts b s → may t.0 ≡ true → Produces t.0 (plain (in_list b.code)) (seen s) (seen t.1)
      → Sure t.1.commas (cond (b.starts && is_use_strict t.0) (Ok (go_on (record { items = b.items ++ t.0 ∷ []; code = turned_strict b.code; starts = true }), retold lm (turned_strict b.code).context t.1)) (Ok (go_on (record { items = b.items ++ t.0 ∷ []; code = b.code; starts = b.starts && is_directive t.0 }), t.1)))
      (BodySteps may close c ts)
  body_goes may close c ts b s t i e h = if_sure t.1.commas (b.starts && is_use_strict t.0) _ _ _
      (λ z. let p = and_parts b.starts (is_use_strict t.0) z in
      done (go_on (record { items = b.items ++ t.0 ∷ []; code = turned_strict b.code; starts = true }), retold lm (turned_strict b.code).context t.1) (BodySteps may close c ts)
      (record { so = λ ys r k. snoc ys r (i.so (t.0 ∷ ys) r (seen t.1, e, h, turned_items ys r z (started b.starts (is_directive t.0) p.0 (strict_directive t.0 p.1)) k)) }))
      (λ z. done (go_on (record { items = b.items ++ t.0 ∷ []; code = b.code; starts = b.starts && is_directive t.0 }), t.1) (BodySteps may close c ts)
      (record { so = λ ys r k. snoc ys r (i.so (t.0 ∷ ys) r (seen t.1, e, h, plain_items ys r z k)) }))
    where
      started : (x y : Bool) → x ≡ true → y ≡ true → (x && y) ≡ true
      started true y e k = k
      started false y e k = absurd (true≢false (sym e))

      snoc : (ys : List Tree) (r : Input) → Items may close (plain c) true (children (pack (b.items ++ (t.0 ∷ ys)))) ts r → Items may close (plain c) true (children (pack ((b.items ++ t.0 ∷ []) ++ ys))) ts r
      snoc ys r k = subst (λ z. Items may close (plain c) true (children (pack z)) ts r) (sym (append_assoc b.items (t.0 ∷ []) ys)) k

      turned_items : (ys : List Tree) (r : Input) → (b.starts && is_use_strict t.0) ≡ true → (b.starts && is_directive t.0) ≡ true → Items may close (plain (turned_strict b.code)) true (children (pack ys)) (seen t.1) r
          → Items may close (cond (b.starts && is_use_strict t.0) (turned_strict (plain b.code)) (plain b.code)) (b.starts && is_directive t.0) (children (pack ys)) (seen t.1) r
      turned_items ys r z w k = subst (λ (x : Bool). Items may close (cond x (turned_strict (plain b.code)) (plain b.code)) (b.starts && is_directive t.0) (children (pack ys)) (seen t.1) r) (sym z)
          (subst (λ (x : Bool). Items may close (turned_strict (plain b.code)) x (children (pack ys)) (seen t.1) r) (sym w) k)

      plain_items : (ys : List Tree) (r : Input) → (b.starts && is_use_strict t.0) ≡ false → Items may close (plain b.code) (b.starts && is_directive t.0) (children (pack ys)) (seen t.1) r
          → Items may close (cond (b.starts && is_use_strict t.0) (turned_strict (plain b.code)) (plain b.code)) (b.starts && is_directive t.0) (children (pack ys)) (seen t.1) r
      plain_items ys r z k = subst (λ (x : Bool). Items may close (cond x (turned_strict (plain b.code)) (plain b.code)) (b.starts && is_directive t.0) (children (pack ys)) (seen t.1) r) (sym z) k

  body_step_sure : (c : Code) (ts : Input) (b : BodyState) (s : State Input) → BodyFront is_item Closes c ts b s → Sure s.commas (body_step lm inner b s) (BodySteps is_item Closes c ts)
  unfolding body_step body_item
  body_step_sure c ts b s i = test_sure s.commas (kind (seen s)) right_brace_kind _ _ _
      (λ e. done (finished b, next s) (BodySteps is_item Closes c ts) (record { so = subst (λ z. Items is_item Closes (plain c) true (children (pack z)) ts (seen (next s))) (append-nil b.items) (i.so [] (seen (next s)) (e, tt, refl)) }))
      (λ _. then_sure s.commas (inner.stmt (in_list b.code) s) _ _ _ (good.stmt (in_list b.code) s) (λ t h. body_goes is_item Closes c ts b s t i h.0 h.1))

  pub body_sure : (c : Code) (s : State Input) → Sure s.commas (body_by lm inner c s) (GotBody c s)
  unfolding body_by
  body_sure c s = eat_sure left_brace_kind s _ _ (λ e. then_sure s.commas (iterate _ (body_step lm inner) (record { items = []; code = c; starts = true }) (next s)) _ _ _
      (loop_sure (body_step lm inner) (BodyFront is_item Closes c (seen (next s))) (BodyWhole is_item Closes c (seen (next s))) (λ x r i. body_step_sure c (seen (next s)) x r i) (record { items = []; code = c; starts = true }) (next s) (record { so = λ ys r k. k }))
      (λ b h. done (block_stmt (span (lo (seen s)) b.1.source.last) (pack b.0.items), retold lm c.context b.1) (GotBody c s) (seen (next s), (e, tt, refl), h.so, refl)))

  -- ---- declarators

  pub declarator_sure : (c : Code) (s : State Input) → Sure s.commas (declarator_by lm inner c s) (λ x. (is_declarator x.0 ≡ true) × Produces x.0 (plain c) (seen s) (seen x.1))
  unfolding declarator_by
  declarator_sure c s = then_sure s.commas (inner.pat c s) _ _ _ (good.pat c s) (λ p h. test_sure p.1.commas (kind (seen p.1)) assign_kind _ _ _
      (λ e. then_sure p.1.commas (inner.expr c assignment_level (next p.1)) _ _ _ (good.expr c assignment_level (next p.1) (omega arith)) (λ v k.
      done (var_declarator (span (lo (seen s)) v.1.source.last) p.0 v.0, v.1) _ (refl, (seen p.1, h.0, h.1, by_no (is_absent v.0) (seen p.1 ≡ seen v.1) ((n : Input) × Takes (plain c) assign_kind (seen p.1) n × Expr assignment_level (plain c) (child v.0 (λ y. Produces v.0 y)) n (seen v.1)) (not_absent v.0 k.0) (seen (next p.1), (e, tt, refl), (k.0, k.1.produced)), refl))))
      (λ _. done (var_declarator (span (lo (seen s)) p.1.source.last) p.0 absent, p.1) _ (refl, (seen p.1, h.0, h.1, refl, refl))))

  abbrev pub Declarators : Code → List Tree → Input → Input → Type 0
  Declarators c ys ts r = Commas (Sorted is_declarator (plain c)) (plain c) (children (pack ys)) ts r

  then_more : (c : Code) (ys : List Tree) (ts m r : Input) → Takes (plain c) comma_kind ts m → Declarators c ys m r → CommaThen (Sorted is_declarator (plain c)) (plain c) (children (pack ys)) ts r
  then_more c [] ts m r t h = absurd h
  then_more c (y ∷ ys) ts m r t h = (m, h.0, t, h.1, h.2)

  declarator_step_sure : (c : Code) (ts : Input) (ds : List Tree) (s : State Input) → Before (Declarators c) ts ds s → Sure s.commas (declarator_step lm inner c ds s) (StepSure (Before (Declarators c) ts) (All_read (Declarators c) ts))
  unfolding declarator_step
  declarator_step_sure c ts ds s b = then_sure s.commas (declarator_by lm inner c s) _ _ _ (declarator_sure c s) (λ d h. test_sure d.1.commas (kind (seen d.1)) comma_kind _ _ _
      (λ e. done (go_on (ds ++ d.0 ∷ []), next d.1) (StepSure (Before (Declarators c) ts) (All_read (Declarators c) ts)) (one_more (Declarators c) ts ds s d.0 (next d.1) b (λ ys r k. (seen d.1, h, then_more c ys (seen d.1) (seen (next d.1)) r (e, tt, refl) k))))
      (λ _. done (finished (ds ++ d.0 ∷ []), d.1) (StepSure (Before (Declarators c) ts) (All_read (Declarators c) ts)) (with_last (Declarators c) ts ds s d.0 d.1 b (seen d.1, h, refl))))

  pub declarators_sure : (c : Code) (s : State Input) → Sure s.commas (declarators_by lm inner c s) (λ x. Declarators c x.0 (seen s) (seen x.1))
  unfolding declarators_by
  declarators_sure c s = sure_map s.commas (iterate _ (declarator_step lm inner c) [] s) _ _ (loop_sure (declarator_step lm inner c) (Before (Declarators c) (seen s)) (All_read (Declarators c) (seen s)) (λ x r b. declarator_step_sure c (seen s) x r b) [] s (at_start (Declarators c) (seen s) s refl)) (λ x h. h.so)
