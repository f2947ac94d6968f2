-- Parameters, and functions with their bodies.
use Rattle.std.proofs.Common.{◌≡◌, ℕ, inl, inr, Bool, true, false, not, ◌&&◌, ◌||◌, eqb, List, [], ◌∷◌, ◌++◌, Some, Result, refl, sym, ap, ◌∙◌, subst, ⊎_elim, true≢false, append_assoc, append-nil, arith}
use Rattle.std.proofs.lemmas.Bool.{eqb-true, and_parts, not-true, cases_Bool}
use Rattle.base_token.specs.Kinds.{comma_kind, dot_dot_dot_kind, left_paren_kind, right_paren_kind, assign_kind, mul_kind}
use Rattle.base_token.specs.declared.place.Span.{Span}
use Rattle.tree_spec.specs.Tree.{Tree, Trees, none, pack, function, param, rest_pat, assign_pat, binding_ident, array_pat, object_pat}
use Rattle.grammar_spec.specs.Tokens.Input.{Input, Code, kind, Takes, lo, span, dots_at, with_in, setting, in_body}
use Rattle.grammar_spec.specs.Tokens.Operators.{assignment_level}
use Rattle.grammar_spec.specs.Tokens.Shape.{is_binding, is_item_pat, is_param, is_rest, function_parts, count_of}
use Rattle.grammar_spec.specs.Children.{Child, Sorted, Listed}
use Rattle.grammar_spec.specs.Functions.{Parameters, Star}
use Rattle.grammar_spec.specs.Grammar.{Produces, children}
use Rattle.grammar_spec.specs.Reader.Source.{Fault, ◌>>=◌, State, Inner, go_on, finished, iterate}
use Rattle.grammar_spec.specs.Reader.Expressions.{parameter_by, is_rest_param, parameter_step, parameters_by, function_by, setter_parameter, pattern_of, star}
use Rattle.grammar_laws.proofs.Sure.{lm, seen, next, Sure, done, then_sure, sure_map, if_sure, test_sure, eat_sure, StepSure, loop_sure}
use Rattle.grammar_laws.proofs.Covers.{patterned, plain}
use Rattle.grammar_laws.proofs.Nested.{Sound, body_is, takes}

-- ---- lists that are read from the front

-- what was read so far stands before whatever follows
pub record Before (R : List Tree → Input → Input → Type 0) (ts : Input) (xs : List Tree) (s : State Input) : Type 0 where
  pub so : (ys : List Tree) (r : Input) → R ys (seen s) r → R (xs ++ ys) ts r

-- all was read
pub record All_read (R : List Tree → Input → Input → Type 0) (ts : Input) (xs : List Tree) (s : State Input) : Type 0 where
  pub so : R xs ts (seen s)

module _ (R : List Tree → Input → Input → Type 0) (ts : Input) where
  pub at_start : (s : State Input) → seen s ≡ ts → Before R ts [] s
  at_start s e = record { so = λ ys r h. subst (λ z. R ys z r) e h }

  pub one_more : (xs : List Tree) (s : State Input) (x : Tree) (u : State Input) → Before R ts xs s → ((ys : List Tree) (r : Input) → R ys (seen u) r → R (x ∷ ys) (seen s) r) → Before R ts (xs ++ x ∷ []) u
  one_more xs s x u b f = record { so = λ ys r h. subst (λ z. R z ts r) (sym (append_assoc xs (x ∷ []) ys)) (b.so (x ∷ ys) r (f ys r h)) }

  pub at_end : (xs : List Tree) (s u : State Input) → Before R ts xs s → R [] (seen s) (seen u) → All_read R ts xs u
  at_end xs s u b h = record { so = subst (λ z. R z ts (seen u)) (append-nil xs) (b.so [] (seen u) h) }

  pub with_last : (xs : List Tree) (s : State Input) (x : Tree) (u : State Input) → Before R ts xs s → R (x ∷ []) (seen s) (seen u) → All_read R ts (xs ++ x ∷ []) u
  with_last xs s x u b h = record { so = b.so (x ∷ []) (seen u) h }

abbrev pub ListedTrees : Bool → (Child → Input → Input → Type 0) → Code → ℕ → List Tree → Input → Input → Type 0
ListedTrees holes P c close ys ts r = Listed holes P c close (children (pack ys)) ts r

-- ---- parameters

pub binding_item : (p : Tree) → is_binding p ≡ true → is_item_pat true p ≡ true
binding_item (binding_ident s i) h = refl
binding_item (array_pat s xs) h = refl
binding_item (object_pat s ps) h = refl
binding_item _ h = absurd (true≢false (sym h))

pub binding_rest : (p : Tree) → is_binding p ≡ true → is_rest p ≡ false
binding_rest (binding_ident s i) h = refl
binding_rest (array_pat s xs) h = refl
binding_rest (object_pat s ps) h = refl
binding_rest _ h = absurd (true≢false (sym h))

rest_same : (inner : Inner Input) (x : Tree) → is_param x ≡ true → is_rest x ≡ is_rest_param lm inner x
rest_same inner (param s ds (rest_pat t d p)) h = refl
rest_same inner (param s ds _) h = refl
rest_same inner _ h = absurd (true≢false (sym h))

no_rest_in : (s : Span) (ds : Trees) (p : Tree) → is_item_pat true p ≡ true → is_rest (param s ds p) ≡ false → is_rest p ≡ false
no_rest_in s ds (rest_pat t d p) h n = n
no_rest_in s ds (assign_pat t p e) h n = refl
no_rest_in s ds (binding_ident t i) h n = refl
no_rest_in s ds (array_pat t xs) h n = refl
no_rest_in s ds (object_pat t ps) h n = refl
no_rest_in s ds _ h n = absurd (true≢false (sym h))

pub pattern_spelled : (inner : Inner Input) (c : Code) (x : Tree) (ts r : Input) → is_param x ≡ true → is_rest x ≡ false → Produces x (plain c) ts r
    → (is_item_pat true (pattern_of lm inner x) ≡ true) × (is_rest (pattern_of lm inner x) ≡ false) × Produces (pattern_of lm inner x) (patterned true (with_in c)) ts r
pattern_spelled inner c (param s ds p) ts r h n k = (k.1, no_rest_in s ds p k.1 n, k.2)
pattern_spelled inner c _ ts r h n k = absurd (true≢false (sym h))

abbrev pub GotParam : Code → State Input → Tree × State Input → Type 0
GotParam c s x = (is_param x.0 ≡ true) × Produces x.0 (plain c) (seen s) (seen x.1)

module _ (inner : Inner Input) (good : Sound inner) where
  pub parameter_sure : (c : Code) (s : State Input) → Sure s.commas (parameter_by lm inner c s) (GotParam c s)
  unfolding parameter_by
  parameter_sure c s = test_sure s.commas (kind (seen s)) dot_dot_dot_kind _ _ _
      (λ e. then_sure s.commas (inner.pat (with_in c) (next s)) _ _ _ (good.pat (with_in c) (next s)) (λ p h. let b = ap (λ z. z || false) h.0 in
      done (param (span (lo (seen s)) p.1.source.last) none (rest_pat (span (lo (seen s)) p.1.source.last) (dots_at (lo (seen s))) p.0), p.1) (GotParam c s) (refl, (tt, b, (seen (next s), (e, tt, refl), refl, b, h.1, refl), refl))))
      (λ _. then_sure s.commas (inner.pat (with_in c) s) _ _ _ (good.pat (with_in c) s) (λ p h. test_sure p.1.commas (kind (seen p.1)) assign_kind _ _ _
      (λ e. let b = ap (λ z. z || false) h.0 in then_sure p.1.commas (inner.expr (with_in c) assignment_level (next p.1)) _ _ _ (good.expr (with_in c) assignment_level (next p.1) (omega arith)) (λ v g.
      done (param (span (lo (seen s)) v.1.source.last) none (assign_pat (span (lo (seen s)) v.1.source.last) p.0 v.0), v.1) (GotParam c s) (refl, (tt, b, (seen p.1, seen (next p.1), b, h.1, (e, tt, refl), (g.0, g.1.produced), refl), refl))))
      (λ _. done (param (span (lo (seen s)) p.1.source.last) none p.0, p.1) (GotParam c s) (refl, (tt, binding_item p.0 h.0, h.1, refl)))))

  abbrev pub Params : Code → List Tree → Input → Input → Type 0
  Params c ys ts r = ListedTrees false (Sorted is_param (plain c)) (plain c) right_paren_kind ys ts r

  parameter_step_sure : (c : Code) (ts : Input) (ps : List Tree) (s : State Input) → Before (Params c) ts ps s → Sure s.commas (parameter_step lm inner c ps s) (StepSure (Before (Params c) ts) (All_read (Params c) ts))
  unfolding parameter_step
  parameter_step_sure c ts ps s b = test_sure s.commas (kind (seen s)) right_paren_kind _ _ _ (λ e. done (finished ps, next s) (StepSure (Before (Params c) ts) (All_read (Params c) ts)) (at_end (Params c) ts ps s (next s) b (takes c right_paren_kind s e))) (λ _.
      then_sure s.commas (parameter_by lm inner c s) _ _ _ (parameter_sure c s) (λ p h.
      if_sure p.1.commas (eqb (kind (seen p.1)) comma_kind && not (is_rest_param lm inner p.0)) _ _ _
      (λ e. let q = and_parts (eqb (kind (seen p.1)) comma_kind) (not (is_rest_param lm inner p.0)) e in
      done (go_on (ps ++ p.0 ∷ []), next p.1) (StepSure (Before (Params c) ts) (All_read (Params c) ts)) (one_more (Params c) ts ps s p.0 (next p.1) b
      (λ ys r l. (seen p.1, h, inl (rest_same inner p.0 h.0 ∙ not-true (is_rest_param lm inner p.0) q.1, seen (next p.1), takes c comma_kind p.1 (eqb-true (kind (seen p.1)) comma_kind q.0), l)))))
      (λ _. eat_sure right_paren_kind p.1 _ _ (λ e. done (finished (ps ++ p.0 ∷ []), next p.1) (StepSure (Before (Params c) ts) (All_read (Params c) ts)) (with_last (Params c) ts ps s p.0 (next p.1) b (seen p.1, h, inr (tt, takes c right_paren_kind p.1 e)))))))

  pub parameters_sure : (c : Code) (s : State Input) → Sure s.commas (parameters_by lm inner c s) (λ x. Parameters (plain c) (children (pack x.0)) (seen s) (seen x.1))
  unfolding parameters_by
  parameters_sure c s = eat_sure left_paren_kind s _ _ (λ e. sure_map s.commas (iterate _ (parameter_step lm inner c) [] (next s)) _ _
      (loop_sure (parameter_step lm inner c) (Before (Params c) (seen (next s))) (All_read (Params c) (seen (next s))) (λ x r b. parameter_step_sure c (seen (next s)) x r b) [] (next s) (at_start (Params c) (seen (next s)) (next s) refl))
      (λ x h. (seen (next s), (e, tt, refl), h.so)))

  -- parameters and body
  abbrev pub GotFunction : Code → ℕ → Bool → Bool → State Input → Tree × State Input → Type 0
  GotFunction c whole g a s x = (n : ℕ) × (function_parts x.0 ≡ Some (record { span = span whole (seen x.1).last; generator = g; async = a; count = n })) × Produces x.0 (setting false (plain c)) (seen s) (seen x.1)

  pub function_sure : (c : Code) (whole : ℕ) (g a : Bool) (s : State Input) → Sure s.commas (function_by lm inner c whole g a s) (GotFunction c whole g a s)
  unfolding function_by
  function_sure c whole g a s = then_sure s.commas (parameters_by lm inner (in_body g a c) s) _ _ _ (parameters_sure (in_body g a c) s) (λ ps h.
      then_sure ps.1.commas (inner.body (in_body g a c) ps.1) _ _ _ (good.body (in_body g a c) ps.1) (λ b k.
      done (function (span whole b.1.source.last) (pack ps.0) none b.0 g a, b.1) (GotFunction c whole g a s) (
        count_of (pack ps.0),
        refl,
        body_is (plain (in_body g a c)) (seen ps.1) (seen b.1) (λ z. Produces (function (span whole b.1.source.last) (pack ps.0) none z g a) (setting false (plain c)) (seen s) (seen b.1)) (λ p ss q. (seen ps.1, tt, h, q)) b.0 k,
      )))

  -- a setter's one parameter
  pub setter_sure : (c : Code) (s : State Input) → Sure s.commas (setter_parameter lm inner c s) (λ x. (m : Input) × (n : Input) × (is_param x.0 ≡ true) × (is_rest x.0 ≡ false) × Takes (plain c) left_paren_kind (seen s) m × Produces x.0 (plain c) m n × Takes (plain c) right_paren_kind n (seen x.1))
  unfolding setter_parameter
  setter_sure c s = eat_sure left_paren_kind s _ _ (λ e. then_sure s.commas (parameter_by lm inner c (next s)) _ _ _ (parameter_sure c (next s)) (λ p h.
      if_sure p.1.commas (is_rest_param lm inner p.0) _ _ _ (λ _. record { so = tt }) (λ n. eat_sure right_paren_kind p.1 _ _ (λ z. done (p.0, next p.1) _ (seen (next s), seen p.1, h.0, rest_same inner p.0 h.0 ∙ n, (e, tt, refl), h.1, (z, tt, refl))))))

pub star_sure : {A : Type 0} (inner : Inner Input) (c : Code) (s : State Input) (f : Bool × State Input → Result (A × State Input) Fault) (P : A × State Input → Type 0)
    → ((g : Bool) (r : State Input) → r.commas ≡ s.commas → Star g (plain c) (seen s) (seen r) → Sure s.commas (f (g, r)) P) → Sure s.commas (star lm inner s >>= f) P
unfolding star
star_sure inner c s f P h = ⊎_elim
    (λ (q : eqb (kind (seen s)) mul_kind ≡ true). rw q (h true (next s) refl (eqb-true (kind (seen s)) mul_kind q, tt, refl)))
    (λ (q : eqb (kind (seen s)) mul_kind ≡ false). rw q (h false s refl refl))
    (cases_Bool (eqb (kind (seen s)) mul_kind))
