-- Sound readers of nested parts, and what the rules share: literals, keys, elements, bodies.
use Rattle.std.proofs.Common.{◌≡◌, ℕ, ◌≤◌, ◌⊎◌, inl, inr, Bool, true, false, ◌&&◌, cond, eqb, List, [], ◌∷◌, ◌++◌, Option, Some, None, Result, Ok, refl, sym, subst, ⊎_elim, append_assoc, append-nil, arith}
use Rattle.std.proofs.lemmas.Bool.{eqb-true, eqb-false, and_parts, cases_Bool}
use Rattle.base_token.specs.declared.place.Span.{Span}
use Rattle.base_token.specs.Kinds.{comma_kind, dot_dot_dot_kind, hash_kind, right_bracket_kind, left_bracket_kind, str_kind, num_kind, big_int_kind, regex_kind, semicolon_kind}
use Rattle.base_token.specs.Tokens.{Content, Quoted, Pattern, Numeral, BigNumeral}
use Rattle.tree_spec.specs.Tree.{Tree, Trees, block_stmt, ident_name, private_name, str_lit, number_lit, big_int_lit, regex_lit, expr_or_spread, computed_prop_name, hole}
use Rattle.grammar_spec.specs.Tokens.Input.{Input, Code, kind, text, content, Takes, lo, hi, span, first_span, is_word, with_in}
use Rattle.grammar_spec.specs.Tokens.Operators.{assignment_level, new_level, member_level, primary_level, pauses}
use Rattle.grammar_spec.specs.Tokens.Shape.{level, is_binding, is_item, is_hole, is_key, is_private, is_string, class_span}
use Rattle.grammar_spec.specs.Children.{child, By, Ends}
use Rattle.grammar_spec.specs.Expressions.{Identifier, Bracketed}
use Rattle.grammar_spec.specs.Functions.{Body}
use Rattle.grammar_spec.specs.Grammar.{Produces, children}
use Rattle.grammar_spec.specs.Reader.Source.{Fault, ◌>>=◌, unfit, unexpected, State, Inner, go_on, finished, end_of}
use Rattle.grammar_spec.specs.Reader.Cover.{to_item}
use Rattle.grammar_spec.specs.Reader.Expressions.{Elements, no_elements, literal, only_kind, literal_by, first, element_by, after_element, element_step, elements_by, computed_by, key_by, private_by}
use Rattle.grammar_laws.proofs.Sure.{lm, seen, next, Grows, further, Sure, done, then_sure, then_grown, sure_map, if_sure, test_sure, eat_sure, IsName, any_sure, StepSure, loop_sure}
use Rattle.grammar_laws.proofs.Covers.{patterned, plain, by_no, Holds, IsItem, Refines, Elems, IsNil, Element, element_none, element_some}

-- a level that was asked for, or a bare `new` as the callee of another
abbrev pub AtLeast : ℕ → Tree → Type 0
AtLeast l t = By (eqb l member_level) ((member_level ≤ level t) ⊎ (level t ≡ new_level)) (l ≤ level t)

-- an expression with what it may be refined to
pub record Made (c : Code) (s : State Input) (x : Tree × State Input) : Type 0 where
  pub produced : Produces x.0 (plain c) (seen s) (seen x.1)
  pub refines : (k : List ℕ) → Grows x.1.commas k → Refines k c x.0 (seen s) (seen x.1)

-- a body in its braces
abbrev pub IsBody : Code → Input → Input → Tree → Type 0
IsBody c ts r (block_stmt p ss) = Body c p (children ss) ts r
IsBody c ts r _ = ⊥

pub body_is : (c : Code) (ts r : Input) (P : Tree → Type 0) → ((p : Span) (ss : Trees) → Body c p (children ss) ts r → P (block_stmt p ss)) → (b : Tree) → IsBody c ts r b → P b
body_is c ts r P f (block_stmt p ss) h = f p ss h
body_is c ts r P f _ h = absurd h

abbrev pub GotExpr : Code → ℕ → State Input → Tree × State Input → Type 0
GotExpr c l s x = AtLeast l x.0 × Made c s x

abbrev pub GotPat : Code → State Input → Tree × State Input → Type 0
GotPat c s x = (is_binding x.0 ≡ true) × Produces x.0 (patterned true c) (seen s) (seen x.1)

abbrev pub GotStmt : Code → State Input → Tree × State Input → Type 0
GotStmt c s x = (is_item x.0 ≡ true) × Produces x.0 (plain c) (seen s) (seen x.1)

abbrev pub GotBody : Code → State Input → Tree × State Input → Type 0
GotBody c s x = IsBody (plain c) (seen s) (seen x.1) x.0

abbrev pub GotClass : Code → ℕ → State Input → Tree × State Input → Type 0
GotClass c whole s x = (class_span x.0 ≡ Some (span whole (seen x.1).last)) × Produces x.0 (plain c) (seen s) (seen x.1)

-- Whatever the readers answer produces what it was read of.
pub record Sound (inner : Inner Input) : Type 0 where
  pub expr : (c : Code) (l : ℕ) (s : State Input) → 1 ≤ l → Sure s.commas (inner.expr c l s) (GotExpr c l s)
  pub pat : (c : Code) (s : State Input) → Sure s.commas (inner.pat c s) (GotPat c s)
  pub stmt : (c : Code) (s : State Input) → Sure s.commas (inner.stmt c s) (GotStmt c s)
  pub body : (c : Code) (s : State Input) → Sure s.commas (inner.body c s) (GotBody c s)
  pub class_tail : (c : Code) (whole : ℕ) (s : State Input) → Sure s.commas (inner.class_tail c whole s) (GotClass c whole s)

-- ---- tokens

pub named : (c : Code) (s : State Input) → IsName c s → Identifier (plain c) (first_span (seen s)) (text (seen s)) (seen s) (seen (next s))
named c s h = ((h.0, h.1, h.2, refl, tt, refl), refl)

pub end_sure : {A : Type 0} (c : Code) (e : ℕ) (s : State Input) (f : State Input → Result (A × State Input) Fault) (P : A × State Input → Type 0)
    → ((r : State Input) → r.commas ≡ s.commas → Ends (plain c) e (seen s) (seen r) → Sure s.commas (f r) P) → Sure s.commas (end_of lm c e s >>= f) P
unfolding end_of
end_sure c e s f P h = ⊎_elim
    (λ (q : eqb (kind (seen s)) semicolon_kind ≡ true). rw q (h (next s) refl (inl (eqb-true (kind (seen s)) semicolon_kind q, tt, refl))))
    (λ (q : eqb (kind (seen s)) semicolon_kind ≡ false). rw q (ended (pauses c e (seen s)) (λ p. h s refl (inr (eqb-false (kind (seen s)) semicolon_kind q, p, refl)))))
    (cases_Bool (eqb (kind (seen s)) semicolon_kind))
  where
    ended : (b : Bool) → (b ≡ true → Sure s.commas (f s) P) → Sure s.commas (cond b (Ok s) (unexpected lm s) >>= f) P
    ended true g = g refl
    ended false g = record { so = tt }

-- ---- lists of items with commas

pub record Front (Q : List ℕ → Tree → Input → Input → Type 0) (holes : Bool) (c : Code) (close : ℕ) (ts : Input) (xs : Elements) (s : State Input) : Type 0 where
  pub so : (k : List ℕ) (f : Bool) (ys : List Tree) (r : Input) → Grows s.commas k → Elems (Q k) holes c close f xs.comma ys (seen s) r → Elems (Q k) holes c close f false (xs.items ++ ys) ts r

pub record Whole (Q : List ℕ → Tree → Input → Input → Type 0) (holes : Bool) (c : Code) (close : ℕ) (ts : Input) (xs : Elements) (s : State Input) : Type 0 where
  pub so : (k : List ℕ) → Grows s.commas k → Elems (Q k) holes c close xs.comma false xs.items ts (seen s)

module _ (Q : List ℕ → Tree → Input → Input → Type 0) (holes : Bool) (c : Code) (close : ℕ) (ts : Input) where
  pub starts : (s : State Input) → seen s ≡ ts → Front Q holes c close ts no_elements s
  starts s e = record { so = λ k f ys r g h. subst (λ z. Elems (Q k) holes c close f false ys z r) e h }

  snoc : (k : List ℕ) (f : Bool) (r : Input) (xs : List Tree) (x : Tree) (ys : List Tree) → Elems (Q k) holes c close f false (xs ++ (x ∷ ys)) ts r → Elems (Q k) holes c close f false ((xs ++ (x ∷ [])) ++ ys) ts r
  snoc k f r xs x ys h = subst (λ z. Elems (Q k) holes c close f false z ts r) (sym (append_assoc xs (x ∷ []) ys)) h

  pub closed : (xs : Elements) (s : State Input) → Front Q holes c close ts xs s → Takes c close (seen s) (seen (next s)) → Whole Q holes c close ts xs (next s)
  closed xs s i t = record { so = λ k g. subst (λ z. Elems (Q k) holes c close xs.comma false z ts (seen (next s))) (append-nil xs.items) (i.so k xs.comma [] (seen (next s)) g (refl, t)) }

  pub holed : (xs : Elements) (s : State Input) → Front Q holes c close ts xs s → holes ≡ true → Takes c comma_kind (seen s) (seen (next s)) → Front Q holes c close ts (record { items = xs.items ++ hole ∷ []; comma = false }) (next s)
  holed xs s i q t = record { so = λ k f ys r g h. snoc k f r xs.items hole ys (i.so k f (hole ∷ ys) r g (q, seen (next s), t, h)) }

  abbrev At : Tree → List Tree → Bool → List ℕ → Input → Input → Type 0
  At x ys f k ts r = (m : Input) × Q k x ts m × (((n : Input) × Takes c comma_kind m n × Elems (Q k) holes c close f true ys n r) ⊎ (IsNil ys × (f ≡ false) × Takes c close m r))

  abbrev AtHole : List Tree → Bool → List ℕ → Input → Input → Type 0
  AtHole ys f k ts r = (holes ≡ true) × (m : Input) × Takes c comma_kind ts m × Elems (Q k) holes c close f false ys m r

  -- after an item: a comma and more, or what closes the list
  pub after_sure : (codes_same : (k : ℕ) (s : State Input) → kind (seen s) ≡ k → Takes c k (seen s) (seen (next s))) (inner : Inner Input) (xs : Elements) (s : State Input) (e : Tree × State Input) → Front Q holes c close ts xs s → Grows s.commas e.1.commas → is_hole e.0 ≡ false
      → ((k : List ℕ) → Grows e.1.commas k → Q k e.0 (seen s) (seen e.1))
      → Sure e.1.commas (after_element lm inner close (xs.items ++ e.0 ∷ []) e.1) (StepSure (Front Q holes c close ts) (Whole Q holes c close ts))
  unfolding after_element
  after_sure takes inner xs s e i g n q =
      test_sure e.1.commas (kind (seen e.1)) comma_kind _ _ _
      (λ z. done (go_on (record { items = xs.items ++ e.0 ∷ []; comma = true }), next e.1) (StepSure (Front Q holes c close ts) (Whole Q holes c close ts))
      (record {
        so = λ k f ys r u h. snoc k f r xs.items e.0 ys (i.so k f (e.0 ∷ ys) r (further s.commas e.1.commas k g u)
            (by_no (is_hole e.0) (AtHole ys f k (seen s) r) (At e.0 ys f k (seen s) r) n (seen e.1, q k u, inl (seen (next e.1), takes comma_kind e.1 z, h))));
      }))
      (λ _. eat_sure close e.1 _ _ (λ z. done (finished (record { items = xs.items ++ e.0 ∷ []; comma = false }), next e.1) (StepSure (Front Q holes c close ts) (Whole Q holes c close ts))
      (record {
        so = λ k u. i.so k false (e.0 ∷ []) (seen (next e.1)) (further s.commas e.1.commas k g u)
            (by_no (is_hole e.0) (AtHole [] false k (seen s) (seen (next e.1))) (At e.0 [] false k (seen s) (seen (next e.1))) n (seen e.1, q k u, inr (tt, refl, takes close e.1 z)));
      })))

pub takes : (c : Code) (k : ℕ) (s : State Input) → kind (seen s) ≡ k → Takes (plain c) k (seen s) (seen (next s))
takes c k s e = (e, tt, refl)

module _ (inner : Inner Input) (good : Sound inner) where
  -- an element
  element_sure : (c : Code) (s : State Input) → Sure s.commas (element_by lm inner c s) (λ e. (is_hole e.0 ≡ false) × ((k : List ℕ) → Grows e.1.commas k → Element k c e.0 (seen s) (seen e.1)))
  unfolding element_by
  element_sure c s = test_sure s.commas (kind (seen s)) dot_dot_dot_kind _ _ _
      (λ z. then_sure s.commas (inner.expr (with_in c) assignment_level (next s)) _ _ _ (good.expr (with_in c) assignment_level (next s) (omega arith)) (λ e h.
      done (expr_or_spread (span (lo (seen s)) e.1.source.last) (Some (first lm inner s)) e.0, e.1) _ (refl, λ k g. element_some k c (span (lo (seen s)) e.1.source.last) (first lm inner s) e.0 (seen s) (seen (next s)) (seen e.1) (takes c dot_dot_dot_kind s z) refl h.0 h.1.produced (h.1.refines k g) refl)))
      (λ _. then_sure s.commas (inner.expr (with_in c) assignment_level s) _ _ _ (good.expr (with_in c) assignment_level s (omega arith)) (λ e h.
      done (expr_or_spread (span (lo (seen s)) e.1.source.last) None e.0, e.1) _ (refl, λ k g. element_none k c (span (lo (seen s)) e.1.source.last) e.0 (seen s) (seen e.1) h.0 h.1.produced (h.1.refines k g) refl)))

  elements_step_sure : (c : Code) (holes : Bool) (close : ℕ) (ts : Input) (xs : Elements) (s : State Input) → Front (λ k. Element k c) holes (plain c) close ts xs s
      → Sure s.commas (element_step lm inner c holes close xs s) (StepSure (Front (λ k. Element k c) holes (plain c) close ts) (Whole (λ k. Element k c) holes (plain c) close ts))
  unfolding element_step
  elements_step_sure c holes close ts xs s i =
      test_sure s.commas (kind (seen s)) close _ _ _ (λ z. done (finished xs, next s) (StepSure (Front (λ k. Element k c) holes (plain c) close ts) (Whole (λ k. Element k c) holes (plain c) close ts)) (closed (λ k. Element k c) holes (plain c) close ts xs s i (takes c close s z))) (λ _.
      if_sure s.commas (holes && eqb (kind (seen s)) comma_kind) _ _ _ (λ z. let b = and_parts holes (eqb (kind (seen s)) comma_kind) z in
      done (go_on (record { items = xs.items ++ hole ∷ []; comma = false }), next s) (StepSure (Front (λ k. Element k c) holes (plain c) close ts) (Whole (λ k. Element k c) holes (plain c) close ts)) (holed (λ k. Element k c) holes (plain c) close ts xs s i b.0 (takes c comma_kind s (eqb-true (kind (seen s)) comma_kind b.1)))) (λ _.
      then_grown s.commas (element_by lm inner c s) _ _ _ (element_sure c s) (λ e g h. after_sure (λ k. Element k c) holes (plain c) close ts (λ k r. takes c k r) inner xs s e i g h.0 h.1)))

  pub elements_sure : (c : Code) (holes : Bool) (close : ℕ) (s : State Input) → Sure s.commas (elements_by lm inner c holes close s) (λ x. Whole (λ k. Element k c) holes (plain c) close (seen s) x.0 x.1)
  unfolding elements_by
  elements_sure c holes close s = loop_sure (element_step lm inner c holes close) (Front (λ k. Element k c) holes (plain c) close (seen s)) (Whole (λ k. Element k c) holes (plain c) close (seen s)) (λ x r i. elements_step_sure c holes close (seen s) x r i)
      no_elements s (starts (λ k. Element k c) holes (plain c) close (seen s) s refl)

-- ---- literals, names and keys

-- a literal, or what else no pattern is made of
pub dull : (c : Code) (s : State Input) (t : Tree) (r : State Input) → Produces t (plain c) (seen s) (seen r) → ((b : Bool) (k : List ℕ) → to_item b k t ≡ unfit) → Made c s (t, r)
dull c s t r h e = record { produced = h; refines = λ k g. record { so = λ b f. subst (λ z. Holds z (IsItem b c (seen s) (seen r))) (sym (e b k)) (record { so = tt }) } }

abbrev pub GotLiteral : State Input → Tree × State Input → Type 0
GotLiteral s x = ((c : Code) → Made c s x) × (level x.0 ≡ primary_level) × ((kind (seen s) ≡ regex_kind → ⊥) → is_key x.0 ≡ true) × (kind (seen s) ≡ str_kind → is_string x.0 ≡ true)

abbrev pub taken : State Input → Option Tree → Result (Tree × State Input) Fault
taken s o = elim o [ None ↦ unexpected lm s | Some t ↦ Ok (t, next s) ]

only_sure_kind : (s : State Input) (k : ℕ) (t : Tree) → (kind (seen s) ≡ k → GotLiteral s (t, next s)) → Sure s.commas (taken s (only_kind (eqb (kind (seen s)) k) t)) (GotLiteral s)
only_sure_kind s k t h = kept (eqb (kind (seen s)) k) (λ e. h (eqb-true (kind (seen s)) k e))
  where
    kept : (b : Bool) → (b ≡ true → GotLiteral s (t, next s)) → Sure s.commas (taken s (only_kind b t)) (GotLiteral s)
    kept true h = done (t, next s) (GotLiteral s) (h refl)
    kept false h = record { so = tt }

literal_at : (s : State Input) (x : Content) → content (seen s) ≡ x → Sure s.commas (taken s (literal (kind (seen s)) x (first_span (seen s)))) (GotLiteral s)
literal_at s (Quoted units raw) e = only_sure_kind s str_kind (str_lit (first_span (seen s)) units (Some raw)) (λ k. (λ c. dull c s _ (next s) (raw, refl, e, (k, tt, refl), refl) (λ b l. refl), refl, λ _. refl, λ _. refl))
literal_at s (Numeral value raw) e = only_sure_kind s num_kind (number_lit (first_span (seen s)) value (Some raw)) (λ k. (λ c. dull c s _ (next s) (raw, refl, e, (k, tt, refl), refl) (λ b l. refl), refl, λ _. refl, λ z. absurd (omega (arith, k, z))))
literal_at s (BigNumeral radix digits raw) e = only_sure_kind s big_int_kind (big_int_lit (first_span (seen s)) radix digits (Some raw)) (λ k. (λ c. dull c s _ (next s) (raw, refl, e, (k, tt, refl), refl) (λ b l. refl), refl, λ _. refl, λ z. absurd (omega (arith, k, z))))
literal_at s (Pattern body flags) e = only_sure_kind s regex_kind (regex_lit (first_span (seen s)) body flags) (λ k. (λ c. dull c s _ (next s) (e, (k, tt, refl), refl) (λ b l. refl), refl, λ z. absurd (z k), λ z. absurd (omega (arith, k, z))))
literal_at s _ e = record { so = tt }

pub literal_sure : (inner : Inner Input) (s : State Input) → Sure s.commas (literal_by lm inner s) (GotLiteral s)
unfolding literal_by
literal_sure inner s = literal_at s (content (seen s)) refl

-- a name in brackets
abbrev pub IsBracketed : ℕ → Code → Input → Input → Tree → Type 0
IsBracketed l c ts r (computed_prop_name t e) = Bracketed l c t (child e (λ y. Produces e y)) ts r
IsBracketed l c ts r _ = ⊥

pub bracketed_is : (l : ℕ) (c : Code) (ts r : Input) (P : Tree → Type 0) → ((t : Span) (e : Tree) → Bracketed l c t (child e (λ y. Produces e y)) ts r → P (computed_prop_name t e)) → (k : Tree) → IsBracketed l c ts r k → P k
bracketed_is l c ts r P f (computed_prop_name t e) h = f t e h
bracketed_is l c ts r P f _ h = absurd h

pub private_sure : (inner : Inner Input) (c : Code) (s : State Input) → Sure s.commas (private_by lm inner s) (λ x. (is_private x.0 ≡ true) × Produces x.0 (plain c) (seen s) (seen x.1))
unfolding private_by
private_sure inner c s = eat_sure hash_kind s _ _ (λ h. if_sure s.commas (eqb (lo (seen (next s))) (hi (seen s))) _ _ _
    (λ q. any_sure (next s) _ _ (λ w. done (private_name (span (lo (seen s)) (hi (seen (next s)))) (text (seen (next s))), next (next s)) _ (refl, (seen (next s), (h, tt, refl), eqb-true (lo (seen (next s))) (hi (seen s)) q, (w, refl, tt, refl), refl))))
    (λ _. record { so = tt }))

module _ (inner : Inner Input) (good : Sound inner) where
  pub computed_sure : (c : Code) (l : ℕ) (s : State Input) → 1 ≤ l → ((t : Tree) → AtLeast l t → l ≤ level t) → kind (seen s) ≡ left_bracket_kind → Sure s.commas (computed_by lm inner c l s) (λ x. IsBracketed l (plain c) (seen s) (seen x.1) x.0)
  unfolding computed_by
  computed_sure c l s g f e = then_sure s.commas (inner.expr (with_in c) l (next s)) _ _ _ (good.expr (with_in c) l (next s) g) (λ x h. eat_sure right_bracket_kind x.1 _ _ (λ z.
      done (computed_prop_name (span (lo (seen s)) (hi (seen x.1))) x.0, next x.1) _ (seen (next s), seen x.1, (e, tt, refl), (f x.0 h.0, h.1.produced), (z, tt, refl), refl)))

  pub key_sure : (c : Code) (s : State Input) → Sure s.commas (key_by lm inner c s) (λ x. (is_key x.0 ≡ true) × Produces x.0 (plain c) (seen s) (seen x.1))
  unfolding key_by
  key_sure c s = test_sure s.commas (kind (seen s)) left_bracket_kind _ _ _ (λ e. sure_map s.commas (computed_by lm inner c assignment_level s) _ _ (computed_sure c assignment_level s (omega arith) (λ t h. h) e)
      (λ x h. bracketed_is assignment_level (plain c) (seen s) (seen x.1) (λ t. (is_key t ≡ true) × Produces t (plain c) (seen s) (seen x.1)) (λ t y b. (refl, b)) x.0 h)) (λ _.
      if_sure s.commas (is_word (kind (seen s))) _ _ _ (λ w. done (ident_name (first_span (seen s)) (text (seen s)), next s) _ (refl, ((w, refl, tt, refl), refl))) (λ _.
      test_sure s.commas (kind (seen s)) regex_kind _ _ _ (λ _. record { so = tt }) (λ n. sure_map s.commas (literal_by lm inner s) _ _ (literal_sure inner s) (λ x h. (h.2 n, (h.0 c).produced)))))
