-- Patterns, statements, functions and classes (ECMA-262, clauses 14 and 15): what their rules read of a source is read of a list that it hands out.
use Rattle.std.proofs.Common.{◌≡◌, ◌⊎◌, ℕ, Bool, true, false, not, ◌&&◌, ◌||◌, ◌==◌, cond, eqb, nat_le, if◌then◌else◌, List, [], ◌∷◌, ◌++◌, Ok, inl, inr, refl, sym, ap, ap₂, ◌∙◌, subst, true≢false, eqb-true}
use Rattle.base_proofs.proofs.Bools.{and_second, and_first, and_same}
use Rattle.base_token.specs.declared.place.Span.{Span}
use Rattle.base_token.specs.Kinds.{end_kind, semicolon_kind, hash_kind, dot_dot_dot_kind, left_paren_kind, right_paren_kind, left_bracket_kind, right_bracket_kind, left_brace_kind, right_brace_kind, comma_kind, colon_kind, mul_kind, assign_kind, await_kind, function_kind, class_kind, in_kind, async_kind, get_kind, set_kind, break_kind, case_kind, catch_kind, continue_kind, debugger_kind, default_kind, do_kind, else_kind, finally_kind, for_kind, if_kind, return_kind, switch_kind, throw_kind, try_kind, var_kind, let_kind, const_kind, while_kind, with_kind, extends_kind, of_kind, using_kind, static_kind, accessor_kind}
use Rattle.tree_spec.specs.Tree.{Tree, rest_pat, function, none, pack, ident, binding_ident, assign_pat, absent, more, hole, plain_method, block_stmt, empty_stmt, debugger_stmt, with_stmt, return_stmt, labeled_stmt, break_stmt, continue_stmt, switch_stmt, switch_case, throw_stmt, try_stmt, catch_clause, while_stmt, do_while_stmt, for_stmt, for_in_stmt, for_of_stmt, expr_stmt, class_decl, fn_decl, var_decl, using_decl, var_declarator, class_prop, private_prop, static_block, auto_accessor, array_pat, object_pat, key_value_pat_prop, assign_pat_prop}
use Rattle.grammar_spec.specs.Tokens.Input.{PlacedToken, Input, Code, kind, kind_of, break_of, brk, others, lo, barred, span, kind2, brk2, dots_at, with_in, in_list, in_body, turned_strict, rest, is_strict, without_in, alone, in_field, in_static}
use Rattle.grammar_spec.specs.Tokens.Shape.{is_default_case, ends, is_name, is_absent, is_private, is_structured, is_use_strict, is_plain_function, constructs, field_end, is_statement, declarators_end}
use Rattle.grammar_spec.specs.Tokens.Operators.{assignment_level, closed_end, expression_level, new_level, starts_key, may_name, let_end, plain_end, key_end}
use Rattle.grammar_spec.specs.Reader.Source.{◌>>=◌, unexpected, Stream, State, input, past, operand, at, bound, spanned, eat, eat_word, end_of, Step, go_on, finished, iterate, Inner}
use Rattle.grammar_spec.specs.Reader.Expressions.{first, function_by, setter_parameter, is_async_head}
use Rattle.grammar_spec.specs.Reader.Statements.{constructor_of, has_default, one_bare, Body, Chain, initial_pat, after_item, array_item, array_pat_by, keyed_item, named_item, pattern_prop, object_item, object_pat_by, pat_by, block_step, block_rest, block_by, body_item, body_step, body_by, declarator_by, declarator_step, declarators_by, starts_let, starts_variables, variables_by, starts_using, starts_await_using, using_by, function_decl_by, class_decl_by, field_value, class_key, method_tree, class_method_by, class_getter, class_setter, accessor_by, field_or_method, generator_member, member_rest, starts_static, static_by, member_step, members_by, class_tail_by, in_parens, sub_by, with_by, while_by, do_by, branched, else_by, if_step, if_by, ends_here, return_by, throw_by, label_by, jump_by, debugger_by, case_step, case_rest, case_by, cases_step, switch_by, catch_by, finally_by, try_by, clause_by, for_rest, over_rest, in_rest, of_rest, head_rest, for_variables, for_using, for_expression_rest, for_expression, for_head, for_by, labelled_by, expression_by, starts_async, keyword_stmt, stmt_by, stmt_from}
use Rattle.grammar_spec.specs.Reader.Statements.{statement_class}
use Rattle.base_token.specs.Kinds.{error_kind}
use Rattle.parse_source_laws.specs.Sources.{is_slash, Rereads, one, two}
use Rattle.parse_source_laws.proofs.Beside.{kind_two, lm, on, regexp, slash, Plain, same_default, same_bare}
use Rattle.parse_source_laws.specs.Ahead.{ends_async}
use Rattle.parse_source_laws.proofs.Pairs.{edge_by, edge, Keeps, Loose, Pairing, Paired}
use Rattle.grammar_spec.specs.Tokens.Shape.{declarator_end}
use Rattle.grammar_spec.specs.Tokens.Operators.{binding_end}
use Rattle.parse_source_laws.proofs.Backs.{closed, calm, back_then_by, shut_keeps, same_keeps, Bides, Rest, bides_one, bides_weak, bides_same, bides_test, bides_then, bides_past, bides_end, bides_back, back_two, back_test_two, agrees_two, agrees_plain, agrees_was, agrees_was_on, at_hand, list_at, Here, Path, was, Backed, Steps, Hands, join, stay, took_join, back_never, back_ok, back_weak, back_same, back_then, back_pure, back_test, step_all, step_test, live_past, token, took_token, back_past, agrees, here_by, here_at, back_if, back_at, back_eat, back_word, back_own, back_name, back_again_of, back_end, back_iterate_in, back_iterate, lo_was, first_was, kind_was, at_was, hands_if, hands_then, hands_word, back_turned, back_operand, Echoed}
use Rattle.parse_source_laws.proofs.ConsumedExpressions.{back_unnamed, function_by_backed, key_by_backed, key_then, private_by_backed, setter_parameter_backed, star_backed}

module _ {S : Type 0} {m : Stream S} {Live : Pairing m} {modular : Bool} (w : Paired m Live modular) {il : Inner Input} {im : Inner S} (echo : Echoed m Live modular il im) where
  using_same : (c : Code) (s : State S) → Live.live s.source → (qs : List PlacedToken) → Live.hands 1 qs s.source → starts_using lm il c (list_at m Live s qs) ≡ starts_using m im c s
  using_same c s a qs h = agrees_two w (λ z'. starts_using lm il c (on [] 0 z')) ((λ p' q' l' v'. refl), (λ p' q' l' v'. refl), (λ n' p' q' l' v'. refl), (λ n' p' q' l' v'. refl), (λ n' p' l' v'. refl)) s a qs h

  using_here : (c : Code) (s : State S) → Live.live s.source → starts_using m im c s ≡ true → Here m Live s
  using_here c s a y = here_at w using_kind (refl, refl, refl, refl) refl s a (and_first _ _ (and_second c.syntax.explicit_resource_management (at m using_kind s && (may_name (kind2 (input m s)) && not (brk2 (input m s)))) y))

  using_at : (c : Code) (s : State S) → starts_using m im c s ≡ true → at m using_kind s ≡ true
  using_at c s y = and_first _ _ (and_second c.syntax.explicit_resource_management (at m using_kind s && (may_name (kind2 (input m s)) && not (brk2 (input m s)))) y)

  no_slash_at : (k : ℕ) → is_slash k ≡ false → (s : State S) → at m k s ≡ true → is_slash (kind (input m s)) ≡ false
  no_slash_at k e s y = ap is_slash (eqb-true (kind (input m s)) k y) ∙ e

  two_one : {A : Type 0} (B : List PlacedToken → A) → ((p : PlacedToken) (l v : List PlacedToken) → B (p ∷ l) ≡ B (p ∷ v)) → (l : List PlacedToken) → B (two l) ≡ B l
  two_one B f [] = refl
  two_one B f (p ∷ l) = f p (one l) l

  -- a test of the token behind one that is no slash
  second_same : {A : Type 0} (B : List PlacedToken → A) → ((p q : PlacedToken) (l v : List PlacedToken) → B (regexp p ∷ l) ≡ B (slash true p q ∷ v)) → ((p q : PlacedToken) (l v : List PlacedToken) → B (regexp p ∷ l) ≡ B (slash false p q ∷ v)) → ((p : PlacedToken) (l v : List PlacedToken) → B (p ∷ l) ≡ B (p ∷ v))
      → (s : State S) (j : Here m Live s) → is_slash (kind (input m s)) ≡ false → (qs : List PlacedToken) → Live.hands 1 qs s.source → B (others qs) ≡ B (others (m.seen s.source))
  second_same B f g i s j e qs h = let z = w.behind 0 j.place qs j.shown s.source j.live j.seen (sym (ap (λ z. is_slash (kind_of z)) j.seen) ∙ e) h in
      ap (λ v. B (others v)) z.1 ∙ (w.one B (f, g, i) z.0 (m.after s.source) (live_past w j) z.2 ∙ sym (ap (λ v. B (others v)) j.seen ∙ (ap B (w.order.behind s.source j.place j.shown j.live j.seen) ∙ two_one B i (m.seen (m.after s.source)))))

  using_of_same : (c : Code) (s : State S) → Live.live s.source → (qs : List PlacedToken) → Live.hands 1 qs s.source → (starts_using lm il c (list_at m Live s qs) && not (kind2 (input lm (list_at m Live s qs)) == of_kind)) ≡ (starts_using m im c s && not (kind2 (input m s) == of_kind))
  using_of_same c s a qs h = and_same (starts_using lm il c (list_at m Live s qs)) (starts_using m im c s) _ _ (using_same c s a qs h) (λ y. by_source (sym (using_same c s a qs h) ∙ y))
    where
      by_source : starts_using m im c s ≡ true → not (kind2 (input lm (list_at m Live s qs)) == of_kind) ≡ not (kind2 (input m s) == of_kind)
      by_source y = second_same (λ z. not (eqb (kind_of z) of_kind)) (λ p q l v. refl) (λ p q l v. refl) (λ p l v. refl) s (using_here c s a y) (no_slash_at using_kind refl s (using_at c s y)) qs h

  await_using_same : (c : Code) (s : State S) → Live.live s.source → (qs : List PlacedToken) → Live.hands 2 qs s.source → starts_await_using lm il c (list_at m Live s qs) ≡ starts_await_using m im c s
  await_using_same c s a qs h = ap (λ (b : Bool). c.context.in_async && b) (and_same (at lm await_kind (list_at m Live s qs)) (at m await_kind s) _ _ (at_hand w await_kind (refl, refl, refl, refl) s a qs (w.fewer 0 qs s.source a (w.fewer 1 qs s.source a h))) (λ y. by_behind (eqb-true (kind (input lm (list_at m Live s qs))) await_kind y)))
    where
      by_behind : kind_of qs ≡ await_kind → (not (barred c.context (input lm (list_at m Live s qs))) && (not (brk2 (input lm (list_at m Live s qs))) && starts_using lm il c (past lm (list_at m Live s qs)))) ≡ (not (barred c.context (input m s)) && (not (brk2 (input m s)) && starts_using m im c (past m s)))
      by_behind k = let e = at_hand w await_kind (refl, refl, refl, refl) s a qs (w.fewer 0 qs s.source a (w.fewer 1 qs s.source a h)) in let y = sym e ∙ ap (λ (z : ℕ). eqb z await_kind) k in let j = here_at w await_kind (refl, refl, refl, refl) refl s a y in
          let z = w.behind 1 j.place qs j.shown s.source j.live j.seen (sym (ap (λ z. is_slash (kind_of z)) j.seen) ∙ no_slash_at await_kind refl s y) h in
          ap₂ (λ (a b : Bool). not a && b) (agrees_plain w (λ z'. barred c.context (record { last = 0; places = z' })) (λ p' l' v'. refl) s (no_slash_at await_kind refl s y) a qs (w.fewer 0 qs s.source a (w.fewer 1 qs s.source a h)))
          (ap₂ (λ (a b : Bool). not a && b) (second_same break_of (λ p q l v. refl) (λ p q l v. refl) (λ p l v. refl) s j (no_slash_at await_kind refl s y) qs (w.fewer 1 qs s.source a h))
          (ap (λ v. starts_using lm il c (on [] 0 (others v))) z.1 ∙ using_same c (past m s) (live_past w j) z.0 z.2))

  third_at : (s : State S) (j : Here m Live s) (k : Here m Live (past m s)) → kind2 (rest (input m s)) ≡ kind_of (m.seen (m.after (m.after s.source)))
  third_at s j k = ap (λ z. kind_of (others (others z))) j.seen
      ∙ (ap (λ z. kind_of (others z)) (w.order.behind s.source j.place j.shown j.live j.seen) ∙ (ap (λ z. kind_of (others (two z))) k.seen ∙ (ap (λ z. kind_of (one z)) (w.order.behind (m.after s.source) k.place k.shown k.live k.seen) ∙ kind_two (m.seen (m.after (m.after s.source))))))

  await_of_same : (c : Code) (s : State S) → Live.live s.source → (qs : List PlacedToken) → Live.hands 2 qs s.source → (starts_await_using lm il c (list_at m Live s qs) && not (kind2 (rest (input lm (list_at m Live s qs))) == of_kind)) ≡ (starts_await_using m im c s && not (kind2 (rest (input m s)) == of_kind))
  await_of_same c s a qs h = and_same (starts_await_using lm il c (list_at m Live s qs)) (starts_await_using m im c s) _ _ (await_using_same c s a qs h) (λ y. by_source (sym (await_using_same c s a qs h) ∙ y))
    where
      by_using : (j : Here m Live s) → at m await_kind s ≡ true → starts_using m im c (past m s) ≡ true → not (kind2 (rest (input lm (list_at m Live s qs))) == of_kind) ≡ not (kind2 (rest (input m s)) == of_kind)
      by_using j y z = let k = using_here c (past m s) (live_past w j) z in
          let u = w.behind 1 j.place qs j.shown s.source j.live j.seen (sym (ap (λ z. is_slash (kind_of z)) j.seen) ∙ no_slash_at await_kind refl s y) h in
          let v = w.behind 0 k.place u.0 k.shown (m.after s.source) k.live k.seen (sym (ap (λ z. is_slash (kind_of z)) k.seen) ∙ no_slash_at using_kind refl (past m s) (using_at c (past m s) z)) u.2 in
          ap (λ l. not (eqb (kind_of (others (others l))) of_kind)) u.1 ∙ (ap (λ l. not (eqb (kind_of (others l)) of_kind)) v.1 ∙ (ap not (at_hand w of_kind (refl, refl, refl, refl) (past m (past m s)) (live_past w k) v.0 v.2) ∙ ap (λ (n : ℕ). not (eqb n of_kind)) (sym (third_at s j k))))

      by_source : starts_await_using m im c s ≡ true → not (kind2 (rest (input lm (list_at m Live s qs))) == of_kind) ≡ not (kind2 (rest (input m s)) == of_kind)
      by_source y = let z = and_second c.context.in_async _ y in let at_ = and_first (at m await_kind s) _ z in by_using (here_at w await_kind (refl, refl, refl, refl) refl s a at_) at_
          (and_second (not (brk2 (input m s))) _ (and_second (not (barred c.context (input m s))) _ (and_second (at m await_kind s) _ z)))

  await_of_told : (c : Code) (s : State S) → Live.live s.source → (qs : List PlacedToken) → (Live.hands 2 qs s.source ⊎ Rest w (λ z. ⊥) s qs) → (starts_await_using lm il c (list_at m Live s qs) && not (kind2 (rest (input lm (list_at m Live s qs))) == of_kind)) ≡ (starts_await_using m im c s && not (kind2 (rest (input m s)) == of_kind))
  await_of_told c s a qs (inl o) = await_of_same c s a qs o
  await_of_told c s a qs (inr o) = absurd o.1

  -- no `using` stands on the line
  abbrev Calm : List PlacedToken → Type 0
  Calm l = (break_of l || not (kind_of l == using_kind)) ≡ true

  pause_by : (k : ℕ) (b g : Bool) → ((k == right_brace_kind) || ((k == end_kind) || (b && g))) ≡ true → (b || not (k == using_kind)) ≡ true
  pause_by k b g e = by_test (eqb k using_kind) refl
    where
      by_break : (x : Bool) → (x || true) ≡ true
      by_break true = refl
      by_break false = refl

      by_test : (t : Bool) → eqb k using_kind ≡ t → (b || not t) ≡ true
      by_test false i = by_break b
      by_test true i = ap (λ (z : Bool). z || false) (and_first b g (subst (λ (n : ℕ). ((n == right_brace_kind) || ((n == end_kind) || (b && g))) ≡ true) (eqb-true k using_kind i) e))

  off_same : (x y u v : Bool) → x ≡ y → x ≡ true → (not x && u) ≡ (not y && v)
  off_same true true u v e i = refl
  off_same true false u v e i = absurd (true≢false e)
  off_same false y u v e i = absurd (true≢false (sym i))

  await_calm : (c : Code) (s : State S) → Live.live s.source → (qs : List PlacedToken) → Live.hands 1 qs s.source → Calm (others qs) → starts_await_using lm il c (list_at m Live s qs) ≡ starts_await_using m im c s
  await_calm c s a qs h q = ap (λ (b : Bool). c.context.in_async && b) (and_same (at lm await_kind (list_at m Live s qs)) (at m await_kind s) _ _ same_at (λ y. by_at (sym same_at ∙ y)))
    where
      same_at : at lm await_kind (list_at m Live s qs) ≡ at m await_kind s
      same_at = at_hand w await_kind (refl, refl, refl, refl) s a qs (w.fewer 0 qs s.source a h)

      same_break : at m await_kind s ≡ true → brk2 (input lm (list_at m Live s qs)) ≡ brk2 (input m s)
      same_break y = second_same break_of (λ p q l v. refl) (λ p q l v. refl) (λ p l v. refl) s (here_at w await_kind (refl, refl, refl, refl) refl s a y) (no_slash_at await_kind refl s y) qs h

      by_using : at m await_kind s ≡ true → (t b : Bool) → eqb (kind_of (others qs)) using_kind ≡ t → break_of (others qs) ≡ b → (b || not t) ≡ true
          → (not (brk2 (input lm (list_at m Live s qs))) && starts_using lm il c (past lm (list_at m Live s qs))) ≡ (not (brk2 (input m s)) && starts_using m im c (past m s))
      by_using y t true i o e = off_same _ _ _ _ (same_break y) o
      by_using y true false i o e = absurd (true≢false (sym e))
      by_using y false false i o e = let j = here_at w await_kind (refl, refl, refl, refl) refl s a y in
          let z = w.behind 0 j.place qs j.shown s.source j.live j.seen (sym (ap (λ z. is_slash (kind_of z)) j.seen) ∙ no_slash_at await_kind refl s y) h in
          let n = sym (at_hand w using_kind (refl, refl, refl, refl) (past m s) (live_past w j) z.0 z.2) ∙ (sym (ap (λ l. eqb (kind_of (others l)) using_kind) z.1) ∙ i) in
          ap₂ (λ (x u : Bool). not x && (c.syntax.explicit_resource_management && u)) (same_break y) (ap (λ (x : Bool). x && (may_name (kind2 (input lm (past lm (list_at m Live s qs)))) && not (brk2 (input lm (past lm (list_at m Live s qs)))))) i ∙ sym (ap (λ (x : Bool). x && (may_name (kind2 (input m (past m s))) && not (brk2 (input m (past m s))))) n))

      by_at : at m await_kind s ≡ true → (not (barred c.context (input lm (list_at m Live s qs))) && (not (brk2 (input lm (list_at m Live s qs))) && starts_using lm il c (past lm (list_at m Live s qs)))) ≡ (not (barred c.context (input m s)) && (not (brk2 (input m s)) && starts_using m im c (past m s)))
      by_at y = ap₂ (λ (x u : Bool). not x && u) (agrees_plain w (λ z'. barred c.context (record { last = 0; places = z' })) (λ p' l' v'. refl) s (no_slash_at await_kind refl s y) a qs (w.fewer 0 qs s.source a h)) (by_using y _ _ refl refl q)

  await_told : (c : Code) (s : State S) → Live.live s.source → (qs : List PlacedToken) → (Live.hands 2 qs s.source ⊎ Rest w Calm s qs) → starts_await_using lm il c (list_at m Live s qs) ≡ starts_await_using m im c s
  await_told c s a qs (inl o) = await_using_same c s a qs o
  await_told c s a qs (inr o) = await_calm c s a qs o.0 o.1

  abbrev declares : ℕ → Bool
  declares z = (z == var_kind) || ((z == const_kind) || (z == let_kind))

  head_here : (s : State S) → Live.live s.source → (at m var_kind s || (at m const_kind s || starts_let m im s)) ≡ true → Here m Live s
  head_here s l y = here_by w (λ z. declares (kind_of z)) (refl, λ p v. refl) s l (less (at m var_kind s) (at m const_kind s) (at m let_kind s) _ y)
    where
      less : (a b d e : Bool) → (a || (b || (d && e))) ≡ true → (a || (b || d)) ≡ true
      less true b d e y = refl
      less false true d e y = refl
      less false false d e y = and_first d e y

  variables_here : (c : Code) (s : State S) → Live.live s.source → starts_variables m im c s ≡ true → Here m Live s
  variables_here c s l y = head_here s l (less (at m var_kind s) c.listed (at m const_kind s || starts_let m im s) y)
    where
      less : (a b d : Bool) → (a || (b && d)) ≡ true → (a || d) ≡ true
      less true b d y = refl
      less false b d y = and_second b d y

  await_here : (c : Code) (s : State S) → Live.live s.source → starts_await_using m im c s ≡ true → Here m Live s
  await_here c s l y = here_at w await_kind (refl, refl, refl, refl) refl s l (and_first _ _ (and_second c.context.in_async (at m await_kind s && (not (barred c.context (input m s)) && (not (brk2 (input m s)) && starts_using m im c (past m s)))) y))

  class_was : (c : Code) (s : State S) {t : State S} (u : Path m Live s t) (e : Tree) (qs : List PlacedToken) → Live.hands 0 qs t.source → statement_class lm il c (list_at m Live s (u.back qs)) e ≡ statement_class m im c s e
  class_was c s u e qs h = ap (λ (b : Bool). if c.listed && (b && is_name e) then let_end else ends e) (at_was w let_kind (refl, refl, refl, refl) u qs h)

  pub edge_shut : (t : Tree) → nat_le closed_end (edge t) ≡ false → nat_le closed_end (ends t) ≡ false
  edge_shut t e = by_class (nat_le closed_end (ends t)) e
    where
      by_class : (b : Bool) → nat_le closed_end (edge_by b (ends_async t)) ≡ false → b ≡ false
      by_class true i = absurd (true≢false i)
      by_class false i = refl

  -- variables by their last initialiser: closed, or what asks most
  abbrev pub loosely : Bool → ℕ
  loosely b = if b then closed_end else 0

  loose_keeps : (a b x : Bool) → a ≡ b → Keeps (edge_by a x) (loosely b)
  loose_keeps true b x e = shut_keeps (loosely b)
  loose_keeps false true x e = absurd (true≢false (sym e))
  loose_keeps false false x e = (λ i. refl, λ i. refl)

  loose_shut : (b : Bool) → nat_le closed_end (loosely b) ≡ false → b ≡ false
  loose_shut true e = absurd (true≢false e)
  loose_shut false e = refl

  declare_open : (v : Tree) → is_absent v ≡ false → Keeps (edge v) (loosely (nat_le closed_end (if is_absent v then binding_end else ends v)))
  declare_open v s = loose_keeps _ _ (ends_async v) (sym (ap (λ (z : Bool). nat_le closed_end (if z then binding_end else ends v)) s))

  declared_pack : (d : Tree) (ds : List Tree) → declarators_end (pack (ds ++ d ∷ [])) ≡ declarator_end d
  declared_pack d [] = refl
  declared_pack d (t ∷ []) = refl
  declared_pack d (t ∷ (u ∷ ts)) = declared_pack d (u ∷ ts)

  declared_open : (ds : List Tree) (d : Tree) → Keeps (loosely (nat_le closed_end (declarator_end d))) (loosely (nat_le closed_end (declarators_end (pack (ds ++ d ∷ [])))))
  declared_open ds d = subst (λ (z : ℕ). Keeps (loosely (nat_le closed_end (declarator_end d))) (loosely (nat_le closed_end z))) (sym (declared_pack d ds)) (same_keeps _)

  abbrev step_declared : Step (List Tree) → ℕ
  step_declared (go_on ds) = closed_end
  step_declared (finished ds) = loosely (nat_le closed_end (declarators_end (pack ds)))

  class_loose : (c : Code) (s : State S) (e : Tree) → nat_le closed_end (edge e) ≡ false → Loose (statement_class m im c s e)
  class_loose c s e i = by_test (c.listed && (at m let_kind s && is_name e))
    where
      by_test : (b : Bool) → Loose (if b then let_end else ends e)
      by_test true = inr refl
      by_test false = inl (edge_shut e i)

  pub initial_pat_backed : (s : State S) (c : Code) (ce : c.context.module_ ≡ modular) (start : State S) (startu : Path m Live start s) (p : Tree) (sl' : Live.live s.source) → Backed m Live calm false closed_end s (initial_pat m im c (lo (input m start)) p s) (λ r'. initial_pat lm il c (lo (input lm (was m Live startu r'))) p r')
  unfolding initial_pat
  initial_pat_backed s c ce start startu p sl' = back_at w {s = s} assign_kind (refl, refl, refl, refl) refl sl' _ _ _ _ (λ j1. back_weak _ (back_past w {s = s} j1 _ (λ r' q'. (il.expr (with_in c) assignment_level q' >>= λ e. Ok (assign_pat (spanned lm (lo (input lm (was m Live startu r'))) e.1) p e.0, e.1))) (back_then _ _ _ _ (echo.expr (with_in c) ce assignment_level (past m s) (live_past w j1)) (λ e2a e2s e2u. back_ok {s = e2s} _ _ e2u.live (λ qs' h'. ap (λ (z' : ℕ). assign_pat ((span z' (m.last e2s.source))) p e2a) (lo_was w (join (join startu (token w j1)) e2u) qs' h')) ((λ i'. refl), (λ i'. refl)))))) (back_ok {s = s} _ _ sl' (λ qs' h'. refl) ((λ i'. absurd (true≢false i')), (λ i'. absurd (true≢false i'))))

  pub after_item_backed : {e' : ℕ} (s : State S) (close : ℕ) (shut : Plain close) (shutf : eqb error_kind close ≡ false) (last : Bool) (items : List Tree) (sl' : Live.live s.source) → Backed m Live closed true e' s (after_item m im close last items s) (λ r'. after_item lm il close last items r')
  unfolding after_item
  after_item_backed s close shut shutf last items sl' = back_if w {s = s} (λ z'. at lm comma_kind (on [] 0 z') && not last) ((λ p' q' l' v'. refl), (λ p' q' l' v'. refl), (λ p' l' v'. refl)) sl' _ _ _ _ (λ y1. back_past w {s = s} (here_at w comma_kind (refl, refl, refl, refl) refl s sl' (and_first _ _ y1)) _ (λ r' q'. Ok (go_on items, q')) (back_ok {s = (past m s)} _ _ (live_past w (here_at w comma_kind (refl, refl, refl, refl) refl s sl' (and_first _ _ y1))) (λ qs' h'. refl) ((λ i'. absurd (true≢false i')), (λ i'. absurd (true≢false i'))))) (back_eat w {s = s} close shut shutf sl' _ _ (λ j2. back_ok {s = (past m s)} _ _ (live_past w j2) (λ qs' h'. refl) ((λ i'. absurd (true≢false i')), (λ i'. absurd (true≢false i')))))

  pub array_item_backed : (s : State S) (c : Code) (ce : c.context.module_ ≡ modular) (xs : List Tree) (sl' : Live.live s.source) → Backed m Live closed true closed_end s (array_item m im c xs s) (λ r'. array_item lm il c xs r')
  unfolding array_item
  array_item_backed s c ce xs sl' = back_at w {s = s} right_bracket_kind (refl, refl, refl, refl) refl sl' _ _ _ _ (λ j1. back_past w {s = s} j1 _ (λ r' q'. Ok (finished xs, q')) (back_ok {s = (past m s)} _ _ (live_past w j1) (λ qs' h'. refl) ((λ i'. absurd (true≢false i')), (λ i'. absurd (true≢false i'))))) (back_at w {s = s} comma_kind (refl, refl, refl, refl) refl sl' _ _ _ _ (λ j2. back_past w {s = s} j2 _ (λ r' q'. Ok (go_on (xs ++ hole ∷ []), q')) (back_ok {s = (past m s)} _ _ (live_past w j2) (λ qs' h'. refl) ((λ i'. absurd (true≢false i')), (λ i'. absurd (true≢false i'))))) (back_at w {s = s} dot_dot_dot_kind (refl, refl, refl, refl) refl sl' _ _ _ _ (λ j3. back_past w {s = s} j3 _ (λ r' q'. (il.pat (with_in c) q' >>= λ p. after_item lm il right_bracket_kind true (xs ++ rest_pat (spanned lm (lo (input lm r')) p.1) (dots_at (lo (input lm r'))) p.0 ∷ []) p.1)) (back_then _ _ _ _ (echo.pat (with_in c) ce (past m s) (live_past w j3)) (λ p4a p4s p4u. back_same _ (λ r'. after_item lm il right_bracket_kind true (xs ++ rest_pat ((spanned m (lo (input m s)) p4s)) (dots_at ((lo (input m s)))) p4a ∷ []) r') (λ r'. after_item lm il right_bracket_kind true (xs ++ rest_pat (spanned lm (lo (input lm (was m Live (join (token w j3) p4u) r'))) r') (dots_at (lo (input lm (was m Live (join (token w j3) p4u) r')))) p4a ∷ []) r') (λ qs' h'. ap (λ (z' : ℕ). after_item lm il right_bracket_kind true (xs ++ rest_pat ((span z' (m.last p4s.source))) (dots_at ((lo (input lm (was m Live (join (token w j3) p4u) (list_at m Live p4s qs')))))) p4a ∷ []) (list_at m Live p4s qs')) (lo_was w (join (token w j3) p4u) qs' h') ∙ (ap (λ (z' : ℕ). after_item lm il right_bracket_kind true (xs ++ rest_pat ((spanned m (lo (input m s)) p4s)) (dots_at (z')) p4a ∷ []) (list_at m Live p4s qs')) (lo_was w (join (token w j3) p4u) qs' h'))) (after_item_backed p4s right_bracket_kind (refl, refl, refl, refl) refl true (xs ++ rest_pat (spanned m (lo (input m s)) p4s) (dots_at (lo (input m s))) p4a ∷ []) p4u.live)))) (back_then _ _ _ _ (echo.pat (with_in c) ce s sl') (λ p6a p6s p6u. back_then _ _ _ _ (initial_pat_backed p6s c ce s p6u p6a p6u.live) (λ q8a q8s q8u. after_item_backed q8s right_bracket_kind (refl, refl, refl, refl) refl false (xs ++ q8a ∷ []) q8u.live)))))

  pub array_pat_by_backed : {e' : ℕ} (s : State S) (c : Code) (ce : c.context.module_ ≡ modular) (j' : Here m Live s) → Backed m Live closed true e' s (array_pat_by m im c s) (λ r'. array_pat_by lm il c r')
  unfolding array_pat_by
  array_pat_by_backed s c ce j' = back_past w {s = s} j' _ (λ r' q'. (iterate (bound lm) (array_item lm il c) [] q' >>= λ xs. Ok (array_pat (spanned lm (lo (input lm r')) xs.1) (pack xs.0), xs.1))) (back_then _ _ _ _ (back_iterate w closed {s = (past m s)} true (λ r' x' q'. array_item lm il c x' q') _ (λ x' t' u'. step_all (array_item_backed t' c ce x' u'.live)) ([]) (live_past w j')) (λ xs1a xs1s xs1u. back_ok {s = xs1s} _ _ xs1u.live (λ qs' h'. ap (λ (z' : ℕ). array_pat ((span z' (m.last xs1s.source))) (pack xs1a)) (lo_was w (join (token w j') xs1u) qs' h')) ((λ i'. absurd (true≢false i')), (λ i'. absurd (true≢false i')))))

  pub keyed_item_backed : (s : State S) (c : Code) (ce : c.context.module_ ≡ modular) (start : State S) (startu : Path m Live start s) (k : Tree) (sl' : Live.live s.source) → Backed m Live calm true closed_end s (keyed_item m im c (lo (input m start)) k s) (λ r'. keyed_item lm il c (lo (input lm (was m Live startu r'))) k r')
  unfolding keyed_item
  keyed_item_backed s c ce start startu k sl' = back_then _ _ _ _ (echo.pat (with_in c) ce s sl') (λ p1a p1s p1u. back_then _ _ _ _ (initial_pat_backed p1s c ce s p1u p1a p1u.live) (λ q3a q3s q3u. back_ok {s = q3s} _ _ q3u.live (λ qs' h'. ap (λ (z' : ℕ). key_value_pat_prop ((span z' (m.last q3s.source))) k q3a) (lo_was w (join (join startu p1u) q3u) qs' h')) ((λ i'. refl), (λ i'. refl))))

  pub pattern_prop_backed : {e : ℕ} (s : State S) (c : Code) (ce : c.context.module_ ≡ modular) (sl' : Live.live s.source) → Backed m Live calm true e s (pattern_prop m im c s) (λ r'. pattern_prop lm il c r')
  unfolding pattern_prop named_item
  pattern_prop_backed s c ce sl' = key_then w echo c ce s sl' _ _ (λ j k. back_at w {s = (past m s)} colon_kind (refl, refl, refl, refl) refl (live_past w j) _ _ _ _ (λ j1. back_weak _ (back_past w {s = (past m s)} j1 _ (λ r' q'. keyed_item lm il c (lo (input lm (was m Live (token w j) r'))) k q') (keyed_item_backed (past m (past m s)) c ce s (join (token w j) (token w j1)) k (live_past w j1)))) (back_again_of w {s = s} _ (λ q. bound lm q) c j _ _ (λ n2. back_at w {s = (past m s)} assign_kind (refl, refl, refl, refl) refl (live_past w j) _ _ _ _ (λ j3. back_weak _ (back_past w {s = (past m s)} j3 _ (λ r' q'. (il.expr (with_in c) assignment_level q' >>= λ e. Ok (assign_pat_prop (spanned lm (lo (input lm (was m Live (token w j) r'))) e.1) (binding_ident (first lm il (was m Live (token w j) r')) (ident (first lm il (was m Live (token w j) r')) n2)) e.0, e.1))) (back_then _ _ _ _ (echo.expr (with_in c) ce assignment_level (past m (past m s)) (live_past w j3)) (λ e4a e4s e4u. back_ok {s = e4s} _ _ e4u.live (λ qs' h'. ap (λ (z' : ℕ). assign_pat_prop ((span z' (m.last e4s.source))) (binding_ident ((first lm il (was m Live (join (join (token w j) (token w j3)) e4u) (list_at m Live e4s qs')))) (ident ((first lm il (was m Live (join (join (token w j) (token w j3)) e4u) (list_at m Live e4s qs')))) n2)) e4a) (lo_was w (join (join (token w j) (token w j3)) e4u) qs' h') ∙ (ap (λ (z' : Span). assign_pat_prop ((spanned m (lo (input m s)) e4s)) (binding_ident (z') (ident (z') n2)) e4a) (first_was w (join (join (token w j) (token w j3)) e4u) (took_join (join (token w j) (token w j3)) e4u (took_join (token w j) (token w j3) (took_token w j))) qs' h'))) ((λ i'. refl), (λ i'. refl)))))) (back_ok {s = (past m s)} _ _ (live_past w j) (λ qs' h'. ap (λ (z' : Span). assign_pat_prop (z') (binding_ident (z') (ident (z') n2)) absent) (first_was w (token w j) (took_token w j) qs' h')) ((λ i'. absurd (true≢false i')), (λ i'. absurd (true≢false i')))))))
      (λ ne k r ru. back_weak _ (back_at w {s = r} colon_kind (refl, refl, refl, refl) refl ru.live _ _ _ _ (λ j6. back_past w {s = r} j6 _ (λ r' q'. keyed_item lm il c (lo (input lm (was m Live ru r'))) k q') (keyed_item_backed (past m r) c ce s (join ru (token w j6)) k (live_past w j6))) (back_unnamed w echo _ c s _ ne)))

  pub object_item_backed : {e' : ℕ} (s : State S) (c : Code) (ce : c.context.module_ ≡ modular) (xs : List Tree) (sl' : Live.live s.source) → Backed m Live closed true e' s (object_item m im c xs s) (λ r'. object_item lm il c xs r')
  unfolding object_item
  object_item_backed s c ce xs sl' = back_at w {s = s} right_brace_kind (refl, refl, refl, refl) refl sl' _ _ _ _ (λ j1. back_past w {s = s} j1 _ (λ r' q'. Ok (finished xs, q')) (back_ok {s = (past m s)} _ _ (live_past w j1) (λ qs' h'. refl) ((λ i'. absurd (true≢false i')), (λ i'. absurd (true≢false i'))))) (back_at w {s = s} dot_dot_dot_kind (refl, refl, refl, refl) refl sl' _ _ _ _ (λ j2. back_past w {s = s} j2 _ (λ r' q'. (il.pat (with_in c) q' >>= λ p. if is_structured p.0 then unexpected lm p.1 else (after_item lm il right_brace_kind true (xs ++ rest_pat (spanned lm (lo (input lm r')) p.1) (dots_at (lo (input lm r'))) p.0 ∷ []) p.1))) (back_then _ _ _ _ (echo.pat (with_in c) ce (past m s) (live_past w j2)) (λ p3a p3s p3u. back_test (is_structured p3a) (λ r'. is_structured p3a) _ _ _ _ (λ qs' h'. refl) (λ y5. back_never) (λ _. back_same _ (λ r'. after_item lm il right_brace_kind true (xs ++ rest_pat ((spanned m (lo (input m s)) p3s)) (dots_at ((lo (input m s)))) p3a ∷ []) r') (λ r'. after_item lm il right_brace_kind true (xs ++ rest_pat (spanned lm (lo (input lm (was m Live (join (token w j2) p3u) r'))) r') (dots_at (lo (input lm (was m Live (join (token w j2) p3u) r')))) p3a ∷ []) r') (λ qs' h'. ap (λ (z' : ℕ). after_item lm il right_brace_kind true (xs ++ rest_pat ((span z' (m.last p3s.source))) (dots_at ((lo (input lm (was m Live (join (token w j2) p3u) (list_at m Live p3s qs')))))) p3a ∷ []) (list_at m Live p3s qs')) (lo_was w (join (token w j2) p3u) qs' h') ∙ (ap (λ (z' : ℕ). after_item lm il right_brace_kind true (xs ++ rest_pat ((spanned m (lo (input m s)) p3s)) (dots_at (z')) p3a ∷ []) (list_at m Live p3s qs')) (lo_was w (join (token w j2) p3u) qs' h'))) (after_item_backed p3s right_brace_kind (refl, refl, refl, refl) refl true (xs ++ rest_pat (spanned m (lo (input m s)) p3s) (dots_at (lo (input m s))) p3a ∷ []) p3u.live))))) (back_then _ _ _ _ (pattern_prop_backed s c ce sl') (λ p6a p6s p6u. after_item_backed p6s right_brace_kind (refl, refl, refl, refl) refl false (xs ++ p6a ∷ []) p6u.live)))

  pub object_pat_by_backed : {e' : ℕ} (s : State S) (c : Code) (ce : c.context.module_ ≡ modular) (j' : Here m Live s) → Backed m Live closed true e' s (object_pat_by m im c s) (λ r'. object_pat_by lm il c r')
  unfolding object_pat_by
  object_pat_by_backed s c ce j' = back_past w {s = s} j' _ (λ r' q'. (iterate (bound lm) (object_item lm il c) [] q' >>= λ xs. Ok (object_pat (spanned lm (lo (input lm r')) xs.1) (pack xs.0), xs.1))) (back_then _ _ _ _ (back_iterate w closed {s = (past m s)} true (λ r' x' q'. object_item lm il c x' q') _ (λ x' t' u'. step_all (object_item_backed t' c ce x' u'.live)) ([]) (live_past w j')) (λ xs1a xs1s xs1u. back_ok {s = xs1s} _ _ xs1u.live (λ qs' h'. ap (λ (z' : ℕ). object_pat ((span z' (m.last xs1s.source))) (pack xs1a)) (lo_was w (join (token w j') xs1u) qs' h')) ((λ i'. absurd (true≢false i')), (λ i'. absurd (true≢false i')))))

  pub pat_by_backed : {e' : ℕ} (s : State S) (c : Code) (ce : c.context.module_ ≡ modular) (sl' : Live.live s.source) → Backed m Live closed true e' s (pat_by m im c s) (λ r'. pat_by lm il c r')
  unfolding pat_by
  pat_by_backed s c ce sl' = back_at w {s = s} left_bracket_kind (refl, refl, refl, refl) refl sl' _ _ _ _ (λ j1. array_pat_by_backed s c ce j1) (back_at w {s = s} left_brace_kind (refl, refl, refl, refl) refl sl' _ _ _ _ (λ j2. object_pat_by_backed s c ce j2) (back_name w {s = s} c sl' _ _ (λ n4 j3. back_ok {s = (past m s)} _ _ (live_past w j3) (λ qs' h'. ap (λ (z' : Span). binding_ident (z') (ident (z') n4)) (first_was w (token w j3) (took_token w j3) qs' h')) ((λ i'. absurd (true≢false i')), (λ i'. absurd (true≢false i'))))))

  pub block_step_backed : (s : State S) (c : Code) (ce : c.context.module_ ≡ modular) (ss : List Tree) (sl' : Live.live s.source) → Backed m Live closed true closed_end s (block_step m im c ss s) (λ r'. block_step lm il c ss r')
  unfolding block_step
  block_step_backed s c ce ss sl' = back_at w {s = s} right_brace_kind (refl, refl, refl, refl) refl sl' _ _ _ _ (λ j1. back_past w {s = s} j1 _ (λ r' q'. Ok (finished ss, q')) (back_ok {s = (past m s)} _ _ (live_past w j1) (λ qs' h'. refl) ((λ i'. absurd (true≢false i')), (λ i'. absurd (true≢false i'))))) (back_then _ _ _ _ (echo.stmt (in_list c) ce s sl') (λ t2a t2s t2u. back_ok {s = t2s} _ _ t2u.live (λ qs' h'. refl) ((λ i'. absurd (true≢false i')), (λ i'. absurd (true≢false i')))))

  pub block_rest_backed : (s : State S) (c : Code) (ce : c.context.module_ ≡ modular) (start : State S) (startu : Path m Live start s) (sl' : Live.live s.source) → Backed m Live closed true closed_end s (block_rest m im c (lo (input m start)) s) (λ r'. block_rest lm il c (lo (input lm (was m Live startu r'))) r')
  unfolding block_rest
  block_rest_backed s c ce start startu sl' = back_then _ _ _ _ (back_iterate w closed {s = s} true (λ r' x' q'. block_step lm il c x' q') _ (λ x' t' u'. step_all (block_step_backed t' c ce x' u'.live)) ([]) sl') (λ ss1a ss1s ss1u. back_ok {s = ss1s} _ _ ss1u.live (λ qs' h'. ap (λ (z' : ℕ). block_stmt ((span z' (m.last ss1s.source))) (pack ss1a)) (lo_was w (join startu ss1u) qs' h')) ((λ i'. absurd (true≢false i')), (λ i'. absurd (true≢false i'))))

  pub block_by_backed : {e' : ℕ} (s : State S) (c : Code) (ce : c.context.module_ ≡ modular) (sl' : Live.live s.source) → Backed m Live closed true e' s (block_by m im c s) (λ r'. block_by lm il c r')
  unfolding block_by
  block_by_backed s c ce sl' = back_eat w {s = s} left_brace_kind (refl, refl, refl, refl) refl sl' _ _ (λ j1. block_rest_backed (past m s) c ce s (token w j1) (live_past w j1))

  pub body_item_backed : (s : State S) (b : Body) (be : b.code.context.module_ ≡ modular) (sl' : Live.live s.source) → Backed m Live closed true closed_end s (body_item m im b s) (λ r'. body_item lm il b r')
  unfolding body_item
  body_item_backed s b be sl' = back_then _ _ _ _ (echo.stmt (in_list b.code) be s sl') (λ t1a t1s t1u. back_test (b.starts && is_use_strict t1a) (λ r'. b.starts && is_use_strict t1a) _ _ _ _ (λ qs' h'. refl) (λ y3. back_turned w {s = t1s} ((turned_strict b.code).context) be _ _ t1u.live (λ qs' h'. refl)) (λ _. back_ok {s = t1s} _ _ t1u.live (λ qs' h'. refl) ((λ i'. absurd (true≢false i')), (λ i'. absurd (true≢false i')))))

  pub body_step_backed : (s : State S) (b : Body) (be : b.code.context.module_ ≡ modular) (sl' : Live.live s.source) → Backed m Live closed true closed_end s (body_step m im b s) (λ r'. body_step lm il b r')
  unfolding body_step
  body_step_backed s b be sl' = back_at w {s = s} right_brace_kind (refl, refl, refl, refl) refl sl' _ _ _ _ (λ j1. back_past w {s = s} j1 _ (λ r' q'. Ok (finished b, q')) (back_ok {s = (past m s)} _ _ (live_past w j1) (λ qs' h'. refl) ((λ i'. absurd (true≢false i')), (λ i'. absurd (true≢false i'))))) (body_item_backed s b be sl')

  body_step_hands : (b : Body) (s : State S) → b.code.context.module_ ≡ modular → Hands m Live (λ (z : Body). z.code.context.module_ ≡ modular) (body_step m im b s)
  unfolding body_step body_item
  body_step_hands b s e = hands_if (at m right_brace_kind s) _ _ (record { so = tt }) (hands_then (im.stmt (in_list b.code) s) _ (λ t. hands_if (b.starts && is_use_strict t.0) _ _ (record { so = e }) (record { so = e })))

  pub body_by_backed : {e : ℕ} (s : State S) (c : Code) (ce : c.context.module_ ≡ modular) (sl' : Live.live s.source) → Backed m Live closed true e s (body_by m im c s) (λ r'. body_by lm il c r')
  unfolding body_by
  body_by_backed s c ce sl' = back_eat w {s = s} left_brace_kind (refl, refl, refl, refl) refl sl' _ _ (λ j. back_then _ _ _ _ (back_iterate_in w (λ (z : Body). z.code.context.module_ ≡ modular) closed true (past m s) (λ r' x q'. body_step lm il x q') (body_step m im) (λ x t u p. step_all (body_step_backed t x p u.live)) (λ x t p. body_step_hands x t p) (record { items = []; code = c; starts = true }) ce (live_past w j))
      (λ b0 b1 u. back_turned w {s = b1} c.context ce _ _ u.live (λ qs h. ap (λ (z : ℕ). block_stmt (span z (m.last b1.source)) (pack b0.items)) (lo_was w (join (token w j) u) qs h))))

  pub declarator_by_backed : (s : State S) (c : Code) (ce : c.context.module_ ≡ modular) (sl' : Live.live s.source) → Backed m Live (λ z. loosely (nat_le closed_end (declarator_end z))) true closed_end s (declarator_by m im c s) (λ r'. declarator_by lm il c r')
  unfolding declarator_by
  declarator_by_backed s c ce sl' = back_then _ _ _ _ (echo.pat c ce s sl') (λ p1a p1s p1u. back_at w {s = p1s} assign_kind (refl, refl, refl, refl) refl p1u.live _ _ _ _ (λ j3. back_weak _ (back_past w {s = p1s} j3 _ (λ r' q'. (il.expr c assignment_level q' >>= λ e. Ok (var_declarator (spanned lm (lo (input lm (was m Live p1u r'))) e.1) p1a e.0, e.1))) (back_then_by _ _ _ _ (echo.expr c ce assignment_level (past m p1s) (live_past w j3)) (λ e4a e4s e4u q5. back_ok {s = e4s} _ _ e4u.live (λ qs' h'. ap (λ (z' : ℕ). var_declarator ((span z' (m.last e4s.source))) p1a e4a) (lo_was w (join (join p1u (token w j3)) e4u) qs' h')) (declare_open e4a (echo.solid _ _ _ _ _ q5).1))))) (back_ok {s = p1s} _ _ p1u.live (λ qs' h'. ap (λ (z' : ℕ). var_declarator ((span z' (m.last p1s.source))) p1a absent) (lo_was w p1u qs' h')) ((λ i'. absurd (true≢false i')), (λ i'. absurd (true≢false i')))))

  pub declarator_step_backed : (s : State S) (c : Code) (ce : c.context.module_ ≡ modular) (ds : List Tree) (sl' : Live.live s.source) → Backed m Live step_declared true closed_end s (declarator_step m im c ds s) (λ r'. declarator_step lm il c ds r')
  unfolding declarator_step
  declarator_step_backed s c ce ds sl' = back_then _ _ _ _ (declarator_by_backed s c ce sl') (λ d1a d1s d1u. back_at w {s = d1s} comma_kind (refl, refl, refl, refl) refl d1u.live _ _ _ _ (λ j3. back_weak _ (back_past w {s = d1s} j3 _ (λ r' q'. Ok (go_on (ds ++ d1a ∷ []), q')) (back_ok {s = (past m d1s)} _ _ (live_past w j3) (λ qs' h'. refl) ((λ i'. absurd (true≢false i')), (λ i'. absurd (true≢false i')))))) (back_ok {s = d1s} _ _ d1u.live (λ qs' h'. refl) (declared_open ds d1a)))

  pub declarators_by_backed : (s : State S) (c : Code) (ce : c.context.module_ ≡ modular) (sl' : Live.live s.source) → Backed m Live (λ z. loosely (nat_le closed_end (declarators_end (pack z)))) true closed_end s (declarators_by m im c s) (λ r'. declarators_by lm il c r')
  unfolding declarators_by
  declarators_by_backed s c ce sl' = back_iterate w (λ z. step_declared z) {s = s} true (λ r' x' q'. declarator_step lm il c x' q') _ (λ x' t' u'. step_all (declarator_step_backed t' c ce x' u'.live)) ([]) sl'

  pub variables_by_backed : {e' : ℕ} (s : State S) (c : Code) (ce : c.context.module_ ≡ modular) (j' : Here m Live s) → Backed m Live closed true e' s (variables_by m im c s) (λ r'. variables_by lm il c r')
  unfolding variables_by
  variables_by_backed s c ce j' = back_own w {s = s} c j' _ _ (back_then _ _ _ _ (declarators_by_backed (past m s) c ce (live_past w j')) (λ ds2a ds2s ds2u. back_end w {s = ds2s} c (declarators_end (pack ds2a)) ds2u.live (λ i'. inl (loose_shut _ i')) _ _ (λ e4 e4u. back_ok {s = e4} _ _ e4u.live (λ qs' h'. ap (λ (z' : ℕ). var_decl ((span z' (m.last e4.source))) ((kind (input lm (was m Live (join (join (token w j') ds2u) e4u) (list_at m Live e4 qs'))))) (pack ds2a)) (lo_was w (join (join (token w j') ds2u) e4u) qs' h') ∙ (ap (λ (z' : ℕ). var_decl ((spanned m (lo (input m s)) e4)) (z') (pack ds2a)) (kind_was w (join (join (token w j') ds2u) e4u) (took_join (join (token w j') ds2u) e4u (took_join (token w j') ds2u (took_token w j'))) qs' h'))) ((λ i'. absurd (true≢false i')), (λ i'. absurd (true≢false i'))))))

  pub using_by_backed : {e' : ℕ} (s : State S) (c : Code) (ce : c.context.module_ ≡ modular) (start : State S) (startu : Path m Live start s) (awaits : Bool) (sl' : Live.live s.source) → Backed m Live closed true e' s (using_by m im c (lo (input m start)) awaits s) (λ r'. using_by lm il c (lo (input lm (was m Live startu r'))) awaits r')
  unfolding using_by
  using_by_backed s c ce start startu awaits sl' = back_word w {s = s} c using_kind (refl, refl, refl, refl) refl sl' _ _ (λ j1. back_then _ _ _ _ (declarators_by_backed (past m s) c ce (live_past w j1)) (λ ds2a ds2s ds2u. back_end w {s = ds2s} c (declarators_end (pack ds2a)) ds2u.live (λ i'. inl (loose_shut _ i')) _ _ (λ e4 e4u. back_ok {s = e4} _ _ e4u.live (λ qs' h'. ap (λ (z' : ℕ). using_decl ((span z' (m.last e4.source))) awaits (pack ds2a)) (lo_was w (join (join (join startu (token w j1)) ds2u) e4u) qs' h')) ((λ i'. absurd (true≢false i')), (λ i'. absurd (true≢false i'))))))

  pub function_decl_by_backed : {e' : ℕ} (s : State S) (c : Code) (ce : c.context.module_ ≡ modular) (start : State S) (startu : Path m Live start s) (async : Bool) (sl' : Live.live s.source) → Backed m Live closed true e' s (function_decl_by m im c (lo (input m start)) async s) (λ r'. function_decl_by lm il c (lo (input lm (was m Live startu r'))) async r')
  unfolding function_decl_by
  function_decl_by_backed s c ce start startu async sl' = back_word w {s = s} c function_kind (refl, refl, refl, refl) refl sl' _ _ (λ j1. back_then _ _ _ _ (star_backed w echo (past m s) (live_past w j1)) (λ g2a g2s g2u. back_name w {s = g2s} c g2u.live _ _ (λ n5 j4. back_then _ _ _ _ (back_same _ (λ r'. function_by lm il c ((lo (input m start))) g2a async r') (λ r'. function_by lm il c (lo (input lm (was m Live (join (join (join startu (token w j1)) g2u) (token w j4)) r'))) g2a async r') (λ qs' h'. ap (λ (z' : ℕ). function_by lm il c (z') g2a async (list_at m Live (past m g2s) qs')) (lo_was w (join (join (join startu (token w j1)) g2u) (token w j4)) qs' h')) (function_by_backed w echo (past m g2s) c ce (lo (input m start)) g2a async (live_past w j4))) (λ f6a f6s f6u. back_ok {s = f6s} _ _ f6u.live (λ qs' h'. ap (λ (z' : ℕ). fn_decl ((span z' (m.last f6s.source))) (ident ((first lm il (was m Live (join (token w j4) f6u) (list_at m Live f6s qs')))) n5) f6a) (lo_was w (join (join (join (join startu (token w j1)) g2u) (token w j4)) f6u) qs' h') ∙ (ap (λ (z' : Span). fn_decl ((spanned m (lo (input m start)) f6s)) (ident (z') n5) f6a) (first_was w (join (token w j4) f6u) (took_join (token w j4) f6u (took_token w j4)) qs' h'))) ((λ i'. absurd (true≢false i')), (λ i'. absurd (true≢false i')))))))

  pub class_decl_by_backed : {e' : ℕ} (s : State S) (c : Code) (ce : c.context.module_ ≡ modular) (sl' : Live.live s.source) → Backed m Live closed true e' s (class_decl_by m im c s) (λ r'. class_decl_by lm il c r')
  unfolding class_decl_by
  class_decl_by_backed s c ce sl' = back_word w {s = s} c class_kind (refl, refl, refl, refl) refl sl' _ _ (λ j1. back_name w {s = (past m s)} (turned_strict c) (live_past w j1) _ _ (λ n3 j2. back_then _ _ _ _ (back_same _ (λ r'. il.class_tail (turned_strict (with_in c)) ((lo (input m s))) r') (λ r'. il.class_tail (turned_strict (with_in c)) (lo (input lm (was m Live (join (token w j1) (token w j2)) r'))) r') (λ qs' h'. ap (λ (z' : ℕ). il.class_tail (turned_strict (with_in c)) (z') (list_at m Live (past m (past m s)) qs')) (lo_was w (join (token w j1) (token w j2)) qs' h')) (echo.class_tail (turned_strict (with_in c)) ce ((lo (input m s))) (past m (past m s)) (live_past w j2))) (λ k4a k4s k4u. back_ok {s = k4s} _ _ k4u.live (λ qs' h'. ap (λ (z' : ℕ). class_decl ((span z' (m.last k4s.source))) (ident ((first lm il (was m Live (join (token w j2) k4u) (list_at m Live k4s qs')))) n3) k4a) (lo_was w (join (join (token w j1) (token w j2)) k4u) qs' h') ∙ (ap (λ (z' : Span). class_decl ((spanned m (lo (input m s)) k4s)) (ident (z') n3) k4a) (first_was w (join (token w j2) k4u) (took_join (token w j2) k4u (took_token w j2)) qs' h'))) ((λ i'. absurd (true≢false i')), (λ i'. absurd (true≢false i'))))))

  pub field_value_backed : (s : State S) (c : Code) (ce : c.context.module_ ≡ modular) (e : ℕ) (sl' : Live.live s.source) → Backed m Live closed false closed_end s (field_value m im c e s) (λ r'. field_value lm il c e r')
  unfolding field_value
  field_value_backed s c ce e sl' = back_at w {s = s} assign_kind (refl, refl, refl, refl) refl sl' _ _ _ _ (λ j1. back_weak _ (back_past w {s = s} j1 _ (λ r' q'. (il.expr (in_field c) assignment_level q' >>= λ v. (end_of lm c (ends v.0) v.1 >>= λ r. Ok (v.0, r)))) (back_then _ _ _ _ (echo.expr (in_field c) ce assignment_level (past m s) (live_past w j1)) (λ v2a v2s v2u. back_end w {s = v2s} c (ends v2a) v2u.live (λ i'. inl (edge_shut v2a i')) _ _ (λ r4 r4u. back_ok {s = r4} _ _ r4u.live (λ qs' h'. refl) ((λ i'. absurd (true≢false i')), (λ i'. absurd (true≢false i')))))))) (back_end w {s = s} c e sl' (λ i'. absurd (true≢false i')) _ _ (λ r5 r5u. back_ok {s = r5} _ _ r5u.live (λ qs' h'. refl) ((λ i'. absurd (true≢false i')), (λ i'. absurd (true≢false i')))))

  pub class_key_backed : {e' : ℕ} (s : State S) (c : Code) (ce : c.context.module_ ≡ modular) (sl' : Live.live s.source) → Backed m Live closed true e' s (class_key m im c s) (λ r'. class_key lm il c r')
  unfolding class_key
  class_key_backed s c ce sl' = back_at w {s = s} hash_kind (refl, refl, refl, refl) refl sl' _ _ _ _ (λ j1. private_by_backed w echo s sl') (key_by_backed w echo s c ce sl')

  pub class_method_by_backed : {e' : ℕ} (s : State S) (c : Code) (ce : c.context.module_ ≡ modular) (start : State S) (startu : Path m Live start s) (is_static : Bool) (generator : Bool) (async : Bool) (k : Tree) (sl' : Live.live s.source) → Backed m Live closed true e' s (class_method_by m im c (lo (input m start)) is_static generator async k s) (λ r'. class_method_by lm il c (lo (input lm (was m Live startu r'))) is_static generator async k r')
  unfolding class_method_by
  class_method_by_backed s c ce start startu is_static generator async k sl' = back_then _ _ _ _ (back_same _ (λ r'. function_by lm il c ((lo (input m start))) generator async r') (λ r'. function_by lm il c (lo (input lm (was m Live startu r'))) generator async r') (λ qs' h'. ap (λ (z' : ℕ). function_by lm il c (z') generator async (list_at m Live s qs')) (lo_was w startu qs' h')) (function_by_backed w echo s c ce (lo (input m start)) generator async sl')) (λ f1a f1s f1u. back_test (constructs k && (not is_static && (not generator && not async))) (λ r'. constructs k && (not is_static && (not generator && not async))) _ _ _ _ (λ qs' h'. refl) (λ y3. back_ok {s = f1s} _ _ f1u.live (λ qs' h'. ap (λ (z' : ℕ). constructor_of m im ((span z' (m.last f1s.source))) k f1a) (lo_was w (join startu f1u) qs' h')) ((λ i'. absurd (true≢false i')), (λ i'. absurd (true≢false i')))) (λ _. back_ok {s = f1s} _ _ f1u.live (λ qs' h'. ap (λ (z' : ℕ). method_tree m im ((span z' (m.last f1s.source))) k f1a plain_method is_static) (lo_was w (join startu f1u) qs' h')) ((λ i'. absurd (true≢false i')), (λ i'. absurd (true≢false i')))))

  pub class_getter_backed : {e' : ℕ} (s : State S) (c : Code) (ce : c.context.module_ ≡ modular) (start : State S) (startu : Path m Live start s) (is_static : Bool) (j' : Here m Live s) → Backed m Live closed true e' s (class_getter m im c (lo (input m start)) is_static s) (λ r'. class_getter lm il c (lo (input lm (was m Live startu r'))) is_static r')
  unfolding class_getter
  class_getter_backed s c ce start startu is_static j' = back_past w {s = s} j' _ (λ r' q'. (class_key lm il c q' >>= λ k. (eat lm left_paren_kind k.1 >>= λ o. (eat lm right_paren_kind o >>= λ p. (il.body (in_body false false c) p >>= λ b. Ok (method_tree lm il (spanned lm (lo (input lm (was m Live startu r'))) b.1) k.0 (function (spanned lm (lo (input lm (was m Live startu r'))) b.1) none none b.0 false false) get_kind is_static, b.1)))))) (back_then _ _ _ _ (class_key_backed (past m s) c ce (live_past w j')) (λ k1a k1s k1u. back_eat w {s = k1s} left_paren_kind (refl, refl, refl, refl) refl k1u.live _ _ (λ j3. back_eat w {s = (past m k1s)} right_paren_kind (refl, refl, refl, refl) refl (live_past w j3) _ _ (λ j4. back_then _ _ _ _ (echo.body (in_body false false c) ce (past m (past m k1s)) (live_past w j4)) (λ b5a b5s b5u. back_ok {s = b5s} _ _ b5u.live (λ qs' h'. ap (λ (z' : ℕ). method_tree m im ((span z' (m.last b5s.source))) k1a (function ((span z' (m.last b5s.source))) none none b5a false false) get_kind is_static) (lo_was w (join (join (join (join (join startu (token w j')) k1u) (token w j3)) (token w j4)) b5u) qs' h')) ((λ i'. absurd (true≢false i')), (λ i'. absurd (true≢false i'))))))))

  pub class_setter_backed : {e' : ℕ} (s : State S) (c : Code) (ce : c.context.module_ ≡ modular) (start : State S) (startu : Path m Live start s) (is_static : Bool) (j' : Here m Live s) → Backed m Live closed true e' s (class_setter m im c (lo (input m start)) is_static s) (λ r'. class_setter lm il c (lo (input lm (was m Live startu r'))) is_static r')
  unfolding class_setter
  class_setter_backed s c ce start startu is_static j' = back_past w {s = s} j' _ (λ r' q'. (class_key lm il c q' >>= λ k. (setter_parameter lm il (in_body false false c) k.1 >>= λ p. (il.body (in_body false false c) p.1 >>= λ b. Ok (method_tree lm il (spanned lm (lo (input lm (was m Live startu r'))) b.1) k.0 (function (spanned lm (lo (input lm (was m Live startu r'))) b.1) (more p.0 none) none b.0 false false) set_kind is_static, b.1))))) (back_then _ _ _ _ (class_key_backed (past m s) c ce (live_past w j')) (λ k1a k1s k1u. back_then _ _ _ _ (setter_parameter_backed w echo k1s (in_body false false c) ce k1u.live) (λ p3a p3s p3u. back_then _ _ _ _ (echo.body (in_body false false c) ce p3s p3u.live) (λ b5a b5s b5u. back_ok {s = b5s} _ _ b5u.live (λ qs' h'. ap (λ (z' : ℕ). method_tree m im ((span z' (m.last b5s.source))) k1a (function ((span z' (m.last b5s.source))) (more p3a none) none b5a false false) set_kind is_static) (lo_was w (join (join (join (join startu (token w j')) k1u) p3u) b5u) qs' h')) ((λ i'. absurd (true≢false i')), (λ i'. absurd (true≢false i')))))))

  pub accessor_by_backed : {e' : ℕ} (s : State S) (c : Code) (ce : c.context.module_ ≡ modular) (start : State S) (startu : Path m Live start s) (is_static : Bool) (j' : Here m Live s) → Backed m Live closed true e' s (accessor_by m im c (lo (input m start)) is_static s) (λ r'. accessor_by lm il c (lo (input lm (was m Live startu r'))) is_static r')
  unfolding accessor_by
  accessor_by_backed s c ce start startu is_static j' = back_past w {s = s} j' _ (λ r' q'. (class_key lm il c q' >>= λ k. (field_value lm il c key_end k.1 >>= λ v. Ok (auto_accessor (spanned lm (lo (input lm (was m Live startu r'))) v.1) k.0 v.0 is_static none, v.1)))) (back_then _ _ _ _ (class_key_backed (past m s) c ce (live_past w j')) (λ k1a k1s k1u. back_then _ _ _ _ (field_value_backed k1s c ce key_end k1u.live) (λ v3a v3s v3u. back_ok {s = v3s} _ _ v3u.live (λ qs' h'. ap (λ (z' : ℕ). auto_accessor ((span z' (m.last v3s.source))) k1a v3a is_static none) (lo_was w (join (join (join startu (token w j')) k1u) v3u) qs' h')) ((λ i'. absurd (true≢false i')), (λ i'. absurd (true≢false i'))))))

  pub field_or_method_backed : {e' : ℕ} (s : State S) (c : Code) (ce : c.context.module_ ≡ modular) (start : State S) (startu : Path m Live start s) (is_static : Bool) (sl' : Live.live s.source) → Backed m Live closed true e' s (field_or_method m im c (lo (input m start)) is_static s) (λ r'. field_or_method lm il c (lo (input lm (was m Live startu r'))) is_static r')
  unfolding field_or_method
  field_or_method_backed s c ce start startu is_static sl' = back_then _ _ _ _ (class_key_backed s c ce sl') (λ k1a k1s k1u. back_at w {s = k1s} left_paren_kind (refl, refl, refl, refl) refl k1u.live _ _ _ _ (λ j3. back_weak _ (class_method_by_backed k1s c ce start (join startu k1u) is_static false false k1a k1u.live)) (back_then _ _ _ _ (back_same _ (λ r'. field_value lm il c ((field_end is_static (kind (input m s)))) r') (λ r'. field_value lm il c (field_end is_static (kind (input lm (was m Live k1u r')))) r') (λ qs' h'. ap (λ (z' : ℕ). field_value lm il c (z') (list_at m Live k1s qs')) (agrees_was w (λ z'. field_end is_static (kind (input lm (on [] 0 z')))) ((λ p' q' l' v'. refl), (λ p' q' l' v'. refl), (λ p' l' v'. refl)) k1u qs' h')) (field_value_backed k1s c ce (field_end is_static (kind (input m s))) k1u.live)) (λ v4a v4s v4u. back_test (is_private k1a) (λ r'. is_private k1a) _ _ _ _ (λ qs' h'. refl) (λ y6. back_ok {s = v4s} _ _ v4u.live (λ qs' h'. ap (λ (z' : ℕ). private_prop ((span z' (m.last v4s.source))) k1a v4a is_static none) (lo_was w (join (join startu k1u) v4u) qs' h')) ((λ i'. absurd (true≢false i')), (λ i'. absurd (true≢false i')))) (λ _. back_ok {s = v4s} _ _ v4u.live (λ qs' h'. ap (λ (z' : ℕ). class_prop ((span z' (m.last v4s.source))) k1a v4a is_static none) (lo_was w (join (join startu k1u) v4u) qs' h')) ((λ i'. absurd (true≢false i')), (λ i'. absurd (true≢false i')))))))

  pub generator_member_backed : (s : State S) (c : Code) (ce : c.context.module_ ≡ modular) (start : State S) (startu : Path m Live start s) (is_static : Bool) (async : Bool) (sl' : Live.live s.source) → Backed m Live closed true closed_end s (generator_member m im c (lo (input m start)) is_static async s) (λ r'. generator_member lm il c (lo (input lm (was m Live startu r'))) is_static async r')
  unfolding generator_member
  generator_member_backed s c ce start startu is_static async sl' = back_then _ _ _ _ (star_backed w echo s sl') (λ g1a g1s g1u. back_then _ _ _ _ (class_key_backed g1s c ce g1u.live) (λ k3a k3s k3u. class_method_by_backed k3s c ce start (join (join startu g1u) k3u) is_static g1a async k3a k3u.live))

  pub member_rest_backed : (s : State S) (c : Code) (ce : c.context.module_ ≡ modular) (start : State S) (startu : Path m Live start s) (is_static : Bool) (sl' : Live.live s.source) → Backed m Live closed true closed_end s (member_rest m im c (lo (input m start)) is_static s) (λ r'. member_rest lm il c (lo (input lm (was m Live startu r'))) is_static r')
  unfolding member_rest
  member_rest_backed s c ce start startu is_static sl' = back_at w {s = s} mul_kind (refl, refl, refl, refl) refl sl' _ _ _ _ (λ j1. generator_member_backed s c ce start startu is_static false sl') (back_two w {s = s} (λ z'. is_async_head lm il (on [] 0 z')) ((λ p' q' l' v'. refl), (λ p' q' l' v'. refl), (λ n' p' q' l' v'. refl), (λ n' p' q' l' v'. refl), (λ n' p' l' v'. refl)) sl' _ _ _ _ (λ y2. back_past w {s = s} (here_by w (λ z'. is_async_head lm il (on [] 0 z')) (refl, λ p' v'. refl) s sl' y2) _ (λ r' q'. generator_member lm il c (lo (input lm (was m Live startu r'))) is_static true q') (generator_member_backed (past m s) c ce start (join startu (token w (here_by w (λ z'. is_async_head lm il (on [] 0 z')) (refl, λ p' v'. refl) s sl' y2))) is_static true (live_past w (here_by w (λ z'. is_async_head lm il (on [] 0 z')) (refl, λ p' v'. refl) s sl' y2)))) (back_two w {s = s} (λ z'. at lm get_kind (on [] 0 z') && starts_key (kind2 (input lm (on [] 0 z')))) ((λ p' q' l' v'. refl), (λ p' q' l' v'. refl), (λ n' p' q' l' v'. refl), (λ n' p' q' l' v'. refl), (λ n' p' l' v'. refl)) sl' _ _ _ _ (λ y3. class_getter_backed s c ce start startu is_static (here_at w get_kind (refl, refl, refl, refl) refl s sl' (and_first _ _ y3))) (back_two w {s = s} (λ z'. at lm set_kind (on [] 0 z') && starts_key (kind2 (input lm (on [] 0 z')))) ((λ p' q' l' v'. refl), (λ p' q' l' v'. refl), (λ n' p' q' l' v'. refl), (λ n' p' q' l' v'. refl), (λ n' p' l' v'. refl)) sl' _ _ _ _ (λ y4. class_setter_backed s c ce start startu is_static (here_at w set_kind (refl, refl, refl, refl) refl s sl' (and_first _ _ y4))) (back_two w {s = s} (λ z'. c.syntax.auto_accessors && (at lm accessor_kind (on [] 0 z') && (starts_key (kind2 (input lm (on [] 0 z'))) && not (brk2 (input lm (on [] 0 z')))))) ((λ p' q' l' v'. refl), (λ p' q' l' v'. refl), (λ n' p' q' l' v'. refl), (λ n' p' q' l' v'. refl), (λ n' p' l' v'. refl)) sl' _ _ _ _ (λ y5. accessor_by_backed s c ce start startu is_static (here_at w accessor_kind (refl, refl, refl, refl) refl s sl' (and_first _ _ (and_second (c.syntax.auto_accessors) ((at m accessor_kind s && (starts_key (kind2 (input m s)) && not (brk2 (input m s))))) y5)))) (field_or_method_backed s c ce start startu is_static sl')))))

  pub static_by_backed : {e' : ℕ} (s : State S) (c : Code) (ce : c.context.module_ ≡ modular) (sl' : Live.live s.source) → Backed m Live closed true e' s (static_by m im c s) (λ r'. static_by lm il c r')
  unfolding static_by
  static_by_backed s c ce sl' = back_word w {s = s} c static_kind (refl, refl, refl, refl) refl sl' _ _ (λ j1. back_at w {s = (past m s)} left_brace_kind (refl, refl, refl, refl) refl (live_past w j1) _ _ _ _ (λ j2. back_past w {s = (past m s)} j2 _ (λ r' q'. (block_rest lm il (in_static c) (lo (input lm r')) q' >>= λ b. Ok (static_block (spanned lm (lo (input lm (was m Live (token w j1) r'))) b.1) b.0, b.1))) (back_then _ _ _ _ (block_rest_backed (past m (past m s)) (in_static c) ce (past m s) (token w j2) (live_past w j2)) (λ b3a b3s b3u. back_ok {s = b3s} _ _ b3u.live (λ qs' h'. ap (λ (z' : ℕ). static_block ((span z' (m.last b3s.source))) b3a) (lo_was w (join (join (token w j1) (token w j2)) b3u) qs' h')) ((λ i'. absurd (true≢false i')), (λ i'. absurd (true≢false i')))))) (member_rest_backed (past m s) c ce s (token w j1) true (live_past w j1)))

  pub member_step_backed : (s : State S) (c : Code) (ce : c.context.module_ ≡ modular) (ms : List Tree) (sl' : Live.live s.source) → Backed m Live closed true closed_end s (member_step m im c ms s) (λ r'. member_step lm il c ms r')
  unfolding member_step
  member_step_backed s c ce ms sl' = back_at w {s = s} right_brace_kind (refl, refl, refl, refl) refl sl' _ _ _ _ (λ j1. back_past w {s = s} j1 _ (λ r' q'. Ok (finished ms, q')) (back_ok {s = (past m s)} _ _ (live_past w j1) (λ qs' h'. refl) ((λ i'. absurd (true≢false i')), (λ i'. absurd (true≢false i'))))) (back_at w {s = s} semicolon_kind (refl, refl, refl, refl) refl sl' _ _ _ _ (λ j2. back_past w {s = s} j2 _ (λ r' q'. Ok (go_on (ms ++ empty_stmt (first lm il r') ∷ []), q')) (back_ok {s = (past m s)} _ _ (live_past w j2) (λ qs' h'. ap (λ (z' : Span). go_on (ms ++ empty_stmt (z') ∷ [])) (first_was w (token w j2) (took_token w j2) qs' h')) ((λ i'. absurd (true≢false i')), (λ i'. absurd (true≢false i'))))) (back_two w {s = s} (λ z'. starts_static lm il (on [] 0 z')) ((λ p' q' l' v'. refl), (λ p' q' l' v'. refl), (λ n' p' q' l' v'. refl), (λ n' p' q' l' v'. refl), (λ n' p' l' v'. refl)) sl' _ _ _ _ (λ y3. back_then _ _ _ _ (static_by_backed s c ce sl') (λ x4a x4s x4u. back_ok {s = x4s} _ _ x4u.live (λ qs' h'. refl) ((λ i'. absurd (true≢false i')), (λ i'. absurd (true≢false i'))))) (back_then _ _ _ _ (back_same _ (λ r'. member_rest lm il c (lo (input lm ((was m Live (stay {s = s} sl') r')))) false r') (λ r'. member_rest lm il c (lo (input lm r')) false r') (λ qs' h'. refl) (member_rest_backed s c ce s (stay {s = s} sl') false sl')) (λ x6a x6s x6u. back_ok {s = x6s} _ _ x6u.live (λ qs' h'. refl) ((λ i'. absurd (true≢false i')), (λ i'. absurd (true≢false i')))))))

  pub members_by_backed : {e' : ℕ} (s : State S) (c : Code) (ce : c.context.module_ ≡ modular) (whole : ℕ) (super_class : Tree) (sl' : Live.live s.source) → Backed m Live closed true e' s (members_by m im c whole super_class s) (λ r'. members_by lm il c whole super_class r')
  unfolding members_by
  members_by_backed s c ce whole super_class sl' = back_eat w {s = s} left_brace_kind (refl, refl, refl, refl) refl sl' _ _ (λ j1. back_then _ _ _ _ (back_iterate w closed {s = (past m s)} true (λ r' x' q'. member_step lm il c x' q') _ (λ x' t' u'. step_all (member_step_backed t' c ce x' u'.live)) ([]) (live_past w j1)) (λ ms2a ms2s ms2u. back_ok {s = ms2s} _ _ ms2u.live (λ qs' h'. refl) ((λ i'. absurd (true≢false i')), (λ i'. absurd (true≢false i')))))

  pub class_tail_by_backed : {e' : ℕ} (s : State S) (c : Code) (ce : c.context.module_ ≡ modular) (whole : ℕ) (sl' : Live.live s.source) → Backed m Live closed true e' s (class_tail_by m im c whole s) (λ r'. class_tail_by lm il c whole r')
  unfolding class_tail_by
  class_tail_by_backed s c ce whole sl' = back_at w {s = s} extends_kind (refl, refl, refl, refl) refl sl' _ _ _ _ (λ j1. back_word w {s = s} c extends_kind (refl, refl, refl, refl) refl sl' _ _ (λ j2. back_then _ _ _ _ (echo.expr c ce new_level (past m s) (live_past w j2)) (λ e3a e3s e3u. members_by_backed e3s c ce whole e3a e3u.live))) (members_by_backed s c ce whole absent sl')

  pub in_parens_backed : {e' : ℕ} (s : State S) (c : Code) (ce : c.context.module_ ≡ modular) (sl' : Live.live s.source) → Backed m Live closed true e' s (in_parens m im c s) (λ r'. in_parens lm il c r')
  unfolding in_parens
  in_parens_backed s c ce sl' = back_eat w {s = s} left_paren_kind (refl, refl, refl, refl) refl sl' _ _ (λ j1. back_then _ _ _ _ (echo.expr c ce expression_level (past m s) (live_past w j1)) (λ e2a e2s e2u. back_eat w {s = e2s} right_paren_kind (refl, refl, refl, refl) refl e2u.live _ _ (λ j4. back_ok {s = (past m e2s)} _ _ (live_past w j4) (λ qs' h'. refl) ((λ i'. absurd (true≢false i')), (λ i'. absurd (true≢false i'))))))

  pub sub_by_backed : (s : State S) (c : Code) (ce : c.context.module_ ≡ modular) (functions : Bool) (sl' : Live.live s.source) → Backed m Live closed true closed_end s (sub_by m im c functions s) (λ r'. sub_by lm il c functions r')
  unfolding sub_by
  sub_by_backed s c ce functions sl' = back_then _ _ _ _ (echo.stmt (alone c) ce s sl') (λ t1a t1s t1u. back_test (is_statement t1a || (functions && (not (is_strict c) && is_plain_function t1a))) (λ r'. is_statement t1a || (functions && (not (is_strict c) && is_plain_function t1a))) _ _ _ _ (λ qs' h'. refl) (λ y3. back_ok {s = t1s} _ _ t1u.live (λ qs' h'. refl) ((λ i'. absurd (true≢false i')), (λ i'. absurd (true≢false i')))) (λ _. back_never))

  pub with_by_backed : {e' : ℕ} (s : State S) (c : Code) (ce : c.context.module_ ≡ modular) (sl' : Live.live s.source) → Backed m Live closed true e' s (with_by m im c s) (λ r'. with_by lm il c r')
  unfolding with_by
  with_by_backed s c ce sl' = back_word w {s = s} c with_kind (refl, refl, refl, refl) refl sl' _ _ (λ j1. back_then _ _ _ _ (in_parens_backed (past m s) c ce (live_past w j1)) (λ e2a e2s e2u. back_then _ _ _ _ (sub_by_backed e2s c ce false e2u.live) (λ b4a b4s b4u. back_ok {s = b4s} _ _ b4u.live (λ qs' h'. ap (λ (z' : ℕ). with_stmt ((span z' (m.last b4s.source))) e2a b4a) (lo_was w (join (join (token w j1) e2u) b4u) qs' h')) ((λ i'. absurd (true≢false i')), (λ i'. absurd (true≢false i'))))))

  pub while_by_backed : {e' : ℕ} (s : State S) (c : Code) (ce : c.context.module_ ≡ modular) (sl' : Live.live s.source) → Backed m Live closed true e' s (while_by m im c s) (λ r'. while_by lm il c r')
  unfolding while_by
  while_by_backed s c ce sl' = back_word w {s = s} c while_kind (refl, refl, refl, refl) refl sl' _ _ (λ j1. back_then _ _ _ _ (in_parens_backed (past m s) c ce (live_past w j1)) (λ e2a e2s e2u. back_then _ _ _ _ (sub_by_backed e2s c ce false e2u.live) (λ b4a b4s b4u. back_ok {s = b4s} _ _ b4u.live (λ qs' h'. ap (λ (z' : ℕ). while_stmt ((span z' (m.last b4s.source))) e2a b4a) (lo_was w (join (join (token w j1) e2u) b4u) qs' h')) ((λ i'. absurd (true≢false i')), (λ i'. absurd (true≢false i'))))))

  pub do_by_backed : {e' : ℕ} (s : State S) (c : Code) (ce : c.context.module_ ≡ modular) (sl' : Live.live s.source) → Backed m Live closed true e' s (do_by m im c s) (λ r'. do_by lm il c r')
  unfolding do_by
  do_by_backed s c ce sl' = back_word w {s = s} c do_kind (refl, refl, refl, refl) refl sl' _ _ (λ j1. back_then _ _ _ _ (sub_by_backed (past m s) c ce false (live_past w j1)) (λ b2a b2s b2u. back_word w {s = b2s} c while_kind (refl, refl, refl, refl) refl b2u.live _ _ (λ j4. back_then _ _ _ _ (in_parens_backed (past m b2s) c ce (live_past w j4)) (λ e5a e5s e5u. back_at w {s = e5s} semicolon_kind (refl, refl, refl, refl) refl e5u.live _ _ _ _ (λ j7. back_weak _ (back_past w {s = e5s} j7 _ (λ r' q'. Ok (do_while_stmt (spanned lm (lo (input lm (was m Live (join (join (join (token w j1) b2u) (token w j4)) e5u) r'))) q') e5a b2a, q')) (back_ok {s = (past m e5s)} _ _ (live_past w j7) (λ qs' h'. ap (λ (z' : ℕ). do_while_stmt ((span z' (m.last (past m e5s).source))) e5a b2a) (lo_was w (join (join (join (join (token w j1) b2u) (token w j4)) e5u) (token w j7)) qs' h')) ((λ i'. absurd (true≢false i')), (λ i'. absurd (true≢false i')))))) (back_ok {s = e5s} _ _ e5u.live (λ qs' h'. ap (λ (z' : ℕ). do_while_stmt ((span z' (m.last e5s.source))) e5a b2a) (lo_was w (join (join (join (token w j1) b2u) (token w j4)) e5u) qs' h')) ((λ i'. absurd (true≢false i')), (λ i'. absurd (true≢false i'))))))))

  -- a slash is no `if`
  no_if : (k : ℕ) → is_slash k ≡ true → eqb k if_kind ≡ false
  no_if k e = by_test (eqb k if_kind) (λ i. eqb-true k if_kind i)
    where
      by_test : (b : Bool) → (b ≡ true → k ≡ if_kind) → b ≡ false
      by_test false f = refl
      by_test true f = absurd (true≢false (sym e ∙ ap (λ (n : ℕ). is_slash n) (f refl)))

  operand_if : (s : State S) → Live.live s.source → is_slash (kind (input m s)) ≡ true → at m if_kind (operand m s) ≡ false
  operand_if s l e = by_seen (m.seen s.source) refl e (m.seen (m.operand s.source)) refl
    where
      by_seen : (v : List PlacedToken) → m.seen s.source ≡ v → is_slash (kind_of v) ≡ true → (u : List PlacedToken) → m.seen (m.operand s.source) ≡ u → eqb (kind_of (m.seen (m.operand s.source))) if_kind ≡ false
      by_seen v i o [] a = ap (λ z. eqb (kind_of z) if_kind) a
      by_seen [] i o (p ∷ u) a = absurd (true≢false (sym o))
      by_seen (q ∷ v) i o (p ∷ u) a = ap (λ z. eqb (kind_of z) if_kind) a ∙ by_reread (w.reread s.source q p v u l i o a)
        where
          by_reread : (p.spot.token.kind ≡ error_kind) ⊎ (Rereads q p ⊎ (m.operand s.source ≡ s.source)) → eqb p.spot.token.kind if_kind ≡ false
          by_reread (inl z) = ap (λ (k : ℕ). eqb k if_kind) z
          by_reread (inr (inl z)) = ap (λ (k : ℕ). eqb k if_kind) z.1
          by_reread (inr (inr z)) = ap (λ (y : List PlacedToken). eqb (kind_of y) if_kind) (sym a ∙ (ap (λ (y : S). m.seen y) z ∙ i)) ∙ no_if q.spot.token.kind o

  slash_if : (s : State S) → is_slash (kind (input m s)) ≡ true → at m if_kind s ≡ false
  slash_if s e = no_if (kind (input m s)) e

  pub else_by_backed : (s : State S) (x : Chain) (xe : x.code.context.module_ ≡ modular) (sl' : Live.live s.source) → Backed m Live closed false closed_end s (else_by m im x s) (λ r'. else_by lm il x r')
  unfolding else_by
  else_by_backed s x xe sl' = by_slash (is_slash (kind (input m s))) refl
    where
      again : Chain
      again = record { branches = x.branches; code = alone x.code; last = absent }

      other : Backed m Live {A = Step Chain} closed false closed_end s (sub_by m im x.code true s >>= λ b. Ok (finished (record { branches = x.branches; code = x.code; last = b.0 }), b.1)) (λ r'. sub_by lm il x.code true r' >>= λ b. Ok (finished (record { branches = x.branches; code = x.code; last = b.0 }), b.1))
      other = back_weak _ (back_then _ _ _ _ (sub_by_backed s x.code xe true sl') (λ b0 b1 u. back_ok {s = b1} _ _ u.live (λ qs h. refl) ((λ i'. absurd (true≢false i')), (λ i'. absurd (true≢false i')))))

      by_slash : (b : Bool) → is_slash (kind (input m s)) ≡ b → Backed m Live {A = Step Chain} closed false closed_end s (cond (at m if_kind (operand m s)) (Ok (go_on again, operand m s)) (sub_by m im x.code true s >>= λ b. Ok (finished (record { branches = x.branches; code = x.code; last = b.0 }), b.1)))
          (λ r'. cond (at lm if_kind r') (Ok (go_on again, r')) (sub_by lm il x.code true r' >>= λ b. Ok (finished (record { branches = x.branches; code = x.code; last = b.0 }), b.1)))
      by_slash true e = back_test (at m if_kind (operand m s)) (λ r'. at lm if_kind r') _ _ _ _ (λ qs h. at_was w if_kind (refl, refl, refl, refl) (stay {s = s} sl') qs h ∙ (slash_if s e ∙ sym (operand_if s sl' e))) (λ y. absurd (true≢false (sym y ∙ operand_if s sl' e))) (λ _. other)
      by_slash false e = subst (λ (z : S). Backed m Live {A = Step Chain} closed false closed_end s (cond (at m if_kind (record { source = z; commas = s.commas })) (Ok (go_on again, record { source = z; commas = s.commas })) (sub_by m im x.code true s >>= λ b. Ok (finished (record { branches = x.branches; code = x.code; last = b.0 }), b.1)))
          (λ r'. cond (at lm if_kind r') (Ok (go_on again, r')) (sub_by lm il x.code true r' >>= λ b. Ok (finished (record { branches = x.branches; code = x.code; last = b.0 }), b.1)))) (sym (w.order.plain s.source sl' e))
          (back_at w {s = s} if_kind (refl, refl, refl, refl) refl sl' _ _ _ _ (λ j. back_ok {s = s} _ _ sl' (λ qs h. refl) ((λ i'. absurd (true≢false i')), (λ i'. absurd (true≢false i')))) other)

  pub if_step_backed : {e' : ℕ} (s : State S) (x : Chain) (xe : x.code.context.module_ ≡ modular) (sl' : Live.live s.source) → Backed m Live closed true e' s (if_step m im x s) (λ r'. if_step lm il x r')
  unfolding if_step
  if_step_backed s x xe sl' = back_word w {s = s} (x.code) if_kind (refl, refl, refl, refl) refl sl' _ _ (λ j1. back_then _ _ _ _ (in_parens_backed (past m s) (x.code) xe (live_past w j1)) (λ e2a e2s e2u. back_then _ _ _ _ (sub_by_backed e2s (x.code) xe true e2u.live) (λ a4a a4s a4u. back_at w {s = a4s} else_kind (refl, refl, refl, refl) refl a4u.live _ _ _ _ (λ j6. back_weak _ (back_word w {s = a4s} (x.code) else_kind (refl, refl, refl, refl) refl a4u.live _ _ (λ j7. back_same _ (λ r'. else_by lm il ((branched m im (lo (input m s)) x e2a a4a)) r') (λ r'. else_by lm il (branched lm il (lo (input lm (was m Live (join (join (join (token w j1) e2u) a4u) (token w j7)) r'))) x e2a a4a) r') (λ qs' h'. ap (λ (z' : Chain). else_by lm il (z') (list_at m Live (past m a4s) qs')) (ap (λ (y' : ℕ). record { branches = x.branches ++ record { start = y'; test = e2a; consequent = a4a } ∷ []; code = x.code; last = absent }) (lo_was w (join (join (join (token w j1) e2u) a4u) (token w j7)) qs' h'))) (else_by_backed (past m a4s) (branched m im (lo (input m s)) x e2a a4a) xe (live_past w j7))))) (back_ok {s = a4s} _ _ a4u.live (λ qs' h'. ap (λ (z' : Chain). finished (z')) (ap (λ (y' : ℕ). record { branches = x.branches ++ record { start = y'; test = e2a; consequent = a4a } ∷ []; code = x.code; last = absent }) (lo_was w (join (join (token w j1) e2u) a4u) qs' h'))) ((λ i'. absurd (true≢false i')), (λ i'. absurd (true≢false i')))))))

  else_by_hands : (x : Chain) (s : State S) → x.code.context.module_ ≡ modular → Hands m Live (λ (z : Chain). z.code.context.module_ ≡ modular) (else_by m im x s)
  unfolding else_by
  else_by_hands x s e = hands_if (at m if_kind (operand m s)) _ _ (record { so = e }) (hands_then (sub_by m im x.code true s) _ (λ b. record { so = tt }))

  if_step_hands : (x : Chain) (s : State S) → x.code.context.module_ ≡ modular → Hands m Live (λ (z : Chain). z.code.context.module_ ≡ modular) (if_step m im x s)
  unfolding if_step eat_word
  if_step_hands x s e = hands_word _ (at m if_kind s && not (barred x.code.context (input m s))) (past m s) _ (hands_then (in_parens m im x.code (past m s)) _ (λ i. hands_then (sub_by m im x.code true i.1) _ (λ a. hands_if (at m else_kind a.1) _ _
      (hands_word _ (at m else_kind a.1 && not (barred x.code.context (input m a.1))) (past m a.1) _ (else_by_hands (branched m im (lo (input m s)) x i.0 a.0) (past m a.1) e)) (record { so = tt }))))

  pub if_by_backed : (s : State S) (c : Code) (ce : c.context.module_ ≡ modular) (sl' : Live.live s.source) → Backed m Live closed true closed_end s (if_by m im c s) (λ r'. if_by lm il c r')
  unfolding if_by
  if_by_backed s c ce sl' = back_then _ _ _ _ (back_iterate_in w (λ (z : Chain). z.code.context.module_ ≡ modular) closed true s (λ r' x q'. if_step lm il x q') (if_step m im) (λ x t u p. step_all (if_step_backed t x p u.live)) (λ x t p. if_step_hands x t p) (record { branches = []; code = c; last = absent }) ce sl')
      (λ x0 x1 u. back_ok {s = x1} _ _ u.live (λ qs h. refl) ((λ i'. absurd (true≢false i')), (λ i'. absurd (true≢false i'))))

  pub return_by_backed : {e' : ℕ} (s : State S) (c : Code) (ce : c.context.module_ ≡ modular) (sl' : Live.live s.source) → Backed m Live closed true e' s (return_by m im c s) (λ r'. return_by lm il c r')
  unfolding return_by
  return_by_backed s c ce sl' = back_word w {s = s} c return_kind (refl, refl, refl, refl) refl sl' _ _ (λ j1. back_if w {s = (past m s)} (λ z'. ends_here lm il c (on [] 0 z')) ((λ p' q' l' v'. refl), (λ p' q' l' v'. refl), (λ p' l' v'. refl)) (live_past w j1) _ _ _ _ (λ y2. back_end w {s = (past m s)} c plain_end (live_past w j1) (λ i'. absurd (true≢false i')) _ _ (λ e3 e3u. back_ok {s = e3} _ _ e3u.live (λ qs' h'. ap (λ (z' : ℕ). return_stmt ((span z' (m.last e3.source))) absent) (lo_was w (join (token w j1) e3u) qs' h')) ((λ i'. absurd (true≢false i')), (λ i'. absurd (true≢false i'))))) (back_weak _ (back_then _ _ _ _ (echo.expr c ce expression_level (past m s) (live_past w j1)) (λ x4a x4s x4u. back_end w {s = x4s} c (ends x4a) x4u.live (λ i'. inl (edge_shut x4a i')) _ _ (λ e6 e6u. back_ok {s = e6} _ _ e6u.live (λ qs' h'. ap (λ (z' : ℕ). return_stmt ((span z' (m.last e6.source))) x4a) (lo_was w (join (join (token w j1) x4u) e6u) qs' h')) ((λ i'. absurd (true≢false i')), (λ i'. absurd (true≢false i'))))))))

  pub throw_by_backed : {e' : ℕ} (s : State S) (c : Code) (ce : c.context.module_ ≡ modular) (sl' : Live.live s.source) → Backed m Live closed true e' s (throw_by m im c s) (λ r'. throw_by lm il c r')
  unfolding throw_by
  throw_by_backed s c ce sl' = back_word w {s = s} c throw_kind (refl, refl, refl, refl) refl sl' _ _ (λ j1. back_if w {s = (past m s)} (λ z'. brk (input lm (on [] 0 z'))) ((λ p' q' l' v'. refl), (λ p' q' l' v'. refl), (λ p' l' v'. refl)) (live_past w j1) _ _ _ _ (λ y2. back_never) (back_then _ _ _ _ (echo.expr c ce expression_level (past m s) (live_past w j1)) (λ x3a x3s x3u. back_end w {s = x3s} c (ends x3a) x3u.live (λ i'. inl (edge_shut x3a i')) _ _ (λ e5 e5u. back_ok {s = e5} _ _ e5u.live (λ qs' h'. ap (λ (z' : ℕ). throw_stmt ((span z' (m.last e5.source))) x3a) (lo_was w (join (join (token w j1) x3u) e5u) qs' h')) ((λ i'. absurd (true≢false i')), (λ i'. absurd (true≢false i')))))))

  pub label_by_backed : (s : State S) (c : Code) (ce : c.context.module_ ≡ modular) (sl' : Live.live s.source) → Backed m Live closed false closed_end s (label_by m im c s) (λ r'. label_by lm il c r')
  unfolding label_by
  label_by_backed s c ce sl' = back_if w {s = s} (λ z'. ends_here lm il c (on [] 0 z')) ((λ p' q' l' v'. refl), (λ p' q' l' v'. refl), (λ p' l' v'. refl)) sl' _ _ _ _ (λ y1. back_ok {s = s} _ _ sl' (λ qs' h'. refl) ((λ i'. absurd (true≢false i')), (λ i'. absurd (true≢false i')))) (back_weak _ (back_name w {s = s} c sl' _ _ (λ n3 j2. back_ok {s = (past m s)} _ _ (live_past w j2) (λ qs' h'. ap (λ (z' : Span). ident (z') n3) (first_was w (token w j2) (took_token w j2) qs' h')) ((λ i'. absurd (true≢false i')), (λ i'. absurd (true≢false i'))))))

  pub jump_by_backed : {e' : ℕ} (s : State S) (word : ℕ) (shut : Plain word) (shutf : eqb error_kind word ≡ false) (make : (Span → Tree → Tree)) (c : Code) (ce : c.context.module_ ≡ modular) (sl' : Live.live s.source) → Backed m Live closed true e' s (jump_by m im word make c s) (λ r'. jump_by lm il word make c r')
  unfolding jump_by
  jump_by_backed s word shut shutf make c ce sl' = back_word w {s = s} c word shut shutf sl' _ _ (λ j1. back_then _ _ _ _ (label_by_backed (past m s) c ce (live_past w j1)) (λ l2a l2s l2u. back_end w {s = l2s} c plain_end l2u.live (λ i'. absurd (true≢false i')) _ _ (λ e4 e4u. back_ok {s = e4} _ _ e4u.live (λ qs' h'. ap (λ (z' : ℕ). make ((span z' (m.last e4.source))) l2a) (lo_was w (join (join (token w j1) l2u) e4u) qs' h')) ((λ i'. absurd (true≢false i')), (λ i'. absurd (true≢false i'))))))

  pub debugger_by_backed : {e' : ℕ} (s : State S) (c : Code) (ce : c.context.module_ ≡ modular) (sl' : Live.live s.source) → Backed m Live closed true e' s (debugger_by m im c s) (λ r'. debugger_by lm il c r')
  unfolding debugger_by
  debugger_by_backed s c ce sl' = back_word w {s = s} c debugger_kind (refl, refl, refl, refl) refl sl' _ _ (λ j1. back_end w {s = (past m s)} c plain_end (live_past w j1) (λ i'. absurd (true≢false i')) _ _ (λ e2 e2u. back_ok {s = e2} _ _ e2u.live (λ qs' h'. ap (λ (z' : ℕ). debugger_stmt ((span z' (m.last e2.source)))) (lo_was w (join (token w j1) e2u) qs' h')) ((λ i'. absurd (true≢false i')), (λ i'. absurd (true≢false i')))))

  pub case_step_steps : (s : State S) (c : Code) (ce : c.context.module_ ≡ modular) (ss : List Tree) (sl' : Live.live s.source) → Steps m Live closed false closed_end s (case_step m im c ss s) (λ r'. case_step lm il c ss r')
  unfolding case_step
  case_step_steps s c ce ss sl' = step_test (at m case_kind s || (at m default_kind s || at m right_brace_kind s)) (λ r'. at lm case_kind r' || (at lm default_kind r' || at lm right_brace_kind r')) ss _ _ sl'
      (λ qs h g. agrees w (λ z. at lm case_kind (on [] 0 z) || (at lm default_kind (on [] 0 z) || at lm right_brace_kind (on [] 0 z))) ((λ p' q' l' v'. refl), (λ p' q' l' v'. refl), (λ p' l' v'. refl)) s sl' qs h)
      (λ _. back_then _ _ _ _ (echo.stmt (in_list c) ce s sl') (λ t0 t1 u. back_ok {s = t1} _ _ u.live (λ qs h. refl) ((λ i'. absurd (true≢false i')), (λ i'. absurd (true≢false i'))))) ((λ i. i), (λ i. i))

  pub case_rest_backed : {e' : ℕ} (s : State S) (c : Code) (ce : c.context.module_ ≡ modular) (start : State S) (startu : Path m Live start s) (e : Tree) (sl' : Live.live s.source) → Backed m Live closed true e' s (case_rest m im c (lo (input m start)) e s) (λ r'. case_rest lm il c (lo (input lm (was m Live startu r'))) e r')
  unfolding case_rest
  case_rest_backed s c ce start startu e sl' = back_eat w {s = s} colon_kind (refl, refl, refl, refl) refl sl' _ _ (λ j1. back_then _ _ _ _ (back_iterate w closed {s = (past m s)} false (λ r' x' q'. case_step lm il c x' q') _ (λ x' t' u'. case_step_steps t' c ce x' u'.live) ([]) (live_past w j1)) (λ ss2a ss2s ss2u. back_ok {s = ss2s} _ _ ss2u.live (λ qs' h'. ap (λ (z' : ℕ). switch_case ((span z' (m.last ss2s.source))) e (pack ss2a)) (lo_was w (join (join startu (token w j1)) ss2u) qs' h')) ((λ i'. absurd (true≢false i')), (λ i'. absurd (true≢false i')))))

  pub case_by_backed : {e' : ℕ} (s : State S) (c : Code) (ce : c.context.module_ ≡ modular) (sl' : Live.live s.source) → Backed m Live closed true e' s (case_by m im c s) (λ r'. case_by lm il c r')
  unfolding case_by
  case_by_backed s c ce sl' = back_at w {s = s} default_kind (refl, refl, refl, refl) refl sl' _ _ _ _ (λ j1. back_word w {s = s} c default_kind (refl, refl, refl, refl) refl sl' _ _ (λ j2. case_rest_backed (past m s) c ce s (token w j2) absent (live_past w j2))) (back_word w {s = s} c case_kind (refl, refl, refl, refl) refl sl' _ _ (λ j3. back_then _ _ _ _ (echo.expr c ce expression_level (past m s) (live_past w j3)) (λ e4a e4s e4u. case_rest_backed e4s c ce s (join (token w j3) e4u) e4a e4u.live)))

  pub cases_step_backed : {e' : ℕ} (s : State S) (c : Code) (ce : c.context.module_ ≡ modular) (xs : List Tree) (sl' : Live.live s.source) → Backed m Live closed true e' s (cases_step m im c xs s) (λ r'. cases_step lm il c xs r')
  unfolding cases_step
  cases_step_backed s c ce xs sl' = back_at w {s = s} right_brace_kind (refl, refl, refl, refl) refl sl' _ _ _ _ (λ j1. back_past w {s = s} j1 _ (λ r' q'. Ok (finished xs, q')) (back_ok {s = (past m s)} _ _ (live_past w j1) (λ qs' h'. refl) ((λ i'. absurd (true≢false i')), (λ i'. absurd (true≢false i'))))) (back_then _ _ _ _ (case_by_backed s c ce sl') (λ x2a x2s x2u. back_test (has_default m im xs && is_default_case x2a) (λ r'. has_default lm il xs && is_default_case x2a) _ _ _ _ (λ qs' h'. ap (λ (z' : Bool). z' && is_default_case x2a) (same_default m im il xs)) (λ y4. back_never) (λ _. back_ok {s = x2s} _ _ x2u.live (λ qs' h'. refl) ((λ i'. absurd (true≢false i')), (λ i'. absurd (true≢false i'))))))

  pub switch_by_backed : {e' : ℕ} (s : State S) (c : Code) (ce : c.context.module_ ≡ modular) (sl' : Live.live s.source) → Backed m Live closed true e' s (switch_by m im c s) (λ r'. switch_by lm il c r')
  unfolding switch_by
  switch_by_backed s c ce sl' = back_word w {s = s} c switch_kind (refl, refl, refl, refl) refl sl' _ _ (λ j1. back_then _ _ _ _ (in_parens_backed (past m s) c ce (live_past w j1)) (λ e2a e2s e2u. back_eat w {s = e2s} left_brace_kind (refl, refl, refl, refl) refl e2u.live _ _ (λ j4. back_then _ _ _ _ (back_iterate w closed {s = (past m e2s)} true (λ r' x' q'. cases_step lm il c x' q') _ (λ x' t' u'. step_all (cases_step_backed t' c ce x' u'.live)) ([]) (live_past w j4)) (λ xs5a xs5s xs5u. back_ok {s = xs5s} _ _ xs5u.live (λ qs' h'. ap (λ (z' : ℕ). switch_stmt ((span z' (m.last xs5s.source))) e2a (pack xs5a)) (lo_was w (join (join (join (token w j1) e2u) (token w j4)) xs5u) qs' h')) ((λ i'. absurd (true≢false i')), (λ i'. absurd (true≢false i')))))))

  pub catch_by_backed : {e' : ℕ} (s : State S) (c : Code) (ce : c.context.module_ ≡ modular) (sl' : Live.live s.source) → Backed m Live closed true e' s (catch_by m im c s) (λ r'. catch_by lm il c r')
  unfolding catch_by
  catch_by_backed s c ce sl' = back_word w {s = s} c catch_kind (refl, refl, refl, refl) refl sl' _ _ (λ j1. back_at w {s = (past m s)} left_paren_kind (refl, refl, refl, refl) refl (live_past w j1) _ _ _ _ (λ j2. back_past w {s = (past m s)} j2 _ (λ r' q'. (il.pat c q' >>= λ p. (eat lm right_paren_kind p.1 >>= λ q. (block_by lm il c q >>= λ b. Ok (catch_clause (spanned lm (lo (input lm (was m Live (token w j1) r'))) b.1) p.0 b.0, b.1))))) (back_then _ _ _ _ (echo.pat c ce (past m (past m s)) (live_past w j2)) (λ p3a p3s p3u. back_eat w {s = p3s} right_paren_kind (refl, refl, refl, refl) refl p3u.live _ _ (λ j5. back_then _ _ _ _ (block_by_backed (past m p3s) c ce (live_past w j5)) (λ b6a b6s b6u. back_ok {s = b6s} _ _ b6u.live (λ qs' h'. ap (λ (z' : ℕ). catch_clause ((span z' (m.last b6s.source))) p3a b6a) (lo_was w (join (join (join (join (token w j1) (token w j2)) p3u) (token w j5)) b6u) qs' h')) ((λ i'. absurd (true≢false i')), (λ i'. absurd (true≢false i')))))))) (back_then _ _ _ _ (block_by_backed (past m s) c ce (live_past w j1)) (λ b8a b8s b8u. back_ok {s = b8s} _ _ b8u.live (λ qs' h'. ap (λ (z' : ℕ). catch_clause ((span z' (m.last b8s.source))) absent b8a) (lo_was w (join (token w j1) b8u) qs' h')) ((λ i'. absurd (true≢false i')), (λ i'. absurd (true≢false i'))))))

  pub finally_by_backed : (s : State S) (c : Code) (ce : c.context.module_ ≡ modular) (start : State S) (startu : Path m Live start s) (b : Tree) (h : Tree) (sl' : Live.live s.source) → Backed m Live closed false closed_end s (finally_by m im c (lo (input m start)) b h s) (λ r'. finally_by lm il c (lo (input lm (was m Live startu r'))) b h r')
  unfolding finally_by
  finally_by_backed s c ce start startu b h sl' = back_if w {s = s} (λ z'. at lm finally_kind (on [] 0 z') && not (barred c.context (input lm (on [] 0 z')))) ((λ p' q' l' v'. refl), (λ p' q' l' v'. refl), (λ p' l' v'. refl)) sl' _ _ _ _ (λ y1. back_weak _ (back_word w {s = s} c finally_kind (refl, refl, refl, refl) refl sl' _ _ (λ j2. back_then _ _ _ _ (block_by_backed (past m s) c ce (live_past w j2)) (λ f3a f3s f3u. back_ok {s = f3s} _ _ f3u.live (λ qs' h'. ap (λ (z' : ℕ). try_stmt ((span z' (m.last f3s.source))) b h f3a) (lo_was w (join (join startu (token w j2)) f3u) qs' h')) ((λ i'. absurd (true≢false i')), (λ i'. absurd (true≢false i'))))))) (back_test (is_absent h) (λ r'. is_absent h) _ _ _ _ (λ qs' h'. refl) (λ y5. back_never) (λ _. back_ok {s = s} _ _ sl' (λ qs' h'. ap (λ (z' : ℕ). try_stmt ((span z' (m.last s.source))) b h absent) (lo_was w startu qs' h')) ((λ i'. absurd (true≢false i')), (λ i'. absurd (true≢false i')))))

  pub try_by_backed : {e' : ℕ} (s : State S) (c : Code) (ce : c.context.module_ ≡ modular) (sl' : Live.live s.source) → Backed m Live closed true e' s (try_by m im c s) (λ r'. try_by lm il c r')
  unfolding try_by
  try_by_backed s c ce sl' = back_word w {s = s} c try_kind (refl, refl, refl, refl) refl sl' _ _ (λ j1. back_then _ _ _ _ (block_by_backed (past m s) c ce (live_past w j1)) (λ b2a b2s b2u. back_at w {s = b2s} catch_kind (refl, refl, refl, refl) refl b2u.live _ _ _ _ (λ j4. back_weak _ (back_then _ _ _ _ (catch_by_backed b2s c ce b2u.live) (λ h5a h5s h5u. finally_by_backed h5s c ce s (join (join (token w j1) b2u) h5u) b2a h5a h5u.live))) (finally_by_backed b2s c ce s (join (token w j1) b2u) b2a absent b2u.live)))

  pub clause_by_backed : (s : State S) (c : Code) (ce : c.context.module_ ≡ modular) (close : ℕ) (shut : Plain close) (shutf : eqb error_kind close ≡ false) (sl' : Live.live s.source) → Backed m Live closed true closed_end s (clause_by m im c close s) (λ r'. clause_by lm il c close r')
  unfolding clause_by
  clause_by_backed s c ce close shut shutf sl' = back_at w {s = s} close shut shutf sl' _ _ _ _ (λ j1. back_past w {s = s} j1 _ (λ r' q'. Ok (absent, q')) (back_ok {s = (past m s)} _ _ (live_past w j1) (λ qs' h'. refl) ((λ i'. absurd (true≢false i')), (λ i'. absurd (true≢false i'))))) (back_then _ _ _ _ (echo.expr c ce expression_level s sl') (λ e2a e2s e2u. back_eat w {s = e2s} close shut shutf e2u.live _ _ (λ j4. back_ok {s = (past m e2s)} _ _ (live_past w j4) (λ qs' h'. refl) ((λ i'. absurd (true≢false i')), (λ i'. absurd (true≢false i'))))))

  pub for_rest_backed : {e' : ℕ} (s : State S) (c : Code) (ce : c.context.module_ ≡ modular) (start : State S) (startu : Path m Live start s) (i : Tree) (sl' : Live.live s.source) → Backed m Live closed true e' s (for_rest m im c (lo (input m start)) i s) (λ r'. for_rest lm il c (lo (input lm (was m Live startu r'))) i r')
  unfolding for_rest
  for_rest_backed s c ce start startu i sl' = back_eat w {s = s} semicolon_kind (refl, refl, refl, refl) refl sl' _ _ (λ j1. back_then _ _ _ _ (clause_by_backed (past m s) c ce semicolon_kind (refl, refl, refl, refl) refl (live_past w j1)) (λ t2a t2s t2u. back_then _ _ _ _ (clause_by_backed t2s c ce right_paren_kind (refl, refl, refl, refl) refl t2u.live) (λ u4a u4s u4u. back_then _ _ _ _ (sub_by_backed u4s c ce false u4u.live) (λ b6a b6s b6u. back_ok {s = b6s} _ _ b6u.live (λ qs' h'. ap (λ (z' : ℕ). for_stmt ((span z' (m.last b6s.source))) i t2a u4a b6a) (lo_was w (join (join (join (join startu (token w j1)) t2u) u4u) b6u) qs' h')) ((λ i'. absurd (true≢false i')), (λ i'. absurd (true≢false i')))))))

  pub over_rest_backed : (s : State S) (c : Code) (ce : c.context.module_ ≡ modular) (l : ℕ) (make : (Span → Tree → Tree → Tree)) (start : State S) (startu : Path m Live start s) (sl' : Live.live s.source) → Backed m Live closed true closed_end s (over_rest m im c l make (lo (input m start)) s) (λ r'. over_rest lm il c l make (lo (input lm (was m Live startu r'))) r')
  unfolding over_rest
  over_rest_backed s c ce l make start startu sl' = back_then _ _ _ _ (echo.expr c ce l s sl') (λ e1a e1s e1u. back_eat w {s = e1s} right_paren_kind (refl, refl, refl, refl) refl e1u.live _ _ (λ j3. back_then _ _ _ _ (sub_by_backed (past m e1s) c ce false (live_past w j3)) (λ b4a b4s b4u. back_ok {s = b4s} _ _ b4u.live (λ qs' h'. ap (λ (z' : ℕ). make ((span z' (m.last b4s.source))) e1a b4a) (lo_was w (join (join (join startu e1u) (token w j3)) b4u) qs' h')) ((λ i'. absurd (true≢false i')), (λ i'. absurd (true≢false i'))))))

  pub in_rest_backed : {e' : ℕ} (s : State S) (c : Code) (ce : c.context.module_ ≡ modular) (start : State S) (startu : Path m Live start s) (l : Tree) (sl' : Live.live s.source) → Backed m Live closed true e' s (in_rest m im c (lo (input m start)) l s) (λ r'. in_rest lm il c (lo (input lm (was m Live startu r'))) l r')
  unfolding in_rest
  in_rest_backed s c ce start startu l sl' = back_word w {s = s} c in_kind (refl, refl, refl, refl) refl sl' _ _ (λ j1. over_rest_backed (past m s) c ce expression_level (λ p e b. for_in_stmt p l e b) start (join startu (token w j1)) (live_past w j1))

  pub of_rest_backed : {e' : ℕ} (s : State S) (c : Code) (ce : c.context.module_ ≡ modular) (start : State S) (startu : Path m Live start s) (awaits : Bool) (l : Tree) (sl' : Live.live s.source) → Backed m Live closed true e' s (of_rest m im c (lo (input m start)) awaits l s) (λ r'. of_rest lm il c (lo (input lm (was m Live startu r'))) awaits l r')
  unfolding of_rest
  of_rest_backed s c ce start startu awaits l sl' = back_word w {s = s} c of_kind (refl, refl, refl, refl) refl sl' _ _ (λ j1. over_rest_backed (past m s) c ce assignment_level (λ p e b. for_of_stmt p awaits l e b) start (join startu (token w j1)) (live_past w j1))

  pub head_rest_backed : {e' : ℕ} (s : State S) (c : Code) (ce : c.context.module_ ≡ modular) (start : State S) (startu : Path m Live start s) (awaits : Bool) (ds : List Tree) (l : Tree) (sl' : Live.live s.source) → Backed m Live closed true e' s (head_rest m im c (lo (input m start)) awaits ds l s) (λ r'. head_rest lm il c (lo (input lm (was m Live startu r'))) awaits ds l r')
  unfolding head_rest
  head_rest_backed s c ce start startu awaits ds l sl' = back_at w {s = s} of_kind (refl, refl, refl, refl) refl sl' _ _ _ _ (λ j1. back_test (one_bare m im ds) (λ r'. one_bare lm il ds) _ _ _ _ (λ qs' h'. ap (λ (z' : Bool). z') (same_bare m im il ds)) (λ y2. of_rest_backed s c ce start startu awaits l sl') (λ _. back_never)) (back_test awaits (λ r'. awaits) _ _ _ _ (λ qs' h'. refl) (λ y3. back_never) (λ _. back_at w {s = s} in_kind (refl, refl, refl, refl) refl sl' _ _ _ _ (λ j4. back_test (one_bare m im ds) (λ r'. one_bare lm il ds) _ _ _ _ (λ qs' h'. ap (λ (z' : Bool). z') (same_bare m im il ds)) (λ y5. in_rest_backed s c ce start startu l sl') (λ _. back_never)) (for_rest_backed s c ce start startu l sl')))

  pub for_variables_backed : {e' : ℕ} (s : State S) (c : Code) (ce : c.context.module_ ≡ modular) (start : State S) (startu : Path m Live start s) (awaits : Bool) (j' : Here m Live s) → Backed m Live closed true e' s (for_variables m im c (lo (input m start)) awaits s) (λ r'. for_variables lm il c (lo (input lm (was m Live startu r'))) awaits r')
  unfolding for_variables
  for_variables_backed s c ce start startu awaits j' = back_own w {s = s} c j' _ _ (back_then _ _ _ _ (declarators_by_backed (past m s) (without_in c) ce (live_past w j')) (λ ds2a ds2s ds2u. back_same _ (λ r'. head_rest lm il c (lo (input lm (was m Live (join (join startu (token w j')) ds2u) r'))) awaits ds2a (var_decl ((spanned m (lo (input m s)) ds2s)) ((kind (input m s))) (pack ds2a)) r') (λ r'. head_rest lm il c (lo (input lm (was m Live (join (join startu (token w j')) ds2u) r'))) awaits ds2a (var_decl (spanned lm (lo (input lm (was m Live (join (token w j') ds2u) r'))) r') (kind (input lm (was m Live (join (token w j') ds2u) r'))) (pack ds2a)) r') (λ qs' h'. ap (λ (z' : ℕ). head_rest lm il c (lo (input lm (was m Live (join (join startu (token w j')) ds2u) (list_at m Live ds2s qs')))) awaits ds2a (var_decl ((span z' (m.last ds2s.source))) ((kind (input lm (was m Live (join (token w j') ds2u) (list_at m Live ds2s qs'))))) (pack ds2a)) (list_at m Live ds2s qs')) (lo_was w (join (token w j') ds2u) qs' h') ∙ (ap (λ (z' : ℕ). head_rest lm il c (lo (input lm (was m Live (join (join startu (token w j')) ds2u) (list_at m Live ds2s qs')))) awaits ds2a (var_decl ((spanned m (lo (input m s)) ds2s)) (z') (pack ds2a)) (list_at m Live ds2s qs')) (kind_was w (join (token w j') ds2u) (took_join (token w j') ds2u (took_token w j')) qs' h'))) (head_rest_backed ds2s c ce start (join (join startu (token w j')) ds2u) awaits ds2a (var_decl (spanned m (lo (input m s)) ds2s) (kind (input m s)) (pack ds2a)) ds2u.live)))

  pub for_using_backed : {e' : ℕ} (s : State S) (c : Code) (ce : c.context.module_ ≡ modular) (start : State S) (startu : Path m Live start s) (awaits : Bool) (own : State S) (ownu : Path m Live own s) (waits : Bool) (sl' : Live.live s.source) → Backed m Live closed true e' s (for_using m im c (lo (input m start)) awaits (lo (input m own)) waits s) (λ r'. for_using lm il c (lo (input lm (was m Live startu r'))) awaits (lo (input lm (was m Live ownu r'))) waits r')
  unfolding for_using
  for_using_backed s c ce start startu awaits own ownu waits sl' = back_word w {s = s} c using_kind (refl, refl, refl, refl) refl sl' _ _ (λ j1. back_then _ _ _ _ (declarators_by_backed (past m s) (without_in c) ce (live_past w j1)) (λ ds2a ds2s ds2u. back_same _ (λ r'. head_rest lm il c (lo (input lm (was m Live (join (join startu (token w j1)) ds2u) r'))) awaits ds2a (using_decl ((spanned m (lo (input m own)) ds2s)) waits (pack ds2a)) r') (λ r'. head_rest lm il c (lo (input lm (was m Live (join (join startu (token w j1)) ds2u) r'))) awaits ds2a (using_decl (spanned lm (lo (input lm (was m Live (join (join ownu (token w j1)) ds2u) r'))) r') waits (pack ds2a)) r') (λ qs' h'. ap (λ (z' : ℕ). head_rest lm il c (lo (input lm (was m Live (join (join startu (token w j1)) ds2u) (list_at m Live ds2s qs')))) awaits ds2a (using_decl ((span z' (m.last ds2s.source))) waits (pack ds2a)) (list_at m Live ds2s qs')) (lo_was w (join (join ownu (token w j1)) ds2u) qs' h')) (head_rest_backed ds2s c ce start (join (join startu (token w j1)) ds2u) awaits ds2a (using_decl (spanned m (lo (input m own)) ds2s) waits (pack ds2a)) ds2u.live)))

  pub for_expression_rest_backed : {e' : ℕ} (s : State S) (c : Code) (ce : c.context.module_ ≡ modular) (start : State S) (startu : Path m Live start s) (awaits : Bool) (own : State S) (ownu : Path m Live own s) (e : Tree) (sl' : Live.live s.source) → Backed m Live closed true e' s (for_expression_rest m im c (lo (input m start)) awaits own e s) (λ r'. for_expression_rest lm il c (lo (input lm (was m Live startu r'))) awaits (was m Live ownu r') e r')
  unfolding for_expression_rest
  for_expression_rest_backed s c ce start startu awaits own ownu e sl' = back_at w {s = s} of_kind (refl, refl, refl, refl) refl sl' _ _ _ _ (λ j1. back_test_two w (at m let_kind own || (not awaits && (at m async_kind own && (kind2 (input m own) == of_kind)))) (λ r'. at lm let_kind (was m Live ownu r') || (not awaits && (at lm async_kind (was m Live ownu r') && (kind2 (input lm (was m Live ownu r')) == of_kind)))) _ _ _ _ (λ qs' h'. agrees_was_on w (λ z'. at lm let_kind (on [] 0 z') || (not awaits && (at lm async_kind (on [] 0 z') && (kind2 (input lm (on [] 0 z')) == of_kind)))) ((λ p' q' l' v'. refl), (λ p' q' l' v'. refl), (λ n' p' q' l' v'. refl), (λ n' p' q' l' v'. refl), (λ n' p' l' v'. refl)) ownu qs' h') (λ y2. back_never) (λ _. back_pure _ _ _ _ _ _ (λ qs' h'. refl) (λ l3. of_rest_backed s c ce start startu awaits l3 sl'))) (back_test awaits (λ r'. awaits) _ _ _ _ (λ qs' h'. refl) (λ y4. back_never) (λ _. back_at w {s = s} in_kind (refl, refl, refl, refl) refl sl' _ _ _ _ (λ j5. back_pure _ _ _ _ _ _ (λ qs' h'. refl) (λ l6. in_rest_backed s c ce start startu l6 sl')) (for_rest_backed s c ce start startu e sl')))

  -- `let [`
  let_told : (Q : List PlacedToken → Type 0) (s : State S) → Live.live s.source → (qs : List PlacedToken) → (Live.hands 2 qs s.source ⊎ Rest w Q s qs) → (at lm let_kind (list_at m Live s qs) && (kind2 (input lm (list_at m Live s qs)) == left_bracket_kind)) ≡ (at m let_kind s && (kind2 (input m s) == left_bracket_kind))
  let_told Q s a qs (inl o) = agrees_two w (λ z'. at lm let_kind (on [] 0 z') && (kind2 (input lm (on [] 0 z')) == left_bracket_kind)) ((λ p' q' l' v'. refl), (λ p' q' l' v'. refl), (λ n' p' q' l' v'. refl), (λ n' p' q' l' v'. refl), (λ n' p' l' v'. refl)) s a qs (w.fewer 1 qs s.source a o)
  let_told Q s a qs (inr o) = agrees_two w (λ z'. at lm let_kind (on [] 0 z') && (kind2 (input lm (on [] 0 z')) == left_bracket_kind)) ((λ p' q' l' v'. refl), (λ p' q' l' v'. refl), (λ n' p' q' l' v'. refl), (λ n' p' q' l' v'. refl), (λ n' p' l' v'. refl)) s a qs o.0

  for_expression_bides : (s : State S) (c : Code) (ce : c.context.module_ ≡ modular) (start : State S) (startu : Path m Live start s) (awaits : Bool) (sl' : Live.live s.source) → Bides m Live 2 (Rest w (λ z. ⊥) s) closed true closed_end s (for_expression m im c (lo (input m start)) awaits s) (λ r'. for_expression lm il c (lo (input lm (was m Live startu r'))) awaits r')
  unfolding for_expression
  for_expression_bides s c ce start startu awaits sl' = bides_test w (at m let_kind s && (kind2 (input m s) == left_bracket_kind)) (λ r'. at lm let_kind r' && (kind2 (input lm r') == left_bracket_kind)) _ _ _ _ (λ qs' h' o'. let_told (λ z. ⊥) s sl' qs' o') (λ y1. record { so = tt }) (λ _. bides_then w {Q = λ z. ⊥} _ _ _ _ (echo.expr (without_in c) ce expression_level s sl') (λ e2a e2s e2u. bides_one w _ _ (for_expression_rest_backed e2s c ce start (join startu e2u) awaits s e2u e2a e2u.live)))

  pub for_expression_backed : (s : State S) (c : Code) (ce : c.context.module_ ≡ modular) (start : State S) (startu : Path m Live start s) (awaits : Bool) (sl' : Live.live s.source) → Backed m Live closed true closed_end s (for_expression m im c (lo (input m start)) awaits s) (λ r'. for_expression lm il c (lo (input lm (was m Live startu r'))) awaits r')
  for_expression_backed s c ce start startu awaits sl' = bides_back w _ _ (for_expression_bides s c ce start startu awaits sl')

  pub for_head_backed : (s : State S) (c : Code) (ce : c.context.module_ ≡ modular) (start : State S) (startu : Path m Live start s) (awaits : Bool) (sl' : Live.live s.source) → Backed m Live closed true closed_end s (for_head m im c (lo (input m start)) awaits s) (λ r'. for_head lm il c (lo (input lm (was m Live startu r'))) awaits r')
  unfolding for_head
  for_head_backed s c ce start startu awaits sl' = back_at w {s = s} semicolon_kind (refl, refl, refl, refl) refl sl' _ _ _ _ (λ j1. back_test awaits (λ r'. awaits) _ _ _ _ (λ qs' h'. refl) (λ y2. back_never) (λ _. for_rest_backed s c ce start startu absent sl')) (back_test_two w (at m var_kind s || (at m const_kind s || starts_let m im s)) (λ r'. at lm var_kind r' || (at lm const_kind r' || starts_let lm il r')) _ _ _ _ (λ qs' h'. agrees_two w (λ z'. at lm var_kind (on [] 0 z') || (at lm const_kind (on [] 0 z') || starts_let lm il (on [] 0 z'))) ((λ p' q' l' v'. refl), (λ p' q' l' v'. refl), (λ n' p' q' l' v'. refl), (λ n' p' q' l' v'. refl), (λ n' p' l' v'. refl)) s sl' qs' h') (λ y3. for_variables_backed s c ce start startu awaits (head_here s sl' y3)) (λ _. back_test_two w (starts_using m im c s && not (kind2 (input m s) == of_kind)) (λ r'. starts_using lm il c r' && not (kind2 (input lm r') == of_kind)) _ _ _ _ (λ qs' h'. using_of_same c s sl' qs' h') (λ y4. back_same _ (λ r'. for_using lm il c (lo (input lm ((was m Live startu r')))) awaits (lo (input lm ((was m Live (stay {s = s} sl') r')))) false r') (λ r'. for_using lm il c (lo (input lm (was m Live startu r'))) awaits (lo (input lm r')) false r') (λ qs' h'. refl) (for_using_backed s c ce start startu awaits s (stay {s = s} sl') false sl')) (λ _. bides_back w _ _ (bides_test w (starts_await_using m im c s && not (kind2 (rest (input m s)) == of_kind)) (λ r'. starts_await_using lm il c r' && not (kind2 (rest (input lm r')) == of_kind)) _ _ _ _ (λ qs' h' o'. await_of_told c s sl' qs' o') (λ y5. bides_past w {s = s} (await_here c s sl' (and_first (starts_await_using m im c s) (not (kind2 (rest (input m s)) == of_kind)) y5)) _ (λ r' q'. for_using lm il c (lo (input lm (was m Live startu r'))) awaits (lo (input lm r')) true q') (for_using_backed (past m s) c ce start (join startu (token w (await_here c s sl' (and_first (starts_await_using m im c s) (not (kind2 (rest (input m s)) == of_kind)) y5)))) awaits s (token w (await_here c s sl' (and_first (starts_await_using m im c s) (not (kind2 (rest (input m s)) == of_kind)) y5))) true (live_past w (await_here c s sl' (and_first (starts_await_using m im c s) (not (kind2 (rest (input m s)) == of_kind)) y5))))) (λ _. for_expression_bides s c ce start startu awaits sl')))))

  pub for_by_backed : {e' : ℕ} (s : State S) (c : Code) (ce : c.context.module_ ≡ modular) (sl' : Live.live s.source) → Backed m Live closed true e' s (for_by m im c s) (λ r'. for_by lm il c r')
  unfolding for_by
  for_by_backed s c ce sl' = back_word w {s = s} c for_kind (refl, refl, refl, refl) refl sl' _ _ (λ j1. back_at w {s = (past m s)} await_kind (refl, refl, refl, refl) refl (live_past w j1) _ _ _ _ (λ j2. back_test (c.context.in_async) (λ r'. c.context.in_async) _ _ _ _ (λ qs' h'. refl) (λ y3. back_word w {s = (past m s)} c await_kind (refl, refl, refl, refl) refl (live_past w j1) _ _ (λ j4. back_eat w {s = (past m (past m s))} left_paren_kind (refl, refl, refl, refl) refl (live_past w j4) _ _ (λ j5. for_head_backed (past m (past m (past m s))) c ce s (join (join (token w j1) (token w j4)) (token w j5)) true (live_past w j5)))) (λ _. back_never)) (back_eat w {s = (past m s)} left_paren_kind (refl, refl, refl, refl) refl (live_past w j1) _ _ (λ j6. for_head_backed (past m (past m s)) c ce s (join (token w j1) (token w j6)) false (live_past w j6))))

  pub labelled_by_backed : {e' : ℕ} (s : State S) (c : Code) (ce : c.context.module_ ≡ modular) (start : State S) (startu : Path m Live start s) (l : Tree) (j' : Here m Live s) → Backed m Live closed true e' s (labelled_by m im c (lo (input m start)) l s) (λ r'. labelled_by lm il c (lo (input lm (was m Live startu r'))) l r')
  unfolding labelled_by
  labelled_by_backed s c ce start startu l j' = back_past w {s = s} j' _ (λ r' q'. (sub_by lm il c true q' >>= λ b. Ok (labeled_stmt (spanned lm (lo (input lm (was m Live startu r'))) b.1) l b.0, b.1))) (back_then _ _ _ _ (sub_by_backed (past m s) c ce true (live_past w j')) (λ b1a b1s b1u. back_ok {s = b1s} _ _ b1u.live (λ qs' h'. ap (λ (z' : ℕ). labeled_stmt ((span z' (m.last b1s.source))) l b1a) (lo_was w (join (join startu (token w j')) b1u) qs' h')) ((λ i'. absurd (true≢false i')), (λ i'. absurd (true≢false i')))))

  expression_by_bides : (s : State S) (c : Code) (ce : c.context.module_ ≡ modular) (sl' : Live.live s.source) → Bides m Live 2 (Rest w Calm s) closed true closed_end s (expression_by m im c s) (λ r'. expression_by lm il c r')
  unfolding expression_by
  expression_by_bides s c ce sl' = bides_test w (at m let_kind s && (kind2 (input m s) == left_bracket_kind)) (λ r'. at lm let_kind r' && (kind2 (input lm r') == left_bracket_kind)) _ _ _ _ (λ qs' h' o'. let_told Calm s sl' qs' o') (λ y1. record { so = tt }) (λ _. bides_then w {Q = Calm} _ _ _ _ (echo.expr c ce expression_level s sl')
      (λ e2a e2s e2u. bides_test w (is_name e2a && at m colon_kind e2s) (λ r'. is_name e2a && at lm colon_kind r') _ _ _ _ (λ qs' h' o'. agrees w (λ z'. is_name e2a && at lm colon_kind (on [] 0 z')) ((λ p' q' l' v'. refl), (λ p' q' l' v'. refl), (λ p' l' v'. refl)) e2s e2u.live qs' h')
      (λ y4. bides_weak w _ _ (bides_one w _ _ (labelled_by_backed e2s c ce s e2u e2a (here_at w colon_kind (refl, refl, refl, refl) refl e2s e2u.live (and_second (is_name e2a) (at m colon_kind e2s) y4)))))
      (λ _. bides_same w _ (λ r'. end_of lm c (statement_class m im c s e2a) r' >>= λ q'. Ok (expr_stmt (spanned lm (lo (input lm (was m Live e2u r'))) q') e2a, q')) (λ r'. end_of lm c (statement_class lm il c (was m Live e2u r') e2a) r' >>= λ q'. Ok (expr_stmt (spanned lm (lo (input lm (was m Live e2u r'))) q') e2a, q')) (λ qs' h' o'. ap (λ (z' : ℕ). end_of lm c z' (list_at m Live e2s qs') >>= λ q'. Ok (expr_stmt (spanned lm (lo (input lm (was m Live e2u (list_at m Live e2s qs')))) q') e2a, q')) (class_was c s e2u e2a qs' h'))
      (bides_end w {s = e2s} c (statement_class m im c s e2a) e2u.live (λ i'. class_loose c s e2a i') (λ a' b' qs' h'. agrees w (λ z'. break_of z' || not (kind_of z' == using_kind)) ((λ p' q' l' v'. refl), (λ p' q' l' v'. refl), (λ p' l' v'. refl)) e2s e2u.live qs' h' ∙ pause_by (kind (input m e2s)) (brk (input m e2s)) _ b') _ _ (λ r5 r5u. back_ok {s = r5} _ _ r5u.live (λ qs' h'. ap (λ (z' : ℕ). expr_stmt ((span z' (m.last r5.source))) e2a) (lo_was w (join e2u r5u) qs' h')) ((λ i'. absurd (true≢false i')), (λ i'. absurd (true≢false i'))))))))

  pub expression_by_backed : (s : State S) (c : Code) (ce : c.context.module_ ≡ modular) (sl' : Live.live s.source) → Backed m Live closed true closed_end s (expression_by m im c s) (λ r'. expression_by lm il c r')
  expression_by_backed s c ce sl' = bides_back w _ _ (expression_by_bides s c ce sl')

  pub keyword_stmt_backed : (s : State S) (c : Code) (ce : c.context.module_ ≡ modular) (sl' : Live.live s.source) → Backed m Live closed true closed_end s (keyword_stmt m im c s) (λ r'. keyword_stmt lm il c r')
  unfolding keyword_stmt
  keyword_stmt_backed s c ce sl' = back_at w {s = s} if_kind (refl, refl, refl, refl) refl sl' _ _ _ _ (λ j1. if_by_backed s c ce sl') (back_at w {s = s} return_kind (refl, refl, refl, refl) refl sl' _ _ _ _ (λ j2. return_by_backed s c ce sl') (back_at w {s = s} for_kind (refl, refl, refl, refl) refl sl' _ _ _ _ (λ j3. for_by_backed s c ce sl') (back_at w {s = s} while_kind (refl, refl, refl, refl) refl sl' _ _ _ _ (λ j4. while_by_backed s c ce sl') (back_at w {s = s} do_kind (refl, refl, refl, refl) refl sl' _ _ _ _ (λ j5. do_by_backed s c ce sl') (back_at w {s = s} switch_kind (refl, refl, refl, refl) refl sl' _ _ _ _ (λ j6. switch_by_backed s c ce sl') (back_at w {s = s} try_kind (refl, refl, refl, refl) refl sl' _ _ _ _ (λ j7. try_by_backed s c ce sl') (back_at w {s = s} throw_kind (refl, refl, refl, refl) refl sl' _ _ _ _ (λ j8. throw_by_backed s c ce sl') (back_at w {s = s} break_kind (refl, refl, refl, refl) refl sl' _ _ _ _ (λ j9. jump_by_backed s break_kind (refl, refl, refl, refl) refl break_stmt c ce sl') (back_at w {s = s} continue_kind (refl, refl, refl, refl) refl sl' _ _ _ _ (λ j10. jump_by_backed s continue_kind (refl, refl, refl, refl) refl continue_stmt c ce sl') (back_at w {s = s} with_kind (refl, refl, refl, refl) refl sl' _ _ _ _ (λ j11. with_by_backed s c ce sl') (back_at w {s = s} debugger_kind (refl, refl, refl, refl) refl sl' _ _ _ _ (λ j12. debugger_by_backed s c ce sl') (back_at w {s = s} function_kind (refl, refl, refl, refl) refl sl' _ _ _ _ (λ j13. back_same _ (λ r'. function_decl_by lm il c (lo (input lm ((was m Live (stay {s = s} sl') r')))) false r') (λ r'. function_decl_by lm il c (lo (input lm r')) false r') (λ qs' h'. refl) (function_decl_by_backed s c ce s (stay {s = s} sl') false sl')) (back_at w {s = s} class_kind (refl, refl, refl, refl) refl sl' _ _ _ _ (λ j14. back_test (c.listed) (λ r'. c.listed) _ _ _ _ (λ qs' h'. refl) (λ y15. class_decl_by_backed s c ce sl') (λ _. back_never)) (back_two w {s = s} (λ z'. starts_async lm il (on [] 0 z')) ((λ p' q' l' v'. refl), (λ p' q' l' v'. refl), (λ n' p' q' l' v'. refl), (λ n' p' q' l' v'. refl), (λ n' p' l' v'. refl)) sl' _ _ _ _ (λ y16. back_test (c.listed) (λ r'. c.listed) _ _ _ _ (λ qs' h'. refl) (λ y17. back_past w {s = s} (here_by w (λ z'. starts_async lm il (on [] 0 z')) (refl, λ p' v'. refl) s sl' y16) _ (λ r' q'. function_decl_by lm il c (lo (input lm r')) true q') (function_decl_by_backed (past m s) c ce s (token w (here_by w (λ z'. starts_async lm il (on [] 0 z')) (refl, λ p' v'. refl) s sl' y16)) true (live_past w (here_by w (λ z'. starts_async lm il (on [] 0 z')) (refl, λ p' v'. refl) s sl' y16)))) (λ _. back_never)) (back_test_two w (starts_variables m im c s) (λ r'. starts_variables lm il c r') _ _ _ _ (λ qs' h'. agrees_two w (λ z'. starts_variables lm il c (on [] 0 z')) ((λ p' q' l' v'. refl), (λ p' q' l' v'. refl), (λ n' p' q' l' v'. refl), (λ n' p' q' l' v'. refl), (λ n' p' l' v'. refl)) s sl' qs' h') (λ y18. variables_by_backed s c ce (variables_here c s sl' y18)) (λ _. back_two w {s = s} (λ z'. c.listed && starts_using lm il c (on [] 0 z')) ((λ p' q' l' v'. refl), (λ p' q' l' v'. refl), (λ n' p' q' l' v'. refl), (λ n' p' q' l' v'. refl), (λ n' p' l' v'. refl)) sl' _ _ _ _ (λ y19. back_same _ (λ r'. using_by lm il c (lo (input lm ((was m Live (stay {s = s} sl') r')))) false r') (λ r'. using_by lm il c (lo (input lm r')) false r') (λ qs' h'. refl) (using_by_backed s c ce s (stay {s = s} sl') false sl')) (bides_back w _ _ (bides_test w (c.listed && starts_await_using m im c s) (λ r'. c.listed && starts_await_using lm il c r') _ _ _ _ (λ qs' h' o'. ap (λ (b' : Bool). c.listed && b') (await_told c s sl' qs' o')) (λ y20. bides_past w {s = s} (await_here c s sl' (and_second c.listed (starts_await_using m im c s) y20)) _ (λ r' q'. using_by lm il c (lo (input lm r')) true q') (using_by_backed (past m s) c ce s (token w (await_here c s sl' (and_second c.listed (starts_await_using m im c s) y20))) true (live_past w (await_here c s sl' (and_second c.listed (starts_await_using m im c s) y20))))) (λ _. expression_by_bides s c ce sl')))))))))))))))))))

  pub stmt_by_backed : (s : State S) (c : Code) (ce : c.context.module_ ≡ modular) (sl' : Live.live s.source) → Backed m Live closed true closed_end s (stmt_by m im c s) (λ r'. stmt_by lm il c r')
  unfolding stmt_by
  stmt_by_backed s c ce sl' = back_at w {s = s} semicolon_kind (refl, refl, refl, refl) refl sl' _ _ _ _ (λ j1. back_past w {s = s} j1 _ (λ r' q'. Ok (empty_stmt (first lm il r'), q')) (back_ok {s = (past m s)} _ _ (live_past w j1) (λ qs' h'. ap (λ (z' : Span). empty_stmt (z')) (first_was w (token w j1) (took_token w j1) qs' h')) ((λ i'. absurd (true≢false i')), (λ i'. absurd (true≢false i'))))) (back_at w {s = s} left_brace_kind (refl, refl, refl, refl) refl sl' _ _ _ _ (λ j2. block_by_backed s c ce sl') (keyword_stmt_backed s c ce sl'))

  pub stmt_from_backed : (s : State S) (c : Code) (ce : c.context.module_ ≡ modular) (sl' : Live.live s.source) → Backed m Live closed true closed_end s (stmt_from m im c s) (λ r'. stmt_from lm il c r')
  unfolding stmt_from
  stmt_from_backed s c ce sl' = back_operand w {s = s} _ _ sl' (stmt_by_backed (operand m s) c ce (w.order.live_operand s.source sl'))
