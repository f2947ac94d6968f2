-- Patterns, statements, functions and classes (ECMA-262, clauses 14 and 15): their rules over a source and over the list that it hands out.
use Rattle.std.proofs.Common.{◌≡◌, ℕ, Bool, true, false, not, ◌&&◌, ◌||◌, ◌==◌, cond, if◌then◌else◌, List, [], ◌∷◌, ◌++◌, Result, Ok, refl, sym, ap, ap₂, ◌∙◌, subst}
use Rattle.std.proofs.lemmas.Bool.{and_right}
use Rattle.base_proofs.proofs.Bools.{and_second, and_first, and_same}
use Rattle.base_token.specs.declared.place.Span.{Span}
use Rattle.base_token.specs.Kinds.{div_kind, div_assign_kind, dot_dot_dot_kind, left_paren_kind, right_paren_kind, left_bracket_kind, right_bracket_kind, left_brace_kind, right_brace_kind, semicolon_kind, comma_kind, colon_kind, hash_kind, mul_kind, assign_kind, await_kind, break_kind, case_kind, catch_kind, continue_kind, debugger_kind, default_kind, do_kind, else_kind, finally_kind, for_kind, function_kind, if_kind, return_kind, switch_kind, throw_kind, try_kind, var_kind, let_kind, const_kind, while_kind, with_kind, class_kind, extends_kind, in_kind, async_kind, of_kind, using_kind, static_kind, accessor_kind, get_kind, set_kind}
use Rattle.tree_spec.specs.Tree.{Tree, none, more, pack, plain_method, block_stmt, empty_stmt, debugger_stmt, with_stmt, return_stmt, labeled_stmt, break_stmt, continue_stmt, switch_stmt, switch_case, throw_stmt, try_stmt, catch_clause, while_stmt, do_while_stmt, for_stmt, for_in_stmt, for_of_stmt, expr_stmt, class_decl, fn_decl, var_decl, using_decl, var_declarator, function, class, class_prop, private_prop, static_block, auto_accessor, ident, binding_ident, array_pat, rest_pat, object_pat, assign_pat, key_value_pat_prop, assign_pat_prop, absent}
use Rattle.grammar_spec.specs.Tokens.Input.{Input, Code, kind, kind_of, kind2, brk, brk2, lo, dots_at, rest, others, span, barred, is_strict, with_in, without_in, in_list, alone, in_body, in_field, in_static, turned_strict}
use Rattle.grammar_spec.specs.Tokens.Operators.{expression_level, assignment_level, new_level, starts_key, may_name, let_end, key_end}
use Rattle.grammar_spec.specs.Tokens.Shape.{ends, is_name, is_absent, is_private, is_structured, is_default_case, is_use_strict, is_plain_function, constructs, field_end, is_statement}
use Rattle.grammar_spec.specs.Reader.Source.{Fault, unexpected, ◌>>=◌, Stream, State, input, past, operand, retold, spanned, at, eat_word, Step, go_on, finished, Inner}
use Rattle.grammar_spec.specs.Reader.Cover.{to_head}
use Rattle.base_token.specs.declared.context.Context.{Context}
use Rattle.grammar_spec.specs.Reader.Expressions.{first, function_by, is_async_head}
use Rattle.grammar_spec.specs.Reader.Statements.{Body, Chain, chained, initial_pat, after_item, array_item, array_pat_by, keyed_item, named_item, pattern_prop, object_item, object_pat_by, pat_by, block_step, block_rest, block_by, body_item, body_step, body_by, declarator_by, declarator_step, declarators_by, starts_let, starts_variables, variables_by, starts_using, starts_await_using, using_by, function_decl_by, class_decl_by, field_value, class_key, method_tree, constructor_of, class_method_by, class_getter, class_setter, accessor_by, field_or_method, generator_member, member_rest, starts_static, static_by, member_step, members_by, class_tail_by, in_parens, sub_by, with_by, while_by, do_by, branched, else_by, if_step, if_by, ends_here, return_by, throw_by, label_by, jump_by, debugger_by, case_step, case_rest, case_by, has_default, cases_step, switch_by, catch_by, finally_by, try_by, clause_by, for_rest, over_rest, in_rest, of_rest, one_bare, head_rest, for_variables, for_using, for_expression_rest, for_expression, for_head, for_by, labelled_by, expression_by, starts_async, keyword_stmt, stmt_by, stmt_from}
use Rattle.parse_source_laws.specs.Sources.{is_slash, one, two, Orderly}
use Rattle.parse_source_laws.proofs.Beside.{lm, on, Ceiling, kinded, Plain, Beside, Joined, Told, agree1, agree2, at_same, lo_same, span_same, joined_by, joined_at, joined2, kind_two, has_same, first_same, kind_as, told_ok, never, told_then, told_if, told_at, told_pure, told_eat, told_word, told_own, told_name, told_name_of, told_end, told_iterate, told_iterate_in, Keeps, keeps_if, keeps_then, turned_beside, told_operand, Refused, refused_then, refused_else, at_slash, told_refused, Heard, same_constructor, same_default, same_bare}
use Rattle.parse_source_laws.proofs.Expressions.{key_by_told, private_by_told, function_by_told, setter_parameter_told, star_told}

module _ {S : Type 0} {m : Stream S} {Live : S → Type 0} {modular : Bool} (w : Orderly m Live modular) {il : Inner Input} {im : Inner S} (told : Heard m Live modular il im) where
  using_same : (c : Code) (k : Ceiling) (s : State S) (s' : State Input) → Beside m Live k s s' → starts_using lm il c s' ≡ starts_using m im c s
  using_same c k s s' h = agree2 w (λ z. starts_using lm il c (on [] 0 z)) (λ p q l v. refl) (λ p q l v. refl) (λ n p q l v. refl) (λ n p q l v. refl) (λ n p l v. refl) k s s' h

  await_using_same : (k : Ceiling) (c : Code) (s : State S) (s' : State Input) → Beside m Live k s s' → starts_await_using lm il c s' ≡ starts_await_using m im c s
  await_using_same k c s s' h = ap (λ (b : Bool). c.context.in_async && b) (and_same (at lm await_kind s') (at m await_kind s) _ _ (at_same w await_kind (refl, refl, refl, refl) k s s' h) (λ y. behind (joined_at w await_kind (refl, refl, refl, refl) k s s' h y)))
    where
      behind : Joined m Live k s s' → (not (barred c.context (input lm s')) && (not (brk2 (input lm s')) && starts_using lm il c (past lm s'))) ≡ (not (barred c.context (input m s)) && (not (brk2 (input m s)) && starts_using m im c (past m s)))
      behind j = ap₂ (λ (a b : Bool). not a && b) (has_same w (λ z. barred c.context (record { last = 0; places = z })) (λ p l v. refl) k s s' j)
          (ap₂ (λ (a b : Bool). not a && b) (joined2 w (λ z. brk2 (record { last = 0; places = z })) (λ n p q l v. refl) (λ n p q l v. refl) (λ n p l v. refl) k s s' j) (using_same c k (past m s) (past lm s') j.after))

  await_using_joined : (k : Ceiling) (c : Code) (s : State S) (s' : State Input) → Beside m Live k s s' → starts_await_using lm il c s' ≡ true → Joined m Live k s s'
  await_using_joined k c s s' h y = joined_at w await_kind (refl, refl, refl, refl) k s s' h (and_first _ _ (and_second c.context.in_async (at lm await_kind s' && (not (barred c.context (input lm s')) && (not (brk2 (input lm s')) && starts_using lm il c (past lm s')))) y))

  using_joined : (k : Ceiling) (c : Code) (s : State S) (s' : State Input) → Beside m Live k s s' → starts_using lm il c s' ≡ true → Joined m Live k s s'
  using_joined k c s s' h y = joined_at w using_kind (refl, refl, refl, refl) k s s' h (and_first _ _ (and_second c.syntax.explicit_resource_management (at lm using_kind s' && (may_name (kind2 (input lm s')) && not (brk2 (input lm s')))) y))

  using_of_same : (k : Ceiling) (c : Code) (s : State S) (s' : State Input) → Beside m Live k s s' → (starts_using lm il c s' && not (kind2 (input lm s') == of_kind)) ≡ (starts_using m im c s && not (kind2 (input m s) == of_kind))
  using_of_same k c s s' h = and_same (starts_using lm il c s') (starts_using m im c s) _ _ (using_same c k s s' h)
      (λ y. joined2 w (λ z. not (kind2 (record { last = 0; places = z }) == of_kind)) (λ n p q l v. refl) (λ n p q l v. refl) (λ n p l v. refl) k s s' (using_joined k c s s' h y))

  -- the third token, behind two that are the same
  third_same : (k : Ceiling) (s : State S) (s' : State Input) → Joined m Live k s s' → Joined m Live k (past m s) (past lm s') → (kind2 (rest (input lm s')) == of_kind) ≡ (kind2 (rest (input m s)) == of_kind)
  third_same k s s' i j = at_same w of_kind (refl, refl, refl, refl) k (past m (past m s)) (past lm (past lm s')) j.after ∙ ap (λ (z : ℕ). z == of_kind) (sym (ap (λ z. kind_of (others (others z))) i.seen
      ∙ (ap (λ z. kind_of (others z)) (w.behind s.source i.first i.shown i.base.live i.seen) ∙ (ap (λ z. kind_of (others (two z))) j.seen ∙ (ap (λ z. kind_of (one z)) (w.behind (m.after s.source) j.first j.shown j.base.live j.seen) ∙ kind_two (m.seen (m.after (m.after s.source))))))))

  await_of_same : (k : Ceiling) (c : Code) (s : State S) (s' : State Input) → Beside m Live k s s' → (starts_await_using lm il c s' && not (kind2 (rest (input lm s')) == of_kind)) ≡ (starts_await_using m im c s && not (kind2 (rest (input m s)) == of_kind))
  await_of_same k c s s' h = and_same (starts_await_using lm il c s') (starts_await_using m im c s) _ _ (await_using_same k c s s' h) (λ y. ap not (third_same k s s' (await_using_joined k c s s' h y) (behind (await_using_joined k c s s' h y) y)))
    where
      behind : Joined m Live k s s' → starts_await_using lm il c s' ≡ true → Joined m Live k (past m s) (past lm s')
      behind j y = using_joined k c (past m s) (past lm s') j.after (and_second (not (brk2 (input lm s'))) (starts_using lm il c (past lm s')) (and_second (not (barred c.context (input lm s'))) (not (brk2 (input lm s')) && starts_using lm il c (past lm s')) (and_second (at lm await_kind s') (not (barred c.context (input lm s')) && (not (brk2 (input lm s')) && starts_using lm il c (past lm s'))) (and_second c.context.in_async (at lm await_kind s' && (not (barred c.context (input lm s')) && (not (brk2 (input lm s')) && starts_using lm il c (past lm s')))) y))))

  -- the words that declare variables
  declares : ℕ → Bool
  declares z = (z == var_kind) || ((z == const_kind) || (z == let_kind))

  head_joined : (k : Ceiling) (s : State S) (s' : State Input) → Beside m Live k s s' → (at lm var_kind s' || (at lm const_kind s' || starts_let lm il s')) ≡ true → Joined m Live k s s'
  unfolding declares
  head_joined k s s' h y = joined_by w declares refl refl k s s' h (less (at lm var_kind s') (at lm const_kind s') (at lm let_kind s') _ y)
    where
      less : (a b d e : Bool) → (a || (b || (d && e))) ≡ true → (a || (b || d)) ≡ true
      less true b d e y = refl
      less false true d e y = refl
      less false false d e y = and_first d e y

  variables_joined : (k : Ceiling) (c : Code) (s : State S) (s' : State Input) → Beside m Live k s s' → starts_variables lm il c s' ≡ true → Joined m Live k s s'
  variables_joined k c s s' h y = head_joined k s s' h (less (at lm var_kind s') c.listed (at lm const_kind s' || starts_let lm il s') y)
    where
      less : (a b d : Bool) → (a || (b && d)) ≡ true → (a || d) ≡ true
      less true b d y = refl
      less false b d y = and_second b d y

  pub initial_pat_told : (k : Ceiling) (c : Code) (ce : c.context.module_ ≡ modular) (startc : Ceiling) (start : State S) (start' : State Input) (starth : Beside m Live startc start start') (p : Tree) (s : State S) (s' : State Input) (sh : Beside m Live k s s') → Told m Live k (initial_pat lm il c (lo (input lm start')) p s') (initial_pat m im c (lo (input m start)) p s)
  unfolding initial_pat
  initial_pat_told k c ce startc start start' starth p s s' sh = told_at w k assign_kind (refl, refl, refl, refl) s s' sh _ _ _ _ (λ j1. told_then w k _ _ _ _ (told.expr k (with_in c) ce assignment_level (past m s) (past lm s') j1.after) (λ e0 e1 e1' e1h. told_ok w k _ _ e1 e1' e1h (ap (λ (z : Span). assign_pat z p e0) (span_same w startc k start e1 start' e1' starth e1h)))) (told_ok w k _ _ s s' sh refl)

  pub after_item_told : (k : Ceiling) (close : ℕ) (shut : Plain close) (last : Bool) (items : List Tree) (s : State S) (s' : State Input) (sh : Beside m Live k s s') → Told m Live k (after_item lm il close last items s') (after_item m im close last items s)
  unfolding after_item
  after_item_told k close shut last items s s' sh = told_if w k _ _ (agree1 w (λ z. at lm comma_kind (on [] 0 z) && not last) (λ p q l v. refl) (λ p q l v. refl) (λ p l v. refl) k s s' sh) _ _ _ _ (λ y1. told_ok w k _ _ (past m s) (past lm s') (joined_at w comma_kind (refl, refl, refl, refl) k s s' sh (and_first (at lm comma_kind s') (not last) y1)).after refl) (λ _. told_eat w k close shut s s' sh _ _ (λ j2. told_ok w k _ _ (past m s) (past lm s') j2.after refl))

  pub array_item_told : (k : Ceiling) (c : Code) (ce : c.context.module_ ≡ modular) (xs : List Tree) (s : State S) (s' : State Input) (sh : Beside m Live k s s') → Told m Live k (array_item lm il c xs s') (array_item m im c xs s)
  unfolding array_item
  array_item_told k c ce xs s s' sh = told_at w k right_bracket_kind (refl, refl, refl, refl) s s' sh _ _ _ _ (λ j1. told_ok w k _ _ (past m s) (past lm s') j1.after refl) (told_at w k comma_kind (refl, refl, refl, refl) s s' sh _ _ _ _ (λ j2. told_ok w k _ _ (past m s) (past lm s') j2.after refl) (told_at w k dot_dot_dot_kind (refl, refl, refl, refl) s s' sh _ _ _ _ (λ j3. told_then w k _ _ _ _ (told.pat k (with_in c) ce (past m s) (past lm s') j3.after) (λ p0 p1 p1' p1h. subst (λ (z : List Tree). Told m Live k (after_item lm il right_bracket_kind true (xs ++ rest_pat (spanned lm (lo (input lm s')) p1') (dots_at (lo (input lm s'))) p0 ∷ []) p1') (after_item m im right_bracket_kind true z p1)) (ap (λ (z : Span). (xs ++ rest_pat z (dots_at (lo (input lm s'))) p0 ∷ [])) (span_same w k k s p1 s' p1' sh p1h) ∙ (ap (λ (z : ℕ). (xs ++ rest_pat (spanned m (lo (input m s)) p1) (dots_at z) p0 ∷ [])) (lo_same w k s s' sh))) (after_item_told k right_bracket_kind (refl, refl, refl, refl) true (xs ++ rest_pat (spanned lm (lo (input lm s')) p1') (dots_at (lo (input lm s'))) p0 ∷ []) p1 p1' p1h))) (told_then w k _ _ _ _ (told.pat k (with_in c) ce s s' sh) (λ p0 p1 p1' p1h. told_then w k _ _ _ _ (initial_pat_told k c ce k s s' sh p0 p1 p1' p1h) (λ q0 q1 q1' q1h. after_item_told k right_bracket_kind (refl, refl, refl, refl) false (xs ++ q0 ∷ []) q1 q1' q1h)))))

  pub array_pat_by_told : (k : Ceiling) (c : Code) (ce : c.context.module_ ≡ modular) (s : State S) (s' : State Input) (sj : Joined m Live k s s') → Told m Live k (array_pat_by lm il c s') (array_pat_by m im c s)
  unfolding array_pat_by
  array_pat_by_told k c ce s s' sj = told_then w k _ _ _ _ (told_iterate w _ _ (λ k2 x1 sx sx' sxh. array_item_told k2 c ce x1 sx sx' sxh) k [] (past m s) (past lm s') sj.after) (λ xs0 xs1 xs1' xs1h. told_ok w k _ _ xs1 xs1' xs1h (ap (λ (z : Span). array_pat z (pack xs0)) (span_same w k k s xs1 s' xs1' sj.base xs1h)))

  pub keyed_item_told : (k : Ceiling) (c : Code) (ce : c.context.module_ ≡ modular) (startc : Ceiling) (start : State S) (start' : State Input) (starth : Beside m Live startc start start') (key : Tree) (s : State S) (s' : State Input) (sh : Beside m Live k s s') → Told m Live k (keyed_item lm il c (lo (input lm start')) key s') (keyed_item m im c (lo (input m start)) key s)
  unfolding keyed_item
  keyed_item_told k c ce startc start start' starth key s s' sh = told_then w k _ _ _ _ (told.pat k (with_in c) ce s s' sh) (λ p0 p1 p1' p1h. told_then w k _ _ _ _ (initial_pat_told k c ce k s s' sh p0 p1 p1' p1h) (λ q0 q1 q1' q1h. told_ok w k _ _ q1 q1' q1h (ap (λ (z : Span). key_value_pat_prop z key q0) (span_same w startc k start q1 start' q1' starth q1h))))

  pub named_item_told : (k : Ceiling) (c : Code) (ce : c.context.module_ ≡ modular) (r : State S) (r' : State Input) (s : State S) (s' : State Input) (sh : Beside m Live k s s') → Told m Live k (named_item lm il c r' s') (named_item m im c r s)
  unfolding named_item
  named_item_told k c ce r r' s s' sh = told_name_of w _ _ k c s s' sh _ _ (λ n0 j1. told_at w k assign_kind (refl, refl, refl, refl) (past m s) (past lm s') j1.after _ _ _ _ (λ j2. told_then w k _ _ _ _ (told.expr k (with_in c) ce assignment_level (past m (past m s)) (past lm (past lm s')) j2.after) (λ e0 e1 e1' e1h. told_ok w k _ _ e1 e1' e1h (ap (λ (z : Span). assign_pat_prop z (binding_ident (first lm il s') (ident (first lm il s') n0)) e0) (span_same w k k s e1 s' e1' sh e1h) ∙ (ap (λ (z : Span). assign_pat_prop (spanned m (lo (input m s)) e1) (binding_ident z (ident z n0)) e0) (first_same w k s s' j1))))) (told_ok w k _ _ (past m s) (past lm s') j1.after (ap (λ (z : Span). assign_pat_prop z (binding_ident z (ident z n0)) absent) (first_same w k s s' j1))))

  pub pattern_prop_told : (k : Ceiling) (c : Code) (ce : c.context.module_ ≡ modular) (s : State S) (s' : State Input) (sh : Beside m Live k s s') → Told m Live k (pattern_prop lm il c s') (pattern_prop m im c s)
  unfolding pattern_prop
  pattern_prop_told k c ce s s' sh = told_then w k _ _ _ _ (key_by_told w told k c ce s s' sh) (λ k0 k1 k1' k1h. told_at w k colon_kind (refl, refl, refl, refl) k1 k1' k1h _ _ _ _ (λ j1. keyed_item_told k c ce k s s' sh k0 (past m k1) (past lm k1') j1.after) (named_item_told k c ce k1 k1' s s' sh))

  pub object_item_told : (k : Ceiling) (c : Code) (ce : c.context.module_ ≡ modular) (xs : List Tree) (s : State S) (s' : State Input) (sh : Beside m Live k s s') → Told m Live k (object_item lm il c xs s') (object_item m im c xs s)
  unfolding object_item
  object_item_told k c ce xs s s' sh = told_at w k right_brace_kind (refl, refl, refl, refl) s s' sh _ _ _ _ (λ j1. told_ok w k _ _ (past m s) (past lm s') j1.after refl) (told_at w k dot_dot_dot_kind (refl, refl, refl, refl) s s' sh _ _ _ _ (λ j2. told_then w k _ _ _ _ (told.pat k (with_in c) ce (past m s) (past lm s') j2.after) (λ p0 p1 p1' p1h. told_if w k (is_structured p0) (is_structured p0) refl _ _ _ _ (λ _. never w k _ _) (λ _. subst (λ (z : List Tree). Told m Live k (after_item lm il right_brace_kind true (xs ++ rest_pat (spanned lm (lo (input lm s')) p1') (dots_at (lo (input lm s'))) p0 ∷ []) p1') (after_item m im right_brace_kind true z p1)) (ap (λ (z : Span). (xs ++ rest_pat z (dots_at (lo (input lm s'))) p0 ∷ [])) (span_same w k k s p1 s' p1' sh p1h) ∙ (ap (λ (z : ℕ). (xs ++ rest_pat (spanned m (lo (input m s)) p1) (dots_at z) p0 ∷ [])) (lo_same w k s s' sh))) (after_item_told k right_brace_kind (refl, refl, refl, refl) true (xs ++ rest_pat (spanned lm (lo (input lm s')) p1') (dots_at (lo (input lm s'))) p0 ∷ []) p1 p1' p1h)))) (told_then w k _ _ _ _ (pattern_prop_told k c ce s s' sh) (λ p0 p1 p1' p1h. after_item_told k right_brace_kind (refl, refl, refl, refl) false (xs ++ p0 ∷ []) p1 p1' p1h)))

  pub object_pat_by_told : (k : Ceiling) (c : Code) (ce : c.context.module_ ≡ modular) (s : State S) (s' : State Input) (sj : Joined m Live k s s') → Told m Live k (object_pat_by lm il c s') (object_pat_by m im c s)
  unfolding object_pat_by
  object_pat_by_told k c ce s s' sj = told_then w k _ _ _ _ (told_iterate w _ _ (λ k2 x1 sx sx' sxh. object_item_told k2 c ce x1 sx sx' sxh) k [] (past m s) (past lm s') sj.after) (λ xs0 xs1 xs1' xs1h. told_ok w k _ _ xs1 xs1' xs1h (ap (λ (z : Span). object_pat z (pack xs0)) (span_same w k k s xs1 s' xs1' sj.base xs1h)))

  pub pat_by_told : (k : Ceiling) (c : Code) (ce : c.context.module_ ≡ modular) (s : State S) (s' : State Input) (sh : Beside m Live k s s') → Told m Live k (pat_by lm il c s') (pat_by m im c s)
  unfolding pat_by
  pat_by_told k c ce s s' sh = told_at w k left_bracket_kind (refl, refl, refl, refl) s s' sh _ _ _ _ (λ j1. array_pat_by_told k c ce s s' j1) (told_at w k left_brace_kind (refl, refl, refl, refl) s s' sh _ _ _ _ (λ j2. object_pat_by_told k c ce s s' j2) (told_name w k c s s' sh _ _ (λ n0 j3. told_ok w k _ _ (past m s) (past lm s') j3.after (ap (λ (z : Span). binding_ident z (ident z n0)) (first_same w k s s' j3)))))

  pub block_step_told : (k : Ceiling) (c : Code) (ce : c.context.module_ ≡ modular) (ss : List Tree) (s : State S) (s' : State Input) (sh : Beside m Live k s s') → Told m Live k (block_step lm il c ss s') (block_step m im c ss s)
  unfolding block_step
  block_step_told k c ce ss s s' sh = told_at w k right_brace_kind (refl, refl, refl, refl) s s' sh _ _ _ _ (λ j1. told_ok w k _ _ (past m s) (past lm s') j1.after refl) (told_then w k _ _ _ _ (told.stmt k (in_list c) ce s s' sh) (λ t0 t1 t1' t1h. told_ok w k _ _ t1 t1' t1h refl))

  pub block_rest_told : (k : Ceiling) (c : Code) (ce : c.context.module_ ≡ modular) (startc : Ceiling) (start : State S) (start' : State Input) (starth : Beside m Live startc start start') (s : State S) (s' : State Input) (sh : Beside m Live k s s') → Told m Live k (block_rest lm il c (lo (input lm start')) s') (block_rest m im c (lo (input m start)) s)
  unfolding block_rest
  block_rest_told k c ce startc start start' starth s s' sh = told_then w k _ _ _ _ (told_iterate w _ _ (λ k2 x1 sx sx' sxh. block_step_told k2 c ce x1 sx sx' sxh) k [] s s' sh) (λ ss0 ss1 ss1' ss1h. told_ok w k _ _ ss1 ss1' ss1h (ap (λ (z : Span). block_stmt z (pack ss0)) (span_same w startc k start ss1 start' ss1' starth ss1h)))

  pub block_by_told : (k : Ceiling) (c : Code) (ce : c.context.module_ ≡ modular) (s : State S) (s' : State Input) (sh : Beside m Live k s s') → Told m Live k (block_by lm il c s') (block_by m im c s)
  unfolding block_by
  block_by_told k c ce s s' sh = told_eat w k left_brace_kind (refl, refl, refl, refl) s s' sh _ _ (λ j1. block_rest_told k c ce k s s' sh (past m s) (past lm s') j1.after)

  pub body_item_told : (k : Ceiling) (b : Body) (be : b.code.context.module_ ≡ modular) (s : State S) (s' : State Input) (sh : Beside m Live k s s') → Told m Live k (body_item lm il b s') (body_item m im b s)
  unfolding body_item
  body_item_told k b be s s' sh = told_then w k _ _ _ _ (told.stmt k (in_list b.code) be s s' sh) (λ t0 t1 t1' t1h. told_if w k (b.starts && is_use_strict t0) (b.starts && is_use_strict t0) refl _ _ _ _ (λ _. told_ok w k _ _ (retold m (((turned_strict b.code).context)) t1) (retold lm (((turned_strict b.code).context)) t1') (turned_beside w (((turned_strict b.code).context)) be k t1 t1' t1h) refl) (λ _. told_ok w k _ _ t1 t1' t1h refl))

  pub body_step_told : (k : Ceiling) (b : Body) (be : b.code.context.module_ ≡ modular) (s : State S) (s' : State Input) (sh : Beside m Live k s s') → Told m Live k (body_step lm il b s') (body_step m im b s)
  unfolding body_step
  body_step_told k b be s s' sh = told_at w k right_brace_kind (refl, refl, refl, refl) s s' sh _ _ _ _ (λ j1. told_ok w k _ _ (past m s) (past lm s') j1.after refl) (body_item_told k b be s s' sh)

  -- The code in which the next statement stands is of a script or of a module still.
  body_step_keeps : (b : Body) (r : State Input) → b.code.context.module_ ≡ modular → Keeps (λ (z : Body). z.code.context.module_ ≡ modular) (body_step lm il b r)
  unfolding body_step body_item
  body_step_keeps b r e = keeps_if (at lm right_brace_kind r) _ _ (record { so = tt }) (keeps_then _ _ (λ t. keeps_if (b.starts && is_use_strict t.0) _ _ (record { so = e }) (record { so = e })))

  pub body_by_told : (k : Ceiling) (c : Code) (ce : c.context.module_ ≡ modular) (s : State S) (s' : State Input) (sh : Beside m Live k s s') → Told m Live k (body_by lm il c s') (body_by m im c s)
  unfolding body_by
  body_by_told k c ce s s' sh = told_eat w k left_brace_kind (refl, refl, refl, refl) s s' sh _ _ (λ j1. told_then w k _ _ _ _ (told_iterate_in w (λ (z : Body). z.code.context.module_ ≡ modular) _ _ (λ k2 x2 sx sx' inv sxh. body_step_told k2 x2 inv sx sx' sxh) (λ x2 r' inv. body_step_keeps x2 r' inv) k (record { items = []; code = c; starts = true }) (past m s) (past lm s') ce j1.after) (λ b0 b1 b1' b1h. told_ok w k _ _ (retold m (c.context) b1) (retold lm (c.context) b1') (turned_beside w (c.context) ce k b1 b1' b1h) (ap (λ (z : Span). block_stmt z (pack b0.items)) (span_same w k k s b1 s' b1' sh b1h))))

  pub declarator_by_told : (k : Ceiling) (c : Code) (ce : c.context.module_ ≡ modular) (s : State S) (s' : State Input) (sh : Beside m Live k s s') → Told m Live k (declarator_by lm il c s') (declarator_by m im c s)
  unfolding declarator_by
  declarator_by_told k c ce s s' sh = told_then w k _ _ _ _ (told.pat k c ce s s' sh) (λ p0 p1 p1' p1h. told_at w k assign_kind (refl, refl, refl, refl) p1 p1' p1h _ _ _ _ (λ j1. told_then w k _ _ _ _ (told.expr k c ce assignment_level (past m p1) (past lm p1') j1.after) (λ e0 e1 e1' e1h. told_ok w k _ _ e1 e1' e1h (ap (λ (z : Span). var_declarator z p0 e0) (span_same w k k s e1 s' e1' sh e1h)))) (told_ok w k _ _ p1 p1' p1h (ap (λ (z : Span). var_declarator z p0 absent) (span_same w k k s p1 s' p1' sh p1h))))

  pub declarator_step_told : (k : Ceiling) (c : Code) (ce : c.context.module_ ≡ modular) (ds : List Tree) (s : State S) (s' : State Input) (sh : Beside m Live k s s') → Told m Live k (declarator_step lm il c ds s') (declarator_step m im c ds s)
  unfolding declarator_step
  declarator_step_told k c ce ds s s' sh = told_then w k _ _ _ _ (declarator_by_told k c ce s s' sh) (λ d0 d1 d1' d1h. told_at w k comma_kind (refl, refl, refl, refl) d1 d1' d1h _ _ _ _ (λ j1. told_ok w k _ _ (past m d1) (past lm d1') j1.after refl) (told_ok w k _ _ d1 d1' d1h refl))

  pub declarators_by_told : (k : Ceiling) (c : Code) (ce : c.context.module_ ≡ modular) (s : State S) (s' : State Input) (sh : Beside m Live k s s') → Told m Live k (declarators_by lm il c s') (declarators_by m im c s)
  unfolding declarators_by
  declarators_by_told k c ce s s' sh = told_iterate w _ _ (λ k2 x1 sx sx' sxh. declarator_step_told k2 c ce x1 sx sx' sxh) k [] s s' sh

  pub variables_by_told : (k : Ceiling) (c : Code) (ce : c.context.module_ ≡ modular) (s : State S) (s' : State Input) (sj : Joined m Live k s s') → Told m Live k (variables_by lm il c s') (variables_by m im c s)
  unfolding variables_by
  variables_by_told k c ce s s' sj = told_own w k c s s' sj _ _ (told_then w k _ _ _ _ (declarators_by_told k c ce (past m s) (past lm s') sj.after) (λ ds0 ds1 ds1' ds1h. told_end w k c _ _ refl ds1 ds1' ds1h _ _ (λ e1 e1' e1h. told_ok w k _ _ e1 e1' e1h (ap (λ (z : Span). var_decl z (kind (input lm s')) (pack ds0)) (span_same w k k s e1 s' e1' sj.base e1h) ∙ (ap (λ (z : ℕ). var_decl (spanned m (lo (input m s)) e1) z (pack ds0)) (kind_as w k s s' sj))))))

  pub using_by_told : (k : Ceiling) (c : Code) (ce : c.context.module_ ≡ modular) (startc : Ceiling) (start : State S) (start' : State Input) (starth : Beside m Live startc start start') (awaits : Bool) (s : State S) (s' : State Input) (sh : Beside m Live k s s') → Told m Live k (using_by lm il c (lo (input lm start')) awaits s') (using_by m im c (lo (input m start)) awaits s)
  unfolding using_by
  using_by_told k c ce startc start start' starth awaits s s' sh = told_word w k c using_kind (refl, refl, refl, refl) s s' sh _ _ (λ j1. told_then w k _ _ _ _ (declarators_by_told k c ce (past m s) (past lm s') j1.after) (λ ds0 ds1 ds1' ds1h. told_end w k c _ _ refl ds1 ds1' ds1h _ _ (λ e1 e1' e1h. told_ok w k _ _ e1 e1' e1h (ap (λ (z : Span). using_decl z awaits (pack ds0)) (span_same w startc k start e1 start' e1' starth e1h)))))

  pub function_decl_by_told : (k : Ceiling) (c : Code) (ce : c.context.module_ ≡ modular) (startc : Ceiling) (start : State S) (start' : State Input) (starth : Beside m Live startc start start') (async : Bool) (s : State S) (s' : State Input) (sh : Beside m Live k s s') → Told m Live k (function_decl_by lm il c (lo (input lm start')) async s') (function_decl_by m im c (lo (input m start)) async s)
  unfolding function_decl_by
  function_decl_by_told k c ce startc start start' starth async s s' sh = told_word w k c function_kind (refl, refl, refl, refl) s s' sh _ _ (λ j1. told_then w k _ _ _ _ (star_told w told k (past m s) (past lm s') j1.after) (λ g0 g1 g1' g1h. told_name w k c g1 g1' g1h _ _ (λ n0 j2. told_then w k _ _ _ _ (subst (λ (z : ℕ). Told m Live k (function_by lm il c (lo (input lm start')) g0 async (past lm g1')) (function_by m im c z g0 async (past m g1))) (ap (λ (z : ℕ). z) (lo_same w startc start start' starth)) (function_by_told w told k c ce (lo (input lm start')) g0 async (past m g1) (past lm g1') j2.after)) (λ f0 f1 f1' f1h. told_ok w k _ _ f1 f1' f1h (ap (λ (z : Span). fn_decl z (ident (first lm il g1') n0) f0) (span_same w startc k start f1 start' f1' starth f1h) ∙ (ap (λ (z : Span). fn_decl (spanned m (lo (input m start)) f1) (ident z n0) f0) (first_same w k g1 g1' j2)))))))

  pub class_decl_by_told : (k : Ceiling) (c : Code) (ce : c.context.module_ ≡ modular) (s : State S) (s' : State Input) (sh : Beside m Live k s s') → Told m Live k (class_decl_by lm il c s') (class_decl_by m im c s)
  unfolding class_decl_by
  class_decl_by_told k c ce s s' sh = told_word w k c class_kind (refl, refl, refl, refl) s s' sh _ _ (λ j1. told_name w k (turned_strict c) (past m s) (past lm s') j1.after _ _ (λ n0 j2. told_then w k _ _ _ _ (subst (λ (z : ℕ). Told m Live k (il.class_tail (turned_strict (with_in c)) (lo (input lm s')) (past lm (past lm s'))) (im.class_tail (turned_strict (with_in c)) z (past m (past m s)))) (ap (λ (z : ℕ). z) (lo_same w k s s' sh)) (told.class_tail k (turned_strict (with_in c)) ce (lo (input lm s')) (past m (past m s)) (past lm (past lm s')) j2.after)) (λ k0 k1 k1' k1h. told_ok w k _ _ k1 k1' k1h (ap (λ (z : Span). class_decl z (ident (first lm il (past lm s')) n0) k0) (span_same w k k s k1 s' k1' sh k1h) ∙ (ap (λ (z : Span). class_decl (spanned m (lo (input m s)) k1) (ident z n0) k0) (first_same w k (past m s) (past lm s') j2))))))

  pub field_value_told : (k : Ceiling) (c : Code) (ce : c.context.module_ ≡ modular) (e : ℕ) (s : State S) (s' : State Input) (sh : Beside m Live k s s') → Told m Live k (field_value lm il c e s') (field_value m im c e s)
  unfolding field_value
  field_value_told k c ce e s s' sh = told_at w k assign_kind (refl, refl, refl, refl) s s' sh _ _ _ _ (λ j1. told_then w k _ _ _ _ (told.expr k (in_field c) ce assignment_level (past m s) (past lm s') j1.after) (λ v0 v1 v1' v1h. told_end w k c _ _ refl v1 v1' v1h _ _ (λ r1 r1' r1h. told_ok w k _ _ r1 r1' r1h refl))) (told_end w k c _ _ refl s s' sh _ _ (λ r1 r1' r1h. told_ok w k _ _ r1 r1' r1h refl))

  pub class_key_told : (k : Ceiling) (c : Code) (ce : c.context.module_ ≡ modular) (s : State S) (s' : State Input) (sh : Beside m Live k s s') → Told m Live k (class_key lm il c s') (class_key m im c s)
  unfolding class_key
  class_key_told k c ce s s' sh = told_at w k hash_kind (refl, refl, refl, refl) s s' sh _ _ _ _ (λ j1. private_by_told w told k s s' sh) (key_by_told w told k c ce s s' sh)

  pub class_method_by_told : (k : Ceiling) (c : Code) (ce : c.context.module_ ≡ modular) (startc : Ceiling) (start : State S) (start' : State Input) (starth : Beside m Live startc start start') (is_static : Bool) (generator : Bool) (async : Bool) (key : Tree) (s : State S) (s' : State Input) (sh : Beside m Live k s s') → Told m Live k (class_method_by lm il c (lo (input lm start')) is_static generator async key s') (class_method_by m im c (lo (input m start)) is_static generator async key s)
  unfolding class_method_by
  class_method_by_told k c ce startc start start' starth is_static generator async key s s' sh = told_then w k _ _ _ _ (subst (λ (z : ℕ). Told m Live k (function_by lm il c (lo (input lm start')) generator async s') (function_by m im c z generator async s)) (lo_same w startc start start' starth) (function_by_told w told k c ce (lo (input lm start')) generator async s s' sh))
      (λ f0 f1 f1' f1h. told_if w k (constructs key && (not is_static && (not generator && not async))) (constructs key && (not is_static && (not generator && not async))) refl _ _ _ _
      (λ _. told_ok w k _ _ f1 f1' f1h (ap (λ (z : Span). constructor_of lm il z key f0) (span_same w startc k start f1 start' f1' starth f1h) ∙ same_constructor m im il (spanned m (lo (input m start)) f1) key f0))
      (λ _. told_ok w k _ _ f1 f1' f1h (ap (λ (z : Span). method_tree m im z key f0 plain_method is_static) (span_same w startc k start f1 start' f1' starth f1h))))

  pub class_getter_told : (k : Ceiling) (c : Code) (ce : c.context.module_ ≡ modular) (startc : Ceiling) (start : State S) (start' : State Input) (starth : Beside m Live startc start start') (is_static : Bool) (s : State S) (s' : State Input) (sj : Joined m Live k s s') → Told m Live k (class_getter lm il c (lo (input lm start')) is_static s') (class_getter m im c (lo (input m start)) is_static s)
  unfolding class_getter
  class_getter_told k c ce startc start start' starth is_static s s' sj = told_then w k _ _ _ _ (class_key_told k c ce (past m s) (past lm s') sj.after) (λ k0 k1 k1' k1h. told_eat w k left_paren_kind (refl, refl, refl, refl) k1 k1' k1h _ _ (λ j1. told_eat w k right_paren_kind (refl, refl, refl, refl) (past m k1) (past lm k1') j1.after _ _ (λ j2. told_then w k _ _ _ _ (told.body k (in_body false false c) ce (past m (past m k1)) (past lm (past lm k1')) j2.after) (λ b0 b1 b1' b1h. told_ok w k _ _ b1 b1' b1h (ap (λ (z : Span). method_tree m im z k0 (function z none none b0 false false) get_kind is_static) (span_same w startc k start b1 start' b1' starth b1h))))))

  pub class_setter_told : (k : Ceiling) (c : Code) (ce : c.context.module_ ≡ modular) (startc : Ceiling) (start : State S) (start' : State Input) (starth : Beside m Live startc start start') (is_static : Bool) (s : State S) (s' : State Input) (sj : Joined m Live k s s') → Told m Live k (class_setter lm il c (lo (input lm start')) is_static s') (class_setter m im c (lo (input m start)) is_static s)
  unfolding class_setter
  class_setter_told k c ce startc start start' starth is_static s s' sj = told_then w k _ _ _ _ (class_key_told k c ce (past m s) (past lm s') sj.after) (λ k0 k1 k1' k1h. told_then w k _ _ _ _ (setter_parameter_told w told k (in_body false false c) ce k1 k1' k1h) (λ p0 p1 p1' p1h. told_then w k _ _ _ _ (told.body k (in_body false false c) ce p1 p1' p1h) (λ b0 b1 b1' b1h. told_ok w k _ _ b1 b1' b1h (ap (λ (z : Span). method_tree m im z k0 (function z (more p0 none) none b0 false false) set_kind is_static) (span_same w startc k start b1 start' b1' starth b1h)))))

  pub accessor_by_told : (k : Ceiling) (c : Code) (ce : c.context.module_ ≡ modular) (startc : Ceiling) (start : State S) (start' : State Input) (starth : Beside m Live startc start start') (is_static : Bool) (s : State S) (s' : State Input) (sj : Joined m Live k s s') → Told m Live k (accessor_by lm il c (lo (input lm start')) is_static s') (accessor_by m im c (lo (input m start)) is_static s)
  unfolding accessor_by
  accessor_by_told k c ce startc start start' starth is_static s s' sj = told_then w k _ _ _ _ (class_key_told k c ce (past m s) (past lm s') sj.after) (λ k0 k1 k1' k1h. told_then w k _ _ _ _ (field_value_told k c ce key_end k1 k1' k1h) (λ v0 v1 v1' v1h. told_ok w k _ _ v1 v1' v1h (ap (λ (z : Span). auto_accessor z k0 v0 is_static none) (span_same w startc k start v1 start' v1' starth v1h))))

  pub field_or_method_told : (k : Ceiling) (c : Code) (ce : c.context.module_ ≡ modular) (startc : Ceiling) (start : State S) (start' : State Input) (starth : Beside m Live startc start start') (is_static : Bool) (s : State S) (s' : State Input) (sh : Beside m Live k s s') → Told m Live k (field_or_method lm il c (lo (input lm start')) is_static s') (field_or_method m im c (lo (input m start)) is_static s)
  unfolding field_or_method
  field_or_method_told k c ce startc start start' starth is_static s s' sh = told_then w k _ _ _ _ (class_key_told k c ce s s' sh) (λ k0 k1 k1' k1h. told_at w k left_paren_kind (refl, refl, refl, refl) k1 k1' k1h _ _ _ _ (λ j1. class_method_by_told k c ce startc start start' starth is_static false false k0 k1 k1' k1h) (told_then w k _ _ _ _ (subst (λ (z : ℕ). Told m Live k (field_value lm il c (field_end is_static (kind (input lm s'))) k1') (field_value m im c z k1)) (ap (λ (z : ℕ). z) (agree1 w (λ z. field_end is_static (kind_of z)) (λ p q l v. refl) (λ p q l v. refl) (λ p l v. refl) k s s' sh)) (field_value_told k c ce (field_end is_static (kind (input lm s'))) k1 k1' k1h)) (λ v0 v1 v1' v1h. told_if w k (is_private k0) (is_private k0) refl _ _ _ _ (λ _. told_ok w k _ _ v1 v1' v1h (ap (λ (z : Span). private_prop z k0 v0 is_static none) (span_same w startc k start v1 start' v1' starth v1h))) (λ _. told_ok w k _ _ v1 v1' v1h (ap (λ (z : Span). class_prop z k0 v0 is_static none) (span_same w startc k start v1 start' v1' starth v1h))))))

  pub generator_member_told : (k : Ceiling) (c : Code) (ce : c.context.module_ ≡ modular) (startc : Ceiling) (start : State S) (start' : State Input) (starth : Beside m Live startc start start') (is_static : Bool) (async : Bool) (s : State S) (s' : State Input) (sh : Beside m Live k s s') → Told m Live k (generator_member lm il c (lo (input lm start')) is_static async s') (generator_member m im c (lo (input m start)) is_static async s)
  unfolding generator_member
  generator_member_told k c ce startc start start' starth is_static async s s' sh = told_then w k _ _ _ _ (star_told w told k s s' sh) (λ g0 g1 g1' g1h. told_then w k _ _ _ _ (class_key_told k c ce g1 g1' g1h) (λ k0 k1 k1' k1h. class_method_by_told k c ce startc start start' starth is_static g0 async k0 k1 k1' k1h))

  pub member_rest_told : (k : Ceiling) (c : Code) (ce : c.context.module_ ≡ modular) (startc : Ceiling) (start : State S) (start' : State Input) (starth : Beside m Live startc start start') (is_static : Bool) (s : State S) (s' : State Input) (sh : Beside m Live k s s') → Told m Live k (member_rest lm il c (lo (input lm start')) is_static s') (member_rest m im c (lo (input m start)) is_static s)
  unfolding member_rest
  member_rest_told k c ce startc start start' starth is_static s s' sh = told_at w k mul_kind (refl, refl, refl, refl) s s' sh _ _ _ _ (λ j1. generator_member_told k c ce startc start start' starth is_static false s s' sh) (told_if w k _ _ (agree2 w (λ z. is_async_head lm il (on [] 0 z)) (λ p q l v. refl) (λ p q l v. refl) (λ n p q l v. refl) (λ n p q l v. refl) (λ n p l v. refl) k s s' sh) _ _ _ _ (λ y2. generator_member_told k c ce startc start start' starth is_static true (past m s) (past lm s') (joined_at w async_kind (refl, refl, refl, refl) k s s' sh (and_first _ _ y2)).after) (λ _. told_if w k _ _ (agree2 w (λ z. at lm get_kind (on [] 0 z) && starts_key (kind2 (input lm (on [] 0 z)))) (λ p q l v. refl) (λ p q l v. refl) (λ n p q l v. refl) (λ n p q l v. refl) (λ n p l v. refl) k s s' sh) _ _ _ _ (λ y3. class_getter_told k c ce startc start start' starth is_static s s' (joined_at w get_kind (refl, refl, refl, refl) k s s' sh (and_first (at lm get_kind s') (starts_key (kind2 (input lm s'))) y3))) (λ _. told_if w k _ _ (agree2 w (λ z. at lm set_kind (on [] 0 z) && starts_key (kind2 (input lm (on [] 0 z)))) (λ p q l v. refl) (λ p q l v. refl) (λ n p q l v. refl) (λ n p q l v. refl) (λ n p l v. refl) k s s' sh) _ _ _ _ (λ y4. class_setter_told k c ce startc start start' starth is_static s s' (joined_at w set_kind (refl, refl, refl, refl) k s s' sh (and_first (at lm set_kind s') (starts_key (kind2 (input lm s'))) y4))) (λ _. told_if w k _ _ (agree2 w (λ z. c.syntax.auto_accessors && (at lm accessor_kind (on [] 0 z) && (starts_key (kind2 (input lm (on [] 0 z))) && not (brk2 (input lm (on [] 0 z)))))) (λ p q l v. refl) (λ p q l v. refl) (λ n p q l v. refl) (λ n p q l v. refl) (λ n p l v. refl) k s s' sh) _ _ _ _ (λ y5. accessor_by_told k c ce startc start start' starth is_static s s' (joined_at w accessor_kind (refl, refl, refl, refl) k s s' sh (and_first (at lm accessor_kind s') ((starts_key (kind2 (input lm s')) && not (brk2 (input lm s')))) (and_second (c.syntax.auto_accessors) ((at lm accessor_kind s' && (starts_key (kind2 (input lm s')) && not (brk2 (input lm s'))))) y5)))) (λ _. field_or_method_told k c ce startc start start' starth is_static s s' sh)))))

  pub static_by_told : (k : Ceiling) (c : Code) (ce : c.context.module_ ≡ modular) (s : State S) (s' : State Input) (sh : Beside m Live k s s') → Told m Live k (static_by lm il c s') (static_by m im c s)
  unfolding static_by
  static_by_told k c ce s s' sh = told_word w k c static_kind (refl, refl, refl, refl) s s' sh _ _ (λ j1. told_at w k left_brace_kind (refl, refl, refl, refl) (past m s) (past lm s') j1.after _ _ _ _ (λ j2. told_then w k _ _ _ _ (block_rest_told k (in_static c) ce k (past m s) (past lm s') j1.after (past m (past m s)) (past lm (past lm s')) j2.after) (λ b0 b1 b1' b1h. told_ok w k _ _ b1 b1' b1h (ap (λ (z : Span). static_block z b0) (span_same w k k s b1 s' b1' sh b1h)))) (member_rest_told k c ce k s s' sh true (past m s) (past lm s') j1.after))

  pub member_step_told : (k : Ceiling) (c : Code) (ce : c.context.module_ ≡ modular) (ms : List Tree) (s : State S) (s' : State Input) (sh : Beside m Live k s s') → Told m Live k (member_step lm il c ms s') (member_step m im c ms s)
  unfolding member_step
  member_step_told k c ce ms s s' sh = told_at w k right_brace_kind (refl, refl, refl, refl) s s' sh _ _ _ _ (λ j1. told_ok w k _ _ (past m s) (past lm s') j1.after refl) (told_at w k semicolon_kind (refl, refl, refl, refl) s s' sh _ _ _ _ (λ j2. told_ok w k _ _ (past m s) (past lm s') j2.after (ap (λ (z : Span). go_on (ms ++ empty_stmt z ∷ [])) (first_same w k s s' j2))) (told_if w k _ _ (agree2 w (λ z. starts_static lm il (on [] 0 z)) (λ p q l v. refl) (λ p q l v. refl) (λ n p q l v. refl) (λ n p q l v. refl) (λ n p l v. refl) k s s' sh) _ _ _ _ (λ y3. told_then w k _ _ _ _ (static_by_told k c ce s s' sh) (λ x0 x1 x1' x1h. told_ok w k _ _ x1 x1' x1h refl)) (λ _. told_then w k _ _ _ _ (member_rest_told k c ce k s s' sh false s s' sh) (λ x0 x1 x1' x1h. told_ok w k _ _ x1 x1' x1h refl))))

  pub members_by_told : (k : Ceiling) (c : Code) (ce : c.context.module_ ≡ modular) (whole : ℕ) (super_class : Tree) (s : State S) (s' : State Input) (sh : Beside m Live k s s') → Told m Live k (members_by lm il c whole super_class s') (members_by m im c whole super_class s)
  unfolding members_by
  members_by_told k c ce whole super_class s s' sh = told_eat w k left_brace_kind (refl, refl, refl, refl) s s' sh _ _ (λ j1. told_then w k _ _ _ _ (told_iterate w _ _ (λ k2 x2 sx sx' sxh. member_step_told k2 c ce x2 sx sx' sxh) k [] (past m s) (past lm s') j1.after) (λ ms0 ms1 ms1' ms1h. told_ok w k _ _ ms1 ms1' ms1h (ap (λ (z : ℕ). class (span whole z) none (pack ms0) super_class) (sym ms1h.last))))

  pub class_tail_by_told : (k : Ceiling) (c : Code) (ce : c.context.module_ ≡ modular) (whole : ℕ) (s : State S) (s' : State Input) (sh : Beside m Live k s s') → Told m Live k (class_tail_by lm il c whole s') (class_tail_by m im c whole s)
  unfolding class_tail_by
  class_tail_by_told k c ce whole s s' sh = told_at w k extends_kind (refl, refl, refl, refl) s s' sh _ _ _ _ (λ j1. told_word w k c extends_kind (refl, refl, refl, refl) s s' sh _ _ (λ j2. told_then w k _ _ _ _ (told.expr k c ce new_level (past m s) (past lm s') j2.after) (λ e0 e1 e1' e1h. members_by_told k c ce whole e0 e1 e1' e1h))) (members_by_told k c ce whole absent s s' sh)

  pub in_parens_told : (k : Ceiling) (c : Code) (ce : c.context.module_ ≡ modular) (s : State S) (s' : State Input) (sh : Beside m Live k s s') → Told m Live k (in_parens lm il c s') (in_parens m im c s)
  unfolding in_parens
  in_parens_told k c ce s s' sh = told_eat w k left_paren_kind (refl, refl, refl, refl) s s' sh _ _ (λ j1. told_then w k _ _ _ _ (told.expr k c ce expression_level (past m s) (past lm s') j1.after) (λ e0 e1 e1' e1h. told_eat w k right_paren_kind (refl, refl, refl, refl) e1 e1' e1h _ _ (λ j2. told_ok w k _ _ (past m e1) (past lm e1') j2.after refl)))

  pub sub_by_told : (k : Ceiling) (c : Code) (ce : c.context.module_ ≡ modular) (functions : Bool) (s : State S) (s' : State Input) (sh : Beside m Live k s s') → Told m Live k (sub_by lm il c functions s') (sub_by m im c functions s)
  unfolding sub_by
  sub_by_told k c ce functions s s' sh = told_then w k _ _ _ _ (told.stmt k (alone c) ce s s' sh) (λ t0 t1 t1' t1h. told_if w k (is_statement t0 || (functions && (not (is_strict c) && is_plain_function t0))) (is_statement t0 || (functions && (not (is_strict c) && is_plain_function t0))) refl _ _ _ _ (λ _. told_ok w k _ _ t1 t1' t1h refl) (λ _. never w k _ _))

  pub with_by_told : (k : Ceiling) (c : Code) (ce : c.context.module_ ≡ modular) (s : State S) (s' : State Input) (sh : Beside m Live k s s') → Told m Live k (with_by lm il c s') (with_by m im c s)
  unfolding with_by
  with_by_told k c ce s s' sh = told_word w k c with_kind (refl, refl, refl, refl) s s' sh _ _ (λ j1. told_then w k _ _ _ _ (in_parens_told k c ce (past m s) (past lm s') j1.after) (λ e0 e1 e1' e1h. told_then w k _ _ _ _ (sub_by_told k c ce false e1 e1' e1h) (λ b0 b1 b1' b1h. told_ok w k _ _ b1 b1' b1h (ap (λ (z : Span). with_stmt z e0 b0) (span_same w k k s b1 s' b1' sh b1h)))))

  pub while_by_told : (k : Ceiling) (c : Code) (ce : c.context.module_ ≡ modular) (s : State S) (s' : State Input) (sh : Beside m Live k s s') → Told m Live k (while_by lm il c s') (while_by m im c s)
  unfolding while_by
  while_by_told k c ce s s' sh = told_word w k c while_kind (refl, refl, refl, refl) s s' sh _ _ (λ j1. told_then w k _ _ _ _ (in_parens_told k c ce (past m s) (past lm s') j1.after) (λ e0 e1 e1' e1h. told_then w k _ _ _ _ (sub_by_told k c ce false e1 e1' e1h) (λ b0 b1 b1' b1h. told_ok w k _ _ b1 b1' b1h (ap (λ (z : Span). while_stmt z e0 b0) (span_same w k k s b1 s' b1' sh b1h)))))

  pub do_by_told : (k : Ceiling) (c : Code) (ce : c.context.module_ ≡ modular) (s : State S) (s' : State Input) (sh : Beside m Live k s s') → Told m Live k (do_by lm il c s') (do_by m im c s)
  unfolding do_by
  do_by_told k c ce s s' sh = told_word w k c do_kind (refl, refl, refl, refl) s s' sh _ _ (λ j1. told_then w k _ _ _ _ (sub_by_told k c ce false (past m s) (past lm s') j1.after) (λ b0 b1 b1' b1h. told_word w k c while_kind (refl, refl, refl, refl) b1 b1' b1h _ _ (λ j2. told_then w k _ _ _ _ (in_parens_told k c ce (past m b1) (past lm b1') j2.after) (λ e0 e1 e1' e1h. told_at w k semicolon_kind (refl, refl, refl, refl) e1 e1' e1h _ _ _ _ (λ j3. told_ok w k _ _ (past m e1) (past lm e1') j3.after (ap (λ (z : Span). do_while_stmt z e0 b0) (span_same w k k s (past m e1) s' (past lm e1') sh j3.after))) (told_ok w k _ _ e1 e1' e1h (ap (λ (z : Span). do_while_stmt z e0 b0) (span_same w k k s e1 s' e1' sh e1h)))))))

  else_refused : (x : Chain) (r : State Input) → is_slash (kind (input lm r)) ≡ true → Refused (else_by lm il x r)
  unfolding else_by sub_by
  else_refused x r e = at_slash (λ z. is_slash (kind (input lm z)) ≡ true → Refused (else_by lm il x z)) (λ o n p l i. refused_then _ _ (refused_then _ _ (told.no_stmt (alone x.code) (on o n (kinded div_assign_kind p ∷ l)) i)))
      (λ o n p l i. refused_then _ _ (refused_then _ _ (told.no_stmt (alone x.code) (on o n (kinded div_kind p ∷ l)) i))) r e e

  pub else_by_told : (k : Ceiling) (x : Chain) (xe : x.code.context.module_ ≡ modular) (s : State S) (s' : State Input) (sh : Beside m Live k s s') → Told m Live k (else_by lm il x s') (else_by m im x s)
  unfolding else_by
  else_by_told k x xe s s' sh = told_operand w k s s' sh (λ e. told_refused m Live k _ _ (else_refused x s' e)) (λ oh fresh. told_at w k if_kind (refl, refl, refl, refl) (operand m s) s' oh _ _ _ _ (λ j. told_ok w k _ _ (operand m s) s' oh refl)
      (told_then w k _ _ _ _ (sub_by_told k x.code xe true s s' sh) (λ b0 b1 b1' b1h. told_ok w k _ _ b1 b1' b1h refl)))

  pub if_step_told : (k : Ceiling) (x : Chain) (xe : x.code.context.module_ ≡ modular) (s : State S) (s' : State Input) (sh : Beside m Live k s s') → Told m Live k (if_step lm il x s') (if_step m im x s)
  unfolding if_step
  if_step_told k x xe s s' sh = told_word w k x.code if_kind (refl, refl, refl, refl) s s' sh _ _ (λ j1. told_then w k _ _ _ _ (in_parens_told k x.code xe (past m s) (past lm s') j1.after) (λ e0 e1 e1' e1h. told_then w k _ _ _ _ (sub_by_told k x.code xe true e1 e1' e1h) (λ a0 a1 a1' a1h. told_at w k else_kind (refl, refl, refl, refl) a1 a1' a1h _ _ _ _ (λ j2. told_word w k x.code else_kind (refl, refl, refl, refl) a1 a1' a1h _ _ (λ j3. subst (λ (z : Chain). Told m Live k (else_by lm il (branched lm il (lo (input lm s')) x e0 a0) (past lm a1')) (else_by m im z (past m a1))) (ap (λ (z : Chain). z) (ap (λ (z : ℕ). record { branches = x.branches ++ record { start = z; test = e0; consequent = a0 } ∷ []; code = x.code; last = absent }) (lo_same w k s s' sh))) (else_by_told k (branched lm il (lo (input lm s')) x e0 a0) xe (past m a1) (past lm a1') j3.after))) (told_ok w k _ _ a1 a1' a1h (ap (λ (z : Chain). finished z) (ap (λ (z : ℕ). record { branches = x.branches ++ record { start = z; test = e0; consequent = a0 } ∷ []; code = x.code; last = absent }) (lo_same w k s s' sh)))))))

  else_by_keeps : (x : Chain) (r : State Input) → x.code.context.module_ ≡ modular → Keeps (λ (z : Chain). z.code.context.module_ ≡ modular) (else_by lm il x r)
  unfolding else_by
  else_by_keeps x r e = keeps_if (at lm if_kind (operand lm r)) _ _ (record { so = e }) (keeps_then (sub_by lm il x.code true r) (λ b. Ok (finished (record { branches = x.branches; code = x.code; last = b.0 }), b.1)) (λ b. record { so = tt }))

  if_step_keeps : (x : Chain) (r : State Input) → x.code.context.module_ ≡ modular → Keeps (λ (z : Chain). z.code.context.module_ ≡ modular) (if_step lm il x r)
  unfolding if_step eat_word
  if_step_keeps x r e = keeps_word x.code.context if_kind r _ (λ o. keeps_then (in_parens lm il x.code o) _ (λ i. keeps_then (sub_by lm il x.code true i.1) _ (λ a. keeps_if (at lm else_kind a.1) _ _ (keeps_word x.code.context else_kind a.1 _ (λ q. else_by_keeps (branched lm il (lo (input lm r)) x i.0 a.0) q e)) (record { so = tt }))))
    where
      keeps_word : (c : Context) (j : ℕ) (r : State Input) (f : State Input → Result (Step Chain × State Input) Fault) → ((q : State Input) → Keeps (λ (z : Chain). z.code.context.module_ ≡ modular) (f q)) → Keeps (λ (z : Chain). z.code.context.module_ ≡ modular) ((if at lm j r && not (barred c (input lm r)) then Ok (past lm r) else unexpected lm r) >>= f)
      keeps_word c j r f h = by_test (at lm j r && not (barred c (input lm r)))
        where
          by_test : (b : Bool) → Keeps (λ (z : Chain). z.code.context.module_ ≡ modular) (cond b (Ok (past lm r)) (unexpected lm r) >>= f)
          by_test true = h (past lm r)
          by_test false = record { so = tt }

  pub if_by_told : (k : Ceiling) (c : Code) (ce : c.context.module_ ≡ modular) (s : State S) (s' : State Input) (sh : Beside m Live k s s') → Told m Live k (if_by lm il c s') (if_by m im c s)
  unfolding if_by
  if_by_told k c ce s s' sh = told_then w k _ _ _ _ (told_iterate_in w (λ (z : Chain). z.code.context.module_ ≡ modular) _ _ (λ k2 x1 sx sx' inv sxh. if_step_told k2 x1 inv sx sx' sxh) (λ x1 r' inv. if_step_keeps x1 r' inv) k (record { branches = []; code = c; last = absent }) s s' ce sh) (λ x0 x1 x1' x1h. told_ok w k _ _ x1 x1' x1h (ap (λ (z : ℕ). chained z x0.branches x0.last) (sym x1h.last)))

  pub return_by_told : (k : Ceiling) (c : Code) (ce : c.context.module_ ≡ modular) (s : State S) (s' : State Input) (sh : Beside m Live k s s') → Told m Live k (return_by lm il c s') (return_by m im c s)
  unfolding return_by
  return_by_told k c ce s s' sh = told_word w k c return_kind (refl, refl, refl, refl) s s' sh _ _ (λ j1. told_if w k _ _ (agree1 w (λ z. ends_here lm il c (on [] 0 z)) (λ p q l v. refl) (λ p q l v. refl) (λ p l v. refl) k (past m s) (past lm s') j1.after) _ _ _ _ (λ y2. told_end w k c _ _ refl (past m s) (past lm s') j1.after _ _ (λ e1 e1' e1h. told_ok w k _ _ e1 e1' e1h (ap (λ (z : Span). return_stmt z absent) (span_same w k k s e1 s' e1' sh e1h)))) (λ _. told_then w k _ _ _ _ (told.expr k c ce expression_level (past m s) (past lm s') j1.after) (λ x0 x1 x1' x1h. told_end w k c _ _ refl x1 x1' x1h _ _ (λ e1 e1' e1h. told_ok w k _ _ e1 e1' e1h (ap (λ (z : Span). return_stmt z x0) (span_same w k k s e1 s' e1' sh e1h))))))

  pub throw_by_told : (k : Ceiling) (c : Code) (ce : c.context.module_ ≡ modular) (s : State S) (s' : State Input) (sh : Beside m Live k s s') → Told m Live k (throw_by lm il c s') (throw_by m im c s)
  unfolding throw_by
  throw_by_told k c ce s s' sh = told_word w k c throw_kind (refl, refl, refl, refl) s s' sh _ _ (λ j1. told_if w k _ _ (agree1 w (λ z. brk (input lm (on [] 0 z))) (λ p q l v. refl) (λ p q l v. refl) (λ p l v. refl) k (past m s) (past lm s') j1.after) _ _ _ _ (λ y2. never w k _ _) (λ _. told_then w k _ _ _ _ (told.expr k c ce expression_level (past m s) (past lm s') j1.after) (λ x0 x1 x1' x1h. told_end w k c _ _ refl x1 x1' x1h _ _ (λ e1 e1' e1h. told_ok w k _ _ e1 e1' e1h (ap (λ (z : Span). throw_stmt z x0) (span_same w k k s e1 s' e1' sh e1h))))))

  pub label_by_told : (k : Ceiling) (c : Code) (ce : c.context.module_ ≡ modular) (s : State S) (s' : State Input) (sh : Beside m Live k s s') → Told m Live k (label_by lm il c s') (label_by m im c s)
  unfolding label_by
  label_by_told k c ce s s' sh = told_if w k _ _ (agree1 w (λ z. ends_here lm il c (on [] 0 z)) (λ p q l v. refl) (λ p q l v. refl) (λ p l v. refl) k s s' sh) _ _ _ _ (λ y1. told_ok w k _ _ s s' sh refl) (λ _. told_name w k c s s' sh _ _ (λ n0 j2. told_ok w k _ _ (past m s) (past lm s') j2.after (ap (λ (z : Span). ident z n0) (first_same w k s s' j2))))

  pub jump_by_told : (k : Ceiling) (word : ℕ) (shut : Plain word) (make : (Span → Tree → Tree)) (c : Code) (ce : c.context.module_ ≡ modular) (s : State S) (s' : State Input) (sh : Beside m Live k s s') → Told m Live k (jump_by lm il word make c s') (jump_by m im word make c s)
  unfolding jump_by
  jump_by_told k word shut make c ce s s' sh = told_word w k c word shut s s' sh _ _ (λ j1. told_then w k _ _ _ _ (label_by_told k c ce (past m s) (past lm s') j1.after) (λ l0 l1 l1' l1h. told_end w k c _ _ refl l1 l1' l1h _ _ (λ e1 e1' e1h. told_ok w k _ _ e1 e1' e1h (ap (λ (z : Span). make z l0) (span_same w k k s e1 s' e1' sh e1h)))))

  pub debugger_by_told : (k : Ceiling) (c : Code) (ce : c.context.module_ ≡ modular) (s : State S) (s' : State Input) (sh : Beside m Live k s s') → Told m Live k (debugger_by lm il c s') (debugger_by m im c s)
  unfolding debugger_by
  debugger_by_told k c ce s s' sh = told_word w k c debugger_kind (refl, refl, refl, refl) s s' sh _ _ (λ j1. told_end w k c _ _ refl (past m s) (past lm s') j1.after _ _ (λ e1 e1' e1h. told_ok w k _ _ e1 e1' e1h (ap (λ (z : Span). debugger_stmt z) (span_same w k k s e1 s' e1' sh e1h))))

  pub case_step_told : (k : Ceiling) (c : Code) (ce : c.context.module_ ≡ modular) (ss : List Tree) (s : State S) (s' : State Input) (sh : Beside m Live k s s') → Told m Live k (case_step lm il c ss s') (case_step m im c ss s)
  unfolding case_step
  case_step_told k c ce ss s s' sh = told_if w k _ _ (agree1 w (λ z. at lm case_kind (on [] 0 z) || (at lm default_kind (on [] 0 z) || at lm right_brace_kind (on [] 0 z))) (λ p q l v. refl) (λ p q l v. refl) (λ p l v. refl) k s s' sh) _ _ _ _ (λ y1. told_ok w k _ _ s s' sh refl) (λ _. told_then w k _ _ _ _ (told.stmt k (in_list c) ce s s' sh) (λ t0 t1 t1' t1h. told_ok w k _ _ t1 t1' t1h refl))

  pub case_rest_told : (k : Ceiling) (c : Code) (ce : c.context.module_ ≡ modular) (startc : Ceiling) (start : State S) (start' : State Input) (starth : Beside m Live startc start start') (e : Tree) (s : State S) (s' : State Input) (sh : Beside m Live k s s') → Told m Live k (case_rest lm il c (lo (input lm start')) e s') (case_rest m im c (lo (input m start)) e s)
  unfolding case_rest
  case_rest_told k c ce startc start start' starth e s s' sh = told_eat w k colon_kind (refl, refl, refl, refl) s s' sh _ _ (λ j1. told_then w k _ _ _ _ (told_iterate w _ _ (λ k2 x2 sx sx' sxh. case_step_told k2 c ce x2 sx sx' sxh) k [] (past m s) (past lm s') j1.after) (λ ss0 ss1 ss1' ss1h. told_ok w k _ _ ss1 ss1' ss1h (ap (λ (z : Span). switch_case z e (pack ss0)) (span_same w startc k start ss1 start' ss1' starth ss1h))))

  pub case_by_told : (k : Ceiling) (c : Code) (ce : c.context.module_ ≡ modular) (s : State S) (s' : State Input) (sh : Beside m Live k s s') → Told m Live k (case_by lm il c s') (case_by m im c s)
  unfolding case_by
  case_by_told k c ce s s' sh = told_at w k default_kind (refl, refl, refl, refl) s s' sh _ _ _ _ (λ j1. told_word w k c default_kind (refl, refl, refl, refl) s s' sh _ _ (λ j2. case_rest_told k c ce k s s' sh absent (past m s) (past lm s') j2.after)) (told_word w k c case_kind (refl, refl, refl, refl) s s' sh _ _ (λ j3. told_then w k _ _ _ _ (told.expr k c ce expression_level (past m s) (past lm s') j3.after) (λ e0 e1 e1' e1h. case_rest_told k c ce k s s' sh e0 e1 e1' e1h)))

  pub cases_step_told : (k : Ceiling) (c : Code) (ce : c.context.module_ ≡ modular) (xs : List Tree) (s : State S) (s' : State Input) (sh : Beside m Live k s s') → Told m Live k (cases_step lm il c xs s') (cases_step m im c xs s)
  unfolding cases_step
  cases_step_told k c ce xs s s' sh = told_at w k right_brace_kind (refl, refl, refl, refl) s s' sh _ _ _ _ (λ j1. told_ok w k _ _ (past m s) (past lm s') j1.after refl) (told_then w k _ _ _ _ (case_by_told k c ce s s' sh) (λ x0 x1 x1' x1h. told_if w k (has_default lm il xs && is_default_case x0) (has_default m im xs && is_default_case x0) (ap (λ (b : Bool). b && is_default_case x0) (same_default m im il xs)) _ _ _ _ (λ _. never w k _ _) (λ _. told_ok w k _ _ x1 x1' x1h refl)))

  pub switch_by_told : (k : Ceiling) (c : Code) (ce : c.context.module_ ≡ modular) (s : State S) (s' : State Input) (sh : Beside m Live k s s') → Told m Live k (switch_by lm il c s') (switch_by m im c s)
  unfolding switch_by
  switch_by_told k c ce s s' sh = told_word w k c switch_kind (refl, refl, refl, refl) s s' sh _ _ (λ j1. told_then w k _ _ _ _ (in_parens_told k c ce (past m s) (past lm s') j1.after) (λ e0 e1 e1' e1h. told_eat w k left_brace_kind (refl, refl, refl, refl) e1 e1' e1h _ _ (λ j2. told_then w k _ _ _ _ (told_iterate w _ _ (λ k2 x3 sx sx' sxh. cases_step_told k2 c ce x3 sx sx' sxh) k [] (past m e1) (past lm e1') j2.after) (λ xs0 xs1 xs1' xs1h. told_ok w k _ _ xs1 xs1' xs1h (ap (λ (z : Span). switch_stmt z e0 (pack xs0)) (span_same w k k s xs1 s' xs1' sh xs1h))))))

  pub catch_by_told : (k : Ceiling) (c : Code) (ce : c.context.module_ ≡ modular) (s : State S) (s' : State Input) (sh : Beside m Live k s s') → Told m Live k (catch_by lm il c s') (catch_by m im c s)
  unfolding catch_by
  catch_by_told k c ce s s' sh = told_word w k c catch_kind (refl, refl, refl, refl) s s' sh _ _ (λ j1. told_at w k left_paren_kind (refl, refl, refl, refl) (past m s) (past lm s') j1.after _ _ _ _ (λ j2. told_then w k _ _ _ _ (told.pat k c ce (past m (past m s)) (past lm (past lm s')) j2.after) (λ p0 p1 p1' p1h. told_eat w k right_paren_kind (refl, refl, refl, refl) p1 p1' p1h _ _ (λ j3. told_then w k _ _ _ _ (block_by_told k c ce (past m p1) (past lm p1') j3.after) (λ b0 b1 b1' b1h. told_ok w k _ _ b1 b1' b1h (ap (λ (z : Span). catch_clause z p0 b0) (span_same w k k s b1 s' b1' sh b1h)))))) (told_then w k _ _ _ _ (block_by_told k c ce (past m s) (past lm s') j1.after) (λ b0 b1 b1' b1h. told_ok w k _ _ b1 b1' b1h (ap (λ (z : Span). catch_clause z absent b0) (span_same w k k s b1 s' b1' sh b1h)))))

  pub finally_by_told : (k : Ceiling) (c : Code) (ce : c.context.module_ ≡ modular) (startc : Ceiling) (start : State S) (start' : State Input) (starth : Beside m Live startc start start') (b : Tree) (h : Tree) (s : State S) (s' : State Input) (sh : Beside m Live k s s') → Told m Live k (finally_by lm il c (lo (input lm start')) b h s') (finally_by m im c (lo (input m start)) b h s)
  unfolding finally_by
  finally_by_told k c ce startc start start' starth b h s s' sh = told_if w k _ _ (agree1 w (λ z. at lm finally_kind (on [] 0 z) && not (barred c.context (input lm (on [] 0 z)))) (λ p q l v. refl) (λ p q l v. refl) (λ p l v. refl) k s s' sh) _ _ _ _ (λ _. told_word w k c finally_kind (refl, refl, refl, refl) s s' sh _ _ (λ j2. told_then w k _ _ _ _ (block_by_told k c ce (past m s) (past lm s') j2.after) (λ f0 f1 f1' f1h. told_ok w k _ _ f1 f1' f1h (ap (λ (z : Span). try_stmt z b h f0) (span_same w startc k start f1 start' f1' starth f1h))))) (λ _. told_if w k (is_absent h) (is_absent h) refl _ _ _ _ (λ _. never w k _ _) (λ _. told_ok w k _ _ s s' sh (ap (λ (z : Span). try_stmt z b h absent) (span_same w startc k start s start' s' starth sh))))

  pub try_by_told : (k : Ceiling) (c : Code) (ce : c.context.module_ ≡ modular) (s : State S) (s' : State Input) (sh : Beside m Live k s s') → Told m Live k (try_by lm il c s') (try_by m im c s)
  unfolding try_by
  try_by_told k c ce s s' sh = told_word w k c try_kind (refl, refl, refl, refl) s s' sh _ _ (λ j1. told_then w k _ _ _ _ (block_by_told k c ce (past m s) (past lm s') j1.after) (λ b0 b1 b1' b1h. told_at w k catch_kind (refl, refl, refl, refl) b1 b1' b1h _ _ _ _ (λ j2. told_then w k _ _ _ _ (catch_by_told k c ce b1 b1' b1h) (λ h0 h1 h1' h1h. finally_by_told k c ce k s s' sh b0 h0 h1 h1' h1h)) (finally_by_told k c ce k s s' sh b0 absent b1 b1' b1h)))

  pub clause_by_told : (k : Ceiling) (c : Code) (ce : c.context.module_ ≡ modular) (close : ℕ) (shut : Plain close) (s : State S) (s' : State Input) (sh : Beside m Live k s s') → Told m Live k (clause_by lm il c close s') (clause_by m im c close s)
  unfolding clause_by
  clause_by_told k c ce close shut s s' sh = told_at w k close shut s s' sh _ _ _ _ (λ j1. told_ok w k _ _ (past m s) (past lm s') j1.after refl) (told_then w k _ _ _ _ (told.expr k c ce expression_level s s' sh) (λ e0 e1 e1' e1h. told_eat w k close shut e1 e1' e1h _ _ (λ j2. told_ok w k _ _ (past m e1) (past lm e1') j2.after refl)))

  pub for_rest_told : (k : Ceiling) (c : Code) (ce : c.context.module_ ≡ modular) (startc : Ceiling) (start : State S) (start' : State Input) (starth : Beside m Live startc start start') (i : Tree) (s : State S) (s' : State Input) (sh : Beside m Live k s s') → Told m Live k (for_rest lm il c (lo (input lm start')) i s') (for_rest m im c (lo (input m start)) i s)
  unfolding for_rest
  for_rest_told k c ce startc start start' starth i s s' sh = told_eat w k semicolon_kind (refl, refl, refl, refl) s s' sh _ _ (λ j1. told_then w k _ _ _ _ (clause_by_told k c ce semicolon_kind (refl, refl, refl, refl) (past m s) (past lm s') j1.after) (λ t0 t1 t1' t1h. told_then w k _ _ _ _ (clause_by_told k c ce right_paren_kind (refl, refl, refl, refl) t1 t1' t1h) (λ u0 u1 u1' u1h. told_then w k _ _ _ _ (sub_by_told k c ce false u1 u1' u1h) (λ b0 b1 b1' b1h. told_ok w k _ _ b1 b1' b1h (ap (λ (z : Span). for_stmt z i t0 u0 b0) (span_same w startc k start b1 start' b1' starth b1h))))))

  pub over_rest_told : (k : Ceiling) (c : Code) (ce : c.context.module_ ≡ modular) (l : ℕ) (make : (Span → Tree → Tree → Tree)) (startc : Ceiling) (start : State S) (start' : State Input) (starth : Beside m Live startc start start') (s : State S) (s' : State Input) (sh : Beside m Live k s s') → Told m Live k (over_rest lm il c l make (lo (input lm start')) s') (over_rest m im c l make (lo (input m start)) s)
  unfolding over_rest
  over_rest_told k c ce l make startc start start' starth s s' sh = told_then w k _ _ _ _ (told.expr k c ce l s s' sh) (λ e0 e1 e1' e1h. told_eat w k right_paren_kind (refl, refl, refl, refl) e1 e1' e1h _ _ (λ j1. told_then w k _ _ _ _ (sub_by_told k c ce false (past m e1) (past lm e1') j1.after) (λ b0 b1 b1' b1h. told_ok w k _ _ b1 b1' b1h (ap (λ (z : Span). make z e0 b0) (span_same w startc k start b1 start' b1' starth b1h)))))

  pub in_rest_told : (k : Ceiling) (c : Code) (ce : c.context.module_ ≡ modular) (startc : Ceiling) (start : State S) (start' : State Input) (starth : Beside m Live startc start start') (l : Tree) (s : State S) (s' : State Input) (sh : Beside m Live k s s') → Told m Live k (in_rest lm il c (lo (input lm start')) l s') (in_rest m im c (lo (input m start)) l s)
  unfolding in_rest
  in_rest_told k c ce startc start start' starth l s s' sh = told_word w k c in_kind (refl, refl, refl, refl) s s' sh _ _ (λ j1. over_rest_told k c ce expression_level (λ p e b. for_in_stmt p l e b) startc start start' starth (past m s) (past lm s') j1.after)

  pub of_rest_told : (k : Ceiling) (c : Code) (ce : c.context.module_ ≡ modular) (startc : Ceiling) (start : State S) (start' : State Input) (starth : Beside m Live startc start start') (awaits : Bool) (l : Tree) (s : State S) (s' : State Input) (sh : Beside m Live k s s') → Told m Live k (of_rest lm il c (lo (input lm start')) awaits l s') (of_rest m im c (lo (input m start)) awaits l s)
  unfolding of_rest
  of_rest_told k c ce startc start start' starth awaits l s s' sh = told_word w k c of_kind (refl, refl, refl, refl) s s' sh _ _ (λ j1. over_rest_told k c ce assignment_level (λ p e b. for_of_stmt p awaits l e b) startc start start' starth (past m s) (past lm s') j1.after)

  pub head_rest_told : (k : Ceiling) (c : Code) (ce : c.context.module_ ≡ modular) (startc : Ceiling) (start : State S) (start' : State Input) (starth : Beside m Live startc start start') (awaits : Bool) (ds : List Tree) (l : Tree) (s : State S) (s' : State Input) (sh : Beside m Live k s s') → Told m Live k (head_rest lm il c (lo (input lm start')) awaits ds l s') (head_rest m im c (lo (input m start)) awaits ds l s)
  unfolding head_rest
  head_rest_told k c ce startc start start' starth awaits ds l s s' sh = told_at w k of_kind (refl, refl, refl, refl) s s' sh _ _ _ _ (λ j1. told_if w k (one_bare lm il ds) (one_bare m im ds) (same_bare m im il ds) _ _ _ _ (λ _. of_rest_told k c ce startc start start' starth awaits l s s' sh) (λ _. never w k _ _)) (told_if w k (awaits) (awaits) refl _ _ _ _ (λ _. never w k _ _) (λ _. told_at w k in_kind (refl, refl, refl, refl) s s' sh _ _ _ _ (λ j2. told_if w k (one_bare lm il ds) (one_bare m im ds) (same_bare m im il ds) _ _ _ _ (λ _. in_rest_told k c ce startc start start' starth l s s' sh) (λ _. never w k _ _)) (for_rest_told k c ce startc start start' starth l s s' sh)))

  pub for_variables_told : (k : Ceiling) (c : Code) (ce : c.context.module_ ≡ modular) (startc : Ceiling) (start : State S) (start' : State Input) (starth : Beside m Live startc start start') (awaits : Bool) (s : State S) (s' : State Input) (sj : Joined m Live k s s') → Told m Live k (for_variables lm il c (lo (input lm start')) awaits s') (for_variables m im c (lo (input m start)) awaits s)
  unfolding for_variables
  for_variables_told k c ce startc start start' starth awaits s s' sj = told_own w k c s s' sj _ _ (told_then w k _ _ _ _ (declarators_by_told k (without_in c) ce (past m s) (past lm s') sj.after) (λ ds0 ds1 ds1' ds1h. subst (λ (z : Tree). Told m Live k (head_rest lm il c (lo (input lm start')) awaits ds0 (var_decl (spanned lm (lo (input lm s')) ds1') (kind (input lm s')) (pack ds0)) ds1') (head_rest m im c (lo (input m start)) awaits ds0 z ds1)) (ap (λ (z : Span). (var_decl z (kind (input lm s')) (pack ds0))) (span_same w k k s ds1 s' ds1' sj.base ds1h) ∙ (ap (λ (z : ℕ). (var_decl (spanned m (lo (input m s)) ds1) z (pack ds0))) (kind_as w k s s' sj))) (head_rest_told k c ce startc start start' starth awaits ds0 (var_decl (spanned lm (lo (input lm s')) ds1') (kind (input lm s')) (pack ds0)) ds1 ds1' ds1h)))

  pub for_using_told : (k : Ceiling) (c : Code) (ce : c.context.module_ ≡ modular) (startc : Ceiling) (start : State S) (start' : State Input) (starth : Beside m Live startc start start') (awaits : Bool) (ownc : Ceiling) (own : State S) (own' : State Input) (ownh : Beside m Live ownc own own') (waits : Bool) (s : State S) (s' : State Input) (sh : Beside m Live k s s') → Told m Live k (for_using lm il c (lo (input lm start')) awaits (lo (input lm own')) waits s') (for_using m im c (lo (input m start)) awaits (lo (input m own)) waits s)
  unfolding for_using
  for_using_told k c ce startc start start' starth awaits ownc own own' ownh waits s s' sh = told_word w k c using_kind (refl, refl, refl, refl) s s' sh _ _ (λ j1. told_then w k _ _ _ _ (declarators_by_told k (without_in c) ce (past m s) (past lm s') j1.after) (λ ds0 ds1 ds1' ds1h. subst (λ (z : Tree). Told m Live k (head_rest lm il c (lo (input lm start')) awaits ds0 (using_decl (spanned lm (lo (input lm own')) ds1') waits (pack ds0)) ds1') (head_rest m im c (lo (input m start)) awaits ds0 z ds1)) (ap (λ (z : Span). (using_decl z waits (pack ds0))) (span_same w ownc k own ds1 own' ds1' ownh ds1h)) (head_rest_told k c ce startc start start' starth awaits ds0 (using_decl (spanned lm (lo (input lm own')) ds1') waits (pack ds0)) ds1 ds1' ds1h)))

  pub for_expression_rest_told : (k : Ceiling) (c : Code) (ce : c.context.module_ ≡ modular) (startc : Ceiling) (start : State S) (start' : State Input) (starth : Beside m Live startc start start') (awaits : Bool) (ownc : Ceiling) (own : State S) (own' : State Input) (ownh : Beside m Live ownc own own') (e : Tree) (s : State S) (s' : State Input) (sh : Beside m Live k s s') → Told m Live k (for_expression_rest lm il c (lo (input lm start')) awaits own' e s') (for_expression_rest m im c (lo (input m start)) awaits own e s)
  unfolding for_expression_rest
  for_expression_rest_told k c ce startc start start' starth awaits ownc own own' ownh e s s' sh = told_at w k of_kind (refl, refl, refl, refl) s s' sh _ _ _ _ (λ j1. told_if w k _ _ (agree2 w (λ z. at lm let_kind (on [] 0 z) || (not awaits && (at lm async_kind (on [] 0 z) && (kind2 (input lm (on [] 0 z)) == of_kind)))) (λ p q l v. refl) (λ p q l v. refl) (λ n p q l v. refl) (λ n p q l v. refl) (λ n p l v. refl) ownc own own' ownh) _ _ _ _ (λ y2. never w k _ _) (λ _. told_pure w _ _ k _ _ (ap (λ (z : List ℕ). to_head z e) (sym sh.commas)) _ _ (λ l. of_rest_told k c ce startc start start' starth awaits l s s' sh))) (told_if w k (awaits) (awaits) refl _ _ _ _ (λ _. never w k _ _) (λ _. told_at w k in_kind (refl, refl, refl, refl) s s' sh _ _ _ _ (λ j3. told_pure w _ _ k _ _ (ap (λ (z : List ℕ). to_head z e) (sym sh.commas)) _ _ (λ l. in_rest_told k c ce startc start start' starth l s s' sh)) (for_rest_told k c ce startc start start' starth e s s' sh)))

  pub for_expression_told : (k : Ceiling) (c : Code) (ce : c.context.module_ ≡ modular) (startc : Ceiling) (start : State S) (start' : State Input) (starth : Beside m Live startc start start') (awaits : Bool) (s : State S) (s' : State Input) (sh : Beside m Live k s s') → Told m Live k (for_expression lm il c (lo (input lm start')) awaits s') (for_expression m im c (lo (input m start)) awaits s)
  unfolding for_expression
  for_expression_told k c ce startc start start' starth awaits s s' sh = told_if w k _ _ (agree2 w (λ z. at lm let_kind (on [] 0 z) && (kind2 (input lm (on [] 0 z)) == left_bracket_kind)) (λ p q l v. refl) (λ p q l v. refl) (λ n p q l v. refl) (λ n p q l v. refl) (λ n p l v. refl) k s s' sh) _ _ _ _ (λ y1. never w k _ _) (λ _. told_then w k _ _ _ _ (told.expr k (without_in c) ce expression_level s s' sh) (λ e0 e1 e1' e1h. for_expression_rest_told k c ce startc start start' starth awaits k s s' sh e0 e1 e1' e1h))

  pub for_head_told : (k : Ceiling) (c : Code) (ce : c.context.module_ ≡ modular) (startc : Ceiling) (start : State S) (start' : State Input) (starth : Beside m Live startc start start') (awaits : Bool) (s : State S) (s' : State Input) (sh : Beside m Live k s s') → Told m Live k (for_head lm il c (lo (input lm start')) awaits s') (for_head m im c (lo (input m start)) awaits s)
  unfolding for_head
  for_head_told k c ce startc start start' starth awaits s s' sh = told_at w k semicolon_kind (refl, refl, refl, refl) s s' sh _ _ _ _ (λ j1. told_if w k (awaits) (awaits) refl _ _ _ _ (λ _. never w k _ _) (λ _. for_rest_told k c ce startc start start' starth absent s s' sh)) (told_if w k _ _ (agree2 w (λ z. at lm var_kind (on [] 0 z) || (at lm const_kind (on [] 0 z) || starts_let lm il (on [] 0 z))) (λ p q l v. refl) (λ p q l v. refl) (λ n p q l v. refl) (λ n p q l v. refl) (λ n p l v. refl) k s s' sh) _ _ _ _ (λ y2. for_variables_told k c ce startc start start' starth awaits s s' (head_joined k s s' sh y2)) (λ _. told_if w k _ _ (using_of_same k c s s' sh) _ _ _ _ (λ y3. for_using_told k c ce startc start start' starth awaits k s s' sh false s s' sh) (λ _. told_if w k _ _ (await_of_same k c s s' sh) _ _ _ _ (λ y4. for_using_told k c ce startc start start' starth awaits k s s' sh true (past m s) (past lm s') (await_using_joined k c s s' sh (and_first (starts_await_using lm il c s') (not (kind2 (rest (input lm s')) == of_kind)) y4)).after) (λ _. for_expression_told k c ce startc start start' starth awaits s s' sh))))

  pub for_by_told : (k : Ceiling) (c : Code) (ce : c.context.module_ ≡ modular) (s : State S) (s' : State Input) (sh : Beside m Live k s s') → Told m Live k (for_by lm il c s') (for_by m im c s)
  unfolding for_by
  for_by_told k c ce s s' sh = told_word w k c for_kind (refl, refl, refl, refl) s s' sh _ _ (λ j1. told_at w k await_kind (refl, refl, refl, refl) (past m s) (past lm s') j1.after _ _ _ _ (λ j2. told_if w k (c.context.in_async) (c.context.in_async) refl _ _ _ _ (λ _. told_word w k c await_kind (refl, refl, refl, refl) (past m s) (past lm s') j1.after _ _ (λ j3. told_eat w k left_paren_kind (refl, refl, refl, refl) (past m (past m s)) (past lm (past lm s')) j3.after _ _ (λ j4. for_head_told k c ce k s s' sh true (past m (past m (past m s))) (past lm (past lm (past lm s'))) j4.after))) (λ _. never w k _ _)) (told_eat w k left_paren_kind (refl, refl, refl, refl) (past m s) (past lm s') j1.after _ _ (λ j5. for_head_told k c ce k s s' sh false (past m (past m s)) (past lm (past lm s')) j5.after)))

  pub labelled_by_told : (k : Ceiling) (c : Code) (ce : c.context.module_ ≡ modular) (startc : Ceiling) (start : State S) (start' : State Input) (starth : Beside m Live startc start start') (l : Tree) (s : State S) (s' : State Input) (sj : Joined m Live k s s') → Told m Live k (labelled_by lm il c (lo (input lm start')) l s') (labelled_by m im c (lo (input m start)) l s)
  unfolding labelled_by
  labelled_by_told k c ce startc start start' starth l s s' sj = told_then w k _ _ _ _ (sub_by_told k c ce true (past m s) (past lm s') sj.after) (λ b0 b1 b1' b1h. told_ok w k _ _ b1 b1' b1h (ap (λ (z : Span). labeled_stmt z l b0) (span_same w startc k start b1 start' b1' starth b1h)))

  pub expression_by_told : (k : Ceiling) (c : Code) (ce : c.context.module_ ≡ modular) (s : State S) (s' : State Input) (sh : Beside m Live k s s') → Told m Live k (expression_by lm il c s') (expression_by m im c s)
  unfolding expression_by
  expression_by_told k c ce s s' sh = told_if w k _ _ (agree2 w (λ z. at lm let_kind (on [] 0 z) && (kind2 (input lm (on [] 0 z)) == left_bracket_kind)) (λ p q l v. refl) (λ p q l v. refl) (λ n p q l v. refl) (λ n p q l v. refl) (λ n p l v. refl) k s s' sh) _ _ _ _ (λ y1. never w k _ _) (λ _. told_then w k _ _ _ _ (told.expr k c ce expression_level s s' sh) (λ e0 e1 e1' e1h. told_if w k _ _ (agree1 w (λ z. is_name e0 && at lm colon_kind (on [] 0 z)) (λ p q l v. refl) (λ p q l v. refl) (λ p l v. refl) k e1 e1' e1h) _ _ _ _ (λ y2. labelled_by_told k c ce k s s' sh e0 e1 e1' (joined_at w colon_kind (refl, refl, refl, refl) k e1 e1' e1h (and_second (is_name e0) (at lm colon_kind e1') y2))) (λ _. told_end w k c _ _ (ap (λ (z : ℕ). z) (ap (λ (b : Bool). if c.listed && (b && is_name e0) then let_end else ends e0) (at_same w let_kind (refl, refl, refl, refl) k s s' sh))) e1 e1' e1h _ _ (λ r1 r1' r1h. told_ok w k _ _ r1 r1' r1h (ap (λ (z : Span). expr_stmt z e0) (span_same w k k s r1 s' r1' sh r1h))))))

  pub keyword_stmt_told : (k : Ceiling) (c : Code) (ce : c.context.module_ ≡ modular) (s : State S) (s' : State Input) (sh : Beside m Live k s s') → Told m Live k (keyword_stmt lm il c s') (keyword_stmt m im c s)
  unfolding keyword_stmt
  keyword_stmt_told k c ce s s' sh = told_at w k if_kind (refl, refl, refl, refl) s s' sh _ _ _ _ (λ j1. if_by_told k c ce s s' sh) (told_at w k return_kind (refl, refl, refl, refl) s s' sh _ _ _ _ (λ j2. return_by_told k c ce s s' sh) (told_at w k for_kind (refl, refl, refl, refl) s s' sh _ _ _ _ (λ j3. for_by_told k c ce s s' sh) (told_at w k while_kind (refl, refl, refl, refl) s s' sh _ _ _ _ (λ j4. while_by_told k c ce s s' sh) (told_at w k do_kind (refl, refl, refl, refl) s s' sh _ _ _ _ (λ j5. do_by_told k c ce s s' sh) (told_at w k switch_kind (refl, refl, refl, refl) s s' sh _ _ _ _ (λ j6. switch_by_told k c ce s s' sh) (told_at w k try_kind (refl, refl, refl, refl) s s' sh _ _ _ _ (λ j7. try_by_told k c ce s s' sh) (told_at w k throw_kind (refl, refl, refl, refl) s s' sh _ _ _ _ (λ j8. throw_by_told k c ce s s' sh) (told_at w k break_kind (refl, refl, refl, refl) s s' sh _ _ _ _ (λ j9. jump_by_told k break_kind (refl, refl, refl, refl) break_stmt c ce s s' sh) (told_at w k continue_kind (refl, refl, refl, refl) s s' sh _ _ _ _ (λ j10. jump_by_told k continue_kind (refl, refl, refl, refl) continue_stmt c ce s s' sh) (told_at w k with_kind (refl, refl, refl, refl) s s' sh _ _ _ _ (λ j11. with_by_told k c ce s s' sh) (told_at w k debugger_kind (refl, refl, refl, refl) s s' sh _ _ _ _ (λ j12. debugger_by_told k c ce s s' sh) (told_at w k function_kind (refl, refl, refl, refl) s s' sh _ _ _ _ (λ j13. function_decl_by_told k c ce k s s' sh false s s' sh) (told_at w k class_kind (refl, refl, refl, refl) s s' sh _ _ _ _ (λ j14. told_if w k (c.listed) (c.listed) refl _ _ _ _ (λ _. class_decl_by_told k c ce s s' sh) (λ _. never w k _ _)) (told_if w k _ _ (agree2 w (λ z. starts_async lm il (on [] 0 z)) (λ p q l v. refl) (λ p q l v. refl) (λ n p q l v. refl) (λ n p q l v. refl) (λ n p l v. refl) k s s' sh) _ _ _ _ (λ y15. told_if w k (c.listed) (c.listed) refl _ _ _ _ (λ _. function_decl_by_told k c ce k s s' sh true (past m s) (past lm s') (joined_at w async_kind (refl, refl, refl, refl) k s s' sh (and_first _ _ y15)).after) (λ _. never w k _ _)) (λ _. told_if w k _ _ (agree2 w (λ z. starts_variables lm il c (on [] 0 z)) (λ p q l v. refl) (λ p q l v. refl) (λ n p q l v. refl) (λ n p q l v. refl) (λ n p l v. refl) k s s' sh) _ _ _ _ (λ y16. variables_by_told k c ce s s' (variables_joined k c s s' sh y16)) (λ _. told_if w k _ _ (agree2 w (λ z. c.listed && starts_using lm il c (on [] 0 z)) (λ p q l v. refl) (λ p q l v. refl) (λ n p q l v. refl) (λ n p q l v. refl) (λ n p l v. refl) k s s' sh) _ _ _ _ (λ y17. using_by_told k c ce k s s' sh false s s' sh) (λ _. told_if w k _ _ (ap (λ (b : Bool). c.listed && b) (await_using_same k c s s' sh)) _ _ _ _ (λ y18. using_by_told k c ce k s s' sh true (past m s) (past lm s') (await_using_joined k c s s' sh (and_second c.listed (starts_await_using lm il c s') y18)).after) (λ _. expression_by_told k c ce s s' sh))))))))))))))))))

  pub stmt_by_told : (k : Ceiling) (c : Code) (ce : c.context.module_ ≡ modular) (s : State S) (s' : State Input) (sh : Beside m Live k s s') → Told m Live k (stmt_by lm il c s') (stmt_by m im c s)
  unfolding stmt_by
  stmt_by_told k c ce s s' sh = told_at w k semicolon_kind (refl, refl, refl, refl) s s' sh _ _ _ _ (λ j1. told_ok w k _ _ (past m s) (past lm s') j1.after (ap (λ (z : Span). empty_stmt z) (first_same w k s s' j1))) (told_at w k left_brace_kind (refl, refl, refl, refl) s s' sh _ _ _ _ (λ j2. block_by_told k c ce s s' sh) (keyword_stmt_told k c ce s s' sh))

  stmt_refused : (c : Code) (r : State Input) → is_slash (kind (input lm r)) ≡ true → Refused (stmt_by lm il c r)
  unfolding stmt_by keyword_stmt expression_by
  stmt_refused c r e = at_slash (λ z. is_slash (kind (input lm z)) ≡ true → Refused (stmt_by lm il c z))
      (λ o n p l i. refused_else (c.listed && false) _ _ (and_right c.listed false refl) (refused_else (c.listed && (c.syntax.explicit_resource_management && false)) _ _ (and_right c.listed _ (and_right c.syntax.explicit_resource_management false refl))
      (refused_else (c.listed && (c.context.in_async && false)) _ _ (and_right c.listed _ (and_right c.context.in_async false refl)) (refused_then _ _ (told.no_expr c expression_level (on o n (kinded div_assign_kind p ∷ l)) i)))))
      (λ o n p l i. refused_else (c.listed && false) _ _ (and_right c.listed false refl) (refused_else (c.listed && (c.syntax.explicit_resource_management && false)) _ _ (and_right c.listed _ (and_right c.syntax.explicit_resource_management false refl))
      (refused_else (c.listed && (c.context.in_async && false)) _ _ (and_right c.listed _ (and_right c.context.in_async false refl)) (refused_then _ _ (told.no_expr c expression_level (on o n (kinded div_kind p ∷ l)) i))))) r e e

  pub stmt_from_refused : (c : Code) (r : State Input) → is_slash (kind (input lm r)) ≡ true → Refused (stmt_from lm il c r)
  unfolding stmt_from
  stmt_from_refused c r e = stmt_refused c r e

  pub stmt_from_told : (k : Ceiling) (c : Code) (ce : c.context.module_ ≡ modular) (s : State S) (s' : State Input) (sh : Beside m Live k s s') → Told m Live k (stmt_from lm il c s') (stmt_from m im c s)
  unfolding stmt_from
  stmt_from_told k c ce s s' sh = told_operand w k s s' sh (λ e. told_refused m Live k _ _ (stmt_refused c s' e)) (λ oh fresh. stmt_by_told k c ce (operand m s) s' oh)
