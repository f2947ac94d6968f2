-- Patterns, statements, functions and classes (ECMA-262, clauses 14 and 15): where their rules over two readers of nested parts agree.
use Rattle.std.proofs.Common.{ℕ, Bool, true, false, not, ◌&&◌, ◌||◌, ◌==◌, List, [], ◌∷◌, ◌++◌, Ok, ap}
use Rattle.base_token.specs.declared.place.Span.{Span}
use Rattle.base_token.specs.Kinds.{dot_dot_dot_kind, left_paren_kind, right_paren_kind, left_bracket_kind, right_bracket_kind, left_brace_kind, right_brace_kind, semicolon_kind, comma_kind, colon_kind, hash_kind, mul_kind, assign_kind, await_kind, break_kind, case_kind, catch_kind, continue_kind, debugger_kind, default_kind, do_kind, else_kind, finally_kind, for_kind, function_kind, if_kind, return_kind, switch_kind, throw_kind, try_kind, var_kind, let_kind, const_kind, while_kind, with_kind, class_kind, extends_kind, in_kind, async_kind, of_kind, using_kind, static_kind, accessor_kind, get_kind, set_kind}
use Rattle.tree_spec.specs.Tree.{Tree, pack, break_stmt, continue_stmt, for_in_stmt, for_of_stmt, var_decl, using_decl, rest_pat, absent}
use Rattle.grammar_spec.specs.Tokens.Input.{Code, kind, kind2, brk, brk2, barred, lo, dots_at, rest, with_in, without_in, in_list, alone, in_body, in_field, in_static, turned_strict}
use Rattle.grammar_spec.specs.Tokens.Operators.{expression_level, assignment_level, new_level, starts_key, key_end}
use Rattle.grammar_spec.specs.Tokens.Shape.{is_name, is_structured, is_default_case, constructs, field_end}
use Rattle.grammar_spec.specs.Reader.Source.{placed, Stream, State, input, past, operand, bound, spanned, at, eat, eat_word, name, Inner}
use Rattle.grammar_spec.specs.Reader.Cover.{to_head}
use Rattle.grammar_spec.specs.Reader.Expressions.{is_async_head}
use Rattle.grammar_spec.specs.Reader.Statements.{initial_pat, after_item, array_item, array_pat_by, keyed_item, named_item, pattern_prop, object_item, object_pat_by, pat_by, block_step, block_rest, block_by, body_item, body_step, body_by, declarator_by, declarator_step, declarators_by, starts_let, starts_variables, variables_by, starts_using, starts_await_using, using_by, function_decl_by, class_decl_by, field_value, class_key, class_method_by, class_getter, class_setter, accessor_by, field_or_method, generator_member, member_rest, starts_static, static_by, member_step, members_by, class_tail_by, in_parens, sub_by, with_by, while_by, do_by, branched, else_by, if_step, if_by, ends_here, return_by, throw_by, label_by, jump_by, debugger_by, case_step, case_rest, case_by, cases_step, switch_by, catch_by, finally_by, try_by, clause_by, for_rest, over_rest, in_rest, of_rest, head_rest, for_variables, for_using, for_expression_rest, for_expression, for_head, for_by, labelled_by, expression_by, starts_async, keyword_stmt, stmt_by, stmt_from, Body, Chain}
use Rattle.grammar_laws.proofs.SteadyExpressions.{key_by_steady, private_by_steady, function_by_steady, setter_parameter_steady, star_steady}
use Rattle.grammar_laws.proofs.Agrees.{Agrees, agree_same, agree_equal, agree_then, agree_after, agree_if, agree_by, agree_iterate, Steady, same_constructor, same_default, same_bare}

module _ {S : Type 0} (m : Stream S) (few many : Inner S) (same : Steady few many) where
  pub initial_pat_steady : (c : Code) (start : ℕ) (p : Tree) (s : State S) → Agrees (initial_pat m few c start p s) (initial_pat m many c start p s)
  unfolding initial_pat
  initial_pat_steady c start p s = agree_if (at m assign_kind s) _ _ _ _ (agree_then _ _ _ _ (same.expr (with_in c) assignment_level (past m s)) (λ e. agree_same _)) (agree_same _)

  pub after_item_steady : (close : ℕ) (last : Bool) (items : List Tree) (s : State S) → Agrees (after_item m few close last items s) (after_item m many close last items s)
  unfolding after_item
  after_item_steady close last items s = agree_same _

  pub array_item_steady : (c : Code) (xs : List Tree) (s : State S) → Agrees (array_item m few c xs s) (array_item m many c xs s)
  unfolding array_item
  array_item_steady c xs s = agree_if (at m right_bracket_kind s) _ _ _ _ (agree_same _) (agree_if (at m comma_kind s) _ _ _ _ (agree_same _) (agree_if (at m dot_dot_dot_kind s) _ _ _ _ (agree_then _ _ _ _ (same.pat (with_in c) (past m s)) (λ p. after_item_steady right_bracket_kind true (xs ++ rest_pat (spanned m (lo (input m s)) p.1) (dots_at (lo (input m s))) p.0 ∷ []) p.1)) (agree_then _ _ _ _ (same.pat (with_in c) s) (λ p. agree_then _ _ _ _ (initial_pat_steady c (lo (input m s)) p.0 p.1) (λ q. after_item_steady right_bracket_kind false (xs ++ q.0 ∷ []) q.1)))))

  pub array_pat_by_steady : (c : Code) (s : State S) → Agrees (array_pat_by m few c s) (array_pat_by m many c s)
  unfolding array_pat_by
  array_pat_by_steady c s = agree_then _ _ _ _ (agree_iterate (bound m) _ _ (λ x r. array_item_steady c x r) [] (past m s)) (λ xs. agree_same _)

  pub keyed_item_steady : (c : Code) (start : ℕ) (k : Tree) (s : State S) → Agrees (keyed_item m few c start k s) (keyed_item m many c start k s)
  unfolding keyed_item
  keyed_item_steady c start k s = agree_then _ _ _ _ (same.pat (with_in c) s) (λ p. agree_then _ _ _ _ (initial_pat_steady c (lo (input m s)) p.0 p.1) (λ q. agree_same _))

  pub named_item_steady : (c : Code) (r s : State S) → Agrees (named_item m few c r s) (named_item m many c r s)
  unfolding named_item
  named_item_steady c r s = agree_after (placed (bound m r) (name m c s)) _ _ (λ n. agree_if (at m assign_kind n.1) _ _ _ _ (agree_then _ _ _ _ (same.expr (with_in c) assignment_level (past m n.1)) (λ e. agree_same _)) (agree_same _))

  pub pattern_prop_steady : (c : Code) (s : State S) → Agrees (pattern_prop m few c s) (pattern_prop m many c s)
  unfolding pattern_prop
  pattern_prop_steady c s = agree_then _ _ _ _ (key_by_steady m few many same c s) (λ k. agree_if (at m colon_kind k.1) _ _ _ _ (keyed_item_steady c (lo (input m s)) k.0 (past m k.1)) (named_item_steady c k.1 s))

  pub object_item_steady : (c : Code) (xs : List Tree) (s : State S) → Agrees (object_item m few c xs s) (object_item m many c xs s)
  unfolding object_item
  object_item_steady c xs s = agree_if (at m right_brace_kind s) _ _ _ _ (agree_same _) (agree_if (at m dot_dot_dot_kind s) _ _ _ _ (agree_then _ _ _ _ (same.pat (with_in c) (past m s)) (λ p. agree_if (is_structured p.0) _ _ _ _ (agree_same _) (after_item_steady right_brace_kind true (xs ++ rest_pat (spanned m (lo (input m s)) p.1) (dots_at (lo (input m s))) p.0 ∷ []) p.1))) (agree_then _ _ _ _ (pattern_prop_steady c s) (λ p. after_item_steady right_brace_kind false (xs ++ p.0 ∷ []) p.1)))

  pub object_pat_by_steady : (c : Code) (s : State S) → Agrees (object_pat_by m few c s) (object_pat_by m many c s)
  unfolding object_pat_by
  object_pat_by_steady c s = agree_then _ _ _ _ (agree_iterate (bound m) _ _ (λ x r. object_item_steady c x r) [] (past m s)) (λ xs. agree_same _)

  pub pat_by_steady : (c : Code) (s : State S) → Agrees (pat_by m few c s) (pat_by m many c s)
  unfolding pat_by
  pat_by_steady c s = agree_if (at m left_bracket_kind s) _ _ _ _ (array_pat_by_steady c s) (agree_if (at m left_brace_kind s) _ _ _ _ (object_pat_by_steady c s) (agree_same _))

  pub block_step_steady : (c : Code) (ss : List Tree) (s : State S) → Agrees (block_step m few c ss s) (block_step m many c ss s)
  unfolding block_step
  block_step_steady c ss s = agree_if (at m right_brace_kind s) _ _ _ _ (agree_same _) (agree_then _ _ _ _ (same.stmt (in_list c) s) (λ t. agree_same _))

  pub block_rest_steady : (c : Code) (start : ℕ) (s : State S) → Agrees (block_rest m few c start s) (block_rest m many c start s)
  unfolding block_rest
  block_rest_steady c start s = agree_then _ _ _ _ (agree_iterate (bound m) _ _ (λ x r. block_step_steady c x r) [] s) (λ ss. agree_same _)

  pub block_by_steady : (c : Code) (s : State S) → Agrees (block_by m few c s) (block_by m many c s)
  unfolding block_by
  block_by_steady c s = agree_after (eat m left_brace_kind s) _ _ (λ r. block_rest_steady c (lo (input m s)) r)

  pub body_item_steady : (b : Body) (s : State S) → Agrees (body_item m few b s) (body_item m many b s)
  unfolding body_item
  body_item_steady b s = agree_then _ _ _ _ (same.stmt (in_list b.code) s) (λ t. agree_same _)

  pub body_step_steady : (b : Body) (s : State S) → Agrees (body_step m few b s) (body_step m many b s)
  unfolding body_step
  body_step_steady b s = agree_if (at m right_brace_kind s) _ _ _ _ (agree_same _) (body_item_steady b s)

  pub body_by_steady : (c : Code) (s : State S) → Agrees (body_by m few c s) (body_by m many c s)
  unfolding body_by
  body_by_steady c s = agree_after (eat m left_brace_kind s) _ _ (λ r. agree_then _ _ _ _ (agree_iterate (bound m) _ _ (λ x r. body_step_steady x r) (record { items = []; code = c; starts = true }) r) (λ b. agree_same _))

  pub declarator_by_steady : (c : Code) (s : State S) → Agrees (declarator_by m few c s) (declarator_by m many c s)
  unfolding declarator_by
  declarator_by_steady c s = agree_then _ _ _ _ (same.pat c s) (λ p. agree_if (at m assign_kind p.1) _ _ _ _ (agree_then _ _ _ _ (same.expr c assignment_level (past m p.1)) (λ e. agree_same _)) (agree_same _))

  pub declarator_step_steady : (c : Code) (ds : List Tree) (s : State S) → Agrees (declarator_step m few c ds s) (declarator_step m many c ds s)
  unfolding declarator_step
  declarator_step_steady c ds s = agree_then _ _ _ _ (declarator_by_steady c s) (λ d. agree_same _)

  pub declarators_by_steady : (c : Code) (s : State S) → Agrees (declarators_by m few c s) (declarators_by m many c s)
  unfolding declarators_by
  declarators_by_steady c s = agree_iterate (bound m) _ _ (λ x r. declarator_step_steady c x r) [] s

  pub variables_by_steady : (c : Code) (s : State S) → Agrees (variables_by m few c s) (variables_by m many c s)
  unfolding variables_by
  variables_by_steady c s = agree_after (eat_word m c (kind (input m s)) s) _ _ (λ r. agree_then _ _ _ _ (declarators_by_steady c r) (λ ds. agree_same _))

  pub using_by_steady : (c : Code) (start : ℕ) (awaits : Bool) (s : State S) → Agrees (using_by m few c start awaits s) (using_by m many c start awaits s)
  unfolding using_by
  using_by_steady c start awaits s = agree_after (eat_word m c using_kind s) _ _ (λ r. agree_then _ _ _ _ (declarators_by_steady c r) (λ ds. agree_same _))

  pub function_decl_by_steady : (c : Code) (start : ℕ) (async : Bool) (s : State S) → Agrees (function_decl_by m few c start async s) (function_decl_by m many c start async s)
  unfolding function_decl_by
  function_decl_by_steady c start async s = agree_after (eat_word m c function_kind s) _ _ (λ r. agree_then _ _ _ _ (star_steady m few many same r) (λ g. agree_after (name m c g.1) _ _ (λ n. agree_then _ _ _ _ (function_by_steady m few many same c start g.0 async n.1) (λ f. agree_same _))))

  pub class_decl_by_steady : (c : Code) (s : State S) → Agrees (class_decl_by m few c s) (class_decl_by m many c s)
  unfolding class_decl_by
  class_decl_by_steady c s = agree_after (eat_word m c class_kind s) _ _ (λ r. agree_after (name m (turned_strict c) r) _ _ (λ n. agree_then _ _ _ _ (same.class_tail (turned_strict (with_in c)) (lo (input m s)) n.1) (λ k. agree_same _)))

  pub field_value_steady : (c : Code) (e : ℕ) (s : State S) → Agrees (field_value m few c e s) (field_value m many c e s)
  unfolding field_value
  field_value_steady c e s = agree_if (at m assign_kind s) _ _ _ _ (agree_then _ _ _ _ (same.expr (in_field c) assignment_level (past m s)) (λ v. agree_same _)) (agree_same _)

  pub class_key_steady : (c : Code) (s : State S) → Agrees (class_key m few c s) (class_key m many c s)
  unfolding class_key
  class_key_steady c s = agree_if (at m hash_kind s) _ _ _ _ (private_by_steady m few many same s) (key_by_steady m few many same c s)

  pub class_method_by_steady : (c : Code) (start : ℕ) (is_static : Bool) (generator : Bool) (async : Bool) (k : Tree) (s : State S) → Agrees (class_method_by m few c start is_static generator async k s) (class_method_by m many c start is_static generator async k s)
  unfolding class_method_by
  class_method_by_steady c start is_static generator async k s = agree_then _ _ _ _ (function_by_steady m few many same c start generator async s) (λ f. agree_if (constructs k && (not is_static && (not generator && not async))) _ _ _ _ (agree_equal _ _ (ap (λ (t : Tree). Ok (t, f.1)) (same_constructor m few many (spanned m start f.1) k f.0))) (agree_same _))

  pub class_getter_steady : (c : Code) (start : ℕ) (is_static : Bool) (s : State S) → Agrees (class_getter m few c start is_static s) (class_getter m many c start is_static s)
  unfolding class_getter
  class_getter_steady c start is_static s = agree_then _ _ _ _ (class_key_steady c (past m s)) (λ k. agree_after (eat m left_paren_kind k.1) _ _ (λ o. agree_after (eat m right_paren_kind o) _ _ (λ p. agree_then _ _ _ _ (same.body (in_body false false c) p) (λ b. agree_same _))))

  pub class_setter_steady : (c : Code) (start : ℕ) (is_static : Bool) (s : State S) → Agrees (class_setter m few c start is_static s) (class_setter m many c start is_static s)
  unfolding class_setter
  class_setter_steady c start is_static s = agree_then _ _ _ _ (class_key_steady c (past m s)) (λ k. agree_then _ _ _ _ (setter_parameter_steady m few many same (in_body false false c) k.1) (λ p. agree_then _ _ _ _ (same.body (in_body false false c) p.1) (λ b. agree_same _)))

  pub accessor_by_steady : (c : Code) (start : ℕ) (is_static : Bool) (s : State S) → Agrees (accessor_by m few c start is_static s) (accessor_by m many c start is_static s)
  unfolding accessor_by
  accessor_by_steady c start is_static s = agree_then _ _ _ _ (class_key_steady c (past m s)) (λ k. agree_then _ _ _ _ (field_value_steady c key_end k.1) (λ v. agree_same _))

  pub field_or_method_steady : (c : Code) (start : ℕ) (is_static : Bool) (s : State S) → Agrees (field_or_method m few c start is_static s) (field_or_method m many c start is_static s)
  unfolding field_or_method
  field_or_method_steady c start is_static s = agree_then _ _ _ _ (class_key_steady c s) (λ k. agree_if (at m left_paren_kind k.1) _ _ _ _ (class_method_by_steady c start is_static false false k.0 k.1) (agree_then _ _ _ _ (field_value_steady c (field_end is_static (kind (input m s))) k.1) (λ v. agree_same _)))

  pub generator_member_steady : (c : Code) (start : ℕ) (is_static : Bool) (async : Bool) (s : State S) → Agrees (generator_member m few c start is_static async s) (generator_member m many c start is_static async s)
  unfolding generator_member
  generator_member_steady c start is_static async s = agree_then _ _ _ _ (star_steady m few many same s) (λ g. agree_then _ _ _ _ (class_key_steady c g.1) (λ k. class_method_by_steady c start is_static g.0 async k.0 k.1))

  pub member_rest_steady : (c : Code) (start : ℕ) (is_static : Bool) (s : State S) → Agrees (member_rest m few c start is_static s) (member_rest m many c start is_static s)
  unfolding member_rest
  member_rest_steady c start is_static s = agree_if (at m mul_kind s) _ _ _ _ (generator_member_steady c start is_static false s) (agree_if (is_async_head m few s) _ _ _ _ (generator_member_steady c start is_static true (past m s)) (agree_if (at m get_kind s && starts_key (kind2 (input m s))) _ _ _ _ (class_getter_steady c start is_static s) (agree_if (at m set_kind s && starts_key (kind2 (input m s))) _ _ _ _ (class_setter_steady c start is_static s) (agree_if (c.syntax.auto_accessors && (at m accessor_kind s && (starts_key (kind2 (input m s)) && not (brk2 (input m s))))) _ _ _ _ (accessor_by_steady c start is_static s) (field_or_method_steady c start is_static s)))))

  pub static_by_steady : (c : Code) (s : State S) → Agrees (static_by m few c s) (static_by m many c s)
  unfolding static_by
  static_by_steady c s = agree_after (eat_word m c static_kind s) _ _ (λ r. agree_if (at m left_brace_kind r) _ _ _ _ (agree_then _ _ _ _ (block_rest_steady (in_static c) (lo (input m r)) (past m r)) (λ b. agree_same _)) (member_rest_steady c (lo (input m s)) true r))

  pub member_step_steady : (c : Code) (ms : List Tree) (s : State S) → Agrees (member_step m few c ms s) (member_step m many c ms s)
  unfolding member_step
  member_step_steady c ms s = agree_if (at m right_brace_kind s) _ _ _ _ (agree_same _) (agree_if (at m semicolon_kind s) _ _ _ _ (agree_same _) (agree_if (starts_static m few s) _ _ _ _ (agree_then _ _ _ _ (static_by_steady c s) (λ x. agree_same _)) (agree_then _ _ _ _ (member_rest_steady c (lo (input m s)) false s) (λ x. agree_same _))))

  pub members_by_steady : (c : Code) (whole : ℕ) (super_class : Tree) (s : State S) → Agrees (members_by m few c whole super_class s) (members_by m many c whole super_class s)
  unfolding members_by
  members_by_steady c whole super_class s = agree_after (eat m left_brace_kind s) _ _ (λ r. agree_then _ _ _ _ (agree_iterate (bound m) _ _ (λ x r. member_step_steady c x r) [] r) (λ ms. agree_same _))

  pub class_tail_by_steady : (c : Code) (whole : ℕ) (s : State S) → Agrees (class_tail_by m few c whole s) (class_tail_by m many c whole s)
  unfolding class_tail_by
  class_tail_by_steady c whole s = agree_if (at m extends_kind s) _ _ _ _ (agree_after (eat_word m c extends_kind s) _ _ (λ r. agree_then _ _ _ _ (same.expr c new_level r) (λ e. members_by_steady c whole e.0 e.1))) (members_by_steady c whole absent s)

  pub in_parens_steady : (c : Code) (s : State S) → Agrees (in_parens m few c s) (in_parens m many c s)
  unfolding in_parens
  in_parens_steady c s = agree_after (eat m left_paren_kind s) _ _ (λ o. agree_then _ _ _ _ (same.expr c expression_level o) (λ e. agree_same _))

  pub sub_by_steady : (c : Code) (functions : Bool) (s : State S) → Agrees (sub_by m few c functions s) (sub_by m many c functions s)
  unfolding sub_by
  sub_by_steady c functions s = agree_then _ _ _ _ (same.stmt (alone c) s) (λ t. agree_same _)

  pub with_by_steady : (c : Code) (s : State S) → Agrees (with_by m few c s) (with_by m many c s)
  unfolding with_by
  with_by_steady c s = agree_after (eat_word m c with_kind s) _ _ (λ r. agree_then _ _ _ _ (in_parens_steady c r) (λ e. agree_then _ _ _ _ (sub_by_steady c false e.1) (λ b. agree_same _)))

  pub while_by_steady : (c : Code) (s : State S) → Agrees (while_by m few c s) (while_by m many c s)
  unfolding while_by
  while_by_steady c s = agree_after (eat_word m c while_kind s) _ _ (λ r. agree_then _ _ _ _ (in_parens_steady c r) (λ e. agree_then _ _ _ _ (sub_by_steady c false e.1) (λ b. agree_same _)))

  pub do_by_steady : (c : Code) (s : State S) → Agrees (do_by m few c s) (do_by m many c s)
  unfolding do_by
  do_by_steady c s = agree_after (eat_word m c do_kind s) _ _ (λ r. agree_then _ _ _ _ (sub_by_steady c false r) (λ b. agree_after (eat_word m c while_kind b.1) _ _ (λ w. agree_then _ _ _ _ (in_parens_steady c w) (λ e. agree_same _))))

  pub else_by_steady : (x : Chain) (s : State S) → Agrees (else_by m few x s) (else_by m many x s)
  unfolding else_by
  else_by_steady x s = agree_if (at m if_kind (operand m s)) _ _ _ _ (agree_same _) (agree_then _ _ _ _ (sub_by_steady x.code true s) (λ b. agree_same _))

  pub if_step_steady : (x : Chain) (s : State S) → Agrees (if_step m few x s) (if_step m many x s)
  unfolding if_step
  if_step_steady x s = agree_after (eat_word m x.code if_kind s) _ _ (λ r. agree_then _ _ _ _ (in_parens_steady x.code r) (λ e. agree_then _ _ _ _ (sub_by_steady x.code true e.1) (λ a. agree_if (at m else_kind a.1) _ _ _ _ (agree_after (eat_word m x.code else_kind a.1) _ _ (λ o. else_by_steady (branched m few (lo (input m s)) x e.0 a.0) o)) (agree_same _))))

  pub if_by_steady : (c : Code) (s : State S) → Agrees (if_by m few c s) (if_by m many c s)
  unfolding if_by
  if_by_steady c s = agree_then _ _ _ _ (agree_iterate (bound m) _ _ (λ x r. if_step_steady x r) (record { branches = []; code = c; last = absent }) s) (λ x. agree_same _)

  pub return_by_steady : (c : Code) (s : State S) → Agrees (return_by m few c s) (return_by m many c s)
  unfolding return_by
  return_by_steady c s = agree_after (eat_word m c return_kind s) _ _ (λ r. agree_if (ends_here m few c r) _ _ _ _ (agree_same _) (agree_then _ _ _ _ (same.expr c expression_level r) (λ x. agree_same _)))

  pub throw_by_steady : (c : Code) (s : State S) → Agrees (throw_by m few c s) (throw_by m many c s)
  unfolding throw_by
  throw_by_steady c s = agree_after (eat_word m c throw_kind s) _ _ (λ r. agree_if (brk (input m r)) _ _ _ _ (agree_same _) (agree_then _ _ _ _ (same.expr c expression_level r) (λ x. agree_same _)))

  pub label_by_steady : (c : Code) (s : State S) → Agrees (label_by m few c s) (label_by m many c s)
  unfolding label_by
  label_by_steady c s = agree_same _

  pub jump_by_steady : (word : ℕ) (make : (Span → Tree → Tree)) (c : Code) (s : State S) → Agrees (jump_by m few word make c s) (jump_by m many word make c s)
  unfolding jump_by
  jump_by_steady word make c s = agree_after (eat_word m c word s) _ _ (λ r. agree_then _ _ _ _ (label_by_steady c r) (λ l. agree_same _))

  pub debugger_by_steady : (c : Code) (s : State S) → Agrees (debugger_by m few c s) (debugger_by m many c s)
  unfolding debugger_by
  debugger_by_steady c s = agree_same _

  pub case_step_steady : (c : Code) (ss : List Tree) (s : State S) → Agrees (case_step m few c ss s) (case_step m many c ss s)
  unfolding case_step
  case_step_steady c ss s = agree_if (at m case_kind s || (at m default_kind s || at m right_brace_kind s)) _ _ _ _ (agree_same _) (agree_then _ _ _ _ (same.stmt (in_list c) s) (λ t. agree_same _))

  pub case_rest_steady : (c : Code) (start : ℕ) (e : Tree) (s : State S) → Agrees (case_rest m few c start e s) (case_rest m many c start e s)
  unfolding case_rest
  case_rest_steady c start e s = agree_after (eat m colon_kind s) _ _ (λ r. agree_then _ _ _ _ (agree_iterate (bound m) _ _ (λ x r. case_step_steady c x r) [] r) (λ ss. agree_same _))

  pub case_by_steady : (c : Code) (s : State S) → Agrees (case_by m few c s) (case_by m many c s)
  unfolding case_by
  case_by_steady c s = agree_if (at m default_kind s) _ _ _ _ (agree_after (eat_word m c default_kind s) _ _ (λ r. case_rest_steady c (lo (input m s)) absent r)) (agree_after (eat_word m c case_kind s) _ _ (λ r. agree_then _ _ _ _ (same.expr c expression_level r) (λ e. case_rest_steady c (lo (input m s)) e.0 e.1)))

  pub cases_step_steady : (c : Code) (xs : List Tree) (s : State S) → Agrees (cases_step m few c xs s) (cases_step m many c xs s)
  unfolding cases_step
  cases_step_steady c xs s = agree_if (at m right_brace_kind s) _ _ _ _ (agree_same _) (agree_then _ _ _ _ (case_by_steady c s) (λ x. agree_by _ _ (ap (λ b. b && is_default_case x.0) (same_default m few many xs)) _ _ _ _ (agree_same _) (agree_same _)))

  pub switch_by_steady : (c : Code) (s : State S) → Agrees (switch_by m few c s) (switch_by m many c s)
  unfolding switch_by
  switch_by_steady c s = agree_after (eat_word m c switch_kind s) _ _ (λ r. agree_then _ _ _ _ (in_parens_steady c r) (λ e. agree_after (eat m left_brace_kind e.1) _ _ (λ o. agree_then _ _ _ _ (agree_iterate (bound m) _ _ (λ x r. cases_step_steady c x r) [] o) (λ xs. agree_same _))))

  pub catch_by_steady : (c : Code) (s : State S) → Agrees (catch_by m few c s) (catch_by m many c s)
  unfolding catch_by
  catch_by_steady c s = agree_after (eat_word m c catch_kind s) _ _ (λ r. agree_if (at m left_paren_kind r) _ _ _ _ (agree_then _ _ _ _ (same.pat c (past m r)) (λ p. agree_after (eat m right_paren_kind p.1) _ _ (λ q. agree_then _ _ _ _ (block_by_steady c q) (λ b. agree_same _)))) (agree_then _ _ _ _ (block_by_steady c r) (λ b. agree_same _)))

  pub finally_by_steady : (c : Code) (start : ℕ) (b : Tree) (h : Tree) (s : State S) → Agrees (finally_by m few c start b h s) (finally_by m many c start b h s)
  unfolding finally_by
  finally_by_steady c start b h s = agree_if (at m finally_kind s && not (barred c.context (input m s))) _ _ _ _ (agree_after (eat_word m c finally_kind s) _ _ (λ r. agree_then _ _ _ _ (block_by_steady c r) (λ f. agree_same _))) (agree_same _)

  pub try_by_steady : (c : Code) (s : State S) → Agrees (try_by m few c s) (try_by m many c s)
  unfolding try_by
  try_by_steady c s = agree_after (eat_word m c try_kind s) _ _ (λ r. agree_then _ _ _ _ (block_by_steady c r) (λ b. agree_if (at m catch_kind b.1) _ _ _ _ (agree_then _ _ _ _ (catch_by_steady c b.1) (λ h. finally_by_steady c (lo (input m s)) b.0 h.0 h.1)) (finally_by_steady c (lo (input m s)) b.0 absent b.1)))

  pub clause_by_steady : (c : Code) (close : ℕ) (s : State S) → Agrees (clause_by m few c close s) (clause_by m many c close s)
  unfolding clause_by
  clause_by_steady c close s = agree_if (at m close s) _ _ _ _ (agree_same _) (agree_then _ _ _ _ (same.expr c expression_level s) (λ e. agree_same _))

  pub for_rest_steady : (c : Code) (start : ℕ) (i : Tree) (s : State S) → Agrees (for_rest m few c start i s) (for_rest m many c start i s)
  unfolding for_rest
  for_rest_steady c start i s = agree_after (eat m semicolon_kind s) _ _ (λ r. agree_then _ _ _ _ (clause_by_steady c semicolon_kind r) (λ t. agree_then _ _ _ _ (clause_by_steady c right_paren_kind t.1) (λ u. agree_then _ _ _ _ (sub_by_steady c false u.1) (λ b. agree_same _))))

  pub over_rest_steady : (c : Code) (l : ℕ) (make : (Span → Tree → Tree → Tree)) (start : ℕ) (s : State S) → Agrees (over_rest m few c l make start s) (over_rest m many c l make start s)
  unfolding over_rest
  over_rest_steady c l make start s = agree_then _ _ _ _ (same.expr c l s) (λ e. agree_after (eat m right_paren_kind e.1) _ _ (λ r. agree_then _ _ _ _ (sub_by_steady c false r) (λ b. agree_same _)))

  pub in_rest_steady : (c : Code) (start : ℕ) (l : Tree) (s : State S) → Agrees (in_rest m few c start l s) (in_rest m many c start l s)
  unfolding in_rest
  in_rest_steady c start l s = agree_after (eat_word m c in_kind s) _ _ (λ r. over_rest_steady c expression_level (λ p e b. for_in_stmt p l e b) start r)

  pub of_rest_steady : (c : Code) (start : ℕ) (awaits : Bool) (l : Tree) (s : State S) → Agrees (of_rest m few c start awaits l s) (of_rest m many c start awaits l s)
  unfolding of_rest
  of_rest_steady c start awaits l s = agree_after (eat_word m c of_kind s) _ _ (λ r. over_rest_steady c assignment_level (λ p e b. for_of_stmt p awaits l e b) start r)

  pub head_rest_steady : (c : Code) (start : ℕ) (awaits : Bool) (ds : List Tree) (l : Tree) (s : State S) → Agrees (head_rest m few c start awaits ds l s) (head_rest m many c start awaits ds l s)
  unfolding head_rest
  head_rest_steady c start awaits ds l s = agree_if (at m of_kind s) _ _ _ _ (agree_by _ _ (same_bare m few many ds) _ _ _ _ (of_rest_steady c start awaits l s) (agree_same _)) (agree_if awaits _ _ _ _ (agree_same _) (agree_if (at m in_kind s) _ _ _ _ (agree_by _ _ (same_bare m few many ds) _ _ _ _ (in_rest_steady c start l s) (agree_same _)) (for_rest_steady c start l s)))

  pub for_variables_steady : (c : Code) (start : ℕ) (awaits : Bool) (s : State S) → Agrees (for_variables m few c start awaits s) (for_variables m many c start awaits s)
  unfolding for_variables
  for_variables_steady c start awaits s = agree_after (eat_word m c (kind (input m s)) s) _ _ (λ r. agree_then _ _ _ _ (declarators_by_steady (without_in c) r) (λ ds. head_rest_steady c start awaits ds.0 (var_decl (spanned m (lo (input m s)) ds.1) (kind (input m s)) (pack ds.0)) ds.1))

  pub for_using_steady : (c : Code) (start : ℕ) (awaits : Bool) (own : ℕ) (waits : Bool) (s : State S) → Agrees (for_using m few c start awaits own waits s) (for_using m many c start awaits own waits s)
  unfolding for_using
  for_using_steady c start awaits own waits s = agree_after (eat_word m c using_kind s) _ _ (λ r. agree_then _ _ _ _ (declarators_by_steady (without_in c) r) (λ ds. head_rest_steady c start awaits ds.0 (using_decl (spanned m own ds.1) waits (pack ds.0)) ds.1))

  pub for_expression_rest_steady : (c : Code) (start : ℕ) (awaits : Bool) (own : State S) (e : Tree) (s : State S) → Agrees (for_expression_rest m few c start awaits own e s) (for_expression_rest m many c start awaits own e s)
  unfolding for_expression_rest
  for_expression_rest_steady c start awaits own e s = agree_if (at m of_kind s) _ _ _ _ (agree_if (at m let_kind own || (not awaits && (at m async_kind own && (kind2 (input m own) == of_kind)))) _ _ _ _ (agree_same _) (agree_after (placed (bound m s) (to_head s.commas e)) _ _ (λ l. of_rest_steady c start awaits l s))) (agree_if (awaits) _ _ _ _ (agree_same _) (agree_if (at m in_kind s) _ _ _ _ (agree_after (placed (bound m s) (to_head s.commas e)) _ _ (λ l. in_rest_steady c start l s)) (for_rest_steady c start e s)))

  pub for_expression_steady : (c : Code) (start : ℕ) (awaits : Bool) (s : State S) → Agrees (for_expression m few c start awaits s) (for_expression m many c start awaits s)
  unfolding for_expression
  for_expression_steady c start awaits s = agree_if (at m let_kind s && (kind2 (input m s) == left_bracket_kind)) _ _ _ _ (agree_same _) (agree_then _ _ _ _ (same.expr (without_in c) expression_level s) (λ e. for_expression_rest_steady c start awaits s e.0 e.1))

  pub for_head_steady : (c : Code) (start : ℕ) (awaits : Bool) (s : State S) → Agrees (for_head m few c start awaits s) (for_head m many c start awaits s)
  unfolding for_head
  for_head_steady c start awaits s = agree_if (at m semicolon_kind s) _ _ _ _ (agree_if (awaits) _ _ _ _ (agree_same _) (for_rest_steady c start absent s)) (agree_if (at m var_kind s || (at m const_kind s || starts_let m few s)) _ _ _ _ (for_variables_steady c start awaits s) (agree_if (starts_using m few c s && not (kind2 (input m s) == of_kind)) _ _ _ _ (for_using_steady c start awaits (lo (input m s)) false s) (agree_if (starts_await_using m few c s && not (kind2 (rest (input m s)) == of_kind)) _ _ _ _ (for_using_steady c start awaits (lo (input m s)) true (past m s)) (for_expression_steady c start awaits s))))

  pub for_by_steady : (c : Code) (s : State S) → Agrees (for_by m few c s) (for_by m many c s)
  unfolding for_by
  for_by_steady c s = agree_after (eat_word m c for_kind s) _ _ (λ r. agree_if (at m await_kind r) _ _ _ _ (agree_if (c.context.in_async) _ _ _ _ (agree_after (eat_word m c await_kind r) _ _ (λ w. agree_after (eat m left_paren_kind w) _ _ (λ o. for_head_steady c (lo (input m s)) true o))) (agree_same _)) (agree_after (eat m left_paren_kind r) _ _ (λ o. for_head_steady c (lo (input m s)) false o)))

  pub labelled_by_steady : (c : Code) (start : ℕ) (l : Tree) (s : State S) → Agrees (labelled_by m few c start l s) (labelled_by m many c start l s)
  unfolding labelled_by
  labelled_by_steady c start l s = agree_then _ _ _ _ (sub_by_steady c true (past m s)) (λ b. agree_same _)

  pub expression_by_steady : (c : Code) (s : State S) → Agrees (expression_by m few c s) (expression_by m many c s)
  unfolding expression_by
  expression_by_steady c s = agree_if (at m let_kind s && (kind2 (input m s) == left_bracket_kind)) _ _ _ _ (agree_same _) (agree_then _ _ _ _ (same.expr c expression_level s) (λ e. agree_if (is_name e.0 && at m colon_kind e.1) _ _ _ _ (labelled_by_steady c (lo (input m s)) e.0 e.1) (agree_same _)))

  pub keyword_stmt_steady : (c : Code) (s : State S) → Agrees (keyword_stmt m few c s) (keyword_stmt m many c s)
  unfolding keyword_stmt
  keyword_stmt_steady c s = agree_if (at m if_kind s) _ _ _ _ (if_by_steady c s) (agree_if (at m return_kind s) _ _ _ _ (return_by_steady c s) (agree_if (at m for_kind s) _ _ _ _ (for_by_steady c s) (agree_if (at m while_kind s) _ _ _ _ (while_by_steady c s) (agree_if (at m do_kind s) _ _ _ _ (do_by_steady c s) (agree_if (at m switch_kind s) _ _ _ _ (switch_by_steady c s) (agree_if (at m try_kind s) _ _ _ _ (try_by_steady c s) (agree_if (at m throw_kind s) _ _ _ _ (throw_by_steady c s) (agree_if (at m break_kind s) _ _ _ _ (jump_by_steady break_kind break_stmt c s) (agree_if (at m continue_kind s) _ _ _ _ (jump_by_steady continue_kind continue_stmt c s) (agree_if (at m with_kind s) _ _ _ _ (with_by_steady c s) (agree_if (at m debugger_kind s) _ _ _ _ (debugger_by_steady c s) (agree_if (at m function_kind s) _ _ _ _ (function_decl_by_steady c (lo (input m s)) false s) (agree_if (at m class_kind s) _ _ _ _ (agree_if (c.listed) _ _ _ _ (class_decl_by_steady c s) (agree_same _)) (agree_if (starts_async m few s) _ _ _ _ (agree_if (c.listed) _ _ _ _ (function_decl_by_steady c (lo (input m s)) true (past m s)) (agree_same _)) (agree_if (starts_variables m few c s) _ _ _ _ (variables_by_steady c s) (agree_if (c.listed && starts_using m few c s) _ _ _ _ (using_by_steady c (lo (input m s)) false s) (agree_if (c.listed && starts_await_using m few c s) _ _ _ _ (using_by_steady c (lo (input m s)) true (past m s)) (expression_by_steady c s))))))))))))))))))

  pub stmt_by_steady : (c : Code) (s : State S) → Agrees (stmt_by m few c s) (stmt_by m many c s)
  unfolding stmt_by
  stmt_by_steady c s = agree_if (at m semicolon_kind s) _ _ _ _ (agree_same _) (agree_if (at m left_brace_kind s) _ _ _ _ (block_by_steady c s) (keyword_stmt_steady c s))

  pub stmt_from_steady : (c : Code) (s : State S) → Agrees (stmt_from m few c s) (stmt_from m many c s)
  unfolding stmt_from
  stmt_from_steady c s = stmt_by_steady c (operand m s)
