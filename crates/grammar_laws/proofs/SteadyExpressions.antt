-- Expressions (ECMA-262, clause 13): where their rules over two readers of nested parts agree.
use Rattle.std.proofs.Common.{ℕ, Bool, true, false, not, ◌&&◌, ◌||◌, ◌==◌, nat_le, nat_lt, List, [], ◌∷◌, ◌++◌, Option, Ok, sym, ap, subst}
use Rattle.base_token.specs.declared.place.Span.{Span}
use Rattle.base_token.specs.Kinds.{hash_kind, dot_kind, dot_dot_dot_kind, left_paren_kind, right_paren_kind, left_bracket_kind, right_bracket_kind, left_brace_kind, right_brace_kind, comma_kind, back_quote_kind, template_kind, colon_kind, dollar_brace_kind, question_mark_kind, regex_kind, mul_kind, assign_kind, null_kind, true_kind, false_kind, await_kind, function_kind, class_kind, new_kind, this_kind, super_kind, import_kind, yield_kind, in_kind, plus_plus_kind, minus_minus_kind, async_kind, get_kind, set_kind}
use Rattle.tree_spec.specs.Tree.{Tree, this_expr, ident, setter_prop, bool_lit, null_lit, binding_ident}
use Rattle.grammar_spec.specs.Tokens.Input.{Code, kind, kind2, brk, barred, lo, text, content, is_word, has_in, with_in, by, in_body, in_arrow, turned_strict, in_list, first_span}
use Rattle.grammar_spec.specs.Tokens.Operators.{expression_level, assignment_level, coalesce_level, unary_level, call_level, member_level, binary_level, right_level, is_assign_op, operates, goes_expr, between}
use Rattle.grammar_spec.specs.Tokens.Shape.{level, ends, fits_left, is_chain}
use Rattle.grammar_spec.specs.Reader.Source.{placed, Stream, State, input, past, operand, bound, spanned, at, eat, eat_word, is_name, name, Inner}
use Rattle.grammar_spec.specs.Reader.Cover.{to_target}
use Rattle.grammar_spec.specs.Reader.Expressions.{first, literal_by, element_by, after_element, element_step, elements_by, array_by, computed_by, key_by, private_by, parameter_by, parameter_step, parameters_by, function_by, setter_parameter, is_accessor, is_async_head, star, method_prop_by, getter_by, setter_by, prop_rest, prop_by, prop_step, object_by, quasi, quasi_end, quasi_step, template_by, arrows_at, heads_params, is_async_param, arrow_by, params_of, group_end, group_by, ident_end, arguments_by, async_group, function_expr_name, function_expr_by, async_by, class_expr_by, new_end, callee_by, new_by, super_end, import_by, unary_by, update_by, await_by, ends_yield, yield_end, yield_by, word_by, fixed, keyword_by, prefix_by, member_name, member_by, index_by, call_by, chain_by, cond_by, assign_by, binary_by, step_by, loop_step, loop_by, private_in, expr_from, expr_by, Elements, Spans, is_unary, no_elements}
use Rattle.grammar_laws.proofs.Agrees.{Agrees, agree_same, agree_equal, agree_then, agree_placed, agree_after, agree_if, agree_by, agree_iterate, Steady, same_rest, same_pattern, same_quasi}

module _ {S : Type 0} (m : Stream S) (few many : Inner S) (same : Steady few many) where
  pub literal_by_steady : (s : State S) → Agrees (literal_by m few s) (literal_by m many s)
  unfolding literal_by
  literal_by_steady s = agree_same _

  pub element_by_steady : (c : Code) (s : State S) → Agrees (element_by m few c s) (element_by m many c s)
  unfolding element_by
  element_by_steady c s = agree_if (at m dot_dot_dot_kind s) _ _ _ _ (agree_then _ _ _ _ (same.expr (with_in c) assignment_level (past m s)) (λ e. agree_same _)) (agree_then _ _ _ _ (same.expr (with_in c) assignment_level s) (λ e. agree_same _))

  pub after_element_steady : (close : ℕ) (items : List Tree) (s : State S) → Agrees (after_element m few close items s) (after_element m many close items s)
  unfolding after_element
  after_element_steady close items s = agree_same _

  pub element_step_steady : (c : Code) (holes : Bool) (close : ℕ) (xs : Elements) (s : State S) → Agrees (element_step m few c holes close xs s) (element_step m many c holes close xs s)
  unfolding element_step
  element_step_steady c holes close xs s = agree_if (at m close s) _ _ _ _ (agree_same _) (agree_if (holes && at m comma_kind s) _ _ _ _ (agree_same _) (agree_then _ _ _ _ (element_by_steady c s) (λ e. after_element_steady close (xs.items ++ e.0 ∷ []) e.1)))

  pub elements_by_steady : (c : Code) (holes : Bool) (close : ℕ) (s : State S) → Agrees (elements_by m few c holes close s) (elements_by m many c holes close s)
  unfolding elements_by
  elements_by_steady c holes close s = agree_iterate (bound m) _ _ (λ x r. element_step_steady c holes close x r) no_elements s

  pub array_by_steady : (c : Code) (s : State S) → Agrees (array_by m few c s) (array_by m many c s)
  unfolding array_by
  array_by_steady c s = agree_then _ _ _ _ (elements_by_steady c true right_bracket_kind (past m s)) (λ xs. agree_same _)

  pub computed_by_steady : (c : Code) (l : ℕ) (s : State S) → Agrees (computed_by m few c l s) (computed_by m many c l s)
  unfolding computed_by
  computed_by_steady c l s = agree_then _ _ _ _ (same.expr (with_in c) l (past m s)) (λ e. agree_same _)

  pub key_by_steady : (c : Code) (s : State S) → Agrees (key_by m few c s) (key_by m many c s)
  unfolding key_by
  key_by_steady c s = agree_if (at m left_bracket_kind s) _ _ _ _ (computed_by_steady c assignment_level s) (agree_if (is_word (kind (input m s))) _ _ _ _ (agree_same _) (agree_if (at m regex_kind s) _ _ _ _ (agree_same _) (literal_by_steady s)))

  pub private_by_steady : (s : State S) → Agrees (private_by m few s) (private_by m many s)
  unfolding private_by
  private_by_steady s = agree_same _

  pub parameter_by_steady : (c : Code) (s : State S) → Agrees (parameter_by m few c s) (parameter_by m many c s)
  unfolding parameter_by
  parameter_by_steady c s = agree_if (at m dot_dot_dot_kind s) _ _ _ _ (agree_then _ _ _ _ (same.pat (with_in c) (past m s)) (λ p. agree_same _)) (agree_then _ _ _ _ (same.pat (with_in c) s) (λ p. agree_if (at m assign_kind p.1) _ _ _ _ (agree_then _ _ _ _ (same.expr (with_in c) assignment_level (past m p.1)) (λ e. agree_same _)) (agree_same _)))

  pub parameter_step_steady : (c : Code) (ps : List Tree) (s : State S) → Agrees (parameter_step m few c ps s) (parameter_step m many c ps s)
  unfolding parameter_step
  parameter_step_steady c ps s = agree_if (at m right_paren_kind s) _ _ _ _ (agree_same _) (agree_then _ _ _ _ (parameter_by_steady c s) (λ p. agree_by _ _ (ap (λ b. at m comma_kind p.1 && not b) (same_rest m few many p.0)) _ _ _ _ (agree_same _) (agree_same _)))

  pub parameters_by_steady : (c : Code) (s : State S) → Agrees (parameters_by m few c s) (parameters_by m many c s)
  unfolding parameters_by
  parameters_by_steady c s = agree_after (eat m left_paren_kind s) _ _ (λ r. agree_iterate (bound m) _ _ (λ x r. parameter_step_steady c x r) [] r)

  pub function_by_steady : (c : Code) (whole : ℕ) (generator : Bool) (async : Bool) (s : State S) → Agrees (function_by m few c whole generator async s) (function_by m many c whole generator async s)
  unfolding function_by
  function_by_steady c whole generator async s = agree_then _ _ _ _ (parameters_by_steady (in_body generator async c) s) (λ ps. agree_then _ _ _ _ (same.body (in_body generator async c) ps.1) (λ b. agree_same _))

  pub setter_parameter_steady : (c : Code) (s : State S) → Agrees (setter_parameter m few c s) (setter_parameter m many c s)
  unfolding setter_parameter
  setter_parameter_steady c s = agree_after (eat m left_paren_kind s) _ _ (λ o. agree_then _ _ _ _ (parameter_by_steady c o) (λ p. agree_by _ _ (same_rest m few many p.0) _ _ _ _ (agree_same _) (agree_same _)))

  pub star_steady : (s : State S) → Agrees (star m few s) (star m many s)
  unfolding star
  star_steady s = agree_same _

  pub method_prop_by_steady : (c : Code) (whole : ℕ) (generator : Bool) (async : Bool) (s : State S) → Agrees (method_prop_by m few c whole generator async s) (method_prop_by m many c whole generator async s)
  unfolding method_prop_by
  method_prop_by_steady c whole generator async s = agree_then _ _ _ _ (key_by_steady c s) (λ k. agree_then _ _ _ _ (function_by_steady c whole generator async k.1) (λ f. agree_same _))

  pub getter_by_steady : (c : Code) (s : State S) → Agrees (getter_by m few c s) (getter_by m many c s)
  unfolding getter_by
  getter_by_steady c s = agree_then _ _ _ _ (key_by_steady c (past m s)) (λ k. agree_after (eat m left_paren_kind k.1) _ _ (λ o. agree_after (eat m right_paren_kind o) _ _ (λ p. agree_then _ _ _ _ (same.body (in_body false false c) p) (λ b. agree_same _))))

  pub setter_by_steady : (c : Code) (s : State S) → Agrees (setter_by m few c s) (setter_by m many c s)
  unfolding setter_by
  setter_by_steady c s = agree_then _ _ _ _ (key_by_steady c (past m s)) (λ k. agree_then _ _ _ _ (setter_parameter_steady (in_body false false c) k.1) (λ p. agree_then _ _ _ _ (same.body (in_body false false c) p.1) (λ b. agree_equal _ _ (ap (λ (t : Tree). Ok (setter_prop (spanned m (lo (input m s)) b.1) k.0 t b.0, b.1)) (same_pattern m few many p.0)))))

  pub prop_rest_steady : (c : Code) (s : State S) (k : Tree) (r : State S) → Agrees (prop_rest m few c s k r) (prop_rest m many c s k r)
  unfolding prop_rest
  prop_rest_steady c s k r = agree_if (at m colon_kind r) _ _ _ _ (agree_then _ _ _ _ (same.expr (with_in c) assignment_level (past m r)) (λ v. agree_same _)) (agree_if (at m left_paren_kind r) _ _ _ _ (agree_then _ _ _ _ (function_by_steady c (lo (input m s)) false false r) (λ f. agree_same _)) (agree_after (placed (bound m r) (name m c s)) _ _ (λ n. agree_if (at m assign_kind n.1) _ _ _ _ (agree_then _ _ _ _ (same.expr (with_in c) assignment_level (past m n.1)) (λ e. agree_same _)) (agree_same _))))

  pub prop_by_steady : (c : Code) (s : State S) → Agrees (prop_by m few c s) (prop_by m many c s)
  unfolding prop_by
  prop_by_steady c s = agree_if (at m dot_dot_dot_kind s) _ _ _ _ (agree_then _ _ _ _ (same.expr (with_in c) assignment_level (past m s)) (λ e. agree_same _)) (agree_if (at m mul_kind s) _ _ _ _ (method_prop_by_steady c (lo (input m s)) true false (past m s)) (agree_if (is_async_head m few s) _ _ _ _ (agree_then _ _ _ _ (star_steady (past m s)) (λ g. method_prop_by_steady c (lo (input m s)) g.0 true g.1)) (agree_if (is_accessor m few get_kind s) _ _ _ _ (getter_by_steady c s) (agree_if (is_accessor m few set_kind s) _ _ _ _ (setter_by_steady c s) (agree_then _ _ _ _ (key_by_steady c s) (λ k. prop_rest_steady c s k.0 k.1))))))

  pub prop_step_steady : (c : Code) (xs : Elements) (s : State S) → Agrees (prop_step m few c xs s) (prop_step m many c xs s)
  unfolding prop_step
  prop_step_steady c xs s = agree_if (at m right_brace_kind s) _ _ _ _ (agree_same _) (agree_then _ _ _ _ (prop_by_steady c s) (λ p. after_element_steady right_brace_kind (xs.items ++ p.0 ∷ []) p.1))

  pub object_by_steady : (c : Code) (s : State S) → Agrees (object_by m few c s) (object_by m many c s)
  unfolding object_by
  object_by_steady c s = agree_then _ _ _ _ (agree_iterate (bound m) _ _ (λ x r. prop_step_steady c x r) no_elements (past m s)) (λ ps. agree_same _)

  pub quasi_end_steady : (c : Code) (tagged : Bool) (x : Spans) (q : (Bool → Option Tree)) (s : State S) → Agrees (quasi_end m few c tagged x q s) (quasi_end m many c tagged x q s)
  unfolding quasi_end
  quasi_end_steady c tagged x q s = agree_if (at m back_quote_kind s) _ _ _ _ (agree_same _) (agree_after (eat m dollar_brace_kind s) _ _ (λ o. agree_then _ _ _ _ (same.expr (with_in c) expression_level o) (λ e. agree_same _)))

  pub quasi_step_steady : (c : Code) (tagged : Bool) (x : Spans) (s : State S) → Agrees (quasi_step m few c tagged x s) (quasi_step m many c tagged x s)
  unfolding quasi_step
  quasi_step_steady c tagged x s = agree_after (eat m template_kind s) _ _ (λ r. subst (λ q. Agrees (quasi_end m few c tagged x (quasi m few (content (input m s)) (first m few s)) r) (quasi_end m many c tagged x q r)) (sym (same_quasi m few many (content (input m s)) (first m few s))) (quasi_end_steady c tagged x (quasi m few (content (input m s)) (first m few s)) r))

  pub template_by_steady : (c : Code) (tagged : Bool) (s : State S) → Agrees (template_by m few c tagged s) (template_by m many c tagged s)
  unfolding template_by
  template_by_steady c tagged s = agree_then _ _ _ _ (agree_iterate (bound m) _ _ (λ x r. quasi_step_steady c tagged x r) (record { exprs = []; quasis = [] }) (past m s)) (λ x. agree_same _)

  pub arrow_by_steady : (c : Code) (start : ℕ) (async : Bool) (ps : List Tree) (s : State S) → Agrees (arrow_by m few c start async ps s) (arrow_by m many c start async ps s)
  unfolding arrow_by
  arrow_by_steady c start async ps s = agree_if (at m left_brace_kind (past m s)) _ _ _ _ (agree_then _ _ _ _ (same.body (in_list (with_in (in_arrow async c))) (past m s)) (λ b. agree_same _)) (agree_then _ _ _ _ (same.expr (in_arrow async c) assignment_level (past m s)) (λ b. agree_same _))

  pub params_of_steady : (commas : List ℕ) (xs : Elements) → Agrees (params_of m few commas xs) (params_of m many commas xs)
  unfolding params_of
  params_of_steady commas xs = agree_same _

  pub group_end_steady : (c : Code) (l : ℕ) (start : ℕ) (open_ : ℕ) (xs : Elements) (s : State S) → Agrees (group_end m few c l start open_ xs s) (group_end m many c l start open_ xs s)
  unfolding group_end params_of
  group_end_steady c l start open_ xs s = agree_if (heads_params m few l xs s) _ _ _ _ (agree_then _ _ _ _ (agree_placed (bound m s) _ _ (params_of_steady s.commas xs)) (λ ps. arrow_by_steady c start false ps s)) (agree_same _)

  pub group_by_steady : (c : Code) (l : ℕ) (s : State S) → Agrees (group_by m few c l s) (group_by m many c l s)
  unfolding group_by
  group_by_steady c l s = agree_then _ _ _ _ (elements_by_steady (with_in c) false right_paren_kind (past m s)) (λ xs. group_end_steady c l (lo (input m s)) (lo (input m (past m s))) xs.0 xs.1)

  pub ident_end_steady : (c : Code) (l : ℕ) (place : Span) (n : List ℕ) (s : State S) → Agrees (ident_end m few c l place n s) (ident_end m many c l place n s)
  unfolding ident_end
  ident_end_steady c l place n s = agree_if (arrows_at m few l s) _ _ _ _ (arrow_by_steady c place.lo.0 false (binding_ident place (ident place n) ∷ []) s) (agree_same _)

  pub arguments_by_steady : (c : Code) (s : State S) → Agrees (arguments_by m few c s) (arguments_by m many c s)
  unfolding arguments_by
  arguments_by_steady c s = agree_then _ _ _ _ (elements_by_steady c false right_paren_kind s) (λ xs. agree_same _)

  pub async_group_steady : (c : Code) (l : ℕ) (place : Span) (n : List ℕ) (s : State S) → Agrees (async_group m few c l place n s) (async_group m many c l place n s)
  unfolding async_group params_of
  async_group_steady c l place n s = agree_then _ _ _ _ (elements_by_steady (with_in c) false right_paren_kind (past m s)) (λ xs. agree_if (heads_params m few l xs.0 xs.1 && not (brk (input m s))) _ _ _ _ (agree_then _ _ _ _ (agree_placed (bound m xs.1) _ _ (params_of_steady xs.1.commas xs.0)) (λ ps. arrow_by_steady c place.lo.0 true ps xs.1)) (agree_same _))

  pub function_expr_name_steady : (c : Code) (start : ℕ) (generator : Bool) (async : Bool) (s : State S) → Agrees (function_expr_name m few c start generator async s) (function_expr_name m many c start generator async s)
  unfolding function_expr_name
  function_expr_name_steady c start generator async s = agree_if (at m left_paren_kind s) _ _ _ _ (agree_then _ _ _ _ (function_by_steady c start generator async s) (λ f. agree_same _)) (agree_after (name m (by generator async c) s) _ _ (λ n. agree_then _ _ _ _ (function_by_steady c start generator async n.1) (λ f. agree_same _)))

  pub function_expr_by_steady : (c : Code) (start : ℕ) (async : Bool) (s : State S) → Agrees (function_expr_by m few c start async s) (function_expr_by m many c start async s)
  unfolding function_expr_by
  function_expr_by_steady c start async s = agree_after (eat_word m c function_kind s) _ _ (λ r. agree_then _ _ _ _ (star_steady r) (λ g. function_expr_name_steady c start g.0 async g.1))

  pub async_by_steady : (c : Code) (l : ℕ) (s : State S) → Agrees (async_by m few c l s) (async_by m many c l s)
  unfolding async_by
  async_by_steady c l s = agree_if ((at m function_kind (past m s) && not (brk (input m (past m s)))) && not (barred c.context (input m (past m s)))) _ _ _ _ (function_expr_by_steady c (lo (input m s)) true (past m s)) (agree_if (is_async_param m few c l (past m s)) _ _ _ _ (agree_after (name m c (past m s)) _ _ (λ n. arrow_by_steady c (lo (input m s)) true (binding_ident (first m few (past m s)) (ident (first m few (past m s)) n.0) ∷ []) n.1)) (agree_if (at m left_paren_kind (past m s) && not (brk (input m (past m s)))) _ _ _ _ (async_group_steady c l (first_span (input m s)) (text (input m s)) (past m s)) (ident_end_steady c l (first_span (input m s)) (text (input m s)) (past m s))))

  pub class_expr_by_steady : (c : Code) (s : State S) → Agrees (class_expr_by m few c s) (class_expr_by m many c s)
  unfolding class_expr_by
  class_expr_by_steady c s = agree_after (eat_word m c class_kind s) _ _ (λ r. agree_if (is_name m (turned_strict c) r && not (at m left_brace_kind r)) _ _ _ _ (agree_after (name m (turned_strict c) r) _ _ (λ n. agree_then _ _ _ _ (same.class_tail (turned_strict (with_in c)) (lo (input m s)) n.1) (λ k. agree_same _))) (agree_then _ _ _ _ (same.class_tail (turned_strict (with_in c)) (lo (input m s)) r) (λ k. agree_same _)))

  pub new_end_steady : (c : Code) (start : ℕ) (f : Tree) (s : State S) → Agrees (new_end m few c start f s) (new_end m many c start f s)
  unfolding new_end
  new_end_steady c start f s = agree_if (at m left_paren_kind s && nat_le member_level (level f)) _ _ _ _ (agree_then _ _ _ _ (arguments_by_steady c (past m s)) (λ xs. agree_same _)) (agree_same _)

  pub callee_by_steady : (c : Code) (s : State S) → Agrees (callee_by m few c s) (callee_by m many c s)
  unfolding callee_by
  callee_by_steady c s = agree_if (at m async_kind s && (kind2 (input m s) == left_paren_kind)) _ _ _ _ (agree_same _) (same.expr c member_level s)

  pub new_by_steady : (c : Code) (s : State S) → Agrees (new_by m few c s) (new_by m many c s)
  unfolding new_by
  new_by_steady c s = agree_after (eat_word m c new_kind s) _ _ (λ r. agree_if (at m dot_kind r) _ _ _ _ (agree_same _) (agree_then _ _ _ _ (callee_by_steady c r) (λ f. new_end_steady c (lo (input m s)) f.0 f.1)))

  pub super_end_steady : (c : Code) (place : Span) (s : State S) → Agrees (super_end m few c place s) (super_end m many c place s)
  unfolding super_end
  super_end_steady c place s = agree_if (at m left_paren_kind s) _ _ _ _ (agree_then _ _ _ _ (arguments_by_steady c (past m s)) (λ xs. agree_same _)) (agree_if (at m left_bracket_kind s) _ _ _ _ (agree_then _ _ _ _ (computed_by_steady c expression_level s) (λ k. agree_same _)) (agree_same _))

  pub import_by_steady : (c : Code) (s : State S) → Agrees (import_by m few c s) (import_by m many c s)
  unfolding import_by
  import_by_steady c s = agree_after (eat_word m c import_kind s) _ _ (λ r. agree_if (at m dot_kind r) _ _ _ _ (agree_same _) (agree_after (eat m left_paren_kind r) _ _ (λ o. agree_then _ _ _ _ (elements_by_steady c false right_paren_kind o) (λ xs. agree_same _))))

  pub unary_by_steady : (c : Code) (s : State S) → Agrees (unary_by m few c s) (unary_by m many c s)
  unfolding unary_by
  unary_by_steady c s = agree_after (eat_word m c (kind (input m s)) s) _ _ (λ r. agree_then _ _ _ _ (same.expr c unary_level r) (λ e. agree_same _))

  pub update_by_steady : (c : Code) (s : State S) → Agrees (update_by m few c s) (update_by m many c s)
  unfolding update_by
  update_by_steady c s = agree_then _ _ _ _ (same.expr c unary_level (past m s)) (λ e. agree_same _)

  pub await_by_steady : (c : Code) (s : State S) → Agrees (await_by m few c s) (await_by m many c s)
  unfolding await_by
  await_by_steady c s = agree_after (eat_word m c await_kind s) _ _ (λ r. agree_then _ _ _ _ (same.expr c unary_level r) (λ e. agree_same _))

  pub yield_end_steady : (c : Code) (start : ℕ) (r : State S) → Agrees (yield_end m few c start r) (yield_end m many c start r)
  unfolding yield_end
  yield_end_steady c start r = agree_if (brk (input m r) || ends_yield m few (kind (input m r))) _ _ _ _ (agree_same _) (agree_if (at m mul_kind r) _ _ _ _ (agree_then _ _ _ _ (same.expr c assignment_level (past m r)) (λ e. agree_same _)) (agree_then _ _ _ _ (same.expr c assignment_level r) (λ e. agree_same _)))

  pub yield_by_steady : (c : Code) (s : State S) → Agrees (yield_by m few c s) (yield_by m many c s)
  unfolding yield_by
  yield_by_steady c s = agree_after (eat_word m c yield_kind s) _ _ (λ r. yield_end_steady c (lo (input m s)) r)

  pub word_by_steady : (c : Code) (l : ℕ) (s : State S) → Agrees (word_by m few c l s) (word_by m many c l s)
  unfolding word_by
  word_by_steady c l s = agree_if (at m async_kind s) _ _ _ _ (async_by_steady c l s) (agree_after (name m c s) _ _ (λ n. ident_end_steady c l (first_span (input m s)) n.0 n.1))

  pub fixed_steady : (c : Code) (f : (Span → Tree)) (s : State S) → Agrees (fixed m few c f s) (fixed m many c f s)
  fixed_steady c f s = agree_same _

  pub keyword_by_steady : (c : Code) (l : ℕ) (s : State S) → Agrees (keyword_by m few c l s) (keyword_by m many c l s)
  unfolding keyword_by
  keyword_by_steady c l s = agree_if (at m this_kind s) _ _ _ _ (fixed_steady c this_expr s) (agree_if (at m null_kind s) _ _ _ _ (fixed_steady c null_lit s) (agree_if (at m true_kind s) _ _ _ _ (fixed_steady c (λ p. bool_lit p true) s) (agree_if (at m false_kind s) _ _ _ _ (fixed_steady c (λ p. bool_lit p false) s) (agree_if (at m function_kind s) _ _ _ _ (function_expr_by_steady c (lo (input m s)) false s) (agree_if (at m class_kind s) _ _ _ _ (class_expr_by_steady c s) (agree_if (at m new_kind s) _ _ _ _ (new_by_steady c s) (agree_if (at m super_kind s) _ _ _ _ (agree_after (eat_word m c super_kind s) _ _ (λ r. super_end_steady c (first_span (input m s)) r)) (agree_if (at m import_kind s) _ _ _ _ (import_by_steady c s) (agree_if (is_unary (kind (input m s))) _ _ _ _ (unary_by_steady c s) (agree_if (at m await_kind s && c.context.in_async) _ _ _ _ (await_by_steady c s) (agree_if (at m yield_kind s && c.context.in_generator) _ _ _ _ (yield_by_steady c s) (word_by_steady c l s))))))))))))

  pub prefix_by_steady : (c : Code) (l : ℕ) (s : State S) → Agrees (prefix_by m few c l s) (prefix_by m many c l s)
  unfolding prefix_by
  prefix_by_steady c l s = agree_if (is_word (kind (input m s))) _ _ _ _ (keyword_by_steady c l s) (agree_if (at m left_paren_kind s) _ _ _ _ (group_by_steady c l s) (agree_if (at m left_bracket_kind s) _ _ _ _ (array_by_steady c s) (agree_if (at m left_brace_kind s) _ _ _ _ (object_by_steady c s) (agree_if (at m back_quote_kind s) _ _ _ _ (template_by_steady c false s) (agree_if (is_unary (kind (input m s))) _ _ _ _ (unary_by_steady c s) (agree_if (between plus_plus_kind minus_minus_kind (kind (input m s))) _ _ _ _ (update_by_steady c s) (literal_by_steady s)))))))

  pub member_name_steady : (may_private : Bool) (s : State S) → Agrees (member_name m few may_private s) (member_name m many may_private s)
  unfolding member_name
  member_name_steady may_private s = agree_if (at m hash_kind s) _ _ _ _ (agree_if (may_private) _ _ _ _ (private_by_steady s) (agree_same _)) (agree_same _)

  pub member_by_steady : (c : Code) (start : ℕ) (t : Tree) (s : State S) → Agrees (member_by m few c start t s) (member_by m many c start t s)
  unfolding member_by
  member_by_steady c start t s = agree_then _ _ _ _ (member_name_steady true (past m s)) (λ k. agree_same _)

  pub index_by_steady : (c : Code) (start : ℕ) (t : Tree) (s : State S) → Agrees (index_by m few c start t s) (index_by m many c start t s)
  unfolding index_by
  index_by_steady c start t s = agree_then _ _ _ _ (computed_by_steady c expression_level s) (λ k. agree_same _)

  pub call_by_steady : (c : Code) (start : ℕ) (t : Tree) (s : State S) → Agrees (call_by m few c start t s) (call_by m many c start t s)
  unfolding call_by
  call_by_steady c start t s = agree_then _ _ _ _ (arguments_by_steady c (past m s)) (λ xs. agree_same _)

  pub chain_by_steady : (c : Code) (start : ℕ) (t : Tree) (s : State S) → Agrees (chain_by m few c start t s) (chain_by m many c start t s)
  unfolding chain_by
  chain_by_steady c start t s = agree_if (at m left_paren_kind s) _ _ _ _ (agree_then _ _ _ _ (arguments_by_steady c (past m s)) (λ xs. agree_same _)) (agree_if (at m left_bracket_kind s) _ _ _ _ (agree_then _ _ _ _ (computed_by_steady c expression_level s) (λ k. agree_same _)) (agree_then _ _ _ _ (member_name_steady true s) (λ k. agree_same _)))

  pub cond_by_steady : (c : Code) (start : ℕ) (t : Tree) (s : State S) → Agrees (cond_by m few c start t s) (cond_by m many c start t s)
  unfolding cond_by
  cond_by_steady c start t s = agree_then _ _ _ _ (same.expr (with_in c) assignment_level (past m s)) (λ a. agree_after (eat m colon_kind a.1) _ _ (λ r. agree_then _ _ _ _ (same.expr c assignment_level r) (λ b. agree_same _)))

  pub assign_by_steady : (c : Code) (start : ℕ) (t : Tree) (s : State S) → Agrees (assign_by m few c start t s) (assign_by m many c start t s)
  unfolding assign_by
  assign_by_steady c start t s = agree_after (placed (bound m s) (to_target (kind (input m s)) s.commas t)) _ _ (λ p. agree_then _ _ _ _ (same.expr c assignment_level (past m s)) (λ e. agree_same _))

  pub binary_by_steady : (c : Code) (start : ℕ) (t : Tree) (s : State S) → Agrees (binary_by m few c start t s) (binary_by m many c start t s)
  unfolding binary_by
  binary_by_steady c start t s = agree_after (eat_word m c (kind (input m s)) s) _ _ (λ r. agree_then _ _ _ _ (same.expr c (right_level (kind (input m s))) r) (λ e. agree_same _))

  pub step_by_steady : (c : Code) (start : ℕ) (t : Tree) (s : State S) → Agrees (step_by m few c start t s) (step_by m many c start t s)
  unfolding step_by
  step_by_steady c start t s = agree_if (at m comma_kind s) _ _ _ _ (agree_then _ _ _ _ (same.expr c assignment_level (past m s)) (λ e. agree_same _)) (agree_if (is_assign_op (kind (input m s))) _ _ _ _ (assign_by_steady c start t s) (agree_if (at m question_mark_kind s && (kind2 (input m s) == dot_kind)) _ _ _ _ (agree_if (nat_le call_level (level t)) _ _ _ _ (chain_by_steady c start t (past m (past m s))) (agree_same _)) (agree_if (at m question_mark_kind s) _ _ _ _ (agree_if (nat_le coalesce_level (level t)) _ _ _ _ (cond_by_steady c start t s) (agree_same _)) (agree_if (operates c (kind (input m s))) _ _ _ _ (agree_if (fits_left (kind (input m s)) t) _ _ _ _ (binary_by_steady c start t s) (agree_same _)) (agree_if (between plus_plus_kind minus_minus_kind (kind (input m s))) _ _ _ _ (agree_same _) (agree_if (not (nat_le call_level (level t))) _ _ _ _ (agree_same _) (agree_if (at m left_paren_kind s) _ _ _ _ (call_by_steady c start t s) (agree_if (at m left_bracket_kind s) _ _ _ _ (index_by_steady c start t s) (agree_if (at m dot_kind s) _ _ _ _ (member_by_steady c start t s) (agree_if (at m back_quote_kind s && not (is_chain t)) _ _ _ _ (agree_then _ _ _ _ (template_by_steady c true s) (λ q. agree_same _)) (agree_same _)))))))))))

  pub loop_step_steady : (c : Code) (l : ℕ) (start : ℕ) (t : Tree) (s : State S) → Agrees (loop_step m few c l start t s) (loop_step m many c l start t s)
  unfolding loop_step
  loop_step_steady c l start t s = agree_if (nat_lt (goes_expr c (ends t) (input m s)) l) _ _ _ _ (agree_same _) (agree_then _ _ _ _ (step_by_steady c start t s) (λ x. agree_same _))

  pub loop_by_steady : (c : Code) (l : ℕ) (start : ℕ) (t : Tree) (s : State S) → Agrees (loop_by m few c l start t s) (loop_by m many c l start t s)
  unfolding loop_by
  loop_by_steady c l start t s = agree_if (nat_le l (level t)) _ _ _ _ (agree_iterate (bound m) _ _ (λ x r. loop_step_steady c l start x r) t s) (agree_same _)

  pub private_in_steady : (c : Code) (l : ℕ) (s : State S) → Agrees (private_in m few c l s) (private_in m many c l s)
  unfolding private_in
  private_in_steady c l s = agree_then _ _ _ _ (private_by_steady s) (λ p. agree_if (at m in_kind p.1 && (has_in c && nat_le l (binary_level in_kind))) _ _ _ _ (agree_then _ _ _ _ (binary_by_steady c (lo (input m s)) p.0 p.1) (λ t. loop_by_steady c l (lo (input m s)) t.0 t.1)) (agree_same _))

  pub expr_from_steady : (c : Code) (l : ℕ) (s : State S) → Agrees (expr_from m few c l s) (expr_from m many c l s)
  unfolding expr_from
  expr_from_steady c l s = agree_if (at m hash_kind s) _ _ _ _ (private_in_steady c l s) (agree_then _ _ _ _ (prefix_by_steady c l s) (λ t. loop_by_steady c l (lo (input m s)) t.0 t.1))

  pub expr_by_steady : (c : Code) (l : ℕ) (s : State S) → Agrees (expr_by m few c l s) (expr_by m many c l s)
  unfolding expr_by
  expr_by_steady c l s = expr_from_steady c l (operand m s)
