-- Scripts and modules (ECMA-262, clause 16): where their rules over two readers of nested parts agree.
use Rattle.std.proofs.Common.{ℕ, Bool, true, false, not, ◌&&◌, ◌||◌, List, [], ◌∷◌, ◌++◌, Option, Some, None}
use Rattle.base_token.specs.Kinds.{left_brace_kind, right_brace_kind, comma_kind, mul_kind, str_kind, shebang_kind, default_kind, function_kind, with_kind, class_kind, export_kind, import_kind, as_kind, assert_kind, from_kind}
use Rattle.tree_spec.specs.Tree.{Tree, import_default_specifier}
use Rattle.grammar_spec.specs.Tokens.Input.{Code, kind, brk, content, is_word, in_list, lo}
use Rattle.grammar_spec.specs.Tokens.Operators.{assignment_level}
use Rattle.grammar_spec.specs.Reader.Source.{unexpected, Stream, State, input, past, operand, bound, at, ended, eat, eat_word, Inner}
use Rattle.grammar_spec.specs.Reader.Expressions.{first}
use Rattle.grammar_spec.specs.Reader.Statements.{Body, starts_async}
use Rattle.grammar_spec.specs.Reader.Modules.{string_by, export_name_by, local_by, attributes_by, source_by, named_import, named_export_item, specifier_step, specifiers_by, star_import, import_end, import_rest, import_default, import_decl_by, export_default, export_star, export_list, starts_declaration, export_by, starts_import, item_by, program_item, program_step, line_of, program_rest, program_by}
use Rattle.grammar_laws.proofs.SteadyExpressions.{literal_by_steady, object_by_steady, function_expr_by_steady, class_expr_by_steady}
use Rattle.grammar_laws.proofs.Agrees.{Agrees, agree_same, agree_then, agree_placed, agree_after, agree_if, agree_iterate, Steady, same_line}

module _ {S : Type 0} (m : Stream S) (few many : Inner S) (same : Steady few many) where
  pub string_by_steady : (s : State S) → Agrees (string_by m few s) (string_by m many s)
  unfolding string_by
  string_by_steady s = agree_if (at m str_kind s) _ _ _ _ (literal_by_steady m few many same s) (agree_same _)

  pub export_name_by_steady : (s : State S) → Agrees (export_name_by m few s) (export_name_by m many s)
  unfolding export_name_by
  export_name_by_steady s = agree_if (at m str_kind s) _ _ _ _ (literal_by_steady m few many same s) (agree_same _)

  pub local_by_steady : (c : Code) (s : State S) → Agrees (local_by m few c s) (local_by m many c s)
  unfolding local_by
  local_by_steady c s = agree_same _

  pub attributes_by_steady : (c : Code) (s : State S) → Agrees (attributes_by m few c s) (attributes_by m many c s)
  unfolding attributes_by
  attributes_by_steady c s = agree_if (at m left_brace_kind s) _ _ _ _ (agree_then _ _ _ _ (object_by_steady m few many same c s) (λ o. agree_same _)) (agree_same _)

  pub source_by_steady : (c : Code) (s : State S) → Agrees (source_by m few c s) (source_by m many c s)
  unfolding source_by
  source_by_steady c s = agree_then _ _ _ _ (string_by_steady s) (λ f. agree_if (c.syntax.import_attributes && (at m with_kind f.1 || (at m assert_kind f.1 && not (brk (input m f.1))))) _ _ _ _ (agree_after (eat_word m c (kind (input m f.1)) f.1) _ _ (λ w. agree_then _ _ _ _ (attributes_by_steady c w) (λ o. agree_same _))) (agree_same _))

  pub named_import_steady : (c : Code) (s : State S) → Agrees (named_import m few c s) (named_import m many c s)
  unfolding named_import
  named_import_steady c s = agree_then _ _ _ _ (export_name_by_steady s) (λ n. agree_if (at m as_kind n.1) _ _ _ _ (agree_after (eat_word m c as_kind n.1) _ _ (λ a. agree_then _ _ _ _ (local_by_steady c a) (λ l. agree_same _))) (agree_then _ _ _ _ (agree_placed (bound m n.1) _ _ (local_by_steady c s)) (λ l. agree_same _)))

  pub named_export_item_steady : (c : Code) (s : State S) → Agrees (named_export_item m few c s) (named_export_item m many c s)
  unfolding named_export_item
  named_export_item_steady c s = agree_then _ _ _ _ (export_name_by_steady s) (λ n. agree_if (at m as_kind n.1) _ _ _ _ (agree_after (eat_word m c as_kind n.1) _ _ (λ a. agree_then _ _ _ _ (export_name_by_steady a) (λ e. agree_same _))) (agree_same _))

  pub specifier_step_steady : (imports : Bool) (c : Code) (xs : List Tree) (s : State S) → Agrees (specifier_step m few imports c xs s) (specifier_step m many imports c xs s)
  unfolding specifier_step
  specifier_step_steady imports c xs s = agree_if (at m right_brace_kind s) _ _ _ _ (agree_same _) (agree_then _ _ _ _ (agree_if (imports) _ _ _ _ (named_import_steady c s) (named_export_item_steady c s)) (λ x. agree_same _))

  pub specifiers_by_steady : (imports : Bool) (c : Code) (s : State S) → Agrees (specifiers_by m few imports c s) (specifiers_by m many imports c s)
  unfolding specifiers_by
  specifiers_by_steady imports c s = agree_iterate (bound m) _ _ (λ x r. specifier_step_steady imports c x r) [] s

  pub star_import_steady : (c : Code) (s : State S) → Agrees (star_import m few c s) (star_import m many c s)
  unfolding star_import
  star_import_steady c s = agree_after (eat m mul_kind s) _ _ (λ r. agree_after (eat_word m c as_kind r) _ _ (λ a. agree_then _ _ _ _ (local_by_steady c a) (λ l. agree_same _)))

  pub import_end_steady : (c : Code) (start : ℕ) (xs : List Tree) (s : State S) → Agrees (import_end m few c start xs s) (import_end m many c start xs s)
  unfolding import_end
  import_end_steady c start xs s = agree_after (eat_word m c from_kind s) _ _ (λ r. agree_then _ _ _ _ (source_by_steady c r) (λ f. agree_same _))

  pub import_rest_steady : (c : Code) (start : ℕ) (xs : List Tree) (s : State S) → Agrees (import_rest m few c start xs s) (import_rest m many c start xs s)
  unfolding import_rest
  import_rest_steady c start xs s = agree_if (at m mul_kind s) _ _ _ _ (agree_then _ _ _ _ (star_import_steady c s) (λ x. import_end_steady c start (xs ++ x.0 ∷ []) x.1)) (agree_after (eat m left_brace_kind s) _ _ (λ r. agree_then _ _ _ _ (specifiers_by_steady true c r) (λ ys. import_end_steady c start (xs ++ ys.0) ys.1)))

  pub import_default_steady : (c : Code) (start : ℕ) (s : State S) → Agrees (import_default m few c start s) (import_default m many c start s)
  unfolding import_default
  import_default_steady c start s = agree_then _ _ _ _ (local_by_steady c s) (λ l. agree_if (at m comma_kind l.1) _ _ _ _ (import_rest_steady c start (import_default_specifier (first m few s) l.0 ∷ []) (past m l.1)) (import_end_steady c start (import_default_specifier (first m few s) l.0 ∷ []) l.1))

  pub import_decl_by_steady : (c : Code) (s : State S) → Agrees (import_decl_by m few c s) (import_decl_by m many c s)
  unfolding import_decl_by
  import_decl_by_steady c s = agree_after (eat_word m c import_kind s) _ _ (λ r. agree_if (at m str_kind r) _ _ _ _ (agree_then _ _ _ _ (source_by_steady c r) (λ f. agree_same _)) (agree_if (is_word (kind (input m r))) _ _ _ _ (import_default_steady c (lo (input m s)) r) (import_rest_steady c (lo (input m s)) [] r)))

  pub export_default_steady : (c : Code) (start : ℕ) (s : State S) → Agrees (export_default m few c start s) (export_default m many c start s)
  unfolding export_default
  export_default_steady c start s = agree_if (at m function_kind s) _ _ _ _ (agree_then _ _ _ _ (function_expr_by_steady m few many same c (lo (input m s)) false s) (λ d. agree_same _)) (agree_if (starts_async m few s) _ _ _ _ (agree_then _ _ _ _ (function_expr_by_steady m few many same c (lo (input m s)) true (past m s)) (λ d. agree_same _)) (agree_if (at m class_kind s) _ _ _ _ (agree_then _ _ _ _ (class_expr_by_steady m few many same c s) (λ d. agree_same _)) (agree_then _ _ _ _ (same.expr c assignment_level s) (λ e. agree_same _))))

  pub export_star_steady : (c : Code) (start : ℕ) (s : State S) → Agrees (export_star m few c start s) (export_star m many c start s)
  unfolding export_star
  export_star_steady c start s = agree_after (eat m mul_kind s) _ _ (λ r. agree_if (at m as_kind r) _ _ _ _ (agree_after (eat_word m c as_kind r) _ _ (λ a. agree_then _ _ _ _ (export_name_by_steady a) (λ n. agree_after (eat_word m c from_kind n.1) _ _ (λ f. agree_then _ _ _ _ (source_by_steady c f) (λ x. agree_same _))))) (agree_after (eat_word m c from_kind r) _ _ (λ f. agree_then _ _ _ _ (source_by_steady c f) (λ x. agree_same _))))

  pub export_list_steady : (c : Code) (start : ℕ) (s : State S) → Agrees (export_list m few c start s) (export_list m many c start s)
  unfolding export_list
  export_list_steady c start s = agree_after (eat m left_brace_kind s) _ _ (λ r. agree_then _ _ _ _ (specifiers_by_steady false c r) (λ xs. agree_if (at m from_kind xs.1) _ _ _ _ (agree_after (eat_word m c from_kind xs.1) _ _ (λ f. agree_then _ _ _ _ (source_by_steady c f) (λ x. agree_same _))) (agree_same _)))

  pub export_by_steady : (c : Code) (s : State S) → Agrees (export_by m few c s) (export_by m many c s)
  unfolding export_by
  export_by_steady c s = agree_after (eat_word m c export_kind s) _ _ (λ r. agree_if (at m default_kind r) _ _ _ _ (agree_after (eat_word m c default_kind r) _ _ (λ d. export_default_steady c (lo (input m s)) (operand m d))) (agree_if (at m mul_kind r) _ _ _ _ (export_star_steady c (lo (input m s)) r) (agree_if (at m left_brace_kind r) _ _ _ _ (export_list_steady c (lo (input m s)) r) (agree_if (starts_declaration m few (in_list c) r) _ _ _ _ (agree_then _ _ _ _ (same.stmt (in_list c) r) (λ d. agree_same _)) (agree_same _)))))

  pub item_by_steady : (modules : Bool) (c : Code) (s : State S) → Agrees (item_by m few modules c s) (item_by m many modules c s)
  unfolding item_by
  item_by_steady modules c s = agree_if (starts_import m few s) _ _ _ _ (agree_if (modules) _ _ _ _ (import_decl_by_steady c s) (agree_same _)) (agree_if (at m export_kind s) _ _ _ _ (agree_if (modules) _ _ _ _ (export_by_steady c s) (agree_same _)) (same.stmt c s))

  pub program_item_steady : (modules : Bool) (b : Body) (s : State S) → Agrees (program_item m few modules b s) (program_item m many modules b s)
  unfolding program_item
  program_item_steady modules b s = agree_then _ _ _ _ (item_by_steady modules (in_list b.code) s) (λ t. agree_same _)

  pub program_step_steady : (modules : Bool) (b : Body) (s : State S) → Agrees (program_step m few modules b s) (program_step m many modules b s)
  unfolding program_step
  program_step_steady modules b s = agree_if (ended m s) _ _ _ _ (agree_same _) (program_item_steady modules b (operand m s))

  pub program_rest_steady : (modules : Bool) (c : Code) (start : ℕ) (l : Option (List ℕ)) (s : State S) → Agrees (program_rest m few modules c start l s) (program_rest m many modules c start l s)
  unfolding program_rest
  program_rest_steady modules c start l s = agree_then _ _ _ _ (agree_iterate (bound m) _ _ (λ x r. program_step_steady modules x r) (record { items = []; code = c; starts = true }) s) (λ b. agree_same _)

  pub program_by_steady : (modules : Bool) (c : Code) (s : State S) → Agrees (program_by m few modules c s) (program_by m many modules c s)
  unfolding program_by
  program_by_steady modules c s = agree_if (at m shebang_kind s) _ _ _ _ (rw (same_line m few many (content (input m s))) (by_line (line_of m few (content (input m s))))) (program_rest_steady modules c (lo (input m s)) None s)
    where
      by_line : (o : Option (List ℕ)) → Agrees {A = Tree × State S} (elim o [ None ↦ unexpected m s | Some l ↦ program_rest m few modules c (lo (input m s)) (Some l) (past m s) ]) (elim o [ None ↦ unexpected m s | Some l ↦ program_rest m many modules c (lo (input m s)) (Some l) (past m s) ])
      by_line None = agree_same _
      by_line (Some l) = program_rest_steady modules c (lo (input m s)) (Some l) (past m s)
