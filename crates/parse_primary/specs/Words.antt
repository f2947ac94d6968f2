-- Words that start an expression, by parts: those that are values, those of functions and classes, and operators (ECMA-262, 13.2, 13.3 and 13.5).
use Rattle.std.specs.Prelude.{ℕ, ◌&&◌, if◌then◌else◌, true, false}
use Rattle.base_token.specs.Kinds.{true_kind, false_kind, await_kind, yield_kind, function_kind, class_kind, new_kind, super_kind, import_kind, back_quote_kind, left_bracket_kind, left_brace_kind, plus_plus_kind, minus_minus_kind}
use Rattle.tree_spec.specs.Tree.{Tree, bool_lit}
use Rattle.grammar_spec.specs.Tokens.Input.{Code, kind}
use Rattle.grammar_spec.specs.Tokens.Operators.{between}
use Rattle.grammar_spec.specs.Reader.Source.{◌>>=◌, Stream, Read, Inner, input, at, eat_word, here}
use Rattle.grammar_spec.specs.Reader.Expressions.{is_unary, first, fixed, function_expr_by, class_expr_by, new_by, super_end, import_by, unary_by, update_by, await_by, yield_by, word_by, array_by, object_by, template_by, literal_by}

module _ {S : Type 0} (m : Stream S) (inner : Inner S) where
  abbrev pub super_by : Code → Read S Tree
  super_by c s = eat_word m c super_kind s >>= λ r. super_end m inner c (first m inner s) r

  abbrev pub operator_word : Code → ℕ → Read S Tree
  operator_word c l s =
      if is_unary (kind (input m s)) then unary_by m inner c s
      else (if at m await_kind s && c.context.in_async then await_by m inner c s
      else (if at m yield_kind s && c.context.in_generator then yield_by m inner c s
      else word_by m inner c l s))

  abbrev pub member_word : Code → ℕ → Read S Tree
  member_word c l s =
      if at m new_kind s then new_by m inner c s
      else (if at m super_kind s then super_by c s
      else (if at m import_kind s then import_by m inner c s
      else operator_word c l s))

  abbrev pub definition_word : Code → ℕ → Read S Tree
  definition_word c l s =
      if at m function_kind s then function_expr_by m inner c (here m s) false s
      else (if at m class_kind s then class_expr_by m inner c s
      else member_word c l s)

  abbrev pub boolean_word : Code → ℕ → Read S Tree
  boolean_word c l s =
      if at m true_kind s then fixed m inner c (λ p. bool_lit p true) s
      else (if at m false_kind s then fixed m inner c (λ p. bool_lit p false) s
      else definition_word c l s)

  -- operators before an operand, and literals
  unfoldable pub operator_mark : Code → Read S Tree
  operator_mark c s =
      if is_unary (kind (input m s)) then unary_by m inner c s
      else (if between plus_plus_kind minus_minus_kind (kind (input m s)) then update_by m inner c s
      else literal_by m inner s)

  -- brackets, braces and templates
  unfoldable pub list_mark : Code → Read S Tree
  list_mark c s =
      if at m left_bracket_kind s then array_by m inner c s
      else (if at m left_brace_kind s then object_by m inner c s
      else (if at m back_quote_kind s then template_by m inner c false s
      else operator_mark c s))
