-- Rows of facts: a program's text, how it is read, and what that must give.
use Rattle.std.proofs.Common.{◌≡◌, ℕ, Bool, true, false, if◌then◌else◌, List, [], ◌∷◌, ◌++◌, Result, Ok, Err, codes, length, bytes_eq}
use Rattle.tree_spec.specs.Error.{Error}
use Rattle.tree_spec.specs.EsSyntax.{EsSyntax}
use Rattle.tree_spec.specs.Operators.{operator_text}
use Rattle.tree_spec.specs.Words.{kind_of}
use Rattle.tree_spec.specs.Tree.{Tree}
use Rattle.grammar_spec.specs.Judge.Early.{row, early_errors, faults_in}
use Rattle.grammar_spec.specs.Tokens.Input.{Input, script_code}
use Rattle.grammar_spec.specs.Reader.Source.{Fault, Unexpected, TooDeep, State, list_stream, eat, eat_word, name, any_word, end_of, iterate_n, iterate}
use Rattle.grammar_spec.specs.Tokens.Shape.{is_clean}
use Rattle.grammar_spec.specs.Reader.Expressions.{literal_by, element_by, after_element, element_step, elements_by, array_by, computed_by, key_by, private_by, parameter_by, parameter_step, parameters_by, function_by, setter_parameter, star, method_prop_by, getter_by, setter_by, prop_rest, prop_by, prop_step, object_by, quasi_end, quasi_step, template_by, arrow_by, params_of, group_end, group_by, ident_end, arguments_by, async_group, function_expr_name, function_expr_by, async_by, class_expr_by, new_end, callee_by, new_by, super_end, import_by, unary_by, update_by, await_by, yield_end, yield_by, word_by, keyword_by, prefix_by, member_name, member_by, index_by, call_by, chain_by, cond_by, assign_by, binary_by, step_by, loop_step, loop_by, private_in, expr_from, expr_by}
use Rattle.grammar_spec.specs.Reader.Statements.{initial_pat, after_item, array_item, array_pat_by, keyed_item, named_item, pattern_prop, object_item, object_pat_by, pat_by, block_step, block_rest, block_by, body_item, body_step, body_by, declarator_by, declarator_step, declarators_by, variables_by, using_by, function_decl_by, class_decl_by, field_value, class_key, class_method_by, class_getter, class_setter, accessor_by, field_or_method, generator_member, member_rest, static_by, member_step, members_by, class_tail_by, in_parens, sub_by, with_by, while_by, do_by, else_by, if_step, if_by, return_by, throw_by, label_by, jump_by, debugger_by, case_step, case_rest, case_by, cases_step, switch_by, catch_by, finally_by, try_by, clause_by, for_rest, over_rest, in_rest, of_rest, head_rest, for_variables, for_using, for_expression_rest, for_expression, for_head, for_by, labelled_by, expression_by, keyword_stmt, stmt_by, stmt_from}
use Rattle.grammar_spec.specs.Reader.Modules.{string_by, export_name_by, local_by, attributes_by, source_by, named_import, named_export_item, specifier_step, specifiers_by, star_import, import_end, import_rest, import_default, import_decl_by, export_default, export_star, export_list, export_by, item_by, program_item, program_step, program_rest, program_by}
use Rattle.grammar_spec.specs.Reader.Reading.{readers, finish, read_program, read_list, errors_of}
use Rattle.grammar_spec.proofs.reader.Texts.{punctuator, word, number, quoted, pattern, characters, closing, hashbang, cut, tokens, places_of}
use Rattle.grammar_spec.proofs.reader.Shapes.{shape}

abbrev pub plain_syntax : EsSyntax
plain_syntax = record { jsx = false; fn_bind = false; decorators = false; decorators_before_export = false; export_default_from = false; import_attributes = false; allow_super_outside_method = false; allow_return_outside_function = false; auto_accessors = false; explicit_resource_management = false }

-- import attributes, auto accessors and `using`
abbrev pub full_syntax : EsSyntax
full_syntax = record plain_syntax { import_attributes = true; auto_accessors = true; explicit_resource_management = true }

-- what a reading gives: the shape of a tree, `no` where nothing is read, `deep`
abbrev pub told : Result Tree Fault → List ℕ
told (Ok t) = shape t
told (Err (Unexpected n)) = codes "no"
told (Err (TooDeep n)) = codes "deep"

-- early errors: each by its row in the table, and where it starts and ends
abbrev pub fault_told : Error → List ℕ
fault_told e = row e.kind ∷ e.span.lo.0 ∷ e.span.hi.0 ∷ []

abbrev pub faults_told : List Error → List ℕ
faults_told [] = []
faults_told (e ∷ es) = fault_told e ++ faults_told es

abbrev pub errors_told : Result (List Error) Fault → List ℕ
errors_told (Ok es) = faults_told es
errors_told (Err f) = 0 ∷ []

-- a row: what was read, and what was wanted
pub record Row : Type 0 where
  pub text : List ℕ
  pub got : List ℕ
  pub wanted : List ℕ

abbrev pub read_text : Bool → EsSyntax → List ℕ → Result Tree Fault
read_text modules syntax text = read_list 40 modules syntax 1 (places_of text)

-- a script, a module, both with every part on; and what is no script or no module
unfoldable pub script_row : List ℕ → List ℕ → Row
script_row text wanted = record { text = text; got = told (read_text false plain_syntax text); wanted = wanted }

unfoldable pub module_row : List ℕ → List ℕ → Row
module_row text wanted = record { text = text; got = told (read_text true plain_syntax text); wanted = wanted }

unfoldable pub full_row : List ℕ → List ℕ → Row
full_row text wanted = record { text = text; got = told (read_text true full_syntax text); wanted = wanted }

unfoldable pub no_script : List ℕ → Row
no_script text = record { text = text; got = told (read_text false plain_syntax text); wanted = codes "no" }

unfoldable pub no_module : List ℕ → Row
no_module text = record { text = text; got = told (read_text true plain_syntax text); wanted = codes "no" }

-- where what is no script or no module goes wrong: how many tokens are left there
abbrev pub left_told : Result Tree Fault → List ℕ
left_told (Ok t) = []
left_told (Err (Unexpected n)) = n ∷ []
left_told (Err (TooDeep n)) = []

unfoldable pub no_script_from : List ℕ → ℕ → Row
no_script_from text left = record { text = text; got = left_told (read_text false plain_syntax text); wanted = left ∷ [] }

unfoldable pub no_module_from : List ℕ → ℕ → Row
no_module_from text left = record { text = text; got = left_told (read_text true plain_syntax text); wanted = left ∷ [] }

-- An expression of a level at the front of a text, in a script's code: its shape, and how many tokens are left.
abbrev pub front_told : Result (Tree × State Input) Fault → List ℕ
front_told (Ok x) = length x.1.source.places ∷ shape x.0
front_told (Err (Unexpected n)) = codes "no"
front_told (Err (TooDeep n)) = codes "deep"

abbrev pub read_front : ℕ → List ℕ → Result (Tree × State Input) Fault
read_front level text = (readers list_stream 40).expr (script_code plain_syntax) level (record { source = record { last = 1; places = places_of text }; commas = [] })

unfoldable pub front_row : ℕ → List ℕ → ℕ → List ℕ → Row
front_row level text left wanted = record { text = text; got = front_told (read_front level text); wanted = left ∷ wanted }

unfoldable pub no_front : ℕ → List ℕ → Row
no_front level text = record { text = text; got = front_told (read_front level text); wanted = codes "no" }

-- a statement at the front of a text, in the same way
abbrev pub read_statement_front : List ℕ → Result (Tree × State Input) Fault
read_statement_front text = (readers list_stream 40).stmt (script_code plain_syntax) (record { source = record { last = 1; places = places_of text }; commas = [] })

unfoldable pub statement_front_row : List ℕ → ℕ → List ℕ → Row
statement_front_row text left wanted = record { text = text; got = front_told (read_statement_front text); wanted = left ∷ wanted }

unfoldable pub no_statement_front : List ℕ → Row
no_statement_front text = record { text = text; got = front_told (read_statement_front text); wanted = codes "no" }

-- the early errors of a script, and of a module
unfoldable pub script_faults : List ℕ → List ℕ → Row
script_faults text wanted = record { text = text; got = errors_told (errors_of plain_syntax (read_text false plain_syntax text)); wanted = wanted }

unfoldable pub module_faults : List ℕ → List ℕ → Row
module_faults text wanted = record { text = text; got = errors_told (errors_of full_syntax (read_text true full_syntax text)); wanted = wanted }

-- the rows that give something else
unfoldable pub wrong : List Row → List Row
wrong [] = []
wrong (r ∷ rs) = let others = wrong rs in if bytes_eq r.got r.wanted then others else r ∷ others

-- no row of a table is wrong
abbrev pub Hold : List Row → Type 0
Hold rows = wrong rows ≡ []

-- what the facts open: each rule of the reading function
unfoldable pub opened : ℕ
unfolding kind_of operator_text script_row module_row full_row no_script no_module no_script_from no_module_from front_row no_front statement_front_row no_statement_front script_faults module_faults wrong shape early_errors faults_in punctuator word number quoted pattern characters closing hashbang cut tokens places_of eat eat_word name any_word end_of iterate_n iterate is_clean literal_by element_by after_element element_step elements_by array_by computed_by key_by private_by parameter_by parameter_step parameters_by function_by setter_parameter star method_prop_by getter_by setter_by prop_rest prop_by prop_step object_by quasi_end quasi_step template_by arrow_by params_of group_end group_by ident_end arguments_by async_group function_expr_name function_expr_by async_by class_expr_by new_end callee_by new_by super_end import_by unary_by update_by await_by yield_end yield_by word_by keyword_by prefix_by member_name member_by index_by call_by chain_by cond_by assign_by binary_by step_by loop_step loop_by private_in expr_from expr_by initial_pat after_item array_item array_pat_by keyed_item named_item pattern_prop object_item object_pat_by pat_by block_step block_rest block_by body_item body_step body_by declarator_by declarator_step declarators_by variables_by using_by function_decl_by class_decl_by field_value class_key class_method_by class_getter class_setter accessor_by field_or_method generator_member member_rest static_by member_step members_by class_tail_by in_parens sub_by with_by while_by do_by else_by if_step if_by return_by throw_by label_by jump_by debugger_by case_step case_rest case_by cases_step switch_by catch_by finally_by try_by clause_by for_rest over_rest in_rest of_rest head_rest for_variables for_using for_expression_rest for_expression for_head for_by labelled_by expression_by keyword_stmt stmt_by stmt_from string_by export_name_by local_by attributes_by source_by named_import named_export_item specifier_step specifiers_by star_import import_end import_rest import_default import_decl_by export_default export_star export_list export_by item_by program_item program_step program_rest program_by readers finish read_program read_list errors_of
opened = 0
