-- What a tree produces keeps the braces and templates that are open: by induction on the tree, a line a node.
use Rattle.std.proofs.Common.{◌≡◌, Bool, true, false, ◌&&◌, if◌then◌else◌, List, [], ◌∷◌, Option, Some, None, refl, sym, ap, ◌∙◌, subst, true≢false, arith}
use Rattle.base_token.specs.declared.place.Span.{Span}
use Rattle.base_token.specs.Kinds.{null_kind, true_kind, false_kind, break_kind, continue_kind, this_kind, template_kind}
use Rattle.tree_spec.specs.Tree.{Tree, Trees, script, es_module, import_decl, export_decl, named_export, export_default_decl, export_default_expr, export_all, import_named_specifier, import_default_specifier, import_star_as_specifier, export_namespace_specifier, export_named_specifier, block_stmt, empty_stmt, debugger_stmt, with_stmt, return_stmt, labeled_stmt, break_stmt, continue_stmt, if_stmt, switch_stmt, switch_case, throw_stmt, try_stmt, catch_clause, while_stmt, do_while_stmt, for_stmt, for_in_stmt, for_of_stmt, expr_stmt, class_decl, fn_decl, var_decl, using_decl, var_declarator, function, param, class, constructor, class_method, private_method, class_prop, private_prop, static_block, auto_accessor, ident_name, computed_prop_name, private_name, this_expr, array_lit, object_lit, fn_expr, unary_expr, update_expr, bin_expr, assign_expr, member_expr, super_prop_expr, cond_expr, call_expr, new_expr, seq_expr, ident, tpl, tpl_element, tagged_tpl, arrow_expr, class_expr, yield_expr, meta_prop_expr, await_expr, paren_expr, opt_chain_expr, opt_call, super, import, expr_or_spread, spread_element, key_value_prop, assign_prop, getter_prop, setter_prop, method_prop, str_lit, bool_lit, null_lit, number_lit, big_int_lit, regex_lit, binding_ident, array_pat, rest_pat, object_pat, assign_pat, key_value_pat_prop, assign_pat_prop, expr_pat, list, absent, none, more}
use Rattle.grammar_spec.specs.Tokens.Input.{PlacedToken, Input, Code, template_goal, turned_strict}
use Rattle.grammar_spec.specs.Tokens.Operators.{expression_level, assignment_level}
use Rattle.grammar_spec.specs.Tokens.Shape.{is_private, is_item, function_parts, class_span, is_key, declarators_end, FunctionParts, is_use_strict, is_directive}
use Rattle.grammar_spec.specs.Children.{child, Child, is_module_item, Items, AtEnd}
use Rattle.grammar_spec.specs.Grammar.{Produces, children}
use Rattle.grammar_laws.specs.Slash.TemplateLaws.{Outside, Inside, Behind, over, ProgramsMatch}
use Rattle.grammar_laws.proofs.slash.Walks.{Goes, AllWalked, proper, sorted, plain, Plain, takes_in}
use Rattle.grammar_laws.proofs.slash.TemplateExpressions.{accessed_name_walk, array_literal_walk, assignment_walk, await_walk, big_int_literal_walk, binary_walk, bracketed_walk, call_walk, chain_call_walk, chain_member_walk, conditional_walk, cover_initialized_name_walk, dotted_walk, element_walk, identifier_name_walk, identifier_walk, import_call_walk, keyword_walk, member_walk, meta_property_walk, new_bare_walk, new_with_walk, numeric_literal_walk, object_literal_walk, parenthesized_expression_walk, private_identifier_walk, property_value_walk, regular_expression_literal_walk, sequence_walk, spread_walk, string_literal_walk, super_call_walk, super_property_walk, tagged_template_walk, template_literal_walk, unary_walk, update_walk, yield_bare_walk, yield_walk, Quasi, AllQuasis}
use Rattle.grammar_laws.proofs.slash.TemplatePatterns.{array_pattern_walk, initialised_walk, keyed_item_walk, named_item_walk, object_pattern_walk, rest_walk}
use Rattle.grammar_laws.proofs.slash.TemplateFunctions.{arrow_block_walk, arrow_expression_walk, auto_accessor_walk, class_declaration_walk, class_expression_walk, class_method_walk, class_tail_walk, constructor_walk, field_walk, function_declaration_walk, function_expression_walk, function_walk, getter_walk, object_method_walk, parameter_walk, setter_walk, static_block_walk}
use Rattle.grammar_laws.proofs.slash.TemplateStatements.{block_walk, case_walk, catch_walk, debugger_walk, declarator_walk, do_while_walk, empty_walk, expression_statement_walk, for_expression_walk, for_in_walk, for_of_walk, for_using_walk, for_variables_walk, head_target_walk, head_using_walk, head_variables_walk, if_walk, jump_walk, labelled_walk, of_target_walk, return_walk, switch_walk, throw_walk, try_walk, using_walk, variables_walk, while_walk, with_walk}
use Rattle.grammar_laws.proofs.slash.TemplateModules.{default_declaration_walk, default_expression_walk, default_import_walk, export_all_walk, export_declaration_walk, exports_walk, import_walk, named_export_walk, named_import_walk, program_walk, star_export_walk, star_import_walk}
use Rattle.grammar_spec.specs.Expressions.{AccessedName, Bracketed, Dotted}
use Rattle.grammar_spec.specs.Functions.{ClassMethod, FunctionDeclaration, FunctionExpression, ObjectMethod}
use Rattle.grammar_spec.specs.Statements.{HeadTarget, HeadUsing, HeadVariables, OfTarget}

constant : (v : Bool) → Plain (if v then true_kind else false_kind)
constant true = plain true_kind refl refl refl refl refl refl refl
constant false = plain false_kind refl refl refl refl refl refl refl

has_parts : (f : Tree) → (function_parts f ≡ None → ⊥) → proper f ≡ true
has_parts (tpl_element s t w u) h = absurd (h refl)
has_parts (expr_pat e) h = absurd (h refl)
has_parts _ h = refl

abbrev NoSpan : Option Span → Type 0
NoSpan None = Unit {0}
NoSpan (Some s) = ⊥

has_span : (k : Tree) (s : Span) → class_span k ≡ Some s → proper k ≡ true
has_span (tpl_element s t w u) q h = absurd (subst NoSpan h tt)
has_span (expr_pat e) q h = absurd (subst NoSpan h tt)
has_span _ q h = refl

key_sort : (t : Tree) → is_key t ≡ true → proper t ≡ true
key_sort t h = sorted is_key (λ s t w u. refl) (λ e. refl) t h

private_sort : (t : Tree) → is_private t ≡ true → proper t ≡ true
private_sort t h = sorted is_private (λ s t w u. refl) (λ e. refl) t h

item_sort : (t : Tree) → is_item t ≡ true → proper t ≡ true
item_sort t h = sorted is_item (λ s t w u. refl) (λ e. refl) t h

module_sort : (t : Tree) → is_module_item t ≡ true → proper t ≡ true
module_sort t h = sorted is_module_item (λ s t w u. refl) (λ e. refl) t h

mutual
  pub walk : (t : Tree) (c : Code) (pl : c.placed ≡ true) (gs : List Bool) (ts r : Input) → proper t ≡ true → Produces t c ts r → Goes (Outside gs) (Outside gs) ts r
  walk (this_expr s) c pl gs ts r pp hh = keyword_walk this_kind (plain this_kind refl refl refl refl refl refl refl) c pl s gs ts r hh
  walk (null_lit s) c pl gs ts r pp hh = keyword_walk null_kind (plain null_kind refl refl refl refl refl refl refl) c pl s gs ts r hh
  walk (bool_lit s v) c pl gs ts r pp hh = keyword_walk (if v then true_kind else false_kind) (constant v) c pl s gs ts r hh
  walk (ident s n) c pl gs ts r pp hh = identifier_walk c pl s n gs ts r hh
  walk (ident_name s n) c pl gs ts r pp hh = identifier_name_walk c pl s n gs ts r hh
  walk (private_name s n) c pl gs ts r pp hh = private_identifier_walk c pl s n gs ts r hh
  walk (str_lit s u w) c pl gs ts r pp hh = string_literal_walk c pl s u w gs ts r hh
  walk (number_lit s v w) c pl gs ts r pp hh = numeric_literal_walk c pl s v w gs ts r hh
  walk (big_int_lit s b d w) c pl gs ts r pp hh = big_int_literal_walk c pl s b d w gs ts r hh
  walk (regex_lit s e f) c pl gs ts r pp hh = regular_expression_literal_walk c pl s e f gs ts r hh
  walk (expr_or_spread s d e) c pl gs ts r pp hh = element_walk c pl s d (child e (λ y. Produces e y)) (walk e) gs ts r hh
  walk (array_lit s xs) c pl gs ts r pp hh = array_literal_walk c pl s (children xs) (walks xs) gs ts r hh
  walk (object_lit s ps) c pl gs ts r pp hh = object_literal_walk c pl s (children ps) (walks ps) gs ts r hh
  walk (key_value_prop s k v) c pl gs ts r pp hh = property_value_walk c pl s (child k (λ y. Produces k y)) (walk k) (child v (λ y. Produces v y)) (walk v) gs ts r hh
  walk (assign_prop s k e) c pl gs ts r pp hh = cover_initialized_name_walk c pl s (child k (λ y. Produces k y)) (walk k) (child e (λ y. Produces e y)) (walk e) gs ts r hh
  walk (spread_element s e) c pl gs ts r pp hh = spread_walk c pl s (child e (λ y. Produces e y)) (walk e) gs ts r hh
  walk (computed_prop_name s e) c pl gs ts r pp hh = bracketed_walk assignment_level (omega arith) c pl s (child e (λ y. Produces e y)) (walk e) gs ts r hh
  walk (tpl_element s t w u) c pl gs ts r pp hh = absurd (true≢false (sym pp))
  walk (tpl s es qs) c pl gs ts r pp hh = template_literal_walk false c pl s (children es) (walks es) (children qs) (quasis qs) gs ts r hh
  walk (paren_expr s e) c pl gs ts r pp hh = parenthesized_expression_walk c pl s (child e (λ y. Produces e y)) (walk e) gs ts r hh
  walk (member_expr s o (computed_prop_name t e)) c pl gs ts r pp hh = member_walk c pl s (child o (λ y. Produces o y)) (walk o) (λ m n. Bracketed expression_level c t (child e (λ y. Produces e y)) m n) (λ yg ym yn yh. bracketed_walk expression_level (omega arith) c pl t (child e (λ y. Produces e y)) (walk e) yg ym yn yh) gs ts r hh
  walk (member_expr s o k) c pl gs ts r pp hh = member_walk c pl s (child o (λ y. Produces o y)) (walk o) (λ m n. Dotted true c (child k (λ y. Produces k y)) m n) (λ yg ym yn yh. dotted_walk true c pl (child k (λ y. Produces k y)) (walk k) yg ym yn yh) gs ts r hh
  walk (super_prop_expr s (super t) (computed_prop_name q e)) c pl gs ts r pp hh = super_property_walk c pl s t (λ m n. Bracketed expression_level c q (child e (λ y. Produces e y)) m n) (λ yg ym yn yh. bracketed_walk expression_level (omega arith) c pl q (child e (λ y. Produces e y)) (walk e) yg ym yn yh) gs ts r hh
  walk (super_prop_expr s (super t) k) c pl gs ts r pp hh = super_property_walk c pl s t (λ m n. Dotted false c (child k (λ y. Produces k y)) m n) (λ yg ym yn yh. dotted_walk false c pl (child k (λ y. Produces k y)) (walk k) yg ym yn yh) gs ts r hh
  walk (super_prop_expr s _ k) c pl gs ts r pp hh = absurd hh
  walk (call_expr s (super t) xs) c pl gs ts r pp hh = super_call_walk c pl s t (children xs) (walks xs) gs ts r hh
  walk (call_expr s (import t) xs) c pl gs ts r pp hh = import_call_walk c pl s t (children xs) (walks xs) gs ts r hh
  walk (call_expr s f xs) c pl gs ts r pp hh = call_walk c pl s (child f (λ y. Produces f y)) (walk f) (children xs) (walks xs) gs ts r hh
  walk (new_expr s f absent) c pl gs ts r pp hh = new_bare_walk c pl s (child f (λ y. Produces f y)) (walk f) gs ts r hh
  walk (new_expr s f (list xs)) c pl gs ts r pp hh = new_with_walk c pl s (child f (λ y. Produces f y)) (walk f) (children xs) (walks xs) gs ts r hh
  walk (new_expr s f _) c pl gs ts r pp hh = absurd hh
  walk (opt_chain_expr s q (member_expr t o (computed_prop_name b e))) c pl gs ts r pp hh = chain_member_walk c pl s q t (child o (λ y. Produces o y)) (walk o) (λ m n. Bracketed expression_level c b (child e (λ y. Produces e y)) m n) (λ yg ym yn yh. bracketed_walk expression_level (omega arith) c pl b (child e (λ y. Produces e y)) (walk e) yg ym yn yh) (λ m n. Bracketed expression_level c b (child e (λ y. Produces e y)) m n) (λ yg ym yn yh. bracketed_walk expression_level (omega arith) c pl b (child e (λ y. Produces e y)) (walk e) yg ym yn yh) gs ts r hh
  walk (opt_chain_expr s q (member_expr t o k)) c pl gs ts r pp hh = chain_member_walk c pl s q t (child o (λ y. Produces o y)) (walk o) (λ m n. Dotted true c (child k (λ y. Produces k y)) m n) (λ yg ym yn yh. dotted_walk true c pl (child k (λ y. Produces k y)) (walk k) yg ym yn yh) (λ m n. AccessedName true c (child k (λ y. Produces k y)) m n) (λ yg ym yn yh. accessed_name_walk true c pl (child k (λ y. Produces k y)) (walk k) yg ym yn yh) gs ts r hh
  walk (opt_chain_expr s q (opt_call t f xs)) c pl gs ts r pp hh = chain_call_walk c pl s q t (child f (λ y. Produces f y)) (walk f) (children xs) (walks xs) gs ts r hh
  walk (opt_chain_expr s q _) c pl gs ts r pp hh = absurd hh
  walk (tagged_tpl s t (tpl q es qs)) c pl gs ts r pp hh = tagged_template_walk c pl s (child t (λ y. Produces t y)) (walk t) q (children es) (walks es) (children qs) (quasis qs) gs ts r hh
  walk (tagged_tpl s t _) c pl gs ts r pp hh = absurd hh
  walk (meta_prop_expr s k) c pl gs ts r pp hh = meta_property_walk c pl s k gs ts r hh
  walk (update_expr s op b a) c pl gs ts r pp hh = update_walk c pl s op b (child a (λ y. Produces a y)) (walk a) gs ts r hh
  walk (unary_expr s op a) c pl gs ts r pp hh = unary_walk c pl s op (child a (λ y. Produces a y)) (walk a) gs ts r hh
  walk (await_expr s a) c pl gs ts r pp hh = await_walk c pl s (child a (λ y. Produces a y)) (walk a) gs ts r hh
  walk (bin_expr s op a b) c pl gs ts r pp hh = binary_walk c pl s op (child a (λ y. Produces a y)) (walk a) (child b (λ y. Produces b y)) (walk b) gs ts r hh
  walk (cond_expr s a b d) c pl gs ts r pp hh = conditional_walk c pl s (child a (λ y. Produces a y)) (walk a) (child b (λ y. Produces b y)) (walk b) (child d (λ y. Produces d y)) (walk d) gs ts r hh
  walk (assign_expr s op a b) c pl gs ts r pp hh = assignment_walk c pl s op (child a (λ y. Produces a y)) (walk a) (child b (λ y. Produces b y)) (walk b) gs ts r hh
  walk (arrow_expr s ps (block_stmt b ss) i) c pl gs ts r pp hh = arrow_block_walk c pl s (children ps) (walks ps) b (children ss) (walks ss) i gs ts r hh
  walk (arrow_expr s ps e i) c pl gs ts r pp hh = arrow_expression_walk c pl s (children ps) (walks ps) (child e (λ y. Produces e y)) (walk e) i gs ts r hh
  walk (yield_expr s absent g) c pl gs ts r pp hh = yield_bare_walk c pl s gs ts r hh.1
  walk (yield_expr s a g) c pl gs ts r pp hh = yield_walk c pl s (child a (λ y. Produces a y)) (walk a) g gs ts r hh
  walk (seq_expr s xs) c pl gs ts r pp hh = sequence_walk c pl s (children xs) (walks xs) gs ts r hh
  walk (binding_ident s (ident t n)) c pl gs ts r pp hh = identifier_walk c pl s n gs ts r hh.1
  walk (binding_ident s _) c pl gs ts r pp hh = absurd hh
  walk (array_pat s xs) c pl gs ts r pp hh = array_pattern_walk c pl s (children xs) (walks xs) gs ts r hh
  walk (object_pat s ps) c pl gs ts r pp hh = object_pattern_walk c pl s (children ps) (walks ps) gs ts r hh
  walk (assign_pat s a e) c pl gs ts r pp hh = initialised_walk c pl s (child a (λ y. Produces a y)) (walk a) (child e (λ y. Produces e y)) (walk e) gs ts r hh
  walk (rest_pat s d a) c pl gs ts r pp hh = rest_walk c pl s d (child a (λ y. Produces a y)) (walk a) gs ts r hh
  walk (key_value_pat_prop s k a) c pl gs ts r pp hh = keyed_item_walk c pl s (child k (λ y. Produces k y)) (walk k) (child a (λ y. Produces a y)) (walk a) gs ts r hh
  walk (assign_pat_prop s k e) c pl gs ts r pp hh = named_item_walk c pl s (child k (λ y. Produces k y)) (walk k) (child e (λ y. Produces e y)) (walk e) gs ts r hh
  walk (expr_pat e) c pl gs ts r pp hh = walk e c pl gs ts r pp hh.1
  walk (param s ds a) c pl gs ts r pp hh = parameter_walk c pl s (children ds) (walks ds) (child a (λ y. Produces a y)) (walk a) gs ts r hh
  walk (function s ps ds (block_stmt b ss) g a) c pl gs ts r pp hh = function_walk c pl (children ps) (walks ps) (children ds) (walks ds) b (children ss) (walks ss) g a gs ts r hh
  walk (function s ps ds _ g a) c pl gs ts r pp hh = absurd hh
  walk (fn_decl s n f) c pl gs ts r pp hh = function_declaration_walk c pl s (child n (λ y. Produces n y)) (walk n) (child f (λ y. Produces f y)) (walk f) (has_parts f (λ q. subst (λ (o : Option FunctionParts). FunctionDeclaration c s (child n (λ y. Produces n y)) (child f (λ y. Produces f y)) o ts r) q hh)) (function_parts f) gs ts r hh
  walk (fn_expr s n f) c pl gs ts r pp hh = function_expression_walk c pl s (child n (λ y. Produces n y)) (walk n) (child f (λ y. Produces f y)) (walk f) (has_parts f (λ q. subst (λ (o : Option FunctionParts). FunctionExpression c s (child n (λ y. Produces n y)) (child f (λ y. Produces f y)) o ts r) q hh)) (function_parts f) gs ts r hh
  walk (method_prop s k f) c pl gs ts r pp hh = object_method_walk c pl s (child k (λ y. Produces k y)) (walk k) (child f (λ y. Produces f y)) (walk f) (has_parts f (λ q. subst (λ (o : Option FunctionParts). ObjectMethod c s (child k (λ y. Produces k y)) (child f (λ y. Produces f y)) o ts r) q hh)) (function_parts f) gs ts r hh
  walk (getter_prop s k (block_stmt b ss)) c pl gs ts r pp hh = getter_walk c pl s (child k (λ y. Produces k y)) (walk k) b (children ss) (walks ss) gs ts r hh
  walk (getter_prop s k _) c pl gs ts r pp hh = absurd hh
  walk (setter_prop s k a (block_stmt b ss)) c pl gs ts r pp hh = setter_walk c pl s (child k (λ y. Produces k y)) (walk k) (child a (λ y. Produces a y)) (walk a) b (children ss) (walks ss) gs ts r hh
  walk (setter_prop s k a _) c pl gs ts r pp hh = absurd hh
  walk (class s ds ms k) c pl gs ts r pp hh = class_tail_walk c pl (children ds) (walks ds) (children ms) (walks ms) (child k (λ y. Produces k y)) (walk k) gs ts r hh
  walk (class_decl s n k) c pl gs ts r pp hh = class_declaration_walk c pl s (child n (λ y. Produces n y)) (walk n) (child k (λ y. Produces k y)) (walk k) (has_span k s hh.5) (class_span k) gs ts r hh
  walk (class_expr s n k) c pl gs ts r pp hh = class_expression_walk c pl s (child n (λ y. Produces n y)) (walk n) (child k (λ y. Produces k y)) (walk k) (has_span k s hh.5) (class_span k) gs ts r hh
  walk (constructor s k ps (block_stmt b ss)) c pl gs ts r pp hh = constructor_walk c pl s (child k (λ y. Produces k y)) (walk k) (children ps) (walks ps) b (children ss) (walks ss) gs ts r hh
  walk (constructor s k ps _) c pl gs ts r pp hh = absurd hh
  walk (class_method s k f m i) c pl gs ts r pp hh = class_method_walk is_key key_sort c pl s (child k (λ y. Produces k y)) (walk k) (child f (λ y. Produces f y)) (walk f) (has_parts f (λ q. subst (λ (o : Option FunctionParts). ClassMethod is_key c s (child k (λ y. Produces k y)) (child f (λ y. Produces f y)) o m i ts r) q hh)) (function_parts f) m i gs ts r hh
  walk (private_method s k f m i) c pl gs ts r pp hh = class_method_walk is_private private_sort c pl s (child k (λ y. Produces k y)) (walk k) (child f (λ y. Produces f y)) (walk f) (has_parts f (λ q. subst (λ (o : Option FunctionParts). ClassMethod is_private c s (child k (λ y. Produces k y)) (child f (λ y. Produces f y)) o m i ts r) q hh)) (function_parts f) m i gs ts r hh
  walk (class_prop s k v i ds) c pl gs ts r pp hh = field_walk is_key key_sort c pl s (child k (λ y. Produces k y)) (walk k) (child v (λ y. Produces v y)) (walk v) i (children ds) (walks ds) gs ts r hh
  walk (private_prop s k v i ds) c pl gs ts r pp hh = field_walk is_private private_sort c pl s (child k (λ y. Produces k y)) (walk k) (child v (λ y. Produces v y)) (walk v) i (children ds) (walks ds) gs ts r hh
  walk (auto_accessor s k v i ds) c pl gs ts r pp hh = auto_accessor_walk c pl s (child k (λ y. Produces k y)) (walk k) (child v (λ y. Produces v y)) (walk v) i (children ds) (walks ds) gs ts r hh
  walk (static_block s (block_stmt b ss)) c pl gs ts r pp hh = static_block_walk c pl s b (children ss) (walks ss) gs ts r hh
  walk (static_block s _) c pl gs ts r pp hh = absurd hh
  walk (block_stmt s ss) c pl gs ts r pp hh = block_walk c pl s (children ss) (walks ss) gs ts r hh
  walk (empty_stmt s) c pl gs ts r pp hh = empty_walk c pl s gs ts r hh
  walk (debugger_stmt s) c pl gs ts r pp hh = debugger_walk c pl s gs ts r hh
  walk (var_decl s k ds) c pl gs ts r pp hh = variables_walk c pl s k (declarators_end ds) (children ds) (walks ds) gs ts r hh
  walk (using_decl s w ds) c pl gs ts r pp hh = using_walk c pl s w (declarators_end ds) (children ds) (walks ds) gs ts r hh
  walk (var_declarator s n e) c pl gs ts r pp hh = declarator_walk c pl s (child n (λ y. Produces n y)) (walk n) (child e (λ y. Produces e y)) (walk e) gs ts r hh
  walk (expr_stmt s e) c pl gs ts r pp hh = expression_statement_walk c pl s (child e (λ y. Produces e y)) (walk e) gs ts r hh
  walk (if_stmt s t a b) c pl gs ts r pp hh = if_walk c pl s (child t (λ y. Produces t y)) (walk t) (child a (λ y. Produces a y)) (walk a) (child b (λ y. Produces b y)) (walk b) gs ts r hh
  walk (do_while_stmt s t b) c pl gs ts r pp hh = do_while_walk c pl s (child t (λ y. Produces t y)) (walk t) (child b (λ y. Produces b y)) (walk b) gs ts r hh
  walk (while_stmt s t b) c pl gs ts r pp hh = while_walk c pl s (child t (λ y. Produces t y)) (walk t) (child b (λ y. Produces b y)) (walk b) gs ts r hh
  walk (for_stmt s (var_decl v k ds) t u b) c pl gs ts r pp hh = for_variables_walk c pl s v k (children ds) (walks ds) (child t (λ y. Produces t y)) (walk t) (child u (λ y. Produces u y)) (walk u) (child b (λ y. Produces b y)) (walk b) gs ts r hh
  walk (for_stmt s (using_decl v w ds) t u b) c pl gs ts r pp hh = for_using_walk c pl s v w (children ds) (walks ds) (child t (λ y. Produces t y)) (walk t) (child u (λ y. Produces u y)) (walk u) (child b (λ y. Produces b y)) (walk b) gs ts r hh
  walk (for_stmt s i t u b) c pl gs ts r pp hh = for_expression_walk c pl s (child i (λ y. Produces i y)) (walk i) (child t (λ y. Produces t y)) (walk t) (child u (λ y. Produces u y)) (walk u) (child b (λ y. Produces b y)) (walk b) gs ts r hh
  walk (for_in_stmt s (var_decl v k ds) e b) c pl gs ts r pp hh = for_in_walk c pl s (λ m n. HeadVariables c v k (children ds) m n) (λ yg ym yn yh. head_variables_walk c pl v k (children ds) (walks ds) yg ym yn yh) (child e (λ y. Produces e y)) (walk e) (child b (λ y. Produces b y)) (walk b) gs ts r hh
  walk (for_in_stmt s (using_decl v w ds) e b) c pl gs ts r pp hh = for_in_walk c pl s (λ m n. HeadUsing c v w (children ds) m n) (λ yg ym yn yh. head_using_walk c pl v w (children ds) (walks ds) yg ym yn yh) (child e (λ y. Produces e y)) (walk e) (child b (λ y. Produces b y)) (walk b) gs ts r hh
  walk (for_in_stmt s a e b) c pl gs ts r pp hh = for_in_walk c pl s (λ m n. HeadTarget c (child a (λ y. Produces a y)) m n) (λ yg ym yn yh. head_target_walk c pl (child a (λ y. Produces a y)) (walk a) yg ym yn yh) (child e (λ y. Produces e y)) (walk e) (child b (λ y. Produces b y)) (walk b) gs ts r hh
  walk (for_of_stmt s w (var_decl v k ds) e b) c pl gs ts r pp hh = for_of_walk c pl s w (λ m n. HeadVariables c v k (children ds) m n) (λ yg ym yn yh. head_variables_walk c pl v k (children ds) (walks ds) yg ym yn yh) (child e (λ y. Produces e y)) (walk e) (child b (λ y. Produces b y)) (walk b) gs ts r hh
  walk (for_of_stmt s w (using_decl v i ds) e b) c pl gs ts r pp hh = for_of_walk c pl s w (λ m n. HeadUsing c v i (children ds) m n) (λ yg ym yn yh. head_using_walk c pl v i (children ds) (walks ds) yg ym yn yh) (child e (λ y. Produces e y)) (walk e) (child b (λ y. Produces b y)) (walk b) gs ts r hh
  walk (for_of_stmt s w a e b) c pl gs ts r pp hh = for_of_walk c pl s w (λ m n. OfTarget c w (child a (λ y. Produces a y)) m n) (λ yg ym yn yh. of_target_walk c pl w (child a (λ y. Produces a y)) (walk a) yg ym yn yh) (child e (λ y. Produces e y)) (walk e) (child b (λ y. Produces b y)) (walk b) gs ts r hh
  walk (continue_stmt s l) c pl gs ts r pp hh = jump_walk continue_kind (plain continue_kind refl refl refl refl refl refl refl) c pl s (child l (λ y. Produces l y)) (walk l) gs ts r hh
  walk (break_stmt s l) c pl gs ts r pp hh = jump_walk break_kind (plain break_kind refl refl refl refl refl refl refl) c pl s (child l (λ y. Produces l y)) (walk l) gs ts r hh
  walk (return_stmt s e) c pl gs ts r pp hh = return_walk c pl s (child e (λ y. Produces e y)) (walk e) gs ts r hh
  walk (with_stmt s e b) c pl gs ts r pp hh = with_walk c pl s (child e (λ y. Produces e y)) (walk e) (child b (λ y. Produces b y)) (walk b) gs ts r hh
  walk (switch_stmt s e xs) c pl gs ts r pp hh = switch_walk c pl s (child e (λ y. Produces e y)) (walk e) (children xs) (walks xs) gs ts r hh
  walk (switch_case s t ss) c pl gs ts r pp hh = case_walk c pl s (child t (λ y. Produces t y)) (walk t) (children ss) (walks ss) gs ts r hh
  walk (labeled_stmt s l b) c pl gs ts r pp hh = labelled_walk c pl s (child l (λ y. Produces l y)) (walk l) (child b (λ y. Produces b y)) (walk b) gs ts r hh
  walk (throw_stmt s e) c pl gs ts r pp hh = throw_walk c pl s (child e (λ y. Produces e y)) (walk e) gs ts r hh
  walk (try_stmt s b h f) c pl gs ts r pp hh = try_walk c pl s (child b (λ y. Produces b y)) (walk b) (child h (λ y. Produces h y)) (walk h) (child f (λ y. Produces f y)) (walk f) gs ts r hh
  walk (catch_clause s a b) c pl gs ts r pp hh = catch_walk c pl s (child a (λ y. Produces a y)) (walk a) (child b (λ y. Produces b y)) (walk b) gs ts r hh
  walk (import_decl s xs f w) c pl gs ts r pp hh = import_walk c pl s (children xs) (walks xs) (child f (λ y. Produces f y)) (walk f) (child w (λ y. Produces w y)) (walk w) gs ts r hh
  walk (import_named_specifier s l i) c pl gs ts r pp hh = named_import_walk c pl s (child l (λ y. Produces l y)) (walk l) (child i (λ y. Produces i y)) (walk i) gs ts r hh
  walk (import_default_specifier s l) c pl gs ts r pp hh = default_import_walk c pl s (child l (λ y. Produces l y)) (walk l) gs ts r hh
  walk (import_star_as_specifier s l) c pl gs ts r pp hh = star_import_walk c pl s (child l (λ y. Produces l y)) (walk l) gs ts r hh
  walk (named_export s xs f w) c pl gs ts r pp hh = exports_walk c pl s (children xs) (walks xs) (child f (λ y. Produces f y)) (walk f) (child w (λ y. Produces w y)) (walk w) gs ts r hh
  walk (export_named_specifier s o e) c pl gs ts r pp hh = named_export_walk c pl s (child o (λ y. Produces o y)) (walk o) (child e (λ y. Produces e y)) (walk e) gs ts r hh
  walk (export_namespace_specifier s n) c pl gs ts r pp hh = star_export_walk c pl s (child n (λ y. Produces n y)) (walk n) gs ts r hh
  walk (export_all s f w) c pl gs ts r pp hh = export_all_walk c pl s (child f (λ y. Produces f y)) (walk f) (child w (λ y. Produces w y)) (walk w) gs ts r hh
  walk (export_decl s d) c pl gs ts r pp hh = export_declaration_walk c pl s (child d (λ y. Produces d y)) (walk d) gs ts r hh
  walk (export_default_decl s d) c pl gs ts r pp hh = default_declaration_walk c pl s (child d (λ y. Produces d y)) (walk d) gs ts r hh
  walk (export_default_expr s e) c pl gs ts r pp hh = default_expression_walk c pl s (child e (λ y. Produces e y)) (walk e) gs ts r hh
  walk (script s ss l) c pl gs ts r pp hh = program_walk is_item item_sort c pl s l (children ss) (walks ss) gs ts r hh
  walk (es_module s ss l) c pl gs ts r pp hh = program_walk is_module_item module_sort c pl s l (children ss) (walks ss) gs ts r hh
  walk _ c pl gs ts r pp hh = absurd hh

  pub walks : (ts : Trees) → AllWalked (children ts)
  walks none = tt
  walks (more t ts) = (walk t, walks ts)

  pub quasis : (ts : Trees) → AllQuasis (children ts)
  quasis none = tt
  quasis (more t ts) = (quasi t, quasis ts)

  pub quasi : (t : Tree) → Quasi (child t (λ y. Produces t y))
  quasi (tpl_element s t w u) c pl gs ts r q h = takes_in c pl template_goal template_kind (Inside gs) (Behind gs) ts r refl refl refl h.1
  quasi _ c pl gs ts r q h = absurd (true≢false (sym q))

ended : (may : Tree → Bool) (c : Code) (starts : Bool) (xs : List Child) (ts r : Input) → Items may AtEnd c starts xs ts r → r.places ≡ []
ended may c starts [] ts r h = ap (λ (x : Input). x.places) (sym h.1) ∙ h.0
ended may c starts (x ∷ xs) ts r h = ended may (if starts && is_use_strict x.tree then turned_strict c else c) (starts && is_directive x.tree) xs h.0 r h.3

finished : (ts r : Input) → Goes (Outside []) (Outside []) ts r → r.places ≡ [] → over (Outside []) ts.places ≡ Outside []
finished ts r g e = g.so ∙ ap (λ (l : List PlacedToken). over (Outside []) l) e

pub programs_match : ProgramsMatch
programs_match (script s ss l) c ts r pl h = finished ts r (walk (script s ss l) c pl [] ts r refl h) (ended is_item c true (children ss) h.0 r h.2)
programs_match (es_module s ss l) c ts r pl h = finished ts r (walk (es_module s ss l) c pl [] ts r refl h) (ended is_module_item c true (children ss) h.0 r h.2)
programs_match _ c ts r pl h = absurd h
