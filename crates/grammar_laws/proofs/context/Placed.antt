-- What tokens alone derive, they derive under the goals and in the contexts of its productions: by induction on the tree, a line a node.
use Rattle.std.proofs.Common.{Bool, true, false, if◌then◌else◌}
use Rattle.base_token.specs.Kinds.{null_kind, true_kind, false_kind, break_kind, continue_kind, this_kind}
use Rattle.tree_spec.specs.Tree.{Tree, Trees, script, es_module, import_decl, export_decl, named_export, export_default_decl, export_default_expr, export_all, import_named_specifier, import_default_specifier, import_star_as_specifier, export_namespace_specifier, export_named_specifier, block_stmt, empty_stmt, debugger_stmt, with_stmt, return_stmt, labeled_stmt, break_stmt, continue_stmt, if_stmt, switch_stmt, switch_case, throw_stmt, try_stmt, catch_clause, while_stmt, do_while_stmt, for_stmt, for_in_stmt, for_of_stmt, expr_stmt, class_decl, fn_decl, var_decl, using_decl, var_declarator, function, param, class, constructor, class_method, private_method, class_prop, private_prop, static_block, auto_accessor, ident_name, computed_prop_name, private_name, this_expr, array_lit, object_lit, fn_expr, unary_expr, update_expr, bin_expr, assign_expr, member_expr, super_prop_expr, cond_expr, call_expr, new_expr, seq_expr, ident, tpl, tpl_element, tagged_tpl, arrow_expr, class_expr, yield_expr, meta_prop_expr, await_expr, paren_expr, opt_chain_expr, opt_call, super, import, expr_or_spread, spread_element, key_value_prop, assign_prop, getter_prop, setter_prop, method_prop, str_lit, bool_lit, null_lit, number_lit, big_int_lit, regex_lit, binding_ident, array_pat, rest_pat, object_pat, assign_pat, key_value_pat_prop, assign_pat_prop, expr_pat, list, absent, none, more}
use Rattle.grammar_spec.specs.Tokens.Input.{Code}
use Rattle.grammar_spec.specs.Tokens.Operators.{expression_level, assignment_level}
use Rattle.grammar_spec.specs.Tokens.Shape.{is_private, is_item, function_parts, class_span, is_key, declarators_end}
use Rattle.grammar_spec.specs.Children.{child, is_module_item}
use Rattle.grammar_spec.specs.Expressions.{Bracketed, AccessedName, Dotted}
use Rattle.grammar_spec.specs.Statements.{HeadVariables, HeadUsing, HeadTarget, OfTarget}
use Rattle.grammar_spec.specs.Grammar.{Produces, children}
use Rattle.grammar_laws.specs.Context.Laws.{placing}
use Rattle.grammar_laws.proofs.context.Kin.{Kin, Moves}
use Rattle.grammar_laws.proofs.context.Forms.{AllMoved}
use Rattle.grammar_laws.proofs.context.Expressions.{keyword, identifier, identifier_name, private, string, number, big_int, regexp, element, array, object, property, cover, spread, bracketed, characters, template, parens, accessed, dotted, member, super_property, call, super_call, import_call, new_with, new_bare, chain_member, chain_call, tagged, meta_property, update, unary, awaits, binary, conditional, assignment, sequence, yield_bare, yields, array_pattern, object_pattern, initialised, rests, keyed_item, named_item, target}
use Rattle.grammar_laws.proofs.context.Functions.{parameter, function_on, function_declaration, function_expression, arrow_block, arrow_expression, object_method, getter, setter, class_tail, class_declaration, class_expression, constructs_on, class_method_on, field, accessor, static_block_on}
use Rattle.grammar_laws.proofs.context.Statements.{block, empty, debugger, declarator, variables, using_on, expression_statement, if_on, do_while, while_on, for_expression, for_variables, for_using, head_variables, head_using, head_target, of_target, for_in, for_of, jump, return_on, throw_on, with_on, labelled, case_on, switch_on, catch_on, try_on}
use Rattle.grammar_laws.proofs.context.Modules.{named_import, default_import, star_import, import_on, named_export_on, star_export, exports_on, export_all_on, export_declaration, default_declaration, default_expression, program}

module _ (p : Bool) (kin : Kin p) where
  mutual
    pub move : (t : Tree) (c : Code) → Moves p kin (Produces t c) (Produces t (placing p c))
    move (this_expr s) c = keyword p kin this_kind c s
    move (null_lit s) c = keyword p kin null_kind c s
    move (bool_lit s v) c = keyword p kin (if v then true_kind else false_kind) c s
    move (ident s n) c = identifier p kin c s n
    move (ident_name s n) c = identifier_name p kin c s n
    move (private_name s n) c = private p kin c s n
    move (str_lit s u w) c = string p kin c s u w
    move (number_lit s v w) c = number p kin c s v w
    move (big_int_lit s b d w) c = big_int p kin c s b d w
    move (regex_lit s e f) c = regexp p kin c s e f
    move (expr_or_spread s d e) c = element p kin c s d (child e (λ y. Produces e y)) (move e)
    move (array_lit s xs) c = array p kin c s (children xs) (moves xs)
    move (object_lit s ps) c = object p kin c s (children ps) (moves ps)
    move (key_value_prop s k v) c = property p kin c s (child k (λ y. Produces k y)) (child v (λ y. Produces v y)) (move k) (move v)
    move (assign_prop s k e) c = cover p kin c s (child k (λ y. Produces k y)) (child e (λ y. Produces e y)) (move k) (move e)
    move (spread_element s e) c = spread p kin c s (child e (λ y. Produces e y)) (move e)
    move (computed_prop_name s e) c = bracketed p kin assignment_level c s (child e (λ y. Produces e y)) (move e)
    move (tpl_element s t w u) c = characters p kin c s t w u
    move (tpl s es qs) c = template p kin false c s (children es) (children qs) (moves es) (moves qs)
    move (paren_expr s e) c = parens p kin c s (child e (λ y. Produces e y)) (move e)
    move (member_expr s o (computed_prop_name t e)) c = member p kin c s (child o (λ y. Produces o y)) (Bracketed expression_level c t (child e (λ y. Produces e y))) (Bracketed expression_level (placing p c) t (child e (λ y. Produces e y))) (move o) (bracketed p kin expression_level c t (child e (λ y. Produces e y)) (move e))
    move (member_expr s o k) c = member p kin c s (child o (λ y. Produces o y)) (Dotted true c (child k (λ y. Produces k y))) (Dotted true (placing p c) (child k (λ y. Produces k y))) (move o) (dotted p kin true c (child k (λ y. Produces k y)) (move k))
    move (super_prop_expr s (super t) (computed_prop_name q e)) c = super_property p kin c s t (Bracketed expression_level c q (child e (λ y. Produces e y))) (Bracketed expression_level (placing p c) q (child e (λ y. Produces e y))) (bracketed p kin expression_level c q (child e (λ y. Produces e y)) (move e))
    move (super_prop_expr s (super t) k) c = super_property p kin c s t (Dotted false c (child k (λ y. Produces k y))) (Dotted false (placing p c) (child k (λ y. Produces k y))) (dotted p kin false c (child k (λ y. Produces k y)) (move k))
    move (super_prop_expr s _ k) c = λ ts r o h g. absurd h
    move (call_expr s (super t) xs) c = super_call p kin c s t (children xs) (moves xs)
    move (call_expr s (import t) xs) c = import_call p kin c s t (children xs) (moves xs)
    move (call_expr s f xs) c = call p kin c s (child f (λ y. Produces f y)) (children xs) (move f) (moves xs)
    move (new_expr s f absent) c = new_bare p kin c s (child f (λ y. Produces f y)) (move f)
    move (new_expr s f (list xs)) c = new_with p kin c s (child f (λ y. Produces f y)) (children xs) (move f) (moves xs)
    move (new_expr s f _) c = λ ts r o h g. absurd h
    move (opt_chain_expr s q (member_expr t o (computed_prop_name b e))) c = chain_member p kin c s q t (child o (λ y. Produces o y)) (Bracketed expression_level c b (child e (λ y. Produces e y))) (Bracketed expression_level c b (child e (λ y. Produces e y))) (Bracketed expression_level (placing p c) b (child e (λ y. Produces e y))) (Bracketed expression_level (placing p c) b (child e (λ y. Produces e y))) (move o) (bracketed p kin expression_level c b (child e (λ y. Produces e y)) (move e)) (bracketed p kin expression_level c b (child e (λ y. Produces e y)) (move e))
    move (opt_chain_expr s q (member_expr t o k)) c = chain_member p kin c s q t (child o (λ y. Produces o y)) (Dotted true c (child k (λ y. Produces k y))) (AccessedName true c (child k (λ y. Produces k y))) (Dotted true (placing p c) (child k (λ y. Produces k y))) (AccessedName true (placing p c) (child k (λ y. Produces k y))) (move o) (dotted p kin true c (child k (λ y. Produces k y)) (move k)) (accessed p kin true c (child k (λ y. Produces k y)) (move k))
    move (opt_chain_expr s q (opt_call t f xs)) c = chain_call p kin c s q t (child f (λ y. Produces f y)) (children xs) (move f) (moves xs)
    move (opt_chain_expr s q _) c = λ ts r o h g. absurd h
    move (tagged_tpl s t (tpl q es qs)) c = tagged p kin c s (child t (λ y. Produces t y)) q (children es) (children qs) (move t) (moves es) (moves qs)
    move (tagged_tpl s t _) c = λ ts r o h g. absurd h
    move (meta_prop_expr s k) c = meta_property p kin c s k
    move (update_expr s op b a) c = update p kin c s op b (child a (λ y. Produces a y)) (move a)
    move (unary_expr s op a) c = unary p kin c s op (child a (λ y. Produces a y)) (move a)
    move (await_expr s a) c = awaits p kin c s (child a (λ y. Produces a y)) (move a)
    move (bin_expr s op a b) c = binary p kin c s op (child a (λ y. Produces a y)) (child b (λ y. Produces b y)) (move a) (move b)
    move (cond_expr s a b d) c = conditional p kin c s (child a (λ y. Produces a y)) (child b (λ y. Produces b y)) (child d (λ y. Produces d y)) (move a) (move b) (move d)
    move (assign_expr s op a b) c = assignment p kin c s op (child a (λ y. Produces a y)) (child b (λ y. Produces b y)) (move a) (move b)
    move (arrow_expr s ps (block_stmt b ss) i) c = arrow_block p kin c s (children ps) b (children ss) i (moves ps) (moves ss)
    move (arrow_expr s ps e i) c = arrow_expression p kin c s (children ps) (child e (λ y. Produces e y)) i (moves ps) (move e)
    move (yield_expr s absent g) c = λ ts r o h g. let z = yield_bare p kin c s ts r o h.1 g in (z.0, z.1, (h.0, z.2))
    move (yield_expr s a g) c = yields p kin c s (child a (λ y. Produces a y)) g (move a)
    move (seq_expr s xs) c = sequence p kin c s (children xs) (moves xs)
    move (binding_ident s (ident t n)) c = λ ts r o h g. let z = identifier p kin c s n ts r o h.1 g in (z.0, z.1, (h.0, z.2))
    move (binding_ident s _) c = λ ts r o h g. absurd h
    move (array_pat s xs) c = array_pattern p kin c s (children xs) (moves xs)
    move (object_pat s ps) c = object_pattern p kin c s (children ps) (moves ps)
    move (assign_pat s a e) c = initialised p kin c s (child a (λ y. Produces a y)) (child e (λ y. Produces e y)) (move a) (move e)
    move (rest_pat s d a) c = rests p kin c s d (child a (λ y. Produces a y)) (move a)
    move (key_value_pat_prop s k a) c = keyed_item p kin c s (child k (λ y. Produces k y)) (child a (λ y. Produces a y)) (move k) (move a)
    move (assign_pat_prop s k e) c = named_item p kin c s (child k (λ y. Produces k y)) (child e (λ y. Produces e y)) (move k) (move e)
    move (expr_pat e) c = target p kin c (child e (λ y. Produces e y)) (move e)
    move (param s ds a) c = parameter p kin c s (children ds) (child a (λ y. Produces a y)) (move a)
    move (function s ps ds (block_stmt b ss) g a) c = function_on p kin c (children ps) (children ds) b (children ss) g a (moves ps) (moves ss)
    move (function s ps ds _ g a) c = λ ts r o h g. absurd h
    move (fn_decl s n f) c = function_declaration p kin c s (child n (λ y. Produces n y)) (child f (λ y. Produces f y)) (function_parts f) (move n) (move f)
    move (fn_expr s n f) c = function_expression p kin c s (child n (λ y. Produces n y)) (child f (λ y. Produces f y)) (function_parts f) (move n) (move f)
    move (method_prop s k f) c = object_method p kin c s (child k (λ y. Produces k y)) (child f (λ y. Produces f y)) (function_parts f) (move k) (move f)
    move (getter_prop s k (block_stmt b ss)) c = getter p kin c s (child k (λ y. Produces k y)) b (children ss) (move k) (moves ss)
    move (getter_prop s k _) c = λ ts r o h g. absurd h
    move (setter_prop s k a (block_stmt b ss)) c = setter p kin c s (child k (λ y. Produces k y)) (child a (λ y. Produces a y)) b (children ss) (move k) (move a) (moves ss)
    move (setter_prop s k a _) c = λ ts r o h g. absurd h
    move (class s ds ms k) c = class_tail p kin c (children ds) (children ms) (child k (λ y. Produces k y)) (moves ms) (move k)
    move (class_decl s n k) c = class_declaration p kin c s (child n (λ y. Produces n y)) (child k (λ y. Produces k y)) (class_span k) (move n) (move k)
    move (class_expr s n k) c = class_expression p kin c s (child n (λ y. Produces n y)) (child k (λ y. Produces k y)) (class_span k) (move n) (move k)
    move (constructor s k ps (block_stmt b ss)) c = constructs_on p kin c s (child k (λ y. Produces k y)) (children ps) b (children ss) (move k) (moves ps) (moves ss)
    move (constructor s k ps _) c = λ ts r o h g. absurd h
    move (class_method s k f m i) c = class_method_on p kin is_key c s (child k (λ y. Produces k y)) (child f (λ y. Produces f y)) (function_parts f) m i (move k) (move f)
    move (private_method s k f m i) c = class_method_on p kin is_private c s (child k (λ y. Produces k y)) (child f (λ y. Produces f y)) (function_parts f) m i (move k) (move f)
    move (class_prop s k v i ds) c = field p kin is_key c s (child k (λ y. Produces k y)) (child v (λ y. Produces v y)) i (children ds) (move k) (move v)
    move (private_prop s k v i ds) c = field p kin is_private c s (child k (λ y. Produces k y)) (child v (λ y. Produces v y)) i (children ds) (move k) (move v)
    move (auto_accessor s k v i ds) c = accessor p kin c s (child k (λ y. Produces k y)) (child v (λ y. Produces v y)) i (children ds) (move k) (move v)
    move (static_block s (block_stmt b ss)) c = static_block_on p kin c s b (children ss) (moves ss)
    move (static_block s _) c = λ ts r o h g. absurd h
    move (block_stmt s ss) c = block p kin c s (children ss) (moves ss)
    move (empty_stmt s) c = empty p kin c s
    move (debugger_stmt s) c = debugger p kin c s
    move (var_decl s k ds) c = variables p kin c s k (declarators_end ds) (children ds) (moves ds)
    move (using_decl s w ds) c = using_on p kin c s w (declarators_end ds) (children ds) (moves ds)
    move (var_declarator s n e) c = declarator p kin c s (child n (λ y. Produces n y)) (child e (λ y. Produces e y)) (move n) (move e)
    move (expr_stmt s e) c = expression_statement p kin c s (child e (λ y. Produces e y)) (move e)
    move (if_stmt s t a b) c = if_on p kin c s (child t (λ y. Produces t y)) (child a (λ y. Produces a y)) (child b (λ y. Produces b y)) (move t) (move a) (move b)
    move (do_while_stmt s t b) c = do_while p kin c s (child t (λ y. Produces t y)) (child b (λ y. Produces b y)) (move t) (move b)
    move (while_stmt s t b) c = while_on p kin c s (child t (λ y. Produces t y)) (child b (λ y. Produces b y)) (move t) (move b)
    move (for_stmt s (var_decl v k ds) t u b) c = for_variables p kin c s v k (children ds) (child t (λ y. Produces t y)) (child u (λ y. Produces u y)) (child b (λ y. Produces b y)) (moves ds) (move t) (move u) (move b)
    move (for_stmt s (using_decl v w ds) t u b) c = for_using p kin c s v w (children ds) (child t (λ y. Produces t y)) (child u (λ y. Produces u y)) (child b (λ y. Produces b y)) (moves ds) (move t) (move u) (move b)
    move (for_stmt s i t u b) c = for_expression p kin c s (child i (λ y. Produces i y)) (child t (λ y. Produces t y)) (child u (λ y. Produces u y)) (child b (λ y. Produces b y)) (move i) (move t) (move u) (move b)
    move (for_in_stmt s (var_decl v k ds) e b) c = for_in p kin c s (HeadVariables c v k (children ds)) (HeadVariables (placing p c) v k (children ds)) (child e (λ y. Produces e y)) (child b (λ y. Produces b y)) (head_variables p kin c v k (children ds) (moves ds)) (move e) (move b)
    move (for_in_stmt s (using_decl v w ds) e b) c = for_in p kin c s (HeadUsing c v w (children ds)) (HeadUsing (placing p c) v w (children ds)) (child e (λ y. Produces e y)) (child b (λ y. Produces b y)) (head_using p kin c v w (children ds) (moves ds)) (move e) (move b)
    move (for_in_stmt s a e b) c = for_in p kin c s (HeadTarget c (child a (λ y. Produces a y))) (HeadTarget (placing p c) (child a (λ y. Produces a y))) (child e (λ y. Produces e y)) (child b (λ y. Produces b y)) (head_target p kin c (child a (λ y. Produces a y)) (move a)) (move e) (move b)
    move (for_of_stmt s w (var_decl v k ds) e b) c = for_of p kin c s w (HeadVariables c v k (children ds)) (HeadVariables (placing p c) v k (children ds)) (child e (λ y. Produces e y)) (child b (λ y. Produces b y)) (head_variables p kin c v k (children ds) (moves ds)) (move e) (move b)
    move (for_of_stmt s w (using_decl v i ds) e b) c = for_of p kin c s w (HeadUsing c v i (children ds)) (HeadUsing (placing p c) v i (children ds)) (child e (λ y. Produces e y)) (child b (λ y. Produces b y)) (head_using p kin c v i (children ds) (moves ds)) (move e) (move b)
    move (for_of_stmt s w a e b) c = for_of p kin c s w (OfTarget c w (child a (λ y. Produces a y))) (OfTarget (placing p c) w (child a (λ y. Produces a y))) (child e (λ y. Produces e y)) (child b (λ y. Produces b y)) (of_target p kin c w (child a (λ y. Produces a y)) (move a)) (move e) (move b)
    move (continue_stmt s l) c = jump p kin continue_kind c s (child l (λ y. Produces l y)) (move l)
    move (break_stmt s l) c = jump p kin break_kind c s (child l (λ y. Produces l y)) (move l)
    move (return_stmt s e) c = return_on p kin c s (child e (λ y. Produces e y)) (move e)
    move (with_stmt s e b) c = with_on p kin c s (child e (λ y. Produces e y)) (child b (λ y. Produces b y)) (move e) (move b)
    move (switch_stmt s e xs) c = switch_on p kin c s (child e (λ y. Produces e y)) (children xs) (move e) (moves xs)
    move (switch_case s t ss) c = case_on p kin c s (child t (λ y. Produces t y)) (children ss) (move t) (moves ss)
    move (labeled_stmt s l b) c = labelled p kin c s (child l (λ y. Produces l y)) (child b (λ y. Produces b y)) (move l) (move b)
    move (throw_stmt s e) c = throw_on p kin c s (child e (λ y. Produces e y)) (move e)
    move (try_stmt s b h f) c = try_on p kin c s (child b (λ y. Produces b y)) (child h (λ y. Produces h y)) (child f (λ y. Produces f y)) (move b) (move h) (move f)
    move (catch_clause s a b) c = catch_on p kin c s (child a (λ y. Produces a y)) (child b (λ y. Produces b y)) (move a) (move b)
    move (import_decl s xs f w) c = import_on p kin c s (children xs) (child f (λ y. Produces f y)) (child w (λ y. Produces w y)) (moves xs) (move f) (move w)
    move (import_named_specifier s l i) c = named_import p kin c s (child l (λ y. Produces l y)) (child i (λ y. Produces i y)) (move l) (move i)
    move (import_default_specifier s l) c = default_import p kin c s (child l (λ y. Produces l y)) (move l)
    move (import_star_as_specifier s l) c = star_import p kin c s (child l (λ y. Produces l y)) (move l)
    move (named_export s xs f w) c = exports_on p kin c s (children xs) (child f (λ y. Produces f y)) (child w (λ y. Produces w y)) (moves xs) (move f) (move w)
    move (export_named_specifier s o e) c = named_export_on p kin c s (child o (λ y. Produces o y)) (child e (λ y. Produces e y)) (move o) (move e)
    move (export_namespace_specifier s n) c = star_export p kin c s (child n (λ y. Produces n y)) (move n)
    move (export_all s f w) c = export_all_on p kin c s (child f (λ y. Produces f y)) (child w (λ y. Produces w y)) (move f) (move w)
    move (export_decl s d) c = export_declaration p kin c s (child d (λ y. Produces d y)) (move d)
    move (export_default_decl s d) c = default_declaration p kin c s (child d (λ y. Produces d y)) (move d)
    move (export_default_expr s e) c = default_expression p kin c s (child e (λ y. Produces e y)) (move e)
    move (script s ss l) c = program p kin is_item c s l (children ss) (moves ss)
    move (es_module s ss l) c = program p kin is_module_item c s l (children ss) (moves ss)
    move _ c = λ ts r o h g. absurd h

    pub moves : (ts : Trees) → AllMoved p kin (children ts)
    moves none = tt
    moves (more t ts) = (move t, moves ts)
