-- The grammar (ECMA-262, clauses 13 to 16): what each tree produces, a line a production. The productions stand in the modules of their families.
use Rattle.std.specs.Prelude.{◌≡◌, true, false, if◌then◌else◌, List, [], ◌∷◌}
use Rattle.tree_spec.specs.Kinds.{null_kind, true_kind, false_kind, break_kind, continue_kind, this_kind}
use Rattle.tree_spec.specs.Tree.{Tree, Trees, script, es_module, import_decl, export_decl, named_export, export_default_decl, export_default_expr, export_all, import_named_specifier, import_default_specifier, import_star_as_specifier, export_namespace_specifier, export_named_specifier, block_stmt, empty_stmt, debugger_stmt, with_stmt, return_stmt, labeled_stmt, break_stmt, continue_stmt, if_stmt, switch_stmt, switch_case, throw_stmt, try_stmt, catch_clause, while_stmt, do_while_stmt, for_stmt, for_in_stmt, for_of_stmt, expr_stmt, class_decl, fn_decl, var_decl, using_decl, var_declarator, function, param, class, constructor, class_method, private_method, class_prop, private_prop, static_block, auto_accessor, ident_name, computed_prop_name, private_name, this_expr, array_lit, object_lit, fn_expr, unary_expr, update_expr, bin_expr, assign_expr, member_expr, super_prop_expr, cond_expr, call_expr, new_expr, seq_expr, ident, tpl, tpl_element, tagged_tpl, arrow_expr, class_expr, yield_expr, meta_prop_expr, await_expr, paren_expr, opt_chain_expr, opt_call, super, import, expr_or_spread, spread_element, key_value_prop, assign_prop, getter_prop, setter_prop, method_prop, str_lit, bool_lit, null_lit, number_lit, big_int_lit, regex_lit, binding_ident, array_pat, rest_pat, object_pat, assign_pat, key_value_pat_prop, assign_pat_prop, expr_pat, list, absent, none, more}
use Rattle.grammar_spec.specs.Tokens.Input.{Input, Code}
use Rattle.grammar_spec.specs.Tokens.Operators.{expression_level, assignment_level}
use Rattle.grammar_spec.specs.Tokens.Shape.{is_private, is_item, function_parts, class_span, is_key, declarators_end, is_clean}
use Rattle.grammar_spec.specs.Children.{Child, child, is_module_item}
use Rattle.grammar_spec.specs.Expressions.{Keyword, Identifier, IdentifierName, PrivateIdentifier, StringLiteral, NumericLiteral, BigIntLiteral, RegularExpressionLiteral, Element, ArrayLiteral, ObjectLiteral, PropertyValue, CoverInitializedName, Spread, Bracketed, Characters, TemplateLiteral, ParenthesizedExpression, AccessedName, Dotted, Member, SuperProperty, Call, SuperCall, ImportCall, NewWith, NewBare, ChainMember, ChainCall, TaggedTemplate, MetaProperty, Update, Unary, Await, Binary, Conditional, Assignment, Sequence, YieldBare, Yield}
use Rattle.grammar_spec.specs.Patterns.{Target, ArrayPattern, ObjectPattern, Initialised, Rest, KeyedItem, NamedItem}
use Rattle.grammar_spec.specs.Functions.{Parameter, Function, FunctionDeclaration, FunctionExpression, ArrowBlock, ArrowExpression, ObjectMethod, Getter, Setter, ClassTail, ClassDeclaration, ClassExpression, Constructor, ClassMethod, Field, AutoAccessor, StaticBlock}
use Rattle.grammar_spec.specs.Statements.{Block, Empty, Debugger, Declarator, Variables, Using, ExpressionStatement, If, DoWhile, While, ForExpression, ForVariables, ForUsing, HeadVariables, HeadUsing, HeadTarget, ForIn, ForOf, OfTarget, Jump, Return, Throw, With, Labelled, Case, Switch, Catch, Try}
use Rattle.grammar_spec.specs.Modules.{NamedImport, DefaultImport, StarImport, Import, NamedExport, StarExport, Exports, ExportAll, ExportDeclaration, DefaultDeclaration, DefaultExpression, Program}

-- Produces t c ts r: in the code c the tree t produces the tokens ts up to the rest r.
abbrev mutual
  pub Produces : Tree → Code → Input → Input → Type 0
  -- expressions (13.2 to 13.3)
  Produces (this_expr s) c ts r = Keyword this_kind c s ts r
  Produces (null_lit s) c ts r = Keyword null_kind c s ts r
  Produces (bool_lit s v) c ts r = Keyword (if v then true_kind else false_kind) c s ts r
  Produces (ident s n) c ts r = Identifier c s n ts r
  Produces (ident_name s n) c ts r = IdentifierName c s n ts r
  Produces (private_name s n) c ts r = PrivateIdentifier c s n ts r
  Produces (str_lit s u w) c ts r = StringLiteral c s u w ts r
  Produces (number_lit s v w) c ts r = NumericLiteral c s v w ts r
  Produces (big_int_lit s b d w) c ts r = BigIntLiteral c s b d w ts r
  Produces (regex_lit s e f) c ts r = RegularExpressionLiteral c s e f ts r
  Produces (expr_or_spread s d e) c ts r = Element c s d (child e (λ y. Produces e y)) ts r
  Produces (array_lit s xs) c ts r = ArrayLiteral c s (children xs) ts r
  Produces (object_lit s ps) c ts r = ObjectLiteral c s (children ps) ts r
  Produces (key_value_prop s k v) c ts r = PropertyValue c s (child k (λ y. Produces k y)) (child v (λ y. Produces v y)) ts r
  Produces (assign_prop s k e) c ts r = CoverInitializedName c s (child k (λ y. Produces k y)) (child e (λ y. Produces e y)) ts r
  Produces (spread_element s e) c ts r = Spread c s (child e (λ y. Produces e y)) ts r
  Produces (computed_prop_name s e) c ts r = Bracketed assignment_level c s (child e (λ y. Produces e y)) ts r
  Produces (tpl_element s t w u) c ts r = Characters c s t w u ts r
  Produces (tpl s es qs) c ts r = TemplateLiteral false c s (children es) (children qs) ts r
  Produces (paren_expr s e) c ts r = ParenthesizedExpression c s (child e (λ y. Produces e y)) ts r
  Produces (member_expr s o (computed_prop_name t e)) c ts r = Member c s (child o (λ y. Produces o y)) (λ m n. Bracketed expression_level c t (child e (λ y. Produces e y)) m n) ts r
  Produces (member_expr s o k) c ts r = Member c s (child o (λ y. Produces o y)) (λ m n. Dotted true c (child k (λ y. Produces k y)) m n) ts r
  Produces (super_prop_expr s (super t) (computed_prop_name q e)) c ts r = SuperProperty c s t (λ m n. Bracketed expression_level c q (child e (λ y. Produces e y)) m n) ts r
  Produces (super_prop_expr s (super t) k) c ts r = SuperProperty c s t (λ m n. Dotted false c (child k (λ y. Produces k y)) m n) ts r
  Produces (call_expr s (super t) xs) c ts r = SuperCall c s t (children xs) ts r
  Produces (call_expr s (import t) xs) c ts r = ImportCall c s t (children xs) ts r
  Produces (call_expr s f xs) c ts r = Call c s (child f (λ y. Produces f y)) (children xs) ts r
  Produces (new_expr s f absent) c ts r = NewBare c s (child f (λ y. Produces f y)) ts r
  Produces (new_expr s f (list xs)) c ts r = NewWith c s (child f (λ y. Produces f y)) (children xs) ts r
  Produces (opt_chain_expr s q (member_expr t o (computed_prop_name b e))) c ts r = ChainMember c s q t (child o (λ y. Produces o y)) (λ m n. Bracketed expression_level c b (child e (λ y. Produces e y)) m n) (λ m n. Bracketed expression_level c b (child e (λ y. Produces e y)) m n) ts r
  Produces (opt_chain_expr s q (member_expr t o k)) c ts r = ChainMember c s q t (child o (λ y. Produces o y)) (λ m n. Dotted true c (child k (λ y. Produces k y)) m n) (λ m n. AccessedName true c (child k (λ y. Produces k y)) m n) ts r
  Produces (opt_chain_expr s q (opt_call t f xs)) c ts r = ChainCall c s q t (child f (λ y. Produces f y)) (children xs) ts r
  Produces (tagged_tpl s t (tpl q es qs)) c ts r = TaggedTemplate c s (child t (λ y. Produces t y)) q (children es) (children qs) ts r
  Produces (meta_prop_expr s k) c ts r = MetaProperty c s k ts r
  -- operators, arrows, `yield`, the comma (13.4 to 13.16, 15.3, 15.5, 15.8, 15.9)
  Produces (update_expr s op b a) c ts r = Update c s op b (child a (λ y. Produces a y)) ts r
  Produces (unary_expr s op a) c ts r = Unary c s op (child a (λ y. Produces a y)) ts r
  Produces (await_expr s a) c ts r = Await c s (child a (λ y. Produces a y)) ts r
  Produces (bin_expr s op a b) c ts r = Binary c s op (child a (λ y. Produces a y)) (child b (λ y. Produces b y)) ts r
  Produces (cond_expr s a b d) c ts r = Conditional c s (child a (λ y. Produces a y)) (child b (λ y. Produces b y)) (child d (λ y. Produces d y)) ts r
  Produces (assign_expr s op a b) c ts r = Assignment c s op (child a (λ y. Produces a y)) (child b (λ y. Produces b y)) ts r
  Produces (arrow_expr s ps (block_stmt b ss) i) c ts r = ArrowBlock c s (children ps) b (children ss) i ts r
  Produces (arrow_expr s ps e i) c ts r = ArrowExpression c s (children ps) (child e (λ y. Produces e y)) i ts r
  Produces (yield_expr s absent g) c ts r = (g ≡ false) × YieldBare c s ts r
  Produces (yield_expr s a g) c ts r = Yield c s (child a (λ y. Produces a y)) g ts r
  Produces (seq_expr s xs) c ts r = Sequence c s (children xs) ts r
  -- patterns (13.15.5, 14.3.3)
  Produces (binding_ident s (ident t n)) c ts r = (s ≡ t) × Identifier c s n ts r
  Produces (array_pat s xs) c ts r = ArrayPattern c s (children xs) ts r
  Produces (object_pat s ps) c ts r = ObjectPattern c s (children ps) ts r
  Produces (assign_pat s a e) c ts r = Initialised c s (child a (λ y. Produces a y)) (child e (λ y. Produces e y)) ts r
  Produces (rest_pat s d a) c ts r = Rest c s d (child a (λ y. Produces a y)) ts r
  Produces (key_value_pat_prop s k a) c ts r = KeyedItem c s (child k (λ y. Produces k y)) (child a (λ y. Produces a y)) ts r
  Produces (assign_pat_prop s k e) c ts r = NamedItem c s (child k (λ y. Produces k y)) (child e (λ y. Produces e y)) ts r
  Produces (expr_pat e) c ts r = Target c (child e (λ y. Produces e y)) ts r
  -- functions and classes (clause 15)
  Produces (param s ds a) c ts r = Parameter c s (children ds) (child a (λ y. Produces a y)) ts r
  Produces (function s ps ds (block_stmt b ss) g a) c ts r = Function c (children ps) (children ds) b (children ss) g a ts r
  Produces (fn_decl s n f) c ts r = FunctionDeclaration c s (child n (λ y. Produces n y)) (child f (λ y. Produces f y)) (function_parts f) ts r
  Produces (fn_expr s n f) c ts r = FunctionExpression c s (child n (λ y. Produces n y)) (child f (λ y. Produces f y)) (function_parts f) ts r
  Produces (method_prop s k f) c ts r = ObjectMethod c s (child k (λ y. Produces k y)) (child f (λ y. Produces f y)) (function_parts f) ts r
  Produces (getter_prop s k (block_stmt b ss)) c ts r = Getter c s (child k (λ y. Produces k y)) b (children ss) ts r
  Produces (setter_prop s k a (block_stmt b ss)) c ts r = Setter c s (child k (λ y. Produces k y)) (child a (λ y. Produces a y)) b (children ss) ts r
  Produces (class s ds ms k) c ts r = ClassTail c (children ds) (children ms) (child k (λ y. Produces k y)) ts r
  Produces (class_decl s n k) c ts r = ClassDeclaration c s (child n (λ y. Produces n y)) (child k (λ y. Produces k y)) (class_span k) ts r
  Produces (class_expr s n k) c ts r = ClassExpression c s (child n (λ y. Produces n y)) (child k (λ y. Produces k y)) (class_span k) ts r
  Produces (constructor s k ps (block_stmt b ss)) c ts r = Constructor c s (child k (λ y. Produces k y)) (children ps) b (children ss) ts r
  Produces (class_method s k f m i) c ts r = ClassMethod is_key c s (child k (λ y. Produces k y)) (child f (λ y. Produces f y)) (function_parts f) m i ts r
  Produces (private_method s k f m i) c ts r = ClassMethod is_private c s (child k (λ y. Produces k y)) (child f (λ y. Produces f y)) (function_parts f) m i ts r
  Produces (class_prop s k v i ds) c ts r = Field is_key c s (child k (λ y. Produces k y)) (child v (λ y. Produces v y)) i (children ds) ts r
  Produces (private_prop s k v i ds) c ts r = Field is_private c s (child k (λ y. Produces k y)) (child v (λ y. Produces v y)) i (children ds) ts r
  Produces (auto_accessor s k v i ds) c ts r = AutoAccessor c s (child k (λ y. Produces k y)) (child v (λ y. Produces v y)) i (children ds) ts r
  Produces (static_block s (block_stmt b ss)) c ts r = StaticBlock c s b (children ss) ts r
  -- statements and declarations (clause 14)
  Produces (block_stmt s ss) c ts r = Block c s (children ss) ts r
  Produces (empty_stmt s) c ts r = Empty c s ts r
  Produces (debugger_stmt s) c ts r = Debugger c s ts r
  Produces (var_decl s k ds) c ts r = Variables c s k (declarators_end ds) (children ds) ts r
  Produces (using_decl s w ds) c ts r = Using c s w (declarators_end ds) (children ds) ts r
  Produces (var_declarator s n e) c ts r = Declarator c s (child n (λ y. Produces n y)) (child e (λ y. Produces e y)) ts r
  Produces (expr_stmt s e) c ts r = ExpressionStatement c s (child e (λ y. Produces e y)) ts r
  Produces (if_stmt s t a b) c ts r = If c s (child t (λ y. Produces t y)) (child a (λ y. Produces a y)) (child b (λ y. Produces b y)) ts r
  Produces (do_while_stmt s t b) c ts r = DoWhile c s (child t (λ y. Produces t y)) (child b (λ y. Produces b y)) ts r
  Produces (while_stmt s t b) c ts r = While c s (child t (λ y. Produces t y)) (child b (λ y. Produces b y)) ts r
  Produces (for_stmt s (var_decl v k ds) t u b) c ts r = ForVariables c s v k (children ds) (child t (λ y. Produces t y)) (child u (λ y. Produces u y)) (child b (λ y. Produces b y)) ts r
  Produces (for_stmt s (using_decl v w ds) t u b) c ts r = ForUsing c s v w (children ds) (child t (λ y. Produces t y)) (child u (λ y. Produces u y)) (child b (λ y. Produces b y)) ts r
  Produces (for_stmt s i t u b) c ts r = ForExpression c s (child i (λ y. Produces i y)) (child t (λ y. Produces t y)) (child u (λ y. Produces u y)) (child b (λ y. Produces b y)) ts r
  Produces (for_in_stmt s (var_decl v k ds) e b) c ts r = ForIn c s (λ m n. HeadVariables c v k (children ds) m n) (child e (λ y. Produces e y)) (child b (λ y. Produces b y)) ts r
  Produces (for_in_stmt s (using_decl v w ds) e b) c ts r = ForIn c s (λ m n. HeadUsing c v w (children ds) m n) (child e (λ y. Produces e y)) (child b (λ y. Produces b y)) ts r
  Produces (for_in_stmt s a e b) c ts r = ForIn c s (λ m n. HeadTarget c (child a (λ y. Produces a y)) m n) (child e (λ y. Produces e y)) (child b (λ y. Produces b y)) ts r
  Produces (for_of_stmt s w (var_decl v k ds) e b) c ts r = ForOf c s w (λ m n. HeadVariables c v k (children ds) m n) (child e (λ y. Produces e y)) (child b (λ y. Produces b y)) ts r
  Produces (for_of_stmt s w (using_decl v i ds) e b) c ts r = ForOf c s w (λ m n. HeadUsing c v i (children ds) m n) (child e (λ y. Produces e y)) (child b (λ y. Produces b y)) ts r
  Produces (for_of_stmt s w a e b) c ts r = ForOf c s w (λ m n. OfTarget c w (child a (λ y. Produces a y)) m n) (child e (λ y. Produces e y)) (child b (λ y. Produces b y)) ts r
  Produces (continue_stmt s l) c ts r = Jump continue_kind c s (child l (λ y. Produces l y)) ts r
  Produces (break_stmt s l) c ts r = Jump break_kind c s (child l (λ y. Produces l y)) ts r
  Produces (return_stmt s e) c ts r = Return c s (child e (λ y. Produces e y)) ts r
  Produces (with_stmt s e b) c ts r = With c s (child e (λ y. Produces e y)) (child b (λ y. Produces b y)) ts r
  Produces (switch_stmt s e xs) c ts r = Switch c s (child e (λ y. Produces e y)) (children xs) ts r
  Produces (switch_case s t ss) c ts r = Case c s (child t (λ y. Produces t y)) (children ss) ts r
  Produces (labeled_stmt s l b) c ts r = Labelled c s (child l (λ y. Produces l y)) (child b (λ y. Produces b y)) ts r
  Produces (throw_stmt s e) c ts r = Throw c s (child e (λ y. Produces e y)) ts r
  Produces (try_stmt s b h f) c ts r = Try c s (child b (λ y. Produces b y)) (child h (λ y. Produces h y)) (child f (λ y. Produces f y)) ts r
  Produces (catch_clause s a b) c ts r = Catch c s (child a (λ y. Produces a y)) (child b (λ y. Produces b y)) ts r
  -- scripts and modules (clause 16)
  Produces (import_decl s xs f w) c ts r = Import c s (children xs) (child f (λ y. Produces f y)) (child w (λ y. Produces w y)) ts r
  Produces (import_named_specifier s l i) c ts r = NamedImport c s (child l (λ y. Produces l y)) (child i (λ y. Produces i y)) ts r
  Produces (import_default_specifier s l) c ts r = DefaultImport c s (child l (λ y. Produces l y)) ts r
  Produces (import_star_as_specifier s l) c ts r = StarImport c s (child l (λ y. Produces l y)) ts r
  Produces (named_export s xs f w) c ts r = Exports c s (children xs) (child f (λ y. Produces f y)) (child w (λ y. Produces w y)) ts r
  Produces (export_named_specifier s o e) c ts r = NamedExport c s (child o (λ y. Produces o y)) (child e (λ y. Produces e y)) ts r
  Produces (export_namespace_specifier s n) c ts r = StarExport c s (child n (λ y. Produces n y)) ts r
  Produces (export_all s f w) c ts r = ExportAll c s (child f (λ y. Produces f y)) (child w (λ y. Produces w y)) ts r
  Produces (export_decl s d) c ts r = ExportDeclaration c s (child d (λ y. Produces d y)) ts r
  Produces (export_default_decl s d) c ts r = DefaultDeclaration c s (child d (λ y. Produces d y)) ts r
  Produces (export_default_expr s e) c ts r = DefaultExpression c s (child e (λ y. Produces e y)) ts r
  Produces (script s ss l) c ts r = Program is_item c s l (children ss) ts r
  Produces (es_module s ss l) c ts r = Program is_module_item c s l (children ss) ts r
  -- anything else, as a node that nothing could be read as, produces nothing
  Produces _ c ts r = ⊥

  pub children : Trees → List Child
  children none = []
  children (more t ts) = (child t (λ y. Produces t y)) ∷ children ts

-- A finished tree derives the tokens: it produces them, and nothing of a cover is left in it.
abbrev pub Derives : Tree → Code → Input → Input → Type 0
Derives t c ts r = Produces t c ts r × (is_clean t ≡ true)
