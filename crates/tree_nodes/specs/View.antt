-- Written by tools/tree/node_types.py from tools/tree/tree.table. Don't edit this file.
-- What contracts see of the code's tree: the spec tree. `f` is what stands for a child's part.
use Rattle.std.specs.Prelude.{ℕ}
use Rattle.base_token.specs.Kinds.{add_kind, bang_kind, const_kind, delete_kind, get_kind, import_kind, let_kind, minus_minus_kind, new_kind, plus_plus_kind, set_kind, sub_kind, tilde_kind, typeof_kind, var_kind, void_kind}
use Rattle.base_token.specs.OperatorKinds.{binary_op_kind, assign_op_kind}
use Rattle.tree_spec.specs.Tree.{Tree, plain_method, trees_by, part_by, element_by, script, es_module, import_decl, export_decl, named_export, export_default_decl, export_default_expr, export_all, import_named_specifier, import_default_specifier, import_star_as_specifier, export_namespace_specifier, export_default_specifier, export_named_specifier, block_stmt, empty_stmt, debugger_stmt, with_stmt, return_stmt, labeled_stmt, break_stmt, continue_stmt, if_stmt, switch_stmt, switch_case, throw_stmt, try_stmt, catch_clause, while_stmt, do_while_stmt, for_stmt, for_in_stmt, for_of_stmt, expr_stmt, class_decl, fn_decl, var_decl, using_decl, var_declarator, function, param, decorator, class, constructor, class_method, private_method, class_prop, private_prop, static_block, auto_accessor, ident_name, computed_prop_name, private_name, this_expr, array_lit, object_lit, fn_expr, unary_expr, update_expr, bin_expr, assign_expr, member_expr, super_prop_expr, cond_expr, call_expr, new_expr, seq_expr, ident, tpl, tpl_element, tagged_tpl, arrow_expr, class_expr, yield_expr, meta_prop_expr, await_expr, paren_expr, opt_chain_expr, opt_call, super, import, invalid, expr_or_spread, spread_element, key_value_prop, assign_prop, getter_prop, setter_prop, method_prop, str_lit, bool_lit, null_lit, number_lit, big_int_lit, regex_lit, binding_ident, array_pat, rest_pat, object_pat, assign_pat, key_value_pat_prop, assign_pat_prop, expr_pat, invalid_pat, invalid_target, list}
use Rattle.tree_nodes.specs.declared.programs.ProgramKindOf.{ProgramKindOf}
use Rattle.tree_nodes.specs.declared.programs.ProgramKindOf.TheVariants as ProgramKind
use Rattle.tree_nodes.specs.declared.programs.ScriptOf.{ScriptOf}
use Rattle.tree_nodes.specs.declared.programs.ModuleOf.{ModuleOf}
use Rattle.tree_nodes.specs.declared.programs.ModuleItemOf.{ModuleItemOf}
use Rattle.tree_nodes.specs.declared.programs.ModuleItemOf.TheVariants as ModuleItem
use Rattle.tree_nodes.specs.declared.programs.ModuleDeclOf.{ModuleDeclOf}
use Rattle.tree_nodes.specs.declared.programs.ModuleDeclOf.TheVariants as ModuleDecl
use Rattle.tree_nodes.specs.declared.programs.ImportDeclOf.{ImportDeclOf}
use Rattle.tree_nodes.specs.declared.programs.ExportDeclOf.{ExportDeclOf}
use Rattle.tree_nodes.specs.declared.programs.NamedExportOf.{NamedExportOf}
use Rattle.tree_nodes.specs.declared.programs.ExportDefaultDeclOf.{ExportDefaultDeclOf}
use Rattle.tree_nodes.specs.declared.programs.ExportDefaultExprOf.{ExportDefaultExprOf}
use Rattle.tree_nodes.specs.declared.programs.ExportAllOf.{ExportAllOf}
use Rattle.tree_nodes.specs.declared.programs.DefaultDeclOf.{DefaultDeclOf}
use Rattle.tree_nodes.specs.declared.programs.DefaultDeclOf.TheVariants as DefaultDecl
use Rattle.tree_nodes.specs.declared.programs.ImportSpecifier.{ImportSpecifier}
use Rattle.tree_nodes.specs.declared.programs.ImportSpecifier.TheVariants as ImportSpecifier
use Rattle.tree_nodes.specs.declared.programs.ImportNamedSpecifier.{ImportNamedSpecifier}
use Rattle.tree_nodes.specs.declared.programs.ImportDefaultSpecifier.{ImportDefaultSpecifier}
use Rattle.tree_nodes.specs.declared.programs.ImportStarAsSpecifier.{ImportStarAsSpecifier}
use Rattle.tree_nodes.specs.declared.programs.ExportSpecifier.{ExportSpecifier}
use Rattle.tree_nodes.specs.declared.programs.ExportSpecifier.TheVariants as ExportSpecifier
use Rattle.tree_nodes.specs.declared.programs.ExportNamespaceSpecifier.{ExportNamespaceSpecifier}
use Rattle.tree_nodes.specs.declared.programs.ExportDefaultSpecifier.{ExportDefaultSpecifier}
use Rattle.tree_nodes.specs.declared.programs.ExportNamedSpecifier.{ExportNamedSpecifier}
use Rattle.tree_nodes.specs.declared.programs.ModuleExportName.{ModuleExportName}
use Rattle.tree_nodes.specs.declared.programs.ModuleExportName.TheVariants as ModuleExportName
use Rattle.tree_nodes.specs.declared.statements.StmtKindOf.{StmtKindOf}
use Rattle.tree_nodes.specs.declared.statements.StmtKindOf.TheVariants as StmtKind
use Rattle.tree_nodes.specs.declared.statements.BlockStmtOf.{BlockStmtOf}
use Rattle.tree_nodes.specs.declared.statements.EmptyStmt.{EmptyStmt}
use Rattle.tree_nodes.specs.declared.statements.DebuggerStmt.{DebuggerStmt}
use Rattle.tree_nodes.specs.declared.statements.WithStmtOf.{WithStmtOf}
use Rattle.tree_nodes.specs.declared.statements.ReturnStmtOf.{ReturnStmtOf}
use Rattle.tree_nodes.specs.declared.statements.LabeledStmtOf.{LabeledStmtOf}
use Rattle.tree_nodes.specs.declared.statements.BreakStmt.{BreakStmt}
use Rattle.tree_nodes.specs.declared.statements.ContinueStmt.{ContinueStmt}
use Rattle.tree_nodes.specs.declared.statements.IfStmtOf.{IfStmtOf}
use Rattle.tree_nodes.specs.declared.statements.SwitchStmtOf.{SwitchStmtOf}
use Rattle.tree_nodes.specs.declared.statements.SwitchCaseOf.{SwitchCaseOf}
use Rattle.tree_nodes.specs.declared.statements.ThrowStmtOf.{ThrowStmtOf}
use Rattle.tree_nodes.specs.declared.statements.TryStmtOf.{TryStmtOf}
use Rattle.tree_nodes.specs.declared.statements.CatchClauseOf.{CatchClauseOf}
use Rattle.tree_nodes.specs.declared.statements.WhileStmtOf.{WhileStmtOf}
use Rattle.tree_nodes.specs.declared.statements.DoWhileStmtOf.{DoWhileStmtOf}
use Rattle.tree_nodes.specs.declared.statements.ForStmtOf.{ForStmtOf}
use Rattle.tree_nodes.specs.declared.statements.ForInStmtOf.{ForInStmtOf}
use Rattle.tree_nodes.specs.declared.statements.ForOfStmtOf.{ForOfStmtOf}
use Rattle.tree_nodes.specs.declared.statements.ExprStmtOf.{ExprStmtOf}
use Rattle.tree_nodes.specs.declared.statements.VarDeclOrExprOf.{VarDeclOrExprOf}
use Rattle.tree_nodes.specs.declared.statements.VarDeclOrExprOf.TheVariants as VarDeclOrExpr
use Rattle.tree_nodes.specs.declared.statements.ForHeadOf.{ForHeadOf}
use Rattle.tree_nodes.specs.declared.statements.ForHeadOf.TheVariants as ForHead
use Rattle.tree_nodes.specs.declared.declarations.DeclOf.{DeclOf}
use Rattle.tree_nodes.specs.declared.declarations.DeclOf.TheVariants as Decl
use Rattle.tree_nodes.specs.declared.declarations.ClassDeclOf.{ClassDeclOf}
use Rattle.tree_nodes.specs.declared.declarations.FnDeclOf.{FnDeclOf}
use Rattle.tree_nodes.specs.declared.declarations.VarDeclOf.{VarDeclOf}
use Rattle.tree_nodes.specs.declared.declarations.UsingDeclOf.{UsingDeclOf}
use Rattle.tree_nodes.specs.declared.declarations.VarDeclaratorOf.{VarDeclaratorOf}
use Rattle.tree_nodes.specs.declared.declarations.VarDeclKind.{VarDeclKind}
use Rattle.tree_nodes.specs.declared.declarations.VarDeclKind.TheVariants as VarDeclKind
use Rattle.tree_nodes.specs.declared.functions.FunctionOf.{FunctionOf}
use Rattle.tree_nodes.specs.declared.functions.ParamOf.{ParamOf}
use Rattle.tree_nodes.specs.declared.functions.DecoratorOf.{DecoratorOf}
use Rattle.tree_nodes.specs.declared.functions.ClassOf.{ClassOf}
use Rattle.tree_nodes.specs.declared.functions.ClassMemberOf.{ClassMemberOf}
use Rattle.tree_nodes.specs.declared.functions.ClassMemberOf.TheVariants as ClassMember
use Rattle.tree_nodes.specs.declared.functions.ConstructorOf.{ConstructorOf}
use Rattle.tree_nodes.specs.declared.functions.ClassMethodOf.{ClassMethodOf}
use Rattle.tree_nodes.specs.declared.functions.PrivateMethodOf.{PrivateMethodOf}
use Rattle.tree_nodes.specs.declared.functions.ClassPropOf.{ClassPropOf}
use Rattle.tree_nodes.specs.declared.functions.PrivatePropOf.{PrivatePropOf}
use Rattle.tree_nodes.specs.declared.functions.StaticBlockOf.{StaticBlockOf}
use Rattle.tree_nodes.specs.declared.functions.AutoAccessorOf.{AutoAccessorOf}
use Rattle.tree_nodes.specs.declared.functions.MethodKind.{MethodKind}
use Rattle.tree_nodes.specs.declared.functions.MethodKind.TheVariants as MethodKind
use Rattle.tree_nodes.specs.declared.functions.KeyOf.{KeyOf}
use Rattle.tree_nodes.specs.declared.functions.KeyOf.TheVariants as Key
use Rattle.tree_nodes.specs.declared.functions.PropNameOf.{PropNameOf}
use Rattle.tree_nodes.specs.declared.functions.PropNameOf.TheVariants as PropName
use Rattle.tree_nodes.specs.declared.functions.IdentName.{IdentName}
use Rattle.tree_nodes.specs.declared.functions.ComputedPropNameOf.{ComputedPropNameOf}
use Rattle.tree_nodes.specs.declared.functions.PrivateName.{PrivateName}
use Rattle.tree_nodes.specs.declared.expressions.ExprKindOf.{ExprKindOf}
use Rattle.tree_nodes.specs.declared.expressions.ExprKindOf.TheVariants as ExprKind
use Rattle.tree_nodes.specs.declared.expressions.ThisExpr.{ThisExpr}
use Rattle.tree_nodes.specs.declared.expressions.ArrayLitOf.{ArrayLitOf}
use Rattle.tree_nodes.specs.declared.expressions.ObjectLitOf.{ObjectLitOf}
use Rattle.tree_nodes.specs.declared.expressions.FnExprOf.{FnExprOf}
use Rattle.tree_nodes.specs.declared.expressions.UnaryExprOf.{UnaryExprOf}
use Rattle.tree_nodes.specs.declared.expressions.UpdateExprOf.{UpdateExprOf}
use Rattle.tree_nodes.specs.declared.expressions.BinExprOf.{BinExprOf}
use Rattle.tree_nodes.specs.declared.expressions.AssignExprOf.{AssignExprOf}
use Rattle.tree_nodes.specs.declared.expressions.MemberExprOf.{MemberExprOf}
use Rattle.tree_nodes.specs.declared.expressions.SuperPropExprOf.{SuperPropExprOf}
use Rattle.tree_nodes.specs.declared.expressions.CondExprOf.{CondExprOf}
use Rattle.tree_nodes.specs.declared.expressions.CallExprOf.{CallExprOf}
use Rattle.tree_nodes.specs.declared.expressions.NewExprOf.{NewExprOf}
use Rattle.tree_nodes.specs.declared.expressions.SeqExprOf.{SeqExprOf}
use Rattle.tree_nodes.specs.declared.expressions.Ident.{Ident}
use Rattle.tree_nodes.specs.declared.expressions.TplOf.{TplOf}
use Rattle.tree_nodes.specs.declared.expressions.TplElement.{TplElement}
use Rattle.tree_nodes.specs.declared.expressions.TaggedTplOf.{TaggedTplOf}
use Rattle.tree_nodes.specs.declared.expressions.ArrowExprOf.{ArrowExprOf}
use Rattle.tree_nodes.specs.declared.expressions.ClassExprOf.{ClassExprOf}
use Rattle.tree_nodes.specs.declared.expressions.YieldExprOf.{YieldExprOf}
use Rattle.tree_nodes.specs.declared.expressions.MetaPropExpr.{MetaPropExpr}
use Rattle.tree_nodes.specs.declared.expressions.AwaitExprOf.{AwaitExprOf}
use Rattle.tree_nodes.specs.declared.expressions.ParenExprOf.{ParenExprOf}
use Rattle.tree_nodes.specs.declared.expressions.OptChainExprOf.{OptChainExprOf}
use Rattle.tree_nodes.specs.declared.expressions.OptCallOf.{OptCallOf}
use Rattle.tree_nodes.specs.declared.expressions.Super.{Super}
use Rattle.tree_nodes.specs.declared.expressions.Import.{Import}
use Rattle.tree_nodes.specs.declared.expressions.Invalid.{Invalid}
use Rattle.tree_nodes.specs.declared.expressions.ExprOrSpreadOf.{ExprOrSpreadOf}
use Rattle.tree_nodes.specs.declared.expressions.SpreadElementOf.{SpreadElementOf}
use Rattle.tree_nodes.specs.declared.expressions.CalleeOf.{CalleeOf}
use Rattle.tree_nodes.specs.declared.expressions.CalleeOf.TheVariants as Callee
use Rattle.tree_nodes.specs.declared.expressions.MemberPropOf.{MemberPropOf}
use Rattle.tree_nodes.specs.declared.expressions.MemberPropOf.TheVariants as MemberProp
use Rattle.tree_nodes.specs.declared.expressions.SuperPropOf.{SuperPropOf}
use Rattle.tree_nodes.specs.declared.expressions.SuperPropOf.TheVariants as SuperProp
use Rattle.tree_nodes.specs.declared.expressions.OptChainBaseOf.{OptChainBaseOf}
use Rattle.tree_nodes.specs.declared.expressions.OptChainBaseOf.TheVariants as OptChainBase
use Rattle.tree_nodes.specs.declared.expressions.BlockStmtOrExprOf.{BlockStmtOrExprOf}
use Rattle.tree_nodes.specs.declared.expressions.BlockStmtOrExprOf.TheVariants as BlockStmtOrExpr
use Rattle.tree_nodes.specs.declared.expressions.UnaryOp.{UnaryOp}
use Rattle.tree_nodes.specs.declared.expressions.UnaryOp.TheVariants as UnaryOp
use Rattle.tree_nodes.specs.declared.expressions.UpdateOp.{UpdateOp}
use Rattle.tree_nodes.specs.declared.expressions.UpdateOp.TheVariants as UpdateOp
use Rattle.tree_nodes.specs.declared.expressions.MetaPropKind.{MetaPropKind}
use Rattle.tree_nodes.specs.declared.expressions.MetaPropKind.TheVariants as MetaPropKind
use Rattle.tree_nodes.specs.declared.objects.PropOrSpreadOf.{PropOrSpreadOf}
use Rattle.tree_nodes.specs.declared.objects.PropOrSpreadOf.TheVariants as PropOrSpread
use Rattle.tree_nodes.specs.declared.objects.PropOf.{PropOf}
use Rattle.tree_nodes.specs.declared.objects.PropOf.TheVariants as Prop
use Rattle.tree_nodes.specs.declared.objects.KeyValuePropOf.{KeyValuePropOf}
use Rattle.tree_nodes.specs.declared.objects.AssignPropOf.{AssignPropOf}
use Rattle.tree_nodes.specs.declared.objects.GetterPropOf.{GetterPropOf}
use Rattle.tree_nodes.specs.declared.objects.SetterPropOf.{SetterPropOf}
use Rattle.tree_nodes.specs.declared.objects.MethodPropOf.{MethodPropOf}
use Rattle.tree_nodes.specs.declared.literals.Lit.{Lit}
use Rattle.tree_nodes.specs.declared.literals.Lit.TheVariants as Lit
use Rattle.tree_nodes.specs.declared.literals.Str.{Str}
use Rattle.tree_nodes.specs.declared.literals.Bool.{Bool}
use Rattle.tree_nodes.specs.declared.literals.Null.{Null}
use Rattle.tree_nodes.specs.declared.literals.Number.{Number}
use Rattle.tree_nodes.specs.declared.literals.BigInt.{BigInt}
use Rattle.tree_nodes.specs.declared.literals.Regex.{Regex}
use Rattle.tree_nodes.specs.declared.patterns.PatKindOf.{PatKindOf}
use Rattle.tree_nodes.specs.declared.patterns.PatKindOf.TheVariants as PatKind
use Rattle.tree_nodes.specs.declared.patterns.BindingIdent.{BindingIdent}
use Rattle.tree_nodes.specs.declared.patterns.ArrayPatOf.{ArrayPatOf}
use Rattle.tree_nodes.specs.declared.patterns.RestPatOf.{RestPatOf}
use Rattle.tree_nodes.specs.declared.patterns.ObjectPatOf.{ObjectPatOf}
use Rattle.tree_nodes.specs.declared.patterns.AssignPatOf.{AssignPatOf}
use Rattle.tree_nodes.specs.declared.patterns.ObjectPatPropOf.{ObjectPatPropOf}
use Rattle.tree_nodes.specs.declared.patterns.ObjectPatPropOf.TheVariants as ObjectPatProp
use Rattle.tree_nodes.specs.declared.patterns.KeyValuePatPropOf.{KeyValuePatPropOf}
use Rattle.tree_nodes.specs.declared.patterns.AssignPatPropOf.{AssignPatPropOf}
use Rattle.tree_nodes.specs.declared.patterns.AssignTargetOf.{AssignTargetOf}
use Rattle.tree_nodes.specs.declared.patterns.AssignTargetOf.TheVariants as AssignTarget

abbrev pub var_decl_kind_word : VarDeclKind → ℕ
var_decl_kind_word VarDeclKind.Var = var_kind
var_decl_kind_word VarDeclKind.Let = let_kind
var_decl_kind_word VarDeclKind.Const = const_kind

abbrev pub method_kind_word : MethodKind → ℕ
method_kind_word MethodKind.Method = plain_method
method_kind_word MethodKind.Getter = get_kind
method_kind_word MethodKind.Setter = set_kind

abbrev pub unary_op_word : UnaryOp → ℕ
unary_op_word UnaryOp.Minus = sub_kind
unary_op_word UnaryOp.Plus = add_kind
unary_op_word UnaryOp.Bang = bang_kind
unary_op_word UnaryOp.Tilde = tilde_kind
unary_op_word UnaryOp.TypeOf = typeof_kind
unary_op_word UnaryOp.Void = void_kind
unary_op_word UnaryOp.Delete = delete_kind

abbrev pub update_op_word : UpdateOp → ℕ
update_op_word UpdateOp.PlusPlus = plus_plus_kind
update_op_word UpdateOp.MinusMinus = minus_minus_kind

abbrev pub meta_prop_kind_word : MetaPropKind → ℕ
meta_prop_kind_word MetaPropKind.NewTarget = new_kind
meta_prop_kind_word MetaPropKind.ImportMeta = import_kind

abbrev pub view_script : {T : Type 0} → (T → Tree) → ScriptOf T → Tree
view_script f s = script s.span (trees_by (λ x. f x.part.value) s.body.items) s.shebang

abbrev pub view_ident : Ident → Tree
view_ident s = ident s.span s.sym

abbrev pub view_str : Str → Tree
view_str s = str_lit s.span s.units s.raw

abbrev pub view_module_export_name : ModuleExportName → Tree
view_module_export_name (ModuleExportName.Ident x) = view_ident x
view_module_export_name (ModuleExportName.Str x) = view_str x

abbrev pub view_import_named_specifier : ImportNamedSpecifier → Tree
view_import_named_specifier s = import_named_specifier s.span (view_ident s.local) (part_by view_module_export_name s.imported)

abbrev pub view_import_default_specifier : ImportDefaultSpecifier → Tree
view_import_default_specifier s = import_default_specifier s.span (view_ident s.local)

abbrev pub view_import_star_as_specifier : ImportStarAsSpecifier → Tree
view_import_star_as_specifier s = import_star_as_specifier s.span (view_ident s.local)

abbrev pub view_import_specifier : ImportSpecifier → Tree
view_import_specifier (ImportSpecifier.Named x) = view_import_named_specifier x
view_import_specifier (ImportSpecifier.Default x) = view_import_default_specifier x
view_import_specifier (ImportSpecifier.Namespace x) = view_import_star_as_specifier x

abbrev pub view_spread_element : {T : Type 0} → (T → Tree) → SpreadElementOf T → Tree
view_spread_element f s = spread_element s.span (f s.expr.part.value)

abbrev pub view_ident_name : IdentName → Tree
view_ident_name s = ident_name s.span s.sym

abbrev pub view_number : Number → Tree
view_number s = number_lit s.span s.value.value s.raw

abbrev pub view_big_int : BigInt → Tree
view_big_int s = big_int_lit s.span s.radix s.digits s.raw

abbrev pub view_computed_prop_name : {T : Type 0} → (T → Tree) → ComputedPropNameOf T → Tree
view_computed_prop_name f s = computed_prop_name s.span (f s.expr.part.value)

abbrev pub view_prop_name : {T : Type 0} → (T → Tree) → PropNameOf T → Tree
view_prop_name f (PropName.Ident x) = view_ident_name x
view_prop_name f (PropName.Str x) = view_str x
view_prop_name f (PropName.Num x) = view_number x
view_prop_name f (PropName.BigInt x) = view_big_int x.value
view_prop_name f (PropName.Computed x) = view_computed_prop_name f x

abbrev pub view_key_value_prop : {T : Type 0} → (T → Tree) → KeyValuePropOf T → Tree
view_key_value_prop f s = key_value_prop s.span (view_prop_name f s.key) (f s.value.part.value)

abbrev pub view_assign_prop : {T : Type 0} → (T → Tree) → AssignPropOf T → Tree
view_assign_prop f s = assign_prop s.span (view_ident s.key) (f s.value.part.value)

abbrev pub view_block_stmt : {T : Type 0} → (T → Tree) → BlockStmtOf T → Tree
view_block_stmt f s = block_stmt s.span (trees_by (λ x. f x.part.value) s.stmts.items)

abbrev pub view_getter_prop : {T : Type 0} → (T → Tree) → GetterPropOf T → Tree
view_getter_prop f s = getter_prop s.span (view_prop_name f s.key) (view_block_stmt f s.body)

abbrev pub view_setter_prop : {T : Type 0} → (T → Tree) → SetterPropOf T → Tree
view_setter_prop f s = setter_prop s.span (view_prop_name f s.key) (f s.param.part.value) (view_block_stmt f s.body)

abbrev pub view_decorator : {T : Type 0} → (T → Tree) → DecoratorOf T → Tree
view_decorator f s = decorator s.span (f s.expr.part.value)

abbrev pub view_param : {T : Type 0} → (T → Tree) → ParamOf T → Tree
view_param f s = param s.span (trees_by (view_decorator f) s.decorators.items) (f s.pat.part.value)

abbrev pub view_function : {T : Type 0} → (T → Tree) → FunctionOf T → Tree
view_function f s = function s.span (trees_by (view_param f) s.params.items) (trees_by (view_decorator f) s.decorators.items) (view_block_stmt f s.body) s.is_generator s.is_async

abbrev pub view_method_prop : {T : Type 0} → (T → Tree) → MethodPropOf T → Tree
view_method_prop f s = method_prop s.span (view_prop_name f s.key) (view_function f s.function.value)

abbrev pub view_prop : {T : Type 0} → (T → Tree) → PropOf T → Tree
view_prop f (Prop.Shorthand x) = view_ident x
view_prop f (Prop.KeyValue x) = view_key_value_prop f x
view_prop f (Prop.Assign x) = view_assign_prop f x
view_prop f (Prop.Getter x) = view_getter_prop f x
view_prop f (Prop.Setter x) = view_setter_prop f x
view_prop f (Prop.Method x) = view_method_prop f x

abbrev pub view_prop_or_spread : {T : Type 0} → (T → Tree) → PropOrSpreadOf T → Tree
view_prop_or_spread f (PropOrSpread.Spread x) = view_spread_element f x
view_prop_or_spread f (PropOrSpread.Prop x) = view_prop f x.value

abbrev pub view_object_lit : {T : Type 0} → (T → Tree) → ObjectLitOf T → Tree
view_object_lit f s = object_lit s.span (trees_by (view_prop_or_spread f) s.props.items)

abbrev pub view_import_decl : {T : Type 0} → (T → Tree) → ImportDeclOf T → Tree
view_import_decl f s = import_decl s.span (trees_by view_import_specifier s.specifiers.items) (view_str s.src.value) (part_by (λ x. view_object_lit f x.value) s.with_)

abbrev pub view_constructor : {T : Type 0} → (T → Tree) → ConstructorOf T → Tree
view_constructor f s = constructor s.span (view_prop_name f s.key) (trees_by (view_param f) s.params.items) (view_block_stmt f s.body)

abbrev pub view_class_method : {T : Type 0} → (T → Tree) → ClassMethodOf T → Tree
view_class_method f s = class_method s.span (view_prop_name f s.key) (view_function f s.function.value) (method_kind_word s.kind) s.is_static

abbrev pub view_private_name : PrivateName → Tree
view_private_name s = private_name s.span s.name

abbrev pub view_private_method : {T : Type 0} → (T → Tree) → PrivateMethodOf T → Tree
view_private_method f s = private_method s.span (view_private_name s.key) (view_function f s.function.value) (method_kind_word s.kind) s.is_static

abbrev pub view_class_prop : {T : Type 0} → (T → Tree) → ClassPropOf T → Tree
view_class_prop f s = class_prop s.span (view_prop_name f s.key) (part_by (λ x. f x.part.value) s.value) s.is_static (trees_by (view_decorator f) s.decorators.items)

abbrev pub view_private_prop : {T : Type 0} → (T → Tree) → PrivatePropOf T → Tree
view_private_prop f s = private_prop s.span (view_private_name s.key) (part_by (λ x. f x.part.value) s.value) s.is_static (trees_by (view_decorator f) s.decorators.items)

abbrev pub view_static_block : {T : Type 0} → (T → Tree) → StaticBlockOf T → Tree
view_static_block f s = static_block s.span (view_block_stmt f s.body)

abbrev pub view_key : {T : Type 0} → (T → Tree) → KeyOf T → Tree
view_key f (Key.Private x) = view_private_name x
view_key f (Key.Public x) = view_prop_name f x

abbrev pub view_auto_accessor : {T : Type 0} → (T → Tree) → AutoAccessorOf T → Tree
view_auto_accessor f s = auto_accessor s.span (view_key f s.key) (part_by (λ x. f x.part.value) s.value) s.is_static (trees_by (view_decorator f) s.decorators.items)

abbrev pub view_empty_stmt : EmptyStmt → Tree
view_empty_stmt s = empty_stmt s.span

abbrev pub view_class_member : {T : Type 0} → (T → Tree) → ClassMemberOf T → Tree
view_class_member f (ClassMember.Constructor x) = view_constructor f x
view_class_member f (ClassMember.Method x) = view_class_method f x
view_class_member f (ClassMember.PrivateMethod x) = view_private_method f x
view_class_member f (ClassMember.ClassProp x) = view_class_prop f x
view_class_member f (ClassMember.PrivateProp x) = view_private_prop f x
view_class_member f (ClassMember.StaticBlock x) = view_static_block f x
view_class_member f (ClassMember.AutoAccessor x) = view_auto_accessor f x
view_class_member f (ClassMember.Empty x) = view_empty_stmt x

abbrev pub view_class : {T : Type 0} → (T → Tree) → ClassOf T → Tree
view_class f s = class s.span (trees_by (view_decorator f) s.decorators.items) (trees_by (view_class_member f) s.body.items) (part_by (λ x. f x.part.value) s.super_class)

abbrev pub view_class_decl : {T : Type 0} → (T → Tree) → ClassDeclOf T → Tree
view_class_decl f s = class_decl s.span (view_ident s.ident) (view_class f s.class.value)

abbrev pub view_fn_decl : {T : Type 0} → (T → Tree) → FnDeclOf T → Tree
view_fn_decl f s = fn_decl s.span (view_ident s.ident) (view_function f s.function.value)

abbrev pub view_var_declarator : {T : Type 0} → (T → Tree) → VarDeclaratorOf T → Tree
view_var_declarator f s = var_declarator s.span (f s.name.part.value) (part_by (λ x. f x.part.value) s.init)

abbrev pub view_var_decl : {T : Type 0} → (T → Tree) → VarDeclOf T → Tree
view_var_decl f s = var_decl s.span (var_decl_kind_word s.kind) (trees_by (view_var_declarator f) s.decls.items)

abbrev pub view_using_decl : {T : Type 0} → (T → Tree) → UsingDeclOf T → Tree
view_using_decl f s = using_decl s.span s.is_await (trees_by (view_var_declarator f) s.decls.items)

abbrev pub view_decl : {T : Type 0} → (T → Tree) → DeclOf T → Tree
view_decl f (Decl.Class x) = view_class_decl f x
view_decl f (Decl.Fn x) = view_fn_decl f x
view_decl f (Decl.Var x) = view_var_decl f x
view_decl f (Decl.Using x) = view_using_decl f x

abbrev pub view_export_decl : {T : Type 0} → (T → Tree) → ExportDeclOf T → Tree
view_export_decl f s = export_decl s.span (view_decl f s.decl)

abbrev pub view_export_namespace_specifier : ExportNamespaceSpecifier → Tree
view_export_namespace_specifier s = export_namespace_specifier s.span (view_module_export_name s.name)

abbrev pub view_export_default_specifier : ExportDefaultSpecifier → Tree
view_export_default_specifier s = export_default_specifier s.span (view_ident s.exported)

abbrev pub view_export_named_specifier : ExportNamedSpecifier → Tree
view_export_named_specifier s = export_named_specifier s.span (view_module_export_name s.orig) (part_by view_module_export_name s.exported)

abbrev pub view_export_specifier : ExportSpecifier → Tree
view_export_specifier (ExportSpecifier.Namespace x) = view_export_namespace_specifier x
view_export_specifier (ExportSpecifier.Default x) = view_export_default_specifier x
view_export_specifier (ExportSpecifier.Named x) = view_export_named_specifier x

abbrev pub view_named_export : {T : Type 0} → (T → Tree) → NamedExportOf T → Tree
view_named_export f s = named_export s.span (trees_by view_export_specifier s.specifiers.items) (part_by (λ x. view_str x.value) s.src) (part_by (λ x. view_object_lit f x.value) s.with_)

abbrev pub view_class_expr : {T : Type 0} → (T → Tree) → ClassExprOf T → Tree
view_class_expr f s = class_expr s.span (part_by view_ident s.ident) (view_class f s.class.value)

abbrev pub view_fn_expr : {T : Type 0} → (T → Tree) → FnExprOf T → Tree
view_fn_expr f s = fn_expr s.span (part_by view_ident s.ident) (view_function f s.function.value)

abbrev pub view_default_decl : {T : Type 0} → (T → Tree) → DefaultDeclOf T → Tree
view_default_decl f (DefaultDecl.Class x) = view_class_expr f x
view_default_decl f (DefaultDecl.Fn x) = view_fn_expr f x

abbrev pub view_export_default_decl : {T : Type 0} → (T → Tree) → ExportDefaultDeclOf T → Tree
view_export_default_decl f s = export_default_decl s.span (view_default_decl f s.decl)

abbrev pub view_export_default_expr : {T : Type 0} → (T → Tree) → ExportDefaultExprOf T → Tree
view_export_default_expr f s = export_default_expr s.span (f s.expr.part.value)

abbrev pub view_export_all : {T : Type 0} → (T → Tree) → ExportAllOf T → Tree
view_export_all f s = export_all s.span (view_str s.src.value) (part_by (λ x. view_object_lit f x.value) s.with_)

abbrev pub view_module_decl : {T : Type 0} → (T → Tree) → ModuleDeclOf T → Tree
view_module_decl f (ModuleDecl.Import x) = view_import_decl f x
view_module_decl f (ModuleDecl.ExportDecl x) = view_export_decl f x
view_module_decl f (ModuleDecl.ExportNamed x) = view_named_export f x
view_module_decl f (ModuleDecl.ExportDefaultDecl x) = view_export_default_decl f x
view_module_decl f (ModuleDecl.ExportDefaultExpr x) = view_export_default_expr f x
view_module_decl f (ModuleDecl.ExportAll x) = view_export_all f x

abbrev pub view_module_item : {T : Type 0} → (T → Tree) → ModuleItemOf T → Tree
view_module_item f (ModuleItem.ModuleDecl x) = view_module_decl f x
view_module_item f (ModuleItem.Stmt x) = f x.part.value

abbrev pub view_module : {T : Type 0} → (T → Tree) → ModuleOf T → Tree
view_module f s = es_module s.span (trees_by (view_module_item f) s.body.items) s.shebang

abbrev pub view_program_kind : {T : Type 0} → (T → Tree) → ProgramKindOf T → Tree
view_program_kind f (ProgramKind.Script x) = view_script f x
view_program_kind f (ProgramKind.Module x) = view_module f x

abbrev pub view_debugger_stmt : DebuggerStmt → Tree
view_debugger_stmt s = debugger_stmt s.span

abbrev pub view_with_stmt : {T : Type 0} → (T → Tree) → WithStmtOf T → Tree
view_with_stmt f s = with_stmt s.span (f s.obj.part.value) (f s.body.part.value)

abbrev pub view_return_stmt : {T : Type 0} → (T → Tree) → ReturnStmtOf T → Tree
view_return_stmt f s = return_stmt s.span (part_by (λ x. f x.part.value) s.arg)

abbrev pub view_labeled_stmt : {T : Type 0} → (T → Tree) → LabeledStmtOf T → Tree
view_labeled_stmt f s = labeled_stmt s.span (view_ident s.label) (f s.body.part.value)

abbrev pub view_break_stmt : BreakStmt → Tree
view_break_stmt s = break_stmt s.span (part_by view_ident s.label)

abbrev pub view_continue_stmt : ContinueStmt → Tree
view_continue_stmt s = continue_stmt s.span (part_by view_ident s.label)

abbrev pub view_if_stmt : {T : Type 0} → (T → Tree) → IfStmtOf T → Tree
view_if_stmt f s = if_stmt s.span (f s.test.part.value) (f s.cons.part.value) (part_by (λ x. f x.part.value) s.alt)

abbrev pub view_switch_case : {T : Type 0} → (T → Tree) → SwitchCaseOf T → Tree
view_switch_case f s = switch_case s.span (part_by (λ x. f x.part.value) s.test) (trees_by (λ x. f x.part.value) s.cons.items)

abbrev pub view_switch_stmt : {T : Type 0} → (T → Tree) → SwitchStmtOf T → Tree
view_switch_stmt f s = switch_stmt s.span (f s.discriminant.part.value) (trees_by (view_switch_case f) s.cases.items)

abbrev pub view_throw_stmt : {T : Type 0} → (T → Tree) → ThrowStmtOf T → Tree
view_throw_stmt f s = throw_stmt s.span (f s.arg.part.value)

abbrev pub view_catch_clause : {T : Type 0} → (T → Tree) → CatchClauseOf T → Tree
view_catch_clause f s = catch_clause s.span (part_by (λ x. f x.part.value) s.param) (view_block_stmt f s.body)

abbrev pub view_try_stmt : {T : Type 0} → (T → Tree) → TryStmtOf T → Tree
view_try_stmt f s = try_stmt s.span (view_block_stmt f s.block) (part_by (view_catch_clause f) s.handler) (part_by (view_block_stmt f) s.finalizer)

abbrev pub view_while_stmt : {T : Type 0} → (T → Tree) → WhileStmtOf T → Tree
view_while_stmt f s = while_stmt s.span (f s.test.part.value) (f s.body.part.value)

abbrev pub view_do_while_stmt : {T : Type 0} → (T → Tree) → DoWhileStmtOf T → Tree
view_do_while_stmt f s = do_while_stmt s.span (f s.test.part.value) (f s.body.part.value)

abbrev pub view_var_decl_or_expr : {T : Type 0} → (T → Tree) → VarDeclOrExprOf T → Tree
view_var_decl_or_expr f (VarDeclOrExpr.VarDecl x) = view_var_decl f x.value
view_var_decl_or_expr f (VarDeclOrExpr.UsingDecl x) = view_using_decl f x.value
view_var_decl_or_expr f (VarDeclOrExpr.Expr x) = f x.part.value

abbrev pub view_for_stmt : {T : Type 0} → (T → Tree) → ForStmtOf T → Tree
view_for_stmt f s = for_stmt s.span (part_by (view_var_decl_or_expr f) s.init) (part_by (λ x. f x.part.value) s.test) (part_by (λ x. f x.part.value) s.update) (f s.body.part.value)

abbrev pub view_for_head : {T : Type 0} → (T → Tree) → ForHeadOf T → Tree
view_for_head f (ForHead.VarDecl x) = view_var_decl f x.value
view_for_head f (ForHead.UsingDecl x) = view_using_decl f x.value
view_for_head f (ForHead.Pat x) = f x.part.value

abbrev pub view_for_in_stmt : {T : Type 0} → (T → Tree) → ForInStmtOf T → Tree
view_for_in_stmt f s = for_in_stmt s.span (view_for_head f s.left) (f s.right.part.value) (f s.body.part.value)

abbrev pub view_for_of_stmt : {T : Type 0} → (T → Tree) → ForOfStmtOf T → Tree
view_for_of_stmt f s = for_of_stmt s.span s.is_await (view_for_head f s.left) (f s.right.part.value) (f s.body.part.value)

abbrev pub view_expr_stmt : {T : Type 0} → (T → Tree) → ExprStmtOf T → Tree
view_expr_stmt f s = expr_stmt s.span (f s.expr.part.value)

abbrev pub view_stmt_kind : {T : Type 0} → (T → Tree) → StmtKindOf T → Tree
view_stmt_kind f (StmtKind.Block x) = view_block_stmt f x
view_stmt_kind f (StmtKind.Empty x) = view_empty_stmt x
view_stmt_kind f (StmtKind.Debugger x) = view_debugger_stmt x
view_stmt_kind f (StmtKind.With x) = view_with_stmt f x
view_stmt_kind f (StmtKind.Return x) = view_return_stmt f x
view_stmt_kind f (StmtKind.Labeled x) = view_labeled_stmt f x
view_stmt_kind f (StmtKind.Break x) = view_break_stmt x
view_stmt_kind f (StmtKind.Continue x) = view_continue_stmt x
view_stmt_kind f (StmtKind.If x) = view_if_stmt f x
view_stmt_kind f (StmtKind.Switch x) = view_switch_stmt f x
view_stmt_kind f (StmtKind.Throw x) = view_throw_stmt f x
view_stmt_kind f (StmtKind.Try x) = view_try_stmt f x.value
view_stmt_kind f (StmtKind.While x) = view_while_stmt f x
view_stmt_kind f (StmtKind.DoWhile x) = view_do_while_stmt f x
view_stmt_kind f (StmtKind.For x) = view_for_stmt f x
view_stmt_kind f (StmtKind.ForIn x) = view_for_in_stmt f x
view_stmt_kind f (StmtKind.ForOf x) = view_for_of_stmt f x
view_stmt_kind f (StmtKind.Decl x) = view_decl f x
view_stmt_kind f (StmtKind.Expr x) = view_expr_stmt f x

abbrev pub view_this_expr : ThisExpr → Tree
view_this_expr s = this_expr s.span

abbrev pub view_expr_or_spread : {T : Type 0} → (T → Tree) → ExprOrSpreadOf T → Tree
view_expr_or_spread f s = expr_or_spread s.span s.spread (f s.expr.part.value)

abbrev pub view_array_lit : {T : Type 0} → (T → Tree) → ArrayLitOf T → Tree
view_array_lit f s = array_lit s.span (trees_by (λ x. element_by (view_expr_or_spread f) x) s.elems.items)

abbrev pub view_unary_expr : {T : Type 0} → (T → Tree) → UnaryExprOf T → Tree
view_unary_expr f s = unary_expr s.span (unary_op_word s.op) (f s.arg.part.value)

abbrev pub view_update_expr : {T : Type 0} → (T → Tree) → UpdateExprOf T → Tree
view_update_expr f s = update_expr s.span (update_op_word s.op) s.prefix (f s.arg.part.value)

abbrev pub view_bin_expr : {T : Type 0} → (T → Tree) → BinExprOf T → Tree
view_bin_expr f s = bin_expr s.span (binary_op_kind s.op) (f s.left.part.value) (f s.right.part.value)

abbrev pub view_binding_ident : BindingIdent → Tree
view_binding_ident s = binding_ident s.span (view_ident s.id)

abbrev pub view_member_prop : {T : Type 0} → (T → Tree) → MemberPropOf T → Tree
view_member_prop f (MemberProp.Ident x) = view_ident_name x
view_member_prop f (MemberProp.PrivateName x) = view_private_name x
view_member_prop f (MemberProp.Computed x) = view_computed_prop_name f x

abbrev pub view_member_expr : {T : Type 0} → (T → Tree) → MemberExprOf T → Tree
view_member_expr f s = member_expr s.span (f s.obj.part.value) (view_member_prop f s.prop)

abbrev pub view_super : Super → Tree
view_super s = super s.span

abbrev pub view_super_prop : {T : Type 0} → (T → Tree) → SuperPropOf T → Tree
view_super_prop f (SuperProp.Ident x) = view_ident_name x
view_super_prop f (SuperProp.Computed x) = view_computed_prop_name f x

abbrev pub view_super_prop_expr : {T : Type 0} → (T → Tree) → SuperPropExprOf T → Tree
view_super_prop_expr f s = super_prop_expr s.span (view_super s.obj) (view_super_prop f s.prop)

abbrev pub view_paren_expr : {T : Type 0} → (T → Tree) → ParenExprOf T → Tree
view_paren_expr f s = paren_expr s.span (f s.expr.part.value)

abbrev pub view_opt_call : {T : Type 0} → (T → Tree) → OptCallOf T → Tree
view_opt_call f s = opt_call s.span (f s.callee.part.value) (trees_by (view_expr_or_spread f) s.args.items)

abbrev pub view_opt_chain_base : {T : Type 0} → (T → Tree) → OptChainBaseOf T → Tree
view_opt_chain_base f (OptChainBase.Member x) = view_member_expr f x
view_opt_chain_base f (OptChainBase.Call x) = view_opt_call f x

abbrev pub view_opt_chain_expr : {T : Type 0} → (T → Tree) → OptChainExprOf T → Tree
view_opt_chain_expr f s = opt_chain_expr s.span s.optional (view_opt_chain_base f s.base)

abbrev pub view_array_pat : {T : Type 0} → (T → Tree) → ArrayPatOf T → Tree
view_array_pat f s = array_pat s.span (trees_by (λ x. element_by (λ x. f x.part.value) x) s.elems.items)

abbrev pub view_key_value_pat_prop : {T : Type 0} → (T → Tree) → KeyValuePatPropOf T → Tree
view_key_value_pat_prop f s = key_value_pat_prop s.span (view_prop_name f s.key) (f s.value.part.value)

abbrev pub view_assign_pat_prop : {T : Type 0} → (T → Tree) → AssignPatPropOf T → Tree
view_assign_pat_prop f s = assign_pat_prop s.span (view_binding_ident s.key) (part_by (λ x. f x.part.value) s.value)

abbrev pub view_rest_pat : {T : Type 0} → (T → Tree) → RestPatOf T → Tree
view_rest_pat f s = rest_pat s.span s.dot3_token (f s.arg.part.value)

abbrev pub view_object_pat_prop : {T : Type 0} → (T → Tree) → ObjectPatPropOf T → Tree
view_object_pat_prop f (ObjectPatProp.KeyValue x) = view_key_value_pat_prop f x
view_object_pat_prop f (ObjectPatProp.Assign x) = view_assign_pat_prop f x
view_object_pat_prop f (ObjectPatProp.Rest x) = view_rest_pat f x

abbrev pub view_object_pat : {T : Type 0} → (T → Tree) → ObjectPatOf T → Tree
view_object_pat f s = object_pat s.span (trees_by (view_object_pat_prop f) s.props.items)

abbrev pub view_invalid : Invalid → Tree
view_invalid s = invalid s.span

abbrev pub view_assign_target : {T : Type 0} → (T → Tree) → AssignTargetOf T → Tree
view_assign_target f (AssignTarget.Ident x) = view_binding_ident x
view_assign_target f (AssignTarget.Member x) = view_member_expr f x.value
view_assign_target f (AssignTarget.SuperProp x) = view_super_prop_expr f x.value
view_assign_target f (AssignTarget.Paren x) = view_paren_expr f x
view_assign_target f (AssignTarget.OptChain x) = view_opt_chain_expr f x.value
view_assign_target f (AssignTarget.Array x) = view_array_pat f x
view_assign_target f (AssignTarget.Object x) = view_object_pat f x
view_assign_target f (AssignTarget.Invalid x) = invalid_target x.span

abbrev pub view_assign_expr : {T : Type 0} → (T → Tree) → AssignExprOf T → Tree
view_assign_expr f s = assign_expr s.span (assign_op_kind s.op) (view_assign_target f s.left) (f s.right.part.value)

abbrev pub view_cond_expr : {T : Type 0} → (T → Tree) → CondExprOf T → Tree
view_cond_expr f s = cond_expr s.span (f s.test.part.value) (f s.cons.part.value) (f s.alt.part.value)

abbrev pub view_import : Import → Tree
view_import s = import s.span

abbrev pub view_callee : {T : Type 0} → (T → Tree) → CalleeOf T → Tree
view_callee f (Callee.Super x) = view_super x
view_callee f (Callee.Import x) = view_import x
view_callee f (Callee.Expr x) = f x.part.value

abbrev pub view_call_expr : {T : Type 0} → (T → Tree) → CallExprOf T → Tree
view_call_expr f s = call_expr s.span (view_callee f s.callee) (trees_by (view_expr_or_spread f) s.args.items)

abbrev pub view_new_expr : {T : Type 0} → (T → Tree) → NewExprOf T → Tree
view_new_expr f s = new_expr s.span (f s.callee.part.value) (part_by (λ x. list (trees_by (view_expr_or_spread f) x.items)) s.args)

abbrev pub view_seq_expr : {T : Type 0} → (T → Tree) → SeqExprOf T → Tree
view_seq_expr f s = seq_expr s.span (trees_by (λ x. f x.part.value) s.exprs.items)

abbrev pub view_bool : Bool → Tree
view_bool s = bool_lit s.span s.value

abbrev pub view_null : Null → Tree
view_null s = null_lit s.span

abbrev pub view_regex : Regex → Tree
view_regex s = regex_lit s.span s.exp s.flags

abbrev pub view_lit : Lit → Tree
view_lit (Lit.Str x) = view_str x
view_lit (Lit.Bool x) = view_bool x
view_lit (Lit.Null x) = view_null x
view_lit (Lit.Num x) = view_number x
view_lit (Lit.BigInt x) = view_big_int x
view_lit (Lit.Regex x) = view_regex x

abbrev pub view_tpl_element : TplElement → Tree
view_tpl_element s = tpl_element s.span s.tail s.raw s.cooked

abbrev pub view_tpl : {T : Type 0} → (T → Tree) → TplOf T → Tree
view_tpl f s = tpl s.span (trees_by (λ x. f x.part.value) s.exprs.items) (trees_by view_tpl_element s.quasis.items)

abbrev pub view_tagged_tpl : {T : Type 0} → (T → Tree) → TaggedTplOf T → Tree
view_tagged_tpl f s = tagged_tpl s.span (f s.tag.part.value) (view_tpl f s.tpl.value)

abbrev pub view_block_stmt_or_expr : {T : Type 0} → (T → Tree) → BlockStmtOrExprOf T → Tree
view_block_stmt_or_expr f (BlockStmtOrExpr.BlockStmt x) = view_block_stmt f x
view_block_stmt_or_expr f (BlockStmtOrExpr.Expr x) = f x.part.value

abbrev pub view_arrow_expr : {T : Type 0} → (T → Tree) → ArrowExprOf T → Tree
view_arrow_expr f s = arrow_expr s.span (trees_by (λ x. f x.part.value) s.params.items) (view_block_stmt_or_expr f s.body) s.is_async

abbrev pub view_yield_expr : {T : Type 0} → (T → Tree) → YieldExprOf T → Tree
view_yield_expr f s = yield_expr s.span (part_by (λ x. f x.part.value) s.arg) s.delegate

abbrev pub view_meta_prop_expr : MetaPropExpr → Tree
view_meta_prop_expr s = meta_prop_expr s.span (meta_prop_kind_word s.kind)

abbrev pub view_await_expr : {T : Type 0} → (T → Tree) → AwaitExprOf T → Tree
view_await_expr f s = await_expr s.span (f s.arg.part.value)

abbrev pub view_expr_kind : {T : Type 0} → (T → Tree) → ExprKindOf T → Tree
view_expr_kind f (ExprKind.This x) = view_this_expr x
view_expr_kind f (ExprKind.Array x) = view_array_lit f x
view_expr_kind f (ExprKind.Object x) = view_object_lit f x
view_expr_kind f (ExprKind.Fn x) = view_fn_expr f x
view_expr_kind f (ExprKind.Unary x) = view_unary_expr f x
view_expr_kind f (ExprKind.Update x) = view_update_expr f x
view_expr_kind f (ExprKind.Bin x) = view_bin_expr f x
view_expr_kind f (ExprKind.Assign x) = view_assign_expr f x
view_expr_kind f (ExprKind.Member x) = view_member_expr f x
view_expr_kind f (ExprKind.SuperProp x) = view_super_prop_expr f x
view_expr_kind f (ExprKind.Cond x) = view_cond_expr f x
view_expr_kind f (ExprKind.Call x) = view_call_expr f x
view_expr_kind f (ExprKind.New x) = view_new_expr f x
view_expr_kind f (ExprKind.Seq x) = view_seq_expr f x
view_expr_kind f (ExprKind.Ident x) = view_ident x
view_expr_kind f (ExprKind.Lit x) = view_lit x
view_expr_kind f (ExprKind.Tpl x) = view_tpl f x
view_expr_kind f (ExprKind.TaggedTpl x) = view_tagged_tpl f x
view_expr_kind f (ExprKind.Arrow x) = view_arrow_expr f x
view_expr_kind f (ExprKind.Class x) = view_class_expr f x
view_expr_kind f (ExprKind.Yield x) = view_yield_expr f x
view_expr_kind f (ExprKind.MetaProp x) = view_meta_prop_expr x
view_expr_kind f (ExprKind.Await x) = view_await_expr f x
view_expr_kind f (ExprKind.Paren x) = view_paren_expr f x
view_expr_kind f (ExprKind.PrivateName x) = view_private_name x
view_expr_kind f (ExprKind.OptChain x) = view_opt_chain_expr f x
view_expr_kind f (ExprKind.Invalid x) = view_invalid x

abbrev pub view_assign_pat : {T : Type 0} → (T → Tree) → AssignPatOf T → Tree
view_assign_pat f s = assign_pat s.span (f s.left.part.value) (f s.right.part.value)

abbrev pub view_pat_kind : {T : Type 0} → (T → Tree) → PatKindOf T → Tree
view_pat_kind f (PatKind.Ident x) = view_binding_ident x
view_pat_kind f (PatKind.Array x) = view_array_pat f x
view_pat_kind f (PatKind.Rest x) = view_rest_pat f x
view_pat_kind f (PatKind.Object x) = view_object_pat f x
view_pat_kind f (PatKind.Assign x) = view_assign_pat f x
view_pat_kind f (PatKind.Expr x) = expr_pat (f x.part.value)
view_pat_kind f (PatKind.Invalid x) = invalid_pat x.span
