-- Written by tools/tree/node_types.py from tools/tree/tree.table. Don't edit this file.
-- Which trees of the code are well made: each child is of the sort of its place.
use Rattle.std.specs.Prelude.{All, Option, Some, None}
use Rattle.tree_nodes.specs.Placed.{Placed, holds_expr, holds_stmt, holds_pat}
use Rattle.tree_nodes.specs.declared.programs.ProgramKindOf.{ProgramKindOf}
use Rattle.tree_nodes.specs.declared.programs.ProgramKindOf.TheVariants as ProgramKind
use Rattle.tree_nodes.specs.declared.programs.ScriptOf.{ScriptOf}
use Rattle.tree_nodes.specs.declared.programs.ModuleOf.{ModuleOf}
use Rattle.tree_nodes.specs.declared.programs.ModuleItemOf.{ModuleItemOf}
use Rattle.tree_nodes.specs.declared.programs.ModuleItemOf.TheVariants as ModuleItem
use Rattle.tree_nodes.specs.declared.programs.ModuleDeclOf.{ModuleDeclOf}
use Rattle.tree_nodes.specs.declared.programs.ModuleDeclOf.TheVariants as ModuleDecl
use Rattle.tree_nodes.specs.declared.programs.ImportDeclOf.{ImportDeclOf}
use Rattle.tree_nodes.specs.declared.programs.ExportDeclOf.{ExportDeclOf}
use Rattle.tree_nodes.specs.declared.programs.NamedExportOf.{NamedExportOf}
use Rattle.tree_nodes.specs.declared.programs.ExportDefaultDeclOf.{ExportDefaultDeclOf}
use Rattle.tree_nodes.specs.declared.programs.ExportDefaultExprOf.{ExportDefaultExprOf}
use Rattle.tree_nodes.specs.declared.programs.ExportAllOf.{ExportAllOf}
use Rattle.tree_nodes.specs.declared.programs.DefaultDeclOf.{DefaultDeclOf}
use Rattle.tree_nodes.specs.declared.programs.DefaultDeclOf.TheVariants as DefaultDecl
use Rattle.tree_nodes.specs.declared.programs.ImportSpecifier.TheVariants as ImportSpecifier
use Rattle.tree_nodes.specs.declared.programs.ExportSpecifier.TheVariants as ExportSpecifier
use Rattle.tree_nodes.specs.declared.programs.ModuleExportName.TheVariants as ModuleExportName
use Rattle.tree_nodes.specs.declared.statements.StmtKindOf.{StmtKindOf}
use Rattle.tree_nodes.specs.declared.statements.StmtKindOf.TheVariants as StmtKind
use Rattle.tree_nodes.specs.declared.statements.BlockStmtOf.{BlockStmtOf}
use Rattle.tree_nodes.specs.declared.statements.WithStmtOf.{WithStmtOf}
use Rattle.tree_nodes.specs.declared.statements.ReturnStmtOf.{ReturnStmtOf}
use Rattle.tree_nodes.specs.declared.statements.LabeledStmtOf.{LabeledStmtOf}
use Rattle.tree_nodes.specs.declared.statements.IfStmtOf.{IfStmtOf}
use Rattle.tree_nodes.specs.declared.statements.SwitchStmtOf.{SwitchStmtOf}
use Rattle.tree_nodes.specs.declared.statements.SwitchCaseOf.{SwitchCaseOf}
use Rattle.tree_nodes.specs.declared.statements.ThrowStmtOf.{ThrowStmtOf}
use Rattle.tree_nodes.specs.declared.statements.TryStmtOf.{TryStmtOf}
use Rattle.tree_nodes.specs.declared.statements.CatchClauseOf.{CatchClauseOf}
use Rattle.tree_nodes.specs.declared.statements.WhileStmtOf.{WhileStmtOf}
use Rattle.tree_nodes.specs.declared.statements.DoWhileStmtOf.{DoWhileStmtOf}
use Rattle.tree_nodes.specs.declared.statements.ForStmtOf.{ForStmtOf}
use Rattle.tree_nodes.specs.declared.statements.ForInStmtOf.{ForInStmtOf}
use Rattle.tree_nodes.specs.declared.statements.ForOfStmtOf.{ForOfStmtOf}
use Rattle.tree_nodes.specs.declared.statements.ExprStmtOf.{ExprStmtOf}
use Rattle.tree_nodes.specs.declared.statements.VarDeclOrExprOf.{VarDeclOrExprOf}
use Rattle.tree_nodes.specs.declared.statements.VarDeclOrExprOf.TheVariants as VarDeclOrExpr
use Rattle.tree_nodes.specs.declared.statements.ForHeadOf.{ForHeadOf}
use Rattle.tree_nodes.specs.declared.statements.ForHeadOf.TheVariants as ForHead
use Rattle.tree_nodes.specs.declared.declarations.DeclOf.{DeclOf}
use Rattle.tree_nodes.specs.declared.declarations.DeclOf.TheVariants as Decl
use Rattle.tree_nodes.specs.declared.declarations.ClassDeclOf.{ClassDeclOf}
use Rattle.tree_nodes.specs.declared.declarations.FnDeclOf.{FnDeclOf}
use Rattle.tree_nodes.specs.declared.declarations.VarDeclOf.{VarDeclOf}
use Rattle.tree_nodes.specs.declared.declarations.UsingDeclOf.{UsingDeclOf}
use Rattle.tree_nodes.specs.declared.declarations.VarDeclaratorOf.{VarDeclaratorOf}
use Rattle.tree_nodes.specs.declared.declarations.VarDeclKind.TheVariants as VarDeclKind
use Rattle.tree_nodes.specs.declared.functions.FunctionOf.{FunctionOf}
use Rattle.tree_nodes.specs.declared.functions.ParamOf.{ParamOf}
use Rattle.tree_nodes.specs.declared.functions.DecoratorOf.{DecoratorOf}
use Rattle.tree_nodes.specs.declared.functions.ClassOf.{ClassOf}
use Rattle.tree_nodes.specs.declared.functions.ClassMemberOf.{ClassMemberOf}
use Rattle.tree_nodes.specs.declared.functions.ClassMemberOf.TheVariants as ClassMember
use Rattle.tree_nodes.specs.declared.functions.ConstructorOf.{ConstructorOf}
use Rattle.tree_nodes.specs.declared.functions.ClassMethodOf.{ClassMethodOf}
use Rattle.tree_nodes.specs.declared.functions.PrivateMethodOf.{PrivateMethodOf}
use Rattle.tree_nodes.specs.declared.functions.ClassPropOf.{ClassPropOf}
use Rattle.tree_nodes.specs.declared.functions.PrivatePropOf.{PrivatePropOf}
use Rattle.tree_nodes.specs.declared.functions.StaticBlockOf.{StaticBlockOf}
use Rattle.tree_nodes.specs.declared.functions.AutoAccessorOf.{AutoAccessorOf}
use Rattle.tree_nodes.specs.declared.functions.MethodKind.TheVariants as MethodKind
use Rattle.tree_nodes.specs.declared.functions.KeyOf.{KeyOf}
use Rattle.tree_nodes.specs.declared.functions.KeyOf.TheVariants as Key
use Rattle.tree_nodes.specs.declared.functions.PropNameOf.{PropNameOf}
use Rattle.tree_nodes.specs.declared.functions.PropNameOf.TheVariants as PropName
use Rattle.tree_nodes.specs.declared.functions.ComputedPropNameOf.{ComputedPropNameOf}
use Rattle.tree_nodes.specs.declared.functions.PrivateName.{PrivateName}
use Rattle.tree_nodes.specs.declared.expressions.ExprKindOf.{ExprKindOf}
use Rattle.tree_nodes.specs.declared.expressions.ExprKindOf.TheVariants as ExprKind
use Rattle.tree_nodes.specs.declared.expressions.ArrayLitOf.{ArrayLitOf}
use Rattle.tree_nodes.specs.declared.expressions.ObjectLitOf.{ObjectLitOf}
use Rattle.tree_nodes.specs.declared.expressions.FnExprOf.{FnExprOf}
use Rattle.tree_nodes.specs.declared.expressions.UnaryExprOf.{UnaryExprOf}
use Rattle.tree_nodes.specs.declared.expressions.UpdateExprOf.{UpdateExprOf}
use Rattle.tree_nodes.specs.declared.expressions.BinExprOf.{BinExprOf}
use Rattle.tree_nodes.specs.declared.expressions.AssignExprOf.{AssignExprOf}
use Rattle.tree_nodes.specs.declared.expressions.MemberExprOf.{MemberExprOf}
use Rattle.tree_nodes.specs.declared.expressions.SuperPropExprOf.{SuperPropExprOf}
use Rattle.tree_nodes.specs.declared.expressions.CondExprOf.{CondExprOf}
use Rattle.tree_nodes.specs.declared.expressions.CallExprOf.{CallExprOf}
use Rattle.tree_nodes.specs.declared.expressions.NewExprOf.{NewExprOf}
use Rattle.tree_nodes.specs.declared.expressions.SeqExprOf.{SeqExprOf}
use Rattle.tree_nodes.specs.declared.expressions.Ident.{Ident}
use Rattle.tree_nodes.specs.declared.expressions.TplOf.{TplOf}
use Rattle.tree_nodes.specs.declared.expressions.TaggedTplOf.{TaggedTplOf}
use Rattle.tree_nodes.specs.declared.expressions.ArrowExprOf.{ArrowExprOf}
use Rattle.tree_nodes.specs.declared.expressions.ClassExprOf.{ClassExprOf}
use Rattle.tree_nodes.specs.declared.expressions.YieldExprOf.{YieldExprOf}
use Rattle.tree_nodes.specs.declared.expressions.AwaitExprOf.{AwaitExprOf}
use Rattle.tree_nodes.specs.declared.expressions.ParenExprOf.{ParenExprOf}
use Rattle.tree_nodes.specs.declared.expressions.OptChainExprOf.{OptChainExprOf}
use Rattle.tree_nodes.specs.declared.expressions.OptCallOf.{OptCallOf}
use Rattle.tree_nodes.specs.declared.expressions.Super.{Super}
use Rattle.tree_nodes.specs.declared.expressions.Import.{Import}
use Rattle.tree_nodes.specs.declared.expressions.Invalid.{Invalid}
use Rattle.tree_nodes.specs.declared.expressions.ExprOrSpreadOf.{ExprOrSpreadOf}
use Rattle.tree_nodes.specs.declared.expressions.SpreadElementOf.{SpreadElementOf}
use Rattle.tree_nodes.specs.declared.expressions.CalleeOf.{CalleeOf}
use Rattle.tree_nodes.specs.declared.expressions.CalleeOf.TheVariants as Callee
use Rattle.tree_nodes.specs.declared.expressions.MemberPropOf.{MemberPropOf}
use Rattle.tree_nodes.specs.declared.expressions.MemberPropOf.TheVariants as MemberProp
use Rattle.tree_nodes.specs.declared.expressions.SuperPropOf.{SuperPropOf}
use Rattle.tree_nodes.specs.declared.expressions.SuperPropOf.TheVariants as SuperProp
use Rattle.tree_nodes.specs.declared.expressions.OptChainBaseOf.{OptChainBaseOf}
use Rattle.tree_nodes.specs.declared.expressions.OptChainBaseOf.TheVariants as OptChainBase
use Rattle.tree_nodes.specs.declared.expressions.BlockStmtOrExprOf.{BlockStmtOrExprOf}
use Rattle.tree_nodes.specs.declared.expressions.BlockStmtOrExprOf.TheVariants as BlockStmtOrExpr
use Rattle.tree_nodes.specs.declared.expressions.UnaryOp.TheVariants as UnaryOp
use Rattle.tree_nodes.specs.declared.expressions.UpdateOp.TheVariants as UpdateOp
use Rattle.tree_nodes.specs.declared.expressions.MetaPropKind.TheVariants as MetaPropKind
use Rattle.tree_nodes.specs.declared.objects.PropOrSpreadOf.{PropOrSpreadOf}
use Rattle.tree_nodes.specs.declared.objects.PropOrSpreadOf.TheVariants as PropOrSpread
use Rattle.tree_nodes.specs.declared.objects.PropOf.{PropOf}
use Rattle.tree_nodes.specs.declared.objects.PropOf.TheVariants as Prop
use Rattle.tree_nodes.specs.declared.objects.KeyValuePropOf.{KeyValuePropOf}
use Rattle.tree_nodes.specs.declared.objects.AssignPropOf.{AssignPropOf}
use Rattle.tree_nodes.specs.declared.objects.GetterPropOf.{GetterPropOf}
use Rattle.tree_nodes.specs.declared.objects.SetterPropOf.{SetterPropOf}
use Rattle.tree_nodes.specs.declared.objects.MethodPropOf.{MethodPropOf}
use Rattle.tree_nodes.specs.declared.literals.Lit.{Lit}
use Rattle.tree_nodes.specs.declared.literals.Lit.TheVariants as Lit
use Rattle.tree_nodes.specs.declared.literals.Str.{Str}
use Rattle.tree_nodes.specs.declared.literals.BigInt.{BigInt}
use Rattle.tree_nodes.specs.declared.patterns.PatKindOf.{PatKindOf}
use Rattle.tree_nodes.specs.declared.patterns.PatKindOf.TheVariants as PatKind
use Rattle.tree_nodes.specs.declared.patterns.ArrayPatOf.{ArrayPatOf}
use Rattle.tree_nodes.specs.declared.patterns.RestPatOf.{RestPatOf}
use Rattle.tree_nodes.specs.declared.patterns.ObjectPatOf.{ObjectPatOf}
use Rattle.tree_nodes.specs.declared.patterns.AssignPatOf.{AssignPatOf}
use Rattle.tree_nodes.specs.declared.patterns.ObjectPatPropOf.{ObjectPatPropOf}
use Rattle.tree_nodes.specs.declared.patterns.ObjectPatPropOf.TheVariants as ObjectPatProp
use Rattle.tree_nodes.specs.declared.patterns.KeyValuePatPropOf.{KeyValuePatPropOf}
use Rattle.tree_nodes.specs.declared.patterns.AssignPatPropOf.{AssignPatPropOf}
use Rattle.tree_nodes.specs.declared.patterns.AssignTargetOf.{AssignTargetOf}
use Rattle.tree_nodes.specs.declared.patterns.AssignTargetOf.TheVariants as AssignTarget

-- that something holds of a part, if it is there
abbrev pub fits_held : {A : Type 0} → (A → Type 0) → Option A → Type 0
fits_held P None = Unit {0}
fits_held P (Some x) = P x

abbrev pub fits_script : {T : Type 0} → (T → Placed) → ScriptOf T → Type 0
fits_script f s = All (λ x. holds_stmt (f x.part.value)) s.body.items

abbrev pub fits_spread_element : {T : Type 0} → (T → Placed) → SpreadElementOf T → Type 0
fits_spread_element f s = holds_expr (f s.expr.part.value)

abbrev pub fits_computed_prop_name : {T : Type 0} → (T → Placed) → ComputedPropNameOf T → Type 0
fits_computed_prop_name f s = holds_expr (f s.expr.part.value)

abbrev pub fits_prop_name : {T : Type 0} → (T → Placed) → PropNameOf T → Type 0
fits_prop_name f (PropName.Ident x) = Unit {0}
fits_prop_name f (PropName.Str x) = Unit {0}
fits_prop_name f (PropName.Num x) = Unit {0}
fits_prop_name f (PropName.BigInt x) = Unit {0}
fits_prop_name f (PropName.Computed x) = fits_computed_prop_name f x

abbrev pub fits_key_value_prop : {T : Type 0} → (T → Placed) → KeyValuePropOf T → Type 0
fits_key_value_prop f s = (fits_prop_name f s.key) × (holds_expr (f s.value.part.value))

abbrev pub fits_assign_prop : {T : Type 0} → (T → Placed) → AssignPropOf T → Type 0
fits_assign_prop f s = holds_expr (f s.value.part.value)

abbrev pub fits_block_stmt : {T : Type 0} → (T → Placed) → BlockStmtOf T → Type 0
fits_block_stmt f s = All (λ x. holds_stmt (f x.part.value)) s.stmts.items

abbrev pub fits_getter_prop : {T : Type 0} → (T → Placed) → GetterPropOf T → Type 0
fits_getter_prop f s = (fits_prop_name f s.key) × (fits_block_stmt f s.body)

abbrev pub fits_setter_prop : {T : Type 0} → (T → Placed) → SetterPropOf T → Type 0
fits_setter_prop f s = (fits_prop_name f s.key) × (holds_pat (f s.param.part.value)) × (fits_block_stmt f s.body)

abbrev pub fits_decorator : {T : Type 0} → (T → Placed) → DecoratorOf T → Type 0
fits_decorator f s = holds_expr (f s.expr.part.value)

abbrev pub fits_param : {T : Type 0} → (T → Placed) → ParamOf T → Type 0
fits_param f s = (All (λ x. fits_decorator f x) s.decorators.items) × (holds_pat (f s.pat.part.value))

abbrev pub fits_function : {T : Type 0} → (T → Placed) → FunctionOf T → Type 0
fits_function f s = (All (λ x. fits_param f x) s.params.items) × (All (λ x. fits_decorator f x) s.decorators.items) × (fits_block_stmt f s.body)

abbrev pub fits_method_prop : {T : Type 0} → (T → Placed) → MethodPropOf T → Type 0
fits_method_prop f s = (fits_prop_name f s.key) × (fits_function f s.function.value)

abbrev pub fits_prop : {T : Type 0} → (T → Placed) → PropOf T → Type 0
fits_prop f (Prop.Shorthand x) = Unit {0}
fits_prop f (Prop.KeyValue x) = fits_key_value_prop f x
fits_prop f (Prop.Assign x) = fits_assign_prop f x
fits_prop f (Prop.Getter x) = fits_getter_prop f x
fits_prop f (Prop.Setter x) = fits_setter_prop f x
fits_prop f (Prop.Method x) = fits_method_prop f x

abbrev pub fits_prop_or_spread : {T : Type 0} → (T → Placed) → PropOrSpreadOf T → Type 0
fits_prop_or_spread f (PropOrSpread.Spread x) = fits_spread_element f x
fits_prop_or_spread f (PropOrSpread.Prop x) = fits_prop f x.value

abbrev pub fits_object_lit : {T : Type 0} → (T → Placed) → ObjectLitOf T → Type 0
fits_object_lit f s = All (λ x. fits_prop_or_spread f x) s.props.items

abbrev pub fits_import_decl : {T : Type 0} → (T → Placed) → ImportDeclOf T → Type 0
fits_import_decl f s = fits_held (λ x. fits_object_lit f x.value) s.with_

abbrev pub fits_constructor : {T : Type 0} → (T → Placed) → ConstructorOf T → Type 0
fits_constructor f s = (fits_prop_name f s.key) × (All (λ x. fits_param f x) s.params.items) × (fits_block_stmt f s.body)

abbrev pub fits_class_method : {T : Type 0} → (T → Placed) → ClassMethodOf T → Type 0
fits_class_method f s = (fits_prop_name f s.key) × (fits_function f s.function.value)

abbrev pub fits_private_method : {T : Type 0} → (T → Placed) → PrivateMethodOf T → Type 0
fits_private_method f s = fits_function f s.function.value

abbrev pub fits_class_prop : {T : Type 0} → (T → Placed) → ClassPropOf T → Type 0
fits_class_prop f s = (fits_prop_name f s.key) × (fits_held (λ x. holds_expr (f x.part.value)) s.value) × (All (λ x. fits_decorator f x) s.decorators.items)

abbrev pub fits_private_prop : {T : Type 0} → (T → Placed) → PrivatePropOf T → Type 0
fits_private_prop f s = (fits_held (λ x. holds_expr (f x.part.value)) s.value) × (All (λ x. fits_decorator f x) s.decorators.items)

abbrev pub fits_static_block : {T : Type 0} → (T → Placed) → StaticBlockOf T → Type 0
fits_static_block f s = fits_block_stmt f s.body

abbrev pub fits_key : {T : Type 0} → (T → Placed) → KeyOf T → Type 0
fits_key f (Key.Private x) = Unit {0}
fits_key f (Key.Public x) = fits_prop_name f x

abbrev pub fits_auto_accessor : {T : Type 0} → (T → Placed) → AutoAccessorOf T → Type 0
fits_auto_accessor f s = (fits_key f s.key) × (fits_held (λ x. holds_expr (f x.part.value)) s.value) × (All (λ x. fits_decorator f x) s.decorators.items)

abbrev pub fits_class_member : {T : Type 0} → (T → Placed) → ClassMemberOf T → Type 0
fits_class_member f (ClassMember.Constructor x) = fits_constructor f x
fits_class_member f (ClassMember.Method x) = fits_class_method f x
fits_class_member f (ClassMember.PrivateMethod x) = fits_private_method f x
fits_class_member f (ClassMember.ClassProp x) = fits_class_prop f x
fits_class_member f (ClassMember.PrivateProp x) = fits_private_prop f x
fits_class_member f (ClassMember.StaticBlock x) = fits_static_block f x
fits_class_member f (ClassMember.AutoAccessor x) = fits_auto_accessor f x
fits_class_member f (ClassMember.Empty x) = Unit {0}

abbrev pub fits_class : {T : Type 0} → (T → Placed) → ClassOf T → Type 0
fits_class f s = (All (λ x. fits_decorator f x) s.decorators.items) × (All (λ x. fits_class_member f x) s.body.items) × (fits_held (λ x. holds_expr (f x.part.value)) s.super_class)

abbrev pub fits_class_decl : {T : Type 0} → (T → Placed) → ClassDeclOf T → Type 0
fits_class_decl f s = fits_class f s.class.value

abbrev pub fits_fn_decl : {T : Type 0} → (T → Placed) → FnDeclOf T → Type 0
fits_fn_decl f s = fits_function f s.function.value

abbrev pub fits_var_declarator : {T : Type 0} → (T → Placed) → VarDeclaratorOf T → Type 0
fits_var_declarator f s = (holds_pat (f s.name.part.value)) × (fits_held (λ x. holds_expr (f x.part.value)) s.init)

abbrev pub fits_var_decl : {T : Type 0} → (T → Placed) → VarDeclOf T → Type 0
fits_var_decl f s = All (λ x. fits_var_declarator f x) s.decls.items

abbrev pub fits_using_decl : {T : Type 0} → (T → Placed) → UsingDeclOf T → Type 0
fits_using_decl f s = All (λ x. fits_var_declarator f x) s.decls.items

abbrev pub fits_decl : {T : Type 0} → (T → Placed) → DeclOf T → Type 0
fits_decl f (Decl.Class x) = fits_class_decl f x
fits_decl f (Decl.Fn x) = fits_fn_decl f x
fits_decl f (Decl.Var x) = fits_var_decl f x
fits_decl f (Decl.Using x) = fits_using_decl f x

abbrev pub fits_export_decl : {T : Type 0} → (T → Placed) → ExportDeclOf T → Type 0
fits_export_decl f s = fits_decl f s.decl

abbrev pub fits_named_export : {T : Type 0} → (T → Placed) → NamedExportOf T → Type 0
fits_named_export f s = fits_held (λ x. fits_object_lit f x.value) s.with_

abbrev pub fits_class_expr : {T : Type 0} → (T → Placed) → ClassExprOf T → Type 0
fits_class_expr f s = fits_class f s.class.value

abbrev pub fits_fn_expr : {T : Type 0} → (T → Placed) → FnExprOf T → Type 0
fits_fn_expr f s = fits_function f s.function.value

abbrev pub fits_default_decl : {T : Type 0} → (T → Placed) → DefaultDeclOf T → Type 0
fits_default_decl f (DefaultDecl.Class x) = fits_class_expr f x
fits_default_decl f (DefaultDecl.Fn x) = fits_fn_expr f x

abbrev pub fits_export_default_decl : {T : Type 0} → (T → Placed) → ExportDefaultDeclOf T → Type 0
fits_export_default_decl f s = fits_default_decl f s.decl

abbrev pub fits_export_default_expr : {T : Type 0} → (T → Placed) → ExportDefaultExprOf T → Type 0
fits_export_default_expr f s = holds_expr (f s.expr.part.value)

abbrev pub fits_export_all : {T : Type 0} → (T → Placed) → ExportAllOf T → Type 0
fits_export_all f s = fits_held (λ x. fits_object_lit f x.value) s.with_

abbrev pub fits_module_decl : {T : Type 0} → (T → Placed) → ModuleDeclOf T → Type 0
fits_module_decl f (ModuleDecl.Import x) = fits_import_decl f x
fits_module_decl f (ModuleDecl.ExportDecl x) = fits_export_decl f x
fits_module_decl f (ModuleDecl.ExportNamed x) = fits_named_export f x
fits_module_decl f (ModuleDecl.ExportDefaultDecl x) = fits_export_default_decl f x
fits_module_decl f (ModuleDecl.ExportDefaultExpr x) = fits_export_default_expr f x
fits_module_decl f (ModuleDecl.ExportAll x) = fits_export_all f x

abbrev pub fits_module_item : {T : Type 0} → (T → Placed) → ModuleItemOf T → Type 0
fits_module_item f (ModuleItem.ModuleDecl x) = fits_module_decl f x
fits_module_item f (ModuleItem.Stmt x) = holds_stmt (f x.part.value)

abbrev pub fits_module : {T : Type 0} → (T → Placed) → ModuleOf T → Type 0
fits_module f s = All (λ x. fits_module_item f x) s.body.items

abbrev pub fits_program_kind : {T : Type 0} → (T → Placed) → ProgramKindOf T → Type 0
fits_program_kind f (ProgramKind.Script x) = fits_script f x
fits_program_kind f (ProgramKind.Module x) = fits_module f x

abbrev pub fits_with_stmt : {T : Type 0} → (T → Placed) → WithStmtOf T → Type 0
fits_with_stmt f s = (holds_expr (f s.obj.part.value)) × (holds_stmt (f s.body.part.value))

abbrev pub fits_return_stmt : {T : Type 0} → (T → Placed) → ReturnStmtOf T → Type 0
fits_return_stmt f s = fits_held (λ x. holds_expr (f x.part.value)) s.arg

abbrev pub fits_labeled_stmt : {T : Type 0} → (T → Placed) → LabeledStmtOf T → Type 0
fits_labeled_stmt f s = holds_stmt (f s.body.part.value)

abbrev pub fits_if_stmt : {T : Type 0} → (T → Placed) → IfStmtOf T → Type 0
fits_if_stmt f s = (holds_expr (f s.test.part.value)) × (holds_stmt (f s.cons.part.value)) × (fits_held (λ x. holds_stmt (f x.part.value)) s.alt)

abbrev pub fits_switch_case : {T : Type 0} → (T → Placed) → SwitchCaseOf T → Type 0
fits_switch_case f s = (fits_held (λ x. holds_expr (f x.part.value)) s.test) × (All (λ x. holds_stmt (f x.part.value)) s.cons.items)

abbrev pub fits_switch_stmt : {T : Type 0} → (T → Placed) → SwitchStmtOf T → Type 0
fits_switch_stmt f s = (holds_expr (f s.discriminant.part.value)) × (All (λ x. fits_switch_case f x) s.cases.items)

abbrev pub fits_throw_stmt : {T : Type 0} → (T → Placed) → ThrowStmtOf T → Type 0
fits_throw_stmt f s = holds_expr (f s.arg.part.value)

abbrev pub fits_catch_clause : {T : Type 0} → (T → Placed) → CatchClauseOf T → Type 0
fits_catch_clause f s = (fits_held (λ x. holds_pat (f x.part.value)) s.param) × (fits_block_stmt f s.body)

abbrev pub fits_try_stmt : {T : Type 0} → (T → Placed) → TryStmtOf T → Type 0
fits_try_stmt f s = (fits_block_stmt f s.block) × (fits_held (λ x. fits_catch_clause f x) s.handler) × (fits_held (λ x. fits_block_stmt f x) s.finalizer)

abbrev pub fits_while_stmt : {T : Type 0} → (T → Placed) → WhileStmtOf T → Type 0
fits_while_stmt f s = (holds_expr (f s.test.part.value)) × (holds_stmt (f s.body.part.value))

abbrev pub fits_do_while_stmt : {T : Type 0} → (T → Placed) → DoWhileStmtOf T → Type 0
fits_do_while_stmt f s = (holds_expr (f s.test.part.value)) × (holds_stmt (f s.body.part.value))

abbrev pub fits_var_decl_or_expr : {T : Type 0} → (T → Placed) → VarDeclOrExprOf T → Type 0
fits_var_decl_or_expr f (VarDeclOrExpr.VarDecl x) = fits_var_decl f x.value
fits_var_decl_or_expr f (VarDeclOrExpr.UsingDecl x) = fits_using_decl f x.value
fits_var_decl_or_expr f (VarDeclOrExpr.Expr x) = holds_expr (f x.part.value)

abbrev pub fits_for_stmt : {T : Type 0} → (T → Placed) → ForStmtOf T → Type 0
fits_for_stmt f s = (fits_held (λ x. fits_var_decl_or_expr f x) s.init) × (fits_held (λ x. holds_expr (f x.part.value)) s.test) × (fits_held (λ x. holds_expr (f x.part.value)) s.update) × (holds_stmt (f s.body.part.value))

abbrev pub fits_for_head : {T : Type 0} → (T → Placed) → ForHeadOf T → Type 0
fits_for_head f (ForHead.VarDecl x) = fits_var_decl f x.value
fits_for_head f (ForHead.UsingDecl x) = fits_using_decl f x.value
fits_for_head f (ForHead.Pat x) = holds_pat (f x.part.value)

abbrev pub fits_for_in_stmt : {T : Type 0} → (T → Placed) → ForInStmtOf T → Type 0
fits_for_in_stmt f s = (fits_for_head f s.left) × (holds_expr (f s.right.part.value)) × (holds_stmt (f s.body.part.value))

abbrev pub fits_for_of_stmt : {T : Type 0} → (T → Placed) → ForOfStmtOf T → Type 0
fits_for_of_stmt f s = (fits_for_head f s.left) × (holds_expr (f s.right.part.value)) × (holds_stmt (f s.body.part.value))

abbrev pub fits_expr_stmt : {T : Type 0} → (T → Placed) → ExprStmtOf T → Type 0
fits_expr_stmt f s = holds_expr (f s.expr.part.value)

abbrev pub fits_stmt_kind : {T : Type 0} → (T → Placed) → StmtKindOf T → Type 0
fits_stmt_kind f (StmtKind.Block x) = fits_block_stmt f x
fits_stmt_kind f (StmtKind.Empty x) = Unit {0}
fits_stmt_kind f (StmtKind.Debugger x) = Unit {0}
fits_stmt_kind f (StmtKind.With x) = fits_with_stmt f x
fits_stmt_kind f (StmtKind.Return x) = fits_return_stmt f x
fits_stmt_kind f (StmtKind.Labeled x) = fits_labeled_stmt f x
fits_stmt_kind f (StmtKind.Break x) = Unit {0}
fits_stmt_kind f (StmtKind.Continue x) = Unit {0}
fits_stmt_kind f (StmtKind.If x) = fits_if_stmt f x
fits_stmt_kind f (StmtKind.Switch x) = fits_switch_stmt f x
fits_stmt_kind f (StmtKind.Throw x) = fits_throw_stmt f x
fits_stmt_kind f (StmtKind.Try x) = fits_try_stmt f x.value
fits_stmt_kind f (StmtKind.While x) = fits_while_stmt f x
fits_stmt_kind f (StmtKind.DoWhile x) = fits_do_while_stmt f x
fits_stmt_kind f (StmtKind.For x) = fits_for_stmt f x
fits_stmt_kind f (StmtKind.ForIn x) = fits_for_in_stmt f x
fits_stmt_kind f (StmtKind.ForOf x) = fits_for_of_stmt f x
fits_stmt_kind f (StmtKind.Decl x) = fits_decl f x
fits_stmt_kind f (StmtKind.Expr x) = fits_expr_stmt f x

abbrev pub fits_expr_or_spread : {T : Type 0} → (T → Placed) → ExprOrSpreadOf T → Type 0
fits_expr_or_spread f s = holds_expr (f s.expr.part.value)

abbrev pub fits_array_lit : {T : Type 0} → (T → Placed) → ArrayLitOf T → Type 0
fits_array_lit f s = All (λ x. fits_held (λ x. fits_expr_or_spread f x) x) s.elems.items

abbrev pub fits_unary_expr : {T : Type 0} → (T → Placed) → UnaryExprOf T → Type 0
fits_unary_expr f s = holds_expr (f s.arg.part.value)

abbrev pub fits_update_expr : {T : Type 0} → (T → Placed) → UpdateExprOf T → Type 0
fits_update_expr f s = holds_expr (f s.arg.part.value)

abbrev pub fits_bin_expr : {T : Type 0} → (T → Placed) → BinExprOf T → Type 0
fits_bin_expr f s = (holds_expr (f s.left.part.value)) × (holds_expr (f s.right.part.value))

abbrev pub fits_member_prop : {T : Type 0} → (T → Placed) → MemberPropOf T → Type 0
fits_member_prop f (MemberProp.Ident x) = Unit {0}
fits_member_prop f (MemberProp.PrivateName x) = Unit {0}
fits_member_prop f (MemberProp.Computed x) = fits_computed_prop_name f x

abbrev pub fits_member_expr : {T : Type 0} → (T → Placed) → MemberExprOf T → Type 0
fits_member_expr f s = (holds_expr (f s.obj.part.value)) × (fits_member_prop f s.prop)

abbrev pub fits_super_prop : {T : Type 0} → (T → Placed) → SuperPropOf T → Type 0
fits_super_prop f (SuperProp.Ident x) = Unit {0}
fits_super_prop f (SuperProp.Computed x) = fits_computed_prop_name f x

abbrev pub fits_super_prop_expr : {T : Type 0} → (T → Placed) → SuperPropExprOf T → Type 0
fits_super_prop_expr f s = fits_super_prop f s.prop

abbrev pub fits_paren_expr : {T : Type 0} → (T → Placed) → ParenExprOf T → Type 0
fits_paren_expr f s = holds_expr (f s.expr.part.value)

abbrev pub fits_opt_call : {T : Type 0} → (T → Placed) → OptCallOf T → Type 0
fits_opt_call f s = (holds_expr (f s.callee.part.value)) × (All (λ x. fits_expr_or_spread f x) s.args.items)

abbrev pub fits_opt_chain_base : {T : Type 0} → (T → Placed) → OptChainBaseOf T → Type 0
fits_opt_chain_base f (OptChainBase.Member x) = fits_member_expr f x
fits_opt_chain_base f (OptChainBase.Call x) = fits_opt_call f x

abbrev pub fits_opt_chain_expr : {T : Type 0} → (T → Placed) → OptChainExprOf T → Type 0
fits_opt_chain_expr f s = fits_opt_chain_base f s.base

abbrev pub fits_array_pat : {T : Type 0} → (T → Placed) → ArrayPatOf T → Type 0
fits_array_pat f s = All (λ x. fits_held (λ x. holds_pat (f x.part.value)) x) s.elems.items

abbrev pub fits_key_value_pat_prop : {T : Type 0} → (T → Placed) → KeyValuePatPropOf T → Type 0
fits_key_value_pat_prop f s = (fits_prop_name f s.key) × (holds_pat (f s.value.part.value))

abbrev pub fits_assign_pat_prop : {T : Type 0} → (T → Placed) → AssignPatPropOf T → Type 0
fits_assign_pat_prop f s = fits_held (λ x. holds_expr (f x.part.value)) s.value

abbrev pub fits_rest_pat : {T : Type 0} → (T → Placed) → RestPatOf T → Type 0
fits_rest_pat f s = holds_pat (f s.arg.part.value)

abbrev pub fits_object_pat_prop : {T : Type 0} → (T → Placed) → ObjectPatPropOf T → Type 0
fits_object_pat_prop f (ObjectPatProp.KeyValue x) = fits_key_value_pat_prop f x
fits_object_pat_prop f (ObjectPatProp.Assign x) = fits_assign_pat_prop f x
fits_object_pat_prop f (ObjectPatProp.Rest x) = fits_rest_pat f x

abbrev pub fits_object_pat : {T : Type 0} → (T → Placed) → ObjectPatOf T → Type 0
fits_object_pat f s = All (λ x. fits_object_pat_prop f x) s.props.items

abbrev pub fits_assign_target : {T : Type 0} → (T → Placed) → AssignTargetOf T → Type 0
fits_assign_target f (AssignTarget.Ident x) = Unit {0}
fits_assign_target f (AssignTarget.Member x) = fits_member_expr f x.value
fits_assign_target f (AssignTarget.SuperProp x) = fits_super_prop_expr f x.value
fits_assign_target f (AssignTarget.Paren x) = fits_paren_expr f x
fits_assign_target f (AssignTarget.OptChain x) = fits_opt_chain_expr f x.value
fits_assign_target f (AssignTarget.Array x) = fits_array_pat f x
fits_assign_target f (AssignTarget.Object x) = fits_object_pat f x
fits_assign_target f (AssignTarget.Invalid x) = Unit {0}

abbrev pub fits_assign_expr : {T : Type 0} → (T → Placed) → AssignExprOf T → Type 0
fits_assign_expr f s = (fits_assign_target f s.left) × (holds_expr (f s.right.part.value))

abbrev pub fits_cond_expr : {T : Type 0} → (T → Placed) → CondExprOf T → Type 0
fits_cond_expr f s = (holds_expr (f s.test.part.value)) × (holds_expr (f s.cons.part.value)) × (holds_expr (f s.alt.part.value))

abbrev pub fits_callee : {T : Type 0} → (T → Placed) → CalleeOf T → Type 0
fits_callee f (Callee.Super x) = Unit {0}
fits_callee f (Callee.Import x) = Unit {0}
fits_callee f (Callee.Expr x) = holds_expr (f x.part.value)

abbrev pub fits_call_expr : {T : Type 0} → (T → Placed) → CallExprOf T → Type 0
fits_call_expr f s = (fits_callee f s.callee) × (All (λ x. fits_expr_or_spread f x) s.args.items)

abbrev pub fits_new_expr : {T : Type 0} → (T → Placed) → NewExprOf T → Type 0
fits_new_expr f s = (holds_expr (f s.callee.part.value)) × (fits_held (λ x. All (λ x. fits_expr_or_spread f x) x.items) s.args)

abbrev pub fits_seq_expr : {T : Type 0} → (T → Placed) → SeqExprOf T → Type 0
fits_seq_expr f s = All (λ x. holds_expr (f x.part.value)) s.exprs.items

abbrev pub fits_tpl : {T : Type 0} → (T → Placed) → TplOf T → Type 0
fits_tpl f s = All (λ x. holds_expr (f x.part.value)) s.exprs.items

abbrev pub fits_tagged_tpl : {T : Type 0} → (T → Placed) → TaggedTplOf T → Type 0
fits_tagged_tpl f s = (holds_expr (f s.tag.part.value)) × (fits_tpl f s.tpl.value)

abbrev pub fits_block_stmt_or_expr : {T : Type 0} → (T → Placed) → BlockStmtOrExprOf T → Type 0
fits_block_stmt_or_expr f (BlockStmtOrExpr.BlockStmt x) = fits_block_stmt f x
fits_block_stmt_or_expr f (BlockStmtOrExpr.Expr x) = holds_expr (f x.part.value)

abbrev pub fits_arrow_expr : {T : Type 0} → (T → Placed) → ArrowExprOf T → Type 0
fits_arrow_expr f s = (All (λ x. holds_pat (f x.part.value)) s.params.items) × (fits_block_stmt_or_expr f s.body)

abbrev pub fits_yield_expr : {T : Type 0} → (T → Placed) → YieldExprOf T → Type 0
fits_yield_expr f s = fits_held (λ x. holds_expr (f x.part.value)) s.arg

abbrev pub fits_await_expr : {T : Type 0} → (T → Placed) → AwaitExprOf T → Type 0
fits_await_expr f s = holds_expr (f s.arg.part.value)

abbrev pub fits_expr_kind : {T : Type 0} → (T → Placed) → ExprKindOf T → Type 0
fits_expr_kind f (ExprKind.This x) = Unit {0}
fits_expr_kind f (ExprKind.Array x) = fits_array_lit f x
fits_expr_kind f (ExprKind.Object x) = fits_object_lit f x
fits_expr_kind f (ExprKind.Fn x) = fits_fn_expr f x
fits_expr_kind f (ExprKind.Unary x) = fits_unary_expr f x
fits_expr_kind f (ExprKind.Update x) = fits_update_expr f x
fits_expr_kind f (ExprKind.Bin x) = fits_bin_expr f x
fits_expr_kind f (ExprKind.Assign x) = fits_assign_expr f x
fits_expr_kind f (ExprKind.Member x) = fits_member_expr f x
fits_expr_kind f (ExprKind.SuperProp x) = fits_super_prop_expr f x
fits_expr_kind f (ExprKind.Cond x) = fits_cond_expr f x
fits_expr_kind f (ExprKind.Call x) = fits_call_expr f x
fits_expr_kind f (ExprKind.New x) = fits_new_expr f x
fits_expr_kind f (ExprKind.Seq x) = fits_seq_expr f x
fits_expr_kind f (ExprKind.Ident x) = Unit {0}
fits_expr_kind f (ExprKind.Lit x) = Unit {0}
fits_expr_kind f (ExprKind.Tpl x) = fits_tpl f x
fits_expr_kind f (ExprKind.TaggedTpl x) = fits_tagged_tpl f x
fits_expr_kind f (ExprKind.Arrow x) = fits_arrow_expr f x
fits_expr_kind f (ExprKind.Class x) = fits_class_expr f x
fits_expr_kind f (ExprKind.Yield x) = fits_yield_expr f x
fits_expr_kind f (ExprKind.MetaProp x) = Unit {0}
fits_expr_kind f (ExprKind.Await x) = fits_await_expr f x
fits_expr_kind f (ExprKind.Paren x) = fits_paren_expr f x
fits_expr_kind f (ExprKind.PrivateName x) = Unit {0}
fits_expr_kind f (ExprKind.OptChain x) = fits_opt_chain_expr f x
fits_expr_kind f (ExprKind.Invalid x) = Unit {0}

abbrev pub fits_assign_pat : {T : Type 0} → (T → Placed) → AssignPatOf T → Type 0
fits_assign_pat f s = (holds_pat (f s.left.part.value)) × (holds_expr (f s.right.part.value))

abbrev pub fits_pat_kind : {T : Type 0} → (T → Placed) → PatKindOf T → Type 0
fits_pat_kind f (PatKind.Ident x) = Unit {0}
fits_pat_kind f (PatKind.Array x) = fits_array_pat f x
fits_pat_kind f (PatKind.Rest x) = fits_rest_pat f x
fits_pat_kind f (PatKind.Object x) = fits_object_pat f x
fits_pat_kind f (PatKind.Assign x) = fits_assign_pat f x
fits_pat_kind f (PatKind.Expr x) = holds_expr (f x.part.value)
fits_pat_kind f (PatKind.Invalid x) = Unit {0}
