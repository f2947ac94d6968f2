-- Written by tools/tree/node_types.py from tools/tree/tree.table. Don't edit this file.
-- That each part of a tree is smaller than the tree, for recursion over the code's tree. The names of
-- weights count the types below `kind`.
use Rattle.std.specs.Prelude.{ℕ, ◌+◌, ◌≤◌, List, [], ◌∷◌, Option, Some, None}
use Rattle.std.proofs.Common.{arith}
use Rattle.tree_spec.specs.Tree.{Tree, list, trees_by, part_by, element_by}
use Rattle.tree_spec.specs.Codes.{tree_size, trees_size}
use Rattle.tree_nodes.specs.Placed.{inner, placed_size, part_tree}
use Rattle.tree_nodes.specs.View.{view_spread_element, view_computed_prop_name, view_prop_name, view_key_value_prop, view_assign_prop, view_block_stmt, view_getter_prop, view_setter_prop, view_decorator, view_param, view_function, view_method_prop, view_prop, view_prop_or_spread, view_object_lit, view_constructor, view_class_method, view_private_method, view_class_prop, view_private_prop, view_static_block, view_key, view_auto_accessor, view_class_member, view_class, view_class_decl, view_fn_decl, view_var_declarator, view_var_decl, view_using_decl, view_decl, view_class_expr, view_fn_expr, view_with_stmt, view_return_stmt, view_labeled_stmt, view_if_stmt, view_switch_case, view_switch_stmt, view_throw_stmt, view_catch_clause, view_try_stmt, view_while_stmt, view_do_while_stmt, view_var_decl_or_expr, view_for_stmt, view_for_head, view_for_in_stmt, view_for_of_stmt, view_expr_stmt, view_stmt_kind, view_expr_or_spread, view_array_lit, view_unary_expr, view_update_expr, view_bin_expr, view_member_prop, view_member_expr, view_super_prop, view_super_prop_expr, view_paren_expr, view_opt_call, view_opt_chain_base, view_opt_chain_expr, view_array_pat, view_key_value_pat_prop, view_assign_pat_prop, view_rest_pat, view_object_pat_prop, view_object_pat, view_assign_target, view_assign_expr, view_cond_expr, view_callee, view_call_expr, view_new_expr, view_seq_expr, view_tpl, view_tagged_tpl, view_block_stmt_or_expr, view_arrow_expr, view_yield_expr, view_await_expr, view_expr_kind, view_assign_pat, view_pat_kind}
use Rattle.tree_nodes.specs.declared.knot.Part.{Part}
use Rattle.tree_nodes.specs.declared.knot.PartKind.{PartKind}
use Rattle.tree_nodes.specs.declared.knot.PartKind.TheVariants as PartKind
use Rattle.tree_nodes.specs.declared.knot.Expr.TheDeep.{deep-Part, deep-Expr, deep-Stmt, deep-Pat}
use Rattle.tree_nodes.specs.declared.knot.Expr.TheShapes.{weighed-Expr-kind-at-8, weighed-Expr-kind-at-9, weighed-Expr-kind-at-11, weighed-Expr-kind-at-18, weighed-Expr-kind-at-30, weighed-Expr-kind-at-31, weighed-Expr-kind-at-36, weighed-Expr-kind-at-43, weighed-Expr-kind-at-54, weighed-Expr-kind-at-55, weighed-Expr-kind-at-60, weighed-Expr-kind-at-62, weighed-Expr-kind-at-63, weighed-Expr-kind-at-74, weighed-Expr-kind-at-75, weighed-Expr-kind-at-84, weighed-Expr-kind-at-86, weighed-Expr-kind-at-87, weighed-Expr-kind-at-98, weighed-Expr-kind-at-99, weighed-Expr-kind-at-107, weighed-Expr-kind-at-113, weighed-Expr-kind-at-120, weighed-Expr-kind-at-126, weighed-Expr-kind-at-128, weighed-Expr-kind-at-131, weighed-Expr-kind-at-133, weighed-Expr-kind-at-134, weighed-Expr-kind-at-136, weighed-Expr-kind-at-138, weighed-Expr-kind-at-148, weighed-Expr-kind-at-154, weighed-Expr-kind-at-161, weighed-Expr-kind-at-167, weighed-Expr-kind-at-169, weighed-Expr-kind-at-172, weighed-Expr-kind-at-174, weighed-Expr-kind-at-181, weighed-Expr-kind-at-189, weighed-Expr-kind-at-200, weighed-Expr-kind-at-216, weighed-Expr-kind-at-217, weighed-Expr-kind-at-218, weighed-Expr-kind-at-228, weighed-Expr-kind-at-229, weighed-Expr-kind-at-230, weighed-Expr-kind-at-237, weighed-Expr-kind-at-252, weighed-Expr-kind-at-253, weighed-Expr-kind-at-254, weighed-Expr-kind-at-266, weighed-Expr-kind-at-268, weighed-Expr-kind-at-269, weighed-Expr-kind-at-270, weighed-Expr-kind-at-277, weighed-Expr-kind-at-279, weighed-Expr-kind-at-291, weighed-Expr-kind-at-292, weighed-Expr-kind-at-297, weighed-Expr-kind-at-304, weighed-Expr-kind-at-305, weighed-Expr-kind-at-312, weighed-Expr-kind-at-313, weighed-Expr-kind-at-315, weighed-Expr-kind-at-317, weighed-Expr-kind-at-322, weighed-Expr-kind-at-335, weighed-Expr-kind-at-336, weighed-Expr-kind-at-337, weighed-Expr-kind-at-346, weighed-Expr-kind-at-347, weighed-Expr-kind-at-348, weighed-Expr-kind-at-362, weighed-Expr-kind-at-370, weighed-Expr-kind-at-377, weighed-Expr-kind-at-379, weighed-Expr-kind-at-391, weighed-Expr-kind-at-393, weighed-Expr-kind-at-394, weighed-Expr-kind-at-399, weighed-Expr-kind-at-401, weighed-Expr-kind-at-408, weighed-Expr-kind-at-411, weighed-Expr-kind-at-421, weighed-Expr-kind-at-424, weighed-Expr-kind-at-426, weighed-Expr-kind-at-431, weighed-Expr-kind-at-437, weighed-Expr-kind-at-439, weighed-Expr-kind-at-444, weighed-Expr-kind-at-446, weighed-Expr-kind-at-455, weighed-Expr-kind-at-467, weighed-Expr-kind-at-468, weighed-Expr-kind-at-475, weighed-Expr-kind-at-481, weighed-Expr-kind-at-487, weighed-Expr-kind-at-489, weighed-Expr-kind-at-490, weighed-Expr-kind-at-501, weighed-Expr-kind-at-502, weighed-Expr-kind-at-510, weighed-Expr-kind-at-516, weighed-Expr-kind-at-523, weighed-Expr-kind-at-529, weighed-Expr-kind-at-531, weighed-Expr-kind-at-534, weighed-Expr-kind-at-538, weighed-Expr-kind-at-548, weighed-Expr-kind-at-554, weighed-Expr-kind-at-561, weighed-Expr-kind-at-567, weighed-Expr-kind-at-569, weighed-Expr-kind-at-572, weighed-Expr-kind-at-576, weighed-Expr-kind-at-587, weighed-Expr-kind-at-588, weighed-Expr-kind-at-593, weighed-Expr-kind-at-600, weighed-Expr-kind-at-602, weighed-Expr-kind-at-609, weighed-Expr-kind-at-616, weighed-Expr-kind-at-618, weighed-Expr-kind-at-624, weighed-Expr-kind-at-626, weighed-Expr-kind-at-627, weighed-Expr-kind-at-639, weighed-Expr-kind-at-640, weighed-Expr-kind-at-641, weighed-Expr-kind-at-646, weighed-Expr-kind-at-653, weighed-Expr-kind-at-655, weighed-Expr-kind-at-657, weighed-Expr-kind-at-663, weighed-Expr-kind-at-664, weighed-Expr-kind-at-666, weighed-Expr-kind-at-672, weighed-Expr-kind-at-674, weighed-Expr-kind-at-681, weighed-Expr-kind-at-687, weighed-Expr-kind-at-703, weighed-Expr-kind-at-704, weighed-Expr-kind-at-705, weighed-Expr-kind-at-717, weighed-Expr-kind-at-719, weighed-Expr-kind-at-720, weighed-Expr-kind-at-721, weighed-Expr-kind-at-723, weighed-Pat-kind-at-6, weighed-Pat-kind-at-8, weighed-Pat-kind-at-15, weighed-Pat-kind-at-27, weighed-Pat-kind-at-28, weighed-Pat-kind-at-33, weighed-Pat-kind-at-40, weighed-Pat-kind-at-41, weighed-Pat-kind-at-48, weighed-Pat-kind-at-49, weighed-Pat-kind-at-51, weighed-Pat-kind-at-61, weighed-Pat-kind-at-67, weighed-Stmt-kind-at-4, weighed-Stmt-kind-at-6, weighed-Stmt-kind-at-18, weighed-Stmt-kind-at-24, weighed-Stmt-kind-at-25, weighed-Stmt-kind-at-32, weighed-Stmt-kind-at-48, weighed-Stmt-kind-at-49, weighed-Stmt-kind-at-60, weighed-Stmt-kind-at-64, weighed-Stmt-kind-at-66, weighed-Stmt-kind-at-68, weighed-Stmt-kind-at-74, weighed-Stmt-kind-at-80, weighed-Stmt-kind-at-82, weighed-Stmt-kind-at-88, weighed-Stmt-kind-at-93, weighed-Stmt-kind-at-95, weighed-Stmt-kind-at-96, weighed-Stmt-kind-at-97, weighed-Stmt-kind-at-102, weighed-Stmt-kind-at-104, weighed-Stmt-kind-at-105, weighed-Stmt-kind-at-106, weighed-Stmt-kind-at-117, weighed-Stmt-kind-at-127, weighed-Stmt-kind-at-140, weighed-Stmt-kind-at-141, weighed-Stmt-kind-at-143, weighed-Stmt-kind-at-156, weighed-Stmt-kind-at-157, weighed-Stmt-kind-at-159, weighed-Stmt-kind-at-165, weighed-Stmt-kind-at-166, weighed-Stmt-kind-at-171, weighed-Stmt-kind-at-176, weighed-Stmt-kind-at-181, weighed-Stmt-kind-at-194, weighed-Stmt-kind-at-195, weighed-Stmt-kind-at-197, weighed-Stmt-kind-at-210, weighed-Stmt-kind-at-211, weighed-Stmt-kind-at-213, weighed-Stmt-kind-at-219, weighed-Stmt-kind-at-228, weighed-Stmt-kind-at-242, weighed-Stmt-kind-at-243, weighed-Stmt-kind-at-245, weighed-Stmt-kind-at-258, weighed-Stmt-kind-at-259, weighed-Stmt-kind-at-261, weighed-Stmt-kind-at-267, weighed-Stmt-kind-at-276, weighed-Stmt-kind-at-285, weighed-Stmt-kind-at-297, weighed-Stmt-kind-at-298, weighed-Stmt-kind-at-305, weighed-Stmt-kind-at-311, weighed-Stmt-kind-at-317, weighed-Stmt-kind-at-319, weighed-Stmt-kind-at-320, weighed-Stmt-kind-at-331, weighed-Stmt-kind-at-332, weighed-Stmt-kind-at-340, weighed-Stmt-kind-at-346, weighed-Stmt-kind-at-353, weighed-Stmt-kind-at-359, weighed-Stmt-kind-at-361, weighed-Stmt-kind-at-364, weighed-Stmt-kind-at-368, weighed-Stmt-kind-at-378, weighed-Stmt-kind-at-384, weighed-Stmt-kind-at-391, weighed-Stmt-kind-at-397, weighed-Stmt-kind-at-399, weighed-Stmt-kind-at-402, weighed-Stmt-kind-at-406, weighed-Stmt-kind-at-417, weighed-Stmt-kind-at-418, weighed-Stmt-kind-at-423, weighed-Stmt-kind-at-430, weighed-Stmt-kind-at-432, weighed-Stmt-kind-at-439, weighed-Stmt-kind-at-446, weighed-Stmt-kind-at-448, weighed-Stmt-kind-at-454, weighed-Stmt-kind-at-456, weighed-Stmt-kind-at-457, weighed-Stmt-kind-at-469, weighed-Stmt-kind-at-470, weighed-Stmt-kind-at-471, weighed-Stmt-kind-at-476, weighed-Stmt-kind-at-483, weighed-Stmt-kind-at-485, weighed-Stmt-kind-at-487, weighed-Stmt-kind-at-493, weighed-Stmt-kind-at-494, weighed-Stmt-kind-at-496, weighed-Stmt-kind-at-506, weighed-Stmt-kind-at-512, weighed-Stmt-kind-at-519, weighed-Stmt-kind-at-525, weighed-Stmt-kind-at-527, weighed-Stmt-kind-at-530, weighed-Stmt-kind-at-532, weighed-Stmt-kind-at-544, weighed-Stmt-kind-at-545, weighed-Stmt-kind-at-547, weighed-Stmt-kind-at-559, weighed-Stmt-kind-at-560, weighed-Stmt-kind-at-562, weighed-Stmt-kind-at-563, weighed-Stmt-kind-at-569, weighed-Stmt-kind-at-570}
use Rattle.std.specs.declared.vec.Vec.{Vec}
use Rattle.std.specs.declared.alloc.Global.{Global}
use Rattle.tree_nodes.specs.declared.knot.Child.{Child}
use Rattle.tree_nodes.specs.declared.knot.ExprTag.{ExprTag}
use Rattle.tree_nodes.specs.declared.knot.StmtTag.{StmtTag}
use Rattle.tree_nodes.specs.declared.knot.PatTag.{PatTag}
use denote.Param.Weighed.{most}
use Rattle.tree_nodes.specs.declared.programs.ProgramKindOf.TheVariants as ProgramKind
use Rattle.tree_nodes.specs.declared.programs.ModuleItemOf.TheVariants as ModuleItem
use Rattle.tree_nodes.specs.declared.programs.ModuleDeclOf.TheVariants as ModuleDecl
use Rattle.tree_nodes.specs.declared.programs.DefaultDeclOf.TheVariants as DefaultDecl
use Rattle.tree_nodes.specs.declared.programs.ImportSpecifier.TheVariants as ImportSpecifier
use Rattle.tree_nodes.specs.declared.programs.ExportSpecifier.TheVariants as ExportSpecifier
use Rattle.tree_nodes.specs.declared.programs.ModuleExportName.TheVariants as ModuleExportName
use Rattle.tree_nodes.specs.declared.statements.StmtKindOf.{StmtKindOf}
use Rattle.tree_nodes.specs.declared.statements.StmtKindOf.TheVariants as StmtKind
use Rattle.tree_nodes.specs.declared.statements.BlockStmtOf.{BlockStmtOf}
use Rattle.tree_nodes.specs.declared.statements.WithStmtOf.{WithStmtOf}
use Rattle.tree_nodes.specs.declared.statements.ReturnStmtOf.{ReturnStmtOf}
use Rattle.tree_nodes.specs.declared.statements.LabeledStmtOf.{LabeledStmtOf}
use Rattle.tree_nodes.specs.declared.statements.IfStmtOf.{IfStmtOf}
use Rattle.tree_nodes.specs.declared.statements.SwitchStmtOf.{SwitchStmtOf}
use Rattle.tree_nodes.specs.declared.statements.SwitchCaseOf.{SwitchCaseOf}
use Rattle.tree_nodes.specs.declared.statements.ThrowStmtOf.{ThrowStmtOf}
use Rattle.tree_nodes.specs.declared.statements.TryStmtOf.{TryStmtOf}
use Rattle.tree_nodes.specs.declared.statements.CatchClauseOf.{CatchClauseOf}
use Rattle.tree_nodes.specs.declared.statements.WhileStmtOf.{WhileStmtOf}
use Rattle.tree_nodes.specs.declared.statements.DoWhileStmtOf.{DoWhileStmtOf}
use Rattle.tree_nodes.specs.declared.statements.ForStmtOf.{ForStmtOf}
use Rattle.tree_nodes.specs.declared.statements.ForInStmtOf.{ForInStmtOf}
use Rattle.tree_nodes.specs.declared.statements.ForOfStmtOf.{ForOfStmtOf}
use Rattle.tree_nodes.specs.declared.statements.ExprStmtOf.{ExprStmtOf}
use Rattle.tree_nodes.specs.declared.statements.VarDeclOrExprOf.{VarDeclOrExprOf}
use Rattle.tree_nodes.specs.declared.statements.VarDeclOrExprOf.TheVariants as VarDeclOrExpr
use Rattle.tree_nodes.specs.declared.statements.ForHeadOf.{ForHeadOf}
use Rattle.tree_nodes.specs.declared.statements.ForHeadOf.TheVariants as ForHead
use Rattle.tree_nodes.specs.declared.declarations.DeclOf.{DeclOf}
use Rattle.tree_nodes.specs.declared.declarations.DeclOf.TheVariants as Decl
use Rattle.tree_nodes.specs.declared.declarations.ClassDeclOf.{ClassDeclOf}
use Rattle.tree_nodes.specs.declared.declarations.FnDeclOf.{FnDeclOf}
use Rattle.tree_nodes.specs.declared.declarations.VarDeclOf.{VarDeclOf}
use Rattle.tree_nodes.specs.declared.declarations.UsingDeclOf.{UsingDeclOf}
use Rattle.tree_nodes.specs.declared.declarations.VarDeclaratorOf.{VarDeclaratorOf}
use Rattle.tree_nodes.specs.declared.declarations.VarDeclKind.TheVariants as VarDeclKind
use Rattle.tree_nodes.specs.declared.functions.FunctionOf.{FunctionOf}
use Rattle.tree_nodes.specs.declared.functions.ParamOf.{ParamOf}
use Rattle.tree_nodes.specs.declared.functions.DecoratorOf.{DecoratorOf}
use Rattle.tree_nodes.specs.declared.functions.ClassOf.{ClassOf}
use Rattle.tree_nodes.specs.declared.functions.ClassMemberOf.{ClassMemberOf}
use Rattle.tree_nodes.specs.declared.functions.ClassMemberOf.TheVariants as ClassMember
use Rattle.tree_nodes.specs.declared.functions.ConstructorOf.{ConstructorOf}
use Rattle.tree_nodes.specs.declared.functions.ClassMethodOf.{ClassMethodOf}
use Rattle.tree_nodes.specs.declared.functions.PrivateMethodOf.{PrivateMethodOf}
use Rattle.tree_nodes.specs.declared.functions.ClassPropOf.{ClassPropOf}
use Rattle.tree_nodes.specs.declared.functions.PrivatePropOf.{PrivatePropOf}
use Rattle.tree_nodes.specs.declared.functions.StaticBlockOf.{StaticBlockOf}
use Rattle.tree_nodes.specs.declared.functions.AutoAccessorOf.{AutoAccessorOf}
use Rattle.tree_nodes.specs.declared.functions.MethodKind.TheVariants as MethodKind
use Rattle.tree_nodes.specs.declared.functions.KeyOf.{KeyOf}
use Rattle.tree_nodes.specs.declared.functions.KeyOf.TheVariants as Key
use Rattle.tree_nodes.specs.declared.functions.PropNameOf.{PropNameOf}
use Rattle.tree_nodes.specs.declared.functions.PropNameOf.TheVariants as PropName
use Rattle.tree_nodes.specs.declared.functions.ComputedPropNameOf.{ComputedPropNameOf}
use Rattle.tree_nodes.specs.declared.functions.PrivateName.{PrivateName}
use Rattle.tree_nodes.specs.declared.expressions.ExprKindOf.{ExprKindOf}
use Rattle.tree_nodes.specs.declared.expressions.ExprKindOf.TheVariants as ExprKind
use Rattle.tree_nodes.specs.declared.expressions.ArrayLitOf.{ArrayLitOf}
use Rattle.tree_nodes.specs.declared.expressions.ObjectLitOf.{ObjectLitOf}
use Rattle.tree_nodes.specs.declared.expressions.FnExprOf.{FnExprOf}
use Rattle.tree_nodes.specs.declared.expressions.UnaryExprOf.{UnaryExprOf}
use Rattle.tree_nodes.specs.declared.expressions.UpdateExprOf.{UpdateExprOf}
use Rattle.tree_nodes.specs.declared.expressions.BinExprOf.{BinExprOf}
use Rattle.tree_nodes.specs.declared.expressions.AssignExprOf.{AssignExprOf}
use Rattle.tree_nodes.specs.declared.expressions.MemberExprOf.{MemberExprOf}
use Rattle.tree_nodes.specs.declared.expressions.SuperPropExprOf.{SuperPropExprOf}
use Rattle.tree_nodes.specs.declared.expressions.CondExprOf.{CondExprOf}
use Rattle.tree_nodes.specs.declared.expressions.CallExprOf.{CallExprOf}
use Rattle.tree_nodes.specs.declared.expressions.NewExprOf.{NewExprOf}
use Rattle.tree_nodes.specs.declared.expressions.SeqExprOf.{SeqExprOf}
use Rattle.tree_nodes.specs.declared.expressions.Ident.{Ident}
use Rattle.tree_nodes.specs.declared.expressions.TplOf.{TplOf}
use Rattle.tree_nodes.specs.declared.expressions.TaggedTplOf.{TaggedTplOf}
use Rattle.tree_nodes.specs.declared.expressions.ArrowExprOf.{ArrowExprOf}
use Rattle.tree_nodes.specs.declared.expressions.ClassExprOf.{ClassExprOf}
use Rattle.tree_nodes.specs.declared.expressions.YieldExprOf.{YieldExprOf}
use Rattle.tree_nodes.specs.declared.expressions.AwaitExprOf.{AwaitExprOf}
use Rattle.tree_nodes.specs.declared.expressions.ParenExprOf.{ParenExprOf}
use Rattle.tree_nodes.specs.declared.expressions.OptChainExprOf.{OptChainExprOf}
use Rattle.tree_nodes.specs.declared.expressions.OptCallOf.{OptCallOf}
use Rattle.tree_nodes.specs.declared.expressions.Super.{Super}
use Rattle.tree_nodes.specs.declared.expressions.Import.{Import}
use Rattle.tree_nodes.specs.declared.expressions.Invalid.{Invalid}
use Rattle.tree_nodes.specs.declared.expressions.ExprOrSpreadOf.{ExprOrSpreadOf}
use Rattle.tree_nodes.specs.declared.expressions.SpreadElementOf.{SpreadElementOf}
use Rattle.tree_nodes.specs.declared.expressions.CalleeOf.{CalleeOf}
use Rattle.tree_nodes.specs.declared.expressions.CalleeOf.TheVariants as Callee
use Rattle.tree_nodes.specs.declared.expressions.MemberPropOf.{MemberPropOf}
use Rattle.tree_nodes.specs.declared.expressions.MemberPropOf.TheVariants as MemberProp
use Rattle.tree_nodes.specs.declared.expressions.SuperPropOf.{SuperPropOf}
use Rattle.tree_nodes.specs.declared.expressions.SuperPropOf.TheVariants as SuperProp
use Rattle.tree_nodes.specs.declared.expressions.OptChainBaseOf.{OptChainBaseOf}
use Rattle.tree_nodes.specs.declared.expressions.OptChainBaseOf.TheVariants as OptChainBase
use Rattle.tree_nodes.specs.declared.expressions.BlockStmtOrExprOf.{BlockStmtOrExprOf}
use Rattle.tree_nodes.specs.declared.expressions.BlockStmtOrExprOf.TheVariants as BlockStmtOrExpr
use Rattle.tree_nodes.specs.declared.expressions.UnaryOp.TheVariants as UnaryOp
use Rattle.tree_nodes.specs.declared.expressions.UpdateOp.TheVariants as UpdateOp
use Rattle.tree_nodes.specs.declared.expressions.MetaPropKind.TheVariants as MetaPropKind
use Rattle.tree_nodes.specs.declared.objects.PropOrSpreadOf.{PropOrSpreadOf}
use Rattle.tree_nodes.specs.declared.objects.PropOrSpreadOf.TheVariants as PropOrSpread
use Rattle.tree_nodes.specs.declared.objects.PropOf.{PropOf}
use Rattle.tree_nodes.specs.declared.objects.PropOf.TheVariants as Prop
use Rattle.tree_nodes.specs.declared.objects.KeyValuePropOf.{KeyValuePropOf}
use Rattle.tree_nodes.specs.declared.objects.AssignPropOf.{AssignPropOf}
use Rattle.tree_nodes.specs.declared.objects.GetterPropOf.{GetterPropOf}
use Rattle.tree_nodes.specs.declared.objects.SetterPropOf.{SetterPropOf}
use Rattle.tree_nodes.specs.declared.objects.MethodPropOf.{MethodPropOf}
use Rattle.tree_nodes.specs.declared.literals.Lit.{Lit}
use Rattle.tree_nodes.specs.declared.literals.Lit.TheVariants as Lit
use Rattle.tree_nodes.specs.declared.literals.Str.{Str}
use Rattle.tree_nodes.specs.declared.literals.BigInt.{BigInt}
use Rattle.tree_nodes.specs.declared.patterns.PatKindOf.{PatKindOf}
use Rattle.tree_nodes.specs.declared.patterns.PatKindOf.TheVariants as PatKind
use Rattle.tree_nodes.specs.declared.patterns.ArrayPatOf.{ArrayPatOf}
use Rattle.tree_nodes.specs.declared.patterns.RestPatOf.{RestPatOf}
use Rattle.tree_nodes.specs.declared.patterns.ObjectPatOf.{ObjectPatOf}
use Rattle.tree_nodes.specs.declared.patterns.AssignPatOf.{AssignPatOf}
use Rattle.tree_nodes.specs.declared.patterns.ObjectPatPropOf.{ObjectPatPropOf}
use Rattle.tree_nodes.specs.declared.patterns.ObjectPatPropOf.TheVariants as ObjectPatProp
use Rattle.tree_nodes.specs.declared.patterns.KeyValuePatPropOf.{KeyValuePatPropOf}
use Rattle.tree_nodes.specs.declared.patterns.AssignPatPropOf.{AssignPatPropOf}
use Rattle.tree_nodes.specs.declared.patterns.AssignTargetOf.{AssignTargetOf}
use Rattle.tree_nodes.specs.declared.patterns.AssignTargetOf.TheVariants as AssignTarget

most_le : {A : Type 0} (g : A → ℕ) (v : A → Tree) → ((x : A) → g x ≤ tree_size (v x) + 2) → (xs : List A) → most g xs ≤ trees_size (trees_by v xs) + 2
most_le g v h [] = omega arith
most_le g v h (x ∷ xs) = omega (arith, most_le g v h xs, h x)

expr_8 : {T : Type 0} (μ : T → ℕ) (f : T → Tree) → ((x : T) → μ x ≤ tree_size (f x) + 2) → (s : ExprOrSpreadOf T) → (weighed-Expr-kind-at-8).weight T μ s ≤ tree_size (view_expr_or_spread f s)
expr_8 μ f h s = omega (arith, h s.expr.part.value)

expr_9 : {T : Type 0} (μ : T → ℕ) (f : T → Tree) → ((x : T) → μ x ≤ tree_size (f x) + 2) → (s : Option (ExprOrSpreadOf T)) → (weighed-Expr-kind-at-9).weight T μ s ≤ tree_size (element_by (view_expr_or_spread f) s) + 2
expr_9 μ f h None = omega arith
expr_9 μ f h (Some x) = omega (arith, expr_8 μ f h x)

expr_11 : {T : Type 0} (μ : T → ℕ) (f : T → Tree) → ((x : T) → μ x ≤ tree_size (f x) + 2) → (s : ArrayLitOf T) → (weighed-Expr-kind-at-11).weight T μ s ≤ tree_size (view_array_lit f s)
expr_11 μ f h s = omega (arith, most_le (λ x. (weighed-Expr-kind-at-9).weight _ μ x) (λ x. element_by (view_expr_or_spread f) x) (λ x. omega (arith, expr_9 μ f h x)) s.elems.items)

expr_18 : {T : Type 0} (μ : T → ℕ) (f : T → Tree) → ((x : T) → μ x ≤ tree_size (f x) + 2) → (s : SpreadElementOf T) → (weighed-Expr-kind-at-18).weight T μ s ≤ tree_size (view_spread_element f s)
expr_18 μ f h s = omega (arith, h s.expr.part.value)

expr_30 : {T : Type 0} (μ : T → ℕ) (f : T → Tree) → ((x : T) → μ x ≤ tree_size (f x) + 2) → (s : ComputedPropNameOf T) → (weighed-Expr-kind-at-30).weight T μ s ≤ tree_size (view_computed_prop_name f s)
expr_30 μ f h s = omega (arith, h s.expr.part.value)

expr_31 : {T : Type 0} (μ : T → ℕ) (f : T → Tree) → ((x : T) → μ x ≤ tree_size (f x) + 2) → (s : PropNameOf T) → (weighed-Expr-kind-at-31).weight T μ s ≤ tree_size (view_prop_name f s)
expr_31 μ f h (PropName.Ident x) = omega arith
expr_31 μ f h (PropName.Str x) = omega arith
expr_31 μ f h (PropName.Num x) = omega arith
expr_31 μ f h (PropName.BigInt x) = omega arith
expr_31 μ f h (PropName.Computed x) = omega (arith, expr_30 μ f h x)

expr_36 : {T : Type 0} (μ : T → ℕ) (f : T → Tree) → ((x : T) → μ x ≤ tree_size (f x) + 2) → (s : KeyValuePropOf T) → (weighed-Expr-kind-at-36).weight T μ s ≤ tree_size (view_key_value_prop f s)
expr_36 μ f h s = omega (arith, expr_31 μ f h s.key, h s.value.part.value)

expr_43 : {T : Type 0} (μ : T → ℕ) (f : T → Tree) → ((x : T) → μ x ≤ tree_size (f x) + 2) → (s : AssignPropOf T) → (weighed-Expr-kind-at-43).weight T μ s ≤ tree_size (view_assign_prop f s)
expr_43 μ f h s = omega (arith, h s.value.part.value)

expr_54 : {T : Type 0} (μ : T → ℕ) (f : T → Tree) → ((x : T) → μ x ≤ tree_size (f x) + 2) → (s : ComputedPropNameOf T) → (weighed-Expr-kind-at-54).weight T μ s ≤ tree_size (view_computed_prop_name f s)
expr_54 μ f h s = omega (arith, h s.expr.part.value)

expr_55 : {T : Type 0} (μ : T → ℕ) (f : T → Tree) → ((x : T) → μ x ≤ tree_size (f x) + 2) → (s : PropNameOf T) → (weighed-Expr-kind-at-55).weight T μ s ≤ tree_size (view_prop_name f s)
expr_55 μ f h (PropName.Ident x) = omega arith
expr_55 μ f h (PropName.Str x) = omega arith
expr_55 μ f h (PropName.Num x) = omega arith
expr_55 μ f h (PropName.BigInt x) = omega arith
expr_55 μ f h (PropName.Computed x) = omega (arith, expr_54 μ f h x)

expr_62 : {T : Type 0} (μ : T → ℕ) (f : T → Tree) → ((x : T) → μ x ≤ tree_size (f x) + 2) → (s : BlockStmtOf T) → (weighed-Expr-kind-at-62).weight T μ s ≤ tree_size (view_block_stmt f s)
expr_62 μ f h s = omega (arith, most_le (λ x. (weighed-Expr-kind-at-60).weight _ μ x) (λ x. f x.part.value) (λ x. omega (arith, h x.part.value)) s.stmts.items)

expr_63 : {T : Type 0} (μ : T → ℕ) (f : T → Tree) → ((x : T) → μ x ≤ tree_size (f x) + 2) → (s : GetterPropOf T) → (weighed-Expr-kind-at-63).weight T μ s ≤ tree_size (view_getter_prop f s)
expr_63 μ f h s = omega (arith, expr_55 μ f h s.key, expr_62 μ f h s.body)

expr_74 : {T : Type 0} (μ : T → ℕ) (f : T → Tree) → ((x : T) → μ x ≤ tree_size (f x) + 2) → (s : ComputedPropNameOf T) → (weighed-Expr-kind-at-74).weight T μ s ≤ tree_size (view_computed_prop_name f s)
expr_74 μ f h s = omega (arith, h s.expr.part.value)

expr_75 : {T : Type 0} (μ : T → ℕ) (f : T → Tree) → ((x : T) → μ x ≤ tree_size (f x) + 2) → (s : PropNameOf T) → (weighed-Expr-kind-at-75).weight T μ s ≤ tree_size (view_prop_name f s)
expr_75 μ f h (PropName.Ident x) = omega arith
expr_75 μ f h (PropName.Str x) = omega arith
expr_75 μ f h (PropName.Num x) = omega arith
expr_75 μ f h (PropName.BigInt x) = omega arith
expr_75 μ f h (PropName.Computed x) = omega (arith, expr_74 μ f h x)

expr_86 : {T : Type 0} (μ : T → ℕ) (f : T → Tree) → ((x : T) → μ x ≤ tree_size (f x) + 2) → (s : BlockStmtOf T) → (weighed-Expr-kind-at-86).weight T μ s ≤ tree_size (view_block_stmt f s)
expr_86 μ f h s = omega (arith, most_le (λ x. (weighed-Expr-kind-at-84).weight _ μ x) (λ x. f x.part.value) (λ x. omega (arith, h x.part.value)) s.stmts.items)

expr_87 : {T : Type 0} (μ : T → ℕ) (f : T → Tree) → ((x : T) → μ x ≤ tree_size (f x) + 2) → (s : SetterPropOf T) → (weighed-Expr-kind-at-87).weight T μ s ≤ tree_size (view_setter_prop f s)
expr_87 μ f h s = omega (arith, expr_75 μ f h s.key, h s.param.part.value, expr_86 μ f h s.body)

expr_98 : {T : Type 0} (μ : T → ℕ) (f : T → Tree) → ((x : T) → μ x ≤ tree_size (f x) + 2) → (s : ComputedPropNameOf T) → (weighed-Expr-kind-at-98).weight T μ s ≤ tree_size (view_computed_prop_name f s)
expr_98 μ f h s = omega (arith, h s.expr.part.value)

expr_99 : {T : Type 0} (μ : T → ℕ) (f : T → Tree) → ((x : T) → μ x ≤ tree_size (f x) + 2) → (s : PropNameOf T) → (weighed-Expr-kind-at-99).weight T μ s ≤ tree_size (view_prop_name f s)
expr_99 μ f h (PropName.Ident x) = omega arith
expr_99 μ f h (PropName.Str x) = omega arith
expr_99 μ f h (PropName.Num x) = omega arith
expr_99 μ f h (PropName.BigInt x) = omega arith
expr_99 μ f h (PropName.Computed x) = omega (arith, expr_98 μ f h x)

expr_107 : {T : Type 0} (μ : T → ℕ) (f : T → Tree) → ((x : T) → μ x ≤ tree_size (f x) + 2) → (s : DecoratorOf T) → (weighed-Expr-kind-at-107).weight T μ s ≤ tree_size (view_decorator f s)
expr_107 μ f h s = omega (arith, h s.expr.part.value)

expr_113 : {T : Type 0} (μ : T → ℕ) (f : T → Tree) → ((x : T) → μ x ≤ tree_size (f x) + 2) → (s : ParamOf T) → (weighed-Expr-kind-at-113).weight T μ s ≤ tree_size (view_param f s)
expr_113 μ f h s = omega (arith, most_le (λ x. (weighed-Expr-kind-at-107).weight _ μ x) (view_decorator f) (λ x. omega (arith, expr_107 μ f h x)) s.decorators.items, h s.pat.part.value)

expr_120 : {T : Type 0} (μ : T → ℕ) (f : T → Tree) → ((x : T) → μ x ≤ tree_size (f x) + 2) → (s : DecoratorOf T) → (weighed-Expr-kind-at-120).weight T μ s ≤ tree_size (view_decorator f s)
expr_120 μ f h s = omega (arith, h s.expr.part.value)

expr_128 : {T : Type 0} (μ : T → ℕ) (f : T → Tree) → ((x : T) → μ x ≤ tree_size (f x) + 2) → (s : BlockStmtOf T) → (weighed-Expr-kind-at-128).weight T μ s ≤ tree_size (view_block_stmt f s)
expr_128 μ f h s = omega (arith, most_le (λ x. (weighed-Expr-kind-at-126).weight _ μ x) (λ x. f x.part.value) (λ x. omega (arith, h x.part.value)) s.stmts.items)

expr_131 : {T : Type 0} (μ : T → ℕ) (f : T → Tree) → ((x : T) → μ x ≤ tree_size (f x) + 2) → (s : FunctionOf T) → (weighed-Expr-kind-at-131).weight T μ s ≤ tree_size (view_function f s)
expr_131 μ f h s = omega (arith, most_le (λ x. (weighed-Expr-kind-at-113).weight _ μ x) (view_param f) (λ x. omega (arith, expr_113 μ f h x)) s.params.items, most_le (λ x. (weighed-Expr-kind-at-120).weight _ μ x) (view_decorator f) (λ x. omega (arith, expr_120 μ f h x)) s.decorators.items, expr_128 μ f h s.body)

expr_133 : {T : Type 0} (μ : T → ℕ) (f : T → Tree) → ((x : T) → μ x ≤ tree_size (f x) + 2) → (s : MethodPropOf T) → (weighed-Expr-kind-at-133).weight T μ s ≤ tree_size (view_method_prop f s)
expr_133 μ f h s = omega (arith, expr_99 μ f h s.key, expr_131 μ f h s.function.value)

expr_134 : {T : Type 0} (μ : T → ℕ) (f : T → Tree) → ((x : T) → μ x ≤ tree_size (f x) + 2) → (s : PropOf T) → (weighed-Expr-kind-at-134).weight T μ s ≤ tree_size (view_prop f s)
expr_134 μ f h (Prop.Shorthand x) = omega arith
expr_134 μ f h (Prop.KeyValue x) = omega (arith, expr_36 μ f h x)
expr_134 μ f h (Prop.Assign x) = omega (arith, expr_43 μ f h x)
expr_134 μ f h (Prop.Getter x) = omega (arith, expr_63 μ f h x)
expr_134 μ f h (Prop.Setter x) = omega (arith, expr_87 μ f h x)
expr_134 μ f h (Prop.Method x) = omega (arith, expr_133 μ f h x)

expr_136 : {T : Type 0} (μ : T → ℕ) (f : T → Tree) → ((x : T) → μ x ≤ tree_size (f x) + 2) → (s : PropOrSpreadOf T) → (weighed-Expr-kind-at-136).weight T μ s ≤ tree_size (view_prop_or_spread f s)
expr_136 μ f h (PropOrSpread.Spread x) = omega (arith, expr_18 μ f h x)
expr_136 μ f h (PropOrSpread.Prop x) = omega (arith, expr_134 μ f h x.value)

expr_138 : {T : Type 0} (μ : T → ℕ) (f : T → Tree) → ((x : T) → μ x ≤ tree_size (f x) + 2) → (s : ObjectLitOf T) → (weighed-Expr-kind-at-138).weight T μ s ≤ tree_size (view_object_lit f s)
expr_138 μ f h s = omega (arith, most_le (λ x. (weighed-Expr-kind-at-136).weight _ μ x) (view_prop_or_spread f) (λ x. omega (arith, expr_136 μ f h x)) s.props.items)

expr_148 : {T : Type 0} (μ : T → ℕ) (f : T → Tree) → ((x : T) → μ x ≤ tree_size (f x) + 2) → (s : DecoratorOf T) → (weighed-Expr-kind-at-148).weight T μ s ≤ tree_size (view_decorator f s)
expr_148 μ f h s = omega (arith, h s.expr.part.value)

expr_154 : {T : Type 0} (μ : T → ℕ) (f : T → Tree) → ((x : T) → μ x ≤ tree_size (f x) + 2) → (s : ParamOf T) → (weighed-Expr-kind-at-154).weight T μ s ≤ tree_size (view_param f s)
expr_154 μ f h s = omega (arith, most_le (λ x. (weighed-Expr-kind-at-148).weight _ μ x) (view_decorator f) (λ x. omega (arith, expr_148 μ f h x)) s.decorators.items, h s.pat.part.value)

expr_161 : {T : Type 0} (μ : T → ℕ) (f : T → Tree) → ((x : T) → μ x ≤ tree_size (f x) + 2) → (s : DecoratorOf T) → (weighed-Expr-kind-at-161).weight T μ s ≤ tree_size (view_decorator f s)
expr_161 μ f h s = omega (arith, h s.expr.part.value)

expr_169 : {T : Type 0} (μ : T → ℕ) (f : T → Tree) → ((x : T) → μ x ≤ tree_size (f x) + 2) → (s : BlockStmtOf T) → (weighed-Expr-kind-at-169).weight T μ s ≤ tree_size (view_block_stmt f s)
expr_169 μ f h s = omega (arith, most_le (λ x. (weighed-Expr-kind-at-167).weight _ μ x) (λ x. f x.part.value) (λ x. omega (arith, h x.part.value)) s.stmts.items)

expr_172 : {T : Type 0} (μ : T → ℕ) (f : T → Tree) → ((x : T) → μ x ≤ tree_size (f x) + 2) → (s : FunctionOf T) → (weighed-Expr-kind-at-172).weight T μ s ≤ tree_size (view_function f s)
expr_172 μ f h s = omega (arith, most_le (λ x. (weighed-Expr-kind-at-154).weight _ μ x) (view_param f) (λ x. omega (arith, expr_154 μ f h x)) s.params.items, most_le (λ x. (weighed-Expr-kind-at-161).weight _ μ x) (view_decorator f) (λ x. omega (arith, expr_161 μ f h x)) s.decorators.items, expr_169 μ f h s.body)

expr_174 : {T : Type 0} (μ : T → ℕ) (f : T → Tree) → ((x : T) → μ x ≤ tree_size (f x) + 2) → (s : FnExprOf T) → (weighed-Expr-kind-at-174).weight T μ s ≤ tree_size (view_fn_expr f s)
expr_174 μ f h s = omega (arith, expr_172 μ f h s.function.value)

expr_181 : {T : Type 0} (μ : T → ℕ) (f : T → Tree) → ((x : T) → μ x ≤ tree_size (f x) + 2) → (s : UnaryExprOf T) → (weighed-Expr-kind-at-181).weight T μ s ≤ tree_size (view_unary_expr f s)
expr_181 μ f h s = omega (arith, h s.arg.part.value)

expr_189 : {T : Type 0} (μ : T → ℕ) (f : T → Tree) → ((x : T) → μ x ≤ tree_size (f x) + 2) → (s : UpdateExprOf T) → (weighed-Expr-kind-at-189).weight T μ s ≤ tree_size (view_update_expr f s)
expr_189 μ f h s = omega (arith, h s.arg.part.value)

expr_200 : {T : Type 0} (μ : T → ℕ) (f : T → Tree) → ((x : T) → μ x ≤ tree_size (f x) + 2) → (s : BinExprOf T) → (weighed-Expr-kind-at-200).weight T μ s ≤ tree_size (view_bin_expr f s)
expr_200 μ f h s = omega (arith, h s.left.part.value, h s.right.part.value)

expr_216 : {T : Type 0} (μ : T → ℕ) (f : T → Tree) → ((x : T) → μ x ≤ tree_size (f x) + 2) → (s : ComputedPropNameOf T) → (weighed-Expr-kind-at-216).weight T μ s ≤ tree_size (view_computed_prop_name f s)
expr_216 μ f h s = omega (arith, h s.expr.part.value)

expr_217 : {T : Type 0} (μ : T → ℕ) (f : T → Tree) → ((x : T) → μ x ≤ tree_size (f x) + 2) → (s : MemberPropOf T) → (weighed-Expr-kind-at-217).weight T μ s ≤ tree_size (view_member_prop f s)
expr_217 μ f h (MemberProp.Ident x) = omega arith
expr_217 μ f h (MemberProp.PrivateName x) = omega arith
expr_217 μ f h (MemberProp.Computed x) = omega (arith, expr_216 μ f h x)

expr_218 : {T : Type 0} (μ : T → ℕ) (f : T → Tree) → ((x : T) → μ x ≤ tree_size (f x) + 2) → (s : MemberExprOf T) → (weighed-Expr-kind-at-218).weight T μ s ≤ tree_size (view_member_expr f s)
expr_218 μ f h s = omega (arith, h s.obj.part.value, expr_217 μ f h s.prop)

expr_228 : {T : Type 0} (μ : T → ℕ) (f : T → Tree) → ((x : T) → μ x ≤ tree_size (f x) + 2) → (s : ComputedPropNameOf T) → (weighed-Expr-kind-at-228).weight T μ s ≤ tree_size (view_computed_prop_name f s)
expr_228 μ f h s = omega (arith, h s.expr.part.value)

expr_229 : {T : Type 0} (μ : T → ℕ) (f : T → Tree) → ((x : T) → μ x ≤ tree_size (f x) + 2) → (s : SuperPropOf T) → (weighed-Expr-kind-at-229).weight T μ s ≤ tree_size (view_super_prop f s)
expr_229 μ f h (SuperProp.Ident x) = omega arith
expr_229 μ f h (SuperProp.Computed x) = omega (arith, expr_228 μ f h x)

expr_230 : {T : Type 0} (μ : T → ℕ) (f : T → Tree) → ((x : T) → μ x ≤ tree_size (f x) + 2) → (s : SuperPropExprOf T) → (weighed-Expr-kind-at-230).weight T μ s ≤ tree_size (view_super_prop_expr f s)
expr_230 μ f h s = omega (arith, expr_229 μ f h s.prop)

expr_237 : {T : Type 0} (μ : T → ℕ) (f : T → Tree) → ((x : T) → μ x ≤ tree_size (f x) + 2) → (s : ParenExprOf T) → (weighed-Expr-kind-at-237).weight T μ s ≤ tree_size (view_paren_expr f s)
expr_237 μ f h s = omega (arith, h s.expr.part.value)

expr_252 : {T : Type 0} (μ : T → ℕ) (f : T → Tree) → ((x : T) → μ x ≤ tree_size (f x) + 2) → (s : ComputedPropNameOf T) → (weighed-Expr-kind-at-252).weight T μ s ≤ tree_size (view_computed_prop_name f s)
expr_252 μ f h s = omega (arith, h s.expr.part.value)

expr_253 : {T : Type 0} (μ : T → ℕ) (f : T → Tree) → ((x : T) → μ x ≤ tree_size (f x) + 2) → (s : MemberPropOf T) → (weighed-Expr-kind-at-253).weight T μ s ≤ tree_size (view_member_prop f s)
expr_253 μ f h (MemberProp.Ident x) = omega arith
expr_253 μ f h (MemberProp.PrivateName x) = omega arith
expr_253 μ f h (MemberProp.Computed x) = omega (arith, expr_252 μ f h x)

expr_254 : {T : Type 0} (μ : T → ℕ) (f : T → Tree) → ((x : T) → μ x ≤ tree_size (f x) + 2) → (s : MemberExprOf T) → (weighed-Expr-kind-at-254).weight T μ s ≤ tree_size (view_member_expr f s)
expr_254 μ f h s = omega (arith, h s.obj.part.value, expr_253 μ f h s.prop)

expr_266 : {T : Type 0} (μ : T → ℕ) (f : T → Tree) → ((x : T) → μ x ≤ tree_size (f x) + 2) → (s : ExprOrSpreadOf T) → (weighed-Expr-kind-at-266).weight T μ s ≤ tree_size (view_expr_or_spread f s)
expr_266 μ f h s = omega (arith, h s.expr.part.value)

expr_268 : {T : Type 0} (μ : T → ℕ) (f : T → Tree) → ((x : T) → μ x ≤ tree_size (f x) + 2) → (s : OptCallOf T) → (weighed-Expr-kind-at-268).weight T μ s ≤ tree_size (view_opt_call f s)
expr_268 μ f h s = omega (arith, h s.callee.part.value, most_le (λ x. (weighed-Expr-kind-at-266).weight _ μ x) (view_expr_or_spread f) (λ x. omega (arith, expr_266 μ f h x)) s.args.items)

expr_269 : {T : Type 0} (μ : T → ℕ) (f : T → Tree) → ((x : T) → μ x ≤ tree_size (f x) + 2) → (s : OptChainBaseOf T) → (weighed-Expr-kind-at-269).weight T μ s ≤ tree_size (view_opt_chain_base f s)
expr_269 μ f h (OptChainBase.Member x) = omega (arith, expr_254 μ f h x)
expr_269 μ f h (OptChainBase.Call x) = omega (arith, expr_268 μ f h x)

expr_270 : {T : Type 0} (μ : T → ℕ) (f : T → Tree) → ((x : T) → μ x ≤ tree_size (f x) + 2) → (s : OptChainExprOf T) → (weighed-Expr-kind-at-270).weight T μ s ≤ tree_size (view_opt_chain_expr f s)
expr_270 μ f h s = omega (arith, expr_269 μ f h s.base)

expr_277 : {T : Type 0} (μ : T → ℕ) (f : T → Tree) → ((x : T) → μ x ≤ tree_size (f x) + 2) → (s : Option (Child T PatTag)) → (weighed-Expr-kind-at-277).weight T μ s ≤ tree_size (element_by (λ x. f x.part.value) s) + 2
expr_277 μ f h None = omega arith
expr_277 μ f h (Some x) = omega (arith, h x.part.value)

expr_279 : {T : Type 0} (μ : T → ℕ) (f : T → Tree) → ((x : T) → μ x ≤ tree_size (f x) + 2) → (s : ArrayPatOf T) → (weighed-Expr-kind-at-279).weight T μ s ≤ tree_size (view_array_pat f s)
expr_279 μ f h s = omega (arith, most_le (λ x. (weighed-Expr-kind-at-277).weight _ μ x) (λ x. element_by (λ x. f x.part.value) x) (λ x. omega (arith, expr_277 μ f h x)) s.elems.items)

expr_291 : {T : Type 0} (μ : T → ℕ) (f : T → Tree) → ((x : T) → μ x ≤ tree_size (f x) + 2) → (s : ComputedPropNameOf T) → (weighed-Expr-kind-at-291).weight T μ s ≤ tree_size (view_computed_prop_name f s)
expr_291 μ f h s = omega (arith, h s.expr.part.value)

expr_292 : {T : Type 0} (μ : T → ℕ) (f : T → Tree) → ((x : T) → μ x ≤ tree_size (f x) + 2) → (s : PropNameOf T) → (weighed-Expr-kind-at-292).weight T μ s ≤ tree_size (view_prop_name f s)
expr_292 μ f h (PropName.Ident x) = omega arith
expr_292 μ f h (PropName.Str x) = omega arith
expr_292 μ f h (PropName.Num x) = omega arith
expr_292 μ f h (PropName.BigInt x) = omega arith
expr_292 μ f h (PropName.Computed x) = omega (arith, expr_291 μ f h x)

expr_297 : {T : Type 0} (μ : T → ℕ) (f : T → Tree) → ((x : T) → μ x ≤ tree_size (f x) + 2) → (s : KeyValuePatPropOf T) → (weighed-Expr-kind-at-297).weight T μ s ≤ tree_size (view_key_value_pat_prop f s)
expr_297 μ f h s = omega (arith, expr_292 μ f h s.key, h s.value.part.value)

expr_304 : {T : Type 0} (μ : T → ℕ) (f : T → Tree) → ((x : T) → μ x ≤ tree_size (f x) + 2) → (s : Option (Child T ExprTag)) → (weighed-Expr-kind-at-304).weight T μ s ≤ tree_size (part_by (λ x. f x.part.value) s) + 2
expr_304 μ f h None = omega arith
expr_304 μ f h (Some x) = omega (arith, h x.part.value)

expr_305 : {T : Type 0} (μ : T → ℕ) (f : T → Tree) → ((x : T) → μ x ≤ tree_size (f x) + 2) → (s : AssignPatPropOf T) → (weighed-Expr-kind-at-305).weight T μ s ≤ tree_size (view_assign_pat_prop f s)
expr_305 μ f h s = omega (arith, expr_304 μ f h s.value)

expr_312 : {T : Type 0} (μ : T → ℕ) (f : T → Tree) → ((x : T) → μ x ≤ tree_size (f x) + 2) → (s : RestPatOf T) → (weighed-Expr-kind-at-312).weight T μ s ≤ tree_size (view_rest_pat f s)
expr_312 μ f h s = omega (arith, h s.arg.part.value)

expr_313 : {T : Type 0} (μ : T → ℕ) (f : T → Tree) → ((x : T) → μ x ≤ tree_size (f x) + 2) → (s : ObjectPatPropOf T) → (weighed-Expr-kind-at-313).weight T μ s ≤ tree_size (view_object_pat_prop f s)
expr_313 μ f h (ObjectPatProp.KeyValue x) = omega (arith, expr_297 μ f h x)
expr_313 μ f h (ObjectPatProp.Assign x) = omega (arith, expr_305 μ f h x)
expr_313 μ f h (ObjectPatProp.Rest x) = omega (arith, expr_312 μ f h x)

expr_315 : {T : Type 0} (μ : T → ℕ) (f : T → Tree) → ((x : T) → μ x ≤ tree_size (f x) + 2) → (s : ObjectPatOf T) → (weighed-Expr-kind-at-315).weight T μ s ≤ tree_size (view_object_pat f s)
expr_315 μ f h s = omega (arith, most_le (λ x. (weighed-Expr-kind-at-313).weight _ μ x) (view_object_pat_prop f) (λ x. omega (arith, expr_313 μ f h x)) s.props.items)

expr_317 : {T : Type 0} (μ : T → ℕ) (f : T → Tree) → ((x : T) → μ x ≤ tree_size (f x) + 2) → (s : AssignTargetOf T) → (weighed-Expr-kind-at-317).weight T μ s ≤ tree_size (view_assign_target f s)
expr_317 μ f h (AssignTarget.Ident x) = omega arith
expr_317 μ f h (AssignTarget.Member x) = omega (arith, expr_218 μ f h x.value)
expr_317 μ f h (AssignTarget.SuperProp x) = omega (arith, expr_230 μ f h x.value)
expr_317 μ f h (AssignTarget.Paren x) = omega (arith, expr_237 μ f h x)
expr_317 μ f h (AssignTarget.OptChain x) = omega (arith, expr_270 μ f h x.value)
expr_317 μ f h (AssignTarget.Array x) = omega (arith, expr_279 μ f h x)
expr_317 μ f h (AssignTarget.Object x) = omega (arith, expr_315 μ f h x)
expr_317 μ f h (AssignTarget.Invalid x) = omega arith

expr_322 : {T : Type 0} (μ : T → ℕ) (f : T → Tree) → ((x : T) → μ x ≤ tree_size (f x) + 2) → (s : AssignExprOf T) → (weighed-Expr-kind-at-322).weight T μ s ≤ tree_size (view_assign_expr f s)
expr_322 μ f h s = omega (arith, expr_317 μ f h s.left, h s.right.part.value)

expr_335 : {T : Type 0} (μ : T → ℕ) (f : T → Tree) → ((x : T) → μ x ≤ tree_size (f x) + 2) → (s : ComputedPropNameOf T) → (weighed-Expr-kind-at-335).weight T μ s ≤ tree_size (view_computed_prop_name f s)
expr_335 μ f h s = omega (arith, h s.expr.part.value)

expr_336 : {T : Type 0} (μ : T → ℕ) (f : T → Tree) → ((x : T) → μ x ≤ tree_size (f x) + 2) → (s : MemberPropOf T) → (weighed-Expr-kind-at-336).weight T μ s ≤ tree_size (view_member_prop f s)
expr_336 μ f h (MemberProp.Ident x) = omega arith
expr_336 μ f h (MemberProp.PrivateName x) = omega arith
expr_336 μ f h (MemberProp.Computed x) = omega (arith, expr_335 μ f h x)

expr_337 : {T : Type 0} (μ : T → ℕ) (f : T → Tree) → ((x : T) → μ x ≤ tree_size (f x) + 2) → (s : MemberExprOf T) → (weighed-Expr-kind-at-337).weight T μ s ≤ tree_size (view_member_expr f s)
expr_337 μ f h s = omega (arith, h s.obj.part.value, expr_336 μ f h s.prop)

expr_346 : {T : Type 0} (μ : T → ℕ) (f : T → Tree) → ((x : T) → μ x ≤ tree_size (f x) + 2) → (s : ComputedPropNameOf T) → (weighed-Expr-kind-at-346).weight T μ s ≤ tree_size (view_computed_prop_name f s)
expr_346 μ f h s = omega (arith, h s.expr.part.value)

expr_347 : {T : Type 0} (μ : T → ℕ) (f : T → Tree) → ((x : T) → μ x ≤ tree_size (f x) + 2) → (s : SuperPropOf T) → (weighed-Expr-kind-at-347).weight T μ s ≤ tree_size (view_super_prop f s)
expr_347 μ f h (SuperProp.Ident x) = omega arith
expr_347 μ f h (SuperProp.Computed x) = omega (arith, expr_346 μ f h x)

expr_348 : {T : Type 0} (μ : T → ℕ) (f : T → Tree) → ((x : T) → μ x ≤ tree_size (f x) + 2) → (s : SuperPropExprOf T) → (weighed-Expr-kind-at-348).weight T μ s ≤ tree_size (view_super_prop_expr f s)
expr_348 μ f h s = omega (arith, expr_347 μ f h s.prop)

expr_362 : {T : Type 0} (μ : T → ℕ) (f : T → Tree) → ((x : T) → μ x ≤ tree_size (f x) + 2) → (s : CondExprOf T) → (weighed-Expr-kind-at-362).weight T μ s ≤ tree_size (view_cond_expr f s)
expr_362 μ f h s = omega (arith, h s.test.part.value, h s.cons.part.value, h s.alt.part.value)

expr_370 : {T : Type 0} (μ : T → ℕ) (f : T → Tree) → ((x : T) → μ x ≤ tree_size (f x) + 2) → (s : CalleeOf T) → (weighed-Expr-kind-at-370).weight T μ s ≤ tree_size (view_callee f s) + 2
expr_370 μ f h (Callee.Super x) = omega arith
expr_370 μ f h (Callee.Import x) = omega arith
expr_370 μ f h (Callee.Expr x) = omega (arith, h x.part.value)

expr_377 : {T : Type 0} (μ : T → ℕ) (f : T → Tree) → ((x : T) → μ x ≤ tree_size (f x) + 2) → (s : ExprOrSpreadOf T) → (weighed-Expr-kind-at-377).weight T μ s ≤ tree_size (view_expr_or_spread f s)
expr_377 μ f h s = omega (arith, h s.expr.part.value)

expr_379 : {T : Type 0} (μ : T → ℕ) (f : T → Tree) → ((x : T) → μ x ≤ tree_size (f x) + 2) → (s : CallExprOf T) → (weighed-Expr-kind-at-379).weight T μ s ≤ tree_size (view_call_expr f s)
expr_379 μ f h s = omega (arith, expr_370 μ f h s.callee, most_le (λ x. (weighed-Expr-kind-at-377).weight _ μ x) (view_expr_or_spread f) (λ x. omega (arith, expr_377 μ f h x)) s.args.items)

expr_391 : {T : Type 0} (μ : T → ℕ) (f : T → Tree) → ((x : T) → μ x ≤ tree_size (f x) + 2) → (s : ExprOrSpreadOf T) → (weighed-Expr-kind-at-391).weight T μ s ≤ tree_size (view_expr_or_spread f s)
expr_391 μ f h s = omega (arith, h s.expr.part.value)

expr_393 : {T : Type 0} (μ : T → ℕ) (f : T → Tree) → ((x : T) → μ x ≤ tree_size (f x) + 2) → (s : Option (Vec (ExprOrSpreadOf T) Global)) → (weighed-Expr-kind-at-393).weight T μ s ≤ tree_size (part_by (λ x. list (trees_by (view_expr_or_spread f) x.items)) s) + 2
expr_393 μ f h None = omega arith
expr_393 μ f h (Some x) = omega (arith, most_le (λ x. (weighed-Expr-kind-at-391).weight _ μ x) (view_expr_or_spread f) (λ x. omega (arith, expr_391 μ f h x)) x.items)

expr_394 : {T : Type 0} (μ : T → ℕ) (f : T → Tree) → ((x : T) → μ x ≤ tree_size (f x) + 2) → (s : NewExprOf T) → (weighed-Expr-kind-at-394).weight T μ s ≤ tree_size (view_new_expr f s)
expr_394 μ f h s = omega (arith, h s.callee.part.value, expr_393 μ f h s.args)

expr_401 : {T : Type 0} (μ : T → ℕ) (f : T → Tree) → ((x : T) → μ x ≤ tree_size (f x) + 2) → (s : SeqExprOf T) → (weighed-Expr-kind-at-401).weight T μ s ≤ tree_size (view_seq_expr f s)
expr_401 μ f h s = omega (arith, most_le (λ x. (weighed-Expr-kind-at-399).weight _ μ x) (λ x. f x.part.value) (λ x. omega (arith, h x.part.value)) s.exprs.items)

expr_411 : {T : Type 0} (μ : T → ℕ) (f : T → Tree) → ((x : T) → μ x ≤ tree_size (f x) + 2) → (s : TplOf T) → (weighed-Expr-kind-at-411).weight T μ s ≤ tree_size (view_tpl f s)
expr_411 μ f h s = omega (arith, most_le (λ x. (weighed-Expr-kind-at-408).weight _ μ x) (λ x. f x.part.value) (λ x. omega (arith, h x.part.value)) s.exprs.items)

expr_424 : {T : Type 0} (μ : T → ℕ) (f : T → Tree) → ((x : T) → μ x ≤ tree_size (f x) + 2) → (s : TplOf T) → (weighed-Expr-kind-at-424).weight T μ s ≤ tree_size (view_tpl f s)
expr_424 μ f h s = omega (arith, most_le (λ x. (weighed-Expr-kind-at-421).weight _ μ x) (λ x. f x.part.value) (λ x. omega (arith, h x.part.value)) s.exprs.items)

expr_426 : {T : Type 0} (μ : T → ℕ) (f : T → Tree) → ((x : T) → μ x ≤ tree_size (f x) + 2) → (s : TaggedTplOf T) → (weighed-Expr-kind-at-426).weight T μ s ≤ tree_size (view_tagged_tpl f s)
expr_426 μ f h s = omega (arith, h s.tag.part.value, expr_424 μ f h s.tpl.value)

expr_439 : {T : Type 0} (μ : T → ℕ) (f : T → Tree) → ((x : T) → μ x ≤ tree_size (f x) + 2) → (s : BlockStmtOf T) → (weighed-Expr-kind-at-439).weight T μ s ≤ tree_size (view_block_stmt f s)
expr_439 μ f h s = omega (arith, most_le (λ x. (weighed-Expr-kind-at-437).weight _ μ x) (λ x. f x.part.value) (λ x. omega (arith, h x.part.value)) s.stmts.items)

expr_444 : {T : Type 0} (μ : T → ℕ) (f : T → Tree) → ((x : T) → μ x ≤ tree_size (f x) + 2) → (s : BlockStmtOrExprOf T) → (weighed-Expr-kind-at-444).weight T μ s ≤ tree_size (view_block_stmt_or_expr f s) + 2
expr_444 μ f h (BlockStmtOrExpr.BlockStmt x) = omega (arith, expr_439 μ f h x)
expr_444 μ f h (BlockStmtOrExpr.Expr x) = omega (arith, h x.part.value)

expr_446 : {T : Type 0} (μ : T → ℕ) (f : T → Tree) → ((x : T) → μ x ≤ tree_size (f x) + 2) → (s : ArrowExprOf T) → (weighed-Expr-kind-at-446).weight T μ s ≤ tree_size (view_arrow_expr f s)
expr_446 μ f h s = omega (arith, most_le (λ x. (weighed-Expr-kind-at-431).weight _ μ x) (λ x. f x.part.value) (λ x. omega (arith, h x.part.value)) s.params.items, expr_444 μ f h s.body)

expr_455 : {T : Type 0} (μ : T → ℕ) (f : T → Tree) → ((x : T) → μ x ≤ tree_size (f x) + 2) → (s : DecoratorOf T) → (weighed-Expr-kind-at-455).weight T μ s ≤ tree_size (view_decorator f s)
expr_455 μ f h s = omega (arith, h s.expr.part.value)

expr_467 : {T : Type 0} (μ : T → ℕ) (f : T → Tree) → ((x : T) → μ x ≤ tree_size (f x) + 2) → (s : ComputedPropNameOf T) → (weighed-Expr-kind-at-467).weight T μ s ≤ tree_size (view_computed_prop_name f s)
expr_467 μ f h s = omega (arith, h s.expr.part.value)

expr_468 : {T : Type 0} (μ : T → ℕ) (f : T → Tree) → ((x : T) → μ x ≤ tree_size (f x) + 2) → (s : PropNameOf T) → (weighed-Expr-kind-at-468).weight T μ s ≤ tree_size (view_prop_name f s)
expr_468 μ f h (PropName.Ident x) = omega arith
expr_468 μ f h (PropName.Str x) = omega arith
expr_468 μ f h (PropName.Num x) = omega arith
expr_468 μ f h (PropName.BigInt x) = omega arith
expr_468 μ f h (PropName.Computed x) = omega (arith, expr_467 μ f h x)

expr_475 : {T : Type 0} (μ : T → ℕ) (f : T → Tree) → ((x : T) → μ x ≤ tree_size (f x) + 2) → (s : DecoratorOf T) → (weighed-Expr-kind-at-475).weight T μ s ≤ tree_size (view_decorator f s)
expr_475 μ f h s = omega (arith, h s.expr.part.value)

expr_481 : {T : Type 0} (μ : T → ℕ) (f : T → Tree) → ((x : T) → μ x ≤ tree_size (f x) + 2) → (s : ParamOf T) → (weighed-Expr-kind-at-481).weight T μ s ≤ tree_size (view_param f s)
expr_481 μ f h s = omega (arith, most_le (λ x. (weighed-Expr-kind-at-475).weight _ μ x) (view_decorator f) (λ x. omega (arith, expr_475 μ f h x)) s.decorators.items, h s.pat.part.value)

expr_489 : {T : Type 0} (μ : T → ℕ) (f : T → Tree) → ((x : T) → μ x ≤ tree_size (f x) + 2) → (s : BlockStmtOf T) → (weighed-Expr-kind-at-489).weight T μ s ≤ tree_size (view_block_stmt f s)
expr_489 μ f h s = omega (arith, most_le (λ x. (weighed-Expr-kind-at-487).weight _ μ x) (λ x. f x.part.value) (λ x. omega (arith, h x.part.value)) s.stmts.items)

expr_490 : {T : Type 0} (μ : T → ℕ) (f : T → Tree) → ((x : T) → μ x ≤ tree_size (f x) + 2) → (s : ConstructorOf T) → (weighed-Expr-kind-at-490).weight T μ s ≤ tree_size (view_constructor f s)
expr_490 μ f h s = omega (arith, expr_468 μ f h s.key, most_le (λ x. (weighed-Expr-kind-at-481).weight _ μ x) (view_param f) (λ x. omega (arith, expr_481 μ f h x)) s.params.items, expr_489 μ f h s.body)

expr_501 : {T : Type 0} (μ : T → ℕ) (f : T → Tree) → ((x : T) → μ x ≤ tree_size (f x) + 2) → (s : ComputedPropNameOf T) → (weighed-Expr-kind-at-501).weight T μ s ≤ tree_size (view_computed_prop_name f s)
expr_501 μ f h s = omega (arith, h s.expr.part.value)

expr_502 : {T : Type 0} (μ : T → ℕ) (f : T → Tree) → ((x : T) → μ x ≤ tree_size (f x) + 2) → (s : PropNameOf T) → (weighed-Expr-kind-at-502).weight T μ s ≤ tree_size (view_prop_name f s)
expr_502 μ f h (PropName.Ident x) = omega arith
expr_502 μ f h (PropName.Str x) = omega arith
expr_502 μ f h (PropName.Num x) = omega arith
expr_502 μ f h (PropName.BigInt x) = omega arith
expr_502 μ f h (PropName.Computed x) = omega (arith, expr_501 μ f h x)

expr_510 : {T : Type 0} (μ : T → ℕ) (f : T → Tree) → ((x : T) → μ x ≤ tree_size (f x) + 2) → (s : DecoratorOf T) → (weighed-Expr-kind-at-510).weight T μ s ≤ tree_size (view_decorator f s)
expr_510 μ f h s = omega (arith, h s.expr.part.value)

expr_516 : {T : Type 0} (μ : T → ℕ) (f : T → Tree) → ((x : T) → μ x ≤ tree_size (f x) + 2) → (s : ParamOf T) → (weighed-Expr-kind-at-516).weight T μ s ≤ tree_size (view_param f s)
expr_516 μ f h s = omega (arith, most_le (λ x. (weighed-Expr-kind-at-510).weight _ μ x) (view_decorator f) (λ x. omega (arith, expr_510 μ f h x)) s.decorators.items, h s.pat.part.value)

expr_523 : {T : Type 0} (μ : T → ℕ) (f : T → Tree) → ((x : T) → μ x ≤ tree_size (f x) + 2) → (s : DecoratorOf T) → (weighed-Expr-kind-at-523).weight T μ s ≤ tree_size (view_decorator f s)
expr_523 μ f h s = omega (arith, h s.expr.part.value)

expr_531 : {T : Type 0} (μ : T → ℕ) (f : T → Tree) → ((x : T) → μ x ≤ tree_size (f x) + 2) → (s : BlockStmtOf T) → (weighed-Expr-kind-at-531).weight T μ s ≤ tree_size (view_block_stmt f s)
expr_531 μ f h s = omega (arith, most_le (λ x. (weighed-Expr-kind-at-529).weight _ μ x) (λ x. f x.part.value) (λ x. omega (arith, h x.part.value)) s.stmts.items)

expr_534 : {T : Type 0} (μ : T → ℕ) (f : T → Tree) → ((x : T) → μ x ≤ tree_size (f x) + 2) → (s : FunctionOf T) → (weighed-Expr-kind-at-534).weight T μ s ≤ tree_size (view_function f s)
expr_534 μ f h s = omega (arith, most_le (λ x. (weighed-Expr-kind-at-516).weight _ μ x) (view_param f) (λ x. omega (arith, expr_516 μ f h x)) s.params.items, most_le (λ x. (weighed-Expr-kind-at-523).weight _ μ x) (view_decorator f) (λ x. omega (arith, expr_523 μ f h x)) s.decorators.items, expr_531 μ f h s.body)

expr_538 : {T : Type 0} (μ : T → ℕ) (f : T → Tree) → ((x : T) → μ x ≤ tree_size (f x) + 2) → (s : ClassMethodOf T) → (weighed-Expr-kind-at-538).weight T μ s ≤ tree_size (view_class_method f s)
expr_538 μ f h s = omega (arith, expr_502 μ f h s.key, expr_534 μ f h s.function.value)

expr_548 : {T : Type 0} (μ : T → ℕ) (f : T → Tree) → ((x : T) → μ x ≤ tree_size (f x) + 2) → (s : DecoratorOf T) → (weighed-Expr-kind-at-548).weight T μ s ≤ tree_size (view_decorator f s)
expr_548 μ f h s = omega (arith, h s.expr.part.value)

expr_554 : {T : Type 0} (μ : T → ℕ) (f : T → Tree) → ((x : T) → μ x ≤ tree_size (f x) + 2) → (s : ParamOf T) → (weighed-Expr-kind-at-554).weight T μ s ≤ tree_size (view_param f s)
expr_554 μ f h s = omega (arith, most_le (λ x. (weighed-Expr-kind-at-548).weight _ μ x) (view_decorator f) (λ x. omega (arith, expr_548 μ f h x)) s.decorators.items, h s.pat.part.value)

expr_561 : {T : Type 0} (μ : T → ℕ) (f : T → Tree) → ((x : T) → μ x ≤ tree_size (f x) + 2) → (s : DecoratorOf T) → (weighed-Expr-kind-at-561).weight T μ s ≤ tree_size (view_decorator f s)
expr_561 μ f h s = omega (arith, h s.expr.part.value)

expr_569 : {T : Type 0} (μ : T → ℕ) (f : T → Tree) → ((x : T) → μ x ≤ tree_size (f x) + 2) → (s : BlockStmtOf T) → (weighed-Expr-kind-at-569).weight T μ s ≤ tree_size (view_block_stmt f s)
expr_569 μ f h s = omega (arith, most_le (λ x. (weighed-Expr-kind-at-567).weight _ μ x) (λ x. f x.part.value) (λ x. omega (arith, h x.part.value)) s.stmts.items)

expr_572 : {T : Type 0} (μ : T → ℕ) (f : T → Tree) → ((x : T) → μ x ≤ tree_size (f x) + 2) → (s : FunctionOf T) → (weighed-Expr-kind-at-572).weight T μ s ≤ tree_size (view_function f s)
expr_572 μ f h s = omega (arith, most_le (λ x. (weighed-Expr-kind-at-554).weight _ μ x) (view_param f) (λ x. omega (arith, expr_554 μ f h x)) s.params.items, most_le (λ x. (weighed-Expr-kind-at-561).weight _ μ x) (view_decorator f) (λ x. omega (arith, expr_561 μ f h x)) s.decorators.items, expr_569 μ f h s.body)

expr_576 : {T : Type 0} (μ : T → ℕ) (f : T → Tree) → ((x : T) → μ x ≤ tree_size (f x) + 2) → (s : PrivateMethodOf T) → (weighed-Expr-kind-at-576).weight T μ s ≤ tree_size (view_private_method f s)
expr_576 μ f h s = omega (arith, expr_572 μ f h s.function.value)

expr_587 : {T : Type 0} (μ : T → ℕ) (f : T → Tree) → ((x : T) → μ x ≤ tree_size (f x) + 2) → (s : ComputedPropNameOf T) → (weighed-Expr-kind-at-587).weight T μ s ≤ tree_size (view_computed_prop_name f s)
expr_587 μ f h s = omega (arith, h s.expr.part.value)

expr_588 : {T : Type 0} (μ : T → ℕ) (f : T → Tree) → ((x : T) → μ x ≤ tree_size (f x) + 2) → (s : PropNameOf T) → (weighed-Expr-kind-at-588).weight T μ s ≤ tree_size (view_prop_name f s)
expr_588 μ f h (PropName.Ident x) = omega arith
expr_588 μ f h (PropName.Str x) = omega arith
expr_588 μ f h (PropName.Num x) = omega arith
expr_588 μ f h (PropName.BigInt x) = omega arith
expr_588 μ f h (PropName.Computed x) = omega (arith, expr_587 μ f h x)

expr_593 : {T : Type 0} (μ : T → ℕ) (f : T → Tree) → ((x : T) → μ x ≤ tree_size (f x) + 2) → (s : Option (Child T ExprTag)) → (weighed-Expr-kind-at-593).weight T μ s ≤ tree_size (part_by (λ x. f x.part.value) s) + 2
expr_593 μ f h None = omega arith
expr_593 μ f h (Some x) = omega (arith, h x.part.value)

expr_600 : {T : Type 0} (μ : T → ℕ) (f : T → Tree) → ((x : T) → μ x ≤ tree_size (f x) + 2) → (s : DecoratorOf T) → (weighed-Expr-kind-at-600).weight T μ s ≤ tree_size (view_decorator f s)
expr_600 μ f h s = omega (arith, h s.expr.part.value)

expr_602 : {T : Type 0} (μ : T → ℕ) (f : T → Tree) → ((x : T) → μ x ≤ tree_size (f x) + 2) → (s : ClassPropOf T) → (weighed-Expr-kind-at-602).weight T μ s ≤ tree_size (view_class_prop f s)
expr_602 μ f h s = omega (arith, expr_588 μ f h s.key, expr_593 μ f h s.value, most_le (λ x. (weighed-Expr-kind-at-600).weight _ μ x) (view_decorator f) (λ x. omega (arith, expr_600 μ f h x)) s.decorators.items)

expr_609 : {T : Type 0} (μ : T → ℕ) (f : T → Tree) → ((x : T) → μ x ≤ tree_size (f x) + 2) → (s : Option (Child T ExprTag)) → (weighed-Expr-kind-at-609).weight T μ s ≤ tree_size (part_by (λ x. f x.part.value) s) + 2
expr_609 μ f h None = omega arith
expr_609 μ f h (Some x) = omega (arith, h x.part.value)

expr_616 : {T : Type 0} (μ : T → ℕ) (f : T → Tree) → ((x : T) → μ x ≤ tree_size (f x) + 2) → (s : DecoratorOf T) → (weighed-Expr-kind-at-616).weight T μ s ≤ tree_size (view_decorator f s)
expr_616 μ f h s = omega (arith, h s.expr.part.value)

expr_618 : {T : Type 0} (μ : T → ℕ) (f : T → Tree) → ((x : T) → μ x ≤ tree_size (f x) + 2) → (s : PrivatePropOf T) → (weighed-Expr-kind-at-618).weight T μ s ≤ tree_size (view_private_prop f s)
expr_618 μ f h s = omega (arith, expr_609 μ f h s.value, most_le (λ x. (weighed-Expr-kind-at-616).weight _ μ x) (view_decorator f) (λ x. omega (arith, expr_616 μ f h x)) s.decorators.items)

expr_626 : {T : Type 0} (μ : T → ℕ) (f : T → Tree) → ((x : T) → μ x ≤ tree_size (f x) + 2) → (s : BlockStmtOf T) → (weighed-Expr-kind-at-626).weight T μ s ≤ tree_size (view_block_stmt f s)
expr_626 μ f h s = omega (arith, most_le (λ x. (weighed-Expr-kind-at-624).weight _ μ x) (λ x. f x.part.value) (λ x. omega (arith, h x.part.value)) s.stmts.items)

expr_627 : {T : Type 0} (μ : T → ℕ) (f : T → Tree) → ((x : T) → μ x ≤ tree_size (f x) + 2) → (s : StaticBlockOf T) → (weighed-Expr-kind-at-627).weight T μ s ≤ tree_size (view_static_block f s)
expr_627 μ f h s = omega (arith, expr_626 μ f h s.body)

expr_639 : {T : Type 0} (μ : T → ℕ) (f : T → Tree) → ((x : T) → μ x ≤ tree_size (f x) + 2) → (s : ComputedPropNameOf T) → (weighed-Expr-kind-at-639).weight T μ s ≤ tree_size (view_computed_prop_name f s)
expr_639 μ f h s = omega (arith, h s.expr.part.value)

expr_640 : {T : Type 0} (μ : T → ℕ) (f : T → Tree) → ((x : T) → μ x ≤ tree_size (f x) + 2) → (s : PropNameOf T) → (weighed-Expr-kind-at-640).weight T μ s ≤ tree_size (view_prop_name f s)
expr_640 μ f h (PropName.Ident x) = omega arith
expr_640 μ f h (PropName.Str x) = omega arith
expr_640 μ f h (PropName.Num x) = omega arith
expr_640 μ f h (PropName.BigInt x) = omega arith
expr_640 μ f h (PropName.Computed x) = omega (arith, expr_639 μ f h x)

expr_641 : {T : Type 0} (μ : T → ℕ) (f : T → Tree) → ((x : T) → μ x ≤ tree_size (f x) + 2) → (s : KeyOf T) → (weighed-Expr-kind-at-641).weight T μ s ≤ tree_size (view_key f s)
expr_641 μ f h (Key.Private x) = omega arith
expr_641 μ f h (Key.Public x) = omega (arith, expr_640 μ f h x)

expr_646 : {T : Type 0} (μ : T → ℕ) (f : T → Tree) → ((x : T) → μ x ≤ tree_size (f x) + 2) → (s : Option (Child T ExprTag)) → (weighed-Expr-kind-at-646).weight T μ s ≤ tree_size (part_by (λ x. f x.part.value) s) + 2
expr_646 μ f h None = omega arith
expr_646 μ f h (Some x) = omega (arith, h x.part.value)

expr_653 : {T : Type 0} (μ : T → ℕ) (f : T → Tree) → ((x : T) → μ x ≤ tree_size (f x) + 2) → (s : DecoratorOf T) → (weighed-Expr-kind-at-653).weight T μ s ≤ tree_size (view_decorator f s)
expr_653 μ f h s = omega (arith, h s.expr.part.value)

expr_655 : {T : Type 0} (μ : T → ℕ) (f : T → Tree) → ((x : T) → μ x ≤ tree_size (f x) + 2) → (s : AutoAccessorOf T) → (weighed-Expr-kind-at-655).weight T μ s ≤ tree_size (view_auto_accessor f s)
expr_655 μ f h s = omega (arith, expr_641 μ f h s.key, expr_646 μ f h s.value, most_le (λ x. (weighed-Expr-kind-at-653).weight _ μ x) (view_decorator f) (λ x. omega (arith, expr_653 μ f h x)) s.decorators.items)

expr_657 : {T : Type 0} (μ : T → ℕ) (f : T → Tree) → ((x : T) → μ x ≤ tree_size (f x) + 2) → (s : ClassMemberOf T) → (weighed-Expr-kind-at-657).weight T μ s ≤ tree_size (view_class_member f s)
expr_657 μ f h (ClassMember.Constructor x) = omega (arith, expr_490 μ f h x)
expr_657 μ f h (ClassMember.Method x) = omega (arith, expr_538 μ f h x)
expr_657 μ f h (ClassMember.PrivateMethod x) = omega (arith, expr_576 μ f h x)
expr_657 μ f h (ClassMember.ClassProp x) = omega (arith, expr_602 μ f h x)
expr_657 μ f h (ClassMember.PrivateProp x) = omega (arith, expr_618 μ f h x)
expr_657 μ f h (ClassMember.StaticBlock x) = omega (arith, expr_627 μ f h x)
expr_657 μ f h (ClassMember.AutoAccessor x) = omega (arith, expr_655 μ f h x)
expr_657 μ f h (ClassMember.Empty x) = omega arith

expr_663 : {T : Type 0} (μ : T → ℕ) (f : T → Tree) → ((x : T) → μ x ≤ tree_size (f x) + 2) → (s : Option (Child T ExprTag)) → (weighed-Expr-kind-at-663).weight T μ s ≤ tree_size (part_by (λ x. f x.part.value) s) + 2
expr_663 μ f h None = omega arith
expr_663 μ f h (Some x) = omega (arith, h x.part.value)

expr_664 : {T : Type 0} (μ : T → ℕ) (f : T → Tree) → ((x : T) → μ x ≤ tree_size (f x) + 2) → (s : ClassOf T) → (weighed-Expr-kind-at-664).weight T μ s ≤ tree_size (view_class f s)
expr_664 μ f h s = omega (arith, most_le (λ x. (weighed-Expr-kind-at-455).weight _ μ x) (view_decorator f) (λ x. omega (arith, expr_455 μ f h x)) s.decorators.items, most_le (λ x. (weighed-Expr-kind-at-657).weight _ μ x) (view_class_member f) (λ x. omega (arith, expr_657 μ f h x)) s.body.items, expr_663 μ f h s.super_class)

expr_666 : {T : Type 0} (μ : T → ℕ) (f : T → Tree) → ((x : T) → μ x ≤ tree_size (f x) + 2) → (s : ClassExprOf T) → (weighed-Expr-kind-at-666).weight T μ s ≤ tree_size (view_class_expr f s)
expr_666 μ f h s = omega (arith, expr_664 μ f h s.class.value)

expr_672 : {T : Type 0} (μ : T → ℕ) (f : T → Tree) → ((x : T) → μ x ≤ tree_size (f x) + 2) → (s : Option (Child T ExprTag)) → (weighed-Expr-kind-at-672).weight T μ s ≤ tree_size (part_by (λ x. f x.part.value) s) + 2
expr_672 μ f h None = omega arith
expr_672 μ f h (Some x) = omega (arith, h x.part.value)

expr_674 : {T : Type 0} (μ : T → ℕ) (f : T → Tree) → ((x : T) → μ x ≤ tree_size (f x) + 2) → (s : YieldExprOf T) → (weighed-Expr-kind-at-674).weight T μ s ≤ tree_size (view_yield_expr f s)
expr_674 μ f h s = omega (arith, expr_672 μ f h s.arg)

expr_681 : {T : Type 0} (μ : T → ℕ) (f : T → Tree) → ((x : T) → μ x ≤ tree_size (f x) + 2) → (s : AwaitExprOf T) → (weighed-Expr-kind-at-681).weight T μ s ≤ tree_size (view_await_expr f s)
expr_681 μ f h s = omega (arith, h s.arg.part.value)

expr_687 : {T : Type 0} (μ : T → ℕ) (f : T → Tree) → ((x : T) → μ x ≤ tree_size (f x) + 2) → (s : ParenExprOf T) → (weighed-Expr-kind-at-687).weight T μ s ≤ tree_size (view_paren_expr f s)
expr_687 μ f h s = omega (arith, h s.expr.part.value)

expr_703 : {T : Type 0} (μ : T → ℕ) (f : T → Tree) → ((x : T) → μ x ≤ tree_size (f x) + 2) → (s : ComputedPropNameOf T) → (weighed-Expr-kind-at-703).weight T μ s ≤ tree_size (view_computed_prop_name f s)
expr_703 μ f h s = omega (arith, h s.expr.part.value)

expr_704 : {T : Type 0} (μ : T → ℕ) (f : T → Tree) → ((x : T) → μ x ≤ tree_size (f x) + 2) → (s : MemberPropOf T) → (weighed-Expr-kind-at-704).weight T μ s ≤ tree_size (view_member_prop f s)
expr_704 μ f h (MemberProp.Ident x) = omega arith
expr_704 μ f h (MemberProp.PrivateName x) = omega arith
expr_704 μ f h (MemberProp.Computed x) = omega (arith, expr_703 μ f h x)

expr_705 : {T : Type 0} (μ : T → ℕ) (f : T → Tree) → ((x : T) → μ x ≤ tree_size (f x) + 2) → (s : MemberExprOf T) → (weighed-Expr-kind-at-705).weight T μ s ≤ tree_size (view_member_expr f s)
expr_705 μ f h s = omega (arith, h s.obj.part.value, expr_704 μ f h s.prop)

expr_717 : {T : Type 0} (μ : T → ℕ) (f : T → Tree) → ((x : T) → μ x ≤ tree_size (f x) + 2) → (s : ExprOrSpreadOf T) → (weighed-Expr-kind-at-717).weight T μ s ≤ tree_size (view_expr_or_spread f s)
expr_717 μ f h s = omega (arith, h s.expr.part.value)

expr_719 : {T : Type 0} (μ : T → ℕ) (f : T → Tree) → ((x : T) → μ x ≤ tree_size (f x) + 2) → (s : OptCallOf T) → (weighed-Expr-kind-at-719).weight T μ s ≤ tree_size (view_opt_call f s)
expr_719 μ f h s = omega (arith, h s.callee.part.value, most_le (λ x. (weighed-Expr-kind-at-717).weight _ μ x) (view_expr_or_spread f) (λ x. omega (arith, expr_717 μ f h x)) s.args.items)

expr_720 : {T : Type 0} (μ : T → ℕ) (f : T → Tree) → ((x : T) → μ x ≤ tree_size (f x) + 2) → (s : OptChainBaseOf T) → (weighed-Expr-kind-at-720).weight T μ s ≤ tree_size (view_opt_chain_base f s)
expr_720 μ f h (OptChainBase.Member x) = omega (arith, expr_705 μ f h x)
expr_720 μ f h (OptChainBase.Call x) = omega (arith, expr_719 μ f h x)

expr_721 : {T : Type 0} (μ : T → ℕ) (f : T → Tree) → ((x : T) → μ x ≤ tree_size (f x) + 2) → (s : OptChainExprOf T) → (weighed-Expr-kind-at-721).weight T μ s ≤ tree_size (view_opt_chain_expr f s)
expr_721 μ f h s = omega (arith, expr_720 μ f h s.base)

expr_723 : {T : Type 0} (μ : T → ℕ) (f : T → Tree) → ((x : T) → μ x ≤ tree_size (f x) + 2) → (s : ExprKindOf T) → (weighed-Expr-kind-at-723).weight T μ s ≤ tree_size (view_expr_kind f s)
expr_723 μ f h (ExprKind.This x) = omega arith
expr_723 μ f h (ExprKind.Array x) = omega (arith, expr_11 μ f h x)
expr_723 μ f h (ExprKind.Object x) = omega (arith, expr_138 μ f h x)
expr_723 μ f h (ExprKind.Fn x) = omega (arith, expr_174 μ f h x)
expr_723 μ f h (ExprKind.Unary x) = omega (arith, expr_181 μ f h x)
expr_723 μ f h (ExprKind.Update x) = omega (arith, expr_189 μ f h x)
expr_723 μ f h (ExprKind.Bin x) = omega (arith, expr_200 μ f h x)
expr_723 μ f h (ExprKind.Assign x) = omega (arith, expr_322 μ f h x)
expr_723 μ f h (ExprKind.Member x) = omega (arith, expr_337 μ f h x)
expr_723 μ f h (ExprKind.SuperProp x) = omega (arith, expr_348 μ f h x)
expr_723 μ f h (ExprKind.Cond x) = omega (arith, expr_362 μ f h x)
expr_723 μ f h (ExprKind.Call x) = omega (arith, expr_379 μ f h x)
expr_723 μ f h (ExprKind.New x) = omega (arith, expr_394 μ f h x)
expr_723 μ f h (ExprKind.Seq x) = omega (arith, expr_401 μ f h x)
expr_723 μ f h (ExprKind.Ident x) = omega arith
expr_723 μ f h (ExprKind.Lit x) = omega arith
expr_723 μ f h (ExprKind.Tpl x) = omega (arith, expr_411 μ f h x)
expr_723 μ f h (ExprKind.TaggedTpl x) = omega (arith, expr_426 μ f h x)
expr_723 μ f h (ExprKind.Arrow x) = omega (arith, expr_446 μ f h x)
expr_723 μ f h (ExprKind.Class x) = omega (arith, expr_666 μ f h x)
expr_723 μ f h (ExprKind.Yield x) = omega (arith, expr_674 μ f h x)
expr_723 μ f h (ExprKind.MetaProp x) = omega arith
expr_723 μ f h (ExprKind.Await x) = omega (arith, expr_681 μ f h x)
expr_723 μ f h (ExprKind.Paren x) = omega (arith, expr_687 μ f h x)
expr_723 μ f h (ExprKind.PrivateName x) = omega arith
expr_723 μ f h (ExprKind.OptChain x) = omega (arith, expr_721 μ f h x)
expr_723 μ f h (ExprKind.Invalid x) = omega arith

stmt_6 : {T : Type 0} (μ : T → ℕ) (f : T → Tree) → ((x : T) → μ x ≤ tree_size (f x) + 2) → (s : BlockStmtOf T) → (weighed-Stmt-kind-at-6).weight T μ s ≤ tree_size (view_block_stmt f s)
stmt_6 μ f h s = omega (arith, most_le (λ x. (weighed-Stmt-kind-at-4).weight _ μ x) (λ x. f x.part.value) (λ x. omega (arith, h x.part.value)) s.stmts.items)

stmt_18 : {T : Type 0} (μ : T → ℕ) (f : T → Tree) → ((x : T) → μ x ≤ tree_size (f x) + 2) → (s : WithStmtOf T) → (weighed-Stmt-kind-at-18).weight T μ s ≤ tree_size (view_with_stmt f s)
stmt_18 μ f h s = omega (arith, h s.obj.part.value, h s.body.part.value)

stmt_24 : {T : Type 0} (μ : T → ℕ) (f : T → Tree) → ((x : T) → μ x ≤ tree_size (f x) + 2) → (s : Option (Child T ExprTag)) → (weighed-Stmt-kind-at-24).weight T μ s ≤ tree_size (part_by (λ x. f x.part.value) s) + 2
stmt_24 μ f h None = omega arith
stmt_24 μ f h (Some x) = omega (arith, h x.part.value)

stmt_25 : {T : Type 0} (μ : T → ℕ) (f : T → Tree) → ((x : T) → μ x ≤ tree_size (f x) + 2) → (s : ReturnStmtOf T) → (weighed-Stmt-kind-at-25).weight T μ s ≤ tree_size (view_return_stmt f s)
stmt_25 μ f h s = omega (arith, stmt_24 μ f h s.arg)

stmt_32 : {T : Type 0} (μ : T → ℕ) (f : T → Tree) → ((x : T) → μ x ≤ tree_size (f x) + 2) → (s : LabeledStmtOf T) → (weighed-Stmt-kind-at-32).weight T μ s ≤ tree_size (view_labeled_stmt f s)
stmt_32 μ f h s = omega (arith, h s.body.part.value)

stmt_48 : {T : Type 0} (μ : T → ℕ) (f : T → Tree) → ((x : T) → μ x ≤ tree_size (f x) + 2) → (s : Option (Child T StmtTag)) → (weighed-Stmt-kind-at-48).weight T μ s ≤ tree_size (part_by (λ x. f x.part.value) s) + 2
stmt_48 μ f h None = omega arith
stmt_48 μ f h (Some x) = omega (arith, h x.part.value)

stmt_49 : {T : Type 0} (μ : T → ℕ) (f : T → Tree) → ((x : T) → μ x ≤ tree_size (f x) + 2) → (s : IfStmtOf T) → (weighed-Stmt-kind-at-49).weight T μ s ≤ tree_size (view_if_stmt f s)
stmt_49 μ f h s = omega (arith, h s.test.part.value, h s.cons.part.value, stmt_48 μ f h s.alt)

stmt_60 : {T : Type 0} (μ : T → ℕ) (f : T → Tree) → ((x : T) → μ x ≤ tree_size (f x) + 2) → (s : Option (Child T ExprTag)) → (weighed-Stmt-kind-at-60).weight T μ s ≤ tree_size (part_by (λ x. f x.part.value) s) + 2
stmt_60 μ f h None = omega arith
stmt_60 μ f h (Some x) = omega (arith, h x.part.value)

stmt_66 : {T : Type 0} (μ : T → ℕ) (f : T → Tree) → ((x : T) → μ x ≤ tree_size (f x) + 2) → (s : SwitchCaseOf T) → (weighed-Stmt-kind-at-66).weight T μ s ≤ tree_size (view_switch_case f s)
stmt_66 μ f h s = omega (arith, stmt_60 μ f h s.test, most_le (λ x. (weighed-Stmt-kind-at-64).weight _ μ x) (λ x. f x.part.value) (λ x. omega (arith, h x.part.value)) s.cons.items)

stmt_68 : {T : Type 0} (μ : T → ℕ) (f : T → Tree) → ((x : T) → μ x ≤ tree_size (f x) + 2) → (s : SwitchStmtOf T) → (weighed-Stmt-kind-at-68).weight T μ s ≤ tree_size (view_switch_stmt f s)
stmt_68 μ f h s = omega (arith, h s.discriminant.part.value, most_le (λ x. (weighed-Stmt-kind-at-66).weight _ μ x) (view_switch_case f) (λ x. omega (arith, stmt_66 μ f h x)) s.cases.items)

stmt_74 : {T : Type 0} (μ : T → ℕ) (f : T → Tree) → ((x : T) → μ x ≤ tree_size (f x) + 2) → (s : ThrowStmtOf T) → (weighed-Stmt-kind-at-74).weight T μ s ≤ tree_size (view_throw_stmt f s)
stmt_74 μ f h s = omega (arith, h s.arg.part.value)

stmt_82 : {T : Type 0} (μ : T → ℕ) (f : T → Tree) → ((x : T) → μ x ≤ tree_size (f x) + 2) → (s : BlockStmtOf T) → (weighed-Stmt-kind-at-82).weight T μ s ≤ tree_size (view_block_stmt f s)
stmt_82 μ f h s = omega (arith, most_le (λ x. (weighed-Stmt-kind-at-80).weight _ μ x) (λ x. f x.part.value) (λ x. omega (arith, h x.part.value)) s.stmts.items)

stmt_88 : {T : Type 0} (μ : T → ℕ) (f : T → Tree) → ((x : T) → μ x ≤ tree_size (f x) + 2) → (s : Option (Child T PatTag)) → (weighed-Stmt-kind-at-88).weight T μ s ≤ tree_size (part_by (λ x. f x.part.value) s) + 2
stmt_88 μ f h None = omega arith
stmt_88 μ f h (Some x) = omega (arith, h x.part.value)

stmt_95 : {T : Type 0} (μ : T → ℕ) (f : T → Tree) → ((x : T) → μ x ≤ tree_size (f x) + 2) → (s : BlockStmtOf T) → (weighed-Stmt-kind-at-95).weight T μ s ≤ tree_size (view_block_stmt f s)
stmt_95 μ f h s = omega (arith, most_le (λ x. (weighed-Stmt-kind-at-93).weight _ μ x) (λ x. f x.part.value) (λ x. omega (arith, h x.part.value)) s.stmts.items)

stmt_96 : {T : Type 0} (μ : T → ℕ) (f : T → Tree) → ((x : T) → μ x ≤ tree_size (f x) + 2) → (s : CatchClauseOf T) → (weighed-Stmt-kind-at-96).weight T μ s ≤ tree_size (view_catch_clause f s)
stmt_96 μ f h s = omega (arith, stmt_88 μ f h s.param, stmt_95 μ f h s.body)

stmt_97 : {T : Type 0} (μ : T → ℕ) (f : T → Tree) → ((x : T) → μ x ≤ tree_size (f x) + 2) → (s : Option (CatchClauseOf T)) → (weighed-Stmt-kind-at-97).weight T μ s ≤ tree_size (part_by (view_catch_clause f) s) + 2
stmt_97 μ f h None = omega arith
stmt_97 μ f h (Some x) = omega (arith, stmt_96 μ f h x)

stmt_104 : {T : Type 0} (μ : T → ℕ) (f : T → Tree) → ((x : T) → μ x ≤ tree_size (f x) + 2) → (s : BlockStmtOf T) → (weighed-Stmt-kind-at-104).weight T μ s ≤ tree_size (view_block_stmt f s)
stmt_104 μ f h s = omega (arith, most_le (λ x. (weighed-Stmt-kind-at-102).weight _ μ x) (λ x. f x.part.value) (λ x. omega (arith, h x.part.value)) s.stmts.items)

stmt_105 : {T : Type 0} (μ : T → ℕ) (f : T → Tree) → ((x : T) → μ x ≤ tree_size (f x) + 2) → (s : Option (BlockStmtOf T)) → (weighed-Stmt-kind-at-105).weight T μ s ≤ tree_size (part_by (view_block_stmt f) s) + 2
stmt_105 μ f h None = omega arith
stmt_105 μ f h (Some x) = omega (arith, stmt_104 μ f h x)

stmt_106 : {T : Type 0} (μ : T → ℕ) (f : T → Tree) → ((x : T) → μ x ≤ tree_size (f x) + 2) → (s : TryStmtOf T) → (weighed-Stmt-kind-at-106).weight T μ s ≤ tree_size (view_try_stmt f s)
stmt_106 μ f h s = omega (arith, stmt_82 μ f h s.block, stmt_97 μ f h s.handler, stmt_105 μ f h s.finalizer)

stmt_117 : {T : Type 0} (μ : T → ℕ) (f : T → Tree) → ((x : T) → μ x ≤ tree_size (f x) + 2) → (s : WhileStmtOf T) → (weighed-Stmt-kind-at-117).weight T μ s ≤ tree_size (view_while_stmt f s)
stmt_117 μ f h s = omega (arith, h s.test.part.value, h s.body.part.value)

stmt_127 : {T : Type 0} (μ : T → ℕ) (f : T → Tree) → ((x : T) → μ x ≤ tree_size (f x) + 2) → (s : DoWhileStmtOf T) → (weighed-Stmt-kind-at-127).weight T μ s ≤ tree_size (view_do_while_stmt f s)
stmt_127 μ f h s = omega (arith, h s.test.part.value, h s.body.part.value)

stmt_140 : {T : Type 0} (μ : T → ℕ) (f : T → Tree) → ((x : T) → μ x ≤ tree_size (f x) + 2) → (s : Option (Child T ExprTag)) → (weighed-Stmt-kind-at-140).weight T μ s ≤ tree_size (part_by (λ x. f x.part.value) s) + 2
stmt_140 μ f h None = omega arith
stmt_140 μ f h (Some x) = omega (arith, h x.part.value)

stmt_141 : {T : Type 0} (μ : T → ℕ) (f : T → Tree) → ((x : T) → μ x ≤ tree_size (f x) + 2) → (s : VarDeclaratorOf T) → (weighed-Stmt-kind-at-141).weight T μ s ≤ tree_size (view_var_declarator f s)
stmt_141 μ f h s = omega (arith, h s.name.part.value, stmt_140 μ f h s.init)

stmt_143 : {T : Type 0} (μ : T → ℕ) (f : T → Tree) → ((x : T) → μ x ≤ tree_size (f x) + 2) → (s : VarDeclOf T) → (weighed-Stmt-kind-at-143).weight T μ s ≤ tree_size (view_var_decl f s)
stmt_143 μ f h s = omega (arith, most_le (λ x. (weighed-Stmt-kind-at-141).weight _ μ x) (view_var_declarator f) (λ x. omega (arith, stmt_141 μ f h x)) s.decls.items)

stmt_156 : {T : Type 0} (μ : T → ℕ) (f : T → Tree) → ((x : T) → μ x ≤ tree_size (f x) + 2) → (s : Option (Child T ExprTag)) → (weighed-Stmt-kind-at-156).weight T μ s ≤ tree_size (part_by (λ x. f x.part.value) s) + 2
stmt_156 μ f h None = omega arith
stmt_156 μ f h (Some x) = omega (arith, h x.part.value)

stmt_157 : {T : Type 0} (μ : T → ℕ) (f : T → Tree) → ((x : T) → μ x ≤ tree_size (f x) + 2) → (s : VarDeclaratorOf T) → (weighed-Stmt-kind-at-157).weight T μ s ≤ tree_size (view_var_declarator f s)
stmt_157 μ f h s = omega (arith, h s.name.part.value, stmt_156 μ f h s.init)

stmt_159 : {T : Type 0} (μ : T → ℕ) (f : T → Tree) → ((x : T) → μ x ≤ tree_size (f x) + 2) → (s : UsingDeclOf T) → (weighed-Stmt-kind-at-159).weight T μ s ≤ tree_size (view_using_decl f s)
stmt_159 μ f h s = omega (arith, most_le (λ x. (weighed-Stmt-kind-at-157).weight _ μ x) (view_var_declarator f) (λ x. omega (arith, stmt_157 μ f h x)) s.decls.items)

stmt_165 : {T : Type 0} (μ : T → ℕ) (f : T → Tree) → ((x : T) → μ x ≤ tree_size (f x) + 2) → (s : VarDeclOrExprOf T) → (weighed-Stmt-kind-at-165).weight T μ s ≤ tree_size (view_var_decl_or_expr f s) + 2
stmt_165 μ f h (VarDeclOrExpr.VarDecl x) = omega (arith, stmt_143 μ f h x.value)
stmt_165 μ f h (VarDeclOrExpr.UsingDecl x) = omega (arith, stmt_159 μ f h x.value)
stmt_165 μ f h (VarDeclOrExpr.Expr x) = omega (arith, h x.part.value)

stmt_166 : {T : Type 0} (μ : T → ℕ) (f : T → Tree) → ((x : T) → μ x ≤ tree_size (f x) + 2) → (s : Option (VarDeclOrExprOf T)) → (weighed-Stmt-kind-at-166).weight T μ s ≤ tree_size (part_by (view_var_decl_or_expr f) s) + 2
stmt_166 μ f h None = omega arith
stmt_166 μ f h (Some x) = omega (arith, stmt_165 μ f h x)

stmt_171 : {T : Type 0} (μ : T → ℕ) (f : T → Tree) → ((x : T) → μ x ≤ tree_size (f x) + 2) → (s : Option (Child T ExprTag)) → (weighed-Stmt-kind-at-171).weight T μ s ≤ tree_size (part_by (λ x. f x.part.value) s) + 2
stmt_171 μ f h None = omega arith
stmt_171 μ f h (Some x) = omega (arith, h x.part.value)

stmt_176 : {T : Type 0} (μ : T → ℕ) (f : T → Tree) → ((x : T) → μ x ≤ tree_size (f x) + 2) → (s : Option (Child T ExprTag)) → (weighed-Stmt-kind-at-176).weight T μ s ≤ tree_size (part_by (λ x. f x.part.value) s) + 2
stmt_176 μ f h None = omega arith
stmt_176 μ f h (Some x) = omega (arith, h x.part.value)

stmt_181 : {T : Type 0} (μ : T → ℕ) (f : T → Tree) → ((x : T) → μ x ≤ tree_size (f x) + 2) → (s : ForStmtOf T) → (weighed-Stmt-kind-at-181).weight T μ s ≤ tree_size (view_for_stmt f s)
stmt_181 μ f h s = omega (arith, stmt_166 μ f h s.init, stmt_171 μ f h s.test, stmt_176 μ f h s.update, h s.body.part.value)

stmt_194 : {T : Type 0} (μ : T → ℕ) (f : T → Tree) → ((x : T) → μ x ≤ tree_size (f x) + 2) → (s : Option (Child T ExprTag)) → (weighed-Stmt-kind-at-194).weight T μ s ≤ tree_size (part_by (λ x. f x.part.value) s) + 2
stmt_194 μ f h None = omega arith
stmt_194 μ f h (Some x) = omega (arith, h x.part.value)

stmt_195 : {T : Type 0} (μ : T → ℕ) (f : T → Tree) → ((x : T) → μ x ≤ tree_size (f x) + 2) → (s : VarDeclaratorOf T) → (weighed-Stmt-kind-at-195).weight T μ s ≤ tree_size (view_var_declarator f s)
stmt_195 μ f h s = omega (arith, h s.name.part.value, stmt_194 μ f h s.init)

stmt_197 : {T : Type 0} (μ : T → ℕ) (f : T → Tree) → ((x : T) → μ x ≤ tree_size (f x) + 2) → (s : VarDeclOf T) → (weighed-Stmt-kind-at-197).weight T μ s ≤ tree_size (view_var_decl f s)
stmt_197 μ f h s = omega (arith, most_le (λ x. (weighed-Stmt-kind-at-195).weight _ μ x) (view_var_declarator f) (λ x. omega (arith, stmt_195 μ f h x)) s.decls.items)

stmt_210 : {T : Type 0} (μ : T → ℕ) (f : T → Tree) → ((x : T) → μ x ≤ tree_size (f x) + 2) → (s : Option (Child T ExprTag)) → (weighed-Stmt-kind-at-210).weight T μ s ≤ tree_size (part_by (λ x. f x.part.value) s) + 2
stmt_210 μ f h None = omega arith
stmt_210 μ f h (Some x) = omega (arith, h x.part.value)

stmt_211 : {T : Type 0} (μ : T → ℕ) (f : T → Tree) → ((x : T) → μ x ≤ tree_size (f x) + 2) → (s : VarDeclaratorOf T) → (weighed-Stmt-kind-at-211).weight T μ s ≤ tree_size (view_var_declarator f s)
stmt_211 μ f h s = omega (arith, h s.name.part.value, stmt_210 μ f h s.init)

stmt_213 : {T : Type 0} (μ : T → ℕ) (f : T → Tree) → ((x : T) → μ x ≤ tree_size (f x) + 2) → (s : UsingDeclOf T) → (weighed-Stmt-kind-at-213).weight T μ s ≤ tree_size (view_using_decl f s)
stmt_213 μ f h s = omega (arith, most_le (λ x. (weighed-Stmt-kind-at-211).weight _ μ x) (view_var_declarator f) (λ x. omega (arith, stmt_211 μ f h x)) s.decls.items)

stmt_219 : {T : Type 0} (μ : T → ℕ) (f : T → Tree) → ((x : T) → μ x ≤ tree_size (f x) + 2) → (s : ForHeadOf T) → (weighed-Stmt-kind-at-219).weight T μ s ≤ tree_size (view_for_head f s) + 2
stmt_219 μ f h (ForHead.VarDecl x) = omega (arith, stmt_197 μ f h x.value)
stmt_219 μ f h (ForHead.UsingDecl x) = omega (arith, stmt_213 μ f h x.value)
stmt_219 μ f h (ForHead.Pat x) = omega (arith, h x.part.value)

stmt_228 : {T : Type 0} (μ : T → ℕ) (f : T → Tree) → ((x : T) → μ x ≤ tree_size (f x) + 2) → (s : ForInStmtOf T) → (weighed-Stmt-kind-at-228).weight T μ s ≤ tree_size (view_for_in_stmt f s)
stmt_228 μ f h s = omega (arith, stmt_219 μ f h s.left, h s.right.part.value, h s.body.part.value)

stmt_242 : {T : Type 0} (μ : T → ℕ) (f : T → Tree) → ((x : T) → μ x ≤ tree_size (f x) + 2) → (s : Option (Child T ExprTag)) → (weighed-Stmt-kind-at-242).weight T μ s ≤ tree_size (part_by (λ x. f x.part.value) s) + 2
stmt_242 μ f h None = omega arith
stmt_242 μ f h (Some x) = omega (arith, h x.part.value)

stmt_243 : {T : Type 0} (μ : T → ℕ) (f : T → Tree) → ((x : T) → μ x ≤ tree_size (f x) + 2) → (s : VarDeclaratorOf T) → (weighed-Stmt-kind-at-243).weight T μ s ≤ tree_size (view_var_declarator f s)
stmt_243 μ f h s = omega (arith, h s.name.part.value, stmt_242 μ f h s.init)

stmt_245 : {T : Type 0} (μ : T → ℕ) (f : T → Tree) → ((x : T) → μ x ≤ tree_size (f x) + 2) → (s : VarDeclOf T) → (weighed-Stmt-kind-at-245).weight T μ s ≤ tree_size (view_var_decl f s)
stmt_245 μ f h s = omega (arith, most_le (λ x. (weighed-Stmt-kind-at-243).weight _ μ x) (view_var_declarator f) (λ x. omega (arith, stmt_243 μ f h x)) s.decls.items)

stmt_258 : {T : Type 0} (μ : T → ℕ) (f : T → Tree) → ((x : T) → μ x ≤ tree_size (f x) + 2) → (s : Option (Child T ExprTag)) → (weighed-Stmt-kind-at-258).weight T μ s ≤ tree_size (part_by (λ x. f x.part.value) s) + 2
stmt_258 μ f h None = omega arith
stmt_258 μ f h (Some x) = omega (arith, h x.part.value)

stmt_259 : {T : Type 0} (μ : T → ℕ) (f : T → Tree) → ((x : T) → μ x ≤ tree_size (f x) + 2) → (s : VarDeclaratorOf T) → (weighed-Stmt-kind-at-259).weight T μ s ≤ tree_size (view_var_declarator f s)
stmt_259 μ f h s = omega (arith, h s.name.part.value, stmt_258 μ f h s.init)

stmt_261 : {T : Type 0} (μ : T → ℕ) (f : T → Tree) → ((x : T) → μ x ≤ tree_size (f x) + 2) → (s : UsingDeclOf T) → (weighed-Stmt-kind-at-261).weight T μ s ≤ tree_size (view_using_decl f s)
stmt_261 μ f h s = omega (arith, most_le (λ x. (weighed-Stmt-kind-at-259).weight _ μ x) (view_var_declarator f) (λ x. omega (arith, stmt_259 μ f h x)) s.decls.items)

stmt_267 : {T : Type 0} (μ : T → ℕ) (f : T → Tree) → ((x : T) → μ x ≤ tree_size (f x) + 2) → (s : ForHeadOf T) → (weighed-Stmt-kind-at-267).weight T μ s ≤ tree_size (view_for_head f s) + 2
stmt_267 μ f h (ForHead.VarDecl x) = omega (arith, stmt_245 μ f h x.value)
stmt_267 μ f h (ForHead.UsingDecl x) = omega (arith, stmt_261 μ f h x.value)
stmt_267 μ f h (ForHead.Pat x) = omega (arith, h x.part.value)

stmt_276 : {T : Type 0} (μ : T → ℕ) (f : T → Tree) → ((x : T) → μ x ≤ tree_size (f x) + 2) → (s : ForOfStmtOf T) → (weighed-Stmt-kind-at-276).weight T μ s ≤ tree_size (view_for_of_stmt f s)
stmt_276 μ f h s = omega (arith, stmt_267 μ f h s.left, h s.right.part.value, h s.body.part.value)

stmt_285 : {T : Type 0} (μ : T → ℕ) (f : T → Tree) → ((x : T) → μ x ≤ tree_size (f x) + 2) → (s : DecoratorOf T) → (weighed-Stmt-kind-at-285).weight T μ s ≤ tree_size (view_decorator f s)
stmt_285 μ f h s = omega (arith, h s.expr.part.value)

stmt_297 : {T : Type 0} (μ : T → ℕ) (f : T → Tree) → ((x : T) → μ x ≤ tree_size (f x) + 2) → (s : ComputedPropNameOf T) → (weighed-Stmt-kind-at-297).weight T μ s ≤ tree_size (view_computed_prop_name f s)
stmt_297 μ f h s = omega (arith, h s.expr.part.value)

stmt_298 : {T : Type 0} (μ : T → ℕ) (f : T → Tree) → ((x : T) → μ x ≤ tree_size (f x) + 2) → (s : PropNameOf T) → (weighed-Stmt-kind-at-298).weight T μ s ≤ tree_size (view_prop_name f s)
stmt_298 μ f h (PropName.Ident x) = omega arith
stmt_298 μ f h (PropName.Str x) = omega arith
stmt_298 μ f h (PropName.Num x) = omega arith
stmt_298 μ f h (PropName.BigInt x) = omega arith
stmt_298 μ f h (PropName.Computed x) = omega (arith, stmt_297 μ f h x)

stmt_305 : {T : Type 0} (μ : T → ℕ) (f : T → Tree) → ((x : T) → μ x ≤ tree_size (f x) + 2) → (s : DecoratorOf T) → (weighed-Stmt-kind-at-305).weight T μ s ≤ tree_size (view_decorator f s)
stmt_305 μ f h s = omega (arith, h s.expr.part.value)

stmt_311 : {T : Type 0} (μ : T → ℕ) (f : T → Tree) → ((x : T) → μ x ≤ tree_size (f x) + 2) → (s : ParamOf T) → (weighed-Stmt-kind-at-311).weight T μ s ≤ tree_size (view_param f s)
stmt_311 μ f h s = omega (arith, most_le (λ x. (weighed-Stmt-kind-at-305).weight _ μ x) (view_decorator f) (λ x. omega (arith, stmt_305 μ f h x)) s.decorators.items, h s.pat.part.value)

stmt_319 : {T : Type 0} (μ : T → ℕ) (f : T → Tree) → ((x : T) → μ x ≤ tree_size (f x) + 2) → (s : BlockStmtOf T) → (weighed-Stmt-kind-at-319).weight T μ s ≤ tree_size (view_block_stmt f s)
stmt_319 μ f h s = omega (arith, most_le (λ x. (weighed-Stmt-kind-at-317).weight _ μ x) (λ x. f x.part.value) (λ x. omega (arith, h x.part.value)) s.stmts.items)

stmt_320 : {T : Type 0} (μ : T → ℕ) (f : T → Tree) → ((x : T) → μ x ≤ tree_size (f x) + 2) → (s : ConstructorOf T) → (weighed-Stmt-kind-at-320).weight T μ s ≤ tree_size (view_constructor f s)
stmt_320 μ f h s = omega (arith, stmt_298 μ f h s.key, most_le (λ x. (weighed-Stmt-kind-at-311).weight _ μ x) (view_param f) (λ x. omega (arith, stmt_311 μ f h x)) s.params.items, stmt_319 μ f h s.body)

stmt_331 : {T : Type 0} (μ : T → ℕ) (f : T → Tree) → ((x : T) → μ x ≤ tree_size (f x) + 2) → (s : ComputedPropNameOf T) → (weighed-Stmt-kind-at-331).weight T μ s ≤ tree_size (view_computed_prop_name f s)
stmt_331 μ f h s = omega (arith, h s.expr.part.value)

stmt_332 : {T : Type 0} (μ : T → ℕ) (f : T → Tree) → ((x : T) → μ x ≤ tree_size (f x) + 2) → (s : PropNameOf T) → (weighed-Stmt-kind-at-332).weight T μ s ≤ tree_size (view_prop_name f s)
stmt_332 μ f h (PropName.Ident x) = omega arith
stmt_332 μ f h (PropName.Str x) = omega arith
stmt_332 μ f h (PropName.Num x) = omega arith
stmt_332 μ f h (PropName.BigInt x) = omega arith
stmt_332 μ f h (PropName.Computed x) = omega (arith, stmt_331 μ f h x)

stmt_340 : {T : Type 0} (μ : T → ℕ) (f : T → Tree) → ((x : T) → μ x ≤ tree_size (f x) + 2) → (s : DecoratorOf T) → (weighed-Stmt-kind-at-340).weight T μ s ≤ tree_size (view_decorator f s)
stmt_340 μ f h s = omega (arith, h s.expr.part.value)

stmt_346 : {T : Type 0} (μ : T → ℕ) (f : T → Tree) → ((x : T) → μ x ≤ tree_size (f x) + 2) → (s : ParamOf T) → (weighed-Stmt-kind-at-346).weight T μ s ≤ tree_size (view_param f s)
stmt_346 μ f h s = omega (arith, most_le (λ x. (weighed-Stmt-kind-at-340).weight _ μ x) (view_decorator f) (λ x. omega (arith, stmt_340 μ f h x)) s.decorators.items, h s.pat.part.value)

stmt_353 : {T : Type 0} (μ : T → ℕ) (f : T → Tree) → ((x : T) → μ x ≤ tree_size (f x) + 2) → (s : DecoratorOf T) → (weighed-Stmt-kind-at-353).weight T μ s ≤ tree_size (view_decorator f s)
stmt_353 μ f h s = omega (arith, h s.expr.part.value)

stmt_361 : {T : Type 0} (μ : T → ℕ) (f : T → Tree) → ((x : T) → μ x ≤ tree_size (f x) + 2) → (s : BlockStmtOf T) → (weighed-Stmt-kind-at-361).weight T μ s ≤ tree_size (view_block_stmt f s)
stmt_361 μ f h s = omega (arith, most_le (λ x. (weighed-Stmt-kind-at-359).weight _ μ x) (λ x. f x.part.value) (λ x. omega (arith, h x.part.value)) s.stmts.items)

stmt_364 : {T : Type 0} (μ : T → ℕ) (f : T → Tree) → ((x : T) → μ x ≤ tree_size (f x) + 2) → (s : FunctionOf T) → (weighed-Stmt-kind-at-364).weight T μ s ≤ tree_size (view_function f s)
stmt_364 μ f h s = omega (arith, most_le (λ x. (weighed-Stmt-kind-at-346).weight _ μ x) (view_param f) (λ x. omega (arith, stmt_346 μ f h x)) s.params.items, most_le (λ x. (weighed-Stmt-kind-at-353).weight _ μ x) (view_decorator f) (λ x. omega (arith, stmt_353 μ f h x)) s.decorators.items, stmt_361 μ f h s.body)

stmt_368 : {T : Type 0} (μ : T → ℕ) (f : T → Tree) → ((x : T) → μ x ≤ tree_size (f x) + 2) → (s : ClassMethodOf T) → (weighed-Stmt-kind-at-368).weight T μ s ≤ tree_size (view_class_method f s)
stmt_368 μ f h s = omega (arith, stmt_332 μ f h s.key, stmt_364 μ f h s.function.value)

stmt_378 : {T : Type 0} (μ : T → ℕ) (f : T → Tree) → ((x : T) → μ x ≤ tree_size (f x) + 2) → (s : DecoratorOf T) → (weighed-Stmt-kind-at-378).weight T μ s ≤ tree_size (view_decorator f s)
stmt_378 μ f h s = omega (arith, h s.expr.part.value)

stmt_384 : {T : Type 0} (μ : T → ℕ) (f : T → Tree) → ((x : T) → μ x ≤ tree_size (f x) + 2) → (s : ParamOf T) → (weighed-Stmt-kind-at-384).weight T μ s ≤ tree_size (view_param f s)
stmt_384 μ f h s = omega (arith, most_le (λ x. (weighed-Stmt-kind-at-378).weight _ μ x) (view_decorator f) (λ x. omega (arith, stmt_378 μ f h x)) s.decorators.items, h s.pat.part.value)

stmt_391 : {T : Type 0} (μ : T → ℕ) (f : T → Tree) → ((x : T) → μ x ≤ tree_size (f x) + 2) → (s : DecoratorOf T) → (weighed-Stmt-kind-at-391).weight T μ s ≤ tree_size (view_decorator f s)
stmt_391 μ f h s = omega (arith, h s.expr.part.value)

stmt_399 : {T : Type 0} (μ : T → ℕ) (f : T → Tree) → ((x : T) → μ x ≤ tree_size (f x) + 2) → (s : BlockStmtOf T) → (weighed-Stmt-kind-at-399).weight T μ s ≤ tree_size (view_block_stmt f s)
stmt_399 μ f h s = omega (arith, most_le (λ x. (weighed-Stmt-kind-at-397).weight _ μ x) (λ x. f x.part.value) (λ x. omega (arith, h x.part.value)) s.stmts.items)

stmt_402 : {T : Type 0} (μ : T → ℕ) (f : T → Tree) → ((x : T) → μ x ≤ tree_size (f x) + 2) → (s : FunctionOf T) → (weighed-Stmt-kind-at-402).weight T μ s ≤ tree_size (view_function f s)
stmt_402 μ f h s = omega (arith, most_le (λ x. (weighed-Stmt-kind-at-384).weight _ μ x) (view_param f) (λ x. omega (arith, stmt_384 μ f h x)) s.params.items, most_le (λ x. (weighed-Stmt-kind-at-391).weight _ μ x) (view_decorator f) (λ x. omega (arith, stmt_391 μ f h x)) s.decorators.items, stmt_399 μ f h s.body)

stmt_406 : {T : Type 0} (μ : T → ℕ) (f : T → Tree) → ((x : T) → μ x ≤ tree_size (f x) + 2) → (s : PrivateMethodOf T) → (weighed-Stmt-kind-at-406).weight T μ s ≤ tree_size (view_private_method f s)
stmt_406 μ f h s = omega (arith, stmt_402 μ f h s.function.value)

stmt_417 : {T : Type 0} (μ : T → ℕ) (f : T → Tree) → ((x : T) → μ x ≤ tree_size (f x) + 2) → (s : ComputedPropNameOf T) → (weighed-Stmt-kind-at-417).weight T μ s ≤ tree_size (view_computed_prop_name f s)
stmt_417 μ f h s = omega (arith, h s.expr.part.value)

stmt_418 : {T : Type 0} (μ : T → ℕ) (f : T → Tree) → ((x : T) → μ x ≤ tree_size (f x) + 2) → (s : PropNameOf T) → (weighed-Stmt-kind-at-418).weight T μ s ≤ tree_size (view_prop_name f s)
stmt_418 μ f h (PropName.Ident x) = omega arith
stmt_418 μ f h (PropName.Str x) = omega arith
stmt_418 μ f h (PropName.Num x) = omega arith
stmt_418 μ f h (PropName.BigInt x) = omega arith
stmt_418 μ f h (PropName.Computed x) = omega (arith, stmt_417 μ f h x)

stmt_423 : {T : Type 0} (μ : T → ℕ) (f : T → Tree) → ((x : T) → μ x ≤ tree_size (f x) + 2) → (s : Option (Child T ExprTag)) → (weighed-Stmt-kind-at-423).weight T μ s ≤ tree_size (part_by (λ x. f x.part.value) s) + 2
stmt_423 μ f h None = omega arith
stmt_423 μ f h (Some x) = omega (arith, h x.part.value)

stmt_430 : {T : Type 0} (μ : T → ℕ) (f : T → Tree) → ((x : T) → μ x ≤ tree_size (f x) + 2) → (s : DecoratorOf T) → (weighed-Stmt-kind-at-430).weight T μ s ≤ tree_size (view_decorator f s)
stmt_430 μ f h s = omega (arith, h s.expr.part.value)

stmt_432 : {T : Type 0} (μ : T → ℕ) (f : T → Tree) → ((x : T) → μ x ≤ tree_size (f x) + 2) → (s : ClassPropOf T) → (weighed-Stmt-kind-at-432).weight T μ s ≤ tree_size (view_class_prop f s)
stmt_432 μ f h s = omega (arith, stmt_418 μ f h s.key, stmt_423 μ f h s.value, most_le (λ x. (weighed-Stmt-kind-at-430).weight _ μ x) (view_decorator f) (λ x. omega (arith, stmt_430 μ f h x)) s.decorators.items)

stmt_439 : {T : Type 0} (μ : T → ℕ) (f : T → Tree) → ((x : T) → μ x ≤ tree_size (f x) + 2) → (s : Option (Child T ExprTag)) → (weighed-Stmt-kind-at-439).weight T μ s ≤ tree_size (part_by (λ x. f x.part.value) s) + 2
stmt_439 μ f h None = omega arith
stmt_439 μ f h (Some x) = omega (arith, h x.part.value)

stmt_446 : {T : Type 0} (μ : T → ℕ) (f : T → Tree) → ((x : T) → μ x ≤ tree_size (f x) + 2) → (s : DecoratorOf T) → (weighed-Stmt-kind-at-446).weight T μ s ≤ tree_size (view_decorator f s)
stmt_446 μ f h s = omega (arith, h s.expr.part.value)

stmt_448 : {T : Type 0} (μ : T → ℕ) (f : T → Tree) → ((x : T) → μ x ≤ tree_size (f x) + 2) → (s : PrivatePropOf T) → (weighed-Stmt-kind-at-448).weight T μ s ≤ tree_size (view_private_prop f s)
stmt_448 μ f h s = omega (arith, stmt_439 μ f h s.value, most_le (λ x. (weighed-Stmt-kind-at-446).weight _ μ x) (view_decorator f) (λ x. omega (arith, stmt_446 μ f h x)) s.decorators.items)

stmt_456 : {T : Type 0} (μ : T → ℕ) (f : T → Tree) → ((x : T) → μ x ≤ tree_size (f x) + 2) → (s : BlockStmtOf T) → (weighed-Stmt-kind-at-456).weight T μ s ≤ tree_size (view_block_stmt f s)
stmt_456 μ f h s = omega (arith, most_le (λ x. (weighed-Stmt-kind-at-454).weight _ μ x) (λ x. f x.part.value) (λ x. omega (arith, h x.part.value)) s.stmts.items)

stmt_457 : {T : Type 0} (μ : T → ℕ) (f : T → Tree) → ((x : T) → μ x ≤ tree_size (f x) + 2) → (s : StaticBlockOf T) → (weighed-Stmt-kind-at-457).weight T μ s ≤ tree_size (view_static_block f s)
stmt_457 μ f h s = omega (arith, stmt_456 μ f h s.body)

stmt_469 : {T : Type 0} (μ : T → ℕ) (f : T → Tree) → ((x : T) → μ x ≤ tree_size (f x) + 2) → (s : ComputedPropNameOf T) → (weighed-Stmt-kind-at-469).weight T μ s ≤ tree_size (view_computed_prop_name f s)
stmt_469 μ f h s = omega (arith, h s.expr.part.value)

stmt_470 : {T : Type 0} (μ : T → ℕ) (f : T → Tree) → ((x : T) → μ x ≤ tree_size (f x) + 2) → (s : PropNameOf T) → (weighed-Stmt-kind-at-470).weight T μ s ≤ tree_size (view_prop_name f s)
stmt_470 μ f h (PropName.Ident x) = omega arith
stmt_470 μ f h (PropName.Str x) = omega arith
stmt_470 μ f h (PropName.Num x) = omega arith
stmt_470 μ f h (PropName.BigInt x) = omega arith
stmt_470 μ f h (PropName.Computed x) = omega (arith, stmt_469 μ f h x)

stmt_471 : {T : Type 0} (μ : T → ℕ) (f : T → Tree) → ((x : T) → μ x ≤ tree_size (f x) + 2) → (s : KeyOf T) → (weighed-Stmt-kind-at-471).weight T μ s ≤ tree_size (view_key f s)
stmt_471 μ f h (Key.Private x) = omega arith
stmt_471 μ f h (Key.Public x) = omega (arith, stmt_470 μ f h x)

stmt_476 : {T : Type 0} (μ : T → ℕ) (f : T → Tree) → ((x : T) → μ x ≤ tree_size (f x) + 2) → (s : Option (Child T ExprTag)) → (weighed-Stmt-kind-at-476).weight T μ s ≤ tree_size (part_by (λ x. f x.part.value) s) + 2
stmt_476 μ f h None = omega arith
stmt_476 μ f h (Some x) = omega (arith, h x.part.value)

stmt_483 : {T : Type 0} (μ : T → ℕ) (f : T → Tree) → ((x : T) → μ x ≤ tree_size (f x) + 2) → (s : DecoratorOf T) → (weighed-Stmt-kind-at-483).weight T μ s ≤ tree_size (view_decorator f s)
stmt_483 μ f h s = omega (arith, h s.expr.part.value)

stmt_485 : {T : Type 0} (μ : T → ℕ) (f : T → Tree) → ((x : T) → μ x ≤ tree_size (f x) + 2) → (s : AutoAccessorOf T) → (weighed-Stmt-kind-at-485).weight T μ s ≤ tree_size (view_auto_accessor f s)
stmt_485 μ f h s = omega (arith, stmt_471 μ f h s.key, stmt_476 μ f h s.value, most_le (λ x. (weighed-Stmt-kind-at-483).weight _ μ x) (view_decorator f) (λ x. omega (arith, stmt_483 μ f h x)) s.decorators.items)

stmt_487 : {T : Type 0} (μ : T → ℕ) (f : T → Tree) → ((x : T) → μ x ≤ tree_size (f x) + 2) → (s : ClassMemberOf T) → (weighed-Stmt-kind-at-487).weight T μ s ≤ tree_size (view_class_member f s)
stmt_487 μ f h (ClassMember.Constructor x) = omega (arith, stmt_320 μ f h x)
stmt_487 μ f h (ClassMember.Method x) = omega (arith, stmt_368 μ f h x)
stmt_487 μ f h (ClassMember.PrivateMethod x) = omega (arith, stmt_406 μ f h x)
stmt_487 μ f h (ClassMember.ClassProp x) = omega (arith, stmt_432 μ f h x)
stmt_487 μ f h (ClassMember.PrivateProp x) = omega (arith, stmt_448 μ f h x)
stmt_487 μ f h (ClassMember.StaticBlock x) = omega (arith, stmt_457 μ f h x)
stmt_487 μ f h (ClassMember.AutoAccessor x) = omega (arith, stmt_485 μ f h x)
stmt_487 μ f h (ClassMember.Empty x) = omega arith

stmt_493 : {T : Type 0} (μ : T → ℕ) (f : T → Tree) → ((x : T) → μ x ≤ tree_size (f x) + 2) → (s : Option (Child T ExprTag)) → (weighed-Stmt-kind-at-493).weight T μ s ≤ tree_size (part_by (λ x. f x.part.value) s) + 2
stmt_493 μ f h None = omega arith
stmt_493 μ f h (Some x) = omega (arith, h x.part.value)

stmt_494 : {T : Type 0} (μ : T → ℕ) (f : T → Tree) → ((x : T) → μ x ≤ tree_size (f x) + 2) → (s : ClassOf T) → (weighed-Stmt-kind-at-494).weight T μ s ≤ tree_size (view_class f s)
stmt_494 μ f h s = omega (arith, most_le (λ x. (weighed-Stmt-kind-at-285).weight _ μ x) (view_decorator f) (λ x. omega (arith, stmt_285 μ f h x)) s.decorators.items, most_le (λ x. (weighed-Stmt-kind-at-487).weight _ μ x) (view_class_member f) (λ x. omega (arith, stmt_487 μ f h x)) s.body.items, stmt_493 μ f h s.super_class)

stmt_496 : {T : Type 0} (μ : T → ℕ) (f : T → Tree) → ((x : T) → μ x ≤ tree_size (f x) + 2) → (s : ClassDeclOf T) → (weighed-Stmt-kind-at-496).weight T μ s ≤ tree_size (view_class_decl f s)
stmt_496 μ f h s = omega (arith, stmt_494 μ f h s.class.value)

stmt_506 : {T : Type 0} (μ : T → ℕ) (f : T → Tree) → ((x : T) → μ x ≤ tree_size (f x) + 2) → (s : DecoratorOf T) → (weighed-Stmt-kind-at-506).weight T μ s ≤ tree_size (view_decorator f s)
stmt_506 μ f h s = omega (arith, h s.expr.part.value)

stmt_512 : {T : Type 0} (μ : T → ℕ) (f : T → Tree) → ((x : T) → μ x ≤ tree_size (f x) + 2) → (s : ParamOf T) → (weighed-Stmt-kind-at-512).weight T μ s ≤ tree_size (view_param f s)
stmt_512 μ f h s = omega (arith, most_le (λ x. (weighed-Stmt-kind-at-506).weight _ μ x) (view_decorator f) (λ x. omega (arith, stmt_506 μ f h x)) s.decorators.items, h s.pat.part.value)

stmt_519 : {T : Type 0} (μ : T → ℕ) (f : T → Tree) → ((x : T) → μ x ≤ tree_size (f x) + 2) → (s : DecoratorOf T) → (weighed-Stmt-kind-at-519).weight T μ s ≤ tree_size (view_decorator f s)
stmt_519 μ f h s = omega (arith, h s.expr.part.value)

stmt_527 : {T : Type 0} (μ : T → ℕ) (f : T → Tree) → ((x : T) → μ x ≤ tree_size (f x) + 2) → (s : BlockStmtOf T) → (weighed-Stmt-kind-at-527).weight T μ s ≤ tree_size (view_block_stmt f s)
stmt_527 μ f h s = omega (arith, most_le (λ x. (weighed-Stmt-kind-at-525).weight _ μ x) (λ x. f x.part.value) (λ x. omega (arith, h x.part.value)) s.stmts.items)

stmt_530 : {T : Type 0} (μ : T → ℕ) (f : T → Tree) → ((x : T) → μ x ≤ tree_size (f x) + 2) → (s : FunctionOf T) → (weighed-Stmt-kind-at-530).weight T μ s ≤ tree_size (view_function f s)
stmt_530 μ f h s = omega (arith, most_le (λ x. (weighed-Stmt-kind-at-512).weight _ μ x) (view_param f) (λ x. omega (arith, stmt_512 μ f h x)) s.params.items, most_le (λ x. (weighed-Stmt-kind-at-519).weight _ μ x) (view_decorator f) (λ x. omega (arith, stmt_519 μ f h x)) s.decorators.items, stmt_527 μ f h s.body)

stmt_532 : {T : Type 0} (μ : T → ℕ) (f : T → Tree) → ((x : T) → μ x ≤ tree_size (f x) + 2) → (s : FnDeclOf T) → (weighed-Stmt-kind-at-532).weight T μ s ≤ tree_size (view_fn_decl f s)
stmt_532 μ f h s = omega (arith, stmt_530 μ f h s.function.value)

stmt_544 : {T : Type 0} (μ : T → ℕ) (f : T → Tree) → ((x : T) → μ x ≤ tree_size (f x) + 2) → (s : Option (Child T ExprTag)) → (weighed-Stmt-kind-at-544).weight T μ s ≤ tree_size (part_by (λ x. f x.part.value) s) + 2
stmt_544 μ f h None = omega arith
stmt_544 μ f h (Some x) = omega (arith, h x.part.value)

stmt_545 : {T : Type 0} (μ : T → ℕ) (f : T → Tree) → ((x : T) → μ x ≤ tree_size (f x) + 2) → (s : VarDeclaratorOf T) → (weighed-Stmt-kind-at-545).weight T μ s ≤ tree_size (view_var_declarator f s)
stmt_545 μ f h s = omega (arith, h s.name.part.value, stmt_544 μ f h s.init)

stmt_547 : {T : Type 0} (μ : T → ℕ) (f : T → Tree) → ((x : T) → μ x ≤ tree_size (f x) + 2) → (s : VarDeclOf T) → (weighed-Stmt-kind-at-547).weight T μ s ≤ tree_size (view_var_decl f s)
stmt_547 μ f h s = omega (arith, most_le (λ x. (weighed-Stmt-kind-at-545).weight _ μ x) (view_var_declarator f) (λ x. omega (arith, stmt_545 μ f h x)) s.decls.items)

stmt_559 : {T : Type 0} (μ : T → ℕ) (f : T → Tree) → ((x : T) → μ x ≤ tree_size (f x) + 2) → (s : Option (Child T ExprTag)) → (weighed-Stmt-kind-at-559).weight T μ s ≤ tree_size (part_by (λ x. f x.part.value) s) + 2
stmt_559 μ f h None = omega arith
stmt_559 μ f h (Some x) = omega (arith, h x.part.value)

stmt_560 : {T : Type 0} (μ : T → ℕ) (f : T → Tree) → ((x : T) → μ x ≤ tree_size (f x) + 2) → (s : VarDeclaratorOf T) → (weighed-Stmt-kind-at-560).weight T μ s ≤ tree_size (view_var_declarator f s)
stmt_560 μ f h s = omega (arith, h s.name.part.value, stmt_559 μ f h s.init)

stmt_562 : {T : Type 0} (μ : T → ℕ) (f : T → Tree) → ((x : T) → μ x ≤ tree_size (f x) + 2) → (s : UsingDeclOf T) → (weighed-Stmt-kind-at-562).weight T μ s ≤ tree_size (view_using_decl f s)
stmt_562 μ f h s = omega (arith, most_le (λ x. (weighed-Stmt-kind-at-560).weight _ μ x) (view_var_declarator f) (λ x. omega (arith, stmt_560 μ f h x)) s.decls.items)

stmt_563 : {T : Type 0} (μ : T → ℕ) (f : T → Tree) → ((x : T) → μ x ≤ tree_size (f x) + 2) → (s : DeclOf T) → (weighed-Stmt-kind-at-563).weight T μ s ≤ tree_size (view_decl f s)
stmt_563 μ f h (Decl.Class x) = omega (arith, stmt_496 μ f h x)
stmt_563 μ f h (Decl.Fn x) = omega (arith, stmt_532 μ f h x)
stmt_563 μ f h (Decl.Var x) = omega (arith, stmt_547 μ f h x)
stmt_563 μ f h (Decl.Using x) = omega (arith, stmt_562 μ f h x)

stmt_569 : {T : Type 0} (μ : T → ℕ) (f : T → Tree) → ((x : T) → μ x ≤ tree_size (f x) + 2) → (s : ExprStmtOf T) → (weighed-Stmt-kind-at-569).weight T μ s ≤ tree_size (view_expr_stmt f s)
stmt_569 μ f h s = omega (arith, h s.expr.part.value)

stmt_570 : {T : Type 0} (μ : T → ℕ) (f : T → Tree) → ((x : T) → μ x ≤ tree_size (f x) + 2) → (s : StmtKindOf T) → (weighed-Stmt-kind-at-570).weight T μ s ≤ tree_size (view_stmt_kind f s)
stmt_570 μ f h (StmtKind.Block x) = omega (arith, stmt_6 μ f h x)
stmt_570 μ f h (StmtKind.Empty x) = omega arith
stmt_570 μ f h (StmtKind.Debugger x) = omega arith
stmt_570 μ f h (StmtKind.With x) = omega (arith, stmt_18 μ f h x)
stmt_570 μ f h (StmtKind.Return x) = omega (arith, stmt_25 μ f h x)
stmt_570 μ f h (StmtKind.Labeled x) = omega (arith, stmt_32 μ f h x)
stmt_570 μ f h (StmtKind.Break x) = omega arith
stmt_570 μ f h (StmtKind.Continue x) = omega arith
stmt_570 μ f h (StmtKind.If x) = omega (arith, stmt_49 μ f h x)
stmt_570 μ f h (StmtKind.Switch x) = omega (arith, stmt_68 μ f h x)
stmt_570 μ f h (StmtKind.Throw x) = omega (arith, stmt_74 μ f h x)
stmt_570 μ f h (StmtKind.Try x) = omega (arith, stmt_106 μ f h x.value)
stmt_570 μ f h (StmtKind.While x) = omega (arith, stmt_117 μ f h x)
stmt_570 μ f h (StmtKind.DoWhile x) = omega (arith, stmt_127 μ f h x)
stmt_570 μ f h (StmtKind.For x) = omega (arith, stmt_181 μ f h x)
stmt_570 μ f h (StmtKind.ForIn x) = omega (arith, stmt_228 μ f h x)
stmt_570 μ f h (StmtKind.ForOf x) = omega (arith, stmt_276 μ f h x)
stmt_570 μ f h (StmtKind.Decl x) = omega (arith, stmt_563 μ f h x)
stmt_570 μ f h (StmtKind.Expr x) = omega (arith, stmt_569 μ f h x)

pat_6 : {T : Type 0} (μ : T → ℕ) (f : T → Tree) → ((x : T) → μ x ≤ tree_size (f x) + 2) → (s : Option (Child T PatTag)) → (weighed-Pat-kind-at-6).weight T μ s ≤ tree_size (element_by (λ x. f x.part.value) s) + 2
pat_6 μ f h None = omega arith
pat_6 μ f h (Some x) = omega (arith, h x.part.value)

pat_8 : {T : Type 0} (μ : T → ℕ) (f : T → Tree) → ((x : T) → μ x ≤ tree_size (f x) + 2) → (s : ArrayPatOf T) → (weighed-Pat-kind-at-8).weight T μ s ≤ tree_size (view_array_pat f s)
pat_8 μ f h s = omega (arith, most_le (λ x. (weighed-Pat-kind-at-6).weight _ μ x) (λ x. element_by (λ x. f x.part.value) x) (λ x. omega (arith, pat_6 μ f h x)) s.elems.items)

pat_15 : {T : Type 0} (μ : T → ℕ) (f : T → Tree) → ((x : T) → μ x ≤ tree_size (f x) + 2) → (s : RestPatOf T) → (weighed-Pat-kind-at-15).weight T μ s ≤ tree_size (view_rest_pat f s)
pat_15 μ f h s = omega (arith, h s.arg.part.value)

pat_27 : {T : Type 0} (μ : T → ℕ) (f : T → Tree) → ((x : T) → μ x ≤ tree_size (f x) + 2) → (s : ComputedPropNameOf T) → (weighed-Pat-kind-at-27).weight T μ s ≤ tree_size (view_computed_prop_name f s)
pat_27 μ f h s = omega (arith, h s.expr.part.value)

pat_28 : {T : Type 0} (μ : T → ℕ) (f : T → Tree) → ((x : T) → μ x ≤ tree_size (f x) + 2) → (s : PropNameOf T) → (weighed-Pat-kind-at-28).weight T μ s ≤ tree_size (view_prop_name f s)
pat_28 μ f h (PropName.Ident x) = omega arith
pat_28 μ f h (PropName.Str x) = omega arith
pat_28 μ f h (PropName.Num x) = omega arith
pat_28 μ f h (PropName.BigInt x) = omega arith
pat_28 μ f h (PropName.Computed x) = omega (arith, pat_27 μ f h x)

pat_33 : {T : Type 0} (μ : T → ℕ) (f : T → Tree) → ((x : T) → μ x ≤ tree_size (f x) + 2) → (s : KeyValuePatPropOf T) → (weighed-Pat-kind-at-33).weight T μ s ≤ tree_size (view_key_value_pat_prop f s)
pat_33 μ f h s = omega (arith, pat_28 μ f h s.key, h s.value.part.value)

pat_40 : {T : Type 0} (μ : T → ℕ) (f : T → Tree) → ((x : T) → μ x ≤ tree_size (f x) + 2) → (s : Option (Child T ExprTag)) → (weighed-Pat-kind-at-40).weight T μ s ≤ tree_size (part_by (λ x. f x.part.value) s) + 2
pat_40 μ f h None = omega arith
pat_40 μ f h (Some x) = omega (arith, h x.part.value)

pat_41 : {T : Type 0} (μ : T → ℕ) (f : T → Tree) → ((x : T) → μ x ≤ tree_size (f x) + 2) → (s : AssignPatPropOf T) → (weighed-Pat-kind-at-41).weight T μ s ≤ tree_size (view_assign_pat_prop f s)
pat_41 μ f h s = omega (arith, pat_40 μ f h s.value)

pat_48 : {T : Type 0} (μ : T → ℕ) (f : T → Tree) → ((x : T) → μ x ≤ tree_size (f x) + 2) → (s : RestPatOf T) → (weighed-Pat-kind-at-48).weight T μ s ≤ tree_size (view_rest_pat f s)
pat_48 μ f h s = omega (arith, h s.arg.part.value)

pat_49 : {T : Type 0} (μ : T → ℕ) (f : T → Tree) → ((x : T) → μ x ≤ tree_size (f x) + 2) → (s : ObjectPatPropOf T) → (weighed-Pat-kind-at-49).weight T μ s ≤ tree_size (view_object_pat_prop f s)
pat_49 μ f h (ObjectPatProp.KeyValue x) = omega (arith, pat_33 μ f h x)
pat_49 μ f h (ObjectPatProp.Assign x) = omega (arith, pat_41 μ f h x)
pat_49 μ f h (ObjectPatProp.Rest x) = omega (arith, pat_48 μ f h x)

pat_51 : {T : Type 0} (μ : T → ℕ) (f : T → Tree) → ((x : T) → μ x ≤ tree_size (f x) + 2) → (s : ObjectPatOf T) → (weighed-Pat-kind-at-51).weight T μ s ≤ tree_size (view_object_pat f s)
pat_51 μ f h s = omega (arith, most_le (λ x. (weighed-Pat-kind-at-49).weight _ μ x) (view_object_pat_prop f) (λ x. omega (arith, pat_49 μ f h x)) s.props.items)

pat_61 : {T : Type 0} (μ : T → ℕ) (f : T → Tree) → ((x : T) → μ x ≤ tree_size (f x) + 2) → (s : AssignPatOf T) → (weighed-Pat-kind-at-61).weight T μ s ≤ tree_size (view_assign_pat f s)
pat_61 μ f h s = omega (arith, h s.left.part.value, h s.right.part.value)

pat_67 : {T : Type 0} (μ : T → ℕ) (f : T → Tree) → ((x : T) → μ x ≤ tree_size (f x) + 2) → (s : PatKindOf T) → (weighed-Pat-kind-at-67).weight T μ s ≤ tree_size (view_pat_kind f s)
pat_67 μ f h (PatKind.Ident x) = omega arith
pat_67 μ f h (PatKind.Array x) = omega (arith, pat_8 μ f h x)
pat_67 μ f h (PatKind.Rest x) = omega (arith, pat_15 μ f h x)
pat_67 μ f h (PatKind.Object x) = omega (arith, pat_51 μ f h x)
pat_67 μ f h (PatKind.Assign x) = omega (arith, pat_61 μ f h x)
pat_67 μ f h (PatKind.Expr x) = omega (arith, h x.part.value)
pat_67 μ f h (PatKind.Invalid x) = omega arith

pub part_falls : (k : PartKind) → deep-Part (record { sort = k }) ≤ placed_size (part_tree k)
part_falls (PartKind.Expr x) = omega arith
part_falls (PartKind.Stmt x) = omega arith
part_falls (PartKind.Pat x) = omega arith

pub expr_falls : (k : ExprKindOf Part) → deep-Expr (record { kind = k }) ≤ tree_size (view_expr_kind inner k)
expr_falls k = omega (arith, expr_723 (λ p. placed_size p + 1) inner (λ x. omega arith) k)

pub stmt_falls : (k : StmtKindOf Part) → deep-Stmt (record { kind = k }) ≤ tree_size (view_stmt_kind inner k)
stmt_falls k = omega (arith, stmt_570 (λ p. placed_size p + 1) inner (λ x. omega arith) k)

pub pat_falls : (k : PatKindOf Part) → deep-Pat (record { kind = k }) ≤ tree_size (view_pat_kind inner k)
pat_falls k = omega (arith, pat_67 (λ p. placed_size p + 1) inner (λ x. omega arith) k)
