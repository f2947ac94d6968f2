-- Written by tools/tree/same.py from tools/tree/tree.table. Don't edit this file.
-- Two trees of one kind are the same program where their fields are.
use Rattle.std.proofs.Common.{◌≡◌, ℕ, Bool, true, ◌&&◌, nat_eq, List, Option, bytes_eq, refl}
use Rattle.std.proofs.Math.Bool.{beq}
use Rattle.base_token.specs.declared.place.Span.{Span}
use Rattle.tree_program_spec.specs.Equal.{equal_text}
use Rattle.tree_program_spec.specs.Same.{same}
use Rattle.tree_same.specs.Compared.{same_keys, same_arguments}
use Rattle.tree_spec.specs.Tree.{Tree, Trees, script, es_module, import_decl, export_decl, named_export, export_default_decl, export_default_expr, export_all, import_named_specifier, import_default_specifier, import_star_as_specifier, export_namespace_specifier, export_default_specifier, export_named_specifier, block_stmt, empty_stmt, debugger_stmt, with_stmt, return_stmt, labeled_stmt, break_stmt, continue_stmt, if_stmt, switch_stmt, switch_case, throw_stmt, try_stmt, catch_clause, while_stmt, do_while_stmt, for_stmt, for_in_stmt, for_of_stmt, class_decl, fn_decl, var_decl, using_decl, var_declarator, function, param, decorator, class, constructor, class_method, private_method, class_prop, private_prop, static_block, auto_accessor, ident_name, computed_prop_name, private_name, this_expr, array_lit, object_lit, fn_expr, unary_expr, update_expr, bin_expr, assign_expr, member_expr, super_prop_expr, cond_expr, call_expr, new_expr, seq_expr, ident, tpl, tpl_element, arrow_expr, class_expr, yield_expr, meta_prop_expr, await_expr, paren_expr, opt_chain_expr, opt_call, super, import, invalid, spread_element, key_value_prop, assign_prop, getter_prop, setter_prop, method_prop, bool_lit, null_lit, regex_lit, binding_ident, array_pat, rest_pat, object_pat, assign_pat, key_value_pat_prop, assign_pat_prop, list}

pub script_rule : (span span2 : Span) (body body2 : Trees) (shebang shebang2 : Option (List ℕ)) → same (script span body shebang) (script span2 body2 shebang2) ≡ (same (list body) (list body2) && equal_text shebang shebang2)
unfolding same same_keys same_arguments
script_rule span span2 body body2 shebang shebang2 = refl

pub es_module_rule : (span span2 : Span) (body body2 : Trees) (shebang shebang2 : Option (List ℕ)) → same (es_module span body shebang) (es_module span2 body2 shebang2) ≡ (same (list body) (list body2) && equal_text shebang shebang2)
unfolding same same_keys same_arguments
es_module_rule span span2 body body2 shebang shebang2 = refl

pub import_decl_rule : (span span2 : Span) (specifiers specifiers2 : Trees) (src src2 : Tree) (with_ with_2 : Tree) → same (import_decl span specifiers src with_) (import_decl span2 specifiers2 src2 with_2) ≡ (same (list specifiers) (list specifiers2) && (same src src2 && same with_ with_2))
unfolding same same_keys same_arguments
import_decl_rule span span2 specifiers specifiers2 src src2 with_ with_2 = refl

pub export_decl_rule : (span span2 : Span) (decl decl2 : Tree) → same (export_decl span decl) (export_decl span2 decl2) ≡ (same decl decl2)
unfolding same same_keys same_arguments
export_decl_rule span span2 decl decl2 = refl

pub named_export_rule : (span span2 : Span) (specifiers specifiers2 : Trees) (src src2 : Tree) (with_ with_2 : Tree) → same (named_export span specifiers src with_) (named_export span2 specifiers2 src2 with_2) ≡ (same (list specifiers) (list specifiers2) && (same src src2 && same with_ with_2))
unfolding same same_keys same_arguments
named_export_rule span span2 specifiers specifiers2 src src2 with_ with_2 = refl

pub export_default_decl_rule : (span span2 : Span) (decl decl2 : Tree) → same (export_default_decl span decl) (export_default_decl span2 decl2) ≡ (same decl decl2)
unfolding same same_keys same_arguments
export_default_decl_rule span span2 decl decl2 = refl

pub export_default_expr_rule : (span span2 : Span) (expr expr2 : Tree) → same (export_default_expr span expr) (export_default_expr span2 expr2) ≡ (same expr expr2)
unfolding same same_keys same_arguments
export_default_expr_rule span span2 expr expr2 = refl

pub export_all_rule : (span span2 : Span) (src src2 : Tree) (with_ with_2 : Tree) → same (export_all span src with_) (export_all span2 src2 with_2) ≡ (same src src2 && same with_ with_2)
unfolding same same_keys same_arguments
export_all_rule span span2 src src2 with_ with_2 = refl

pub import_named_specifier_rule : (span span2 : Span) (local local2 : Tree) (imported imported2 : Tree) → same (import_named_specifier span local imported) (import_named_specifier span2 local2 imported2) ≡ (same local local2 && same imported imported2)
unfolding same same_keys same_arguments
import_named_specifier_rule span span2 local local2 imported imported2 = refl

pub import_default_specifier_rule : (span span2 : Span) (local local2 : Tree) → same (import_default_specifier span local) (import_default_specifier span2 local2) ≡ (same local local2)
unfolding same same_keys same_arguments
import_default_specifier_rule span span2 local local2 = refl

pub import_star_as_specifier_rule : (span span2 : Span) (local local2 : Tree) → same (import_star_as_specifier span local) (import_star_as_specifier span2 local2) ≡ (same local local2)
unfolding same same_keys same_arguments
import_star_as_specifier_rule span span2 local local2 = refl

pub export_namespace_specifier_rule : (span span2 : Span) (name name2 : Tree) → same (export_namespace_specifier span name) (export_namespace_specifier span2 name2) ≡ (same name name2)
unfolding same same_keys same_arguments
export_namespace_specifier_rule span span2 name name2 = refl

pub export_default_specifier_rule : (span span2 : Span) (exported exported2 : Tree) → same (export_default_specifier span exported) (export_default_specifier span2 exported2) ≡ (same exported exported2)
unfolding same same_keys same_arguments
export_default_specifier_rule span span2 exported exported2 = refl

pub export_named_specifier_rule : (span span2 : Span) (orig orig2 : Tree) (exported exported2 : Tree) → same (export_named_specifier span orig exported) (export_named_specifier span2 orig2 exported2) ≡ (same orig orig2 && same exported exported2)
unfolding same same_keys same_arguments
export_named_specifier_rule span span2 orig orig2 exported exported2 = refl

pub block_stmt_rule : (span span2 : Span) (stmts stmts2 : Trees) → same (block_stmt span stmts) (block_stmt span2 stmts2) ≡ (same (list stmts) (list stmts2))
unfolding same same_keys same_arguments
block_stmt_rule span span2 stmts stmts2 = refl

pub empty_stmt_rule : (span span2 : Span) → same (empty_stmt span) (empty_stmt span2) ≡ (true)
unfolding same same_keys same_arguments
empty_stmt_rule span span2 = refl

pub debugger_stmt_rule : (span span2 : Span) → same (debugger_stmt span) (debugger_stmt span2) ≡ (true)
unfolding same same_keys same_arguments
debugger_stmt_rule span span2 = refl

pub with_stmt_rule : (span span2 : Span) (obj obj2 : Tree) (body body2 : Tree) → same (with_stmt span obj body) (with_stmt span2 obj2 body2) ≡ (same obj obj2 && same body body2)
unfolding same same_keys same_arguments
with_stmt_rule span span2 obj obj2 body body2 = refl

pub return_stmt_rule : (span span2 : Span) (arg arg2 : Tree) → same (return_stmt span arg) (return_stmt span2 arg2) ≡ (same arg arg2)
unfolding same same_keys same_arguments
return_stmt_rule span span2 arg arg2 = refl

pub labeled_stmt_rule : (span span2 : Span) (label label2 : Tree) (body body2 : Tree) → same (labeled_stmt span label body) (labeled_stmt span2 label2 body2) ≡ (same label label2 && same body body2)
unfolding same same_keys same_arguments
labeled_stmt_rule span span2 label label2 body body2 = refl

pub break_stmt_rule : (span span2 : Span) (label label2 : Tree) → same (break_stmt span label) (break_stmt span2 label2) ≡ (same label label2)
unfolding same same_keys same_arguments
break_stmt_rule span span2 label label2 = refl

pub continue_stmt_rule : (span span2 : Span) (label label2 : Tree) → same (continue_stmt span label) (continue_stmt span2 label2) ≡ (same label label2)
unfolding same same_keys same_arguments
continue_stmt_rule span span2 label label2 = refl

pub if_stmt_rule : (span span2 : Span) (test test2 : Tree) (cons cons2 : Tree) (alt alt2 : Tree) → same (if_stmt span test cons alt) (if_stmt span2 test2 cons2 alt2) ≡ (same test test2 && (same cons cons2 && same alt alt2))
unfolding same same_keys same_arguments
if_stmt_rule span span2 test test2 cons cons2 alt alt2 = refl

pub switch_stmt_rule : (span span2 : Span) (discriminant discriminant2 : Tree) (cases cases2 : Trees) → same (switch_stmt span discriminant cases) (switch_stmt span2 discriminant2 cases2) ≡ (same discriminant discriminant2 && same (list cases) (list cases2))
unfolding same same_keys same_arguments
switch_stmt_rule span span2 discriminant discriminant2 cases cases2 = refl

pub switch_case_rule : (span span2 : Span) (test test2 : Tree) (cons cons2 : Trees) → same (switch_case span test cons) (switch_case span2 test2 cons2) ≡ (same test test2 && same (list cons) (list cons2))
unfolding same same_keys same_arguments
switch_case_rule span span2 test test2 cons cons2 = refl

pub throw_stmt_rule : (span span2 : Span) (arg arg2 : Tree) → same (throw_stmt span arg) (throw_stmt span2 arg2) ≡ (same arg arg2)
unfolding same same_keys same_arguments
throw_stmt_rule span span2 arg arg2 = refl

pub try_stmt_rule : (span span2 : Span) (block block2 : Tree) (handler handler2 : Tree) (finalizer finalizer2 : Tree) → same (try_stmt span block handler finalizer) (try_stmt span2 block2 handler2 finalizer2) ≡ (same block block2 && (same handler handler2 && same finalizer finalizer2))
unfolding same same_keys same_arguments
try_stmt_rule span span2 block block2 handler handler2 finalizer finalizer2 = refl

pub catch_clause_rule : (span span2 : Span) (param_ param_2 : Tree) (body body2 : Tree) → same (catch_clause span param_ body) (catch_clause span2 param_2 body2) ≡ (same param_ param_2 && same body body2)
unfolding same same_keys same_arguments
catch_clause_rule span span2 param_ param_2 body body2 = refl

pub while_stmt_rule : (span span2 : Span) (test test2 : Tree) (body body2 : Tree) → same (while_stmt span test body) (while_stmt span2 test2 body2) ≡ (same test test2 && same body body2)
unfolding same same_keys same_arguments
while_stmt_rule span span2 test test2 body body2 = refl

pub do_while_stmt_rule : (span span2 : Span) (test test2 : Tree) (body body2 : Tree) → same (do_while_stmt span test body) (do_while_stmt span2 test2 body2) ≡ (same test test2 && same body body2)
unfolding same same_keys same_arguments
do_while_stmt_rule span span2 test test2 body body2 = refl

pub for_stmt_rule : (span span2 : Span) (init init2 : Tree) (test test2 : Tree) (update update2 : Tree) (body body2 : Tree) → same (for_stmt span init test update body) (for_stmt span2 init2 test2 update2 body2) ≡ (same init init2 && (same test test2 && (same update update2 && same body body2)))
unfolding same same_keys same_arguments
for_stmt_rule span span2 init init2 test test2 update update2 body body2 = refl

pub for_in_stmt_rule : (span span2 : Span) (left left2 : Tree) (right right2 : Tree) (body body2 : Tree) → same (for_in_stmt span left right body) (for_in_stmt span2 left2 right2 body2) ≡ (same left left2 && (same right right2 && same body body2))
unfolding same same_keys same_arguments
for_in_stmt_rule span span2 left left2 right right2 body body2 = refl

pub for_of_stmt_rule : (span span2 : Span) (is_await is_await2 : Bool) (left left2 : Tree) (right right2 : Tree) (body body2 : Tree) → same (for_of_stmt span is_await left right body) (for_of_stmt span2 is_await2 left2 right2 body2) ≡ (beq is_await is_await2 && (same left left2 && (same right right2 && same body body2)))
unfolding same same_keys same_arguments
for_of_stmt_rule span span2 is_await is_await2 left left2 right right2 body body2 = refl

pub class_decl_rule : (span span2 : Span) (ident_ ident_2 : Tree) (class_ class_2 : Tree) → same (class_decl span ident_ class_) (class_decl span2 ident_2 class_2) ≡ (same ident_ ident_2 && same class_ class_2)
unfolding same same_keys same_arguments
class_decl_rule span span2 ident_ ident_2 class_ class_2 = refl

pub fn_decl_rule : (span span2 : Span) (ident_ ident_2 : Tree) (function_ function_2 : Tree) → same (fn_decl span ident_ function_) (fn_decl span2 ident_2 function_2) ≡ (same ident_ ident_2 && same function_ function_2)
unfolding same same_keys same_arguments
fn_decl_rule span span2 ident_ ident_2 function_ function_2 = refl

pub var_decl_rule : (span span2 : Span) (kind kind2 : ℕ) (decls decls2 : Trees) → same (var_decl span kind decls) (var_decl span2 kind2 decls2) ≡ (nat_eq kind kind2 && same (list decls) (list decls2))
unfolding same same_keys same_arguments
var_decl_rule span span2 kind kind2 decls decls2 = refl

pub using_decl_rule : (span span2 : Span) (is_await is_await2 : Bool) (decls decls2 : Trees) → same (using_decl span is_await decls) (using_decl span2 is_await2 decls2) ≡ (beq is_await is_await2 && same (list decls) (list decls2))
unfolding same same_keys same_arguments
using_decl_rule span span2 is_await is_await2 decls decls2 = refl

pub var_declarator_rule : (span span2 : Span) (name name2 : Tree) (init init2 : Tree) → same (var_declarator span name init) (var_declarator span2 name2 init2) ≡ (same name name2 && same init init2)
unfolding same same_keys same_arguments
var_declarator_rule span span2 name name2 init init2 = refl

pub function_rule : (span span2 : Span) (params params2 : Trees) (decorators decorators2 : Trees) (body body2 : Tree) (is_generator is_generator2 : Bool) (is_async is_async2 : Bool) → same (function span params decorators body is_generator is_async) (function span2 params2 decorators2 body2 is_generator2 is_async2) ≡ (same (list params) (list params2) && (same (list decorators) (list decorators2) && (same body body2 && (beq is_generator is_generator2 && beq is_async is_async2))))
unfolding same same_keys same_arguments
function_rule span span2 params params2 decorators decorators2 body body2 is_generator is_generator2 is_async is_async2 = refl

pub param_rule : (span span2 : Span) (decorators decorators2 : Trees) (pat pat2 : Tree) → same (param span decorators pat) (param span2 decorators2 pat2) ≡ (same (list decorators) (list decorators2) && same pat pat2)
unfolding same same_keys same_arguments
param_rule span span2 decorators decorators2 pat pat2 = refl

pub decorator_rule : (span span2 : Span) (expr expr2 : Tree) → same (decorator span expr) (decorator span2 expr2) ≡ (same expr expr2)
unfolding same same_keys same_arguments
decorator_rule span span2 expr expr2 = refl

pub class_rule : (span span2 : Span) (decorators decorators2 : Trees) (body body2 : Trees) (super_class super_class2 : Tree) → same (class span decorators body super_class) (class span2 decorators2 body2 super_class2) ≡ (same (list decorators) (list decorators2) && (same (list body) (list body2) && same super_class super_class2))
unfolding same same_keys same_arguments
class_rule span span2 decorators decorators2 body body2 super_class super_class2 = refl

pub constructor_rule : (span span2 : Span) (key key2 : Tree) (params params2 : Trees) (body body2 : Tree) → same (constructor span key params body) (constructor span2 key2 params2 body2) ≡ (same_keys key key2 && (same (list params) (list params2) && same body body2))
unfolding same same_keys same_arguments
constructor_rule span span2 key key2 params params2 body body2 = refl

pub class_method_rule : (span span2 : Span) (key key2 : Tree) (function_ function_2 : Tree) (kind kind2 : ℕ) (is_static is_static2 : Bool) → same (class_method span key function_ kind is_static) (class_method span2 key2 function_2 kind2 is_static2) ≡ (same_keys key key2 && (same function_ function_2 && (nat_eq kind kind2 && beq is_static is_static2)))
unfolding same same_keys same_arguments
class_method_rule span span2 key key2 function_ function_2 kind kind2 is_static is_static2 = refl

pub private_method_rule : (span span2 : Span) (key key2 : Tree) (function_ function_2 : Tree) (kind kind2 : ℕ) (is_static is_static2 : Bool) → same (private_method span key function_ kind is_static) (private_method span2 key2 function_2 kind2 is_static2) ≡ (same key key2 && (same function_ function_2 && (nat_eq kind kind2 && beq is_static is_static2)))
unfolding same same_keys same_arguments
private_method_rule span span2 key key2 function_ function_2 kind kind2 is_static is_static2 = refl

pub class_prop_rule : (span span2 : Span) (key key2 : Tree) (value value2 : Tree) (is_static is_static2 : Bool) (decorators decorators2 : Trees) → same (class_prop span key value is_static decorators) (class_prop span2 key2 value2 is_static2 decorators2) ≡ (same_keys key key2 && (same value value2 && (beq is_static is_static2 && same (list decorators) (list decorators2))))
unfolding same same_keys same_arguments
class_prop_rule span span2 key key2 value value2 is_static is_static2 decorators decorators2 = refl

pub private_prop_rule : (span span2 : Span) (key key2 : Tree) (value value2 : Tree) (is_static is_static2 : Bool) (decorators decorators2 : Trees) → same (private_prop span key value is_static decorators) (private_prop span2 key2 value2 is_static2 decorators2) ≡ (same key key2 && (same value value2 && (beq is_static is_static2 && same (list decorators) (list decorators2))))
unfolding same same_keys same_arguments
private_prop_rule span span2 key key2 value value2 is_static is_static2 decorators decorators2 = refl

pub static_block_rule : (span span2 : Span) (body body2 : Tree) → same (static_block span body) (static_block span2 body2) ≡ (same body body2)
unfolding same same_keys same_arguments
static_block_rule span span2 body body2 = refl

pub auto_accessor_rule : (span span2 : Span) (key key2 : Tree) (value value2 : Tree) (is_static is_static2 : Bool) (decorators decorators2 : Trees) → same (auto_accessor span key value is_static decorators) (auto_accessor span2 key2 value2 is_static2 decorators2) ≡ (same_keys key key2 && (same value value2 && (beq is_static is_static2 && same (list decorators) (list decorators2))))
unfolding same same_keys same_arguments
auto_accessor_rule span span2 key key2 value value2 is_static is_static2 decorators decorators2 = refl

pub ident_name_rule : (span span2 : Span) (sym sym2 : List ℕ) → same (ident_name span sym) (ident_name span2 sym2) ≡ (bytes_eq sym sym2)
unfolding same same_keys same_arguments
ident_name_rule span span2 sym sym2 = refl

pub computed_prop_name_rule : (span span2 : Span) (expr expr2 : Tree) → same (computed_prop_name span expr) (computed_prop_name span2 expr2) ≡ (same expr expr2)
unfolding same same_keys same_arguments
computed_prop_name_rule span span2 expr expr2 = refl

pub private_name_rule : (span span2 : Span) (name name2 : List ℕ) → same (private_name span name) (private_name span2 name2) ≡ (bytes_eq name name2)
unfolding same same_keys same_arguments
private_name_rule span span2 name name2 = refl

pub this_expr_rule : (span span2 : Span) → same (this_expr span) (this_expr span2) ≡ (true)
unfolding same same_keys same_arguments
this_expr_rule span span2 = refl

pub array_lit_rule : (span span2 : Span) (elems elems2 : Trees) → same (array_lit span elems) (array_lit span2 elems2) ≡ (same (list elems) (list elems2))
unfolding same same_keys same_arguments
array_lit_rule span span2 elems elems2 = refl

pub object_lit_rule : (span span2 : Span) (props props2 : Trees) → same (object_lit span props) (object_lit span2 props2) ≡ (same (list props) (list props2))
unfolding same same_keys same_arguments
object_lit_rule span span2 props props2 = refl

pub fn_expr_rule : (span span2 : Span) (ident_ ident_2 : Tree) (function_ function_2 : Tree) → same (fn_expr span ident_ function_) (fn_expr span2 ident_2 function_2) ≡ (same ident_ ident_2 && same function_ function_2)
unfolding same same_keys same_arguments
fn_expr_rule span span2 ident_ ident_2 function_ function_2 = refl

pub unary_expr_rule : (span span2 : Span) (op op2 : ℕ) (arg arg2 : Tree) → same (unary_expr span op arg) (unary_expr span2 op2 arg2) ≡ (nat_eq op op2 && same arg arg2)
unfolding same same_keys same_arguments
unary_expr_rule span span2 op op2 arg arg2 = refl

pub update_expr_rule : (span span2 : Span) (op op2 : ℕ) (prefix prefix2 : Bool) (arg arg2 : Tree) → same (update_expr span op prefix arg) (update_expr span2 op2 prefix2 arg2) ≡ (nat_eq op op2 && (beq prefix prefix2 && same arg arg2))
unfolding same same_keys same_arguments
update_expr_rule span span2 op op2 prefix prefix2 arg arg2 = refl

pub bin_expr_rule : (span span2 : Span) (op op2 : ℕ) (left left2 : Tree) (right right2 : Tree) → same (bin_expr span op left right) (bin_expr span2 op2 left2 right2) ≡ (nat_eq op op2 && (same left left2 && same right right2))
unfolding same same_keys same_arguments
bin_expr_rule span span2 op op2 left left2 right right2 = refl

pub assign_expr_rule : (span span2 : Span) (op op2 : ℕ) (left left2 : Tree) (right right2 : Tree) → same (assign_expr span op left right) (assign_expr span2 op2 left2 right2) ≡ (nat_eq op op2 && (same left left2 && same right right2))
unfolding same same_keys same_arguments
assign_expr_rule span span2 op op2 left left2 right right2 = refl

pub member_expr_rule : (span span2 : Span) (obj obj2 : Tree) (prop prop2 : Tree) → same (member_expr span obj prop) (member_expr span2 obj2 prop2) ≡ (same obj obj2 && same prop prop2)
unfolding same same_keys same_arguments
member_expr_rule span span2 obj obj2 prop prop2 = refl

pub super_prop_expr_rule : (span span2 : Span) (obj obj2 : Tree) (prop prop2 : Tree) → same (super_prop_expr span obj prop) (super_prop_expr span2 obj2 prop2) ≡ (same obj obj2 && same prop prop2)
unfolding same same_keys same_arguments
super_prop_expr_rule span span2 obj obj2 prop prop2 = refl

pub cond_expr_rule : (span span2 : Span) (test test2 : Tree) (cons cons2 : Tree) (alt alt2 : Tree) → same (cond_expr span test cons alt) (cond_expr span2 test2 cons2 alt2) ≡ (same test test2 && (same cons cons2 && same alt alt2))
unfolding same same_keys same_arguments
cond_expr_rule span span2 test test2 cons cons2 alt alt2 = refl

pub call_expr_rule : (span span2 : Span) (callee callee2 : Tree) (args args2 : Trees) → same (call_expr span callee args) (call_expr span2 callee2 args2) ≡ (same callee callee2 && same (list args) (list args2))
unfolding same same_keys same_arguments
call_expr_rule span span2 callee callee2 args args2 = refl

pub new_expr_rule : (span span2 : Span) (callee callee2 : Tree) (args args2 : Tree) → same (new_expr span callee args) (new_expr span2 callee2 args2) ≡ (same callee callee2 && same_arguments args args2)
unfolding same same_keys same_arguments
new_expr_rule span span2 callee callee2 args args2 = refl

pub seq_expr_rule : (span span2 : Span) (exprs exprs2 : Trees) → same (seq_expr span exprs) (seq_expr span2 exprs2) ≡ (same (list exprs) (list exprs2))
unfolding same same_keys same_arguments
seq_expr_rule span span2 exprs exprs2 = refl

pub ident_rule : (span span2 : Span) (sym sym2 : List ℕ) → same (ident span sym) (ident span2 sym2) ≡ (bytes_eq sym sym2)
unfolding same same_keys same_arguments
ident_rule span span2 sym sym2 = refl

pub tpl_rule : (span span2 : Span) (exprs exprs2 : Trees) (quasis quasis2 : Trees) → same (tpl span exprs quasis) (tpl span2 exprs2 quasis2) ≡ (same (list exprs) (list exprs2) && same (list quasis) (list quasis2))
unfolding same same_keys same_arguments
tpl_rule span span2 exprs exprs2 quasis quasis2 = refl

pub tpl_element_rule : (span span2 : Span) (tail tail2 : Bool) (raw raw2 : List ℕ) (cooked cooked2 : Option (List ℕ)) → same (tpl_element span tail raw cooked) (tpl_element span2 tail2 raw2 cooked2) ≡ (beq tail tail2 && equal_text cooked cooked2)
unfolding same same_keys same_arguments
tpl_element_rule span span2 tail tail2 raw raw2 cooked cooked2 = refl

pub arrow_expr_rule : (span span2 : Span) (params params2 : Trees) (body body2 : Tree) (is_async is_async2 : Bool) → same (arrow_expr span params body is_async) (arrow_expr span2 params2 body2 is_async2) ≡ (same (list params) (list params2) && (same body body2 && beq is_async is_async2))
unfolding same same_keys same_arguments
arrow_expr_rule span span2 params params2 body body2 is_async is_async2 = refl

pub class_expr_rule : (span span2 : Span) (ident_ ident_2 : Tree) (class_ class_2 : Tree) → same (class_expr span ident_ class_) (class_expr span2 ident_2 class_2) ≡ (same ident_ ident_2 && same class_ class_2)
unfolding same same_keys same_arguments
class_expr_rule span span2 ident_ ident_2 class_ class_2 = refl

pub yield_expr_rule : (span span2 : Span) (arg arg2 : Tree) (delegate delegate2 : Bool) → same (yield_expr span arg delegate) (yield_expr span2 arg2 delegate2) ≡ (same arg arg2 && beq delegate delegate2)
unfolding same same_keys same_arguments
yield_expr_rule span span2 arg arg2 delegate delegate2 = refl

pub meta_prop_expr_rule : (span span2 : Span) (kind kind2 : ℕ) → same (meta_prop_expr span kind) (meta_prop_expr span2 kind2) ≡ (nat_eq kind kind2)
unfolding same same_keys same_arguments
meta_prop_expr_rule span span2 kind kind2 = refl

pub await_expr_rule : (span span2 : Span) (arg arg2 : Tree) → same (await_expr span arg) (await_expr span2 arg2) ≡ (same arg arg2)
unfolding same same_keys same_arguments
await_expr_rule span span2 arg arg2 = refl

pub paren_expr_rule : (span span2 : Span) (expr expr2 : Tree) → same (paren_expr span expr) (paren_expr span2 expr2) ≡ (same expr expr2)
unfolding same same_keys same_arguments
paren_expr_rule span span2 expr expr2 = refl

pub opt_chain_expr_rule : (span span2 : Span) (optional optional2 : Bool) (base base2 : Tree) → same (opt_chain_expr span optional base) (opt_chain_expr span2 optional2 base2) ≡ (beq optional optional2 && same base base2)
unfolding same same_keys same_arguments
opt_chain_expr_rule span span2 optional optional2 base base2 = refl

pub opt_call_rule : (span span2 : Span) (callee callee2 : Tree) (args args2 : Trees) → same (opt_call span callee args) (opt_call span2 callee2 args2) ≡ (same callee callee2 && same (list args) (list args2))
unfolding same same_keys same_arguments
opt_call_rule span span2 callee callee2 args args2 = refl

pub super_rule : (span span2 : Span) → same (super span) (super span2) ≡ (true)
unfolding same same_keys same_arguments
super_rule span span2 = refl

pub import_rule : (span span2 : Span) → same (import span) (import span2) ≡ (true)
unfolding same same_keys same_arguments
import_rule span span2 = refl

pub invalid_rule : (span span2 : Span) → same (invalid span) (invalid span2) ≡ (true)
unfolding same same_keys same_arguments
invalid_rule span span2 = refl

pub spread_element_rule : (span span2 : Span) (expr expr2 : Tree) → same (spread_element span expr) (spread_element span2 expr2) ≡ (same expr expr2)
unfolding same same_keys same_arguments
spread_element_rule span span2 expr expr2 = refl

pub key_value_prop_rule : (span span2 : Span) (key key2 : Tree) (value value2 : Tree) → same (key_value_prop span key value) (key_value_prop span2 key2 value2) ≡ (same_keys key key2 && same value value2)
unfolding same same_keys same_arguments
key_value_prop_rule span span2 key key2 value value2 = refl

pub assign_prop_rule : (span span2 : Span) (key key2 : Tree) (value value2 : Tree) → same (assign_prop span key value) (assign_prop span2 key2 value2) ≡ (same key key2 && same value value2)
unfolding same same_keys same_arguments
assign_prop_rule span span2 key key2 value value2 = refl

pub getter_prop_rule : (span span2 : Span) (key key2 : Tree) (body body2 : Tree) → same (getter_prop span key body) (getter_prop span2 key2 body2) ≡ (same_keys key key2 && same body body2)
unfolding same same_keys same_arguments
getter_prop_rule span span2 key key2 body body2 = refl

pub setter_prop_rule : (span span2 : Span) (key key2 : Tree) (param_ param_2 : Tree) (body body2 : Tree) → same (setter_prop span key param_ body) (setter_prop span2 key2 param_2 body2) ≡ (same_keys key key2 && (same param_ param_2 && same body body2))
unfolding same same_keys same_arguments
setter_prop_rule span span2 key key2 param_ param_2 body body2 = refl

pub method_prop_rule : (span span2 : Span) (key key2 : Tree) (function_ function_2 : Tree) → same (method_prop span key function_) (method_prop span2 key2 function_2) ≡ (same_keys key key2 && same function_ function_2)
unfolding same same_keys same_arguments
method_prop_rule span span2 key key2 function_ function_2 = refl

pub bool_lit_rule : (span span2 : Span) (value value2 : Bool) → same (bool_lit span value) (bool_lit span2 value2) ≡ (beq value value2)
unfolding same same_keys same_arguments
bool_lit_rule span span2 value value2 = refl

pub null_lit_rule : (span span2 : Span) → same (null_lit span) (null_lit span2) ≡ (true)
unfolding same same_keys same_arguments
null_lit_rule span span2 = refl

pub regex_lit_rule : (span span2 : Span) (exp exp2 : List ℕ) (flags flags2 : List ℕ) → same (regex_lit span exp flags) (regex_lit span2 exp2 flags2) ≡ (bytes_eq exp exp2 && bytes_eq flags flags2)
unfolding same same_keys same_arguments
regex_lit_rule span span2 exp exp2 flags flags2 = refl

pub binding_ident_rule : (span span2 : Span) (id id2 : Tree) → same (binding_ident span id) (binding_ident span2 id2) ≡ (same id id2)
unfolding same same_keys same_arguments
binding_ident_rule span span2 id id2 = refl

pub array_pat_rule : (span span2 : Span) (elems elems2 : Trees) → same (array_pat span elems) (array_pat span2 elems2) ≡ (same (list elems) (list elems2))
unfolding same same_keys same_arguments
array_pat_rule span span2 elems elems2 = refl

pub rest_pat_rule : (span span2 : Span) (dot3_token dot3_token2 : Span) (arg arg2 : Tree) → same (rest_pat span dot3_token arg) (rest_pat span2 dot3_token2 arg2) ≡ (same arg arg2)
unfolding same same_keys same_arguments
rest_pat_rule span span2 dot3_token dot3_token2 arg arg2 = refl

pub object_pat_rule : (span span2 : Span) (props props2 : Trees) → same (object_pat span props) (object_pat span2 props2) ≡ (same (list props) (list props2))
unfolding same same_keys same_arguments
object_pat_rule span span2 props props2 = refl

pub assign_pat_rule : (span span2 : Span) (left left2 : Tree) (right right2 : Tree) → same (assign_pat span left right) (assign_pat span2 left2 right2) ≡ (same left left2 && same right right2)
unfolding same same_keys same_arguments
assign_pat_rule span span2 left left2 right right2 = refl

pub key_value_pat_prop_rule : (span span2 : Span) (key key2 : Tree) (value value2 : Tree) → same (key_value_pat_prop span key value) (key_value_pat_prop span2 key2 value2) ≡ (same_keys key key2 && same value value2)
unfolding same same_keys same_arguments
key_value_pat_prop_rule span span2 key key2 value value2 = refl

pub assign_pat_prop_rule : (span span2 : Span) (key key2 : Tree) (value value2 : Tree) → same (assign_pat_prop span key value) (assign_pat_prop span2 key2 value2) ≡ (same key key2 && same value value2)
unfolding same same_keys same_arguments
assign_pat_prop_rule span span2 key key2 value value2 = refl
