-- Written by tools/tree/equal.py from tools/tree/tree.table. Don't edit this file.
-- Whether two trees are equal, as a test: kind by kind, and field by field.
use Rattle.std.specs.Prelude.{ℕ, Bool, true, false, ◌&&◌, nat_eq, List, Option, Some, None, bytes_eq}
use Rattle.std.specs.Ordering.{int_eq}
use Rattle.std.proofs.Math.Bool.{beq}
use Rattle.base_token.specs.declared.place.Span.{Span}
use Rattle.base_number.specs.Numbers.{SpecNumber, Scaled, InRadix}
use Rattle.tree_spec.specs.Tree.{Tree, Trees, none, more, script, es_module, import_decl, export_decl, named_export, export_default_decl, export_default_expr, export_all, import_named_specifier, import_default_specifier, import_star_as_specifier, export_namespace_specifier, export_default_specifier, export_named_specifier, block_stmt, empty_stmt, debugger_stmt, with_stmt, return_stmt, labeled_stmt, break_stmt, continue_stmt, if_stmt, switch_stmt, switch_case, throw_stmt, try_stmt, catch_clause, while_stmt, do_while_stmt, for_stmt, for_in_stmt, for_of_stmt, expr_stmt, class_decl, fn_decl, var_decl, using_decl, var_declarator, function, param, decorator, class, constructor, class_method, private_method, class_prop, private_prop, static_block, auto_accessor, ident_name, computed_prop_name, private_name, this_expr, array_lit, object_lit, fn_expr, unary_expr, update_expr, bin_expr, assign_expr, member_expr, super_prop_expr, cond_expr, call_expr, new_expr, seq_expr, ident, tpl, tpl_element, tagged_tpl, arrow_expr, class_expr, yield_expr, meta_prop_expr, await_expr, paren_expr, opt_chain_expr, opt_call, super, import, invalid, expr_or_spread, spread_element, key_value_prop, assign_prop, getter_prop, setter_prop, method_prop, str_lit, bool_lit, null_lit, number_lit, big_int_lit, regex_lit, binding_ident, array_pat, rest_pat, object_pat, assign_pat, key_value_pat_prop, assign_pat_prop, expr_pat, invalid_pat, invalid_target, list, absent, hole}

abbrev pub equal_span : Span → Span → Bool
equal_span a b = nat_eq a.lo.0 b.lo.0 && nat_eq a.hi.0 b.hi.0

abbrev pub equal_place : Option Span → Option Span → Bool
equal_place None None = true
equal_place (Some a) (Some b) = equal_span a b
equal_place a b = false

abbrev pub equal_text : Option (List ℕ) → Option (List ℕ) → Bool
equal_text None None = true
equal_text (Some a) (Some b) = bytes_eq a b
equal_text a b = false

abbrev pub equal_number : SpecNumber → SpecNumber → Bool
equal_number (Scaled digits exponent) (Scaled digits2 exponent2) = bytes_eq digits digits2 && int_eq exponent exponent2
equal_number (InRadix radix digits) (InRadix radix2 digits2) = nat_eq radix radix2 && bytes_eq digits digits2
equal_number a b = false

abbrev mutual
  pub equal : Tree → Tree → Bool
  equal (script span body shebang) (script span2 body2 shebang2) = equal_span span span2 && (equal_all body body2 && equal_text shebang shebang2)
  equal (es_module span body shebang) (es_module span2 body2 shebang2) = equal_span span span2 && (equal_all body body2 && equal_text shebang shebang2)
  equal (import_decl span specifiers src with_) (import_decl span2 specifiers2 src2 with_2) = equal_span span span2 && (equal_all specifiers specifiers2 && (equal src src2 && equal with_ with_2))
  equal (export_decl span decl) (export_decl span2 decl2) = equal_span span span2 && equal decl decl2
  equal (named_export span specifiers src with_) (named_export span2 specifiers2 src2 with_2) = equal_span span span2 && (equal_all specifiers specifiers2 && (equal src src2 && equal with_ with_2))
  equal (export_default_decl span decl) (export_default_decl span2 decl2) = equal_span span span2 && equal decl decl2
  equal (export_default_expr span expr) (export_default_expr span2 expr2) = equal_span span span2 && equal expr expr2
  equal (export_all span src with_) (export_all span2 src2 with_2) = equal_span span span2 && (equal src src2 && equal with_ with_2)
  equal (import_named_specifier span local imported) (import_named_specifier span2 local2 imported2) = equal_span span span2 && (equal local local2 && equal imported imported2)
  equal (import_default_specifier span local) (import_default_specifier span2 local2) = equal_span span span2 && equal local local2
  equal (import_star_as_specifier span local) (import_star_as_specifier span2 local2) = equal_span span span2 && equal local local2
  equal (export_namespace_specifier span name) (export_namespace_specifier span2 name2) = equal_span span span2 && equal name name2
  equal (export_default_specifier span exported) (export_default_specifier span2 exported2) = equal_span span span2 && equal exported exported2
  equal (export_named_specifier span orig exported) (export_named_specifier span2 orig2 exported2) = equal_span span span2 && (equal orig orig2 && equal exported exported2)
  equal (block_stmt span stmts) (block_stmt span2 stmts2) = equal_span span span2 && equal_all stmts stmts2
  equal (empty_stmt span) (empty_stmt span2) = equal_span span span2
  equal (debugger_stmt span) (debugger_stmt span2) = equal_span span span2
  equal (with_stmt span obj body) (with_stmt span2 obj2 body2) = equal_span span span2 && (equal obj obj2 && equal body body2)
  equal (return_stmt span arg) (return_stmt span2 arg2) = equal_span span span2 && equal arg arg2
  equal (labeled_stmt span label body) (labeled_stmt span2 label2 body2) = equal_span span span2 && (equal label label2 && equal body body2)
  equal (break_stmt span label) (break_stmt span2 label2) = equal_span span span2 && equal label label2
  equal (continue_stmt span label) (continue_stmt span2 label2) = equal_span span span2 && equal label label2
  equal (if_stmt span test cons alt) (if_stmt span2 test2 cons2 alt2) = equal_span span span2 && (equal test test2 && (equal cons cons2 && equal alt alt2))
  equal (switch_stmt span discriminant cases) (switch_stmt span2 discriminant2 cases2) = equal_span span span2 && (equal discriminant discriminant2 && equal_all cases cases2)
  equal (switch_case span test cons) (switch_case span2 test2 cons2) = equal_span span span2 && (equal test test2 && equal_all cons cons2)
  equal (throw_stmt span arg) (throw_stmt span2 arg2) = equal_span span span2 && equal arg arg2
  equal (try_stmt span block handler finalizer) (try_stmt span2 block2 handler2 finalizer2) = equal_span span span2 && (equal block block2 && (equal handler handler2 && equal finalizer finalizer2))
  equal (catch_clause span param_ body) (catch_clause span2 param_2 body2) = equal_span span span2 && (equal param_ param_2 && equal body body2)
  equal (while_stmt span test body) (while_stmt span2 test2 body2) = equal_span span span2 && (equal test test2 && equal body body2)
  equal (do_while_stmt span test body) (do_while_stmt span2 test2 body2) = equal_span span span2 && (equal test test2 && equal body body2)
  equal (for_stmt span init test update body) (for_stmt span2 init2 test2 update2 body2) = equal_span span span2 && (equal init init2 && (equal test test2 && (equal update update2 && equal body body2)))
  equal (for_in_stmt span left right body) (for_in_stmt span2 left2 right2 body2) = equal_span span span2 && (equal left left2 && (equal right right2 && equal body body2))
  equal (for_of_stmt span is_await left right body) (for_of_stmt span2 is_await2 left2 right2 body2) = equal_span span span2 && (beq is_await is_await2 && (equal left left2 && (equal right right2 && equal body body2)))
  equal (expr_stmt span expr) (expr_stmt span2 expr2) = equal_span span span2 && equal expr expr2
  equal (class_decl span ident_ class_) (class_decl span2 ident_2 class_2) = equal_span span span2 && (equal ident_ ident_2 && equal class_ class_2)
  equal (fn_decl span ident_ function_) (fn_decl span2 ident_2 function_2) = equal_span span span2 && (equal ident_ ident_2 && equal function_ function_2)
  equal (var_decl span kind decls) (var_decl span2 kind2 decls2) = equal_span span span2 && (nat_eq kind kind2 && equal_all decls decls2)
  equal (using_decl span is_await decls) (using_decl span2 is_await2 decls2) = equal_span span span2 && (beq is_await is_await2 && equal_all decls decls2)
  equal (var_declarator span name init) (var_declarator span2 name2 init2) = equal_span span span2 && (equal name name2 && equal init init2)
  equal (function span params decorators body is_generator is_async) (function span2 params2 decorators2 body2 is_generator2 is_async2) = equal_span span span2 && (equal_all params params2 && (equal_all decorators decorators2 && (equal body body2 && (beq is_generator is_generator2 && beq is_async is_async2))))
  equal (param span decorators pat) (param span2 decorators2 pat2) = equal_span span span2 && (equal_all decorators decorators2 && equal pat pat2)
  equal (decorator span expr) (decorator span2 expr2) = equal_span span span2 && equal expr expr2
  equal (class span decorators body super_class) (class span2 decorators2 body2 super_class2) = equal_span span span2 && (equal_all decorators decorators2 && (equal_all body body2 && equal super_class super_class2))
  equal (constructor span key params body) (constructor span2 key2 params2 body2) = equal_span span span2 && (equal key key2 && (equal_all params params2 && equal body body2))
  equal (class_method span key function_ kind is_static) (class_method span2 key2 function_2 kind2 is_static2) = equal_span span span2 && (equal key key2 && (equal function_ function_2 && (nat_eq kind kind2 && beq is_static is_static2)))
  equal (private_method span key function_ kind is_static) (private_method span2 key2 function_2 kind2 is_static2) = equal_span span span2 && (equal key key2 && (equal function_ function_2 && (nat_eq kind kind2 && beq is_static is_static2)))
  equal (class_prop span key value is_static decorators) (class_prop span2 key2 value2 is_static2 decorators2) = equal_span span span2 && (equal key key2 && (equal value value2 && (beq is_static is_static2 && equal_all decorators decorators2)))
  equal (private_prop span key value is_static decorators) (private_prop span2 key2 value2 is_static2 decorators2) = equal_span span span2 && (equal key key2 && (equal value value2 && (beq is_static is_static2 && equal_all decorators decorators2)))
  equal (static_block span body) (static_block span2 body2) = equal_span span span2 && equal body body2
  equal (auto_accessor span key value is_static decorators) (auto_accessor span2 key2 value2 is_static2 decorators2) = equal_span span span2 && (equal key key2 && (equal value value2 && (beq is_static is_static2 && equal_all decorators decorators2)))
  equal (ident_name span sym) (ident_name span2 sym2) = equal_span span span2 && bytes_eq sym sym2
  equal (computed_prop_name span expr) (computed_prop_name span2 expr2) = equal_span span span2 && equal expr expr2
  equal (private_name span name) (private_name span2 name2) = equal_span span span2 && bytes_eq name name2
  equal (this_expr span) (this_expr span2) = equal_span span span2
  equal (array_lit span elems) (array_lit span2 elems2) = equal_span span span2 && equal_all elems elems2
  equal (object_lit span props) (object_lit span2 props2) = equal_span span span2 && equal_all props props2
  equal (fn_expr span ident_ function_) (fn_expr span2 ident_2 function_2) = equal_span span span2 && (equal ident_ ident_2 && equal function_ function_2)
  equal (unary_expr span op arg) (unary_expr span2 op2 arg2) = equal_span span span2 && (nat_eq op op2 && equal arg arg2)
  equal (update_expr span op prefix arg) (update_expr span2 op2 prefix2 arg2) = equal_span span span2 && (nat_eq op op2 && (beq prefix prefix2 && equal arg arg2))
  equal (bin_expr span op left right) (bin_expr span2 op2 left2 right2) = equal_span span span2 && (nat_eq op op2 && (equal left left2 && equal right right2))
  equal (assign_expr span op left right) (assign_expr span2 op2 left2 right2) = equal_span span span2 && (nat_eq op op2 && (equal left left2 && equal right right2))
  equal (member_expr span obj prop) (member_expr span2 obj2 prop2) = equal_span span span2 && (equal obj obj2 && equal prop prop2)
  equal (super_prop_expr span obj prop) (super_prop_expr span2 obj2 prop2) = equal_span span span2 && (equal obj obj2 && equal prop prop2)
  equal (cond_expr span test cons alt) (cond_expr span2 test2 cons2 alt2) = equal_span span span2 && (equal test test2 && (equal cons cons2 && equal alt alt2))
  equal (call_expr span callee args) (call_expr span2 callee2 args2) = equal_span span span2 && (equal callee callee2 && equal_all args args2)
  equal (new_expr span callee args) (new_expr span2 callee2 args2) = equal_span span span2 && (equal callee callee2 && equal args args2)
  equal (seq_expr span exprs) (seq_expr span2 exprs2) = equal_span span span2 && equal_all exprs exprs2
  equal (ident span sym) (ident span2 sym2) = equal_span span span2 && bytes_eq sym sym2
  equal (tpl span exprs quasis) (tpl span2 exprs2 quasis2) = equal_span span span2 && (equal_all exprs exprs2 && equal_all quasis quasis2)
  equal (tpl_element span tail raw cooked) (tpl_element span2 tail2 raw2 cooked2) = equal_span span span2 && (beq tail tail2 && (bytes_eq raw raw2 && equal_text cooked cooked2))
  equal (tagged_tpl span tag tpl_) (tagged_tpl span2 tag2 tpl_2) = equal_span span span2 && (equal tag tag2 && equal tpl_ tpl_2)
  equal (arrow_expr span params body is_async) (arrow_expr span2 params2 body2 is_async2) = equal_span span span2 && (equal_all params params2 && (equal body body2 && beq is_async is_async2))
  equal (class_expr span ident_ class_) (class_expr span2 ident_2 class_2) = equal_span span span2 && (equal ident_ ident_2 && equal class_ class_2)
  equal (yield_expr span arg delegate) (yield_expr span2 arg2 delegate2) = equal_span span span2 && (equal arg arg2 && beq delegate delegate2)
  equal (meta_prop_expr span kind) (meta_prop_expr span2 kind2) = equal_span span span2 && nat_eq kind kind2
  equal (await_expr span arg) (await_expr span2 arg2) = equal_span span span2 && equal arg arg2
  equal (paren_expr span expr) (paren_expr span2 expr2) = equal_span span span2 && equal expr expr2
  equal (opt_chain_expr span optional base) (opt_chain_expr span2 optional2 base2) = equal_span span span2 && (beq optional optional2 && equal base base2)
  equal (opt_call span callee args) (opt_call span2 callee2 args2) = equal_span span span2 && (equal callee callee2 && equal_all args args2)
  equal (super span) (super span2) = equal_span span span2
  equal (import span) (import span2) = equal_span span span2
  equal (invalid span) (invalid span2) = equal_span span span2
  equal (expr_or_spread span spread expr) (expr_or_spread span2 spread2 expr2) = equal_span span span2 && (equal_place spread spread2 && equal expr expr2)
  equal (spread_element span expr) (spread_element span2 expr2) = equal_span span span2 && equal expr expr2
  equal (key_value_prop span key value) (key_value_prop span2 key2 value2) = equal_span span span2 && (equal key key2 && equal value value2)
  equal (assign_prop span key value) (assign_prop span2 key2 value2) = equal_span span span2 && (equal key key2 && equal value value2)
  equal (getter_prop span key body) (getter_prop span2 key2 body2) = equal_span span span2 && (equal key key2 && equal body body2)
  equal (setter_prop span key param_ body) (setter_prop span2 key2 param_2 body2) = equal_span span span2 && (equal key key2 && (equal param_ param_2 && equal body body2))
  equal (method_prop span key function_) (method_prop span2 key2 function_2) = equal_span span span2 && (equal key key2 && equal function_ function_2)
  equal (str_lit span units raw) (str_lit span2 units2 raw2) = equal_span span span2 && (bytes_eq units units2 && equal_text raw raw2)
  equal (bool_lit span value) (bool_lit span2 value2) = equal_span span span2 && beq value value2
  equal (null_lit span) (null_lit span2) = equal_span span span2
  equal (number_lit span value raw) (number_lit span2 value2 raw2) = equal_span span span2 && (equal_number value value2 && equal_text raw raw2)
  equal (big_int_lit span radix digits raw) (big_int_lit span2 radix2 digits2 raw2) = equal_span span span2 && (nat_eq radix radix2 && (bytes_eq digits digits2 && equal_text raw raw2))
  equal (regex_lit span exp flags) (regex_lit span2 exp2 flags2) = equal_span span span2 && (bytes_eq exp exp2 && bytes_eq flags flags2)
  equal (binding_ident span id) (binding_ident span2 id2) = equal_span span span2 && equal id id2
  equal (array_pat span elems) (array_pat span2 elems2) = equal_span span span2 && equal_all elems elems2
  equal (rest_pat span dot3_token arg) (rest_pat span2 dot3_token2 arg2) = equal_span span span2 && (equal_span dot3_token dot3_token2 && equal arg arg2)
  equal (object_pat span props) (object_pat span2 props2) = equal_span span span2 && equal_all props props2
  equal (assign_pat span left right) (assign_pat span2 left2 right2) = equal_span span span2 && (equal left left2 && equal right right2)
  equal (key_value_pat_prop span key value) (key_value_pat_prop span2 key2 value2) = equal_span span span2 && (equal key key2 && equal value value2)
  equal (assign_pat_prop span key value) (assign_pat_prop span2 key2 value2) = equal_span span span2 && (equal key key2 && equal value value2)
  equal (expr_pat expr) (expr_pat expr2) = equal expr expr2
  equal (invalid_pat span) (invalid_pat span2) = equal_span span span2
  equal (invalid_target span) (invalid_target span2) = equal_span span span2
  equal (list items) (list items2) = equal_all items items2
  equal absent absent = true
  equal hole hole = true
  equal t u = false

  pub equal_all : Trees → Trees → Bool
  equal_all none none = true
  equal_all (more t ts) (more u us) = equal t u && equal_all ts us
  equal_all ts us = false
