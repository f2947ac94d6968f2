-- A tree without what its layout doesn't depend on: without places, or without the raw texts that are not written.
use Rattle.std.specs.Prelude.{ℕ, Bool, true, false, ◌||◌, if◌then◌else◌, List, Option, Some, None, option_map}
use Rattle.std.specs.Str.{chars}
use Rattle.base_token.specs.declared.place.Span.{Span}
use Rattle.tree_spec.specs.Places.{no_place}
use Rattle.tree_spec.specs.Tree.{Tree, Trees, none, more, script, es_module, import_decl, export_decl, named_export, export_default_decl, export_default_expr, export_all, import_named_specifier, import_default_specifier, import_star_as_specifier, export_namespace_specifier, export_default_specifier, export_named_specifier, block_stmt, empty_stmt, debugger_stmt, with_stmt, return_stmt, labeled_stmt, break_stmt, continue_stmt, if_stmt, switch_stmt, switch_case, throw_stmt, try_stmt, catch_clause, while_stmt, do_while_stmt, for_stmt, for_in_stmt, for_of_stmt, expr_stmt, class_decl, fn_decl, var_decl, using_decl, var_declarator, function, param, decorator, class, constructor, class_method, private_method, class_prop, private_prop, static_block, auto_accessor, ident_name, computed_prop_name, private_name, this_expr, array_lit, object_lit, fn_expr, unary_expr, update_expr, bin_expr, assign_expr, member_expr, super_prop_expr, cond_expr, call_expr, new_expr, seq_expr, ident, tpl, tpl_element, tagged_tpl, arrow_expr, class_expr, yield_expr, meta_prop_expr, await_expr, paren_expr, opt_chain_expr, opt_call, super, import, invalid, expr_or_spread, spread_element, key_value_prop, assign_prop, getter_prop, setter_prop, method_prop, str_lit, bool_lit, null_lit, number_lit, big_int_lit, regex_lit, binding_ident, array_pat, rest_pat, object_pat, assign_pat, key_value_pat_prop, assign_pat_prop, expr_pat, invalid_pat, invalid_target, list, absent, hole}
use Rattle.print_layout_spec.specs.Literals.{is_escaped_directive}

-- a place, where places are kept
abbrev pub kept_place : Bool → Span → Span
kept_place true span = span
kept_place false span = no_place

-- the place of `...`, which also says that it is there
abbrev pub kept_spread : Bool → Option Span → Option Span
kept_spread places None = None
kept_spread places (Some span) = Some (kept_place places span)

-- the raw text of a number or a big integer, where raw texts are kept
abbrev pub kept_raw : Bool → Option (List ℕ) → Option (List ℕ)
kept_raw true raw = raw
kept_raw false raw = None

-- whether the raw text of a string is asked for in any style: `use strict` with a backslash, among the bytes or the characters
-- (which is the same in UTF-8)
abbrev pub asks_raw : List ℕ → Option (List ℕ) → Bool
asks_raw units raw = is_escaped_directive units raw || is_escaped_directive units (option_map chars raw)

-- that of a string: also where it is asked for in any style
abbrev pub kept_string : Bool → List ℕ → Option (List ℕ) → Option (List ℕ)
kept_string true units raw = raw
kept_string false units raw = if asks_raw units raw then raw else None

-- The tree with its places or without, and with raw texts or without. All else is kept; so are the raw texts of templates, since
-- what is written of one depends on how it was spelled, minified too: an escape as `\u0041` stays.
module _ (places raws : Bool) where
  abbrev mutual
    pub bare : Tree → Tree
    bare (script span body shebang) = script (kept_place places span) (bares body) shebang
    bare (es_module span body shebang) = es_module (kept_place places span) (bares body) shebang
    bare (import_decl span specifiers src with_) = import_decl (kept_place places span) (bares specifiers) (bare src) (bare with_)
    bare (export_decl span decl) = export_decl (kept_place places span) (bare decl)
    bare (named_export span specifiers src with_) = named_export (kept_place places span) (bares specifiers) (bare src) (bare with_)
    bare (export_default_decl span decl) = export_default_decl (kept_place places span) (bare decl)
    bare (export_default_expr span expr) = export_default_expr (kept_place places span) (bare expr)
    bare (export_all span src with_) = export_all (kept_place places span) (bare src) (bare with_)
    bare (import_named_specifier span local imported) = import_named_specifier (kept_place places span) (bare local) (bare imported)
    bare (import_default_specifier span local) = import_default_specifier (kept_place places span) (bare local)
    bare (import_star_as_specifier span local) = import_star_as_specifier (kept_place places span) (bare local)
    bare (export_namespace_specifier span name) = export_namespace_specifier (kept_place places span) (bare name)
    bare (export_default_specifier span exported) = export_default_specifier (kept_place places span) (bare exported)
    bare (export_named_specifier span orig exported) = export_named_specifier (kept_place places span) (bare orig) (bare exported)
    bare (block_stmt span stmts) = block_stmt (kept_place places span) (bares stmts)
    bare (empty_stmt span) = empty_stmt (kept_place places span)
    bare (debugger_stmt span) = debugger_stmt (kept_place places span)
    bare (with_stmt span obj body) = with_stmt (kept_place places span) (bare obj) (bare body)
    bare (return_stmt span arg) = return_stmt (kept_place places span) (bare arg)
    bare (labeled_stmt span label body) = labeled_stmt (kept_place places span) (bare label) (bare body)
    bare (break_stmt span label) = break_stmt (kept_place places span) (bare label)
    bare (continue_stmt span label) = continue_stmt (kept_place places span) (bare label)
    bare (if_stmt span test cons alt) = if_stmt (kept_place places span) (bare test) (bare cons) (bare alt)
    bare (switch_stmt span discriminant cases) = switch_stmt (kept_place places span) (bare discriminant) (bares cases)
    bare (switch_case span test cons) = switch_case (kept_place places span) (bare test) (bares cons)
    bare (throw_stmt span arg) = throw_stmt (kept_place places span) (bare arg)
    bare (try_stmt span block handler finalizer) = try_stmt (kept_place places span) (bare block) (bare handler) (bare finalizer)
    bare (catch_clause span param_ body) = catch_clause (kept_place places span) (bare param_) (bare body)
    bare (while_stmt span test body) = while_stmt (kept_place places span) (bare test) (bare body)
    bare (do_while_stmt span test body) = do_while_stmt (kept_place places span) (bare test) (bare body)
    bare (for_stmt span init test update body) = for_stmt (kept_place places span) (bare init) (bare test) (bare update) (bare body)
    bare (for_in_stmt span left right body) = for_in_stmt (kept_place places span) (bare left) (bare right) (bare body)
    bare (for_of_stmt span is_await left right body) = for_of_stmt (kept_place places span) is_await (bare left) (bare right) (bare body)
    bare (expr_stmt span expr) = expr_stmt (kept_place places span) (bare expr)
    bare (class_decl span ident_ class_) = class_decl (kept_place places span) (bare ident_) (bare class_)
    bare (fn_decl span ident_ function_) = fn_decl (kept_place places span) (bare ident_) (bare function_)
    bare (var_decl span kind decls) = var_decl (kept_place places span) kind (bares decls)
    bare (using_decl span is_await decls) = using_decl (kept_place places span) is_await (bares decls)
    bare (var_declarator span name init) = var_declarator (kept_place places span) (bare name) (bare init)
    bare (function span params decorators body is_generator is_async) = function (kept_place places span) (bares params) (bares decorators) (bare body) is_generator is_async
    bare (param span decorators pat) = param (kept_place places span) (bares decorators) (bare pat)
    bare (decorator span expr) = decorator (kept_place places span) (bare expr)
    bare (class span decorators body super_class) = class (kept_place places span) (bares decorators) (bares body) (bare super_class)
    bare (constructor span key params body) = constructor (kept_place places span) (bare key) (bares params) (bare body)
    bare (class_method span key function_ kind is_static) = class_method (kept_place places span) (bare key) (bare function_) kind is_static
    bare (private_method span key function_ kind is_static) = private_method (kept_place places span) (bare key) (bare function_) kind is_static
    bare (class_prop span key value is_static decorators) = class_prop (kept_place places span) (bare key) (bare value) is_static (bares decorators)
    bare (private_prop span key value is_static decorators) = private_prop (kept_place places span) (bare key) (bare value) is_static (bares decorators)
    bare (static_block span body) = static_block (kept_place places span) (bare body)
    bare (auto_accessor span key value is_static decorators) = auto_accessor (kept_place places span) (bare key) (bare value) is_static (bares decorators)
    bare (ident_name span sym) = ident_name (kept_place places span) sym
    bare (computed_prop_name span expr) = computed_prop_name (kept_place places span) (bare expr)
    bare (private_name span name) = private_name (kept_place places span) name
    bare (this_expr span) = this_expr (kept_place places span)
    bare (array_lit span elems) = array_lit (kept_place places span) (bares elems)
    bare (object_lit span props) = object_lit (kept_place places span) (bares props)
    bare (fn_expr span ident_ function_) = fn_expr (kept_place places span) (bare ident_) (bare function_)
    bare (unary_expr span op arg) = unary_expr (kept_place places span) op (bare arg)
    bare (update_expr span op prefix arg) = update_expr (kept_place places span) op prefix (bare arg)
    bare (bin_expr span op left right) = bin_expr (kept_place places span) op (bare left) (bare right)
    bare (assign_expr span op left right) = assign_expr (kept_place places span) op (bare left) (bare right)
    bare (member_expr span obj prop) = member_expr (kept_place places span) (bare obj) (bare prop)
    bare (super_prop_expr span obj prop) = super_prop_expr (kept_place places span) (bare obj) (bare prop)
    bare (cond_expr span test cons alt) = cond_expr (kept_place places span) (bare test) (bare cons) (bare alt)
    bare (call_expr span callee args) = call_expr (kept_place places span) (bare callee) (bares args)
    bare (new_expr span callee args) = new_expr (kept_place places span) (bare callee) (bare args)
    bare (seq_expr span exprs) = seq_expr (kept_place places span) (bares exprs)
    bare (ident span sym) = ident (kept_place places span) sym
    bare (tpl span exprs quasis) = tpl (kept_place places span) (bares exprs) (bares quasis)
    bare (tpl_element span tail raw cooked) = tpl_element (kept_place places span) tail raw cooked
    bare (tagged_tpl span tag tpl_) = tagged_tpl (kept_place places span) (bare tag) (bare tpl_)
    bare (arrow_expr span params body is_async) = arrow_expr (kept_place places span) (bares params) (bare body) is_async
    bare (class_expr span ident_ class_) = class_expr (kept_place places span) (bare ident_) (bare class_)
    bare (yield_expr span arg delegate) = yield_expr (kept_place places span) (bare arg) delegate
    bare (meta_prop_expr span kind) = meta_prop_expr (kept_place places span) kind
    bare (await_expr span arg) = await_expr (kept_place places span) (bare arg)
    bare (paren_expr span expr) = paren_expr (kept_place places span) (bare expr)
    bare (opt_chain_expr span optional base) = opt_chain_expr (kept_place places span) optional (bare base)
    bare (opt_call span callee args) = opt_call (kept_place places span) (bare callee) (bares args)
    bare (super span) = super (kept_place places span)
    bare (import span) = import (kept_place places span)
    bare (invalid span) = invalid (kept_place places span)
    bare (expr_or_spread span spread expr) = expr_or_spread (kept_place places span) (kept_spread places spread) (bare expr)
    bare (spread_element span expr) = spread_element (kept_place places span) (bare expr)
    bare (key_value_prop span key value) = key_value_prop (kept_place places span) (bare key) (bare value)
    bare (assign_prop span key value) = assign_prop (kept_place places span) (bare key) (bare value)
    bare (getter_prop span key body) = getter_prop (kept_place places span) (bare key) (bare body)
    bare (setter_prop span key param_ body) = setter_prop (kept_place places span) (bare key) (bare param_) (bare body)
    bare (method_prop span key function_) = method_prop (kept_place places span) (bare key) (bare function_)
    bare (str_lit span units raw) = str_lit (kept_place places span) units (kept_string raws units raw)
    bare (bool_lit span value) = bool_lit (kept_place places span) value
    bare (null_lit span) = null_lit (kept_place places span)
    bare (number_lit span value raw) = number_lit (kept_place places span) value (kept_raw raws raw)
    bare (big_int_lit span radix digits raw) = big_int_lit (kept_place places span) radix digits (kept_raw raws raw)
    bare (regex_lit span exp flags) = regex_lit (kept_place places span) exp flags
    bare (binding_ident span id) = binding_ident (kept_place places span) (bare id)
    bare (array_pat span elems) = array_pat (kept_place places span) (bares elems)
    bare (rest_pat span dot3_token arg) = rest_pat (kept_place places span) (kept_place places dot3_token) (bare arg)
    bare (object_pat span props) = object_pat (kept_place places span) (bares props)
    bare (assign_pat span left right) = assign_pat (kept_place places span) (bare left) (bare right)
    bare (key_value_pat_prop span key value) = key_value_pat_prop (kept_place places span) (bare key) (bare value)
    bare (assign_pat_prop span key value) = assign_pat_prop (kept_place places span) (bare key) (bare value)
    bare (expr_pat expr) = expr_pat (bare expr)
    bare (invalid_pat span) = invalid_pat (kept_place places span)
    bare (invalid_target span) = invalid_target (kept_place places span)
    bare (list items) = list (bares items)
    bare absent = absent
    bare hole = hole

    pub bares : Trees → Trees
    bares none = none
    bares (more t ts) = more (bare t) (bares ts)

-- a tree without places
abbrev pub unplaced : Tree → Tree
unplaced t = bare false true t

-- a tree with its places, without the raw texts that don't come into a minified layout
abbrev pub unspelled : Tree → Tree
unspelled t = bare true false t
