-- Written by tools/tree/program.py from tools/tree/tree.table. Don't edit this file.
-- What a tree says: the tree without places, and without what only tells how something is spelled.
use Rattle.std.specs.Prelude.{◌≡◌, ℕ, Bool, true, false, not, ◌&&◌, ◌==◌, if◌then◌else◌, List, [], ◌∷◌, Option, Some, None, codes, bytes_eq}
use Rattle.std.specs.List.{list_any}
use Rattle.std.specs.Str.{chars}
use Rattle.base_token.specs.declared.place.Span.{Span}
use Rattle.base_token.specs.Utf16.{utf16}
use Rattle.tree_spec.specs.Places.{no_place}
use Rattle.tree_spec.specs.Tree.{Tree, Trees, none, more, script, es_module, import_decl, export_decl, named_export, export_default_decl, export_default_expr, export_all, import_named_specifier, import_default_specifier, import_star_as_specifier, export_namespace_specifier, export_default_specifier, export_named_specifier, block_stmt, empty_stmt, debugger_stmt, with_stmt, return_stmt, labeled_stmt, break_stmt, continue_stmt, if_stmt, switch_stmt, switch_case, throw_stmt, try_stmt, catch_clause, while_stmt, do_while_stmt, for_stmt, for_in_stmt, for_of_stmt, expr_stmt, class_decl, fn_decl, var_decl, using_decl, var_declarator, function, param, decorator, class, constructor, class_method, private_method, class_prop, private_prop, static_block, auto_accessor, ident_name, computed_prop_name, private_name, this_expr, array_lit, object_lit, fn_expr, unary_expr, update_expr, bin_expr, assign_expr, member_expr, super_prop_expr, cond_expr, call_expr, new_expr, seq_expr, ident, tpl, tpl_element, tagged_tpl, arrow_expr, class_expr, yield_expr, meta_prop_expr, await_expr, paren_expr, opt_chain_expr, opt_call, super, import, invalid, expr_or_spread, spread_element, key_value_prop, assign_prop, getter_prop, setter_prop, method_prop, str_lit, bool_lit, null_lit, number_lit, big_int_lit, regex_lit, binding_ident, array_pat, rest_pat, object_pat, assign_pat, key_value_pat_prop, assign_pat_prop, expr_pat, invalid_pat, invalid_target, list, absent, hole}

-- whether a place is there
abbrev pub placed : Option Span → Option Span
placed None = None
placed (Some span) = Some no_place

-- the key of a property (13.2.5): a word is the string of its text
abbrev pub property_key : Tree → Tree
property_key (ident_name span sym) = str_lit no_place (utf16 (chars sym)) None
property_key t = t

-- the arguments of `new` (13.3.5): none at all are an empty list
abbrev pub arguments : Tree → Tree
arguments absent = list none
arguments t = t

-- whether a spelling has an escape or a continued line; a string without spelling has none
abbrev pub is_escaped : Option (List ℕ) → Bool
is_escaped None = false
is_escaped (Some raw) = list_any (λ b. b == 92) raw

-- An expression as a statement (11.2.1, 14.5): a string also tells whether it is `use strict` without an escape.
abbrev pub stated : Tree → Tree → Tree
stated (str_lit span units raw) program_ =
    if bytes_eq units (codes "use strict") && not (is_escaped raw) then str_lit no_place units (Some []) else program_
stated t program_ = program_

-- line ends as templates have them (12.9.6): CR LF and CR are LF; the flag says that a CR came right before
abbrev pub line_ends_after : Bool → List ℕ → List ℕ
line_ends_after past_cr [] = []
line_ends_after past_cr (c ∷ cs) =
    if c == 13 then 10 ∷ line_ends_after true cs
    else (if past_cr && (c == 10) then line_ends_after false cs else c ∷ line_ends_after false cs)

abbrev pub line_ends : List ℕ → List ℕ
line_ends text = line_ends_after false text

-- the texts of a tagged template (13.2.8.4): what counts is their spelling
abbrev pub texts : Trees → Trees
texts none = none
texts (more (tpl_element span tail raw cooked) us) = more (tpl_element no_place tail (line_ends raw) None) (texts us)
texts (more t us) = more t (texts us)

-- a template behind its tag, as spelled, with what its expressions say
abbrev pub with_texts : Trees → Tree → Tree
with_texts us (tpl span exprs quasis) = tpl span exprs us
with_texts us t = t

abbrev pub spelled : Tree → Tree → Tree
spelled (tpl span exprs quasis) program_ = with_texts (texts quasis) program_
spelled t program_ = program_

-- The program of a tree: no place is kept. Of a string, a number and a big integer the value is kept, of an untagged template its units.
abbrev mutual
  pub program : Tree → Tree
  program (script span body shebang) = script no_place (programs body) shebang
  program (es_module span body shebang) = es_module no_place (programs body) shebang
  program (import_decl span specifiers src with_) = import_decl no_place (programs specifiers) (program src) (program with_)
  program (export_decl span decl) = export_decl no_place (program decl)
  program (named_export span specifiers src with_) = named_export no_place (programs specifiers) (program src) (program with_)
  program (export_default_decl span decl) = export_default_decl no_place (program decl)
  program (export_default_expr span expr) = export_default_expr no_place (program expr)
  program (export_all span src with_) = export_all no_place (program src) (program with_)
  program (import_named_specifier span local imported) = import_named_specifier no_place (program local) (program imported)
  program (import_default_specifier span local) = import_default_specifier no_place (program local)
  program (import_star_as_specifier span local) = import_star_as_specifier no_place (program local)
  program (export_namespace_specifier span name) = export_namespace_specifier no_place (program name)
  program (export_default_specifier span exported) = export_default_specifier no_place (program exported)
  program (export_named_specifier span orig exported) = export_named_specifier no_place (program orig) (program exported)
  program (block_stmt span stmts) = block_stmt no_place (programs stmts)
  program (empty_stmt span) = empty_stmt no_place
  program (debugger_stmt span) = debugger_stmt no_place
  program (with_stmt span obj body) = with_stmt no_place (program obj) (program body)
  program (return_stmt span arg) = return_stmt no_place (program arg)
  program (labeled_stmt span label body) = labeled_stmt no_place (program label) (program body)
  program (break_stmt span label) = break_stmt no_place (program label)
  program (continue_stmt span label) = continue_stmt no_place (program label)
  program (if_stmt span test cons alt) = if_stmt no_place (program test) (program cons) (program alt)
  program (switch_stmt span discriminant cases) = switch_stmt no_place (program discriminant) (programs cases)
  program (switch_case span test cons) = switch_case no_place (program test) (programs cons)
  program (throw_stmt span arg) = throw_stmt no_place (program arg)
  program (try_stmt span block handler finalizer) = try_stmt no_place (program block) (program handler) (program finalizer)
  program (catch_clause span param_ body) = catch_clause no_place (program param_) (program body)
  program (while_stmt span test body) = while_stmt no_place (program test) (program body)
  program (do_while_stmt span test body) = do_while_stmt no_place (program test) (program body)
  program (for_stmt span init test update body) = for_stmt no_place (program init) (program test) (program update) (program body)
  program (for_in_stmt span left right body) = for_in_stmt no_place (program left) (program right) (program body)
  program (for_of_stmt span is_await left right body) = for_of_stmt no_place is_await (program left) (program right) (program body)
  program (expr_stmt span expr) = expr_stmt no_place (stated expr (program expr))
  program (class_decl span ident_ class_) = class_decl no_place (program ident_) (program class_)
  program (fn_decl span ident_ function_) = fn_decl no_place (program ident_) (program function_)
  program (var_decl span kind decls) = var_decl no_place kind (programs decls)
  program (using_decl span is_await decls) = using_decl no_place is_await (programs decls)
  program (var_declarator span name init) = var_declarator no_place (program name) (program init)
  program (function span params decorators body is_generator is_async) = function no_place (programs params) (programs decorators) (program body) is_generator is_async
  program (param span decorators pat) = param no_place (programs decorators) (program pat)
  program (decorator span expr) = decorator no_place (program expr)
  program (class span decorators body super_class) = class no_place (programs decorators) (programs body) (program super_class)
  program (constructor span key params body) = constructor no_place (property_key (program key)) (programs params) (program body)
  program (class_method span key function_ kind is_static) = class_method no_place (property_key (program key)) (program function_) kind is_static
  program (private_method span key function_ kind is_static) = private_method no_place (program key) (program function_) kind is_static
  program (class_prop span key value is_static decorators) = class_prop no_place (property_key (program key)) (program value) is_static (programs decorators)
  program (private_prop span key value is_static decorators) = private_prop no_place (program key) (program value) is_static (programs decorators)
  program (static_block span body) = static_block no_place (program body)
  program (auto_accessor span key value is_static decorators) = auto_accessor no_place (property_key (program key)) (program value) is_static (programs decorators)
  program (ident_name span sym) = ident_name no_place sym
  program (computed_prop_name span expr) = computed_prop_name no_place (program expr)
  program (private_name span name) = private_name no_place name
  program (this_expr span) = this_expr no_place
  program (array_lit span elems) = array_lit no_place (programs elems)
  program (object_lit span props) = object_lit no_place (programs props)
  program (fn_expr span ident_ function_) = fn_expr no_place (program ident_) (program function_)
  program (unary_expr span op arg) = unary_expr no_place op (program arg)
  program (update_expr span op prefix arg) = update_expr no_place op prefix (program arg)
  program (bin_expr span op left right) = bin_expr no_place op (program left) (program right)
  program (assign_expr span op left right) = assign_expr no_place op (program left) (program right)
  program (member_expr span obj prop) = member_expr no_place (program obj) (program prop)
  program (super_prop_expr span obj prop) = super_prop_expr no_place (program obj) (program prop)
  program (cond_expr span test cons alt) = cond_expr no_place (program test) (program cons) (program alt)
  program (call_expr span callee args) = call_expr no_place (program callee) (programs args)
  program (new_expr span callee args) = new_expr no_place (program callee) (arguments (program args))
  program (seq_expr span exprs) = seq_expr no_place (programs exprs)
  program (ident span sym) = ident no_place sym
  program (tpl span exprs quasis) = tpl no_place (programs exprs) (programs quasis)
  program (tpl_element span tail raw cooked) = tpl_element no_place tail [] cooked
  program (tagged_tpl span tag tpl_) = tagged_tpl no_place (program tag) (spelled tpl_ (program tpl_))
  program (arrow_expr span params body is_async) = arrow_expr no_place (programs params) (program body) is_async
  program (class_expr span ident_ class_) = class_expr no_place (program ident_) (program class_)
  program (yield_expr span arg delegate) = yield_expr no_place (program arg) delegate
  program (meta_prop_expr span kind) = meta_prop_expr no_place kind
  program (await_expr span arg) = await_expr no_place (program arg)
  program (paren_expr span expr) = paren_expr no_place (program expr)
  program (opt_chain_expr span optional base) = opt_chain_expr no_place optional (program base)
  program (opt_call span callee args) = opt_call no_place (program callee) (programs args)
  program (super span) = super no_place
  program (import span) = import no_place
  program (invalid span) = invalid no_place
  program (expr_or_spread span spread expr) = expr_or_spread no_place (placed spread) (program expr)
  program (spread_element span expr) = spread_element no_place (program expr)
  program (key_value_prop span key value) = key_value_prop no_place (property_key (program key)) (program value)
  program (assign_prop span key value) = assign_prop no_place (program key) (program value)
  program (getter_prop span key body) = getter_prop no_place (property_key (program key)) (program body)
  program (setter_prop span key param_ body) = setter_prop no_place (property_key (program key)) (program param_) (program body)
  program (method_prop span key function_) = method_prop no_place (property_key (program key)) (program function_)
  program (str_lit span units raw) = str_lit no_place units None
  program (bool_lit span value) = bool_lit no_place value
  program (null_lit span) = null_lit no_place
  program (number_lit span value raw) = number_lit no_place value None
  program (big_int_lit span radix digits raw) = big_int_lit no_place radix digits None
  program (regex_lit span exp flags) = regex_lit no_place exp flags
  program (binding_ident span id) = binding_ident no_place (program id)
  program (array_pat span elems) = array_pat no_place (programs elems)
  program (rest_pat span dot3_token arg) = rest_pat no_place no_place (program arg)
  program (object_pat span props) = object_pat no_place (programs props)
  program (assign_pat span left right) = assign_pat no_place (program left) (program right)
  program (key_value_pat_prop span key value) = key_value_pat_prop no_place (property_key (program key)) (program value)
  program (assign_pat_prop span key value) = assign_pat_prop no_place (program key) (program value)
  program (expr_pat expr) = expr_pat (program expr)
  program (invalid_pat span) = invalid_pat no_place
  program (invalid_target span) = invalid_target no_place
  program (list items) = list (programs items)
  program absent = absent
  program hole = hole

  pub programs : Trees → Trees
  programs none = none
  programs (more t ts) = more (program t) (programs ts)

-- Two trees are the same program.
abbrev pub IsSameProgram : Tree → Tree → Type 0
IsSameProgram t u = program t ≡ program u
