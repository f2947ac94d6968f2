-- A tree without places whose spellings are given anew: as they were, or as the text written has them.
use Rattle.std.specs.Prelude.{◌≡◌, ℕ, Bool, true, false, ◌||◌, if◌then◌else◌, List, Option, Some, None}
use Rattle.base_number.specs.Numbers.{SpecNumber}
use Rattle.base_token.specs.declared.place.Span.{Span}
use Rattle.tree_spec.specs.Places.{no_place}
use Rattle.tree_spec.specs.Tree.{Tree, Trees, none, more, script, es_module, import_decl, export_decl, named_export, export_default_decl, export_default_expr, export_all, import_named_specifier, import_default_specifier, import_star_as_specifier, export_namespace_specifier, export_default_specifier, export_named_specifier, block_stmt, empty_stmt, debugger_stmt, with_stmt, return_stmt, labeled_stmt, break_stmt, continue_stmt, if_stmt, switch_stmt, switch_case, throw_stmt, try_stmt, catch_clause, while_stmt, do_while_stmt, for_stmt, for_in_stmt, for_of_stmt, expr_stmt, class_decl, fn_decl, var_decl, using_decl, var_declarator, function, param, decorator, class, constructor, class_method, private_method, class_prop, private_prop, static_block, auto_accessor, ident_name, computed_prop_name, private_name, this_expr, array_lit, object_lit, fn_expr, unary_expr, update_expr, bin_expr, assign_expr, member_expr, super_prop_expr, cond_expr, call_expr, new_expr, seq_expr, ident, tpl, tpl_element, tagged_tpl, arrow_expr, class_expr, yield_expr, meta_prop_expr, await_expr, paren_expr, opt_chain_expr, opt_call, super, import, invalid, expr_or_spread, spread_element, key_value_prop, assign_prop, getter_prop, setter_prop, method_prop, str_lit, bool_lit, null_lit, number_lit, big_int_lit, regex_lit, binding_ident, array_pat, rest_pat, object_pat, assign_pat, key_value_pat_prop, assign_pat_prop, expr_pat, invalid_pat, invalid_target, list, absent, hole}
use Rattle.print_layout_spec.specs.Layout.{is_computed}

-- Where a node stands, as far as how it is spelled depends on that.
pub data Mode : Type 0 where
  -- at none of the places below
  Plain : Mode
  -- at the head of a call, a member, `new` or a tag (13.3)
  Headed : Mode
  -- as the object before a point, where a number may take a point of its own
  Pointed : Mode
  -- as the member behind `?.` (13.3.9)
  Asked : Mode
  -- behind a tag (13.3.11)
  Raw : Mode

-- at a head, before a point or before a bracket
abbrev pub is_head : Mode → Bool
is_head Headed = true
is_head Pointed = true
is_head _ = false

abbrev pub is_pointed : Mode → Bool
is_pointed Pointed = true
is_pointed _ = false

abbrev pub is_asked : Mode → Bool
is_asked Asked = true
is_asked _ = false

abbrev pub is_tagged : Mode → Bool
is_tagged Raw = true
is_tagged _ = false

-- where the pieces of a template stand, the object of a member before this name, and what goes on with a chain
abbrev pub quasi_mode : Mode → Mode
quasi_mode Raw = Raw
quasi_mode _ = Plain

abbrev pub object_mode : Mode → Tree → Mode
object_mode mode prop = if is_asked mode || is_computed prop then Headed else Pointed

abbrev pub chain_mode : Bool → Mode
chain_mode optional = if optional then Asked else Plain

-- whether a place is there
abbrev pub placed : Option Span → Option Span
placed None = None
placed (Some span) = Some no_place

-- What tells how a tree is spelled, given anew.
pub record Leaves : Type 0 where
  -- the raw text of a string (12.9.4), by its units
  pub string : List ℕ → Option (List ℕ) → Option (List ℕ)
  -- the raw text of a number (12.9.3), by whether it stands before a point, and its value
  pub number : Bool → SpecNumber → Option (List ℕ) → Option (List ℕ)
  -- the raw text of a big integer, by its radix and digits
  pub big : ℕ → List ℕ → Option (List ℕ) → Option (List ℕ)
  -- the raw text of a piece of a template (12.9.6), by whether it stands behind a tag
  pub quasi : Bool → List ℕ → List ℕ
  -- the arguments of `new` (13.3.5), by whether it stands at a head
  pub arguments : Bool → Tree → Tree
  -- the key of a property or a member of a class (13.2.5), and that of the constructor (15.7)
  pub key : Tree → Tree
  pub constructor_key : Tree → Tree
  -- As what the place of a name (13.1) is kept, by where it begins: of a name of the tree, and of one of the tree that it is compared with.
  pub read : ℕ → Span
  pub written : ℕ → Span

-- no place is kept
abbrev pub nowhere : ℕ → Span
nowhere at = no_place

-- all as it was, with the places of names kept as these
abbrev pub kept_at : (ℕ → Span) → Leaves
kept_at places = record {
  string = λ units raw. raw;
  number = λ before value raw. raw;
  big = λ radix digits raw. raw;
  quasi = λ tagged raw. raw;
  arguments = λ head args. args;
  key = λ t. t;
  constructor_key = λ t. t;
  read = places;
  written = places;
}

-- all as it was
abbrev pub kept : Leaves
kept = kept_at nowhere

module _ (leaves : Leaves) where
  abbrev mutual
    -- the tree in its place, without places but for those of names, with its spellings given anew
    pub redo : Mode → Tree → Tree
    redo mode (script span body shebang) = script no_place (redos Plain body) shebang
    redo mode (es_module span body shebang) = es_module no_place (redos Plain body) shebang
    redo mode (import_decl span specifiers src with_) = import_decl no_place (redos Plain specifiers) (redo Plain src) (redo Plain with_)
    redo mode (export_decl span decl) = export_decl no_place (redo Plain decl)
    redo mode (named_export span specifiers src with_) = named_export no_place (redos Plain specifiers) (redo Plain src) (redo Plain with_)
    redo mode (export_default_decl span decl) = export_default_decl no_place (redo Plain decl)
    redo mode (export_default_expr span expr) = export_default_expr no_place (redo Plain expr)
    redo mode (export_all span src with_) = export_all no_place (redo Plain src) (redo Plain with_)
    redo mode (import_named_specifier span local imported) = import_named_specifier no_place (redo Plain local) (redo Plain imported)
    redo mode (import_default_specifier span local) = import_default_specifier no_place (redo Plain local)
    redo mode (import_star_as_specifier span local) = import_star_as_specifier no_place (redo Plain local)
    redo mode (export_namespace_specifier span name) = export_namespace_specifier no_place (redo Plain name)
    redo mode (export_default_specifier span exported) = export_default_specifier no_place (redo Plain exported)
    redo mode (export_named_specifier span orig exported) = export_named_specifier no_place (redo Plain orig) (redo Plain exported)
    redo mode (block_stmt span stmts) = block_stmt no_place (redos Plain stmts)
    redo mode (empty_stmt span) = empty_stmt no_place
    redo mode (debugger_stmt span) = debugger_stmt no_place
    redo mode (with_stmt span obj body) = with_stmt no_place (redo Plain obj) (redo Plain body)
    redo mode (return_stmt span arg) = return_stmt no_place (redo Plain arg)
    redo mode (labeled_stmt span label body) = labeled_stmt no_place (redo Plain label) (redo Plain body)
    redo mode (break_stmt span label) = break_stmt no_place (redo Plain label)
    redo mode (continue_stmt span label) = continue_stmt no_place (redo Plain label)
    redo mode (if_stmt span test cons alt) = if_stmt no_place (redo Plain test) (redo Plain cons) (redo Plain alt)
    redo mode (switch_stmt span discriminant cases) = switch_stmt no_place (redo Plain discriminant) (redos Plain cases)
    redo mode (switch_case span test cons) = switch_case no_place (redo Plain test) (redos Plain cons)
    redo mode (throw_stmt span arg) = throw_stmt no_place (redo Plain arg)
    redo mode (try_stmt span block handler finalizer) = try_stmt no_place (redo Plain block) (redo Plain handler) (redo Plain finalizer)
    redo mode (catch_clause span param_ body) = catch_clause no_place (redo Plain param_) (redo Plain body)
    redo mode (while_stmt span test body) = while_stmt no_place (redo Plain test) (redo Plain body)
    redo mode (do_while_stmt span test body) = do_while_stmt no_place (redo Plain test) (redo Plain body)
    redo mode (for_stmt span init test update body) = for_stmt no_place (redo Plain init) (redo Plain test) (redo Plain update) (redo Plain body)
    redo mode (for_in_stmt span left right body) = for_in_stmt no_place (redo Plain left) (redo Plain right) (redo Plain body)
    redo mode (for_of_stmt span is_await left right body) = for_of_stmt no_place is_await (redo Plain left) (redo Plain right) (redo Plain body)
    redo mode (expr_stmt span expr) = expr_stmt no_place (redo Plain expr)
    redo mode (class_decl span ident_ class_) = class_decl no_place (redo Plain ident_) (redo Plain class_)
    redo mode (fn_decl span ident_ function_) = fn_decl no_place (redo Plain ident_) (redo Plain function_)
    redo mode (var_decl span kind decls) = var_decl no_place kind (redos Plain decls)
    redo mode (using_decl span is_await decls) = using_decl no_place is_await (redos Plain decls)
    redo mode (var_declarator span name init) = var_declarator no_place (redo Plain name) (redo Plain init)
    redo mode (function span params decorators body is_generator is_async) = function no_place (redos Plain params) (redos Plain decorators) (redo Plain body) is_generator is_async
    redo mode (param span decorators pat) = param no_place (redos Plain decorators) (redo Plain pat)
    redo mode (decorator span expr) = decorator no_place (redo Plain expr)
    redo mode (class span decorators body super_class) = class no_place (redos Plain decorators) (redos Plain body) (redo Plain super_class)
    redo mode (constructor span key params body) = constructor no_place (leaves.constructor_key (redo Plain key)) (redos Plain params) (redo Plain body)
    redo mode (class_method span key function_ kind is_static) = class_method no_place (leaves.key (redo Plain key)) (redo Plain function_) kind is_static
    redo mode (private_method span key function_ kind is_static) = private_method no_place (redo Plain key) (redo Plain function_) kind is_static
    redo mode (class_prop span key value is_static decorators) = class_prop no_place (leaves.key (redo Plain key)) (redo Plain value) is_static (redos Plain decorators)
    redo mode (private_prop span key value is_static decorators) = private_prop no_place (redo Plain key) (redo Plain value) is_static (redos Plain decorators)
    redo mode (static_block span body) = static_block no_place (redo Plain body)
    redo mode (auto_accessor span key value is_static decorators) = auto_accessor no_place (leaves.key (redo Plain key)) (redo Plain value) is_static (redos Plain decorators)
    redo mode (ident_name span sym) = ident_name no_place sym
    redo mode (computed_prop_name span expr) = computed_prop_name no_place (redo Plain expr)
    redo mode (private_name span name) = private_name no_place name
    redo mode (this_expr span) = this_expr no_place
    redo mode (array_lit span elems) = array_lit no_place (redos Plain elems)
    redo mode (object_lit span props) = object_lit no_place (redos Plain props)
    redo mode (fn_expr span ident_ function_) = fn_expr no_place (redo Plain ident_) (redo Plain function_)
    redo mode (unary_expr span op arg) = unary_expr no_place op (redo Plain arg)
    redo mode (update_expr span op prefix arg) = update_expr no_place op prefix (redo Plain arg)
    redo mode (bin_expr span op left right) = bin_expr no_place op (redo Plain left) (redo Plain right)
    redo mode (assign_expr span op left right) = assign_expr no_place op (redo Plain left) (redo Plain right)
    redo mode (member_expr span obj prop) = member_expr no_place (redo (object_mode mode prop) obj) (redo Plain prop)
    redo mode (super_prop_expr span obj prop) = super_prop_expr no_place (redo Plain obj) (redo Plain prop)
    redo mode (cond_expr span test cons alt) = cond_expr no_place (redo Plain test) (redo Plain cons) (redo Plain alt)
    redo mode (call_expr span callee args) = call_expr no_place (redo Headed callee) (redos Plain args)
    redo mode (new_expr span callee args) = new_expr no_place (redo Headed callee) (leaves.arguments (is_head mode) (redo Plain args))
    redo mode (seq_expr span exprs) = seq_expr no_place (redos Plain exprs)
    redo mode (ident span sym) = ident (leaves.read span.lo.0) sym
    redo mode (tpl span exprs quasis) = tpl no_place (redos Plain exprs) (redos (quasi_mode mode) quasis)
    redo mode (tpl_element span tail raw cooked) = tpl_element no_place tail (leaves.quasi (is_tagged mode) raw) cooked
    redo mode (tagged_tpl span tag tpl_) = tagged_tpl no_place (redo Headed tag) (redo Raw tpl_)
    redo mode (arrow_expr span params body is_async) = arrow_expr no_place (redos Plain params) (redo Plain body) is_async
    redo mode (class_expr span ident_ class_) = class_expr no_place (redo Plain ident_) (redo Plain class_)
    redo mode (yield_expr span arg delegate) = yield_expr no_place (redo Plain arg) delegate
    redo mode (meta_prop_expr span kind) = meta_prop_expr no_place kind
    redo mode (await_expr span arg) = await_expr no_place (redo Plain arg)
    redo mode (paren_expr span expr) = paren_expr no_place (redo Plain expr)
    redo mode (opt_chain_expr span optional base) = opt_chain_expr no_place optional (redo (chain_mode optional) base)
    redo mode (opt_call span callee args) = opt_call no_place (redo Headed callee) (redos Plain args)
    redo mode (super span) = super no_place
    redo mode (import span) = import no_place
    redo mode (invalid span) = invalid no_place
    redo mode (expr_or_spread span spread expr) = expr_or_spread no_place (placed spread) (redo Plain expr)
    redo mode (spread_element span expr) = spread_element no_place (redo Plain expr)
    redo mode (key_value_prop span key value) = key_value_prop no_place (leaves.key (redo Plain key)) (redo Plain value)
    redo mode (assign_prop span key value) = assign_prop no_place (redo Plain key) (redo Plain value)
    redo mode (getter_prop span key body) = getter_prop no_place (leaves.key (redo Plain key)) (redo Plain body)
    redo mode (setter_prop span key param_ body) = setter_prop no_place (leaves.key (redo Plain key)) (redo Plain param_) (redo Plain body)
    redo mode (method_prop span key function_) = method_prop no_place (leaves.key (redo Plain key)) (redo Plain function_)
    redo mode (str_lit span units raw) = str_lit no_place units (leaves.string units raw)
    redo mode (bool_lit span value) = bool_lit no_place value
    redo mode (null_lit span) = null_lit no_place
    redo mode (number_lit span value raw) = number_lit no_place value (leaves.number (is_pointed mode) value raw)
    redo mode (big_int_lit span radix digits raw) = big_int_lit no_place radix digits (leaves.big radix digits raw)
    redo mode (regex_lit span exp flags) = regex_lit no_place exp flags
    redo mode (binding_ident span id) = binding_ident no_place (redo Plain id)
    redo mode (array_pat span elems) = array_pat no_place (redos Plain elems)
    redo mode (rest_pat span dot3_token arg) = rest_pat no_place no_place (redo Plain arg)
    redo mode (object_pat span props) = object_pat no_place (redos Plain props)
    redo mode (assign_pat span left right) = assign_pat no_place (redo Plain left) (redo Plain right)
    redo mode (key_value_pat_prop span key value) = key_value_pat_prop no_place (leaves.key (redo Plain key)) (redo Plain value)
    redo mode (assign_pat_prop span key value) = assign_pat_prop no_place (redo Plain key) (redo Plain value)
    redo mode (expr_pat expr) = expr_pat (redo Plain expr)
    redo mode (invalid_pat span) = invalid_pat no_place
    redo mode (invalid_target span) = invalid_target no_place
    redo mode (list items) = list (redos Plain items)
    redo mode absent = absent
    redo mode hole = hole

    pub redos : Mode → Trees → Trees
    redos mode none = none
    redos mode (more t ts) = more (redo mode t) (redos mode ts)

-- A tree is this one but for places and for spellings, which are those that are given; and its names stand for those of this one.
pub record Redone (leaves : Leaves) (mode : Mode) (t u : Tree) : Type 0 where
  pub so : (n : Mode) → redo (kept_at leaves.written) n u ≡ redo leaves mode t

pub record AllRedone (leaves : Leaves) (mode : Mode) (ts us : Trees) : Type 0 where
  pub so : (n : Mode) → redos (kept_at leaves.written) n us ≡ redos leaves mode ts

-- the same of a key
pub record RedoneKey (leaves : Leaves) (t u : Tree) : Type 0 where
  pub so : (n : Mode) → redo (kept_at leaves.written) n u ≡ leaves.key (redo leaves Plain t)
