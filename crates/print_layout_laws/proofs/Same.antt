-- The layout of a tree with or without places and raw texts is alike.
use Rattle.std.proofs.Common.{◌≡◌, ◌+◌, Bool, true, false, not, ◌&&◌, ◌||◌, ◌==◌, sym, ap, ap₂, subst}
use Rattle.base_token.specs.declared.place.Span.{Span}
use Rattle.tree_spec.specs.Places.{place_of}
use Rattle.tree_spec.specs.Tree.{Tree, Trees, none, more, script, es_module, import_decl, export_decl, named_export, export_default_decl, export_default_expr, export_all, import_named_specifier, import_default_specifier, import_star_as_specifier, export_namespace_specifier, export_named_specifier, block_stmt, debugger_stmt, with_stmt, return_stmt, labeled_stmt, break_stmt, continue_stmt, if_stmt, switch_stmt, switch_case, throw_stmt, try_stmt, catch_clause, while_stmt, do_while_stmt, for_stmt, for_in_stmt, for_of_stmt, expr_stmt, class_decl, fn_decl, var_decl, using_decl, var_declarator, function, param, decorator, class, constructor, class_method, private_method, class_prop, private_prop, static_block, auto_accessor, ident_name, computed_prop_name, private_name, this_expr, array_lit, object_lit, fn_expr, unary_expr, update_expr, bin_expr, assign_expr, member_expr, super_prop_expr, cond_expr, call_expr, new_expr, seq_expr, ident, tpl, tpl_element, tagged_tpl, arrow_expr, class_expr, yield_expr, meta_prop_expr, await_expr, paren_expr, opt_chain_expr, opt_call, super, import, expr_or_spread, spread_element, key_value_prop, assign_prop, getter_prop, setter_prop, method_prop, str_lit, bool_lit, null_lit, number_lit, big_int_lit, regex_lit, binding_ident, array_pat, rest_pat, object_pat, assign_pat, key_value_pat_prop, assign_pat_prop, expr_pat, list, absent}
use Rattle.print_layout_spec.specs.declared.look.Look.{Look}
use Rattle.print_layout_spec.specs.declared.look.Stand.{Stand}
use Rattle.print_layout_spec.specs.declared.look.Stand.TheVariants.{Alone, Operand, Body, Head, Key, Tagged}
use Rattle.print_layout_spec.specs.Looks.{formats, start}
use Rattle.print_layout_spec.specs.Layout.{laid, statements, rows, separated, each, import_heads, named_items, first_namespace, template, comma, comma_line, is_named, is_no_namespace, is_head}
use Rattle.print_layout_laws.specs.Bare.{bare, bares}
use Rattle.print_layout_laws.proofs.Alike.{Alike, same, ◌▸◌, if_same, if_alike, when_same, when_alike, start_alike, end_alike, last_alike}
use Rattle.print_layout_laws.proofs.Questions
use Rattle.print_layout_laws.proofs.Literals.{name_alike, identifier_alike, key_word_alike, hash_name_alike, string_alike, number_alike, big_integer_alike}
use Rattle.print_layout_laws.proofs.Parts

key_mark : (places raws : Bool) (key : Tree) → Alike places (start (place_of (bare places raws key))) (start (place_of key))
key_mark places raws key = subst (λ (at : Span). Alike places (start at) (start (place_of key))) (sym (Questions.bare_place places raws key)) (start_alike (place_of key))

module _ (places raws : Bool) (look : Look) (h : raws ≡ false → look.style.minify ≡ true) where
  mutual
    pub laid_alike : (s : Stand) (t : Tree) → Alike places (laid look s (bare places raws t)) (laid look s t)
    -- programs and modules
    laid_alike s (script span body shebang) = when_alike _ _ (Questions.same_is_empty places raws body) (start_alike span) ▸ same ▸ statements_alike body ▸ same
    laid_alike s (es_module span body shebang) = when_alike _ _ (Questions.same_is_empty places raws body) (start_alike span) ▸ same ▸ statements_alike body ▸ same
    laid_alike s (import_decl span specifiers src with_) =
        start_alike span ▸ same ▸ if_alike _ _ (Questions.same_starts_with_default places raws specifiers) same same
        ▸ Parts.imports_alike places raws look specifiers (import_heads_alike false specifiers) (named_items_alike is_named (Questions.same_is_named places raws) false specifiers)
        ▸ laid_alike Key src ▸ Parts.attributes_alike places raws look with_ (laid_alike Alone with_) ▸ same ▸ end_alike span
    laid_alike s (import_named_specifier span local absent) = start_alike span ▸ laid_alike Alone local ▸ end_alike span
    laid_alike s (import_named_specifier span local imported) = start_alike span ▸ laid_alike Key imported ▸ same ▸ same ▸ same ▸ laid_alike Alone local ▸ end_alike span
    laid_alike s (import_default_specifier span local) = laid_alike Alone local
    laid_alike s (import_star_as_specifier span local) = same ▸ same ▸ same ▸ same ▸ laid_alike Alone local
    laid_alike s (export_decl span (class_decl cs id (class at decorators body parent))) =
        start_alike span ▸ each_alike decorators ▸ same ▸ same ▸ start_alike cs ▸ Parts.class_head_alike places raws look id parent (laid_alike Alone id) (laid_alike Alone parent)
        ▸ Parts.class_tail_alike places raws look at body (rows_alike false body)
    laid_alike s (export_decl span decl) = start_alike span ▸ same ▸ same ▸ laid_alike Alone decl ▸ Parts.exported_alike places raws look span decl
    laid_alike s (named_export span specifiers src with_) =
        start_alike span ▸ same ▸ same ▸ first_namespace_alike specifiers
        ▸ Parts.exports_alike places raws look specifiers (named_items_alike is_no_namespace (Questions.same_is_no_namespace places raws) false specifiers)
        ▸ Parts.there_alike places raws look src
        (if_alike _ _ (ap₂ (λ b c. b && not c) (Questions.same_has_namespace places raws specifiers) (Questions.same_has_other places raws specifiers)) same same
        ▸ (same ▸ same ▸ laid_alike Key src) ▸ Parts.attributes_alike places raws look with_ (laid_alike Alone with_))
        ▸ same ▸ end_alike span
    laid_alike s (export_namespace_specifier span name) = start_alike span ▸ same ▸ same ▸ same ▸ same ▸ laid_alike Key name ▸ end_alike span
    laid_alike s (export_named_specifier span orig absent) = start_alike span ▸ laid_alike Key orig ▸ end_alike span
    laid_alike s (export_named_specifier span orig exported) = start_alike span ▸ laid_alike Key orig ▸ same ▸ same ▸ same ▸ laid_alike Key exported ▸ end_alike span
    laid_alike s (export_default_decl span (class_expr cs id (class at decorators body parent))) =
        start_alike span ▸ each_alike decorators ▸ same ▸ same ▸ same ▸ same ▸ start_alike cs ▸ Parts.class_head_alike places raws look id parent (laid_alike Alone id) (laid_alike Alone parent)
        ▸ Parts.class_tail_alike places raws look at body (rows_alike false body)
    laid_alike s (export_default_decl span decl) = start_alike span ▸ same ▸ same ▸ same ▸ same ▸ laid_alike Alone decl
    laid_alike s (export_default_expr span e) = start_alike span ▸ same ▸ same ▸ same ▸ Parts.before_word places raws look e ▸ laid_alike Alone e ▸ same ▸ end_alike span
    laid_alike s (export_all span src with_) =
        start_alike span ▸ same ▸ same ▸ same ▸ same ▸ (same ▸ same ▸ laid_alike Key src) ▸ Parts.attributes_alike places raws look with_ (laid_alike Alone with_) ▸ same ▸ end_alike span
    -- statements
    laid_alike s (expr_stmt span e) = laid_alike Alone e ▸ same
    laid_alike s (debugger_stmt span) = same ▸ start_alike span ▸ same ▸ end_alike span ▸ same
    laid_alike s (with_stmt span obj body) =
        same ▸ start_alike span ▸ same ▸ same ▸ Parts.in_parens_alike places raws look (laid_alike Alone obj) ▸ laid_alike Alone body ▸ Parts.closing_alike places raws look body
    laid_alike s (return_stmt span arg) =
        same ▸ start_alike span ▸ same ▸ Parts.there_alike places raws look arg (Parts.before_word places raws look arg ▸ laid_alike Alone arg) ▸ same
    laid_alike s (throw_stmt span arg) = start_alike span ▸ same ▸ Parts.before_word places raws look arg ▸ laid_alike Alone arg ▸ same
    laid_alike s (labeled_stmt span label body) = same ▸ laid_alike Alone label ▸ same ▸ same ▸ laid_alike Alone body ▸ Parts.closing_alike places raws look body
    laid_alike s (break_stmt span label) = same ▸ start_alike span ▸ same ▸ Parts.there_alike places raws look label (same ▸ laid_alike Alone label) ▸ same
    laid_alike s (continue_stmt span label) = same ▸ start_alike span ▸ same ▸ Parts.there_alike places raws look label (same ▸ laid_alike Alone label) ▸ same
    laid_alike s (if_stmt span test cons alt) =
        same ▸ start_alike span ▸ same ▸ same ▸ Parts.in_parens_alike places raws look (laid_alike Alone test) ▸ same ▸ laid_alike Alone cons ▸ Parts.closing_alike places raws look cons
        ▸ Parts.there_alike places raws look alt
        (when_alike _ _ (Questions.same_is_block places raws cons) same ▸ same ▸ Parts.before_word places raws look alt ▸ laid_alike Alone alt ▸ Parts.closing_alike places raws look alt)
    laid_alike s (switch_stmt span discriminant cases) =
        same ▸ start_alike span ▸ same ▸ Parts.in_parens_alike places raws look (laid_alike Alone discriminant) ▸ same
        ▸ Parts.indented_or_line_alike places raws look cases (rows_alike false cases) ▸ last_alike span ▸ same
    laid_alike s (switch_case span test body) =
        start_alike span ▸ if_alike _ _ (Questions.same_is_there places raws test) (same ▸ Parts.before_word places raws look test ▸ laid_alike Alone test) same ▸ same
        ▸ when_alike _ _ (ap (λ b. not b) (Questions.same_is_empty places raws body)) (same ▸ same ▸ rows_alike true body ▸ same)
    laid_alike s (try_stmt span block handler finalizer) =
        same ▸ start_alike span ▸ same ▸ same ▸ laid_alike Alone block ▸ Parts.there_alike places raws look handler (same ▸ laid_alike Alone handler)
        ▸ Parts.there_alike places raws look finalizer (same ▸ same ▸ laid_alike Alone finalizer)
    laid_alike s (catch_clause span param_ body) =
        start_alike span ▸ same ▸ same ▸ Parts.there_alike places raws look param_ (Parts.in_parens_alike places raws look (laid_alike Alone param_)) ▸ same ▸ laid_alike Alone body
    laid_alike s (while_stmt span test body) =
        same ▸ start_alike span ▸ same ▸ Parts.in_parens_alike places raws look (laid_alike Alone test) ▸ laid_alike Alone body ▸ Parts.closing_alike places raws look body
    laid_alike s (do_while_stmt span test body) =
        same ▸ start_alike span ▸ same ▸ Parts.before_word places raws look body ▸ laid_alike Alone body ▸ Parts.closing_alike places raws look body
        ▸ same ▸ same ▸ Parts.in_parens_alike places raws look (laid_alike Alone test) ▸ same ▸ end_alike span
    laid_alike s (for_stmt span init test update body) =
        same ▸ start_alike span ▸ same ▸ same ▸ laid_alike Alone init ▸ same ▸ Parts.there_alike places raws look test (same ▸ laid_alike Alone test)
        ▸ same ▸ Parts.there_alike places raws look update (same ▸ laid_alike Alone update) ▸ same ▸ laid_alike Alone body ▸ Parts.closing_alike places raws look body
    laid_alike s (for_in_stmt span left right body) =
        same ▸ start_alike span ▸ same ▸ same ▸ laid_alike Alone left ▸ Parts.behind_word places raws look left ▸ same ▸ Parts.before_word places raws look right
        ▸ laid_alike Alone right ▸ same ▸ laid_alike Alone body ▸ Parts.closing_alike places raws look body
    laid_alike s (for_of_stmt span is_await left right body) =
        same ▸ start_alike span ▸ same ▸ same ▸ same ▸ same ▸ laid_alike Alone left ▸ Parts.behind_word places raws look left ▸ same ▸ Parts.before_word places raws look right
        ▸ laid_alike Alone right ▸ same ▸ laid_alike Alone body ▸ Parts.closing_alike places raws look body
    laid_alike s (block_stmt span stmts) = when_same _ (start_alike span) ▸ same ▸ Parts.indented_alike places raws look stmts (rows_alike true stmts) ▸ last_alike span ▸ same
    -- declarations
    laid_alike s (var_decl span kind decls) = same ▸ start_alike span ▸ same ▸ if_alike _ _ (Questions.same_starts_bracketed places raws decls) same same ▸ commas_alike decls
    laid_alike s (using_decl span is_await decls) = same ▸ same ▸ same ▸ same ▸ commas_alike decls
    laid_alike s (var_declarator span name init) = start_alike span ▸ laid_alike Alone name ▸ Parts.initial_alike places raws look init (laid_alike Alone init)
    laid_alike s (fn_decl span id (function at params decorators body generates waits)) =
        same ▸ start_alike span ▸ same ▸ same ▸ same ▸ laid_alike Alone id ▸ Parts.function_tail_alike places raws look (commas_alike params) (laid_alike Body body)
    laid_alike s (class_decl span id (class at decorators body parent)) =
        start_alike span ▸ each_alike decorators ▸ Parts.class_head_alike places raws look id parent (laid_alike Alone id) (laid_alike Alone parent)
        ▸ Parts.class_tail_alike places raws look at body (rows_alike false body)
    -- functions and classes
    laid_alike s (function at params decorators body generates waits) = Parts.function_tail_alike places raws look (commas_alike params) (laid_alike Body body)
    laid_alike s (class at decorators body parent) = Parts.class_tail_alike places raws look at body (rows_alike false body)
    laid_alike s (param span decorators pat) = start_alike span ▸ each_alike decorators ▸ laid_alike Alone pat ▸ end_alike span
    laid_alike s (decorator span e) = start_alike span ▸ same ▸ laid_alike Alone e ▸ same ▸ end_alike span
    laid_alike s (constructor span key params body) = start_alike span ▸ same ▸ Parts.in_parens_alike places raws look (commas_alike params) ▸ laid_alike Alone body
    laid_alike s (class_method span key (function at params decorators body generates waits) kind is_static) =
        start_alike span ▸ each_alike decorators ▸ when_same _ (same ▸ Parts.after_static_alike places raws look kind generates waits key)
        ▸ Parts.method_start_alike places raws look kind generates waits key
        ▸ laid_alike Key key ▸ Parts.in_parens_alike places raws look (commas_alike params) ▸ same ▸ laid_alike Alone body
    laid_alike s (private_method span key (function at params decorators body generates waits) kind is_static) =
        start_alike span ▸ same ▸ same ▸ laid_alike Key key ▸ Parts.function_tail_alike places raws look (commas_alike params) (laid_alike Body body)
    laid_alike s (class_prop span key value is_static decorators) =
        start_alike span ▸ each_alike decorators ▸ same ▸ laid_alike Key key ▸ Parts.field_value_alike places raws look value (laid_alike Alone value) ▸ same ▸ end_alike span
    laid_alike s (private_prop span key value is_static decorators) =
        start_alike span ▸ each_alike decorators ▸ same ▸ laid_alike Key key ▸ Parts.field_value_alike places raws look value (laid_alike Alone value) ▸ same ▸ end_alike span
    laid_alike s (auto_accessor span key value is_static decorators) =
        each_alike decorators ▸ same ▸ same ▸ same ▸ laid_alike Key key ▸ Parts.initial_alike places raws look value (laid_alike Alone value) ▸ same
    laid_alike s (static_block span body) = start_alike span ▸ same ▸ laid_alike Alone body ▸ end_alike span
    -- keys and names
    laid_alike s (ident_name span sym) = if_same _ (key_word_alike places raws look h span sym) (name_alike places raws look h span sym)
    laid_alike s (computed_prop_name span e) = start_alike span ▸ same ▸ laid_alike Alone e ▸ same ▸ end_alike span
    laid_alike s (private_name span sym) = hash_name_alike places raws look h span sym
    laid_alike s (ident span sym) = identifier_alike places raws look h span sym
    laid_alike s (binding_ident span (ident at sym)) = identifier_alike places raws look h span sym
    -- expressions
    laid_alike s (this_expr span) = same ▸ start_alike span ▸ same ▸ end_alike span
    laid_alike s (super span) = same ▸ start_alike span ▸ same ▸ end_alike span
    laid_alike s (import span) = same ▸ start_alike span ▸ same ▸ end_alike span
    laid_alike s (meta_prop_expr span kind) = start_alike span ▸ same
    laid_alike s (array_lit span elems) =
        start_alike span ▸ same ▸ Parts.indented_alike places raws look elems (lines_alike elems ▸ when_alike _ _ (Questions.same_ends_with_hole places raws elems) same) ▸ same ▸ end_alike span
    laid_alike s (object_lit span props) = start_alike span ▸ same ▸ Parts.indented_alike places raws look props (lines_alike props) ▸ last_alike span ▸ same
    laid_alike s (fn_expr span id (function at params decorators body generates waits)) =
        same ▸ start_alike span ▸ same ▸ same ▸ same ▸ Parts.there_alike places raws look id (same ▸ laid_alike Alone id)
        ▸ Parts.function_tail_alike places raws look (commas_alike params) (laid_alike Body body)
    laid_alike s (class_expr span id (class at decorators body parent)) =
        start_alike span ▸ each_alike decorators ▸ Parts.class_head_alike places raws look id parent (laid_alike Alone id) (laid_alike Alone parent)
        ▸ Parts.class_tail_alike places raws look at body (rows_alike false body)
    laid_alike s (unary_expr span op arg) =
        start_alike span ▸ same ▸ if_same _ (Parts.before_word places raws look arg) (when_alike _ _ (Questions.same_gap_of_unary places raws op arg) same) ▸ laid_alike Alone arg
    laid_alike s (update_expr span op true arg) = start_alike span ▸ same ▸ laid_alike Alone arg
    laid_alike s (update_expr span op false arg) = start_alike span ▸ laid_alike Alone arg ▸ same
    laid_alike s (bin_expr span op left right) =
        when_same _ (start_alike span) ▸ laid_alike Operand left ▸ Parts.before_operator places raws look op left ▸ same ▸ Parts.behind_operator places raws look op right ▸ laid_alike Alone right
    laid_alike s (assign_expr span op left right) = laid_alike Alone left ▸ same ▸ same ▸ same ▸ laid_alike Alone right
    laid_alike s (cond_expr span test cons alt) =
        start_alike span ▸ laid_alike Alone test ▸ same ▸ same ▸ same ▸ laid_alike Alone cons ▸ same ▸ same ▸ same ▸ laid_alike Alone alt
    laid_alike s (call_expr span callee args) = same ▸ start_alike span ▸ laid_alike Head callee ▸ Parts.in_parens_alike places raws look (commas_alike args)
    laid_alike s (new_expr span callee args) =
        same ▸ start_alike span ▸ same ▸ Parts.before_word places raws look callee ▸ laid_alike Head callee
        ▸ when_alike _ _ (ap (λ b. formats look || (b || is_head s)) (Questions.same_has_arguments places raws args)) (Parts.in_parens_alike places raws look (laid_alike Alone args))
    laid_alike s (list items) = commas_alike items
    laid_alike s (seq_expr span exprs) = start_alike span ▸ commas_alike exprs
    laid_alike s (member_expr span (number_lit at value raw) prop) =
        start_alike span ▸ Parts.number_before_alike places raws look h at value raw prop ▸ Parts.point_before_alike places raws look prop ▸ laid_alike Alone prop ▸ end_alike span
    laid_alike s (member_expr span obj prop) = start_alike span ▸ laid_alike Head obj ▸ Parts.point_before_alike places raws look prop ▸ laid_alike Alone prop ▸ end_alike span
    laid_alike s (super_prop_expr span obj prop) = start_alike span ▸ laid_alike Alone obj ▸ Parts.point_before_alike places raws look prop ▸ laid_alike Alone prop
    laid_alike s (opt_chain_expr span optional (member_expr at (number_lit place value raw) prop)) =
        if_same _ (start_alike place ▸ number_alike places raws look h place value raw ▸ same) (Parts.number_before_alike places raws look h place value raw prop ▸ Parts.point_before_alike places raws look prop)
        ▸ laid_alike Alone prop
    laid_alike s (opt_chain_expr span optional (member_expr at obj prop)) = laid_alike Head obj ▸ Parts.optional_point_alike places raws look optional prop ▸ laid_alike Alone prop
    laid_alike s (opt_chain_expr span optional (opt_call at callee args)) = laid_alike Head callee ▸ same ▸ Parts.in_parens_alike places raws look (commas_alike args)
    laid_alike s (opt_call at callee args) = laid_alike Head callee ▸ Parts.in_parens_alike places raws look (commas_alike args)
    laid_alike s (paren_expr span e) = same ▸ start_alike span ▸ same ▸ laid_alike Alone e ▸ last_alike span ▸ same
    laid_alike s (arrow_expr span params body waits) =
        start_alike span ▸ when_same _ (same ▸ when_alike _ _ (ap (λ b. formats look || b) (Questions.same_is_one_name places raws params)) same)
        ▸ if_alike _ _ (ap (λ b. b && not (formats look)) (Questions.same_is_one_name places raws params)) (commas_alike params) (Parts.in_parens_alike places raws look (commas_alike params))
        ▸ same ▸ if_alike _ _ (Questions.same_is_block places raws body) (laid_alike Body body) (same ▸ laid_alike Alone body ▸ same)
    laid_alike s (yield_expr span arg true) = start_alike span ▸ same ▸ same ▸ Parts.there_alike places raws look arg (same ▸ laid_alike Alone arg)
    laid_alike s (yield_expr span arg false) = start_alike span ▸ same ▸ Parts.there_alike places raws look arg (Parts.before_word places raws look arg ▸ laid_alike Alone arg)
    laid_alike s (await_expr span arg) = start_alike span ▸ same ▸ same ▸ laid_alike Alone arg
    laid_alike s (expr_or_spread span spread e) = when_alike _ _ (Questions.same_spread places raws spread) same ▸ laid_alike Alone e
    laid_alike s (spread_element span e) = start_alike span ▸ same ▸ laid_alike Alone e ▸ end_alike span
    -- properties
    laid_alike s (key_value_prop span key value) = key_mark places raws key ▸ laid_alike Key key ▸ same ▸ same ▸ laid_alike Alone value
    laid_alike s (assign_prop span key value) = start_alike span ▸ laid_alike Alone key ▸ same ▸ laid_alike Alone value
    laid_alike s (getter_prop span key body) =
        start_alike span ▸ same ▸ if_alike _ _ (Questions.same_is_bracketed_key places raws key) same same ▸ laid_alike Key key ▸ same ▸ same ▸ same ▸ same ▸ laid_alike Alone body
    laid_alike s (setter_prop span key param_ body) =
        start_alike span ▸ same ▸ if_alike _ _ (Questions.same_is_bracketed_key places raws key) same same ▸ laid_alike Key key ▸ same
        ▸ Parts.in_parens_alike places raws look (laid_alike Alone param_) ▸ laid_alike Alone body
    laid_alike s (method_prop span key (function at params decorators body generates waits)) =
        start_alike span ▸ same ▸ laid_alike Key key ▸ same ▸ Parts.function_tail_alike places raws look (commas_alike params) (laid_alike Body body)
    -- literals
    laid_alike s (str_lit span units raw) = Parts.as_expression_alike places raws look s span ▸ string_alike places raws look h span units raw
    laid_alike s (number_lit span value raw) = Parts.as_expression_alike places raws look s span ▸ number_alike places raws look h span value raw
    laid_alike s (big_int_lit span radix digits raw) = Parts.as_expression_alike places raws look s span ▸ big_integer_alike places raws look h span radix digits raw
    laid_alike s (bool_lit span value) = start_alike span ▸ same
    laid_alike s (null_lit span) = start_alike span ▸ same
    laid_alike s (regex_lit span body flags) = start_alike span ▸ same
    -- templates
    laid_alike s (tpl span exprs quasis) =
        if_alike _ _ (ap₂ (λ n m. n == m + 1) (Questions.same_count places raws quasis) (Questions.same_count places raws exprs))
        (start_alike span ▸ same ▸ template_alike s exprs quasis ▸ same ▸ end_alike span) same
    laid_alike s (tagged_tpl span tag tpl_) = start_alike span ▸ laid_alike Head tag ▸ laid_alike Tagged tpl_ ▸ end_alike span
    laid_alike s (tpl_element span is_last raw cooked) = Parts.quasi_alike places raws look s (tpl_element span is_last raw cooked)
    -- patterns
    laid_alike s (array_pat span elems) = start_alike span ▸ same ▸ commas_alike elems ▸ when_alike _ _ (Questions.same_ends_with_hole places raws elems) same ▸ same ▸ end_alike span
    laid_alike s (object_pat span props) =
        start_alike span ▸ same ▸ when_alike _ _ (ap (λ b. not b) (Questions.same_is_empty places raws props)) (same ▸ commas_alike props ▸ same) ▸ same ▸ end_alike span
    laid_alike s (rest_pat span dots arg) = start_alike dots ▸ same ▸ end_alike dots ▸ laid_alike Alone arg
    laid_alike s (assign_pat span left right) = start_alike span ▸ laid_alike Alone left ▸ same ▸ same ▸ same ▸ laid_alike Alone right ▸ end_alike span
    laid_alike s (key_value_pat_prop span key value) = start_alike span ▸ laid_alike Key key ▸ same ▸ same ▸ laid_alike Alone value ▸ end_alike span
    laid_alike s (assign_pat_prop span key value) = start_alike span ▸ laid_alike Alone key ▸ Parts.initial_alike places raws look value (laid_alike Alone value) ▸ end_alike span
    laid_alike s (expr_pat e) = laid_alike Alone e
    laid_alike s _ = same

    statements_alike : (ts : Trees) → Alike places (statements look (bares places raws ts)) (statements look ts)
    statements_alike none = same
    statements_alike (more t ts) = laid_alike Alone t ▸ Parts.closing_alike places raws look t ▸ statements_alike ts

    rows_alike : (closed : Bool) (ts : Trees) → Alike places (rows look closed (bares places raws ts)) (rows look closed ts)
    rows_alike closed none = same
    rows_alike closed (more t none) = laid_alike Alone t ▸ when_same _ (Parts.closing_alike places raws look t)
    rows_alike closed (more t (more u ts)) = laid_alike Alone t ▸ when_same _ (Parts.closing_alike places raws look t) ▸ same ▸ rows_alike closed (more u ts)

    commas_alike : (ts : Trees) → Alike places (separated look (comma look) (bares places raws ts)) (separated look (comma look) ts)
    commas_alike none = same
    commas_alike (more t none) = laid_alike Alone t
    commas_alike (more t (more u ts)) = laid_alike Alone t ▸ same ▸ commas_alike (more u ts)

    lines_alike : (ts : Trees) → Alike places (separated look (comma_line look) (bares places raws ts)) (separated look (comma_line look) ts)
    lines_alike none = same
    lines_alike (more t none) = laid_alike Alone t
    lines_alike (more t (more u ts)) = laid_alike Alone t ▸ same ▸ lines_alike (more u ts)

    each_alike : (ts : Trees) → Alike places (each look (bares places raws ts)) (each look ts)
    each_alike none = same
    each_alike (more t ts) = laid_alike Alone t ▸ each_alike ts

    import_heads_alike : (seen : Bool) (ts : Trees) → Alike places (import_heads look seen (bares places raws ts)) (import_heads look seen ts)
    import_heads_alike seen none = same
    import_heads_alike seen (more t ts) =
        if_alike _ _ (Questions.same_is_default places raws t) (laid_alike Alone t ▸ import_heads_alike true ts)
        (if_alike _ _ (Questions.same_is_named places raws t) (import_heads_alike seen ts) (same ▸ laid_alike Alone t ▸ import_heads_alike seen ts))

    named_items_alike : (stands : Tree → Bool) → ((t : Tree) → stands (bare places raws t) ≡ stands t) → (started : Bool) (ts : Trees)
        → Alike places (named_items look stands started (bares places raws ts)) (named_items look stands started ts)
    named_items_alike stands e started none = same
    named_items_alike stands e started (more t ts) = if_alike _ _ (e t) (same ▸ laid_alike Alone t ▸ named_items_alike stands e true ts) (named_items_alike stands e started ts)

    first_namespace_alike : (ts : Trees) → Alike places (first_namespace look (bares places raws ts)) (first_namespace look ts)
    first_namespace_alike none = same
    first_namespace_alike (more t ts) = if_alike _ _ (Questions.same_is_namespace places raws t) (laid_alike Alone t) (first_namespace_alike ts)

    template_alike : (s : Stand) (exprs quasis : Trees) → Alike places (template look s (bares places raws exprs) (bares places raws quasis)) (template look s exprs quasis)
    template_alike s none none = same
    template_alike s none (more q none) = Parts.quasi_alike places raws look s q
    template_alike s none (more q (more r qs)) = same
    template_alike s (more e es) none = same
    template_alike s (more e es) (more q none) = Parts.quasi_alike places raws look s q
    template_alike s (more e es) (more q (more r qs)) = Parts.quasi_alike places raws look s q ▸ same ▸ laid_alike Alone e ▸ same ▸ template_alike s es (more r qs)
