-- The layout of a tree whose texts are UTF-8 is UTF-8: by induction, a line a node.
use Rattle.std.proofs.Common.{Bool, true, false, codes, refl}
use Rattle.tree_spec.specs.Tree.{Tree, Trees, none, more, script, es_module, import_decl, export_decl, named_export, export_default_decl, export_default_expr, export_all, import_named_specifier, import_default_specifier, import_star_as_specifier, export_namespace_specifier, export_named_specifier, block_stmt, with_stmt, return_stmt, labeled_stmt, break_stmt, continue_stmt, if_stmt, switch_stmt, switch_case, throw_stmt, try_stmt, catch_clause, while_stmt, do_while_stmt, for_stmt, for_in_stmt, for_of_stmt, expr_stmt, class_decl, fn_decl, var_decl, using_decl, var_declarator, function, param, decorator, class, constructor, class_method, private_method, class_prop, private_prop, static_block, auto_accessor, ident_name, computed_prop_name, private_name, array_lit, object_lit, fn_expr, unary_expr, update_expr, bin_expr, assign_expr, member_expr, super_prop_expr, cond_expr, call_expr, new_expr, seq_expr, ident, tpl, tpl_element, tagged_tpl, arrow_expr, class_expr, yield_expr, meta_prop_expr, await_expr, paren_expr, opt_chain_expr, opt_call, expr_or_spread, spread_element, key_value_prop, assign_prop, getter_prop, setter_prop, method_prop, str_lit, bool_lit, number_lit, big_int_lit, regex_lit, binding_ident, array_pat, rest_pat, object_pat, assign_pat, key_value_pat_prop, assign_pat_prop, expr_pat, list, absent}
use Rattle.print_layout_spec.specs.declared.look.Look.{Look}
use Rattle.print_layout_spec.specs.declared.look.Stand.{Stand}
use Rattle.print_layout_spec.specs.declared.look.Stand.TheVariants.{Alone, Operand, Body, Head, Key, Tagged}
use Rattle.print_layout_spec.specs.Looks.{Laid}
use Rattle.print_layout_spec.specs.Layout.{laid, statements, rows, separated, each, comma, comma_line, import_heads, named_items, first_namespace, template, is_named, is_no_namespace}
use Rattle.again_laws.proofs.tokens.Ascii.{ascii}
use Rattle.again_laws.specs.Derived.Redo.{Mode, Plain, Headed, Raw, quasi_mode, object_mode, chain_mode}
use Rattle.again_laws.specs.Derived.Every.{every, every_all}
use Rattle.again_laws.specs.Text.Texts.{HasText}
use Rattle.again_laws.proofs.text.LayoutUtf8.{Textual, ok, ◌▸◌, piece, given, when_text, if_text, maybe}
use Rattle.again_laws.proofs.text.PartUtf8 as Parts
use Rattle.again_laws.proofs.text.TextUtf8.{own_utf8, operator_utf8, sign_utf8}

module _ (look : Look) where
  mutual
    pub text_of : (m : Mode) (s : Stand) (t : Tree) → every HasText m t → Textual (laid look s t)
    -- programs and modules
    text_of m s (script span body shebang) h = maybe _ _ refl ▸ Parts.hashbang_text shebang h.0 ▸ statements_text Plain body h.1 ▸ maybe _ _ refl
    text_of m s (es_module span body shebang) h = maybe _ _ refl ▸ Parts.hashbang_text shebang h.0 ▸ statements_text Plain body h.1 ▸ maybe _ _ refl
    text_of m s (import_decl span specifiers src with_) h =
        ok refl ▸ ok refl ▸ if_text _ (piece refl) (maybe _ _ refl)
        ▸ Parts.imports_text look specifiers (import_heads_text false Plain specifiers h.1) (named_items_text is_named false Plain specifiers h.1)
        ▸ text_of Plain Key src h.2 ▸ Parts.attributes_text look with_ (text_of Plain Alone with_ h.3) ▸ ok refl
    text_of m s (import_named_specifier span local absent) h = ok refl ▸ text_of Plain Alone local h.1 ▸ ok refl
    text_of m s (import_named_specifier span local imported) h =
        ok refl ▸ text_of Plain Key imported h.2 ▸ ok refl ▸ ok refl ▸ ok refl ▸ text_of Plain Alone local h.1 ▸ ok refl
    text_of m s (import_default_specifier span local) h = text_of Plain Alone local h.1
    text_of m s (import_star_as_specifier span local) h = ok refl ▸ maybe _ _ refl ▸ ok refl ▸ ok refl ▸ text_of Plain Alone local h.1
    text_of m s (export_decl span (class_decl cs id (class at decorators body parent))) h =
        ok refl ▸ each_text Plain decorators h.1.2.1 ▸ ok refl ▸ ok refl ▸ ok refl
        ▸ Parts.class_head_text look id parent (text_of Plain Alone id h.1.1) (text_of Plain Alone parent h.1.2.3)
        ▸ Parts.class_tail_text look at body (rows_text false Plain body h.1.2.2)
    text_of m s (export_decl span decl) h = ok refl ▸ ok refl ▸ ok refl ▸ text_of Plain Alone decl h.1 ▸ Parts.exported_text span decl
    text_of m s (named_export span specifiers src with_) h =
        ok refl ▸ ok refl ▸ maybe _ _ refl ▸ first_namespace_text Plain specifiers h.1
        ▸ Parts.exports_text look specifiers (named_items_text is_no_namespace false Plain specifiers h.1)
        ▸ when_text _ (if_text _ (piece refl) (maybe _ _ refl) ▸ Parts.from_text look (text_of Plain Key src h.2) ▸ Parts.attributes_text look with_ (text_of Plain Alone with_ h.3))
        ▸ ok refl
    text_of m s (export_namespace_specifier span name) h = ok refl ▸ ok refl ▸ maybe _ _ refl ▸ ok refl ▸ ok refl ▸ text_of Plain Key name h.1 ▸ ok refl
    text_of m s (export_named_specifier span orig absent) h = ok refl ▸ text_of Plain Key orig h.1 ▸ ok refl
    text_of m s (export_named_specifier span orig exported) h =
        ok refl ▸ text_of Plain Key orig h.1 ▸ ok refl ▸ ok refl ▸ ok refl ▸ text_of Plain Key exported h.2 ▸ ok refl
    text_of m s (export_default_decl span (class_expr cs id (class at decorators body parent))) h =
        ok refl ▸ each_text Plain decorators h.1.2.1 ▸ ok refl ▸ ok refl ▸ ok refl ▸ ok refl ▸ ok refl
        ▸ Parts.class_head_text look id parent (text_of Plain Alone id h.1.1) (text_of Plain Alone parent h.1.2.3)
        ▸ Parts.class_tail_text look at body (rows_text false Plain body h.1.2.2)
    text_of m s (export_default_decl span decl) h = ok refl ▸ ok refl ▸ ok refl ▸ ok refl ▸ ok refl ▸ text_of Plain Alone decl h.1
    text_of m s (export_default_expr span e) h = ok refl ▸ ok refl ▸ ok refl ▸ ok refl ▸ maybe _ _ refl ▸ text_of Plain Alone e h.1 ▸ ok refl
    text_of m s (export_all span src with_) h =
        ok refl ▸ ok refl ▸ maybe _ _ refl ▸ ok refl ▸ maybe _ _ refl ▸ Parts.from_text look (text_of Plain Key src h.1)
        ▸ Parts.attributes_text look with_ (text_of Plain Alone with_ h.2) ▸ ok refl
    -- statements
    text_of m s (expr_stmt span e) h = text_of Plain Alone e h.1 ▸ ok refl
    text_of m s (with_stmt span obj body) h =
        ok refl ▸ ok refl ▸ ok refl ▸ maybe _ _ refl ▸ Parts.in_parens_text (text_of Plain Alone obj h.1) ▸ text_of Plain Alone body h.2
        ▸ Parts.closing_text look body
    text_of m s (return_stmt span arg) h = ok refl ▸ ok refl ▸ ok refl ▸ when_text _ (maybe _ _ refl ▸ text_of Plain Alone arg h.1) ▸ ok refl
    text_of m s (throw_stmt span arg) h = ok refl ▸ ok refl ▸ maybe _ _ refl ▸ text_of Plain Alone arg h.1 ▸ ok refl
    text_of m s (labeled_stmt span label body) h =
        ok refl ▸ text_of Plain Alone label h.1 ▸ ok refl ▸ maybe _ _ refl ▸ text_of Plain Alone body h.2 ▸ Parts.closing_text look body
    text_of m s (break_stmt span label) h = ok refl ▸ ok refl ▸ ok refl ▸ when_text _ (piece refl ▸ text_of Plain Alone label h.1) ▸ ok refl
    text_of m s (continue_stmt span label) h = ok refl ▸ ok refl ▸ ok refl ▸ when_text _ (piece refl ▸ text_of Plain Alone label h.1) ▸ ok refl
    text_of m s (if_stmt span test cons alt) h =
        ok refl ▸ ok refl ▸ ok refl ▸ maybe _ _ refl ▸ Parts.in_parens_text (text_of Plain Alone test h.1) ▸ maybe _ _ refl ▸ text_of Plain Alone cons h.2
        ▸ Parts.closing_text look cons
        ▸ when_text _ (when_text _ (maybe _ _ refl) ▸ piece refl ▸ maybe _ _ refl ▸ text_of Plain Alone alt h.3 ▸ Parts.closing_text look alt)
    text_of m s (switch_stmt span discriminant cases) h =
        ok refl ▸ ok refl ▸ ok refl ▸ Parts.in_parens_text (text_of Plain Alone discriminant h.1) ▸ ok refl
        ▸ Parts.indented_or_line_text look cases (rows_text false Plain cases h.2) ▸ ok refl
    text_of m s (switch_case span test body) h =
        ok refl ▸ if_text _ (piece refl ▸ maybe _ _ refl ▸ text_of Plain Alone test h.1) (piece refl) ▸ ok refl
        ▸ when_text _ (maybe _ _ refl ▸ maybe _ _ refl ▸ rows_text true Plain body h.2 ▸ maybe _ _ refl)
    text_of m s (try_stmt span block handler finalizer) h =
        ok refl ▸ ok refl ▸ ok refl ▸ maybe _ _ refl ▸ text_of Plain Alone block h.1 ▸ when_text _ (maybe _ _ refl ▸ text_of Plain Alone handler h.2)
        ▸ when_text _ (maybe _ _ refl ▸ piece refl ▸ text_of Plain Alone finalizer h.3)
    text_of m s (catch_clause span param_ body) h =
        ok refl ▸ ok refl ▸ maybe _ _ refl ▸ when_text _ (Parts.in_parens_text (text_of Plain Alone param_ h.1)) ▸ maybe _ _ refl ▸ text_of Plain Alone body h.2
    text_of m s (while_stmt span test body) h =
        ok refl ▸ ok refl ▸ ok refl ▸ Parts.in_parens_text (text_of Plain Alone test h.1) ▸ text_of Plain Alone body h.2 ▸ Parts.closing_text look body
    text_of m s (do_while_stmt span test body) h =
        ok refl ▸ ok refl ▸ ok refl ▸ maybe _ _ refl ▸ text_of Plain Alone body h.2 ▸ Parts.closing_text look body ▸ ok refl ▸ maybe _ _ refl
        ▸ Parts.in_parens_text (text_of Plain Alone test h.1) ▸ ok refl
    text_of m s (for_stmt span init test update body) h =
        ok refl ▸ ok refl ▸ ok refl ▸ ok refl ▸ text_of Plain Alone init h.1 ▸ ok refl ▸ when_text _ (maybe _ _ refl ▸ text_of Plain Alone test h.2) ▸ ok refl
        ▸ when_text _ (maybe _ _ refl ▸ text_of Plain Alone update h.3) ▸ ok refl ▸ text_of Plain Alone body h.4 ▸ Parts.closing_text look body
    text_of m s (for_in_stmt span left right body) h =
        ok refl ▸ ok refl ▸ ok refl ▸ ok refl ▸ text_of Plain Alone left h.1 ▸ maybe _ _ refl ▸ ok refl ▸ maybe _ _ refl ▸ text_of Plain Alone right h.2 ▸ ok refl
        ▸ text_of Plain Alone body h.3 ▸ Parts.closing_text look body
    text_of m s (for_of_stmt span is_await left right body) h =
        ok refl ▸ ok refl ▸ ok refl ▸ when_text _ (piece refl ▸ piece refl) ▸ maybe _ _ refl ▸ ok refl ▸ text_of Plain Alone left h.1 ▸ maybe _ _ refl ▸ ok refl
        ▸ maybe _ _ refl ▸ text_of Plain Alone right h.2 ▸ ok refl ▸ text_of Plain Alone body h.3 ▸ Parts.closing_text look body
    text_of m s (block_stmt span stmts) h = maybe _ _ refl ▸ ok refl ▸ Parts.indented_text look stmts (rows_text true Plain stmts h.1) ▸ ok refl
    -- declarations
    text_of m s (var_decl span kind decls) h =
        ok refl ▸ ok refl ▸ given (own_utf8 kind) ▸ if_text _ (maybe _ _ refl) (piece refl) ▸ separated_text (comma look) (Parts.comma_text look) Plain decls h.1
    text_of m s (using_decl span is_await decls) h =
        ok refl ▸ when_text _ (piece refl ▸ piece refl) ▸ ok refl ▸ ok refl ▸ separated_text (comma look) (Parts.comma_text look) Plain decls h.1
    text_of m s (var_declarator span name init) h = ok refl ▸ text_of Plain Alone name h.1 ▸ Parts.initial_text look init (text_of Plain Alone init h.2)
    text_of m s (fn_decl span id (function at params decorators body generates waits)) h =
        ok refl ▸ ok refl ▸ when_text _ (piece refl ▸ piece refl) ▸ ok refl ▸ if_text _ (piece refl ▸ maybe _ _ refl) (piece refl) ▸ text_of Plain Alone id h.1
        ▸ Parts.function_tail_text look (separated_text (comma look) (Parts.comma_text look) Plain params h.2.1) (text_of Plain Body body h.2.3)
    text_of m s (class_decl span id (class at decorators body parent)) h =
        ok refl ▸ each_text Plain decorators h.2.1 ▸ Parts.class_head_text look id parent (text_of Plain Alone id h.1) (text_of Plain Alone parent h.2.3)
        ▸ Parts.class_tail_text look at body (rows_text false Plain body h.2.2)
    -- functions and classes
    text_of m s (function at params decorators body generates waits) h =
        Parts.function_tail_text look (separated_text (comma look) (Parts.comma_text look) Plain params h.1) (text_of Plain Body body h.3)
    text_of m s (class at decorators body parent) h = Parts.class_tail_text look at body (rows_text false Plain body h.2)
    text_of m s (param span decorators pat) h = ok refl ▸ each_text Plain decorators h.1 ▸ text_of Plain Alone pat h.2 ▸ ok refl
    text_of m s (decorator span e) h = ok refl ▸ ok refl ▸ text_of Plain Alone e h.1 ▸ ok refl
    text_of m s (constructor span key params body) h =
        ok refl ▸ ok refl ▸ Parts.in_parens_text (separated_text (comma look) (Parts.comma_text look) Plain params h.2) ▸ text_of Plain Alone body h.3
    text_of m s (class_method span key (function at params decorators body generates waits) kind is_static) h =
        ok refl ▸ each_text Plain decorators h.2.2 ▸ when_text _ (piece refl ▸ Parts.after_static_text look kind generates waits key)
        ▸ Parts.method_start_text look kind generates waits key ▸ text_of Plain Key key h.1
        ▸ Parts.in_parens_text (separated_text (comma look) (Parts.comma_text look) Plain params h.2.1) ▸ maybe _ _ refl ▸ text_of Plain Alone body h.2.3
    text_of m s (private_method span key (function at params decorators body generates waits) kind is_static) h =
        ok refl ▸ when_text _ (piece refl ▸ piece refl) ▸ if_text _ (Parts.marks_text waits generates) (given (own_utf8 kind) ▸ piece refl)
        ▸ text_of Plain Key key h.1
        ▸ Parts.function_tail_text look (separated_text (comma look) (Parts.comma_text look) Plain params h.2.1) (text_of Plain Body body h.2.3)
    text_of m s (class_prop span key value is_static decorators) h =
        ok refl ▸ each_text Plain decorators h.3 ▸ when_text _ (piece refl ▸ piece refl) ▸ text_of Plain Key key h.1
        ▸ Parts.field_value_text look value (text_of Plain Alone value h.2) ▸ ok refl
    text_of m s (private_prop span key value is_static decorators) h =
        ok refl ▸ each_text Plain decorators h.3 ▸ when_text _ (piece refl ▸ piece refl) ▸ text_of Plain Key key h.1
        ▸ Parts.field_value_text look value (text_of Plain Alone value h.2) ▸ ok refl
    text_of m s (auto_accessor span key value is_static decorators) h =
        each_text Plain decorators h.3 ▸ when_text _ (piece refl ▸ piece refl) ▸ ok refl ▸ ok refl ▸ text_of Plain Key key h.1
        ▸ Parts.initial_text look value (text_of Plain Alone value h.2) ▸ ok refl
    text_of m s (static_block span body) h = ok refl ▸ ok refl ▸ text_of Plain Alone body h.1 ▸ ok refl
    -- keys and names
    text_of m s (ident_name span sym) h = if_text _ (Parts.key_word_text look span sym h) (Parts.name_text look span sym h)
    text_of m s (computed_prop_name span e) h = ok refl ▸ ok refl ▸ text_of Plain Alone e h.1 ▸ ok refl
    text_of m s (private_name span sym) h = Parts.hash_name_text look span sym h
    text_of m s (ident span sym) h = Parts.identifier_text look span sym h
    text_of m s (binding_ident span (ident at sym)) h = Parts.identifier_text look span sym h.1
    -- expressions
    text_of m s (meta_prop_expr span kind) h = ok refl ▸ if_text _ Parts.new_target_text Parts.import_meta_text
    text_of m s (array_lit span elems) h =
        ok refl ▸ ok refl
        ▸ Parts.indented_text look elems (separated_text (comma_line look) (Parts.comma_line_text look) Plain elems h.1 ▸ when_text _ (Parts.comma_text look))
        ▸ ok refl
    text_of m s (object_lit span props) h =
        ok refl ▸ ok refl ▸ Parts.indented_text look props (separated_text (comma_line look) (Parts.comma_line_text look) Plain props h.1) ▸ ok refl
    text_of m s (fn_expr span id (function at params decorators body generates waits)) h =
        ok refl ▸ ok refl ▸ when_text _ (piece refl ▸ piece refl) ▸ ok refl ▸ maybe _ _ refl ▸ when_text _ (piece refl ▸ text_of Plain Alone id h.1)
        ▸ Parts.function_tail_text look (separated_text (comma look) (Parts.comma_text look) Plain params h.2.1) (text_of Plain Body body h.2.3)
    text_of m s (class_expr span id (class at decorators body parent)) h =
        ok refl ▸ each_text Plain decorators h.2.1 ▸ Parts.class_head_text look id parent (text_of Plain Alone id h.1) (text_of Plain Alone parent h.2.3)
        ▸ Parts.class_tail_text look at body (rows_text false Plain body h.2.2)
    text_of m s (unary_expr span op arg) h = ok refl ▸ given (sign_utf8 op) ▸ if_text _ (maybe _ _ refl) (maybe _ _ refl) ▸ text_of Plain Alone arg h.1
    text_of m s (update_expr span op true arg) h = ok refl ▸ given (sign_utf8 op) ▸ text_of Plain Alone arg h.1
    text_of m s (update_expr span op false arg) h = ok refl ▸ text_of Plain Alone arg h.1 ▸ given (sign_utf8 op)
    text_of m s (bin_expr span op left right) h =
        maybe _ _ refl ▸ text_of Plain Operand left h.1 ▸ maybe _ _ refl ▸ given (operator_utf8 op) ▸ maybe _ _ refl ▸ text_of Plain Alone right h.2
    text_of m s (assign_expr span op left right) h =
        text_of Plain Alone left h.1 ▸ maybe _ _ refl ▸ given (operator_utf8 op) ▸ maybe _ _ refl ▸ text_of Plain Alone right h.2
    text_of m s (cond_expr span test cons alt) h =
        ok refl ▸ text_of Plain Alone test h.1 ▸ maybe _ _ refl ▸ ok refl ▸ maybe _ _ refl ▸ text_of Plain Alone cons h.2 ▸ maybe _ _ refl ▸ ok refl ▸ maybe _ _ refl
        ▸ text_of Plain Alone alt h.3
    text_of m s (call_expr span callee args) h =
        ok refl ▸ ok refl ▸ text_of Headed Head callee h.1 ▸ Parts.in_parens_text (separated_text (comma look) (Parts.comma_text look) Plain args h.2)
    text_of m s (new_expr span callee args) h =
        ok refl ▸ ok refl ▸ ok refl ▸ maybe _ _ refl ▸ text_of Headed Head callee h.1 ▸ when_text _ (Parts.in_parens_text (text_of Plain Alone args h.2))
    text_of m s (list items) h = separated_text (comma look) (Parts.comma_text look) Plain items h.1
    text_of m s (seq_expr span exprs) h = ok refl ▸ separated_text (comma look) (Parts.comma_text look) Plain exprs h.1
    text_of m s (member_expr span (number_lit at value raw) prop) h =
        ok refl ▸ Parts.number_before_text look at value raw prop h.1 ▸ Parts.point_before_text prop ▸ text_of Plain Alone prop h.2 ▸ ok refl
    text_of m s (member_expr span obj prop) h =
        ok refl ▸ text_of (object_mode m prop) Head obj h.1 ▸ Parts.point_before_text prop ▸ text_of Plain Alone prop h.2 ▸ ok refl
    text_of m s (super_prop_expr span obj prop) h = ok refl ▸ text_of Plain Alone obj h.1 ▸ Parts.point_before_text prop ▸ text_of Plain Alone prop h.2
    text_of m s (opt_chain_expr span optional (member_expr at (number_lit place value raw) prop)) h =
        if_text _ (piece refl ▸ Parts.number_text look place value raw h.1.1 ▸ Parts.optional_dot_text) (Parts.number_before_text look place value raw prop h.1.1 ▸ Parts.point_before_text prop)
        ▸ text_of Plain Alone prop h.1.2
    text_of m s (opt_chain_expr span optional (member_expr at obj prop)) h =
        text_of (object_mode (chain_mode optional) prop) Head obj h.1.1 ▸ Parts.optional_point_text optional prop ▸ text_of Plain Alone prop h.1.2
    text_of m s (opt_chain_expr span optional (opt_call at callee args)) h =
        text_of Headed Head callee h.1.1 ▸ when_text _ Parts.optional_dot_text
        ▸ Parts.in_parens_text (separated_text (comma look) (Parts.comma_text look) Plain args h.1.2)
    text_of m s (opt_call at callee args) h = text_of Headed Head callee h.1 ▸ Parts.in_parens_text (separated_text (comma look) (Parts.comma_text look) Plain args h.2)
    text_of m s (paren_expr span e) h = ok refl ▸ ok refl ▸ ok refl ▸ text_of Plain Alone e h.1 ▸ ok refl
    text_of m s (arrow_expr span params body waits) h =
        ok refl ▸ when_text _ (piece refl ▸ maybe _ _ refl)
        ▸ if_text _ (separated_text (comma look) (Parts.comma_text look) Plain params h.1) (Parts.in_parens_text (separated_text (comma look) (Parts.comma_text look) Plain params h.1))
        ▸ ok refl ▸ if_text _ (text_of Plain Body body h.2) (maybe _ _ refl ▸ text_of Plain Alone body h.2 ▸ maybe _ _ refl)
    text_of m s (yield_expr span arg true) h = ok refl ▸ ok refl ▸ ok refl ▸ when_text _ (maybe _ _ refl ▸ text_of Plain Alone arg h.1)
    text_of m s (yield_expr span arg false) h = ok refl ▸ ok refl ▸ when_text _ (maybe _ _ refl ▸ text_of Plain Alone arg h.1)
    text_of m s (await_expr span arg) h = ok refl ▸ ok refl ▸ ok refl ▸ text_of Plain Alone arg h.1
    text_of m s (expr_or_spread span spread e) h = maybe _ _ refl ▸ text_of Plain Alone e h.1
    text_of m s (spread_element span e) h = ok refl ▸ ok refl ▸ text_of Plain Alone e h.1 ▸ ok refl
    -- properties
    text_of m s (key_value_prop span key value) h = ok refl ▸ text_of Plain Key key h.1 ▸ ok refl ▸ maybe _ _ refl ▸ text_of Plain Alone value h.2
    text_of m s (assign_prop span key value) h = ok refl ▸ text_of Plain Alone key h.1 ▸ ok refl ▸ text_of Plain Alone value h.2
    text_of m s (getter_prop span key body) h =
        ok refl ▸ ok refl ▸ if_text _ (maybe _ _ refl) (piece refl) ▸ text_of Plain Key key h.1 ▸ maybe _ _ refl ▸ ok refl ▸ ok refl ▸ maybe _ _ refl
        ▸ text_of Plain Alone body h.2
    text_of m s (setter_prop span key param_ body) h =
        ok refl ▸ ok refl ▸ if_text _ (maybe _ _ refl) (piece refl) ▸ text_of Plain Key key h.1 ▸ maybe _ _ refl
        ▸ Parts.in_parens_text (text_of Plain Alone param_ h.2) ▸ text_of Plain Alone body h.3
    text_of m s (method_prop span key (function at params decorators body generates waits)) h =
        ok refl ▸ Parts.marks_text waits generates ▸ text_of Plain Key key h.1 ▸ maybe _ _ refl
        ▸ Parts.function_tail_text look (separated_text (comma look) (Parts.comma_text look) Plain params h.2.1) (text_of Plain Body body h.2.3)
    -- literals
    text_of m s (str_lit span units raw) h = Parts.as_expression_text s span ▸ Parts.string_text look span units raw h
    text_of m s (number_lit span value raw) h = Parts.as_expression_text s span ▸ Parts.number_text look span value raw h
    text_of m s (big_int_lit span radix digits raw) h = Parts.as_expression_text s span ▸ Parts.big_integer_text look span radix digits raw h
    text_of m s (bool_lit span true) h = ok refl
    text_of m s (bool_lit span false) h = ok refl
    text_of m s (regex_lit span body flags) h = ok refl ▸ record { so = ((ascii (codes "/") refl).utf8, (h.0, ((ascii (codes "/") refl).utf8, (h.1, tt)))) }
    -- templates
    text_of m s (tpl span exprs quasis) h =
        if_text _ (piece refl ▸ piece refl ▸ template_text s Plain (quasi_mode m) exprs quasis h.1 h.2 ▸ Parts.back_quote_text ▸ piece refl) Parts.refused_text
    text_of m s (tagged_tpl span tag tpl_) h = ok refl ▸ text_of Headed Head tag h.1 ▸ text_of Raw Tagged tpl_ h.2 ▸ ok refl
    text_of m s (tpl_element span is_last raw cooked) h = Parts.quasi_text look s m (tpl_element span is_last raw cooked) h
    -- patterns
    text_of m s (array_pat span elems) h =
        ok refl ▸ ok refl ▸ separated_text (comma look) (Parts.comma_text look) Plain elems h.1 ▸ when_text _ (Parts.comma_text look) ▸ ok refl
    text_of m s (object_pat span props) h =
        ok refl ▸ ok refl ▸ when_text _ (maybe _ _ refl ▸ separated_text (comma look) (Parts.comma_text look) Plain props h.1 ▸ maybe _ _ refl) ▸ ok refl
    text_of m s (rest_pat span dots arg) h = ok refl ▸ ok refl ▸ ok refl ▸ text_of Plain Alone arg h.1
    text_of m s (assign_pat span left right) h =
        ok refl ▸ text_of Plain Alone left h.1 ▸ maybe _ _ refl ▸ ok refl ▸ maybe _ _ refl ▸ text_of Plain Alone right h.2 ▸ ok refl
    text_of m s (key_value_pat_prop span key value) h = ok refl ▸ text_of Plain Key key h.1 ▸ ok refl ▸ maybe _ _ refl ▸ text_of Plain Alone value h.2 ▸ ok refl
    text_of m s (assign_pat_prop span key value) h = ok refl ▸ text_of Plain Alone key h.1 ▸ Parts.initial_text look value (text_of Plain Alone value h.2) ▸ ok refl
    text_of m s (expr_pat e) h = text_of Plain Alone e h.1
    text_of m s _ h = ok refl

    statements_text : (m : Mode) (ts : Trees) → every_all HasText m ts → Textual (statements look ts)
    statements_text m none h = ok refl
    statements_text m (more t ts) h = text_of m Alone t h.0 ▸ Parts.closing_text look t ▸ statements_text m ts h.1

    rows_text : (closed : Bool) (m : Mode) (ts : Trees) → every_all HasText m ts → Textual (rows look closed ts)
    rows_text closed m none h = ok refl
    rows_text closed m (more t none) h = text_of m Alone t h.0 ▸ when_text _ (Parts.closing_text look t)
    rows_text closed m (more t (more u ts)) h = text_of m Alone t h.0 ▸ when_text _ (Parts.closing_text look t) ▸ maybe _ _ refl ▸ rows_text closed m (more u ts) h.1

    separated_text : (between : Laid) → Textual between → (m : Mode) (ts : Trees) → every_all HasText m ts → Textual (separated look between ts)
    separated_text between x m none h = ok refl
    separated_text between x m (more t none) h = text_of m Alone t h.0
    separated_text between x m (more t (more u ts)) h = text_of m Alone t h.0 ▸ x ▸ separated_text between x m (more u ts) h.1

    each_text : (m : Mode) (ts : Trees) → every_all HasText m ts → Textual (each look ts)
    each_text m none h = ok refl
    each_text m (more t ts) h = text_of m Alone t h.0 ▸ each_text m ts h.1

    import_heads_text : (seen : Bool) (m : Mode) (ts : Trees) → every_all HasText m ts → Textual (import_heads look seen ts)
    import_heads_text seen m none h = ok refl
    import_heads_text seen m (more t ts) h =
        if_text _ (text_of m Alone t h.0 ▸ import_heads_text true m ts h.1)
        (if_text _ (import_heads_text seen m ts h.1) (when_text _ (Parts.comma_text look) ▸ text_of m Alone t h.0 ▸ import_heads_text seen m ts h.1))

    named_items_text : (stands : Tree → Bool) (started : Bool) (m : Mode) (ts : Trees) → every_all HasText m ts → Textual (named_items look stands started ts)
    named_items_text stands started m none h = ok refl
    named_items_text stands started m (more t ts) h =
        if_text _ (when_text _ (Parts.comma_text look) ▸ text_of m Alone t h.0 ▸ named_items_text stands true m ts h.1) (named_items_text stands started m ts h.1)

    first_namespace_text : (m : Mode) (ts : Trees) → every_all HasText m ts → Textual (first_namespace look ts)
    first_namespace_text m none h = ok refl
    first_namespace_text m (more t ts) h = if_text _ (text_of m Alone t h.0) (first_namespace_text m ts h.1)

    template_text : (s : Stand) (m n : Mode) (exprs quasis : Trees) → every_all HasText m exprs → every_all HasText n quasis → Textual (template look s exprs quasis)
    template_text s m n none none h k = ok refl
    template_text s m n none (more q none) h k = Parts.quasi_text look s n q k.0
    template_text s m n none (more q (more r qs)) h k = ok refl
    template_text s m n (more e es) none h k = ok refl
    template_text s m n (more e es) (more q none) h k = Parts.quasi_text look s n q k.0
    template_text s m n (more e es) (more q (more r qs)) h k = Parts.quasi_text look s n q k.0 ▸ ok refl ▸ text_of m Alone e h.0 ▸ ok refl ▸ template_text s m n es (more r qs) h.1 k.1
