-- Of a tree that is given anew: a relation that each node keeps holds between what is folded of it and of the tree.
use Rattle.std.proofs.Common.{◌≡◌, Bool, List, [], ◌∷◌, refl, ap₂}
use Rattle.tree_spec.specs.Tree.{Tree, Trees, none, more, script, es_module, import_decl, export_decl, named_export, export_default_decl, export_default_expr, export_all, import_named_specifier, import_default_specifier, import_star_as_specifier, export_namespace_specifier, export_default_specifier, export_named_specifier, block_stmt, empty_stmt, debugger_stmt, with_stmt, return_stmt, labeled_stmt, break_stmt, continue_stmt, if_stmt, switch_stmt, switch_case, throw_stmt, try_stmt, catch_clause, while_stmt, do_while_stmt, for_stmt, for_in_stmt, for_of_stmt, expr_stmt, class_decl, fn_decl, var_decl, using_decl, var_declarator, function, param, decorator, class, constructor, class_method, private_method, class_prop, private_prop, static_block, auto_accessor, ident_name, computed_prop_name, private_name, this_expr, array_lit, object_lit, fn_expr, unary_expr, update_expr, bin_expr, assign_expr, member_expr, super_prop_expr, cond_expr, call_expr, new_expr, seq_expr, ident, tpl, tpl_element, tagged_tpl, arrow_expr, class_expr, yield_expr, meta_prop_expr, await_expr, paren_expr, opt_chain_expr, opt_call, super, import, invalid, expr_or_spread, spread_element, key_value_prop, assign_prop, getter_prop, setter_prop, method_prop, str_lit, bool_lit, null_lit, number_lit, big_int_lit, regex_lit, binding_ident, array_pat, rest_pat, object_pat, assign_pat, key_value_pat_prop, assign_pat_prop, expr_pat, invalid_pat, invalid_target, list, absent, hole}
use Rattle.tree_spec.specs.Folds.{fold, folds}
use Rattle.again_laws.specs.Derived.Redo.{Mode, Plain, Headed, Raw, is_head, object_mode, chain_mode, quasi_mode, Leaves, redo, redos}
use Rattle.again_laws.specs.Derived.Every.{every, every_all}

-- what holds of each node in each place holds of each in a tree
module _ (P : Mode → Tree → Type 0) (f : (m : Mode) (t : Tree) → P m t) where
  mutual
    pub everywhere : (mode : Mode) (t : Tree) → every P mode t
    everywhere mode (script span body shebang) = (f mode (script span body shebang), everywhere_all Plain body)
    everywhere mode (es_module span body shebang) = (f mode (es_module span body shebang), everywhere_all Plain body)
    everywhere mode (import_decl span specifiers src with_) = (f mode (import_decl span specifiers src with_), everywhere_all Plain specifiers, everywhere Plain src, everywhere Plain with_)
    everywhere mode (export_decl span decl) = (f mode (export_decl span decl), everywhere Plain decl)
    everywhere mode (named_export span specifiers src with_) = (f mode (named_export span specifiers src with_), everywhere_all Plain specifiers, everywhere Plain src, everywhere Plain with_)
    everywhere mode (export_default_decl span decl) = (f mode (export_default_decl span decl), everywhere Plain decl)
    everywhere mode (export_default_expr span expr) = (f mode (export_default_expr span expr), everywhere Plain expr)
    everywhere mode (export_all span src with_) = (f mode (export_all span src with_), everywhere Plain src, everywhere Plain with_)
    everywhere mode (import_named_specifier span local imported) = (f mode (import_named_specifier span local imported), everywhere Plain local, everywhere Plain imported)
    everywhere mode (import_default_specifier span local) = (f mode (import_default_specifier span local), everywhere Plain local)
    everywhere mode (import_star_as_specifier span local) = (f mode (import_star_as_specifier span local), everywhere Plain local)
    everywhere mode (export_namespace_specifier span name) = (f mode (export_namespace_specifier span name), everywhere Plain name)
    everywhere mode (export_default_specifier span exported) = (f mode (export_default_specifier span exported), everywhere Plain exported)
    everywhere mode (export_named_specifier span orig exported) = (f mode (export_named_specifier span orig exported), everywhere Plain orig, everywhere Plain exported)
    everywhere mode (block_stmt span stmts) = (f mode (block_stmt span stmts), everywhere_all Plain stmts)
    everywhere mode (empty_stmt span) = f mode (empty_stmt span)
    everywhere mode (debugger_stmt span) = f mode (debugger_stmt span)
    everywhere mode (with_stmt span obj body) = (f mode (with_stmt span obj body), everywhere Plain obj, everywhere Plain body)
    everywhere mode (return_stmt span arg) = (f mode (return_stmt span arg), everywhere Plain arg)
    everywhere mode (labeled_stmt span label body) = (f mode (labeled_stmt span label body), everywhere Plain label, everywhere Plain body)
    everywhere mode (break_stmt span label) = (f mode (break_stmt span label), everywhere Plain label)
    everywhere mode (continue_stmt span label) = (f mode (continue_stmt span label), everywhere Plain label)
    everywhere mode (if_stmt span test cons alt) = (f mode (if_stmt span test cons alt), everywhere Plain test, everywhere Plain cons, everywhere Plain alt)
    everywhere mode (switch_stmt span discriminant cases) = (f mode (switch_stmt span discriminant cases), everywhere Plain discriminant, everywhere_all Plain cases)
    everywhere mode (switch_case span test cons) = (f mode (switch_case span test cons), everywhere Plain test, everywhere_all Plain cons)
    everywhere mode (throw_stmt span arg) = (f mode (throw_stmt span arg), everywhere Plain arg)
    everywhere mode (try_stmt span block handler finalizer) = (f mode (try_stmt span block handler finalizer), everywhere Plain block, everywhere Plain handler, everywhere Plain finalizer)
    everywhere mode (catch_clause span param_ body) = (f mode (catch_clause span param_ body), everywhere Plain param_, everywhere Plain body)
    everywhere mode (while_stmt span test body) = (f mode (while_stmt span test body), everywhere Plain test, everywhere Plain body)
    everywhere mode (do_while_stmt span test body) = (f mode (do_while_stmt span test body), everywhere Plain test, everywhere Plain body)
    everywhere mode (for_stmt span init test update body) = (f mode (for_stmt span init test update body), everywhere Plain init, everywhere Plain test, everywhere Plain update, everywhere Plain body)
    everywhere mode (for_in_stmt span left right body) = (f mode (for_in_stmt span left right body), everywhere Plain left, everywhere Plain right, everywhere Plain body)
    everywhere mode (for_of_stmt span is_await left right body) = (f mode (for_of_stmt span is_await left right body), everywhere Plain left, everywhere Plain right, everywhere Plain body)
    everywhere mode (expr_stmt span expr) = (f mode (expr_stmt span expr), everywhere Plain expr)
    everywhere mode (class_decl span ident_ class_) = (f mode (class_decl span ident_ class_), everywhere Plain ident_, everywhere Plain class_)
    everywhere mode (fn_decl span ident_ function_) = (f mode (fn_decl span ident_ function_), everywhere Plain ident_, everywhere Plain function_)
    everywhere mode (var_decl span kind decls) = (f mode (var_decl span kind decls), everywhere_all Plain decls)
    everywhere mode (using_decl span is_await decls) = (f mode (using_decl span is_await decls), everywhere_all Plain decls)
    everywhere mode (var_declarator span name init) = (f mode (var_declarator span name init), everywhere Plain name, everywhere Plain init)
    everywhere mode (function span params decorators body is_generator is_async) = (f mode (function span params decorators body is_generator is_async), everywhere_all Plain params, everywhere_all Plain decorators, everywhere Plain body)
    everywhere mode (param span decorators pat) = (f mode (param span decorators pat), everywhere_all Plain decorators, everywhere Plain pat)
    everywhere mode (decorator span expr) = (f mode (decorator span expr), everywhere Plain expr)
    everywhere mode (class span decorators body super_class) = (f mode (class span decorators body super_class), everywhere_all Plain decorators, everywhere_all Plain body, everywhere Plain super_class)
    everywhere mode (constructor span key params body) = (f mode (constructor span key params body), everywhere Plain key, everywhere_all Plain params, everywhere Plain body)
    everywhere mode (class_method span key function_ kind is_static) = (f mode (class_method span key function_ kind is_static), everywhere Plain key, everywhere Plain function_)
    everywhere mode (private_method span key function_ kind is_static) = (f mode (private_method span key function_ kind is_static), everywhere Plain key, everywhere Plain function_)
    everywhere mode (class_prop span key value is_static decorators) = (f mode (class_prop span key value is_static decorators), everywhere Plain key, everywhere Plain value, everywhere_all Plain decorators)
    everywhere mode (private_prop span key value is_static decorators) = (f mode (private_prop span key value is_static decorators), everywhere Plain key, everywhere Plain value, everywhere_all Plain decorators)
    everywhere mode (static_block span body) = (f mode (static_block span body), everywhere Plain body)
    everywhere mode (auto_accessor span key value is_static decorators) = (f mode (auto_accessor span key value is_static decorators), everywhere Plain key, everywhere Plain value, everywhere_all Plain decorators)
    everywhere mode (ident_name span sym) = f mode (ident_name span sym)
    everywhere mode (computed_prop_name span expr) = (f mode (computed_prop_name span expr), everywhere Plain expr)
    everywhere mode (private_name span name) = f mode (private_name span name)
    everywhere mode (this_expr span) = f mode (this_expr span)
    everywhere mode (array_lit span elems) = (f mode (array_lit span elems), everywhere_all Plain elems)
    everywhere mode (object_lit span props) = (f mode (object_lit span props), everywhere_all Plain props)
    everywhere mode (fn_expr span ident_ function_) = (f mode (fn_expr span ident_ function_), everywhere Plain ident_, everywhere Plain function_)
    everywhere mode (unary_expr span op arg) = (f mode (unary_expr span op arg), everywhere Plain arg)
    everywhere mode (update_expr span op prefix arg) = (f mode (update_expr span op prefix arg), everywhere Plain arg)
    everywhere mode (bin_expr span op left right) = (f mode (bin_expr span op left right), everywhere Plain left, everywhere Plain right)
    everywhere mode (assign_expr span op left right) = (f mode (assign_expr span op left right), everywhere Plain left, everywhere Plain right)
    everywhere mode (member_expr span obj prop) = (f mode (member_expr span obj prop), everywhere (object_mode mode prop) obj, everywhere Plain prop)
    everywhere mode (super_prop_expr span obj prop) = (f mode (super_prop_expr span obj prop), everywhere Plain obj, everywhere Plain prop)
    everywhere mode (cond_expr span test cons alt) = (f mode (cond_expr span test cons alt), everywhere Plain test, everywhere Plain cons, everywhere Plain alt)
    everywhere mode (call_expr span callee args) = (f mode (call_expr span callee args), everywhere Headed callee, everywhere_all Plain args)
    everywhere mode (new_expr span callee args) = (f mode (new_expr span callee args), everywhere Headed callee, everywhere Plain args)
    everywhere mode (seq_expr span exprs) = (f mode (seq_expr span exprs), everywhere_all Plain exprs)
    everywhere mode (ident span sym) = f mode (ident span sym)
    everywhere mode (tpl span exprs quasis) = (f mode (tpl span exprs quasis), everywhere_all Plain exprs, everywhere_all (quasi_mode mode) quasis)
    everywhere mode (tpl_element span tail raw cooked) = f mode (tpl_element span tail raw cooked)
    everywhere mode (tagged_tpl span tag tpl_) = (f mode (tagged_tpl span tag tpl_), everywhere Headed tag, everywhere Raw tpl_)
    everywhere mode (arrow_expr span params body is_async) = (f mode (arrow_expr span params body is_async), everywhere_all Plain params, everywhere Plain body)
    everywhere mode (class_expr span ident_ class_) = (f mode (class_expr span ident_ class_), everywhere Plain ident_, everywhere Plain class_)
    everywhere mode (yield_expr span arg delegate) = (f mode (yield_expr span arg delegate), everywhere Plain arg)
    everywhere mode (meta_prop_expr span kind) = f mode (meta_prop_expr span kind)
    everywhere mode (await_expr span arg) = (f mode (await_expr span arg), everywhere Plain arg)
    everywhere mode (paren_expr span expr) = (f mode (paren_expr span expr), everywhere Plain expr)
    everywhere mode (opt_chain_expr span optional base) = (f mode (opt_chain_expr span optional base), everywhere (chain_mode optional) base)
    everywhere mode (opt_call span callee args) = (f mode (opt_call span callee args), everywhere Headed callee, everywhere_all Plain args)
    everywhere mode (super span) = f mode (super span)
    everywhere mode (import span) = f mode (import span)
    everywhere mode (invalid span) = f mode (invalid span)
    everywhere mode (expr_or_spread span spread expr) = (f mode (expr_or_spread span spread expr), everywhere Plain expr)
    everywhere mode (spread_element span expr) = (f mode (spread_element span expr), everywhere Plain expr)
    everywhere mode (key_value_prop span key value) = (f mode (key_value_prop span key value), everywhere Plain key, everywhere Plain value)
    everywhere mode (assign_prop span key value) = (f mode (assign_prop span key value), everywhere Plain key, everywhere Plain value)
    everywhere mode (getter_prop span key body) = (f mode (getter_prop span key body), everywhere Plain key, everywhere Plain body)
    everywhere mode (setter_prop span key param_ body) = (f mode (setter_prop span key param_ body), everywhere Plain key, everywhere Plain param_, everywhere Plain body)
    everywhere mode (method_prop span key function_) = (f mode (method_prop span key function_), everywhere Plain key, everywhere Plain function_)
    everywhere mode (str_lit span units raw) = f mode (str_lit span units raw)
    everywhere mode (bool_lit span value) = f mode (bool_lit span value)
    everywhere mode (null_lit span) = f mode (null_lit span)
    everywhere mode (number_lit span value raw) = f mode (number_lit span value raw)
    everywhere mode (big_int_lit span radix digits raw) = f mode (big_int_lit span radix digits raw)
    everywhere mode (regex_lit span exp flags) = f mode (regex_lit span exp flags)
    everywhere mode (binding_ident span id) = (f mode (binding_ident span id), everywhere Plain id)
    everywhere mode (array_pat span elems) = (f mode (array_pat span elems), everywhere_all Plain elems)
    everywhere mode (rest_pat span dot3_token arg) = (f mode (rest_pat span dot3_token arg), everywhere Plain arg)
    everywhere mode (object_pat span props) = (f mode (object_pat span props), everywhere_all Plain props)
    everywhere mode (assign_pat span left right) = (f mode (assign_pat span left right), everywhere Plain left, everywhere Plain right)
    everywhere mode (key_value_pat_prop span key value) = (f mode (key_value_pat_prop span key value), everywhere Plain key, everywhere Plain value)
    everywhere mode (assign_pat_prop span key value) = (f mode (assign_pat_prop span key value), everywhere Plain key, everywhere Plain value)
    everywhere mode (expr_pat expr) = (f mode (expr_pat expr), everywhere Plain expr)
    everywhere mode (invalid_pat span) = f mode (invalid_pat span)
    everywhere mode (invalid_target span) = f mode (invalid_target span)
    everywhere mode (list items) = (f mode (list items), everywhere_all Plain items)
    everywhere mode absent = f mode absent
    everywhere mode hole = f mode hole

    pub everywhere_all : (mode : Mode) (ts : Trees) → every_all P mode ts
    everywhere_all mode none = tt
    everywhere_all mode (more t ts) = (everywhere mode t, everywhere_all mode ts)

module _ {A : Type 0} (R : A → A → Type 0) where
  -- related one by one, and field by field
  abbrev pub All : List A → List A → Type 0
  All [] [] = Unit {0}
  All (x ∷ xs) (y ∷ ys) = R x y × All xs ys
  All _ _ = ⊥

  abbrev pub Kids : List (List A) → List (List A) → Type 0
  Kids [] [] = Unit {0}
  Kids (x ∷ xs) (y ∷ ys) = All x y × Kids xs ys
  Kids _ _ = ⊥

  module _ (P : Mode → Tree → Type 0) (step : Tree → List (List A) → A) (leaves : Leaves) where
    -- what each node keeps, and the parts that are given anew
    pub record Keeps : Type 0 where
      pub node : (m : Mode) (t : Tree) → every P m t → (us vs : List (List A)) → Kids us vs → R (step (redo leaves m t) us) (step t vs)
      pub arguments : (b : Bool) (a : Tree) → R (fold step (redo leaves Plain a)) (fold step a) → R (fold step (leaves.arguments b (redo leaves Plain a))) (fold step a)
      pub key : (k : Tree) → every P Plain k → R (fold step (redo leaves Plain k)) (fold step k) → R (fold step (leaves.key (redo leaves Plain k))) (fold step k)
      pub constructor_key : (k : Tree) → every P Plain k → R (fold step (redo leaves Plain k)) (fold step k) → R (fold step (leaves.constructor_key (redo leaves Plain k))) (fold step k)

    module _ (keeps : Keeps) where
      mutual
        pub folded : (mode : Mode) (t : Tree) → every P mode t → R (fold step (redo leaves mode t)) (fold step t)
        folded mode (script span body shebang) e = keeps.node mode (script span body shebang) e _ _ (folded_all Plain body e.1, tt)
        folded mode (es_module span body shebang) e = keeps.node mode (es_module span body shebang) e _ _ (folded_all Plain body e.1, tt)
        folded mode (import_decl span specifiers src with_) e = keeps.node mode (import_decl span specifiers src with_) e _ _ (folded_all Plain specifiers e.1, ((folded Plain src e.2, tt), ((folded Plain with_ e.3, tt), tt)))
        folded mode (export_decl span decl) e = keeps.node mode (export_decl span decl) e _ _ ((folded Plain decl e.1, tt), tt)
        folded mode (named_export span specifiers src with_) e = keeps.node mode (named_export span specifiers src with_) e _ _ (folded_all Plain specifiers e.1, ((folded Plain src e.2, tt), ((folded Plain with_ e.3, tt), tt)))
        folded mode (export_default_decl span decl) e = keeps.node mode (export_default_decl span decl) e _ _ ((folded Plain decl e.1, tt), tt)
        folded mode (export_default_expr span expr) e = keeps.node mode (export_default_expr span expr) e _ _ ((folded Plain expr e.1, tt), tt)
        folded mode (export_all span src with_) e = keeps.node mode (export_all span src with_) e _ _ ((folded Plain src e.1, tt), ((folded Plain with_ e.2, tt), tt))
        folded mode (import_named_specifier span local imported) e = keeps.node mode (import_named_specifier span local imported) e _ _ ((folded Plain local e.1, tt), ((folded Plain imported e.2, tt), tt))
        folded mode (import_default_specifier span local) e = keeps.node mode (import_default_specifier span local) e _ _ ((folded Plain local e.1, tt), tt)
        folded mode (import_star_as_specifier span local) e = keeps.node mode (import_star_as_specifier span local) e _ _ ((folded Plain local e.1, tt), tt)
        folded mode (export_namespace_specifier span name) e = keeps.node mode (export_namespace_specifier span name) e _ _ ((folded Plain name e.1, tt), tt)
        folded mode (export_default_specifier span exported) e = keeps.node mode (export_default_specifier span exported) e _ _ ((folded Plain exported e.1, tt), tt)
        folded mode (export_named_specifier span orig exported) e = keeps.node mode (export_named_specifier span orig exported) e _ _ ((folded Plain orig e.1, tt), ((folded Plain exported e.2, tt), tt))
        folded mode (block_stmt span stmts) e = keeps.node mode (block_stmt span stmts) e _ _ (folded_all Plain stmts e.1, tt)
        folded mode (empty_stmt span) e = keeps.node mode (empty_stmt span) e _ _ tt
        folded mode (debugger_stmt span) e = keeps.node mode (debugger_stmt span) e _ _ tt
        folded mode (with_stmt span obj body) e = keeps.node mode (with_stmt span obj body) e _ _ ((folded Plain obj e.1, tt), ((folded Plain body e.2, tt), tt))
        folded mode (return_stmt span arg) e = keeps.node mode (return_stmt span arg) e _ _ ((folded Plain arg e.1, tt), tt)
        folded mode (labeled_stmt span label body) e = keeps.node mode (labeled_stmt span label body) e _ _ ((folded Plain label e.1, tt), ((folded Plain body e.2, tt), tt))
        folded mode (break_stmt span label) e = keeps.node mode (break_stmt span label) e _ _ ((folded Plain label e.1, tt), tt)
        folded mode (continue_stmt span label) e = keeps.node mode (continue_stmt span label) e _ _ ((folded Plain label e.1, tt), tt)
        folded mode (if_stmt span test cons alt) e = keeps.node mode (if_stmt span test cons alt) e _ _ ((folded Plain test e.1, tt), ((folded Plain cons e.2, tt), ((folded Plain alt e.3, tt), tt)))
        folded mode (switch_stmt span discriminant cases) e = keeps.node mode (switch_stmt span discriminant cases) e _ _ ((folded Plain discriminant e.1, tt), (folded_all Plain cases e.2, tt))
        folded mode (switch_case span test cons) e = keeps.node mode (switch_case span test cons) e _ _ ((folded Plain test e.1, tt), (folded_all Plain cons e.2, tt))
        folded mode (throw_stmt span arg) e = keeps.node mode (throw_stmt span arg) e _ _ ((folded Plain arg e.1, tt), tt)
        folded mode (try_stmt span block handler finalizer) e = keeps.node mode (try_stmt span block handler finalizer) e _ _ ((folded Plain block e.1, tt), ((folded Plain handler e.2, tt), ((folded Plain finalizer e.3, tt), tt)))
        folded mode (catch_clause span param_ body) e = keeps.node mode (catch_clause span param_ body) e _ _ ((folded Plain param_ e.1, tt), ((folded Plain body e.2, tt), tt))
        folded mode (while_stmt span test body) e = keeps.node mode (while_stmt span test body) e _ _ ((folded Plain test e.1, tt), ((folded Plain body e.2, tt), tt))
        folded mode (do_while_stmt span test body) e = keeps.node mode (do_while_stmt span test body) e _ _ ((folded Plain test e.1, tt), ((folded Plain body e.2, tt), tt))
        folded mode (for_stmt span init test update body) e = keeps.node mode (for_stmt span init test update body) e _ _ ((folded Plain init e.1, tt), ((folded Plain test e.2, tt), ((folded Plain update e.3, tt), ((folded Plain body e.4, tt), tt))))
        folded mode (for_in_stmt span left right body) e = keeps.node mode (for_in_stmt span left right body) e _ _ ((folded Plain left e.1, tt), ((folded Plain right e.2, tt), ((folded Plain body e.3, tt), tt)))
        folded mode (for_of_stmt span is_await left right body) e = keeps.node mode (for_of_stmt span is_await left right body) e _ _ ((folded Plain left e.1, tt), ((folded Plain right e.2, tt), ((folded Plain body e.3, tt), tt)))
        folded mode (expr_stmt span expr) e = keeps.node mode (expr_stmt span expr) e _ _ ((folded Plain expr e.1, tt), tt)
        folded mode (class_decl span ident_ class_) e = keeps.node mode (class_decl span ident_ class_) e _ _ ((folded Plain ident_ e.1, tt), ((folded Plain class_ e.2, tt), tt))
        folded mode (fn_decl span ident_ function_) e = keeps.node mode (fn_decl span ident_ function_) e _ _ ((folded Plain ident_ e.1, tt), ((folded Plain function_ e.2, tt), tt))
        folded mode (var_decl span kind decls) e = keeps.node mode (var_decl span kind decls) e _ _ (folded_all Plain decls e.1, tt)
        folded mode (using_decl span is_await decls) e = keeps.node mode (using_decl span is_await decls) e _ _ (folded_all Plain decls e.1, tt)
        folded mode (var_declarator span name init) e = keeps.node mode (var_declarator span name init) e _ _ ((folded Plain name e.1, tt), ((folded Plain init e.2, tt), tt))
        folded mode (function span params decorators body is_generator is_async) e = keeps.node mode (function span params decorators body is_generator is_async) e _ _ (folded_all Plain params e.1, (folded_all Plain decorators e.2, ((folded Plain body e.3, tt), tt)))
        folded mode (param span decorators pat) e = keeps.node mode (param span decorators pat) e _ _ (folded_all Plain decorators e.1, ((folded Plain pat e.2, tt), tt))
        folded mode (decorator span expr) e = keeps.node mode (decorator span expr) e _ _ ((folded Plain expr e.1, tt), tt)
        folded mode (class span decorators body super_class) e = keeps.node mode (class span decorators body super_class) e _ _ (folded_all Plain decorators e.1, (folded_all Plain body e.2, ((folded Plain super_class e.3, tt), tt)))
        folded mode (constructor span key params body) e = keeps.node mode (constructor span key params body) e _ _ ((keeps.constructor_key key e.1 (folded Plain key e.1), tt), (folded_all Plain params e.2, ((folded Plain body e.3, tt), tt)))
        folded mode (class_method span key function_ kind is_static) e = keeps.node mode (class_method span key function_ kind is_static) e _ _ ((keeps.key key e.1 (folded Plain key e.1), tt), ((folded Plain function_ e.2, tt), tt))
        folded mode (private_method span key function_ kind is_static) e = keeps.node mode (private_method span key function_ kind is_static) e _ _ ((folded Plain key e.1, tt), ((folded Plain function_ e.2, tt), tt))
        folded mode (class_prop span key value is_static decorators) e = keeps.node mode (class_prop span key value is_static decorators) e _ _ ((keeps.key key e.1 (folded Plain key e.1), tt), ((folded Plain value e.2, tt), (folded_all Plain decorators e.3, tt)))
        folded mode (private_prop span key value is_static decorators) e = keeps.node mode (private_prop span key value is_static decorators) e _ _ ((folded Plain key e.1, tt), ((folded Plain value e.2, tt), (folded_all Plain decorators e.3, tt)))
        folded mode (static_block span body) e = keeps.node mode (static_block span body) e _ _ ((folded Plain body e.1, tt), tt)
        folded mode (auto_accessor span key value is_static decorators) e = keeps.node mode (auto_accessor span key value is_static decorators) e _ _ ((keeps.key key e.1 (folded Plain key e.1), tt), ((folded Plain value e.2, tt), (folded_all Plain decorators e.3, tt)))
        folded mode (ident_name span sym) e = keeps.node mode (ident_name span sym) e _ _ tt
        folded mode (computed_prop_name span expr) e = keeps.node mode (computed_prop_name span expr) e _ _ ((folded Plain expr e.1, tt), tt)
        folded mode (private_name span name) e = keeps.node mode (private_name span name) e _ _ tt
        folded mode (this_expr span) e = keeps.node mode (this_expr span) e _ _ tt
        folded mode (array_lit span elems) e = keeps.node mode (array_lit span elems) e _ _ (folded_all Plain elems e.1, tt)
        folded mode (object_lit span props) e = keeps.node mode (object_lit span props) e _ _ (folded_all Plain props e.1, tt)
        folded mode (fn_expr span ident_ function_) e = keeps.node mode (fn_expr span ident_ function_) e _ _ ((folded Plain ident_ e.1, tt), ((folded Plain function_ e.2, tt), tt))
        folded mode (unary_expr span op arg) e = keeps.node mode (unary_expr span op arg) e _ _ ((folded Plain arg e.1, tt), tt)
        folded mode (update_expr span op prefix arg) e = keeps.node mode (update_expr span op prefix arg) e _ _ ((folded Plain arg e.1, tt), tt)
        folded mode (bin_expr span op left right) e = keeps.node mode (bin_expr span op left right) e _ _ ((folded Plain left e.1, tt), ((folded Plain right e.2, tt), tt))
        folded mode (assign_expr span op left right) e = keeps.node mode (assign_expr span op left right) e _ _ ((folded Plain left e.1, tt), ((folded Plain right e.2, tt), tt))
        folded mode (member_expr span obj prop) e = keeps.node mode (member_expr span obj prop) e _ _ ((folded (object_mode mode prop) obj e.1, tt), ((folded Plain prop e.2, tt), tt))
        folded mode (super_prop_expr span obj prop) e = keeps.node mode (super_prop_expr span obj prop) e _ _ ((folded Plain obj e.1, tt), ((folded Plain prop e.2, tt), tt))
        folded mode (cond_expr span test cons alt) e = keeps.node mode (cond_expr span test cons alt) e _ _ ((folded Plain test e.1, tt), ((folded Plain cons e.2, tt), ((folded Plain alt e.3, tt), tt)))
        folded mode (call_expr span callee args) e = keeps.node mode (call_expr span callee args) e _ _ ((folded Headed callee e.1, tt), (folded_all Plain args e.2, tt))
        folded mode (new_expr span callee args) e = keeps.node mode (new_expr span callee args) e _ _ ((folded Headed callee e.1, tt), ((keeps.arguments (is_head mode) args (folded Plain args e.2), tt), tt))
        folded mode (seq_expr span exprs) e = keeps.node mode (seq_expr span exprs) e _ _ (folded_all Plain exprs e.1, tt)
        folded mode (ident span sym) e = keeps.node mode (ident span sym) e _ _ tt
        folded mode (tpl span exprs quasis) e = keeps.node mode (tpl span exprs quasis) e _ _ (folded_all Plain exprs e.1, (folded_all (quasi_mode mode) quasis e.2, tt))
        folded mode (tpl_element span tail raw cooked) e = keeps.node mode (tpl_element span tail raw cooked) e _ _ tt
        folded mode (tagged_tpl span tag tpl_) e = keeps.node mode (tagged_tpl span tag tpl_) e _ _ ((folded Headed tag e.1, tt), ((folded Raw tpl_ e.2, tt), tt))
        folded mode (arrow_expr span params body is_async) e = keeps.node mode (arrow_expr span params body is_async) e _ _ (folded_all Plain params e.1, ((folded Plain body e.2, tt), tt))
        folded mode (class_expr span ident_ class_) e = keeps.node mode (class_expr span ident_ class_) e _ _ ((folded Plain ident_ e.1, tt), ((folded Plain class_ e.2, tt), tt))
        folded mode (yield_expr span arg delegate) e = keeps.node mode (yield_expr span arg delegate) e _ _ ((folded Plain arg e.1, tt), tt)
        folded mode (meta_prop_expr span kind) e = keeps.node mode (meta_prop_expr span kind) e _ _ tt
        folded mode (await_expr span arg) e = keeps.node mode (await_expr span arg) e _ _ ((folded Plain arg e.1, tt), tt)
        folded mode (paren_expr span expr) e = keeps.node mode (paren_expr span expr) e _ _ ((folded Plain expr e.1, tt), tt)
        folded mode (opt_chain_expr span optional base) e = keeps.node mode (opt_chain_expr span optional base) e _ _ ((folded (chain_mode optional) base e.1, tt), tt)
        folded mode (opt_call span callee args) e = keeps.node mode (opt_call span callee args) e _ _ ((folded Headed callee e.1, tt), (folded_all Plain args e.2, tt))
        folded mode (super span) e = keeps.node mode (super span) e _ _ tt
        folded mode (import span) e = keeps.node mode (import span) e _ _ tt
        folded mode (invalid span) e = keeps.node mode (invalid span) e _ _ tt
        folded mode (expr_or_spread span spread expr) e = keeps.node mode (expr_or_spread span spread expr) e _ _ ((folded Plain expr e.1, tt), tt)
        folded mode (spread_element span expr) e = keeps.node mode (spread_element span expr) e _ _ ((folded Plain expr e.1, tt), tt)
        folded mode (key_value_prop span key value) e = keeps.node mode (key_value_prop span key value) e _ _ ((keeps.key key e.1 (folded Plain key e.1), tt), ((folded Plain value e.2, tt), tt))
        folded mode (assign_prop span key value) e = keeps.node mode (assign_prop span key value) e _ _ ((folded Plain key e.1, tt), ((folded Plain value e.2, tt), tt))
        folded mode (getter_prop span key body) e = keeps.node mode (getter_prop span key body) e _ _ ((keeps.key key e.1 (folded Plain key e.1), tt), ((folded Plain body e.2, tt), tt))
        folded mode (setter_prop span key param_ body) e = keeps.node mode (setter_prop span key param_ body) e _ _ ((keeps.key key e.1 (folded Plain key e.1), tt), ((folded Plain param_ e.2, tt), ((folded Plain body e.3, tt), tt)))
        folded mode (method_prop span key function_) e = keeps.node mode (method_prop span key function_) e _ _ ((keeps.key key e.1 (folded Plain key e.1), tt), ((folded Plain function_ e.2, tt), tt))
        folded mode (str_lit span units raw) e = keeps.node mode (str_lit span units raw) e _ _ tt
        folded mode (bool_lit span value) e = keeps.node mode (bool_lit span value) e _ _ tt
        folded mode (null_lit span) e = keeps.node mode (null_lit span) e _ _ tt
        folded mode (number_lit span value raw) e = keeps.node mode (number_lit span value raw) e _ _ tt
        folded mode (big_int_lit span radix digits raw) e = keeps.node mode (big_int_lit span radix digits raw) e _ _ tt
        folded mode (regex_lit span exp flags) e = keeps.node mode (regex_lit span exp flags) e _ _ tt
        folded mode (binding_ident span id) e = keeps.node mode (binding_ident span id) e _ _ ((folded Plain id e.1, tt), tt)
        folded mode (array_pat span elems) e = keeps.node mode (array_pat span elems) e _ _ (folded_all Plain elems e.1, tt)
        folded mode (rest_pat span dot3_token arg) e = keeps.node mode (rest_pat span dot3_token arg) e _ _ ((folded Plain arg e.1, tt), tt)
        folded mode (object_pat span props) e = keeps.node mode (object_pat span props) e _ _ (folded_all Plain props e.1, tt)
        folded mode (assign_pat span left right) e = keeps.node mode (assign_pat span left right) e _ _ ((folded Plain left e.1, tt), ((folded Plain right e.2, tt), tt))
        folded mode (key_value_pat_prop span key value) e = keeps.node mode (key_value_pat_prop span key value) e _ _ ((keeps.key key e.1 (folded Plain key e.1), tt), ((folded Plain value e.2, tt), tt))
        folded mode (assign_pat_prop span key value) e = keeps.node mode (assign_pat_prop span key value) e _ _ ((folded Plain key e.1, tt), ((folded Plain value e.2, tt), tt))
        folded mode (expr_pat expr) e = keeps.node mode (expr_pat expr) e _ _ ((folded Plain expr e.1, tt), tt)
        folded mode (invalid_pat span) e = keeps.node mode (invalid_pat span) e _ _ tt
        folded mode (invalid_target span) e = keeps.node mode (invalid_target span) e _ _ tt
        folded mode (list items) e = keeps.node mode (list items) e _ _ (folded_all Plain items e.1, tt)
        folded mode absent e = keeps.node mode absent e _ _ tt
        folded mode hole e = keeps.node mode hole e _ _ tt

        pub folded_all : (mode : Mode) (ts : Trees) → every_all P mode ts → All (folds step (redos leaves mode ts)) (folds step ts)
        folded_all mode none e = tt
        folded_all mode (more t ts) e = (folded mode t e.0, folded_all mode ts e.1)

-- lists of equal things
pub all_equal : {A : Type 0} (xs ys : List A) → All (λ a b. a ≡ b) xs ys → xs ≡ ys
all_equal [] [] h = refl
all_equal [] (y ∷ ys) h = absurd h
all_equal (x ∷ xs) [] h = absurd h
all_equal (x ∷ xs) (y ∷ ys) h = ap₂ (λ a b. a ∷ b) h.0 (all_equal xs ys h.1)

pub kids_equal : {A : Type 0} (xs ys : List (List A)) → Kids (λ a b. a ≡ b) xs ys → xs ≡ ys
kids_equal [] [] h = refl
kids_equal [] (y ∷ ys) h = absurd h
kids_equal (x ∷ xs) [] h = absurd h
kids_equal (x ∷ xs) (y ∷ ys) h = ap₂ (λ a b. a ∷ b) (all_equal x y h.0) (kids_equal xs ys h.1)
