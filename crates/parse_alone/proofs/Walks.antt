-- A walk that ends at the first property with an initialiser finds what is clean.
use Rattle.std.proofs.Common.{◌≡◌, ℕ, Option, Bool, true, false, ◌&&◌, if◌then◌else◌, List, [], ◌∷◌, refl, sym, ap, ◌∙◌}
use Rattle.std.proofs.Math.Bool.{and-false}
use Rattle.base_token.specs.declared.place.Span.{Span}
use Rattle.tree_spec.specs.Tree.{Tree, Trees, none, more, script, es_module, import_decl, export_decl, named_export, export_default_decl, export_default_expr, export_all, import_named_specifier, import_default_specifier, import_star_as_specifier, export_namespace_specifier, export_default_specifier, export_named_specifier, block_stmt, empty_stmt, debugger_stmt, with_stmt, return_stmt, labeled_stmt, break_stmt, continue_stmt, if_stmt, switch_stmt, switch_case, throw_stmt, try_stmt, catch_clause, while_stmt, do_while_stmt, for_stmt, for_in_stmt, for_of_stmt, expr_stmt, class_decl, fn_decl, var_decl, using_decl, var_declarator, function, param, decorator, class, constructor, class_method, private_method, class_prop, private_prop, static_block, auto_accessor, ident_name, computed_prop_name, private_name, this_expr, array_lit, object_lit, fn_expr, unary_expr, update_expr, bin_expr, assign_expr, member_expr, super_prop_expr, cond_expr, call_expr, new_expr, seq_expr, ident, tpl, tpl_element, tagged_tpl, arrow_expr, class_expr, yield_expr, meta_prop_expr, await_expr, paren_expr, opt_chain_expr, opt_call, super, import, invalid, expr_or_spread, spread_element, key_value_prop, assign_prop, getter_prop, setter_prop, method_prop, str_lit, bool_lit, null_lit, number_lit, big_int_lit, regex_lit, binding_ident, array_pat, rest_pat, object_pat, assign_pat, key_value_pat_prop, assign_pat_prop, expr_pat, invalid_pat, invalid_target, list, absent, hole}
use Rattle.tree_spec.specs.Folds.{fold, folds}
use Rattle.grammar_spec.specs.Tokens.Shape.{all_true, all_clean, clean_step, is_clean}
use Rattle.tree_visit.specs.Seen.{seen_of}
use Rattle.tree_visit.specs.Walk.{Walked, enter, told, in_turn, through, by_turns, walk_step, walk_of}
use Rattle.parse_alone.specs.Covers.{after_event, covers}

-- ---- truths

kept : (a : Bool) → a ≡ (a && true)
kept true = refl
kept false = refl

grouped : (a b c : Bool) → ((a && b) && c) ≡ (a && (b && c))
grouped true b c = refl
grouped false b c = refl

swapped : (a b c : Bool) → (a && (b && c)) ≡ (b && (a && c))
swapped true b c = refl
swapped false true c = refl
swapped false false c = refl

turned : (a b c : Bool) → (a && (b && (c && true))) ≡ (b && (c && (a && true)))
turned true true true = refl
turned true true false = refl
turned true false c = refl
turned false true true = refl
turned false true false = refl
turned false false c = refl

-- ---- fields

abbrev Goes : (Bool → Bool) → Bool → Type 0
Goes f b = (s : Bool) → f s ≡ (s && b)

one : (w : Walked Bool) (b : Bool) → Goes w.whole b → Goes (in_turn (w ∷ [])) (all_true (b ∷ []))
one w b h s = h s ∙ ap (λ y. s && y) (kept b)

nothing : Goes (through []) (all_clean [])
nothing s = kept s

field : (ws : List (Walked Bool)) (bs : List Bool) (fs : List (List (Walked Bool))) (cs : List (List Bool))
    → Goes (in_turn ws) (all_true bs) → Goes (through fs) (all_clean cs) → Goes (through (ws ∷ fs)) (all_clean (bs ∷ cs))
field ws bs fs cs h k s = k (in_turn ws s) ∙ ap (λ y. y && all_clean cs) (h s) ∙ grouped s (all_true bs) (all_clean cs)

-- ---- lists

-- each walk finds what is clean
abbrev Each : List (Walked Bool) → List Bool → Type 0
Each [] [] = Unit {0}
Each [] (b ∷ bs) = ⊥
Each (w ∷ ws) [] = ⊥
Each (w ∷ ws) (b ∷ bs) = Goes w.whole b × Each ws bs

in_turns : (ws : List (Walked Bool)) (bs : List Bool) → Each ws bs → Goes (in_turn ws) (all_true bs)
in_turns [] [] e s = kept s
in_turns [] (b ∷ bs) e s = absurd e
in_turns (w ∷ ws) [] e s = absurd e
in_turns (w ∷ ws) (b ∷ bs) e s = in_turns ws bs e.1 (w.whole s) ∙ ap (λ y. y && all_true bs) (e.0 s) ∙ grouped s b (all_true bs)

both : (a b c d e : Bool) → (((a && b) && c) && (d && (e && true))) ≡ (a && ((c && d) && ((b && e) && true)))
both false b c d e = refl
both true false false d e = refl
both true false true true e = refl
both true false true false e = refl
both true true c d e = sym (grouped c d (e && true))

texts_go : (ws : List (Walked Bool)) (bs : List Bool) (vs : List (Walked Bool)) (cs : List Bool) → Each ws bs → Each vs cs
    → (s : Bool) → by_turns ws vs s ≡ (s && (all_true cs && (all_true bs && true)))
texts_go [] [] vs cs e f s = in_turns vs cs f s ∙ ap (λ y. s && y) (kept (all_true cs))
texts_go [] (b ∷ bs) vs cs e f s = absurd e
texts_go (w ∷ ws) [] vs cs e f s = absurd e
texts_go (w ∷ ws) (b ∷ bs) [] [] e f s = texts_go ws bs [] [] e.1 f (w.whole s) ∙ ap (λ y. y && (all_true bs && true)) (e.0 s)
    ∙ grouped s b (all_true bs && true) ∙ ap (λ y. s && y) (sym (grouped b (all_true bs) true))
texts_go (w ∷ ws) (b ∷ bs) [] (c ∷ cs) e f s = absurd f
texts_go (w ∷ ws) (b ∷ bs) (v ∷ vs) [] e f s = absurd f
texts_go (w ∷ ws) (b ∷ bs) (v ∷ vs) (c ∷ cs) e f s = texts_go ws bs vs cs e.1 f.1 (v.whole (w.whole s))
    ∙ ap (λ y. y && (all_true cs && (all_true bs && true))) (f.0 (w.whole s) ∙ ap (λ y. y && c) (e.0 s)) ∙ both s b c (all_true cs) (all_true bs)

-- ---- trees

abbrev walked : Tree → Walked Bool
walked t = fold (walk_step after_event) t

abbrev walked_all : Trees → List (Walked Bool)
walked_all ts = folds (walk_step after_event) ts

abbrev clean : Tree → Bool
clean t = fold clean_step t

abbrev clean_all : Trees → List Bool
clean_all ts = folds clean_step ts

mutual
  walks : (t : Tree) → Goes ((walked t).whole) (clean t)
  walks (script _ body _) s = (field (walked_all body) (clean_all body) [] [] (in_turns (walked_all body) (clean_all body) (all_each body)) nothing) s
  walks (es_module _ body _) s = (field (walked_all body) (clean_all body) [] [] (in_turns (walked_all body) (clean_all body) (all_each body)) nothing) s
  walks (import_decl _ specifiers src with_) s = (field (walked_all specifiers) (clean_all specifiers) ((walked src ∷ []) ∷ (walked with_ ∷ []) ∷ []) ((clean src ∷ []) ∷ (clean with_ ∷ []) ∷ []) (in_turns (walked_all specifiers) (clean_all specifiers) (all_each specifiers)) (field (walked src ∷ []) (clean src ∷ []) ((walked with_ ∷ []) ∷ []) ((clean with_ ∷ []) ∷ []) (one (walked src) (clean src) (walks src)) (field (walked with_ ∷ []) (clean with_ ∷ []) [] [] (one (walked with_) (clean with_) (walks with_)) nothing))) s
  walks (export_decl _ decl) s = (field (walked decl ∷ []) (clean decl ∷ []) [] [] (one (walked decl) (clean decl) (walks decl)) nothing) s
  walks (named_export _ specifiers src with_) s = (field (walked_all specifiers) (clean_all specifiers) ((walked src ∷ []) ∷ (walked with_ ∷ []) ∷ []) ((clean src ∷ []) ∷ (clean with_ ∷ []) ∷ []) (in_turns (walked_all specifiers) (clean_all specifiers) (all_each specifiers)) (field (walked src ∷ []) (clean src ∷ []) ((walked with_ ∷ []) ∷ []) ((clean with_ ∷ []) ∷ []) (one (walked src) (clean src) (walks src)) (field (walked with_ ∷ []) (clean with_ ∷ []) [] [] (one (walked with_) (clean with_) (walks with_)) nothing))) s
  walks (export_default_decl _ decl) s = (field (walked decl ∷ []) (clean decl ∷ []) [] [] (one (walked decl) (clean decl) (walks decl)) nothing) s
  walks (export_default_expr _ expr) s = (field (walked expr ∷ []) (clean expr ∷ []) [] [] (one (walked expr) (clean expr) (walks expr)) nothing) s
  walks (export_all _ src with_) s = (field (walked src ∷ []) (clean src ∷ []) ((walked with_ ∷ []) ∷ []) ((clean with_ ∷ []) ∷ []) (one (walked src) (clean src) (walks src)) (field (walked with_ ∷ []) (clean with_ ∷ []) [] [] (one (walked with_) (clean with_) (walks with_)) nothing)) s
  walks (import_named_specifier _ local imported) s = (field (walked local ∷ []) (clean local ∷ []) ((walked imported ∷ []) ∷ []) ((clean imported ∷ []) ∷ []) (one (walked local) (clean local) (walks local)) (field (walked imported ∷ []) (clean imported ∷ []) [] [] (one (walked imported) (clean imported) (walks imported)) nothing)) s
  walks (import_default_specifier _ local) s = (field (walked local ∷ []) (clean local ∷ []) [] [] (one (walked local) (clean local) (walks local)) nothing) s
  walks (import_star_as_specifier _ local) s = (field (walked local ∷ []) (clean local ∷ []) [] [] (one (walked local) (clean local) (walks local)) nothing) s
  walks (export_namespace_specifier _ name) s = (field (walked name ∷ []) (clean name ∷ []) [] [] (one (walked name) (clean name) (walks name)) nothing) s
  walks (export_default_specifier _ exported) s = (field (walked exported ∷ []) (clean exported ∷ []) [] [] (one (walked exported) (clean exported) (walks exported)) nothing) s
  walks (export_named_specifier _ orig exported) s = (field (walked orig ∷ []) (clean orig ∷ []) ((walked exported ∷ []) ∷ []) ((clean exported ∷ []) ∷ []) (one (walked orig) (clean orig) (walks orig)) (field (walked exported ∷ []) (clean exported ∷ []) [] [] (one (walked exported) (clean exported) (walks exported)) nothing)) s
  walks (block_stmt _ stmts) s = (field (walked_all stmts) (clean_all stmts) [] [] (in_turns (walked_all stmts) (clean_all stmts) (all_each stmts)) nothing) s
  walks (empty_stmt _) s = nothing s
  walks (debugger_stmt _) s = nothing s
  walks (with_stmt _ obj body) s = (field (walked obj ∷ []) (clean obj ∷ []) ((walked body ∷ []) ∷ []) ((clean body ∷ []) ∷ []) (one (walked obj) (clean obj) (walks obj)) (field (walked body ∷ []) (clean body ∷ []) [] [] (one (walked body) (clean body) (walks body)) nothing)) s
  walks (return_stmt _ arg) s = (field (walked arg ∷ []) (clean arg ∷ []) [] [] (one (walked arg) (clean arg) (walks arg)) nothing) s
  walks (labeled_stmt _ label body) s = (field (walked label ∷ []) (clean label ∷ []) ((walked body ∷ []) ∷ []) ((clean body ∷ []) ∷ []) (one (walked label) (clean label) (walks label)) (field (walked body ∷ []) (clean body ∷ []) [] [] (one (walked body) (clean body) (walks body)) nothing)) s
  walks (break_stmt _ label) s = (field (walked label ∷ []) (clean label ∷ []) [] [] (one (walked label) (clean label) (walks label)) nothing) s
  walks (continue_stmt _ label) s = (field (walked label ∷ []) (clean label ∷ []) [] [] (one (walked label) (clean label) (walks label)) nothing) s
  walks (if_stmt _ test cons alt) s = (field (walked test ∷ []) (clean test ∷ []) ((walked cons ∷ []) ∷ (walked alt ∷ []) ∷ []) ((clean cons ∷ []) ∷ (clean alt ∷ []) ∷ []) (one (walked test) (clean test) (walks test)) (field (walked cons ∷ []) (clean cons ∷ []) ((walked alt ∷ []) ∷ []) ((clean alt ∷ []) ∷ []) (one (walked cons) (clean cons) (walks cons)) (field (walked alt ∷ []) (clean alt ∷ []) [] [] (one (walked alt) (clean alt) (walks alt)) nothing))) s
  walks (switch_stmt _ discriminant cases) s = (field (walked discriminant ∷ []) (clean discriminant ∷ []) (walked_all cases ∷ []) (clean_all cases ∷ []) (one (walked discriminant) (clean discriminant) (walks discriminant)) (field (walked_all cases) (clean_all cases) [] [] (in_turns (walked_all cases) (clean_all cases) (all_each cases)) nothing)) s
  walks (switch_case _ test cons) s = (field (walked test ∷ []) (clean test ∷ []) (walked_all cons ∷ []) (clean_all cons ∷ []) (one (walked test) (clean test) (walks test)) (field (walked_all cons) (clean_all cons) [] [] (in_turns (walked_all cons) (clean_all cons) (all_each cons)) nothing)) s
  walks (throw_stmt _ arg) s = (field (walked arg ∷ []) (clean arg ∷ []) [] [] (one (walked arg) (clean arg) (walks arg)) nothing) s
  walks (try_stmt _ block handler finalizer) s = (field (walked block ∷ []) (clean block ∷ []) ((walked handler ∷ []) ∷ (walked finalizer ∷ []) ∷ []) ((clean handler ∷ []) ∷ (clean finalizer ∷ []) ∷ []) (one (walked block) (clean block) (walks block)) (field (walked handler ∷ []) (clean handler ∷ []) ((walked finalizer ∷ []) ∷ []) ((clean finalizer ∷ []) ∷ []) (one (walked handler) (clean handler) (walks handler)) (field (walked finalizer ∷ []) (clean finalizer ∷ []) [] [] (one (walked finalizer) (clean finalizer) (walks finalizer)) nothing))) s
  walks (catch_clause _ param_ body) s = (field (walked param_ ∷ []) (clean param_ ∷ []) ((walked body ∷ []) ∷ []) ((clean body ∷ []) ∷ []) (one (walked param_) (clean param_) (walks param_)) (field (walked body ∷ []) (clean body ∷ []) [] [] (one (walked body) (clean body) (walks body)) nothing)) s
  walks (while_stmt _ test body) s = (field (walked test ∷ []) (clean test ∷ []) ((walked body ∷ []) ∷ []) ((clean body ∷ []) ∷ []) (one (walked test) (clean test) (walks test)) (field (walked body ∷ []) (clean body ∷ []) [] [] (one (walked body) (clean body) (walks body)) nothing)) s
  walks (do_while_stmt _ test body) s = (field (walked body ∷ []) (clean body ∷ []) ((walked test ∷ []) ∷ []) ((clean test ∷ []) ∷ []) (one (walked body) (clean body) (walks body)) (field (walked test ∷ []) (clean test ∷ []) [] [] (one (walked test) (clean test) (walks test)) nothing)) s ∙ ap (λ y. s && y) (swapped (all_true (clean body ∷ [])) (all_true (clean test ∷ [])) true)
  walks (for_stmt _ init test update body) s = (field (walked init ∷ []) (clean init ∷ []) ((walked test ∷ []) ∷ (walked update ∷ []) ∷ (walked body ∷ []) ∷ []) ((clean test ∷ []) ∷ (clean update ∷ []) ∷ (clean body ∷ []) ∷ []) (one (walked init) (clean init) (walks init)) (field (walked test ∷ []) (clean test ∷ []) ((walked update ∷ []) ∷ (walked body ∷ []) ∷ []) ((clean update ∷ []) ∷ (clean body ∷ []) ∷ []) (one (walked test) (clean test) (walks test)) (field (walked update ∷ []) (clean update ∷ []) ((walked body ∷ []) ∷ []) ((clean body ∷ []) ∷ []) (one (walked update) (clean update) (walks update)) (field (walked body ∷ []) (clean body ∷ []) [] [] (one (walked body) (clean body) (walks body)) nothing)))) s
  walks (for_in_stmt _ left right body) s = (field (walked left ∷ []) (clean left ∷ []) ((walked right ∷ []) ∷ (walked body ∷ []) ∷ []) ((clean right ∷ []) ∷ (clean body ∷ []) ∷ []) (one (walked left) (clean left) (walks left)) (field (walked right ∷ []) (clean right ∷ []) ((walked body ∷ []) ∷ []) ((clean body ∷ []) ∷ []) (one (walked right) (clean right) (walks right)) (field (walked body ∷ []) (clean body ∷ []) [] [] (one (walked body) (clean body) (walks body)) nothing))) s
  walks (for_of_stmt _ _ left right body) s = (field (walked left ∷ []) (clean left ∷ []) ((walked right ∷ []) ∷ (walked body ∷ []) ∷ []) ((clean right ∷ []) ∷ (clean body ∷ []) ∷ []) (one (walked left) (clean left) (walks left)) (field (walked right ∷ []) (clean right ∷ []) ((walked body ∷ []) ∷ []) ((clean body ∷ []) ∷ []) (one (walked right) (clean right) (walks right)) (field (walked body ∷ []) (clean body ∷ []) [] [] (one (walked body) (clean body) (walks body)) nothing))) s
  walks (expr_stmt _ expr) s = (field (walked expr ∷ []) (clean expr ∷ []) [] [] (one (walked expr) (clean expr) (walks expr)) nothing) s
  walks (class_decl _ ident_ class_) s = (field (walked ident_ ∷ []) (clean ident_ ∷ []) ((walked class_ ∷ []) ∷ []) ((clean class_ ∷ []) ∷ []) (one (walked ident_) (clean ident_) (walks ident_)) (field (walked class_ ∷ []) (clean class_ ∷ []) [] [] (one (walked class_) (clean class_) (walks class_)) nothing)) s
  walks (fn_decl _ ident_ function_) s = (field (walked ident_ ∷ []) (clean ident_ ∷ []) ((walked function_ ∷ []) ∷ []) ((clean function_ ∷ []) ∷ []) (one (walked ident_) (clean ident_) (walks ident_)) (field (walked function_ ∷ []) (clean function_ ∷ []) [] [] (one (walked function_) (clean function_) (walks function_)) nothing)) s
  walks (var_decl _ _ decls) s = (field (walked_all decls) (clean_all decls) [] [] (in_turns (walked_all decls) (clean_all decls) (all_each decls)) nothing) s
  walks (using_decl _ _ decls) s = (field (walked_all decls) (clean_all decls) [] [] (in_turns (walked_all decls) (clean_all decls) (all_each decls)) nothing) s
  walks (var_declarator _ name init) s = (field (walked name ∷ []) (clean name ∷ []) ((walked init ∷ []) ∷ []) ((clean init ∷ []) ∷ []) (one (walked name) (clean name) (walks name)) (field (walked init ∷ []) (clean init ∷ []) [] [] (one (walked init) (clean init) (walks init)) nothing)) s
  walks (function _ params decorators body _ _) s = (field (walked_all decorators) (clean_all decorators) (walked_all params ∷ (walked body ∷ []) ∷ []) (clean_all params ∷ (clean body ∷ []) ∷ []) (in_turns (walked_all decorators) (clean_all decorators) (all_each decorators)) (field (walked_all params) (clean_all params) ((walked body ∷ []) ∷ []) ((clean body ∷ []) ∷ []) (in_turns (walked_all params) (clean_all params) (all_each params)) (field (walked body ∷ []) (clean body ∷ []) [] [] (one (walked body) (clean body) (walks body)) nothing))) s ∙ ap (λ y. s && y) (swapped (all_true (clean_all decorators)) (all_true (clean_all params)) ((all_true (clean body ∷ [])) && true))
  walks (param _ decorators pat) s = (field (walked_all decorators) (clean_all decorators) ((walked pat ∷ []) ∷ []) ((clean pat ∷ []) ∷ []) (in_turns (walked_all decorators) (clean_all decorators) (all_each decorators)) (field (walked pat ∷ []) (clean pat ∷ []) [] [] (one (walked pat) (clean pat) (walks pat)) nothing)) s
  walks (decorator _ expr) s = (field (walked expr ∷ []) (clean expr ∷ []) [] [] (one (walked expr) (clean expr) (walks expr)) nothing) s
  walks (class _ decorators body super_class) s = (field (walked_all decorators) (clean_all decorators) ((walked super_class ∷ []) ∷ walked_all body ∷ []) ((clean super_class ∷ []) ∷ clean_all body ∷ []) (in_turns (walked_all decorators) (clean_all decorators) (all_each decorators)) (field (walked super_class ∷ []) (clean super_class ∷ []) (walked_all body ∷ []) (clean_all body ∷ []) (one (walked super_class) (clean super_class) (walks super_class)) (field (walked_all body) (clean_all body) [] [] (in_turns (walked_all body) (clean_all body) (all_each body)) nothing))) s ∙ ap (λ y. s && ((all_true (clean_all decorators)) && y)) (swapped (all_true (clean super_class ∷ [])) (all_true (clean_all body)) true)
  walks (constructor _ key params body) s = (field (walked key ∷ []) (clean key ∷ []) (walked_all params ∷ (walked body ∷ []) ∷ []) (clean_all params ∷ (clean body ∷ []) ∷ []) (one (walked key) (clean key) (walks key)) (field (walked_all params) (clean_all params) ((walked body ∷ []) ∷ []) ((clean body ∷ []) ∷ []) (in_turns (walked_all params) (clean_all params) (all_each params)) (field (walked body ∷ []) (clean body ∷ []) [] [] (one (walked body) (clean body) (walks body)) nothing))) s
  walks (class_method _ key function_ _ _) s = (field (walked key ∷ []) (clean key ∷ []) ((walked function_ ∷ []) ∷ []) ((clean function_ ∷ []) ∷ []) (one (walked key) (clean key) (walks key)) (field (walked function_ ∷ []) (clean function_ ∷ []) [] [] (one (walked function_) (clean function_) (walks function_)) nothing)) s
  walks (private_method _ key function_ _ _) s = (field (walked key ∷ []) (clean key ∷ []) ((walked function_ ∷ []) ∷ []) ((clean function_ ∷ []) ∷ []) (one (walked key) (clean key) (walks key)) (field (walked function_ ∷ []) (clean function_ ∷ []) [] [] (one (walked function_) (clean function_) (walks function_)) nothing)) s
  walks (class_prop _ key value _ decorators) s = (field (walked_all decorators) (clean_all decorators) ((walked key ∷ []) ∷ (walked value ∷ []) ∷ []) ((clean key ∷ []) ∷ (clean value ∷ []) ∷ []) (in_turns (walked_all decorators) (clean_all decorators) (all_each decorators)) (field (walked key ∷ []) (clean key ∷ []) ((walked value ∷ []) ∷ []) ((clean value ∷ []) ∷ []) (one (walked key) (clean key) (walks key)) (field (walked value ∷ []) (clean value ∷ []) [] [] (one (walked value) (clean value) (walks value)) nothing))) s ∙ ap (λ y. s && y) (turned (all_true (clean_all decorators)) (all_true (clean key ∷ [])) (all_true (clean value ∷ [])))
  walks (private_prop _ key value _ decorators) s = (field (walked_all decorators) (clean_all decorators) ((walked key ∷ []) ∷ (walked value ∷ []) ∷ []) ((clean key ∷ []) ∷ (clean value ∷ []) ∷ []) (in_turns (walked_all decorators) (clean_all decorators) (all_each decorators)) (field (walked key ∷ []) (clean key ∷ []) ((walked value ∷ []) ∷ []) ((clean value ∷ []) ∷ []) (one (walked key) (clean key) (walks key)) (field (walked value ∷ []) (clean value ∷ []) [] [] (one (walked value) (clean value) (walks value)) nothing))) s ∙ ap (λ y. s && y) (turned (all_true (clean_all decorators)) (all_true (clean key ∷ [])) (all_true (clean value ∷ [])))
  walks (static_block _ body) s = (field (walked body ∷ []) (clean body ∷ []) [] [] (one (walked body) (clean body) (walks body)) nothing) s
  walks (auto_accessor _ key value _ decorators) s = (field (walked_all decorators) (clean_all decorators) ((walked key ∷ []) ∷ (walked value ∷ []) ∷ []) ((clean key ∷ []) ∷ (clean value ∷ []) ∷ []) (in_turns (walked_all decorators) (clean_all decorators) (all_each decorators)) (field (walked key ∷ []) (clean key ∷ []) ((walked value ∷ []) ∷ []) ((clean value ∷ []) ∷ []) (one (walked key) (clean key) (walks key)) (field (walked value ∷ []) (clean value ∷ []) [] [] (one (walked value) (clean value) (walks value)) nothing))) s ∙ ap (λ y. s && y) (turned (all_true (clean_all decorators)) (all_true (clean key ∷ [])) (all_true (clean value ∷ [])))
  walks (ident_name _ _) s = nothing s
  walks (computed_prop_name _ expr) s = (field (walked expr ∷ []) (clean expr ∷ []) [] [] (one (walked expr) (clean expr) (walks expr)) nothing) s
  walks (private_name _ _) s = nothing s
  walks (this_expr _) s = nothing s
  walks (array_lit _ elems) s = (field (walked_all elems) (clean_all elems) [] [] (in_turns (walked_all elems) (clean_all elems) (all_each elems)) nothing) s
  walks (object_lit _ props) s = (field (walked_all props) (clean_all props) [] [] (in_turns (walked_all props) (clean_all props) (all_each props)) nothing) s
  walks (fn_expr _ ident_ function_) s = (field (walked ident_ ∷ []) (clean ident_ ∷ []) ((walked function_ ∷ []) ∷ []) ((clean function_ ∷ []) ∷ []) (one (walked ident_) (clean ident_) (walks ident_)) (field (walked function_ ∷ []) (clean function_ ∷ []) [] [] (one (walked function_) (clean function_) (walks function_)) nothing)) s
  walks (unary_expr _ _ arg) s = (field (walked arg ∷ []) (clean arg ∷ []) [] [] (one (walked arg) (clean arg) (walks arg)) nothing) s
  walks (update_expr _ _ _ arg) s = (field (walked arg ∷ []) (clean arg ∷ []) [] [] (one (walked arg) (clean arg) (walks arg)) nothing) s
  walks (bin_expr _ _ left right) s = (field (walked left ∷ []) (clean left ∷ []) ((walked right ∷ []) ∷ []) ((clean right ∷ []) ∷ []) (one (walked left) (clean left) (walks left)) (field (walked right ∷ []) (clean right ∷ []) [] [] (one (walked right) (clean right) (walks right)) nothing)) s
  walks (assign_expr _ _ left right) s = (field (walked left ∷ []) (clean left ∷ []) ((walked right ∷ []) ∷ []) ((clean right ∷ []) ∷ []) (one (walked left) (clean left) (walks left)) (field (walked right ∷ []) (clean right ∷ []) [] [] (one (walked right) (clean right) (walks right)) nothing)) s
  walks (member_expr _ obj prop) s = (field (walked obj ∷ []) (clean obj ∷ []) ((walked prop ∷ []) ∷ []) ((clean prop ∷ []) ∷ []) (one (walked obj) (clean obj) (walks obj)) (field (walked prop ∷ []) (clean prop ∷ []) [] [] (one (walked prop) (clean prop) (walks prop)) nothing)) s
  walks (super_prop_expr _ obj prop) s = (field (walked obj ∷ []) (clean obj ∷ []) ((walked prop ∷ []) ∷ []) ((clean prop ∷ []) ∷ []) (one (walked obj) (clean obj) (walks obj)) (field (walked prop ∷ []) (clean prop ∷ []) [] [] (one (walked prop) (clean prop) (walks prop)) nothing)) s
  walks (cond_expr _ test cons alt) s = (field (walked test ∷ []) (clean test ∷ []) ((walked cons ∷ []) ∷ (walked alt ∷ []) ∷ []) ((clean cons ∷ []) ∷ (clean alt ∷ []) ∷ []) (one (walked test) (clean test) (walks test)) (field (walked cons ∷ []) (clean cons ∷ []) ((walked alt ∷ []) ∷ []) ((clean alt ∷ []) ∷ []) (one (walked cons) (clean cons) (walks cons)) (field (walked alt ∷ []) (clean alt ∷ []) [] [] (one (walked alt) (clean alt) (walks alt)) nothing))) s
  walks (call_expr _ callee args) s = (field (walked callee ∷ []) (clean callee ∷ []) (walked_all args ∷ []) (clean_all args ∷ []) (one (walked callee) (clean callee) (walks callee)) (field (walked_all args) (clean_all args) [] [] (in_turns (walked_all args) (clean_all args) (all_each args)) nothing)) s
  walks (new_expr _ callee args) s = (field (walked callee ∷ []) (clean callee ∷ []) ((walked args ∷ []) ∷ []) ((clean args ∷ []) ∷ []) (one (walked callee) (clean callee) (walks callee)) (field (walked args ∷ []) (clean args ∷ []) [] [] (one (walked args) (clean args) (walks args)) nothing)) s
  walks (seq_expr _ exprs) s = (field (walked_all exprs) (clean_all exprs) [] [] (in_turns (walked_all exprs) (clean_all exprs) (all_each exprs)) nothing) s
  walks (ident _ _) s = nothing s
  walks (tpl _ exprs quasis) s = texts_go (walked_all quasis) (clean_all quasis) (walked_all exprs) (clean_all exprs) (all_each quasis) (all_each exprs) s
  walks (tpl_element _ _ _ _) s = nothing s
  walks (tagged_tpl _ tag tpl_) s = (field (walked tag ∷ []) (clean tag ∷ []) ((walked tpl_ ∷ []) ∷ []) ((clean tpl_ ∷ []) ∷ []) (one (walked tag) (clean tag) (walks tag)) (field (walked tpl_ ∷ []) (clean tpl_ ∷ []) [] [] (one (walked tpl_) (clean tpl_) (walks tpl_)) nothing)) s
  walks (arrow_expr _ params body _) s = (field (walked_all params) (clean_all params) ((walked body ∷ []) ∷ []) ((clean body ∷ []) ∷ []) (in_turns (walked_all params) (clean_all params) (all_each params)) (field (walked body ∷ []) (clean body ∷ []) [] [] (one (walked body) (clean body) (walks body)) nothing)) s
  walks (class_expr _ ident_ class_) s = (field (walked ident_ ∷ []) (clean ident_ ∷ []) ((walked class_ ∷ []) ∷ []) ((clean class_ ∷ []) ∷ []) (one (walked ident_) (clean ident_) (walks ident_)) (field (walked class_ ∷ []) (clean class_ ∷ []) [] [] (one (walked class_) (clean class_) (walks class_)) nothing)) s
  walks (yield_expr _ arg _) s = (field (walked arg ∷ []) (clean arg ∷ []) [] [] (one (walked arg) (clean arg) (walks arg)) nothing) s
  walks (meta_prop_expr _ _) s = nothing s
  walks (await_expr _ arg) s = (field (walked arg ∷ []) (clean arg ∷ []) [] [] (one (walked arg) (clean arg) (walks arg)) nothing) s
  walks (paren_expr _ expr) s = (field (walked expr ∷ []) (clean expr ∷ []) [] [] (one (walked expr) (clean expr) (walks expr)) nothing) s
  walks (opt_chain_expr _ _ base) s = (field (walked base ∷ []) (clean base ∷ []) [] [] (one (walked base) (clean base) (walks base)) nothing) s
  walks (opt_call _ callee args) s = (field (walked callee ∷ []) (clean callee ∷ []) (walked_all args ∷ []) (clean_all args ∷ []) (one (walked callee) (clean callee) (walks callee)) (field (walked_all args) (clean_all args) [] [] (in_turns (walked_all args) (clean_all args) (all_each args)) nothing)) s
  walks (super _) s = nothing s
  walks (import _) s = nothing s
  walks (invalid _) s = nothing s
  walks (expr_or_spread _ _ expr) s = (field (walked expr ∷ []) (clean expr ∷ []) [] [] (one (walked expr) (clean expr) (walks expr)) nothing) s
  walks (spread_element _ expr) s = (field (walked expr ∷ []) (clean expr ∷ []) [] [] (one (walked expr) (clean expr) (walks expr)) nothing) s
  walks (key_value_prop _ key value) s = (field (walked key ∷ []) (clean key ∷ []) ((walked value ∷ []) ∷ []) ((clean value ∷ []) ∷ []) (one (walked key) (clean key) (walks key)) (field (walked value ∷ []) (clean value ∷ []) [] [] (one (walked value) (clean value) (walks value)) nothing)) s
  walks (assign_prop _ key value) s = (field (walked key ∷ []) (clean key ∷ []) ((walked value ∷ []) ∷ []) ((clean value ∷ []) ∷ []) (one (walked key) (clean key) (walks key)) (field (walked value ∷ []) (clean value ∷ []) [] [] (one (walked value) (clean value) (walks value)) nothing)) false ∙ sym (and-false s)
  walks (getter_prop _ key body) s = (field (walked key ∷ []) (clean key ∷ []) ((walked body ∷ []) ∷ []) ((clean body ∷ []) ∷ []) (one (walked key) (clean key) (walks key)) (field (walked body ∷ []) (clean body ∷ []) [] [] (one (walked body) (clean body) (walks body)) nothing)) s
  walks (setter_prop _ key param_ body) s = (field (walked key ∷ []) (clean key ∷ []) ((walked param_ ∷ []) ∷ (walked body ∷ []) ∷ []) ((clean param_ ∷ []) ∷ (clean body ∷ []) ∷ []) (one (walked key) (clean key) (walks key)) (field (walked param_ ∷ []) (clean param_ ∷ []) ((walked body ∷ []) ∷ []) ((clean body ∷ []) ∷ []) (one (walked param_) (clean param_) (walks param_)) (field (walked body ∷ []) (clean body ∷ []) [] [] (one (walked body) (clean body) (walks body)) nothing))) s
  walks (method_prop _ key function_) s = (field (walked key ∷ []) (clean key ∷ []) ((walked function_ ∷ []) ∷ []) ((clean function_ ∷ []) ∷ []) (one (walked key) (clean key) (walks key)) (field (walked function_ ∷ []) (clean function_ ∷ []) [] [] (one (walked function_) (clean function_) (walks function_)) nothing)) s
  walks (str_lit _ _ _) s = nothing s
  walks (bool_lit _ _) s = nothing s
  walks (null_lit _) s = nothing s
  walks (number_lit _ _ _) s = nothing s
  walks (big_int_lit _ _ _ _) s = nothing s
  walks (regex_lit _ _ _) s = nothing s
  walks (binding_ident _ id) s = (field (walked id ∷ []) (clean id ∷ []) [] [] (one (walked id) (clean id) (walks id)) nothing) s
  walks (array_pat _ elems) s = (field (walked_all elems) (clean_all elems) [] [] (in_turns (walked_all elems) (clean_all elems) (all_each elems)) nothing) s
  walks (rest_pat _ _ arg) s = (field (walked arg ∷ []) (clean arg ∷ []) [] [] (one (walked arg) (clean arg) (walks arg)) nothing) s
  walks (object_pat _ props) s = (field (walked_all props) (clean_all props) [] [] (in_turns (walked_all props) (clean_all props) (all_each props)) nothing) s
  walks (assign_pat _ left right) s = (field (walked left ∷ []) (clean left ∷ []) ((walked right ∷ []) ∷ []) ((clean right ∷ []) ∷ []) (one (walked left) (clean left) (walks left)) (field (walked right ∷ []) (clean right ∷ []) [] [] (one (walked right) (clean right) (walks right)) nothing)) s
  walks (key_value_pat_prop _ key value) s = (field (walked key ∷ []) (clean key ∷ []) ((walked value ∷ []) ∷ []) ((clean value ∷ []) ∷ []) (one (walked key) (clean key) (walks key)) (field (walked value ∷ []) (clean value ∷ []) [] [] (one (walked value) (clean value) (walks value)) nothing)) s
  walks (assign_pat_prop _ key value) s = (field (walked key ∷ []) (clean key ∷ []) ((walked value ∷ []) ∷ []) ((clean value ∷ []) ∷ []) (one (walked key) (clean key) (walks key)) (field (walked value ∷ []) (clean value ∷ []) [] [] (one (walked value) (clean value) (walks value)) nothing)) s
  walks (expr_pat expr) s = (field (walked expr ∷ []) (clean expr ∷ []) [] [] (one (walked expr) (clean expr) (walks expr)) nothing) s
  walks (invalid_pat _) s = nothing s
  walks (invalid_target _) s = nothing s
  walks (list items) s = (field (walked_all items) (clean_all items) [] [] (in_turns (walked_all items) (clean_all items) (all_each items)) nothing) s
  walks absent s = nothing s
  walks hole s = nothing s

  all_each : (ts : Trees) → Each (walked_all ts) (clean_all ts)
  all_each none = tt
  all_each (more t ts) = (walks t, all_each ts)

-- a program is clean where its items are
pub script_clean : (p : Span) (ts : Trees) (l : Option (List ℕ)) → walk_of after_event (list ts) true ≡ is_clean (script p ts l)
unfolding is_clean
script_clean p ts l = walks (list ts) true

pub module_clean : (p : Span) (ts : Trees) (l : Option (List ℕ)) → walk_of after_event (list ts) true ≡ is_clean (es_module p ts l)
unfolding is_clean
module_clean p ts l = walks (list ts) true

pub ruleset finds = (script_clean, module_clean)

-- and so is any other part
pub part_clean : (t : Tree) → walk_of after_event t true ≡ is_clean t
unfolding is_clean
part_clean t = walks t true

-- what a visitor is told of a tree
pub told_of : (t : Tree) (s : Bool) → told (λ x. after_event (enter x)) (seen_of t) s ≡ (if covers t then false else s)
told_of (script _ _ _) s = refl
told_of (es_module _ _ _) s = refl
told_of (import_decl _ _ _ _) s = refl
told_of (export_decl _ _) s = refl
told_of (named_export _ _ _ _) s = refl
told_of (export_default_decl _ _) s = refl
told_of (export_default_expr _ _) s = refl
told_of (export_all _ _ _) s = refl
told_of (import_named_specifier _ _ _) s = refl
told_of (import_default_specifier _ _) s = refl
told_of (import_star_as_specifier _ _) s = refl
told_of (export_namespace_specifier _ _) s = refl
told_of (export_default_specifier _ _) s = refl
told_of (export_named_specifier _ _ _) s = refl
told_of (block_stmt _ _) s = refl
told_of (empty_stmt _) s = refl
told_of (debugger_stmt _) s = refl
told_of (with_stmt _ _ _) s = refl
told_of (return_stmt _ _) s = refl
told_of (labeled_stmt _ _ _) s = refl
told_of (break_stmt _ _) s = refl
told_of (continue_stmt _ _) s = refl
told_of (if_stmt _ _ _ _) s = refl
told_of (switch_stmt _ _ _) s = refl
told_of (switch_case _ _ _) s = refl
told_of (throw_stmt _ _) s = refl
told_of (try_stmt _ _ _ _) s = refl
told_of (catch_clause _ _ _) s = refl
told_of (while_stmt _ _ _) s = refl
told_of (do_while_stmt _ _ _) s = refl
told_of (for_stmt _ _ _ _ _) s = refl
told_of (for_in_stmt _ _ _ _) s = refl
told_of (for_of_stmt _ _ _ _ _) s = refl
told_of (expr_stmt _ _) s = refl
told_of (class_decl _ _ _) s = refl
told_of (fn_decl _ _ _) s = refl
told_of (var_decl _ _ _) s = refl
told_of (using_decl _ _ _) s = refl
told_of (var_declarator _ _ _) s = refl
told_of (function _ _ _ _ _ _) s = refl
told_of (param _ _ _) s = refl
told_of (decorator _ _) s = refl
told_of (class _ _ _ _) s = refl
told_of (constructor _ _ _ _) s = refl
told_of (class_method _ _ _ _ _) s = refl
told_of (private_method _ _ _ _ _) s = refl
told_of (class_prop _ _ _ _ _) s = refl
told_of (private_prop _ _ _ _ _) s = refl
told_of (static_block _ _) s = refl
told_of (auto_accessor _ _ _ _ _) s = refl
told_of (ident_name _ _) s = refl
told_of (computed_prop_name _ _) s = refl
told_of (private_name _ _) s = refl
told_of (this_expr _) s = refl
told_of (array_lit _ _) s = refl
told_of (object_lit _ _) s = refl
told_of (fn_expr _ _ _) s = refl
told_of (unary_expr _ _ _) s = refl
told_of (update_expr _ _ _ _) s = refl
told_of (bin_expr _ _ _ _) s = refl
told_of (assign_expr _ _ _ _) s = refl
told_of (member_expr _ _ _) s = refl
told_of (super_prop_expr _ _ _) s = refl
told_of (cond_expr _ _ _ _) s = refl
told_of (call_expr _ _ _) s = refl
told_of (new_expr _ _ _) s = refl
told_of (seq_expr _ _) s = refl
told_of (ident _ _) s = refl
told_of (tpl _ _ _) s = refl
told_of (tpl_element _ _ _ _) s = refl
told_of (tagged_tpl _ _ _) s = refl
told_of (arrow_expr _ _ _ _) s = refl
told_of (class_expr _ _ _) s = refl
told_of (yield_expr _ _ _) s = refl
told_of (meta_prop_expr _ _) s = refl
told_of (await_expr _ _) s = refl
told_of (paren_expr _ _) s = refl
told_of (opt_chain_expr _ _ _) s = refl
told_of (opt_call _ _ _) s = refl
told_of (super _) s = refl
told_of (import _) s = refl
told_of (invalid _) s = refl
told_of (expr_or_spread _ _ _) s = refl
told_of (spread_element _ _) s = refl
told_of (key_value_prop _ _ _) s = refl
told_of (assign_prop _ _ _) s = refl
told_of (getter_prop _ _ _) s = refl
told_of (setter_prop _ _ _ _) s = refl
told_of (method_prop _ _ _) s = refl
told_of (str_lit _ _ _) s = refl
told_of (bool_lit _ _) s = refl
told_of (null_lit _) s = refl
told_of (number_lit _ _ _) s = refl
told_of (big_int_lit _ _ _ _) s = refl
told_of (regex_lit _ _ _) s = refl
told_of (binding_ident _ _) s = refl
told_of (array_pat _ _) s = refl
told_of (rest_pat _ _ _) s = refl
told_of (object_pat _ _) s = refl
told_of (assign_pat _ _ _) s = refl
told_of (key_value_pat_prop _ _ _) s = refl
told_of (assign_pat_prop _ _ _) s = refl
told_of (expr_pat _) s = refl
told_of (invalid_pat _) s = refl
told_of (invalid_target _) s = refl
told_of (list _) s = refl
told_of absent s = refl
told_of hole s = refl
