-- No place counts: of a tree with its places moved the walk finds the faults that it finds of the tree, with their places moved.
use Rattle.std.proofs.Common.{◌≡◌, ℕ, Bool, true, false, not, ◌==◌, ◌&&◌, ◌||◌, List, [], ◌∷◌, ◌++◌, map, bytes_eq, codes, refl, sym, ap, ap₂, ◌∙◌}
use Rattle.std.specs.List.{list_any}
use Rattle.base_token.specs.Kinds.{delete_kind, import_kind}
use Rattle.base_token.specs.declared.place.Span.{Span}
use Rattle.tree_spec.specs.Folds.{fold, folds}
use Rattle.tree_spec.specs.Tree.{Tree, Trees, none, more, script, es_module, import_decl, named_export, export_all, import_named_specifier, export_namespace_specifier, export_named_specifier, block_stmt, with_stmt, if_stmt, switch_stmt, catch_clause, while_stmt, do_while_stmt, for_stmt, for_in_stmt, for_of_stmt, fn_decl, var_decl, using_decl, function, param, class, constructor, class_method, private_method, class_prop, private_prop, auto_accessor, private_name, fn_expr, unary_expr, ident, arrow_expr, yield_expr, meta_prop_expr, await_expr, getter_prop, setter_prop, binding_ident}
use Rattle.grammar_spec.specs.Judge.Early.{are_bare, is_bare}
use Rattle.grammar_spec.specs.Tokens.Shape.{is_absent, is_bound_name, turns_strict}
use Rattle.judge_scopes_spec.specs.Declared.{Names, given, name_in, bound_names, all_bound_names, let_names}
use Rattle.judge_scopes_spec.specs.Scopes.{body_strict}
use Rattle.judge_scopes_spec.proofs.Moved.{all_moved, name_moved, bound_moved, all_bound_moved, let_moved}
use Rattle.judge_scopes_spec.proofs.MovedWalk.{absent_moved, turns_moved, strict_moved}
use Rattle.judge_scopes_spec.proofs.Parts.{parts, OfTrees, OfFields, holds_of}
use Rattle.judge_scopes_spec.proofs.Walks.{elsewhere, all_elsewhere, parts_moved}
use Rattle.judge_names_spec.specs.Declared.{Declaration, alone, by_parameter, all_by, clashes, declares, declared, clause_declared, loop_declared, privates}
use Rattle.judge_names_spec.specs.Exports.{reserved_in, ill_formed, attribute_faults}
use Rattle.judge_names_spec.specs.Faults.{NameFault, redeclared, parameter_twice, yield_in_parameters, await_in_parameters, meta_in_script, arguments_in_part, private_twice, private_undeclared}
use Rattle.judge_names_spec.specs.Laws.{moved_fault, PlacesMove}
use Rattle.judge_names_spec.specs.Parts.{late_directives, late_faults, labelled_body, deleted, field_faults, private_key_faults}
use Rattle.judge_names_spec.specs.Walk.{Around, Inside, one, rest, every, within, plainly, strictly, in_arrow_parameters, in_arrow_body, in_its_parameters, in_its_body, parameters_twice, function_faults, is_private_here, own, inside, step, outermost}
use Rattle.judge_names_spec.proofs.Moved.{decl_moved, decls_moved, faults_moved, join_mapped, given_mapped, fault_moved, fault_by, clashes_moved, declares_moved, by_moved, declared_moved, clause_declared_moved, loop_moved, caught_same, privates_moved, reserved_moved, module_faults_moved, ill_formed_moved, attribute_faults_moved, directives_moved, late_moved, late_name_moved, lets_moved, labelled_body_moved, deleted_moved, method_faults_moved, field_faults_moved, private_key_moved}

-- the same code elsewhere
abbrev around_moved : (Span → Span) → Around → Around
around_moved p x = record x { before = decls_moved p x.before; classes = map (decls_moved p) x.classes }

abbrev inside_moved : (Span → Span) → Inside → Inside
inside_moved p (one x c) = one (around_moved p x) (inside_moved p c)
inside_moved p (rest x) = rest (around_moved p x)

-- ---- the faults of a node itself

both : (p : Span → Span) (fs gs us vs : List NameFault) → us ≡ faults_moved p fs → vs ≡ faults_moved p gs → us ++ vs ≡ faults_moved p (fs ++ gs)
both p fs gs us vs h k = join_mapped (moved_fault p) fs gs us vs h k

classes_moved : (p : Span → Span) (word : List ℕ) (cs : List (List Declaration)) → list_any (λ ds. declares word ds) (map (decls_moved p) cs) ≡ list_any (λ ds. declares word ds) cs
classes_moved p word [] = refl
classes_moved p word (c ∷ cs) = ap₂ (λ a b. a || b) (declares_moved p word c) (classes_moved p word cs)

bare_same : (p : Span → Span) (t : Tree) → is_bound_name (elsewhere p t) ≡ is_bound_name t
bare_same p (binding_ident s i) = refl
bare_same p t = refl

bare_moved : (p : Span → Span) (t : Tree) → is_bare (elsewhere p t) ≡ is_bare t
bare_moved p (param s ds q) = bare_same p q
bare_moved p t = bare_same p t

all_bare_moved : (p : Span → Span) (ts : Trees) → are_bare (all_elsewhere p ts) ≡ are_bare ts
all_bare_moved p none = refl
all_bare_moved p (more t ts) = ap₂ (λ a b. a && b) (bare_moved p t) (all_bare_moved p ts)

twice_moved : (p : Span → Span) (b : Bool) (ps us : Names) → us ≡ all_moved p ps → parameters_twice b us ≡ faults_moved p (parameters_twice b ps)
twice_moved p b ps us h = given_mapped (moved_fault p) b (clashes parameter_twice (all_by alone ps)) _ (clashes_moved p parameter_twice (all_by alone ps) _ (by_moved p alone ps us h))

function_moved : (p : Span → Span) (b c : Bool) (ps us : Names) (t : Tree) (x : Around) → c ≡ b → us ≡ all_moved p ps
    → function_faults c us (elsewhere p t) (around_moved p x) ≡ faults_moved p (function_faults b ps t x)
function_moved p b c ps us t x e h =
    let o = b || (x.strict || body_strict t) in
    both p (parameters_twice o ps) (late_faults x.strict ps t) _ _
    (ap₂ (λ d s. parameters_twice (d || (x.strict || s)) us) e (strict_moved p t) ∙ twice_moved p o ps us h)
    (late_moved p x.strict ps us t h)

-- a loop that declares
loop_faults_moved : (p : Span → Span) (h b : Tree) → clashes redeclared (loop_declared (elsewhere p h) (elsewhere p b)) ++ labelled_body (elsewhere p b) ≡ faults_moved p (clashes redeclared (loop_declared h b) ++ labelled_body b)
loop_faults_moved p h b = both p (clashes redeclared (loop_declared h b)) (labelled_body b) _ _ (clashes_moved p redeclared (loop_declared h b) _ (loop_moved p h b)) (labelled_body_moved p b)

own_moved : (p : Span → Span) (t : Tree) (x : Around) → own (elsewhere p t) (around_moved p x) ≡ faults_moved p (own t x)
own_moved p (script s ss l) x =
    both p (clashes redeclared (declared true (turns_strict ss) ss)) (late_directives x.strict ss) _ _
    (ap (λ b. clashes redeclared (declared true b (all_elsewhere p ss))) (turns_moved p ss) ∙ clashes_moved p redeclared (declared true (turns_strict ss) ss) _ (declared_moved p true (turns_strict ss) ss))
    (directives_moved p x.strict ss)
own_moved p (es_module s ss l) x = module_faults_moved p ss
own_moved p (import_decl s is f w) x = attribute_faults_moved p w
own_moved p (named_export s is f w) x =
    both p (given (is_absent f) (reserved_in is)) (attribute_faults w) _ _
    (ap (λ b. given b (reserved_in (all_elsewhere p is))) (absent_moved p f) ∙ given_mapped (moved_fault p) (is_absent f) (reserved_in is) _ (reserved_moved p is))
    (attribute_faults_moved p w)
own_moved p (export_all s f w) x = attribute_faults_moved p w
own_moved p (import_named_specifier s l i) x = ill_formed_moved p i
own_moved p (export_named_specifier s o e) x = both p (ill_formed o) (ill_formed e) _ _ (ill_formed_moved p o) (ill_formed_moved p e)
own_moved p (export_namespace_specifier s n) x = ill_formed_moved p n
own_moved p (block_stmt s ss) x =
    clashes_moved p redeclared (x.before ++ declared x.is_body x.strict ss) _ (join_mapped (decl_moved p) x.before (declared x.is_body x.strict ss) _ _ refl (declared_moved p x.is_body x.strict ss))
own_moved p (switch_stmt s d cs) x = clashes_moved p redeclared (clause_declared x.strict cs) _ (clause_declared_moved p x.strict cs)
own_moved p (for_stmt s i t u b) x = loop_faults_moved p i b
own_moved p (for_in_stmt s l r b) x = loop_faults_moved p l b
own_moved p (for_of_stmt s w l r b) x = loop_faults_moved p l b
own_moved p (while_stmt s t b) x = labelled_body_moved p b
own_moved p (do_while_stmt s t b) x = labelled_body_moved p b
own_moved p (with_stmt s o b) x = labelled_body_moved p b
own_moved p (if_stmt s t c a) x = both p (labelled_body c) (labelled_body a) _ _ (labelled_body_moved p c) (labelled_body_moved p a)
own_moved p (var_decl s k ds) x = lets_moved p (let_names (var_decl s k ds)) _ (let_moved p (var_decl s k ds))
own_moved p (using_decl s w ds) x = lets_moved p (all_bound_names ds) _ (all_bound_moved p ds)
own_moved p (fn_decl s n f) x = late_name_moved p x.strict (name_in n) _ f (name_moved p n)
own_moved p (fn_expr s n f) x = late_name_moved p x.strict (name_in n) _ f (name_moved p n)
own_moved p (function s ps ds b g a) x =
    function_moved p (x.method || not (are_bare ps)) _ (all_bound_names ps) _ b x (ap (λ c. x.method || not c) (all_bare_moved p ps)) (all_bound_moved p ps)
own_moved p (constructor s k ps b) x = function_moved p true true (all_bound_names ps) _ b x refl (all_bound_moved p ps)
own_moved p (arrow_expr s ps b a) x = function_moved p true true (all_bound_names ps) _ b x refl (all_bound_moved p ps)
own_moved p (getter_prop s k b) x = late_moved p x.strict [] [] b refl
own_moved p (setter_prop s k q b) x = function_moved p true true (bound_names q) _ b x refl (bound_moved p q)
own_moved p (class s ds ms k) x = clashes_moved p private_twice (privates ms) _ (privates_moved p ms)
own_moved p (class_method s k f m i) x = method_faults_moved p k f m i
own_moved p (private_method s k f m i) x = private_key_moved p k
own_moved p (class_prop s k v i ds) x = field_faults_moved p k i
own_moved p (private_prop s k v i ds) x = private_key_moved p k
own_moved p (auto_accessor s k v i ds) x = both p (field_faults k i) (private_key_faults k) _ _ (field_faults_moved p k i) (private_key_moved p k)
own_moved p (private_name s n) x = fault_by p (not (is_private_here n x)) _ private_undeclared s (ap (λ b. not b) (classes_moved p n x.classes))
own_moved p (ident s n) x = fault_moved p (x.in_part && bytes_eq n (codes "arguments")) arguments_in_part s
own_moved p (unary_expr s op a) x = given_mapped (moved_fault p) (x.strict && (op == delete_kind)) (deleted s a) _ (deleted_moved p s a)
own_moved p (yield_expr s a g) x = fault_moved p x.in_parameters yield_in_parameters s
own_moved p (await_expr s a) x = fault_moved p x.in_parameters await_in_parameters s
own_moved p (meta_prop_expr s k) x = fault_moved p ((k == import_kind) && not x.in_module) meta_in_script s
own_moved p t x = refl

-- ---- the code around

arrow_parameters_moved : (p : Span → Span) (b : Tree) (x : Around) → in_arrow_parameters (elsewhere p b) (around_moved p x) ≡ around_moved p (in_arrow_parameters b x)
arrow_parameters_moved p b x = ap (λ s. record (plainly (around_moved p x)) { strict = x.strict || s; in_parameters = true }) (strict_moved p b)

its_parameters_moved : (p : Span → Span) (b : Tree) (x : Around) → in_its_parameters (elsewhere p b) (around_moved p x) ≡ around_moved p (in_its_parameters b x)
its_parameters_moved p b x = ap (λ (y : Around). record y { in_part = false }) (arrow_parameters_moved p b x)

arrow_body_moved : (p : Span → Span) (ps us : Names) (b : Tree) (x : Around) → us ≡ all_moved p ps → in_arrow_body us (elsewhere p b) (around_moved p x) ≡ around_moved p (in_arrow_body ps b x)
arrow_body_moved p ps us b x h =
    ap₂ (λ s r. record (plainly (around_moved p x)) { strict = x.strict || s; in_parameters = false; before = r; is_body = true }) (strict_moved p b) (by_moved p by_parameter ps us h)

its_body_moved : (p : Span → Span) (ps us : Names) (b : Tree) (x : Around) → us ≡ all_moved p ps → in_its_body us (elsewhere p b) (around_moved p x) ≡ around_moved p (in_its_body ps b x)
its_body_moved p ps us b x h = ap (λ (y : Around). record y { in_part = false }) (arrow_body_moved p ps us b x h)

code_moved : (p : Span → Span) (t : Tree) (x : Around) → inside (elsewhere p t) (around_moved p x) ≡ inside_moved p (inside t x)
code_moved p (script s ss l) x = ap (λ b. rest (record (plainly (around_moved p x)) { strict = x.strict || b; in_module = false })) (turns_moved p ss)
code_moved p (catch_clause s q b) x = ap (λ r. one (plainly (around_moved p x)) (rest (record (plainly (around_moved p x)) { before = r }))) (caught_same p q)
code_moved p (function s ps ds b g a) x =
    ap₂ (λ y z. one y (one (plainly (around_moved p x)) (rest z))) (its_parameters_moved p b x) (its_body_moved p (all_bound_names ps) _ b x (all_bound_moved p ps))
code_moved p (constructor s k ps b) x =
    ap₂ (λ y z. one (plainly (around_moved p x)) (one y (rest z))) (its_parameters_moved p b x) (its_body_moved p (all_bound_names ps) _ b x (all_bound_moved p ps))
code_moved p (arrow_expr s ps b a) x = ap₂ (λ y z. one y (rest z)) (arrow_parameters_moved p b x) (arrow_body_moved p (all_bound_names ps) _ b x (all_bound_moved p ps))
code_moved p (getter_prop s k b) x = ap (λ z. one (plainly (around_moved p x)) (rest z)) (its_body_moved p [] _ b x refl)
code_moved p (setter_prop s k q b) x =
    ap₂ (λ y z. one (plainly (around_moved p x)) (one y (rest z))) (its_parameters_moved p b x) (its_body_moved p (bound_names q) _ b x (bound_moved p q))
code_moved p (class s ds ms k) x =
    let y = around_moved p x in
    ap (λ r. one (strictly y) (one (strictly y) (rest (record (strictly y) { classes = r ∷ y.classes })))) (privates_moved p ms)
code_moved p t x = refl

-- ---- a tree from its parts

abbrev found_within : List Trees → Inside → List NameFault
found_within fs c = within (map (λ ts. folds step ts) fs) c

walk_of : (t : Tree) (x : Around) → fold step t x ≡ own t x ++ found_within (parts t) (inside t x)
walk_of (script s ss l) x = refl
walk_of t x = refl

abbrev IsMoved : (Span → Span) → Tree → Type 0
IsMoved p t = (x : Around) → fold step (elsewhere p t) (around_moved p x) ≡ faults_moved p (fold step t x)

field_moved : (p : Span → Span) (ts : Trees) (x : Around) → OfTrees (IsMoved p) ts → every (folds step (all_elsewhere p ts)) (around_moved p x) ≡ faults_moved p (every (folds step ts) x)
field_moved p none x h = refl
field_moved p (more t ts) x h = both p (fold step t x) (every (folds step ts) x) _ _ (h.0 x) (field_moved p ts x h.1)

fields_moved : (p : Span → Span) (fs : List Trees) (c : Inside) → OfFields (IsMoved p) fs → found_within (map (λ ts. all_elsewhere p ts) fs) (inside_moved p c) ≡ faults_moved p (found_within fs c)
fields_moved p [] c h = refl
fields_moved p (ts ∷ fs) (one x c) h = both p (every (folds step ts) x) (found_within fs c) _ _ (field_moved p ts x h.0) (fields_moved p fs c h.1)
fields_moved p (ts ∷ fs) (rest x) h = both p (every (folds step ts) x) (found_within fs (rest x)) _ _ (field_moved p ts x h.0) (fields_moved p fs (rest x) h.1)

node_moved : (p : Span → Span) (t : Tree) → OfFields (IsMoved p) (parts t) → IsMoved p t
node_moved p t h x =
    walk_of (elsewhere p t) (around_moved p x)
    ∙ (both p (own t x) (found_within (parts t) (inside t x)) _ _ (own_moved p t x) (ap₂ (λ fs c. found_within fs c) (parts_moved p t) (code_moved p t x) ∙ fields_moved p (parts t) (inside t x) h)
    ∙ ap (λ us. faults_moved p us) (sym (walk_of t x)))

pub places_move : PlacesMove
places_move p t = holds_of (IsMoved p) (node_moved p) t (outermost false false)
