-- What a part declares and which faults it has doesn't depend on places: with its places moved it declares the same words and has the same faults, each with its
-- place moved.
use Rattle.std.proofs.Common.{◌≡◌, ℕ, Bool, true, false, not, ◌&&◌, ◌||◌, if◌then◌else◌, List, [], ◌∷◌, ◌++◌, Some, None, map, filter, bytes_eq, codes, refl, sym, ap, ap₂, ◌∙◌}
use Rattle.std.proofs.lemmas.List.{map-append}
use Rattle.std.specs.List.{list_any}
use Rattle.base_token.specs.Reserved.{strict_reserved, is_among}
use Rattle.base_token.specs.declared.place.Span.{Span}
use Rattle.tree_spec.specs.Tree.{Tree, Trees, none, more, export_decl, named_export, export_default_decl, export_default_expr, export_namespace_specifier, export_named_specifier, block_stmt, labeled_stmt, switch_case, expr_stmt, fn_decl, function, private_method, private_prop, auto_accessor, ident_name, private_name, ident, member_expr, paren_expr, opt_chain_expr, object_lit, key_value_prop, str_lit, binding_ident, absent}
use Rattle.grammar_spec.specs.Judge.Early.{is_evil}
use Rattle.grammar_spec.specs.Tokens.Shape.{is_plain_function, is_use_strict, turns_strict}
use Rattle.judge_scopes_spec.specs.Declared.{Names, without, given, bound_names, let_names, lexical_names, var_names, module_names}
use Rattle.judge_scopes_spec.proofs.Moved.{all_moved, join_moved, kept_by, without_moved, given_moved, name_moved, bound_moved, let_moved, lexical_moved, var_moved, module_moved}
use Rattle.judge_scopes_spec.proofs.MovedWalk.{turns_moved}
use Rattle.judge_scopes_spec.proofs.Walks.{elsewhere, all_elsewhere}
use Rattle.judge_names_spec.specs.Declared.{Sort, alone, by_var, by_function, by_parameter, Declaration, clash, clashes_behind, clashes, declares, all_by, lexical_sort, declared, clause_declared, loop_declared, caught, private_by, method_sort, private_of, privates}
use Rattle.judge_names_spec.specs.Exports.{word_units, export_name, specifier_name, specifier_names, name_units, item_exports, exported, all_referenced, referenced, is_reserved, reserved_by, reserved_in, item_bindings, exported_bindings, module_faults, are_paired, ill_formed, attribute, attributes, attribute_faults}
use Rattle.judge_names_spec.specs.Faults.{FaultKind, NameFault, fault, faults_at, redeclared, late_reserved, late_evil, late_octal, let_declared, special_constructor, constructor_field, static_prototype, private_constructor, exported_twice, exported_undeclared, exported_reserved, ill_formed_name, attribute_twice}
use Rattle.judge_names_spec.specs.Laws.{moved_fault}
use Rattle.judge_names_spec.specs.Parts.{late_names, has_octal_in, late_strings, late_directives, late_faults, late_name, lets, labelled, labelled_body, deleted, called, is_special, method_faults, field_faults, private_key_faults}

abbrev pub decl_moved : (Span → Span) → Declaration → Declaration
decl_moved p d = record { word = d.word; sort = d.sort; place = p d.place }

abbrev pub decls_moved : (Span → Span) → List Declaration → List Declaration
decls_moved p ds = map (decl_moved p) ds

abbrev pub faults_moved : (Span → Span) → List NameFault → List NameFault
faults_moved p fs = map (moved_fault p) fs

-- ---- lists

pub join_mapped : {A B : Type 0} (f : A → B) (xs ys : List A) (us vs : List B) → us ≡ map f xs → vs ≡ map f ys → us ++ vs ≡ map f (xs ++ ys)
join_mapped f xs ys us vs h k = ap₂ (λ a b. a ++ b) h k ∙ sym (map-append f xs ys)

pub given_mapped : {A B : Type 0} (f : A → B) (b : Bool) (xs : List A) (us : List B) → us ≡ map f xs → given b us ≡ map f (given b xs)
given_mapped f true xs us h = h
given_mapped f false xs us h = refl

filter_moved : (p : Span → Span) (f : List ℕ → Bool) (ns : Names) → filter (λ n. f n.sym) (all_moved p ns) ≡ all_moved p (filter (λ n. f n.sym) ns)
filter_moved p f [] = refl
filter_moved p f (n ∷ ns) = kept_by p n (filter (λ i. f i.sym) (all_moved p ns)) (filter (λ i. f i.sym) ns) (f n.sym) (filter_moved p f ns)

filtered : (p : Span → Span) (f : List ℕ → Bool) (ns us : Names) → us ≡ all_moved p ns → filter (λ n. f n.sym) us ≡ all_moved p (filter (λ n. f n.sym) ns)
filtered p f ns us h = ap (λ r. filter (λ n. f n.sym) r) h ∙ filter_moved p f ns

-- ---- faults

abbrev one_fault : FaultKind → Span → NameFault
one_fault kind place = record { kind = kind; place = place }

pub fault_moved : (p : Span → Span) (b : Bool) (k : FaultKind) (s : Span) → fault b k (p s) ≡ faults_moved p (fault b k s)
fault_moved p true k s = refl
fault_moved p false k s = refl

pub fault_by : (p : Span → Span) (b c : Bool) (k : FaultKind) (s : Span) → c ≡ b → fault c k (p s) ≡ faults_moved p (fault b k s)
fault_by p b c k s h = ap (λ r. fault r k (p s)) h ∙ fault_moved p b k s

at_all : (p : Span → Span) (k : FaultKind) (ns : Names) → faults_at k (all_moved p ns) ≡ faults_moved p (faults_at k ns)
at_all p k [] = refl
at_all p k (n ∷ ns) = ap (λ r. one_fault k (p n.span) ∷ r) (at_all p k ns)

at_moved : (p : Span → Span) (k : FaultKind) (ns us : Names) → us ≡ all_moved p ns → faults_at k us ≡ faults_moved p (faults_at k ns)
at_moved p k ns us h = ap (λ r. faults_at k r) h ∙ at_all p k ns

-- ---- declarations

any_moved : (p : Span → Span) (d : Declaration) (ds : List Declaration) → list_any (λ e. clash (decl_moved p d) e) (decls_moved p ds) ≡ list_any (λ e. clash d e) ds
any_moved p d [] = refl
any_moved p d (e ∷ ds) = ap (λ r. clash d e || r) (any_moved p d ds)

behind_moved : (p : Span → Span) (k : FaultKind) (bs ds : List Declaration) → clashes_behind k (decls_moved p bs) (decls_moved p ds) ≡ faults_moved p (clashes_behind k bs ds)
behind_moved p k bs [] = refl
behind_moved p k bs (d ∷ ds) =
    join_mapped (moved_fault p) (fault (list_any (λ e. clash d e) bs) k d.place) (clashes_behind k (d ∷ bs) ds) _ _
    (fault_by p (list_any (λ e. clash d e) bs) _ k d.place (any_moved p d bs)) (behind_moved p k (d ∷ bs) ds)

pub clashes_moved : (p : Span → Span) (k : FaultKind) (ds us : List Declaration) → us ≡ decls_moved p ds → clashes k us ≡ faults_moved p (clashes k ds)
clashes_moved p k ds us h = ap (λ r. clashes k r) h ∙ behind_moved p k [] ds

pub declares_moved : (p : Span → Span) (word : List ℕ) (ds : List Declaration) → declares word (decls_moved p ds) ≡ declares word ds
declares_moved p word [] = refl
declares_moved p word (d ∷ ds) = ap (λ r. bytes_eq d.word word || r) (declares_moved p word ds)

abbrev one_declaration : List ℕ → Sort → Span → Declaration
one_declaration word sort place = record { word = word; sort = sort; place = place }

by_all : (p : Span → Span) (k : Sort) (ns : Names) → all_by k (all_moved p ns) ≡ decls_moved p (all_by k ns)
by_all p k [] = refl
by_all p k (n ∷ ns) = ap (λ r. one_declaration n.sym k (p n.span) ∷ r) (by_all p k ns)

pub by_moved : (p : Span → Span) (k : Sort) (ns us : Names) → us ≡ all_moved p ns → all_by k us ≡ decls_moved p (all_by k ns)
by_moved p k ns us h = ap (λ r. all_by k r) h ∙ by_all p k ns

plain_same : (p : Span → Span) (t : Tree) → is_plain_function (elsewhere p t) ≡ is_plain_function t
plain_same p (fn_decl s n (function t ps ds b g a)) = refl
plain_same p t = refl

sort_moved : (p : Span → Span) (strict : Bool) (t : Tree) → lexical_sort strict (elsewhere p t) ≡ lexical_sort strict t
sort_moved p strict (labeled_stmt s l b) = sort_moved p strict b
sort_moved p strict t = ap (λ b. if b && not strict then by_function else alone) (plain_same p t)

pub declared_moved : (p : Span → Span) (top strict : Bool) (ts : Trees) → declared top strict (all_elsewhere p ts) ≡ decls_moved p (declared top strict ts)
declared_moved p top strict none = refl
declared_moved p top strict (more t ts) =
    join_mapped (decl_moved p) (all_by (lexical_sort strict t) (lexical_names top t)) (all_by by_var (var_names top t) ++ declared top strict ts) _ _
    (ap (λ k. all_by k (lexical_names top (elsewhere p t))) (sort_moved p strict t) ∙ by_moved p (lexical_sort strict t) (lexical_names top t) _ (lexical_moved p top t))
    (join_mapped (decl_moved p) (all_by by_var (var_names top t)) (declared top strict ts) _ _ (by_moved p by_var (var_names top t) _ (var_moved p top t)) (declared_moved p top strict ts))

pub clause_declared_moved : (p : Span → Span) (strict : Bool) (ts : Trees) → clause_declared strict (all_elsewhere p ts) ≡ decls_moved p (clause_declared strict ts)
clause_declared_moved p strict none = refl
clause_declared_moved p strict (more (switch_case s t ss) cs) =
    join_mapped (decl_moved p) (declared false strict ss) (clause_declared strict cs) _ _ (declared_moved p false strict ss) (clause_declared_moved p strict cs)
clause_declared_moved p strict (more c cs) = clause_declared_moved p strict cs

pub loop_moved : (p : Span → Span) (h b : Tree) → loop_declared (elsewhere p h) (elsewhere p b) ≡ decls_moved p (loop_declared h b)
loop_moved p h b = join_mapped (decl_moved p) (all_by alone (let_names h)) (all_by by_var (var_names false b)) _ _ (by_moved p alone (let_names h) _ (let_moved p h)) (by_moved p by_var (var_names false b) _ (var_moved p false b))

pub caught_same : (p : Span → Span) (t : Tree) → caught (elsewhere p t) ≡ decls_moved p (caught t)
caught_same p (binding_ident s i) = by_moved p by_parameter (bound_names (binding_ident s i)) _ (bound_moved p (binding_ident s i))
caught_same p t = by_moved p alone (bound_names t) _ (bound_moved p t)

private_by_moved : (p : Span → Span) (k : Sort) (t : Tree) → private_by k (elsewhere p t) ≡ decls_moved p (private_by k t)
private_by_moved p k (private_name s n) = refl
private_by_moved p k t = refl

private_of_moved : (p : Span → Span) (t : Tree) → private_of (elsewhere p t) ≡ decls_moved p (private_of t)
private_of_moved p (private_method s k f m i) = private_by_moved p (method_sort m i) k
private_of_moved p (private_prop s k v i ds) = private_by_moved p alone k
private_of_moved p (auto_accessor s k v i ds) = private_by_moved p alone k
private_of_moved p t = refl

pub privates_moved : (p : Span → Span) (ts : Trees) → privates (all_elsewhere p ts) ≡ decls_moved p (privates ts)
privates_moved p none = refl
privates_moved p (more t ts) = join_mapped (decl_moved p) (private_of t) (privates ts) _ _ (private_of_moved p t) (privates_moved p ts)

-- ---- exports

export_name_moved : (p : Span → Span) (t : Tree) → export_name (elsewhere p t) ≡ decls_moved p (export_name t)
export_name_moved p (ident s n) = refl
export_name_moved p (str_lit s u w) = refl
export_name_moved p t = refl

specifier_moved : (p : Span → Span) (t : Tree) → specifier_name (elsewhere p t) ≡ decls_moved p (specifier_name t)
specifier_moved p (export_named_specifier s o absent) = export_name_moved p o
specifier_moved p (export_named_specifier s o e) = export_name_moved p e
specifier_moved p (export_namespace_specifier s n) = export_name_moved p n
specifier_moved p t = refl

specifiers_moved : (p : Span → Span) (ts : Trees) → specifier_names (all_elsewhere p ts) ≡ decls_moved p (specifier_names ts)
specifiers_moved p none = refl
specifiers_moved p (more t ts) = join_mapped (decl_moved p) (specifier_name t) (specifier_names ts) _ _ (specifier_moved p t) (specifiers_moved p ts)

units_all : (p : Span → Span) (ns : Names) → name_units (all_moved p ns) ≡ decls_moved p (name_units ns)
units_all p [] = refl
units_all p (n ∷ ns) = ap (λ r. one_declaration (word_units n.sym) alone (p n.span) ∷ r) (units_all p ns)

item_moved : (p : Span → Span) (t : Tree) → item_exports (elsewhere p t) ≡ decls_moved p (item_exports t)
item_moved p (export_decl s d) = ap (λ r. name_units r) (bound_moved p d) ∙ units_all p (bound_names d)
item_moved p (named_export s is f w) = specifiers_moved p is
item_moved p (export_default_decl s d) = refl
item_moved p (export_default_expr s e) = refl
item_moved p t = refl

exported_moved : (p : Span → Span) (ts : Trees) → exported (all_elsewhere p ts) ≡ decls_moved p (exported ts)
exported_moved p none = refl
exported_moved p (more t ts) = join_mapped (decl_moved p) (item_exports t) (exported ts) _ _ (item_moved p t) (exported_moved p ts)

referenced_moved : (p : Span → Span) (t : Tree) → referenced (elsewhere p t) ≡ all_moved p (referenced t)
referenced_moved p (export_named_specifier s o e) = name_moved p o
referenced_moved p t = refl

all_referenced_moved : (p : Span → Span) (ts : Trees) → all_referenced (all_elsewhere p ts) ≡ all_moved p (all_referenced ts)
all_referenced_moved p none = refl
all_referenced_moved p (more t ts) = join_moved p (referenced t) (all_referenced ts) _ _ (referenced_moved p t) (all_referenced_moved p ts)

reserved_by_moved : (p : Span → Span) (t : Tree) → reserved_by (elsewhere p t) ≡ faults_moved p (reserved_by t)
reserved_by_moved p (export_named_specifier s (str_lit t u w) e) = refl
reserved_by_moved p (export_named_specifier s (ident t n) e) = fault_moved p (is_reserved n) exported_reserved t
reserved_by_moved p t = refl

pub reserved_moved : (p : Span → Span) (ts : Trees) → reserved_in (all_elsewhere p ts) ≡ faults_moved p (reserved_in ts)
reserved_moved p none = refl
reserved_moved p (more t ts) = join_mapped (moved_fault p) (reserved_by t) (reserved_in ts) _ _ (reserved_by_moved p t) (reserved_moved p ts)

item_bindings_moved : (p : Span → Span) (t : Tree) → item_bindings (elsewhere p t) ≡ all_moved p (item_bindings t)
item_bindings_moved p (named_export s is absent w) = filtered p (λ word. not (is_reserved word)) (all_referenced is) _ (all_referenced_moved p is)
item_bindings_moved p t = refl

bindings_moved : (p : Span → Span) (ts : Trees) → exported_bindings (all_elsewhere p ts) ≡ all_moved p (exported_bindings ts)
bindings_moved p none = refl
bindings_moved p (more t ts) = join_moved p (item_bindings t) (exported_bindings ts) _ _ (item_bindings_moved p t) (bindings_moved p ts)

pub module_faults_moved : (p : Span → Span) (ss : Trees) → module_faults (all_elsewhere p ss) ≡ faults_moved p (module_faults ss)
module_faults_moved p ss =
    join_mapped (moved_fault p) (clashes redeclared (declared false true ss)) (clashes exported_twice (exported ss) ++ faults_at exported_undeclared (without (module_names ss) (exported_bindings ss))) _ _
    (clashes_moved p redeclared (declared false true ss) _ (declared_moved p false true ss))
    (join_mapped (moved_fault p) (clashes exported_twice (exported ss)) (faults_at exported_undeclared (without (module_names ss) (exported_bindings ss))) _ _
    (clashes_moved p exported_twice (exported ss) _ (exported_moved p ss))
    (at_moved p exported_undeclared (without (module_names ss) (exported_bindings ss)) _ (without_moved p (module_names ss) (exported_bindings ss) _ _ (module_moved p ss) (bindings_moved p ss))))

pub ill_formed_moved : (p : Span → Span) (t : Tree) → ill_formed (elsewhere p t) ≡ faults_moved p (ill_formed t)
ill_formed_moved p (str_lit s u w) = fault_moved p (not (are_paired false u)) ill_formed_name s
ill_formed_moved p t = refl

attribute_moved : (p : Span → Span) (t : Tree) → attribute (elsewhere p t) ≡ decls_moved p (attribute t)
attribute_moved p (key_value_prop s (ident_name t n) v) = refl
attribute_moved p (key_value_prop s (str_lit t u w) v) = refl
attribute_moved p t = refl

attributes_moved : (p : Span → Span) (ts : Trees) → attributes (all_elsewhere p ts) ≡ decls_moved p (attributes ts)
attributes_moved p none = refl
attributes_moved p (more t ts) = join_mapped (decl_moved p) (attribute t) (attributes ts) _ _ (attribute_moved p t) (attributes_moved p ts)

pub attribute_faults_moved : (p : Span → Span) (t : Tree) → attribute_faults (elsewhere p t) ≡ faults_moved p (attribute_faults t)
attribute_faults_moved p (object_lit s ps) = clashes_moved p attribute_twice (attributes ps) _ (attributes_moved p ps)
attribute_faults_moved p t = refl

-- ---- what stands near names

late_names_moved : (p : Span → Span) (ns us : Names) → us ≡ all_moved p ns → late_names us ≡ faults_moved p (late_names ns)
late_names_moved p ns us h =
    join_mapped (moved_fault p) (faults_at late_reserved (filter (λ n. is_among strict_reserved n.sym) ns)) (faults_at late_evil (filter (λ n. is_evil n.sym) ns)) _ _
    (at_moved p late_reserved (filter (λ n. is_among strict_reserved n.sym) ns) _ (filtered p (λ w. is_among strict_reserved w) ns us h))
    (at_moved p late_evil (filter (λ n. is_evil n.sym) ns) _ (filtered p (λ w. is_evil w) ns us h))

unless_moved : (p : Span → Span) (b : Bool) (fs us : List NameFault) → us ≡ faults_moved p fs → (if b then [] else us) ≡ faults_moved p (if b then [] else fs)
unless_moved p true fs us h = refl
unless_moved p false fs us h = h

strings_moved : (p : Span → Span) (ts : Trees) → late_strings (all_elsewhere p ts) ≡ faults_moved p (late_strings ts)
strings_moved p none = refl
strings_moved p (more (expr_stmt s (str_lit t u (Some w))) ts) =
    unless_moved p (is_use_strict (expr_stmt s (str_lit t u (Some w)))) (fault (has_octal_in (Some w)) late_octal t ++ late_strings ts) _
    (join_mapped (moved_fault p) (fault (has_octal_in (Some w)) late_octal t) (late_strings ts) _ _ (fault_moved p (has_octal_in (Some w)) late_octal t) (strings_moved p ts))
strings_moved p (more (expr_stmt s (str_lit t u None)) ts) = strings_moved p ts
strings_moved p (more t ts) = refl

pub directives_moved : (p : Span → Span) (strict : Bool) (ss : Trees) → late_directives strict (all_elsewhere p ss) ≡ faults_moved p (late_directives strict ss)
directives_moved p strict ss =
    ap (λ b. given (not strict && b) (late_strings (all_elsewhere p ss))) (turns_moved p ss) ∙ given_mapped (moved_fault p) (not strict && turns_strict ss) (late_strings ss) _ (strings_moved p ss)

-- late names of a body
late_by : (p : Span → Span) (strict : Bool) (ns us : Names) (ss : Trees) → us ≡ all_moved p ns
    → given (not strict && turns_strict (all_elsewhere p ss)) (late_names us) ≡ faults_moved p (given (not strict && turns_strict ss) (late_names ns))
late_by p strict ns us ss h =
    ap (λ b. given (not strict && b) (late_names us)) (turns_moved p ss) ∙ given_mapped (moved_fault p) (not strict && turns_strict ss) (late_names ns) _ (late_names_moved p ns us h)

pub late_moved : (p : Span → Span) (strict : Bool) (ns us : Names) (t : Tree) → us ≡ all_moved p ns → late_faults strict us (elsewhere p t) ≡ faults_moved p (late_faults strict ns t)
late_moved p strict ns us (block_stmt s ss) h =
    join_mapped (moved_fault p) (given (not strict && turns_strict ss) (late_names ns)) (late_directives strict ss) _ _ (late_by p strict ns us ss h) (directives_moved p strict ss)
late_moved p strict ns us t h = refl

pub late_name_moved : (p : Span → Span) (strict : Bool) (ns us : Names) (t : Tree) → us ≡ all_moved p ns → late_name strict us (elsewhere p t) ≡ faults_moved p (late_name strict ns t)
late_name_moved p strict ns us (function s ps ds (block_stmt t ss) g a) h = late_by p strict ns us ss h
late_name_moved p strict ns us t h = refl

pub lets_moved : (p : Span → Span) (ns us : Names) → us ≡ all_moved p ns → lets us ≡ faults_moved p (lets ns)
lets_moved p ns us h = at_moved p let_declared (filter (λ n. bytes_eq n.sym (codes "let")) ns) _ (filtered p (λ w. bytes_eq w (codes "let")) ns us h)

labelled_moved : (p : Span → Span) (t : Tree) → labelled (elsewhere p t) ≡ faults_moved p (labelled t)
labelled_moved p (labeled_stmt s l b) = labelled_moved p b
labelled_moved p (fn_decl s n f) = refl
labelled_moved p t = refl

pub labelled_body_moved : (p : Span → Span) (t : Tree) → labelled_body (elsewhere p t) ≡ faults_moved p (labelled_body t)
labelled_body_moved p (labeled_stmt s l b) = labelled_moved p b
labelled_body_moved p t = refl

pub deleted_moved : (p : Span → Span) (s : Span) (t : Tree) → deleted (p s) (elsewhere p t) ≡ faults_moved p (deleted s t)
deleted_moved p s (ident t n) = refl
deleted_moved p s (member_expr t o (private_name u n)) = refl
deleted_moved p s (opt_chain_expr t q b) = deleted_moved p s b
deleted_moved p s (paren_expr t e) = deleted_moved p s e
deleted_moved p s t = refl

called_moved : (p : Span → Span) (word : List ℕ) (t : Tree) → called word (elsewhere p t) ≡ all_moved p (called word t)
called_moved p word (ident_name s n) = given_moved p (bytes_eq n word) (record { sym = n; span = s } ∷ []) _ refl
called_moved p word (str_lit s u w) = given_moved p (bytes_eq u word) (record { sym = u; span = s } ∷ []) _ refl
called_moved p word t = refl

special_same : (p : Span → Span) (m : ℕ) (t : Tree) → is_special m (elsewhere p t) ≡ is_special m t
special_same p m (function s ps ds b g a) = refl
special_same p m t = refl

-- a key that is called so, where the test holds
key_moved : (p : Span → Span) (k : FaultKind) (b c : Bool) (word : List ℕ) (t : Tree) → c ≡ b → faults_at k (given c (called word (elsewhere p t))) ≡ faults_moved p (faults_at k (given b (called word t)))
key_moved p k b c word t h =
    ap (λ r. faults_at k (given r (called word (elsewhere p t)))) h ∙ at_moved p k (given b (called word t)) _ (given_moved p b (called word t) _ (called_moved p word t))

pub method_faults_moved : (p : Span → Span) (k f : Tree) (m : ℕ) (i : Bool) → method_faults (elsewhere p k) (elsewhere p f) m i ≡ faults_moved p (method_faults k f m i)
method_faults_moved p k f m i =
    join_mapped (moved_fault p) (faults_at special_constructor (given (not i && is_special m f) (called (codes "constructor") k))) (faults_at static_prototype (given i (called (codes "prototype") k))) _ _
    (key_moved p special_constructor (not i && is_special m f) _ (codes "constructor") k (ap (λ b. not i && b) (special_same p m f)))
    (key_moved p static_prototype i i (codes "prototype") k refl)

pub field_faults_moved : (p : Span → Span) (k : Tree) (i : Bool) → field_faults (elsewhere p k) i ≡ faults_moved p (field_faults k i)
field_faults_moved p k i =
    join_mapped (moved_fault p) (faults_at constructor_field (called (codes "constructor") k)) (faults_at static_prototype (given i (called (codes "prototype") k))) _ _
    (at_moved p constructor_field (called (codes "constructor") k) _ (called_moved p (codes "constructor") k))
    (key_moved p static_prototype i i (codes "prototype") k refl)

pub private_key_moved : (p : Span → Span) (t : Tree) → private_key_faults (elsewhere p t) ≡ faults_moved p (private_key_faults t)
private_key_moved p (private_name s n) = fault_moved p (bytes_eq n (codes "constructor")) private_constructor s
private_key_moved p t = refl
