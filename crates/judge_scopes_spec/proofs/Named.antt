-- The walk tells what each name of a tree stands for, once and in the order of the text.
use Rattle.std.proofs.Common.{◌≡◌, Bool, true, false, not, List, [], ◌∷◌, ◌++◌, map, refl, sym, ap, ap₂, ◌∙◌}
use Rattle.tree_spec.specs.Folds.{fold, folds}
use Rattle.tree_spec.specs.Tree.{Tree, Trees, none, more, export_decl, block_stmt, with_stmt, if_stmt, switch_stmt, var_decl, object_lit, call_expr, ident}
use Rattle.tree_program_spec.specs.Names.Names.{joined, identifiers, identifiers_step}
use Rattle.judge_scopes_spec.specs.Declared.{Names, without, given, bound_names, all_bound_names, let_names, plain_function, clause_functions}
use Rattle.judge_scopes_spec.specs.Laws.{NamesAreTold}
use Rattle.judge_scopes_spec.specs.Scopes.{Told, stands, keep, Around, Inside, one, rest, every, found, kept, kept_around, kept_functions, kept_caught, is_within, is_eval, own_functions, short_protos, own, inside, step, outermost, names_told}
use Rattle.judge_scopes_spec.proofs.Parts.{parts, OfTrees, OfFields, holds_of}
use Rattle.judge_scopes_spec.proofs.Walks.{told_within, walk_of, names_within, own_name, names_of}

-- ---- lists

told_app : (us vs : List Told) → names_told (us ++ vs) ≡ names_told us ++ names_told vs
told_app [] vs = refl
told_app (stands i b ∷ us) vs = ap (λ r. i ∷ r) (told_app us vs)
told_app (keep n ∷ us) vs = told_app us vs

app_assoc : (xs ys zs : Names) → (xs ++ ys) ++ zs ≡ xs ++ (ys ++ zs)
app_assoc [] ys zs = refl
app_assoc (x ∷ xs) ys zs = ap (λ r. x ∷ r) (app_assoc xs ys zs)

joined_app : (xs ys : List Names) → joined (xs ++ ys) ≡ joined xs ++ joined ys
joined_app [] ys = refl
joined_app (x ∷ xs) ys = ap (λ r. x ++ r) (joined_app xs ys) ∙ sym (app_assoc x (joined xs) (joined ys))

both : (us vs : List Told) (is js : Names) → names_told us ≡ is → names_told vs ≡ js → names_told (us ++ vs) ≡ is ++ js
both us vs is js p q = told_app us vs ∙ ap₂ (λ i j. i ++ j) p q

-- ---- what is told of a node itself

none_kept : (ns : Names) → names_told (kept ns) ≡ []
none_kept [] = refl
none_kept (n ∷ ns) = none_kept ns

none_around : (ss : List Names) → names_told (kept_around ss) ≡ []
none_around [] = refl
none_around (s ∷ ss) = both (kept s) (kept_around ss) [] [] (none_kept s) (none_around ss)

none_given : (b : Bool) (us : List Told) → names_told us ≡ [] → names_told (given b us) ≡ []
none_given true us p = p
none_given false us p = refl

none_functions : (strict : Bool) (ns : Names) → names_told (kept_functions strict ns) ≡ []
none_functions strict ns = none_given (not strict) (kept ns) (none_kept ns)

none_caught : (x : Around) (ns : Names) → names_told (kept_caught x ns) ≡ []
none_caught x [] = refl
none_caught x (n ∷ ns) =
    let b = is_within x.body_depth (found n.sym x.scopes) in
    both (given b (keep n.sym ∷ [])) (kept_caught x ns) [] [] (none_given b (keep n.sym ∷ []) refl) (none_caught x ns)

own_named : (t : Tree) (x : Around) → names_told (own t x) ≡ own_name t
own_named (ident s n) x = refl
own_named (with_stmt s o b) x = none_around x.scopes
own_named (call_expr s f xs) x = none_given (is_eval f) (kept_around x.scopes) (none_around x.scopes)
own_named (object_lit s ps) x = none_kept (short_protos ps)
own_named (var_decl s k ds) x = none_caught x (without (let_names (var_decl s k ds)) (all_bound_names ds))
own_named (block_stmt s ss) x = none_functions x.strict (own_functions x.params ss)
own_named (if_stmt s t c a) x = none_functions x.strict (plain_function c ++ plain_function a)
own_named (switch_stmt s d cs) x = none_functions x.strict (clause_functions cs)
own_named (export_decl s d) x = none_kept (bound_names d)
own_named t x = refl

-- ---- a tree from its parts

-- in any code the walk tells of the names of a tree
abbrev IsNamed : Tree → Type 0
IsNamed t = (x : Around) → names_told (fold step t x) ≡ identifiers t

field_named : (ts : Trees) (x : Around) → OfTrees IsNamed ts → names_told (every (folds step ts) x) ≡ joined (folds identifiers_step ts)
field_named none x h = refl
field_named (more t ts) x h = both (fold step t x) (every (folds step ts) x) (identifiers t) (joined (folds identifiers_step ts)) (h.0 x) (field_named ts x h.1)

fields_named : (fs : List Trees) (c : Inside) → OfFields IsNamed fs → names_told (told_within fs c) ≡ names_within fs
fields_named [] c h = refl
fields_named (ts ∷ fs) (one x c) h =
    both (every (folds step ts) x) (told_within fs c) (joined (folds identifiers_step ts)) (names_within fs) (field_named ts x h.0) (fields_named fs c h.1)
    ∙ sym (joined_app (folds identifiers_step ts) (joined (map (λ us. folds identifiers_step us) fs)))
fields_named (ts ∷ fs) (rest x) h =
    both (every (folds step ts) x) (told_within fs (rest x)) (joined (folds identifiers_step ts)) (names_within fs) (field_named ts x h.0) (fields_named fs (rest x) h.1)
    ∙ sym (joined_app (folds identifiers_step ts) (joined (map (λ us. folds identifiers_step us) fs)))

node_named : (t : Tree) → OfFields IsNamed (parts t) → IsNamed t
node_named t h x =
    ap (λ us. names_told us) (walk_of t x)
    ∙ (both (own t x) (told_within (parts t) (inside t x)) (own_name t) (names_within (parts t)) (own_named t x) (fields_named (parts t) (inside t x) h)
    ∙ sym (names_of t))

pub names_are_told : NamesAreTold
names_are_told t = holds_of IsNamed node_named t outermost
