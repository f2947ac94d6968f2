-- What parts declare doesn't depend on places: with its places moved a part declares the same words, each with its place moved.
use Rattle.std.proofs.Common.{◌≡◌, ℕ, Bool, true, false, not, cond, ◌||◌, ◌==◌, List, [], ◌∷◌, ◌++◌, map, bytes_eq, refl, sym, ap, ap₂, ◌∙◌}
use Rattle.base_token.specs.Kinds.{var_kind}
use Rattle.base_token.specs.declared.place.Span.{Span}
use Rattle.tree_spec.specs.Tree.{Tree, Trees, none, more, import_decl, export_decl, export_default_decl, import_named_specifier, import_default_specifier, import_star_as_specifier, block_stmt, with_stmt, labeled_stmt, if_stmt, switch_stmt, switch_case, try_stmt, catch_clause, while_stmt, do_while_stmt, for_stmt, for_in_stmt, for_of_stmt, class_decl, fn_decl, var_decl, using_decl, var_declarator, function, param, ident, class_expr, fn_expr, binding_ident, array_pat, rest_pat, object_pat, assign_pat, key_value_pat_prop, assign_pat_prop}
use Rattle.tree_program_spec.specs.Names.Names.{Identifier}
use Rattle.judge_scopes_spec.specs.Declared.{Names, has_name, without, given, name_in, bound_names, all_bound_names, let_names, lexical_names, all_lexical_names, clause_names, var_names, all_var_names, plain_function, plain_functions, clause_functions, caught_names, block_functions, all_block_functions, hoisted, body_names, module_names}
use Rattle.judge_scopes_spec.proofs.Walks.{elsewhere, all_elsewhere}

abbrev pub moved : (Span → Span) → Identifier → Identifier
moved p i = record { sym = i.sym; span = p i.span }

abbrev pub all_moved : (Span → Span) → Names → Names
all_moved p ns = map (moved p) ns

-- ---- lists

app_moved : (p : Span → Span) (xs ys : Names) → all_moved p (xs ++ ys) ≡ all_moved p xs ++ all_moved p ys
app_moved p [] ys = refl
app_moved p (x ∷ xs) ys = ap (λ r. moved p x ∷ r) (app_moved p xs ys)

pub join_moved : (p : Span → Span) (xs ys us vs : Names) → us ≡ all_moved p xs → vs ≡ all_moved p ys → us ++ vs ≡ all_moved p (xs ++ ys)
join_moved p xs ys us vs h k = ap₂ (λ a b. a ++ b) h k ∙ sym (app_moved p xs ys)

pub has_moved : (p : Span → Span) (word : List ℕ) (ns : Names) → has_name word (all_moved p ns) ≡ has_name word ns
has_moved p word [] = refl
has_moved p word (n ∷ ns) = ap (λ b. bytes_eq n.sym word || b) (has_moved p word ns)

pub kept_by : (p : Span → Span) (n : Identifier) (us ns : Names) (b : Bool) → us ≡ all_moved p ns → cond b (moved p n ∷ us) us ≡ all_moved p (cond b (n ∷ ns) ns)
kept_by p n us ns true h = ap (λ r. moved p n ∷ r) h
kept_by p n us ns false h = h

without_both : (p : Span → Span) (os ns : Names) → without (all_moved p os) (all_moved p ns) ≡ all_moved p (without os ns)
without_both p os [] = refl
without_both p os (n ∷ ns) =
    let us = without (all_moved p os) (all_moved p ns) in
    ap (λ b. cond (not b) (moved p n ∷ us) us) (has_moved p n.sym os) ∙ kept_by p n us (without os ns) (not (has_name n.sym os)) (without_both p os ns)

pub without_moved : (p : Span → Span) (os ns vs us : Names) → vs ≡ all_moved p os → us ≡ all_moved p ns → without vs us ≡ all_moved p (without os ns)
without_moved p os ns vs us h k = ap₂ (λ a b. without a b) h k ∙ without_both p os ns

pub given_moved : (p : Span → Span) (b : Bool) (ns us : Names) → us ≡ all_moved p ns → given b us ≡ all_moved p (given b ns)
given_moved p true ns us h = h
given_moved p false ns us h = refl

-- ---- BoundNames

pub name_moved : (p : Span → Span) (t : Tree) → name_in (elsewhere p t) ≡ all_moved p (name_in t)
name_moved p (ident s n) = refl
name_moved p t = refl

mutual
  pub bound_moved : (p : Span → Span) (t : Tree) → bound_names (elsewhere p t) ≡ all_moved p (bound_names t)
  bound_moved p (binding_ident s i) = name_moved p i
  bound_moved p (array_pat s ps) = all_bound_moved p ps
  bound_moved p (rest_pat s d q) = bound_moved p q
  bound_moved p (object_pat s ps) = all_bound_moved p ps
  bound_moved p (assign_pat s q e) = bound_moved p q
  bound_moved p (key_value_pat_prop s k q) = bound_moved p q
  bound_moved p (assign_pat_prop s k e) = bound_moved p k
  bound_moved p (param s ds q) = bound_moved p q
  bound_moved p (var_declarator s q e) = bound_moved p q
  bound_moved p (var_decl s k ds) = all_bound_moved p ds
  bound_moved p (using_decl s w ds) = all_bound_moved p ds
  bound_moved p (fn_decl s n f) = name_moved p n
  bound_moved p (class_decl s n k) = name_moved p n
  bound_moved p (fn_expr s n f) = name_moved p n
  bound_moved p (class_expr s n k) = name_moved p n
  bound_moved p (import_named_specifier s l i) = name_moved p l
  bound_moved p (import_default_specifier s l) = name_moved p l
  bound_moved p (import_star_as_specifier s l) = name_moved p l
  bound_moved p t = refl

  pub all_bound_moved : (p : Span → Span) (ts : Trees) → all_bound_names (all_elsewhere p ts) ≡ all_moved p (all_bound_names ts)
  all_bound_moved p none = refl
  all_bound_moved p (more t ts) = join_moved p (bound_names t) (all_bound_names ts) _ _ (bound_moved p t) (all_bound_moved p ts)

-- ---- LexicallyDeclaredNames

pub let_moved : (p : Span → Span) (t : Tree) → let_names (elsewhere p t) ≡ all_moved p (let_names t)
let_moved p (var_decl s k ds) = given_moved p (not (k == var_kind)) (all_bound_names ds) _ (all_bound_moved p ds)
let_moved p (using_decl s w ds) = all_bound_moved p ds
let_moved p t = refl

pub lexical_moved : (p : Span → Span) (top : Bool) (t : Tree) → lexical_names top (elsewhere p t) ≡ all_moved p (lexical_names top t)
lexical_moved p top (var_decl s k ds) = let_moved p (var_decl s k ds)
lexical_moved p top (using_decl s w ds) = all_bound_moved p ds
lexical_moved p top (class_decl s n k) = name_moved p n
lexical_moved p top (fn_decl s n f) = given_moved p (not top) (name_in n) _ (name_moved p n)
lexical_moved p top (labeled_stmt s l b) = lexical_moved p top b
lexical_moved p top (import_decl s is f w) = all_bound_moved p is
lexical_moved p top (export_decl s d) = lexical_moved p top d
lexical_moved p top (export_default_decl s d) = bound_moved p d
lexical_moved p top t = refl

pub all_lexical_moved : (p : Span → Span) (top : Bool) (ts : Trees) → all_lexical_names top (all_elsewhere p ts) ≡ all_moved p (all_lexical_names top ts)
all_lexical_moved p top none = refl
all_lexical_moved p top (more t ts) = join_moved p (lexical_names top t) (all_lexical_names top ts) _ _ (lexical_moved p top t) (all_lexical_moved p top ts)

pub clause_moved : (p : Span → Span) (ts : Trees) → clause_names (all_elsewhere p ts) ≡ all_moved p (clause_names ts)
clause_moved p none = refl
clause_moved p (more (switch_case s t ss) cs) = join_moved p (all_lexical_names false ss) (clause_names cs) _ _ (all_lexical_moved p false ss) (clause_moved p cs)
clause_moved p (more c cs) = clause_moved p cs

-- ---- VarDeclaredNames

mutual
  pub var_moved : (p : Span → Span) (top : Bool) (t : Tree) → var_names top (elsewhere p t) ≡ all_moved p (var_names top t)
  var_moved p top (var_decl s k ds) = given_moved p (k == var_kind) (all_bound_names ds) _ (all_bound_moved p ds)
  var_moved p top (fn_decl s n f) = given_moved p top (name_in n) _ (name_moved p n)
  var_moved p top (labeled_stmt s l b) = var_moved p top b
  var_moved p top (block_stmt s ss) = all_var_moved p false ss
  var_moved p top (if_stmt s t c a) = join_moved p (var_names false c) (var_names false a) _ _ (var_moved p false c) (var_moved p false a)
  var_moved p top (for_stmt s i t u b) = join_moved p (var_names false i) (var_names false b) _ _ (var_moved p false i) (var_moved p false b)
  var_moved p top (for_in_stmt s l r b) = join_moved p (var_names false l) (var_names false b) _ _ (var_moved p false l) (var_moved p false b)
  var_moved p top (for_of_stmt s w l r b) = join_moved p (var_names false l) (var_names false b) _ _ (var_moved p false l) (var_moved p false b)
  var_moved p top (while_stmt s t b) = var_moved p false b
  var_moved p top (do_while_stmt s t b) = var_moved p false b
  var_moved p top (with_stmt s o b) = var_moved p false b
  var_moved p top (switch_stmt s d cs) = all_var_moved p false cs
  var_moved p top (switch_case s t ss) = all_var_moved p false ss
  var_moved p top (try_stmt s b h f) = join_moved p (var_names false b) (var_names false h ++ var_names false f) _ _ (var_moved p false b) (join_moved p (var_names false h) (var_names false f) _ _ (var_moved p false h) (var_moved p false f))
  var_moved p top (catch_clause s q b) = var_moved p false b
  var_moved p top (export_decl s d) = var_moved p false d
  var_moved p top t = refl

  all_var_moved : (p : Span → Span) (top : Bool) (ts : Trees) → all_var_names top (all_elsewhere p ts) ≡ all_moved p (all_var_names top ts)
  all_var_moved p top none = refl
  all_var_moved p top (more t ts) = join_moved p (var_names top t) (all_var_names top ts) _ _ (var_moved p top t) (all_var_moved p top ts)

-- ---- functions in blocks

pub plain_moved : (p : Span → Span) (t : Tree) → plain_function (elsewhere p t) ≡ all_moved p (plain_function t)
plain_moved p (fn_decl s n (function t ps ds b false false)) = name_moved p n
plain_moved p t = refl

pub plains_moved : (p : Span → Span) (ts : Trees) → plain_functions (all_elsewhere p ts) ≡ all_moved p (plain_functions ts)
plains_moved p none = refl
plains_moved p (more t ts) = join_moved p (plain_function t) (plain_functions ts) _ _ (plain_moved p t) (plains_moved p ts)

pub clause_functions_moved : (p : Span → Span) (ts : Trees) → clause_functions (all_elsewhere p ts) ≡ all_moved p (clause_functions ts)
clause_functions_moved p none = refl
clause_functions_moved p (more (switch_case s t ss) cs) = join_moved p (plain_functions ss) (clause_functions cs) _ _ (plains_moved p ss) (clause_functions_moved p cs)
clause_functions_moved p (more c cs) = clause_functions_moved p cs

caught_moved : (p : Span → Span) (t : Tree) → caught_names (elsewhere p t) ≡ all_moved p (caught_names t)
caught_moved p (binding_ident s i) = refl
caught_moved p t = bound_moved p t

-- what stands in the way, and what more does
barred_more : (p : Span → Span) (t : Tree) (b ns us : Names) → us ≡ all_moved p ns → block_functions (us ++ all_moved p b) (elsewhere p t) ≡ block_functions (all_moved p (ns ++ b)) (elsewhere p t)
barred_more p t b ns us h = ap (λ r. block_functions r (elsewhere p t)) (join_moved p ns b us (all_moved p b) h refl)

all_barred_more : (p : Span → Span) (ts : Trees) (b ns us : Names) → us ≡ all_moved p ns → all_block_functions (us ++ all_moved p b) (all_elsewhere p ts) ≡ all_block_functions (all_moved p (ns ++ b)) (all_elsewhere p ts)
all_barred_more p ts b ns us h = ap (λ r. all_block_functions r (all_elsewhere p ts)) (join_moved p ns b us (all_moved p b) h refl)

mutual
  functions_moved : (p : Span → Span) (b : Names) (t : Tree) → block_functions (all_moved p b) (elsewhere p t) ≡ all_moved p (block_functions b t)
  functions_moved p b (block_stmt s ss) =
      join_moved p (without b (plain_functions ss)) (all_block_functions (all_lexical_names false ss ++ b) ss) _ _ (without_moved p b (plain_functions ss) _ _ refl (plains_moved p ss))
      (all_barred_more p ss b (all_lexical_names false ss) _ (all_lexical_moved p false ss) ∙ all_functions_moved p (all_lexical_names false ss ++ b) ss)
  functions_moved p b (switch_stmt s d cs) =
      join_moved p (without b (clause_functions cs)) (all_block_functions (clause_names cs ++ b) cs) _ _ (without_moved p b (clause_functions cs) _ _ refl (clause_functions_moved p cs))
      (all_barred_more p cs b (clause_names cs) _ (clause_moved p cs) ∙ all_functions_moved p (clause_names cs ++ b) cs)
  functions_moved p b (switch_case s t ss) = all_functions_moved p b ss
  functions_moved p b (labeled_stmt s l c) = functions_moved p b c
  functions_moved p b (if_stmt s t c a) =
      join_moved p (without b (plain_function c ++ plain_function a)) (block_functions b c ++ block_functions b a) _ _
      (without_moved p b (plain_function c ++ plain_function a) _ _ refl (join_moved p (plain_function c) (plain_function a) _ _ (plain_moved p c) (plain_moved p a)))
      (join_moved p (block_functions b c) (block_functions b a) _ _ (functions_moved p b c) (functions_moved p b a))
  functions_moved p b (for_stmt s i t u c) = barred_more p c b (let_names i) _ (let_moved p i) ∙ functions_moved p (let_names i ++ b) c
  functions_moved p b (for_in_stmt s l r c) = barred_more p c b (let_names l) _ (let_moved p l) ∙ functions_moved p (let_names l ++ b) c
  functions_moved p b (for_of_stmt s w l r c) = barred_more p c b (let_names l) _ (let_moved p l) ∙ functions_moved p (let_names l ++ b) c
  functions_moved p b (while_stmt s t c) = functions_moved p b c
  functions_moved p b (do_while_stmt s t c) = functions_moved p b c
  functions_moved p b (with_stmt s o c) = functions_moved p b c
  functions_moved p b (try_stmt s c h f) =
      join_moved p (block_functions b c) (block_functions b h ++ block_functions b f) _ _ (functions_moved p b c) (join_moved p (block_functions b h) (block_functions b f) _ _ (functions_moved p b h) (functions_moved p b f))
  functions_moved p b (catch_clause s q c) = barred_more p c b (caught_names q) _ (caught_moved p q) ∙ functions_moved p (caught_names q ++ b) c
  functions_moved p b t = refl

  all_functions_moved : (p : Span → Span) (b : Names) (ts : Trees) → all_block_functions (all_moved p b) (all_elsewhere p ts) ≡ all_moved p (all_block_functions b ts)
  all_functions_moved p b none = refl
  all_functions_moved p b (more t ts) = join_moved p (block_functions b t) (all_block_functions b ts) _ _ (functions_moved p b t) (all_functions_moved p b ts)

-- ---- bodies

hoisted_moved : (p : Span → Span) (strict : Bool) (ps : Names) (ss : Trees) → hoisted strict (all_moved p ps) (all_elsewhere p ss) ≡ all_moved p (hoisted strict ps ss)
hoisted_moved p strict ps ss =
    let tops = all_lexical_names true ss in
    given_moved p (not strict) (without ps (all_block_functions (tops ++ ps) ss)) _
    (without_moved p ps (all_block_functions (tops ++ ps) ss) _ _ refl (all_barred_more p ss ps tops _ (all_lexical_moved p true ss) ∙ all_functions_moved p (tops ++ ps) ss))

pub body_moved : (p : Span → Span) (strict : Bool) (ps : Names) (ss : Trees) → body_names strict (all_moved p ps) (all_elsewhere p ss) ≡ all_moved p (body_names strict ps ss)
body_moved p strict ps ss =
    let vars = all_var_names true ss in
    join_moved p (all_lexical_names true ss) (without ps vars ++ hoisted strict ps ss) _ _ (all_lexical_moved p true ss)
    (join_moved p (without ps vars) (hoisted strict ps ss) _ _ (without_moved p ps vars _ _ refl (all_var_moved p true ss)) (hoisted_moved p strict ps ss))

pub module_moved : (p : Span → Span) (ss : Trees) → module_names (all_elsewhere p ss) ≡ all_moved p (module_names ss)
module_moved p ss = join_moved p (all_lexical_names false ss) (all_var_names false ss) _ _ (all_lexical_moved p false ss) (all_var_moved p false ss)
