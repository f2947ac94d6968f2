-- No place counts: of a tree with its places moved the walk tells what it tells of the tree, with the places of names moved.
use Rattle.std.proofs.Common.{◌≡◌, ℕ, Bool, true, false, ◌+◌, ◌||◌, ◌&&◌, if◌then◌else◌, List, [], ◌∷◌, ◌++◌, Option, Some, None, map, length, bytes_eq, codes, refl, sym, ap, ap₂, ◌∙◌, arith}
use Rattle.base_token.specs.declared.place.Span.{Span}
use Rattle.tree_spec.specs.Folds.{fold, folds}
use Rattle.tree_spec.specs.Tree.{Tree, Trees, none, more, script, es_module, export_decl, named_export, block_stmt, with_stmt, if_stmt, switch_stmt, for_stmt, for_in_stmt, for_of_stmt, expr_stmt, catch_clause, class_decl, var_decl, function, constructor, object_lit, getter_prop, setter_prop, fn_expr, class_expr, arrow_expr, call_expr, paren_expr, ident, str_lit, absent}
use Rattle.grammar_spec.specs.Tokens.Shape.{is_absent, is_use_strict, is_directive, turns_strict}
use Rattle.judge_scopes_spec.specs.Declared.{Names, has_name, without, given, name_in, bound_names, all_bound_names, let_names, all_lexical_names, clause_names, plain_function, clause_functions, body_names, module_names}
use Rattle.judge_scopes_spec.specs.Laws.{moved_told, PlacesMove}
use Rattle.judge_scopes_spec.specs.Scopes.{binder, no_variable, Told, stands, keep, Around, Inside, one, rest, every, index_in, found, plainly, strictly, in_scope, in_any, in_top, in_block, its_arguments, body_strict, in_params, in_body, in_function, in_expression, in_class, kept, kept_around, kept_functions, kept_caught, is_eval, own_functions, is_within, short_proto, short_protos, found_here, own, inside, step, outermost}
use Rattle.judge_scopes_spec.proofs.Moved.{all_moved, join_moved, has_moved, without_moved, given_moved, name_moved, bound_moved, all_bound_moved, let_moved, all_lexical_moved, clause_moved, plain_moved, plains_moved, clause_functions_moved, body_moved, module_moved}
use Rattle.judge_scopes_spec.proofs.Parts.{parts, OfTrees, OfFields, holds_of}
use Rattle.judge_scopes_spec.proofs.Walks.{told_within, walk_of, elsewhere, all_elsewhere, parts_moved}

abbrev told_moved : (Span → Span) → List Told → List Told
told_moved p us = map (moved_told p) us

abbrev params_moved : (Span → Span) → Option Names → Option Names
params_moved p None = None
params_moved p (Some ps) = Some (all_moved p ps)

abbrev scopes_moved : (Span → Span) → List Names → List Names
scopes_moved p ss = map (all_moved p) ss

-- the same code elsewhere
abbrev around_moved : (Span → Span) → Around → Around
around_moved p x = record x { scopes = scopes_moved p x.scopes; params = params_moved p x.params }

abbrev inside_moved : (Span → Span) → Inside → Inside
inside_moved p (one x c) = one (around_moved p x) (inside_moved p c)
inside_moved p (rest x) = rest (around_moved p x)

-- ---- what a name stands for

length_moved : (p : Span → Span) (ss : List Names) → length (scopes_moved p ss) ≡ length ss
length_moved p [] = refl
length_moved p (s ∷ ss) = let h = length_moved p ss in omega (arith, h)

index_moved : (p : Span → Span) (word : List ℕ) (ns : Names) → index_in word (all_moved p ns) ≡ index_in word ns
index_moved p word [] = refl
index_moved p word (n ∷ ns) = ap (λ k. if bytes_eq n.sym word then 0 else k + 1) (index_moved p word ns)

found_moved : (p : Span → Span) (word : List ℕ) (ss : List Names) → found word (scopes_moved p ss) ≡ found word ss
found_moved p word [] = refl
found_moved p word (s ∷ ss) =
    ap (λ b. if b then binder (length (scopes_moved p ss)) (index_in word (all_moved p s)) else found word (scopes_moved p ss)) (has_moved p word s)
    ∙ (ap₂ (λ l k. if has_name word s then binder l k else found word (scopes_moved p ss)) (length_moved p ss) (index_moved p word s)
    ∙ ap (λ r. if has_name word s then binder (length ss) (index_in word s) else r) (found_moved p word ss))

here_by : (p : Span → Span) (b : Bool) (word : List ℕ) (ss : List Names) → (if b then found word (scopes_moved p ss) else no_variable) ≡ (if b then found word ss else no_variable)
here_by p true word ss = found_moved p word ss
here_by p false word ss = refl

here_moved : (p : Span → Span) (word : List ℕ) (x : Around) → found_here word (around_moved p x) ≡ found_here word x
here_moved p word x = here_by p x.variables word x.scopes

-- ---- lists

app_moved : (p : Span → Span) (us vs : List Told) → told_moved p (us ++ vs) ≡ told_moved p us ++ told_moved p vs
app_moved p [] vs = refl
app_moved p (u ∷ us) vs = ap (λ r. moved_told p u ∷ r) (app_moved p us vs)

both : (p : Span → Span) (us vs ws xs : List Told) → ws ≡ told_moved p us → xs ≡ told_moved p vs → ws ++ xs ≡ told_moved p (us ++ vs)
both p us vs ws xs h k = ap₂ (λ a b. a ++ b) h k ∙ sym (app_moved p us vs)

chosen : (p : Span → Span) (b : Bool) (us vs : List Told) → vs ≡ told_moved p us → given b vs ≡ told_moved p (given b us)
chosen p true us vs h = h
chosen p false us vs h = refl

-- ---- what is told of a node itself

kept_all : (p : Span → Span) (ns : Names) → kept (all_moved p ns) ≡ told_moved p (kept ns)
kept_all p [] = refl
kept_all p (n ∷ ns) = ap (λ r. keep n.sym ∷ r) (kept_all p ns)

kept_moved : (p : Span → Span) (ns us : Names) → us ≡ all_moved p ns → kept us ≡ told_moved p (kept ns)
kept_moved p ns us h = ap (λ r. kept r) h ∙ kept_all p ns

around_kept : (p : Span → Span) (ss : List Names) → kept_around (scopes_moved p ss) ≡ told_moved p (kept_around ss)
around_kept p [] = refl
around_kept p (s ∷ ss) = both p (kept s) (kept_around ss) _ _ (kept_all p s) (around_kept p ss)

functions_kept : (p : Span → Span) (strict : Bool) (ns us : Names) → us ≡ all_moved p ns → kept_functions strict us ≡ told_moved p (kept_functions strict ns)
functions_kept p true ns us h = refl
functions_kept p false ns us h = kept_moved p ns us h

caught_kept : (p : Span → Span) (x : Around) (ns : Names) → kept_caught (around_moved p x) (all_moved p ns) ≡ told_moved p (kept_caught x ns)
caught_kept p x [] = refl
caught_kept p x (n ∷ ns) =
    let b = is_within x.body_depth (found n.sym x.scopes) in
    both p (given b (keep n.sym ∷ [])) (kept_caught x ns) _ _
    (ap (λ r. given (is_within x.body_depth r) (keep n.sym ∷ [])) (found_moved p n.sym x.scopes) ∙ chosen p b (keep n.sym ∷ []) (keep n.sym ∷ []) refl)
    (caught_kept p x ns)

own_functions_moved : (p : Span → Span) (o : Option Names) (ss : Trees) → own_functions (params_moved p o) (all_elsewhere p ss) ≡ all_moved p (own_functions o ss)
own_functions_moved p None ss = plains_moved p ss
own_functions_moved p (Some ps) ss = refl

proto_moved : (p : Span → Span) (t : Tree) → short_proto (elsewhere p t) ≡ all_moved p (short_proto t)
proto_moved p (ident s n) = given_moved p (bytes_eq n (codes "__proto__")) (record { sym = n; span = s } ∷ []) _ refl
proto_moved p t = refl

protos_moved : (p : Span → Span) (ts : Trees) → short_protos (all_elsewhere p ts) ≡ all_moved p (short_protos ts)
protos_moved p none = refl
protos_moved p (more t ts) = join_moved p (short_proto t) (short_protos ts) _ _ (proto_moved p t) (protos_moved p ts)

eval_moved : (p : Span → Span) (t : Tree) → is_eval (elsewhere p t) ≡ is_eval t
eval_moved p (paren_expr s e) = eval_moved p e
eval_moved p t = refl

own_moved : (p : Span → Span) (t : Tree) (x : Around) → own (elsewhere p t) (around_moved p x) ≡ told_moved p (own t x)
own_moved p (ident s n) x = ap (λ b. stands (record { sym = n; span = p s }) b ∷ []) (here_moved p n x)
own_moved p (with_stmt s o b) x = around_kept p x.scopes
own_moved p (call_expr s f xs) x = ap (λ b. given b (kept_around (scopes_moved p x.scopes))) (eval_moved p f) ∙ chosen p (is_eval f) (kept_around x.scopes) _ (around_kept p x.scopes)
own_moved p (object_lit s ps) x = kept_moved p (short_protos ps) _ (protos_moved p ps)
own_moved p (var_decl s k ds) x =
    let lets = let_names (var_decl s k ds) in
    ap (λ r. kept_caught (around_moved p x) r) (without_moved p lets (all_bound_names ds) _ _ (let_moved p (var_decl s k ds)) (all_bound_moved p ds)) ∙ caught_kept p x (without lets (all_bound_names ds))
own_moved p (block_stmt s ss) x = functions_kept p x.strict (own_functions x.params ss) _ (own_functions_moved p x.params ss)
own_moved p (if_stmt s t c a) x = functions_kept p x.strict (plain_function c ++ plain_function a) _ (join_moved p (plain_function c) (plain_function a) _ _ (plain_moved p c) (plain_moved p a))
own_moved p (switch_stmt s d cs) x = functions_kept p x.strict (clause_functions cs) _ (clause_functions_moved p cs)
own_moved p (export_decl s d) x = kept_moved p (bound_names d) _ (bound_moved p d)
own_moved p t x = refl

-- ---- the code around

pub absent_moved : (p : Span → Span) (t : Tree) → is_absent (elsewhere p t) ≡ is_absent t
absent_moved p absent = refl
absent_moved p t = refl

use_moved : (p : Span → Span) (t : Tree) → is_use_strict (elsewhere p t) ≡ is_use_strict t
use_moved p (expr_stmt s (str_lit t u (Some w))) = refl
use_moved p t = refl

directive_moved : (p : Span → Span) (t : Tree) → is_directive (elsewhere p t) ≡ is_directive t
directive_moved p (expr_stmt s (str_lit t u w)) = refl
directive_moved p t = refl

pub turns_moved : (p : Span → Span) (ts : Trees) → turns_strict (all_elsewhere p ts) ≡ turns_strict ts
turns_moved p none = refl
turns_moved p (more t ts) = ap₂ (λ a b. a || b) (use_moved p t) (ap₂ (λ a b. a && b) (directive_moved p t) (turns_moved p ts))

pub strict_moved : (p : Span → Span) (t : Tree) → body_strict (elsewhere p t) ≡ body_strict t
strict_moved p (block_stmt s ss) = turns_moved p ss
strict_moved p t = refl

any_all : (p : Span → Span) (ns : Names) (x : Around) → in_any (all_moved p ns) (around_moved p x) ≡ around_moved p (in_any ns x)
any_all p [] x = refl
any_all p (n ∷ ns) x = refl

any_moved : (p : Span → Span) (ns us : Names) (x : Around) → us ≡ all_moved p ns → in_any us (around_moved p x) ≡ around_moved p (in_any ns x)
any_moved p ns us x h = ap (λ r. in_any r (around_moved p x)) h ∙ any_all p ns x

scope_moved : (p : Span → Span) (ns us : Names) (x : Around) → us ≡ all_moved p ns → in_scope us (around_moved p x) ≡ around_moved p (in_scope ns x)
scope_moved p ns us x h = ap (λ r. in_scope r (around_moved p x)) h

top_moved : (p : Span → Span) (ns us : Names) (x : Around) → us ≡ all_moved p ns → in_top us (around_moved p x) ≡ around_moved p (in_top ns x)
top_moved p ns us x h = ap₂ (λ r k. record (in_scope r (around_moved p x)) { body_depth = k }) h (length_moved p x.scopes)

block_moved : (p : Span → Span) (o : Option Names) (ss : Trees) (x : Around) → in_block (params_moved p o) (all_elsewhere p ss) (around_moved p x) ≡ around_moved p (in_block o ss x)
block_moved p None ss x = scope_moved p (all_lexical_names false ss) _ x (all_lexical_moved p false ss)
block_moved p (Some ps) ss x = top_moved p (body_names x.strict ps ss) _ x (body_moved p x.strict ps ss)

script_moved : (p : Span → Span) (ss : Trees) (x : Around)
    → in_top (body_names (turns_strict (all_elsewhere p ss)) [] (all_elsewhere p ss)) (record (around_moved p x) { strict = turns_strict (all_elsewhere p ss) })
    ≡ around_moved p (in_top (body_names (turns_strict ss) [] ss) (record x { strict = turns_strict ss }))
script_moved p ss x =
    ap (λ b. in_top (body_names b [] (all_elsewhere p ss)) (record (around_moved p x) { strict = b })) (turns_moved p ss)
    ∙ top_moved p (body_names (turns_strict ss) [] ss) _ (record x { strict = turns_strict ss }) (body_moved p (turns_strict ss) [] ss)

in_params_moved : (p : Span → Span) (ns us : Names) (b : Tree) (x : Around) → us ≡ all_moved p ns → in_params us (elsewhere p b) (around_moved p x) ≡ around_moved p (in_params ns b x)
in_params_moved p ns us b x h = ap₂ (λ r t. record (in_scope r (around_moved p x)) { strict = x.strict || t }) h (strict_moved p b)

in_body_moved : (p : Span → Span) (ns us : Names) (b : Tree) (x : Around) → us ≡ all_moved p ns → in_body us (elsewhere p b) (around_moved p x) ≡ around_moved p (in_body ns b x)
in_body_moved p ns us b x h = ap₂ (λ r t. record (in_scope r (around_moved p x)) { strict = x.strict || t; params = Some r }) h (strict_moved p b)

function_moved : (p : Span → Span) (ns us : Names) (b : Tree) (x : Around) → us ≡ all_moved p ns → in_function us (elsewhere p b) (around_moved p x) ≡ inside_moved p (in_function ns b x)
function_moved p ns us b x h = ap₂ (λ y z. one y (rest z)) (in_params_moved p ns us b x h) (in_body_moved p ns us b x h)

expression_moved : (p : Span → Span) (b : Bool) (n : Tree) (x : Around) → in_expression b (elsewhere p n) (around_moved p x) ≡ inside_moved p (in_expression b n x)
expression_moved p true n x = refl
expression_moved p false n x = ap (λ y. rest y) (any_moved p (name_in n) _ x (name_moved p n))

class_moved : (p : Span → Span) (b : Bool) (n : Tree) (x : Around) → in_class b (elsewhere p n) (around_moved p x) ≡ inside_moved p (in_class b n x)
class_moved p true n x = ap (λ y. one (plainly (around_moved p x)) (rest (strictly y))) (any_moved p (name_in n) _ x (name_moved p n))
class_moved p false n x = ap (λ y. rest (strictly y)) (any_moved p (name_in n) _ x (name_moved p n))

-- the names of parameters with `arguments`
arguments_moved : (p : Span → Span) (s : Span) (ns us : Names) → us ≡ all_moved p ns → us ++ its_arguments (p s) ≡ all_moved p (ns ++ its_arguments s)
arguments_moved p s ns us h = join_moved p ns (its_arguments s) us (its_arguments (p s)) h refl

code_moved : (p : Span → Span) (t : Tree) (x : Around) → inside (elsewhere p t) (around_moved p x) ≡ inside_moved p (inside t x)
code_moved p (script s ss l) x = ap (λ y. rest y) (script_moved p ss x)
code_moved p (es_module s ss l) x = ap (λ y. rest y) (top_moved p (module_names ss) _ (strictly x) (module_moved p ss))
code_moved p (named_export s is f w) x = ap (λ b. rest (record (plainly (around_moved p x)) { variables = b })) (absent_moved p f)
code_moved p (block_stmt s ss) x = ap (λ y. rest y) (block_moved p x.params ss x)
code_moved p (if_stmt s t c a) x =
    ap₂ (λ y z. one (plainly (around_moved p x)) (one y (rest z))) (any_moved p (plain_function c) _ x (plain_moved p c)) (any_moved p (plain_function a) _ x (plain_moved p a))
code_moved p (switch_stmt s d cs) x = ap (λ y. one (plainly (around_moved p x)) (rest y)) (scope_moved p (clause_names cs) _ x (clause_moved p cs))
code_moved p (for_stmt s i t u b) x = ap (λ y. rest y) (any_moved p (let_names i) _ x (let_moved p i))
code_moved p (for_in_stmt s l r b) x = ap (λ y. rest y) (any_moved p (let_names l) _ x (let_moved p l))
code_moved p (for_of_stmt s w l r b) x = ap (λ y. rest y) (any_moved p (let_names l) _ x (let_moved p l))
code_moved p (catch_clause s q b) x = ap (λ y. rest y) (any_moved p (bound_names q) _ x (bound_moved p q))
code_moved p (fn_expr s n f) x = expression_moved p x.declared n x
code_moved p (class_decl s n k) x = class_moved p true n x
code_moved p (class_expr s n k) x = class_moved p x.declared n x
code_moved p (function s ps ds b g a) x =
    let h = arguments_moved p s (all_bound_names ps) _ (all_bound_moved p ps) in
    ap₂ (λ y z. one y (one (plainly (around_moved p x)) (rest z))) (in_params_moved p (all_bound_names ps ++ its_arguments s) _ b x h) (in_body_moved p (all_bound_names ps ++ its_arguments s) _ b x h)
code_moved p (constructor s k ps b) x =
    ap (λ c. one (plainly (around_moved p x)) c) (function_moved p (all_bound_names ps ++ its_arguments s) _ b x (arguments_moved p s (all_bound_names ps) _ (all_bound_moved p ps)))
code_moved p (getter_prop s k b) x = ap (λ y. one (plainly (around_moved p x)) (rest y)) (in_body_moved p (its_arguments s) _ b x refl)
code_moved p (setter_prop s k q b) x =
    ap (λ c. one (plainly (around_moved p x)) c) (function_moved p (bound_names q ++ its_arguments s) _ b x (arguments_moved p s (bound_names q) _ (bound_moved p q)))
code_moved p (arrow_expr s ps b a) x = function_moved p (all_bound_names ps) _ b x (all_bound_moved p ps)
code_moved p t x = refl

-- ---- a tree from its parts

abbrev IsMoved : (Span → Span) → Tree → Type 0
IsMoved p t = (x : Around) → fold step (elsewhere p t) (around_moved p x) ≡ told_moved p (fold step t x)

field_moved : (p : Span → Span) (ts : Trees) (x : Around) → OfTrees (IsMoved p) ts → every (folds step (all_elsewhere p ts)) (around_moved p x) ≡ told_moved p (every (folds step ts) x)
field_moved p none x h = refl
field_moved p (more t ts) x h = both p (fold step t x) (every (folds step ts) x) _ _ (h.0 x) (field_moved p ts x h.1)

fields_moved : (p : Span → Span) (fs : List Trees) (c : Inside) → OfFields (IsMoved p) fs → told_within (map (λ ts. all_elsewhere p ts) fs) (inside_moved p c) ≡ told_moved p (told_within fs c)
fields_moved p [] c h = refl
fields_moved p (ts ∷ fs) (one x c) h = both p (every (folds step ts) x) (told_within fs c) _ _ (field_moved p ts x h.0) (fields_moved p fs c h.1)
fields_moved p (ts ∷ fs) (rest x) h = both p (every (folds step ts) x) (told_within fs (rest x)) _ _ (field_moved p ts x h.0) (fields_moved p fs (rest x) h.1)

node_moved : (p : Span → Span) (t : Tree) → OfFields (IsMoved p) (parts t) → IsMoved p t
node_moved p t h x =
    walk_of (elsewhere p t) (around_moved p x)
    ∙ (both p (own t x) (told_within (parts t) (inside t x)) _ _ (own_moved p t x) (ap₂ (λ fs c. told_within fs c) (parts_moved p t) (code_moved p t x) ∙ fields_moved p (parts t) (inside t x) h)
    ∙ ap (λ us. told_moved p us) (sym (walk_of t x)))

pub places_move : PlacesMove
places_move p t = holds_of (IsMoved p) (node_moved p) t outermost
