-- How a node's faults, and those of lists, are told by what is asked.
use Rattle.std.proofs.lemmas.List.{drop_more}
use Rattle.std.proofs.Common.{ℕ, ◌+◌, ◌<◌, length, get_or, drop, ◌≡◌, Bool, true, false, not, ◌&&◌, ◌||◌, if◌then◌else◌, List, [], ◌∷◌, ◌++◌, ◌∙◌, append_assoc, append-nil, Option, Some, None, is_some, refl, sym, ap}
use Rattle.std.proofs.Math.Bool.{and-true}
use Rattle.base_token.specs.declared.error.Error.{Error}
use Rattle.base_token.specs.declared.error.SyntaxError.TheVariants.{DuplicateConstructor, DuplicateProto, InitRequired, InitRequiredForUsingDecl, InvalidSuperCall, UsingDeclNotAllowed, UsingDeclNotAllowedForForInLoop}
use Rattle.base_token.specs.declared.place.Span.{Span}
use Rattle.tree_spec.specs.Tree.{Tree, Trees, none, more, trees_by, absent, super, param, block_stmt, for_in_stmt, using_decl, constructor, assign_expr, paren_expr, call_expr, expr_stmt, key_value_prop, setter_prop, var_declarator}
use Rattle.tree_spec.specs.Folds.{fold, folds}
use Rattle.tree_nodes.specs.declared.expressions.TplElement.{TplElement}
use Rattle.tree_nodes.specs.View.{view_tpl_element}
use Rattle.grammar_spec.specs.Tokens.Shape.{is_absent, is_bound_name, is_directive, is_use_strict}
use Rattle.grammar_spec.specs.Judge.Early.{Scope, Walk, as_block, as_body, as_method, are_bare, every, evil, fault, first, heading, in_function, is_bare, is_proto, later, looping, members, mode, mode_fault, own_use_strict, second_constructors, second_protos, statements, step, top_using, unset, unset_using, within}
use Rattle.judge.specs.Base.Around.{after_statement}
use Rattle.judge.specs.Faults.Asked.{found, is_child, is_super, using_of, own_of, use_strict_of, constructor_of, in_member, proto_of, target_name, own_by}

-- ---- nodes

pub assign_step : (s : Span) (op : _) (l v : Tree) (kids : List (List Walk)) (x : Scope) → step (assign_expr s op l v) kids x ≡ evil (target_name l) x ++ within kids x
assign_step s op (paren_expr t e) v kids x = refl
assign_step s op l v kids x = refl

pub call_step : (s : Span) (c : Tree) (xs : Trees) (kids : List (List Walk)) (x : Scope) → step (call_expr s c xs) kids x ≡ fault (is_super c && not x.calls) InvalidSuperCall s ++ within kids x
call_step s (super t) xs kids x = refl
call_step s c xs kids x = refl

pub for_in_step : (s : Span) (l r b : Tree) (kids : List (List Walk)) (x : Scope) → step (for_in_stmt s l r b) kids x ≡ found true (using_of l) UsingDeclNotAllowedForForInLoop ++ (first kids (heading x) ++ within (later kids) (looping x))
for_in_step s (using_decl v w ds) r b kids x = refl
for_in_step s l r b kids x = refl

pub mode_by_own : (ps : Trees) (b : Tree) → mode ps b ≡ mode_fault (are_bare ps) (own_of b)
mode_by_own ps (block_stmt s ss) = refl
mode_by_own ps b = refl

-- ---- what a child is not

clash : {A : Type 0} → true ≡ false → A
clash h = absurd cc

pub child_there : (t : Tree) → is_child t ≡ true → is_absent t ≡ false
child_there absent e = clash (sym e)
child_there t e = refl

pub child_no_super : (t : Tree) → is_child t ≡ true → is_super t ≡ false
child_no_super (super s) e = clash (sym e)
child_no_super t e = refl

pub child_bare : (t : Tree) → is_child t ≡ true → is_bare t ≡ is_bound_name t
child_bare (param s ds p) e = clash (sym e)
child_bare t e = refl

-- ---- lists

pub bare_alone : (p : Tree) → are_bare (more p none) ≡ is_bare p
bare_alone p = and-true (is_bare p)

-- a node's own faults, and those of three parts behind them
pub for_in_behind : (s : Span) (l r b : Tree) (x h y z : Scope) (es f1 f2 f3 f4 : List Error) → f1 ≡ es ++ found true (using_of l) UsingDeclNotAllowedForForInLoop → h ≡ heading x → f2 ≡ f1 ++ fold step l h → y ≡ looping x → f3 ≡ f2 ++ fold step r y → z ≡ looping x → f4 ≡ f3 ++ fold step b z → f4 ≡ es ++ fold step (for_in_stmt s l r b) x
for_in_behind s l r b x h y z es f1 f2 f3 f4 a p c q d t e =
    let u = found true (using_of l) UsingDeclNotAllowedForForInLoop in
    let wl = fold step l (heading x) in
    let wr = fold step r (looping x) in
    let wb = fold step b (looping x) in
    let e4 : f4 ≡ ((es ++ u) ++ wl) ++ wr ++ wb = e ∙ ap (λ v. f3 ++ fold step b v) t ∙ ap (λ v. v ++ wb) (d ∙ ap (λ v. f2 ++ fold step r v) q ∙ ap (λ v. v ++ wr) (c ∙ ap (λ v. f1 ++ fold step l v) p ∙ ap (λ v. v ++ wl) a)) in
    e4 ∙ simp (append_assoc, append-nil, for_in_step s l r b) refl

-- the faults of a setter: of its mode, and of three parts behind them
pub setter_behind : (s w : Span) (k p : Tree) (ss : Trees) (x y z v : Scope) (bare : Bool) (own : Option Span) (es f1 f2 f3 f4 : List Error) → bare ≡ is_bare p → own ≡ own_use_strict ss → f1 ≡ es ++ mode_fault bare own → f2 ≡ f1 ++ fold step k x → y ≡ as_method x → z ≡ in_function y → f3 ≡ f2 ++ fold step p z → v ≡ as_body z → f4 ≡ f3 ++ fold step (block_stmt w ss) v → f4 ≡ es ++ fold step (setter_prop s k p (block_stmt w ss)) x
setter_behind s w k p ss x y z v bare own es f1 f2 f3 f4 hb ho a c hy hz d hv e =
    let inside = in_function (as_method x) in
    let m = mode_fault (is_bare p) (own_use_strict ss) in
    let wk = fold step k x in
    let wp = fold step p inside in
    let wb = fold step (block_stmt w ss) (as_body inside) in
    let here : z ≡ inside = hz ∙ ap in_function hy in
    let e1 : f1 ≡ es ++ m = a ∙ ap (λ u. es ++ mode_fault u own) hb ∙ ap (λ u. es ++ mode_fault (is_bare p) u) ho in
    let e2 : f2 ≡ (es ++ m) ++ wk = c ∙ ap (λ u. u ++ wk) e1 in
    let e3 : f3 ≡ ((es ++ m) ++ wk) ++ wp = d ∙ ap (λ u. f2 ++ fold step p u) here ∙ ap (λ u. u ++ wp) e2 in
    let e4 : f4 ≡ (((es ++ m) ++ wk) ++ wp) ++ wb = e ∙ ap (λ u. f3 ++ fold step (block_stmt w ss) u) (hv ∙ ap as_body here) ∙ ap (λ u. u ++ wb) e3 in
    let same : (((es ++ m) ++ wk) ++ wp) ++ wb ≡ es ++ (m ++ (wk ++ (wp ++ wb))) = simp (append_assoc) refl in
    e4 ∙ same ∙ ap (λ u. es ++ (mode_fault u (own_use_strict ss) ++ (wk ++ (wp ++ wb)))) (sym (bare_alone p)) ∙ simp (append-nil) refl

-- the texts of a template have none
pub texts_have_none : (xs : List TplElement) (x : Scope) → every (folds step (trees_by view_tpl_element xs)) x ≡ []
texts_have_none [] x = refl
texts_have_none (t ∷ ts) x = texts_have_none ts x

some_if : (b : Bool) (s : Span) → b ≡ is_some (if b then Some s else None)
some_if true s = refl
some_if false s = refl

pub use_strict_is : (t : Tree) → is_use_strict t ≡ is_some (use_strict_of t)
use_strict_is t = some_if (is_use_strict t) _

pub statements_step : (t : Tree) (ts : Trees) (w : Walk) (ws : List Walk) (x : Scope) → statements (more t ts) (w ∷ ws) x ≡ w (as_block x) ++ statements ts ws (after_statement (is_some (use_strict_of t)) (is_directive t) x)
statements_step t ts w ws x = ap (λ b. w (as_block x) ++ statements ts ws (after_statement b (is_directive t) x)) (use_strict_is t)

-- a turn of the loop over statements
pub statements_turn : (t : Tree) (ts : Trees) (w : Walk) (ws : List Walk) (x y z : Scope) (strict directive : Bool) (es fs : List Error) → y ≡ as_block x → fs ≡ es ++ w y → strict ≡ is_some (use_strict_of t) → directive ≡ is_directive t → z ≡ after_statement strict directive x → fs ++ statements ts ws z ≡ es ++ statements (more t ts) (w ∷ ws) x
statements_turn t ts w ws x y z strict directive es fs a b c d e =
    ap (λ l. l ++ statements ts ws z) (b ∙ ap (λ v. es ++ w v) a)
    ∙ append_assoc es (w (as_block x)) (statements ts ws z)
    ∙ ap (λ v. es ++ (w (as_block x) ++ statements ts ws v)) (e ∙ ap (λ p. after_statement p directive x) c ∙ ap (λ p. after_statement (is_some (use_strict_of t)) p x) d)
    ∙ ap (λ l. es ++ l) (sym (statements_step t ts w ws x))

-- the same of what is left of a list
pub statements_more : {X : Type 0} (f : X → Tree) (items : List X) (i : ℕ) (v : X) (x y z : Scope) (strict directive : Bool) (es fs start : List Error) → i < length items → v ≡ get_or items i v → es ++ statements (trees_by f (drop i items)) (folds step (trees_by f (drop i items))) x ≡ start → y ≡ as_block x → fs ≡ es ++ fold step (f v) y → strict ≡ is_some (use_strict_of (f v)) → directive ≡ is_directive (f v) → z ≡ after_statement strict directive x → fs ++ statements (trees_by f (drop (i + 1) items)) (folds step (trees_by f (drop (i + 1) items))) z ≡ start
statements_more f items i v x y z strict directive es fs start lt here before a b c d e =
    statements_turn (f v) (trees_by f (drop (i + 1) items)) (fold step (f v)) (folds step (trees_by f (drop (i + 1) items))) x y z strict directive es fs a b c d e
    ∙ (ap (λ l. es ++ statements (trees_by f l) (folds step (trees_by f l)) x) (ap (λ w. w ∷ drop (i + 1) items) here ∙ sym (drop_more items i v lt)) ∙ before)

own_if : (b d : Bool) (s : Span) (r : Option Span) → (if b then Some s else (if d then r else None)) ≡ own_by (if b then Some s else None) d r
own_if true d s r = refl
own_if false true s r = refl
own_if false false s r = refl

pub own_step : (t : Tree) (ts : Trees) → own_use_strict (more t ts) ≡ own_by (use_strict_of t) (is_directive t) (own_use_strict ts)
own_step (expr_stmt s e) ts = own_if (is_use_strict (expr_stmt s e)) (is_directive (expr_stmt s e)) s (own_use_strict ts)
own_step t ts = refl

pub top_using_step : (t : Tree) (ts : Trees) → top_using (more t ts) ≡ found true (using_of t) UsingDeclNotAllowed ++ top_using ts
top_using_step (using_decl s w ds) ts = refl
top_using_step t ts = refl

pub second_constructors_step : (had : Bool) (t : Tree) (ts : Trees) → second_constructors had (more t ts) ≡ found had (constructor_of t) DuplicateConstructor ++ second_constructors (had || is_some (constructor_of t)) ts
second_constructors_step true (constructor s k ps b) ts = refl
second_constructors_step false (constructor s k ps b) ts = refl
second_constructors_step true t ts = refl
second_constructors_step false t ts = refl

pub members_step : (derived : Bool) (t : Tree) (ts : Trees) (w : Walk) (ws : List Walk) (x : Scope) → members derived (more t ts) (w ∷ ws) x ≡ w (in_member derived t x) ++ members derived ts ws x
members_step derived (constructor s k ps b) ts w ws x = refl
members_step derived t ts w ws x = refl

proto_if : (had b : Bool) (s : Span) (k : Bool → List Error) → fault (had && b) DuplicateProto s ++ k (had || b) ≡ found had (if b then Some s else None) DuplicateProto ++ k (had || is_some (if b then Some s else None))
proto_if true true s k = refl
proto_if true false s k = refl
proto_if false true s k = refl
proto_if false false s k = refl

pub second_protos_step : (had : Bool) (p : Tree) (ps : Trees) → second_protos had (more p ps) ≡ found had (proto_of p) DuplicateProto ++ second_protos (had || is_some (proto_of p)) ps
second_protos_step had (key_value_prop s k v) ps = proto_if had (is_proto (key_value_prop s k v)) s (λ b. second_protos b ps)
second_protos_step true p ps = refl
second_protos_step false p ps = refl

pub unset_step : (is_const : Bool) (s : Span) (n e : Tree) (ds : Trees) → unset is_const (more (var_declarator s n e) ds) ≡ fault (is_absent e && (is_const || not (is_bound_name n))) InitRequired s ++ unset is_const ds
unset_step is_const s n absent ds = refl
unset_step is_const s n e ds = refl

pub unset_using_step : (s : Span) (n e : Tree) (ds : Trees) → unset_using (more (var_declarator s n e) ds) ≡ fault (is_absent e) InitRequiredForUsingDecl s ++ unset_using ds
unset_using_step s n absent ds = refl
unset_using_step s n e ds = refl
