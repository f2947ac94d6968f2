-- Whether an item is read as one that binds.
use Rattle.std.proofs.Common.{◌≡◌, ◌<◌, ◌≤◌, ◌+◌, ◌-◌, ℕ, Bool, true, false, not, ◌&&◌, ◌||◌, ◌==◌, if◌then◌else◌, List, ◌∷◌, Option, None, Some, Result, Ok, Err, drop, get_or, length, true≢false, refl, ap, sym, arith, ◌∙◌}
use Rattle.std.proofs.lemmas.Bool.{lt-ltb}
use Rattle.std.proofs.lemmas.List.{drop_all, drop_more, length-drop}
use Rattle.std.specs.Option.{is_some}
use Rattle.std.proofs.Math.Bool.{and-false}
use Rattle.base_token.specs.declared.place.Span.{Span}
use Rattle.base_token.specs.Kinds.{assign_kind}
use Rattle.tree_spec.specs.Tree.{Tree, Trees, none, more, element_by, trees_by, array_lit, array_pat, assign_expr, assign_pat, expr_or_spread, key_value_pat_prop, object_lit, object_pat, spread_element, unpack}
use Rattle.grammar_spec.specs.Tokens.Shape.{is_structured}
use Rattle.base_token.specs.OperatorKinds.{assign_op_kind}
use Rattle.tree_nodes.specs.declared.expressions.AssignExprOf.{AssignExprOf}
use Rattle.tree_nodes.specs.declared.expressions.ExprKindOf.{ExprKindOf}
use Rattle.tree_nodes.specs.declared.expressions.ExprKindOf.TheVariants as kind
use Rattle.tree_nodes.specs.declared.expressions.Ident.{Ident}
use Rattle.tree_nodes.specs.declared.literals.Lit.TheVariants as lit
use Rattle.tree_nodes.specs.declared.patterns.AssignTargetOf.{AssignTargetOf}
use Rattle.tree_nodes.specs.declared.patterns.AssignTargetOf.TheVariants as target
use Rattle.tree_nodes.specs.Placed.{Placed, inner}
use Rattle.tree_nodes.specs.View.{view_array_pat, view_assign_target, view_expr_kind, view_expr_or_spread, view_object_pat, view_prop_or_spread}
use Rattle.grammar_spec.specs.Reader.Source.{Fault, unfit, ◌>>=◌}
use Rattle.grammar_spec.specs.Reader.Cover.{as_prop, binds_names, has, initialised, is_rest_item, rest_of, to_item, to_items}
use Rattle.grammar_spec.specs.Reader.Expressions.{is_read}
use Rattle.parse_refine.specs.Items.{all_told, is_more, item_by}
use Rattle.parse_refine.proofs.Rows.{more_left}

-- ---- lists

one : (r : Result Tree Fault) → is_read (r >>= λ p. Ok (more p none)) ≡ (is_read r && true)
one (Ok p) = refl
one (Err e) = refl

both : (r : Result Tree Fault) (t : Result Trees Fault) → is_read (r >>= λ p. t >>= λ ps. Ok (more p ps)) ≡ (is_read r && is_read t)
both (Ok p) (Ok ps) = refl
both (Ok p) (Err e) = refl
both (Err e) t = refl

chosen : {A : Type 0} (b : Bool) (r : Result A Fault) → is_read (if b then unfit else r) ≡ (not b && is_read r)
chosen true r = refl
chosen false r = refl

pub all_is : (props : Bool) (commas : List ℕ) (xs : Trees) → is_read (to_items props true commas xs) ≡ all_told props commas xs
unfolding item_by
all_is props commas none = refl
all_is props commas (more x none) = one (as_prop props x (to_item true commas x))
all_is props commas (more x (more y ys)) =
    chosen (is_rest_item x) _ ∙ ap (λ (b : Bool). not (is_rest_item x) && b) (both (as_prop props x (to_item true commas x)) (to_items props true commas (more y ys)) ∙ ap (λ (b : Bool). is_read (as_prop props x (to_item true commas x)) && b) (all_is props commas (more y ys)))

listed : (f : Trees → Tree) (r : Result Trees Fault) → is_read (r >>= λ ps. Ok (f ps)) ≡ is_read r
listed f (Ok ps) = refl
listed f (Err e) = refl

pub array_is : (commas : List ℕ) (s : Span) (xs : Trees) → is_read (to_item true commas (array_lit s xs)) ≡ (not (has s.lo.0 commas) && all_told false commas xs)
array_is commas s xs = chosen (has s.lo.0 commas) _ ∙ ap (λ (b : Bool). not (has s.lo.0 commas) && b) (listed (array_pat s) (to_items false true commas xs) ∙ all_is false commas xs)

pub object_is : (commas : List ℕ) (s : Span) (xs : Trees) → is_read (to_item true commas (object_lit s xs)) ≡ (not (has s.lo.0 commas) && all_told true commas xs)
object_is commas s xs = chosen (has s.lo.0 commas) _ ∙ ap (λ (b : Bool). not (has s.lo.0 commas) && b) (listed (object_pat s) (to_items true true commas xs) ∙ all_is true commas xs)

-- an array and an object, by their items
pub array_told : (commas : List ℕ) (s : Span) (xs : Trees) → has s.lo.0 commas ≡ false → (b : Bool) → all_told false commas xs ≡ b → b ≡ is_read (to_item true commas (array_lit s xs))
array_told commas s xs h b e = sym (array_is commas s xs ∙ rw (h, e) refl)

pub object_told : (commas : List ℕ) (s : Span) (xs : Trees) → has s.lo.0 commas ≡ false → (b : Bool) → all_told true commas xs ≡ b → b ≡ is_read (to_item true commas (object_lit s xs))
object_told commas s xs h b e = sym (object_is commas s xs ∙ rw (h, e) refl)

-- The items of a list from one of them on: where it can't stand there, at a rest before others, and at the end.
module _ (props : Bool) (commas : List ℕ) {A : Type 0} (f : A → Tree) where
  at_item : (xs : List A) (i : ℕ) (x : A) → i < length xs → x ≡ get_or xs i x
      → all_told props commas (trees_by f (drop i xs)) ≡ (not (is_more (trees_by f (drop (i + 1) xs)) && is_rest_item (f x)) && (is_read (item_by props true commas (f x)) && all_told props commas (trees_by f (drop (i + 1) xs))))
  at_item xs i x l e = ap (λ (ys : List A). all_told props commas (trees_by f ys)) (drop_more xs i x l ∙ ap (λ (y : A). y ∷ drop (i + 1) xs) (sym e))

  more_behind : (xs : List A) (i left : ℕ) → left + i ≡ length xs → 0 < left - 1 → is_more (trees_by f (drop (i + 1) xs)) ≡ true
  more_behind xs i left e l = more_left f (drop (i + 1) xs) ∙ lt-ltb 0 (length (drop (i + 1) xs)) (omega (arith, e, l, length-drop (i + 1) xs))

  pub stops_at_rest : (xs : List A) (i : ℕ) (x : A) (left : ℕ) → i < length xs → x ≡ get_or xs i x → left + i ≡ length xs → 0 < left - 1 → is_rest_item (f x) ≡ true
      → all_told props commas (trees_by f (drop i xs)) ≡ false
  stops_at_rest xs i x left l e n m r = at_item xs i x l e ∙ rw (more_behind xs i left n m, r) refl

  pub stops_at_item : (xs : List A) (i : ℕ) (x : A) → i < length xs → x ≡ get_or xs i x → is_read (item_by props true commas (f x)) ≡ false
      → all_told props commas (trees_by f (drop i xs)) ≡ false
  stops_at_item xs i x l e r = at_item xs i x l e ∙ rw r (and-false (not (is_more (trees_by f (drop (i + 1) xs)) && is_rest_item (f x))))

  pub nothing_left : (xs : List A) (i : ℕ) → length xs ≤ i → all_told props commas (trees_by f (drop i xs)) ≡ true
  nothing_left xs i l = ap (λ (ys : List A). all_told props commas (trees_by f ys)) (drop_all i xs l)

pub stops_at_element : (commas : List ℕ) {A : Type 0} (f : A → Tree) (xs : List A) (i : ℕ) (x : A) → i < length xs → x ≡ get_or xs i x → is_read (to_item true commas (f x)) ≡ false
    → all_told false commas (trees_by f (drop i xs)) ≡ false
unfolding item_by
stops_at_element commas f xs i x l e r = stops_at_item false commas f xs i x l e r

-- ---- elements, behind dots or not

pub element_stops : (commas : List ℕ) (s : Span) (o : Option Span) (e : Tree) → is_some o ≡ true → ((d : Span) → is_read (to_item true commas (expr_or_spread s (Some d) e)) ≡ false)
    → false ≡ is_read (to_item true commas (expr_or_spread s o e))
element_stops commas s None e h f = absurd (true≢false (sym h))
element_stops commas s (Some d) e h f = sym (f d)

pub element_read : (commas : List ℕ) (s : Span) (o : Option Span) (e : Tree) → (is_some o ≡ true → (d : Span) → is_read (to_item true commas (expr_or_spread s (Some d) e)) ≡ is_read (to_item true commas e))
    → is_read (to_item true commas e) ≡ is_read (to_item true commas (expr_or_spread s o e))
element_read commas s None e f = refl
element_read commas s (Some d) e f = sym (f refl d)

-- ---- initialisers

kept : (b : Bool) (s : Span) (p e : Tree) → ((if not true || b then Ok p else unfit) >>= λ q. Ok (assign_pat s q e)) ≡ (if b then Ok (assign_pat s p e) else unfit)
kept true s p e = refl
kept false s p e = refl

pub init_is : (s : Span) (x : AssignTargetOf Placed) (e : Tree) → initialised true s (view_assign_target inner x) e ≡ (if binds_names (view_assign_target inner x) then Ok (assign_pat s (view_assign_target inner x) e) else unfit)
init_is s (target.Ident x) e = refl
init_is s (target.Member x) e = refl
init_is s (target.SuperProp x) e = refl
init_is s (target.Paren x) e = refl
init_is s (target.OptChain x) e = refl
init_is s (target.Array x) e = kept (binds_names (view_array_pat inner x)) s (view_array_pat inner x) e
init_is s (target.Object x) e = kept (binds_names (view_object_pat inner x)) s (view_object_pat inner x) e
init_is s (target.Invalid x) e = refl

two : (a b : Bool) (p : Tree) → is_read (if a then (if b then Ok p else unfit) else unfit) ≡ (a && b)
two true true p = refl
two true false p = refl
two false b p = refl

pub default_told : (commas : List ℕ) (s : Span) (op : ℕ) (x : AssignTargetOf Placed) (e : Tree) → is_read (to_item true commas (assign_expr s op (view_assign_target inner x) e)) ≡ ((op == assign_kind) && binds_names (view_assign_target inner x))
default_told commas s op x e = rw (init_is s x e) (two (op == assign_kind) (binds_names (view_assign_target inner x)) (assign_pat s (view_assign_target inner x) e))

-- ---- rests

bound : (a b : Bool) (s t : Span) (p e : Tree) → is_read ((if a then (if b then Ok (assign_pat t p e) else unfit) else unfit) >>= λ q. rest_of s q) ≡ false
bound true true s t p e = refl
bound true false s t p e = refl
bound false b s t p e = refl

pub rest_default : (commas : List ℕ) (s d t : Span) (op : ℕ) (x : AssignTargetOf Placed) (e : Tree) → is_read (to_item true commas (expr_or_spread s (Some d) (assign_expr t op (view_assign_target inner x) e))) ≡ false
rest_default commas s d t op x e = rw (init_is t x e) (bound (op == assign_kind) (binds_names (view_assign_target inner x)) s t (view_assign_target inner x) e)

array_behind : (b : Bool) (s t : Span) (r : Result Trees Fault) → is_read ((if b then unfit else (r >>= λ ps. Ok (array_pat t ps))) >>= λ q. rest_of s q) ≡ is_read (if b then unfit else (r >>= λ ps. Ok (array_pat t ps)))
array_behind true s t r = refl
array_behind false s t (Ok ps) = refl
array_behind false s t (Err e) = refl

object_behind : (b : Bool) (s t : Span) (r : Result Trees Fault) → is_read ((if b then unfit else (r >>= λ ps. Ok (object_pat t ps))) >>= λ q. rest_of s q) ≡ is_read (if b then unfit else (r >>= λ ps. Ok (object_pat t ps)))
object_behind true s t r = refl
object_behind false s t (Ok ps) = refl
object_behind false s t (Err e) = refl

rest_array : (commas : List ℕ) (s d t : Span) (xs : Trees) → is_read (to_item true commas (expr_or_spread s (Some d) (array_lit t xs))) ≡ is_read (to_item true commas (array_lit t xs))
rest_array commas s d t xs = array_behind (has t.lo.0 commas) s t (to_items false true commas xs)

rest_object : (commas : List ℕ) (s d t : Span) (xs : Trees) → is_read (to_item true commas (expr_or_spread s (Some d) (object_lit t xs))) ≡ is_read (to_item true commas (object_lit t xs))
rest_object commas s d t xs = object_behind (has t.lo.0 commas) s t (to_items true true commas xs)

-- behind dots an expression is read as it is, but for an assignment
pub rest_other : (commas : List ℕ) (s d : Span) (k : ExprKindOf Placed) → ((x : AssignExprOf Placed) → k ≡ kind.Assign x → ⊥) → is_read (to_item true commas (expr_or_spread s (Some d) (view_expr_kind inner k))) ≡ is_read (to_item true commas (view_expr_kind inner k))
rest_other commas s d (kind.This x) n = refl
rest_other commas s d (kind.Array x) n = rest_array commas s d x.span (trees_by (λ y. element_by (view_expr_or_spread inner) y) x.elems.items)
rest_other commas s d (kind.Object x) n = rest_object commas s d x.span (trees_by (view_prop_or_spread inner) x.props.items)
rest_other commas s d (kind.Fn x) n = refl
rest_other commas s d (kind.Unary x) n = refl
rest_other commas s d (kind.Update x) n = refl
rest_other commas s d (kind.Bin x) n = refl
rest_other commas s d (kind.Assign x) n = absurd (n x refl)
rest_other commas s d (kind.Member x) n = refl
rest_other commas s d (kind.SuperProp x) n = refl
rest_other commas s d (kind.Cond x) n = refl
rest_other commas s d (kind.Call x) n = refl
rest_other commas s d (kind.New x) n = refl
rest_other commas s d (kind.Seq x) n = refl
rest_other commas s d (kind.Ident x) n = refl
rest_other commas s d (kind.Lit (lit.Str x)) n = refl
rest_other commas s d (kind.Lit (lit.Bool x)) n = refl
rest_other commas s d (kind.Lit (lit.Null x)) n = refl
rest_other commas s d (kind.Lit (lit.Num x)) n = refl
rest_other commas s d (kind.Lit (lit.BigInt x)) n = refl
rest_other commas s d (kind.Lit (lit.Regex x)) n = refl
rest_other commas s d (kind.Tpl x) n = refl
rest_other commas s d (kind.TaggedTpl x) n = refl
rest_other commas s d (kind.Arrow x) n = refl
rest_other commas s d (kind.Class x) n = refl
rest_other commas s d (kind.Yield x) n = refl
rest_other commas s d (kind.MetaProp x) n = refl
rest_other commas s d (kind.Await x) n = refl
rest_other commas s d (kind.Paren x) n = refl
rest_other commas s d (kind.PrivateName x) n = refl
rest_other commas s d (kind.OptChain x) n = refl
rest_other commas s d (kind.Invalid x) n = refl

-- ---- what is spread in an object

spread_bound : (a b : Bool) (s t : Span) (p e : Tree) → is_read ((if a then (if b then Ok (assign_pat t p e) else unfit) else unfit) >>= λ q. if is_structured q then unfit else rest_of s q) ≡ false
spread_bound true true s t p e = refl
spread_bound true false s t p e = refl
spread_bound false b s t p e = refl

spread_default : (commas : List ℕ) (s t : Span) (op : ℕ) (x : AssignTargetOf Placed) (e : Tree) → is_read (to_item true commas (spread_element s (assign_expr t op (view_assign_target inner x) e))) ≡ false
spread_default commas s t op x e = rw (init_is t x e) (spread_bound (op == assign_kind) (binds_names (view_assign_target inner x)) s t (view_assign_target inner x) e)

array_spread : (b : Bool) (s t : Span) (r : Result Trees Fault) → is_read ((if b then unfit else (r >>= λ ps. Ok (array_pat t ps))) >>= λ q. if is_structured q then unfit else rest_of s q) ≡ false
array_spread true s t r = refl
array_spread false s t (Ok ps) = refl
array_spread false s t (Err e) = refl

object_spread : (b : Bool) (s t : Span) (r : Result Trees Fault) → is_read ((if b then unfit else (r >>= λ ps. Ok (object_pat t ps))) >>= λ q. if is_structured q then unfit else rest_of s q) ≡ false
object_spread true s t r = refl
object_spread false s t (Ok ps) = refl
object_spread false s t (Err e) = refl

spread_array : (commas : List ℕ) (s t : Span) (xs : Trees) → is_read (to_item true commas (spread_element s (array_lit t xs))) ≡ false
spread_array commas s t xs = array_spread (has t.lo.0 commas) s t (to_items false true commas xs)

spread_object : (commas : List ℕ) (s t : Span) (xs : Trees) → is_read (to_item true commas (spread_element s (object_lit t xs))) ≡ false
spread_object commas s t xs = object_spread (has t.lo.0 commas) s t (to_items true true commas xs)

-- what is spread in an object is read where it is a name alone
pub spread_other : (commas : List ℕ) (s : Span) (k : ExprKindOf Placed) → ((x : Ident) → k ≡ kind.Ident x → ⊥) → is_read (to_item true commas (spread_element s (view_expr_kind inner k))) ≡ false
spread_other commas s (kind.This x) n = refl
spread_other commas s (kind.Array x) n = spread_array commas s x.span (trees_by (λ y. element_by (view_expr_or_spread inner) y) x.elems.items)
spread_other commas s (kind.Object x) n = spread_object commas s x.span (trees_by (view_prop_or_spread inner) x.props.items)
spread_other commas s (kind.Fn x) n = refl
spread_other commas s (kind.Unary x) n = refl
spread_other commas s (kind.Update x) n = refl
spread_other commas s (kind.Bin x) n = refl
spread_other commas s (kind.Assign x) n = spread_default commas s x.span (assign_op_kind x.op) x.left (inner x.right.part.value)
spread_other commas s (kind.Member x) n = refl
spread_other commas s (kind.SuperProp x) n = refl
spread_other commas s (kind.Cond x) n = refl
spread_other commas s (kind.Call x) n = refl
spread_other commas s (kind.New x) n = refl
spread_other commas s (kind.Seq x) n = refl
spread_other commas s (kind.Ident x) n = absurd (n x refl)
spread_other commas s (kind.Lit (lit.Str x)) n = refl
spread_other commas s (kind.Lit (lit.Bool x)) n = refl
spread_other commas s (kind.Lit (lit.Null x)) n = refl
spread_other commas s (kind.Lit (lit.Num x)) n = refl
spread_other commas s (kind.Lit (lit.BigInt x)) n = refl
spread_other commas s (kind.Lit (lit.Regex x)) n = refl
spread_other commas s (kind.Tpl x) n = refl
spread_other commas s (kind.TaggedTpl x) n = refl
spread_other commas s (kind.Arrow x) n = refl
spread_other commas s (kind.Class x) n = refl
spread_other commas s (kind.Yield x) n = refl
spread_other commas s (kind.MetaProp x) n = refl
spread_other commas s (kind.Await x) n = refl
spread_other commas s (kind.Paren x) n = refl
spread_other commas s (kind.PrivateName x) n = refl
spread_other commas s (kind.OptChain x) n = refl
spread_other commas s (kind.Invalid x) n = refl

-- ---- properties and parameters

pub value_told : (s : Span) (k : Tree) (r : Result Tree Fault) → is_read (r >>= λ p. Ok (key_value_pat_prop s k p)) ≡ is_read r
value_told s k (Ok p) = refl
value_told s k (Err e) = refl

pub params_told : (c l : Bool) (r : Result Trees Fault) → is_read (if c && l then unfit else (r >>= λ ps. Ok (unpack ps))) ≡ (not (c && l) && is_read r)
params_told true true r = refl
params_told true false (Ok ps) = refl
params_told true false (Err e) = refl
params_told false l (Ok ps) = refl
params_told false l (Err e) = refl
