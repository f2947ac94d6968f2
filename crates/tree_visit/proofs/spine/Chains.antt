-- Laws of chains.
use Rattle.std.proofs.Common.{◌≡◌, ◌+◌, ◌*◌, ◌-◌, ◌≤◌, ◌<◌, ℕ, zero, suc, Bool, true, false, not, if◌then◌else◌, refl, sym, ap, ◌∙◌, arith, subst}
use Rattle.std.proofs.lemmas.Bool.{cond-false, not-true}
use Rattle.std.proofs.Math.Nat.{add-zero, add-suc, add-sub_of_le}
use Rattle.std.proofs.Math.Numerals.{add-one}
use Rattle.base_token.specs.declared.place.Span.{Span}
use Rattle.tree_spec.specs.Tree.{Tree, Trees, bin_expr, member_expr, call_expr, tagged_tpl, opt_chain_expr, opt_call}
use Rattle.tree_spec.specs.Codes.{tree_size}
use Rattle.tree_nodes.specs.View.{view_lit, view_expr_kind}
use Rattle.tree_nodes.specs.declared.literals.Lit.{Lit}
use Rattle.tree_nodes.specs.declared.literals.Lit.TheVariants as Lit
use Rattle.tree_nodes.specs.declared.expressions.BinExprOf.{BinExprOf}
use Rattle.tree_nodes.specs.declared.expressions.CallExprOf.{CallExprOf}
use Rattle.tree_nodes.specs.declared.expressions.ExprKindOf.{ExprKindOf}
use Rattle.tree_nodes.specs.declared.expressions.ExprKindOf.TheVariants as ExprKind
use Rattle.tree_nodes.specs.declared.expressions.MemberExprOf.{MemberExprOf}
use Rattle.tree_nodes.specs.declared.expressions.OptChainExprOf.{OptChainExprOf}
use Rattle.tree_nodes.specs.declared.expressions.TaggedTplOf.{TaggedTplOf}
use Rattle.tree_nodes.proofs.Spines.{top_falls as node_falls}
use Rattle.tree_visit.specs.Spine.Chains.{Linked, base_left, below, is_base, is_head_word, is_link, left_part}

pub no : {A : Type 0} → false ≡ true → A
no h = absurd (let e : false ≡ true = h in cc)

-- ---- literals

pub literal_stays : (l : Lit) → left_part (view_lit l) ≡ view_lit l
literal_stays (Lit.Str x) = refl
literal_stays (Lit.Bool x) = refl
literal_stays (Lit.Null x) = refl
literal_stays (Lit.Num x) = refl
literal_stays (Lit.BigInt x) = refl
literal_stays (Lit.Regex x) = refl

pub literal_is_none : (l : Lit) → is_link (view_lit l) ≡ false
literal_is_none (Lit.Str x) = refl
literal_is_none (Lit.Bool x) = refl
literal_is_none (Lit.Null x) = refl
literal_is_none (Lit.Num x) = refl
literal_is_none (Lit.BigInt x) = refl
literal_is_none (Lit.Regex x) = refl

pub literal_is_no_word : (l : Lit) → is_head_word (view_lit l) ≡ false
literal_is_no_word (Lit.Str x) = refl
literal_is_no_word (Lit.Bool x) = refl
literal_is_no_word (Lit.Null x) = refl
literal_is_no_word (Lit.Num x) = refl
literal_is_no_word (Lit.BigInt x) = refl
literal_is_no_word (Lit.Regex x) = refl

-- ---- one link

-- what is of none of these kinds is no link
pub no_link : {T : Type 0} (f : T → Tree) (k : ExprKindOf T) → ((x : BinExprOf T) → k ≡ ExprKind.Bin x → ⊥) → ((x : MemberExprOf T) → k ≡ ExprKind.Member x → ⊥) → ((x : CallExprOf T) → k ≡ ExprKind.Call x → ⊥)
    → ((x : TaggedTplOf T) → k ≡ ExprKind.TaggedTpl x → ⊥) → ((x : OptChainExprOf T) → k ≡ ExprKind.OptChain x → ⊥) → is_link (view_expr_kind f k) ≡ false
no_link f (ExprKind.Bin x) h m c t o = absurd (h x refl)
no_link f (ExprKind.Member x) h m c t o = absurd (m x refl)
no_link f (ExprKind.Call x) h m c t o = absurd (c x refl)
no_link f (ExprKind.TaggedTpl x) h m c t o = absurd (t x refl)
no_link f (ExprKind.OptChain x) h m c t o = absurd (o x refl)
no_link f (ExprKind.Lit x) h m c t o = literal_is_none x
no_link f k h m c t o = refl

-- a call goes on from what is an expression
pub goes_on : (p : Span) (f : Tree) (xs : Trees) → is_head_word f ≡ false → left_part (call_expr p f xs) ≡ f
goes_on p f xs h = rw h refl

pub call_links : (p : Span) (f : Tree) (xs : Trees) → is_head_word f ≡ false → is_link (call_expr p f xs) ≡ true
call_links p f xs h = rw h refl

-- the left part of a call that is a link
pub callee_left : (p : Span) (f : Tree) (xs : Trees) → is_link (call_expr p f xs) ≡ true → left_part (call_expr p f xs) ≡ f
callee_left p f xs h = cond-false (is_head_word f) (call_expr p f xs) f (not-true (is_head_word f) h)

-- what is no link is its own left part
word_stays : (x : Bool) (a b : Tree) → not x ≡ false → (if x then a else b) ≡ a
word_stays true a b h = refl
word_stays false a b h = no (sym h)

base_stays : (b t : Tree) → is_base b ≡ false → base_left b t ≡ t
base_stays (member_expr _ _ _) t h = no (sym h)
base_stays (opt_call _ _ _) t h = no (sym h)
base_stays _ t h = refl

pub stays : (t : Tree) → is_link t ≡ false → left_part t ≡ t
stays (bin_expr _ _ _ _) h = no (sym h)
stays (member_expr _ _ _) h = no (sym h)
stays (call_expr p f xs) h = word_stays (is_head_word f) (call_expr p f xs) f h
stays (tagged_tpl _ _ _) h = no (sym h)
stays (opt_chain_expr p q b) h = base_stays b (opt_chain_expr p q b) h
stays _ h = refl

-- a left part is smaller
base_smaller : (b t : Tree) → is_base b ≡ true → tree_size (base_left b t) + 2 ≤ tree_size b
base_smaller (member_expr _ _ _) t h = omega (arith)
base_smaller (opt_call _ _ _) t h = omega (arith)
base_smaller _ t h = no h

pub left_smaller : (t : Tree) → is_link t ≡ true → tree_size (left_part t) + 2 ≤ tree_size t
left_smaller (bin_expr _ _ _ _) h = omega (arith)
left_smaller (member_expr _ _ _) h = omega (arith)
left_smaller (call_expr p f xs) h = let e : left_part (call_expr p f xs) ≡ f = callee_left p f xs h in rw e (omega (arith))
left_smaller (tagged_tpl _ _ _) h = omega (arith)
left_smaller (opt_chain_expr p q b) h = let a : tree_size (base_left b (opt_chain_expr p q b)) + 2 ≤ tree_size b = base_smaller b (opt_chain_expr p q b) h in omega (arith)
left_smaller _ h = no h

pub left_falls : (t l : Tree) → is_link t ≡ true → l ≡ left_part t → tree_size l < tree_size t
left_falls t l h e = let a : tree_size (left_part t) + 2 ≤ tree_size t = left_smaller t h in rw e (omega (arith))

-- ---- so many links

pub below_next : (n : ℕ) (t : Tree) → below (n + 1) t ≡ left_part (below n t)
unfolding below
below_next n t = rw (add-one n) refl

pub linked_next : (n : ℕ) (t : Tree) → Linked n t → is_link (below n t) ≡ true → Linked (n + 1) t
unfolding Linked
linked_next n t h e = subst (λ x. Linked x t) (sym (add-one n)) (h, e)

pub none_below : (t : Tree) → below 0 t ≡ t
unfolding below
none_below t = refl

pub none_linked : (t : Tree) → Linked 0 t
unfolding Linked
none_linked t = tt

pub one_below : (t : Tree) → below 1 t ≡ left_part t
unfolding below
one_below t = refl

pub one_link : (t : Tree) → Linked 1 t → is_link t ≡ true
unfolding Linked below
one_link t h = h.1

pub ruleset counted = (below_next, linked_next, none_below, none_linked)

-- so many links down and as many more
pub further : (a b : ℕ) (t : Tree) → below (a + b) t ≡ below b (below a t)
unfolding below
further a zero t = rw (add-zero a) refl
further a (suc b) t = rw (add-suc a b) (ap left_part (further a b t))

first_part : (a b : ℕ) (t : Tree) → Linked (a + b) t → Linked a t
unfolding Linked
first_part a zero t h = subst (λ x. Linked x t) (add-zero a) h
first_part a (suc b) t h = let k : Linked (suc (a + b)) t = subst (λ x. Linked x t) (add-suc a b) h in first_part a b t k.0

second_part : (a b : ℕ) (t : Tree) → Linked (a + b) t → Linked b (below a t)
unfolding Linked
second_part a zero t h = tt
second_part a (suc b) t h = let k : Linked (suc (a + b)) t = subst (λ x. Linked x t) (add-suc a b) h in
    (second_part a b t k.0, ap is_link (sym (further a b t)) ∙ k.1)

-- what is below links is smaller
pub smaller : (n : ℕ) (t : Tree) → Linked n t → tree_size (below n t) + 2 * n ≤ tree_size t
unfolding Linked below
smaller zero t h = omega (arith)
smaller (suc n) t h = let a : tree_size (below n t) + 2 * n ≤ tree_size t = smaller n t h.0 in
    let b : tree_size (left_part (below n t)) + 2 ≤ tree_size (below n t) = left_smaller (below n t) h.1 in omega (arith)

pub outer_links : (a n : ℕ) (t : Tree) → a ≤ n → Linked n t → Linked a t
outer_links a n t h l = first_part a (n - a) t (subst (λ x. Linked x t) (sym (add-sub_of_le h)) l)

pub inner_links : (a n : ℕ) (t : Tree) → a ≤ n → Linked n t → Linked (n - a) (below a t)
inner_links a n t h l = second_part a (n - a) t (subst (λ x. Linked x t) (sym (add-sub_of_le h)) l)

-- ---- what falls in a recursion by halves: the links that are left, with what stands right of their left parts

bottom : (k n : ℕ) (t : Tree) → k ≤ n → below (n - k) (below k t) ≡ below n t
bottom k n t h = sym (further k (n - k) t) ∙ ap (λ x. below x t) (add-sub_of_le h)

pub below_falls : (n : ℕ) (t : Tree) → Linked n t → (n ≡ 0 → ⊥) → tree_size (below n t) < tree_size t
below_falls n t h z = let a : tree_size (below n t) + 2 * n ≤ tree_size t = smaller n t h in omega (arith)

pub inner_falls : (k n : ℕ) (t : Tree) → Linked n t → k ≤ n → 0 < k
    → 2 * (tree_size (below k t) - tree_size (below (n - k) (below k t))) + 1 < 2 * (tree_size t - tree_size (below n t)) + 1
inner_falls k n t l h z = let a : tree_size (below k t) + 2 * k ≤ tree_size t = smaller k t (outer_links k n t h l) in
    let b : tree_size (below n t) + 2 * n ≤ tree_size t = smaller n t l in rw (bottom k n t h) (omega (arith))

pub outer_falls : (k n : ℕ) (t : Tree) → Linked n t → k < n
    → 2 * (tree_size t - tree_size (below k t)) + 1 < 2 * (tree_size t - tree_size (below n t)) + 1
outer_falls k n t l h = let m : k ≤ n = omega (arith) in
    let a : tree_size (below k t) + 2 * k ≤ tree_size t = smaller k t (outer_links k n t m l) in
    let b : tree_size (below (n - k) (below k t)) + 2 * (n - k) ≤ tree_size (below k t) = smaller (n - k) (below k t) (inner_links k n t m l) in
    let c : tree_size (below n t) + 2 * (n - k) ≤ tree_size (below k t) = subst (λ x. tree_size x + 2 * (n - k) ≤ tree_size (below k t)) (bottom k n t m) b in omega (arith)

pub top_falls : (n : ℕ) (t : Tree) → 2 * (tree_size t - tree_size (below n t)) + 1 < 2 * tree_size t
top_falls n t = let a = node_falls 0 t in let b = node_falls 0 (below n t) in omega (arith, a, b)

-- what stands right of the left part of the one link that is left is smaller, however its size is counted
pub rest_falls : (n m w : ℕ) (top : Tree) → n ≡ 1 → w + 2 * tree_size (left_part top) ≤ 2 * tree_size top → 2 * (tree_size top - tree_size (below n top)) + 1 ≡ m → w < m
rest_falls n m w top e b h = let a : below n top ≡ left_part top = ap (λ x. below x top) e ∙ one_below top in
    let c : 2 * (tree_size top - tree_size (left_part top)) + 1 ≡ m = subst (λ x. 2 * (tree_size top - tree_size x) + 1 ≡ m) a h in omega (arith)
