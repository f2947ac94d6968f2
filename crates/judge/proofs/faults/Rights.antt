-- The faults of a chain are those of what stands below it, and those of what stands right of the left part of each link.
use Rattle.std.proofs.Common.{◌≡◌, ◌+◌, ◌-◌, ◌≤◌, ◌++◌, ◌&&◌, ℕ, zero, suc, true, false, not, List, [], ◌∷◌, refl, sym, ap, subst, ◌∙◌, append-nil, append_assoc}
use Rattle.std.proofs.Math.Nat.{add-zero, add-suc, add-sub_of_le}
use Rattle.base_token.specs.declared.place.Span.{Span}
use Rattle.base_token.specs.declared.error.Error.{Error}
use Rattle.base_token.specs.declared.error.SyntaxError.TheVariants.{InvalidSuperCall}
use Rattle.tree_spec.specs.Tree.{Tree, Trees, bin_expr, member_expr, super, call_expr, tagged_tpl, opt_chain_expr, opt_call, list}
use Rattle.tree_spec.specs.Folds.{fold, folds}
use Rattle.tree_nodes.specs.declared.expressions.ExprKindOf.TheVariants as ExprKind
use Rattle.tree_visit.specs.Spine.Chains.{Linked, base_left, below, is_base, is_head_word, is_link, left_part}
use Rattle.tree_visit.proofs.spine.Chains.{below_falls, callee_left, inner_falls, outer_falls, top_falls, further, inner_links, no, one_link, outer_links}
use Rattle.grammar_spec.specs.Judge.Early.{Scope, every, fault, step, within}
use Rattle.judge.specs.Faults.Asked.{is_super}
use Rattle.judge.specs.Faults.Rights.{base_faults, link_faults, right_faults}
use Rattle.judge.proofs.faults.Asking.{call_step}

-- ---- one link

-- the faults of a child and of a field behind it
two_fields : (l r : List Error) → (l ++ []) ++ ((r ++ []) ++ []) ≡ l ++ r
two_fields l r = ap (λ x. x ++ ((r ++ []) ++ [])) (append-nil l) ∙ ap (λ x. l ++ x) (append-nil (r ++ []) ∙ append-nil r)

-- and of a list behind it
then_list : (l r : List Error) → (l ++ []) ++ (r ++ []) ≡ l ++ (r ++ [])
then_list l r = ap (λ x. x ++ (r ++ [])) (append-nil l)

base_link : (b t : Tree) (c : Scope) → is_base b ≡ true → fold step b c ≡ fold step (base_left b t) c ++ base_faults b c
base_link (member_expr p o k) t c h = two_fields (fold step o c) (fold step k c)
base_link (opt_call p f xs) t c h = then_list (fold step f c) (every (folds step xs) c)
base_link _ t c h = no h

-- the head of a call that is a link is not `super`
no_super : (f : Tree) → not (is_head_word f) ≡ true → is_super f ≡ false
no_super (super _) h = no h
no_super _ h = refl

call_link : (p : Span) (f : Tree) (xs : Trees) (c : Scope) → not (is_head_word f) ≡ true → fold step (call_expr p f xs) c ≡ fold step f c ++ fold step (list xs) c
call_link p f xs c h = call_step p f xs ((fold step f ∷ []) ∷ folds step xs ∷ []) c
    ∙ ap (λ b. fault (b && not c.calls) InvalidSuperCall p ++ within ((fold step f ∷ []) ∷ folds step xs ∷ []) c) (no_super f h)
    ∙ then_list (fold step f c) (every (folds step xs) c)

link : (t : Tree) (c : Scope) → is_link t ≡ true → fold step t c ≡ fold step (left_part t) c ++ link_faults t c
link (bin_expr p o l r) c h = two_fields (fold step l c) (fold step r c)
link (member_expr p o k) c h = two_fields (fold step o c) (fold step k c)
link (call_expr p f xs) c h = call_link p f xs c h ∙ ap (λ x. fold step x c ++ fold step (list xs) c) (sym (callee_left p f xs h))
link (tagged_tpl p t q) c h = two_fields (fold step t c) (fold step q c)
link (opt_chain_expr p q b) c h = append-nil (fold step b c ++ []) ∙ append-nil (fold step b c) ∙ base_link b (opt_chain_expr p q b) c h
link _ c h = no h

-- ---- so many links

pub spine : (n : ℕ) (t : Tree) (c : Scope) → Linked n t → fold step t c ≡ fold step (below n t) c ++ right_faults n t c
unfolding Linked below right_faults
spine zero t c h = sym (append-nil (fold step t c))
spine (suc n) t c h = spine n t c h.0 ∙ ap (λ x. x ++ right_faults n t c) (link (below n t) c h.1)
    ∙ append_assoc (fold step (left_part (below n t)) c) (link_faults (below n t) c) (right_faults n t c)

halves : (a b : ℕ) (t : Tree) (c : Scope) → right_faults (a + b) t c ≡ right_faults b (below a t) c ++ right_faults a t c
unfolding right_faults
halves a zero t c = rw (add-zero a) refl
halves a (suc b) t c = ap (λ n. right_faults n t c) (add-suc a b) ∙ ap (λ x. link_faults (below (a + b) t) c ++ x) (halves a b t c)
    ∙ ap (λ x. link_faults x c ++ (right_faults b (below a t) c ++ right_faults a t c)) (further a b t)
    ∙ sym (append_assoc (link_faults (below b (below a t)) c) (right_faults b (below a t) c) (right_faults a t c))

pub by_halves : (a n : ℕ) (t : Tree) (c : Scope) → a ≤ n → right_faults n t c ≡ right_faults (n - a) (below a t) c ++ right_faults a t c
by_halves a n t c h = ap (λ x. right_faults x t c) (sym (add-sub_of_le h)) ∙ halves a (n - a) t c

-- the faults below a chain and those of its links, behind others
pub joined : (a b d : List Error) (n : ℕ) (t : Tree) (c : Scope) → Linked n t → b ≡ a ++ fold step (below n t) c → d ≡ b ++ right_faults n t c → d ≡ a ++ fold step t c
joined a b d n t c h e f = f ∙ ap (λ x. x ++ right_faults n t c) e ∙ append_assoc a (fold step (below n t) c) (right_faults n t c) ∙ ap (λ x. a ++ x) (sym (spine n t c h))

-- those of the inner links and those of the outer ones, behind others
pub halves_joined : (a b d : List Error) (k n : ℕ) (t : Tree) (c : Scope) → k ≤ n → b ≡ a ++ right_faults (n - k) (below k t) c → d ≡ b ++ right_faults k t c → d ≡ a ++ right_faults n t c
halves_joined a b d k n t c h e f = f ∙ ap (λ x. x ++ right_faults k t c) e ∙ append_assoc a (right_faults (n - k) (below k t) c) (right_faults k t c) ∙ ap (λ x. a ++ x) (sym (by_halves k n t c h))

pub no_rights : (t : Tree) (c : Scope) → right_faults 0 t c ≡ []
unfolding right_faults
no_rights t c = refl

pub one_right : (t : Tree) (c : Scope) → right_faults 1 t c ≡ link_faults t c
unfolding right_faults below
one_right t c = append-nil (link_faults t c)

-- the one link that is left is a link
pub no_other : {A : Type 0} (n : ℕ) (top t : Tree) → n ≡ 1 → Linked n top → top ≡ t → is_link t ≡ false → A
no_other n top t e h v z = no (sym (ap is_link v ∙ z) ∙ one_link top (subst (λ (k : ℕ). Linked k top) e h))

pub ruleset at_the_top = (joined, below_falls, top_falls)

pub ruleset rights = (inner_falls, outer_falls, halves_joined, no_rights, one_right, one_link, inner_links, outer_links)
