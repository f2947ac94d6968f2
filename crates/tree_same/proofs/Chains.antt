-- Links of chains: what goes on from its left part, and alternatives of `if`.
use Rattle.std.proofs.Common.{◌≡◌, ◌∙◌, ℕ, nat_eq, Bool, true, false, ◌&&◌, refl, ap}
use Rattle.base_token.specs.declared.place.Span.{Span}
use Rattle.tree_spec.specs.Tree.{Tree, Trees, bin_expr, member_expr, call_expr, tagged_tpl, tpl, opt_chain_expr, opt_call, list, if_stmt}
use Rattle.std.proofs.Math.Bool.{beq, and-false}
use Rattle.tree_program_spec.specs.Same.{same}
use Rattle.tree_same.proofs.Knots.{expr_knot, stmt_knot}
use Rattle.tree_same.proofs.Mixed.{both_absent, absent_last, absent_first}
use Rattle.tree_same.specs.Compared.{same_spellings}
use Rattle.tree_same.proofs.Rules.{bin_expr_rule, call_expr_rule, if_stmt_rule, member_expr_rule, opt_call_rule, opt_chain_expr_rule}
use Rattle.tree_same.proofs.Spellings.{tagged_tpl_rule}

-- what stands right of a left part may be compared first
swapped : (a b : Bool) → (a && b) ≡ (b && a)
swapped true true = refl
swapped true false = refl
swapped false true = refl
swapped false false = refl

pub bin_link : (s s2 : Span) (op op2 : ℕ) (l l2 r r2 : Tree) → nat_eq op op2 ≡ true → same (bin_expr s op l r) (bin_expr s2 op2 l2 r2) ≡ (same r r2 && same l l2)
bin_link s s2 op op2 l l2 r r2 h = bin_expr_rule s s2 op op2 l l2 r r2 ∙ (ap (λ b. b && (same l l2 && same r r2)) h ∙ swapped (same l l2) (same r r2))

pub member_link : (s s2 : Span) (o o2 k k2 : Tree) → same (member_expr s o k) (member_expr s2 o2 k2) ≡ (same k k2 && same o o2)
member_link s s2 o o2 k k2 = member_expr_rule s s2 o o2 k k2 ∙ swapped (same o o2) (same k k2)

pub call_link : (s s2 : Span) (f f2 : Tree) (xs xs2 : Trees) → same (call_expr s f xs) (call_expr s2 f2 xs2) ≡ (same (list xs) (list xs2) && same f f2)
call_link s s2 f f2 xs xs2 = call_expr_rule s s2 f f2 xs xs2 ∙ swapped (same f f2) (same (list xs) (list xs2))

pub tag_link : (s s2 p p2 : Span) (tag tag2 : Tree) (es es2 qs qs2 : Trees)
    → same (tagged_tpl s tag (tpl p es qs)) (tagged_tpl s2 tag2 (tpl p2 es2 qs2)) ≡ ((same (list es) (list es2) && same_spellings qs qs2) && same tag tag2)
tag_link s s2 p p2 tag tag2 es es2 qs qs2 = tagged_tpl_rule s s2 tag tag2 p p2 es es2 qs qs2 ∙ swapped (same tag tag2) (same (list es) (list es2) && same_spellings qs qs2)

-- an optional chain goes on from what its member or its call goes on from
optional : (s s2 : Span) (o o2 : Bool) (b b2 : Tree) → beq o o2 ≡ true → same (opt_chain_expr s o b) (opt_chain_expr s2 o2 b2) ≡ same b b2
optional s s2 o o2 b b2 h = opt_chain_expr_rule s s2 o o2 b b2 ∙ ap (λ x. x && same b b2) h

pub optional_member_link : (s s2 p p2 : Span) (q q2 : Bool) (o o2 k k2 : Tree) → beq q q2 ≡ true
    → same (opt_chain_expr s q (member_expr p o k)) (opt_chain_expr s2 q2 (member_expr p2 o2 k2)) ≡ (same k k2 && same o o2)
optional_member_link s s2 p p2 q q2 o o2 k k2 h = optional s s2 q q2 (member_expr p o k) (member_expr p2 o2 k2) h ∙ member_link p p2 o o2 k k2

pub optional_call_link : (s s2 p p2 : Span) (q q2 : Bool) (f f2 : Tree) (xs xs2 : Trees) → beq q q2 ≡ true
    → same (opt_chain_expr s q (opt_call p f xs)) (opt_chain_expr s2 q2 (opt_call p2 f2 xs2)) ≡ (same (list xs) (list xs2) && same f f2)
optional_call_link s s2 p p2 q q2 f f2 xs xs2 h = optional s s2 q q2 (opt_call p f xs) (opt_call p2 f2 xs2) h
    ∙ (opt_call_rule p p2 f f2 xs xs2 ∙ swapped (same f f2) (same (list xs) (list xs2)))

pub ruleset links = (bin_link, member_link, call_link, tag_link, optional_member_link, optional_call_link)

-- two chains go on from their left parts, or differ in what stands right of them
pub goes_on : (x y : Bool) (a : Bool) → x ≡ (a && y) → a ≡ true → x ≡ y
goes_on x y a e h = e ∙ ap (λ b. b && y) h

pub ends : (x y : Bool) (a : Bool) → x ≡ (a && y) → a ≡ false → x ≡ false
ends x y a e h = e ∙ ap (λ b. b && y) h

pub ruleset expr_chain = (expr_knot, goes_on, ends)

pub if_goes : (s s2 : Span) (t t2 c c2 a a2 : Tree) → same t t2 ≡ true → same c c2 ≡ true → same (if_stmt s t c a) (if_stmt s2 t2 c2 a2) ≡ same a a2
if_goes s s2 t t2 c c2 a a2 h k =
    if_stmt_rule s s2 t t2 c c2 a a2 ∙ (ap (λ b. b && (same c c2 && same a a2)) h ∙ ap (λ b. b && same a a2) k)

pub if_stops : (s s2 : Span) (t t2 c c2 a a2 : Tree) → same t t2 ≡ false → same (if_stmt s t c a) (if_stmt s2 t2 c2 a2) ≡ false
if_stops s s2 t t2 c c2 a a2 h = if_stmt_rule s s2 t t2 c c2 a a2 ∙ ap (λ b. b && (same c c2 && same a a2)) h

pub if_differs : (s s2 : Span) (t t2 c c2 a a2 : Tree) → same c c2 ≡ false → same (if_stmt s t c a) (if_stmt s2 t2 c2 a2) ≡ false
if_differs s s2 t t2 c c2 a a2 k =
    if_stmt_rule s s2 t t2 c c2 a a2 ∙ (ap (λ b. same t t2 && (b && same a a2)) k ∙ and-false (same t t2))

pub ruleset if_chain = (stmt_knot, if_goes, if_stops, if_differs, both_absent, absent_last, absent_first)
