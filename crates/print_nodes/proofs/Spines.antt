-- What a chain of expressions writes, and one of `else if`: what its links write on the way down, what stands below them, and what
-- they write on the way back.
use Rattle.std.proofs.Common.{◌≡◌, ◌+◌, ◌-◌, ◌*◌, ◌<◌, ◌≤◌, ℕ, zero, suc, Bool, true, false, not, ◌||◌, List, Option, Some, codes, refl, sym, ap, subst, ◌∙◌, arith}
use Rattle.std.proofs.Math.Nat.{add-zero, add-suc, add-sub_of_le}
use Rattle.std.proofs.Math.Numerals.{add-one}
use base.Fml.{GName}
use Rattle.base_token.specs.Operators.{operator_text}
use Rattle.tree_spec.specs.Tree.{Tree, bin_expr, member_expr, call_expr, tagged_tpl, opt_chain_expr, opt_call, number_lit, if_stmt, absent, part_by}
use Rattle.tree_spec.specs.Codes.{tree_size}
use Rattle.base_token.specs.declared.place.Span.{Span}
use Rattle.print_writers.specs.States.{State}
use Rattle.print_writers.specs.declared.fault.EmitError.{EmitError}
use Rattle.tree_nodes.specs.View.{view_expr_kind, view_if_stmt, view_lit}
use Rattle.tree_nodes.specs.declared.literals.Lit.{Lit}
use Rattle.tree_nodes.specs.declared.literals.Lit.TheVariants as Lit
use Rattle.tree_nodes.specs.declared.knot.Child.{Child}
use Rattle.tree_nodes.specs.declared.knot.StmtTag.{StmtTag}
use Rattle.tree_nodes.specs.declared.statements.IfStmtOf.{IfStmtOf}
use Rattle.tree_nodes.specs.declared.expressions.BinExprOf.{BinExprOf}
use Rattle.tree_nodes.specs.declared.expressions.MemberExprOf.{MemberExprOf}
use Rattle.tree_nodes.specs.declared.expressions.CallExprOf.{CallExprOf}
use Rattle.tree_nodes.specs.declared.expressions.TaggedTplOf.{TaggedTplOf}
use Rattle.tree_nodes.specs.declared.expressions.OptChainExprOf.{OptChainExprOf}
use Rattle.tree_nodes.specs.declared.expressions.ExprKindOf.{ExprKindOf}
use Rattle.tree_nodes.specs.declared.expressions.ExprKindOf.TheVariants as ExprKind
use Rattle.print_gaps.specs.Edges.{gap_before, gap_after, is_there, starts_with_word}
use Rattle.print_layout_spec.specs.declared.look.Look.{Look}
use Rattle.print_layout_spec.specs.declared.look.Stand.{Stand}
use Rattle.print_layout_spec.specs.declared.look.Stand.TheVariants.{Alone, Head}
use Rattle.print_layout_spec.specs.Looks.{Laid, nothing, ◌·◌, when, text, gap, gap_or, line}
use Rattle.print_layout_spec.specs.Layout.{laid, closing, is_block, is_computed, word}
use Rattle.print_pieces.specs.Prints.{Asked, lay, Prints}
use Rattle.print_pieces.proofs.Steps.{◌▸◌, idle, laid_as}
use Rattle.tree_nodes.specs.Spines.{Chained, alternative, further_on, has_alternative, is_absent}
use Rattle.tree_visit.specs.Spine.Chains.{Linked, base_left, below, is_base, is_link, left_part}
use Rattle.tree_nodes.proofs.Spines.{chained_next, further_falls, further_next, further_smaller, none_chained, none_further}
use Rattle.tree_visit.proofs.spine.Chains.{below_falls, below_next, callee_left, further, inner_falls, inner_links, left_falls, linked_next, none_below, none_linked, one_link, outer_falls, outer_links, smaller, top_falls}
use Rattle.print_nodes.specs.Asks.{is_number}
use Rattle.print_nodes.specs.Chains.{object_laid}
use Rattle.print_nodes.specs.Spines.{base_left_laid, base_right_laid, before_laid, befores_laid, branch_laid, branches_laid, consequence_laid, else_laid, ends_laid, left_laid, lines_laid, right_laid, rights_laid, stand_at, stand_below}
use Rattle.print_nodes.proofs.Chained.{chain_is, member_is, no_number}
use Rattle.print_nodes.proofs.Parts.{laid_like}

no : {A : Type 0} → false ≡ true → A
no h = absurd (let e : false ≡ true = h in cc)

-- ---- expressions

-- a link writes what stands before its left part, its left part, and what stands behind that
base_link : (look : Look) (s : Stand) (p : Span) (o : Bool) (b : Tree) (a : Asked) → is_base b ≡ true
    → lay (laid look s (opt_chain_expr p o b)) a ≡ lay (base_right_laid look o b) (lay (base_left_laid look o b) a)
base_link look s p o (member_expr at obj prop) a h = sym (chain_is look s p at o obj prop a)
base_link look s p o (opt_call at f xs) a h = refl
base_link look s p o _ a h = no h

link : (look : Look) (s : Stand) (t : Tree) (a : Asked) → is_link t ≡ true
    → lay (laid look s t) a ≡ lay (right_laid look t) (lay (left_laid look t) (lay (before_laid s t) a))
link look s (bin_expr span op left right) a h = refl
link look s (member_expr span obj prop) a h = ap (λ f. lay f a) (sym (member_is look s span obj prop))
link look s (call_expr span f xs) a h = refl
link look s (tagged_tpl span tag q) a h = refl
link look s (opt_chain_expr span o b) a h = base_link look s span o b a h
link look s _ a h = no h

-- a left part that is no number is written as it stands
base_left_is : (look : Look) (o : Bool) (b t : Tree) → is_base b ≡ true → is_number (base_left b t) ≡ false → base_left_laid look o b ≡ laid look Head (base_left b t)
base_left_is look o (member_expr at obj prop) t h z = sym (no_number look (o || is_computed prop) obj z)
base_left_is look o (opt_call at f xs) t h z = refl
base_left_is look o _ t h z = no h

left_is : (look : Look) (t : Tree) → is_link t ≡ true → is_number (left_part t) ≡ false → left_laid look t ≡ laid look (stand_below t) (left_part t)
left_is look (bin_expr span op left right) h z = refl
left_is look (member_expr span obj prop) h z = sym (no_number look (is_computed prop) obj z)
left_is look (call_expr span f xs) h z = ap (laid look Head) (sym (callee_left span f xs h))
left_is look (tagged_tpl span tag q) h z = refl
left_is look (opt_chain_expr span o b) h z = base_left_is look o b (opt_chain_expr span o b) h z
left_is look _ h z = no h

-- the same of a link and its left part as the code has them
pub left_stands : (t left : Tree) → is_link t ≡ true → left ≡ left_part t → is_number left ≡ false → (look : Look) → left_laid look t ≡ laid look (stand_below t) left
left_stands t left h e z look = left_is look t h (ap is_number (sym e) ∙ z) ∙ ap (laid look (stand_below t)) (sym e)

-- a number before a name is written in a way of its own
pub number_stands : (t left num : Tree) (p : Span) (obj prop : Tree) (keeps : Bool) → t ≡ member_expr p obj prop → left ≡ left_part t → left ≡ num → keeps ≡ is_computed prop
    → (look : Look) → left_laid look t ≡ object_laid look keeps num
number_stands t left num p obj prop keeps v e n k look = ap (left_laid look) v ∙ ap (λ b. object_laid look b obj) (sym k)
    ∙ ap (object_laid look keeps) (sym (ap left_part v) ∙ sym e ∙ n)

pub chain_number_stands : (t left num : Tree) (p at : Span) (o : Bool) (obj prop : Tree) (keeps : Bool) → t ≡ opt_chain_expr p o (member_expr at obj prop) → left ≡ left_part t → left ≡ num
    → keeps ≡ (o || is_computed prop) → (look : Look) → left_laid look t ≡ object_laid look keeps num
chain_number_stands t left num p at o obj prop keeps v e n k look = ap (left_laid look) v ∙ ap (λ b. object_laid look b obj) (sym k)
    ∙ ap (object_laid look keeps) (sym (ap left_part v) ∙ sym e ∙ n)

-- whether a link writes a name
abbrev pub names : Tree → Bool
names (member_expr span obj prop) = true
names (opt_chain_expr span o (member_expr at obj prop)) = true
names t = false

-- the left part of a link that writes no name is written as it stands, a number too
other_base : (look : Look) (p : Span) (o : Bool) (b : Tree) → is_base b ≡ true → names (opt_chain_expr p o b) ≡ false
    → base_left_laid look o b ≡ laid look Head (base_left b (opt_chain_expr p o b))
other_base look p o (member_expr at obj prop) h z = no (sym z)
other_base look p o (opt_call at f xs) h z = refl
other_base look p o _ h z = no h

other_is : (look : Look) (t : Tree) → is_link t ≡ true → names t ≡ false → left_laid look t ≡ laid look (stand_below t) (left_part t)
other_is look (bin_expr span op left right) h z = refl
other_is look (member_expr span obj prop) h z = no (sym z)
other_is look (call_expr span f xs) h z = ap (laid look Head) (sym (callee_left span f xs h))
other_is look (tagged_tpl span tag q) h z = refl
other_is look (opt_chain_expr span o b) h z = other_base look span o b h z
other_is look _ h z = no h

pub other_stands : (t left : Tree) → is_link t ≡ true → left ≡ left_part t → names t ≡ false → (look : Look) → left_laid look t ≡ laid look (stand_below t) left
other_stands t left h e z look = other_is look t h z ∙ ap (laid look (stand_below t)) (sym e)

-- what is a link is no number
link_no_number : (t : Tree) → is_link t ≡ true → is_number t ≡ false
link_no_number (number_lit at value raw) h = no h
link_no_number _ h = refl

-- a literal writes nothing before a left part and no name, and would stand as any other tree below it
pub literal_before : (s : Stand) (l : Lit) → before_laid s (view_lit l) ≡ nothing
literal_before s (Lit.Str x) = refl
literal_before s (Lit.Bool x) = refl
literal_before s (Lit.Null x) = refl
literal_before s (Lit.Num x) = refl
literal_before s (Lit.BigInt x) = refl
literal_before s (Lit.Regex x) = refl

pub literal_stands : (l : Lit) → stand_below (view_lit l) ≡ Head
literal_stands (Lit.Str x) = refl
literal_stands (Lit.Bool x) = refl
literal_stands (Lit.Null x) = refl
literal_stands (Lit.Num x) = refl
literal_stands (Lit.BigInt x) = refl
literal_stands (Lit.Regex x) = refl

literal_names : (l : Lit) → names (view_lit l) ≡ false
literal_names (Lit.Str x) = refl
literal_names (Lit.Bool x) = refl
literal_names (Lit.Null x) = refl
literal_names (Lit.Num x) = refl
literal_names (Lit.BigInt x) = refl
literal_names (Lit.Regex x) = refl

-- the same of each kind of expression but those that do
pub nothing_before : {T : Type 0} (f : T → Tree) (s : Stand) (k : ExprKindOf T) → ((x : BinExprOf T) → k ≡ ExprKind.Bin x → ⊥) → ((x : MemberExprOf T) → k ≡ ExprKind.Member x → ⊥)
    → ((x : TaggedTplOf T) → k ≡ ExprKind.TaggedTpl x → ⊥) → ((x : CallExprOf T) → k ≡ ExprKind.Call x → ⊥) → before_laid s (view_expr_kind f k) ≡ nothing
nothing_before f s (ExprKind.Bin x) b m t c = absurd (b x refl)
nothing_before f s (ExprKind.Member x) b m t c = absurd (m x refl)
nothing_before f s (ExprKind.TaggedTpl x) b m t c = absurd (t x refl)
nothing_before f s (ExprKind.Call x) b m t c = absurd (c x refl)
nothing_before f s (ExprKind.Lit x) b m t c = literal_before s x
nothing_before f s _ b m t c = refl

pub no_name : {T : Type 0} (f : T → Tree) (k : ExprKindOf T) → ((x : MemberExprOf T) → k ≡ ExprKind.Member x → ⊥) → ((x : OptChainExprOf T) → k ≡ ExprKind.OptChain x → ⊥)
    → names (view_expr_kind f k) ≡ false
no_name f (ExprKind.Member x) m o = absurd (m x refl)
no_name f (ExprKind.OptChain x) m o = absurd (o x refl)
no_name f (ExprKind.Lit x) m o = literal_names x
no_name f _ m o = refl

-- a chain writes what its links write before what stands below them, that, and what they write behind it
pub spine : (look : Look) (s : Stand) (n : ℕ) (t : Tree) (a : Asked) → Linked (suc n) t
    → lay (laid look s t) a
    ≡ lay (rights_laid look (suc n) t) (lay (left_laid look (below n t)) (lay (befores_laid s (suc n) t) a))
unfolding Linked below rights_laid befores_laid stand_at
spine look s zero t a h = link look s t a h.1
spine look s (suc n) t a h = spine look s n t a h.0
    ∙ ap (λ f. lay (rights_laid look (suc n) t) (lay f (lay (befores_laid s (suc n) t) a))) (left_is look (below n t) h.0.1 (link_no_number (left_part (below n t)) h.1))
    ∙ ap (λ x. lay (rights_laid look (suc n) t) x) (link look (stand_below (below n t)) (left_part (below n t)) (lay (befores_laid s (suc n) t) a) h.1)

halves : (look : Look) (k m : ℕ) (t : Tree) (a : Asked)
    → lay (rights_laid look (k + m) t) a ≡ lay (rights_laid look k t) (lay (rights_laid look m (below k t)) a)
unfolding rights_laid
halves look k zero t a = ap (λ n. lay (rights_laid look n t) a) (add-zero k)
halves look k (suc m) t a = ap (λ n. lay (rights_laid look n t) a) (add-suc k m) ∙ halves look k m t (lay (right_laid look (below (k + m) t)) a)
    ∙ ap (λ x. lay (rights_laid look k t) (lay (rights_laid look m (below k t)) (lay (right_laid look x) a))) (further k m t)

by_halves : (look : Look) (k n : ℕ) (t : Tree) (a : Asked) → k ≤ n
    → lay (rights_laid look n t) a ≡ lay (rights_laid look k t) (lay (rights_laid look (n - k) (below k t)) a)
by_halves look k n t a h = ap (λ x. lay (rights_laid look x t) a) (sym (add-sub_of_le h)) ∙ halves look k (n - k) t a

one_right : (look : Look) (t : Tree) (a : Asked) → lay (right_laid look t) a ≡ lay (rights_laid look 1 t) a
unfolding rights_laid below
one_right look t a = refl

-- ---- alternatives

-- an `if` with an alternative writes what stands before it, the alternative, and what stands behind that
if_link : (look : Look) (s : Stand) (t : Tree) (a : Asked) → has_alternative t ≡ true
    → lay (laid look s t) a ≡ lay (closing look (alternative t)) (lay (laid look Alone (alternative t)) (lay (branch_laid look t) a))
if_link look s (if_stmt span test cons absent) a h = no h
if_link look s (if_stmt span test cons alt) a h = refl
if_link look s t a h = no h

pub if_spine : (look : Look) (s : Stand) (n : ℕ) (t : Tree) (a : Asked) → Chained (suc n) t
    → lay (laid look s t) a ≡ lay (ends_laid look (suc n) t) (lay (laid look Alone (further_on (suc n) t)) (lay (branches_laid look (suc n) t) a))
unfolding Chained further_on branches_laid ends_laid
if_spine look s zero t a h = if_link look s t a h.1
if_spine look s (suc n) t a h = if_spine look s n t a h.0
    ∙ ap (λ x. lay (ends_laid look (suc n) t) x) (if_link look Alone (further_on (suc n) t) (lay (branches_laid look (suc n) t) a) h.1)

when_like : (b : Bool) (f g : Laid) → ((a : Asked) → lay f a ≡ lay g a) → (a : Asked) → lay (when b f) a ≡ lay (when b g) a
when_like true f g h a = h a
when_like false f g h a = refl

if_is : (look : Look) (s : Stand) (span : Span) (test cons alt : Tree) (a : Asked)
    → lay (consequence_laid look (if_stmt span test cons alt) · when (is_there alt) (else_laid look (is_block cons) (starts_with_word alt) · laid look Alone alt · closing look alt)) a
    ≡ lay (laid look s (if_stmt span test cons alt)) a
if_is look s span test cons alt a = when_like (is_there alt) (else_laid look (is_block cons) (starts_with_word alt) · laid look Alone alt · closing look alt)
    (when (is_block cons) (gap look) · word (codes "else") · gap_or look (starts_with_word alt) · laid look Alone alt · closing look alt)
    (λ x. refl) (lay (consequence_laid look (if_stmt span test cons alt)) a)

-- the same of an `if` of the code
if_laid : {T : Type 0} (f : T → Tree) (look : Look) (branch : IfStmtOf T) (a : Asked)
    → lay (consequence_laid look (view_if_stmt f branch)
    · when (is_there (part_by (λ x. f x.part.value) branch.alt)) (else_laid look (is_block (f branch.cons.part.value)) (starts_with_word (part_by (λ x. f x.part.value) branch.alt))
    · laid look Alone (part_by (λ x. f x.part.value) branch.alt) · closing look (part_by (λ x. f x.part.value) branch.alt))) a
    ≡ lay (laid look Alone (view_if_stmt f branch)) a
if_laid f look branch a = if_is look Alone branch.span (f branch.test.part.value) (f branch.cons.part.value) (part_by (λ x. f x.part.value) branch.alt) a

-- behind an `if` the line ends
if_ends : (look : Look) (t : Tree) (a : Asked) → has_alternative t ≡ true → lay (closing look t) a ≡ lay (line look) a
unfolding closing
if_ends look (if_stmt span test cons alt) a h = refl
if_ends look t a h = no h

one_line_more : (look : Look) (n : ℕ) (a : Asked) → lay (lines_laid look n) (lay (line look) a) ≡ lay (line look) (lay (lines_laid look n) a)
unfolding lines_laid
one_line_more look zero a = refl
one_line_more look (suc n) a = ap (λ x. lay (line look) x) (one_line_more look n a)

-- behind the alternatives but the last, lines end
inner_ends : (look : Look) (n : ℕ) (t : Tree) (a : Asked) → Chained (suc n) t → lay (ends_laid look n t) a ≡ lay (lines_laid look n) a
unfolding Chained ends_laid lines_laid
inner_ends look zero t a h = refl
inner_ends look (suc n) t a h = ap (λ x. lay (ends_laid look n t) x) (if_ends look (further_on (suc n) t) a h.1)
    ∙ inner_ends look n t (lay (line look) a) h.0 ∙ one_line_more look n a

all_ends : (look : Look) (n : ℕ) (t : Tree) (a : Asked) → Chained (suc n) t
    → lay (ends_laid look (suc n) t) a ≡ lay (lines_laid look n) (lay (closing look (further_on (suc n) t)) a)
unfolding ends_laid
all_ends look n t a h = inner_ends look n t (lay (closing look (further_on (suc n) t)) a) h

if_chain : (look : Look) (s : Stand) (n : ℕ) (t : Tree) (a : Asked) → Chained (suc n) t
    → lay (laid look s t) a
    ≡ lay (lines_laid look n) (lay (closing look (further_on (suc n) t)) (lay (laid look Alone (further_on (suc n) t)) (lay (branches_laid look (suc n) t) a)))
if_chain look s n t a h = if_spine look s n t a h
    ∙ all_ends look n t (lay (laid look Alone (further_on (suc n) t)) (lay (branches_laid look (suc n) t) a)) h

goes_to : (span : Span) (test cons alt : Tree) → is_absent alt ≡ false → alternative (if_stmt span test cons alt) ≡ alt
goes_to span test cons alt e = rw e refl

one_less : (n : ℕ) → suc n - 1 ≡ n
one_less n = omega (arith)

-- ---- no link is an absent part

first_link : (n : ℕ) (t : Tree) → Linked (suc n) t → is_link t ≡ true
unfolding Linked below
first_link zero t h = h.1
first_link (suc n) t h = first_link n t h.0

link_there : (t : Tree) → is_link t ≡ true → is_there t ≡ true
link_there absent h = no h
link_there t h = refl

-- the last of so many links
pub last_link : (n : ℕ) (t : Tree) → (n ≡ 0 → ⊥) → Linked n t → is_link (below (n - 1) t) ≡ true
unfolding Linked
last_link zero t z h = absurd (z refl)
last_link (suc n) t z h = subst (λ (k : ℕ). is_link (below k t) ≡ true) (sym (one_less n)) h.1

pub last_left : (n : ℕ) (t : Tree) → (n ≡ 0 → ⊥) → below n t ≡ left_part (below (n - 1) t)
unfolding below
last_left zero t z = absurd (z refl)
last_left (suc n) t z = ap (λ (k : ℕ). left_part (below k t)) (sym (one_less n))

pub last_stands : (s : Stand) (n : ℕ) (t : Tree) → (n ≡ 0 → ⊥) → stand_at s n t ≡ stand_below (below (n - 1) t)
unfolding stand_at
last_stands s zero t z = absurd (z refl)
last_stands s (suc n) t z = ap (λ (k : ℕ). stand_below (below k t)) (sym (one_less n))

first_if : (n : ℕ) (t : Tree) → Chained (suc n) t → has_alternative t ≡ true
unfolding Chained further_on
first_if zero t h = h.1
first_if (suc n) t h = first_if n t h.0

if_there : (t : Tree) → has_alternative t ≡ true → is_there t ≡ true
if_there absent h = no h
if_there t h = refl

pub links_there : (n : ℕ) (t : Tree) → (n ≡ 0 → ⊥) → Linked n t → is_there t ≡ true
links_there zero t z h = absurd (z refl)
links_there (suc n) t z h = link_there t (first_link n t h)

pub ifs_there : (n : ℕ) (t : Tree) → (n ≡ 0 → ⊥) → Chained n t → is_there t ≡ true
ifs_there zero t z h = absurd (z refl)
ifs_there (suc n) t z h = if_there t (first_if n t h)

-- the one link that is left is a link
pub no_other : {A : Type 0} (n : ℕ) (top : Tree) → n ≡ 1 → Linked n top → is_link top ≡ false → A
no_other n top e h z = no (sym z ∙ one_link top (subst (λ (k : ℕ). Linked k top) e h))

-- a left part alone is smaller than with its link
pub one_above : (n m : ℕ) → n + 1 ≡ m → n < m
one_above n m h = omega (arith, h)

-- an alternative that is there
pub alternative_is : {T : Type 0} (f : T → Tree) (branch : IfStmtOf T) (alt : Child T StmtTag) → branch.alt ≡ Some alt
    → part_by (λ x. f x.part.value) branch.alt ≡ f alt.part.value
alternative_is f branch alt e = rw e refl

-- ---- printing

module _ {S : Type 0} {tells : S → Type 0} {state : S → State} {failed : S → ℕ} {loans : S → List GName} where
  -- an `if` of the code is printed
  pub if_printed : {T : Type 0} (p : T → Tree) (look : Look) (branch : IfStmtOf T) {b : Bool} {w v u : S} {f g e : Option EmitError}
      → b ≡ is_block (p branch.cons.part.value)
      → Prints {S = S} tells state failed loans (consequence_laid look (view_if_stmt p branch)) w f v g
      → Prints {S = S} tells state failed loans
      (when (is_there (part_by (λ x. p x.part.value) branch.alt)) (else_laid look b (starts_with_word (part_by (λ x. p x.part.value) branch.alt))
      · laid look Alone (part_by (λ x. p x.part.value) branch.alt) · closing look (part_by (λ x. p x.part.value) branch.alt))) v g u e
      → Prints {S = S} tells state failed loans (laid look Alone (view_if_stmt p branch)) w f u e
  if_printed p look branch z h k = laid_like (if_laid p look branch)
      (h ▸ laid_as (ap (λ (b : Bool). when (is_there (part_by (λ x. p x.part.value) branch.alt)) (else_laid look b (starts_with_word (part_by (λ x. p x.part.value) branch.alt))
      · laid look Alone (part_by (λ x. p x.part.value) branch.alt) · closing look (part_by (λ x. p x.part.value) branch.alt))) z) k)

  -- an operator with its blanks, where they are asked for otherwise
  pub operator_as : (look : Look) (bytes : List ℕ) {w v : S} {f g : Option EmitError} {b d c e : Bool} → b ≡ d → c ≡ e
      → Prints {S = S} tells state failed loans (gap_or look b · text bytes · gap_or look c) w f v g
      → Prints {S = S} tells state failed loans (gap_or look d · text bytes · gap_or look e) w f v g
  operator_as look bytes {d = d} {c = c} p q h =
      laid_as (ap (λ x. gap_or look x · text bytes · gap_or look c) p ∙ ap (λ x. gap_or look d · text bytes · gap_or look x) q) h

  -- at first nothing is printed, and of one link more what it writes before its left part
  pub sets_out : (s : Stand) (t : Tree) {w : S} {f : Option EmitError}
      → Prints {S = S} tells state failed loans (befores_laid s 0 t) w f w f × (t ≡ below 0 t) × Linked 0 t × (s ≡ stand_at s 0 t) × (tree_size t ≤ tree_size t)
  unfolding befores_laid stand_at
  sets_out s t = (idle, sym (none_below t), none_linked t, refl, omega (arith))

  pub goes_down : (s stands next_stands : Stand) (n : ℕ) (top rest left : Tree) {w v u : S} {f g e : Option EmitError}
      → Prints {S = S} tells state failed loans (befores_laid s n top) w f v g × (rest ≡ below n top) × Linked n top × (stands ≡ stand_at s n top) × (tree_size rest ≤ tree_size top)
      → is_link rest ≡ true → left ≡ left_part rest → next_stands ≡ stand_below rest
      → Prints {S = S} tells state failed loans (before_laid stands rest) v g u e
      → Prints {S = S} tells state failed loans (befores_laid s (n + 1) top) w f u e × (left ≡ below (n + 1) top) × Linked (n + 1) top × (next_stands ≡ stand_at s (n + 1) top) × (tree_size left ≤ tree_size top)
  unfolding befores_laid stand_at
  goes_down s stands next_stands n top rest left i l is below_stands h =
      let linked : Linked (n + 1) top = linked_next n top i.2 (ap is_link (sym i.1) ∙ l) in
      let on : left ≡ below (n + 1) top = is ∙ ap left_part i.1 ∙ sym (below_next n top) in
      let size : tree_size (below (n + 1) top) + 2 * (n + 1) ≤ tree_size top = smaller (n + 1) top linked in
      let less : tree_size left ≤ tree_size top = subst (λ (t : Tree). tree_size t ≤ tree_size top) (sym on) (omega (arith, size)) in
      let stood : next_stands ≡ stand_at s (n + 1) top = below_stands ∙ ap stand_below i.1 ∙ sym (ap (λ (k : ℕ). stand_at s k top) (add-one n)) in
      (rw (add-one n) (i.0 ▸ laid_as (ap (λ (q : Stand). before_laid q rest) i.3 ∙ ap (before_laid (stand_at s n top)) i.1) h), on, linked, stood, less)

  -- what a link writes before its left part is printed
  pub before_printed : (s : Stand) (t is : Tree) {w v : S} {f g : Option EmitError} → t ≡ is
      → Prints {S = S} tells state failed loans (before_laid s is) w f v g → Prints {S = S} tells state failed loans (before_laid s t) w f v g
  before_printed s t is view p = laid_as (ap (before_laid s) (sym view)) p

  pub nothing_printed : (s : Stand) (t : Tree) {w : S} {f : Option EmitError} → before_laid s t ≡ nothing → Prints {S = S} tells state failed loans (before_laid s t) w f w f
  nothing_printed s t e = laid_as (sym e) idle

  -- before no link nothing is printed
  pub behind_no_link : (s : Stand) (n : ℕ) (t : Tree) {l : Laid} {w v u : S} {f g e : Option EmitError} → n ≡ 0
      → Prints {S = S} tells state failed loans (befores_laid s n t) w f v g → Prints {S = S} tells state failed loans l v g u e
      → Prints {S = S} tells state failed loans l w f u e
  unfolding befores_laid
  behind_no_link s n t {w = w} {v = v} {f = f} {g = g} z p q =
      laid_like (λ a. refl) (subst (λ (k : ℕ). Prints {S = S} tells state failed loans (befores_laid s k t) w f v g) z p ▸ q)

  -- the left part of the last link is printed, as a number before a name or as it stands
  pub left_as : (look : Look) (link : Tree) {l : Laid} {w v : S} {f g : Option EmitError} → left_laid look link ≡ l
      → Prints {S = S} tells state failed loans l w f v g → Prints {S = S} tells state failed loans (left_laid look link) w f v g
  left_as look link e p = laid_as (sym e) p

  -- a chain is printed
  pub chain_printed : (look : Look) (s : Stand) (n : ℕ) (t : Tree) {w v u x : S} {f g e d : Option EmitError} → (n ≡ 0 → ⊥) → Linked n t
      → Prints {S = S} tells state failed loans (befores_laid s n t) w f v g
      → Prints {S = S} tells state failed loans (left_laid look (below (n - 1) t)) v g u e
      → Prints {S = S} tells state failed loans (rights_laid look n t) u e x d
      → Prints {S = S} tells state failed loans (laid look s t) w f x d
  chain_printed look s zero t z h p q r = absurd (z refl)
  chain_printed look s (suc n) t z h p q r = laid_like (λ a. sym (spine look s n t a h)) (p ▸ (laid_as (ap (λ (k : ℕ). left_laid look (below k t)) (one_less n)) q ▸ r))

  -- its inner half is printed, and then its outer half
  pub halves_printed : (look : Look) (k n : ℕ) (t : Tree) {w v u : S} {f g e : Option EmitError} → k ≤ n
      → Prints {S = S} tells state failed loans (rights_laid look (n - k) (below k t)) w f v g
      → Prints {S = S} tells state failed loans (rights_laid look k t) v g u e
      → Prints {S = S} tells state failed loans (rights_laid look n t) w f u e
  halves_printed look k n t h p q = laid_like (λ a. sym (by_halves look k n t a h)) (p ▸ q)

  -- the one link that is left
  pub right_printed : (look : Look) (n : ℕ) (t : Tree) {w v : S} {f g : Option EmitError} → n ≡ 1
      → Prints {S = S} tells state failed loans (right_laid look t) w f v g
      → Prints {S = S} tells state failed loans (rights_laid look n t) w f v g
  right_printed look n t {w} {v} {f} {g} e p = subst (λ (k : ℕ). Prints {S = S} tells state failed loans (rights_laid look k t) w f v g) (sym e) (laid_like (one_right look t) p)

  pub link_printed : (look : Look) (n : ℕ) (top is : Tree) {w v : S} {f g : Option EmitError} → n ≡ 1 → top ≡ is
      → Prints {S = S} tells state failed loans (right_laid look is) w f v g
      → Prints {S = S} tells state failed loans (rights_laid look n top) w f v g
  link_printed look n top is z view p = right_printed look n top z (laid_as (ap (right_laid look) (sym view)) p)

  pub operand_printed : (look : Look) (span : Span) (op : ℕ) (left right : Tree) {b : Bool} {w v : S} {f g : Option EmitError} → b ≡ gap_before op left
      → Prints {S = S} tells state failed loans (gap_or look b · text (operator_text op) · gap_or look (gap_after op right) · laid look Alone right) w f v g
      → Prints {S = S} tells state failed loans (right_laid look (bin_expr span op left right)) w f v g
  operand_printed look span op left right before p =
      laid_as (ap (λ x. gap_or look x · text (operator_text op) · gap_or look (gap_after op right) · laid look Alone right) before) p

  pub none_printed : (look : Look) (n : ℕ) (t : Tree) {w : S} {f : Option EmitError} → n ≡ 0 → Prints {S = S} tells state failed loans (rights_laid look n t) w f w f
  unfolding rights_laid
  none_printed look n t e = rw e idle

  -- so many `if` statements are printed up to their alternatives, and one more
  pub no_branches : (look : Look) (t : Tree) {w : S} {f : Option EmitError} → Prints {S = S} tells state failed loans (branches_laid look 0 t) w f w f
  unfolding branches_laid
  no_branches look t = idle

  pub branch_more : (look : Look) (n : ℕ) (t : Tree) {w v u : S} {f g e : Option EmitError}
      → Prints {S = S} tells state failed loans (branches_laid look n t) w f v g
      → Prints {S = S} tells state failed loans (branch_laid look (further_on n t)) v g u e
      → Prints {S = S} tells state failed loans (branches_laid look (n + 1) t) w f u e
  unfolding branches_laid
  branch_more look n t p q = rw (add-one n) (p ▸ q)

  -- at first nothing is printed, and behind one `if` more so much more
  pub sets_out_on_ifs : (look : Look) (t : Tree) {w : S} {f : Option EmitError}
      → Prints {S = S} tells state failed loans (branches_laid look 0 t) w f w f × (t ≡ further_on 0 t) × Chained 0 t × (tree_size t ≤ tree_size t)
  sets_out_on_ifs look t = (no_branches look t, sym (none_further t), none_chained t, omega (arith))

  pub goes_on_to_next : (look : Look) (n : ℕ) (top rest next : Tree) (span : Span) (test cons alt : Tree) {b d : Bool} {w v u x : S} {f g e h : Option EmitError}
      → Prints {S = S} tells state failed loans (branches_laid look n top) w f v g × (rest ≡ further_on n top) × Chained n top × (tree_size rest ≤ tree_size top)
      → rest ≡ if_stmt span test cons alt → next ≡ alt → is_absent next ≡ false → b ≡ is_block cons → d ≡ starts_with_word next
      → Prints {S = S} tells state failed loans (consequence_laid look (if_stmt span test cons alt)) v g u e
      → Prints {S = S} tells state failed loans (else_laid look b d) u e x h
      → Prints {S = S} tells state failed loans (branches_laid look (n + 1) top) w f x h × (next ≡ further_on (n + 1) top) × Chained (n + 1) top × (tree_size next ≤ tree_size top)
  goes_on_to_next look n top rest next span test cons alt {b = b} {d = d} {v = v} {u = u} {x = x} {g = g} {e = e} {h = h} i view is there block word p q =
      let at : if_stmt span test cons alt ≡ further_on n top = sym view ∙ i.1 in
      let stands : is_absent alt ≡ false = ap is_absent (sym is) ∙ there in
      let linked : Chained (n + 1) top = chained_next n top i.2 (ap has_alternative (sym at) ∙ ap not stands) in
      let on : next ≡ further_on (n + 1) top = is ∙ sym (goes_to span test cons alt stands) ∙ ap alternative at ∙ sym (further_next n top) in
      let size : tree_size (further_on (n + 1) top) + 2 * (n + 1) ≤ tree_size top = further_smaller (n + 1) top linked in
      let less : tree_size next ≤ tree_size top = subst (λ (t : Tree). tree_size t ≤ tree_size top) (sym on) (omega (arith, size)) in
      let asked : else_laid look b d ≡ else_laid look (is_block cons) (starts_with_word alt) = ap (λ y. else_laid look y d) block ∙ ap (else_laid look (is_block cons)) (word ∙ ap starts_with_word is) in
      let whole : Prints {S = S} tells state failed loans (branch_laid look (if_stmt span test cons alt)) v g x h = p ▸ laid_as asked q in
      (branch_more look n top i.0 (laid_as (ap (branch_laid look) at) whole), on, linked, less)

  -- behind no link stands the whole
  pub behind_none : (look : Look) (n : ℕ) (t : Tree) {l : Laid} {w v u : S} {f g e : Option EmitError} → n ≡ 0
      → Prints {S = S} tells state failed loans (branches_laid look n t) w f v g → Prints {S = S} tells state failed loans l v g u e
      → Prints {S = S} tells state failed loans l w f u e
  unfolding branches_laid
  behind_none look n t {w = w} {v = v} {f = f} {g = g} z p q =
      laid_like (λ a. refl) (subst (λ (k : ℕ). Prints {S = S} tells state failed loans (branches_laid look k t) w f v g) z p ▸ q)

  -- a chain of `else if` is printed
  pub ifs_printed : (look : Look) (s : Stand) (n : ℕ) (t : Tree) {w v u x y : S} {f g e d c : Option EmitError} → (n ≡ 0 → ⊥) → Chained n t
      → Prints {S = S} tells state failed loans (branches_laid look n t) w f v g
      → Prints {S = S} tells state failed loans (laid look Alone (further_on n t)) v g u e
      → Prints {S = S} tells state failed loans (closing look (further_on n t)) u e x d
      → Prints {S = S} tells state failed loans (lines_laid look (n - 1)) x d y c
      → Prints {S = S} tells state failed loans (laid look s t) w f y c
  ifs_printed look s zero t z h p q r l = absurd (z refl)
  ifs_printed look s (suc n) t {x = x} {y = y} {d = d} {c = c} z h p q r l = laid_like (λ a. sym (if_chain look s n t a h))
      (p ▸ (q ▸ (r ▸ subst (λ (k : ℕ). Prints {S = S} tells state failed loans (lines_laid look k) x d y c) (one_less n) l)))

  -- so many lines have ended, and one more
  pub no_lines : (look : Look) {w : S} {f : Option EmitError} → Prints {S = S} tells state failed loans (lines_laid look 0) w f w f
  unfolding lines_laid
  no_lines look = idle

  pub line_more : (look : Look) (n : ℕ) {w v u : S} {f g e : Option EmitError}
      → Prints {S = S} tells state failed loans (lines_laid look n) w f v g
      → Prints {S = S} tells state failed loans (line look) v g u e
      → Prints {S = S} tells state failed loans (lines_laid look (n + 1)) w f u e
  unfolding lines_laid
  line_more look n p q = rw (add-one n) (p ▸ q)

-- ---- what each function rests on: that what is printed is smaller, and still a chain
pub ruleset at_the_top = (links_there, below_falls, left_falls, top_falls, last_link, last_left, last_stands)

pub ruleset rights = (inner_falls, outer_falls, one_link, inner_links, outer_links)

pub ruleset along_branches = (further_next, chained_next, none_further, none_chained, ifs_there, further_falls)
