-- Each complete front is read: before a token with which no longer list goes on, each rule ends.
use Rattle.std.proofs.Common.{◌≡◌, ◌<◌, ◌≤◌, inl, ℕ, suc, Bool, true, false, ◌||◌, eqb, List, [], ◌∷◌, ◌++◌, length, refl, sym, ap, ap₂, ◌∙◌, subst, true≢false, arith, cond, leb, nat_lt, ltb-true, ltb-false}
use Rattle.std.proofs.lemmas.Bool.{eqb-true, ne_eqb, or_left, leb-false}
use Rattle.base_token.specs.Kinds.{plus_plus_kind, minus_minus_kind, question_mark_kind}
use Rattle.tree_spec.specs.Tree.{Tree, none, more}
use Rattle.tree_nesting.specs.Nesting.{nesting}
use Rattle.grammar_spec.specs.Tokens.Input.{PlacedToken, Input, Code, kind, kind_of, alone, in_list, brk}
use Rattle.grammar_spec.specs.Tokens.Operators.{between, goes_expr}
use Rattle.grammar_spec.specs.Tokens.Shape.{ends, is_statement, is_item, is_plain_function}
use Rattle.grammar_spec.specs.Expressions.{is_update_op}
use Rattle.grammar_spec.specs.Grammar.{Produces}
use Rattle.grammar_spec.specs.Reader.Modules.{item_by}
use Rattle.grammar_spec.specs.Reader.Reading.{readers}
use Rattle.grammar_laws.specs.CompleteBase.Laws.{coded, InOrder, Asked, Follow}
use Rattle.grammar_laws.proofs.complete_base.Yields.{lm}
use Rattle.grammar_laws.proofs.complete_base.Levels.{calm_by, sober_by}
use Rattle.grammar_laws.proofs.complete_base.Trees.{covered, size, sizes, reach, by_update}
use Rattle.grammar_laws.proofs.complete_rules.Finds.{Behind, Leads, Firm, firm_leads, lasts}
use Rattle.grammar_laws.proofs.complete_rules.Nested.{may_follow, leaves, follows}
use Rattle.grammar_laws.proofs.complete_rules.Modules.{module_item}
use Rattle.grammar_laws.proofs.complete_rules.Sources.{in_module}
use Rattle.grammar_laws.proofs.complete.Sizes.{items_small, items_reach}
use Rattle.grammar_laws.proofs.complete.Tied.{known, complete}
use Rattle.grammar_laws.proofs.complete.Nests.{reach_nests}
use Rattle.grammar_laws.proofs.Shapes.{update_op}
use Rattle.parse_source_laws.specs.Ahead.{at_list}
use Rattle.parse_front_laws.specs.Complete.Laws.{input_at, IsComplete, Whatever, EndsAt, EndsBefore, Expression, Statement, ListItem, ModuleItem}
use Rattle.parse_front_laws.specs.Complete.Exact.{goes_after, Stopped, IsReadWhere, FrontsAreExact}
use Rattle.parse_front_laws.proofs.complete.Fronts.{IsRead, reads_of, halves, follow_by, expression_is_read, binding_is_read, key_is_read}
use Rattle.parse_front_laws.proofs.complete.Onto.{Onto}
use Rattle.parse_front_laws.proofs.complete.Longer.{onward, onward_mild, onward_order, level_of, bounded, bounded_leads}
use Rattle.parse_front_laws.proofs.complete.Leaves.{leaves_there}
use Rattle.parse_front_laws.proofs.complete.Updates.{no_update}

-- ---- before `?`, with which a closed expression doesn't go on

pub record Still (c : Code) (r : Input) : Type 0 where
  pub calm : c.context.in_generator ≡ false
  pub question : kind r ≡ question_mark_kind

abbrev pub still : Behind
still = record { tree = λ p c l t ts r. Still c r; trees = λ p c ys ts r. Still c r }

still_firm : (c : Code) (l : ℕ) (r : Input) → Still c r → Firm c 0 l 21 r
still_firm c l r f = record { calm = λ _ _. calm_by question_mark_kind r f.question refl; end = λ _ _. calm_by question_mark_kind r f.question refl; sober = sober_by c question_mark_kind r f.question refl; quits = λ o. absurd (omega (arith, o)) }

pub still_leads : Leads still
still_leads = record {
  update = λ p c l s op a ts r f h. f;
  unary = λ p c l s op a ts r f h. f;
  awaits = λ p c l s a ts r f h. f;
  binary = λ p c l s op a b ts r f h. f;
  conditional = λ p c l s a b t ts r f h. f;
  assigns = λ p c l s op a b ts r f h. f;
  arrow = λ p c l s ps e i ts r nb f h. record { calm = refl; question = f.question };
  yields = λ p c l s a ts r na f h. f;
  yields_all = λ p c l s a ts r na f h. f;
  sequence = λ p c l s x y ys ts r f h. f;
  next = λ p c x y ys ts r f h. f;
  last = λ p c x ts r f h. f;
  bare_new = λ p c l s g ts r f h. f;
  name = λ p c l s n ts r f h. firm_leads.name p c l s n ts r (still_firm c l r f) h;
  group = λ p c l s e ts r f h. firm_leads.group p c l s e ts r (still_firm c l r f) h;
  call = λ p c l s q n xs ts m r f a e b h. firm_leads.call p c l s q n xs ts m r (still_firm c l r f) a e b h;
  idle = λ p c l s q ts r f h. absurd (true≢false (sym h.1.0 ∙ f.calm));
}

-- ---- a list that goes on with the next token

order_on : (q : PlacedToken) (beyond : List PlacedToken) (n : ℕ) (f : List PlacedToken) → InOrder n (f ++ q ∷ beyond) → InOrder n (f ++ q ∷ onward q)
order_on q beyond n [] h = (h.0, h.1, h.2, onward_order q)
order_on q beyond n (x ∷ f) h = (h.0, h.1, h.2, order_on q beyond x.spot.hi f h.3)

-- Behind a complete front none is longer.
pub ends_there : (P : Tree → Input → Input → Type 0) (q : PlacedToken) (beyond : List PlacedToken) (plain : eqb q.spot.token.kind question_mark_kind ≡ false) (n : ℕ) (ps v : List PlacedToken) → v ≡ q ∷ beyond → InOrder n ps → IsComplete P n ps v
    → (o : Input) → Onto q beyond (onward q) (onward_mild q) plain (input_at n ps) o → (u : Tree) (e : Input) → e.places ≡ [] → P u o e → ⊥
ends_there P q beyond plain n ps v i order z o k u e empty h =
    let f = (halves k.front (q ∷ beyond) z.0 v (sym k.left ∙ z.1) (ap (λ w. length w) (sym i))).0 in
    let next_ends : EndsBefore P n z.0 q = subst (λ w. EndsAt P n z.0 w) i z.2 in
    let same : o ≡ input_at n (z.0 ++ q ∷ onward q) = ap₂ (λ (m : ℕ) (w : List PlacedToken). input_at m w) (sym k.last) (k.right ∙ ap (λ w. w ++ q ∷ onward q) f) in
    let kept = subst (λ w. InOrder n w) (k.left ∙ ap (λ w. w ++ q ∷ beyond) f) order in
    omega (arith, next_ends (onward q) u e (order_on q beyond n z.0 kept) (subst (λ (w : Input). P u w e) same h), ap (λ w. length w) empty)

-- ---- expressions

asked_by : (l : ℕ) → l ≤ 2 → Asked l
asked_by l b = record { conditional = λ e. omega (arith, b, e); update = λ e. omega (arith, b, e) }

module _ (c : Code) (l : ℕ) (least : 1 ≤ l) (most : l ≤ 2) (calm : c.context.in_generator ≡ false) (d n : ℕ) (ps : List PlacedToken) (t : Tree) (r : Input) (deep : nesting t ≤ d) (order : InOrder n ps) (g : Expression false l c t (input_at n ps) r) (stop : goes_expr c (ends t) r < l) where
  abbrev Ours : Type 0
  Ours = IsRead ((readers lm d).expr c l (at_list n ps [])) t r

  read_by : (F : Behind) → Leads F → F.tree false c l t (input_at n ps) r → Ours
  read_by F leads f = reads_of n ps ((readers lm d).expr c l (at_list n ps [])) t r (d < reach t) (λ i. omega (arith, i, deep, reach_nests t)) order
      (lasts (suc (size t)) d (λ e. (known (suc (size t))).comes e) F leads t false c l (input_at n ps) r [] (omega arith) (covered t) g.1 least (omega (arith, most)) (asked_by l most) g.0 stop f)

  before : (q : PlacedToken) (beyond : List PlacedToken) → r.places ≡ q ∷ beyond → IsComplete (Expression false l c) n ps r.places → (b : Bool) → eqb q.spot.token.kind question_mark_kind ≡ b → Ours
  before q beyond i w true j = read_by still still_leads (record { calm = calm; question = ap (λ (v : List PlacedToken). kind (input_at 0 v)) i ∙ eqb-true q.spot.token.kind question_mark_kind j })
  before q beyond i w false j = read_by (bounded q beyond j) (bounded_leads q beyond j) (record {
    fits = inl g.0;
    final = λ o k u e z lv x. ends_there (Expression false l c) q beyond j n ps r.places i order w o k u e z (level_of l u (omega (arith, most)) lv, x);
    calm = calm;
    there = i;
  })

  whole : r.places ≡ [] → Ours
  whole i = expression_is_read false l least most c d n ps t r deep order g (subst (λ (v : List PlacedToken). Follow c (ends t) l (input_at r.last v)) (sym i) (follow_by c (ends t) l r.last [] least))

  by_rest : IsComplete (Expression false l c) n ps r.places → (v : List PlacedToken) → r.places ≡ v → Ours
  by_rest w [] i = whole i
  by_rest w (q ∷ beyond) i = before q beyond i w (eqb q.spot.token.kind question_mark_kind) refl

-- `++` and `--` go on with no complete front
pub update_goes : (c : Code) (e : ℕ) (m : Input) → is_update_op (kind m) ≡ true → goes_expr c e m ≡ cond (leb 2 e) 0 (cond (leb 1 e) 0 (cond (brk m) 0 17))
update_goes c e m up = by_update (kind m) (λ k. kind m ≡ k → goes_expr c e m ≡ cond (leb 2 e) 0 (cond (leb 1 e) 0 (cond (brk m) 0 17))) up (λ k. rw k refl) (λ k. rw k refl) refl

between_two : (k : ℕ) → (k ≡ 20 → ⊥) → (k ≡ 21 → ⊥) → 20 ≤ k → k ≤ 21 → ⊥
between_two k f h low high = by_test (nat_lt 20 k) refl
  where
    by_test : (b : Bool) → nat_lt 20 k ≡ b → ⊥
    by_test true e = h (omega (arith, ltb-true 20 k e, high))
    by_test false e = f (omega (arith, ltb-false 20 k e, low))

one_of_two : (k : ℕ) (x y : Bool) → (x ≡ false → k ≡ 20 → ⊥) → (y ≡ false → k ≡ 21 → ⊥) → 20 ≤ k → k ≤ 21 → (x || y) ≡ true
one_of_two k true y f h low high = refl
one_of_two k false true f h low high = refl
one_of_two k false false f h low high = absurd (between_two k (f refl) (h refl) low high)

stops : (c : Code) (l : ℕ) → 1 ≤ l → l ≤ 2 → (n : ℕ) (ps : List PlacedToken) (t : Tree) (r : Input) → InOrder n ps → Expression false l c t (input_at n ps) r → IsComplete (Expression false l c) n ps r.places → goes_after c (ends t) r < l → goes_expr c (ends t) r < l
stops c l a b n ps t r order g w s = by_kind (between plus_plus_kind minus_minus_kind (kind r)) refl s
  where
    not_question : (k : ℕ) → is_update_op k ≡ true → eqb k question_mark_kind ≡ false
    not_question k up = by_update k (λ k. eqb k question_mark_kind ≡ false) up refl refl

    never : (v : List PlacedToken) → r.places ≡ v → is_update_op (kind r) ≡ true → brk r ≡ false → ends t ≡ 0 → ⊥
    never [] i up line e = absurd (true≢false (sym up ∙ ap (λ v. is_update_op (kind_of v)) i))
    never (q ∷ beyond) i up line e = let j = not_question q.spot.token.kind (sym (ap (λ v. is_update_op (kind_of v)) i) ∙ up) in
        no_update q beyond j false r i up line t c l (input_at n ps) (λ o k u v z lv x. ends_there (Expression false l c) q beyond j n ps r.places i order w o k u v z (level_of l u (omega (arith, b)) lv, x)) (omega (arith, b)) (inl g.0) (omega (arith, a, g.0)) e g.1

    by_class : (x y z : Bool) → leb 2 (ends t) ≡ x → leb 1 (ends t) ≡ y → brk r ≡ z → is_update_op (kind r) ≡ true → cond x 0 (cond y 0 (cond z 0 17)) < l
    by_class true y z i j k up = omega (arith, a)
    by_class false true z i j k up = omega (arith, a)
    by_class false false true i j k up = omega (arith, a)
    by_class false false false i j k up = absurd (never r.places refl up k (omega (arith, leb-false 1 (ends t) j)))

    by_kind : (x : Bool) → between plus_plus_kind minus_minus_kind (kind r) ≡ x → cond x 0 (goes_expr c (ends t) r) < l → goes_expr c (ends t) r < l
    by_kind false e s = s
    by_kind true e s = let up = update_op (kind r) e in subst (λ (m : ℕ). m < l) (sym (update_goes c (ends t) r up)) (by_class (leb 2 (ends t)) (leb 1 (ends t)) (brk r) refl refl refl up)

expression_exact : (c : Code) (l : ℕ) → 1 ≤ l → l ≤ 2 → c.context.in_generator ≡ false → IsReadWhere (Stopped l c) (λ d s. (readers lm d).expr c l s) (Expression false l c)
expression_exact c l a b calm d n ps t r deep order g w m = by_rest c l a b calm d n ps t r deep order g (stops c l a b n ps t r order g w m) w r.places refl

-- ---- statements and items

-- Before `finally` and before a colon a statement ends there as well.
module _ (P : Tree → Input → Input → Type 0) (c : Code) (sorts : (u : Tree) (o e : Input) → is_statement u ≡ true → Produces u (coded false c) o e → P u o e) (n : ℕ) (ps : List PlacedToken) (t : Tree) (r : Input) (order : InOrder n ps) (g : Produces t (coded false c) (input_at n ps) r) (w : IsComplete P n ps r.places) where
  not_question : (q : PlacedToken) (beyond : List PlacedToken) → r.places ≡ q ∷ beyond → may_follow (kind r) ≡ false → eqb q.spot.token.kind question_mark_kind ≡ false
  not_question q beyond i e = ne_eqb q.spot.token.kind question_mark_kind (λ k. true≢false (sym (ap may_follow (ap kind_of i ∙ k)) ∙ e))

  taken_by : (v : List PlacedToken) → r.places ≡ v → may_follow (kind r) ≡ false → leaves c.context t r ≡ true
  taken_by [] i e = absurd (true≢false (sym (ap may_follow (ap kind_of i)) ∙ e))
  taken_by (q ∷ beyond) i e = let j = not_question q beyond i e in leaves_there q beyond j t false c (input_at n ps) r (record {
    final = λ o k u v z y x. ends_there P q beyond j n ps r.places i order w o k u v z (sorts u o v y x);
    there = i;
    rising = (n, order);
  }) g

  leaves_by : (b : Bool) → may_follow (kind r) ≡ b → leaves c.context t r ≡ true
  leaves_by true e = follows c.context t r e
  leaves_by false e = taken_by r.places refl e

  left : leaves c.context t r ≡ true
  left = leaves_by (may_follow (kind r)) refl

statement_exact : (c : Code) → IsReadWhere Whatever (λ d s. (readers lm d).stmt (alone c) s) (Statement false c)
statement_exact c d n ps t r deep order g w m = reads_of n ps _ t r (d < reach t) (λ i. omega (arith, i, deep, reach_nests t)) order
    ((complete (suc (size t)) d).stmt t false (alone c) (input_at n ps) r [] (omega arith) (ap (λ (b : Bool). b || is_plain_function t) g.0) g.1 (left (Statement false c) (alone c) (λ u o e i x. (i, x)) n ps t r order g.1 w))

item_exact : (c : Code) → IsReadWhere Whatever (λ d s. (readers lm d).stmt (in_list c) s) (ListItem false c)
item_exact c d n ps t r deep order g w m = reads_of n ps _ t r (d < reach t) (λ i. omega (arith, i, deep, reach_nests t)) order
    ((complete (suc (size t)) d).stmt t false (in_list c) (input_at n ps) r [] (omega arith) g.0 g.1 (left (ListItem false c) (in_list c) (λ u o e i x. (or_left (is_statement u) _ i, x)) n ps t r order g.1 w))

module_item_exact : (c : Code) → IsReadWhere Whatever (λ d s. item_by lm (readers lm d) true (in_list c) s) (ModuleItem false c)
module_item_exact c d n ps t r deep order g w m = reads_of n ps _ t r (d < in_module reach t) (λ i. omega (arith, i, deep, items_reach (more t none), reach_nests t)) order
    (module_item (complete (suc (sizes (more t none))) d) false t c (input_at n ps) r [] g.0 (items_small (suc (sizes (more t none))) (more t none) (omega arith)).0 g.1
    (left (ModuleItem false c) (in_list c) (λ u o e i x. (or_left (is_item u) _ (or_left (is_statement u) _ i), x)) n ps t r order g.1 w))

pub fronts_are_exact : FrontsAreExact
fronts_are_exact c = record {
  expressions = expression_exact c;
  bindings = λ d n ps t r deep order g w m. binding_is_read false c d n ps t r deep order g tt;
  keys = λ d n ps t r deep order g w m. key_is_read false c d n ps t r deep order g tt;
  statements = statement_exact c;
  list_items = item_exact c;
  module_items = module_item_exact c;
}
