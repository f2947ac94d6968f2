-- What ends with the word `async` is a complete front before a name, but where an assignment may stand: it is read before whatever follows that name.
use Rattle.std.proofs.Common.{◌≡◌, ◌<◌, ◌≤◌, ◌+◌, inl, inr, ℕ, suc, Bool, true, false, not, ◌&&◌, eqb, leb, nat_lt, List, [], ◌∷◌, ◌++◌, length, append_assoc, Ok, codes, bytes_eq, refl, sym, ap, ap₂, ◌∙◌, subst, ⊎_elim, true≢false, arith, ltb-true, ltb-false}
use Rattle.std.proofs.lemmas.Bool.{leb-true, and_left}
use Rattle.base_token.specs.Kinds.{question_mark_kind, arrow_kind, function_kind}
use Rattle.tree_spec.specs.Tree.{Tree, Trees, more, cond_expr, assign_expr, arrow_expr, yield_expr, seq_expr}
use Rattle.tree_nesting.specs.Nesting.{nesting}
use Rattle.grammar_spec.specs.Tokens.Input.{PlacedToken, Input, Code, kind, kind_of, brk, in_arrow}
use Rattle.grammar_spec.specs.Tokens.Operators.{goes_expr, may_name, assignment_level}
use Rattle.grammar_spec.specs.Tokens.Shape.{level, ends, last_tree, last_of}
use Rattle.grammar_spec.specs.Grammar.{Produces}
use Rattle.grammar_laws.proofs.context.Placed.{move}
use Rattle.grammar_spec.specs.Reader.Source.{State}
use Rattle.grammar_spec.specs.Reader.Reading.{readers}
use Rattle.grammar_laws.specs.CompleteBase.Laws.{coded, InOrder}
use Rattle.grammar_laws.proofs.complete_base.Yields.{lm}
use Rattle.grammar_laws.proofs.complete_base.Levels.{right_five, operated}
use Rattle.grammar_laws.proofs.complete_base.Trees.{covered, size, reach, no_kind}
use Rattle.grammar_laws.proofs.complete_rules.Prefixes.{Lone, param_at}
use Rattle.grammar_laws.proofs.complete_rules.Finds.{Behind, Leads, lasts}
use Rattle.grammar_laws.proofs.complete.Tied.{known}
use Rattle.grammar_laws.proofs.complete.Nests.{reach_nests}
use Rattle.grammar_laws.specs.Laws.{OfLevel}
use Rattle.grammar_laws.proofs.SoundLemmas.{expressions_sound}
use Rattle.parse_source_laws.specs.Ahead.{ends_async, last_async, Named, heads, Instead, at_list}
use Rattle.parse_source_laws.proofs.Ahead.{one_ahead}
use Rattle.parse_front_laws.specs.Complete.Laws.{input_at, IsComplete, EndsAt, EndsBefore, Expression}
use Rattle.parse_front_laws.specs.Complete.Asyncs.{names_next, takes_name, ExpressionsSettle}
use Rattle.parse_front_laws.proofs.complete.Fronts.{IsRead, reads_of, rest_of, head_or, split, halves, order_cut, no_shorter, Quit, readers_quit, no_member, of_level, cut_expression, whole_expression, expressions_end}
use Rattle.parse_front_laws.proofs.complete.Cut.{closing}
use Rattle.parse_front_laws.proofs.complete.Onto.{Mild, Onto, onto, goes_alike}
use Rattle.parse_front_laws.proofs.complete.Longer.{mark}

-- ---- what is known behind each tree that ends with that word, before a name

pub record Kept (c : Code) (l : ℕ) (t : Tree) (r : Input) : Type 0 where
  pub fits : OfLevel l t
  pub ends : ends_async t ≡ true
  pub word : may_name (kind r) ≡ true
  pub free : l ≤ 3 → takes_name c (last_of t) r ≡ false

pub record KeptLast (c : Code) (ys : Trees) (r : Input) : Type 0 where
  pub ends : last_async ys ≡ true
  pub word : may_name (kind r) ≡ true
  pub free : takes_name c (last_tree ys) r ≡ false

abbrev pub kept : Behind
kept = record { tree = λ p c l t ts r. Kept c l t r; trees = λ p c ys ts r. KeptLast c ys r }

pub last_self : (t : Tree) → 2 ≤ level t → last_of t ≡ t
last_self (seq_expr s xs) h = absurd (omega (arith, h))
last_self _ h = refl

low_of : (l m : ℕ) (t : Tree) → level t ≡ m → m ≤ 3 → OfLevel l t → l ≤ 3
low_of l m t e h (inl i) = omega (arith, e, h, i)
low_of l m t e h (inr i) = absurd (omega (arith, e, h, i.1))

operand_kept : (c : Code) (l : ℕ) (b : Tree) (r : Input) → 2 ≤ level b → ends_async b ≡ true → may_name (kind r) ≡ true → takes_name c b r ≡ false → Kept c 2 b r
operand_kept c l b r h e w f = record { fits = inl h; ends = e; word = w; free = λ _. subst (λ (t : Tree). takes_name c t r ≡ false) (sym (last_self b h)) f }

kept_name : (c : Code) (l : ℕ) (n : List ℕ) (ts r : Input) → bytes_eq n (codes "async") ≡ true → may_name (kind r) ≡ true → (l ≤ 3 → (bytes_eq n (codes "async") && names_next c r) ≡ false) → Lone c l ts r
kept_name c l n ts r e w f = record {
  calm = λ _. and_left (eqb (kind r) arrow_kind) _ (no_kind may_name (kind r) arrow_kind w refl);
  function = λ _. and_left _ _ (and_left (eqb (kind r) function_kind) _ (no_kind may_name (kind r) function_kind w refl));
  param = λ _. by_level (leb l assignment_level) (λ i. leb-true l assignment_level i) refl;
}
  where
    second : (a b : Bool) → a ≡ true → (a && b) ≡ false → b ≡ false
    second true b i h = h
    second false b i h = absurd (true≢false (sym i))

    swaps : (b w x y z : Bool) → (not b && w) ≡ false → (w && ((not b && x && y) && z)) ≡ false
    swaps true true x y z h = refl
    swaps true false x y z h = refl
    swaps false true x y z h = absurd (true≢false h)
    swaps false false x y z h = refl

    off : (w u z : Bool) → z ≡ false → (w && (u && z)) ≡ false
    off true true z h = h
    off true false z h = refl
    off false u z h = refl

    by_level : (b : Bool) → (b ≡ true → l ≤ 2) → leb l assignment_level ≡ b → param_at c l r ≡ false
    by_level true g i = swaps (brk r) _ _ _ _ (second (bytes_eq n (codes "async")) (names_next c r) e (f (omega (arith, g refl))))
    by_level false g i = off _ _ (leb l assignment_level) i

pub kept_leads : Leads kept
kept_leads = record {
  update = λ p c l s op a ts r f h. record { fits = inl h.3.0; ends = f.ends; word = f.word; free = λ u. absurd (omega (arith, u)) };
  unary = λ p c l s op a ts r f h. record { fits = inl h.3.0; ends = f.ends; word = f.word; free = λ u. absurd (omega (arith, u)) };
  awaits = λ p c l s a ts r f h. record { fits = inl h.3.0; ends = f.ends; word = f.word; free = λ u. absurd (omega (arith, u)) };
  binary = λ p c l s op a b ts r f h. record { fits = inl h.6.0; ends = f.ends; word = f.word; free = λ u. absurd (omega (arith, u, right_five op (operated c op h.2))) };
  conditional = λ p c l s a b t ts r f h. operand_kept c l t r h.8.0 f.ends f.word (f.free (low_of l 3 (cond_expr s a b t) refl (omega arith) f.fits));
  assigns = λ p c l s op a b ts r f h. operand_kept c l b r h.6.0 f.ends f.word (f.free (low_of l 2 (assign_expr s op a b) refl (omega arith) f.fits));
  arrow = λ p c l s ps e i ts r nb f h. operand_kept (in_arrow i c) l e r h.3.0 f.ends f.word (f.free (low_of l 2 (arrow_expr s ps e i) refl (omega arith) f.fits));
  yields = λ p c l s a ts r na f h. operand_kept c l a r h.4.0 f.ends f.word (f.free (low_of l 2 (yield_expr s a false) refl (omega arith) f.fits));
  yields_all = λ p c l s a ts r na f h. operand_kept c l a r h.6.0 f.ends f.word (f.free (low_of l 2 (yield_expr s a true) refl (omega arith) f.fits));
  sequence = λ p c l s x y ys ts r f h. record { ends = f.ends; word = f.word; free = f.free (low_of l 1 (seq_expr s (more x (more y ys))) refl (omega arith) f.fits) };
  next = λ p c x y ys ts r f h. record { ends = f.ends; word = f.word; free = f.free };
  last = λ p c x ts r f h. operand_kept c 2 x r h.3.0 f.ends f.word f.free;
  bare_new = λ p c l s g ts r f h. record { fits = ⊎_elim (λ i. inr (refl, i)) (λ i. inl i) h.2; ends = f.ends; word = f.word; free = λ u. absurd (omega (arith, u)) };
  name = λ p c l s n ts r f h. kept_name c l n ts r f.ends f.word f.free;
  group = λ p c l s e ts r f h. absurd (true≢false (sym f.ends));
  call = λ p c l s q n xs ts m r f a e b h. absurd (true≢false (sym f.ends));
  idle = λ p c l s q ts r f h. absurd (true≢false (sym f.ends));
}

-- ---- such a front before whatever follows the name

-- whether a name stands next doesn't look behind it
pub takes_alike : (t : Tree) (c : Code) (n : ℕ) (q : PlacedToken) (v w : List PlacedToken) → takes_name c t (input_at n (q ∷ v)) ≡ takes_name c t (input_at n (q ∷ w))
takes_alike (assign_expr s op p e) c n q v w = takes_alike e c n q v w
takes_alike (cond_expr s a b d) c n q v w = takes_alike d c n q v w
takes_alike (arrow_expr s ps b i) c n q v w = takes_alike b (in_arrow i c) n q v w
takes_alike (yield_expr s e g) c n q v w = takes_alike e c n q v w
takes_alike _ c n q v w = refl

abbrev pub arrow_or : PlacedToken → Bool → List PlacedToken
arrow_or q true = mark q arrow_kind q.spot.hi ∷ []
arrow_or q false = []

pub arrow_mild : (q : PlacedToken) (b : Bool) → Mild (arrow_or q b)
arrow_mild q true = (refl, refl)
arrow_mild q false = (refl, refl)

pub arrow_order : (q : PlacedToken) (b : Bool) → InOrder q.spot.hi (arrow_or q b)
arrow_order q true = (omega arith, omega arith, (λ _. omega arith), tt)
arrow_order q false = tt

pub arrow_heads : (q : PlacedToken) (b : Bool) → heads (q ∷ arrow_or q b) ≡ b
arrow_heads q true = refl
arrow_heads q false = refl

pub order_with : (q : PlacedToken) (v w : List PlacedToken) (n : ℕ) (f : List PlacedToken) → InOrder q.spot.hi w → InOrder n (f ++ q ∷ v) → InOrder n (f ++ q ∷ w)
order_with q v w n [] g h = (h.0, h.1, h.2, g)
order_with q v w n (x ∷ f) g h = (h.0, h.1, h.2, order_with q v w x.spot.hi f g h.3)

pub named_with : (q : PlacedToken) (v : List PlacedToken) (b : Bool) (f : List PlacedToken) → Named (f ++ q ∷ v) → Named (f ++ q ∷ arrow_or q b)
named_with q v true [] h = (h.0, (λ k. absurd (omega (arith, k)), tt))
named_with q v false [] h = (h.0, tt)
named_with q v b (x ∷ f) h = (h.0, named_with q v b f h.1)

module _ (placed : Bool) (c : Code) (l : ℕ) (least : 1 ≤ l) (most : l ≤ 2) (n : ℕ) (ps : List PlacedToken) (t : Tree) (r : Input) (q : PlacedToken) (beyond front : List PlacedToken) (is : ps ≡ front ++ q ∷ beyond) (there : r.places ≡ q ∷ beyond)
    (named : Named ps) (order : InOrder n ps) (g : Expression false l c t (input_at n ps) r) (stop : goes_expr c (ends t) r < l) (word : may_name q.spot.token.kind ≡ true) (waits : ends_async t ≡ true) (free : takes_name c (last_of t) r ≡ false) where
  -- before the name alone, and before `=>` behind it
  read_short : (b : Bool) (d : ℕ) → nesting t ≤ d → IsRead ((readers lm d).expr c l (at_list n (front ++ q ∷ arrow_or q b) [])) t (input_at r.last (q ∷ arrow_or q b))
  read_short b d deep =
      let plain : eqb q.spot.token.kind question_mark_kind ≡ false = no_kind may_name q.spot.token.kind question_mark_kind word refl in
      let here : Onto q beyond (arrow_or q b) (arrow_mild q b) plain r (input_at r.last (q ∷ arrow_or q b)) = record { last = refl; front = []; left = there; right = refl } in
      let z = move false (onto q beyond (arrow_or q b) (arrow_mild q b) plain) t (coded false c) (input_at n ps) r (input_at r.last (q ∷ arrow_or q b)) g.1 here in
      let f = (halves z.1.front (q ∷ beyond) front (q ∷ beyond) (sym z.1.left ∙ is) refl).0 in
      let same : z.0 ≡ input_at n (front ++ q ∷ arrow_or q b) = ap₂ (λ (m : ℕ) (w : List PlacedToken). input_at m w) (sym z.1.last) (z.1.right ∙ ap (λ w. w ++ q ∷ arrow_or q b) f) in
      let derived : Produces t (coded false c) (input_at n (front ++ q ∷ arrow_or q b)) (input_at r.last (q ∷ arrow_or q b)) = subst (λ (w : Input). Produces t (coded false c) w (input_at r.last (q ∷ arrow_or q b))) same z.2 in
      let sorted = order_with q beyond (arrow_or q b) n front (arrow_order q b) (subst (λ w. InOrder n w) is order) in
      let ends_so : goes_expr c (ends t) (input_at r.last (q ∷ arrow_or q b)) < l = subst (λ (m : ℕ). m < l) (subst (λ (v : List PlacedToken). goes_expr c (ends t) (input_at r.last v) ≡ goes_expr c (ends t) (input_at r.last (q ∷ arrow_or q b))) (sym there) (goes_alike c (ends t) r.last r.last q beyond (arrow_or q b) plain)) stop in
      let held : Kept c l t (input_at r.last (q ∷ arrow_or q b)) = record { fits = inl g.0; ends = waits; word = word; free = λ _. subst (λ (v : List PlacedToken). takes_name c (last_of t) (input_at r.last v) ≡ false → takes_name c (last_of t) (input_at r.last (q ∷ arrow_or q b)) ≡ false) (sym there) (λ h. sym (takes_alike (last_of t) c r.last q beyond (arrow_or q b)) ∙ h) free } in
      reads_of n (front ++ q ∷ arrow_or q b) ((readers lm d).expr c l (at_list n (front ++ q ∷ arrow_or q b) [])) t (input_at r.last (q ∷ arrow_or q b)) (d < reach t) (λ i. omega (arith, i, deep, reach_nests t)) sorted
      (lasts (suc (size t)) d (λ e. (known (suc (size t))).comes e) kept kept_leads t false c l (input_at n (front ++ q ∷ arrow_or q b)) (input_at r.last (q ∷ arrow_or q b)) [] (omega arith) (covered t) derived least (omega (arith, most)) (record { conditional = λ e. omega (arith, most, e); update = λ e. omega (arith, most, e) }) g.0 ends_so held)

  -- before whatever follows the name
  read_before : (d : ℕ) → nesting t ≤ d → (others : List PlacedToken) → IsRead ((readers lm d).expr c l (at_list n (front ++ q ∷ others) [])) t (input_at r.last (q ∷ others))
  read_before d deep others =
      let b = heads (q ∷ others) in let a = read_short b d deep in
      let z = (one_ahead d c).expressions l n (front ++ q ∷ arrow_or q b) [] t (record { source = input_at r.last (q ∷ arrow_or q b); commas = a.0 }) (named_with q beyond b front (subst (λ w. Named w) is named)) a.1 in
      let f = (halves z.0 (q ∷ arrow_or q b) front (q ∷ arrow_or q b) (sym z.1) refl).0 in
      let k : Instead t (q ∷ arrow_or q b) (q ∷ others) = record { next = refl; question = λ _ e. absurd (true≢false (sym word ∙ ap may_name e)); word = λ _ _ _ _. sym (arrow_heads q b) } in
      (a.0, subst (λ w. (readers lm d).expr c l (at_list n (w ++ q ∷ others) []) ≡ Ok (t, at_list r.last (q ∷ others) a.0)) f (z.2 (q ∷ others) k))

  -- a longer front, cut off behind itself, would be read whole and not
  no_longer : EndsBefore (Expression placed l c) n front q
  no_longer others u o kept h = by_length (nat_lt (length others) (length o.places)) refl
    where
      clash : (f e : List PlacedToken) → f ≡ front ++ e → q ∷ others ≡ e ++ o.places → length o.places < length (q ∷ others) → Expression false l c u (input_at n (f ++ closing o.places)) (input_at o.last (closing o.places)) → InOrder n (f ++ closing o.places) → ⊥
      clash f [] k v short w i = omega (arith, short, ap (λ z. length z) v)
      clash f (x ∷ e) k v short w i =
          let N = nesting t + nesting u in
          let a = read_before N (omega arith) (e ++ closing o.places) in let b = whole_expression l least most c N n (f ++ closing o.places) u o (omega arith) i w in
          let same : f ++ closing o.places ≡ front ++ q ∷ (e ++ closing o.places) = ap (λ z. z ++ closing o.places) k ∙ (append_assoc front (x ∷ e) (closing o.places) ∙ ap (λ y. front ++ y ∷ (e ++ closing o.places)) (sym (ap (λ z. head_or x z) v))) in
          no_shorter (q ∷ e) (closing o.places) (omega arith) (sym (ap (λ z. rest_of [] z) (ap (λ z. (readers lm N).expr c l (at_list n z [])) same ∙ a.1)) ∙ ap (λ z. rest_of [] z) b.1)

      by_length : (b : Bool) → nat_lt (length others) (length o.places) ≡ b → length others < length o.places
      by_length true j = ltb-true (length others) (length o.places) j
      by_length false j =
          let short : length o.places < length (q ∷ others) = omega (arith, ltb-false (length others) (length o.places) j) in
          let z = cut_expression placed l c u n (front ++ q ∷ others) o h in let e = split front (q ∷ others) z.0 o.places z.1 short in
          absurd (clash z.0 e.0 e.1 e.2 short z.2 (order_cut n z.0 o.places (subst (λ v. InOrder n v) z.1 kept)))

-- ---- the law

module _ (depth : ℕ) (placed : Bool) (c : Code) (l n : ℕ) (ps : List PlacedToken) (t : Tree) (r : State Input) (least : 1 ≤ l) (most : l ≤ 2) (named : Named ps) (order : InOrder n ps) (e : (readers lm depth).expr c l (at_list n ps []) ≡ Ok (t, r)) (free : takes_name c (last_of t) r.source ≡ false) where
  stopped : goes_expr c (ends t) r.source < l
  stopped = ltb-true (goes_expr c (ends t) r.source) l ((subst (λ z. Quit c l z) e (readers_quit c l depth (no_member l most) (at_list n ps []))).so)

  derived : Expression false l c t (input_at n ps) r.source
  derived = let z = expressions_sound depth c l (at_list n ps []) t r least e in (of_level l t most z.0, z.1)

  before_name : (v : List PlacedToken) → r.source.places ≡ v → ends_async t ≡ true → may_name (kind r.source) ≡ true → IsComplete (Expression placed l c) n ps r.source.places
  before_name [] i a w = absurd (true≢false (sym w ∙ ap (λ z. may_name (kind_of z)) i))
  before_name (q ∷ beyond) i a w = let z = (one_ahead depth c).expressions l n ps [] t r named e in let is = z.1 ∙ ap (λ v. z.0 ++ v) i in
      (z.0, z.1, subst (λ v. EndsAt (Expression placed l c) n z.0 v) (sym i) (no_longer placed c l least most n ps t r.source q beyond z.0 is i named order derived stopped (sym (ap (λ v. may_name (kind_of v)) i) ∙ w) a free))

  by_end : (x y : Bool) → ends_async t ≡ x → may_name (kind r.source) ≡ y → IsComplete (Expression placed l c) n ps r.source.places
  by_end true true i j = before_name r.source.places refl i j
  by_end false y i j = (expressions_end depth placed c l n ps t r least most named order e (λ k _ _. true≢false (sym k ∙ i))).1
  by_end x false i j = (expressions_end depth placed c l n ps t r least most named order e (λ _ _ k. true≢false (sym k ∙ j))).1

pub expressions_settle : ExpressionsSettle
expressions_settle depth placed c l n ps t r a b named order e free = (derived depth placed c l n ps t r a b named order e free, by_end depth placed c l n ps t r a b named order e free (ends_async t) (may_name (kind r.source)) refl refl, stopped depth placed c l n ps t r a b named order e free)
