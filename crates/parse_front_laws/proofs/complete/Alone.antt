-- Behind a complete front that ends with the word `async` no name stands where an arrow would go on: a longer list goes on with `=> {}`.
use Rattle.std.proofs.Common.{◌≡◌, ◌≤◌, inl, ℕ, Bool, true, false, not, ◌&&◌, eqb, List, [], ◌∷◌, ◌++◌, codes, bytes_eq, refl, sym, ap, ◌∙◌, subst, true≢false, arith}
use Rattle.std.proofs.lemmas.Bool.{ne_eqb, and_parts, not-true}
use Rattle.std.proofs.lemmas.Slice.Eq.{bytes_eq-Decides}
use Rattle.base_token.specs.declared.place.Span.{Span}
use Rattle.base_token.specs.Kinds.{async_kind, question_mark_kind, comma_kind, colon_kind, yield_kind, mul_kind}
use Rattle.tree_spec.specs.Tree.{Tree, Trees, none, more, ident, cond_expr, assign_expr, arrow_expr, yield_expr, seq_expr, absent, block_stmt}
use Rattle.grammar_spec.specs.Tokens.Input.{PlacedToken, Input, Code, kind, kind_of, brk, content_of, text_in, is_word, no_name, barred, with_in, in_arrow}
use Rattle.grammar_spec.specs.Tokens.Operators.{assignment_level}
use Rattle.grammar_spec.specs.Tokens.Shape.{last_tree, last_of}
use Rattle.grammar_spec.specs.Children.{CommaThen, Expr}
use Rattle.grammar_spec.specs.Grammar.{Produces, children}
use Rattle.grammar_laws.proofs.context.Functions.{arrow_head}
use Rattle.grammar_laws.proofs.context.Placed.{move, moves}
use Rattle.grammar_laws.specs.CompleteBase.Laws.{coded, InOrder}
use Rattle.grammar_laws.specs.Laws.{OfLevel}
use Rattle.parse_front_laws.specs.Complete.Laws.{input_at, IsComplete, Expression}
use Rattle.parse_front_laws.specs.Complete.Asyncs.{names_next, takes_name, Worded, FrontsStandAlone}
use Rattle.parse_front_laws.proofs.complete.Cut.{closing, cut, cut_here, cut_front}
use Rattle.parse_front_laws.proofs.complete.Longer.{Before, NoLonger, NoMore, level_of, longer_conditional, longer_assign, longer_yield, longer_yield_all, longer_arrow, longer_sequence, longer_next, longer_last, no_name_next}
use Rattle.parse_front_laws.proofs.complete.Exact.{ends_there}

-- ---- the words of what is to come

words_behind : (f l : List PlacedToken) → Worded (f ++ l) → Worded l
words_behind [] l h = h
words_behind (x ∷ f) l h = words_behind f l h.1

pub behind : (ts m w : Input) → (cut m).Like ts w → Worded ts.places → Worded m.places
behind ts m w k h = let z = cut_front m ts w k in words_behind z.0 m.places (subst (λ v. Worded v) z.1 h)

word_there : (v : List PlacedToken) → Worded v → is_word (kind_of v) ≡ true → text_in (content_of v) ≡ codes "async" → kind_of v ≡ async_kind
word_there [] h w e = absurd (true≢false (sym w))
word_there (x ∷ v) h w e = h.0 w e

abbrev pub cut_end : Input → Input
cut_end m = input_at m.last (closing m.places)

module _ (q : PlacedToken) (beyond : List PlacedToken) (plain : eqb q.spot.token.kind question_mark_kind ≡ false) (p : Bool) (r : Input) (there : Before q beyond plain r) where
  -- the word itself, before such a name
  at_word : (s : Span) (n : List ℕ) (c : Code) (l : ℕ) (ts : Input) → NoLonger q beyond plain l c ts → l ≤ assignment_level → Worded ts.places → Produces (ident s n) (coded p c) ts r → (bytes_eq n (codes "async") && names_next c r) ≡ true → ⊥
  at_word s n c l ts w le a h e =
      let z = and_parts (bytes_eq n (codes "async")) (names_next c r) e in let y = and_parts (not (brk r)) (is_word (kind r) && (not (no_name c.context (kind r)) && not (barred c.context r))) z.1 in
      no_name_next q beyond plain p c l s n ts r w there le h (word_there ts.places a h.0.0 (h.0.3 ∙ (bytes_eq-Decides n (codes "async")).0 z.0)) (not-true (brk r) y.0) y.1

  mutual
    -- the last operand
    pub operand : (t : Tree) (c : Code) (l : ℕ) (ts : Input) → NoLonger q beyond plain l c ts → l ≤ assignment_level → OfLevel l t → Worded ts.places → Produces t (coded p c) ts r → takes_name c t r ≡ true → ⊥
    operand (ident s n) c l ts w le f a h e = at_word s n c l ts w le a h e
    operand (assign_expr s op x b) c l ts w le f a h e =
        let k = cut h.1 in let y = k.take (coded p c) op h.0 h.1 (cut_end h.1) h.5 (cut_here h.1) in let z = move false k x (coded p c) ts h.0 y.0 h.4 y.1 in
        operand b c 2 h.1 (longer_assign q beyond plain p c l s op x b ts r f w h) (omega arith) (inl h.6.0) (behind ts h.1 z.0 z.1 a) h.6.1 e
    operand (cond_expr s x b t) c l ts w le f a h e =
        let k = cut h.3 in let v = k.take (coded p c) colon_kind h.2 h.3 (cut_end h.3) h.7 (cut_here h.3) in let y = move false k b (coded p (with_in c)) h.1 h.2 v.0 h.6.1 v.1 in
        let g = k.take (coded p c) question_mark_kind h.0 h.1 y.0 h.5 y.1 in let z = move false k x (coded p c) ts h.0 g.0 h.4.1 g.1 in
        operand t c 2 h.3 (longer_conditional q beyond plain p c l s x b t ts r f w h) (omega arith) (inl h.8.0) (behind ts h.3 z.0 z.1 a) h.8.1 e
    operand (arrow_expr s ps (block_stmt t ss) i) c l ts w le f a h e = absurd (true≢false (sym e))
    operand (arrow_expr s ps b i) c l ts w le f a h e =
        let z = arrow_head false (cut h.0) i (coded p c) (children ps) (moves false (cut h.0) ps) ts h.0 (cut_end h.0) h.1 (cut_here h.0) in
        operand b (in_arrow i c) 2 h.0 (longer_arrow q beyond plain p c l s ps b i ts r f w h) (omega arith) (inl h.3.0) (behind ts h.0 z.0 z.1 a) h.3.1 e
    operand (yield_expr s absent g) c l ts w le f a h e = absurd (true≢false (sym e))
    operand (yield_expr s x false) c l ts w le f a h e =
        let z = (cut h.0).take_word (coded p c) yield_kind ts h.0 (cut_end h.0) h.2 (cut_here h.0) in
        operand x c 2 h.0 (longer_yield q beyond plain p c l s x ts r f w h) (omega arith) (inl h.4.0) (behind ts h.0 z.0 z.1 a) h.4.1 e
    operand (yield_expr s x true) c l ts w le f a h e =
        let k = cut h.1 in let y = k.take (coded p c) mul_kind h.0 h.1 (cut_end h.1) h.5 (cut_here h.1) in let z = k.take_word (coded p c) yield_kind ts h.0 y.0 h.3 y.1 in
        operand x c 2 h.1 (longer_yield_all q beyond plain p c l s x ts r f w h) (omega arith) (inl h.6.0) (behind ts h.1 z.0 z.1 a) h.6.1 e
    operand _ c l ts w le f a h e = absurd (true≢false (sym e))

  -- the last of some behind commas
  last_operand : (x : Tree) (xs : Trees) (c : Code) (ts : Input) → NoMore q beyond plain c ts → Worded ts.places → CommaThen (Expr 2 (coded p c)) (coded p c) (children (more x xs)) ts r → takes_name c (last_tree (more x xs)) r ≡ true → ⊥
  last_operand x none c ts w a h e =
      let z = (cut h.0).take (coded p c) comma_kind ts h.0 (cut_end h.0) h.2 (cut_here h.0) in
      operand x c 2 h.0 (longer_last q beyond plain p c 2 x ts r w h) (omega arith) (inl h.3.0) (behind ts h.0 z.0 z.1 a) (subst (λ (m : Input). Produces x (coded p c) h.0 m) h.4 h.3.1) e
  last_operand x (more y ys) c ts w a h e =
      let k = cut h.1 in let v = move false k x (coded p c) h.0 h.1 (cut_end h.1) h.3.1 (cut_here h.1) in let z = k.take (coded p c) comma_kind ts h.0 v.0 h.2 v.1 in
      last_operand y ys c h.1 (longer_next q beyond plain p c 2 x y ys ts r w h) (behind ts h.1 z.0 z.1 a) h.4 e

  -- that of a sequence
  of_sequence : (t : Tree) (c : Code) (l : ℕ) (ts : Input) → NoLonger q beyond plain l c ts → l ≤ assignment_level → OfLevel l t → Worded ts.places → Produces t (coded p c) ts r → takes_name c (last_of t) r ≡ true → ⊥
  of_sequence (seq_expr s none) c l ts w le f a h e = absurd h
  of_sequence (seq_expr s (more x none)) c l ts w le f a h e = absurd h
  of_sequence (seq_expr s (more x (more y ys))) c l ts w le f a h e =
      let z = move false (cut h.0) x (coded p c) ts h.0 (cut_end h.0) h.1.1 (cut_here h.0) in
      last_operand y ys c h.0 (longer_sequence q beyond plain p c l s x y ys ts r f w h) (behind ts h.0 z.0 z.1 a) h.2 e
  of_sequence t c l ts w le f a h e = operand t c l ts w le f a h e

module _ (c : Code) (l n : ℕ) (ps : List PlacedToken) (t : Tree) (r : Input) (least : 1 ≤ l) (most : l ≤ 2) (words : Worded ps) (order : InOrder n ps) (g : Expression false l c t (input_at n ps) r) (w : IsComplete (Expression false l c) n ps r.places) where
  named_word : takes_name c (last_of t) r ≡ true → is_word (kind r) ≡ true
  named_word e = by_tree (last_of t) c e
    where
      by_test : (x : Bool) (d : Code) → (x && names_next d r) ≡ true → is_word (kind r) ≡ true
      by_test true d e = (and_parts (is_word (kind r)) (not (no_name d.context (kind r)) && not (barred d.context r)) (and_parts (not (brk r)) (is_word (kind r) && (not (no_name d.context (kind r)) && not (barred d.context r))) e).1).0
      by_test false d e = absurd (true≢false (sym e))

      by_tree : (u : Tree) (d : Code) → takes_name d u r ≡ true → is_word (kind r) ≡ true
      by_tree (ident s m) d e = by_test (bytes_eq m (codes "async")) d e
      by_tree (assign_expr s op x b) d e = by_tree b d e
      by_tree (cond_expr s x b y) d e = by_tree y d e
      by_tree (arrow_expr s xs b i) d e = by_tree b (in_arrow i d) e
      by_tree (yield_expr s x b) d e = by_tree x d e
      by_tree _ d e = absurd (true≢false (sym e))

  before : (v : List PlacedToken) → r.places ≡ v → takes_name c (last_of t) r ≡ true → ⊥
  before [] i e = true≢false (sym (named_word e) ∙ ap (λ z. is_word (kind_of z)) i)
  before (q ∷ beyond) i e =
      let word : is_word q.spot.token.kind ≡ true = sym (ap (λ z. is_word (kind_of z)) i) ∙ named_word e in
      let j = ne_eqb q.spot.token.kind question_mark_kind (λ k. true≢false (sym word ∙ ap is_word k)) in
      of_sequence q beyond j false r i t c l (input_at n ps) (λ o k u v z lv x. ends_there (Expression false l c) q beyond j n ps r.places i order w o k u v z (level_of l u (omega (arith, most)) lv, x)) most (inl g.0) words g.1 e

  stands_alone : takes_name c (last_of t) r ≡ false
  stands_alone = by_test (takes_name c (last_of t) r) refl
    where
      by_test : (b : Bool) → takes_name c (last_of t) r ≡ b → b ≡ false
      by_test true e = absurd (before r.places refl e)
      by_test false e = refl

pub fronts_stand_alone : FrontsStandAlone
fronts_stand_alone c l n ps t r a b words order g w = stands_alone c l n ps t r a b words order g w
