-- What is read is a complete front: a longer one would be cut off behind itself and read whole, and reading it ends before the next token.
use Rattle.std.proofs.Common.{◌≡◌, ◌<◌, ◌≤◌, ◌+◌, ℕ, zero, suc, Bool, true, false, not, ◌&&◌, ◌||◌, ◌==◌, cond, eqb, nat_le, nat_lt, if◌then◌else◌, List, [], ◌∷◌, ◌++◌, length, append_assoc, Result, Ok, Err, inl, inr, refl, sym, ap, ap₂, ◌∙◌, subst, true≢false, arith, eqb-true, ltb-true, ltb-false}
use Rattle.base_token.specs.Kinds.{template_kind, question_mark_kind, dot_kind, hash_kind, in_kind}
use Rattle.tree_spec.specs.Tree.{Tree, none, more}
use Rattle.tree_nesting.specs.Nesting.{nesting}
use Rattle.grammar_spec.specs.Tokens.Input.{PlacedToken, Input, Code, kind, kind_of, has_in, alone, in_list, module_code, lo}
use Rattle.grammar_spec.specs.Tokens.Operators.{goes_expr, closed_end, postfix_end, other_end, call_level, conditional_level, new_level, member_level, binary_level}
use Rattle.grammar_spec.specs.Tokens.Shape.{level, ends, is_key, is_plain_function}
use Rattle.grammar_spec.specs.Children.{is_module_item}
use Rattle.grammar_spec.specs.Grammar.{Produces}
use Rattle.grammar_spec.specs.Reader.Source.{Fault, Unexpected, TooDeep, unexpected, ◌>>=◌, State, Read, input, at, bound, go_on, finished, next_by, iterate_n, iterate, Inner}
use Rattle.grammar_spec.specs.Reader.Expressions.{key_by, private_by, prefix_by, binary_by, step_by, loop_step, loop_by, private_in, expr_from, expr_by}
use Rattle.grammar_spec.specs.Reader.Modules.{item_by}
use Rattle.grammar_spec.specs.Reader.Reading.{readers}
use Rattle.grammar_laws.specs.CompleteBase.Laws.{coded, patterned, InOrder, Follow}
use Rattle.grammar_laws.proofs.complete_base.Yields.{lm, from, After, Yields, Reads, Is}
use Rattle.grammar_laws.proofs.complete_base.Levels.{closed_by}
use Rattle.grammar_laws.proofs.complete_base.Trees.{size, sizes, reach}
use Rattle.grammar_laws.proofs.complete_rules.Functions.{key_found}
use Rattle.grammar_laws.proofs.complete_rules.Nested.{follows}
use Rattle.grammar_laws.proofs.complete_rules.Within.{within}
use Rattle.grammar_laws.proofs.complete_rules.Modules.{module_item}
use Rattle.grammar_laws.proofs.complete_rules.Sources.{in_module}
use Rattle.grammar_laws.proofs.complete.Sizes.{inward, within_reach, items_small, items_reach}
use Rattle.grammar_laws.proofs.complete.Tied.{complete}
use Rattle.grammar_laws.specs.Complete.Laws.{Answered, Level}
use Rattle.grammar_laws.proofs.complete.WholeLemmas.{expressions_complete, patterns_complete}
use Rattle.grammar_laws.proofs.complete.Nests.{reach_nests}
use Rattle.grammar_laws.specs.Laws.{tokens, OfLevel}
use Rattle.grammar_laws.proofs.Sure.{Sure}
use Rattle.grammar_laws.proofs.Nested.{key_sure}
use Rattle.grammar_laws.proofs.ByDepth.{all_sound}
use Rattle.grammar_laws.proofs.Programs.{item_sure}
use Rattle.grammar_laws.proofs.SoundLemmas.{expressions_sound, patterns_sound, statements_sound}
use Rattle.grammar_laws.specs.SteadyLaws.{Keeps}
use Rattle.grammar_laws.proofs.Agrees.{Agrees}
use Rattle.grammar_laws.proofs.SteadyExpressions.{key_by_steady}
use Rattle.grammar_laws.proofs.SteadyModules.{item_by_steady}
use Rattle.grammar_laws.proofs.SteadyLemmas.{readers_steady}
use Rattle.parse_source_laws.specs.Sources.{one}
use Rattle.parse_source_laws.specs.Ahead.{Named, SameNext, Instead, at_list, ReadAhead}
use Rattle.parse_source_laws.proofs.Ahead.{cases, one_ahead}
use Rattle.parse_front_laws.specs.Complete.Laws.{input_at, EndsBefore, EndsAt, IsComplete, OneFront, FrontsAreOne, IsReadBefore, Whatever, Apart, FrontsAreRead, Expression, Binding, Key, Statement, ListItem, ModuleItem, ExpressionsEnd, BindingsEnd, KeysEnd, StatementsEnd, ListItemsEnd, ModuleItemsEnd}
use Rattle.parse_front_laws.proofs.complete.Cut.{brace, closing, cuts_to}

-- ---- lists

abbrev pub behind_first : List PlacedToken → List PlacedToken
behind_first [] = []
behind_first (o ∷ v) = v

abbrev pub head_or : PlacedToken → List PlacedToken → PlacedToken
head_or x [] = x
head_or x (o ∷ v) = o

sums : (a b : List PlacedToken) → length (a ++ b) ≡ length a + length b
sums [] b = omega arith
sums (x ∷ a) b = omega (arith, sums a b)

-- Two ways to cut a list in two, the second further behind.
pub split : (a b c d : List PlacedToken) → a ++ b ≡ c ++ d → length d < length b → (e : List PlacedToken) × (c ≡ a ++ e) × (b ≡ e ++ d)
split [] b c d e h = (c, refl, e)
split (x ∷ a) b [] d e h = absurd (longer d (ap (λ z. length z) e) h)
  where
    longer : (d : List PlacedToken) → length (x ∷ a ++ b) ≡ length d → length d < length b → ⊥
    longer d i h = omega (arith, h, i, sums a b)
split (x ∷ a) b (y ∷ c) d e h = let z = split a b c d (ap behind_first e) h in (z.0, ap₂ (λ (o : PlacedToken) (v : List PlacedToken). o ∷ v) (sym (ap (λ v. head_or x v) e)) z.1, z.2)

-- A list cut off is in order as well.
pub order_cut : (n : ℕ) (f l : List PlacedToken) → InOrder n (f ++ l) → InOrder n (f ++ closing l)
order_cut n [] [] h = tt
order_cut n [] (p ∷ l) h = by_kind (eqb p.spot.token.kind template_kind) (λ e. eqb-true p.spot.token.kind template_kind e) refl
  where
    by_kind : (b : Bool) → (b ≡ true → p.spot.token.kind ≡ template_kind) → eqb p.spot.token.kind template_kind ≡ b → InOrder n (brace p ∷ [])
    by_kind true e i = (h.0, end_least i, (λ k. end_most i), tt)
      where
        end_is : eqb p.spot.token.kind template_kind ≡ true → (brace p).spot.hi ≡ p.spot.lo + 1
        end_is i = ap (λ (b : Bool). if b then p.spot.lo + 1 else p.spot.hi) i

        end_least : eqb p.spot.token.kind template_kind ≡ true → p.spot.lo ≤ (brace p).spot.hi
        end_least i = omega (arith, end_is i)

        end_most : eqb p.spot.token.kind template_kind ≡ true → p.spot.lo < (brace p).spot.hi
        end_most i = omega (arith, end_is i)
    by_kind false e i = (h.0, at_least i, (λ k. at_most i), tt)
      where
        end_is : eqb p.spot.token.kind template_kind ≡ false → (brace p).spot.hi ≡ p.spot.hi
        end_is i = ap (λ (b : Bool). if b then p.spot.lo + 1 else p.spot.hi) i

        no_template : eqb p.spot.token.kind template_kind ≡ false → p.spot.token.kind ≡ template_kind → ⊥
        no_template i k = true≢false (sym (ap (λ (z : ℕ). eqb z template_kind) k) ∙ i)

        at_least : eqb p.spot.token.kind template_kind ≡ false → p.spot.lo ≤ (brace p).spot.hi
        at_least i = omega (arith, end_is i, h.1)

        at_most : eqb p.spot.token.kind template_kind ≡ false → p.spot.lo < (brace p).spot.hi
        at_most i = omega (arith, end_is i, h.2 (no_template i))
order_cut n (x ∷ f) l h = (h.0, h.1, h.2, order_cut x.spot.hi f l h.3)

pub no_shorter : (a b : List PlacedToken) → 1 ≤ length a → a ++ b ≡ b → ⊥
no_shorter a b l m = omega (arith, l, ap (λ z. length z) m, sums a b)

-- ---- answers

-- the rest of an answer
abbrev pub rest_of : List PlacedToken → Result (Tree × State Input) Fault → List PlacedToken
rest_of l (Ok x) = x.1.source.places
rest_of l (Err e) = l

abbrev pub IsRead : (x : Result (Tree × State Input) Fault) → Tree → Input → Type 0
IsRead x t r = (k : List ℕ) × (x ≡ Ok (t, record { source = r; commas = k }))

read_of : (x : Result (Tree × State Input) Fault) (t : Tree) (r : Input) (P : Type 0) → (P → ⊥) → Answered x t r P → IsRead x t r
read_of (Ok x) t r P n h = (x.1.commas, ap₂ (λ (u : Tree) (i : Input). Ok (u, record { source = i; commas = x.1.commas })) h.0 h.1)
read_of (Err (Unexpected k)) t r P n h = absurd h
read_of (Err (TooDeep k)) t r P n h = absurd (n h)

pub reads_of : (n : ℕ) (ps : List PlacedToken) (x : Result (Tree × State Input) Fault) (t : Tree) (r : Input) (P : Type 0) → (P → ⊥) → InOrder n ps → Reads (from (input_at n ps) []) x (Is t r) P → IsRead x t r
reads_of n ps x t r P e o h = by_answer x (h.so (record { order = o; below = λ i k. absurd (true≢false (sym k)) }))
  where
    by_answer : (x : Result (Tree × State Input) Fault) → Yields x (λ y. Is t r y × After (from (input_at n ps) []) y.1) P → IsRead x t r
    by_answer (Ok x) h = read_of (Ok x) t r P e h.so.0
    by_answer (Err (Unexpected k)) h = absurd h.so
    by_answer (Err (TooDeep k)) h = absurd (e h.so)

pub kept_answer : {A : Type 0} (x y : Result A Fault) (a : A) → Agrees x y → x ≡ Ok a → y ≡ Ok a
kept_answer x y a h e = subst (λ z. Keeps z y) e h.so

-- ---- one front

-- Two ways to cut a list in two, as far behind.
pub halves : (a b c d : List PlacedToken) → a ++ b ≡ c ++ d → length b ≡ length d → (a ≡ c) × (b ≡ d)
halves [] b [] d e h = (refl, e)
halves [] b (y ∷ c) d e h = absurd (longer d c (ap (λ z. length z) e) h)
  where
    longer : (d c : List PlacedToken) → length b ≡ length (y ∷ c ++ d) → length b ≡ length d → ⊥
    longer d c i h = omega (arith, i, h, sums c d)
halves (x ∷ a) b [] d e h = absurd (longer a b (ap (λ z. length z) e) h)
  where
    longer : (a b : List PlacedToken) → length (x ∷ a ++ b) ≡ length d → length b ≡ length d → ⊥
    longer a b i h = omega (arith, i, h, sums a b)
halves (x ∷ a) b (y ∷ c) d e h = let z = halves a b c d (ap behind_first e) h in (ap₂ (λ (o : PlacedToken) (v : List PlacedToken). o ∷ v) (ap (λ v. head_or x v) e) z.0, z.1)

abbrev tree_of : Tree → Result (Tree × State Input) Fault → Tree
tree_of t (Ok x) = x.0
tree_of t (Err e) = t

abbrev last_of : Result (Tree × State Input) Fault → ℕ
last_of (Ok x) = x.1.source.last
last_of (Err e) = 0

module _ (f : ℕ → Read Input Tree) (P Q0 : Tree → Input → Input → Type 0) (cut : (t : Tree) (n : ℕ) (ps : List PlacedToken) (r : Input) → P t (input_at n ps) r → (front : List PlacedToken) × (ps ≡ front ++ r.places) × Q0 t (input_at n (front ++ closing r.places)) (input_at r.last (closing r.places)))
    (whole : (d n : ℕ) (ps : List PlacedToken) (t : Tree) (r : Input) → nesting t ≤ d → InOrder n ps → Q0 t (input_at n ps) (input_at r.last (closing r.places)) → IsRead (f d (at_list n ps [])) t (input_at r.last (closing r.places))) where
  no_longer : (n : ℕ) (ps : List PlacedToken) (t : Tree) (r : Input) (o : List PlacedToken) → InOrder n ps → P t (input_at n ps) r → IsComplete P n ps o → length r.places < length o → ⊥
  no_longer n ps t r [] order h b l = omega (arith, l)
  no_longer n ps t r (q ∷ o) order h b l = omega (arith, l, b.2 o t r (subst (λ v. InOrder n v) b.1 order) (subst (λ v. P t (input_at n v) r) b.1 h))

  same_read : (n : ℕ) (ps : List PlacedToken) (t u : Tree) (r o : Input) → InOrder n ps → P t (input_at n ps) r → P u (input_at n ps) o → length r.places ≡ length o.places → (t ≡ u) × (r ≡ o)
  same_read n ps t u r o order h g l =
      let a = cut t n ps r h in let b = cut u n ps o g in let z = halves a.0 r.places b.0 o.places (sym a.1 ∙ b.1) l in let N = nesting t + nesting u in
      let x = whole N n (a.0 ++ closing r.places) t r (omega arith) (order_cut n a.0 r.places (subst (λ v. InOrder n v) a.1 order)) a.2 in
      let y = whole N n (b.0 ++ closing o.places) u o (omega arith) (order_cut n b.0 o.places (subst (λ v. InOrder n v) b.1 order)) b.2 in
      let e = sym x.1 ∙ (ap₂ (λ (v w : List PlacedToken). f N (at_list n (v ++ closing w) [])) z.0 z.1 ∙ y.1) in
      (ap (λ w. tree_of t w) e, ap₂ (λ (m : ℕ) (v : List PlacedToken). input_at m v) (ap last_of e) z.1)

  pub one_front : OneFront P
  one_front n ps t u r o order h g a b = by_length (nat_lt (length r.places) (length o.places)) (nat_lt (length o.places) (length r.places)) refl refl
    where
      by_length : (x y : Bool) → nat_lt (length r.places) (length o.places) ≡ x → nat_lt (length o.places) (length r.places) ≡ y → (t ≡ u) × (r ≡ o)
      by_length true y i j = absurd (no_longer n ps t r o.places order h b (ltb-true (length r.places) (length o.places) i))
      by_length false true i j = absurd (no_longer n ps u o r.places order g a (ltb-true (length o.places) (length r.places) j))
      by_length false false i j = same_read n ps t u r o order h g (omega (arith, ltb-false (length r.places) (length o.places) i, ltb-false (length o.places) (length r.places) j))

-- ---- the argument

module _ (f : ℕ → Read Input Tree) (Q : Tree → List PlacedToken → List PlacedToken → Type 0) (ahead : (d : ℕ) → ReadAhead Q (f d)) (steady : (d e : ℕ) → d ≤ e → (s : State Input) (x : Tree × State Input) → f d s ≡ Ok x → f e s ≡ Ok x)
    (P : Tree → Input → Input → Type 0) (Q0 : Tree → Input → Input → Type 0) (cut : (t : Tree) (n : ℕ) (ps : List PlacedToken) (r : Input) → P t (input_at n ps) r → (front : List PlacedToken) × (ps ≡ front ++ r.places) × Q0 t (input_at n (front ++ closing r.places)) (input_at r.last (closing r.places)))
    (whole : (d n : ℕ) (ps : List PlacedToken) (t : Tree) (r : Input) → nesting t ≤ d → InOrder n ps → Q0 t (input_at n ps) (input_at r.last (closing r.places)) → IsRead (f d (at_list n ps [])) t (input_at r.last (closing r.places))) where
  ends_before : (d n : ℕ) (front : List PlacedToken) (q : PlacedToken) (ps : List PlacedToken) (t : Tree) (r : State Input) → r.source.places ≡ q ∷ ps → ((e : ℕ) → d ≤ e → (qs : List PlacedToken) → Q t r.source.places qs → f e (at_list n (front ++ qs) []) ≡ Ok (t, at_list r.source.last qs r.commas))
      → ((qs : List PlacedToken) → one r.source.places ≡ one qs → Q t r.source.places qs) → EndsBefore P n front q
  ends_before d n front q ps t r i go rests others u o order h = by_length (nat_lt (length others) (length o.places)) refl
    where
      by_length : (b : Bool) → nat_lt (length others) (length o.places) ≡ b → length others < length o.places
      by_length true j = ltb-true (length others) (length o.places) j
      by_length false j = absurd (false_front (cut u n (front ++ q ∷ others) o h))
        where
          short : length o.places < length (q ∷ others)
          short = omega (arith, ltb-false (length others) (length o.places) j)

          -- a longer front, cut off, is read whole and not
          clash : (g e : List PlacedToken) → g ≡ front ++ e → q ∷ others ≡ e ++ o.places → Q0 u (input_at n (g ++ closing o.places)) (input_at o.last (closing o.places)) → InOrder n (g ++ closing o.places) → ⊥
          clash g [] k v c w = omega (arith, short, ap (λ z. length z) v)
          clash g (x ∷ e) k v c w = let N = d + nesting u in let qs = x ∷ e ++ closing o.places in
              let a = go N (omega arith) qs (rests qs (ap one i ∙ ap (λ z. head_or q z ∷ []) v)) in
              let b = whole N n (g ++ closing o.places) u o (omega arith) w c in
              no_shorter (x ∷ e) (closing o.places) (omega arith) (sym (ap (λ z. rest_of [] z) (ap (λ z. f N (at_list n z [])) (ap (λ z. z ++ closing o.places) k ∙ append_assoc front (x ∷ e) (closing o.places)) ∙ a)) ∙ ap (λ z. rest_of [] z) b.1)

          false_front : (g : List PlacedToken) × (front ++ q ∷ others ≡ g ++ o.places) × Q0 u (input_at n (g ++ closing o.places)) (input_at o.last (closing o.places)) → ⊥
          false_front z = let e = split front (q ∷ others) z.0 o.places z.1 short in
              clash z.0 e.0 e.1 e.2 z.2 (order_cut n z.0 o.places (subst (λ v. InOrder n v) z.1 order))

  pub completed : (d n : ℕ) (ps : List PlacedToken) (t : Tree) (r : State Input) → Named ps → f d (at_list n ps []) ≡ Ok (t, r) → ((qs : List PlacedToken) → one r.source.places ≡ one qs → Q t r.source.places qs) → IsComplete P n ps r.source.places
  completed d n ps t r a e rests = let z = ahead d n ps [] t r a e in (z.0, z.1, by_rest z.0 z.1 r.source.places refl)
    where
      by_rest : (front : List PlacedToken) → ps ≡ front ++ r.source.places → (l : List PlacedToken) → r.source.places ≡ l → EndsAt P n front r.source.places
      by_rest front k [] i = subst (λ v. EndsAt P n front v) (sym i) tt
      by_rest front k (q ∷ l) i = subst (λ v. EndsAt P n front v) (sym i) (ends_before d n front q l t r i (λ N le qs o. again N le qs o) rests)
        where
          again : (N : ℕ) → d ≤ N → (qs : List PlacedToken) → Q t r.source.places qs → f N (at_list n (front ++ qs) []) ≡ Ok (t, at_list r.source.last qs r.commas)
          again N le qs o = let y = ahead N n ps [] t r a (steady d N le (at_list n ps []) (t, r) e) in
              subst (λ v. f N (at_list n (v ++ qs) []) ≡ Ok (t, at_list r.source.last qs r.commas)) (halves y.0 r.source.places front r.source.places (sym y.1 ∙ k) refl).0 (y.2 qs o)

-- ---- the loop of an expression ends where nothing goes on

module _ (c : Code) (l : ℕ) where
  abbrev QuitBy : Result (Tree × State Input) Fault → Type 0
  QuitBy (Ok x) = nat_lt (goes_expr c (ends x.0) (input lm x.1)) l ≡ true
  QuitBy (Err e) = Unit {0}

  pub record Quit (x : Result (Tree × State Input) Fault) : Type 0 where
    pub so : QuitBy x

  quit_then : {A : Type 0} (x : Result A Fault) (f : A → Result (Tree × State Input) Fault) → ((a : A) → Quit (f a)) → Quit (x >>= f)
  quit_then (Ok a) f h = h a
  quit_then (Err e) f h = record { so = tt }

  quit_if : (b : Bool) (x y : Result (Tree × State Input) Fault) → (b ≡ true → Quit x) → (b ≡ false → Quit y) → Quit (cond b x y)
  quit_if true x y h n = h refl
  quit_if false x y h n = n refl

  module _ (inner : Inner Input) (start : ℕ) where
    turned : (n : ℕ) (k : ℕ) → ((x : Tree) (s : State Input) → Quit (iterate_n (bound lm) n (loop_step lm inner c l start) x s)) → (x : Result (Tree × State Input) Fault) → Quit ((x >>= λ y. Ok (go_on y.0, y.1)) >>= next_by (bound lm) (iterate_n (bound lm) n (loop_step lm inner c l start)) k)
    turned n k h (Ok x) = quit_if (nat_lt (bound lm x.1) k) _ _ (λ e. h x.0 x.1) (λ e. record { so = tt })
    turned n k h (Err e) = record { so = tt }

    quit_loop : (n : ℕ) (x : Tree) (s : State Input) → Quit (iterate_n (bound lm) n (loop_step lm inner c l start) x s)
    unfolding iterate_n loop_step
    quit_loop zero x s = record { so = tt }
    quit_loop (suc n) x s = by_test (λ x s. quit_loop n x s) (nat_lt (goes_expr c (ends x) (input lm s)) l) refl
      where
        by_test : ((x : Tree) (s : State Input) → Quit (iterate_n (bound lm) n (loop_step lm inner c l start) x s)) → (b : Bool) → nat_lt (goes_expr c (ends x) (input lm s)) l ≡ b
            → Quit (cond b (Ok (finished x, s)) (step_by lm inner c start x s >>= λ y. Ok (go_on y.0, y.1)) >>= next_by (bound lm) (iterate_n (bound lm) n (loop_step lm inner c l start)) (bound lm s))
        by_test h true e = record { so = e }
        by_test h false e = turned n (bound lm s) h (step_by lm inner c start x s)

    loop_quits : eqb l member_level ≡ false → (x : Tree) (s : State Input) → Quit (loop_by lm inner c l start x s)
    unfolding loop_by iterate
    loop_quits e x s = quit_if (nat_le l (level x)) _ _ (λ i. quit_loop _ x s) (λ i. by_level (level x == new_level) (eqb l member_level) e)
      where
        by_level : (a b : Bool) → b ≡ false → Quit (cond (a && b) (Ok (x, s)) (unexpected lm s))
        by_level true true e = absurd (true≢false e)
        by_level true false e = record { so = tt }
        by_level false b e = record { so = tt }

  expr_quits : (inner : Inner Input) → eqb l member_level ≡ false → (s : State Input) → Quit (expr_by lm inner c l s)
  unfolding expr_by expr_from private_in
  expr_quits inner e s = quit_if (at lm hash_kind s) _ _ (λ i. quit_then (private_by lm inner s) _ (λ p. quit_if (at lm in_kind p.1 && (has_in c && nat_le l (binary_level in_kind))) _ _ (λ j. quit_then (binary_by lm inner c (lo (input lm s)) p.0 p.1) _ (λ t. loop_quits inner (lo (input lm s)) e t.0 t.1)) (λ j. record { so = tt })))
      (λ i. quit_then (prefix_by lm inner c l s) _ (λ t. loop_quits inner (lo (input lm s)) e t.0 t.1))

  pub readers_quit : (d : ℕ) → eqb l member_level ≡ false → (s : State Input) → Quit ((readers lm d).expr c l s)
  unfolding readers
  readers_quit zero e s = record { so = tt }
  readers_quit (suc d) e s = expr_quits (readers lm d) e s

-- What isn't closed goes on with `?`.
asked : (b : Bool) → 3 ≤ (if b then call_level else conditional_level)
asked true = omega arith
asked false = omega arith

pub question_goes : (c : Code) (e n : ℕ) (ps : List PlacedToken) → nat_le closed_end e ≡ false → kind_of ps ≡ question_mark_kind → 3 ≤ goes_expr c e (input_at n ps)
question_goes c e n [] i k = absurd (true≢false (sym (ap (λ (z : ℕ). eqb z question_mark_kind) k)))
question_goes c e n (p ∷ ps) i k = subst (λ (z : ℕ). 3 ≤ goes_expr c e (input_at n (record p { spot = record p.spot { token = record p.spot.token { kind = z } } } ∷ ps))) (sym k)
    (by_class (nat_le closed_end e) i)
  where
    by_class : (b : Bool) → b ≡ false → 3 ≤ cases false b false true (if (kind_of ps == dot_kind) && (e == other_end) then call_level else conditional_level) 0
    by_class true o = absurd (true≢false o)
    by_class false o = asked ((kind_of ps == dot_kind) && (e == other_end))

-- ---- expressions

none_goes : (a b : Bool) → ◌≡◌ {A = ℕ} (if a then 0 else (if b then 0 else 0)) 0
none_goes true b = refl
none_goes false true = refl
none_goes false false = refl

pub follow_by : (c : Code) (e l n : ℕ) (ps : List PlacedToken) → 1 ≤ l → Follow c e l (input_at n (closing ps))
follow_by c e l n [] h = let z = none_goes (nat_le closed_end e) (nat_le postfix_end e) in record { stop = omega (arith, z, h); calm = λ i o. refl; sober = refl; quits = λ o. refl }
follow_by c e l n (p ∷ ps) h = closed_by c e l 12 (input_at n (brace p ∷ [])) refl refl refl h

level_of : (l : ℕ) → 1 ≤ l → l ≤ 2 → Level l
level_of l a b = record { least = a; most = omega (arith, b); asked = record { conditional = λ e. omega (arith, b, e); update = λ e. omega (arith, b, e) } }

pub no_member : (l : ℕ) → l ≤ 2 → eqb l member_level ≡ false
no_member l h = by_test (eqb l member_level) (λ e. eqb-true l member_level e)
  where
    by_test : (b : Bool) → (b ≡ true → l ≡ member_level) → b ≡ false
    by_test true e = absurd (omega (arith, e refl, h))
    by_test false e = refl

pub cut_expression : (placed : Bool) (l : ℕ) (c : Code) (t : Tree) (n : ℕ) (ps : List PlacedToken) (r : Input) → Expression placed l c t (input_at n ps) r → (front : List PlacedToken) × (ps ≡ front ++ r.places) × Expression false l c t (input_at n (front ++ closing r.places)) (input_at r.last (closing r.places))
cut_expression placed l c t n ps r h = let z = cuts_to t (coded placed c) (input_at n ps) r h.1 in (z.0, z.1, (h.0, z.2))

pub expression_is_read : (placed : Bool) (l : ℕ) → 1 ≤ l → l ≤ 2 → (c : Code) → IsReadBefore (λ t r. Follow c (ends t) l r) (λ d s. (readers lm d).expr c l s) (Expression placed l c)
expression_is_read placed l a b c d n ps t r h o g w = read_of _ t r (d < nesting t) (λ i. omega (arith, i, h)) (expressions_complete d placed c l t (input_at n ps) r o (level_of l a b) (record { produced = g.1; tight = g.0; follow = w }))

pub whole_expression : (l : ℕ) → 1 ≤ l → l ≤ 2 → (c : Code) (d n : ℕ) (ps : List PlacedToken) (t : Tree) (r : Input) → nesting t ≤ d → InOrder n ps → Expression false l c t (input_at n ps) (input_at r.last (closing r.places)) → IsRead ((readers lm d).expr c l (at_list n ps [])) t (input_at r.last (closing r.places))
whole_expression l a b c d n ps t r h o g = expression_is_read false l a b c d n ps t (input_at r.last (closing r.places)) h o g (follow_by c (ends t) l r.last r.places a)

pub of_level : (l : ℕ) (t : Tree) → l ≤ 2 → OfLevel l t → l ≤ level t
of_level l t b (inl h) = h
of_level l t b (inr h) = absurd (omega (arith, b, h.0))

pub expressions_end : ExpressionsEnd
expressions_end depth placed c l n ps t r a b named order e settled =
    let quit = ltb-true (goes_expr c (ends t) r.source) l ((subst (λ z. Quit c l z) e (readers_quit c l depth (no_member l b) (at_list n ps []))).so) in
    let sound = expressions_sound depth c l (at_list n ps []) t r a e in (
      (of_level l t b sound.0, sound.1),
      completed (λ d s. (readers lm d).expr c l s) Instead (λ d. (one_ahead d c).expressions l) (λ d e h s x i. kept_answer _ _ x ((readers_steady lm d e h).expr c l s) i) (Expression placed l c) (Expression false l c) (cut_expression placed l c)
          (whole_expression l a b c)
          depth n ps t r named e
          (λ qs i. record { next = i; question = λ o k. absurd (omega (arith, b, quit, question_goes c (ends t) r.source.last r.source.places o k)); word = λ o k m v. absurd (settled k m v) }),
      quit,
    )

-- ---- bindings, keys, statements

cut_binding : (placed : Bool) (c : Code) (t : Tree) (n : ℕ) (ps : List PlacedToken) (r : Input) → Binding placed c t (input_at n ps) r → (front : List PlacedToken) × (ps ≡ front ++ r.places) × Binding false c t (input_at n (front ++ closing r.places)) (input_at r.last (closing r.places))
cut_binding placed c t n ps r h = let z = cuts_to t (patterned placed c) (input_at n ps) r h.1 in (z.0, z.1, (h.0, z.2))

pub binding_is_read : (placed : Bool) (c : Code) → IsReadBefore Whatever (λ d s. (readers lm d).pat c s) (Binding placed c)
binding_is_read placed c d n ps t r h o g w = read_of _ t r (d < nesting t) (λ i. omega (arith, i, h)) (patterns_complete d placed c t (input_at n ps) r o (record { binding = g.0; produced = g.1 }))

whole_binding : (c : Code) (d n : ℕ) (ps : List PlacedToken) (t : Tree) (r : Input) → nesting t ≤ d → InOrder n ps → Binding false c t (input_at n ps) (input_at r.last (closing r.places)) → IsRead ((readers lm d).pat c (at_list n ps [])) t (input_at r.last (closing r.places))
whole_binding c d n ps t r h o g = binding_is_read false c d n ps t (input_at r.last (closing r.places)) h o g tt

pub bindings_end : BindingsEnd
bindings_end depth placed c n ps t r named order e = (
  patterns_sound depth c (at_list n ps []) t r e,
  completed (λ d s. (readers lm d).pat c s) SameNext (λ d. (one_ahead d c).bindings) (λ d e h s x i. kept_answer _ _ x ((readers_steady lm d e h).pat c s) i) (Binding placed c) (Binding false c) (cut_binding placed c)
      (whole_binding c)
      depth n ps t r named e (λ qs i. i),
)

cut_key : (placed : Bool) (c : Code) (t : Tree) (n : ℕ) (ps : List PlacedToken) (r : Input) → Key placed c t (input_at n ps) r → (front : List PlacedToken) × (ps ≡ front ++ r.places) × Key false c t (input_at n (front ++ closing r.places)) (input_at r.last (closing r.places))
cut_key placed c t n ps r h = let z = cuts_to t (coded placed c) (input_at n ps) r h.1 in (z.0, z.1, (h.0, z.2))

pub key_is_read : (placed : Bool) (c : Code) → IsReadBefore Whatever (λ d s. key_by lm (readers lm d) c s) (Key placed c)
key_is_read placed c d n ps t r h o g w = reads_of n ps _ t r (d < within reach t) (λ i. omega (arith, i, h, within_reach t, reach_nests t)) o (key_found (complete (suc (size t)) d) placed c t (input_at n ps) r [] g.0 (inward (suc (size t)) t (omega arith)) g.1)

whole_key : (c : Code) (d n : ℕ) (ps : List PlacedToken) (t : Tree) (r : Input) → nesting t ≤ d → InOrder n ps → Key false c t (input_at n ps) (input_at r.last (closing r.places)) → IsRead (key_by lm (readers lm d) c (at_list n ps [])) t (input_at r.last (closing r.places))
whole_key c d n ps t r h o g = key_is_read false c d n ps t (input_at r.last (closing r.places)) h o g tt

pub keys_end : KeysEnd
keys_end depth placed c n ps t r named order e = (
  (subst (λ z. Sure [] z (λ x. (is_key x.0 ≡ true) × Produces x.0 (tokens c) (input_at n ps) (input lm x.1))) e (key_sure (readers lm depth) (all_sound depth) c (at_list n ps []))).so.1,
  completed (λ d s. key_by lm (readers lm d) c s) SameNext (λ d. (one_ahead d c).keys) (λ d e h s x i. kept_answer _ _ x (key_by_steady lm (readers lm d) (readers lm e) (readers_steady lm d e h) c s) i) (Key placed c) (Key false c) (cut_key placed c)
      (whole_key c)
      depth n ps t r named e (λ qs i. i),
)

follows_by : (t : Tree) (n : ℕ) (ps : List PlacedToken) → Apart t (input_at n (closing ps))
follows_by t n [] = refl
follows_by t n (p ∷ ps) = refl

cut_statement : (placed : Bool) (c : Code) (t : Tree) (n : ℕ) (ps : List PlacedToken) (r : Input) → Statement placed c t (input_at n ps) r → (front : List PlacedToken) × (ps ≡ front ++ r.places) × Statement false c t (input_at n (front ++ closing r.places)) (input_at r.last (closing r.places))
cut_statement placed c t n ps r h = let z = cuts_to t (coded placed (alone c)) (input_at n ps) r h.1 in (z.0, z.1, (h.0, z.2))

statement_is_read : (placed : Bool) (c : Code) → IsReadBefore Apart (λ d s. (readers lm d).stmt (alone c) s) (Statement placed c)
statement_is_read placed c d n ps t r h o g w = reads_of n ps _ t r (d < reach t) (λ i. omega (arith, i, h, reach_nests t)) o ((complete (suc (size t)) d).stmt t placed (alone c) (input_at n ps) r [] (omega arith) (ap (λ (b : Bool). b || is_plain_function t) g.0) g.1 (follows c.context t r (ap not w)))

whole_statement : (c : Code) (d n : ℕ) (ps : List PlacedToken) (t : Tree) (r : Input) → nesting t ≤ d → InOrder n ps → Statement false c t (input_at n ps) (input_at r.last (closing r.places)) → IsRead ((readers lm d).stmt (alone c) (at_list n ps [])) t (input_at r.last (closing r.places))
whole_statement c d n ps t r h o g = statement_is_read false c d n ps t (input_at r.last (closing r.places)) h o g (follows_by t r.last r.places)

pub statements_end : StatementsEnd
statements_end depth placed c n ps t r named order e is = (
  (is, (statements_sound depth (alone c) (at_list n ps []) t r e).1),
  completed (λ d s. (readers lm d).stmt (alone c) s) SameNext (λ d. (one_ahead d (alone c)).statements) (λ d e h s x i. kept_answer _ _ x ((readers_steady lm d e h).stmt (alone c) s) i) (Statement placed c) (Statement false c) (cut_statement placed c)
      (whole_statement c)
      depth n ps t r named e (λ qs i. i),
)

cut_item : (placed : Bool) (c : Code) (t : Tree) (n : ℕ) (ps : List PlacedToken) (r : Input) → ListItem placed c t (input_at n ps) r → (front : List PlacedToken) × (ps ≡ front ++ r.places) × ListItem false c t (input_at n (front ++ closing r.places)) (input_at r.last (closing r.places))
cut_item placed c t n ps r h = let z = cuts_to t (coded placed (in_list c)) (input_at n ps) r h.1 in (z.0, z.1, (h.0, z.2))

item_is_read : (placed : Bool) (c : Code) → IsReadBefore Apart (λ d s. (readers lm d).stmt (in_list c) s) (ListItem placed c)
item_is_read placed c d n ps t r h o g w = reads_of n ps _ t r (d < reach t) (λ i. omega (arith, i, h, reach_nests t)) o ((complete (suc (size t)) d).stmt t placed (in_list c) (input_at n ps) r [] (omega arith) g.0 g.1 (follows c.context t r (ap not w)))

whole_item : (c : Code) (d n : ℕ) (ps : List PlacedToken) (t : Tree) (r : Input) → nesting t ≤ d → InOrder n ps → ListItem false c t (input_at n ps) (input_at r.last (closing r.places)) → IsRead ((readers lm d).stmt (in_list c) (at_list n ps [])) t (input_at r.last (closing r.places))
whole_item c d n ps t r h o g = item_is_read false c d n ps t (input_at r.last (closing r.places)) h o g (follows_by t r.last r.places)

pub list_items_end : ListItemsEnd
list_items_end depth placed c n ps t r named order e = (
  statements_sound depth (in_list c) (at_list n ps []) t r e,
  completed (λ d s. (readers lm d).stmt (in_list c) s) SameNext (λ d. (one_ahead d (in_list c)).statements) (λ d e h s x i. kept_answer _ _ x ((readers_steady lm d e h).stmt (in_list c) s) i) (ListItem placed c) (ListItem false c) (cut_item placed c)
      (whole_item c)
      depth n ps t r named e (λ qs i. i),
)

cut_module_item : (placed : Bool) (c : Code) (t : Tree) (n : ℕ) (ps : List PlacedToken) (r : Input) → ModuleItem placed c t (input_at n ps) r → (front : List PlacedToken) × (ps ≡ front ++ r.places) × ModuleItem false c t (input_at n (front ++ closing r.places)) (input_at r.last (closing r.places))
cut_module_item placed c t n ps r h = let z = cuts_to t (coded placed (in_list c)) (input_at n ps) r h.1 in (z.0, z.1, (h.0, z.2))

module_item_is_read : (placed : Bool) (c : Code) → IsReadBefore Apart (λ d s. item_by lm (readers lm d) true (in_list c) s) (ModuleItem placed c)
module_item_is_read placed c d n ps t r h o g w = reads_of n ps _ t r (d < in_module reach t) (λ i. omega (arith, i, h, items_reach (more t none), reach_nests t)) o
    (module_item (complete (suc (sizes (more t none))) d) placed t c (input_at n ps) r [] g.0 (items_small (suc (sizes (more t none))) (more t none) (omega arith)).0 g.1 (follows c.context t r (ap not w)))

whole_module_item : (c : Code) (d n : ℕ) (ps : List PlacedToken) (t : Tree) (r : Input) → nesting t ≤ d → InOrder n ps → ModuleItem false c t (input_at n ps) (input_at r.last (closing r.places)) → IsRead (item_by lm (readers lm d) true (in_list c) (at_list n ps [])) t (input_at r.last (closing r.places))
whole_module_item c d n ps t r h o g = module_item_is_read false c d n ps t (input_at r.last (closing r.places)) h o g (follows_by t r.last r.places)

pub module_items_end : ModuleItemsEnd
module_items_end depth placed syntax n ps t r named order e = let c = in_list (module_code syntax) in (
  (subst (λ z. Sure [] z (λ x. (is_module_item x.0 ≡ true) × Produces x.0 (tokens c) (input_at n ps) (input lm x.1))) e (item_sure (readers lm depth) (all_sound depth) true (module_code syntax) (at_list n ps []))).so.1,
  completed (λ d s. item_by lm (readers lm d) true c s) SameNext (λ d. (one_ahead d c).items) (λ d e h s x i. kept_answer _ _ x (item_by_steady lm (readers lm d) (readers lm e) (readers_steady lm d e h) true c s) i) (ModuleItem placed (module_code syntax)) (ModuleItem false (module_code syntax)) (cut_module_item placed (module_code syntax))
      (whole_module_item (module_code syntax))
      depth n ps t r named e (λ qs i. i),
)

-- ---- one of each

pub fronts_are_one : FrontsAreOne
fronts_are_one placed c = record {
  expressions = λ l a b. one_front (λ d s. (readers lm d).expr c l s) (Expression placed l c) (Expression false l c) (cut_expression placed l c) (whole_expression l a b c);
  bindings = one_front (λ d s. (readers lm d).pat c s) (Binding placed c) (Binding false c) (cut_binding placed c) (whole_binding c);
  keys = one_front (λ d s. key_by lm (readers lm d) c s) (Key placed c) (Key false c) (cut_key placed c) (whole_key c);
  statements = one_front (λ d s. (readers lm d).stmt (alone c) s) (Statement placed c) (Statement false c) (cut_statement placed c) (whole_statement c);
  list_items = one_front (λ d s. (readers lm d).stmt (in_list c) s) (ListItem placed c) (ListItem false c) (cut_item placed c) (whole_item c);
  module_items = one_front (λ d s. item_by lm (readers lm d) true (in_list c) s) (ModuleItem placed c) (ModuleItem false c) (cut_module_item placed c) (whole_module_item c);
}

-- ---- each is read

pub fronts_are_read : FrontsAreRead
fronts_are_read placed c = record {
  expressions = λ l a b. expression_is_read placed l a b c;
  bindings = binding_is_read placed c;
  keys = key_is_read placed c;
  statements = statement_is_read placed c;
  list_items = item_is_read placed c;
  module_items = module_item_is_read placed c;
}
