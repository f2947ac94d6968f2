-- What is read as parameters without their parentheses is derived from a complete front.
use Rattle.std.proofs.Common.{◌≡◌, ◌<◌, ◌≤◌, ◌+◌, ℕ, suc, Bool, true, false, not, ◌&&◌, ◌==◌, eqb, nat_lt, List, [], ◌∷◌, ◌++◌, length, append_assoc, Result, Ok, Err, inl, inr, refl, sym, ap, ap₂, ◌∙◌, subst, ⊎_elim, true≢false, arith, ltb-true, ltb-false}
use Rattle.std.proofs.lemmas.Bool.{and_left}
use Rattle.base_token.specs.Kinds.{comma_kind, assign_kind, question_mark_kind}
use Rattle.tree_spec.specs.Tree.{Tree, Trees, none, more, pack, unpack, list, param, rest_pat, assign_pat, ident, assign_expr, cond_expr, arrow_expr, yield_expr}
use Rattle.tree_spec.proofs.PackLemmas.{pack_unpack}
use Rattle.tree_nesting.specs.Nesting.{nesting}
use Rattle.grammar_spec.specs.Tokens.Input.{PlacedToken, Input, Code, kind, kind_of, with_in, in_arrow}
use Rattle.grammar_spec.specs.Tokens.Operators.{goes_expr, may_name, assignment_level}
use Rattle.grammar_spec.specs.Tokens.Shape.{ends, is_param, is_rest, last_tree}
use Rattle.grammar_spec.specs.Children.{IsEmpty}
use Rattle.grammar_spec.specs.Grammar.{Produces, children}
use Rattle.grammar_laws.proofs.context.Kin.{Kin}
use Rattle.grammar_laws.proofs.context.Placed.{move}
use Rattle.grammar_spec.specs.Reader.Source.{Fault, Unexpected, TooDeep, State, Inner, at, bound, iterate_n, iterate}
use Rattle.grammar_spec.specs.Reader.Expressions.{is_rest_param}
use Rattle.grammar_spec.specs.Reader.Reading.{readers}
use Rattle.grammar_laws.specs.CompleteBase.Laws.{coded, InOrder}
use Rattle.grammar_laws.proofs.complete_base.Yields.{lm, from, After, Yields, Reads, Is}
use Rattle.grammar_laws.proofs.complete_base.Trees.{covered, size, sizes, reach, no_kind}
use Rattle.grammar_laws.proofs.complete_rules.Finds.{lasts}
use Rattle.grammar_laws.proofs.complete_rules.Functions.{empty_none}
use Rattle.grammar_laws.proofs.complete_rules.Lists.{two_asked}
use Rattle.grammar_laws.proofs.complete_rules.Within.{ItemIn, Within, withins}
use Rattle.grammar_laws.proofs.complete.Sizes.{Small, inwards, withins_reach}
use Rattle.grammar_laws.proofs.complete.Tied.{known, complete}
use Rattle.grammar_laws.proofs.complete.Nests.{reach_nests}
use Rattle.grammar_laws.proofs.Agrees.{Agrees, Steady, agree_same, agree_then, agree_if, agree_by, agree_iterate}
use Rattle.grammar_laws.proofs.SteadyExpressions.{parameter_by_steady}
use Rattle.grammar_laws.proofs.SteadyLemmas.{readers_steady}
use Rattle.parse_source_laws.specs.Sources.{one}
use Rattle.parse_source_laws.specs.Ahead.{ends_async, Named, heads, at_list}
use Rattle.parse_front_laws.specs.Complete.Laws.{input_at, EndsBefore, EndsAt, IsComplete}
use Rattle.parse_front_laws.specs.Complete.Asyncs.{takes_name}
use Rattle.parse_front_laws.proofs.complete.Fronts.{head_or, split, halves, order_cut, no_shorter, kept_answer, Quit, readers_quit, question_goes, follow_by}
use Rattle.parse_front_laws.proofs.complete.Cut.{closing, cut, cut_here, cut_like}
use Rattle.parse_front_laws.proofs.complete.Onto.{Onto, onto, goes_alike}
use Rattle.parse_front_laws.proofs.complete.Asyncs.{kept, kept_leads, last_self, takes_alike, arrow_or, arrow_mild, arrow_order, arrow_heads, order_with, named_with}
use Rattle.parse_alone.specs.Ends.{initial_of, last_initial}
use Rattle.parse_alone.specs.Parts.{starts_param, bare_step, bare_by}
use Rattle.parse_front_laws.specs.Parameters.{ParameterList, Parameters, ParametersEnd}
use Rattle.parse_front_laws.proofs.Ahead.{Bare, bare_more, bare_end, Onward, Valued, ReadAll, read_all}
use Rattle.parse_front_laws.proofs.Found.{starts, Fits, FitsParam, Knows, bare_found}

-- ---- what is derived, with or without a comma last

none_empty : (xs : Trees) → xs ≡ none → IsEmpty (children xs)
none_empty xs e = subst (λ (ys : Trees). IsEmpty (children ys)) (sym e) tt

pub to_list : (c : Code) (b : Bool) (xs : Trees) (ts r : Input) → Bare c b xs ts r → ParameterList c (children xs) ts r
to_list c true none ts r h = h
to_list c false none ts r h = absurd h
to_list c b (more x xs) ts r h = (h.0, (h.1, h.2), ⊎_elim (λ v. inl (v.0, v.1, v.2, to_list c b xs v.1 r v.3)) (λ v. inr (none_empty xs v.1, v.2)) h.3)

pub of_list : (c : Code) (xs : Trees) (ts r : Input) → ParameterList c (children xs) ts r → (b : Bool) × Bare c b xs ts r
of_list c none ts r h = (true, h)
of_list c (more x xs) ts r h = ⊎_elim (λ v. let z = of_list c xs v.1 r v.3 in (z.0, bare_more c z.0 x xs ts h.0 v.1 r h.1.0 h.1.1 v.0 v.2 z.1))
    (λ v. (false, bare_end c false x xs ts r refl (empty_none xs v.0) h.1.0 (subst (λ (m : Input). Produces x c ts m) v.1 h.1.1))) h.2

pub bare_moves : (kin : Kin false) (p : Bool) (c : Code) (b : Bool) (xs : Trees) (ts r o : Input) → Bare (coded p c) b xs ts r → kin.Like r o → (w : Input) × kin.Like ts w × Bare (coded false c) b xs w o
bare_moves kin p c true none ts r o h l = (o, subst (λ (y : Input). kin.Like y o) (sym h) l, refl)
bare_moves kin p c false none ts r o h l = absurd h
bare_moves kin p c b (more x xs) ts r o h l = ⊎_elim
    (λ v. let z = bare_moves kin p c b xs v.1 r o v.3 l in let y = kin.take (coded p c) comma_kind h.0 v.1 z.0 v.2 z.1 in let w = move false kin x (coded p c) ts h.0 y.0 h.2 y.1 in
    (w.0, w.1, bare_more (coded false c) b x xs w.0 y.0 z.0 o h.1 w.2 v.0 y.2 z.2))
    (λ v. let w = move false kin x (coded p c) ts h.0 o h.2 (subst (λ (y : Input). kin.Like y o) (sym v.2) l) in (w.0, w.1, bare_end (coded false c) b x xs w.0 o v.0 v.1 h.1 w.2)) h.3

-- a rest cut off
pub cut_parameters : (placed : Bool) (c : Code) (xs : Trees) (n : ℕ) (ps : List PlacedToken) (r : Input) → Parameters placed c (list xs) (input_at n ps) r → (front : List PlacedToken) × (ps ≡ front ++ r.places) × Parameters false c (list xs) (input_at n (front ++ closing r.places)) (input_at r.last (closing r.places))
cut_parameters placed c xs n ps r h =
    let b = of_list (coded placed c) xs (input_at n ps) r h in
    let z = bare_moves (cut r) placed c b.0 xs (input_at n ps) r (input_at r.last (closing r.places)) b.1 (cut_here r) in
    let l = cut_like r (input_at n ps) z.0 z.1 in
    (l.0, l.1, subst (λ (v : Input). ParameterList (coded false c) (children xs) v (input_at r.last (closing r.places))) l.2 (to_list (coded false c) b.0 xs z.0 (input_at r.last (closing r.places)) z.2))

-- ---- what is derived is read

abbrev pub Listed : Type 0
Listed = Result (List Tree × State Input) Fault

abbrev pub IsListed : Listed → Trees → Input → Type 0
IsListed x xs r = (k : List ℕ) × (x ≡ Ok (unpack xs, record { source = r; commas = k }))

listed_of : (n : ℕ) (ps : List PlacedToken) (x : Listed) (xs : Trees) (r : Input) (P : Type 0) → (P → ⊥) → InOrder n ps → Reads (from (input_at n ps) []) x (Is (unpack xs) r) P → IsListed x xs r
listed_of n ps x xs r P e o h = by_answer x (h.so (record { order = o; below = λ i k. absurd (true≢false (sym k)) }))
  where
    by_answer : (x : Listed) → Yields x (λ y. Is (unpack xs) r y × After (from (input_at n ps) []) y.1) P → IsListed x xs r
    by_answer (Ok x) h = (x.1.commas, ap₂ (λ (u : List Tree) (i : Input). Ok (u, record { source = i; commas = x.1.commas })) h.so.0.0 h.so.0.1)
    by_answer (Err (Unexpected k)) h = absurd h.so
    by_answer (Err (TooDeep k)) h = absurd (e h.so)

-- where enough is known of the rest
pub listed_by : (c : Code) (d n : ℕ) (ps : List PlacedToken) (b : Bool) (xs : Trees) (r : Input) (T : Trees → Input → Type 0) → Knows (complete (suc (sizes xs)) d) c b r T → nesting (list xs) ≤ d → InOrder n ps → Bare (coded false c) b xs (input_at n ps) r → T xs (input_at n ps)
    → IsListed (bare_by lm (readers lm d) c (at_list n ps [])) xs r
listed_by c d n ps b xs r T kn deep order h t = listed_of n ps (bare_by lm (readers lm d) c (at_list n ps [])) xs r (d < withins reach xs) (λ i. omega (arith, i, deep, withins_reach xs, reach_nests (list xs))) order
    (bare_found (complete (suc (sizes xs)) d) c b r T kn xs (input_at n ps) [] (inwards (suc (sizes xs)) xs (omega arith)) h t)

-- before a closing brace
closed_fits : (z d : ℕ) (c : Code) (x : Tree) (ts : Input) (n : ℕ) (ps : List PlacedToken) → is_param x ≡ true → Within (Small z) x → FitsParam (complete z d) c x ts (input_at n (closing ps))
closed_fits z d c (param s ds a) ts n ps i g = by_item a g
  where
    no_value : (l : List PlacedToken) → eqb (kind_of (closing l)) assign_kind ≡ false
    no_value [] = refl
    no_value (p ∷ l) = refl

    by_item : (a : Tree) → ItemIn (Small z) a → Fits (complete z d) c a ts (input_at n (closing ps))
    by_item (assign_pat t q e) g = λ m o k b v le h. (complete z d).expr e false (with_in c) 2 o (input_at n (closing ps)) k g.1 h (omega arith) (omega arith) two_asked le (follow_by (with_in c) (ends e) 2 n ps (omega arith))
    by_item (rest_pat t q a) g = tt
    by_item a g = λ b h. no_value ps
closed_fits z d c _ ts n ps i g = absurd (true≢false (sym i))

pub closed_knows : (z d : ℕ) (c : Code) (b : Bool) (n : ℕ) (ps : List PlacedToken) → Knows (complete z d) c b (input_at n (closing ps)) (λ xs ts. Unit {0})
closed_knows z d c b n ps = record {
  next = λ x xs ts m o t i e h v. tt;
  final = λ x ts t i g h. closed_fits z d c x ts n ps i g;
  alone = λ x ts t i h. no_comma ps (not (is_rest x));
  ended = λ e ts t h. none_starts ps;
}
  where
    no_comma : (l : List PlacedToken) (y : Bool) → ((kind_of (closing l) == comma_kind) && y) ≡ false
    no_comma [] y = refl
    no_comma (p ∷ l) y = refl

    none_starts : (l : List PlacedToken) → starts c (closing l) ≡ false
    none_starts [] = refl
    none_starts (p ∷ l) = refl

pub whole_parameters : (c : Code) (d n : ℕ) (ps : List PlacedToken) (xs : Trees) (r : Input) → nesting (list xs) ≤ d → InOrder n ps → Parameters false c (list xs) (input_at n ps) (input_at r.last (closing r.places)) → IsListed (bare_by lm (readers lm d) c (at_list n ps [])) xs (input_at r.last (closing r.places))
whole_parameters c d n ps xs r deep order h = let b = of_list (coded false c) xs (input_at n ps) (input_at r.last (closing r.places)) h in
    listed_by c d n ps b.0 xs (input_at r.last (closing r.places)) (λ xs ts. Unit {0}) (closed_knows (suc (sizes xs)) d c b.0 r.last r.places) deep order b.1 tt

-- ---- a longer front, cut off behind itself, would be read whole and not

abbrev rest_of : List PlacedToken → Listed → List PlacedToken
rest_of l (Ok x) = x.1.source.places
rest_of l (Err e) = l

module _ (placed : Bool) (c : Code) (n : ℕ) (front : List PlacedToken) (q : PlacedToken) (xs : Trees) (last least : ℕ) (again : (d : ℕ) → least ≤ d → (others : List PlacedToken) → IsListed (bare_by lm (readers lm d) c (at_list n (front ++ q ∷ others) [])) xs (input_at last (q ∷ others))) where
  clash : (others : List PlacedToken) (us : Trees) (o : Input) (f e : List PlacedToken) → f ≡ front ++ e → q ∷ others ≡ e ++ o.places → length o.places < length (q ∷ others) → Parameters false c (list us) (input_at n (f ++ closing o.places)) (input_at o.last (closing o.places)) → InOrder n (f ++ closing o.places) → ⊥
  clash others us o f [] k v short w i = omega (arith, short, ap (λ z. length z) v)
  clash others us o f (x ∷ e) k v short w i =
      let N = least + nesting (list us) in
      let a = again N (omega arith) (e ++ closing o.places) in let b = whole_parameters c N n (f ++ closing o.places) us o (omega arith) i w in
      let same : f ++ closing o.places ≡ front ++ q ∷ (e ++ closing o.places) = ap (λ z. z ++ closing o.places) k ∙ (append_assoc front (x ∷ e) (closing o.places) ∙ ap (λ y. front ++ y ∷ (e ++ closing o.places)) (sym (ap (λ z. head_or x z) v))) in
      no_shorter (q ∷ e) (closing o.places) (omega arith) (sym (ap (λ z. rest_of [] z) (ap (λ z. bare_by lm (readers lm N) c (at_list n z [])) same ∙ a.1)) ∙ ap (λ z. rest_of [] z) b.1)

  by_length : (others : List PlacedToken) (us : Trees) (o : Input) → InOrder n (front ++ q ∷ others) → Parameters placed c (list us) (input_at n (front ++ q ∷ others)) o → (b : Bool) → nat_lt (length others) (length o.places) ≡ b → length others < length o.places
  by_length others us o order h true j = ltb-true (length others) (length o.places) j
  by_length others us o order h false j =
      let short : length o.places < length (q ∷ others) = omega (arith, ltb-false (length others) (length o.places) j) in
      let z = cut_parameters placed c us n (front ++ q ∷ others) o h in let e = split front (q ∷ others) z.0 o.places z.1 short in
      absurd (clash others us o z.0 e.0 e.1 e.2 short z.2 (order_cut n z.0 o.places (subst (λ v. InOrder n v) z.1 order)))

  pub ends_before : EndsBefore (Parameters placed c) n front q
  ends_before others (list us) o order h = by_length others us o order h (nat_lt (length others) (length o.places)) refl
  ends_before others _ o order h = absurd h

-- ---- by more calls the same is read

rest_steady : (i j : Inner Input) (x : Tree) → is_rest_param lm j x ≡ is_rest_param lm i x
rest_steady i j (param s ds (rest_pat t d p)) = refl
rest_steady i j (param s ds _) = refl
rest_steady i j _ = refl

bare_step_steady : (i j : Inner Input) → Steady i j → (c : Code) (xs : List Tree) (s : State Input) → Agrees (bare_step lm i c xs s) (bare_step lm j c xs s)
unfolding bare_step
bare_step_steady i j same c xs s = agree_if (starts_param lm c s) _ _ _ _ (agree_then _ _ _ _ (parameter_by_steady lm i j same c s) (λ p. agree_by _ _ (ap (λ b. at lm comma_kind p.1 && not b) (rest_steady i j p.0)) _ _ _ _ (agree_same _) (agree_same _))) (agree_same _)

bare_steady : (d e : ℕ) → d ≤ e → (c : Code) (s : State Input) (x : List Tree × State Input) → bare_by lm (readers lm d) c s ≡ Ok x → bare_by lm (readers lm e) c s ≡ Ok x
unfolding bare_by
bare_steady d e le c s x h = kept_answer (iterate (bound lm) (bare_step lm (readers lm d) c) [] s) (iterate (bound lm) (bare_step lm (readers lm e) c) [] s) x (agree_iterate (bound lm) (bare_step lm (readers lm d) c) (bare_step lm (readers lm e) c) (λ y r. bare_step_steady (readers lm d) (readers lm e) (readers_steady lm d e le) c y r) [] s) h

-- ---- the initialiser of the last one

pub takes_in : (t : Tree) (c : Code) (r : Input) → takes_name (with_in c) t r ≡ takes_name c t r
takes_in (ident s n) c r = refl
takes_in (assign_expr s op p e) c r = takes_in e c r
takes_in (cond_expr s a b d) c r = takes_in d c r
takes_in (arrow_expr s ps b i) c r = takes_in b (in_arrow i c) r
takes_in (yield_expr s e g) c r = takes_in e c r
takes_in _ c r = refl

pub last_is : (xs : Trees) → last_initial (unpack xs) ≡ initial_of (last_tree xs)
last_is none = refl
last_is (more x none) = refl
last_is (more x (more y ys)) = last_is (more y ys)

-- it goes on with nothing
value_stops : (d : ℕ) (c : Code) (s o : State Input) (e : Tree) → (readers lm d).expr (with_in c) assignment_level o ≡ Ok (e, s) → goes_expr (with_in c) (ends e) s.source < 2
value_stops d c s o e h = ltb-true (goes_expr (with_in c) (ends e) s.source) 2 ((subst (λ z. Quit (with_in c) 2 z) h (readers_quit (with_in c) 2 d refl o)).so)

onward_by : (d : ℕ) (c : Code) (x : Tree) (r : State Input) (qs : List PlacedToken) → Valued d c x r → (ends_async (initial_of x) ≡ true → may_name (kind r.source) ≡ true → ⊥) → one r.source.places ≡ one qs → Onward x r.source.places qs
onward_by d c (param s ds (assign_pat t p e)) r qs v w o = record {
  next = o;
  question = λ u k. absurd (omega (arith, value_stops d c r v.0 e v.1, question_goes (with_in c) (ends e) r.source.last r.source.places u k));
  word = λ u k m y. absurd (w k y);
}
onward_by d c _ r qs v w o = tt

-- ---- before a name, where the word `async` ends it

abbrev Waits : Tree → Code → Input → Type 0
Waits (param s ds (assign_pat t a e)) c r = (ends_async e ≡ true) × (takes_name (with_in c) e r ≡ false) × (goes_expr (with_in c) (ends e) r < 2)
Waits _ c r = ⊥

abbrev LastWaits : Code → Input → Trees → Type 0
LastWaits c r none = Unit {0}
LastWaits c r (more x none) = Waits x c r
LastWaits c r (more x (more y ys)) = LastWaits c r (more y ys)

waits_behind : (c : Code) (r : Input) (x : Tree) (xs : Trees) → LastWaits c r (more x xs) → LastWaits c r xs
waits_behind c r x none h = tt
waits_behind c r x (more y ys) h = h

waits_by : (d : ℕ) (c : Code) (x : Tree) (r : State Input) → Valued d c x r → ends_async (initial_of x) ≡ true → takes_name c (initial_of x) r.source ≡ false → Waits x c r.source
waits_by d c (param s ds (assign_pat t p e)) r v a f = (a, takes_in e c r.source ∙ f, value_stops d c r v.0 e v.1)
waits_by d c (param s ds _) r v a f = absurd (true≢false (sym a))
waits_by d c _ r v a f = absurd (true≢false (sym a))

all_wait : (c : Code) (r : Input) (xs : Trees) → Waits (last_tree xs) c r → LastWaits c r xs
all_wait c r none h = tt
all_wait c r (more x none) h = h
all_wait c r (more x (more y ys)) h = all_wait c r (more y ys) h

waits_alike : (c : Code) (x : Tree) (n : ℕ) (q : PlacedToken) (v w : List PlacedToken) → eqb q.spot.token.kind question_mark_kind ≡ false → Waits x c (input_at n (q ∷ v)) → Waits x c (input_at n (q ∷ w))
waits_alike c (param s ds (assign_pat t a e)) n q v w plain h = (h.0, sym (takes_alike e (with_in c) n q v w) ∙ h.1, subst (λ (m : ℕ). m < 2) (goes_alike (with_in c) (ends e) n n q v w plain) h.2)
waits_alike c _ n q v w plain h = absurd h

onward_waits : (c : Code) (x : Tree) (r : Input) (q : PlacedToken) (others : List PlacedToken) → Waits x c r → may_name q.spot.token.kind ≡ true → Onward x (q ∷ arrow_or q (heads (q ∷ others))) (q ∷ others)
onward_waits c (param s ds (assign_pat t a e)) r q others h word = record { next = refl; question = λ _ k. absurd (true≢false (sym word ∙ ap may_name k)); word = λ _ _ _ _. sym (arrow_heads q (heads (q ∷ others))) }
onward_waits c _ r q others h word = absurd h

waiting_fits : (z d : ℕ) (c : Code) (x : Tree) (ts r : Input) → may_name (kind r) ≡ true → Waits x c r → FitsParam (complete z d) c x ts r
waiting_fits z d c (param s ds (assign_pat t a e)) ts r word w = λ m o k b v le h.
    lasts (suc (size e)) d (λ i. (known (suc (size e))).comes i) kept kept_leads e false (with_in c) 2 o r k (omega arith) (covered e) h (omega arith) (omega arith) two_asked le w.2
    (record { fits = inl le; ends = w.0; word = word; free = λ _. subst (λ (u : Tree). takes_name (with_in c) u r ≡ false) (sym (last_self e le)) w.1 })
waiting_fits z d c _ ts r word w = absurd w

waiting_knows : (z d : ℕ) (c : Code) (r : Input) → may_name (kind r) ≡ true → Knows (complete z d) c false r (λ xs ts. LastWaits c r xs)
waiting_knows z d c r word = record {
  next = λ x xs ts m o t i e h v. waits_behind c r x xs t;
  final = λ x ts t i g h. waiting_fits z d c x ts r word t;
  alone = λ x ts t i h. and_left (kind r == comma_kind) (not (is_rest x)) (no_kind may_name (kind r) comma_kind word refl);
  ended = λ e. absurd (true≢false (sym e));
}

module _ (c : Code) (n : ℕ) (ps : List PlacedToken) (xs : Trees) (r : Input) (q : PlacedToken) (beyond front : List PlacedToken) (is : ps ≡ front ++ q ∷ beyond) (there : r.places ≡ q ∷ beyond) (named : Named ps) (order : InOrder n ps) (g : Bare (coded false c) false xs (input_at n ps) r) (word : may_name q.spot.token.kind ≡ true) (waits : Waits (last_tree xs) c r) where
  plain : eqb q.spot.token.kind question_mark_kind ≡ false
  plain = no_kind may_name q.spot.token.kind question_mark_kind word refl

  -- before the name alone, and before `=>` behind it
  read_short : (b : Bool) (d : ℕ) → nesting (list xs) ≤ d → IsListed (bare_by lm (readers lm d) c (at_list n (front ++ q ∷ arrow_or q b) [])) xs (input_at r.last (q ∷ arrow_or q b))
  read_short b d deep =
      let here : Onto q beyond (arrow_or q b) (arrow_mild q b) plain r (input_at r.last (q ∷ arrow_or q b)) = record { last = refl; front = []; left = there; right = refl } in
      let z = bare_moves (onto q beyond (arrow_or q b) (arrow_mild q b) plain) false c false xs (input_at n ps) r (input_at r.last (q ∷ arrow_or q b)) g here in
      let f = (halves z.1.front (q ∷ beyond) front (q ∷ beyond) (sym z.1.left ∙ is) refl).0 in
      let same : z.0 ≡ input_at n (front ++ q ∷ arrow_or q b) = ap₂ (λ (m : ℕ) (w : List PlacedToken). input_at m w) (sym z.1.last) (z.1.right ∙ ap (λ w. w ++ q ∷ arrow_or q b) f) in
      let derived : Bare (coded false c) false xs (input_at n (front ++ q ∷ arrow_or q b)) (input_at r.last (q ∷ arrow_or q b)) = subst (λ (w : Input). Bare (coded false c) false xs w (input_at r.last (q ∷ arrow_or q b))) same z.2 in
      let sorted = order_with q beyond (arrow_or q b) n front (arrow_order q b) (subst (λ w. InOrder n w) is order) in
      let all : LastWaits c (input_at r.last (q ∷ arrow_or q b)) xs = all_wait c (input_at r.last (q ∷ arrow_or q b)) xs (waits_alike c (last_tree xs) r.last q beyond (arrow_or q b) plain (subst (λ (v : List PlacedToken). Waits (last_tree xs) c (input_at r.last v)) there waits)) in
      listed_by c d n (front ++ q ∷ arrow_or q b) false xs (input_at r.last (q ∷ arrow_or q b)) (λ ys ts. LastWaits c (input_at r.last (q ∷ arrow_or q b)) ys) (waiting_knows (suc (sizes xs)) d c (input_at r.last (q ∷ arrow_or q b)) word) deep sorted derived all

  -- before whatever follows the name
  pub read_waiting : (d : ℕ) → nesting (list xs) ≤ d → (others : List PlacedToken) → IsListed (bare_by lm (readers lm d) c (at_list n (front ++ q ∷ others) [])) xs (input_at r.last (q ∷ others))
  unfolding bare_by iterate
  read_waiting d deep others =
      let b = heads (q ∷ others) in let a = read_short b d deep in let short = front ++ q ∷ arrow_or q b in
      let w = read_all d c (suc (length short)) n short [] [] (unpack xs) (record { source = input_at r.last (q ∷ arrow_or q b); commas = a.0 }) (named_with q beyond b front (subst (λ w. Named w) is named)) a.1 in
      let f = (halves w.front (q ∷ arrow_or q b) front (q ∷ arrow_or q b) (sym w.cuts) refl).0 in
      let same : xs ≡ w.trees = sym (pack_unpack xs) ∙ (ap pack w.is ∙ pack_unpack w.trees) in (
        a.0,
        subst (λ v. iterate_n (bound lm) (suc (length (v ++ q ∷ others))) (bare_step lm (readers lm d) c) [] (at_list n (v ++ q ∷ others) []) ≡ Ok (unpack xs, at_list r.last (q ∷ others) a.0)) f
            (w.again (q ∷ others) refl (λ _. subst (λ (y : Tree). Onward y (q ∷ arrow_or q b) (q ∷ others)) (ap last_tree same) (onward_waits c (last_tree xs) r q others waits word)) (suc (length (w.front ++ q ∷ others))) (omega arith)),
      )

-- ---- the law

module _ (depth : ℕ) (placed : Bool) (c : Code) (n : ℕ) (ps : List PlacedToken) (ys : List Tree) (r : State Input) (named : Named ps) (order : InOrder n ps) (free : takes_name c (last_initial ys) r.source ≡ false) (w : ReadAll depth c [] n ps [] ys r) where
  abbrev Whole : Type 0
  Whole = EndsAt (Parameters placed c) n w.front r.source.places

  -- where each longer list is read so
  direct : ((qs : List PlacedToken) → one r.source.places ≡ one qs → w.comma ≡ false → Onward (last_tree w.trees) r.source.places qs) → (q : PlacedToken) (beyond : List PlacedToken) → r.source.places ≡ q ∷ beyond → EndsBefore (Parameters placed c) n w.front q
  unfolding bare_by iterate
  direct go q beyond i = ends_before placed c n w.front q w.trees r.source.last depth (λ d le others. (
    r.commas,
    bare_steady depth d le c (at_list n (w.front ++ q ∷ others) []) (unpack w.trees, at_list r.source.last (q ∷ others) r.commas) (w.again (q ∷ others) (ap one i) (go (q ∷ others) (ap one i)) (suc (length (w.front ++ q ∷ others))) (omega arith)
        ∙ ap (λ (v : List Tree). Ok (v, at_list r.source.last (q ∷ others) r.commas)) w.is),
  ))

  free_last : takes_name c (initial_of (last_tree w.trees)) r.source ≡ false
  free_last = sym (ap (λ (u : Tree). takes_name c u r.source) (ap last_initial w.is ∙ last_is w.trees)) ∙ free

  waiting : (q : PlacedToken) (beyond : List PlacedToken) → r.source.places ≡ q ∷ beyond → w.comma ≡ false → ends_async (initial_of (last_tree w.trees)) ≡ true → may_name (kind r.source) ≡ true → EndsBefore (Parameters placed c) n w.front q
  waiting q beyond i e a m = ends_before placed c n w.front q w.trees r.source.last (nesting (list w.trees)) (λ d le others. read_waiting c n ps w.trees r.source q beyond w.front (w.cuts ∙ ap (λ v. w.front ++ v) i) i named order
      (subst (λ (b : Bool). Bare (coded false c) b w.trees (input_at n ps) r.source) e w.derived) (sym (ap (λ v. may_name (kind_of v)) i) ∙ m) (waits_by depth c (last_tree w.trees) r (w.valued e) a free_last) d le others)

  by_end : (x y b : Bool) → ends_async (initial_of (last_tree w.trees)) ≡ x → may_name (kind r.source) ≡ y → w.comma ≡ b → (q : PlacedToken) (beyond : List PlacedToken) → r.source.places ≡ q ∷ beyond → EndsBefore (Parameters placed c) n w.front q
  by_end true true false a m e q beyond i = waiting q beyond i e a m
  by_end true true true a m e q beyond i = direct (λ qs o k. absurd (true≢false (sym e ∙ k))) q beyond i
  by_end false y b a m e q beyond i = direct (λ qs o k. onward_by depth c (last_tree w.trees) r qs (w.valued k) (λ u v. true≢false (sym u ∙ a)) o) q beyond i
  by_end true false b a m e q beyond i = direct (λ qs o k. onward_by depth c (last_tree w.trees) r qs (w.valued k) (λ u v. true≢false (sym v ∙ m)) o) q beyond i

  by_rest : (l : List PlacedToken) → r.source.places ≡ l → Whole
  by_rest [] i = subst (λ v. EndsAt (Parameters placed c) n w.front v) (sym i) tt
  by_rest (q ∷ beyond) i = subst (λ v. EndsAt (Parameters placed c) n w.front v) (sym i) (by_end (ends_async (initial_of (last_tree w.trees))) (may_name (kind r.source)) w.comma refl refl refl q beyond i)

  ended : Parameters false c (list (pack ys)) (input_at n ps) r.source × IsComplete (Parameters placed c) n ps r.source.places
  ended = (
    subst (λ (us : Trees). ParameterList (coded false c) (children us) (input_at n ps) r.source) (sym (ap pack w.is ∙ pack_unpack w.trees)) (to_list (coded false c) w.comma w.trees (input_at n ps) r.source w.derived),
    (w.front, w.cuts, by_rest r.source.places refl),
  )

pub parameters_end : ParametersEnd
unfolding bare_by iterate
parameters_end depth placed c n ps ys r named order e free = ended depth placed c n ps ys r named order free (read_all depth c (suc (length ps)) n ps [] [] ys r named e)
