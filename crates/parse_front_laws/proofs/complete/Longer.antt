-- Where a token that follows an expression is taken by what reads its last operand, a longer list goes on with it: behind the operand, and so behind the
-- expression. So before a token with which no list goes on, each operand ends there.
use Rattle.std.proofs.Common.{◌≡◌, ◌<◌, ◌≤◌, ◌+◌, ℕ, Bool, true, false, not, ◌&&◌, ◌||◌, ◌==◌, cond, eqb, leb, if◌then◌else◌, List, [], ◌∷◌, Result, Ok, Err, inl, inr, refl, sym, ap, ◌∙◌, subst, ⊎_elim, true≢false, arith}
use Rattle.std.proofs.lemmas.Bool.{eqb-true, ne_eqb, leb-true, and_parts, or_parts, or_from, not-true}
use Rattle.base_proofs.proofs.Bools.{cond_second, cond_first}
use Rattle.base_token.specs.declared.place.Span.{Span}
use Rattle.base_token.specs.Tokens.{bare}
use Rattle.base_token.specs.Kinds.{arrow_kind, async_kind, function_kind, question_mark_kind, left_paren_kind, right_paren_kind, left_brace_kind, right_brace_kind, comma_kind, colon_kind, semicolon_kind, finally_kind, new_kind, await_kind, yield_kind, mul_kind}
use Rattle.tree_spec.specs.Tree.{Tree, Trees, none, more, pack, ident, binding_ident, arrow_expr, block_stmt, fn_expr, function, absent, unary_expr, update_expr, await_expr, bin_expr, cond_expr, assign_expr, yield_expr, seq_expr, new_expr}
use Rattle.grammar_spec.specs.Tokens.Input.{PlacedToken, Input, Code, kind, kind_of, kind2, brk, break_of, brk2, lo, span, text, rest, is_word, always_reserved, no_name, barred, with_in, in_arrow, in_list, in_body, Takes, TakesName}
use Rattle.grammar_spec.specs.Tokens.Operators.{assignment_level, right_level, goes_expr, other_end, call_level}
use Rattle.grammar_spec.specs.Tokens.Shape.{level}
use Rattle.grammar_spec.specs.Children.{child, Expr, CommaThen}
use Rattle.grammar_spec.specs.Expressions.{Yield}
use Rattle.grammar_spec.specs.Functions.{Async, ArrowParameters, ArrowExpression, Body, Parameters}
use Rattle.grammar_spec.specs.Grammar.{Produces, children}
use Rattle.grammar_laws.proofs.context.Kin.{Kin}
use Rattle.grammar_laws.proofs.context.Functions.{async_on, arrow_parameters, arrow_head}
use Rattle.grammar_laws.proofs.context.Placed.{move, moves}
use Rattle.grammar_spec.specs.Reader.Source.{Fault, State}
use Rattle.grammar_spec.specs.Reader.Expressions.{Elements, elements_by, heads_params, params_of, is_read}
use Rattle.grammar_spec.specs.Reader.Reading.{readers}
use Rattle.grammar_laws.specs.CompleteBase.Laws.{coded, arrowed, InOrder}
use Rattle.grammar_laws.proofs.complete_base.Yields.{lm, from}
use Rattle.grammar_laws.proofs.complete_base.Levels.{right_most}
use Rattle.grammar_laws.proofs.complete_rules.Prefixes.{Lone, param_at}
use Rattle.grammar_laws.proofs.complete_rules.Finds.{Behind, Leads, NoParams}
use Rattle.grammar_laws.specs.Laws.{OfLevel}
use Rattle.grammar_laws.proofs.Sure.{Sure, same}
use Rattle.grammar_laws.proofs.Covers.{Holds, Element, plain as plain_code}
use Rattle.grammar_laws.proofs.Nested.{Whole, elements_sure}
use Rattle.grammar_laws.proofs.Groups.{IsParams, params_hold}
use Rattle.grammar_laws.proofs.ByDepth.{all_sound}
use Rattle.parse_front_laws.specs.Complete.Laws.{input_at}
use Rattle.parse_front_laws.proofs.complete.Onto.{Mild, Onto, onto}

-- ---- tokens behind the next one

-- a token of a character, behind it
abbrev pub mark : PlacedToken → ℕ → ℕ → PlacedToken
mark q k n = record q { spot = record q.spot { token = bare k; line_break = false; lo = n; hi = n + 1 }; escaped = false }

abbrev pub braces : PlacedToken → ℕ → List PlacedToken
braces q n = mark q left_brace_kind n ∷ mark q right_brace_kind (n + 1) ∷ []

abbrev pub arrow_on : PlacedToken → ℕ → List PlacedToken
arrow_on q n = mark q arrow_kind n ∷ braces q (n + 1)

abbrev pub params_on : PlacedToken → ℕ → List PlacedToken
params_on q n = mark q left_paren_kind n ∷ (mark q right_paren_kind (n + 1) ∷ braces q (n + 1 + 1))

-- What a longer list may go on with behind the token: an arrow's body or a `finally`'s block in braces, what follows `function`, a statement after a
-- colon, what makes an arrow of a name; behind any other token nothing.
abbrev pub onward : PlacedToken → List PlacedToken
onward q =
    if (q.spot.token.kind == arrow_kind) || (q.spot.token.kind == finally_kind) then braces q q.spot.hi
    else (if q.spot.token.kind == function_kind then params_on q q.spot.hi
    else (if q.spot.token.kind == colon_kind then mark q semicolon_kind q.spot.hi ∷ []
    else (if is_word q.spot.token.kind then arrow_on q q.spot.hi
    else [])))

abbrev onward_by : PlacedToken → ℕ → List PlacedToken
onward_by q k = if (k == arrow_kind) || (k == finally_kind) then braces q q.spot.hi else (if k == function_kind then params_on q q.spot.hi else (if k == colon_kind then mark q semicolon_kind q.spot.hi ∷ [] else (if is_word k then arrow_on q q.spot.hi else [])))

each_onward : (q : PlacedToken) (P : List PlacedToken → Type 0) → P (braces q q.spot.hi) → P (params_on q q.spot.hi) → P (mark q semicolon_kind q.spot.hi ∷ []) → P (arrow_on q q.spot.hi) → P [] → P (onward q)
each_onward q P a b c d e = one_of ((q.spot.token.kind == arrow_kind) || (q.spot.token.kind == finally_kind)) (q.spot.token.kind == function_kind) (q.spot.token.kind == colon_kind) (is_word q.spot.token.kind)
  where
    one_of : (x y z w : Bool) → P (cond x (braces q q.spot.hi) (cond y (params_on q q.spot.hi) (cond z (mark q semicolon_kind q.spot.hi ∷ []) (cond w (arrow_on q q.spot.hi) []))))
    one_of true y z w = a
    one_of false true z w = b
    one_of false false true w = c
    one_of false false false true = d
    one_of false false false false = e

pub onward_mild : (q : PlacedToken) → Mild (onward q)
onward_mild q = each_onward q Mild (refl, refl) (refl, refl) (refl, refl) (refl, refl) (refl, refl)

braces_order : (q : PlacedToken) (n : ℕ) → InOrder n (braces q n)
braces_order q n = (omega arith, omega arith, (λ _. omega arith), (omega arith, omega arith, (λ _. omega arith), tt))

pub onward_order : (q : PlacedToken) → InOrder q.spot.hi (onward q)
onward_order q = each_onward q (InOrder q.spot.hi) (braces_order q q.spot.hi)
    (omega arith, omega arith, (λ _. omega arith), (omega arith, omega arith, (λ _. omega arith), braces_order q (q.spot.hi + 1 + 1)))
    (omega arith, omega arith, (λ _. omega arith), tt)
    (omega arith, omega arith, (λ _. omega arith), braces_order q (q.spot.hi + 1))
    tt

-- of a kind that is known
pub onward_of : (q : PlacedToken) (k : ℕ) → q.spot.token.kind ≡ k → onward q ≡ onward_by q k
onward_of q k e = ap (onward_by q) e

-- an empty body
body_on : (c : Code) (q : PlacedToken) (n : ℕ) → Body (record c { placed = false }) (span n (n + 1 + 1)) [] (input_at n (braces q n)) (input_at (n + 1 + 1) [])
body_on c q n = (input_at (n + 1) (mark q right_brace_kind (n + 1) ∷ []), (refl, tt, refl), (refl, tt, refl), refl)

pub level_of : (l : ℕ) (t : Tree) → l < 20 → OfLevel l t → l ≤ level t
level_of l t h (inl e) = e
level_of l t h (inr e) = absurd (omega (arith, h, e.0))

-- nothing goes on at the end
ended_goes : (c : Code) (e : Input) → e.places ≡ [] → goes_expr c other_end e < call_level
ended_goes c e n = subst (λ (v : List PlacedToken). goes_expr c other_end (input_at e.last v) < call_level) (sym n) (omega arith)

module _ (q : PlacedToken) (beyond : List PlacedToken) (plain : eqb q.spot.token.kind question_mark_kind ≡ false) where
  abbrev pub K : Kin false
  K = onto q beyond (onward q) (onward_mild q) plain

  abbrev pub Like : Input → Input → Type 0
  Like a b = Onto q beyond (onward q) (onward_mild q) plain a b

  -- no tree so tight is derived of a whole list that goes on with the token
  abbrev pub NoLonger : ℕ → Code → Input → Type 0
  NoLonger l c ts = (o : Input) → Like ts o → (u : Tree) (e : Input) → e.places ≡ [] → OfLevel l u → Produces u (coded false c) o e → ⊥

  abbrev pub NoMore : Code → Input → Type 0
  NoMore c ts = (o : Input) → Like ts o → (u : Tree) (us : Trees) (e : Input) → e.places ≡ [] → CommaThen (Expr 2 (coded false c)) (coded false c) (children (more u us)) o e → ⊥

  abbrev pub Before : Input → Type 0
  Before r = r.places ≡ q ∷ beyond

  pub stands : (r : Input) → Before r → Like r (input_at r.last (q ∷ onward q))
  stands r h = record { last = refl; front = []; left = h; right = refl }

  -- ---- what is longer behind the last operand is longer

  module _ (p : Bool) (c : Code) (l : ℕ) where
    pub longer_update : (s : Span) (op : ℕ) (a : Tree) (ts r : Input) → OfLevel l (update_expr s op true a) → NoLonger l c ts → (h : Produces (update_expr s op true a) (coded p c) ts r) → NoLonger 16 c h.0
    longer_update s op a ts r f w h o k u e n lv x = let z = K.take (coded p c) op ts h.0 o h.2 k in w z.0 z.1 (update_expr (span (lo z.0) e.last) op true u) e n f (o, h.1, z.2, (level_of 16 u (omega arith) lv, x), refl)

    pub longer_unary : (s : Span) (op : ℕ) (a : Tree) (ts r : Input) → OfLevel l (unary_expr s op a) → NoLonger l c ts → (h : Produces (unary_expr s op a) (coded p c) ts r) → NoLonger 16 c h.0
    longer_unary s op a ts r f w h o k u e n lv x = let z = K.take_word (coded p c) op ts h.0 o h.2 k in w z.0 z.1 (unary_expr (span (lo z.0) e.last) op u) e n f (o, h.1, z.2, (level_of 16 u (omega arith) lv, x), refl)

    pub longer_await : (s : Span) (a : Tree) (ts r : Input) → OfLevel l (await_expr s a) → NoLonger l c ts → (h : Produces (await_expr s a) (coded p c) ts r) → NoLonger 16 c h.0
    longer_await s a ts r f w h o k u e n lv x = let z = K.take_word (coded p c) await_kind ts h.0 o h.2 k in w z.0 z.1 (await_expr (span (lo z.0) e.last) u) e n f (o, h.1, z.2, (level_of 16 u (omega arith) lv, x), refl)

    pub longer_binary : (s : Span) (op : ℕ) (a b : Tree) (ts r : Input) → OfLevel l (bin_expr s op a b) → NoLonger l c ts → (h : Produces (bin_expr s op a b) (coded p c) ts r) → NoLonger (right_level op) c h.1
    longer_binary s op a b ts r f w h o k u e n lv x =
        let z = K.take_word (coded p c) op h.0 h.1 o h.5 k in let y = move false K a (coded p c) ts h.0 z.0 h.4 z.1 in
        w y.0 y.1 (bin_expr (span (lo y.0) e.last) op a u) e n f (z.0, o, h.2, h.3, y.2, z.2, (level_of (right_level op) u (omega (arith, right_most op)) lv, x), refl)

    pub longer_conditional : (s : Span) (a b t : Tree) (ts r : Input) → OfLevel l (cond_expr s a b t) → NoLonger l c ts → (h : Produces (cond_expr s a b t) (coded p c) ts r) → NoLonger 2 c h.3
    longer_conditional s a b t ts r f w h o k u e n lv x =
        let z = K.take (coded p c) colon_kind h.2 h.3 o h.7 k in let y = move false K b (coded p (with_in c)) h.1 h.2 z.0 h.6.1 z.1 in
        let v = K.take (coded p c) question_mark_kind h.0 h.1 y.0 h.5 y.1 in let g = move false K a (coded p c) ts h.0 v.0 h.4.1 v.1 in
        w g.0 g.1 (cond_expr (span (lo g.0) e.last) a b u) e n f (v.0, y.0, z.0, o, (h.4.0, g.2), v.2, (h.6.0, y.2), z.2, (level_of 2 u (omega arith) lv, x), refl)

    pub longer_assign : (s : Span) (op : ℕ) (a b : Tree) (ts r : Input) → OfLevel l (assign_expr s op a b) → NoLonger l c ts → (h : Produces (assign_expr s op a b) (coded p c) ts r) → NoLonger 2 c h.1
    longer_assign s op a b ts r f w h o k u e n lv x =
        let z = K.take (coded p c) op h.0 h.1 o h.5 k in let y = move false K a (coded p c) ts h.0 z.0 h.4 z.1 in
        w y.0 y.1 (assign_expr (span (lo y.0) e.last) op a u) e n f (z.0, o, h.2, h.3, y.2, z.2, (level_of 2 u (omega arith) lv, x), refl)

    pub longer_yield : (s : Span) (a : Tree) (ts r : Input) → OfLevel l (yield_expr s a false) → NoLonger l c ts → (h : Yield (coded p c) s (child a (λ y. Produces a y)) false ts r) → NoLonger 2 c h.0
    longer_yield s a ts r f w h o k u e n lv x =
        let z = K.take_word (coded p c) yield_kind ts h.0 o h.2 k in w z.0 z.1 (yield_expr (span (lo z.0) e.last) u false) e n f (yielded (span (lo z.0) e.last) z.0 e u lv (o, h.1, z.2, sym (K.breaks h.0 o k) ∙ h.3, (level_of 2 u (omega arith) lv, x), refl))
      where
        yielded : (s : Span) (a b : Input) (u : Tree) → OfLevel 2 u → Yield (coded false c) s (child u (λ y. Produces u y)) false a b → Produces (yield_expr s u false) (coded false c) a b
        yielded s a b absent lv y = absurd (⊎_elim (λ (i : 2 ≤ level absent). omega (arith, i)) (λ (i : (◌≡◌ {A = ℕ} 2 20) × (level absent ≡ 18)). omega (arith, i.0)) lv)
        yielded s a b u lv y = y

    pub longer_yield_all : (s : Span) (a : Tree) (ts r : Input) → OfLevel l (yield_expr s a true) → NoLonger l c ts → (h : Yield (coded p c) s (child a (λ y. Produces a y)) true ts r) → NoLonger 2 c h.1
    longer_yield_all s a ts r f w h o k u e n lv x =
        let z = K.take (coded p c) mul_kind h.0 h.1 o h.5 k in let y = K.take_word (coded p c) yield_kind ts h.0 z.0 h.3 z.1 in
        w y.0 y.1 (yield_expr (span (lo y.0) e.last) u true) e n f (yielded (span (lo y.0) e.last) y.0 e u lv (z.0, o, h.2, y.2, sym (K.breaks h.0 z.0 z.1) ∙ h.4, z.2, (level_of 2 u (omega arith) lv, x), refl))
      where
        yielded : (s : Span) (a b : Input) (u : Tree) → OfLevel 2 u → Yield (coded false c) s (child u (λ y. Produces u y)) true a b → Produces (yield_expr s u true) (coded false c) a b
        yielded s a b absent lv y = absurd (⊎_elim (λ (i : 2 ≤ level absent). omega (arith, i)) (λ (i : (◌≡◌ {A = ℕ} 2 20) × (level absent ≡ 18)). omega (arith, i.0)) lv)
        yielded s a b u lv y = y

    pub longer_arrow : (s : Span) (ps : Trees) (b : Tree) (i : Bool) (ts r : Input) → OfLevel l (arrow_expr s ps b i) → NoLonger l c ts → (h : ArrowExpression (coded p c) s (children ps) (child b (λ y. Produces b y)) i ts r) → NoLonger 2 (in_arrow i c) h.0
    longer_arrow s ps b i ts r f w h o k u e n lv x =
        let z = arrow_head false K i (coded p c) (children ps) (moves false K ps) ts h.0 o h.1 k in
        w z.0 z.1 (arrow_expr (span (lo z.0) e.last) ps u i) e n f (concise (span (lo z.0) e.last) z.0 e u lv (o, z.2, K.unlike left_brace_kind refl h.0 o k h.2, (level_of 2 u (omega arith) lv, x), refl))
      where
        concise : (s : Span) (a b : Input) (u : Tree) → OfLevel 2 u → ArrowExpression (coded false c) s (children ps) (child u (λ y. Produces u y)) i a b → Produces (arrow_expr s ps u i) (coded false c) a b
        concise s a b (block_stmt t ss) lv y = absurd (⊎_elim (λ (i : 2 ≤ level (block_stmt t ss)). omega (arith, i)) (λ (i : (◌≡◌ {A = ℕ} 2 20) × (level (block_stmt t ss) ≡ 18)). omega (arith, i.0)) lv)
        concise s a b u lv y = y

    pub longer_new : (s : Span) (g : Tree) (ts r : Input) → OfLevel l (new_expr s g absent) → NoLonger l c ts → (h : Produces (new_expr s g absent) (coded p c) ts r) → NoLonger 20 c h.0
    longer_new s g ts r f w h o k u e n lv x = let z = K.take_word (coded p c) new_kind ts h.0 o h.1 k in
        w z.0 z.1 (new_expr (span (lo z.0) e.last) u absent) e n f (o, z.2, ⊎_elim (λ (i : 20 ≤ level u). inr i) (λ i. inl i.1) lv, x, ended_goes (coded false c) e n, refl)

    pub longer_sequence : (s : Span) (a b : Tree) (bs : Trees) (ts r : Input) → OfLevel l (seq_expr s (more a (more b bs))) → NoLonger l c ts → (h : Produces (seq_expr s (more a (more b bs))) (coded p c) ts r) → NoMore c h.0
    longer_sequence s a b bs ts r f w h o k u us e n x = let z = move false K a (coded p c) ts h.0 o h.1.1 k in
        w z.0 z.1 (seq_expr (span (lo z.0) e.last) (more a (more u us))) e n f (o, (h.1.0, z.2), x, refl)

    pub longer_next : (a b : Tree) (bs : Trees) (ts r : Input) → NoMore c ts → (h : CommaThen (Expr 2 (coded p c)) (coded p c) (children (more a (more b bs))) ts r) → NoMore c h.1
    longer_next a b bs ts r w h o k u us e n x = let z = move false K a (coded p c) h.0 h.1 o h.3.1 k in let y = K.take (coded p c) comma_kind ts h.0 z.0 h.2 z.1 in
        w y.0 y.1 a (more u us) e n (z.0, o, y.2, (h.3.0, z.2), x)

    pub longer_last : (a : Tree) (ts r : Input) → NoMore c ts → (h : CommaThen (Expr 2 (coded p c)) (coded p c) (children (more a none)) ts r) → NoLonger 2 c h.0
    longer_last a ts r w h o k u e n lv x = let y = K.take (coded p c) comma_kind ts h.0 o h.2 k in w y.0 y.1 u none e n (o, e, y.2, (level_of 2 u (omega arith) lv, x), refl)

  -- ---- what is longer behind the last token

  pub kind_there : (r : Input) → Before r → kind r ≡ q.spot.token.kind
  kind_there r h = ap kind_of h

  -- a head before `=>` makes an arrow
  no_head : (p i : Bool) (c : Code) (l : ℕ) (ps : Trees) (ts m r : Input) → NoLonger l c ts → Before r → l ≤ assignment_level → Async i (coded p c) ts m → ArrowParameters (coded p c) (children ps) m r → arrowed r ≡ true → ⊥
  no_head p i c l ps ts m r w b le a h y =
      let t = and_parts (kind r == arrow_kind) (not (brk r)) y in let ar = eqb-true (kind r) arrow_kind t.0 in
      let on : onward q ≡ braces q q.spot.hi = onward_of q arrow_kind (sym (kind_there r b) ∙ ar) in
      let o = input_at r.last (q ∷ onward q) in
      let z = arrow_parameters false K (coded p c) (children ps) (moves false K ps) m r o h (stands r b) in let x = async_on false K i (coded p c) ts m z.0 a z.1 in
      let d = in_list (with_in (in_arrow i (coded false c))) in let e = input_at (q.spot.hi + 1 + 1) [] in
      w x.0 x.1 (arrow_expr (span (lo x.0) e.last) ps (block_stmt (span q.spot.hi e.last) none) i) e refl (inl (omega (arith, le)))
      (input_at q.spot.hi (onward q), (z.0, o, x.2, z.2, sym (ap break_of b) ∙ not-true (brk r) t.1, (sym (kind_there r b) ∙ ar, tt, refl)), subst (λ (v : List PlacedToken). Body d (span q.spot.hi e.last) [] (input_at q.spot.hi v) e) (sym on) (body_on d q q.spot.hi), refl)

  -- the word `async` before `function` makes a function
  no_function : (p : Bool) (c : Code) (l : ℕ) (s : Span) (n : List ℕ) (ts r : Input) → NoLonger l c ts → Before r → l ≤ 21 → Produces (ident s n) (coded p c) ts r → kind ts ≡ async_kind → (((kind r == function_kind) && not (brk r)) && not (barred c.context r)) ≡ true → ⊥
  no_function p c l s n ts r w b le h a y =
      let v = and_parts ((kind r == function_kind) && not (brk r)) _ y in let t = and_parts (kind r == function_kind) (not (brk r)) v.0 in let fn = eqb-true (kind r) function_kind t.0 in let qk = sym (kind_there r b) ∙ fn in
      let on : onward q ≡ params_on q q.spot.hi = onward_of q function_kind qk in
      let o = input_at r.last (q ∷ onward q) in
      let z = K.take_word (coded p c) async_kind ts r o (a, h.0.2, h.0.4, h.0.5) (stands r b) in
      let d = in_body false true (coded false c) in let i = q.spot.hi + 1 + 1 in let e = input_at (i + 1 + 1) [] in let g = span (lo z.0) e.last in
      let tail : (m : Input) × Parameters d [] (input_at q.spot.hi (onward q)) m × Body d (span i e.last) [] m e =
      subst (λ (v : List PlacedToken). (m : Input) × Parameters d [] (input_at q.spot.hi v) m × Body d (span i e.last) [] m e) (sym on) (input_at i (braces q i), (input_at (q.spot.hi + 1) (mark q right_paren_kind (q.spot.hi + 1) ∷ braces q i), (refl, tt, refl), (refl, tt, refl)), body_on d q i) in
      w z.0 z.1 (fn_expr g absent (function g none none (block_stmt (span i e.last) none) false true)) e refl (inl (omega (arith, le)))
      (input_at q.spot.hi (onward q), input_at q.spot.hi (onward q), (o, input_at q.spot.hi (onward q), (z.2, sym (ap break_of b) ∙ not-true (brk r) t.1), (qk, subst (λ (v : List PlacedToken). barred c.context (input_at r.last v) ≡ false) b (not-true (barred c.context r) v.1), tt, refl), refl), refl, (tail.0, tt, tail.1, tail.2), refl, refl)

  -- the word `async` before a name on its line makes an arrow
  pub no_name_next : (p : Bool) (c : Code) (l : ℕ) (s : Span) (n : List ℕ) (ts r : Input) → NoLonger l c ts → Before r → l ≤ assignment_level → Produces (ident s n) (coded p c) ts r → kind ts ≡ async_kind → brk r ≡ false → (is_word (kind r) && (not (no_name c.context (kind r)) && not (barred c.context r))) ≡ true → ⊥
  no_name_next p c l s n ts r w b le h a br y =
      let na = and_parts (is_word (kind r)) _ y in let nb = and_parts (not (no_name c.context (kind r))) _ na.1 in
      let wd : is_word q.spot.token.kind ≡ true = subst (λ (k : ℕ). is_word k ≡ true) (kind_there r b) na.0 in
      let nn : no_name c.context (kind r) ≡ false = not-true (no_name c.context (kind r)) nb.0 in
      let off : (n : ℕ) → always_reserved n ≡ true → eqb q.spot.token.kind n ≡ false = λ n i. ne_eqb q.spot.token.kind n (λ k. true≢false (sym i ∙ (ap always_reserved (sym k ∙ sym (kind_there r b)) ∙ (or_parts (always_reserved (kind r)) _ nn).0))) in
      let plain_off : (n : ℕ) → is_word n ≡ false → eqb q.spot.token.kind n ≡ false = λ n i. ne_eqb q.spot.token.kind n (λ k. true≢false (sym wd ∙ (ap is_word k ∙ i))) in
      let on : onward q ≡ arrow_on q q.spot.hi = cond_second _ _ _ _ (or_from _ _ (plain_off arrow_kind refl) (off finally_kind refl)) (cond_second _ _ _ _ (off function_kind refl) (cond_second _ _ _ _ (plain_off colon_kind refl) (cond_first _ _ _ _ wd refl))) in
      let o = input_at r.last (q ∷ onward q) in
      let z = K.take_word (coded p c) async_kind ts r o (a, h.0.2, h.0.4, h.0.5) (stands r b) in
      let d = in_list (with_in (in_arrow true (coded false c))) in let i = q.spot.hi + 1 in let e = input_at (i + 1 + 1) [] in let g = span (lo o) q.spot.hi in
      let name = text o in
      let ps = more (binding_ident g (ident g name)) none in
      let taken : TakesName (coded false c) name o (input_at q.spot.hi (onward q)) = (wd, subst (λ (k : ℕ). no_name c.context k ≡ false) (kind_there r b) nn, subst (λ (v : List PlacedToken). barred c.context (input_at r.last v) ≡ false) b (not-true (barred c.context r) nb.1), refl, tt, refl) in
      let tail : (brk (input_at q.spot.hi (onward q)) ≡ false) × (m : Input) × Takes (coded false c) arrow_kind (input_at q.spot.hi (onward q)) m × Body d (span i e.last) [] m e =
      subst (λ (v : List PlacedToken). (brk (input_at q.spot.hi v) ≡ false) × (m : Input) × Takes (coded false c) arrow_kind (input_at q.spot.hi v) m × Body d (span i e.last) [] m e) (sym on) (refl, input_at i (braces q i), (refl, tt, refl), body_on d q i) in
      w z.0 z.1 (arrow_expr (span (lo z.0) e.last) ps (block_stmt (span i e.last) none) true) e refl (inl (omega (arith, le)))
      (tail.1, (o, input_at q.spot.hi (onward q), (z.2, sym (ap break_of b) ∙ br), inl (tt, (refl, (refl, (taken, refl)))), tail.0, tail.2), tail.3, refl)

  no_param : (p : Bool) (c : Code) (l : ℕ) (s : Span) (n : List ℕ) (ts r : Input) → NoLonger l c ts → Before r → Produces (ident s n) (coded p c) ts r → kind ts ≡ async_kind → param_at c l r ≡ true → ⊥
  no_param p c l s n ts r w b h a y =
      let t = and_parts (is_word (kind r) && (not (no_name c.context (kind r)) && not (barred c.context r))) _ y in let u = and_parts (not (brk r) && (kind2 r == arrow_kind) && not (brk2 r)) (leb l assignment_level) t.1 in
      no_name_next p c l s n ts r w b (leb-true l assignment_level u.1) h a (not-true (brk r) (first_of (not (brk r)) _ _ u.0)) t.0
    where
      first_of : (a b c : Bool) → (a && b && c) ≡ true → a ≡ true
      first_of true b c h = refl
      first_of false b c h = absurd (true≢false (sym h))

  -- elements that may be parameters are
  read_of : {A : Type 0} (x : Result A Fault) → is_read x ≡ true → (a : A) × (x ≡ Ok a)
  read_of (Ok a) h = (a, refl)
  read_of (Err e) h = absurd (true≢false (sym h))

  group_params : (c : Code) (d : ℕ) (k : List ℕ) (m r : Input) (x : Elements × State Input) (ps : List Tree) → elements_by lm (readers lm d) (with_in c) false right_paren_kind (from m k) ≡ Ok x → x.1.source ≡ r → params_of lm (readers lm d) x.1.commas x.0 ≡ Ok ps → IsParams c m r ps
  group_params c d k m r x ps e i y =
      let w = (subst (λ z. Sure k z (λ v. Whole (λ j. Element j (with_in c)) false (plain_code (with_in c)) right_paren_kind m v.0 v.1)) e (elements_sure (readers lm d) (all_sound d) (with_in c) false right_paren_kind (from m k))).so.1 in
      subst (λ (v : Input). IsParams c m v ps) i ((subst (λ z. Holds z (IsParams c m x.1.source)) y (params_hold (readers lm d) c x.1.commas x.0 m x.1.source (w.so x.1.commas (same x.1.commas)))).so)

  no_params : (p i : Bool) (c : Code) (l : ℕ) (ts h m r : Input) → NoLonger l c ts → Before r → Async i (coded p c) ts h → Takes (coded false c) left_paren_kind h m → NoParams (with_in c) l m r
  no_params p i c l ts h m r w b a t d k x e j = by_test (heads_params lm (readers lm d) l x.0 x.1) refl
    where
      plain_async : (i : Bool) → Async i (coded p c) ts h → Async i (coded false c) ts h
      plain_async true y = ((y.0.0, y.0.1, tt, y.0.3), y.1)
      plain_async false y = y

      by_test : (y : Bool) → heads_params lm (readers lm d) l x.0 x.1 ≡ y → y ≡ false
      by_test false f = refl
      by_test true f =
          let v = and_parts (arrowed x.1.source && leb l assignment_level) (is_read (params_of lm (readers lm d) x.1.commas x.0)) f in let u = and_parts (arrowed x.1.source) (leb l assignment_level) v.0 in
          let z = read_of (params_of lm (readers lm d) x.1.commas x.0) v.1 in
          absurd (no_head false i c l (pack z.0) ts h r w b (leb-true l assignment_level u.1) (plain_async i a) (inr (m, t, group_params c d k m r x z.0 e j z.1)) (subst (λ (y : Input). arrowed y ≡ true) j u.0))

  -- ---- what is known behind each tree

  pub record Bound (c : Code) (l : ℕ) (t : Tree) (ts r : Input) : Type 0 where
    pub fits : OfLevel l t
    pub final : NoLonger l c ts
    pub calm : c.context.in_generator ≡ false
    pub there : Before r

  pub record Bounds (c : Code) (ts r : Input) : Type 0 where
    pub final : NoMore c ts
    pub calm : c.context.in_generator ≡ false
    pub there : Before r

  abbrev pub bounded : Behind
  bounded = record { tree = λ p c l t ts r. Bound c l t ts r; trees = λ p c ys ts r. Bounds c ts r }

  lone : (p : Bool) (c : Code) (l : ℕ) (s : Span) (n : List ℕ) (ts r : Input) → Bound c l (ident s n) ts r → Produces (ident s n) (coded p c) ts r → Lone c l ts r
  lone p c l s n ts r f h = record {
    calm = λ le. by_test (arrowed r) (λ e. no_head p false c l (more (binding_ident s (ident s n)) none) ts ts r f.final f.there le refl (inl (tt, (refl, (refl, h)))) e);
    function = λ a. by_test (((kind r == function_kind) && not (brk r)) && not (barred c.context r)) (λ e. no_function p c l s n ts r f.final f.there (most f.fits) h a e);
    param = λ a. by_test (param_at c l r) (λ e. no_param p c l s n ts r f.final f.there h a e);
  }
    where
      by_test : (b : Bool) → (b ≡ true → ⊥) → b ≡ false
      by_test true f = absurd (f refl)
      by_test false f = refl

      most : OfLevel l (ident s n) → l ≤ 21
      most (inl e) = e
      most (inr e) = absurd (omega (arith, e.1))

  pub bounded_leads : Leads bounded
  bounded_leads = record {
    update = λ p c l s op a ts r f h. record { fits = inl h.3.0; final = longer_update p c l s op a ts r f.fits f.final h; calm = f.calm; there = f.there };
    unary = λ p c l s op a ts r f h. record { fits = inl h.3.0; final = longer_unary p c l s op a ts r f.fits f.final h; calm = f.calm; there = f.there };
    awaits = λ p c l s a ts r f h. record { fits = inl h.3.0; final = longer_await p c l s a ts r f.fits f.final h; calm = f.calm; there = f.there };
    binary = λ p c l s op a b ts r f h. record { fits = inl h.6.0; final = longer_binary p c l s op a b ts r f.fits f.final h; calm = f.calm; there = f.there };
    conditional = λ p c l s a b t ts r f h. record { fits = inl h.8.0; final = longer_conditional p c l s a b t ts r f.fits f.final h; calm = f.calm; there = f.there };
    assigns = λ p c l s op a b ts r f h. record { fits = inl h.6.0; final = longer_assign p c l s op a b ts r f.fits f.final h; calm = f.calm; there = f.there };
    arrow = λ p c l s ps e i ts r nb f h. record { fits = inl h.3.0; final = longer_arrow p c l s ps e i ts r f.fits f.final h; calm = refl; there = f.there };
    yields = λ p c l s a ts r na f h. record { fits = inl h.4.0; final = longer_yield p c l s a ts r f.fits f.final h; calm = f.calm; there = f.there };
    yields_all = λ p c l s a ts r na f h. record { fits = inl h.6.0; final = longer_yield_all p c l s a ts r f.fits f.final h; calm = f.calm; there = f.there };
    sequence = λ p c l s x y ys ts r f h. record { final = longer_sequence p c l s x y ys ts r f.fits f.final h; calm = f.calm; there = f.there };
    next = λ p c x y ys ts r f h. record { final = longer_next p c 2 x y ys ts r f.final h; calm = f.calm; there = f.there };
    last = λ p c x ts r f h. record { fits = inl h.3.0; final = longer_last p c 2 x ts r f.final h; calm = f.calm; there = f.there };
    bare_new = λ p c l s g ts r f h. record { fits = ⊎_elim (λ i. inr (refl, i)) (λ i. inl i) h.2; final = longer_new p c l s g ts r f.fits f.final h; calm = f.calm; there = f.there };
    name = λ p c l s n ts r f h. lone p c l s n ts r f h;
    group = λ p c l s e ts r f h. no_params p false c l ts ts h.0 r f.final f.there refl (h.2.0, tt, h.2.2);
    call = λ p c l s o n xs ts m r f a e b h. let i = h.2.1.0 in
        no_params p true c l ts m (rest m) r f.final f.there ((a, i.2, i.4, e), b) (subst (λ (v : Input). Takes (coded false c) left_paren_kind v (rest v)) (sym i.5 ∙ e) (h.3.1.0, tt, refl));
    idle = λ p c l s o ts r f h. absurd (true≢false (sym h.1.0 ∙ f.calm));
  }
