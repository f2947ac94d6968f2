-- Two lists that go on alike as far as they are read: what is read of the one is read of the other.
use Rattle.std.proofs.Common.{◌≡◌, ◌≤◌, ◌+◌, ℕ, zero, suc, Bool, true, false, not, ◌&&◌, ◌||◌, ◌==◌, if◌then◌else◌, eqb, nat_le, nat_lt, List, [], ◌∷◌, ◌++◌, length, Result, Ok, codes, bytes_eq, inl, inr, refl, sym, ap, ap₂, ◌∙◌, subst, true≢false, arith, eqb-true, le-leb}
use Rattle.base_proofs.proofs.Bools.{and_first, and_false}
use Rattle.base_token.specs.Kinds.{end_kind, right_brace_kind, left_brace_kind, left_paren_kind, dot_kind, comma_kind, question_mark_kind, arrow_kind, async_kind, assign_kind, mul_kind, from_kind, with_kind}
use Rattle.tree_spec.specs.Tree.{Tree}
use Rattle.grammar_spec.specs.Tokens.Input.{PlacedToken, Input, Code, kind, kind_of, break_of, others, hi_of, text_in, is_word, always_reserved, operator_word, barred}
use Rattle.grammar_spec.specs.Tokens.Operators.{expression_level, assignment_level, conditional_level, call_level, is_assign_op, may_name, starts_key, goes_expr, pauses, goes_on, closed_end, postfix_end, other_end, let_end, binding_end, key_end, accessor_end, static_end, exports_end, source_end}
use Rattle.grammar_spec.specs.Tokens.Shape.{ends}
use Rattle.grammar_spec.specs.Reader.Source.{Fault, Stream, State, is_name}
use Rattle.grammar_spec.specs.Reader.Expressions.{key_by, parameter_by, prop_by}
use Rattle.grammar_spec.specs.Reader.Statements.{pattern_prop}
use Rattle.grammar_spec.specs.Reader.Modules.{item_by}
use Rattle.grammar_spec.specs.Reader.Reading.{readers}
use Rattle.parse_source_laws.specs.Sources.{is_slash, one, two, HandsOut, Orderly}
use Rattle.parse_source_laws.specs.Laws.{SameRead, SameParts}
use Rattle.parse_source_laws.specs.Ahead.{ends_async, Named, dots, heads, SameNext, Instead, InsteadOfAny, at_list, PartsAhead, OneAhead}
use Rattle.parse_source_laws.proofs.Beside.{lm, on}
use Rattle.parse_source_laws.proofs.SourceLemmas.{parts_read}
use Rattle.parse_source_laws.proofs.Pairs.{edge_by, edge, is_param, Loose, Pairing, Paired}
use Rattle.parse_source_laws.proofs.Backs.{closed, calm, Good, Path, Moved, Backed, Echoed}
use Rattle.parse_source_laws.proofs.ConsumedExpressions.{key_by_backed, parameter_by_backed, prop_by_backed}
use Rattle.parse_source_laws.proofs.ConsumedStatements.{pattern_prop_backed}
use Rattle.parse_source_laws.proofs.ConsumedModules.{item_by_backed}
use Rattle.parse_source_laws.proofs.ConsumedLemmas.{readers_echoed}
use Rattle.parse_source_laws.proofs.ConsumedParts.{edge_open}

-- ---- a source that shows three tokens of a list

abbrev three : List PlacedToken → List PlacedToken
three [] = []
three (p ∷ ps) = p ∷ two ps

abbrev pub glimpse : Stream Input
glimpse = record { seen = λ s. three s.places; after = λ s. record { last = hi_of s.last s.places; places = others s.places }; operand = λ s. s; retold = λ x s. s; bound = λ s. length s.places; last = λ s. s.last }

abbrev pub Live : Input → Type 0
Live s = Named s.places

named_others : (l : List PlacedToken) → Named l → Named (others l)
named_others [] a = a
named_others (p ∷ l) a = a.1

two_three : (l : List PlacedToken) → two l ≡ two (three l)
two_three [] = refl
two_three (p ∷ []) = refl
two_three (p ∷ (q ∷ l)) = refl

abbrev head_or : PlacedToken → List PlacedToken → PlacedToken
head_or o [] = o
head_or o (p ∷ l) = p

abbrev is_nil : List PlacedToken → Bool
is_nil [] = true
is_nil (p ∷ l) = false

three_behind : (l : List PlacedToken) (p : PlacedToken) (v : List PlacedToken) → three l ≡ p ∷ v → v ≡ two (three (others l))
three_behind [] p v e = absurd (true≢false (ap (λ z. is_nil z) e))
three_behind (q ∷ l) p v e = sym (ap others e) ∙ two_three l

three_first : (n : ℕ) (l : List PlacedToken) (p : PlacedToken) (v : List PlacedToken) → three l ≡ p ∷ v → (u : List PlacedToken) × (l ≡ p ∷ u)
three_first n [] p v e = absurd (true≢false (ap (λ z. is_nil z) e))
three_first n (q ∷ l) p v e = (l, ap (λ z. head_or q z ∷ l) e)

ends_there : (n : ℕ) (l : List PlacedToken) (p : PlacedToken) (v : List PlacedToken) → three l ≡ p ∷ v → hi_of n l ≡ p.spot.hi
ends_there n [] p v e = absurd (true≢false (ap (λ z. is_nil z) e))
ends_there n (q ∷ l) p v e = ap (λ z. (head_or q z).spot.hi) e

shorter : (l : List PlacedToken) (p : PlacedToken) (v : List PlacedToken) → three l ≡ p ∷ v → suc (length (others l)) ≤ length l
shorter [] p v e = absurd (true≢false (ap (λ z. is_nil z) e))
shorter (q ∷ l) p v e = omega arith

pub order : (modular : Bool) → Orderly glimpse Live modular
order modular = record {
  behind = λ s p v a e. three_behind s.places p v e;
  ends_at = λ s p v a e. ends_there s.last s.places p v e;
  plain = λ s a e. refl;
  told = λ x s l e a h. h;
  operand_last = λ s a. refl;
  turned_last = λ x s a. refl;
  falls = λ s p v a e. omega (arith, shorter s.places p v e);
  operand_falls = λ s a. omega arith;
  turned_falls = λ x s a. omega arith;
  live_after = λ s a. named_others s.places a;
  live_operand = λ s a. a;
  live_turned = λ x s e a. a;
}

hands_self : (n : ℕ) (l : List PlacedToken) → HandsOut glimpse l (record { last = n; places = l })
hands_self n [] = refl
hands_self n (p ∷ l) = inl (two l, refl, hands_self p.spot.hi l)

hands_is : (l : List PlacedToken) (n : ℕ) (v : List PlacedToken) → HandsOut glimpse l (record { last = n; places = v }) → l ≡ v
hands_is [] n [] h = refl
hands_is [] n (q ∷ v) h = absurd (true≢false (sym (ap (λ z. is_nil z) h)))
hands_is (p ∷ l) n [] (inl h) = absurd (true≢false (ap (λ z. is_nil z) h.1))
hands_is (p ∷ l) n (q ∷ v) (inl h) = ap₂ (λ (o : PlacedToken) (z : List PlacedToken). o ∷ z) (sym (ap (λ z. head_or q z) h.1)) (hands_is l q.spot.hi v h.2)
hands_is (p ∷ l) n v (inr h) = absurd (true≢false (sym h.4.0 ∙ (ap (λ (o : PlacedToken). is_slash o.spot.token.kind) (same_head v h.0 h.1 p h.2 h.3 h.5) ∙ ap (λ (k : ℕ). is_slash k) h.4.1)))
  where
    same_head : (v : List PlacedToken) (q : PlacedToken) (qs : List PlacedToken) (p : PlacedToken) (rs : List PlacedToken) → three v ≡ q ∷ qs → three v ≡ p ∷ rs → q ≡ p
    same_head v q qs p rs e f = ap (λ z. head_or q z) (sym e ∙ f)

-- ---- lists that agree

abbrev pub firsts : ℕ → List PlacedToken → List PlacedToken
firsts zero l = []
firsts (suc n) [] = []
firsts (suc n) (p ∷ l) = p ∷ firsts n l

firsts_fewer : (n : ℕ) (l : List PlacedToken) → firsts n (firsts (suc n) l) ≡ firsts n l
firsts_fewer zero l = refl
firsts_fewer (suc n) [] = refl
firsts_fewer (suc n) (p ∷ l) = ap (λ z. p ∷ z) (firsts_fewer n l)

firsts_all : (n : ℕ) (l : List PlacedToken) → length l ≤ n → firsts n l ≡ l
firsts_all zero [] e = refl
firsts_all zero (p ∷ l) e = absurd (omega (arith, e))
firsts_all (suc n) [] e = refl
firsts_all (suc n) (p ∷ l) e = ap (λ z. p ∷ z) (firsts_all n l (omega (arith, e)))

one_first : (l : List PlacedToken) → firsts 1 l ≡ one l
one_first [] = refl
one_first (p ∷ l) = refl

-- what agrees in the first place
by_first : (P : List PlacedToken → List PlacedToken → Type 0) → P [] [] → ((p : PlacedToken) (l v : List PlacedToken) → P (p ∷ l) (p ∷ v)) → (n : ℕ) (l v : List PlacedToken) → firsts (suc n) l ≡ firsts (suc n) v → P l v
by_first P a b n [] [] e = a
by_first P a b n [] (q ∷ v) e = absurd (true≢false (ap (λ z. is_nil z) e))
by_first P a b n (p ∷ l) [] e = absurd (true≢false (sym (ap (λ z. is_nil z) e)))
by_first P a b n (p ∷ l) (q ∷ v) e = subst (λ (o : PlacedToken). P (p ∷ l) (o ∷ v)) (ap (λ z. head_or p z) e) (b p l v)

abbrev pub Agree : ℕ → List PlacedToken → Input → Type 0
Agree n l s = firsts (suc n) l ≡ firsts (suc n) s.places

abbrev pub ahead : Pairing glimpse
ahead = record {
  live = Live;
  hands = Agree;
  ajar = λ s l. kind_of s.places ≡ question_mark_kind → dots l ≡ dots s.places;
  waits = λ s l. break_of s.places ≡ false → may_name (kind_of s.places) ≡ true → heads l ≡ heads s.places;
}

-- ---- tests

see_one : {A : Type 0} (B : List PlacedToken → A) → ((p : PlacedToken) (l v : List PlacedToken) → B (p ∷ l) ≡ B (p ∷ v)) → (l v : List PlacedToken) → firsts 1 l ≡ firsts 1 v → B l ≡ B (three v)
see_one B f l v e = by_first (λ l v. B l ≡ B (three v)) refl (λ p l v. f p l (two v)) 0 l v e

see_two : {A : Type 0} (B : List PlacedToken → A) → ((n p : PlacedToken) (l v : List PlacedToken) → B (n ∷ p ∷ l) ≡ B (n ∷ p ∷ v)) → (l v : List PlacedToken) → firsts 2 l ≡ firsts 2 v → B l ≡ B (three v)
see_two B f [] [] e = refl
see_two B f [] (q ∷ v) e = absurd (true≢false (ap (λ z. is_nil z) e))
see_two B f (p ∷ l) [] e = absurd (true≢false (sym (ap (λ z. is_nil z) e)))
see_two B f (p ∷ l) (q ∷ v) e = subst (λ (o : PlacedToken). B (p ∷ l) ≡ B (o ∷ two v)) (ap (λ z. head_or p z) e) (by_first (λ l v. B (p ∷ l) ≡ B (p ∷ two v)) refl (λ o l v. f p o l (one v)) 0 l v (ap others e))

-- ---- what goes on with an expression

-- by its cases, of which `?` alone asks for the second token
abbrev pub cases : Bool → Bool → Bool → Bool → ℕ → ℕ → ℕ
cases comma shut assigns asks x y = if comma then expression_level else (if shut then 0 else (if assigns then assignment_level else (if asks then x else y)))

cases_same : (comma shut assigns asks : Bool) (x y z : ℕ) → (shut ≡ false → asks ≡ true → x ≡ z) → cases comma shut assigns asks x y ≡ cases comma shut assigns asks z y
cases_same true shut assigns asks x y z h = refl
cases_same false true assigns asks x y z h = refl
cases_same false false true asks x y z h = refl
cases_same false false false true x y z h = h refl refl
cases_same false false false false x y z h = refl

cases_on : (comma shut assigns asks : Bool) (x y z : ℕ) → nat_le 1 x ≡ nat_le 1 z → nat_le 1 (cases comma shut assigns asks x y) ≡ nat_le 1 (cases comma shut assigns asks z y)
cases_on true shut assigns asks x y z h = refl
cases_on false true assigns asks x y z h = refl
cases_on false false true asks x y z h = refl
cases_on false false false true x y z h = h
cases_on false false false false x y z h = refl

asks_on : (b : Bool) → nat_le 1 (if b then call_level else conditional_level) ≡ true
asks_on true = refl
asks_on false = refl

two_kind : (v : List PlacedToken) → kind_of (two v) ≡ kind_of v
two_kind [] = refl
two_kind (p ∷ v) = refl

goes_told : (c : Code) (e j : ℕ) (l v : List PlacedToken) → firsts 1 l ≡ firsts 1 v → (nat_le closed_end e ≡ false → kind_of v ≡ question_mark_kind → dots l ≡ dots v)
    → nat_lt (goes_expr c e (record { last = 0; places = l })) j ≡ nat_lt (goes_expr c e (record { last = 0; places = three v })) j
goes_told c e j l v i h = by_first (λ l v. (nat_le closed_end e ≡ false → kind_of v ≡ question_mark_kind → dots l ≡ dots v) → nat_lt (goes_expr c e (record { last = 0; places = l })) j ≡ nat_lt (goes_expr c e (record { last = 0; places = three v })) j)
    (λ h. refl) (λ p l v h. ap (λ (z : ℕ). nat_lt z j) (cases_same (p.spot.token.kind == comma_kind) (nat_le closed_end e) (is_assign_op p.spot.token.kind) (p.spot.token.kind == question_mark_kind) _ _ _
    (λ o k. ap (λ (b : Bool). if b && (e == other_end) then call_level else conditional_level) (h o (eqb-true p.spot.token.kind question_mark_kind k) ∙ ap (λ (n : ℕ). n == dot_kind) (sym (two_kind v)))))) 0 l v i h

-- ---- a parameter behind `async`

abbrev param_by : Bool → Bool → Bool → Bool → Bool → Bool
param_by n b k t le = n && ((not b && k && not t) && le)

param_same : (n b k t x y le : Bool) → (n ≡ true → b ≡ false → (k && not t) ≡ (x && not y)) → param_by n b k t le ≡ param_by n b x y le
param_same false b k t x y le h = refl
param_same true true k t x y le h = refl
param_same true false k t x y le h = ap (λ z. z && le) (h refl refl)

named_word : (w r o b : Bool) → (w && (not (r || o) && not b)) ≡ true → (w && not r) ≡ true
named_word true false o b e = refl
named_word true true o b e = absurd (true≢false (sym e))
named_word false r o b e = absurd (true≢false (sym e))

param_told : (c : Code) (j : ℕ) (l v : List PlacedToken) → firsts 1 l ≡ firsts 1 v → (break_of v ≡ false → may_name (kind_of v) ≡ true → heads l ≡ heads v) → is_param c j l ≡ is_param c j (three v)
param_told c j l v i h = by_first (λ l v. (break_of v ≡ false → may_name (kind_of v) ≡ true → heads l ≡ heads v) → is_param c j l ≡ is_param c j (three v)) (λ h. refl)
    (λ p l v h. param_same (is_name lm c (on [] 0 (p ∷ l))) p.spot.line_break _ _ _ _ (nat_le j assignment_level) (λ n b. h b (named_word (is_word p.spot.token.kind) (always_reserved p.spot.token.kind) (operator_word c.context p.spot.token.kind) (barred c.context (record { last = 0; places = p ∷ l })) n) ∙ two_heads p v)) 0 l v i h
  where
    two_heads : (p : PlacedToken) (v : List PlacedToken) → heads (p ∷ v) ≡ heads (p ∷ two v)
    two_heads p [] = refl
    two_heads p (q ∷ v) = refl

-- ---- what pauses

abbrev pauses_with : Code → ℕ → PlacedToken → Bool → Bool → Bool
pauses_with c e p x y = (p.spot.token.kind == right_brace_kind) || ((p.spot.token.kind == end_kind) || (p.spot.line_break && not (
    if nat_le e closed_end then x
    else (if e == let_end then (may_name p.spot.token.kind || (p.spot.token.kind == left_brace_kind)) || y
    else (if e == binding_end then (p.spot.token.kind == assign_kind) || (p.spot.token.kind == comma_kind)
    else (if e == key_end then (p.spot.token.kind == assign_kind) || (p.spot.token.kind == left_paren_kind)
    else (if e == accessor_end then ((p.spot.token.kind == assign_kind) || (p.spot.token.kind == left_paren_kind)) || starts_key p.spot.token.kind
    else (if e == static_end then ((p.spot.token.kind == assign_kind) || (p.spot.token.kind == left_paren_kind)) || (starts_key p.spot.token.kind || ((p.spot.token.kind == mul_kind) || (p.spot.token.kind == left_brace_kind)))
    else (if e == exports_end then p.spot.token.kind == from_kind
    else (if e == source_end then (p.spot.token.kind == with_kind) && c.syntax.import_attributes
    else false))))))))))

goes_one : (c : Code) (e : ℕ) (p : PlacedToken) (l v : List PlacedToken) → nat_le 1 (goes_expr c e (record { last = 0; places = p ∷ l })) ≡ nat_le 1 (goes_expr c e (record { last = 0; places = p ∷ v }))
goes_one c e p l v = cases_on (p.spot.token.kind == comma_kind) (nat_le closed_end e) (is_assign_op p.spot.token.kind) (p.spot.token.kind == question_mark_kind) _ _ _
    (asks_on ((kind_of l == dot_kind) && (e == other_end)) ∙ sym (asks_on ((kind_of v == dot_kind) && (e == other_end))))

-- of one token alone
pub pause_one : (c : Code) (e : ℕ) (p : PlacedToken) (l v : List PlacedToken) → pauses c e (record { last = 0; places = p ∷ l }) ≡ pauses c e (record { last = 0; places = p ∷ v })
pause_one c e p l v = ap₂ (λ (x y : Bool). pauses_with c e p x y) (goes_one c e p l v) (goes_one c other_end p l v)

pause_told : (c : Code) (e : ℕ) (l v : List PlacedToken) → firsts 1 l ≡ firsts 1 v → pauses c e (record { last = 0; places = l }) ≡ pauses c e (record { last = 0; places = three v })
pause_told c e l v i = by_first (λ l v. pauses c e (record { last = 0; places = l }) ≡ pauses c e (record { last = 0; places = three v })) refl
    (λ p l v. pause_one c e p l (two v)) 0 l v i

-- Nothing pauses before `?`, but behind what is closed.
no_pause : (c : Code) (e : ℕ) (v : List PlacedToken) → Loose e → kind_of v ≡ question_mark_kind → pauses c e (record { last = 0; places = three v }) ≡ false
no_pause c e [] o k = absurd (true≢false (sym (ap (λ (n : ℕ). eqb n question_mark_kind) k)))
no_pause c e (p ∷ v) o k = by_class o
  where
    asked : PlacedToken
    asked = record p { spot = record p.spot { token = record p.spot.token { kind = question_mark_kind } } }

    by_kind : (e : ℕ) → pauses c e (record { last = 0; places = asked ∷ two v }) ≡ false → pauses c e (record { last = 0; places = p ∷ two v }) ≡ false
    by_kind e h = subst (λ (n : ℕ). pauses c e (record { last = 0; places = record p { spot = record p.spot { token = record p.spot.token { kind = n } } } ∷ two v }) ≡ false) (sym k) h

    open_ : (e : ℕ) → nat_le closed_end e ≡ false → pauses c e (record { last = 0; places = asked ∷ two v }) ≡ false
    open_ zero i = ap (λ (z : Bool). p.spot.line_break && not z) (asks_on ((kind_of (two v) == dot_kind) && true)) ∙ and_false p.spot.line_break
    open_ (suc zero) i = ap (λ (z : Bool). p.spot.line_break && not z) (asks_on ((kind_of (two v) == dot_kind) && false)) ∙ and_false p.spot.line_break
    open_ (suc (suc n)) i = absurd (true≢false (sym (le-leb 2 (suc (suc n)) (omega arith)) ∙ i))

    by_class : Loose e → pauses c e (record { last = 0; places = p ∷ two v }) ≡ false
    by_class (inl i) = by_kind e (open_ e i)
    by_class (inr i) = ap (λ (n : ℕ). pauses c n (record { last = 0; places = p ∷ two v })) i ∙ by_kind let_end (ap (λ (z : Bool). p.spot.line_break && not z) (asks_on ((kind_of (two v) == dot_kind) && true)) ∙ and_false p.spot.line_break)

-- Nothing pauses before a word on its line.
no_word : (c : Code) (e : ℕ) (v : List PlacedToken) → break_of v ≡ false → is_word (kind_of v) ≡ true → pauses c e (record { last = 0; places = three v }) ≡ true → ⊥
no_word c e [] b k h = true≢false (sym k)
no_word c e (p ∷ v) b k h = true≢false (sym h ∙ by_kind (eqb p.spot.token.kind right_brace_kind) (eqb p.spot.token.kind end_kind) (off right_brace_kind refl) (off end_kind refl))
  where
    off : (n : ℕ) → is_word n ≡ false → eqb p.spot.token.kind n ≡ false
    off n i = by_test (eqb p.spot.token.kind n) (λ y. eqb-true p.spot.token.kind n y)
      where
        by_test : (t : Bool) → (t ≡ true → p.spot.token.kind ≡ n) → t ≡ false
        by_test false f = refl
        by_test true f = absurd (true≢false (sym k ∙ (ap is_word (f refl) ∙ i)))

    by_kind : (x y : Bool) → x ≡ false → y ≡ false → (x || (y || (p.spot.line_break && not (goes_on c e (record { last = 0; places = p ∷ two v }))))) ≡ false
    by_kind true y i o = absurd (true≢false i)
    by_kind false true i o = absurd (true≢false o)
    by_kind false false i o = ap (λ (z : Bool). z && not (goes_on c e (record { last = 0; places = p ∷ two v }))) b

-- ---- the pairing

token_more : (n : ℕ) (p : PlacedToken) (l v : List PlacedToken) (s : Input) → three s.places ≡ p ∷ v → firsts (suc n) l ≡ firsts (suc n) (others s.places) → firsts (suc (suc n)) (p ∷ l) ≡ firsts (suc (suc n)) s.places
token_more n p l v s e h = let z = three_first s.last s.places p v e in ap (λ u. p ∷ u) (h ∙ ap (λ u. firsts (suc n) (others u)) z.1) ∙ ap (λ u. firsts (suc (suc n)) u) (sym z.1)

token_less : (n : ℕ) (p : PlacedToken) (l v : List PlacedToken) (s : Input) → three s.places ≡ p ∷ v → firsts (suc (suc n)) l ≡ firsts (suc (suc n)) s.places → (u : List PlacedToken) × (l ≡ p ∷ u) × (firsts (suc n) u ≡ firsts (suc n) (others s.places))
token_less n p l v s e h = let z = three_first s.last s.places p v e in by_list l (h ∙ ap (λ u. firsts (suc (suc n)) u) z.1) z.0 (sym (ap others z.1))
  where
    by_list : (l : List PlacedToken) → firsts (suc (suc n)) l ≡ p ∷ firsts (suc n) (three_first s.last s.places p v e).0 → (r : List PlacedToken) → r ≡ others s.places → (u : List PlacedToken) × (l ≡ p ∷ u) × (firsts (suc n) u ≡ firsts (suc n) (others s.places))
    by_list [] i r o = absurd (true≢false (ap (λ z. is_nil z) i))
    by_list (q ∷ l) i r o = (l, ap (λ z. head_or q z ∷ l) i, ap others i ∙ ap (λ u. firsts (suc n) (others u)) (sym (three_first s.last s.places p v e).1))

shows_next : (p : PlacedToken) (l v : List PlacedToken) (s : Input) → three s.places ≡ p ∷ v → firsts 1 l ≡ firsts 1 (others s.places)
    → (kind_of s.places ≡ question_mark_kind → dots (p ∷ l) ≡ dots s.places) × (break_of s.places ≡ false → may_name (kind_of s.places) ≡ true → heads (p ∷ l) ≡ heads s.places)
shows_next p l v s e h = (
  λ o. by_first (λ l v. (kind_of l == dot_kind) ≡ (kind_of v == dot_kind)) refl (λ p l v. refl) 0 l (others s.places) h,
  λ o i. by_first (λ l v. ((kind_of l == arrow_kind) && not (break_of l)) ≡ ((kind_of v == arrow_kind) && not (break_of v))) refl (λ p l v. refl) 0 l (others s.places) h,
)

named_first : (p : PlacedToken) (v l : List PlacedToken) → Named l → three l ≡ p ∷ v → p.spot.token.kind ≡ async_kind → bytes_eq (text_in p.spot.token.content) (codes "async") ≡ true
named_first p v [] a e k = absurd (true≢false (ap (λ z. is_nil z) e))
named_first p v (q ∷ l) a e k = ap (λ (t : List ℕ). bytes_eq t (codes "async")) (ap (λ z. text_in (head_or q z).spot.token.content) (sym e) ∙ a.0 (ap (λ z. (head_or q z).spot.token.kind) e ∙ k))

pub paired : (modular : Bool) → Paired glimpse ahead modular
paired modular = record {
  order = order modular;
  fewer = λ n l s a h. sym (firsts_fewer (suc n) l) ∙ (ap (λ z. firsts (suc n) z) h ∙ firsts_fewer (suc n) s.places);
  token = λ n p l v s a e h. token_more n p l v s e h;
  behind = λ n p l v s a e i h. token_less n p l v s e h;
  one = λ B f l s a h. see_one B f.2 l s.places h;
  two = λ B f l s a h. see_two B f.4 l s.places h;
  same = λ B f l s a n h. see_one B f l s.places h;
  told = λ x n l s e a h. h;
  operands = λ n l s a h o. h;
  reread = λ s q p qs rs a e i o. inr (inr refl);
  shows = λ p l v s a e h. shows_next p l v s e h;
  goes = λ c e j l s a h k. goes_told c e j l s.places h k;
  param = λ c j p l v s a e k h o. param_told c j l (others s.places) h (o (named_first p v s.places a e k));
  pause = λ c e l s a h. pause_told c e l s.places h;
  stops = λ c e l s a h p. (λ o k. absurd (true≢false (sym p ∙ no_pause c e s.places o k)), λ b k. absurd (no_word c e s.places b (and_first _ _ k) p));
}

-- ---- lists

abbrev place_at : ℕ → List PlacedToken → Input
place_at n ps = record { last = n; places = ps }

answer : (f : State Input → Result (Tree × State Input) Fault) (g : Result (Tree × State Input) Fault) (n : ℕ) (ps : List PlacedToken) (commas : List ℕ) (t : Tree) (r : State Input) → SameRead glimpse Live (f (at_list n ps commas)) g → f (at_list n ps commas) ≡ Ok (t, r) → g ≡ Ok (t, r)
answer f g n ps commas t r h e = let z = subst (λ y. SameRead glimpse Live y g) e h in
    z.1 ∙ ap₂ (λ (k : ℕ) (l : List PlacedToken). Ok (t, at_list k l r.commas)) z.2 (sym (hands_is r.source.places z.0.last z.0.places z.3))

module _ (E : Tree → ℕ) (b : Bool) (Q : Tree → List PlacedToken → List PlacedToken → Type 0) (q : (t : Tree) (r : State Input) (qs : List PlacedToken) → Q t r.source.places qs → Agree 0 qs r.source × Good glimpse ahead (E t) r qs) where
  -- what is read of a list is read of each that goes on as far
  go_ahead : (f : State Input → Result (Tree × State Input) Fault) (g : Result (Tree × State Input) Fault) (n : ℕ) (ps : List PlacedToken) (commas : List ℕ) (t : Tree) (r : State Input) → Backed glimpse ahead E b closed_end (at_list n ps commas) g (λ s. f s) → g ≡ Ok (t, r)
      → (front : List PlacedToken) × (ps ≡ front ++ r.source.places) × ((qs : List PlacedToken) → Q t r.source.places qs → f (at_list n (front ++ qs) commas) ≡ Ok (t, at_list r.source.last qs r.commas))
  go_ahead f g n ps commas t r h e = by_path (subst (λ y. Backed glimpse ahead E b closed_end (at_list n ps commas) y (λ s. f s)) e h).so
    where
      by_path : (u : Path glimpse ahead (at_list n ps commas) r) × Moved glimpse ahead b u × ((qs : List PlacedToken) → Agree 0 qs r.source → Good glimpse ahead (E t) r qs → Good glimpse ahead closed_end (at_list n ps commas) (u.back qs) × (f (at_list n (u.back qs) commas) ≡ Ok (t, at_list r.source.last qs r.commas)))
          → (front : List PlacedToken) × (ps ≡ front ++ r.source.places) × ((qs : List PlacedToken) → Q t r.source.places qs → f (at_list n (front ++ qs) commas) ≡ Ok (t, at_list r.source.last qs r.commas))
      by_path z = let u = z.0 in let l = r.source.places in let many = length ps + length (u.back l) in (
        u.front,
        sym (firsts_all (suc (u.took + many)) ps (omega arith)) ∙ (sym (u.ahead many l refl) ∙ (firsts_all (suc (u.took + many)) (u.back l) (omega arith) ∙ u.grown l)),
        λ qs o. let k = q t r qs o in ap (λ v. f (at_list n v commas)) (sym (u.grown qs)) ∙ (z.2 qs k.0 k.1).1,
      )

-- what is asked of the rest that stands there instead
next_agrees : (r : State Input) (qs : List PlacedToken) → one r.source.places ≡ one qs → Agree 0 qs r.source
next_agrees r qs e = one_first qs ∙ (sym e ∙ sym (one_first r.source.places))

of_closed : (t : Tree) (r : State Input) (qs : List PlacedToken) → SameNext t r.source.places qs → Agree 0 qs r.source × Good glimpse ahead closed_end r qs
of_closed t r qs e = (next_agrees r qs e, (λ o. absurd (true≢false o), λ o. absurd (true≢false o)))

of_calm : (t : Tree) (r : State Input) (qs : List PlacedToken) → InsteadOfAny t r.source.places qs → Agree 0 qs r.source × Good glimpse ahead 0 r qs
of_calm t r qs e = (next_agrees r qs e.next, (λ o. e.question, λ o. e.word))

edge_waits : (a b : Bool) → nat_le postfix_end (edge_by a b) ≡ false → (a ≡ false) × (b ≡ true)
edge_waits true b e = absurd (true≢false e)
edge_waits false true e = (refl, refl)
edge_waits false false e = absurd (true≢false e)

of_expression : (t : Tree) (r : State Input) (qs : List PlacedToken) → Instead t r.source.places qs → Agree 0 qs r.source × Good glimpse ahead (edge t) r qs
of_expression t r qs e = (next_agrees r qs e.next, (λ o. e.question (edge_open (nat_le closed_end (ends t)) (ends_async t) o), λ o. let z = edge_waits (nat_le closed_end (ends t)) (ends_async t) o in e.word z.0 z.1))

module _ (depth : ℕ) (c : Code) where
  own : (n : ℕ) (ps : List PlacedToken) (commas : List ℕ) → Named ps → SameParts glimpse Live c.context.module_ depth c (place_at n ps) ps commas
  own n ps commas a = parts_read glimpse Live c.context.module_ (order c.context.module_) depth c (place_at n ps) ps commas refl a (hands_self n ps)

  echo : Echoed glimpse ahead c.context.module_ (readers lm depth) (readers glimpse depth)
  echo = readers_echoed (paired c.context.module_) depth

  parts_ahead : PartsAhead depth c
  parts_ahead = record {
    expressions = λ l n ps o t r a e. go_ahead edge true Instead of_expression (λ s. (readers lm depth).expr c l s) _ n ps o t r (echo.expr c refl l (at_list n ps o) a) (answer (λ s. (readers lm depth).expr c l s) _ n ps o t r ((own n ps o a).expressions l) e);
    bindings = λ n ps o t r a e. go_ahead closed true SameNext of_closed (λ s. (readers lm depth).pat c s) _ n ps o t r (echo.pat c refl (at_list n ps o) a) (answer (λ s. (readers lm depth).pat c s) _ n ps o t r (own n ps o a).bindings e);
    statements = λ n ps o t r a e. go_ahead closed true SameNext of_closed (λ s. (readers lm depth).stmt c s) _ n ps o t r (echo.stmt c refl (at_list n ps o) a) (answer (λ s. (readers lm depth).stmt c s) _ n ps o t r (own n ps o a).statements e);
    items = λ n ps o t r a e. go_ahead closed true SameNext of_closed (λ s. item_by lm (readers lm depth) c.context.module_ c s) _ n ps o t r (item_by_backed (paired c.context.module_) echo (at_list n ps o) c.context.module_ c refl a) (answer (λ s. item_by lm (readers lm depth) c.context.module_ c s) _ n ps o t r (own n ps o a).items e);
    keys = λ n ps o t r a e. go_ahead closed true SameNext of_closed (λ s. key_by lm (readers lm depth) c s) _ n ps o t r (key_by_backed (paired c.context.module_) echo (at_list n ps o) c refl a) (answer (λ s. key_by lm (readers lm depth) c s) _ n ps o t r (own n ps o a).keys e);
    parameters = λ n ps o t r a e. go_ahead calm true InsteadOfAny of_calm (λ s. parameter_by lm (readers lm depth) c s) _ n ps o t r (parameter_by_backed (paired c.context.module_) echo (at_list n ps o) c refl a) (answer (λ s. parameter_by lm (readers lm depth) c s) _ n ps o t r (own n ps o a).parameters e);
    properties = λ n ps o t r a e. go_ahead calm true InsteadOfAny of_calm (λ s. prop_by lm (readers lm depth) c s) _ n ps o t r (prop_by_backed (paired c.context.module_) echo (at_list n ps o) c refl a) (answer (λ s. prop_by lm (readers lm depth) c s) _ n ps o t r (own n ps o a).properties e);
    patterns = λ n ps o t r a e. go_ahead calm true InsteadOfAny of_calm (λ s. pattern_prop lm (readers lm depth) c s) _ n ps o t r (pattern_prop_backed (paired c.context.module_) echo (at_list n ps o) c refl a) (answer (λ s. pattern_prop lm (readers lm depth) c s) _ n ps o t r (own n ps o a).patterns e);
  }

pub one_ahead : OneAhead
one_ahead depth c = parts_ahead depth c
