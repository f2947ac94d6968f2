-- The first of a list that begins a text is the longest.
use Rattle.std.proofs.Common.{◌≡◌, ℕ, ◌≤◌, inl, inr, ⊎_elim, Bool, true, false, not, ◌&&◌, ◌||◌, cond, List, [], ◌∷◌, ◌++◌, length, refl, sym, ap, subst, ◌∙◌, arith}
use Rattle.std.specs.Prelude.{◌==◌, nat_le, Option, None, Some, option_map, MatchOption}
use Rattle.std.specs.Borrow.{Bor}
use Rattle.lex_pieces.specs.Characters.{is_decimal_digit}
use Rattle.std.proofs.Math.Bool.{or-true}
use Rattle.std.proofs.lemmas.Slice.Eq.{bytes_eq-Decides}
use Rattle.std.specs.Str.{bytes_eq, chars}
use Rattle.std.proofs.lemmas.Bool.{cases_Bool, false≢true, and_parts, eqb-true, not-true, both_ways}
use Rattle.std.proofs.lemmas.Bool.Decides.{nat_tests}
use Rattle.std.proofs.lemmas.Option.{same_Some}
use Rattle.base_token.specs.declared.token.TokenKind.{TokenKind}
use Rattle.lex_pieces.specs.Punctuators.{IsNumberDot, IsPunctuator, NoPunctuator, OnePunctuator, begins_with_digit, read_punctuator, Spelling, IsAmong, punctuators, past_all, or_else, find, push_tail, tails}

abbrev Answer : Type 0
Answer = TokenKind × List ℕ

no_answer : (x : Answer) → None ≡ Some x → ⊥
no_answer x e = cc

same_answer : (x y : Answer) → Some x ≡ Some y → (x.0 ≡ y.0) × (x.1 ≡ y.1)
same_answer x y e = let k : x ≡ y = cc in (ap (λ (z : Answer). z.0) k, ap (λ (z : Answer). z.1) k)

-- ---- a front of a text

past_front : (s rest : List ℕ) → past_all s (s ++ rest) ≡ Some rest
past_front [] rest = refl
past_front (m ∷ ms) rest = let e : (m == m) ≡ true = grind (arith, nat_tests) in rw e (past_front ms rest)

front_past : (s cs rest : List ℕ) → past_all s cs ≡ Some rest → cs ≡ s ++ rest
front_past [] cs rest e = same_Some cs rest e
front_past (m ∷ ms) [] rest e = cc
front_past (m ∷ ms) (c ∷ cs) rest e = ⊎_elim
    (λ (t : (c == m) ≡ true).
    let k = front_past ms cs rest (sym (ap (λ b. cond b (past_all ms cs) None) t) ∙ e) in
    rw (eqb-true c m t) (ap (λ (l : List ℕ). m ∷ l) k))
    (λ (t : (c == m) ≡ false). let k : None ≡ Some rest = sym (ap (λ b. cond b (past_all ms cs) None) t) ∙ e in cc)
    (cases_Bool (c == m))

-- fronts of one length are one
same_front : (s t r q : List ℕ) → s ++ r ≡ t ++ q → length s ≡ length t → (s ≡ t) × (r ≡ q)
same_front [] [] r q e n = (refl, e)
same_front [] (y ∷ t) r q e n = absurd (omega arith)
same_front (x ∷ s) [] r q e n = absurd (omega arith)
same_front (x ∷ s) (y ∷ t) r q e n =
    let head : x ≡ y = cc in
    let more : s ++ r ≡ t ++ q = cc in
    let k = same_front s t r q more (omega arith) in
    (rw head (ap (λ (l : List ℕ). y ∷ l) k.0), k.1)

-- ---- by the first character

is_some_text : List ℕ → Bool
is_some_text [] = false
is_some_text (c ∷ cs) = true

all_some : List Spelling → Bool
all_some [] = true
all_some (x ∷ xs) = is_some_text x.0 && all_some xs

find_push : (c : ℕ) (cs s : List ℕ) (kind : TokenKind) (later : List Spelling) → is_some_text s ≡ true → or_else kind (past_all s (c ∷ cs)) (find later cs) ≡ find (push_tail c s kind later) cs
unfolding is_some_text
find_push c cs [] kind later e = absurd (false≢true e)
find_push c cs (m ∷ ms) kind later e = ⊎_elim
    (λ (t : (c == m) ≡ true). rw t refl)
    (λ (t : (c == m) ≡ false). rw t refl)
    (cases_Bool (c == m))

find_tails : (c : ℕ) (cs : List ℕ) (xs : List Spelling) → all_some xs ≡ true → find xs (c ∷ cs) ≡ find (tails c xs) cs
unfolding all_some
find_tails c cs [] e = refl
find_tails c cs (x ∷ xs) e =
    let parts = and_parts (is_some_text x.0) (all_some xs) e in
    ap (λ o. or_else x.1 (past_all x.0 (c ∷ cs)) o) (find_tails c cs xs parts.1) ∙ find_push c cs x.0 x.1 (tails c xs) parts.0

-- ---- the longest first

sorted : ℕ → List Spelling → Bool
sorted n [] = true
sorted n (x ∷ xs) = nat_le (length x.0) n && sorted (length x.0) xs

no_longer : (n : ℕ) (xs : List Spelling) (s : List ℕ) (k : TokenKind) → sorted n xs ≡ true → IsAmong xs s k → length s ≤ n
unfolding sorted
no_longer n [] s k e h = absurd h
no_longer n (x ∷ xs) s k e (inl h) =
    let parts = and_parts (nat_le (length x.0) n) (sorted (length x.0) xs) e in
    let le : length x.0 ≤ n = grind (arith, nat_tests) in
    omega (arith, ap length h.0)
no_longer n (x ∷ xs) s k e (inr h) =
    let parts = and_parts (nat_le (length x.0) n) (sorted (length x.0) xs) e in
    let le : length x.0 ≤ n = grind (arith, nat_tests) in
    omega (arith, no_longer (length x.0) xs s k parts.1 h)

abbrev pub IsLongest : List Spelling → List ℕ → TokenKind → List ℕ → Type 0
IsLongest xs text kind rest = (s : List ℕ) × IsAmong xs s kind × (text ≡ s ++ rest)
    × ((other : List ℕ) (more : List ℕ) (k : TokenKind) → IsAmong xs other k → text ≡ other ++ more → length other ≤ length s)

no_front : (s text rest : List ℕ) → past_all s text ≡ None → text ≡ s ++ rest → ⊥
no_front s text rest p e = let k : None ≡ Some rest = sym p ∙ ap (past_all s) e ∙ past_front s rest in cc

below : (x : Spelling) (xs : List Spelling) (other : List ℕ) (j : TokenKind) → sorted (length x.0) xs ≡ true → IsAmong (x ∷ xs) other j → length other ≤ length x.0
below x xs other j e (inl h) = omega (arith, ap length h.0)
below x xs other j e (inr h) = no_longer (length x.0) xs other j e h

earlier : (x : Spelling) (xs : List Spelling) (text s other left : List ℕ) (j : TokenKind) → past_all x.0 text ≡ None → IsAmong (x ∷ xs) other j → text ≡ other ++ left
    → ((o m : List ℕ) (k : TokenKind) → IsAmong xs o k → text ≡ o ++ m → length o ≤ length s) → length other ≤ length s
earlier x xs text s other left j p (inl h) q longest = absurd (no_front x.0 text left p (q ∙ ap (λ l. l ++ left) (sym h.0)))
earlier x xs text s other left j p (inr h) q longest = longest other left j h q

found_by : (n : ℕ) (x : Spelling) (xs : List Spelling) (text : List ℕ) (kind : TokenKind) (rest : List ℕ) → sorted n (x ∷ xs) ≡ true
    → (find xs text ≡ Some (kind, rest) → IsLongest xs text kind rest)
    → (o : Option (List ℕ)) → past_all x.0 text ≡ o → or_else x.1 o (find xs text) ≡ Some (kind, rest) → IsLongest (x ∷ xs) text kind rest
unfolding sorted
found_by n x xs text kind rest e later (Some more) p h =
    let parts = and_parts (nat_le (length x.0) n) (sorted (length x.0) xs) e in
    let same = same_answer (x.1, more) (kind, rest) h in
    let k : x.1 ≡ kind = same.0 in
    let r : more ≡ rest = same.1 in
    (x.0, inl (refl, k), front_past x.0 text rest (p ∙ ap (λ (l : List ℕ). Some l) r), λ other left j a q. below x xs other j parts.1 a)
found_by n x xs text kind rest e later None p h =
    let w = later h in
    (w.0, inr w.1, w.2, λ other left j a q. earlier x xs text w.0 other left j p a q w.3)

found : (n : ℕ) (xs : List Spelling) (text : List ℕ) (kind : TokenKind) (rest : List ℕ) → sorted n xs ≡ true → find xs text ≡ Some (kind, rest) → IsLongest xs text kind rest
unfolding sorted
found n [] text kind rest e h = cc
found n (x ∷ xs) text kind rest e h =
    let parts = and_parts (nat_le (length x.0) n) (sorted (length x.0) xs) e in
    found_by n x xs text kind rest e (found (length x.0) xs text kind rest parts.1) (past_all x.0 text) refl h

none_by : (x : Spelling) (xs : List Spelling) (text s rest : List ℕ) (k : TokenKind) → (find xs text ≡ None → IsAmong xs s k → ⊥) → (o : Option (List ℕ)) → past_all x.0 text ≡ o
    → or_else x.1 o (find xs text) ≡ None → IsAmong (x ∷ xs) s k → text ≡ s ++ rest → ⊥
none_by x xs text s rest k later (Some more) p e h q = cc
none_by x xs text s rest k later None p e (inl h) q = no_front x.0 text rest p (q ∙ ap (λ l. l ++ rest) (sym h.0))
none_by x xs text s rest k later None p e (inr h) q = later e h

none_found : (xs : List Spelling) (text s rest : List ℕ) (k : TokenKind) → find xs text ≡ None → IsAmong xs s k → text ≡ s ++ rest → ⊥
none_found [] text s rest k e h q = h
none_found (x ∷ xs) text s rest k e h q = none_by x xs text s rest k (λ f a. none_found xs text s rest k f a q) (past_all x.0 text) refl e h q

-- ---- no spelling twice

has : List ℕ → List Spelling → Bool
has s [] = false
has s (x ∷ xs) = bytes_eq x.0 s || has s xs

distinct : List Spelling → Bool
distinct [] = true
distinct (x ∷ xs) = not (has x.0 xs) && distinct xs

among_has : (xs : List Spelling) (s : List ℕ) (k : TokenKind) → IsAmong xs s k → has s xs ≡ true
unfolding has
among_has [] s k h = absurd h
among_has (x ∷ xs) s k (inl h) = rw h.0 (ap (λ b. b || has s xs) ((bytes_eq-Decides s s).1 refl))
among_has (x ∷ xs) s k (inr h) = rw (among_has xs s k h) (or-true (bytes_eq x.0 s))

twice : (x : Spelling) (xs : List Spelling) (s : List ℕ) (l : TokenKind) → distinct (x ∷ xs) ≡ true → x.0 ≡ s → IsAmong xs s l → ⊥
unfolding distinct
twice x xs s l e h g =
    let parts = and_parts (not (has x.0 xs)) (distinct xs) e in
    both_ways (has x.0 xs) (not-true (has x.0 xs) parts.0) (ap (λ t. has t xs) h ∙ among_has xs s l g)

one_kind : (xs : List Spelling) (s : List ℕ) (k l : TokenKind) → distinct xs ≡ true → IsAmong xs s k → IsAmong xs s l → k ≡ l
unfolding distinct
one_kind [] s k l e h g = absurd h
one_kind (x ∷ xs) s k l e (inl h) (inl g) = sym h.1 ∙ g.1
one_kind (x ∷ xs) s k l e (inl h) (inr g) = absurd (twice x xs s l e h.0 g)
one_kind (x ∷ xs) s k l e (inr h) (inl g) = absurd (twice x xs s k e g.0 h)
one_kind (x ∷ xs) s k l e (inr h) (inr g) = one_kind xs s k l (and_parts (not (has x.0 xs)) (distinct xs) e).1 h g

-- ---- the longest is found, and it alone

finds_by : (n : ℕ) (xs : List Spelling) (text : List ℕ) (kind : TokenKind) (rest : List ℕ) → sorted n xs ≡ true → distinct xs ≡ true → IsLongest xs text kind rest
    → (o : Option (TokenKind × List ℕ)) → find xs text ≡ o → o ≡ Some (kind, rest)
finds_by n xs text kind rest e d h None f = absurd (none_found xs text h.0 rest kind f h.1 h.2)
finds_by n xs text kind rest e d h (Some x) f =
    let w = found n xs text x.0 x.1 e f in
    let longer = h.3 w.0 x.1 x.0 w.1 w.2 in
    let shorter = w.3 h.0 rest kind h.1 h.2 in
    let same = same_front h.0 w.0 rest x.1 (sym h.2 ∙ w.2) (omega arith) in
    let k = one_kind xs h.0 kind x.0 d h.1 (subst (λ s. IsAmong xs s x.0) (sym same.0) w.1) in
    rw k (rw same.1 refl)

finds : (n : ℕ) (xs : List Spelling) (text : List ℕ) (kind : TokenKind) (rest : List ℕ) → sorted n xs ≡ true → distinct xs ≡ true → IsLongest xs text kind rest → find xs text ≡ Some (kind, rest)
finds n xs text kind rest e d h = finds_by n xs text kind rest e d h (find xs text) refl

-- ---- a dot before a digit

is_number_dot : (c : ℕ) (cs : List ℕ) → (c == 46 && begins_with_digit cs) ≡ true → IsNumberDot (c ∷ cs)
is_number_dot c [] e = let parts = and_parts (c == 46) false e in absurd (false≢true parts.1)
is_number_dot c (d ∷ ds) e =
    let parts = and_parts (c == 46) (is_decimal_digit d) e in
    (d, ds, ap (λ (x : ℕ). x ∷ d ∷ ds) (eqb-true c 46 parts.0), parts.1)

number_dot : (text : List ℕ) → IsNumberDot text → (c : ℕ) (cs : List ℕ) → text ≡ c ∷ cs → (c == 46 && begins_with_digit cs) ≡ true
number_dot text h c cs e =
    let same : 46 ∷ h.0 ∷ h.1 ≡ c ∷ cs = sym h.2 ∙ e in
    let head : c ≡ 46 = cc in
    let more : cs ≡ h.0 ∷ h.1 = cc in
    rw head (rw more h.3)

-- what is read of a list of spellings
module _ (xs : List Spelling) (some : all_some xs ≡ true) (order : sorted 4 xs ≡ true) (once : distinct xs ≡ true) where
  over : ℕ → List ℕ → Option (TokenKind × List ℕ)
  over c cs = cond (c == 46 && begins_with_digit cs) None (find (tails c xs) cs)

  over_read : (c : ℕ) (cs : List ℕ) (kind : TokenKind) (rest : List ℕ) → over c cs ≡ Some (kind, rest) → (IsNumberDot (c ∷ cs) → ⊥) × IsLongest xs (c ∷ cs) kind rest
  unfolding over
  over_read c cs kind rest e = ⊎_elim
      (λ (t : (c == 46 && begins_with_digit cs) ≡ true). absurd (no_answer (kind, rest) (sym (ap (λ b. cond b None (find (tails c xs) cs)) t) ∙ e)))
      (λ (t : (c == 46 && begins_with_digit cs) ≡ false). (
        λ h. false≢true (sym t ∙ number_dot (c ∷ cs) h c cs refl),
        found 4 xs (c ∷ cs) kind rest order (find_tails c cs xs some ∙ sym (ap (λ b. cond b None (find (tails c xs) cs)) t) ∙ e),
      ))
      (cases_Bool (c == 46 && begins_with_digit cs))

  read_over : (c : ℕ) (cs : List ℕ) (kind : TokenKind) (rest : List ℕ) → (IsNumberDot (c ∷ cs) → ⊥) × IsLongest xs (c ∷ cs) kind rest → over c cs ≡ Some (kind, rest)
  unfolding over
  read_over c cs kind rest h = ⊎_elim
      (λ (t : (c == 46 && begins_with_digit cs) ≡ true). absurd (h.0 (is_number_dot c cs t)))
      (λ (t : (c == 46 && begins_with_digit cs) ≡ false). ap (λ b. cond b None (find (tails c xs) cs)) t ∙ sym (find_tails c cs xs some) ∙ finds 4 xs (c ∷ cs) kind rest order once h.1)
      (cases_Bool (c == 46 && begins_with_digit cs))

  nothing_longest : (kind : TokenKind) (rest : List ℕ) → find xs [] ≡ None → IsLongest xs [] kind rest → ⊥
  nothing_longest kind rest e h = no_answer (kind, rest) (sym e ∙ finds 4 xs [] kind rest order once h)

-- ---- the list of punctuators

ordered : sorted 4 punctuators ≡ true
unfolding sorted
ordered = refl

apart : distinct punctuators ≡ true
unfolding distinct has
apart = refl

spelled_all : all_some punctuators ≡ true
unfolding all_some is_some_text
spelled_all = refl

pub is_read : (text : List ℕ) (kind : TokenKind) (rest : List ℕ) → read_punctuator text ≡ Some (kind, rest) → IsPunctuator text kind rest
unfolding over
is_read [] kind rest e = absurd (no_answer (kind, rest) e)
is_read (c ∷ cs) kind rest e = over_read punctuators spelled_all ordered apart c cs kind rest e

pub reads : (text : List ℕ) (kind : TokenKind) (rest : List ℕ) → IsPunctuator text kind rest → read_punctuator text ≡ Some (kind, rest)
unfolding over
reads [] kind rest h = absurd (nothing_longest punctuators spelled_all ordered apart kind rest refl h.1)
reads (c ∷ cs) kind rest h = read_over punctuators spelled_all ordered apart c cs kind rest h

pub answers : (text : List ℕ) (r : Option (TokenKind × Bor (List ℕ))) → option_map (λ x. (x.0, chars x.1.now)) r ≡ read_punctuator text
    → MatchOption r (NoPunctuator text) (λ x. IsPunctuator text x.0 (chars x.1.now))
answers text None e = λ kind rest h. no_answer (kind, rest) (e ∙ reads text kind rest h)
answers text (Some x) e = is_read text x.0 (chars x.1.now) (sym e)

pub one_punctuator : (text : List ℕ) → OnePunctuator text
one_punctuator text k l r s h g = let e = sym (reads text k r h) ∙ reads text l s g in same_answer (k, r) (l, s) e
