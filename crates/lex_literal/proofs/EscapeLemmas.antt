-- The escape that is read is the one that the definition has.
use Rattle.std.proofs.Common.{◌≡◌, ℕ, ◌+◌, ◌*◌, ◌⊎◌, inl, inr, ⊎_elim, Bool, true, false, cond, List, [], ◌∷◌, ◌++◌, append_assoc, refl, sym, ap, subst, ◌∙◌, arith}
use Rattle.std.specs.Prelude.{Some, None, is_some, unwrap_or, if◌then◌else◌, ◌==◌, not, ◌&&◌}
use Rattle.std.specs.Char.{digit_value}
use Rattle.std.specs.Str.Parse.{digits_value}
use Rattle.std.proofs.lemmas.Bool.{cases_Bool, false≢true}
use Rattle.std.proofs.lemmas.Bool.Decides.{nat_tests}
use Rattle.lex_pieces.specs.Characters.{is_line_terminator}
use Rattle.lex_pieces.specs.Runs.{Each, run, after}
use Rattle.lex_literal.specs.declared.escape.Escape.{Escape}
use Rattle.lex_literal.specs.declared.escape.Escape.TheVariants.{Continuation, Code, Legacy}
use Rattle.lex_literal.specs.Escapes.{is_decimal, is_hex, is_octal, is_low_octal, is_eight_or_nine, begins, single, is_code, is_special, is_line_feed, IsEscape, NoEscape, IsSingle, IsNul, IsHexEscape, IsUnicodeEscape, IsBraced, IsOneOctal, AreTwoOctals, AreThreeOctals, IsEightOrNine, IsLineEnd}
use Rattle.lex_literal.specs.Places.{EndsWith}
use Rattle.lex_literal.specs.Reading.{Found, ◌>>=◌, next_hex, hex_escape, four_hex, code_of, closed, braced, unicode_escape, next_octal, last_octal, octal_digits, octal_escape, past_line_feed, escape_by, escape_at}
use Rattle.lex_literal.proofs.RunLemmas.{run_after, run_each, run_exact, after_exact}

-- ---- what is read stands there

abbrev Sure : Found → (Escape → List ℕ → Type 0) → Type 0
Sure None P = Unit {0}
Sure (Some x) P = P x.0 x.1

if_sure : (b : Bool) (x y : Found) (P : Escape → List ℕ → Type 0) → (b ≡ true → Sure x P) → (b ≡ false → Sure y P) → Sure (if b then x else y) P
if_sure true x y P f g = f refl
if_sure false x y P f g = g refl

-- a step over one digit
hex_sure : (n : ℕ) (cs : List ℕ) (k : ℕ × List ℕ → Found) (P : Escape → List ℕ → Type 0)
    → ((c : ℕ) (r : List ℕ) → cs ≡ c ∷ r → is_hex c ≡ true → Sure (k (n * 16 + digit_value c, r)) P) → Sure (next_hex n cs >>= k) P
unfolding next_hex
hex_sure n [] k P h = tt
hex_sure n (c ∷ cs) k P h = ⊎_elim
    (λ (e : is_hex c ≡ true). subst (λ (b : Bool). Sure ((if b then Some (n * 16 + digit_value c, cs) else None) >>= k) P) (sym e) (h c cs refl e))
    (λ (e : is_hex c ≡ false). subst (λ (b : Bool). Sure ((if b then Some (n * 16 + digit_value c, cs) else None) >>= k) P) (sym e) tt)
    (cases_Bool (is_hex c))

hex_escape_sure : (cs : List ℕ) → Sure (hex_escape cs) (λ e r. IsEscape e (120 ∷ cs) r)
unfolding hex_escape
hex_escape_sure cs =
    hex_sure 0 cs _ _ (λ a r e h. hex_sure (0 * 16 + digit_value a) r _ _ (λ b s f i.
    inr (inr (inl (a, b, ap (λ (l : List ℕ). 120 ∷ l) (e ∙ ap (λ (l : List ℕ). a ∷ l) f), (h, (i, tt)), refl)))))

four_hex_sure : (cs : List ℕ) → Sure (four_hex cs) (λ e r. IsEscape e (117 ∷ cs) r)
unfolding four_hex
four_hex_sure cs =
    hex_sure 0 cs _ _ (λ a r e h. hex_sure (0 * 16 + digit_value a) r _ _ (λ b s f i.
    hex_sure ((0 * 16 + digit_value a) * 16 + digit_value b) s _ _ (λ c t g j.
    hex_sure (((0 * 16 + digit_value a) * 16 + digit_value b) * 16 + digit_value c) t _ _ (λ d u k l.
    inr (inr (inr (inl (
      a,
      b,
      c,
      d,
      ap (λ (x : List ℕ). 117 ∷ x) (e ∙ ap (λ (x : List ℕ). a ∷ x) (f ∙ ap (λ (x : List ℕ). b ∷ x) (g ∙ ap (λ (x : List ℕ). c ∷ x) k))),
      (h, (i, (j, (l, tt)))),
      refl,
    ))))))))

closed_sure : (n : ℕ) (m : List ℕ) (P : Escape → List ℕ → Type 0) → ((r : List ℕ) → m ≡ 125 ∷ r → P (Code n) r) → Sure (closed n m) P
closed_sure n [] P h = tt
closed_sure n (c ∷ cs) P h =
    if_sure (c == 125) (Some (Code n, cs)) None P (λ e. h cs (let f : c ≡ 125 = grind (arith, nat_tests) in ap (λ x. x ∷ cs) f)) (λ e. tt)

code_sure : (ds m : List ℕ) (P : Escape → List ℕ → Type 0)
    → (is_code ds ≡ true → (r : List ℕ) → m ≡ 125 ∷ r → P (Code (digits_value 16 ds)) r) → Sure (code_of ds >>= λ n. closed n m) P
code_sure ds m P h = ⊎_elim
    (λ (e : is_code ds ≡ true).
    subst (λ (b : Bool). Sure ((if b then Some (digits_value 16 ds) else None) >>= λ n. closed n m) P) (sym e) (closed_sure (digits_value 16 ds) m P (h e)))
    (λ (e : is_code ds ≡ false). subst (λ (b : Bool). Sure ((if b then Some (digits_value 16 ds) else None) >>= λ n. closed n m) P) (sym e) tt)
    (cases_Bool (is_code ds))

braced_sure : (cs : List ℕ) → Sure (braced cs) (λ e r. IsEscape e (117 ∷ 123 ∷ cs) r)
unfolding braced
braced_sure cs =
    code_sure (run is_hex cs) (after is_hex cs) (λ e r. IsEscape e (117 ∷ 123 ∷ cs) r) (λ t r e.
    inr (inr (inr (inr (
      run is_hex cs,
      ap (λ (l : List ℕ). 117 ∷ 123 ∷ l) (run_after is_hex cs ∙ ap (λ l. run is_hex cs ++ l) e),
      run_each is_hex cs,
      t,
      refl,
    )))))

unicode_sure : (cs : List ℕ) → Sure (unicode_escape cs) (λ e r. IsEscape e (117 ∷ cs) r)
unfolding unicode_escape
unicode_sure [] = tt
unicode_sure (c ∷ cs) =
    if_sure (c == 123) (braced cs) (four_hex (c ∷ cs)) _
    (λ t. let f : c ≡ 123 = grind (arith, nat_tests) in subst (λ x. Sure (braced cs) (λ e r. IsEscape e (117 ∷ x ∷ cs) r)) (sym f) (braced_sure cs))
    (λ t. four_hex_sure (c ∷ cs))

-- ---- octal digits

next_octal_more : (n c : ℕ) (cs : List ℕ) → is_octal c ≡ true → next_octal n (c ∷ cs) ≡ (n * 8 + digit_value c, cs)
unfolding next_octal
next_octal_more n c cs e = ap (λ (b : Bool). cond b (n * 8 + digit_value c, cs) (n, c ∷ cs)) e

next_octal_none : (n : ℕ) (cs : List ℕ) → begins is_octal cs ≡ false → next_octal n cs ≡ (n, cs)
unfolding next_octal
next_octal_none n [] e = refl
next_octal_none n (c ∷ cs) e = ap (λ (b : Bool). cond b (n * 8 + digit_value c, cs) (n, c ∷ cs)) e

eight_or_nine : (c : ℕ) → is_decimal c ≡ true → is_octal c ≡ false → is_eight_or_nine c ≡ true
eight_or_nine c d o = grind (arith, nat_tests)

not_nul : (a : ℕ) (b : Bool) → a ≡ 48 → (a == 48 && not b) ≡ false → b ≡ true
not_nul a true e h = refl
not_nul a false e h = absurd (false≢true (sym h ∙ ap (λ x. x == 48 && true) e))

plain : (c : ℕ) → (c == 120) ≡ false → (c == 117) ≡ false → is_octal c ≡ false → is_eight_or_nine c ≡ false → is_line_terminator c ≡ false → is_special c ≡ false
plain c x u o n l = grind (arith, nat_tests)

-- the digits that are read stand there
abbrev AreOctals : ℕ → List ℕ → ℕ → List ℕ → Type 0
AreOctals a cs n r = IsOneOctal n (a ∷ cs) r ⊎ (AreTwoOctals n (a ∷ cs) r ⊎ AreThreeOctals n (a ∷ cs) r)

first_value : (a : ℕ) → digit_value a ≡ digits_value 8 (a ∷ [])
first_value a = omega arith

module _ (a : ℕ) (octal : is_octal a ≡ true) where
  -- behind two digits
  behind_two : (b : ℕ) (cs : List ℕ) → is_octal b ≡ true → let x = last_octal (is_low_octal a) (digits_value 8 (a ∷ b ∷ []), cs) in AreOctals a (b ∷ cs) x.0 x.1
  behind_two b [] h = ⊎_elim
      (λ (low : is_low_octal a ≡ true).
      subst (λ (t : Bool). let x = last_octal t (digits_value 8 (a ∷ b ∷ []), []) in AreOctals a (b ∷ []) x.0 x.1) (sym low)
      (subst (λ (x : ℕ × List ℕ). AreOctals a (b ∷ []) x.0 x.1) (sym (next_octal_none (digits_value 8 (a ∷ b ∷ [])) [] refl))
      (inr (inl (a, b, refl, (octal, (h, tt)), refl, λ _. refl)))))
      (λ (high : is_low_octal a ≡ false).
      subst (λ (t : Bool). let x = last_octal t (digits_value 8 (a ∷ b ∷ []), []) in AreOctals a (b ∷ []) x.0 x.1) (sym high)
      (inr (inl (a, b, refl, (octal, (h, tt)), refl, λ _. refl))))
      (cases_Bool (is_low_octal a))
  behind_two b (c ∷ cs) h = ⊎_elim
      (λ (low : is_low_octal a ≡ true).
      subst (λ (t : Bool). let x = last_octal t (digits_value 8 (a ∷ b ∷ []), c ∷ cs) in AreOctals a (b ∷ c ∷ cs) x.0 x.1) (sym low)
      (⊎_elim
      (λ (i : is_octal c ≡ true).
      subst (λ (x : ℕ × List ℕ). AreOctals a (b ∷ c ∷ cs) x.0 x.1) (sym (next_octal_more (digits_value 8 (a ∷ b ∷ [])) c cs i))
      (inr (inr (a, b, c, refl, low, (h, (i, tt)), refl))))
      (λ (i : is_octal c ≡ false).
      subst (λ (x : ℕ × List ℕ). AreOctals a (b ∷ c ∷ cs) x.0 x.1) (sym (next_octal_none (digits_value 8 (a ∷ b ∷ [])) (c ∷ cs) i))
      (inr (inl (a, b, refl, (octal, (h, tt)), refl, λ _. i))))
      (cases_Bool (is_octal c))))
      (λ (high : is_low_octal a ≡ false).
      subst (λ (t : Bool). let x = last_octal t (digits_value 8 (a ∷ b ∷ []), c ∷ cs) in AreOctals a (b ∷ c ∷ cs) x.0 x.1) (sym high)
      (inr (inl (a, b, refl, (octal, (h, tt)), refl, λ low. absurd (false≢true (sym high ∙ low))))))
      (cases_Bool (is_low_octal a))

  -- behind one
  behind_one : (cs : List ℕ) → begins is_octal cs ≡ false → (a ≡ 48 → begins is_eight_or_nine cs ≡ true) → let x = octal_digits a cs in AreOctals a cs x.0 x.1
  unfolding octal_digits
  behind_one cs e zero_before =
      let once = next_octal_none (digit_value a) cs e in
      let twice : (t : Bool) → last_octal t (next_octal (digit_value a) cs) ≡ (digit_value a, cs) =
      λ t. ap (last_octal t) once ∙ elim t as (λ v. last_octal v (digit_value a, cs) ≡ (digit_value a, cs)) [ true ↦ once | false ↦ refl ] in
      subst (λ (x : ℕ × List ℕ). AreOctals a cs x.0 x.1) (sym (twice (is_low_octal a)))
      (inl (a, refl, octal, first_value a, e, zero_before))

  two_digits : (c : ℕ) (cs : List ℕ) → is_octal c ≡ true → octal_digits a (c ∷ cs) ≡ last_octal (is_low_octal a) (digits_value 8 (a ∷ c ∷ []), cs)
  unfolding octal_digits
  two_digits c cs e =
      ap (last_octal (is_low_octal a)) (next_octal_more (digit_value a) c cs e ∙ ap (λ n. (n * 8 + digit_value c, cs)) (first_value a))

  -- behind any
  behind_any : (cs : List ℕ) → (a ≡ 48 → begins is_decimal cs ≡ true) → let x = octal_digits a cs in AreOctals a cs x.0 x.1
  behind_any [] z = behind_one [] refl (λ e. absurd (false≢true (z e)))
  behind_any (c ∷ cs) z = ⊎_elim
      (λ (e : is_octal c ≡ true).
      subst (λ (x : ℕ × List ℕ). AreOctals a (c ∷ cs) x.0 x.1) (sym (two_digits c cs e)) (behind_two c cs e))
      (λ (e : is_octal c ≡ false). behind_one (c ∷ cs) e (λ f. eight_or_nine c (z f) e))
      (cases_Bool (is_octal c))

legacy : (n : ℕ) (a : ℕ) (cs r : List ℕ) → AreOctals a cs n r → IsEscape (Legacy n) (a ∷ cs) r
legacy n a cs r h = ⊎_elim
    (λ (x : IsOneOctal n (a ∷ cs) r). inl x)
    (λ (y : AreTwoOctals n (a ∷ cs) r ⊎ AreThreeOctals n (a ∷ cs) r). ⊎_elim
    (λ (x : AreTwoOctals n (a ∷ cs) r). inr (inl x))
    (λ (x : AreThreeOctals n (a ∷ cs) r). inr (inr (inl x)))
    y)
    h

octal_sure : (a : ℕ) (cs : List ℕ) → is_octal a ≡ true → Sure (Some (octal_escape a cs)) (λ e r. IsEscape e (a ∷ cs) r)
unfolding octal_escape
octal_sure a cs octal = ⊎_elim
    (λ (e : (a == 48 && not (begins is_decimal cs)) ≡ true).
    let at : a ≡ 48 = grind (arith, nat_tests) in
    let behind : begins is_decimal cs ≡ false = grind (arith, nat_tests) in
    subst (λ (t : Bool). Sure (Some (if t then (Code 0, cs) else (Legacy (octal_digits a cs).0, (octal_digits a cs).1))) (λ e r. IsEscape e (a ∷ cs) r)) (sym e)
    (inr (inl (ap (λ x. x ∷ cs) at, behind, refl))))
    (λ (e : (a == 48 && not (begins is_decimal cs)) ≡ false).
    let z : a ≡ 48 → begins is_decimal cs ≡ true = λ f. not_nul a (begins is_decimal cs) f e in
    subst (λ (t : Bool). Sure (Some (if t then (Code 0, cs) else (Legacy (octal_digits a cs).0, (octal_digits a cs).1))) (λ e r. IsEscape e (a ∷ cs) r)) (sym e)
    (legacy (octal_digits a cs).0 a cs (octal_digits a cs).1 (behind_any a octal cs z)))
    (cases_Bool (a == 48 && not (begins is_decimal cs)))

line_end : (cs : List ℕ) → IsLineEnd (13 ∷ cs) (past_line_feed cs)
line_end [] = inr (13, refl, refl, λ _. refl)
line_end (c ∷ cs) = ⊎_elim
    (λ (e : (c == 10) ≡ true).
    let at : c ≡ 10 = grind (arith, nat_tests) in
    subst (λ (t : Bool). IsLineEnd (13 ∷ c ∷ cs) (if t then cs else c ∷ cs)) (sym e) (inl (ap (λ x. 13 ∷ x ∷ cs) at)))
    (λ (e : (c == 10) ≡ false).
    subst (λ (t : Bool). IsLineEnd (13 ∷ c ∷ cs) (if t then cs else c ∷ cs)) (sym e) (inr (13, refl, refl, λ _. e)))
    (cases_Bool (c == 10))

abbrev By : ℕ → List ℕ → Escape → List ℕ → Type 0
By c cs e r = IsEscape e (c ∷ cs) r

by_sure : (c : ℕ) (cs : List ℕ) → Sure (escape_by c cs) (By c cs)
unfolding escape_by
by_sure c cs =
    if_sure (c == 120) _ _ (By c cs)
    (λ t. let at : c ≡ 120 = grind (arith, nat_tests) in subst (λ x. Sure (hex_escape cs) (By x cs)) (sym at) (hex_escape_sure cs))
    (λ x. if_sure (c == 117) _ _ (By c cs)
    (λ t. let at : c ≡ 117 = grind (arith, nat_tests) in subst (λ x. Sure (unicode_escape cs) (By x cs)) (sym at) (unicode_sure cs))
    (λ u. if_sure (is_octal c) _ _ (By c cs)
    (λ t. octal_sure c cs t)
    (λ o. if_sure (is_eight_or_nine c) _ _ (By c cs)
    (λ t. inr (inr (inr (refl, t))))
    (λ n. if_sure (c == 13) _ _ (By c cs)
    (λ t. let at : c ≡ 13 = grind (arith, nat_tests) in subst (λ x. Sure (Some (Continuation, past_line_feed cs)) (By x cs)) (sym at) (line_end cs))
    (λ r. if_sure (is_line_terminator c) _ _ (By c cs)
    (λ t. inr (c, refl, t, λ at. absurd (false≢true (sym r ∙ ap (λ k. k == 13) at))))
    (λ l. inl (c, refl, plain c x u o n l, refl)))))))

pub escape_sure : (text : List ℕ) → Sure (escape_at text) (λ e r. IsEscape e text r)
escape_sure [] = tt
escape_sure (c ∷ cs) = by_sure c cs

pub found_stands : (text : List ℕ) (e : Escape) (r : List ℕ) → Some (e, r) ≡ escape_at text → IsEscape e text r
found_stands text e r h = subst (λ x. Sure x (λ e r. IsEscape e text r)) (sym h) (escape_sure text)

-- ---- what stands there is read

if_true : {A : Type 0} (b : Bool) (x y : A) → b ≡ true → (if b then x else y) ≡ x
if_true b x y e = ap (λ t. cond t x y) e

if_false : {A : Type 0} (b : Bool) (x y : A) → b ≡ false → (if b then x else y) ≡ y
if_false b x y e = ap (λ t. cond t x y) e

by_octal : (c : ℕ) (cs : List ℕ) → is_octal c ≡ true → escape_by c cs ≡ Some (octal_escape c cs)
unfolding escape_by
by_octal c cs o =
    let x : (c == 120) ≡ false = grind (arith, nat_tests) in
    let u : (c == 117) ≡ false = grind (arith, nat_tests) in
    if_false (c == 120) _ _ x ∙ if_false (c == 117) _ _ u ∙ if_true (is_octal c) _ _ o

by_eight : (c : ℕ) (cs : List ℕ) → is_eight_or_nine c ≡ true → escape_by c cs ≡ Some (Legacy c, cs)
unfolding escape_by
by_eight c cs n =
    let x : (c == 120) ≡ false = grind (arith, nat_tests) in
    let u : (c == 117) ≡ false = grind (arith, nat_tests) in
    let o : is_octal c ≡ false = grind (arith, nat_tests) in
    if_false (c == 120) _ _ x ∙ if_false (c == 117) _ _ u ∙ if_false (is_octal c) _ _ o ∙ if_true (is_eight_or_nine c) _ _ n

by_terminator : (c : ℕ) (cs : List ℕ) → is_line_terminator c ≡ true → (c ≡ 13 → begins is_line_feed cs ≡ false) → escape_by c cs ≡ Some (Continuation, cs)
unfolding escape_by
by_terminator c cs l h =
    let x : (c == 120) ≡ false = grind (arith, nat_tests) in
    let u : (c == 117) ≡ false = grind (arith, nat_tests) in
    let o : is_octal c ≡ false = grind (arith, nat_tests) in
    let n : is_eight_or_nine c ≡ false = grind (arith, nat_tests) in
    if_false (c == 120) _ _ x ∙ if_false (c == 117) _ _ u ∙ if_false (is_octal c) _ _ o ∙ if_false (is_eight_or_nine c) _ _ n
    ∙ ⊎_elim
    (λ (e : (c == 13) ≡ true).
    let at : c ≡ 13 = grind (arith, nat_tests) in
    if_true (c == 13) _ _ e ∙ ap (λ r. Some (Continuation, r)) (no_line_feed cs (h at)))
    (λ (e : (c == 13) ≡ false). if_false (c == 13) _ _ e ∙ if_true (is_line_terminator c) _ _ l)
    (cases_Bool (c == 13))
  where
    no_line_feed : (cs : List ℕ) → begins is_line_feed cs ≡ false → past_line_feed cs ≡ cs
    no_line_feed [] e = refl
    no_line_feed (c ∷ cs) e = if_false (c == 10) cs (c ∷ cs) e

by_single : (c : ℕ) (cs : List ℕ) → is_special c ≡ false → escape_by c cs ≡ Some (Code (single c), cs)
unfolding escape_by
by_single c cs s =
    let x : (c == 120) ≡ false = grind (arith, nat_tests) in
    let u : (c == 117) ≡ false = grind (arith, nat_tests) in
    let o : is_octal c ≡ false = grind (arith, nat_tests) in
    let n : is_eight_or_nine c ≡ false = grind (arith, nat_tests) in
    let r : (c == 13) ≡ false = grind (arith, nat_tests) in
    let l : is_line_terminator c ≡ false = grind (arith, nat_tests) in
    if_false (c == 120) _ _ x ∙ if_false (c == 117) _ _ u ∙ if_false (is_octal c) _ _ o ∙ if_false (is_eight_or_nine c) _ _ n
    ∙ if_false (c == 13) _ _ r ∙ if_false (is_line_terminator c) _ _ l

hex_more : (n c : ℕ) (cs : List ℕ) → is_hex c ≡ true → next_hex n (c ∷ cs) ≡ Some (n * 16 + digit_value c, cs)
unfolding next_hex
hex_more n c cs e = if_true (is_hex c) _ _ e

hex_read : (a b : ℕ) (r : List ℕ) → is_hex a ≡ true → is_hex b ≡ true → hex_escape (a ∷ b ∷ r) ≡ Some (Code (digits_value 16 (a ∷ b ∷ [])), r)
unfolding hex_escape
hex_read a b r h i =
    ap (λ x. x >>= λ y. next_hex y.0 y.1 >>= λ z. Some (Code z.0, z.1)) (hex_more 0 a (b ∷ r) h)
    ∙ ap (λ x. x >>= λ z. Some (Code z.0, z.1)) (hex_more (0 * 16 + digit_value a) b r i)

four_read : (a b c d : ℕ) (r : List ℕ) → Each is_hex (a ∷ b ∷ c ∷ d ∷ []) → four_hex (a ∷ b ∷ c ∷ d ∷ r) ≡ Some (Code (digits_value 16 (a ∷ b ∷ c ∷ d ∷ [])), r)
unfolding four_hex
four_read a b c d r h =
    ap (λ x. x >>= λ y. next_hex y.0 y.1 >>= λ z. next_hex z.0 z.1 >>= λ v. next_hex v.0 v.1 >>= λ w. Some (Code w.0, w.1)) (hex_more 0 a (b ∷ c ∷ d ∷ r) h.0)
    ∙ ap (λ x. x >>= λ z. next_hex z.0 z.1 >>= λ v. next_hex v.0 v.1 >>= λ w. Some (Code w.0, w.1)) (hex_more (0 * 16 + digit_value a) b (c ∷ d ∷ r) h.1.0)
    ∙ ap (λ x. x >>= λ v. next_hex v.0 v.1 >>= λ w. Some (Code w.0, w.1)) (hex_more ((0 * 16 + digit_value a) * 16 + digit_value b) c (d ∷ r) h.1.1.0)
    ∙ ap (λ x. x >>= λ w. Some (Code w.0, w.1)) (hex_more (((0 * 16 + digit_value a) * 16 + digit_value b) * 16 + digit_value c) d r h.1.1.1.0)

unicode_read : (a b c d : ℕ) (r : List ℕ) → Each is_hex (a ∷ b ∷ c ∷ d ∷ []) → unicode_escape (a ∷ b ∷ c ∷ d ∷ r) ≡ Some (Code (digits_value 16 (a ∷ b ∷ c ∷ d ∷ [])), r)
unfolding unicode_escape
unicode_read a b c d r h =
    let e : (a == 123) ≡ false = grind (arith, nat_tests, h.0) in
    if_false (a == 123) _ _ e ∙ four_read a b c d r h

braced_read : (ds r : List ℕ) → Each is_hex ds → is_code ds ≡ true → unicode_escape (123 ∷ (ds ++ 125 ∷ r)) ≡ Some (Code (digits_value 16 ds), r)
unfolding unicode_escape braced
braced_read ds r h t =
    ap (λ l. code_of l >>= λ n. closed n (after is_hex (ds ++ 125 ∷ r))) (run_exact is_hex ds 125 r h refl)
    ∙ ap (λ l. code_of ds >>= λ n. closed n l) (after_exact is_hex ds 125 r h refl)
    ∙ ap (λ x. x >>= λ n. closed n (125 ∷ r)) (if_true (is_code ds) (Some (digits_value 16 ds)) None t)

octal_legacy : (a : ℕ) (cs : List ℕ) → (a ≡ 48 → begins is_decimal cs ≡ true) → octal_escape a cs ≡ (Legacy (octal_digits a cs).0, (octal_digits a cs).1)
unfolding octal_escape
octal_legacy a cs z = if_false (a == 48 && not (begins is_decimal cs)) _ _ (no_nul a (begins is_decimal cs) z)
  where
    no_nul : (a : ℕ) (b : Bool) → (a ≡ 48 → b ≡ true) → (a == 48 && not b) ≡ false
    no_nul a b h = ⊎_elim
        (λ (e : (a == 48) ≡ true). let at : a ≡ 48 = grind (arith, nat_tests) in ap (λ t. a == 48 && not t) (h at) ∙ grind (arith, nat_tests))
        (λ (e : (a == 48) ≡ false). ap (λ t. t && not b) e)
        (cases_Bool (a == 48))

octal_read : (a n : ℕ) (cs r : List ℕ) → is_octal a ≡ true → (a ≡ 48 → begins is_decimal cs ≡ true) → octal_digits a cs ≡ (n, r) → escape_by a cs ≡ Some (Legacy n, r)
octal_read a n cs r o z e =
    by_octal a cs o ∙ ap Some (octal_legacy a cs z) ∙ ap (λ (x : ℕ × List ℕ). Some (Legacy x.0, x.1)) e

one_digit : (a : ℕ) (cs : List ℕ) → begins is_octal cs ≡ false → octal_digits a cs ≡ (digit_value a, cs)
unfolding octal_digits
one_digit a cs e =
    let once = next_octal_none (digit_value a) cs e in
    ap (last_octal (is_low_octal a)) once ∙ elim (is_low_octal a) as (λ v. last_octal v (digit_value a, cs) ≡ (digit_value a, cs)) [ true ↦ once | false ↦ refl ]

nine_is_decimal : (cs : List ℕ) → begins is_eight_or_nine cs ≡ true → begins is_decimal cs ≡ true
nine_is_decimal [] e = e
nine_is_decimal (c ∷ cs) e = grind (arith, nat_tests)

octal_is_decimal : (c : ℕ) → is_octal c ≡ true → is_decimal c ≡ true
octal_is_decimal c e = grind (arith, nat_tests)

pub low_is_octal : (c : ℕ) → is_low_octal c ≡ true → is_octal c ≡ true
low_is_octal c e = grind (arith, nat_tests)

last_none : (low : Bool) (n : ℕ) (r : List ℕ) → (low ≡ true → begins is_octal r ≡ false) → last_octal low (n, r) ≡ (n, r)
last_none true n r h = next_octal_none n r (h refl)
last_none false n r h = refl

one_read : (n : ℕ) (text r : List ℕ) → IsOneOctal n text r → escape_at text ≡ Some (Legacy n, r)
one_read n text r h =
    let a = h.0 in
    ap escape_at h.1 ∙ octal_read a n r r h.2 (λ e. nine_is_decimal r (h.5 e)) (one_digit a r h.4 ∙ ap (λ m. (m, r)) (first_value a ∙ sym h.3))

two_read : (n : ℕ) (text r : List ℕ) → AreTwoOctals n text r → escape_at text ≡ Some (Legacy n, r)
two_read n text r h =
    let a = h.0 in
    let b = h.1 in
    ap escape_at h.2 ∙ octal_read a n (b ∷ r) r h.3.0 (λ e. octal_is_decimal b h.3.1.0)
    (two_digits a h.3.0 b r h.3.1.0 ∙ last_none (is_low_octal a) (digits_value 8 (a ∷ b ∷ [])) r h.5 ∙ ap (λ m. (m, r)) (sym h.4))

three_read : (n : ℕ) (text r : List ℕ) → AreThreeOctals n text r → escape_at text ≡ Some (Legacy n, r)
three_read n text r h =
    let a = h.0 in
    let b = h.1 in
    let c = h.2 in
    let o = low_is_octal a h.4 in
    ap escape_at h.3 ∙ octal_read a n (b ∷ c ∷ r) r o (λ e. octal_is_decimal b h.5.0)
    (two_digits a o b (c ∷ r) h.5.0 ∙ ap (λ t. last_octal t (digits_value 8 (a ∷ b ∷ []), c ∷ r)) h.4
    ∙ next_octal_more (digits_value 8 (a ∷ b ∷ [])) c r h.5.1.0 ∙ ap (λ m. (m, r)) (sym h.6))

eight_read : (n : ℕ) (text r : List ℕ) → IsEightOrNine n text r → escape_at text ≡ Some (Legacy n, r)
eight_read n text r h = ap escape_at h.0 ∙ by_eight n r h.1

line_read : (text r : List ℕ) → IsLineEnd text r → escape_at text ≡ Some (Continuation, r)
unfolding escape_by
line_read text r h = ⊎_elim
    (λ (e : text ≡ 13 ∷ 10 ∷ r). ap escape_at e)
    (λ (x : (c : ℕ) × (text ≡ c ∷ r) × (is_line_terminator c ≡ true) × (c ≡ 13 → begins is_line_feed r ≡ false)).
    ap escape_at x.1 ∙ by_terminator x.0 r x.2 x.3)
    h

nul_read : (n : ℕ) (text r : List ℕ) → IsNul n text r → escape_at text ≡ Some (Code n, r)
unfolding octal_escape
nul_read n text r h =
    ap escape_at h.0 ∙ by_octal 48 r refl ∙ ap Some (ap (λ t. if not t then (Code 0, r) else (Legacy (octal_digits 48 r).0, (octal_digits 48 r).1)) h.1)
    ∙ ap (λ m. Some (Code m, r)) (sym h.2)

single_read : (n : ℕ) (text r : List ℕ) → IsSingle n text r → escape_at text ≡ Some (Code n, r)
single_read n text r h = ap escape_at h.1 ∙ by_single h.0 r h.2 ∙ ap (λ m. Some (Code m, r)) (sym h.3)

x_read : (n : ℕ) (text r : List ℕ) → IsHexEscape n text r → escape_at text ≡ Some (Code n, r)
unfolding escape_by
x_read n text r h = ap escape_at h.2 ∙ hex_read h.0 h.1 r h.3.0 h.3.1.0 ∙ ap (λ m. Some (Code m, r)) (sym h.4)

u_read : (n : ℕ) (text r : List ℕ) → IsUnicodeEscape n text r → escape_at text ≡ Some (Code n, r)
unfolding escape_by
u_read n text r h = ap escape_at h.4 ∙ unicode_read h.0 h.1 h.2 h.3 r h.5 ∙ ap (λ m. Some (Code m, r)) (sym h.6)

brace_read : (n : ℕ) (text r : List ℕ) → IsBraced n text r → escape_at text ≡ Some (Code n, r)
unfolding escape_by
brace_read n text r h = ap escape_at h.1 ∙ braced_read h.0 r h.2 h.3 ∙ ap (λ m. Some (Code m, r)) (sym h.4)

pub escape_read : (e : Escape) (text r : List ℕ) → IsEscape e text r → escape_at text ≡ Some (e, r)
escape_read Continuation text r h = line_read text r h
escape_read (Code n) text r h = ⊎_elim
    (λ (x : IsSingle n text r). single_read n text r x)
    (λ (y : IsNul n text r ⊎ (IsHexEscape n text r ⊎ (IsUnicodeEscape n text r ⊎ IsBraced n text r))). ⊎_elim
    (λ (x : IsNul n text r). nul_read n text r x)
    (λ (z : IsHexEscape n text r ⊎ (IsUnicodeEscape n text r ⊎ IsBraced n text r)). ⊎_elim
    (λ (x : IsHexEscape n text r). x_read n text r x)
    (λ (v : IsUnicodeEscape n text r ⊎ IsBraced n text r). ⊎_elim
    (λ (x : IsUnicodeEscape n text r). u_read n text r x)
    (λ (x : IsBraced n text r). brace_read n text r x)
    v)
    z)
    y)
    h
escape_read (Legacy n) text r h = ⊎_elim
    (λ (x : IsOneOctal n text r). one_read n text r x)
    (λ (y : AreTwoOctals n text r ⊎ (AreThreeOctals n text r ⊎ IsEightOrNine n text r)). ⊎_elim
    (λ (x : AreTwoOctals n text r). two_read n text r x)
    (λ (z : AreThreeOctals n text r ⊎ IsEightOrNine n text r). ⊎_elim
    (λ (x : AreThreeOctals n text r). three_read n text r x)
    (λ (x : IsEightOrNine n text r). eight_read n text r x)
    z)
    y)
    h

pub none_stands : (text : List ℕ) → None ≡ escape_at text → NoEscape text
none_stands text h e r stands = false≢true (ap is_some (h ∙ escape_read e text r stands))

-- at most one escape stands at a front
pub one_escape : (text : List ℕ) (e f : Escape) (r s : List ℕ) → IsEscape e text r → IsEscape f text s → (e ≡ f) × (r ≡ s)
one_escape text e f r s h i =
    let g : Some (e, r) ≡ Some (f, s) = sym (escape_read e text r h) ∙ escape_read f text s i in
    (ap (λ (x : Found). (unwrap_or x (e, r)).0) g, ap (λ (x : Found). (unwrap_or x (e, r)).1) g)

-- ---- an escape is a front of its text

pub escape_front : (e : Escape) (text r : List ℕ) → IsEscape e text r → EndsWith text r
escape_front Continuation text r h = ⊎_elim
    (λ (e : text ≡ 13 ∷ 10 ∷ r). (13 ∷ 10 ∷ [], e))
    (λ (x : (c : ℕ) × (text ≡ c ∷ r) × (is_line_terminator c ≡ true) × (c ≡ 13 → begins is_line_feed r ≡ false)). (x.0 ∷ [], x.1))
    h
escape_front (Code n) text r h = ⊎_elim
    (λ (x : IsSingle n text r). (x.0 ∷ [], x.1))
    (λ (y : IsNul n text r ⊎ (IsHexEscape n text r ⊎ (IsUnicodeEscape n text r ⊎ IsBraced n text r))). ⊎_elim
    (λ (x : IsNul n text r). (48 ∷ [], x.0))
    (λ (z : IsHexEscape n text r ⊎ (IsUnicodeEscape n text r ⊎ IsBraced n text r)). ⊎_elim
    (λ (x : IsHexEscape n text r). (120 ∷ x.0 ∷ x.1 ∷ [], x.2))
    (λ (v : IsUnicodeEscape n text r ⊎ IsBraced n text r). ⊎_elim
    (λ (x : IsUnicodeEscape n text r). (117 ∷ x.0 ∷ x.1 ∷ x.2 ∷ x.3 ∷ [], x.4))
    (λ (x : IsBraced n text r). (117 ∷ 123 ∷ (x.0 ++ 125 ∷ []), x.1 ∙ ap (λ (l : List ℕ). 117 ∷ 123 ∷ l) (sym (append_assoc x.0 (125 ∷ []) r))))
    v)
    z)
    y)
    h
escape_front (Legacy n) text r h = ⊎_elim
    (λ (x : IsOneOctal n text r). (x.0 ∷ [], x.1))
    (λ (y : AreTwoOctals n text r ⊎ (AreThreeOctals n text r ⊎ IsEightOrNine n text r)). ⊎_elim
    (λ (x : AreTwoOctals n text r). (x.0 ∷ x.1 ∷ [], x.2))
    (λ (z : AreThreeOctals n text r ⊎ IsEightOrNine n text r). ⊎_elim
    (λ (x : AreThreeOctals n text r). (x.0 ∷ x.1 ∷ x.2 ∷ [], x.3))
    (λ (x : IsEightOrNine n text r). (n ∷ [], x.0))
    z)
    y)
    h
