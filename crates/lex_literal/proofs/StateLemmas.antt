-- What is left to read in a state, step by step: the states agree with how numbers are spelled.
use Rattle.std.proofs.Common.{◌≡◌, ℕ, Bool, true, false, cond, List, [], ◌∷◌, refl, sym, ap, subst, ◌∙◌, arith}
use Rattle.std.specs.Prelude.{◌&&◌, ◌||◌, ◌==◌, Option, Some, None}
use Rattle.std.specs.Char.{is_digit}
use Rattle.std.specs.List.{list_all}
use Rattle.std.proofs.lemmas.Bool.Decides.{nat_tests, Decides-eqb}
use Rattle.std.proofs.Math.Bool.{and-true, or-false}
use Rattle.base_token.specs.Numbers.{number_of, number_by, decimal_number, goes_on, spells_digits, spells_integer, spells_non_octal, spells_mantissa, spells_exponent, is_legacy_octal, before, after, is_mark, none_left, prefix_radix, radix_of_letter, past_first, unsigned, plain}
use Rattle.lex_literal.specs.declared.number_state.Radix.{Radix}
use Rattle.lex_literal.specs.declared.number_state.State.{State}
use Rattle.lex_literal.specs.declared.number_state.State.TheVariants as s
use Rattle.lex_literal.specs.Escapes.{is_decimal, is_octal}
use Rattle.lex_literal.specs.Numbers.{is_some, big_of}
use Rattle.lex_literal.specs.NumberSteps.{Next, step, is_whole, big_radix, by_next, radix_value, is_e, step_octal}

-- ---- characters

pub by_test : (b : Bool) (P : Type 0) → (b ≡ true → P) → (b ≡ false → P) → P
by_test b P yes_case no_case =
    let both : (v : Bool) → b ≡ v → P = elim [ true ↦ yes_case | false ↦ no_case ] in
    both b refl

pub record Digit (c : ℕ) : Type 0 where
  pub dec : is_decimal c ≡ true
  pub sep : (c == 95) ≡ false
  pub dot : (c == 46) ≡ false
  pub point : is_mark 46 c ≡ false
  pub exp : is_mark 101 c ≡ false
  pub e : is_e c ≡ false
  pub letter : radix_of_letter c ≡ None
  pub sign : (c == 43 || c == 45) ≡ false

record Other (c : ℕ) : Type 0 where
  dec : is_decimal c ≡ false
  oct : is_octal c ≡ false
  zero_digit : (c == 48) ≡ false
  sep : (c == 95) ≡ false
  dot : (c == 46) ≡ false
  point : is_mark 46 c ≡ false
  exp : is_mark 101 c ≡ false
  e : is_e c ≡ false

pub digit : (c : ℕ) → is_decimal c ≡ true → Digit c
digit c h = record {
  dec = h;
  sep = grind (arith, nat_tests);
  dot = grind (arith, nat_tests);
  point = grind (arith, nat_tests);
  exp = grind (arith, nat_tests);
  e = grind (arith, nat_tests);
  letter = grind (arith, nat_tests);
  sign = grind (arith, nat_tests);
}

other : (c : ℕ) → is_decimal c ≡ false → (c == 95) ≡ false → (c == 46) ≡ false → (c == 101) ≡ false → (c == 69) ≡ false → Other c
other c h i j k l = record {
  dec = h;
  oct = grind (arith, nat_tests);
  zero_digit = grind (arith, nat_tests);
  sep = i;
  dot = j;
  point = grind (arith, nat_tests);
  exp = grind (arith, nat_tests);
  e = grind (arith, nat_tests);
}

-- a case for each class of characters
module _ (P : ℕ → Type 0) where
  at : (m c : ℕ) → P m → (c == m) ≡ true → P c
  at m c p h = subst P (sym ((Decides-eqb c m).0 h)) p

  by_char : (c : ℕ) → ((d : ℕ) → Digit d → P d) → P 95 → P 46 → P 101 → P 69 → ((o : ℕ) → Other o → P o) → P c
  by_char c digits separator point small great others =
      by_test (is_decimal c) (P c) (λ h. digits c (digit c h)) (λ h.
      by_test (c == 95) (P c) (at 95 c separator) (λ i.
      by_test (c == 46) (P c) (at 46 c point) (λ j.
      by_test (c == 101) (P c) (at 101 c small) (λ k.
      by_test (c == 69) (P c) (at 69 c great) (λ l. others c (other c h i j k l))))))

  by_letter : (c : ℕ) → P 120 → P 88 → P 111 → P 79 → P 98 → P 66 → (radix_of_letter c ≡ None → (c == 120 || c == 88) ≡ false → (c == 111 || c == 79) ≡ false → (c == 98 || c == 66) ≡ false → P c) → P c
  by_letter c x xx o oo b bb others =
      by_test (c == 120) (P c) (at 120 c x) (λ h.
      by_test (c == 88) (P c) (at 88 c xx) (λ i.
      by_test (c == 111) (P c) (at 111 c o) (λ j.
      by_test (c == 79) (P c) (at 79 c oo) (λ k.
      by_test (c == 98) (P c) (at 98 c b) (λ l.
      by_test (c == 66) (P c) (at 66 c bb) (λ m.
      others (grind (arith, nat_tests)) (grind (arith, nat_tests)) (grind (arith, nat_tests)) (grind (arith, nat_tests))))))))

-- ---- what a number is, as a test

-- the fraction of a mantissa that has an integer
abbrev pub fraction_ok : Option (List ℕ) → Bool
fraction_ok None = true
fraction_ok (Some f) = none_left f || spells_digits 10 f

-- a decimal number whose integer passes
abbrev pub decimal_by : (List ℕ → Bool) → List ℕ → Bool
decimal_by p text = (p (before 46 (before 101 text)) && fraction_ok (after 46 (before 101 text))) && spells_exponent (after 101 text)

abbrev pub decimal_spelled : List ℕ → Bool
decimal_spelled text = spells_mantissa (before 46 (before 101 text)) (after 46 (before 101 text)) && spells_exponent (after 101 text)

abbrev pub spelled_by : Option ℕ → List ℕ → Bool
spelled_by None text = is_legacy_octal text || decimal_spelled text
spelled_by (Some radix) text = spells_digits radix (past_first (past_first text))

abbrev pub spelled : List ℕ → Bool
spelled text = spelled_by (prefix_radix text) text

if_some : {A : Type 0} (b : Bool) (x : A) (o : Option A) → is_some (cond b (Some x) o) ≡ (b || is_some o)
if_some true x o = refl
if_some false x o = refl

spelled_by_is : (o : Option ℕ) (text : List ℕ) → is_some (number_by o text) ≡ spelled_by o text
spelled_by_is None text =
    if_some (is_legacy_octal text) _ (decimal_number text)
    ∙ ap (λ b. is_legacy_octal text || b) (if_some (decimal_spelled text) _ None ∙ or-false (decimal_spelled text))
spelled_by_is (Some radix) text = if_some (spells_digits radix (past_first (past_first text))) _ None ∙ or-false _

pub spelled_is : (text : List ℕ) → is_some (number_of text) ≡ spelled text
unfolding number_of
spelled_is text = spelled_by_is (prefix_radix text) text

mantissa_first : (c : ℕ) (cs : List ℕ) (f : Option (List ℕ)) → spells_mantissa (c ∷ cs) f ≡ (spells_integer (c ∷ cs) && fraction_ok f)
mantissa_first c cs None = sym (and-true (spells_integer (c ∷ cs)))
mantissa_first c cs (Some f) = refl

no_prefix : (c : ℕ) (cs : List ℕ) → (c == 48) ≡ false → prefix_radix (c ∷ cs) ≡ None
no_prefix c [] e = refl
no_prefix c (d ∷ ds) e = rw e refl

-- ---- what is left in a state

abbrev pub left : State → List ℕ → Bool
left s.Start text = spelled text
left s.Zero text = spelled (48 ∷ text)
left s.LegacyOctal text = list_all (λ c. is_digit c 8) text || decimal_by spells_non_octal text
left s.LegacyDecimal text = decimal_by (λ l. list_all (λ c. is_digit c 10) l) text
left (s.Integer b) text = decimal_by (goes_on 10 b) text
left s.Point text = (none_left (before 101 text) || spells_digits 10 (before 101 text)) && spells_exponent (after 101 text)
left (s.Fraction b) text = goes_on 10 b (before 101 text) && spells_exponent (after 101 text)
left s.Mark text = spells_digits 10 (unsigned text)
left (s.Exponent b) text = goes_on 10 b text
left (s.Prefixed radix b) text = goes_on (radix_value radix) b text

abbrev Goes : State → List ℕ → ℕ → Type 0
Goes q cs c = left q (c ∷ cs) ≡ by_next (step q c) false (λ p. left p cs)

-- the first character of an integer is no mark
decimal_first : (p : List ℕ → Bool) (c : ℕ) (cs : List ℕ) → is_mark 46 c ≡ false → is_mark 101 c ≡ false
    → decimal_by p (c ∷ cs) ≡ decimal_by (λ l. p (c ∷ l)) cs
decimal_first p c cs h i = rw (i, h) refl

spelled_first : (c : ℕ) (cs : List ℕ) → is_mark 46 c ≡ false → is_mark 101 c ≡ false → decimal_spelled (c ∷ cs) ≡ decimal_by (λ l. spells_integer (c ∷ l)) cs
spelled_first c cs h i = rw (i, h) (ap (λ b. b && spells_exponent (after 101 cs)) (mantissa_first c (before 46 (before 101 cs)) (after 46 (before 101 cs))))

goes_start : (cs : List ℕ) (c : ℕ) → Goes s.Start cs c
unfolding step
goes_start cs c = by_char (Goes s.Start cs) c
    (λ d h. by_test (d == 48) (Goes s.Start cs d)
    (λ e. subst (Goes s.Start cs) (sym ((Decides-eqb d 48).0 e)) refl)
    (λ e. rw (no_prefix d cs e, e, spelled_first d cs h.point h.exp, h.dec, e) refl))
    (rw (no_prefix 95 cs refl, spelled_first 95 cs refl refl) refl)
    (rw (no_prefix 46 cs refl) refl)
    (rw (no_prefix 101 cs refl) refl)
    (rw (no_prefix 69 cs refl) refl)
    (λ o h. rw (no_prefix o cs h.zero_digit, h.zero_digit, spelled_first o cs h.point h.exp, h.dec, h.dot) (rw h.zero_digit refl))

-- what is left behind a 0 and one more character that is no mark
pub behind_zero : (c : ℕ) (cs : List ℕ) → is_mark 46 c ≡ false → is_mark 101 c ≡ false
    → decimal_spelled (48 ∷ c ∷ cs) ≡ decimal_by (λ l. spells_non_octal (c ∷ l)) cs
behind_zero c cs h i = spelled_first 48 (c ∷ cs) refl refl ∙ decimal_first (λ l. spells_integer (48 ∷ l)) c cs h i

goes_zero_other : (cs : List ℕ) (o : ℕ) → Other o → Goes s.Zero cs o
unfolding step
goes_zero_other cs o h = by_letter (Goes s.Zero cs) o refl refl refl refl refl refl
    (λ e x l b. rw (e, behind_zero o cs h.point h.exp, h.dec, h.oct, h.dot, h.e) (rw (x, l, b) refl))

goes_zero : (cs : List ℕ) (c : ℕ) → Goes s.Zero cs c
unfolding step
goes_zero cs c = by_char (Goes s.Zero cs) c
    (λ d h. by_test (is_octal d) (Goes s.Zero cs d)
    (λ e. rw (h.letter, behind_zero d cs h.point h.exp, h.dec, e) refl)
    (λ e. rw (h.letter, behind_zero d cs h.point h.exp, h.dec, e) (rw and-true refl)))
    (rw (behind_zero 95 cs refl refl) refl)
    refl
    refl
    refl
    (goes_zero_other cs)

goes_octal : (cs : List ℕ) (c : ℕ) → Goes s.LegacyOctal cs c
unfolding step
goes_octal cs c = by_char (Goes s.LegacyOctal cs) c
    (λ d h. by_test (is_octal d) (Goes s.LegacyOctal cs d)
    (λ e. rw (decimal_first spells_non_octal d cs h.point h.exp, h.dec, e) refl)
    (λ e. rw (decimal_first spells_non_octal d cs h.point h.exp, h.dec, e) (rw and-true refl)))
    refl
    refl
    refl
    refl
    (λ o h. rw (decimal_first spells_non_octal o cs h.point h.exp, h.dec, h.oct) refl)

goes_decimal : (cs : List ℕ) (c : ℕ) → Goes s.LegacyDecimal cs c
unfolding step
goes_decimal cs c = by_char (Goes s.LegacyDecimal cs) c
    (λ d h. rw (decimal_first (λ l. list_all (λ c. is_digit c 10) l) d cs h.point h.exp, h.dec) refl)
    refl
    refl
    refl
    refl
    (λ o h. rw (decimal_first (λ l. list_all (λ c. is_digit c 10) l) o cs h.point h.exp, h.dec, h.dot, h.e) refl)

goes_integer : (b : Bool) (cs : List ℕ) (c : ℕ) → Goes (s.Integer b) cs c
unfolding step
goes_integer true cs c = by_char (Goes (s.Integer true) cs) c
    (λ d h. rw (decimal_first (goes_on 10 true) d cs h.point h.exp, h.dec) refl)
    refl
    refl
    refl
    refl
    (λ o h. rw (decimal_first (goes_on 10 true) o cs h.point h.exp, h.dec, h.sep, h.dot, h.e) refl)
goes_integer false cs c = by_char (Goes (s.Integer false) cs) c
    (λ d h. rw (decimal_first (goes_on 10 false) d cs h.point h.exp, h.dec) refl)
    refl
    refl
    refl
    refl
    (λ o h. rw (decimal_first (goes_on 10 false) o cs h.point h.exp, h.dec) refl)

goes_point : (cs : List ℕ) (c : ℕ) → Goes s.Point cs c
unfolding step
goes_point cs c = by_char (Goes s.Point cs) c
    (λ d h. rw (h.exp, h.dec) refl)
    refl
    refl
    refl
    refl
    (λ o h. rw (h.exp, h.dec, h.e) refl)

goes_fraction : (b : Bool) (cs : List ℕ) (c : ℕ) → Goes (s.Fraction b) cs c
unfolding step
goes_fraction true cs c = by_char (Goes (s.Fraction true) cs) c
    (λ d h. rw (h.exp, h.dec) refl)
    refl
    refl
    refl
    refl
    (λ o h. rw (h.exp, h.dec, h.sep, h.e) refl)
goes_fraction false cs c = by_char (Goes (s.Fraction false) cs) c
    (λ d h. rw (h.exp, h.dec) refl)
    refl
    refl
    refl
    refl
    (λ o h. rw (h.exp, h.dec) refl)

goes_mark : (cs : List ℕ) (c : ℕ) → Goes s.Mark cs c
unfolding step
goes_mark cs c = by_char (Goes s.Mark cs) c
    (λ d h. rw (h.sign, h.dec) refl)
    refl
    refl
    refl
    refl
    (λ o h. by_test (o == 43 || o == 45) (Goes s.Mark cs o)
    (λ e. rw (e, h.dec) refl)
    (λ e. rw (e, h.dec) refl))

goes_exponent : (b : Bool) (cs : List ℕ) (c : ℕ) → Goes (s.Exponent b) cs c
unfolding step
goes_exponent b cs c = by_test (is_digit c 10) (Goes (s.Exponent b) cs c)
    (λ e. rw e refl)
    (λ e. by_test (c == 95) (Goes (s.Exponent b) cs c)
    (λ i. rw (e, i) (elim b as (λ v. (v && goes_on 10 false cs) ≡ by_next (cond v (Some (s.Exponent false)) None) false (λ p. left p cs)) [ true ↦ refl | false ↦ refl ]))
    (λ i. rw (e, i) (elim b as (λ v. (v && false) ≡ by_next (cond {A = Next} v None None) false (λ p. left p cs)) [ true ↦ refl | false ↦ refl ])))

goes_prefixed : (radix : Radix) (b : Bool) (cs : List ℕ) (c : ℕ) → Goes (s.Prefixed radix b) cs c
unfolding step
goes_prefixed radix b cs c = by_test (is_digit c (radix_value radix)) (Goes (s.Prefixed radix b) cs c)
    (λ e. rw e refl)
    (λ e. by_test (c == 95) (Goes (s.Prefixed radix b) cs c)
    (λ i. rw (e, i) (elim b as (λ v. (v && goes_on (radix_value radix) false cs) ≡ by_next (cond v (Some (s.Prefixed radix false)) None) false (λ p. left p cs)) [ true ↦ refl | false ↦ refl ]))
    (λ i. rw (e, i) (elim b as (λ v. (v && false) ≡ by_next (cond {A = Next} v None None) false (λ p. left p cs)) [ true ↦ refl | false ↦ refl ])))

pub goes : (q : State) (c : ℕ) (cs : List ℕ) → left q (c ∷ cs) ≡ by_next (step q c) false (λ p. left p cs)
goes s.Start c cs = goes_start cs c
goes s.Zero c cs = goes_zero cs c
goes s.LegacyOctal c cs = goes_octal cs c
goes s.LegacyDecimal c cs = goes_decimal cs c
goes (s.Integer b) c cs = goes_integer b cs c
goes s.Point c cs = goes_point cs c
goes (s.Fraction b) c cs = goes_fraction b cs c
goes s.Mark c cs = goes_mark cs c
goes (s.Exponent b) c cs = goes_exponent b cs c
goes (s.Prefixed radix b) c cs = goes_prefixed radix b cs c

-- nothing is left behind a whole number
pub ends : (q : State) → left q [] ≡ is_whole q
ends s.Start = refl
ends s.Zero = refl
ends s.LegacyOctal = refl
ends s.LegacyDecimal = refl
ends (s.Integer true) = refl
ends (s.Integer false) = refl
ends s.Point = refl
ends (s.Fraction true) = refl
ends (s.Fraction false) = refl
ends s.Mark = refl
ends (s.Exponent b) = refl
ends (s.Prefixed radix b) = refl

-- ---- big integers

abbrev pub radix_in : Option (ℕ × List ℕ) → Option ℕ
radix_in None = None
radix_in (Some x) = Some x.0

abbrev pub big_left : State → List ℕ → Option ℕ
big_left s.Start text = radix_in (big_of text)
big_left s.Zero text = radix_in (big_of (48 ∷ text))
big_left (s.Integer b) text = cond (goes_on 10 b text) (Some 10) None
big_left (s.Prefixed radix b) text = cond (goes_on (radix_value radix) b text) (Some (radix_value radix)) None
big_left s.LegacyOctal text = None
big_left s.LegacyDecimal text = None
big_left s.Point text = None
big_left (s.Fraction b) text = None
big_left s.Mark text = None
big_left (s.Exponent b) text = None

abbrev BigGoes : State → List ℕ → ℕ → Type 0
BigGoes q cs c = big_left q (c ∷ cs) ≡ by_next (step q c) None (λ p. big_left p cs)

radix_if : (b : Bool) (x : ℕ × List ℕ) → radix_in (cond b (Some x) None) ≡ cond b (Some x.0) None
radix_if true x = refl
radix_if false x = refl

big_start : (cs : List ℕ) (c : ℕ) → BigGoes s.Start cs c
unfolding step big_of
big_start cs c = by_char (BigGoes s.Start cs) c
    (λ d h. by_test (d == 48) (BigGoes s.Start cs d)
    (λ e. subst (BigGoes s.Start cs) (sym ((Decides-eqb d 48).0 e)) refl)
    (λ e. rw (no_prefix d cs e, e, h.dec) (radix_if (goes_on 10 true cs) (10, plain (d ∷ cs)))))
    (rw (no_prefix 95 cs refl) refl)
    (rw (no_prefix 46 cs refl) refl)
    (rw (no_prefix 101 cs refl) refl)
    (rw (no_prefix 69 cs refl) refl)
    (λ o h. rw (no_prefix o cs h.zero_digit, h.zero_digit, h.dec, h.dot) refl)

big_zero : (cs : List ℕ) (c : ℕ) → BigGoes s.Zero cs c
unfolding step big_of
big_zero cs c = by_char (BigGoes s.Zero cs) c
    (λ d h. by_test (is_octal d) (BigGoes s.Zero cs d)
    (λ e. rw (h.letter, h.dec, e) refl)
    (λ e. rw (h.letter, h.dec, e) refl))
    refl
    refl
    refl
    refl
    (λ o h. by_letter (BigGoes s.Zero cs) o
    (radix_if (goes_on 16 false cs) (16, plain cs))
    (radix_if (goes_on 16 false cs) (16, plain cs))
    (radix_if (goes_on 8 false cs) (8, plain cs))
    (radix_if (goes_on 8 false cs) (8, plain cs))
    (radix_if (goes_on 2 false cs) (2, plain cs))
    (radix_if (goes_on 2 false cs) (2, plain cs))
    (λ e x l b. rw (e, h.dec, h.dot, h.e) (rw (x, l, b) refl)))

big_octal : (cs : List ℕ) (c : ℕ) → None ≡ by_next (step_octal c) None (λ p. big_left p cs)
big_octal cs c = by_test (is_octal c) (None ≡ by_next (step_octal c) None (λ p. big_left p cs))
    (λ e. rw e refl)
    (λ e. by_test (is_decimal c) (None ≡ by_next (step_octal c) None (λ p. big_left p cs)) (λ i. rw (e, i) refl) (λ i. rw (e, i) refl))

big_decimal : (cs : List ℕ) (c : ℕ) → BigGoes s.LegacyDecimal cs c
unfolding step
big_decimal cs c = by_char (BigGoes s.LegacyDecimal cs) c (λ d h. rw h.dec refl) refl refl refl refl (λ o h. rw (h.dec, h.dot, h.e) refl)

big_integer : (b : Bool) (cs : List ℕ) (c : ℕ) → BigGoes (s.Integer b) cs c
unfolding step
big_integer true cs c = by_char (BigGoes (s.Integer true) cs) c (λ d h. rw h.dec refl) refl refl refl refl (λ o h. rw (h.dec, h.sep, h.dot, h.e) refl)
big_integer false cs c = by_char (BigGoes (s.Integer false) cs) c (λ d h. rw h.dec refl) refl refl refl refl (λ o h. rw h.dec refl)

big_point : (cs : List ℕ) (c : ℕ) → BigGoes s.Point cs c
unfolding step
big_point cs c = by_char (BigGoes s.Point cs) c (λ d h. rw h.dec refl) refl refl refl refl (λ o h. rw (h.dec, h.e) refl)

big_fraction : (b : Bool) (cs : List ℕ) (c : ℕ) → BigGoes (s.Fraction b) cs c
unfolding step
big_fraction true cs c = by_char (BigGoes (s.Fraction true) cs) c (λ d h. rw h.dec refl) refl refl refl refl (λ o h. rw (h.dec, h.sep, h.e) refl)
big_fraction false cs c = by_char (BigGoes (s.Fraction false) cs) c (λ d h. rw h.dec refl) refl refl refl refl (λ o h. rw h.dec refl)

big_mark : (cs : List ℕ) (c : ℕ) → BigGoes s.Mark cs c
unfolding step
big_mark cs c = by_char (BigGoes s.Mark cs) c (λ d h. rw h.dec refl) refl refl refl refl
    (λ o h. by_test (o == 43 || o == 45) (BigGoes s.Mark cs o) (λ e. rw (h.dec, e) refl) (λ e. rw (h.dec, e) refl))

big_exponent : (b : Bool) (cs : List ℕ) (c : ℕ) → BigGoes (s.Exponent b) cs c
unfolding step
big_exponent true cs c = by_char (BigGoes (s.Exponent true) cs) c (λ d h. rw h.dec refl) refl refl refl refl (λ o h. rw (h.dec, h.sep) refl)
big_exponent false cs c = by_char (BigGoes (s.Exponent false) cs) c (λ d h. rw h.dec refl) refl refl refl refl (λ o h. rw h.dec refl)

big_prefixed : (radix : Radix) (b : Bool) (cs : List ℕ) (c : ℕ) → BigGoes (s.Prefixed radix b) cs c
unfolding step
big_prefixed radix true cs c = by_test (is_digit c (radix_value radix)) (BigGoes (s.Prefixed radix true) cs c)
    (λ e. rw e refl)
    (λ e. by_test (c == 95) (BigGoes (s.Prefixed radix true) cs c) (λ i. rw (e, i) refl) (λ i. rw (e, i) refl))
big_prefixed radix false cs c = by_test (is_digit c (radix_value radix)) (BigGoes (s.Prefixed radix false) cs c) (λ e. rw e refl) (λ e. rw e refl)

pub big_goes : (q : State) (c : ℕ) (cs : List ℕ) → big_left q (c ∷ cs) ≡ by_next (step q c) None (λ p. big_left p cs)
unfolding step
big_goes s.Start c cs = big_start cs c
big_goes s.Zero c cs = big_zero cs c
big_goes s.LegacyOctal c cs = big_octal cs c
big_goes s.LegacyDecimal c cs = big_decimal cs c
big_goes (s.Integer b) c cs = big_integer b cs c
big_goes s.Point c cs = big_point cs c
big_goes (s.Fraction b) c cs = big_fraction b cs c
big_goes s.Mark c cs = big_mark cs c
big_goes (s.Exponent b) c cs = big_exponent b cs c
big_goes (s.Prefixed radix b) c cs = big_prefixed radix b cs c

pub big_ends : (q : State) → big_left q [] ≡ big_radix q
unfolding big_of
big_ends s.Start = refl
big_ends s.Zero = refl
big_ends s.LegacyOctal = refl
big_ends s.LegacyDecimal = refl
big_ends (s.Integer b) = refl
big_ends s.Point = refl
big_ends (s.Fraction b) = refl
big_ends s.Mark = refl
big_ends (s.Exponent b) = refl
big_ends (s.Prefixed radix b) = refl
