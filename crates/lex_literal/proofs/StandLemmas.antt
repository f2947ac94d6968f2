-- A spelling of a number stands at a front, with any rest that may follow.
use Rattle.std.proofs.Common.{◌≡◌, ℕ, ◌<◌, ◌≤◌, ⊎_elim, Bool, true, false, List, [], ◌∷◌, ◌++◌, append_assoc, length, refl, sym, ap, subst, ◌∙◌, arith}
use Rattle.std.specs.Prelude.{◌&&◌, ◌||◌, ◌==◌, not, Some, None, if◌then◌else◌}
use Rattle.std.specs.Char.{is_digit, is_ascii_alphabetic}
use Rattle.std.specs.List.{list_all}
use Rattle.std.proofs.lemmas.Bool.{cases_Bool, cases_lt, false≢true, and_parts, eqb-true}
use Rattle.std.proofs.lemmas.Bool.Decides.{nat_tests}
use Rattle.std.proofs.lemmas.Option.{same_Some}
use Rattle.base_token.specs.Numbers.{SpecNumber, number_of, is_legacy_octal, spells_octal}
use Rattle.unicode_ident.proofs.IdentLemmas.{is_xid_start-ascii}
use Rattle.lex_pieces.specs.Runs.{Ends}
use Rattle.lex_literal.specs.declared.number_state.Radix.{Radix}
use Rattle.lex_literal.specs.declared.number_state.Radix.TheVariants.{Binary, Octal, Hexadecimal}
use Rattle.lex_literal.specs.declared.number_state.State.{State}
use Rattle.lex_literal.specs.declared.number_state.State.TheVariants as s
use Rattle.lex_literal.specs.Escapes.{begins, is_decimal, is_octal}
use Rattle.lex_literal.specs.Numbers.{Longest, big_of, is_barred, is_n, is_some}
use Rattle.lex_literal.specs.NumberSteps.{IsFront, Next, step, reach, by_next, is_whole, big_radix, radix_value, is_e, step_exponent, step_point, step_prefix, step_zero, step_octal, step_prefixed}
use Rattle.lex_literal.proofs.ScanLemmas.{by_step, reach_left, reach_big, reach_more}
use Rattle.lex_literal.proofs.StateLemmas.{spelled_is, radix_in}
use Rattle.lex_literal.proofs.NumeralLemmas.{number_longest, big_longest, n_stops}
use Rattle.lex_literal.specs.Standing.{is_digit_or_separator, takes_point, is_point, MayFollow, NumberStands, BigIntStands}

-- ---- what is spelled is reached

pub record Reached (text : List ℕ) : Type 0 where
  pub state : State
  pub there : reach s.Start text ≡ Some state
  pub whole : is_whole state ≡ true

pub number_reached : (text : List ℕ) (value : SpecNumber) → number_of text ≡ Some value → Reached text
number_reached text value h =
    let e : by_next (reach s.Start text) false is_whole ≡ true = sym (reach_left s.Start text) ∙ sym (spelled_is text) ∙ ap is_some h in
    (by_step (reach s.Start text) (λ o. by_next o false is_whole ≡ true → Reached text)
    (λ _ x. absurd (false≢true x))
    (λ p i x. record { state = p; there = i; whole = x })) e

-- ---- what is not barred goes on no number, a point aside

pub record Free (c : ℕ) : Type 0 where
  pub dec : is_decimal c ≡ false
  pub e : is_e c ≡ false
  pub sep : (c == 95) ≡ false
  pub hex : is_digit c 16 ≡ false
  pub x : (c == 120 || c == 88) ≡ false
  pub o : (c == 111 || c == 79) ≡ false
  pub b : (c == 98 || c == 66) ≡ false
  pub n : is_n c ≡ false

module _ (c : ℕ) where
  low_free : (is_decimal c || ((is_ascii_alphabetic c || (c == 36 || c == 95)) || c == 92)) ≡ false → Free c
  low_free h = record {
    dec = grind (arith, nat_tests);
    e = grind (arith, nat_tests);
    sep = grind (arith, nat_tests);
    hex = grind (arith, nat_tests);
    x = grind (arith, nat_tests);
    o = grind (arith, nat_tests);
    b = grind (arith, nat_tests);
    n = grind (arith, nat_tests);
  }

  high_free : 128 ≤ c → Free c
  high_free h = record {
    dec = grind (arith, nat_tests);
    e = grind (arith, nat_tests);
    sep = grind (arith, nat_tests);
    hex = grind (arith, nat_tests);
    x = grind (arith, nat_tests);
    o = grind (arith, nat_tests);
    b = grind (arith, nat_tests);
    n = grind (arith, nat_tests);
  }

  pub free : is_barred c ≡ false → Free c
  free h = ⊎_elim
      (λ (l : c < 128).
      low_free (sym (ap (λ t. is_decimal c || ((t || (c == 36 || c == 95)) || c == 92)) (is_xid_start-ascii c l)) ∙ h))
      (λ (l : 128 ≤ c). high_free l)
      (cases_lt c 128)

-- ---- where a number ends

branch : (b : Bool) (x y : Next) (P : Next → Type 0) → (b ≡ true → P x) → (b ≡ false → P y) → P (if b then x else y)
branch true x y P f g = f refl
branch false x y P f g = g refl

below : (c r : ℕ) → r ≤ 16 → is_digit c 16 ≡ false → is_digit c r ≡ false
below c r l h = grind (arith, nat_tests)

abbrev NoStep : Next → Type 0
NoStep o = o ≡ None

module _ (c : ℕ) (f : Free c) (dot : (c == 46) ≡ false) where
  no_exponent : step_exponent c ≡ None
  no_exponent = branch (is_e c) _ _ NoStep (λ h. absurd (false≢true (sym f.e ∙ h))) (λ h. refl)

  no_point : step_point c ≡ None
  no_point = branch (c == 46) _ _ NoStep (λ h. absurd (false≢true (sym dot ∙ h))) (λ h. no_exponent)

  no_digit : (x y : Next) → y ≡ None → (if is_decimal c then x else y) ≡ None
  no_digit x y h = branch (is_decimal c) x y NoStep (λ i. absurd (false≢true (sym f.dec ∙ i))) (λ i. h)

  no_separator : (x y : Next) → y ≡ None → (if c == 95 then x else y) ≡ None
  no_separator x y h = branch (c == 95) x y NoStep (λ i. absurd (false≢true (sym f.sep ∙ i))) (λ i. h)

  no_prefix : step_prefix c ≡ None
  no_prefix =
      branch (c == 120 || c == 88) _ _ NoStep (λ h. absurd (false≢true (sym f.x ∙ h)))
      (λ h. branch (c == 111 || c == 79) _ _ NoStep (λ i. absurd (false≢true (sym f.o ∙ i)))
      (λ i. branch (c == 98 || c == 66) _ _ NoStep (λ j. absurd (false≢true (sym f.b ∙ j))) (λ j. refl)))

  no_zero : step_zero c ≡ None
  no_zero = no_digit _ _
      (branch (c == 46) _ _ NoStep (λ h. absurd (false≢true (sym dot ∙ h)))
      (λ h. branch (is_e c) _ _ NoStep (λ i. absurd (false≢true (sym f.e ∙ i))) (λ i. no_prefix)))

  no_octal : step_octal c ≡ None
  no_octal = branch (is_octal c) _ _ NoStep (λ h. absurd (false≢true (sym (below c 8 (omega arith) f.hex) ∙ h))) (λ h. no_digit _ _ refl)

  no_prefixed : (radix : Radix) → step_prefixed radix true c ≡ None
  no_prefixed radix =
      branch (is_digit c (radix_value radix)) _ _ NoStep (λ h. absurd (false≢true (sym (below c (radix_value radix) (radix_low radix) f.hex) ∙ h)))
      (λ h. no_separator _ _ refl)
    where
      radix_low : (r : Radix) → radix_value r ≤ 16
      radix_low Binary = omega arith
      radix_low Octal = omega arith
      radix_low Hexadecimal = omega arith

  pub stops : (q : State) → is_whole q ≡ true → step q c ≡ None
  unfolding step
  stops s.Start h = absurd (false≢true h)
  stops s.Zero h = no_zero
  stops s.LegacyOctal h = no_octal
  stops s.LegacyDecimal h = no_digit _ _ no_point
  stops (s.Integer true) h = no_digit _ _ (no_separator _ _ no_point)
  stops (s.Integer false) h = absurd (false≢true h)
  stops s.Point h = no_digit _ _ no_exponent
  stops (s.Fraction true) h = no_digit _ _ (no_separator _ _ no_exponent)
  stops (s.Fraction false) h = absurd (false≢true h)
  stops s.Mark h = absurd (false≢true h)
  stops (s.Exponent true) h = no_digit _ _ (no_separator _ _ refl)
  stops (s.Exponent false) h = absurd (false≢true h)
  stops (s.Prefixed radix true) h = no_prefixed radix
  stops (s.Prefixed radix false) h = absurd (false≢true h)

-- ---- what takes a point

abbrev pub pointed : State → Bool
pointed s.Zero = true
pointed s.LegacyDecimal = true
pointed (s.Integer b) = true
pointed _ = false

abbrev integral : State → Bool
integral s.Start = true
integral s.Zero = true
integral s.LegacyOctal = true
integral s.LegacyDecimal = true
integral (s.Integer b) = true
integral _ = false

point_stops : (q : State) → is_whole q ≡ true → pointed q ≡ false → step q 46 ≡ None
unfolding step
point_stops s.Start h p = absurd (false≢true h)
point_stops s.Zero h p = absurd (false≢true (sym p))
point_stops s.LegacyOctal h p = refl
point_stops s.LegacyDecimal h p = absurd (false≢true (sym p))
point_stops (s.Integer b) h p = absurd (false≢true (sym p))
point_stops s.Point h p = refl
point_stops (s.Fraction true) h p = refl
point_stops (s.Fraction false) h p = refl
point_stops s.Mark h p = refl
point_stops (s.Exponent true) h p = refl
point_stops (s.Exponent false) h p = refl
point_stops (s.Prefixed Binary true) h p = refl
point_stops (s.Prefixed Octal true) h p = refl
point_stops (s.Prefixed Hexadecimal true) h p = refl
point_stops (s.Prefixed radix false) h p = absurd (false≢true h)

-- a state of an integer comes only behind another one, by a digit or a separator
abbrev Back : ℕ → Bool → Next → Type 0
Back c p None = Unit {0}
Back c p (Some q) = integral q ≡ true → (p ≡ true) × (is_digit_or_separator c ≡ true)

module _ (c : ℕ) where
  by_digit : is_decimal c ≡ true → is_digit_or_separator c ≡ true
  by_digit h = ap (λ b. b || (c == 95)) h

  by_separator : (c == 95) ≡ true → is_digit_or_separator c ≡ true
  by_separator h = grind (arith, nat_tests)

  by_zero : (c == 48) ≡ true → is_digit_or_separator c ≡ true
  by_zero h = grind (arith, nat_tests)

  by_octal : is_octal c ≡ true → is_digit_or_separator c ≡ true
  by_octal h = grind (arith, nat_tests)

  exponent_back : (p : Bool) → Back c p (step_exponent c)
  exponent_back p = branch (is_e c) _ _ (Back c p) (λ h i. absurd (false≢true i)) (λ h. tt)

  point_back : (p : Bool) → Back c p (step_point c)
  point_back p = branch (c == 46) _ _ (Back c p) (λ h i. absurd (false≢true i)) (λ h. exponent_back p)

  prefix_back : (p : Bool) → Back c p (step_prefix c)
  prefix_back p =
      branch (c == 120 || c == 88) _ _ (Back c p) (λ h i. absurd (false≢true i))
      (λ h. branch (c == 111 || c == 79) _ _ (Back c p) (λ i j. absurd (false≢true j))
      (λ i. branch (c == 98 || c == 66) _ _ (Back c p) (λ j k. absurd (false≢true k)) (λ j. tt)))

  octal_back : Back c true (step_octal c)
  octal_back =
      branch (is_octal c) _ _ (Back c true) (λ h i. (refl, by_octal h))
      (λ h. branch (is_decimal c) _ _ (Back c true) (λ j k. (refl, by_digit j)) (λ j. tt))

  -- where a digit leads to no integer
  far_digit : (q : State) (y : Next) → integral q ≡ false → Back c false y → Back c false (if is_decimal c then Some q else y)
  far_digit q y n h = branch (is_decimal c) (Some q) y (Back c false) (λ i j. absurd (false≢true (sym n ∙ j))) (λ i. h)

  far_separator : (q : State) (y : Next) → integral q ≡ false → Back c false y → Back c false (if c == 95 then Some q else y)
  far_separator q y n h = branch (c == 95) (Some q) y (Back c false) (λ i j. absurd (false≢true (sym n ∙ j))) (λ i. h)

  prefixed_back : (radix : Radix) (b : Bool) → Back c false (step_prefixed radix b c)
  prefixed_back radix true =
      branch (is_digit c (radix_value radix)) _ _ (Back c false) (λ h i. absurd (false≢true i)) (λ h. far_separator (s.Prefixed radix false) None refl tt)
  prefixed_back radix false = branch (is_digit c (radix_value radix)) _ _ (Back c false) (λ h i. absurd (false≢true i)) (λ h. tt)

  back : (p : State) → Back c (integral p) (step p c)
  unfolding step
  back s.Start =
      branch (c == 48) _ _ (Back c true) (λ h i. (refl, by_zero h))
      (λ h. branch (is_decimal c) _ _ (Back c true) (λ i j. (refl, by_digit i))
      (λ i. branch (c == 46) _ _ (Back c true) (λ j k. absurd (false≢true k)) (λ j. tt)))
  back s.Zero =
      branch (is_decimal c) _ _ (Back c true) (λ h. octal_back)
      (λ h. branch (c == 46) _ _ (Back c true) (λ i j. absurd (false≢true j))
      (λ i. branch (is_e c) _ _ (Back c true) (λ j k. absurd (false≢true k)) (λ j. prefix_back true)))
  back s.LegacyOctal = octal_back
  back s.LegacyDecimal = branch (is_decimal c) _ _ (Back c true) (λ h i. (refl, by_digit h)) (λ h. point_back true)
  back (s.Integer true) =
      branch (is_decimal c) _ _ (Back c true) (λ h i. (refl, by_digit h))
      (λ h. branch (c == 95) _ _ (Back c true) (λ i j. (refl, by_separator i)) (λ i. point_back true))
  back (s.Integer false) = branch (is_decimal c) _ _ (Back c true) (λ h i. (refl, by_digit h)) (λ h. tt)
  back s.Point = far_digit (s.Fraction true) _ refl (exponent_back false)
  back (s.Fraction true) = far_digit (s.Fraction true) _ refl (far_separator (s.Fraction false) _ refl (exponent_back false))
  back (s.Fraction false) = far_digit (s.Fraction true) _ refl tt
  back s.Mark = far_digit (s.Exponent true) _ refl (branch (c == 43 || c == 45) _ _ (Back c false) (λ h i. absurd (false≢true i)) (λ h. tt))
  back (s.Exponent true) = far_digit (s.Exponent true) _ refl (far_separator (s.Exponent false) _ refl tt)
  back (s.Exponent false) = far_digit (s.Exponent true) _ refl tt
  back (s.Prefixed radix b) = prefixed_back radix b

none_some : {A B : Type 0} {x : A} → None ≡ Some x → B
none_some e = cc

all_digits : (cs : List ℕ) (p q : State) → reach p cs ≡ Some q → integral q ≡ true
    → (integral p ≡ true) × (list_all is_digit_or_separator cs ≡ true)
all_digits [] p q h i = (ap integral (same_Some _ _ h) ∙ i, refl)
all_digits (c ∷ cs) p q h i =
    (by_step (step p c) (λ o. Back c (integral p) o → by_next o None (λ r. reach r cs) ≡ Some q → (integral p ≡ true) × (list_all is_digit_or_separator (c ∷ cs) ≡ true))
    (λ _ b e. none_some e)
    (λ r _ b e.
    let rest = all_digits cs r q e i in
    let here = b rest.0 in
    (here.0, ap (λ t. t && list_all is_digit_or_separator cs) here.1 ∙ rest.1))) (back c p) h

octal_step : (c : ℕ) → is_digit c 8 ≡ true → step s.LegacyOctal c ≡ Some s.LegacyOctal
unfolding step
octal_step c h = ap (λ b. if b then Some s.LegacyOctal else (if is_decimal c then Some s.LegacyDecimal else None)) h

zero_step : (c : ℕ) → is_digit c 8 ≡ true → step s.Zero c ≡ Some s.LegacyOctal
unfolding step
zero_step c h =
    let d : is_decimal c ≡ true = grind (arith, nat_tests) in
    ap (λ b. if b then step_octal c else (if c == 46 then Some s.Point else (if is_e c then Some s.Mark else step_prefix c))) d
    ∙ ap (λ b. if b then Some s.LegacyOctal else (if is_decimal c then Some s.LegacyDecimal else None)) h

first_step : step s.Start 48 ≡ Some s.Zero
unfolding step
first_step = refl

octals_stay : (cs : List ℕ) → list_all (λ c. is_digit c 8) cs ≡ true → reach s.LegacyOctal cs ≡ Some s.LegacyOctal
octals_stay [] h = refl
octals_stay (c ∷ cs) h =
    let parts = and_parts (is_digit c 8) (list_all (λ c. is_digit c 8) cs) h in
    ap (λ o. by_next o None (λ p. reach p cs)) (octal_step c parts.0) ∙ octals_stay cs parts.1

octal_reached : (text : List ℕ) → is_legacy_octal text ≡ true → reach s.Start text ≡ Some s.LegacyOctal
octal_reached [] h = absurd (false≢true h)
octal_reached (z ∷ []) h =
    let parts = and_parts (z == 48) (spells_octal []) h in absurd (false≢true parts.1)
octal_reached (z ∷ (c ∷ cs)) h =
    let parts = and_parts (z == 48) (spells_octal (c ∷ cs)) h in
    let digits = and_parts (is_digit c 8) (list_all (λ c. is_digit c 8) cs) parts.1 in
    ap (λ (x : ℕ). reach s.Start (x ∷ c ∷ cs)) (eqb-true z 48 parts.0)
    ∙ ap (λ o. by_next o None (λ p. reach p (c ∷ cs))) first_step
    ∙ ap (λ o. by_next o None (λ p. reach p cs)) (zero_step c digits.0)
    ∙ octals_stay cs digits.1

no_octal_text : (text : List ℕ) (q : State) → reach s.Start text ≡ Some q → pointed q ≡ true → is_legacy_octal text ≡ false
no_octal_text text q h p = ⊎_elim
    (λ (e : is_legacy_octal text ≡ true).
    absurd (false≢true (ap pointed (same_Some _ _ (sym (octal_reached text e) ∙ h)) ∙ p)))
    (λ (e : is_legacy_octal text ≡ false). e)
    (cases_Bool (is_legacy_octal text))

pointed_integral : (q : State) → pointed q ≡ true → integral q ≡ true
pointed_integral s.Start h = refl
pointed_integral s.Zero h = refl
pointed_integral s.LegacyOctal h = refl
pointed_integral s.LegacyDecimal h = refl
pointed_integral (s.Integer b) h = refl
pointed_integral s.Point h = absurd (false≢true h)
pointed_integral (s.Fraction b) h = absurd (false≢true h)
pointed_integral s.Mark h = absurd (false≢true h)
pointed_integral (s.Exponent b) h = absurd (false≢true h)
pointed_integral (s.Prefixed radix b) h = absurd (false≢true h)

takes : (text : List ℕ) (q : State) → reach s.Start text ≡ Some q → pointed q ≡ true → takes_point text ≡ true
takes text q h p =
    ap (λ b. b && not (is_legacy_octal text)) (all_digits text s.Start q h (pointed_integral q p)).1
    ∙ ap not (no_octal_text text q h p)

-- ---- the longest number

record Longer (own rest other more : List ℕ) : Type 0 where
  first : ℕ
  between : List ℕ
  long : other ≡ own ++ first ∷ between
  next : rest ≡ first ∷ (between ++ more)

longer : (own rest other more : List ℕ) → own ++ rest ≡ other ++ more → length own < length other → Longer own rest other more
longer [] rest [] more e h = absurd (omega arith)
longer [] rest (c ∷ cs) more e h = record { first = c; between = cs; long = refl; next = e }
longer (o ∷ os) rest [] more e h = absurd (omega arith)
longer (o ∷ os) rest (c ∷ cs) more e h =
    let first : o ≡ c = cc in
    let tails : os ++ rest ≡ cs ++ more = cc in
    let l = longer os rest cs more tails (omega arith) in
    record { first = l.first; between = l.between; long = ap (λ (x : List ℕ). c ∷ x) l.long ∙ ap (λ x. x ∷ (os ++ l.first ∷ l.between)) (sym first); next = l.next }

begins_first : (p : ℕ → Bool) (rest more : List ℕ) (c : ℕ) → rest ≡ c ∷ more → begins p rest ≡ p c
begins_first p rest more c e = ap (begins p) e

unbarred : (rest more : List ℕ) (c : ℕ) → rest ≡ c ∷ more → Ends is_barred rest → is_barred c ≡ false
unbarred rest more c e h = subst (λ l. Ends is_barred l) e h

-- where what follows goes on no number, no longer front is one
pub front_of : (text rest : List ℕ) (q : State) → reach s.Start text ≡ Some q → ((c : ℕ) (more : List ℕ) → rest ≡ c ∷ more → step q c ≡ None)
    → IsFront (text ++ rest) q text rest
front_of text rest q there next = record { parts = refl; reached = there; longest = λ p other more e h w. no_longer p other more e h }
  where
    no_longer : (p : State) (other more : List ℕ) → text ++ rest ≡ other ++ more → reach s.Start other ≡ Some p → length other ≤ length text
    no_longer p other more e h = ⊎_elim
        (λ (l : length text < length other).
        let x = longer text rest other more e l in
        let none : reach s.Start (text ++ x.first ∷ x.between) ≡ None =
        reach_more s.Start text (x.first ∷ x.between)
        ∙ ap (λ o. by_next o None (λ r. reach r (x.first ∷ x.between))) there
        ∙ ap (λ o. by_next o None (λ r. reach r x.between)) (next x.first (x.between ++ more) x.next)
        in none_some (sym none ∙ ap (reach s.Start) (sym x.long) ∙ h))
        (λ (l : length other ≤ length text). l)
        (cases_lt (length text) (length other))

module _ (text rest : List ℕ) (q : State) (there : reach s.Start text ≡ Some q) (whole : is_whole q ≡ true) (may : MayFollow text rest) where
  next_stops : (c : ℕ) (more : List ℕ) → rest ≡ c ∷ more → step q c ≡ None
  next_stops c more e =
      let f = free c (unbarred rest more c e may.0) in
      ⊎_elim
      (λ (d : (c == 46) ≡ true). ⊎_elim
      (λ (p : pointed q ≡ true).
      absurd (false≢true (sym (may.1 (takes text q there p)) ∙ begins_first is_point rest more c e ∙ d)))
      (λ (p : pointed q ≡ false). ap (step q) (eqb-true c 46 d) ∙ point_stops q whole p)
      (cases_Bool (pointed q)))
      (λ (d : (c == 46) ≡ false). stops c f d q whole)
      (cases_Bool (c == 46))

  no_n : begins is_n rest ≡ true → ⊥
  no_n h = by_rest rest refl h
    where
      by_rest : (l : List ℕ) → rest ≡ l → begins is_n l ≡ true → ⊥
      by_rest [] e i = false≢true i
      by_rest (c ∷ cs) e i = false≢true (sym (free c (unbarred rest cs c e may.0)).n ∙ i)

  pub longest : Longest text (text ++ rest)
  longest = number_longest (text ++ rest) text rest q (front_of text rest q there next_stops) (λ h. absurd (no_n h))

pub number_stands : NumberStands
number_stands v text rest h may =
    let r = number_reached text v h in
    record { parts = refl; spelled = h; longest = longest text rest r.state r.there r.whole may; ended = may.0 }

-- ---- big integers

record BigReached (text : List ℕ) : Type 0 where
  state : State
  there : reach s.Start text ≡ Some state

big_there : (text digits : List ℕ) (radix : ℕ) → big_of text ≡ Some (radix, digits) → BigReached text
big_there text digits radix h =
    let e : by_next (reach s.Start text) None big_radix ≡ Some radix = sym (reach_big s.Start text) ∙ ap radix_in h in
    (by_step (reach s.Start text) (λ o. by_next o None big_radix ≡ Some radix → BigReached text)
    (λ _ x. none_some x)
    (λ p i x. record { state = p; there = i })) e

pub big_stands : BigIntStands
big_stands radix digits own rest h ends =
    let text = h.0 in
    let r = big_there text digits radix h.2 in
    let next : (c : ℕ) (more : List ℕ) → 110 ∷ rest ≡ c ∷ more → step r.state c ≡ None =
    λ c more e. let first : 110 ≡ c = cc in ap (step r.state) (sym first) ∙ n_stops r.state in
    let long = big_longest (text ++ 110 ∷ rest) text rest r.state (front_of text (110 ∷ rest) r.state r.there next) in
    let whole : text ++ 110 ∷ rest ≡ own ++ rest = sym (append_assoc text (110 ∷ []) rest) ∙ ap (λ (l : List ℕ). l ++ rest) (sym h.1) in
    record {
      parts = refl;
      spelled = h;
      longest = subst (λ l. Longest l (own ++ rest)) (sym h.1) (subst (λ l. Longest (text ++ 110 ∷ []) l) whole long);
      ended = ends;
    }
