-- What the names of editions, of steps of indentation and of numbers stand for.
use Rattle.std.proofs.Common.{◌≡◌, ◌∙◌, ◌<◌, ◌&&◌, ◌^◌, ℕ, Bool, true, false, List, [], ◌∷◌, refl, sym, ap, subst, length, Some, None, Result, Ok, Err}
use Rattle.std.proofs.lemmas.Bool.{lt-ltb, ltb-true, eqb-true, and_from, and_left, false_from_ne_true}
use Rattle.std.specs.Prelude.{◌==◌, bytes_eq, nat_lt, slice_index, OkIff}
use Rattle.std.specs.List.{list_all}
use Rattle.std.specs.Char.{digit_value}
use Rattle.std.specs.Result.{result_ok}
use Rattle.std.specs.Str.Parse.{AllDigits, IsNumeral, ParsesUnsigned, digits_value, without_leading_plus}
use Rattle.std.proofs.lemmas.Slice.Eq.{bytes_eq-Decides}
use Rattle.std.proofs.Math.Bool.{and-false}
use Rattle.clap.proofs.WalkLemmas.{both}
use Rattle.run_command.specs.Values.{among, is_number, nesting_of}

-- the text is none of the names
abbrev pub Differs : {X : Type 0} → List (List ℕ × X) → List ℕ → Type 0
Differs [] text = Unit {0}
Differs (row ∷ rows) text = (text ≡ row.0 → ⊥) × Differs rows text

pub none_among : {X : Type 0} (rows : List (List ℕ × X)) (text : List ℕ) → Differs rows text → None ≡ among rows text
none_among [] text differs = refl
none_among (row ∷ rows) text differs = rw (false_from_ne_true (bytes_eq row.0 text) (λ e. differs.0 (sym ((bytes_eq-Decides row.0 text).0 e)))) (none_among rows text differs.1)

-- ---- numbers

digits_from : (ds : List ℕ) → list_all (λ d. nat_lt (digit_value d) 10) ds ≡ true → AllDigits 10 ds
digits_from [] e = tt
digits_from (d ∷ ds) e = let parts = both _ _ e in (ltb-true _ _ parts.0, digits_from ds parts.1)

digits_back : (ds : List ℕ) → AllDigits 10 ds → list_all (λ d. nat_lt (digit_value d) 10) ds ≡ true
digits_back [] h = refl
digits_back (d ∷ ds) h = rw (lt-ltb (digit_value d) 10 h.0) (digits_back ds h.1)

-- the text writes a number below the bound
abbrev is_small : List ℕ → Bool
is_small text = is_number text && nat_lt (digits_value 10 text) (2 ^ 32)

pub some_number : (text : List ℕ) (n : ℕ) → is_small text ≡ true → n ≡ digits_value 10 text → Some n ≡ nesting_of text
unfolding nesting_of
some_number text n e same = rw (e, same) refl

pub no_number : (text : List ℕ) → is_small text ≡ false → None ≡ nesting_of text
unfolding nesting_of
no_number text e = rw e refl

-- a text that begins with a plus is no number
pub signed_is_none : (text : List ℕ) → (slice_index text 0 == 43) ≡ true → None ≡ nesting_of text
signed_is_none [] e = cc
signed_is_none (x ∷ text) e =
    let plus : x ≡ 43 = eqb-true x 43 e in
    let other : list_all (λ d. nat_lt (digit_value d) 10) (x ∷ text) ≡ false = rw plus refl in
    no_number (x ∷ text) (and_left _ _ (ap (λ b. nat_lt 0 (length (x ∷ text)) && b) other ∙ and-false _))

numeral_small : (text : List ℕ) → IsNumeral 10 text → digits_value 10 text < 2 ^ 32 → is_small text ≡ true
numeral_small text numeral below =
    and_from _ _ (and_from _ _ (lt-ltb _ _ numeral.0) (digits_back text numeral.1)) (lt-ltb _ _ below)

small_numeral : (text : List ℕ) → is_small text ≡ true → IsNumeral 10 text × (digits_value 10 text < 2 ^ 32)
small_numeral text e =
    let parts = both _ _ e in
    let number = both _ _ parts.0 in
    ((ltb-true _ _ number.0, digits_from text number.1), ltb-true _ _ parts.1)

-- and what is read of any other is its number
pub reads_number : {E : Type 0} (text : List ℕ) (r : Result ℕ E) → (slice_index text 0 == 43) ≡ false → ParsesUnsigned 32 10 text r → result_ok r ≡ nesting_of text
reads_number text r plain parses = go r (subst (λ ds. OkIff r (IsNumeral 10 ds × (digits_value 10 ds < 2 ^ 32)) (digits_value 10 ds)) same parses)
  where
    same : without_leading_plus text ≡ text
    same = rw plain refl

    go : {E : Type 0} (r : Result ℕ E) → OkIff r (IsNumeral 10 text × (digits_value 10 text < 2 ^ 32)) (digits_value 10 text) → result_ok r ≡ nesting_of text
    go (Ok n) h = some_number text n (numeral_small text h.0.0 h.0.1) h.1
    go (Err e) h = refused (is_small text) refl
      where
        refused : (b : Bool) → is_small text ≡ b → None ≡ nesting_of text
        refused true is = absurd (h (small_numeral text is))
        refused false is = no_number text is
