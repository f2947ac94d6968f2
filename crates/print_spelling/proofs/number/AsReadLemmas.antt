-- Numbers as they were read, part by part.
use Rattle.std.proofs.Common.{◌≡◌, ℕ, zero, suc, ◌+◌, ◌<◌, ◌≤◌, ⊎_elim, Bool, true, false, cond, List, [], ◌∷◌, ◌++◌, length, take, drop, refl, sym, ap, ◌∙◌, arith, IsUtf8}
use Rattle.std.proofs.Math.Numerals.{one-add}
use Rattle.std.specs.Prelude.{◌==◌, not, if◌then◌else◌, encode_utf8_all, slice_index, pos, negsuc, nat_abs, Option, Some, None, MatchOption}
use Rattle.std.specs.List.{prefix_len}
use Rattle.std.specs.Str.{chars}
use Rattle.std.specs.Str.Parse.{digits_value}
use lib.Utf8.{encode}
use Rattle.std.proofs.lemmas.Bool.{cases_Bool, cases_lt, eq-eqb, ne_eqb, false≢true}
use Rattle.std.proofs.lemmas.Bool.Decides.{nat_tests}
use Rattle.std.proofs.lemmas.List.Folds.{length-prefix_len}
use Rattle.std.proofs.lemmas.List.Sums.{prefix_len-le-length, prefix_len_stops}
use Rattle.std.proofs.lemmas.Str.{encode_ascii, encodes-chars}
use Rattle.lex_literal.specs.Escapes.{begins}
use Rattle.lex_literal.proofs.RunLemmas.{wide}
use Rattle.base_number.specs.Numbers.{SpecNumber, Scaled, InRadix, numeral, plain, number_digits, number_exponent, number_radix, is_below_zero}
use Rattle.print_spelling.specs.Number.Numbers.{zeros, whole_digits, whole_text}
use Rattle.print_spelling.specs.Number.NumberTexts.{is_separator, is_digit_byte, left_bytes}
use Rattle.print_spelling.proofs.number.TextLemmas.{numeral_value}
use Rattle.print_spelling.proofs.number.PlainLemmas.{plain_here}

-- ---- zeros

pub take_zeros : (n k : ℕ) → n ≤ k → take n (zeros k []) ≡ zeros n []
take_zeros zero k h = refl
take_zeros (suc n) zero h = absurd (omega arith)
take_zeros (suc n) (suc k) h = ap (λ (l : List ℕ). 48 ∷ l) (take_zeros n k (omega arith))

pub front_zeros : (n : ℕ) (front text : List ℕ) → n < 20 → text ≡ zeros 20 [] → front ≡ take n text → front ≡ zeros n []
front_zeros n front text h e f = f ∙ ap (take n) e ∙ take_zeros n 20 (omega arith)

-- ---- decimal digits alone

pub whole_is : (v : SpecNumber) (ds power : List ℕ) → ds ≡ number_digits v → power ≡ numeral (nat_abs (number_exponent v)) → number_radix v ≡ 10
    → is_below_zero (number_exponent v) ≡ false → whole_digits ds (digits_value 10 power) ≡ whole_text v
whole_is (Scaled es (pos k)) ds power e f r n =
    ap (λ l. whole_digits l (digits_value 10 power)) e ∙ ap (whole_digits es) (ap (digits_value 10) f ∙ numeral_value k)
whole_is (Scaled es (negsuc k)) ds power e f r n = absurd (false≢true (sym n))
whole_is (InRadix radix es) ds power e f r n =
    ap (λ l. whole_digits l (digits_value 10 power)) e ∙ ap (whole_digits es) (ap (digits_value 10) f ∙ numeral_value 0)
    ∙ sym (ap (λ b. if b then whole_digits es 0 else None) (eq-eqb radix 10 r))

-- ---- without separators

pub gone : (text rest : List ℕ) (c : ℕ) → IsUtf8 text → IsUtf8 rest → chars text ≡ c ∷ chars rest → c ≡ 95 → plain text ≡ plain rest
unfolding encode
gone text rest c u w e same =
    ap plain (sym (encodes-chars text u) ∙ ap encode_utf8_all (e ∙ ap (λ x. x ∷ chars rest) same) ∙ ap (λ (l : List ℕ). 95 ∷ l) (encodes-chars rest w))

encode_other : (c : ℕ) (m : List ℕ) → (c ≡ 95 → ⊥) → begins is_separator (encode c ++ m) ≡ false
encode_other c m h = ⊎_elim
    (λ (l : c < 128). ap (λ (x : List ℕ). begins is_separator (x ++ m)) (encode_ascii c l) ∙ ne_eqb c 95 h)
    (λ (l : 128 ≤ c).
    let w = wide c l in
    ap (λ (x : List ℕ). begins is_separator (x ++ m)) w.2.whole ∙ ne_eqb w.0 95 (λ e. let x = w.2.first in absurd (omega arith)))
    (cases_lt c 128)

pub stops : (text rest : List ℕ) (c : ℕ) → IsUtf8 text → chars text ≡ c ∷ chars rest → (c ≡ 95 → ⊥) → begins is_separator text ≡ false
stops text rest c u e h =
    ap (begins is_separator) (sym (encodes-chars text u) ∙ ap encode_utf8_all e) ∙ encode_other c (encode_utf8_all (chars rest)) h

pub stops_at_end : (text : List ℕ) → IsUtf8 text → chars text ≡ [] → begins is_separator text ≡ false
stops_at_end text u e = ap (begins is_separator) (sym (encodes-chars text u) ∙ ap encode_utf8_all e)

plain_split : (text : List ℕ) → plain text ≡ take (prefix_len is_digit_byte text) text ++ plain (drop (prefix_len is_digit_byte text) text)
plain_split [] = refl
plain_split (c ∷ cs) = ⊎_elim
    (λ (e : (c == 95) ≡ true).
    sym (ap (λ n. take n (c ∷ cs) ++ plain (drop n (c ∷ cs))) (ap (λ b. cond (not b) (1 + prefix_len is_digit_byte cs) 0) e)))
    (λ (e : (c == 95) ≡ false).
    plain_here c cs e ∙ ap (λ (l : List ℕ). c ∷ l) (plain_split cs)
    ∙ sym (ap (λ n. take n (c ∷ cs) ++ plain (drop n (c ∷ cs))) (ap (λ b. cond (not b) (1 + prefix_len is_digit_byte cs) 0) e ∙ one-add (prefix_len is_digit_byte cs))))
    (cases_Bool (c == 95))

some_len : (text : List ℕ) → begins is_separator text ≡ false → 0 < length text → 0 < prefix_len is_digit_byte text
some_len [] e h = absurd (omega arith)
some_len (c ∷ cs) e h =
    let n : prefix_len is_digit_byte (c ∷ cs) ≡ 1 + prefix_len is_digit_byte cs = ap (λ b. cond (not b) (1 + prefix_len is_digit_byte cs) 0) e in
    omega arith

pub record IsRun (text front back : List ℕ) : Type 0 where
  pub whole : plain text ≡ front ++ plain back
  pub some : 0 < length front

pub is_run : (text front back : List ℕ) (n : ℕ) → begins is_separator text ≡ false → 0 < length text → n ≡ prefix_len is_digit_byte text → front ≡ take n text → back ≡ drop n text
    → IsRun text front back
is_run text front back n e h same f b = record {
  whole = plain_split text ∙ ap (λ m. take m text ++ plain (drop m text)) (sym same) ∙ ap (λ (l : List ℕ). l ++ plain (drop n text)) (sym f) ∙ ap (λ l. front ++ plain l) (sym b);
  some = let l : length front ≡ prefix_len is_digit_byte text = ap length (f ∙ ap (λ m. take m text) same) ∙ length-prefix_len is_digit_byte text in
      let s = some_len text e h in
      omega arith;
}

stop_byte : (b : ℕ) → is_digit_byte b ≡ false → 128 ≤ b → 192 ≤ b
stop_byte b e h = absurd (let x : b ≡ 95 = grind (arith, nat_tests) in omega arith)

pub boundary : (text : List ℕ) (n : ℕ) → n ≡ prefix_len is_digit_byte text
    → (n ≤ length text) × (n < length text → 128 ≤ slice_index text n → 192 ≤ slice_index text n)
boundary text n same = (
  let l = prefix_len-le-length is_digit_byte text in omega arith,
  λ h k. stop_byte (slice_index text n) (ap (λ m. is_digit_byte (slice_index text m)) same ∙ prefix_len_stops is_digit_byte text 0 (omega arith)) k,
)

-- ---- behind the first part

pub match_map : {X : Type 0} (o : Option X) (A B : Type 0) (P Q : X → Type 0) → MatchOption o A P → (A → B) → ((x : X) → P x → Q x) → MatchOption o B Q
match_map None A B P Q h f g = f h
match_map (Some x) A B P Q h f g = g x h

pub left_others : (is_plain : Bool) (first others : List ℕ) → is_plain ≡ true → plain first ≡ [] → left_bytes is_plain first others ≡ others
left_others is_plain first others e n = ap (λ b. (if b then plain first else first) ++ others) e ∙ ap (λ (l : List ℕ). l ++ others) n

pub left_empty : (is_plain : Bool) (first others : List ℕ) → first ≡ [] → left_bytes is_plain first others ≡ others
left_empty true first others e = ap (λ l. plain l ++ others) e
left_empty false first others e = ap (λ (l : List ℕ). l ++ others) e
