-- Texts have the same units exactly where they are equal.
use Rattle.std.proofs.Common.{◌≡◌, ◌∙◌, ℕ, ◌+◌, ◌-◌, ◌/◌, ◌%◌, ◌<◌, ◌≤◌, nat_lt, ⊎_elim, Bool, true, false, cond, List, [], ◌∷◌, ◌++◌, ◌==◌, Option, Some, None, Bor, length, bytes_eq, refl, sym, ap, subst, arith}
use Rattle.std.specs.Bool.{one_answer}
use Rattle.std.specs.Char.Escape.{encode_utf16}
use Rattle.std.specs.Str.{IsUtf8, chars, encode_utf8_all}
use Rattle.std.proofs.Math.Utf8.{scalar, scalars, scalar_cases}
use Rattle.std.proofs.lemmas.Bool.{cases_Bool, lt-ltb}
use Rattle.std.proofs.lemmas.Bool.Decides.{nat_tests}
use Rattle.std.proofs.lemmas.Slice.Eq.{bytes_eq-Decides}
use Rattle.std.specs.Char.{encode_utf8}
use Rattle.std.proofs.lemmas.Str.{encodes-chars, scalars-chars, chars_past_char, chars-nil}
use Rattle.std.proofs.lemmas.List.{nil_from_length}
use Rattle.std.proofs.Math.Dec.{eqb-suc-zero}
use Rattle.std.specs.Option.{MatchOption}
use Rattle.base_token.specs.Utf16.{utf16}

abbrev lead : ℕ → ℕ
lead c = 0xD800 + (c - 0x1_0000) / 0x400

abbrev trail : ℕ → ℕ
trail c = 0xDC00 + (c - 0x1_0000) % 0x400

pub one_unit : (c : ℕ) → nat_lt c 0x1_0000 ≡ true → encode_utf16 c ≡ c ∷ []
one_unit c h = ap (λ b. cond b (c ∷ []) (lead c ∷ trail c ∷ [])) h

pub two_units : (c : ℕ) → nat_lt c 0x1_0000 ≡ false → encode_utf16 c ≡ lead c ∷ trail c ∷ []
two_units c h = ap (λ b. cond b (c ∷ []) (lead c ∷ trail c ∷ [])) h

top : (c : ℕ) → scalar c ≡ true → c < 1114112
top c h = ⊎_elim (λ (a : c < 55296). omega arith) (λ (a : (57344 ≤ c) × (c < 1114112)). a.1) (scalar_cases c h)

-- no character is the first half of a pair
no_lead : (c d : ℕ) → scalar c ≡ true → scalar d ≡ true → c ≡ lead d → ⊥
no_lead c d hc hd e =
    let t = top d hd in
    ⊎_elim (λ (a : c < 55296). omega (arith, e)) (λ (a : (57344 ≤ c) × (c < 1114112)). omega (arith, e, t, a.0)) (scalar_cases c hc)

from_pair : (c d : ℕ) → 0x1_0000 ≤ c → 0x1_0000 ≤ d → lead c ≡ lead d → trail c ≡ trail d → c ≡ d
from_pair c d a b e f = omega arith

large : (c : ℕ) → nat_lt c 0x1_0000 ≡ false → 0x1_0000 ≤ c
large c h = grind (arith, nat_tests)

record IsFirst (c d : ℕ) (x y : List ℕ) : Type 0 where
  code : c ≡ d
  rest : x ≡ y

firsts : (c d : ℕ) (x y : List ℕ) → scalar c ≡ true → scalar d ≡ true → encode_utf16 c ++ x ≡ encode_utf16 d ++ y → IsFirst c d x y
firsts c d x y hc hd e = ⊎_elim
    (λ (a : nat_lt c 0x1_0000 ≡ true). ⊎_elim
    (λ (b : nat_lt d 0x1_0000 ≡ true).
    let q : c ∷ x ≡ d ∷ y = sym (ap (λ (u : List ℕ). u ++ x) (one_unit c a)) ∙ (e ∙ ap (λ (u : List ℕ). u ++ y) (one_unit d b)) in
    record { code = cc; rest = cc })
    (λ (b : nat_lt d 0x1_0000 ≡ false).
    let q : c ∷ x ≡ lead d ∷ trail d ∷ y = sym (ap (λ (u : List ℕ). u ++ x) (one_unit c a)) ∙ (e ∙ ap (λ (u : List ℕ). u ++ y) (two_units d b)) in
    let k : c ≡ lead d = cc in
    absurd (no_lead c d hc hd k))
    (cases_Bool (nat_lt d 0x1_0000)))
    (λ (a : nat_lt c 0x1_0000 ≡ false). ⊎_elim
    (λ (b : nat_lt d 0x1_0000 ≡ true).
    let q : lead c ∷ trail c ∷ x ≡ d ∷ y = sym (ap (λ (u : List ℕ). u ++ x) (two_units c a)) ∙ (e ∙ ap (λ (u : List ℕ). u ++ y) (one_unit d b)) in
    let k : d ≡ lead c = cc in
    absurd (no_lead d c hd hc k))
    (λ (b : nat_lt d 0x1_0000 ≡ false).
    let q : lead c ∷ trail c ∷ x ≡ lead d ∷ trail d ∷ y = sym (ap (λ (u : List ℕ). u ++ x) (two_units c a)) ∙ (e ∙ ap (λ (u : List ℕ). u ++ y) (two_units d b)) in
    let k : lead c ≡ lead d = cc in
    let l : trail c ≡ trail d = cc in
    record { code = from_pair c d (large c a) (large d b) k l; rest = cc })
    (cases_Bool (nat_lt d 0x1_0000)))
    (cases_Bool (nat_lt c 0x1_0000))

first_of : (c : ℕ) (cs : List ℕ) → scalars (c ∷ cs) ≡ true → scalar c ≡ true
first_of c cs h = grind arith

rest_of : (c : ℕ) (cs : List ℕ) → scalars (c ∷ cs) ≡ true → scalars cs ≡ true
rest_of c cs h = grind arith

no_units : (c : ℕ) (x : List ℕ) → [] ≡ encode_utf16 c ++ x → ⊥
no_units c x e = ⊎_elim
    (λ (a : nat_lt c 0x1_0000 ≡ true). let q : [] ≡ c ∷ x = e ∙ ap (λ (u : List ℕ). u ++ x) (one_unit c a) in cc)
    (λ (a : nat_lt c 0x1_0000 ≡ false). let q : [] ≡ lead c ∷ trail c ∷ x = e ∙ ap (λ (u : List ℕ). u ++ x) (two_units c a) in cc)
    (cases_Bool (nat_lt c 0x1_0000))

same_chars : (cs ds : List ℕ) → scalars cs ≡ true → scalars ds ≡ true → utf16 cs ≡ utf16 ds → cs ≡ ds
same_chars [] [] hc hd e = refl
same_chars [] (d ∷ ds) hc hd e = absurd (no_units d (utf16 ds) e)
same_chars (c ∷ cs) [] hc hd e = absurd (no_units c (utf16 cs) (sym e))
same_chars (c ∷ cs) (d ∷ ds) hc hd e =
    let f = firsts c d (utf16 cs) (utf16 ds) (first_of c cs hc) (first_of d ds hd) e in
    let r = same_chars cs ds (rest_of c cs hc) (rest_of d ds hd) f.rest in
    ap (λ u. u ∷ cs) f.code ∙ ap (λ (us : List ℕ). d ∷ us) r

pub words_alike : (a b : List ℕ) → IsUtf8 a → IsUtf8 b → bytes_eq a b ≡ bytes_eq (utf16 (chars a)) (utf16 (chars b))
words_alike a b ha hb =
    let d = bytes_eq-Decides (utf16 (chars a)) (utf16 (chars b)) in
    let texts : chars a ≡ chars b → a ≡ b = λ e. sym (encodes-chars a ha) ∙ (ap encode_utf8_all e ∙ encodes-chars b hb) in
    one_answer (bytes_eq a b) (bytes_eq (utf16 (chars a)) (utf16 (chars b))) (bytes_eq-Decides a b)
    ((λ h. texts (same_chars (chars a) (chars b) (scalars-chars a ha) (scalars-chars b hb) (d.0 h))), λ e. d.1 (ap (λ t. utf16 (chars t)) e))

pub past_one : (u f : ℕ) (t r : List ℕ) → f ≡ u → bytes_eq (u ∷ t) (f ∷ r) ≡ bytes_eq t r
past_one u f t r e = grind (arith, nat_tests)

append_same : (xs ys zs : List ℕ) → xs ++ ys ≡ xs ++ zs → ys ≡ zs
append_same [] ys zs e = e
append_same (x ∷ xs) ys zs e = append_same xs ys zs (let q : xs ++ ys ≡ xs ++ zs = cc in q)

-- a text without its first character
pub utf8_rest : (bs rest : List ℕ) (c : ℕ) → IsUtf8 bs → bs ≡ encode_utf8 c ++ rest → IsUtf8 rest
utf8_rest bs rest c h e =
    let q = chars_past_char bs rest c h e in
    let s : scalars (c ∷ chars rest) ≡ true = subst (λ cs. scalars cs ≡ true) q (scalars-chars bs h) in
    let p : encode_utf8 c ++ encode_utf8_all (chars rest) ≡ encode_utf8 c ++ rest = ap encode_utf8_all (sym q) ∙ (encodes-chars bs h ∙ e) in
    (chars rest, (rest_of c (chars rest) s, append_same (encode_utf8 c) (encode_utf8_all (chars rest)) rest p))

pub units_rest : (bs rest : List ℕ) (c : ℕ) → IsUtf8 bs → bs ≡ encode_utf8 c ++ rest → utf16 (chars bs) ≡ encode_utf16 c ++ utf16 (chars rest)
units_rest bs rest c h e = ap utf16 (chars_past_char bs rest c h e)

pub two_large : (c : ℕ) → 65536 ≤ c → encode_utf16 c ≡ lead c ∷ trail c ∷ []
two_large c h = two_units c (grind (arith, nat_tests))

pub no_pair : (c : ℕ) (units : List ℕ) → 65536 ≤ c → ((t : List ℕ) → bytes_eq (lead c ∷ t) units ≡ false) → (t : List ℕ) → bytes_eq (encode_utf16 c ++ t) units ≡ false
no_pair c units h k t = ap (λ (u : List ℕ). bytes_eq (u ++ t) units) (two_large c h) ∙ k (trail c ∷ t)

pub past_pair : (c : ℕ) (units rest : List ℕ) (o : Option (Bor (List ℕ))) → 65536 ≤ c → ((t : List ℕ) → bytes_eq (lead c ∷ t) units ≡ bytes_eq t rest)
    → MatchOption o ((t : List ℕ) → bytes_eq (trail c ∷ t) rest ≡ false) (λ r. (t : List ℕ) → bytes_eq (trail c ∷ t) rest ≡ bytes_eq t r.now)
    → MatchOption o ((t : List ℕ) → bytes_eq (encode_utf16 c ++ t) units ≡ false) (λ r. (t : List ℕ) → bytes_eq (encode_utf16 c ++ t) units ≡ bytes_eq t r.now)
past_pair c units rest None h k l = λ t. ap (λ (u : List ℕ). bytes_eq (u ++ t) units) (two_large c h) ∙ (k (trail c ∷ t) ∙ l t)
past_pair c units rest (Some r) h k l = λ t. ap (λ (u : List ℕ). bytes_eq (u ++ t) units) (two_large c h) ∙ (k (trail c ∷ t) ∙ l t)

pub past_small : (c : ℕ) (units : List ℕ) (o : Option (Bor (List ℕ))) → c < 65536
    → MatchOption o ((t : List ℕ) → bytes_eq (c ∷ t) units ≡ false) (λ r. (t : List ℕ) → bytes_eq (c ∷ t) units ≡ bytes_eq t r.now)
    → MatchOption o ((t : List ℕ) → bytes_eq (encode_utf16 c ++ t) units ≡ false) (λ r. (t : List ℕ) → bytes_eq (encode_utf16 c ++ t) units ≡ bytes_eq t r.now)
past_small c units None h l = λ t. ap (λ (u : List ℕ). bytes_eq (u ++ t) units) (one_unit c (lt-ltb c 65536 h)) ∙ l t
past_small c units (Some r) h l = λ t. ap (λ (u : List ℕ). bytes_eq (u ++ t) units) (one_unit c (lt-ltb c 65536 h)) ∙ l t

-- a text goes on with a character
pub goes_on : (bs more rest : List ℕ) (c : ℕ) (b : Bool) → IsUtf8 bs → bs ≡ encode_utf8 c ++ more → bytes_eq (utf16 (chars bs)) rest ≡ b → bytes_eq (encode_utf16 c ++ utf16 (chars more)) rest ≡ b
goes_on bs more rest c b h e i = ap (λ (u : List ℕ). bytes_eq u rest) (sym (units_rest bs more c h e)) ∙ i

left_over : (rest : List ℕ) → (length rest == 0) ≡ bytes_eq [] rest
left_over [] = refl
left_over (y ∷ ys) = eqb-suc-zero (length ys)

-- a text ends
pub ends : (bs rest : List ℕ) → length bs ≡ 0 → (length rest == 0) ≡ bytes_eq (utf16 (chars bs)) rest
ends bs rest h = left_over rest ∙ ap (λ (u : List ℕ). bytes_eq (utf16 u) rest) (sym (ap chars (nil_from_length bs h) ∙ chars-nil))
