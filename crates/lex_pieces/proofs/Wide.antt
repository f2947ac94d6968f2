-- The characters whose bytes a scan passes, found by those bytes.
use Rattle.std.proofs.Common.{◌≡◌, ℕ, ◌+◌, ◌/◌, ◌<◌, ◌≤◌, ◌⊎◌, inl, inr, ⊎_elim, Bool, true, false, ltb, not, ◌&&◌, drop, List, [], ◌∷◌, ◌++◌, length, length-append, get_or, refl, sym, ap, subst, ◌∙◌, arith}
use Rattle.std.specs.Prelude.{Option, None, Some, unwrap_or}
use Rattle.std.specs.List.{prefix_len}
use Rattle.std.proofs.lemmas.List.Sums.{prefix_len_is}
use Rattle.memchr.specs.Find.{IsFirstByte, Nowhere, Passes}
use Rattle.std.specs.Str.{IsCharBoundary, IsUtf8, chars, encode_utf8_all}
use Rattle.std.proofs.lemmas.Bool.{and_parts, cases_lt, cases_Bool, false≢true, false_from_ne_true}
use Rattle.std.proofs.lemmas.Bool.Decides.{nat_tests}
use Rattle.std.proofs.lemmas.Str.{IsCharBoundary-at_seam, chars-encodes, encode_ascii, encodes-append, encodes-chars, scalars-chars}
use Rattle.std.proofs.Math.Seq.{drop-append_seam}
use lib.Utf8.{encode, next, scalar, scalars}
use Rattle.lex_pieces.specs.Runs.{Passed}
use Rattle.lex_pieces.specs.Characters.{is_name_part, is_white_space}
use Rattle.lex_pieces.specs.Classes.{member, plain, is_line_byte, is_line_char, is_no_star, is_reg_exp_byte, is_reg_exp_char, is_reg_exp_mark}
use Rattle.lex_pieces.specs.declared.runs.Class.{Class}
use Rattle.lex_pieces.specs.declared.runs.Class.TheVariants.{NamePart, WhiteSpace, Line, NoStar, RegExp}
use Rattle.lex_pieces.proofs.Passing.{passed_none, passed_cons}

-- the bytes of a character after its first
abbrev Inner : List ℕ → Type 0
Inner [] = Unit {0}
Inner (b ∷ bs) = (128 ≤ b) × (b < 192) × Inner bs

record IsWide (c : ℕ) (b : ℕ) (bs : List ℕ) : Type 0 where
  whole : encode c ≡ b ∷ bs
  high : 192 ≤ b
  others : Inner bs
  line : c ≡ 0x2028 → b ≡ 226
  paragraph : c ≡ 0x2029 → b ≡ 226

pub encode_two : (c : ℕ) → ltb c 128 ≡ false → ltb c 2048 ≡ true → encode c ≡ (192 + c / 64) ∷ next c ∷ []
unfolding encode
encode_two c e f = rw e (rw f refl)

pub encode_three : (c : ℕ) → ltb c 128 ≡ false → ltb c 2048 ≡ false → ltb c 65536 ≡ true → encode c ≡ (224 + c / 4096) ∷ next (c / 64) ∷ next c ∷ []
unfolding encode
encode_three c e f g = rw e (rw f (rw g refl))

pub encode_four : (c : ℕ) → ltb c 128 ≡ false → ltb c 2048 ≡ false → ltb c 65536 ≡ false → encode c ≡ (240 + c / 262144) ∷ next (c / 4096) ∷ next (c / 64) ∷ next c ∷ []
unfolding encode
encode_four c e f g = rw e (rw f (rw g refl))

wide : (c : ℕ) → 128 ≤ c → (b : ℕ) × (bs : List ℕ) × IsWide c b bs
wide c h =
    let e : ltb c 128 ≡ false = grind (arith, nat_tests) in
    ⊎_elim
    (λ (short : c < 2048). (
      192 + c / 64,
      next c ∷ [],
      record {
        whole = encode_two c e (grind (arith, nat_tests));
        high = omega arith;
        others = (omega arith, omega arith, tt);
        line = λ is. omega (arith, is);
        paragraph = λ is. omega (arith, is);
      },
    ))
    (λ (long : 2048 ≤ c). let f : ltb c 2048 ≡ false = grind (arith, nat_tests) in ⊎_elim
    (λ (short : c < 65536). (
      224 + c / 4096,
      next (c / 64) ∷ next c ∷ [],
      record {
        whole = encode_three c e f (grind (arith, nat_tests));
        high = omega arith;
        others = (omega arith, omega arith, (omega arith, omega arith, tt));
        line = λ is. ap (λ n. 224 + n / 4096) is;
        paragraph = λ is. ap (λ n. 224 + n / 4096) is;
      },
    ))
    (λ (long : 65536 ≤ c). (
      240 + c / 262144,
      next (c / 4096) ∷ next (c / 64) ∷ next c ∷ [],
      record {
        whole = encode_four c e f (grind (arith, nat_tests));
        high = omega arith;
        others = (omega arith, omega arith, (omega arith, omega arith, (omega arith, omega arith, tt)));
        line = λ is. omega (arith, is);
        paragraph = λ is. omega (arith, is);
      },
    ))
    (cases_lt c 65536))
    (cases_lt c 2048)

-- the first byte of a character
pub record HasHead (c b : ℕ) (more : List ℕ) : Type 0 where
  pub whole : encode c ≡ b ∷ more
  pub low : c < 128 → b ≡ c
  pub high : 128 ≤ c → 128 ≤ b

pub head_of : (c : ℕ) → (b : ℕ) × (more : List ℕ) × HasHead c b more
head_of c = ⊎_elim
    (λ (short : c < 128). (c, [], record { whole = encode_ascii c short; low = λ _. refl; high = λ long. absurd (omega arith) }))
    (λ (long : 128 ≤ c).
    let w = wide c long in
    let high : 128 ≤ w.0 = omega (arith, w.2.high) in
    (w.0, w.1, record { whole = w.2.whole; low = λ short. absurd (omega arith); high = λ _. high }))
    (cases_lt c 128)

-- ---- which characters a scan passes

abbrev AllPass : (ℕ → Bool) → List ℕ → Type 0
AllPass q [] = Unit {0}
AllPass q (b ∷ bs) = (q b ≡ true) × AllPass q bs

-- all bytes of the character pass, and so does it
record IsPlain (p q : ℕ → Bool) (c : ℕ) : Type 0 where
  bytes : AllPass q (encode c)
  passes : p c ≡ true

-- its first byte does not pass
record IsOther (q : ℕ → Bool) (c : ℕ) : Type 0 where
  first : ℕ
  others : List ℕ
  whole : encode c ≡ first ∷ others
  stops : q first ≡ false

other_ascii : (q : ℕ → Bool) (c : ℕ) → c < 128 → q c ≡ false → IsOther q c
other_ascii q c short e = record { first = c; others = []; whole = encode_ascii c short; stops = e }

plain_ascii : (p q : ℕ → Bool) (c : ℕ) → c < 128 → q c ≡ true → p c ≡ true → IsPlain p q c
plain_ascii p q c short e t = record { bytes = subst (AllPass q) (sym (encode_ascii c short)) (e, tt); passes = t }

ltb_stops : (p : ℕ → Bool) (b : ℕ) → 192 ≤ b → (ltb b 128 && p b) ≡ false
ltb_stops p b high = let e : ltb b 128 ≡ false = grind (arith, nat_tests) in rw e refl

-- a test of ASCII alone
ascii_sorts : (p : ℕ → Bool) (c : ℕ) → IsPlain p (λ b. ltb b 128 && p b) c ⊎ IsOther (λ b. ltb b 128 && p b) c
ascii_sorts p c = ⊎_elim
    (λ (short : c < 128). ⊎_elim
    (λ (e : p c ≡ true). inl (plain_ascii p (λ b. ltb b 128 && p b) c short (grind (arith, nat_tests)) e))
    (λ (e : p c ≡ false). inr (other_ascii (λ b. ltb b 128 && p b) c short (grind (arith, nat_tests))))
    (cases_Bool (p c)))
    (λ (long : 128 ≤ c).
    let w = wide c long in
    let high = w.2.high in
    inr (record { first = w.0; others = w.1; whole = w.2.whole; stops = ltb_stops p w.0 high }))
    (cases_lt c 128)

line_inner : (bs : List ℕ) → Inner bs → AllPass is_line_byte bs
line_inner [] h = tt
line_inner (b ∷ bs) h = (grind (arith, nat_tests), line_inner bs h.2)

star_inner : (bs : List ℕ) → Inner bs → AllPass is_no_star bs
star_inner [] h = tt
star_inner (b ∷ bs) h = (grind (arith, nat_tests), star_inner bs h.2)

line_ascii : (c : ℕ) → c < 128 → is_line_byte c ≡ true → is_line_char c ≡ true
line_ascii c short e = grind (arith, nat_tests)

line_wide : (c b : ℕ) → 128 ≤ c → (c ≡ 0x2028 → b ≡ 226) → (c ≡ 0x2029 → b ≡ 226) → is_line_byte b ≡ true → is_line_char c ≡ true
line_wide c b long l p e = grind (arith, nat_tests)

line_sorts : (c : ℕ) → IsPlain is_line_char is_line_byte c ⊎ IsOther is_line_byte c
line_sorts c = ⊎_elim
    (λ (short : c < 128). ⊎_elim
    (λ (e : is_line_byte c ≡ true). inl (plain_ascii is_line_char is_line_byte c short e (line_ascii c short e)))
    (λ (e : is_line_byte c ≡ false). inr (other_ascii is_line_byte c short e))
    (cases_Bool (is_line_byte c)))
    (λ (long : 128 ≤ c).
    let w = wide c long in
    ⊎_elim
    (λ (e : is_line_byte w.0 ≡ true). inl (record {
      bytes = subst (AllPass is_line_byte) (sym w.2.whole) (e, line_inner w.1 w.2.others);
      passes = line_wide c w.0 long w.2.line w.2.paragraph e;
    }))
    (λ (e : is_line_byte w.0 ≡ false). inr (record { first = w.0; others = w.1; whole = w.2.whole; stops = e }))
    (cases_Bool (is_line_byte w.0)))
    (cases_lt c 128)

no_star_high : (b : ℕ) → 128 ≤ b → is_no_star b ≡ true
no_star_high b h = grind (arith, nat_tests)

star_sorts : (c : ℕ) → IsPlain is_no_star is_no_star c ⊎ IsOther is_no_star c
star_sorts c = ⊎_elim
    (λ (short : c < 128). ⊎_elim
    (λ (e : is_no_star c ≡ true). inl (plain_ascii is_no_star is_no_star c short e e))
    (λ (e : is_no_star c ≡ false). inr (other_ascii is_no_star c short e))
    (cases_Bool (is_no_star c)))
    (λ (long : 128 ≤ c).
    let w = wide c long in
    let high : 128 ≤ w.0 = omega (arith, w.2.high) in
    inl (record {
      bytes = subst (AllPass is_no_star) (sym w.2.whole) (no_star_high w.0 high, star_inner w.1 w.2.others);
      passes = no_star_high c long;
    }))
    (cases_lt c 128)

mark_inner : (bs : List ℕ) → Inner bs → AllPass is_reg_exp_byte bs
mark_inner [] h = tt
mark_inner (b ∷ bs) h = (grind (arith, nat_tests), mark_inner bs h.2)

mark_ascii : (c : ℕ) → c < 128 → is_reg_exp_byte c ≡ true → is_reg_exp_char c ≡ true
mark_ascii c short e = grind (arith, nat_tests)

no_mark_high : (c : ℕ) → 128 ≤ c → is_line_char c ≡ true → is_reg_exp_char c ≡ true
no_mark_high c h line = let e : is_reg_exp_mark c ≡ false = grind (arith, nat_tests) in rw line (rw e refl)

reg_exp_sorts : (c : ℕ) → IsPlain is_reg_exp_char is_reg_exp_byte c ⊎ IsOther is_reg_exp_byte c
reg_exp_sorts c = ⊎_elim
    (λ (short : c < 128). ⊎_elim
    (λ (e : is_reg_exp_byte c ≡ true). inl (plain_ascii is_reg_exp_char is_reg_exp_byte c short e (mark_ascii c short e)))
    (λ (e : is_reg_exp_byte c ≡ false). inr (other_ascii is_reg_exp_byte c short e))
    (cases_Bool (is_reg_exp_byte c)))
    (λ (long : 128 ≤ c).
    let w = wide c long in
    ⊎_elim
    (λ (e : is_reg_exp_byte w.0 ≡ true). inl (record {
      bytes = subst (AllPass is_reg_exp_byte) (sym w.2.whole) (e, mark_inner w.1 w.2.others);
      passes = no_mark_high c long (line_wide c w.0 long w.2.line w.2.paragraph (and_parts (is_line_byte w.0) (not (is_reg_exp_mark w.0)) e).0);
    }))
    (λ (e : is_reg_exp_byte w.0 ≡ false). inr (record { first = w.0; others = w.1; whole = w.2.whole; stops = e }))
    (cases_Bool (is_reg_exp_byte w.0)))
    (cases_lt c 128)

sorts : (k : Class) (c : ℕ) → IsPlain (member k) (plain k) c ⊎ IsOther (plain k) c
sorts NamePart c = ascii_sorts is_name_part c
sorts WhiteSpace c = ascii_sorts is_white_space c
sorts Line c = line_sorts c
sorts NoStar c = star_sorts c
sorts RegExp c = reg_exp_sorts c

-- ---- a text cut after the bytes that pass

prefix_all : (q : ℕ → Bool) (bs ds : List ℕ) → AllPass q bs → prefix_len q (bs ++ ds) ≡ length bs + prefix_len q ds
prefix_all q [] ds h = omega arith
prefix_all q (b ∷ bs) ds h = rw h.0 (omega (arith, prefix_all q bs ds h.1))

-- These characters at the front pass, and take so many bytes.
record Parts (p q : ℕ → Bool) (cs : List ℕ) : Type 0 where
  rest : List ℕ
  passed : Passed p cs rest
  size : length (encode_utf8_all passed.front) ≡ prefix_len q (encode_utf8_all cs)

parts : (p q : ℕ → Bool) → ((c : ℕ) → IsPlain p q c ⊎ IsOther q c) → (cs : List ℕ) → Parts p q cs
parts p q sort [] = record { rest = []; passed = passed_none p []; size = refl }
parts p q sort (c ∷ cs) =
    let k = parts p q sort cs in
    ⊎_elim
    (λ (h : IsPlain p q c). record {
      rest = k.rest;
      passed = passed_cons p c cs k.rest h.passes k.passed;
      size = omega (arith, length-append (encode c) (encode_utf8_all k.passed.front), prefix_all q (encode c) (encode_utf8_all cs) h.bytes, k.size);
    })
    (λ (h : IsOther q c). record {
      rest = c ∷ cs;
      passed = passed_none p (c ∷ cs);
      size = sym (ap (λ l. prefix_len q (l ++ encode_utf8_all cs)) h.whole ∙ rw h.stops refl);
    })
    (sort c)

pub scalars_parts : (xs ys : List ℕ) → scalars (xs ++ ys) ≡ true → (scalars xs ≡ true) × (scalars ys ≡ true)
scalars_parts [] ys h = (refl, h)
scalars_parts (x ∷ xs) ys h =
    (elim (scalar x) as (λ t. (t && scalars (xs ++ ys)) ≡ true → ((t && scalars xs) ≡ true) × (scalars ys ≡ true)) [
      | true ↦ λ e. scalars_parts xs ys e
      | false ↦ λ e. absurd (false≢true e)
    ]) h

-- ---- the first byte that a search finds

module _ (test q : ℕ → Bool) (opposed : (b : ℕ) → q b ≡ not (test b)) where
  none_passes : (hay : List ℕ) (i j : ℕ) → Nowhere (Passes test hay) i j → (k : ℕ) → i ≤ k → k < j → q (get_or hay k 0) ≡ true
  none_passes hay i j h k low high = opposed (get_or hay k 0) ∙ ap not (false_from_ne_true (test (get_or hay k 0)) (h k low high))

  pub first_len : (hay : List ℕ) (r : Option ℕ) → IsFirstByte test hay r → unwrap_or r (length hay) ≡ prefix_len q hay
  first_len hay None h =
      sym (prefix_len_is q hay (length hay) 0 (omega arith) (λ k l. none_passes hay 0 (length hay) h k (omega arith) l) (λ l. absurd (omega arith)))
  first_len hay (Some n) h =
      sym (prefix_len_is q hay n 0 (omega (arith, h.0.high)) (λ k l. none_passes hay 0 n h.0.before k (omega arith) l) (λ l. opposed (get_or hay n 0) ∙ ap not h.1))

-- ---- where a scan stops

pub record CutsPlain (p : ℕ → Bool) (s : List ℕ) (n : ℕ) : Type 0 where
  pub boundary : IsCharBoundary s n
  pub passed : Passed p (chars s) (chars (drop n s))

pub cuts_plain : (k : Class) (s : List ℕ) → IsUtf8 s → CutsPlain (member k) s (prefix_len (plain k) s)
cuts_plain k s u =
    let p = member k in
    let h = parts p (plain k) (sorts k) (chars s) in
    let front = h.passed.front in
    let own = encode_utf8_all front in
    let left = encode_utf8_all h.rest in
    let whole = sym (encodes-chars s u) ∙ ap encode_utf8_all h.passed.whole ∙ encodes-append front h.rest in
    let texts = scalars_parts front h.rest (ap scalars (sym h.passed.whole) ∙ scalars-chars s u) in
    let n = h.size ∙ ap (prefix_len (plain k)) (encodes-chars s u) in
    let rest : chars (drop (length own) s) ≡ h.rest =
    ap (λ l. chars (drop (length own) l)) whole ∙ ap chars (drop-append_seam own left) ∙ chars-encodes h.rest texts.1 in
    subst (CutsPlain p s) n (record {
      boundary = IsCharBoundary-at_seam s own left whole (h.rest, (texts.1, refl));
      passed = subst (Passed p (chars s)) (sym rest) h.passed;
    })
