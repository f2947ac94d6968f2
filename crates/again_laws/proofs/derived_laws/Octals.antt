-- A string without an escape of B.1.2 has no octal escape among its bytes.
use Rattle.std.proofs.Common.{◌≡◌, ℕ, ◌<◌, ◌≤◌, ltb, cond, inl, inr, ⊎_elim, Bool, true, false, not, ◌||◌, ◌==◌, if◌then◌else◌, List, [], ◌∷◌, ◌++◌, refl, sym, ap, ◌∙◌, arith, true≢false, encode_utf8_all}
use lib.Utf8.{encode}
use Rattle.std.specs.List.{list_any}
use Rattle.std.proofs.lemmas.Bool.{cases_lt, eqb-true}
use Rattle.std.proofs.lemmas.Bool.Decides.{nat_tests}
use Rattle.std.proofs.lemmas.Str.{encode_ascii}
use Rattle.base_proofs.proofs.Bools.{or_first}
use Rattle.lex_pieces.specs.Runs.{Each}
use Rattle.lex_pieces.specs.Characters.{is_line_terminator}
use Rattle.lex_literal.specs.declared.escape.Escape.{Escape}
use Rattle.lex_literal.specs.declared.escape.Escape.TheVariants.{Continuation, Code, Legacy}
use Rattle.lex_literal.specs.Escapes.{IsEscape, begins, is_decimal, is_hex, is_special}
use Rattle.lex_literal.specs.Units.{is_legacy}
use Rattle.lex_literal.specs.Strings.{Piece, Plain, Escaped, Pieces, SpellsString, has_legacy_escape, is_plain, is_quote}
use Rattle.grammar_spec.specs.Judge.Early.{has_octal, is_octal_escape, begins_digit, is_digit}

-- ---- tests of characters

-- what passes a test is none that doesn't
pub apart : (p : ℕ → Bool) (k c : ℕ) → p k ≡ false → p c ≡ true → (c == k) ≡ false
apart p k c e h = by (c == k) refl
  where
    by : (b : Bool) → (c == k) ≡ b → b ≡ false
    by true f = absurd (true≢false (sym h ∙ (ap p (eqb-true c k f) ∙ e)))
    by false f = refl

fails : (p : ℕ → Bool) (k c : ℕ) → p k ≡ true → p c ≡ false → (c == k) ≡ false
fails p k c e h = apart (λ d. not (p d)) k c (ap (λ (b : Bool). not b) e) (ap (λ (b : Bool). not b) h)

early_digit : (c : ℕ) → is_decimal c ≡ false → is_digit c ≡ false
early_digit c h = grind (arith, nat_tests)

high_digit : (c : ℕ) → 128 ≤ c → is_digit c ≡ false
high_digit c h = grind (arith, nat_tests)

pub high_other : (c n : ℕ) → n < 128 → 128 ≤ c → (c == n) ≡ false
high_other c n l h = grind (arith, nat_tests)

line_digit : (c : ℕ) → is_line_terminator c ≡ true → is_digit c ≡ false
line_digit c h = grind (arith, nat_tests)

-- ---- bytes

abbrev pub High : List ℕ → Type 0
High [] = Unit {0}
High (x ∷ xs) = (128 ≤ x) × High xs

abbrev pub Some : List ℕ → Type 0
Some [] = ⊥
Some (x ∷ xs) = (128 ≤ x) × High xs

second : (b : Bool) (x y : List ℕ) → b ≡ false → Some y → Some (cond b x y)
second true x y e f = absurd (true≢false e)
second false x y e f = f

either : (b : Bool) (x y : List ℕ) → Some x → Some y → Some (cond b x y)
either true x y e f = e
either false x y e f = f

pub encoded : (c : ℕ) → 128 ≤ c → Some (encode c)
unfolding encode
encoded c h =
    second (ltb c 128) _ _ (grind (arith, nat_tests))
    (either (ltb c 2048) _ _ (omega arith, (omega arith, tt))
    (either (ltb c 65536) _ _ (omega arith, (omega arith, (omega arith, tt))) (omega arith, (omega arith, (omega arith, (omega arith, tt))))))

past_high : (xs ys : List ℕ) → High xs → has_octal (xs ++ ys) ≡ has_octal ys
past_high [] ys h = refl
past_high (x ∷ xs) ys h = ap (λ (b : Bool). if b then is_octal_escape (xs ++ ys) else has_octal (xs ++ ys)) (high_other x 92 (omega arith) h.0) ∙ past_high xs ys h.1

past_some : (xs ys : List ℕ) → Some xs → (has_octal (xs ++ ys) ≡ has_octal ys) × (is_octal_escape (xs ++ ys) ≡ has_octal ys) × (begins_digit (xs ++ ys) ≡ false)
past_some [] ys h = absurd h
past_some (x ∷ xs) ys h = (
  past_high (x ∷ xs) ys h,
  ap (λ (b : Bool). if b then (begins_digit (xs ++ ys) || has_octal (xs ++ ys)) else (is_digit x || has_octal (xs ++ ys))) (high_other x 48 (omega arith) h.0) ∙ (ap (λ (b : Bool). b || has_octal (xs ++ ys)) (high_digit x h.0) ∙ past_high xs ys h.1),
  high_digit x h.0,
)

-- of a character past ASCII
high_char : (c : ℕ) (cs : List ℕ) → 128 ≤ c → (has_octal (c ∷ cs) ≡ has_octal cs) × (is_octal_escape (c ∷ cs) ≡ has_octal cs) × (begins_digit (c ∷ cs) ≡ false)
high_char c cs h = past_some (c ∷ []) cs (h, tt)

front : (c : ℕ) (cs : List ℕ) → c < 128 → encode_utf8_all (c ∷ cs) ≡ c ∷ encode_utf8_all cs
front c cs l = ap (λ (x : List ℕ). x ++ encode_utf8_all cs) (encode_ascii c l)

digit_bytes : (cs : List ℕ) → begins_digit (encode_utf8_all cs) ≡ begins_digit cs
digit_bytes [] = refl
digit_bytes (c ∷ cs) = ⊎_elim
    (λ (l : c < 128). ap begins_digit (front c cs l))
    (λ (l : 128 ≤ c). (past_some (encode c) (encode_utf8_all cs) (encoded c l)).2 ∙ sym (high_char c cs l).2)
    (cases_lt c 128)

by_octal : (c : ℕ) (cs : List ℕ) → has_octal (encode_utf8_all cs) ≡ has_octal cs → is_octal_escape (encode_utf8_all cs) ≡ is_octal_escape cs → has_octal (encode_utf8_all (c ∷ cs)) ≡ has_octal (c ∷ cs)
by_octal c cs f g = ⊎_elim
    (λ (l : c < 128). ap has_octal (front c cs l) ∙ (ap (λ (b : Bool). if c == 92 then b else has_octal (encode_utf8_all cs)) g ∙ ap (λ (b : Bool). if c == 92 then is_octal_escape cs else b) f))
    (λ (l : 128 ≤ c). (past_some (encode c) (encode_utf8_all cs) (encoded c l)).0 ∙ (f ∙ sym (high_char c cs l).0))
    (cases_lt c 128)

by_escape : (c : ℕ) (cs : List ℕ) → has_octal (encode_utf8_all cs) ≡ has_octal cs → is_octal_escape (encode_utf8_all (c ∷ cs)) ≡ is_octal_escape (c ∷ cs)
by_escape c cs f = ⊎_elim
    (λ (l : c < 128). ap is_octal_escape (front c cs l) ∙ (ap (λ (b : Bool). if c == 48 then (b || has_octal (encode_utf8_all cs)) else (is_digit c || has_octal (encode_utf8_all cs))) (digit_bytes cs)
    ∙ ap (λ (b : Bool). if c == 48 then (begins_digit cs || b) else (is_digit c || b)) f))
    (λ (l : 128 ≤ c). (past_some (encode c) (encode_utf8_all cs) (encoded c l)).1 ∙ (f ∙ sym (high_char c cs l).1))
    (cases_lt c 128)

mutual
  pub octal_bytes : (cs : List ℕ) → has_octal (encode_utf8_all cs) ≡ has_octal cs
  octal_bytes [] = refl
  octal_bytes (c ∷ cs) = by_octal c cs (octal_bytes cs) (escape_bytes cs)

  escape_bytes : (cs : List ℕ) → is_octal_escape (encode_utf8_all cs) ≡ is_octal_escape cs
  escape_bytes [] = refl
  escape_bytes (c ∷ cs) = by_escape c cs (octal_bytes cs)

-- ---- characters of a string

past_hex : (ds m : List ℕ) → Each is_hex ds → has_octal (ds ++ m) ≡ has_octal m
past_hex [] m h = refl
past_hex (d ∷ ds) m h = ap (λ (b : Bool). if b then is_octal_escape (ds ++ m) else has_octal (ds ++ m)) (apart is_hex 92 d refl h.0) ∙ past_hex ds m h.1

other_escape : (c : ℕ) (m : List ℕ) → (c == 48) ≡ false → is_digit c ≡ false → is_octal_escape (c ∷ m) ≡ has_octal m
other_escape c m e f = ap (λ (b : Bool). if b then (begins_digit m || has_octal m) else (is_digit c || has_octal m)) e ∙ ap (λ (b : Bool). b || has_octal m) f

no_digit : (m : List ℕ) → begins is_decimal m ≡ false → begins_digit m ≡ false
no_digit [] h = refl
no_digit (c ∷ cs) h = early_digit c h

escape_octals : (e : Escape) (t m : List ℕ) → IsEscape e t m → is_legacy e ≡ false → is_octal_escape t ≡ has_octal m
escape_octals Continuation t m (inl a) l = ap is_octal_escape a
escape_octals Continuation t m (inr a) l = ap is_octal_escape a.1 ∙ other_escape a.0 m (apart is_line_terminator 48 a.0 refl a.2) (line_digit a.0 a.2)
escape_octals (Code n) t m (inl a) l = ap is_octal_escape a.1 ∙ other_escape a.0 m (fails is_special 48 a.0 refl a.2) (early_digit a.0 (or_first _ _ a.2))
escape_octals (Code n) t m (inr (inl a)) l = ap is_octal_escape a.0 ∙ ap (λ (b : Bool). b || has_octal m) (no_digit m a.1)
escape_octals (Code n) t m (inr (inr (inl a))) l = ap is_octal_escape a.2 ∙ past_hex (a.0 ∷ a.1 ∷ []) m a.3
escape_octals (Code n) t m (inr (inr (inr (inl a)))) l = ap is_octal_escape a.4 ∙ past_hex (a.0 ∷ a.1 ∷ a.2 ∷ a.3 ∷ []) m a.5
escape_octals (Code n) t m (inr (inr (inr (inr a)))) l = ap is_octal_escape a.1 ∙ past_hex a.0 (125 ∷ m) a.2
escape_octals (Legacy n) t m h l = absurd (true≢false l)

plain_char : (quote c : ℕ) → is_plain quote c ≡ true → (c == 92) ≡ false
plain_char quote c h = by (c == quote) (c == 92) (c == 10 || c == 13) h
  where
    by : (a b d : Bool) → not (a || (b || d)) ≡ true → b ≡ false
    by true b d e = absurd (true≢false (sym e))
    by false true d e = absurd (true≢false (sym e))
    by false false d e = refl

pieces_octals : (quote : ℕ) (ps : List Piece) (text r : List ℕ) → Pieces quote ps text r → list_any has_legacy_escape ps ≡ false → has_octal text ≡ has_octal r
pieces_octals quote [] text r h l = ap has_octal h
pieces_octals quote (Plain c ∷ ps) text r h l =
    ap has_octal h.1.0 ∙ (ap (λ (b : Bool). if b then is_octal_escape h.0 else has_octal h.0) (plain_char quote c h.1.1) ∙ pieces_octals quote ps h.0 r h.2 l)
pieces_octals quote (Escaped e ∷ ps) text r h l =
    ap has_octal h.1.1 ∙ (escape_octals e h.1.0 h.0 h.1.2 (or_first _ _ l) ∙ pieces_octals quote ps h.0 r h.2 (rest_other _ _ l))
  where
    rest_other : (a b : Bool) → (a || b) ≡ false → b ≡ false
    rest_other true b e = absurd (true≢false e)
    rest_other false b e = e

quote_char : (quote : ℕ) (m : List ℕ) → is_quote quote ≡ true → has_octal (quote ∷ m) ≡ has_octal m
quote_char quote m h = ap (λ (b : Bool). if b then is_octal_escape m else has_octal m) (apart is_quote 92 quote refl h)

string_octals : (units text rest : List ℕ) → SpellsString units false text rest → has_octal text ≡ has_octal rest
string_octals units text rest h =
    let s = h.1 in ap has_octal s.3 ∙ (quote_char s.0 s.1 s.2 ∙ (pieces_octals s.0 h.0 s.1 (s.0 ∷ rest) s.4 (sym h.3) ∙ quote_char s.0 rest s.2))

-- The bytes of a whole string without an escape of B.1.2 have no octal escape.
pub no_octal : (units text : List ℕ) → SpellsString units false text [] → has_octal (encode_utf8_all text) ≡ false
no_octal units text h = octal_bytes text ∙ string_octals units text [] h
