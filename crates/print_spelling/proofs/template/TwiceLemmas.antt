-- What is written of a raw text is split into parts that are written as the same text.
use Rattle.std.proofs.Common.{◌≡◌, ℕ, zero, ◌<◌, ◌≤◌, Bool, true, false, List, [], ◌∷◌, ◌++◌, append_assoc, refl, sym, ap, subst, ◌∙◌, arith}
use Rattle.std.specs.Prelude.{if◌then◌else◌, nat_lt, ◌&&◌, ◌||◌, ◌==◌}
use Rattle.std.specs.Char.{digit_value}
use Rattle.std.specs.Str.Parse.{digits_value}
use Rattle.std.proofs.lemmas.Bool.{ltb-true, ltb-false, eqb-true, false≢true, and_parts, cond_both, and_from}
use Rattle.std.proofs.lemmas.Bool.Decides.{nat_tests}
use Rattle.lex_pieces.specs.Runs.{Each}
use Rattle.lex_pieces.proofs.Passing.{each_append}
use Rattle.lex_literal.specs.Escapes.{begins, is_decimal, is_hex, is_special}
use Rattle.lex_literal.specs.Templates.{is_bare, is_brace}
use Rattle.print_spelling.specs.declared.form.Form.{Form}
use Rattle.print_spelling.specs.declared.form.Form.TheVariants as f
use Rattle.print_spelling.specs.declared.style.Style.{Style}
use Rattle.print_spelling.specs.Forms.{written, lower, upper, braced_digits}
use Rattle.print_spelling.proofs.FormLemmas.{lower_hex, upper_hex, two_value, braced_are}
use Rattle.print_spelling.specs.declared.template.part.Part.{Part}
use Rattle.print_spelling.specs.declared.template.part.Part.TheVariants as p
use Rattle.print_spelling.specs.Template.Templates.{is_kept_code, is_printed, is_separator, stays, hex_part, escaped, form_of, part_text, digit_first, dollar_behind, parts, parts_text}
use Rattle.print_spelling.proofs.template.LineLemmas.{is_other}
use Rattle.print_spelling.proofs.template.PartLemmas.{may_stand, printed_stands, separator_special}
use Rattle.print_spelling.proofs.template.SplitLemmas.{bare_parts, pair_parts, no_special_x, no_special_return, hex_other, hex_parts, is_self, self_text, each_other, hexes_self}

-- ---- parts that written text is split into again

-- A part before the rest of the text: what follows its backslash makes this part, whatever stands behind it that begins
-- with a brace where the rest does, and a character stands for itself.
abbrev pub IsSound : Part → List ℕ → Type 0
IsSound (p.Pair d) rest = ((d == 120) ≡ false) × (is_other d ≡ true)
    × ((cs : List ℕ) → (begins is_brace rest ≡ true → begins is_brace cs ≡ true) → escaped d cs ≡ p.Pair d)
IsSound (p.Digits a b) rest = (is_hex a ≡ true) × (is_hex b ≡ true) × (is_kept_code (digits_value 16 (a ∷ b ∷ [])) ≡ true)
IsSound p.Last rest = ⊥
IsSound p.Nothing rest = Unit {0}
IsSound (p.Hexed v) rest = (v < 256) × (is_kept_code v ≡ false) × (is_printed v ≡ false)
IsSound (p.Code c) rest = may_stand c ≡ true

-- What is written of these parts is split into parts that are written as it is, and no CR is in it.
pub record AreTwice (style : Style) (ps : List Part) : Type 0 where
  pub text : (dollar : Bool) (m : List ℕ) → parts_text style dollar (parts zero (parts_text style dollar ps [])) m ≡ parts_text style dollar ps m
  pub first : (dollar : Bool) → digit_first (parts zero (parts_text style dollar ps [])) ≡ digit_first ps
  pub other : (dollar : Bool) → Each is_other (parts_text style dollar ps [])

pub none_twice : (style : Style) → AreTwice style []
none_twice style = record { text = λ dollar m. refl; first = λ dollar. refl; other = λ dollar. tt }

part_true : (b : Bool) (x y : Part) → b ≡ true → (if b then x else y) ≡ x
part_true b x y e = ap (λ t. if t then x else y) e

part_false : (b : Bool) (x y : Part) → b ≡ false → (if b then x else y) ≡ y
part_false b x y e = ap (λ t. if t then x else y) e

-- ---- characters

high_digit : (c : ℕ) → 0x7F ≤ c → false ≡ is_decimal c
high_digit c h = grind (arith, nat_tests)

high_dollar : (c : ℕ) → 0x7F ≤ c → (c == 36) ≡ false
high_dollar c h = grind (arith, nat_tests)

high_kept : (c : ℕ) → 0x7F ≤ c → is_kept_code c ≡ false
high_kept c h = grind (arith, nat_tests)

high_printed : (c : ℕ) → 0x7F ≤ c → is_printed c ≡ false
high_printed c h = grind (arith, nat_tests)

stands_other : (c : ℕ) → may_stand c ≡ true → is_other c ≡ true
stands_other c h = grind (arith, nat_tests)

stands_code : (c : ℕ) → may_stand c ≡ true → c < 0x110000
stands_code c h = ltb-true c 0x110000 (and_parts (nat_lt c 0x110000) (is_bare c) h).0

no_backslash : (c : ℕ) → may_stand c ≡ true → (c == 92) ≡ false
no_backslash c h = grind (arith, nat_tests)

-- what two digits of a code say
hexed_part : (a b v : ℕ) → is_kept_code v ≡ false → is_printed v ≡ false → hex_part a b v ≡ p.Hexed v
hexed_part a b v k q = part_false (is_kept_code v) _ _ k ∙ part_false (is_printed v) _ _ q

hexed_split : (v : ℕ) (m : List ℕ) → v < 256 → is_kept_code v ≡ false → is_printed v ≡ false
    → parts zero (92 ∷ 120 ∷ lower 16 v ∷ lower 1 v ∷ m) ≡ p.Hexed v ∷ parts zero m
hexed_split v m h k q =
    hex_parts (lower 16 v) (lower 1 v) m (lower_hex 16 v) (lower_hex 1 v)
    ∙ ap (λ n. hex_part (lower 16 v) (lower 1 v) n ∷ parts zero m) (sym (two_value v h))
    ∙ ap (λ (x : Part). x ∷ parts zero m) (hexed_part (lower 16 v) (lower 1 v) v k q)

hexed_other : (v : ℕ) (m : List ℕ) → Each is_other m → Each is_other (92 ∷ 120 ∷ lower 16 v ∷ lower 1 v ∷ m)
hexed_other v m h = (refl, (refl, (hex_other (lower 16 v) (lower_hex 16 v), (hex_other (lower 1 v) (lower_hex 1 v), h))))

module _ (style : Style) (rest : List ℕ) (i : AreTwice style (parts zero rest)) where
  -- a text that is split into one part, and then what is written behind it
  one_text : (dollar b : Bool) (text : List ℕ → List ℕ) (y : Part) → parts zero (text (parts_text style b (parts zero rest) [])) ≡ y ∷ parts zero (parts_text style b (parts zero rest) [])
      → dollar_behind dollar y ≡ b → ((m : List ℕ) → part_text style dollar (digit_first (parts zero rest)) y m ≡ text m)
      → (m : List ℕ) → parts_text style dollar (parts zero (text (parts_text style b (parts zero rest) []))) m ≡ text (parts_text style b (parts zero rest) m)
  one_text dollar b text y split by same m =
      ap (λ ps. parts_text style dollar ps m) split
      ∙ ap (λ d. part_text style dollar d y (parts_text style (dollar_behind dollar y) (parts zero (parts_text style b (parts zero rest) [])) m)) (i.first b)
      ∙ ap (λ x. part_text style dollar (digit_first (parts zero rest)) y (parts_text style x (parts zero (parts_text style b (parts zero rest) [])) m)) by
      ∙ ap (λ l. part_text style dollar (digit_first (parts zero rest)) y l) (i.text b m)
      ∙ same (parts_text style b (parts zero rest) m)

  -- ---- a character

  module _ (c : ℕ) (ok : may_stand c ≡ true) (dollar : Bool) where
    -- what is written of it in this form
    record IsAgain (g : Form) : Type 0 where
      text : (m : List ℕ) → parts_text style dollar (parts zero (written g c (parts_text style (c == 36) (parts zero rest) []))) m
          ≡ written g c (parts_text style (c == 36) (parts zero rest) m)
      first : digit_first (parts zero (written g c (parts_text style (c == 36) (parts zero rest) []))) ≡ is_decimal c
      other : Each is_other (written g c (parts_text style (c == 36) (parts zero rest) []))

    -- the form is that of the character
    record Turns (g : Form) : Type 0 where
      again : form_of style dollar (digit_first (parts zero rest)) c ≡ g → IsAgain g

    -- one part stands for it
    one : (g : Form) (y : Part) → parts zero (written g c (parts_text style (c == 36) (parts zero rest) [])) ≡ y ∷ parts zero (parts_text style (c == 36) (parts zero rest) [])
        → dollar_behind dollar y ≡ (c == 36) → ((m : List ℕ) → part_text style dollar (digit_first (parts zero rest)) y m ≡ written g c m)
        → ((qs : List Part) → digit_first (y ∷ qs) ≡ is_decimal c) → Each is_other (written g c (parts_text style (c == 36) (parts zero rest) [])) → IsAgain g
    one g y split by same first other = record {
      text = one_text dollar (c == 36) (written g c) y split by same;
      first = ap digit_first split ∙ first (parts zero (parts_text style (c == 36) (parts zero rest) []));
      other = other;
    }

    -- itself does
    self : (g : Form) → parts zero (written g c (parts_text style (c == 36) (parts zero rest) [])) ≡ p.Code c ∷ parts zero (parts_text style (c == 36) (parts zero rest) [])
        → Each is_other (written g c (parts_text style (c == 36) (parts zero rest) [])) → Turns g
    self g split other = record {
      again = λ is. one g (p.Code c) split refl (λ m. ap (λ h. written h c m) is) (λ qs. refl) other;
    }

    -- a letter behind a backslash does
    letter : (l n : ℕ) → c ≡ n → (n == 36) ≡ false → is_decimal n ≡ false → is_other l ≡ true
        → parts zero (92 ∷ l ∷ parts_text style (c == 36) (parts zero rest) []) ≡ p.Pair l ∷ parts zero (parts_text style (c == 36) (parts zero rest) [])
        → Turns (f.Letter l)
    letter l n e d q o split = record {
      again = λ is.
          one (f.Letter l) (p.Pair l) split (sym (ap (λ x. x == 36) e ∙ d)) (λ m. refl) (λ qs. sym (ap is_decimal e ∙ q))
          (refl, (o, i.other (c == 36)));
    }

    bare : Turns f.Bare
    bare = self f.Bare (bare_parts c (parts_text style (c == 36) (parts zero rest) []) (no_backslash c ok)) (stands_other c ok, i.other (c == 36))

    -- digits of an escape, each of which stands for itself
    digits : (g : Form) (ds : List ℕ) → 0x7F ≤ c → Each is_self ds → ((m : List ℕ) → written g c m ≡ 92 ∷ 117 ∷ (ds ++ m)) → Turns g
    digits g ds high h is = record {
      again = λ form.
          let w = parts_text style (c == 36) (parts zero rest) [] in
          record {
            text = λ m.
                ap (λ l. parts_text style dollar (parts zero l) m) (is w)
                ∙ ap (λ (l : List ℕ). 92 ∷ 117 ∷ l)
                (self_text style ds w m h
                ∙ ap (λ (l : List ℕ). ds ++ l) (ap (λ x. parts_text style x (parts zero w) m) (sym (high_dollar c high)) ∙ i.text (c == 36) m))
                ∙ sym (is (parts_text style (c == 36) (parts zero rest) m));
            first = ap (λ l. digit_first (parts zero l)) (is w) ∙ high_digit c high;
            other = subst (Each is_other) (sym (is w)) (refl, (refl, each_append is_other ds w (each_other ds h) (i.other (c == 36))));
          };
    }

    four_digits : 0x7F ≤ c → Turns f.Four
    four_digits high =
        digits f.Four (upper 4096 c ∷ upper 256 c ∷ upper 16 c ∷ upper 1 c ∷ []) high
        (hexes_self (upper 4096 c ∷ upper 256 c ∷ upper 16 c ∷ upper 1 c ∷ []) (upper_hex 4096 c, (upper_hex 256 c, (upper_hex 16 c, (upper_hex 1 c, tt)))))
        (λ m. refl)

    braces : 0x7F ≤ c → Turns f.Braced
    braces high =
        digits f.Braced (123 ∷ (braced_digits c ++ 125 ∷ [])) high
        (refl, each_append is_self (braced_digits c) (125 ∷ []) (hexes_self (braced_digits c) (braced_are c (stands_code c ok)).hex) (refl, tt))
        (λ m. ap (λ (l : List ℕ). 92 ∷ 117 ∷ 123 ∷ l) (sym (append_assoc (braced_digits c) (125 ∷ []) m)))

    hexed : 0x7F ≤ c → c < 0x100 → Turns f.Hex
    hexed high low = record {
      again = λ is.
          one f.Hex (p.Hexed c)
          (hexed_split c (parts_text style (c == 36) (parts zero rest) []) low (high_kept c high) (high_printed c high))
          (sym (high_dollar c high)) (λ m. refl) (λ qs. high_digit c high)
          (hexed_other c (parts_text style (c == 36) (parts zero rest) []) (i.other (c == 36)));
    }

    zero_split : c ≡ 0 → parts zero (92 ∷ 120 ∷ lower 16 c ∷ lower 1 c ∷ parts_text style (c == 36) (parts zero rest) []) ≡ p.Code c ∷ parts zero (parts_text style (c == 36) (parts zero rest) [])
    zero_split e =
        hex_parts (lower 16 c) (lower 1 c) (parts_text style (c == 36) (parts zero rest) []) (lower_hex 16 c) (lower_hex 1 c)
        ∙ ap (λ (x : ℕ). hex_part (lower 16 x) (lower 1 x) (digits_value 16 (lower 16 x ∷ lower 1 x ∷ [])) ∷ parts zero (parts_text style (c == 36) (parts zero rest) [])) e
        ∙ ap (λ (x : ℕ). p.Code x ∷ parts zero (parts_text style (c == 36) (parts zero rest) [])) (sym e)

    turned : Turns (form_of style dollar (digit_first (parts zero rest)) c)
    turned =
        cond_both (c == 0) _ _ Turns
        (λ a. cond_both (digit_first (parts zero rest)) _ _ Turns
        (λ b. self f.Hex (zero_split (eqb-true c 0 a)) (hexed_other c (parts_text style (c == 36) (parts zero rest) []) (i.other (c == 36))))
        (λ b. self f.Nul (ap (λ (x : ℕ). p.Code x ∷ parts zero (parts_text style (c == 36) (parts zero rest) [])) (sym (eqb-true c 0 a)))
        (refl, (refl, i.other (c == 36)))))
        (λ a. cond_both (c == 8) _ _ Turns
        (λ e. letter 98 8 (eqb-true c 8 e) refl refl refl refl)
        (λ _. cond_both (c == 11) _ _ Turns
        (λ e. letter 118 11 (eqb-true c 11 e) refl refl refl refl)
        (λ _. cond_both (c == 12) _ _ Turns
        (λ e. letter 102 12 (eqb-true c 12 e) refl refl refl refl)
        (λ _. cond_both (c == 123 && dollar) _ _ Turns
        (λ e. self (f.Letter 123)
        (ap (λ (x : ℕ). p.Code x ∷ parts zero (parts_text style (c == 36) (parts zero rest) [])) (sym (eqb-true c 123 (and_parts (c == 123) dollar e).0)))
        (refl, (refl, i.other (c == 36))))
        (λ _. cond_both (nat_lt c 0x7F) _ _ Turns
        (λ _. bare)
        (λ h. cond_both (nat_lt c 0x100) _ _ Turns
        (λ k. hexed (ltb-false c 0x7F h) (ltb-true c 0x100 k))
        (λ _. cond_both (is_separator c || c == 0xFEFF) _ _ Turns
        (λ _. four_digits (ltb-false c 0x7F h))
        (λ _. cond_both style.ascii_only _ _ Turns
        (λ _. braces (ltb-false c 0x7F h))
        (λ _. bare)))))))))

    code_again : IsAgain (form_of style dollar (digit_first (parts zero rest)) c)
    code_again = turned.again refl

  code_twice : (c : ℕ) → may_stand c ≡ true → AreTwice style (p.Code c ∷ parts zero rest)
  code_twice c ok = record {
    text = λ dollar m. (code_again c ok dollar).text m;
    first = λ dollar. (code_again c ok dollar).first;
    other = λ dollar. (code_again c ok dollar).other;
  }

  -- ---- the other parts

  -- the text begins with a brace where the rest does
  brace_first : begins is_brace rest ≡ true → begins is_brace (parts_text style false (parts zero rest) []) ≡ true
  brace_first h = by_rest rest h
    where
      by_rest : (cs : List ℕ) → begins is_brace cs ≡ true → begins is_brace (parts_text style false (parts zero cs) []) ≡ true
      by_rest [] e = e
      by_rest (c ∷ cs) e = subst (λ (x : ℕ). begins is_brace (parts_text style false (parts zero (x ∷ cs)) []) ≡ true) (sym (eqb-true c 123 e)) refl

  pub part_twice : (x : Part) → IsSound x rest → AreTwice style (x ∷ parts zero rest)
  part_twice (p.Pair d) h =
      let w = parts_text style false (parts zero rest) [] in
      let split : parts zero (92 ∷ d ∷ w) ≡ p.Pair d ∷ parts zero w =
      pair_parts d w h.0 ∙ ap (λ (x : Part). x ∷ parts zero w) (h.2 w brace_first) in record {
        text = λ dollar m. one_text dollar false (λ (l : List ℕ). 92 ∷ d ∷ l) (p.Pair d) split refl (λ l. refl) m;
        first = λ dollar. ap digit_first split;
        other = λ dollar. (refl, (h.1, i.other false));
      }
  part_twice (p.Digits a b) h =
      let w = parts_text style false (parts zero rest) [] in
      let split : parts zero (92 ∷ 120 ∷ a ∷ b ∷ w) ≡ p.Digits a b ∷ parts zero w =
      hex_parts a b w h.0 h.1 ∙ ap (λ (x : Part). x ∷ parts zero w) (part_true (is_kept_code (digits_value 16 (a ∷ b ∷ []))) _ _ h.2) in record {
        text = λ dollar m. one_text dollar false (λ (l : List ℕ). 92 ∷ 120 ∷ a ∷ b ∷ l) (p.Digits a b) split refl (λ l. refl) m;
        first = λ dollar. ap digit_first split;
        other = λ dollar. (refl, (refl, (hex_other a h.0, (hex_other b h.1, i.other false))));
      }
  part_twice p.Last h = absurd h
  part_twice p.Nothing h = record { text = λ dollar m. i.text dollar m; first = λ dollar. i.first dollar; other = λ dollar. i.other dollar }
  part_twice (p.Hexed v) h =
      let w = parts_text style false (parts zero rest) [] in
      let split : parts zero (92 ∷ 120 ∷ lower 16 v ∷ lower 1 v ∷ w) ≡ p.Hexed v ∷ parts zero w = hexed_split v w h.0 h.1 h.2 in record {
        text = λ dollar m. one_text dollar false (λ (l : List ℕ). 92 ∷ 120 ∷ lower 16 v ∷ lower 1 v ∷ l) (p.Hexed v) split refl (λ l. refl) m;
        first = λ dollar. ap digit_first split;
        other = λ dollar. hexed_other v w (i.other false);
      }
  part_twice (p.Code c) h = code_twice c h

-- ---- characters in a row

self_stands : (c : ℕ) → is_self c ≡ true → may_stand c ≡ true
self_stands c h = grind (arith, nat_tests)

pub selves_twice : (style : Style) (ds rest : List ℕ) → Each is_self ds → AreTwice style (parts zero rest) → AreTwice style (parts zero (ds ++ rest))
selves_twice style [] rest h i = i
selves_twice style (d ∷ ds) rest h i =
    subst (AreTwice style) (sym (bare_parts d (ds ++ rest) (no_backslash d (self_stands d h.0))))
    (part_twice style (ds ++ rest) (selves_twice style ds rest h.1 i) (p.Code d) (self_stands d h.0))

-- ---- the parts of escapes are sound

record IsSoundPart (rest : List ℕ) (x : Part) : Type 0 where
  pub is : IsSound x rest

module _ (d : ℕ) (code : d < 0x110000) (s : is_special d ≡ false) where
  single_stands : stays d ≡ false → may_stand d ≡ true
  single_stands e = grind (arith, nat_tests)

  single_is : (rest : List ℕ) → IsSoundPart rest (escaped d rest)
  single_is rest =
      cond_both (d == 120) _ _ (IsSoundPart rest)
      (λ e. absurd (false≢true (sym (no_special_x d s) ∙ e)))
      (λ a. cond_both (d == 110) _ _ (IsSoundPart rest)
      (λ e. record { is = refl })
      (λ b. cond_both (d == 116) _ _ (IsSoundPart rest)
      (λ e. record { is = refl })
      (λ t. cond_both (d == 48) _ _ (IsSoundPart rest)
      (λ e. absurd (false≢true (sym s ∙ ap is_special (eqb-true d 48 e))))
      (λ z. cond_both (is_separator d) _ _ (IsSoundPart rest)
      (λ e. absurd (false≢true (sym s ∙ separator_special d e)))
      (λ q. cond_both (stays d) _ _ (IsSoundPart rest)
      (λ e. record {
        is = (
          a,
          no_special_return d s,
          λ cs g.
              part_false (d == 120) _ _ a ∙ part_false (d == 110) _ _ b ∙ part_false (d == 116) _ _ t ∙ part_false (d == 48) _ _ z
              ∙ part_false (is_separator d) _ _ q
              ∙ part_true (stays d) _ _ e,
        );
      })
      (λ k. cond_both (d == 36 && begins is_brace rest) _ _ (IsSoundPart rest)
      (λ e. record {
        is = (
          a,
          no_special_return d s,
          λ cs g.
              let both_are = and_parts (d == 36) (begins is_brace rest) e in
              part_false (d == 120) _ _ a ∙ part_false (d == 110) _ _ b ∙ part_false (d == 116) _ _ t ∙ part_false (d == 48) _ _ z
              ∙ part_false (is_separator d) _ _ q
              ∙ part_false (stays d) _ _ k
              ∙ part_true (d == 36 && begins is_brace cs) _ _ (and_from (d == 36) (begins is_brace cs) both_are.0 (g both_are.1)),
        );
      })
      (λ _. record { is = single_stands k })))))))

pub single_sound : (d : ℕ) (rest : List ℕ) → d < 0x110000 → is_special d ≡ false → IsSound (escaped d rest) rest
single_sound d rest code s = (single_is d code s rest).is

two_low : (a b : ℕ) → is_hex a ≡ true → is_hex b ≡ true → digits_value 16 (a ∷ b ∷ []) < 256
two_low a b h i =
    let x = ltb-true (digit_value a) 16 h in
    let y = ltb-true (digit_value b) 16 i in
    omega arith

pub hex_sound : (a b : ℕ) (rest : List ℕ) → is_hex a ≡ true → is_hex b ≡ true → IsSound (hex_part a b (digits_value 16 (a ∷ b ∷ []))) rest
hex_sound a b rest h i =
    (cond_both (is_kept_code (digits_value 16 (a ∷ b ∷ []))) _ _ (IsSoundPart rest)
    (λ k. record { is = (h, i, k) })
    (λ k. cond_both (is_printed (digits_value 16 (a ∷ b ∷ []))) _ _ (IsSoundPart rest)
    (λ q. record { is = printed_stands (digits_value 16 (a ∷ b ∷ [])) k q })
    (λ q. record { is = (two_low a b h i, k, q) }))).is
