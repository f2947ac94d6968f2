-- The parts that a text begins with, and characters that stand for themselves wherever they are.
use Rattle.std.proofs.Common.{◌≡◌, ℕ, zero, ◌<◌, ◌≤◌, Bool, true, false, List, [], ◌∷◌, ◌++◌, refl, sym, ap, ◌∙◌, arith}
use Rattle.std.specs.Prelude.{if◌then◌else◌, nat_lt, ◌&&◌, ◌||◌, ◌==◌, not}
use Rattle.std.specs.Str.Parse.{digits_value}
use Rattle.std.proofs.lemmas.Bool.{ltb-false, eqb-true, ne_eqb, false≢true, and_parts, cond_both, and_from}
use Rattle.std.proofs.lemmas.Bool.Decides.{nat_tests}
use Rattle.lex_pieces.specs.Runs.{Each}
use Rattle.lex_literal.specs.Escapes.{is_hex, is_special}
use Rattle.print_spelling.specs.declared.form.Form.{Form}
use Rattle.print_spelling.specs.declared.form.Form.TheVariants as f
use Rattle.print_spelling.specs.declared.style.Style.{Style}
use Rattle.print_spelling.specs.Forms.{written}
use Rattle.print_spelling.specs.declared.template.part.Part.TheVariants as p
use Rattle.print_spelling.specs.Template.Templates.{hex_part, escaped, behind_backslash, begins_digits, escape_more, form_of, digit_first, parts, parts_text}
use Rattle.print_spelling.proofs.template.LineLemmas.{is_other}

pub bare_parts : (c : ℕ) (rest : List ℕ) → (c == 92) ≡ false → parts zero (c ∷ rest) ≡ p.Code c ∷ parts zero rest
bare_parts c rest e = ap (λ b. (if b then behind_backslash rest else p.Code c) ∷ parts (if b then escape_more rest else 0) rest) e

pub pair_parts : (d : ℕ) (rest : List ℕ) → (d == 120) ≡ false → parts zero (92 ∷ d ∷ rest) ≡ escaped d rest ∷ parts zero rest
pair_parts d rest e = ap (λ b. escaped d rest ∷ parts (if b && begins_digits rest then 3 else 1) (d ∷ rest)) e

pub no_special_x : (d : ℕ) → is_special d ≡ false → (d == 120) ≡ false
no_special_x d s = grind (arith, nat_tests)

pub no_special_return : (d : ℕ) → is_special d ≡ false → is_other d ≡ true
no_special_return d s = grind (arith, nat_tests)

pub hex_other : (c : ℕ) → is_hex c ≡ true → is_other c ≡ true
hex_other c h = other_than_13 c (λ e. absurd (false≢true (ap is_hex e ∙ h)))
  where
    other_than_13 : (c : ℕ) → (13 ≡ c → ⊥) → is_other c ≡ true
    other_than_13 c h = ap not (ne_eqb c 13 (λ e. absurd (h (sym e))))

pub hex_parts : (a b : ℕ) (rest : List ℕ) → is_hex a ≡ true → is_hex b ≡ true
    → parts zero (92 ∷ 120 ∷ a ∷ b ∷ rest) ≡ hex_part a b (digits_value 16 (a ∷ b ∷ [])) ∷ parts zero rest
hex_parts a b rest h k =
    ap (λ x. (if x then hex_part a b (digits_value 16 (a ∷ b ∷ [])) else p.Pair 120) ∷ parts (if x then 3 else 1) (120 ∷ a ∷ b ∷ rest))
    (and_from (is_hex a) (is_hex b) h k)

-- ---- characters that stand for themselves

abbrev pub is_self : ℕ → Bool
is_self c = nat_lt 47 c && (nat_lt c 0x7F && not (c == 92 || c == 96))

record IsSelf (g : Form) : Type 0 where
  is : g ≡ f.Bare

self_no_backslash : (c : ℕ) → is_self c ≡ true → (c == 92) ≡ false
self_no_backslash c h = grind (arith, nat_tests)

self_no_dollar : (c : ℕ) → is_self c ≡ true → (c == 36) ≡ false
self_no_dollar c h = grind (arith, nat_tests)

self_other : (c : ℕ) → is_self c ≡ true → is_other c ≡ true
self_other c h = grind (arith, nat_tests)

module _ (c : ℕ) (h : is_self c ≡ true) where
  self_low : 47 < c
  self_low = grind (arith, nat_tests)

  self_high : c < 0x7F
  self_high = grind (arith, nat_tests)

  below : (k : ℕ) → k ≤ 47 → (c == k) ≡ true → ⊥
  below k l e = let x = eqb-true c k e in let y = self_low in omega arith

  self_form : (style : Style) (digit : Bool) → IsSelf (form_of style false digit c)
  self_form style digit =
      cond_both (c == 0) _ _ IsSelf
      (λ e. absurd (below 0 (omega arith) e))
      (λ _. cond_both (c == 8) _ _ IsSelf
      (λ e. absurd (below 8 (omega arith) e))
      (λ _. cond_both (c == 11) _ _ IsSelf
      (λ e. absurd (below 11 (omega arith) e))
      (λ _. cond_both (c == 12) _ _ IsSelf
      (λ e. absurd (below 12 (omega arith) e))
      (λ _. cond_both (c == 123 && false) _ _ IsSelf
      (λ e. absurd (false≢true (and_parts (c == 123) false e).1))
      (λ _. cond_both (nat_lt c 0x7F) _ _ IsSelf
      (λ e. record { is = refl })
      (λ e. absurd (let x = ltb-false c 0x7F e in let y = self_high in omega arith)))))))

pub self_text : (style : Style) (ds rest m : List ℕ) → Each is_self ds → parts_text style false (parts zero (ds ++ rest)) m ≡ ds ++ parts_text style false (parts zero rest) m
self_text style [] rest m h = refl
self_text style (d ∷ ds) rest m h =
    ap (λ ps. parts_text style false ps m) (bare_parts d (ds ++ rest) (self_no_backslash d h.0))
    ∙ ap (λ g. written g d (parts_text style (d == 36) (parts zero (ds ++ rest)) m)) (self_form d h.0 style (digit_first (parts zero (ds ++ rest)))).is
    ∙ ap (λ b. d ∷ parts_text style b (parts zero (ds ++ rest)) m) (self_no_dollar d h.0)
    ∙ ap (λ (l : List ℕ). d ∷ l) (self_text style ds rest m h.1)

pub each_other : (ds : List ℕ) → Each is_self ds → Each is_other ds
each_other [] h = tt
each_other (d ∷ ds) h = (self_other d h.0, each_other ds h.1)

pub hex_self : (c : ℕ) → is_hex c ≡ true → is_self c ≡ true
hex_self c h = grind (arith, nat_tests)

pub hexes_self : (ds : List ℕ) → Each is_hex ds → Each is_self ds
hexes_self [] h = tt
hexes_self (d ∷ ds) h = (hex_self d h.0, hexes_self ds h.1)
