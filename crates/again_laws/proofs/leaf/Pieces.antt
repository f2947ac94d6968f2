-- A piece of a template is written in scalar values (ECMA-262, 12.9.6).
use Rattle.std.proofs.Common.{◌≡◌, ℕ, zero, suc, ◌<◌, Bool, true, false, ◌&&◌, List, [], ◌∷◌, ◌++◌, refl, ap, ◌∙◌, arith}
use Rattle.std.specs.Prelude.{◌==◌, ◌^◌, if◌then◌else◌}
use Rattle.std.specs.Char.{IsScalar}
use Rattle.std.specs.Str.Parse.{digits_value}
use Rattle.std.proofs.lemmas.Bool.{and_parts, ltb-true, and_from}
use Rattle.std.proofs.lemmas.Int.Digits.{digits_value-lt}
use Rattle.std.proofs.lemmas.Bool.Decides.{nat_tests}
use Rattle.std.proofs.lemmas.List.{append-nil}
use lib.Utf8.{scalars, scalar}
use Rattle.lex_literal.specs.Escapes.{begins, is_hex, is_line_feed}
use Rattle.lex_literal.specs.Templates.{is_brace, line_feeds}
use Rattle.print_spelling.specs.declared.form.Form.TheVariants.{Hex}
use Rattle.print_spelling.specs.declared.style.Style.{Style}
use Rattle.print_spelling.specs.declared.template.part.Part.{Part}
use Rattle.print_spelling.specs.declared.template.part.Part.TheVariants.{Pair, Digits, Last, Nothing, Hexed, Code}
use Rattle.print_spelling.specs.Template.Templates.{is_kept_code, is_printed, hex_part, behind_x, is_separator, stays, escaped, behind_backslash, part_more, parts, form_of, part_text, digit_first, dollar_behind, parts_text, keeps_raw}
use Rattle.print_spelling.proofs.template.TextLemmas.{can_write}
use Rattle.again_laws.specs.Leaf.Laws.{TemplateScalars}
use Rattle.again_laws.proofs.leaf.Scalars.{Scal, written_scal}

-- What a part stands for can be written.
abbrev IsScalarPart : Part → Type 0
IsScalarPart (Pair d) = IsScalar d
IsScalarPart (Digits a b) = IsScalar a × IsScalar b
IsScalarPart Last = Unit {0}
IsScalarPart Nothing = Unit {0}
IsScalarPart (Hexed v) = v < 0x110000
IsScalarPart (Code c) = IsScalar c

abbrev AreScalarParts : List Part → Type 0
AreScalarParts [] = Unit {0}
AreScalarParts (p ∷ ps) = IsScalarPart p × AreScalarParts ps

-- ---- the parts of a raw text

fed : (cs : List ℕ) → scalars cs ≡ true → scalars (line_feeds cs) ≡ true
fed [] e = refl
fed (c ∷ cs) e = let p = and_parts (scalar c) (scalars cs) e in by p.0 (c == 13) (begins is_line_feed cs) (fed cs p.1)
  where
    by : scalar c ≡ true → (a b : Bool) → scalars (line_feeds cs) ≡ true → scalars (if a then (if b then line_feeds cs else 10 ∷ line_feeds cs) else c ∷ line_feeds cs) ≡ true
    by h true true m = m
    by h true false m = and_from (scalar 10) (scalars (line_feeds cs)) refl m
    by h false b m = and_from (scalar c) (scalars (line_feeds cs)) h m

choose : (b : Bool) (x y : Part) → (b ≡ true → IsScalarPart x) → IsScalarPart y → IsScalarPart (if b then x else y)
choose true x y f g = f refl
choose false x y f g = g

printed_scalar : (v : ℕ) → is_printed v ≡ true → IsScalar v
printed_scalar v h = grind (arith, nat_tests)

hex_small : (a b : ℕ) → (is_hex a && is_hex b) ≡ true → digits_value 16 (a ∷ b ∷ []) < 0x110000
hex_small a b h =
    let p = and_parts (is_hex a) (is_hex b) h in
    let l : digits_value 16 (a ∷ b ∷ []) < 16 ^ 2 = digits_value-lt 16 (a ∷ b ∷ []) (ltb-true _ _ p.0, (ltb-true _ _ p.1, tt)) in
    omega (arith, l)

hex_scalar : (a b v : ℕ) → IsScalar a → IsScalar b → v < 0x110000 → IsScalarPart (hex_part a b v)
hex_scalar a b v h g l = choose (is_kept_code v) (Digits a b) _ (λ _. (h, g)) (choose (is_printed v) (Code v) (Hexed v) (λ t. printed_scalar v t) l)

x_scalar : (cs : List ℕ) → scalars cs ≡ true → IsScalarPart (behind_x cs)
x_scalar [] e = refl
x_scalar (a ∷ []) e = refl
x_scalar (a ∷ (b ∷ cs)) e =
    let p = and_parts (scalar a) (scalars (b ∷ cs)) e in
    let q = and_parts (scalar b) (scalars cs) p.1 in
    choose (is_hex a && is_hex b) (hex_part a b (digits_value 16 (a ∷ b ∷ []))) (Pair 120) (λ t. hex_scalar a b (digits_value 16 (a ∷ b ∷ [])) p.0 q.0 (hex_small a b t)) refl

escaped_scalar : (d : ℕ) (cs : List ℕ) → IsScalar d → scalars cs ≡ true → IsScalarPart (escaped d cs)
escaped_scalar d cs h s =
    choose (d == 120) (behind_x cs) _ (λ _. x_scalar cs s)
    (choose (d == 110) (Code 10) _ (λ _. refl)
    (choose (d == 116) (Code 9) _ (λ _. refl)
    (choose (d == 48) (Code 0) _ (λ _. refl)
    (choose (is_separator d) Nothing _ (λ _. tt)
    (choose (stays d) (Pair d) _ (λ _. h)
    (choose (d == 36 && begins is_brace cs) (Pair d) (Code d) (λ _. h) h))))))

behind_scalar : (cs : List ℕ) → scalars cs ≡ true → IsScalarPart (behind_backslash cs)
behind_scalar [] e = tt
behind_scalar (d ∷ cs) e = let p = and_parts (scalar d) (scalars cs) e in escaped_scalar d cs p.0 p.1

parts_scalar : (n : ℕ) (cs : List ℕ) → scalars cs ≡ true → AreScalarParts (parts n cs)
parts_scalar n [] e = tt
parts_scalar zero (c ∷ cs) e = let p = and_parts (scalar c) (scalars cs) e in (choose (c == 92) (behind_backslash cs) (Code c) (λ _. behind_scalar cs p.1) p.0, parts_scalar (part_more c cs) cs p.1)
parts_scalar (suc n) (c ∷ cs) e = parts_scalar n cs (and_parts (scalar c) (scalars cs) e).1

-- ---- what is written of them

onto : (c : ℕ) (m : List ℕ) → IsScalar c → Scal m → Scal (c ∷ m)
onto c m h e = record { so = and_from (scalar c) (scalars m) h e.so }

part_scal : (style : Style) (dollar digit : Bool) (p : Part) (m : List ℕ) → IsScalarPart p → Scal m → Scal (part_text style dollar digit p m)
part_scal style dollar digit (Pair d) m h e = onto 92 (d ∷ m) refl (onto d m h e)
part_scal style dollar digit (Digits a b) m h e = onto 92 (120 ∷ a ∷ b ∷ m) refl (onto 120 (a ∷ b ∷ m) refl (onto a (b ∷ m) h.0 (onto b m h.1 e)))
part_scal style dollar digit Last m h e = onto 92 m refl e
part_scal style dollar digit Nothing m h e = e
part_scal style dollar digit (Hexed v) m h e = written_scal Hex v m h e
part_scal style dollar digit (Code c) m h e = written_scal (form_of style dollar digit c) c m (can_write style dollar digit c (form_of style dollar digit c) h refl) e

parts_scal : (style : Style) (dollar : Bool) (ps : List Part) (m : List ℕ) → AreScalarParts ps → Scal m → Scal (parts_text style dollar ps m)
parts_scal style dollar [] m h e = e
parts_scal style dollar (p ∷ ps) m h e =
    part_scal style dollar (digit_first ps) p (parts_text style (dollar_behind dollar p) ps m) h.0 (parts_scal style (dollar_behind dollar p) ps m h.1 e)

pub template_scalars : TemplateScalars
template_scalars style raw s = by (keeps_raw style raw)
  where
    by : (b : Bool) → scalars (if b then line_feeds raw ++ [] else parts_text style false (parts zero (line_feeds raw)) []) ≡ true
    by true = ap scalars (append-nil (line_feeds raw)) ∙ fed raw s
    by false = (parts_scal style false (parts zero (line_feeds raw)) [] (parts_scalar zero (line_feeds raw) (fed raw s)) (record { so = refl })).so
