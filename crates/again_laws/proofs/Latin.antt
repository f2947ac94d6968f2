-- Words with a character past ASCII: those that become strings where the output is ASCII.
use Rattle.std.proofs.Common.{◌≡◌, ℕ, ◌<◌, ⊎_elim, Bool, true, false, ◌||◌, List, [], ◌∷◌, ◌++◌, sym, ap, ◌∙◌, true≢false, arith}
use Rattle.std.specs.Char.Escape.{encode_utf16}
use Rattle.std.specs.List.{list_any}
use Rattle.std.proofs.lemmas.Bool.{cases_Bool, or_right}
use Rattle.std.proofs.lemmas.Bool.Decides.{nat_tests}
use Rattle.base_token.specs.Utf16.{utf16}
use Rattle.print_spelling.specs.String.Names.{is_latin}
use Rattle.print_spelling.proofs.FormLemmas.{one_unit}

latin_small : (c : ℕ) → is_latin c ≡ true → c < 65536
latin_small c h = grind (arith, nat_tests)

any_behind : (p : ℕ → Bool) (xs ys : List ℕ) → list_any p ys ≡ true → list_any p (xs ++ ys) ≡ true
any_behind p [] ys h = h
any_behind p (x ∷ xs) ys h = or_right (p x) (list_any p (xs ++ ys)) (any_behind p xs ys h)

-- the units of such a word have one as well
pub latin_units : (cs : List ℕ) → list_any is_latin cs ≡ true → list_any is_latin (utf16 cs) ≡ true
latin_units [] h = absurd (true≢false (sym h))
latin_units (c ∷ cs) h = ⊎_elim
    (λ (e : is_latin c ≡ true). ap (λ (us : List ℕ). list_any is_latin (us ++ utf16 cs)) (one_unit c (latin_small c e)) ∙ ap (λ (v : Bool). v || list_any is_latin (utf16 cs)) e)
    (λ (e : is_latin c ≡ false). any_behind is_latin (encode_utf16 c) (utf16 cs) (latin_units cs (sym (ap (λ (v : Bool). v || list_any is_latin cs) e) ∙ h)))
    (cases_Bool (is_latin c))
