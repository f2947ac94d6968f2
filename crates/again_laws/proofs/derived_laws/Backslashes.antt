-- Bytes have a backslash where their characters have one.
use Rattle.std.proofs.Common.{◌≡◌, ℕ, ◌<◌, ◌≤◌, ⊎_elim, Bool, ◌||◌, List, [], ◌∷◌, ◌++◌, refl, sym, ap, ◌∙◌, arith, encode_utf8_all}
use lib.Utf8.{encode}
use Rattle.std.specs.List.{list_any}
use Rattle.std.proofs.lemmas.Bool.{cases_lt}
use Rattle.std.proofs.lemmas.Str.{encode_ascii}
use Rattle.print_spelling.specs.String.Strings.{is_backslash}
use Rattle.again_laws.proofs.derived_laws.Octals.{Some, High, encoded, high_other}

past_high : (xs ys : List ℕ) → High xs → list_any is_backslash (xs ++ ys) ≡ list_any is_backslash ys
past_high [] ys h = refl
past_high (x ∷ xs) ys h = ap (λ (b : Bool). b || list_any is_backslash (xs ++ ys)) (high_other x 92 (omega arith) h.0) ∙ past_high xs ys h.1

past_some : (xs ys : List ℕ) → Some xs → list_any is_backslash (xs ++ ys) ≡ list_any is_backslash ys
past_some [] ys h = absurd h
past_some (x ∷ xs) ys h = past_high (x ∷ xs) ys h

pub backslash_bytes : (cs : List ℕ) → list_any is_backslash (encode_utf8_all cs) ≡ list_any is_backslash cs
backslash_bytes [] = refl
backslash_bytes (c ∷ cs) = ⊎_elim
    (λ (l : c < 128). ap (λ (x : List ℕ). list_any is_backslash (x ++ encode_utf8_all cs)) (encode_ascii c l) ∙ ap (λ (b : Bool). is_backslash c || b) (backslash_bytes cs))
    (λ (l : 128 ≤ c). past_some (encode c) (encode_utf8_all cs) (encoded c l) ∙ (backslash_bytes cs ∙ sym (ap (λ (b : Bool). b || list_any is_backslash cs) (high_other c 92 (omega arith) l))))
    (cases_lt c 128)
