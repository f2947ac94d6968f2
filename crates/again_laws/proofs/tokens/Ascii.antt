-- Bytes of ASCII are UTF-8, and are their own characters.
use Rattle.std.proofs.Common.{◌≡◌, ℕ, ◌<◌, Bool, true, List, [], ◌∷◌, ◌++◌, sym, ap, subst, ◌∙◌, arith}
use Rattle.std.specs.Prelude.{nat_lt}
use Rattle.std.specs.Char.{IsScalar}
use Rattle.std.specs.List.{list_all}
use Rattle.std.specs.Str.{chars, IsUtf8}
use Rattle.std.proofs.lemmas.Bool.{and_parts, ltb-true}
use Rattle.std.proofs.lemmas.Bool.Decides.{nat_tests}
use Rattle.std.proofs.lemmas.Str.{chars-nil, IsUtf8-append, IsUtf8-nil, IsUtf8-encode, encode_ascii, chars_past_char}

pub record Ascii (bs : List ℕ) : Type 0 where
  pub utf8 : IsUtf8 bs
  pub same : chars bs ≡ bs

abbrev pub is_ascii : List ℕ → Bool
is_ascii bs = list_all (λ c. nat_lt c 128) bs

is_scalar : (c : ℕ) → c < 128 → IsScalar c
is_scalar c h = grind (arith, nat_tests)

pub ascii : (bs : List ℕ) → is_ascii bs ≡ true → Ascii bs
ascii [] e = record { utf8 = IsUtf8-nil; same = chars-nil }
ascii (c ∷ cs) e =
    let p = and_parts (nat_lt c 128) (is_ascii cs) e in
    let h = ltb-true c 128 p.0 in
    let more = ascii cs p.1 in
    let own : IsUtf8 (c ∷ []) = subst (λ (l : List ℕ). IsUtf8 l) (encode_ascii c h) (IsUtf8-encode c (is_scalar c h)) in
    let whole : IsUtf8 (c ∷ cs) = IsUtf8-append (c ∷ []) cs own more.utf8 in record {
      utf8 = whole;
      same = chars_past_char (c ∷ cs) cs c whole (ap (λ (l : List ℕ). l ++ cs) (sym (encode_ascii c h))) ∙ ap (λ (l : List ℕ). c ∷ l) more.same;
    }
