-- Texts of literals that are written again: formatted and formatted, formatted and minified, minified and minified, from ES2015 on, with
-- characters past ASCII.
use Rattle.std.proofs.Common.{◌≡◌, ℕ, ⊎_elim, Bool, true, false, not, ◌&&◌, ◌||◌, ◌==◌, List, [], ◌∷◌, ◌++◌, Some, None, refl, sym, ap, ◌∙◌, codes, bytes_eq, chars, IsUtf8, encode_utf8_all, nat_lt, if◌then◌else◌}
use lib.Utf8.{scalars}
use Rattle.std.specs.Prelude.{unwrap_or}
use Rattle.std.specs.List.{list_any}
use Rattle.std.proofs.lemmas.Bool.{cases_Bool, false≢true}
use Rattle.std.proofs.Math.Bool.{or-true}
use Rattle.std.proofs.lemmas.List.Elements.{filter-append}
use Rattle.std.proofs.lemmas.Str.{encodes-chars, chars-encodes, scalars-chars}
use Rattle.base_number.specs.Numbers.{SpecNumber, plain, prefix_radix}
use Rattle.base_token.specs.Editions.{edition_rank}
use Rattle.base_token.specs.declared.version.EsVersion.{EsVersion}
use Rattle.lex_literal.specs.Standing.{takes_point}
use Rattle.print_spelling.specs.declared.style.Style.{Style}
use Rattle.print_spelling.specs.Styles.{is_below_es2021}
use Rattle.print_spelling.specs.String.CodePoints.{AreUnits}
use Rattle.print_spelling.specs.String.Strings.{quoted, string_text, is_backslash, keeps_raw}
use Rattle.print_spelling.proofs.string.RawLemmas.{formatted_again}
use Rattle.print_spelling.specs.Number.Numbers.{formatted, before_member, separated, whole_text, is_new_prefix}
use Rattle.print_spelling.proofs.number.AgainLemmas.{separated_twice}
use Rattle.print_spelling.proofs.number.PlainLemmas.{plain_twice}
use Rattle.print_spelling.proofs.number.PointLemmas.{takes_no_more}
use Rattle.again_laws.proofs.leaf.Quotes.{quoted_scalars}
use Rattle.std.proofs.lemmas.Slice.Eq.{bytes_eq-Decides}
use Rattle.again_laws.proofs.derived_laws.Backslashes.{backslash_bytes}
use Rattle.print_layout_spec.specs.Literals.{string_bytes, number_bytes, big_bytes, is_escaped_directive}

-- ---- in one edition

module _ (t : EsVersion) (i : Bool) where
  abbrev pub at : Bool → Style
  at m = record { target = t; minify = m; ascii_only = false; inline_script = i }

  pub formatted_string : (u w : List ℕ) → IsUtf8 w → string_bytes (at false) u (Some w) ≡ w
  formatted_string u w h =
      ap (λ b. encode_utf8_all (if b then chars w else quoted (at false) u [])) (or-true (bytes_eq u (codes "use strict") && list_any is_backslash (chars w))) ∙ encodes-chars w h

  text_scalars : (u w : List ℕ) → IsUtf8 w → AreUnits u → scalars (string_text (at true) u (Some (chars w))) ≡ true
  text_scalars u w h a = by (keeps_raw (at true) u (chars w))
    where
      by : (b : Bool) → scalars (if b then chars w else quoted (at true) u []) ≡ true
      by true = scalars-chars w h
      by false = quoted_scalars (at true) u a

  -- what is formatted is formatted and minified as before, and what is minified is minified
  pub strings_again : (m n : Bool) → (m ≡ true → n ≡ true) → (u w : List ℕ) → IsUtf8 w → AreUnits u
      → string_bytes (at n) u (Some (string_bytes (at m) u (Some w))) ≡ string_bytes (at n) u (Some w)
  strings_again false n o u w h a = ap (λ x. string_bytes (at n) u (Some x)) (formatted_string u w h)
  strings_again true false o u w h a = absurd (false≢true (o refl))
  strings_again true true o u w h a =
      ap (λ x. encode_utf8_all (string_text (at true) u (Some x))) (chars-encodes (string_text (at true) u (Some (chars w))) (text_scalars u w h a))
      ∙ ap (λ x. encode_utf8_all x) (formatted_again (at true) u (Some (chars w)))

  -- a directive with an escape stays one, and no other string becomes one
  plain_directive : list_any is_backslash (quoted (at true) (codes "use strict") []) ≡ false
  plain_directive = by i
    where
      by : (j : Bool) → list_any is_backslash (quoted (record { target = t; minify = true; ascii_only = false; inline_script = j }) (codes "use strict") []) ≡ false
      by true = refl
      by false = refl

  pub directives_again : (m : Bool) (u w : List ℕ) → IsUtf8 w → is_escaped_directive u (Some (string_bytes (at m) u (Some w))) ≡ is_escaped_directive u (Some w)
  directives_again false u w h = ap (λ x. is_escaped_directive u (Some x)) (formatted_string u w h)
  directives_again true u w h = ⊎_elim
      (λ (e : bytes_eq u (codes "use strict") ≡ true). by e (list_any is_backslash (chars w)) refl)
      (λ (e : bytes_eq u (codes "use strict") ≡ false). ap (λ b. b && list_any is_backslash (string_bytes (at true) u (Some w))) e ∙ sym (ap (λ b. b && list_any is_backslash w) e))
      (cases_Bool (bytes_eq u (codes "use strict")))
    where
      same_backslash : list_any is_backslash w ≡ list_any is_backslash (chars w)
      same_backslash = ap (λ x. list_any is_backslash x) (sym (encodes-chars w h)) ∙ backslash_bytes (chars w)

      text_is : (b k : Bool) → bytes_eq u (codes "use strict") ≡ b → list_any is_backslash (chars w) ≡ k
          → string_bytes (at true) u (Some w) ≡ encode_utf8_all (if (b && k) || false then chars w else quoted (at true) u [])
      text_is b k e f = ap (λ x. encode_utf8_all (if (x && list_any is_backslash (chars w)) || false then chars w else quoted (at true) u [])) e
          ∙ ap (λ x. encode_utf8_all (if (b && x) || false then chars w else quoted (at true) u [])) f

      by : bytes_eq u (codes "use strict") ≡ true → (k : Bool) → list_any is_backslash (chars w) ≡ k → is_escaped_directive u (Some (string_bytes (at true) u (Some w))) ≡ is_escaped_directive u (Some w)
      by e true f = ap (λ x. is_escaped_directive u (Some x)) (text_is true true e f ∙ encodes-chars w h)
      by e false f =
          ap (λ x. is_escaped_directive u (Some x)) (text_is true false e f)
          ∙ ap (λ b. bytes_eq u (codes "use strict") && b)
          (backslash_bytes (quoted (at true) u []) ∙ ap (λ x. list_any is_backslash (quoted (at true) x [])) ((bytes_eq-Decides u (codes "use strict")).0 e) ∙ plain_directive ∙ sym (same_backslash ∙ f))

  -- numbers, once the edition has `0b` and `0o`
  module _ (modern : nat_lt (edition_rank t) 2 ≡ false) where
    as_read : (v : SpecNumber) (w : List ℕ) → formatted (at false) v (Some w) ≡ separated (at false) w
    as_read v w = ap (λ b. unwrap_or (if b && is_new_prefix (prefix_radix w) then whole_text v else None) (separated (at false) w)) modern

    pub numbers_again : (m n : Bool) → (m ≡ true → n ≡ true) → (v : SpecNumber) (w : List ℕ)
        → number_bytes (at n) v (Some (number_bytes (at m) v (Some w))) ≡ number_bytes (at n) v (Some w)
    numbers_again m true o v w = refl
    numbers_again true false o v w = absurd (false≢true (o refl))
    numbers_again false false o v w = as_read v (formatted (at false) v (Some w)) ∙ ap (λ x. separated (at false) x) (as_read v w) ∙ separated_twice (at false) w ∙ sym (as_read v w)

    member_twice : (f : List ℕ) → before_member (before_member f) ≡ before_member f
    member_twice f = ⊎_elim
        (λ (e : takes_point f ≡ true).
        let same : before_member f ≡ f ++ 46 ∷ [] = ap (λ b. if b then f ++ 46 ∷ [] else f) e in
        ap before_member same ∙ ap (λ b. if b then (f ++ 46 ∷ []) ++ 46 ∷ [] else f ++ 46 ∷ []) (takes_no_more f) ∙ sym same)
        (λ (e : takes_point f ≡ false). ap before_member (ap (λ b. if b then f ++ 46 ∷ [] else f) e))
        (cases_Bool (takes_point f))

    separated_point : (w : List ℕ) → separated (at false) (separated (at false) w ++ 46 ∷ []) ≡ separated (at false) w ++ 46 ∷ []
    separated_point w = by (is_below_es2021 (at false))
      where
        by : (b : Bool) → (if b then plain ((if b then plain w else w) ++ 46 ∷ []) else ((if b then plain w else w) ++ 46 ∷ [])) ≡ (if b then plain w else w) ++ 46 ∷ []
        by true = filter-append (λ c. not (c == 95)) (plain w) (46 ∷ []) ∙ ap (λ (l : List ℕ). l ++ 46 ∷ []) (plain_twice w)
        by false = refl

    separated_member : (w : List ℕ) → separated (at false) (before_member (separated (at false) w)) ≡ before_member (separated (at false) w)
    separated_member w = by (takes_point (separated (at false) w))
      where
        by : (b : Bool) → separated (at false) (if b then separated (at false) w ++ 46 ∷ [] else separated (at false) w) ≡ (if b then separated (at false) w ++ 46 ∷ [] else separated (at false) w)
        by true = separated_point w
        by false = separated_twice (at false) w

    pub pointed_again : (m n : Bool) → (m ≡ true → n ≡ true) → (v : SpecNumber) (w : List ℕ)
        → before_member (number_bytes (at n) v (Some (before_member (number_bytes (at m) v (Some w))))) ≡ before_member (number_bytes (at n) v (Some w))
    pointed_again m true o v w = refl
    pointed_again true false o v w = absurd (false≢true (o refl))
    pointed_again false false o v w =
        let f : formatted (at false) v (Some w) ≡ separated (at false) w = as_read v w in
        ap (λ x. before_member (formatted (at false) v (Some (before_member x)))) f
        ∙ ap before_member (as_read v (before_member (separated (at false) w)) ∙ separated_member w)
        ∙ member_twice (separated (at false) w) ∙ sym (ap before_member f)

  pub bigs_again : (m n : Bool) → (m ≡ true → n ≡ true) → (r : ℕ) (d w : List ℕ) → big_bytes (at n) r d (Some (big_bytes (at m) r d (Some w))) ≡ big_bytes (at n) r d (Some w)
  bigs_again m true o r d w = refl
  bigs_again true false o r d w = absurd (false≢true (o refl))
  bigs_again false false o r d w = separated_twice (at false) w
