-- Literals without raw texts are written as with them, where those are not written.
use Rattle.std.proofs.Common.{◌≡◌, ℕ, Bool, true, false, not, ◌&&◌, ◌||◌, if◌then◌else◌, List, [], Option, Some, None, encode_utf8_all, refl, sym, ap}
use Rattle.std.specs.List.{list_all}
use Rattle.std.specs.Str.{chars}
use Rattle.base_proofs.proofs.Bools.{or_first, or_second}
use Rattle.base_number.specs.Numbers.{SpecNumber}
use Rattle.base_token.specs.declared.place.Span.{Span}
use Rattle.print_spelling.specs.declared.style.Style.{Style}
use Rattle.print_spelling.specs.String.Strings.{quoted, is_ascii}
use Rattle.print_spelling.specs.Number.Numbers.{before_member}
use Rattle.print_layout_spec.specs.declared.look.Look.{Look}
use Rattle.print_layout_spec.specs.Looks.{text}
use Rattle.print_layout_spec.specs.Literals.{string_bytes, number_bytes, big_bytes, is_escaped_directive, name_bytes, name, identifier, key_word, hash_name, string, number, number_before_point, big_integer}
use Rattle.print_layout_laws.specs.Bare.{asks_raw, kept_place, kept_raw, kept_string}
use Rattle.print_layout_laws.proofs.Alike.{Alike, same, equal, ◌▸◌, when_alike, start_alike, end_alike, named_alike}

taken : {A : Type 0} (b : Bool) (x y z : A) → b ≡ true → (if b then x else y) ≡ (if b then x else z)
taken b x y z e = rw e refl

-- ---- strings

quoted_alone : (escaped short other : Bool) (x y : List ℕ) → escaped ≡ false → short ≡ true → y ≡ (if escaped || (not short && other) then x else y)
quoted_alone escaped short other x y e m = rw (e, m) refl

kept_bytes : (style : Style) (units raw : List ℕ) (b : Bool) → style.minify ≡ true → asks_raw units (Some raw) ≡ b
    → string_bytes style units (if b then Some raw else None) ≡ string_bytes style units (Some raw)
kept_bytes style units raw true m e = refl
kept_bytes style units raw false m e = ap (λ s. encode_utf8_all s)
    (quoted_alone (is_escaped_directive units (Some (chars raw))) style.minify (not style.ascii_only || list_all is_ascii (chars raw)) (chars raw) (quoted style units [])
    (or_second (is_escaped_directive units (Some raw)) _ e) m)

same_string : (style : Style) (raws : Bool) (units : List ℕ) (raw : Option (List ℕ)) → (raws ≡ false → style.minify ≡ true)
    → string_bytes style units (kept_string raws units raw) ≡ string_bytes style units raw
same_string style true units raw h = refl
same_string style false units None h = refl
same_string style false units (Some raw) h = kept_bytes style units raw (asks_raw units (Some raw)) (h refl) refl

kept_directive : (units raw : List ℕ) (b : Bool) → asks_raw units (Some raw) ≡ b → is_escaped_directive units (if b then Some raw else None) ≡ is_escaped_directive units (Some raw)
kept_directive units raw true e = refl
kept_directive units raw false e = sym (or_first (is_escaped_directive units (Some raw)) _ e)

same_directive : (raws : Bool) (units : List ℕ) (raw : Option (List ℕ)) → is_escaped_directive units (kept_string raws units raw) ≡ is_escaped_directive units raw
same_directive true units raw = refl
same_directive false units None = refl
same_directive false units (Some raw) = kept_directive units raw (asks_raw units (Some raw)) refl

-- ---- numbers

same_number : (style : Style) (raws : Bool) (value : SpecNumber) (raw : Option (List ℕ)) → (raws ≡ false → style.minify ≡ true)
    → number_bytes style value (kept_raw raws raw) ≡ number_bytes style value raw
same_number style true value raw h = refl
same_number style false value raw h = taken style.minify _ _ _ (h refl)

same_big : (style : Style) (raws : Bool) (radix : ℕ) (digits : List ℕ) (raw : Option (List ℕ)) → (raws ≡ false → style.minify ≡ true)
    → big_bytes style radix digits (kept_raw raws raw) ≡ big_bytes style radix digits raw
same_big style true radix digits raw h = refl
same_big style false radix digits None h = refl
same_big style false radix digits (Some raw) h = sym (chosen style.minify _ _ (h refl))
  where
    chosen : (b : Bool) (x y : List ℕ) → b ≡ true → (if b then x else y) ≡ x
    chosen b x y e = rw e refl

-- ---- each as it is laid out

module _ (places raws : Bool) (look : Look) (h : raws ≡ false → look.style.minify ≡ true) where
  spelled : {x y : List ℕ} → x ≡ y → Alike places (text x) (text y)
  spelled e = equal (ap (λ s. text s) e)

  pub name_alike : (span : Span) (sym : List ℕ) → Alike places (name look (kept_place places span) sym) (name look span sym)
  name_alike span sym = same ▸ start_alike span ▸ same

  pub identifier_alike : (span : Span) (sym : List ℕ) → Alike places (identifier look (kept_place places span) sym) (identifier look span sym)
  identifier_alike span sym = named_alike span (name_bytes look.style sym)

  pub key_word_alike : (span : Span) (sym : List ℕ) → Alike places (key_word look (kept_place places span) sym) (key_word look span sym)
  key_word_alike span sym = same ▸ start_alike span ▸ same

  pub hash_name_alike : (span : Span) (sym : List ℕ) → Alike places (hash_name look (kept_place places span) sym) (hash_name look span sym)
  hash_name_alike span sym = start_alike span ▸ same ▸ name_alike span sym ▸ end_alike span

  pub string_alike : (span : Span) (units : List ℕ) (raw : Option (List ℕ)) → Alike places (string look (kept_place places span) units (kept_string raws units raw)) (string look span units raw)
  string_alike span units raw = same ▸ start_alike span ▸ spelled (same_string look.style raws units raw h) ▸ when_alike _ _ (same_directive raws units raw) (end_alike span)

  pub number_alike : (span : Span) (value : SpecNumber) (raw : Option (List ℕ)) → Alike places (number look (kept_place places span) value (kept_raw raws raw)) (number look span value raw)
  number_alike span value raw = same ▸ start_alike span ▸ spelled (same_number look.style raws value raw h)

  pub number_before_point_alike : (span : Span) (value : SpecNumber) (raw : Option (List ℕ)) → Alike places (number_before_point look (kept_place places span) value (kept_raw raws raw)) (number_before_point look span value raw)
  number_before_point_alike span value raw = same ▸ start_alike span ▸ spelled (ap (λ s. before_member s) (same_number look.style raws value raw h))

  pub big_integer_alike : (span : Span) (radix : ℕ) (digits : List ℕ) (raw : Option (List ℕ)) → Alike places (big_integer look (kept_place places span) radix digits (kept_raw raws raw)) (big_integer look span radix digits raw)
  big_integer_alike span radix digits raw = same ▸ start_alike span ▸ spelled (same_big look.style raws radix digits raw h) ▸ end_alike span
