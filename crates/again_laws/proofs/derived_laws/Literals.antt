-- Literals whose texts are given anew are laid out alike.
use Rattle.std.proofs.Common.{◌≡◌, ℕ, Bool, true, false, ◌||◌, if◌then◌else◌, List, Option, refl, sym, ap, subst}
use Rattle.base_number.specs.Numbers.{SpecNumber}
use Rattle.base_token.specs.declared.place.BytePos.{BytePos}
use Rattle.base_token.specs.declared.place.Span.{Span}
use Rattle.tree_spec.specs.Places.{no_place}
use Rattle.tree_spec.specs.Tree.{Tree, tpl_element}
use Rattle.print_spelling.specs.Number.Numbers.{before_member}
use Rattle.print_layout_spec.specs.declared.look.Look.{Look}
use Rattle.print_layout_spec.specs.declared.look.Stand.{Stand}
use Rattle.print_layout_spec.specs.declared.look.Stand.TheVariants.{Alone}
use Rattle.print_layout_spec.specs.Looks.{◌·◌, text, named, meant, template_characters, start}
use Rattle.print_layout_spec.specs.Layout.{laid, has_arguments, is_computed, number_before, quasi, is_tagged as is_tagged_stand}
use Rattle.print_layout_spec.specs.Literals.{string_bytes, number_bytes, big_bytes, quasi_bytes, is_escaped_directive, name_bytes, name, identifier, key_word, hash_name, string, number, number_before_point, big_integer}
use Rattle.print_layout_laws.proofs.Alike.{Alike, same, equal, ◌▸◌, when_alike, start_alike, end_alike}
use Rattle.again_laws.specs.Derived.Redo.{Mode, Headed, Pointed, is_asked, is_pointed, is_tagged, object_mode, Leaves, redo}

pub record Spelt (look : Look) (lv : Leaves) : Type 0 where
  pub strings : (u : List ℕ) (w : Option (List ℕ)) → string_bytes look.style u (lv.string u w) ≡ string_bytes look.style u w
  pub directives : (u : List ℕ) (w : Option (List ℕ)) → is_escaped_directive u (lv.string u w) ≡ is_escaped_directive u w
  pub numbers : (v : SpecNumber) (w : Option (List ℕ)) → number_bytes look.style v (lv.number false v w) ≡ number_bytes look.style v w
  pub pointed : (v : SpecNumber) (w : Option (List ℕ)) → before_member (number_bytes look.style v (lv.number true v w)) ≡ before_member (number_bytes look.style v w)
  pub bigs : (r : ℕ) (d : List ℕ) (w : Option (List ℕ)) → big_bytes look.style r d (lv.big r d w) ≡ big_bytes look.style r d w
  pub quasis : (b : Bool) (w : List ℕ) → quasi_bytes look.style b (lv.quasi b w) ≡ quasi_bytes look.style b w
  pub given_there : (b : Bool) (a : Tree) → has_arguments (lv.arguments b a) ≡ has_arguments a
  pub given_laid : (b : Bool) (a : Tree) → Alike false (laid look Alone (lv.arguments b a)) (laid look Alone a)

module _ (lv : Leaves) (look : Look) (h : Spelt look lv) where
  pub spelled : {x y : List ℕ} → x ≡ y → Alike false (text x) (text y)
  spelled e = equal (ap (λ s. text s) e)

  pub name_alike : (span : Span) (sym : List ℕ) → Alike false (name look no_place sym) (name look span sym)
  name_alike span sym = same ▸ start_alike span ▸ same

  pub identifier_alike : (pos : BytePos) (span : Span) (sym : List ℕ) → Alike false (named pos (name_bytes look.style sym)) (identifier look span sym)
  identifier_alike pos span sym = record { so = refl }

  pub key_word_alike : (span : Span) (sym : List ℕ) → Alike false (key_word look no_place sym) (key_word look span sym)
  key_word_alike span sym = same ▸ start_alike span ▸ same

  pub hash_name_alike : (span : Span) (sym : List ℕ) → Alike false (hash_name look no_place sym) (hash_name look span sym)
  hash_name_alike span sym = start_alike span ▸ same ▸ name_alike span sym ▸ end_alike span

  pub string_alike : (span : Span) (units : List ℕ) (raw : Option (List ℕ)) → Alike false (string look no_place units (lv.string units raw)) (string look span units raw)
  string_alike span units raw = same ▸ start_alike span ▸ spelled (h.strings units raw) ▸ when_alike _ _ (h.directives units raw) (end_alike span)

  pub number_alike : (span : Span) (value : SpecNumber) (raw : Option (List ℕ)) → Alike false (number look no_place value (lv.number false value raw)) (number look span value raw)
  number_alike span value raw = same ▸ start_alike span ▸ spelled (h.numbers value raw)

  pub number_at : (b : Bool) → b ≡ false → (span : Span) (value : SpecNumber) (raw : Option (List ℕ)) → Alike false (number look no_place value (lv.number b value raw)) (number look span value raw)
  number_at b e span value raw = subst (λ (c : Bool). Alike false (number look no_place value (lv.number c value raw)) (number look span value raw)) (sym e) (number_alike span value raw)

  pub number_before_point_alike : (span : Span) (value : SpecNumber) (raw : Option (List ℕ)) → Alike false (number_before_point look no_place value (lv.number true value raw)) (number_before_point look span value raw)
  number_before_point_alike span value raw = same ▸ start_alike span ▸ spelled (h.pointed value raw)

  pub big_integer_alike : (span : Span) (radix : ℕ) (digits : List ℕ) (raw : Option (List ℕ)) → Alike false (big_integer look no_place radix digits (lv.big radix digits raw)) (big_integer look span radix digits raw)
  big_integer_alike span radix digits raw = same ▸ start_alike span ▸ spelled (h.bigs radix digits raw) ▸ end_alike span

  -- as the object of a member
  pub number_before_alike : (m : Mode) → is_asked m ≡ false → (span : Span) (value : SpecNumber) (raw : Option (List ℕ)) (p q : Tree) → is_computed q ≡ is_computed p
      → Alike false (number_before look no_place value (lv.number (is_pointed (object_mode m p)) value raw) q) (number_before look span value raw p)
  number_before_alike m a span value raw p q e = by (is_computed p) (is_computed q) (is_asked m) e a
    where
      by : (u v w : Bool) → v ≡ u → w ≡ false
          → Alike false (start no_place · (if v then number look no_place value (lv.number (is_pointed (if w || u then Headed else Pointed)) value raw) else number_before_point look no_place value (lv.number (is_pointed (if w || u then Headed else Pointed)) value raw)))
          (start span · (if u then number look span value raw else number_before_point look span value raw))
      by true v w e a = subst (λ (v : Bool). Alike false (start no_place · (if v then number look no_place value (lv.number (is_pointed (if w || true then Headed else Pointed)) value raw) else number_before_point look no_place value (lv.number (is_pointed (if w || true then Headed else Pointed)) value raw))) (start span · number look span value raw)) (sym e)
          (subst (λ (w : Bool). Alike false (start no_place · number look no_place value (lv.number (is_pointed (if w || true then Headed else Pointed)) value raw)) (start span · number look span value raw)) (sym a) (start_alike span ▸ number_alike span value raw))
      by false v w e a = subst (λ (v : Bool). Alike false (start no_place · (if v then number look no_place value (lv.number (is_pointed (if w || false then Headed else Pointed)) value raw) else number_before_point look no_place value (lv.number (is_pointed (if w || false then Headed else Pointed)) value raw))) (start span · number_before_point look span value raw)) (sym e)
          (subst (λ (w : Bool). Alike false (start no_place · number_before_point look no_place value (lv.number (is_pointed (if w || false then Headed else Pointed)) value raw)) (start span · number_before_point look span value raw)) (sym a) (start_alike span ▸ number_before_point_alike span value raw))

  pub quasi_alike : (s : Stand) (m : Mode) → is_tagged_stand s ≡ is_tagged m → (t : Tree) → Alike false (quasi look s (redo lv m t)) (quasi look s t)
  quasi_alike s m e (tpl_element span is_last raw cooked) = start_alike span ▸ equal (ap (λ s. meant (template_characters s)) (subst (λ (b : Bool). quasi_bytes look.style (is_tagged_stand s) (lv.quasi b raw) ≡ quasi_bytes look.style (is_tagged_stand s) raw) e (h.quasis (is_tagged_stand s) raw))) ▸ end_alike span
  quasi_alike s m e _ = same
