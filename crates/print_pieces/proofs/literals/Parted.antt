-- What is left of a text behind a part of it that was printed.
use Rattle.std.proofs.Common.{◌≡◌, ℕ, ◌<◌, Bool, true, false, List, [], ◌∷◌, ◌++◌, ◌≢◌, length, Option, None, IsUtf8, refl, sym, ap, subst, ◌∙◌, append_assoc, append-nil}
use base.Fml.{GName}
use Rattle.print_writers.specs.States.{State}
use Rattle.print_writers.specs.States as states
use Rattle.print_writers.specs.declared.fault.EmitError.{EmitError}
use Rattle.print_layout_spec.specs.Looks.{text}
use Rattle.print_pieces.specs.Prints.{Asked, ask, lay, IsAt, Prints}
use Rattle.std.proofs.Common.{take, arith, get_or}
use Rattle.std.specs.Str.{chars}
use Rattle.std.proofs.lemmas.Str.{IsUtf8-take, IsCharBoundary-at_seam}
use Rattle.std.proofs.Math.Seq.{take-append_seam}
use Rattle.print_pieces.specs.Literals.Parts.{Leaves, held_back}
use Rattle.print_pieces.proofs.literals.Split.{in_two_by, no_return, no_line_feed}

-- what there is to write, in two texts
asked_by : (one other : List ℕ) → ((s : State) → states.text None (one ++ other) s ≡ states.text None other (states.text None one s))
    → (a : Asked) (b : Bool) → a.stops ≡ b → lay (text (one ++ other)) a ≡ lay (text other) (lay (text one) a)
unfolding ask
asked_by one other h a true e = rw e refl
asked_by one other h a false e = rw e (ap (λ (s : State). record a { state = s; stops = false }) (h a.state))

pub asked_in_two : (one other : List ℕ) → ((s : State) → states.text None (one ++ other) s ≡ states.text None other (states.text None one s))
    → (a : Asked) → lay (text (one ++ other)) a ≡ lay (text other) (lay (text one) a)
asked_in_two one other h a = asked_by one other h a a.stops refl

module _ {S : Type 0} {tells : S → Type 0} {state : S → State} {failed : S → ℕ} {loans : S → List GName} where
  -- a part was printed as a text
  pub cut : (one other : List ℕ) {w v : S} {f g : Option EmitError}
      → ((rest : List ℕ) (s : State) → states.text None (one ++ (other ++ rest)) s ≡ states.text None (other ++ rest) (states.text None one s))
      → Prints {S = S} tells state failed loans (text one) w f v g → Leaves {S = S} tells state failed loans (one ++ other) other w f v g
  cut one other h k = record {
    so = λ a z. (
      lay (text one) a,
      k.so a z,
      λ rest. sym (asked_in_two one (other ++ rest) (h rest) a) ∙ ap (λ bytes. lay (text bytes) a) (sym (append_assoc one other rest)),
    );
  }

  pub starts : (front : List ℕ) {w : S} {f : Option EmitError} → Leaves {S = S} tells state failed loans front front w f w f
  starts front = record { so = λ a z. (a, z, λ rest. refl) }

  -- a part, and then another of what is left
  pub goes_on : (front part back left : List ℕ) {w v u : S} {f g e : Option EmitError}
      → Leaves {S = S} tells state failed loans front (part ++ left) w f v g → Leaves {S = S} tells state failed loans part back v g u e
      → Leaves {S = S} tells state failed loans front (back ++ left) w f u e
  goes_on front part back left h k = record {
    so = λ a z.
        let x = h.so a z in
        let y = k.so x.0 x.1 in (
          y.0,
          y.1,
          λ rest. ap (λ bytes. lay (text bytes) y.0) (append_assoc back left rest) ∙ y.2 (left ++ rest)
              ∙ ap (λ bytes. lay (text bytes) x.0) (sym (append_assoc part left rest)) ∙ x.2 rest,
        );
  }

  pub then_leaves : {front mid back : List ℕ} {w v u : S} {f g e : Option EmitError}
      → Leaves {S = S} tells state failed loans front mid w f v g → Leaves {S = S} tells state failed loans mid back v g u e
      → Leaves {S = S} tells state failed loans front back w f u e
  then_leaves h k = record { so = λ a z. let x = h.so a z in let y = k.so x.0 x.1 in (y.0, y.1, λ rest. y.2 rest ∙ x.2 rest) }

  -- the rest was printed
  pub ends : (whole left : List ℕ) {w v u : S} {f g e : Option EmitError}
      → Leaves {S = S} tells state failed loans whole left w f v g → Prints {S = S} tells state failed loans (text left) v g u e
      → Prints {S = S} tells state failed loans (text whole) w f u e
  ends whole left {u = u} {e = e} h k = record {
    so = λ a z.
        let x = h.so a z in
        subst (IsAt {S = S} tells state failed loans u e)
        (ap (λ bytes. lay (text bytes) x.0) (sym (append-nil left)) ∙ x.2 [] ∙ ap (λ bytes. lay (text bytes) a) (append-nil whole)) (k.so x.0 x.1);
  }

  -- the same of a text that goes on
  pub with_more : (front back more : List ℕ) {w v : S} {f g : Option EmitError}
      → Leaves {S = S} tells state failed loans front back w f v g → Leaves {S = S} tells state failed loans (front ++ more) (back ++ more) w f v g
  with_more front back more h = record {
    so = λ a z.
        let x = h.so a z in
        (x.0, x.1, λ rest. ap (λ bytes. lay (text bytes) x.0) (append_assoc back more rest) ∙ x.2 (more ++ rest) ∙ ap (λ bytes. lay (text bytes) a) (sym (append_assoc front more rest)));
  }

  -- nothing more is left
  pub no_more : {front : List ℕ} (back : List ℕ) {left : List ℕ} {w v : S} {f g : Option EmitError} → left ≡ []
      → Leaves {S = S} tells state failed loans front (back ++ left) w f v g → Leaves {S = S} tells state failed loans front back w f v g
  no_more {front = front} back {w = w} {v = v} {f = f} {g = g} e h =
      subst (λ (l : List ℕ). Leaves {S = S} tells state failed loans front l w f v g) (ap (λ (l : List ℕ). back ++ l) e ∙ append-nil back) h

  pub leaves_as : {front other back : List ℕ} {w v : S} {f g : Option EmitError} → front ≡ other
      → Leaves {S = S} tells state failed loans front back w f v g → Leaves {S = S} tells state failed loans other back w f v g
  leaves_as {back = back} {w = w} {v = v} {f = f} {g = g} e h = subst (λ (l : List ℕ). Leaves {S = S} tells state failed loans l back w f v g) e h

  -- three parts were printed one behind the other
  pub three_parts : (first second third : List ℕ) (held more last : Bool) {w v x y z : S} {f g e h k : Option EmitError}
      → Leaves {S = S} tells state failed loans first (held_back held) w f v g → Leaves {S = S} tells state failed loans (held_back held ++ second) (held_back more) v g x e
      → Leaves {S = S} tells state failed loans (held_back more ++ third) (held_back last) x e y h → Prints {S = S} tells state failed loans (text (held_back last)) y h z k
      → Prints {S = S} tells state failed loans (text (first ++ (second ++ third))) w f z k
  three_parts first second third held more last a b c d =
      ends (first ++ (second ++ third)) (held_back last)
      (then_leaves (with_more first (held_back held) (second ++ third) a)
      (then_leaves (leaves_as (append_assoc (held_back held) second third) (with_more (held_back held ++ second) (held_back more) third b)) c))
      d

-- ---- the texts of a part

end_byte : List ℕ → ℕ
end_byte [] = 0
end_byte (x ∷ []) = x
end_byte (x ∷ y ∷ ys) = end_byte (y ∷ ys)

ends_so : (front : List ℕ) → end_byte (front ++ 13 ∷ []) ≡ 13
unfolding end_byte
ends_so [] = refl
ends_so (x ∷ []) = refl
ends_so (x ∷ y ∷ ys) = ends_so (y ∷ ys)

no_end : (front : List ℕ) → 13 ∷ 10 ∷ [] ≢ front ++ 13 ∷ []
unfolding end_byte
no_end front e = let h : 10 ≡ 13 = ap end_byte e ∙ ends_so front in absurd (omega (arith, h))

no_start : (more : List ℕ) → 13 ∷ [] ≢ 10 ∷ more
no_start more e = let h : 13 ≡ 10 = ap (λ (xs : List ℕ). get_or xs 0 0) e in absurd (omega (arith, h))

return_text : IsUtf8 (13 ∷ [])
unfolding lib.Utf8.encode
return_text = (13 ∷ [], (refl, refl))

line_text : IsUtf8 (13 ∷ 10 ∷ [])
unfolding lib.Utf8.encode
line_text = (13 ∷ 10 ∷ [], (refl, refl))

front_text : (part front : List ℕ) → IsUtf8 part → part ≡ front ++ 13 ∷ [] → IsUtf8 front
front_text part front u e =
    subst IsUtf8 (ap (take (length front)) e ∙ take-append_seam front (13 ∷ []))
    (IsUtf8-take part (length front) u (IsCharBoundary-at_seam part front (13 ∷ []) e return_text))

module _ {S : Type 0} {tells : S → Type 0} {state : S → State} {failed : S → ℕ} {loans : S → List GName} where
  pub front_printed : (part front : List ℕ) {w v : S} {f g : Option EmitError} → IsUtf8 part → part ≡ front ++ 13 ∷ []
      → Prints {S = S} tells state failed loans (text front) w f v g → Leaves {S = S} tells state failed loans part (13 ∷ []) w f v g
  front_printed part front u e k =
      leaves_as (sym e) (cut front (13 ∷ []) (λ rest s. in_two_by front (13 ∷ rest) (front_text part front u e) (no_line_feed (chars front) (13 ∷ []) rest return_text (omega arith) no_start) s) k)

  pub all_printed : (part : List ℕ) {w v : S} {f g : Option EmitError} → IsUtf8 part → ((front : List ℕ) → part ≢ front ++ 13 ∷ [])
      → Prints {S = S} tells state failed loans (text part) w f v g → Leaves {S = S} tells state failed loans part [] w f v g
  all_printed part u h k =
      leaves_as (append-nil part) (cut part [] (λ rest s. in_two_by part rest u (no_return part (chars rest) u h) s) k)

  pub return_printed : (part : List ℕ) {w v : S} {f g : Option EmitError} → IsUtf8 part → 0 < length part → ((rest : List ℕ) → part ≢ 10 ∷ rest)
      → Prints {S = S} tells state failed loans (text (13 ∷ [])) w f v g → Leaves {S = S} tells state failed loans (13 ∷ part) part w f v g
  return_printed part u some h k =
      cut (13 ∷ []) part (λ rest s. in_two_by (13 ∷ []) (part ++ rest) return_text (no_line_feed (chars (13 ∷ [])) part rest u some h) s) k

  pub line_printed : (part rest : List ℕ) {w v : S} {f g : Option EmitError} → part ≡ 10 ∷ rest
      → Prints {S = S} tells state failed loans (text (13 ∷ 10 ∷ [])) w f v g → Leaves {S = S} tells state failed loans (13 ∷ part) rest w f v g
  line_printed part rest e k =
      leaves_as (ap (λ (l : List ℕ). 13 ∷ l) (sym e)) (cut (13 ∷ 10 ∷ []) rest (λ more s. in_two_by (13 ∷ 10 ∷ []) (rest ++ more) line_text (no_return (13 ∷ 10 ∷ []) (chars (rest ++ more)) line_text no_end) s) k)
