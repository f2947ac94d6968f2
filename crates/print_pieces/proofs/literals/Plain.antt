-- Units that stand for themselves, in quotation marks.
use Rattle.std.proofs.lemmas.Bool.Decides.{nat_tests}
use Rattle.std.proofs.Common.{◌≡◌, ℕ, true, false, List, [], ◌∷◌, ◌++◌, ◌≢◌, Option, IsUtf8, refl, sym, ap, subst, ◌∙◌, append-nil, arith, get_or}
use Rattle.std.specs.Prelude.{◌==◌, ◌||◌, encode_utf8_all}
use Rattle.std.specs.List.{list_any}
use Rattle.std.proofs.lemmas.Str.{IsUtf8-append}
use base.Fml.{GName}
use Rattle.lex_pieces.specs.Runs.{Each}
use Rattle.print_spelling.specs.declared.style.Style.{Style}
use Rattle.print_spelling.specs.declared.string.quoted.Behind.TheVariants.{Other}
use Rattle.print_spelling.specs.String.CodePoints.{code_points}
use Rattle.print_spelling.specs.String.QuotedTexts.{is_plain_unit}
use Rattle.print_spelling.specs.String.Strings.{chars_text, quoted, quoted_by}
use Rattle.print_spelling.proofs.string.QuotedLemmas.{quote_none, run_bytes}
use Rattle.print_writers.specs.States.{State}
use Rattle.print_writers.specs.declared.fault.EmitError.{EmitError}
use Rattle.print_layout_spec.specs.Looks.{text}
use Rattle.print_pieces.specs.Prints.{Asked, lay, IsAt, Prints}
use Rattle.print_pieces.proofs.literals.Parted.{asked_in_two}
use Rattle.print_pieces.proofs.literals.Split.{in_two}

-- ---- their text

no_mark_by : (style : Style) (u : ℕ) → is_plain_unit style u ≡ true → (u == 34) ≡ false
no_mark_by style u p = grind (arith, nat_tests)

no_marks : (style : Style) (us : List ℕ) → Each (is_plain_unit style) us → list_any (λ c. c == 34) us ≡ false
no_marks style [] h = refl
no_marks style (u ∷ us) h = ap (λ b. b || list_any (λ c. c == 34) us) (no_mark_by style u h.0) ∙ no_marks style us h.1

-- units behind a quotation mark, and the other one
run_quoted : (style : Style) (us : List ℕ) → Each (is_plain_unit style) us → us ++ 34 ∷ [] ≡ encode_utf8_all (chars_text style 34 Other (code_points us) (34 ∷ []))
unfolding lib.Utf8.encode
run_quoted style [] h = refl
run_quoted style (u ∷ us) h = sym (run_bytes style 34 Other (u ∷ us) (u ∷ us) [] (34 ∷ []) [] (u ∷ us) refl h (λ z. omega (arith, z)) (sym (append-nil (u ∷ us))) refl)

marked_front : (cs : List ℕ) → 34 ∷ encode_utf8_all cs ≡ encode_utf8_all (34 ∷ cs)
unfolding lib.Utf8.encode
marked_front cs = refl

pub plain_quoted : (style : Style) (us : List ℕ) → Each (is_plain_unit style) us → 34 ∷ (us ++ 34 ∷ []) ≡ encode_utf8_all (quoted style us [])
plain_quoted style us h =
    ap (λ (l : List ℕ). 34 ∷ l) (run_quoted style us h)
    ∙ marked_front (chars_text style 34 Other (code_points us) (34 ∷ []))
    ∙ ap (λ q. encode_utf8_all (quoted_by style q (code_points us) [])) (quote_none us (no_marks style us h))

-- ---- in quotation marks

mark_text : IsUtf8 (34 ∷ [])
unfolding lib.Utf8.encode
mark_text = (34 ∷ [], (refl, refl))

end_byte : List ℕ → ℕ
end_byte [] = 0
end_byte (x ∷ []) = x
end_byte (x ∷ y ∷ ys) = end_byte (y ∷ ys)

ends_so : (front : List ℕ) → end_byte (front ++ 13 ∷ []) ≡ 13
unfolding end_byte
ends_so [] = refl
ends_so (x ∷ []) = refl
ends_so (x ∷ y ∷ ys) = ends_so (y ∷ ys)

no_return : {A : Type 0} (front : List ℕ) → 34 ∷ [] ≡ front ++ 13 ∷ [] → A
unfolding end_byte
no_return front e = let h : 34 ≡ 13 = ap end_byte e ∙ ends_so front in absurd (omega (arith, h))

no_line_feed : (rest : List ℕ) → 34 ∷ [] ≢ 10 ∷ rest
no_line_feed rest e = let h : 34 ≡ 10 = ap (λ (xs : List ℕ). get_or xs 0 0) e in absurd (omega (arith, h))

asked_in_marks : (own : List ℕ) → IsUtf8 own → (a : Asked) → lay (text (34 ∷ [])) (lay (text own) (lay (text (34 ∷ [])) a)) ≡ lay (text (34 ∷ (own ++ 34 ∷ []))) a
asked_in_marks own u a =
    sym (
    asked_in_two (34 ∷ []) (own ++ 34 ∷ []) (λ s. in_two (34 ∷ []) (own ++ 34 ∷ []) s mark_text (IsUtf8-append own (34 ∷ []) u mark_text) (λ front rest e. no_return front e)) a
    ∙ asked_in_two own (34 ∷ []) (λ s. in_two own (34 ∷ []) s u mark_text (λ front rest e. no_line_feed rest)) (lay (text (34 ∷ [])) a)
    )

pub in_marks : {S : Type 0} {tells : S → Type 0} {state : S → State} {failed : S → ℕ} {loans : S → List GName} {w v x y : S} {f g h k : Option EmitError}
    (own : List ℕ) → IsUtf8 own → Prints {S = S} tells state failed loans (text (34 ∷ [])) w f v g → Prints {S = S} tells state failed loans (text own) v g x h
    → Prints {S = S} tells state failed loans (text (34 ∷ [])) x h y k → Prints {S = S} tells state failed loans (text (34 ∷ (own ++ 34 ∷ []))) w f y k
in_marks {S} {tells} {state} {failed} {loans} {w} {v} {x} {y} {f} {g} {h} {k} own u p q r = record {
  so = λ a z. subst (IsAt {S = S} tells state failed loans y k) (asked_in_marks own u a) (r.so (lay (text own) (lay (text (34 ∷ [])) a)) (q.so (lay (text (34 ∷ [])) a) (p.so a z)));
}
