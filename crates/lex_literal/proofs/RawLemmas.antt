-- A text has CR where its bytes do.
use Rattle.std.proofs.Common.{◌≡◌, ℕ, ◌≤◌, ⊎_elim, Bool, true, false, cond, List, [], ◌∷◌, length, length-drop, take, drop, refl, sym, ap, subst, ◌∙◌, arith, IsUtf8}
use Rattle.std.specs.Prelude.{Some, None, not, ◌||◌, ◌==◌}
use Rattle.std.specs.List.{list_any, prefix_len}
use Rattle.std.specs.Str.{chars, encode_utf8_all}
use Rattle.std.proofs.lemmas.Bool.{cases_Bool, false_from_ne_true, not-true, or_parts}
use Rattle.std.proofs.lemmas.Bool.Decides.{nat_tests}
use Rattle.std.proofs.lemmas.List.{take_all}
use Rattle.std.proofs.lemmas.List.Sums.{prefix_len_is}
use Rattle.std.proofs.lemmas.Str.{encodes-chars}
use Rattle.memchr.specs.Find.{IsFirstByte, is_byte}
use Rattle.lex_pieces.specs.Runs.{Each, after}
use Rattle.lex_pieces.proofs.Passing.{after_more}
use Rattle.lex_literal.specs.Escapes.{begins, is_line_feed}
use Rattle.lex_literal.specs.Templates.{is_return, line_feeds}
use Rattle.lex_literal.proofs.RunLemmas.{Flat, cut_run, run_each}

abbrev other : ℕ → Bool
other c = not (c == 13)

high : (b : ℕ) → 128 ≤ b → other b ≡ true
high b h = grind (arith, nat_tests)

flat : Flat other
flat = record { same = λ b h. high b h ∙ sym (high 128 (omega arith)) }

other_yes : (c : ℕ) → (c == 13) ≡ false → other c ≡ true
other_yes c e = ap not e

each_none : (cs : List ℕ) → Each other cs → false ≡ list_any is_return cs
each_none [] h = refl
each_none (c ∷ cs) h = each_none cs h.1 ∙ ap (λ t. t || list_any is_return cs) (sym (not-true (c == 13) h.0))

-- characters without CR stay
pub line_feeds_same : (cs : List ℕ) → Each other cs → line_feeds cs ≡ cs
line_feeds_same [] h = refl
line_feeds_same (c ∷ cs) h =
    ap (λ t. cond t (cond (begins is_line_feed cs) (line_feeds cs) (10 ∷ line_feeds cs)) (c ∷ line_feeds cs)) (not-true (c == 13) h.0)
    ∙ ap (λ (l : List ℕ). c ∷ l) (line_feeds_same cs h.1)

none_after : (cs : List ℕ) → list_any is_return cs ≡ false → after other cs ≡ []
none_after [] h = refl
none_after (c ∷ cs) h =
    let parts = or_parts (c == 13) (list_any is_return cs) h in
    after_more other c cs (other_yes c parts.0) ∙ none_after cs parts.1

none_len : (bs : List ℕ) → IsFirstByte (is_byte 13) bs None → prefix_len other bs ≡ length bs
none_len bs h = prefix_len_is other bs (length bs) 0 (omega arith) (λ k l. other_yes _ (false_from_ne_true _ (h k (omega arith) l))) (λ l. absurd (omega arith))

pub each_other : (text : List ℕ) → IsUtf8 text → IsFirstByte (is_byte 13) text None → Each other (chars text)
each_other text u h =
    let cut = cut_run other flat text u in
    let n = none_len text h in
    let all : take (prefix_len other text) text ≡ text = ap (λ k. take k text) n ∙ take_all (length text) text (omega arith) in
    subst (Each other) (sym cut.ran ∙ ap chars all) (run_each other (chars text))

pub no_return : (text : List ℕ) → IsUtf8 text → IsFirstByte (is_byte 13) text None → false ≡ list_any is_return (chars text)
no_return text u h = each_none (chars text) (each_other text u h)

pub own_is_raw : (text : List ℕ) → IsUtf8 text → IsFirstByte (is_byte 13) text None → text ≡ encode_utf8_all (line_feeds (chars text))
own_is_raw text u h = sym (encodes-chars text u) ∙ ap encode_utf8_all (sym (line_feeds_same (chars text) (each_other text u h)))

some_len : (bs : List ℕ) (k : ℕ) → IsFirstByte (is_byte 13) bs (Some k) → prefix_len other bs ≡ k
some_len bs k h =
    prefix_len_is other bs k 0 (let x = h.0.high in omega arith) (λ j l. other_yes _ (false_from_ne_true _ (h.0.before j (omega arith) l))) (λ l. ap not h.1)

pub some_return : (text : List ℕ) (k : ℕ) → IsUtf8 text → IsFirstByte (is_byte 13) text (Some k) → true ≡ list_any is_return (chars text)
some_return text k u h = ⊎_elim
    (λ (e : list_any is_return (chars text) ≡ true). sym e)
    (λ (e : list_any is_return (chars text) ≡ false).
    let cut = cut_run other flat text u in
    let nothing : chars (drop (prefix_len other text) text) ≡ [] = cut.left ∙ none_after (chars text) e in
    let gone : drop (prefix_len other text) text ≡ [] = sym (encodes-chars (drop (prefix_len other text) text) cut.is_text) ∙ ap encode_utf8_all nothing in
    let n = some_len text k h in
    let x = h.0.high in
    let size = ap length gone in
    absurd (omega (arith, length-drop (prefix_len other text) text, size, n, x)))
    (cases_Bool (list_any is_return (chars text)))
