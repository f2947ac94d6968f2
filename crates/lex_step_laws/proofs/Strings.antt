-- Whether a string stands at a front.
use Rattle.std.proofs.Common.{◌≡◌, ℕ, zero, suc, ◌<◌, ◌≤◌, ◌⊎◌, inl, inr, ⊎_elim, Bool, true, false, List, [], ◌∷◌, ◌++◌, length, length-append, refl, sym, ap, subst, ◌∙◌, arith}
use Rattle.std.specs.Prelude.{◌||◌, Some, None as Nothing}
use Rattle.std.proofs.lemmas.Bool.{cases_Bool, false≢true, cases_eq}
use Rattle.lex_pieces.specs.Runs.{after, run}
use Rattle.base_token.specs.Utf16.{utf16}
use Rattle.lex_literal.specs.declared.escape.Escape.{Escape}
use Rattle.lex_literal.specs.Escapes.{IsEscape}
use Rattle.lex_literal.specs.Places.{EndsWith}
use Rattle.lex_literal.specs.Reading.{escape_at}
use Rattle.lex_literal.specs.Strings.{Piece, Plain, Escaped, Pieces, Stands, SpellsString, NoString, is_plain, is_quote}
use Rattle.lex_literal.specs.Units.{escape_units, is_legacy}
use Rattle.lex_literal.proofs.EscapeLemmas.{escape_front, found_stands, none_stands}
use Rattle.lex_literal.proofs.StringLemmas.{SoFar, so_far_none, so_far_plain, so_far_escape, spelled, no_string, stuck_end, stuck_char, stuck_escape, ends_with}
use Rattle.lex_token.specs.Lexemes.{SpecLexeme, IsQuoted, string_lexeme}
use Rattle.lex_token.proofs.SortLemmas.{string_begins}
use Rattle.lex_step_laws.proofs.Deciding.{Decided}

after_shorter : (p : ℕ → Bool) (cs : List ℕ) → length (after p cs) ≤ length cs
after_shorter p [] = omega arith
after_shorter p (c ∷ cs) = ⊎_elim
    (λ (t : p c ≡ true). let k = after_shorter p cs in rw t (omega (arith, k)))
    (λ (f : p c ≡ false). rw f (omega arith))
    (cases_Bool (p c))

after_first : (p : ℕ → Bool) (c : ℕ) (cs : List ℕ) → p c ≡ true → length (after p (c ∷ cs)) ≤ length cs
after_first p c cs t = rw t (after_shorter p cs)

escape_shorter : (e : Escape) (text r : List ℕ) → IsEscape e text r → length r ≤ length text
escape_shorter e text r h = let f = escape_front e text r h in let k = ap length f.1 in omega (arith, k, length-append f.0 r)

-- a string of this quote and text, or why there is none
abbrev Whole : ℕ → List ℕ → Type 0
Whole quote inner = ((us : List ℕ) × (l : Bool) × (r : List ℕ) × SpellsString us l (quote ∷ inner) r × EndsWith (quote ∷ inner) r) ⊎ NoString (quote ∷ inner)

closed : (quote : ℕ) (inner cs us : List ℕ) (l : Bool) → is_quote quote ≡ true → SoFar quote inner (quote ∷ cs) us l → Whole quote inner
closed quote inner cs us l q s = inl (us, l, cs, spelled quote inner cs us l q s, ends_with quote (quote ∷ inner) inner (quote ∷ cs) cs us l quote refl s refl)

stands : (cs : List ℕ) (e : Escape) (r : List ℕ) → escape_at cs ≡ Some (e, r) → IsEscape e cs r
stands cs e r h = found_stands cs e r (sym h)

string_by : (n : ℕ) (quote : ℕ) (inner rest us : List ℕ) (l : Bool) → is_quote quote ≡ true → SoFar quote inner rest us l → length rest ≤ n → Whole quote inner
string_by n quote inner [] us l q s h = inr (no_string quote inner [] us l q s (stuck_end quote))
string_by zero quote inner (c ∷ cs) us l q s h = absurd (omega (arith, h))
string_by (suc n) quote inner (c ∷ cs) us l q s h = ⊎_elim
    (λ (e : c ≡ quote). closed quote inner cs us l q (subst (λ (d : ℕ). SoFar quote inner (d ∷ cs) us l) e s))
    (λ (f : c ≡ quote → ⊥). ⊎_elim
    (λ (e : c ≡ 92).
    let back = subst (λ (d : ℕ). SoFar quote inner (d ∷ cs) us l) e s in
    elim (escape_at cs) as (λ o. escape_at cs ≡ o → Whole quote inner) [
      | Nothing ↦ λ k. inr (no_string quote inner (92 ∷ cs) us l q back (stuck_escape quote cs q (none_stands cs (sym k))))
      | Some x ↦ λ k.
          let is = stands cs x.0 x.1 k in
          string_by n quote inner x.1 (us ++ escape_units x.0) (l || is_legacy x.0) q (so_far_escape quote inner cs x.1 us l x.0 back is)
          (let short = escape_shorter x.0 cs x.1 is in omega (arith, short, h))
    ] refl)
    (λ (g : c ≡ 92 → ⊥). ⊎_elim
    (λ (p : is_plain quote c ≡ true).
    string_by n quote inner (after (is_plain quote) (c ∷ cs)) (us ++ utf16 (run (is_plain quote) (c ∷ cs))) l q (so_far_plain quote inner (c ∷ cs) us l s)
    (let short = after_first (is_plain quote) c cs p in omega (arith, short, h)))
    (λ (p : is_plain quote c ≡ false). inr (no_string quote inner (c ∷ cs) us l q s (stuck_char quote c cs p f g)))
    (cases_Bool (is_plain quote c)))
    (cases_eq c 92))
    (cases_eq c quote)

quoted_by : (quote : ℕ) (inner : List ℕ) → Whole quote inner → Decided IsQuoted (quote ∷ inner)
quoted_by quote inner (inl h) = inl (string_lexeme h.0 h.4.0 h.1, h.2, (h.0, h.4.0, h.1, h.3, h.4.1, refl))
quoted_by quote inner (inr n) = inr (λ x rest h. n h.3.0 rest h.3.1)

pub string_or_not : (text : List ℕ) → Decided IsQuoted text
string_or_not [] = inr (λ x rest h. false≢true (string_begins h.0 h.2 [] rest h.3))
string_or_not (c ∷ cs) = ⊎_elim
    (λ (q : is_quote c ≡ true). quoted_by c cs (string_by (length cs) c cs cs [] false q (so_far_none c cs) (omega arith)))
    (λ (f : is_quote c ≡ false). inr (λ x rest h. false≢true (sym f ∙ string_begins h.0 h.2 (c ∷ cs) rest h.3)))
    (cases_Bool (is_quote c))

-- ---- a string takes characters

piece_shorter : (quote : ℕ) (p : Piece) (text r : List ℕ) → Stands quote p text r → length r ≤ length text
piece_shorter quote (Plain c) text r h = let e = ap length h.0 in omega (arith, e)
piece_shorter quote (Escaped x) text r h = let e = ap length h.1 in let k = escape_shorter x h.0 r h.2 in omega (arith, e, k)

pieces_shorter : (quote : ℕ) (ps : List Piece) (text r : List ℕ) → Pieces quote ps text r → length r ≤ length text
pieces_shorter quote [] text r h = let e = ap length h in omega (arith, e)
pieces_shorter quote (p ∷ ps) text r h =
    let k = piece_shorter quote p text h.0 h.1 in let l = pieces_shorter quote ps h.0 r h.2 in omega (arith, k, l)

pub string_shorter : (text : List ℕ) (x : SpecLexeme) (rest : List ℕ) → IsQuoted text x rest → length rest < length text
string_shorter text x rest h =
    let g = h.3.1 in
    let e = ap length g.3 in
    let k = pieces_shorter g.0 h.3.0 g.1 (g.0 ∷ rest) g.4 in
    omega (arith, e, k)
