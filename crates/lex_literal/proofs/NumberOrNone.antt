-- Whether a number stands at a front.
use Rattle.std.proofs.Common.{◌≡◌, ℕ, ◌<◌, ◌≤◌, ◌⊎◌, inl, inr, ⊎_elim, true, false, List, [], ◌∷◌, ◌++◌, length, length-append, append_assoc, refl, sym, ap, subst, ◌∙◌, arith}
use Rattle.std.specs.Prelude.{◌==◌, Option, Some, None as Nothing}
use Rattle.std.proofs.lemmas.Bool.{cases_Bool, false≢true, eqb-true}
use Rattle.base_token.specs.Numbers.{SpecNumber, number_of, plain, prefix_radix}
use Rattle.lex_literal.specs.declared.number_state.State.{State}
use Rattle.lex_literal.specs.declared.number_state.State.TheVariants as s
use Rattle.lex_literal.specs.Escapes.{begins}
use Rattle.lex_literal.specs.NumberSteps.{Last, IsFront, scan, reach, is_whole, big_radix}
use Rattle.lex_literal.specs.Numbers.{Meaning, Number, BigInt, SpellsNumber, NoNumber, Spells, Longest, behind_prefix, is_barred, is_n, is_number_start, is_some}
use Rattle.lex_literal.proofs.NumeralLemmas.{big_longest, big_spelled, ended, is_number, no_numeral, number_longest, numeral_starts, started}
use Rattle.lex_literal.proofs.ScanLemmas.{scan_found, scan_longest}

-- a number with what follows it, or why there is none
abbrev Decided : List ℕ → Type 0
Decided text = ((m : Meaning) × (own : List ℕ) × (rest : List ℕ) × SpellsNumber m own text rest) ⊎ NoNumber text

record FrontOf (text : List ℕ) (last : Last) : Type 0 where
  own : List ℕ
  front : IsFront text last.0 own last.1
  whole : 0 < length own → is_whole last.0 ≡ true

front_of : (cs : List ℕ) → FrontOf cs (scan s.Start (s.Start, cs) cs)
front_of cs =
    let f = scan_found cs [] s.Start (s.Start, cs) cs refl refl (record { own = []; parts = refl; reached = refl; whole = λ h. absurd (omega arith) }) in
    let longest : (p : State) (other more : List ℕ) → cs ≡ other ++ more → reach s.Start other ≡ Some p → is_whole p ≡ true → length other ≤ length f.own =
    λ p other more e r w.
    let less : length (scan s.Start (s.Start, cs) cs).1 ≤ length more =
    subst (λ l. length (scan s.Start (s.Start, cs) l).1 ≤ length more) (sym e)
    (scan_longest s.Start p (s.Start, cs) other more r w (omega (arith, ap length e)) (λ h. absurd (false≢true h))) in
    omega (arith, less, ap length f.parts, ap length e, length-append f.own (scan s.Start (s.Start, cs) cs).1, length-append other more)
    in record { own = f.own; front = record { parts = f.parts; reached = f.reached; longest = longest }; whole = f.whole }

none_some : {A B : Type 0} {x : A} → Nothing ≡ Some x → B
none_some e = cc

ended_or_not : (m : Meaning) (own text rest : List ℕ) → text ≡ own ++ rest → Spells m own → Longest own text → Decided text
ended_or_not m own text rest parts h l = ⊎_elim
    (λ (b : begins is_barred rest ≡ true). inr (no_numeral m own text rest parts h l b))
    (λ (b : begins is_barred rest ≡ false). inl (m, own, rest, record { parts = parts; spelled = h; longest = l; ended = ended rest b }))
    (cases_Bool (begins is_barred rest))

plain_by : (text own rest : List ℕ) (q : State) → IsFront text q own rest → (begins is_n rest ≡ true → big_radix q ≡ Nothing) → is_some (number_of own) ≡ true
    → (o : Option SpecNumber) → number_of own ≡ o → Decided text
plain_by text own rest q f none w Nothing e = absurd (false≢true (ap is_some (sym e) ∙ w))
plain_by text own rest q f none w (Some v) e = ended_or_not (Number v) own text rest f.parts e (number_longest text own rest q f none)

plain_or_not : (text own rest : List ℕ) (q : State) → IsFront text q own rest → is_whole q ≡ true → (begins is_n rest ≡ true → big_radix q ≡ Nothing) → Decided text
plain_or_not text own rest q f w none = plain_by text own rest q f none (is_number text own rest q f w) (number_of own) refl

big_or_not : (text own rest : List ℕ) (q : State) (radix : ℕ) → IsFront text q own (110 ∷ rest) → big_radix q ≡ Some radix → Decided text
big_or_not text own rest q radix f r =
    ended_or_not (BigInt radix (plain (behind_prefix (prefix_radix own) own))) (own ++ 110 ∷ []) text rest
    (f.parts ∙ sym (append_assoc own (110 ∷ []) rest))
    (big_spelled text own (110 ∷ rest) q radix f r)
    (big_longest text own rest q f)

radix_by : (text own rest : List ℕ) (q : State) → IsFront text q own (110 ∷ rest) → is_whole q ≡ true → (o : Option ℕ) → big_radix q ≡ o → Decided text
radix_by text own rest q f w Nothing e = plain_or_not text own (110 ∷ rest) q f w (λ h. e)
radix_by text own rest q f w (Some radix) e = big_or_not text own rest q radix f e

suffix_by : (text own rest : List ℕ) (q : State) → IsFront text q own rest → is_whole q ≡ true → Decided text
suffix_by text own [] q f w = plain_or_not text own [] q f w (λ h. absurd (false≢true h))
suffix_by text own (c ∷ cs) q f w = ⊎_elim
    (λ (t : (c == 110) ≡ true). radix_by text own cs q (subst (λ (d : ℕ). IsFront text q own (d ∷ cs)) (eqb-true c 110 t) f) w (big_radix q) refl)
    (λ (t : (c == 110) ≡ false). plain_or_not text own (c ∷ cs) q f w (λ h. absurd (false≢true (sym t ∙ h))))
    (cases_Bool (c == 110))

started_or_not : (text : List ℕ) → is_number_start text ≡ true → Decided text
started_or_not text e =
    let last = scan s.Start (s.Start, text) text in
    let f = front_of text in
    suffix_by text f.own last.1 last.0 f.front (f.whole (started text f.own last.1 last.0 f.front e))

pub number_or_none : (text : List ℕ) → Decided text
number_or_none text = ⊎_elim
    (λ (t : is_number_start text ≡ true). started_or_not text t)
    (λ (f : is_number_start text ≡ false). inr (λ m own rest h. false≢true (sym f ∙ numeral_starts m own text rest h)))
    (cases_Bool (is_number_start text))
