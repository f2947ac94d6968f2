-- The longest front that is a number is read as the numeric literal that the definition has.
use Rattle.std.proofs.Common.{◌≡◌, ℕ, suc, ◌<◌, ◌≤◌, cond, true, false, List, [], ◌∷◌, ◌++◌, append-nil, append_assoc, length, length-append, refl, sym, ap, subst, ◌∙◌, arith}
use Rattle.std.specs.Prelude.{◌&&◌, ◌||◌, ◌==◌, Option, Some, None, codes}
use Rattle.std.specs.Str.{IsAscii}
use Rattle.std.proofs.lemmas.Bool.{false≢true, and_parts}
use Rattle.std.proofs.lemmas.Bool.Decides.{nat_tests, Decides-eqb}
use Rattle.std.proofs.lemmas.List.{append_cancel_right, nil_from_length}
use Rattle.std.proofs.lemmas.Option.{same_Some}
use Rattle.base_token.specs.Numbers.{SpecNumber, number_of, plain, prefix_radix, past_first, spells_digits}
use Rattle.lex_pieces.specs.Runs.{Ends}
use Rattle.base_token.specs.declared.error.Error.{Error}
use Rattle.lex_literal.specs.declared.number_state.Radix.TheVariants.{Binary, Octal, Hexadecimal}
use Rattle.lex_literal.specs.declared.number_state.State.{State}
use Rattle.lex_literal.specs.declared.number_state.State.TheVariants as s
use Rattle.lex_literal.specs.Escapes.{begins, is_decimal}
use Rattle.lex_literal.specs.Places.{EndsWith}
use Rattle.lex_literal.specs.Numbers.{Meaning, Number, BigInt, Spells, Longest, SpellsNumber, NoNumber, IsFlaw, IsNumberFault, OneNumber, big_of, big_by, behind_prefix, spells_big_decimal, is_some, is_n, is_barred, is_zero, is_number_start, takes_exponent, flaw, barred_next}
use Rattle.lex_literal.specs.NumberSteps.{IsFront, Next, step, reach, by_next, is_whole, big_radix, exponent_follows}
use Rattle.lex_literal.proofs.StateLemmas.{by_test, spelled_is, radix_in}
use Rattle.lex_literal.proofs.ScanLemmas.{by_step, reach_left, reach_big, reach_more, reached_ascii}

-- ---- what is spelled is reached

record Reached (text : List ℕ) (P : State → Type 0) : Type 0 where
  state : State
  there : reach s.Start text ≡ Some state
  holds : P state

number_reached : (text : List ℕ) (value : SpecNumber) → number_of text ≡ Some value → Reached text (λ p. is_whole p ≡ true)
number_reached text value h =
    let e : by_next (reach s.Start text) false is_whole ≡ true = sym (reach_left s.Start text) ∙ sym (spelled_is text) ∙ ap is_some h in
    (by_step (reach s.Start text) (λ o. by_next o false is_whole ≡ true → Reached text (λ p. is_whole p ≡ true))
    (λ _ x. absurd (false≢true x))
    (λ p i x. record { state = p; there = i; holds = x })) e

none_some : {A B : Type 0} {x : A} → None ≡ Some x → B
none_some e = cc

big_reached : (text digits : List ℕ) (radix : ℕ) → big_of text ≡ Some (radix, digits) → Reached text (λ p. big_radix p ≡ Some radix)
big_reached text digits radix h =
    let e : by_next (reach s.Start text) None big_radix ≡ Some radix = sym (reach_big s.Start text) ∙ ap radix_in h in
    (by_step (reach s.Start text) (λ o. by_next o None big_radix ≡ Some radix → Reached text (λ p. big_radix p ≡ Some radix))
    (λ _ x. none_some x)
    (λ p i x. record { state = p; there = i; holds = x })) e

pub big_is_whole : (p : State) (radix : ℕ) → big_radix p ≡ Some radix → is_whole p ≡ true
big_is_whole s.Start radix h = none_some h
big_is_whole s.Zero radix h = refl
big_is_whole s.LegacyOctal radix h = refl
big_is_whole s.LegacyDecimal radix h = refl
big_is_whole (s.Integer true) radix h = refl
big_is_whole (s.Integer false) radix h = none_some h
big_is_whole s.Point radix h = refl
big_is_whole (s.Fraction b) radix h = none_some h
big_is_whole s.Mark radix h = none_some h
big_is_whole (s.Exponent b) radix h = none_some h
big_is_whole (s.Prefixed x true) radix h = refl
big_is_whole (s.Prefixed x false) radix h = none_some h

-- no number goes on with an `n`
pub n_stops : (p : State) → step p 110 ≡ None
unfolding step
n_stops s.Start = refl
n_stops s.Zero = refl
n_stops s.LegacyOctal = refl
n_stops s.LegacyDecimal = refl
n_stops (s.Integer true) = refl
n_stops (s.Integer false) = refl
n_stops s.Point = refl
n_stops (s.Fraction true) = refl
n_stops (s.Fraction false) = refl
n_stops s.Mark = refl
n_stops (s.Exponent true) = refl
n_stops (s.Exponent false) = refl
n_stops (s.Prefixed Binary true) = refl
n_stops (s.Prefixed Binary false) = refl
n_stops (s.Prefixed Octal true) = refl
n_stops (s.Prefixed Octal false) = refl
n_stops (s.Prefixed Hexadecimal true) = refl
n_stops (s.Prefixed Hexadecimal false) = refl

by_stop : (q : State) (more : List ℕ) → reach q (110 ∷ more) ≡ None
by_stop q more = ap (λ o. by_next o None (λ p. reach p more)) (n_stops q)

-- so none is reached behind it
no_reach : (text more : List ℕ) → reach s.Start (text ++ 110 ∷ more) ≡ None
no_reach text more = reach_more s.Start text (110 ∷ more) ∙ at (reach s.Start text)
  where
    at : (o : Next) → by_next o None (λ p. reach p (110 ∷ more)) ≡ None
    at None = refl
    at (Some p) = by_stop p more

no_number : (text more : List ℕ) → is_some (number_of (text ++ 110 ∷ more)) ≡ false
no_number text more = spelled_is (text ++ 110 ∷ more) ∙ reach_left s.Start (text ++ 110 ∷ more) ∙ ap (λ o. by_next o false is_whole) (no_reach text more)

-- ---- fronts of one text

record Tail (xs ys us vs : List ℕ) : Type 0 where
  between : List ℕ
  long : xs ≡ ys ++ between
  rest : vs ≡ between ++ us

no_cons : {B : Type 0} (c : ℕ) (cs : List ℕ) → c ∷ cs ≡ [] → B
no_cons c cs e = absurd (let h : length (c ∷ cs) ≡ 0 = ap length e in omega arith)

tail : (xs ys us vs : List ℕ) → xs ++ us ≡ ys ++ vs → length ys ≤ length xs → Tail xs ys us vs
tail xs [] us vs e h = record { between = xs; long = refl; rest = sym e }
tail [] (y ∷ ys) us vs e h = absurd (omega arith)
tail (x ∷ xs) (y ∷ ys) us vs e h =
    let first : x ≡ y = cc in
    let others : xs ++ us ≡ ys ++ vs = cc in
    let t = tail xs ys us vs others (omega arith) in
    record { between = t.between; long = ap (λ (l : List ℕ). x ∷ l) t.long ∙ ap (λ (c : ℕ). c ∷ (ys ++ t.between)) first; rest = t.rest }

record SameParts (xs ys us vs : List ℕ) : Type 0 where
  own : xs ≡ ys
  rest : us ≡ vs

same_parts : (xs ys us vs : List ℕ) → xs ++ us ≡ ys ++ vs → length xs ≡ length ys → SameParts xs ys us vs
same_parts xs ys us vs e h =
    let t = tail xs ys us vs e (omega arith) in
    let none : t.between ≡ [] = nil_from_length t.between (omega (arith, ap length t.long, length-append ys t.between)) in
    record {
      own = t.long ∙ ap (λ l. ys ++ l) none ∙ append-nil ys;
      rest = sym (t.rest ∙ ap (λ l. l ++ us) none);
    }

-- ---- the longest literal

-- where a big integer stands, its digits are the longest number
record BigFront (text own rest t more : List ℕ) (q : State) (radix : ℕ) : Type 0 where
  digits : t ≡ own
  behind : rest ≡ 110 ∷ more
  taken : big_radix q ≡ Some radix

big_front : (text own rest t digits more : List ℕ) (q : State) (radix : ℕ) → IsFront text q own rest → big_of t ≡ Some (radix, digits)
    → text ≡ (t ++ 110 ∷ []) ++ more → BigFront text own rest t more q radix
big_front text own rest t digits more q radix f h e =
    let r = big_reached t digits radix h in
    let parts : text ≡ t ++ 110 ∷ more = e ∙ append_assoc t (110 ∷ []) more in
    let long : length t ≤ length own = f.longest r.state t (110 ∷ more) parts r.there (big_is_whole r.state radix r.holds) in
    let x = tail own t rest (110 ∷ more) (sym f.parts ∙ parts) long in
    let reached : reach s.Start (t ++ x.between) ≡ Some q = ap (reach s.Start) (sym x.long) ∙ f.reached in
    at x.between x.long x.rest reached r.state r.there r.holds
  where
    at : (z : List ℕ) → own ≡ t ++ z → 110 ∷ more ≡ z ++ rest → reach s.Start (t ++ z) ≡ Some q → (p : State) → reach s.Start t ≡ Some p → big_radix p ≡ Some radix
        → BigFront text own rest t more q radix
    at [] l i j p k m =
        let same : Some p ≡ Some q = sym k ∙ ap (reach s.Start) (sym (append-nil t)) ∙ j in
        record { digits = sym (l ∙ append-nil t); behind = sym i; taken = ap big_radix (sym (same_Some _ _ same)) ∙ m }
    at (c ∷ z) l i j p k m =
        let first : 110 ≡ c = cc in
        none_some (sym (no_reach t z) ∙ ap (λ (d : ℕ). reach s.Start (t ++ d ∷ z)) first ∙ j)

pub number_longest : (text own rest : List ℕ) (q : State) → IsFront text q own rest → (begins is_n rest ≡ true → big_radix q ≡ None) → Longest own text
number_longest text own rest q f none (Number value) other more h e = let r = number_reached other value h in f.longest r.state other more e r.there r.holds
number_longest text own rest q f none (BigInt radix digits) other more h e =
    let b = big_front text own rest h.0 digits more q radix f h.2 (e ∙ ap (λ l. l ++ more) h.1) in
    none_some (sym (none (ap (begins is_n) b.behind)) ∙ b.taken)

pub big_longest : (text own rest : List ℕ) (q : State) → IsFront text q own (110 ∷ rest) → Longest (own ++ 110 ∷ []) text
big_longest text own rest q f (Number value) other more h e =
    let r = number_reached other value h in
    let less : length other ≤ length own = f.longest r.state other more e r.there r.holds in
    omega (arith, length-append own (110 ∷ []))
big_longest text own rest q f (BigInt radix digits) other more h e =
    let b = big_front text own (110 ∷ rest) h.0 digits more q radix f h.2 (e ∙ ap (λ l. l ++ more) h.1) in
    let same : other ≡ own ++ 110 ∷ [] = h.1 ∙ ap (λ l. l ++ 110 ∷ []) b.digits in
    omega (arith, ap length same)

-- ---- no literal, or one

pub not_ended : (rest : List ℕ) → begins is_barred rest ≡ true → Ends is_barred rest → ⊥
not_ended [] b e = false≢true b
not_ended (c ∷ cs) b e = false≢true (sym e ∙ b)

pub ended : (rest : List ℕ) → begins is_barred rest ≡ false → Ends is_barred rest
ended [] b = tt
ended (c ∷ cs) b = b

pub no_numeral : (m : Meaning) (own text rest : List ℕ) → text ≡ own ++ rest → Spells m own → Longest own text → begins is_barred rest ≡ true → NoNumber text
no_numeral m own text rest e h l b o other r x =
    let less : length other ≤ length own = l o other r x.spelled x.parts in
    let more : length own ≤ length other = x.longest m own rest h e in
    let same = same_parts own other rest r (sym e ∙ x.parts) (omega arith) in
    not_ended rest b (subst (Ends is_barred) (sym same.rest) x.ended)

one_meaning : (m o : Meaning) (own : List ℕ) → Spells m own → Spells o own → m ≡ o
one_meaning (Number v) (Number w) own h i = ap Number (same_Some _ _ (sym h ∙ i))
one_meaning (Number v) (BigInt radix digits) own h i =
    absurd (false≢true (sym (no_number i.0 []) ∙ ap (λ l. is_some (number_of l)) (sym i.1) ∙ ap is_some h))
one_meaning (BigInt radix digits) (Number v) own h i =
    absurd (false≢true (sym (no_number h.0 []) ∙ ap (λ l. is_some (number_of l)) (sym h.1) ∙ ap is_some i))
one_meaning (BigInt radix digits) (BigInt other more) own h i =
    let text : h.0 ≡ i.0 = append_cancel_right h.0 i.0 (110 ∷ []) (sym h.1 ∙ i.1) in
    let both : (radix, digits) ≡ (other, more) = same_Some _ _ (sym h.2 ∙ ap big_of text ∙ i.2) in
    ap (λ (x : ℕ × List ℕ). BigInt x.0 x.1) both

pub one_number : OneNumber
one_number m o own other text r s h i =
    let less : length other ≤ length own = h.longest o other s i.spelled i.parts in
    let more : length own ≤ length other = i.longest m own r h.spelled h.parts in
    let same = same_parts own other r s (sym h.parts ∙ i.parts) (omega arith) in
    (one_meaning m o own h.spelled (subst (Spells o) (sym same.own) i.spelled), same.own, same.rest)

-- ---- as the code meets it

pub is_number : (text own rest : List ℕ) (q : State) → IsFront text q own rest → is_whole q ≡ true → is_some (number_of own) ≡ true
is_number text own rest q f w = spelled_is own ∙ reach_left s.Start own ∙ ap (λ o. by_next o false is_whole) f.reached ∙ w

pub exponent_same : (text own rest : List ℕ) (q : State) → IsFront text q own rest → exponent_follows q ≡ takes_exponent own
exponent_same text own rest q f =
    sym (spelled_is (own ++ codes "e0") ∙ reach_left s.Start (own ++ codes "e0") ∙ ap (λ o. by_next o false is_whole) (reach_more s.Start own (codes "e0"))
    ∙ ap (λ o. by_next (by_next o None (λ p. reach p (codes "e0"))) false is_whole) f.reached ∙ at (step q 101))
  where
    last : (o : Next) → by_next (by_next o None (λ x. Some x)) false is_whole ≡ by_next o false is_whole
    last None = refl
    last (Some p) = refl

    at : (o : Next) → by_next (by_next o None (λ p. reach p (48 ∷ []))) false is_whole ≡ by_next o false (λ p. by_next (step p 48) false is_whole)
    at None = refl
    at (Some p) = last (step p 48)

-- behind a big integer neither digits of a prefix nor of an exponent are missing
zero_n : (own : List ℕ) → is_zero (own ++ 110 ∷ []) ≡ false
zero_n [] = refl
zero_n (c ∷ []) = elim (c == 48) as (λ v. (v && false) ≡ false) [ true ↦ refl | false ↦ refl ]
zero_n (c ∷ d ∷ cs) = elim (c == 48) as (λ v. (v && false) ≡ false) [ true ↦ refl | false ↦ refl ]

exponent_n : (own : List ℕ) → takes_exponent (own ++ 110 ∷ []) ≡ false
exponent_n own = ap (λ l. is_some (number_of l)) (append_assoc own (110 ∷ []) (codes "e0")) ∙ no_number own (codes "e0")

pub flaw_n : (own rest : List ℕ) → flaw (own ++ 110 ∷ []) rest ≡ barred_next rest
flaw_n own rest = rw (zero_n own, exponent_n own) refl

-- radix and digits of a big integer
digits_by : (o : Option ℕ) (text : List ℕ) (x : ℕ × List ℕ) → big_by o text ≡ Some x → x.1 ≡ plain (behind_prefix o text)
digits_by None text x e =
    by_test (spells_big_decimal text) (x.1 ≡ plain text)
    (λ b. let h = rw b at e in sym (ap (λ (y : ℕ × List ℕ). y.1) (same_Some _ _ h)))
    (λ b. let h = rw b at e in none_some h)
digits_by (Some radix) text x e =
    by_test (spells_digits radix (past_first (past_first text))) (x.1 ≡ plain (past_first (past_first text)))
    (λ b. let h = rw b at e in sym (ap (λ (y : ℕ × List ℕ). y.1) (same_Some _ _ h)))
    (λ b. let h = rw b at e in none_some h)

big_of_digits : (text : List ℕ) (x : ℕ × List ℕ) → big_of text ≡ Some x → x.1 ≡ plain (behind_prefix (prefix_radix text) text)
unfolding big_of
big_of_digits text x e = digits_by (prefix_radix text) text x e

radix_found : (o : Option (ℕ × List ℕ)) (radix : ℕ) → radix_in o ≡ Some radix → (digits : List ℕ) × (o ≡ Some (radix, digits))
radix_found None radix e = none_some e
radix_found (Some x) radix e = let f : x.0 ≡ radix = same_Some _ _ e in (x.1, ap (λ (n : ℕ). Some (n, x.1)) f)

pub big_spelled : (text own rest : List ℕ) (q : State) (radix : ℕ) → IsFront text q own rest → big_radix q ≡ Some radix
    → Spells (BigInt radix (plain (behind_prefix (prefix_radix own) own))) (own ++ 110 ∷ [])
big_spelled text own rest q radix f h =
    let e : radix_in (big_of own) ≡ Some radix = reach_big s.Start own ∙ ap (λ o. by_next o None big_radix) f.reached ∙ h in
    let x = radix_found (big_of own) radix e in
    (own, refl, x.1 ∙ ap (λ (l : List ℕ). Some (radix, l)) (big_of_digits own (radix, x.0) x.1))

-- ---- answers

valued : (o : Option SpecNumber) → is_some o ≡ true → (value : SpecNumber) × (o ≡ Some value)
valued None e = absurd (false≢true e)
valued (Some value) e = (value, refl)

pub plain_fault : (end : ℕ) (text own rest : List ℕ) (q : State) (e : Error) → IsFront text q own rest → is_whole q ≡ true → (begins is_n rest ≡ true → big_radix q ≡ None)
    → begins is_barred rest ≡ true → IsFlaw end (flaw own rest) e → NoNumber text × IsNumberFault end text e
plain_fault end text own rest q e f w none b h =
    let v = valued (number_of own) (is_number text own rest q f w) in
    let longest : Longest own text = number_longest text own rest q f none in (
      no_numeral (Number v.0) own text rest f.parts v.1 longest b,
      record { meaning = Number v.0; own = own; rest = rest; parts = f.parts; spelled = v.1; longest = longest; barred = b; flawed = h },
    )

pub plain_read : (text own rest : List ℕ) (q : State) (o : Option SpecNumber) → IsFront text q own rest → is_whole q ≡ true → o ≡ number_of own → o ≡ None → ⊥
plain_read text own rest q o f w e none = false≢true (sym (ap is_some none) ∙ ap is_some e ∙ is_number text own rest q f w)

pub plain_found : (text own rest : List ℕ) (q : State) (value : SpecNumber) → IsFront text q own rest → (begins is_n rest ≡ true → big_radix q ≡ None)
    → begins is_barred rest ≡ false → number_of own ≡ Some value → SpellsNumber (Number value) own text rest
plain_found text own rest q value f none b h =
    record { parts = f.parts; spelled = h; longest = number_longest text own rest q f none; ended = ended rest b }

big_parts : (text own rest : List ℕ) (q : State) → IsFront text q own (110 ∷ rest) → text ≡ (own ++ 110 ∷ []) ++ rest
big_parts text own rest q f = f.parts ∙ sym (append_assoc own (110 ∷ []) rest)

pub big_fault : (end : ℕ) (text own rest : List ℕ) (q : State) (radix : ℕ) (e : Error) → IsFront text q own (110 ∷ rest) → big_radix q ≡ Some radix
    → begins is_barred rest ≡ true → IsFlaw end (barred_next rest) e → NoNumber text × IsNumberFault end text e
big_fault end text own rest q radix e f r b h =
    let m : Meaning = BigInt radix (plain (behind_prefix (prefix_radix own) own)) in
    let spelled : Spells m (own ++ 110 ∷ []) = big_spelled text own (110 ∷ rest) q radix f r in
    let longest : Longest (own ++ 110 ∷ []) text = big_longest text own rest q f in (
      no_numeral m (own ++ 110 ∷ []) text rest (big_parts text own rest q f) spelled longest b,
      record {
        meaning = m;
        own = own ++ 110 ∷ [];
        rest = rest;
        parts = big_parts text own rest q f;
        spelled = spelled;
        longest = longest;
        barred = b;
        flawed = subst (λ x. IsFlaw end x e) (sym (flaw_n own rest)) h;
      },
    )

pub big_ends_with : (text own rest : List ℕ) (q : State) → IsFront text q own (110 ∷ rest) → EndsWith text rest
big_ends_with text own rest q f = (own ++ 110 ∷ [], big_parts text own rest q f)

pub big_found : (text own raw rest digits : List ℕ) (q : State) (radix : ℕ) → IsFront text q own (110 ∷ rest) → big_radix q ≡ Some radix
    → begins is_barred rest ≡ false → digits ≡ plain (behind_prefix (prefix_radix own) own) → text ≡ raw ++ rest → SpellsNumber (BigInt radix digits) raw text rest
big_found text own raw rest digits q radix f r b d e =
    let same : own ++ 110 ∷ [] ≡ raw = append_cancel_right (own ++ 110 ∷ []) raw rest (sym (big_parts text own rest q f) ∙ e) in
    let spelled : Spells (BigInt radix digits) (own ++ 110 ∷ []) = subst (λ (l : List ℕ). Spells (BigInt radix l) (own ++ 110 ∷ [])) (sym d) (big_spelled text own (110 ∷ rest) q radix f r) in
    record {
      parts = e;
      spelled = subst (Spells (BigInt radix digits)) same spelled;
      longest = subst (λ l. Longest l text) same (big_longest text own rest q f);
      ended = ended rest b;
    }

tail_ascii : (l : List ℕ) → IsAscii l → IsAscii (past_first l)
tail_ascii [] h = h
tail_ascii (c ∷ cs) h = λ i. h (suc i)

behind_ascii : (o : Option ℕ) (l : List ℕ) → IsAscii l → IsAscii (behind_prefix o l)
behind_ascii None l h = h
behind_ascii (Some radix) l h = tail_ascii (past_first l) (tail_ascii l h)

pub digits_ascii : (text own rest digits spelled : List ℕ) (q : State) → IsFront text q own rest → spelled ≡ own → digits ≡ behind_prefix (prefix_radix spelled) spelled → IsAscii digits
digits_ascii text own rest digits spelled q f same d =
    subst IsAscii (sym (d ∙ ap (λ l. behind_prefix (prefix_radix l) l) same)) (behind_ascii (prefix_radix own) own (reached_ascii s.Start q own f.reached))

-- a number is read where one begins
pub started : (text own rest : List ℕ) (q : State) → IsFront text q own rest → is_number_start text ≡ true → 0 < length own
unfolding step
started [] own rest q f h = absurd (false≢true h)
started (c ∷ cs) own rest q f h =
    by_test (is_decimal c) (0 < length own)
    (λ d. by_test (c == 48) (0 < length own)
    (λ z. let long : 1 ≤ length own = f.longest s.Zero (c ∷ []) cs refl (rw z refl) refl in omega arith)
    (λ z. let long : 1 ≤ length own = f.longest (s.Integer true) (c ∷ []) cs refl (rw (z, d) refl) refl in omega arith))
    (λ d. at cs f.longest d (rw d at h))
  where
    at : (ds : List ℕ) → ((p : State) (other more : List ℕ) → c ∷ ds ≡ other ++ more → reach s.Start other ≡ Some p → is_whole p ≡ true → length other ≤ length own)
        → is_decimal c ≡ false → (c == 46 && begins is_decimal ds) ≡ true → 0 < length own
    at [] longest d e = by_test (c == 46) (0 < length own) (λ i. absurd (false≢true (rw i at e))) (λ i. absurd (false≢true (rw i at e)))
    at (x ∷ ds) longest d e =
        by_test (c == 46) (0 < length own)
        (λ i.
        let z : (c == 48) ≡ false = grind (arith, nat_tests) in
        let first : is_decimal x ≡ true = rw i at e in
        let long : 2 ≤ length own = longest (s.Fraction true) (c ∷ x ∷ []) ds refl (rw (z, d, i, first) refl) refl in
        omega arith)
        (λ i. absurd (false≢true (rw i at e)))

-- ---- how a literal begins

start_one : (c : ℕ) (ys : List ℕ) → is_number_start (c ∷ []) ≡ true → is_number_start (c ∷ ys) ≡ true
start_one c ys h = by_test (is_decimal c) (is_number_start (c ∷ ys) ≡ true)
    (λ d. rw d refl)
    (λ d. let k : (c == 46 && false) ≡ true = sym (ap (λ b. b || (c == 46 && false)) d) ∙ h in absurd (false≢true (and_parts (c == 46) false k).1))

start_more : (xs ys : List ℕ) → is_number_start xs ≡ true → is_number_start (xs ++ ys) ≡ true
start_more [] ys h = absurd (false≢true h)
start_more (c ∷ []) ys h = start_one c ys h
start_more (c ∷ d ∷ ds) ys h = h

-- behind a dot alone
dot_first : (cs : List ℕ) (p : State) → reach (s.Fraction false) cs ≡ Some p → is_whole p ≡ true → begins is_decimal cs ≡ true
unfolding step
dot_first [] p h w = let same : s.Fraction false ≡ p = same_Some _ _ h in absurd (false≢true (ap is_whole same ∙ w))
dot_first (d ∷ ds) p h w = by_test (is_decimal d) (is_decimal d ≡ true) (λ e. e)
    (λ e. let k : None ≡ Some p = sym (ap (λ b. by_next (cond b (Some (s.Fraction true)) None) None (λ q. reach q ds)) e) ∙ h in none_some k)

reached_start : (own : List ℕ) (p : State) → reach s.Start own ≡ Some p → is_whole p ≡ true → is_number_start own ≡ true
unfolding step
reached_start [] p h w = let same : s.Start ≡ p = same_Some _ _ h in absurd (false≢true (ap is_whole same ∙ w))
reached_start (c ∷ cs) p h w = by_test (is_decimal c) (is_number_start (c ∷ cs) ≡ true)
    (λ d. rw d refl)
    (λ d. by_test (c == 46) (is_number_start (c ∷ cs) ≡ true)
    (λ e.
    let at : c ≡ 46 = (Decides-eqb c 46).0 e in
    let k : reach (s.Fraction false) cs ≡ Some p = subst (λ x. reach s.Start (x ∷ cs) ≡ Some p) at h in
    rw (d, e) (dot_first cs p k w))
    (λ e.
    let z : (c == 48) ≡ false = grind (arith, nat_tests) in
    let k : None ≡ Some p = sym (stops z d e) ∙ h in none_some k))
  where
    stops : (c == 48) ≡ false → is_decimal c ≡ false → (c == 46) ≡ false → by_next (step s.Start c) None (λ q. reach q cs) ≡ None
    stops z d e = rw (z, d, e) refl

-- a literal begins with a digit, or with a dot and a digit
pub numeral_starts : (m : Meaning) (own text rest : List ℕ) → SpellsNumber m own text rest → is_number_start text ≡ true
numeral_starts (Number value) own text rest h =
    let r = number_reached own value h.spelled in
    rw h.parts (start_more own rest (reached_start own r.state r.there r.holds))
numeral_starts (BigInt radix digits) own text rest h =
    let t = h.spelled.0 in
    let r = big_reached t digits radix h.spelled.2 in
    rw h.parts (rw h.spelled.1 (start_more (t ++ 110 ∷ []) rest (start_more t (110 ∷ []) (reached_start t r.state r.there (big_is_whole r.state radix r.holds)))))
