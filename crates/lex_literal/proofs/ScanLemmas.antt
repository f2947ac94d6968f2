-- The scan of a number finds the longest front that is one, by bytes as by characters.
use Rattle.std.proofs.Common.{◌≡◌, ℕ, zero, suc, ◌+◌, ◌-◌, ◌<◌, ◌≤◌, ⊎_elim, Bool, true, false, cond, List, [], ◌∷◌, ◌++◌, length, take, drop, append_assoc, length-append, refl, sym, ap, subst, ◌∙◌, arith, IsUtf8}
use Rattle.std.specs.Prelude.{Some, None}
use Rattle.std.specs.Str.{IsAscii, IsCharBoundary, chars, encode_utf8_all}
use Rattle.std.proofs.lemmas.Bool.{cases_lt, false≢true}
use Rattle.std.proofs.lemmas.Bool.Decides.{nat_tests}
use Rattle.std.proofs.lemmas.Str.{IsCharBoundary-at_seam, chars-encodes, encode_ascii, encodes-append, encodes-chars, encodes-IsAscii, scalars-chars}
use Rattle.std.proofs.Math.Seq.{take-append_seam, drop-append_seam}
use lib.Utf8.{scalars}
use Rattle.lex_pieces.proofs.Wide.{scalars_parts}
use Rattle.lex_literal.specs.declared.number_state.Radix.TheVariants.{Binary, Octal, Hexadecimal}
use Rattle.lex_literal.specs.declared.number_state.State.{State}
use Rattle.lex_literal.specs.declared.number_state.State.TheVariants as s
use Rattle.lex_literal.specs.NumberSteps.{Next, Last, IsFront, step, scan, reach, kept, is_whole, big_radix, by_next}
use Rattle.lex_literal.proofs.RunLemmas.{wide}
use Rattle.lex_literal.proofs.StateLemmas.{by_test, left, big_left, goes, ends, big_goes, big_ends}

-- ---- the state behind a text

left_by : (cs : List ℕ) → ((p : State) → left p cs ≡ by_next (reach p cs) false is_whole) → (o : Next)
    → by_next o false (λ p. left p cs) ≡ by_next (by_next o None (λ p. reach p cs)) false is_whole
left_by cs ih None = refl
left_by cs ih (Some p) = ih p

pub reach_left : (q : State) (cs : List ℕ) → left q cs ≡ by_next (reach q cs) false is_whole
reach_left q [] = ends q
reach_left q (c ∷ cs) = goes q c cs ∙ left_by cs (λ p. reach_left p cs) (step q c)

big_by : (cs : List ℕ) → ((p : State) → big_left p cs ≡ by_next (reach p cs) None big_radix) → (o : Next)
    → by_next o None (λ p. big_left p cs) ≡ by_next (by_next o None (λ p. reach p cs)) None big_radix
big_by cs ih None = refl
big_by cs ih (Some p) = ih p

pub reach_big : (q : State) (cs : List ℕ) → big_left q cs ≡ by_next (reach q cs) None big_radix
reach_big q [] = big_ends q
reach_big q (c ∷ cs) = big_goes q c cs ∙ big_by cs (λ p. reach_big p cs) (step q c)

more_by : (xs ys : List ℕ) → ((p : State) → reach p (xs ++ ys) ≡ by_next (reach p xs) None (λ x. reach x ys)) → (o : Next)
    → by_next o None (λ p. reach p (xs ++ ys)) ≡ by_next (by_next o None (λ p. reach p xs)) None (λ p. reach p ys)
more_by xs ys ih None = refl
more_by xs ys ih (Some p) = ih p

pub reach_more : (q : State) (xs ys : List ℕ) → reach q (xs ++ ys) ≡ by_next (reach q xs) None (λ p. reach p ys)
reach_more q [] ys = refl
reach_more q (x ∷ xs) ys = more_by xs ys (λ p. reach_more p xs ys) (step q x)

-- ---- what the scan finds

pub record Found (text : List ℕ) (last : Last) : Type 0 where
  pub own : List ℕ
  pub parts : text ≡ own ++ last.1
  pub reached : reach s.Start own ≡ Some last.0
  pub whole : 0 < length own → is_whole last.0 ≡ true

-- the cases of a next state, with what they are
pub by_step : (o : Next) (P : Next → Type 0) → (o ≡ None → P None) → ((p : State) → o ≡ Some p → P (Some p)) → P o
by_step None P none some = none refl
by_step (Some p) P none some = some p refl

found_kept : (text own cs : List ℕ) (p : State) (last : Last) → text ≡ own ++ cs → reach s.Start own ≡ Some p → Found text last → Found text (kept p cs last)
found_kept text own cs p last e r f =
    by_test (is_whole p) (Found text (kept p cs last))
    (λ w. rw w (record { own = own; parts = e; reached = r; whole = λ _. w }))
    (λ w. rw w f)

pub scan_found : (text own : List ℕ) (q : State) (last : Last) (cs : List ℕ) → text ≡ own ++ cs → reach s.Start own ≡ Some q → Found text last
    → Found text (scan q last cs)
unfolding scan
scan_found text own q last [] e r f = f
scan_found text own q last (c ∷ cs) e r f =
    by_step (step q c) (λ o. Found text (by_next o last (λ p. scan p (kept p cs last) cs)))
    (λ _. f)
    (λ p i.
    let whole : text ≡ (own ++ c ∷ []) ++ cs = e ∙ sym (append_assoc own (c ∷ []) cs) in
    let there : reach s.Start (own ++ c ∷ []) ≡ Some p =
    reach_more s.Start own (c ∷ []) ∙ ap (λ o. by_next o None (λ x. reach x (c ∷ []))) r ∙ ap (λ o. by_next o None (λ x. reach x [])) i in
    scan_found text (own ++ c ∷ []) p (kept p cs last) cs whole there (found_kept text (own ++ c ∷ []) cs p last whole there f))

-- the scan leaves no more than what it found last
kept_less : (p : State) (cs : List ℕ) (last : Last) → length cs ≤ length last.1 → length (kept p cs last).1 ≤ length last.1
kept_less p cs last h = by_test (is_whole p) (length (kept p cs last).1 ≤ length last.1) (λ w. rw w h) (λ w. rw w (omega arith))

kept_more : (p : State) (cs : List ℕ) (last : Last) → length cs ≤ length last.1 → length cs ≤ length (kept p cs last).1
kept_more p cs last h = by_test (is_whole p) (length cs ≤ length (kept p cs last).1) (λ w. rw w (omega arith)) (λ w. rw w h)

kept_whole : (p : State) (cs : List ℕ) (last : Last) → is_whole p ≡ true → length (kept p cs last).1 ≤ length cs
kept_whole p cs last w = rw w (omega arith)

scan_less : (q : State) (last : Last) (cs : List ℕ) → length cs ≤ length last.1 → length (scan q last cs).1 ≤ length last.1
unfolding scan
scan_less q last [] h = omega arith
scan_less q last (c ∷ cs) h =
    by_step (step q c) (λ o. length (by_next o last (λ p. scan p (kept p cs last) cs)).1 ≤ length last.1)
    (λ _. omega arith)
    (λ p _.
    let shorter : length cs ≤ length last.1 = omega arith in
    let a : length (kept p cs last).1 ≤ length last.1 = kept_less p cs last shorter in
    let b : length (scan p (kept p cs last) cs).1 ≤ length (kept p cs last).1 = scan_less p (kept p cs last) cs (kept_more p cs last shorter) in
    omega arith)

none_some : {A B : Type 0} {x : A} → None ≡ Some x → B
none_some e = cc

-- it leaves no more than what follows any front that is a number
pub scan_longest : (q p : State) (last : Last) (other more : List ℕ) → reach q other ≡ Some p → is_whole p ≡ true → length (other ++ more) ≤ length last.1
    → (is_whole q ≡ true → length last.1 ≤ length (other ++ more)) → length (scan q last (other ++ more)).1 ≤ length more
unfolding scan
scan_longest q p last [] more r w h k =
    let same : q ≡ p = cc in
    let now : length last.1 ≤ length more = k (ap is_whole same ∙ w) in
    let less : length (scan q last more).1 ≤ length last.1 = scan_less q last more h in
    omega arith
scan_longest q p last (c ∷ other) more r w h k =
    (by_step (step q c) (λ o. by_next o None (λ x. reach x other) ≡ Some p → length (by_next o last (λ x. scan x (kept x (other ++ more) last) (other ++ more))).1 ≤ length more)
    (λ _ e. none_some e)
    (λ x _ e.
    let shorter : length (other ++ more) ≤ length last.1 = omega arith in
    scan_longest x p (kept x (other ++ more) last) other more e w (kept_more x (other ++ more) last shorter) (kept_whole x (other ++ more) last))) r

-- ---- as the loop meets it

pub scan_ends : (q : State) (last : Last) (cs : List ℕ) (t : Last) → length cs ≡ 0 → scan q last cs ≡ t → last ≡ t
unfolding scan
scan_ends q last [] t e h = h
scan_ends q last (c ∷ cs) t e h = absurd (omega arith)

pub scan_stops : (q : State) (last : Last) (cs more : List ℕ) (c : ℕ) (t : Last) → cs ≡ c ∷ more → step q c ≡ None → scan q last cs ≡ t → last ≡ t
unfolding scan
scan_stops q last cs more c t e i h =
    sym (ap (scan q last) e ∙ ap (λ o. by_next o last (λ p. scan p (kept p more last) more)) i) ∙ h

step_to : (q p : State) (last : Last) (cs more : List ℕ) (c : ℕ) → cs ≡ c ∷ more → step q c ≡ Some p → scan q last cs ≡ scan p (kept p more last) more
unfolding scan
step_to q p last cs more c e i = ap (scan q last) e ∙ ap (λ o. by_next o last (λ p. scan p (kept p more last) more)) i

pub scan_keeps : (q p : State) (last : Last) (cs more : List ℕ) (c : ℕ) (t : Last) → cs ≡ c ∷ more → step q c ≡ Some p → is_whole p ≡ true
    → scan q last cs ≡ t → scan p (p, more) more ≡ t
scan_keeps q p last cs more c t e i w h = ap (λ (b : Bool). scan p (cond b (p, more) last) more) (sym w) ∙ sym (step_to q p last cs more c e i) ∙ h

pub scan_goes : (q p : State) (last : Last) (cs more : List ℕ) (c : ℕ) (t : Last) → cs ≡ c ∷ more → step q c ≡ Some p → is_whole p ≡ false
    → scan q last cs ≡ t → scan p last more ≡ t
scan_goes q p last cs more c t e i w h = ap (λ (b : Bool). scan p (cond b (p, more) last) more) (sym w) ∙ sym (step_to q p last cs more c e i) ∙ h

-- ---- by bytes as by characters

-- no byte and no character from 128 on belongs to a number
step_high : (q : State) (c : ℕ) → 128 ≤ c → step q c ≡ None
unfolding step
step_high s.Start c h = grind (arith, nat_tests)
step_high s.Zero c h = grind (arith, nat_tests)
step_high s.LegacyOctal c h = grind (arith, nat_tests)
step_high s.LegacyDecimal c h = grind (arith, nat_tests)
step_high (s.Integer b) c h = grind (arith, nat_tests)
step_high s.Point c h = grind (arith, nat_tests)
step_high (s.Fraction b) c h = grind (arith, nat_tests)
step_high s.Mark c h = grind (arith, nat_tests)
step_high (s.Exponent b) c h = grind (arith, nat_tests)
step_high (s.Prefixed Binary b) c h = grind (arith, nat_tests)
step_high (s.Prefixed Octal b) c h = grind (arith, nat_tests)
step_high (s.Prefixed Hexadecimal b) c h = grind (arith, nat_tests)

-- the same, with bytes for characters
abbrev in_bytes : Last → Last
in_bytes x = (x.0, encode_utf8_all x.1)

kept_bytes : (p : State) (cs : List ℕ) (last : Last) → kept p (encode_utf8_all cs) (in_bytes last) ≡ in_bytes (kept p cs last)
kept_bytes p cs last = by_test (is_whole p) (kept p (encode_utf8_all cs) (in_bytes last) ≡ in_bytes (kept p cs last)) (λ w. rw w refl) (λ w. rw w refl)

scan_bytes : (q : State) (last : Last) (cs : List ℕ) → scan q (in_bytes last) (encode_utf8_all cs) ≡ in_bytes (scan q last cs)
unfolding scan
scan_bytes q last [] = refl
scan_bytes q last (c ∷ cs) = ⊎_elim
    (λ (low : c < 128).
    ap (λ l. scan q (in_bytes last) (l ++ encode_utf8_all cs)) (encode_ascii c low)
    ∙ by_step (step q c) (λ o. by_next o (in_bytes last) (λ p. scan p (kept p (encode_utf8_all cs) (in_bytes last)) (encode_utf8_all cs)) ≡ in_bytes (by_next o last (λ p. scan p (kept p cs last) cs)))
    (λ _. refl)
    (λ p _. ap (λ l. scan p l (encode_utf8_all cs)) (kept_bytes p cs last) ∙ scan_bytes p (kept p cs last) cs))
    (λ (high : 128 ≤ c).
    let w = wide c high in
    ap (λ l. scan q (in_bytes last) (l ++ encode_utf8_all cs)) w.2.whole
    ∙ ap (λ o. by_next o (in_bytes last) (λ p. scan p (kept p (w.1 ++ encode_utf8_all cs) (in_bytes last)) (w.1 ++ encode_utf8_all cs))) (step_high q w.0 w.2.first)
    ∙ sym (ap (λ o. in_bytes (by_next o last (λ p. scan p (kept p cs last) cs))) (step_high q c high)))
    (cases_lt c 128)

-- the characters of a number are ASCII
pub reached_ascii : (q p : State) (own : List ℕ) → reach q own ≡ Some p → IsAscii own
reached_ascii q p [] r i = omega arith
reached_ascii q p (c ∷ cs) r zero = ⊎_elim
    (λ (low : c < 128). low)
    (λ (high : 128 ≤ c). none_some (sym (ap (λ o. by_next o None (λ x. reach x cs)) (step_high q c high)) ∙ r))
    (cases_lt c 128)
reached_ascii q p (c ∷ cs) r (suc i) =
    (by_step (step q c) (λ o. by_next o None (λ x. reach x cs) ≡ Some p → IsAscii cs)
    (λ _ e. none_some e)
    (λ x _ e. reached_ascii x p cs e)) r i

-- ---- where a text is cut

record FrontOf (text : List ℕ) (last : Last) : Type 0 where
  own : List ℕ
  front : IsFront text last.0 own last.1
  ascii : IsAscii own
  whole : 0 < length own → is_whole last.0 ≡ true

front_of : (cs : List ℕ) → FrontOf cs (scan s.Start (s.Start, cs) cs)
front_of cs =
    let f = scan_found cs [] s.Start (s.Start, cs) cs refl refl (record { own = []; parts = refl; reached = refl; whole = λ h. absurd (omega arith) }) in
    let longest : (p : State) (other more : List ℕ) → cs ≡ other ++ more → reach s.Start other ≡ Some p → is_whole p ≡ true → length other ≤ length f.own =
    λ p other more e r w.
    let less : length (scan s.Start (s.Start, cs) cs).1 ≤ length more =
    subst (λ l. length (scan s.Start (s.Start, cs) l).1 ≤ length more) (sym e)
    (scan_longest s.Start p (s.Start, cs) other more r w (omega (arith, ap length e)) (λ h. absurd (false≢true h))) in
    omega (arith, less, ap length f.parts, ap length e, length-append f.own (scan s.Start (s.Start, cs) cs).1, length-append other more)
    in record {
      own = f.own;
      front = record { parts = f.parts; reached = f.reached; longest = longest };
      ascii = reached_ascii s.Start (scan s.Start (s.Start, cs) cs).0 f.own f.reached;
      whole = f.whole;
    }

pub record Split (text behind : List ℕ) (q : State) : Type 0 where
  pub order : length behind ≤ length text
  pub boundary : IsCharBoundary text (length text - length behind)
  pub ascii : chars (take (length text - length behind) text) ≡ take (length text - length behind) text
  pub front : IsFront (chars text) q (take (length text - length behind) text) (chars (drop (length text - length behind) text))
  pub whole : 0 < length (take (length text - length behind) text) → is_whole q ≡ true

-- the same at the number of bytes by which the text is cut
record SplitAt (text : List ℕ) (q : State) (n : ℕ) : Type 0 where
  boundary : IsCharBoundary text n
  ascii : chars (take n text) ≡ take n text
  front : IsFront (chars text) q (take n text) (chars (drop n text))
  whole : 0 < length (take n text) → is_whole q ≡ true

pub split : (text behind : List ℕ) (q : State) → IsUtf8 text → (q, behind) ≡ scan s.Start (s.Start, text) text → Split text behind q
split text behind q u e =
    let cs = chars text in
    let found = scan s.Start (s.Start, cs) cs in
    let f = front_of cs in
    let same : (q, behind) ≡ in_bytes found =
    e ∙ ap (λ l. scan s.Start (s.Start, l) l) (sym (encodes-chars text u)) ∙ scan_bytes s.Start (s.Start, cs) cs in
    let state : found.0 ≡ q = sym (ap (λ (x : Last). x.0) same) in
    let left_bytes : behind ≡ encode_utf8_all found.1 = ap (λ (x : Last). x.1) same in
    let texts = scalars_parts f.own found.1 (ap scalars (sym f.front.parts) ∙ scalars-chars text u) in
    let own_bytes : encode_utf8_all f.own ≡ f.own = encodes-IsAscii f.own f.ascii in
    let whole : text ≡ f.own ++ encode_utf8_all found.1 =
    sym (encodes-chars text u) ∙ ap encode_utf8_all f.front.parts ∙ encodes-append f.own found.1 ∙ ap (λ l. l ++ encode_utf8_all found.1) own_bytes in
    let lengths : length text ≡ length f.own + length behind = ap length whole ∙ length-append f.own (encode_utf8_all found.1) ∙ ap (λ l. length f.own + length l) (sym left_bytes) in
    let front_is : take (length f.own) text ≡ f.own = ap (take (length f.own)) whole ∙ take-append_seam f.own (encode_utf8_all found.1) in
    let back_is : drop (length f.own) text ≡ encode_utf8_all found.1 = ap (drop (length f.own)) whole ∙ drop-append_seam f.own (encode_utf8_all found.1) in
    let own_chars : chars f.own ≡ f.own = ap chars (sym own_bytes) ∙ chars-encodes f.own texts.0 in
    let back_chars : chars (drop (length f.own) text) ≡ found.1 = ap chars back_is ∙ chars-encodes found.1 texts.1 in
    let at : SplitAt text q (length f.own) = record {
      boundary = IsCharBoundary-at_seam text f.own (encode_utf8_all found.1) whole (found.1, (texts.1, refl));
      ascii = subst (λ (l : List ℕ). chars l ≡ l) (sym front_is) own_chars;
      front = subst (λ (l : List ℕ). IsFront cs q l (chars (drop (length f.own) text))) (sym front_is)
          (subst (IsFront cs q f.own) (sym back_chars) (subst (λ p. IsFront cs p f.own found.1) state f.front));
      whole = λ h. ap is_whole (sym state) ∙ f.whole (subst (λ (l : List ℕ). 0 < length l) front_is h);
    } in
    let n : length f.own ≡ length text - length behind = omega arith in
    let there = subst (SplitAt text q) n at in
    record { order = omega arith; boundary = there.boundary; ascii = there.ascii; front = there.front; whole = there.whole }
