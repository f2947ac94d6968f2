-- A run of characters is found by bytes, where a test does not tell apart the bytes from 128 on.
use Rattle.std.proofs.Common.{◌≡◌, ℕ, ◌+◌, ◌/◌, ◌<◌, ◌≤◌, ⊎_elim, Bool, true, false, cond, ltb, take, drop, List, [], ◌∷◌, ◌++◌, length, length-append, refl, sym, ap, subst, ◌∙◌, arith}
use Rattle.std.specs.List.{prefix_len}
use Rattle.std.specs.Str.{IsCharBoundary, IsUtf8, chars, encode_utf8_all}
use Rattle.std.proofs.lemmas.Bool.{cases_lt, cases_Bool}
use Rattle.std.proofs.lemmas.Bool.Decides.{nat_tests}
use Rattle.std.proofs.lemmas.Str.{IsCharBoundary-at_seam, chars-encodes, encode_ascii, encodes-append, encodes-chars, scalars-chars}
use Rattle.std.proofs.Math.Seq.{take-append_seam, drop-append_seam}
use lib.Utf8.{encode, next, scalars}
use Rattle.lex_pieces.specs.Runs.{Each, run, after}
use Rattle.lex_pieces.proofs.Wide.{encode_two, encode_three, encode_four, scalars_parts}
use Rattle.lex_pieces.proofs.Passing.{run_more, after_more}

-- bytes from 128 on
abbrev pub High : List ℕ → Type 0
High [] = Unit {0}
High (b ∷ bs) = (128 ≤ b) × High bs

pub record IsWide (c : ℕ) (b : ℕ) (bs : List ℕ) : Type 0 where
  pub whole : encode c ≡ b ∷ bs
  pub first : 128 ≤ b
  pub others : High bs

pub wide : (c : ℕ) → 128 ≤ c → (b : ℕ) × (bs : List ℕ) × IsWide c b bs
wide c h =
    let e : ltb c 128 ≡ false = grind (arith, nat_tests) in
    ⊎_elim
    (λ (short : c < 2048). (
      192 + c / 64,
      next c ∷ [],
      record { whole = encode_two c e (grind (arith, nat_tests)); first = omega arith; others = (omega arith, tt) },
    ))
    (λ (long : 2048 ≤ c). let f : ltb c 2048 ≡ false = grind (arith, nat_tests) in ⊎_elim
    (λ (short : c < 65536). (
      224 + c / 4096,
      next (c / 64) ∷ next c ∷ [],
      record { whole = encode_three c e f (grind (arith, nat_tests)); first = omega arith; others = (omega arith, (omega arith, tt)) },
    ))
    (λ (long : 65536 ≤ c). (
      240 + c / 262144,
      next (c / 4096) ∷ next (c / 64) ∷ next c ∷ [],
      record { whole = encode_four c e f (grind (arith, nat_tests)); first = omega arith; others = (omega arith, (omega arith, (omega arith, tt))) },
    ))
    (cases_lt c 65536))
    (cases_lt c 2048)

-- The test does not tell apart what is from 128 on.
pub record Flat (p : ℕ → Bool) : Type 0 where
  pub same : (b : ℕ) → 128 ≤ b → p b ≡ p 128

module _ (p : ℕ → Bool) where
  -- all bytes pass
  AllPass : List ℕ → Type 0
  AllPass [] = Unit {0}
  AllPass (b ∷ bs) = (p b ≡ true) × AllPass bs

  high_pass : Flat p → p 128 ≡ true → (bs : List ℕ) → High bs → AllPass bs
  unfolding AllPass
  high_pass f e [] h = tt
  high_pass f e (b ∷ bs) h = (f.same b h.0 ∙ e, high_pass f e bs h.1)

  char_passes : Flat p → (c : ℕ) → p c ≡ true → AllPass (encode c)
  unfolding AllPass
  char_passes f c e = ⊎_elim
      (λ (short : c < 128). subst AllPass (sym (encode_ascii c short)) (e, tt))
      (λ (long : 128 ≤ c).
      let w = wide c long in
      let at : p 128 ≡ true = sym (f.same c long) ∙ e in
      subst AllPass (sym w.2.whole) (f.same w.0 w.2.first ∙ at, high_pass f at w.1 w.2.others))
      (cases_lt c 128)

  prefix_all : (bs ds : List ℕ) → AllPass bs → prefix_len p (bs ++ ds) ≡ length bs + prefix_len p ds
  unfolding AllPass
  prefix_all [] ds h = omega arith
  prefix_all (b ∷ bs) ds h = rw h.0 (omega (arith, prefix_all bs ds h.1))

  char_stops : Flat p → (c : ℕ) (ds : List ℕ) → p c ≡ false → prefix_len p (encode c ++ ds) ≡ 0
  char_stops f c ds e = ⊎_elim
      (λ (short : c < 128). ap (λ l. prefix_len p (l ++ ds)) (encode_ascii c short) ∙ rw e refl)
      (λ (long : 128 ≤ c).
      let w = wide c long in
      let at : p w.0 ≡ false = f.same w.0 w.2.first ∙ sym (f.same c long) ∙ e in
      ap (λ l. prefix_len p (l ++ ds)) w.2.whole ∙ rw at refl)
      (cases_lt c 128)

  pub run_none : (c : ℕ) (cs : List ℕ) → p c ≡ false → run p (c ∷ cs) ≡ []
  run_none c cs e = ap (λ t. cond t (c ∷ run p cs) []) e

  pub after_none : (c : ℕ) (cs : List ℕ) → p c ≡ false → after p (c ∷ cs) ≡ c ∷ cs
  after_none c cs e = ap (λ t. cond t (after p cs) (c ∷ cs)) e

  -- the run and what follows it are the text
  pub run_after : (cs : List ℕ) → cs ≡ run p cs ++ after p cs
  run_after [] = refl
  run_after (c ∷ cs) = ⊎_elim
      (λ (e : p c ≡ true). ap (λ (l : List ℕ). c ∷ l) (run_after cs) ∙ sym (ap (λ t. t ++ after p (c ∷ cs)) (run_more p c cs e) ∙ ap (λ t. c ∷ (run p cs ++ t)) (after_more p c cs e)))
      (λ (e : p c ≡ false). sym (ap (λ t. t ++ after p (c ∷ cs)) (run_none c cs e) ∙ after_none c cs e))
      (cases_Bool (p c))

  run_bytes : Flat p → (cs : List ℕ) → prefix_len p (encode_utf8_all cs) ≡ length (encode_utf8_all (run p cs))
  run_bytes f [] = refl
  run_bytes f (c ∷ cs) = ⊎_elim
      (λ (e : p c ≡ true).
      omega (
        arith,
        prefix_all (encode c) (encode_utf8_all cs) (char_passes f c e),
        run_bytes f cs,
        ap (λ l. length (encode_utf8_all l)) (run_more p c cs e),
        length-append (encode c) (encode_utf8_all (run p cs)),
      ))
      (λ (e : p c ≡ false). char_stops f c (encode_utf8_all cs) e ∙ sym (ap (λ l. length (encode_utf8_all l)) (run_none c cs e)))
      (cases_Bool (p c))

-- Where a text is cut behind the run.
pub record Cut (p : ℕ → Bool) (text : List ℕ) (n : ℕ) : Type 0 where
  pub boundary : IsCharBoundary text n
  pub ran : chars (take n text) ≡ run p (chars text)
  pub left : chars (drop n text) ≡ after p (chars text)
  pub is_text : IsUtf8 (drop n text)

pub cut_run : (p : ℕ → Bool) → Flat p → (text : List ℕ) → IsUtf8 text → Cut p text (prefix_len p text)
cut_run p f text u =
    let front = run p (chars text) in
    let rest = after p (chars text) in
    let parts = run_after p (chars text) in
    let whole : text ≡ encode_utf8_all front ++ encode_utf8_all rest = sym (encodes-chars text u) ∙ ap encode_utf8_all parts ∙ encodes-append front rest in
    let texts = scalars_parts front rest (ap scalars (sym parts) ∙ scalars-chars text u) in
    let n : length (encode_utf8_all front) ≡ prefix_len p text = sym (run_bytes p f (chars text)) ∙ ap (prefix_len p) (encodes-chars text u) in
    let behind : drop (length (encode_utf8_all front)) text ≡ encode_utf8_all rest = ap (drop (length (encode_utf8_all front))) whole ∙ drop-append_seam (encode_utf8_all front) (encode_utf8_all rest) in
    let before : take (length (encode_utf8_all front)) text ≡ encode_utf8_all front = ap (take (length (encode_utf8_all front))) whole ∙ take-append_seam (encode_utf8_all front) (encode_utf8_all rest) in
    subst (Cut p text) n (record {
      boundary = IsCharBoundary-at_seam text (encode_utf8_all front) (encode_utf8_all rest) whole (rest, (texts.1, refl));
      ran = ap chars before ∙ chars-encodes front texts.0;
      left = ap chars behind ∙ chars-encodes rest texts.1;
      is_text = subst IsUtf8 (sym behind) (rest, (texts.1, refl));
    })

-- each character of the run passes
pub run_each : (p : ℕ → Bool) (cs : List ℕ) → Each p (run p cs)
run_each p [] = tt
run_each p (c ∷ cs) = ⊎_elim
    (λ (e : p c ≡ true). subst (Each p) (sym (run_more p c cs e)) (e, run_each p cs))
    (λ (e : p c ≡ false). subst (Each p) (sym (run_none p c cs e)) tt)
    (cases_Bool (p c))

-- a run up to a character that does not pass
pub run_exact : (p : ℕ → Bool) (ds : List ℕ) (c : ℕ) (r : List ℕ) → Each p ds → p c ≡ false → run p (ds ++ c ∷ r) ≡ ds
run_exact p [] c r h e = run_none p c r e
run_exact p (d ∷ ds) c r h e = run_more p d (ds ++ c ∷ r) h.0 ∙ ap (λ (l : List ℕ). d ∷ l) (run_exact p ds c r h.1 e)

pub after_exact : (p : ℕ → Bool) (ds : List ℕ) (c : ℕ) (r : List ℕ) → Each p ds → p c ≡ false → after p (ds ++ c ∷ r) ≡ c ∷ r
after_exact p [] c r h e = after_none p c r e
after_exact p (d ∷ ds) c r h e = after_more p d (ds ++ c ∷ r) h.0 ∙ after_exact p ds c r h.1 e
