-- A run of characters at the front of a text, character by character, and where its bytes are cut.
use Rattle.std.proofs.Common.{◌≡◌, ℕ, ◌+◌, ◌-◌, Bool, true, false, cond, List, [], ◌∷◌, ◌++◌, length, take, drop, refl, sym, ap, ◌∙◌, subst, append_assoc, append-nil, length-append, arith, IsUtf8, IsCharBoundary}
use Rattle.std.proofs.lemmas.List.{append_cancel_right, take_at, drop_at}
use Rattle.std.proofs.lemmas.Str.{encodes-chars, encodes-append, chars-append, IsUtf8-take, IsCharBoundary-at_seam}
use Rattle.std.specs.Str.{chars}
use lib.Utf8.{encodes}
use Rattle.lex_pieces.specs.Runs.{run, after, Each, Passed}

module _ (p : ℕ → Bool) where
  abbrev pub passed_none : (cs : List ℕ) → Passed p cs cs
  passed_none cs = record { front = []; whole = refl; each = tt; ran = refl; left = refl }

  pub run_more : (c : ℕ) (cs : List ℕ) → p c ≡ true → run p (c ∷ cs) ≡ c ∷ run p cs
  run_more c cs e = ap (λ t. cond t (c ∷ run p cs) []) e

  pub after_more : (c : ℕ) (cs : List ℕ) → p c ≡ true → after p (c ∷ cs) ≡ after p cs
  after_more c cs e = ap (λ t. cond t (after p cs) (c ∷ cs)) e

  -- one more character before
  abbrev pub passed_cons : (c : ℕ) (cs rest : List ℕ) → p c ≡ true → Passed p cs rest → Passed p (c ∷ cs) rest
  passed_cons c cs rest e h = record {
    front = c ∷ h.front;
    whole = ap (λ (l : List ℕ). c ∷ l) h.whole;
    each = (e, h.each);
    ran = run_more c cs e ∙ ap (λ (l : List ℕ). c ∷ l) h.ran;
    left = after_more c cs e ∙ h.left;
  }

  pub each_append : (xs ys : List ℕ) → Each p xs → Each p ys → Each p (xs ++ ys)
  each_append [] ys h k = k
  each_append (x ∷ xs) ys h k = (h.0, each_append xs ys h.1 k)

  pub passed_then : (cs mid rest : List ℕ) → Passed p cs mid → Passed p mid rest → Passed p cs rest
  passed_then cs mid rest h k = record {
    front = h.front ++ k.front;
    whole = h.whole ∙ ap (λ l. h.front ++ l) k.whole ∙ sym (append_assoc h.front k.front rest);
    each = each_append h.front k.front h.each k.each;
    ran = h.ran ∙ ap (λ l. h.front ++ l) k.ran ∙ sym (append_assoc h.front k.front (run p rest));
    left = h.left ∙ k.left;
  }

  -- one more character and some after it
  pub passed_more : (cs rest mid more : List ℕ) (c : ℕ) → Passed p cs rest → rest ≡ c ∷ mid → p c ≡ true → Passed p mid more → Passed p cs more
  passed_more cs rest mid more c h e t k =
      passed_then cs rest more h (subst (λ l. Passed p l more) (sym e) (passed_cons c mid more t k))

  -- the first of the characters does not pass
  pub record Stops (cs : List ℕ) : Type 0 where
    pub ran : run p cs ≡ []
    pub left : after p cs ≡ cs

  pub stops_end : (cs : List ℕ) → cs ≡ [] → Stops cs
  stops_end cs e = subst Stops (sym e) (record { ran = refl; left = refl })

  pub stops_before : (cs more : List ℕ) (c : ℕ) → cs ≡ c ∷ more → p c ≡ false → Stops cs
  stops_before cs more c e t =
      subst Stops (sym e) (record { ran = ap (λ b. cond b (c ∷ run p more) []) t; left = ap (λ b. cond b (after p more) (c ∷ more)) t })

  pub ran_all : (cs rest : List ℕ) (h : Passed p cs rest) → Stops rest → run p cs ≡ h.front
  ran_all cs rest h s = h.ran ∙ ap (λ l. h.front ++ l) s.ran ∙ append-nil h.front

-- Where the bytes of a text are cut before the rest of its characters.
pub record Seam (text rest front : List ℕ) : Type 0 where
  pub boundary : IsCharBoundary text (length text - length rest)
  pub before : chars (take (length text - length rest) text) ≡ front
  pub behind : drop (length text - length rest) text ≡ rest

pub seam : (text rest front : List ℕ) → IsUtf8 text → IsUtf8 rest → chars text ≡ front ++ chars rest → Seam text rest front
seam text rest front u v e =
    let own = encodes front in
    let split : text ≡ own ++ rest = sym (encodes-chars text u) ∙ ap encodes e ∙ encodes-append front (chars rest) ∙ ap (λ l. own ++ l) (encodes-chars rest v) in
    let lengths : length text ≡ length own + length rest = ap length split ∙ length-append own rest in
    let at : length own ≡ length text - length rest = omega arith in
    let b : IsCharBoundary text (length own) = IsCharBoundary-at_seam text own rest split v in
    let cut : take (length own) text ≡ own = ap (take (length own)) split ∙ take_at own rest (length own) refl in
    let is_text : IsUtf8 own = subst IsUtf8 cut (IsUtf8-take text (length own) u b) in
    let same : chars own ≡ front = append_cancel_right (chars own) front (chars rest) (sym (chars-append own rest is_text) ∙ sym (ap chars split) ∙ e) in
    record {
      boundary = subst (IsCharBoundary text) at b;
      before = ap (λ n. chars (take n text)) (sym at) ∙ ap chars cut ∙ same;
      behind = ap (λ n. drop n text) (sym at) ∙ ap (drop (length own)) split ∙ drop_at own rest (length own) refl;
    }
