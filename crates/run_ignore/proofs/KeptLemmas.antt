-- The blanks at the end of a line.
use Rattle.std.proofs.Common.{◌≡◌, ◌==◌, ℕ, ◌+◌, ◌<◌, ◌≤◌, Bool, false, not, ◌&&◌, ◌⊎◌, List, [], ◌∷◌, ◌++◌, length, drop, take, get_or, length-drop, get_or-drop, take-append-drop, refl, ap, sym, subst, inl, inr, ◌∙◌, arith}
use Rattle.std.proofs.lemmas.Bool.{cases_eq}
use Rattle.std.proofs.lemmas.List.{get_or_default, take_more}
use Rattle.run_ignore.specs.Lines.{EndsBare, is_quoted, IsKept}

is_quoted-append : (quoted : Bool) (front : List ℕ) (byte : ℕ) → is_quoted quoted (front ++ byte ∷ []) ≡ (not (is_quoted quoted front) && (byte == 92))
is_quoted-append quoted [] byte = refl
is_quoted-append quoted (b ∷ front) byte = is_quoted-append (not quoted && (b == 92)) front byte

nil_not : (ys : List ℕ) (b : ℕ) → [] ≡ ys ++ b ∷ [] → ⊥
nil_not [] b e = cc
nil_not (y ∷ ys) b e = cc

-- two texts that end with a byte are the same where their fronts and their last bytes are
snoc_same : (xs ys : List ℕ) (a b : ℕ) → xs ++ a ∷ [] ≡ ys ++ b ∷ [] → (xs ≡ ys) × (a ≡ b)
snoc_same [] [] a b e = (refl, cc)
snoc_same [] (y ∷ ys) a b e = let f : [] ≡ ys ++ b ∷ [] = cc in absurd (nil_not ys b f)
snoc_same (x ∷ xs) [] a b e = let f : [] ≡ xs ++ a ∷ [] = cc in absurd (nil_not xs a f)
snoc_same (x ∷ xs) (y ∷ ys) a b e =
    let f : xs ++ a ∷ [] ≡ ys ++ b ∷ [] = cc in
    let first : x ≡ y = cc in
    let r = snoc_same xs ys a b f in
    (ap (λ h. h ∷ xs) first ∙ ap (λ t. y ∷ t) r.0, r.1)

-- what the loop over a line keeps: all from `end` on is blank, and what stands before ends with no bare blank
pub record KeptSoFar (line : List ℕ) (at end : ℕ) (quoted : Bool) : Type 0 where
  pub bound : end ≤ at
  pub quoted_is : quoted ≡ is_quoted false (take at line)
  pub blanks : (k : ℕ) → end ≤ k → k < at → get_or line k 0 ≡ 32
  pub bare : EndsBare (take end line) → ⊥

pub kept_begun : (line : List ℕ) → KeptSoFar line 0 0 false
kept_begun line =
    record {
      bound = omega arith;
      quoted_is = refl;
      blanks = λ k from to. absurd (omega arith);
      bare = λ b. nil_not b.0 32 b.1.0;
    }

-- a byte that is quoted or no blank
kept_more : (line : List ℕ) (at end : ℕ) (quoted : Bool) → at < length line → KeptSoFar line at end quoted
    → (quoted ≡ false → get_or line at 0 ≡ 32 → ⊥) → KeptSoFar line (at + 1) (at + 1) (not quoted && (get_or line at 0 == 92))
kept_more line at end quoted h kept unbare =
    let next = take_more line at 0 h in
    record {
      bound = omega arith;
      quoted_is = ap (λ q. not q && (get_or line at 0 == 92)) kept.quoted_is
          ∙ (sym (is_quoted-append false (take at line) (get_or line at 0)) ∙ ap (is_quoted false) (sym next));
      blanks = λ k from to. absurd (omega arith);
      bare = λ b.
          let same = snoc_same (take at line) b.0 (get_or line at 0) 32 (sym next ∙ b.1.0) in
          unbare (kept.quoted_is ∙ (ap (is_quoted false) same.0 ∙ b.1.1)) same.1;
    }

-- a blank that is not quoted
kept_blank : (line : List ℕ) (at end : ℕ) (quoted : Bool) → at < length line → KeptSoFar line at end quoted
    → quoted ≡ false → get_or line at 0 ≡ 32 → KeptSoFar line (at + 1) end (not quoted && (get_or line at 0 == 92))
kept_blank line at end quoted h kept bare blank =
    let next = take_more line at 0 h in
    record {
      bound = let b = kept.bound in omega arith;
      quoted_is = ap (λ q. not q && (get_or line at 0 == 92)) kept.quoted_is
          ∙ (sym (is_quoted-append false (take at line) (get_or line at 0)) ∙ ap (is_quoted false) (sym next));
      blanks = λ k from to. elim (cases_eq k at) [
        | inl same ↦ ap (λ j. get_or line j 0) same ∙ blank
        | inr apart ↦ kept.blanks k from (omega arith)
      ];
      bare = kept.bare;
    }

pub kept_next : (line : List ℕ) (at end : ℕ) (quoted : Bool) (end' : ℕ) (quoted' : Bool) → at < length line → KeptSoFar line at end quoted
    → ((end' ≡ at + 1) × (quoted ≡ false → get_or line at 0 ≡ 32 → ⊥)) ⊎ ((end' ≡ end) × ((quoted ≡ false) × (get_or line at 0 ≡ 32)))
    → quoted' ≡ (not quoted && (get_or line at 0 == 92)) → KeptSoFar line (at + 1) end' quoted'
kept_next line at end quoted end' quoted' h kept choice e =
    subst (λ (q : Bool). KeptSoFar line (at + 1) end' q) (sym e) (elim choice [
      | inl p ↦
          subst (λ (n : ℕ). KeptSoFar line (at + 1) n (not quoted && (get_or line at 0 == 92))) (sym p.0)
          (kept_more line at end quoted h kept p.1)
      | inr p ↦
          subst (λ (n : ℕ). KeptSoFar line (at + 1) n (not quoted && (get_or line at 0 == 92))) (sym p.0)
          (kept_blank line at end quoted h kept p.1.0 p.1.1)
    ])

-- the blanks are behind what is kept
pub kept_done : (line : List ℕ) (end : ℕ) (quoted : Bool) → KeptSoFar line (length line) end quoted → IsKept line (take end line)
kept_done line end quoted kept = (
  drop end line,
  (
    sym (take-append-drop end line),
    (
      (λ k d h.
          let within : end + k < length line = omega (arith, length-drop end line) in
          get_or-drop end line k d ∙ (get_or_default line (end + k) d 0 within ∙ kept.blanks (end + k) (omega arith) within)),
      kept.bare,
    ),
  ),
)
