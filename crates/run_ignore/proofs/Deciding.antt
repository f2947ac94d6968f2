-- What the cells of a row say is what the definition says.
use Rattle.std.proofs.Common.{◌≡◌, ℕ, Bool, true, not, ◌&&◌, ◌↔◌, List, [], ◌∷◌, ◌++◌, refl, ap, inl, inr, ◌∙◌, eqb}
use Rattle.std.proofs.lemmas.Bool.{false≢true, and_parts, or_cases, and_from, or_left, or_right, not-true, not_from_false, eqb-true, eqb-false, eq-eqb, ne_eqb}
use Rattle.run_ignore.specs.Classes.{holds}
use Rattle.run_ignore.specs.Matching.{Matches, IsOfName, IsOfOneName}
use Rattle.run_ignore.specs.Rows.{is_slash, later, starred, is_end, can}
use Rattle.run_ignore.specs.declared.pieces.Piece.{Piece}
use Rattle.run_ignore.specs.declared.pieces.Piece.TheVariants.{Byte, One, Among, Star, Folders, Everything, Nothing}

is_end-true : (path : List ℕ) → is_end path ≡ true → path ≡ []
is_end-true [] h = refl
is_end-true (byte ∷ rest) h = absurd (false≢true h)

no_slash : (byte : ℕ) → not (is_slash byte) ≡ true → IsOfName byte
no_slash byte h = eqb-false byte 47 (not-true _ h)

is_no_slash : (byte : ℕ) → IsOfName byte → not (is_slash byte) ≡ true
is_no_slash byte h = not_from_false _ (ne_eqb byte 47 h)

starred-true : (test : List ℕ → Bool) (path : List ℕ) → starred test path ≡ true
    → (run : List ℕ) × ((rest : List ℕ) × ((path ≡ run ++ rest) × (IsOfOneName run × (test rest ≡ true))))
starred-true test [] h = ([], ([], (refl, (tt, h))))
starred-true test (byte ∷ path) h =
    elim (or_cases (test (byte ∷ path)) (not (is_slash byte) && starred test path) h) [
      | inl e ↦ ([], (byte ∷ path, (refl, (tt, e))))
      | inr e ↦
          let p = and_parts (not (is_slash byte)) (starred test path) e in
          let r = starred-true test path p.1 in
          (byte ∷ r.0, (r.1.0, (ap (λ l. byte ∷ l) r.1.1.0, ((no_slash byte p.0, r.1.1.1.0), r.1.1.1.1))))
    ]

starred-here : (test : List ℕ → Bool) (path : List ℕ) → test path ≡ true → starred test path ≡ true
starred-here test [] h = h
starred-here test (byte ∷ path) h = or_left (test (byte ∷ path)) (not (is_slash byte) && starred test path) h

starred-append : (test : List ℕ → Bool) (run rest : List ℕ) → IsOfOneName run → test rest ≡ true → starred test (run ++ rest) ≡ true
starred-append test [] rest name h = starred-here test rest h
starred-append test (byte ∷ run) rest name h =
    or_right (test (byte ∷ (run ++ rest))) (not (is_slash byte) && starred test (run ++ rest))
    (and_from (not (is_slash byte)) (starred test (run ++ rest)) (is_no_slash byte name.0) (starred-append test run rest name.1 h))

later-true : (test : List ℕ → Bool) (path : List ℕ) → later test path ≡ true
    → (folders : List ℕ) × ((rest : List ℕ) × ((path ≡ folders ++ 47 ∷ rest) × (test rest ≡ true)))
later-true test [] h = absurd (false≢true h)
later-true test (byte ∷ path) h =
    elim (or_cases (is_slash byte && test path) (later test path) h) [
      | inl e ↦
          let p = and_parts (is_slash byte) (test path) e in
          ([], (path, (ap (λ b. b ∷ path) (eqb-true byte 47 p.0), p.1)))
      | inr e ↦
          let r = later-true test path e in
          (byte ∷ r.0, (r.1.0, (ap (λ l. byte ∷ l) r.1.1.0, r.1.1.1)))
    ]

later-append : (test : List ℕ → Bool) (folders rest : List ℕ) → test rest ≡ true → later test (folders ++ 47 ∷ rest) ≡ true
later-append test [] rest h = or_left (test rest) (later test rest) h
later-append test (byte ∷ folders) rest h =
    or_right (is_slash byte && test (folders ++ 47 ∷ rest)) (later test (folders ++ 47 ∷ rest)) (later-append test folders rest h)

-- where the test passes, the pieces match
pub can-true : (pieces : List Piece) (path : List ℕ) → can pieces path ≡ true → Matches pieces path
can-true [] path h = is_end-true path h
can-true (Byte byte ∷ more) [] h = absurd (false≢true h)
can-true (Byte byte ∷ more) (b ∷ rest) h =
    let p = and_parts (eqb b byte) (can more rest) h in
    (rest, (ap (λ x. x ∷ rest) (eqb-true b byte p.0), can-true more rest p.1))
can-true (One ∷ more) [] h = absurd (false≢true h)
can-true (One ∷ more) (b ∷ rest) h =
    let p = and_parts (not (is_slash b)) (can more rest) h in
    (b, (rest, (refl, (no_slash b p.0, can-true more rest p.1))))
can-true (Among class ∷ more) [] h = absurd (false≢true h)
can-true (Among class ∷ more) (b ∷ rest) h =
    let p = and_parts (not (is_slash b) && holds class b) (can more rest) h in
    let q = and_parts (not (is_slash b)) (holds class b) p.0 in
    (b, (rest, (refl, (no_slash b q.0, (q.1, can-true more rest p.1)))))
can-true (Star ∷ more) path h =
    let r = starred-true (can more) path h in
    (r.0, (r.1.0, (r.1.1.0, (r.1.1.1.0, can-true more r.1.0 r.1.1.1.1))))
can-true (Folders ∷ more) path h =
    elim (or_cases (can more path) (later (can more) path) h) [
      | inl e ↦ inl (can-true more path e)
      | inr e ↦
          let r = later-true (can more) path e in
          inr (r.0, (r.1.0, (r.1.1.0, can-true more r.1.0 r.1.1.1)))
    ]
can-true (Everything ∷ more) path h = tt
can-true (Nothing ∷ more) path h = false≢true h

-- where the pieces match, the test passes
pub can_from : (pieces : List Piece) (path : List ℕ) → Matches pieces path → can pieces path ≡ true
can_from [] path m = ap is_end m
can_from (Byte byte ∷ more) path m =
    ap (can (Byte byte ∷ more)) m.1.0 ∙ and_from (eqb byte byte) (can more m.0) (eq-eqb byte byte refl) (can_from more m.0 m.1.1)
can_from (One ∷ more) path m =
    ap (can (One ∷ more)) m.1.1.0 ∙ and_from (not (is_slash m.0)) (can more m.1.0) (is_no_slash m.0 m.1.1.1.0) (can_from more m.1.0 m.1.1.1.1)
can_from (Among class ∷ more) path m =
    ap (can (Among class ∷ more)) m.1.1.0
    ∙ and_from (not (is_slash m.0) && holds class m.0) (can more m.1.0)
    (and_from (not (is_slash m.0)) (holds class m.0) (is_no_slash m.0 m.1.1.1.0) m.1.1.1.1.0)
    (can_from more m.1.0 m.1.1.1.1.1)
can_from (Star ∷ more) path m =
    ap (starred (can more)) m.1.1.0 ∙ starred-append (can more) m.0 m.1.0 m.1.1.1.0 (can_from more m.1.0 m.1.1.1.1)
can_from (Folders ∷ more) path m =
    elim m [
      | inl e ↦ or_left (can more path) (later (can more) path) (can_from more path e)
      | inr e ↦
          or_right (can more path) (later (can more) path)
          (ap (later (can more)) e.1.1.0 ∙ later-append (can more) e.0 e.1.0 (can_from more e.1.0 e.1.1.1))
    ]
can_from (Everything ∷ more) path m = refl
can_from (Nothing ∷ more) path m = absurd m

-- the answer of a match
pub can_iff : (pieces : List Piece) (path : List ℕ) → (can pieces path ≡ true) ↔ Matches pieces path
can_iff pieces path = (can-true pieces path, can_from pieces path)
